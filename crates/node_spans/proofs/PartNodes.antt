-- The items of a dossier's nodes stand where its spans say: what the code finds.
use mathlib.Core.Path.{◌≡◌, refl, sym, subst}
use mathlib.Core.List.{List, [], ◌∷◌, ◌++◌, append_assoc}
use Prim.Native.Nat.{ℕ, suc, ◌+◌, ◌≤◌}
use native.Mathlib.Omega.{arith}
use lib.ListN.{length, take, drop, length-drop}
use lib.Seq.{length-take-le}
use borrow.Rule.Slice.PartMut.{put_mid}
use Rattle.form.specs.Tree.{declarations, State, Operation, Dossier}
use Rattle.form.specs.Headings.{abstract_at, concrete_at, operations_at, operation_length}
use Rattle.form.specs.Codes.{node, Numbering, number_of_name, declaration_codes, parameter_codes, condition_codes, state_codes, operation_codes, abstractly_at, pred_width, dossier_codes}
use Rattle.lexical.specs.Symbols.{no_ending}
use Rattle.parser.specs.Sections.{size_of, size_at, SectionsOf, abstract_from, concrete_from, operations_from}
use Rattle.parser.specs.declared.sections.Bounds.{Bounds}
use Rattle.parser.proofs.ItemNodes.{Split, split-next, split-as, split-length, size-here, items-run, declarations-items, parameters-items, condition-above, above, condition-at}
use Rattle.parser.proofs.PartPlaces.{from_concrete, from_ainit, at-abstract, at-operations, Laid, laid, of_array}
use Rattle.node_spans.specs.Spans.{operation_spans, spans_of, predicate_at, Spanned}
use Rattle.node_spans.specs.SpanPromises.{Filled, Three, Declared, StatePut, OperationsIn, no_operation, an_operation, Ahead, OperationsPut}
use Rattle.node_spans.proofs.SpanWrites.{part-fills}
use Rattle.node_spans.proofs.Structure.{at-concrete}

-- a state's heading and its declarations
pub state-declared : {c : List ℕ} {n : ℕ} (i : ℕ) (s : State) (ρ : Numbering) (q : List ℕ) → Split c n (state_codes i s ρ ++ q)
    → Declared c (length c) n (n + 4) (n + 4 + length (declaration_codes (suc i) (declarations s) ρ))
unfolding state_codes size_of
state-declared {c} {n} i s ρ q w =
    let D : List ℕ = declaration_codes (suc i) (declarations s) ρ in
    let C : List ℕ = condition_codes (predicate_at i s) s.predicate ρ in
    let u : Split c (n + 4) (D ++ (C ++ q)) = split-as (append_assoc D C q) (split-next (node 5 i 0 0) ((D ++ C) ++ q) w) in
    let z : size_at c n ≡ 4 = size-here w in
    let l : length c ≡ n + 4 + length (D ++ (C ++ q)) = split-length u in
    record {
      heading = record { room = omega arith; size = omega arith; inside = omega arith };
      declared = items-run (declarations-items (suc i) (declarations s) ρ) (C ++ q) u (above 7 6 6 (C ++ q) (condition-above (predicate_at i s) s.predicate ρ q) (omega arith));
    }

-- the operations, up to the end
pub operations_in : {c : List ℕ} (n i : ℕ) (os : List Operation) (ρ : Numbering) → Split c n (operation_codes i os ρ) → OperationsIn c (length c) n (operation_spans n i os ρ) (length os)
unfolding operation_codes operation_spans size_of
operations_in n i [] ρ w = let l = split-length w in no_operation {i = n} (omega arith)
operations_in {c} n i (o ∷ os) ρ w =
    let j : ℕ = abstractly_at i o in
    let P : List ℕ = parameter_codes (i + 2) o.parameters ρ in
    let A : List ℕ = condition_codes j o.abstractly ρ in
    let C : List ℕ = condition_codes (suc j + pred_width o.abstractly) o.concretely ρ in
    let R : List ℕ = operation_codes (i + operation_length o) os ρ in
    let b : ℕ = n + 4 + length P in
    let e : ℕ = b + length A in
    let f : ℕ = e + length C in
    let w₁ : Split c (n + 4) (P ++ (A ++ (C ++ R))) = split-next (node 8 i (number_of_name ρ o.title no_ending) 0) (P ++ (A ++ (C ++ R))) w in
    let w₂ : Split c b (A ++ (C ++ R)) = split-next P (A ++ (C ++ R)) w₁ in
    let w₃ : Split c e (C ++ R) = split-next A (C ++ R) w₂ in
    let w₄ : Split c f R = split-next C R w₃ in
    let z : size_at c n ≡ 4 = size-here w in
    let l : length c ≡ n + 4 + length (P ++ (A ++ (C ++ R))) = split-length w₁ in
    an_operation {i = n} {a = n + 4} {b = b} {e = e} {f = f}
    (record {
      parameters = record {
        heading = record { room = omega arith; size = omega arith; inside = omega arith };
        declared = items-run (parameters-items (i + 2) o.parameters ρ) (A ++ (C ++ R)) w₁ (above 7 6 6 (A ++ (C ++ R)) (condition-above j o.abstractly ρ (C ++ R)) (omega arith));
      };
      abstractly = condition-at j o.abstractly ρ (C ++ R) w₂;
      concretely = condition-at (suc j + pred_width o.abstractly) o.concretely ρ R w₃;
    })
    (operations_in f (i + operation_length o) os ρ w₄)

-- where the declarations of the two states end, and the operations
pub record Parts (d : Dossier) (ρ : Numbering) (t : List ℕ) (m : ℕ) : Type 0 where
  pub abstract : Declared t m (abstract_from d ρ) (abstract_from d ρ + 4) (abstract_from d ρ + 4 + length (declaration_codes (suc (abstract_at d)) (declarations d.abstract) ρ))
  pub concrete : Declared t m (concrete_from d ρ) (concrete_from d ρ + 4) (concrete_from d ρ + 4 + length (declaration_codes (suc (concrete_at d)) (declarations d.concrete) ρ))
  pub operations : OperationsIn t m (operations_from d ρ) (operation_spans (operations_from d ρ) (operations_at d) d.operations ρ) (length d.operations)

parts-nodes : (d : Dossier) (ρ : Numbering) → Parts d ρ (dossier_codes d ρ) (length (dossier_codes d ρ))
parts-nodes d ρ =
    record {
      abstract = state-declared (abstract_at d) d.abstract ρ (from_concrete d ρ) (at-abstract d ρ);
      concrete = state-declared (concrete_at d) d.concrete ρ (from_ainit d ρ) (at-concrete d ρ);
      operations = operations_in (operations_from d ρ) (operations_at d) d.operations ρ (at-operations d ρ);
    }

-- a part of three numbers
cut : (n : ℕ) (s : List ℕ) → length s ≡ 80 → n + 3 ≤ 80 → length (take 3 (drop n s)) ≡ 3
cut n s l h = length-take-le 3 (drop n s) (omega (arith, length-drop n s))

-- what the five functions wrote, one behind the other, is what the spans of the dossier are
pub spanned : {a : List ℕ} {m : ℕ} {s₀ s₁ s₂ s₃ s₄ p₁ p₂ p₃ : List ℕ} {r : ℕ} (x : Bounds)
    → ((d : Dossier) (ρ : Numbering) → m ≤ length a → take m a ≡ dossier_codes d ρ → SectionsOf d ρ x)
    → StatePut (take m a) m x.abstracts x.concretes (take 3 (drop 0 s₀)) p₁ → StatePut (take m a) m x.concretes x.ainit (take 3 (drop 3 s₁)) p₂
    → Three x.cinit x.retrieve x.operations (take 3 (drop 6 s₂)) p₃ → OperationsPut (take m a) m x.operations s₃ s₄ r
    → s₁ ≡ put_mid 0 3 s₀ p₁ → s₂ ≡ put_mid 3 3 s₁ p₂ → s₃ ≡ put_mid 6 3 s₂ p₃ → length s₀ ≡ 80 → length s₁ ≡ 80 → length s₂ ≡ 80 → Spanned a m s₀ s₄ r
unfolding spans_of
spanned {a} {m} {s₀} {s₁} {s₂} {s₃} {s₄} {p₁} {p₂} {p₃} {r} x y p q t o w₁ w₂ w₃ n₁ n₂ n₃ =
    record {
      few = o.few;
      exact =
          λ d ρ l e n h.
          let X : SectionsOf d ρ x = y d ρ l e in
          let L : Laid d ρ (take m a) m = laid d ρ a m l e in
          let Q : Parts d ρ (take m a) m = of_array (Parts d ρ) a m (dossier_codes d ρ) l e (parts-nodes d ρ) in
          let a₁ : ℕ = abstract_from d ρ + 4 in
          let a₂ : ℕ = a₁ + length (declaration_codes (suc (abstract_at d)) (declarations d.abstract) ρ) in
          let c₁ : ℕ = concrete_from d ρ + 4 in
          let c₂ : ℕ = c₁ + length (declaration_codes (suc (concrete_at d)) (declarations d.concrete) ρ) in
          let i₁ = L.concretes.inside in
          let i₂ = L.ainit.inside in
          let i₃ = L.cinit.inside in
          let i₄ = L.retrieve.inside in
          let i₅ = L.operations.inside in
          let e₁ = X.concretes in
          let e₂ = X.ainit in
          let e₃ = X.cinit in
          let e₄ = X.retrieve in
          let e₅ = X.operations in
          let Y : List ℕ = a₁ ∷ a₂ ∷ x.concretes ∷ [] in
          let Z : List ℕ = a₁ ∷ a₂ ∷ x.concretes ∷ c₁ ∷ c₂ ∷ x.ainit ∷ [] in
          let W : List ℕ = a₁ ∷ a₂ ∷ x.concretes ∷ c₁ ∷ c₂ ∷ x.ainit ∷ x.cinit ∷ x.retrieve ∷ x.operations ∷ [] in
          let S : List ℕ = operation_spans (operations_from d ρ) (operations_at d) d.operations ρ in
          let f₁ : Filled s₀ s₁ Y =
          part-fills w₁ (cut 0 s₀ n₁ (omega arith)) s₀ [] Y refl refl (record { filled = refl }) (p.fills a₁ a₂ h (omega arith) (subst (λ (i : ℕ). Declared (take m a) m i a₁ a₂) (sym X.abstracts) Q.abstract)) in
          let f₂ : Filled s₀ s₂ Z =
          part-fills w₂ (cut 3 s₁ n₂ (omega arith)) s₀ Y (c₁ ∷ c₂ ∷ x.ainit ∷ []) refl refl f₁ (q.fills c₁ c₂ h (omega arith) (subst (λ (i : ℕ). Declared (take m a) m i c₁ c₂) (sym e₁) Q.concrete)) in
          let f₃ : Filled s₀ s₃ W =
          part-fills w₃ (cut 6 s₂ n₃ (omega arith)) s₀ Z (x.cinit ∷ x.retrieve ∷ x.operations ∷ []) refl refl f₂ (t.fills (omega arith) (omega arith) (omega arith)) in
          let g : Ahead (take m a) m x.operations 0 s₃ s₀ (W ++ S) (length d.operations) =
          record {
            front = W;
            left = S;
            count = length d.operations;
            whole = refl;
            long = refl;
            sum = omega arith;
            rest = subst (λ (i : ℕ). OperationsIn (take m a) m i S (length d.operations)) (sym e₅) Q.operations;
            written = f₃;
          } in
          let k : W ++ S ≡ spans_of d ρ = λ i. a₁ ∷ a₂ ∷ e₁ i ∷ c₁ ∷ c₂ ∷ e₂ i ∷ e₃ i ∷ e₄ i ∷ e₅ i ∷ S in
          let f₄ : Filled s₀ s₄ (spans_of d ρ) = subst (λ (w : List ℕ). Filled s₀ s₄ w) k (o.fills s₀ (W ++ S) (length d.operations) h n g) in
          (o.counts s₀ (W ++ S) (length d.operations) h n g, f₄.filled);
    }
