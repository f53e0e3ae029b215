-- The parts of a dossier stand where its spans say: what the passes behind use.
use mathlib.Core.Path.{◌≡◌, refl, sym, ap, ◌∙◌}
use mathlib.Core.List.{List, [], ◌∷◌, ◌++◌, append_assoc}
use Prim.Native.Nat.{ℕ, suc, ◌+◌, ◌-◌, ◌*◌, ◌≤◌}
use native.Mathlib.Omega.{arith}
use lib.ListN.{length, take, drop, get_or, length-append, take-append-drop}
use lib.Seq.{take-append_seam, drop-append_seam, take-add}
use Rattle.form.specs.Tree.{Pred, declarations, State, Operation, Dossier}
use Rattle.form.specs.Headings.{abstract_at, concrete_at, ainit_at, cinit_at, retrieve_at, operations_at, operation_length}
use Rattle.form.specs.Codes.{node, Numbering, number_of_name, pred_codes, declaration_codes, parameter_codes, condition_codes, state_codes, operation_codes, abstractly_at, pred_width, dossier_codes}
use Rattle.lexical.specs.Symbols.{no_ending}
use Rattle.parser.specs.Sections.{abstract_from, concrete_from, ainit_from, cinit_from, retrieve_from, operations_from}
use Rattle.parser.proofs.ItemNodes.{Split, split-first, split-next, split-as, split_at, split-length}
use Rattle.parser.proofs.PartPlaces.{from_operations, from_retrieve, from_cinit, from_ainit, from_concrete, at-abstract, at-operations}
use Rattle.node_spans.specs.Spans.{operation_spans, spans_of, Stands, PredAt, span, HeadingAt, OperationsAt, no_more, one_more, predicate_at, StateAt, Structured}

-- more numbers behind all
pub split-longer : {c t q : List ℕ} {n : ℕ} (z : List ℕ) → t ≡ c ++ z → Split c n q → Split t n (q ++ z)
split-longer {q = q} z e s =
    record { front = s.front; whole = e ∙ ap (λ (l : List ℕ). l ++ z) s.whole ∙ append_assoc s.front q z; long = s.long }

longer : {c t : List ℕ} {n : ℕ} (x q z : List ℕ) → t ≡ c ++ z → Split c n (x ++ q) → Split t n (x ++ (q ++ z))
longer x q z e s = split-as (append_assoc x q z) (split-longer z e s)

pub split-move : {c q : List ℕ} {n k : ℕ} → n ≡ k → Split c n q → Split c k q
split-move e s = record { front = s.front; whole = s.whole; long = s.long ∙ e }

pub stand : {c : List ℕ} {n : ℕ} (x q : List ℕ) → Split c n (x ++ q) → (from to : ℕ) → from ≡ n → to ≡ n + length x → Stands c from to x
stand {c} x q s from to e f =
    let l = split-length s in
    let k = length-append x q in
    let h : to - from ≡ length x = omega arith in
    let g : drop from c ≡ x ++ q =
    ap (λ (i : ℕ). drop i c) (e ∙ sym s.long) ∙ ap (λ (w : List ℕ). drop (length s.front) w) s.whole ∙ drop-append_seam s.front (x ++ q) in
    record {
      ordered = omega arith;
      inside = omega arith;
      stands = ap (λ (i : ℕ). take i (drop from c)) h ∙ ap (λ (w : List ℕ). take (length x) w) g ∙ take-append_seam x q;
    }

pub pred-at : {c : List ℕ} {n : ℕ} (i : ℕ) (p : Pred) (ρ : Numbering) (q : List ℕ) → Split c n (condition_codes i p ρ ++ q) → (from to : ℕ) → from ≡ n → to ≡ n + length (condition_codes i p ρ)
    → PredAt c from to i p ρ
unfolding condition_codes
pred-at {c} {n} i p ρ q s from to e f =
    let P : List ℕ = pred_codes p i ρ in
    let u : Split c (n + 4) (P ++ q) = split-next (node 7 i (length P) 0) (P ++ q) s in
    let t : Stands c (from + 4) to P = stand P q u (from + 4) to (omega arith) (omega arith) in
    let o = t.ordered in
    let h : to ≡ from + 4 + (to - (from + 4)) = omega arith in
    record {
      ordered = o;
      inside = t.inside;
      stands = ap (λ (j : ℕ). take j c) h ∙ take-add (from + 4) (to - (from + 4)) c ∙ ap (λ (l : List ℕ). take (from + 4) c ++ l) t.stands;
    }

pub heading-at : {c q : List ℕ} {n k i a b : ℕ} → Split c n (node k i a b ++ q) → (from : ℕ) → from ≡ n + 4 → HeadingAt c from i
heading-at {c} {n = n} s from e =
    let h : from - 4 + 2 ≡ n + 2 = omega arith in
    record { behind = omega arith; place = ap (λ (j : ℕ). get_or c j 0) h ∙ split_at s 2 }

pub state-stands : {c spans : List ℕ} {n : ℕ} (k i : ℕ) (s : State) (ρ : Numbering) (q : List ℕ) → Split c n (state_codes i s ρ ++ q) → span spans k ≡ n + 4
    → span spans (k + 1) ≡ n + 4 + length (declaration_codes (suc i) (declarations s) ρ) → span spans (k + 2) ≡ n + length (state_codes i s ρ) → StateAt c spans k i s ρ
unfolding state_codes
state-stands {c} {spans} {n} k i s ρ q w e₀ e₁ e₂ =
    let D : List ℕ = declaration_codes (suc i) (declarations s) ρ in
    let C : List ℕ = condition_codes (predicate_at i s) s.predicate ρ in
    let u : Split c (n + 4) (D ++ (C ++ q)) = split-as (append_assoc D C q) (split-next (node 5 i 0 0) ((D ++ C) ++ q) w) in
    let v : Split c (n + 4 + length D) (C ++ q) = split-next D (C ++ q) u in
    let l : length (D ++ C) ≡ length D + length C = length-append D C in
    record {
      heading = heading-at w (span spans k) e₀;
      variables = stand D (C ++ q) u (span spans k) (span spans (k + 1)) e₀ e₁;
      predicate = pred-at (predicate_at i s) s.predicate ρ q v (span spans (k + 1)) (span spans (k + 2)) e₁ (omega arith);
    }

-- the operation o, the k-th, from n on: what stands behind its heading, its parameters and its two predicates, and its numbers of the spans
pub record OneOperation (c spans : List ℕ) (ρ : Numbering) (n k i : ℕ) (o : Operation) : Type 0 where
  pub q₀ : List ℕ
  pub q₁ : List ℕ
  pub q₂ : List ℕ
  pub q₃ : List ℕ
  pub titled : Split c n (node 8 i (number_of_name ρ o.title no_ending) 0 ++ q₀)
  pub declared : Split c (n + 4) (parameter_codes (i + 2) o.parameters ρ ++ q₁)
  pub abstractly : Split c (n + 4 + length (parameter_codes (i + 2) o.parameters ρ)) (condition_codes (abstractly_at i o) o.abstractly ρ ++ q₂)
  pub concretely : Split c (n + 4 + length (parameter_codes (i + 2) o.parameters ρ) + length (condition_codes (abstractly_at i o) o.abstractly ρ)) (condition_codes (suc (abstractly_at i o) + pred_width o.abstractly) o.concretely ρ ++ q₃)
  pub s₀ : span spans (9 + 4 * k) ≡ n + 4
  pub s₁ : span spans (9 + 4 * k + 1) ≡ n + 4 + length (parameter_codes (i + 2) o.parameters ρ)
  pub s₂ : span spans (9 + 4 * k + 2) ≡ n + 4 + length (parameter_codes (i + 2) o.parameters ρ) + length (condition_codes (abstractly_at i o) o.abstractly ρ)
  pub s₃ : span spans (9 + 4 * k + 3) ≡ n + 4 + length (parameter_codes (i + 2) o.parameters ρ) + length (condition_codes (abstractly_at i o) o.abstractly ρ) + length (condition_codes (suc (abstractly_at i o) + pred_width o.abstractly) o.concretely ρ)

-- what holds of no operations, and of one in front of those that it holds of, holds of all
pub each-operation : {c spans : List ℕ} (ρ : Numbering) (z y : List ℕ) (Q : (k : ℕ) → (i : ℕ) → List Operation → Type 0) → ((k i : ℕ) → Q k i [])
    → ((n k i : ℕ) (o : Operation) (os : List Operation) → OneOperation c spans ρ n k i o → Q (suc k) (i + operation_length o) os → Q k i (o ∷ os))
    → (n k i : ℕ) (os : List Operation) → Split c n (operation_codes i os ρ ++ z) → Split spans (9 + 4 * k) (operation_spans n i os ρ ++ y) → Q k i os
unfolding operation_codes operation_spans
each-operation ρ z y Q start more n k i [] w s = start k i
each-operation {c} {spans} ρ z y Q start more n k i (o ∷ os) w s =
    let j : ℕ = abstractly_at i o in
    let P : List ℕ = parameter_codes (i + 2) o.parameters ρ in
    let A : List ℕ = condition_codes j o.abstractly ρ in
    let C : List ℕ = condition_codes (suc j + pred_width o.abstractly) o.concretely ρ in
    let R : List ℕ = operation_codes (i + operation_length o) os ρ in
    let b : ℕ = n + 4 + length P in
    let e : ℕ = b + length A in
    let f : ℕ = e + length C in
    let g : (P ++ (A ++ (C ++ R))) ++ z ≡ P ++ (A ++ (C ++ (R ++ z))) =
    append_assoc P (A ++ (C ++ R)) z
    ∙ ap (λ (l : List ℕ). P ++ l) (append_assoc A (C ++ R) z ∙ ap (λ (l : List ℕ). A ++ l) (append_assoc C R z)) in
    let w₁ : Split c (n + 4) (P ++ (A ++ (C ++ (R ++ z)))) = split-as g (split-next (node 8 i (number_of_name ρ o.title no_ending) 0) ((P ++ (A ++ (C ++ R))) ++ z) w) in
    let w₂ : Split c b (A ++ (C ++ (R ++ z))) = split-next P (A ++ (C ++ (R ++ z))) w₁ in
    let w₃ : Split c e (C ++ (R ++ z)) = split-next A (C ++ (R ++ z)) w₂ in
    let w₄ : Split c f (R ++ z) = split-next C (R ++ z) w₃ in
    let S : List ℕ = operation_spans f (i + operation_length o) os ρ in
    let h : 9 + 4 * k + 0 ≡ 9 + 4 * k = omega arith in
    let s₄ : Split spans (9 + 4 * k + 4) (S ++ y) = split-next ((n + 4) ∷ b ∷ e ∷ f ∷ []) (S ++ y) s in
    more n k i o os
    (record {
      q₀ = (P ++ (A ++ (C ++ R))) ++ z;
      q₁ = A ++ (C ++ (R ++ z));
      q₂ = C ++ (R ++ z);
      q₃ = R ++ z;
      titled = w;
      declared = w₁;
      abstractly = w₂;
      concretely = w₃;
      s₀ = ap (λ (x : ℕ). get_or spans x 0) (sym h) ∙ split_at s 0;
      s₁ = split_at s 1;
      s₂ = split_at s 2;
      s₃ = split_at s 3;
    })
    (each-operation ρ z y Q start more f (suc k) (i + operation_length o) os w₄ (split-move (omega arith) s₄))

pub operations-stand : {c spans : List ℕ} (n k i : ℕ) (os : List Operation) (ρ : Numbering) (z y : List ℕ) → Split c n (operation_codes i os ρ ++ z)
    → Split spans (9 + 4 * k) (operation_spans n i os ρ ++ y) → OperationsAt c spans ρ k i os
operations-stand {c} {spans} n k i os ρ z y =
    each-operation ρ z y (OperationsAt c spans ρ) (λ k i. no_more)
    (λ n k i o os w t. one_more
    (record {
      heading = heading-at w.titled (span spans (9 + 4 * k)) w.s₀;
      parameters = stand (parameter_codes (i + 2) o.parameters ρ) w.q₁ w.declared (span spans (9 + 4 * k)) (span spans (9 + 4 * k + 1)) w.s₀ w.s₁;
      abstractly = pred-at (abstractly_at i o) o.abstractly ρ w.q₂ w.abstractly (span spans (9 + 4 * k + 1)) (span spans (9 + 4 * k + 2)) w.s₁ w.s₂;
      concretely = pred-at (suc (abstractly_at i o) + pred_width o.abstractly) o.concretely ρ w.q₃ w.concretely (span spans (9 + 4 * k + 2)) (span spans (9 + 4 * k + 3)) w.s₂ w.s₃;
    })
    t)
    n k i os

-- the conditions and the operations of a dossier among its nodes
module _ (d : Dossier) (ρ : Numbering) where
  abbrev codes : List ℕ
  codes = dossier_codes d ρ

  pub at-concrete : Split codes (concrete_from d ρ) (from_concrete d ρ)
  unfolding concrete_from
  at-concrete = split-next (state_codes (abstract_at d) d.abstract ρ) (from_concrete d ρ) (at-abstract d ρ)

  pub at-ainit : Split codes (ainit_from d ρ) (from_ainit d ρ)
  unfolding ainit_from
  at-ainit = split-next (state_codes (concrete_at d) d.concrete ρ) (from_ainit d ρ) at-concrete

  pub at-cinit : Split codes (cinit_from d ρ) (from_cinit d ρ)
  unfolding cinit_from
  at-cinit = split-next (condition_codes (ainit_at d + 2) d.ainit ρ) (from_cinit d ρ) at-ainit

  pub at-retrieve : Split codes (retrieve_from d ρ) (from_retrieve d ρ)
  unfolding retrieve_from
  at-retrieve = split-next (condition_codes (cinit_at d + 2) d.cinit ρ) (from_retrieve d ρ) at-cinit

pub structured : (d : Dossier) (ρ : Numbering) (nodes spans : List ℕ) (m : ℕ) → m ≤ length nodes → take m nodes ≡ dossier_codes d ρ → (rest : List ℕ) → spans ≡ spans_of d ρ ++ rest
    → Structured nodes spans (length d.operations) d ρ
unfolding spans_of concrete_from ainit_from cinit_from retrieve_from operations_from
structured d ρ nodes spans m l e rest g =
    let z : List ℕ = drop m nodes in
    let w : nodes ≡ dossier_codes d ρ ++ z = sym (take-append-drop m nodes) ∙ ap (λ (x : List ℕ). x ++ z) e in
    let S : List ℕ = operation_spans (operations_from d ρ) (operations_at d) d.operations ρ in
    let abstract_declared : List ℕ = declaration_codes (suc (abstract_at d)) (declarations d.abstract) ρ in
    let concrete_declared : List ℕ = declaration_codes (suc (concrete_at d)) (declarations d.concrete) ρ in
    let s₀ : span spans 0 ≡ abstract_from d ρ + 4 = ap (λ (x : List ℕ). get_or x 0 0) g in
    let s₁ : span spans 1 ≡ abstract_from d ρ + 4 + length abstract_declared = ap (λ (x : List ℕ). get_or x 1 0) g in
    let s₂ : span spans 2 ≡ concrete_from d ρ = ap (λ (x : List ℕ). get_or x 2 0) g in
    let s₃ : span spans 3 ≡ concrete_from d ρ + 4 = ap (λ (x : List ℕ). get_or x 3 0) g in
    let s₄ : span spans 4 ≡ concrete_from d ρ + 4 + length concrete_declared = ap (λ (x : List ℕ). get_or x 4 0) g in
    let s₅ : span spans 5 ≡ ainit_from d ρ = ap (λ (x : List ℕ). get_or x 5 0) g in
    let s₆ : span spans 6 ≡ cinit_from d ρ = ap (λ (x : List ℕ). get_or x 6 0) g in
    let s₇ : span spans 7 ≡ retrieve_from d ρ = ap (λ (x : List ℕ). get_or x 7 0) g in
    let s₈ : span spans 8 ≡ operations_from d ρ = ap (λ (x : List ℕ). get_or x 8 0) g in
    let nine : List ℕ =
    (abstract_from d ρ + 4) ∷ (abstract_from d ρ + 4 + length abstract_declared) ∷ concrete_from d ρ ∷ (concrete_from d ρ + 4)
    ∷ (concrete_from d ρ + 4 + length concrete_declared) ∷ ainit_from d ρ ∷ cinit_from d ρ ∷ retrieve_from d ρ ∷ operations_from d ρ ∷ [] in
    let s₉ : Split spans 9 (S ++ rest) = split-first nine (S ++ rest) g in
    record {
      counted = refl;
      abstract = state-stands 0 (abstract_at d) d.abstract ρ _ (longer (state_codes (abstract_at d) d.abstract ρ) (from_concrete d ρ) z w (at-abstract d ρ)) s₀ s₁ s₂;
      concrete = state-stands 3 (concrete_at d) d.concrete ρ _ (longer (state_codes (concrete_at d) d.concrete ρ) (from_ainit d ρ) z w (at-concrete d ρ)) s₃ s₄ s₅;
      ainit = pred-at (ainit_at d + 2) d.ainit ρ _ (longer (condition_codes (ainit_at d + 2) d.ainit ρ) (from_cinit d ρ) z w (at-ainit d ρ)) (span spans 5) (span spans 6) s₅ s₆;
      cinit = pred-at (cinit_at d + 2) d.cinit ρ _ (longer (condition_codes (cinit_at d + 2) d.cinit ρ) (from_retrieve d ρ) z w (at-cinit d ρ)) (span spans 6) (span spans 7) s₆ s₇;
      retrieve = pred-at (retrieve_at d + 2) d.retrieve ρ _ (longer (condition_codes (retrieve_at d + 2) d.retrieve ρ) (from_operations d ρ) z w (at-retrieve d ρ)) (span spans 7) (span spans 8) s₇ s₈;
      operations = operations-stand (operations_from d ρ) 0 (operations_at d) d.operations ρ z rest (split-longer z w (at-operations d ρ)) s₉;
    }
