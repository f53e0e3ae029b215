-- The tables of a dossier's predicates stand at their places in the whole table, and the rows of their conjuncts fit into an array of its length.
use mathlib.Core.Path.{◌≡◌, refl, sym, ap, ◌∙◌, subst}
use mathlib.Core.List.{List, [], ◌∷◌, ◌++◌, append-nil}
use Prim.Native.Nat.{ℕ, suc, ◌+◌, ◌*◌, ◌≤◌}
use native.Mathlib.Omega.{arith}
use native.Mathlib.Nat.{le_refl}
use lib.ListN.{length, take, length-append}
use lib.Seq.{length-take-le}
use Rattle.form.specs.Tree.{Letters, Given, declarations, Operation, Dossier}
use Rattle.form.specs.Headings.{abstract_at, concrete_at, ainit_at, cinit_at, retrieve_at, operations_at, operation_length}
use Rattle.form.specs.Codes.{Numbering, declaration_codes, parameter_codes, condition_codes, operation_codes, abstractly_at, pred_width, dossier_codes}
use Rattle.static_rules.specs.Scope.{contexts, operation_contexts}
use Rattle.node_spans.specs.ParserSections.{abstract_from, concrete_from, ainit_from, cinit_from, retrieve_from, operations_from}
use Rattle.node_spans.proofs.ParserItemNodes.{Split, split-first, split-next, split_at, split-length}
use Rattle.node_spans.proofs.ParserPartPlaces.{at-operations}
use Rattle.node_spans.specs.Spans.{operation_spans, spans_of, span, predicate_at}
use Rattle.node_spans.proofs.Structure.{split-move}
use Rattle.table_places.specs.DossierTable.{operation_slots, slots_of, operation_starts, starts_of, with_carriers, declared, table_of}
use Rattle.search_groups.specs.Conjuncts.{context_rows}
use Rattle.search_groups.specs.GroupPromises.{Standing}
use Rattle.tables.proofs.StandingPieces.{carriers_grow, parameters-grow, Rising, risen, rise, all-stand, rows_fit}
use Rattle.node_spans.proofs.DeclaredLengths.{state-long}

declared-grows : (d : Dossier) (ρ : Numbering) (out : List ℕ) → length out ≤ length (declared d ρ out)
unfolding declared
declared-grows d ρ out =
    let gs : List Given = d.givens in
    let s : List ℕ = spans_of d ρ in
    let a : List ℕ = with_carriers gs (span s 0) (declarations d.abstract) out in
    let b : List ℕ = with_carriers gs (span s 3) (declarations d.concrete) a in
    let f = carriers_grow gs (span s 0) (declarations d.abstract) out in
    let g = carriers_grow gs (span s 3) (declarations d.concrete) a in
    let h = parameters-grow gs s 0 d.operations b in
    omega arith

-- the predicates of the operations from n on, by the spans of their parts
operations-rise : {end : ℕ} {spans : List ℕ} (d : Dossier) (ρ : Numbering) (n k i j : ℕ) (xs : List Letters) (os : List Operation) (y : List ℕ)
    → Split spans (9 + 4 * k) (operation_spans n i os ρ ++ y) → n + length (operation_codes i os ρ) ≤ end
    → Rising n end (operation_contexts d j xs os) (operation_slots d os) (operation_starts spans k os)
unfolding operation_spans operation_codes operation_contexts operation_slots operation_starts
operations-rise {end} d ρ n k i j xs [] y s h = let g : n ≤ end = omega arith in risen g
operations-rise {end} {spans} d ρ n k i j xs (o ∷ os) y s h =
    let m : ℕ = abstractly_at i o in
    let P : List ℕ = parameter_codes (i + 2) o.parameters ρ in
    let A : List ℕ = condition_codes m o.abstractly ρ in
    let C : List ℕ = condition_codes (suc m + pred_width o.abstractly) o.concretely ρ in
    let R : List ℕ = operation_codes (i + operation_length o) os ρ in
    let b : ℕ = n + 4 + length P in
    let e : ℕ = b + length A in
    let f : ℕ = e + length C in
    let S : List ℕ = operation_spans f (i + operation_length o) os ρ in
    let s₁ : span spans (9 + 4 * k + 1) ≡ b = split_at s 1 in
    let s₂ : span spans (9 + 4 * k + 2) ≡ e = split_at s 2 in
    let s₄ : Split spans (9 + 4 * k + 4) (S ++ y) = split-next ((n + 4) ∷ b ∷ e ∷ f ∷ []) (S ++ y) s in
    let l₁ = length-append P (A ++ (C ++ R)) in
    let l₂ = length-append A (C ++ R) in
    let l₃ = length-append C R in
    rise n b e m ρ _ _ _ _ _ _ (omega arith) (omega arith) refl
    (rise e e f (suc m + pred_width o.abstractly) ρ _ _ _ _ _ _ (omega arith) (omega arith) refl
    (operations-rise d ρ f (suc k) (i + operation_length o) (j + operation_length o) (o.title ∷ xs) os y (split-move (omega arith) s₄) (omega arith)))

-- the predicates of a dossier stand one behind the other among its nodes
dossier-rises : (d : Dossier) (ρ : Numbering) → Rising (abstract_from d ρ) (length (dossier_codes d ρ)) (contexts d) (slots_of d) (starts_of d ρ)
unfolding spans_of contexts slots_of starts_of concrete_from ainit_from cinit_from retrieve_from operations_from
dossier-rises d ρ =
    let D : List ℕ = declaration_codes (suc (abstract_at d)) (declarations d.abstract) ρ in
    let E : List ℕ = declaration_codes (suc (concrete_at d)) (declarations d.concrete) ρ in
    let a : ℕ = abstract_from d ρ + 4 + length D in
    let c : ℕ = concrete_from d ρ + 4 + length E in
    let S : List ℕ = operation_spans (operations_from d ρ) (operations_at d) d.operations ρ in
    let nine : List ℕ =
    (abstract_from d ρ + 4) ∷ a ∷ concrete_from d ρ ∷ (concrete_from d ρ + 4) ∷ c ∷ ainit_from d ρ ∷ cinit_from d ρ ∷ retrieve_from d ρ ∷ operations_from d ρ ∷ [] in
    let s : Split (spans_of d ρ) 9 (S ++ []) = split-first nine (S ++ []) (ap (λ (x : List ℕ). nine ++ x) (sym (append-nil S))) in
    let u = state-long (abstract_at d) d.abstract ρ in
    let v = state-long (concrete_at d) d.concrete ρ in
    let l = split-length (at-operations d ρ) in
    rise (abstract_from d ρ) a (concrete_from d ρ) (predicate_at (abstract_at d) d.abstract) ρ _ _ _ _ _ _ (omega arith) refl (omega arith)
    (rise (concrete_from d ρ) c (ainit_from d ρ) (predicate_at (concrete_at d) d.concrete) ρ _ _ _ _ _ _ (omega arith) refl (omega arith)
    (rise (ainit_from d ρ) (ainit_from d ρ) (cinit_from d ρ) (ainit_at d + 2) ρ _ _ _ _ _ _ (le_refl (ainit_from d ρ)) refl refl
    (rise (cinit_from d ρ) (cinit_from d ρ) (retrieve_from d ρ) (cinit_at d + 2) ρ _ _ _ _ _ _ (le_refl (cinit_from d ρ)) refl refl
    (rise (retrieve_from d ρ) (retrieve_from d ρ) (operations_from d ρ) (retrieve_at d + 2) ρ _ _ _ _ _ _ (le_refl (retrieve_from d ρ)) refl refl
    (operations-rise d ρ (operations_from d ρ) 0 (operations_at d) (operations_at d) _ d.operations [] s (omega arith))))))

-- each context's table stands at its place, if the array is as long as the nodes
pub standing : (d : Dossier) (ρ : Numbering) (nodes : List ℕ) (m : ℕ) → m ≤ length nodes → take m nodes ≡ dossier_codes d ρ → (out table : List ℕ) → m ≤ length out
    → table ≡ table_of d ρ out → Standing table (contexts d) (slots_of d) (starts_of d ρ)
unfolding table_of
standing d ρ nodes m h e out table l w =
    let n : length (dossier_codes d ρ) ≡ m = ap length (sym e) ∙ length-take-le m nodes h in
    let g = declared-grows d ρ out in
    subst (λ (t : List ℕ). Standing t (contexts d) (slots_of d) (starts_of d ρ)) (sym w) (all-stand (dossier-rises d ρ) (declared d ρ out) (omega arith))

-- the rows of all conjuncts have no more numbers than the nodes
pub rows_few : (d : Dossier) (ρ : Numbering) (nodes : List ℕ) (m : ℕ) → m ≤ length nodes → take m nodes ≡ dossier_codes d ρ → m ≤ 16384
    → length (context_rows (contexts d) (slots_of d) (starts_of d ρ)) ≤ 16384
rows_few d ρ nodes m h e l =
    let n : length (dossier_codes d ρ) ≡ m = ap length (sym e) ∙ length-take-le m nodes h in
    let r = rows_fit (dossier-rises d ρ) in
    omega arith
