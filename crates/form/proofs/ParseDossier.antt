-- Reading the symbols of a grouped dossier gives that dossier back, so symbols are those of one dossier at most.
use mathlib.Core.Path.{◌≡◌, refl, sym, ap, ◌∙◌}
use mathlib.Core.List.{List, [], ◌∷◌}
use Prim.Native.Nat.{ℕ, zero, suc, ◌+◌, ◌*◌, ◌≤◌, ◌<◌}
use native.Mathlib.Omega.{arith}
use lib.ListN.{length, drop}
use Rattle.lexical.specs.Kinds as kind
use Rattle.lexical.specs.Kinds.{is, code_of}
use Rattle.lexical.specs.Symbols.{no_ending, Symbol, fixed}
use Rattle.form.specs.Tree.{Pred, State, Operation, Dossier}
use Rattle.form.specs.Written.{a_given, a_variable, an_operation, Written, bare, write_type, write_pred, write_entries, write_givens, write_declarations, write_where, write_state}
use Rattle.form.specs.Written.{write_parameters, write_operations, write_contents, written, symbols_of}
use Rattle.form.specs.Form.{kind_at, PredGrouped, OperationsGrouped, Grouped, Whole}
use Rattle.form.specs.Parse.{got, parse_pred, parse_entries, parse_givens, parse_where, parse_state, parse_operations, parse_dossier}
use Rattle.form.proofs.Takes.{symbols_in}
use Rattle.form.proofs.ParseSteps.{first_of}
use Rattle.form.proofs.ParseStarts.{PredEnds, end-ends, concrete_ends}
use Rattle.form.proofs.ParsePreds.{reads-whole-pred}
use Rattle.form.proofs.ParseTrees.{pred-read}
use Rattle.form.proofs.ParseParts.{type-fits, reads-declaration, entries_fit, reads-entries, givens-fit, reads-givens, declarations-fit, reads-declarations, parameters-fit, reads-parameters}

-- a grouped predicate of a body, and that it is not shorter than what stands behind it
pred_fits : (p : Pred) → PredGrouped p → (w : List Written) → length (symbols_in w) ≤ length (symbols_in (write_pred p 0 0 w))
pred_fits p g w = omega (arith, (pred-read p g).fits 0 0 w)

reads-body : (p : Pred) → PredGrouped p → (f : ℕ) (w : List Written) → PredEnds 1 (first_of (symbols_in w)) → 2 * length (symbols_in (write_pred p 0 0 w)) ≤ f
    → parse_pred f 1 (symbols_in (write_pred p 0 0 w)) ≡ got p (symbols_in w)
reads-body p g f w e b = reads-whole-pred p (pred-read p g) f 0 0 w e (omega (arith, (pred-read p g).fits 0 0 w))

-- `where predicate end`
where-fits : (p : Pred) → PredGrouped p → (w : List Written) → length (symbols_in w) < length (symbols_in (write_where p w))
unfolding write_where
where-fits p g w = omega (arith, pred_fits p g (bare kind.END ∷ w))

reads-where : (p : Pred) → PredGrouped p → (f : ℕ) (s : Symbol) (w : List Written) → 2 * length (symbols_in (write_where p w)) ≤ f
    → parse_where f (s ∷ symbols_in (write_where p w)) ≡ got p (symbols_in w)
unfolding parse_where write_where
reads-where p g f s w b = rw (parse_where, reads-body p g f (bare kind.END ∷ w) end-ends (omega arith))

-- a state's body
state-fits : (s : State) → PredGrouped s.predicate → (w : List Written) → length (symbols_in w) < length (symbols_in (write_state s w))
unfolding write_state
state-fits s g w = omega (arith, declarations-fit 0 (s.first_declaration ∷ s.other_declarations) (write_where s.predicate w), where-fits s.predicate g w)

reads-state : (s : State) → PredGrouped s.predicate → (f : ℕ) (x : Symbol) (w : List Written) → 2 * length (symbols_in (write_state s w)) ≤ f
    → parse_state f (x ∷ symbols_in (write_state s w)) ≡ got s (symbols_in w)
unfolding parse_state write_state write_declarations write_where is code_of
reads-state s g f x w b =
    let v : List Written = write_where s.predicate w in
    let u : List Written = write_declarations 1 s.other_declarations v in
    let i : length (symbols_in u) < length (symbols_in (write_type s.first_declaration.type (bare kind.semicolon ∷ u)))
    = type-fits s.first_declaration.type (bare kind.semicolon ∷ u) in
    let j : length (symbols_in v) ≤ length (symbols_in u) = declarations-fit 1 s.other_declarations v in
    rw (
      parse_state,
      reads-declaration s.first_declaration.declared no_ending (a_variable 1) s.first_declaration.type u,
      reads-declarations 1 f s.other_declarations v refl (omega arith),
      reads-body s.predicate g f (bare kind.END ∷ w) end-ends (omega arith),
    )

-- operations, up to the end
reads-operations : (os : List Operation) → OperationsGrouped os → (n f i : ℕ) → length (symbols_in (write_operations n os [])) ≤ f
    → 2 * length (symbols_in (write_operations n os [])) ≤ i → parse_operations f i (symbols_in (write_operations n os [])) ≡ os
unfolding parse_operations write_operations OperationsGrouped is code_of kind_at
reads-operations [] g n zero i b c = refl
reads-operations [] g n (suc f) i b c = refl
reads-operations (o ∷ os) g n zero i b c = absurd (omega arith)
reads-operations (o ∷ os) g n (suc f) i b c =
    let w : List Written = bare kind.END ∷ write_operations (suc n) os [] in
    let v : List Written = bare kind.CONCRETE ∷ write_pred o.concretely 0 0 w in
    let u : List Written = bare kind.ABSTRACT ∷ write_pred o.abstractly 0 0 v in
    let h : length (symbols_in u) ≤ length (symbols_in (write_parameters 0 0 o.parameters u)) = parameters-fit 0 0 o.parameters u in
    let j : length (symbols_in v) ≤ length (symbols_in (write_pred o.abstractly 0 0 v)) = pred_fits o.abstractly g.0 v in
    let k : length (symbols_in w) ≤ length (symbols_in (write_pred o.concretely 0 0 w)) = pred_fits o.concretely g.1 w in
    rw (
      parse_operations,
      reads-parameters 0 0 i o.parameters (write_pred o.abstractly 0 0 v) (omega arith),
      reads-body o.abstractly g.0 i v concrete_ends (omega arith),
      reads-body o.concretely g.1 i w end-ends (omega arith),
      reads-operations os g.2 (suc n) f i (omega arith) (omega arith),
    )

-- the parts of a dossier, read one after the other
reads-parts : (f : ℕ) (d : Dossier) (w w₁ w₂ w₃ w₄ w₅ w₆ w₇ w₈ : List Symbol) → parse_entries f kind.GIVEN (drop 1 w) ≡ got d.given_entries w₁
    → parse_entries f kind.OP (drop 5 w₁) ≡ got d.operation_entries w₂ → parse_givens f (drop 1 w₂) ≡ got d.givens w₃ → parse_state f w₃ ≡ got d.abstract w₄
    → parse_state f w₄ ≡ got d.concrete w₅ → parse_where f w₅ ≡ got d.ainit w₆ → parse_where f w₆ ≡ got d.cinit w₇ → parse_where f w₇ ≡ got d.retrieve w₈
    → parse_operations f f w₈ ≡ d.operations → parse_dossier f w ≡ d
unfolding parse_dossier
reads-parts f d w w₁ w₂ w₃ w₄ w₅ w₆ w₇ w₈ e₁ e₂ e₃ e₄ e₅ e₆ e₇ e₈ e₉ = rw (parse_dossier, e₁, e₂, e₃, e₄, e₅, e₆, e₇, e₈, e₉)

-- reading the symbols of a grouped dossier gives it back
parse-written : (d : Dossier) → Grouped d → (f : ℕ) → 2 * length (symbols_in (written d)) ≤ f → parse_dossier f (symbols_in (written d)) ≡ d
unfolding written write_contents is code_of
parse-written d g f b =
    let s₈ : List Written = write_operations 0 d.operations [] in
    let s₇ : List Written = write_where d.retrieve s₈ in
    let s₆ : List Written = write_where d.cinit (bare kind.RETRIEVE ∷ s₇) in
    let s₅ : List Written = write_where d.ainit (bare kind.CINIT ∷ s₆) in
    let s₄ : List Written = write_state d.concrete (bare kind.AINIT ∷ s₅) in
    let s₃ : List Written = write_state d.abstract (bare kind.CONCRETE ∷ s₄) in
    let s₂ : List Written = write_givens 0 d.givens (bare kind.ABSTRACT ∷ s₃) in
    let s₁ : List Written = write_entries kind.OP an_operation 0 d.operation_entries (bare kind.END ∷ s₂) in
    let s₀ : List Written = bare kind.ABSTRACT ∷ bare kind.CONCRETE ∷ bare kind.AINIT ∷ bare kind.CINIT ∷ bare kind.RETRIEVE ∷ s₁ in
    let h₀ : length (symbols_in s₀) ≤ length (symbols_in (write_entries kind.GIVEN a_given 0 d.given_entries s₀)) = entries_fit kind.GIVEN a_given 0 d.given_entries s₀ in
    let h₁ : length (symbols_in s₂) < length (symbols_in s₁) = entries_fit kind.OP an_operation 0 d.operation_entries (bare kind.END ∷ s₂) in
    let h₂ : length (symbols_in s₃) < length (symbols_in s₂) = givens-fit 0 d.givens (bare kind.ABSTRACT ∷ s₃) in
    let h₃ : 1 + length (symbols_in s₄) < length (symbols_in s₃) = omega (arith, state-fits d.abstract g.abstract (bare kind.CONCRETE ∷ s₄)) in
    let h₄ : 1 + length (symbols_in s₅) < length (symbols_in s₄) = omega (arith, state-fits d.concrete g.concrete (bare kind.AINIT ∷ s₅)) in
    let h₅ : 1 + length (symbols_in s₆) < length (symbols_in s₅) = omega (arith, where-fits d.ainit g.ainit (bare kind.CINIT ∷ s₆)) in
    let h₆ : 1 + length (symbols_in s₇) < length (symbols_in s₆) = omega (arith, where-fits d.cinit g.cinit (bare kind.RETRIEVE ∷ s₇)) in
    let h₇ : length (symbols_in s₈) < length (symbols_in s₇) = where-fits d.retrieve g.retrieve s₈ in
    reads-parts f d _ (symbols_in s₀) (symbols_in (bare kind.END ∷ s₂)) (symbols_in (bare kind.ABSTRACT ∷ s₃)) (symbols_in (bare kind.CONCRETE ∷ s₄))
    (symbols_in (bare kind.AINIT ∷ s₅)) (symbols_in (bare kind.CINIT ∷ s₆)) (symbols_in (bare kind.RETRIEVE ∷ s₇)) (symbols_in s₈)
    (reads-entries kind.GIVEN a_given 0 f d.given_entries s₀ refl refl (omega arith))
    (reads-entries kind.OP an_operation 0 f d.operation_entries (bare kind.END ∷ s₂) refl refl (omega arith))
    (reads-givens 0 f d.givens (bare kind.ABSTRACT ∷ s₃) refl (omega arith))
    (reads-state d.abstract g.abstract f (fixed kind.ABSTRACT) (bare kind.CONCRETE ∷ s₄) (omega arith))
    (reads-state d.concrete g.concrete f (fixed kind.CONCRETE) (bare kind.AINIT ∷ s₅) (omega arith))
    (reads-where d.ainit g.ainit f (fixed kind.AINIT) (bare kind.CINIT ∷ s₆) (omega arith))
    (reads-where d.cinit g.cinit f (fixed kind.CINIT) (bare kind.RETRIEVE ∷ s₇) (omega arith))
    (reads-where d.retrieve g.retrieve f (fixed kind.RETRIEVE) s₈ (omega arith))
    (reads-operations d.operations g.operations 0 f f (omega arith) (omega arith))

-- symbols that are a dossier's are read as it
pub parse-whole : (w : List Symbol) (d : Dossier) → Whole w d → parse_dossier (4 * length w + 4) w ≡ d
unfolding symbols_of
parse-whole w d h = ap (λ (v : List Symbol). parse_dossier (4 * length v + 4) v) (sym h.symbols) ∙ parse-written d h.grouped _ (omega arith)

-- so they are those of one dossier
pub one-dossier : (w : List Symbol) (d e : Dossier) → Whole w d → Whole w e → d ≡ e
one-dossier w d e h i = sym (parse-whole w d h) ∙ parse-whole w e i
