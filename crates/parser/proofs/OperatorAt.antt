-- The operator, connective, relation, quantifier or arrow at a place, by its code or class.
use mathlib.Core.Path.{◌≡◌, refl, sym, subst}
use mathlib.Core.Bool.{Bool, true, false}
use mathlib.Core.List.{List}
use Prim.Native.Nat.{ℕ, ◌≤◌}
use native.Mathlib.Omega.{arith}
use lib.Dec.{eqb}
use lib.ListN.{get_or}
use borrow.Author.Tests.{eqb-true, eqb-false}
use Rattle.lexical.specs.Kinds as kind
use Rattle.lexical.specs.Kinds.{Kind, code_of, lookup}
use Rattle.lexical.specs.Symbols.{Symbol}
use Rattle.form.specs.Tree.{negate, size, dom, ran, Operator, plus, minus, union, without, times, inter, quotient, remainder}
use Rattle.form.specs.Tree.{Connective, and, or, implies, iff, forall, exists, exists1, equals, differs, less, at_most, is_in, not_in, relation, partial, total}
use Rattle.form.specs.Written.{prefix_kind, operator_kind, division_kind, connective_kind, quantifier_kind, comparison_kind, membership_kind, arrow_kind}
use Rattle.form.specs.Form.{operator_level, connective_level}
use Rattle.form.specs.Machine as machine
use Rattle.form.specs.Machine.{starts}
use Rattle.form.specs.Codes.{Numbering}
use Rattle.form.proofs.Table.{by-table, is_fixed, ◌&◌}
use Rattle.form_nodes.specs.FormPromises.{codes, Classes, Starts, operators, connectives, pred_starts, relations}
use Rattle.form_nodes.specs.Derivations.{MemberAt}
use Rattle.form_nodes.specs.declared.kinds.Start.TheVariants.{Leaf, Prefix as PrefixStart}
use Rattle.parser.proofs.TextDossier.{Text}
use Rattle.parser.proofs.SymbolAt.{SortAt, SortOf, sort-at, class-at, coded-at}

-- an operator, or a connective, of the level l
abbrev Leveled : ℕ → Type 0
Leveled l = (o : Operator) × (operator_level o ≡ l)

abbrev leveled_kind : {l : ℕ} → Leveled l → Kind
leveled_kind x = operator_kind x.0

abbrev Joined : ℕ → Type 0
Joined l = (o : Connective) × (connective_level o ≡ l)

abbrev pub joined_kind : {l : ℕ} → Joined l → Kind
joined_kind x = connective_kind x.0

abbrev pub truth_kind : Bool → Kind
truth_kind true = kind.TRUE
truth_kind false = kind.FALSE

abbrev not_kind : Unit {0} → Kind
not_kind x = kind.NOT

-- how a symbol begins a term
abbrev IsPrefix : machine.Start → Type 0
IsPrefix machine.leaf = ⊥
IsPrefix machine.prefixed = Unit {0}
IsPrefix machine.bracket = ⊥
IsPrefix machine.brace = ⊥
IsPrefix machine.emptied = ⊥
IsPrefix machine.nothing = ⊥

abbrev IsLeaf : machine.Start → Type 0
IsLeaf machine.leaf = Unit {0}
IsLeaf machine.prefixed = ⊥
IsLeaf machine.bracket = ⊥
IsLeaf machine.brace = ⊥
IsLeaf machine.emptied = ⊥
IsLeaf machine.nothing = ⊥

prefix-kinds : (κ : Kind) → IsPrefix (lookup starts machine.nothing κ) → SortOf prefix_kind κ
unfolding code_of
prefix-kinds κ =
    by-table (λ κ v. IsPrefix v → SortOf prefix_kind κ) starts machine.nothing κ
    ((λ e. absurd e) & (λ e. absurd e) & (λ e. absurd e) & (λ e. absurd e) & (λ e. absurd e) & (λ e. (negate, refl, refl)) & (λ e. (size, refl, refl))
    & (λ e. (dom, refl, refl)) & (λ e. (ran, refl, refl)) & (λ e. absurd e) & (λ e. absurd e) & (λ e. absurd e) & tt) (λ e. absurd e)

leaf-kinds : (κ : Kind) → IsLeaf (lookup starts machine.nothing κ) → is_fixed κ ≡ false
unfolding code_of
leaf-kinds κ =
    by-table (λ κ v. IsLeaf v → is_fixed κ ≡ false) starts machine.nothing κ
    ((λ e. refl) & (λ e. refl) & (λ e. refl) & (λ e. refl) & (λ e. refl) & (λ e. absurd e) & (λ e. absurd e)
    & (λ e. absurd e) & (λ e. absurd e) & (λ e. absurd e) & (λ e. absurd e) & (λ e. absurd e) & tt) (λ e. absurd e)

-- what begins a term and is the whole of it is no fixed symbol
pub leaf-kind : (κ : Kind) {k : ℕ} → Starts k Leaf → code_of κ ≡ k → is_fixed κ ≡ false
leaf-kind κ s q = leaf-kinds κ (subst IsLeaf (sym (s.start κ q)) tt)

module _ {w : List Symbol} {ρ : Numbering} (t : Text w ρ) where
  pub prefix-at : {i : ℕ} → Starts (get_or (codes w) i 0) PrefixStart → SortAt prefix_kind w i
  prefix-at s = sort-at t s.code (λ κ q. prefix-kinds κ (subst IsPrefix (sym (s.start κ q)) tt))

  pub operator-at : {i o : ℕ} → Classes operators (get_or (codes w) i 0) o → 1 ≤ o → o ≤ 2 → SortAt {A = Leveled o} leveled_kind w i
  unfolding code_of
  operator-at {i} {o} c a b =
      class-at {A = Leveled o} {f = leveled_kind} t c a
      ((λ e. ((plus, e), refl, refl)) & (λ e. ((minus, e), refl, refl)) & (λ e. ((union, e), refl, refl)) & (λ e. ((without, e), refl, refl))
      & (λ e. ((times, e), refl, refl)) & (λ e. ((inter, e), refl, refl)) & (λ e. absurd (omega arith)) & (λ e. absurd (omega arith)) & tt)

  pub division-at : {i o : ℕ} → Classes operators (get_or (codes w) i 0) o → 3 ≤ o → SortAt division_kind w i
  unfolding code_of
  division-at {i} {o} c a =
      class-at {f = division_kind} t c (omega arith)
      ((λ e. absurd (omega arith)) & (λ e. absurd (omega arith)) & (λ e. absurd (omega arith)) & (λ e. absurd (omega arith))
      & (λ e. absurd (omega arith)) & (λ e. absurd (omega arith)) & (λ e. (quotient, refl, refl)) & (λ e. (remainder, refl, refl)) & tt)

  pub connective-at : {i l : ℕ} → Classes connectives (get_or (codes w) i 0) l → 1 ≤ l → SortAt {A = Joined l} joined_kind w i
  unfolding code_of
  connective-at {i} {l} c a =
      class-at {A = Joined l} {f = joined_kind} t c a
      ((λ e. ((and, e), refl, refl)) & (λ e. ((or, e), refl, refl)) & (λ e. ((implies, e), refl, refl)) & (λ e. ((iff, e), refl, refl)) & tt)

  pub truth-at : {i : ℕ} → Classes pred_starts (get_or (codes w) i 0) 1 → SortAt truth_kind w i
  unfolding code_of
  truth-at c =
      class-at {f = truth_kind} t c (omega arith)
      ((λ e. (true, refl, refl)) & (λ e. (false, refl, refl)) & (λ e. absurd (omega arith)) & (λ e. absurd (omega arith)) & tt)

  pub not_at : {i : ℕ} → Classes pred_starts (get_or (codes w) i 0) 2 → SortAt not_kind w i
  unfolding code_of
  not_at c =
      class-at {f = not_kind} t c (omega arith)
      ((λ e. absurd (omega arith)) & (λ e. absurd (omega arith)) & (λ e. (tt, refl, refl)) & (λ e. absurd (omega arith)) & tt)

  pub comparison-at : {i : ℕ} → Classes relations (get_or (codes w) i 0) 1 → SortAt comparison_kind w i
  unfolding code_of
  comparison-at c =
      class-at {f = comparison_kind} t c (omega arith)
      ((λ e. (equals, refl, refl)) & (λ e. (differs, refl, refl)) & (λ e. (less, refl, refl)) & (λ e. (at_most, refl, refl))
      & (λ e. absurd (omega arith)) & (λ e. absurd (omega arith)) & (λ e. absurd (omega arith)) & tt)

  pub membership-at : {i : ℕ} → MemberAt (codes w) i → SortAt membership_kind w i
  unfolding code_of
  membership-at {i} m = on (eqb (get_or (codes w) i 0) 56) refl
    where
      on : (b : Bool) → eqb (get_or (codes w) i 0) 56 ≡ b → SortAt membership_kind w i
      on true q = coded-at t is_in (eqb-true (get_or (codes w) i 0) 56 q) refl
      on false q =
          let n : get_or (codes w) i 0 ≡ 56 → ⊥ = eqb-false (get_or (codes w) i 0) 56 q in
          let a = m.low in
          let b = m.high in
          coded-at t not_in (omega arith) refl

  pub quantifier-at : {i : ℕ} → 53 ≤ get_or (codes w) i 0 → get_or (codes w) i 0 ≤ 55 → SortAt quantifier_kind w i
  unfolding code_of
  quantifier-at {i} a b = on (eqb (get_or (codes w) i 0) 53) (eqb (get_or (codes w) i 0) 54) refl refl
    where
      on : (x y : Bool) → eqb (get_or (codes w) i 0) 53 ≡ x → eqb (get_or (codes w) i 0) 54 ≡ y → SortAt quantifier_kind w i
      on true y p q = coded-at t forall (eqb-true (get_or (codes w) i 0) 53 p) refl
      on false true p q = coded-at t exists (eqb-true (get_or (codes w) i 0) 54 q) refl
      on false false p q =
          let m : get_or (codes w) i 0 ≡ 53 → ⊥ = eqb-false (get_or (codes w) i 0) 53 p in
          let n : get_or (codes w) i 0 ≡ 54 → ⊥ = eqb-false (get_or (codes w) i 0) 54 q in
          coded-at t exists1 (omega arith) refl

  pub arrow-at : {i : ℕ} → 33 ≤ get_or (codes w) i 0 → get_or (codes w) i 0 ≤ 35 → SortAt arrow_kind w i
  unfolding code_of
  arrow-at {i} a b = on (eqb (get_or (codes w) i 0) 33) (eqb (get_or (codes w) i 0) 34) refl refl
    where
      on : (x y : Bool) → eqb (get_or (codes w) i 0) 33 ≡ x → eqb (get_or (codes w) i 0) 34 ≡ y → SortAt arrow_kind w i
      on true y p q = coded-at t relation (eqb-true (get_or (codes w) i 0) 33 p) refl
      on false true p q = coded-at t partial (eqb-true (get_or (codes w) i 0) 34 q) refl
      on false false p q =
          let m : get_or (codes w) i 0 ≡ 33 → ⊥ = eqb-false (get_or (codes w) i 0) 33 p in
          let n : get_or (codes w) i 0 ≡ 34 → ⊥ = eqb-false (get_or (codes w) i 0) 34 q in
          coded-at t total (omega arith) refl
