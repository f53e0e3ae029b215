-- Given sets: the key of their declarations is that of their least fault, and what the table says behind them.
use mathlib.Core.Path.{◌≡◌, refl, ap, ◌∙◌, sym}
use mathlib.Core.Bool.{Bool, true, false, not, cond}
use mathlib.Core.List.{List, [], ◌∷◌, ◌++◌, append_assoc}
use Prim.Native.Nat.{ℕ, suc, ◌+◌, ◌≤◌}
use native.Mathlib.Omega.{arith}
use lib.ListN.{length, set, length-set}
use borrow.Author.Tests.{ne_eqb}
use Rattle.lexical.specs.Lists.{any}
use Rattle.lexical.specs.Symbols.{Name, no_ending}
use Rattle.refusals.specs.Refusals.{number_of, name_in_use}
use Rattle.form.specs.Tree.{Letters, Given, elements}
use Rattle.form.specs.Headings.{given_length}
use Rattle.form.specs.Codes.{Numbering, number_of_name, name_number}
use Rattle.form.proofs.Lengths.{givens_width, given-length}
use Rattle.declared_names.specs.StaticRulesCarriers.{same_name, plain}
use Rattle.declared_names.specs.StaticRulesScope.{is_taken, given_names}
use Rattle.declared_names.specs.StaticRulesNames.{new_name, element_faults, given_faults}
use Rattle.type_rules.specs.TypesByNumber.{Names, entry, key, unless_key, is_free, least_key}
use Rattle.declared_names.specs.NamesByNumber.{elements_named, elements_key, given_named, givens_named, givens_key}
use Rattle.names.proofs.ReachTables.{Numbered}
use Rattle.names.proofs.TypesAgreeLeast.{least-nil, unless-least}
use Rattle.names.proofs.PassAgreesPlaces.{Within, nowhere, within-append, within_new, wider}
use Rattle.names.proofs.PassAgreesOrder.{behind}
use Rattle.names.proofs.PassAgreesTables.{name-refl, changed}
use Rattle.names.proofs.PassAgreesUse.{in_use, taken_is, any_append}

-- ---- places ----

elements-within : (xs : List Letters) (i : ℕ) (es : List Letters) → Within i (i + length es) (element_faults xs i es)
unfolding element_faults
elements-within xs i [] = nowhere
elements-within xs i (e ∷ es) =
    within-append (within_new xs e i (omega arith) (omega arith)) (wider _ _ (elements-within (e ∷ xs) (suc i) es) (omega arith) (omega arith))

pub givens-within : (xs : List Letters) (i : ℕ) (gs : List Given) → Within i (i + givens_width gs) (given_faults xs i gs)
unfolding given_faults
givens-within xs i [] = nowhere
givens-within xs i (g ∷ gs) =
    let l = given-length g in
    within-append
    (within-append (within_new xs g.title (suc i) (omega arith) (omega arith)) (wider _ _ (elements-within (g.title ∷ xs) (i + 2) (elements g)) (omega arith) (omega arith)))
    (wider _ _ (givens-within (given_names (g ∷ []) ++ xs) (i + given_length g) gs) (omega arith) (omega arith))

-- ---- tables ----

pub data AllIn (P : Letters → Type 0) : List Letters → Type 0 where
  none_in : AllIn P []
  one_in : {x : Letters} {xs : List Letters} → P x → AllIn P xs → AllIn P (x ∷ xs)

pub data GivensIn (P : Letters → Type 0) : List Given → Type 0 where
  no_givens : GivensIn P []
  one_given : {g : Given} {gs : List Given} → P g.title → AllIn P (elements g) → GivensIn P gs → GivensIn P (g ∷ gs)

-- the entries of a table
pub record Holds (ρ : Numbering) (P : Letters → Type 0) (T : Names) (f : Name → ℕ) : Type 0 where
  pub long : 16384 ≤ length T
  pub are : (y : Name) → P y.letters → entry T (name_number ρ y) ≡ f y

-- the entries tell which names are in use
abbrev pub Marks : (Name → ℕ) → List Letters → Type 0
Marks f xs = (y : Name) → is_free (f y) ≡ not (in_use xs y)

abbrev pub entered : Name → ℕ → (Name → ℕ) → Name → ℕ
entered x k f y = cond (same_name x y) k (f y)

abbrev pub given_entered : Given → ℕ → (Name → ℕ) → Name → ℕ
given_entered g k f y = cond (in_use (elements g) y) (16 + k) (entered (plain g.title) (8 + k) f y)

unfoldable pub named_by : List Given → ℕ → (Name → ℕ) → Name → ℕ
named_by [] k f = f
named_by (g ∷ gs) k f = named_by gs (suc k) (given_entered g k f)

positive : (k : ℕ) → 1 ≤ k → is_free k ≡ false
unfolding is_free
positive k h = ne_eqb k 0 (omega arith)

marks-one : (f : Name → ℕ) (xs : List Letters) (x : Letters) (k : ℕ) → Marks f xs → 1 ≤ k → Marks (entered (plain x) k f) (x ∷ xs)
unfolding any
marks-one f xs x k m h y = on (same_name (plain x) y)
  where
    on : (b : Bool) → is_free (cond b k (f y)) ≡ not (elim b as (λ (c : Bool). Bool) [ true ↦ true | false ↦ in_use xs y ])
    on true = positive k h
    on false = m y

given-uses : (g : Given) (xs : List Letters) (y : Name) → in_use (given_names (g ∷ []) ++ xs) y ≡ cond (same_name (plain g.title) y) true (cond (in_use (elements g) y) true (in_use xs y))
unfolding given_names any
given-uses g xs y = on (same_name (plain g.title) y)
  where
    twice : (b c : Bool) → cond (cond b true false) true c ≡ cond b true c
    twice true c = refl
    twice false c = refl

    on : (b : Bool) → (elim b as (λ (c : Bool). Bool) [ true ↦ true | false ↦ in_use ((elements g ++ []) ++ xs) y ]) ≡ cond b true (cond (in_use (elements g) y) true (in_use xs y))
    on true = refl
    on false =
        any_append (λ (x : Letters). same_name (plain x) y) (elements g ++ []) xs
        ∙ ap (λ (b : Bool). cond b true (in_use xs y)) (any_append (λ (x : Letters). same_name (plain x) y) (elements g) []) ∙ twice (in_use (elements g) y) (in_use xs y)

marks-given : (f : Name → ℕ) (xs : List Letters) (g : Given) (k : ℕ) → Marks f xs → Marks (given_entered g k f) (given_names (g ∷ []) ++ xs)
marks-given f xs g k m y = on (in_use (elements g) y) (same_name (plain g.title) y) ∙ sym (ap not (given-uses g xs y))
  where
    on : (a b : Bool) → is_free (cond a (16 + k) (cond b (8 + k) (f y))) ≡ not (cond b true (cond a true (in_use xs y)))
    on true true = positive (16 + k) (omega arith)
    on true false = positive (16 + k) (omega arith)
    on false true = positive (8 + k) (omega arith)
    on false false = m y

module _ (ρ : Numbering) (P : Letters → Type 0) (ν : Numbered ρ P) where
  enter : {T : Names} {f : Name → ℕ} → Holds ρ P T f → (x : Letters) → P x → (k : ℕ) → Holds ρ P (set T (number_of_name ρ x no_ending) k) (entered (plain x) k f)
  enter {T} {f} h x px k =
      record {
        long = omega (arith, length-set T (number_of_name ρ x no_ending) k, h.long);
        are =
            changed ρ P ν [] T h.long (plain x) px k (λ (y : Name) (n : ℕ). n ≡ entered (plain x) k f y)
            (sym (ap (λ (b : Bool). cond b k (f (plain x))) (name-refl (plain x)))) (λ y py e. h.are y py ∙ sym (ap (λ (b : Bool). cond b k (f y)) e));
      }

  holds_same : {T : Names} {f g : Name → ℕ} → Holds ρ P T f → ((y : Name) → f y ≡ g y) → Holds ρ P T g
  holds_same h e = record { long = h.long; are = λ y py. h.are y py ∙ e y }

  elements-named : {es : List Letters} → AllIn P es → {T : Names} {f : Name → ℕ} → Holds ρ P T f → (k : ℕ) → Holds ρ P (elements_named es k T ρ) (λ y. cond (in_use es y) k (f y))
  unfolding elements_named any
  elements-named none_in h k = h
  elements-named (one_in {x = x} {xs = es} px p) {T} {f} h k = holds_same (elements-named p (enter h x px k) k) (λ y. on y (same_name (plain x) y) (in_use es y))
    where
      on : (y : Name) (a b : Bool) → cond b k (cond a k (f y)) ≡ cond (elim a as (λ (c : Bool). Bool) [ true ↦ true | false ↦ b ]) k (f y)
      on y true true = refl
      on y true false = refl
      on y false b = refl

  given-named : {g : Given} {T : Names} {f : Name → ℕ} → P g.title → AllIn P (elements g) → Holds ρ P T f → (k : ℕ) → Holds ρ P (given_named g k T ρ) (given_entered g k f)
  given-named {g} p q h k = elements-named q (enter h g.title p (8 + k)) (16 + k)

  pub givens-named : {gs : List Given} → GivensIn P gs → {T : Names} {f : Name → ℕ} → Holds ρ P T f → (k : ℕ) → Holds ρ P (givens_named gs k T ρ) (named_by gs k f)
  unfolding givens_named named_by
  givens-named no_givens h k = h
  givens-named (one_given {g = g} p q r) h k = givens-named r (given-named p q h k) (suc k)

  new-least : {T : Names} {f : Name → ℕ} → Holds ρ P T f → (xs : List Letters) → Marks f xs → (x : Letters) → P x → (i : ℕ)
      → unless_key (is_free (entry T (number_of_name ρ x no_ending))) (key i 8) ≡ least_key (new_name xs x i)
  unfolding new_name number_of
  new-least h xs m x px i =
      ap (λ (b : Bool). unless_key b (key i 8)) (ap is_free (h.are (plain x) px) ∙ m (plain x) ∙ sym (ap not (taken_is xs x)))
      ∙ unless-least (not (is_taken xs x)) i name_in_use

  elements-least : {es : List Letters} → AllIn P es → {T : Names} {f : Name → ℕ} → Holds ρ P T f → (xs : List Letters) → Marks f xs → (k i : ℕ) → 1 ≤ k
      → elements_key es k T ρ i ≡ least_key (element_faults xs i es)
  unfolding elements_key element_faults
  elements-least none_in h xs m k i l = sym least-nil
  elements-least (one_in {x = x} {xs = es} px p) {T} {f} h xs m k i l =
      behind {a = i} {b = suc i} _ _ (within_new xs x i (omega arith) (omega arith)) (elements-within (x ∷ xs) (suc i) es) (omega arith) (new-least h xs m x px i)
      (λ e. elements-least p (enter h x px k) (x ∷ xs) (marks-one f xs x k m l) k (suc i) l)

  pub givens-least : {gs : List Given} → GivensIn P gs → {T : Names} {f : Name → ℕ} → Holds ρ P T f → (xs : List Letters) → Marks f xs → (k i : ℕ)
      → givens_key gs k T ρ i ≡ least_key (given_faults xs i gs)
  unfolding givens_key given_faults
  givens-least no_givens h xs m k i = sym least-nil
  givens-least (one_given {g = g} {gs = gs} p q r) {T} {f} h xs m k i =
      let l = given-length g in
      let e : i + 1 ≡ suc i = omega arith in
      let w = givens-within (given_names (g ∷ []) ++ xs) (i + given_length g) gs in
      behind {a = i} {b = i + 2} {d = i + given_length g + givens_width gs} _ _ (within_new xs g.title (suc i) (omega arith) (omega arith))
      (within-append (wider (i + 2) _ (elements-within (g.title ∷ xs) (i + 2) (elements g)) (omega arith) (omega arith)) (wider (i + 2) _ w (omega arith) (omega arith)))
      (omega arith) (ap (λ (j : ℕ). unless_key (is_free (entry T (number_of_name ρ g.title no_ending))) (key j 8)) e ∙ new-least h xs m g.title p (suc i))
      (λ n. behind _ _ (elements-within (g.title ∷ xs) (i + 2) (elements g)) w (omega arith)
      (elements-least q (enter h g.title p (8 + k)) (g.title ∷ xs) (marks-one f xs g.title (8 + k) m (omega arith)) (16 + k) (i + 2) (omega arith))
      (λ o. givens-least r (given-named p q h k) (given_names (g ∷ []) ++ xs) (marks-given f xs g k m) (suc k) (i + given_length g)))
      ∙ ap least_key (sym (append_assoc (new_name xs g.title (suc i)) (element_faults (g.title ∷ xs) (i + 2) (elements g)) (given_faults (given_names (g ∷ []) ++ xs) (i + given_length g) gs)))
