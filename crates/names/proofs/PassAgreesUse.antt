-- Names in use: the lists of the definitions, searched by whole names; and given sets without faults, none of whose names is in use before.
use mathlib.Core.Path.{◌≡◌, refl, ap, ap₂, ◌∙◌, sym}
use mathlib.Core.Bool.{Bool, true, false, not, cond, false≢true}
use mathlib.Core.List.{List, [], ◌∷◌, ◌++◌}
use mathlib.Core.Option.{none}
use Prim.Native.Nat.{ℕ, suc, ◌+◌}
use borrow.Author.Tests.{not-true}
use Rattle.std.proofs.lemmas.Bool.{false_from_ne_true}
use Rattle.lexical.specs.Lists.{same, any, find}
use Rattle.lexical.specs.Symbols.{Name}
use Rattle.refusals.specs.Refusals.{fault, name_in_use}
use Rattle.lexical.proofs.WordLaws.{same_refl, same_true}
use Rattle.form.specs.Tree.{Letters, Given, elements}
use Rattle.form.specs.Headings.{given_length}
use Rattle.declared_names.specs.StaticRulesCarriers.{same_name, plain, given_of}
use Rattle.declared_names.specs.StaticRulesScope.{is_taken, element_of, given_names}
use Rattle.declared_names.specs.StaticRulesNames.{new_name, element_faults, given_faults}
use Rattle.names.proofs.TypesAgreeScope.{any_here, any-there, find-there}
use Rattle.names.proofs.PassAgreesTables.{same-name}
use Rattle.refusals.proofs.FaultLists.{append_nil-both, unless-nil}

abbrev pub in_use : List Letters → Name → Bool
in_use xs y = any (λ (x : Letters). same_name (plain x) y) xs

pub same-sym : (x y : Letters) → same x y ≡ same y x
same-sym x y = on (same x y) refl (same y x) refl
  where
    on : (b : Bool) → same x y ≡ b → (c : Bool) → same y x ≡ c → b ≡ c
    on true h true k = refl
    on true h false k = absurd (false≢true (sym k ∙ ap (same y) (same_true x y h) ∙ same_refl y))
    on false h true k = absurd (false≢true (sym h ∙ ap (same x) (same_true y x k) ∙ same_refl x))
    on false h false k = refl

pub taken_is : (xs : List Letters) (l : Letters) → is_taken xs l ≡ in_use xs (plain l)
unfolding is_taken any same_name
taken_is [] l = refl
taken_is (x ∷ xs) l = ap₂ (λ (a b : Bool). elim a as (λ (c : Bool). Bool) [ true ↦ true | false ↦ b ]) (same-sym l x) (taken_is xs l)

pub any_append : {A : Type 0} (f : A → Bool) (xs ys : List A) → any f (xs ++ ys) ≡ cond (any f xs) true (any f ys)
unfolding any
any_append f [] ys = refl
any_append f (x ∷ xs) ys = on (f x) (any_append f xs ys)
  where
    on : (b : Bool) → any f (xs ++ ys) ≡ cond (any f xs) true (any f ys)
        → (elim b as (λ (c : Bool). Bool) [ true ↦ true | false ↦ any f (xs ++ ys) ])
        ≡ cond (elim b as (λ (c : Bool). Bool) [ true ↦ true | false ↦ any f xs ]) true (any f ys)
    on true e = refl
    on false e = e

pub use-left : (xs ys : List Letters) (y : Name) → in_use xs y ≡ true → in_use (xs ++ ys) y ≡ true
use-left xs ys y e = any_append (λ (x : Letters). same_name (plain x) y) xs ys ∙ ap (λ (b : Bool). cond b true (in_use ys y)) e

pub cond-right : (b c : Bool) → c ≡ true → cond b true c ≡ true
cond-right true c e = refl
cond-right false c e = e

pub use-right : (xs ys : List Letters) (y : Name) → in_use ys y ≡ true → in_use (xs ++ ys) y ≡ true
use-right xs ys y e = any_append (λ (x : Letters). same_name (plain x) y) xs ys ∙ cond-right (in_use xs y) (in_use ys y) e

pub use-here : (x : Letters) (xs : List Letters) (y : Name) → same_name (plain x) y ≡ true → in_use (x ∷ xs) y ≡ true
use-here x xs y e = any_here (λ (z : Letters). same_name (plain z) y) x xs e

pub use-there : (x : Letters) (xs : List Letters) (y : Name) → in_use xs y ≡ true → in_use (x ∷ xs) y ≡ true
unfolding any
use-there x xs y e = on (same_name (plain x) y)
  where
    on : (b : Bool) → (elim b as (λ (c : Bool). Bool) [ true ↦ true | false ↦ in_use xs y ]) ≡ true
    on true = refl
    on false = e

-- a new name is not in use
pub new_unused : (xs : List Letters) (x : Letters) (i : ℕ) → new_name xs x i ≡ [] → in_use xs (plain x) ≡ false
unfolding new_name
new_unused xs x i e = sym (taken_is xs x) ∙ not-true (is_taken xs x) (unless-nil (not (is_taken xs x)) (fault i name_in_use) e)

new_other : (xs : List Letters) (x : Letters) (i : ℕ) → new_name xs x i ≡ [] → (y : Name) → in_use xs y ≡ true → same_name (plain x) y ≡ false
new_other xs x i e y h = false_from_ne_true (same_name (plain x) y) (λ k. absurd (false≢true (sym (new_unused xs x i e) ∙ ap (in_use xs) (same-name (plain x) y k) ∙ h)))

pub elements-new : (xs : List Letters) (i : ℕ) (es : List Letters) → element_faults xs i es ≡ [] → (y : Name) → in_use xs y ≡ true → in_use es y ≡ false
unfolding element_faults any
elements-new xs i [] e y h = refl
elements-new xs i (x ∷ es) e y h =
    let a = append_nil-both (new_name xs x i) (element_faults (x ∷ xs) (suc i) es) e in
    any-there (λ (z : Letters). same_name (plain z) y) x es (new_other xs x i a.0 y h) ∙ elements-new (x ∷ xs) (suc i) es a.1 y (use-there x xs y h)

-- what a given set without faults adds
pub record GivenNew (xs : List Letters) (i : ℕ) (g : Given) (gs : List Given) : Type 0 where
  pub title_new : new_name xs g.title (suc i) ≡ []
  pub elements_are : element_faults (g.title ∷ xs) (i + 2) (elements g) ≡ []
  pub rest : given_faults (given_names (g ∷ []) ++ xs) (i + given_length g) gs ≡ []

pub given-new : (xs : List Letters) (i : ℕ) (g : Given) (gs : List Given) → given_faults xs i (g ∷ gs) ≡ [] → GivenNew xs i g gs
unfolding given_faults
given-new xs i g gs e =
    let a = append_nil-both (new_name xs g.title (suc i) ++ element_faults (g.title ∷ xs) (i + 2) (elements g)) (given_faults (given_names (g ∷ []) ++ xs) (i + given_length g) gs) e in
    let b = append_nil-both (new_name xs g.title (suc i)) (element_faults (g.title ∷ xs) (i + 2) (elements g)) a.0 in
    record { title_new = b.0; elements_are = b.1; rest = a.1 }

pub record Unnamed (gs : List Given) (y : Name) : Type 0 where
  pub no_element : element_of gs y ≡ none
  pub no_title : given_of gs y ≡ none

pub givens_new : (xs : List Letters) (i : ℕ) (gs : List Given) → given_faults xs i gs ≡ [] → (y : Name) → in_use xs y ≡ true → Unnamed gs y
unfolding element_of given_of find
givens_new xs i [] e y h = record { no_element = refl; no_title = refl }
givens_new xs i (g ∷ gs) e y h =
    let w = given-new xs i g gs e in
    let r = givens_new (given_names (g ∷ []) ++ xs) (i + given_length g) gs w.rest y (use-right (given_names (g ∷ [])) xs y h) in
    record {
      no_element =
          find-there (λ (k : Given). in_use (elements k) y) g gs (elements-new (g.title ∷ xs) (i + 2) (elements g) w.elements_are y (use-there g.title xs y h)) ∙ r.no_element;
      no_title = find-there (λ (k : Given). same_name (plain k.title) y) g gs (new_other xs g.title (suc i) w.title_new y h) ∙ r.no_title;
    }

-- the names of one given set
pub title-use : (g : Given) (xs : List Letters) (y : Name) → same_name (plain g.title) y ≡ true → in_use (given_names (g ∷ []) ++ xs) y ≡ true
unfolding given_names
title-use g xs y e = use-here g.title _ y e

pub element-use : (g : Given) (xs : List Letters) (y : Name) → in_use (elements g) y ≡ true → in_use (given_names (g ∷ []) ++ xs) y ≡ true
unfolding given_names
element-use g xs y e = use-left (g.title ∷ elements g ++ []) xs y (use-there g.title (elements g ++ []) y (use-left (elements g) [] y e))
