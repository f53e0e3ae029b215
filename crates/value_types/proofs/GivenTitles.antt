-- Given sets without faults have different titles: a given set is found by its own.
use mathlib.Core.Path.{◌≡◌, refl, sym, ap, ◌∙◌, subst}
use mathlib.Core.Bool.{Bool, true, false, not}
use mathlib.Core.Logic.{inl, inr}
use mathlib.Core.List.{List, [], ◌∷◌, ◌++◌, map}
use mathlib.Core.Option.{Option, some}
use Prim.Native.Nat.{ℕ, suc, ◌+◌, ◌≤◌}
use lib.ListN.{get_or}
use borrow.Author.Tests.{not-true}
use Rattle.lexical.specs.Lists.{same, find}
use Rattle.lexical.proofs.WordLaws.{same_refl, same_turned}
use Rattle.meaning.specs.FormTree.{Letters, Given, elements}
use Rattle.meaning.specs.FormHeadings.{given_length}
use Rattle.meaning.specs.StaticRulesCarriers.{size_of, same_name, plain, given_of}
use Rattle.meaning.specs.StaticRulesScope.{is_taken, given_names}
use Rattle.meaning.specs.StaticRulesNames.{new_name, element_faults, given_faults}
use Rattle.meaning.specs.Bindings.{Among}
use Rattle.meaning.proofs.Members.{any_none, among-right}
use Rattle.value_types.specs.FaultlessContexts.{FewElements}
use Rattle.refusals.proofs.FaultLists.{append_nil-three, unless-nil}

pub few-elements : (gs : List Given) → FewElements gs → (g : Given) → Among g gs → size_of g ≤ 8
unfolding FewElements Among
few-elements [] h g m = absurd m
few-elements (k ∷ gs) h g (inl e) = subst (λ (x : Given). size_of x ≤ 8) (sym e) h.0
few-elements (k ∷ gs) h g (inr m) = few-elements gs h.1 g m

-- the form's counts bound the size at each place of the list
pub few-elements-of : (gs : List Given) → ((k : ℕ) → get_or (map size_of gs) k 0 ≤ 8) → FewElements gs
unfolding FewElements
few-elements-of [] h = tt
few-elements-of (g ∷ gs) h = (h 0, few-elements-of gs (λ k. h (suc k)))

-- a new name differs from those in use
new_other : (xs : List Letters) (x : Letters) (i : ℕ) → new_name xs x i ≡ [] → (y : Letters) → Among y xs → same x y ≡ false
unfolding new_name is_taken
new_other xs x i e y m = any_none (same x) xs (not-true (is_taken xs x) (unless-nil (not (is_taken xs x)) _ e)) y m

given-parts : (xs : List Letters) (i : ℕ) (g : Given) (gs : List Given) → given_faults xs i (g ∷ gs) ≡ []
    → (new_name xs g.title (suc i) ≡ []) × (element_faults (g.title ∷ xs) (i + 2) (elements g) ≡ [])
    × (given_faults (given_names (g ∷ []) ++ xs) (i + given_length g) gs ≡ [])
unfolding given_faults
given-parts xs i g gs e = append_nil-three _ _ _ e

titles-new : (xs : List Letters) (i : ℕ) (gs : List Given) → given_faults xs i gs ≡ [] → (x : Letters) → Among x xs
    → (g : Given) → Among g gs → same g.title x ≡ false
unfolding Among
titles-new xs i [] e x m g k = absurd k
titles-new xs i (h ∷ gs) e x m g (inl k) = ap (λ (y : Given). same y.title x) k ∙ new_other xs h.title (suc i) (given-parts xs i h gs e).0 x m
titles-new xs i (h ∷ gs) e x m g (inr k) =
    titles-new (given_names (h ∷ []) ++ xs) (i + given_length h) gs (given-parts xs i h gs e).2 x (among-right x (given_names (h ∷ [])) xs m) g k

title-first : (g : Given) (xs : List Letters) → Among g.title (given_names (g ∷ []) ++ xs)
unfolding Among given_names
title-first g xs = inl refl

plain-same : (x y : Letters) → same_name (plain x) (plain y) ≡ same x y
unfolding same_name
plain-same x y = refl

given-here : (g : Given) (gs : List Given) → given_of (g ∷ gs) (plain g.title) ≡ some g
unfolding given_of find
given-here g gs =
    ap (λ (b : Bool). elim b as (λ (c : Bool). Option Given) [ true ↦ some g | false ↦ given_of gs (plain g.title) ])
    (plain-same g.title g.title ∙ same_refl g.title)

given-there : (h : Given) (gs : List Given) (x : Letters) → same h.title x ≡ false → given_of (h ∷ gs) (plain x) ≡ given_of gs (plain x)
unfolding given_of find
given-there h gs x e =
    ap (λ (b : Bool). elim b as (λ (c : Bool). Option Given) [ true ↦ some h | false ↦ given_of gs (plain x) ]) (plain-same h.title x ∙ e)

pub title-finds : (xs : List Letters) (i : ℕ) (gs : List Given) → given_faults xs i gs ≡ [] → (g : Given) → Among g gs → given_of gs (plain g.title) ≡ some g
unfolding Among
title-finds xs i [] e g m = absurd m
title-finds xs i (h ∷ gs) e g (inl k) = subst (λ (y : Given). given_of (h ∷ gs) (plain y.title) ≡ some y) (sym k) (given-here h gs)
title-finds xs i (h ∷ gs) e g (inr m) =
    let r = (given-parts xs i h gs e).2 in
    let ys = given_names (h ∷ []) ++ xs in
    given-there h gs g.title (same_turned h.title g.title (titles-new ys (i + given_length h) gs r h.title (title-first h xs) g m))
    ∙ title-finds ys (i + given_length h) gs r g m
