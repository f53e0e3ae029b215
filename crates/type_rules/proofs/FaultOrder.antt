-- Faults and the numbers that specs/TypesByNumber gives them: the derived order is that of the numbers, and no two faults have one number.
use mathlib.Core.Path.{◌≡◌, refl, sym, ap, ap₂, ◌∙◌, subst}
use mathlib.Core.Bool.{Bool, true, false, cond, beq}
use mathlib.Core.List.{List, [], ◌∷◌}
use mathlib.Core.Option as options
use mathlib.Core.Option.{none, some}
use Prim.Native.Nat.{ℕ, ◌<◌}
use native.Mathlib.Omega.{arith}
use lib.Dec.{eqb, ltb}
use lib.ListN.{get_or}
use borrow.Author.Tests.{ne_eqb, ltb-true, ltb-false, lt-ltb, le-ltb}
use Rattle.std.specs.Prelude.{Option, None, Some}
use Rattle.std.proofs.Common.{Ordering, Less, Equal, Greater, nat_cmp}
use Rattle.std.specs.Option.{option_or}
use Rattle.std.specs.Ordering.{MatchOrdering, is_lt, ord_min, ordering_then}
use Rattle.std.specs.Cmp.{ranks, booleans_Decides}
use Rattle.std.specs.List.{list_all}
use Rattle.std.proofs.lemmas.List.Folds.{list_all_at}
use Rattle.refusals.specs.Refusals as definition
use Rattle.refusals.specs.Refusals.{number_of}
use Rattle.refusals.specs.RefusalNames.{refusal_is}
use Rattle.refusals.proofs.RefusalNumbers.{small-number, number-decides}
use Rattle.refusals.specs.declared.Fault.{Fault}
use Rattle.refusals.specs.declared.Refusal.{Refusal}
use Rattle.refusals.specs.declared.Refusal.TheVariants.{LongText, UnlistedSymbol, ManySymbols, NoDossier, Deep, ManyDeclared, HeadingDiffers, NameInUse, NameUnknown, TypesMisfit, WideType, ManyBindings, LargeSize, ZeroDivisor}
use Rattle.refusals.specs.declared.Refusal.TheVariants.{AdvanceRange, ShortBytes, NothingHeld, SomethingHeld, CheckFinished, NoCounterexample}
use Rattle.refusals.specs.contracts.FaultOrd.TheImpl as FaultOrder
use Rattle.refusals.specs.contracts.RefusalOrd.TheImpl as RefusalOrder
use Rattle.type_rules.specs.TypesByNumber.{key_room, key, key_of, fault_key, lesser, judged_key, inside_key, unless_key}

-- ---- tests of all refusals ----

number : Refusal → ℕ
number r = number_of (refusal_is r)

all_refusals : List Refusal
all_refusals =
    LongText ∷ UnlistedSymbol ∷ ManySymbols ∷ NoDossier ∷ Deep ∷ ManyDeclared ∷ HeadingDiffers ∷ NameInUse ∷ NameUnknown ∷ TypesMisfit ∷ WideType ∷ ManyBindings
    ∷ LargeSize ∷ ZeroDivisor ∷ AdvanceRange ∷ ShortBytes ∷ NothingHeld ∷ SomethingHeld ∷ CheckFinished ∷ NoCounterexample ∷ []

record Listed (r : Refusal) : Type 0 where
  at : ℕ
  inside : at < 20
  is : get_or all_refusals at LongText ≡ r

listed : (r : Refusal) → Listed r
unfolding all_refusals
listed LongText = record { at = 0; inside = omega arith; is = refl }
listed UnlistedSymbol = record { at = 1; inside = omega arith; is = refl }
listed ManySymbols = record { at = 2; inside = omega arith; is = refl }
listed NoDossier = record { at = 3; inside = omega arith; is = refl }
listed Deep = record { at = 4; inside = omega arith; is = refl }
listed ManyDeclared = record { at = 5; inside = omega arith; is = refl }
listed HeadingDiffers = record { at = 6; inside = omega arith; is = refl }
listed NameInUse = record { at = 7; inside = omega arith; is = refl }
listed NameUnknown = record { at = 8; inside = omega arith; is = refl }
listed TypesMisfit = record { at = 9; inside = omega arith; is = refl }
listed WideType = record { at = 10; inside = omega arith; is = refl }
listed ManyBindings = record { at = 11; inside = omega arith; is = refl }
listed LargeSize = record { at = 12; inside = omega arith; is = refl }
listed ZeroDivisor = record { at = 13; inside = omega arith; is = refl }
listed AdvanceRange = record { at = 14; inside = omega arith; is = refl }
listed ShortBytes = record { at = 15; inside = omega arith; is = refl }
listed NothingHeld = record { at = 16; inside = omega arith; is = refl }
listed SomethingHeld = record { at = 17; inside = omega arith; is = refl }
listed CheckFinished = record { at = 18; inside = omega arith; is = refl }
listed NoCounterexample = record { at = 19; inside = omega arith; is = refl }

-- what holds of each in the list holds of every refusal
of_all : (p : Refusal → Bool) → list_all p all_refusals ≡ true → (r : Refusal) → p r ≡ true
unfolding all_refusals
of_all p h r = subst (λ (s : Refusal). p s ≡ true) (listed r).is (on (p (get_or all_refusals (listed r).at LongText)) refl)
  where
    on : (b : Bool) → p (get_or all_refusals (listed r).at LongText) ≡ b → p (get_or all_refusals (listed r).at LongText) ≡ true
    on true q = q
    on false q = let z : false ≡ true = sym (list_all_at p all_refusals (listed r).at LongText (listed r).inside q) ∙ h in cc

-- ---- the derived order of refusals is that of their numbers ----

in-order : (r s : Refusal) → is_lt (RefusalOrder.cmp-value.it r s) ≡ ltb (number r) (number s)
unfolding all_refusals number number_of
in-order r s =
    (booleans_Decides _ _).0
    (of_all (λ (y : Refusal). beq (is_lt (RefusalOrder.cmp-value.it r y)) (ltb (number r) (number y)))
    (of_all (λ (x : Refusal). list_all (λ (y : Refusal). beq (is_lt (RefusalOrder.cmp-value.it x y)) (ltb (number x) (number y))) all_refusals) refl r) s)

-- ---- faults by their keys ----

equal-places : (p q m n : ℕ) → p ≡ q → ltb m n ≡ ltb (key p m) (key q n)
equal-places p q m n e = on (ltb m n) refl
  where
    on : (b : Bool) → ltb m n ≡ b → b ≡ ltb (key p m) (key q n)
    on true h = let l = ltb-true m n h in sym (lt-ltb _ _ (omega arith))
    on false h = let l = ltb-false m n h in sym (le-ltb _ _ (omega arith))

-- the derived order of faults is that of their keys
keys-in-order : (f g : Fault) → is_lt (FaultOrder.cmp-value.it f g) ≡ ltb (fault_key (Some f)) (fault_key (Some g))
unfolding number
keys-in-order f g = on (nat_cmp f.place g.place) (ranks f.place g.place)
  where
    m : number_of (refusal_is f.refusal) < 32
    m = small-number (refusal_is f.refusal)

    n : number_of (refusal_is g.refusal) < 32
    n = small-number (refusal_is g.refusal)

    on : (o : Ordering) → MatchOrdering o (f.place < g.place) (f.place ≡ g.place) (g.place < f.place)
        → is_lt (ordering_then o (RefusalOrder.cmp-value.it f.refusal g.refusal)) ≡ ltb (fault_key (Some f)) (fault_key (Some g))
    on Less h = sym (lt-ltb _ _ (omega (arith, h, m, n)))
    on Equal h = in-order f.refusal g.refusal ∙ equal-places f.place g.place (number f.refusal) (number g.refusal) h
    on Greater h = sym (le-ltb _ _ (omega (arith, h, m, n)))

pub no-zero : (f : Fault) → fault_key (Some f) ≡ 0 → ⊥
no-zero f e = absurd (omega arith)

pub some-key : (f : Fault) → eqb (fault_key (Some f)) 0 ≡ false
some-key f = ne_eqb _ 0 (λ (h : fault_key (Some f) ≡ 0). absurd (omega arith))

-- the lesser of two faults, where there may be none
pub lesser-faults : (f g : Fault) → fault_key (Some (ord_min FaultOrder.cmp-value.it f g)) ≡ lesser (fault_key (Some f)) (fault_key (Some g))
unfolding lesser
lesser-faults f g = rw (some-key f, some-key g) (on (is_lt (FaultOrder.cmp-value.it g f)) ∙ ap (λ (b : Bool). cond b (fault_key (Some g)) (fault_key (Some f))) (keys-in-order g f))
  where
    on : (b : Bool) → fault_key (Some (cond b g f)) ≡ cond b (fault_key (Some g)) (fault_key (Some f))
    on true = refl
    on false = refl

pub first-alone : (a b : Option Fault) → a ≡ None → fault_key (option_or a b) ≡ lesser (fault_key a) (fault_key b)
unfolding lesser
first-alone None b e = refl
first-alone (Some f) b e = (cc)

pub second-alone : (a b : Option Fault) → b ≡ None → fault_key (option_or a b) ≡ lesser (fault_key a) (fault_key b)
unfolding lesser
second-alone None b e = refl
second-alone (Some f) None e = rw (some-key f)
second-alone (Some f) (Some g) e = (cc)

-- one of two faults, the first where there is one
pub first-key : (a b : Option Fault) → fault_key (option_or a b) ≡ inside_key (fault_key a) (fault_key b)
first-key None b = refl
first-key (Some f) b = rw (some-key f)

-- a whole with the fault a in its parts
pub judged-first : (a b : Option Fault) (ok : Bool) (k : ℕ) → fault_key b ≡ unless_key ok k → fault_key (option_or a b) ≡ judged_key ok k (fault_key a)
judged-first a b ok k e = first-key a b ∙ ap (inside_key (fault_key a)) e

-- ---- no two faults have one key ----

place-decides : (p q m n : ℕ) → m < key_room → n < key_room → key p m ≡ key q n → (p ≡ q) × (m ≡ n)
place-decides p q m n h k e = (omega arith, omega arith)

pub key-decides : (a b : options.Option definition.Fault) → key_of a ≡ key_of b → a ≡ b
key-decides none none e = refl
key-decides none (some g) e = absurd (omega arith)
key-decides (some f) none e = absurd (omega arith)
key-decides (some f) (some g) e =
    let w = place-decides f.place g.place (number_of f.refusal) (number_of g.refusal) (small-number f.refusal) (small-number g.refusal) e in
    ap some (ap₂ definition.fault w.0 (number-decides f.refusal g.refusal w.1))
