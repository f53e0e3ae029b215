-- The last variable of a group that a conjunct mentions: a variable behind it is not used. Assumes nothing.
use mathlib.Core.Path.{◌≡◌, sym, ap₂, subst}
use mathlib.Core.Bool.{Bool, ◌&&◌, cond}
use mathlib.Core.Logic.{inl, inr}
use mathlib.Core.List.{List, [], ◌∷◌}
use Prim.Native.Nat.{ℕ, ◌+◌, ◌-◌, ◌≤◌, ◌<◌, max}
use native.Mathlib.Nat.{le-max_left}
use native.Mathlib.Omega.{arith}
use lib.Dec.{leb, ltb}
use borrow.Author.Tests.{le-leb, lt-ltb}
use Rattle.evaluation.specs.MeaningBindings.{Among}
use Rattle.search_groups.specs.Conjuncts.{last_in}

max-right : (a b c : ℕ) → c ≤ b → c ≤ max a b
max-right a b c h = omega arith

-- one of the n slots from `base` on counts
counted : (base n s : ℕ) → base ≤ s → s < base + n → cond (leb base s && ltb s (base + n)) (s - base + 1) 0 ≡ s - base + 1
counted base n s h l = ap₂ (λ (x y : Bool). cond (x && y) (s - base + 1) 0) (le-leb base s h) (lt-ltb s (base + n) l)

pub last-in : (base n s : ℕ) (ss : List ℕ) → Among s ss → base ≤ s → s < base + n → s - base + 1 ≤ last_in base n ss
unfolding Among last_in
last-in base n s [] m h l = absurd m
last-in base n s (t ∷ ss) (inl e) h l =
    subst (λ (r : ℕ). s - base + 1 ≤ last_in base n (r ∷ ss)) e
    (subst (λ (k : ℕ). s - base + 1 ≤ max k (last_in base n ss)) (sym (counted base n s h l)) (le-max_left (s - base + 1) (last_in base n ss)))
last-in base n s (t ∷ ss) (inr m) h l =
    max-right (cond (leb base t && ltb t (base + n)) (t - base + 1) 0) (last_in base n ss) (s - base + 1) (last-in base n s ss m h l)

-- a variable behind the last one mentioned
pub not_in : (base n s : ℕ) (ss : List ℕ) → last_in base n ss ≤ s - base → base ≤ s → s < base + n → Among s ss → ⊥
not_in base n s ss k h l m = let i = last-in base n s ss m h l in omega arith
