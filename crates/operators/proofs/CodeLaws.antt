-- Operators by their codes: what the last arm of a match is, and what settles a connective. Assumes nothing.
use mathlib.Core.Path.{◌≡◌, refl, sym, ap, subst, ◌∙◌}
use mathlib.Core.Bool.{Bool, true, false, not, ◌||◌, false≢true}
use Prim.Native.Nat.{ℕ, ◌%◌, ◌<◌, ◌≤◌}
use lib.Dec.{eqb}
use lib.IntN.{ℤ, pos, neg_ℤ}
use lib.Signed.{le_z}
use borrow.Author.Tests.{eq-eqb, ne_eqb, lt-ltb, le-ltb}
use Rattle.sets.specs.Sets as sets
use Rattle.sets.specs.Division.{floor_div, floor_mod}
use Rattle.evaluation.specs.MeaningValues.{natural}
use Rattle.evaluation.specs.OperatorsByNumber.{pick, Small, IsBits, prefixed, PrefixTakes, divisor, divided, operated, OperatorTakes, compared, connected, asked}

-- ---- a code that no arm names

pub prefix-takes : (code : ℕ) (x : ℤ) → (code ≡ 29 → ⊥) → PrefixTakes code x → IsBits x
unfolding PrefixTakes
prefix-takes code x h t = subst (λ (b : Bool). pick b (Small x) (IsBits x)) (ne_eqb code 29 h) t

pub prefix-last : (code n m : ℕ) (x : ℤ) → (code ≡ 29 → ⊥) → (code ≡ 31 → ⊥) → (code ≡ 63 → ⊥) → prefixed code n m x ≡ pos (sets.ran n m (natural x))
unfolding prefixed
prefix-last code n m x h i j = rw (prefixed, ne_eqb code 29 h, ne_eqb code 31 i, ne_eqb code 63 j)

pub operator-takes : (code : ℕ) (x y : ℤ) → (code ≡ 28 → ⊥) → (code ≡ 29 → ⊥) → (code ≡ 30 → ⊥) → OperatorTakes code x y → IsBits x × IsBits y
unfolding OperatorTakes
operator-takes code x y h i j t =
    subst (λ (b : Bool). pick b (Small x × Small y) (IsBits x × IsBits y))
    (ap (λ (b : Bool). b || eqb code 29 || eqb code 30) (ne_eqb code 28 h) ∙ ap (λ (b : Bool). b || eqb code 30) (ne_eqb code 29 i) ∙ ne_eqb code 30 j) t

pub operator-last : (code : ℕ) (x y : ℤ) → (code ≡ 28 → ⊥) → (code ≡ 29 → ⊥) → (code ≡ 30 → ⊥) → (code ≡ 58 → ⊥) → (code ≡ 59 → ⊥)
    → operated code x y ≡ pos (sets.inter (natural x) (natural y))
unfolding operated
operator-last code x y h i j k l = rw (operated, ne_eqb code 28 h, ne_eqb code 29 i, ne_eqb code 30 j, ne_eqb code 58 k, ne_eqb code 59 l)

pub comparison-last : (code : ℕ) (x y : ℤ) → (code ≡ 22 → ⊥) → (code ≡ 23 → ⊥) → (code ≡ 24 → ⊥) → compared code x y ≡ le_z x y
unfolding compared
comparison-last code x y h i j = rw (compared, ne_eqb code 22 h, ne_eqb code 23 i, ne_eqb code 24 j)

pub connective-last : (code : ℕ) (p q : Bool) → (code ≡ 51 → ⊥) → (code ≡ 52 → ⊥) → (code ≡ 26 → ⊥) → connected code p q ≡ asked p q
unfolding connected
connective-last code true q h i j = rw (connected, ne_eqb code 51 h, ne_eqb code 52 i, ne_eqb code 26 j)
connective-last code false q h i j = rw (connected, ne_eqb code 51 h, ne_eqb code 52 i, ne_eqb code 26 j)

-- ---- connectives: and, or, =>

pub implies-settled : (p q : Bool) → not p ≡ true → not p ≡ connected 26 p q
unfolding connected
implies-settled true q e = absurd (false≢true e)
implies-settled false q e = refl

pub implies_open : (p q : Bool) → not p ≡ false → q ≡ connected 26 p q
unfolding connected
implies_open true q e = refl
implies_open false q e = absurd (false≢true (sym e))

-- the left part settles it
abbrev pub Settled : (code : ℕ) (p : Bool) → Type 0
Settled code p = (q : Bool) → connected code p q ≡ connected code p false

pub and-settled : (p : Bool) → not p ≡ true → Settled 51 p
unfolding connected
and-settled true e q = absurd (false≢true e)
and-settled false e q = refl

pub or-settled : (p : Bool) → p ≡ true → Settled 52 p
unfolding connected
or-settled true e q = refl
or-settled false e q = absurd (false≢true e)

pub implies-done : (p : Bool) → not p ≡ true → Settled 26 p
unfolding connected
implies-done true e q = absurd (false≢true e)
implies-done false e q = refl

pub nothing-settled : (code : ℕ) (p : Bool) → false ≡ true → Settled code p
nothing-settled code p e q = absurd (false≢true e)

-- ---- div and mod

pub below-divisor : (n how : ℕ) → how % 2 ≡ 1 → neg_ℤ (pos n) ≡ divisor n how
unfolding divisor
below-divisor n how e = sym (rw (divisor, eq-eqb (how % 2) 1 e))

pub plain-divisor : (n how : ℕ) → (how % 2 ≡ 1 → ⊥) → pos n ≡ divisor n how
unfolding divisor
plain-divisor n how e = sym (rw (divisor, ne_eqb (how % 2) 1 e))

pub is-quotient : (n how : ℕ) (x : ℤ) → how < 2 → floor_div x (divisor n how) ≡ divided n how x
unfolding divided
is-quotient n how x h = sym (rw (divided, lt-ltb how 2 h))

pub is-remainder : (n how : ℕ) (x : ℤ) → 2 ≤ how → floor_mod x (divisor n how) ≡ divided n how x
unfolding divided
is-remainder n how x h = sym (rw (divided, le-ltb how 2 h))
