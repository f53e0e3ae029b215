-- Two names of a text have the same value exactly if their letters are equal.
use mathlib.Core.Path.{◌≡◌, refl, ap, ◌∙◌, sym}
use mathlib.Core.Bool.{Bool, true, false}
use mathlib.Core.List.{List, [], ◌∷◌}
use Prim.Native.Nat.{ℕ, suc}
use native.Mathlib.Omega.{arith}
use lib.ListN.{get_or}
use Rattle.lexical.specs.Lists.{any}
use Rattle.lexical.specs.Symbols.{Symbol, fixed, numeral, name, Placed}
use Rattle.lexical.specs.Promises.{has_letters, first_named}
use Rattle.lexical.proofs.WordLaws.{same_true}
use Rattle.name_numbers.proofs.SoundLaws.{nowhere}

-- some symbol is a name with these letters
abbrev pub Named : List ℕ → List Placed → Type 0
Named a l = any (λ (x : Placed). has_letters a x.symbol) l ≡ true

first-has : (a : List ℕ) (l : List Placed) → Named a l → has_letters a (get_or l (first_named a l) nowhere).symbol ≡ true
unfolding any first_named
first-has a [] h = let z : ◌≡◌ {A = ℕ} 0 1 = cc in absurd (omega arith)
first-has a (x ∷ l) h = on (has_letters a x.symbol) refl h (first-has a l)
  where
    on : (b : Bool) → has_letters a x.symbol ≡ b → elim b [ true ↦ true | false ↦ any (λ (y : Placed). has_letters a y.symbol) l ] ≡ true
        → (Named a l → has_letters a (get_or l (first_named a l) nowhere).symbol ≡ true)
        → has_letters a (get_or (x ∷ l) (elim b [ true ↦ 0 | false ↦ suc (first_named a l) ]) nowhere).symbol ≡ true
    on true q e r = q
    on false q e r = r e

one_name : (a b : List ℕ) (y : Symbol) → has_letters a y ≡ true → has_letters b y ≡ true → a ≡ b
one_name a b (fixed k) p q = let z : ◌≡◌ {A = ℕ} 0 1 = cc in absurd (omega arith)
one_name a b (numeral n) p q = let z : ◌≡◌ {A = ℕ} 0 1 = cc in absurd (omega arith)
one_name a b (name x) p q = same_true a x.letters p ∙ sym (same_true b x.letters q)

pub same-value : (a b : List ℕ) (l : List Placed) → Named a l → Named b l → first_named a l ≡ first_named b l → a ≡ b
same-value a b l p q e =
    one_name a b (get_or l (first_named b l) nowhere).symbol
    (ap (λ (i : ℕ). has_letters a (get_or l i nowhere).symbol) (sym e) ∙ first-has a l p) (first-has b l q)

pub same-letters : (a b : List ℕ) (l : List Placed) → a ≡ b → first_named a l ≡ first_named b l
same-letters a b l e = ap (λ (c : List ℕ). first_named c l) e
