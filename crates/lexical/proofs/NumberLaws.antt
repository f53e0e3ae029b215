-- Laws of numbers: decimal digits, the limit of 1,000, the leading zero.
use mathlib.Core.Path.{◌≡◌, refl, ap, ap₂, ◌∙◌, sym}
use mathlib.Core.Bool.{Bool, true, false, not, ◌&&◌, ◌||◌, cond, or-true}
use mathlib.Core.List.{List, [], ◌∷◌}
use Prim.Native.Nat.{ℕ, suc, ◌+◌, ◌-◌, ◌*◌, ◌≤◌, ◌<◌}
use native.Mathlib.Omega.{arith}
use native.Mathlib.Numerals.{add-one}
use lib.Dec.{eqb, leb}
use Rattle.std.specs.Prelude.{Option, Some, None}
use Rattle.std.specs.Bool.{then_some}
use borrow.Author.Tests.{leb-true, leb-false, le-leb, lt-leb, eq-eqb, ne_eqb}
use lib.ListN.{length, take, drop, get_or, drop_of_length-le}
use lib.Seq.{drop-cons}
use Rattle.lexical.specs.Lists.{all, any, bytes}
use Rattle.lexical.specs.Symbols.{Class, letter, digit, mark, blank, other, between, class_of, is_digit, in_run, run, decimal_from, is_number, number_found, by_class, found, numeral, unlisted}
use Rattle.lexical.specs.Kinds.{code_of}
use Rattle.lexical.specs.SymbolPromises.{token_of, more_of, decimal_after}
use Rattle.lexical.specs.declared.Token.TheVariants.{Unlisted, Listed}
use Rattle.lexical.proofs.ByteLaws.{digits, outside}
use Rattle.lexical.proofs.WordLaws.{run_take}

no_digit : (a b c d : Bool) → b ≡ false → is_digit (cond a letter (cond b digit (cond c blank (cond d mark other)))) ≡ false
no_digit true b c d h = refl
no_digit false true c d h = let z : ◌≡◌ {A = ℕ} 0 1 = cc in absurd (omega arith)
no_digit false false true d h = refl
no_digit false false false true h = refl
no_digit false false false false h = refl

pub digit_not : (b : ℕ) → (48 ≤ b → b ≤ 57 → ⊥) → is_digit (class_of b) ≡ false
unfolding class_of
digit_not b f = no_digit (between 97 122 b || between 65 90 b) (between 48 57 b) (eqb b 32 || eqb b 10) (any (eqb b) (bytes ":;,|@()[]{}.=/<>+-*#")) (outside 48 57 b f)

pub digit-yes : (b : ℕ) → 48 ≤ b → b < 58 → is_digit (class_of b) ≡ true
digit-yes b p q = sym (ap is_digit (digits b p q))

pub more-not : (v b : ℕ) → (48 ≤ b → b ≤ 57 → ⊥) → None ≡ more_of v b
unfolding more_of
more-not v b f = sym (ap (λ (x : Bool). cond x (cond (leb (v * 10 + (b - 48)) 1000) (Some (v * 10 + (b - 48))) None) None) (digit_not b f))

more-digit : (v b : ℕ) → 48 ≤ b → b < 58 → cond (leb (v * 10 + (b - 48)) 1000) (Some (v * 10 + (b - 48))) None ≡ more_of v b
unfolding more_of
more-digit v b p q = sym (ap (λ (x : Bool). cond x (cond (leb (v * 10 + (b - 48)) 1000) (Some (v * 10 + (b - 48))) None) None) (digit-yes b p q))

-- what more of a number is, of a digit
pub more-is : (v b : ℕ) {m : ℕ} → m ≡ v * 10 + (b - 48) → 48 ≤ b → b < 58 → then_some (leb m 1000) m ≡ more_of v b
more-is v b {m} e p q = on (leb m 1000) ∙ ap (λ (x : ℕ). cond (leb x 1000) (Some x) None) e ∙ more-digit v b p q
  where
    on : (x : Bool) → then_some x m ≡ cond x (Some m) None
    on true = refl
    on false = refl

-- what a digit makes of a number is at most 1,000
pub more-small : (v b : ℕ) {m : ℕ} → Some m ≡ more_of v b → m ≤ 1000
unfolding more_of
more-small v b {m} h = on (is_digit (class_of b)) (leb (v * 10 + (b - 48)) 1000) refl h
  where
    on : (d y : Bool) → leb (v * 10 + (b - 48)) 1000 ≡ y → Some m ≡ cond d (cond y (Some (v * 10 + (b - 48))) None) None → m ≤ 1000
    on true true q e = let k : m ≡ v * 10 + (b - 48) = cc in let l = leb-true (v * 10 + (b - 48)) 1000 q in omega arith
    on true false q e = absurd (cc)
    on false y q e = absurd (cc)

pub decimal-more : (v b : ℕ) {m : ℕ} (w : List ℕ) → Some m ≡ more_of v b → decimal_after v (b ∷ w) ≡ decimal_after m w
unfolding decimal_after
decimal-more v b w h = ap (λ (x : Option ℕ). elim x as (λ (y : Option ℕ). Option ℕ) [ Some m ↦ decimal_after m w | None ↦ None ]) (sym h)

pub decimal-over : (v b : ℕ) (w : List ℕ) → None ≡ more_of v b → decimal_after v (b ∷ w) ≡ None
unfolding decimal_after
decimal-over v b w h = ap (λ (x : Option ℕ). elim x as (λ (y : Option ℕ). Option ℕ) [ Some m ↦ decimal_after m w | None ↦ None ]) (sym h)

pub decimal-none : (v : ℕ) → decimal_after v [] ≡ Some v
unfolding decimal_after
decimal-none v = refl

-- the digits from a place on, by the one at the place and those behind it
module _ (v i : ℕ) (w : List ℕ) where
  pub digits-more : {m : ℕ} → i < length w → Some m ≡ more_of v (get_or w i 0) → decimal_after v (drop i w) ≡ decimal_after m (drop (i + 1) w)
  digits-more {m} l h = ap (decimal_after v) (drop-cons w i 0 l) ∙ decimal-more v (get_or w i 0) (drop (suc i) w) h ∙ ap (λ (k : ℕ). decimal_after m (drop k w)) (sym (add-one i))

  pub digits-over : i < length w → None ≡ more_of v (get_or w i 0) → decimal_after v (drop i w) ≡ None
  digits-over l h = ap (decimal_after v) (drop-cons w i 0 l) ∙ decimal-over v (get_or w i 0) (drop (suc i) w) h

  pub digits_end : length w ≤ i → decimal_after v (drop i w) ≡ Some v
  digits_end l = ap (decimal_after v) (drop_of_length-le w l) ∙ decimal-none v

grows : (v : ℕ) (w : List ℕ) → v ≤ decimal_from v w
unfolding decimal_from
grows v [] = omega arith
grows v (b ∷ w) = let r = grows (v * 10 + (b - 48)) w in omega arith

abbrev digital : List ℕ → Bool
digital w = all (λ (b : ℕ). is_digit (class_of b)) w

-- the digits' number, where it is at most 1,000
decimal-is : (v : ℕ) (w : List ℕ) → v ≤ 1000 → decimal_after v w ≡ cond (digital w && leb (decimal_from v w) 1000) (Some (decimal_from v w)) None
unfolding decimal_after decimal_from all more_of
decimal-is v [] h = sym (ap (λ (x : Bool). cond x (Some v) None) (le-leb v 1000 h))
decimal-is v (b ∷ w) h = on (is_digit (class_of b)) refl (leb m 1000) refl (decimal-is m w)
  where
    m : ℕ
    m = v * 10 + (b - 48)

    last : (x : Bool) → cond (x && false) (Some (decimal_from m w)) None ≡ None
    last true = refl
    last false = refl

    on : (d : Bool) → is_digit (class_of b) ≡ d → (y : Bool) → leb m 1000 ≡ y → (m ≤ 1000 → decimal_after m w ≡ cond (digital w && leb (decimal_from m w) 1000) (Some (decimal_from m w)) None)
        → decimal_after v (b ∷ w) ≡ cond (elim d [ true ↦ digital w | false ↦ false ] && leb (decimal_from m w) 1000) (Some (decimal_from m w)) None
    on true p true q r =
        let k : m ≤ 1000 = leb-true m 1000 q in
        let t : Some m ≡ more_of v b = sym (ap₂ (λ (x y : Bool). cond x (cond y (Some m) None) None) p q) in
        decimal-more v b w t ∙ r k
    on true p false q r =
        let k : 1000 < m = leb-false m 1000 q in
        let t : None ≡ more_of v b = sym (ap₂ (λ (x y : Bool). cond x (cond y (Some m) None) None) p q) in
        let g : 1000 < decimal_from m w = omega (arith, grows m w) in
        decimal-over v b w t ∙ sym (ap (λ (x : Bool). cond (digital w && x) (Some (decimal_from m w)) None) (lt-leb (decimal_from m w) 1000 g) ∙ last (digital w))
    on false p y q r =
        let t : None ≡ more_of v b = sym (ap (λ (x : Bool). cond x (cond (leb m 1000) (Some m) None) None) p) in
        decimal-over v b w t

module _ (s : List ℕ) (at n : ℕ) (lt : at < length s) (is : class_of (get_or s at 0) ≡ digit) (l : n ≡ length (run (drop at s))) where
  r : List ℕ
  r = run (drop at s)

  first : get_or r 0 48 ≡ get_or s at 0
  unfolding run r
  first = ap (λ (w : List ℕ). get_or (run w) 0 48) (drop-cons s at 0 lt)
      ∙ ap (λ (x : Class). get_or {A = ℕ} (elim (in_run x) [ true ↦ get_or s at 0 ∷ run (drop (suc at) s) | false ↦ [] ]) 0 48) is

  part : {v : Option ℕ} → v ≡ decimal_after 0 (take ((at + n) - at) (drop at s)) → v ≡ cond (digital r && leb (decimal_from 0 r) 1000) (Some (decimal_from 0 r)) None
  unfolding r
  part h = let m : (at + n) - at ≡ length (run (drop at s)) = omega arith in
      h ∙ ap (λ (i : ℕ). decimal_after 0 (take i (drop at s))) m ∙ ap (decimal_after 0) (run_take (drop at s)) ∙ decimal-is 0 (run (drop at s)) (omega arith)

  refused : is_number r ≡ false → Unlisted ≡ token_of (by_class digit (drop at s))
  unfolding by_class number_found r
  refused h = sym (ap (λ (x : Bool). token_of (cond x (found (numeral (decimal_from 0 r)) (length r)) unlisted)) h)

  pub leading_zero : (n ≡ 1 → ⊥) → get_or s at 0 ≡ 48 → Unlisted ≡ token_of (by_class digit (drop at s))
  unfolding is_number r
  leading_zero f z = refused (ap₂ (λ (x y : Bool). digital r && (x || not y) && leb (decimal_from 0 r) 1000) (ne_eqb (length r) 1 (λ q. f (l ∙ q))) (eq-eqb (get_or r 0 48) 48 (first ∙ z)) ∙ last (digital r) (leb (decimal_from 0 r) 1000))
    where
      last : (x y : Bool) → (x && false && y) ≡ false
      last true y = refl
      last false y = refl

  pub over : None ≡ decimal_after 0 (take ((at + n) - at) (drop at s)) → Unlisted ≡ token_of (by_class digit (drop at s))
  unfolding is_number r
  over h = refused (on (digital r) (eqb (length r) 1 || not (eqb (get_or r 0 48) 48)) (leb (decimal_from 0 r) 1000) (part h))
    where
      on : (x y z : Bool) → None ≡ cond (x && z) (Some (decimal_from 0 r)) None → (x && y && z) ≡ false
      on true true true e = absurd (cc)
      on true true false e = refl
      on true false z e = refl
      on false y z e = refl

  number : {v : ℕ} → Some v ≡ decimal_after 0 (take ((at + n) - at) (drop at s)) → (eqb (length r) 1 || not (eqb (get_or r 0 48) 48)) ≡ true → Listed 1 n v ≡ token_of (by_class digit (drop at s))
  unfolding is_number by_class number_found code_of r
  number {v} h m = on (digital r) (eqb (length r) 1 || not (eqb (get_or r 0 48) 48)) (leb (decimal_from 0 r) 1000) m (part h)
    where
      on : (x y z : Bool) → y ≡ true → Some v ≡ cond (x && z) (Some (decimal_from 0 r)) None → Listed 1 n v ≡ token_of (cond (x && y && z) (found (numeral (decimal_from 0 r)) (length r)) unlisted)
      on true true true q e = let f : v ≡ decimal_from 0 r = cc in ap₂ (λ (a b : ℕ). Listed 1 a b) l f
      on true true false q e = absurd (cc)
      on true false z q e = absurd (cc)
      on false y z q e = absurd (cc)

  pub one-digit : {v : ℕ} → Some v ≡ decimal_after 0 (take ((at + n) - at) (drop at s)) → n ≡ 1 → Listed 1 n v ≡ token_of (by_class digit (drop at s))
  unfolding r
  one-digit h q = number h (ap (λ (x : Bool). x || not (eqb (get_or r 0 48) 48)) (eq-eqb (length r) 1 (sym l ∙ q)))

  pub no_zero : {v : ℕ} → Some v ≡ decimal_after 0 (take ((at + n) - at) (drop at s)) → (get_or s at 0 ≡ 48 → ⊥) → Listed 1 n v ≡ token_of (by_class digit (drop at s))
  unfolding r
  no_zero h f = number h (ap (λ (x : Bool). eqb (length r) 1 || not x) (ne_eqb (get_or r 0 48) 48 (λ q. f (sym first ∙ q))) ∙ or-true (eqb (length r) 1))
