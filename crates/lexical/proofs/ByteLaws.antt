-- Laws of the classes of bytes, and of runs.
use mathlib.Core.Path.{◌≡◌, refl, ap, ◌∙◌, sym}
use mathlib.Core.Bool.{Bool, true, false, cond, ◌&&◌}
use mathlib.Core.List.{List, [], ◌∷◌}
use mathlib.Core.Logic.{◌⊎◌, inl, inr}
use Prim.Native.Nat.{ℕ, zero, suc, ◌+◌, ◌≤◌, ◌<◌}
use native.Mathlib.Omega.{arith}
use lib.Dec.{eqb, leb}
use borrow.Author.Tests.{leb-true, eqb-true, eqb-false, ne_eqb}
use lib.ListN.{length, take}
use Rattle.std.specs.Simd.Lanes.{Each1}
use Rattle.std.specs.List.{prefix_len}
use Rattle.lexical.specs.Lists.{bytes, any}
use Rattle.lexical.specs.Symbols.{Class, letter, digit, mark, other, between, class_of, in_run, run}

abbrev pub Same : (ℕ → Class) → Class → ℕ → ℕ → Type 0
Same f v lo zero = Unit {0}
Same f v lo (suc n) = (v ≡ f lo) × Same f v (suc lo) n

-- a function that is v at each of n numbers from lo on
pub span : (f : ℕ → Class) (v : Class) (lo n : ℕ) → Same f v lo n → (k : ℕ) → lo ≤ k → k < lo + n → v ≡ f k
span f v lo zero h k a b = absurd (omega arith)
span f v lo (suc n) h k a b = on (eqb k lo) refl (λ x y. span f v (suc lo) n h.1 k x y)
  where
    on : (t : Bool) → eqb k lo ≡ t → (suc lo ≤ k → k < suc lo + n → v ≡ f k) → v ≡ f k
    on true q r = h.0 ∙ ap f (sym (eqb-true k lo q))
    on false q r = let ne : k ≡ lo → ⊥ = eqb-false k lo q in r (omega arith) (omega arith)

pub outside : (lo hi b : ℕ) → (lo ≤ b → b ≤ hi → ⊥) → between lo hi b ≡ false
unfolding between
outside lo hi b f = on (leb lo b) refl (leb b hi) refl
  where
    on : (x : Bool) → leb lo b ≡ x → (y : Bool) → leb b hi ≡ y → (x && y) ≡ false
    on true p true q = absurd (f (leb-true lo b p) (leb-true b hi q))
    on true p false q = refl
    on false p true q = refl
    on false p false q = refl

abbrev Misses : ℕ → List ℕ → Type 0
Misses b l = Each1 (λ (x : ℕ). b ≡ x → ⊥) l

any-miss : (b : ℕ) (l : List ℕ) → Misses b l → any (eqb b) l ≡ false
unfolding any
any-miss b [] h = refl
any-miss b (x ∷ l) h = ap (λ (t : Bool). elim t [ true ↦ true | false ↦ any (eqb b) l ]) (ne_eqb b x h.0) ∙ any-miss b l h.1

pub lower : (b : ℕ) → 97 ≤ b → b < 123 → letter ≡ class_of b
unfolding class_of between
lower b p q = span class_of letter 97 26 (refl, (refl, (refl, (refl, (refl, (refl, (refl, (refl, (refl, (refl, (refl, (refl, (refl, (refl, (refl, (refl, (refl, (refl, (refl, (refl, (refl, (refl, (refl, (refl, (refl, (refl, tt)))))))))))))))))))))))))) b p q

pub upper : (b : ℕ) → 65 ≤ b → b < 91 → letter ≡ class_of b
unfolding class_of between
upper b p q = span class_of letter 65 26 (refl, (refl, (refl, (refl, (refl, (refl, (refl, (refl, (refl, (refl, (refl, (refl, (refl, (refl, (refl, (refl, (refl, (refl, (refl, (refl, (refl, (refl, (refl, (refl, (refl, (refl, tt)))))))))))))))))))))))))) b p q

pub digits : (b : ℕ) → 48 ≤ b → b < 58 → digit ≡ class_of b
unfolding class_of between
digits b p q = span class_of digit 48 10 (refl, (refl, (refl, (refl, (refl, (refl, (refl, (refl, (refl, (refl, tt)))))))))) b p q

-- the marks between ( and /, between : and >, between { and }
pub marks-paren : (b : ℕ) → 40 ≤ b → b < 48 → mark ≡ class_of b
unfolding class_of between any bytes
marks-paren b p q = span class_of mark 40 8 (refl, (refl, (refl, (refl, (refl, (refl, (refl, (refl, tt)))))))) b p q

pub marks-colon : (b : ℕ) → 58 ≤ b → b < 63 → mark ≡ class_of b
unfolding class_of between any bytes
marks-colon b p q = span class_of mark 58 5 (refl, (refl, (refl, (refl, (refl, tt))))) b p q

pub marks-brace : (b : ℕ) → 123 ≤ b → b < 126 → mark ≡ class_of b
unfolding class_of between any bytes
marks-brace b p q = span class_of mark 123 3 (refl, (refl, (refl, tt))) b p q

pub single : {b k : ℕ} {v : Class} → b ≡ k → v ≡ class_of k → v ≡ class_of b
single q r = r ∙ ap class_of (sym q)

pub others : (b : ℕ) → (97 ≤ b → b ≤ 122 → ⊥) → (65 ≤ b → b ≤ 90 → ⊥) → (48 ≤ b → b ≤ 57 → ⊥)
    → (40 ≤ b → b ≤ 47 → ⊥) → (58 ≤ b → b ≤ 62 → ⊥) → (123 ≤ b → b ≤ 125 → ⊥)
    → ((b ≡ 10) ⊎ (b ≡ 32) → ⊥) → ((b ≡ 35) ⊎ ((b ≡ 64) ⊎ ((b ≡ 91) ⊎ (b ≡ 93))) → ⊥) → other ≡ class_of b
unfolding class_of bytes
others b f g h paren colon brace blanks singles =
    sym (simp (outside 97 122 b f, outside 65 90 b g, outside 48 57 b h, ne_eqb b 32 (λ e. blanks (inr e)), ne_eqb b 10 (λ e. blanks (inl e)), any-miss b (bytes ":;,|@()[]{}.=/<>+-*#") misses))
  where
    misses : Misses b (bytes ":;,|@()[]{}.=/<>+-*#")
    misses = ((λ e. colon (omega arith) (omega arith)), ((λ e. colon (omega arith) (omega arith)), ((λ e. paren (omega arith) (omega arith)), ((λ e. brace (omega arith) (omega arith)), ((λ e. singles (inr (inl e))), ((λ e. paren (omega arith) (omega arith)), ((λ e. paren (omega arith) (omega arith)), ((λ e. singles (inr (inr (inl e)))), ((λ e. singles (inr (inr (inr e)))), ((λ e. brace (omega arith) (omega arith)), ((λ e. brace (omega arith) (omega arith)), ((λ e. paren (omega arith) (omega arith)), ((λ e. colon (omega arith) (omega arith)), ((λ e. paren (omega arith) (omega arith)), ((λ e. colon (omega arith) (omega arith)), ((λ e. colon (omega arith) (omega arith)), ((λ e. paren (omega arith) (omega arith)), ((λ e. paren (omega arith) (omega arith)), ((λ e. paren (omega arith) (omega arith)), ((λ e. singles (inl e)), tt))))))))))))))))))))

-- is a byte in a run
abbrev pub inside : ℕ → Bool
inside b = in_run (class_of b)

-- the run is the longest front of bytes that are in one
pub run-front : (w : List ℕ) → length (take (prefix_len inside w) w) ≡ length (run w)
unfolding run
run-front [] = refl
run-front (b ∷ w) = on (in_run (class_of b)) (run-front w)
  where
    on : (t : Bool) → length (take (prefix_len inside w) w) ≡ length (run w)
        → length (take (cond t (1 + prefix_len inside w) 0) (b ∷ w)) ≡ length {A = ℕ} (elim t [ true ↦ b ∷ run w | false ↦ [] ])
    on true h = let one : 1 + prefix_len inside w ≡ suc (prefix_len inside w) = omega arith in ap (λ (n : ℕ). length (take n (b ∷ w))) one ∙ ap suc h
    on false h = refl
