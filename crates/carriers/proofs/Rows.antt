-- Rows with at most one pair and rows with exactly one, and so the partial and the total functions, in the order of their bits. Assumes nothing.
use mathlib.Core.Path.{◌≡◌, refl, sym, ap, ap₂, ◌∙◌, fun_ext, subst₂}
use mathlib.Core.Bool.{Bool, true, false, not, ◌&&◌}
use mathlib.Core.List.{map}
use Prim.Native.Nat.{ℕ, zero, suc, ◌+◌, ◌*◌, ◌/◌, ◌%◌, ◌^◌, ◌<◌, ◌≤◌}
use native.Mathlib.Nat.{add-zero, add_comm, zero-mul, suc-mul, div-one, mod-lt, pow-suc, pow-zero, zero-lt-suc, le_of_suc-le-suc}
use native.Mathlib.Numerals.{add-one}
use native.Mathlib.Omega.{arith}
use lib.Count.{ones_in, ones, ones_cat}
use lib.Dec.{eqb, leb}
use lib.Pow.{pow_pos, pow-lt, pow-add, shr-shr, field, mod-mod-pow}
use borrow.Author.Tests.{leb-true, eqb-true, le-leb, eq-eqb}
use Rattle.lexical.specs.Lists.{upward}
use Rattle.meaning.specs.FormTree.{partial, total}
use Rattle.sets.specs.Sets.{has, pair, some_from, count_from, is_partial, is_total}
use Rattle.sets.proofs.Members.{count_ones, ones-among}
use Rattle.meaning.specs.Bindings.{pair_sets}
use Rattle.carriers.specs.ValuesByNumber.{row_of, choices, mask_at, partial_mask, total_mask}
use Rattle.carriers.proofs.RisingFilters.{Lists, listed}
use Rattle.carriers.proofs.Words.{all_rows_pass, RowList, word-lists}

-- ---- a set of pairs passes where each of its rows does

ones_low : (m s : ℕ) → ones_in m (s % 2 ^ m) ≡ ones_in m s
unfolding ones_in
ones_low zero s = refl
ones_low (suc m) s =
    ap₂ (λ (x y : ℕ). x + y)
    (ap (λ (x : ℕ). s % 2 ^ x % 2) (sym (add-one m)) ∙ mod-mod-pow s m 1)
    (ap (ones_in m) (ap (λ (x : ℕ). s % 2 ^ x / 2) (sym (add-one m)) ∙ field s m 1) ∙ ones_low m (s / 2))

row_count : (m s i : ℕ) → count_from (λ j. has s (pair m i j)) 0 m ≡ ones_in m (s / 2 ^ (i * m))
unfolding pair
row_count m s i = count_ones s (i * m) 0 m ∙ ap (λ (x : ℕ). ones_in m (s / 2 ^ x)) (add-zero (i * m))

some-shift : (f : ℕ → Bool) (k n : ℕ) → some_from f (suc k) n ≡ some_from (λ i. f (suc i)) k n
unfolding some_from
some-shift f k zero = refl
some-shift f k (suc n) = go (f (suc k)) (some-shift f (suc k) n)
  where
    go : (b : Bool) {x y : Bool} → x ≡ y → ◌≡◌ {A = Bool} (elim b [ true ↦ true | false ↦ x ]) (elim b [ true ↦ true | false ↦ y ])
    go true e = refl
    go false e = e

none-fails : (b x : Bool) → not (elim (not b) [ true ↦ true | false ↦ x ]) ≡ (b && not x)
none-fails true x = refl
none-fails false x = refl

module _ (q : ℕ → Bool) (m : ℕ) where
  -- row_of 0 i has a number of pairs that does not pass
  abbrev fails : ℕ → ℕ → Bool
  fails s i = not (q (ones_in m (s / 2 ^ (i * m))))

  fails-next : (s i : ℕ) → fails s (suc i) ≡ fails (s / 2 ^ m) i
  fails-next s i = ap (λ (x : ℕ). not (q (ones_in m x))) (ap (λ (x : ℕ). s / 2 ^ x) (suc-mul i m ∙ add_comm (i * m) m) ∙ sym (shr-shr s m (i * m)))

  rows_pass : (n s : ℕ) → not (some_from (fails s) 0 n) ≡ all_rows_pass (λ x. q (ones_in m x)) (2 ^ m) n s
  unfolding some_from all_rows_pass
  rows_pass zero s = refl
  rows_pass (suc n) s =
      none-fails (q (ones_in m (s / 2 ^ (0 * m)))) (some_from (fails s) 1 n)
      ∙ ap₂ ◌&&◌
      (ap (λ (x : ℕ). q (ones_in m x)) (ap (λ (x : ℕ). s / 2 ^ x) (zero-mul m) ∙ div-one s) ∙ ap q (sym (ones_low m s)))
      (ap not (some-shift (fails s) 0 n ∙ ap (λ (f : ℕ → Bool). some_from f 0 n) (fun_ext (fails-next s))) ∙ rows_pass n (s / 2 ^ m))

  pub sets-pass : (n s : ℕ) → not (some_from (λ i. not (q (count_from (λ j. has s (pair m i j)) 0 m))) 0 n) ≡ all_rows_pass (λ x. q (ones_in m x)) (2 ^ m) n s
  sets-pass n s = ap (λ (f : ℕ → Bool). not (some_from f 0 n)) (fun_ext (λ i. ap (λ (x : ℕ). not (q x)) (row_count m s i))) ∙ rows_pass n s

-- ---- rows by the number of their pairs

none_row : (m x : ℕ) → x < 2 ^ m → ones_in m x ≡ 0 → x ≡ 0
unfolding ones_in
none_row zero x h e = omega arith
none_row (suc m) x h e =
    let p : 2 ^ suc m ≡ 2 ^ m * 2 = pow-suc 2 m in
    let z : x / 2 ≡ 0 = none_row m (x / 2) (omega arith) (omega arith) in omega arith

one-row : (m x : ℕ) → x < 2 ^ m → ones_in m x ≡ 1 → (d : ℕ) × (d < m) × (2 ^ d ≡ x)
unfolding ones_in
one-row zero x h e = let z : ⊥ = omega arith in absurd z
one-row (suc m) x h e = go (x % 2) refl (mod-lt x (zero-lt-suc 1)) (one-row m (x / 2) half)
  where
    half : x / 2 < 2 ^ m
    half = let p : 2 ^ suc m ≡ 2 ^ m * 2 = pow-suc 2 m in omega arith

    go : (b : ℕ) → x % 2 ≡ b → b < 2 → (ones_in m (x / 2) ≡ 1 → (d : ℕ) × (d < m) × (2 ^ d ≡ x / 2)) → (d : ℕ) × (d < suc m) × (2 ^ d ≡ x)
    go zero p l ih =
        let t : (d : ℕ) × (d < m) × (2 ^ d ≡ x / 2) = ih (omega arith) in
        let g : 2 ^ t.0 ≡ x / 2 = t.2 in
        (suc t.0, omega arith, pow-suc 2 t.0 ∙ (let y : 2 ^ t.0 * 2 ≡ x = omega arith in y))
    go (suc zero) p l ih = let z : x / 2 ≡ 0 = none_row m (x / 2) half (omega arith) in (0, omega arith, (let y : 1 ≡ x = omega arith in y))
    go (suc (suc b)) p l ih = let z : ⊥ = omega arith in absurd z

ones_none : (m : ℕ) → ones_in m 0 ≡ 0
unfolding ones_in
ones_none zero = refl
ones_none (suc m) = omega (arith, ones_none m)

ones_power : (m d : ℕ) → d < m → ones_in m (2 ^ d) ≡ 1
unfolding ones ones_in
ones_power m d h =
    ones-among m (2 ^ d) (pow-lt h)
    ∙ (let e : 2 ^ d ≡ 1 * 2 ^ d + 0 = omega arith in ap ones e)
    ∙ ones_cat d 1 0 (pow_pos d)

-- no pair, then the pair with each element in turn
pub partial_rows : (m : ℕ) → RowList (λ x. leb (ones_in m x) 1) (m + 1) (2 ^ m) (row_of 0)
unfolding row_of
partial_rows m = record { rising = rise; inside = pass; below = under; onto = reach }
  where
    rise : (i j : ℕ) → i < j → j < m + 1 → row_of 0 i < row_of 0 j
    rise zero zero h u = let z : ⊥ = omega arith in absurd z
    rise zero (suc j) h u = pow_pos j
    rise (suc i) zero h u = let z : ⊥ = omega arith in absurd z
    rise (suc i) (suc j) h u = pow-lt (le_of_suc-le-suc h)

    pass : (i : ℕ) → i < m + 1 → leb (ones_in m (row_of 0 i)) 1 ≡ true
    pass zero u = le-leb (ones_in m 0) 1 (omega (arith, ones_none m))
    pass (suc d) u = le-leb (ones_in m (2 ^ d)) 1 (omega (arith, ones_power m d (omega arith)))

    under : (i : ℕ) → i < m + 1 → row_of 0 i < 2 ^ m
    under zero u = pow_pos m
    under (suc d) u = pow-lt (let z : d < m = omega arith in z)

    reach : (x : ℕ) → x < 2 ^ m → leb (ones_in m x) 1 ≡ true → (i : ℕ) × (i < m + 1) × (row_of 0 i ≡ x)
    reach x u e = go (ones_in m x) refl (leb-true (ones_in m x) 1 e)
      where
        go : (c : ℕ) → ones_in m x ≡ c → c ≤ 1 → (i : ℕ) × (i < m + 1) × (row_of 0 i ≡ x)
        go zero p l = (0, omega arith, sym (none_row m x u p))
        go (suc zero) p l = let t : (d : ℕ) × (d < m) × (2 ^ d ≡ x) = one-row m x u p in (suc t.0, omega arith, t.2)
        go (suc (suc c)) p l = let z : ⊥ = omega arith in absurd z

-- the pair with each element in turn
pub total-rows : (m : ℕ) → RowList (λ x. eqb (ones_in m x) 1) m (2 ^ m) (row_of 1)
unfolding row_of
total-rows m = record {
  rising = λ i j h u. pow-lt h;
  inside = λ i u. eq-eqb (ones_in m (2 ^ i)) 1 (ones_power m i u);
  below = λ i u. pow-lt u;
  onto = λ x u e. one-row m x u (eqb-true (ones_in m x) 1 e);
}

-- ---- the carriers

pub pow_rows : (m n : ℕ) → (2 ^ m) ^ n ≡ 2 ^ (n * m)
pow_rows m zero = pow-zero (2 ^ m) ∙ ap (λ (x : ℕ). 2 ^ x) (sym (zero-mul m))
pow_rows m (suc n) =
    pow-suc (2 ^ m) n ∙ ap (λ (x : ℕ). x * 2 ^ m) (pow_rows m n) ∙ sym (pow-add 2 (n * m) m) ∙ ap (λ (x : ℕ). 2 ^ x) (sym (suc-mul n m))

-- the masks of rows that rise through all with a number of pairs that passes rise through all sets of pairs whose rows pass
rows-list : (q : ℕ → Bool) (least n m : ℕ) → 0 < choices least m → RowList (λ x. q (ones_in m x)) (choices least m) (2 ^ m) (row_of least)
    → Lists (λ s. not (some_from (λ i. not (q (count_from (λ j. has s (pair m i j)) 0 m))) 0 n)) 0 (2 ^ (n * m)) (mask_at least n m) 0 (choices least m ^ n)
unfolding mask_at
rows-list q least n m h l =
    subst₂ (λ (p : ℕ → Bool) (x : ℕ). Lists p 0 x (mask_at least n m) 0 (choices least m ^ n)) (sym (fun_ext (sets-pass q m n))) (pow_rows m n)
    (word-lists (λ x. q (ones_in m x)) (choices least m) (2 ^ m) (row_of least) h (pow_pos m) l n)

-- the (m + 1) ^ n partial functions: the k-th masks rise, are among them, and reach each
pub partial-lists : (n m : ℕ) → Lists (is_partial n m) 0 (2 ^ (n * m)) (partial_mask n m) 0 ((m + 1) ^ n)
unfolding is_partial choices
partial-lists n m = rows-list (λ c. leb c 1) 0 n m (omega arith) (partial_rows m)

-- and the m ^ n total ones
pub total-lists : (n m : ℕ) → 0 < m → Lists (is_total n m) 0 (2 ^ (n * m)) (total_mask n m) 0 (m ^ n)
unfolding is_total choices
total-lists n m h = rows-list (λ c. eqb c 1) 1 n m h (total-rows m)

-- so the lists of the definitions are those that the digits of k give, to base m + 1 and to base m
pub partial-sets : (n m : ℕ) → pair_sets partial n m ≡ map (partial_mask n m) (upward 0 ((m + 1) ^ n))
unfolding pair_sets
partial-sets n m = listed (is_partial n m) (partial_mask n m) 0 (2 ^ (n * m)) 0 ((m + 1) ^ n) (partial-lists n m)

pub total-sets : (n m : ℕ) → 0 < m → pair_sets total n m ≡ map (total_mask n m) (upward 0 (m ^ n))
unfolding pair_sets
total-sets n m h = listed (is_total n m) (total_mask n m) 0 (2 ^ (n * m)) 0 (m ^ n) (total-lists n m h)
