-- The k-th mask, a row at a time: what is made of it so far, and what the rest of k gives above it. Assumes nothing.
use mathlib.Core.Path.{◌≡◌, refl, sym, ap, ap₂, subst, ◌∙◌}
use Prim.Native.Nat.{ℕ, zero, suc, ◌+◌, ◌-◌, ◌*◌, ◌/◌, ◌%◌, ◌^◌, ◌<◌, ◌≤◌}
use native.Mathlib.Nat.{add-mul, mul_assoc, mul-le-mul_right, suc-mul, mod-lt, lt_of_lt_of_le, add-zero, mul-one, zero-add, zero-mul, mul_comm, le_trans, pow-le-pow_left}
use native.Mathlib.Numerals.{add-one}
use native.Mathlib.Omega.{arith}
use lib.Dec.{eqb, leb, lit≤}
use lib.IntN.{ℤ, pos, ◌+ℤ◌}
use mir.Syntax.{w32, w64}
use mir.Val.{SFits, of_z, to_z}
use mir.Facts.{to_z-of_z}
use Rattle.sets.proofs.Floor.{wide, add-mag}
use Rattle.sets.proofs.Members.{under-power}
use lib.Count.{ones_in}
use lib.Pow.{pow_pos, pow-add, pow_mono}
use Rattle.sets.specs.Sets.{pair}
use Rattle.carriers.specs.ValuesByNumber.{Room, word, row_of, choices, mask_at}
use Rattle.carriers.specs.FunctionKinds.{least_of}
use Rattle.carriers.specs.declared.Functions.{Functions}
use Rattle.carriers.specs.declared.Functions.TheVariants.{Partial, Total}
use Rattle.carriers.proofs.Words.{word_below}
use Rattle.carriers.proofs.Rows.{partial_rows, total-rows, pow_rows}

-- what kind of functions it is, a row has one bit at least or none
pub least_fits : (f : Functions) → least_of f ≤ 1
least_fits Partial = omega arith
least_fits Total = omega arith

-- as many choices for a row as the code counts
base-is : (least m : ℕ) → least ≤ 1 → m + 1 - least ≡ choices least m
unfolding choices
base-is zero m h = omega arith
base-is (suc zero) m h = omega arith
base-is (suc (suc l)) m h = let z : ⊥ = omega arith in absurd z

pub mask_below : (least n m k : ℕ) → least ≤ 1 → least ≤ m → mask_at least n m k < 2 ^ (n * m)
unfolding mask_at choices
mask_below zero n m k h l =
    subst (λ (x : ℕ). mask_at 0 n m k < x) (pow_rows m n) (word_below (λ x. leb (ones_in m x) 1) (m + 1) (2 ^ m) (row_of 0) (omega arith) (pow_pos m) (partial_rows m) n k)
mask_below (suc zero) n m k h l =
    subst (λ (x : ℕ). mask_at 1 n m k < x) (pow_rows m n) (word_below (λ x. eqb (ones_in m x) 1) m (2 ^ m) (row_of 1) l (pow_pos m) (total-rows m) n k)
mask_below (suc (suc j)) n m k h l = let z : ⊥ = omega arith in absurd z

-- no rows, no pairs
pub mask-none : (least n m k : ℕ) → n ≡ 0 → 0 ≡ mask_at least n m k
unfolding mask_at word
mask-none least n m k e = sym (ap (λ (x : ℕ). mask_at least x m k) e)

-- the bit of a row's d-th value, where the row begins at `from`
pub row-some : (least d from : ℕ) → least ≤ 1 → (d + least ≡ 0 → ⊥) → row_of least d * 2 ^ from ≡ 2 ^ (from + (d + least) - 1)
unfolding row_of
row-some zero zero from h f = absurd (f (omega arith))
row-some zero (suc d) from h f = sym (pow-add 2 d from) ∙ ap (λ (x : ℕ). 2 ^ x) (let z : d + from ≡ from + (suc d + 0) - 1 = omega arith in z)
row-some (suc zero) d from h f = sym (pow-add 2 d from) ∙ ap (λ (x : ℕ). 2 ^ x) (let z : d + from ≡ from + (d + 1) - 1 = omega arith in z)
row-some (suc (suc l)) d from h f = let z : ⊥ = omega arith in absurd z

pub row-none : (least d from : ℕ) → d + least ≡ 0 → row_of least d * 2 ^ from ≡ 0
unfolding row_of
row-none zero zero from e = omega arith
row-none zero (suc d) from e = let z : ⊥ = omega arith in absurd z
row-none (suc l) d from e = let z : ⊥ = omega arith in absurd z

-- the bits that n rows of m take
pub bits-of_rows : (m n x : ℕ) → x ≡ pair m n 0 → x ≡ n * m
unfolding pair
bits-of_rows m n x e = e ∙ add-zero (n * m)

pub few-rows : (n m : ℕ) → 16 < m → n * m ≤ 16 → n ≡ 0
few-rows zero m h u = refl
few-rows (suc n) m h u = let z : suc n * m ≡ n * m + m = suc-mul n m in let y : ⊥ = omega arith in absurd y

module _ {least n m : ℕ} (k : ℕ) (o : Room least n m) where
  abbrev base : ℕ
  base = m + 1 - least

  -- r is made so far, of i rows
  abbrev pub Made : (rest r i : ℕ) → Type 0
  Made rest r i = r + word (row_of least) base (2 ^ m) (n - i) rest * 2 ^ (i * m) ≡ word (row_of least) base (2 ^ m) n k

  whole : word (row_of least) base (2 ^ m) n k ≡ mask_at least n m k
  unfolding mask_at
  whole = ap (λ (c : ℕ). word (row_of least) c (2 ^ m) n k) (base-is least m o.least_bit)

  small : word (row_of least) base (2 ^ m) n k < 2 ^ 16
  small = subst (λ (x : ℕ). x < 2 ^ 16) (sym whole) (lt_of_lt_of_le (mask_below least n m k o.least_bit o.some_bit) (pow_mono o.bits))

  pub begun : Made k 0 0
  begun =
      ap₂ (λ (x y : ℕ). 0 + word (row_of least) base (2 ^ m) x k * 2 ^ y) (let z : n - 0 ≡ n = omega arith in z) (zero-mul m)
      ∙ zero-add (word (row_of least) base (2 ^ m) n k * 1) ∙ mul-one (word (row_of least) base (2 ^ m) n k)

  pub ended : (rest r i : ℕ) → n ≤ i → Made rest r i → r ≡ mask_at least n m k
  unfolding word
  ended rest r i h e =
      sym ((let z : n - i ≡ 0 = omega arith in ap (λ (x : ℕ). r + word (row_of least) base (2 ^ m) x rest * 2 ^ (i * m)) z) ∙ ap (λ (x : ℕ). r + x) (zero-mul (2 ^ (i * m))) ∙ add-zero r)
      ∙ e ∙ whole

  -- one row more
  next-row : (i : ℕ) → (i + 1) * m ≡ i * m + m
  next-row i = ap (λ (x : ℕ). x * m) (add-one i) ∙ suc-mul i m

  pub made_more : (rest r i : ℕ) → i < n → Made rest r i → Made (rest / base) (r + row_of least (rest % base) * 2 ^ (i * m)) (i + 1)
  unfolding word
  made_more rest r i h e =
      let w : ℕ = word (row_of least) base (2 ^ m) (n - (i + 1)) (rest / base) in
      let d : ℕ = row_of least (rest % base) in
      let p : w * 2 ^ ((i + 1) * m) ≡ w * 2 ^ m * 2 ^ (i * m) = ap (λ (x : ℕ). w * x) (ap (λ (x : ℕ). 2 ^ x) (next-row i) ∙ pow-add 2 (i * m) m ∙ mul_comm (2 ^ (i * m)) (2 ^ m)) ∙ sym (mul_assoc w (2 ^ m) (2 ^ (i * m))) in
      let q : (d + w * 2 ^ m) * 2 ^ (i * m) ≡ d * 2 ^ (i * m) + w * 2 ^ m * 2 ^ (i * m) = add-mul d (w * 2 ^ m) (2 ^ (i * m)) in
      let s : n - i ≡ suc (n - (i + 1)) = omega arith in
      let t : word (row_of least) base (2 ^ m) (n - i) rest * 2 ^ (i * m) ≡ (d + w * 2 ^ m) * 2 ^ (i * m) = ap (λ (x : ℕ). word (row_of least) base (2 ^ m) x rest * 2 ^ (i * m)) s in
      (let z : r + d * 2 ^ (i * m) + w * 2 ^ ((i + 1) * m) ≡ r + word (row_of least) base (2 ^ m) (n - i) rest * 2 ^ (i * m) = omega arith in z) ∙ e

  pub made-small : (rest r i : ℕ) → Made rest r i → r < 2 ^ 16
  made-small rest r i e = omega (arith, small)

  pub row_room : (i : ℕ) → i < n → i * m + m ≤ 16
  row_room i h = let a : suc i * m ≤ n * m = mul-le-mul_right m h in omega (arith, suc-mul i m, o.bits)

  pub digit_low : (rest : ℕ) → rest % base + least ≤ m
  digit_low rest = let a : rest % base < base = mod-lt rest (omega arith) in omega arith

-- ---- how many there are

-- as many as there are sets of so many bits, at most
pub count_small : (least m n : ℕ) → n * m ≤ 16 → (m + 1 - least) ^ n ≤ 65536
count_small least m n u =
    let b : m + 1 - least ≤ 2 ^ m = omega (arith, under-power m) in
    le_trans (pow-le-pow_left b n) (subst (λ (x : ℕ). x ≤ 65536) (sym (pow_rows m n)) (pow_mono {i = n * m} {j = 16} u))

pub counted : {least l r : ℕ} (m n : ℕ) → least ≤ 1 → l ≡ least → r ≡ (m + 1 - l) ^ n → r ≡ choices least m ^ n
counted {least} m n h f e = e ∙ ap (λ (x : ℕ). (m + 1 - x) ^ n) f ∙ ap (λ (x : ℕ). x ^ n) (base-is least m h)

-- ---- the k-th number of a range, in 64 bits

module _ {a x y : ℤ} {k : ℕ} (fa : SFits w32 a) (fk : k < 2 ^ 32) (ex : x ≡ to_z w32 (of_z w32 a)) (ey : y ≡ pos k) where
  sum : to_z w64 (of_z w64 x) +ℤ to_z w64 (of_z w64 y) ≡ a +ℤ pos k
  sum = ap₂ ◌+ℤ◌ (wide fa ex) (rw ey (to_z-of_z {w = w64} {z = pos k} (record { sfits = lt_of_lt_of_le fk (lit≤ tt) })))

  pub sum_fits : SFits w64 (to_z w64 (of_z w64 x) +ℤ to_z w64 (of_z w64 y))
  sum_fits = rw sum (record { sfits = lt_of_lt_of_le (add-mag a (pos k) (2 ^ 31) (2 ^ 32) fa.sfits fk) (lit≤ tt) })

  pub sum_back : to_z w64 (of_z w64 (to_z w64 (of_z w64 x) +ℤ to_z w64 (of_z w64 y))) ≡ a +ℤ pos k
  sum_back = to_z-of_z sum_fits ∙ sum
