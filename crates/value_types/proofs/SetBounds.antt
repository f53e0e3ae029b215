-- Operations on values of types: sets stay within the bits of their type, a set's size is at most 16. Assumes nothing.
use mathlib.Core.Path.{◌≡◌, refl, sym, ap, ap₂, ◌∙◌, subst}
use mathlib.Core.Bool.{Bool, false, not, ◌&&◌, ◌||◌}
use Prim.Native.Nat.{ℕ, zero, suc, ◌*◌, ◌/◌, ◌^◌, ◌<◌, ◌≤◌}
use native.Mathlib.Nat.{lt_of_lt_of_le, mul-le-mul}
use native.Mathlib.Decide.{dec_lt}
use native.Mathlib.Omega.{arith}
use lib.Count.{ones_in}
use lib.IntN.{pos}
use lib.Pow.{pow_mono, pow-lt}
use Rattle.meaning.specs.FormTree.{dom, ran}
use Rattle.sets.specs.Sets as sets
use Rattle.sets.specs.Sets.{has, set_of, pair, single}
use Rattle.sets.proofs.Members.{has-past, has-set, has-set-past, set_below, same-members}
use Rattle.sets.proofs.Pairs.{dom-below, ran-below}
use Rattle.meaning.specs.Values.{Value, natural, bits, with_bits, prefix_value, singleton, pair_bit, single_pair}
use Rattle.value_types.specs.TypedValues.{IsElementOf, IsSetOver, IsPairsOver}

-- ---- bits

-- a set of which no member is n or more has n bits
past-below : (g : ℕ → Bool) (n : ℕ) → n ≤ 16 → ((k : ℕ) → n ≤ k → g k ≡ false) → set_of 16 g < 2 ^ n
past-below g n h e =
    subst (λ (s : ℕ). s < 2 ^ n)
    (same-members 16 (set_of n g) (set_of 16 g) (lt_of_lt_of_le (set_below n g) (pow_mono {i = n} {j = 16} h)) (set_below 16 g)
    (λ k l. on k l (dec_lt k n))) (set_below n g)
  where
    on : (k : ℕ) → k < 16 → Dec (k < n) → has (set_of n g) k ≡ has (set_of 16 g) k
    on k l (yes p) = has-set n g k p ∙ sym (has-set 16 g k l)
    on k l (no p) = has-set-past n g k (omega arith) ∙ sym (has-set 16 g k l ∙ e k (omega arith))

pub union-below : (n a b : ℕ) → n ≤ 16 → a < 2 ^ n → b < 2 ^ n → sets.union a b < 2 ^ n
unfolding sets.union
union-below n a b h p q = past-below (λ k. has a k || has b k) n h (λ k l. ap₂ ◌||◌ (has-past n a k p l) (has-past n b k q l))

pub inter-below : (n a b : ℕ) → n ≤ 16 → a < 2 ^ n → b < 2 ^ n → sets.inter a b < 2 ^ n
unfolding sets.inter
inter-below n a b h p q = past-below (λ k. has a k && has b k) n h (λ k l. ap (λ (x : Bool). x && has b k) (has-past n a k p l))

pub without-below : (n a b : ℕ) → n ≤ 16 → a < 2 ^ n → b < 2 ^ n → sets.without a b < 2 ^ n
unfolding sets.without
without-below n a b h p q = past-below (λ k. has a k && not (has b k)) n h (λ k l. ap (λ (x : Bool). x && not (has b k)) (has-past n a k p l))

pub single-below : (n k : ℕ) → k < n → single k < 2 ^ n
unfolding single
single-below n k h = pow-lt h

pub pair-below : (n m i j : ℕ) → i < n → j < m → pair m i j < n * m
unfolding pair
pair-below n m i j h l =
    let a : suc i * m ≤ n * m = mul-le-mul {n₁ = suc i} {m₁ = m} {n₂ = n} {m₂ = m} h (omega arith) in
    omega arith

ones-few : (d n : ℕ) → ones_in d n ≤ d
unfolding ones_in
ones-few zero n = omega arith
ones-few (suc d) n = omega (arith, ones-few d (n / 2))

pub size_few : (s : ℕ) → sets.size s ≤ 16
unfolding sets.size
size_few s = ones-few 16 s

-- ---- values

pub dom-set : {n m : ℕ} {v : Value} → IsPairsOver n m v → IsSetOver n (prefix_value dom v)
unfolding prefix_value
dom-set {v = v} h =
    record {
      over = h.first_over;
      few = h.first_few;
      bits = sets.dom v.first v.second (bits v);
      is = refl;
      below = subst (λ (k : ℕ). sets.dom v.first v.second (bits v) < 2 ^ k) h.first_over (dom-below v.first v.second (bits v));
    }

pub ran-set : {n m : ℕ} {v : Value} → IsPairsOver n m v → IsSetOver m (prefix_value ran v)
unfolding prefix_value
ran-set {v = v} h =
    record {
      over = h.second_over;
      few = h.second_few;
      bits = sets.ran v.first v.second (bits v);
      is = refl;
      below = subst (λ (k : ℕ). sets.ran v.first v.second (bits v) < 2 ^ k) h.second_over (ran-below v.first v.second (bits v));
    }

pub single-set : {n : ℕ} {v : Value} → IsElementOf n v → IsSetOver n (singleton v)
unfolding singleton
single-set {n = n} {v = v} h =
    record {
      over = h.over;
      few = h.few;
      bits = single (bits v);
      is = refl;
      below = subst (λ (k : ℕ). single k < 2 ^ n) (sym (ap natural h.is)) (single-below n h.place h.below);
    }

pub single-pairs : {n m : ℕ} {u v : Value} → IsElementOf n u → IsElementOf m v → n * m ≤ 16 → IsPairsOver n m (single_pair u v)
unfolding single_pair pair_bit
single-pairs {n = n} {m = m} {u = u} {v = v} h k few =
    let e : pair v.first (bits u) (bits v) ≡ pair m h.place k.place =
    ap (λ (a : ℕ). pair a (bits u) (bits v)) k.over ∙ ap₂ (pair m) (ap natural h.is) (ap natural k.is) in
    let l : single (pair m h.place k.place) < 2 ^ (n * m) =
    single-below (n * m) (pair m h.place k.place) (pair-below n m h.place k.place h.below k.below) in
    record {
      first_over = h.over;
      second_over = k.over;
      first_few = h.few;
      second_few = k.few;
      few = few;
      bits = single (pair v.first (bits u) (bits v));
      is = refl;
      below = subst (λ (a : ℕ). single a < 2 ^ (n * m)) (sym e) l;
    }

-- an operation on bits that keeps within them
module _ (op : ℕ → ℕ → ℕ) (keeps : (n a b : ℕ) → n ≤ 16 → a < 2 ^ n → b < 2 ^ n → op a b < 2 ^ n) where
  below_both : (n : ℕ) (u v : Value) (a b : ℕ) → n ≤ 16 → u.code ≡ pos a → v.code ≡ pos b → a < 2 ^ n → b < 2 ^ n → op (bits u) (bits v) < 2 ^ n
  below_both n u v a b h p q k l = subst (λ (x : ℕ). x < 2 ^ n) (sym (ap₂ op (ap natural p) (ap natural q))) (keeps n a b h k l)

  pub both-sets : {n : ℕ} {u v : Value} → IsSetOver n u → IsSetOver n v → IsSetOver n (with_bits u (op (bits u) (bits v)))
  both-sets {n = n} {u = u} {v = v} h k =
      record {
        over = h.over;
        few = h.few;
        bits = op (bits u) (bits v);
        is = refl;
        below = below_both n u v h.bits k.bits (omega (arith, h.few)) h.is k.is h.below k.below;
      }

  pub both-pairs : {n m : ℕ} {u v : Value} → IsPairsOver n m u → IsPairsOver n m v → IsPairsOver n m (with_bits u (op (bits u) (bits v)))
  both-pairs {n = n} {m = m} {u = u} {v = v} h k =
      record {
        first_over = h.first_over;
        second_over = h.second_over;
        first_few = h.first_few;
        second_few = h.second_few;
        few = h.few;
        bits = op (bits u) (bits v);
        is = refl;
        below = below_both (n * m) u v h.bits k.bits h.few h.is k.is h.below k.below;
      }
