-- How many values the type of a node has, and its list of functions. Assumes nothing.
use mathlib.Core.Path.{◌≡◌, sym, ap, subst, ◌∙◌}
use mathlib.Core.Logic.{◌⊎◌, inl, inr}
use mathlib.Core.List.{List}
use Prim.Native.Nat.{ℕ, ◌+◌, ◌*◌, ◌^◌, ◌<◌, ◌≤◌}
use native.Mathlib.Nat.{mul-le-mul}
use native.Mathlib.Omega.{arith}
use lib.ListN.{get_or, length, set}
use lib.Seq.{get_or-set_same, get_or-set_other}
use Rattle.form.specs.Tree.{partial}
use Rattle.carriers.specs.StaticRulesCarriers.{arrow_count}
use Rattle.slot_carriers.specs.CellGroups.{Others}
use Rattle.slot_carriers.specs.TypeNodes.{CountIs, FunctionIs, Functions}
use Rattle.std.specs.Simd.Lanes.{put_chunk}
use Rattle.std.proofs.lemmas.Bool.{cases_lt}
use Rattle.std.proofs.lemmas.Simd.{put_chunk_is, length-put_chunk, get_or-put_chunk_below, get_or-put_chunk_above, get_or-put_chunk_at}
use borrow.Rule.Slice.PartMut.{put_mid}

pub product-low : (a b : ℕ) → a < 65536 → b < 65536 → a * b ≤ 65535 * 65535
product-low a b h k = mul-le-mul (at_most a h) (at_most b k)
  where
    at_most : (n : ℕ) → n < 65536 → n ≤ 65535
    at_most n h = omega arith

-- ---- how many

module _ (s a b r : ℕ) where
  power : (n : ℕ) → (n * 1 ≤ 16 → r ≡ arrow_count partial n 1) → n ≤ 16 → r ≡ 2 ^ n
  unfolding arrow_count
  power n f h = f (omega arith)

  pub count-subsets : s ≡ 3 → (a * 1 ≤ 16 → r ≡ arrow_count partial a 1) → CountIs s a b r
  count-subsets e f =
      record {
        elements = λ q. absurd (omega arith);
        range = λ q. absurd (omega arith);
        subsets = λ q h. power a f h;
        relations = λ q h. absurd (omega arith);
        partials = λ q h. absurd (omega arith);
        totals = λ q k h. absurd (omega arith);
      }

  pub count-relations : s ≡ 4 → (a * b * 1 ≤ 16 → r ≡ arrow_count partial (a * b) 1) → CountIs s a b r
  count-relations e f =
      record {
        elements = λ q. absurd (omega arith);
        range = λ q. absurd (omega arith);
        subsets = λ q h. absurd (omega arith);
        relations = λ q h. power (a * b) f h;
        partials = λ q h. absurd (omega arith);
        totals = λ q k h. absurd (omega arith);
      }

-- ---- the list

split : (d n : ℕ) → d < n + 1 → (d < n) ⊎ (d ≡ n)
split d n h = go (cases_lt d n)
  where
    go : (d < n) ⊎ (n ≤ d) → (d < n) ⊎ (d ≡ n)
    go (inl k) = inl k
    go (inr k) = inr (omega arith)

pub functions-next : (s a b at n : ℕ) (m r : List ℕ) (x : ℕ) → at + n < length m → Functions s a b at n m → r ≡ set m (at + n) x → FunctionIs s a b n x
    → Functions s a b at (n + 1) r
functions-next s a b at n m r x low f e v d h = go (split d n h)
  where
    before : d < n → d + at ≡ n + at → ⊥
    before k q = omega arith

    go : (d < n) ⊎ (d ≡ n) → FunctionIs s a b d (get_or r (at + d) 0)
    go (inl k) =
        subst (FunctionIs s a b d) (sym (ap (λ (z : List ℕ). get_or z (at + d) 0) e ∙ get_or-set_other m (at + n) (at + d) x 0 (λ q. before k (omega arith)))) (f d k)
    go (inr q) =
        subst (λ (k : ℕ). FunctionIs s a b k (get_or r (at + k) 0)) (sym q)
        (subst (FunctionIs s a b n) (sym (ap (λ (z : List ℕ). get_or z (at + n) 0) e ∙ get_or-set_same m (at + n) x 0 low)) v)

pub functions-none : (s a b at : ℕ) (m : List ℕ) → Functions s a b at 0 m
functions-none s a b at m d h = absurd (omega arith)

-- a list is written in the part of the cells from `at` on
module _ (at n : ℕ) (m p : List ℕ) (long : length p ≡ n) (room : at + n ≤ length m) where
  chunk : put_mid at n m p ≡ put_chunk at m p
  chunk = ap (λ (k : ℕ). put_mid at k m p) (sym long) ∙ sym (put_chunk_is at m p (omega arith))

  at_place : (i : ℕ) → get_or (put_mid at n m p) i 0 ≡ get_or (put_chunk at m p) i 0
  at_place i = ap (λ (z : List ℕ). get_or z i 0) chunk

  pub others-part : Others 0 m at n (put_mid at n m p)
  others-part =
      record {
        below = λ i h. at_place i ∙ get_or-put_chunk_below at m p i 0 h;
        above = λ i h. at_place i ∙ get_or-put_chunk_above at m p i 0 (omega arith);
        same_length = ap length chunk ∙ length-put_chunk at m p;
      }

  zero_behind : (d : ℕ) → d ≡ 0 + d
  zero_behind d = omega arith

  pub functions-part : (s a b : ℕ) → Functions s a b 0 n p → Functions s a b at n (put_mid at n m p)
  functions-part s a b f d h = subst (FunctionIs s a b d) (sym (at_place (at + d) ∙ get_or-put_chunk_at at m p d 0 (omega arith) (omega arith) ∙ ap (λ (k : ℕ). get_or p k 0) (zero_behind d))) (f d h)
