-- One part behind the places that were looked at, over any test of places. Assumes nothing.
use mathlib.Core.Path.{◌≡◌, refl, sym, ◌∙◌, subst}
use mathlib.Core.Bool.{Bool, true, false, true≢false}
use Prim.Native.Nat.{ℕ, ◌+◌, ◌-◌, ◌<◌, ◌≤◌, min}
use native.Mathlib.Omega.{arith}
use native.Mathlib.Decide.{dec_lt}
use Rattle.nest.specs.NestStepsPartTests.{Looked}
use Rattle.part_setup.proofs.PartTestsLookedChecks.{looked-part, looked-join}

-- from `from` on the search came to `to`, in a part that ends at `last`: it goes on from there, or stops at a failing place
pub record Continued (g : ℕ → Bool) (from end total last to : ℕ) (failed : Bool) : Type 0 where
  pub low : from ≤ to
  pub high : to ≤ end
  pub inside : to ≤ total
  pub onward : failed ≡ false → Looked g from to to false
  pub behind : failed ≡ false → to < end → last ≤ to
  pub stopped : failed ≡ true → Looked g from (min end total) to true

-- a failing place that was found is found up to a later end too
stopped-later : (g : ℕ → Bool) (from m n to : ℕ) → m ≤ n → Looked g from m to true → Looked g from n to true
stopped-later g from m n to l w = record {
  low = w.low;
  high = omega (arith, w.high);
  past = w.past;
  whole = λ e. absurd (true≢false e);
  fault = λ e. (omega (arith, (w.fault e).0), (w.fault e).1);
}

module _ (g : ℕ → Bool) (from end total begin size at r : ℕ) (before : Looked g from at at false) (lb : begin ≤ at) (le : at < end) (lt : begin + size ≤ total) (la : at ≤ total) where
  -- the part has no place from there on
  passed_over : (failed : Bool) → r ≡ at - begin → failed ≡ false → size ≤ at - begin → Continued g from end total (begin + size) (begin + r) failed
  passed_over failed e f h =
      let s : begin + r ≡ at = omega arith in
      record {
        low = omega (arith, before.low);
        high = omega arith;
        inside = omega arith;
        onward = λ k. subst (λ (n : ℕ). Looked g from n n false) (sym s) before;
        behind = λ k l. omega arith;
        stopped = λ k. absurd (true≢false (sym k ∙ f));
      }

  -- it has, and they are looked at
  gone-through : (failed : Bool) → at - begin < size → Looked (λ (q : ℕ). g (begin + q)) (at - begin) (min (end - begin) size) r failed
      → Continued g from end total (begin + size) (begin + r) failed
  gone-through failed h w =
      let s : begin + (at - begin) ≡ at = omega arith in
      let m : begin + min (end - begin) size ≡ min end (begin + size) = omega arith in
      let v : Looked g at (min end (begin + size)) (begin + r) failed
      = subst (λ (n : ℕ). Looked g n (min end (begin + size)) (begin + r) failed) s
      (subst (λ (n : ℕ). Looked g (begin + (at - begin)) n (begin + r) failed) m
      (looked-part (λ (q : ℕ). g (begin + q)) g begin size (λ q l. refl) (at - begin) (min (end - begin) size) r failed (omega arith) w)) in
      record {
        low = omega (arith, before.low, v.low);
        high = omega (arith, v.high);
        inside = omega (arith, v.high);
        onward = λ k.
            let e : begin + r ≡ min end (begin + size) = v.whole k in
            looked-join g from at (begin + r) (begin + r) false before
            (subst (λ (b : Bool). Looked g at (begin + r) (begin + r) b) k (subst (λ (n : ℕ). Looked g at n (begin + r) failed) (sym e) v));
        behind = λ k l. omega (arith, v.whole k);
        stopped = λ k. stopped-later g from (min end (begin + size)) (min end total) (begin + r) (omega arith)
            (looked-join g from at (min end (begin + size)) (begin + r) true before (subst (λ (b : Bool). Looked g at (min end (begin + size)) (begin + r) b) k v));
      }

  pub continued : (failed : Bool) → (size ≤ at - begin → (r ≡ at - begin) × (failed ≡ false))
      → (at - begin < size → Looked (λ (q : ℕ). g (begin + q)) (at - begin) (min (end - begin) size) r failed)
      → Continued g from end total (begin + size) (begin + r) failed
  continued failed past looked =
      elim (dec_lt (at - begin) size) [
        | yes l ↦ gone-through failed l (looked l)
        | no l ↦ (let h : size ≤ at - begin = omega arith in passed_over failed (past h).0 (past h).1 h)
      ]
