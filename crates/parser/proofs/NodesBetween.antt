-- The nodes from one place to another.
use mathlib.Core.Path.{◌≡◌, ap, ◌∙◌}
use mathlib.Core.List.{List, []}
use mathlib.Core.Logic.{inl, inr}
use Prim.Native.Nat.{ℕ, ◌-◌}
use native.Mathlib.Omega.{arith}
use lib.ListN.{length, take, drop, length-drop}
use lib.Seq.{length-take-le}
use Rattle.std.specs.Prelude.{Option, None, Some, unwrap_or}
use Rattle.std.specs.Slice.{IsGetRangeResult}
use Rattle.std.proofs.Common.{Bor}
use Rattle.parser.specs.Sections.{PartOf}

-- some of the nodes
pub part-cut : (nodes : List ℕ) (from to : ℕ) (o : Option (Bor (List ℕ))) (none r : Bor (List ℕ)) → IsGetRangeResult nodes from to o → none.now ≡ [] → r ≡ unwrap_or o none
    → PartOf nodes from to r.now
part-cut nodes from to None none r h e q =
    let empty : r.now ≡ [] = ap (λ (b : Bor (List ℕ)). b.now) q ∙ e in
    record {
      fits = λ l. let z : length r.now ≡ 0 = ap (λ (x : List ℕ). length x) empty in absurd (omega arith);
      part = λ p k. elim h.0 [ inl w ↦ absurd (omega arith) | inr w ↦ absurd (omega arith) ];
      none = λ u. empty;
    }
part-cut nodes from to (Some x) none r h e q =
    let is : r.now ≡ take (to - from) (drop from nodes) = ap (λ (b : Bor (List ℕ)). b.now) q ∙ h.0.2 in
    let d = length-drop from nodes in
    let l = length-take-le (to - from) (drop from nodes) (omega (arith, h.0.0, h.0.1)) in
    let long : length r.now ≡ to - from = ap (λ (y : List ℕ). length y) is ∙ l in
    record { fits = λ k. omega (arith, h.0.0, h.0.1); part = λ p k. is; none = λ u. absurd (u h.0.0 h.0.1) }
