-- `text_places::line_start` meets its contract. Assumes nothing.
use mathlib.Core.Path.{◌≡◌, refl, sym, subst}
use mathlib.Core.List.{List}
use Prim.Native.Nat.{ℕ, ◌+◌}
use Rattle.std.proofs.Common.{arith, rules, tests}
use Rattle.std.specs.Option.{MatchOption}
use Rattle.std.specs.Prelude.{Option, Some, None}
use Rattle.text_places.specs.PlacePromises.{LineStart}
use Rattle.text_places.proofs.LineLaws.{behind-last, no-line}
use Rattle.text_places.proofs.line_start.Goals as goal

starts : (text : List ℕ) (p r : ℕ) (o : Option ℕ) (P : ℕ → Type 0) → MatchOption o (r ≡ 0) P → ((k : ℕ) → P k → r ≡ k + 1) → (o ≡ None → LineStart text p 0) → ((k : ℕ) → o ≡ Some k → LineStart text p (k + 1))
    → LineStart text p r
starts text p r None P m f n s = subst (LineStart text p) (sym m) (n refl)
starts text p r (Some k) P m f n s = subst (LineStart text p) (sym (f k m)) (s k refl)

pub returns : goal.returns
returns c =
    let text = c.args.text.now in
    let p = c.args.p in
    starts text p c.map_or.result c.rposition.result _ c.map_or.ensures (λ k q. omega (arith, q)) (λ e. let u = rw e at c.rposition.ensures.runs in no-line text p (λ j b q. search (rules, tests)))
    (λ k e. let u = rw e at c.rposition.ensures.runs in behind-last text p k (search (rules, tests)) (search (rules, tests)) (λ j a b q. search (rules, tests)))
