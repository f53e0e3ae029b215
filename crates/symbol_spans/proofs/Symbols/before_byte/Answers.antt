-- `symbol_spans::Symbols::before_byte` meets its contract: what is found is below the last place. The answer is written so that an edit of what is found is refused by it. Assumes nothing.
use Rattle.std.proofs.Common.{◌≡◌, rules}
use Rattle.std.specs.Prelude.{ℕ, ◌<◌, ◌≤◌, Option, None, Some, unwrap_or, MatchOption}
use Rattle.std.proofs.lemmas.Iterator.{first_from_Range}
use native.Mathlib.Omega.{arith}
use Rattle.symbol_spans.proofs.Symbols.before_byte.Goals as goal

found-below : (o : Option ℕ) (n : ℕ) → MatchOption o ((k : ℕ) → 0 ≤ k → k < n → Unit {0}) (λ i. (0 ≤ i) × (i < n) × Unit {0} × ((k : ℕ) → 0 ≤ k → k < i → Unit {0})) → unwrap_or o n ≤ n
found-below None n h = omega arith
found-below (Some i) n h = omega (arith, h.1)

pub returns : goal.returns
returns c = rw c.unwrap_or.ensures (found-below c.find.result 4096 (first_from_Range _ _ _ _ (λ i. Unit {0}) (λ i. Unit {0}) c.find.ensures.ran (λ i q k. tt) (λ i q k. (search rules, tt))))
