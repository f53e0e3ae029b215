-- `symbol_spans::Symbols::count_before` meets its contract. The answer is written so that an edit of the test is refused by it. Assumes nothing.
use mathlib.Core.Path.{ap, ◌∙◌}
use Rattle.std.proofs.Common.{rules, tests, take, ◌==◌}
use Rattle.std.proofs.lemmas.Iterator.{YieldsList-from_slice}
use Rattle.std.proofs.lemmas.Iterator.Consumers.{YieldsList-at, YieldsList-from_filter, count_from_yields_List}
use Rattle.std.proofs.lemmas.List.Sums.{length-filter}
use Rattle.symbol_spans.proofs.Symbols.count_before.Goals as goal

pub returns : goal.returns
returns c =
    count_from_yields_List c.filter.result c.count.result c.count.ensures.ran
    (YieldsList-from_filter _ (λ k. k == c.args.kind) (YieldsList-at c.filter.ensures.source (YieldsList-from_slice (take c.args.s c.args.self.now.kinds.now) (search rules))) c.filter.ensures.closure
    (λ x b q k. (search (rules, tests), k.called.met.0.said-raw.1.1.1 ∙ ap (λ y. y.now == c.args.kind) k.shows)))
    ∙ length-filter (λ k. k == c.args.kind) (take c.args.s c.args.self.now.kinds.now)
