-- `nest_steps::next_bit` meets its contract: the first bit that is set. Assumes nothing.
use Rattle.std.proofs.Common.{◌≡◌, rules, tests}
use Rattle.std.specs.Prelude.{true, false}
use Rattle.std.proofs.lemmas.Iterator.{first_from_Range}
use Rattle.sets.specs.Sets.{has}
use Rattle.nest_steps.proofs.NextBits.{set-bit, unset-bit, first-sought}
use Rattle.nest_steps.proofs.next_bit.Goals as goal

pub returns : goal.returns
returns c = first-sought _ c.unwrap_or.ensures c.requires.0 (first_from_Range _ _ _ _ (λ i. has c.args.mask i ≡ true) (λ i. has c.args.mask i ≡ false) c.find.ensures.ran
    (λ i q k. search (rules, tests, set-bit c.args.mask i)) (λ i q k. (search (rules, tests), search (rules, tests, unset-bit c.args.mask i))))
