-- `omissions::rows_free` meets its contract: each row of the walk is free of the slot. Assumes nothing.
use lib.ListN.{get_or}
use Rattle.std.proofs.Common.{◌+◌, rules, tests}
use Rattle.mentions.specs.MentionPromises.{TruthFree}
use Rattle.state_facts.proofs.StrideWalks.{serves_from_StepBy, each_from_all}
use Rattle.state_facts.proofs.OmissionLaws.{stand-within, row-free}
use Rattle.state_facts.proofs.omissions.rows_free.Goals as goal

pub all-requires-clause-callable : goal.all-requires-clause-callable
all-requires-clause-callable c = serves_from_StepBy c.args.from c.args.to 8 c.step_by.ensures.source c.step_by.ensures.step_minus_one c.step_by.ensures.first_take (λ x q k. search (rules, tests)) (λ n l. search (rules, stand-within c.requires n l))

pub returns : goal.returns
returns c = record {
  means = λ e. record {
    each = each_from_all c.args.from c.args.to 8 c.step_by.ensures.source c.step_by.ensures.step_minus_one c.step_by.ensures.first_take c.all.ensures.ran
        (λ i. TruthFree c.args.d.now.table.now (get_or c.args.d.now.rows.now (i + 1) 0) c.args.slot) (λ i q k. (search (rules, tests), search (rules, tests, row-free))) e;
  };
}
