-- `Parts::operation` meets its contract.
use Rattle.node_spans.proofs.Parts.operation.Goals as goal

pub returns-clause-first : goal.returns-clause-first
returns-clause-first c = c.operation_spans.ensures.first

pub returns-clause-last : goal.returns-clause-last
returns-clause-last c = c.operation_spans.ensures.last

pub returns-clause-middle : goal.returns-clause-middle
returns-clause-middle c = c.operation_spans.ensures.middle

pub returns-clause-end : goal.returns-clause-end
returns-clause-end c = c.operation_spans.ensures.end

pub returns-clause-small : goal.returns-clause-small
returns-clause-small c = c.operation_spans.ensures.small
