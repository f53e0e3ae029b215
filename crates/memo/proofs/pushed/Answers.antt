-- `memo::pushed` meets its contract: a value that has room is behind the key. Assumes nothing.
use Rattle.memo.proofs.Digits.{digit-behind}
use Rattle.memo.proofs.pushed.Goals as goal

pub returns-then-x-lt-DIGIT : goal.returns-then-x-lt-DIGIT
returns-then-x-lt-DIGIT c = digit-behind c.try_from.result c.ranges.v c.checked_add.ensures c.in_ok-checked_add.was c.try_from.ensures c.ok.ensures.value c.in_ok-x.was c.if-x-lt-DIGIT.true
