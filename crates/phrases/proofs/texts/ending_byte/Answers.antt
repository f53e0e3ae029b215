-- `phrases::texts::ending_byte` meets its contract: the byte of the ending at a place among all endings. Assumes nothing.
use Rattle.lexical.specs.Lists.{bytes}
use Rattle.phrases.proofs.EndingBytes.{piece-at, is_byte}
use Rattle.phrases.proofs.texts.ending_byte.Goals as goal

pub returns-clause-prime : goal.returns-clause-prime
unfolding bytes
returns-clause-prime c e = is_byte c.byte_of.result 39 (piece-at c.in_ok-get.field-0.now c.byte_of.result c.byte_of.ensures c.in_ok-get.ensures.lookup.1 e)

pub returns-clause-query : goal.returns-clause-query
unfolding bytes
returns-clause-query c e = is_byte c.byte_of.result 63 (piece-at c.in_ok-get.field-0.now c.byte_of.result c.byte_of.ensures c.in_ok-get.ensures.lookup.1 e)

pub returns-clause-shriek : goal.returns-clause-shriek
unfolding bytes
returns-clause-shriek c e = is_byte c.byte_of.result 33 (piece-at c.in_ok-get.field-0.now c.byte_of.result c.byte_of.ensures c.in_ok-get.ensures.lookup.1 e)
