-- `symbols::texts::scan_symbols` meets its contract: the symbols taken so far, and the rest of the text from here. Assumes nothing.
use native.Mathlib.Omega.{arith}
use borrow.Author.Rules.{rules}
use Rattle.name_numbers.proofs.ScanLaws.{scanning-start, scanning_gap, scanning-symbol, scanned-unlisted, scanned-many, scanned-all, token-small}
use Rattle.symbols.proofs.texts.scan_symbols.Goals as goal

pub loop-at-init : goal.loop-at-init
loop-at-init c = scanning-start c.args.s.now c.args.codes.now c.args.starts.now c.args.values.now

pub loop-at-preserved-in-Gap : goal.loop-at-preserved-in-Gap
loop-at-preserved-in-Gap c = scanning_gap c.loop-at.invariant c.loop-at-test.true c.token_at-t.ensures c.in-Gap.is

pub returns-in-Unlisted : goal.returns-in-Unlisted
returns-in-Unlisted c = scanned-unlisted c.loop-at.invariant c.loop-at-test.true c.token_at-t.ensures c.in-Unlisted.is

pub returns-then-n-ge-SYMBOLS : goal.returns-then-n-ge-SYMBOLS
returns-then-n-ge-SYMBOLS c = scanned-many c.loop-at.invariant c.loop-at-test.true c.token_at-t.ensures c.in-Listed.is c.if-n-ge-SYMBOLS.true

pub overflow_add-at-in-Listed : goal.overflow_add-at-in-Listed
overflow_add-at-in-Listed c = let sm = token-small c.args.s.now c.loop-at.at c.loop-at-test.true c.token_at-t.ensures c.in-Listed.is in search rules

pub loop-at-smaller : goal.loop-at-smaller
loop-at-smaller c = let sm = token-small c.args.s.now c.loop-at.at c.loop-at-test.true c.token_at-t.ensures c.in-Listed.is in omega arith

pub loop-at-preserved : goal.loop-at-preserved
loop-at-preserved c = scanning-symbol c.loop-at.invariant c.loop-at-test.true c.token_at-t.ensures c.in-Listed.is c.if-n-ge-SYMBOLS.false (search rules) (search rules) (search rules)

pub returns : goal.returns
returns c = scanned-all c.loop-at.invariant c.loop-at-test.false
