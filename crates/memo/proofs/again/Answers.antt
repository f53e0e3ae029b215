-- `memo::again` meets its contract: a cell with the key has its truth, and what it came to is kept. Assumes nothing.
use mathlib.Core.Path.{refl}
use native.Mathlib.Omega.{arith}
use Rattle.memo.proofs.Memos.{cell-more}
use Rattle.memo.proofs.Keys.{found-again, kept-now, cell-fits}
use Rattle.memo.proofs.again.Goals as goal

pub returns-then-memo-at : goal.returns-then-memo-at
returns-then-memo-at c = record { answers = found-again c.requires.again_asked c.requires.memo (omega arith) c.if-memo-at.true; kept = refl; remembers = c.requires.memo }

pub holds-r-requires : goal.holds-r-requires
holds-r-requires c = record { inside = c.requires.again_asked.inside; truth_runs = c.requires.again_asked.runs }

pub overflow_add-memo : goal.overflow_add-memo
overflow_add-memo c = cell-fits c.holds-r.result c.from.ensures c.requires.again_asked.near

pub returns : goal.returns
returns c = record { answers = c.holds-r.ensures.answers; kept = c.holds-r.ensures.kept; remembers = cell-more c.requires.memo (omega arith) (omega arith) (kept-now c.requires.again_asked c.holds-r.ensures.answers c.from.ensures) }
