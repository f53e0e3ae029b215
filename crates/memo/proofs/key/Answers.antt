-- `memo::key` meets its contract: the values of the four slots are behind the conjunct's number. Assumes nothing.
use mir.Facts.{to_z-of_z}
use borrow.Author.Rules.{rules}
use Rattle.std.proofs.lemmas.Option.{IfSome_then}
use Rattle.memo.proofs.Keys.{value_of, key-answered}
use mir.Syntax.{w64}
use Rattle.memo.proofs.key.Goals as goal

pub returns : goal.returns
returns c = IfSome_then c.pushed-4.result c.pushed-4.ensures (λ r b. key-answered c.if-list-lt-MADE.false c.requires.0 c.requires.1 (value_of (to_z-of_z {w = w64} (search rules)) c.in_ok-one.ensures) (value_of (to_z-of_z {w = w64} (search rules)) c.in_ok-two.ensures) (value_of (to_z-of_z {w = w64} (search rules)) c.in_ok-three.ensures) (value_of (to_z-of_z {w = w64} (search rules)) b))
