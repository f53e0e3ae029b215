use Prim.Native.Nat.{◌≤◌}
use Rattle.mentions.specs.MentionPromises.{TruthFree}
use Rattle.memo.specs.MemoPromises.{Lists}
use Rattle.memo.proofs.described.Given as goal

abbrev pub invariant-loop-s : goal.invariant-loop-s
invariant-loop-s l = TruthFree l.t l.end 63 × Lists l.t l.end l.s l.list × (l.s ≤ 63)
