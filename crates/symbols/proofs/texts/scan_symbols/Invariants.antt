use lib.ListN.{length}
use Prim.Native.Nat.{◌-◌}
use Rattle.name_numbers.proofs.ScanLaws.{Scanning}
use Rattle.symbols.proofs.texts.scan_symbols.Given as goal

abbrev pub invariant-loop-at : goal.invariant-loop-at
invariant-loop-at l = Scanning l.s l.initial.codes l.initial.starts l.initial.values l.codes l.starts l.values l.at l.n

abbrev pub decreases-loop-at : goal.decreases-loop-at
decreases-loop-at l = length l.s - l.at
