-- A text over 32,768 bytes is refused by its length alone, so that its first 32,769 bytes say what is printed for it. Assumes nothing.
use mathlib.Core.Path.{◌≡◌, sym, ap, ◌∙◌}
use mathlib.Core.List.{List}
use Prim.Native.Nat.{ℕ}
use native.Mathlib.Decide.{dec_lt}
use native.Mathlib.Omega.{arith}
use lib.ListN.{length, take}
use lib.Seq.{length-take-le, take_all}
use Rattle.static_rules.specs.Read.{read}
use Rattle.obligations.specs.Report.{reported, report}
use Rattle.reports.proofs.ReadTexts.{long-read}

-- "A text over 32,768 bytes needs only its first 32,769 to be read."
pub first-bytes : (t : List ℕ) → read t ≡ read (take 32769 t)
first-bytes t = elim (dec_lt 32768 (length t)) [
  | yes h ↦ long-read t h ∙ sym (long-read (take 32769 t) (omega (arith, length-take-le 32769 t h)))
  | no h ↦ ap read (sym (take_all 32769 t (omega arith)))
]

pub report-first-bytes : (t : List ℕ) → report t ≡ report (take 32769 t)
unfolding report
report-first-bytes t = ap reported (first-bytes t)
