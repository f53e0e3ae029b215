-- `lines::byte_of` meets its contract. Assumes nothing.
use mathlib.Core.Path.{sym, ap}
use Rattle.lexical.specs.Lists.{bytes}
use Rattle.lexical.specs.SymbolPromises.{ending_is}
use Rattle.lexical.specs.declared.Ending.{Ending}
use Rattle.obligations.specs.Report.{ending_bytes}
use Rattle.lines.proofs.byte_of.Goals as goal

pub returns-in-Plain : goal.returns-in-Plain
returns-in-Plain c = sym (ap (λ (e : Ending). ending_bytes (ending_is e)) c.in-Plain.is)

pub returns-in-Prime : goal.returns-in-Prime
unfolding bytes
returns-in-Prime c = sym (ap (λ (e : Ending). ending_bytes (ending_is e)) c.in-Prime.is)

pub returns-in-Query : goal.returns-in-Query
unfolding bytes
returns-in-Query c = sym (ap (λ (e : Ending). ending_bytes (ending_is e)) c.in-Query.is)

pub returns-in-Shriek : goal.returns-in-Shriek
unfolding bytes
returns-in-Shriek c = sym (ap (λ (e : Ending). ending_bytes (ending_is e)) c.in-Shriek.is)
