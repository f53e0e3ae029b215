-- `bodies::dossier` meets its contract.
use native.Mathlib.Omega.{arith}
use Rattle.form_nodes.proofs.ReadParts.{exits, next, known}
use Rattle.parser.proofs.BodyNodes.{sequence-known, contents-known, dossier-made, whole_run, text-ends, text-goes-on}
use Rattle.parser.proofs.bodies.dossier.Goals as goal

pub returns-then-read-y : goal.returns-then-read-y
returns-then-read-y c = let h = (known c.in_ok-listed.was c.contents.ensures.0) in let i = next h (known c.in_ok-read.was c.bodies.ensures.0) in rw c.no_dossier.ensures record { exact = text-goes-on i (omega arith); ended = omega arith; made = tt }

pub returns : goal.returns
returns c = let h = (known c.in_ok-listed.was c.contents.ensures.0) in let i = next h (known c.in_ok-read.was c.bodies.ensures.0) in record { exact = text-ends i (omega arith); ended = (omega arith, omega arith); made = dossier-made (contents-known c.in_ok-listed.was c.contents.ensures.1) (sequence-known c.in_ok-read.was c.bodies.ensures.1) }

pub returns-in_err-read : goal.returns-in_err-read
returns-in_err-read c = rw (exits c.from_residual-in_err-read.result c.from_residual-in_err-read.ensures.1) (let h = (known c.in_ok-listed.was c.contents.ensures.0) in let i = next h (known c.in_err-read.was c.bodies.ensures.0) in record { exact = λ w q. whole_run i w q; ended = i.within; made = tt })

pub returns-in_err-listed : goal.returns-in_err-listed
returns-in_err-listed c = rw (exits c.from_residual.result c.from_residual.ensures.1) (let i = (known c.in_err-listed.was c.contents.ensures.0) in record { exact = λ w q. whole_run i w q; ended = i.within; made = tt })
