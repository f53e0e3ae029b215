-- `kinds::start_of` meets its contract: each arm agrees with the table.
use mathlib.Core.Path.{◌≡◌, refl}
use mathlib.Core.Logic.{inl, inr}
use borrow.Author.Rules.{rules}
use native.Mathlib.Omega.{arith}
use Rattle.lexical.specs.Kinds.{code_of, lookup, is}
use Rattle.form_nodes.proofs.Classes.{started, started_by, unstarted}
use Rattle.form_nodes.proofs.kinds.start_of.Goals as goal

pub returns-in-29 : goal.returns-in-29
unfolding code_of lookup is
returns-in-29 c = elim c.in-29.in-29-own.keys1 [ inl q ↦ started_by q refl (omega (arith, q)) | inr q ↦ started_by q refl (omega (arith, q)) ]

pub returns-in-29-2 : goal.returns-in-29-2
unfolding code_of lookup is
returns-in-29-2 c = started 63 2 (refl, (refl, tt)) (omega arith) (omega arith) (omega arith)

pub returns-in-17 : goal.returns-in-17
unfolding code_of lookup is
returns-in-17 c = started_by c.in-17.is refl c.in-17.is

pub returns-in-19 : goal.returns-in-19
unfolding code_of lookup is
returns-in-19 c = started_by c.in-19.is refl c.in-19.is

pub returns-in-47 : goal.returns-in-47
unfolding code_of lookup is
returns-in-47 c = started_by c.in-47.is refl c.in-47.is

pub returns-in-1-to-5 : goal.returns-in-1-to-5
unfolding code_of lookup is
returns-in-1-to-5 c = started 1 5 (refl, (refl, (refl, (refl, (refl, tt))))) (omega arith) (omega arith) (omega arith)

pub returns-in_default : goal.returns-in_default
unfolding code_of lookup is
returns-in_default c = unstarted (omega arith)

pub returns-in_default-2 : goal.returns-in_default-2
unfolding code_of lookup is
returns-in_default-2 c =
    let n : c.args.k ≡ 29 → ⊥ = search rules in
    let m : c.args.k ≡ 31 → ⊥ = search rules in
    unstarted (omega (arith, n, m))

pub returns-in_default-3 : goal.returns-in_default-3
unfolding code_of lookup is
returns-in_default-3 c = unstarted (omega arith)
