-- `Rows::conjoin` of `conjuncts` meets its contract: both parts of an `and` are shorter than the whole. Assumes nothing.
use mathlib.Core.Path.{refl}
use Prim.Native.Nat.{◌-◌}
use native.Mathlib.Omega.{arith}
use lib.ListN.{length}
use lib.Seq.{length-take-le}
use borrow.Author.Rules.{rules}
use Rattle.search_groups.proofs.ConjunctTables.{middle-some, middle-within, conjoined-cut, conjoined-one, conjoined-both}
use Rattle.search_groups.proofs.conjuncts.Rows.+conjoin.Goals as goal

pub conjoin-requires : goal.conjoin-requires
conjoin-requires t c =
    let w = middle-within c.middle.ensures c.in-Some.is in
    let l = length-take-le c.in-Some.m c.args.table.now (omega arith) in
    search rules

pub conjoin-requires-in-Some : goal.conjoin-requires-in-Some
conjoin-requires-in-Some t c =
    let w = middle-within c.middle.ensures c.in-Some.is in
    let l = length-take-le (length c.args.table.now - 4) c.args.table.now (omega arith) in
    search rules

pub returns-in-Some-clause-put : goal.returns-in-Some-clause-put
returns-in-Some-clause-put t c = conjoined-both (middle-some c.middle.ensures c.in-Some.is) (conjoined-cut (λ h. refl) c.conjoin.ensures.put) (conjoined-cut (λ h. refl) c.conjoin-in-Some.ensures.put)

pub returns-clause-put : goal.returns-clause-put
returns-clause-put t c = conjoined-one c.in_default.ensures c.add.ensures.put
