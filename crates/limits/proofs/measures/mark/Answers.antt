-- `measures::mark` meets its contract: the declarations behind are marked. Assumes nothing.
use borrow.Author.Rules.{rules}
use mathlib.Core.Bool.{Bool, not}
use mathlib.Core.List.{List}
use mathlib.Core.Path.{◌≡◌, ap, ap₂, ◌∙◌}
use Prim.Native.Nat.{ℕ, ◌+◌, ◌-◌, ◌/◌, ◌%◌}
use native.Mathlib.Omega.{arith}
use lib.Dec.{eqb}
use lib.ListN.{length, drop, take, length-drop}
use lib.Seq.{get_or-drop}
use Rattle.std.proofs.lemmas.List.{take_rest}
use Rattle.limits.specs.DossierSizesByNumber.{entry_size}
use Rattle.limits.proofs.SizeMarks.{mark-start, mark-back, mark-end, begins-whole, begins-on, set-one}
use Rattle.limits.proofs.measures.mark.Goals as goal

-- the nodes behind the name's
size-behind : (on : Bool) (d : List ℕ) → entry_size on (take (length d - 4) (drop 4 d)) 0 ≡ entry_size on d 4
size-behind on d = rw (take_rest d 4, get_or-drop 4 d 3 0, get_or-drop 4 d 1 0, get_or-drop 4 d 0 0)

pub loop-d-init : goal.loop-d-init
loop-d-init g c =
    let rest = c.into_iter-d-iterator.result.iter.rest.now in
    let is : rest ≡ c.args.code.now = search rules in
    (search rules, begins-whole c.args.code.now rest is, mark-start (not (eqb g.row.ON 0)) c.args.code.now c.args.shift (length rest / 8) c.args.bounds.now (ap (λ (l : List ℕ). length l / 8) is))

pub size_at-n-requires : goal.size_at-n-requires
size_at-n-requires g c =
    let l = c.in-Some.ensures.steps.2.2 ∙ c.loop-d.invariant.0 in
    let t = ap length (take_rest c.in-Some.d.now 4) ∙ length-drop 4 c.in-Some.d.now in omega arith

pub loop-d-preserved : goal.loop-d-preserved
loop-d-preserved g c =
    let d = c.in-Some.d.now in
    let rest = c.loop-d.d-iterator.iter.rest.now in
    let behind = c.next.new.self.iter.rest.now in
    let after = c.in-Some.ensures.steps.2.0 in
    let cut = c.in-Some.ensures.steps.2.1 in
    let size = c.loop-d.invariant.0 in
    let long = c.in-Some.ensures.steps.2.2 ∙ size in
    let over = c.in-Some.ensures.steps.2.3 ∙ ap (λ (n : ℕ). length rest % n) size in (
      c.in-Some.ensures.steps.0 ∙ size,
      begins-on c.args.code.now d rest behind after cut c.loop-d.invariant.1,
      mark-back (not (eqb g.row.ON 0)) c.args.code.now c.args.shift d rest behind after c.args.bounds.now c.loop-d.bounds _ cut long over c.loop-d.invariant.1 c.loop-d.invariant.2
          (set-one c.loop-d.bounds _ (c.from.result + c.from-in-loop-d.result) _ _ _ c.put.ensures (ap₂ ◌+◌ c.from.ensures c.from-in-loop-d.ensures) (c.size_at-n.ensures ∙ size-behind (not (eqb g.row.ON 0)) d)),
    )

pub returns : goal.returns
returns g c =
    let few = c.in-None.ensures.steps.2 in
    let size = c.loop-d.invariant.0 in
    mark-end (not (eqb g.row.ON 0)) c.args.code.now c.args.shift (length c.loop-d.d-iterator.iter.rest.now / 8) c.args.bounds.now c.loop-d.bounds (omega arith) c.loop-d.invariant.2
