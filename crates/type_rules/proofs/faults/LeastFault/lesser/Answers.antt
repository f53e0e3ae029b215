-- `LeastFault::lesser` meets its contract. Assumes nothing.
use mathlib.Core.Path.{◌≡◌, sym, ap, ◌∙◌}
use native.Mathlib.Omega.{arith}
use borrow.Author.Tests.{eq-eqb, ne_eqb, lt-ltb, le-ltb}
use Rattle.type_rules.specs.TypesByNumber.{fault_key, lesser}
use Rattle.type_rules.proofs.faults.LeastFault.lesser.Goals as goal

pub returns-then-self-eq0 : goal.returns-then-self-eq0
unfolding lesser
returns-then-self-eq0 c =
    let a : fault_key c.args.self ≡ c.self.inside.key = sym (ap fault_key c.self.view_is) ∙ c.self.invariant in
    rw (eq-eqb (fault_key c.args.self) 0 (a ∙ c.if-self-eq0.true))

pub returns-then-other-eq0 : goal.returns-then-other-eq0
unfolding lesser
returns-then-other-eq0 c =
    let a : fault_key c.args.self ≡ c.self.inside.key = sym (ap fault_key c.self.view_is) ∙ c.self.invariant in
    let b : fault_key c.args.other ≡ c.other.inside.key = sym (ap fault_key c.other.view_is) ∙ c.other.invariant in
    rw (ne_eqb (fault_key c.args.self) 0 (λ e. c.if-self-eq0.false (sym a ∙ e)), eq-eqb (fault_key c.args.other) 0 (b ∙ c.if-other-eq0.true))

pub returns-then-other-self : goal.returns-then-other-self
unfolding lesser
returns-then-other-self c =
    let a : fault_key c.args.self ≡ c.self.inside.key = sym (ap fault_key c.self.view_is) ∙ c.self.invariant in
    let b : fault_key c.args.other ≡ c.other.inside.key = sym (ap fault_key c.other.view_is) ∙ c.other.invariant in
    rw (
      ne_eqb (fault_key c.args.self) 0 (λ e. c.if-self-eq0.false (sym a ∙ e)),
      ne_eqb (fault_key c.args.other) 0 (λ e. c.if-other-eq0.false (sym b ∙ e)),
      lt-ltb (fault_key c.args.other) (fault_key c.args.self) (omega (arith, a, b, c.if-other-self.true)),
    )

pub returns : goal.returns
unfolding lesser
returns c =
    let a : fault_key c.args.self ≡ c.self.inside.key = sym (ap fault_key c.self.view_is) ∙ c.self.invariant in
    let b : fault_key c.args.other ≡ c.other.inside.key = sym (ap fault_key c.other.view_is) ∙ c.other.invariant in
    rw (
      ne_eqb (fault_key c.args.self) 0 (λ e. c.if-self-eq0.false (sym a ∙ e)),
      ne_eqb (fault_key c.args.other) 0 (λ e. c.if-other-eq0.false (sym b ∙ e)),
      le-ltb (fault_key c.args.other) (fault_key c.args.self) (omega (arith, a, b, c.if-other-self.false)),
    )
