-- `declared::given_fault` meets its contract. Assumes nothing.
use mathlib.Core.Path.{ap₂, ap, ◌∙◌}
use mathlib.Core.Bool.{Bool}
use Prim.Native.Nat.{ℕ, ◌+◌}
use Rattle.refusals.specs.Refusals.{number_of}
use Rattle.type_rules.specs.TypesByNumber.{entry, is_free, unless_key, key}
use Rattle.declared_names.proofs.declared.given_fault.Goals as goal

pub returns-then-n-eq-GIVEN : goal.returns-then-n-eq-GIVEN
unfolding number_of
returns-then-n-eq-GIVEN c = record { title = λ e. c.unless.ensures ∙ ap (λ (b : Bool). unless_key b (key (c.from-i.result + 1) 8)) c.is_free.ensures ∙ ap₂ (λ (n k : ℕ). unless_key (is_free n) (key (k + 1) 8)) (c.entry-old.ensures ∙ ap (λ (n : ℕ). entry c.args.names.now n) c.from.ensures) c.from-i.ensures; element = λ e. elim (e c.if-n-eq-GIVEN.true) [ ] }

pub returns : goal.returns
unfolding number_of
returns c = record { title = λ e. elim (c.if-n-eq-GIVEN.false e) [ ]; element = λ e. c.unless-2.ensures ∙ ap (λ (b : Bool). unless_key b (key c.from-i.result 8)) c.is_free-2.ensures ∙ ap₂ (λ (n k : ℕ). unless_key (is_free n) (key k 8)) (c.entry-old.ensures ∙ ap (λ (n : ℕ). entry c.args.names.now n) c.from.ensures) c.from-i.ensures }
