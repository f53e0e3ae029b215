use Rattle.std.specs.Prelude.{◌≡◌, ℕ, Bool, true, Option, ◌+◌, ◌≤◌}
use Rattle.states.specs.Promises.{RowsAsked}
use Rattle.state_facts.specs.FalseConjuncts.{FirstIs}
use Rattle.state_facts.proofs.conjuncts.first_false.Given as goal

abbrev pub invariant-loop-i : goal.invariant-loop-i
invariant-loop-i g l =
    RowsAsked l.d.table.now l.d.rows.now l.i l.to l.initial.slots × (l.slots ≡ l.initial.slots)
    × ((h : ℕ → Bool) → ((i : ℕ) (b : Bool) → i + 8 ≤ 16384 → goal.F-post g l.counts i b → b ≡ h i) → (r : Option ℕ)
    → FirstIs (λ (i : ℕ). h i ≡ true) l.d.table.now l.d.rows.now l.i l.to l.initial.slots r
    → FirstIs (λ (i : ℕ). h i ≡ true) l.d.table.now l.d.rows.now l.from l.to l.initial.slots r)
