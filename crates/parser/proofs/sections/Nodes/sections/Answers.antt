-- `sections::Nodes::sections` meets its contract: each part begins behind those in front of it.
use mathlib.Core.Path.{refl}
use native.Mathlib.Omega.{arith}
use Rattle.parser.proofs.PartPlaces.{laid, run_is, state-from, item-is}
use Rattle.parser.proofs.sections.Nodes.sections.Goals as goal

pub returns : goal.returns
returns c =
    let r₁ = c.run-entries.ensures.0 (omega arith) in
    let r₂ = c.run-givens.ensures.0 r₁.within in
    let r₃ = c.run-abstracts.ensures.0 r₂.within in
    record {
      entries_inside = r₁.within;
      givens_inside = r₂.within;
      abstracts_inside = r₃.within;
      operations_inside = omega arith;
      exact = λ d ρ l e.
          let x = laid d ρ c.args.self.now.numbers.now c.args.self.now.end l e in
          let e₁ = run_is x.entries refl r₁.exact in
          let e₂ = run_is x.givens e₁ r₂.exact in
          let e₃ = run_is x.abstracts e₂ r₃.exact in
          let e₄ = state-from x.concretes e₃ c.state-concretes.ensures.exact in
          let e₅ = state-from x.ainit e₄ c.state-ainit.ensures.exact in
          let e₆ = item-is x.cinit e₅ c.skip-cinit.ensures.exact in
          let e₇ = item-is x.retrieve e₆ c.skip-retrieve.ensures.exact in
          let e₈ = item-is x.operations e₇ c.skip-operations.ensures.exact in
          record { entries = e₁; givens = e₂; abstracts = e₃; concretes = e₄; ainit = e₅; cinit = e₆; retrieve = e₇; operations = e₈ };
    }
