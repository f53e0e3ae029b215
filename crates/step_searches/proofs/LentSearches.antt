-- What a search goes over is asked as its invariant says. Assumes nothing.
use mathlib.Core.Path.{◌≡◌, subst}
use Rattle.plans.specs.declared.PartSearch.{PartSearch}
use Rattle.step_searches.specs.StepPromises.{StepsAsked}

pub asked : {v w : PartSearch} → v ≡ w → StepsAsked v.table.now v.plan.now v.cells.now v.part → StepsAsked w.table.now w.plan.now w.cells.now w.part
asked e a = subst (λ (v : PartSearch). StepsAsked v.table.now v.plan.now v.cells.now v.part) e a
