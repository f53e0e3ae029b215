-- What a search goes over is of the dossier that it was made of. Assumes nothing.
use mathlib.Core.Path.{◌≡◌, sym, subst}
use mathlib.Core.List.{List}
use Prim.Native.Nat.{ℕ}
use Rattle.form.specs.Tree as tree
use Rattle.search_groups.specs.declared.Dossier.{Dossier}
use Rattle.plans.specs.declared.Part.{Part}
use Rattle.state_facts.specs.Reads.{StatesRead, SearchAsked}

module _ {x d : Dossier} (e : x ≡ d) where
  pub of-dossier : (X : List ℕ → List ℕ → List ℕ → Type 0) → X d.table.now d.rows.now d.firsts.now → X x.table.now x.rows.now x.firsts.now
  of-dossier X v = subst (λ (z : Dossier). X z.table.now z.rows.now z.firsts.now) (sym e) v

  pub to-dossier : (X : List ℕ → List ℕ → List ℕ → Type 0) → X x.table.now x.rows.now x.firsts.now → X d.table.now d.rows.now d.firsts.now
  to-dossier X v = subst (λ (z : Dossier). X z.table.now z.rows.now z.firsts.now) e v

  module _ {cells : List ℕ} {p : Part} where
    pub state-searched : SearchAsked d.table.now d.rows.now d.firsts.now cells p → SearchAsked x.table.now x.rows.now x.firsts.now cells p
    state-searched = of-dossier (λ (t r f : List ℕ). SearchAsked t r f cells p)

    pub states-searched : {m : tree.Dossier} → StatesRead d.table.now d.rows.now d.firsts.now cells p m → StatesRead x.table.now x.rows.now x.firsts.now cells p m
    states-searched {m} = of-dossier (λ (t r f : List ℕ). StatesRead t r f cells p m)
