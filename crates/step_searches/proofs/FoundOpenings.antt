-- What the searches of the initialisation part are asked, and what they find by numbers. Assumes nothing.
-- Form 8: a law for each group and each search, as in FoundSteps: the part is another one, and so are the sizes that are meant.
use mathlib.Core.Path.{◌≡◌, sym, ap, subst, ◌∙◌}
use mathlib.Core.List.{List}
use Prim.Native.Nat.{ℕ, ◌<◌, ◌≤◌}
use native.Mathlib.Omega.{arith}
use lib.ListN.{length}
use lib.IntN.{ℤ}
use Rattle.form.specs.Tree.{Dossier}
use Rattle.static_rules.specs.Carriers.{Variable}
use Rattle.static_rules.specs.Scope.{unprimed}
use Rattle.static_rules.specs.Limits.{binding_count}
use Rattle.carriers.proofs.Bindings.{bindings-some}
use Rattle.points.specs.Points.{Point, number_of, placed, Shows}
use Rattle.points.specs.Searches.{Sought}
use Rattle.seek.specs.SeekPromises.{SeekAsked, SeekAnswers}
use Rattle.plans.specs.declared.Part.{Part}
use Rattle.part_setup.specs.PartTestsPartGroups.{opening_part}
use Rattle.part_setup.specs.PartTestsPartsByNumber.{abstract_at, initial, initial_match}
use Rattle.step_searches.specs.StepPromises.{Bindable, OpeningSearches, abstract_group, concrete_group}
use Rattle.step_searches.proofs.FoundNumbers.{origin, finds, Group, group-span, put, ask, has, kept_above}
use Rattle.step_searches.proofs.FoundSteps.{from_concrete}
use Rattle.meaning.proofs.UpwardNumbers.{upward-long}

module _ {table plan cells : List ℕ} {p : Part} {d : Dossier} (x : OpeningSearches table plan cells p d) where
  abbrev us : List Variable
  us = unprimed d d.abstract

  abbrev cs : List Variable
  cs = unprimed d d.concrete

  abbrev here : Part
  here = opening_part us cs

  by_part : (X : Part → Type 0) → X here → X p
  by_part X v = subst X (sym x.part_is) v

  abstracts : Group cells 0 us
  abstracts = record { each = x.celled.abstracts }

  concretes : Group cells 8 cs
  concretes = record { each = x.celled.concretes }

  pub sizes : ((0 < p.concretes.bindings) × (p.concretes.bindings ≤ 4096)) × ((0 < p.meeting.bindings) × (p.meeting.bindings ≤ 4096))
  sizes =
      by_part (λ (z : Part). ((0 < z.concretes.bindings) × (z.concretes.bindings ≤ 4096)) × ((0 < z.meeting.bindings) × (z.meeting.bindings ≤ 4096)))
      ((bindings-some cs, x.few.concrete_bindings_lem), (bindings-some us, x.few.abstract_bindings_lem))

  module _ {k : ℕ} where
    pub put-concrete : k < p.concretes.bindings → Bindable cells 8 p.concretes.variables p.concretes.bindings k
    put-concrete = put concretes (ap (λ (z : Part). z.concretes) x.part_is) (omega (arith, x.few.concretes))

  module _ {δ : Point} {before : List (List ℤ)} (σ : Shows cells δ before) {k : ℕ} where
    pub ask-initials : k ≤ p.concretes.bindings → SeekAsked table plan cells 1 0 p.concretes.variables p.concretes.bindings k before
    ask-initials = ask concretes (ap (λ (z : Part). z.concretes) x.part_is) x.initials x.few.concrete_bindings_lem σ

    pub ask-met : k ≤ p.meeting.bindings → SeekAsked table plan cells 4 0 p.meeting.variables p.meeting.bindings k before
    ask-met = ask abstracts (ap (λ (z : Part). z.meeting) x.part_is) x.met x.few.abstract_bindings_lem σ

  matched : (c s : ℕ) → c < binding_count cs → s < binding_count us
      → initial_match d (number_of cells (concrete_group d) (placed cells (abstract_group d) (from_concrete cells here c) s))
      (abstract_at d (number_of cells (abstract_group d) (placed cells (abstract_group d) (from_concrete cells here c) s))) ≡ initial_match d c (abstract_at d s)
  matched c s l h =
      let δ : Point = from_concrete cells here c in
      let ec : number_of cells (concrete_group d) (placed cells (abstract_group d) δ s) ≡ c = kept_above cells 8 (length cs) 0 (length us) δ s (omega (arith, x.few.abstracts))
      ∙ has concretes origin c l in
      let es : number_of cells (abstract_group d) (placed cells (abstract_group d) δ s) ≡ s = has abstracts δ s h in
      λ t. initial_match d (ec t) (abstract_at d (es t))

  module _ {before after : List (List ℤ)} {from r : ℕ} where
    pub initials-found : Shows cells origin before → SeekAnswers table plan cells 1 0 p.concretes.variables p.concretes.bindings from before after r → Sought (initial d) from p.concretes.bindings r
    initials-found σ =
        by_part (λ (z : Part). SeekAnswers table plan cells 1 0 z.concretes.variables z.concretes.bindings from before after r → Sought (initial d) from z.concretes.bindings r)
        (finds x.initials σ (upward-long 8 (length cs)) (group-span concretes) (initial d)
        (λ k h. ap (initial d) (has concretes origin k h)))

    pub met-found : {c : ℕ} → c < p.concretes.bindings → Shows cells (from_concrete cells p c) before → SeekAnswers table plan cells 4 0 p.meeting.variables p.meeting.bindings from before after r
        → Sought (λ (s : ℕ). initial_match d c (abstract_at d s)) from p.meeting.bindings r
    met-found {c} =
        by_part (λ (z : Part). c < z.concretes.bindings → Shows cells (from_concrete cells z c) before → SeekAnswers table plan cells 4 0 z.meeting.variables z.meeting.bindings from before after r
        → Sought (λ (s : ℕ). initial_match d c (abstract_at d s)) from z.meeting.bindings r)
        (λ l σ. finds x.met σ (upward-long 0 (length us)) (group-span abstracts) (λ (s : ℕ). initial_match d c (abstract_at d s))
        (λ s h. matched c s l h))
