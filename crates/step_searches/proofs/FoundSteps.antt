-- What the searches of an operation's correctness part are asked, and what they find by numbers. Assumes nothing.
-- Form 8: a law for each group and each search; what they share is `put`, `ask` and `finds` of FoundNumbers, and left is which sizes of the part are meant.
use mathlib.Core.Path.{◌≡◌, refl, sym, ap, ap₂, subst, ◌∙◌}
use mathlib.Core.Bool.{Bool}
use mathlib.Core.List.{List, ◌++◌}
use Prim.Native.Nat.{ℕ, ◌+◌, ◌*◌, ◌/◌, ◌%◌, ◌<◌, ◌≤◌}
use native.Mathlib.Omega.{arith}
use Rattle.std.specs.Prelude.{Option, unwrap_or, IfSome}
use lib.ListN.{length}
use lib.IntN.{ℤ}
use Rattle.lexical.specs.Lists.{upward}
use Rattle.meaning.proofs.UpwardNumbers.{upward-long}
use Rattle.form.specs.Tree.{Operation, Dossier}
use Rattle.static_rules.specs.Carriers.{Variable}
use Rattle.static_rules.specs.Scope.{unprimed, inputs, outputs}
use Rattle.static_rules.specs.Limits.{binding_count}
use Rattle.carriers.proofs.Bindings.{bindings-some}
use Rattle.points.specs.Points.{Point, number_of, placed, Shows}
use Rattle.points.specs.Searches.{Sought}
use Rattle.seek.specs.SeekPromises.{SeekAsked, SeekAnswers}
use Rattle.plans.specs.declared.Part.{Part}
use Rattle.part_setup.specs.PartTestsPartGroups.{correctness_part}
use Rattle.part_setup.specs.PartTestsPartsByNumber.{abstract_at, concrete_at, output_at, abstract_state, related_to, abstractly, concretely, match}
use Rattle.step_searches.specs.StepPromises.{Bindable, StepSearches}
use Rattle.step_searches.specs.StepPromises.{abstract_group, concrete_after_group, abstract_after_group, input_group, output_group}
use Rattle.step_searches.proofs.FoundNumbers.{origin, asks, finds, Group, group-span, put, ask, has, kept-below}
use Rattle.step_searches.proofs.FoundNumbers.{both-few, both_long, both_span, both-placed, first_low, second_low}

-- the points at which groups are at given numbers, all other variables at their first values
module _ (cells : List ℕ) (p : Part) where
  abbrev pub from_abstract : (a : ℕ) → Point
  from_abstract a = placed cells (upward 0 p.abstracts.variables) origin a

  abbrev pub with_inputs : Point → (i : ℕ) → Point
  with_inputs δ i = placed cells (upward 16 p.inputs.variables) δ i

  abbrev pub from_concrete : (c : ℕ) → Point
  from_concrete c = placed cells (upward 8 p.concretes.variables) origin c

  abbrev pub stepped : (a i o k : ℕ) → Point
  stepped a i o k = placed cells (upward 22 p.primes.variables) (placed cells (upward 19 p.outputs.variables) (with_inputs (from_abstract a) i) o) k

module _ {table plan cells : List ℕ} {p : Part} {d : Dossier} {op : Operation} (x : StepSearches table plan cells p d op) where
  abbrev us : List Variable
  us = unprimed d d.abstract

  abbrev cs : List Variable
  cs = unprimed d d.concrete

  abbrev is : List Variable
  is = inputs d op

  abbrev os : List Variable
  os = outputs d op

  abbrev here : Part
  here = correctness_part us cs is os

  -- what holds of the correctness part holds of p
  by_part : (X : Part → Type 0) → X here → X p
  by_part X v = subst X (sym x.part_is) v

  -- its groups
  abstracts : Group cells 0 us
  abstracts = record { each = x.celled.states.abstracts }

  concretes : Group cells 8 cs
  concretes = record { each = x.celled.states.concretes }

  inward : Group cells 16 is
  inward = record { each = x.celled.inputs_in }

  outward : Group cells 19 os
  outward = record { each = x.celled.outputs_in }

  concretes-after : Group cells 22 cs
  concretes-after = record { each = x.celled.states.concretes_primed }

  abstracts-after : Group cells 30 us
  abstracts-after = record { each = x.celled.states.abstracts_primed }

  pub fits : (p.outputs.bindings * p.concretes.bindings ≤ 262144) × (p.outputs.variables + p.concretes.variables ≤ 11)
  fits =
      by_part (λ (z : Part). (z.outputs.bindings * z.concretes.bindings ≤ 262144) × (z.outputs.variables + z.concretes.variables ≤ 11))
      (both-few (binding_count os) (binding_count cs) x.output_bindings_lem x.few.concrete_bindings_lem, omega (arith, x.outputs_few, x.few.concretes))

  -- how many bindings each group has
  pub sizes : ((0 < p.abstracts.bindings) × (p.abstracts.bindings ≤ 4096)) × ((0 < p.concretes.bindings) × (p.concretes.bindings ≤ 4096)) × ((0 < p.inputs.bindings) × (p.inputs.bindings ≤ 64)) × ((0 < p.outputs.bindings) × (p.outputs.bindings ≤ 64))
  sizes =
      by_part
      (λ (z : Part).
      ((0 < z.abstracts.bindings) × (z.abstracts.bindings ≤ 4096)) × ((0 < z.concretes.bindings) × (z.concretes.bindings ≤ 4096)) × ((0 < z.inputs.bindings) × (z.inputs.bindings ≤ 64)) × ((0 < z.outputs.bindings) × (z.outputs.bindings ≤ 64)))
      ((bindings-some us, x.few.abstract_bindings_lem), (bindings-some cs, x.few.concrete_bindings_lem), (bindings-some is, x.input_bindings), (bindings-some os, x.output_bindings_lem))

  -- how many steps and after states a search has
  pub steps-end : p.readying.bindings ≡ p.outputs.bindings * p.abstracts.bindings
  steps-end = by_part (λ (z : Part). z.readying.bindings ≡ z.outputs.bindings * z.abstracts.bindings) refl

  matches-end : p.meeting.bindings ≡ p.abstracts.bindings
  matches-end = by_part (λ (z : Part). z.meeting.bindings ≡ z.abstracts.bindings) refl

  -- ---- groups at given numbers

  module _ {k : ℕ} where
    pub put-abstract : k < p.abstracts.bindings → Bindable cells 0 p.abstracts.variables p.abstracts.bindings k
    put-abstract = put abstracts (ap (λ (z : Part). z.abstracts) x.part_is) (omega (arith, x.few.abstracts))

    pub put-concrete : k < p.concretes.bindings → Bindable cells 8 p.concretes.variables p.concretes.bindings k
    put-concrete = put concretes (ap (λ (z : Part). z.concretes) x.part_is) (omega (arith, x.few.concretes))

    pub put-inputs : k < p.inputs.bindings → Bindable cells 16 p.inputs.variables p.inputs.bindings k
    put-inputs = put inward (ap (λ (z : Part). z.inputs) x.part_is) (omega (arith, x.inputs_few))

    pub put-outputs : k < p.outputs.bindings → Bindable cells 19 p.outputs.variables p.outputs.bindings k
    put-outputs = put outward (ap (λ (z : Part). z.outputs) x.part_is) (omega (arith, x.outputs_few))

    pub put-concrete-after : k < p.concretes.bindings → Bindable cells 22 p.primes.variables p.primes.bindings k
    put-concrete-after l =
        put concretes-after (ap (λ (z : Part). z.primes) x.part_is) (omega (arith, x.few.concretes)) (subst (λ (n : ℕ). k < n) (by_part (λ (z : Part). z.concretes.bindings ≡ z.primes.bindings) refl) l)

  -- ---- what the searches are asked

  module _ {δ : Point} {before : List (List ℤ)} (σ : Shows cells δ before) {k : ℕ} where
    pub ask-states : k ≤ p.abstracts.bindings → SeekAsked table plan cells 0 0 p.abstracts.variables p.abstracts.bindings k before
    ask-states = ask abstracts (ap (λ (z : Part). z.abstracts) x.part_is) x.states x.few.abstract_bindings_lem σ

    pub ask-related : k ≤ p.concretes.bindings → SeekAsked table plan cells 1 0 p.concretes.variables p.concretes.bindings k before
    ask-related = ask concretes (ap (λ (z : Part). z.concretes) x.part_is) x.related x.few.concrete_bindings_lem σ

    pub ask-ready : k ≤ p.outputs.bindings * p.abstracts.bindings → SeekAsked table plan cells 2 0 p.readying.variables p.readying.bindings k before
    ask-ready =
        by_part (λ (z : Part). k ≤ z.outputs.bindings * z.abstracts.bindings → SeekAsked table plan cells 2 0 z.readying.variables z.readying.bindings k before)
        (asks x.ready σ (both_long outward abstracts-after) (both_span outward abstracts-after)
        (both-few (binding_count os) (binding_count us) x.output_bindings_lem x.few.abstract_bindings_lem))

    pub ask-steps : k ≤ p.outputs.bindings * p.concretes.bindings → SeekAsked table plan cells 3 0 (p.outputs.variables + p.concretes.variables) (p.outputs.bindings * p.concretes.bindings) k before
    ask-steps =
        by_part (λ (z : Part). k ≤ z.outputs.bindings * z.concretes.bindings → SeekAsked table plan cells 3 0 (z.outputs.variables + z.concretes.variables) (z.outputs.bindings * z.concretes.bindings) k before)
        (asks x.steps σ (both_long outward concretes-after) (both_span outward concretes-after)
        (both-few (binding_count os) (binding_count cs) x.output_bindings_lem x.few.concrete_bindings_lem))

    pub ask-met : k ≤ p.abstracts.bindings → SeekAsked table plan cells 4 0 p.meeting.variables p.meeting.bindings k before
    ask-met l = ask abstracts-after (ap (λ (z : Part). z.meeting) x.part_is) x.met x.few.abstract_bindings_lem σ (subst (λ (n : ℕ). k ≤ n) (sym matches-end) l)

  -- ---- what is tested at the points of numbers

  -- a test of a step of one side, by the numbers of its state, of the inputs, of the outputs and of its state after
  module _ (base after : ℕ) (vs : List Variable) (test : (s i o t : ℕ) → Bool) where
    abbrev step_test : Point → Bool
    step_test ε =
        test (number_of cells (upward base (length vs)) ε) (number_of cells (input_group d op) ε) (number_of cells (output_group d op) ε) (number_of cells (upward after (length vs)) ε)

    step-tested : Group cells base vs → Group cells after vs → base + length vs ≤ 16 → 22 ≤ after → (s i k : ℕ) → s < binding_count vs → i < binding_count is
        → k < binding_count os * binding_count vs
        → step_test (placed cells (output_group d op ++ upward after (length vs)) (with_inputs cells here (placed cells (upward base (length vs)) origin s) i) k)
        ≡ test s i (k / binding_count vs) (k % binding_count vs)
    step-tested state next low high s i k ls li h =
        let α : Point = placed cells (upward base (length vs)) origin s in
        let δ : Point = with_inputs cells here α i in
        let o : ℕ = k / binding_count vs in
        let t : ℕ = k % binding_count vs in
        let ε : Point = placed cells (output_group d op) δ o in
        let n : ℕ = length vs in
        let vi : ℕ = length is in
        let vo : ℕ = length os in
        let fi = x.inputs_few in
        let fo = x.outputs_few in
        let es : number_of cells (upward base n) (placed cells (upward after n) ε t) ≡ s = kept-below cells base n after n ε t (omega arith) ∙ kept-below cells base n 19 vo δ o (omega arith)
        ∙ kept-below cells base n 16 vi α i low ∙ has state origin s ls in
        let ei : number_of cells (input_group d op) (placed cells (upward after n) ε t) ≡ i = kept-below cells 16 vi after n ε t (omega arith) ∙ kept-below cells 16 vi 19 vo δ o (omega arith)
        ∙ has inward α i li in
        let eo : number_of cells (output_group d op) (placed cells (upward after n) ε t) ≡ o = kept-below cells 19 vo after n ε t (omega arith)
        ∙ has outward δ o (first_low outward next δ k h) in
        let et : number_of cells (upward after n) (placed cells (upward after n) ε t) ≡ t = has next ε t (second_low outward next δ k h) in
        ap step_test (both-placed outward next δ k h) ∙ (λ z. test (es z) (ei z) (eo z) (et z))

  -- an abstract after state that matches
  abbrev matching : Point → Bool
  matching ε =
      match d op (number_of cells (abstract_group d) ε) (number_of cells (input_group d op) ε) (number_of cells (output_group d op) ε) (number_of cells (concrete_after_group d) ε)
      (abstract_at d (number_of cells (abstract_after_group d) ε))

  matched : (a i o k s : ℕ) → a < binding_count us → i < binding_count is → o < binding_count os → k < binding_count cs → s < binding_count us
      → matching (placed cells (abstract_after_group d) (stepped cells here a i o k) s) ≡ match d op a i o k (abstract_at d s)
  matched a i o k s la li lo lk h =
      let α : Point = from_abstract cells here a in
      let β : Point = with_inputs cells here α i in
      let γ : Point = placed cells (output_group d op) β o in
      let δ : Point = stepped cells here a i o k in
      let va : ℕ = length us in
      let vc : ℕ = length cs in
      let vi : ℕ = length is in
      let vo : ℕ = length os in
      let fa = x.few.abstracts in
      let fc = x.few.concretes in
      let fi = x.inputs_few in
      let fo = x.outputs_few in
      let ea : number_of cells (abstract_group d) (placed cells (abstract_after_group d) δ s) ≡ a = kept-below cells 0 va 30 va δ s (omega arith) ∙ kept-below cells 0 va 22 vc γ k (omega arith)
      ∙ kept-below cells 0 va 19 vo β o (omega arith) ∙ kept-below cells 0 va 16 vi α i (omega arith) ∙ has abstracts origin a la in
      let ei : number_of cells (input_group d op) (placed cells (abstract_after_group d) δ s) ≡ i = kept-below cells 16 vi 30 va δ s (omega arith) ∙ kept-below cells 16 vi 22 vc γ k (omega arith)
      ∙ kept-below cells 16 vi 19 vo β o (omega arith) ∙ has inward α i li in
      let eo : number_of cells (output_group d op) (placed cells (abstract_after_group d) δ s) ≡ o = kept-below cells 19 vo 30 va δ s (omega arith) ∙ kept-below cells 19 vo 22 vc γ k (omega arith)
      ∙ has outward β o lo in
      let ek : number_of cells (concrete_after_group d) (placed cells (abstract_after_group d) δ s) ≡ k = kept-below cells 22 vc 30 va δ s (omega arith)
      ∙ has concretes-after γ k lk in
      let es : number_of cells (abstract_after_group d) (placed cells (abstract_after_group d) δ s) ≡ s = has abstracts-after δ s h in
      λ t. match d op (ea t) (ei t) (eo t) (ek t) (abstract_at d (es t))

  -- ---- what they find

  module _ {before after : List (List ℤ)} {from r : ℕ} where
    pub states-found : Shows cells origin before → SeekAnswers table plan cells 0 0 p.abstracts.variables p.abstracts.bindings from before after r → Sought (abstract_state d) from p.abstracts.bindings r
    states-found σ =
        by_part (λ (z : Part). SeekAnswers table plan cells 0 0 z.abstracts.variables z.abstracts.bindings from before after r → Sought (abstract_state d) from z.abstracts.bindings r)
        (finds x.states σ (upward-long 0 (length us)) (group-span abstracts) (abstract_state d)
        (λ k h. ap (abstract_state d) (has abstracts origin k h)))

    pub related-found : {a : ℕ} → a < p.abstracts.bindings → Shows cells (from_abstract cells p a) before → SeekAnswers table plan cells 1 0 p.concretes.variables p.concretes.bindings from before after r
        → Sought (related_to d a) from p.concretes.bindings r
    related-found {a} =
        by_part (λ (z : Part). a < z.abstracts.bindings → Shows cells (from_abstract cells z a) before → SeekAnswers table plan cells 1 0 z.concretes.variables z.concretes.bindings from before after r
        → Sought (related_to d a) from z.concretes.bindings r)
        (λ l σ. finds x.related σ (upward-long 8 (length cs)) (group-span concretes) (related_to d a)
        (λ k h. ap₂ (related_to d)
        (kept-below cells 0 (length us) 8 (length cs) (from_abstract cells here a) k (omega (arith, x.few.abstracts)) ∙ has abstracts origin a l)
        (has concretes (from_abstract cells here a) k h)))

    pub ready-found : {a i : ℕ} → a < p.abstracts.bindings → i < p.inputs.bindings → Shows cells (with_inputs cells p (from_abstract cells p a) i) before
        → SeekAnswers table plan cells 2 0 p.readying.variables p.readying.bindings from before after r
        → Sought (λ (k : ℕ). abstractly d op a i (output_at d op (k / p.abstracts.bindings)) (abstract_at d (k % p.abstracts.bindings))) from (p.outputs.bindings * p.abstracts.bindings) r
    ready-found {a} {i} =
        by_part (λ (z : Part). a < z.abstracts.bindings → i < z.inputs.bindings → Shows cells (with_inputs cells z (from_abstract cells z a) i) before
        → SeekAnswers table plan cells 2 0 z.readying.variables z.readying.bindings from before after r
        → Sought (λ (k : ℕ). abstractly d op a i (output_at d op (k / z.abstracts.bindings)) (abstract_at d (k % z.abstracts.bindings))) from (z.outputs.bindings * z.abstracts.bindings) r)
        (λ la li σ. finds x.ready σ (both_long outward abstracts-after)
        (both_span outward abstracts-after)
        (λ (k : ℕ). abstractly d op a i (output_at d op (k / binding_count us)) (abstract_at d (k % binding_count us))) (λ k h. step-tested 0 30 us (λ (s i o t : ℕ). abstractly d op s i (output_at d op o) (abstract_at d t)) abstracts abstracts-after (omega (arith, x.few.abstracts)) (omega arith) a i k la li h))

    pub steps-found : {c i : ℕ} → c < p.concretes.bindings → i < p.inputs.bindings → Shows cells (with_inputs cells p (from_concrete cells p c) i) before
        → SeekAnswers table plan cells 3 0 (p.outputs.variables + p.concretes.variables) (p.outputs.bindings * p.concretes.bindings) from before after r
        → Sought (λ (k : ℕ). concretely d op c i (output_at d op (k / p.concretes.bindings)) (concrete_at d (k % p.concretes.bindings))) from (p.outputs.bindings * p.concretes.bindings) r
    steps-found {c} {i} =
        by_part (λ (z : Part). c < z.concretes.bindings → i < z.inputs.bindings → Shows cells (with_inputs cells z (from_concrete cells z c) i) before
        → SeekAnswers table plan cells 3 0 (z.outputs.variables + z.concretes.variables) (z.outputs.bindings * z.concretes.bindings) from before after r
        → Sought (λ (k : ℕ). concretely d op c i (output_at d op (k / z.concretes.bindings)) (concrete_at d (k % z.concretes.bindings))) from (z.outputs.bindings * z.concretes.bindings) r)
        (λ lc li σ. finds x.steps σ (both_long outward concretes-after)
        (both_span outward concretes-after)
        (λ (k : ℕ). concretely d op c i (output_at d op (k / binding_count cs)) (concrete_at d (k % binding_count cs))) (λ k h. step-tested 8 22 cs (λ (s i o t : ℕ). concretely d op s i (output_at d op o) (concrete_at d t)) concretes concretes-after (omega (arith, x.few.concretes)) (omega arith) c i k lc li h))

    pub met-found : {a i o k : ℕ} → a < p.abstracts.bindings → i < p.inputs.bindings → o < p.outputs.bindings → k < p.concretes.bindings → Shows cells (stepped cells p a i o k) before
        → SeekAnswers table plan cells 4 0 p.meeting.variables p.meeting.bindings from before after r → Sought (λ (s : ℕ). match d op a i o k (abstract_at d s)) from p.abstracts.bindings r
    met-found {a} {i} {o} {k} =
        by_part (λ (z : Part). a < z.abstracts.bindings → i < z.inputs.bindings → o < z.outputs.bindings → k < z.concretes.bindings → Shows cells (stepped cells z a i o k) before
        → SeekAnswers table plan cells 4 0 z.meeting.variables z.meeting.bindings from before after r → Sought (λ (s : ℕ). match d op a i o k (abstract_at d s)) from z.abstracts.bindings r)
        (λ la li lo lk σ. finds x.met σ (upward-long 30 (length us)) (group-span abstracts-after) (λ (s : ℕ). match d op a i o k (abstract_at d s))
        (λ s h. matched a i o k s la li lo lk h))

  -- ---- where a step or an after state is found

  module _ {f : ℕ → Bool} {from e : ℕ} (r : Option ℕ) where
    pub steps-found-or : Sought f from e (unwrap_or r p.readying.bindings) → Sought f from e (unwrap_or r (p.outputs.bindings * p.abstracts.bindings))
    steps-found-or = subst (λ (n : ℕ). Sought f from e (unwrap_or r n)) steps-end

    pub matches-found-or : Sought f from e (unwrap_or r p.meeting.bindings) → Sought f from e (unwrap_or r p.abstracts.bindings)
    matches-found-or = subst (λ (n : ℕ). Sought f from e (unwrap_or r n)) matches-end

  module _ (r : Option ℕ) where
    pub steps-low : IfSome r (λ (k : ℕ). k < p.readying.bindings) → IfSome r (λ (k : ℕ). k < p.outputs.bindings * p.abstracts.bindings)
    steps-low = subst (λ (n : ℕ). IfSome r (λ (k : ℕ). k < n)) steps-end

    pub matches-low : IfSome r (λ (k : ℕ). k < p.meeting.bindings) → IfSome r (λ (k : ℕ). k < p.abstracts.bindings)
    matches-low = subst (λ (n : ℕ). IfSome r (λ (k : ℕ). k < n)) matches-end
