-- The groups of the part that is shown are those of every dossier whose groups stand in the arrays. Assumes nothing.
use mathlib.Core.Path.{◌≡◌, sym, ap, subst}
use mathlib.Core.List.{List, []}
use mathlib.Core.Option.{some}
use Prim.Native.Nat.{ℕ, ◌+◌, ◌*◌, ◌<◌, ◌≤◌}
use native.Mathlib.Omega.{arith}
use native.Mathlib.Decide.{dec_lt}
use lib.ListN.{length, get_elem?}
use lib.IntN.{ℤ}
use Rattle.form.specs.Tree.{Operation, Dossier}
use Rattle.static_rules.specs.Carriers.{Variable}
use Rattle.static_rules.specs.Limits.{binding_count}
use Rattle.static_rules.specs.Scope.{unprimed, inputs, outputs}
use Rattle.meaning.specs.Operations.{abstract_bindings, concrete_bindings, output_bindings}
use Rattle.meaning.proofs.Places.{entry-below, below-entry}
use Rattle.slot_carriers.specs.CellGroups.{CellsOf}
use Rattle.plans.specs.declared.Part.{Part}
use Rattle.part_places.specs.PartTestsPartGroups.{StateCells}
use Rattle.part_places.specs.Places.{GroupsOf, AllAsked, PartAsked, PartSet}
use Rattle.pages.specs.declared.Bindings.{Bindings}
use Rattle.state_facts.specs.Placings.{StatesAre, StatesSized, StatesBound, ParametersAre, ParametersSized, ParametersBound}
use Rattle.state_facts.specs.Shown.{PartOf, Shown}
use Rattle.state_facts.proofs.PlacedGroups.{states-kept}

pub part-asked : {table groups : List ℕ} {operations operation k : ℕ} → AllAsked table groups operations → PartOf operations operation k → PartAsked table groups k
part-asked a o = record { dossier = a.dossier; groups_are = a.groups_are; inside = omega (arith, o.inside, a.many) }

-- ---- the groups of a part

module _ {cells : List ℕ} {us cs : List Variable} (short : length us ≤ 8) (short-too : length cs ≤ 8) (few : binding_count us ≤ 4096) (few-too : binding_count cs ≤ 4096) where
  states-with : {p : Part} → StateCells cells us cs → p.meeting.variables ≡ length us → p.meeting.bindings ≡ binding_count us → p.concretes.variables ≡ length cs → p.concretes.bindings ≡ binding_count cs → StatesAre cells p us cs
  states-with C a b c e = record {
    abstracts = record { each = C.abstracts; long = sym a; count = b; few = few };
    concretes = record { each = C.concretes; long = sym c; count = e; few = few-too };
    concretes_primed = record { each = C.concretes_primed; long = sym c; count = e; few = few-too };
    abstracts_primed = record { each = C.abstracts_primed; long = sym a; count = b; few = few };
    abstracts_short = short;
    concretes_short = short-too;
  }

module _ {table groups : List ℕ} {k : ℕ} {cells : List ℕ} {p : Part} (P : PartSet table groups k cells p) where
  module _ (d : Dossier) (G : GroupsOf table groups d) where
    abbrev us : List Variable
    us = unprimed d d.abstract

    abbrev cs : List Variable
    cs = unprimed d d.concrete

    states-of : StateCells cells us cs → p.meeting.variables ≡ length us → p.meeting.bindings ≡ binding_count us → p.concretes.variables ≡ length cs → p.concretes.bindings ≡ binding_count cs → StatesAre cells p us cs
    states-of = states-with G.abstracts.short G.concretes.short G.abstracts.bindings G.concretes.bindings

    pub opening-states : k ≡ 0 → StatesAre cells p us cs
    opening-states e =
        let t = P.opening d G e in
        states-of t.0 (ap (λ (q : Part). q.meeting.variables) t.1) (ap (λ (q : Part). q.meeting.bindings) t.1) (ap (λ (q : Part). q.concretes.variables) t.1) (ap (λ (q : Part). q.concretes.bindings) t.1)

    module _ (j : ℕ) (op : Operation) (listed : get_elem? d.operations j ≡ some op) (e : k ≡ 2 + 2 * j) where
      pub operation-states : StatesAre cells p us cs
      operation-states =
          let t = P.correcting d G j op listed e in
          states-of t.0.states (ap (λ (q : Part). q.meeting.variables) t.1) (ap (λ (q : Part). q.meeting.bindings) t.1) (ap (λ (q : Part). q.concretes.variables) t.1) (ap (λ (q : Part). q.concretes.bindings) t.1)

      pub operation-parameters : ParametersAre cells p (inputs d op) (outputs d op)
      operation-parameters =
          let t = P.correcting d G j op listed e in
          let i = G.inputs_at j op listed in
          let o = G.outputs_at j op listed in
          record {
            inputs = record { each = t.0.inputs; long = sym (ap (λ (q : Part). q.inputs.variables) t.1); count = ap (λ (q : Part). q.inputs.bindings) t.1; few = omega (arith, i.bindings) };
            outputs = record { each = t.0.outputs; long = sym (ap (λ (q : Part). q.outputs.variables) t.1); count = ap (λ (q : Part). q.outputs.bindings) t.1; few = omega (arith, o.bindings) };
            inputs_short = i.short;
            outputs_short = o.short;
          }

    -- initialisation has none
    no_parameters : k ≡ 0 → (p.inputs.variables ≡ 0) × (p.outputs.variables ≡ 0) × (p.inputs.bindings ≡ 1) × (p.outputs.bindings ≡ 1)
    no_parameters e =
        let t = P.opening d G e in
        (ap (λ (q : Part). q.inputs.variables) t.1, ap (λ (q : Part). q.outputs.variables) t.1, ap (λ (q : Part). q.inputs.bindings) t.1, ap (λ (q : Part). q.outputs.bindings) t.1)

    empty-parameters : k ≡ 0 → ParametersAre cells p [] []
    unfolding CellsOf binding_count
    empty-parameters e =
        let t = no_parameters e in
        record {
          inputs = record { each = tt; long = sym t.0; count = t.2; few = omega arith };
          outputs = record { each = tt; long = sym t.1; count = t.3; few = omega arith };
          inputs_short = omega arith;
          outputs_short = omega arith;
        }

  -- ---- asked, for the part of an operation or the first

  module _ {operations operation : ℕ} (A : AllAsked table groups operations) (o : PartOf operations operation k) where
    states-for : (d : Dossier) → GroupsOf table groups d → operations ≡ length d.operations → StatesAre cells p (unprimed d d.abstract) (unprimed d d.concrete)
    states-for d G m =
        elim (dec_lt operation operations) [
          | yes h ↦ (let t = below-entry d.operations operation (subst (λ (n : ℕ). operation < n) m h) in operation-states d G operation t.0 t.1 (o.own h))
          | no h ↦ opening-states d G (o.first (omega arith))
        ]

    pub shown-states-sized : StatesSized cells p
    shown-states-sized = record {
      abstractly = unprimed A.dossier A.dossier.abstract;
      concretely = unprimed A.dossier A.dossier.concrete;
      are = states-for A.dossier A.groups_are A.many;
    }

    pub shown-parameters-sized : ParametersSized cells p
    shown-parameters-sized =
        elim (dec_lt operation operations) [
          | yes h ↦
              (let t = below-entry A.dossier.operations operation (subst (λ (n : ℕ). operation < n) A.many h) in
              record { inward = inputs A.dossier t.0; outward = outputs A.dossier t.0; are = operation-parameters A.dossier A.groups_are operation t.0 t.1 (o.own h) })
          | no h ↦ record { inward = []; outward = []; are = empty-parameters A.dossier A.groups_are (o.first (omega arith)) }
        ]

    pub shown : {x : Bindings} {ρ σ τ : List ℤ} → StatesBound cells p x ρ σ → ParametersBound cells p x σ τ
        → Shown table groups operations operation x τ record { va = p.meeting.variables; vc = p.concretes.variables; vi = p.inputs.variables; vo = p.outputs.variables }
    unfolding abstract_bindings concrete_bindings output_bindings
    shown {x} {ρ} {σ} {τ} s q =
        let B = states-kept s q in
        record {
          states = λ d G m.
              let S = states-for d G m in
              record {
                abstractly = B.before.abstracts (unprimed d d.abstract) (unprimed d d.concrete) S;
                concretely = B.before.concretes (unprimed d d.abstract) (unprimed d d.concrete) S;
                concretely_after = B.concretes_primed (unprimed d d.abstract) (unprimed d d.concrete) S;
                abstractly_after = B.abstracts_primed (unprimed d d.abstract) (unprimed d d.concrete) S;
                abstracts = sym S.abstracts.long;
                concretes = sym S.concretes.long;
              };
          parameters = λ d op G m l.
              let S = operation-parameters d G operation op l (o.own (subst (λ (n : ℕ). operation < n) (sym m) (entry-below op d.operations operation l))) in
              record {
                inward = q.inputs (inputs d op) (outputs d op) S;
                outward = q.outputs (inputs d op) (outputs d op) S;
                inputs_are = sym S.inputs.long;
                outputs_are = sym S.outputs.long;
              };
          no_parameters = λ h. let t = no_parameters A.dossier A.groups_are (o.first h) in (t.0, t.1);
        }
