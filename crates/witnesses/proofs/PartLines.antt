-- The lines of a part's groups written one group behind the other, and what is asked of a part that is set up. Assumes nothing.
use mathlib.Core.Path.{◌≡◌, refl, sym, subst}
use mathlib.Core.Logic.{◌⊎◌, inl, inr}
use mathlib.Core.List.{List, [], ◌++◌}
use mathlib.Core.Option.{some}
use Prim.Native.Nat.{ℕ, ◌+◌, ◌-◌, ◌*◌, ◌/◌, ◌<◌, ◌≤◌}
use native.Mathlib.Omega.{arith}
use lib.ListN.{get_elem?}
use lib.IntN.{ℤ}
use Rattle.form.specs.Tree.{Operation, Dossier}
use Rattle.static_rules.specs.Carriers.{Variable}
use Rattle.static_rules.specs.Scope.{unprimed, inputs, outputs}
use Rattle.static_rules.specs.Limits.{binding_count}
use Rattle.slot_carriers.specs.CellGroups.{CellsOf}
use Rattle.plans.specs.declared.Part.{Part}
use Rattle.part_places.specs.PartTestsPartGroups.{StateCells, OperationCells, size_of, no_variables, opening_part, applicability_part, correctness_part}
use Rattle.labels.specs.ReadingsReadings.{GroupAt}
use Rattle.pieces.specs.PiecePromises.{Adds}
use Rattle.pieces.specs.declared.Writer.{Writer}
use Rattle.pieces.proofs.WrittenPieces.{piece_is, both-added}
use Rattle.lexical.specs.SymbolPromises.{ending_is}
use Rattle.lexical.specs.declared.Ending.{Ending}
use Rattle.lines.specs.LinesByNumber.{ending_byte, group_piece}
use Rattle.part_places.specs.Places.{GroupsOf, parts, PartAsked, PartSet, PlaceAsked, PlaceFound}
use Rattle.part_places.proofs.PartCounts.{sized, by-kind}
use Rattle.part_places.proofs.PartsPartNumbers.{part-applies, part-corrects}
use Rattle.held_checks.specs.declared.Obligation.{Obligation}
use Rattle.held_checks.specs.declared.Obligation.TheVariants.{Applicability, Correctness}
use Rattle.held_checks.specs.StepPromises.{PartTold}
use Rattle.witnesses.specs.WitnessPromises.{WitnessAsked}
use Rattle.witnesses.specs.WitnessSteps.{SizedAt, PartSized, BindAsked, LinesAsked}

-- the lines of a group by other names of its numbers
pub group-as : (text labels : List ℕ) (σ : List ℤ) {i n s i' n' s' : ℕ} {e e' : Ending} {v w : Writer} → (i ≡ i') × (n ≡ n') × (s ≡ s') × (e ≡ e')
    → Adds (group_piece text labels i n s (ending_byte (ending_is e)) σ) v w → Adds (group_piece text labels i' n' s' (ending_byte (ending_is e')) σ) v w
group-as text labels σ h a =
    piece_is (λ k. group_piece text labels (h.0 k) (h.1 k) (h.2 k) (ending_byte (ending_is (h.3 k))) σ) a

-- and they fit where the group of those numbers does
pub group-fits : {i n s i' n' s' : ℕ} {e e' : Ending} (at long : ℕ) → (i ≡ i') × (n ≡ n') × (s ≡ s') × (e ≡ e') → i' + n' ≤ 160 → s' + n' ≤ 64 → at + 645 * n' ≤ long
    → (i + n ≤ 160) × (s + n ≤ 64) × (at + 645 * n ≤ long)
group-fits at long h a b r = (omega (arith, h.0, h.1), omega (arith, h.1, h.2), omega (arith, h.1))

-- five pieces one behind the other
pub five-written : {p q s t u : List ℕ} {v₀ v₁ v₂ v₃ v₄ v₅ : Writer} → Adds p v₀ v₁ → Adds q v₁ v₂ → Adds s v₂ v₃ → Adds t v₃ v₄ → Adds u v₄ v₅
    → Adds (p ++ (q ++ (s ++ (t ++ u)))) v₀ v₅
five-written f g h i j = both-added f (both-added g (both-added h (both-added i j)))

-- ---- asked of a part that is set up

none-sized : {cells : List ℕ} {s many : ℕ} → SizedAt cells s many no_variables
unfolding CellsOf binding_count
none-sized = record { grouped = record { group = []; each = tt; long = refl; few = omega arith }; count = refl; short = omega arith }

sized_at : {table groups cells : List ℕ} {row s many few : ℕ} {vs : List Variable} → CellsOf cells s vs → GroupAt table groups row vs many few → few ≤ 4096
    → SizedAt cells s many (size_of vs)
sized_at {vs = vs} c g l = record { grouped = record { group = vs; each = c; long = refl; few = omega (arith, g.bindings) }; count = refl; short = g.short }

module _ {table groups cells : List ℕ} {d : Dossier} (G : GroupsOf table groups d) where
  opening-parted : StateCells cells (unprimed d d.abstract) (unprimed d d.concrete) → PartSized cells (opening_part (unprimed d d.abstract) (unprimed d d.concrete))
  opening-parted C = record {
    abstracts = none-sized;
    concretes = sized_at C.concretes G.concretes (omega arith);
    inputs = none-sized;
    outputs = none-sized;
    primes = none-sized;
  }

  module _ (j : ℕ) (op : Operation) (listed : get_elem? d.operations j ≡ some op)
      (C : OperationCells cells (unprimed d d.abstract) (unprimed d d.concrete) (inputs d op) (outputs d op)) where
    applicability-parted : PartSized cells (applicability_part (unprimed d d.abstract) (unprimed d d.concrete) (inputs d op) (outputs d op))
    applicability-parted = record {
      abstracts = sized_at C.states.abstracts G.abstracts (omega arith);
      concretes = sized_at C.states.concretes G.concretes (omega arith);
      inputs = sized_at C.inputs (G.inputs_at j op listed) (omega arith);
      outputs = none-sized;
      primes = none-sized;
    }

    correctness-parted : PartSized cells (correctness_part (unprimed d d.abstract) (unprimed d d.concrete) (inputs d op) (outputs d op))
    correctness-parted = record {
      abstracts = sized_at C.states.abstracts G.abstracts (omega arith);
      concretes = sized_at C.states.concretes G.concretes (omega arith);
      inputs = sized_at C.inputs (G.inputs_at j op listed) (omega arith);
      outputs = sized_at C.outputs (G.outputs_at j op listed) (omega arith);
      primes = sized_at C.states.concretes_primed G.concretes (omega arith);
    }

parted : {table groups cells : List ℕ} {k : ℕ} {p : Part} → PartSet table groups k cells p → (d : Dossier) → GroupsOf table groups d → k < parts d → PartSized cells p
parted {cells = cells} P d G h = by-kind P d G h (λ k p. PartSized cells p) (opening-parted G) (applicability-parted G) (correctness-parted G)

-- the operation of a part by its obligation
pub operation-of : {k : ℕ} {r : Obligation} → PartTold k r → (j : ℕ) → (r ≡ Applicability j) ⊎ (r ≡ Correctness j) → j ≡ (k - 1) / 2
operation-of t j (inl e) = omega (arith, part-applies t j e)
operation-of t j (inr e) = omega (arith, part-corrects t j e)

-- where the part of a place is found, its witness is asked for
pub witness-asked : {table groups : List ℕ} {operations place k q : ℕ} → PlaceAsked table groups operations place → PlaceFound table groups operations place k q → WitnessAsked table groups k q
witness-asked a f = record {
  dossier = a.all.dossier;
  groups_are = a.all.groups_are;
  inside = f.within a.all.dossier a.all.groups_are a.all.many a.inside;
  low = f.low a.all.dossier a.all.groups_are a.all.many a.inside;
}

module _ {table groups : List ℕ} {k q : ℕ} (a : WitnessAsked table groups k q) where
  pub part-asked : PartAsked table groups k
  part-asked = record { dossier = a.dossier; groups_are = a.groups_are; inside = a.inside }

  pub part_low : k ≤ 32
  part_low = omega (arith, a.inside, a.groups_are.operations)

  module _ {cells : List ℕ} {p : Part} (P : PartSet table groups k cells p) where
    here : PartSized cells p
    here = parted P a.dossier a.groups_are a.inside

    pub bind-asked : BindAsked cells p q
    bind-asked = record { sized = here; low = subst (λ (n : ℕ). q < n) (sym (sized P a.dossier a.groups_are a.inside).many) a.low }

    pub lines-asked : {row : ℕ} → row ≤ 120 → LinesAsked p row
    lines-asked h = record {
      abstracts = here.abstracts.short;
      concretes = here.concretes.short;
      inputs = here.inputs.short;
      outputs = here.outputs.short;
      primes = here.primes.short;
      row_low = h;
    }
