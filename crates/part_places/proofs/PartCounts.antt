-- How many places a part has that is set up: the product of its groups' bindings, for every dossier whose groups stand in the arrays. Assumes nothing.
use mathlib.Core.Path.{◌≡◌, sym, ◌∙◌, subst}
use mathlib.Core.List.{List}
use mathlib.Core.Option.{some}
use Prim.Native.Nat.{ℕ, ◌+◌, ◌-◌, ◌*◌, ◌/◌, ◌%◌, ◌<◌, ◌≤◌}
use native.Mathlib.Nat.{mul-one}
use native.Mathlib.Omega.{arith}
use native.Mathlib.Decide.{dec_lt}
use lib.ListN.{get_elem?}
use Rattle.form.specs.Tree.{Operation, Dossier}
use Rattle.static_rules.specs.Scope.{unprimed, inputs, outputs}
use Rattle.static_rules.specs.Limits.{binding_count}
use Rattle.meaning.proofs.Places.{below-entry}
use Rattle.plans.specs.declared.Part.{Part}
use Rattle.part_setup.specs.PartTestsPartGroups.{StateCells, OperationCells, opening_part, applicability_part, correctness_part}
use Rattle.part_setup.specs.NestStepsPartTests.{places}
use Rattle.part_setup.specs.PartTestsPartOrder.{part_size}
use Rattle.parts.proofs.PartOrderLaws.{first-size, applicability-size, correctness-size}
use Rattle.parts.proofs.ReadingSizes.{concretes-count, applicability-counts, correctness-counts}
use Rattle.part_setup.specs.SetupPromises.{FewPlaces}
use Rattle.part_places.specs.Places.{GroupsOf, parts, PartAsked, PartSet, SizeIs}

-- the bindings of a part's groups: together its places, each few
pub record Sized (d : Dossier) (k : ℕ) (p : Part) : Type 0 where
  pub many : places p ≡ part_size d k
  pub few : FewPlaces p

one-group : (n : ℕ) → 1 * n * 1 * 1 * 1 ≡ n
one-group n = omega arith

module _ {table groups : List ℕ} {d : Dossier} (G : GroupsOf table groups d) where
  opening-sized : Sized d 0 (opening_part (unprimed d d.abstract) (unprimed d d.concrete))
  opening-sized = record {
    many = one-group (binding_count (unprimed d d.concrete)) ∙ sym (first-size d ∙ concretes-count d);
    few = record { few_a = omega arith; few_c = G.concretes.bindings; few_i = omega arith; few_q = omega arith; few_k = omega arith };
  }

  module _ (j : ℕ) (op : Operation) (listed : get_elem? d.operations j ≡ some op) where
    applicability-sized : Sized d (1 + 2 * j) (applicability_part (unprimed d d.abstract) (unprimed d d.concrete) (inputs d op) (outputs d op))
    applicability-sized = record {
      many = mul-one _ ∙ mul-one _ ∙ sym (applicability-size d j op listed ∙ applicability-counts d op);
      few = record {
        few_a = G.abstracts.bindings;
        few_c = G.concretes.bindings;
        few_i = (G.inputs_at j op listed).bindings;
        few_q = omega arith;
        few_k = omega arith;
      };
    }

    correctness-sized : Sized d (2 + 2 * j) (correctness_part (unprimed d d.abstract) (unprimed d d.concrete) (inputs d op) (outputs d op))
    correctness-sized = record {
      many = sym (correctness-size d j op listed ∙ correctness-counts d op);
      few = record {
        few_a = G.abstracts.bindings;
        few_c = G.concretes.bindings;
        few_i = (G.inputs_at j op listed).bindings;
        few_q = (G.outputs_at j op listed).bindings;
        few_k = G.concretes.bindings;
      };
    }

-- what holds of each kind of part that is set up holds of the k-th
module _ {table groups cells : List ℕ} {k : ℕ} {p : Part} (w : PartSet table groups k cells p) (d : Dossier) (G : GroupsOf table groups d) (h : k < parts d) (X : ℕ → Part → Type 0) where
  pub by-kind : (StateCells cells (unprimed d d.abstract) (unprimed d d.concrete) → X 0 (opening_part (unprimed d d.abstract) (unprimed d d.concrete)))
      → ((j : ℕ) (op : Operation) → get_elem? d.operations j ≡ some op → OperationCells cells (unprimed d d.abstract) (unprimed d d.concrete) (inputs d op) (outputs d op)
      → X (1 + 2 * j) (applicability_part (unprimed d d.abstract) (unprimed d d.concrete) (inputs d op) (outputs d op)))
      → ((j : ℕ) (op : Operation) → get_elem? d.operations j ≡ some op → OperationCells cells (unprimed d d.abstract) (unprimed d d.concrete) (inputs d op) (outputs d op)
      → X (2 + 2 * j) (correctness_part (unprimed d d.abstract) (unprimed d d.concrete) (inputs d op) (outputs d op)))
      → X k p
  by-kind opening applying correcting = elim (dec_lt k 1) [ yes e ↦ first (omega arith) | no e ↦ later (omega arith) ]
    where
      first : k ≡ 0 → X k p
      first e = let t = w.opening d G e in subst (X k) (sym t.1) (subst (λ (n : ℕ). X n (opening_part (unprimed d d.abstract) (unprimed d d.concrete))) (sym e) (opening t.0))

      later : 1 ≤ k → X k p
      later l =
          let o : (op : Operation) × (get_elem? d.operations ((k - 1) / 2) ≡ some op) = below-entry d.operations ((k - 1) / 2) (omega arith) in
          elim (dec_lt ((k - 1) % 2) 1) [
            | yes e ↦ (
                let s : k ≡ 1 + 2 * ((k - 1) / 2) = omega arith in
                let t = w.applying d G ((k - 1) / 2) o.0 o.1 s in
                subst (X k) (sym t.1) (subst (λ (n : ℕ). X n (applicability_part (unprimed d d.abstract) (unprimed d d.concrete) (inputs d o.0) (outputs d o.0))) (sym s) (applying ((k - 1) / 2) o.0 o.1 t.0))
                )
            | no e ↦ (
                let s : k ≡ 2 + 2 * ((k - 1) / 2) = omega arith in
                let t = w.correcting d G ((k - 1) / 2) o.0 o.1 s in
                subst (X k) (sym t.1) (subst (λ (n : ℕ). X n (correctness_part (unprimed d d.abstract) (unprimed d d.concrete) (inputs d o.0) (outputs d o.0))) (sym s) (correcting ((k - 1) / 2) o.0 o.1 t.0))
                )
          ]

module _ {table groups cells : List ℕ} {k : ℕ} {p : Part} (w : PartSet table groups k cells p) where
  pub sized : (d : Dossier) → GroupsOf table groups d → k < parts d → Sized d k p
  sized d G h = by-kind w d G h (Sized d) (λ c. opening-sized G) (λ j op listed c. applicability-sized G j op listed) (λ j op listed c. correctness-sized G j op listed)

  pub few-places : PartAsked table groups k → FewPlaces p
  few-places a = (sized a.dossier a.groups_are a.inside).few

  pub size_is : {r : ℕ} → r ≡ places p → SizeIs table groups k r
  size_is e = record { is = λ d G h. e ∙ (sized d G h).many }
