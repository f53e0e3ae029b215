-- The loops over the parts of a check: how many places stand before the k-th part, and which part a place belongs to. Assumes nothing.
use mathlib.Core.Path.{◌≡◌, sym, ap, ap₂, ◌∙◌}
use mathlib.Core.List.{List}
use Prim.Native.Nat.{ℕ, ◌+◌, ◌*◌, ◌<◌, ◌≤◌, ◌^◌}
use native.Mathlib.Omega.{arith}
use lib.ListN.{length}
use Rattle.form.specs.Tree.{Dossier}
use Rattle.obligations.specs.Subjects.{subject_of}
use Rattle.obligations.specs.Order.{total}
use Rattle.part_setup.specs.PartTestsPartOrder.{part_size, part_begin}
use Rattle.parts.proofs.PartOrderLaws.{first-begin, next-begin, all_end, part-within}
use Rattle.parts.proofs.ReadingSizes.{groups-small}
use Rattle.part_places.specs.Places.{GroupsOf, PartAsked, SizeIs, AllAsked, TotalIs, PlaceFound}

pub operations-low : {table groups : List ℕ} {operations : ℕ} → AllAsked table groups operations → operations ≤ 16
operations-low a = omega (arith, a.many, a.groups_are.operations)

pub part-asked : {table groups : List ℕ} {operations : ℕ} (k : ℕ) → k < 1 + 2 * operations → AllAsked table groups operations → PartAsked table groups k
part-asked k h a = record { dossier = a.dossier; groups_are = a.groups_are; inside = omega (arith, a.many) }

-- `begin` places stand before the k-th part
pub record BeginsAt (table groups : List ℕ) (operations k begin : ℕ) : Type 0 where
  pub within : k ≤ 1 + 2 * operations
  pub is : (d : Dossier) → GroupsOf table groups d → operations ≡ length d.operations → begin ≡ part_begin d k

module _ {table groups : List ℕ} {operations : ℕ} where
  pub begins-first : {k begin : ℕ} → k ≡ 0 → begin ≡ 0 → BeginsAt table groups operations k begin
  begins-first ek eb = record { within = omega arith; is = λ d G m. eb ∙ sym (first-begin d) ∙ ap (part_begin d) (sym ek) }

  module _ {k begin size : ℕ} (i : BeginsAt table groups operations k begin) (w : SizeIs table groups k size) (h : k < 1 + 2 * operations) where
    pub begins-next : {next : ℕ} → next ≡ k + 1 → BeginsAt table groups operations next (begin + size)
    begins-next e = record {
      within = omega arith;
      is = λ d G m. ap₂ ◌+◌ (i.is d G m) (w.is d G (omega (arith, m))) ∙ sym (next-begin d k) ∙ ap (part_begin d) (sym e);
    }

    -- the part ends among the places of the check, which are fewer than 2^53
    pub ends-within : (d : Dossier) → GroupsOf table groups d → operations ≡ length d.operations → begin + size ≤ total (subject_of d)
    ends-within d G m = omega (arith, i.is d G m, w.is d G (omega (arith, m)), part-within d k (omega (arith, m)))

    pub ends-small : AllAsked table groups operations → begin + size < 2 ^ 53
    ends-small a =
        let G = a.groups_are in
        omega (arith, ends-within a.dossier G a.many, groups-small a.dossier G.abstracts G.concretes G.operations G.inputs_at G.outputs_at)

  -- behind the last part stand all places
  begins-all : {k begin : ℕ} → BeginsAt table groups operations k begin → 1 + 2 * operations ≤ k
      → (d : Dossier) → GroupsOf table groups d → operations ≡ length d.operations → begin ≡ total (subject_of d)
  begins-all {k} i h d G m =
      let s : k ≡ 1 + 2 * length d.operations = omega (arith, i.within) in
      i.is d G m ∙ ap (part_begin d) s ∙ all_end d

  pub total-is : {k begin : ℕ} → BeginsAt table groups operations k begin → 1 + 2 * operations ≤ k → TotalIs table groups operations begin
  total-is i h = record { is = begins-all i h }

-- ---- the part of a place

-- the place is the one `at` places behind where the k-th part begins
pub record Left (table groups : List ℕ) (operations place k at : ℕ) : Type 0 where
  pub within : k ≤ 1 + 2 * operations
  pub is : (d : Dossier) → GroupsOf table groups d → operations ≡ length d.operations → place ≡ part_begin d k + at

module _ {table groups : List ℕ} {operations place : ℕ} where
  pub left-first : {k at : ℕ} → k ≡ 0 → at ≡ place → Left table groups operations place k at
  left-first {k} {at} ek ea = record {
    within = omega arith;
    is = λ d G m. (let b : part_begin d k ≡ 0 = ap (part_begin d) ek ∙ first-begin d in omega arith);
  }

  module _ {k at : ℕ} (i : Left table groups operations place k at) where
    module _ {size : ℕ} (w : SizeIs table groups k size) (h : k < 1 + 2 * operations) where
      pub left-next : {next rest : ℕ} → next ≡ k + 1 → at ≡ rest + size → Left table groups operations place next rest
      left-next {next} e f = record {
        within = omega arith;
        is = λ d G m.
            let b : part_begin d next ≡ part_begin d k + part_size d k = ap (part_begin d) e ∙ next-begin d k in
            omega (arith, i.is d G m, w.is d G (omega (arith, m)));
      }

      pub left_here : at < size → PlaceFound table groups operations place k at
      left_here l = record {
        within = λ d G m u. omega (arith, m);
        low = λ d G m u. omega (arith, w.is d G (omega (arith, m)));
        is = λ d G m u. i.is d G m;
      }

    -- no place of the check stands behind the last part
    pub left-none : 1 + 2 * operations ≤ k → PlaceFound table groups operations place k at
    left-none h =
        record { within = λ d G m u. absurd (over d G m u); low = λ d G m u. absurd (over d G m u); is = λ d G m u. absurd (over d G m u) }
      where
        over : (d : Dossier) → GroupsOf table groups d → operations ≡ length d.operations → place < total (subject_of d) → ⊥
        over d G m u =
            let s : k ≡ 1 + 2 * length d.operations = omega (arith, i.within) in
            let e : part_begin d k ≡ total (subject_of d) = ap (part_begin d) s ∙ all_end d in
            omega (arith, i.is d G m)
