-- The parts of a dossier stand between the places at which the parser's sections begin.
use mathlib.Core.Path.{◌≡◌}
use mathlib.Core.List.{List, ◌++◌}
use Prim.Native.Nat.{ℕ, ◌+◌, ◌≤◌}
use native.Mathlib.Omega.{arith}
use lib.ListN.{length, take, length-append}
use Rattle.form.specs.Tree.{Dossier}
use Rattle.form.specs.Headings.{ainit_at, cinit_at, retrieve_at}
use Rattle.form.specs.Codes.{Numbering, condition_codes, dossier_codes}
use Rattle.parser.specs.Sections.{Sectioned, SectionsOf, givens_from, abstract_from, concrete_from, ainit_from, cinit_from, retrieve_from, operations_from}
use Rattle.parser.specs.declared.sections.Bounds.{Bounds}
use Rattle.declared_names.specs.PassPromises.{three_codes, Placed}
use Rattle.names.proofs.WholePass.{placed}

-- the three conditions together
three-length : (d : Dossier) (ρ : Numbering)
    → length (three_codes d ρ) ≡ length (condition_codes (ainit_at d + 2) d.ainit ρ) + length (condition_codes (cinit_at d + 2) d.cinit ρ) + length (condition_codes (retrieve_at d + 2) d.retrieve ρ)
three-length d ρ =
    let a = length-append (condition_codes (ainit_at d + 2) d.ainit ρ) (condition_codes (cinit_at d + 2) d.cinit ρ ++ condition_codes (retrieve_at d + 2) d.retrieve ρ) in
    let b = length-append (condition_codes (cinit_at d + 2) d.cinit ρ) (condition_codes (retrieve_at d + 2) d.retrieve ρ) in
    omega arith

module _ (nodes : List ℕ) (m : ℕ) (d : Dossier) (ρ : Numbering) (inside : m ≤ length nodes) (e : take m nodes ≡ dossier_codes d ρ) (r : Bounds) (s : SectionsOf d ρ r) where
  sections-placed : Placed nodes m r.givens r.abstracts r.concretes r.ainit r.operations d ρ
  unfolding givens_from abstract_from concrete_from ainit_from cinit_from retrieve_from operations_from
  sections-placed =
      let g = s.givens in
      let a = s.abstracts in
      let c = s.concretes in
      let i = s.ainit in
      let o = s.operations in
      let t = three-length d ρ in
      placed nodes m d ρ inside e r.givens r.abstracts r.concretes r.ainit r.operations g (omega arith) (omega arith) (omega arith) (omega arith)

pub sectioned-placed : (nodes : List ℕ) (m : ℕ) (d : Dossier) (ρ : Numbering) → m ≤ length nodes → take m nodes ≡ dossier_codes d ρ → (r : Bounds) → Sectioned nodes m r
    → Placed nodes m r.givens r.abstracts r.concretes r.ainit r.operations d ρ
sectioned-placed nodes m d ρ inside e r s = sections-placed nodes m d ρ inside e r (s.exact d ρ inside e)
