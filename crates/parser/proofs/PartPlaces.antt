-- Where the parts of a dossier stand among its nodes, and that the pass over them finds these places.
use mathlib.Core.Path.{◌≡◌, refl, sym, ap, ◌∙◌, subst, subst₂}
use mathlib.Core.List.{List, [], ◌++◌, append_assoc}
use Prim.Native.Nat.{ℕ, ◌+◌, ◌≤◌}
use native.Mathlib.Omega.{arith}
use lib.ListN.{length, take, length-append}
use lib.Seq.{length-take-le}
use Rattle.lexical.specs.Kinds as kind
use Rattle.form.specs.Tree.{Dossier}
use Rattle.form.specs.Written.{write_entries, a_given}
use Rattle.form.specs.Headings.{givens_at, abstract_at, concrete_at, ainit_at, cinit_at, retrieve_at, operations_at}
use Rattle.form.specs.Codes.{Numbering, entry_codes, given_codes, state_codes, condition_codes, operation_codes, contents_codes, dossier_codes}
use Rattle.parser.specs.Sections.{size_of, size_at, ItemAt, Run, StateAt}
use Rattle.parser.specs.Sections.{entries_from, givens_from, abstract_from, concrete_from, ainit_from, cinit_from, retrieve_from, operations_from}
use Rattle.parser.proofs.ItemNodes.{Split, split-first, split-next, items-run, entries-items, givens-items, state-at, condition-at}
use Rattle.parser.proofs.ItemNodes.{above, entries-above, givens-above, state-above}

module _ (d : Dossier) (ρ : Numbering) where
  -- what stands from each part on
  abbrev pub from_operations : List ℕ
  from_operations = operation_codes (operations_at d) d.operations ρ

  abbrev pub from_retrieve : List ℕ
  from_retrieve = condition_codes (retrieve_at d + 2) d.retrieve ρ ++ from_operations

  abbrev pub from_cinit : List ℕ
  from_cinit = condition_codes (cinit_at d + 2) d.cinit ρ ++ from_retrieve

  abbrev pub from_ainit : List ℕ
  from_ainit = condition_codes (ainit_at d + 2) d.ainit ρ ++ from_cinit

  abbrev pub from_concrete : List ℕ
  from_concrete = state_codes (concrete_at d) d.concrete ρ ++ from_ainit

  abbrev pub from_abstract : List ℕ
  from_abstract = state_codes (abstract_at d) d.abstract ρ ++ from_concrete

  abbrev pub from_givens : List ℕ
  from_givens = given_codes (givens_at d) d.givens ρ ++ from_abstract

  abbrev pub given_part : List ℕ
  given_part = entry_codes 1 1 d.given_entries ρ

  -- the symbol at which the entries of operations begin
  abbrev pub entries_at : ℕ
  entries_at = 6 + length (write_entries kind.GIVEN a_given 0 d.given_entries [])

  abbrev pub operation_part : List ℕ
  operation_part = entry_codes 2 entries_at d.operation_entries ρ

  abbrev nodes : List ℕ
  nodes = dossier_codes d ρ

  pub at-start : Split nodes 0 (given_part ++ (operation_part ++ from_givens))
  unfolding dossier_codes contents_codes
  at-start = record { front = []; whole = append_assoc given_part operation_part from_givens; long = refl }

  pub at-entries : Split nodes (entries_from d ρ) (operation_part ++ from_givens)
  unfolding dossier_codes contents_codes entries_from
  at-entries = split-first given_part (operation_part ++ from_givens) (append_assoc given_part operation_part from_givens)

  pub at-givens : Split nodes (givens_from d ρ) from_givens
  unfolding dossier_codes givens_from
  at-givens = split-first (contents_codes d ρ) from_givens refl

  pub at-abstract : Split nodes (abstract_from d ρ) from_abstract
  unfolding abstract_from
  at-abstract = split-next (given_codes (givens_at d) d.givens ρ) from_abstract at-givens

  at-concrete : Split nodes (concrete_from d ρ) from_concrete
  unfolding concrete_from
  at-concrete = split-next (state_codes (abstract_at d) d.abstract ρ) from_concrete at-abstract

  at-ainit : Split nodes (ainit_from d ρ) from_ainit
  unfolding ainit_from
  at-ainit = split-next (state_codes (concrete_at d) d.concrete ρ) from_ainit at-concrete

  at-cinit : Split nodes (cinit_from d ρ) from_cinit
  unfolding cinit_from
  at-cinit = split-next (condition_codes (ainit_at d + 2) d.ainit ρ) from_cinit at-ainit

  at-retrieve : Split nodes (retrieve_from d ρ) from_retrieve
  unfolding retrieve_from
  at-retrieve = split-next (condition_codes (cinit_at d + 2) d.cinit ρ) from_retrieve at-cinit

  pub at-operations : Split nodes (operations_from d ρ) from_operations
  unfolding operations_from
  at-operations = split-next (condition_codes (retrieve_at d + 2) d.retrieve ρ) from_operations at-retrieve

  pub one : (a : ℕ) → 4 ≡ size_of 1 a
  unfolding size_of
  one a = refl

  pub two : (a : ℕ) → 4 ≡ size_of 2 a
  unfolding size_of
  two a = refl

  run-entries : Run nodes (length nodes) 1 1 0 (entries_from d ρ)
  unfolding entries_from
  run-entries =
      let z : 0 + length given_part ≡ length given_part = omega arith in
      let f = state-above (abstract_at d) d.abstract ρ from_concrete in
      let g : 3 ≤ _ = givens-above (givens_at d) d.givens ρ from_abstract (omega arith) in
      subst (λ (e : ℕ). Run nodes (length nodes) 1 1 0 e) z
      (items-run (entries-items 1 one 1 d.given_entries ρ) (operation_part ++ from_givens) at-start
      (above 2 1 1 (operation_part ++ from_givens) (entries-above entries_at d.operation_entries ρ from_givens (omega arith)) (omega arith)))

  pub givens-from : entries_from d ρ + length operation_part ≡ givens_from d ρ
  unfolding entries_from givens_from contents_codes
  givens-from = sym (length-append given_part operation_part)

  run-operations : Run nodes (length nodes) 2 2 (entries_from d ρ) (givens_from d ρ)
  run-operations =
      let f = state-above (abstract_at d) d.abstract ρ from_concrete in
      subst (λ (e : ℕ). Run nodes (length nodes) 2 2 (entries_from d ρ) e) givens-from
      (items-run (entries-items 2 two entries_at d.operation_entries ρ) from_givens at-entries
      (above 3 2 2 from_givens (givens-above (givens_at d) d.givens ρ from_abstract (omega arith)) (omega arith)))

  run-givens : Run nodes (length nodes) 3 4 (givens_from d ρ) (abstract_from d ρ)
  unfolding abstract_from
  run-givens =
      items-run (givens-items (givens_at d) d.givens ρ) from_abstract at-givens
      (above 5 3 4 from_abstract (state-above (abstract_at d) d.abstract ρ from_concrete) (omega arith))

-- the parts of a dossier among the numbers t
pub record Laid (d : Dossier) (ρ : Numbering) (t : List ℕ) (m : ℕ) : Type 0 where
  pub entries : Run t m 1 1 0 (entries_from d ρ)
  pub givens : Run t m 2 2 (entries_from d ρ) (givens_from d ρ)
  pub abstracts : Run t m 3 4 (givens_from d ρ) (abstract_from d ρ)
  pub concretes : StateAt t m (abstract_from d ρ) (concrete_from d ρ)
  pub ainit : StateAt t m (concrete_from d ρ) (ainit_from d ρ)
  pub cinit : ItemAt t m (ainit_from d ρ) (cinit_from d ρ)
  pub retrieve : ItemAt t m (cinit_from d ρ) (retrieve_from d ρ)
  pub operations : ItemAt t m (retrieve_from d ρ) (operations_from d ρ)

laid-nodes : (d : Dossier) (ρ : Numbering) → Laid d ρ (dossier_codes d ρ) (length (dossier_codes d ρ))
unfolding concrete_from ainit_from cinit_from retrieve_from operations_from
laid-nodes d ρ =
    record {
      entries = run-entries d ρ;
      givens = run-operations d ρ;
      abstracts = run-givens d ρ;
      concretes = state-at (abstract_at d) d.abstract ρ (from_concrete d ρ) (at-abstract d ρ);
      ainit = state-at (concrete_at d) d.concrete ρ (from_ainit d ρ) (at-concrete d ρ);
      cinit = condition-at (ainit_at d + 2) d.ainit ρ (from_cinit d ρ) (at-ainit d ρ);
      retrieve = condition-at (cinit_at d + 2) d.cinit ρ (from_retrieve d ρ) (at-cinit d ρ);
      operations = condition-at (retrieve_at d + 2) d.retrieve ρ (from_operations d ρ) (at-retrieve d ρ);
    }

-- the first m numbers of the array a are the nodes
pub of_array : (P : List ℕ → ℕ → Type 0) (a : List ℕ) (m : ℕ) (c : List ℕ) → m ≤ length a → take m a ≡ c → P c (length c) → P (take m a) m
of_array P a m c l e p = subst₂ P (sym e) (ap length (sym e) ∙ length-take-le m a l) p

pub laid : (d : Dossier) (ρ : Numbering) (a : List ℕ) (m : ℕ) → m ≤ length a → take m a ≡ dossier_codes d ρ → Laid d ρ (take m a) m
laid d ρ a m l e = of_array (Laid d ρ) a m (dossier_codes d ρ) l e (laid-nodes d ρ)

-- what `skip` answers at one item
pub item-is : {t : List ℕ} {m i j e r : ℕ} → ItemAt t m i e → j ≡ i → (j + 4 ≤ m → j + size_at t j ≤ m → r ≡ j + size_at t j) → r ≡ e
item-is {t} x p f =
    let q = ap (λ (y : ℕ). y + size_at t y) p in
    let l = x.room in
    let s = x.size in
    let k = x.inside in
    f (omega arith) (omega arith) ∙ (omega arith)

pub run_is : {t : List ℕ} {m low high i j e r : ℕ} → Run t m low high i e → j ≡ i → ((z : ℕ) → Run t m low high j z → r ≡ z) → r ≡ e
run_is {t} {m} {low} {high} {e = e} x p f = f e (subst (λ (y : ℕ). Run t m low high y e) (sym p) x)

pub state-from : {t : List ℕ} {m i j e r : ℕ} → StateAt t m i e → j ≡ i → ((z : ℕ) → StateAt t m j z → r ≡ z) → r ≡ e
state-from {t} {m} {e = e} x p f = f e (subst (λ (y : ℕ). StateAt t m y e) (sym p) x)
