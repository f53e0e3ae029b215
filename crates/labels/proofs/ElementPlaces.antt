-- The elements of the given sets stand where the walk over their headings finds them, and their labels are the first bytes of their names.
use mathlib.Core.Path.{◌≡◌, refl, sym, ap, subst, subst₂, ◌∙◌}
use mathlib.Core.Logic.{◌⊎◌, inl, inr}
use mathlib.Core.List.{List, [], ◌∷◌, ◌++◌, append_assoc}
use mathlib.Core.Option.{some, none-ne-some, some-injective}
use Prim.Native.Nat.{ℕ, zero, suc, ◌+◌, ◌*◌, ◌/◌, ◌<◌, ◌≤◌}
use native.Mathlib.Omega.{arith}
use native.Mathlib.Nat.{zero-add, eq-or-lt_of_le}
use lib.ListN.{length, take, get_or, get_elem?}
use lib.Seq.{length-take-le, get_or-take}
use Rattle.lexical.specs.Symbols.{no_ending}
use Rattle.form.specs.Tree.{Letters, Given, elements, Dossier}
use Rattle.form.specs.Headings.{givens_at, given_length}
use Rattle.form.specs.Codes.{node, Numbering, number_of_name, element_codes, given_codes, dossier_codes}
use Rattle.parser.specs.Sections.{size_of, size_at, ItemAt, Run, Skips, RunsTo, SectionsOf, givens_from}
use Rattle.parser.specs.declared.sections.Bounds.{Bounds}
use Rattle.parser.proofs.ItemNodes.{Split, split-next, split-as, split_at, split-length, size-here, items-run, elements-items, Outside, above}
use Rattle.parser.proofs.ItemNodes.{state-above}
use Rattle.parser.proofs.PartPlaces.{from_abstract, from_concrete, at-givens, item-is, run_is}
use Rattle.form.specs.Headings.{abstract_at}
use Rattle.meaning.proofs.Places.{entry-below}
use Rattle.labels.specs.LabelPromises.{names_from, Between, Stored, ElementsGathered}

-- ---- the nodes

-- the node of an element: inside the nodes, with the number of its name
record NamedAt (c : List ℕ) (ρ : Numbering) (j : ℕ) (x : Letters) : Type 0 where
  inside : j < length c
  number : get_or c j 0 ≡ 4 * ρ x

element-named : {c : List ℕ} {q : ℕ} (i : ℕ) (xs : List Letters) (ρ : Numbering) (r : List ℕ) → Split c q (element_codes i xs ρ ++ r)
    → (k : ℕ) (x : Letters) → get_elem? xs k ≡ some x → NamedAt c ρ (q + 4 * k + 1) x
unfolding element_codes number_of_name
element-named i [] ρ r s k x e = absurd (none-ne-some x e)
element-named {c} {q} i (y ∷ xs) ρ r s zero x e =
    let l = split-length s in
    let a : get_or c (q + 1) 0 ≡ 4 * ρ y + 0 = split_at s 1 in
    let b : ρ y ≡ ρ x = ap ρ (some-injective y x e) in
    let z : q + 4 * 0 + 1 ≡ q + 1 = omega arith in
    record { inside = omega arith; number = ap (λ (j : ℕ). get_or c j 0) z ∙ omega arith }
element-named {c} {q} i (y ∷ xs) ρ r s (suc k) x e =
    let t = element-named {q = q + length (node 4 i (4 * ρ y + 0) 0)} (suc i) xs ρ r (split-next (node 4 i (4 * ρ y + 0) 0) (element_codes (suc i) xs ρ ++ r) s) k x e in
    subst (λ (j : ℕ). NamedAt c ρ j x) (omega arith) t

-- the given sets that are left, from q on; behind them a node of another shape
pub data SetsAt (c : List ℕ) (ρ : Numbering) : ℕ → List Given → Type 0 where
  no_sets : {q : ℕ} → SetsAt c ρ q []
  some_sets : {q : ℕ} {g : Given} {gs : List Given} (i : ℕ) (r : List ℕ) → 5 ≤ get_or r 3 0 → Split c q (given_codes i (g ∷ gs) ρ ++ r) → SetsAt c ρ q (g ∷ gs)

sets-at : {c : List ℕ} {q : ℕ} (i : ℕ) (gs : List Given) (ρ : Numbering) (r : List ℕ) → 5 ≤ get_or r 3 0 → Split c q (given_codes i gs ρ ++ r) → SetsAt c ρ q gs
sets-at i [] ρ r h s = no_sets
sets-at i (g ∷ gs) ρ r h s = some_sets i r h s

-- behind the elements of a set no further one
no_element : (i : ℕ) (gs : List Given) (ρ : Numbering) (r : List ℕ) → 5 ≤ get_or r 3 0 → Outside 4 4 (given_codes i gs ρ ++ r)
unfolding given_codes
no_element i [] ρ r h = above 5 4 4 r h (omega arith)
no_element i (g ∷ gs) ρ r h = λ l u v. omega arith

-- the first of them, from its heading up to the next one
record SetAt (c : List ℕ) (m : ℕ) (ρ : Numbering) (q : ℕ) (g : Given) (gs : List Given) : Type 0 where
  to : ℕ
  heading : ItemAt c m q (q + 4)
  run : Run c m 4 4 (q + 4) to
  names : (k : ℕ) (x : Letters) → get_elem? (elements g) k ≡ some x → NamedAt c ρ (q + 4 + 4 * k + 1) x
  rest : SetsAt c ρ to gs

set_at : {c : List ℕ} {q : ℕ} (i : ℕ) (g : Given) (gs : List Given) (ρ : Numbering) (r : List ℕ) → 5 ≤ get_or r 3 0 → Split c q (given_codes i (g ∷ gs) ρ ++ r)
    → SetAt c (length c) ρ q g gs
unfolding given_codes size_of
set_at {c} {q} i g gs ρ r h s =
    let E : List ℕ = element_codes (i + 2) (elements g) ρ in
    let G : List ℕ = given_codes (i + given_length g) gs ρ in
    let u : Split c (q + 4) (E ++ (G ++ r)) = split-as (append_assoc E G r) (split-next (node 3 i (number_of_name ρ g.title no_ending) 0) ((E ++ G) ++ r) s) in
    let z : size_at c q ≡ 4 = size-here s in
    let l : length c ≡ q + 4 + length (E ++ (G ++ r)) = split-length u in
    record {
      to = q + 4 + length E;
      heading = record { room = omega arith; size = omega arith; inside = omega arith };
      run = items-run (elements-items (i + 2) (elements g) ρ) (G ++ r) u (no_element (i + given_length g) gs ρ r h);
      names = element-named (i + 2) (elements g) ρ (G ++ r) u;
      rest = sets-at (i + given_length g) gs ρ r h (split-next E (G ++ r) u);
    }

-- ---- the labels

abbrev ElementsLabelled : (starts : List ℕ) (ρ : Numbering) (labels : List ℕ) (n : ℕ) (g : Given) → Type 0
ElementsLabelled starts ρ labels n g =
    length (elements g) ≤ 8 → (k : ℕ) (x : Letters) → get_elem? (elements g) k ≡ some x → get_or labels (8 * n + k) 0 ≡ get_or starts (ρ x) 0

-- behind g given sets: those that are left stand from q on, and the labels of the others are stored
pub record SetsLabelled (nodes starts : List ℕ) (m : ℕ) (d : Dossier) (ρ : Numbering) (q g : ℕ) (labels : List ℕ) : Type 0 where
  pub left : List Given
  pub rest : SetsAt (take m nodes) ρ q left
  pub same : (n : ℕ) → get_elem? d.givens (g + n) ≡ get_elem? left n
  pub done : (n : ℕ) (h : Given) → n < g → get_elem? d.givens n ≡ some h → ElementsLabelled starts ρ labels n h

abbrev pub SetsSo : (nodes starts : List ℕ) (m q g : ℕ) (labels : List ℕ) → Type 0
SetsSo nodes starts m q g labels = (d : Dossier) (ρ : Numbering) → m ≤ length nodes → take m nodes ≡ dossier_codes d ρ → SetsLabelled nodes starts m d ρ q g labels

pub sets-start : {nodes : List ℕ} {m : ℕ} (starts labels : List ℕ) (r : Bounds)
    → ((d : Dossier) (ρ : Numbering) → m ≤ length nodes → take m nodes ≡ dossier_codes d ρ → SectionsOf d ρ r)
    → SetsSo nodes starts m r.givens 0 labels
sets-start {nodes} {m} starts labels r x d ρ l e =
    let s : SetsAt (dossier_codes d ρ) ρ (givens_from d ρ) d.givens = sets-at (givens_at d) d.givens ρ (from_abstract d ρ) (state-above (abstract_at d) d.abstract ρ (from_concrete d ρ)) (at-givens d ρ) in
    record {
      left = d.givens;
      rest = subst₂ (λ (c : List ℕ) (q : ℕ). SetsAt c ρ q d.givens) (sym e) (sym (x d ρ l e).givens) s;
      same = λ n. ap (get_elem? d.givens) (zero-add n);
      done = λ n h u. absurd (omega arith);
    }

-- what `skip` and `run` find, and the eight labels
module _ (nodes starts : List ℕ) (m q g from to : ℕ) (old new : List ℕ) (ρ : Numbering) (skip : Skips nodes m q from) (run : RunsTo nodes m 4 4 from to)
    (stored : Stored 8 (8 * g) (names_from nodes starts from) old new) where
  labelled-kept : (n : ℕ) (h : Given) → n < g → ElementsLabelled starts ρ old n h → ElementsLabelled starts ρ new n h
  labelled-kept n h l f w k x e = let b = entry-below x (elements h) k e in stored.others.below (8 * n + k) (omega arith) ∙ f w k x e

  labelled-here : (h : Given) (gs : List Given) → m ≤ length nodes → SetAt (take m nodes) m ρ q h gs → ElementsLabelled starts ρ new g h
  labelled-here h gs l s w k x e =
      let b = entry-below x (elements h) k e in
      let f : from ≡ q + 4 = item-is s.heading refl skip.exact in
      let a = s.names k x e in
      let i : q + 4 + 4 * k + 1 < m = omega (arith, a.inside, length-take-le m nodes l) in
      let j : from + 4 * k + 1 ≡ q + 4 + 4 * k + 1 = omega arith in
      let v : get_or nodes (from + 4 * k + 1) 0 ≡ 4 * ρ x = ap (λ (y : ℕ). get_or nodes y 0) j ∙ sym (get_or-take m nodes (q + 4 + 4 * k + 1) 0 i) ∙ a.number in
      let y : get_or nodes (from + 4 * k + 1) 0 / 4 ≡ ρ x = omega arith in
      stored.each k (omega arith) ∙ ap (λ (z : ℕ). get_or starts z 0) y

  step : (d : Dossier) → m ≤ length nodes → (gs : List Given) → SetsAt (take m nodes) ρ q gs → ((n : ℕ) → get_elem? d.givens (g + n) ≡ get_elem? gs n)
      → ((n : ℕ) (h : Given) → n < g → get_elem? d.givens n ≡ some h → ElementsLabelled starts ρ old n h) → SetsLabelled nodes starts m d ρ to (g + 1) new
  step d l gs s same done = on gs s same
    where
      later : (n : ℕ) → g + 1 + n ≡ g + suc n
      later n = omega arith

      on : (gs : List Given) → SetsAt (take m nodes) ρ q gs → ((n : ℕ) → get_elem? d.givens (g + n) ≡ get_elem? gs n) → SetsLabelled nodes starts m d ρ to (g + 1) new
      on _ no_sets same =
          record {
            left = [];
            rest = no_sets;
            same = λ n. ap (get_elem? d.givens) (later n) ∙ same (suc n);
            done = λ n h u e. each n h e (eq-or-lt_of_le {n = n} {m = g} (omega arith));
          }
        where
          each : (n : ℕ) (h : Given) → get_elem? d.givens n ≡ some h → (n ≡ g) ⊎ (n < g) → ElementsLabelled starts ρ new n h
          each n h e (inl p) = absurd (none-ne-some h (sym (same 0) ∙ ap (get_elem? d.givens) (omega arith) ∙ e))
          each n h e (inr p) = labelled-kept n h p (done n h p e)
      on _ (some_sets {g = x} {gs = xs} i r f s) same =
          let a : SetAt (take m nodes) m ρ q x xs = subst (λ (z : ℕ). SetAt (take m nodes) z ρ q x xs) (length-take-le m nodes l) (set_at i x xs ρ r f s) in
          record {
            left = xs;
            rest = subst (λ (z : ℕ). SetsAt (take m nodes) ρ z xs) (sym (ends x xs a)) a.rest;
            same = λ n. ap (get_elem? d.givens) (later n) ∙ same (suc n);
            done = λ n h u e. each x xs a (same 0) n h e (eq-or-lt_of_le {n = n} {m = g} (omega arith));
          }
        where
          ends : (x : Given) (xs : List Given) (a : SetAt (take m nodes) m ρ q x xs) → to ≡ a.to
          ends x xs a = run_is a.run (item-is a.heading refl skip.exact) run.exact

          each : (x : Given) (xs : List Given) → SetAt (take m nodes) m ρ q x xs → get_elem? d.givens (g + 0) ≡ some x → (n : ℕ) (h : Given) → get_elem? d.givens n ≡ some h
              → (n ≡ g) ⊎ (n < g) → ElementsLabelled starts ρ new n h
          each x xs a z n h e (inl p) =
              let v : x ≡ h = some-injective x h (sym z ∙ ap (get_elem? d.givens) (omega arith) ∙ e) in
              subst₂ (λ (j : ℕ) (y : Given). ElementsLabelled starts ρ new j y) (sym p) v (labelled-here x xs l a)
          each x xs a z n h e (inr p) = labelled-kept n h p (done n h p e)

-- one given set more
pub sets-next : {nodes starts : List ℕ} {m q g from to : ℕ} {old new : List ℕ} → Skips nodes m q from → RunsTo nodes m 4 4 from to
    → Stored 8 (8 * g) (names_from nodes starts from) old new → SetsSo nodes starts m q g old → SetsSo nodes starts m to (g + 1) new
sets-next {nodes} {starts} {m} {q} {g} {from} {to} {old} {new} skip run stored so d ρ l e =
    let s = so d ρ l e in
    step nodes starts m q g from to old new ρ skip run stored d l s.left s.rest s.same s.done

pub elements-gathered : {nodes starts : List ℕ} {m q g : ℕ} {old new : List ℕ} → g ≡ 8 → Between 0 64 old new → SetsSo nodes starts m q g new
    → ElementsGathered nodes starts m old new
elements-gathered {g = c} z b so =
    record {
      others = b;
      each = λ d ρ l e few small n g p k x f. (so d ρ l e).done n g (omega (arith, entry-below g d.givens n p)) p (small n g p) k x f;
    }
