-- The nodes of a dossier with its spans are all that the pass asks for.
use mathlib.Core.Path.{◌≡◌, refl, ap, sym, ◌∙◌}
use mathlib.Core.List.{List, ◌++◌, append_assoc}
use Prim.Native.Nat.{ℕ, ◌+◌, ◌-◌, ◌*◌, ◌≤◌}
use native.Mathlib.Omega.{arith}
use lib.ListN.{length, take, drop, get_or, take-append-drop}
use Rattle.form.specs.Tree.{Operation, Dossier}
use Rattle.form.specs.Headings.{givens_at, operations_at}
use Rattle.form.specs.Codes.{Numbering, given_codes, operation_codes, dossier_codes}
use Rattle.node_spans.specs.ParserSections.{givens_from, abstract_from, operations_from}
use Rattle.node_spans.proofs.ParserItemNodes.{Split, split-first, split-as, split_at}
use Rattle.node_spans.proofs.ParserPartPlaces.{from_abstract, at-givens, at-operations}
use Rattle.node_spans.specs.Spans.{operation_spans, spans_of, span}
use Rattle.node_spans.proofs.Structure.{split-longer, stand, each-operation, structured}
use Rattle.table_places.specs.TablePromises.{TitlesAt, no_titles, one_title, Ready}

titles-stand : {c spans : List ℕ} (n k i : ℕ) (os : List Operation) (ρ : Numbering) (z y : List ℕ) → Split c n (operation_codes i os ρ ++ z)
    → Split spans (9 + 4 * k) (operation_spans n i os ρ ++ y) → TitlesAt c spans ρ k os
titles-stand {c} {spans} n k i os ρ z y =
    each-operation ρ z y (λ (k i : ℕ) (os : List Operation). TitlesAt c spans ρ k os) (λ k i. no_titles)
    (λ n k i o os w t.
    let s = w.s₀ in
    let m : span spans (9 + 4 * k) - 4 + 1 ≡ n + 1 = omega arith in
    one_title (ap (λ (x : ℕ). get_or c x 0) m ∙ split_at w.titled 1) t)
    n k i os

pub ready : (d : Dossier) (ρ : Numbering) (nodes spans : List ℕ) (m : ℕ) → m ≤ length nodes → take m nodes ≡ dossier_codes d ρ → length d.operations ≤ 16
    → (rest : List ℕ) → spans ≡ spans_of d ρ ++ rest → Ready nodes spans (length d.operations) (givens_from d ρ) (abstract_from d ρ) d ρ
unfolding spans_of abstract_from
ready d ρ nodes spans m l e few rest g =
    let z : List ℕ = drop m nodes in
    let w : nodes ≡ dossier_codes d ρ ++ z = sym (take-append-drop m nodes) ∙ ap (λ (x : List ℕ). x ++ z) e in
    let S : List ℕ = operation_spans (operations_from d ρ) (operations_at d) d.operations ρ in
    let G : List ℕ = given_codes (givens_at d) d.givens ρ in
    let s : Split spans 9 (S ++ rest) = split-first (take 9 (spans_of d ρ)) (S ++ rest) g in
    let u : Split nodes (givens_from d ρ) (G ++ (from_abstract d ρ ++ z)) = split-as (append_assoc G (from_abstract d ρ) z) (split-longer z w (at-givens d ρ)) in
    record {
      few = few;
      structured = structured d ρ nodes spans m l e rest g;
      titles = titles-stand (operations_from d ρ) 0 (operations_at d) d.operations ρ z rest (split-longer z w (at-operations d ρ)) s;
      rest = rest;
      spans_are = g;
      sets = stand G (from_abstract d ρ ++ z) u (givens_from d ρ) (abstract_from d ρ) refl refl;
    }
