-- The lines of a report piece by piece: the first line of a refuted check by its part.
use mathlib.Core.Path.{◌≡◌, sym, ap, ◌∙◌}
use mathlib.Core.List.{List, [], ◌∷◌, map}
use mathlib.Core.Option.{some, none-ne-some, some-injective}
use Prim.Native.Nat.{ℕ, zero, suc, ◌+◌, ◌<◌, ◌≤◌}
use native.Mathlib.Omega.{arith}
use lib.ListN.{length, get_or, get_elem?}
use Rattle.lexical.specs.Lists.{bytes}
use Rattle.form.specs.Tree.{Operation, Dossier}
use Rattle.meaning.proofs.Places.{below-entry}
use Rattle.obligations.specs.Order.{Obligation, initialisation, applicability, correctness}
use Rattle.obligations.specs.Report.{titles, refuted_line}
use Rattle.pieces.specs.PiecePromises.{Adds, letters_at}
use Rattle.pieces.specs.declared.Writer.{Writer}
use Rattle.pieces.proofs.WrittenPieces.{piece_is, both-added, letters-length}
use Rattle.labels.specs.Labels.{LabelsOf}
use Rattle.witnesses.proofs.LinesLabelledLines.{spelt-letters}
use Rattle.reports.specs.ReportPromises.{ObligationIn, AddsLine}

-- the name of the operation at a place
title-at : (os : List Operation) (j : ℕ) (op : Operation) → get_elem? os j ≡ some op → get_or (map (λ (o : Operation). o.title) os) j [] ≡ op.title
title-at [] j op e = absurd (none-ne-some op e)
title-at (o ∷ os) zero op e = ap (λ (x : Operation). x.title) (some-injective o op e)
title-at (o ∷ os) (suc j) op e = title-at os j op e

title-of : {text labels : List ℕ} {d : Dossier} → LabelsOf text labels d → (j : ℕ) → j < length d.operations
    → letters_at text (get_or labels (64 + j) 0) ≡ get_or (titles d) j []
unfolding titles
title-of {text} {labels} {d} l j h =
    let t : (op : Operation) × (get_elem? d.operations j ≡ some op) = below-entry d.operations j h in
    spelt-letters text (get_or labels (64 + j) 0) t.0.title (l.titles_at j t.0 t.1) ∙ sym (title-at d.operations j t.0 t.1)

module _ {text labels : List ℕ} {old new : Writer} where
  pub opening-line : Adds (bytes "refuted initialisation\n") old new → AddsLine text labels initialisation old new
  unfolding bytes refuted_line
  opening-line w = record {
    same_bytes = w.same_bytes;
    written = record { line = λ d l i. w.written; long = w.written.long; onward = omega (arith, w.written.end); short = omega (arith, w.written.end) };
  }

  -- the words, the operation's name and a newline, where the words are few
  module _ (k : ℕ) {p : List ℕ} {a b : Writer} (w : Adds p old a) (v : Adds (letters_at text (get_or labels (64 + k) 0)) a b) (u : Adds (10 ∷ []) b new) (few : length p ≤ 22) where
    titled-line : {o : Obligation} → ((d : Dossier) → LabelsOf text labels d → ObligationIn d o → Adds (refuted_line d o) old new) → AddsLine text labels o old new
    titled-line line = record {
      same_bytes = u.same_bytes ∙ v.same_bytes ∙ w.same_bytes;
      written = record {
        line = λ d l i. (line d l i).written;
        long = u.written.long ∙ v.written.long ∙ w.written.long;
        onward = omega (arith, w.written.end, v.written.end, u.written.end);
        short = omega (arith, w.written.end, v.written.end, u.written.end, few, letters-length text (get_or labels (64 + k) 0));
      };
    }

  module _ {k : ℕ} {a b : Writer} (v : Adds (letters_at text (get_or labels (64 + k) 0)) a b) (u : Adds (10 ∷ []) b new) where
    pub applying-line : Adds (bytes "refuted applicability ") old a → AddsLine text labels (applicability k) old new
    unfolding bytes refuted_line
    applying-line w = titled-line k w v u (omega arith) (λ d l i. both-added (both-added w (piece_is (title-of l k i) v)) u)

    pub correcting-line : Adds (bytes "refuted correctness ") old a → AddsLine text labels (correctness k) old new
    unfolding bytes refuted_line
    correcting-line w = titled-line k w v u (omega arith) (λ d l i. both-added (both-added w (piece_is (title-of l k i) v)) u)
