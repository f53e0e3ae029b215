-- The nodes of a conjunct give its truth, and the rows of a predicate are those of its conjuncts: ( ) and `and` split it, all else is whole. Assumes nothing.
use mathlib.Core.Path.{sym, subst}
use mathlib.Core.List.{List, [], ◌∷◌, ◌++◌, append_assoc, append-nil}
use Prim.Native.Nat.{ℕ, ◌+◌, ◌-◌, ◌≤◌}
use native.Mathlib.Omega.{arith}
use lib.ListN.{length}
use Rattle.lexical.specs.Kinds.{code_of}
use Rattle.search_groups.specs.FormTree.{and, or, implies, iff}
use Rattle.search_groups.specs.FormTree.{Pred, truth, falsity, negation, paren, quantified, connected, compared, member, within, related}
use Rattle.search_groups.specs.FormWritten.{connective_kind}
use Rattle.evaluation.specs.StaticRulesScope.{Scope}
use Rattle.evaluation.specs.MeaningMeaning.{Environment, holds}
use Rattle.evaluation.proofs.MeaningConjunctsHold.{conjuncts}
use Rattle.search_groups.specs.NodeSpansSpans.{Stands}
use Rattle.evaluation.specs.TablePlacesResolvedTable.{Slots, pred_table}
use Rattle.search_groups.specs.Conjuncts.{used_pred, conjunct_row, conjunct_rows}
use Rattle.evaluation.specs.EvaluationByNumber.{Values, TruthIs}
use Rattle.evaluation.specs.SlotValues.{Held}
use Rattle.evaluation.specs.Heights.{height_pred}
use Rattle.evaluation.proofs.SoundTrees.{SoundPred, sound-paren, sound-connected}
use Rattle.evaluation.proofs.StandingNodes.{two-parts}
use Rattle.evaluation.proofs.TablesEvaluate.{pred_evaluates}
use Rattle.conjunct_tests.specs.ConjunctTests.{Conjunct, Conjuncts, no_conjuncts, more_conjuncts}
use Rattle.search_groups.proofs.NodeSpansStandingParts.{stands-length}

module _ (table : List ℕ) (Γ : Scope) (W : Slots) where
  pub conjunct-answers : (q : Pred) (from to : ℕ) (ρ : Environment) (σ : Values) → Conjunct table Γ W q from to → Held Γ W 0 ρ σ
      → TruthIs (height_pred q) table to σ (holds q ρ)
  conjunct-answers q from to ρ σ c h =
      pred_evaluates q Γ W 0 ρ σ table from to c.at c.sized_at (height_pred q) h c.judged c.sized c.within c.few c.stands c.low (omega arith)

  sound : (q : Pred) (from to : ℕ) → Conjunct table Γ W q from to → SoundPred q Γ 0
  sound q from to c = record { at = c.at; sized_at = c.sized_at; judged = c.judged; sized = c.sized; within = c.within; few = c.few }

  part : (q : Pred) (from to : ℕ) → SoundPred q Γ 0 → Stands table from to (pred_table q Γ W 38 from) → to ≤ 16384 → Conjunct table Γ W q from to
  part q from to s st l = record { stands = st; low = l; at = s.at; sized_at = s.sized_at; judged = s.judged; sized = s.sized; within = s.within; few = s.few }

  single : (q : Pred) (from to : ℕ) → Conjunct table Γ W q from to
      → Conjuncts table Γ W (conjunct_row from (from + length (pred_table q Γ W 38 from)) (used_pred q W 38)) (q ∷ [])
  single q from to c =
      let r : List ℕ = conjunct_row from to (used_pred q W 38) in
      let h : Conjuncts table Γ W r (q ∷ []) = subst (λ (rows : List ℕ). Conjuncts table Γ W rows (q ∷ [])) (append-nil r) (more_conjuncts c no_conjuncts) in
      subst (λ (n : ℕ). Conjuncts table Γ W (conjunct_row from n (used_pred q W 38)) (q ∷ [])) (stands-length c.stands) h

  joined : (u v : List ℕ) (ps qs : List Pred) → Conjuncts table Γ W u ps → Conjuncts table Γ W v qs → Conjuncts table Γ W (u ++ v) (ps ++ qs)
  joined _ v _ qs no_conjuncts d = d
  joined _ v _ qs (more_conjuncts {from} {to} {p} {rows} {ps} c r) d =
      let a : List ℕ = conjunct_row from to (used_pred p W 38) in
      subst (λ (l : List ℕ). Conjuncts table Γ W l (p ∷ (ps ++ qs))) (sym (append_assoc a rows v)) (more_conjuncts c (joined rows v ps qs r d))

  -- the rows of a predicate whose table stands from `from` on
  pub rows-conjuncts : (p : Pred) (from to : ℕ) → Conjunct table Γ W p from to → Conjuncts table Γ W (conjunct_rows p Γ W from) (conjuncts p)
  unfolding conjunct_rows conjuncts pred_table
  rows-conjuncts truth from to c = single truth from to c
  rows-conjuncts falsity from to c = single falsity from to c
  rows-conjuncts (negation p) from to c = single (negation p) from to c
  rows-conjuncts (paren p) from to c = rows-conjuncts p from to (part p from to (sound-paren Γ 0 p (sound (paren p) from to c)) c.stands c.low)
  rows-conjuncts (quantified k x t p) from to c = single (quantified k x t p) from to c
  rows-conjuncts (connected and p r) from to c =
      let a : List ℕ = pred_table p Γ W 38 from in
      let b : List ℕ = pred_table r Γ W 38 (from + length a) in
      let s = sound-connected Γ 0 and p r (sound (connected and p r) from to c) in
      let t = two-parts table from to a b 18 (from + length a) (code_of (connective_kind and)) 0 c.stands in
      let l = c.low in
      let n = t.before in
      joined (conjunct_rows p Γ W from) (conjunct_rows r Γ W (from + length a)) (conjuncts p) (conjuncts r)
      (rows-conjuncts p from (from + length a) (part p from (from + length a) s.0 t.first (omega arith)))
      (rows-conjuncts r (from + length a) (to - 4) (part r (from + length a) (to - 4) s.1 t.second (omega arith)))
  rows-conjuncts (connected or p r) from to c = single (connected or p r) from to c
  rows-conjuncts (connected implies p r) from to c = single (connected implies p r) from to c
  rows-conjuncts (connected iff p r) from to c = single (connected iff p r) from to c
  rows-conjuncts (compared o t u) from to c = single (compared o t u) from to c
  rows-conjuncts (member o t u) from to c = single (member o t u) from to c
  rows-conjuncts (within o t r) from to c = single (within o t r) from to c
  rows-conjuncts (related o t u v) from to c = single (related o t u v) from to c
