-- The arrays that the reader leaves of a text hold the tests of its dossier.
use mathlib.Core.Path.{◌≡◌, refl, sym, ap, ◌∙◌, subst}
use mathlib.Core.List.{List, [], ◌∷◌, ◌++◌, append_assoc}
use mathlib.Core.Option.{some, none-ne-some, some-injective}
use Prim.Native.Nat.{ℕ, zero, suc, ◌+◌, ◌≤◌, ◌<◌}
use native.Mathlib.Omega.{arith}
use lib.ListN.{length, get_or, get_elem?, take, drop, length-append, get_or-append}
use lib.Seq.{get_or-append-add}
use Rattle.form.specs.Tree.{Pred, Dossier}
use Rattle.form.specs.Codes.{dossier_codes}
use Rattle.reader.specs.ParserPromises.{numbering}
use Rattle.static_rules.specs.Scope.{Scope, Context, contexts}
use Rattle.static_rules.specs.Read.{reading, read}
use Rattle.meaning.proofs.ConjunctsHold.{conjuncts, conjuncts-hold}
use Rattle.meaning.proofs.Places.{entry-below}
use Rattle.value_types.specs.FaultlessContexts.{ContextFine}
use Rattle.table_nodes.specs.TableWalkPromises.{patch}
use Rattle.conjunct_tests.specs.TablePlacesResolvedTable.{Slots, pred_table}
use Rattle.conjunct_tests.specs.TablePlacesDossierTable.{slots_of, starts_of}
use Rattle.conjunct_tests.specs.SearchGroupsConjuncts.{used_pred, conjunct_row, conjunct_rows, context_rows, context_firsts}
use Rattle.reader.proofs.TablesStandingWhole.{rows_few}
use Rattle.reader.specs.Promises.{Written}
use Rattle.reader.specs.Gives.{Gives}
use Rattle.reader.proofs.ReadGives.{read-gives}
use Rattle.conjunct_tests.specs.ConjunctTests.{Conjunct, Conjuncts, no_conjuncts, more_conjuncts}
use Rattle.conjunct_tests.proofs.ConjunctRows.{rows-conjuncts}
use Rattle.read_predicates.specs.TestedPredicates.{Tested, none_tested, one_tested}
use Rattle.read_predicates.specs.PredicateRows.{Columns, RowsAt, no_rows, more_rows, ContextAt, TestsOf}
use Rattle.read_predicates.proofs.ReadPredicates.{read-tested}
use Rattle.read_predicates.proofs.SlotBounds.{slots-below, contexts-few}
use Rattle.conjunct_tests.proofs.SearchGroupsConjunctTables.{row-long}

module _ (table rows : List ℕ) where
  row-entry : (pre rest : List ℕ) (at from to : ℕ) (ss : List ℕ) (i : ℕ) → at ≡ length pre → rows ≡ pre ++ (conjunct_row from to ss ++ rest)
      → get_or rows (at + i) 0 ≡ get_or (conjunct_row from to ss ++ rest) i 0
  row-entry pre rest at from to ss i l e =
      ap (λ (w : List ℕ). get_or w (at + i) 0) e
      ∙ ap (λ (n : ℕ). get_or (pre ++ (conjunct_row from to ss ++ rest)) (n + i) 0) l
      ∙ get_or-append-add pre (conjunct_row from to ss ++ rest) i 0

  row-end : (pre rest : List ℕ) (at from to : ℕ) (ss : List ℕ) → at ≡ length pre → rows ≡ pre ++ (conjunct_row from to ss ++ rest) → get_or rows (at + 1) 0 ≡ to
  unfolding conjunct_row
  row-end pre rest at from to ss l e = row-entry pre rest at from to ss 1 l e

  row-columns : (pre rest : List ℕ) (at from to : ℕ) (ss : List ℕ) → at ≡ length pre → rows ≡ pre ++ (conjunct_row from to ss ++ rest) → Columns rows at ss
  unfolding conjunct_row
  row-columns pre rest at from to ss l e = record {
    abstracts = row-entry pre rest at from to ss 2 l e;
    concretes = row-entry pre rest at from to ss 3 l e;
    inputs = row-entry pre rest at from to ss 4 l e;
    outputs = row-entry pre rest at from to ss 5 l e;
    concretes_primed = row-entry pre rest at from to ss 6 l e;
    abstracts_primed = row-entry pre rest at from to ss 7 l e;
  }

  -- conjuncts whose rows stand behind `pre`
  rows_at : (Γ : Scope) (W : Slots) (x : List ℕ) (ps : List Pred) → Conjuncts table Γ W x ps → (pre post : List ℕ) (at to : ℕ) → at ≡ length pre
      → rows ≡ pre ++ (x ++ post) → to ≡ at + length x → RowsAt table rows Γ W to at ps
  rows_at Γ W _ _ no_conjuncts pre post at to l e k = no_rows {at = at} (omega arith)
  rows_at Γ W _ _ (more_conjuncts {from = from} {to = end} {p = p} {rows = rest} {ps = ps} c r) pre post at to l e k =
      let row : List ℕ = conjunct_row from end (used_pred p W 38) in
      let n = row-long from end (used_pred p W 38) in
      let s : rows ≡ pre ++ (row ++ (rest ++ post)) = e ∙ ap (λ (w : List ℕ). pre ++ w) (append_assoc row rest post) in
      let g = row-end pre (rest ++ post) at from end (used_pred p W 38) l s in
      let a = length-append row rest in
      let b = length-append pre row in
      more_rows {at = at} (omega arith) (subst (λ (m : ℕ). Conjunct table Γ W p from m) (sym g) c)
      (row-columns pre (rest ++ post) at from end (used_pred p W 38) l s)
      (rows_at Γ W rest ps r (pre ++ row) post (at + 8) to (omega arith) (s ∙ sym (append_assoc pre row (rest ++ post))) (omega arith))

  first_is : (n : ℕ) (cs : List Context) (Ws : List Slots) (qs : List ℕ) → get_or (context_firsts n cs Ws qs) 0 0 ≡ n
  unfolding context_firsts
  first_is n [] Ws qs = refl
  first_is n (c ∷ cs) [] qs = refl
  first_is n (c ∷ cs) (W ∷ Ws) [] = refl
  first_is n (c ∷ cs) (W ∷ Ws) (q ∷ qs) = refl

  record Found (fs : List ℕ) (end n : ℕ) (c : Context) (W : Slots) : Type 0 where
    fine : ContextFine c
    ordered : get_or fs n 0 ≤ get_or fs (suc n) 0
    low : get_or fs (suc n) 0 ≤ end
    stand : RowsAt table rows c.scope W (get_or fs (suc n) 0) (get_or fs n 0) (conjuncts c.predicate)

  found : (cs : List Context) (Ws : List Slots) (qs : List ℕ) → Tested table cs Ws qs → (pre post : List ℕ) (m : ℕ) → m ≡ length pre
      → rows ≡ pre ++ (context_rows cs Ws qs ++ post) → (n : ℕ) (c : Context) (W : Slots) → get_elem? cs n ≡ some c → get_elem? Ws n ≡ some W
      → Found (context_firsts m cs Ws qs) (m + length (context_rows cs Ws qs)) n c W
  unfolding context_rows context_firsts
  found _ _ _ none_tested pre post m l e n c W h k = absurd (none-ne-some c h)
  found _ _ _ (one_tested {c = c₀} {cs} {W = W₀} {Ws} {q} {qs} fine t r) pre post m l e zero c W h k =
      let x : List ℕ = conjunct_rows c₀.predicate c₀.scope W₀ q in
      let y : List ℕ = context_rows cs Ws qs in
      let fs : List ℕ = context_firsts m (c₀ ∷ cs) (W₀ ∷ Ws) (q ∷ qs) in
      let s = first_is (m + length x) cs Ws qs in
      let a = length-append x y in
      let g : Found fs (m + length (x ++ y)) 0 c₀ W₀ = record {
        fine = fine;
        ordered = omega arith;
        low = omega arith;
        stand = rows_at c₀.scope W₀ x (conjuncts c₀.predicate)
            (rows-conjuncts table c₀.scope W₀ c₀.predicate q (q + length (pred_table c₀.predicate c₀.scope W₀ 38 q)) t) pre (y ++ post) m
            (get_or (context_firsts (m + length x) cs Ws qs) 0 0) l (e ∙ ap (λ (w : List ℕ). pre ++ w) (append_assoc x y post)) s;
      } in
      subst (λ (z : Context). Found fs (m + length (x ++ y)) 0 z W) (some-injective c₀ c h)
      (subst (λ (z : Slots). Found fs (m + length (x ++ y)) 0 c₀ z) (some-injective W₀ W k) g)
  found _ _ _ (one_tested {c = c₀} {cs} {W = W₀} {Ws} {q} {qs} fine t r) pre post m l e (suc n) c W h k =
      let x : List ℕ = conjunct_rows c₀.predicate c₀.scope W₀ q in
      let y : List ℕ = context_rows cs Ws qs in
      let a = length-append x y in
      let b = length-append pre x in
      let g = found cs Ws qs r (pre ++ x) post (m + length x) (omega arith)
      (e ∙ ap (λ (w : List ℕ). pre ++ w) (append_assoc x y post) ∙ sym (append_assoc pre x (y ++ post))) n c W h k in
      let low = g.low in
      record { fine = g.fine; ordered = g.ordered; low = omega arith; stand = g.stand }

  firsts-long : (cs : List Context) (Ws : List Slots) (qs : List ℕ) → Tested table cs Ws qs → (m : ℕ) → length (context_firsts m cs Ws qs) ≡ length cs + 1
  unfolding context_firsts
  firsts-long _ _ _ none_tested m = refl
  firsts-long _ _ _ (one_tested {c = c₀} {cs} {W = W₀} {Ws} {q} {qs} fine t r) m =
      let e = firsts-long cs Ws qs r (m + length (conjunct_rows c₀.predicate c₀.scope W₀ q)) in omega arith

front : (x out : List ℕ) → patch 0 x out ≡ x ++ drop (0 + length x) out
unfolding patch
front x out = refl

-- what `read` leaves of a text that is read, in an array of 16,384 numbers for the table
pub read-tests : (text nodes spans₀ table₀ groups₀ rows₀ firsts₀ spans table groups rows firsts : List ℕ) (d : Dossier) (m : ℕ) → read text ≡ reading d
    → m ≤ length nodes → take m nodes ≡ dossier_codes d (numbering text) → m ≤ 16384 → m ≤ length table₀ → length table ≤ 16384
    → Written text d spans₀ table₀ groups₀ rows₀ firsts₀ spans table groups rows firsts → TestsOf table rows firsts d
read-tests text nodes spans₀ table₀ groups₀ rows₀ firsts₀ spans table groups rows firsts d m e h u z l k w = record { tests = go }
  where
    qs : List ℕ
    qs = starts_of d (numbering text)

    fs : List ℕ
    fs = context_firsts 0 (contexts d) (slots_of d) qs

    given : Gives text d
    given = read-gives text d e

    tested : Tested table (contexts d) (slots_of d) qs
    tested = read-tested text nodes table₀ table d m e h u l w.table_is k

    entry : (n : ℕ) → n < length fs → get_or firsts n 0 ≡ get_or fs n 0
    entry n i = ap (λ (x : List ℕ). get_or x n 0) (w.firsts_are ∙ front fs firsts₀) ∙ get_or-append fs (drop (0 + length fs) firsts₀) 0 n i

    go : (n : ℕ) (c : Context) (W : Slots) → get_elem? (contexts d) n ≡ some c → get_elem? (slots_of d) n ≡ some W → ContextAt table rows firsts n c W
    go n c W i j =
        let b = entry-below c (contexts d) n i in
        let long = firsts-long table rows (contexts d) (slots_of d) qs tested 0 in
        let few = contexts-few d given.variables in
        let x : List ℕ = context_rows (contexts d) (slots_of d) qs in
        let g = found table rows (contexts d) (slots_of d) qs tested [] (drop (0 + length x) rows₀) 0 refl (w.rows_are ∙ front x rows₀) n c W i j in
        let small = rows_few d (numbering text) nodes m h u z in
        let first = entry n (omega arith) in
        let next : get_or firsts (n + 1) 0 ≡ get_or fs (suc n) 0 = entry (n + 1) (omega arith) ∙ ap (λ (v : ℕ). get_or fs v 0) (omega arith) in
        let ordered = g.ordered in
        let low = g.low in
        record {
          reach = g.fine.reach;
          below = slots-below d given.variables n W j;
          inside = omega arith;
          ordered = omega arith;
          low = omega arith;
          conjuncts = conjuncts c.predicate;
          whole = conjuncts-hold c.predicate;
          stand = subst (λ (v : ℕ). RowsAt table rows c.scope W v (get_or firsts n 0) (conjuncts c.predicate)) (sym next)
              (subst (λ (v : ℕ). RowsAt table rows c.scope W (get_or fs (suc n) 0) v (conjuncts c.predicate)) (sym first) g.stand);
        }
