-- The conjuncts of all contexts of a dossier, by the numbers of their tables.
use mathlib.Core.Path.{◌≡◌, refl, sym, ap, ap₂, ◌∙◌}
use mathlib.Core.Bool.{Bool, cond}
use mathlib.Core.List.{List, [], ◌∷◌, ◌++◌}
use Prim.Native.Nat.{ℕ, zero, suc, ◌+◌, ◌-◌, ◌*◌, ◌/◌, ◌%◌, ◌≤◌, ◌<◌}
use native.Mathlib.Omega.{arith}
use lib.ListN.{length, take, length-append, get_or-append}
use lib.Seq.{length-take-le}
use borrow.Author.Tests.{ne_eqb, le-ltb, lt-ltb}
use Rattle.form.specs.Tree.{Letters, Pred, Operation, Dossier}
use Rattle.form.specs.Headings.{operation_length}
use Rattle.form.specs.Codes.{Numbering, pred_codes}
use Rattle.table_places.specs.StaticRulesScope.{Context, contexts, operation_contexts}
use Rattle.node_spans.specs.Spans.{Stands, PredAt, span, spans_of, OperationsAt, no_more, one_more, Structured}
use Rattle.table_places.specs.ResolvedTable.{Slots, pred_table}
use Rattle.table_places.specs.DossierTable.{operation_slots, slots_of, operation_starts, starts_of}
use Rattle.search_groups.specs.Conjuncts.{conjunct_rows, context_rows, context_firsts}
use Rattle.search_groups.specs.GroupPromises.{place_of, RowsAt, no_rows, more_rows, Standing, one_stands}
use Rattle.search_groups.proofs.TableLength.{pred-length}
use Rattle.search_groups.proofs.ConjunctRows.{conjoin_of}
use Rattle.table_places.proofs.WritingAll.{starts-same, spans-length}

-- the places in the spans
place-later : (k : ℕ) → 5 ≤ k → place_of k ≡ 10 + 4 * ((k - 5) / 2) + (k - 5) % 2
unfolding place_of
place-later k h =
    let r : ℕ = 10 + 4 * ((k - 5) / 2) + (k - 5) % 2 in
    ap₂ (λ (t u : Bool). cond t 1 (cond u (k + 3) r)) (ne_eqb k 0 (λ e. omega arith)) (le-ltb k 5 h)

pub place-of : (k r : ℕ) → 5 ≤ k → r ≡ 10 + 4 * ((k - 5) / 2) + (k - 5) % 2 → r ≡ place_of k
place-of k r h e = e ∙ sym (place-later k h)

pub place-state : (k : ℕ) → (k ≡ 0 → ⊥) → k < 5 → k + 3 ≡ place_of k
unfolding place_of
place-state k n h =
    let r : ℕ = 10 + 4 * ((k - 5) / 2) + (k - 5) % 2 in
    sym (ap₂ (λ (t u : Bool). cond t 1 (cond u (k + 3) r)) (ne_eqb k 0 n) (lt-ltb k 5 h))

pub place-first : (k : ℕ) → k ≡ 0 → 1 ≡ place_of k
unfolding place_of
place-first k e = ap place_of (sym e)

place-abstract : (k m : ℕ) → k ≡ 5 + 2 * m → place_of k ≡ 9 + 4 * m + 1
place-abstract k m e = place-later k (omega arith) ∙ omega arith

place-concrete : (k m : ℕ) → k ≡ 6 + 2 * m → place_of k ≡ 9 + 4 * m + 2
place-concrete k m e = place-later k (omega arith) ∙ omega arith

-- where a predicate's table ends
pub pred-end : {nodes : List ℕ} {from to i : ℕ} {p : Pred} {ρ : Numbering} → PredAt nodes from to i p ρ → to ≡ from + 4 + length (pred_codes p i ρ)
pred-end {nodes} {from} {to} {i} {p} {ρ} a =
    let o = a.ordered in
    let n = a.inside in
    let l = length-append (take (from + 4) nodes) (pred_codes p i ρ) in
    let u = length-take-le (from + 4) nodes (omega arith) in
    let v = length-take-le to nodes (omega arith) in
    let w = ap length a.stands in
    omega arith

head-stands : {table : List ℕ} {c : Context} {cs : List Context} {W : Slots} {Ws : List Slots} {q : ℕ} {qs : List ℕ} → Standing table (c ∷ cs) (W ∷ Ws) (q ∷ qs)
    → Stands table q (q + length (pred_table c.predicate c.scope W 38 q)) (pred_table c.predicate c.scope W 38 q)
head-stands (one_stands s r) = s

tail-stands : {table : List ℕ} {c : Context} {cs : List Context} {W : Slots} {Ws : List Slots} {q : ℕ} {qs : List ℕ} → Standing table (c ∷ cs) (W ∷ Ws) (q ∷ qs)
    → Standing table cs Ws qs
tail-stands (one_stands s r) = r

-- two contexts for each operation
abbrev pub twice : List Operation → ℕ
twice [] = zero
twice (o ∷ os) = suc (suc (twice os))

pub twice-is : (os : List Operation) → twice os ≡ 2 * length os
twice-is [] = refl
twice-is (o ∷ os) = let h = twice-is os in omega arith

-- where the predicates begin, by the spans as they stand in an array
abbrev pub starts_by : List ℕ → Dossier → List ℕ
starts_by s d = (span s 1 + 4) ∷ (span s 4 + 4) ∷ (span s 5 + 4) ∷ (span s 6 + 4) ∷ (span s 7 + 4) ∷ operation_starts s 0 d.operations

pub starts_are : (d : Dossier) (ρ : Numbering) (spans rest : List ℕ) → spans ≡ spans_of d ρ ++ rest → starts_of d ρ ≡ starts_by spans d
unfolding starts_of
starts_are d ρ spans rest e =
    let l = spans-length d ρ in
    let s : List ℕ = spans_of d ρ in
    let at : (k : ℕ) → k < length s → span s k ≡ span spans k = λ k h. sym (ap (λ (x : List ℕ). span x k) e ∙ get_or-append s rest 0 k h) in
    let o : operation_starts s 0 d.operations ≡ operation_starts spans 0 d.operations =
    sym (ap (λ (x : List ℕ). operation_starts x 0 d.operations) e ∙ starts-same s rest 0 d.operations (omega arith)) in
    let a = at 1 (omega arith) in
    let b = at 4 (omega arith) in
    let c = at 5 (omega arith) in
    let f = at 6 (omega arith) in
    let g = at 7 (omega arith) in
    λ i. (a i + 4) ∷ (b i + 4) ∷ (c i + 4) ∷ (f i + 4) ∷ (g i + 4) ∷ o i

-- one context, and those behind it
module _ (nodes table spans : List ℕ) (ρ : Numbering) where
  context-step : (k m n i a b : ℕ) (c : Context) (cs : List Context) (W : Slots) (Ws : List Slots) (qs : List ℕ) → a ≡ span spans (place_of k)
      → b ≡ span spans (place_of k + 1) → PredAt nodes a b i c.predicate ρ → Standing table (c ∷ cs) (W ∷ Ws) ((a + 4) ∷ qs)
      → ((j : ℕ) → Standing table cs Ws qs → RowsAt table spans (suc k) m j (context_rows cs Ws qs) (context_firsts j cs Ws qs))
      → RowsAt table spans k (suc m) n (context_rows (c ∷ cs) (W ∷ Ws) ((a + 4) ∷ qs)) (context_firsts n (c ∷ cs) (W ∷ Ws) ((a + 4) ∷ qs))
  unfolding context_rows context_firsts
  context-step k m n i a b c cs W Ws qs e f p s r =
      let t : List ℕ = pred_table c.predicate c.scope W 38 (a + 4) in
      let l : length t ≡ length (pred_codes c.predicate i ρ) = pred-length c.predicate c.scope W 38 (a + 4) i ρ in
      let g = pred-end p in
      more_rows {end = a + 4 + length t} (ap (λ (x : ℕ). x + 4) e) (omega arith) (conjoin_of c.predicate c.scope W (a + 4)) (head-stands s)
      (r (n + length (conjunct_rows c.predicate c.scope W (a + 4))) (tail-stands s))

  operation-rows : (d : Dossier) (k m n i j : ℕ) (xs : List Letters) (os : List Operation) → k ≡ 5 + 2 * m → OperationsAt nodes spans ρ m i os
      → Standing table (operation_contexts d j xs os) (operation_slots d os) (operation_starts spans m os)
      → RowsAt table spans k (twice os) n (context_rows (operation_contexts d j xs os) (operation_slots d os) (operation_starts spans m os))
      (context_firsts n (operation_contexts d j xs os) (operation_slots d os) (operation_starts spans m os))
  unfolding operation_contexts operation_slots operation_starts context_rows context_firsts
  operation-rows d k m n i j xs [] e no_more s = no_rows
  operation-rows d k m n i j xs (o ∷ os) e (one_more a b) s =
      let u : place_of k ≡ 9 + 4 * m + 1 = place-abstract k m e in
      let v : place_of (suc k) ≡ 9 + 4 * m + 2 = place-concrete (suc k) m (omega arith) in
      context-step k (suc (twice os)) n _ _ _ _ _ _ _ _ (ap (span spans) (sym u)) (ap (span spans) (omega arith)) a.abstractly s
      (λ n₁ s₁. context-step (suc k) (twice os) n₁ _ _ _ _ _ _ _ _ (ap (span spans) (sym v)) (ap (span spans) (omega arith)) a.concretely s₁
      (λ n₂ s₂. operation-rows d (suc (suc k)) (suc m) n₂ _ (j + operation_length o) (o.title ∷ xs) os (omega arith) b s₂))

  pub dossier-rows : (d : Dossier) (n : ℕ) → Structured nodes spans n d ρ → Standing table (contexts d) (slots_of d) (starts_by spans d)
      → RowsAt table spans 0 (suc (suc (suc (suc (suc (twice d.operations)))))) 0 (context_rows (contexts d) (slots_of d) (starts_by spans d))
      (context_firsts 0 (contexts d) (slots_of d) (starts_by spans d))
  unfolding contexts slots_of place_of
  dossier-rows d n w s =
      context-step 0 _ 0 _ _ _ _ _ _ _ _ refl refl w.abstract.predicate s
      (λ n₁ s₁. context-step 1 _ n₁ _ _ _ _ _ _ _ _ refl refl w.concrete.predicate s₁
      (λ n₂ s₂. context-step 2 _ n₂ _ _ _ _ _ _ _ _ refl refl w.ainit s₂
      (λ n₃ s₃. context-step 3 _ n₃ _ _ _ _ _ _ _ _ refl refl w.cinit s₃
      (λ n₄ s₄. context-step 4 _ n₄ _ _ _ _ _ _ _ _ refl refl w.retrieve s₄
      (λ n₅ s₅. operation-rows d 5 0 n₅ _ _ _ d.operations (omega arith) w.operations s₅)))))
