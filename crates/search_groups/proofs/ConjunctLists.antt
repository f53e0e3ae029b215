-- The rows of the contexts, and the marks before each, one behind the other: what the functions that list all conjuncts count on.
use mathlib.Core.Path.{◌≡◌, refl, sym, ap, ◌∙◌, subst}
use mathlib.Core.List.{List, [], ◌∷◌, ◌++◌, append_assoc, append-nil}
use Prim.Native.Nat.{ℕ, suc, ◌+◌, ◌*◌, ◌≤◌, ◌<◌}
use native.Mathlib.Omega.{arith}
use lib.ListN.{length, set, length-append}
use Rattle.table_places.specs.StaticRulesScope.{contexts}
use Rattle.node_spans.specs.Spans.{Stands, span}
use Rattle.node_spans.specs.SpanPromises.{NumberPut}
use Rattle.table_nodes.specs.TableWalkPromises.{patch}
use Rattle.table_places.specs.DossierTable.{slots_of, starts_of}
use Rattle.search_groups.specs.Conjuncts.{context_rows, context_firsts}
use Rattle.search_groups.specs.GroupPromises.{Conjoin, Conjoined, Wrote, place_of, RowsAt, no_rows, more_rows, ContextPut, ContextsAhead, ListPut, Standing, Listed}
use Rattle.table_nodes.proofs.Pieces.{patch-none, patch-length, patch-behind}
use Rattle.table_nodes.proofs.Pieces.{patch-more}
use Rattle.search_groups.proofs.ConjunctContexts.{twice, twice-is, starts_by, starts_are, dossier-rows}

-- one context
pub context-put : {table spans : List ℕ} {j n from end r : ℕ} {out after : List ℕ} → from ≡ span spans j → end ≡ span spans (j + 1) → end < 65536
    → Conjoined table (from + 4) end n out after r → length out ≤ 65535 → ContextPut table spans j n out after r
context-put {table} {spans} {j} {n} {from} {end} {r} {out} {after} e f l c o =
    record {
      long = c.long;
      right =
          λ codes rows p s h.
          let p₂ : Conjoin (from + 4) codes rows = subst (λ (x : ℕ). Conjoin (x + 4) codes rows) (sym e) p in
          let s₂ : Stands table (from + 4) end codes =
          subst (λ (x : ℕ). Stands table (x + 4) end codes) (sym e) (subst (λ (x : ℕ). Stands table (span spans j + 4) x codes) (sym f) s) in
          c.right codes rows p₂ s₂ (omega arith) o h;
    }

pub ahead-first : (table spans : List ℕ) (count : ℕ) (rows fs out firsts : List ℕ) → RowsAt table spans 0 count 0 rows fs
    → ContextsAhead table spans 0 0 count rows fs out out firsts firsts
ahead-first table spans count rows fs out firsts a =
    record {
      left = count;
      front = [];
      more = rows;
      before = [];
      others = fs;
      rest = a;
      whole = refl;
      firsts_whole = refl;
      sum = omega arith;
      place = refl;
      number = refl;
      written = sym (patch-none 0 out);
      marks = sym (patch-none 0 firsts);
    }

pub ahead-next : {table spans : List ℕ} {j k n count r : ℕ} {rows fs out now after firsts marks marked : List ℕ}
    → ContextsAhead table spans k n count rows fs out now firsts marks → NumberPut k n marks marked → ContextPut table spans j n now after r → j ≡ place_of k → k < count
    → length rows ≤ length out → length out ≤ 65535 → k < length firsts → ContextsAhead table spans (k + 1) r count rows fs out after firsts marked
ahead-next {table} {spans} {j} {k} {n} {count} {r} {rows} {fs} {out} {now} {after} {firsts} {marks} {marked} x z p e h l o q =
    go x.left x.more x.others x.rest x.whole x.firsts_whole x.sum
  where
    go : (m : ℕ) (more others : List ℕ) → RowsAt table spans k m n more others → rows ≡ x.front ++ more → fs ≡ x.before ++ others → count ≡ k + m
        → ContextsAhead table spans (k + 1) r count rows fs out after firsts marked
    go _ _ _ no_rows w f s = absurd (omega arith)
    go _ _ _ (more_rows {m = m} {from = from} {end = end} {codes = codes} {u = u} {v = v} {fs = others} a b c d t) w f s =
        let la : length rows ≡ length x.front + length (u ++ v) = ap length w ∙ length-append x.front (u ++ v) in
        let lu = length-append u v in
        let pl = x.place in
        let nb = x.number in
        let lo : length now ≡ length out = ap length x.written ∙ patch-length 0 x.front out (omega arith) in
        let fr : from ≡ span spans j + 4 = a ∙ ap (λ (i : ℕ). span spans i + 4) (sym e) in
        let en : end ≡ span spans (j + 1) = b ∙ ap (λ (i : ℕ). span spans (i + 1)) (sym e) in
        let c₂ : Conjoin (span spans j + 4) codes u = subst (λ (i : ℕ). Conjoin i codes u) fr c in
        let d₂ : Stands table (span spans j + 4) (span spans (j + 1)) codes =
        subst (λ (i : ℕ). Stands table i (span spans (j + 1)) codes) fr (subst (λ (i : ℕ). Stands table from i codes) en d) in
        let y : Wrote n u now after r = p.right codes u c₂ d₂ (omega arith) in
        let g : marked ≡ set marks k n = z.puts (omega arith) in
        let lf = length-append x.front u in
        let lb : length (x.before ++ (n ∷ [])) ≡ length x.before + 1 = length-append x.before (n ∷ []) in
        let yb = y.behind in
        let sk : suc k ≡ k + 1 = omega arith in
        record {
          left = m;
          front = x.front ++ u;
          more = v;
          before = x.before ++ (n ∷ []);
          others = others;
          rest = subst (λ (i : ℕ). RowsAt table spans i m r v others) sk (subst (λ (i : ℕ). RowsAt table spans (suc k) m i v others) (sym yb) t);
          whole = w ∙ sym (append_assoc x.front u v);
          firsts_whole = f ∙ sym (append_assoc x.before (n ∷ []) others);
          sum = omega arith;
          place = omega arith;
          number = omega arith;
          written = y.written ∙ ap (patch n u) x.written ∙ patch-behind 0 n x.front u out (omega arith) (omega arith);
          marks = g ∙ ap (λ (i : List ℕ). set i k n) x.marks ∙ patch-more 0 k n x.before firsts (omega arith) q;
        }

pub ahead-done : {table spans : List ℕ} {k n count : ℕ} {rows fs out after firsts marks marked : List ℕ} → ContextsAhead table spans k n count rows fs out after firsts marks
    → NumberPut count n marks marked → count ≡ k → length rows ≤ 65535 → k < length firsts → (after ≡ patch 0 rows out) × (marked ≡ patch 0 fs firsts)
ahead-done {table} {spans} {k} {n} {count} {rows} {fs} {out} {after} {firsts} {marks} {marked} x m h l q =
    go x.left x.more x.others x.rest x.whole x.firsts_whole x.sum
  where
    go : (m : ℕ) (more others : List ℕ) → RowsAt table spans k m n more others → rows ≡ x.front ++ more → fs ≡ x.before ++ others → count ≡ k + m
        → (after ≡ patch 0 rows out) × (marked ≡ patch 0 fs firsts)
    go _ _ _ no_rows w f s =
        let e : x.front ≡ rows = sym (w ∙ append-nil x.front) in
        let le = ap length e in
        let pl = x.place in
        let nb = x.number in (
          x.written ∙ ap (λ (i : List ℕ). patch 0 i out) e,
          m.puts (omega arith) ∙ ap (λ (i : ℕ). set marks i n) h ∙ ap (λ (i : List ℕ). set i k n) x.marks ∙ patch-more 0 k n x.before firsts (omega arith) q
              ∙ ap (λ (i : List ℕ). patch 0 i firsts) (sym f),
        )
    go _ _ _ (more_rows a b c d t) w f s = absurd (omega arith)

-- all contexts of a dossier
pub listed : {table spans : List ℕ} {operations : ℕ} {out after firsts marked : List ℕ} → ListPut table spans (5 + 2 * operations) out after firsts marked
    → Listed table spans operations out after firsts marked
listed {table} {spans} {operations} {out} {after} {firsts} {marked} p =
    record {
      exact =
          λ d ρ nodes rest s e l t h.
          let q : starts_of d ρ ≡ starts_by spans d = starts_are d ρ spans rest e in
          let t₂ : Standing table (contexts d) (slots_of d) (starts_by spans d) = subst (Standing table (contexts d) (slots_of d)) q t in
          let c = s.counted in
          let w = twice-is d.operations in
          let k : suc (suc (suc (suc (suc (twice d.operations))))) ≡ 5 + 2 * operations = omega arith in
          let r = dossier-rows nodes table spans ρ d operations s t₂ in
          let r₂ : RowsAt table spans 0 (5 + 2 * operations) 0 (context_rows (contexts d) (slots_of d) (starts_of d ρ)) (context_firsts 0 (contexts d) (slots_of d) (starts_of d ρ)) =
          subst (λ (qs : List ℕ). RowsAt table spans 0 (5 + 2 * operations) 0 (context_rows (contexts d) (slots_of d) qs) (context_firsts 0 (contexts d) (slots_of d) qs)) (sym q)
          (subst (λ (m : ℕ). RowsAt table spans 0 m 0 (context_rows (contexts d) (slots_of d) (starts_by spans d)) (context_firsts 0 (contexts d) (slots_of d) (starts_by spans d))) k r) in
          p.right _ _ r₂ h;
    }

-- too many operations: no dossier of the contract has them
pub listed-none : (table spans : List ℕ) (operations : ℕ) (out firsts : List ℕ) → 16 < operations → Listed table spans operations out out firsts firsts
listed-none table spans operations out firsts g = record { exact = λ d ρ nodes rest s e l t h. let c = s.counted in absurd (omega arith) }
