-- Where the parts of a table stand, and the rows written one behind the other: what the functions that list the conjuncts count on.
use mathlib.Core.Path.{◌≡◌, refl, sym, ap, ap₂, ◌∙◌, subst}
use mathlib.Core.List.{List, [], ◌∷◌, ◌++◌, append_assoc}
use Prim.Native.Nat.{ℕ, ◌+◌, ◌-◌, ◌≤◌}
use native.Mathlib.Omega.{arith}
use lib.ListN.{length, take, drop, get_or, length-append}
use lib.Seq.{length-take-le}
use Rattle.std.proofs.lemmas.List.{drop-take, take_rest}
use borrow.Author.Tests.{leb-true, leb-false}
use lib.Dec.{leb}
use mathlib.Core.Bool.{◌&&◌}
use Rattle.std.proofs.Common.{Option, Some, None, Bool, true, false}
use Rattle.std.specs.Bool.{then_some}
use Rattle.form.specs.Codes.{node}
use Rattle.node_spans.specs.ParserSections.{PartOf}
use Rattle.node_spans.specs.Spans.{Stands}
use Rattle.table_nodes.specs.TableWalkPromises.{patch}
use Rattle.search_groups.specs.Conjuncts.{last_in, conjunct_row}
use Rattle.search_groups.specs.GroupPromises.{slots_at, piece, Conjoin, alone, both, Middle, Wrote, RowPut, Conjoined}
use Rattle.table_nodes.proofs.Pieces.{patch-behind, patch-length}
use Rattle.node_spans.proofs.StandingParts.{stands-length, stands-left, stands-right, stands_at}

-- the last node
pub record Last (t : List ℕ) (from end n k i a : ℕ) : Type 0 where
  pub inside : end ≤ length t
  pub long : end ≡ from + (n + 4)
  pub shape : get_or t (end - 1) 0 ≡ k
  pub first : get_or t (end - 3) 0 ≡ a
  pub place : get_or t (end - 2) 0 ≡ i

pub last-node : {t : List ℕ} {from end : ℕ} (x : List ℕ) (k i a b : ℕ) → Stands t from end (x ++ node k i a b) → Last t from end (length x) k i a
last-node {t} {from} {end} x k i a b s =
    let l = stands-length s in
    let n : length (x ++ node k i a b) ≡ length x + 4 = length-append x (node k i a b) in
    record {
      inside = s.inside;
      long = omega arith;
      shape = stands_at x (node k i a b) 3 (end - 1) s (omega arith) (omega arith);
      first = stands_at x (node k i a b) 1 (end - 3) s (omega arith) (omega arith);
      place = stands_at x (node k i a b) 2 (end - 2) s (omega arith) (omega arith);
    }

pub last-of-two : {t : List ℕ} {from end : ℕ} (x y : List ℕ) (k i a b : ℕ) → Stands t from end (x ++ (y ++ node k i a b)) → Last t from end (length x + length y) k i a
last-of-two {t} {from} {end} x y k i a b s =
    subst (λ (n : ℕ). Last t from end n k i a) (length-append x y)
    (last-node (x ++ y) k i a b (subst (Stands t from end) (sym (append_assoc x y (node k i a b))) s))

-- no `and` is here, or the first part ends at m
pub middle-none : (t : List ℕ) (from end : ℕ)
    → ((n m : ℕ) → Last t from end n 18 (from + m) 51 → m ≤ n → ⊥) → Middle t from end None
middle-none t from end h =
    record {
      within = tt;
      none = λ front k i a b s n. refl;
      found = λ x y s. absurd (h (length x + length y) (length x) (last-of-two x y 18 (from + length x) 51 0 s) (omega arith));
    }

pub middle-found : (t : List ℕ) (from end m : ℕ) → get_or t (end - 1) 0 ≡ 18 → get_or t (end - 3) 0 ≡ 51 → m ≡ get_or t (end - 2) 0 → from ≤ m → m + 4 ≤ end
    → Middle t from end (Some m)
middle-found t from end m e f g h l =
    record {
      within = (h, l);
      none = λ front k i a b s n. let w = last-node front k i a b s in absurd (n (sym w.shape ∙ e) (sym w.first ∙ f));
      found = λ x y s. ap (λ (i : ℕ). Some i) (g ∙ (last-of-two x y 18 (from + length x) 51 0 s).place);
    }

-- what is found, if it is inside
pub middle-picked : (t : List ℕ) (from end m : ℕ) (r : Option ℕ) → 4 ≤ end → r ≡ then_some (leb from m && leb m (end - 4)) m → get_or t (end - 1) 0 ≡ 18 → get_or t (end - 3) 0 ≡ 51
    → m ≡ get_or t (end - 2) 0 → Middle t from end r
middle-picked t from end m r room q e f g = subst (λ (o : Option ℕ). Middle t from end o) (sym q) (go (leb from m) (leb m (end - 4)) refl refl)
  where
    go : (x y : Bool) → leb from m ≡ x → leb m (end - 4) ≡ y → Middle t from end (then_some (x && y) m)
    go true true h i = middle-found t from end m e f g (leb-true from m h) (omega (arith, leb-true m (end - 4) i))
    go true false h i = middle-none t from end (λ n k l u. omega (arith, leb-false m (end - 4) i))
    go false y h i = middle-none t from end (λ n k l u. omega (arith, leb-false from m h))

-- the rows are those of the table that is cut at the end
pub conjoined-cut : {t front : List ℕ} {from m n r : ℕ} {out after : List ℕ} → (m ≤ length t → front ≡ take m t) → Conjoined front from (length front) n out after r → Conjoined t from m n out after r
conjoined-cut {t} {front} {from} {m} {n} {r} {out} {after} e c =
    record { long = c.long; right = λ codes rows j s g o h. go codes rows j s (e s.inside) g o h }
  where
    go : (codes rows : List ℕ) → Conjoin from codes rows → Stands t from m codes → front ≡ take m t → m ≤ 65535 → length out ≤ 65535 → n + length rows ≤ length out → Wrote n rows out after r
    go codes rows j s q g o h =
        let w = s.ordered in
        let l : length front ≡ m = ap length q ∙ length-take-le m t s.inside in
        let k : from + (m - from) ≡ m = omega arith in
        let d : drop from front ≡ take (m - from) (drop from t) = ap (drop from) (q ∙ ap (λ (i : ℕ). take i t) (sym k)) ∙ drop-take from (m - from) t in
        let f : length front - from ≡ m - from = ap (λ (i : ℕ). i - from) l in
        c.right codes rows j
        (record {
          ordered = omega arith;
          inside = omega arith;
          stands = take_rest front from ∙ d ∙ s.stands;
        }) (omega arith) o h

pub conjoined-front : {t front : List ℕ} {from m n r : ℕ} {out after : List ℕ} → PartOf t 0 m front → Conjoined front from (length front) n out after r → Conjoined t from m n out after r
conjoined-front {t} {front} {from} {m} p c =
    let e : m - 0 ≡ m = omega arith in
    conjoined-cut (λ h. p.part (omega arith) h ∙ ap (λ (i : ℕ). take i t) e) c

-- what was found is inside
pub middle-some : {t : List ℕ} {from end m : ℕ} {r : Option ℕ} → Middle t from end r → r ≡ Some m → Middle t from end (Some m)
middle-some {t} {from} {end} w e = subst (λ (o : Option ℕ). Middle t from end o) e w

pub middle-within : {t : List ℕ} {from end m : ℕ} {r : Option ℕ} → Middle t from end r → r ≡ Some m → (from ≤ m) × (m + 4 ≤ end)
middle-within w e = (middle-some w e).within

-- the rows of the two parts, one behind the other
wrote-both : (n k r : ℕ) (u v out mid after : List ℕ) → Wrote n u out mid k → Wrote k v mid after r → n + length (u ++ v) ≤ length out → Wrote n (u ++ v) out after r
wrote-both n k r u v out mid after p q h =
    let e = p.behind in
    let f = q.behind in
    let l = length-append u v in
    record {
      written = q.written ∙ ap (patch k v) p.written ∙ patch-behind n k u v out e (omega arith);
      behind = omega arith;
    }

pub conjoined-both : {t : List ℕ} {from end m n k r : ℕ} {out mid after : List ℕ} → Middle t from end (Some m)
    → Conjoined t from m n out mid k → Conjoined t m (end - 4) k mid after r → Conjoined t from end n out after r
conjoined-both {t} {from} {end} {m} {n} {k} {r} {out} {mid} {after} w p q =
    record { long = q.long ∙ p.long; right = λ codes rows c s g o h. go codes rows c s g o h }
  where
    go : (codes rows : List ℕ) → Conjoin from codes rows → Stands t from end codes → end ≤ 65535 → length out ≤ 65535 → n + length rows ≤ length out → Wrote n rows out after r
    go _ _ (alone front x i a b z₀) s g g₂ h = absurd (let e : ◌≡◌ {A = Option ℕ} (Some m) None = w.none front x i a b s z₀ in cc)
    go _ _ (both {x = x} {y = y} {u = u} {v = v} c d) s g g₂ h =
        let e₀ : ◌≡◌ {A = Option ℕ} (Some m) (Some (from + length x)) = w.found x y s in
        let e : m ≡ from + length x = cc in
        let z : List ℕ = node 18 (from + length x) 51 0 in
        let f : Last t from end (length x + length y) 18 (from + length x) 51 = last-of-two x y 18 (from + length x) 51 0 s in
        let o = f.long in
        let lu = length-append u v in
        let a : Wrote n u out mid k = p.right x u c (stands-left x (y ++ z) m s e) (omega arith) g₂ (omega arith) in
        let j = a.behind in
        let i = p.long in
        let b : Wrote k v mid after r =
        q.right y v (subst (λ (j : ℕ). Conjoin j y v) (sym e) d) (stands-left y z (end - 4) (stands-right x (y ++ z) m s e) (omega arith)) (omega arith) (omega arith) (omega arith) in
        wrote-both n k r u v out mid after a b h

-- the row of one conjunct, by its numbers
pub row-is : (from end a b c d g h : ℕ) (s : List ℕ) → a ≡ last_in 0 8 s → b ≡ last_in 8 8 s → c ≡ last_in 16 3 s → d ≡ last_in 19 3 s → g ≡ last_in 22 8 s
    → h ≡ last_in 30 8 s → ◌≡◌ {A = List ℕ} (from ∷ end ∷ a ∷ b ∷ c ∷ d ∷ g ∷ h ∷ []) (conjunct_row from end s)
unfolding conjunct_row
row-is from end a b c d g h s p₃ p₄ p₅ p₆ p₇ p₈ = λ i. from ∷ end ∷ p₃ i ∷ p₄ i ∷ p₅ i ∷ p₆ i ∷ p₇ i ∷ p₈ i ∷ []

pub row-long : (from end : ℕ) (s : List ℕ) → length (conjunct_row from end s) ≡ 8
unfolding conjunct_row
row-long from end s = refl

pub row_put : (t : List ℕ) (from end n : ℕ) (out after : List ℕ) → after ≡ patch n (conjunct_row from end (slots_at (piece t from end))) out → n + 8 ≤ length out
    → RowPut t from end n out after (n + 8)
unfolding conjunct_row
row_put t from end n out after e l =
    record {
      long = ap length e ∙ patch-length n (conjunct_row from end (slots_at (piece t from end))) out l;
      right = λ a b c d f. record { written = e; behind = refl };
    }

pub conjoined-one : {t : List ℕ} {from end n r : ℕ} {out after : List ℕ} → Middle t from end None → RowPut t from end n out after r → Conjoined t from end n out after r
unfolding conjunct_row
conjoined-one {t} {from} {end} {n} {r} {out} {after} w p =
    record { long = p.long; right = λ codes rows c s g o h. go codes rows c s g o h }
  where
    go : (codes rows : List ℕ) → Conjoin from codes rows → Stands t from end codes → end ≤ 65535 → length out ≤ 65535 → n + length rows ≤ length out → Wrote n rows out after r
    go _ _ (both {x = x} {y = y} c d) s g g₂ h =
        let e : ◌≡◌ {A = Option ℕ} None (Some (from + length x)) = w.found x y s in absurd (cc)
    go _ _ (alone front x i a b z₀) s g g₂ h =
        let z : List ℕ = front ++ node x i a b in
        subst (λ (rows : List ℕ). Wrote n rows out after r) (ap₂ (λ (e : ℕ) (y : List ℕ). conjunct_row from e (slots_at y)) (stands-length s) s.stands)
        (p.right s.ordered s.inside g g₂ h)
