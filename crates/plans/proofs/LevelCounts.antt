-- The conjuncts of a level among the rows of a predicate: of some rows and of the others behind them; those of all levels together are no more than the rows. Assumes nothing.
use mathlib.Core.Path.{◌≡◌, refl, sym, ap, ap₂, subst, ◌∙◌}
use mathlib.Core.Logic.{◌⊎◌, inl, inr}
use mathlib.Core.Bool.{Bool, true, false}
use mathlib.Core.List.{List, [], ◌∷◌, ◌++◌, append_assoc, append-nil}
use Prim.Native.Nat.{ℕ, zero, suc, ◌+◌, ◌-◌, ◌*◌, ◌<◌, ◌≤◌}
use native.Mathlib.Omega.{arith}
use lib.Dec.{eqb}
use lib.ListN.{get_or, length, set, length-append}
use borrow.Author.Tests.{lt-ltb, le-ltb, eqb-true, eqb-false, eq-eqb, ne_eqb}
use Rattle.plans.specs.PlansByNumber.{Asking, level_of, entry_of, entries_from, entries_of, search_entries, Rows, no_asking}
use Rattle.plans.specs.declared.Asked.{Asked}
use Rattle.plans.specs.PlanWriting.{asked_in, RowIn, Appended, count_below, count_of}
use Rattle.std.proofs.lemmas.Bool.{cases_lt}
use Rattle.plans.proofs.Segments.{appended-none, appended_one, appended-both}

-- ---- the level and the conjunct of one row

module _ (rows : List ℕ) (p : Asking) (r : ℕ) where
  pub level-second : (x : ℕ) → x ≡ get_or rows (r + p.second) 0 → (x ≡ 0 → ⊥) → p.count + x ≡ level_of rows p r
  unfolding level_of
  level-second x e h = rw (level_of, ne_eqb (get_or rows (r + p.second) 0) 0 (λ q. h (e ∙ q))) (ap (λ (z : ℕ). p.count + z) e)

  pub level-none : (x : ℕ) → x ≡ get_or rows (r + p.second) 0 → x ≡ 0 → p.first ≡ 0 → 0 ≡ level_of rows p r
  unfolding level_of
  level-none x e h k = rw (level_of, eq-eqb (get_or rows (r + p.second) 0) 0 (sym e ∙ h), eq-eqb p.first 0 k) refl

  pub level-first : (x y : ℕ) → x ≡ get_or rows (r + p.second) 0 → x ≡ 0 → (p.first ≡ 0 → ⊥) → y ≡ get_or rows (r + p.first) 0 → y ≡ level_of rows p r
  unfolding level_of
  level-first x y e h k f = rw (level_of, eq-eqb (get_or rows (r + p.second) 0) 0 (sym e ∙ h), ne_eqb p.first 0 k) f

  pub entries-here : (l n : ℕ) → level_of rows p r ≡ l → entries_from rows p l (suc n) r ≡ entry_of rows p r ∷ entries_from rows p l n (r + 8)
  unfolding entries_from
  entries-here l n e = rw (entries_from, eq-eqb (level_of rows p r) l e) refl

  pub entries-past : (l n : ℕ) → (level_of rows p r ≡ l → ⊥) → entries_from rows p l (suc n) r ≡ entries_from rows p l n (r + 8)
  unfolding entries_from
  entries-past l n e = rw (entries_from, ne_eqb (level_of rows p r) l e) refl

  one_entry : (l : ℕ) → level_of rows p r ≡ l → entries_from rows p l 1 r ≡ entry_of rows p r ∷ []
  unfolding entries_from
  one_entry l e = entries-here l 0 e

  no-entry : (l : ℕ) → (level_of rows p r ≡ l → ⊥) → entries_from rows p l 1 r ≡ []
  unfolding entries_from
  no-entry l e = entries-past l 0 e

-- ---- some rows and the others behind them

module _ (rows : List ℕ) (p : Asking) (l : ℕ) where
  split-row : (i m r : ℕ) → entries_from rows p l (i + m) (r + 8) ≡ entries_from rows p l i (r + 8) ++ entries_from rows p l m (r + 8 + 8 * i)
      → entries_from rows p l (suc (i + m)) r ≡ entries_from rows p l (suc i) r ++ entries_from rows p l m (r + 8 * suc i)
  split-row i m r f = go (eqb (level_of rows p r) l) refl
    where
      rest : entries_from rows p l (i + m) (r + 8) ≡ entries_from rows p l i (r + 8) ++ entries_from rows p l m (r + 8 * suc i)
      rest =
          f ∙ ap (λ (z : ℕ). entries_from rows p l i (r + 8) ++ entries_from rows p l m z) (let e : r + 8 + 8 * i ≡ r + 8 * suc i = omega arith in e)

      go : (t : Bool) → eqb (level_of rows p r) l ≡ t → entries_from rows p l (suc (i + m)) r ≡ entries_from rows p l (suc i) r ++ entries_from rows p l m (r + 8 * suc i)
      go true e =
          let k = eqb-true (level_of rows p r) l e in
          entries-here rows p r l (i + m) k ∙ ap (λ (z : List ℕ). entry_of rows p r ∷ z) rest
          ∙ ap (λ (z : List ℕ). z ++ entries_from rows p l m (r + 8 * suc i)) (sym (entries-here rows p r l i k))
      go false e =
          let k = eqb-false (level_of rows p r) l e in
          entries-past rows p r l (i + m) k ∙ rest ∙ ap (λ (z : List ℕ). z ++ entries_from rows p l m (r + 8 * suc i)) (sym (entries-past rows p r l i k))

  entries-split : (i m r : ℕ) → entries_from rows p l (i + m) r ≡ entries_from rows p l i r ++ entries_from rows p l m (r + 8 * i)
  unfolding entries_from
  entries-split zero m r =
      ap (λ (z : ℕ). entries_from rows p l z r) (let e : 0 + m ≡ m = omega arith in e)
      ∙ ap (λ (z : ℕ). entries_from rows p l m z) (let e : r ≡ r + 8 * 0 = omega arith in e)
  entries-split (suc i) m r =
      ap (λ (z : ℕ). entries_from rows p l z r) (let e : suc i + m ≡ suc (i + m) = omega arith in e) ∙ split-row i m r (entries-split i m (r + 8))

  entries-room : (i n r : ℕ) → i < n → length (entries_from rows p l i r) + length (entries_from rows p l 1 (r + 8 * i)) ≤ length (entries_from rows p l n r)
  entries-room i n r h =
      let e : n ≡ i + 1 + (n - i - 1) = omega arith in
      let f = ap (λ (z : ℕ). length (entries_from rows p l z r)) e ∙ ap length (entries-split (i + 1) (n - i - 1) r)
      ∙ length-append (entries_from rows p l (i + 1) r) (entries_from rows p l (n - i - 1) (r + 8 * (i + 1))) in
      let g = ap length (entries-split i 1 r) ∙ length-append (entries_from rows p l i r) (entries_from rows p l 1 (r + 8 * i)) in
      omega (arith, f, g)

-- ---- levels below l

module _ (rows : List ℕ) (p : Asking) (n r : ℕ) where
  count-here : (l : ℕ) → level_of rows p r < l → count_below rows p l (suc n) r ≡ suc (count_below rows p l n (r + 8))
  unfolding count_below
  count-here l h = rw (count_below, lt-ltb (level_of rows p r) l h) refl

  count_past : (l : ℕ) → l ≤ level_of rows p r → count_below rows p l (suc n) r ≡ count_below rows p l n (r + 8)
  unfolding count_below
  count_past l h = rw (count_below, le-ltb (level_of rows p r) l h) refl

  entry_here : (l : ℕ) → level_of rows p r ≡ l → length (entries_from rows p l (suc n) r) ≡ suc (length (entries_from rows p l n (r + 8)))
  entry_here l h = ap length (entries-here rows p r l n h)

  entry_past : (l : ℕ) → (level_of rows p r ≡ l → ⊥) → length (entries_from rows p l (suc n) r) ≡ length (entries_from rows p l n (r + 8))
  entry_past l h = ap length (entries-past rows p r l n h)

  next_row : (l : ℕ) → count_below rows p l n (r + 8) + length (entries_from rows p l n (r + 8)) ≡ count_below rows p (l + 1) n (r + 8)
      → count_below rows p l (suc n) r + length (entries_from rows p l (suc n) r) ≡ count_below rows p (l + 1) (suc n) r
  next_row l e = below (cases_lt (level_of rows p r) l)
    where
      behind : (l < level_of rows p r) ⊎ (level_of rows p r ≤ l) → l ≤ level_of rows p r
          → count_below rows p l (suc n) r + length (entries_from rows p l (suc n) r) ≡ count_below rows p (l + 1) (suc n) r
      behind (inl k) h = omega (arith, e, count_past l h, count_past (l + 1) (omega arith), entry_past l (λ q. omega arith))
      behind (inr k) h = omega (arith, e, count_past l h, count-here (l + 1) (omega arith), entry_here l (omega arith))

      below : (level_of rows p r < l) ⊎ (l ≤ level_of rows p r)
          → count_below rows p l (suc n) r + length (entries_from rows p l (suc n) r) ≡ count_below rows p (l + 1) (suc n) r
      below (inl h) = omega (arith, e, count-here l h, count-here (l + 1) (omega arith), entry_past l (λ q. omega arith))
      below (inr h) = behind (cases_lt l (level_of rows p r)) h

  few-row : (l : ℕ) → count_below rows p l n (r + 8) ≤ n → count_below rows p l (suc n) r ≤ suc n
  few-row l h = go (cases_lt (level_of rows p r) l)
    where
      go : (level_of rows p r < l) ⊎ (l ≤ level_of rows p r) → count_below rows p l (suc n) r ≤ suc n
      go (inl k) = omega (arith, count-here l k)
      go (inr k) = omega (arith, count_past l k)

module _ (rows : List ℕ) (p : Asking) where
  count_next : (l n r : ℕ) → count_below rows p l n r + length (entries_from rows p l n r) ≡ count_below rows p (l + 1) n r
  unfolding count_below entries_from
  count_next l zero r = refl
  count_next l (suc n) r = next_row rows p n r l (count_next l n (r + 8))

  count-few : (l n r : ℕ) → count_below rows p l n r ≤ n
  unfolding count_below
  count-few l zero r = omega arith
  count-few l (suc n) r = few-row rows p n r l (count-few l n (r + 8))

  count_none : (n r : ℕ) → count_below rows p 0 n r ≡ 0
  unfolding count_below
  count_none zero r = refl
  count_none (suc n) r = count_past rows p n r 0 (omega arith) ∙ count_none n (r + 8)

-- ---- of the three predicates of a search

module _ (rows : List ℕ) (p q r : Asking) where
  pub counts-none : 0 ≡ count_of rows p 0 + count_of rows q 0 + count_of rows r 0
  counts-none =
      omega (arith, count_none rows p p.many p.from, count_none rows q q.many q.from, count_none rows r r.many r.from)

  pub counts-few : (l : ℕ) → count_of rows p l + count_of rows q l + count_of rows r l ≤ p.many + q.many + r.many
  counts-few l =
      omega (arith, count-few rows p l p.many p.from, count-few rows q l q.many q.from, count-few rows r l r.many r.from)

  pub entries-long : (l : ℕ) → length (search_entries rows p q r l) ≡ length (entries_of rows p l) + (length (entries_of rows q l) + length (entries_of rows r l))
  entries-long l =
      omega (arith, length-append (entries_of rows p l) (entries_of rows q l ++ entries_of rows r l), length-append (entries_of rows q l) (entries_of rows r l))

  pub counts-next : (l : ℕ) → count_of rows p l + count_of rows q l + count_of rows r l + length (search_entries rows p q r l)
      ≡ count_of rows p (l + 1) + count_of rows q (l + 1) + count_of rows r (l + 1)
  counts-next l =
      omega
      (arith, entries-long l, count_next rows p l p.many p.from, count_next rows q l q.many q.from, count_next rows r l r.many r.from)

-- of the first i predicates
unfoldable pub entries_to : (rows : List ℕ) → List Asked → (l i : ℕ) → List ℕ
entries_to rows ps l zero = []
entries_to rows ps l (suc i) = entries_to rows ps l i ++ entries_of rows (asked_in ps i) l

entries-none : (rows : List ℕ) (l : ℕ) → entries_of rows no_asking l ≡ []
unfolding entries_from
entries-none rows l = refl

nothing-behind : (ps : List Asked) (i : ℕ) → length ps ≤ i → asked_in ps i ≡ no_asking
nothing-behind [] i h = refl
nothing-behind (p ∷ ps) zero h = absurd (omega arith)
nothing-behind (p ∷ ps) (suc i) h = nothing-behind ps i (omega arith)

module _ (rows : List ℕ) (ps : List Asked) (l : ℕ) where
  past : (i : ℕ) → length ps ≤ i → entries_of rows (asked_in ps i) l ≡ []
  past i h = ap (λ (p : Asking). entries_of rows p l) (nothing-behind ps i h) ∙ entries-none rows l

  -- those of all are those of the three
  pub entries-all : (n : ℕ) → length ps ≡ n → n ≤ 3 → entries_to rows ps l n ≡ search_entries rows (asked_in ps 0) (asked_in ps 1) (asked_in ps 2) l
  unfolding entries_to
  entries-all zero e h = sym (ap₂ (λ (x y : List ℕ). x ++ y) (past 0 (omega arith)) (ap₂ (λ (x y : List ℕ). x ++ y) (past 1 (omega arith)) (past 2 (omega arith))))
  entries-all (suc zero) e h =
      sym (ap (λ (z : List ℕ). entries_of rows (asked_in ps 0) l ++ z) (ap₂ (λ (x y : List ℕ). x ++ y) (past 1 (omega arith)) (past 2 (omega arith))) ∙ append-nil (entries_of rows (asked_in ps 0) l))
  entries-all (suc (suc zero)) e h =
      sym (ap (λ (z : List ℕ). entries_of rows (asked_in ps 0) l ++ z) (ap (λ (z : List ℕ). entries_of rows (asked_in ps 1) l ++ z) (past 2 (omega arith)) ∙ append-nil (entries_of rows (asked_in ps 1) l)))
  entries-all (suc (suc (suc zero))) e h = append_assoc (entries_of rows (asked_in ps 0) l) (entries_of rows (asked_in ps 1) l) (entries_of rows (asked_in ps 2) l)
  entries-all (suc (suc (suc (suc n)))) e h = absurd (omega arith)

  pub each-asked : (P : Asking → Type 0) → P (asked_in ps 0) → P (asked_in ps 1) → P (asked_in ps 2) → (i : ℕ) → i < 3 → P (asked_in ps i)
  each-asked P a b c zero h = a
  each-asked P a b c (suc zero) h = b
  each-asked P a b c (suc (suc zero)) h = c
  each-asked P a b c (suc (suc (suc i))) h = absurd (omega arith)

  -- the next one's have room where those of all three have
  pub entries-fit : (i : ℕ) → i < 3 → length (entries_to rows ps l i) + length (entries_of rows (asked_in ps i) l) ≤ length (search_entries rows (asked_in ps 0) (asked_in ps 1) (asked_in ps 2) l)
  unfolding entries_to
  entries-fit zero h = omega (arith, entries-long rows (asked_in ps 0) (asked_in ps 1) (asked_in ps 2) l)
  entries-fit (suc zero) h = omega (arith, entries-long rows (asked_in ps 0) (asked_in ps 1) (asked_in ps 2) l)
  entries-fit (suc (suc zero)) h =
      omega (arith, entries-long rows (asked_in ps 0) (asked_in ps 1) (asked_in ps 2) l, length-append (entries_of rows (asked_in ps 0) l) (entries_of rows (asked_in ps 1) l))
  entries-fit (suc (suc (suc i))) h = absurd (omega arith)

  module _ (at : ℕ) (old : List ℕ) where
    pub appended-start : Appended (entries_to rows ps l 0) at old old at
    unfolding entries_to
    appended-start = appended-none at old

    pub appended-more : (i b c : ℕ) (mid new : List ℕ) → Appended (entries_to rows ps l i) at old mid b → Appended (entries_of rows (asked_in ps i) l) b mid new c
        → Appended (entries_to rows ps l (i + 1)) at old new c
    unfolding entries_to
    appended-more i b c mid new s t =
        subst (λ (k : ℕ). Appended (entries_to rows ps l k) at old new c) {x = suc i} {y = i + 1} (omega arith)
        (appended-both (entries_to rows ps l i) (entries_of rows (asked_in ps i) l) at b c old mid new s t)

    pub appended-end : (i b : ℕ) (new : List ℕ) → i ≤ length ps → length ps ≤ i → length ps ≤ 3 → Appended (entries_to rows ps l i) at old new b
        → Appended (search_entries rows (asked_in ps 0) (asked_in ps 1) (asked_in ps 2) l) at old new b
    appended-end i b new h k few s =
        subst (λ (xs : List ℕ). Appended xs at old new b) (entries-all i (omega arith) (omega arith)) s

-- ---- what is appended, row by row and predicate by predicate

module _ (rows : List ℕ) (p : Asking) (r l x : ℕ) (e : x ≡ level_of rows p r) where
  pub row-none : (at : ℕ) (plan : List ℕ) → (x ≡ l → ⊥) → Appended (entries_from rows p l 1 r) at plan plan at
  row-none at plan h = subst (λ (z : List ℕ). Appended z at plan plan at) (sym (no-entry rows p r l (λ f. h (e ∙ f)))) (appended-none at plan)

  pub row_room : (at : ℕ) → x ≡ l → at + length (entries_from rows p l 1 r) ≤ 20560 → at < 20560
  row_room at h k = omega (arith, ap length (one_entry rows p r l (sym e ∙ h)))

  pub row_one : (at y : ℕ) (old new : List ℕ) → x ≡ l → at < length old → y ≡ get_or rows (r + 1) 0 → new ≡ set old at (2 * y + p.side)
      → Appended (entries_from rows p l 1 r) at old new (at + 1)
  row_one at y old new h k f g =
      subst (λ (z : List ℕ). Appended z at old new (at + 1)) (sym (one_entry rows p r l (sym e ∙ h)))
      (appended_one (entry_of rows p r) at old new k (g ∙ ap (λ (z : ℕ). set old at (2 * z + p.side)) f))

module _ (rows : List ℕ) (p : Asking) (i : ℕ) (few : i < p.many) where
  pub row_in : Rows rows p → RowIn rows p (p.from + 8 * i)
  row_in w =
      record {
        low = omega (arith, w.low);
        first_low = w.first_low;
        second_low = w.second_low;
        count_low = w.count_low;
        entry_low = omega (arith, w.ends i few, w.side_low);
      }

  module _ (l at k : ℕ) (old plan : List ℕ) (a : Appended (entries_from rows p l i p.from) at old plan k) where
    pub rows-room : at + length (entries_of rows p l) ≤ 20560 → k + length (entries_from rows p l 1 (p.from + 8 * i)) ≤ 20560
    rows-room h = omega (arith, a.written.long, entries-room rows p l i p.many p.from few)

    pub rows_next : (n : ℕ) (new : List ℕ) → Appended (entries_from rows p l 1 (p.from + 8 * i)) k plan new n
        → Appended (entries_from rows p l (i + 1) p.from) at old new n
    rows_next n new b =
        subst (λ (z : List ℕ). Appended z at old new n) (sym (entries-split rows p l i 1 p.from))
        (appended-both (entries_from rows p l i p.from) (entries_from rows p l 1 (p.from + 8 * i)) at k n old plan new a b)

pub rows_none : (rows : List ℕ) (p : Asking) (l at : ℕ) (plan : List ℕ) → Appended (entries_from rows p l 0 p.from) at plan plan at
unfolding entries_from
rows_none rows p l at plan = appended-none at plan

pub rows_all : (rows : List ℕ) (p : Asking) (l i at k : ℕ) (old new : List ℕ) → i ≡ p.many → Appended (entries_from rows p l i p.from) at old new k
    → Appended (entries_of rows p l) at old new k
rows_all rows p l i at k old new e a = subst (λ (z : ℕ). Appended (entries_from rows p l z p.from) at old new k) e a
