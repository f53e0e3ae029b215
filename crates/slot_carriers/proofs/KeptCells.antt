-- A cell whose numbers and list are again at some slot stands for the same carrier there; the cells of a group one after the other. Assumes nothing.
use mathlib.Core.Path.{◌≡◌, refl, sym, ap, subst, ◌∙◌}
use mathlib.Core.Logic.{◌⊎◌, inl, inr}
use mathlib.Core.List.{List, [], ◌∷◌}
use Prim.Native.Nat.{zero, ℕ, suc, ◌+◌, ◌-◌, ◌*◌, ◌<◌, ◌≤◌}
use native.Mathlib.Numerals.{add-one}
use native.Mathlib.Omega.{arith}
use lib.ListN.{get_or, length}
use lib.IntN.{pos, ◌-ℤ◌}
use Rattle.std.specs.List.{CopiedTo, SameBelow, SameFrom}
use Rattle.form.specs.Tree.{relation, partial, total}
use Rattle.carriers.specs.StaticRulesCarriers.{Carrier, elements_of, numbers, subsets_of, pairs_in, count_of, Variable}
use Rattle.carriers.specs.StaticRulesLimits.{binding_count}
use Rattle.carriers.proofs.Values.{count-some}
use Rattle.carriers.proofs.Bindings.{bindings-some}
use Rattle.slot_carriers.specs.Cells.{count_in, shape_in, first_in, Listed, PairsCell, Shaped, CellOf}
use Rattle.slot_carriers.specs.CellGroups.{CellsOf}
use Rattle.slot_carriers.specs.TypeNodes.{TypeNode, Placed, ListBetween, CellMade}
use Rattle.slot_carriers.specs.DeclaredGroups.{NodesOf, Declared, CellsMade, Copied}
use Rattle.std.proofs.lemmas.Bool.{cases_lt}

-- the numbers of the slot s are at t, and what is between two places is as it was
pub record SameCell (old : List ℕ) (s : ℕ) (new : List ℕ) (t from end : ℕ) : Type 0 where
  pub count : count_in new t ≡ count_in old s
  pub shape : shape_in new t ≡ shape_in old s
  pub first : first_in new t ≡ first_in old s
  pub list : (i : ℕ) → from ≤ i → i < end → get_or new i 0 ≡ get_or old i 0

module _ (old : List ℕ) (s : ℕ) (new : List ℕ) (t from end : ℕ) (low : t < 64) (e : SameCell old s new t from end) (b : ListBetween old s from end) where
  same-list : (f : ℕ → ℕ) → 5 ≤ shape_in old s → Listed old (first_in old s) (count_in old s) f → Listed new (first_in new t) (count_in new t) f
  same-list f h l =
      record {
        inside = subst (λ (k : ℕ). k + count_in new t ≤ 9216) (sym e.first) (subst (λ (k : ℕ). first_in old s + k ≤ 9216) (sym e.count) l.inside);
        each = λ d k. at d (subst (λ (n : ℕ). d < n) e.count k);
      }
    where
      at : (d : ℕ) → d < count_in old s → get_or new (first_in new t + d) 0 ≡ f d
      at d k =
          ap (λ (n : ℕ). get_or new (n + d) 0) e.first ∙ e.list (first_in old s + d) (omega (arith, b.behind h)) (omega (arith, b.before h)) ∙ l.each d k

  high : (k : ℕ) → shape_in old s ≡ k → 5 ≤ k → 5 ≤ shape_in old s
  high k q h = omega arith

  same-shaped : (c : Carrier) → Shaped old s c → Shaped new t c
  unfolding Shaped PairsCell
  same-shaped (elements_of g) w = e.shape ∙ w
  same-shaped (numbers x y) w = (e.shape ∙ w.0, ap (λ (k : ℕ). pos k -ℤ pos 1000) e.first ∙ w.1)
  same-shaped (subsets_of g) w = e.shape ∙ w
  same-shaped (pairs_in relation g h) w = e.shape ∙ w
  same-shaped (pairs_in partial g h) w = (e.shape ∙ w.0, same-list _ (high 5 w.0 (omega arith)) w.1)
  same-shaped (pairs_in total g h) w = (e.shape ∙ w.0, same-list _ (high 6 w.0 (omega arith)) w.1)

  pub same-cell : (c : Carrier) → CellOf old s c → CellOf new t c
  same-cell c w = record { slot_low = low; count = e.count ∙ w.count; few = w.few; shaped = same-shaped c w.shaped }

  pub same-between : (a z : ℕ) → a ≤ from → end ≤ z → ListBetween new t a z
  same-between a z h k =
      record {
        behind = λ u. omega (arith, e.first, b.behind (omega (arith, e.shape)));
        before = λ u. omega (arith, e.first, e.count, b.before (omega (arith, e.shape)));
      }

-- ---- the nodes of a group

next_place : (table groups : List ℕ) (p : ℕ) (vs : List Variable) → NodesOf table groups (suc p) vs → NodesOf table groups (p + 1) vs
next_place table groups p vs w = subst (λ (k : ℕ). NodesOf table groups k vs) (sym (add-one p)) w

pub less_one : (m n : ℕ) → suc m ≡ n → m ≡ n - 1
less_one m n e = omega arith

-- a sum is at most the product and 1
sum_low : (a b : ℕ) → 0 < a → 0 < b → a + b ≤ a * b + 1
sum_low zero b h k = elim h [ ]
sum_low (suc a) zero h k = elim k [ ]
sum_low (suc a) (suc b) h k = omega arith

count_low : (v : Variable) (vs : List Variable) → count_of v.carrier + binding_count vs ≤ binding_count (v ∷ vs) + 1
unfolding binding_count
count_low v vs = sum_low (count_of v.carrier) (binding_count vs) (count-some v.carrier) (bindings-some vs)

-- the first one, and the others behind its list
pub record FirstDeclared (table groups : List ℕ) (p n at : ℕ) : Type 0 where
  pub inside : get_or groups p 0 + 8 ≤ 16384
  pub first : Placed table (get_or groups p 0 + 4) at
  pub at_low : at ≤ 9216
  pub rest : (r : ℕ) → ((c : Carrier) → TypeNode table (get_or groups p 0 + 4) c → r ≤ at + count_of c) → Declared table groups (p + 1) (n - 1) r

of-first : (table groups : List ℕ) (p n at : ℕ) (v : Variable) (vs : List Variable) → NodesOf table groups p (v ∷ vs) → length (v ∷ vs) ≡ n
    → at + binding_count (v ∷ vs) + n ≤ 9216 → (n ≡ 0 → ⊥) → FirstDeclared table groups p n at
unfolding NodesOf
of-first table groups p n at v vs w e room h =
    record {
      inside = w.0;
      first = record { carrier = v.carrier; node = w.1; room = λ k. omega (arith, count_low v vs) };
      at_low = omega arith;
      rest = λ r k. record { group = vs; nodes = next_place table groups p vs w.2; long = less_one (length vs) n e; room = behind r (k v.carrier w.1) };
    }
  where
    behind : (r : ℕ) → r ≤ at + count_of v.carrier → r + binding_count vs + (n - 1) ≤ 9216
    behind r k = omega (arith, count_low v vs)

pub first-declared : (table groups : List ℕ) (p n at : ℕ) → Declared table groups p n at → (n ≡ 0 → ⊥) → FirstDeclared table groups p n at
first-declared table groups p n at d h = go d.group d.nodes d.long d.room
  where
    go : (vs : List Variable) → NodesOf table groups p vs → length vs ≡ n → at + binding_count vs + n ≤ 9216 → FirstDeclared table groups p n at
    go [] w e r = absurd (h (sym e))
    go (v ∷ vs) w e r = of-first table groups p n at v vs w e r h

cells-none : (cells : List ℕ) (slot : ℕ) (vs : List Variable) → length vs ≡ 0 → CellsOf cells slot vs
unfolding CellsOf
cells-none cells slot [] e = tt
cells-none cells slot (v ∷ vs) e = absurd (let z : suc (length vs) ≡ 0 = e in omega arith)

pub made_none : (table groups : List ℕ) (p n slot at : ℕ) (cells : List ℕ) → n ≡ 0 → CellsMade table groups p n slot at cells cells at
made_none table groups p n slot at cells h =
    record {
      made = λ vs w e. none vs (e ∙ h);
      lists = λ j u k. absurd (nowhere j u k);
      onward = omega arith;
      end = λ vs w e. omega arith;
      below = λ i k. refl;
      above = λ i k l. refl;
      same_length = refl;
    }
  where
    none : (vs : List Variable) → length vs ≡ 0 → CellsOf cells slot vs
    none vs e = cells-none cells slot vs e

    nowhere : (j : ℕ) → slot ≤ j → j < slot + n → ⊥
    nowhere j u k = omega arith

module _ (table groups : List ℕ) (p n slot at next r : ℕ) (old mid new : List ℕ) (h : n ≡ 0 → ⊥) (low : slot + n ≤ 64) (behind : 256 ≤ at)
    (c : CellMade table (get_or groups p 0 + 4) slot at old mid next) (m : CellsMade table groups (p + 1) (n - 1) (slot + 1) next mid new r) where
  under : (i : ℕ) → i < 4 * slot → i < 4 * (slot + 1)
  under i k = omega arith

  past : (i : ℕ) → at ≤ i → 4 * (slot + 1 + (n - 1)) ≤ i
  past i k = omega arith

  same : SameCell mid slot new slot at next
  same =
      record {
        count = m.below (4 * slot) (omega arith);
        shape = m.below (4 * slot + 1) (omega arith);
        first = m.below (4 * slot + 2) (omega arith);
        list = λ i k l. m.above i (past i k) l;
      }

  lists-more : (j : ℕ) → slot ≤ j → j < slot + n → (slot < j) ⊎ (j ≤ slot) → ListBetween new j at r
  lists-more j u k (inl g) =
      let w : ListBetween new j next r = m.lists j (omega arith) (omega arith) in
      record { behind = λ q. omega (arith, w.behind q, c.onward); before = w.before }
  lists-more j u k (inr g) =
      let e : slot ≡ j = omega arith in
      subst (λ (i : ℕ). ListBetween new i at r) e (same-between mid slot new slot at next (omega arith) same c.list at r (omega arith) m.onward)

  made_cells : (vs : List Variable) → NodesOf table groups p vs → length vs ≡ n → CellsOf new slot vs
  unfolding NodesOf CellsOf
  made_cells [] w e = absurd (h (sym e))
  made_cells (v ∷ vs) w e = (
    same-cell mid slot new slot at next (omega arith) same c.list v.carrier (c.made v.carrier w.1),
    subst (λ (k : ℕ). CellsOf new k vs) (add-one slot) (m.made vs (next_place table groups p vs w.2) (less_one (length vs) n e)),
  )

  end_more : (vs : List Variable) → NodesOf table groups p vs → length vs ≡ n → r ≤ at + binding_count vs + n
  unfolding NodesOf
  end_more [] w e = absurd (h (sym e))
  end_more (v ∷ vs) w e =
      omega (arith, c.end v.carrier w.1, m.end vs (next_place table groups p vs w.2) (less_one (length vs) n e), count_low v vs)

  pub made_more : CellsMade table groups p n slot at old new r
  made_more =
      record {
        made = made_cells;
        lists = λ j u k. lists-more j u k (cases_lt slot j);
        onward = omega (arith, c.onward, m.onward);
        end = end_more;
        below = λ i k. m.below i (under i k) ∙ c.below i k;
        above = λ i k l. m.above i (omega arith) (omega (arith, c.onward)) ∙ c.above i (omega arith) l;
        same_length = m.same_length ∙ c.same_length;
      }

-- those before the i-th are made, and what makes the others makes all
pub record Making (table groups : List ℕ) (p n slot at : ℕ) (old : List ℕ) (i next : ℕ) (now : List ℕ) : Type 0 where
  pub declared : Declared table groups (p + i) (n - i) next
  pub behind : 256 ≤ next
  pub onward : (new : List ℕ) (r : ℕ) → CellsMade table groups (p + i) (n - i) (slot + i) next now new r → CellsMade table groups p n slot at old new r

pub making_start : (table groups : List ℕ) (p n slot at : ℕ) (old : List ℕ) → Declared table groups p n at → 256 ≤ at → Making table groups p n slot at old 0 at old
making_start table groups p n slot at old d b =
    record {
      declared = subst (λ (k : ℕ). Declared table groups k (n - 0) at) {x = p} {y = p + 0} (omega arith) (subst (λ (k : ℕ). Declared table groups p k at) {x = n} {y = n - 0} (omega arith) d);
      behind = b;
      onward = λ new r m.
          subst (λ (k : ℕ). CellsMade table groups k n slot at old new r) {x = p + 0} {y = p} (omega arith)
          (subst (λ (k : ℕ). CellsMade table groups (p + 0) k slot at old new r) {x = n - 0} {y = n} (omega arith)
          (subst (λ (k : ℕ). CellsMade table groups (p + 0) (n - 0) k at old new r) {x = slot + 0} {y = slot} (omega arith) m));
    }

module _ {table groups : List ℕ} {p n slot at : ℕ} {old : List ℕ} {i next : ℕ} {now : List ℕ} (a : Making table groups p n slot at old i next now) (h : i < n) where
  some-left : n - i ≡ 0 → ⊥
  some-left e = omega (arith, e, h)

  pub making-first : FirstDeclared table groups (p + i) (n - i) next
  making-first = first-declared table groups (p + i) (n - i) next a.declared some-left

  pub making_more : (q r : ℕ) (new : List ℕ) → q ≡ get_or groups (p + i) 0 → slot + n ≤ 64 → CellMade table (q + 4) (slot + i) next now new r
      → Making table groups p n slot at old (i + 1) r new
  making_more q r new e low c =
      let d : CellMade table (get_or groups (p + i) 0 + 4) (slot + i) next now new r = subst (λ (k : ℕ). CellMade table (k + 4) (slot + i) next now new r) e c in
      record {
        declared = moved (λ (x y : ℕ). Declared table groups x y r) (making-first.rest r d.end);
        behind = omega (arith, a.behind, d.onward);
        onward = λ last z m. a.onward last z (made_more table groups (p + i) (n - i) (slot + i) next r z now new last some-left (omega arith) a.behind d
            (back (λ (x y : ℕ). CellsMade table groups x y (slot + i + 1) r new last z) (subst (λ (k : ℕ). CellsMade table groups (p + (i + 1)) (n - (i + 1)) k r new last z) {x = slot + (i + 1)} {y = slot + i + 1} (omega arith) m)));
      }
    where
      moved : (P : ℕ → ℕ → Type 0) → P (p + i + 1) (n - i - 1) → P (p + (i + 1)) (n - (i + 1))
      moved P w = subst (λ (k : ℕ). P k (n - (i + 1))) {x = p + i + 1} {y = p + (i + 1)} (omega arith) (subst (P (p + i + 1)) {x = n - i - 1} {y = n - (i + 1)} (omega arith) w)

      back : (P : ℕ → ℕ → Type 0) → P (p + (i + 1)) (n - (i + 1)) → P (p + i + 1) (n - i - 1)
      back P w = subst (λ (k : ℕ). P k (n - i - 1)) {x = p + (i + 1)} {y = p + i + 1} (omega arith) (subst (P (p + (i + 1))) {x = n - (i + 1)} {y = n - i - 1} (omega arith) w)

pub making_done : {table groups : List ℕ} {p n slot at : ℕ} {old : List ℕ} {i next : ℕ} {now : List ℕ} → Making table groups p n slot at old i next now → n ≤ i
    → CellsMade table groups p n slot at old now next
making_done {table} {groups} {p} {n} {slot} {at} {old} {i} {next} {now} a h = a.onward now next (made_none table groups (p + i) (n - i) (slot + i) next now (omega arith))

-- ---- the cells of slots that are copied

pub copied : (n base to : ℕ) (old new : List ℕ) → length new ≡ length old → CopiedTo old new (4 * base) (4 * to) (4 * (base + n) - 4 * base) → SameBelow old new (4 * to)
    → SameFrom old new (4 * to + (4 * (base + n) - 4 * base)) → Copied n base to old new
copied n base to old new long moved below above =
    record {
      each = λ k h. moved (4 * to + k) 0 (omega arith) (omega arith) ∙ ap (λ (j : ℕ). get_or old j 0) (back k);
      others = record { below = λ i h. below i 0 h; above = λ i h. above i 0 (omega arith); same_length = long };
    }
  where
    back : (k : ℕ) → 4 * base + (4 * to + k - 4 * to) ≡ 4 * base + k
    back k = omega arith

-- ---- a group whose cells are again at some slot

module _ (old new : List ℕ) (from end : ℕ) where
  at_first : (s t : ℕ) → SameCell old (s + 0) new (t + 0) from end → SameCell old s new t from end
  at_first s t w =
      let e : s + 0 ≡ s = omega arith in
      let f : t + 0 ≡ t = omega arith in
      subst (λ (k : ℕ). SameCell old k new t from end) e (subst (λ (k : ℕ). SameCell old (s + 0) new k from end) f w)

  list-first : (s : ℕ) → ListBetween old (s + 0) from end → ListBetween old s from end
  list-first s w = let e : s + 0 ≡ s = omega arith in subst (λ (k : ℕ). ListBetween old k from end) e w

  at_next : (s t j : ℕ) → SameCell old (s + suc j) new (t + suc j) from end → SameCell old (suc s + j) new (suc t + j) from end
  at_next s t j w =
      let e : s + suc j ≡ suc s + j = omega arith in
      let f : t + suc j ≡ suc t + j = omega arith in
      subst (λ (k : ℕ). SameCell old k new (suc t + j) from end) e (subst (λ (k : ℕ). SameCell old (s + suc j) new k from end) f w)

  list-next : (s j : ℕ) → ListBetween old (s + suc j) from end → ListBetween old (suc s + j) from end
  list-next s j w = let e : s + suc j ≡ suc s + j = omega arith in subst (λ (k : ℕ). ListBetween old k from end) e w

  pub cells-again : (vs : List Variable) (s t : ℕ) → t + length vs ≤ 64 → ((j : ℕ) → j < length vs → SameCell old (s + j) new (t + j) from end)
      → ((j : ℕ) → j < length vs → ListBetween old (s + j) from end) → CellsOf old s vs → CellsOf new t vs
  unfolding CellsOf
  cells-again [] s t low e b w = tt
  cells-again (v ∷ vs) s t low e b w = (
    same-cell old s new t from end (omega arith) (at_first s t (e 0 (omega arith))) (list-first s (b 0 (omega arith))) v.carrier w.0,
    cells-again vs (suc s) (suc t) (omega arith) (λ j h. at_next s t j (e (suc j) (omega arith))) (λ j h. list-next s j (b (suc j) (omega arith))) w.1,
  )

-- a cell of a copied group, and the group
pub copied-cell : (n base to end : ℕ) (old new : List ℕ) → to + n ≤ 64 → Copied n base to old new → (j : ℕ) → j < n → SameCell old (base + j) new (to + j) 256 end
copied-cell n base to end old new low c j h =
    record {
      count = first-number;
      shape = number 1 (omega arith);
      first = number 2 (omega arith);
      list = λ i k l. c.others.above i (omega arith);
    }
  where
    number : (i : ℕ) → i < 4 → get_or new (4 * (to + j) + i) 0 ≡ get_or old (4 * (base + j) + i) 0
    number i k =
        let p : 4 * to + (4 * j + i) ≡ 4 * (to + j) + i = omega arith in
        let q : 4 * base + (4 * j + i) ≡ 4 * (base + j) + i = omega arith in
        subst (λ (m : ℕ). get_or new m 0 ≡ get_or old (4 * (base + j) + i) 0) p
        (subst (λ (m : ℕ). get_or new (4 * to + (4 * j + i)) 0 ≡ get_or old m 0) q (c.each (4 * j + i) (omega arith)))

    first-number : count_in new (to + j) ≡ count_in old (base + j)
    first-number =
        let p : 4 * (to + j) + 0 ≡ 4 * (to + j) = omega arith in
        let q : 4 * (base + j) + 0 ≡ 4 * (base + j) = omega arith in
        subst (λ (m : ℕ). get_or new m 0 ≡ get_or old (4 * (base + j)) 0) p (subst (λ (m : ℕ). get_or new (4 * (to + j) + 0) 0 ≡ get_or old m 0) q (number 0 (omega arith)))

pub copied-cells : (n base to : ℕ) (old new : List ℕ) (vs : List Variable) → to + n ≤ 64 → Copied n base to old new → length vs ≡ n
    → ((j : ℕ) → base ≤ j → j < base + n → ListBetween old j 256 9216) → CellsOf old base vs → CellsOf new to vs
copied-cells n base to old new vs low c e b w =
    cells-again old new 256 9216 vs base to (omega arith) (λ j h. copied-cell n base to 9216 old new low c j (omega arith)) (λ j h. b (base + j) (omega arith) (omega arith)) w

-- a cell beside a group that is made, and the lists before its lists
pub beside-made : {table groups : List ℕ} {p n slot at : ℕ} {old new : List ℕ} {r : ℕ} → CellsMade table groups p n slot at old new r → slot + n ≤ 64 → 256 ≤ at
    → (s : ℕ) → s < 64 → (s < slot) ⊎ (slot + n ≤ s) → SameCell old s new s 256 at
beside-made m fit behind s h (inl g) =
    record {
      count = m.below _ (omega arith);
      shape = m.below _ (omega arith);
      first = m.below _ (omega arith);
      list = λ i k l. m.above i (omega arith) l;
    }
beside-made m fit behind s h (inr g) =
    record {
      count = m.above _ (omega arith) (omega arith);
      shape = m.above _ (omega arith) (omega arith);
      first = m.above _ (omega arith) (omega arith);
      list = λ i k l. m.above i (omega arith) l;
    }

-- a group beside one that is made, with lists before its lists
pub kept-cells : (table groups : List ℕ) (p n slot at s : ℕ) (old new : List ℕ) (r : ℕ) (vs : List Variable) → CellsMade table groups p n slot at old new r
    → slot + n ≤ 64 → s + length vs ≤ 64 → (s + length vs ≤ slot) ⊎ (slot + n ≤ s) → 256 ≤ at
    → ((j : ℕ) → s ≤ j → j < s + length vs → ListBetween old j 256 at) → CellsOf old s vs → CellsOf new s vs
kept-cells table groups p n slot at s old new r vs m fit low side behind b w =
    cells-again old new 256 at vs s s low (λ j h. beside-made m fit behind (s + j) (omega arith) (each j h side)) (λ j h. b (s + j) (omega arith) (omega arith)) w
  where
    each : (j : ℕ) → j < length vs → (s + length vs ≤ slot) ⊎ (slot + n ≤ s) → (s + j < slot) ⊎ (slot + n ≤ s + j)
    each j h (inl g) = inl (omega arith)
    each j h (inr g) = inr (omega arith)
