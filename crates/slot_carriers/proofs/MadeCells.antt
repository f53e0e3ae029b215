-- The cell that is made of a type's node stands for the carrier that the node stands for. Assumes nothing.
use mathlib.Core.Path.{◌≡◌, refl, sym, ap, ap₂, subst, ◌∙◌}
use mathlib.Core.List.{List}
use Prim.Native.Nat.{ℕ, suc, ◌+◌, ◌*◌, ◌^◌, ◌<◌, ◌≤◌}
use native.Mathlib.Omega.{arith}
use lib.ListN.{get_or, length, set, length-set}
use lib.Seq.{get_or-set_same, get_or-set_other}
use lib.Pow.{pow_mono}
use lib.IntN.{pos, ◌-ℤ◌}
use Rattle.form.specs.Tree.{relation, partial, total}
use Rattle.carriers.specs.StaticRulesCarriers.{Carrier, elements_of, numbers, subsets_of, pairs_in, size_of, count_of, arrow_count}
use Rattle.carriers.specs.ValuesByNumber.{pair_set_at, partial_mask, total_mask}
use Rattle.slot_carriers.specs.Cells.{count_in, shape_in, first_in, Listed, PairsCell, Shaped}
use Rattle.slot_carriers.specs.CellGroups.{Others}
use Rattle.slot_carriers.specs.TypeNodes.{Stands, TypeNode, CountIs, FunctionIs, Functions, CellWritten, Placed, CellMade}
use Rattle.slot_carriers.proofs.CarrierCells.{low-shape}

-- ---- three numbers

module _ (l m₁ m₂ r : List ℕ) (slot n s f : ℕ) (low : slot < 64) (long : length l ≡ 9216) (e₁ : m₁ ≡ set l (4 * slot) n) (e₂ : m₂ ≡ set m₁ (4 * slot + 1) s)
    (e₃ : r ≡ set m₂ (4 * slot + 2) f) where
  long₁ : length m₁ ≡ length l
  long₁ = ap length e₁ ∙ length-set l (4 * slot) n

  long₂ : length m₂ ≡ length l
  long₂ = ap length e₂ ∙ length-set m₁ (4 * slot + 1) s ∙ long₁

  past₁ : (i : ℕ) → (i ≡ 4 * slot → ⊥) → get_or m₁ i 0 ≡ get_or l i 0
  past₁ i h = ap (λ (z : List ℕ). get_or z i 0) e₁ ∙ get_or-set_other l (4 * slot) i n 0 h

  past₂ : (i : ℕ) → (i ≡ 4 * slot + 1 → ⊥) → get_or m₂ i 0 ≡ get_or m₁ i 0
  past₂ i h = ap (λ (z : List ℕ). get_or z i 0) e₂ ∙ get_or-set_other m₁ (4 * slot + 1) i s 0 h

  past₃ : (i : ℕ) → (i ≡ 4 * slot + 2 → ⊥) → get_or r i 0 ≡ get_or m₂ i 0
  past₃ i h = ap (λ (z : List ℕ). get_or z i 0) e₃ ∙ get_or-set_other m₂ (4 * slot + 2) i f 0 h

  pub written : CellWritten l slot n s f r
  written =
      record {
        count = past₃ _ (λ q. omega arith) ∙ past₂ _ (λ q. omega arith) ∙ ap (λ (z : List ℕ). get_or z (4 * slot) 0) e₁ ∙ get_or-set_same l (4 * slot) n 0 (omega arith);
        shape = past₃ _ (λ q. omega arith) ∙ ap (λ (z : List ℕ). get_or z (4 * slot + 1) 0) e₂ ∙ get_or-set_same m₁ (4 * slot + 1) s 0 (omega (arith, long₁));
        first = ap (λ (z : List ℕ). get_or z (4 * slot + 2) 0) e₃ ∙ get_or-set_same m₂ (4 * slot + 2) f 0 (omega (arith, long₂));
        below = λ i h. past₃ i (λ q. omega arith) ∙ past₂ i (λ q. omega arith) ∙ past₁ i (λ q. omega arith);
        above = λ i h. past₃ i (λ q. omega arith) ∙ past₂ i (λ q. omega arith) ∙ past₁ i (λ q. omega arith);
        same_length = ap length e₃ ∙ length-set m₂ (4 * slot + 2) f ∙ long₂;
      }

-- ---- what the node stands for

some : (b m : ℕ) → b ≡ suc m → 0 < b
some b m e = omega arith

pub count_is : (s a b n : ℕ) (c : Carrier) → CountIs s a b n → Stands s a b c → n ≡ count_of c
unfolding Stands count_of arrow_count
count_is s a b n (elements_of g) w e = w.elements e.0 ∙ e.1
count_is s a b n (numbers x y) w e = w.range e.0 ∙ e.2
count_is s a b n (subsets_of g) w e = w.subsets e.0 (omega (arith, e.2)) ∙ ap (λ (k : ℕ). 2 ^ k) e.1
count_is s a b n (pairs_in relation g h) w e = w.relations e.0 e.3 ∙ ap₂ (λ (k m : ℕ). 2 ^ (k * m)) e.1 e.2
count_is s a b n (pairs_in partial g h) w e = w.partials e.0 e.3 ∙ ap₂ (λ (k m : ℕ). (m + 1) ^ k) e.1 e.2
count_is s a b n (pairs_in total g h) w e = w.totals e.0 (some b _ e.2) e.3 ∙ ap₂ (λ (k m : ℕ). m ^ k) e.1 e.2

high-shape : {A : Type 0} (s k : ℕ) → s ≡ k → 5 ≤ k → s < 5 → A
high-shape s k e h l = absurd (omega arith)

power-few : (n : ℕ) → n ≤ 16 → 2 ^ n ≤ 65536
power-few n h = pow_mono {i = n} {j = 16} h

plain-few : (s a b n : ℕ) (c : Carrier) → CountIs s a b n → Stands s a b c → s < 5 → b < 65536 → n ≤ 65536
unfolding Stands
plain-few s a b n (elements_of g) w e l h = omega (arith, w.elements e.0, e.2)
plain-few s a b n (numbers x y) w e l h = omega (arith, w.range e.0)
plain-few s a b n (subsets_of g) w e l h = omega (arith, w.subsets e.0 (omega (arith, e.2)), power-few a (omega (arith, e.2)))
plain-few s a b n (pairs_in relation g k) w e l h = omega (arith, w.relations e.0 e.3, power-few (a * b) e.3)
plain-few s a b n (pairs_in partial g k) w e l h = high-shape s 5 e.0 (omega arith) l
plain-few s a b n (pairs_in total g k) w e l h = high-shape s 6 e.0 (omega arith) l

plain-shaped : (s a b slot : ℕ) (cells : List ℕ) (c : Carrier) → shape_in cells slot ≡ s → first_in cells slot ≡ a → Stands s a b c → s < 5 → Shaped cells slot c
unfolding Stands Shaped PairsCell
plain-shaped s a b slot cells (elements_of g) f i e l = f ∙ e.0
plain-shaped s a b slot cells (numbers x y) f i e l = (f ∙ e.0, ap (λ (k : ℕ). pos k -ℤ pos 1000) i ∙ e.1)
plain-shaped s a b slot cells (subsets_of g) f i e l = f ∙ e.0
plain-shaped s a b slot cells (pairs_in relation g k) f i e l = f ∙ e.0
plain-shaped s a b slot cells (pairs_in partial g k) f i e l = high-shape s 5 e.0 (omega arith) l
plain-shaped s a b slot cells (pairs_in total g k) f i e l = high-shape s 6 e.0 (omega arith) l

module _ (s a b n at slot : ℕ) (cells : List ℕ) (f : shape_in cells slot ≡ s) (i : first_in cells slot ≡ at) (j : count_in cells slot ≡ n) (room : at + n ≤ 9216)
    (list : Functions s a b at n cells) where
  listed : (g : ℕ → ℕ) → ((d x : ℕ) → FunctionIs s a b d x → x ≡ g d) → Listed cells (first_in cells slot) (count_in cells slot) g
  listed g to =
      record {
        inside = subst (λ (k : ℕ). k + count_in cells slot ≤ 9216) (sym i) (subst (λ (k : ℕ). at + k ≤ 9216) (sym j) room);
        each = λ d h. ap (λ (k : ℕ). get_or cells (k + d) 0) i ∙ to d _ (list d (subst (λ (k : ℕ). d < k) j h));
      }

  listed-shaped : (c : Carrier) → Stands s a b c → 5 ≤ s → Shaped cells slot c
  unfolding Stands Shaped PairsCell pair_set_at
  listed-shaped (elements_of g) e l = low-shape s 1 e.0 (omega arith) l
  listed-shaped (numbers x y) e l = low-shape s 2 e.0 (omega arith) l
  listed-shaped (subsets_of g) e l = low-shape s 3 e.0 (omega arith) l
  listed-shaped (pairs_in relation g h) e l = low-shape s 4 e.0 (omega arith) l
  listed-shaped (pairs_in partial g h) e l =
      (f ∙ e.0, listed (pair_set_at partial (size_of g) (size_of h)) (λ d x v. v.partials e.0 e.3 ∙ ap₂ (λ (k m : ℕ). partial_mask k m d) e.1 e.2))
  listed-shaped (pairs_in total g h) e l = (
    f ∙ e.0,
    listed (pair_set_at total (size_of g) (size_of h))
        (λ d x v. v.totals e.0 (some b _ e.2) e.3 ∙ ap₂ (λ (k m : ℕ). total_mask k m d) e.1 e.2),
  )

-- ---- the whole cell

module _ (table : List ℕ) (q slot at s a b n : ℕ) (low : slot < 64) (es : s ≡ get_or table (q + 3) 0) (ea : a ≡ get_or table (q + 1) 0) (eb : b ≡ get_or table q 0)
    (w : CountIs s a b n) where
  stands : (c : Carrier) → TypeNode table q c → Stands s a b c
  stands c h =
      subst (λ (k : ℕ). Stands k a b c) (sym es)
      (subst (λ (k : ℕ). Stands (get_or table (q + 3) 0) k b c) (sym ea) (subst (λ (k : ℕ). Stands (get_or table (q + 3) 0) (get_or table (q + 1) 0) k c) (sym eb) h))

  number : (c : Carrier) → TypeNode table q c → n ≡ count_of c
  number c h = count_is s a b n c w (stands c h)

  pub list-room : Placed table q at → 5 ≤ s → at + n ≤ 9216
  list-room p l = subst (λ (k : ℕ). at + k ≤ 9216) (sym (number p.carrier p.node)) (p.room (subst (λ (k : ℕ). 5 ≤ k) es l))

  pub plain-made : (old new : List ℕ) → s < 5 → b < 65536 → CellWritten old slot n s a new → CellMade table q slot at old new at
  plain-made old new l h v =
      record {
        made = λ c e. record {
          slot_low = low;
          count = v.count ∙ number c e;
          few = subst (λ (k : ℕ). k ≤ 65536) (number c e) (plain-few s a b n c w (stands c e) l h);
          shaped = plain-shaped s a b slot new c v.shape v.first (stands c e) l;
        };
        list = record { behind = λ k. high-shape _ (shape_in new slot) refl k (omega (arith, v.shape)); before = λ k. high-shape _ (shape_in new slot) refl k (omega (arith, v.shape)) };
        onward = omega arith;
        end = λ c e. omega arith;
        below = v.below;
        above = λ i k m. v.above i k;
        same_length = v.same_length;
      }

  module _ (old mid new : List ℕ) (l : 5 ≤ s) (behind : 256 ≤ at) (room : at + n ≤ 9216) (v : CellWritten old slot n s at mid) (list : Functions s a b at n new)
      (o : Others 0 mid at n new) where
    count-in : count_in new slot ≡ n
    count-in = o.below (4 * slot) (omega arith) ∙ v.count

    shape-in : shape_in new slot ≡ s
    shape-in = o.below (4 * slot + 1) (omega arith) ∙ v.shape

    first-in : first_in new slot ≡ at
    first-in = o.below (4 * slot + 2) (omega arith) ∙ v.first

    under : (i : ℕ) → i < 4 * slot → i < at
    under i h = omega arith

    pub listed-made : CellMade table q slot at old new (at + n)
    listed-made =
        record {
          made = λ c e. record {
            slot_low = low;
            count = count-in ∙ number c e;
            few = subst (λ (k : ℕ). k ≤ 65536) (number c e) (omega arith);
            shaped = listed-shaped s a b n at slot new shape-in first-in count-in room list c (stands c e) l;
          };
          list = record { behind = λ k. omega (arith, first-in); before = λ k. omega (arith, first-in, count-in) };
          onward = omega arith;
          end = λ c e. omega (arith, number c e);
          below = λ i h. o.below i (under i h) ∙ v.below i h;
          above = λ i h k. o.below i k ∙ v.above i h;
          same_length = o.same_length ∙ v.same_length;
        }
