-- How many bindings a group has, and the digits of a binding's number, one variable after the other. Assumes nothing.
use mathlib.Core.Path.{◌≡◌, refl, sym, ap, ap₂, subst, ◌∙◌}
use mathlib.Core.List.{List, [], ◌∷◌}
use Prim.Native.Nat.{zero, ℕ, suc, ◌+◌, ◌-◌, ◌*◌, ◌/◌, ◌%◌, ◌<◌, ◌≤◌}
use native.Mathlib.Nat.{mod-lt, div-lt_iff_lt-mul, mul-div_cancel, mul_comm}
use native.Mathlib.Numerals.{add-one}
use native.Mathlib.Omega.{arith}
use lib.ListN.{get_or, length, set, length-set}
use lib.Seq.{get_or-set_same, get_or-set_other}
use lib.IntN.{ℤ, pos}
use Rattle.carriers.specs.StaticRulesCarriers.{Variable, count_of}
use Rattle.carriers.specs.StaticRulesLimits.{binding_count}
use Rattle.carriers.specs.MeaningMeaning.{Binding}
use Rattle.carriers.specs.MeaningBindings.{bindings}
use Rattle.carriers.specs.ValuesByNumber.{digit, binding_at}
use Rattle.carriers.proofs.Values.{count-some}
use Rattle.carriers.proofs.Bindings.{bindings-some, bindings-at, at-most, digit-small, digit-below, again_rest}
use Rattle.slot_carriers.specs.Cells.{count_in, value_in, Reached, CellOf}
use Rattle.slot_carriers.specs.CellGroups.{CellsOf, Grouped, Counts, Holding, HoldsAt, HoldsBinding, Others}
use Rattle.slot_carriers.proofs.CarrierCells.{readable, value_of}
use Rattle.slot_carriers.proofs.KeptCells.{less_one}

-- the first variable of a group, and the others
pub record Headed (cells : List ℕ) (s n : ℕ) : Type 0 where
  pub first : Variable
  pub cell : CellOf cells s first.carrier
  pub rest : Grouped cells (s + 1) (n - 1)

next-slot : (cells : List ℕ) (s : ℕ) (vs : List Variable) → CellsOf cells (suc s) vs → CellsOf cells (s + 1) vs
next-slot cells s vs w = subst (λ (k : ℕ). CellsOf cells k vs) (sym (add-one s)) w

same-slot : (cells : List ℕ) (s : ℕ) (vs : List Variable) → CellsOf cells (s + 1) vs → CellsOf cells (suc s) vs
same-slot cells s vs w = subst (λ (k : ℕ). CellsOf cells k vs) (add-one s) w

grows : (a b : ℕ) → 0 < a → b ≤ a * b
grows zero b h = elim h [ ]
grows (suc a) b h = omega arith

count-rest : (v : Variable) (vs : List Variable) → binding_count (v ∷ vs) ≤ 4096 → binding_count vs ≤ 4096
unfolding binding_count
count-rest v vs f = omega (arith, grows (count_of v.carrier) (binding_count vs) (count-some v.carrier))

made : (cells : List ℕ) (s n : ℕ) (v : Variable) (vs : List Variable) → CellsOf cells s (v ∷ vs) → length (v ∷ vs) ≡ n → binding_count (v ∷ vs) ≤ 4096
    → Headed cells s n
unfolding CellsOf
made cells s n v vs w e f =
    record {
      first = v;
      cell = w.0;
      rest = record { group = vs; each = next-slot cells s vs w.1; long = less_one (length vs) n e; few = count-rest v vs f };
    }

pub headed : (cells : List ℕ) (s n : ℕ) → Grouped cells s n → (n ≡ 0 → ⊥) → Headed cells s n
headed cells s n g h = go g.group g.each g.long g.few
  where
    go : (vs : List Variable) → CellsOf cells s vs → length vs ≡ n → binding_count vs ≤ 4096 → Headed cells s n
    go [] w e f = absurd (h (sym e))
    go (v ∷ vs) w e f = made cells s n v vs w e f

pub counts-none : (cells : List ℕ) (s n : ℕ) → n ≡ 0 → Counts cells s n 1
unfolding binding_count
counts-none cells s n h [] w e = refl
counts-none cells s n h (v ∷ vs) w e = absurd (let z : suc (length vs) ≡ n = e in omega arith)

pub counts-more : (cells : List ℕ) (s n c r : ℕ) → (n ≡ 0 → ⊥) → c ≡ count_in cells s → Counts cells (s + 1) (n - 1) r → Counts cells s n (c * r)
unfolding binding_count CellsOf
counts-more cells s n c r h f k [] w e = absurd (h (sym e))
counts-more cells s n c r h f k (v ∷ vs) w e =
    ap₂ ◌*◌ (f ∙ w.0.count) (k vs (next-slot cells s vs w.1) (less_one (length vs) n e))

pub counts-low : (cells : List ℕ) (s n w : ℕ) → Grouped cells s n → Counts cells s n w → w ≤ 4096
counts-low cells s n w g k = let e : w ≡ binding_count g.group = k g.group g.each g.long in omega (arith, g.few)

-- ---- the digits of k

module _ (cells : List ℕ) (s n w k c : ℕ) (g : Grouped cells s n) (h : n ≡ 0 → ⊥) (counts : Counts cells s n w) (low : k < w) (f : c ≡ count_in cells s) where
  head : Headed cells s n
  head = headed cells s n g h

  one : (vs : List Variable) → CellsOf cells (s + 1) vs → length vs ≡ n - 1 → w ≡ c * binding_count vs
  unfolding binding_count CellsOf
  one vs e l =
      counts (head.first ∷ vs) (head.cell, same-slot cells s vs e) (let z : suc (length vs) ≡ n = longer (length vs) l in z)
      ∙ ap (λ (x : ℕ). x * binding_count vs) (sym (f ∙ head.cell.count))
    where
      longer : (m : ℕ) → m ≡ n - 1 → suc m ≡ n
      longer m l = omega arith

  pub count-positive : 0 < c
  count-positive = subst (λ (x : ℕ). 0 < x) (sym (f ∙ head.cell.count)) (count-some head.first.carrier)

  pub counts-rest : Counts cells (s + 1) (n - 1) (w / c)
  counts-rest vs e l = ap (λ (x : ℕ). x / c) (one vs e l ∙ mul_comm c (binding_count vs)) ∙ mul-div_cancel (binding_count vs) count-positive

  stride : w / c ≡ binding_count head.rest.group
  stride = counts-rest head.rest.group head.rest.each head.rest.long

  pub stride-positive : 0 < w / c
  stride-positive = subst (λ (x : ℕ). 0 < x) (sym stride) (bindings-some head.rest.group)

  whole : w ≡ c * (w / c)
  whole = one head.rest.group head.rest.each head.rest.long ∙ ap (λ (x : ℕ). c * x) (sym stride)

  digit-in : k / (w / c) < c
  digit-in = (div-lt_iff_lt-mul stride-positive).1 (subst (λ (x : ℕ). k < x) whole low)

  pub digit-reached : Reached cells s (k / (w / c))
  digit-reached = (readable cells s head.first.carrier head.cell).reached (k / (w / c)) (subst (λ (x : ℕ). k / (w / c) < x) f digit-in)

  pub rest-low : k % (w / c) < w / c
  rest-low = mod-lt k stride-positive

  digit-is : (vs : List Variable) (v : Variable) → w / c ≡ binding_count vs → c ≡ count_of v.carrier
      → value_in cells s (k / (w / c)) ≡ value_in cells s (digit (binding_count vs) (count_of v.carrier) k)
  digit-is vs v a b =
      ap (value_in cells s) (sym (digit-small (w / c) c k stride-positive (subst (λ (x : ℕ). k < x) whole low)) ∙ ap₂ (λ (x y : ℕ). digit x y k) a b)

  -- the slot s has its digit's value, those behind it hold the rest of k
  pub holds_more : (σ : List ℤ) → get_or σ s (pos 0) ≡ value_in cells s (k / (w / c)) → HoldsAt cells (s + 1) (n - 1) (k % (w / c)) σ → HoldsAt cells s n k σ
  unfolding CellsOf Holding binding_at
  holds_more σ a b [] e l = absurd (h (sym l))
  holds_more σ a b (v ∷ vs) e l =
      let m : w / c ≡ binding_count vs = counts-rest vs (next-slot cells s vs e.1) (less_one (length vs) n l) in
      let q : c ≡ count_of v.carrier = f ∙ e.0.count in (
        a ∙ digit-is vs v m q ∙ value_of cells s v.carrier e.0 (digit (binding_count vs) (count_of v.carrier) k) (digit-below (binding_count vs) (count_of v.carrier) k (count-some v.carrier)),
        subst (λ (x : ℕ). Holding σ x (binding_at vs k)) (add-one s)
            (
            subst (Holding σ (s + 1)) (ap (λ (x : ℕ). binding_at vs (k % x)) m ∙ again_rest vs k) (b vs (next-slot cells s vs e.1) (less_one (length vs) n l))
            ),
      )

pub holds-none : (cells : List ℕ) (s n k : ℕ) (σ : List ℤ) → n ≡ 0 → HoldsAt cells s n k σ
unfolding Holding binding_at
holds-none cells s n k σ h [] w e = tt
holds-none cells s n k σ h (v ∷ vs) w e = absurd (let z : suc (length vs) ≡ n = e in omega arith)

-- in the fixed order
pub holds-binding : (cells : List ℕ) (s n w k : ℕ) (σ : List ℤ) → Counts cells s n w → k < w → HoldsAt cells s n k σ → HoldsBinding cells s n k σ
holds-binding cells s n w k σ c low h vs e l =
    subst (Holding σ s) (sym (bindings-at vs k [] (subst (λ (x : ℕ). k < x) (c vs e l) low))) (h vs e l)

-- ---- what is written one behind the other

pub others-none : {A : Type 0} (d : A) (l : List A) (s n : ℕ) → Others d l s n l
others-none d l s n = record { below = λ i h. refl; above = λ i h. refl; same_length = refl }

module _ {A : Type 0} (d : A) (l m r : List A) (s n : ℕ) (x : A) (e : m ≡ set l s x) (o : Others d m (s + 1) (n - 1) r) where
  other : (i : ℕ) → (i ≡ s → ⊥) → get_or m i d ≡ get_or l i d
  other i h = ap (λ (z : List A). get_or z i d) e ∙ get_or-set_other l s i x d h

  pub others-more : (n ≡ 0 → ⊥) → Others d l s n r
  others-more h =
      record {
        below = λ i k. o.below i (next i k) ∙ other i (less i k);
        above = λ i k. o.above i (past i k) ∙ other i (more i k);
        same_length = o.same_length ∙ ap length e ∙ length-set l s x;
      }
    where
      next : (i : ℕ) → i < s → i < s + 1
      next i k = omega arith

      less : (i : ℕ) → i < s → i ≡ s → ⊥
      less i k q = omega arith

      past : (i : ℕ) → s + n ≤ i → s + 1 + (n - 1) ≤ i
      past i k = omega arith

      more : (i : ℕ) → s + n ≤ i → i ≡ s → ⊥
      more i k q = omega arith

  pub first-kept : s < length l → get_or r s d ≡ x
  first-kept h = o.below s (omega arith) ∙ ap (λ (z : List A). get_or z s d) e ∙ get_or-set_same l s x d h

-- what is written elsewhere leaves a binding in its slots
holding-kept : (σ τ : List ℤ) (s : ℕ) (bs : Binding) → ((i : ℕ) → s ≤ i → i < s + length bs → get_or τ i (pos 0) ≡ get_or σ i (pos 0)) → Holding σ s bs → Holding τ s bs
unfolding Holding
holding-kept σ τ s [] k h = tt
holding-kept σ τ s (b ∷ bs) k h = (k s (omega arith) (first (length bs)) ∙ h.0, holding-kept σ τ (suc s) bs (λ i m l. k i (omega arith) (next i (length bs) l)) h.1)
  where
    first : (n : ℕ) → s < s + suc n
    first n = omega arith

    next : (i n : ℕ) → i < suc s + n → i < s + suc n
    next i n l = omega arith

pub listed-kept : (vs : List Variable) (k s : ℕ) (σ τ : List ℤ) → ((i : ℕ) → s ≤ i → i < s + length vs → get_or τ i (pos 0) ≡ get_or σ i (pos 0))
    → Holding σ s (get_or (bindings vs) k []) → Holding τ s (get_or (bindings vs) k [])
listed-kept vs k s σ τ e h = let m = at-most vs k in holding-kept σ τ s (get_or (bindings vs) k []) (λ i f l. e i f (omega arith)) h

-- ---- from the last variable to the first: how many bindings those from i on have

pub tail : (cells : List ℕ) (s n : ℕ) → Grouped cells s n → (j : ℕ) → j ≤ n → Grouped cells (s + j) (n - j)
tail cells s n g zero h =
    subst (λ (k : ℕ). Grouped cells k (n - 0)) {x = s} {y = s + 0} (omega arith)
    (subst (Grouped cells s) {x = n} {y = n - 0} (omega arith) g)
tail cells s n g (suc j) h =
    let r : Grouped cells (s + j + 1) (n - j - 1) = (headed cells (s + j) (n - j) (tail cells s n g j (omega arith)) (λ e. omega (arith, e, h))).rest in
    subst (λ (k : ℕ). Grouped cells k (n - suc j)) {x = s + j + 1} {y = s + suc j} (omega arith)
    (subst (λ (k : ℕ). Grouped cells (s + j + 1) k) {x = n - j - 1} {y = n - suc j} (omega arith) r)

slot-low : (cells : List ℕ) (s n : ℕ) → Grouped cells s n → (j : ℕ) → j < n → s + j < 64
slot-low cells s n g j h = (headed cells (s + j) (n - j) (tail cells s n g j (omega arith)) (λ e. omega (arith, e, h))).cell.slot_low

pub group-end : (cells : List ℕ) (s n b : ℕ) → Grouped cells s n → 64 ≤ b → s ≤ b → s + n ≤ b
group-end cells s zero b g h k = omega arith
group-end cells s (suc n) b g h k = let l = slot-low cells s (suc n) g n (omega arith) in omega arith

pub record Counted (cells : List ℕ) (s n i w : ℕ) : Type 0 where
  pub low : s ≤ i
  pub high : i ≤ s + n
  pub counts : Counts cells i (s + n - i) w

pub counted-start : (cells : List ℕ) (s n : ℕ) → Counted cells s n (s + n) 1
counted-start cells s n = record { low = omega arith; high = omega arith; counts = counts-none cells (s + n) (s + n - (s + n)) (omega arith) }

module _ {cells : List ℕ} {s n i w : ℕ} (g : Grouped cells s n) (a : Counted cells s n i w) (h : s < i) where
  here : Headed cells (i - 1) (s + n - (i - 1))
  here =
      headed cells (i - 1) (s + n - (i - 1))
      (subst (λ (k : ℕ). Grouped cells k (s + n - (i - 1))) {x = s + (i - 1 - s)} {y = i - 1} (omega arith)
      (subst (λ (k : ℕ). Grouped cells (s + (i - 1 - s)) k) {x = n - (i - 1 - s)} {y = s + n - (i - 1)} (omega (arith, a.high)) (tail cells s n g (i - 1 - s) (omega (arith, a.high)))))
      (λ e. omega (arith, e, a.high))

  pub counted-slot : i - 1 < 64
  counted-slot = here.cell.slot_low

  more-counts : (c : ℕ) → c ≡ count_in cells (i - 1) → Counts cells (i - 1) (s + n - (i - 1)) (w * c)
  more-counts c f =
      subst (Counts cells (i - 1) (s + n - (i - 1))) (mul_comm c w)
      (counts-more cells (i - 1) (s + n - (i - 1)) c w (λ e. omega (arith, e, a.high)) f
      (subst (λ (k : ℕ). Counts cells k (s + n - (i - 1) - 1) w) {x = i} {y = i - 1 + 1} (omega arith)
      (subst (λ (k : ℕ). Counts cells i k w) {x = s + n - i} {y = s + n - (i - 1) - 1} (omega arith) a.counts)))

  pub counted-low : (c : ℕ) → c ≡ count_in cells (i - 1) → w * c ≤ 4096
  counted-low c f =
      counts-low cells (i - 1) (s + n - (i - 1)) (w * c)
      (subst (λ (k : ℕ). Grouped cells k (s + n - (i - 1))) {x = s + (i - 1 - s)} {y = i - 1} (omega arith)
      (subst (λ (k : ℕ). Grouped cells (s + (i - 1 - s)) k) {x = n - (i - 1 - s)} {y = s + n - (i - 1)} (omega (arith, a.high)) (tail cells s n g (i - 1 - s) (omega (arith, a.high)))))
      (more-counts c f)

  pub counted-more : (c : ℕ) → c ≡ count_in cells (i - 1) → Counted cells s n (i - 1) (w * c)
  counted-more c f = record { low = omega arith; high = omega (arith, a.high); counts = more-counts c f }

pub counted-done : {cells : List ℕ} {s n i w : ℕ} → Counted cells s n i w → i ≤ s → Counts cells s n w
counted-done {cells} {s} {n} {i} {w} a h =
    subst (λ (k : ℕ). Counts cells k n w) {x = i} {y = s} (omega (arith, a.low))
    (subst (λ (k : ℕ). Counts cells i k w) {x = s + n - i} {y = n} (omega (arith, a.low)) a.counts)

-- ---- from the first variable to the last: those before i have their values, and what gives the others theirs gives all

pub record Bound (cells : List ℕ) (s n k : ℕ) (old : List ℤ) (i w r : ℕ) (now : List ℤ) : Type 0 where
  pub left : ℕ
  pub ends : i + left ≡ s + n
  pub grouped : Grouped cells i left
  pub counts : Counts cells i left w
  pub low : r < w
  pub same_length : length now ≡ length old
  pub onward : (σ : List ℤ) → HoldsAt cells i left r σ → Others (pos 0) now i left σ → HoldsAt cells s n k σ × Others (pos 0) old s n σ

pub bound-start : (cells : List ℕ) (s n w k : ℕ) (old : List ℤ) → k < w → Grouped cells s n → Counts cells s n w → Bound cells s n k old s w k old
bound-start cells s n w k old l g c = record { left = n; ends = refl; grouped = g; counts = c; low = l; same_length = refl; onward = λ σ a o. (a, o) }

module _ {cells : List ℕ} {s n k : ℕ} {old : List ℤ} {i w r : ℕ} {now : List ℤ} (a : Bound cells s n k old i w r now) (h : i < s + n) where
  pub some-left : a.left ≡ 0 → ⊥
  some-left e = omega (arith, e, a.ends, h)

  pub bound-slot : i < 64
  bound-slot = (headed cells i a.left a.grouped some-left).cell.slot_low

  module _ (c : ℕ) (f : c ≡ count_in cells i) where
    pub bound-count : 0 < c
    bound-count = count-positive cells i a.left w r c a.grouped some-left a.counts a.low f

    pub bound-stride : 0 < w / c
    bound-stride = stride-positive cells i a.left w r c a.grouped some-left a.counts a.low f

    pub bound-reached : Reached cells i (r / (w / c))
    bound-reached = digit-reached cells i a.left w r c a.grouped some-left a.counts a.low f

    pub bound-more : (x : ℤ) (next : List ℤ) → next ≡ set now i x → x ≡ value_in cells i (r / (w / c)) → i < length now
        → Bound cells s n k old (i + 1) (w / c) (r % (w / c)) next
    bound-more x next e v l =
        record {
          left = a.left - 1;
          ends = omega (arith, a.ends, h);
          grouped = (headed cells i a.left a.grouped some-left).rest;
          counts = counts-rest cells i a.left w r c a.grouped some-left a.counts a.low f;
          low = rest-low cells i a.left w r c a.grouped some-left a.counts a.low f;
          same_length = ap length e ∙ length-set now i x ∙ a.same_length;
          onward = λ σ b o.
              a.onward σ
              (holds_more cells i a.left w r c a.grouped some-left a.counts a.low f σ (first-kept (pos 0) now next σ i a.left x e o l ∙ v) b)
              (others-more (pos 0) now next σ i a.left x e o some-left);
        }

module _ {cells : List ℕ} {s n k : ℕ} {old : List ℤ} {i w r : ℕ} {now : List ℤ} (a : Bound cells s n k old i w r now) (h : s + n ≤ i) where
  all-given : HoldsAt cells s n k now × Others (pos 0) old s n now
  all-given =
      a.onward now (holds-none cells i a.left r now (omega (arith, a.ends, h)))
      (others-none (pos 0) now i a.left)

  pub bound-values : (v : ℕ) → Counts cells s n v → k < v → HoldsBinding cells s n k now
  bound-values v c l = holds-binding cells s n v k now c l all-given.0

  pub bound-others : Others (pos 0) old s n now
  bound-others = all-given.1
