-- Groups of slots, each a run of numbers: the slots of a search over one group, or over two of them one behind the other.
use mathlib.Core.Path.{◌≡◌, refl, sym, ap, ap₂, ◌∙◌, subst}
use mathlib.Core.Bool.{Bool, true, false, cond}
use mathlib.Core.Logic.{◌⊎◌, inl, inr}
use mathlib.Core.List.{List, [], ◌∷◌, ◌++◌}
use Prim.Native.Nat.{ℕ, zero, suc, ◌+◌, ◌-◌, ◌*◌, ◌<◌, ◌≤◌}
use native.Mathlib.Omega.{arith}
use lib.Dec.{ltb}
use lib.ListN.{get_or, length, length-append, get_or-append}
use lib.Seq.{get_or-append-add}
use borrow.Author.Tests.{ltb-true, ltb-false, lt-ltb, le-ltb}
use Rattle.lexical.specs.Lists.{upward}
use Rattle.static_rules.specs.Carriers.{Variable}
use Rattle.meaning.specs.Bindings.{Among}
use Rattle.meaning.proofs.Members.{among-append}
use Rattle.meaning.proofs.UpwardNumbers.{upward-long, upward-at, among-upward}
use Rattle.carriers.proofs.Values.{count-some}
use Rattle.slot_carriers.specs.Cells.{count_in, Readable}
use Rattle.slot_carriers.specs.CellGroups.{CellsOf}
use Rattle.slot_carriers.proofs.CarrierCells.{readable}
use Rattle.part_tests.specs.PointsPoints.{Distinct, more_slots}
use Rattle.part_tests.specs.PointsSearches.{slot_in}
use Rattle.part_tests.specs.PlansPlanPromises.{SlotsIn}
use Rattle.part_tests.proofs.PointsPointNumbers.{distinct-upward}
use Rattle.part_searches.proofs.SearchPlans.{Searched}

-- ---- one group

-- Form 8: by `Distinct` of points/specs/Points, since specs/ cites nothing of proofs/, where meaning/proofs/Distinct has its own; both are by recursion on a list and `among-append`.
pub distinct_append : (xs ys : List ℕ) → Distinct xs → Distinct ys → ((s : ℕ) → Among s xs → Among s ys → ⊥) → Distinct (xs ++ ys)
unfolding Among
distinct_append [] ys d e f = e
distinct_append (x ∷ xs) ys (more_slots n d) e f = more_slots (λ m. go (among-append x xs ys m)) (distinct_append xs ys d e (λ s h k. f s (inr h) k))
  where
    go : Among x xs ⊎ Among x ys → ⊥
    go (inl h) = n h
    go (inr h) = f x (inl refl) h

-- ---- two groups

module _ (a n t v : ℕ) where
  pub groups-long : length (upward a n ++ upward t v) ≡ n + v
  groups-long = length-append (upward a n) (upward t v) ∙ ap₂ ◌+◌ (upward-long a n) (upward-long t v)

  pub groups-first : (i : ℕ) → i < n → get_or (upward a n ++ upward t v) i 0 ≡ a + i
  groups-first i h = get_or-append (upward a n) (upward t v) 0 i (subst (λ (k : ℕ). i < k) (sym (upward-long a n)) h) ∙ upward-at a n i h

  pub groups-second : (i j : ℕ) → i ≡ n + j → j < v → get_or (upward a n ++ upward t v) i 0 ≡ t + j
  groups-second i j e h =
      ap (λ (k : ℕ). get_or (upward a n ++ upward t v) k 0) (e ∙ ap (λ (k : ℕ). k + j) (sym (upward-long a n)))
      ∙ get_or-append-add (upward a n) (upward t v) j 0 ∙ upward-at t v j h

  pub groups-distinct : ((s : ℕ) → a ≤ s → s < a + n → t ≤ s → s < t + v → ⊥) → Distinct (upward a n ++ upward t v)
  groups-distinct f =
      distinct_append (upward a n) (upward t v) (distinct-upward a n) (distinct-upward t v)
      (λ s h k. let x = among-upward a n s h in let y = among-upward t v s k in f s x.0 x.1 y.0 y.1)

  -- a number of the second group
  second-number : (i : ℕ) → n ≤ i → i ≡ n + (i - n)
  second-number i h = omega arith

  -- what holds of all slots of both groups holds of those of the search
  each-slot : (P : ℕ → Type 0) → ((i : ℕ) → i < n → P (a + i)) → ((i : ℕ) → i < v → P (t + i)) → (i : ℕ) → i < length (upward a n ++ upward t v)
      → P (get_or (upward a n ++ upward t v) i 0)
  each-slot P f g i h = go (ltb i n) refl
    where
      long : i < n + v
      long = subst (λ (k : ℕ). i < k) groups-long h

      go : (b : Bool) → ltb i n ≡ b → P (get_or (upward a n ++ upward t v) i 0)
      go true e = let l = ltb-true i n e in subst P (sym (groups-first i l)) (f i l)
      go false e =
          let l = ltb-false i n e in
          subst P (sym (groups-second i (i - n) (second-number i l) (omega (arith, long)))) (g (i - n) (omega (arith, long)))

-- ---- the slots that a plan has

-- a slot with a variable: its values can be read, and there is one
pub record Filled (cells : List ℕ) (s : ℕ) : Type 0 where
  pub values : Readable cells s
  pub some : 0 < count_in cells s

pub filled : (cells : List ℕ) (base : ℕ) (vs : List Variable) → CellsOf cells base vs → (i : ℕ) → i < length vs → Filled cells (base + i)
unfolding CellsOf
filled cells base [] h i l = let z : ⊥ = omega arith in absurd z
filled cells base (v ∷ vs) h zero l =
    subst (λ (s : ℕ). Filled cells s) (let z : base ≡ base + 0 = omega arith in z)
    (record { values = readable cells base v.carrier h.0; some = subst (λ (k : ℕ). 0 < k) (sym h.0.count) (count-some v.carrier) })
filled cells base (v ∷ vs) h (suc i) l =
    subst (λ (s : ℕ). Filled cells s) (let z : suc base + i ≡ base + suc i = omega arith in z) (filled cells (suc base) vs h.1 i (omega arith))

first_slot : (plan : List ℕ) (u a n t i : ℕ) → SlotsIn plan u a n t → i < n → slot_in plan u i ≡ a + i
first_slot plan u a n t i s h =
    ap₂ (λ (k m : ℕ). cond (ltb i k) (m + i) (get_or plan (16 * u + 15) 0 + (i - get_or plan (16 * u + 14) 0))) s.count_is s.first_is
    ∙ ap (λ (b : Bool). cond b (a + i) (get_or plan (16 * u + 15) 0 + (i - get_or plan (16 * u + 14) 0))) (lt-ltb i n h)

second-slot : (plan : List ℕ) (u a n t i j : ℕ) → SlotsIn plan u a n t → i ≡ n + j → slot_in plan u i ≡ t + j
second-slot plan u a n t i j s e =
    ap₂ (λ (k m : ℕ). cond (ltb i k) (get_or plan (16 * u + 13) 0 + i) (m + (i - k))) s.count_is s.second_is
    ∙ ap (λ (b : Bool). cond b (get_or plan (16 * u + 13) 0 + i) (t + (i - n))) (le-ltb i n (omega arith))
    ∙ ap (λ (k : ℕ). t + k) (let z : i - n ≡ j = omega arith in z)

module _ (plan cells : List ℕ) (u a n t v : ℕ) where
  plan-slot : SlotsIn plan u a n t → (i : ℕ) → i < length (upward a n ++ upward t v) → slot_in plan u i ≡ get_or (upward a n ++ upward t v) i 0
  plan-slot s i h = go (ltb i n) refl
    where
      long : i < n + v
      long = subst (λ (k : ℕ). i < k) (groups-long a n t v) h

      go : (b : Bool) → ltb i n ≡ b → slot_in plan u i ≡ get_or (upward a n ++ upward t v) i 0
      go true e = let l = ltb-true i n e in first_slot plan u a n t i s l ∙ sym (groups-first a n t v i l)
      go false e =
          let l = ltb-false i n e in
          second-slot plan u a n t i (i - n) s (second-number a n t v i l) ∙ sym (groups-second a n t v i (i - n) (second-number a n t v i l) (omega (arith, long)))

  -- a search over n slots from a on and v slots from t on, each with a variable
  pub searched : u < 5 → SlotsIn plan u a n t → n ≤ 3 → v ≤ 8 → a + n ≤ 38 → t + v ≤ 38 → a + n ≤ t ⊎ n ≡ 0 → ((i : ℕ) → i < n → Filled cells (a + i))
      → ((i : ℕ) → i < v → Filled cells (t + i)) → Searched plan cells u (upward a n ++ upward t v)
  searched l s j k x y z f g = record {
    search_low = l;
    few = subst (λ (m : ℕ). m ≤ 11) (sym (groups-long a n t v)) (omega arith);
    slots = plan-slot s;
    slot_low = each-slot a n t v (λ (m : ℕ). m < 38) (λ i h. omega arith) (λ i h. omega arith);
    readable = each-slot a n t v (λ (m : ℕ). Readable cells m) (λ i h. (f i h).values) (λ i h. (g i h).values);
    some = each-slot a n t v (λ (m : ℕ). 0 < count_in cells m) (λ i h. (f i h).some) (λ i h. (g i h).some);
    distinct = groups-distinct a n t v (apart z);
  }
    where
      apart : a + n ≤ t ⊎ n ≡ 0 → (m : ℕ) → a ≤ m → m < a + n → t ≤ m → m < t + v → ⊥
      apart (inl h) m b c d e = omega arith
      apart (inr h) m b c d e = omega arith
