-- The loop of the search over the values of its first variable, for every list of slots, tests and point that fit the plan. Assumes nothing.
use Prim.Native.Nat.{ℕ, suc, ◌+◌, ◌-◌, ◌*◌, ◌/◌, ◌%◌, ◌<◌, ◌≤◌, ◌^◌, max}
use native.Mathlib.Omega.{arith}
use native.Mathlib.Nat.{add-zero, mul-le-mul_right, mul_comm, zero-mul, mul-zero, mul-add-div, zero-div, le-mul_of_pos_right, le-div_iff_mul-le, div-lt_iff_lt-mul}
use mathlib.Core.Path.{◌≡◌, sym, ap, ◌∙◌, subst}
use mathlib.Core.Bool.{Bool, true, false}
use mathlib.Core.Logic.{◌⊎◌, inl, inr}
use mathlib.Core.List.{List, [], ◌∷◌}
use lib.ListN.{length}
use lib.IntN.{ℤ}
use Rattle.slot_carriers.specs.Cells.{count_in, Reached, Readable}
use Rattle.points.specs.Points.{Point, moved, span, Shows}
use Rattle.points.specs.Searches.{Sought, slot_in, Planned, level_holds, under}
use Rattle.seek.specs.SeekPromises.{StoreAsked, StoreAnswers, LevelAnswers, Left, SeekAsked, SeekAnswers}
use Rattle.seek.specs.AimPromises.{AimAsked, AimAnswers}
use Rattle.seek.proofs.Blocks.{ended}
use Rattle.seek.proofs.OneSearch.{behind, Along, along-starts, along-goes, along-finds, along_leaves}
use Rattle.seek.proofs.WaysOut.{planned-rest, first_is, same_span, no_slots, under_next}

-- ---- products
module _ (n s w : ℕ) (e : w ≡ n * s) (p : 0 < w) where
  one-pos : 0 < n
  one-pos = elim (native.Mathlib.Decide.dec_lt 0 n) [ yes l ↦ l | no l ↦ absurd (bad l) ]
    where
      bad : (0 < n → ⊥) → ⊥
      bad l =
          let z : n ≡ 0 = omega arith in
          let y : n * s ≡ 0 * s = ap (λ (x : ℕ). x * s) z in
          let x : 0 * s ≡ 0 = zero-mul s in
          omega arith

  other-is : w / n ≡ s
  other-is = ap (λ (x : ℕ). x / n) (e ∙ sym (add-zero (n * s))) ∙ mul-add-div one-pos s 0 ∙ (let z : 0 / n ≡ 0 = zero-div n in omega arith)

  other_pos : 0 < s
  other_pos = elim (native.Mathlib.Decide.dec_lt 0 s) [ yes l ↦ l | no l ↦ absurd (bad l) ]
    where
      bad : (0 < s → ⊥) → ⊥
      bad l =
          let z : s ≡ 0 = omega arith in
          let y : n * s ≡ n * 0 = ap (λ (x : ℕ). n * x) z in
          let x : n * 0 ≡ 0 = mul-zero n in
          omega arith

  other-small : s ≤ w
  other-small = let z : s ≤ s * n = le-mul_of_pos_right s one-pos in let y : n * s ≡ s * n = mul_comm n s in omega arith

-- ---- what is known at the head of the loop
pub record Inside (table plan cells : List ℕ) (u j m w from n v slot high : ℕ) (a₀ a : List (List ℤ)) (x r : ℕ) : Type 0 where
  pub asked : SeekAsked table plan cells u j m w from a₀
  pub more : m ≡ 0 → ⊥
  pub slot_is : slot ≡ slot_in plan u j
  pub count : n ≡ count_in cells slot
  pub size : w ≡ n * v
  pub short : v ≤ w
  pub high_in : high ≤ n
  pub beyond : (ss : List ℕ) (tests : ℕ → List (Point → Bool)) (δ : Point) → Planned table plan cells u j ss tests → Shows cells δ a₀ → length ss ≡ m
      → (k : ℕ) → high * v ≤ k → k < n * v → under cells tests j ss δ k ≡ false
  pub known : (ss : List ℕ) (tests : ℕ → List (Point → Bool)) (δ : Point) → Planned table plan cells u j ss tests → Shows cells δ a₀ → length ss ≡ m
      → Along cells tests j ss δ v from a x r

module _ {table plan cells : List ℕ} {u j m w from slot : ℕ} {a : List (List ℤ)} (q : SeekAsked table plan cells u j m w from a) (more : m ≡ 0 → ⊥) (is : slot ≡ slot_in plan u j) where
  pub slot_low : slot < 38
  slot_low = go q.slots q.planned q.many
    where
      go : (ss : List ℕ) → Planned table plan cells u j ss q.tests → length ss ≡ m → slot < 38
      go [] p l = no_slots l more
      go (s ∷ ss) p l = subst (λ (z : ℕ). z < 38) (sym (is ∙ first_is p)) (p.slot_low 0 (omega arith))

  module _ {n : ℕ} (count : n ≡ count_in cells slot) (ne : from ≡ w → ⊥) where
    positive : 0 < w
    positive = let z : from ≤ w = q.inside in omega arith

    product : {tests : ℕ → List (Point → Bool)} (ss : List ℕ) → Planned table plan cells u j ss tests → length ss ≡ m → w ≡ n * span cells (behind ss)
    unfolding span
    product [] p l = no_slots l more
    product (s ∷ ss) p l =
        same_span q p l ∙ ap (λ (z : ℕ). z * span cells ss) (ap (λ (z : ℕ). count_in cells z) (sym (is ∙ first_is p)) ∙ sym count)

    whole : w ≡ n * span cells (behind q.slots)
    whole = product q.slots q.planned q.many

    pub n_pos : 0 < n
    n_pos = one-pos n _ w whole positive

    pub v_pos : 0 < w / n
    v_pos = subst (λ (z : ℕ). 0 < z) (sym (other-is n _ w whole positive)) (other_pos n _ w whole positive)

    pub aim-asked : {a₁ : List (List ℤ)} → a₁ ≡ a → AimAsked table plan cells u (j + 1) slot n a₁
    aim-asked {a₁} same = go q.slots q.planned q.many
      where
        go : (ss : List ℕ) → Planned table plan cells u j ss q.tests → length ss ≡ m → AimAsked table plan cells u (j + 1) slot n a₁
        go [] p l = no_slots l more
        go (s ∷ ss) p l =
            let few : j + suc (length ss) ≤ 11 = p.few in
            record {
              point = q.point;
              tests = q.tests;
              shows = subst (λ (z : List (List ℤ)). Shows cells q.point z) (sym same) q.shows;
              search_low = p.search_low;
              level_low = omega arith;
              end_low = p.marks (j + 1 + 1) (omega arith);
              stand = p.levels (j + 1) (omega arith) (omega arith);
              slot_low = slot_low;
              readable = subst (λ (z : ℕ). Readable cells z) (sym (is ∙ first_is p)) (p.readable 0 (omega arith));
              count = count;
            }

    module _ {a₁ : List (List ℤ)} {low high : ℕ} (same : a₁ ≡ a) (aim : AimAnswers table plan cells u (j + 1) slot n a₁ low high) where
      pub low_fits : low * (w / n) ≤ 16777216
      low_fits =
          let up : low * (w / n) ≤ n * (w / n) = mul-le-mul_right (w / n) aim.low_in in
          let size : w ≡ n * (w / n) = whole ∙ ap (λ (z : ℕ). n * z) (sym (other-is n _ w whole positive)) in
          let few : w ≤ 2 ^ 24 = q.few in
          omega arith

      -- a place in a block that is left out
      left_out : (ss : List ℕ) (tests : ℕ → List (Point → Bool)) (δ : Point) → Planned table plan cells u j ss tests → Shows cells δ a₁ → length ss ≡ m
          → (k : ℕ) → k / (w / n) < n → (k / (w / n) < low) ⊎ (high ≤ k / (w / n)) → under cells tests j ss δ k ≡ false
      left_out [] tests δ p s l k h o = no_slots l more
      left_out (t ∷ ss) tests δ p s l k h o =
          let few : j + suc (length ss) ≤ 11 = p.few in
          under_next cells tests j t ss δ k
          (subst (λ (z : ℕ). level_holds tests (j + 1) (moved δ t (k / z)) ≡ false) (other-is n _ w (product (t ∷ ss) p l) positive)
          (subst (λ (z : ℕ). level_holds tests (j + 1) (moved δ z (k / (w / n))) ≡ false) (is ∙ first_is p)
          (aim.fails tests δ s (p.levels (j + 1) (omega arith) (omega arith)) (k / (w / n)) h o)))

      pub entered : {b : Bool} {a₂ : List (List ℤ)} {first : ℕ} → LevelAnswers table plan u j a b → b ≡ true → a₂ ≡ a₁ → first ≡ max from (low * (w / n))
          → Inside table plan cells u j m w from n (w / n) slot high a₂ a₂ (first / (w / n)) (first % (w / n))
      entered {a₂ = a₂} {first = first} passes f also begins =
          record {
            asked = subst (λ (z : List (List ℤ)). SeekAsked table plan cells u j m w from z) (sym (also ∙ same)) q;
            more = more;
            slot_is = is;
            count = count;
            size = whole ∙ ap (λ (z : ℕ). n * z) (sym (other-is n _ w whole positive));
            short = subst (λ (z : ℕ). z ≤ w) (sym (other-is n _ w whole positive)) (other-small n _ w whole positive);
            high_in = aim.high_in;
            beyond = λ ss tests δ p s l k h g.
                left_out ss tests δ p (subst (λ (z : List (List ℤ)). Shows cells δ z) also s) l k ((div-lt_iff_lt-mul v_pos).1 g) (inr ((le-div_iff_mul-le v_pos).1 h));
            known = λ ss tests δ p s l.
                along-starts from first
                (sym (passes.means cells δ tests (subst (λ (z : List (List ℤ)). Shows cells δ z) (also ∙ same) s) (p.levels j (omega arith) (omega arith))) ∙ f)
                (other-is n _ w (product ss p l) positive) v_pos s (omega arith)
                (λ k g h. earlier ss tests δ p (subst (λ (z : List (List ℤ)). Shows cells δ z) also s) l k (before k g h));
          }
        where
          before : (k : ℕ) → from ≤ k → k < first → k < low * (w / n)
          before k g h = omega arith

          earlier : (ss : List ℕ) (tests : ℕ → List (Point → Bool)) (δ : Point) → Planned table plan cells u j ss tests → Shows cells δ a₁ → length ss ≡ m
              → (k : ℕ) → k < low * (w / n) → under cells tests j ss δ k ≡ false
          earlier ss tests δ p s l k h =
              let below : k / (w / n) < low = (div-lt_iff_lt-mul v_pos).1 h in
              let inside : low ≤ n = aim.low_in in
              left_out ss tests δ p s l k (omega arith) (inl below)

one_less : (m s : ℕ) (ss : List ℕ) → length (s ∷ ss) ≡ m → length ss ≡ m - 1
one_less m s ss e = let z : suc (length ss) ≡ m = e in omega arith

pub fewer : {m t : ℕ} → m ≡ t → (m ≡ 0 → ⊥) → m - 1 < t
fewer e n = omega arith

pub carried : {table plan cells : List ℕ} {u j m w from r : ℕ} {a₀ a b : List (List ℤ)} → a₀ ≡ a → SeekAnswers table plan cells u j m w from a₀ b r
    → SeekAnswers table plan cells u j m w from a b r
carried {table} {plan} {cells} {u} {j} {m} {w} {from} {r} {a₀} {a} {b} e s = subst (λ (z : List (List ℤ)). SeekAnswers table plan cells u j m w from z b r) e s

module _ {table plan cells : List ℕ} {u j m w from n v slot high : ℕ} {a₀ a : List (List ℤ)} {x r : ℕ} (here : Inside table plan cells u j m w from n v slot high a₀ a x r) where
  witness : Along cells here.asked.tests j here.asked.slots here.asked.point v from a x r
  witness = here.known here.asked.slots here.asked.tests here.asked.point here.asked.planned here.asked.shows here.asked.many

  pub place-low : r < v
  place-low = witness.going.short

  pub below-high : x < high → x < n
  below-high l = let inside : high ≤ n = here.high_in in omega arith

  pub out : high ≤ x → SeekAnswers table plan cells u j m w from a₀ a w
  out l =
      record {
        sought = λ ss tests δ p s e. sought ss tests δ p s e (here.known ss tests δ p s e);
        left = λ ss tests δ p s e. (
            let along = here.known ss tests δ p s e in
            record { point = along.point; shows = along.shows; beside = along.beside; found = λ h. absurd (less h) });
      }
    where
      less : w < w → ⊥
      less h = omega arith

      sought : (ss : List ℕ) (tests : ℕ → List (Point → Bool)) (δ : Point) → Planned table plan cells u j ss tests → Shows cells δ a₀ → length ss ≡ m
          → Along cells tests j ss δ v from a x r → Sought (under cells tests j ss δ) from w w
      sought ss tests δ p s e along =
          subst (λ (z : ℕ). Sought (under cells tests j ss δ) from z z) (sym here.size)
          (ended n high along.going l (here.beyond ss tests δ p s e) (subst (λ (z : ℕ). from ≤ z) here.size here.asked.inside))

  module _ (l : x < n) where
    pub store-asked : StoreAsked cells slot x a
    store-asked = go here.asked.slots here.asked.planned here.asked.many
      where
        go : (ss : List ℕ) → Planned table plan cells u j ss here.asked.tests → length ss ≡ m → StoreAsked cells slot x a
        go [] p e = no_slots e here.more
        go (s ∷ ss) p e =
            let is : slot ≡ s = here.slot_is ∙ first_is p in
            record {
              point = witness.point;
              shows = witness.shows;
              slot_low = slot_low here.asked here.more here.slot_is;
              reached = subst (λ (z : ℕ). Reached cells z x) (sym is)
                  ((p.readable 0 (omega arith)).reached x (subst (λ (z : ℕ). x < z) (here.count ∙ ap (λ (z : ℕ). count_in cells z) is) l));
            }

    module _ {a₁ : List (List ℤ)} (st : StoreAnswers cells slot x a a₁) where
      stored : {s : ℕ} {ss : List ℕ} {tests : ℕ → List (Point → Bool)} {δ : Point} → Planned table plan cells u j (s ∷ ss) tests
          → (along : Along cells tests j (s ∷ ss) δ v from a x r) → Shows cells (moved along.point s x) a₁
      stored p along =
          subst (λ (z : ℕ). Shows cells (moved along.point z x) a₁) (here.slot_is ∙ first_is p)
          (st.means along.point along.shows (subst (λ (z : ℕ). x < z) here.count l))

      pub seek-asked : SeekAsked table plan cells u (j + 1) (m - 1) v r a₁
      seek-asked = go here.asked.slots here.asked.planned here.asked.many witness
        where
          go : (ss : List ℕ) → Planned table plan cells u j ss here.asked.tests → length ss ≡ m → Along cells here.asked.tests j ss here.asked.point v from a x r
              → SeekAsked table plan cells u (j + 1) (m - 1) v r a₁
          go [] p e along = no_slots e here.more
          go (s ∷ ss) p e along =
              let few : w ≤ 2 ^ 24 = here.asked.few in
              let short : v ≤ w = here.short in
              let low : r < v = place-low in
              record {
                slots = ss;
                tests = here.asked.tests;
                point = moved along.point s x;
                planned = planned-rest p;
                shows = stored p along;
                many = one_less m s ss e;
                counted = along.counted;
                few = omega arith;
                inside = omega arith;
              }

      module _ {k : ℕ} {a₂ : List (List ℤ)} (sk : SeekAnswers table plan cells u (j + 1) (m - 1) v r a₁ a₂ k) where
        module _ {s : ℕ} {ss : List ℕ} {tests : ℕ → List (Point → Bool)} {δ : Point} (p : Planned table plan cells u j (s ∷ ss) tests) (e : length (s ∷ ss) ≡ m)
            (along : Along cells tests j (s ∷ ss) δ v from a x r) where
          within : Sought (under cells tests (j + 1) ss (moved along.point s x)) r v k
          within = sk.sought ss tests (moved along.point s x) (planned-rest p) (stored p along) (one_less m s ss e)

          leaves : Left cells ss (moved along.point s x) v k a₂
          leaves = sk.left ss tests (moved along.point s x) (planned-rest p) (stored p along) (one_less m s ss e)

        pub again : {y : ℕ} → v ≤ k → y ≡ 0 → Inside table plan cells u j m w from n v slot high a₀ a₂ (x + 1) y
        again {y} h zero_is =
            record {
              asked = here.asked;
              more = here.more;
              slot_is = here.slot_is;
              count = here.count;
              size = here.size;
              short = here.short;
              high_in = here.high_in;
              beyond = here.beyond;
              known = λ ss tests δ p s e. go ss tests δ p e (here.known ss tests δ p s e);
            }
          where
            go : (ss : List ℕ) (tests : ℕ → List (Point → Bool)) (δ : Point) → Planned table plan cells u j ss tests → length ss ≡ m → Along cells tests j ss δ v from a x r
                → Along cells tests j ss δ v from a₂ (x + 1) y
            go [] tests δ p e along = no_slots e here.more
            go (s ∷ ss) tests δ p e along = subst (λ (z : ℕ). Along cells tests j (s ∷ ss) δ v from a₂ (x + 1) z) (sym zero_is) (along-goes along (planned-rest p) (within p e along) (leaves p e along) h)

        pub hit : {y : ℕ} → k < v → y ≡ x * v + k → SeekAnswers table plan cells u j m w from a₀ a₂ y
        hit {y} h is =
            subst (λ (z : ℕ). SeekAnswers table plan cells u j m w from a₀ a₂ z) (sym is)
            record {
              sought = λ ss tests δ p s e. sought ss tests δ p e (here.known ss tests δ p s e);
              left = λ ss tests δ p s e. left ss tests δ p e (here.known ss tests δ p s e);
            }
          where
            sought : (ss : List ℕ) (tests : ℕ → List (Point → Bool)) (δ : Point) → Planned table plan cells u j ss tests → length ss ≡ m → Along cells tests j ss δ v from a x r
                → Sought (under cells tests j ss δ) from w (x * v + k)
            sought [] tests δ p e along = no_slots e here.more
            sought (s ∷ ss) tests δ p e along =
                subst (λ (z : ℕ). Sought (under cells tests j (s ∷ ss) δ) from z (x * v + k)) (sym here.size)
                (along-finds along (planned-rest p) (within p e along) (leaves p e along) n h l)

            left : (ss : List ℕ) (tests : ℕ → List (Point → Bool)) (δ : Point) → Planned table plan cells u j ss tests → length ss ≡ m → Along cells tests j ss δ v from a x r
                → Left cells ss δ w (x * v + k) a₂
            left [] tests δ p e along = no_slots e here.more
            left (s ∷ ss) tests δ p e along = along_leaves along (planned-rest p) (within p e along) (leaves p e along) w h
