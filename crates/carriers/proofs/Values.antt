-- The values of a carrier by their numbers: how many there are, which is the k-th, and that they rise. Assumes nothing.
use mathlib.Core.Path.{◌≡◌, refl, sym, ap, ◌∙◌}
use mathlib.Core.Bool.{Bool, true, false, cond}
use mathlib.Core.List.{List, map, map-map}
use Prim.Native.Nat.{ℕ, suc, ◌+◌, ◌-◌, ◌*◌, ◌^◌, ◌<◌, ◌≤◌}
use native.Mathlib.Nat.{zero-lt-suc, one-le-pow}
use native.Mathlib.Decide.{dec_lt}
use native.Mathlib.Omega.{arith}
use lib.Dec.{ltb}
use lib.IntN.{ℤ, pos, negsuc, ◌+ℤ◌}
use lib.ListN.{length, get_or}
use lib.Pow.{pow_pos}
use lib.Signed.{lt_z}
use borrow.Author.Tests.{ltb-true, ltb-false, lt-ltb, le-ltb}
use Rattle.lexical.specs.Lists.{upward}
use Rattle.meaning.specs.FormTree.{relation, partial, total}
use Rattle.meaning.specs.StaticRulesCarriers.{Carrier, elements_of, numbers, subsets_of, pairs_in, size_of, count_of, arrow_count}
use Rattle.meaning.specs.Values as val
use Rattle.meaning.specs.Values.{Value}
use Rattle.meaning.specs.Meaning.{element_values, number_values}
use Rattle.meaning.specs.Bindings.{pair_sets, values_of}
use Rattle.carriers.specs.ValuesByNumber.{partial_mask, total_mask, pair_set_at, value_at}
use Rattle.carriers.proofs.Rows.{partial-lists, total-lists, partial-sets, total-sets}
use Rattle.carriers.proofs.Upward.{map-length, map_get}

-- the carrier's list is that of its k-th values
pub values_are : (c : Carrier) → values_of c ≡ map (value_at c) (upward 0 (count_of c))
unfolding values_of value_at count_of element_values number_values pair_sets arrow_count pair_set_at
values_are (elements_of g) = refl
values_are (numbers a b) = refl
values_are (subsets_of g) = refl
values_are (pairs_in relation g h) = refl
values_are (pairs_in partial g h) =
    ap (map (val.pairs (size_of g) (size_of h))) (partial-sets (size_of g) (size_of h))
    ∙ map-map (val.pairs (size_of g) (size_of h)) (partial_mask (size_of g) (size_of h)) (upward 0 ((size_of h + 1) ^ size_of g))
values_are (pairs_in total g h) =
    ap (map (val.pairs (size_of g) (size_of h))) (total-sets (size_of g) (size_of h) (zero-lt-suc _))
    ∙ map-map (val.pairs (size_of g) (size_of h)) (total_mask (size_of g) (size_of h)) (upward 0 (size_of h ^ size_of g))

pub values-count : (c : Carrier) → length (values_of c) ≡ count_of c
values-count c = ap length (values_are c) ∙ map-length (value_at c) 0 (count_of c)

pub values-at : (c : Carrier) (k : ℕ) (d : Value) → k < count_of c → get_or (values_of c) k d ≡ value_at c k
values-at c k d h = ap (λ (l : List Value). get_or l k d) (values_are c) ∙ map_get (value_at c) (count_of c) k d h

-- no carrier is empty
pub count-some : (c : Carrier) → 0 < count_of c
unfolding count_of arrow_count
count-some (elements_of g) = zero-lt-suc _
count-some (numbers a b) = omega arith
count-some (subsets_of g) = pow_pos (size_of g)
count-some (pairs_in relation g h) = pow_pos (size_of g * size_of h)
count-some (pairs_in partial g h) = one-le-pow (size_of g) (size_of h + 1) (omega arith)
count-some (pairs_in total g h) = one-le-pow (size_of g) (size_of h) (zero-lt-suc _)

-- ---- numbers upward, sets by bits as a number

sum-rises : (a : ℤ) (i j : ℕ) → i < j → lt_z (a +ℤ pos i) (a +ℤ pos j) ≡ true
sum-rises (pos a) i j h = lt-ltb (a + i) (a + j) (omega arith)
sum-rises (negsuc a) i j h = go (ltb i (suc a)) (ltb j (suc a)) refl refl
  where
    go : (p q : Bool) → ltb i (suc a) ≡ p → ltb j (suc a) ≡ q
        → lt_z (cond p (negsuc (suc a - suc i)) (pos (i - suc a))) (cond q (negsuc (suc a - suc j)) (pos (j - suc a))) ≡ true
    go true true e f = let z : j < suc a = ltb-true j (suc a) f in lt-ltb (suc a - suc j) (suc a - suc i) (omega arith)
    go true false e f = refl
    go false true e f = let z : j < suc a = ltb-true j (suc a) f in let y : suc a ≤ i = ltb-false i (suc a) e in let x : ⊥ = omega arith in absurd x
    go false false e f = let y : suc a ≤ i = ltb-false i (suc a) e in lt-ltb (i - suc a) (j - suc a) (omega arith)

pub values-rise : (c : Carrier) (i j : ℕ) → i < j → j < count_of c → lt_z (value_at c i).code (value_at c j).code ≡ true
unfolding value_at pair_set_at count_of arrow_count
values-rise (elements_of g) i j h u = lt-ltb i j h
values-rise (numbers a b) i j h u = sum-rises a i j h
values-rise (subsets_of g) i j h u = lt-ltb i j h
values-rise (pairs_in relation g h) i j l u = lt-ltb i j l
values-rise (pairs_in partial g h) i j l u =
    lt-ltb (partial_mask (size_of g) (size_of h) i) (partial_mask (size_of g) (size_of h) j) ((partial-lists (size_of g) (size_of h)).rising i j (omega arith) l (omega arith))
values-rise (pairs_in total g h) i j l u =
    lt-ltb (total_mask (size_of g) (size_of h) i) (total_mask (size_of g) (size_of h) j) ((total-lists (size_of g) (size_of h) (zero-lt-suc _)).rising i j (omega arith) l (omega arith))

pub not_less : (z : ℤ) → lt_z z z ≡ false
not_less (pos n) = le-ltb n n (omega arith)
not_less (negsuc n) = le-ltb n n (omega arith)

apart : {A : Type 0} (v w : Value) → v ≡ w → lt_z v.code w.code ≡ true → A
apart v w e h = let f : lt_z w.code w.code ≡ true = ap (λ (x : Value). lt_z x.code w.code) (sym e) ∙ h in absurd (let g : lt_z w.code w.code ≡ false = not_less w.code in let z : ◌≡◌ {A = ℕ} 0 1 = cc in omega arith)

-- two numbers of one value are equal
pub values-once : (c : Carrier) (i j : ℕ) → i < count_of c → j < count_of c → value_at c i ≡ value_at c j → i ≡ j
values-once c i j u v e =
    elim (dec_lt i j) [
      | yes h ↦ apart (value_at c i) (value_at c j) e (values-rise c i j h v)
      | no h ↦ elim (dec_lt j i) [
        | yes g ↦ apart (value_at c j) (value_at c i) (sym e) (values-rise c j i g u)
        | no g ↦ omega arith
      ]
    ]
