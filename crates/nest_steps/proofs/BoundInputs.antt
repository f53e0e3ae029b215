-- The inputs get the values of one of their bindings: the arrays then show the point with that binding. Assumes nothing.
use mathlib.Core.Path.{◌≡◌, sym, ap, subst, ◌∙◌}
use mathlib.Core.Logic.{inl, inr}
use mathlib.Core.List.{List, [], ◌∷◌}
use Prim.Native.Nat.{ℕ, suc, ◌+◌, ◌*◌, ◌/◌, ◌%◌, ◌<◌, ◌≤◌}
use native.Mathlib.Nat.{mod-lt}
use native.Mathlib.Decide.{dec_lt}
use native.Mathlib.Omega.{arith}
use lib.ListN.{get_or, length, set, length-set}
use lib.Seq.{get_or-set_same, get_or-set_other}
use lib.IntN.{ℤ, pos}
use Rattle.lexical.specs.Lists.{upward}
use Rattle.static_rules.specs.Carriers.{Variable, count_of}
use Rattle.static_rules.specs.Limits.{binding_count}
use Rattle.meaning.specs.Bindings.{Among}
use Rattle.meaning.proofs.UpwardNumbers.{among-upward, upward-among}
use Rattle.carriers.specs.ValuesByNumber.{value_at, digit, binding_at}
use Rattle.carriers.proofs.Values.{count-some}
use Rattle.carriers.proofs.Bindings.{bindings-some, bindings-at, digit-small, digit-below, again_rest}
use Rattle.slot_carriers.specs.Cells.{value_in, CellOf}
use Rattle.slot_carriers.specs.CellGroups.{CellsOf, Grouped, Holding, HoldsBinding, Others}
use Rattle.slot_carriers.proofs.CarrierCells.{value_of}
use Rattle.points.specs.Points.{Point, primed_slot, span, moved, placed, Shows}
use Rattle.points.proofs.PointNumbers.{Counts, moved_here, placed-other, tame-placed}
use Rattle.points.proofs.PointBindings.{span-count, group-counts, primed-high}

-- ---- the digits of a binding's number

pub upward-counts : (cells : List ℕ) (s n : ℕ) → Grouped cells s n → Counts cells (upward s n)
upward-counts cells s n g = subst (λ (m : ℕ). Counts cells (upward s m)) g.long (group-counts cells s g.group g.each)

-- the first variable has the value of the first digit
first-digit : (cells : List ℕ) (s : ℕ) (v : Variable) (n k : ℕ) (x : ℤ) → CellOf cells s v.carrier → 0 < n → k < count_of v.carrier * n
    → x ≡ (value_at v.carrier (digit n (count_of v.carrier) k)).code → x ≡ value_in cells s (k / n)
first-digit cells s v n k x c p h e =
    e ∙ sym (value_of cells s v.carrier c (digit n (count_of v.carrier) k) (digit-below n (count_of v.carrier) k (count-some v.carrier)))
    ∙ ap (value_in cells s) (digit-small n (count_of v.carrier) k p h)

values-placed : (cells : List ℕ) (s : ℕ) (vs : List Variable) (k : ℕ) (δ : Point) (σ : List ℤ) → CellsOf cells s vs → k < binding_count vs → Holding σ s (binding_at vs k)
    → (t : ℕ) → Among t (upward s (length vs)) → get_or σ t (pos 0) ≡ value_in cells t (placed cells (upward s (length vs)) δ k t)
unfolding Among upward CellsOf binding_count Holding binding_at placed
values-placed cells s [] k δ σ w h b t m = absurd m
values-placed cells s (v ∷ vs) k δ σ w h b t (inl e) =
    subst
    (λ (x : ℕ). get_or σ x (pos 0)
    ≡ value_in cells x (placed cells (upward (suc s) (length vs)) (moved δ s (k / span cells (upward (suc s) (length vs)))) (k % span cells (upward (suc s) (length vs))) x))
    (sym e)
    (first-digit cells s v (binding_count vs) k (get_or σ s (pos 0)) w.0 (bindings-some vs) h b.0
    ∙ ap (value_in cells s)
    (ap (λ (x : ℕ). k / x) (sym (span-count cells (suc s) vs w.1))
    ∙ sym (placed-other cells (upward (suc s) (length vs)) _ _ s (λ m. let l = (among-upward (suc s) (length vs) s m).0 in omega arith) ∙ moved_here δ s _)))
  where
    later : (s : ℕ) → suc s ≤ s → ⊥
    later s q = omega arith
values-placed cells s (v ∷ vs) k δ σ w h b t (inr m) =
    let e : span cells (upward (suc s) (length vs)) ≡ binding_count vs = span-count cells (suc s) vs w.1 in
    values-placed cells (suc s) vs (k % span cells (upward (suc s) (length vs))) (moved δ s (k / span cells (upward (suc s) (length vs)))) σ w.1
    (subst (λ (x : ℕ). k % x < binding_count vs) (sym e) (mod-lt k (bindings-some vs)))
    (subst (Holding σ (suc s)) (sym (ap (λ (x : ℕ). binding_at vs (k % x)) e ∙ again_rest vs k)) b.1)
    t m

-- ---- the arrays

-- all slots but those of the group have the values that they had
pub bound-shows : (cells : List ℕ) (n k : ℕ) (δ : Point) (before : List (List ℤ)) (σ : List ℤ) → n ≤ 3 → Grouped cells 16 n → k < span cells (upward 16 n)
    → HoldsBinding cells 16 n k σ → Others (pos 0) (get_or before 0 []) 16 n σ → Shows cells δ before → Shows cells (placed cells (upward 16 n) δ k) (set before 0 σ)
bound-shows cells n k δ before σ few g low holds others w =
    record {
      tame = tame-placed cells (upward 16 n) δ k w.tame (upward-counts cells 16 n g) low;
      two = length-set before 0 σ ∙ w.two;
      before_long = ap length here ∙ others.same_length ∙ w.before_long;
      after_long = ap length there ∙ w.after_long;
      before = λ s h. ap (λ (l : List ℤ). get_or l s (pos 0)) here ∙ value s h;
      after = λ t h. ap (λ (l : List ℤ). get_or l t (pos 0)) there ∙ w.after t h ∙ ap (value_in cells (primed_slot t)) (sym (placed-other cells (upward 16 n) δ k (primed_slot t) (beyond t h)));
    }
  where
    here : get_or (set before 0 σ) 0 [] ≡ σ
    here = get_or-set_same before 0 σ [] (omega (arith, w.two))

    there : get_or (set before 0 σ) 1 [] ≡ get_or before 1 []
    there = get_or-set_other before 0 1 σ [] (omega arith)

    beyond : (t : ℕ) → t < 16 → Among (primed_slot t) (upward 16 n) → ⊥
    beyond t h m = let a = among-upward 16 n (primed_slot t) m in let b = primed-high t in omega arith

    bound : (vs : List Variable) → CellsOf cells 16 vs → length vs ≡ n → (s : ℕ) → Among s (upward 16 n) → get_or σ s (pos 0) ≡ value_in cells s (placed cells (upward 16 n) δ k s)
    bound vs c e s m =
        let l : k < binding_count vs = subst (λ (x : ℕ). k < x) (span-count cells 16 vs c) (subst (λ (x : ℕ). k < span cells (upward 16 x)) (sym e) low) in
        subst (λ (x : ℕ). Among s (upward 16 x) → get_or σ s (pos 0) ≡ value_in cells s (placed cells (upward 16 x) δ k s)) e
        (values-placed cells 16 vs k δ σ c l (subst (Holding σ 16) (bindings-at vs k [] l) (holds vs c e)) s) m

    outside : (s : ℕ) → s < 38 → (Among s (upward 16 n) → ⊥) → get_or σ s (pos 0) ≡ get_or (get_or before 0 []) s (pos 0)
        → get_or σ s (pos 0) ≡ value_in cells s (placed cells (upward 16 n) δ k s)
    outside s h q e = e ∙ w.before s h ∙ ap (value_in cells s) (sym (placed-other cells (upward 16 n) δ k s q))

    value : (s : ℕ) → s < 38 → get_or σ s (pos 0) ≡ value_in cells s (placed cells (upward 16 n) δ k s)
    value s h =
        elim (dec_lt s 16) [
          | yes l ↦ outside s h (λ m. (let a = among-upward 16 n s m in omega arith)) (others.below s l)
          | no l ↦ elim (dec_lt s (16 + n)) [
            | yes m ↦ bound g.group g.each g.long s (upward-among 16 n s (omega arith) m)
            | no m ↦ outside s h (λ a. (let b = among-upward 16 n s a in omega arith)) (others.above s (omega arith))
          ]
        ]
