-- Nodes of terms and of the items of braces, by their shapes: where the parts are free of a slot, so is the node. Assumes nothing.
use mathlib.Core.Path.{◌≡◌, sym, ap, subst, ◌∙◌}
use mathlib.Core.Bool.{Bool, true, false, not, ◌&&◌, cond, false≢true}
use mathlib.Core.Logic.{inl, inr}
use mathlib.Core.List.{List}
use Prim.Native.Nat.{ℕ, zero, suc, ◌-◌, ◌<◌, ◌≤◌}
use native.Mathlib.Omega.{arith}
use native.Mathlib.Decide.{ℕ_discrete}
use lib.Dec.{eqb}
use borrow.Author.Tests.{eq-eqb}
use lib.ListN.{get_or, length, set, length-set}
use lib.Seq.{get_or-set_same, get_or-set_other, ext_get_or}
use lib.IntN.{ℤ, pos}
use Rattle.evaluator.specs.EvaluationEvaluationByNumber.{Values, Truths, shape_at, end_at, first_at, second_at, TermIs, ItemsIs, TruthIs}
use Rattle.std.proofs.lemmas.Bool.{cases_lt}
use Rattle.std.specs.Ordering.{is_le, is_lt, nat_cmp}
use Rattle.lexical.proofs.RangeTests.{ranged, inside_range}
use Rattle.evaluator.specs.EvaluationEvaluationByNumber.{Inside, Bound, TermNode, ItemsNode}
use Rattle.mentions.specs.MentionPromises.{Agree, Frames, TermFree, ItemsFree, TruthFree, Earlier, TermSays}

-- what the `contains` of a range with its end answers: yes says that a node can end here
pub between : (x low high : ℕ) (past : Bool) → low ≡ 4 → high ≡ 16384 → past ≡ false
    → is_le (nat_cmp low x) && cond past (is_lt (nat_cmp x high)) (is_le (nat_cmp x high)) ≡ true → Inside x
between x low high past a b f e = let w = inside_range {x = x} (sym (ranged x a b f) ∙ e) in record { some = omega (arith, w.0); within = omega (arith, w.1) }

-- ---- values that are the same but in one slot stay so where both get a value

pub agree-set : {s : ℕ} {ρ τ : Values} → Agree s ρ τ → (i : ℕ) (v : ℤ) → i < 64 → Agree s (set ρ i v) (set τ i v)
agree-set {s} {ρ} {τ} a i v l =
    let long : length ρ ≡ 64 = a.long in
    let also : length τ ≡ 64 = a.other_long in
    record {
      long = length-set ρ i v ∙ long;
      other_long = length-set τ i v ∙ also;
      same = λ k n. elim (ℕ_discrete k i) [
        | yes e ↦ subst (λ (j : ℕ). get_or (set ρ i v) j (pos 0) ≡ get_or (set τ i v) j (pos 0)) (sym e)
            (get_or-set_same ρ i v (pos 0) (omega arith) ∙ sym (get_or-set_same τ i v (pos 0) (omega arith)))
        | no e ↦ get_or-set_other ρ i k v (pos 0) e ∙ a.same k n ∙ sym (get_or-set_other τ i k v (pos 0) e)
      ];
    }

pub frames-bound : (P : Truths) (end i : ℕ) (low : ℤ) (n : ℕ) (g : ℕ → Bool) (s : ℕ) {ρ τ : Values} → Frames (P end) s → Agree s ρ τ → Bound P end i low n ρ g
    → Bound P end i low n τ g
frames-bound P end i low n g s p a b =
    record { free = b.free; each = λ k l. p _ _ (agree-set a i _ b.free) (g k) (b.each k l) }

-- a binder writes its own slot: behind that both have the same values
same_set : {i : ℕ} {ρ τ : Values} → Agree i ρ τ → (v : ℤ) → set ρ i v ≡ set τ i v
same_set {i} {ρ} {τ} a v =
    let long : length ρ ≡ 64 = a.long in
    let also : length τ ≡ 64 = a.other_long in
    let wide : length (set ρ i v) ≡ 64 = length-set ρ i v ∙ long in
    ext_get_or (pos 0) (set ρ i v) (set τ i v) (wide ∙ sym (length-set τ i v ∙ also))
    (λ k l. elim (ℕ_discrete k i) [
      | yes e ↦ subst (λ (j : ℕ). get_or (set ρ i v) j (pos 0) ≡ get_or (set τ i v) j (pos 0)) (sym e)
          (get_or-set_same ρ i v (pos 0) (omega (arith, e, l)) ∙ sym (get_or-set_same τ i v (pos 0) (omega (arith, e, l))))
      | no e ↦ get_or-set_other ρ i k v (pos 0) e ∙ a.same k e ∙ sym (get_or-set_other τ i k v (pos 0) e)
    ])

pub bound-own : (P : Truths) (end i : ℕ) (low : ℤ) (n : ℕ) (g : ℕ → Bool) {s : ℕ} {ρ τ : Values} → i ≡ s → Agree s ρ τ → Bound P end i low n ρ g → Bound P end i low n τ g
bound-own P end i low n g {ρ = ρ} {τ = τ} is a b =
    let own : Agree i ρ τ = subst (λ (j : ℕ). Agree j ρ τ) (sym is) a in
    record { free = b.free; each = λ k l. subst (λ (σ : Values). P end σ (g k)) (same_set own _) (b.each k l) }

-- a part that ends where the node says
pub part-frame : {t : List ℕ} {e p r s : ℕ} {ρ τ : Values} (f : ℕ) (x : ℤ) → Earlier e p r → TermFree t r s → Agree s ρ τ → (p < e) × TermIs f t p ρ x → (p < e) × TermIs f t p τ x
part-frame {t} {ρ = ρ} {τ = τ} f x q h a w =
    (w.0, subst (λ (j : ℕ). TermIs f t j τ x) (q.is w.0) (h.frame f ρ τ a x (subst (λ (j : ℕ). TermIs f t j ρ x) (sym (q.is w.0)) w.1)))

-- ---- a node's frame from its parts'

abbrev TermFrames : List ℕ → (e s : ℕ) → Type 0
TermFrames t e s = (f : ℕ) → Frames (λ ρ v. TermNode (λ j σ x. TermIs f t j σ x) (λ j σ b. TruthIs f t j σ b) (λ j σ x. ItemsIs f t j σ x) t e ρ v) s

abbrev ItemsFrames : List ℕ → (e s : ℕ) → Type 0
ItemsFrames t e s = (f : ℕ) → Frames (λ ρ v. ItemsNode (λ j σ x. TermIs f t j σ x) (λ j σ x. ItemsIs f t j σ x) t e ρ v) s

term-frame : (t : List ℕ) (e s : ℕ) → TermFrames t e s → (f : ℕ) → Frames (λ ρ v. TermIs f t e ρ v) s
unfolding TermIs
term-frame t e s h zero ρ τ a v i = absurd i
term-frame t e s h (suc f) ρ τ a v i = (i.0, i.1, h f ρ τ a v i.2)

items-frame : (t : List ℕ) (e s : ℕ) → ItemsFrames t e s → (f : ℕ) → Frames (λ ρ v. ItemsIs f t e ρ v) s
unfolding ItemsIs
items-frame t e s h zero ρ τ a v i = absurd i
items-frame t e s h (suc f) ρ τ a v i = (i.0, i.1, h f ρ τ a v i.2)

module _ {t : List ℕ} {e s : ℕ} where
  term-free : TermFrames t e s → TermFree t e s
  term-free h = record { frame = term-frame t e s h }

  pub number-free : shape_at t e ≡ 1 → TermFree t e s
  unfolding TermNode
  number-free k = term-free (λ f ρ τ a v. rw (TermNode, k) (λ n. n))

  pub slot-free : shape_at t e ≡ 2 → (first_at t e ≡ s → ⊥) → TermFree t e s
  unfolding TermNode
  slot-free k d = term-free (λ f ρ τ a v. rw (TermNode, k) (λ n. (n.0, n.1 ∙ a.same (first_at t e) d)))

  pub slot-says : {i n : ℕ} → shape_at t e ≡ 2 → i ≡ e - 3 → n ≡ get_or t i 0 → TermSays t e s (not (eqb n s))
  slot-says {i} {n} k at is =
      record { means = λ y. slot-free k (λ z. absurd (false≢true (sym (ap not (eq-eqb n s (is ∙ ap (λ (j : ℕ). get_or t j 0) at ∙ z))) ∙ y))) }

  prefix-free : shape_at t e ≡ 3 → TermFree t (e - 4) s → TermFree t e s
  unfolding TermNode
  prefix-free k p =
      term-free (λ f ρ τ a v. rw (TermNode, k)
      (λ n. record { operand = n.operand; part = p.frame f ρ τ a n.operand n.part; takes = n.takes; is = n.is }))

  division-free : shape_at t e ≡ 4 → TermFree t (e - 4) s → TermFree t e s
  unfolding TermNode
  division-free k p =
      term-free (λ f ρ τ a v. rw (TermNode, k)
      (λ n. record { operand = n.operand; part = p.frame f ρ τ a n.operand n.part; takes = n.takes; is = n.is }))

  -- a prefix, or a division
  pub alone-free : 3 ≤ shape_at t e → shape_at t e ≤ 4 → TermFree t (e - 4) s → TermFree t e s
  alone-free h k p = elim (cases_lt (shape_at t e) 4) [ inl l ↦ prefix-free (omega arith) p | inr l ↦ division-free (omega arith) p ]

  pub operator-free : {l : ℕ} → shape_at t e ≡ 5 → Earlier e (end_at t e) l → TermFree t l s → TermFree t (e - 4) s → TermFree t e s
  unfolding TermNode
  operator-free k q l r =
      term-free (λ f ρ τ a v. rw (TermNode, k)
      (λ n. record {
        left = n.left;
        right = n.right;
        left_part = part-frame f n.left q l a n.left_part;
        right_part = r.frame f ρ τ a n.right n.right_part;
        takes = n.takes;
        is = n.is;
      }))

  pub such-free : shape_at t e ≡ 6 → TruthFree t (e - 8) s → TermFree t e s
  unfolding TermNode
  such-free k p =
      term-free (λ f ρ τ a v. rw (TermNode, k)
      (λ n. record { test = n.test; room = n.room; few = n.few; bound = frames-bound _ (e - 8) (first_at t e) _ _ n.test s (p.frame f) a n.bound; is = n.is }))

  pub such-own : shape_at t e ≡ 6 → first_at t e ≡ s → TermFree t e s
  unfolding TermNode
  such-own k is =
      term-free (λ f ρ τ a v. rw (TermNode, k)
      (λ n. record { test = n.test; room = n.room; few = n.few; bound = bound-own _ (e - 8) (first_at t e) _ _ n.test is a n.bound; is = n.is }))

  pub brace-free : eqb (shape_at t e) 1 ≡ false → eqb (shape_at t e) 2 ≡ false → eqb (shape_at t e) 3 ≡ false → eqb (shape_at t e) 4 ≡ false → eqb (shape_at t e) 5 ≡ false
      → eqb (shape_at t e) 6 ≡ false → ItemsFree t (e - 4) s → TermFree t e s
  unfolding TermNode
  brace-free k₁ k₂ k₃ k₄ k₅ k₆ p = term-free (λ f ρ τ a v. rw (TermNode, k₁, k₂, k₃, k₄, k₅, k₆) (p.frame f ρ τ a v))

  -- ---- items

  items-free : ItemsFrames t e s → ItemsFree t e s
  items-free h = record { frame = items-frame t e s h }

  pub last-item-free : shape_at t e ≡ 9 → TermFree t (e - 4) s → ItemsFree t e s
  unfolding ItemsNode
  last-item-free k p =
      items-free (λ f ρ τ a v. rw (ItemsNode, k)
      (λ n. record { item = n.item; part = p.frame f ρ τ a n.item n.part; takes = n.takes; is = n.is }))

  pub more-items-free : {l : ℕ} → shape_at t e ≡ 10 → Earlier e (end_at t e) l → TermFree t l s → ItemsFree t (e - 4) s → ItemsFree t e s
  unfolding ItemsNode
  more-items-free k q l r =
      items-free (λ f ρ τ a v. rw (ItemsNode, k)
      (λ n. record {
        item = n.item;
        others = n.others;
        part = part-frame f n.item q l a n.part;
        rest = r.frame f ρ τ a n.others n.rest;
        takes = n.takes;
        is = n.is;
      }))

  pub last-pair-free : {l : ℕ} → shape_at t e ≡ 11 → Earlier e (end_at t e) l → TermFree t l s → TermFree t (e - 4) s → ItemsFree t e s
  unfolding ItemsNode
  last-pair-free k q l r =
      items-free (λ f ρ τ a v. rw (ItemsNode, k)
      (λ n. record {
        left = n.left;
        right = n.right;
        left_part = part-frame f n.left q l a n.left_part;
        right_part = r.frame f ρ τ a n.right n.right_part;
        takes = n.takes;
        is = n.is;
      }))

  pub more-pairs-free : {l m : ℕ} → eqb (shape_at t e) 9 ≡ false → eqb (shape_at t e) 10 ≡ false → eqb (shape_at t e) 11 ≡ false → Earlier e (end_at t e) l → TermFree t l s
      → Earlier e (second_at t e) m → TermFree t m s → ItemsFree t (e - 4) s → ItemsFree t e s
  unfolding ItemsNode
  more-pairs-free k₁ k₂ k₃ q l o m r =
      items-free (λ f ρ τ a v. rw (ItemsNode, k₁, k₂, k₃)
      (λ n. record {
        left = n.left;
        right = n.right;
        others = n.others;
        left_part = part-frame f n.left q l a n.left_part;
        right_part = part-frame f n.right o m a n.right_part;
        rest = r.frame f ρ τ a n.others n.rest;
        takes = n.takes;
        is = n.is;
      }))
