-- Nodes of predicates, by their shapes: where the parts are free of a slot, so is the node. Assumes nothing.
use mathlib.Core.Path.{◌≡◌, sym, subst}
use mathlib.Core.Bool.{Bool, false}
use mathlib.Core.List.{List}
use Prim.Native.Nat.{ℕ, zero, suc, ◌-◌, ◌<◌}
use lib.Dec.{eqb}
use Rattle.evaluator.specs.EvaluationEvaluationByNumber.{Values, shape_at, end_at, first_at, second_at, TermIs, TruthIs, TruthNode, AskedNode}
use Rattle.mentions.specs.MentionPromises.{Agree, Frames, TermFree, TruthFree, AskedFree, Earlier}
use Rattle.mentions.proofs.FreeNodes.{frames-bound, bound-own, part-frame}

abbrev TruthFrames : List ℕ → (e s : ℕ) → Type 0
TruthFrames t e s = (f : ℕ) → Frames (λ ρ b. TruthNode (λ j σ x. TermIs f t j σ x) (λ j σ c. TruthIs f t j σ c) t e ρ b) s

truth-frame : (t : List ℕ) (e s : ℕ) → TruthFrames t e s → (f : ℕ) → Frames (λ ρ b. TruthIs f t e ρ b) s
unfolding TruthIs
truth-frame t e s h zero ρ τ a b i = absurd i
truth-frame t e s h (suc f) ρ τ a b i = (i.0, h f ρ τ a b i.1)

truth-part-frame : {t : List ℕ} {e p r s : ℕ} {ρ τ : Values} (f : ℕ) (b : Bool) → Earlier e p r → TruthFree t r s → Agree s ρ τ → p < e → TruthIs f t p ρ b → TruthIs f t p τ b
truth-part-frame {t} {ρ = ρ} {τ = τ} f b q h a l w =
    subst (λ (j : ℕ). TruthIs f t j τ b) (q.is l) (h.frame f ρ τ a b (subst (λ (j : ℕ). TruthIs f t j ρ b) (sym (q.is l)) w))

module _ {t : List ℕ} {e s : ℕ} where
  truth-free : TruthFrames t e s → TruthFree t e s
  truth-free h = record { frame = truth-frame t e s h }

  pub told_free : shape_at t e ≡ 16 → TruthFree t e s
  unfolding TruthNode
  told_free k = truth-free (λ f ρ τ a b. rw (TruthNode, k) (λ n. n))

  pub not_free : shape_at t e ≡ 17 → TruthFree t (e - 4) s → TruthFree t e s
  unfolding TruthNode
  not_free k p = truth-free (λ f ρ τ a b. rw (TruthNode, k) (λ n. (n.0, p.frame f ρ τ a n.0 n.1, n.2)))

  pub connective-free : {l : ℕ} → shape_at t e ≡ 18 → Earlier e (end_at t e) l → TruthFree t l s → TruthFree t (e - 4) s → TruthFree t e s
  unfolding TruthNode
  connective-free k q l r =
      truth-free (λ f ρ τ a b. rw (TruthNode, k)
      (λ n. record {
        left = n.left;
        right = n.right;
        before = n.before;
        left_part = truth-part-frame f n.left q l a n.before n.left_part;
        right_part = r.frame f ρ τ a n.right n.right_part;
        is = n.is;
      }))

  pub comparison-free : {l : ℕ} → shape_at t e ≡ 19 → Earlier e (end_at t e) l → TermFree t l s → TermFree t (e - 4) s → TruthFree t e s
  unfolding TruthNode
  comparison-free k q l r =
      truth-free (λ f ρ τ a b. rw (TruthNode, k)
      (λ n. record {
        left = n.left;
        right = n.right;
        left_part = part-frame f n.left q l a n.left_part;
        right_part = r.frame f ρ τ a n.right n.right_part;
        is = n.is;
      }))

  pub quantifier-free : shape_at t e ≡ 24 → TruthFree t (e - 8) s → TruthFree t e s
  unfolding TruthNode
  quantifier-free k p =
      truth-free (λ f ρ τ a b. rw (TruthNode, k)
      (λ n. record { test = n.test; room = n.room; bound = frames-bound _ (e - 8) (first_at t e) _ _ n.test s (p.frame f) a n.bound; is = n.is }))

  pub quantifier-own : shape_at t e ≡ 24 → first_at t e ≡ s → TruthFree t e s
  unfolding TruthNode
  quantifier-own k is =
      truth-free (λ f ρ τ a b. rw (TruthNode, k)
      (λ n. record { test = n.test; room = n.room; bound = bound-own _ (e - 8) (first_at t e) _ _ n.test is a n.bound; is = n.is }))

  pub asked-free : eqb (shape_at t e) 16 ≡ false → eqb (shape_at t e) 17 ≡ false → eqb (shape_at t e) 18 ≡ false → eqb (shape_at t e) 19 ≡ false
      → eqb (shape_at t e) 24 ≡ false → AskedFree t e s → TruthFree t e s
  unfolding TruthNode
  asked-free k₁ k₂ k₃ k₄ k₅ p = truth-free (λ f ρ τ a b. rw (TruthNode, k₁, k₂, k₃, k₄, k₅) (p.frame f ρ τ a b))

  -- ---- in and notin

  pub member-free : {l : ℕ} → shape_at t e ≡ 20 → Earlier e (end_at t e) l → TermFree t l s → TermFree t (e - 4) s → AskedFree t e s
  unfolding AskedNode
  member-free k q l r =
      record {
        frame = λ f ρ τ a b. rw (AskedNode, k)
            (λ n. record {
              left = n.left;
              right = n.right;
              left_part = part-frame f n.left q l a n.left_part;
              right_part = r.frame f ρ τ a n.right n.right_part;
              place = n.place;
              set = n.set;
              is = n.is;
            });
      }

  pub range-free : shape_at t e ≡ 21 → TermFree t (e - 8) s → AskedFree t e s
  unfolding AskedNode
  range-free k p =
      record {
        frame = λ f ρ τ a b. rw (AskedNode, k) (λ n. record { left = n.left; room = n.room; part = p.frame f ρ τ a n.left n.part; is = n.is });
      }

  pub related-free : {l m : ℕ} → eqb (shape_at t e) 20 ≡ false → eqb (shape_at t e) 21 ≡ false → Earlier e (end_at t e) l → TermFree t l s → Earlier e (second_at t e) m
      → TermFree t m s → TermFree t (e - 4) s → AskedFree t e s
  unfolding AskedNode
  related-free k₁ k₂ q l o m r =
      record {
        frame = λ f ρ τ a b. rw (AskedNode, k₁, k₂)
            (λ n. record {
              left = n.left;
              middle = n.middle;
              right = n.right;
              left_part = part-frame f n.left q l a n.left_part;
              middle_part = part-frame f n.middle o m a n.middle_part;
              right_part = r.frame f ρ τ a n.right n.right_part;
              takes = n.takes;
              set = n.set;
              is = n.is;
            });
      }
