-- What a mark that fits its place says, and the mark after a look. Assumes nothing.
use mathlib.Core.Path.{◌≡◌, refl, sym, ap, ◌∙◌}
use mathlib.Core.Bool.{Bool, true, false, cond, not, or-false, true≢false}
use mathlib.Core.Logic.{◌⊎◌, inl, inr}
use Prim.Native.Nat.{ℕ, ◌+◌, ◌<◌, ◌≤◌}
use native.Mathlib.Omega.{arith}
use lib.Dec.{eqb, ltb, leb}
use borrow.Author.Tests.{eqb-true, ltb-true, leb-true}
use Rattle.lexical.proofs.BooleanTests.{both-true}
use Rattle.obligations.specs.Subjects.{Subject}
use Rattle.obligations.specs.Order.{total}
use Rattle.obligations.specs.Calls.{unfinished, accepted, verdict_at}
use Rattle.held_checks.specs.HeldBytes.{mark_of, fitting}
use Rattle.held_checks.proofs.HeldBytesLaws.{no_mark}
use Rattle.held_checks.specs.StepPromises.{mark_after, mark_byte}
use denote.Enum.Bare.{sameb, tag_one, differs_true, differs_false}
use denote.Enum.Declared.{tag_of}
use Rattle.held_checks.specs.contracts.Mark as contract
use Rattle.held_checks.specs.declared.Mark.{Mark}
use Rattle.held_checks.specs.declared.Mark.TheVariants.{Unfinished, Accepted, Refuted}

module _ (all place mark : ℕ) (f : fitting all place mark ≡ true) where
  -- "unfinished only before the last place"
  pub fits-unfinished : mark ≡ 1 → place < all
  unfolding fitting
  fits-unfinished e = ltb-true place all (sym (or-false (ltb place all)) ∙ ap (fitting all place) (sym e) ∙ f)

  -- "refuted anywhere but at 0"
  pub fits-refuted : mark ≡ 3 → (0 < place) × (place ≤ all)
  unfolding fitting
  fits-refuted e = let s = both-true (ltb 0 place) (leb place all) (ap (fitting all place) (sym e) ∙ f) in (ltb-true 0 place s.0, leb-true place all s.1)

  -- there is no other mark
  pub one-of : (mark ≡ 1) ⊎ ((mark ≡ 2) ⊎ (mark ≡ 3))
  one-of = on (eqb mark 1) (eqb mark 2) (eqb mark 3) refl refl refl
    where
      on : (x y z : Bool) → eqb mark 1 ≡ x → eqb mark 2 ≡ y → eqb mark 3 ≡ z → (mark ≡ 1) ⊎ ((mark ≡ 2) ⊎ (mark ≡ 3))
      on true y z p q r = inl (eqb-true mark 1 p)
      on false true z p q r = inr (inl (eqb-true mark 2 q))
      on false false true p q r = inr (inr (eqb-true mark 3 r))
      on false false false p q r = absurd (true≢false (sym f ∙ no_mark all place mark p q r))

-- a mark compared with another
tagged : (k : Mark) → mark_byte k ≡ tag_of contract.the_type k + 1
tagged Unfinished = refl
tagged Accepted = refl
tagged Refuted = refl

module _ (k m : Mark) {r : Bool} (e : r ≡ not (sameb contract.the_type k m)) where
  pub is-mark : r ≡ false → mark_byte k ≡ mark_byte m
  is-mark f = ap mark_byte (differs_false contract.the_type tt k m (sym e ∙ f))

  pub other-mark : r ≡ true → mark_byte k ≡ mark_byte m → ⊥
  other-mark f h = differs_true contract.the_type k m (sym e ∙ f) (tag_one contract.the_type tt k m (omega (arith, h, tagged k, tagged m)))

-- the mark after a look is that of its verdict
pub mark-is : (σ : Subject) (p : ℕ) {all : ℕ} → all ≡ total σ → (failed : Bool) → mark_after failed all p ≡ mark_of (verdict_at σ p failed)
unfolding verdict_at
mark-is σ p e true = refl
mark-is σ p e false = ap (λ (n : ℕ). cond (leb n p) 2 1) e ∙ on (leb (total σ) p)
  where
    on : (t : Bool) → cond t 2 1 ≡ mark_of (cond t accepted unfinished)
    on true = refl
    on false = refl
