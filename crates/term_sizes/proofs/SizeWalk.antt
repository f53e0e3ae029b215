-- Nodes read from their end: the trees that can end in a node of a shape, and where no tree ends.
use mathlib.Core.Path.{◌≡◌, refl}
use mathlib.Core.List.{List}
use Prim.Native.Nat.{ℕ, ◌+◌, ◌-◌, ◌≤◌, ◌<◌}
use native.Mathlib.Omega.{arith}
use lib.ListN.{length, get_or}
use Rattle.form.specs.Tree.{Term}
use Rattle.form.specs.Tree.{Pred}
use Rattle.form.specs.Codes.{Numbering}
use Rattle.typing.proofs.LastNodes.{no-term, no-pred, ends_d, ends_t, ends_i, ends_q, ends_p, CaseT, RightT, terms-by, CaseP, RightP, preds-by, shape_is, too_short}
use Rattle.term_sizes.specs.declared.Sized.{Sized}
use Rattle.term_sizes.specs.declared.sizes.Over.{Over}
use Rattle.term_sizes.specs.SizesByNumber.{Bounds, term_bound, term_over, pred_over}
use Rattle.term_sizes.specs.SizeWalkPromises.{Saw, DomainSized, TermSized, ItemsSized, PairsSized, PredSized}

-- what was seen of a tree
abbrev pub SawTerm : Bounds → Sized → Term → ℕ → Numbering → ℕ → Type 0
SawTerm S r t i ρ s = Saw r (term_bound t S ρ) (term_over t S ρ i) s

abbrev pub SawPred : Bounds → Sized → Pred → ℕ → Numbering → ℕ → Type 0
SawPred S r p i ρ s = Saw r 0 (pred_over p S ρ i) s

module _ (code : List ℕ) (e : ℕ) (l : e ≤ length code) (S : Bounds) where
  pub term-from : (k : ℕ) (U : Bounds) (r : Sized) → r.start ≤ e → U ≡ S → get_or code (e - 4 + 3) 0 ≡ k → CaseT k (RightT code e (SawTerm S r)) → TermSized code e S U r
  unfolding term_bound term_over
  term-from k U r f g q h = record { falls = f; kept = g; right = terms-by code e l (SawTerm S r) (λ t i ρ s h. h) k q h }

  pub pred-from : (k : ℕ) (U : Bounds) (r : Sized) → r.start ≤ e → U ≡ S → get_or code (e - 4 + 3) 0 ≡ k → CaseP k (RightP code e (SawPred S r)) → PredSized code e S U r
  unfolding term_over
  pred-from k U r f g q h = record { falls = f; kept = g; right = preds-by code e l (SawPred S r) (λ p i ρ s h. h) k q h }

  -- no nodes of a tree end here
  pub domain-short : (r : Over) → r.start ≡ 0 → e < 4 → DomainSized code e r
  domain-short r s lt = record { falls = omega arith; right = λ d i ρ base y. absurd (too_short code e l base (ends_d d i ρ) lt y) }

  pub term-short : (r : Sized) → r.start ≡ 0 → e < 4 → TermSized code e S S r
  term-short r s lt = record { falls = omega arith; kept = refl; right = λ t i ρ base y. absurd (too_short code e l base (ends_t t i ρ) lt y) }

  pub items-short : (r : Sized) → r.start ≡ 0 → e < 4 → ItemsSized code e S S r
  items-short r s lt = record { falls = omega arith; kept = refl; right = λ t i ρ base y. absurd (too_short code e l base (ends_i t i ρ) lt y) }

  pub pairs-short : (r : Sized) → r.start ≡ 0 → e < 4 → PairsSized code e S S r
  pairs-short r s lt = record { falls = omega arith; kept = refl; right = λ t i ρ base y. absurd (too_short code e l base (ends_q t i ρ) lt y) }

  pub pred-short : (r : Sized) → r.start ≡ 0 → e < 4 → PredSized code e S S r
  pred-short r s lt = record { falls = omega arith; kept = refl; right = λ p i ρ base y. absurd (too_short code e l base (ends_p p i ρ) lt y) }

  -- no tree ends in a node of this shape
  pub term-rest : (r : Sized) → r.start ≡ 0 → (1 ≤ get_or code (e - 4 + 3) 0 → get_or code (e - 4 + 3) 0 ≤ 10 → ⊥) → TermSized code e S S r
  term-rest r s n = record { falls = omega arith; kept = refl; right = λ t i ρ base y. absurd (no-term t _ n (shape_is code e l base (ends_t t i ρ) y)) }

  pub pred-rest : (r : Sized) → r.start ≡ 0 → (1 ≤ get_or code (e - 4 + 3) 0 → get_or code (e - 4 + 3) 0 ≤ 8 → ⊥) → PredSized code e S S r
  pred-rest r s n = record { falls = omega arith; kept = refl; right = λ p i ρ base y. absurd (no-pred p _ n (shape_is code e l base (ends_p p i ρ) y)) }
