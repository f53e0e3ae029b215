-- What a walk that met the last node of a predicate has seen: one law for each shape, from what its callees promise.
use mathlib.Core.Path.{◌≡◌, refl, sym, ap, ap₂, ◌∙◌, subst}
use mathlib.Core.List.{List, ◌++◌}
use Prim.Native.Nat.{ℕ, suc, ◌+◌, ◌-◌, ◌≤◌}
use native.Mathlib.Omega.{arith}
use lib.ListN.{length, get_or, set}
use Rattle.lexical.specs.Kinds as kind
use Rattle.lexical.specs.Kinds.{code_of}
use Rattle.lexical.specs.Symbols.{no_ending}
use Rattle.form.specs.Tree.{range}
use Rattle.form.specs.Written.{connective_kind, comparison_kind, membership_kind, quantifier_kind}
use Rattle.form.specs.Codes.{number_of_name, term_width, pred_width, domain_width, range_codes, domain_codes, term_codes, pred_codes}
use Rattle.type_rules.specs.declared.Node.{Node}
use Rattle.type_rules.specs.TypesByNumber.{fault_key, lesser, NodeAt}
use Rattle.typing.proofs.FrontNodes.{EndsIn}
use Rattle.typing.proofs.LastNodes.{last-node, one-part, two-parts, three-parts, middle}
use Rattle.term_sizes.specs.declared.Sized.{Sized}
use Rattle.term_sizes.specs.declared.sizes.Over.{Over}
use Rattle.term_sizes.specs.SizesByNumber.{Bounds, domain_bound, term_over, pred_over}
use Rattle.term_sizes.specs.SizeWalkPromises.{DomainSized, TermSized, PairSized, PredSized, BoundSized}
use Rattle.term_sizes.proofs.SizeWalkNumbers.{either}
use Rattle.term_sizes.proofs.SizeWalk.{pred-from}

module _ (code : List ℕ) (e : ℕ) (l : e ≤ length code) (S : Bounds) where
  -- true, false
  pub pred_constant : (r : Sized) → get_or code (e - 4 + 3) 0 ≡ 1 → (r.bound ≡ 0) × (fault_key r.fault ≡ 0) × (r.start ≡ e - 4) → PredSized code e S S r
  unfolding term_codes term_over
  pred_constant r q s = pred-from code e l S 1 S r (let f = s.2 in omega arith) refl q (
    (λ i ρ base y. let h = last-node code e l base 1 i (code_of kind.TRUE) 0 y in record { fault_is = s.1; bound_is = λ z. s.0; start_is = s.2 ∙ sym h.long }),
    (λ i ρ base y. let h = last-node code e l base 1 i (code_of kind.FALSE) 0 y in record { fault_is = s.1; bound_is = λ z. s.0; start_is = s.2 ∙ sym h.long }),
  )

  pub pred-negation : (U : Bounds) (v : Sized) → PredSized code (e - 4) S U v → get_or code (e - 4 + 3) 0 ≡ 2 → PredSized code e S U v
  unfolding term_codes term_over
  pred-negation U v hv q = pred-from code e l S 2 U v (let f = hv.falls in omega arith) hv.kept q
      (λ p i ρ base y. hv.right p (suc i) ρ base (one-part code e l base (pred_codes p (suc i) ρ) 2 i 0 0 y).before)

  -- t = u, t in u, t in a..b, t |-> u in v
  pub pred-pair : (U : Bounds) (v : Sized) → PairSized code (e - 4) S U v → 4 ≤ get_or code (e - 4 + 3) 0 → get_or code (e - 4 + 3) 0 ≤ 5 → PredSized code e S U v
  unfolding term_codes term_over
  pred-pair U v hv lo hi = either lo hi
      (λ q. pred-from code e l S 4 U v (let f = hv.falls in omega arith) hv.kept q
      (λ o t₁ t₂ i ρ base y.
      let j : ℕ = suc (i + term_width t₁) in
      hv.right t₁ t₂ i j ρ base (two-parts code e l base (term_codes t₁ i ρ) (term_codes t₂ j ρ) 4 (i + term_width t₁) (code_of (comparison_kind o)) 0 y).before))
      (λ q. pred-from code e l S 5 U v (let f = hv.falls in omega arith) hv.kept q
      (λ o t₁ t₂ i ρ base y.
      let j : ℕ = suc (i + term_width t₁) in
      hv.right t₁ t₂ i j ρ base (two-parts code e l base (term_codes t₁ i ρ) (term_codes t₂ j ρ) 5 (i + term_width t₁) (code_of (membership_kind o)) 0 y).before))

  -- (forall x : T @ p): the body is seen with the size of what x is bound over
  pub pred-quantified : (U : Bounds) (n : Node) (r : Sized) → NodeAt code e n → get_or code (e - 4 + 3) 0 ≡ 8 → BoundSized code (e - 4) n S U r → PredSized code e S U r
  unfolding term_codes term_over
  pred-quantified U n r hn q hb =
      pred-from code e l S 8 U r (let f = hb.falls in omega arith) hb.kept q
      (λ c y₁ D P i ρ base y.
      let j : ℕ = i + 5 + domain_width D in
      let h = two-parts code e l base (pred_codes P j ρ) (domain_codes D (i + 4) ρ) 8 (suc i) (number_of_name ρ y₁ no_ending) (code_of (quantifier_kind c)) y in
      let sB = hb.right D P (i + 4) j ρ base h.before in
      let over = ap (λ (x : ℕ). pred_over P (set S x (domain_bound D)) ρ j) (hn.first_is ∙ h.is_first) in
      record { fault_is = sB.fault_is ∙ over; bound_is = λ z. sB.bound_is (over ∙ z); start_is = sB.start_is })

-- the laws of trees whose last node has others in front
module _ {code : List ℕ} {e : ℕ} {n : Node} (S : Bounds) where
  pub pred-connected : (U W : Bounds) (v u r : Sized) → EndsIn code e 3 n → PredSized code (e - 4) S U u → PredSized code u.start U W v
      → r.bound ≡ 0 → fault_key r.fault ≡ lesser (fault_key v.fault) (fault_key u.fault) → r.start ≡ v.start → PredSized code e S W r
  unfolding term_codes term_over
  pred-connected U W v u r en hu hv₀ bq fq sq =
      let hv : PredSized code u.start S W v = subst (λ (X : Bounds). PredSized code u.start X W v) hu.kept hv₀ in
      pred-from code e en.fits S 3 W r (let f = hu.falls in let g = hv.falls in omega arith) hv.kept en.shape
      (λ o p₁ p₂ i ρ base y.
      let j : ℕ = suc (i + pred_width p₁) in
      let h = two-parts code e en.fits base (pred_codes p₁ i ρ) (pred_codes p₂ j ρ) 3 (i + pred_width p₁) (code_of (connective_kind o)) 0 y in
      let s₂ = hu.right p₂ j ρ (base ++ pred_codes p₁ i ρ) h.before in
      let s₁ = hv.right p₁ i ρ base (middle code (e - 4) u.start (base ++ pred_codes p₁ i ρ) (pred_codes p₂ j ρ) h.before hu.falls s₂.start_is) in
      record { fault_is = fq ∙ ap₂ lesser s₁.fault_is s₂.fault_is; bound_is = λ z. bq; start_is = sq ∙ s₁.start_is })

  pub pred-within : (W : Bounds) (d : Over) (v r : Sized) → EndsIn code e 6 n → DomainSized code (e - 4) d → TermSized code d.start S W v
      → r.bound ≡ 0 → fault_key r.fault ≡ fault_key v.fault → r.start ≡ v.start → PredSized code e S W r
  unfolding term_codes term_over
  pred-within W d v r en hd hv bq fq sq =
      pred-from code e en.fits S 6 W r (let f = hd.falls in let g = hv.falls in omega arith) hv.kept en.shape
      (λ o t c i ρ base y.
      let j : ℕ = suc (i + term_width t) in
      let h = two-parts code e en.fits base (term_codes t i ρ) (range_codes c j) 6 (i + term_width t) (code_of (membership_kind o)) 0 y in
      let s₂ = hd.right (range c) j ρ (base ++ term_codes t i ρ) h.before in
      let s₁ = hv.right t i ρ base (middle code (e - 4) d.start (base ++ term_codes t i ρ) (range_codes c j) h.before hd.falls s₂.1) in
      record { fault_is = fq ∙ s₁.fault_is; bound_is = λ z. bq; start_is = sq ∙ s₁.start_is })

  pub pred-related : (U W : Bounds) (t v r : Sized) → EndsIn code e 7 n → TermSized code (e - 4) S U v → PairSized code v.start U W t
      → r.bound ≡ 0 → fault_key r.fault ≡ lesser (fault_key t.fault) (fault_key v.fault) → r.start ≡ t.start → PredSized code e S W r
  unfolding term_codes term_over
  pred-related U W t v r en hv ht₀ bq fq sq =
      let ht : PairSized code v.start S W t = subst (λ (X : Bounds). PairSized code v.start X W t) hv.kept ht₀ in
      pred-from code e en.fits S 7 W r (let f = hv.falls in let g = ht.falls in omega arith) ht.kept en.shape
      (λ c t₁ t₂ t₃ i ρ base y.
      let j : ℕ = suc (i + term_width t₁) in
      let k : ℕ = suc (j + term_width t₂) in
      let h = three-parts code e en.fits base (term_codes t₁ i ρ) (term_codes t₂ j ρ) (term_codes t₃ k ρ) 7 (j + term_width t₂) (code_of (membership_kind c)) 0 y in
      let s₂ = hv.right t₃ k ρ ((base ++ term_codes t₁ i ρ) ++ term_codes t₂ j ρ) h.before in
      let s₁ = ht.right t₁ t₂ i j ρ base (middle code (e - 4) v.start ((base ++ term_codes t₁ i ρ) ++ term_codes t₂ j ρ) (term_codes t₃ k ρ) h.before hv.falls s₂.start_is) in
      record { fault_is = fq ∙ ap₂ lesser s₁.fault_is s₂.fault_is; bound_is = λ z. bq; start_is = sq ∙ s₁.start_is })
