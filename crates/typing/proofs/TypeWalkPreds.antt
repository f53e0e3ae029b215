-- What a walk that met the last node of a predicate has seen: one law for each shape, from what its callees promise.
use mathlib.Core.Path.{◌≡◌, refl, sym, ap, ap₂, ◌∙◌, subst}
use mathlib.Core.Bool.{Bool}
use mathlib.Core.List.{List, ◌++◌}
use Prim.Native.Nat.{ℕ, suc, ◌+◌, ◌-◌, ◌≤◌}
use native.Mathlib.Omega.{arith}
use lib.ListN.{length, get_or, set}
use Rattle.lexical.specs.Kinds as kind
use Rattle.lexical.specs.Kinds.{code_of}
use Rattle.lexical.specs.Symbols.{no_ending}
use Rattle.form.specs.Tree.{range}
use Rattle.form.specs.Written.{connective_kind, comparison_kind, membership_kind, quantifier_kind}
use Rattle.form.specs.Codes.{number_of_name, term_width, pred_width, domain_width, range_codes, domain_codes, term_codes, pred_codes}
use Rattle.type_rules.specs.declared.Seen.{Seen}
use Rattle.type_rules.specs.declared.Node.{Node}
use Rattle.type_rules.specs.TypesByNumber.{Names, Sizes, entry, is_number, member_fits, related_fits, comparison_fits, key, fault_key, lesser, judged_key}
use Rattle.type_rules.specs.TypesByNumber.{domain_kind, term_kind, term_key, pred_key, ComparisonFits, DomainSeen, TermSeen, PredSeen}
use Rattle.typing.specs.BoundPromise.{BoundSeen}
use Rattle.typing.specs.SidesPromise.{SidesSeen}
use Rattle.typing.specs.declared.types.Sides.{Sides}
use Rattle.typing.proofs.FrontNodes.{EndsIn}
use Rattle.typing.proofs.LastNodes.{last-node, one-part, two-parts, three-parts, middle, pred-from}
use Rattle.typing.proofs.TypeWalkTerms.{seen-judged, seen-bound}

module _ (code : List ℕ) (e : ℕ) (l : e ≤ length code) (T : Names) (z : Sizes) where
  -- true, false
  pub pred_constant : (r : Seen) → r.kind ≡ 0 → fault_key r.fault ≡ 0 → r.start ≡ e - 4 → get_or code (e - 4 + 3) 0 ≡ 1 → PredSeen code e T T z r
  unfolding term_codes term_key
  pred_constant r p f s q = pred-from code e l T z 1 T r (omega arith) refl q (
    (λ i ρ base y. let h = last-node code e l base 1 i (code_of kind.TRUE) 0 y in record { kind_is = p; fault_is = f; start_is = s ∙ sym h.long }),
    (λ i ρ base y. let h = last-node code e l base 1 i (code_of kind.FALSE) 0 y in record { kind_is = p; fault_is = f; start_is = s ∙ sym h.long }),
  )

  pub pred-negation : (U : Names) (v : Seen) → PredSeen code (e - 4) T U z v → get_or code (e - 4 + 3) 0 ≡ 2 → PredSeen code e T U z v
  unfolding term_codes term_key
  pred-negation U v hv q = pred-from code e l T z 2 U v (let f = hv.falls in omega arith) hv.kept q
      (λ p i ρ base y. hv.right p (suc i) ρ base (one-part code e l base (pred_codes p (suc i) ρ) 2 i 0 0 y).before)

-- the laws of trees whose last node has others in front
module _ {code : List ℕ} {e : ℕ} {n : Node} (T : Names) (z : Sizes) where
  pub pred-connected : (U W : Names) (v u r : Seen) → EndsIn code e 3 n → PredSeen code (e - 4) T U z u → PredSeen code u.start U W z v
      → r.kind ≡ 0 → r.start ≡ v.start → fault_key r.fault ≡ lesser (fault_key v.fault) (fault_key u.fault) → PredSeen code e T W z r
  unfolding term_codes term_key
  pred-connected U W v u r en hu hv₀ kq sq fq =
      let hv : PredSeen code u.start T W z v = subst (λ (X : Names). PredSeen code u.start X W z v) hu.kept hv₀ in
      pred-from code e en.fits T z 3 W r (let f = hu.falls in let g = hv.falls in omega arith) hv.kept en.shape
      (λ o p₁ p₂ i ρ base y.
      let j : ℕ = suc (i + pred_width p₁) in
      let h = two-parts code e en.fits base (pred_codes p₁ i ρ) (pred_codes p₂ j ρ) 3 (i + pred_width p₁) (code_of (connective_kind o)) 0 y in
      let s₂ = hu.right p₂ j ρ (base ++ pred_codes p₁ i ρ) h.before in
      let s₁ = hv.right p₁ i ρ base (middle code (e - 4) u.start (base ++ pred_codes p₁ i ρ) (pred_codes p₂ j ρ) h.before hu.falls s₂.start_is) in
      record { kind_is = kq; fault_is = fq ∙ ap₂ lesser s₁.fault_is s₂.fault_is; start_is = sq ∙ s₁.start_is })

  pub pred-compared : (U : Names) (v : Sides) (r : Seen) (b : Bool) → EndsIn code e 4 n
      → SidesSeen code (e - 4) T U z v → ComparisonFits n.a v.first v.second b
      → r.kind ≡ 0 → r.start ≡ v.start → fault_key r.fault ≡ judged_key b (key n.place 10) (fault_key v.fault)
      → PredSeen code e T U z r
  unfolding term_codes term_key
  pred-compared U v r b en hv bq kq sq fq =
      pred-from code e en.fits T z 4 U r (let f = hv.falls in omega arith) hv.kept en.shape
      (λ o t₁ t₂ i ρ base y.
      let j : ℕ = suc (i + term_width t₁) in
      let h = two-parts code e en.fits base (term_codes t₁ i ρ) (term_codes t₂ j ρ) 4 (i + term_width t₁) (code_of (comparison_kind o)) 0 y in
      let s = hv.right t₁ t₂ i j ρ base h.before in
      record {
        kind_is = kq;
        fault_is = fq ∙ seen-judged (bq o (sym (en.node.first_is ∙ h.is_first)) ∙ ap₂ (comparison_fits o) s.first_is s.second_is) (en.node.place_is ∙ h.is_place) s.fault_is;
        start_is = sq ∙ s.start_is;
      })

  -- t in u, t in a..b, t |-> u in v
  pub pred-member : (U : Names) (v : Sides) (r : Seen) (b : Bool) → EndsIn code e 5 n
      → SidesSeen code (e - 4) T U z v → b ≡ member_fits v.first v.second
      → r.kind ≡ 0 → r.start ≡ v.start → fault_key r.fault ≡ judged_key b (key n.place 10) (fault_key v.fault)
      → PredSeen code e T U z r
  unfolding term_codes term_key
  pred-member U v r b en hv bq kq sq fq =
      pred-from code e en.fits T z 5 U r (let f = hv.falls in omega arith) hv.kept en.shape
      (λ o t₁ t₂ i ρ base y.
      let j : ℕ = suc (i + term_width t₁) in
      let h = two-parts code e en.fits base (term_codes t₁ i ρ) (term_codes t₂ j ρ) 5 (i + term_width t₁) (code_of (membership_kind o)) 0 y in
      let s = hv.right t₁ t₂ i j ρ base h.before in
      record {
        kind_is = kq;
        fault_is = fq ∙ seen-judged (bq ∙ ap₂ member_fits s.first_is s.second_is) (en.node.place_is ∙ h.is_place) s.fault_is;
        start_is = sq ∙ s.start_is;
      })

  pub pred-within : (W : Names) (v d r : Seen) (m : ℕ) → EndsIn code e 6 n
      → DomainSeen code (e - 4) T d → TermSeen code d.start T W z v → m ≡ lesser (fault_key v.fault) (fault_key d.fault)
      → r.kind ≡ 0 → r.start ≡ v.start → fault_key r.fault ≡ judged_key (is_number v.kind) (key n.place 10) m
      → PredSeen code e T W z r
  unfolding term_codes term_key
  pred-within W v d r m en hd hv mq kq sq fq =
      pred-from code e en.fits T z 6 W r (let f = hd.falls in let g = hv.falls in omega arith) hv.kept en.shape
      (λ o t c i ρ base y.
      let j : ℕ = suc (i + term_width t) in
      let h = two-parts code e en.fits base (term_codes t i ρ) (range_codes c j) 6 (i + term_width t) (code_of (membership_kind o)) 0 y in
      let s₂ = hd.right (range c) j ρ (base ++ term_codes t i ρ) h.before in
      let s₁ = hv.right t i ρ base (middle code (e - 4) d.start (base ++ term_codes t i ρ) (range_codes c j) h.before hd.falls s₂.start_is) in
      record {
        kind_is = kq;
        fault_is = fq ∙ seen-judged (ap (λ (x : ℕ). is_number x) s₁.kind_is) (en.node.place_is ∙ h.is_place) (mq ∙ ap₂ lesser s₁.fault_is s₂.fault_is);
        start_is = sq ∙ s₁.start_is;
      })

  pub pred-related : (U W : Names) (t : Sides) (v r : Seen) (b : Bool) (m : ℕ) → EndsIn code e 7 n
      → TermSeen code (e - 4) T U z v → SidesSeen code v.start U W z t
      → b ≡ related_fits t.first t.second v.kind → m ≡ lesser (fault_key t.fault) (fault_key v.fault)
      → r.kind ≡ 0 → r.start ≡ t.start → fault_key r.fault ≡ judged_key b (key n.place 10) m
      → PredSeen code e T W z r
  unfolding term_codes term_key
  pred-related U W t v r b m en hv ht₀ bq mq kq sq fq =
      let ht : SidesSeen code v.start T W z t = subst (λ (Y : Names). SidesSeen code v.start Y W z t) hv.kept ht₀ in
      pred-from code e en.fits T z 7 W r (let f = hv.falls in let g = ht.falls in omega arith) ht.kept en.shape
      (λ c t₁ t₂ t₃ i ρ base y.
      let j : ℕ = suc (i + term_width t₁) in
      let k : ℕ = suc (j + term_width t₂) in
      let h = three-parts code e en.fits base (term_codes t₁ i ρ) (term_codes t₂ j ρ) (term_codes t₃ k ρ) 7 (j + term_width t₂) (code_of (membership_kind c)) 0 y in
      let s₃ = hv.right t₃ k ρ ((base ++ term_codes t₁ i ρ) ++ term_codes t₂ j ρ) h.before in
      let s = ht.right t₁ t₂ i j ρ base (middle code (e - 4) v.start ((base ++ term_codes t₁ i ρ) ++ term_codes t₂ j ρ) (term_codes t₃ k ρ) h.before hv.falls s₃.start_is) in
      record {
        kind_is = kq;
        fault_is = fq ∙ seen-judged (bq ∙ ap₂ (λ (x₁ x₂ : ℕ). related_fits x₁ x₂ v.kind) s.first_is s.second_is ∙ ap (related_fits (term_kind t₁ T ρ) (term_kind t₂ T ρ)) s₃.kind_is)
            (en.node.place_is ∙ h.is_place) (mq ∙ ap₂ lesser s.fault_is s₃.fault_is);
        start_is = sq ∙ s.start_is;
      })

  -- (forall x : T @ p)
  pub pred-quantified : (U : Names) (b r : Seen) → EndsIn code e 8 n
      → BoundSeen code (e - 4) n T U z b → r.kind ≡ 0 → r.start ≡ b.start → fault_key r.fault ≡ fault_key b.fault
      → PredSeen code e T U z r
  unfolding term_codes term_key
  pred-quantified U b r en hb kq sq fq =
      pred-from code e en.fits T z 8 U r (let f = hb.falls in omega arith) hb.kept en.shape
      (λ c y₁ D P i ρ base y.
      let j : ℕ = i + 5 + domain_width D in
      let h = two-parts code e en.fits base (pred_codes P j ρ) (domain_codes D (i + 4) ρ) 8 (suc i) (number_of_name ρ y₁ no_ending) (code_of (quantifier_kind c)) y in
      let sB = hb.right D P (i + 4) j ρ base h.before in
      let xy : n.a ≡ number_of_name ρ y₁ no_ending = en.node.first_is ∙ h.is_first in
      let at : n.place ≡ suc i = en.node.place_is ∙ h.is_place in
      let behind : n.place + 1 ≡ i + 2 = omega arith in
      record {
        kind_is = kq;
        fault_is = fq ∙ sB.fault_is ∙ seen-bound n.place behind (ap (entry T) xy) refl (ap (λ (x : ℕ). pred_key P (set T x (domain_kind D T ρ)) ρ z j) xy);
        start_is = sq ∙ sB.start_is;
      })
