-- What the walk made that met the last node of a domain or a predicate: one law for each shape, from what its callees promise and the node that it wrote last.
use mathlib.Core.Path.{◌≡◌, refl, sym, ap, ap₂, ◌∙◌, subst}
use mathlib.Core.List.{List, ◌++◌}
use mathlib.Core.Logic.{◌⊎◌, inl, inr}
use Prim.Native.Nat.{ℕ, suc, ◌+◌, ◌-◌, ◌≤◌}
use native.Mathlib.Omega.{arith}
use lib.ListN.{length, take, get_or, set}
use Rattle.lexical.specs.Kinds as kind
use Rattle.lexical.specs.Kinds.{code_of}
use Rattle.lexical.specs.Symbols.{no_ending}
use Rattle.form.specs.Tree.{Domain, given_set, range, Term}
use Rattle.form.specs.Written.{connective_kind, comparison_kind, membership_kind, quantifier_kind}
use Rattle.form.specs.Codes.{node, Numbering, name_number, number_of_name, end_number, end_width, term_width, pred_width, domain_width, range_codes, domain_codes, term_codes, pred_codes}
use Rattle.type_rules.specs.TypesByNumber.{Names, Sizes, entry, element_of, domain_kind, term_kind}
use Rattle.typing.proofs.LastNodes.{CaseP, last-node, one-part, two-parts, three-parts, middle}
use Rattle.table_nodes.specs.declared.Made.{Made}
use Rattle.table_nodes.specs.TableByNumber.{Places, next_slot, given_size, element_size, range_count, related_shape, domain_table, term_table, pred_table}
use Rattle.table_nodes.specs.TableWalkPromises.{RelatedShape, TruthOf, patch, Makes, DomainMade, TermMade, PredMade}
use Rattle.lowering.proofs.TableParts.{Noded, noded-long, leaf_walked, one-walked, then-walked, leaf-made, one-made, two_made, three_made}
use Rattle.lowering.proofs.TableWalk.{RightP, pred-from, term-again, pred-again}
use Rattle.lowering.proofs.TableWalkTerms.{node-is, bound-walked}

module _ (code : List ℕ) (e s : ℕ) (l : e ≤ length code) (far : 4 ≤ e) (T : Names) (W : Places) (z : Sizes) (out : List ℕ) (lo : length code ≤ length out) where
  room : e ≤ length out
  room = omega arith

  -- a given set's name; a range
  pub domain-given : {m : ℕ} (after : List ℕ) (r : Made) (x v c : ℕ) → m ≡ e - 4 → get_or code (m + 3) 0 ≡ 1 → x ≡ get_or code (m + 1) 0 → v ≡ entry T x → c ≡ given_size z v
      → after ≡ patch m (node 13 0 1000 c) out → r.kind ≡ element_of v → r.start ≡ m → DomainMade code e T z out after r
  unfolding domain_kind domain_table
  domain-given after r x v c at q₀ xq vq cq p kq sq = record { falls = omega arith; long = noded-long e _ out after far room n; right = right }
    where
      n : Noded e (node 13 0 1000 c) out after
      n = record { four = refl; written = p ∙ ap (λ (m : ℕ). patch m (node 13 0 1000 c) out) at }

      q : get_or code (e - 4 + 3) 0 ≡ 1
      q = ap (λ (m : ℕ). get_or code (m + 3) 0) (sym at) ∙ q₀

      over : x ≡ get_or code (e - 4 + 1) 0
      over = xq ∙ ap (λ (m : ℕ). get_or code (m + 1) 0) at

      right : (d : Domain) (i : ℕ) (ρ : Numbering) (base : List ℕ) → take e code ≡ base ++ domain_codes d i ρ → Makes r (domain_kind d T ρ) (length base) e (domain_table d T z ρ) out after
      right (range g) i ρ base y =
          let h = (last-node code e l base 2 (i + end_width g.lower) (end_number g.lower) (end_number g.upper) y).is_shape in let f = q in absurd (omega arith)
      right (given_set g) i ρ base y =
          let h = last-node code e l base 1 i (name_number ρ g) 0 y in
          let vx : v ≡ entry T (name_number ρ g) = vq ∙ ap (entry T) (over ∙ h.is_first) in
          leaf-made e out far room r _ (length base) _ _ after n (node-is 13 refl refl (cq ∙ ap (given_size z) vx)) (kq ∙ ap element_of vx) (sq ∙ at) h.long

  pub domain-range : {m : ℕ} (after : List ℕ) (r : Made) (a b c : ℕ) → m ≡ e - 4 → (get_or code (m + 3) 0 ≡ 1 → ⊥) → a ≡ get_or code (m + 1) 0 → b ≡ get_or code m 0
      → c ≡ range_count a b → after ≡ patch m (node 13 0 a c) out → r.kind ≡ 1 → r.start ≡ m → DomainMade code e T z out after r
  unfolding domain_kind domain_table
  domain-range after r a b c at q₀ aq bq cq p kq sq = record { falls = omega arith; long = noded-long e _ out after far room n; right = right }
    where
      n : Noded e (node 13 0 a c) out after
      n = record { four = refl; written = p ∙ ap (λ (m : ℕ). patch m (node 13 0 a c) out) at }

      q : get_or code (e - 4 + 3) 0 ≡ 1 → ⊥
      q = subst (λ (m : ℕ). get_or code (m + 3) 0 ≡ 1 → ⊥) at q₀

      lower : a ≡ get_or code (e - 4 + 1) 0
      lower = aq ∙ ap (λ (m : ℕ). get_or code (m + 1) 0) at

      upper : b ≡ get_or code (e - 4) 0
      upper = bq ∙ ap (λ (m : ℕ). get_or code m 0) at

      right : (d : Domain) (i : ℕ) (ρ : Numbering) (base : List ℕ) → take e code ≡ base ++ domain_codes d i ρ → Makes r (domain_kind d T ρ) (length base) e (domain_table d T z ρ) out after
      right (given_set g) i ρ base y = absurd (q (last-node code e l base 1 i (name_number ρ g) 0 y).is_shape)
      right (range g) i ρ base y =
          let h = last-node code e l base 2 (i + end_width g.lower) (end_number g.lower) (end_number g.upper) y in
          let first : a ≡ end_number g.lower = lower ∙ h.is_first in
          leaf-made e out far room r _ (length base) _ _ after n (node-is 13 refl first (cq ∙ ap₂ range_count first (upper ∙ h.is_second))) kq (sq ∙ at) h.long

  -- true, false
  pub pred_constant : (after : List ℕ) (r : Made) (a c : ℕ) → get_or code (e - 4 + 3) 0 ≡ 1 → a ≡ get_or code (e - 4 + 1) 0 → TruthOf a c
      → after ≡ patch (e - 4) (node 16 0 c 0) out → r.kind ≡ 0 → r.start ≡ e - 4 → PredMade code e s T T W W z out after r
  unfolding term_codes term_table
  pred_constant after r a c q aq cq p kq sq =
      let n : Noded e (node 16 0 c 0) out after = record { four = refl; written = p } in
      pred-from code e s l T W z out 1 T W after r (leaf_walked e T W out far room _ after r n sq) q (
        (λ i ρ base y.
            let h = last-node code e l base 1 i (code_of kind.TRUE) 0 y in
            leaf-made e out far room r 0 (length base) (node 16 0 1 0) _ after n (node-is 16 refl (cq.0 (sym (aq ∙ h.is_first))) refl) kq sq h.long),
        (λ i ρ base y.
            let h = last-node code e l base 1 i (code_of kind.FALSE) 0 y in
            leaf-made e out far room r 0 (length base) (node 16 0 0 0) _ after n (node-is 16 refl (cq.1 (sym (aq ∙ h.is_first))) refl) kq sq h.long),
      )

  pub pred-negation : (U : Names) (Y : Places) (o₁ after : List ℕ) (v r : Made) → get_or code (e - 4 + 3) 0 ≡ 2 → PredMade code (e - 4) s T U W Y z out o₁ v
      → after ≡ patch (e - 4) (node 17 0 0 0) o₁ → r.kind ≡ 0 → r.start ≡ v.start → PredMade code e s T U W Y z out after r
  unfolding term_codes term_table
  pred-negation U Y o₁ after v r q hv p kq sq =
      let n : Noded e (node 17 0 0 0) o₁ after = record { four = refl; written = p } in
      pred-from code e s l T W z out 2 U Y after r (one-walked e T W out far room U Y o₁ _ after v r hv.walked n sq) q
      (λ P i ρ base y.
      one-made e out far room r 0 (length base) v _ _ o₁ _ _ after (hv.right P (suc i) ρ base (one-part code e l base (pred_codes P (suc i) ρ) 2 i 0 0 y).before) n refl kq sq)

  pub pred-connected : (U U' : Names) (Y Y' : Places) (o₁ o₂ after : List ℕ) (u v r : Made) (m a : ℕ) → get_or code (e - 4 + 3) 0 ≡ 3
      → PredMade code (e - 4) s T U W Y z out o₁ u → PredMade code u.start s U U' Y Y' z o₁ o₂ v → m ≡ u.start → a ≡ get_or code (e - 4 + 1) 0
      → after ≡ patch (e - 4) (node 18 m a 0) o₂ → r.kind ≡ 0 → r.start ≡ v.start → PredMade code e s T U' W Y' z out after r
  unfolding term_codes term_table
  pred-connected U U' Y Y' o₁ o₂ after u v r m a q hu hv₀ mq aq p kq sq =
      let n : Noded e (node 18 m a 0) o₂ after = record { four = refl; written = p } in
      let hv = pred-again code u.start s T U U' W Y Y' z o₁ o₂ v s refl hu.walked.kept hu.walked.places_kept hv₀ in
      let both = then-walked e T W out far room (e - 4) U U' Y Y' o₁ o₂ u v hu.walked hv₀.walked in
      pred-from code e s l T W z out 3 U' Y' after r (one-walked e T W out far room U' Y' o₂ _ after v r both n sq) q
      (λ o p₁ p₂ i ρ base y.
      let j : ℕ = suc (i + pred_width p₁) in
      let h = two-parts code e l base (pred_codes p₁ i ρ) (pred_codes p₂ j ρ) 3 (i + pred_width p₁) (code_of (connective_kind o)) 0 y in
      let s₂ = hu.right p₂ j ρ (base ++ pred_codes p₁ i ρ) h.before in
      let s₁ = hv.right p₁ i ρ base (middle code (e - 4) u.start (base ++ pred_codes p₁ i ρ) (pred_codes p₂ j ρ) h.before hu.walked.falls s₂.start_is) in
      two_made e out far room r 0 (length base) (λ b. pred_table p₂ T W z ρ s b) (λ b. node 18 b (code_of (connective_kind o)) 0) u v _ _ _ _ o₁ o₂ _ after s₂ s₁ n
      (node-is 18 mq (aq ∙ h.is_first) refl) kq sq)

  -- two terms behind base and a node of shape k over them: made as their tables and a node of shape g
  abbrev Sided : (after : List ℕ) (r : Made) (k g : ℕ) → Type 0
  Sided after r k g =
      (d : ℕ) (t u : Term) (i : ℕ) (ρ : Numbering) (base : List ℕ)
      → take e code ≡ base ++ (term_codes t i ρ ++ (term_codes u (suc (i + term_width t)) ρ ++ node k (i + term_width t) d 0))
      → Makes r 0 (length base) e (term_table t T W z ρ s (length base) ++ (term_table u T W z ρ s (length base + length (term_table t T W z ρ s (length base)))
      ++ node g (length base + length (term_table t T W z ρ s (length base))) d 0)) out after

  pred-sided : (U U' : Names) (Y Y' : Places) (o₁ o₂ after : List ℕ) (u v r : Made) (m a k g : ℕ) → (Sided after r k g → CaseP k (RightP code e s T W z out after r))
      → get_or code (e - 4 + 3) 0 ≡ k → TermMade code (e - 4) s T U W Y z out o₁ u → TermMade code u.start s U U' Y Y' z o₁ o₂ v → m ≡ u.start
      → a ≡ get_or code (e - 4 + 1) 0 → after ≡ patch (e - 4) (node g m a 0) o₂ → r.kind ≡ 0 → r.start ≡ v.start → PredMade code e s T U' W Y' z out after r
  pred-sided U U' Y Y' o₁ o₂ after u v r m a k g case q hu hv₀ mq aq p kq sq =
      let n : Noded e (node g m a 0) o₂ after = record { four = refl; written = p } in
      let hv = term-again code u.start s T U U' W Y Y' z o₁ o₂ v hu.walked.kept hu.walked.places_kept hv₀ in
      let both = then-walked e T W out far room (e - 4) U U' Y Y' o₁ o₂ u v hu.walked hv₀.walked in
      pred-from code e s l T W z out k U' Y' after r (one-walked e T W out far room U' Y' o₂ _ after v r both n sq) q
      (case (λ d t₁ t₂ i ρ base y.
      let j : ℕ = suc (i + term_width t₁) in
      let h = two-parts code e l base (term_codes t₁ i ρ) (term_codes t₂ j ρ) k (i + term_width t₁) d 0 y in
      let s₂ = hu.right t₂ j ρ (base ++ term_codes t₁ i ρ) h.before in
      let s₁ = hv.right t₁ i ρ base (middle code (e - 4) u.start (base ++ term_codes t₁ i ρ) (term_codes t₂ j ρ) h.before hu.walked.falls s₂.start_is) in
      two_made e out far room r 0 (length base) (λ b. term_table t₂ T W z ρ s b) (λ b. node g b d 0) u v _ _ _ _ o₁ o₂ _ after s₂ s₁ n
      (node-is g mq (aq ∙ h.is_first) refl) kq sq))

  -- a comparison or a membership (t in u, t in a..b, t |-> u in v), by the shape of its node
  pub pred-sides : (U U' : Names) (Y Y' : Places) (o₁ o₂ after : List ℕ) (u v r : Made) (m a g : ℕ) → ((get_or code (e - 4 + 3) 0 ≡ 4) × (g ≡ 19)) ⊎ ((get_or code (e - 4 + 3) 0 ≡ 5) × (g ≡ 20))
      → TermMade code (e - 4) s T U W Y z out o₁ u → TermMade code u.start s U U' Y Y' z o₁ o₂ v → m ≡ u.start → a ≡ get_or code (e - 4 + 1) 0
      → after ≡ patch (e - 4) (node g m a 0) o₂ → r.kind ≡ 0 → r.start ≡ v.start → PredMade code e s T U' W Y' z out after r
  unfolding term_codes term_table
  pred-sides U U' Y Y' o₁ o₂ after u v r m a g (inl (q, f)) hu hv mq aq p kq sq =
      pred-sided U U' Y Y' o₁ o₂ after u v r m a 4 19 (λ h o. h (code_of (comparison_kind o))) q hu hv mq aq (p ∙ ap (λ (x : ℕ). patch (e - 4) (node x m a 0) o₂) f) kq sq
  pred-sides U U' Y Y' o₁ o₂ after u v r m a g (inr (q, f)) hu hv mq aq p kq sq =
      pred-sided U U' Y Y' o₁ o₂ after u v r m a 5 20 (λ h o. h (code_of (membership_kind o))) q hu hv mq aq (p ∙ ap (λ (x : ℕ). patch (e - 4) (node x m a 0) o₂) f) kq sq

  pub pred-within : (U : Names) (Y : Places) (o₁ o₂ after : List ℕ) (d v r : Made) (a : ℕ) → get_or code (e - 4 + 3) 0 ≡ 6
      → DomainMade code (e - 4) T z out o₁ d → TermMade code d.start s T U W Y z o₁ o₂ v → a ≡ get_or code (e - 4 + 1) 0
      → after ≡ patch (e - 4) (node 21 0 a 0) o₂ → r.kind ≡ 0 → r.start ≡ v.start → PredMade code e s T U W Y z out after r
  unfolding term_codes term_table
  pred-within U Y o₁ o₂ after d v r a q hd hv aq p kq sq =
      let n : Noded e (node 21 0 a 0) o₂ after = record { four = refl; written = p } in
      let f : d.start ≤ e - 4 = hd.falls in
      let both = then-walked e T W out far room (e - 4) T U W Y o₁ o₂ d v (record { falls = f; kept = refl; places_kept = refl; long = hd.long }) hv.walked in
      pred-from code e s l T W z out 6 U Y after r (one-walked e T W out far room U Y o₂ _ after v r both n sq) q
      (λ o t c i ρ base y.
      let j : ℕ = suc (i + term_width t) in
      let h = two-parts code e l base (term_codes t i ρ) (range_codes c j) 6 (i + term_width t) (code_of (membership_kind o)) 0 y in
      let s₂ = hd.right (range c) j ρ (base ++ term_codes t i ρ) h.before in
      let s₁ = hv.right t i ρ base (middle code (e - 4) d.start (base ++ term_codes t i ρ) (range_codes c j) h.before hd.falls s₂.start_is) in
      two_made e out far room r 0 (length base) (λ b. domain_table (range c) T z ρ) (λ b. node 21 0 (code_of (membership_kind o)) 0) d v _ _ _ _ o₁ o₂ _ after s₂ s₁ n
      (node-is 21 refl (aq ∙ h.is_first) refl) kq sq)

  pub pred-related : (U U' U'' : Names) (Y Y' Y'' : Places) (o₁ o₂ o₃ after : List ℕ) (w u v r : Made) (a g m c d : ℕ) → get_or code (e - 4 + 3) 0 ≡ 7
      → TermMade code (e - 4) s T U W Y z out o₁ w → TermMade code w.start s U U' Y Y' z o₁ o₂ u → TermMade code u.start s U' U'' Y' Y'' z o₂ o₃ v
      → a ≡ get_or code (e - 4 + 1) 0 → RelatedShape a g → m ≡ u.start → c ≡ element_size z u.kind → d ≡ w.start
      → after ≡ patch (e - 4) (node g m c d) o₃ → r.kind ≡ 0 → r.start ≡ v.start → PredMade code e s T U'' W Y'' z out after r
  unfolding term_codes term_table
  pred-related U U' U'' Y Y' Y'' o₁ o₂ o₃ after w u v r a g m c d q hw hu₀ hv₀ aq gq mq cq dq p kq sq =
      let n : Noded e (node g m c d) o₃ after = record { four = refl; written = p } in
      let hu = term-again code w.start s T U U' W Y Y' z o₁ o₂ u hw.walked.kept hw.walked.places_kept hu₀ in
      let hv = term-again code u.start s T U' U'' W Y' Y'' z o₂ o₃ v hu.walked.kept hu.walked.places_kept hv₀ in
      let both = then-walked e T W out far room (e - 4) U U' Y Y' o₁ o₂ w u hw.walked hu₀.walked in
      let all = then-walked e T W out far room (e - 4) U' U'' Y' Y'' o₂ o₃ u v both hv₀.walked in
      pred-from code e s l T W z out 7 U'' Y'' after r (one-walked e T W out far room U'' Y'' o₃ _ after v r all n sq) q
      (λ o t₁ t₂ t₃ i ρ base y.
      let j : ℕ = suc (i + term_width t₁) in
      let k : ℕ = suc (j + term_width t₂) in
      let h = three-parts code e l base (term_codes t₁ i ρ) (term_codes t₂ j ρ) (term_codes t₃ k ρ) 7 (j + term_width t₂) (code_of (membership_kind o)) 0 y in
      let s₃ = hw.right t₃ k ρ ((base ++ term_codes t₁ i ρ) ++ term_codes t₂ j ρ) h.before in
      let y₂ = middle code (e - 4) w.start ((base ++ term_codes t₁ i ρ) ++ term_codes t₂ j ρ) (term_codes t₃ k ρ) h.before hw.walked.falls s₃.start_is in
      let s₂ = hu.right t₂ j ρ (base ++ term_codes t₁ i ρ) y₂ in
      let s₁ = hv.right t₁ i ρ base (middle code w.start u.start (base ++ term_codes t₁ i ρ) (term_codes t₂ j ρ) y₂ hu.walked.falls s₂.start_is) in
      let shape : g ≡ related_shape o = gq o (sym (aq ∙ h.is_first)) in
      three_made e out far room r 0 (length base) (λ b. term_table t₂ T W z ρ s b) (λ b. term_table t₃ T W z ρ s b) (λ b b₂. node (related_shape o) b (element_size z (term_kind t₂ T ρ)) b₂)
      w u v _ _ _ _ _ _ o₁ o₂ o₃ _ after s₃ s₂ s₁ n
      (ap (λ (x : ℕ). node x m c d) shape ∙ node-is (related_shape o) mq (cq ∙ ap (element_size z) s₂.kind_is) dq) kq sq)

  -- (forall x : T @ p)
  pub pred-quantified : (U₁ U₂ U₃ : Names) (Y₁ Y₂ Y₃ : Places) (o₁ o₂ after : List ℕ) (d p r : Made) (x old was s' c : ℕ) → get_or code (e - 4 + 3) 0 ≡ 8
      → DomainMade code (e - 4) T z out o₁ d → PredMade code d.start s' U₁ U₂ Y₁ Y₂ z o₁ o₂ p → s' ≡ next_slot s
      → U₁ ≡ set T x d.kind → U₃ ≡ set U₂ x old → Y₁ ≡ set W x s → Y₃ ≡ set Y₂ x was → x ≡ get_or code (e - 4 + 1) 0 → old ≡ entry T x → was ≡ entry W x
      → c ≡ get_or code (e - 4) 0 → after ≡ patch (e - 4) (node 24 0 s c) o₂ → r.kind ≡ 0 → r.start ≡ p.start → PredMade code e s T U₃ W Y₃ z out after r
  unfolding term_codes term_table
  pred-quantified U₁ U₂ U₃ Y₁ Y₂ Y₃ o₁ o₂ after d p r x old was s' c q hd hp nq u₁ u₃ y₁ y₃ xq oq wq cq w kq sq =
      let n : Noded e (node 24 0 s c) o₂ after = record { four = refl; written = w } in
      pred-from code e s l T W z out 8 U₃ Y₃ after r
      (bound-walked e T U₁ U₂ U₃ W Y₁ Y₂ Y₃ out o₁ o₂ _ after d p r x d.kind old was s far room hd.falls hd.long hp.walked u₁ u₃ y₁ y₃ oq wq n sq) q
      (λ o b D P i ρ base y.
      let j : ℕ = i + 5 + domain_width D in
      let h = two-parts code e l base (pred_codes P j ρ) (domain_codes D (i + 4) ρ) 8 (suc i) (number_of_name ρ b no_ending) (code_of (quantifier_kind o)) y in
      let sD = hd.right D (i + 4) ρ (base ++ pred_codes P j ρ) h.before in
      let xb : x ≡ number_of_name ρ b no_ending = xq ∙ h.is_first in
      let hq = pred-again code d.start (next_slot s) (set T (number_of_name ρ b no_ending) (domain_kind D T ρ)) U₁ U₂ (set W (number_of_name ρ b no_ending) s) Y₁ Y₂ z o₁ o₂ p
      s' nq (u₁ ∙ ap₂ (set T) xb sD.kind_is) (y₁ ∙ ap (λ (m : ℕ). set W m s) xb) hp in
      let sP = hq.right P j ρ base (middle code (e - 4) d.start (base ++ pred_codes P j ρ) (domain_codes D (i + 4) ρ) h.before hd.falls sD.start_is) in
      two_made e out far room r 0 (length base) (λ m. domain_table D T z ρ) (λ m. node 24 0 s (code_of (quantifier_kind o))) d p _ _ _ _ o₁ o₂ _ after sD sP n
      (node-is 24 refl refl (cq ∙ h.is_second)) kq sq)
