-- What a walk that met the last node of a term has seen: one law for each shape, from what its callees promise.
use mathlib.Core.Path.{◌≡◌, refl, sym, ap, ap₂, ◌∙◌, subst}
use mathlib.Core.List.{List, ◌++◌}
use Prim.Native.Nat.{ℕ, suc, ◌+◌, ◌-◌, ◌≤◌, max, min}
use native.Mathlib.Nat.{min-eq_left}
use native.Mathlib.Omega.{arith}
use lib.Dec.{leb}
use lib.ListN.{length, take, get_or, set}
use Rattle.lexical.specs.Kinds.{code_of}
use Rattle.lexical.specs.Symbols.{no_ending}
use Rattle.form.specs.Tree.{Domain, given_set, range, Items, only, also, Pairs, only_pair, also_pair}
use Rattle.form.specs.Written.{prefix_kind, operator_kind}
use Rattle.form.specs.Codes.{node, Numbering, name_number, number_of_name, end_number, end_width, sign_of, division_number, term_width, domain_codes, term_codes, items_codes, pairs_codes, pred_codes}
use Rattle.type_rules.specs.declared.Node.{Node}
use Rattle.type_rules.specs.TypesByNumber.{fault_key, entry, key, lesser, judged_key, NodeAt}
use Rattle.typing.proofs.FrontNodes.{EndsIn}
use Rattle.typing.proofs.LastNodes.{last-node, one-part, two-parts, three-parts, middle}
use Rattle.typing.proofs.TypeWalkTerms.{restored}
use Rattle.term_sizes.specs.declared.Sized.{Sized}
use Rattle.term_sizes.specs.declared.sizes.Over.{Over}
use Rattle.term_sizes.specs.SizesByNumber.{Bounds, absolute, prefix_bound, operator_bound, division_bound, domain_bound, term_bound, term_over, items_over, pairs_over, pred_over}
use Rattle.term_sizes.specs.SizeWalkPromises.{PrefixBound, OperatorBound, DivisionBound, Saw, DomainSized, TermSized, ItemsSized, PairSized, PairsSized, PredSized, BoundSized}
use Rattle.term_sizes.proofs.SizeWalkNumbers.{either, lesser-none, over_none, over-seen}
use Rattle.term_sizes.proofs.SizeWalk.{term-from}

module _ (code : List ℕ) (e : ℕ) (l : e ≤ length code) where
  -- a given set's name; a range
  pub domain-given : (r : Over) → get_or code (e - 4 + 3) 0 ≡ 1 → r.bound ≡ 0 → r.start ≡ e - 4 → DomainSized code e r
  unfolding domain_bound
  domain-given r q b s = record { falls = omega arith; right = right }
    where
      right : (d : Domain) (i : ℕ) (ρ : Numbering) (base : List ℕ) → take e code ≡ base ++ domain_codes d i ρ → (r.bound ≡ domain_bound d) × (r.start ≡ length base)
      right (range c) i ρ base y =
          let h = (last-node code e l base 2 (i + end_width c.lower) (end_number c.lower) (end_number c.upper) y).is_shape in absurd (omega arith)
      right (given_set g) i ρ base y =
          let h = last-node code e l base 1 i (name_number ρ g) 0 y in (b, s ∙ sym h.long)

  pub domain-range : (n : Node) (r : Over) (a b : ℕ) → NodeAt code e n → (get_or code (e - 4 + 3) 0 ≡ 1 → ⊥) → a ≡ absolute n.a → b ≡ absolute n.b
      → r.bound ≡ max a b → r.start ≡ e - 4 → DomainSized code e r
  unfolding domain_bound
  domain-range n r a b hn q aq bq mq s = record { falls = omega arith; right = right }
    where
      right : (d : Domain) (i : ℕ) (ρ : Numbering) (base : List ℕ) → take e code ≡ base ++ domain_codes d i ρ → (r.bound ≡ domain_bound d) × (r.start ≡ length base)
      right (given_set g) i ρ base y = absurd (q (last-node code e l base 1 i (name_number ρ g) 0 y).is_shape)
      right (range c) i ρ base y =
          let h = last-node code e l base 2 (i + end_width c.lower) (end_number c.lower) (end_number c.upper) y in
          (mq ∙ ap₂ max (aq ∙ ap absolute (hn.first_is ∙ h.is_first)) (bq ∙ ap absolute (hn.second_is ∙ h.is_second)), s ∙ sym h.long)

module _ (code : List ℕ) (e : ℕ) (l : e ≤ length code) (S : Bounds) where
  -- empty G, empty G H
  pub term-empty : (r : Sized) → 9 ≤ get_or code (e - 4 + 3) 0 → get_or code (e - 4 + 3) 0 ≤ 10 → (r.bound ≡ 0) × (fault_key r.fault ≡ 0) × (r.start ≡ e - 4) → TermSized code e S S r
  unfolding term_codes term_bound term_over
  term-empty r lo hi s = either lo hi
      (λ q. term-from code e l S 9 S r (let f = s.2 in omega arith) refl q
      (λ g i ρ base y. let h = last-node code e l base 9 i (name_number ρ g) 0 y in record { fault_is = s.1; bound_is = λ z. s.0; start_is = s.2 ∙ sym h.long }))
      (λ q. term-from code e l S 10 S r (let f = s.2 in omega arith) refl q
      (λ g g' i ρ base y.
      let h = last-node code e l base 10 i (name_number ρ g) (name_number ρ g') y in record { fault_is = s.1; bound_is = λ z. s.0; start_is = s.2 ∙ sym h.long }))

  -- a name bound for a predicate, and what it was behind it
  pub bound-sized : (U₁ U₂ U₃ : Bounds) (n : Node) (d : Over) (p : Sized) (x old : ℕ) → DomainSized code e d → PredSized code d.start U₁ U₂ p
      → U₁ ≡ set S x d.bound → U₃ ≡ set U₂ x old → x ≡ n.a → old ≡ entry S x → BoundSized code e n S U₃ p
  bound-sized U₁ U₂ U₃ n d p x old hd hp b₁ b₃ xq oq = record {
    falls = let f = hd.falls in let g = hp.falls in omega arith;
    kept = restored S U₁ U₂ U₃ x d.bound old b₁ hp.kept b₃ oq;
    right = λ D P i j ρ base y.
        let sD = hd.right D i ρ (base ++ pred_codes P j ρ) y in
        let sP = hp.right P j ρ base (middle code e d.start (base ++ pred_codes P j ρ) (domain_codes D i ρ) y hd.falls sD.1) in
        let over : pred_over P U₁ ρ j ≡ pred_over P (set S n.a (domain_bound D)) ρ j = ap (λ (X : Bounds). pred_over P X ρ j) (b₁ ∙ ap₂ (set S) xq sD.0) in
        record { fault_is = sP.fault_is ∙ over; bound_is = λ z. sP.bound_is (over ∙ z); start_is = sP.start_is };
  }

  -- {x : G | p}
  pub term-such : (U : Bounds) (n : Node) (r : Sized) → NodeAt code e n → get_or code (e - 4 + 3) 0 ≡ 6 → BoundSized code (e - 4) n S U r → TermSized code e S U r
  unfolding term_codes term_bound term_over domain_bound
  term-such U n r hn q hb =
      term-from code e l S 6 U r (let f = hb.falls in omega arith) hb.kept q
      (λ y₁ g P i ρ base y.
      let h = two-parts code e l base (pred_codes P (i + 5) ρ) (node 1 (i + 3) (name_number ρ g) 0) 6 i (number_of_name ρ y₁ no_ending) 0 y in
      let sB = hb.right (given_set g) P (i + 3) (i + 5) ρ base h.before in
      let over = ap (λ (x : ℕ). pred_over P (set S x 0) ρ (i + 5)) (hn.first_is ∙ h.is_first) in
      record { fault_is = sB.fault_is ∙ over; bound_is = λ z. sB.bound_is (over ∙ z); start_is = sB.start_is })

  -- {t, ...}, {t |-> t, ...}
  pub term-listed : (U : Bounds) (v : Sized) → get_or code (e - 4 + 3) 0 ≡ 7 → ItemsSized code (e - 4) S U v → TermSized code e S U v
  unfolding term_codes term_bound term_over
  term-listed U v q hv = term-from code e l S 7 U v (let f = hv.falls in omega arith) hv.kept q
      (λ ts i ρ base y. hv.right ts (suc i) ρ base (one-part code e l base (items_codes ts (suc i) ρ) 7 i 0 0 y).before)

  pub term-pairs : (U : Bounds) (v : Sized) → get_or code (e - 4 + 3) 0 ≡ 8 → PairsSized code (e - 4) S U v → TermSized code e S U v
  unfolding term_codes term_bound term_over
  term-pairs U v q hv = term-from code e l S 8 U v (let f = hv.falls in omega arith) hv.kept q
      (λ ts i ρ base y. hv.right ts (suc i) ρ base (one-part code e l base (pairs_codes ts (suc i) ρ) 8 i 0 0 y).before)

  -- the terms of a brace
  pub items-only : (U : Bounds) (v r : Sized) → TermSized code (e - 4) S U v → get_or code (e - 4 + 3) 0 ≡ 1
      → r.bound ≡ 0 → fault_key r.fault ≡ fault_key v.fault → r.start ≡ v.start → ItemsSized code e S U r
  unfolding term_codes term_over
  items-only U v r hv q bq fq sq = record { falls = let f = hv.falls in omega arith; kept = hv.kept; right = right }
    where
      right : (ts : Items) (i : ℕ) (ρ : Numbering) (base : List ℕ) → take e code ≡ base ++ items_codes ts i ρ → Saw r 0 (items_over ts S ρ i) (length base)
      right (only t) i ρ base y =
          let s = hv.right t i ρ base (one-part code e l base (term_codes t i ρ) 1 0 0 0 y).before in
          record { fault_is = fq ∙ s.fault_is; bound_is = λ z. bq; start_is = sq ∙ s.start_is }
      right (also t ts) i ρ base y =
          let h = (two-parts code e l base (term_codes t i ρ) (items_codes ts (suc (i + term_width t)) ρ) 2 0 0 0 y).is_shape in absurd (omega arith)

  pub items-also : (U W : Bounds) (v u r : Sized) → ItemsSized code (e - 4) S U u → TermSized code u.start U W v → (get_or code (e - 4 + 3) 0 ≡ 1 → ⊥)
      → r.bound ≡ 0 → fault_key r.fault ≡ lesser (fault_key v.fault) (fault_key u.fault) → r.start ≡ v.start → ItemsSized code e S W r
  unfolding term_codes term_over
  items-also U W v u r hu hv₀ q bq fq sq = record { falls = let f = hu.falls in let g = hv₀.falls in omega arith; kept = hv₀.kept ∙ hu.kept; right = right }
    where
      right : (ts : Items) (i : ℕ) (ρ : Numbering) (base : List ℕ) → take e code ≡ base ++ items_codes ts i ρ → Saw r 0 (items_over ts S ρ i) (length base)
      right (only t) i ρ base y = absurd (q (one-part code e l base (term_codes t i ρ) 1 0 0 0 y).is_shape)
      right (also t ts) i ρ base y =
          let hv : TermSized code u.start S W v = subst (λ (X : Bounds). TermSized code u.start X W v) hu.kept hv₀ in
          let h = two-parts code e l base (term_codes t i ρ) (items_codes ts (suc (i + term_width t)) ρ) 2 0 0 0 y in
          let s₂ = hu.right ts (suc (i + term_width t)) ρ (base ++ term_codes t i ρ) h.before in
          let s₁ = hv.right t i ρ base (middle code (e - 4) u.start (base ++ term_codes t i ρ) (items_codes ts (suc (i + term_width t)) ρ) h.before hu.falls s₂.start_is) in
          record { fault_is = fq ∙ ap₂ lesser s₁.fault_is s₂.fault_is; bound_is = λ z. bq; start_is = sq ∙ s₁.start_is }

  -- two terms; the pairs of a brace
  pub pair-sized : (U W : Bounds) (v u r : Sized) → TermSized code e S U u → TermSized code u.start U W v
      → r.bound ≡ 0 → fault_key r.fault ≡ lesser (fault_key v.fault) (fault_key u.fault) → r.start ≡ v.start → PairSized code e S W r
  pair-sized U W v u r hu hv₀ bq fq sq = record {
    falls = let f = hu.falls in let g = hv₀.falls in omega arith;
    kept = hv₀.kept ∙ hu.kept;
    right = λ t₁ t₂ i j ρ base y.
        let hv : TermSized code u.start S W v = subst (λ (X : Bounds). TermSized code u.start X W v) hu.kept hv₀ in
        let s₂ = hu.right t₂ j ρ (base ++ term_codes t₁ i ρ) y in
        let s₁ = hv.right t₁ i ρ base (middle code e u.start (base ++ term_codes t₁ i ρ) (term_codes t₂ j ρ) y hu.falls s₂.start_is) in
        record { fault_is = fq ∙ ap₂ lesser s₁.fault_is s₂.fault_is; bound_is = λ z. bq; start_is = sq ∙ s₁.start_is };
  }

  pub pairs-only : (U : Bounds) (v : Sized) → PairSized code (e - 4) S U v → get_or code (e - 4 + 3) 0 ≡ 1 → PairsSized code e S U v
  unfolding term_codes term_over
  pairs-only U v hv q = record { falls = let f = hv.falls in omega arith; kept = hv.kept; right = right }
    where
      right : (ts : Pairs) (i : ℕ) (ρ : Numbering) (base : List ℕ) → take e code ≡ base ++ pairs_codes ts i ρ → Saw v 0 (pairs_over ts S ρ i) (length base)
      right (only_pair t u) i ρ base y =
          hv.right t u i (suc (i + term_width t)) ρ base (two-parts code e l base (term_codes t i ρ) (term_codes u (suc (i + term_width t)) ρ) 1 0 0 0 y).before
      right (also_pair t u ts) i ρ base y =
          let h = (three-parts code e l base (term_codes t i ρ) (term_codes u (suc (i + term_width t)) ρ) (pairs_codes ts (suc (suc (i + term_width t) + term_width u)) ρ) 2 0 0 0 y).is_shape in
          absurd (omega arith)

  pub pairs-also : (U W : Bounds) (v u r : Sized) → PairsSized code (e - 4) S U u → PairSized code u.start U W v → (get_or code (e - 4 + 3) 0 ≡ 1 → ⊥)
      → r.bound ≡ 0 → fault_key r.fault ≡ lesser (fault_key v.fault) (fault_key u.fault) → r.start ≡ v.start → PairsSized code e S W r
  unfolding term_codes term_over
  pairs-also U W v u r hu hv₀ q bq fq sq = record { falls = let f = hu.falls in let g = hv₀.falls in omega arith; kept = hv₀.kept ∙ hu.kept; right = right }
    where
      right : (ts : Pairs) (i : ℕ) (ρ : Numbering) (base : List ℕ) → take e code ≡ base ++ pairs_codes ts i ρ → Saw r 0 (pairs_over ts S ρ i) (length base)
      right (only_pair t₁ t₂) i ρ base y = absurd (q (two-parts code e l base (term_codes t₁ i ρ) (term_codes t₂ (suc (i + term_width t₁)) ρ) 1 0 0 0 y).is_shape)
      right (also_pair t₁ t₂ ts) i ρ base y =
          let hv : PairSized code u.start S W v = subst (λ (X : Bounds). PairSized code u.start X W v) hu.kept hv₀ in
          let j : ℕ = suc (i + term_width t₁) in
          let h = three-parts code e l base (term_codes t₁ i ρ) (term_codes t₂ j ρ) (pairs_codes ts (suc (j + term_width t₂)) ρ) 2 0 0 0 y in
          let s₂ = hu.right ts (suc (j + term_width t₂)) ρ ((base ++ term_codes t₁ i ρ) ++ term_codes t₂ j ρ) h.before in
          let s₁ = hv.right t₁ t₂ i j ρ base (middle code (e - 4) u.start ((base ++ term_codes t₁ i ρ) ++ term_codes t₂ j ρ) (pairs_codes ts (suc (j + term_width t₂)) ρ) h.before hu.falls s₂.start_is) in
          record { fault_is = fq ∙ ap₂ lesser s₁.fault_is s₂.fault_is; bound_is = λ z. bq; start_is = sq ∙ s₁.start_is }

-- the laws of trees whose last node has others in front
module _ {code : List ℕ} {e : ℕ} {n : Node} (S : Bounds) where
  pub term-number : (r : Sized) → EndsIn code e 1 n → r.bound ≡ n.a
      → fault_key r.fault ≡ 0 → r.start ≡ e - 4 → TermSized code e S S r
  unfolding term_codes term_bound term_over
  term-number r en p f s = term-from code e en.fits S 1 S r (omega arith) refl en.shape
      (λ v i ρ base y.
      let h = last-node code e en.fits base 1 i v 0 y in record { fault_is = f; bound_is = λ z. p ∙ en.node.first_is ∙ h.is_first; start_is = s ∙ sym h.long })

  pub term-name : (r : Sized) (x : ℕ) → EndsIn code e 2 n → x ≡ n.a → r.bound ≡ entry S x
      → fault_key r.fault ≡ 0 → r.start ≡ e - 4 → TermSized code e S S r
  unfolding term_codes term_bound term_over
  term-name r x en xq p f s = term-from code e en.fits S 2 S r (omega arith) refl en.shape
      (λ g i ρ base y.
      let h = last-node code e en.fits base 2 i (name_number ρ g) 0 y in
      record { fault_is = f; bound_is = λ z. p ∙ ap (entry S) (xq ∙ en.node.first_is ∙ h.is_first); start_is = s ∙ sym h.long })

  pub term-prefix : (U : Bounds) (v r : Sized) → EndsIn code e 3 n → TermSized code (e - 4) S U v
      → PrefixBound n.a v.bound r.bound → fault_key r.fault ≡ fault_key v.fault → r.start ≡ v.start → TermSized code e S U r
  unfolding term_codes term_bound term_over
  term-prefix U v r en hv bq fq sq = term-from code e en.fits S 3 U r (let f = hv.falls in omega arith) hv.kept en.shape
      (λ o t i ρ base y.
      let h = one-part code e en.fits base (term_codes t (suc i) ρ) 3 i (code_of (prefix_kind o)) 0 y in
      let s = hv.right t (suc i) ρ base h.before in
      record { fault_is = fq ∙ s.fault_is; bound_is = λ z. bq o (sym (en.node.first_is ∙ h.is_first)) ∙ ap (prefix_bound o) (s.bound_is z); start_is = sq ∙ s.start_is })

  pub term-divided : (U : Bounds) (v r : Sized) → EndsIn code e 4 n → TermSized code (e - 4) S U v
      → DivisionBound n.b n.a v.bound r.bound → fault_key r.fault ≡ fault_key v.fault → r.start ≡ v.start → TermSized code e S U r
  unfolding term_codes term_bound term_over
  term-divided U v r en hv bq fq sq = term-from code e en.fits S 4 U r (let f = hv.falls in omega arith) hv.kept en.shape
      (λ o t d i ρ base y.
      let h = one-part code e en.fits base (term_codes t i ρ) 4 (i + term_width t) d.magnitude (sign_of d.negative + division_number o) y in
      let s = hv.right t i ρ base h.before in
      record {
        fault_is = fq ∙ s.fault_is;
        bound_is = λ z. bq o d.negative (sym (en.node.second_is ∙ h.is_second)) ∙ ap₂ (division_bound o) (s.bound_is z) (en.node.first_is ∙ h.is_first);
        start_is = sq ∙ s.start_is;
      })

  -- t and u, with an operator between them
  pub term-binary : (U W : Bounds) (v u r : Sized) (m g : ℕ) → EndsIn code e 5 n
      → TermSized code (e - 4) S U u → TermSized code u.start U W v
      → OperatorBound n.a v.bound u.bound m → g ≡ lesser (fault_key v.fault) (fault_key u.fault)
      → fault_key r.fault ≡ judged_key (leb m 2147483647) (key n.place 13) g → r.bound ≡ min m 2147483647 → r.start ≡ v.start
      → TermSized code e S W r
  unfolding term_codes term_bound term_over
  term-binary U W v u r m g en hu hv₀ mq gq fq bq sq =
      let hv : TermSized code u.start S W v = subst (λ (X : Bounds). TermSized code u.start X W v) hu.kept hv₀ in
      term-from code e en.fits S 5 W r (let f = hu.falls in let g = hv.falls in omega arith) hv.kept en.shape
      (λ o t₁ t₂ i ρ base y.
      let j : ℕ = suc (i + term_width t₁) in
      let h = two-parts code e en.fits base (term_codes t₁ i ρ) (term_codes t₂ j ρ) 5 (i + term_width t₁) (code_of (operator_kind o)) 0 y in
      let s₂ = hu.right t₂ j ρ (base ++ term_codes t₁ i ρ) h.before in
      let s₁ = hv.right t₁ i ρ base (middle code (e - 4) u.start (base ++ term_codes t₁ i ρ) (term_codes t₂ j ρ) h.before hu.falls s₂.start_is) in
      let k : ℕ = operator_bound o (term_bound t₁ S ρ) (term_bound t₂ S ρ) in
      let parts : ℕ = lesser (term_over t₁ S ρ i) (term_over t₂ S ρ j) in
      let size : parts ≡ 0 → m ≡ k =
      λ z. let w = lesser-none (term_over t₁ S ρ i) (term_over t₂ S ρ j) z in
      mq o (sym (en.node.first_is ∙ h.is_first)) ∙ ap₂ (operator_bound o) (s₁.bound_is w.0) (s₂.bound_is w.1) in
      record {
        fault_is = fq ∙ over-seen m k n.place (i + term_width t₁) g parts (en.node.place_is ∙ h.is_place) (gq ∙ ap₂ lesser s₁.fault_is s₂.fault_is) size;
        bound_is = λ z. let w = over_none k (i + term_width t₁) parts z in bq ∙ ap (λ (x : ℕ). min x 2147483647) (size w.0) ∙ min-eq_left w.1;
        start_is = sq ∙ s₁.start_is;
      })
