-- What a walk that met the last node of a term has seen: one law for each shape, from what its callees promise.
use mathlib.Core.Path.{◌≡◌, refl, sym, ap, ap₂, ◌∙◌, subst}
use mathlib.Core.Bool.{Bool, true, false}
use mathlib.Core.List.{List, ◌++◌}
use Prim.Native.Nat.{ℕ, suc, ◌+◌, ◌-◌, ◌%◌, ◌≤◌}
use native.Mathlib.Omega.{arith}
use lib.Dec.{ltb}
use lib.ListN.{length, take, get_or, set}
use lib.Seq.{set-get_or, set-set}
use Rattle.lexical.specs.Kinds.{code_of}
use Rattle.lexical.specs.Symbols.{no_ending}
use Rattle.form.specs.Tree.{Domain, given_set, range, Division, quotient, remainder, Items, only, also, Pairs, only_pair, also_pair}
use Rattle.form.specs.Written.{prefix_kind, operator_kind}
use Rattle.form.specs.Codes.{node, Numbering, name_number, number_of_name, end_number, end_width, sign_of, division_number, term_width, domain_codes, term_codes, items_codes, pairs_codes, pred_codes}
use Rattle.type_rules.specs.declared.Seen.{Seen}
use Rattle.type_rules.specs.declared.Node.{Node}
use Rattle.type_rules.specs.TypesByNumber.{Names, Sizes, entry, is_free, is_number, is_given, is_element, in_reach, element_of, set_of, pair_of, prefix_fits, prefix_type, operator_fits, shared, key, fault_key, unless_key, lesser, judged_key, inside_key, range_fits, over_key, brace_key}
use Rattle.type_rules.specs.TypesByNumber.{domain_kind, domain_key, term_kind, items_kind, pairs_kind, term_key, items_key, pairs_key, pred_key, PrefixFits, PrefixType, OperatorFits, NodeAt, Saw, DomainSeen, TermSeen, ItemsSeen, PairSeen, PairsSeen, PredSeen}
use Rattle.typing.specs.BoundPromise.{BoundSeen}
use Rattle.typing.specs.SidesPromise.{SidesSeen}
use Rattle.typing.specs.declared.types.Sides.{Sides}
use Rattle.typing.proofs.FrontNodes.{EndsIn}
use Rattle.typing.proofs.LastNodes.{last-node, one-part, two-parts, three-parts, middle, term-from}

-- faults from the faults of the parts
pub seen-unless : {b c : Bool} {w i : ℕ} (n : ℕ) → b ≡ c → w ≡ i → unless_key b (key w n) ≡ unless_key c (key i n)
seen-unless n p q = ap₂ (λ (x : Bool) (j : ℕ). unless_key x (key j n)) p q

pub seen-judged : {b c : Bool} {w i m n : ℕ} → b ≡ c → w ≡ i → m ≡ n → judged_key b (key w 10) m ≡ judged_key c (key i 10) n
seen-judged {b = b} {c = c} {w = w} {i = i} {m = m} {n = n} p q r = ap (λ (x : Bool). judged_key x (key w 10) m) p ∙ ap₂ (λ (j k : ℕ). judged_key c (key j 10) k) q r

pub seen-bound : (w : ℕ) {j old was over o body b : ℕ} → w + 1 ≡ j → old ≡ was → over ≡ o → body ≡ b
    → inside_key (lesser (unless_key (is_free old) (key (w + 1) 8)) over) body ≡ inside_key (lesser (unless_key (is_free was) (key j 8)) o) b
seen-bound w {j = j} {was = was} {o = o} {body = body} p q r t =
    ap₂ (λ (x y : ℕ). inside_key (lesser x y) body) (ap₂ (λ (x y : ℕ). unless_key (is_free x) (key y 8)) q p) r
    ∙ ap (λ (y : ℕ). inside_key (lesser (unless_key (is_free was) (key j 8)) o) y) t

-- a name that was bound is what it was again
pub restored : (T U₁ U₂ U₃ : Names) (x k old : ℕ) → U₁ ≡ set T x k → U₂ ≡ U₁ → U₃ ≡ set U₂ x old → old ≡ entry T x → U₃ ≡ T
restored T U₁ U₂ U₃ x k old p q r s =
    r ∙ ap₂ (λ (X : Names) (o : ℕ). set X x o) (q ∙ p) s ∙ set-set T x k (get_or T x 0) ∙ set-get_or T x 0

-- a divisor's sign, beside which of the two divisions it is
sign-of : (s : Bool) (o : Division) → (sign_of s + division_number o) % 2 ≡ sign_of s
sign-of true quotient = refl
sign-of true remainder = refl
sign-of false quotient = refl
sign-of false remainder = refl

module _ (code : List ℕ) (e : ℕ) (l : e ≤ length code) (T : Names) (z : Sizes) where
  -- a given set's name; a range
  pub domain-given : (n : Node) (r : Seen) (x v w : ℕ) (b : Bool) → NodeAt code e n → get_or code (e - 4 + 3) 0 ≡ 1 → r.start ≡ e - 4
      → x ≡ n.a → v ≡ entry T x → w ≡ n.place → b ≡ is_given v → r.kind ≡ element_of v → fault_key r.fault ≡ unless_key b (key w 9)
      → DomainSeen code e T r
  unfolding domain_kind domain_key
  domain-given n r x v w b hn q s xq vq wq bq kq fq = record { falls = omega arith; right = right }
    where
      right : (d : Domain) (i : ℕ) (ρ : Numbering) (base : List ℕ) → take e code ≡ base ++ domain_codes d i ρ → Saw r (domain_kind d T ρ) (domain_key d T ρ i) (length base)
      right (range c) i ρ base y =
          let h = (last-node code e l base 2 (i + end_width c.lower) (end_number c.lower) (end_number c.upper) y).is_shape in absurd (omega arith)
      right (given_set g) i ρ base y =
          let h = last-node code e l base 1 i (name_number ρ g) 0 y in
          let vx : v ≡ entry T (name_number ρ g) = vq ∙ ap (entry T) (xq ∙ hn.first_is ∙ h.is_first) in
          record { kind_is = kq ∙ ap element_of vx; fault_is = fq ∙ seen-unless 9 (bq ∙ ap is_given vx) (wq ∙ hn.place_is ∙ h.is_place); start_is = s ∙ sym h.long }

  pub domain-range : (n : Node) (r : Seen) (w : ℕ) (b : Bool) → NodeAt code e n → (get_or code (e - 4 + 3) 0 ≡ 1 → ⊥) → r.start ≡ e - 4
      → w ≡ n.place → b ≡ range_fits n.a n.b → r.kind ≡ 1 → fault_key r.fault ≡ unless_key b (key w 11)
      → DomainSeen code e T r
  unfolding domain_kind domain_key
  domain-range n r w b hn q s wq bq kq fq = record { falls = omega arith; right = right }
    where
      right : (d : Domain) (i : ℕ) (ρ : Numbering) (base : List ℕ) → take e code ≡ base ++ domain_codes d i ρ → Saw r (domain_kind d T ρ) (domain_key d T ρ i) (length base)
      right (given_set g) i ρ base y = absurd (q (last-node code e l base 1 i (name_number ρ g) 0 y).is_shape)
      right (range c) i ρ base y =
          let h = last-node code e l base 2 (i + end_width c.lower) (end_number c.lower) (end_number c.upper) y in
          record {
            kind_is = kq;
            fault_is = fq ∙ seen-unless 11 (bq ∙ ap₂ range_fits (hn.first_is ∙ h.is_first) (hn.second_is ∙ h.is_second)) (wq ∙ hn.place_is ∙ h.is_place);
            start_is = s ∙ sym h.long;
          }

  pub term-number : (r : Seen) → r.kind ≡ 1 → fault_key r.fault ≡ 0 → r.start ≡ e - 4 → get_or code (e - 4 + 3) 0 ≡ 1 → TermSeen code e T T z r
  unfolding term_codes term_kind term_key
  term-number r p f s q = term-from code e l T z 1 T r (omega arith) refl q
      (λ v i ρ base y. let h = last-node code e l base 1 i v 0 y in record { kind_is = p; fault_is = f; start_is = s ∙ sym h.long })

  -- two terms, one behind the other
  pub sides-seen : (U W : Names) (v u : Seen) (r : Sides) → TermSeen code e T U z u → TermSeen code u.start U W z v
      → r.first ≡ v.kind → r.second ≡ u.kind → r.start ≡ v.start → fault_key r.fault ≡ lesser (fault_key v.fault) (fault_key u.fault) → SidesSeen code e T W z r
  sides-seen U W v u r hu hv₀ kq lq sq fq = record {
    falls = let f = hu.falls in let g = hv₀.falls in omega arith;
    kept = hv₀.kept ∙ hu.kept;
    right = λ t₁ t₂ i j ρ base y.
        let hv : TermSeen code u.start T W z v = subst (λ (X : Names). TermSeen code u.start X W z v) hu.kept hv₀ in
        let s₂ = hu.right t₂ j ρ (base ++ term_codes t₁ i ρ) y in
        let s₁ = hv.right t₁ i ρ base (middle code e u.start (base ++ term_codes t₁ i ρ) (term_codes t₂ j ρ) y hu.falls s₂.start_is) in
        record { first_is = kq ∙ s₁.kind_is; second_is = lq ∙ s₂.kind_is; fault_is = fq ∙ ap₂ lesser s₁.fault_is s₂.fault_is; start_is = sq ∙ s₁.start_is };
  }

  -- a name bound for a predicate, and what it was behind it
  pub bound-seen : (U₁ U₂ U₃ : Names) (n : Node) (d p r : Seen) (x old : ℕ) → DomainSeen code e T d → PredSeen code d.start U₁ U₂ z p
      → U₁ ≡ set T x d.kind → U₃ ≡ set U₂ x old → x ≡ n.a → old ≡ entry T x → r.kind ≡ d.kind → r.start ≡ p.start
      → fault_key r.fault ≡ inside_key (lesser (unless_key (is_free old) (key (n.place + 1) 8)) (fault_key d.fault)) (fault_key p.fault)
      → BoundSeen code e n T U₃ z r
  bound-seen U₁ U₂ U₃ n d p r x old hd hp b₁ b₃ xq oq kq sq fq = record {
    falls = let f = hd.falls in let g = hp.falls in omega arith;
    kept = restored T U₁ U₂ U₃ x d.kind old b₁ hp.kept b₃ oq;
    right = λ D P i j ρ base y.
        let sD = hd.right D i ρ (base ++ pred_codes P j ρ) y in
        let sP = hp.right P j ρ base (middle code e d.start (base ++ pred_codes P j ρ) (domain_codes D i ρ) y hd.falls sD.start_is) in
        record {
          kind_is = kq ∙ sD.kind_is;
          fault_is = fq ∙ seen-bound n.place refl (oq ∙ ap (entry T) xq) sD.fault_is
              (sP.fault_is ∙ ap (λ (X : Names). pred_key P X ρ z j) (b₁ ∙ ap₂ (set T) xq sD.kind_is));
          start_is = sq ∙ sP.start_is;
        };
  }

  -- the terms of a brace
  pub items-only : (U : Names) (v : Seen) → TermSeen code (e - 4) T U z v → get_or code (e - 4 + 3) 0 ≡ 1 → ItemsSeen code e T U z v
  unfolding term_codes term_kind term_key
  items-only U v hv q = record { falls = let f = hv.falls in omega arith; kept = hv.kept; right = right }
    where
      right : (ts : Items) (i : ℕ) (ρ : Numbering) (base : List ℕ) → take e code ≡ base ++ items_codes ts i ρ → Saw v (items_kind ts T ρ) (items_key ts T ρ z i) (length base)
      right (only t) i ρ base y = hv.right t i ρ base (one-part code e l base (term_codes t i ρ) 1 0 0 0 y).before
      right (also t ts) i ρ base y =
          let h = (two-parts code e l base (term_codes t i ρ) (items_codes ts (suc (i + term_width t)) ρ) 2 0 0 0 y).is_shape in absurd (omega arith)

  pub items-also : (U W : Names) (v u r : Seen) → ItemsSeen code (e - 4) T U z u → TermSeen code u.start U W z v → (get_or code (e - 4 + 3) 0 ≡ 1 → ⊥)
      → r.kind ≡ shared v.kind u.kind → r.start ≡ v.start → fault_key r.fault ≡ lesser (fault_key v.fault) (fault_key u.fault) → ItemsSeen code e T W z r
  unfolding term_codes term_kind term_key
  items-also U W v u r hu hv₀ q kq sq fq = record { falls = let f = hu.falls in let g = hv₀.falls in omega arith; kept = hv₀.kept ∙ hu.kept; right = right }
    where
      right : (ts : Items) (i : ℕ) (ρ : Numbering) (base : List ℕ) → take e code ≡ base ++ items_codes ts i ρ → Saw r (items_kind ts T ρ) (items_key ts T ρ z i) (length base)
      right (only t) i ρ base y = absurd (q (one-part code e l base (term_codes t i ρ) 1 0 0 0 y).is_shape)
      right (also t ts) i ρ base y =
          let hv : TermSeen code u.start T W z v = subst (λ (X : Names). TermSeen code u.start X W z v) hu.kept hv₀ in
          let h = two-parts code e l base (term_codes t i ρ) (items_codes ts (suc (i + term_width t)) ρ) 2 0 0 0 y in
          let s₂ = hu.right ts (suc (i + term_width t)) ρ (base ++ term_codes t i ρ) h.before in
          let s₁ = hv.right t i ρ base (middle code (e - 4) u.start (base ++ term_codes t i ρ) (items_codes ts (suc (i + term_width t)) ρ) h.before hu.falls s₂.start_is) in
          record { kind_is = kq ∙ ap₂ shared s₁.kind_is s₂.kind_is; fault_is = fq ∙ ap₂ lesser s₁.fault_is s₂.fault_is; start_is = sq ∙ s₁.start_is }

  -- a pair of a brace; its pairs
  pub pair-seen : (U : Names) (v : Sides) (r : Seen) → SidesSeen code e T U z v
      → r.kind ≡ pair_of v.first v.second → r.start ≡ v.start → fault_key r.fault ≡ fault_key v.fault → PairSeen code e T U z r
  pair-seen U v r hv kq sq fq = record {
    falls = let f = hv.falls in omega arith;
    kept = hv.kept;
    right = λ t₁ t₂ i j ρ base y.
        let s = hv.right t₁ t₂ i j ρ base y in record { kind_is = kq ∙ ap₂ pair_of s.first_is s.second_is; fault_is = fq ∙ s.fault_is; start_is = sq ∙ s.start_is };
  }

  pub pairs-only : (U : Names) (v : Seen) → PairSeen code (e - 4) T U z v → get_or code (e - 4 + 3) 0 ≡ 1 → PairsSeen code e T U z v
  unfolding term_codes term_kind term_key
  pairs-only U v hv q = record { falls = let f = hv.falls in omega arith; kept = hv.kept; right = right }
    where
      right : (ts : Pairs) (i : ℕ) (ρ : Numbering) (base : List ℕ) → take e code ≡ base ++ pairs_codes ts i ρ → Saw v (pairs_kind ts T ρ) (pairs_key ts T ρ z i) (length base)
      right (only_pair t u) i ρ base y =
          hv.right t u i (suc (i + term_width t)) ρ base (two-parts code e l base (term_codes t i ρ) (term_codes u (suc (i + term_width t)) ρ) 1 0 0 0 y).before
      right (also_pair t u ts) i ρ base y =
          let h = (three-parts code e l base (term_codes t i ρ) (term_codes u (suc (i + term_width t)) ρ) (pairs_codes ts (suc (suc (i + term_width t) + term_width u)) ρ) 2 0 0 0 y).is_shape in
          absurd (omega arith)

  pub pairs-also : (U W : Names) (v u r : Seen) → PairsSeen code (e - 4) T U z u → PairSeen code u.start U W z v → (get_or code (e - 4 + 3) 0 ≡ 1 → ⊥)
      → r.kind ≡ shared v.kind u.kind → r.start ≡ v.start → fault_key r.fault ≡ lesser (fault_key v.fault) (fault_key u.fault) → PairsSeen code e T W z r
  unfolding term_codes term_kind term_key
  pairs-also U W v u r hu hv₀ q kq sq fq = record { falls = let f = hu.falls in let g = hv₀.falls in omega arith; kept = hv₀.kept ∙ hu.kept; right = right }
    where
      right : (ts : Pairs) (i : ℕ) (ρ : Numbering) (base : List ℕ) → take e code ≡ base ++ pairs_codes ts i ρ → Saw r (pairs_kind ts T ρ) (pairs_key ts T ρ z i) (length base)
      right (only_pair t₁ t₂) i ρ base y = absurd (q (two-parts code e l base (term_codes t₁ i ρ) (term_codes t₂ (suc (i + term_width t₁)) ρ) 1 0 0 0 y).is_shape)
      right (also_pair t₁ t₂ ts) i ρ base y =
          let hv : PairSeen code u.start T W z v = subst (λ (X : Names). PairSeen code u.start X W z v) hu.kept hv₀ in
          let j : ℕ = suc (i + term_width t₁) in
          let h = three-parts code e l base (term_codes t₁ i ρ) (term_codes t₂ j ρ) (pairs_codes ts (suc (j + term_width t₂)) ρ) 2 0 0 0 y in
          let s₂ = hu.right ts (suc (j + term_width t₂)) ρ ((base ++ term_codes t₁ i ρ) ++ term_codes t₂ j ρ) h.before in
          let s₁ = hv.right t₁ t₂ i j ρ base (middle code (e - 4) u.start ((base ++ term_codes t₁ i ρ) ++ term_codes t₂ j ρ) (pairs_codes ts (suc (j + term_width t₂)) ρ) h.before hu.falls s₂.start_is) in
          record { kind_is = kq ∙ ap₂ shared s₁.kind_is s₂.kind_is; fault_is = fq ∙ ap₂ lesser s₁.fault_is s₂.fault_is; start_is = sq ∙ s₁.start_is }

-- the laws of trees whose last node has others in front
module _ {code : List ℕ} {e : ℕ} {n : Node} (T : Names) (z : Sizes) where
  pub term-name : (r : Seen) (x w : ℕ) (b : Bool) → EndsIn code e 2 n → r.start ≡ e - 4
      → x ≡ n.a → r.kind ≡ entry T x → w ≡ n.place → b ≡ in_reach r.kind → fault_key r.fault ≡ unless_key b (key w 9)
      → TermSeen code e T T z r
  unfolding term_codes term_kind term_key
  term-name r x w b en s xq kq wq bq fq = term-from code e en.fits T z 2 T r (omega arith) refl en.shape
      (λ g i ρ base y.
      let h = last-node code e en.fits base 2 i (name_number ρ g) 0 y in
      let kx : r.kind ≡ entry T (name_number ρ g) = kq ∙ ap (entry T) (xq ∙ en.node.first_is ∙ h.is_first) in
      record { kind_is = kx; fault_is = fq ∙ seen-unless 9 (bq ∙ ap in_reach kx) (wq ∙ en.node.place_is ∙ h.is_place); start_is = s ∙ sym h.long })

  -- empty G, empty G H
  pub term-empty : (r : Seen) (x v w k : ℕ) (b : Bool) → EndsIn code e 9 n → r.start ≡ e - 4
      → x ≡ n.a → v ≡ entry T x → w ≡ n.place → b ≡ is_given v → k ≡ element_of v → r.kind ≡ set_of k → fault_key r.fault ≡ unless_key b (key (w + 1) 9)
      → TermSeen code e T T z r
  unfolding term_codes term_kind term_key
  term-empty r x v w k b en s xq vq wq bq eq kq fq = term-from code e en.fits T z 9 T r (omega arith) refl en.shape
      (λ g i ρ base y.
      let h = last-node code e en.fits base 9 i (name_number ρ g) 0 y in
      let vx : v ≡ entry T (name_number ρ g) = vq ∙ ap (entry T) (xq ∙ en.node.first_is ∙ h.is_first) in
      record {
        kind_is = kq ∙ ap set_of (eq ∙ ap element_of vx);
        fault_is = fq ∙ seen-unless 9 (bq ∙ ap is_given vx) (ap (λ (j : ℕ). j + 1) (wq ∙ en.node.place_is ∙ h.is_place));
        start_is = s ∙ sym h.long;
      })

  pub term-empty-pairs : (r : Seen) (x₁ x₂ v₁ v₂ w k₁ k₂ : ℕ) → EndsIn code e 10 n
      → r.start ≡ e - 4 → x₁ ≡ n.a → x₂ ≡ n.b → v₁ ≡ entry T x₁ → v₂ ≡ entry T x₂ → w ≡ n.place → k₁ ≡ element_of v₁ → k₂ ≡ element_of v₂ → r.kind ≡ pair_of k₁ k₂
      → fault_key r.fault ≡ lesser (unless_key (is_given v₁) (key (w + 1) 9)) (lesser (unless_key (is_given v₂) (key (w + 2) 9)) (over_key z v₁ v₂ w))
      → TermSeen code e T T z r
  unfolding term_codes term_kind term_key
  term-empty-pairs r x₁ x₂ v₁ v₂ w k₁ k₂ en s xq₁ xq₂ vq₁ vq₂ wq eq₁ eq₂ kq fq =
      term-from code e en.fits T z 10 T r (omega arith) refl en.shape
      (λ g g' i ρ base y.
      let h = last-node code e en.fits base 10 i (name_number ρ g) (name_number ρ g') y in
      let p₁ : v₁ ≡ entry T (name_number ρ g) = vq₁ ∙ ap (entry T) (xq₁ ∙ en.node.first_is ∙ h.is_first) in
      let p₂ : v₂ ≡ entry T (name_number ρ g') = vq₂ ∙ ap (entry T) (xq₂ ∙ en.node.second_is ∙ h.is_second) in
      let faults : ℕ → ℕ → ℕ → ℕ = λ j x y. lesser (unless_key (is_given x) (key (j + 1) 9)) (lesser (unless_key (is_given y) (key (j + 2) 9)) (over_key z x y j)) in
      record {
        kind_is = kq ∙ ap₂ pair_of (eq₁ ∙ ap element_of p₁) (eq₂ ∙ ap element_of p₂);
        fault_is = fq ∙ ap (λ (j : ℕ). faults j v₁ v₂) (wq ∙ en.node.place_is ∙ h.is_place) ∙ ap₂ (faults i) p₁ p₂;
        start_is = s ∙ sym h.long;
      })

  pub term-prefix : (U : Names) (v r : Seen) (b : Bool) → EndsIn code e 3 n → TermSeen code (e - 4) T U z v
      → PrefixFits n.a v.kind b → PrefixType n.a v.kind r.kind → r.start ≡ v.start → fault_key r.fault ≡ judged_key b (key n.place 10) (fault_key v.fault)
      → TermSeen code e T U z r
  unfolding term_codes term_kind term_key
  term-prefix U v r b en hv bq kq sq fq = term-from code e en.fits T z 3 U r (let f = hv.falls in omega arith) hv.kept en.shape
      (λ o t i ρ base y.
      let h = one-part code e en.fits base (term_codes t (suc i) ρ) 3 i (code_of (prefix_kind o)) 0 y in
      let s = hv.right t (suc i) ρ base h.before in
      let is : code_of (prefix_kind o) ≡ n.a = sym (en.node.first_is ∙ h.is_first) in
      record {
        kind_is = kq o is ∙ ap (prefix_type o) s.kind_is;
        fault_is = fq ∙ seen-judged (bq o is ∙ ap (prefix_fits o) s.kind_is) (en.node.place_is ∙ h.is_place) s.fault_is;
        start_is = sq ∙ s.start_is;
      })

  pub term-divided : (U : Names) (v r : Seen) (w₁ w₂ g m : ℕ) → EndsIn code e 4 n → TermSeen code (e - 4) T U z v
      → w₁ ≡ n.place → w₂ ≡ n.b % 2 → g ≡ unless_key (ltb 0 n.a) (key (w₁ + 1 + w₂) 14) → m ≡ lesser (fault_key v.fault) g
      → r.kind ≡ 1 → r.start ≡ v.start → fault_key r.fault ≡ judged_key (is_number v.kind) (key n.place 10) m
      → TermSeen code e T U z r
  unfolding term_codes term_kind term_key
  term-divided U v r w₁ w₂ g m en hv wq₁ wq₂ gq mq kq sq fq = term-from code e en.fits T z 4 U r (let f = hv.falls in omega arith) hv.kept en.shape
      (λ o t d i ρ base y.
      let h = one-part code e en.fits base (term_codes t i ρ) 4 (i + term_width t) d.magnitude (sign_of d.negative + division_number o) y in
      let s = hv.right t i ρ base h.before in
      let at : n.place ≡ i + term_width t = en.node.place_is ∙ h.is_place in
      let sign : w₂ ≡ sign_of d.negative = wq₂ ∙ ap (λ (x : ℕ). x % 2) (en.node.second_is ∙ h.is_second) ∙ sign-of d.negative o in
      record {
        kind_is = kq;
        fault_is = fq ∙ seen-judged (ap (λ (x : ℕ). is_number x) s.kind_is) at
            (mq ∙ ap₂ lesser s.fault_is (gq ∙ seen-unless 14 (ap (ltb 0) (en.node.first_is ∙ h.is_first)) (ap₂ (λ (x j : ℕ). x + 1 + j) (wq₁ ∙ at) sign)));
        start_is = sq ∙ s.start_is;
      })

  -- t and u, with an operator between them
  pub term-binary : (U : Names) (v : Sides) (r : Seen) (b : Bool) → EndsIn code e 5 n
      → SidesSeen code (e - 4) T U z v → OperatorFits n.a v.first v.second b
      → r.kind ≡ v.first → r.start ≡ v.start → fault_key r.fault ≡ judged_key b (key n.place 10) (fault_key v.fault)
      → TermSeen code e T U z r
  unfolding term_codes term_kind term_key
  term-binary U v r b en hv bq kq sq fq =
      term-from code e en.fits T z 5 U r (let f = hv.falls in omega arith) hv.kept en.shape
      (λ o t₁ t₂ i ρ base y.
      let j : ℕ = suc (i + term_width t₁) in
      let h = two-parts code e en.fits base (term_codes t₁ i ρ) (term_codes t₂ j ρ) 5 (i + term_width t₁) (code_of (operator_kind o)) 0 y in
      let s = hv.right t₁ t₂ i j ρ base h.before in
      record {
        kind_is = kq ∙ s.first_is;
        fault_is = fq ∙ seen-judged (bq o (sym (en.node.first_is ∙ h.is_first)) ∙ ap₂ (operator_fits o) s.first_is s.second_is) (en.node.place_is ∙ h.is_place) s.fault_is;
        start_is = sq ∙ s.start_is;
      })

  -- {x : G | p}
  pub term-such : (U : Names) (b r : Seen) → EndsIn code e 6 n
      → BoundSeen code (e - 4) n T U z b → r.kind ≡ set_of b.kind → r.start ≡ b.start → fault_key r.fault ≡ fault_key b.fault
      → TermSeen code e T U z r
  unfolding term_codes term_kind term_key domain_kind domain_key
  term-such U b r en hb kq sq fq =
      term-from code e en.fits T z 6 U r (let f = hb.falls in omega arith) hb.kept en.shape
      (λ y₁ g P i ρ base y.
      let h = two-parts code e en.fits base (pred_codes P (i + 5) ρ) (node 1 (i + 3) (name_number ρ g) 0) 6 i (number_of_name ρ y₁ no_ending) 0 y in
      let sB = hb.right (given_set g) P (i + 3) (i + 5) ρ base h.before in
      let xy : n.a ≡ number_of_name ρ y₁ no_ending = en.node.first_is ∙ h.is_first in
      record {
        kind_is = kq ∙ ap set_of sB.kind_is;
        fault_is = fq ∙ sB.fault_is ∙ seen-bound n.place (ap (λ (j : ℕ). j + 1) (en.node.place_is ∙ h.is_place)) (ap (entry T) xy) refl
            (ap (λ (x : ℕ). pred_key P (set T x (domain_kind (given_set g) T ρ)) ρ z (i + 5)) xy);
        start_is = sq ∙ sB.start_is;
      })

  -- {t, ...}, {t |-> t, ...}
  pub term-listed : (U : Names) (v r : Seen) (b : Bool) → EndsIn code e 7 n → ItemsSeen code (e - 4) T U z v
      → b ≡ is_element v.kind → r.kind ≡ set_of v.kind → r.start ≡ v.start → fault_key r.fault ≡ judged_key b (key n.place 10) (fault_key v.fault)
      → TermSeen code e T U z r
  unfolding term_codes term_kind term_key
  term-listed U v r b en hv bq kq sq fq = term-from code e en.fits T z 7 U r (let f = hv.falls in omega arith) hv.kept en.shape
      (λ ts i ρ base y.
      let h = one-part code e en.fits base (items_codes ts (suc i) ρ) 7 i 0 0 y in
      let s = hv.right ts (suc i) ρ base h.before in
      record {
        kind_is = kq ∙ ap set_of s.kind_is;
        fault_is = fq ∙ seen-judged (bq ∙ ap is_element s.kind_is) (en.node.place_is ∙ h.is_place) s.fault_is;
        start_is = sq ∙ s.start_is;
      })

  pub term-pairs : (U : Names) (v r : Seen) (m : ℕ) → EndsIn code e 8 n → PairsSeen code (e - 4) T U z v
      → m ≡ brace_key z v.kind n.place → r.kind ≡ v.kind → r.start ≡ v.start → fault_key r.fault ≡ inside_key (fault_key v.fault) m
      → TermSeen code e T U z r
  unfolding term_codes term_kind term_key
  term-pairs U v r m en hv mq kq sq fq = term-from code e en.fits T z 8 U r (let f = hv.falls in omega arith) hv.kept en.shape
      (λ ts i ρ base y.
      let h = one-part code e en.fits base (pairs_codes ts (suc i) ρ) 8 i 0 0 y in
      let s = hv.right ts (suc i) ρ base h.before in
      record {
        kind_is = kq ∙ s.kind_is;
        fault_is = fq ∙ ap₂ (λ (x y : ℕ). inside_key x y) s.fault_is (mq ∙ ap₂ (brace_key z) s.kind_is (en.node.place_is ∙ h.is_place));
        start_is = sq ∙ s.start_is;
      })
