-- What the walk made of the terms and pairs of a brace, from what its callees promise and the node that it wrote last.
use mathlib.Core.Path.{◌≡◌, refl, sym, ap, ap₂, ◌∙◌, subst}
use mathlib.Core.List.{List, ◌++◌}
use Prim.Native.Nat.{ℕ, suc, ◌+◌, ◌-◌, ◌≤◌}
use native.Mathlib.Omega.{arith}
use lib.ListN.{length, take, get_or}
use Rattle.form.specs.Tree.{Items, only, also, Pairs, only_pair, also_pair}
use Rattle.form.specs.Codes.{node, Numbering, term_width, term_codes, items_codes, pairs_codes}
use Rattle.type_rules.specs.TypesByNumber.{Names, Sizes, pair_of, shared, term_kind, items_kind, pairs_kind}
use Rattle.typing.proofs.LastNodes.{one-part, two-parts, three-parts, middle}
use Rattle.table_nodes.specs.declared.Made.{Made}
use Rattle.table_nodes.specs.TableByNumber.{Places, element_size, term_table, items_table, pairs_table}
use Rattle.table_nodes.specs.TableWalkPromises.{patch, Makes, TermMade, ItemsMade, PairsMade}
use Rattle.lowering.proofs.TableParts.{Noded, one-walked, then-walked, one-made, two_made, three_made}
use Rattle.lowering.proofs.TableWalk.{term-again}
use Rattle.lowering.proofs.TableWalkTerms.{node-is}

module _ (code : List ℕ) (e s : ℕ) (l : e ≤ length code) (far : 4 ≤ e) (T : Names) (W : Places) (z : Sizes) (out : List ℕ) (lo : length code ≤ length out) where
  room : e ≤ length out
  room = omega arith

  pub items-only : {x : ℕ} (U : Names) (Y : Places) (o₁ after : List ℕ) (v r : Made) → x ≡ e - 4 → get_or code (x + 3) 0 ≡ 1 → TermMade code x s T U W Y z out o₁ v
      → after ≡ patch x (node 9 0 0 0) o₁ → r.kind ≡ v.kind → r.start ≡ v.start → ItemsMade code e s T U W Y z out after r
  unfolding term_codes term_kind term_table
  items-only U Y o₁ after v r at q₀ hv₀ p kq sq = record { walked = one-walked e T W out far room U Y o₁ _ after v r hv.walked n sq; right = right }
    where
      n : Noded e (node 9 0 0 0) o₁ after
      n = record { four = refl; written = p ∙ ap (λ (x : ℕ). patch x (node 9 0 0 0) o₁) at }

      q : get_or code (e - 4 + 3) 0 ≡ 1
      q = ap (λ (x : ℕ). get_or code (x + 3) 0) (sym at) ∙ q₀

      hv : TermMade code (e - 4) s T U W Y z out o₁ v
      hv = subst (λ (x : ℕ). TermMade code x s T U W Y z out o₁ v) at hv₀

      right : (ts : Items) (i : ℕ) (ρ : Numbering) (base : List ℕ) → take e code ≡ base ++ items_codes ts i ρ
          → Makes r (items_kind ts T ρ) (length base) e (items_table ts T W z ρ s (length base)) out after
      right (only t) i ρ base y =
          let m = hv.right t i ρ base (one-part code e l base (term_codes t i ρ) 1 0 0 0 y).before in
          one-made e out far room r _ (length base) v _ _ o₁ _ _ after m n refl (kq ∙ m.kind_is) sq
      right (also t ts) i ρ base y =
          let h = (two-parts code e l base (term_codes t i ρ) (items_codes ts (suc (i + term_width t)) ρ) 2 0 0 0 y).is_shape in let f = q in absurd (omega arith)

  pub items-also : {x : ℕ} (U U' : Names) (Y Y' : Places) (o₁ o₂ after : List ℕ) (u v r : Made) (m : ℕ) → x ≡ e - 4 → (get_or code (x + 3) 0 ≡ 1 → ⊥)
      → ItemsMade code x s T U W Y z out o₁ u → TermMade code u.start s U U' Y Y' z o₁ o₂ v → m ≡ u.start
      → after ≡ patch x (node 10 m 0 0) o₂ → r.kind ≡ shared v.kind u.kind → r.start ≡ v.start → ItemsMade code e s T U' W Y' z out after r
  unfolding term_codes term_kind term_table
  items-also U U' Y Y' o₁ o₂ after u v r m at q₀ hu₀ hv₀ mq p kq sq = record {
    walked = one-walked e T W out far room U' Y' o₂ _ after v r (then-walked e T W out far room (e - 4) U U' Y Y' o₁ o₂ u v hu.walked hv₀.walked) n sq;
    right = right;
  }
    where
      n : Noded e (node 10 m 0 0) o₂ after
      n = record { four = refl; written = p ∙ ap (λ (x : ℕ). patch x (node 10 m 0 0) o₂) at }

      q : get_or code (e - 4 + 3) 0 ≡ 1 → ⊥
      q = subst (λ (x : ℕ). get_or code (x + 3) 0 ≡ 1 → ⊥) at q₀

      hu : ItemsMade code (e - 4) s T U W Y z out o₁ u
      hu = subst (λ (x : ℕ). ItemsMade code x s T U W Y z out o₁ u) at hu₀

      hv : TermMade code u.start s T U' W Y' z o₁ o₂ v
      hv = term-again code u.start s T U U' W Y Y' z o₁ o₂ v hu.walked.kept hu.walked.places_kept hv₀

      right : (ts : Items) (i : ℕ) (ρ : Numbering) (base : List ℕ) → take e code ≡ base ++ items_codes ts i ρ
          → Makes r (items_kind ts T ρ) (length base) e (items_table ts T W z ρ s (length base)) out after
      right (only t) i ρ base y = absurd (q (one-part code e l base (term_codes t i ρ) 1 0 0 0 y).is_shape)
      right (also t ts) i ρ base y =
          let j : ℕ = suc (i + term_width t) in
          let h = two-parts code e l base (term_codes t i ρ) (items_codes ts j ρ) 2 0 0 0 y in
          let s₂ = hu.right ts j ρ (base ++ term_codes t i ρ) h.before in
          let s₁ = hv.right t i ρ base (middle code (e - 4) u.start (base ++ term_codes t i ρ) (items_codes ts j ρ) h.before hu.walked.falls s₂.start_is) in
          two_made e out far room r _ (length base) (λ b. items_table ts T W z ρ s b) (λ b. node 10 b 0 0) u v _ _ _ _ o₁ o₂ _ after s₂ s₁ n
          (node-is 10 mq refl refl) (kq ∙ ap₂ shared s₁.kind_is s₂.kind_is) sq

  -- the last pair; another one
  pub pairs-only : (U U' : Names) (Y Y' : Places) (o₁ o₂ after : List ℕ) (u v r : Made) (m c : ℕ) → get_or code (e - 4 + 3) 0 ≡ 1
      → TermMade code (e - 4) s T U W Y z out o₁ u → TermMade code u.start s U U' Y Y' z o₁ o₂ v → m ≡ u.start → c ≡ element_size z u.kind
      → after ≡ patch (e - 4) (node 11 m c 0) o₂ → r.kind ≡ pair_of v.kind u.kind → r.start ≡ v.start → PairsMade code e s T U' W Y' z out after r
  unfolding term_codes term_kind term_table
  pairs-only U U' Y Y' o₁ o₂ after u v r m c q hu hv₀ mq cq p kq sq = record {
    walked = one-walked e T W out far room U' Y' o₂ _ after v r (then-walked e T W out far room (e - 4) U U' Y Y' o₁ o₂ u v hu.walked hv₀.walked) n sq;
    right = right;
  }
    where
      n : Noded e (node 11 m c 0) o₂ after
      n = record { four = refl; written = p }

      hv : TermMade code u.start s T U' W Y' z o₁ o₂ v
      hv = term-again code u.start s T U U' W Y Y' z o₁ o₂ v hu.walked.kept hu.walked.places_kept hv₀

      right : (ts : Pairs) (i : ℕ) (ρ : Numbering) (base : List ℕ) → take e code ≡ base ++ pairs_codes ts i ρ
          → Makes r (pairs_kind ts T ρ) (length base) e (pairs_table ts T W z ρ s (length base)) out after
      right (only_pair t₁ t₂) i ρ base y =
          let j : ℕ = suc (i + term_width t₁) in
          let h = two-parts code e l base (term_codes t₁ i ρ) (term_codes t₂ j ρ) 1 0 0 0 y in
          let s₂ = hu.right t₂ j ρ (base ++ term_codes t₁ i ρ) h.before in
          let s₁ = hv.right t₁ i ρ base (middle code (e - 4) u.start (base ++ term_codes t₁ i ρ) (term_codes t₂ j ρ) h.before hu.walked.falls s₂.start_is) in
          two_made e out far room r _ (length base) (λ b. term_table t₂ T W z ρ s b) (λ b. node 11 b (element_size z (term_kind t₂ T ρ)) 0) u v _ _ _ _ o₁ o₂ _ after s₂ s₁ n
          (node-is 11 mq (cq ∙ ap (element_size z) s₂.kind_is) refl) (kq ∙ ap₂ pair_of s₁.kind_is s₂.kind_is) sq
      right (also_pair t u ts) i ρ base y =
          let h = (three-parts code e l base (term_codes t i ρ) (term_codes u (suc (i + term_width t)) ρ) (pairs_codes ts (suc (suc (i + term_width t) + term_width u)) ρ) 2 0 0 0 y).is_shape in
          absurd (omega arith)

  pub pairs-also : (U U' U'' : Names) (Y Y' Y'' : Places) (o₁ o₂ o₃ after : List ℕ) (w u v r : Made) (k m c d : ℕ) → (get_or code (e - 4 + 3) 0 ≡ 1 → ⊥)
      → PairsMade code (e - 4) s T U W Y z out o₁ w → TermMade code w.start s U U' Y Y' z o₁ o₂ u → TermMade code u.start s U' U'' Y' Y'' z o₂ o₃ v
      → m ≡ u.start → c ≡ element_size z u.kind → d ≡ w.start → k ≡ pair_of v.kind u.kind
      → after ≡ patch (e - 4) (node 12 m c d) o₃ → r.kind ≡ shared k w.kind → r.start ≡ v.start → PairsMade code e s T U'' W Y'' z out after r
  unfolding term_codes term_kind term_table
  pairs-also U U' U'' Y Y' Y'' o₁ o₂ o₃ after w u v r k m c d q hw hu₀ hv₀ mq cq dq lq p kq sq = record {
    walked = one-walked e T W out far room U'' Y'' o₃ _ after v r
        (then-walked e T W out far room (e - 4) U' U'' Y' Y'' o₂ o₃ u v (then-walked e T W out far room (e - 4) U U' Y Y' o₁ o₂ w u hw.walked hu₀.walked) hv₀.walked) n sq;
    right = right;
  }
    where
      n : Noded e (node 12 m c d) o₃ after
      n = record { four = refl; written = p }

      hu : TermMade code w.start s T U' W Y' z o₁ o₂ u
      hu = term-again code w.start s T U U' W Y Y' z o₁ o₂ u hw.walked.kept hw.walked.places_kept hu₀

      hv : TermMade code u.start s T U'' W Y'' z o₂ o₃ v
      hv = term-again code u.start s T U' U'' W Y' Y'' z o₂ o₃ v hu.walked.kept hu.walked.places_kept hv₀

      right : (ts : Pairs) (i : ℕ) (ρ : Numbering) (base : List ℕ) → take e code ≡ base ++ pairs_codes ts i ρ
          → Makes r (pairs_kind ts T ρ) (length base) e (pairs_table ts T W z ρ s (length base)) out after
      right (only_pair t₁ t₂) i ρ base y = absurd (q (two-parts code e l base (term_codes t₁ i ρ) (term_codes t₂ (suc (i + term_width t₁)) ρ) 1 0 0 0 y).is_shape)
      right (also_pair t₁ t₂ ts) i ρ base y =
          let j : ℕ = suc (i + term_width t₁) in
          let j₂ : ℕ = suc (j + term_width t₂) in
          let h = three-parts code e l base (term_codes t₁ i ρ) (term_codes t₂ j ρ) (pairs_codes ts j₂ ρ) 2 0 0 0 y in
          let s₃ = hw.right ts j₂ ρ ((base ++ term_codes t₁ i ρ) ++ term_codes t₂ j ρ) h.before in
          let y₂ = middle code (e - 4) w.start ((base ++ term_codes t₁ i ρ) ++ term_codes t₂ j ρ) (pairs_codes ts j₂ ρ) h.before hw.walked.falls s₃.start_is in
          let s₂ = hu.right t₂ j ρ (base ++ term_codes t₁ i ρ) y₂ in
          let s₁ = hv.right t₁ i ρ base (middle code w.start u.start (base ++ term_codes t₁ i ρ) (term_codes t₂ j ρ) y₂ hu.walked.falls s₂.start_is) in
          three_made e out far room r _ (length base) (λ b. term_table t₂ T W z ρ s b) (λ b. pairs_table ts T W z ρ s b) (λ b b₂. node 12 b (element_size z (term_kind t₂ T ρ)) b₂)
          w u v _ _ _ _ _ _ o₁ o₂ o₃ _ after s₃ s₂ s₁ n
          (node-is 12 mq (cq ∙ ap (element_size z) s₂.kind_is) dq) (kq ∙ ap₂ shared (lq ∙ ap₂ pair_of s₁.kind_is s₂.kind_is) s₃.kind_is) sq
