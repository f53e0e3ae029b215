-- What the walk made that met the last node of a term: one law for each shape, from what its callees promise and the node that it wrote last.
use mathlib.Core.Path.{◌≡◌, refl, sym, ap, ap₂, ◌∙◌}
use mathlib.Core.List.{List, ◌++◌}
use Prim.Native.Nat.{ℕ, suc, ◌+◌, ◌-◌, ◌≤◌}
use native.Mathlib.Omega.{arith}
use lib.ListN.{length, get_or, set}
use Rattle.lexical.specs.Kinds.{code_of}
use Rattle.lexical.specs.Symbols.{no_ending}
use Rattle.form.specs.Tree.{given_set}
use Rattle.form.specs.Written.{prefix_kind, operator_kind}
use Rattle.form.specs.Codes.{node, name_number, number_of_name, sign_of, division_number, term_width, term_codes, items_codes, pairs_codes, pred_codes}
use Rattle.type_rules.specs.TypesByNumber.{Names, Sizes, entry, element_of, set_of, pair_of, prefix_type, domain_kind, term_kind, PrefixType}
use Rattle.typing.proofs.LastNodes.{last-node, one-part, two-parts, middle}
use Rattle.typing.proofs.TypeWalkTerms.{restored}
use Rattle.table_nodes.specs.declared.Made.{Made}
use Rattle.table_nodes.specs.TableByNumber.{Places, next_slot, first_size, second_size, placed, domain_table, term_table}
use Rattle.table_nodes.specs.TableWalkPromises.{patch, Walked, DomainMade, TermMade, ItemsMade, PairsMade, PredMade}
use Rattle.lowering.proofs.TableParts.{Noded, noded-long, leaf_walked, one-walked, then-walked, leaf-made, one-made, two_made}
use Rattle.lowering.proofs.TableWalk.{term-from, term-again, pred-again}

-- a node by its three numbers
pub node-is : (k : ℕ) {i j a c b d : ℕ} → i ≡ j → a ≡ c → b ≡ d → node k i a b ≡ node k j c d
node-is k p q r = λ x. node k (p x) (q x) (r x)

-- names and places after a binder: both are what they were
pub bound-walked : (e : ℕ) (T U₁ U₂ U₃ : Names) (W Y₁ Y₂ Y₃ : Places) (out o₁ o₂ nd o₃ : List ℕ) (d p r : Made) (x k old was s : ℕ) → 4 ≤ e → e ≤ length out
    → d.start ≤ e - 4 → length o₁ ≡ length out → Walked d.start U₁ U₂ Y₁ Y₂ o₁ o₂ p → U₁ ≡ set T x k → U₃ ≡ set U₂ x old → Y₁ ≡ set W x s → Y₃ ≡ set Y₂ x was
    → old ≡ entry T x → was ≡ entry W x → Noded e nd o₂ o₃ → r.start ≡ p.start → Walked e T U₃ W Y₃ out o₃ r
bound-walked e T U₁ U₂ U₃ W Y₁ Y₂ Y₃ out o₁ o₂ nd o₃ d p r x k old was s far room f g h u₁ u₃ y₁ y₃ oq wq n sq =
    let c = h.falls in
    let b = h.long in
    record {
      falls = omega arith;
      kept = restored T U₁ U₂ U₃ x k old u₁ h.kept u₃ oq;
      places_kept = restored W Y₁ Y₂ Y₃ x s was y₁ h.places_kept y₃ wq;
      long = noded-long e nd o₂ o₃ far (omega arith) n ∙ h.long ∙ g;
    }

module _ (code : List ℕ) (e s : ℕ) (l : e ≤ length code) (far : 4 ≤ e) (T : Names) (W : Places) (z : Sizes) (out : List ℕ) (lo : length code ≤ length out) where
  room : e ≤ length out
  room = omega arith

  pub term-number : (after : List ℕ) (r : Made) (a : ℕ) → get_or code (e - 4 + 3) 0 ≡ 1 → a ≡ get_or code (e - 4 + 1) 0
      → after ≡ patch (e - 4) (node 1 0 a 0) out → r.kind ≡ 1 → r.start ≡ e - 4 → TermMade code e s T T W W z out after r
  unfolding term_codes term_kind term_table
  term-number after r a q aq w kq sq =
      let n : Noded e (node 1 0 a 0) out after = record { four = refl; written = w } in
      term-from code e s l T W z out 1 T W after r (leaf_walked e T W out far room _ after r n sq) q
      (λ v i ρ base y.
      let h = last-node code e l base 1 i v 0 y in
      leaf-made e out far room r 1 (length base) (node 1 0 v 0) _ after n (node-is 1 refl (aq ∙ h.is_first) refl) kq sq h.long)

  pub term-name : (nd after : List ℕ) (r : Made) (x w : ℕ) → get_or code (e - 4 + 3) 0 ≡ 2 → x ≡ get_or code (e - 4 + 1) 0 → w ≡ entry W x
      → length nd ≡ 4 → nd ≡ placed w → after ≡ patch (e - 4) nd out → r.kind ≡ entry T x → r.start ≡ e - 4 → TermMade code e s T T W W z out after r
  unfolding term_codes term_kind term_table
  term-name nd after r x w q xq wq four nq p kq sq =
      let n : Noded e nd out after = record { four = four; written = p } in
      term-from code e s l T W z out 2 T W after r (leaf_walked e T W out far room nd after r n sq) q
      (λ g i ρ base y.
      let h = last-node code e l base 2 i (name_number ρ g) 0 y in
      let xg : x ≡ name_number ρ g = xq ∙ h.is_first in
      leaf-made e out far room r (entry T (name_number ρ g)) (length base) (placed (entry W (name_number ρ g))) nd after n
      (nq ∙ ap placed (wq ∙ ap (entry W) xg)) (kq ∙ ap (entry T) xg) sq h.long)

  -- empty G, empty G H
  pub term-empty : (after : List ℕ) (r : Made) (x v k : ℕ) → get_or code (e - 4 + 3) 0 ≡ 9 → x ≡ get_or code (e - 4 + 1) 0 → v ≡ entry T x → k ≡ element_of v
      → after ≡ patch (e - 4) (node 1 0 0 0) out → r.kind ≡ set_of k → r.start ≡ e - 4 → TermMade code e s T T W W z out after r
  unfolding term_codes term_kind term_table
  term-empty after r x v k q xq vq eq p kq sq =
      let n : Noded e (node 1 0 0 0) out after = record { four = refl; written = p } in
      term-from code e s l T W z out 9 T W after r (leaf_walked e T W out far room _ after r n sq) q
      (λ g i ρ base y.
      let h = last-node code e l base 9 i (name_number ρ g) 0 y in
      leaf-made e out far room r _ (length base) (node 1 0 0 0) _ after n refl
      (kq ∙ ap set_of (eq ∙ ap element_of (vq ∙ ap (entry T) (xq ∙ h.is_first)))) sq h.long)

  pub term-empty-pairs : (after : List ℕ) (r : Made) (x₁ x₂ v₁ v₂ k₁ k₂ : ℕ) → get_or code (e - 4 + 3) 0 ≡ 10 → x₁ ≡ get_or code (e - 4 + 1) 0 → x₂ ≡ get_or code (e - 4) 0
      → v₁ ≡ entry T x₁ → v₂ ≡ entry T x₂ → k₁ ≡ element_of v₁ → k₂ ≡ element_of v₂
      → after ≡ patch (e - 4) (node 1 0 0 0) out → r.kind ≡ pair_of k₁ k₂ → r.start ≡ e - 4 → TermMade code e s T T W W z out after r
  unfolding term_codes term_kind term_table
  term-empty-pairs after r x₁ x₂ v₁ v₂ k₁ k₂ q xq₁ xq₂ vq₁ vq₂ eq₁ eq₂ p kq sq =
      let n : Noded e (node 1 0 0 0) out after = record { four = refl; written = p } in
      term-from code e s l T W z out 10 T W after r (leaf_walked e T W out far room _ after r n sq) q
      (λ g g' i ρ base y.
      let h = last-node code e l base 10 i (name_number ρ g) (name_number ρ g') y in
      leaf-made e out far room r _ (length base) (node 1 0 0 0) _ after n refl
      (kq ∙ ap₂ pair_of (eq₁ ∙ ap element_of (vq₁ ∙ ap (entry T) (xq₁ ∙ h.is_first))) (eq₂ ∙ ap element_of (vq₂ ∙ ap (entry T) (xq₂ ∙ h.is_second)))) sq h.long)

  pub term-prefix : (U : Names) (Y : Places) (o₁ after : List ℕ) (v r : Made) (a f g : ℕ) → get_or code (e - 4 + 3) 0 ≡ 3 → TermMade code (e - 4) s T U W Y z out o₁ v
      → a ≡ get_or code (e - 4 + 1) 0 → f ≡ first_size z v.kind → g ≡ second_size z v.kind
      → after ≡ patch (e - 4) (node 3 f a g) o₁ → PrefixType a v.kind r.kind → r.start ≡ v.start → TermMade code e s T U W Y z out after r
  unfolding term_codes term_kind term_table
  term-prefix U Y o₁ after v r a f g q hv aq fq gq p kq sq =
      let n : Noded e (node 3 f a g) o₁ after = record { four = refl; written = p } in
      term-from code e s l T W z out 3 U Y after r (one-walked e T W out far room U Y o₁ _ after v r hv.walked n sq) q
      (λ o t i ρ base y.
      let h = one-part code e l base (term_codes t (suc i) ρ) 3 i (code_of (prefix_kind o)) 0 y in
      let m = hv.right t (suc i) ρ base h.before in
      let is : a ≡ code_of (prefix_kind o) = aq ∙ h.is_first in
      one-made e out far room r _ (length base) v _ _ o₁ _ _ after m n
      (node-is 3 (fq ∙ ap (first_size z) m.kind_is) is (gq ∙ ap (second_size z) m.kind_is)) (kq o (sym is) ∙ ap (prefix_type o) m.kind_is) sq)

  pub term-divided : (U : Names) (Y : Places) (o₁ after : List ℕ) (v r : Made) (a b : ℕ) → get_or code (e - 4 + 3) 0 ≡ 4 → TermMade code (e - 4) s T U W Y z out o₁ v
      → a ≡ get_or code (e - 4 + 1) 0 → b ≡ get_or code (e - 4) 0
      → after ≡ patch (e - 4) (node 4 0 a b) o₁ → r.kind ≡ 1 → r.start ≡ v.start → TermMade code e s T U W Y z out after r
  unfolding term_codes term_kind term_table
  term-divided U Y o₁ after v r a b q hv aq bq p kq sq =
      let n : Noded e (node 4 0 a b) o₁ after = record { four = refl; written = p } in
      term-from code e s l T W z out 4 U Y after r (one-walked e T W out far room U Y o₁ _ after v r hv.walked n sq) q
      (λ o t d i ρ base y.
      let h = one-part code e l base (term_codes t i ρ) 4 (i + term_width t) d.magnitude (sign_of d.negative + division_number o) y in
      one-made e out far room r 1 (length base) v _ _ o₁ _ _ after (hv.right t i ρ base h.before) n
      (node-is 4 refl (aq ∙ h.is_first) (bq ∙ h.is_second)) kq sq)

  -- t and u, with an operator between them
  pub term-binary : (U U' : Names) (Y Y' : Places) (o₁ o₂ after : List ℕ) (u v r : Made) (m a : ℕ) → get_or code (e - 4 + 3) 0 ≡ 5
      → TermMade code (e - 4) s T U W Y z out o₁ u → TermMade code u.start s U U' Y Y' z o₁ o₂ v → m ≡ u.start → a ≡ get_or code (e - 4 + 1) 0
      → after ≡ patch (e - 4) (node 5 m a 0) o₂ → r.kind ≡ v.kind → r.start ≡ v.start → TermMade code e s T U' W Y' z out after r
  unfolding term_codes term_kind term_table
  term-binary U U' Y Y' o₁ o₂ after u v r m a q hu hv₀ mq aq p kq sq =
      let n : Noded e (node 5 m a 0) o₂ after = record { four = refl; written = p } in
      let hv = term-again code u.start s T U U' W Y Y' z o₁ o₂ v hu.walked.kept hu.walked.places_kept hv₀ in
      let both = then-walked e T W out far room (e - 4) U U' Y Y' o₁ o₂ u v hu.walked hv₀.walked in
      term-from code e s l T W z out 5 U' Y' after r (one-walked e T W out far room U' Y' o₂ _ after v r both n sq) q
      (λ o t₁ t₂ i ρ base y.
      let j : ℕ = suc (i + term_width t₁) in
      let h = two-parts code e l base (term_codes t₁ i ρ) (term_codes t₂ j ρ) 5 (i + term_width t₁) (code_of (operator_kind o)) 0 y in
      let s₂ = hu.right t₂ j ρ (base ++ term_codes t₁ i ρ) h.before in
      let s₁ = hv.right t₁ i ρ base (middle code (e - 4) u.start (base ++ term_codes t₁ i ρ) (term_codes t₂ j ρ) h.before hu.walked.falls s₂.start_is) in
      two_made e out far room r _ (length base) (λ b. term_table t₂ T W z ρ s b) (λ b. node 5 b (code_of (operator_kind o)) 0) u v _ _ _ _ o₁ o₂ _ after s₂ s₁ n
      (node-is 5 mq (aq ∙ h.is_first) refl) (kq ∙ s₁.kind_is) sq)

  -- {x : G | p}
  pub term-such : (U₁ U₂ U₃ : Names) (Y₁ Y₂ Y₃ : Places) (o₁ o₂ after : List ℕ) (d p r : Made) (x old was s' : ℕ) → get_or code (e - 4 + 3) 0 ≡ 6
      → DomainMade code (e - 4) T z out o₁ d → PredMade code d.start s' U₁ U₂ Y₁ Y₂ z o₁ o₂ p → s' ≡ next_slot s
      → U₁ ≡ set T x d.kind → U₃ ≡ set U₂ x old → Y₁ ≡ set W x s → Y₃ ≡ set Y₂ x was → x ≡ get_or code (e - 4 + 1) 0 → old ≡ entry T x → was ≡ entry W x
      → after ≡ patch (e - 4) (node 6 0 s 0) o₂ → r.kind ≡ set_of d.kind → r.start ≡ p.start → TermMade code e s T U₃ W Y₃ z out after r
  unfolding term_codes term_kind term_table domain_kind
  term-such U₁ U₂ U₃ Y₁ Y₂ Y₃ o₁ o₂ after d p r x old was s' q hd hp nq u₁ u₃ y₁ y₃ xq oq wq w kq sq =
      let n : Noded e (node 6 0 s 0) o₂ after = record { four = refl; written = w } in
      term-from code e s l T W z out 6 U₃ Y₃ after r
      (bound-walked e T U₁ U₂ U₃ W Y₁ Y₂ Y₃ out o₁ o₂ _ after d p r x d.kind old was s far room hd.falls hd.long hp.walked u₁ u₃ y₁ y₃ oq wq n sq) q
      (λ c g P i ρ base y.
      let h = two-parts code e l base (pred_codes P (i + 5) ρ) (node 1 (i + 3) (name_number ρ g) 0) 6 i (number_of_name ρ c no_ending) 0 y in
      let sD = hd.right (given_set g) (i + 3) ρ (base ++ pred_codes P (i + 5) ρ) h.before in
      let xc : x ≡ number_of_name ρ c no_ending = xq ∙ h.is_first in
      let hq = pred-again code d.start (next_slot s) (set T (number_of_name ρ c no_ending) (element_of (entry T (name_number ρ g)))) U₁ U₂ (set W (number_of_name ρ c no_ending) s) Y₁ Y₂ z o₁ o₂ p
      s' nq (u₁ ∙ ap₂ (set T) xc sD.kind_is) (y₁ ∙ ap (λ (j : ℕ). set W j s) xc) hp in
      let sP = hq.right P (i + 5) ρ base (middle code (e - 4) d.start (base ++ pred_codes P (i + 5) ρ) (node 1 (i + 3) (name_number ρ g) 0) h.before hd.falls sD.start_is) in
      two_made e out far room r _ (length base) (λ b. domain_table (given_set g) T z ρ) (λ b. node 6 0 s 0) d p _ _ _ _ o₁ o₂ _ after sD sP n
      refl (kq ∙ ap set_of sD.kind_is) sq)

  -- {t, ...}, {t |-> t, ...}
  pub term-listed : (U : Names) (Y : Places) (o₁ after : List ℕ) (v r : Made) → get_or code (e - 4 + 3) 0 ≡ 7 → ItemsMade code (e - 4) s T U W Y z out o₁ v
      → after ≡ patch (e - 4) (node 7 0 0 0) o₁ → r.kind ≡ set_of v.kind → r.start ≡ v.start → TermMade code e s T U W Y z out after r
  unfolding term_codes term_kind term_table
  term-listed U Y o₁ after v r q hv p kq sq =
      let n : Noded e (node 7 0 0 0) o₁ after = record { four = refl; written = p } in
      term-from code e s l T W z out 7 U Y after r (one-walked e T W out far room U Y o₁ _ after v r hv.walked n sq) q
      (λ ts i ρ base y.
      let m = hv.right ts (suc i) ρ base (one-part code e l base (items_codes ts (suc i) ρ) 7 i 0 0 y).before in
      one-made e out far room r _ (length base) v _ _ o₁ _ _ after m n refl (kq ∙ ap set_of m.kind_is) sq)

  pub term-pairs : (U : Names) (Y : Places) (o₁ after : List ℕ) (v r : Made) → get_or code (e - 4 + 3) 0 ≡ 8 → PairsMade code (e - 4) s T U W Y z out o₁ v
      → after ≡ patch (e - 4) (node 8 0 0 0) o₁ → r.kind ≡ v.kind → r.start ≡ v.start → TermMade code e s T U W Y z out after r
  unfolding term_codes term_kind term_table
  term-pairs U Y o₁ after v r q hv p kq sq =
      let n : Noded e (node 8 0 0 0) o₁ after = record { four = refl; written = p } in
      term-from code e s l T W z out 8 U Y after r (one-walked e T W out far room U Y o₁ _ after v r hv.walked n sq) q
      (λ ts i ρ base y.
      let m = hv.right ts (suc i) ρ base (one-part code e l base (pairs_codes ts (suc i) ρ) 8 i 0 0 y).before in
      one-made e out far room r _ (length base) v _ _ o₁ _ _ after m n refl (kq ∙ m.kind_is) sq)
