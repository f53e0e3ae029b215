-- What the walk promises of every tree that ends in a node of one shape, from what holds of the trees of one constructor.
use mathlib.Core.Path.{◌≡◌, refl, sym, ◌∙◌, subst}
use mathlib.Core.List.{List, [], ◌++◌}
use Prim.Native.Nat.{ℕ, ◌+◌, ◌-◌, ◌≤◌, ◌<◌}
use native.Mathlib.Omega.{arith}
use lib.ListN.{length, take, get_or}
use Rattle.std.specs.Prelude.{None}
use Rattle.form.specs.Tree.{Term, Pred}
use Rattle.form.specs.Codes.{Numbering, term_codes, pred_codes}
use Rattle.type_rules.specs.declared.Seen.{Seen}
use Rattle.type_rules.specs.TypesByNumber.{Names, Sizes, term_kind}
use Rattle.typing.proofs.LastNodes.{shape_is, too_short, ends_d, ends_t, ends_i, ends_q, ends_p, CaseT, pick_t, CaseP, pick_p, term-rest, pred-rest}
use Rattle.table_nodes.specs.declared.Made.{Made}
use Rattle.table_nodes.specs.TableByNumber.{Places, term_table, pred_table}
use Rattle.table_nodes.specs.TableWalkPromises.{Makes, Walked, DomainMade, TermMade, ItemsMade, PairsMade, PredMade}

-- what was made of a tree t that begins at i
abbrev pub RightT : List ℕ → (e s : ℕ) → Names → Places → Sizes → (out after : List ℕ) → Made → Term → ℕ → Type 0
RightT code e s T W z out after r t i =
    (ρ : Numbering) (base : List ℕ) → take e code ≡ base ++ term_codes t i ρ
    → Makes r (term_kind t T ρ) (length base) e (term_table t T W z ρ s (length base)) out after

abbrev pub RightP : List ℕ → (e s : ℕ) → Names → Places → Sizes → (out after : List ℕ) → Made → Pred → ℕ → Type 0
RightP code e s T W z out after r p i =
    (ρ : Numbering) (base : List ℕ) → take e code ≡ base ++ pred_codes p i ρ
    → Makes r 0 (length base) e (pred_table p T W z ρ s (length base)) out after

-- no tree ends in a node of another shape: the pass over names and types would see two kinds of it
a_kind : ℕ → Seen
a_kind k = record { kind = k; fault = None; start = 0 }

no-term : (code : List ℕ) (e : ℕ) (l : e ≤ length code) → (1 ≤ get_or code (e - 4 + 3) 0 → get_or code (e - 4 + 3) 0 ≤ 10 → ⊥)
    → (t : Term) (i : ℕ) (ρ : Numbering) (base : List ℕ) → take e code ≡ base ++ term_codes t i ρ → ⊥
unfolding a_kind
no-term code e l n t i ρ base y =
    let a : ◌≡◌ {A = ℕ} 0 (term_kind t [] ρ) = ((term-rest code e l [] [] (a_kind 0) refl n).right t i ρ base y).kind_is in
    let b : ◌≡◌ {A = ℕ} 1 (term_kind t [] ρ) = ((term-rest code e l [] [] (a_kind 1) refl n).right t i ρ base y).kind_is in
    let c : ◌≡◌ {A = ℕ} 0 1 = a ∙ sym b in
    absurd (omega arith)

no_pred : (code : List ℕ) (e : ℕ) (l : e ≤ length code) → (1 ≤ get_or code (e - 4 + 3) 0 → get_or code (e - 4 + 3) 0 ≤ 8 → ⊥)
    → (p : Pred) (i : ℕ) (ρ : Numbering) (base : List ℕ) → take e code ≡ base ++ pred_codes p i ρ → ⊥
unfolding a_kind
no_pred code e l n p i ρ base y = let b : ◌≡◌ {A = ℕ} 1 0 = ((pred-rest code e l [] [] (a_kind 1) refl n).right p i ρ base y).kind_is in absurd (omega arith)

-- a promise from names and places that are those of before
module _ (code : List ℕ) (e s : ℕ) (T U U' : Names) (W Y Y' : Places) (z : Sizes) (o o' : List ℕ) (v : Made) where
  pub term-again : U ≡ T → Y ≡ W → TermMade code e s U U' Y Y' z o o' v → TermMade code e s T U' W Y' z o o' v
  term-again p q h =
      subst (λ (X : Names). TermMade code e s X U' W Y' z o o' v) p (subst (λ (Q : Places). TermMade code e s U U' Q Y' z o o' v) q h)

  pub pred-again : (s₀ : ℕ) → s₀ ≡ s → U ≡ T → Y ≡ W → PredMade code e s₀ U U' Y Y' z o o' v → PredMade code e s T U' W Y' z o o' v
  pred-again s₀ n p q h =
      subst (λ (m : ℕ). PredMade code e m T U' W Y' z o o' v) n
      (subst (λ (X : Names). PredMade code e s₀ X U' W Y' z o o' v) p (subst (λ (Q : Places). PredMade code e s₀ U U' Q Y' z o o' v) q h))

module _ (code : List ℕ) (e s : ℕ) (l : e ≤ length code) (T : Names) (W : Places) (z : Sizes) (out : List ℕ) where
  pub term-from : (k : ℕ) (U : Names) (Y : Places) (after : List ℕ) (r : Made) → Walked e T U W Y out after r → get_or code (e - 4 + 3) 0 ≡ k
      → CaseT k (RightT code e s T W z out after r) → TermMade code e s T U W Y z out after r
  unfolding term_codes term_kind term_table
  term-from k U Y after r w q h = record {
    walked = w;
    right = λ t i ρ base y. pick_t (RightT code e s T W z out after r) (λ t i h. h) t i
        (subst (λ (n : ℕ). CaseT n (RightT code e s T W z out after r)) (sym q ∙ shape_is code e l base (ends_t t i ρ) y) h) ρ base y;
  }

  pub pred-from : (k : ℕ) (U : Names) (Y : Places) (after : List ℕ) (r : Made) → Walked e T U W Y out after r → get_or code (e - 4 + 3) 0 ≡ k
      → CaseP k (RightP code e s T W z out after r) → PredMade code e s T U W Y z out after r
  unfolding term_codes term_table
  pred-from k U Y after r w q h = record {
    walked = w;
    right = λ p i ρ base y. pick_p (RightP code e s T W z out after r) (λ p i h. h) p i
        (subst (λ (n : ℕ). CaseP n (RightP code e s T W z out after r)) (sym q ∙ shape_is code e l base (ends_p p i ρ) y) h) ρ base y;
  }

  -- nothing is written where no nodes of a tree end
  unmoved : (r : Made) → r.start ≡ 0 → Walked e T T W W out out r
  unmoved r q = record { falls = omega arith; kept = refl; places_kept = refl; long = refl }

  pub domain-short : (r : Made) → r.start ≡ 0 → e < 4 → DomainMade code e T z out out r
  domain-short r q lt = record { falls = omega arith; long = refl; right = λ d i ρ base y. absurd (too_short code e l base (ends_d d i ρ) lt y) }

  pub term-short : (r : Made) → r.start ≡ 0 → e < 4 → TermMade code e s T T W W z out out r
  term-short r q lt = record { walked = unmoved r q; right = λ t i ρ base y. absurd (too_short code e l base (ends_t t i ρ) lt y) }

  pub items-short : (r : Made) → r.start ≡ 0 → e < 4 → ItemsMade code e s T T W W z out out r
  items-short r q lt = record { walked = unmoved r q; right = λ t i ρ base y. absurd (too_short code e l base (ends_i t i ρ) lt y) }

  pub pairs-short : (r : Made) → r.start ≡ 0 → e < 4 → PairsMade code e s T T W W z out out r
  pairs-short r q lt = record { walked = unmoved r q; right = λ t i ρ base y. absurd (too_short code e l base (ends_q t i ρ) lt y) }

  pub pred-short : (r : Made) → r.start ≡ 0 → e < 4 → PredMade code e s T T W W z out out r
  pred-short r q lt = record { walked = unmoved r q; right = λ p i ρ base y. absurd (too_short code e l base (ends_p p i ρ) lt y) }

  pub term-other : {m : ℕ} (r : Made) → r.start ≡ 0 → m ≡ e - 4 → (1 ≤ get_or code (m + 3) 0 → get_or code (m + 3) 0 ≤ 10 → ⊥) → TermMade code e s T T W W z out out r
  term-other r q at n = record {
    walked = unmoved r q;
    right = λ t i ρ base y. absurd (no-term code e l (subst (λ (m : ℕ). 1 ≤ get_or code (m + 3) 0 → get_or code (m + 3) 0 ≤ 10 → ⊥) at n) t i ρ base y);
  }

  pub pred_other : {m : ℕ} (r : Made) → r.start ≡ 0 → m ≡ e - 4 → (1 ≤ get_or code (m + 3) 0 → get_or code (m + 3) 0 ≤ 8 → ⊥) → PredMade code e s T T W W z out out r
  pred_other r q at n = record {
    walked = unmoved r q;
    right = λ p i ρ base y. absurd (no_pred code e l (subst (λ (m : ℕ). 1 ≤ get_or code (m + 3) 0 → get_or code (m + 3) 0 ≤ 8 → ⊥) at n) p i ρ base y);
  }
