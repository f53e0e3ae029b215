-- States that do the same over more than one symbol: behind in and notin, and behind {.
use mathlib.Core.Path.{◌≡◌, refl, ap, ◌∙◌, sym}
use mathlib.Core.Bool.{Bool, true, false}
use mathlib.Core.List.{List, [], ◌∷◌}
use Prim.Native.Nat.{ℕ, suc, ◌+◌, ◌≤◌, ◌<◌}
use native.Mathlib.Omega.{arith}
use lib.Dec.{eqb, ltb}
use lib.ListN.{length, get_or, get_or-eq_default}
use borrow.Author.Tests.{eqb-true, eqb-false, ltb-true, ltb-false}
use Rattle.lexical.specs.Kinds as kind
use Rattle.lexical.specs.Kinds.{Kind, code_of, is, lookup}
use Rattle.form.specs.Written.{unmarked, opens, binds}
use Rattle.form.specs.Machine.{Item, exact, an_end, a_term, an_operand, a_term_rest, a_right, a_neg, a_num_rest, a_brace, a_named, a_first}
use Rattle.form.specs.Machine.{Act, take, skip, then, nothing, starts, start_term, operate, act, does, step}
use Rattle.form_nodes.specs.FormPromises.{Reads, Ranged, positive, negative, unranged, range_end_at}
use Rattle.form.specs.Computed.{compute_form}
use Rattle.form_nodes.specs.FormPromises.{Answer}
use Rattle.form_nodes.proofs.Classes.{lookup-miss}
use Rattle.form_nodes.proofs.ReadParts.{only, here, takes, taken, joined, Alike, alike, alike-now, alike_then}
use Rattle.form_nodes.proofs.RangeEnds.{is-end, range-well, used-well}
use Rattle.form_nodes.proofs.SameSteps.{frame, named, unnamed}

-- only a place inside has a code
pub inside : (s : List ℕ) (i : ℕ) → 1 ≤ get_or s i 0 → i < length s
inside s i h = on (ltb i (length s)) refl
  where
    on : (b : Bool) → ltb i (length s) ≡ b → i < length s
    on true q = ltb-true i (length s) q
    on false q = let e : get_or s i 0 ≡ 0 = get_or-eq_default s 0 (ltb-false i (length s) q) in absurd (omega arith)

past : (s : List ℕ) (i : ℕ) → 1 ≤ get_or s i 0 → i + 1 ≤ length s
past s i h = let l : i < length s = inside s i h in omega arith

-- what stands behind the { at a place, unless x :
pub as-listed : (s : List ℕ) (at d b : ℕ) → get_or s at 0 ≡ 19 → (get_or s (at + 1) 0 ≡ 2 → get_or s (at + 1 + 1) 0 ≡ 10 → ⊥)
    → Alike s (at + 1) (a_brace d b ∷ []) (a_term d b ∷ a_first d b ∷ [])
unfolding compute_form
as-listed s at d b o f = on (eqb (get_or s (at + 1) 0) 2) refl
  where
    on : (t : Bool) → eqb (get_or s (at + 1) 0) 2 ≡ t → Alike s (at + 1) (a_brace d b ∷ []) (a_term d b ∷ a_first d b ∷ [])
    on true q =
        let p : get_or s (at + 1) 0 ≡ 2 = eqb-true (get_or s (at + 1) 0) 2 q in
        alike_then s (at + 1) (a_brace d b ∷ []) (a_term d b ∷ a_first d b ∷ []) (a_named d b ∷ []) (a_term_rest d b ∷ a_first d b ∷ []) (binds (suc b)) unmarked
        (inside s (at + 1) (omega arith))
        (only _ kind.plain p (λ γ. refl))
        (only _ kind.plain p (λ γ. refl))
        (used-well s at (suc b) o (f p))
        (alike-now s (at + 1 + 1) (a_named d b ∷ []) (a_term_rest d b ∷ a_first d b ∷ []) (λ κ e γ. named d b κ γ (λ c. f p (sym e ∙ c))) (λ γ. refl))
    on false q =
        alike-now s (at + 1) (a_brace d b ∷ []) (a_term d b ∷ a_first d b ∷ []) (λ κ e γ. unnamed d b κ γ (λ c. eqb-false (get_or s (at + 1) 0) 2 q (sym e ∙ c))) (λ γ. refl)

-- a number behind in or notin, and no ..
unending : (d b : ℕ) (κ : Kind) (γ : List Item) → (code_of κ ≡ code_of kind.up_to → ⊥) → step (a_num_rest d b ∷ γ) κ ≡ step (a_term_rest d b ∷ γ) κ
unfolding act step
unending d b κ γ f =
    ap (λ (a : Act). does a γ (step γ κ)) (lookup-miss ((kind.up_to, then (an_end ∷ [])) ∷ []) (operate d b [] skip κ) κ (f, tt))

unsigned : (d b : ℕ) (κ : Kind) (γ : List Item) → (code_of κ ≡ code_of kind.number → ⊥) → step (a_neg d b ∷ γ) κ ≡ step (an_operand (suc d) b ∷ a_term_rest d b ∷ γ) κ
unfolding act step start_term
unsigned d b κ γ f =
    ap (λ (a : Act). does a γ (step γ κ)) (lookup-miss ((kind.number, then (a_num_rest d b ∷ [])) ∷ []) (start_term (suc d) b (a_term_rest d b ∷ []) κ) κ (f, tt))
    ∙ frame (suc d) b (lookup starts nothing κ) [] (a_term_rest d b ∷ []) γ (step γ κ) (step (a_term_rest d b ∷ γ) κ)

otherwise : (d b : ℕ) (κ : Kind) (γ : List Item) → (code_of κ ≡ code_of kind.number → ⊥) → (code_of κ ≡ code_of kind.minus → ⊥) → step (a_right d b ∷ γ) κ ≡ step (a_term d b ∷ γ) κ
unfolding act step start_term
otherwise d b κ γ f g =
    ap (λ (a : Act). does a γ (step γ κ))
    (lookup-miss ((kind.number, then (a_num_rest d b ∷ [])) ∷ (kind.minus, take (opens (suc d)) (a_neg d b ∷ [])) ∷ []) (start_term d b (a_term_rest d b ∷ []) κ) κ (f, (g, tt)))

as_neg : (s : List ℕ) (at d b : ℕ) → (get_or s at 0 ≡ 1 → get_or s (at + 1) 0 ≡ 21 → ⊥) → Alike s at (a_neg d b ∷ []) (an_operand (suc d) b ∷ a_term_rest d b ∷ [])
unfolding compute_form
as_neg s at d b f = on (eqb (get_or s at 0) 1) refl
  where
    on : (t : Bool) → eqb (get_or s at 0) 1 ≡ t → Alike s at (a_neg d b ∷ []) (an_operand (suc d) b ∷ a_term_rest d b ∷ [])
    on true q =
        let p : get_or s at 0 ≡ 1 = eqb-true (get_or s at 0) 1 q in
        alike_then s at (a_neg d b ∷ []) (an_operand (suc d) b ∷ a_term_rest d b ∷ []) (a_num_rest d b ∷ []) (a_term_rest d b ∷ []) unmarked unmarked (inside s at (omega arith))
        (only _ kind.number p (λ γ. refl))
        (only _ kind.number p (λ γ. refl))
        (λ w e. refl)
        (alike-now s (at + 1) (a_num_rest d b ∷ []) (a_term_rest d b ∷ []) (λ κ e γ. unending d b κ γ (λ c. f p (sym e ∙ c))) (λ γ. refl))
    on false q = alike-now s at (a_neg d b ∷ []) (an_operand (suc d) b ∷ a_term_rest d b ∷ []) (λ κ e γ. unsigned d b κ γ (λ c. eqb-false (get_or s at 0) 1 q (sym e ∙ c))) (λ γ. refl)

-- a term, and no range, behind in or notin
as-right : (s : List ℕ) (at d b : ℕ) → (get_or s at 0 ≡ 1 → get_or s (at + 1) 0 ≡ 21 → ⊥) → (get_or s at 0 ≡ 29 → get_or s (at + 1) 0 ≡ 1 → get_or s (at + 1 + 1) 0 ≡ 21 → ⊥)
    → Alike s at (a_right d b ∷ []) (a_term d b ∷ [])
unfolding compute_form
as-right s at d b f g = on (eqb (get_or s at 0) 1) refl (eqb (get_or s at 0) 29) refl
  where
    on : (t : Bool) → eqb (get_or s at 0) 1 ≡ t → (v : Bool) → eqb (get_or s at 0) 29 ≡ v → Alike s at (a_right d b ∷ []) (a_term d b ∷ [])
    on true q v e =
        let p : get_or s at 0 ≡ 1 = eqb-true (get_or s at 0) 1 q in
        alike_then s at (a_right d b ∷ []) (a_term d b ∷ []) (a_num_rest d b ∷ []) (a_term_rest d b ∷ []) unmarked unmarked (inside s at (omega arith))
        (only _ kind.number p (λ γ. refl))
        (only _ kind.number p (λ γ. refl))
        (λ w e. refl)
        (alike-now s (at + 1) (a_num_rest d b ∷ []) (a_term_rest d b ∷ []) (λ κ e γ. unending d b κ γ (λ c. f p (sym e ∙ c))) (λ γ. refl))
    on false q true e =
        let p : get_or s at 0 ≡ 29 = eqb-true (get_or s at 0) 29 e in
        alike_then s at (a_right d b ∷ []) (a_term d b ∷ []) (a_neg d b ∷ []) (an_operand (suc d) b ∷ a_term_rest d b ∷ []) (opens (suc d)) (opens (suc d)) (inside s at (omega arith))
        (only _ kind.minus p (λ γ. refl))
        (only _ kind.minus p (λ γ. refl))
        (λ w e. refl) (as_neg s (at + 1) d b (g p))
    on false q false e =
        alike-now s at (a_right d b ∷ []) (a_term d b ∷ [])
        (λ κ h γ. otherwise d b κ γ (λ c. eqb-false (get_or s at 0) 1 q (sym h ∙ c)) (λ c. eqb-false (get_or s at 0) 29 e (sym h ∙ c))) (λ γ. refl)

pub right-term : {s : List ℕ} {at n d b : ℕ} {ο : List Item} {r : Answer} → Ranged s at false → Reads s at n (a_term d b ∷ []) ο r → Reads s at n (a_right d b ∷ []) ο r
right-term {s} {at} {d = d} {b} (unranged f g) a = alike (as-right s at d b f g) a

-- a range behind the in or notin at p
pub right-range : {s : List ℕ} (p : ℕ) {n d b : ℕ} {ο : List Item} {r : Answer} → 56 ≤ get_or s p 0 → get_or s p 0 ≤ 57 → Ranged s (p + 1) true
    → Reads s (p + 1) n (an_end ∷ exact kind.up_to ∷ an_end ∷ []) ο r → Reads s (p + 1) n (a_right d b ∷ []) ο r
unfolding compute_form
right-range {s} p {n} {d} {b} lo hi (positive x y) a =
    joined {m = 0} {c = 0} {d = 0} {ρ = an_end ∷ []}
    (takes {μ = a_num_rest d b ∷ []} {m = 0} (inside s (p + 1) (omega arith)) (only _ kind.number x (λ γ. refl))
    (takes {μ = an_end ∷ []} {m = 0} (inside s (p + 1 + 1) (omega arith)) (only _ kind.up_to y (λ γ. refl)) (here (past s (p + 1 + 1) (omega arith))) (omega arith)) (omega arith))
    (takes {μ = exact kind.up_to ∷ an_end ∷ []} {m = 0} (inside s (p + 1) (omega arith)) (only _ kind.number x (λ γ. refl))
    (takes {μ = an_end ∷ []} {m = 0} (inside s (p + 1 + 1) (omega arith)) (only _ kind.up_to y (λ γ. refl)) (here (past s (p + 1 + 1) (omega arith))) (omega arith)) (omega arith))
    a
right-range {s} p {n} {d} {b} lo hi (negative x y z) a =
    let e : range_end_at s (p + 1) ≡ true = is-end s p (p + 1) (omega arith) lo hi x y (ap (λ (j : ℕ). get_or s j 0) (omega arith) ∙ z) in
    joined {m = 0} {c = 0} {d = 0} {ρ = an_end ∷ []}
    (taken {μ = a_neg d b ∷ []} {m = 0} (opens (suc d)) (inside s (p + 1) (omega arith)) (range-well s (p + 1) (suc d) e)
    (only _ kind.minus x (λ γ. refl))
    (takes {μ = a_num_rest d b ∷ []} {m = 0} (inside s (p + 1 + 1) (omega arith)) (only _ kind.number y (λ γ. refl))
    (takes {μ = an_end ∷ []} {m = 0} (inside s (p + 1 + 1 + 1) (omega arith)) (only _ kind.up_to z (λ γ. refl)) (here (past s (p + 1 + 1 + 1) (omega arith))) (omega arith)) (omega arith)) (omega arith))
    (takes {μ = exact kind.number ∷ exact kind.up_to ∷ an_end ∷ []} {m = 0} (inside s (p + 1) (omega arith)) (only _ kind.minus x (λ γ. refl))
    (takes {μ = exact kind.up_to ∷ an_end ∷ []} {m = 0} (inside s (p + 1 + 1) (omega arith)) (only _ kind.number y (λ γ. refl))
    (takes {μ = an_end ∷ []} {m = 0} (inside s (p + 1 + 1 + 1) (omega arith)) (only _ kind.up_to z (λ γ. refl)) (here (past s (p + 1 + 1 + 1) (omega arith))) (omega arith)) (omega arith)) (omega arith))
    a
