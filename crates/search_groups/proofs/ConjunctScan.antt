-- A scan over nodes, four numbers at a time, finds the last variable of each group.
use mathlib.Core.Path.{◌≡◌, refl, sym, ap, ◌∙◌}
use mathlib.Core.Bool.{Bool, ◌&&◌, cond}
use mathlib.Core.List.{List, [], ◌∷◌, ◌++◌}
use Prim.Native.Nat.{ℕ, ◌+◌, ◌-◌, ◌<◌, max}
use native.Mathlib.Nat.{max-zero, zero-max}
use native.Mathlib.Omega.{arith}
use lib.Dec.{leb, ltb}
use lib.ListN.{length, get_or}
use borrow.Author.Tests.{eq-eqb, ne_eqb}
use Rattle.std.specs.Ordering.{is_le, is_lt, nat_cmp}
use Rattle.lexical.proofs.RangeTests.{in_range}
use Rattle.search_groups.specs.Conjuncts.{last_in}
use Rattle.search_groups.specs.GroupPromises.{slot_here, slots_at, EachLast, Noted, LastsOf, LastsAhead}
use Rattle.search_groups.specs.declared.conjuncts.Mentioned.{Mentioned}

max_assoc : (a b c : ℕ) → max (max a b) c ≡ max a (max b c)
max_assoc a b c = omega arith

last-append : (base n : ℕ) (x y : List ℕ) → last_in base n (x ++ y) ≡ max (last_in base n x) (last_in base n y)
unfolding last_in
last-append base n [] y = sym (zero-max (last_in base n y))
last-append base n (s ∷ x) y =
    let v : ℕ = cond (leb base s && ltb s (base + n)) (s - base + 1) 0 in
    ap (max v) (last-append base n x y) ∙ sym (max_assoc v (last_in base n x) (last_in base n y))

-- a node, and what is behind it
slots-cut : (n x : List ℕ) → length n ≡ 4 → slots_at (n ++ x) ≡ slot_here (get_or n 3 0) (get_or n 1 0) ++ slots_at x
unfolding slots_at
slots-cut [] x h = absurd (omega arith)
slots-cut (b ∷ []) x h = absurd (omega arith)
slots-cut (b ∷ a ∷ []) x h = absurd (omega arith)
slots-cut (b ∷ a ∷ i ∷ []) x h = absurd (omega arith)
slots-cut (b ∷ a ∷ i ∷ k ∷ []) x h = refl
slots-cut (b ∷ a ∷ i ∷ k ∷ c ∷ n) x h = absurd (omega arith)

-- less than a node has no slot
few-slots : (x : List ℕ) → length x < 4 → slots_at x ≡ []
unfolding slots_at
few-slots [] h = refl
few-slots (b ∷ []) h = refl
few-slots (b ∷ a ∷ []) h = refl
few-slots (b ∷ a ∷ i ∷ []) h = refl
few-slots (b ∷ a ∷ i ∷ k ∷ x) h = absurd (omega arith)

-- what a node adds; what has been found and what is still to come make the whole
scan_step : (node rest x : List ℕ) (base n best v w all : ℕ) → x ≡ node ++ rest → length node ≡ 4 → v ≡ last_in base n (slot_here (get_or node 3 0) (get_or node 1 0)) → w ≡ max best v
    → max best (last_in base n (slots_at x)) ≡ all → max w (last_in base n (slots_at rest)) ≡ all
scan_step node rest x base n best v w all c m e f g =
    let r : ℕ = last_in base n (slots_at rest) in
    let u : last_in base n (slots_at x) ≡ max v r =
    ap (λ (x : List ℕ). last_in base n x) (ap slots_at c ∙ slots-cut node rest m)
    ∙ last-append base n (slot_here (get_or node 3 0) (get_or node 1 0)) (slots_at rest)
    ∙ ap (λ (x : ℕ). max x r) (sym e) in
    ap (λ (x : ℕ). max x r) f ∙ max_assoc best v r ∙ ap (max best) (sym u) ∙ g

scan-done : (x : List ℕ) (base n best all : ℕ) → max best (last_in base n (slots_at x)) ≡ all → length x < 4 → best ≡ all
unfolding last_in
scan-done x base n best all g h = sym (max-zero best) ∙ ap (λ (x : List ℕ). max best (last_in base n x)) (sym (few-slots x h)) ∙ g

-- the place of a slot in its group, from 1; 0 where it is in another one
pub ranked-slot : (a base n : ℕ) (t : Bool) → is_le (nat_cmp base a) && is_lt (nat_cmp a (base + n)) ≡ t → cond t (a - base + 1) 0 ≡ last_in base n (a ∷ [])
unfolding last_in
ranked-slot a base n t e =
    sym (
    ap (λ (x : Bool). max (cond x (a - base + 1) 0) 0)
    (sym (in_range base (base + n) a) ∙ e)
    ∙ max-zero (cond t (a - base + 1) 0)
    )

-- a node of shape 2 has one slot, another one none
pub slot-one : (k a base n : ℕ) → k ≡ 2 → last_in base n (a ∷ []) ≡ last_in base n (slot_here k a)
unfolding slot_here
slot-one k a base n h = sym (ap (λ (t : Bool). last_in base n (cond t (a ∷ []) [])) (eq-eqb k 2 h))

no_slot : (k a base n : ℕ) → (k ≡ 2 → ⊥) → 0 ≡ last_in base n (slot_here k a)
unfolding slot_here last_in
no_slot k a base n h = sym (ap (λ (t : Bool). last_in base n (cond t (a ∷ []) [])) (ne_eqb k 2 h))

-- ---- all groups in one scan

-- a node without a slot adds nothing
pub noted-none : (k a : ℕ) (l : Mentioned) → (k ≡ 2 → ⊥) → Noted k a l l
noted-none k a l h =
    record {
      abstracts = one 0 8 l.abstracts;
      concretes = one 8 8 l.concretes;
      inputs = one 16 3 l.inputs;
      outputs = one 19 3 l.outputs;
      cprimed = one 22 8 l.cprimed;
      aprimed = one 30 8 l.aprimed;
    }
  where
    one : (base n v : ℕ) → v ≡ max v (last_in base n (slot_here k a))
    one base n v = sym (max-zero v) ∙ ap (max v) (no_slot k a base n h)

pub lasts-start : (x y : List ℕ) (r : Mentioned) → EachLast (λ (base n v w : ℕ). w ≡ 0) r r → x ≡ y → LastsAhead (slots_at x) (slots_at y) r
lasts-start x y r z e =
    record { abstracts = one 0 8 z.abstracts; concretes = one 8 8 z.concretes; inputs = one 16 3 z.inputs; outputs = one 19 3 z.outputs; cprimed = one 22 8 z.cprimed; aprimed = one 30 8 z.aprimed }
  where
    one : {w : ℕ} (base n : ℕ) → w ≡ 0 → max w (last_in base n (slots_at x)) ≡ last_in base n (slots_at y)
    one base n z = ap (λ (v : ℕ). max v (last_in base n (slots_at x))) z ∙ zero-max _ ∙ ap (λ (l : List ℕ). last_in base n (slots_at l)) e

pub lasts-step : (node rest x whole : List ℕ) (l r : Mentioned) → x ≡ node ++ rest → length node ≡ 4 → Noted (get_or node 3 0) (get_or node 1 0) l r
    → LastsAhead (slots_at x) whole l → LastsAhead (slots_at rest) whole r
lasts-step node rest x whole l r c h m g =
    record {
      abstracts = one 0 8 l.abstracts r.abstracts m.abstracts g.abstracts;
      concretes = one 8 8 l.concretes r.concretes m.concretes g.concretes;
      inputs = one 16 3 l.inputs r.inputs m.inputs g.inputs;
      outputs = one 19 3 l.outputs r.outputs m.outputs g.outputs;
      cprimed = one 22 8 l.cprimed r.cprimed m.cprimed g.cprimed;
      aprimed = one 30 8 l.aprimed r.aprimed m.aprimed g.aprimed;
    }
  where
    one : (base n v w : ℕ) → w ≡ max v (last_in base n (slot_here (get_or node 3 0) (get_or node 1 0)))
        → max v (last_in base n (slots_at x)) ≡ last_in base n whole → max w (last_in base n (slots_at rest)) ≡ last_in base n whole
    one base n v w e f = scan_step node rest x base n v _ w _ c h refl e f

pub lasts-done : (x whole : List ℕ) (l : Mentioned) → LastsAhead (slots_at x) whole l → length x < 4 → LastsOf whole l
lasts-done x whole l g h =
    record {
      abstracts = one 0 8 l.abstracts g.abstracts;
      concretes = one 8 8 l.concretes g.concretes;
      inputs = one 16 3 l.inputs g.inputs;
      outputs = one 19 3 l.outputs g.outputs;
      cprimed = one 22 8 l.cprimed g.cprimed;
      aprimed = one 30 8 l.aprimed g.aprimed;
    }
  where
    one : (base n v : ℕ) → max v (last_in base n (slots_at x)) ≡ last_in base n whole → v ≡ last_in base n whole
    one base n v e = scan-done x base n v _ e h
