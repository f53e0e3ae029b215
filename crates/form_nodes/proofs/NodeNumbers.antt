-- The numbers of a node, and the node, by the tests that tell them.
use mathlib.Core.Path.{◌≡◌, refl, ap, ◌∙◌, subst}
use mathlib.Core.Bool.{Bool, true, false, cond}
use mathlib.Core.List.{List}
use Prim.Native.Nat.{ℕ, ◌+◌, ◌-◌, ◌*◌, ◌≤◌, ◌<◌}
use native.Mathlib.Omega.{arith}
use lib.Dec.{leb, ltb}
use lib.ListN.{get_or}
use borrow.Author.Tests.{leb-true, ltb-true, lt-ltb, le-ltb, le-leb, eq-eqb, ne_eqb}
use Rattle.form.specs.Codes.{node}
use Rattle.form_nodes.specs.FormPromises.{Writes}
use Rattle.form_nodes.specs.Derivations.{name_code, end_code, magnitude_code, division_code, leaf_node, range_node, domain_node}

module _ (s ν : List ℕ) (i : ℕ) where
  pub large-name : 4095 < get_or ν i 0 → 0 ≡ name_code s ν i
  unfolding name_code
  large-name l = rw (name_code, lt-ltb 4095 (get_or ν i 0) l)

  pub no_name : get_or ν i 0 ≤ 4095 → get_or s i 0 < 2 → 0 ≡ name_code s ν i
  unfolding name_code
  no_name l h = rw (name_code, le-ltb 4095 (get_or ν i 0) l, lt-ltb (get_or s i 0) 2 h)

  pub some-name : {k x : ℕ} → k ≡ get_or s i 0 → x ≡ get_or ν i 0 → x ≤ 4095 → 2 ≤ k → 4 * x + (k - 2) ≡ name_code s ν i
  unfolding name_code
  some-name {k} e f l h =
      ap (λ (y : ℕ). 4 * y + (k - 2)) f ∙ ap (λ (j : ℕ). 4 * get_or ν i 0 + (j - 2)) e
      ∙ rw (name_code, le-ltb 4095 (get_or ν i 0) (omega arith), le-ltb (get_or s i 0) 2 (omega arith))

  -- an end with -, and one without
  pub lower : {x : ℕ} → get_or s i 0 ≡ 29 → x ≡ get_or ν (i + 1) 0 → 1000 - x ≡ end_code s ν i
  unfolding end_code
  lower q f = ap (λ (y : ℕ). 1000 - y) f ∙ on (ltb 1000 (get_or ν (i + 1) 0)) refl ∙ rw (end_code, eq-eqb (get_or s i 0) 29 q)
    where
      on : (b : Bool) → ltb 1000 (get_or ν (i + 1) 0) ≡ b → 1000 - get_or ν (i + 1) 0 ≡ cond (ltb 1000 (get_or ν (i + 1) 0)) 0 (1000 - get_or ν (i + 1) 0)
      on true t = let l = ltb-true 1000 (get_or ν (i + 1) 0) t in rw t (omega arith)
      on false t = rw t

  pub large-upper : (get_or s i 0 ≡ 29 → ⊥) → 1000 < get_or ν i 0 → 0 ≡ end_code s ν i
  unfolding end_code
  large-upper q l = rw (end_code, ne_eqb (get_or s i 0) 29 q, lt-ltb 1000 (get_or ν i 0) l)

  pub upper : {x : ℕ} → (get_or s i 0 ≡ 29 → ⊥) → x ≡ get_or ν i 0 → x ≤ 1000 → 1000 + x ≡ end_code s ν i
  unfolding end_code
  upper q f l = ap (λ (y : ℕ). 1000 + y) f ∙ rw (end_code, ne_eqb (get_or s i 0) 29 q, le-ltb 1000 (get_or ν i 0) (omega arith))

  pub signed-divisor : get_or s i 0 ≡ 29 → get_or ν (i + 1) 0 ≡ magnitude_code s ν i
  unfolding magnitude_code
  signed-divisor q = rw (magnitude_code, eq-eqb (get_or s i 0) 29 q)

  pub plain-divisor : (get_or s i 0 ≡ 29 → ⊥) → get_or ν i 0 ≡ magnitude_code s ν i
  unfolding magnitude_code
  plain-divisor q = rw (magnitude_code, ne_eqb (get_or s i 0) 29 q)

  pub signed-remainder : get_or s i 0 ≡ 62 → get_or s (i + 1) 0 ≡ 29 → 3 ≡ division_code s i
  unfolding division_code
  signed-remainder q r = rw (division_code, eq-eqb (get_or s i 0) 62 q, eq-eqb (get_or s (i + 1) 0) 29 r)

  pub plain-remainder : get_or s i 0 ≡ 62 → (get_or s (i + 1) 0 ≡ 29 → ⊥) → 2 ≡ division_code s i
  unfolding division_code
  plain-remainder q r = rw (division_code, eq-eqb (get_or s i 0) 62 q, ne_eqb (get_or s (i + 1) 0) 29 r)

  pub signed_quotient : (get_or s i 0 ≡ 62 → ⊥) → get_or s (i + 1) 0 ≡ 29 → 1 ≡ division_code s i
  unfolding division_code
  signed_quotient q r = rw (division_code, ne_eqb (get_or s i 0) 62 q, eq-eqb (get_or s (i + 1) 0) 29 r)

  pub plain-quotient : (get_or s i 0 ≡ 62 → ⊥) → (get_or s (i + 1) 0 ≡ 29 → ⊥) → 0 ≡ division_code s i
  unfolding division_code
  plain-quotient q r = rw (division_code, ne_eqb (get_or s i 0) 62 q, ne_eqb (get_or s (i + 1) 0) 29 r)

  -- the nodes, of the numbers that the code has
  pub number-leaf : {x : ℕ} → get_or s i 0 ≡ 1 → x ≡ get_or ν i 0 → node 1 i x 0 ≡ leaf_node s ν i
  unfolding leaf_node
  number-leaf q f = ap (λ (y : ℕ). node 1 i y 0) f ∙ rw (leaf_node, eq-eqb (get_or s i 0) 1 q)

  pub name-leaf : {x : ℕ} → (get_or s i 0 ≡ 1 → ⊥) → x ≡ name_code s ν i → node 2 i x 0 ≡ leaf_node s ν i
  unfolding leaf_node
  name-leaf q f = ap (λ (y : ℕ). node 2 i y 0) f ∙ rw (leaf_node, ne_eqb (get_or s i 0) 1 q)

  pub signed_range : {x y : ℕ} → get_or s i 0 ≡ 29 → x ≡ end_code s ν i → y ≡ end_code s ν (i + 3) → node 2 (i + 2) x y ≡ range_node s ν i
  unfolding range_node
  signed_range {x} q e f =
      ap (λ (z : ℕ). node 2 (i + 2) x z) f ∙ ap (λ (z : ℕ). node 2 (i + 2) z (end_code s ν (i + 3))) e ∙ rw (range_node, eq-eqb (get_or s i 0) 29 q)

  pub plain-range : {x y : ℕ} → (get_or s i 0 ≡ 29 → ⊥) → x ≡ end_code s ν i → y ≡ end_code s ν (i + 2) → node 2 (i + 1) x y ≡ range_node s ν i
  unfolding range_node
  plain-range {x} q e f =
      ap (λ (z : ℕ). node 2 (i + 1) x z) f ∙ ap (λ (z : ℕ). node 2 (i + 1) z (end_code s ν (i + 2))) e ∙ rw (range_node, ne_eqb (get_or s i 0) 29 q)

  pub name-domain : {x : ℕ} → 2 ≤ get_or s i 0 → get_or s i 0 ≤ 5 → x ≡ name_code s ν i → node 1 i x 0 ≡ domain_node s ν i
  unfolding domain_node
  name-domain l h f = ap (λ (y : ℕ). node 1 i y 0) f ∙ rw (domain_node, le-leb 2 (get_or s i 0) l, le-leb (get_or s i 0) 5 h)

  pub range-domain : (2 ≤ get_or s i 0 → get_or s i 0 ≤ 5 → ⊥) → range_node s ν i ≡ domain_node s ν i
  unfolding domain_node
  range-domain h = on (leb 2 (get_or s i 0)) (leb (get_or s i 0) 5) refl refl
    where
      on : (a b : Bool) → leb 2 (get_or s i 0) ≡ a → leb (get_or s i 0) 5 ≡ b
          → range_node s ν i ≡ cond (cond (leb 2 (get_or s i 0)) (leb (get_or s i 0) 5) false) (node 1 i (name_code s ν i) 0) (range_node s ν i)
      on true true p q = absurd (h (leb-true 2 (get_or s i 0) p) (leb-true (get_or s i 0) 5 q))
      on true false p q = rw (p, q)
      on false b p q = rw p

-- a node known to be another is the one written
pub rewritten : {a x y b : List ℕ} {n r : ℕ} → x ≡ y → Writes a n x b r → Writes a n y b r
rewritten {a} {b = b} {n} {r} q h = subst (λ (z : List ℕ). Writes a n z b r) q h
