-- Laws of the numbers in the table that the code computes one by one.
use mathlib.Core.Path.{◌≡◌, refl, sym, ap, ◌∙◌, subst}
use mathlib.Core.Bool.{Bool, true, false, cond}
use Prim.Native.Nat.{ℕ, ◌+◌, ◌-◌, ◌≤◌, ◌<◌, min}
use native.Mathlib.Omega.{arith}
use lib.Dec.{eqb, leb, ltb}
use mir.Val.{bool_byte}
use borrow.Author.Tests.{eq-eqb, ne_eqb, lt-ltb, le-ltb, leb-true, ltb-true, ltb-false}
use Rattle.form.proofs.LexicalBooleanTests.{and_left, and_right}
use Rattle.std.specs.Prelude as rust
use Rattle.std.specs.Prelude.{None, Some, MatchOption, IsSomeAnd}
use Rattle.std.specs.Bool.{then_some}
use Rattle.lexical.specs.Kinds.{code_of}
use Rattle.form.specs.Tree.{Membership, is_in, not_in}
use Rattle.form.specs.Written.{membership_kind}
use Rattle.form.specs.Codes.{node}
use Rattle.type_rules.specs.TypesByNumber.{Sizes, range_fits, size_in}
use Rattle.type_rules.proofs.TypeNumbers.{cond_yes, cond_no}
use Rattle.table_nodes.specs.TableByNumber.{next_slot, range_count, related_shape, placed, set_size}
use Rattle.table_nodes.specs.TableWalkPromises.{TruthOf}

pub slot-next : (s r : ℕ) → r ≡ min s 62 + 1 → r ≡ next_slot s
unfolding next_slot
slot-next s r e = go (ltb s 63) refl
  where
    go : (t : Bool) → ltb s 63 ≡ t → r ≡ cond t (s + 1) 63
    go true h = let l = ltb-true s 63 h in omega arith
    go false h = let l = ltb-false s 63 h in omega arith

-- a name's node, by where its value is found
pub placed-slot : (w : ℕ) → w < 64 → node 2 0 w 0 ≡ placed w
unfolding placed
placed-slot w h = sym (ap (λ (t : Bool). cond t (node 2 0 w 0) (node 1 0 (w - 64) 0)) (lt-ltb w 64 h))

pub placed-element : (w : ℕ) → 64 ≤ w → node 1 0 (w - 64) 0 ≡ placed w
unfolding placed
placed-element w h = sym (ap (λ (t : Bool). cond t (node 2 0 w 0) (node 1 0 (w - 64) 0)) (le-ltb w 64 h))

pub range-bounds : (a b : ℕ) (f : Bool) → f ≡ range_fits a b → f ≡ true → (a ≤ b) × (b < a + 64)
unfolding range_fits
range-bounds a b f e h =
    (leb-true a b (and_left (leb a b) (ltb b (a + 64)) (sym e ∙ h)), ltb-true b (a + 64) (and_right (leb a b) (ltb b (a + 64)) (sym e ∙ h)))

pub count-some : (a b : ℕ) (f : Bool) → f ≡ range_fits a b → f ≡ true → b - a + 1 ≡ range_count a b
unfolding range_count
count-some a b f e h =
    let w = range-bounds a b f e h in
    let n : b - a + 1 ≡ b + 1 - a = omega arith in
    n ∙ sym (cond_yes f (range_fits a b) (b + 1 - a) 0 e h)

pub count_none : (a b : ℕ) (f : Bool) → f ≡ range_fits a b → f ≡ false → 0 ≡ range_count a b
unfolding range_count
count_none a b f e h = sym (cond_no f (range_fits a b) (b + 1 - a) 0 e h)

-- how many elements a set has that a kind tells of, and 0 where it tells of none
pub size-then : (z : Sizes) (b : Bool) (x : ℕ) → set_size z (then_some b x) ≡ cond b (size_in z x) 0
unfolding set_size
size-then z true x = refl
size-then z false x = refl

-- one of the two sets of pairs, where a kind tells of them
pub side-then : (f : ℕ × ℕ → ℕ) (b : Bool) (p : ℕ × ℕ) (o : rust.Option (ℕ × ℕ)) (r : rust.Option ℕ) {Q : ℕ × ℕ → ℕ → Type 0} → o ≡ then_some {T = ℕ × ℕ} b p
    → MatchOption o (r ≡ None) (λ (q : ℕ × ℕ). IsSomeAnd r (Q q)) → ((q : ℕ × ℕ) (v : ℕ) → Q q v → v ≡ f q) → r ≡ then_some b (f p)
side-then f b p o r {Q = Q} e m g = by-case b r (subst (λ (w : rust.Option (ℕ × ℕ)). MatchOption w (r ≡ None) (λ (q : ℕ × ℕ). IsSomeAnd r (Q q))) e m)
  where
    by-case : (b : Bool) (r : rust.Option ℕ) → MatchOption (then_some {T = ℕ × ℕ} b p) (r ≡ None) (λ (q : ℕ × ℕ). IsSomeAnd r (Q q)) → r ≡ then_some b (f p)
    by-case true (Some v) h = ap Some (g p v h)
    by-case true None h = absurd h
    by-case false r h = h

-- memberships, and true and false, by the codes of their symbols
pub shape-in : (o : ℕ) → o ≡ 56 → (m : Membership) → code_of (membership_kind m) ≡ o → 22 ≡ related_shape m
unfolding code_of
shape-in o h is_in e = refl
shape-in o h not_in e = absurd (omega arith)

pub shape-notin : (o : ℕ) → (o ≡ 56 → ⊥) → (m : Membership) → code_of (membership_kind m) ≡ o → 23 ≡ related_shape m
unfolding code_of
shape-notin o h is_in e = absurd (h (sym e))
shape-notin o h not_in e = refl

pub truth-by : (o r : ℕ) → r ≡ bool_byte (eqb o 48) → TruthOf o r
unfolding code_of
truth-by o r e = (λ h. e ∙ ap bool_byte (eq-eqb o 48 (sym h)), λ h. e ∙ ap bool_byte (ne_eqb o 48 (λ k. omega arith)))
