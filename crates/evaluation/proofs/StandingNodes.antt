-- Where the parts of a piece of the table stand, and the four numbers of its last node. Assumes nothing.
use mathlib.Core.Path.{◌≡◌, refl, subst}
use mathlib.Core.List.{List, [], ◌++◌}
use Prim.Native.Nat.{ℕ, ◌+◌, ◌-◌, ◌<◌, ◌≤◌}
use native.Mathlib.Omega.{arith}
use lib.ListN.{length, length-append}
use Rattle.table_places.specs.FormCodes.{node}
use Rattle.table_places.specs.NodeSpansSpans.{Stands}
use Rattle.evaluation.specs.EvaluationByNumber.{shape_at, end_at, first_at, second_at}
use Rattle.table_places.proofs.NodeSpansStandingParts.{stands-length, stands-left, stands-right, stands_at}

-- the node that ends at e: what it is, and its three numbers
pub record Node (t : List ℕ) (e shape end first second : ℕ) : Type 0 where
  pub some : 4 ≤ e
  pub shape_is : shape_at t e ≡ shape
  pub end_is : end_at t e ≡ end
  pub first_is : first_at t e ≡ first
  pub second_is : second_at t e ≡ second

module _ (t : List ℕ) where
  pub node_at : (p e k i x y : ℕ) → Stands t p e (node k i x y) → Node t e k i x y
  node_at p e k i x y s =
      let n = stands-length s in
      record {
        some = omega arith;
        shape_is = stands_at [] (node k i x y) 3 (e - 1) s (omega arith) (omega arith);
        end_is = stands_at [] (node k i x y) 2 (e - 2) s (omega arith) (omega arith);
        first_is = stands_at [] (node k i x y) 1 (e - 3) s (omega arith) (omega arith);
        second_is = stands_at [] (node k i x y) 0 (e - 4) s (omega arith) (omega arith);
      }

  -- ---- pieces that end with a node: its parts stand one behind the other before it

  pub record One (p e : ℕ) (a : List ℕ) (k i x y : ℕ) : Type 0 where
    pub part : Stands t p (e - 4) a
    pub last : Node t e k i x y

  pub one-part : (p e : ℕ) (a : List ℕ) (k i x y : ℕ) → Stands t p e (a ++ node k i x y) → One p e a k i x y
  one-part p e a k i x y s =
      let r = stands-right a (node k i x y) (p + length a) s refl in
      let n = stands-length r in
      record { part = stands-left a (node k i x y) (e - 4) s (omega arith); last = node_at (p + length a) e k i x y r }

  pub record Two (p e : ℕ) (a b : List ℕ) (k i x y : ℕ) : Type 0 where
    pub first : Stands t p (p + length a) a
    pub second : Stands t (p + length a) (e - 4) b
    pub last : Node t e k i x y
    pub before : p + length a < e

  pub two-parts : (p e : ℕ) (a b : List ℕ) (k i x y : ℕ) → Stands t p e (a ++ (b ++ node k i x y)) → Two p e a b k i x y
  two-parts p e a b k i x y s =
      let r = stands-right a (b ++ node k i x y) (p + length a) s refl in
      let n = stands-length r in
      let l = length-append b (node k i x y) in
      let o = one-part (p + length a) e b k i x y r in
      record { first = stands-left a (b ++ node k i x y) (p + length a) s refl; second = o.part; last = o.last; before = omega arith }

  pub record Three (p e : ℕ) (a b c : List ℕ) (k i x y : ℕ) : Type 0 where
    pub first : Stands t p (p + length a) a
    pub second : Stands t (p + length a) (p + length a + length b) b
    pub third : Stands t (p + length a + length b) (e - 4) c
    pub last : Node t e k i x y
    pub before : p + length a < e
    pub between : p + length a + length b < e

  pub three-parts : (p e : ℕ) (a b c : List ℕ) (k i x y : ℕ) → Stands t p e (a ++ (b ++ (c ++ node k i x y))) → Three p e a b c k i x y
  three-parts p e a b c k i x y s =
      let r = stands-right a (b ++ (c ++ node k i x y)) (p + length a) s refl in
      let o = two-parts (p + length a) e b c k i x y r in
      let h = o.before in
      record {
        first = stands-left a (b ++ (c ++ node k i x y)) (p + length a) s refl;
        second = o.first;
        third = o.second;
        last = o.last;
        before = omega arith;
        between = h;
      }

  -- a part, the node of what is bound over, and the binder's
  pub record Bounded (p e : ℕ) (a : List ℕ) (m j z w k i x y : ℕ) : Type 0 where
    pub part : Stands t p (e - 8) a
    pub over : Node t (e - 4) m j z w
    pub last : Node t e k i x y
    pub room : 8 ≤ e

  pub bounded-part : (p e : ℕ) (a : List ℕ) (m j z w k i x y : ℕ) → Stands t p e (a ++ (node m j z w ++ node k i x y)) → Bounded p e a m j z w k i x y
  bounded-part p e a m j z w k i x y s =
      let o = two-parts p e a (node m j z w) k i x y s in
      let n = stands-length o.second in
      let h = o.last.some in
      let q : p + length a ≡ e - 8 = omega arith in
      record {
        part = subst (λ (r : ℕ). Stands t p r a) q o.first;
        over = node_at (p + length a) (e - 4) m j z w o.second;
        last = o.last;
        room = omega arith;
      }
