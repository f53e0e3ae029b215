-- What the layers of the marks say of the pairs that are reached: each by the list that the marks spell, none by a shorter one, and all of them where the last layer is empty. Assumes nothing.
use mathlib.Core.Path.{◌≡◌, refl, ◌∙◌}
use mathlib.Core.Bool.{Bool, true}
use mathlib.Core.List.{List, [], ◌∷◌}
use Prim.Native.Nat.{ℕ, zero, suc, ◌+◌, ◌<◌, ◌≤◌}
use native.Mathlib.Omega.{arith}
use native.Mathlib.Decide.{dec_lt}
use lib.ListN.{length, length-append}
use Rattle.form.specs.Tree.{Dossier}
use Rattle.obligations.specs.Machines.{Machine, abstract_side}
use Rattle.step_searches.specs.PartTestsPartsByNumber.{abstract_at, concrete_at}
use Rattle.reached_pairs.specs.declared.marks.Mark.{Mark}
use Rattle.reached_pairs.specs.Reached.{Reached, mark_in, layer_in, entry_at, spelled, PairsReached}
use Rattle.reached_pairs.specs.ReachedByNumber.{abstract_of, concrete_of, Goes, Chain, begun, gone, Layered}
use Rattle.reached_pairs.proofs.ReachedPairs.{pair_of, begins-reached, goes-reached, reached-chain, at-digits}

-- the list that the marks spell has one entry for each layer but the first
pub spelled-long : (m : Machine) (marks : List Mark) (n y : ℕ) → length (spelled m marks n y) ≡ n
unfolding spelled
spelled-long m marks zero y = refl
spelled-long m marks (suc n) y =
    let e : length (spelled m marks n (mark_in marks y).before) ≡ n = spelled-long m marks n (mark_in marks y).before in
    length-append (spelled m marks n (mark_in marks y).before) (entry_at m (mark_in marks y) ∷ []) ∙ more n _ e
  where
    more : (n k : ℕ) → k ≡ n → k + 1 ≡ suc n
    more n k e = omega arith

module _ (d : Dossier) (n : ℕ) (marks : List Mark) (w : Layered d n marks) where
  -- a pair that few entries reach has its mark
  chain-marked : (m y : ℕ) → Chain d m y → m < n → (0 < layer_in marks y) × (layer_in marks y ≤ suc m)
  chain-marked m y (begun b) l = let e : layer_in marks y ≡ 1 = w.begun y b in (omega arith, omega arith)
  chain-marked m y (gone {n = k} {x = x} j i c g) l =
      let h : (0 < layer_in marks x) × (layer_in marks x ≤ suc k) = chain-marked k x c (omega arith) in
      let s : (0 < layer_in marks y) × (layer_in marks y ≤ suc (layer_in marks x)) = w.closed j i x y h.0 (omega (arith, h.1)) g in
      (s.0, omega (arith, s.1, h.1))

  -- no list reaches a pair with fewer entries than its layer says
  chain-short : (m y k : ℕ) → Chain d m y → layer_in marks y ≡ suc k → k ≤ m
  chain-short m y k c e =
      elim (dec_lt m n) [
        | yes l ↦ (let h : layer_in marks y ≤ suc m = (chain-marked m y c l).1 in omega arith)
        | no l ↦ (let h : layer_in marks y ≤ n = w.bounded y in omega arith)
      ]

  -- where the last layer is empty, every pair that is reached has its mark
  chain-all : ((y : ℕ) → layer_in marks y ≡ n → ⊥) → (m y : ℕ) → Chain d m y → 0 < layer_in marks y
  chain-all none m y (begun b) = let e : layer_in marks y ≡ 1 = w.begun y b in omega arith
  chain-all none m y (gone {n = k} {x = x} j i c g) =
      let h : 0 < layer_in marks x = chain-all none k x c in
      let b : layer_in marks x ≤ n = w.bounded x in
      let z : layer_in marks x ≡ n → ⊥ = none x in
      (w.closed j i x y h (omega arith) g).0

  -- what the marks spell
  spelled-reached : (k y : ℕ) → layer_in marks y ≡ suc k → Reached d (spelled (abstract_side d) marks k y) (abstract_at d (abstract_of d y)) (concrete_at d (concrete_of d y))
  unfolding spelled
  spelled-reached zero y e = begins-reached d y (w.begins y e)
  spelled-reached (suc k) y e =
      let f : (layer_in marks (mark_in marks y).before ≡ suc k) × Goes d (mark_in marks y).operation (mark_in marks y).input (mark_in marks y).before y
      = w.follows y k e in
      goes-reached d (mark_in marks y).operation (mark_in marks y).input (mark_in marks y).before y f.1
      (spelled (abstract_side d) marks k (mark_in marks y).before) (spelled-reached k (mark_in marks y).before f.0)

  -- the promise of the search, wherever it stops
  pub layered-reached : (whole : Bool) → (whole ≡ true → (y : ℕ) → layer_in marks y ≡ n → ⊥) → PairsReached d marks whole
  layered-reached whole none = record {
    reached = λ a c k la lc e. at-digits d (spelled (abstract_side d) marks k (pair_of d a c)) a c la lc (spelled-reached k (pair_of d a c) e);
    shortest = λ a c k la lc e es r. chain-short (length es) (pair_of d a c) k (reached-chain d es a c la lc r) e;
    all = λ t a c la lc es r. chain-all (none t) (length es) (pair_of d a c) (reached-chain d es a c la lc r);
  }
