-- Laws of the tree of names: a walk that ends at a node is the same after a free slot is filled.
use mathlib.Core.Path.{◌≡◌, refl, ap, ◌∙◌, sym}
use mathlib.Core.Bool.{Bool, true, false}
use mathlib.Core.List.{List}
use Prim.Native.Nat.{ℕ, zero, suc, ◌+◌, ◌*◌, ◌/◌, ◌%◌, ◌≤◌, ◌<◌}
use native.Mathlib.Omega.{arith}
use lib.Dec.{eqb, ltb}
use borrow.Author.Tests.{ltb-true, ltb-false}
use lib.ListN.{length, get_or, set}
use lib.Seq.{get_or-set_same, get_or-set_other}
use Rattle.lexical.specs.SymbolPromises.{visited, walk_from}
use Rattle.lexical.specs.declared.Stop.{Stop}
use Rattle.lexical.specs.declared.Stop.TheVariants.{At, Free, Deep}

-- one more number
pub one_more : (j i : ℕ) (P : Type 0) → j < i + 1 → (j < i → P) → (j ≡ i → P) → P
one_more j i P h f g = on (ltb j i) refl
  where
    on : (x : Bool) → ltb j i ≡ x → P
    on true q = f (ltb-true j i q)
    on false q = let k = ltb-false j i q in g (omega arith)

abbrev pub NotFree : Stop → Type 0
NotFree (At m) = Unit {0}
NotFree (Free k) = ⊥
NotFree Deep = Unit {0}

module _ (letters : List ℕ) (a : ℕ) where
  abbrev pub is : ℕ → Bool
  is m = eqb (get_or letters m 0) a

  abbrev pub on_from : ℕ → List ℕ → ℕ → ℕ → Stop
  on_from f tree p m = walk_from f letters tree a (p / 2) (2 * m + p % 2)

  module _ (f : ℕ) (tree : List ℕ) (p slot : ℕ) where
    pub walk-free : get_or tree slot 0 ≡ 0 → walk_from (suc f) letters tree a p slot ≡ Free slot
    unfolding walk_from
    walk-free h = ap (λ (t : ℕ). visited t slot is (on_from f tree p)) h

    pub walk_at : (m : ℕ) → get_or tree slot 0 ≡ suc m → is m ≡ true → walk_from (suc f) letters tree a p slot ≡ At m
    unfolding walk_from
    walk_at m h k = ap (λ (t : ℕ). visited t slot is (on_from f tree p)) h ∙ ap (λ (x : Bool). elim x [ true ↦ At m | false ↦ on_from f tree p m ]) k

    pub walk-on : (m : ℕ) → get_or tree slot 0 ≡ suc m → is m ≡ false → walk_from (suc f) letters tree a p slot ≡ on_from f tree p m
    unfolding walk_from
    walk-on m h k = ap (λ (t : ℕ). visited t slot is (on_from f tree p)) h ∙ ap (λ (x : Bool). elim x [ true ↦ At m | false ↦ on_from f tree p m ]) k

  pub walk_none : (tree : List ℕ) (p slot : ℕ) → walk_from 0 letters tree a p slot ≡ Deep
  unfolding walk_from
  walk_none tree p slot = refl

  -- how a walk that took a step went on
  data Went (f : ℕ) (tree : List ℕ) (p slot : ℕ) : Stop → Type 0 where
    free : get_or tree slot 0 ≡ 0 → Went f tree p slot (Free slot)
    at : (m : ℕ) → get_or tree slot 0 ≡ suc m → is m ≡ true → Went f tree p slot (At m)
    on : (m : ℕ) → get_or tree slot 0 ≡ suc m → is m ≡ false → Went f tree p slot (on_from f tree p m)

  went : (f : ℕ) (tree : List ℕ) (p slot : ℕ) → Went f tree p slot (walk_from (suc f) letters tree a p slot)
  unfolding walk_from
  went f tree p slot = by (get_or tree slot 0) refl
    where
      test : (m : ℕ) → get_or tree slot 0 ≡ suc m → (x : Bool) → is m ≡ x → Went f tree p slot (elim x [ true ↦ At m | false ↦ on_from f tree p m ])
      test m h true k = at m h k
      test m h false k = on m h k

      by : (t : ℕ) → get_or tree slot 0 ≡ t → Went f tree p slot (visited t slot is (on_from f tree p))
      by zero h = free h
      by (suc m) h = test m h (is m) refl

  pub free-zero : (f : ℕ) (tree : List ℕ) (p slot : ℕ) {k : ℕ} → walk_from f letters tree a p slot ≡ Free k → get_or tree k 0 ≡ 0
  free-zero zero tree p slot h = let n = walk_none tree p slot in let z : ◌≡◌ {A = ℕ} 0 1 = cc in absurd (omega arith)
  free-zero (suc f) tree p slot {k} h = by (walk_from (suc f) letters tree a p slot) (went f tree p slot) h (λ x z. free-zero f tree x z)
    where
      by : (w : Stop) → Went f tree p slot w → w ≡ Free k → ((x z : ℕ) → walk_from f letters tree a x z ≡ Free k → get_or tree k 0 ≡ 0) → get_or tree k 0 ≡ 0
      by w (free e) g r = let i : slot ≡ k = cc in ap (λ (j : ℕ). get_or tree j 0) (sym i) ∙ e
      by w (at m e t) g r = let z : ◌≡◌ {A = ℕ} 0 1 = cc in absurd (omega arith)
      by w (on m e t) g r = r (p / 2) (2 * m + p % 2) g

  pub free_bound : (f : ℕ) (tree : List ℕ) (p slot : ℕ) {k : ℕ} → ((j : ℕ) → get_or tree j 0 ≤ 4096) → slot < 8193 → walk_from f letters tree a p slot ≡ Free k → k < 8193
  free_bound zero tree p slot c l h = let n = walk_none tree p slot in let z : ◌≡◌ {A = ℕ} 0 1 = cc in absurd (omega arith)
  free_bound (suc f) tree p slot {k} c l h = by (walk_from (suc f) letters tree a p slot) (went f tree p slot) h (λ x z. free_bound f tree x z c)
    where
      by : (w : Stop) → Went f tree p slot w → w ≡ Free k → ((x z : ℕ) → z < 8193 → walk_from f letters tree a x z ≡ Free k → k < 8193) → k < 8193
      by w (free e) g r = let i : slot ≡ k = cc in omega arith
      by w (at m e t) g r = let z : ◌≡◌ {A = ℕ} 0 1 = cc in absurd (omega arith)
      by w (on m e t) g r = let d = c slot in let i : 2 * m + p % 2 < 8193 = omega arith in r (p / 2) (2 * m + p % 2) i g

  -- the node at which a walk ends
  pub record Node (tree : List ℕ) (m : ℕ) : Type 0 where
    pub slot : ℕ
    pub holds : get_or tree slot 0 ≡ suc m
    pub alike : is m ≡ true

  pub at-node : (f : ℕ) (tree : List ℕ) (p slot : ℕ) {m : ℕ} → walk_from f letters tree a p slot ≡ At m → Node tree m
  at-node zero tree p slot h = let n = walk_none tree p slot in let z : ◌≡◌ {A = ℕ} 0 1 = cc in absurd (omega arith)
  at-node (suc f) tree p slot {m} h = by (walk_from (suc f) letters tree a p slot) (went f tree p slot) h (λ x z. at-node f tree x z)
    where
      by : (w : Stop) → Went f tree p slot w → w ≡ At m → ((x z : ℕ) → walk_from f letters tree a x z ≡ At m → Node tree m) → Node tree m
      by w (free e) g r = let z : ◌≡◌ {A = ℕ} 0 1 = cc in absurd (omega arith)
      by w (at n e t) g r = let i : n ≡ m = cc in record { slot = slot; holds = e ∙ ap suc i; alike = ap is (sym i) ∙ t }
      by w (on n e t) g r = r (p / 2) (2 * n + p % 2) g

  module _ (tree : List ℕ) (k v : ℕ) (z : get_or tree k 0 ≡ 0) where
    other : (slot m : ℕ) → get_or tree slot 0 ≡ suc m → get_or (set tree k v) slot 0 ≡ suc m
    other slot m h = get_or-set_other tree k slot v 0 (λ e. let g : get_or tree slot 0 ≡ 0 = ap (λ (j : ℕ). get_or tree j 0) e ∙ z in omega arith) ∙ h

    pub keep : (f p slot : ℕ) → NotFree (walk_from f letters tree a p slot) → walk_from f letters (set tree k v) a p slot ≡ walk_from f letters tree a p slot
    keep zero p slot n = walk_none (set tree k v) p slot ∙ sym (walk_none tree p slot)
    keep (suc f) p slot n = by (walk_from (suc f) letters tree a p slot) (went f tree p slot) n (keep f)
      where
        by : (w : Stop) → Went f tree p slot w → NotFree w → ((x s : ℕ) → NotFree (walk_from f letters tree a x s) → walk_from f letters (set tree k v) a x s ≡ walk_from f letters tree a x s) → walk_from (suc f) letters (set tree k v) a p slot ≡ w
        by w (free e) g r = absurd g
        by w (at m e t) g r = walk_at f (set tree k v) p slot m (other slot m e) t
        by w (on m e t) g r = walk-on f (set tree k v) p slot m (other slot m e) t ∙ r (p / 2) (2 * m + p % 2) g

  pub insert : (tree : List ℕ) (k v : ℕ) → k < length tree → is v ≡ true → (f p slot : ℕ) → walk_from f letters tree a p slot ≡ Free k
      → walk_from f letters (set tree k (suc v)) a p slot ≡ At v
  insert tree k v l i zero p slot h = let n = walk_none tree p slot in let z : ◌≡◌ {A = ℕ} 0 1 = cc in absurd (omega arith)
  insert tree k v l i (suc f) p slot h = by (walk_from (suc f) letters tree a p slot) (went f tree p slot) h (insert tree k v l i f)
    where
      by : (w : Stop) → Went f tree p slot w → w ≡ Free k → ((x z : ℕ) → walk_from f letters tree a x z ≡ Free k → walk_from f letters (set tree k (suc v)) a x z ≡ At v) → walk_from (suc f) letters (set tree k (suc v)) a p slot ≡ At v
      by w (free e) g r = let j : slot ≡ k = cc in walk_at f (set tree k (suc v)) p slot v (ap (λ (x : ℕ). get_or (set tree k (suc v)) x 0) j ∙ get_or-set_same tree k (suc v) 0 l) i
      by w (at m e t) g r = let z : ◌≡◌ {A = ℕ} 0 1 = cc in absurd (omega arith)
      by w (on m e t) g r = walk-on f (set tree k (suc v)) p slot m (other tree k (suc v) (free-zero (suc f) tree p slot h) slot m e) t
          ∙ r (p / 2) (2 * m + p % 2) g
