-- Laws of the numbering: the tree after one more symbol.
use mathlib.Core.Path.{◌≡◌, refl, ap, ◌∙◌, sym, subst}
use mathlib.Core.Bool.{Bool, true, false}
use mathlib.Core.List.{List}
use Prim.Native.Nat.{ℕ, suc, ◌+◌, ◌≤◌, ◌<◌}
use native.Mathlib.Omega.{arith}
use native.Mathlib.Numerals.{add-one}
use lib.Dec.{eqb}
use borrow.Author.Tests.{eqb-true, eqb-false, eq-eqb}
use lib.ListN.{length, get_or, set, replicate}
use lib.Seq.{get_or-set_same, get_or-set_other}
use Rattle.lexical.specs.SymbolPromises.{walk_from, IsFirst, Reached, reached, deep, Tree}
use Rattle.lexical.specs.declared.Stop.{Stop}
use Rattle.lexical.specs.declared.Stop.TheVariants.{At, Free, Deep}
use Rattle.name_numbers.proofs.TreeLaws.{one_more, NotFree, at-node, free-zero, keep, insert}
use Rattle.lexical.proofs.Zeros.{zero-at}

abbrev pub walk_of : (letters tree : List ℕ) → ℕ → Stop
walk_of letters tree j = walk_from 128 letters tree (get_or letters j 0) (get_or letters j 0) 8192

module _ {letters tree : List ℕ} {i : ℕ} (h : Tree letters tree i) where
  wider : (k : ℕ) → get_or tree k 0 ≤ i + 1
  wider k = let b = h.below k in omega arith

  -- a symbol that is no name
  pub tree-skip : get_or letters i 0 ≡ 0 → Tree letters tree (i + 1)
  tree-skip z = record {
    below = wider;
    firsts = h.firsts;
    known = λ j l n. one_more j i (Reached letters j (walk_of letters tree j)) l (λ m. h.known j m n) (λ e. absurd (n (ap (λ (x : ℕ). get_or letters x 0) e ∙ z)));
  }

  pub grown : Reached letters i (walk_of letters tree i) → Tree letters tree (i + 1)
  grown r = record {
    below = wider;
    firsts = h.firsts;
    known = λ j l n. one_more j i (Reached letters j (walk_of letters tree j)) l (λ m. h.known j m n) (λ e. subst (λ (x : ℕ). Reached letters x (walk_of letters tree x)) (sym e) r);
  }

  first-at : {m : ℕ} → walk_of letters tree i ≡ At m → IsFirst letters i m
  first-at {m} w =
      let n = at-node letters (get_or letters i 0) 128 tree (get_or letters i 0) 8192 w in
      let e = eqb-true (get_or letters m 0) (get_or letters i 0) n.alike in
      let f = h.firsts n.slot m n.holds in
      let b = h.below n.slot in let c = n.holds in
      record { up_to = omega arith; same = e; none = λ j l p. f.none j l (p ∙ sym e) }

  pub tree-at : {w : Stop} {m : ℕ} → w ≡ walk_of letters tree i → w ≡ At m → Tree letters tree (i + 1) × IsFirst letters i m
  tree-at {w} {m} p q = let f : IsFirst letters i m = first-at (sym p ∙ q) in (grown (subst (Reached letters i) (sym q ∙ p) (reached f)), f)

  pub tree-deep : {w : Stop} → w ≡ walk_of letters tree i → w ≡ Deep → Tree letters tree (i + 1)
  tree-deep p q = grown (subst (Reached letters i) (sym q ∙ p) deep)

  module _ {w : Stop} {k : ℕ} (p : w ≡ walk_of letters tree i) (q : w ≡ Free k) where
    free : walk_of letters tree i ≡ Free k
    free = sym p ∙ q

    zero-there : get_or tree k 0 ≡ 0
    zero-there = free-zero letters (get_or letters i 0) 128 tree (get_or letters i 0) 8192 free

    not_free : {j : ℕ} {v : Stop} → Reached letters j v → NotFree v
    not_free (reached f) = tt
    not_free deep = tt

    pub first-new : (get_or letters i 0 ≡ 0 → ⊥) → IsFirst letters i i
    first-new n = record { up_to = omega arith; same = refl; none = none_before }
      where
        none_before : (j : ℕ) → j < i → get_or letters j 0 ≡ get_or letters i 0 → ⊥
        none_before j l a =
            let r : Reached letters j (walk_of letters tree j) = h.known j l (λ z. n (sym a ∙ z)) in
            let e : walk_of letters tree j ≡ Free k = ap (λ (x : ℕ). walk_from 128 letters tree x x 8192) a ∙ free in
            subst NotFree e (not_free r)

    pub tree-new : (get_or letters i 0 ≡ 0 → ⊥) → k < length tree → Tree letters (set tree k (i + 1)) (i + 1)
    tree-new n l = record { below = below; firsts = firsts; known = known }
      where
        pick : (s : ℕ) (P : ℕ → Type 0) → P (i + 1) → P (get_or tree s 0) → P (get_or (set tree k (i + 1)) s 0)
        pick s P a b = on (eqb s k) refl
          where
            on : (x : Bool) → eqb s k ≡ x → P (get_or (set tree k (i + 1)) s 0)
            on true e = subst P (sym (ap (λ (y : ℕ). get_or (set tree k (i + 1)) y 0) (eqb-true s k e) ∙ get_or-set_same tree k (i + 1) 0 l)) a
            on false e = subst P (sym (get_or-set_other tree k s (i + 1) 0 (eqb-false s k e))) b

        below : (s : ℕ) → get_or (set tree k (i + 1)) s 0 ≤ i + 1
        below s = pick s (λ (x : ℕ). x ≤ i + 1) (omega arith) (wider s)

        firsts : (s v : ℕ) → get_or (set tree k (i + 1)) s 0 ≡ suc v → IsFirst letters v v
        firsts s v = pick s (λ (x : ℕ). x ≡ suc v → IsFirst letters v v)
            (λ e. let d : i ≡ v = omega arith in subst (λ (x : ℕ). IsFirst letters x x) d (first-new n)) (h.firsts s v)

        known : (j : ℕ) → j < i + 1 → (get_or letters j 0 ≡ 0 → ⊥) → Reached letters j (walk_of letters (set tree k (i + 1)) j)
        known j m o = one_more j i (Reached letters j (walk_of letters (set tree k (i + 1)) j)) m
            (λ g. let r : Reached letters j (walk_of letters tree j) = h.known j g o in
            subst (Reached letters j) (sym (keep letters (get_or letters j 0) tree k (i + 1) zero-there 128 (get_or letters j 0) 8192 (not_free r))) r)
            (λ e. subst (λ (x : ℕ). Reached letters x (walk_of letters (set tree k (i + 1)) x)) (sym e)
            (subst (Reached letters i) (sym (ap (λ (x : ℕ). walk_of letters (set tree k x) i) (add-one i)
            ∙ insert letters (get_or letters i 0) tree k i l (eq-eqb (get_or letters i 0) (get_or letters i 0) refl) 128 (get_or letters i 0) 8192 free))
            (reached (first-new n))))

-- the tree of no names
pub tree-start : (letters : List ℕ) (n : ℕ) → Tree letters (replicate n 0) 0
tree-start letters n = record {
  below = λ k. let z = zero-at n k in omega arith;
  firsts = λ k v e. let z = zero-at n k in absurd (omega arith);
  known = λ j l m. absurd (omega arith);
}
