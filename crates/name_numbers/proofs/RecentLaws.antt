-- Names that were looked for before: what is remembered stays right, and the tree needs no walk for them.
use mathlib.Core.Path.{◌≡◌, refl, ap, ◌∙◌, sym, subst}
use mathlib.Core.Bool.{Bool, true, false}
use mathlib.Core.List.{List}
use Prim.Native.Nat.{ℕ, zero, suc, ◌+◌, ◌≤◌, ◌<◌}
use native.Mathlib.Omega.{arith}
use lib.Dec.{eqb}
use borrow.Author.Tests.{eqb-true, eqb-false}
use lib.ListN.{length, get_or, set, replicate}
use lib.Seq.{get_or-set_same, get_or-set_other}
use Rattle.lexical.specs.SymbolPromises.{walk_from, IsFirst, Reached, reached, deep, Tree}
use Rattle.lexical.specs.declared.Stop.{Stop}
use Rattle.name_numbers.specs.RecentNames.{Recent, Earlier, Recalls, NumberOf}
use Rattle.std.specs.Prelude.{Option, Some, None}
use Rattle.std.specs.Bool.{then_some}
use Rattle.std.proofs.lemmas.Option.{none-some}
use Rattle.name_numbers.proofs.NumberingLaws.{walk_of, grown}

abbrev none : Option ℕ
none = None

none-at : (n k : ℕ) → get_or (replicate n none) k none ≡ none
none-at zero k = refl
none-at (suc n) zero = refl
none-at (suc n) (suc k) = none-at n k

module _ {letters : List ℕ} where
  -- the first symbol with the letters of v, of one that has the same letters
  first-like : {i v m : ℕ} → v ≤ i → get_or letters v 0 ≡ get_or letters i 0 → IsFirst letters v m → IsFirst letters i m
  first-like l e f =
      let u = f.up_to in
      record { up_to = omega arith; same = f.same ∙ e; none = λ j k p. f.none j k (p ∙ sym e) }

  first-self : {i r : ℕ} → IsFirst letters i r → IsFirst letters r r
  first-self f = record { up_to = omega arith; same = refl; none = λ j k p. f.none j k (p ∙ f.same) }

  reached-like : {i v : ℕ} (w : Stop) → v ≤ i → get_or letters v 0 ≡ get_or letters i 0 → Reached letters v w → Reached letters i w
  reached-like _ l e (reached f) = reached (first-like l e f)
  reached-like _ l e deep = deep

  -- a name that is recalled
  pub recalls : {recent : List (Option ℕ)} {i : ℕ} (k m : ℕ) (b : Bool) → Recent letters recent i → get_or recent k None ≡ Some m
      → b ≡ eqb (get_or letters m 0) (get_or letters i 0) → Recalls letters i (then_some b m)
  recalls k m false h e p = tt
  recalls {recent} {i} k m true h e p = record { before = h.before k m e; first = h.firsts k m e; same = eqb-true (get_or letters m 0) (get_or letters i 0) (sym p) }

  pub earlier : {i m : ℕ} {r : Option ℕ} → r ≡ Some m → Recalls letters i r → Earlier letters i m
  earlier {i} q h = subst (λ (x : Option ℕ). Recalls letters i x) q h

  pub recalled-first : {i m : ℕ} → Earlier letters i m → IsFirst letters i m
  recalled-first h = let b = h.before in first-like (omega arith) h.same h.first

  pub recalled-tree : {tree : List ℕ} {i m : ℕ} → Tree letters tree i → (get_or letters i 0 ≡ 0 → ⊥) → Earlier letters i m → Tree letters tree (i + 1)
  recalled-tree {tree} {i} {m} h n r =
      let b = r.before in
      let k : Reached letters m (walk_of letters tree m) = h.known m b (λ z. n (sym r.same ∙ z)) in
      let e : walk_of letters tree m ≡ walk_of letters tree i = ap (λ (x : ℕ). walk_from 128 letters tree x x 8192) r.same in
      grown h (subst (Reached letters i) e (reached-like (walk_of letters tree m) (omega arith) r.same k))

  -- what is remembered
  pub recent-start : (n : ℕ) → Recent letters (replicate n none) 0
  recent-start n = record { before = λ k v e. let z = none-at n k in absurd (none-some v (sym z ∙ e)); firsts = λ k v e. let z = none-at n k in absurd (none-some v (sym z ∙ e)) }

  pub recent-on : {recent : List (Option ℕ)} {i : ℕ} → Recent letters recent i → Recent letters recent (i + 1)
  recent-on h = record { before = λ k v e. let b = h.before k v e in omega arith; firsts = h.firsts }

  number-first : {i v : ℕ} {r : Option ℕ} → r ≡ Some v → NumberOf letters i r → IsFirst letters i v
  number-first {i} q h = let f = subst (λ (x : Option ℕ). NumberOf letters i x) q h in f.1

  pub recent-more : {recent : List (Option ℕ)} {i k : ℕ} (r : Option ℕ) → Recent letters recent i → NumberOf letters i r → k < length recent → Recent letters (set recent k r) (i + 1)
  recent-more {recent} {i} {k} r h f l = record { before = before; firsts = firsts }
    where
      pick : (s : ℕ) (P : Option ℕ → Type 0) → P r → P (get_or recent s none) → P (get_or (set recent k r) s none)
      pick s P a b = on (eqb s k) refl
        where
          on : (x : Bool) → eqb s k ≡ x → P (get_or (set recent k r) s none)
          on true e = subst P (sym (ap (λ (y : ℕ). get_or (set recent k r) y none) (eqb-true s k e) ∙ get_or-set_same recent k r none l)) a
          on false e = subst P (sym (get_or-set_other recent k s r none (eqb-false s k e))) b

      before : (s v : ℕ) → get_or (set recent k r) s none ≡ Some v → v < i + 1
      before s v =
          pick s (λ (x : Option ℕ). x ≡ Some v → v < i + 1) (λ e. let u = (number-first e f).up_to in omega arith) (λ e. let b = h.before s v e in omega arith)

      firsts : (s v : ℕ) → get_or (set recent k r) s none ≡ Some v → IsFirst letters v v
      firsts s v =
          pick s (λ (x : Option ℕ). x ≡ Some v → IsFirst letters v v)
          (λ e. first-self (number-first e f))
          (h.firsts s v)
