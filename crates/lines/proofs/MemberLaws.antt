-- The members of a set written one behind the other are those of document 01, with a comma between any two; how long they are. Assumes nothing.
use mathlib.Core.Path.{◌≡◌, refl, sym, ap, ◌∙◌}
use mathlib.Core.Bool.{Bool, true, false}
use mathlib.Core.List.{List, [], ◌∷◌, ◌++◌, map, append_assoc, append-nil}
use Prim.Native.Nat.{ℕ, zero, suc, ◌+◌, ◌-◌, ◌*◌, ◌%◌, ◌≤◌, ◌<◌}
use native.Mathlib.Omega.{arith}
use native.Mathlib.Numerals.{add-one}
use lib.ListN.{length, length-append}
use Rattle.lexical.specs.Lists.{bytes}
use Rattle.sets.specs.Sets.{has, members_from, members}
use Rattle.sets.proofs.Pairs.{has-low}
use Rattle.obligations.specs.Report.{separated, braced}
use Rattle.lines.specs.MembersByNumber.{members_piece}

comma-length : length (bytes ", ") ≡ 2
unfolding bytes
comma-length = refl

-- members behind what stands before the first of them
abbrev behind : List ℕ → List (List ℕ) → List ℕ
behind p [] = []
behind p (x ∷ xs) = p ++ separated (x ∷ xs)

separated-cons : (x : List ℕ) (xs : List (List ℕ)) → separated (x ∷ xs) ≡ x ++ behind (bytes ", ") xs
unfolding separated
separated-cons x [] = sym (append-nil x)
separated-cons x (y ∷ ys) = append_assoc x (bytes ", ") (separated (y ∷ ys))

behind-nothing : (xs : List (List ℕ)) → behind [] xs ≡ separated xs
unfolding separated
behind-nothing [] = refl
behind-nothing (x ∷ xs) = refl

module _ (f : ℕ → List ℕ) (s : ℕ) where
  members-are : (n k : ℕ) (p : List ℕ) → members_piece f s p k n ≡ behind p (map f (members_from s k n))
  unfolding members_piece members_from
  members-are zero k p = refl
  members-are (suc n) k p = on (has s k) (members-are n (suc k) (bytes ", ")) (members-are n (suc k) p)
    where
      on : (t : Bool) → members_piece f s (bytes ", ") (suc k) n ≡ behind (bytes ", ") (map f (members_from s (suc k) n))
          → members_piece f s p (suc k) n ≡ behind p (map f (members_from s (suc k) n))
          → ◌≡◌ {A = List ℕ} (elim t [ true ↦ p ++ (f k ++ members_piece f s (bytes ", ") (suc k) n) | false ↦ members_piece f s p (suc k) n ])
          (behind p (map f (elim t [ true ↦ k ∷ members_from s (suc k) n | false ↦ members_from s (suc k) n ])))
      on true q r = ap (λ (w : List ℕ). p ++ (f k ++ w)) q ∙ ap (λ (w : List ℕ). p ++ w) (sym (separated-cons (f k) (map f (members_from s (suc k) n))))
      on false q r = r

  pub braced-are : (bytes "{" ++ (members_piece f s [] 0 16 ++ bytes "}")) ≡ braced (map f (members s))
  unfolding braced members
  braced-are =
      ap (λ (w : List ℕ). bytes "{" ++ (w ++ bytes "}")) (members-are 16 0 [] ∙ behind-nothing (map f (members_from s 0 16)))
      ∙ sym (append_assoc (bytes "{") (separated (map f (members_from s 0 16))) (bytes "}"))

  -- one step
  pub members-here : (k : ℕ) (p : List ℕ) → k < 16 → has s k ≡ true
      → members_piece f s p k (16 - k) ≡ p ++ (f k ++ members_piece f s (bytes ", ") (k + 1) (16 - (k + 1)))
  unfolding members_piece
  members-here k p h e =
      let n : ℕ = 16 - (k + 1) in
      let more : 16 - k ≡ suc n = omega arith in
      ap (λ (i : ℕ). members_piece f s p k i) more
      ∙ ap (λ (t : Bool). elim t [ true ↦ p ++ (f k ++ members_piece f s (bytes ", ") (suc k) n) | false ↦ members_piece f s p (suc k) n ]) e
      ∙ ap (λ (i : ℕ). p ++ (f k ++ members_piece f s (bytes ", ") i n)) (sym (add-one k))

  pub members-there : (k : ℕ) (p : List ℕ) → k < 16 → has s k ≡ false → members_piece f s p k (16 - k) ≡ members_piece f s p (k + 1) (16 - (k + 1))
  unfolding members_piece
  members-there k p h e =
      let n : ℕ = 16 - (k + 1) in
      let more : 16 - k ≡ suc n = omega arith in
      ap (λ (i : ℕ). members_piece f s p k i) more
      ∙ ap (λ (t : Bool). elim t [ true ↦ p ++ (f k ++ members_piece f s (bytes ", ") (suc k) n) | false ↦ members_piece f s p (suc k) n ]) e
      ∙ ap (λ (i : ℕ). members_piece f s p i n) (sym (add-one k))

  pub members-none : (k : ℕ) (p : List ℕ) → 16 ≤ k → members_piece f s p k (16 - k) ≡ []
  unfolding members_piece
  members-none k p h = let z : 16 - k ≡ 0 = omega arith in ap (λ (i : ℕ). members_piece f s p k i) z

  -- how long they are, where no member is longer than 37
  module _ (short : (k : ℕ) → length (f k) ≤ 37) where
    next-length : (n k : ℕ) → length (members_piece f s (bytes ", ") k n) ≤ 39 * n
    unfolding members_piece
    next-length zero k = omega arith
    next-length (suc n) k = on (has s k) (next-length n (suc k))
      where
        on : (t : Bool) → length (members_piece f s (bytes ", ") (suc k) n) ≤ 39 * n
            → length {A = ℕ} (elim t [ true ↦ bytes ", " ++ (f k ++ members_piece f s (bytes ", ") (suc k) n) | false ↦ members_piece f s (bytes ", ") (suc k) n ]) ≤ 39 * suc n
        on true r =
            let p = length-append (bytes ", ") (f k ++ members_piece f s (bytes ", ") (suc k) n) in
            let q = length-append (f k) (members_piece f s (bytes ", ") (suc k) n) in
            omega (arith, short k, comma-length)
        on false r = omega arith

    members-length : (n k : ℕ) → length (members_piece f s [] k n) ≤ 39 * n - 2
    unfolding members_piece
    members-length zero k = omega arith
    members-length (suc n) k = on (has s k) (members-length n (suc k))
      where
        on : (t : Bool) → length (members_piece f s [] (suc k) n) ≤ 39 * n - 2
            → length {A = ℕ} (elim t [ true ↦ f k ++ members_piece f s (bytes ", ") (suc k) n | false ↦ members_piece f s [] (suc k) n ]) ≤ 39 * suc n - 2
        on true r =
            let q = length-append (f k) (members_piece f s (bytes ", ") (suc k) n) in
            omega (arith, short k, next-length n (suc k))
        on false r = omega arith

    pub set-length : length (members_piece f s [] 0 16) ≤ 622
    set-length = members-length 16 0

    pub braced-length : length (braced (map f (members s))) ≤ 624
    unfolding bytes
    braced-length =
        let p = ap (λ (w : List ℕ). length w) braced-are in
        let q = length-append (members_piece f s [] 0 16) (bytes "}") in
        omega (arith, set-length)

-- bits behind the 16th do not matter
from_low : (s n k : ℕ) → k + n ≤ 16 → members_from (s % 65536) k n ≡ members_from s k n
unfolding members_from
from_low s zero k h = refl
from_low s (suc n) k h =
    ap (λ (t : Bool). elim t [ true ↦ k ∷ members_from (s % 65536) (suc k) n | false ↦ members_from (s % 65536) (suc k) n ]) (has-low 16 s k (omega arith))
    ∙ ap (λ (l : List ℕ). elim (has s k) [ true ↦ k ∷ l | false ↦ l ]) (from_low s n (suc k) (omega arith))

pub members-low : (s : ℕ) → members (s % 65536) ≡ members s
unfolding members
members-low s = from_low s 16 0 (omega arith)
