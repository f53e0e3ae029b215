-- A list of nodes, cut from its beginning into pieces of one length: what is left of it, and the place at which that stands.
use mathlib.Core.Path.{◌≡◌, ap, sym, ◌∙◌}
use mathlib.Core.List.{List, ◌++◌}
use Prim.Native.Nat.{ℕ, ◌+◌, ◌-◌, ◌≤◌, ◌<◌}
use native.Mathlib.Omega.{arith}
use lib.ListN.{length, drop, take, get_or, length-append, get_or-append}
use lib.Seq.{drop-drop, drop_at, take_at, get_or-drop}

abbrev pub place : (code rest : List ℕ) → ℕ
place code rest = length code - length rest

-- `rest` is the end of `code`
pub record Ends (code rest : List ℕ) : Type 0 where
  pub fits : length rest ≤ length code
  pub here : drop (place code rest) code ≡ rest

pub whole : (code : List ℕ) → Ends code code
whole code = record { fits = omega arith; here = ap (λ (n : ℕ). drop n code) none }
  where
    none : length code - length code ≡ 0
    none = omega arith

-- fewer than n numbers are left
pub none-left : (code rest : List ℕ) (n m : ℕ) → Ends code rest → length rest < m → m ≡ n → length code < place code rest + n
none-left code rest n m e few q = let f = e.fits in omega arith

-- one piece of n numbers on
module _ (code d rest rest' : List ℕ) (n : ℕ) (cut : rest ≡ d ++ rest') (long : length d ≡ n) (e : Ends code rest) where
  longer : length rest ≡ n + length rest'
  longer = ap (λ (l : List ℕ). length l) cut ∙ length-append d rest' ∙ ap (λ (m : ℕ). m + length rest') long

  pub place-on : place code rest + n ≡ place code rest'
  place-on = let s = longer in let f = e.fits in omega arith

  pub room : place code rest + n ≤ length code
  room = let s = longer in let f = e.fits in omega arith

  pub ends-on : Ends code rest'
  ends-on = record {
    fits = let s = longer in let f = e.fits in omega arith;
    here = ap (λ (k : ℕ). drop k code) (sym place-on) ∙ (sym (drop-drop n (place code rest) code) ∙ (ap (λ (l : List ℕ). drop n l) (e.here ∙ cut) ∙ drop_at d rest' n long));
  }

  -- what has n numbers and stands at the place is the piece
  pub piece-is : (xs r : List ℕ) → length xs ≡ n → drop (place code rest) code ≡ xs ++ r → d ≡ xs
  piece-is xs r m q = sym (take_at d rest' n long) ∙ (ap (λ (l : List ℕ). take n l) (sym cut ∙ (sym e.here ∙ q)) ∙ take_at xs r n m)

  pub piece-at : (k : ℕ) → k < n → get_or d k 0 ≡ get_or code (place code rest + k) 0
  piece-at k h =
      sym (get_or-append d rest' 0 k (omega arith))
      ∙ (ap (λ (l : List ℕ). get_or l k 0) (sym (e.here ∙ cut)) ∙ get_or-drop (place code rest) code k 0)
