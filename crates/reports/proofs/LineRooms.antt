-- Room for the lines of a report, and the lines piece by piece: the line with the count, the line of a refusal.
use mathlib.Core.List.{List, ◌++◌}
use Prim.Native.Nat.{ℕ, ◌+◌, ◌^◌, ◌<◌, ◌≤◌}
use native.Mathlib.Omega.{arith}
use lib.ListN.{length, length-append}
use Rattle.lexical.specs.Lists.{bytes}
use Rattle.obligations.specs.Report.{decimal}
use Rattle.pieces.specs.PiecePromises.{Writes, letters_at}
use Rattle.pieces.proofs.WrittenPieces.{letters-length}
use Rattle.pieces.proofs.Digits.{decimal-length}
use Rattle.reports.specs.ReportPromises.{refusal_piece}

module _ {at m q : ℕ} {a b c : List ℕ} where
  pub count_room : (n : ℕ) → Writes at (bytes "bindings ") a b m → Writes m (decimal n) b c q → n < 2 ^ 64 → at + 30 ≤ length a → q < length c
  unfolding bytes
  count_room n w v h k = omega (arith, w.end, w.long, v.end, v.long, decimal-length n h)

  -- behind at most n bytes and an operation's name
  pub title-room : (text : List ℕ) (p n : ℕ) {piece : List ℕ} → Writes at piece a b m → Writes m (letters_at text p) b c q → length piece ≤ n → at + (n + 17) ≤ length a
      → q < length c
  title-room text p n w v l k = omega (arith, w.end, w.long, v.end, v.long, l, letters-length text p)

module _ (n : ℕ) {at m q : ℕ} {a b c : List ℕ} (w : Writes at (bytes "refused ") a b m) (v : Writes m (decimal n) b c q) (h : n < 2 ^ 64) (k : at + 53 ≤ length a) where
  pub at_room : q + 4 ≤ length c
  unfolding bytes
  at_room = omega (arith, w.end, w.long, v.end, v.long, decimal-length n h)

  module _ {s : ℕ} {e : List ℕ} (u : Writes q (bytes " at ") c e s) where
    pub place-room : s + 20 ≤ length e
    unfolding bytes
    place-room = omega (arith, w.end, w.long, v.end, v.long, u.end, u.long, decimal-length n h)

    module _ (p : ℕ) {t : ℕ} {f : List ℕ} (x : Writes s (decimal p) e f t) (g : p < 2 ^ 64) where
      pub newline-room : t < length f
      unfolding bytes
      newline-room = omega (arith, w.end, w.long, v.end, v.long, u.end, u.long, x.end, x.long, decimal-length n h, decimal-length p g)

pub refusal-short : (n p : ℕ) → n < 2 ^ 64 → p < 2 ^ 64 → length (refusal_piece n p) ≤ 53
unfolding bytes
refusal-short n p h g =
    let a = length-append (bytes "refused " ++ decimal n ++ bytes " at " ++ decimal p) (bytes "\n") in
    let b = length-append (bytes "refused " ++ decimal n ++ bytes " at ") (decimal p) in
    let c = length-append (bytes "refused " ++ decimal n) (bytes " at ") in
    let d = length-append (bytes "refused ") (decimal n) in
    omega (arith, decimal-length n h, decimal-length p g)
