-- The held check in bytes that the caller lends: how they are laid out, and which held check they stand for. "All zero means nothing held; otherwise the bytes are a text that load would
-- take, its profile, a place in its search order and a mark: unfinished only before the last place, accepted only at it, refuted anywhere but at 0; spare bytes are 0." (document 02, 2.12)
use Rattle.std.specs.Prelude.{Bool, cond, ◌&&◌, ◌||◌, List, [], ◌∷◌, ◌++◌, ℕ, zero, suc, pred, ◌+◌, ◌-◌, ◌*◌, ◌/◌, ◌%◌, eqb, leb, ltb, length, take, drop, get_or, replicate}
use Rattle.lexical.specs.Lists.{same}
use Rattle.static_rules.specs.Read.{Reading, refusal, reading, read}
use Rattle.obligations.specs.Subjects.{Subject, subject_of}
use Rattle.obligations.specs.Order.{obligation_of, total}
use Rattle.obligations.specs.Report.{check_at}
use Rattle.obligations.specs.Calls.{Verdict, unfinished, accepted, refuted, Held, nothing, holding}

-- a number in n bytes, the lowest first; the number that bytes are
unfoldable pub little_endian : (n x : ℕ) → List ℕ
little_endian zero x = []
little_endian (suc n) x = (x % 256) ∷ little_endian n (x / 256)

unfoldable pub from_bytes : List ℕ → ℕ
from_bytes [] = 0
from_bytes (b ∷ w) = b + 256 * from_bytes w

-- byte 0 the mark, 1 the profile (2.9), 2 the operation (2.10), 3 spare, 4 to 7 the text's length, 8 to 15 the place, then the text, and zeros behind it: 32,784 bytes
unfoldable pub bytes_of : (text : List ℕ) (place mark : ℕ) → List ℕ
bytes_of text p m = m ∷ 0 ∷ 0 ∷ 0 ∷ (little_endian 4 (length text) ++ (little_endian 8 p ++ (text ++ replicate (32768 - length text) 0)))

-- "All zero means nothing held"
unfoldable pub none_held : List ℕ
none_held = replicate 32784 0

abbrev pub held_mark : List ℕ → ℕ
held_mark b = get_or b 0 0

unfoldable pub held_text : List ℕ → List ℕ
held_text b = take (from_bytes (take 4 (drop 4 b))) (drop 16 b)

unfoldable pub held_place : List ℕ → ℕ
held_place b = from_bytes (take 8 (drop 8 b))

unfoldable pub is_laid : List ℕ → Bool
is_laid b = same b (bytes_of (held_text b) (held_place b) (held_mark b))

-- the marks: 1 unfinished, 2 accepted, 3 refuted
abbrev pub mark_of : Verdict → ℕ
mark_of unfinished = 1
mark_of accepted = 2
mark_of (refuted o) = 3

-- "unfinished only before the last place, accepted only at it, refuted anywhere but at 0"
unfoldable pub fitting : (all place mark : ℕ) → Bool
fitting n p m = eqb m 1 && ltb p n || (eqb m 2 && eqb p n || eqb m 3 && (ltb 0 p && leb p n))

-- the verdict of a mark; a refuted one speaks of the binding looked at last
unfoldable pub verdict_marked : Subject → (place mark : ℕ) → Verdict
verdict_marked σ p m = cond (eqb m 1) unfinished (cond (eqb m 2) accepted (refuted (obligation_of (check_at σ (pred p)))))

unfoldable pub held_in : Reading → (place mark : ℕ) → Held
held_in (refusal f) p m = nothing
held_in (reading d) p m = cond (fitting (total (subject_of d)) p m) (holding (subject_of d) p (verdict_marked (subject_of d) p m)) nothing

-- the held check that the bytes stand for; those of no form count as nothing held
unfoldable pub held_by : List ℕ → Held
held_by b = cond (is_laid b) (held_in (read (held_text b)) (held_place b) (held_mark b)) nothing
