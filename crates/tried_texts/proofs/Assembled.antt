-- The pieces of a text that is tried are that text. Assumes nothing.
use mathlib.Core.Path.{◌≡◌, refl, subst}
use mathlib.Core.List.{List, [], ◌++◌, append_assoc}
use Prim.Native.Nat.{ℕ, ◌-◌, min}
use native.Mathlib.Omega.{arith}
use lib.ListN.{length, take, drop}
use Rattle.std.proofs.lemmas.Grind.{common_steps}
use Rattle.std.proofs.lemmas.List.{drop_min}
use Rattle.static_rules.specs.Read as definition
use Rattle.static_rules.specs.Read.{refusal, reading, read}
use Rattle.text_readings.specs.TextPromises.{ReadAs, ReadsText}
use Rattle.std.specs.Prelude.{Result, Ok, Err, Option}
use Rattle.std.specs.Result.{result_err}
use Rattle.refusals.specs.declared.Fault.{Fault}
use Rattle.tried_texts.specs.TrialPromises.{Answered, AnswerOf, instead}

-- what is cut before something is put behind it
cut : (n : ℕ) (x y : List ℕ) → take n (take n x ++ y) ≡ take n (x ++ y)
cut n x y = grind (arith, common_steps)

-- the three pieces, each cut where the room ends
pub pieces : (text words : List ℕ) (from to : ℕ) {j : ℕ} {w x y z front behind : List ℕ} → j ≡ min to (length text)
    → w ≡ [] → x ≡ take 32769 (w ++ front) → y ≡ take 32769 (x ++ words) → z ≡ take 32769 (y ++ behind) → front ≡ take from text → behind ≡ take (length text - j) (drop j text)
    → z ≡ instead text from to words
pieces text words from to {behind = behind} hj hw hx hy hz f hb =
    let b : behind ≡ drop to text = rw (hb, hj) (grind (arith, common_steps, drop_min to text)) in
    rw (hz, hy, hx, hw, f, b, cut, append_assoc, cut) refl

pub answered-of : {t u : List ℕ} {a : Option Fault} → t ≡ u → AnswerOf t a → AnswerOf u a
answered-of {a = a} e h = subst (λ (l : List ℕ). AnswerOf l a) e h

-- ---- the answers of reading

answer : (text table rows firsts groups labels : List ℕ) (q : definition.Reading) (r : Result ℕ Fault) → ReadAs text table rows firsts groups labels q r → Answered q (result_err r)
unfolding ReadAs
answer text table rows firsts groups labels (refusal f) (Err x) e = e
answer text table rows firsts groups labels (refusal f) (Ok m) e = absurd e
answer text table rows firsts groups labels (reading d) (Err x) e = let q = e.0 in cc
answer text table rows firsts groups labels (reading d) (Ok m) e = tt

pub answered : {text table rows firsts groups labels : List ℕ} {r : Result ℕ Fault} → ReadsText text table rows firsts groups labels r → AnswerOf text (result_err r)
answered {text} {table} {rows} {firsts} {groups} {labels} {r} w = record { is = answer text table rows firsts groups labels (read text) r w.answer }
