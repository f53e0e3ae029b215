-- What each of the five calls promises, for every content of the held bytes: its answer, the held bytes after it and the lent bytes after it are those of `respond`.
use Rattle.std.specs.Prelude.{◌≡◌, List, ℕ}
use Rattle.obligations.specs.Calls.{Held, nothing, holding, Call, load, advance, verdict, witness, release, Reply, refused_at, refused, loaded, looked, verdict_is, written, dropped, respond}
use Rattle.held_checks.specs.HeldBytes.{bytes_of, none_held, held_text, mark_of, held_by}
use Rattle.held_checks.specs.Answers.{Answer, answer_to}

-- the text that is held after a call, if something is
abbrev pub text_after : List ℕ → Call → List ℕ
text_after b (load t) = t
text_after b (advance n) = held_text b
text_after b verdict = held_text b
text_after b (witness l) = held_text b
text_after b release = held_text b

-- the bytes of a held check with its text
abbrev pub bytes_for : (text : List ℕ) → Held → List ℕ
bytes_for t nothing = none_held
bytes_for t (holding σ p v) = bytes_of t p (mark_of v)

-- "A refused call changes neither the held check nor one byte of a lent buffer."; verdict and witness leave the held bytes as they are, too
abbrev pub bytes_left : (b text : List ℕ) → Reply → Held → List ℕ
bytes_left b t (refused_at f) h = b
bytes_left b t (refused r) h = b
bytes_left b t loaded h = bytes_for t h
bytes_left b t (looked n) h = bytes_for t h
bytes_left b t (verdict_is v) h = b
bytes_left b t (written n) h = b
bytes_left b t dropped h = bytes_for t h

unfoldable pub bytes_after : List ℕ → Call → List ℕ
bytes_after b c = bytes_left b (text_after b c) (respond (held_by b) c).reply (respond (held_by b) c).held

pub record Responds (b : List ℕ) (c : Call) (after lent : List ℕ) (a : Answer) : Type 0 where
  pub answer : a ≡ answer_to (respond (held_by b) c).reply
  pub bytes : after ≡ bytes_after b c
  pub lent_bytes : lent ≡ (respond (held_by b) c).lent
