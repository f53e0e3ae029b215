-- No two replies have one answer: document 01's numbers and values determine the reply. Assumes nothing.
use mathlib.Core.Path.{◌≡◌, refl, sym, ap, ◌∙◌}
use Rattle.refusals.specs.Refusals.{fault}
use Rattle.refusals.proofs.RefusalNumbers.{numbered, numbered-back}
use Rattle.obligations.specs.Calls as calls
use Rattle.held_checks.specs.Answers.{Answer, refused, refused_at, loaded, dropped, looked, verdict_is, written, answer_to}

-- the reply of an answer
abbrev reply_of : Answer → calls.Reply
reply_of (refused n) = calls.refused (numbered n)
reply_of (refused_at n p) = calls.refused_at (fault p (numbered n))
reply_of loaded = calls.loaded
reply_of dropped = calls.dropped
reply_of (looked n) = calls.looked n
reply_of (verdict_is v) = calls.verdict_is v
reply_of (written n) = calls.written n

reply-back : (r : calls.Reply) → reply_of (answer_to r) ≡ r
reply-back (calls.refused_at f) = λ i. calls.refused_at (record { place = f.place; refusal = numbered-back f.refusal i })
reply-back (calls.refused r) = ap calls.refused (numbered-back r)
reply-back calls.loaded = refl
reply-back (calls.looked n) = refl
reply-back (calls.verdict_is v) = refl
reply-back (calls.written n) = refl
reply-back calls.dropped = refl

pub one-reply : (r s : calls.Reply) → answer_to r ≡ answer_to s → r ≡ s
one-reply r s e = sym (reply-back r) ∙ ap reply_of e ∙ reply-back s
