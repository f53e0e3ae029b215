-- What the functions promise that try a text.
use Rattle.std.specs.Prelude.{◌≡◌, List, ◌++◌, ℕ, take, drop, Option, Some, None, ⊤}
use Rattle.refusals.specs.RefusalNames.{fault_is}
use Rattle.refusals.specs.declared.Fault.{Fault}
use Rattle.static_rules.specs.Read as definition
use Rattle.static_rules.specs.Read.{refusal, reading, read}

-- the fault of a text, if it is refused
abbrev pub Answered : definition.Reading → Option Fault → Type 0
Answered (refusal f) (Some x) = fault_is x ≡ f
Answered (refusal f) None = ⊥
Answered (reading d) (Some x) = ⊥
Answered (reading d) None = ⊤

pub record AnswerOf (text : List ℕ) (r : Option Fault) : Type 0 where
  pub is : Answered (read text) r

-- a text with other words in the place of its bytes from `from` up to `to`; of a text that is too long as many bytes as tell it
abbrev pub instead : (text : List ℕ) (from to : ℕ) (words : List ℕ) → List ℕ
instead text from to words = take 32769 (take from text ++ (words ++ drop to text))
