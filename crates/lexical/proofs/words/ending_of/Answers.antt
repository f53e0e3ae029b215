-- `lexical::words::ending_of` meets its contract. Assumes nothing.
use mathlib.Core.List.{[], ◌∷◌}
use Prim.Native.Nat.{ℕ}
use mathlib.Core.Path.{sym, ap}
use Rattle.lexical.specs.Symbols.{ending_of}
use Rattle.lexical.proofs.WordLaws.{ending-none}
use Rattle.lexical.proofs.words.ending_of.Goals as goal

pub returns-in-39 : goal.returns-in-39
unfolding ending_of
returns-in-39 c = sym (ap (λ (b : ℕ). ending_of (b ∷ [])) c.in-39.is)

pub returns-in-63 : goal.returns-in-63
unfolding ending_of
returns-in-63 c = sym (ap (λ (b : ℕ). ending_of (b ∷ [])) c.in-63.is)

pub returns-in-33 : goal.returns-in-33
unfolding ending_of
returns-in-33 c = sym (ap (λ (b : ℕ). ending_of (b ∷ [])) c.in-33.is)

pub returns-in_default : goal.returns-in_default
returns-in_default c = ending-none c.args.b c.in_default.in_default-own.rest.0.0.1 c.in_default.in_default-own.rest.0.1 c.in_default.in_default-own.rest.1
