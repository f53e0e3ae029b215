-- `lexical::marks::mark_of` meets its contract, arm by arm. Assumes nothing.
-- Form 8: the answer of an arm of one byte is one use of `at-first`, and computes at its byte; one law over the byte would have a list of these bytes with their codes, and each answer would
-- pick its entry there.
use mathlib.Core.Path.{refl, ap}
use mathlib.Core.Bool.{true, false}
use mathlib.Core.List.{[], ◌∷◌}
use Rattle.lexical.specs.Kinds.{code_of}
use Rattle.lexical.specs.Lists.{bytes, begins}
use Rattle.lexical.specs.Symbols.{longest}
use Rattle.lexical.specs.SymbolPromises.{token_of}
use Rattle.lexical.proofs.MarkLaws.{at-first, at-second, at-third, no_mark, found_by, longest_by, beginning, may_begin, begins-not}
use Rattle.lexical.proofs.marks.mark_of.Goals as goal

pub returns-in-58-default-default : goal.returns-in-58-default-default
unfolding longest begins bytes code_of
returns-in-58-default-default c = at-first c.args.b c.args.e c.in-58-default-default.is-0 refl

pub returns-in-59-default-default : goal.returns-in-59-default-default
unfolding longest begins bytes code_of
returns-in-59-default-default c = at-first c.args.b c.args.e c.in-59-default-default.is-0 refl

pub returns-in-44-default-default : goal.returns-in-44-default-default
unfolding longest begins bytes code_of
returns-in-44-default-default c = at-first c.args.b c.args.e c.in-44-default-default.is-0 refl

pub returns-in-124-eq45-eq62 : goal.returns-in-124-eq45-eq62
unfolding longest begins bytes code_of
returns-in-124-eq45-eq62 c = at-third c.in-124-eq45-eq62.is-0 c.in-124-eq45-eq62.is-1 c.in-124-eq45-eq62.is-2 refl

pub returns-in-124-default-default : goal.returns-in-124-default-default
unfolding longest_by beginning may_begin begins bytes code_of
returns-in-124-default-default c = at-second c.args.e c.in-124-default-default.is-0 c.in-124-default-default.is-1 (found_by 124 45 c.args.e (true ∷ false ∷ []) (refl, (begins-not 62 c.args.e [] [] c.in-124-default-default.is-2.1, tt)))

pub returns-in-124-default-default-2 : goal.returns-in-124-default-default-2
unfolding longest_by beginning may_begin begins bytes code_of
returns-in-124-default-default-2 c = at-first c.args.b c.args.e c.in-124-default-default.is-0 (found_by 124 c.args.b c.args.e (true ∷ false ∷ []) (refl, (begins-not 45 c.args.b (62 ∷ []) (c.args.e ∷ []) c.in-124-default-default.is-1.1, tt)))

pub returns-in-64-default-default : goal.returns-in-64-default-default
unfolding longest begins bytes code_of
returns-in-64-default-default c = at-first c.args.b c.args.e c.in-64-default-default.is-0 refl

pub returns-in-40-default-default : goal.returns-in-40-default-default
unfolding longest begins bytes code_of
returns-in-40-default-default c = at-first c.args.b c.args.e c.in-40-default-default.is-0 refl

pub returns-in-41-default-default : goal.returns-in-41-default-default
unfolding longest begins bytes code_of
returns-in-41-default-default c = at-first c.args.b c.args.e c.in-41-default-default.is-0 refl

pub returns-in-91-default-default : goal.returns-in-91-default-default
unfolding longest begins bytes code_of
returns-in-91-default-default c = at-first c.args.b c.args.e c.in-91-default-default.is-0 refl

pub returns-in-93-default-default : goal.returns-in-93-default-default
unfolding longest begins bytes code_of
returns-in-93-default-default c = at-first c.args.b c.args.e c.in-93-default-default.is-0 refl

pub returns-in-123-default-default : goal.returns-in-123-default-default
unfolding longest begins bytes code_of
returns-in-123-default-default c = at-first c.args.b c.args.e c.in-123-default-default.is-0 refl

pub returns-in-125-default-default : goal.returns-in-125-default-default
unfolding longest begins bytes code_of
returns-in-125-default-default c = at-first c.args.b c.args.e c.in-125-default-default.is-0 refl

pub returns-in-46-eq46-default : goal.returns-in-46-eq46-default
unfolding longest begins bytes code_of
returns-in-46-eq46-default c = at-second c.args.e c.in-46-eq46-default.is-0 c.in-46-eq46-default.is-1 refl

pub returns-in-61-eq62-default : goal.returns-in-61-eq62-default
unfolding longest begins bytes code_of
returns-in-61-eq62-default c = at-second c.args.e c.in-61-eq62-default.is-0 c.in-61-eq62-default.is-1 refl

pub returns-in-61-default-default : goal.returns-in-61-default-default
unfolding longest_by beginning may_begin begins bytes code_of
returns-in-61-default-default c = at-first c.args.b c.args.e c.in-61-default-default.is-0 (found_by 61 c.args.b c.args.e (true ∷ false ∷ []) (refl, (begins-not 62 c.args.b [] (c.args.e ∷ []) c.in-61-default-default.is-1.1, tt)))

pub returns-in-47-eq61-default : goal.returns-in-47-eq61-default
unfolding longest begins bytes code_of
returns-in-47-eq61-default c = at-second c.args.e c.in-47-eq61-default.is-0 c.in-47-eq61-default.is-1 refl

pub returns-in-60-eq61-eq62 : goal.returns-in-60-eq61-eq62
unfolding longest begins bytes code_of
returns-in-60-eq61-eq62 c = at-third c.in-60-eq61-eq62.is-0 c.in-60-eq61-eq62.is-1 c.in-60-eq61-eq62.is-2 refl

pub returns-in-60-eq61-default : goal.returns-in-60-eq61-default
unfolding longest_by beginning may_begin begins bytes code_of
returns-in-60-eq61-default c = at-second c.args.e c.in-60-eq61-default.is-0 c.in-60-eq61-default.is-1 (found_by 60 61 c.args.e (true ∷ true ∷ false ∷ false ∷ []) (refl, (refl, (begins-not 62 c.args.e [] [] c.in-60-eq61-default.is-2.1, (refl, tt)))))

pub returns-in-60-eq45-eq62 : goal.returns-in-60-eq45-eq62
unfolding longest begins bytes code_of
returns-in-60-eq45-eq62 c = at-third c.in-60-eq45-eq62.is-0 c.in-60-eq45-eq62.is-1 c.in-60-eq45-eq62.is-2 refl

pub returns-in-60-default-default : goal.returns-in-60-default-default
unfolding longest_by beginning may_begin begins bytes code_of
returns-in-60-default-default c = at-second c.args.e c.in-60-default-default.is-0 c.in-60-default-default.is-1 (found_by 60 45 c.args.e (true ∷ false ∷ false ∷ false ∷ []) (refl, (refl, (refl, (begins-not 62 c.args.e [] [] c.in-60-default-default.is-2.1, tt)))))

pub returns-in-60-default-default-2 : goal.returns-in-60-default-default-2
unfolding longest_by beginning may_begin begins bytes code_of
returns-in-60-default-default-2 c = at-first c.args.b c.args.e c.in-60-default-default.is-0 (found_by 60 c.args.b c.args.e (true ∷ false ∷ false ∷ false ∷ []) (refl, (begins-not 61 c.args.b [] (c.args.e ∷ []) c.in-60-default-default.is-1.0.1, (begins-not 61 c.args.b (62 ∷ []) (c.args.e ∷ []) c.in-60-default-default.is-1.0.1, (begins-not 45 c.args.b (62 ∷ []) (c.args.e ∷ []) c.in-60-default-default.is-1.1, tt)))))

pub returns-in-43-default-default : goal.returns-in-43-default-default
unfolding longest begins bytes code_of
returns-in-43-default-default c = at-first c.args.b c.args.e c.in-43-default-default.is-0 refl

pub returns-in-45-eq43-eq62 : goal.returns-in-45-eq43-eq62
unfolding longest begins bytes code_of
returns-in-45-eq43-eq62 c = at-third c.in-45-eq43-eq62.is-0 c.in-45-eq43-eq62.is-1 c.in-45-eq43-eq62.is-2 refl

pub returns-in-45-eq45-eq62 : goal.returns-in-45-eq45-eq62
unfolding longest begins bytes code_of
returns-in-45-eq45-eq62 c = at-third c.in-45-eq45-eq62.is-0 c.in-45-eq45-eq62.is-1 c.in-45-eq45-eq62.is-2 refl

pub returns-in-45-default-default : goal.returns-in-45-default-default
unfolding longest_by beginning may_begin begins bytes code_of
returns-in-45-default-default c = at-second c.args.e c.in-45-default-default.is-0 c.in-45-default-default.is-1 (found_by 45 43 c.args.e (true ∷ false ∷ false ∷ []) (refl, (begins-not 62 c.args.e [] [] c.in-45-default-default.is-2.1, (refl, tt))))

pub returns-in-45-default-default-2 : goal.returns-in-45-default-default-2
unfolding longest_by beginning may_begin begins bytes code_of
returns-in-45-default-default-2 c = at-second c.args.e c.in-45-default-default.is-0 c.in-45-default-default.is-1 (found_by 45 45 c.args.e (true ∷ false ∷ false ∷ []) (refl, (refl, (begins-not 62 c.args.e [] [] c.in-45-default-default.is-2.1, tt))))

pub returns-in-45-default-default-3 : goal.returns-in-45-default-default-3
unfolding longest_by beginning may_begin begins bytes code_of
returns-in-45-default-default-3 c = at-first c.args.b c.args.e c.in-45-default-default.is-0 (found_by 45 c.args.b c.args.e (true ∷ false ∷ false ∷ []) (refl, (begins-not 43 c.args.b (62 ∷ []) (c.args.e ∷ []) c.in-45-default-default.is-1.0.1, (begins-not 45 c.args.b (62 ∷ []) (c.args.e ∷ []) c.in-45-default-default.is-1.1, tt))))

pub returns-in-42-default-default : goal.returns-in-42-default-default
unfolding longest begins bytes code_of
returns-in-42-default-default c = at-first c.args.b c.args.e c.in-42-default-default.is-0 refl

pub returns-in-35-default-default : goal.returns-in-35-default-default
unfolding longest begins bytes code_of
returns-in-35-default-default c = at-first c.args.b c.args.e c.in-35-default-default.is-0 refl

pub returns-in_default : goal.returns-in_default
unfolding longest_by beginning may_begin begins bytes code_of
returns-in_default c = at-first c.args.b c.args.e c.in_default.is-0 (found_by 46 c.args.b c.args.e (false ∷ []) (begins-not 46 c.args.b [] (c.args.e ∷ []) c.in_default.is-1.1, tt))

pub returns-in_default-2 : goal.returns-in_default-2
unfolding longest_by beginning may_begin begins bytes code_of
returns-in_default-2 c = at-first c.args.b c.args.e c.in_default.is-0 (found_by 47 c.args.b c.args.e (false ∷ []) (begins-not 61 c.args.b [] (c.args.e ∷ []) c.in_default.is-1.1, tt))

pub returns-in_default-3 : goal.returns-in_default-3
unfolding bytes
returns-in_default-3 c = ap token_of (no_mark c.args.a _ c.in_default.is-0)
