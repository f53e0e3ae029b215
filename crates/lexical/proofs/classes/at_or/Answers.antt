-- `lexical::classes::at_or` meets its contract: what `get` finds at the place, or `none`. Assumes nothing.
use mathlib.Core.Path.{◌≡◌, ◌∙◌, ap, sym}
use mathlib.Core.List.{List}
use Prim.Native.Nat.{ℕ}
use lib.Dec.{ltb}
use lib.ListN.{length, get_or, get_or-eq_default}
use borrow.Author.Tests.{ltb-true, ltb-false}
use Rattle.std.proofs.Common.{Bor}
use Rattle.std.specs.Prelude.{Option, Some, None}
use Rattle.std.specs.Option.{unwrap_or, option_copied, is_some, IfSome}
use Rattle.std.proofs.lemmas.List.{get_or_default}
use Rattle.lexical.proofs.classes.at_or.Goals as goal

looked : {A : Type 0} (s : List A) (at : ℕ) (d : A) (o : Option (Bor A)) → is_some o ≡ ltb at (length s) → IfSome o (λ x. x.now ≡ get_or s at x.now) → unwrap_or (option_copied o) d ≡ get_or s at d
looked s at d None e h = sym (get_or-eq_default s d (ltb-false at (length s) (sym e)))
looked s at d (Some x) e h = h ∙ get_or_default s at x.now d (ltb-true at (length s) (sym e))

pub returns : goal.returns
returns c c' = c'.unwrap_or.ensures ∙ ap (λ o. unwrap_or o c'.args.none) c'.copied.ensures ∙ looked c'.args.s.now c'.args.at c'.args.none c'.get.result c'.get.ensures.lookup.0 c'.get.ensures.lookup.1
