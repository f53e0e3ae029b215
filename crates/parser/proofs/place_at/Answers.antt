-- `parser::place_at` meets its contract.
use mathlib.Core.Path.{◌≡◌, sym, ◌∙◌}
use Prim.Native.Nat.{ℕ}
use lib.Dec.{ltb}
use lib.ListN.{length, get_or, get_or-eq_default}
use borrow.Author.Rules.{rules}
use borrow.Author.Tests.{ltb-true, ltb-false}
use mathlib.Core.List.{List}
use Rattle.std.proofs.Common.{Bor}
use Rattle.std.specs.Option.{is_some, MatchOption, IfSome}
use Rattle.std.specs.Prelude.{Option, Some, None}
use Rattle.std.proofs.lemmas.List.{get_or_default}
use Rattle.parser.proofs.place_at.Goals as goal

found : (s : List ℕ) (i end r : ℕ) (o : Option (Bor ℕ)) (P : Bor ℕ → Type 0) → is_some o ≡ ltb i (length s) → IfSome o (λ x. x.now ≡ get_or s i x.now) → MatchOption o (r ≡ end) P → ((x : Bor ℕ) → P x → r ≡ x.now)
    → r ≡ get_or s i end
found s i end r None P e h m f = m ∙ sym (get_or-eq_default s end (ltb-false i (length s) (sym e)))
found s i end r (Some x) P e h m f = f x m ∙ h ∙ get_or_default s i x.now end (ltb-true i (length s) (sym e))

pub returns : goal.returns
returns c = found c.args.starts.now c.args.i c.args.end c.map_or.result c.get.result _ c.get.ensures.lookup.0 c.get.ensures.lookup.1 c.map_or.ensures (λ x p. let q = p in search rules)
