-- The byte of an ending by its place among all endings. Assumes nothing.
use mathlib.Core.Path.{◌≡◌, ap, ◌∙◌}
use mathlib.Core.List.{List, [], ◌∷◌}
use Prim.Native.Nat.{ℕ}
use Rattle.std.specs.Prelude.{Option, Some, None, slice_index_or}
use Rattle.lexical.specs.SymbolPromises.{ending_is}
use Rattle.lexical.specs.declared.Ending.{Ending}
use Rattle.lexical.specs.declared.Ending.TheVariants.{Plain, Prime, Query, Shriek}
use Rattle.obligations.specs.Report.{ending_bytes}
use Rattle.lines.specs.LinesByNumber.{byte_piece}

-- what is written of the ending at a place, by another name of the place
abbrev endings : List Ending
endings = Plain ∷ Prime ∷ Query ∷ Shriek ∷ []

pub piece-at : (x : Ending) (r : Option ℕ) {k n : ℕ} → byte_piece r ≡ ending_bytes (ending_is x) → x ≡ slice_index_or endings k x → k ≡ n
    → byte_piece r ≡ ending_bytes (ending_is (slice_index_or endings n x))
piece-at x r w e h = w ∙ ap (λ (y : Ending). ending_bytes (ending_is y)) (e ∙ ap (λ (i : ℕ). slice_index_or endings i x) h)

-- a byte that is written is there
pub is_byte : (x : Option ℕ) (b : ℕ) → byte_piece x ≡ b ∷ [] → x ≡ Some b
is_byte (Some c) b e = cc
is_byte None b e = cc
