-- The members of a set from a bit on, one behind the other: what is written while the set is walked upward. Nothing here need be believed.
use Rattle.std.specs.Prelude.{true, false, List, [], ◌++◌, ℕ, zero, suc}
use Rattle.lexical.specs.Lists.{bytes}
use Rattle.sets.specs.Sets.{has}

-- those of the n bits from k on, each written by f; p stands before the first of them, a comma before each other
unfoldable pub members_piece : (f : ℕ → List ℕ) (s : ℕ) (p : List ℕ) (k n : ℕ) → List ℕ
members_piece f s p k zero = []
members_piece f s p k (suc n) =
    elim (has s k) [ true ↦ p ++ (f k ++ members_piece f s (bytes ", ") (suc k) n) | false ↦ members_piece f s p (suc k) n ]
