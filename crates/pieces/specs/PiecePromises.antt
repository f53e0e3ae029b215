-- What a function that writes a piece of text promises: the piece stands from its place on, and no other byte is touched. Nothing here need be believed.
use Rattle.std.specs.Prelude.{◌≡◌, List, ℕ, ◌+◌, length, take, drop}
use Rattle.lexical.specs.Symbols.{run}
use Rattle.table_nodes.specs.TableWalkPromises.{patch}
use Rattle.pieces.specs.declared.Writer.{Writer}

pub record Writes (at : ℕ) (piece before after : List ℕ) (r : ℕ) : Type 0 where
  pub written : after ≡ patch at piece before
  pub end : r ≡ at + length piece
  pub long : length after ≡ length before

-- a writer put a piece behind what stood there, and goes on in the same bytes
pub record Adds (piece : List ℕ) (old new : Writer) : Type 0 where
  pub same_bytes : new.out.ghost_name ≡ old.out.ghost_name
  pub written : Writes old.at piece old.out.now new.out.now new.at

-- the letters and digits from a place of the text on, as many as a name has
unfoldable pub letters_at : (text : List ℕ) (p : ℕ) → List ℕ
letters_at text p = take 16 (run (drop p text))
