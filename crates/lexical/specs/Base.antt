-- Document 01's dossier BASE, with the parts that its table of trial dossiers changes.
use Rattle.std.specs.Prelude.{List, ◌++◌, ℕ}
use Prim.Native.String.{String}
use Rattle.lexical.specs.Lists.{bytes}

pub record Parts : Type 0 where
  -- the operations in the contents, and their bodies
  pub listed : String
  pub cinit : String
  pub retrieve : String
  pub operations : String

unfoldable pub dossier_of : Parts → List ℕ
dossier_of p =
    bytes "contents given SEG abstract concrete ainit cinit retrieve " ++ bytes p.listed
    ++ bytes "end\ngiven SEG s1 s2 end\nabstract m : P SEG ; where true end\nconcrete k : 0..2 ; where true end\nainit where m = empty SEG end\ncinit where "
    ++ bytes p.cinit ++ bytes " end\nretrieve where " ++ bytes p.retrieve ++ bytes " end\n" ++ bytes p.operations

unfoldable pub base : List ℕ
base = dossier_of (record { listed = "op add "; cinit = "k = 0"; retrieve = "k = # m"; operations = "op add abstract # m' = # m + 1 concrete k' = k + 1 end\n" })
