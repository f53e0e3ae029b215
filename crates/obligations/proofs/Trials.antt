-- Document 01, "Table of trial dossiers": the entries marked (p), over the definitions.
use mathlib.Core.Path.{◌≡◌, refl}
use mathlib.Core.Bool.{Bool, true}
use mathlib.Core.List.{List, [], ◌∷◌}
use Prim.Native.String.{String}
use lib.IntN.{ℤ, pos, negsuc}
use Rattle.lexical.specs.Lists.{bytes, same, all}
use Rattle.lexical.specs.Base.{Parts, dossier_of}
use Rattle.sets.specs.Division.{floor_div, floor_mod}
use Rattle.meaning.specs.Values.{same_integer}
use Rattle.obligations.specs.Computed.{compute_report}

-- a text and what the program prints for it, or a division and its result
pub data Trial : Type 0 where
  prints : Parts → String → Trial
  divides : (found expected : ℤ) → Trial

abbrev with : (cinit retrieve operation : String) → Parts
with c r o = record { listed = "op add "; cinit = c; retrieve = r; operations = o }

abbrev add : String
add = "op add abstract # m' = # m + 1 concrete k' = k + 1 end\n"

pub trials : List Trial
trials =
    prints (with "k = 0" "k = # m" add) "accepted\nbindings 51\n"
    ∷ prints (with "k = 0" "k = # m" "op add abstract # m' = # m + 1 concrete k' = 1 end\n") "refuted correctness add\nm = {s1}\nk = 1\nk' = 1\nbindings 29\n"
    ∷ prints (with "k = 0" "k = # m" "op add abstract # m' = # m + 1 concrete k' = k + 1 and k < 1 end\n") "refuted applicability add\nm = {s1}\nk = 1\nbindings 8\n"
    ∷ prints (with "k < 2" "k = # m" add) "refuted initialisation\nk = 1\nbindings 2\n"
    ∷ prints (with "false" "k = # m" add) "accepted\nbindings 51\n"
    ∷ prints (with "k = 0" "false" add) "refuted initialisation\nk = 0\nbindings 1\n"
    ∷ prints (with "k = 0" "k = # m" "op add abstract m' = m concrete true end\n") "refuted correctness add\nm = {}\nk = 0\nk' = 1\nbindings 17\n"
    ∷ prints (record { listed = ""; cinit = "k = 0"; retrieve = "k = # m"; operations = "" }) "accepted\nbindings 3\n"
    ∷ divides (floor_div (negsuc 6) (pos 2)) (negsuc 3)
    ∷ divides (floor_mod (negsuc 6) (pos 2)) (pos 1)
    ∷ divides (floor_div (pos 7) (negsuc 1)) (negsuc 3)
    ∷ divides (floor_mod (pos 7) (negsuc 1)) (negsuc 0)
    ∷ []

pub passes : Trial → Bool
passes (prints p expected) = same (compute_report (dossier_of p)) (bytes expected)
passes (divides found expected) = same_integer found expected

pub all_pass : all passes trials ≡ true
unfolding trials passes compute_report
all_pass = refl
