-- BASE with another predicate in retrieve, which begins at byte 227, or with other operations, which begin at byte 236 after `true`; and whole texts:
-- the byte at fault and the number.
use mathlib.Core.Path.{◌≡◌, refl}
use mathlib.Core.Bool.{Bool, true, false, ◌&&◌}
use mathlib.Core.List.{List, [], ◌∷◌}
use Prim.Native.Nat.{ℕ, ◌+◌}
use Prim.Native.String.{String}
use lib.Dec.{eqb}
use Rattle.form.specs.LexicalLists.{all, bytes}
use Rattle.form.specs.LexicalBase.{Parts, dossier_of}
use Rattle.form.specs.LexicalRefusals.{Refusal, number_of, no_dossier, name_in_use, name_unknown, types_misfit, wide_type, many_bindings, large_size, zero_divisor}
use Rattle.static_rules.specs.Read.{Reading, refusal, reading}
use Rattle.static_rules.specs.Computed.{compute_read}

pub data Sample : Type 0 where
  -- a predicate for retrieve, or a body for the operation add, refused at its byte i
  predicate operation : String → (i : ℕ) → Refusal → Sample
  -- a predicate for retrieve and a body for the operation add, or a whole text, refused at byte i
  both : (retrieve operation : String) → (i : ℕ) → Refusal → Sample
  text : String → (i : ℕ) → Refusal → Sample
  fine : String → Sample

abbrev base : (retrieve operation : String) → Parts
base p o = record { listed = "op add "; cinit = "k = 0"; retrieve = p; operations = o }

abbrev add : String
add = "op add abstract # m' = # m + 1 concrete k' = k + 1 end"

pub samples : List Sample
samples =
    fine "{x : SEG | x in m} = {s1} and dom {s1 |-> s2} = ran {s2 |-> s1} and k in 0..63 and 1000 * 1000 * 1000 * 2 < - 7 mod -3"
    ∷ predicate "{k : SEG | true} = m" 1 name_in_use
    ∷ predicate "(forall s1 : 0..1 @ true)" 8 name_in_use
    ∷ predicate "(forall x : 0..1 @ {x : SEG | true} = m)" 20 name_in_use
    ∷ predicate "k = j" 4 name_unknown
    ∷ predicate "k' = 1" 0 name_unknown
    ∷ predicate "m = SEG" 4 name_unknown
    ∷ predicate "m = k" 2 types_misfit
    ∷ predicate "s1 + nobody = k" 5 name_unknown
    ∷ predicate "s1 + 1 div 0 = k" 11 zero_divisor
    ∷ predicate "{1} = m" 0 types_misfit
    ∷ predicate "k in 3..2" 6 wide_type
    ∷ predicate "k in 0..64" 6 wide_type
    ∷ predicate "1000 * 1000 * 1000 * 3 = k" 19 large_size
    ∷ predicate "1000 * 1000 * 1000 * # {x : SEG | 1000 * 1000 * 1000 * 3 = 1} = k" 53 large_size
    ∷ operation "op add x? : 0..4 ; y? : 0..12 ; abstract true concrete true end" 0 many_bindings
    ∷ both "1000 * 1000 * 1000 * 3 = k" "op add x? : 0..4 ; y? : 0..12 ; abstract true concrete true end" 258 many_bindings
    ∷ text "contents abstract concrete ainit  " 34 no_dossier
    ∷ text "contents abstract concrete ainit cinit retrieve end abstract m : 0..1 ; m : 0..2 ; where true end concrete k : 0..1 ; where true end ainit where true end cinit where true end retrieve where true end" 72 name_in_use
    ∷ operation "op add x? : SEG ; x? : SEG ; abstract true concrete true end" 18 name_in_use
    ∷ operation "op add x? : SEG ; x! : SEG ; abstract x? = x! concrete k = x? end" 57 types_misfit
    ∷ operation "op add abstract k = 0 concrete true end" 16 name_unknown
    ∷ []

abbrev refused_at : ℕ → Refusal → Reading → Bool
refused_at i r (refusal f) = eqb i f.place && eqb (number_of r) (number_of f.refusal)
refused_at i r (reading d) = false

abbrev is_read : Reading → Bool
is_read (refusal f) = false
is_read (reading d) = true

pub passes : Sample → Bool
passes (predicate p i r) = refused_at (227 + i) r (compute_read (dossier_of (base p add)))
passes (operation o i r) = refused_at (236 + i) r (compute_read (dossier_of (base "true" o)))
passes (both p o i r) = refused_at i r (compute_read (dossier_of (base p o)))
passes (text w i r) = refused_at i r (compute_read (bytes w))
passes (fine p) = is_read (compute_read (dossier_of (base p add)))

pub all_pass : all passes samples ≡ true
unfolding samples passes compute_read
all_pass = refl
