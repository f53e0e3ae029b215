-- The fault of `ok_or` where there is no value.
use mathlib.Core.Path.{◌≡◌, refl}
use Rattle.std.specs.Prelude.{Option, Some, None, Err, IfErr}
use Rattle.std.specs.Option.{ok_or}
use Rattle.std.proofs.lemmas.Result.{IfErr-at_err}

pub unmet : {A E : Type 0} (r : Option A) {f g : E} → ok_or r g ≡ Err f → f ≡ g
unmet {E = E} r {f} {g} e = IfErr-at_err (λ (x : E). x ≡ g) e (on r)
  where
    on : {A : Type 0} (r : Option A) → IfErr (ok_or r g) (λ (x : E). x ≡ g)
    on None = refl
    on (Some x) = tt
