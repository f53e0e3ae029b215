-- Laws of `gives`.
use mathlib.Core.Path.{◌≡◌, refl}
use mathlib.Core.Bool.{Bool, true, false, false≢true, true≢false}
use Rattle.obligations.specs.Obligations.{gives}

pub gives-use : (a b : Bool) → gives a b ≡ true → a ≡ true → b ≡ true
gives-use true b e f = e
gives-use false b e f = absurd (false≢true f)

pub gives-vacuous : (a b : Bool) → a ≡ false → gives a b ≡ true
gives-vacuous true b e = absurd (true≢false e)
gives-vacuous false b e = refl
