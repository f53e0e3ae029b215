-- Masks of idle variables: what they say, and what ignores their variables. Assumes nothing.
use mathlib.Core.Path.{sym, subst}
use mathlib.Core.Bool.{Bool}
use mathlib.Core.List.{List}
use Prim.Native.Nat.{ℕ, ◌+◌, ◌<◌}
use native.Mathlib.Omega.{arith}
use Rattle.lexical.specs.Lists.{upward}
use Rattle.meaning.proofs.UpwardNumbers.{upward-long, upward-at}
use Rattle.sets.specs.Sets.{has}
use Rattle.points.specs.Masks.{MaskOf}
use Rattle.points.specs.Points.{Point}
use Rattle.idle_variables.specs.KeyedNumbers.{Idle, Ignores}
use Rattle.idle_variables.specs.IdlePromises.{SearchesIdle, SearchesSay, MaskSays}
use Rattle.idle_variables.proofs.IdleSearches.{ignores}

-- a mask made by a test that says of each slot whether no search depends on its variable
pub mask_says : {table plan : List ℕ} {u s m r : ℕ} {R : ℕ → Bool → Type 0} → MaskOf R m r → ((k : ℕ) (b : Bool) → R k b → SearchesSay table plan u (s + k) b) → MaskSays table plan u s m r
mask_says {r = r} w h = record { small = w.small; each = λ i l e. (h i (has r i) (w.each i l)).means e }

-- ---- what ignores the variables of a mask

pub mask_ignores : {table plan : List ℕ} {u s m r : ℕ} → MaskSays table plan u s m r → (cells : List ℕ) (P : Point → Bool)
    → ((i : ℕ) → i < m → SearchesIdle table plan u (s + i) → Idle cells P (s + i)) → Ignores cells P r (upward s m)
mask_ignores {s = s} {m} {r} w cells P h =
    ignores cells P r (upward s m)
    (λ i l e. let k : i < m = omega (arith, upward-long s m) in subst (Idle cells P) (sym (upward-at s m i k)) (h i k (w.each i k e)))
