-- Keyed points: where the variables whose digits it leaves out do not matter, a binding may be taken for that of its key. Assumes nothing.
use mathlib.Core.Path.{◌≡◌, refl, sym, ap, ap₂, ◌∙◌}
use mathlib.Core.Bool.{Bool, true, false, cond}
use mathlib.Core.Logic.{inl, inr}
use mathlib.Core.List.{List, [], ◌∷◌}
use Prim.Native.Nat.{ℕ, ◌/◌, ◌%◌, ◌<◌}
use native.Mathlib.Nat.{mod-lt}
use native.Mathlib.Decide.{ℕ_discrete}
use native.Mathlib.Omega.{arith}
use lib.Arith.{digits_lt, digits_div, digits_mod}
use Rattle.std.proofs.lemmas.Nat.{div_below}
use Rattle.meaning.specs.Bindings.{Among}
use Rattle.sets.specs.Sets.{has}
use Rattle.slot_carriers.specs.Cells.{count_in}
use Rattle.points.specs.Points.{Point, moved, span, placed, Tame, Distinct, more_slots}
use Rattle.points.proofs.PointNumbers.{Counts, counts-rest, span-some, moved_here, moved_other, tame-placed, tame-moved}
use Rattle.idle_variables.specs.KeyedNumbers.{keyed, Idle, Ignores, no_variables, more_variables}

-- the digit that a key has
low_digit : (b : Bool) (d n : ℕ) → d < n → cond b 0 d < n
low_digit true d n h = omega arith
low_digit false d n h = h

-- a key is one of the numbers
pub keyed-low : (cells ss : List ℕ) (idle x : ℕ) → Counts cells ss → x < span cells ss → keyed cells ss idle x < span cells ss
unfolding keyed span
keyed-low cells [] idle x c h = omega arith
keyed-low cells (s ∷ ss) idle x c h =
    let k : Counts cells ss = counts-rest cells s ss c in
    let w : 0 < span cells ss = span-some cells ss k in
    digits_lt (low_digit (has idle 0) (x / span cells ss) (count_in cells s) (div_below x (span cells ss) (count_in cells s) w h))
    (keyed-low cells ss (idle / 2) (x % span cells ss) k (mod-lt x w))

-- a slot that is not among those may be moved before or after
pub moved-placed : (cells ss : List ℕ) (δ : Point) (s v y : ℕ) → (Among s ss → ⊥) → (t : ℕ) → placed cells ss (moved δ s v) y t ≡ moved (placed cells ss δ y) s v t
unfolding placed Among
moved-placed cells [] δ s v y n t = refl
moved-placed cells (r ∷ ss) δ s v y n t =
    ap (λ (ε : Point). placed cells ss ε (y % span cells ss) t) (λ i u. crossed u i)
    ∙ moved-placed cells ss (moved δ r (y / span cells ss)) s v (y % span cells ss) (λ m. n (inr m)) t
  where
    crossed : (u : ℕ) → moved (moved δ s v) r (y / span cells ss) u ≡ moved (moved δ r (y / span cells ss)) s v u
    crossed u = at (ℕ_discrete u s) (ℕ_discrete u r)
      where
        at : Dec (u ≡ s) → Dec (u ≡ r) → moved (moved δ s v) r (y / span cells ss) u ≡ moved (moved δ r (y / span cells ss)) s v u
        at (yes e) (yes f) = absurd (n (inl (sym e ∙ f)))
        at (yes e) (no f) =
            moved_other (moved δ s v) r _ u f ∙ ap (moved δ s v) e ∙ moved_here δ s v ∙ sym (ap (moved (moved δ r (y / span cells ss)) s v) e ∙ moved_here _ s v)
        at (no e) (yes f) =
            ap (moved (moved δ s v) r (y / span cells ss)) f ∙ moved_here _ r _
            ∙ sym (moved_other (moved δ r (y / span cells ss)) s v u e ∙ ap (moved δ r (y / span cells ss)) f ∙ moved_here δ r _)
        at (no e) (no f) = moved_other (moved δ s v) r _ u f ∙ moved_other δ s v u e ∙ sym (moved_other (moved δ r (y / span cells ss)) s v u e ∙ moved_other δ r _ u f)

module _ (cells : List ℕ) (P : Point → Bool) where
  -- its value does not matter behind the others
  ignored : (ss : List ℕ) (δ : Point) (s v w y : ℕ) → Tame cells (placed cells ss δ y) → v < count_in cells s → w < count_in cells s → (Among s ss → ⊥) → Idle cells P s
      → P (placed cells ss (moved δ s v) y) ≡ P (placed cells ss (moved δ s w) y)
  ignored ss δ s v w y τ hv hw n f =
      ap P (λ i t. moved-placed cells ss δ s v y n t i) ∙ f.same (placed cells ss δ y) v τ hv
      ∙ sym (ap P (λ i t. moved-placed cells ss δ s w y n t i) ∙ f.same (placed cells ss δ y) w τ hw)

  pub keyed-same : (ss : List ℕ) (idle x : ℕ) (δ : Point) → Tame cells δ → Distinct ss → Counts cells ss → x < span cells ss → Ignores cells P idle ss
      → P (placed cells ss δ (keyed cells ss idle x)) ≡ P (placed cells ss δ x)
  unfolding keyed placed span
  keyed-same [] idle x δ τ d c h no_variables = refl
  keyed-same (s ∷ ss) idle x δ τ (more_slots n d) c h (more_variables f g) =
      ap₂ (λ (a b : ℕ). P (placed cells ss (moved δ s a) b)) (digits_div digit low) (digits_mod digit low)
      ∙ keyed-same ss (idle / 2) (x % span cells ss) (moved δ s digit) (tame-moved cells δ s digit τ digit_low) d k (mod-lt x w) g
      ∙ first (has idle 0) refl
    where
      k : Counts cells ss
      k = counts-rest cells s ss c

      w : 0 < span cells ss
      w = span-some cells ss k

      digit : ℕ
      digit = cond (has idle 0) 0 (x / span cells ss)

      high : x / span cells ss < count_in cells s
      high = div_below x (span cells ss) (count_in cells s) w h

      digit_low : digit < count_in cells s
      digit_low = low_digit (has idle 0) (x / span cells ss) (count_in cells s) high

      low : keyed cells ss (idle / 2) (x % span cells ss) < span cells ss
      low = keyed-low cells ss (idle / 2) (x % span cells ss) k (mod-lt x w)

      first : (b : Bool) → has idle 0 ≡ b → P (placed cells ss (moved δ s digit) (x % span cells ss)) ≡ P (placed cells ss (moved δ s (x / span cells ss)) (x % span cells ss))
      first false e = ap (λ (a : ℕ). P (placed cells ss (moved δ s a) (x % span cells ss))) (ap (λ (b : Bool). cond b 0 (x / span cells ss)) e)
      first true e =
          ignored ss δ s digit (x / span cells ss) (x % span cells ss) (tame-placed cells ss δ (x % span cells ss) τ k (mod-lt x w)) digit_low high n (f e)

  -- two bindings with the same key
  pub same_key : (ss : List ℕ) (idle x y : ℕ) (δ : Point) → Tame cells δ → Distinct ss → Counts cells ss → x < span cells ss → y < span cells ss → Ignores cells P idle ss
      → keyed cells ss idle x ≡ keyed cells ss idle y → P (placed cells ss δ x) ≡ P (placed cells ss δ y)
  same_key ss idle x y δ τ d c hx hy f e =
      sym (keyed-same ss idle x δ τ d c hx f) ∙ ap (λ (z : ℕ). P (placed cells ss δ z)) e ∙ keyed-same ss idle y δ τ d c hy f
