-- The key of a binding, one variable after the other. Assumes nothing.
use mathlib.Core.Path.{◌≡◌, refl, sym, ap, ap₂, subst, ◌∙◌}
use mathlib.Core.Bool.{Bool, false, cond}
use mathlib.Core.List.{List, [], ◌∷◌}
use Prim.Native.Nat.{ℕ, zero, suc, ◌+◌, ◌-◌, ◌*◌, ◌/◌, ◌%◌, ◌<◌, ◌≤◌}
use native.Mathlib.Nat.{mod-lt, div-add-mod', zero-add}
use native.Mathlib.Omega.{arith}
use borrow.Author.Tests.{eq-eqb, ne_eqb}
use lib.Arith.{digits_div}
use Rattle.lexical.specs.Lists.{upward}
use Rattle.meaning.proofs.UpwardNumbers.{upward-front}
use Rattle.sets.specs.Sets.{has}
use Rattle.sets.proofs.Members.{has-zero}
use Rattle.slot_carriers.specs.Cells.{count_in}
use Rattle.points.specs.Points.{span}
use Rattle.points.proofs.PointNumbers.{Counts, counts-rest, span-some, counts-first}
use Rattle.idle_variables.specs.declared.keys.KeyGroup.{KeyGroup}
use Rattle.idle_variables.specs.KeyedNumbers.{keyed}
use Rattle.idle_variables.specs.KeyPromises.{key_in, KeyAsked}
use Rattle.idle_variables.proofs.KeyedPoints.{keyed-low}

zero_bit : has 0 0 ≡ false
unfolding has
zero_bit = refl

-- without idle variables a number is its key
plain-key : (cells ss : List ℕ) (x : ℕ) → Counts cells ss → x < span cells ss → keyed cells ss 0 x ≡ x
unfolding keyed span
plain-key cells [] x c h = let z : 0 ≡ x = omega arith in z
plain-key cells (s ∷ ss) x c h =
    let k : Counts cells ss = counts-rest cells s ss c in
    ap₂ (λ (b : Bool) (y : ℕ). cond b 0 (x / span cells ss) * span cells ss + y) zero_bit (plain-key cells ss (x % span cells ss) k (mod-lt x (span-some cells ss k)))
    ∙ div-add-mod' x (span cells ss)

pub empty-key : (cells : List ℕ) (s m idle x : ℕ) → m ≡ 0 → 0 ≡ keyed cells (upward s m) idle x
unfolding keyed upward
empty-key cells s zero idle x e = refl
empty-key cells s (suc m) idle x e = absurd (omega arith)

span-front : (cells : List ℕ) (s : ℕ) (ss : List ℕ) → span cells (s ∷ ss) ≡ count_in cells s * span cells ss
unfolding span
span-front cells s ss = refl

by_first : (w n v : ℕ) → 0 < n → w ≡ n * v → w / n ≡ v
by_first w n v h e = ap (λ (x : ℕ). x / n) (e ∙ turn n v) ∙ digits_div v h
  where
    turn : (n v : ℕ) → n * v ≡ v * n + 0
    turn n v = omega arith

-- the digit of the first variable
key-front : (cells : List ℕ) (s : ℕ) (ss : List ℕ) (idle x : ℕ) → keyed cells (s ∷ ss) idle x ≡ cond (has idle 0) 0 (x / span cells ss) * span cells ss + keyed cells ss (idle / 2) (x % span cells ss)
unfolding keyed
key-front cells s ss idle x = refl

-- the slots behind the first
abbrev pub behind : KeyGroup → List ℕ
behind g = upward (g.first + 1) (g.size.variables - 1)

module _ {cells : List ℕ} {g : KeyGroup} (q : KeyAsked cells g) where
  pub no_idle : (x : ℕ) → x < g.size.bindings → g.idle ≡ 0 → x ≡ key_in cells g x
  no_idle x h e =
      sym (ap (λ (i : ℕ). keyed cells (upward g.first g.size.variables) i x) e
      ∙ plain-key cells (upward g.first g.size.variables) x q.some (subst (λ (n : ℕ). x < n) q.count h))

  pub key-low : (x : ℕ) → x < g.size.bindings → key_in cells g x < g.size.bindings
  key-low x h =
      subst (λ (n : ℕ). key_in cells g x < n) (sym q.count)
      (keyed-low cells (upward g.first g.size.variables) g.idle x q.some (subst (λ (n : ℕ). x < n) q.count h))

  module _ (n : g.size.variables ≡ 0 → ⊥) {d : ℕ} (k : d ≡ count_in cells g.first) where
    some : Counts cells (g.first ∷ behind g)
    some = subst (Counts cells) (upward-front g.first g.size.variables n) q.some

    pub count-some : 0 < d
    count-some = subst (λ (x : ℕ). 0 < x) (sym k) (counts-first cells g.first (behind g) some)

    whole : g.size.bindings ≡ d * span cells (behind g)
    whole = q.count ∙ ap (span cells) (upward-front g.first g.size.variables n) ∙ span-front cells g.first (behind g) ∙ ap (λ (x : ℕ). x * span cells (behind g)) (sym k)

    rest-is : g.size.bindings / d ≡ span cells (behind g)
    rest-is = by_first g.size.bindings d (span cells (behind g)) count-some whole

    pub rest_some : 0 < g.size.bindings / d
    rest_some = subst (λ (x : ℕ). 0 < x) (sym rest-is) (span-some cells (behind g) (counts-rest cells g.first (behind g) some))

    pub rest-few : g.size.bindings / d ≤ 4096
    rest-few = few g.size.bindings d (g.size.bindings / d) count-some (whole ∙ ap (λ (x : ℕ). d * x) (sym rest-is)) q.few
      where
        few : (w d v : ℕ) → 0 < d → w ≡ d * v → w ≤ 4096 → v ≤ 4096
        few w zero v h e l = absurd (omega arith)
        few w (suc d) v h e l = omega arith

    pub rest-asked : (i : ℕ) → KeyAsked cells (record { first = g.first + 1; size = record { variables = g.size.variables - 1; bindings = g.size.bindings / d }; idle = i })
    rest-asked i = record { low = omega (arith, q.low, n); count = rest-is; some = counts-rest cells g.first (behind g) some; few = rest-few }

    module _ (x : ℕ) {y : ℕ} (r : y ≡ keyed cells (behind g) (g.idle / 2) (x % (g.size.bindings / d))) where
      whole-key : key_in cells g x ≡ cond (has g.idle 0) 0 (x / (g.size.bindings / d)) * (g.size.bindings / d) + y
      whole-key =
          ap (λ (ss : List ℕ). keyed cells ss g.idle x) (upward-front g.first g.size.variables n)
          ∙ key-front cells g.first (behind g) g.idle x
          ∙ ap (λ (w : ℕ). cond (has g.idle 0) 0 (x / w) * w + keyed cells (behind g) (g.idle / 2) (x % w)) (sym rest-is)
          ∙ ap (λ (z : ℕ). cond (has g.idle 0) 0 (x / (g.size.bindings / d)) * (g.size.bindings / d) + z) (sym r)

      pub key-idle : g.idle % 2 ≡ 1 → y ≡ key_in cells g x
      key-idle o = sym (whole-key ∙ ap (λ (b : Bool). cond b 0 (x / (g.size.bindings / d)) * (g.size.bindings / d) + y) (has-zero g.idle ∙ eq-eqb _ _ o) ∙ nothing (g.size.bindings / d) y)
        where
          nothing : (v y : ℕ) → 0 * v + y ≡ y
          nothing v y = omega arith

      pub key-kept : (g.idle % 2 ≡ 1 → ⊥) → x / (g.size.bindings / d) * (g.size.bindings / d) + y ≡ key_in cells g x
      key-kept o = sym (whole-key ∙ ap (λ (b : Bool). cond b 0 (x / (g.size.bindings / d)) * (g.size.bindings / d) + y) (has-zero g.idle ∙ ne_eqb _ _ o))

empty-span : (cells : List ℕ) (s m : ℕ) → m ≡ 0 → span cells (upward s m) ≡ 1
unfolding span upward
empty-span cells s zero e = refl
empty-span cells s (suc m) e = absurd (omega arith)

-- ---- the digits one after the other: the key so far, and what is left of the number

abbrev pub group_from : (i left stride idle : ℕ) → KeyGroup
group_from i left stride idle = record { first = i; size = record { variables = left; bindings = stride }; idle = idle }

pub record Keying (cells : List ℕ) (g : KeyGroup) (x i stride idle rest key : ℕ) : Type 0 where
  pub left : ℕ
  pub ends : i + left ≡ g.first + g.size.variables
  pub asked : KeyAsked cells (group_from i left stride idle)
  pub low : rest < stride
  pub total : key + key_in cells (group_from i left stride idle) rest ≡ key_in cells g x

pub keying-start : {cells : List ℕ} {g : KeyGroup} (q : KeyAsked cells g) {x : ℕ} → x < g.size.bindings → Keying cells g x g.first g.size.bindings g.idle x 0
keying-start {cells} {g} q {x} h = record { left = g.size.variables; ends = refl; asked = q; low = h; total = z }
  where
    z : 0 + key_in cells g x ≡ key_in cells g x
    z = omega arith

module _ {cells : List ℕ} {g : KeyGroup} (q : KeyAsked cells g) {x i stride idle rest key : ℕ} (h : x < g.size.bindings) (k : Keying cells g x i stride idle rest key) where
  -- where none is idle that is left, and where none is left
  whole-number : rest ≡ key_in cells (group_from i k.left stride idle) rest → key + rest ≡ key_in cells g x
  whole-number e = ap (λ (y : ℕ). key + y) e ∙ k.total

  pub keyed-early : idle ≡ 0 → key + rest ≡ key_in cells g x
  keyed-early e = whole-number (no_idle k.asked rest k.low e)

  pub keyed-late : g.first + g.size.variables ≤ i → key + rest ≡ key_in cells g x
  keyed-late e = whole-number (none-left k.left (omega (arith, k.ends, e)) k.asked)
    where
      none-left : (m : ℕ) → m ≡ 0 → KeyAsked cells (group_from i m stride idle) → rest ≡ key_in cells (group_from i m stride idle) rest
      none-left m e a = omega (arith, k.low, a.count, empty-span cells i m e, empty-key cells i m idle rest e)

  pub key-bound : {y : ℕ} → y ≡ key_in cells g x → y < g.size.bindings
  key-bound e = subst (λ (z : ℕ). z < g.size.bindings) (sym e) (key-low q x h)

  module _ (more : i < g.first + g.size.variables) where
    pub left-some : k.left ≡ 0 → ⊥
    left-some e = omega (arith, k.ends, more, e)

    pub slot-low : i < 64
    slot-low = omega (arith, k.asked.low, left-some)

    module _ {d : ℕ} (f : d ≡ count_in cells i) where
      pub digit-some : 0 < d
      digit-some = count-some k.asked left-some f

      pub stride-some : 0 < stride / d
      stride-some = rest_some k.asked left-some f

      abbrev behind-key : ℕ
      behind-key = keyed cells (behind (group_from i k.left stride idle)) (idle / 2) (rest % (stride / d))

      next : (more : ℕ) → more + behind-key ≡ key_in cells (group_from i k.left stride idle) rest → Keying cells g x (i + 1) (stride / d) (idle / 2) (rest % (stride / d)) (key + more)
      next more e =
          record {
            left = k.left - 1;
            ends = omega (arith, k.ends, left-some);
            asked = rest-asked k.asked left-some f (idle / 2);
            low = mod-lt rest stride-some;
            total = sum key more behind-key _ e ∙ k.total;
          }
        where
          sum : (a b c d : ℕ) → b + c ≡ d → a + b + c ≡ a + d
          sum a b c d e = omega arith

      pub key-passed : idle % 2 ≡ 1 → Keying cells g x (i + 1) (stride / d) (idle / 2) (rest % (stride / d)) key
      key-passed o =
          subst (Keying cells g x (i + 1) (stride / d) (idle / 2) (rest % (stride / d))) {x = key + 0} {y = key} (omega arith)
          (next 0 (zero-add behind-key ∙ key-idle k.asked left-some f rest refl o))

      pub key-taken : (idle % 2 ≡ 1 → ⊥) → Keying cells g x (i + 1) (stride / d) (idle / 2) (rest % (stride / d)) (key + rest / (stride / d) * (stride / d))
      key-taken o = next (rest / (stride / d) * (stride / d)) (key-kept k.asked left-some f rest refl o)

      -- what is taken is no more than the key
      pub taken-low : (idle % 2 ≡ 1 → ⊥) → key + rest / (stride / d) * (stride / d) ≤ 4096
      taken-low o = omega (arith, (key-taken o).total, key-low q x h, q.few)
