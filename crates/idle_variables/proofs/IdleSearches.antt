-- Idle searches: a variable on which no test of a search depends does not matter for what it finds. Assumes nothing.
use mathlib.Core.Path.{◌≡◌, refl, sym, ap₂, subst, ◌∙◌}
use mathlib.Core.Bool.{Bool, true, false, ◌&&◌}
use mathlib.Core.List.{List, [], ◌∷◌}
use Prim.Native.Nat.{ℕ, zero, suc, ◌+◌, ◌/◌, ◌%◌, ◌<◌, ◌≤◌}
use native.Mathlib.Omega.{arith}
use lib.ListN.{get_or, length}
use Rattle.lexical.specs.Lists.{all}
use Rattle.sets.specs.Sets.{has}
use Rattle.sets.proofs.Members.{has-suc}
use Rattle.mentions.specs.MentionPromises.{TruthSays}
use Rattle.points.specs.Points.{Point, Tame}
use Rattle.points.specs.Searches.{level_holds, levels_hold, mark_in, TestsAt, no_tests, more_tests, SearchOf}
use Rattle.points.proofs.PointNumbers.{tame-moved}
use Rattle.idle_variables.specs.KeyedNumbers.{Idle, Ignores, no_variables, more_variables}
use Rattle.idle_variables.specs.IdlePromises.{TestIdle, LevelIdle, SearchIdle, TestSays, LevelSays, SearchSays}
use Rattle.idle_variables.proofs.FreeTests.{before-idle, after-idle}

-- ---- one test

module _ {table : List ℕ} {e s : ℕ} (low : s < 22) where
  pub after-says : {b : Bool} → e % 2 ≡ 1 → TestSays table e s b
  after-says z = record { means = λ _. record { each = λ cells f w. after-idle cells w s low z } }

  pub before-says : {b : Bool} → (e % 2 ≡ 1 → ⊥) → TruthSays table (e / 2) s b → TestSays table e s b
  before-says {b} n w = record { means = λ q. record { each = λ cells f v. before-idle cells v s low (even e n) (w.means q) } }
    where
      even : (e : ℕ) → (e % 2 ≡ 1 → ⊥) → e % 2 ≡ 0
      even e n = omega arith

-- ---- one after the other

pub test-passes : (table plan : List ℕ) (slot k e : ℕ) → e ≡ get_or plan k 0 → TestSays table e slot true → TestIdle table (get_or plan k 0) slot
test-passes table plan slot k e q t = subst (λ (x : ℕ). TestIdle table x slot) q (t.means refl)

pub level-passes : {table plan : List ℕ} {u slot : ℕ} (l : ℕ) → LevelSays table plan u l slot true → LevelIdle table plan u l slot
level-passes l t = t.means refl

pub search-passes : {table plan : List ℕ} {slot : ℕ} (u : ℕ) → SearchSays table plan u slot true → SearchIdle table plan u slot
search-passes u t = t.means refl

both : Bool → Bool → Bool
both b c = elim b [ true ↦ c | false ↦ false ]

tests-idle : {table plan cells : List ℕ} {to at : ℕ} {fs : List (Point → Bool)} (s : ℕ) → ((j : ℕ) → at ≤ j → j < to → TestIdle table (get_or plan j 0) s)
    → TestsAt table plan cells to at fs → Idle cells (λ (δ : Point). all (λ (f : Point → Bool). f δ) fs) s
unfolding all both
tests-idle s h (no_tests l) = record { same = λ δ x τ g. refl }
tests-idle {cells = cells} {at = at} s h (more_tests {f = f} {fs = fs} l t r) =
    record {
      same = λ δ x τ g. ap₂ both (((h at (omega arith) l).each cells f t).same δ x τ g) ((tests-idle s (λ j a b. h j (omega arith) b) r).same δ x τ g);
    }

pub level-says : {table plan : List ℕ} {u l slot from to : ℕ} {b : Bool} → from ≡ mark_in plan u l → to ≡ mark_in plan u (l + 1)
    → (b ≡ true → (j : ℕ) → from ≤ j → j < to → TestIdle table (get_or plan j 0) slot) → LevelSays table plan u l slot b
level-says {slot = slot} f g h = record { means = λ e. record { each = λ cells fs t. tests-idle slot (λ j a b. h e j (omega (arith, f)) (omega (arith, g))) t } }

-- ---- what a search finds

module _ {cells : List ℕ} {s : ℕ} where
  pub idle_by : {P Q : Point → Bool} → ((δ : Point) → Tame cells δ → P δ ≡ Q δ) → Idle cells P s → Idle cells Q s
  idle_by e w = record { same = λ δ x τ h. sym (e _ (tame-moved cells δ s x τ h)) ∙ w.same δ x τ h ∙ e δ τ }

  levels-idle : (tests : ℕ → List (Point → Bool)) (l n : ℕ) → ((m : ℕ) → l ≤ m → m ≤ l + n → Idle cells (level_holds tests m) s) → Idle cells (levels_hold tests l n) s
  unfolding levels_hold
  levels-idle tests l zero h = h l (omega arith) (omega arith)
  levels-idle tests l (suc n) h =
      record {
        same = λ δ x τ g. ap₂ ◌&&◌ ((h l (omega arith) (omega arith)).same δ x τ g)
            ((levels-idle tests (l + 1) n (λ m a b. h m (omega arith) (omega arith))).same δ x τ g);
      }

  pub search_idle : {table plan : List ℕ} {u : ℕ} {ss : List ℕ} {P : Point → Bool} → SearchOf table plan cells u ss P → SearchIdle table plan u s → Idle cells P s
  unfolding level_holds
  search_idle {ss = ss} S w =
      idle_by S.whole
      (levels-idle S.tests 0 (length ss)
      (λ m a b. (w.each m (omega (arith, S.planned.few))).each cells (S.tests m) (S.planned.levels m a b)))

-- by the bits of a mask
pub ignores : (cells : List ℕ) (P : Point → Bool) (idle : ℕ) (ss : List ℕ) → ((i : ℕ) → i < length ss → has idle i ≡ true → Idle cells P (get_or ss i 0)) → Ignores cells P idle ss
ignores cells P idle [] h = no_variables
ignores cells P idle (s ∷ ss) h = more_variables (λ e. h 0 (omega arith) e) (ignores cells P (idle / 2) ss (λ i l e. h (suc i) (omega arith) (has-suc idle i ∙ e)))
