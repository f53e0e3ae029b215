-- The tests of one level, one after the other: the first that does not hold decides. Assumes nothing.
use Prim.Native.Nat.{ℕ, ◌+◌, ◌/◌, ◌%◌, ◌<◌, ◌≤◌}
use native.Mathlib.Omega.{arith}
use mathlib.Core.Path.{◌≡◌, refl, sym, ap, ◌∙◌, subst}
use mathlib.Core.Bool.{Bool, true, false}
use mathlib.Core.List.{List, []}
use lib.ListN.{get_or}
use lib.IntN.{ℤ}
use Rattle.lexical.specs.Lists.{all}
use Rattle.points.specs.TruthsPromises.{Asked, Answers}
use Rattle.points.specs.Points.{Point, Shows}
use Rattle.points.specs.Searches.{level_holds, mark_in, TestsAt, no_tests, more_tests}
use Rattle.seek.specs.SeekPromises.{LevelAsked, LevelAnswers}

abbrev pub hold : List (Point → Bool) → Point → Bool
hold fs δ = all (λ (f : Point → Bool). f δ) fs

-- tests of which those before number k hold: what is left decides
pub record Remaining (table plan cells : List ℕ) (to : ℕ) (δ : Point) (fs : List (Point → Bool)) (k : ℕ) : Type 0 where
  pub rest : List (Point → Bool)
  pub stand : TestsAt table plan cells to k rest
  pub same : hold rest δ ≡ hold fs δ

-- the next test can be asked, and what it answers
module _ {table plan cells : List ℕ} {to k : ℕ} {δ : Point} {a : List (List ℤ)} (s : Shows cells δ a) (l : k < to) where
  next-asked : {fs : List (Point → Bool)} → TestsAt table plan cells to k fs → Asked table (get_or plan k 0 / 2) (get_or a (get_or plan k 0 % 2) [])
  next-asked (no_tests h) = absurd (let z : to ≤ k = h in let f : ⊥ = omega arith in f)
  next-asked (more_tests h t r) = t.asked δ a s

  next-fails : {fs : List (Point → Bool)} → TestsAt table plan cells to k fs → Answers table (get_or plan k 0 / 2) (get_or a (get_or plan k 0 % 2) []) false → hold fs δ ≡ false
  unfolding all
  next-fails (no_tests h) n = absurd (let z : to ≤ k = h in let f : ⊥ = omega arith in f)
  next-fails (more_tests {fs = fs} h t r) n = ap (λ (b : Bool). elim b [ true ↦ hold fs δ | false ↦ false ]) (sym (t.answers δ a s false n))

  next-holds : {fs gs : List (Point → Bool)} → TestsAt table plan cells to k gs → hold gs δ ≡ hold fs δ
      → Answers table (get_or plan k 0 / 2) (get_or a (get_or plan k 0 % 2) []) true → Remaining table plan cells to δ fs (k + 1)
  unfolding all
  next-holds (no_tests h) e n = absurd (let z : to ≤ k = h in let f : ⊥ = omega arith in f)
  next-holds (more_tests {fs = gs} h t r) e n = record { rest = gs; stand = r; same = ap (λ (b : Bool). elim b [ true ↦ hold gs δ | false ↦ false ]) (t.answers δ a s true n) ∙ e }

none_left : {table plan cells : List ℕ} {to k : ℕ} {fs : List (Point → Bool)} (δ : Point) → to ≤ k → TestsAt table plan cells to k fs → hold fs δ ≡ true
unfolding all
none_left δ l (no_tests h) = refl
none_left {to = to} {k = k} δ l (more_tests h t r) = absurd (let z : k < to = h in let f : ⊥ = omega arith in f)

-- ---- the loop over the tests of level l of the search u, up to `to`: those before k hold, and the arrays are as they were
pub record LevelGoing (table plan : List ℕ) (u l : ℕ) (a₀ a : List (List ℤ)) (to k : ℕ) : Type 0 where
  pub kept : a ≡ a₀
  pub low : to ≤ 20560
  pub cells : List ℕ
  pub point : Point
  pub tests : List (Point → Bool)
  pub shows : Shows cells point a₀
  pub stand : TestsAt table plan cells to k tests
  pub known : (cells : List ℕ) (δ : Point) (fs : List (Point → Bool)) → Shows cells δ a₀ → TestsAt table plan cells (mark_in plan u (l + 1)) (mark_in plan u l) fs
      → Remaining table plan cells to δ fs k

seated : {table plan cells : List ℕ} {to to' at at' : ℕ} {fs : List (Point → Bool)} → to ≡ to' → at ≡ at' → TestsAt table plan cells to' at' fs → TestsAt table plan cells to at fs
seated {table} {plan} {cells} {to} {to'} {at} {at'} {fs} e f t =
    subst (λ (x : ℕ). TestsAt table plan cells x at fs) (sym e) (subst (λ (x : ℕ). TestsAt table plan cells to' x fs) (sym f) t)

-- the same with other names of the two places
pub level-moved : {table plan : List ℕ} {u l to end k at : ℕ} {a₀ a : List (List ℤ)} → end ≡ to → at ≡ k → LevelGoing table plan u l a₀ a to k → LevelGoing table plan u l a₀ a end at
level-moved {table} {plan} {u} {l} {to} {end} {k} {at} {a₀} {a} e f g =
    subst (λ (x : ℕ). LevelGoing table plan u l a₀ a x at) (sym e) (subst (λ (x : ℕ). LevelGoing table plan u l a₀ a to x) (sym f) g)

pub level-starts : {table plan : List ℕ} {u l to from : ℕ} {a : List (List ℤ)} → LevelAsked table plan u l a → to ≡ mark_in plan u (l + 1) → from ≡ mark_in plan u l
    → LevelGoing table plan u l a a to from
level-starts {plan = plan} {u = u} {l = l} {to = to} q ends f =
    record {
      kept = refl;
      low = subst (λ (x : ℕ). x ≤ 20560) (sym ends) q.end_low;
      cells = q.cells;
      point = q.point;
      tests = q.tests l;
      shows = q.shows;
      stand = seated ends f q.stand;
      known = λ cells δ fs s t. record { rest = fs; stand = seated ends f t; same = refl };
    }

module _ {table plan : List ℕ} {u l to : ℕ} {a₀ a : List (List ℤ)} {k : ℕ} (g : LevelGoing table plan u l a₀ a to k) where
  pub level-ends : to ≤ k → LevelAnswers table plan u l a₀ true
  unfolding level_holds
  level-ends h = record { means = λ cells δ tests s t. (let left = g.known cells δ (tests l) s t in sym (none_left δ h left.stand) ∙ left.same) }

  module _ {n : ℕ} (h : k < to) (is : n ≡ get_or plan k 0) where
    pub level-asks : Asked table (n / 2) (get_or a (n % 2) [])
    level-asks =
        subst (λ (x : ℕ). Asked table (x / 2) (get_or a (x % 2) [])) (sym is)
        (next-asked {plan = plan} (subst (λ (x : List (List ℤ)). Shows g.cells g.point x) (sym g.kept) g.shows) h g.stand)

    module _ {r : Bool} (q : Answers table (n / 2) (get_or a (n % 2) []) r) where
      answer : {b : Bool} → r ≡ b → Answers table (get_or plan k 0 / 2) (get_or a₀ (get_or plan k 0 % 2) []) b
      answer e =
          subst (λ (b : Bool). Answers table (get_or plan k 0 / 2) (get_or a₀ (get_or plan k 0 % 2) []) b) e
          (subst (λ (x : List (List ℤ)). Answers table (get_or plan k 0 / 2) (get_or x (get_or plan k 0 % 2) []) r) g.kept
          (subst (λ (x : ℕ). Answers table (x / 2) (get_or a (x % 2) []) r) is q))

      pub level-stops : r ≡ false → LevelAnswers table plan u l a₀ false
      unfolding level_holds
      level-stops e =
          record { means = λ cells δ tests s t. (let left = g.known cells δ (tests l) s t in sym (sym left.same ∙ next-fails s h left.stand (answer e))) }

      pub level-goes : {a₁ : List (List ℤ)} → r ≡ true → a₁ ≡ a → LevelGoing table plan u l a₀ a₁ to (k + 1)
      level-goes e same =
          let next = next-holds g.shows h {fs = g.tests} g.stand refl (answer e) in
          record {
            kept = same ∙ g.kept;
            low = g.low;
            cells = g.cells;
            point = g.point;
            tests = next.rest;
            shows = g.shows;
            stand = next.stand;
            known = λ cells δ fs s t. (let left = g.known cells δ fs s t in next-holds s h left.stand left.same (answer e));
          }
