-- A search whose plan stands in the array finds exactly the predicates that it asks: from the rows of up to three predicates, each conjunct with its function and its level.
use mathlib.Core.Path.{◌≡◌, refl, sym, ap, ap₂, ◌∙◌, subst}
use mathlib.Core.Bool.{Bool, true, ◌&&◌}
use mathlib.Core.List.{List, [], ◌∷◌, ◌++◌}
use Prim.Native.Nat.{ℕ, zero, suc, ◌+◌, ◌<◌, ◌≤◌}
use native.Mathlib.Nat.{zero-add}
use native.Mathlib.Omega.{arith}
use lib.ListN.{get_or, length}
use Rattle.slot_carriers.specs.Cells.{count_in, Readable}
use Rattle.part_tests.specs.PointsPoints.{Point, Tame, Distinct}
use Rattle.part_tests.specs.PointsPointTests.{Test}
use Rattle.part_tests.specs.PointsSearches.{levels_hold, mark_in, slot_in, TestsAt, no_tests, more_tests, Planned, SearchOf}
use Rattle.part_tests.specs.PlansPlansByNumber.{Asking, level_of, entry_of, entries_from, no_asking}
use Rattle.part_tests.specs.PlansPlanPromises.{LevelsIn}
use Rattle.part_tests.proofs.PlansLevelCounts.{entries-here, entries-past}
use Rattle.part_searches.proofs.LevelledTests.{Levelled, pick, tests_by_level, all_of, by_level, pick-here, pick-past}
use Rattle.part_searches.proofs.LevelledTests.{Levellings, no_levellings, levellings-append, pick-append, all-of_append, all-levels, level-free}

-- the n rows of a predicate from r on are tests of these functions
pub data RowTests (table rows cells : List ℕ) (P : Asking) : (n r : ℕ) → List Levelled → Type 0 where
  no_row_tests : {r : ℕ} → RowTests table rows cells P zero r []
  more_row_tests : {n r : ℕ} {f : Point → Bool} {xs : List Levelled} → Test table cells (entry_of rows P r) f → RowTests table rows cells P n (r + 8) xs
      → RowTests table rows cells P (suc n) r ((level_of rows P r, f) ∷ xs)

-- a predicate that a search over the slots ss asks, which f is, and which sees no other slots than those of `see`
pub record AskedAs (table rows cells : List ℕ) (see : ℕ → Type 0) (ss : List ℕ) (P : Asking) (f : Point → Bool) : Type 0 where
  pub functions : List Levelled
  pub tests : RowTests table rows cells P P.many P.from functions
  pub levellings : Levellings see ss functions
  pub whole : (δ : Point) → Tame cells δ → all_of functions δ ≡ f δ

pub none-asked : {table rows cells : List ℕ} {see : ℕ → Type 0} {ss : List ℕ} → AskedAs table rows cells see ss no_asking (λ (δ : Point). true)
unfolding all_of
none-asked = record { functions = []; tests = no_row_tests; levellings = no_levellings; whole = λ δ t. refl }

-- the same function by another name
pub asked-same : {table rows cells : List ℕ} {see : ℕ → Type 0} {ss : List ℕ} {P : Asking} {f g : Point → Bool} → AskedAs table rows cells see ss P f
    → ((δ : Point) → Tame cells δ → f δ ≡ g δ) → AskedAs table rows cells see ss P g
asked-same a e = record { functions = a.functions; tests = a.tests; levellings = a.levellings; whole = λ δ t. a.whole δ t ∙ e δ t }

-- the slots of a search
pub record Searched (plan cells : List ℕ) (u : ℕ) (ss : List ℕ) : Type 0 where
  pub search_low : u < 5
  pub few : length ss ≤ 11
  pub slots : (i : ℕ) → i < length ss → slot_in plan u i ≡ get_or ss i 0
  pub slot_low : (i : ℕ) → i < length ss → get_or ss i 0 < 38
  pub readable : (i : ℕ) → i < length ss → Readable cells (get_or ss i 0)
  pub some : (i : ℕ) → i < length ss → 0 < count_in cells (get_or ss i 0)
  pub distinct : Distinct ss

-- ---- numbers and the functions that they are tests of, side by side

data Entries (table cells : List ℕ) : List ℕ → List (Point → Bool) → Type 0 where
  no_entries : Entries table cells [] []
  more_entries : {e : ℕ} {f : Point → Bool} {es : List ℕ} {fs : List (Point → Bool)} → Test table cells e f → Entries table cells es fs → Entries table cells (e ∷ es) (f ∷ fs)

entries-append : {table cells es ds : List ℕ} {fs gs : List (Point → Bool)} → Entries table cells es fs → Entries table cells ds gs → Entries table cells (es ++ ds) (fs ++ gs)
entries-append no_entries k = k
entries-append (more_entries t r) k = more_entries t (entries-append r k)

-- those of level l
entries-of : {table rows cells : List ℕ} {P : Asking} {n r : ℕ} {xs : List Levelled} (l : ℕ) → RowTests table rows cells P n r xs
    → Entries table cells (entries_from rows P l n r) (pick l xs)
unfolding entries_from pick
entries-of l no_row_tests = no_entries
entries-of {table} {rows} {cells} {P} l (more_row_tests {n = n} {r = r} {f = f} {xs = xs} t k) =
    by_level (level_of rows P r) l
    (λ e.
    subst (λ (w : List ℕ). Entries table cells w (pick l ((level_of rows P r, f) ∷ xs))) (sym (entries-here rows P r l n e))
    (subst (λ (w : List (Point → Bool)). Entries table cells (entry_of rows P r ∷ entries_from rows P l n (r + 8)) w) (sym (pick-here l (level_of rows P r, f) xs e))
    (more_entries t (entries-of l k))))
    (λ e.
    subst (λ (w : List ℕ). Entries table cells w (pick l ((level_of rows P r, f) ∷ xs))) (sym (entries-past rows P r l n e))
    (subst (λ (w : List (Point → Bool)). Entries table cells (entries_from rows P l n (r + 8)) w) (sym (pick-past l (level_of rows P r, f) xs e)) (entries-of l k)))

-- tests that stand between two places of the plan
tests-at : {table cells es : List ℕ} {fs : List (Point → Bool)} (plan : List ℕ) (to at : ℕ) → Entries table cells es fs → to ≡ at + length es
    → ((i : ℕ) → i < length es → get_or plan (at + i) 0 ≡ get_or es i 0) → TestsAt table plan cells to at fs
tests-at plan to at no_entries l h = no_tests {at = at} (omega arith)
tests-at {table} {cells} plan to at (more_entries {e = e} {f = f} {es = es} t r) l h =
    more_tests {at = at} (omega arith) (subst (λ (k : ℕ). Test table cells k f) (sym (ap (λ (k : ℕ). get_or plan k 0) (omega arith) ∙ h 0 (omega arith))) t)
    (tests-at plan to (at + 1) r (omega arith) (λ i k. ap (λ (j : ℕ). get_or plan j 0) (omega arith) ∙ h (suc i) (omega arith)))

-- ---- the search

module _ {table rows cells : List ℕ} {see : ℕ → Type 0} {ss : List ℕ} {p q r : Asking} {f g h : Point → Bool} (a : AskedAs table rows cells see ss p f)
    (b : AskedAs table rows cells see ss q g) (c : AskedAs table rows cells see ss r h) where
  -- of all three predicates
  abbrev pub asked_functions : List Levelled
  asked_functions = a.functions ++ (b.functions ++ c.functions)

  pub asked-levellings : Levellings see ss asked_functions
  asked-levellings = levellings-append a.levellings (levellings-append b.levellings c.levellings)

  level-tests : (plan : List ℕ) (u : ℕ) → LevelsIn rows plan u p q r → (l : ℕ) → l < 12
      → TestsAt table plan cells (mark_in plan u (l + 1)) (mark_in plan u l) (pick l asked_functions)
  level-tests plan u k l i =
      let s = k.levels l i in
      subst (λ (w : List (Point → Bool)). TestsAt table plan cells (mark_in plan u (l + 1)) (mark_in plan u l) w)
      (sym (pick-append l a.functions (b.functions ++ c.functions) ∙ ap (λ (w : List (Point → Bool)). pick l a.functions ++ w) (pick-append l b.functions c.functions)))
      (tests-at plan (mark_in plan u (l + 1)) (mark_in plan u l)
      (entries-append (entries-of l a.tests) (entries-append (entries-of l b.tests) (entries-of l c.tests))) s.long s.each)

  pub search-planned : {plan : List ℕ} {u : ℕ} → LevelsIn rows plan u p q r → Searched plan cells u ss → Planned table plan cells u 0 ss (tests_by_level asked_functions)
  search-planned {plan} {u} k s =
      let few = s.few in
      record {
        search_low = s.search_low;
        few = omega arith;
        levels = λ l i j. level-tests plan u k l (omega arith);
        marks = k.marks;
        slots = λ i j. ap (λ (m : ℕ). slot_in plan u m) (zero-add i) ∙ s.slots i j;
        slot_low = s.slot_low;
        readable = s.readable;
        some = s.some;
        free = λ l i e j m δ x. level-free asked-levellings l i (omega arith) m δ x;
      }

  pub search-whole : (δ : Point) → Tame cells δ → levels_hold (tests_by_level asked_functions) 0 (length ss) δ ≡ (f δ && (g δ && h δ))
  search-whole δ t =
      all-levels δ asked-levellings ∙ all-of_append a.functions (b.functions ++ c.functions) δ
      ∙ ap₂ (λ (x y : Bool). x && y) (a.whole δ t)
      (all-of_append b.functions c.functions δ ∙ ap₂ (λ (x y : Bool). x && y) (b.whole δ t) (c.whole δ t))

  abbrev pub search_of : {plan : List ℕ} {u : ℕ} → LevelsIn rows plan u p q r → Searched plan cells u ss → SearchOf table plan cells u ss (λ (δ : Point). f δ && (g δ && h δ))
  search_of k s = record { tests = tests_by_level asked_functions; planned = search-planned k s; distinct = s.distinct; whole = search-whole }
