-- Functions of points, each with its level, as the tests of a search: each function stands in one level, so all levels together are all functions, and a level does not depend on the
-- variables from it on.
use mathlib.Core.Path.{◌≡◌, refl, sym, ap, ap₂, ◌∙◌}
use mathlib.Core.Bool.{Bool, true, false, ◌&&◌, and_assoc}
use mathlib.Core.List.{List, [], ◌∷◌, ◌++◌}
use Prim.Native.Nat.{ℕ, zero, suc, ◌+◌, ◌<◌, ◌≤◌}
use native.Mathlib.Omega.{arith}
use lib.Dec.{eqb}
use lib.ListN.{get_or, length}
use borrow.Author.Tests.{eqb-true, eqb-false, eq-eqb, ne_eqb}
use Rattle.lexical.specs.Lists.{all}
use Rattle.part_tests.specs.PointsPoints.{Point, moved}
use Rattle.part_tests.specs.PointsSearches.{level_holds, levels_hold}
use Rattle.part_tests.proofs.PointsPointNumbers.{moved_other}

abbrev pub Levelled : Type 0
Levelled = ℕ × (Point → Bool)

-- the functions of level l
unfoldable pub pick : (l : ℕ) → List Levelled → List (Point → Bool)
pick l [] = []
pick l (x ∷ xs) = elim (eqb x.0 l) [ true ↦ x.1 ∷ pick l xs | false ↦ pick l xs ]

abbrev pub tests_by_level : List Levelled → (l : ℕ) → List (Point → Bool)
tests_by_level xs l = pick l xs

-- all functions hold
unfoldable pub all_of : List Levelled → Point → Bool
all_of [] δ = true
all_of (x ∷ xs) δ = x.1 δ && all_of xs δ

-- two points agree in the slots that a function sees and that are no variable of a search over ss from number l on
abbrev pub AgreeBefore : (see : ℕ → Type 0) (ss : List ℕ) (l : ℕ) (δ ε : Point) → Type 0
AgreeBefore see ss l δ ε = (s : ℕ) → see s → ((i : ℕ) → l ≤ i → i < length ss → s ≡ get_or ss i 0 → ⊥) → δ s ≡ ε s

-- a function of level l depends on such slots only
pub record Levelling (see : ℕ → Type 0) (ss : List ℕ) (l : ℕ) (f : Point → Bool) : Type 0 where
  pub within : l ≤ length ss
  pub steady : (δ ε : Point) → AgreeBefore see ss l δ ε → f δ ≡ f ε

pub data Levellings (see : ℕ → Type 0) (ss : List ℕ) : List Levelled → Type 0 where
  no_levellings : Levellings see ss []
  more_levellings : {x : Levelled} {xs : List Levelled} → Levelling see ss x.0 x.1 → Levellings see ss xs → Levellings see ss (x ∷ xs)

-- ---- lists side by side

pub levellings-append : {see : ℕ → Type 0} {ss : List ℕ} {xs ys : List Levelled} → Levellings see ss xs → Levellings see ss ys → Levellings see ss (xs ++ ys)
levellings-append no_levellings k = k
levellings-append (more_levellings h r) k = more_levellings h (levellings-append r k)

pub pick-here : (l : ℕ) (x : Levelled) (xs : List Levelled) → x.0 ≡ l → pick l (x ∷ xs) ≡ x.1 ∷ pick l xs
unfolding pick
pick-here l x xs e = rw (pick, eq-eqb x.0 l e)

pub pick-past : (l : ℕ) (x : Levelled) (xs : List Levelled) → (x.0 ≡ l → ⊥) → pick l (x ∷ xs) ≡ pick l xs
unfolding pick
pick-past l x xs e = rw (pick, ne_eqb x.0 l e)

-- a function is of a level, or it is not
pub by_level : {A : Type 0} (k l : ℕ) → (k ≡ l → A) → ((k ≡ l → ⊥) → A) → A
by_level {A} k l f g = go (eqb k l) refl
  where
    go : (t : Bool) → eqb k l ≡ t → A
    go true e = f (eqb-true k l e)
    go false e = g (eqb-false k l e)

pub pick-append : (l : ℕ) (xs ys : List Levelled) → pick l (xs ++ ys) ≡ pick l xs ++ pick l ys
unfolding pick
pick-append l [] ys = refl
pick-append l (x ∷ xs) ys =
    by_level x.0 l
    (λ e. pick-here l x (xs ++ ys) e ∙ ap (λ (w : List (Point → Bool)). x.1 ∷ w) (pick-append l xs ys) ∙ ap (λ (w : List (Point → Bool)). w ++ pick l ys) (sym (pick-here l x xs e)))
    (λ n. pick-past l x (xs ++ ys) n ∙ pick-append l xs ys ∙ ap (λ (w : List (Point → Bool)). w ++ pick l ys) (sym (pick-past l x xs n)))

and_turn : (a b c : Bool) → (a && (b && c)) ≡ (b && (a && c))
and_turn true b c = refl
and_turn false true c = refl
and_turn false false c = refl

pub all-of_append : (xs ys : List Levelled) (δ : Point) → all_of (xs ++ ys) δ ≡ (all_of xs δ && all_of ys δ)
unfolding all_of
all-of_append [] ys δ = refl
all-of_append (x ∷ xs) ys δ = ap (λ (b : Bool). x.1 δ && b) (all-of_append xs ys δ) ∙ sym (and_assoc (x.1 δ) (all_of xs δ) (all_of ys δ))

-- ---- all levels together

all-and : {A : Type 0} (f : A → Bool) (x : A) (xs : List A) → all f (x ∷ xs) ≡ (f x && all f xs)
unfolding all
all-and f x xs = go (f x) (all f xs)
  where
    go : (a b : Bool) → ◌≡◌ {A = Bool} (elim a [ true ↦ b | false ↦ false ]) (a && b)
    go true b = refl
    go false b = refl

level-here : (x : Levelled) (xs : List Levelled) (l : ℕ) (δ : Point) → x.0 ≡ l → level_holds (tests_by_level (x ∷ xs)) l δ ≡ (x.1 δ && level_holds (tests_by_level xs) l δ)
unfolding level_holds
level-here x xs l δ e = ap (all (λ (f : Point → Bool). f δ)) (pick-here l x xs e) ∙ all-and (λ (f : Point → Bool). f δ) x.1 (pick l xs)

level-past : (x : Levelled) (xs : List Levelled) (l : ℕ) (δ : Point) → (x.0 ≡ l → ⊥) → level_holds (tests_by_level (x ∷ xs)) l δ ≡ level_holds (tests_by_level xs) l δ
unfolding level_holds
level-past x xs l δ n = ap (all (λ (f : Point → Bool). f δ)) (pick-past l x xs n)

levels-past : (x : Levelled) (xs : List Levelled) (l n : ℕ) (δ : Point) → x.0 < l → levels_hold (tests_by_level (x ∷ xs)) l n δ ≡ levels_hold (tests_by_level xs) l n δ
unfolding levels_hold
levels-past x xs l zero δ h = level-past x xs l δ (λ e. omega arith)
levels-past x xs l (suc n) δ h = ap₂ (λ (a b : Bool). a && b) (level-past x xs l δ (λ e. omega arith)) (levels-past x xs (l + 1) n δ (omega arith))

levels-more : (x : Levelled) (xs : List Levelled) (l n : ℕ) (δ : Point) → l ≤ x.0 → x.0 ≤ l + n
    → levels_hold (tests_by_level (x ∷ xs)) l n δ ≡ (x.1 δ && levels_hold (tests_by_level xs) l n δ)
unfolding levels_hold
levels-more x xs l zero δ h k = level-here x xs l δ (omega arith)
levels-more x xs l (suc n) δ h k =
    by_level x.0 l
    (λ e. ap₂ (λ (a b : Bool). a && b) (level-here x xs l δ e) (levels-past x xs (l + 1) n δ (omega arith))
    ∙ and_assoc (x.1 δ) (level_holds (tests_by_level xs) l δ) (levels_hold (tests_by_level xs) (l + 1) n δ))
    (λ e. ap₂ (λ (a b : Bool). a && b) (level-past x xs l δ e) (levels-more x xs (l + 1) n δ (omega arith) (omega arith))
    ∙ and_turn (level_holds (tests_by_level xs) l δ) (x.1 δ) (levels_hold (tests_by_level xs) (l + 1) n δ))

none-hold : (l n : ℕ) (δ : Point) → levels_hold (tests_by_level []) l n δ ≡ true
unfolding levels_hold level_holds pick all
none-hold l zero δ = refl
none-hold l (suc n) δ = none-hold (l + 1) n δ

pub all-levels : {see : ℕ → Type 0} {ss : List ℕ} {xs : List Levelled} (δ : Point) → Levellings see ss xs → levels_hold (tests_by_level xs) 0 (length ss) δ ≡ all_of xs δ
unfolding all_of
all-levels {ss = ss} δ no_levellings = none-hold 0 (length ss) δ
all-levels {ss = ss} δ (more_levellings {x = x} {xs = xs} h r) =
    let w = h.within in
    levels-more x xs 0 (length ss) δ (omega arith) (omega arith) ∙ ap (λ (b : Bool). x.1 δ && b) (all-levels δ r)

-- ---- a level does not depend on the variables from it on

module _ {see : ℕ → Type 0} {ss : List ℕ} where
  level-steady : {xs : List Levelled} → Levellings see ss xs → (n : ℕ) (δ ε : Point) → AgreeBefore see ss n δ ε → (l : ℕ) → l ≤ n
      → level_holds (tests_by_level xs) l δ ≡ level_holds (tests_by_level xs) l ε
  unfolding level_holds pick all
  level-steady no_levellings n δ ε a l h = refl
  level-steady (more_levellings {x = x} {xs = xs} f r) n δ ε a l h =
      by_level x.0 l
      (λ e.
      level-here x xs l δ e
      ∙ ap₂ (λ (b c : Bool). b && c) (f.steady δ ε (λ s k m. a s k (λ i o p q. m i (omega arith) p q))) (level-steady r n δ ε a l h)
      ∙ sym (level-here x xs l ε e))
      (λ e. level-past x xs l δ e ∙ level-steady r n δ ε a l h ∙ sym (level-past x xs l ε e))

  pub level-free : {xs : List Levelled} → Levellings see ss xs → (l i : ℕ) → l ≤ i → i < length ss → (δ : Point) (y : ℕ)
      → level_holds (tests_by_level xs) l (moved δ (get_or ss i 0) y) ≡ level_holds (tests_by_level xs) l δ
  level-free r l i h k δ y =
      level-steady r l (moved δ (get_or ss i 0) y) δ (λ s m n. moved_other δ (get_or ss i 0) y s (n i h k)) l (omega arith)

  -- the levels up to n
  pub levels-steady : {xs : List Levelled} → Levellings see ss xs → (m : ℕ) (δ ε : Point) → AgreeBefore see ss m δ ε → (l n : ℕ) → l + n ≤ m
      → levels_hold (tests_by_level xs) l n δ ≡ levels_hold (tests_by_level xs) l n ε
  unfolding levels_hold
  levels-steady r m δ ε a l zero h = level-steady r m δ ε a l (omega arith)
  levels-steady r m δ ε a l (suc n) h =
      ap₂ (λ (b c : Bool). b && c) (level-steady r m δ ε a l (omega arith)) (levels-steady r m δ ε a (l + 1) n (omega arith))
