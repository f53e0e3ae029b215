-- What the functions promise each other. Nothing here need be believed.
use Rattle.std.specs.Prelude.{◌≡◌, List, [], ◌∷◌, ◌++◌, ℕ, suc, ◌+◌, ◌*◌, ◌<◌, ◌≤◌, length, drop, set}
use Rattle.parser.specs.Sections.{ItemAt, Run}

-- the numbers w are written in front of s₀, and what stood behind them stays
pub record Filled (s₀ s w : List ℕ) : Type 0 where
  pub filled : s ≡ w ++ drop (length w) s₀

-- the number n in the place k, and 0 for one that has more than 16 bits
pub record NumberPut (k n : ℕ) (s s' : List ℕ) : Type 0 where
  pub same : length s' ≡ length s
  pub puts : n ≤ 65535 → s' ≡ set s k n
  pub beyond : 65535 < n → s' ≡ set s k 0

-- three numbers in front
pub record Three (x y z : ℕ) (s s' : List ℕ) : Type 0 where
  pub same : length s' ≡ length s
  pub fills : x ≤ 65535 → y ≤ 65535 → z ≤ 65535 → Filled s s' (x ∷ y ∷ z ∷ [])

-- a heading from i up to a, and then declarations up to b
pub record Declared (t : List ℕ) (m i a b : ℕ) : Type 0 where
  pub heading : ItemAt t m i a
  pub declared : Run t m 6 6 a b

pub record OperationIn (t : List ℕ) (m i a b e f : ℕ) : Type 0 where
  pub parameters : Declared t m i a b
  pub abstractly : ItemAt t m b e
  pub concretely : ItemAt t m e f

-- those of a state, and those of an operation, in front of a part that is lent for them
pub record StatePut (t : List ℕ) (m from to : ℕ) (s s' : List ℕ) : Type 0 where
  pub same : length s' ≡ length s
  pub fills : (a b : ℕ) → m ≤ 65535 → to ≤ m → Declared t m from a b → Filled s s' (a ∷ b ∷ to ∷ [])

pub record OperationPut (t : List ℕ) (m from : ℕ) (s s' : List ℕ) (r : ℕ) : Type 0 where
  pub same : length s' ≡ length s
  pub behind : (a b e f : ℕ) → OperationIn t m from a b e f → r ≡ f
  pub fills : (a b e f : ℕ) → m ≤ 65535 → OperationIn t m from a b e f → Filled s s' (a ∷ b ∷ e ∷ f ∷ [])

-- operations from i up to the end, their numbers, and how many they are
pub data OperationsIn (t : List ℕ) (m : ℕ) : ℕ → List ℕ → ℕ → Type 0 where
  no_operation : {i : ℕ} → m ≤ i → OperationsIn t m i [] 0
  an_operation : {i a b e f n : ℕ} {v : List ℕ} → OperationIn t m i a b e f → OperationsIn t m f v n → OperationsIn t m i (a ∷ b ∷ e ∷ f ∷ v) (suc n)

-- behind k operations: the numbers w and the n operations come of what is written and of what is still to be read
pub record Ahead (t : List ℕ) (m at k : ℕ) (s s₀ w : List ℕ) (n : ℕ) : Type 0 where
  pub front : List ℕ
  pub left : List ℕ
  pub count : ℕ
  pub whole : w ≡ front ++ left
  pub long : 9 + 4 * k ≡ length front
  pub sum : n ≡ k + count
  pub rest : OperationsIn t m at left count
  pub written : Filled s₀ s front

pub record OperationsPut (t : List ℕ) (m from : ℕ) (s s' : List ℕ) (r : ℕ) : Type 0 where
  pub few : r ≤ 16
  pub counts : (s₀ w : List ℕ) (n : ℕ) → m ≤ 65535 → n ≤ 16 → Ahead t m from 0 s s₀ w n → r ≡ n
  pub fills : (s₀ w : List ℕ) (n : ℕ) → m ≤ 65535 → n ≤ 16 → Ahead t m from 0 s s₀ w n → Filled s₀ s' w
