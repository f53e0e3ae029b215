-- Lists of anything, and texts as lists of bytes. A branch that calls its own function stands in an `elim`, which computes only the case taken.
use Rattle.std.specs.Prelude.{Bool, true, false, List, [], ◌∷◌, ◌++◌, ℕ, zero, suc, eqb}
use Rattle.std.proofs.Math.Option.{Option, none, some}
use Prim.Native.Char.{code}
use Prim.Native.String as string
use Prim.Native.String.{String}

-- the bytes of a text written in the definitions
unfoldable pub bytes : String → List ℕ
bytes string.[] = []
bytes (string.◌∷◌ c s) = code c ∷ bytes s

unfoldable pub same : List ℕ → List ℕ → Bool
same [] [] = true
same [] (y ∷ ys) = false
same (x ∷ xs) [] = false
same (x ∷ xs) (y ∷ ys) = elim (eqb x y) [ true ↦ same xs ys | false ↦ false ]

-- the second list begins with the first
unfoldable pub begins : List ℕ → List ℕ → Bool
begins [] ys = true
begins (x ∷ xs) [] = false
begins (x ∷ xs) (y ∷ ys) = elim (eqb x y) [ true ↦ begins xs ys | false ↦ false ]

unfoldable pub all : {A : Type 0} → (A → Bool) → List A → Bool
all f [] = true
all f (x ∷ xs) = elim (f x) [ true ↦ all f xs | false ↦ false ]

unfoldable pub any : {A : Type 0} → (A → Bool) → List A → Bool
any f [] = false
any f (x ∷ xs) = elim (f x) [ true ↦ true | false ↦ any f xs ]

-- how many members pass the test
unfoldable pub count : {A : Type 0} → (A → Bool) → List A → ℕ
count f [] = 0
count f (x ∷ xs) = elim (f x) [ true ↦ suc (count f xs) | false ↦ count f xs ]

-- the members that pass the test
unfoldable pub filter : {A : Type 0} → (A → Bool) → List A → List A
filter f [] = []
filter f (x ∷ xs) = elim (f x) [ true ↦ x ∷ filter f xs | false ↦ filter f xs ]

-- the first member that passes the test
unfoldable pub find : {A : Type 0} → (A → Bool) → List A → Option A
find f [] = none
find f (x ∷ xs) = elim (f x) [ true ↦ some x | false ↦ find f xs ]

unfoldable pub concat : {A : Type 0} → List (List A) → List A
concat [] = []
concat (l ∷ ls) = l ++ concat ls

-- the n numbers from k on, upward
unfoldable pub upward : ℕ → ℕ → List ℕ
upward k zero = []
upward k (suc n) = k ∷ upward (suc k) n
