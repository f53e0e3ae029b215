-- What is remembered of conjuncts, and what the functions promise. Nothing here need be believed.
use Rattle.std.specs.Prelude.{◌≡◌, ◌⊎◌, List, ℕ, ◌+◌, ◌*◌, ◌/◌, ◌%◌, ◌<◌, ◌≤◌, ◌^◌, eqb, get_or, length, ℤ, pos, ◌+ℤ◌}
use Rattle.evaluator.specs.EvaluationEvaluationByNumber.{Values, Inside}
use Rattle.evaluator.specs.EvaluationPromises.{TruthRuns, TruthAnswers}
use Rattle.mentions.specs.MentionPromises.{TruthFree}

-- a slot that is none of the four of a list, which has six bits for each
pub record Unlisted (list s : ℕ) : Type 0 where
  pub first : s ≡ list / 262144 % 64 → ⊥
  pub second : s ≡ list / 4096 % 64 → ⊥
  pub third : s ≡ list / 64 % 64 → ⊥
  pub fourth : s ≡ list % 64 → ⊥

-- among the four slots of a list that is made, which is 16777216 or more, are all slots from s on that the conjunct up to e mentions
pub record Lists (table : List ℕ) (e s list : ℕ) : Type 0 where
  pub free : 16777216 ≤ list → (k : ℕ) → s ≤ k → k < 64 → Unlisted list k → TruthFree table e k

-- a key with one more value behind it: raised by 1000 it has 12 bits
pub record Behind (k : ℕ) (v : ℤ) (r : ℕ) : Type 0 where
  pub digit : ℕ
  pub low : digit < 4096
  pub raised : v +ℤ pos 1000 ≡ pos digit
  pub is : r ≡ 4096 * k + digit

-- the key of a conjunct, given by the number of its last node, with these values in the slots of its list
pub record Keyed (list node : ℕ) (σ : Values) (key : ℕ) : Type 0 where
  pub one : ℕ
  pub two : ℕ
  pub three : ℕ
  pub first : Behind node (get_or σ (list / 262144 % 64) (pos 0)) one
  pub second : Behind one (get_or σ (list / 4096 % 64) (pos 0)) two
  pub third : Behind two (get_or σ (list / 64 % 64) (pos 0)) three
  pub fourth : Behind three (get_or σ (list % 64) (pos 0)) key

-- a cell, twice a key and 1 more for true: of a conjunct whose list stands, with some values that have this key
pub record Kept (table memo : List ℕ) (cell : ℕ) : Type 0 where
  pub node : ℕ
  pub low : node < 4097
  pub made : 16777216 ≤ get_or memo node 0
  pub values : Values
  pub long : length values ≡ 64
  pub keyed : Keyed (get_or memo node 0) node values (cell / 2)
  pub says : TruthAnswers table (4 * node) values (eqb (cell % 2) 1)

-- 4097 lists, of the conjuncts that end at the places 4 * 0 to 4 * 4096, and behind them the cells
pub record Memo (table memo : List ℕ) : Type 0 where
  pub long : length memo ≡ 8098
  pub lists : (node : ℕ) → node < 4097 → Lists table (4 * node) 0 (get_or memo node 0)
  pub cells : (i : ℕ) → 4097 ≤ i → (get_or memo i 0 ≡ 0) ⊎ Kept table memo (get_or memo i 0)

-- ---- what the functions promise

-- a key of the conjunct with these values, by a list that is made; it is not 0, which is nothing among the cells, and there is room for one bit more
pub record KeyOf (list node : ℕ) (σ : Values) (key : ℕ) : Type 0 where
  pub made : 16777216 ≤ list
  pub keyed : Keyed list node σ key
  pub near : key < 2 ^ 62
  pub some : key ≡ 0 → ⊥

-- the conjunct up to e has the key k with these values, by the list that stands
pub record AgainAsked (table memo : List ℕ) (e k : ℕ) (σ : Values) : Type 0 where
  pub inside : Inside e
  pub runs : TruthRuns table e σ
  pub long : length σ ≡ 64
  pub node : ℕ
  pub at : e ≡ 4 * node
  pub low : node < 4097
  pub made : 16777216 ≤ get_or memo node 0
  pub keyed : Keyed (get_or memo node 0) node σ k
  pub near : k < 2 ^ 62
  pub some : k ≡ 0 → ⊥
