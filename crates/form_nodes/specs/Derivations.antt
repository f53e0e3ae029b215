-- What the form pass reads, by the codes s and the values ν of the symbols, and the nodes that it leaves of it. The trees that these are the nodes of are parser/proofs/DerivedTrees.
-- Nothing here need be believed.
use Rattle.std.specs.Prelude.{◌≡◌, Bool, false, cond, List, [], ◌++◌, ℕ, ◌+◌, ◌-◌, ◌*◌, ◌≤◌, ◌<◌, eqb, ltb, leb, length, take, get_or, Result, Ok, Err, Option, Some, None}
use Rattle.lexical.specs.Kinds.{Kind, code_of, lookup}
use Rattle.form.specs.Codes.{node}
use Rattle.form_nodes.specs.FormPromises.{Answer, Classes, Starts, operators, connectives, pred_starts, relations, operator_number, level_of}
use Rattle.form_nodes.specs.declared.kinds.Start.TheVariants.{Leaf, Prefix}
use Rattle.form_nodes.specs.declared.kinds.Operator.{Operator}
use Rattle.refusals.specs.declared.Fault.{Fault}
use Rattle.refusals.specs.declared.Refusal.TheVariants.{NoDossier}

-- the number of the name at a symbol; 0 where none can stand
unfoldable pub name_code : (s ν : List ℕ) → ℕ → ℕ
name_code s ν i = cond (ltb 4095 (get_or ν i 0)) 0 (cond (ltb (get_or s i 0) 2) 0 (4 * get_or ν i 0 + (get_or s i 0 - 2)))

abbrev pub lowered : ℕ → ℕ
lowered x = cond (ltb 1000 x) 0 (1000 - x)

abbrev pub raised : ℕ → ℕ
raised x = cond (ltb 1000 x) 0 (1000 + x)

-- the end of a range that begins at a symbol, plus 1,000; the magnitude of a divisor; its sign and which division it is
unfoldable pub end_code : (s ν : List ℕ) → ℕ → ℕ
end_code s ν i = cond (eqb (get_or s i 0) 29) (lowered (get_or ν (i + 1) 0)) (raised (get_or ν i 0))

unfoldable pub magnitude_code : (s ν : List ℕ) → ℕ → ℕ
magnitude_code s ν i = cond (eqb (get_or s i 0) 29) (get_or ν (i + 1) 0) (get_or ν i 0)

unfoldable pub division_code : (s : List ℕ) → ℕ → ℕ
division_code s i =
    cond (eqb (get_or s i 0) 62) (cond (eqb (get_or s (i + 1) 0) 29) 3 2) (cond (eqb (get_or s (i + 1) 0) 29) 1 0)

unfoldable pub leaf_node : (s ν : List ℕ) → ℕ → List ℕ
leaf_node s ν i = cond (eqb (get_or s i 0) 1) (node 1 i (get_or ν i 0) 0) (node 2 i (name_code s ν i) 0)

unfoldable pub range_node : (s ν : List ℕ) → ℕ → List ℕ
range_node s ν i =
    cond (eqb (get_or s i 0) 29) (node 2 (i + 2) (end_code s ν i) (end_code s ν (i + 3))) (node 2 (i + 1) (end_code s ν i) (end_code s ν (i + 2)))

abbrev pub is_name_code : ℕ → Bool
is_name_code k = cond (leb 2 k) (leb k 5) false

unfoldable pub domain_node : (s ν : List ℕ) → ℕ → List ℕ
domain_node s ν i = cond (is_name_code (get_or s i 0)) (node 1 i (name_code s ν i) 0) (range_node s ν i)

-- a name of any ending; `in` or `notin`
pub record NameAt (s : List ℕ) (i : ℕ) : Type 0 where
  pub low : 2 ≤ get_or s i 0
  pub high : get_or s i 0 ≤ 5

pub record MemberAt (s : List ℕ) (i : ℕ) : Type 0 where
  pub low : 56 ≤ get_or s i 0
  pub high : get_or s i 0 ≤ 57

-- the number of the name at a symbol, or a fault there where none stands
pub data NameRead (s ν : List ℕ) (i : ℕ) : Result ℕ Fault → Type 0 where
  name_there : {x : ℕ} → NameAt s i → x ≡ name_code s ν i → NameRead s ν i (Ok x)
  name_missing : (NameAt s i → ⊥) → NameRead s ν i (Err (record { place = i; refusal = NoDossier }))

pub data EndAt (s : List ℕ) : ℕ → ℕ → Type 0 where
  positive : {i : ℕ} → get_or s i 0 ≡ 1 → EndAt s i (i + 1)
  negative : {i : ℕ} → get_or s i 0 ≡ 29 → get_or s (i + 1) 0 ≡ 1 → EndAt s i (i + 1 + 1)

pub data RangeAt (s : List ℕ) : ℕ → ℕ → Type 0 where
  ranges : {i j k : ℕ} → EndAt s i j → get_or s j 0 ≡ 21 → EndAt s (j + 1) k → RangeAt s i k

pub data DomainAt (s : List ℕ) : ℕ → ℕ → Type 0 where
  over_name : {i : ℕ} → NameAt s i → DomainAt s i (i + 1)
  over_range : {i j : ℕ} → RangeAt s i j → DomainAt s i j

-- behind a term stands no operator of the level min or a higher one; behind a predicate no connective
abbrev pub NoOperator : List ℕ → (min i : ℕ) → Type 0
NoOperator s min i = (κ : Kind) → code_of κ ≡ get_or s i 0 → level_of (lookup operators 0 κ) < min

abbrev pub NoConnective : List ℕ → (min i : ℕ) → Type 0
NoConnective s min i = (κ : Kind) → code_of κ ≡ get_or s i 0 → lookup connectives 0 κ < min

-- the operator of the level min or a higher one that stands at a symbol, or that none does; the level of the connective, likewise
pub data OperatorFrom (s : List ℕ) (i min : ℕ) : Option Operator → Type 0 where
  an_operator : {o : Operator} → Classes operators (get_or s i 0) (operator_number o) → min ≤ level_of (operator_number o) → i < length s → OperatorFrom s i min (Some o)
  no_operator : NoOperator s min i → OperatorFrom s i min None

pub data ConnectiveFrom (s : List ℕ) (i min : ℕ) : Option ℕ → Type 0 where
  a_connective : {l : ℕ} → Classes connectives (get_or s i 0) l → min ≤ l → i < length s → ConnectiveFrom s i min (Some l)
  no_connective : NoConnective s min i → ConnectiveFrom s i min None

-- What is read. `min` is the least level; a rest stands behind a term or predicate already read; items and pairs behind their first term; `some_related` behind t |-> t;
-- entries by their word and the shape of their nodes; a condition up to the symbol behind its predicate; a state, or a `where`, by its word
pub data Part : Type 0 where
  an_operand some_items some_pairs a_unary an_atom some_related : Part
  a_term_from a_term_rest a_pred_from a_pred_rest : (min : ℕ) → Part
  a_type a_declaration some_elements some_givens some_declarations some_parameters some_operations a_dossier : Part
  some_entries : (word shape : ℕ) → Part
  a_condition a_state a_where : (word : ℕ) → Part

-- from the symbol i up to the symbol j, with these nodes
pub data Derives (s ν : List ℕ) : Part → ℕ → ℕ → List ℕ → Type 0 where
  leaf : {i : ℕ} → Starts (get_or s i 0) Leaf → Derives s ν an_operand i (i + 1) (leaf_node s ν i)
  prefixed : {i j : ℕ} {n : List ℕ} → Starts (get_or s i 0) Prefix → Derives s ν an_operand (i + 1) j n → Derives s ν an_operand i j (n ++ node 3 i (get_or s i 0) 0)
  bracketed : {i j : ℕ} {n : List ℕ} → get_or s i 0 ≡ 17 → Derives s ν (a_term_from 1) (i + 1) j n → get_or s j 0 ≡ 18 → Derives s ν an_operand i (j + 1) n
  listed : {i j k : ℕ} {m n : List ℕ} → get_or s i 0 ≡ 19 → Derives s ν (a_term_from 1) (i + 1) j m → Derives s ν some_items j k n
      → Derives s ν an_operand i k ((m ++ n) ++ node 7 i 0 0)
  paired : {i j k : ℕ} {m n : List ℕ} → get_or s i 0 ≡ 19 → Derives s ν (a_term_from 1) (i + 1) j m → Derives s ν some_pairs j k n
      → Derives s ν an_operand i k ((m ++ n) ++ node 8 i 0 0)
  such : {i j : ℕ} {n : List ℕ} → get_or s i 0 ≡ 19 → get_or s (i + 1) 0 ≡ 2 → get_or s (i + 1 + 1) 0 ≡ 10 → NameAt s (i + 1 + 1 + 1) → get_or s (i + 1 + 1 + 1 + 1) 0 ≡ 13
      → Derives s ν (a_pred_from 1) (i + 1 + 1 + 1 + 1 + 1) j n → get_or s j 0 ≡ 20
      → Derives s ν an_operand i (j + 1) ((n ++ node 1 (i + 1 + 1 + 1) (name_code s ν (i + 1 + 1 + 1)) 0) ++ node 6 i (name_code s ν (i + 1)) 0)
  empty_one : {i : ℕ} → get_or s i 0 ≡ 47 → NameAt s (i + 1) → Derives s ν an_operand i (i + 1 + 1) (node 9 i (name_code s ν (i + 1)) 0)
  empty_two : {i : ℕ} → get_or s i 0 ≡ 47 → NameAt s (i + 1) → NameAt s (i + 1 + 1)
      → Derives s ν an_operand i (i + 1 + 1 + 1) (node 10 i (name_code s ν (i + 1)) (name_code s ν (i + 1 + 1)))
  items_end : {i : ℕ} → get_or s i 0 ≡ 20 → Derives s ν some_items i (i + 1) (node 1 0 0 0)
  more_items : {i j k : ℕ} {m n : List ℕ} → get_or s i 0 ≡ 12 → Derives s ν (a_term_from 1) (i + 1) j m → Derives s ν some_items j k n
      → Derives s ν some_items i k ((m ++ n) ++ node 2 0 0 0)
  end_of_pairs : {i j : ℕ} {m : List ℕ} → get_or s i 0 ≡ 32 → Derives s ν (a_term_from 1) (i + 1) j m → get_or s j 0 ≡ 20
      → Derives s ν some_pairs i (j + 1) (m ++ node 1 0 0 0)
  pairs_more : {i j k l : ℕ} {m m' n : List ℕ} → get_or s i 0 ≡ 32 → Derives s ν (a_term_from 1) (i + 1) j m → get_or s j 0 ≡ 12 → Derives s ν (a_term_from 1) (j + 1) k m'
      → Derives s ν some_pairs k l n → Derives s ν some_pairs i l (((m ++ m') ++ n) ++ node 2 0 0 0)
  term_from : {min i j k : ℕ} {m n : List ℕ} → Derives s ν an_operand i j m → Derives s ν (a_term_rest min) j k n → Derives s ν (a_term_from min) i k (m ++ n)
  term_stops : {min i : ℕ} → NoOperator s min i → Derives s ν (a_term_rest min) i i []
  divided : {min o i j k : ℕ} {n : List ℕ} → Classes operators (get_or s i 0) o → 3 ≤ o → min ≤ 2 → EndAt s (i + 1) j → Derives s ν (a_term_rest min) j k n
      → Derives s ν (a_term_rest min) i k (node 4 i (magnitude_code s ν (i + 1)) (division_code s i) ++ n)
  operated : {min o i j k : ℕ} {m n : List ℕ} → Classes operators (get_or s i 0) o → 1 ≤ o → o ≤ 2 → min ≤ o → Derives s ν (a_term_from (o + 1)) (i + 1) j m
      → Derives s ν (a_term_rest min) j k n → Derives s ν (a_term_rest min) i k ((m ++ node 5 i (get_or s i 0) 0) ++ n)
  pred_from : {min i j k : ℕ} {m n : List ℕ} → Derives s ν a_unary i j m → Derives s ν (a_pred_rest min) j k n → Derives s ν (a_pred_from min) i k (m ++ n)
  pred_stops : {min i : ℕ} → NoConnective s min i → Derives s ν (a_pred_rest min) i i []
  implied : {min i j k : ℕ} {m n : List ℕ} → Classes connectives (get_or s i 0) 2 → min ≤ 2 → Derives s ν (a_pred_from 2) (i + 1) j m → Derives s ν (a_pred_rest min) j k n
      → Derives s ν (a_pred_rest min) i k ((m ++ node 3 i (get_or s i 0) 0) ++ n)
  connected : {min l i j k : ℕ} {m n : List ℕ} → Classes connectives (get_or s i 0) l → 1 ≤ l → (l ≡ 2 → ⊥) → min ≤ l → Derives s ν (a_pred_from (l + 1)) (i + 1) j m
      → Derives s ν (a_pred_rest min) j k n → Derives s ν (a_pred_rest min) i k ((m ++ node 3 i (get_or s i 0) 0) ++ n)
  truth_value : {i : ℕ} → Classes pred_starts (get_or s i 0) 1 → Derives s ν a_unary i (i + 1) (node 1 i (get_or s i 0) 0)
  denied : {i j : ℕ} {n : List ℕ} → Classes pred_starts (get_or s i 0) 2 → Derives s ν a_unary (i + 1) j n → Derives s ν a_unary i j (n ++ node 2 i 0 0)
  atomic : {i j k : ℕ} {m n : List ℕ} → Derives s ν (a_term_from 1) i j m → Derives s ν an_atom j k n → Derives s ν a_unary i k (m ++ n)
  parenthesised : {i j : ℕ} {n : List ℕ} → get_or s i 0 ≡ 15 → Derives s ν (a_pred_from 1) (i + 1) j n → get_or s j 0 ≡ 16 → Derives s ν a_unary i (j + 1) n
  quantified : {i j k : ℕ} {n : List ℕ} → get_or s i 0 ≡ 15 → 53 ≤ get_or s (i + 1) 0 → get_or s (i + 1) 0 ≤ 55 → get_or s (i + 1 + 1) 0 ≡ 2 → get_or s (i + 1 + 1 + 1) 0 ≡ 10
      → DomainAt s (i + 1 + 1 + 1 + 1) j → get_or s j 0 ≡ 14 → Derives s ν (a_pred_from 1) (j + 1) k n → get_or s k 0 ≡ 16
      → Derives s ν a_unary i (k + 1) ((n ++ domain_node s ν (i + 1 + 1 + 1 + 1)) ++ node 8 (i + 1) (name_code s ν (i + 1 + 1)) (get_or s (i + 1) 0))
  compared : {i j : ℕ} {n : List ℕ} → Classes relations (get_or s i 0) 1 → Derives s ν (a_term_from 1) (i + 1) j n → Derives s ν an_atom i j (n ++ node 4 i (get_or s i 0) 0)
  belongs : {i j : ℕ} {n : List ℕ} → MemberAt s i → Derives s ν (a_term_from 1) (i + 1) j n → Derives s ν an_atom i j (n ++ node 5 i (get_or s i 0) 0)
  within : {i j : ℕ} → MemberAt s i → RangeAt s (i + 1) j → Derives s ν an_atom i j (range_node s ν (i + 1) ++ node 6 i (get_or s i 0) 0)
  mapped : {i j k : ℕ} {m n : List ℕ} → get_or s i 0 ≡ 32 → Derives s ν (a_term_from 1) (i + 1) j m → Derives s ν some_related j k n → Derives s ν an_atom i k (m ++ n)
  related : {i j : ℕ} {n : List ℕ} → MemberAt s i → Derives s ν (a_term_from 1) (i + 1) j n → Derives s ν some_related i j (n ++ node 7 i (get_or s i 0) 0)
  over_given : {i : ℕ} → NameAt s i → Derives s ν a_type i (i + 1) (node 1 i (name_code s ν i) 0)
  over_range : {i j : ℕ} → RangeAt s i j → Derives s ν a_type i j (range_node s ν i)
  over_sets : {i : ℕ} → get_or s i 0 ≡ 46 → NameAt s (i + 1) → Derives s ν a_type i (i + 1 + 1) (node 3 i (name_code s ν (i + 1)) 0)
  over_pairs : {i : ℕ} → NameAt s i → 33 ≤ get_or s (i + 1) 0 → get_or s (i + 1) 0 ≤ 35 → NameAt s (i + 1 + 1)
      → Derives s ν a_type i (i + 1 + 1 + 1) (node (get_or s (i + 1) 0 - 29) i (name_code s ν i) (name_code s ν (i + 1 + 1)))
  declares : {i j : ℕ} {n : List ℕ} → NameAt s i → get_or s (i + 1) 0 ≡ 10 → Derives s ν a_type (i + 1 + 1) j n → get_or s j 0 ≡ 11
      → Derives s ν a_declaration i (j + 1) (node 6 i (name_code s ν i) 0 ++ n)
  no_entries : {word shape i : ℕ} → Derives s ν (some_entries word shape) i i []
  an_entry : {word shape i j : ℕ} {n : List ℕ} → get_or s i 0 ≡ word → get_or s (i + 1) 0 ≡ 2 → Derives s ν (some_entries word shape) (i + 1 + 1) j n
      → Derives s ν (some_entries word shape) i j (node shape (i + 1) (name_code s ν (i + 1)) 0 ++ n)
  no_elements : {i : ℕ} → Derives s ν some_elements i i []
  an_element : {i j : ℕ} {n : List ℕ} → get_or s i 0 ≡ 2 → Derives s ν some_elements (i + 1) j n → Derives s ν some_elements i j (node 4 i (name_code s ν i) 0 ++ n)
  no_givens : {i : ℕ} → Derives s ν some_givens i i []
  a_given : {i j k : ℕ} {m n : List ℕ} → get_or s i 0 ≡ 37 → get_or s (i + 1) 0 ≡ 2 → get_or s (i + 1 + 1) 0 ≡ 2 → Derives s ν some_elements (i + 1 + 1) j m → get_or s j 0 ≡ 44
      → Derives s ν some_givens (j + 1) k n → Derives s ν some_givens i k (node 3 i (name_code s ν (i + 1)) 0 ++ (m ++ n))
  no_declarations : {i : ℕ} → Derives s ν some_declarations i i []
  declares_more : {i j k : ℕ} {m n : List ℕ} → get_or s i 0 ≡ 2 → Derives s ν a_declaration i j m → Derives s ν some_declarations j k n
      → Derives s ν some_declarations i k (m ++ n)
  no_parameters : {i : ℕ} → Derives s ν some_parameters i i []
  takes_more : {i j k : ℕ} {m n : List ℕ} → 4 ≤ get_or s i 0 → get_or s i 0 ≤ 5 → Derives s ν a_declaration i j m → Derives s ν some_parameters j k n
      → Derives s ν some_parameters i k (m ++ n)
  condition : {word i j : ℕ} {n : List ℕ} → Derives s ν (a_pred_from 1) i j n → get_or s j 0 ≡ word → Derives s ν (a_condition word) i (j + 1) (node 7 i (length n) 0 ++ n)
  state : {word i j k : ℕ} {m n : List ℕ} → get_or s i 0 ≡ word → get_or s (i + 1) 0 ≡ 2 → Derives s ν some_declarations (i + 1) j m → get_or s j 0 ≡ 45
      → Derives s ν (a_condition 44) (j + 1) k n → Derives s ν (a_state word) i k (node 5 i 0 0 ++ (m ++ n))
  where_of : {word i j : ℕ} {n : List ℕ} → get_or s i 0 ≡ word → get_or s (i + 1) 0 ≡ 45 → Derives s ν (a_condition 44) (i + 1 + 1) j n → Derives s ν (a_where word) i j n
  no_operations : {i : ℕ} → Derives s ν some_operations i i []
  an_operation : {h i j k l : ℕ} {x m n o : List ℕ} → get_or s h 0 ≡ 43 → get_or s (h + 1) 0 ≡ 2 → Derives s ν some_parameters (h + 1 + 1) i x → get_or s i 0 ≡ 38
      → Derives s ν (a_condition 39) (i + 1) j m → Derives s ν (a_condition 44) j k n → Derives s ν some_operations k l o
      → Derives s ν some_operations h l (node 8 h (name_code s ν (h + 1)) 0 ++ (x ++ (m ++ (n ++ o))))
  dossier : {a b c d e f g h i : ℕ} {l m n o p q r t : List ℕ} → get_or s 0 0 ≡ 36 → Derives s ν (some_entries 37 1) 1 a l → get_or s a 0 ≡ 38 → get_or s (a + 1) 0 ≡ 39
      → get_or s (a + 1 + 1) 0 ≡ 40 → get_or s (a + 1 + 1 + 1) 0 ≡ 41 → get_or s (a + 1 + 1 + 1 + 1) 0 ≡ 42
      → Derives s ν (some_entries 43 2) (a + 1 + 1 + 1 + 1 + 1) b m → get_or s b 0 ≡ 44 → Derives s ν some_givens (b + 1) c n → Derives s ν (a_state 38) c d o
      → Derives s ν (a_state 39) d e p → Derives s ν (a_where 40) e f q → Derives s ν (a_where 41) f g r → Derives s ν (a_where 42) g h t
      → {u : List ℕ} → Derives s ν some_operations h i u
      → Derives s ν a_dossier 0 i (l ++ (m ++ (n ++ (o ++ (p ++ (q ++ (r ++ (t ++ u))))))))

-- the nodes of a part, behind the first n numbers of the array a, are in the array b
pub record MadeAt (s ν : List ℕ) (x : Part) (i n : ℕ) (a b : List ℕ) (j m : ℕ) : Type 0 where
  pub nodes : List ℕ
  pub derives : Derives s ν x i j nodes
  pub written : take m b ≡ take n a ++ nodes

abbrev pub Made : (s ν : List ℕ) → Part → (i n : ℕ) → (a b : List ℕ) → Answer → Type 0
Made s ν x i n a b (Ok e) = MadeAt s ν x i n a b e.at e.count
Made s ν x i n a b (Err f) = Unit {0}

-- some first ones of a list, up to the symbol j: what stands there from j on stands from i on with their nodes in front
pub record MoreAt (s ν : List ℕ) (x : Part) (i n : ℕ) (a b : List ℕ) (j m : ℕ) : Type 0 where
  pub nodes : List ℕ
  pub more : (k : ℕ) (u : List ℕ) → Derives s ν x j k u → Derives s ν x i k (nodes ++ u)
  pub written : take m b ≡ take n a ++ nodes

abbrev pub More : (s ν : List ℕ) → Part → (i n : ℕ) → (a b : List ℕ) → Answer → Type 0
More s ν x i n a b (Ok e) = MoreAt s ν x i n a b e.at e.count
More s ν x i n a b (Err f) = Unit {0}
