-- What the functions promise that list the conjuncts and the groups of variables. Nothing here need be believed.
use Rattle.std.specs.Prelude.{◌≡◌, cond, List, [], ◌∷◌, ◌++◌, ℕ, suc, ◌+◌, ◌-◌, ◌*◌, ◌/◌, ◌%◌, ◌≤◌, ◌<◌, max, eqb, ltb, length, take, drop, set, Option, Some, None, IfSome}
use Rattle.lexical.specs.Lists.{filter}
use Rattle.form.specs.Tree.{declarations, Parameter, Operation, Dossier}
use Rattle.form.specs.Codes.{Numbering, node}
use Rattle.table_places.specs.StaticRulesScope.{Context, contexts, is_input, is_output}
use Rattle.node_spans.specs.Spans.{Stands, Structured, OperationsAt, span, spans_of}
use Rattle.table_nodes.specs.TableWalkPromises.{patch}
use Rattle.table_places.specs.ResolvedTable.{Slots, pred_table}
use Rattle.table_places.specs.DossierTable.{row, operation_rows, groups_of, slots_of, starts_of}
use Rattle.search_groups.specs.Conjuncts.{last_in, conjunct_row, context_rows, context_firsts}
use Rattle.search_groups.specs.declared.conjuncts.Mentioned.{Mentioned}

-- the slots in the nodes of a table, in their order: a node of shape 2 has one
unfoldable pub slot_here : (k a : ℕ) → List ℕ
slot_here k a = cond (eqb k 2) (a ∷ []) []

unfoldable pub slots_at : List ℕ → List ℕ
slots_at [] = []
slots_at (b ∷ []) = []
slots_at (b ∷ a ∷ []) = []
slots_at (b ∷ a ∷ i ∷ []) = []
slots_at (b ∷ a ∷ i ∷ k ∷ rest) = slot_here k a ++ slots_at rest

-- the numbers from one place up to another
abbrev pub piece : List ℕ → (from end : ℕ) → List ℕ
piece table from end = take (end - from) (drop from table)

-- of each group, by its first slot and how many it has, the last variable before and after
pub record EachLast (P : (base n v w : ℕ) → Type 0) (l r : Mentioned) : Type 0 where
  pub abstracts : P 0 8 l.abstracts r.abstracts
  pub concretes : P 8 8 l.concretes r.concretes
  pub inputs : P 16 3 l.inputs r.inputs
  pub outputs : P 19 3 l.outputs r.outputs
  pub cprimed : P 22 8 l.cprimed r.cprimed
  pub aprimed : P 30 8 l.aprimed r.aprimed

-- with a node more; of the slots s; what has been found, and what is still to come, make the whole
abbrev pub Noted : (k a : ℕ) (l r : Mentioned) → Type 0
Noted k a l r = EachLast (λ (base n v w : ℕ). w ≡ max v (last_in base n (slot_here k a))) l r

abbrev pub LastsOf : List ℕ → Mentioned → Type 0
LastsOf s r = EachLast (λ (base n v w : ℕ). w ≡ last_in base n s) r r

abbrev pub LastsAhead : (rest whole : List ℕ) → Mentioned → Type 0
LastsAhead rest whole r = EachLast (λ (base n v w : ℕ). max w (last_in base n rest) ≡ last_in base n whole) r r

-- The conjuncts by numbers: the nodes from q on, and the rows they make. The last node is no `and` (shape 18, code 51), or it has the end of its left part
pub data Conjoin : (q : ℕ) → (codes rows : List ℕ) → Type 0 where
  alone : {q : ℕ} (front : List ℕ) (k i a b : ℕ) → (k ≡ 18 → a ≡ 51 → ⊥)
      → Conjoin q (front ++ node k i a b) (conjunct_row q (q + length (front ++ node k i a b)) (slots_at (front ++ node k i a b)))
  both : {q : ℕ} {x y u v : List ℕ} → Conjoin q x u → Conjoin (q + length x) y v → Conjoin q (x ++ (y ++ node 18 (q + length x) 51 0)) (u ++ v)

-- where the left part of an `and` ends; none where the last node is no `and`
pub record Middle (table : List ℕ) (from end : ℕ) (r : Option ℕ) : Type 0 where
  pub within : IfSome r (λ (m : ℕ). (from ≤ m) × (m + 4 ≤ end))
  pub none : (front : List ℕ) (k i a b : ℕ) → Stands table from end (front ++ node k i a b) → (k ≡ 18 → a ≡ 51 → ⊥) → r ≡ None
  pub found : (x y : List ℕ) → Stands table from end (x ++ (y ++ node 18 (from + length x) 51 0)) → r ≡ Some (from + length x)

-- the rows are written from n on, and r is the place behind them
pub record Wrote (n : ℕ) (rows out after : List ℕ) (r : ℕ) : Type 0 where
  pub written : after ≡ patch n rows out
  pub behind : r ≡ n + length rows

pub record RowPut (table : List ℕ) (from end n : ℕ) (out after : List ℕ) (r : ℕ) : Type 0 where
  pub long : length after ≡ length out
  pub right : from ≤ end → end ≤ length table → end ≤ 65535 → length out ≤ 65535 → n + 8 ≤ length out → Wrote n (conjunct_row from end (slots_at (piece table from end))) out after r

pub record Conjoined (table : List ℕ) (from end n : ℕ) (out after : List ℕ) (r : ℕ) : Type 0 where
  pub long : length after ≡ length out
  pub right : (codes rows : List ℕ) → Conjoin from codes rows → Stands table from end codes → end ≤ 65535 → length out ≤ 65535 → n + length rows ≤ length out → Wrote n rows out after r

-- The groups. Of declarations, two nodes each, from q on: the places of those whose name's number leaves e when divided by 4
pub data Picks (e : ℕ) : (q : ℕ) → (codes qs : List ℕ) → Type 0 where
  no_pick : {q : ℕ} → Picks e q [] []
  pick : {q k i a b l j c d : ℕ} {rest qs : List ℕ} → a % 4 ≡ e → Picks e (q + 8) rest qs → Picks e q (b ∷ a ∷ i ∷ k ∷ d ∷ c ∷ j ∷ l ∷ rest) (q ∷ qs)
  pass : {q k i a b l j c d : ℕ} {rest qs : List ℕ} → (a % 4 ≡ e → ⊥) → Picks e (q + 8) rest qs → Picks e q (b ∷ a ∷ i ∷ k ∷ d ∷ c ∷ j ∷ l ∷ rest) qs

-- one declaration, with the number x of its name, at a place, behind c that were picked
pub record Picked (x at e c : ℕ) (out after : List ℕ) (r : ℕ) : Type 0 where
  pub few : r ≤ length out
  pub long : length after ≡ length out
  pub here : x % 4 ≡ e → c < length out → (after ≡ set out c at) × (r ≡ c + 1)
  pub past : (x % 4 ≡ e → ⊥) → (after ≡ out) × (r ≡ c)

-- the places qs in front, and how many they are
pub record Chosen (qs out after : List ℕ) (r : ℕ) : Type 0 where
  pub written : after ≡ patch 0 qs out
  pub count : r ≡ length qs

pub record PickedAll (nodes : List ℕ) (from to e : ℕ) (out after : List ℕ) (r : ℕ) : Type 0 where
  pub few : r ≤ length out
  pub long : length after ≡ length out
  pub right : (codes qs : List ℕ) → Stands nodes from to codes → Picks e from codes qs → length qs ≤ length out → Chosen qs out after r

-- a row of as many places as it has numbers, but one
pub record GroupPut (nodes : List ℕ) (from to e : ℕ) (out after : List ℕ) : Type 0 where
  pub long : length after ≡ length out
  pub right : (width : ℕ) (codes qs : List ℕ) → length out ≡ width + 1 → Stands nodes from to codes → Picks e from codes qs → length qs ≤ width → after ≡ row width qs

-- the inputs and the outputs of the operation whose numbers stand from j on in the spans
pub record OperationPut (nodes spans : List ℕ) (j : ℕ) (out after : List ℕ) : Type 0 where
  pub long : length after ≡ length out
  pub right : (codes ins outs : List ℕ) → Stands nodes (span spans j) (span spans (j + 1)) codes → Picks 2 (span spans j) codes ins → Picks 3 (span spans j) codes outs
      → length ins ≤ 3 → length outs ≤ 3 → after ≡ row 3 ins ++ row 3 outs

-- at most three inputs and three outputs; at most 8 variables in a state, and 16 operations
pub record FewParameters (o : Operation) : Type 0 where
  pub inputs : length (filter (λ (x : Parameter). is_input x.direction) o.parameters) ≤ 3
  pub outputs : length (filter (λ (x : Parameter). is_output x.direction) o.parameters) ≤ 3

pub data FewEach : List Operation → Type 0 where
  few_none : FewEach []
  few_more : {o : Operation} {os : List Operation} → FewParameters o → FewEach os → FewEach (o ∷ os)

pub record Few (d : Dossier) : Type 0 where
  pub abstract : length (declarations d.abstract) ≤ 8
  pub concrete : length (declarations d.concrete) ≤ 8
  pub operations : length d.operations ≤ 16
  pub parameters : FewEach d.operations

-- behind k operations: the rows of all come of those written and of those of the operations left
pub record RowsAhead (nodes spans : List ℕ) (ρ : Numbering) (k : ℕ) (os : List Operation) (out after : List ℕ) : Type 0 where
  pub left : List Operation
  pub at : ℕ
  pub front : List ℕ
  pub rest : OperationsAt nodes spans ρ k at left
  pub few : FewEach left
  pub long : length front ≡ 8 * k
  pub whole : operation_rows spans 0 os ≡ front ++ operation_rows spans k left
  pub sum : length os ≡ k + length left
  pub written : after ≡ patch 18 front out

pub record RowsPut (nodes spans : List ℕ) (operations : ℕ) (out after : List ℕ) : Type 0 where
  pub long : length after ≡ length out
  pub right : (os : List Operation) (ρ : Numbering) (i : ℕ) → operations ≡ length os → length os ≤ 16 → OperationsAt nodes spans ρ 0 i os → FewEach os
      → after ≡ patch 18 (operation_rows spans 0 os) out

-- the groups of a dossier, in front of the array
pub record Grouped (nodes spans : List ℕ) (operations : ℕ) (out after : List ℕ) : Type 0 where
  pub exact : (d : Dossier) (ρ : Numbering) (rest : List ℕ) → Structured nodes spans operations d ρ → spans ≡ spans_of d ρ ++ rest → Few d
      → after ≡ patch 0 (groups_of d ρ) out

-- The conjuncts of all contexts. The k-th one's predicate begins one node behind the place that stands at this one of the spans, and ends at the next
unfoldable pub place_of : ℕ → ℕ
place_of k = cond (eqb k 0) 1 (cond (ltb k 5) (k + 3) (10 + 4 * ((k - 5) / 2) + (k - 5) % 2))

pub record Place (k r : ℕ) : Type 0 where
  pub right : r ≡ place_of k
  pub within : k < 37 → r + 2 ≤ 80

-- m contexts from the k-th one on: their rows, behind n numbers, and how many numbers stand before each one's
pub data RowsAt (table spans : List ℕ) : (k m n : ℕ) → (rows firsts : List ℕ) → Type 0 where
  no_rows : {k n : ℕ} → RowsAt table spans k 0 n [] (n ∷ [])
  more_rows : {k m n from end : ℕ} {codes u v fs : List ℕ} → from ≡ span spans (place_of k) + 4 → end ≡ span spans (place_of k + 1) → Conjoin from codes u
      → Stands table from end codes → RowsAt table spans (suc k) m (n + length u) v fs → RowsAt table spans k (suc m) n (u ++ v) (n ∷ fs)

pub record ContextPut (table spans : List ℕ) (j n : ℕ) (out after : List ℕ) (r : ℕ) : Type 0 where
  pub long : length after ≡ length out
  pub right : (codes rows : List ℕ) → Conjoin (span spans j + 4) codes rows → Stands table (span spans j + 4) (span spans (j + 1)) codes → n + length rows ≤ length out
      → Wrote n rows out after r

-- what is written, and the contexts left, make the whole
pub record ContextsAhead (table spans : List ℕ) (k n count : ℕ) (rows fs out after firsts marked : List ℕ) : Type 0 where
  pub left : ℕ
  pub front : List ℕ
  pub more : List ℕ
  pub before : List ℕ
  pub others : List ℕ
  pub rest : RowsAt table spans k left n more others
  pub whole : rows ≡ front ++ more
  pub firsts_whole : fs ≡ before ++ others
  pub sum : count ≡ k + left
  pub place : n ≡ length front
  pub number : k ≡ length before
  pub written : after ≡ patch 0 front out
  pub marks : marked ≡ patch 0 before firsts

pub record ListPut (table spans : List ℕ) (count : ℕ) (out after firsts marked : List ℕ) : Type 0 where
  pub right : (rows fs : List ℕ) → RowsAt table spans 0 count 0 rows fs → length rows ≤ 16384 → (after ≡ patch 0 rows out) × (marked ≡ patch 0 fs firsts)

-- the table of each context's predicate stands where it begins
pub data Standing (table : List ℕ) : List Context → List Slots → List ℕ → Type 0 where
  none_stands : Standing table [] [] []
  one_stands : {c : Context} {cs : List Context} {W : Slots} {Ws : List Slots} {q : ℕ} {qs : List ℕ}
      → Stands table q (q + length (pred_table c.predicate c.scope W 38 q)) (pred_table c.predicate c.scope W 38 q) → Standing table cs Ws qs
      → Standing table (c ∷ cs) (W ∷ Ws) (q ∷ qs)

-- the conjuncts of a dossier, in front of the arrays
pub record Listed (table spans : List ℕ) (operations : ℕ) (out after firsts marked : List ℕ) : Type 0 where
  pub exact : (d : Dossier) (ρ : Numbering) (nodes rest : List ℕ) → Structured nodes spans operations d ρ → spans ≡ spans_of d ρ ++ rest → length d.operations ≤ 16
      → Standing table (contexts d) (slots_of d) (starts_of d ρ) → length (context_rows (contexts d) (slots_of d) (starts_of d ρ)) ≤ 16384
      → (after ≡ patch 0 (context_rows (contexts d) (slots_of d) (starts_of d ρ)) out) × (marked ≡ patch 0 (context_firsts 0 (contexts d) (slots_of d) (starts_of d ρ)) firsts)
