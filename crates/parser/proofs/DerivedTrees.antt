-- What the form pass derives are grouped trees.
use mathlib.Core.Path.{◌≡◌, refl, ap, ◌∙◌, sym, subst}
use mathlib.Core.List.{List, [], ◌++◌, append_assoc, append-nil}
use Prim.Native.Nat.{ℕ, zero, suc, ◌+◌, ◌≤◌, ◌<◌}
use native.Mathlib.Omega.{arith}
use lib.ListN.{get_or}
use borrow.Author.Tests.{ne_eqb}
use Rattle.lexical.specs.Kinds.{Kind, code_of, lookup}
use Rattle.lexical.specs.Symbols.{Symbol}
use Rattle.form.specs.Form.{term_level, pred_level}
use Rattle.form.specs.Codes.{Numbering, node}
use Rattle.form.proofs.Table.{by-table, ◌&◌}
use Rattle.form_nodes.specs.FormPromises.{codes, Classes, operators, connectives, level_of}
use Rattle.form_nodes.specs.Derivations.{magnitude_code, division_code, EndAt, NoOperator, NoConnective, Derives}
use Rattle.form_nodes.specs.Derivations.{an_operand, some_items, some_pairs, a_unary, an_atom, some_related, a_term_from, a_term_rest, a_pred_from, a_pred_rest, a_type}
use Rattle.form_nodes.specs.Derivations.Derives.{leaf, prefixed, bracketed, listed, paired, such, empty_one, empty_two, items_end, more_items, end_of_pairs, pairs_more, term_from, term_stops, divided, operated}
use Rattle.form_nodes.specs.Derivations.Derives.{pred_from, pred_stops, implied, connected, truth_value, denied, atomic, parenthesised, quantified, compared, belongs, within, mapped, related}
use Rattle.form_nodes.specs.Derivations.Derives.{over_given, over_range, over_sets, over_pairs, declares, no_entries, an_entry, no_elements, an_element, no_givens, a_given, no_declarations, declares_more, no_parameters, takes_more}
use Rattle.form_nodes.specs.Derivations.Derives.{condition, state, where_of, no_operations, an_operation, dossier}
use Rattle.form_nodes.specs.Derivations.{Part, a_declaration, some_elements, some_givens, some_declarations, some_parameters, some_operations, a_dossier, some_entries, a_condition, a_state, a_where}
use Rattle.parser.proofs.TextDossier.{values, Text}
use Rattle.form_nodes.proofs.Classes.{level-high}
use Rattle.form_nodes.proofs.NodesOfParts.{level-two}
use Rattle.parser.proofs.OperatorAt.{operator-at, division-at, joined_kind, connective-at}
use Rattle.parser.proofs.Spans.{TermIn, PredIn}
use Rattle.parser.proofs.TermTrees.{ItemsIn, PairsIn, leaf-in, prefixed-in, bracketed-in, listed_in, paired-in, such_in, empty-one, empty-two, items-end, items_more, pairs_end, pairs-more, divided-in, operated-in}
use Rattle.parser.proofs.PredTrees.{left_of, right_of, truth-in, denied-in, parenthesised-in, quantified-in, compared-in, belongs-in, within_in, related-in, connected-in}

-- no operator of its level or a higher one stands behind a term, and no such connective behind a predicate
term-rest-stops : {s ν : List ℕ} {min i j : ℕ} {n : List ℕ} → Derives s ν (a_term_rest min) i j n → NoOperator s min j
term-rest-stops (term_stops p) = p
term-rest-stops (divided c o l e r) = term-rest-stops r
term-rest-stops (operated c p q l d r) = term-rest-stops r

term-stops : {s ν : List ℕ} {min i j : ℕ} {n : List ℕ} → Derives s ν (a_term_from min) i j n → NoOperator s min j
term-stops (term_from d r) = term-rest-stops r

pred-rest-stops : {s ν : List ℕ} {min i j : ℕ} {n : List ℕ} → Derives s ν (a_pred_rest min) i j n → NoConnective s min j
pred-rest-stops (pred_stops p) = p
pred-rest-stops (implied c l d r) = pred-rest-stops r
pred-rest-stops (connected c p q l d r) = pred-rest-stops r

pred-stops : {s ν : List ℕ} {min i j : ℕ} {n : List ℕ} → Derives s ν (a_pred_from min) i j n → NoConnective s min j
pred-stops (pred_from d r) = pred-rest-stops r

level-of : (o : ℕ) → o ≤ 2 → level_of o ≡ o
level-of zero l = refl
level-of (suc zero) l = refl
level-of (suc (suc zero)) l = refl
level-of (suc (suc (suc o))) l = absurd (omega arith)

-- The least level of the left side of a connective of the level c. It is not above l where c is not, unless l is the level of =>, whose left side has the level 3.
left-small : (c : ℕ) → c ≤ 4 → left_of c ≤ 4
left-small zero l = omega arith
left-small (suc zero) l = omega arith
left-small (suc (suc zero)) l = omega arith
left-small (suc (suc (suc c))) l = let e = ne_eqb (suc (suc (suc c))) 2 (λ x. omega arith) in rw e (omega arith)

left_behind : (c l : ℕ) → c ≤ l → (l ≡ 2 → ⊥) → left_of c ≤ l
left_behind zero l a n = omega arith
left_behind (suc zero) l a n = omega arith
left_behind (suc (suc zero)) l a n = omega arith
left_behind (suc (suc (suc c))) l a n = let e = ne_eqb (suc (suc (suc c))) 2 (λ x. omega arith) in rw e a

-- behind a right side of => stands no other =>
left-lowest : (c : ℕ) → c < 2 → left_of c ≤ 2
left-lowest zero l = omega arith
left-lowest (suc zero) l = omega arith
left-lowest (suc (suc c)) l = absurd (omega arith)

right-other : (l : ℕ) → (l ≡ 2 → ⊥) → right_of l ≤ l + 1
right-other l n = rw (ne_eqb l 2 n) (omega arith)

abbrev TermFollows : {w : List Symbol} {ρ : Numbering} {min h i : ℕ} {m : List ℕ} → TermIn w ρ min h i m → Type 0
TermFollows {w} {i} a = (κ : Kind) → code_of κ ≡ get_or (codes w) i 0 → level_of (lookup operators 0 κ) ≤ term_level a.tree

abbrev PredFollows : {w : List Symbol} {ρ : Numbering} {min h i : ℕ} {m : List ℕ} → PredIn w ρ min h i m → Type 0
PredFollows {w} {i} a = (κ : Kind) → code_of κ ≡ get_or (codes w) i 0 → left_of (lookup connectives 0 κ) ≤ pred_level a.tree

-- behind a term, or predicate, that may stand left of what follows it: a greater one
abbrev TermRest : (w : List Symbol) (ρ : Numbering) → (min i j : ℕ) → List ℕ → Type 0
TermRest w ρ min i j n = (h : ℕ) (m : List ℕ) (a : TermIn w ρ min h i m) → TermFollows a → TermIn w ρ min h j (m ++ n)

abbrev PredRest : (w : List Symbol) (ρ : Numbering) → (min i j : ℕ) → List ℕ → Type 0
PredRest w ρ min i j n = (h : ℕ) (m : List ℕ) (a : PredIn w ρ min h i m) → PredFollows a → PredIn w ρ min h j (m ++ n)

-- what is shown of a part: of items, pairs and what stands behind a term, for every term before; of parts that are no term and no predicate, nothing
abbrev TreeOf : (w : List Symbol) (ρ : Numbering) → Part → (i j : ℕ) → List ℕ → Type 0
TreeOf w ρ an_operand i j n = TermIn w ρ 3 i j n
TreeOf w ρ some_items i j n = (h : ℕ) (m : List ℕ) → TermIn w ρ 1 h i m → ItemsIn w ρ h j (m ++ n)
TreeOf w ρ some_pairs i j n = (h : ℕ) (m : List ℕ) → TermIn w ρ 1 h i m → PairsIn w ρ h j (m ++ n)
TreeOf w ρ a_unary i j n = PredIn w ρ 5 i j n
TreeOf w ρ an_atom i j n = (h : ℕ) (m : List ℕ) → TermIn w ρ 1 h i m → PredIn w ρ 5 h j (m ++ n)
TreeOf w ρ some_related i j n =
    (g h : ℕ) (l m : List ℕ) → TermIn w ρ 1 g h l → get_or (codes w) h 0 ≡ 32 → TermIn w ρ 1 (h + 1) i m → PredIn w ρ 5 g j (l ++ (m ++ n))
TreeOf w ρ (a_term_from min) i j n = min ≤ 3 → TermIn w ρ min i j n
TreeOf w ρ (a_term_rest min) i j n = TermRest w ρ min i j n
TreeOf w ρ (a_pred_from min) i j n = min ≤ 5 → PredIn w ρ min i j n
TreeOf w ρ (a_pred_rest min) i j n = PredRest w ρ min i j n
TreeOf w ρ a_type i j n = Unit {0}
TreeOf w ρ a_declaration i j n = Unit {0}
TreeOf w ρ some_elements i j n = Unit {0}
TreeOf w ρ some_givens i j n = Unit {0}
TreeOf w ρ some_declarations i j n = Unit {0}
TreeOf w ρ some_parameters i j n = Unit {0}
TreeOf w ρ some_operations i j n = Unit {0}
TreeOf w ρ a_dossier i j n = Unit {0}
TreeOf w ρ (some_entries word shape) i j n = Unit {0}
TreeOf w ρ (a_condition word) i j n = Unit {0}
TreeOf w ρ (a_state word) i j n = Unit {0}
TreeOf w ρ (a_where word) i j n = Unit {0}

module _ {w : List Symbol} {ρ : Numbering} (t : Text w ρ) where
  term-nodes : {min i j : ℕ} {m n : List ℕ} → m ≡ n → TermIn w ρ min i j m → TermIn w ρ min i j n
  term-nodes {min} {i} {j} e a = subst (λ (x : List ℕ). TermIn w ρ min i j x) e a

  pred-nodes : {min i j : ℕ} {m n : List ℕ} → m ≡ n → PredIn w ρ min i j m → PredIn w ρ min i j n
  pred-nodes {min} {i} {j} e a = subst (λ (x : List ℕ). PredIn w ρ min i j x) e a

  abbrev lower_term : {l min i j : ℕ} {n : List ℕ} → min ≤ l → TermIn w ρ l i j n → TermIn w ρ min i j n
  lower_term l a =
      record {
        tree = a.tree;
        grouped = a.grouped;
        level = let x = a.level in omega arith;
        ahead = a.ahead;
        inside = a.inside;
        symbols = a.symbols;
        nodes = a.nodes;
      }

  abbrev lower_pred : {l min i j : ℕ} {n : List ℕ} → min ≤ l → PredIn w ρ l i j n → PredIn w ρ min i j n
  lower_pred l a =
      record {
        tree = a.tree;
        grouped = a.grouped;
        level = let x = a.level in omega arith;
        ahead = a.ahead;
        inside = a.inside;
        symbols = a.symbols;
        nodes = a.nodes;
      }

  term_of : {min i j k : ℕ} {m n : List ℕ} → min ≤ 3 → TermIn w ρ 3 i j m → TermRest w ρ min j k n → TermIn w ρ min i k (m ++ n)
  term_of {i} {m} l a r = r i m (lower_term l a) (λ κ q. let x = level-two (lookup operators 0 κ) in let y = a.level in omega arith)

  rest-divided : {min o i j k : ℕ} {n : List ℕ} → Classes operators (get_or (codes w) i 0) o → 3 ≤ o → min ≤ 2 → EndAt (codes w) (i + 1) j → TermRest w ρ min j k n
      → TermRest w ρ min i k (node 4 i (magnitude_code (codes w) (values ρ w) (i + 1)) (division_code (codes w) i) ++ n)
  rest-divided {o} {i} {n} c g l e r h m a f =
      let d = division-at t c g in
      let y = f _ (sym d.code) in
      let z = ap level_of (c.class _ (sym d.code)) ∙ level-high o (omega arith) in
      let v = divided-in t a (omega arith) l c g e in
      term-nodes (append_assoc m (node 4 i (magnitude_code (codes w) (values ρ w) (i + 1)) (division_code (codes w) i)) n)
      (r h _ v.0 (λ κ q. let x = level-two (lookup operators 0 κ) in let y = v.1 in omega arith))

  rest-operated : {min o i j k : ℕ} {m n : List ℕ} → Classes operators (get_or (codes w) i 0) o → 1 ≤ o → o ≤ 2 → min ≤ o → TermIn w ρ (o + 1) (i + 1) j m → NoOperator (codes w) (o + 1) j
      → TermRest w ρ min j k n → TermRest w ρ min i k ((m ++ node 5 i (get_or (codes w) i 0) 0) ++ n)
  rest-operated {o} {i} {m = m'} {n} c p q l b s r h m a f =
      let op = operator-at t c p q in
      let y = f _ (sym op.code) in
      let z = ap level_of (c.class _ (sym op.code)) ∙ level-of o q in
      let v = operated-in t a (omega arith) l c p q b in
      term-nodes (append_assoc m (m' ++ node 5 i (get_or (codes w) i 0) 0) n) (r h _ v.0 (λ κ e. let x = s κ e in let y = v.1 in omega arith))

  term-ends : {min i : ℕ} → TermRest w ρ min i i []
  term-ends h m a f = term-nodes (sym (append-nil m)) a

  pred-ends : {min i : ℕ} → PredRest w ρ min i i []
  pred-ends h m a f = pred-nodes (sym (append-nil m)) a

  few-connectives : (κ : Kind) → lookup connectives 0 κ ≤ 4
  few-connectives κ = by-table (λ κ v. v ≤ 4) connectives 0 κ (omega arith & omega arith & omega arith & omega arith & tt) (omega arith)

  pred_of : {min i j k : ℕ} {m n : List ℕ} → min ≤ 5 → PredIn w ρ 5 i j m → PredRest w ρ min j k n → PredIn w ρ min i k (m ++ n)
  pred_of {i} {m} l a r =
      r i m (lower_pred l a) (λ κ q. let x = left-small (lookup connectives 0 κ) (few-connectives κ) in let y = a.level in omega arith)

  level-few : (i : ℕ) {l : ℕ} → Classes connectives (get_or (codes w) i 0) l → 1 ≤ l → l + 1 ≤ 5
  level-few i {l} c p =
      let o = connective-at t c p in
      let x = c.class _ (sym o.code) in
      let y = few-connectives (joined_kind o.sort) in
      omega arith

  -- a connective of the level l
  rest-connected : {min r l i j k : ℕ} {m n : List ℕ} → Classes connectives (get_or (codes w) i 0) l → 1 ≤ l → min ≤ l → right_of l ≤ r → PredIn w ρ r (i + 1) j m
      → ((κ : Kind) → code_of κ ≡ get_or (codes w) j 0 → left_of (lookup connectives 0 κ) ≤ l) → PredRest w ρ min j k n
      → PredRest w ρ min i k ((m ++ node 3 i (get_or (codes w) i 0) 0) ++ n)
  rest-connected {l} {i} {m = m'} {n} c p q g b s r h m a f =
      let o = connective-at t c p in
      let y = f _ (sym o.code) in
      let z = ap left_of (c.class _ (sym o.code)) in
      let u = b.level in
      let v = connected-in t a (omega arith) q c p b (omega arith) in
      pred-nodes (append_assoc m (m' ++ node 3 i (get_or (codes w) i 0) 0) n) (r h _ v.0 (λ κ e. let x = s κ e in let y = v.1 in omega arith))

  pairs-rest : {h i j l : ℕ} {m₀ m : List ℕ} (m' n : List ℕ) → TermIn w ρ 1 h i m₀ → get_or (codes w) i 0 ≡ 32 → TermIn w ρ 1 (i + 1) j m → get_or (codes w) j 0 ≡ 12 → PairsIn w ρ (j + 1) l (m' ++ n)
      → PairsIn w ρ h l (m₀ ++ (((m ++ m') ++ n) ++ node 2 0 0 0))
  pairs-rest {h} {l} {m₀} {m} m' n a p b q c =
      subst (λ (x : List ℕ). PairsIn w ρ h l (m₀ ++ x)) (simp append_assoc) (pairs-more t a p b q c)

  rest-implied : {min i j k : ℕ} {m n : List ℕ} → Classes connectives (get_or (codes w) i 0) 2 → min ≤ 2 → PredIn w ρ 2 (i + 1) j m → NoConnective (codes w) 2 j → PredRest w ρ min j k n
      → PredRest w ρ min i k ((m ++ node 3 i (get_or (codes w) i 0) 0) ++ n)
  rest-implied c l b s r = rest-connected c (omega arith) l (omega arith) b (λ κ e. left-lowest (lookup connectives 0 κ) (s κ e)) r

  rest-other : {min l i j k : ℕ} {m n : List ℕ} → Classes connectives (get_or (codes w) i 0) l → 1 ≤ l → (l ≡ 2 → ⊥) → min ≤ l → PredIn w ρ (l + 1) (i + 1) j m
      → NoConnective (codes w) (l + 1) j → PredRest w ρ min j k n → PredRest w ρ min i k ((m ++ node 3 i (get_or (codes w) i 0) 0) ++ n)
  rest-other {l} c p q g b s r =
      rest-connected c p g (right-other l q) b (λ κ e. let x = s κ e in left_behind (lookup connectives 0 κ) l (omega arith) q) r

  tree : {x : Part} {i j : ℕ} {n : List ℕ} → Derives (codes w) (values ρ w) x i j n → TreeOf w ρ x i j n
  tree (leaf s) = leaf-in t s
  tree (prefixed s d) = prefixed-in t s (tree d)
  tree (bracketed p d q) = bracketed-in t p (tree d (omega arith)) q
  tree (listed p d e) = listed_in t p (tree e _ _ (tree d (omega arith)))
  tree (paired p d e) = paired-in t p (tree e _ _ (tree d (omega arith)))
  tree (such o x c g b d q) = such_in t o x c g b (tree d (omega arith)) q
  tree (empty_one p g) = empty-one t p g
  tree (empty_two p g h) = empty-two t p g h
  tree (items_end q) = λ h m a. items-end t a q
  tree (more_items q d e) = λ h m a. items_more t a q (tree e _ _ (tree d (omega arith)))
  tree (end_of_pairs p d q) = λ h m a. pairs_end t a p (tree d (omega arith)) q
  tree (pairs_more {m' = m'} {n = n} p d q e r) = λ h l a. pairs-rest m' n a p (tree d (omega arith)) q (tree r _ _ (tree e (omega arith)))
  tree (term_from d r) = λ l. term_of l (tree d) (tree r)
  tree (term_stops p) = term-ends
  tree (divided c o l e r) = rest-divided c o l e (tree r)
  tree (operated c p q l d r) = rest-operated c p q l (tree d (omega arith)) (term-stops d) (tree r)
  tree (pred_from d r) = λ l. pred_of l (tree d) (tree r)
  tree (pred_stops p) = pred-ends
  tree (implied c l d r) = rest-implied c l (tree d (omega arith)) (pred-stops d) (tree r)
  tree (connected {i = i} c p q l d r) = rest-other c p q l (tree d (level-few i c p)) (pred-stops d) (tree r)
  tree (truth_value c) = truth-in t c
  tree (denied c d) = denied-in t c (tree d)
  tree (atomic d e) = tree e _ _ (tree d (omega arith))
  tree (parenthesised p d q) = parenthesised-in t p (tree d (omega arith)) q
  tree (quantified o lo hi x c g s d q) = quantified-in t o lo hi x c g s (tree d (omega arith)) q
  tree (compared c d) = λ h m a. compared-in t a c (tree d (omega arith))
  tree (belongs c d) = λ h m a. belongs-in t a c (tree d (omega arith))
  tree (within c r) = λ h m a. within_in t a c r
  tree (mapped p d e) = λ h m a. tree e _ _ _ _ a p (tree d (omega arith))
  tree (related c d) = λ g h l m a p b. related-in t a p b c (tree d (omega arith))
  tree (over_given x) = tt
  tree (over_range x) = tt
  tree (over_sets p x) = tt
  tree (over_pairs x lo hi y) = tt
  tree (declares x p d q) = tt
  tree no_entries = tt
  tree (an_entry p q d) = tt
  tree no_elements = tt
  tree (an_element p d) = tt
  tree no_givens = tt
  tree (a_given p q r d s e) = tt
  tree no_declarations = tt
  tree (declares_more p d e) = tt
  tree no_parameters = tt
  tree (takes_more p q d e) = tt
  tree (condition d q) = tt
  tree (state p q d r e) = tt
  tree (where_of p q d) = tt
  tree no_operations = tt
  tree (an_operation p q d r e f g) = tt
  tree (dossier a b c d e f g h i j k l m n o p) = tt

  -- above the level 5 it would be false: a predicate with `not` is of the level 5
  pub pred-tree : {min i j : ℕ} {n : List ℕ} → Derives (codes w) (values ρ w) (a_pred_from min) i j n → min ≤ 5 → PredIn w ρ min i j n
  pred-tree d l = tree d l
