-- The conjuncts of each predicate, each with the last variable of every group that it mentions: what a search that prunes by variables needs.
use Rattle.std.specs.Prelude.{Bool, true, false, ◌&&◌, cond, List, [], ◌∷◌, ◌++◌, ℕ, ◌+◌, ◌-◌, max, leb, ltb, length}
use Rattle.std.proofs.Math.Option.{Option, none, some}
use Rattle.lexical.specs.Lists.{find}
use Rattle.lexical.specs.Symbols.{Name}
use Rattle.form.specs.Tree.{Term, number, name, group, prefix, binary, divided, listed, pairs, such, empty_set, empty_pairs, Items, only, also, Pairs, only_pair, also_pair}
use Rattle.form.specs.Tree.{Pred, truth, falsity, negation, paren, quantified, connected, compared, member, within, related, Connective, and, or, implies, iff}
use Rattle.table_places.specs.StaticRulesCarriers.{same_name, plain}
use Rattle.table_places.specs.StaticRulesScope.{Scope, Context}
use Rattle.table_nodes.specs.TableByNumber.{next_slot}
use Rattle.table_places.specs.ResolvedTable.{Slots, pred_table}

-- the slots of the names that a tree mentions, in the order of the text; s is the slot of the next bound name
abbrev pub slot_list : Option (Name × ℕ) → List ℕ
slot_list none = []
slot_list (some w) = w.1 ∷ []

unfoldable mutual
  pub used_term : Term → Slots → (s : ℕ) → List ℕ
  used_term (number n) W s = []
  used_term (name x) W s = slot_list (find (λ (w : Name × ℕ). same_name w.0 x) W)
  used_term (group t) W s = used_term t W s
  used_term (prefix o t) W s = used_term t W s
  used_term (divided o t e) W s = used_term t W s
  used_term (binary o t u) W s = used_term t W s ++ used_term u W s
  used_term (such x g p) W s = used_pred p ((plain x, s) ∷ W) (next_slot s)
  used_term (listed ts) W s = used_items ts W s
  used_term (pairs ts) W s = used_pairs ts W s
  used_term (empty_set g) W s = []
  used_term (empty_pairs g h) W s = []

  pub used_items : Items → Slots → (s : ℕ) → List ℕ
  used_items (only t) W s = used_term t W s
  used_items (also t ts) W s = used_term t W s ++ used_items ts W s

  pub used_pairs : Pairs → Slots → (s : ℕ) → List ℕ
  used_pairs (only_pair t u) W s = used_term t W s ++ used_term u W s
  used_pairs (also_pair t u ts) W s = used_term t W s ++ (used_term u W s ++ used_pairs ts W s)

  pub used_pred : Pred → Slots → (s : ℕ) → List ℕ
  used_pred truth W s = []
  used_pred falsity W s = []
  used_pred (negation p) W s = used_pred p W s
  used_pred (paren p) W s = used_pred p W s
  used_pred (quantified q x t p) W s = used_pred p ((plain x, s) ∷ W) (next_slot s)
  used_pred (connected o p q) W s = used_pred p W s ++ used_pred q W s
  used_pred (compared o t u) W s = used_term t W s ++ used_term u W s
  used_pred (member o t u) W s = used_term t W s ++ used_term u W s
  used_pred (within o t r) W s = used_term t W s
  used_pred (related o t u v) W s = used_term t W s ++ (used_term u W s ++ used_term v W s)

-- the last one of the n slots from `base` on that is mentioned, counted from 1; 0 for none
unfoldable pub last_in : (base n : ℕ) → List ℕ → ℕ
last_in base n [] = 0
last_in base n (s ∷ ss) = max (cond (leb base s && ltb s (base + n)) (s - base + 1) 0) (last_in base n ss)

-- a conjunct: where its nodes begin and end in the table, and the last variable of each group: abstract, concrete, inputs, outputs, concrete primed, abstract primed
unfoldable pub conjunct_row : (from to : ℕ) → List ℕ → List ℕ
conjunct_row from to ss =
    from ∷ to ∷ last_in 0 8 ss ∷ last_in 8 8 ss ∷ last_in 16 3 ss ∷ last_in 19 3 ss ∷ last_in 22 8 ss ∷ last_in 30 8 ss ∷ []

abbrev pub is_and : Connective → Bool
is_and and = true
is_and or = false
is_and implies = false
is_and iff = false

abbrev whole_row : Pred → Scope → Slots → (q : ℕ) → List ℕ
whole_row p Γ W q = conjunct_row q (q + length (pred_table p Γ W 38 q)) (used_pred p W 38)

-- the conjuncts of a predicate whose table begins at q, in the order of the text: 8 numbers each
unfoldable pub conjunct_rows : Pred → Scope → Slots → (q : ℕ) → List ℕ
conjunct_rows truth Γ W q = whole_row truth Γ W q
conjunct_rows falsity Γ W q = whole_row falsity Γ W q
conjunct_rows (negation p) Γ W q = whole_row (negation p) Γ W q
conjunct_rows (paren p) Γ W q = conjunct_rows p Γ W q
conjunct_rows (quantified k x t p) Γ W q = whole_row (quantified k x t p) Γ W q
conjunct_rows (connected o p r) Γ W q =
    cond (is_and o) (conjunct_rows p Γ W q ++ conjunct_rows r Γ W (q + length (pred_table p Γ W 38 q))) (whole_row (connected o p r) Γ W q)
conjunct_rows (compared o t u) Γ W q = whole_row (compared o t u) Γ W q
conjunct_rows (member o t u) Γ W q = whole_row (member o t u) Γ W q
conjunct_rows (within o t r) Γ W q = whole_row (within o t r) Γ W q
conjunct_rows (related o t u v) Γ W q = whole_row (related o t u v) Γ W q

-- of all contexts, one behind the other; and how many numbers stand before each one's, with the end of the last
unfoldable pub context_rows : List Context → List Slots → List ℕ → List ℕ
context_rows [] Ws qs = []
context_rows (c ∷ cs) [] qs = []
context_rows (c ∷ cs) (W ∷ Ws) [] = []
context_rows (c ∷ cs) (W ∷ Ws) (q ∷ qs) = conjunct_rows c.predicate c.scope W q ++ context_rows cs Ws qs

unfoldable pub context_firsts : (n : ℕ) → List Context → List Slots → List ℕ → List ℕ
context_firsts n [] Ws qs = n ∷ []
context_firsts n (c ∷ cs) [] qs = n ∷ []
context_firsts n (c ∷ cs) (W ∷ Ws) [] = n ∷ []
context_firsts n (c ∷ cs) (W ∷ Ws) (q ∷ qs) = n ∷ context_firsts (n + length (conjunct_rows c.predicate c.scope W q)) cs Ws qs
