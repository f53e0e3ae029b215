-- What stands behind a term or a predicate, what one begins with, and that symbols taken as an operand are taken under each item that a term may begin under.
use mathlib.Core.Path.{◌≡◌, refl, ap, sym, subst}
use mathlib.Core.Bool.{false, not}
use mathlib.Core.List.{List, [], ◌∷◌}
use Prim.Native.Nat.{ℕ, suc}
use Rattle.lexical.specs.Kinds as kind
use Rattle.lexical.specs.Kinds.{Kind, is, lookup}
use Rattle.lexical.specs.Symbols.{Name, Ending, no_ending, prime, query, shriek, Symbol, kind_of, kind_of_name}
use Rattle.form.specs.Tree as tree
use Rattle.form.specs.Tree.{Letters, Prefix, negate, size, dom, ran, Operator, Division, Comparison, Membership, Connective}
use Rattle.form.specs.Tree.{Term, number, name, group, prefix, binary, divided, listed, pairs, such, empty_set, empty_pairs, Items, only, also, Pairs, only_pair, also_pair}
use Rattle.form.specs.Tree.{Pred, truth, falsity, negation, paren, quantified, connected, compared, member, within, related}
use Rattle.form.specs.Written.{Mark, Written, bare, opening, used, digits, prefix_kind, operator_kind, division_kind, comparison_kind, membership_kind, connective}
use Rattle.form.specs.Written.{right_depth, write_end, write_range, write_term, write_items, write_pairs, write_pred}
use Rattle.form.specs.Machine.{Item, exact, an_empty_rest, a_term, an_operand, a_term_rest, a_rel, a_right, a_neg, a_num_rest, a_brace, a_named, a_first, a_unary, a_paren, a_pred_rest}
use Rattle.form.specs.Machine.{Start, leaf, prefixed, bracket, brace, emptied, nothing, starts, from_start, does, Next, go, step}
use Rattle.form.specs.Computed.{compute_form}
use Rattle.form.proofs.Takes.{Fits, equal, used_name, symbols_in, AgreesOn, Agrees}

-- where the machine's mark is the tree's
pub equally : {m : Mark} {k s : Kind} {w : List Symbol} {A : Type 0} → A → Fits m m k s w × A
equally h = (equal, h)

-- symbols that are taken where γ' is expected are taken where γ is, if the first is taken alike
along : (x : Written) (w : List Written) (γ γ' : List Item) → step γ (kind_of x.symbol) ≡ step γ' (kind_of x.symbol) → (k : Kind)
    → Agrees k (x ∷ w) γ' → Agrees k (x ∷ w) γ
along x w γ γ' e k h = subst (λ n. AgreesOn x k (symbols_in w) n (λ j ρ. Agrees j w ρ)) (sym e) h

-- a symbol that the machine takes with the tree's mark
pub taken_as : (x : Written) (w : List Written) (γ ρ : List Item) → step γ (kind_of x.symbol) ≡ go x.mark ρ → ((k : Kind) → Agrees k w ρ) → (k : Kind)
    → Agrees k (x ∷ w) γ
taken_as x w γ ρ e h k = subst (λ n. AgreesOn x k (symbols_in w) n (λ j δ. Agrees j w δ)) (sym e) (equally (h (kind_of x.symbol)))

-- two expectations, at each depth, number of bound names and rest, take a symbol of the kind s alike
abbrev pub Alike : Kind → (f g : (d b : ℕ) → List Item → List Item) → Type 0
Alike s f g = ◌≡◌ {A = (d b : ℕ) → List Item → Next} (λ d b γ. step (f d b γ) s) (λ d b γ. step (g d b γ) s)

-- A symbol of the kind s may stand behind a term: it is no : that binds a name after {, so that a name there goes on as any term does; no .. of a range; and
-- no second name of `empty`.
abbrev pub BehindTerm : Kind → Type 0
BehindTerm s =
    (is s kind.colon ≡ false) × Alike s (λ d b γ. a_named d b ∷ γ) (λ d b γ. a_term_rest d b ∷ a_first d b ∷ γ)
    × Alike s (λ d b γ. a_num_rest d b ∷ γ) (λ d b γ. a_term_rest d b ∷ γ) × Alike s (λ d b γ. an_empty_rest ∷ γ) (λ d b γ. γ)

-- one may stand behind a predicate: it is no operator between terms either
abbrev pub BehindPred : Kind → Type 0
BehindPred s = BehindTerm s × Alike s (λ d b γ. a_term_rest d b ∷ γ) (λ d b γ. γ)

-- symbols of which the first may stand behind a term; behind a predicate
abbrev pub TermEnds : List Written → Type 0
TermEnds [] = ⊥
TermEnds (x ∷ w) = BehindTerm (kind_of x.symbol)

abbrev pub PredEnds : List Written → Type 0
PredEnds [] = ⊥
PredEnds (x ∷ w) = BehindPred (kind_of x.symbol)

-- behind a term may stand an operator, a comparison or membership, |->, a comma, ] and what may stand behind a predicate
pub behind_operator : (o : Operator) → BehindTerm (operator_kind o)
unfolding compute_form
behind_operator tree.plus = (refl, refl, refl, refl)
behind_operator tree.minus = (refl, refl, refl, refl)
behind_operator tree.union = (refl, refl, refl, refl)
behind_operator tree.without = (refl, refl, refl, refl)
behind_operator tree.times = (refl, refl, refl, refl)
behind_operator tree.inter = (refl, refl, refl, refl)

pub behind_division : (o : Division) → BehindTerm (division_kind o)
unfolding compute_form
behind_division tree.quotient = (refl, refl, refl, refl)
behind_division tree.remainder = (refl, refl, refl, refl)

pub behind_comparison : (o : Comparison) → BehindTerm (comparison_kind o)
unfolding compute_form
behind_comparison tree.equals = (refl, refl, refl, refl)
behind_comparison tree.differs = (refl, refl, refl, refl)
behind_comparison tree.less = (refl, refl, refl, refl)
behind_comparison tree.at_most = (refl, refl, refl, refl)

pub behind_membership : (o : Membership) → BehindTerm (membership_kind o)
unfolding compute_form
behind_membership tree.is_in = (refl, refl, refl, refl)
behind_membership tree.not_in = (refl, refl, refl, refl)

pub behind_maplet : BehindTerm kind.maplet
unfolding compute_form
behind_maplet = (refl, refl, refl, refl)

pub behind_comma : BehindTerm kind.comma
unfolding compute_form
behind_comma = (refl, refl, refl, refl)

pub behind_bracket : BehindTerm kind.close_bracket
unfolding compute_form
behind_bracket = (refl, refl, refl, refl)

-- behind a predicate may stand } and ), `end` and `concrete`, and a connective
pub behind_brace : BehindPred kind.close_brace
unfolding compute_form
behind_brace = ((refl, refl, refl, refl), refl)

pub behind_paren : BehindPred kind.close_paren
unfolding compute_form
behind_paren = ((refl, refl, refl, refl), refl)

pub behind_end : BehindPred kind.END
unfolding compute_form
behind_end = ((refl, refl, refl, refl), refl)

pub behind_concrete : BehindPred kind.CONCRETE
unfolding compute_form
behind_concrete = ((refl, refl, refl, refl), refl)

pub behind_connective : (o : Connective) (d : ℕ) → BehindPred (kind_of (connective o d).symbol)
unfolding compute_form
behind_connective tree.and d = ((refl, refl, refl, refl), refl)
behind_connective tree.or d = ((refl, refl, refl, refl), refl)
behind_connective tree.implies d = ((refl, refl, refl, refl), refl)
behind_connective tree.iff d = ((refl, refl, refl, refl), refl)

-- a term or predicate has ended: what might have gone on with it is passed over, the second name of `empty`, the .. of a range, an operator
pub no_second : (w : List Written) → TermEnds w → (γ : List Item) (k : Kind) → Agrees k w γ → Agrees k w (an_empty_rest ∷ γ)
no_second [] f γ k h = absurd f
no_second (x ∷ w) f γ k h = along x w (an_empty_rest ∷ γ) γ (ap (λ n. n 0 0 γ) f.3) k h

no_range : (w : List Written) → TermEnds w → (d b : ℕ) (γ : List Item) (k : Kind) → Agrees k w (a_term_rest d b ∷ γ) → Agrees k w (a_num_rest d b ∷ γ)
no_range [] f d b γ k h = absurd f
no_range (x ∷ w) f d b γ k h = along x w (a_num_rest d b ∷ γ) (a_term_rest d b ∷ γ) (ap (λ n. n d b γ) f.2) k h

pub no_operator : (w : List Written) → PredEnds w → (d b : ℕ) (γ : List Item) (k : Kind) → Agrees k w γ → Agrees k w (a_term_rest d b ∷ γ)
no_operator [] f d b γ k h = absurd f
no_operator (x ∷ w) f d b γ k h = along x w (a_term_rest d b ∷ γ) γ (ap (λ n. n d b γ) f.1) k h

-- what may stand behind a predicate may stand behind its last term
pub term_ends : (w : List Written) → PredEnds w → TermEnds w
term_ends [] f = absurd f
term_ends (x ∷ w) f = f.0

-- what a term begins with; a number or name with what stands behind it, a prefix with what its operand begins with
pub data Starts : List Written → Type 0 where
  at_number : {n : ℕ} {w : List Written} → TermEnds w → Starts (digits n ∷ w)
  at_name : {x : Name} {w : List Written} → TermEnds w → Starts (used x ∷ w)
  at_prefix : (o : Prefix) {n : ℕ} {w : List Written} → Starts w → Starts (opening (prefix_kind o) n ∷ w)
  at_bracket : {n : ℕ} {w : List Written} → Starts (opening kind.open_bracket n ∷ w)
  at_brace : {n : ℕ} {w : List Written} → Starts (opening kind.open_brace n ∷ w)
  at_empty : {w : List Written} → Starts (bare kind.EMPTY ∷ w)

-- a term's first operand and then its rest
pub as_term : (w : List Written) (d b : ℕ) (γ : List Item) (k : Kind) → Agrees k w (an_operand d b ∷ a_term_rest d b ∷ γ) → Agrees k w (a_term d b ∷ γ)
unfolding compute_form
as_term [] d b γ k h = h
as_term (x ∷ w) d b γ k h =
    along x w (a_term d b ∷ γ) (an_operand d b ∷ a_term_rest d b ∷ γ) (either (step γ s) (step (a_term_rest d b ∷ γ) s) (lookup starts nothing s)) k h
  where
    s : Kind
    s = kind_of x.symbol

    either : (m n : Next) (a : Start) → does (from_start d b (a_term_rest d b ∷ []) a) γ m ≡ does (from_start d b [] a) (a_term_rest d b ∷ γ) n
    either m n leaf = refl
    either m n prefixed = refl
    either m n bracket = refl
    either m n brace = refl
    either m n emptied = refl
    either m n nothing = refl

-- two expectations take each symbol that a term may begin with alike
pub record AlikeAtStarts (γ γ' : List Item) : Type 0 where
  pub number : step γ kind.number ≡ step γ' kind.number
  pub name : (e : Ending) → step γ (kind_of_name e) ≡ step γ' (kind_of_name e)
  pub prefix : (o : Prefix) → step γ (prefix_kind o) ≡ step γ' (prefix_kind o)
  pub bracket : step γ kind.open_bracket ≡ step γ' kind.open_bracket
  pub brace : step γ kind.open_brace ≡ step γ' kind.open_brace
  pub emptied : step γ kind.EMPTY ≡ step γ' kind.EMPTY

-- then a term that is taken where γ' is expected is taken where γ is
pub alike_at_starts : (γ γ' : List Item) → AlikeAtStarts γ γ' → (w : List Written) → Starts w → (k : Kind) → Agrees k w γ' → Agrees k w γ
alike_at_starts γ γ' a w (at_number {n} {w = v} f) k h = along (digits n) v γ γ' a.number k h
alike_at_starts γ γ' a w (at_name {x} {w = v} f) k h = along (used x) v γ γ' (a.name x.ending) k h
alike_at_starts γ γ' a w (at_prefix o {n} {w = v} f) k h = along (opening (prefix_kind o) n) v γ γ' (a.prefix o) k h
alike_at_starts γ γ' a w (at_bracket {n} {w = v}) k h = along (opening kind.open_bracket n) v γ γ' a.bracket k h
alike_at_starts γ γ' a w (at_brace {n} {w = v}) k h = along (opening kind.open_brace n) v γ γ' a.brace k h
alike_at_starts γ γ' a w (at_empty {w = v}) k h = along (bare kind.EMPTY) v γ γ' a.emptied k h

-- a predicate may begin with a term
pub as_unary : (d b : ℕ) (γ : List Item) → AlikeAtStarts (a_unary d b ∷ γ) (an_operand d b ∷ a_term_rest d b ∷ a_rel d b ∷ γ)
unfolding compute_form
as_unary d b γ =
    record {
      number = refl;
      name = elim [ no_ending ↦ refl | prime ↦ refl | query ↦ refl | shriek ↦ refl ];
      prefix = elim [ negate ↦ refl | size ↦ refl | dom ↦ refl | ran ↦ refl ];
      bracket = refl;
      brace = refl;
      emptied = refl;
    }

-- a predicate in ( ) may begin with a term
as_paren : (d b : ℕ) (γ : List Item) → AlikeAtStarts (a_paren d b ∷ γ) (a_unary d b ∷ a_pred_rest d d b ∷ exact kind.close_paren ∷ γ)
unfolding compute_form
as_paren d b γ =
    record {
      number = refl;
      name = elim [ no_ending ↦ refl | prime ↦ refl | query ↦ refl | shriek ↦ refl ];
      prefix = elim [ negate ↦ refl | size ↦ refl | dom ↦ refl | ran ↦ refl ];
      bracket = refl;
      brace = refl;
      emptied = refl;
    }

-- the first term in { }: a plain name is marked as bound, and is used, since no : follows it
brace_name : (x : Letters) (e : Ending) (w : List Written) → TermEnds w → (d b : ℕ) (γ : List Item)
    → Agrees kind.open_brace (used (record { letters = x; ending = e }) ∷ w) (an_operand d b ∷ a_term_rest d b ∷ a_first d b ∷ γ)
    → Agrees kind.open_brace (used (record { letters = x; ending = e }) ∷ w) (a_brace d b ∷ γ)
unfolding compute_form
brace_name x e [] f d b γ h = absurd f
brace_name x no_ending (y ∷ w) f d b γ h =
    (used_name (ap not f.0), along y w (a_named d b ∷ γ) (a_term_rest d b ∷ a_first d b ∷ γ) (ap (λ n. n d b γ) f.1) kind.plain h.1)
brace_name x prime (y ∷ w) f d b γ h = h
brace_name x query (y ∷ w) f d b γ h = h
brace_name x shriek (y ∷ w) f d b γ h = h

-- and any other term is taken in { } as an operand is
pub as_brace : (w : List Written) → Starts w → (d b : ℕ) (γ : List Item) → Agrees kind.open_brace w (an_operand d b ∷ a_term_rest d b ∷ a_first d b ∷ γ)
    → Agrees kind.open_brace w (a_brace d b ∷ γ)
unfolding compute_form
as_brace w (at_number f) d b γ h = h
as_brace w (at_name {x} {w = v} f) d b γ h = brace_name x.letters x.ending v f d b γ h
as_brace w (at_prefix negate f) d b γ h = h
as_brace w (at_prefix size f) d b γ h = h
as_brace w (at_prefix dom f) d b γ h = h
as_brace w (at_prefix ran f) d b γ h = h
as_brace w at_bracket d b γ h = h
as_brace w at_brace d b γ h = h
as_brace w at_empty d b γ h = h

-- the operand of a - after in or notin: a number might be a range's lower end, but no .. follows it
as_neg : (w : List Written) → Starts w → (d b : ℕ) (γ : List Item) (k : Kind) → Agrees k w (an_operand (suc d) b ∷ a_term_rest d b ∷ γ) → Agrees k w (a_neg d b ∷ γ)
unfolding compute_form
as_neg w (at_number {w = v} f) d b γ k h = (h.0, no_range v f d b γ kind.number h.1)
as_neg w (at_name {x} {w = v} f) d b γ k h = along (used x) v (a_neg d b ∷ γ) (an_operand (suc d) b ∷ a_term_rest d b ∷ γ) (alike x.ending) k h
  where
    alike : (e : Ending) → step (a_neg d b ∷ γ) (kind_of_name e) ≡ step (an_operand (suc d) b ∷ a_term_rest d b ∷ γ) (kind_of_name e)
    alike = elim [ no_ending ↦ refl | prime ↦ refl | query ↦ refl | shriek ↦ refl ]
as_neg w (at_prefix negate f) d b γ k h = h
as_neg w (at_prefix size f) d b γ k h = h
as_neg w (at_prefix dom f) d b γ k h = h
as_neg w (at_prefix ran f) d b γ k h = h
as_neg w at_bracket d b γ k h = h
as_neg w at_brace d b γ k h = h
as_neg w at_empty d b γ k h = h

-- the term after in or notin: so might a number, or a - and a number
pub as_right : (w : List Written) → Starts w → (d b : ℕ) (γ : List Item) (k : Kind) → Agrees k w (an_operand d b ∷ a_term_rest d b ∷ γ) → Agrees k w (a_right d b ∷ γ)
unfolding compute_form
as_right w (at_number {w = v} f) d b γ k h = (h.0, no_range v f d b γ kind.number h.1)
as_right w (at_name {x} {w = v} f) d b γ k h = along (used x) v (a_right d b ∷ γ) (an_operand d b ∷ a_term_rest d b ∷ γ) (alike x.ending) k h
  where
    alike : (e : Ending) → step (a_right d b ∷ γ) (kind_of_name e) ≡ step (an_operand d b ∷ a_term_rest d b ∷ γ) (kind_of_name e)
    alike = elim [ no_ending ↦ refl | prime ↦ refl | query ↦ refl | shriek ↦ refl ]
as_right w (at_prefix negate {w = v} f) d b γ k h = (h.0, as_neg v f d b γ kind.minus h.1)
as_right w (at_prefix size f) d b γ k h = h
as_right w (at_prefix dom f) d b γ k h = h
as_right w (at_prefix ran f) d b γ k h = h
as_right w at_bracket d b γ k h = h
as_right w at_brace d b γ k h = h
as_right w at_empty d b γ k h = h

-- a term begins as Starts says, and so do the items and the pairs of braces
pub starts_term : (t : Term) (d b : ℕ) (w : List Written) → TermEnds w → Starts (write_term t d b w)
unfolding write_term
starts_term (number n) d b w f = at_number f
starts_term (name x) d b w f = at_name f
starts_term (group t) d b w f = at_bracket
starts_term (prefix o t) d b w f = at_prefix o (starts_term t (suc d) b w f)
starts_term (binary o t u) d b w f = starts_term t d b (bare (operator_kind o) ∷ write_term u d b w) (behind_operator o)
starts_term (divided o t e) d b w f = starts_term t d b (bare (division_kind o) ∷ write_end e w) (behind_division o)
starts_term (listed ts) d b w f = at_brace
starts_term (pairs ts) d b w f = at_brace
starts_term (such x g p) d b w f = at_brace
starts_term (empty_set g) d b w f = at_empty
starts_term (empty_pairs g h) d b w f = at_empty

pub starts_items : (ts : Items) (d b : ℕ) (w : List Written) → TermEnds w → Starts (write_items ts d b w)
unfolding write_items
starts_items (only t) d b w f = starts_term t d b w f
starts_items (also t ts) d b w f = starts_term t d b (bare kind.comma ∷ write_items ts d b w) behind_comma

pub starts_pairs : (ts : Pairs) (d b : ℕ) (w : List Written) → Starts (write_pairs ts d b w)
unfolding write_pairs
starts_pairs (only_pair t u) d b w = starts_term t d b (bare kind.maplet ∷ write_term u d b w) behind_maplet
starts_pairs (also_pair t u ts) d b w = starts_term t d b (bare kind.maplet ∷ write_term u d b (bare kind.comma ∷ write_pairs ts d b w)) behind_maplet

-- what a predicate begins with
pub data PredStarts : List Written → Type 0 where
  at_true : {w : List Written} → PredStarts (bare kind.TRUE ∷ w)
  at_false : {w : List Written} → PredStarts (bare kind.FALSE ∷ w)
  at_not : {n : ℕ} {w : List Written} → PredStarts (opening kind.NOT n ∷ w)
  at_paren : {n : ℕ} {w : List Written} → PredStarts (opening kind.open_paren n ∷ w)
  at_term : {w : List Written} → Starts w → PredStarts w

pub starts_pred : (p : Pred) (d b : ℕ) (w : List Written) → PredStarts (write_pred p d b w)
unfolding write_pred
starts_pred truth d b w = at_true
starts_pred falsity d b w = at_false
starts_pred (negation p) d b w = at_not
starts_pred (paren p) d b w = at_paren
starts_pred (quantified q x t p) d b w = at_paren
starts_pred (connected o p q) d b w = starts_pred p d b (connective o d ∷ write_pred q (right_depth o d) b w)
starts_pred (compared o t u) d b w = at_term (starts_term t d b (bare (comparison_kind o) ∷ write_term u d b w) (behind_comparison o))
starts_pred (member o t u) d b w = at_term (starts_term t d b (bare (membership_kind o) ∷ write_term u d b w) (behind_membership o))
starts_pred (within o t r) d b w = at_term (starts_term t d b (bare (membership_kind o) ∷ write_range r w) (behind_membership o))
starts_pred (related o t u v) d b w =
    at_term (starts_term t d b (bare kind.maplet ∷ write_term u d b (bare (membership_kind o) ∷ write_term v d b w)) behind_maplet)

-- a predicate that is taken is taken in ( )
pub in_paren : (w : List Written) → PredStarts w → (d b : ℕ) (γ : List Item) (k : Kind) → Agrees k w (a_unary d b ∷ a_pred_rest d d b ∷ exact kind.close_paren ∷ γ)
    → Agrees k w (a_paren d b ∷ γ)
unfolding compute_form
in_paren w at_true d b γ k h = h
in_paren w at_false d b γ k h = h
in_paren w at_not d b γ k h = h
in_paren w at_paren d b γ k h = h
in_paren w (at_term f) d b γ k h = alike_at_starts (a_paren d b ∷ γ) (a_unary d b ∷ a_pred_rest d d b ∷ exact kind.close_paren ∷ γ) (as_paren d b γ) w f k h
