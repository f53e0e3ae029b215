-- The machine takes each symbol of a term or predicate that is written out and grouped, with marks that fit.
use mathlib.Core.Path.{◌≡◌, refl}
use mathlib.Core.Bool.{Bool, true, false}
use mathlib.Core.List.{List, ◌∷◌}
use Prim.Native.Nat.{ℕ, suc, ◌≤◌, ◌<◌}
use native.Mathlib.Omega.{arith}
use Rattle.lexical.specs.Kinds as kind
use Rattle.lexical.specs.Kinds.{Kind}
use Rattle.lexical.specs.Symbols.{Name, Ending, no_ending, prime, query, shriek, kind_of_name}
use Rattle.form.specs.Tree.{Range, Domain, given_set, range, Prefix, negate, size, dom, ran, Operator, plus, minus, union, without, times, inter, Division, quotient, remainder}
use Rattle.form.specs.Tree.{Connective, and, or, implies, iff, Quantifier, forall, exists, exists1, Comparison, equals, differs, less, at_most, Membership, is_in, not_in}
use Rattle.form.specs.Tree.{Term, number, name, group, prefix, binary, divided, listed, pairs, such, empty_set, empty_pairs, Items, only, also, Pairs, only_pair, also_pair}
use Rattle.form.specs.Tree.{Pred, truth, falsity, negation, paren, quantified, connected, compared, member, within, related}
use Rattle.form.specs.Written.{unmarked, opens, binds, Written, bare, opening, used, declared, digits, prefix_kind, operator_kind, division_kind, comparison_kind, membership_kind, quantifier_kind}
use Rattle.form.specs.Written.{connective, minus_of, write_end, write_range, write_domain, write_term, write_items, write_pairs, write_pred}
use Rattle.form.specs.Form.{prefix_level, term_level, connective_level, not_level, pred_level, left_level, right_level, TermGrouped, ItemsGrouped, PairsGrouped, PredGrouped}
use Rattle.form.specs.Machine.{Item, exact, a_declared, a_name, an_empty_rest, an_end, a_domain, a_term, an_operand, a_term_rest, a_rel, a_mem, a_right, a_first, a_list, a_pairs, a_unary, a_paren, a_pred_rest, go, step}
use Rattle.form.specs.Computed.{compute_form}
use Rattle.form.proofs.Takes.{range_end, Agrees}
use Rattle.form.proofs.MachineAgreesStarts.{equally, taken_as, BehindPred, TermEnds, PredEnds, behind_operator, behind_division, behind_comparison, behind_membership, behind_maplet}
use Rattle.form.proofs.MachineAgreesStarts.{behind_comma, behind_bracket, behind_brace, behind_paren, behind_connective, no_second, no_operator, term_ends}
use Rattle.form.proofs.MachineAgreesStarts.{starts_term, starts_items, starts_pairs, starts_pred, as_term, alike_at_starts, as_unary, as_brace, as_right, in_paren}
use Rattle.form.proofs.Insert.{operator_most}

-- what is taken at an operator, a prefix, a comparison, a membership and a quantifier, each by its kinds
operating : (o : Operator) (d b : ℕ) (γ : List Item) → step (a_term_rest d b ∷ γ) (operator_kind o) ≡ go unmarked (a_term d b ∷ γ)
unfolding compute_form
operating plus d b γ = refl
operating minus d b γ = refl
operating union d b γ = refl
operating without d b γ = refl
operating times d b γ = refl
operating inter d b γ = refl

dividing : (o : Division) (d b : ℕ) (γ : List Item) → step (a_term_rest d b ∷ γ) (division_kind o) ≡ go unmarked (an_end ∷ a_term_rest d b ∷ γ)
unfolding compute_form
dividing quotient d b γ = refl
dividing remainder d b γ = refl

prefixing : (o : Prefix) (d b : ℕ) (γ : List Item) → step (an_operand d b ∷ γ) (prefix_kind o) ≡ go (opens (suc d)) (an_operand (suc d) b ∷ γ)
unfolding compute_form
prefixing negate d b γ = refl
prefixing size d b γ = refl
prefixing dom d b γ = refl
prefixing ran d b γ = refl

comparing : (o : Comparison) (d b : ℕ) (γ : List Item) → step (a_term_rest d b ∷ a_rel d b ∷ γ) (comparison_kind o) ≡ go unmarked (a_term d b ∷ γ)
unfolding compute_form
comparing equals d b γ = refl
comparing differs d b γ = refl
comparing less d b γ = refl
comparing at_most d b γ = refl

belonging : (o : Membership) (d b : ℕ) (γ : List Item) → step (a_term_rest d b ∷ a_rel d b ∷ γ) (membership_kind o) ≡ go unmarked (a_right d b ∷ γ)
unfolding compute_form
belonging is_in d b γ = refl
belonging not_in d b γ = refl

pair_belonging : (o : Membership) (d b : ℕ) (γ : List Item) → step (a_term_rest d b ∷ a_mem d b ∷ γ) (membership_kind o) ≡ go unmarked (a_term d b ∷ γ)
unfolding compute_form
pair_belonging is_in d b γ = refl
pair_belonging not_in d b γ = refl

quantifying : (q : Quantifier) (d b : ℕ) (γ : List Item)
    → step (a_paren d b ∷ γ) (quantifier_kind q) ≡ go unmarked (a_declared (binds (suc b)) ∷ exact kind.colon ∷ a_domain ∷ exact kind.spot ∷ a_unary d (suc b)
    ∷ a_pred_rest d d (suc b) ∷ exact kind.close_paren ∷ γ)
unfolding compute_form
quantifying forall d b γ = refl
quantifying exists d b γ = refl
quantifying exists1 d b γ = refl

-- a name that is used, of any of the four kinds
pub used_as : (x : Name) (w : List Written) (σ ρ : List Item) → step σ kind.plain ≡ go unmarked ρ → step σ kind.primed ≡ go unmarked ρ
    → step σ kind.input ≡ go unmarked ρ → step σ kind.output ≡ go unmarked ρ → ((k : Kind) → Agrees k w ρ) → (k : Kind) → Agrees k (used x ∷ w) σ
used_as x w σ ρ ep ed ei eo h k = taken_as (used x) w σ ρ (each x.ending) h k
  where
    each : (e : Ending) → step σ (kind_of_name e) ≡ go unmarked ρ
    each no_ending = ep
    each prime = ed
    each query = ei
    each shriek = eo

-- an end of a range, or a divisor
end_taken : (n : Bool) (m : ℕ) (w : List Written) (γ : List Item) → ((k : Kind) → Agrees k w γ) → (k : Kind) → Agrees k (minus_of n (digits m ∷ w)) (an_end ∷ γ)
unfolding compute_form
end_taken true m w γ h k = equally (equally (h kind.number))
end_taken false m w γ h k = equally (h kind.number)

-- a range, where σ takes its first number, or - and number
pub range_taken : (σ γ : List Item) → step σ kind.number ≡ go unmarked (exact kind.up_to ∷ an_end ∷ γ)
    → step σ kind.minus ≡ go unmarked (exact kind.number ∷ exact kind.up_to ∷ an_end ∷ γ) → (r : Range) (w : List Written) → ((k : Kind) → Agrees k w γ)
    → (k : Kind) → Agrees k (write_range r w) σ
unfolding compute_form
range_taken σ γ en em r w h k = lower r.lower.negative r.lower.magnitude
  where
    after : (j : Kind) → Agrees j (bare kind.up_to ∷ write_end r.upper w) (exact kind.up_to ∷ an_end ∷ γ)
    after j = equally (end_taken r.upper.negative r.upper.magnitude w γ h kind.up_to)

    lower : (n : Bool) (m : ℕ) → Agrees k (minus_of n (digits m ∷ bare kind.up_to ∷ write_end r.upper w)) σ
    lower true m = taken_as (bare kind.minus) (digits m ∷ bare kind.up_to ∷ write_end r.upper w) σ (exact kind.number ∷ exact kind.up_to ∷ an_end ∷ γ) em (λ j. equally (after kind.number)) k
    lower false m = taken_as (digits m) (bare kind.up_to ∷ write_end r.upper w) σ (exact kind.up_to ∷ an_end ∷ γ) en after k

-- in or notin and a range: the machine marks a - there as a prefix, and the number and .. behind it tell
range_after : (o : Membership) (r : Range) (w : List Written) (d b : ℕ) (γ : List Item) → ((k : Kind) → Agrees k w γ) → (k : Kind)
    → Agrees k (bare (membership_kind o) ∷ write_range r w) (a_term_rest d b ∷ a_rel d b ∷ γ)
unfolding compute_form
range_after o r w d b γ h k = lower o r.lower.negative r.lower.magnitude
  where
    after : Agrees kind.up_to (write_end r.upper w) (an_end ∷ γ)
    after = end_taken r.upper.negative r.upper.magnitude w γ h kind.up_to

    lower : (o : Membership) (n : Bool) (m : ℕ)
        → Agrees k (bare (membership_kind o) ∷ minus_of n (digits m ∷ bare kind.up_to ∷ write_end r.upper w)) (a_term_rest d b ∷ a_rel d b ∷ γ)
    lower is_in true m = equally (range_end refl, equally (equally after))
    lower not_in true m = equally (range_end refl, equally (equally after))
    lower is_in false m = equally (equally (equally after))
    lower not_in false m = equally (equally (equally after))

-- what a bound name ranges over
domain_taken : (t : Domain) (w : List Written) (γ : List Item) → ((k : Kind) → Agrees k w γ) → (k : Kind) → Agrees k (write_domain t w) (a_domain ∷ γ)
unfolding compute_form
domain_taken (given_set x) w γ h k = used_as x w (a_domain ∷ γ) γ refl refl refl refl h k
domain_taken (range r) w γ h k = range_taken (a_domain ∷ γ) γ refl refl r w h k

-- What is expected behind a term t at depth d: anything, if t binds as tightly as an operand; or the rest of a term first.
data Room (t : Term) (d b : ℕ) : List Item → Type 0 where
  tight : {γ : List Item} → prefix_level ≤ term_level t → Room t d b γ
  loose : {γ : List Item} → Room t d b (a_term_rest d b ∷ γ)

-- What is expected behind a predicate p at depth d, and that the symbols w are taken there: anything, if p binds as tightly as the operand of `not`; or
-- the rest of a predicate that began at depth e. Behind p the machine stands at depth d if p is no =>, and may stand deeper if it is.
data PredRoom (p : Pred) (d b : ℕ) (w : List Written) : List Item → Type 0 where
  operand : {γ : List Item} → not_level ≤ pred_level p → ((k : Kind) → Agrees k w γ) → PredRoom p d b w γ
  closed : {e : ℕ} {γ : List Item} → connective_level or ≤ pred_level p → ((k : Kind) → Agrees k w (a_pred_rest e d b ∷ γ)) → PredRoom p d b w (a_pred_rest e d b ∷ γ)
  right : {e : ℕ} {γ : List Item} → connective_level implies ≤ pred_level p → ((c : ℕ) (k : Kind) → Agrees k w (a_pred_rest e c b ∷ γ))
      → PredRoom p d b w (a_pred_rest e d b ∷ γ)
  whole : {γ : List Item} → ((c : ℕ) (k : Kind) → Agrees k w (a_pred_rest d c b ∷ γ)) → PredRoom p d b w (a_pred_rest d d b ∷ γ)

-- in any such room the symbols w are taken behind p
behind : {p : Pred} {d b : ℕ} {w : List Written} {γ : List Item} → PredRoom p d b w γ → (k : Kind) → Agrees k w γ
behind {d} (operand l h) k = h k
behind {d} (closed l h) k = h k
behind {d} (right l h) k = h d k
behind {d} (whole h) k = h d k

-- the rest of a predicate that began at depth e and stands at depth d, with what is known of it
data Rest (d b : ℕ) (P : ℕ → List Item → Type 0) : List Item → Type 0 where
  rest : (e : ℕ) {γ : List Item} → P e γ → Rest d b P (a_pred_rest e d b ∷ γ)

-- behind a predicate that is no operand of `not` stands such a rest
closing : {p : Pred} {d b : ℕ} {w : List Written} {γ : List Item} → pred_level p < not_level → PredRoom p d b w γ
    → Rest d b (λ e δ. (k : Kind) → Agrees k w (a_pred_rest e d b ∷ δ)) γ
closing l (operand m h) = absurd (omega arith)
closing l (closed {e} m h) = rest e h
closing {d} l (right {e} m h) = rest e (h d)
closing {d} l (whole h) = rest d (h d)

-- and behind one that may be a => the rest may stand at any depth
opened : {p : Pred} {d b : ℕ} {w : List Written} {γ : List Item} → pred_level p < connective_level or → PredRoom p d b w γ
    → Rest d b (λ e δ. (c : ℕ) (k : Kind) → Agrees k w (a_pred_rest e c b ∷ δ)) γ
opened l (operand m h) = absurd (omega arith)
opened l (closed m h) = absurd (omega arith)
opened l (right {e} m h) = rest e h
opened {d} l (whole h) = rest d h

-- the machine takes the predicate p wherever there is room for it
abbrev Taken : Pred → Type 0
Taken p = (d b : ℕ) (w : List Written) → PredEnds w → (γ : List Item) → PredRoom p d b w γ → (k : Kind) → Agrees k (write_pred p d b w) (a_unary d b ∷ γ)

-- two sides of a connective of the kind s that goes on at the depth where the machine stands
alongside : (s : Kind) → BehindPred s → ((e d b : ℕ) (γ : List Item) → step (a_pred_rest e d b ∷ γ) s ≡ go unmarked (a_unary d b ∷ a_pred_rest e d b ∷ γ))
    → (p q : Pred) → connective_level or ≤ pred_level p → connective_level or ≤ pred_level q → Taken p → Taken q → (d b : ℕ) (w : List Written) → PredEnds w
    → (γ : List Item) → Rest d b (λ e δ. (k : Kind) → Agrees k w (a_pred_rest e d b ∷ δ)) γ → (k : Kind)
    → Agrees k (write_pred p d b (bare s ∷ write_pred q d b w)) (a_unary d b ∷ γ)
alongside s i c p q l r tp tq d b w f γ (rest e {γ = δ} h) k =
    tp d b (bare s ∷ write_pred q d b w) i (a_pred_rest e d b ∷ δ)
    (closed l (taken_as (bare s) (write_pred q d b w) (a_pred_rest e d b ∷ δ) (a_unary d b ∷ a_pred_rest e d b ∷ δ) (c e d b δ)
    (tq d b w f (a_pred_rest e d b ∷ δ) (closed r h)))) k

-- two sides of a =>: the right one and what follows it stand one deeper
deeper : (p q : Pred) → left_level implies ≤ pred_level p → right_level implies ≤ pred_level q → Taken p → Taken q → (d b : ℕ) (w : List Written) → PredEnds w
    → (γ : List Item) → Rest d b (λ e δ. (c : ℕ) (k : Kind) → Agrees k w (a_pred_rest e c b ∷ δ)) γ → (k : Kind)
    → Agrees k (write_pred p d b (connective implies d ∷ write_pred q (suc d) b w)) (a_unary d b ∷ γ)
unfolding compute_form
deeper p q l r tp tq d b w f γ (rest e {γ = δ} h) k =
    tp d b (connective implies d ∷ write_pred q (suc d) b w) (behind_connective implies d) (a_pred_rest e d b ∷ δ)
    (closed l (λ j. equally (tq (suc d) b w f (a_pred_rest e (suc d) b ∷ δ) (right r h) kind.implies))) k

-- both sides of any connective: <=> goes back to the depth where the whole began
connects : (o : Connective) (p q : Pred) → left_level o ≤ pred_level p → right_level o ≤ pred_level q → Taken p → Taken q → Taken (connected o p q)
unfolding compute_form
connects and p q l r tp tq d b w f γ room k =
    alongside kind.AND (behind_connective and d) (λ e c a δ. refl) p q (omega arith) (omega arith) tp tq d b w f γ (closing (omega arith) room) k
connects or p q l r tp tq d b w f γ room k =
    alongside kind.OR (behind_connective or d) (λ e c a δ. refl) p q l (omega arith) tp tq d b w f γ (closing (omega arith) room) k
connects implies p q l r tp tq d b w f γ room k = deeper p q l r tp tq d b w f γ (opened (omega arith) room) k
connects iff p q l r tp tq d b w f γ (operand m h) k = absurd (omega arith)
connects iff p q l r tp tq d b w f γ (closed m h) k = absurd (omega arith)
connects iff p q l r tp tq d b w f γ (right m h) k = absurd (omega arith)
connects iff p q l r tp tq d b w f γ (whole {γ = δ} h) k =
    tp d b (connective iff d ∷ write_pred q d b w) (behind_connective iff d) (a_pred_rest d d b ∷ δ)
    (whole (λ c j. equally (tq d b w f (a_pred_rest d d b ∷ δ) (right r h) kind.iff))) k

-- a predicate that begins with a term
atom : (t : Term) (d b : ℕ) (w : List Written) → TermEnds w → (γ : List Item) (k : Kind)
    → Agrees k (write_term t d b w) (an_operand d b ∷ a_term_rest d b ∷ a_rel d b ∷ γ) → Agrees k (write_term t d b w) (a_unary d b ∷ γ)
atom t d b w f γ k h =
    alike_at_starts (a_unary d b ∷ γ) (an_operand d b ∷ a_term_rest d b ∷ a_rel d b ∷ γ) (as_unary d b γ) (write_term t d b w) (starts_term t d b w f) k h

mutual
  unfolding compute_form TermGrouped ItemsGrouped PairsGrouped PredGrouped

  -- a term, where there is room for it
  term : (t : Term) → TermGrouped t → (d b : ℕ) (w : List Written) → TermEnds w → (γ : List Item) → Room t d b γ → ((k : Kind) → Agrees k w γ)
      → (k : Kind) → Agrees k (write_term t d b w) (an_operand d b ∷ γ)
  term (number n) g d b w f γ r h k = equally (h kind.number)
  term (name x) g d b w f γ r h k = used_as x w (an_operand d b ∷ γ) γ refl refl refl refl h k
  term (group t) g d b w f γ r h k =
      let v : List Written = bare kind.close_bracket ∷ w in
      equally (as_term (write_term t (suc d) b v) (suc d) b (exact kind.close_bracket ∷ γ) kind.open_bracket
      (term t g (suc d) b v behind_bracket (a_term_rest (suc d) b ∷ exact kind.close_bracket ∷ γ) loose (λ j. equally (h kind.close_bracket)) kind.open_bracket))
  term (prefix o t) g d b w f γ r h k =
      taken_as (opening (prefix_kind o) (suc d)) (write_term t (suc d) b w) (an_operand d b ∷ γ) (an_operand (suc d) b ∷ γ) (prefixing o d b γ)
      (term t g.1 (suc d) b w f γ (tight g.0) h) k
  term (binary o t u) g d b w f γ (tight l) h k = absurd (let m = operator_most o in omega arith)
  term (binary o t u) g d b w f γ (loose {γ = δ}) h k =
      term t g.2 d b (bare (operator_kind o) ∷ write_term u d b w) (behind_operator o) (a_term_rest d b ∷ δ) loose
      (taken_as (bare (operator_kind o)) (write_term u d b w) (a_term_rest d b ∷ δ) (a_term d b ∷ δ) (operating o d b δ)
      (λ j. as_term (write_term u d b w) d b δ j (term u g.3 d b w f (a_term_rest d b ∷ δ) loose h j))) k
  term (divided o t e) g d b w f γ (tight l) h k = absurd (omega arith)
  term (divided o t e) g d b w f γ (loose {γ = δ}) h k =
      term t g.1 d b (bare (division_kind o) ∷ write_end e w) (behind_division o) (a_term_rest d b ∷ δ) loose
      (taken_as (bare (division_kind o)) (write_end e w) (a_term_rest d b ∷ δ) (an_end ∷ a_term_rest d b ∷ δ) (dividing o d b δ)
      (end_taken e.negative e.magnitude w (a_term_rest d b ∷ δ) h)) k
  term (listed ts) g d b w f γ r h k =
      let v : List Written = bare kind.close_brace ∷ w in
      equally (as_brace (write_items ts (suc d) b v) (starts_items ts (suc d) b v behind_brace.0) (suc d) b γ
      (items ts g (suc d) b w γ (a_first (suc d) b ∷ γ) refl refl h kind.open_brace))
  term (pairs ts) g d b w f γ r h k =
      let v : List Written = bare kind.close_brace ∷ w in
      equally (as_brace (write_pairs ts (suc d) b v) (starts_pairs ts (suc d) b v) (suc d) b γ
      (pairing ts g (suc d) b w γ (a_first (suc d) b ∷ γ) refl h kind.open_brace))
  term (such x y p) g d b w f γ r h k =
      let v : List Written = bare kind.close_brace ∷ w in
      let ρ : List Item = a_pred_rest (suc d) (suc d) (suc b) ∷ exact kind.close_brace ∷ γ in
      let σ : List Item = exact kind.bar ∷ a_unary (suc d) (suc b) ∷ ρ in
      equally (equally (equally (used_as y (bare kind.bar ∷ write_pred p (suc d) (suc b) v) (a_name ∷ σ) σ refl refl refl refl
      (λ j. equally (pred p g (suc d) (suc b) v behind_brace ρ (whole (λ c i. equally (h kind.close_brace))) kind.bar)) kind.colon)))
  term (empty_set x) g d b w f γ r h k =
      equally (used_as x w (a_name ∷ an_empty_rest ∷ γ) (an_empty_rest ∷ γ) refl refl refl refl (λ j. no_second w f γ j (h j)) kind.EMPTY)
  term (empty_pairs x y) g d b w f γ r h k =
      equally (used_as x (used y ∷ w) (a_name ∷ an_empty_rest ∷ γ) (an_empty_rest ∷ γ) refl refl refl refl
      (used_as y w (an_empty_rest ∷ γ) γ refl refl refl refl h) kind.EMPTY)

  -- the items of braces, where σ goes on to the next of them or ends them
  items : (ts : Items) → ItemsGrouped ts → (d b : ℕ) (w : List Written) (γ σ : List Item) → step σ kind.comma ≡ go unmarked (a_term d b ∷ a_list d b ∷ γ)
      → step σ kind.close_brace ≡ go unmarked γ → ((k : Kind) → Agrees k w γ) → (k : Kind)
      → Agrees k (write_items ts d b (bare kind.close_brace ∷ w)) (an_operand d b ∷ a_term_rest d b ∷ σ)
  items (only t) g d b w γ σ c e h k =
      term t g d b (bare kind.close_brace ∷ w) behind_brace.0 (a_term_rest d b ∷ σ) loose (taken_as (bare kind.close_brace) w (a_term_rest d b ∷ σ) γ e h) k
  items (also t ts) g d b w γ σ c e h k =
      let v : List Written = write_items ts d b (bare kind.close_brace ∷ w) in
      term t g.0 d b (bare kind.comma ∷ v) behind_comma (a_term_rest d b ∷ σ) loose
      (taken_as (bare kind.comma) v (a_term_rest d b ∷ σ) (a_term d b ∷ a_list d b ∷ γ) c
      (λ j. as_term v d b (a_list d b ∷ γ) j (items ts g.1 d b w γ (a_list d b ∷ γ) refl refl h j))) k

  -- the pairs of braces, where σ takes the |-> of the first
  pairing : (ts : Pairs) → PairsGrouped ts → (d b : ℕ) (w : List Written) (γ σ : List Item) → step σ kind.maplet ≡ go unmarked (a_term d b ∷ a_pairs d b ∷ γ)
      → ((k : Kind) → Agrees k w γ) → (k : Kind) → Agrees k (write_pairs ts d b (bare kind.close_brace ∷ w)) (an_operand d b ∷ a_term_rest d b ∷ σ)
  pairing (only_pair t u) g d b w γ σ e h k =
      let v : List Written = bare kind.close_brace ∷ w in
      term t g.0 d b (bare kind.maplet ∷ write_term u d b v) behind_maplet (a_term_rest d b ∷ σ) loose
      (taken_as (bare kind.maplet) (write_term u d b v) (a_term_rest d b ∷ σ) (a_term d b ∷ a_pairs d b ∷ γ) e (λ j. as_term (write_term u d b v) d b (a_pairs d b ∷ γ) j
      (term u g.1 d b v behind_brace.0 (a_term_rest d b ∷ a_pairs d b ∷ γ) loose (λ i. equally (h kind.close_brace)) j))) k
  pairing (also_pair t u ts) g d b w γ σ e h k =
      let v : List Written = write_pairs ts d b (bare kind.close_brace ∷ w) in
      let ρ : List Item = exact kind.maplet ∷ a_term d b ∷ a_pairs d b ∷ γ in
      term t g.0 d b (bare kind.maplet ∷ write_term u d b (bare kind.comma ∷ v)) behind_maplet (a_term_rest d b ∷ σ) loose
      (taken_as (bare kind.maplet) (write_term u d b (bare kind.comma ∷ v)) (a_term_rest d b ∷ σ) (a_term d b ∷ a_pairs d b ∷ γ) e
      (λ j. as_term (write_term u d b (bare kind.comma ∷ v)) d b (a_pairs d b ∷ γ) j
      (term u g.1 d b (bare kind.comma ∷ v) behind_comma (a_term_rest d b ∷ a_pairs d b ∷ γ) loose
      (λ i. equally (as_term v d b ρ kind.comma (pairing ts g.2 d b w γ ρ refl h kind.comma))) j))) k

  -- a predicate, where there is room for it
  pred : (p : Pred) → PredGrouped p → (d b : ℕ) (w : List Written) → PredEnds w → (γ : List Item) → PredRoom p d b w γ → (k : Kind)
      → Agrees k (write_pred p d b w) (a_unary d b ∷ γ)
  pred truth g d b w f γ r k = equally (behind r kind.TRUE)
  pred falsity g d b w f γ r k = equally (behind r kind.FALSE)
  pred (negation p) g d b w f γ r k = equally (pred p g.1 (suc d) b w f γ (operand g.0 (behind r)) kind.NOT)
  pred (paren p) g d b w f γ r k =
      let v : List Written = bare kind.close_paren ∷ w in
      equally (in_paren (write_pred p (suc d) b v) (starts_pred p (suc d) b v) (suc d) b γ kind.open_paren
      (pred p g (suc d) b v behind_paren (a_pred_rest (suc d) (suc d) b ∷ exact kind.close_paren ∷ γ) (whole (λ c j. equally (behind r kind.close_paren))) kind.open_paren))
  pred (quantified q x t p) g d b w f γ r k =
      let v : List Written = bare kind.close_paren ∷ w in
      let u : List Written = bare kind.spot ∷ write_pred p (suc d) (suc b) v in
      let ρ : List Item = a_pred_rest (suc d) (suc d) (suc b) ∷ exact kind.close_paren ∷ γ in
      let σ : List Item = exact kind.spot ∷ a_unary (suc d) (suc b) ∷ ρ in
      equally (taken_as (bare (quantifier_kind q)) (declared x no_ending (binds (suc b)) ∷ bare kind.colon ∷ write_domain t u) (a_paren (suc d) b ∷ γ)
      (a_declared (binds (suc b)) ∷ exact kind.colon ∷ a_domain ∷ σ) (quantifying q (suc d) b γ) (λ j. equally (equally (domain_taken t u σ
      (λ i. equally (pred p g (suc d) (suc b) v behind_paren ρ (whole (λ c l. equally (behind r kind.close_paren))) kind.spot)) kind.colon))) kind.open_paren)
  pred (connected o p q) g d b w f γ r k = connects o p q g.0 g.1 (pred p g.2) (pred q g.3) d b w f γ r k
  pred (compared o t u) g d b w f γ r k =
      let v : List Written = bare (comparison_kind o) ∷ write_term u d b w in
      atom t d b v (behind_comparison o) γ k (term t g.0 d b v (behind_comparison o) (a_term_rest d b ∷ a_rel d b ∷ γ) loose
      (taken_as (bare (comparison_kind o)) (write_term u d b w) (a_term_rest d b ∷ a_rel d b ∷ γ) (a_term d b ∷ γ) (comparing o d b γ)
      (λ j. as_term (write_term u d b w) d b γ j
      (term u g.1 d b w (term_ends w f) (a_term_rest d b ∷ γ) loose (λ i. no_operator w f d b γ i (behind r i)) j))) k)
  pred (member o t u) g d b w f γ r k =
      let v : List Written = bare (membership_kind o) ∷ write_term u d b w in
      atom t d b v (behind_membership o) γ k (term t g.0 d b v (behind_membership o) (a_term_rest d b ∷ a_rel d b ∷ γ) loose
      (taken_as (bare (membership_kind o)) (write_term u d b w) (a_term_rest d b ∷ a_rel d b ∷ γ) (a_right d b ∷ γ) (belonging o d b γ)
      (λ j. as_right (write_term u d b w) (starts_term u d b w (term_ends w f)) d b γ j
      (term u g.1 d b w (term_ends w f) (a_term_rest d b ∷ γ) loose (λ i. no_operator w f d b γ i (behind r i)) j))) k)
  pred (within o t s) g d b w f γ r k =
      let v : List Written = bare (membership_kind o) ∷ write_range s w in
      atom t d b v (behind_membership o) γ k (term t g d b v (behind_membership o) (a_term_rest d b ∷ a_rel d b ∷ γ) loose
      (range_after o s w d b γ (behind r)) k)
  pred (related o t u v) g d b w f γ r k =
      let x : List Written = bare (membership_kind o) ∷ write_term v d b w in
      atom t d b (bare kind.maplet ∷ write_term u d b x) behind_maplet γ k
      (term t g.0 d b (bare kind.maplet ∷ write_term u d b x) behind_maplet (a_term_rest d b ∷ a_rel d b ∷ γ) loose
      (λ j. equally (as_term (write_term u d b x) d b (a_mem d b ∷ γ) kind.maplet
      (term u g.1 d b x (behind_membership o) (a_term_rest d b ∷ a_mem d b ∷ γ) loose
      (taken_as (bare (membership_kind o)) (write_term v d b w) (a_term_rest d b ∷ a_mem d b ∷ γ) (a_term d b ∷ γ) (pair_belonging o d b γ)
      (λ i. as_term (write_term v d b w) d b γ i
      (term v g.2 d b w (term_ends w f) (a_term_rest d b ∷ γ) loose (λ l. no_operator w f d b γ l (behind r l)) i))) kind.maplet))) k)

-- a predicate of a `where` or of an operation's side
pub predicate : (p : Pred) → PredGrouped p → (w : List Written) → PredEnds w → (γ : List Item) → ((c : ℕ) (k : Kind) → Agrees k w (a_pred_rest 0 c 0 ∷ γ))
    → (k : Kind) → Agrees k (write_pred p 0 0 w) (a_unary 0 0 ∷ a_pred_rest 0 0 0 ∷ γ)
predicate p g w f γ h k = pred p g 0 0 w f (a_pred_rest 0 0 0 ∷ γ) (whole h) k
