-- One operand and operator, prefix or `not` put before a grouped tree, so that the whole is grouped.
use mathlib.Core.Path.{◌≡◌, refl}
use mathlib.Core.Bool.{Bool, true, false}
use mathlib.Core.List.{List, ◌∷◌}
use Prim.Native.Nat.{ℕ, ◌≤◌, ◌<◌}
use native.Mathlib.Omega.{arith}
use lib.Dec.{leb}
use borrow.Author.Tests.{leb-true, leb-false}
use Rattle.lexical.specs.Kinds as kind
use Rattle.lexical.specs.Symbols.{Symbol, fixed}
use Rattle.form.specs.Tree.{End, Prefix, Operator, plus, minus, union, without, times, inter, Division, Connective, and, or, implies, iff}
use Rattle.form.specs.Tree.{Term, number, name, group, prefix, binary, divided, listed, pairs, such, empty_set, empty_pairs}
use Rattle.form.specs.Tree.{Pred, truth, falsity, negation, paren, quantified, connected, compared, member, within, related}
use Rattle.form.specs.Written.{prefix_kind, operator_kind, division_kind, connective_kind}
use Rattle.form.specs.Form.{operator_level, term_level, connective_level, pred_level, left_level, right_level, TermGrouped, PredGrouped}
use Rattle.form.proofs.PlainSymbols.{plain_end, plain_term, plain_pred}

-- a grouped term with given symbols, that binds at least as tightly as m
pub record TermMade (m : ℕ) (w : List Symbol → List Symbol) : Type 0 where
  pub tree : Term
  pub grouped : TermGrouped tree
  pub holds : m ≤ term_level tree
  pub same : (v : List Symbol) → plain_term tree v ≡ w v

-- the same for predicates
pub record PredMade (m : ℕ) (w : List Symbol → List Symbol) : Type 0 where
  pub tree : Pred
  pub grouped : PredGrouped tree
  pub holds : m ≤ pred_level tree
  pub same : (v : List Symbol) → plain_pred tree v ≡ w v

-- the bounds of the levels
pub operator-least : (o : Operator) → 1 ≤ operator_level o
operator-least plus = omega arith
operator-least minus = omega arith
operator-least union = omega arith
operator-least without = omega arith
operator-least times = omega arith
operator-least inter = omega arith

pub operator_most : (o : Operator) → operator_level o ≤ 2
operator_most plus = omega arith
operator_most minus = omega arith
operator_most union = omega arith
operator_most without = omega arith
operator_most times = omega arith
operator_most inter = omega arith

pub term-least : (t : Term) → 1 ≤ term_level t
term-least (number n) = omega arith
term-least (name x) = omega arith
term-least (group t) = omega arith
term-least (prefix o t) = omega arith
term-least (binary o t u) = operator-least o
term-least (divided o t e) = omega arith
term-least (listed ts) = omega arith
term-least (pairs ts) = omega arith
term-least (such x g p) = omega arith
term-least (empty_set g) = omega arith
term-least (empty_pairs g h) = omega arith

-- a term that stands before an operator: nothing looser than a division
abbrev Operand : Term → Type 0
Operand t = TermGrouped t × (2 ≤ term_level t)

-- an operand and an operator before a grouped term; m bounds both
abbrev Before : Term → Operator → Term → Type 0
Before t o q = (m : ℕ) → m ≤ operator_level o → m ≤ term_level q → TermMade m (λ (v : List Symbol). plain_term t (fixed (operator_kind o) ∷ plain_term q v))

-- the term holds together more tightly than the operator
whole : (t : Term) → Operand t → (o : Operator) (q : Term) → TermGrouped q → operator_level o < term_level q → Before t o q
unfolding TermGrouped plain_term
whole t h o q g l m a b =
    let c = operator_most o in
    let d = h.1 in
    record { tree = binary o t q; grouped = (omega arith, l, h.0, g); holds = a; same = λ v. refl }

before : (t : Term) → Operand t → (o : Operator) (q : Term) → TermGrouped q → Before t o q
unfolding TermGrouped plain_term
before t h o (number n) g = let c = operator_most o in whole t h o (number n) g (omega arith)
before t h o (name x) g = let c = operator_most o in whole t h o (name x) g (omega arith)
before t h o (group q) g = let c = operator_most o in whole t h o (group q) g (omega arith)
before t h o (prefix p q) g = let c = operator_most o in whole t h o (prefix p q) g (omega arith)
before t h o (binary j p q) g = on (leb (operator_level j) (operator_level o)) refl (before t h o p g.2)
  where
    on : (b : Bool) → leb (operator_level j) (operator_level o) ≡ b → Before t o p → Before t o (binary j p q)
    on true e r m a b =
        let f = r (operator_level j) (leb-true _ _ e) g.0 in
        record { tree = binary j f.tree q; grouped = (f.holds, g.1, f.grouped, g.3); holds = b; same = λ v. f.same (fixed (operator_kind j) ∷ plain_term q v) }
    on false e r m a b = whole t h o (binary j p q) g (leb-false _ _ e) m a b
before t h o (divided j p e) g = on (leb 2 (operator_level o)) refl (before t h o p g.1)
  where
    on : (b : Bool) → leb 2 (operator_level o) ≡ b → Before t o p → Before t o (divided j p e)
    on true q r m a b =
        let f = r 2 (leb-true _ _ q) g.0 in
        record { tree = divided j f.tree e; grouped = (f.holds, f.grouped); holds = b; same = λ v. f.same (fixed (division_kind j) ∷ plain_end e v) }
    on false q r m a b = whole t h o (divided j p e) g (leb-false _ _ q) m a b
before t h o (listed ts) g = let c = operator_most o in whole t h o (listed ts) g (omega arith)
before t h o (pairs ts) g = let c = operator_most o in whole t h o (pairs ts) g (omega arith)
before t h o (such x s p) g = let c = operator_most o in whole t h o (such x s p) g (omega arith)
before t h o (empty_set s) g = let c = operator_most o in whole t h o (empty_set s) g (omega arith)
before t h o (empty_pairs r s) g = let c = operator_most o in whole t h o (empty_pairs r s) g (omega arith)

-- what follows a term: nothing, an operator and a grouped term, a division and what follows that
pub data After : Type 0 where
  nothing : After
  operating : Operator → (q : Term) → TermGrouped q → After
  dividing : Division → End → After → After

abbrev pub follows : After → List Symbol → List Symbol
follows nothing v = v
follows (operating o q g) v = fixed (operator_kind o) ∷ plain_term q v
follows (dividing j e r) v = fixed (division_kind j) ∷ plain_end e (follows r v)

-- an operand and what follows it
pub operand : (t : Term) → TermGrouped t → 2 ≤ term_level t → (r : After) → TermMade 1 (λ (v : List Symbol). plain_term t (follows r v))
unfolding TermGrouped plain_term
operand t g l nothing = record { tree = t; grouped = g; holds = omega arith; same = λ v. refl }
operand t g l (operating o q f) = before t (g, l) o q f 1 (operator-least o) (term-least q)
operand t g l (dividing j e r) = operand (divided j t e) (l, g) (omega arith) r

-- a prefix before a grouped term belongs to its first operand
pub prefixed : (o : Prefix) (q : Term) → TermGrouped q → (m : ℕ) → m ≤ term_level q → m ≤ 3 → TermMade m (λ (v : List Symbol). fixed (prefix_kind o) ∷ plain_term q v)
unfolding TermGrouped plain_term
prefixed o (number n) g m a b = record { tree = prefix o (number n); grouped = (omega arith, g); holds = b; same = λ v. refl }
prefixed o (name x) g m a b = record { tree = prefix o (name x); grouped = (omega arith, g); holds = b; same = λ v. refl }
prefixed o (group q) g m a b = record { tree = prefix o (group q); grouped = (omega arith, g); holds = b; same = λ v. refl }
prefixed o (prefix p q) g m a b = record { tree = prefix o (prefix p q); grouped = (omega arith, g); holds = b; same = λ v. refl }
prefixed o (binary j p q) g m a b =
    let c = operator_most j in
    let f = prefixed o p g.2 (operator_level j) g.0 (omega arith) in
    record { tree = binary j f.tree q; grouped = (f.holds, g.1, f.grouped, g.3); holds = a; same = λ v. f.same (fixed (operator_kind j) ∷ plain_term q v) }
prefixed o (divided j p e) g m a b =
    let f = prefixed o p g.1 2 g.0 (omega arith) in
    record { tree = divided j f.tree e; grouped = (f.holds, f.grouped); holds = a; same = λ v. f.same (fixed (division_kind j) ∷ plain_end e v) }
prefixed o (listed ts) g m a b = record { tree = prefix o (listed ts); grouped = (omega arith, g); holds = b; same = λ v. refl }
prefixed o (pairs ts) g m a b = record { tree = prefix o (pairs ts); grouped = (omega arith, g); holds = b; same = λ v. refl }
prefixed o (such x s p) g m a b = record { tree = prefix o (such x s p); grouped = (omega arith, g); holds = b; same = λ v. refl }
prefixed o (empty_set s) g m a b = record { tree = prefix o (empty_set s); grouped = (omega arith, g); holds = b; same = λ v. refl }
prefixed o (empty_pairs r s) g m a b = record { tree = prefix o (empty_pairs r s); grouped = (omega arith, g); holds = b; same = λ v. refl }

connective-least : (o : Connective) → 1 ≤ connective_level o
connective-least and = omega arith
connective-least or = omega arith
connective-least implies = omega arith
connective-least iff = omega arith

left-most : (o : Connective) → left_level o ≤ 4
left-most and = omega arith
left-most or = omega arith
left-most implies = omega arith
left-most iff = omega arith

right-most : (o : Connective) → right_level o ≤ 5
right-most and = omega arith
right-most or = omega arith
right-most implies = omega arith
right-most iff = omega arith

-- a connective that may not stand on the right of another takes that one on its left
regrouped : (o j : Connective) → connective_level j < right_level o → left_level j ≤ connective_level o
regrouped and j l = left-most j
regrouped or and l = absurd (omega arith)
regrouped or or l = omega arith
regrouped or implies l = omega arith
regrouped or iff l = omega arith
regrouped implies and l = absurd (omega arith)
regrouped implies or l = absurd (omega arith)
regrouped implies implies l = absurd (omega arith)
regrouped implies iff l = omega arith
regrouped iff and l = absurd (omega arith)
regrouped iff or l = absurd (omega arith)
regrouped iff implies l = absurd (omega arith)
regrouped iff iff l = omega arith

pred-least : (p : Pred) → 1 ≤ pred_level p
pred-least truth = omega arith
pred-least falsity = omega arith
pred-least (negation p) = omega arith
pred-least (paren p) = omega arith
pred-least (quantified q x t p) = omega arith
pred-least (connected o p q) = connective-least o
pred-least (compared o t u) = omega arith
pred-least (member o t u) = omega arith
pred-least (within o t r) = omega arith
pred-least (related o t u v) = omega arith

-- a predicate that stands before a connective
abbrev Unary : Pred → Type 0
Unary p = PredGrouped p × (5 ≤ pred_level p)

-- a predicate and a connective before a grouped predicate; m bounds both
abbrev BeforePred : Pred → Connective → Pred → Type 0
BeforePred p o q = (m : ℕ) → m ≤ connective_level o → m ≤ pred_level q → PredMade m (λ (v : List Symbol). plain_pred p (fixed (connective_kind o) ∷ plain_pred q v))

-- the predicate on the right holds together as tightly as the connective asks
whole_pred : (p : Pred) → Unary p → (o : Connective) (q : Pred) → PredGrouped q → right_level o ≤ pred_level q → BeforePred p o q
unfolding PredGrouped plain_pred
whole_pred p h o q g l m a b =
    let c = left-most o in
    let d = h.1 in
    record { tree = connected o p q; grouped = (omega arith, l, h.0, g); holds = a; same = λ v. refl }

before_pred : (p : Pred) → Unary p → (o : Connective) (q : Pred) → PredGrouped q → BeforePred p o q
unfolding PredGrouped plain_pred
before_pred p h o truth g = let c = right-most o in whole_pred p h o truth g (omega arith)
before_pred p h o falsity g = let c = right-most o in whole_pred p h o falsity g (omega arith)
before_pred p h o (negation q) g = let c = right-most o in whole_pred p h o (negation q) g (omega arith)
before_pred p h o (paren q) g = let c = right-most o in whole_pred p h o (paren q) g (omega arith)
before_pred p h o (quantified k x t q) g = let c = right-most o in whole_pred p h o (quantified k x t q) g (omega arith)
before_pred p h o (connected j q r) g = on (leb (right_level o) (connective_level j)) refl (before_pred p h o q g.2)
  where
    on : (b : Bool) → leb (right_level o) (connective_level j) ≡ b → BeforePred p o q → BeforePred p o (connected j q r)
    on true e s m a b = whole_pred p h o (connected j q r) g (leb-true _ _ e) m a b
    on false e s m a b =
        let f = s (left_level j) (regrouped o j (leb-false _ _ e)) g.0 in
        record { tree = connected j f.tree r; grouped = (f.holds, g.1, f.grouped, g.3); holds = b; same = λ v. f.same (fixed (connective_kind j) ∷ plain_pred r v) }
before_pred p h o (compared k t u) g = let c = right-most o in whole_pred p h o (compared k t u) g (omega arith)
before_pred p h o (member k t u) g = let c = right-most o in whole_pred p h o (member k t u) g (omega arith)
before_pred p h o (within k t r) g = let c = right-most o in whole_pred p h o (within k t r) g (omega arith)
before_pred p h o (related k t u v) g = let c = right-most o in whole_pred p h o (related k t u v) g (omega arith)

-- what follows a predicate: nothing, or a connective and a grouped predicate
pub data AfterPred : Type 0 where
  nothing : AfterPred
  connecting : Connective → (q : Pred) → PredGrouped q → AfterPred

abbrev pub follows_pred : AfterPred → List Symbol → List Symbol
follows_pred AfterPred.nothing v = v
follows_pred (connecting o q g) v = fixed (connective_kind o) ∷ plain_pred q v

-- a predicate and what follows it
pub unary : (p : Pred) → PredGrouped p → 5 ≤ pred_level p → (r : AfterPred) → PredMade 1 (λ (v : List Symbol). plain_pred p (follows_pred r v))
unfolding PredGrouped plain_pred
unary p g l AfterPred.nothing = record { tree = p; grouped = g; holds = omega arith; same = λ v. refl }
unary p g l (connecting o q f) = before_pred p (g, l) o q f 1 (connective-least o) (pred-least q)

-- a `not` before a grouped predicate belongs to its first part
pub negated : (q : Pred) → PredGrouped q → (m : ℕ) → m ≤ pred_level q → m ≤ 5 → PredMade m (λ (v : List Symbol). fixed kind.NOT ∷ plain_pred q v)
unfolding PredGrouped plain_pred
negated truth g m a b = record { tree = negation truth; grouped = (omega arith, g); holds = b; same = λ v. refl }
negated falsity g m a b = record { tree = negation falsity; grouped = (omega arith, g); holds = b; same = λ v. refl }
negated (negation q) g m a b = record { tree = negation (negation q); grouped = (omega arith, g); holds = b; same = λ v. refl }
negated (paren q) g m a b = record { tree = negation (paren q); grouped = (omega arith, g); holds = b; same = λ v. refl }
negated (quantified k x t q) g m a b = record { tree = negation (quantified k x t q); grouped = (omega arith, g); holds = b; same = λ v. refl }
negated (connected j q r) g m a b =
    let c = left-most j in
    let f = negated q g.2 (left_level j) g.0 (omega arith) in
    record { tree = connected j f.tree r; grouped = (f.holds, g.1, f.grouped, g.3); holds = a; same = λ v. f.same (fixed (connective_kind j) ∷ plain_pred r v) }
negated (compared k t u) g m a b = record { tree = negation (compared k t u); grouped = (omega arith, g); holds = b; same = λ v. refl }
negated (member k t u) g m a b = record { tree = negation (member k t u); grouped = (omega arith, g); holds = b; same = λ v. refl }
negated (within k t r) g m a b = record { tree = negation (within k t r); grouped = (omega arith, g); holds = b; same = λ v. refl }
negated (related k t u v) g m a b = record { tree = negation (related k t u v); grouped = (omega arith, g); holds = b; same = λ v. refl }
