-- What the walk over the nodes promises of whatever tree they are the nodes of, by the numbers of SizesByNumber. Nothing here need be believed.
use Rattle.std.specs.Prelude.{◌≡◌, List, ◌++◌, Bool, ℕ, ◌+◌, ◌≤◌, length, take, set}
use Rattle.lexical.specs.Kinds.{code_of}
use Rattle.form.specs.Tree.{Prefix, Operator, Division, Domain, Term, Items, Pairs, Pred}
use Rattle.form.specs.Written.{prefix_kind, operator_kind}
use Rattle.form.specs.Codes.{Numbering, sign_of, division_number, domain_codes, term_codes, items_codes, pairs_codes, pred_codes}
use Rattle.type_rules.specs.TypesByNumber.{fault_key, lesser}
use Rattle.term_sizes.specs.SizesByNumber.{Bounds, prefix_bound, operator_bound, division_bound, domain_bound, term_bound, term_over, items_over, pairs_over, pred_over}
use Rattle.term_sizes.specs.declared.Sized.{Sized}
use Rattle.term_sizes.specs.declared.sizes.Over.{Over}
use Rattle.type_rules.specs.declared.Node.{Node}

-- the code tells prefixes and operators by their symbols' codes
abbrev pub PrefixBound : (o a r : ℕ) → Type 0
PrefixBound o a r = (p : Prefix) → code_of (prefix_kind p) ≡ o → r ≡ prefix_bound p a

abbrev pub OperatorBound : (o a b r : ℕ) → Type 0
OperatorBound o a b r = (p : Operator) → code_of (operator_kind p) ≡ o → r ≡ operator_bound p a b

-- the number of a division has its divisor's sign beside it
abbrev pub DivisionBound : (o n a r : ℕ) → Type 0
DivisionBound o n a r = (p : Division) (s : Bool) → sign_of s + division_number p ≡ o → r ≡ division_bound p a n

-- what was seen: the least fault f; the size n where there is none; where the nodes begin
pub record Saw (r : Sized) (n f s : ℕ) : Type 0 where
  pub fault_is : fault_key r.fault ≡ f
  pub bound_is : f ≡ 0 → r.bound ≡ n
  pub start_is : r.start ≡ s

pub record DomainSized (code : List ℕ) (e : ℕ) (r : Over) : Type 0 where
  pub falls : r.start ≤ e
  pub right : (d : Domain) (i : ℕ) (ρ : Numbering) (base : List ℕ) → take e code ≡ base ++ domain_codes d i ρ → (r.bound ≡ domain_bound d) × (r.start ≡ length base)

pub record TermSized (code : List ℕ) (e : ℕ) (S U : Bounds) (r : Sized) : Type 0 where
  pub falls : r.start ≤ e
  pub kept : U ≡ S
  pub right : (t : Term) (i : ℕ) (ρ : Numbering) (base : List ℕ) → take e code ≡ base ++ term_codes t i ρ → Saw r (term_bound t S ρ) (term_over t S ρ i) (length base)

pub record ItemsSized (code : List ℕ) (e : ℕ) (S U : Bounds) (r : Sized) : Type 0 where
  pub falls : r.start ≤ e
  pub kept : U ≡ S
  pub right : (ts : Items) (i : ℕ) (ρ : Numbering) (base : List ℕ) → take e code ≡ base ++ items_codes ts i ρ → Saw r 0 (items_over ts S ρ i) (length base)

pub record PairSized (code : List ℕ) (e : ℕ) (S U : Bounds) (r : Sized) : Type 0 where
  pub falls : r.start ≤ e
  pub kept : U ≡ S
  pub right : (t u : Term) (i j : ℕ) (ρ : Numbering) (base : List ℕ) → take e code ≡ (base ++ term_codes t i ρ) ++ term_codes u j ρ
      → Saw r 0 (lesser (term_over t S ρ i) (term_over u S ρ j)) (length base)

pub record PairsSized (code : List ℕ) (e : ℕ) (S U : Bounds) (r : Sized) : Type 0 where
  pub falls : r.start ≤ e
  pub kept : U ≡ S
  pub right : (ts : Pairs) (i : ℕ) (ρ : Numbering) (base : List ℕ) → take e code ≡ base ++ pairs_codes ts i ρ → Saw r 0 (pairs_over ts S ρ i) (length base)

pub record PredSized (code : List ℕ) (e : ℕ) (S U : Bounds) (r : Sized) : Type 0 where
  pub falls : r.start ≤ e
  pub kept : U ≡ S
  pub right : (p : Pred) (i : ℕ) (ρ : Numbering) (base : List ℕ) → take e code ≡ base ++ pred_codes p i ρ → Saw r 0 (pred_over p S ρ i) (length base)

-- a name is bound, that of the node n, for a predicate with its domain behind it
pub record BoundSized (code : List ℕ) (e : ℕ) (n : Node) (S U : Bounds) (r : Sized) : Type 0 where
  pub falls : r.start ≤ e
  pub kept : U ≡ S
  pub right : (d : Domain) (p : Pred) (i j : ℕ) (ρ : Numbering) (base : List ℕ) → take e code ≡ (base ++ pred_codes p j ρ) ++ domain_codes d i ρ
      → Saw r 0 (pred_over p (set S n.a (domain_bound d)) ρ j) (length base)
