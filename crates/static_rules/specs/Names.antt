-- Document 01, numbers 8, 9, 10, 11 and 14: the faults of the pass for names and types.
use Rattle.std.specs.Prelude.{Bool, not, ◌&&◌, cond, List, [], ◌∷◌, ◌++◌, map, ℕ, suc, ◌+◌, ◌*◌, leb, ltb, ℤ, pos, ◌-ℤ◌, length}
use Rattle.std.proofs.Math.Option.{Option, none, some}
use Rattle.std.specs.Int.Signed.{le_z, lt_z}
use Rattle.form.specs.LexicalLists.{any, concat}
use Rattle.form.specs.LexicalSymbols.{Name}
use Rattle.form.specs.LexicalRefusals.{Fault, fault, unless, name_in_use, name_unknown, types_misfit, wide_type, zero_divisor}
use Rattle.form.specs.Tree.{Letters, End, Range, Domain, given_set, range}
use Rattle.form.specs.Tree.{Term, number, name, group, prefix, binary, divided, listed, pairs, such, empty_set, empty_pairs, Items, only, also, Pairs, only_pair, also_pair}
use Rattle.form.specs.Tree.{Pred, truth, falsity, negation, paren, quantified, connected, compared, member, within, related}
use Rattle.form.specs.Tree.{TypeForm, given_type, power_type, range_type, arrow_type, Declaration, declarations, Parameter, Given, elements, Operation, Dossier}
use Rattle.form.specs.Written.{ending_of, write_type}
use Rattle.form.specs.Headings.{givens_at, given_length, abstract_at, concrete_at, operations_at, operation_length}
use Rattle.static_rules.specs.Carriers.{Carrier, elements_of, size_of, same_name, plain, given_of, end_value, range_carrier}
use Rattle.static_rules.specs.Types as ty
use Rattle.static_rules.specs.Types.{Ty, has, is_number, is_pairs, prefix_fits, prefix_type, operator_fits, comparison_fits, member_fits, related_fits, brace_type, brace_fits, pairs_type, pairs_fit, set_of}
use Rattle.static_rules.specs.Scope.{Scope, Context, is_taken, type_of_name, given_in_reach, binding, given_names, abstract_taken, concrete_taken, contexts}

-- a term: its type, where it has no fault; all its faults; the number of the symbol behind it
pub record Judged : Type 0 where
  pub type : Ty
  pub faults : List Fault
  pub next : ℕ

abbrev judged : Ty → List Fault → ℕ → Judged
judged t fs i = record { type = t; faults = fs; next = i }

-- "A whole with a faulty part isn't judged.": the faults of a whole that is at fault with f unless it fits, after those of its parts
unfoldable pub whole : Bool → Fault → List Fault → List Fault
whole fits f [] = unless fits f
whole fits f (x ∷ parts) = x ∷ parts

-- what stands in the reach of a bound name; where its declaration is at fault, that stands before
unfoldable pub inside : List Fault → List Fault → List Fault
inside [] body = body
inside (x ∷ binder) body = x ∷ binder

-- 9. "Name unknown or out of reach."
abbrev pub of_name : Option Ty → ℕ → Judged
of_name none i = judged ty.number (fault i name_unknown ∷ []) (suc i)
of_name (some t) i = judged t [] (suc i)

abbrev pub known : Option Given → ℕ → List Fault
known none i = fault i name_unknown ∷ []
known (some g) i = []

-- 11. "a > b or over 64 numbers in a range"; the ..
abbrev pub end_length : End → ℕ
end_length e = cond e.negative 2 1

abbrev pub range_length : Range → ℕ
range_length r = end_length r.lower + 1 + end_length r.upper

unfoldable pub range_fits : ℤ → ℤ → Bool
range_fits a b = le_z a b && lt_z (b -ℤ a) (pos 64)

unfoldable pub range_faults : Range → ℕ → List Fault
range_faults r i = unless (range_fits (end_value r.lower) (end_value r.upper)) (fault (i + end_length r.lower) wide_type)

-- 11. "or a type of over 16 pairs"
unfoldable pub pairs_fault : Option Given → Option Given → ℕ → List Fault
pairs_fault none h i = []
pairs_fault (some g) none i = []
pairs_fault (some g) (some h) i = unless (leb (size_of g * size_of h) 16) (fault i wide_type)

-- 14. "Divisor 0 or -0; the 0."
unfoldable pub divisor_faults : End → ℕ → List Fault
divisor_faults e i = unless (ltb 0 e.magnitude) (fault (i + cond e.negative 1 0) zero_divisor)

-- 8. "Name already in use."
unfoldable pub new_name : List Letters → Letters → ℕ → List Fault
new_name xs x i = unless (not (is_taken xs x)) (fault i name_in_use)

-- what a name is bound over
abbrev or_numbers : Option Given → Carrier
or_numbers none = Carrier.numbers (pos 0) (pos 0)
or_numbers (some g) = elements_of g

abbrev pub domain_carrier : Scope → Domain → Carrier
domain_carrier Γ (given_set g) = or_numbers (given_in_reach Γ g)
domain_carrier Γ (range r) = range_carrier r

abbrev pub domain_faults : Scope → Domain → ℕ → List Fault
domain_faults Γ (given_set g) i = known (given_in_reach Γ g) i
domain_faults Γ (range r) i = range_faults r i

abbrev pub domain_length : Domain → ℕ
domain_length (given_set g) = 1
domain_length (range r) = range_length r

-- the types of the items of a brace, and of the two sides of its pairs
pub record Listing (A : Type 0) : Type 0 where
  pub types : List A
  pub faults : List Fault
  pub next : ℕ

-- a predicate: all its faults, and the number of the symbol behind it
pub record Checked : Type 0 where
  pub faults : List Fault
  pub next : ℕ

-- 11. "also that of a brace of pairs": once the pairs fit. The given sets are those that the pairs' type is over, whatever names are in reach
abbrev pub over_fault : List Given → List Letters → ℕ → List Fault
over_fault gs [] i = []
over_fault gs (g ∷ []) i = []
over_fault gs (g ∷ h ∷ ks) i = pairs_fault (given_of gs (plain g)) (given_of gs (plain h)) i

unfoldable pub whole_pairs : List Given → List (Ty × Ty) → ℕ → List Fault
whole_pairs gs ts i = cond (pairs_fit ts) (over_fault gs (pairs_type ts).over i) (fault i types_misfit ∷ [])

unfoldable pub judged_pairs : List Given → Listing (Ty × Ty) → ℕ → List Fault
judged_pairs gs l i = elim l.faults [ [] ↦ whole_pairs gs l.types i | x ∷ xs ↦ x ∷ xs ]

-- the term, items, pairs or predicate that begins at the symbol i
unfoldable mutual
  pub judge_term : Term → Scope → (i : ℕ) → Judged
  judge_term (number n) Γ i = judged ty.number [] (suc i)
  judge_term (name x) Γ i = of_name (type_of_name Γ x) i
  judge_term (group t) Γ i = let a : Judged = judge_term t Γ (suc i) in judged a.type a.faults (suc a.next)
  judge_term (prefix o t) Γ i =
      let a : Judged = judge_term t Γ (suc i) in
      judged (prefix_type o a.type) (whole (prefix_fits o a.type) (fault i types_misfit) a.faults) a.next
  judge_term (binary o t u) Γ i =
      let a : Judged = judge_term t Γ i in
      let b : Judged = judge_term u Γ (suc a.next) in
      judged a.type (whole (operator_fits o a.type b.type) (fault a.next types_misfit) (a.faults ++ b.faults)) b.next
  judge_term (divided o t e) Γ i =
      let a : Judged = judge_term t Γ i in
      judged ty.number (whole (has a.type is_number) (fault a.next types_misfit) (a.faults ++ divisor_faults e (suc a.next))) (suc a.next + end_length e)
  judge_term (listed ts) Γ i =
      let l : Listing Ty = judge_items ts Γ (suc i) in
      judged (brace_type l.types) (whole (brace_fits l.types) (fault i types_misfit) l.faults) (suc l.next)
  judge_term (pairs ts) Γ i =
      let l : Listing (Ty × Ty) = judge_pairs ts Γ (suc i) in
      judged (pairs_type l.types) (judged_pairs Γ.givens l i) (suc l.next)
  judge_term (such x g p) Γ i =
      let c : Carrier = or_numbers (given_in_reach Γ g) in
      let b : Checked = judge_pred p (binding Γ x c) (i + 5) in
      judged (set_of (ty.type_of c)) (inside (new_name Γ.taken x (suc i) ++ known (given_in_reach Γ g) (i + 3)) b.faults) (suc b.next)
  judge_term (empty_set g) Γ i = judged (set_of (ty.type_of (or_numbers (given_in_reach Γ g)))) (known (given_in_reach Γ g) (suc i)) (i + 2)
  judge_term (empty_pairs g h) Γ i =
      judged (record { sort = is_pairs; over = g.letters ∷ h.letters ∷ [] })
      (known (given_in_reach Γ g) (suc i) ++ known (given_in_reach Γ h) (i + 2) ++ pairs_fault (given_in_reach Γ g) (given_in_reach Γ h) i) (i + 3)

  pub judge_items : Items → Scope → (i : ℕ) → Listing Ty
  judge_items (only t) Γ i = let a : Judged = judge_term t Γ i in record { types = a.type ∷ []; faults = a.faults; next = a.next }
  judge_items (also t ts) Γ i =
      let a : Judged = judge_term t Γ i in
      let l : Listing Ty = judge_items ts Γ (suc a.next) in
      record { types = a.type ∷ l.types; faults = a.faults ++ l.faults; next = l.next }

  pub judge_pairs : Pairs → Scope → (i : ℕ) → Listing (Ty × Ty)
  judge_pairs (only_pair t u) Γ i =
      let a : Judged = judge_term t Γ i in
      let b : Judged = judge_term u Γ (suc a.next) in
      record { types = (a.type, b.type) ∷ []; faults = a.faults ++ b.faults; next = b.next }
  judge_pairs (also_pair t u ts) Γ i =
      let a : Judged = judge_term t Γ i in
      let b : Judged = judge_term u Γ (suc a.next) in
      let l : Listing (Ty × Ty) = judge_pairs ts Γ (suc b.next) in
      record { types = (a.type, b.type) ∷ l.types; faults = a.faults ++ b.faults ++ l.faults; next = l.next }

  pub judge_pred : Pred → Scope → (i : ℕ) → Checked
  judge_pred truth Γ i = record { faults = []; next = suc i }
  judge_pred falsity Γ i = record { faults = []; next = suc i }
  judge_pred (negation p) Γ i = judge_pred p Γ (suc i)
  judge_pred (paren p) Γ i = let a : Checked = judge_pred p Γ (suc i) in record { faults = a.faults; next = suc a.next }
  judge_pred (quantified q x t p) Γ i =
      let j : ℕ = i + 4 + domain_length t in
      let b : Checked = judge_pred p (binding Γ x (domain_carrier Γ t)) (suc j) in
      record { faults = inside (new_name Γ.taken x (i + 2) ++ domain_faults Γ t (i + 4)) b.faults; next = suc b.next }
  judge_pred (connected o p q) Γ i =
      let a : Checked = judge_pred p Γ i in
      let b : Checked = judge_pred q Γ (suc a.next) in
      record { faults = a.faults ++ b.faults; next = b.next }
  judge_pred (compared o t u) Γ i =
      let a : Judged = judge_term t Γ i in
      let b : Judged = judge_term u Γ (suc a.next) in
      record { faults = whole (comparison_fits o a.type b.type) (fault a.next types_misfit) (a.faults ++ b.faults); next = b.next }
  judge_pred (member o t u) Γ i =
      let a : Judged = judge_term t Γ i in
      let b : Judged = judge_term u Γ (suc a.next) in
      record { faults = whole (member_fits a.type b.type) (fault a.next types_misfit) (a.faults ++ b.faults); next = b.next }
  judge_pred (within o t r) Γ i =
      let a : Judged = judge_term t Γ i in
      record { faults = whole (has a.type is_number) (fault a.next types_misfit) (a.faults ++ range_faults r (suc a.next)); next = suc a.next + range_length r }
  judge_pred (related o t u v) Γ i =
      let a : Judged = judge_term t Γ i in
      let b : Judged = judge_term u Γ (suc a.next) in
      let c : Judged = judge_term v Γ (suc b.next) in
      record { faults = whole (related_fits a.type b.type c.type) (fault b.next types_misfit) (a.faults ++ b.faults ++ c.faults); next = c.next }

-- a declared type that begins at the symbol i
unfoldable pub type_faults : List Given → TypeForm → (i : ℕ) → List Fault
type_faults gs (given_type g) i = known (given_of gs g) i
type_faults gs (power_type g) i = known (given_of gs g) (suc i)
type_faults gs (range_type r) i = range_faults r i
type_faults gs (arrow_type a g h) i = known (given_of gs g) i ++ known (given_of gs h) (i + 2) ++ pairs_fault (given_of gs g) (given_of gs h) (suc i)

-- declarations from the symbol i on, where the names xs are in use
unfoldable pub declaration_faults : List Given → List Letters → (i : ℕ) → List Declaration → List Fault
declaration_faults gs xs i [] = []
declaration_faults gs xs i (d ∷ ds) =
    new_name xs d.declared i ++ type_faults gs d.type (i + 2) ++ declaration_faults gs (d.declared ∷ xs) (i + 3 + length (write_type d.type [])) ds

unfoldable pub element_faults : List Letters → (i : ℕ) → List Letters → List Fault
element_faults xs i [] = []
element_faults xs i (e ∷ es) = new_name xs e i ++ element_faults (e ∷ xs) (suc i) es

unfoldable pub given_faults : List Letters → (i : ℕ) → List Given → List Fault
given_faults xs i [] = []
given_faults xs i (g ∷ gs) =
    new_name xs g.title (suc i) ++ element_faults (g.title ∷ xs) (i + 2) (elements g) ++ given_faults (given_names (g ∷ []) ++ xs) (i + given_length g) gs

-- "inputs and outputs differ within an operation"
abbrev pub parameter_name : Parameter → Name
parameter_name x = record { letters = x.declaration.declared; ending = ending_of x.direction }

unfoldable pub parameter_faults : List Given → List Parameter → (i : ℕ) → List Parameter → List Fault
parameter_faults gs xs i [] = []
parameter_faults gs xs i (y ∷ ys) =
    unless (not (any (λ (x : Parameter). same_name (parameter_name x) (parameter_name y)) xs)) (fault i name_in_use)
    ++ type_faults gs y.declaration.type (i + 2) ++ parameter_faults gs (y ∷ xs) (i + 3 + length (write_type y.declaration.type [])) ys

unfoldable pub operation_faults : List Given → List Letters → (i : ℕ) → List Operation → List Fault
operation_faults gs xs i [] = []
operation_faults gs xs i (o ∷ os) =
    new_name xs o.title (suc i) ++ parameter_faults gs [] (i + 2) o.parameters ++ operation_faults gs (o.title ∷ xs) (i + operation_length o) os

unfoldable pub context_faults : Context → List Fault
context_faults c = (judge_pred c.predicate c.scope c.at).faults

-- all faults of the pass
unfoldable pub name_faults : Dossier → List Fault
name_faults d =
    given_faults [] (givens_at d) d.givens
    ++ declaration_faults d.givens (given_names d.givens) (suc (abstract_at d)) (declarations d.abstract)
    ++ declaration_faults d.givens (abstract_taken d) (suc (concrete_at d)) (declarations d.concrete)
    ++ operation_faults d.givens (concrete_taken d) (operations_at d) d.operations
    ++ concat (map context_faults (contexts d))
