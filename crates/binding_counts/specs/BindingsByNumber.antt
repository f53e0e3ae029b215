-- Number 12 by numbers: how many bindings a group of declared names has, with what each name is in one table and the sizes of the given sets in another.
-- That these are the counts and faults of static_rules/specs/Limits is proofs/BindingsAgree. Nothing here need be believed.
use Rattle.std.specs.Prelude.{◌≡◌, Bool, ◌&&◌, cond, List, [], ◌∷◌, ◌++◌, ℕ, ◌+◌, ◌-◌, ◌*◌, ◌^◌, ◌%◌, ◌≤◌, min, eqb, leb, length, drop}
use Rattle.std.proofs.Math.Option.{some}
use Rattle.lexical.specs.Symbols.{Name, no_ending}
use Rattle.form.specs.Tree.{relation, partial, total, TypeForm, given_type, power_type, range_type, arrow_type, Given, declarations, State, Operation, Dossier}
use Rattle.form.specs.Headings.{operation_length}
use Rattle.form.specs.Codes.{Numbering, name_number, end_number, type_codes}
use Rattle.static_rules.specs.Carriers.{size_of, given_of}
use Rattle.static_rules.specs.Limits.{binding_faults}
use Rattle.type_rules.specs.TypesByNumber.{Names, Sizes, entry, size_in, key, unless_key, lesser, least_key}
use Rattle.names.specs.DeclaredNamesNamesByNumber.{Typed, variables_of, parameters_of, typed_codes}
use Rattle.names.specs.DeclaredNamesPassPromises.{typed_code}
use Rattle.node_spans.specs.Spans.{HeadingAt, OperationAt, OperationsAt, StateAt, Structured}
use Rattle.binding_counts.specs.DeclaredTypesFit.{DeclaredFit}

-- the limit and one for all above it
unfoldable pub cap : (limit n : ℕ) → ℕ
cap c n = min (c + 1) n

-- how many elements the given set has whose name has the number x
unfoldable pub size_at : Names → Sizes → ℕ → ℕ
size_at T z x = size_in z (entry T x - 8)

-- how many values a type has: by its shape and the two numbers of its node
unfoldable pub counted_by : (shape a b : ℕ) → Names → Sizes → ℕ
counted_by s a b T z =
    cond (eqb s 1) (size_at T z a)
    (cond (eqb s 2) (b - a + 1)
    (cond (eqb s 3) (2 ^ size_at T z a)
    (cond (eqb s 4) (2 ^ (size_at T z a * size_at T z b)) (cond (eqb s 5) ((size_at T z b + 1) ^ size_at T z a) (size_at T z b ^ size_at T z a)))))

unfoldable pub type_count : TypeForm → Names → Numbering → Sizes → ℕ
type_count (given_type g) T ρ z = size_at T z (name_number ρ g)
type_count (range_type r) T ρ z = end_number r.upper - end_number r.lower + 1
type_count (power_type g) T ρ z = 2 ^ size_at T z (name_number ρ g)
type_count (arrow_type relation g h) T ρ z = 2 ^ (size_at T z (name_number ρ g) * size_at T z (name_number ρ h))
type_count (arrow_type partial g h) T ρ z = (size_at T z (name_number ρ h) + 1) ^ size_at T z (name_number ρ g)
type_count (arrow_type total g h) T ρ z = size_at T z (name_number ρ h) ^ size_at T z (name_number ρ g)

-- the names with an ending: 0 none, 2 an input, 3 an output
abbrev pub typed_factor : (ending : ℕ) → Typed → Names → Numbering → Sizes → ℕ
typed_factor e x T ρ z = cond (eqb (name_number ρ x.called % 4) e) (type_count x.type T ρ z) 1

unfoldable pub typed_count : (ending : ℕ) → List Typed → Names → Numbering → Sizes → ℕ
typed_count e [] T ρ z = 1
typed_count e (x ∷ xs) T ρ z = typed_factor e x T ρ z * typed_count e xs T ρ z

-- the fault of a state, of an operation, of some operations, whose heading is the symbol i
unfoldable pub state_over : State → Names → Numbering → Sizes → (i : ℕ) → ℕ
state_over s T ρ z i = unless_key (leb (typed_count 0 (variables_of no_ending (declarations s)) T ρ z) 4096) (key i 12)

unfoldable pub operation_over : Operation → Names → Numbering → Sizes → (i : ℕ) → ℕ
operation_over o T ρ z i =
    unless_key (leb (typed_count 2 (parameters_of o.parameters) T ρ z) 64 && leb (typed_count 3 (parameters_of o.parameters) T ρ z) 64) (key i 12)

unfoldable pub operations_over : List Operation → Names → Numbering → Sizes → (i : ℕ) → ℕ
operations_over [] T ρ z i = 0
operations_over (o ∷ os) T ρ z i = lesser (operation_over o T ρ z i) (operations_over os T ρ z (i + operation_length o))

-- What the functions promise. A type's node begins at `at`, a declaration's nodes as well; only what stays under the limit is told
abbrev pub TypeCounted : (code : List ℕ) (at limit : ℕ) (T : Names) (z : Sizes) (r : ℕ) → Type 0
TypeCounted code at c T z r = (t : TypeForm) (i : ℕ) (ρ : Numbering) (rest : List ℕ) → drop at code ≡ type_codes t i ρ ++ rest → cap c r ≡ cap c (type_count t T ρ z)

abbrev pub FactorCounted : (code : List ℕ) (at ending limit : ℕ) (T : Names) (z : Sizes) (r : ℕ) → Type 0
FactorCounted code at e c T z r = (x : Typed) (i : ℕ) (ρ : Numbering) (rest : List ℕ) → drop at code ≡ typed_code i x ρ ++ rest → cap c r ≡ cap c (typed_factor e x T ρ z)

abbrev pub GroupCounted : (code : List ℕ) (ending limit : ℕ) (T : Names) (z : Sizes) (r : ℕ) → Type 0
GroupCounted code e c T z r = (xs : List Typed) (i : ℕ) (ρ : Numbering) → code ≡ typed_codes i xs ρ → r ≡ cap c (typed_count e xs T ρ z)

abbrev pub HeadingFaulted : (nodes : List ℕ) (from : ℕ) → Bool → (r : ℕ) → Type 0
HeadingFaulted nodes from ok r = (i : ℕ) → HeadingAt nodes from i → r ≡ unless_key ok (key i 12)

abbrev pub StateBound : (nodes spans : List ℕ) (k : ℕ) (T : Names) (z : Sizes) (r : ℕ) → Type 0
StateBound nodes spans k T z r = (s : State) (i : ℕ) (ρ : Numbering) → StateAt nodes spans k i s ρ → r ≡ state_over s T ρ z i

abbrev pub OperationBound : (nodes spans : List ℕ) (k : ℕ) (T : Names) (z : Sizes) (r : ℕ) → Type 0
OperationBound nodes spans k T z r = (o : Operation) (i : ℕ) (ρ : Numbering) → OperationAt nodes spans k i o ρ → r ≡ operation_over o T ρ z i

abbrev pub OperationsBound : (nodes spans : List ℕ) (n : ℕ) (T : Names) (z : Sizes) (r : ℕ) → Type 0
OperationsBound nodes spans n T z r =
    (os : List Operation) (i : ℕ) (ρ : Numbering) → n ≡ length os → OperationsAt nodes spans ρ 0 i os → r ≡ operations_over os T ρ z i

-- the tables tell the sizes of the given sets in declared types, and the ends of ranges are numbers to 1,000
abbrev pub GivenShown : Names → Sizes → List Given → Numbering → Name → Type 0
GivenShown T z gs ρ g = (x : Given) → given_of gs g ≡ some x → size_at T z (name_number ρ g) ≡ size_of x

abbrev pub TypeShown : Names → Sizes → List Given → Numbering → TypeForm → Type 0
TypeShown T z gs ρ (given_type g) = GivenShown T z gs ρ g
TypeShown T z gs ρ (power_type g) = GivenShown T z gs ρ g
TypeShown T z gs ρ (range_type r) = (r.lower.magnitude ≤ 1000) × (r.upper.magnitude ≤ 1000)
TypeShown T z gs ρ (arrow_type a g h) = GivenShown T z gs ρ g × GivenShown T z gs ρ h

pub data TypesShown (T : Names) (z : Sizes) (gs : List Given) (ρ : Numbering) : List Typed → Type 0 where
  none_shown : TypesShown T z gs ρ []
  one_shown : {x : Typed} {xs : List Typed} → TypeShown T z gs ρ x.type → TypesShown T z gs ρ xs → TypesShown T z gs ρ (x ∷ xs)

pub data OperationsShown (T : Names) (z : Sizes) (gs : List Given) (ρ : Numbering) : List Operation → Type 0 where
  no_operation_shown : OperationsShown T z gs ρ []
  operation_shown : {o : Operation} {os : List Operation} → TypesShown T z gs ρ (parameters_of o.parameters) → OperationsShown T z gs ρ os
      → OperationsShown T z gs ρ (o ∷ os)

pub record GivensShown (T : Names) (z : Sizes) (d : Dossier) (ρ : Numbering) : Type 0 where
  pub abstracts : TypesShown T z d.givens ρ (variables_of no_ending (declarations d.abstract))
  pub concretes : TypesShown T z d.givens ρ (variables_of no_ending (declarations d.concrete))
  pub parameters : OperationsShown T z d.givens ρ d.operations

-- the pass finds the least fault
abbrev pub BindingsSeen : (nodes spans : List ℕ) (n : ℕ) (T : Names) (z : Sizes) (r : ℕ) → Type 0
BindingsSeen nodes spans n T z r = (d : Dossier) (ρ : Numbering) → Structured nodes spans n d ρ → DeclaredFit d → GivensShown T z d ρ → r ≡ least_key (binding_faults d)
