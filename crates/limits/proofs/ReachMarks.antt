-- The variables in reach by the nodes of their declarations: the marks of these nodes are the sizes of the variables.
use mathlib.Core.Path.{◌≡◌, refl, ap, ap₂, sym, ◌∙◌}
use mathlib.Core.Bool.{Bool, true, false}
use mathlib.Core.List.{List, [], ◌∷◌, ◌++◌, map}
use mathlib.Core.Option.{Option, none, some, none-ne-some}
use Prim.Native.Nat.{ℕ, suc, ◌+◌, ◌*◌, ◌/◌}
use native.Mathlib.Nat.{add-zero}
use native.Mathlib.Omega.{arith}
use lib.ListN.{length, drop, set, replicate}
use lib.Seq.{set_comm}
use Rattle.lexical.specs.Lists.{filter}
use Rattle.lexical.specs.Symbols.{Name, Ending, no_ending, prime, query, shriek}
use Rattle.form.specs.Tree.{Letters, TypeForm, given_type, power_type, range_type, arrow_type, relation, partial, total, range, Given, Declaration, Parameter, Direction, inward, outward}
use Rattle.form.specs.Written.{ending_of}
use Rattle.form.specs.Codes.{Numbering, name_number, number_of_name, declaration_code, declaration_codes, parameter_codes, type_width}
use Rattle.static_rules.specs.Carriers.{Carrier, elements_of, subsets_of, pairs_in, Variable, largest, for_given, for_givens, carrier_of, given_of}
use Rattle.static_rules.specs.Scope.{with_carrier, variables, parameters_of, is_input, is_output}
use Rattle.names.proofs.PassAgreesTypes.{Carries, type-carries}
use Rattle.term_sizes.specs.SizesByNumber.{Bounds, domain_bound}
use Rattle.binding_counts.specs.DeclaredTypesFit as fits
use Rattle.binding_counts.specs.DeclaredTypesFit.{TypesFit}
use Rattle.limits.specs.DossierSizesByNumber as near
use Rattle.limits.specs.DossierSizesByNumber.{shown_sizes, EndsNear, TypesNear, type_size, entry_size, marks_of, marks}
use Rattle.limits.proofs.SizesAgreeScope.{domain-bound}
use Rattle.node_spans.proofs.DeclaredLengths.{declarations-long, parameters-long}

-- ---- sizes over a table ----

-- the sizes of some names over those that a table has
unfoldable pub shown_on : List Variable → Numbering → Bounds → Bounds
shown_on [] ρ S = S
shown_on (v ∷ vs) ρ S = set (shown_on vs ρ S) (name_number ρ v.called) (largest v.carrier)

pub sizes-on : (vs : List Variable) (ρ : Numbering) (n : ℕ) → shown_on vs ρ (replicate n 0) ≡ shown_sizes vs ρ n
unfolding shown_on shown_sizes
sizes-on [] ρ n = refl
sizes-on (v ∷ vs) ρ n = ap (λ (T : Bounds). set T (name_number ρ v.called) (largest v.carrier)) (sizes-on vs ρ n)

pub shown-append : (vs ws : List Variable) (ρ : Numbering) (S : Bounds) → shown_on (vs ++ ws) ρ S ≡ shown_on vs ρ (shown_on ws ρ S)
unfolding shown_on
shown-append [] ws ρ S = refl
shown-append (v ∷ vs) ws ρ S = ap (λ (T : Bounds). set T (name_number ρ v.called) (largest v.carrier)) (shown-append vs ws ρ S)

-- ---- one declaration ----

-- the size of a carrier, where there is one
abbrev SizeIs : Option Carrier → ℕ → Type 0
SizeIs none n = Unit {0}
SizeIs (some c) n = largest c ≡ n

-- the size of a declared type, by the ends of a range
unfoldable type_bound : TypeForm → ℕ
type_bound (given_type g) = 0
type_bound (power_type g) = 0
type_bound (range_type r) = domain_bound (range r)
type_bound (arrow_type a g h) = 0

one_given : (f : Given → Carrier) → ((g : Given) → largest (f g) ≡ 0) → (o : Option Given) → SizeIs (for_given f o) 0
one_given f h none = tt
one_given f h (some g) = h g

two-givens : (f : Given → Given → Carrier) → ((g k : Given) → largest (f g k) ≡ 0) → (o p : Option Given) → SizeIs (for_givens f o p) 0
two-givens f h none p = tt
two-givens f h (some g) none = tt
two-givens f h (some g) (some k) = h g k

size_is : (gs : List Given) (t : TypeForm) → EndsNear t → SizeIs (carrier_of gs t) (type_bound t)
unfolding carrier_of type_bound largest
size_is gs (given_type g) h = one_given elements_of (λ k. refl) (given_of gs g)
size_is gs (power_type g) h = one_given subsets_of (λ k. refl) (given_of gs g)
size_is gs (range_type r) h = sym (domain-bound (λ (x : Letters). Unit {0}) (range r) h)
size_is gs (arrow_type a g k) h = two-givens (pairs_in a) (λ x y. refl) (given_of gs g) (given_of gs k)

carried-shown : (ρ : Numbering) (x : Name) (o : Option Carrier) (c : Carrier) (n : ℕ) (vs : List Variable) (S : Bounds) → o ≡ some c → SizeIs o n
    → shown_on (with_carrier x o vs) ρ S ≡ set (shown_on vs ρ S) (name_number ρ x) n
unfolding shown_on
carried-shown ρ x none c n vs S e h = absurd (none-ne-some c e)
carried-shown ρ x (some k) c n vs S e h = ap (set (shown_on vs ρ S) (name_number ρ x)) h

-- a declared type without faults: its variable is in reach with its size
declared-shown : (gs : List Given) (ρ : Numbering) (x : Name) (t : TypeForm) (i : ℕ) (es : List Variable) (S : Bounds) → EndsNear t → Carries gs t
    → shown_on (with_carrier x (carrier_of gs t) es) ρ S ≡ set (shown_on es ρ S) (name_number ρ x) (type_bound t)
declared-shown gs ρ x t i es S h k = carried-shown ρ x (carrier_of gs t) k.carrier (type_bound t) es S k.carries (size_is gs t h)

-- the nodes of a declaration
module _ (i : ℕ) (e : Ending) (d : Declaration) (ρ : Numbering) (rest : List ℕ) where
  node-behind : (t : TypeForm) → drop 8 (declaration_code i e (record { declared = d.declared; type = t }) ρ ++ rest) ≡ rest
  node-behind (given_type g) = refl
  node-behind (power_type g) = refl
  node-behind (range_type r) = refl
  node-behind (arrow_type a g h) = refl

  node-size : (t : TypeForm) → entry_size true (declaration_code i e (record { declared = d.declared; type = t }) ρ ++ rest) 4 ≡ type_bound t
  unfolding type_size type_bound domain_bound
  node-size (given_type g) = refl
  node-size (power_type g) = refl
  node-size (range_type r) = refl
  node-size (arrow_type relation g h) = refl
  node-size (arrow_type partial g h) = refl
  node-size (arrow_type total g h) = refl

  -- the marks of a declaration and those behind it
  one-marked : (k s : ℕ) (S : Bounds)
      → marks_of true (suc k) (declaration_code i e d ρ ++ rest) s S ≡ set (marks_of true k rest s S) (number_of_name ρ d.declared e + s) (type_bound d.type)
  unfolding marks_of
  one-marked k s S =
      ap₂ (λ (l : List ℕ) (n : ℕ). set (marks_of true k l s S) (number_of_name ρ d.declared e + s) n) (node-behind d.type) (node-size d.type)

-- ---- the variables of a state ----

eighth : (n m : ℕ) → n ≡ 8 * m → n / 8 ≡ m
eighth n m e = omega arith

module _ (gs : List Given) (ρ : Numbering) (e : Ending) (s : ℕ) (ending : (x : Letters) → number_of_name ρ x no_ending + s ≡ number_of_name ρ x e) (S : Bounds) where
  group_of : {ds : List Declaration} → TypesFit gs ds → TypesNear ds → (i : ℕ) → marks_of true (length ds) (declaration_codes i ds ρ) s S ≡ shown_on (variables gs e ds) ρ S
  unfolding marks_of declaration_codes shown_on variables
  group_of fits.no_types near.no_types i = refl
  group_of (fits.one_type {d = d} {ds = ds} j f t) (near.one_type h u) i =
      one-marked i no_ending d ρ (declaration_codes (i + 3 + type_width d.type) ds ρ) (length ds) s S
      ∙ ap₂ (λ (T : Bounds) (n : ℕ). set T n (type_bound d.type)) (group_of t u (i + 3 + type_width d.type)) (ending d.declared)
      ∙ sym (declared-shown gs ρ (record { letters = d.declared; ending = e }) d.type j (variables gs e ds) S h (type-carries gs d.type j f))

  pub group-marks : {ds : List Declaration} → TypesFit gs ds → TypesNear ds → (i : ℕ) → marks true (declaration_codes i ds ρ) s S ≡ shown_on (variables gs e ds) ρ S
  group-marks {ds} t u i =
      ap (λ (k : ℕ). marks_of true k (declaration_codes i ds ρ) s S) (eighth (length (declaration_codes i ds ρ)) (length ds) (declarations-long i ds ρ)) ∙ group_of t u i

-- the numbers of plain and of primed names
pub plain-ending : (ρ : Numbering) (x : Letters) → number_of_name ρ x no_ending + 0 ≡ number_of_name ρ x no_ending
plain-ending ρ x = omega arith

pub primed-ending : (ρ : Numbering) (x : Letters) → number_of_name ρ x no_ending + 1 ≡ number_of_name ρ x prime
unfolding number_of_name
primed-ending ρ x = omega arith

-- ---- parameters ----

-- an output's number is no input's
out_of-inputs : (ρ : Numbering) (x y : Letters) → number_of_name ρ y shriek ≡ number_of_name ρ x query → ⊥
unfolding number_of_name
out_of-inputs ρ x y e = omega arith

carried-apart : (ρ : Numbering) (x y : Letters) (o : Option Carrier) (vs : List Variable) (S : Bounds) (n : ℕ)
    → shown_on vs ρ (set S (number_of_name ρ y shriek) n) ≡ set (shown_on vs ρ S) (number_of_name ρ y shriek) n
    → shown_on (with_carrier (record { letters = x; ending = query }) o vs) ρ (set S (number_of_name ρ y shriek) n)
    ≡ set (shown_on (with_carrier (record { letters = x; ending = query }) o vs) ρ S) (number_of_name ρ y shriek) n
unfolding shown_on
carried-apart ρ x y none vs S n h = h
carried-apart ρ x y (some c) vs S n h =
    ap (λ (T : Bounds). set T (number_of_name ρ x query) (largest c)) h
    ∙ set_comm (shown_on vs ρ S) (number_of_name ρ y shriek) (number_of_name ρ x query) n (largest c) (out_of-inputs ρ x y)

-- so an output may be marked before or after the inputs
inputs_apart : (gs : List Given) (ρ : Numbering) (ds : List Declaration) (y : Letters) (S : Bounds) (n : ℕ)
    → shown_on (variables gs query ds) ρ (set S (number_of_name ρ y shriek) n) ≡ set (shown_on (variables gs query ds) ρ S) (number_of_name ρ y shriek) n
unfolding variables shown_on
inputs_apart gs ρ [] y S n = refl
inputs_apart gs ρ (d ∷ ds) y S n = carried-apart ρ d.declared y (carrier_of gs d.type) (variables gs query ds) S n (inputs_apart gs ρ ds y S n)

inputs-over : (gs : List Given) (ρ : Numbering) (xs : List Parameter) (y : Letters) (S : Bounds) (n : ℕ)
    → shown_on (parameters_of gs inward xs) ρ (set S (number_of_name ρ y shriek) n) ≡ set (shown_on (parameters_of gs inward xs) ρ S) (number_of_name ρ y shriek) n
unfolding parameters_of
inputs-over gs ρ xs y S n = inputs_apart gs ρ (map (λ (x : Parameter). x.declaration) (filter (λ (x : Parameter). is_input x.direction) xs)) y S n

abbrev inputs_of : List Given → List Parameter → List Variable
inputs_of gs xs = parameters_of gs inward xs

abbrev outputs_of : List Given → List Parameter → List Variable
outputs_of gs xs = parameters_of gs outward xs

-- a parameter in front
module _ (gs : List Given) (x : Parameter) (xs : List Parameter) where
  -- among those whose direction passes a test, if its own does
  abbrev placed_by : Bool → (Direction → Bool) → List Parameter
  placed_by b f =
      let ys : List Parameter = filter (λ (y : Parameter). f y.direction) xs in elim b as (λ (c : Bool). List Parameter) [ true ↦ x ∷ ys | false ↦ ys ]

  by-direction : (e : Ending) (f : Direction → Bool) {b : Bool} → f x.direction ≡ b
      → variables gs e (map (λ (y : Parameter). y.declaration) (filter (λ (y : Parameter). f y.direction) (x ∷ xs))) ≡ variables gs e (map (λ (y : Parameter). y.declaration) (placed_by b f))
  unfolding filter
  by-direction e f h = ap (λ (b : Bool). variables gs e (map (λ (y : Parameter). y.declaration) (placed_by b f))) h

head-fit : {gs : List Given} {d : Declaration} {ds : List Declaration} → TypesFit gs (d ∷ ds) → Carries gs d.type
head-fit {gs} {d} (fits.one_type j f t) = type-carries gs d.type j f

tail-fit : {gs : List Given} {d : Declaration} {ds : List Declaration} → TypesFit gs (d ∷ ds) → TypesFit gs ds
tail-fit (fits.one_type j f t) = t

head_near : {d : Declaration} {ds : List Declaration} → TypesNear (d ∷ ds) → EndsNear d.type
head_near (near.one_type h u) = h

tail-near : {d : Declaration} {ds : List Declaration} → TypesNear (d ∷ ds) → TypesNear ds
tail-near (near.one_type h u) = u

module _ (gs : List Given) (ρ : Numbering) (S : Bounds) where
  -- the inputs over the outputs
  abbrev both : List Parameter → Bounds
  both xs = shown_on (inputs_of gs xs) ρ (shown_on (outputs_of gs xs) ρ S)

  abbrev added : Parameter → Ending → Bounds → Bounds
  added x e T = set T (number_of_name ρ x.declaration.declared e) (type_bound x.declaration.type)

  parameter-one : (x : Parameter) (xs : List Parameter) → Carries gs x.declaration.type → EndsNear x.declaration.type → (e : Direction) → x.direction ≡ e
      → added x (ending_of e) (both xs) ≡ both (x ∷ xs)
  unfolding parameters_of variables
  parameter-one x xs k h inward e =
      sym (ap₂ (λ (vs ws : List Variable). shown_on vs ρ (shown_on ws ρ S)) (by-direction gs x xs query is_input (ap is_input e)) (by-direction gs x xs shriek is_output (ap is_output e))
      ∙ declared-shown gs ρ (record { letters = x.declaration.declared; ending = query }) x.declaration.type 0 (inputs_of gs xs) (shown_on (outputs_of gs xs) ρ S) h k)
  parameter-one x xs k h outward e =
      sym (ap₂ (λ (vs ws : List Variable). shown_on vs ρ (shown_on ws ρ S)) (by-direction gs x xs query is_input (ap is_input e)) (by-direction gs x xs shriek is_output (ap is_output e))
      ∙ ap (shown_on (inputs_of gs xs) ρ) (declared-shown gs ρ (record { letters = x.declaration.declared; ending = shriek }) x.declaration.type 0 (outputs_of gs xs) S h k)
      ∙ apart xs)
    where
      apart : (ys : List Parameter) → shown_on (inputs_of gs ys) ρ (added x shriek (shown_on (outputs_of gs xs) ρ S)) ≡ added x shriek (shown_on (inputs_of gs ys) ρ (shown_on (outputs_of gs xs) ρ S))
      apart ys = inputs-over gs ρ ys x.declaration.declared (shown_on (outputs_of gs xs) ρ S) (type_bound x.declaration.type)

  parameters-of : (xs : List Parameter) → TypesFit gs (map (λ (x : Parameter). x.declaration) xs) → TypesNear (map (λ (x : Parameter). x.declaration) xs) → (i : ℕ)
      → marks_of true (length xs) (parameter_codes i xs ρ) 0 S ≡ both xs
  unfolding marks_of parameter_codes parameters_of shown_on variables filter
  parameters-of [] t u i = refl
  parameters-of (x ∷ xs) t u i =
      one-marked i (ending_of x.direction) x.declaration ρ (parameter_codes (i + 3 + type_width x.declaration.type) xs ρ) (length xs) 0 S
      ∙ ap₂ (λ (T : Bounds) (n : ℕ). set T n (type_bound x.declaration.type)) (parameters-of xs (tail-fit t) (tail-near u) (i + 3 + type_width x.declaration.type))
      (add-zero (number_of_name ρ x.declaration.declared (ending_of x.direction)))
      ∙ parameter-one x xs (head-fit t) (head_near u) x.direction refl

  pub parameters-marks : (xs : List Parameter) → TypesFit gs (map (λ (x : Parameter). x.declaration) xs) → TypesNear (map (λ (x : Parameter). x.declaration) xs) → (i : ℕ)
      → marks true (parameter_codes i xs ρ) 0 S ≡ both xs
  parameters-marks xs t u i =
      ap (λ (k : ℕ). marks_of true k (parameter_codes i xs ρ) 0 S) (eighth (length (parameter_codes i xs ρ)) (length xs) (parameters-long i xs ρ)) ∙ parameters-of xs t u i
