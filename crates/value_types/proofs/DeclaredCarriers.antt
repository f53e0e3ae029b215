-- Declared types without faults have carriers that fit. So declarations and their variables stand side by side, in a state and among inputs and outputs.
use mathlib.Core.Path.{◌≡◌, refl, sym, ap, ◌∙◌, subst}
use mathlib.Core.Bool.{Bool, true, false, not}
use mathlib.Core.Logic.{inl, inr}
use mathlib.Core.List.{List, [], ◌∷◌, ◌++◌}
use mathlib.Core.Option.{Option, some, none-ne-some, some-injective}
use Prim.Native.Nat.{ℕ, zero, suc, ◌+◌, ◌*◌, ◌≤◌}
use lib.ListN.{length, get_elem?}
use borrow.Author.Tests.{leb-true}
use Rattle.lexical.specs.Lists.{any, filter}
use Rattle.lexical.specs.Symbols.{Name, Ending}
use Rattle.refusals.specs.Refusals.{fault, unless, name_in_use}
use Rattle.meaning.specs.FormTree.{Letters, Arrow, Given, TypeForm, given_type, power_type, range_type, arrow_type}
use Rattle.meaning.specs.FormTree.{Declaration, Direction, inward, outward, Parameter, Operation}
use Rattle.meaning.specs.FormWritten.{ending_of, write_type}
use Rattle.meaning.specs.FormHeadings.{operation_length}
use Rattle.meaning.specs.StaticRulesCarriers.{Carrier, elements_of, subsets_of, pairs_in, Variable, range_carrier, size_of, same_name, given_of, carrier_of}
use Rattle.meaning.specs.StaticRulesScope.{variables, is_input, is_output, parameters_of}
use Rattle.meaning.specs.StaticRulesNames.{known, pairs_fault, new_name, type_faults, declaration_faults, parameter_name, parameter_faults, operation_faults}
use Rattle.meaning.specs.Bindings.{Among}
use Rattle.value_types.specs.TypedValues.{CarrierFits, CarriersFit}
use Rattle.value_types.specs.FaultlessContexts.{TypeWithin, DeclarationsWithin, ParametersWithin}
use Rattle.value_types.proofs.Reach.{given_is}
use Rattle.value_types.proofs.Binders.{range-fits}
use Rattle.refusals.proofs.FaultLists.{append_nil-three, unless-nil}
use Rattle.meaning.proofs.StaticRulesFaultless.{given-known}
pub use Rattle.meaning.proofs.StaticRulesFoundCarriers.{declarations_of}
use Rattle.meaning.proofs.StaticRulesFoundCarriers.{arrow-carrier, given-carrier, power-carrier, variables-one}

-- a declared type whose given sets are known, and which fits if its numbers are at most 1,000
pub record HasCarrier (gs : List Given) (t : TypeForm) : Type 0 where
  pub carrier : Carrier
  pub is : carrier_of gs t ≡ some carrier
  pub fits : TypeWithin t → CarrierFits gs carrier

unfoldable pub HaveCarriers : List Given → List Declaration → Type 0
HaveCarriers gs [] = Unit {0}
HaveCarriers gs (d ∷ ds) = HasCarrier gs d.type × HaveCarriers gs ds

-- ---- types

pairs-known : (g h : Given) (i : ℕ) → pairs_fault (some g) (some h) i ≡ [] → size_of g * size_of h ≤ 16
unfolding pairs_fault
pairs-known g h i e = leb-true (size_of g * size_of h) 16 (unless-nil _ _ e)

few-pairs : (o p : Option Given) (g h : Given) (i : ℕ) → o ≡ some g → p ≡ some h → pairs_fault o p i ≡ [] → size_of g * size_of h ≤ 16
few-pairs o p g h i e f n =
    pairs-known g h i (subst (λ (x : Option Given). pairs_fault x (some h) i ≡ []) e (subst (λ (x : Option Given). pairs_fault o x i ≡ []) f n))

arrow-parts : (gs : List Given) (a : Arrow) (x y : Name) (i : ℕ) → type_faults gs (arrow_type a x y) i ≡ []
    → (known (given_of gs x) i ≡ []) × (known (given_of gs y) (i + 2) ≡ []) × (pairs_fault (given_of gs x) (given_of gs y) (suc i) ≡ [])
unfolding type_faults
arrow-parts gs a x y i e = append_nil-three _ _ _ e

pub type-carries : (gs : List Given) (t : TypeForm) (i : ℕ) → type_faults gs t i ≡ [] → HasCarrier gs t
unfolding type_faults carrier_of CarrierFits
type-carries gs (given_type x) i e =
    let g = given-known (given_of gs x) i e in
    record { carrier = elements_of g.0; is = given-carrier gs x g.0 g.1; fits = λ w. (given_is gs x g.0 g.1).0 }
type-carries gs (power_type x) i e =
    let g = given-known (given_of gs x) (suc i) e in
    record { carrier = subsets_of g.0; is = power-carrier gs x g.0 g.1; fits = λ w. (given_is gs x g.0 g.1).0 }
type-carries gs (range_type r) i e = record { carrier = range_carrier r; is = refl; fits = λ w. range-fits gs r i e w }
type-carries gs (arrow_type a x y) i e =
    let k = arrow-parts gs a x y i e in
    let g = given-known (given_of gs x) i k.0 in
    let h = given-known (given_of gs y) (i + 2) k.1 in
    record {
      carrier = pairs_in a g.0 h.0;
      is = arrow-carrier gs a x y g.0 h.0 g.1 h.1;
      fits = λ w.
          ((given_is gs x g.0 g.1).0, (given_is gs y h.0 h.1).0, few-pairs (given_of gs x) (given_of gs y) g.0 h.0 (suc i) g.1 h.1 k.2);
    }

-- ---- declarations and parameters

declaration-parts : (gs : List Given) (xs : List Letters) (i : ℕ) (d : Declaration) (ds : List Declaration) → declaration_faults gs xs i (d ∷ ds) ≡ []
    → (new_name xs d.declared i ≡ []) × (type_faults gs d.type (i + 2) ≡ [])
    × (declaration_faults gs (d.declared ∷ xs) (i + 3 + length (write_type d.type [])) ds ≡ [])
unfolding declaration_faults
declaration-parts gs xs i d ds e = append_nil-three _ _ _ e

pub declarations-carry : (gs : List Given) (xs : List Letters) (i : ℕ) (ds : List Declaration) → declaration_faults gs xs i ds ≡ [] → HaveCarriers gs ds
unfolding HaveCarriers
declarations-carry gs xs i [] e = tt
declarations-carry gs xs i (d ∷ ds) e =
    let k = declaration-parts gs xs i d ds e in
    (type-carries gs d.type (i + 2) k.1, declarations-carry gs (d.declared ∷ xs) (i + 3 + length (write_type d.type [])) ds k.2)

parameter-parts : (gs : List Given) (xs : List Parameter) (i : ℕ) (y : Parameter) (ys : List Parameter) → parameter_faults gs xs i (y ∷ ys) ≡ []
    → (unless (not (any (λ (x : Parameter). same_name (parameter_name x) (parameter_name y)) xs)) (fault i name_in_use) ≡ [])
    × (type_faults gs y.declaration.type (i + 2) ≡ []) × (parameter_faults gs (y ∷ xs) (i + 3 + length (write_type y.declaration.type [])) ys ≡ [])
unfolding parameter_faults
parameter-parts gs xs i y ys e = append_nil-three _ _ _ e

pub parameters-carry : (gs : List Given) (xs : List Parameter) (i : ℕ) (ys : List Parameter) → parameter_faults gs xs i ys ≡ []
    → HaveCarriers gs (declarations_of ys)
unfolding HaveCarriers
parameters-carry gs xs i [] e = tt
parameters-carry gs xs i (y ∷ ys) e =
    let k = parameter-parts gs xs i y ys e in (
      type-carries gs y.declaration.type (i + 2) k.1,
      parameters-carry gs (y ∷ xs) (i + 3 + length (write_type y.declaration.type [])) ys k.2,
    )

operation-parts : (gs : List Given) (xs : List Letters) (i : ℕ) (o : Operation) (os : List Operation) → operation_faults gs xs i (o ∷ os) ≡ []
    → (new_name xs o.title (suc i) ≡ []) × (parameter_faults gs [] (i + 2) o.parameters ≡ [])
    × (operation_faults gs (o.title ∷ xs) (i + operation_length o) os ≡ [])
unfolding operation_faults
operation-parts gs xs i o os e = append_nil-three _ _ _ e

pub operations-carry : (gs : List Given) (xs : List Letters) (i : ℕ) (os : List Operation) → operation_faults gs xs i os ≡ [] → (o : Operation) → Among o os
    → HaveCarriers gs (declarations_of o.parameters)
unfolding Among
operations-carry gs xs i [] e o m = absurd m
operations-carry gs xs i (p ∷ os) e o (inl k) =
    subst (λ (x : Operation). HaveCarriers gs (declarations_of x.parameters)) (sym k)
    (parameters-carry gs [] (i + 2) p.parameters (operation-parts gs xs i p os e).1)
operations-carry gs xs i (p ∷ os) e o (inr m) = operations-carry gs (p.title ∷ xs) (i + operation_length p) os (operation-parts gs xs i p os e).2 o m

-- ---- the inputs, or the outputs, as declared

abbrev pub goes : Direction → Direction → Bool
goes inward x = is_input x
goes outward x = is_output x

abbrev pub declared_in : Direction → List Parameter → List Declaration
declared_in δ ys = declarations_of (filter (λ (x : Parameter). goes δ x.direction) ys)

pub parameters-are : (gs : List Given) (δ : Direction) (ys : List Parameter) → parameters_of gs δ ys ≡ variables gs (ending_of δ) (declared_in δ ys)
unfolding parameters_of
parameters-are gs inward ys = refl
parameters-are gs outward ys = refl

module _ (f : Parameter → Bool) where
  filter-carry : (gs : List Given) (ys : List Parameter) → HaveCarriers gs (declarations_of ys) → HaveCarriers gs (declarations_of (filter f ys))
  unfolding filter HaveCarriers
  filter-carry gs [] h = tt
  filter-carry gs (y ∷ ys) h = on (f y) (filter-carry gs ys h.1)
    where
      on : (b : Bool) → HaveCarriers gs (declarations_of (filter f ys))
          → HaveCarriers gs (declarations_of (elim b as (λ (c : Bool). List Parameter) [ true ↦ y ∷ filter f ys | false ↦ filter f ys ]))
      on true r = (h.0, r)
      on false r = r

  filter-within : (ys : List Parameter) → ParametersWithin ys → ParametersWithin (filter f ys)
  unfolding filter DeclarationsWithin
  filter-within [] h = tt
  filter-within (y ∷ ys) h = on (f y) (filter-within ys h.1)
    where
      on : (b : Bool) → ParametersWithin (filter f ys)
          → ParametersWithin (elim b as (λ (c : Bool). List Parameter) [ true ↦ y ∷ filter f ys | false ↦ filter f ys ])
      on true r = (h.0, r)
      on false r = r

pub declared-in : (gs : List Given) (δ : Direction) (ys : List Parameter) → HaveCarriers gs (declarations_of ys) → HaveCarriers gs (declared_in δ ys)
declared-in gs δ ys h = filter-carry (λ (x : Parameter). goes δ x.direction) gs ys h

-- ---- variables

-- the variable that stands for a declaration
abbrev pub variable_of : Ending → Declaration → Carrier → Variable
variable_of e d c = record { called = record { letters = d.declared; ending = e }; carrier = c }

pub declared-length : (gs : List Given) (e : Ending) (ds : List Declaration) → HaveCarriers gs ds → length (variables gs e ds) ≡ length ds
unfolding variables HaveCarriers
declared-length gs e [] h = refl
declared-length gs e (d ∷ ds) h =
    ap (length {A = Variable}) (variables-one gs e d ds h.0.carrier h.0.is) ∙ ap suc (declared-length gs e ds h.1)

-- the n-th variable is that of the n-th declaration, and the other way round
pub record VariableAt (gs : List Given) (e : Ending) (ds : List Declaration) (n : ℕ) (d : Declaration) : Type 0 where
  pub carrier : Carrier
  pub is : carrier_of gs d.type ≡ some carrier
  pub at : get_elem? (variables gs e ds) n ≡ some (variable_of e d carrier)

pub declared-carriers : (gs : List Given) (e : Ending) (ds : List Declaration) → HaveCarriers gs ds → (n : ℕ) (d : Declaration) → get_elem? ds n ≡ some d
    → VariableAt gs e ds n d
unfolding HaveCarriers
declared-carriers gs e [] h n d k = absurd (none-ne-some d k)
declared-carriers gs e (x ∷ ds) h zero d k =
    subst (VariableAt gs e (x ∷ ds) zero) (some-injective x d k)
    (record {
      carrier = h.0.carrier;
      is = h.0.is;
      at = ap (λ (vs : List Variable). get_elem? vs zero) (variables-one gs e x ds h.0.carrier h.0.is);
    })
declared-carriers gs e (x ∷ ds) h (suc n) d k =
    let r = declared-carriers gs e ds h.1 n d k in
    record {
      carrier = r.carrier;
      is = r.is;
      at = ap (λ (vs : List Variable). get_elem? vs (suc n)) (variables-one gs e x ds h.0.carrier h.0.is) ∙ r.at;
    }

pub record DeclarationAt (gs : List Given) (e : Ending) (ds : List Declaration) (n : ℕ) (v : Variable) : Type 0 where
  pub declaration : Declaration
  pub at : get_elem? ds n ≡ some declaration
  pub is : carrier_of gs declaration.type ≡ some v.carrier
  pub called : v.called ≡ record { letters = declaration.declared; ending = e }

pub carriers-declared : (gs : List Given) (e : Ending) (ds : List Declaration) → HaveCarriers gs ds → (n : ℕ) (v : Variable)
    → get_elem? (variables gs e ds) n ≡ some v → DeclarationAt gs e ds n v
unfolding variables HaveCarriers
carriers-declared gs e [] h n v k = absurd (none-ne-some v k)
carriers-declared gs e (d ∷ ds) h zero v k =
    let q = sym (ap (λ (vs : List Variable). get_elem? vs zero) (variables-one gs e d ds h.0.carrier h.0.is)) ∙ k in
    subst (DeclarationAt gs e (d ∷ ds) zero) (some-injective (variable_of e d h.0.carrier) v q)
    (record { declaration = d; at = refl; is = h.0.is; called = refl })
carriers-declared gs e (d ∷ ds) h (suc n) v k =
    let q = sym (ap (λ (vs : List Variable). get_elem? vs (suc n)) (variables-one gs e d ds h.0.carrier h.0.is)) ∙ k in
    let r = carriers-declared gs e ds h.1 n v q in
    record { declaration = r.declaration; at = r.at; is = r.is; called = r.called }

-- the same for an operation's inputs, or its outputs
pub parameters-length : (gs : List Given) (δ : Direction) (ys : List Parameter) → HaveCarriers gs (declarations_of ys)
    → length (parameters_of gs δ ys) ≡ length (declared_in δ ys)
parameters-length gs δ ys h = ap (length {A = Variable}) (parameters-are gs δ ys) ∙ declared-length gs (ending_of δ) (declared_in δ ys) (declared-in gs δ ys h)

-- ---- they fit

pub variables-fit : (gs : List Given) (e : Ending) (ds : List Declaration) → HaveCarriers gs ds → DeclarationsWithin ds → CarriersFit gs (variables gs e ds)
unfolding variables HaveCarriers DeclarationsWithin CarriersFit
variables-fit gs e [] h w = tt
variables-fit gs e (d ∷ ds) h w =
    subst (CarriersFit gs) (sym (variables-one gs e d ds h.0.carrier h.0.is)) (h.0.fits w.0, variables-fit gs e ds h.1 w.1)

pub parameters-fit : (gs : List Given) (δ : Direction) (ys : List Parameter) → HaveCarriers gs (declarations_of ys) → ParametersWithin ys
    → CarriersFit gs (parameters_of gs δ ys)
parameters-fit gs δ ys h w =
    subst (CarriersFit gs) (sym (parameters-are gs δ ys))
    (variables-fit gs (ending_of δ) (declared_in δ ys) (declared-in gs δ ys h) (filter-within (λ (x : Parameter). goes δ x.direction) ys w))

pub fit_append : (gs : List Given) (vs ws : List Variable) → CarriersFit gs vs → CarriersFit gs ws → CarriersFit gs (vs ++ ws)
unfolding CarriersFit
fit_append gs [] ws h k = k
fit_append gs (v ∷ vs) ws h k = (h.0, fit_append gs vs ws h.1 k)
