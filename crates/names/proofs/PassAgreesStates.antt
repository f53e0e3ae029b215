-- The variables of a state: its declarations without faults, the names in reach of its predicate, and the table behind it.
use mathlib.Core.Path.{◌≡◌, refl, ap, ap₂, ◌∙◌, sym}
use mathlib.Core.Bool.{Bool, true, false, not, cond}
use mathlib.Core.List.{List, [], ◌∷◌, ◌++◌, map}
use mathlib.Core.Option.{Option, none, some}
use Prim.Native.Nat.{ℕ, suc, ◌+◌}
use native.Mathlib.Omega.{arith}
use lib.ListN.{length}
use Rattle.lexical.specs.Kinds as kind
use Rattle.lexical.specs.Lists.{same, any, find}
use Rattle.lexical.specs.Symbols.{Name, Ending, no_ending}
use Rattle.refusals.specs.Refusals.{Fault, fault, unless, name_in_use}
use Rattle.form.specs.Tree.{Letters, Given, Declaration}
use Rattle.form.specs.Written.{Written, bare, write_declarations}
use Rattle.form.specs.Codes.{type_width}
use Rattle.form.proofs.Lengths.{type-length}
use Rattle.declared_names.specs.StaticRulesCarriers.{Variable, same_name, plain}
use Rattle.declared_names.specs.StaticRulesTypes.{type_of}
use Rattle.declared_names.specs.StaticRulesScope.{Scope, is_taken, type_of_name, variables}
use Rattle.declared_names.specs.StaticRulesNames.{new_name, type_faults, declaration_faults}
use Rattle.declared_names.specs.NamesByNumber.{variables_of}
use Rattle.names.proofs.PassAgreesDeclared.{use_of, typed_faults, typed_width, Carried, no_carried, one_carried}
use Rattle.names.proofs.PassAgreesDeclared.{found, or_type, has_typed}
use Rattle.names.proofs.PassAgreesUse.{in_use, same-sym}
use Rattle.names.proofs.PassAgreesNamed.{element_type}
use Rattle.declared_names.proofs.StaticRulesFoundCarriers.{variables-one}

-- ---- the definitions' declarations, as declared names ----

more-taken : (x : Letters) (xs : List Letters) (u : Name → Bool) → ((l : Letters) → u (plain l) ≡ is_taken xs l) → (l : Letters) → use_of (plain x) u (plain l) ≡ is_taken (x ∷ xs) l
unfolding is_taken any same_name
more-taken x xs u h l =
    ap (λ (b : Bool). cond b true (u (plain l))) (same-sym x l) ∙ on (same l x)
  where
    on : (b : Bool) → cond b true (u (plain l)) ≡ (elim b as (λ (c : Bool). Bool) [ true ↦ true | false ↦ is_taken xs l ])
    on true = refl
    on false = h l

pub declarations-typed : (gs : List Given) (xs : List Letters) (i : ℕ) (ds : List Declaration) (u : Name → Bool) → ((l : Letters) → u (plain l) ≡ is_taken xs l)
    → declaration_faults gs xs i ds ≡ typed_faults gs u i (variables_of no_ending ds)
unfolding declaration_faults typed_faults variables_of new_name type_width
declarations-typed gs xs i [] u h = refl
declarations-typed gs xs i (d ∷ ds) u h =
    ap₂ (λ (b : Bool) (fs : List Fault). unless (not b) (fault i name_in_use) ++ type_faults gs d.type (i + 2) ++ fs) (sym (h d.declared))
    (declarations-typed gs (d.declared ∷ xs) (i + 3 + type_width d.type) ds (use_of (plain d.declared) u) (more-taken d.declared xs u h))

pub declarations-length : (n : ℕ) (ds : List Declaration) (w : List Written) → length (write_declarations n ds w) ≡ typed_width (variables_of no_ending ds) + length w
unfolding write_declarations typed_width variables_of
declarations-length n [] w = omega arith
declarations-length n (d ∷ ds) w =
    omega (arith, type-length d.type (bare kind.semicolon ∷ write_declarations (suc n) ds w), declarations-length (suc n) ds w)

abbrev pub names_of : List Declaration → List Letters
names_of ds = map (λ (d : Declaration). d.declared) ds

pub typed-use : (ds : List Declaration) (y : Name) → has_typed (variables_of no_ending ds) y ≡ in_use (names_of ds) y
unfolding variables_of any
typed-use [] y = refl
typed-use (d ∷ ds) y = ap (λ (b : Bool). elim (same_name (plain d.declared) y) as (λ (c : Bool). Bool) [ true ↦ true | false ↦ b ]) (typed-use ds y)

pub carried-variables : {P : Letters → Type 0} (gs : List Given) (e : Ending) (ds : List Declaration) {vs : List Variable} → Carried P gs (variables_of e ds) vs → vs ≡ variables gs e ds
unfolding variables_of variables
carried-variables gs e [] no_carried = refl
carried-variables gs e (d ∷ ds) (one_carried {vs = vs} c i p q f g h k) =
    ap (λ (ws : List Variable). record { called = record { letters = d.declared; ending = e }; carrier = c } ∷ ws) (carried-variables gs e ds k) ∙ sym (variables-one gs e d ds c g)

-- ---- a scope by its lists ----

abbrev pub scope : List Given → List Letters → List Variable → Scope
scope gs xs vs = record { givens = gs; taken = xs; reach = vs }

reach-none : (gs : List Given) (xs : List Letters) (vs : List Variable) (y : Name) → found vs y ≡ none → type_of_name (scope gs xs vs) y ≡ element_type gs y
unfolding type_of_name find
reach-none gs xs vs y e = rw (type_of_name, e)

reach-some : (gs : List Given) (xs : List Letters) (vs : List Variable) (y : Name) (v : Variable) → found vs y ≡ some v → type_of_name (scope gs xs vs) y ≡ some (type_of v.carrier)
unfolding type_of_name
reach-some gs xs vs y v e = rw (type_of_name, e)

pub type-found : (gs : List Given) (xs : List Letters) (vs : List Variable) (y : Name) → type_of_name (scope gs xs vs) y ≡ or_type (found vs y) (element_type gs y)
type-found gs xs vs y = on (found vs y) refl
  where
    on : (o : Option Variable) → found vs y ≡ o → type_of_name (scope gs xs vs) y ≡ or_type o (element_type gs y)
    on none e = reach-none gs xs vs y e
    on (some v) e = reach-some gs xs vs y v e
