-- Names with endings: parameters, and variables primed.
use mathlib.Core.Path.{◌≡◌, refl, ap, ap₂, ◌∙◌, sym, subst}
use mathlib.Core.Bool.{Bool, true, false, not, cond, false≢true}
use mathlib.Core.List.{List, [], ◌∷◌, ◌++◌, map}
use mathlib.Core.Option.{Option, none, some}
use Prim.Native.Nat.{ℕ, ◌+◌, ◌*◌, ◌≤◌}
use native.Mathlib.Omega.{arith}
use lib.ListN.{length, set}
use Rattle.lexical.specs.Kinds as kind
use Rattle.lexical.specs.Lists.{any, find, filter}
use Rattle.lexical.specs.Symbols.{Name, Ending, no_ending, prime, query, shriek}
use Rattle.refusals.specs.Refusals.{Fault, fault, unless, name_in_use}
use Rattle.form.specs.Tree.{Letters, Given, Declaration, Direction, inward, outward, Parameter}
use Rattle.form.specs.Written.{Written, bare, ending_of, inputs_after, outputs_after, write_parameters}
use Rattle.form.specs.Codes.{Numbering, number_of_name, type_width}
use Rattle.form.proofs.Lengths.{type-length}
use Rattle.declared_names.specs.StaticRulesCarriers.{Carrier, Variable, ending_code, same_name, plain, carrier_of}
use Rattle.declared_names.specs.StaticRulesScope as scopes
use Rattle.declared_names.specs.StaticRulesScope.{variables}
use Rattle.declared_names.specs.StaticRulesNames.{type_faults, parameter_name, parameter_faults}
use Rattle.type_rules.specs.TypesByNumber.{Names}
use Rattle.declared_names.specs.NamesByNumber.{variables_of, parameters_of, type_kind, shown, hidden}
use Rattle.names.proofs.TypesAgreeScope.{find-there, ended}
use Rattle.names.proofs.PassAgreesTables.{same-name}
use Rattle.names.proofs.PassAgreesDeclared.{use_of, typed_faults, typed_width, Carried, no_carried, one_carried, Fresh, no_fresh, one_fresh, found, has_typed}
use Rattle.names.proofs.PassAgreesUse.{in_use}
use Rattle.declared_names.proofs.StaticRulesFoundCarriers.{variables-one, variables-skip}
use Rattle.std.proofs.lemmas.Bool.{false_from_ne_true}

abbrev pub name_of : Letters → Ending → Name
name_of l e = record { letters = l; ending = e }

-- ---- endings ----

any-ending : {A : Type 0} (f : A → Name) (n : ℕ) → ((x : A) → ending_code (f x).ending ≡ n) → (xs : List A) (y : Name) → any (λ (x : A). same_name (f x) y) xs ≡ true → ending_code y.ending ≡ n
unfolding any
any-ending f n h [] y e = absurd (false≢true e)
any-ending f n h (x ∷ xs) y e = on (same_name (f x) y) refl e (any-ending f n h xs y)
  where
    on : (b : Bool) → same_name (f x) y ≡ b → ◌≡◌ {A = Bool} (elim b [ true ↦ true | false ↦ any (λ x. same_name (f x) y) xs ]) true
        → (any (λ x. same_name (f x) y) xs ≡ true → ending_code y.ending ≡ n) → ending_code y.ending ≡ n
    on true k e r = sym (ap (λ (m : Name). ending_code m.ending) (same-name (f x) y k)) ∙ h x
    on false k e r = r e

pub use-ending : (xs : List Letters) (y : Name) → in_use xs y ≡ true → ending_code y.ending ≡ 0
use-ending xs y e = any-ending plain 0 (λ x. refl) xs y e

pub variables-ending : (e : Ending) (ds : List Declaration) (y : Name) → has_typed (variables_of e ds) y ≡ true → ending_code y.ending ≡ ending_code e
unfolding variables_of any
variables-ending e [] y h = absurd (false≢true h)
variables-ending e (d ∷ ds) y h = on (same_name (name_of d.declared e) y) refl h (variables-ending e ds y)
  where
    on : (b : Bool) → same_name (name_of d.declared e) y ≡ b → ◌≡◌ {A = Bool} (elim b [ true ↦ true | false ↦ has_typed (variables_of e ds) y ]) true
        → (has_typed (variables_of e ds) y ≡ true → ending_code y.ending ≡ ending_code e) → ending_code y.ending ≡ ending_code e
    on true k h r = sym (ap (λ (m : Name). ending_code m.ending) (same-name (name_of d.declared e) y k))
    on false k h r = r h

pub direction-ending : (c : Direction) → 2 ≤ ending_code (ending_of c)
direction-ending inward = omega arith
direction-ending outward = omega arith

pub parameters-ending : (ps : List Parameter) (y : Name) → has_typed (parameters_of ps) y ≡ true → 2 ≤ ending_code y.ending
unfolding parameters_of any
parameters-ending [] y h = absurd (false≢true h)
parameters-ending (x ∷ ps) y h = on (same_name (parameter_name x) y) refl h (parameters-ending ps y)
  where
    on : (b : Bool) → same_name (parameter_name x) y ≡ b → ◌≡◌ {A = Bool} (elim b [ true ↦ true | false ↦ has_typed (parameters_of ps) y ]) true
        → (has_typed (parameters_of ps) y ≡ true → 2 ≤ ending_code y.ending) → 2 ≤ ending_code y.ending
    on true k h r = omega (arith, ap (λ (m : Name). ending_code m.ending) (same-name (parameter_name x) y k), direction-ending x.direction)
    on false k h r = r h

-- variables with one ending are not found by a name with another
pub other_none : (gs : List Given) (e : Ending) (ds : List Declaration) (y : Name) → ((x : Letters) → same_name (name_of x e) y ≡ false) → found (variables gs e ds) y ≡ none
unfolding variables find
other_none gs e [] y h = refl
other_none gs e (d ∷ ds) y h = on (carrier_of gs d.type) refl (other_none gs e ds y h)
  where
    on : (o : Option Carrier) → carrier_of gs d.type ≡ o → found (variables gs e ds) y ≡ none → found (variables gs e (d ∷ ds)) y ≡ none
    on none k r = ap (λ (vs : List Variable). found vs y) (variables-skip gs e d ds k) ∙ r
    on (some c) k r =
        ap (λ (vs : List Variable). found vs y) (variables-one gs e d ds c k)
        ∙ find-there (λ (w : Variable). same_name w.called y) (record { called = name_of d.declared e; carrier = c }) (variables gs e ds) (h d.declared) ∙ r

-- nor are parameters of a direction, by a name with another ending
pub other_parameters : (c : Direction) (gs : List Given) (ps : List Parameter) (y : Name) → ((x : Letters) → same_name (name_of x (ending_of c)) y ≡ false)
    → found (scopes.parameters_of gs c ps) y ≡ none
unfolding scopes.parameters_of
other_parameters inward gs ps y h = other_none gs query (map (λ (x : Parameter). x.declaration) (filter (λ (x : Parameter). scopes.is_input x.direction) ps)) y h
other_parameters outward gs ps y h = other_none gs shriek (map (λ (x : Parameter). x.declaration) (filter (λ (x : Parameter). scopes.is_output x.direction) ps)) y h

-- ---- primes ----

pub record Primed (P : Letters → Type 0) (gs : List Given) (u : Name → Bool) (ds : List Declaration) : Type 0 where
  pub carried : Carried P gs (variables_of prime ds) (variables gs prime ds)
  pub fresh : Fresh u (variables gs prime ds)

prime-used : (x : Letters) (u u' : Name → Bool) → ((l : Letters) → u' (name_of l prime) ≡ u (plain l)) → (l : Letters) → use_of (name_of x prime) u' (name_of l prime) ≡ use_of (plain x) u (plain l)
unfolding same_name
prime-used x u u' h l = ap (λ (b : Bool). cond (same_name (plain x) (plain l)) true b) (h l)

pub primed : {P : Letters → Type 0} (gs : List Given) (ds : List Declaration) {vs : List Variable} → Carried P gs (variables_of no_ending ds) vs → {u : Name → Bool} → Fresh u vs
    → (u' : Name → Bool) → ((l : Letters) → u' (name_of l prime) ≡ u (plain l)) → Primed P gs u' ds
unfolding variables_of variables same_name
primed gs [] no_carried no_fresh u' h = record { carried = no_carried; fresh = no_fresh }
primed {P} gs (d ∷ ds) (one_carried c i p q e f g k) {u} (one_fresh l m) u' h =
    let r = primed gs ds k m (use_of (name_of d.declared prime) u') (prime-used d.declared u u' h) in
    let v = variables-one gs prime d ds c f in
    record {
      carried = subst (Carried P gs (variables_of prime (d ∷ ds))) (sym v) (one_carried c i p q e f (ended gs d.declared prime (λ t. refl)) r.carried);
      fresh = subst (Fresh u') (sym v) (one_fresh (h d.declared ∙ l) r.fresh);
    }

pub shown-primed : (ds : List Declaration) (T : Names) (ρ : Numbering) → shown (variables_of no_ending ds) 1 T ρ ≡ shown (variables_of prime ds) 0 T ρ
unfolding shown variables_of number_of_name
shown-primed [] T ρ = refl
shown-primed (d ∷ ds) T ρ =
    let e : 4 * ρ d.declared + 0 + 1 ≡ 4 * ρ d.declared + 1 + 0 = omega arith in
    ap (λ (n : ℕ). shown (variables_of no_ending ds) 1 (set T n (type_kind d.type T ρ)) ρ) e ∙ shown-primed ds _ ρ

pub hidden-primed : (ds : List Declaration) (k : ℕ) (T : Names) (ρ : Numbering) → hidden (variables_of no_ending ds) 1 k T ρ ≡ hidden (variables_of prime ds) 0 k T ρ
unfolding hidden variables_of number_of_name
hidden-primed [] k T ρ = refl
hidden-primed (d ∷ ds) k T ρ =
    let e : 4 * ρ d.declared + 0 + 1 ≡ 4 * ρ d.declared + 1 + 0 = omega arith in
    ap (λ (n : ℕ). hidden (variables_of no_ending ds) 1 k (set T n k) ρ) e ∙ hidden-primed ds k _ ρ

-- ---- parameters ----

pub parameters-typed : (gs : List Given) (xs : List Parameter) (i : ℕ) (ys : List Parameter) (u : Name → Bool)
    → ((y : Parameter) → u (parameter_name y) ≡ any (λ (x : Parameter). same_name (parameter_name x) (parameter_name y)) xs) → parameter_faults gs xs i ys ≡ typed_faults gs u i (parameters_of ys)
unfolding parameter_faults typed_faults parameters_of type_width any
parameters-typed gs xs i [] u h = refl
parameters-typed gs xs i (y ∷ ys) u h =
    ap₂ (λ (b : Bool) (fs : List Fault). unless (not b) (fault i name_in_use) ++ type_faults gs y.declaration.type (i + 2) ++ fs) (sym (h y))
    (parameters-typed gs (y ∷ xs) (i + 3 + type_width y.declaration.type) ys (use_of (parameter_name y) u) (λ n. on n (same_name (parameter_name y) (parameter_name n))))
  where
    on : (n : Parameter) (b : Bool)
        → cond b true (u (parameter_name n)) ≡ (elim b as (λ (c : Bool). Bool) [ true ↦ true | false ↦ any (λ (x : Parameter). same_name (parameter_name x) (parameter_name n)) xs ])
    on n true = refl
    on n false = h n

pub parameter-unused : (xs : List Letters) (y : Parameter) → in_use xs (parameter_name y) ≡ false
parameter-unused xs y = false_from_ne_true (in_use xs (parameter_name y)) (λ e. omega (arith, use-ending xs (parameter_name y) e, direction-ending y.direction))

pub parameters-length : (m n : ℕ) (ps : List Parameter) (w : List Written) → length (write_parameters m n ps w) ≡ typed_width (parameters_of ps) + length w
unfolding write_parameters typed_width parameters_of
parameters-length m n [] w = omega arith
parameters-length m n (x ∷ ps) w =
    omega (arith, type-length x.declaration.type (bare kind.semicolon ∷ write_parameters (inputs_after x.direction m) (outputs_after x.direction n) ps w), parameters-length (inputs_after x.direction m) (outputs_after x.direction n) ps w)

found-cons : (v : Variable) (vs ws : List Variable) (y : Name) → found vs y ≡ found ws y → found (v ∷ vs) y ≡ found (v ∷ ws) y
unfolding find
found-cons v vs ws y e = ap (λ (o : Option Variable). elim (same_name v.called y) as (λ (c : Bool). Option Variable) [ true ↦ some v | false ↦ o ]) e

module _ (gs : List Given) (l : Letters) where
  -- one more variable with the ending of the name
  one-more : (e : Ending) (d : Declaration) (ds : List Declaration) (k : Carrier) → carrier_of gs d.type ≡ some k → (vs : List Variable)
      → found vs (name_of l e) ≡ found (variables gs e ds) (name_of l e)
      → found (record { called = name_of d.declared e; carrier = k } ∷ vs) (name_of l e) ≡ found (variables gs e (d ∷ ds)) (name_of l e)
  one-more e d ds k f vs h =
      found-cons (record { called = name_of d.declared e; carrier = k }) vs (variables gs e ds) (name_of l e) h
      ∙ sym (ap (λ (ws : List Variable). found ws (name_of l e)) (variables-one gs e d ds k f))

  -- a parameter of the direction b in front, among those of the direction c
  parameter-one : (c b : Direction) (d : Declaration) (ps : List Parameter) (k : Carrier) → carrier_of gs d.type ≡ some k → (vs : List Variable)
      → found vs (name_of l (ending_of c)) ≡ found (scopes.parameters_of gs c ps) (name_of l (ending_of c))
      → found (record { called = name_of d.declared (ending_of b); carrier = k } ∷ vs) (name_of l (ending_of c))
      ≡ found (scopes.parameters_of gs c (record { direction = b; declaration = d } ∷ ps)) (name_of l (ending_of c))
  unfolding scopes.parameters_of filter same_name
  parameter-one inward inward d ps k e vs h = one-more query d _ k e vs h
  parameter-one inward outward d ps k e vs h =
      find-there (λ (w : Variable). same_name w.called (name_of l query)) (record { called = name_of d.declared shriek; carrier = k }) vs refl ∙ h
  parameter-one outward inward d ps k e vs h =
      find-there (λ (w : Variable). same_name w.called (name_of l shriek)) (record { called = name_of d.declared query; carrier = k }) vs refl ∙ h
  parameter-one outward outward d ps k e vs h = one-more shriek d _ k e vs h

  pub parameters-found : {P : Letters → Type 0} (c : Direction) (ps : List Parameter) {vs : List Variable} → Carried P gs (parameters_of ps) vs
      → found vs (name_of l (ending_of c)) ≡ found (scopes.parameters_of gs c ps) (name_of l (ending_of c))
  unfolding scopes.parameters_of filter parameters_of variables find
  parameters-found inward [] no_carried = refl
  parameters-found outward [] no_carried = refl
  parameters-found c (x ∷ ps) (one_carried {vs = vs} k i p q e f g h) = parameter-one c x.direction x.declaration ps k f vs (parameters-found c ps h)
