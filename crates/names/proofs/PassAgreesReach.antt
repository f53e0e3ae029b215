-- The names in reach of an operation's predicates: variables plain and primed, inputs and outputs; and the table once they are out of reach again.
use mathlib.Core.Path.{◌≡◌, refl, ap, ap₂, ◌∙◌, sym}
use mathlib.Core.Bool.{Bool, true, false, cond, false≢true}
use mathlib.Core.List.{List, ◌∷◌, ◌++◌}
use mathlib.Core.Option.{Option, none}
use Prim.Native.Nat.{◌≤◌, ◌<◌}
use native.Mathlib.Omega.{arith}
use lib.ListN.{set}
use Rattle.lexical.specs.Lists.{any}
use Rattle.lexical.specs.Symbols.{Name, Ending, no_ending, prime, query, shriek}
use Rattle.form.specs.Tree.{Letters, Given, Declaration, inward, outward, Parameter}
use Rattle.form.specs.Codes.{Numbering, number_of_name}
use Rattle.declared_names.specs.StaticRulesCarriers.{Variable, ending_code, same_name, plain, given_of}
use Rattle.declared_names.specs.StaticRulesTypes.{Ty}
use Rattle.declared_names.specs.StaticRulesScope as scopes
use Rattle.declared_names.specs.StaticRulesScope.{variables}
use Rattle.type_rules.specs.TypesByNumber.{Names, Sizes}
use Rattle.declared_names.specs.NamesByNumber.{Typed, variables_of, parameters_of, shown, hidden, reaching, leaving}
use Rattle.names.proofs.ReachTables.{Numbered}
use Rattle.names.proofs.TypesAgreeScope.{any-there}
use Rattle.names.proofs.PassAgreesTables.{Sees, Sits, name-refl, put, sees-same, unused}
use Rattle.names.proofs.PassAgreesTypes.{Sized}
use Rattle.names.proofs.PassAgreesDeclared.{Carried, no_carried, one_carried, fresh-none, Clear, found, or_type, after-found, has_name, used-after, has_typed, carried-names, found_none, shown-sees, hidden-sees}
use Rattle.names.proofs.PassAgreesUse.{in_use, use-here, cond-right}
use Rattle.names.proofs.PassAgreesGivens.{GivensIn}
use Rattle.names.proofs.PassAgreesNamed.{element_type, Base}
use Rattle.names.proofs.PassAgreesScopes.{first_letters, Group, group-none, group-shown, group-hidden, used-sits, free-sits}
use Rattle.names.proofs.PassAgreesConditions.{AreUsed, use-same, found-append}
use Rattle.names.proofs.PassAgreesParameters.{name_of, use-ending, variables-ending, parameters-ending, other_none, other_parameters, Primed, primed, shown-primed, hidden-primed, parameters-found}
use Rattle.std.proofs.lemmas.Bool.{false_from_ne_true}

-- ---- the definitions' order of the lists ----

module _ (t : Option Ty) (a b v c d : Option Variable) where
  plain-only : b ≡ none → v ≡ none → c ≡ none → d ≡ none → or_type b (or_type a (or_type v t)) ≡ or_type a (or_type b (or_type c (or_type d t)))
  plain-only e f g h = rw (e, f, g, h)

  prime-only : a ≡ none → v ≡ none → c ≡ none → d ≡ none → or_type b (or_type a (or_type v t)) ≡ or_type a (or_type b (or_type c (or_type d t)))
  prime-only e f g h = rw (e, f, g, h)

  input-only : a ≡ none → b ≡ none → v ≡ c → d ≡ none → or_type b (or_type a (or_type v t)) ≡ or_type a (or_type b (or_type c (or_type d t)))
  input-only e f g h = rw (e, f, g, h)

  output-only : a ≡ none → b ≡ none → c ≡ none → v ≡ d → or_type b (or_type a (or_type v t)) ≡ or_type a (or_type b (or_type c (or_type d t)))
  output-only e f g h = rw (e, f, g, h)

module _ (gs : List Given) (ds : List Declaration) (ps : List Parameter) {P : Letters → Type 0} (vs : List Variable) (k : Carried P gs (parameters_of ps) vs) where
  parameters-none : (y : Name) → ending_code y.ending < 2 → found vs y ≡ none
  parameters-none y h = found_none vs y (sym (carried-names k y) ∙ false_from_ne_true (has_typed (parameters_of ps) y) (λ e. omega (arith, parameters-ending ps y e)))

  at-ending : (l : Letters) (t : Option Ty) (e : Ending)
      → or_type (found (variables gs prime ds) (name_of l e)) (or_type (found (variables gs no_ending ds) (name_of l e)) (or_type (found vs (name_of l e)) t))
      ≡ or_type (found (variables gs no_ending ds) (name_of l e)) (or_type (found (variables gs prime ds) (name_of l e))
      (or_type (found (scopes.parameters_of gs inward ps) (name_of l e)) (or_type (found (scopes.parameters_of gs outward ps) (name_of l e)) t)))
  unfolding same_name
  at-ending l t no_ending =
      plain-only t (found (variables gs no_ending ds) (name_of l no_ending)) _ _ _ _ (other_none gs prime ds (name_of l no_ending) (λ x. refl)) (parameters-none (name_of l no_ending) (omega arith))
      (other_parameters inward gs ps (name_of l no_ending) (λ x. refl)) (other_parameters outward gs ps (name_of l no_ending) (λ x. refl))
  at-ending l t prime =
      prime-only t _ (found (variables gs prime ds) (name_of l prime)) _ _ _ (other_none gs no_ending ds (name_of l prime) (λ x. refl)) (parameters-none (name_of l prime) (omega arith))
      (other_parameters inward gs ps (name_of l prime) (λ x. refl)) (other_parameters outward gs ps (name_of l prime) (λ x. refl))
  at-ending l t query =
      input-only t _ _ _ _ _ (other_none gs no_ending ds (name_of l query) (λ x. refl)) (other_none gs prime ds (name_of l query) (λ x. refl))
      (parameters-found gs l inward ps k) (other_parameters outward gs ps (name_of l query) (λ x. refl))
  at-ending l t shriek =
      output-only t _ _ _ _ _ (other_none gs no_ending ds (name_of l shriek) (λ x. refl)) (other_none gs prime ds (name_of l shriek) (λ x. refl))
      (other_parameters inward gs ps (name_of l shriek) (λ x. refl)) (parameters-found gs l outward ps k)

  lists-in_order : (y : Name) (t : Option Ty)
      → or_type (found (variables gs prime ds) y) (or_type (found (variables gs no_ending ds) y) (or_type (found vs y) t))
      ≡ or_type (found (variables gs no_ending ds) y) (or_type (found (variables gs prime ds) y)
      (or_type (found (scopes.parameters_of gs inward ps) y) (or_type (found (scopes.parameters_of gs outward ps) y) t)))
  lists-in_order y t = at-ending y.letters t y.ending

  pub operation-reach : (y : Name) (t : Option Ty)
      → or_type (found (variables gs prime ds) y) (or_type (found (variables gs no_ending ds) y) (or_type (found vs y) t))
      ≡ or_type (found (variables gs no_ending ds ++ variables gs prime ds ++ scopes.parameters_of gs inward ps ++ scopes.parameters_of gs outward ps) y) t
  operation-reach y t =
      lists-in_order y t
      ∙ sym (found-append (variables gs no_ending ds ++ variables gs prime ds ++ scopes.parameters_of gs inward ps) (scopes.parameters_of gs outward ps) y t
      ∙ found-append (variables gs no_ending ds ++ variables gs prime ds) (scopes.parameters_of gs inward ps) y (or_type (found (scopes.parameters_of gs outward ps) y) t)
      ∙ found-append (variables gs no_ending ds) (variables gs prime ds) y (or_type (found (scopes.parameters_of gs inward ps) y) (or_type (found (scopes.parameters_of gs outward ps) y) t)))

-- ---- tables ----

carried-letters : {P : Letters → Type 0} {gs : List Given} {xs : List Typed} {vs : List Variable} → Carried P gs xs vs → (y : Name) → has_typed xs y ≡ true → P y.letters
unfolding any
carried-letters no_carried y e = absurd (false≢true e)
carried-letters {P} (one_carried {x = x} {xs = xs} c i p q e f g h) y k = first_letters P x xs p y (λ m. carried-letters h y m) k

module _ (ρ : Numbering) (P : Letters → Type 0) (ν : Numbered ρ P) {gs : List Given} (p : GivensIn P gs) (z : Sizes) (d : Sized gs z) where
  -- the title of an operation comes into use
  pub title-named : {T : Names} (us : List Letters) → Base ρ P gs T us → (x : Letters) → P x → in_use us (plain x) ≡ false → Base ρ P gs (set T (number_of_name ρ x no_ending) 2) (x ∷ us)
  title-named us s x px e =
      let w = unused ρ P ν gs d.few s (plain x) px e in
      put ρ P ν gs s (plain x) px 2 (in_use (x ∷ us)) (element_type gs) (λ y h. (any-there (λ (n : Letters). same_name (plain n) y) x us h, refl))
      (used-sits gs (in_use (x ∷ us)) (element_type gs) (plain x) (use-here x us (plain x) (name-refl (plain x))) w.1 w.0)

  module _ {T : Names} (us : List Letters) (s : Base ρ P gs T us) (ps : List Parameter) (c : Clear P gs (in_use us) (parameters_of ps)) where
    pub parameters-shown : Sees ρ P gs (shown (parameters_of ps) 0 T ρ) (λ (y : Name). cond (has_name c.variables y) true (in_use us y)) (λ (y : Name). or_type (found c.variables y) (element_type gs y))
    parameters-shown =
        sees-same ρ P ν gs (shown-sees ρ P ν gs z d c.carried s) (λ y. (used-after c.variables (in_use us) y, after-found c.fresh (element_type gs) y))

    ended-unused : (y : Name) → P y.letters → 1 ≤ ending_code y.ending → (in_use us y ≡ false) × (given_of gs y ≡ none) × (element_type gs y ≡ none)
    ended-unused y py h =
        let e = false_from_ne_true (in_use us y) (λ k. omega (arith, use-ending us y k)) in
        let w = unused ρ P ν gs d.few s y py e in
        (e, w.0, w.1)

    -- parameters go out of use
    pub parameters-hidden : {X : Names}
        → Sees ρ P gs X (λ (y : Name). cond (has_name c.variables y) true (in_use us y)) (λ (y : Name). or_type (found c.variables y) (element_type gs y))
        → Base ρ P gs (hidden (parameters_of ps) 0 0 X ρ) us
    parameters-hidden w =
        hidden-sees ρ P ν gs z d c.carried 0 w
        (λ y e. let n = sym (carried-names c.carried y) ∙ e in
        (ap (λ (b : Bool). cond b true (in_use us y)) n, ap (λ (o : Option Variable). or_type o (element_type gs y)) (found_none c.variables y n)))
        (λ y e. let h = ended-unused y (carried-letters c.carried y e) (omega (arith, parameters-ending ps y e)) in
        free-sits gs (in_use us) (element_type gs) y h.0 h.2 h.1)

    module _ {xs : List Letters} {ds : List Declaration} (g : Group ρ P ν p z d xs ds) (used : AreUsed ds us) where
      primes : Primed P gs (λ (y : Name). in_use xs (plain y.letters)) ds
      primes = primed gs ds g.carried g.fresh (λ (y : Name). in_use xs (plain y.letters)) (λ l. refl)

      -- the variables come into reach, plain and primed
      pub reaching-sees : {X : Names}
          → Sees ρ P gs X (λ (y : Name). cond (has_name c.variables y) true (in_use us y)) (λ (y : Name). or_type (found c.variables y) (element_type gs y))
          → Sees ρ P gs (reaching ds X ρ)
          (λ (y : Name). cond (has_name (variables gs prime ds) y) true (cond (has_typed (variables_of no_ending ds) y) true (cond (has_name c.variables y) true (in_use us y))))
          (λ (y : Name). or_type (found (variables gs prime ds) y) (or_type (found (variables gs no_ending ds) y) (or_type (found c.variables y) (element_type gs y))))
      unfolding reaching
      reaching-sees {X} w =
          rw (shown-primed ds (shown (variables_of no_ending ds) 0 X ρ) ρ)
          (sees-same ρ P ν gs
          (shown-sees ρ P ν gs z d primes.carried
          (group-shown ρ P ν p z d g w (λ (y : Name). cond (has_typed (variables_of no_ending ds) y) true (cond (has_name c.variables y) true (in_use us y))) (λ y. refl)))
          (λ y. (used-after (variables gs prime ds) _ y, after-found primes.fresh _ y)))

      prime-none : (y : Name) → has_typed (variables_of prime ds) y ≡ false → has_name (variables gs prime ds) y ≡ false
      prime-none y e = sym (carried-names primes.carried y) ∙ e

      -- the plain names in use are those of before
      pub reaching-uses : (l : Letters)
          → cond (has_name (variables gs prime ds) (plain l)) true (cond (has_typed (variables_of no_ending ds) (plain l)) true (cond (has_name c.variables (plain l)) true (in_use us (plain l))))
          ≡ in_use us (plain l)
      reaching-uses l =
          let m = prime-none (plain l) (false_from_ne_true (has_typed (variables_of prime ds) (plain l)) (λ h. omega (arith, variables-ending prime ds (plain l) h))) in
          let n : has_name c.variables (plain l) ≡ false
          = sym (carried-names c.carried (plain l)) ∙ false_from_ne_true (has_typed (parameters_of ps) (plain l)) (λ h. omega (arith, parameters-ending ps (plain l) h)) in
          ap₂ (λ (x y : Bool). cond x true (cond (has_typed (variables_of no_ending ds) (plain l)) true (cond y true (in_use us (plain l))))) m n
          ∙ use-same (has_typed (variables_of no_ending ds) (plain l)) (in_use us (plain l)) (used (plain l))

      plain-left : (y : Name) → has_typed (variables_of no_ending ds) y ≡ true
          → (cond (has_name (variables gs prime ds) y) true (cond (has_name c.variables y) true (in_use us y)) ≡ true)
          × (or_type (found (variables gs prime ds) y) (or_type (found c.variables y) (element_type gs y)) ≡ none)
      plain-left y e =
          let n = prime-none y (false_from_ne_true (has_typed (variables_of prime ds) y) (λ h. omega (arith, variables-ending prime ds y h, variables-ending no_ending ds y e))) in
          let f = found_none (variables gs prime ds) y n in
          let v = fresh-none c.fresh y (used y e) in
          let w = (g.away y e).1 in (
            cond-right (has_name (variables gs prime ds) y) _ (cond-right (has_name c.variables y) (in_use us y) (used y e)),
            rw (f, v, w),
          )

      prime-left : (y : Name) → has_typed (variables_of prime ds) y ≡ true
          → Sits gs (λ (y : Name). cond (has_name c.variables y) true (in_use us y)) (λ (y : Name). or_type (found c.variables y) (element_type gs y)) y 0
      prime-left y e =
          let k = variables-ending prime ds y e in
          let h = ended-unused y (carried-letters primes.carried y e) (omega arith) in
          let n : has_name c.variables y ≡ false = sym (carried-names c.carried y) ∙ false_from_ne_true (has_typed (parameters_of ps) y) (λ m. omega (arith, parameters-ending ps y m)) in
          free-sits gs (λ (y : Name). cond (has_name c.variables y) true (in_use us y)) (λ (y : Name). or_type (found c.variables y) (element_type gs y)) y
          (ap₂ (λ (a b : Bool). cond a true b) n h.0) (ap₂ (λ (o : Option Variable) (t : Option Ty). or_type o t) (found_none c.variables y n) h.2) h.1

      -- and go out of reach
      pub leaving-sees : {X : Names}
          → Sees ρ P gs X
          (λ (y : Name). cond (has_name (variables gs prime ds) y) true (cond (has_typed (variables_of no_ending ds) y) true (cond (has_name c.variables y) true (in_use us y))))
          (λ (y : Name). or_type (found (variables gs prime ds) y) (or_type (found (variables gs no_ending ds) y) (or_type (found c.variables y) (element_type gs y))))
          → Sees ρ P gs (leaving ds X ρ) (λ (y : Name). cond (has_name c.variables y) true (in_use us y)) (λ (y : Name). or_type (found c.variables y) (element_type gs y))
      unfolding leaving
      leaving-sees {X} w =
          rw (hidden-primed ds 0 (hidden (variables_of no_ending ds) 0 2 X ρ) ρ)
          (hidden-sees ρ P ν gs z d primes.carried 0
          (group-hidden ρ P ν p z d g w (λ (y : Name). cond (has_name (variables gs prime ds) y) true (cond (has_name c.variables y) true (in_use us y)))
          (λ (y : Name). or_type (found (variables gs prime ds) y) (or_type (found c.variables y) (element_type gs y)))
          (λ y e. (
            ap (λ (b : Bool). cond (has_name (variables gs prime ds) y) true (cond b true (cond (has_name c.variables y) true (in_use us y)))) e,
            ap (λ (o : Option Variable). or_type (found (variables gs prime ds) y) (or_type o (or_type (found c.variables y) (element_type gs y)))) (group-none ρ P ν p z d g y e),
          ))
          plain-left)
          (λ y e. let n = prime-none y e in (
            ap (λ (b : Bool). cond b true (cond (has_name c.variables y) true (in_use us y))) n,
            ap (λ (o : Option Variable). or_type o (or_type (found c.variables y) (element_type gs y))) (found_none (variables gs prime ds) y n),
          ))
          prime-left)
