-- The scope inside a binder, and its environments. Cited by proofs over predicates too.
use mathlib.Core.Path.{◌≡◌, refl, sym, subst}
use mathlib.Core.Bool.{Bool, true, false}
use mathlib.Core.List.{List, []}
use mathlib.Core.Option.{Option, none, some}
use Prim.Native.Nat.{ℕ, zero, suc, ◌≤◌}
use lib.IntN.{nat_abs}
use Rattle.lexical.specs.Lists.{upward}
use Rattle.lexical.specs.Symbols.{Name}
use Rattle.meaning.specs.FormTree.{Letters, End, Range, Domain, given_set, range, Given}
use Rattle.meaning.specs.StaticRulesCarriers.{signed, end_value, range_carrier, given_of}
use Rattle.meaning.specs.StaticRulesScope.{Scope, binding}
use Rattle.meaning.specs.StaticRulesNames.{known, range_faults, domain_carrier, domain_faults}
use Rattle.meaning.specs.Values.{Value}
use Rattle.meaning.specs.Meaning.{Environment, with, element_values, domain_values}
use Rattle.meaning.specs.Bindings.{values_of, Among, Over}
use Rattle.value_types.specs.TypedValues.{CarrierFits, CarriersFit, InReach, Carried, RangeWithin, DomainWithin}
use Rattle.value_types.proofs.FaultlessParts.{bound_over, range-known}
use Rattle.value_types.proofs.Reach.{size_in, named-size, given_is}
use Rattle.refusals.proofs.FaultLists.{not_nil}

signed-abs : (b : Bool) (n : ℕ) → nat_abs (signed b n) ≡ n
signed-abs true zero = refl
signed-abs true (suc n) = refl
signed-abs false n = refl

pub end-abs : (e : End) → nat_abs (end_value e) ≡ e.magnitude
end-abs e = signed-abs e.negative e.magnitude

given-fits : (gs : List Given) (g : Name) (o : Option Given) → given_of gs g ≡ o → (i : ℕ) → known o i ≡ [] → CarrierFits gs (bound_over o)
unfolding CarrierFits
given-fits gs g none e i h = not_nil _ _ h
given-fits gs g (some k) e i h = (given_is gs g k e).0

pub range-fits : (gs : List Given) (r : Range) (i : ℕ) → range_faults r i ≡ [] → RangeWithin r → CarrierFits gs (range_carrier r)
unfolding CarrierFits
range-fits gs r i e h = (
  subst (λ (n : ℕ). n ≤ 1000) (sym (end-abs r.lower)) h.0,
  subst (λ (n : ℕ). n ≤ 1000) (sym (end-abs r.upper)) h.1,
  range-known r i e,
)

-- what a name is bound over fits, if its domain has no fault
pub domain-fits : (Γ : Scope) (t : Domain) (i : ℕ) → domain_faults Γ t i ≡ [] → DomainWithin t → CarrierFits Γ.givens (domain_carrier Γ t)
unfolding CarrierFits
domain-fits Γ (given_set g) i e h = given-fits Γ.givens g (given_of Γ.givens g) refl i e
domain-fits Γ (range r) i e h = range-fits Γ.givens r i e h

pub binding-in-reach : (Γ : Scope) (x : Letters) (t : Domain) (i : ℕ) → InReach Γ → domain_faults Γ t i ≡ [] → DomainWithin t
    → InReach (binding Γ x (domain_carrier Γ t))
unfolding CarriersFit
binding-in-reach Γ x t i s e h = record { titled = s.titled; few = s.few; fit = (domain-fits Γ t i e h, s.fit) }

given-among : (o : Option Given) (v : Value) → Among v (element_values (size_in o)) → Among v (values_of (bound_over o))
unfolding element_values upward Among values_of
given-among none v m = absurd m
given-among (some g) v m = m

domain-among : (Γ : Scope) (ρ : Environment) (t : Domain) (v : Value) → Carried Γ ρ → Among v (domain_values ρ t) → Among v (values_of (domain_carrier Γ t))
unfolding domain_values values_of
domain-among Γ ρ (given_set g) v c m = given-among (given_of Γ.givens g) v (subst (λ (n : ℕ). Among v (element_values n)) (named-size Γ ρ c g) m)
domain-among Γ ρ (range r) v c m = m

pub binding-carried : (Γ : Scope) (ρ : Environment) (x : Letters) (t : Domain) (v : Value) → Carried Γ ρ → Among v (domain_values ρ t)
    → Carried (binding Γ x (domain_carrier Γ t)) (with ρ x v)
unfolding Over
binding-carried Γ ρ x t v c m = record { givens = c.givens; over = (refl, domain-among Γ ρ t v c m, c.over) }
