-- What a name is bound over: its node has the code of the first value, and how many there are. Assumes nothing.
use mathlib.Core.Path.{◌≡◌, refl, sym, ap, subst}
use mathlib.Core.List.{List, [], map}
use mathlib.Core.Option.{Option, none, some}
use Prim.Native.Nat.{ℕ, ◌+◌, ◌-◌, ◌<◌, ◌≤◌}
use native.Mathlib.Nat.{zero-add}
use native.Mathlib.Omega.{arith}
use lib.IntN.{ℤ, pos, ◌+ℤ◌, ◌-ℤ◌}
use Rattle.lexical.specs.Lists.{upward}
use Rattle.lexical.specs.Symbols.{Name}
use Rattle.table_places.specs.FormTree.{Domain, given_set, range, Given}
use Rattle.table_places.specs.FormCodes.{node, end_number}
use Rattle.value_types.specs.StaticRulesCarriers.{end_value, given_of}
use Rattle.value_types.specs.StaticRulesScope.{Scope}
use Rattle.value_types.specs.StaticRulesNames.{domain_faults}
use Rattle.value_types.specs.MeaningValues as val
use Rattle.value_types.specs.MeaningValues.{Value}
use Rattle.value_types.specs.MeaningBindings.{Among}
use Rattle.value_types.specs.MeaningMeaning.{Environment, size_of_given, element_values, number_values, domain_values}
use Rattle.value_types.proofs.MeaningMembers.{among-map}
use Rattle.value_types.proofs.MeaningUpwardNumbers.{upward-among}
use Rattle.value_types.specs.TypedValues.{InReach, Carried, DomainWithin}
use Rattle.value_types.proofs.FaultlessParts.{range-known}
use Rattle.value_types.proofs.Reach.{size_in, given_is}
use Rattle.table_places.specs.ResolvedTable.{given_size, domain_table}
use Rattle.evaluation.proofs.RangesAgree.{low_end, range-count}
use Rattle.evaluation.proofs.TypedCodes.{given-agrees}

pub record DomainNode (Γ : Scope) (ρ : Environment) (d : Domain) : Type 0 where
  pub low : ℕ
  pub count : ℕ
  pub table : domain_table d Γ ≡ node 13 0 low count
  pub at : ℕ → Value
  pub values : domain_values ρ d ≡ map at (upward 0 count)
  pub coded : (k : ℕ) → (at k).code ≡ (pos low -ℤ pos 1000) +ℤ pos k

unfoldable pub given_node : (Γ : Scope) (ρ : Environment) (g : Name) → Carried Γ ρ → DomainNode Γ ρ (given_set g)
unfolding domain_table domain_values element_values given_size
given_node Γ ρ g c =
    record {
      low = 1000;
      count = given_size Γ.givens g;
      table = refl;
      at = val.element (size_of_given ρ g);
      values = ap (λ (n : ℕ). map (val.element (size_of_given ρ g)) (upward 0 n)) (sym (given-agrees Γ ρ c g));
      coded = λ k. ap pos (sym (zero-add k));
    }

-- no given set has more than 16 elements
pub given-few : (Γ : Scope) (g : Name) → InReach Γ → given_size Γ.givens g ≤ 16
unfolding given_size
given-few Γ g s = go (given_of Γ.givens g) refl
  where
    go : (o : Option Given) → given_of Γ.givens g ≡ o → size_in o ≤ 16
    go none e = omega arith
    go (some h) e = let f = s.few h (given_is Γ.givens g h e).0 in omega arith

pub domain-node : (Γ : Scope) (ρ : Environment) (d : Domain) (i : ℕ) → Carried Γ ρ → domain_faults Γ d i ≡ [] → DomainWithin d → DomainNode Γ ρ d
unfolding domain_table domain_values number_values
domain-node Γ ρ (given_set g) i c e h = given_node Γ ρ g c
domain-node Γ ρ (range r) i c e h =
    record {
      low = end_number r.lower;
      count = end_number r.upper + 1 - end_number r.lower;
      table = refl;
      at = λ k. val.number (end_value r.lower +ℤ pos k);
      values = ap (λ (n : ℕ). map (λ (k : ℕ). val.number (end_value r.lower +ℤ pos k)) (upward 0 n)) (sym (range-count r h (range-known r i e)));
      coded = λ k. ap (λ (z : ℤ). z +ℤ pos k) (sym (low_end r.lower h.0));
    }

-- each of them is one of the values
pub domain-among : (Γ : Scope) (ρ : Environment) (d : Domain) (n : DomainNode Γ ρ d) (k : ℕ) → k < n.count → Among (n.at k) (domain_values ρ d)
domain-among Γ ρ d n k h =
    subst (λ (vs : List Value). Among (n.at k) vs) (sym n.values)
    (among-map n.at k (upward 0 n.count) (upward-among 0 n.count k (omega arith) (omega arith)))
