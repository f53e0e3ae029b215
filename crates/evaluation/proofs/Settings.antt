-- What is claimed of each tree, in a setting: a scope with its slots, and an environment whose values the slots have; and the setting inside a binder.
use mathlib.Core.Path.{◌≡◌, subst}
use mathlib.Core.List.{List, ◌∷◌}
use Prim.Native.Nat.{ℕ, suc, ◌≤◌}
use native.Mathlib.Omega.{arith}
use lib.ListN.{set}
use lib.IntN.{ℤ, pos, ◌-ℤ◌}
use Rattle.table_places.specs.FormTree.{Letters, Domain, Term, Items, Pairs, Pred}
use Rattle.value_types.specs.StaticRulesCarriers.{plain}
use Rattle.value_types.specs.StaticRulesTypes.{Ty}
use Rattle.value_types.specs.StaticRulesScope.{Scope, binding}
use Rattle.value_types.specs.StaticRulesNames.{domain_carrier}
use Rattle.value_types.specs.MeaningValues.{Value}
use Rattle.value_types.specs.MeaningBindings.{Among}
use Rattle.value_types.specs.MeaningMeaning.{Environment, with, domain_values, value, items_value, pairs_value, holds}
use Rattle.value_types.specs.TypedValues.{HasType}
use Rattle.value_types.proofs.TypedTerms.{typed-term}
use Rattle.value_types.proofs.SizedTerms.{small-term}
use Rattle.value_types.proofs.Binders.{binding-in-reach, binding-carried}
use Rattle.table_places.specs.NodeSpansSpans.{Stands}
use Rattle.table_places.specs.TableNodesTableByNumber.{next_slot}
use Rattle.table_places.specs.ResolvedTable.{Slots, type_in, term_table, items_table, pairs_table, pred_table}
use Rattle.evaluation.specs.OperatorsByNumber.{Small}
use Rattle.evaluation.specs.EvaluationByNumber.{Values, Bound, TermIs, ItemsIs, TruthIs}
use Rattle.evaluation.specs.SlotValues.{bound_slot, Held}
use Rattle.evaluation.specs.Heights.{height_term, height_items, height_pairs, height_pred}
use Rattle.evaluation.proofs.SlotNames.{next-slot, held_with}
use Rattle.value_types.proofs.StaticRulesTypePlaces.{type-placed}
use Rattle.evaluation.proofs.SoundTrees.{SoundTerm, SoundItems, SoundPairs, SoundPred, Binder}
use Rattle.evaluation.proofs.DomainNodes.{DomainNode, domain-among}

-- a scope with its slots, and an environment whose values the slots have
pub record Setting : Type 0 where
  pub Γ : Scope
  pub W : Slots
  pub k : ℕ
  pub ρ : Environment
  pub σ : Values
  pub held : Held Γ W k ρ σ

-- what is claimed of each tree
abbrev pub TermHere : List ℕ → Setting → Term → Type 0
TermHere table S t =
    (p e f : ℕ) → SoundTerm t S.Γ S.k → Stands table p e (term_table t S.Γ S.W (bound_slot S.k) p) → e ≤ 16384 → height_term t ≤ f
    → TermIs f table e S.σ (value t S.ρ).code

abbrev pub ItemsHere : List ℕ → Setting → Items → Type 0
ItemsHere table S ts =
    (p e f : ℕ) → SoundItems ts S.Γ S.k → Stands table p e (items_table ts S.Γ S.W (bound_slot S.k) p) → e ≤ 16384 → height_items ts ≤ f
    → ItemsIs f table e S.σ (items_value ts S.ρ).code

abbrev pub PairsHere : List ℕ → Setting → Pairs → Type 0
PairsHere table S ts =
    (p e f : ℕ) → SoundPairs ts S.Γ S.k → Stands table p e (pairs_table ts S.Γ S.W (bound_slot S.k) p) → e ≤ 16384 → height_pairs ts ≤ f
    → ItemsIs f table e S.σ (pairs_value ts S.ρ).code

abbrev pub PredHere : List ℕ → Setting → Pred → Type 0
PredHere table S p =
    (b e f : ℕ) → SoundPred p S.Γ S.k → Stands table b e (pred_table p S.Γ S.W (bound_slot S.k) b) → e ≤ 16384 → height_pred p ≤ f
    → TruthIs f table e S.σ (holds p S.ρ)

-- the values of such terms have their types, and are small
module _ (S : Setting) where
  pub term-typed : (t : Term) → SoundTerm t S.Γ S.k → HasType S.ρ (type_in S.Γ t) (value t S.ρ)
  term-typed t s =
      subst (λ (τ : Ty). HasType S.ρ τ (value t S.ρ)) (type-placed t S.Γ s.at 0)
      (typed-term t S.Γ S.ρ s.at S.held.reach S.held.carried s.within s.judged)

  pub term-small : (t : Term) → SoundTerm t S.Γ S.k → Small (value t S.ρ).code
  term-small t s = small-term t S.Γ S.ρ s.at s.sized_at S.held.reach S.held.carried s.within s.judged s.sized

-- ---- one name more: the setting with the value v for x

pub inner : (S : Setting) (x : Letters) (d : Domain) (p : Pred) (v : Value) → Binder S.Γ S.k x d p → Among v (domain_values S.ρ d) → Setting
inner S x d p v b m =
    record {
      Γ = binding S.Γ x (domain_carrier S.Γ d);
      W = (plain x, bound_slot S.k) ∷ S.W;
      k = suc S.k;
      ρ = with S.ρ x v;
      σ = set S.σ (bound_slot S.k) v.code;
      held =
          held_with S.Γ S.W S.k S.ρ S.σ x (domain_carrier S.Γ d) v S.held b.few
          (binding-in-reach S.Γ x d b.place S.held.reach b.known b.ends) (binding-carried S.Γ S.ρ x d v S.held.carried m);
    }

-- a binder's predicate, for each value of what is bound over
pub bound-each : (table : List ℕ) (S : Setting) (x : Letters) (d : Domain) (q : Pred) → ((s : Setting) → PredHere table s q) → (b : Binder S.Γ S.k x d q)
    → (n : DomainNode S.Γ S.ρ d) (p e f : ℕ)
    → Stands table p e (pred_table q (binding S.Γ x (domain_carrier S.Γ d)) ((plain x, bound_slot S.k) ∷ S.W) (next_slot (bound_slot S.k)) p)
    → e ≤ 16384 → height_pred q ≤ f
    → Bound (λ j τ c. TruthIs f table j τ c) e (bound_slot S.k) (pos n.low -ℤ pos 1000) n.count S.σ (λ i. holds q (with S.ρ x (n.at i)))
unfolding inner
bound-each table S x d q P b n p e f st l h =
    let few = b.few in
    let z : next_slot (bound_slot S.k) ≡ bound_slot (suc S.k) = next-slot S.k (omega arith) in
    record {
      free = omega arith;
      each =
          λ i r.
          subst (λ (y : ℤ). TruthIs f table e (set S.σ (bound_slot S.k) y) (holds q (with S.ρ x (n.at i)))) (n.coded i)
          (P (inner S x d q (n.at i) b (domain-among S.Γ S.ρ d n i r)) p e f b.body (rw z at st) l h);
    }
