-- A predicate holds exactly if all its conjuncts do: ( ) and `and` split it, all else is whole.
use mathlib.Core.Path.{◌≡◌, refl, sym, ap₂, ◌∙◌}
use mathlib.Core.Bool.{Bool, true, false, ◌&&◌}
use mathlib.Core.List.{List, [], ◌∷◌, ◌++◌}
use Rattle.static_rules.specs.LexicalLists.{all}
use Rattle.static_rules.specs.FormTree.{and, or, implies, iff}
use Rattle.static_rules.specs.FormTree.{Pred, truth, falsity, negation, paren, quantified, connected, compared, member, within, related}
use Rattle.meaning.specs.Values.{connect}
use Rattle.meaning.specs.Meaning.{Environment, holds}

-- in the order of the text
unfoldable pub conjuncts : Pred → List Pred
conjuncts truth = truth ∷ []
conjuncts falsity = falsity ∷ []
conjuncts (negation p) = negation p ∷ []
conjuncts (paren p) = conjuncts p
conjuncts (quantified q x t p) = quantified q x t p ∷ []
conjuncts (connected and p q) = conjuncts p ++ conjuncts q
conjuncts (connected or p q) = connected or p q ∷ []
conjuncts (connected implies p q) = connected implies p q ∷ []
conjuncts (connected iff p q) = connected iff p q ∷ []
conjuncts (compared o t u) = compared o t u ∷ []
conjuncts (member o t u) = member o t u ∷ []
conjuncts (within o t r) = within o t r ∷ []
conjuncts (related o t u v) = related o t u v ∷ []

all_one : (f : Pred → Bool) (p : Pred) → f p ≡ all f (p ∷ [])
unfolding all
all_one f p = go (f p)
  where
    go : (b : Bool) → b ≡ elim b as (λ (c : Bool). Bool) [ true ↦ true | false ↦ false ]
    go true = refl
    go false = refl

pub all_append : (f : Pred → Bool) (ps qs : List Pred) → all f (ps ++ qs) ≡ (all f ps && all f qs)
unfolding all
all_append f [] qs = refl
all_append f (p ∷ ps) qs = go (f p) (all_append f ps qs)
  where
    go : (b : Bool) → all f (ps ++ qs) ≡ (all f ps && all f qs)
        → ◌≡◌ {A = Bool} (elim b [ true ↦ all f (ps ++ qs) | false ↦ false ]) ((elim b as (λ (c : Bool). Bool) [ true ↦ all f ps | false ↦ false ]) && all f qs)
    go true h = h
    go false h = refl

and_is : (a b : Bool) → connect and a b ≡ (a && b)
unfolding connect
and_is true b = refl
and_is false b = refl

pub conjuncts-hold : (p : Pred) (ρ : Environment) → holds p ρ ≡ all (λ (q : Pred). holds q ρ) (conjuncts p)
unfolding holds conjuncts
conjuncts-hold truth ρ = all_one (λ (q : Pred). holds q ρ) truth
conjuncts-hold falsity ρ = all_one (λ (q : Pred). holds q ρ) falsity
conjuncts-hold (negation p) ρ = all_one (λ (q : Pred). holds q ρ) (negation p)
conjuncts-hold (paren p) ρ = conjuncts-hold p ρ
conjuncts-hold (quantified k x t p) ρ = all_one (λ (q : Pred). holds q ρ) (quantified k x t p)
conjuncts-hold (connected and p r) ρ =
    and_is (holds p ρ) (holds r ρ) ∙ ap₂ ◌&&◌ (conjuncts-hold p ρ) (conjuncts-hold r ρ) ∙ sym (all_append (λ (q : Pred). holds q ρ) (conjuncts p) (conjuncts r))
conjuncts-hold (connected or p r) ρ = all_one (λ (q : Pred). holds q ρ) (connected or p r)
conjuncts-hold (connected implies p r) ρ = all_one (λ (q : Pred). holds q ρ) (connected implies p r)
conjuncts-hold (connected iff p r) ρ = all_one (λ (q : Pred). holds q ρ) (connected iff p r)
conjuncts-hold (compared o t u) ρ = all_one (λ (q : Pred). holds q ρ) (compared o t u)
conjuncts-hold (member o t u) ρ = all_one (λ (q : Pred). holds q ρ) (member o t u)
conjuncts-hold (within o t r) ρ = all_one (λ (q : Pred). holds q ρ) (within o t r)
conjuncts-hold (related o t u v) ρ = all_one (λ (q : Pred). holds q ρ) (related o t u v)
