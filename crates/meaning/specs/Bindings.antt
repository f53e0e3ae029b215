-- Document 01, "Order": the values of a carrier, and the bindings of a group of variables, in the fixed order.
use Rattle.std.specs.Prelude.{◌≡◌, ◌⊎◌, List, [], ◌∷◌, ◌++◌, map, ℕ, ◌*◌, ◌^◌}
use Rattle.static_rules.specs.LexicalLists.{filter, upward}
use Rattle.static_rules.specs.FormTree.{Arrow, relation, partial, total}
use Rattle.static_rules.specs.Carriers.{Carrier, elements_of, numbers, subsets_of, pairs_in, Variable, size_of}
use Rattle.sets.specs.Sets as sets
use Rattle.meaning.specs.Values as val
use Rattle.meaning.specs.Values.{Value}
use Rattle.meaning.specs.Meaning.{Binding, element_values, number_values}

-- "sets by bits as a number": all sets of pairs, the partial functions among them, the total ones
unfoldable pub pair_sets : Arrow → (n m : ℕ) → List ℕ
pair_sets relation n m = upward 0 (2 ^ (n * m))
pair_sets partial n m = filter (sets.is_partial n m) (upward 0 (2 ^ (n * m)))
pair_sets total n m = filter (sets.is_total n m) (upward 0 (2 ^ (n * m)))

unfoldable pub values_of : Carrier → List Value
values_of (elements_of g) = element_values (size_of g)
values_of (numbers a b) = number_values a b
values_of (subsets_of g) = map (val.set (size_of g)) (upward 0 (2 ^ size_of g))
values_of (pairs_in a g h) = map (val.pairs (size_of g) (size_of h)) (pair_sets a (size_of g) (size_of h))

unfoldable pub flat : {A B : Type 0} → (A → List B) → List A → List B
flat f [] = []
flat f (x ∷ xs) = f x ++ flat f xs

-- "each group as declared, the last variable fastest"
unfoldable pub bindings : List Variable → List Binding
bindings [] = [] ∷ []
bindings (v ∷ vs) = let bs : List Binding = bindings vs in flat (λ (x : Value). map (λ (b : Binding). (v.called, x) ∷ b) bs) (values_of v.carrier)

-- x is one of the list
unfoldable pub Among : {A : Type 0} → A → List A → Type 0
Among x [] = ⊥
Among x (y ∷ ys) = (x ≡ y) ⊎ Among x ys

-- a binding over the carriers of the variables: each by its name, with a value of its carrier
unfoldable pub Over : List Variable → Binding → Type 0
Over [] [] = Unit {0}
Over [] (b ∷ bs) = ⊥
Over (v ∷ vs) [] = ⊥
Over (v ∷ vs) (b ∷ bs) = (b.0 ≡ v.called) × Among b.1 (values_of v.carrier) × Over vs bs
