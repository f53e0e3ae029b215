-- No carrier lists a value twice, and no group of variables a binding. Assumes nothing.
use mathlib.Core.Path.{◌≡◌, refl, sym, ap, ◌∙◌}
use mathlib.Core.List.{List, [], ◌∷◌, map, tail, head_d}
use Prim.Native.Nat.{ℕ, ◌*◌, ◌^◌}
use lib.IntN.{ℤ, pos, neg_ℤ, ◌+ℤ◌, +ℤ_assoc, +ℤ_invl, +ℤ_idl}
use Rattle.static_rules.specs.LexicalLists.{upward}
use Rattle.static_rules.specs.LexicalSymbols.{Name}
use Rattle.static_rules.specs.FormTree.{Arrow, relation, partial, total}
use Rattle.static_rules.specs.Carriers.{Carrier, elements_of, numbers, subsets_of, pairs_in, Variable, size_of}
use Rattle.sets.specs.Sets as sets
use Rattle.meaning.specs.Values as val
use Rattle.meaning.specs.Values.{Value, natural, bits}
use Rattle.meaning.specs.Meaning.{Binding, element_values, number_values}
use Rattle.meaning.specs.Bindings.{pair_sets, values_of, bindings, Among}
use Rattle.meaning.proofs.Bindings.{extended}
use Rattle.meaning.proofs.Distinct.{Distinct, distinct_filter, distinct-map, distinct-flat, distinct-upward, every_map}

-- how far a number lies above a
step_from : ℤ → Value → ℕ
step_from a v = natural (neg_ℤ a +ℤ v.code)

step_back : (a : ℤ) (k : ℕ) → step_from a (val.number (a +ℤ pos k)) ≡ k
unfolding step_from
step_back a k = ap natural (sym (+ℤ_assoc (neg_ℤ a) a (pos k)) ∙ ap (λ (z : ℤ). z +ℤ pos k) (+ℤ_invl a) ∙ +ℤ_idl (pos k))

distinct-pair-sets : (a : Arrow) (n m : ℕ) → Distinct (pair_sets a n m)
unfolding pair_sets
distinct-pair-sets relation n m = distinct-upward 0 (2 ^ (n * m))
distinct-pair-sets partial n m = distinct_filter (sets.is_partial n m) (upward 0 (2 ^ (n * m))) (distinct-upward 0 (2 ^ (n * m)))
distinct-pair-sets total n m = distinct_filter (sets.is_total n m) (upward 0 (2 ^ (n * m))) (distinct-upward 0 (2 ^ (n * m)))

-- "Elements go as listed, numbers upward, sets by bits as a number": each value once
pub distinct-values : (c : Carrier) → Distinct (values_of c)
unfolding values_of element_values number_values
distinct-values (elements_of g) = distinct-map (val.element (size_of g)) bits (λ i. refl) _ (distinct-upward 0 _)
distinct-values (numbers a b) = distinct-map (λ (k : ℕ). val.number (a +ℤ pos k)) (step_from a) (step_back a) _ (distinct-upward 0 _)
distinct-values (subsets_of g) = distinct-map (val.set (size_of g)) bits (λ s. refl) _ (distinct-upward 0 _)
distinct-values (pairs_in a g h) = distinct-map (val.pairs (size_of g) (size_of h)) bits (λ s. refl) _ (distinct-pair-sets a (size_of g) (size_of h))

-- the value of the first variable
first_value : Name → Value → Binding → Value
unfolding head_d
first_value n z b = (head_d b (n, z)).1

-- "each group as declared, the last variable fastest": each binding once
pub distinct-bindings : (vs : List Variable) → Distinct (bindings vs)
unfolding bindings Distinct first_value Among
distinct-bindings [] = (λ m. m, tt)
distinct-bindings (v ∷ vs) =
    distinct-flat (λ (x : Value). map (extended v x) (bindings vs)) (first_value v.called (val.number (pos 0)))
    (λ x. every_map (λ (b : Binding). first_value v.called (val.number (pos 0)) b ≡ x) (extended v x) (bindings vs) (λ b. refl))
    (λ x. distinct-map (extended v x) tail (λ b. refl) (bindings vs) (distinct-bindings vs))
    (values_of v.carrier) (distinct-values v.carrier)
