-- The places that are picked of the nodes of declarations are those of the variables, the inputs and the outputs; how many they are.
use mathlib.Core.Path.{◌≡◌, refl, ap, ap₂}
use mathlib.Core.Bool.{Bool, true, false, cond}
use mathlib.Core.List.{List, [], ◌∷◌, ◌++◌}
use Prim.Native.Nat.{ℕ, suc, ◌+◌, ◌-◌, ◌*◌, ◌%◌, ◌≤◌}
use native.Mathlib.Omega.{arith}
use lib.ListN.{length, replicate, length-append, length-replicate, get_or-append}
use Rattle.lexical.specs.Lists.{filter}
use Rattle.form.specs.Tree.{TypeForm, given_type, power_type, range_type, arrow_type, Declaration, Direction, inward, outward, Parameter, Operation}
use Rattle.form.specs.Written.{ending_of}
use Rattle.form.specs.Codes.{Numbering, node, number_of_name, type_codes, type_width, declaration_codes, parameter_codes}
use Rattle.table_places.specs.StaticRulesScope.{is_input, is_output}
use Rattle.node_spans.specs.Spans.{span}
use Rattle.table_places.specs.DossierTable.{row, state_row, parameter_row, operation_rows}
use Rattle.search_groups.specs.GroupPromises.{Picks, no_pick, pick, pass}

-- a type is one node
data Four : List ℕ → Type 0 where
  four : (d c j l : ℕ) → Four (d ∷ c ∷ j ∷ l ∷ [])

type-four : (t : TypeForm) (i : ℕ) (ρ : Numbering) → Four (type_codes t i ρ)
type-four (given_type g) i ρ = four _ _ _ _
type-four (range_type r) i ρ = four _ _ _ _
type-four (power_type g) i ρ = four _ _ _ _
type-four (arrow_type a g h) i ρ = four _ _ _ _

picked : {e q k i a b : ℕ} {z rest qs : List ℕ} → a % 4 ≡ e → Four z → Picks e (q + 8) rest qs → Picks e q (b ∷ a ∷ i ∷ k ∷ (z ++ rest)) (q ∷ qs)
picked h (four d c j l) p = pick h p

passed : {e q k i a b : ℕ} {z rest qs : List ℕ} → (a % 4 ≡ e → ⊥) → Four z → Picks e (q + 8) rest qs → Picks e q (b ∷ a ∷ i ∷ k ∷ (z ++ rest)) qs
passed h (four d c j l) p = pass h p

pub state-picks : (q i : ℕ) (ds : List Declaration) (ρ : Numbering) → Picks 0 q (declaration_codes i ds ρ) (state_row q ds)
unfolding declaration_codes state_row number_of_name
state-picks q i [] ρ = no_pick
state-picks q i (d ∷ ds) ρ = picked (omega arith) (type-four d.type (i + 2) ρ) (state-picks (q + 8) (i + 3 + type_width d.type) ds ρ)

pub input-picks : (q i : ℕ) (xs : List Parameter) (ρ : Numbering) → Picks 2 q (parameter_codes i xs ρ) (parameter_row (λ (x : Parameter). is_input x.direction) q xs)
unfolding parameter_codes parameter_row number_of_name
input-picks q i [] ρ = no_pick
input-picks q i (x ∷ xs) ρ = on x.direction (input-picks (q + 8) (i + 3 + type_width x.declaration.type) xs ρ)
  where
    on : {rest qs : List ℕ} (δ : Direction) → Picks 2 (q + 8) rest qs
        → Picks 2 q (node 6 i (number_of_name ρ x.declaration.declared (ending_of δ)) 0 ++ (type_codes x.declaration.type (i + 2) ρ ++ rest)) (cond (is_input δ) (q ∷ []) [] ++ qs)
    on inward p = picked (omega arith) (type-four x.declaration.type (i + 2) ρ) p
    on outward p = passed (λ e. omega arith) (type-four x.declaration.type (i + 2) ρ) p

pub output-picks : (q i : ℕ) (xs : List Parameter) (ρ : Numbering) → Picks 3 q (parameter_codes i xs ρ) (parameter_row (λ (x : Parameter). is_output x.direction) q xs)
unfolding parameter_codes parameter_row number_of_name
output-picks q i [] ρ = no_pick
output-picks q i (x ∷ xs) ρ = on x.direction (output-picks (q + 8) (i + 3 + type_width x.declaration.type) xs ρ)
  where
    on : {rest qs : List ℕ} (δ : Direction) → Picks 3 (q + 8) rest qs
        → Picks 3 q (node 6 i (number_of_name ρ x.declaration.declared (ending_of δ)) 0 ++ (type_codes x.declaration.type (i + 2) ρ ++ rest)) (cond (is_output δ) (q ∷ []) [] ++ qs)
    on inward p = passed (λ e. omega arith) (type-four x.declaration.type (i + 2) ρ) p
    on outward p = picked (omega arith) (type-four x.declaration.type (i + 2) ρ) p

-- how many they are
pub state-count : (q : ℕ) (ds : List Declaration) → length (state_row q ds) ≡ length ds
unfolding state_row
state-count q [] = refl
state-count q (d ∷ ds) = ap suc (state-count (q + 8) ds)

pub parameter-count : (f : Parameter → Bool) (q : ℕ) (xs : List Parameter) → length (parameter_row f q xs) ≡ length (filter f xs)
unfolding parameter_row filter
parameter-count f q [] = refl
parameter-count f q (x ∷ xs) = on (f x) (parameter-count f (q + 8) xs)
  where
    on : (t : Bool) → length (parameter_row f (q + 8) xs) ≡ length (filter f xs)
        → length (cond t (q ∷ []) [] ++ parameter_row f (q + 8) xs) ≡ length {A = Parameter} (elim t [ true ↦ x ∷ filter f xs | false ↦ filter f xs ])
    on true e = ap suc e
    on false e = e

pub row-length : (n : ℕ) (qs : List ℕ) → length qs ≤ n → length (row n qs) ≡ n + 1
unfolding row
row-length n qs h =
    let p = length-append qs (replicate (n - length qs) 0) in
    let q = length-replicate {A = ℕ} (n - length qs) 0 in
    omega arith

-- the rows of an operation's inputs and outputs
abbrev pub both_rows : ℕ → List Parameter → List ℕ
both_rows q xs =
    row 3 (parameter_row (λ (x : Parameter). is_input x.direction) q xs) ++ row 3 (parameter_row (λ (x : Parameter). is_output x.direction) q xs)

-- numbers behind the spans change nothing
pub rows_same : (s rest : List ℕ) (k : ℕ) (os : List Operation) → 9 + 4 * (k + length os) ≤ length s → operation_rows (s ++ rest) k os ≡ operation_rows s k os
unfolding operation_rows
rows_same s rest k [] h = refl
rows_same s rest k (o ∷ os) h =
    let e : span (s ++ rest) (9 + 4 * k) ≡ span s (9 + 4 * k) = get_or-append s rest 0 (9 + 4 * k) (omega arith) in
    ap₂ (λ (q : ℕ) (z : List ℕ). both_rows q o.parameters ++ z) e (rows_same s rest (suc k) os (omega arith))
