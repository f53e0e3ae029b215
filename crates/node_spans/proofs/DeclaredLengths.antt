-- How many numbers the nodes of declarations, of inputs and outputs, and of a state are.
use mathlib.Core.Path.{◌≡◌, refl}
use mathlib.Core.List.{List, [], ◌∷◌}
use Prim.Native.Nat.{ℕ, suc, ◌+◌, ◌*◌}
use native.Mathlib.Omega.{arith}
use lib.ListN.{length, length-append}
use Rattle.lexical.specs.Symbols.{no_ending, Ending}
use Rattle.form.specs.Tree.{Declaration, declarations, Parameter, State}
use Rattle.form.specs.Written.{ending_of}
use Rattle.form.specs.Codes.{Numbering, type_width, declaration_code, declaration_codes, parameter_codes, condition_codes, state_codes}
use Rattle.parser.proofs.ItemNodes.{type-length}
use Rattle.node_spans.specs.Spans.{predicate_at}

declaration-eight : (i : ℕ) (e : Ending) (x : Declaration) (ρ : Numbering) → length (declaration_code i e x ρ) ≡ 8
declaration-eight i e x ρ = let l = type-length x.type (i + 2) ρ in omega arith

pub declarations-long : (i : ℕ) (ds : List Declaration) (ρ : Numbering) → length (declaration_codes i ds ρ) ≡ 8 * length ds
unfolding declaration_codes
declarations-long i [] ρ = refl
declarations-long i (x ∷ ds) ρ =
    let a = length-append (declaration_code i no_ending x ρ) (declaration_codes (i + 3 + type_width x.type) ds ρ) in
    let b = declaration-eight i no_ending x ρ in
    let c = declarations-long (i + 3 + type_width x.type) ds ρ in
    omega arith

pub parameters-long : (i : ℕ) (xs : List Parameter) (ρ : Numbering) → length (parameter_codes i xs ρ) ≡ 8 * length xs
unfolding parameter_codes
parameters-long i [] ρ = refl
parameters-long i (x ∷ xs) ρ =
    let a = length-append (declaration_code i (ending_of x.direction) x.declaration ρ) (parameter_codes (i + 3 + type_width x.declaration.type) xs ρ) in
    let b = declaration-eight i (ending_of x.direction) x.declaration ρ in
    let c = parameters-long (i + 3 + type_width x.declaration.type) xs ρ in
    omega arith

-- a state's nodes: its heading, its declarations, its predicate
pub state-long : (i : ℕ) (s : State) (ρ : Numbering)
    → length (state_codes i s ρ) ≡ 4 + length (declaration_codes (suc i) (declarations s) ρ) + length (condition_codes (predicate_at i s) s.predicate ρ)
unfolding state_codes
state-long i s ρ =
    let l = length-append (declaration_codes (suc i) (declarations s) ρ) (condition_codes (predicate_at i s) s.predicate ρ) in
    omega arith
