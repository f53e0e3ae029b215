-- BASE with a second concrete variable that the operation leaves out, with an input and an output: what newcomers misread, computed.
use mathlib.Core.Path.{◌≡◌, refl}
use mathlib.Core.Bool.{Bool, true, false}
use mathlib.Core.List.{List, [], ◌∷◌}
use Prim.Native.Nat.{ℕ}
use Prim.Native.String.{String}
use lib.IntN.{ℤ, pos}
use lib.ListN.{length}
use Rattle.static_rules.specs.LexicalLists.{bytes, filter}
use Rattle.static_rules.specs.LexicalSymbols.{Name, no_ending, query, shriek, Ending}
use Rattle.static_rules.specs.FormTree.{Operation, Dossier, partial, total, relation}
use Rattle.static_rules.specs.Read.{Reading, refusal, reading}
use Rattle.static_rules.specs.Computed.{compute_read}
use Rattle.meaning.specs.Values.{Value, number}
use Rattle.meaning.specs.Meaning.{Binding}
use Rattle.meaning.specs.Bindings.{pair_sets}
use Rattle.meaning.specs.Operations.{concrete_bindings, concrete_step, abstract_pre, concrete_pre}
use Rattle.meaning.specs.Computed.{compute_holds}

abbrev text : String
text = "contents abstract concrete ainit cinit retrieve op add end\nabstract m : 0..1 ; where true end\nconcrete k : 0..2 ; j : 0..4 ; where j <= 3 end\nainit where true end\ncinit where true end\nretrieve where true end\nop add x? : 1..2 ; y! : 5..6 ; abstract y! = 7 - x? concrete k' = k + x? and y! = 7 - x? end"

abbrev called : String → Ending → ℤ → Name × Value
called x e z = (record { letters = bytes x; ending = e }, number z)

-- the concrete state k, j; the input x?; the output y!
abbrev state : ℤ → ℤ → Binding
state k j = called "k" no_ending k ∷ called "j" no_ending j ∷ []

abbrev input : ℤ → Binding
input x = called "x" query x ∷ []

abbrev output : ℤ → Binding
output y = called "y" shriek y ∷ []

abbrev at : (Dossier → Operation → ℕ) → Reading → ℕ
at f (refusal r) = 99
at f (reading d) = first d.operations
  where
    first : List Operation → ℕ
    first [] = 98
    first (o ∷ os) = f d o

abbrev yes : Bool → ℕ
yes true = 1
yes false = 0

pub answers : List ℕ
answers =
    -- an unmentioned primed variable is free over the states after: 0, 1, 2, 3
    at (λ d o. length (filter (concrete_step d o (state (pos 0) (pos 0)) (input (pos 1)) (output (pos 6))) (concrete_bindings d))) (compute_read (bytes text))
    -- k + 1 does not wrap within 0..2
    ∷ at (λ d o. yes (concrete_pre d o (state (pos 2) (pos 0)) (input (pos 1)))) (compute_read (bytes text))
    ∷ at (λ d o. yes (concrete_pre d o (state (pos 1) (pos 0)) (input (pos 1)))) (compute_read (bytes text))
    -- some outputs exist, on the abstract side too
    ∷ at (λ d o. yes (abstract_pre d o (called "m" no_ending (pos 0) ∷ []) (input (pos 1)))) (compute_read (bytes text))
    -- the state before is one
    ∷ at (λ d o. yes (concrete_pre d o (state (pos 0) (pos 4)) (input (pos 1)))) (compute_read (bytes text))
    -- the variables are joined by name, in whatever sequence a binding lists them
    ∷ at (λ d o. yes (concrete_pre d o (called "j" no_ending (pos 0) ∷ called "k" no_ending (pos 2) ∷ []) (input (pos 1)))) (compute_read (bytes text))
    ∷ []

pub answers-are : answers ≡ 4 ∷ 0 ∷ 1 ∷ 1 ∷ 0 ∷ 0 ∷ []
unfolding answers compute_holds
answers-are = refl

-- relations, partial and total functions between 1 and 2 elements, by bits
pub carriers : List (List ℕ)
carriers = pair_sets relation 1 2 ∷ pair_sets partial 1 2 ∷ pair_sets total 1 2 ∷ []

pub carriers-are : carriers ≡ (0 ∷ 1 ∷ 2 ∷ 3 ∷ []) ∷ (0 ∷ 1 ∷ 2 ∷ []) ∷ (1 ∷ 2 ∷ []) ∷ []
unfolding carriers compute_holds
carriers-are = refl
