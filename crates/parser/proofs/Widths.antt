-- How many symbols the parts of a dossier have; given sets and types are in form/proofs/Lengths.
use mathlib.Core.Path.{◌≡◌, ap, ◌∙◌, sym}
use mathlib.Core.List.{List, [], ◌∷◌, ◌++◌}
use Prim.Native.Nat.{ℕ, suc, ◌+◌, ◌*◌}
use native.Mathlib.Omega.{arith}
use lib.ListN.{length, length-append, length-map}
use Rattle.lexical.specs.Kinds as kind
use Rattle.lexical.specs.Kinds.{Kind}
use Rattle.lexical.specs.Symbols.{Symbol}
use Rattle.form.specs.Tree.{Letters, Pred, Declaration, declarations, Parameter, State, Operation}
use Rattle.form.specs.Written.{Mark, Written, bare, inputs_after, outputs_after, write_pred, write_entries}
use Rattle.form.specs.Written.{write_declarations, write_where, write_state, write_parameters, write_operations}
use Rattle.form.specs.Headings.{operation_length}
use Rattle.form.specs.Codes.{pred_width, type_width}
use Rattle.form.proofs.Takes.{symbols_in}
use Rattle.form.proofs.PlainSymbols.{pred-plain}
use Rattle.form.proofs.Lengths.{type-length}
use Rattle.parser.proofs.SymbolsBehind.{pred-on}

-- what is written before w, by the symbols
before : (u v w : List Written) → symbols_in u ≡ symbols_in v ++ symbols_in w → length u ≡ length v + length w
before u v w e =
    let f : Written → Symbol = λ x. x.symbol in
    let a = length-map u f in
    let b = length-map v f in
    let c = length-map w f in
    let d : length (symbols_in u) ≡ length (symbols_in v) + length (symbols_in w) = ap length e ∙ length-append (symbols_in v) (symbols_in w) in omega arith

pred-length : (p : Pred) (d k : ℕ) (w : List Written) → length (write_pred p d k w) ≡ pred_width p + length w
unfolding pred_width
pred-length p d k w = before (write_pred p d k w) (write_pred p 0 0 []) w (pred-plain p d k w ∙ sym (pred-on p (symbols_in w)))

pub entries-length : (k : Kind) (m : ℕ → Mark) (n : ℕ) (xs : List Letters) (w : List Written) → length (write_entries k m n xs w) ≡ 2 * length xs + length w
unfolding write_entries
entries-length k m n [] w = omega arith
entries-length k m n (x ∷ xs) w = let r = entries-length k m (suc n) xs w in omega arith

abbrev pub declaration_width : Declaration → ℕ
declaration_width d = 3 + type_width d.type

abbrev pub declarations_width : List Declaration → ℕ
declarations_width [] = 0
declarations_width (d ∷ ds) = declaration_width d + declarations_width ds

pub declarations-length : (n : ℕ) (ds : List Declaration) (w : List Written) → length (write_declarations n ds w) ≡ declarations_width ds + length w
unfolding write_declarations
declarations-length n [] w = omega arith
declarations-length n (d ∷ ds) w =
    let r = declarations-length (suc n) ds w in
    let e = type-length d.type (bare kind.semicolon ∷ write_declarations (suc n) ds w) in omega arith

abbrev pub parameters_width : List Parameter → ℕ
parameters_width [] = 0
parameters_width (x ∷ xs) = declaration_width x.declaration + parameters_width xs

pub parameters-length : (i o : ℕ) (xs : List Parameter) (w : List Written) → length (write_parameters i o xs w) ≡ parameters_width xs + length w
unfolding write_parameters
parameters-length i o [] w = omega arith
parameters-length i o (x ∷ xs) w =
    let j = inputs_after x.direction i in
    let p = outputs_after x.direction o in
    let r = parameters-length j p xs w in
    let e = type-length x.declaration.type (bare kind.semicolon ∷ write_parameters j p xs w) in omega arith

pub where-length : (p : Pred) (w : List Written) → length (write_where p w) ≡ pred_width p + 2 + length w
unfolding write_where
where-length p w = let r = pred-length p 0 0 (bare kind.END ∷ w) in omega arith

abbrev pub state_width : State → ℕ
state_width s = declarations_width (declarations s) + pred_width s.predicate + 2

pub state-length : (s : State) (w : List Written) → length (write_state s w) ≡ state_width s + length w
unfolding write_state
state-length s w = let e = where-length s.predicate w in let r = declarations-length 0 (declarations s) (write_where s.predicate w) in omega arith

abbrev operation_width : Operation → ℕ
operation_width o = 5 + (parameters_width o.parameters + (pred_width o.abstractly + pred_width o.concretely))

abbrev pub operations_width : List Operation → ℕ
operations_width [] = 0
operations_width (o ∷ os) = operation_width o + operations_width os

operations-length : (n : ℕ) (os : List Operation) (w : List Written) → length (write_operations n os w) ≡ operations_width os + length w
unfolding write_operations
operations-length n [] w = omega arith
operations-length n (o ∷ os) w =
    let behind : List Written = bare kind.END ∷ write_operations (suc n) os w in
    let middle : List Written = bare kind.CONCRETE ∷ write_pred o.concretely 0 0 behind in
    let r = operations-length (suc n) os w in
    let c = pred-length o.concretely 0 0 behind in
    let a = pred-length o.abstractly 0 0 middle in
    let p = parameters-length 0 0 o.parameters (bare kind.ABSTRACT ∷ write_pred o.abstractly 0 0 middle) in omega arith

pub operation-length : (o : Operation) → operation_length o ≡ operation_width o
unfolding operation_length
operation-length o = let r = operations-length 0 (o ∷ []) [] in omega arith
