-- A dossier without faults of form has at most eight variables in a state, and at most three inputs and three outputs in an operation.
use mathlib.Core.Path.{◌≡◌, refl}
use mathlib.Core.Bool.{Bool, true, false}
use mathlib.Core.List.{List, [], ◌∷◌}
use mathlib.Core.Option.{some}
use Prim.Native.Nat.{ℕ, suc, ◌+◌, ◌≤◌, ◌<◌}
use native.Mathlib.Omega.{arith}
use lib.ListN.{length}
use Rattle.lexical.specs.Kinds.{Kind}
use Rattle.lexical.specs.Symbols.{Symbol}
use Rattle.lexical.specs.Lists.{filter}
use Rattle.refusals.specs.Refusals.{many_declared}
use Rattle.form.specs.Tree.{End, TypeForm, given_type, power_type, range_type, arrow_type, Declaration, Direction, inward, outward, Parameter, State, Operation, Dossier, declarations}
use Rattle.form.specs.Written.{Mark, a_variable, an_input, an_output, Written, minus_of, write_end, write_type, write_declarations, write_state, parameter_mark, inputs_after, outputs_after}
use Rattle.form.specs.Written.{write_parameters, write_operations, written}
use Rattle.form.specs.Form.{Forms, excess, settled}
use Rattle.form.proofs.RelationsBehind as kept
use Rattle.static_rules.specs.Scope.{is_input, is_output}
use Rattle.search_groups.specs.GroupPromises.{FewParameters, FewEach, few_none, few_more, Few}
use Rattle.reader.proofs.FewGivens.{Has, here, there, behind, no_mark, None, one_more, in-operations, forms-few-operations}
use Rattle.form.proofs.FewBoundNames.{over-limit}

variable-over : (n : ℕ) → 8 < n → (k s : Kind) (rest : List Symbol) → settled k s rest (a_variable n) ≡ some many_declared
unfolding settled excess
variable-over n l k s rest = over-limit 8 n many_declared l

input-over : (n : ℕ) → 3 < n → (k s : Kind) (rest : List Symbol) → settled k s rest (an_input n) ≡ some many_declared
unfolding settled excess
input-over n l k s rest = over-limit 3 n many_declared l

output-over : (n : ℕ) → 3 < n → (k s : Kind) (rest : List Symbol) → settled k s rest (an_output n) ≡ some many_declared
unfolding settled excess
output-over n l k s rest = over-limit 3 n many_declared l

-- a mark behind a type stands behind its name
past-minus : (m : Mark) (b : Bool) (w : List Written) → Has m w → Has m (minus_of b w)
past-minus m true w h = there h
past-minus m false w h = h

past_end : (m : Mark) (e : End) (w : List Written) → Has m w → Has m (write_end e w)
past_end m e w h = past-minus m e.negative _ (there h)

past-type : (m : Mark) (t : TypeForm) (w : List Written) → Has m w → Has m (write_type t w)
unfolding write_type
past-type m (given_type g) w h = there h
past-type m (power_type g) w h = there (there h)
past-type m (range_type r) w h = past_end m r.lower _ (there (past_end m r.upper w h))
past-type m (arrow_type a g r) w h = there (there (there h))

few-variables : (n : ℕ) (ds : List Declaration) (w : List Written) → None 8 a_variable (write_declarations n ds w) → n ≤ 8 → n + length ds ≤ 8
unfolding write_declarations
few-variables n [] w h l = omega arith
few-variables n (d ∷ ds) w h l =
    one_more 8 n (length ds) (λ q. h (suc n) q (here refl))
    (few-variables (suc n) ds w (λ k q p. h k q (there (there (past-type (a_variable k) d.type _ (there p))))))

few-in-state : (s : State) (w : List Written) → None 8 a_variable (write_state s w) → length (declarations s) ≤ 8
unfolding write_state
few-in-state s w h = let m = few-variables 0 (declarations s) _ h (omega arith) in omega arith

-- ---- parameters ----

-- the parameters of a direction: their mark, which they are, how many there are so far
abbrev mark_of : Direction → ℕ → Mark
mark_of inward n = an_input n
mark_of outward n = an_output n

abbrev is_of : Direction → Direction → Bool
is_of inward c = is_input c
is_of outward c = is_output c

abbrev counted : Direction → (i o : ℕ) → ℕ
counted inward i o = i
counted outward i o = o

-- one more parameter is one more of its direction, and none of the other
one-parameter : (e c : Direction) (i o : ℕ) (x : Parameter) (xs : List Parameter) → (parameter_mark c i o ≡ mark_of e (suc (counted e i o)) → ¬ (3 < suc (counted e i o)))
    → (counted e (inputs_after c i) (outputs_after c o) ≤ 3 → counted e (inputs_after c i) (outputs_after c o) + length xs ≤ 3) → counted e i o ≤ 3
    → counted e i o + length {A = Parameter} (elim (is_of e c) [ true ↦ x ∷ xs | false ↦ xs ]) ≤ 3
one-parameter inward inward i o x xs h r l = one_more 3 i (length xs) (h refl) r
one-parameter inward outward i o x xs h r l = r l
one-parameter outward inward i o x xs h r l = r l
one-parameter outward outward i o x xs h r l = one_more 3 o (length xs) (h refl) r

few-of : (e : Direction) (i o : ℕ) (xs : List Parameter) (w : List Written) → None 3 (mark_of e) (write_parameters i o xs w) → counted e i o ≤ 3
    → counted e i o + length (filter (λ (x : Parameter). is_of e x.direction) xs) ≤ 3
unfolding write_parameters filter
few-of e i o [] w h l = omega arith
few-of e i o (x ∷ xs) w h l =
    one-parameter e x.direction i o x _ (λ p q. h (suc (counted e i o)) q (here p))
    (few-of e _ _ xs w (λ k q p. h k q (there (there (past-type (mark_of e k) x.declaration.type _ (there p))))))
    l

few-parameters : (o : Operation) (w : List Written) → None 3 an_input (write_parameters 0 0 o.parameters w) → None 3 an_output (write_parameters 0 0 o.parameters w) → FewParameters o
few-parameters o w h g =
    let m = few-of inward 0 0 o.parameters w h (omega arith) in
    let n = few-of outward 0 0 o.parameters w g (omega arith) in
    record { inputs = omega arith; outputs = omega arith }

few-each : (n : ℕ) (os : List Operation) (w : List Written) → None 3 an_input (write_operations n os w) → None 3 an_output (write_operations n os w) → FewEach os
unfolding write_operations
few-each n [] w h g = few_none
few-each n (o ∷ os) w h g =
    few_more (few-parameters o _ (λ k q p. h k q (there (there p))) (λ k q p. g k q (there (there p))))
    (few-each (suc n) os w (λ k q p. h k q (kept.operation (λ u v. Has (an_input k) u) (behind (an_input k)) n n o os os w w p))
    (λ k q p. g k q (kept.operation (λ u v. Has (an_output k) u) (behind (an_output k)) n n o os os w w p)))

-- ---- the dossier ----

few-abstract : {w : List Symbol} {d : Dossier} → Forms w d → length (declarations d.abstract) ≤ 8
unfolding written
few-abstract {w} {d} f =
    few-in-state d.abstract _
    (λ n l h. no_mark f (a_variable n) (variable-over n l)
    (kept.contents (λ u v. Has (a_variable n) u) (behind (a_variable n)) d _ []
    (kept.givens (λ u v. Has (a_variable n) u) (behind (a_variable n)) 0 0 d.givens _ [] (there h))))

few-concrete : {w : List Symbol} {d : Dossier} → Forms w d → length (declarations d.concrete) ≤ 8
unfolding written
few-concrete {w} {d} f =
    few-in-state d.concrete _
    (λ n l h. no_mark f (a_variable n) (variable-over n l)
    (kept.contents (λ u v. Has (a_variable n) u) (behind (a_variable n)) d _ []
    (kept.givens (λ u v. Has (a_variable n) u) (behind (a_variable n)) 0 0 d.givens _ []
    (there (kept.state (λ u v. Has (a_variable n) u) (behind (a_variable n)) d.abstract _ [] (there h))))))

pub forms-few : {w : List Symbol} {d : Dossier} → Forms w d → Few d
forms-few {w} {d} f =
    record {
      abstract = few-abstract f;
      concrete = few-concrete f;
      operations = forms-few-operations f;
      parameters =
          few-each 0 d.operations [] (λ k q h. no_mark f (an_input k) (input-over k q) (in-operations d (an_input k) h))
          (λ k q h. no_mark f (an_output k) (output-over k q) (in-operations d (an_output k) h));
    }
