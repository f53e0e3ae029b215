-- What the machine's items do in contents, bodies and declarations, and how the counts of number 6 are kept.
use mathlib.Core.Path.{◌≡◌, refl, ap, ◌∙◌, sym, subst}
use mathlib.Core.Bool.{Bool}
use mathlib.Core.List.{List, [], ◌∷◌, ◌++◌}
use mathlib.Core.Option.{none, some}
use Prim.Native.Nat.{ℕ, suc, ◌+◌, ◌≤◌, ◌<◌}
use native.Mathlib.Omega.{arith}
use native.Mathlib.Numerals.{add-one}
use lib.Dec.{ltb}
use lib.ListN.{length, get_or}
use borrow.Author.Tests.{le-ltb}
use Rattle.lexical.specs.Kinds as kind
use Rattle.lexical.specs.Kinds.{Kind, code_of, is, lookup}
use Rattle.refusals.specs.Refusals.{many_declared}
use Rattle.form.specs.Written.{Mark, unmarked, a_given, an_element, a_variable, an_input, an_output, an_operation}
use Rattle.form.specs.Form.{settled, excess, refuse}
use Rattle.form.specs.Computed.{compute_form}
use Rattle.form.specs.Machine.{Item, exact, a_name, an_end, a_type, a_type_rest, a_dossier, a_declared, some_entries, some_op_entries, some_bodies, some_elements, some_declarations, some_operations, some_parameters}
use Rattle.form.specs.Machine.{Act, take, skip, stuck, then, act, on_name, go, does, step, ends}
use Rattle.form_nodes.specs.FormPromises.{Reads, names}
use Rattle.declarations.specs.DossierPromises.{Few, few, over, Titled, titled, nameless, too_many, EntriesOf, of_givens, of_operations, a_typed, a_condition_to, two_states, three_conditions, Arrows, arrows, arrow_class, directions, direction_class, counted_by, inputs_by, outputs_by, more_by, mark_of}
use Rattle.declarations.specs.declared.contents.Direction.{Direction}
use Rattle.declarations.specs.declared.contents.Direction.TheVariants.{Input, Output}
use Rattle.std.specs.Prelude as prelude
use Rattle.std.specs.Prelude.{Result, Ok, Err, Some, None}
use Rattle.declarations.specs.declared.contents.Taken.{Taken}
use Rattle.refusals.specs.declared.Fault.{Fault}
use Rattle.form_nodes.proofs.Classes.{lookup-miss, by-table-or}
use Rattle.form_nodes.proofs.ReadParts.{only, Within, refused, stops}
use Rattle.form_nodes.proofs.RightSides.{inside}
use Rattle.form_nodes.proofs.SameSteps.{declared-stops}
use Rattle.form_nodes.proofs.ItemSteps.{by-act, exact-takes, exact-stops, lookup-mapped, either, naming, either-some}
use Rattle.form.proofs.Table.{◌&◌}
use Rattle.form.proofs.FewBoundNames.{over-limit}

-- a count of at most the limit is well, a larger one is not
few-well : (l n : ℕ) → n ≤ l → refuse (ltb l n) many_declared ≡ none
unfolding refuse
few-well l n h = ap (λ (b : Bool). refuse b many_declared) (le-ltb l n h)

-- a mark that counts up to a limit
pub data Counts : (ℕ → Mark) → ℕ → Type 0 where
  givens : Counts a_given 8
  elements : Counts an_element 8
  variables : Counts a_variable 8
  inputs : Counts an_input 3
  outputs : Counts an_output 3
  operations : Counts an_operation 16

pub count-well : {x : ℕ → Mark} {l : ℕ} (s : List ℕ) (at n : ℕ) → Counts x l → n ≤ l → Within s at (λ k j v. settled k j v (x n) ≡ none)
unfolding settled excess
count-well s at n givens h w q = few-well 8 n h
count-well s at n elements h w q = few-well 8 n h
count-well s at n variables h w q = few-well 8 n h
count-well s at n inputs h w q = few-well 3 n h
count-well s at n outputs h w q = few-well 3 n h
count-well s at n operations h w q = few-well 16 n h

pub count-over : {x : ℕ → Mark} {l : ℕ} (s : List ℕ) (at n : ℕ) → Counts x l → l < n → Within s at (λ k j v. settled k j v (x n) ≡ some many_declared)
unfolding settled excess
count-over s at n givens h w q = over-limit 8 n many_declared h
count-over s at n elements h w q = over-limit 8 n many_declared h
count-over s at n variables h w q = over-limit 8 n many_declared h
count-over s at n inputs h w q = over-limit 3 n many_declared h
count-over s at n outputs h w q = over-limit 3 n many_declared h
count-over s at n operations h w q = over-limit 16 n many_declared h

pub entry-counts : {word limit : ℕ} {f : ℕ → Item} {ο : List Item} {x : ℕ → Mark} → EntriesOf word limit f ο x → Counts x limit
entry-counts of_givens = givens
entry-counts of_operations = operations

-- a declared name
pub declared-takes : (m : Mark) (γ : List Item) → step (a_declared m ∷ γ) kind.plain ≡ go m γ
unfolding compute_form
declared-takes m γ = refl

-- one more than k is within the limit; or it is one too many
pub is-few : {p k l : ℕ} {u : Unit {0}} {r : Result Unit Fault} → r ≡ Ok u → Few p k l r → k < l
is-few {p} {k} {l} q h = on (subst (λ (x : Result Unit Fault). Few p k l x) q h)
  where
    on : {u : Unit {0}} → Few p k l (Ok u) → k < l
    on (few m) = m

pub one-over : {s : List ℕ} {at n k limit : ℕ} {ι ο : List Item} {x : ℕ → Mark} {f : Fault} {r : Result Unit Fault} (ρ : List Item → List Item) → Counts x limit → at < length s
    → r ≡ Err f → Few at k limit r → ((κ : Kind) → code_of κ ≡ get_or s at 0 → (γ : List Item) → step (ι ++ γ) κ ≡ go (x (k + 1)) (ρ γ)) → Reads s at n ι ο (Err f)
one-over {s} {at} {n} {k} {limit} {ι} {ο} {x} ρ c l q h g = on (subst (λ (y : Result Unit Fault). Few at k limit y) q h)
  where
    on : {f : Fault} → Few at k limit (Err f) → Reads s at n ι ο (Err f)
    on (over m) = refused {ρ = ρ} (x (k + 1)) l (count-over s at (k + 1) c (omega arith)) g

-- a name that is declared, or none
pub as-titled : {s : List ℕ} {at k l : ℕ} {r : Result Unit Fault} → get_or s at 0 ≡ 2 → Few at k l r → Titled s at k l r
as-titled g (few h) = titled g h
as-titled g (over h) = too_many g h

pub is-titled : {s : List ℕ} {at k l : ℕ} {u : Unit {0}} {r : Result Unit Fault} → r ≡ Ok u → Titled s at k l r → (get_or s at 0 ≡ 2) × ((k < l) × (at < length s))
is-titled {s} {at} {k} {l} q h = on (subst (λ (y : Result Unit Fault). Titled s at k l y) q h)
  where
    on : {u : Unit {0}} → Titled s at k l (Ok u) → (get_or s at 0 ≡ 2) × ((k < l) × (at < length s))
    on (titled g m) = (g, (m, inside s at (omega arith)))

pub not-titled : {s : List ℕ} {at n k limit : ℕ} {ο ρ : List Item} {x : ℕ → Mark} {f : Fault} {r : Result Unit Fault} → Counts x limit → at ≤ length s
    → r ≡ Err f → Titled s at k limit r → Reads s at n (a_declared (x (k + 1)) ∷ ρ) ο (Err f)
unfolding compute_form
not-titled {s} {at} {n} {k} {limit} {ο} {ρ} {x} c l q h = on (subst (λ (y : Result Unit Fault). Titled s at k limit y) q h)
  where
    on : {f : Fault} → Titled s at k limit (Err f) → Reads s at n (a_declared (x (k + 1)) ∷ ρ) ο (Err f)
    on (nameless g) = stops l (λ κ e γ. declared-stops (x (k + 1)) κ (ρ ++ γ) (λ y. g (sym e ∙ y))) (λ γ. refl)
    on (too_many g m) =
        refused {ρ = λ γ. ρ ++ γ} (x (k + 1)) (inside s at (omega arith)) (count-over s at (k + 1) c (omega arith)) (only _ kind.plain g (λ γ. declared-takes (x (k + 1)) (ρ ++ γ)))

-- entries of the contents: one more, and what stands behind all
pub entry-word : {word limit : ℕ} {f : ℕ → Item} {ο : List Item} {x : ℕ → Mark} → EntriesOf word limit f ο x → (k : ℕ) (κ : Kind) (γ : List Item) → code_of κ ≡ word
    → step (f k ∷ γ) κ ≡ go unmarked (a_declared (x (k + 1)) ∷ f (k + 1) ∷ γ)
unfolding compute_form
entry-word of_givens k κ γ e =
    only (λ j. step (some_entries k ∷ γ) j ≡ go unmarked (a_declared (a_given (suc k)) ∷ some_entries (suc k) ∷ γ)) kind.GIVEN refl refl κ e
    ∙ ap (λ (i : ℕ). go unmarked (a_declared (a_given i) ∷ some_entries i ∷ γ)) (sym (add-one k))
entry-word of_operations k κ γ e =
    only (λ j. step (some_op_entries k ∷ γ) j ≡ go unmarked (a_declared (an_operation (suc k)) ∷ some_op_entries (suc k) ∷ γ)) kind.OP refl refl κ e
    ∙ ap (λ (i : ℕ). go unmarked (a_declared (an_operation i) ∷ some_op_entries i ∷ γ)) (sym (add-one k))

-- an item that takes a first symbol, and at any other does as the word j and what is behind it
behind : (i : Item) (p : Kind) (a : Act) (j : Kind) (ρ : List Item) (κ : Kind) (γ : List Item) → act i κ ≡ lookup ((p, a) ∷ (j, then ρ) ∷ []) stuck κ
    → (code_of κ ≡ code_of p → ⊥) → step (i ∷ γ) κ ≡ step (exact j ∷ (ρ ++ γ)) κ
unfolding act step
behind i p a j ρ κ γ e f =
    ap (λ (b : Act). does b γ (step γ κ)) e
    ∙ by-table-or (λ m b. (code_of m ≡ code_of p → ⊥) → does b γ (step γ m) ≡ step (exact j ∷ (ρ ++ γ)) m) ((p, a) ∷ (j, then ρ) ∷ []) stuck κ
    ((λ g. absurd (g refl)) & (λ g. sym (exact-here j (ρ ++ γ))) & tt)
    (λ m g. sym (exact-stops j κ (ρ ++ γ) m.1.0)) f
  where
    exact-here : (j : Kind) (γ : List Item) → step (exact j ∷ γ) j ≡ go unmarked γ
    exact-here j γ = exact-takes j j γ refl

pub entry-behind : {word limit : ℕ} {f : ℕ → Item} {ο : List Item} {x : ℕ → Mark} → EntriesOf word limit f ο x → (k : ℕ) (κ : Kind) (γ : List Item)
    → (code_of κ ≡ word → ⊥) → step (f k ∷ γ) κ ≡ step (ο ++ γ) κ
unfolding act code_of
entry-behind of_givens k κ γ f = behind (some_entries k) kind.GIVEN _ kind.ABSTRACT _ κ γ refl f
entry-behind of_operations k κ γ f = behind (some_op_entries k) kind.OP _ kind.END _ κ γ refl f

pub entry-ends : {word limit : ℕ} {f : ℕ → Item} {ο : List Item} {x : ℕ → Mark} → EntriesOf word limit f ο x → (k : ℕ) (γ : List Item) → ends (f k ∷ γ) ≡ ends (ο ++ γ)
unfolding compute_form
entry-ends of_givens k γ = refl
entry-ends of_operations k γ = refl

-- elements
pub element-first : (γ : List Item) → step (a_declared (an_element 1) ∷ some_elements 1 ∷ γ) kind.plain ≡ step (some_elements 0 ∷ γ) kind.plain
unfolding compute_form
element-first γ = refl

pub element-takes : (k : ℕ) (γ : List Item) → step (some_elements k ∷ γ) kind.plain ≡ go (an_element (k + 1)) (some_elements (k + 1) ∷ γ)
unfolding compute_form
element-takes k γ = ap (λ (i : ℕ). go (an_element i) (some_elements i ∷ γ)) (sym (add-one k))

pub elements-behind : (k : ℕ) (κ : Kind) (γ : List Item) → (code_of κ ≡ 2 → ⊥) → step (some_elements k ∷ γ) κ ≡ step (exact kind.END ∷ γ) κ
unfolding act code_of
elements-behind k κ γ f = behind (some_elements k) kind.plain _ kind.END [] κ γ refl f

-- the bodies of given sets
pub given_word : (k : ℕ) (γ : List Item)
    → step (some_bodies k ∷ γ) kind.GIVEN ≡ go unmarked (a_declared (a_given (k + 1)) ∷ a_declared (an_element 1) ∷ some_elements 1 ∷ some_bodies (k + 1) ∷ γ)
unfolding compute_form
given_word k γ = ap (λ (i : ℕ). go unmarked (a_declared (a_given i) ∷ a_declared (an_element 1) ∷ some_elements 1 ∷ some_bodies i ∷ γ)) (sym (add-one k))

pub givens-behind : (k : ℕ) (κ : Kind) (γ : List Item) → (code_of κ ≡ 37 → ⊥)
    → step (some_bodies k ∷ γ) κ ≡ step ((two_states ++ (three_conditions ++ (some_operations 0 ∷ []))) ++ γ) κ
unfolding act code_of
givens-behind k κ γ f = behind (some_bodies k) kind.GIVEN _ kind.ABSTRACT _ κ γ refl f

-- declarations
pub declaration-first : (γ : List Item) → step (a_declared (a_variable 1) ∷ (a_typed ++ (some_declarations 1 ∷ γ))) kind.plain ≡ step (some_declarations 0 ∷ γ) kind.plain
unfolding compute_form
declaration-first γ = refl

pub declaration-takes : (k : ℕ) (γ : List Item) → step (some_declarations k ∷ γ) kind.plain ≡ go (a_variable (k + 1)) (a_typed ++ (some_declarations (k + 1) ∷ γ))
unfolding compute_form
declaration-takes k γ = ap (λ (i : ℕ). go (a_variable i) (a_typed ++ (some_declarations i ∷ γ))) (sym (add-one k))

pub declarations-behind : (k : ℕ) (κ : Kind) (γ : List Item) → (code_of κ ≡ 2 → ⊥) → step (some_declarations k ∷ γ) κ ≡ step (exact kind.WHERE ∷ γ) κ
unfolding act code_of
declarations-behind k κ γ f = behind (some_declarations k) kind.plain _ kind.WHERE [] κ γ refl f

-- operations
pub operation-word : (k : ℕ) (γ : List Item)
    → step (some_operations k ∷ γ) kind.OP
    ≡ go unmarked (a_declared (an_operation (k + 1)) ∷ some_parameters 0 0 ∷ (a_condition_to kind.CONCRETE ++ (a_condition_to kind.END ++ (some_operations (k + 1) ∷ γ))))
unfolding compute_form
operation-word k γ =
    ap (λ (i : ℕ). go unmarked (a_declared (an_operation i) ∷ some_parameters 0 0 ∷ (a_condition_to kind.CONCRETE ++ (a_condition_to kind.END ++ (some_operations i ∷ γ)))))
    (sym (add-one k))

pub operations_behind : (k : ℕ) (κ : Kind) (γ : List Item) → (code_of κ ≡ 43 → ⊥) → step (some_operations k ∷ γ) κ ≡ step γ κ
unfolding act code_of
operations_behind k κ γ f = by-act (some_operations k) γ κ skip (lookup-miss _ skip κ (f, tt))

-- parameters, by their direction
pub parameter-takes : (i o : ℕ) (c : Direction) (κ : Kind) (γ : List Item) → lookup directions 0 κ ≡ direction_class (Some c)
    → step (some_parameters i o ∷ γ) κ ≡ go (mark_of c (counted_by c i o + 1)) (a_typed ++ (some_parameters (inputs_by c i) (outputs_by c o) ∷ γ))
unfolding act step lookup is code_of
parameter-takes i o Input κ γ e =
    by-table-or (λ m b. lookup directions 0 m ≡ 1 → does b γ (step γ m) ≡ go (an_input (i + 1)) (a_typed ++ (some_parameters (i + 1) o ∷ γ)))
    ((kind.input, take (an_input (suc i)) (a_typed ++ (some_parameters (suc i) o ∷ []))) ∷ (kind.output, take (an_output (suc o)) (a_typed ++ (some_parameters i (suc o) ∷ []))) ∷ (kind.ABSTRACT, then []) ∷ [])
    stuck κ
    ((λ q. ap (λ (j : ℕ). go (an_input j) (a_typed ++ (some_parameters j o ∷ γ))) (sym (add-one i))) & (λ q. absurd (omega (arith, q))) & (λ q. absurd (omega (arith, q))) & tt)
    (λ m q. let z : ◌≡◌ {A = ℕ} 0 1 = sym (lookup-miss directions 0 κ (m.0, (m.1.0, tt))) ∙ q in absurd (omega arith)) e
parameter-takes i o Output κ γ e =
    by-table-or (λ m b. lookup directions 0 m ≡ 2 → does b γ (step γ m) ≡ go (an_output (o + 1)) (a_typed ++ (some_parameters i (o + 1) ∷ γ)))
    ((kind.input, take (an_input (suc i)) (a_typed ++ (some_parameters (suc i) o ∷ []))) ∷ (kind.output, take (an_output (suc o)) (a_typed ++ (some_parameters i (suc o) ∷ []))) ∷ (kind.ABSTRACT, then []) ∷ [])
    stuck κ
    ((λ q. absurd (omega (arith, q))) & (λ q. ap (λ (j : ℕ). go (an_output j) (a_typed ++ (some_parameters i j ∷ γ))) (sym (add-one o))) & (λ q. absurd (omega (arith, q))) & tt)
    (λ m q. let z : ◌≡◌ {A = ℕ} 0 2 = sym (lookup-miss directions 0 κ (m.0, (m.1.0, tt))) ∙ q in absurd (omega arith)) e

pub parameters-behind : (i o : ℕ) (κ : Kind) (γ : List Item) → lookup directions 0 κ ≡ 0 → step (some_parameters i o ∷ γ) κ ≡ step (exact kind.ABSTRACT ∷ γ) κ
unfolding act step lookup is code_of
parameters-behind i o κ γ e =
    by-table-or (λ m b. lookup directions 0 m ≡ 0 → does b γ (step γ m) ≡ step (exact kind.ABSTRACT ∷ γ) m)
    ((kind.input, take (an_input (suc i)) (a_typed ++ (some_parameters (suc i) o ∷ []))) ∷ (kind.output, take (an_output (suc o)) (a_typed ++ (some_parameters i (suc o) ∷ []))) ∷ (kind.ABSTRACT, then []) ∷ [])
    stuck κ
    ((λ q. absurd (omega (arith, q))) & (λ q. absurd (omega (arith, q))) & (λ q. refl) & tt)
    (λ m q. sym (exact-stops kind.ABSTRACT κ γ m.1.1.0)) e

pub direction-counts : (c : Direction) → Counts (mark_of c) 3
direction-counts Input = inputs
direction-counts Output = outputs

-- types
pub type-rest-step : (κ : Kind) (γ : List Item) {c : ℕ} → lookup arrows 0 κ ≡ c → step (a_type_rest ∷ γ) κ ≡ does (either (then (a_name ∷ [])) skip c) γ (step γ κ)
unfolding act
type-rest-step κ γ q = by-act a_type_rest γ κ _ (lookup-mapped (either (then (a_name ∷ [])) skip) arrows κ ∙ ap (either (then (a_name ∷ [])) skip) q)

pub type-rest-taken : (κ : Kind) (γ : List Item) → (lookup arrows 0 κ ≡ 0 → ⊥) → step (a_type_rest ∷ γ) κ ≡ go unmarked (a_name ∷ γ)
unfolding act
type-rest-taken κ γ f =
    by-act a_type_rest γ κ (then (a_name ∷ []))
    (lookup-mapped (either (then (a_name ∷ [])) skip) arrows κ ∙ either-some (then (a_name ∷ [])) skip (lookup arrows 0 κ) f)

abbrev type_table : List (Kind × Act)
type_table =
    (kind.number, then (exact kind.up_to ∷ an_end ∷ [])) ∷ (kind.minus, then (exact kind.number ∷ exact kind.up_to ∷ an_end ∷ [])) ∷ (kind.POWER, then (a_name ∷ [])) ∷ []

pub type-name : (κ : Kind) (γ : List Item) → (lookup names 0 κ ≡ 0 → ⊥) → step (a_type ∷ γ) κ ≡ go unmarked (a_type_rest ∷ γ)
unfolding act step lookup is code_of
type-name κ γ f =
    by-table-or (λ j a. (lookup names 0 j ≡ 0 → ⊥) → does a γ (step γ j) ≡ go unmarked (a_type_rest ∷ γ)) type_table (on_name (then (a_type_rest ∷ [])) stuck κ) κ
    ((λ g. absurd (g refl)) & (λ g. absurd (g refl)) & (λ g. absurd (g refl)) & tt)
    (λ m g. ap (λ (a : Act). does a γ (step γ κ)) (naming (then (a_type_rest ∷ [])) stuck κ refl ∙ either-some (then (a_type_rest ∷ [])) stuck (lookup names 0 κ) g)) f

pub type-range : (κ : Kind) (γ : List Item) → lookup names 0 κ ≡ 0 → (code_of κ ≡ 46 → ⊥) → step (a_type ∷ γ) κ ≡ step (an_end ∷ exact kind.up_to ∷ an_end ∷ γ) κ
unfolding act step lookup is code_of
type-range κ γ q p =
    by-table-or (λ j a. lookup names 0 j ≡ 0 → (code_of j ≡ 46 → ⊥) → does a γ (step γ j) ≡ step (an_end ∷ exact kind.up_to ∷ an_end ∷ γ) j) type_table
    (on_name (then (a_type_rest ∷ [])) stuck κ) κ ((λ g h. refl) & (λ g h. refl) & (λ g h. absurd (h refl)) & tt)
    (λ m g h. ap (λ (a : Act). does a γ (step γ κ)) (naming (then (a_type_rest ∷ [])) stuck κ g)
    ∙ sym (by-act an_end (exact kind.up_to ∷ an_end ∷ γ) κ stuck (lookup-miss ((kind.number, then []) ∷ (kind.minus, then (exact kind.number ∷ [])) ∷ []) stuck κ (m.0, (m.1.0, tt))))) q p

-- no direction is none
pub undirected : (c : Direction) → ◌≡◌ {A = prelude.Option Direction} None (Some c) → ⊥
undirected Input q = let z : ◌≡◌ {A = ℕ} 0 1 = ap direction_class q in omega arith
undirected Output q = let z : ◌≡◌ {A = ℕ} 0 2 = ap direction_class q in omega arith

-- what `arrow_of` answers: the shape, and the class of the symbol
abbrev shape_or : prelude.Option ℕ → ℕ
shape_or None = 0
shape_or (Some s) = s

pub arrow-shape : {r s : ℕ} → ◌≡◌ {A = prelude.Option ℕ} (Some r) (Some s) → r ≡ s
arrow-shape q = ap shape_or q

pub no-shape : {s : ℕ} → ◌≡◌ {A = prelude.Option ℕ} None (Some s) → ⊥
no-shape q = let z : ◌≡◌ {A = ℕ} 0 1 = ap arrow_class q in omega arith

pub no-arrow : {k : ℕ} {r : prelude.Option ℕ} → Arrows k r → r ≡ None → (κ : Kind) → code_of κ ≡ k → lookup arrows 0 κ ≡ 0
no-arrow h q κ e = h.classes.class κ e ∙ ap arrow_class q

pub some-arrow : {k s : ℕ} {r : prelude.Option ℕ} → Arrows k r → r ≡ Some s → (κ : Kind) → code_of κ ≡ k → lookup arrows 0 κ ≡ 0 → ⊥
some-arrow h q κ e z = let w : ◌≡◌ {A = ℕ} 0 1 = sym z ∙ h.classes.class κ e ∙ ap arrow_class q in omega arith

-- one more parameter, where there are fewer than three of its direction
pub more-few : (c : Direction) (t : Taken) → counted_by c t.inputs t.outputs < 3 → t.inputs ≤ 3 → t.outputs ≤ 3 → ((more_by c t).inputs ≤ 3) × ((more_by c t).outputs ≤ 3)
more-few Input t h i o = (omega arith, o)
more-few Output t h i o = (i, omega arith)

-- the first word
pub dossier-first : (κ : Kind) (γ : List Item) → step (a_dossier ∷ γ) κ ≡ step (exact kind.CONTENTS ∷ some_entries 0 ∷ γ) κ
unfolding act step lookup is code_of
dossier-first κ γ =
    by-table-or (λ m b. does b γ (step γ m) ≡ step (exact kind.CONTENTS ∷ some_entries 0 ∷ γ) m) ((kind.CONTENTS, then (some_entries 0 ∷ [])) ∷ []) stuck κ (refl & tt)
    (λ m. sym (exact-stops kind.CONTENTS κ (some_entries 0 ∷ γ) m.0))
