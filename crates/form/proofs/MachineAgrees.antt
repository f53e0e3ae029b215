-- The machine takes each symbol of a dossier that is written out and grouped, its marks fit the tree's, and it may end there.
use mathlib.Core.Path.{◌≡◌, refl}
use mathlib.Core.List.{List, [], ◌∷◌}
use Prim.Native.Nat.{ℕ, suc}
use Rattle.lexical.specs.Kinds as kind
use Rattle.lexical.specs.Kinds.{Kind}
use Rattle.lexical.specs.Symbols.{no_ending}
use Rattle.form.specs.Tree.{Letters, Pred, Arrow, relation, partial, total, TypeForm, given_type, power_type, range_type, arrow_type, Declaration, Direction, inward, outward, Parameter, Given, State, Operation, Dossier}
use Rattle.form.specs.Written.{Mark, unmarked, a_given, a_variable, an_operation, Written, bare, used, declared, arrow_kind}
use Rattle.form.specs.Written.{write_pred, write_type, write_entries, write_elements, write_givens, write_declarations, write_where, write_state, write_parameters, write_operations, written}
use Rattle.form.specs.Form.{PredGrouped, OperationsGrouped, Grouped}
use Rattle.form.specs.Machine.{Item, exact, a_declared, a_name, a_type, a_type_rest, a_unary, a_pred_rest, some_entries, some_op_entries, some_bodies, some_elements, some_declarations, some_operations, some_parameters, go, step}
use Rattle.form.specs.Computed.{compute_form}
use Rattle.form.proofs.Takes.{initial, Agrees}
use Rattle.form.proofs.MachineAgreesStarts.{equally, taken_as, behind_end, behind_concrete}
use Rattle.form.proofs.MachineAgreesTerms.{used_as, range_taken, predicate}

-- contents entries of the kind s with the marks m, where i n expects more after n of them
entries : (s : Kind) (m : ℕ → Mark) (i : ℕ → Item) → ((n : ℕ) (γ : List Item) → step (i n ∷ γ) s ≡ go unmarked (a_declared (m (suc n)) ∷ i (suc n) ∷ γ))
    → (xs : List Letters) (n : ℕ) (w : List Written) (γ : List Item) → ((j : ℕ) (k : Kind) → Agrees k w (i j ∷ γ)) → (k : Kind)
    → Agrees k (write_entries s m n xs w) (i n ∷ γ)
unfolding compute_form
entries s m i e [] n w γ h k = h n k
entries s m i e (x ∷ xs) n w γ h k =
    taken_as (bare s) (declared x no_ending (m (suc n)) ∷ write_entries s m (suc n) xs w) (i n ∷ γ) (a_declared (m (suc n)) ∷ i (suc n) ∷ γ) (e n γ)
    (λ j. equally (entries s m i e xs (suc n) w γ h kind.plain)) k

-- the elements of a given set, after n of them
more_elements : (xs : List Letters) (n : ℕ) (w : List Written) (γ : List Item) → ((j : ℕ) (k : Kind) → Agrees k w (some_elements j ∷ γ)) → (k : Kind)
    → Agrees k (write_elements n xs w) (some_elements n ∷ γ)
unfolding compute_form
more_elements [] n w γ h k = h n k
more_elements (x ∷ xs) n w γ h k = equally (more_elements xs (suc n) w γ h kind.plain)

-- the bodies of given sets, after n of them
more_givens : (gs : List Given) (n : ℕ) (w : List Written) (γ : List Item) → ((j : ℕ) (k : Kind) → Agrees k w (some_bodies j ∷ γ)) → (k : Kind)
    → Agrees k (write_givens n gs w) (some_bodies n ∷ γ)
unfolding compute_form
more_givens [] n w γ h k = h n k
more_givens (g ∷ gs) n w γ h k =
    equally (equally (equally (more_elements g.other_elements 1 (bare kind.END ∷ write_givens (suc n) gs w) (some_bodies (suc n) ∷ γ)
    (λ j i. equally (more_givens gs (suc n) w γ h kind.END)) kind.plain)))

-- each of the three arrows
on_arrow : (a : Arrow) (γ : List Item) → step (a_type_rest ∷ γ) (arrow_kind a) ≡ go unmarked (a_name ∷ γ)
unfolding compute_form
on_arrow relation γ = refl
on_arrow partial γ = refl
on_arrow total γ = refl

-- a type and the ; behind it
typing : (t : TypeForm) (w : List Written) (γ : List Item) → ((k : Kind) → Agrees k w γ) → (k : Kind)
    → Agrees k (write_type t (bare kind.semicolon ∷ w)) (a_type ∷ exact kind.semicolon ∷ γ)
unfolding compute_form
typing t w γ h k = cases t
  where
    v : List Written
    v = bare kind.semicolon ∷ w

    ρ : List Item
    ρ = exact kind.semicolon ∷ γ

    after : (j : Kind) → Agrees j v ρ
    after j = equally (h kind.semicolon)

    cases : (t : TypeForm) → Agrees k (write_type t v) (a_type ∷ ρ)
    cases (given_type x) = used_as x v (a_type ∷ ρ) (a_type_rest ∷ ρ) refl refl refl refl after k
    cases (power_type x) = equally (used_as x v (a_name ∷ ρ) ρ refl refl refl refl after kind.POWER)
    cases (range_type r) = range_taken (a_type ∷ ρ) ρ refl refl r v after k
    cases (arrow_type a x y) =
        used_as x (bare (arrow_kind a) ∷ used y ∷ v) (a_type ∷ ρ) (a_type_rest ∷ ρ) refl refl refl refl
        (taken_as (bare (arrow_kind a)) (used y ∷ v) (a_type_rest ∷ ρ) (a_name ∷ ρ) (on_arrow a ρ) (used_as y v (a_name ∷ ρ) ρ refl refl refl refl after)) k

-- the declarations of a state, after n of them
more_declarations : (ds : List Declaration) (n : ℕ) (w : List Written) (γ : List Item) → ((j : ℕ) (k : Kind) → Agrees k w (some_declarations j ∷ γ)) → (k : Kind)
    → Agrees k (write_declarations n ds w) (some_declarations n ∷ γ)
unfolding compute_form
more_declarations [] n w γ h k = h n k
more_declarations (d ∷ ds) n w γ h k =
    equally (equally (typing d.type (write_declarations (suc n) ds w) (some_declarations (suc n) ∷ γ) (more_declarations ds (suc n) w γ h) kind.colon))

-- a predicate and then a symbol of the kind s
abbrev condition : Kind → List Item → List Item
condition s γ = a_unary 0 0 ∷ a_pred_rest 0 0 0 ∷ exact s ∷ γ

-- a predicate and then `end`
ended : (p : Pred) → PredGrouped p → (w : List Written) (γ : List Item) → ((k : Kind) → Agrees k w γ) → (k : Kind)
    → Agrees k (write_pred p 0 0 (bare kind.END ∷ w)) (condition kind.END γ)
unfolding compute_form
ended p g w γ h k = predicate p g (bare kind.END ∷ w) behind_end (exact kind.END ∷ γ) (λ c j. equally (h kind.END)) k

-- the same behind `where`
conditional : (p : Pred) → PredGrouped p → (w : List Written) (γ : List Item) → ((k : Kind) → Agrees k w γ) → (k : Kind)
    → Agrees k (write_where p w) (exact kind.WHERE ∷ condition kind.END γ)
unfolding compute_form
conditional p g w γ h k = equally (ended p g w γ h kind.WHERE)

-- a state's body
state_body : (s : State) → PredGrouped s.predicate → (w : List Written) (γ : List Item) → ((k : Kind) → Agrees k w γ) → (k : Kind)
    → Agrees k (write_state s w) (a_declared (a_variable 1) ∷ exact kind.colon ∷ a_type ∷ exact kind.semicolon ∷ some_declarations 1 ∷ condition kind.END γ)
unfolding compute_form
state_body s g w γ h k =
    let v : List Written = write_where s.predicate w in
    let ρ : List Item = condition kind.END γ in
    equally (equally (typing s.first_declaration.type (write_declarations 1 s.other_declarations v) (some_declarations 1 ∷ ρ)
    (more_declarations s.other_declarations 1 v ρ (λ j i. equally (ended s.predicate g w γ h kind.WHERE))) kind.colon))

-- a parameter, its name and mark by its direction, and then those behind it
parameter : (x : Letters) (t : TypeForm) (a : Direction) (xs : List Parameter) (i o : ℕ) (w : List Written) (γ : List Item)
    → ((i o : ℕ) (k : Kind) → Agrees k (write_parameters i o xs w) (some_parameters i o ∷ γ)) → (k : Kind)
    → Agrees k (write_parameters i o (record { direction = a; declaration = record { declared = x; type = t } } ∷ xs) w) (some_parameters i o ∷ γ)
unfolding compute_form
parameter x t inward xs i o w γ h k =
    equally (equally (typing t (write_parameters (suc i) o xs w) (some_parameters (suc i) o ∷ γ) (h (suc i) o) kind.colon))
parameter x t outward xs i o w γ h k =
    equally (equally (typing t (write_parameters i (suc o) xs w) (some_parameters i (suc o) ∷ γ) (h i (suc o)) kind.colon))

-- the parameters of an operation, after i inputs and o outputs
more_parameters : (xs : List Parameter) (i o : ℕ) (w : List Written) (γ : List Item) → ((i o : ℕ) (k : Kind) → Agrees k w (some_parameters i o ∷ γ)) → (k : Kind)
    → Agrees k (write_parameters i o xs w) (some_parameters i o ∷ γ)
unfolding compute_form
more_parameters [] i o w γ h k = h i o k
more_parameters (x ∷ xs) i o w γ h k =
    parameter x.declaration.declared x.declaration.type x.direction xs i o w γ (λ i o. more_parameters xs i o w γ h) k

-- the operations, after n of them, to the end of the text
more_operations : (os : List Operation) → OperationsGrouped os → (n : ℕ) (k : Kind) → Agrees k (write_operations n os []) (some_operations n ∷ [])
unfolding compute_form OperationsGrouped
more_operations [] g n k = refl
more_operations (o ∷ os) g n k =
    let u : List Written = write_operations (suc n) os [] in
    let v : List Written = bare kind.CONCRETE ∷ write_pred o.concretely 0 0 (bare kind.END ∷ u) in
    let ρ : List Item = some_operations (suc n) ∷ [] in
    let σ : List Item = exact kind.CONCRETE ∷ condition kind.END ρ in
    equally (equally (more_parameters o.parameters 0 0 (bare kind.ABSTRACT ∷ write_pred o.abstractly 0 0 v) (a_unary 0 0 ∷ a_pred_rest 0 0 0 ∷ σ)
    (λ i l j. equally (predicate o.abstractly g.0 v behind_concrete σ
    (λ c m. equally (ended o.concretely g.1 u ρ (more_operations os g.2 (suc n)) kind.CONCRETE)) kind.ABSTRACT)) kind.plain))

-- the machine takes each symbol of a grouped dossier, with marks that fit, and may end behind the last
pub agree : (d : Dossier) → Grouped d → Agrees kind.END (written d) initial
unfolding compute_form
agree d g =
    equally (entries kind.GIVEN a_given some_entries (λ n γ. refl) d.given_entries 0 _ [] (λ n k. equally (equally (equally (equally (equally
    (entries kind.OP an_operation some_op_entries (λ n γ. refl) d.operation_entries 0 _ [] (λ n k. equally (more_givens d.givens 0 _ [] (λ n k. equally
    (state_body d.abstract g.abstract _ _ (λ k. equally (state_body d.concrete g.concrete _ _ (λ k. equally
    (conditional d.ainit g.ainit _ _ (λ k. equally (conditional d.cinit g.cinit _ _ (λ k. equally
    (conditional d.retrieve g.retrieve _ _ (more_operations d.operations g.operations 0)
    kind.RETRIEVE)) kind.CINIT)) kind.AINIT)) kind.CONCRETE)) kind.ABSTRACT)) kind.END)) kind.RETRIEVE)))))) kind.CONTENTS)
