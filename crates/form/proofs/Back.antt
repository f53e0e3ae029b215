-- Each entry of the machine's tables turned round: what stands for an item, from the symbol taken and what stands for the items expected next.
use mathlib.Core.Path.{◌≡◌, refl, ap, ◌∙◌}
use mathlib.Core.Bool.{Bool, true, false}
use mathlib.Core.List.{List, [], ◌∷◌, ◌++◌}
use mathlib.Core.Option.{none, some}
use Prim.Native.Nat.{ℕ, suc}
use Rattle.lexical.specs.Kinds as kind
use Rattle.lexical.specs.Kinds.{Kind, code_of, is, lookup}
use Rattle.lexical.specs.Symbols as symbol
use Rattle.lexical.specs.Symbols.{Name, no_ending, Symbol, fixed}
use Rattle.form.specs.Tree as tree
use Rattle.form.specs.Tree.{Letters, End, Connective, Quantifier, Given, Parameter, Operation, Declaration, State, Pred, Term, Dossier}
use Rattle.form.specs.Written.{connective_kind, quantifier_kind, a_variable, an_operation}
use Rattle.form.specs.Machine.{Item, exact, a_declared, a_name, an_empty_rest, an_end, a_type, a_type_rest, a_domain, a_dossier, a_term, an_operand, a_term_rest, a_rel, a_mem, a_right, a_neg, a_num_rest}
use Rattle.form.specs.Machine.{a_brace, a_named, a_first, a_list, a_pairs, a_unary, a_paren, a_pred_rest, some_entries, some_op_entries, some_bodies, some_elements, some_declarations, some_operations, some_parameters}
use Rattle.form.specs.Machine.{Act, take, skip, stuck, then, starts, from_start, start_term, operate, start_pred, quantified, on_name, act, Start}
use Rattle.form.proofs.Table.{by-table, Each, ◌&◌, Carried, symbol_of, ending_at}
use Rattle.form.proofs.PlainSymbols.{plain_parameters, named, plain_term, plain_pred, plain_declarations, plain_domain, plain_state, plain_where, Bodies}
use Rattle.form.proofs.Fill.{Fill, fill, Fills, print, Tail, operation, division, PredTail, connection, a_set, negated_term, goes_on, comparing, belonging, pairing}
use Rattle.form.proofs.Fill.{more_items, more_pairs, first, used, bound, inside, quantifying, plain_tail, plain_pred_tail, plain_relating, plain_after_first}
use Rattle.form.proofs.Fill.{extended, extended-plain, joined, joined-plain, braced, braced-plain, parenthesised, parenthesised-plain, relate, relate-plain, emptied, emptied-plain}
use Rattle.form.proofs.Fill.{arrowed, arrowed-plain, from_number, from_number-plain, from_negated, from_negated-plain, negated_number, negated_number-plain, from_name, from_name-plain}
use Rattle.form.proofs.Fill as filling

-- what an act of an item at a symbol allows: to complete the item from what is expected after
abbrev pub Back : List Item → Item → Symbol → Act → Type 0
Back γ i s (take m ρ) = (h : Fills (ρ ++ γ)) → (g : Fills (i ∷ γ)) × (print (i ∷ γ) g ≡ s ∷ print (ρ ++ γ) h)
Back γ i s skip = (f : Fill i) × ((w : List Symbol) → fill i f w ≡ w)
Back γ i s stuck = Unit {0}

-- at every symbol of a kind
abbrev pub Backs : List Item → Item → Kind → Act → Type 0
Backs γ i j a = (c : Carried j) → Back γ i (symbol_of j c) a

-- the item is completed by a term and then ρ; by what follows a term and then ρ; by a predicate and then ρ
abbrev ByTerm : List Item → Item → List Item → Type 0
ByTerm γ i ρ = (t : Term) (h : Fills (ρ ++ γ)) → (g : Fills (i ∷ γ)) × (print (i ∷ γ) g ≡ plain_term t (print (ρ ++ γ) h))

abbrev ByTail : List Item → Item → List Item → Type 0
ByTail γ i ρ = (x : Tail) (h : Fills (ρ ++ γ)) → (g : Fills (i ∷ γ)) × (print (i ∷ γ) g ≡ plain_tail x (print (ρ ++ γ) h))

abbrev ByPred : List Item → Item → List Item → Type 0
ByPred γ i ρ = (p : Pred) (h : Fills (ρ ++ γ)) → (g : Fills (i ∷ γ)) × (print (i ∷ γ) g ≡ plain_pred p (print (ρ ++ γ) h))

abbrev name_at : (k : Kind) → Letters → Name
name_at k x = record { letters = x; ending = ending_at k }

-- every entry of a table and its default
back-table : (γ : List Item) (i : Item) (table : List (Kind × Act)) (d : Act) (s : Kind) → Each (Backs γ i) table → Backs γ i s d → Backs γ i s (lookup table d s)
back-table γ i table d s h p = by-table (Backs γ i) table d s h p

-- a term's first symbol
back-term : (γ : List Item) (i : Item) (ρ : List Item) → ByTerm γ i ρ → (d k : ℕ) (s : Kind) → Backs γ i s (start_term d k ρ s)
unfolding plain_term start_term is code_of
back-term γ i ρ by d k s =
    by-table (λ (j : Kind) (v : Start). Backs γ i j (from_start d k ρ v)) starts Start.nothing s
    ((λ c h. by (tree.number c) h)
    & (λ c h. by (tree.name (name_at kind.plain c)) h)
    & (λ c h. by (tree.name (name_at kind.primed c)) h)
    & (λ c h. by (tree.name (name_at kind.input c)) h)
    & (λ c h. by (tree.name (name_at kind.output c)) h)
    & (λ c h. by (tree.prefix tree.negate h.0) h.1)
    & (λ c h. by (tree.prefix tree.size h.0) h.1)
    & (λ c h. by (tree.prefix tree.dom h.0) h.1)
    & (λ c h. by (tree.prefix tree.ran h.0) h.1)
    & (λ c h. by (tree.group h.0) h.1.1)
    & (λ c h. let g = by (braced h.0) h.1 in (g.0, g.1 ∙ braced-plain h.0 (print (ρ ++ γ) h.1)))
    & (λ c h. let g = by (emptied h.0 h.1.0) h.1.1 in (g.0, g.1 ∙ emptied-plain h.0 h.1.0 (print (ρ ++ γ) h.1.1)))
    & tt)
    (λ c. tt)

-- an operator's symbol
back-operate : (γ : List Item) (i : Item) (ρ : List Item) → ByTail γ i ρ → (d k : ℕ) (other : Act) (s : Kind) → Backs γ i s other → Backs γ i s (operate d k ρ other s)
unfolding plain_term operate is code_of
back-operate γ i ρ by d k other s b =
    back-table γ i _ _ s
    ((λ c h. by (operation tree.plus h.0) h.1)
    & (λ c h. by (operation tree.minus h.0) h.1)
    & (λ c h. by (operation tree.union h.0) h.1)
    & (λ c h. by (operation tree.without h.0) h.1)
    & (λ c h. by (operation tree.times h.0) h.1)
    & (λ c h. by (operation tree.inter h.0) h.1)
    & (λ c h. by (division tree.quotient h.0 h.1.0) h.1.1)
    & (λ c h. by (division tree.remainder h.0 h.1.0) h.1.1)
    & tt)
    b

-- a predicate's first symbol
back-pred : (γ : List Item) (i : Item) (ρ : List Item) → ByPred γ i ρ → (d k : ℕ) (s : Kind) → Backs γ i s (start_pred d k ρ s)
unfolding plain_term start_pred is code_of
back-pred γ i ρ by d k s =
    back-table γ i _ _ s
    ((λ c h. by tree.truth h)
    & (λ c h. by tree.falsity h)
    & (λ c h. by (tree.negation h.0) h.1)
    & (λ c h. let g = by (parenthesised h.0) h.1 in (g.0, g.1 ∙ parenthesised-plain h.0 (print (ρ ++ γ) h.1)))
    & tt)
    (back-term γ i (a_term_rest d k ∷ a_rel d k ∷ ρ)
    (λ t h.
    let g = by (relate (extended t h.0) h.1.0) h.1.1 in
    let w = print (ρ ++ γ) h.1.1 in
    (g.0, g.1 ∙ relate-plain (extended t h.0) h.1.0 w ∙ extended-plain t h.0 (plain_relating h.1.0 w))) d k s)

-- any name's symbol
back-name : (γ : List Item) (i : Item) (a b : Act) (s : Kind) → ((x : Name) → Back γ i (symbol.name x) a) → Backs γ i s b → Backs γ i s (on_name a b s)
unfolding on_name is code_of
back-name γ i a b s by other =
    back-table γ i _ _ s
    ((λ c. by (name_at kind.plain c)) & (λ c. by (name_at kind.primed c)) & (λ c. by (name_at kind.input c)) & (λ c. by (name_at kind.output c)) & tt) other

-- what follows a predicate by what follows a connective there
connects : (γ : List Item) (o : Connective) (h : Pred × (PredTail × Fills γ))
    → (g : PredTail × Fills γ) × (plain_pred_tail g.0 (print γ g.1) ≡ fixed (connective_kind o) ∷ plain_pred h.0 (plain_pred_tail h.1.0 (print γ h.1.1)))
connects γ o h =
    ((connection o (joined h.0 h.1.0), h.1.1), ap (λ (l : List Symbol). fixed (connective_kind o) ∷ l) (joined-plain h.0 h.1.0 (print γ h.1.1)))

-- a dossier by its contents and bodies
abbrev dossier_from : List Letters → List Letters → Bodies → Dossier
dossier_from gs os b =
    record {
      given_entries = gs;
      operation_entries = os;
      givens = b.givens;
      abstract = b.abstract;
      concrete = b.concrete;
      ainit = b.ainit;
      cinit = b.cinit;
      retrieve = b.retrieve;
      operations = b.operations;
    }

-- bodies with one more given set before them
abbrev with_given : Given → Bodies → Bodies
with_given g b =
    record {
      givens = g ∷ b.givens;
      abstract = b.abstract;
      concrete = b.concrete;
      ainit = b.ainit;
      cinit = b.cinit;
      retrieve = b.retrieve;
      operations = b.operations;
    }

-- what follows a ( by what follows a quantifier there
quantifies-back : (γ : List Item) (d k : ℕ) (q : Quantifier) → Back γ (a_paren d k) (fixed (quantifier_kind q)) (quantified d k)
unfolding plain_term is code_of
quantifies-back γ d k q h = (
  (quantifying q h.0 h.1.1.0 (joined h.1.1.1.1.0 h.1.1.1.1.1.0), h.1.1.1.1.1.1.1),
  ap (λ (l : List Symbol). fixed (quantifier_kind q) ∷ named h.0 no_ending ∷ fixed kind.colon ∷ plain_domain h.1.1.0 (fixed kind.spot ∷ l))
      (joined-plain h.1.1.1.1.0 h.1.1.1.1.1.0 (fixed kind.close_paren ∷ print γ h.1.1.1.1.1.1.1)),
)

-- a state's declarations and predicate; `where` and a predicate
abbrev state_items : List Item → List Item
state_items γ =
    a_declared (a_variable 1) ∷ exact kind.colon ∷ a_type ∷ exact kind.semicolon ∷ some_declarations 1 ∷ a_unary 0 0 ∷ a_pred_rest 0 0 0 ∷ exact kind.END ∷ γ

abbrev where_items : List Item → List Item
where_items γ = exact kind.WHERE ∷ a_unary 0 0 ∷ a_pred_rest 0 0 0 ∷ exact kind.END ∷ γ

state-back : (γ : List Item) (h : Fills (state_items γ)) → (s : State) × (r : Fills γ) × (plain_state s (print γ r) ≡ print (state_items γ) h)
unfolding is code_of
state-back γ h =
    let d : Declaration = record { declared = h.0; type = h.1.1.0 } in
    let ds : List Declaration = h.1.1.1.1.0 in
    let p : Pred = h.1.1.1.1.1.0 in
    let x : PredTail = h.1.1.1.1.1.1.0 in
    let r : Fills γ = h.1.1.1.1.1.1.1.1 in (
      record { first_declaration = d; other_declarations = ds; predicate = joined p x },
      r,
      ap (λ (l : List Symbol). plain_declarations (d ∷ ds) (fixed kind.WHERE ∷ l)) (joined-plain p x (fixed kind.END ∷ print γ r)),
    )

where-back : (γ : List Item) (h : Fills (where_items γ)) → (p : Pred) × (r : Fills γ) × (plain_where p (print γ r) ≡ print (where_items γ) h)
unfolding is code_of
where-back γ h =
    (joined h.1.0 h.1.1.0, h.1.1.1.1, ap (λ (l : List Symbol). fixed kind.WHERE ∷ l) (joined-plain h.1.0 h.1.1.0 (fixed kind.END ∷ print γ h.1.1.1.1)))

-- the bodies from `retrieve` on; from `cinit`, `ainit`, `concrete`
abbrev from_retrieve : List Item → List Item
from_retrieve γ = exact kind.RETRIEVE ∷ where_items (some_operations 0 ∷ γ)

abbrev from_cinit : List Item → List Item
from_cinit γ = exact kind.CINIT ∷ where_items (from_retrieve γ)

abbrev from_ainit : List Item → List Item
from_ainit γ = exact kind.AINIT ∷ where_items (from_cinit γ)

abbrev from_concrete : List Item → List Item
from_concrete γ = exact kind.CONCRETE ∷ state_items (from_ainit γ)

-- the bodies from `abstract` on
bodies-back : (γ : List Item) (n : ℕ) → Back γ (some_bodies n) (fixed kind.ABSTRACT) (then (state_items (from_concrete [])))
unfolding is code_of
bodies-back γ n h =
    let a = state-back (from_concrete γ) h in
    let c = state-back (from_ainit γ) a.1.1 in
    let i = where-back (from_cinit γ) c.1.1 in
    let j = where-back (from_retrieve γ) i.1.1 in
    let r = where-back (some_operations 0 ∷ γ) j.1.1 in (
      (
        record { givens = []; abstract = a.0; concrete = c.0; ainit = i.0; cinit = j.0; retrieve = r.0; operations = r.1.0 },
        r.1.1,
      ),
      ap (λ (l : List Symbol). fixed kind.ABSTRACT ∷ l)
          (ap (λ (l : List Symbol). plain_state a.0 (fixed kind.CONCRETE ∷ l))
          (ap (λ (l : List Symbol). plain_state c.0 (fixed kind.AINIT ∷ l))
          (ap (λ (l : List Symbol). plain_where i.0 (fixed kind.CINIT ∷ l)) (ap (λ (l : List Symbol). plain_where j.0 (fixed kind.RETRIEVE ∷ l)) r.2 ∙ j.2) ∙ i.2) ∙ c.2) ∙ a.2),
    )

-- an operation from its parameters on
operations-back : (γ : List Item) (n : ℕ)
    → Back γ (some_operations n) (fixed kind.OP) (then (a_declared (an_operation (suc n)) ∷ some_parameters 0 0 ∷ a_unary 0 0 ∷ a_pred_rest 0 0 0 ∷ exact kind.CONCRETE
    ∷ a_unary 0 0 ∷ a_pred_rest 0 0 0 ∷ exact kind.END ∷ some_operations (suc n) ∷ []))
unfolding is code_of
operations-back γ n h =
    let x : Letters = h.0 in
    let ps : List Parameter = h.1.0 in
    let p : Pred = h.1.1.0 in
    let y : PredTail = h.1.1.1.0 in
    let q : Pred = h.1.1.1.1.1.0 in
    let z : PredTail = h.1.1.1.1.1.1.0 in
    let os : List Operation = h.1.1.1.1.1.1.1.1.0 in
    let r : Fills γ = h.1.1.1.1.1.1.1.1.1 in (
      (record { title = x; parameters = ps; abstractly = joined p y; concretely = joined q z } ∷ os, r),
      ap (λ (l : List Symbol). fixed kind.OP ∷ named x no_ending ∷ plain_parameters ps (fixed kind.ABSTRACT ∷ l))
          (joined-plain p y _ ∙ ap (λ (l : List Symbol). plain_pred p (plain_pred_tail y (fixed kind.CONCRETE ∷ l))) (joined-plain q z _)),
    )

-- what follows a name in braces by what follows a : there
binds-back : (γ : List Item) (d k : ℕ)
    → Back γ (a_named d k) (fixed kind.colon) (then (a_name ∷ exact kind.bar ∷ a_unary d (suc k) ∷ a_pred_rest d d (suc k) ∷ exact kind.close_brace ∷ []))
unfolding is code_of
binds-back γ d k h =
    let p : Pred = h.1.1.0 in
    let x : PredTail = h.1.1.1.0 in
    let r : Fills γ = h.1.1.1.1.1 in (
      (bound h.0 (joined p x), r),
      ap (λ (l : List Symbol). fixed kind.colon ∷ symbol.name h.0 ∷ fixed kind.bar ∷ l) (joined-plain p x (fixed kind.close_brace ∷ print γ r)),
    )

abbrev end_of : Bool → ℕ → End
end_of b n = record { negative = b; magnitude = n }

-- every item at every kind
pub back : (γ : List Item) (i : Item) (s : Kind) → Backs γ i s (act i s)
unfolding plain_term act is code_of
back γ (exact e) s = back-table γ (exact e) _ _ s ((λ c h. ((c, h), refl)) & tt) (λ c. tt)
back γ (a_declared m) s = back-table γ (a_declared m) _ _ s ((λ c h. ((c, h), refl)) & tt) (λ c. tt)
back γ a_name s = back-name γ a_name _ _ s (λ x h. ((x, h), refl)) (λ c. tt)
back γ an_empty_rest s = back-name γ an_empty_rest _ _ s (λ x h. ((some x, h), refl)) (λ c. (none, λ w. refl))
back γ an_end s = back-table γ an_end _ _ s ((λ c h. ((end_of false c, h), refl)) & (λ c h. ((end_of true h.0, h.1), refl)) & tt) (λ c. tt)
back γ a_type s =
    back-table γ a_type _ _ s
    ((λ c h. ((tree.range_type (record { lower = end_of false c; upper = h.1.0 }), h.1.1), refl))
    & (λ c h. ((tree.range_type (record { lower = end_of true h.0; upper = h.1.1.0 }), h.1.1.1), refl))
    & (λ c h. ((tree.power_type h.0, h.1), refl))
    & tt)
    (back-name γ a_type _ _ s (λ x h. ((arrowed x h.0, h.1), arrowed-plain x h.0 (print γ h.1))) (λ c. tt))
back γ a_type_rest s =
    back-table γ a_type_rest _ _ s
    ((λ c h. ((some (tree.relation, h.0), h.1), refl))
    & (λ c h. ((some (tree.partial, h.0), h.1), refl))
    & (λ c h. ((some (tree.total, h.0), h.1), refl))
    & tt)
    (λ c. (none, λ w. refl))
back γ a_domain s =
    back-table γ a_domain _ _ s
    ((λ c h. ((tree.range (record { lower = end_of false c; upper = h.1.0 }), h.1.1), refl))
    & (λ c h. ((tree.range (record { lower = end_of true h.0; upper = h.1.1.0 }), h.1.1.1), refl))
    & tt)
    (back-name γ a_domain _ _ s (λ x h. ((tree.given_set x, h), refl)) (λ c. tt))
back γ a_dossier s = back-table γ a_dossier _ _ s ((λ c h. ((dossier_from h.0.0 h.0.1 h.0.2, h.1), refl)) & tt) (λ c. tt)
back γ (a_term d k) s = back-term γ (a_term d k) (a_term_rest d k ∷ []) (λ t h. ((extended t h.0, h.1), extended-plain t h.0 (print γ h.1))) d k s
back γ (an_operand d k) s = back-term γ (an_operand d k) [] (λ t h. ((t, h), refl)) d k s
back γ (a_term_rest d k) s = back-operate γ (a_term_rest d k) [] (λ x h. ((x, h), refl)) d k skip s (λ c. (Tail.nothing, λ w. refl))
back γ (a_rel d k) s =
    back-table γ (a_rel d k) _ _ s
    ((λ c h. ((comparing tree.equals h.0, h.1), refl))
    & (λ c h. ((comparing tree.differs h.0, h.1), refl))
    & (λ c h. ((comparing tree.less h.0, h.1), refl))
    & (λ c h. ((comparing tree.at_most h.0, h.1), refl))
    & (λ c h. ((belonging tree.is_in h.0, h.1), refl))
    & (λ c h. ((belonging tree.not_in h.0, h.1), refl))
    & (λ c h. ((pairing h.0 h.1.0.0 h.1.0.1, h.1.1), refl))
    & tt)
    (λ c. tt)
back γ (a_mem d k) s = back-table γ (a_mem d k) _ _ s ((λ c h. (((tree.is_in, h.0), h.1), refl)) & (λ c h. (((tree.not_in, h.0), h.1), refl)) & tt) (λ c. tt)
back γ (a_right d k) s =
    back-table γ (a_right d k) _ _ s
    ((λ c h. ((from_number c h.0, h.1), from_number-plain c h.0 (print γ h.1)))
    & (λ c h. ((from_negated h.0, h.1), from_negated-plain h.0 (print γ h.1)))
    & tt)
    (back-term γ (a_right d k) (a_term_rest d k ∷ []) (λ t h. ((a_set (extended t h.0), h.1), extended-plain t h.0 (print γ h.1))) d k s)
back γ (a_neg d k) s =
    back-table γ (a_neg d k) _ _ s ((λ c h. ((negated_number c h.0, h.1), negated_number-plain c h.0 (print γ h.1))) & tt)
    (back-term γ (a_neg d k) (a_term_rest d k ∷ []) (λ t h. ((negated_term (extended t h.0), h.1), extended-plain t h.0 (print γ h.1))) (suc d) k s)
back γ (a_num_rest d k) s =
    back-table γ (a_num_rest d k) _ _ s ((λ c h. ((filling.up_to h.0, h.1), refl)) & tt)
    (back-operate γ (a_num_rest d k) [] (λ x h. ((goes_on x, h), refl)) d k skip s (λ c. (goes_on Tail.nothing, λ w. refl)))
back γ (a_brace d k) s =
    back-table γ (a_brace d k) _ _ s ((λ c h. ((from_name c h.0, h.1), from_name-plain c h.0 (print γ h.1))) & tt)
    (back-term γ (a_brace d k) (a_term_rest d k ∷ a_first d k ∷ [])
    (λ t h. ((first (extended t h.0) h.1.0, h.1.1), extended-plain t h.0 (plain_after_first h.1.0 (print γ h.1.1)))) d k s)
back γ (a_named d k) s =
    back-table γ (a_named d k) _ _ s
    ((λ c h. binds-back γ d k h)
    & (λ c h. ((used Tail.nothing (more_items (h.0 ∷ h.1.0)), h.1.1), refl))
    & (λ c h. ((used Tail.nothing (more_items []), h), refl))
    & (λ c h. ((used Tail.nothing (more_pairs h.0 h.1.0), h.1.1), refl))
    & tt)
    (back-operate γ (a_named d k) (a_first d k ∷ []) (λ x h. ((used x h.0, h.1), refl)) d k stuck s (λ c. tt))
back γ (a_first d k) s =
    back-table γ (a_first d k) _ _ s
    ((λ c h. ((more_items (h.0 ∷ h.1.0), h.1.1), refl))
    & (λ c h. ((more_items [], h), refl))
    & (λ c h. ((more_pairs h.0 h.1.0, h.1.1), refl))
    & tt)
    (λ c. tt)
back γ (a_list d k) s = back-table γ (a_list d k) _ _ s ((λ c h. ((h.0 ∷ h.1.0, h.1.1), refl)) & (λ c h. (([], h), refl)) & tt) (λ c. tt)
back γ (a_pairs d k) s =
    back-table γ (a_pairs d k) _ _ s ((λ c h. (((h.0, h.1.1.0) ∷ h.1.1.1.0, h.1.1.1.1), refl)) & (λ c h. (([], h), refl)) & tt) (λ c. tt)
back γ (a_unary d k) s = back-pred γ (a_unary d k) [] (λ p h. ((p, h), refl)) d k s
back γ (a_paren d k) s =
    back-table γ (a_paren d k) _ _ s
    ((λ c h. quantifies-back γ d k tree.forall h) & (λ c h. quantifies-back γ d k tree.exists h) & (λ c h. quantifies-back γ d k tree.exists1 h) & tt)
    (back-pred γ (a_paren d k) (a_pred_rest d d k ∷ exact kind.close_paren ∷ [])
    (λ p h. ((inside (joined p h.0), h.1.1), joined-plain p h.0 (fixed kind.close_paren ∷ print γ h.1.1))) d k s)
back γ (a_pred_rest b e k) s =
    back-table γ (a_pred_rest b e k) _ _ s
    ((λ c h. connects γ tree.and h) & (λ c h. connects γ tree.or h) & (λ c h. connects γ tree.implies h) & (λ c h. connects γ tree.iff h) & tt)
    (λ c. (PredTail.nothing, λ w. refl))
back γ (some_entries n) s =
    back-table γ (some_entries n) _ _ s
    ((λ c h. (((h.0 ∷ h.1.0.0, h.1.0.1, h.1.0.2), h.1.1), refl))
    & (λ c h. ((([], h.1.1.1.1.0.0, h.1.1.1.1.0.1), h.1.1.1.1.1), refl))
    & tt)
    (λ c. tt)
back γ (some_op_entries n) s =
    back-table γ (some_op_entries n) _ _ s ((λ c h. (((h.0 ∷ h.1.0.0, h.1.0.1), h.1.1), refl)) & (λ c h. ((([], h.0), h.1), refl)) & tt) (λ c. tt)
back γ (some_bodies n) s =
    back-table γ (some_bodies n) _ _ s
    ((λ c h. ((with_given (record { title = h.0; first_element = h.1.0; other_elements = h.1.1.0 }) h.1.1.1.0, h.1.1.1.1), refl))
    & (λ c h. bodies-back γ n h)
    & tt)
    (λ c. tt)
back γ (some_elements n) s = back-table γ (some_elements n) _ _ s ((λ c h. ((c ∷ h.0, h.1), refl)) & (λ c h. (([], h), refl)) & tt) (λ c. tt)
back γ (some_declarations n) s =
    back-table γ (some_declarations n) _ _ s
    ((λ c h. ((record { declared = c; type = h.1.0 } ∷ h.1.1.1.0, h.1.1.1.1), refl)) & (λ c h. (([], h), refl)) & tt) (λ c. tt)
back γ (some_operations n) s = back-table γ (some_operations n) _ _ s ((λ c h. operations-back γ n h) & tt) (λ c. ([], λ w. refl))
back γ (some_parameters i o) s =
    back-table γ (some_parameters i o) _ _ s
    ((λ c h. ((record { direction = tree.inward; declaration = record { declared = c; type = h.1.0 } } ∷ h.1.1.1.0, h.1.1.1.1), refl))
    & (λ c h. ((record { direction = tree.outward; declaration = record { declared = c; type = h.1.0 } } ∷ h.1.1.1.0, h.1.1.1.1), refl))
    & (λ c h. (([], h), refl))
    & tt)
    (λ c. tt)
