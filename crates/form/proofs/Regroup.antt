-- Every tree's symbols are those of a tree grouped as the binding rules say.
use mathlib.Core.Path.{◌≡◌, refl, ap, ◌∙◌, sym}
use mathlib.Core.List.{List, [], ◌∷◌}
use Prim.Native.Nat.{ℕ}
use native.Mathlib.Omega.{arith}
use Rattle.lexical.specs.Kinds as kind
use Rattle.lexical.specs.Symbols as symbol
use Rattle.lexical.specs.Symbols.{Symbol, no_ending, fixed}
use Rattle.form.specs.Tree.{Term, number, name, group, prefix, binary, divided, listed, pairs, such, empty_set, empty_pairs, Items, only, also, Pairs, only_pair, also_pair}
use Rattle.form.specs.Tree.{Pred, truth, falsity, negation, paren, quantified, connected, compared, member, within, related, State, Operation, Dossier}
use Rattle.form.specs.Written.{prefix_kind, operator_kind, connective_kind, quantifier_kind, comparison_kind, membership_kind, symbols_of}
use Rattle.form.specs.Form.{TermGrouped, ItemsGrouped, PairsGrouped, PredGrouped, OperationsGrouped, Grouped}
use Rattle.form.proofs.PlainSymbols.{named, plain_domain, plain_term, plain_items, plain_pairs, plain_pred, plain_range, plain_entries, plain_givens, plain_declarations, plain_where, plain_state, plain_parameters, plain_operations}
use Rattle.form.proofs.PlainSymbols.{dossier-plain}
use Rattle.form.proofs.Insert.{TermMade, PredMade, After, operating, dividing, follows, operand, prefixed, AfterPred, connecting, follows_pred, unary, negated}

-- the same tree for the same symbols written otherwise
term-as : {m : ℕ} {w x : List Symbol → List Symbol} → TermMade m w → ((v : List Symbol) → w v ≡ x v) → TermMade m x
term-as g e = record { tree = g.tree; grouped = g.grouped; holds = g.holds; same = λ v. g.same v ∙ e v }

pred_as : {m : ℕ} {w x : List Symbol → List Symbol} → PredMade m w → ((v : List Symbol) → w v ≡ x v) → PredMade m x
pred_as g e = record { tree = g.tree; grouped = g.grouped; holds = g.holds; same = λ v. g.same v ∙ e v }

-- a tree and what follows it, regrouped from the right
mutual
  unfolding TermGrouped plain_term

  onto : (t : Term) (r : After) → TermMade 1 (λ (v : List Symbol). plain_term t (follows r v))
  onto (number n) r = operand (number n) tt (omega arith) r
  onto (name x) r = operand (name x) tt (omega arith) r
  onto (group t) r =
      let g = onto t After.nothing in
      term-as (operand (group g.tree) g.grouped (omega arith) r)
      (λ v. ap (λ (l : List Symbol). fixed kind.open_bracket ∷ l) (g.same (fixed kind.close_bracket ∷ follows r v)))
  onto (prefix o t) r =
      let g = onto t r in
      term-as (prefixed o g.tree g.grouped 1 g.holds (omega arith)) (λ v. ap (λ (l : List Symbol). fixed (prefix_kind o) ∷ l) (g.same v))
  onto (binary o t u) r =
      let g = onto u r in
      term-as (onto t (operating o g.tree g.grouped)) (λ v. ap (λ (l : List Symbol). plain_term t (fixed (operator_kind o) ∷ l)) (g.same v))
  onto (divided j t e) r = onto t (dividing j e r)
  onto (listed ts) r =
      let g = onto_items ts in
      term-as (operand (listed g.0) g.1 (omega arith) r) (λ v. ap (λ (l : List Symbol). fixed kind.open_brace ∷ l) (g.2 (fixed kind.close_brace ∷ follows r v)))
  onto (pairs ts) r =
      let g = onto_pairs ts in
      term-as (operand (pairs g.0) g.1 (omega arith) r) (λ v. ap (λ (l : List Symbol). fixed kind.open_brace ∷ l) (g.2 (fixed kind.close_brace ∷ follows r v)))
  onto (such x s p) r =
      let g = onto_pred p AfterPred.nothing in
      term-as (operand (such x s g.tree) g.grouped (omega arith) r)
      (λ v. ap (λ (l : List Symbol). fixed kind.open_brace ∷ named x no_ending ∷ fixed kind.colon ∷ symbol.name s ∷ fixed kind.bar ∷ l) (g.same (fixed kind.close_brace ∷ follows r v)))
  onto (empty_set s) r = operand (empty_set s) tt (omega arith) r
  onto (empty_pairs s q) r = operand (empty_pairs s q) tt (omega arith) r

  onto_items : (ts : Items) → (us : Items) × ItemsGrouped us × ((v : List Symbol) → plain_items us v ≡ plain_items ts v)
  onto_items (only t) = let g = onto t After.nothing in (only g.tree, g.grouped, g.same)
  onto_items (also t ts) =
      let g = onto t After.nothing in
      let h = onto_items ts in
      (also g.tree h.0, (g.grouped, h.1), λ v. g.same (fixed kind.comma ∷ plain_items h.0 v) ∙ ap (λ (l : List Symbol). plain_term t (fixed kind.comma ∷ l)) (h.2 v))

  onto_pairs : (ts : Pairs) → (us : Pairs) × PairsGrouped us × ((v : List Symbol) → plain_pairs us v ≡ plain_pairs ts v)
  onto_pairs (only_pair t u) =
      let g = onto t After.nothing in
      let h = onto u After.nothing in (
        only_pair g.tree h.tree,
        (g.grouped, h.grouped),
        λ v. g.same (fixed kind.maplet ∷ plain_term h.tree v) ∙ ap (λ (l : List Symbol). plain_term t (fixed kind.maplet ∷ l)) (h.same v),
      )
  onto_pairs (also_pair t u ts) =
      let g = onto t After.nothing in
      let h = onto u After.nothing in
      let k = onto_pairs ts in (
        also_pair g.tree h.tree k.0,
        (g.grouped, h.grouped, k.1),
        λ v. g.same (fixed kind.maplet ∷ plain_term h.tree (fixed kind.comma ∷ plain_pairs k.0 v))
            ∙ ap (λ (l : List Symbol). plain_term t (fixed kind.maplet ∷ l))
            (h.same (fixed kind.comma ∷ plain_pairs k.0 v) ∙ ap (λ (l : List Symbol). plain_term u (fixed kind.comma ∷ l)) (k.2 v)),
      )

  onto_pred : (p : Pred) (r : AfterPred) → PredMade 1 (λ (v : List Symbol). plain_pred p (follows_pred r v))
  onto_pred truth r = unary truth tt (omega arith) r
  onto_pred falsity r = unary falsity tt (omega arith) r
  onto_pred (negation p) r =
      let g = onto_pred p r in
      pred_as (negated g.tree g.grouped 1 g.holds (omega arith)) (λ v. ap (λ (l : List Symbol). fixed kind.NOT ∷ l) (g.same v))
  onto_pred (paren p) r =
      let g = onto_pred p AfterPred.nothing in
      pred_as (unary (paren g.tree) g.grouped (omega arith) r)
      (λ v. ap (λ (l : List Symbol). fixed kind.open_paren ∷ l) (g.same (fixed kind.close_paren ∷ follows_pred r v)))
  onto_pred (quantified q x t p) r =
      let g = onto_pred p AfterPred.nothing in
      pred_as (unary (quantified q x t g.tree) g.grouped (omega arith) r)
      (λ v. ap (λ (l : List Symbol). fixed kind.open_paren ∷ fixed (quantifier_kind q) ∷ named x no_ending ∷ fixed kind.colon ∷ plain_domain t (fixed kind.spot ∷ l)) (g.same (fixed kind.close_paren ∷ follows_pred r v)))
  onto_pred (connected o p q) r =
      let g = onto_pred q r in
      pred_as (onto_pred p (connecting o g.tree g.grouped)) (λ v. ap (λ (l : List Symbol). plain_pred p (fixed (connective_kind o) ∷ l)) (g.same v))
  onto_pred (compared o t u) r =
      let g = onto t After.nothing in
      let h = onto u After.nothing in
      pred_as (unary (compared o g.tree h.tree) (g.grouped, h.grouped) (omega arith) r)
      (λ v. g.same (fixed (comparison_kind o) ∷ plain_term h.tree (follows_pred r v)) ∙ ap (λ (l : List Symbol). plain_term t (fixed (comparison_kind o) ∷ l)) (h.same (follows_pred r v)))
  onto_pred (member o t u) r =
      let g = onto t After.nothing in
      let h = onto u After.nothing in
      pred_as (unary (member o g.tree h.tree) (g.grouped, h.grouped) (omega arith) r)
      (λ v. g.same (fixed (membership_kind o) ∷ plain_term h.tree (follows_pred r v)) ∙ ap (λ (l : List Symbol). plain_term t (fixed (membership_kind o) ∷ l)) (h.same (follows_pred r v)))
  onto_pred (within o t a) r =
      let g = onto t After.nothing in
      pred_as (unary (within o g.tree a) g.grouped (omega arith) r) (λ v. g.same (fixed (membership_kind o) ∷ plain_range a (follows_pred r v)))
  onto_pred (related o t u a) r =
      let g = onto t After.nothing in
      let h = onto u After.nothing in
      let k = onto a After.nothing in
      pred_as (unary (related o g.tree h.tree k.tree) (g.grouped, h.grouped, k.grouped) (omega arith) r)
      (λ v. g.same (fixed kind.maplet ∷ plain_term h.tree (fixed (membership_kind o) ∷ plain_term k.tree (follows_pred r v)))
      ∙ ap (λ (l : List Symbol). plain_term t (fixed kind.maplet ∷ l))
      (h.same (fixed (membership_kind o) ∷ plain_term k.tree (follows_pred r v)) ∙ ap (λ (l : List Symbol). plain_term u (fixed (membership_kind o) ∷ l)) (k.same (follows_pred r v))))

-- a grouped predicate with the symbols of any predicate
pub regroup_pred : (p : Pred) → (q : Pred) × PredGrouped q × ((v : List Symbol) → plain_pred q v ≡ plain_pred p v)
regroup_pred p = let g = onto_pred p AfterPred.nothing in (g.tree, g.grouped, g.same)

regroup_where : (p : Pred) → (q : Pred) × PredGrouped q × ((v : List Symbol) → plain_where q v ≡ plain_where p v)
regroup_where p = let g = regroup_pred p in (g.0, g.1, λ v. ap (λ (l : List Symbol). fixed kind.WHERE ∷ l) (g.2 (fixed kind.END ∷ v)))

regroup_state : (s : State) → (r : State) × PredGrouped r.predicate × ((v : List Symbol) → plain_state r v ≡ plain_state s v)
regroup_state s =
    let g = regroup_where s.predicate in (
      record { first_declaration = s.first_declaration; other_declarations = s.other_declarations; predicate = g.0 },
      g.1,
      λ v. ap (plain_declarations (s.first_declaration ∷ s.other_declarations)) (g.2 v),
    )

regroup_operations : (os : List Operation) → (ps : List Operation) × OperationsGrouped ps × ((v : List Symbol) → plain_operations ps v ≡ plain_operations os v)
unfolding OperationsGrouped
regroup_operations [] = ([], tt, λ v. refl)
regroup_operations (o ∷ os) =
    let a = regroup_pred o.abstractly in
    let c = regroup_pred o.concretely in
    let r = regroup_operations os in (
      record { title = o.title; parameters = o.parameters; abstractly = a.0; concretely = c.0 } ∷ r.0,
      (a.1, c.1, r.1),
      λ v. ap (λ (l : List Symbol). fixed kind.OP ∷ named o.title no_ending ∷ plain_parameters o.parameters (fixed kind.ABSTRACT ∷ l))
          (a.2 (fixed kind.CONCRETE ∷ plain_pred c.0 (fixed kind.END ∷ plain_operations r.0 v))
          ∙ ap (λ (l : List Symbol). plain_pred o.abstractly (fixed kind.CONCRETE ∷ l))
          (c.2 (fixed kind.END ∷ plain_operations r.0 v) ∙ ap (λ (l : List Symbol). plain_pred o.concretely (fixed kind.END ∷ l)) (r.2 v))),
    )

-- a grouped dossier with the symbols of any dossier
pub regroup : (d : Dossier) → (e : Dossier) × Grouped e × (symbols_of e ≡ symbols_of d)
regroup d =
    let a = regroup_state d.abstract in
    let c = regroup_state d.concrete in
    let i = regroup_where d.ainit in
    let j = regroup_where d.cinit in
    let r = regroup_where d.retrieve in
    let o = regroup_operations d.operations in
    let e : Dossier =
    record {
      given_entries = d.given_entries;
      operation_entries = d.operation_entries;
      givens = d.givens;
      abstract = a.0;
      concrete = c.0;
      ainit = i.0;
      cinit = j.0;
      retrieve = r.0;
      operations = o.0;
    }
    in (
      e,
      record { abstract = a.1; concrete = c.1; ainit = i.1; cinit = j.1; retrieve = r.1; operations = o.1 },
      dossier-plain e
          ∙ ap (λ (l : List Symbol). fixed kind.CONTENTS ∷ plain_entries kind.GIVEN d.given_entries (fixed kind.ABSTRACT ∷ fixed kind.CONCRETE ∷ fixed kind.AINIT
          ∷ fixed kind.CINIT ∷ fixed kind.RETRIEVE ∷ plain_entries kind.OP d.operation_entries (fixed kind.END ∷ plain_givens d.givens (fixed kind.ABSTRACT ∷ l))))
          (a.2 _
          ∙ ap (λ (l : List Symbol). plain_state d.abstract (fixed kind.CONCRETE ∷ l))
          (c.2 _
          ∙ ap (λ (l : List Symbol). plain_state d.concrete (fixed kind.AINIT ∷ l))
          (i.2 _
          ∙ ap (λ (l : List Symbol). plain_where d.ainit (fixed kind.CINIT ∷ l))
          (j.2 _
          ∙ ap (λ (l : List Symbol). plain_where d.cinit (fixed kind.RETRIEVE ∷ l))
          (r.2 _ ∙ ap (plain_where d.retrieve) (o.2 []))))))
          ∙ sym (dossier-plain d),
    )
