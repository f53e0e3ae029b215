-- Where all names of a dossier's symbols have letters of P and all numbers are at most 1,000, so it is with the dossier's trees.
-- Form 8: value_types/proofs/SymbolNumbers walks the trees alike for numbers. No crate below both names what each claims, and one law for both would take a case for each of 31 constructors.
use mathlib.Core.Path.{subst}
use mathlib.Core.Bool.{Bool, true, false}
use mathlib.Core.List.{List, [], ◌∷◌}
use Prim.Native.Nat.{◌≤◌}
use Rattle.lexical.specs.Kinds.{Kind}
use Rattle.lexical.specs.Symbols.{no_ending, Symbol, numeral}
use Rattle.form.specs.Tree.{Letters, End, Range, Domain, given_set, range}
use Rattle.form.specs.Tree.{Term, number, name, group, prefix, binary, divided, listed, pairs, such, empty_set, empty_pairs, Items, only, also, Pairs, only_pair, also_pair}
use Rattle.form.specs.Tree.{Pred, truth, falsity, negation, paren, quantified, connected, compared, member, within, related}
use Rattle.form.specs.Tree.{TypeForm, given_type, power_type, range_type, arrow_type, Declaration, declarations, Parameter, Given, Operation, Dossier}
use Rattle.form.specs.Written.{symbols_of}
use Rattle.form.proofs.PlainSymbols.{plain_minus, plain_end, plain_range, plain_domain, plain_term, plain_items, plain_pairs, plain_pred, plain_type, plain_entries, plain_elements, plain_givens}
use Rattle.form.proofs.PlainSymbols.{plain_declarations, plain_where, plain_parameters, plain_operations, plain_dossier, dossier-plain}
use Rattle.declared_names.specs.NamesByNumber.{variables_of, parameters_of}
use Rattle.names.proofs.ReachTables.{RangeIn, DomainIn, TermIn, ItemsIn, PairsIn, PredIn}
use Rattle.names.proofs.PassAgreesTypes.{TypeIn}
use Rattle.names.proofs.PassAgreesDeclared.{TypedIn, no_typed, one_typed}
use Rattle.names.proofs.PassAgreesGivens.{AllIn, none_in, one_in, GivensIn, no_givens, one_given}
use Rattle.names.proofs.PassAgreesOperations.{OperationsIn, no_operations, one_operation}
use Rattle.names.proofs.PassAgrees.{DossierIn}
use Rattle.reader.specs.Occurrences.{Fits, AllFit, one_fits}

module _ (P : Letters → Type 0) where
  first : {s : Symbol} {w : List Symbol} → AllFit P (s ∷ w) → Fits P s
  first (one_fits h r) = h

  rest : {s : Symbol} {w : List Symbol} → AllFit P (s ∷ w) → AllFit P w
  rest (one_fits h r) = r

  minus : (b : Bool) (w : List Symbol) → AllFit P (plain_minus b w) → AllFit P w
  minus true w h = rest h
  minus false w h = h

  end : (e : End) (w : List Symbol) → AllFit P (plain_end e w) → (e.magnitude ≤ 1000) × AllFit P w
  end e w h = let a = minus e.negative (numeral e.magnitude ∷ w) h in (first a, rest a)

  ranged : (r : Range) (w : List Symbol) → AllFit P (plain_range r w) → RangeIn r × AllFit P w
  ranged r w h = let a = end r.lower _ h in let b = end r.upper w (rest a.1) in ((a.0, b.0), b.1)

  domain : (t : Domain) (w : List Symbol) → AllFit P (plain_domain t w) → DomainIn P t × AllFit P w
  domain (given_set g) w h = (first h, rest h)
  domain (range r) w h = ranged r w h

  mutual
    unfolding plain_term TermIn

    term : (t : Term) (w : List Symbol) → AllFit P (plain_term t w) → TermIn P t × AllFit P w
    term (number n) w h = (tt, rest h)
    term (name x) w h = (first h, rest h)
    term (group t) w h = let a = term t _ (rest h) in (a.0, rest a.1)
    term (prefix o t) w h = term t w (rest h)
    term (binary o t u) w h = let a = term t _ h in let b = term u w (rest a.1) in ((a.0, b.0), b.1)
    term (divided o t e) w h = let a = term t _ h in let b = end e w (rest a.1) in (a.0, b.1)
    term (listed ts) w h = let a = items ts _ (rest h) in (a.0, rest a.1)
    term (pairs ts) w h = let a = pairing ts _ (rest h) in (a.0, rest a.1)
    term (such x g p) w h =
        let a = pred p _ (rest (rest (rest (rest (rest h))))) in ((first (rest h), first (rest (rest (rest h))), a.0), rest a.1)
    term (empty_set g) w h = (first (rest h), rest (rest h))
    term (empty_pairs g f) w h = ((first (rest h), first (rest (rest h))), rest (rest (rest h)))

    items : (t : Items) (w : List Symbol) → AllFit P (plain_items t w) → ItemsIn P t × AllFit P w
    items (only t) w h = term t w h
    items (also t ts) w h = let a = term t _ h in let b = items ts w (rest a.1) in ((a.0, b.0), b.1)

    pairing : (t : Pairs) (w : List Symbol) → AllFit P (plain_pairs t w) → PairsIn P t × AllFit P w
    pairing (only_pair t u) w h = let a = term t _ h in let b = term u w (rest a.1) in ((a.0, b.0), b.1)
    pairing (also_pair t u ts) w h =
        let a = term t _ h in let b = term u _ (rest a.1) in let c = pairing ts w (rest b.1) in ((a.0, b.0, c.0), c.1)

    pred : (p : Pred) (w : List Symbol) → AllFit P (plain_pred p w) → PredIn P p × AllFit P w
    pred truth w h = (tt, rest h)
    pred falsity w h = (tt, rest h)
    pred (negation p) w h = pred p w (rest h)
    pred (paren p) w h = let a = pred p _ (rest h) in (a.0, rest a.1)
    pred (quantified q x t p) w h =
        let a = domain t _ (rest (rest (rest (rest h)))) in let b = pred p _ (rest a.1) in ((first (rest (rest h)), a.0, b.0), rest b.1)
    pred (connected o p q) w h = let a = pred p _ h in let b = pred q w (rest a.1) in ((a.0, b.0), b.1)
    pred (compared o t u) w h = let a = term t _ h in let b = term u w (rest a.1) in ((a.0, b.0), b.1)
    pred (member o t u) w h = let a = term t _ h in let b = term u w (rest a.1) in ((a.0, b.0), b.1)
    pred (within o t r) w h = let a = term t _ h in let b = ranged r w (rest a.1) in ((a.0, b.0), b.1)
    pred (related o t u v) w h =
        let a = term t _ h in let b = term u _ (rest a.1) in let c = term v w (rest b.1) in ((a.0, b.0, c.0), c.1)

  type : (t : TypeForm) (w : List Symbol) → AllFit P (plain_type t w) → TypeIn P t × AllFit P w
  type (given_type g) w h = (first h, rest h)
  type (power_type g) w h = (first (rest h), rest (rest h))
  type (range_type r) w h = ranged r w h
  type (arrow_type a g f) w h = ((first h, first (rest (rest h))), rest (rest (rest h)))

  entries : (k : Kind) (xs : List Letters) (w : List Symbol) → AllFit P (plain_entries k xs w) → AllFit P w
  entries k [] w h = h
  entries k (x ∷ xs) w h = entries k xs w (rest (rest h))

  elements : (xs : List Letters) (w : List Symbol) → AllFit P (plain_elements xs w) → AllIn P xs × AllFit P w
  elements [] w h = (none_in, h)
  elements (x ∷ xs) w h = let a = elements xs w (rest h) in (one_in (first h) a.0, a.1)

  givens : (gs : List Given) (w : List Symbol) → AllFit P (plain_givens gs w) → GivensIn P gs × AllFit P w
  givens [] w h = (no_givens, h)
  givens (g ∷ gs) w h =
      let a = elements g.other_elements _ (rest (rest (rest h))) in
      let b = givens gs w (rest a.1) in
      (one_given (first (rest h)) (one_in (first (rest (rest h))) a.0) b.0, b.1)

  declared : (ds : List Declaration) (w : List Symbol) → AllFit P (plain_declarations ds w) → TypedIn P (variables_of no_ending ds) × AllFit P w
  unfolding variables_of
  declared [] w h = (no_typed, h)
  declared (d ∷ ds) w h =
      let a = type d.type _ (rest (rest h)) in let b = declared ds w (rest a.1) in (one_typed (first h) a.0 b.0, b.1)

  condition : (p : Pred) (w : List Symbol) → AllFit P (plain_where p w) → PredIn P p × AllFit P w
  condition p w h = let a = pred p _ (rest h) in (a.0, rest a.1)

  parameters : (xs : List Parameter) (w : List Symbol) → AllFit P (plain_parameters xs w) → TypedIn P (parameters_of xs) × AllFit P w
  unfolding parameters_of
  parameters [] w h = (no_typed, h)
  parameters (x ∷ xs) w h =
      let a = type x.declaration.type _ (rest (rest h)) in let b = parameters xs w (rest a.1) in (one_typed (first h) a.0 b.0, b.1)

  operations : (os : List Operation) (w : List Symbol) → AllFit P (plain_operations os w) → OperationsIn P os × AllFit P w
  operations [] w h = (no_operations, h)
  operations (o ∷ os) w h =
      let a = parameters o.parameters _ (rest (rest h)) in
      let b = pred o.abstractly _ (rest a.1) in
      let c = pred o.concretely _ (rest b.1) in
      let d = operations os w (rest c.1) in
      (one_operation (first (rest h)) a.0 b.0 c.0 d.0, d.1)

  plain_in : (d : Dossier) → AllFit P (plain_dossier d []) → DossierIn P d
  plain_in d h =
      let c = entries _ d.given_entries _ (rest h) in
      let e = entries _ d.operation_entries _ (rest (rest (rest (rest (rest c))))) in
      let g = givens d.givens _ (rest e) in
      let a = declared (declarations d.abstract) _ (rest g.1) in
      let b = condition d.abstract.predicate _ a.1 in
      let f = declared (declarations d.concrete) _ (rest b.1) in
      let k = condition d.concrete.predicate _ f.1 in
      let l = condition d.ainit _ (rest k.1) in
      let m = condition d.cinit _ (rest l.1) in
      let n = condition d.retrieve _ (rest m.1) in
      let o = operations d.operations [] n.1 in
      record {
        givens_in = g.0;
        abstract_in = a.0;
        concrete_in = f.0;
        abstract_holds_lem = b.0;
        concrete_holds_lem = k.0;
        ainit_in = l.0;
        cinit_in = m.0;
        retrieve_in = n.0;
        operations_in = o.0;
      }

  pub symbols-in : (d : Dossier) → AllFit P (symbols_of d) → DossierIn P d
  symbols-in d h = plain_in d (subst (AllFit P) (dossier-plain d) h)
