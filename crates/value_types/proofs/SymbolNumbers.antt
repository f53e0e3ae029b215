-- Where all numbers among a dossier's symbols are at most 1,000, so are those of the dossier's trees.
use mathlib.Core.Path.{sym, subst}
use mathlib.Core.Bool.{Bool, true, false}
use mathlib.Core.List.{List, [], ◌∷◌, map}
use Prim.Native.Nat.{ℕ, ◌≤◌}
use Rattle.lexical.specs.Kinds.{Kind}
use Rattle.lexical.specs.Symbols.{Symbol, numeral, Placed, scan, symbols}
use Rattle.meaning.specs.FormTree.{Letters, End, Range, Domain, given_set, range}
use Rattle.meaning.specs.FormTree.{Term, number, name, group, prefix, binary, divided, listed, pairs, such, empty_set, empty_pairs, Items, only, also, Pairs, only_pair, also_pair}
use Rattle.meaning.specs.FormTree.{Pred, truth, falsity, negation, paren, quantified, connected, compared, member, within, related}
use Rattle.meaning.specs.FormTree.{TypeForm, given_type, power_type, range_type, arrow_type, Declaration, declarations, Parameter, Given, Operation, Dossier}
use Rattle.meaning.specs.FormWritten.{symbols_of}
use Rattle.meaning.specs.FormForm.{Whole}
use Rattle.meaning.proofs.FormPlainSymbols.{plain_minus, plain_end, plain_range, plain_domain, plain_term, plain_items, plain_pairs, plain_pred, plain_type, plain_entries, plain_elements, plain_givens}
use Rattle.meaning.proofs.FormPlainSymbols.{plain_declarations, plain_where, plain_parameters, plain_operations, plain_dossier, dossier-plain}
use Rattle.value_types.specs.TypedValues.{RangeWithin, DomainWithin, TermWithin, ItemsWithin, PairsWithin, PredWithin}
use Rattle.value_types.specs.FaultlessContexts.{TypeWithin, DeclarationsWithin, ParametersWithin, OperationsWithin, NumbersWithin, NumberWithin, AllNumbers, one_symbol}
use Rattle.value_types.proofs.ScannedNumbers.{scanned-numbers}

first : {s : Symbol} {w : List Symbol} → AllNumbers (s ∷ w) → NumberWithin s
first (one_symbol h r) = h

rest : {s : Symbol} {w : List Symbol} → AllNumbers (s ∷ w) → AllNumbers w
rest (one_symbol h r) = r

-- each law gives what is claimed of a tree, and the same of the symbols behind it

minus : (b : Bool) (w : List Symbol) → AllNumbers (plain_minus b w) → AllNumbers w
minus true w h = rest h
minus false w h = h

end : (e : End) (w : List Symbol) → AllNumbers (plain_end e w) → (e.magnitude ≤ 1000) × AllNumbers w
end e w h = let a = minus e.negative (numeral e.magnitude ∷ w) h in (first a, rest a)

ranged : (r : Range) (w : List Symbol) → AllNumbers (plain_range r w) → RangeWithin r × AllNumbers w
ranged r w h = let a = end r.lower _ h in let b = end r.upper w (rest a.1) in ((a.0, b.0), b.1)

domain : (t : Domain) (w : List Symbol) → AllNumbers (plain_domain t w) → DomainWithin t × AllNumbers w
domain (given_set g) w h = (tt, rest h)
domain (range r) w h = ranged r w h

mutual
  unfolding plain_term TermWithin

  term : (t : Term) (w : List Symbol) → AllNumbers (plain_term t w) → TermWithin t × AllNumbers w
  term (number n) w h = (first h, rest h)
  term (name x) w h = (tt, rest h)
  term (group t) w h = let a = term t _ (rest h) in (a.0, rest a.1)
  term (prefix o t) w h = term t w (rest h)
  term (binary o t u) w h = let a = term t _ h in let b = term u w (rest a.1) in ((a.0, b.0), b.1)
  term (divided o t e) w h = let a = term t _ h in let b = end e w (rest a.1) in ((a.0, b.0), b.1)
  term (listed ts) w h = let a = items ts _ (rest h) in (a.0, rest a.1)
  term (pairs ts) w h = let a = pairing ts _ (rest h) in (a.0, rest a.1)
  term (such x g p) w h = let a = pred p _ (rest (rest (rest (rest (rest h))))) in (a.0, rest a.1)
  term (empty_set g) w h = (tt, rest (rest h))
  term (empty_pairs g f) w h = (tt, rest (rest (rest h)))

  items : (t : Items) (w : List Symbol) → AllNumbers (plain_items t w) → ItemsWithin t × AllNumbers w
  items (only t) w h = term t w h
  items (also t ts) w h = let a = term t _ h in let b = items ts w (rest a.1) in ((a.0, b.0), b.1)

  pairing : (t : Pairs) (w : List Symbol) → AllNumbers (plain_pairs t w) → PairsWithin t × AllNumbers w
  pairing (only_pair t u) w h = let a = term t _ h in let b = term u w (rest a.1) in ((a.0, b.0), b.1)
  pairing (also_pair t u ts) w h =
      let a = term t _ h in let b = term u _ (rest a.1) in let c = pairing ts w (rest b.1) in ((a.0, b.0, c.0), c.1)

  pred : (p : Pred) (w : List Symbol) → AllNumbers (plain_pred p w) → PredWithin p × AllNumbers w
  pred truth w h = (tt, rest h)
  pred falsity w h = (tt, rest h)
  pred (negation p) w h = pred p w (rest h)
  pred (paren p) w h = let a = pred p _ (rest h) in (a.0, rest a.1)
  pred (quantified q x t p) w h = let a = domain t _ (rest (rest (rest (rest h)))) in let b = pred p _ (rest a.1) in ((a.0, b.0), rest b.1)
  pred (connected o p q) w h = let a = pred p _ h in let b = pred q w (rest a.1) in ((a.0, b.0), b.1)
  pred (compared o t u) w h = let a = term t _ h in let b = term u w (rest a.1) in ((a.0, b.0), b.1)
  pred (member o t u) w h = let a = term t _ h in let b = term u w (rest a.1) in ((a.0, b.0), b.1)
  pred (within o t r) w h = let a = term t _ h in let b = ranged r w (rest a.1) in ((a.0, b.0), b.1)
  pred (related o t u v) w h =
      let a = term t _ h in let b = term u _ (rest a.1) in let c = term v w (rest b.1) in ((a.0, b.0, c.0), c.1)

type : (t : TypeForm) (w : List Symbol) → AllNumbers (plain_type t w) → TypeWithin t × AllNumbers w
type (given_type g) w h = (tt, rest h)
type (power_type g) w h = (tt, rest (rest h))
type (range_type r) w h = ranged r w h
type (arrow_type a g f) w h = (tt, rest (rest (rest h)))

entries : (k : Kind) (xs : List Letters) (w : List Symbol) → AllNumbers (plain_entries k xs w) → AllNumbers w
entries k [] w h = h
entries k (x ∷ xs) w h = entries k xs w (rest (rest h))

elements : (xs : List Letters) (w : List Symbol) → AllNumbers (plain_elements xs w) → AllNumbers w
elements [] w h = h
elements (x ∷ xs) w h = elements xs w (rest h)

givens : (gs : List Given) (w : List Symbol) → AllNumbers (plain_givens gs w) → AllNumbers w
givens [] w h = h
givens (g ∷ gs) w h = givens gs w (rest (elements g.other_elements _ (rest (rest (rest h)))))

declared : (ds : List Declaration) (w : List Symbol) → AllNumbers (plain_declarations ds w) → DeclarationsWithin ds × AllNumbers w
unfolding DeclarationsWithin
declared [] w h = (tt, h)
declared (d ∷ ds) w h = let a = type d.type _ (rest (rest h)) in let b = declared ds w (rest a.1) in ((a.0, b.0), b.1)

condition : (p : Pred) (w : List Symbol) → AllNumbers (plain_where p w) → PredWithin p × AllNumbers w
condition p w h = let a = pred p _ (rest h) in (a.0, rest a.1)

parameters : (xs : List Parameter) (w : List Symbol) → AllNumbers (plain_parameters xs w) → ParametersWithin xs × AllNumbers w
unfolding DeclarationsWithin
parameters [] w h = (tt, h)
parameters (x ∷ xs) w h =
    let a = type x.declaration.type _ (rest (rest h)) in let b = parameters xs w (rest a.1) in ((a.0, b.0), b.1)

operations : (os : List Operation) (w : List Symbol) → AllNumbers (plain_operations os w) → OperationsWithin os × AllNumbers w
unfolding OperationsWithin
operations [] w h = (tt, h)
operations (o ∷ os) w h =
    let a = parameters o.parameters _ (rest (rest h)) in
    let b = pred o.abstractly _ (rest a.1) in
    let c = pred o.concretely _ (rest b.1) in
    let d = operations os w (rest c.1) in
    ((a.0, b.0, c.0, d.0), d.1)

plain-within : (d : Dossier) → AllNumbers (plain_dossier d []) → NumbersWithin d
plain-within d h =
    let c = entries _ d.given_entries _ (rest h) in
    let e = entries _ d.operation_entries _ (rest (rest (rest (rest (rest c))))) in
    let g = givens d.givens _ (rest e) in
    let a = declared (declarations d.abstract) _ (rest g) in
    let b = condition d.abstract.predicate _ a.1 in
    let f = declared (declarations d.concrete) _ (rest b.1) in
    let k = condition d.concrete.predicate _ f.1 in
    let l = condition d.ainit _ (rest k.1) in
    let m = condition d.cinit _ (rest l.1) in
    let n = condition d.retrieve _ (rest m.1) in
    let o = operations d.operations [] n.1 in
    record {
      abstract_types = a.0;
      abstract = b.0;
      concrete_types = f.0;
      concrete = k.0;
      ainit = l.0;
      cinit = m.0;
      retrieve = n.0;
      operations = o.0;
    }

pub numbers-within : (d : Dossier) → AllNumbers (symbols_of d) → NumbersWithin d
numbers-within d h = plain-within d (subst AllNumbers (dossier-plain d) h)

-- the dossier of a text
pub text-numbers : (text : List ℕ) (d : Dossier) → Whole (map (λ (x : Placed). x.symbol) (symbols (scan text))) d → NumbersWithin d
text-numbers text d h = numbers-within d (subst AllNumbers (sym h.symbols) (scanned-numbers text))
