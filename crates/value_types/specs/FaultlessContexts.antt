-- What the theorem on evaluation asks of every predicate of a dossier, and what a dossier must have besides having no faults. Nothing here need be believed:
-- the theorems of proofs/ prove the one of every dossier without faults that has the other, which is what the passes for symbols and form leave.
use Rattle.std.specs.Prelude.{◌≡◌, List, [], ◌∷◌, map, ◌≤◌}
use Rattle.lexical.specs.Symbols.{Symbol, fixed, numeral, name}
use Rattle.meaning.specs.FormTree.{Given, TypeForm, given_type, power_type, range_type, arrow_type, Declaration, declarations, Parameter, Operation, Dossier}
use Rattle.meaning.specs.StaticRulesCarriers.{size_of}
use Rattle.meaning.specs.StaticRulesScope.{Context}
use Rattle.meaning.specs.StaticRulesNames.{judge_pred}
use Rattle.meaning.specs.StaticRulesLimits.{size_pred}
use Rattle.value_types.specs.TypedValues.{InReach, RangeWithin, PredWithin, sizes_in}
use Rattle.meaning.specs.FormBoundNames.{PredBindsFew}

-- a predicate with the names in its reach: no fault of names and types, no size over 2,147,483,647, numbers of at most 1,000, at most three bound names
pub record ContextFine (c : Context) : Type 0 where
  pub reach : InReach c.scope
  pub names : (judge_pred c.predicate c.scope c.at).faults ≡ []
  pub sizes : (size_pred c.predicate (sizes_in c.scope) c.at).faults ≡ []
  pub within : PredWithin c.predicate
  pub few : PredBindsFew c.predicate 0

-- Document 01, number 6, "Over 8 given sets, 8 elements in one": given sets that the pass for form does not refuse
unfoldable pub FewElements : List Given → Type 0
FewElements [] = Unit {0}
FewElements (g ∷ gs) = (size_of g ≤ 8) × FewElements gs

-- "a number's is 0 to 1,000": all numbers of a dossier
abbrev pub TypeWithin : TypeForm → Type 0
TypeWithin (given_type g) = Unit {0}
TypeWithin (power_type g) = Unit {0}
TypeWithin (range_type r) = RangeWithin r
TypeWithin (arrow_type a g h) = Unit {0}

unfoldable pub DeclarationsWithin : List Declaration → Type 0
DeclarationsWithin [] = Unit {0}
DeclarationsWithin (d ∷ ds) = TypeWithin d.type × DeclarationsWithin ds

abbrev pub ParametersWithin : List Parameter → Type 0
ParametersWithin xs = DeclarationsWithin (map (λ (x : Parameter). x.declaration) xs)

unfoldable pub OperationsWithin : List Operation → Type 0
OperationsWithin [] = Unit {0}
OperationsWithin (o ∷ os) = ParametersWithin o.parameters × PredWithin o.abstractly × PredWithin o.concretely × OperationsWithin os

pub record NumbersWithin (d : Dossier) : Type 0 where
  pub abstract_types : DeclarationsWithin (declarations d.abstract)
  pub abstract : PredWithin d.abstract.predicate
  pub concrete_types : DeclarationsWithin (declarations d.concrete)
  pub concrete : PredWithin d.concrete.predicate
  pub ainit : PredWithin d.ainit
  pub cinit : PredWithin d.cinit
  pub retrieve : PredWithin d.retrieve
  pub operations : OperationsWithin d.operations

-- "a number's is 0 to 1,000": all numbers among symbols
abbrev pub NumberWithin : Symbol → Type 0
NumberWithin (fixed k) = Unit {0}
NumberWithin (numeral n) = n ≤ 1000
NumberWithin (name x) = Unit {0}

pub data AllNumbers : List Symbol → Type 0 where
  no_symbols : AllNumbers []
  one_symbol : {s : Symbol} {w : List Symbol} → NumberWithin s → AllNumbers w → AllNumbers (s ∷ w)
