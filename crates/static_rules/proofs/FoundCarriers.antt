-- The carrier of each type whose given sets are found; the variables of declarations one by one; the declarations of parameters.
use mathlib.Core.Path.{◌≡◌}
use mathlib.Core.List.{List, ◌∷◌, map}
use mathlib.Core.Option.{none, some}
use Rattle.form.specs.LexicalSymbols.{Ending, Name}
use Rattle.form.specs.Tree.{Given, Arrow, given_type, power_type, arrow_type, Declaration, Parameter}
use Rattle.static_rules.specs.Carriers.{Carrier, elements_of, subsets_of, pairs_in, given_of, carrier_of}
use Rattle.static_rules.specs.Scope.{variables}

pub given-carrier : (gs : List Given) (x : Name) (g : Given) → given_of gs x ≡ some g → carrier_of gs (given_type x) ≡ some (elements_of g)
unfolding carrier_of
given-carrier gs x g e = rw (carrier_of, e)

pub power-carrier : (gs : List Given) (x : Name) (g : Given) → given_of gs x ≡ some g → carrier_of gs (power_type x) ≡ some (subsets_of g)
unfolding carrier_of
power-carrier gs x g e = rw (carrier_of, e)

pub arrow-carrier : (gs : List Given) (a : Arrow) (x y : Name) (g h : Given) → given_of gs x ≡ some g → given_of gs y ≡ some h
    → carrier_of gs (arrow_type a x y) ≡ some (pairs_in a g h)
unfolding carrier_of
arrow-carrier gs a x y g h e f = rw (carrier_of, e, f)

pub variables-one : (gs : List Given) (e : Ending) (d : Declaration) (ds : List Declaration) (c : Carrier) → carrier_of gs d.type ≡ some c
    → variables gs e (d ∷ ds) ≡ record { called = record { letters = d.declared; ending = e }; carrier = c } ∷ variables gs e ds
unfolding variables
variables-one gs e d ds c h = rw (variables, h)

pub variables-skip : (gs : List Given) (e : Ending) (d : Declaration) (ds : List Declaration) → carrier_of gs d.type ≡ none → variables gs e (d ∷ ds) ≡ variables gs e ds
unfolding variables
variables-skip gs e d ds h = rw (variables, h)

abbrev pub declarations_of : List Parameter → List Declaration
declarations_of xs = map (λ (x : Parameter). x.declaration) xs
