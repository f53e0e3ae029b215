-- Texts, by the symbol at fault and the number: 4 by viability, 5 by depth and bound names, 6 by counts, 7 by headings. Most are BASE with another predicate in
-- retrieve, which begins at symbol 50.
use mathlib.Core.Path.{◌≡◌, refl}
use mathlib.Core.Bool.{Bool, true, false, ◌&&◌}
use mathlib.Core.List.{List, [], ◌∷◌, ◌++◌}
use Prim.Native.Nat.{ℕ, ◌+◌}
use Prim.Native.String.{String}
use lib.Dec.{eqb}
use Rattle.lexical.specs.Lists.{all, bytes}
use Rattle.lexical.specs.Base.{Parts, dossier_of}
use Rattle.refusals.specs.Refusals.{Refusal, number_of, no_dossier, deep, many_declared, Fault}
use Rattle.form.specs.Tree.{Term, number, name, group, prefix, binary, divided, listed, pairs, such, empty_set, empty_pairs}
use Rattle.form.specs.Tree.{Pred, truth, falsity, negation, paren, quantified, connected, compared, member, within, related}
use Rattle.form.specs.Codes.{term_width, pred_width}
use Rattle.form.specs.Form.{Outcome, refused, formed}
use Rattle.form.specs.Headings.{heading_faults}
use Rattle.form.specs.Computed.{compute_form}

pub data Sample : Type 0 where
  -- the predicate is refused at its symbol i; it is read
  faulty : String → (i : ℕ) → Refusal → Sample
  fine : String → Sample
  -- the loosest connective, or operator of a comparison's left side, is the symbol i
  root : String → (i : ℕ) → Sample
  -- BASE with these contents entries and bodies of operations, or a dossier with these of given sets: refused at symbol i for its headings
  heading givens : (listed bodies : String) → (i : ℕ) → Sample
  -- BASE with this body of an operation, which begins at symbol 52, and a whole text: refused at symbol i
  operation text : String → (i : ℕ) → Refusal → Sample

abbrev base : (retrieve : String) → Parts
base p = record { listed = "op add "; cinit = "k = 0"; retrieve = p; operations = "op add abstract true concrete true end" }

-- a dossier behind its given sets
abbrev rest : String
rest = "abstract m : 0..1 ; where true end concrete k : 0..1 ; where true end ainit where true end cinit where true end retrieve where true end"

pub samples : List Sample
samples =
    fine "k = # m and not k = 0 => k in - 1 .. 2 <=> {x : SEG | x in m} = {s1, s2}"
    ∷ faulty "{x' : SEG | true} = m" 2 no_dossier
    ∷ faulty "s1 |-> s2 in 0 .. 2" 5 no_dossier
    ∷ faulty "k in - - 1 .. 2" 5 no_dossier
    ∷ faulty "a < b < c" 3 no_dossier
    ∷ faulty "{s1, s2 |-> s1} = m" 4 no_dossier
    ∷ faulty "k div [2] = 0" 2 no_dossier
    ∷ fine "((((((((((((((((((((((((true))))))))))))))))))))))))"
    ∷ faulty "(((((((((((((((((((((((((true)))))))))))))))))))))))))" 24 deep
    ∷ faulty "(((((((((((((((((((((((( - 1 = k ))))))))))))))))))))))))" 24 deep
    ∷ fine "(((((((((((((((((((((((( k in - 1 .. 2 ))))))))))))))))))))))))"
    ∷ faulty "(((((((((((((((((((((((( k in - 1 ))))))))))))))))))))))))" 26 deep
    ∷ faulty "(forall a : SEG @ (forall b : SEG @ (forall c : SEG @ {d : SEG | true} = m)))" 19 deep
    ∷ fine "(forall a : SEG @ (forall b : SEG @ (forall c : SEG @ {a} = m)))"
    ∷ root "k + k * k = 0" 1
    ∷ root "k * k + k = 0" 3
    ∷ root "k - k - k = 0" 3
    ∷ root "k - k div 2 mod 3 = 0" 1
    ∷ root "- k * k = 0" 2
    ∷ root "true => true => true" 1
    ∷ root "true <=> true <=> true" 3
    ∷ root "true or true and true" 1
    ∷ root "true and true => true or true" 3
    ∷ root "not true and true" 2
    ∷ heading "op add op sub " "op add abstract true concrete true end" 61
    ∷ heading "op sub " "op add abstract true concrete true end" 52
    ∷ heading "" "op add abstract true concrete true end" 50
    ∷ givens "given G given H " "given G a end given I b end " 15
    ∷ givens "given G " "given G a end given H b end " 13
    ∷ givens "given G given H " "given G a end " 15
    ∷ text "" 0 no_dossier
    ∷ text "contents given a given b given c given d given e given f given g given h" 17 no_dossier
    ∷ text "contents given a given b given c given d given e given f given g given h given i" 18 many_declared
    ∷ text "contents abstract concrete ainit cinit retrieve end given G a b c d e f g h" 17 no_dossier
    ∷ text "contents abstract concrete ainit cinit retrieve end given G a b c d e f g h i" 17 many_declared
    ∷ text "contents abstract concrete ainit cinit retrieve end abstract a : G ; b : G ; c : G ; d : G ; e : G ; f : G ; g : G ; h : G ;" 40 no_dossier
    ∷ text "contents abstract concrete ainit cinit retrieve end abstract a : G ; b : G ; c : G ; d : G ; e : G ; f : G ; g : G ; h : G ; i : G ;" 40 many_declared
    ∷ operation "op add a? : SEG ; b? : SEG ; c? : SEG ; a! : SEG ; b! : SEG ; c! : SEG ; " 78 no_dossier
    ∷ operation "op add a? : SEG ; b? : SEG ; c? : SEG ; d? : SEG ; abstract true concrete true end" 66 many_declared
    ∷ operation "op add a! : SEG ; b! : SEG ; c! : SEG ; d! : SEG ; abstract true concrete true end" 66 many_declared
    ∷ []

abbrev refused_at : ℕ → Refusal → Outcome → Bool
refused_at i r (refused j s) = eqb i j && eqb (number_of r) (number_of s)
refused_at i r (formed d) = false

abbrev is_formed : Outcome → Bool
is_formed (refused j s) = false
is_formed (formed d) = true

abbrev term_root : Term → ℕ
term_root (number n) = 0
term_root (name x) = 0
term_root (group t) = 0
term_root (prefix o t) = 0
term_root (binary o t u) = term_width t
term_root (divided o t e) = term_width t
term_root (listed ts) = 0
term_root (pairs ts) = 0
term_root (such x g p) = 0
term_root (empty_set g) = 0
term_root (empty_pairs g h) = 0

abbrev pred_root : Pred → ℕ
pred_root truth = 0
pred_root falsity = 0
pred_root (negation p) = 0
pred_root (paren p) = 0
pred_root (quantified q x t p) = 0
pred_root (connected o p q) = pred_width p
pred_root (compared o t u) = term_root t
pred_root (member o t u) = 0
pred_root (within o t r) = 0
pred_root (related o t u v) = 0

abbrev root_at : ℕ → Outcome → Bool
root_at i (refused j s) = false
root_at i (formed d) = eqb i (pred_root d.retrieve)

abbrev only : ℕ → List Fault → Bool
only i [] = false
only i (f ∷ []) = eqb i f.place
only i (f ∷ g ∷ fs) = false

abbrev heading_at : ℕ → Outcome → Bool
heading_at i (refused j s) = false
heading_at i (formed d) = only i (heading_faults d)

pub passes : Sample → Bool
passes (faulty p i r) = refused_at (50 + i) r (compute_form (dossier_of (base p)))
passes (fine p) = is_formed (compute_form (dossier_of (base p)))
passes (root p i) = root_at i (compute_form (dossier_of (base p)))
passes (heading l o i) = heading_at i (compute_form (dossier_of (record { listed = l; cinit = "k = 0"; retrieve = "true"; operations = o })))
passes (givens l b i) = heading_at i (compute_form (bytes "contents " ++ bytes l ++ bytes "abstract concrete ainit cinit retrieve end " ++ bytes b ++ bytes rest))
passes (operation o i r) = refused_at i r (compute_form (dossier_of (record { listed = "op add "; cinit = "k = 0"; retrieve = "true"; operations = o })))
passes (text w i r) = refused_at i r (compute_form (bytes w))

pub all_pass : all passes samples ≡ true
unfolding samples passes compute_form term_width pred_width
all_pass = refl
