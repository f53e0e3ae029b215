-- What the machine has taken begins a dossier; where it may stop, it is one.
use mathlib.Core.Path.{◌≡◌, refl, ap, ◌∙◌, sym, subst}
use mathlib.Core.Bool.{true, false}
use mathlib.Core.List.{List, [], ◌∷◌, ◌++◌, append-nil}
use mathlib.Core.Option.{Option, none, some}
use borrow.Author.Tests.{not-true}
use Rattle.lexical.specs.Kinds as kind
use Rattle.lexical.specs.Kinds.{is}
use Rattle.lexical.specs.Symbols.{Symbol, kind_of}
use Rattle.form.specs.Tree.{Dossier}
use Rattle.form.specs.Written.{Mark, unmarked, opens, binds, a_given, an_element, a_variable, an_input, an_output, an_operation, symbols_of}
use Rattle.form.specs.Form.{Whole, Begins}
use Rattle.form.specs.Machine.{Item, Next, go, halt, step, ends}
use Rattle.form.proofs.Takes.{initial, feed_on, feed, IsOpens, IsBinds, Continues}
use Rattle.form.proofs.Table.{Spelled, AllSpelled, spelled-append}
use Rattle.form.proofs.SteadyMarks.{first_kind, follows, steady, both, Onward, step-steady, SteadyAfter, feed-steady}
use Rattle.form.proofs.Fill.{print}
use Rattle.form.proofs.Complete.{finished, nothing_left, defaults}
use Rattle.form.proofs.Regroup.{regroup}

-- the symbols of any dossier are a dossier's, by form alone
by_form : (d : Dossier) (w : List Symbol) → symbols_of d ≡ w → (e : Dossier) × Whole w e
by_form d w e = let g = regroup d in (g.0, record { grouped = g.1; symbols = g.2 ∙ e })

-- a dossier begins with what the machine has taken, and goes on with a completion of each item expected
pub viable : (u : List Symbol) (γ : List Item) → AllSpelled u → feed u initial ≡ some γ → Begins u
viable u γ q e =
    let f = finished u γ q e (defaults γ) in
    let g = by_form f.0 (u ++ print γ (defaults γ)) f.1 in
    record { dossier = g.0; rest = print γ (defaults γ); whole = g.1 }

-- where the text may end it is a dossier's
pub wholly : (u : List Symbol) (γ : List Item) → AllSpelled u → feed u initial ≡ some γ → ends γ ≡ true → (d : Dossier) × Whole u d
wholly u γ q e t =
    let n = nothing_left γ t in
    let f = finished u γ q e n.0 in
    by_form f.0 u (f.1 ∙ ap (λ (l : List Symbol). u ++ l) n.1 ∙ append-nil u)

abbrev IsSome : Option (List Item) → Type 0
IsSome (some γ) = Unit {0}
IsSome none = ⊥

-- what is expected after two runs of symbols
pub feed-append : (u w : List Symbol) (γ δ : List Item) → feed u γ ≡ some δ → feed (u ++ w) γ ≡ feed w δ
feed-append [] w γ δ e = let q : γ ≡ δ = cc in ap (feed w) q
feed-append (s ∷ u) w γ δ e = on (step γ (kind_of s)) e (λ ρ. feed-append u w ρ δ)
  where
    on : (n : Next) → feed_on n (feed u) ≡ some δ → ((ρ : List Item) → feed u ρ ≡ some δ → feed (u ++ w) ρ ≡ feed w δ) → feed_on n (feed (u ++ w)) ≡ feed w δ
    on (go m ρ) q r = r ρ q
    on halt q r = absurd (subst IsSome (sym q) tt)

-- after a mark that opens, and one that binds
after-opens : (m : Mark) (γ : List Item) → follows m γ ≡ true → IsOpens m → is (first_kind γ) kind.number ≡ false
after-opens unmarked γ e h = absurd h
after-opens (opens n) γ e h = not-true _ e
after-opens (binds n) γ e h = absurd h
after-opens (a_given n) γ e h = absurd h
after-opens (an_element n) γ e h = absurd h
after-opens (a_variable n) γ e h = absurd h
after-opens (an_input n) γ e h = absurd h
after-opens (an_output n) γ e h = absurd h
after-opens (an_operation n) γ e h = absurd h

after-binds : (m : Mark) (γ : List Item) → follows m γ ≡ true → IsBinds m → is (first_kind γ) kind.colon ≡ true
after-binds unmarked γ e h = absurd h
after-binds (opens n) γ e h = absurd h
after-binds (binds n) γ e h = e
after-binds (a_given n) γ e h = absurd h
after-binds (an_element n) γ e h = absurd h
after-binds (a_variable n) γ e h = absurd h
after-binds (an_input n) γ e h = absurd h
after-binds (an_output n) γ e h = absurd h
after-binds (an_operation n) γ e h = absurd h

-- a dossier goes on from a symbol that the machine takes so that the mark is the tree's
pub continues : (u : List Symbol) (s : Symbol) (m : Mark) (γ ρ : List Item) → AllSpelled u → Spelled s → feed u initial ≡ some γ → step γ (kind_of s) ≡ go m ρ
    → Continues u s m
unfolding viable
continues u s m γ ρ q r e f =
    let g : feed (u ++ (s ∷ [])) initial ≡ some ρ = feed-append u (s ∷ []) initial γ e ∙ ap (λ (n : Next). feed_on n (feed [])) f in
    let h : steady γ ≡ true = subst SteadyAfter e (feed-steady u initial refl) in
    let o : Onward (go m ρ) = subst Onward f (step-steady γ (kind_of s) h) in
    let b = both (follows m ρ) (steady ρ) o in
    record {
      begins = viable (u ++ (s ∷ [])) ρ (spelled-append u (s ∷ []) q (r, tt)) g;
      opened = after-opens m ρ b.0;
      bound = after-binds m ρ b.0;
    }
