-- The machine without the limits, and what the theorem on form is put together from.
use mathlib.Core.Path.{◌≡◌}
use mathlib.Core.Bool.{true, false}
use mathlib.Core.List.{List, [], ◌∷◌, ◌++◌, map}
use mathlib.Core.Option.{Option, none, some}
use Prim.Native.Nat.{ℕ}
use Rattle.lexical.specs.Kinds as kind
use Rattle.lexical.specs.Kinds.{Kind, is}
use Rattle.lexical.specs.Symbols.{Symbol, kind_of}
use Rattle.form.specs.Written.{Mark, unmarked, opens, binds, a_given, an_element, a_variable, an_input, an_output, an_operation, Written}
use Rattle.form.specs.Form.{Begins, kind_at, is_range_end, is_used}
use Rattle.form.specs.Machine.{Item, a_dossier, Next, go, halt, step, ends}

abbrev pub initial : List Item
initial = a_dossier ∷ []

-- what is expected after the symbols u, where the machine takes them all
abbrev pub feed_on : Next → (List Item → Option (List Item)) → Option (List Item)
feed_on (go m ρ) f = f ρ
feed_on halt f = none

abbrev pub feed : List Symbol → List Item → Option (List Item)
feed [] γ = some γ
feed (s ∷ u) γ = feed_on (step γ (kind_of s)) (feed u)

-- A mark of the machine against that of the tree, at a symbol of the kind s behind one of the kind k and before the symbols w. They differ where only
-- what follows tells what a symbol is: a - after in or notin, and a name after {.
pub data Fits : Mark → Mark → Kind → Kind → List Symbol → Type 0 where
  equal : {m : Mark} {k s : Kind} {w : List Symbol} → Fits m m k s w
  range_end : {n : ℕ} {k s : Kind} {w : List Symbol} → is_range_end k s w ≡ true → Fits (opens n) unmarked k s w
  used_name : {n : ℕ} {k s : Kind} {w : List Symbol} → is_used k w ≡ true → Fits (binds n) unmarked k s w

abbrev pub symbols_in : List Written → List Symbol
symbols_in w = map (λ (x : Written). x.symbol) w

-- the machine takes these symbols behind one of the kind k, its marks fit theirs, and the text may end then
abbrev pub AgreesOn : Written → Kind → List Symbol → Next → (Kind → List Item → Type 0) → Type 0
AgreesOn x k w (go m ρ) f = Fits m x.mark k (kind_of x.symbol) w × f (kind_of x.symbol) ρ
AgreesOn x k w halt f = ⊥

abbrev pub Agrees : Kind → List Written → List Item → Type 0
Agrees k [] γ = ends γ ≡ true
Agrees k (x ∷ w) γ = AgreesOn x k (symbols_in w) (step γ (kind_of x.symbol)) (λ j ρ. Agrees j w ρ)

abbrev pub IsOpens : Mark → Type 0
IsOpens unmarked = ⊥
IsOpens (opens n) = Unit {0}
IsOpens (binds n) = ⊥
IsOpens (a_given n) = ⊥
IsOpens (an_element n) = ⊥
IsOpens (a_variable n) = ⊥
IsOpens (an_input n) = ⊥
IsOpens (an_output n) = ⊥
IsOpens (an_operation n) = ⊥

abbrev pub IsBinds : Mark → Type 0
IsBinds unmarked = ⊥
IsBinds (opens n) = ⊥
IsBinds (binds n) = Unit {0}
IsBinds (a_given n) = ⊥
IsBinds (an_element n) = ⊥
IsBinds (a_variable n) = ⊥
IsBinds (an_input n) = ⊥
IsBinds (an_output n) = ⊥
IsBinds (an_operation n) = ⊥

-- a dossier that begins with u and s, where the machine marks s by m, and goes on so that the mark is the tree's
pub record Continues (u : List Symbol) (s : Symbol) (m : Mark) : Type 0 where
  pub begins : Begins (u ++ (s ∷ []))
  pub opened : IsOpens m → is (kind_at begins.rest 0) kind.number ≡ false
  pub bound : IsBinds m → is (kind_at begins.rest 0) kind.colon ≡ true
