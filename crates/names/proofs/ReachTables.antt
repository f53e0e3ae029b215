-- What the numbers of the pass stand for: the scope that a table of names shows, and the type that a number is.
use mathlib.Core.Path.{◌≡◌}
use mathlib.Core.Bool.{Bool, true, false, not}
use mathlib.Core.List.{List, [], ◌∷◌, map}
use mathlib.Core.Option.{Option, none, some}
use Prim.Native.Nat.{ℕ, suc, ◌+◌, ◌*◌, ◌≤◌, ◌<◌}
use lib.ListN.{length, get_or}
use Rattle.lexical.specs.Lists.{same, any}
use Rattle.lexical.specs.Symbols.{Name, no_ending}
use Rattle.form.specs.Tree.{Letters, Given, Range, Domain, given_set, range}
use Rattle.form.specs.Tree.{Term, number, name, group, prefix, binary, divided, listed, pairs, such, empty_set, empty_pairs, Items, only, also, Pairs, only_pair, also_pair}
use Rattle.form.specs.Tree.{Pred, truth, falsity, negation, paren, quantified, connected, compared, member, within, related}
use Rattle.form.specs.Codes.{Numbering, number_of_name, name_number}
use Rattle.declared_names.specs.StaticRulesCarriers.{size_of, given_of}
use Rattle.declared_names.specs.StaticRulesTypes as ty
use Rattle.declared_names.specs.StaticRulesTypes.{Ty, Sort}
use Rattle.declared_names.specs.StaticRulesScope.{Scope, is_taken, type_of_name}
use Rattle.type_rules.specs.TypesByNumber.{Names, Sizes, entry, is_free, is_given, in_reach}

-- the number of the given set with this title
unfoldable pub index_of : List Given → Letters → ℕ
index_of [] x = 0
index_of (g ∷ gs) x = elim (same g.title x) [ true ↦ 0 | false ↦ suc (index_of gs x) ]

-- some given set has this title
abbrev pub titled : List Given → Letters → Bool
titled gs x = any (λ (g : Given). same g.title x) gs

-- the number of a type over given sets
abbrev code_over : List Given → Sort → List Letters → ℕ
code_over gs ty.is_number xs = 1
code_over gs ty.is_element [] = 0
code_over gs ty.is_element (g ∷ xs) = 16 + index_of gs g
code_over gs ty.is_set [] = 0
code_over gs ty.is_set (g ∷ xs) = 32 + index_of gs g
code_over gs ty.is_pairs [] = 0
code_over gs ty.is_pairs (g ∷ []) = 0
code_over gs ty.is_pairs (g ∷ h ∷ xs) = 64 + 8 * index_of gs g + index_of gs h

abbrev pub type_code : List Given → Ty → ℕ
type_code gs t = code_over gs t.sort t.over

-- a type over given sets that there are
pub data Known (gs : List Given) : Ty → Type 0 where
  known_number : Known gs ty.number
  known_element : {g : Letters} → titled gs g ≡ true → Known gs (record { sort = ty.is_element; over = g ∷ [] })
  known_set : {g : Letters} → titled gs g ≡ true → Known gs (record { sort = ty.is_set; over = g ∷ [] })
  known_pairs : {g h : Letters} → titled gs g ≡ true → titled gs h ≡ true → Known gs (record { sort = ty.is_pairs; over = g ∷ h ∷ [] })

abbrev pub GivenIs : List Given → Option Given → ℕ → Type 0
GivenIs gs none k = is_given k ≡ false
GivenIs gs (some g) k = k ≡ 8 + index_of gs g.title

abbrev pub TypeIs : List Given → Option Ty → ℕ → Type 0
TypeIs gs none k = in_reach k ≡ false
TypeIs gs (some t) k = (k ≡ type_code gs t) × Known gs t

-- P holds of the letters that the text has: ρ numbers them, each by a number of its own
pub record Numbered (ρ : Numbering) (P : Letters → Type 0) : Type 0 where
  pub small : (x : Letters) → P x → ρ x ≤ 4095
  pub own : (x y : Letters) → P x → P y → ρ x ≡ ρ y → x ≡ y

-- the table of names shows the scope
pub record Shows (ρ : Numbering) (P : Letters → Type 0) (Γ : Scope) (T : Names) (z : Sizes) : Type 0 where
  pub long : 16384 ≤ length T
  pub few : length Γ.givens ≤ 8
  pub sizes : (k : ℕ) → k < length Γ.givens → get_or z k 0 ≡ get_or (map size_of Γ.givens) k 0
  pub spelt : (k : ℕ) → k < length Γ.givens → P (get_or (map (λ (g : Given). g.title) Γ.givens) k [])
  pub titles : (x : Letters) → is_taken Γ.taken x ≡ false → titled Γ.givens x ≡ false
  pub uses : (x : Letters) → P x → is_free (entry T (number_of_name ρ x no_ending)) ≡ not (is_taken Γ.taken x)
  pub givens : (x : Name) → P x.letters → GivenIs Γ.givens (given_of Γ.givens x) (entry T (name_number ρ x))
  pub typed : (x : Name) → P x.letters → TypeIs Γ.givens (type_of_name Γ x) (entry T (name_number ρ x))

-- the ends of a range in a text are numbers to 1,000
abbrev pub RangeIn : Range → Type 0
RangeIn r = (r.lower.magnitude ≤ 1000) × (r.upper.magnitude ≤ 1000)

-- all letters of a tree are the text's
abbrev pub DomainIn : (Letters → Type 0) → Domain → Type 0
DomainIn P (given_set g) = P g.letters
DomainIn P (range r) = RangeIn r

unfoldable mutual
  pub TermIn : (Letters → Type 0) → Term → Type 0
  TermIn P (number n) = Unit {0}
  TermIn P (name x) = P x.letters
  TermIn P (group t) = TermIn P t
  TermIn P (prefix o t) = TermIn P t
  TermIn P (binary o t u) = TermIn P t × TermIn P u
  TermIn P (divided o t e) = TermIn P t
  TermIn P (listed ts) = ItemsIn P ts
  TermIn P (pairs ts) = PairsIn P ts
  TermIn P (such x g p) = P x × P g.letters × PredIn P p
  TermIn P (empty_set g) = P g.letters
  TermIn P (empty_pairs g h) = P g.letters × P h.letters

  pub ItemsIn : (Letters → Type 0) → Items → Type 0
  ItemsIn P (only t) = TermIn P t
  ItemsIn P (also t ts) = TermIn P t × ItemsIn P ts

  pub PairsIn : (Letters → Type 0) → Pairs → Type 0
  PairsIn P (only_pair t u) = TermIn P t × TermIn P u
  PairsIn P (also_pair t u ts) = TermIn P t × TermIn P u × PairsIn P ts

  pub PredIn : (Letters → Type 0) → Pred → Type 0
  PredIn P truth = Unit {0}
  PredIn P falsity = Unit {0}
  PredIn P (negation p) = PredIn P p
  PredIn P (paren p) = PredIn P p
  PredIn P (quantified q x t p) = P x × DomainIn P t × PredIn P p
  PredIn P (connected o p q) = PredIn P p × PredIn P q
  PredIn P (compared o t u) = TermIn P t × TermIn P u
  PredIn P (member o t u) = TermIn P t × TermIn P u
  PredIn P (within o t r) = TermIn P t × RangeIn r
  PredIn P (related o t u v) = TermIn P t × TermIn P u × TermIn P v
