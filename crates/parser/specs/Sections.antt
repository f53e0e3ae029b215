-- Where the parts of a dossier begin among its nodes, and number 7 over them: what the pass over the headings promises.
use Rattle.std.specs.Prelude.{Some, None, Ok, Err}
use Rattle.refusals.specs.declared.Fault as refusals
use Rattle.refusals.specs.declared.Refusal.TheVariants.{HeadingDiffers}
use Rattle.std.specs.Prelude as prelude
use Rattle.std.specs.Prelude.{◌≡◌, Bool, true, false, cond, List, [], ℕ, ◌+◌, ◌-◌, ◌≤◌, ◌<◌, eqb, length, take, drop, get_or}
use Rattle.std.proofs.Math.Option.{none, some}
use Rattle.lexical.specs.Kinds as kind
use Rattle.lexical.specs.Symbols.{Name, Symbol, fixed, name}
use Rattle.refusals.specs.Refusals.{Fault, fault, heading_differs, least}
use Rattle.form.specs.Tree.{Dossier}
use Rattle.form.specs.Written.{symbols_of}
use Rattle.form.specs.Headings.{heading_faults, givens_at, abstract_at, concrete_at, ainit_at, cinit_at, retrieve_at}
use Rattle.form.specs.Codes.{Numbering, entry_codes, contents_codes, given_codes, state_codes, condition_codes, dossier_codes}
use Rattle.parser.specs.declared.sections.Bounds.{Bounds}

-- The numbers in front of each part: the entries of operations, given sets, states, conditions, operations
unfoldable pub entries_from : Dossier → Numbering → ℕ
entries_from d ρ = length (entry_codes 1 1 d.given_entries ρ)

unfoldable pub givens_from : Dossier → Numbering → ℕ
givens_from d ρ = length (contents_codes d ρ)

unfoldable pub abstract_from : Dossier → Numbering → ℕ
abstract_from d ρ = givens_from d ρ + length (given_codes (givens_at d) d.givens ρ)

unfoldable pub concrete_from : Dossier → Numbering → ℕ
concrete_from d ρ = abstract_from d ρ + length (state_codes (abstract_at d) d.abstract ρ)

unfoldable pub ainit_from : Dossier → Numbering → ℕ
ainit_from d ρ = concrete_from d ρ + length (state_codes (concrete_at d) d.concrete ρ)

unfoldable pub cinit_from : Dossier → Numbering → ℕ
cinit_from d ρ = ainit_from d ρ + length (condition_codes (ainit_at d + 2) d.ainit ρ)

unfoldable pub retrieve_from : Dossier → Numbering → ℕ
retrieve_from d ρ = cinit_from d ρ + length (condition_codes (cinit_at d + 2) d.cinit ρ)

unfoldable pub operations_from : Dossier → Numbering → ℕ
operations_from d ρ = retrieve_from d ρ + length (condition_codes (retrieve_at d + 2) d.retrieve ρ)

pub record SectionsOf (d : Dossier) (ρ : Numbering) (r : Bounds) : Type 0 where
  pub entries : r.entries ≡ entries_from d ρ
  pub givens : r.givens ≡ givens_from d ρ
  pub abstracts : r.abstracts ≡ abstract_from d ρ
  pub concretes : r.concretes ≡ concrete_from d ρ
  pub ainit : r.ainit ≡ ainit_from d ρ
  pub cinit : r.cinit ≡ cinit_from d ρ
  pub retrieve : r.retrieve ≡ retrieve_from d ρ
  pub operations : r.operations ≡ operations_from d ρ

pub record Sectioned (a : List ℕ) (m : ℕ) (r : Bounds) : Type 0 where
  pub entries_inside : r.entries ≤ m
  pub givens_inside : r.givens ≤ m
  pub abstracts_inside : r.abstracts ≤ m
  pub operations_inside : r.operations ≤ m
  pub exact : (d : Dossier) (ρ : Numbering) → m ≤ length a → take m a ≡ dossier_codes d ρ → SectionsOf d ρ r

-- names of a text have the same number only if they have the same letters
abbrev pub Tells : Numbering → List Symbol → Type 0
Tells ρ w =
    (x y : Name) (i j : ℕ) → get_or w i (fixed kind.END) ≡ name x → get_or w j (fixed kind.END) ≡ name y → ρ x.letters ≡ ρ y.letters → x.letters ≡ y.letters

-- the place in the answer of a pass over headings; its refusal
abbrev pub heading_of : prelude.Result (Unit {0}) refusals.Fault → prelude.Option ℕ
heading_of (Ok u) = None
heading_of (Err f) = Some f.place

abbrev pub Differs : prelude.Result (Unit {0}) refusals.Fault → Type 0
Differs (Ok u) = Unit {0}
Differs (Err f) = f.refusal ≡ HeadingDiffers

-- the least of some faults of number 7
abbrev pub Finds : List Fault → prelude.Option ℕ → Type 0
Finds f None = least f ≡ none
Finds f (Some p) = least f ≡ some (fault p heading_differs)

abbrev pub Headed : List ℕ → (m symbols : ℕ) → prelude.Option ℕ → Type 0
Headed a m symbols r =
    (d : Dossier) (ρ : Numbering) → m ≤ length a → take m a ≡ dossier_codes d ρ → symbols ≡ length (symbols_of d) → Tells ρ (symbols_of d) → Finds (heading_faults d) r

-- What the functions promise each other, over the first m numbers of the array. Nothing below need be believed.
-- some of the nodes, none where the places are not in order
pub record PartOf (nodes : List ℕ) (from to : ℕ) (r : List ℕ) : Type 0 where
  pub fits : 1 ≤ length r → from + length r ≤ length nodes
  pub part : from ≤ to → to ≤ length nodes → r ≡ take (to - from) (drop from nodes)
  pub none : (from ≤ to → to ≤ length nodes → ⊥) → r ≡ []

abbrev pub Part : List ℕ → (at m k r : ℕ) → Type 0
Part a at m k r = at + 4 ≤ m → r ≡ get_or (take m a) (at + k) 0

-- how many numbers an item of a shape has, by the second number of its first node
unfoldable pub size_of : (shape count : ℕ) → ℕ
size_of k n = cond (eqb k 6) 8 (cond (eqb k 7) (4 + n) 4)

pub record Sized (k n r : ℕ) : Type 0 where
  pub size : r ≡ size_of k n
  pub some : 4 ≤ r

unfoldable pub size_at : List ℕ → ℕ → ℕ
size_at t i = size_of (get_or t (i + 3) 0) (get_or t (i + 1) 0)

pub record Skips (a : List ℕ) (m at r : ℕ) : Type 0 where
  pub within : r ≤ m
  pub behind : at ≤ m → at ≤ r
  pub ahead : at < m → at < r
  pub exact : at + 4 ≤ m → at + size_at (take m a) at ≤ m → r ≡ at + size_at (take m a) at

-- one item from i up to e
pub record ItemAt (t : List ℕ) (m i e : ℕ) : Type 0 where
  pub room : i + 4 ≤ m
  pub size : i + size_at t i ≡ e
  pub inside : e ≤ m

-- an item of one of the shapes low to high
pub record In (t : List ℕ) (m low high i : ℕ) : Type 0 where
  pub room : i + 4 ≤ m
  pub lower : low ≤ get_or t (i + 3) 0
  pub upper : get_or t (i + 3) 0 ≤ high

pub record Inside (a : List ℕ) (m low high i : ℕ) (r : Bool) : Type 0 where
  pub holds : r ≡ true → In (take m a) m low high i
  pub fails : r ≡ false → In (take m a) m low high i → ⊥

-- items of these shapes stand from i up to e, and none at e
pub data Run (t : List ℕ) (m low high : ℕ) : ℕ → ℕ → Type 0 where
  stops : {i : ℕ} → (In t m low high i → ⊥) → Run t m low high i i
  passes : {i e : ℕ} → In t m low high i → i + size_at t i ≤ m → Run t m low high (i + size_at t i) e → Run t m low high i e

pub record RunsTo (a : List ℕ) (m low high at r : ℕ) : Type 0 where
  pub within : r ≤ m
  pub exact : (e : ℕ) → Run (take m a) m low high at e → r ≡ e

-- a state from i up to e
pub record StateAt (t : List ℕ) (m i e : ℕ) : Type 0 where
  pub last : ℕ
  pub room : i + 4 ≤ m
  pub heading : i + size_at t i ≤ m
  pub declarations : Run t m 6 6 (i + size_at t i) last
  pub last_room : last + 4 ≤ m
  pub predicate : last + size_at t last ≡ e
  pub inside : e ≤ m

pub record Behind (a : List ℕ) (m at r : ℕ) : Type 0 where
  pub within : r ≤ m
  pub exact : (e : ℕ) → StateAt (take m a) m at e → r ≡ e

-- entries from e up to `to` against bodies from h up to `last`
pub data Compares (t : List ℕ) (m low high to last wanting : ℕ) : ℕ → ℕ → prelude.Option ℕ → Type 0 where
  fits : {e h : ℕ} → to ≤ e → last ≤ h → Compares t m low high to last wanting e h None
  extra : {e h : ℕ} → to ≤ e → h < last → h + 4 ≤ m → Compares t m low high to last wanting e h (Some (get_or t (h + 2) 0))
  wants : {e h : ℕ} → e < to → last ≤ h → Compares t m low high to last wanting e h (Some wanting)
  differs : {e h : ℕ} → e < to → h < last → e + 4 ≤ m → h + 4 ≤ m → (get_or t (e + 1) 0 ≡ get_or t (h + 1) 0 → ⊥)
      → Compares t m low high to last wanting e h (Some (get_or t (h + 2) 0))
  agrees : {e h k : ℕ} {r : prelude.Option ℕ} → e < to → h < last → e + 4 ≤ m → h + 4 ≤ m → get_or t (e + 1) 0 ≡ get_or t (h + 1) 0 → e + size_at t e ≤ m → h + size_at t h ≤ m
      → Run t m low high (h + size_at t h) k → Compares t m low high to last wanting (e + size_at t e) k r → Compares t m low high to last wanting e h r

abbrev pub Compared : List ℕ → (m low high to last wanting from head : ℕ) → prelude.Option ℕ → Type 0
Compared a m low high to last wanting from head r = (q : prelude.Option ℕ) → Compares (take m a) m low high to last wanting from head q → r ≡ q
