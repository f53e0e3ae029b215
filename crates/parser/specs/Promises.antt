-- What `parse` promises: its answer, by the conditions of numbers 1 to 7, and what it leaves in the lent arrays.
use Rattle.std.specs.Prelude.{◌≡◌, List, map, ◌++◌, ℕ, length, drop, Result, Ok, Err}
use Rattle.std.proofs.Math.Option.{Option, none, some}
use Rattle.lexical.specs.Symbols.{Symbol, Placed, scan, symbols, place_at}
use Rattle.refusals.specs.Refusals.{Fault, fault, least}
use Rattle.lexical.specs.Promises.{Scanned, Scans, fault_of, first_named}
use Rattle.form.specs.Tree.{Dossier}
use Rattle.form.specs.Form.{Outcome, refused, formed, FormOf}
use Rattle.form.specs.Headings.{heading_faults}
use Rattle.form.specs.Codes.{Numbering, dossier_codes}
use Rattle.refusals.specs.declared.Fault as refusals
use Rattle.refusals.specs.RefusalNames.{fault_is}
use Rattle.parser.specs.declared.Structure.{Structure}

abbrev pub text_symbols : List ℕ → List Symbol
text_symbols text = map (λ (x : Placed). x.symbol) (symbols (scan text))

-- the number of a name's letters: that of the first symbol which has them
abbrev pub numbering : List ℕ → Numbering
numbering text a = first_named a (symbols (scan text))

-- what `parse` answers: a structure, or a fault
abbrev pub Parsed : Type 0
Parsed = Result Structure refusals.Fault

-- a refusal, by its name and place, leaves the nodes as they were
abbrev pub Refuses : Fault → (nodes₀ nodes : List ℕ) → Parsed → Type 0
Refuses f nodes₀ nodes (Ok s) = ⊥
Refuses f nodes₀ nodes (Err g) = (fault_is g ≡ f) × (nodes ≡ nodes₀)

-- how many symbols there are, and how many numbers the nodes have; the nodes of the dossier stand in front
abbrev pub Leaves : List ℕ → Dossier → (nodes₀ nodes : List ℕ) → Parsed → Type 0
Leaves text d nodes₀ nodes r =
    (r ≡ Ok (record { symbols = length (symbols (scan text)); numbers = length (dossier_codes d (numbering text)) }))
    × (nodes ≡ dossier_codes d (numbering text) ++ drop (length (dossier_codes d (numbering text))) nodes₀)

-- 7, where 4, 5 and 6 found no fault
abbrev pub AnswersHeadings : List ℕ → Dossier → Option Fault → (nodes₀ nodes : List ℕ) → Parsed → Type 0
AnswersHeadings text d (some f) nodes₀ nodes r = Refuses (fault (place_at text f.place) f.refusal) nodes₀ nodes r
AnswersHeadings text d none nodes₀ nodes r = Leaves text d nodes₀ nodes r

-- 4, 5 and 6
abbrev pub AnswersForm : List ℕ → Outcome → (nodes₀ nodes : List ℕ) → Parsed → Type 0
AnswersForm text (refused i q) nodes₀ nodes r = Refuses (fault (place_at text i) q) nodes₀ nodes r
AnswersForm text (formed d) nodes₀ nodes r = AnswersHeadings text d (least (heading_faults d)) nodes₀ nodes r

-- 1, 2 and 3; then the outcome of form that the condition gives
abbrev pub Answers : List ℕ → Option Fault → (nodes₀ nodes : List ℕ) → Parsed → Type 0
Answers text (some f) nodes₀ nodes r = Refuses f nodes₀ nodes r
Answers text none nodes₀ nodes r = (o : Outcome) × (FormOf (text_symbols text) o × AnswersForm text o nodes₀ nodes r)

pub record Parses (text codes₀ starts₀ values₀ nodes₀ codes starts values nodes : List ℕ) (r : Parsed) : Type 0 where
  pub scanned : Scanned
  pub scans : Scans text codes₀ starts₀ values₀ codes starts values scanned
  pub answers : Answers text (fault_of scanned) nodes₀ nodes r
