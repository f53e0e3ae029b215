-- What `read` promises of every text: the answer of document 01 (static_rules/specs/Read), and what it leaves in the lent arrays.
use Rattle.std.specs.Prelude.{◌≡◌, List, ◌++◌, map, ℕ, ◌≤◌, ◌<◌, length, take, drop, get_or, replicate}
use Rattle.std.proofs.Math.Option.{Option, none}
use Rattle.lexical.specs.Symbols.{scan, symbols}
use Rattle.refusals.specs.Refusals.{Fault, least}
use Rattle.lexical.specs.Promises.{Scans, first_of}
use Rattle.std.specs.Prelude.{Ok, Err}
use Rattle.refusals.specs.RefusalNames.{fault_is}
use Rattle.form.specs.Tree.{Dossier}
use Rattle.form.specs.Form.{Forms}
use Rattle.form.specs.Codes.{dossier_codes}
use Rattle.parser.specs.Promises.{text_symbols, numbering, Parsed, Parses}
use Rattle.static_rules.specs.Carriers.{size_of}
use Rattle.static_rules.specs.Scope.{contexts}
use Rattle.static_rules.specs.Names.{name_faults}
use Rattle.static_rules.specs.Limits.{binding_faults, size_faults}
use Rattle.static_rules.specs.Read as definition
use Rattle.static_rules.specs.Read.{refusal, reading, names_read, read}
use Rattle.type_rules.specs.TypesByNumber.{Names, Sizes, key_of}
use Rattle.declared_names.specs.NamesByNumber.{givens_named}
use Rattle.node_spans.specs.Spans.{spans_of}
use Rattle.table_nodes.specs.TableWalkPromises.{patch}
use Rattle.search_groups.specs.TablePlacesDossierTable.{slots_of, starts_of, table_of, groups_of}
use Rattle.search_groups.specs.Conjuncts.{context_rows, context_firsts}

-- what is left of a dossier for the evaluator, in front of the lent arrays: where its parts stand, the table, the groups of variables, the conjuncts of each predicate
pub record Written (text : List ℕ) (d : Dossier) (spans₀ table₀ groups₀ rows₀ firsts₀ spans table groups rows firsts : List ℕ) : Type 0 where
  pub spans_are : spans ≡ spans_of d (numbering text) ++ drop (length (spans_of d (numbering text))) spans₀
  pub table_is : table ≡ table_of d (numbering text) table₀
  pub groups_are : groups ≡ patch 0 (groups_of d (numbering text)) groups₀
  pub rows_are : rows ≡ patch 0 (context_rows (contexts d) (slots_of d) (starts_of d (numbering text))) rows₀
  pub firsts_are : firsts ≡ patch 0 (context_firsts 0 (contexts d) (slots_of d) (starts_of d (numbering text))) firsts₀

-- "written only where nothing was refused": the arrays are as they were
pub record Kept (spans₀ table₀ groups₀ rows₀ firsts₀ spans table groups rows firsts : List ℕ) : Type 0 where
  pub spans_kept : spans ≡ spans₀
  pub table_kept : table ≡ table₀
  pub groups_kept : groups ≡ groups₀
  pub rows_kept : rows ≡ rows₀
  pub firsts_kept : firsts ≡ firsts₀

-- the fault that an answer is, by its name and place
abbrev pub RefusedAs : Fault → Parsed → Type 0
RefusedAs f (Err g) = fault_is g ≡ f
RefusedAs f (Ok s) = ⊥

-- the answer that a reading is: the refusal, or how many symbols and how many numbers of nodes there are; and what is left with either
abbrev pub ReadIs : (kept : Type 0) (written : Dossier → Type 0) → List ℕ → definition.Reading → Parsed → Type 0
ReadIs K W text (refusal f) r = RefusedAs f r × K
ReadIs K W text (reading d) r = (r ≡ Ok (record { symbols = length (symbols (scan text)); numbers = length (dossier_codes d (numbering text)) })) × W d

-- of the symbols and the nodes: what `parse` promises
pub record Reads (text codes₀ starts₀ values₀ nodes₀ codes starts values nodes spans₀ table₀ groups₀ rows₀ firsts₀ spans table groups rows firsts : List ℕ) (r : Parsed) : Type 0 where
  pub parsed : Parsed
  pub parses : Parses text codes₀ starts₀ values₀ nodes₀ codes starts values nodes parsed
  pub answers : ReadIs (Kept spans₀ table₀ groups₀ rows₀ firsts₀ spans table groups rows firsts)
      (λ (d : Dossier). Written text d spans₀ table₀ groups₀ rows₀ firsts₀ spans table groups rows firsts) text (read text) r

-- What the functions promise each other. Nothing below need be believed.

-- the first m of the nodes are those of the text's dossier, and n symbols begin where `starts` says
pub record Stands (text starts nodes : List ℕ) (n m : ℕ) (d : Dossier) : Type 0 where
  pub codes₀ : List ℕ
  pub starts₀ : List ℕ
  pub values₀ : List ℕ
  pub codes : List ℕ
  pub values : List ℕ
  pub scans : Scans text codes₀ starts₀ values₀ codes starts values (Ok n)
  pub forms : Forms (text_symbols text) d
  pub inside : m ≤ length nodes
  pub short : m ≤ 16384
  pub nodes_are : take m nodes ≡ dossier_codes d (numbering text)

-- the pass for names answers with its least fault, by its key, or 0
abbrev pub Named : (nodes : List ℕ) (m r : ℕ) → Type 0
Named nodes m r = (text starts : List ℕ) (n : ℕ) (d : Dossier) → Stands text starts nodes n m d → r ≡ key_of (least (name_faults d))

-- the given sets by name, in a table of l names, and their sizes; for the passes behind that for names
pub record Tabled (nodes : List ℕ) (m l : ℕ) (T : Names) (z : Sizes) : Type 0 where
  pub named : 16384 ≤ l → (text starts : List ℕ) (n : ℕ) (d : Dossier) → Stands text starts nodes n m d → least (name_faults d) ≡ none
      → T ≡ givens_named d.givens 0 (replicate l 0) (numbering text)
  pub sized : 16384 ≤ l → (text starts : List ℕ) (n : ℕ) (d : Dossier) → Stands text starts nodes n m d → least (name_faults d) ≡ none
      → (k : ℕ) → k < length d.givens → get_or z k 0 ≡ get_or (map size_of d.givens) k 0

-- a pass behind that for names finds the least of its faults, where that one found none
abbrev pub Finds : (Dossier → List Fault) → (nodes : List ℕ) (m r : ℕ) → Type 0
Finds faults nodes m r =
    (text starts : List ℕ) (n : ℕ) (d : Dossier)
    → Stands text starts nodes n m d
    → least (name_faults d) ≡ none
    → r ≡ key_of (least (faults d))

-- the fault of the first pass behind 7 that has one
abbrev pub first_fault : Dossier → Option Fault
first_fault d = first_of (least (name_faults d)) (first_of (least (binding_faults d)) (least (size_faults d)))

abbrev pub Faults : (nodes : List ℕ) (m r : ℕ) → Type 0
Faults nodes m r = (text starts : List ℕ) (n : ℕ) (d : Dossier) → Stands text starts nodes n m d → r ≡ key_of (first_fault d)

-- what is left where no pass found a fault
abbrev pub Leaves : (nodes : List ℕ) (m : ℕ) (spans₀ table₀ groups₀ rows₀ firsts₀ spans table groups rows firsts : List ℕ) → Type 0
Leaves nodes m spans₀ table₀ groups₀ rows₀ firsts₀ spans table groups rows firsts =
    (text starts : List ℕ) (n : ℕ) (d : Dossier)
    → Stands text starts nodes n m d
    → least (name_faults d) ≡ none
    → Written text d spans₀ table₀ groups₀ rows₀ firsts₀ spans table groups rows firsts

-- the passes over the structure of a text
abbrev pub Checks : (kept : Type 0) (written : List ℕ → Dossier → Type 0) (starts : List ℕ) (n end : ℕ) (nodes : List ℕ) (m : ℕ) → Parsed → Type 0
Checks K W starts n end nodes m r =
    (text : List ℕ) (d : Dossier) → Stands text starts nodes n m d → end ≡ length text → ReadIs K (W text) text (names_read text d) r
