-- What the parts of the form pass have found is what `parse` answers.
use Rattle.std.specs.Prelude.{Some, None, Result, Ok, Err, MatchResult, IsOkAnd, IsErrAnd}
use Rattle.std.specs.Prelude as prelude
use mathlib.Core.Path.{◌≡◌, refl, ap, ap₂, ◌∙◌, sym, subst}
use mathlib.Core.List.{List, ◌++◌}
use mathlib.Core.Option.{Option, none, some}
use Prim.Native.Nat.{ℕ, ◌≤◌}
use lib.ListN.{length, take, drop, get_or, length-map}
use lib.Seq.{length-take-le}
use Rattle.lexical.specs.Symbols.{Symbol, scan, symbols, place_at}
use Rattle.refusals.specs.Refusals.{Refusal, Fault, fault, least, heading_differs}
use Rattle.lexical.specs.Promises.{Scanned, Scans, fault_of}
use Rattle.form.specs.Tree.{Dossier}
use Rattle.form.specs.Written.{symbols_of}
use Rattle.form.specs.Form.{refused, formed, FormOf, Forms}
use Rattle.form.specs.Machine.{complete, failed, run}
use Rattle.form.specs.Parse.{form, outcome_of}
use Rattle.form.specs.Headings.{heading_faults}
use Rattle.form.specs.Codes.{dossier_codes}
use Rattle.form.proofs.Table.{AllSpelled}
use Rattle.form.proofs.FormOf.{form_of}
use Rattle.form_nodes.specs.FormPromises.{codes, Answer, Left}
use Rattle.form_nodes.specs.Derivations.{Derives, a_dossier}
use Rattle.parser.specs.Sections.{Tells, Headed, Finds}
use Rattle.parser.specs.Promises.{text_symbols, numbering, Answers, AnswersHeadings, Parsed, Parses}
use Rattle.declarations.specs.DossierPromises.{Formed}
use Rattle.form_nodes.specs.declared.Read.{Read}
use Rattle.refusals.specs.declared.Fault as refusals
use Rattle.refusals.specs.declared.Refusal as names
use Rattle.refusals.specs.declared.Refusal.TheVariants.{HeadingDiffers}
use Rattle.refusals.specs.RefusalNames.{refusal_is}
use Rattle.parser.proofs.TextDossier.{values, DossierAt}
use Rattle.parser.proofs.Dossiers.{dossier-tree}
use Rattle.parser.proofs.Texts.{Known, known}

-- the outcome of symbols at which the machine fails; of symbols that it takes to the end
fails : (w : List Symbol) (i : ℕ) (q : Refusal) → AllSpelled w → run w ≡ failed i q → FormOf w (refused i q)
unfolding form
fails w i q z e = subst (FormOf w) (ap (outcome_of w) e) (form_of w z)

completes : (w : List Symbol) → AllSpelled w → run w ≡ complete → FormOf w (outcome_of w complete)
unfolding form
completes w z e = subst (FormOf w) (ap (outcome_of w) e) (form_of w z)

-- a structure of so many symbols and numbers
abbrev whole : (symbols numbers : ℕ) → Parsed
whole i j = Ok (record { symbols = i; numbers = j })

module _ {text coded placed valued : List ℕ} {n : ℕ} (left : Left text coded placed valued n) where
  facts : Known text coded placed valued n
  facts = known left.scans

  -- the place of a symbol, or the text's end
  place_is : (i : ℕ) → get_or (take n placed) i (length text) ≡ place_at text i
  unfolding place_at
  place_is i = ap (λ (l : List ℕ). get_or l i (length text)) facts.starts_are

  -- 4, 5 and 6
  pub refuses-form : (nodes₀ : List ℕ) (g : refusals.Fault) (i : ℕ) → run (text_symbols text) ≡ failed i (refusal_is g.refusal)
      → g.place ≡ get_or (take n placed) i (length text) → Answers text none nodes₀ nodes₀ (Err g)
  refuses-form nodes₀ g i e a =
      (refused i (refusal_is g.refusal), (fails (text_symbols text) i (refusal_is g.refusal) facts.symbols_are.spelled e, (ap (λ (p : ℕ). fault p (refusal_is g.refusal)) (a ∙ place_is i), refl)))

  -- the dossier, where the machine comes to the end
  module _ (made : List ℕ) (m : ℕ) {e : ℕ} {x : List ℕ} (ran : run (text_symbols text) ≡ complete)
      (derived : Derives (take n coded) (take n valued) a_dossier 0 e x) (all : e ≡ length (take n coded)) (written : take m made ≡ x) (room : m ≤ length made) where
    at-end : length (take n coded) ≡ length (text_symbols text)
    unfolding codes
    at-end = ap length facts.codes_are ∙ length-map (text_symbols text) _

    tree : DossierAt (text_symbols text) (numbering text) x
    tree =
        dossier-tree (text_symbols text) (numbering text) facts.symbols_are
        (subst (λ (k : ℕ). Derives (codes (text_symbols text)) (values (numbering text) (text_symbols text)) a_dossier 0 k x) (all ∙ at-end)
        (subst (λ (s : List ℕ). Derives s (values (numbering text) (text_symbols text)) a_dossier 0 e x) facts.codes_are
        (subst (λ (ν : List ℕ). Derives (take n coded) ν a_dossier 0 e x) facts.values_are derived)))

    abbrev d : Dossier
    d = tree.tree

    forms : Forms (text_symbols text) d
    forms = record { whole = tree.whole; faultless = (completes (text_symbols text) facts.symbols_are.spelled ran).faultless }

    nodes_are : take m made ≡ dossier_codes d (numbering text)
    nodes_are = written ∙ tree.nodes

    symbols_are : text_symbols text ≡ symbols_of d
    symbols_are = sym tree.whole.symbols

    decides : (h : prelude.Option ℕ) → Headed made m n h → Finds (heading_faults d) h
    decides h f =
        f d (numbering text) room nodes_are (sym facts.count ∙ ap length symbols_are)
        (subst (λ (w : List Symbol). Tells (numbering text) w) symbols_are facts.tells)

    answers : (nodes₀ nodes : List ℕ) (r : Parsed) (f : Option Fault) → least (heading_faults d) ≡ f → AnswersHeadings text d f nodes₀ nodes r → Answers text none nodes₀ nodes r
    answers nodes₀ nodes r f e a = (formed d, (forms, subst (λ (g : Option Fault). AnswersHeadings text d g nodes₀ nodes r) (sym e) a))

    -- 7
    pub refuses-heading : (nodes₀ : List ℕ) (i p : ℕ) → Headed made m n (Some i) → p ≡ get_or (take n placed) i (length text)
        → Answers text none nodes₀ nodes₀ (Err (record { place = p; refusal = HeadingDiffers }))
    refuses-heading nodes₀ i p f a = answers nodes₀ nodes₀ (Err (record { place = p; refusal = HeadingDiffers })) (some (fault i heading_differs)) (decides (Some i) f) (ap (λ (k : ℕ). fault k heading_differs) (a ∙ place_is i), refl)

    long : length (dossier_codes d (numbering text)) ≡ m
    long = ap length (sym nodes_are) ∙ length-take-le m made room

    -- the structure
    pub leaves : (nodes₀ nodes : List ℕ) → Headed made m n None → nodes ≡ take m made ++ drop m nodes₀ → Answers text none nodes₀ nodes (Ok (record { symbols = n; numbers = m }))
    leaves nodes₀ nodes f b =
        answers nodes₀ nodes (Ok (record { symbols = n; numbers = m })) none (decides None f) (
          ap₂ (λ (i j : ℕ). whole i j) (sym facts.count ∙ length-map (symbols (scan text)) _) (sym long),
          b ∙ ap₂ (λ (x : List ℕ) (k : ℕ). x ++ drop k nodes₀) nodes_are (sym long),
        )

-- what the functions below `structure` have answered, put together
pub few-symbols : {text coded placed valued : List ℕ} {n : ℕ} → Left text coded placed valued n → n ≤ 4096
few-symbols left = (known left.scans).few

-- what `map_err` left as it was, and of what it made a fault
pub ok-before : {T : Type 0} (r : Result T refusals.Fault) {t : Result T refusals.Fault} {e : T} (P : refusals.Fault → refusals.Fault → Type 0) → t ≡ Ok e → MatchResult r (λ x. t ≡ Ok x) (λ f. IsErrAnd t (P f)) → r ≡ Ok e
ok-before (Ok x) P q h = sym h ∙ q
ok-before {T} (Err f) P q h = absurd (subst (λ (y : Result T refusals.Fault). IsErrAnd y (P f)) q h)

well : {T : Type 0} {e : T} {g : refusals.Fault} → ◌≡◌ {A = Result T refusals.Fault} (Ok e) (Err g) → ⊥
well {T} q = subst (λ (y : Result T refusals.Fault). IsOkAnd y (λ x. Unit {0})) q tt

pub err-before : {T : Type 0} (r : Result T refusals.Fault) {t : Result T refusals.Fault} {g : refusals.Fault} (P : refusals.Fault → refusals.Fault → Type 0) → t ≡ Err g → MatchResult r (λ x. t ≡ Ok x) (λ f. IsErrAnd t (P f))
    → (f : refusals.Fault) × ((r ≡ Err f) × P f g)
err-before (Ok x) P q h = absurd (well (sym h ∙ q))
err-before {T} (Err f) P q h = (f, (refl, subst (λ (y : Result T refusals.Fault). IsErrAnd y (P f)) q h))

-- a fault by what its refusal is known to be
pub refused-as : (text nodes₀ : List ℕ) (g : refusals.Fault) {q : names.Refusal} → g.refusal ≡ q
    → Answers text none nodes₀ nodes₀ (Err (record { place = g.place; refusal = q })) → Answers text none nodes₀ nodes₀ (Err g)
refused-as text nodes₀ g h a = subst (λ (x : names.Refusal). Answers text none nodes₀ nodes₀ (Err (record { place = g.place; refusal = x }))) (sym h) a

pub formed-as : {s ν a b : List ℕ} {r t : Answer} → r ≡ t → Formed s ν a b r → Formed s ν a b t
formed-as {s} {ν} {a} {b} q f = subst (λ (x : Answer). Formed s ν a b x) q f

module _ {text coded placed valued : List ℕ} {n : ℕ} (left : Left text coded placed valued n) {a made : List ℕ} where
  pub form-fault : {f : refusals.Fault} {p : ℕ} → Formed (take n coded) (take n valued) a made (Err f) → (nodes₀ : List ℕ)
      → p ≡ get_or (take n placed) f.place (length text) → Answers text none nodes₀ nodes₀ (Err (record { place = p; refusal = f.refusal }))
  form-fault {f} {p} g nodes₀ q = refuses-form left nodes₀ (record { place = p; refusal = f.refusal }) f.place (g.exact (text_symbols text) (sym (known left.scans).codes_are)) q

  pub heading-fault : {e : Read} {i p : ℕ} → Formed (take n coded) (take n valued) a made (Ok e) → e.count ≤ length made → (h : prelude.Option ℕ) → Headed made e.count n h → h ≡ Some i
      → (nodes₀ : List ℕ) → p ≡ get_or (take n placed) i (length text) → Answers text none nodes₀ nodes₀ (Err (record { place = p; refusal = HeadingDiffers }))
  heading-fault {e} {i} {p} g room h f q nodes₀ =
      refuses-heading left made e.count (g.exact (text_symbols text) (sym (known left.scans).codes_are)) g.made.derives g.ended.0 g.made.written room nodes₀ i p
      (subst (λ (x : prelude.Option ℕ). Headed made e.count n x) q f)

  pub whole-structure : {e : Read} → Formed (take n coded) (take n valued) a made (Ok e) → e.count ≤ length made → (h : prelude.Option ℕ) → Headed made e.count n h → h ≡ None
      → (nodes₀ nodes : List ℕ)
      → nodes ≡ take e.count made ++ drop e.count nodes₀ → Answers text none nodes₀ nodes (Ok (record { symbols = n; numbers = e.count }))
  whole-structure {e} g room h f q nodes₀ nodes =
      leaves left made e.count (g.exact (text_symbols text) (sym (known left.scans).codes_are)) g.made.derives g.ended.0 g.made.written room nodes₀ nodes
      (subst (λ (x : prelude.Option ℕ). Headed made e.count n x) q f)

pub left-of : {text codes₀ starts₀ values₀ coded starts valued : List ℕ} {r : Scanned} {n : ℕ} → Scans text codes₀ starts₀ values₀ coded starts valued r → r ≡ Ok n
    → Left text coded starts valued n
left-of {text} {codes₀} {starts₀} {values₀} {coded} {starts} {valued} h q =
    record { codes₀ = codes₀; starts₀ = starts₀; values₀ = values₀; scans = subst (λ (x : Scanned). Scans text codes₀ starts₀ values₀ coded starts valued x) q h }

pub parses : {text codes₀ starts₀ values₀ coded starts valued nodes₀ nodes : List ℕ} {p : Parsed} {r : Scanned} → Scans text codes₀ starts₀ values₀ coded starts valued r
    → (g : Option Fault) → fault_of r ≡ g → Answers text g nodes₀ nodes p → Parses text codes₀ starts₀ values₀ nodes₀ coded starts valued nodes p
parses {text} {nodes₀ = nodes₀} {nodes = nodes} {p = p} {r = r} h g e a =
    record { scanned = r; scans = h; answers = subst (λ (x : Option Fault). Answers text x nodes₀ nodes p) (sym e) a }
