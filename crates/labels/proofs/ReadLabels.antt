-- The labels gathered from the arrays that the reader leaves of a text are those of its dossier.
use mathlib.Core.Path.{◌≡◌, refl, sym, ap, ◌∙◌, subst}
use mathlib.Core.List.{List, [], append-nil}
use mathlib.Core.Option.{some}
use Prim.Native.Nat.{ℕ, ◌+◌, ◌-◌, ◌*◌, ◌<◌, ◌≤◌}
use native.Mathlib.Omega.{arith}
use lib.ListN.{length, get_elem?, get_or, take, drop}
use lib.Seq.{length-take-le}
use Rattle.lexical.specs.Symbols.{no_ending}
use Rattle.form.specs.Tree.{Letters, Given, elements, declarations, inward, outward, Parameter, Operation, Dossier}
use Rattle.form.specs.Written.{ending_of}
use Rattle.form.specs.Codes.{dossier_codes, Numbering}
use Rattle.parser.specs.Promises.{numbering}
use Rattle.static_rules.specs.Carriers.{Variable}
use Rattle.static_rules.specs.Scope.{is_input, is_output}
use Rattle.static_rules.specs.Read.{reading, read}
use Rattle.meaning.proofs.Places.{entry-member, entry-below}
use Rattle.declared_names.specs.NamesByNumber.{Typed, parameters_of}
use Rattle.names.proofs.PassAgrees.{DossierIn}
use Rattle.names.proofs.PassAgreesDeclared.{TypedIn}
use Rattle.node_spans.specs.Spans.{spans_of, span}
use Rattle.value_types.proofs.GivenTitles.{few-elements, few-elements-of}
use Rattle.value_types.proofs.DeclaredCarriers.{parameters-are}
use Rattle.value_types.proofs.FineContexts.{DossierFaultless, dossier-faultless}
use Rattle.readings.proofs.TablesDeclaredPlaces.{variables-few, parameters_few}
use Rattle.readings.specs.ReaderOccurrences.{Occurs}
use Rattle.readings.specs.ReaderPromises.{Written}
use Rattle.readings.specs.ReaderGives.{Gives}
use Rattle.readings.proofs.ReaderReadGives.{read-gives}
use Rattle.readings.proofs.ReadReadings.{few-at, Rows, rows-placed, operation-placed, abstracts-typed, concretes-typed, operation-typed}
use Rattle.labels.specs.Labels.{SpeltAt, LabelsFrom, LabelsOf}
use Rattle.labels.specs.LabelPromises.{ElementsGathered, TitlesGathered, VariablesGathered}
use Rattle.readings.proofs.ReaderTextLetters.{dossier-in}
use Rattle.labels.proofs.LettersAt.{letters-at, elements-in, operation-in}
use Rattle.labels.proofs.NamedNodes.{NamesAt, name-spelt, names_at, NodesFrom, operations-nodes, abstract-nodes, concrete-nodes}
use Rattle.labels.proofs.LabelledGroups.{row-labels, state-labelled, parameters-labelled}

-- what `read` leaves of a text that is read, where the letters of each name begin at the first symbol that has them
pub read-labels : (text nodes starts spans₀ table₀ groups₀ rows₀ firsts₀ spans table groups rows firsts l₀ l₁ l₂ l₃ : List ℕ) (d : Dossier) (m : ℕ)
    → read text ≡ reading d → m ≤ length nodes → take m nodes ≡ dossier_codes d (numbering text) → m ≤ length table₀
    → Written text d spans₀ table₀ groups₀ rows₀ firsts₀ spans table groups rows firsts
    → ((x : Letters) → Occurs text x → SpeltAt text (get_or starts (numbering text x) 0) x) → ElementsGathered nodes starts m l₀ l₁ → TitlesGathered nodes starts spans l₁ l₂
    → VariablesGathered nodes starts table groups l₂ l₃ → LabelsOf text l₃ d
read-labels text nodes starts spans₀ table₀ groups₀ rows₀ firsts₀ spans table groups rows firsts l₀ l₁ l₂ l₃ d m e h u l w spelt es ts vs = record {
  few = few;
  elements_at = λ n g s k x t.
      let a = entry-below g gs n s in
      let b = entry-below x (elements g) k t in
      let c = small n g s in
      let f = few in
      subst (λ (p : ℕ). SpeltAt text p x)
      (sym (vs.others.below (8 * n + k) (omega arith) ∙ ts.others.below (8 * n + k) (omega arith) ∙ es.each d ρ h u few small n g s k x t))
      (spelt x (letters-at (elements-in occur.givens_in n g s) k x t));
  titles_at = λ j o t.
      let b = below j o t in
      subst (λ (p : ℕ). SpeltAt text p o.title) (sym (vs.others.below (64 + j) (omega arith) ∙ ts.each j b))
      (name-spelt text nodes starts ρ (Occurs text) spelt (get_or spans (9 + 4 * j) 0 - 4) o.title no_ending
      (operations-nodes d ρ nodes m h u spans (drop (length s) spans₀) w.spans_are j o t).title (operation-in occur.operations_in j o t).0);
  abstracts =
      let n = variables-few gs no_ending (declarations d.abstract) in
      let f = given.variables.abstract in
      row-labels vs
      (state-labelled text nodes starts table gs few no_ending
      (abstracts-typed given w room)
      (named (span s 0) occur.abstract_in (abstract-nodes d ρ nodes m h u s [] (sym (append-nil s)))) fine.abstract)
      0 8 places.behind_abstracts places.abstracts 1 refl (omega arith);
  concretes =
      let n = variables-few gs no_ending (declarations d.concrete) in
      let f = given.variables.concrete in
      row-labels vs
      (state-labelled text nodes starts table gs few no_ending
      (concretes-typed given w room)
      (named (span s 3) occur.concrete_in (concrete-nodes d ρ nodes m h u s [] (sym (append-nil s)))) fine.concrete)
      9 8 places.behind_concretes places.concretes 10 refl (omega arith);
  inputs_at = λ j o t.
      let r = operation-placed given w j o t in
      let b = below j o t in
      let n = subst (λ (x : List Variable). length x ≤ 3) (parameters-are gs inward o.parameters) (parameters_few d inward o (few-at given.variables.parameters j o t)) in
      subst (LabelsFrom text l₃ gs (18 + 8 * j + 1)) (sym (parameters-are gs inward o.parameters))
      (row-labels vs
      (parameters-labelled text nodes starts table gs few (λ (x : Parameter). is_input x.direction) (ending_of inward) (span s (9 + 4 * j)) o.parameters (operation-typed given w room j o t)
      (parameter-names j o t) (fine.parameters o (entry-member o d.operations j t)))
      (18 + 8 * j) 3 r.behind_inputs r.inputs_row (18 + 8 * j + 1) refl (omega arith));
  outputs_at = λ j o t.
      let r = operation-placed given w j o t in
      let b = below j o t in
      let n = subst (λ (x : List Variable). length x ≤ 3) (parameters-are gs outward o.parameters) (parameters_few d outward o (few-at given.variables.parameters j o t)) in
      subst (LabelsFrom text l₃ gs (18 + 8 * j + 5)) (sym (parameters-are gs outward o.parameters))
      (row-labels vs
      (parameters-labelled text nodes starts table gs few (λ (x : Parameter). is_output x.direction) (ending_of outward) (span s (9 + 4 * j)) o.parameters (operation-typed given w room j o t)
      (parameter-names j o t) (fine.parameters o (entry-member o d.operations j t)))
      (18 + 8 * j + 4) 3 r.behind_outputs r.outputs_row (18 + 8 * j + 5) (omega arith) (omega arith));
}
  where
    ρ : Numbering
    ρ = numbering text

    gs : List Given
    gs = d.givens

    s : List ℕ
    s = spans_of d ρ

    given : Gives text d
    given = read-gives text d e

    few : length gs ≤ 8
    few = given.given_sets.sets

    small : (n : ℕ) (g : Given) → get_elem? d.givens n ≡ some g → length (elements g) ≤ 8
    small n g t = few-elements d.givens (few-elements-of d.givens given.given_sets.elements) g (entry-member g d.givens n t)

    fine : DossierFaultless d
    fine = dossier-faultless d given.names

    occur : DossierIn (Occurs text) d
    occur = dossier-in text given.form

    room : length (dossier_codes d ρ) ≤ length table₀
    room = let q : length (dossier_codes d ρ) ≡ m = ap length (sym u) ∙ length-take-le m nodes h in omega arith

    places : Rows d ρ groups
    places = rows-placed given w

    below : (j : ℕ) (o : Operation) → get_elem? d.operations j ≡ some o → j < 16
    below j o t = let a = entry-below o d.operations j t in let b = given.variables.operations in omega arith

    named : {xs : List Typed} (q : ℕ) → TypedIn (Occurs text) xs → NodesFrom nodes (numbering text) q xs → NamesAt text nodes starts q xs
    named q i n = names_at text nodes starts ρ (Occurs text) spelt i q n.place n.behind n.split

    parameter-names : (j : ℕ) (o : Operation) → get_elem? d.operations j ≡ some o → NamesAt text nodes starts (span (spans_of d ρ) (9 + 4 * j)) (parameters_of o.parameters)
    parameter-names j o t =
        named (span s (9 + 4 * j)) (operation-in occur.operations_in j o t).1
        (operations-nodes d ρ nodes m h u s [] (sym (append-nil s)) j o t).parameters
