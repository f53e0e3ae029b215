-- The first bytes of declared names and of operations' names, by their nodes: each node has the number of its name, and the reader has where its letters begin.
use mathlib.Core.Path.{◌≡◌, sym, ap, ◌∙◌, subst}
use mathlib.Core.List.{List, [], ◌∷◌, ◌++◌, append_assoc}
use mathlib.Core.Option.{some, none-ne-some, some-injective}
use Prim.Native.Nat.{ℕ, zero, suc, ◌+◌, ◌-◌, ◌*◌, ◌/◌, ◌≤◌}
use native.Mathlib.Omega.{arith}
use lib.ListN.{length, take, drop, get_or, get_elem?, take-append-drop}
use lib.Seq.{length-take-le}
use Rattle.lexical.specs.Symbols.{no_ending, prime, query, shriek, Ending}
use Rattle.form.specs.Tree.{Letters, Declaration, declarations, Operation, Dossier}
use Rattle.form.specs.Headings.{abstract_at, concrete_at, operations_at}
use Rattle.form.specs.Codes.{Numbering, number_of_name, ending_number, type_width, declaration_codes, dossier_codes}
use Rattle.parser.specs.Sections.{operations_from}
use Rattle.parser.proofs.ItemNodes.{Split, split-first, split-next, split-as, split_at}
use Rattle.parser.proofs.PartPlaces.{at-operations}
use Rattle.declared_names.specs.NamesByNumber.{Typed, typed_codes, variables_of, parameters_of}
use Rattle.declared_names.specs.PassPromises.{typed_code}
use Rattle.declared_names.proofs.DeclarationNodes.{typed-eight}
use Rattle.names.proofs.PassSteps.{variables-codes, parameters-codes}
use Rattle.names.proofs.PassAgreesDeclared.{TypedIn, no_typed, one_typed}
use Rattle.node_spans.specs.Spans.{operation_spans, spans_of, span, Stands}
use Rattle.node_spans.proofs.Structure.{split-move, split-longer, OneOperation, each-operation, structured}
use Rattle.labels.specs.Labels.{SpeltAt}
use Rattle.labels.specs.LabelPromises.{name_byte}

-- ---- a name

quarter : (n : ℕ) (e : Ending) → (4 * n + ending_number e) / 4 ≡ n
quarter n no_ending = omega arith
quarter n prime = omega arith
quarter n query = omega arith
quarter n shriek = omega arith

-- names of declarations whose nodes begin at q, 8 numbers each
pub data NamesAt (text nodes starts : List ℕ) : (q : ℕ) → List Typed → Type 0 where
  no_names : {q : ℕ} → NamesAt text nodes starts q []
  more_names : {q : ℕ} {x : Typed} {xs : List Typed} → SpeltAt text (name_byte nodes starts q) x.called.letters → NamesAt text nodes starts (q + 8) xs
      → NamesAt text nodes starts q (x ∷ xs)

module _ (text nodes starts : List ℕ) (ρ : Numbering) (P : Letters → Type 0) (spelt : (x : Letters) → P x → SpeltAt text (get_or starts (ρ x) 0) x) where
  -- the node at q has the number of a name
  pub name-spelt : (q : ℕ) (x : Letters) (e : Ending) → get_or nodes (q + 1) 0 ≡ number_of_name ρ x e → P x → SpeltAt text (name_byte nodes starts q) x
  unfolding number_of_name
  name-spelt q x e f p =
      subst (λ (n : ℕ). SpeltAt text (get_or starts n 0) x) (sym (ap (λ (n : ℕ). n / 4) f ∙ quarter (ρ x) e)) (spelt x p)

  pub names_at : {xs : List Typed} → TypedIn P xs → (q i : ℕ) (post : List ℕ) → Split nodes q (typed_codes i xs ρ ++ post) → NamesAt text nodes starts q xs
  unfolding typed_codes
  names_at no_typed q i post s = no_names
  names_at (one_typed {x = x} {xs = xs} p t r) q i post s =
      let R : List ℕ = typed_codes (i + 3 + type_width x.type) xs ρ in
      let u : Split nodes q (typed_code i x ρ ++ (R ++ post)) = split-as (append_assoc (typed_code i x ρ) R post) s in
      let l = typed-eight x i ρ in
      more_names (name-spelt q x.called.letters x.called.ending (split_at u 1) p)
      (names_at r (q + 8) (i + 3 + type_width x.type) post (split-move (omega arith) (split-next (typed_code i x ρ) (R ++ post) u)))

-- ---- the parts of a dossier

-- declared names whose nodes begin at q
pub record NodesFrom (nodes : List ℕ) (ρ : Numbering) (q : ℕ) (xs : List Typed) : Type 0 where
  pub place : ℕ
  pub behind : List ℕ
  pub split : Split nodes q (typed_codes place xs ρ ++ behind)

nodes-from : {nodes codes : List ℕ} {ρ : Numbering} {q : ℕ} (i : ℕ) (xs : List Typed) (post : List ℕ) → typed_codes i xs ρ ≡ codes → Split nodes q (codes ++ post) → NodesFrom nodes ρ q xs
nodes-from i xs post e s = record { place = i; behind = post; split = split-as (ap (λ (l : List ℕ). l ++ post) (sym e)) s }

-- what stands among the nodes, from its place on
stands-split : {nodes codes : List ℕ} {from to : ℕ} → Stands nodes from to codes → Split nodes from (codes ++ drop (to - from) (drop from nodes))
stands-split {nodes} {from = from} {to} s =
    let o = s.ordered in
    let i = s.inside in
    record {
      front = take from nodes;
      whole = sym (take-append-drop from nodes)
          ∙ ap (λ (l : List ℕ). take from nodes ++ l)
          (sym (take-append-drop (to - from) (drop from nodes)) ∙ ap (λ (l : List ℕ). l ++ drop (to - from) (drop from nodes)) s.stands);
      long = length-take-le from nodes (omega arith);
    }

variables-nodes : {nodes : List ℕ} {ρ : Numbering} {from to : ℕ} (i : ℕ) (ds : List Declaration) → Stands nodes from to (declaration_codes i ds ρ)
    → NodesFrom nodes ρ from (variables_of no_ending ds)
variables-nodes {ρ = ρ} i ds s = nodes-from i (variables_of no_ending ds) _ (variables-codes i ds ρ) (stands-split s)

-- an operation: its name's node, and its parameters
pub record OperationNodes (nodes spans : List ℕ) (ρ : Numbering) (k : ℕ) (o : Operation) : Type 0 where
  pub title : get_or nodes (span spans (9 + 4 * k) - 4 + 1) 0 ≡ number_of_name ρ o.title no_ending
  pub parameters : NodesFrom nodes ρ (span spans (9 + 4 * k)) (parameters_of o.parameters)

abbrev EachNodes : (nodes spans : List ℕ) → Numbering → (k : ℕ) → List Operation → Type 0
EachNodes nodes spans ρ k os = (j : ℕ) (o : Operation) → get_elem? os j ≡ some o → (x : ℕ) → x ≡ k + j → OperationNodes nodes spans ρ x o

module _ {nodes spans : List ℕ} {ρ : Numbering} where
  operation-nodes : (n k i : ℕ) (o : Operation) → OneOperation nodes spans ρ n k i o → OperationNodes nodes spans ρ k o
  operation-nodes n k i o w =
      let s = w.s₀ in
      let e : span spans (9 + 4 * k) - 4 + 1 ≡ n + 1 = omega arith in
      record {
        title = ap (λ (x : ℕ). get_or nodes x 0) e ∙ split_at w.titled 1;
        parameters = nodes-from (i + 2) (parameters_of o.parameters) w.q₁ (parameters-codes (i + 2) o.parameters ρ) (split-move (sym s) w.declared);
      }

  one-nodes : (n k i : ℕ) (o : Operation) (os : List Operation) → OneOperation nodes spans ρ n k i o → EachNodes nodes spans ρ (suc k) os
      → EachNodes nodes spans ρ k (o ∷ os)
  one-nodes n k i o os w r zero p e x f =
      let z : k ≡ x = omega arith in
      subst (λ (y : ℕ). OperationNodes nodes spans ρ y p) z (subst (OperationNodes nodes spans ρ k) (some-injective o p e) (operation-nodes n k i o w))
  one-nodes n k i o os w r (suc j) p e x f = r j p e x (omega arith)

module _ (d : Dossier) (ρ : Numbering) (nodes : List ℕ) (m : ℕ) (l : m ≤ length nodes) (e : take m nodes ≡ dossier_codes d ρ) (spans rest : List ℕ)
    (g : spans ≡ spans_of d ρ ++ rest) where
  pub operations-nodes : (j : ℕ) (o : Operation) → get_elem? d.operations j ≡ some o → OperationNodes nodes spans ρ j o
  unfolding spans_of
  operations-nodes j o t =
      let z : List ℕ = drop m nodes in
      let w : nodes ≡ dossier_codes d ρ ++ z = sym (take-append-drop m nodes) ∙ ap (λ (x : List ℕ). x ++ z) e in
      let S : List ℕ = operation_spans (operations_from d ρ) (operations_at d) d.operations ρ in
      let s : Split spans 9 (S ++ rest) = split-first (take 9 (spans_of d ρ)) (S ++ rest) g in
      each-operation ρ z rest (λ (k i : ℕ) (os : List Operation). EachNodes nodes spans ρ k os) (λ k i n p f x y. absurd (none-ne-some p f))
      (λ n k i p ps. one-nodes n k i p ps) (operations_from d ρ) 0 (operations_at d) d.operations (split-longer z w (at-operations d ρ)) s j o t j (omega arith)

  -- the variables of the two states
  pub abstract-nodes : NodesFrom nodes ρ (span spans 0) (variables_of no_ending (declarations d.abstract))
  abstract-nodes = variables-nodes (suc (abstract_at d)) (declarations d.abstract) (structured d ρ nodes spans m l e rest g).abstract.variables

  pub concrete-nodes : NodesFrom nodes ρ (span spans 3) (variables_of no_ending (declarations d.concrete))
  concrete-nodes = variables-nodes (suc (concrete_at d)) (declarations d.concrete) (structured d ρ nodes spans m l e rest g).concrete.variables
