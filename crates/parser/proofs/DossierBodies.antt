-- What the form pass derives is a dossier: declarations, conditions, states and operations.
use mathlib.Core.Path.{◌≡◌, refl, ap, ap₂, ◌∙◌, sym}
use mathlib.Core.List.{List, [], ◌∷◌, ◌++◌}
use Prim.Native.Nat.{ℕ, suc, ◌+◌, ◌≤◌}
use native.Mathlib.Omega.{arith}
use lib.ListN.{length, drop, get_or}
use Rattle.lexical.specs.Kinds as kind
use Rattle.lexical.specs.Kinds.{Kind, code_of}
use Rattle.lexical.specs.Symbols.{Ending, no_ending, Symbol, fixed}
use Rattle.form.specs.Tree.{Pred, Declaration, Direction, Parameter, State, Operation}
use Rattle.form.specs.Written.{ending_of, write_declarations}
use Rattle.form.specs.Form.{PredGrouped, OperationsGrouped}
use Rattle.form.specs.Headings.{operation_length}
use Rattle.form.specs.Codes.{node, Numbering, pred_width, type_width, type_codes, declaration_code, declaration_codes, parameter_codes, condition_codes, state_codes}
use Rattle.form.specs.Codes.{abstractly_at, operation_codes}
use Rattle.form.proofs.PlainSymbols.{named, plain_type, plain_pred, plain_declarations, plain_where, plain_state, plain_parameters, plain_operations}
use Rattle.form_nodes.specs.FormPromises.{codes}
use Rattle.form_nodes.specs.Derivations.{name_code, a_declaration, some_declarations, some_parameters, some_operations, a_condition, a_state, a_where}
use Rattle.form_nodes.specs.Derivations.{declares, no_declarations, declares_more, no_parameters, takes_more, condition, state, where_of, no_operations, an_operation}
use Rattle.parser.proofs.TextDossier.{values, Text}
use Rattle.parser.proofs.SymbolAt.{NamedAt, ending-as, no-ending, directed, fixed-at, name-at, plain_at}
use Rattle.parser.proofs.Spans.{pred-width}
use Rattle.parser.proofs.RangeTrees.{type-in}
use Rattle.parser.proofs.DerivedTrees.{pred-tree}
use Rattle.parser.proofs.Widths.{declaration_width, declarations_width, parameters_width, state_width, operations_width, declarations-length, parameters-length, operation-length}
use Rattle.parser.proofs.DossierEntries.{Derived, headed, moved}

-- Where each part stands. κ is the word that it begins with; of a condition the one that it ends with; e is the ending of the name declared.
record DeclarationAt (w : List Symbol) (ρ : Numbering) (e : Ending) (i j : ℕ) (n : List ℕ) : Type 0 where
  tree : Declaration
  symbols : drop i w ≡ named tree.declared e ∷ fixed kind.colon ∷ plain_type tree.type (fixed kind.semicolon ∷ drop j w)
  width : j ≡ i + declaration_width tree
  nodes : n ≡ declaration_code i e tree ρ

record DeclarationsAt (w : List Symbol) (ρ : Numbering) (i j : ℕ) (n : List ℕ) : Type 0 where
  tree : List Declaration
  symbols : drop i w ≡ plain_declarations tree (drop j w)
  width : j ≡ i + declarations_width tree
  nodes : n ≡ declaration_codes i tree ρ

record ParametersAt (w : List Symbol) (ρ : Numbering) (i j : ℕ) (n : List ℕ) : Type 0 where
  tree : List Parameter
  symbols : drop i w ≡ plain_parameters tree (drop j w)
  width : j ≡ i + parameters_width tree
  nodes : n ≡ parameter_codes i tree ρ

record ConditionAt (w : List Symbol) (ρ : Numbering) (κ : Kind) (i j : ℕ) (n : List ℕ) : Type 0 where
  tree : Pred
  grouped : PredGrouped tree
  symbols : drop i w ≡ plain_pred tree (fixed κ ∷ drop j w)
  width : j ≡ i + pred_width tree + 1
  nodes : n ≡ condition_codes i tree ρ

pub record StateAt (w : List Symbol) (ρ : Numbering) (κ : Kind) (i j : ℕ) (n : List ℕ) : Type 0 where
  pub tree : State
  pub grouped : PredGrouped tree.predicate
  pub symbols : drop i w ≡ fixed κ ∷ plain_state tree (drop j w)
  pub width : j ≡ i + 1 + state_width tree
  pub nodes : n ≡ state_codes i tree ρ

pub record WhereAt (w : List Symbol) (ρ : Numbering) (κ : Kind) (i j : ℕ) (n : List ℕ) : Type 0 where
  pub tree : Pred
  pub grouped : PredGrouped tree
  pub symbols : drop i w ≡ fixed κ ∷ plain_where tree (drop j w)
  pub width : j ≡ i + 3 + pred_width tree
  pub nodes : n ≡ condition_codes (i + 2) tree ρ

pub record OperationsAt (w : List Symbol) (ρ : Numbering) (i j : ℕ) (n : List ℕ) : Type 0 where
  pub tree : List Operation
  pub grouped : OperationsGrouped tree
  pub symbols : drop i w ≡ plain_operations tree (drop j w)
  pub width : j ≡ i + operations_width tree
  pub nodes : n ≡ operation_codes i tree ρ

module _ {w : List Symbol} {ρ : Numbering} (text : Text w ρ) where
  declaration-tree : {i j : ℕ} {n : List ℕ} → Derived w ρ a_declaration i j n → (x : NamedAt w ρ i) × ((e : Ending) → x.name.ending ≡ e → DeclarationAt w ρ e i j n)
  unfolding code_of
  declaration-tree {i = i} (declares {j = j} a b d c) =
      let x = name-at text a in
      let t = type-in text d in (
        x,
        λ e q. let y = ending-as x q in
            record {
              tree = record { declared = y.letters; type = t.tree };
              symbols =
                  y.step.steps
                  ∙ ap (λ (u : List Symbol). named y.letters e ∷ u)
                  ((fixed-at text kind.colon b (omega arith)).steps
                  ∙ ap (λ (u : List Symbol). fixed kind.colon ∷ u)
                  (t.symbols ∙ ap (plain_type t.tree) (fixed-at text kind.semicolon c (omega arith)).steps));
              width = let l = t.width in omega arith;
              nodes = headed refl y.number (moved (λ k. type_codes t.tree k ρ) (i + 1 + 1) (i + 2) t.nodes (omega arith));
            },
      )

  declarations-tree : {i j : ℕ} {n : List ℕ} → Derived w ρ some_declarations i j n → DeclarationsAt w ρ i j n
  unfolding declaration_codes
  declarations-tree {i = i} no_declarations = record { tree = []; symbols = refl; width = omega arith; nodes = refl }
  declarations-tree {i = i} (declares_more {j = j} a d ds) =
      let x = declaration-tree d in
      let y = x.1 no_ending (no-ending x.0.name.ending (sym x.0.code ∙ a)) in
      let r = declarations-tree ds in
      let t = y.tree in
      record {
        tree = t ∷ r.tree;
        symbols =
            y.symbols ∙ ap (λ (u : List Symbol). named t.declared no_ending ∷ fixed kind.colon ∷ plain_type t.type (fixed kind.semicolon ∷ u)) r.symbols;
        width = let l = y.width in let m = r.width in omega arith;
        nodes =
            ap₂ ◌++◌ y.nodes
            (moved (λ k. declaration_codes k r.tree ρ) j (i + 3 + type_width t.type) r.nodes (let l = y.width in omega arith));
      }

  parameter-of : {i j k : ℕ} {m n : List ℕ} (o : Direction) → DeclarationAt w ρ (ending_of o) i j m → ParametersAt w ρ j k n → ParametersAt w ρ i k (m ++ n)
  unfolding parameter_codes
  parameter-of {i} {j} o y r =
      record {
        tree = record { direction = o; declaration = y.tree } ∷ r.tree;
        symbols =
            y.symbols
            ∙ ap (λ (u : List Symbol). named y.tree.declared (ending_of o) ∷ fixed kind.colon ∷ plain_type y.tree.type (fixed kind.semicolon ∷ u)) r.symbols;
        width = let l = y.width in let m = r.width in omega arith;
        nodes =
            ap₂ ◌++◌ y.nodes (moved (λ k. parameter_codes k r.tree ρ) j (i + 3 + type_width y.tree.type) r.nodes (let l = y.width in omega arith));
      }

  parameters-tree : {i j : ℕ} {n : List ℕ} → Derived w ρ some_parameters i j n → ParametersAt w ρ i j n
  unfolding parameter_codes
  parameters-tree {i = i} no_parameters = record { tree = []; symbols = refl; width = omega arith; nodes = refl }
  parameters-tree (takes_more a b d ds) =
      let x = declaration-tree d in
      let o = directed x.0.name.ending (let c = x.0.code in omega arith) in parameter-of o.0 (x.1 (ending_of o.0) o.1) (parameters-tree ds)

  condition-tree : (κ : Kind) → 10 ≤ code_of κ → {word i j : ℕ} {n : List ℕ} → word ≡ code_of κ → Derived w ρ (a_condition word) i j n → ConditionAt w ρ κ i j n
  unfolding condition_codes
  condition-tree κ l {i = i} q (condition {j = j} d e) =
      let p = pred-tree text d (omega arith) in
      record {
        tree = p.tree;
        grouped = p.grouped;
        symbols = p.symbols ∙ ap (plain_pred p.tree) (fixed-at text κ (e ∙ q) l).steps;
        width = let m = pred-width p in omega arith;
        nodes = ap (λ (m : List ℕ). node 7 i (length m) 0 ++ m) p.nodes;
      }

  -- where a name stands at first, and a word behind, there is a declaration
  state-of : (κ : Kind) → 10 ≤ code_of κ → {i j k : ℕ} {m n : List ℕ} → get_or (codes w) i 0 ≡ code_of κ → get_or (codes w) (i + 1) 0 ≡ 2 → DeclarationsAt w ρ (i + 1) j m
      → get_or (codes w) j 0 ≡ 45 → ConditionAt w ρ kind.END (j + 1) k n → StateAt w ρ κ i k (node 5 i 0 0 ++ (m ++ n))
  unfolding state_codes code_of
  state-of κ l {i} {j} {k} {m} {n} a b e d c = on e.tree e.symbols e.width e.nodes
    where
      on : (ds : List Declaration) → drop (i + 1) w ≡ plain_declarations ds (drop j w) → j ≡ i + 1 + declarations_width ds → m ≡ declaration_codes (i + 1) ds ρ
          → StateAt w ρ κ i k (node 5 i 0 0 ++ (m ++ n))
      on [] y z o = let q : get_or (codes w) j 0 ≡ 2 = ap (λ (k : ℕ). get_or (codes w) k 0) (omega arith) ∙ b in absurd (omega arith)
      on (y ∷ ys) z v o =
          record {
            tree = record { first_declaration = y; other_declarations = ys; predicate = c.tree };
            grouped = c.grouped;
            symbols =
                (fixed-at text κ a l).steps
                ∙ ap (λ (u : List Symbol). fixed κ ∷ u) (z ∙ ap (plain_declarations (y ∷ ys)) ((fixed-at text kind.WHERE d (omega arith)).steps ∙ ap (λ (u : List Symbol). fixed kind.WHERE ∷ u) c.symbols));
            width = let q = c.width in omega arith;
            nodes =
                ap (λ (x : List ℕ). node 5 i 0 0 ++ x)
                (ap₂ ◌++◌ (moved (λ k. declaration_codes k (y ∷ ys) ρ) (i + 1) (suc i) o (omega arith))
                (moved (λ k. condition_codes k c.tree ρ) (j + 1) (i + 2 + length (write_declarations 0 (y ∷ ys) [])) c.nodes
                (let q = declarations-length 0 (y ∷ ys) [] in omega arith)));
          }

  pub state-tree : (κ : Kind) → 10 ≤ code_of κ → {word i j : ℕ} {n : List ℕ} → word ≡ code_of κ → Derived w ρ (a_state word) i j n → StateAt w ρ κ i j n
  unfolding code_of
  state-tree κ l q (state a b ds c d) = state-of κ l (a ∙ q) b (declarations-tree ds) c (condition-tree kind.END (omega arith) refl d)

  pub where-tree : (κ : Kind) → 10 ≤ code_of κ → {word i j : ℕ} {n : List ℕ} → word ≡ code_of κ → Derived w ρ (a_where word) i j n → WhereAt w ρ κ i j n
  unfolding code_of
  where-tree κ l {i = i} q (where_of a b d) =
      let c = condition-tree kind.END (omega arith) refl d in
      record {
        tree = c.tree;
        grouped = c.grouped;
        symbols =
            (fixed-at text κ (a ∙ q) l).steps
            ∙ ap (λ (u : List Symbol). fixed κ ∷ u) ((fixed-at text kind.WHERE b (omega arith)).steps ∙ ap (λ (u : List Symbol). fixed kind.WHERE ∷ u) c.symbols);
        width = let m = c.width in omega arith;
        nodes = moved (λ k. condition_codes k c.tree ρ) (i + 1 + 1) (i + 2) c.nodes (omega arith);
      }

  operation-of : {h i j k l : ℕ} {x m n o : List ℕ} → get_or (codes w) h 0 ≡ 43 → get_or (codes w) (h + 1) 0 ≡ 2 → ParametersAt w ρ (h + 1 + 1) i x
      → get_or (codes w) i 0 ≡ 38 → ConditionAt w ρ kind.CONCRETE (i + 1) j m → ConditionAt w ρ kind.END j k n → OperationsAt w ρ k l o
      → OperationsAt w ρ h l (node 8 h (name_code (codes w) (values ρ w) (h + 1)) 0 ++ (x ++ (m ++ (n ++ o))))
  unfolding operation_codes OperationsGrouped code_of
  operation-of {h} {i} {j} {k} a b xs c p q r =
      let t = plain_at text b in
      let y : Operation = record { title = t.letters; parameters = xs.tree; abstractly = p.tree; concretely = q.tree } in
      let wx = xs.width in let wp = p.width in let wq = q.width in
      let lx = parameters-length 0 0 xs.tree [] in
      record {
        tree = y ∷ r.tree;
        grouped = (p.grouped, q.grouped, r.grouped);
        symbols =
            (fixed-at text kind.OP a (omega arith)).steps
            ∙ ap (λ (u : List Symbol). fixed kind.OP ∷ u)
            (t.step.steps
            ∙ ap (λ (u : List Symbol). named t.letters no_ending ∷ u)
            (xs.symbols
            ∙ ap (plain_parameters xs.tree)
            ((fixed-at text kind.ABSTRACT c (omega arith)).steps
            ∙ ap (λ (u : List Symbol). fixed kind.ABSTRACT ∷ u)
            (p.symbols
            ∙ ap (λ (u : List Symbol). plain_pred p.tree (fixed kind.CONCRETE ∷ u))
            (q.symbols ∙ ap (λ (u : List Symbol). plain_pred q.tree (fixed kind.END ∷ u)) r.symbols)))));
        width = let wr = r.width in omega arith;
        nodes =
            headed refl t.number
            (ap₂ ◌++◌ (moved (λ z. parameter_codes z xs.tree ρ) (h + 1 + 1) (h + 2) xs.nodes (omega arith))
            (ap₂ ◌++◌ (moved (λ z. condition_codes z p.tree ρ) (i + 1) (abstractly_at h y) p.nodes (omega arith))
            (ap₂ ◌++◌ (moved (λ z. condition_codes z q.tree ρ) j (suc (abstractly_at h y) + pred_width p.tree) q.nodes (omega arith))
            (moved (λ z. operation_codes z r.tree ρ) k (h + operation_length y) r.nodes (let ly = operation-length y in omega arith)))));
      }

  pub operations-tree : {i j : ℕ} {n : List ℕ} → Derived w ρ some_operations i j n → OperationsAt w ρ i j n
  unfolding operation_codes OperationsGrouped code_of
  operations-tree {i = i} no_operations = record { tree = []; grouped = tt; symbols = refl; width = omega arith; nodes = refl }
  operations-tree (an_operation a b xs c p q r) =
      operation-of a b (parameters-tree xs) c (condition-tree kind.CONCRETE (omega arith) refl p) (condition-tree kind.END (omega arith) refl q) (operations-tree r)
