-- What the form pass derives is a dossier: the contents' entries, and the given sets.
use mathlib.Core.Path.{◌≡◌, refl, ap, ap₂, ◌∙◌}
use mathlib.Core.List.{List, [], ◌∷◌, ◌++◌}
use Prim.Native.Nat.{ℕ, suc, ◌+◌, ◌*◌, ◌≤◌}
use native.Mathlib.Omega.{arith}
use lib.ListN.{length, drop, get_or}
use Rattle.lexical.specs.Kinds as kind
use Rattle.lexical.specs.Kinds.{Kind, code_of}
use Rattle.lexical.specs.Symbols.{no_ending, Symbol, fixed}
use Rattle.form.specs.Tree.{Letters, Given}
use Rattle.form.specs.Headings.{given_length}
use Rattle.form.specs.Codes.{node, Numbering, entry_codes, element_codes, given_codes}
use Rattle.form.proofs.PlainSymbols.{named, plain_entries, plain_elements, plain_givens}
use Rattle.form_nodes.specs.FormPromises.{codes}
use Rattle.form_nodes.specs.Derivations.{name_code, Part, Derives, some_entries, some_elements, some_givens, no_entries, an_entry, no_elements, an_element, no_givens, a_given}
use Rattle.parser.proofs.TextDossier.{values, Text}
use Rattle.parser.proofs.SymbolAt.{fixed-at, plain_at}
use Rattle.form.proofs.Lengths.{givens_width, given-length}

abbrev pub Derived : List Symbol → Numbering → Part → (i j : ℕ) → List ℕ → Type 0
Derived w ρ x i j n = Derives (codes w) (values ρ w) x i j n

-- Where each part stands, from the symbol i up to the symbol j, with the nodes n. κ is the word that it begins with.
pub record EntriesAt (w : List Symbol) (ρ : Numbering) (κ : Kind) (shape i j : ℕ) (n : List ℕ) : Type 0 where
  pub tree : List Letters
  pub symbols : drop i w ≡ plain_entries κ tree (drop j w)
  pub width : j ≡ i + 2 * length tree
  pub nodes : n ≡ entry_codes shape i tree ρ

record ElementsAt (w : List Symbol) (ρ : Numbering) (i j : ℕ) (n : List ℕ) : Type 0 where
  tree : List Letters
  symbols : drop i w ≡ plain_elements tree (drop j w)
  width : j ≡ i + length tree
  nodes : n ≡ element_codes i tree ρ

pub record GivensAt (w : List Symbol) (ρ : Numbering) (i j : ℕ) (n : List ℕ) : Type 0 where
  pub tree : List Given
  pub symbols : drop i w ≡ plain_givens tree (drop j w)
  pub width : j ≡ i + givens_width tree
  pub nodes : n ≡ given_codes i tree ρ

-- nodes behind a node; nodes from a place that is written in another way
pub headed : {k i j a b : ℕ} {m n : List ℕ} → i ≡ j → a ≡ b → m ≡ n → node k i a 0 ++ m ≡ node k j b 0 ++ n
headed {k} p q e = λ t. node k (p t) (q t) 0 ++ e t

pub moved : (f : ℕ → List ℕ) (p q : ℕ) {n : List ℕ} → n ≡ f p → p ≡ q → n ≡ f q
moved f p q e g = e ∙ ap f g

module _ {w : List Symbol} {ρ : Numbering} (text : Text w ρ) where
  pub entries-tree : (κ : Kind) → 10 ≤ code_of κ → {word shape i j : ℕ} {n : List ℕ} → word ≡ code_of κ → Derived w ρ (some_entries word shape) i j n
      → EntriesAt w ρ κ shape i j n
  unfolding entry_codes
  entries-tree κ l {i = i} q no_entries = record { tree = []; symbols = refl; width = omega arith; nodes = refl }
  entries-tree κ l {shape = shape} {i = i} q (an_entry a b d) =
      let x = plain_at text b in
      let r = entries-tree κ l q d in
      record {
        tree = x.letters ∷ r.tree;
        symbols =
            (fixed-at text κ (a ∙ q) l).steps ∙ ap (λ (u : List Symbol). fixed κ ∷ u) (x.step.steps ∙ ap (λ (u : List Symbol). named x.letters no_ending ∷ u) r.symbols);
        width = let e = r.width in omega arith;
        nodes = headed (omega arith) x.number (moved (λ k. entry_codes shape k r.tree ρ) (i + 1 + 1) (i + 2) r.nodes (omega arith));
      }

  elements-tree : {i j : ℕ} {n : List ℕ} → Derived w ρ some_elements i j n → ElementsAt w ρ i j n
  unfolding element_codes
  elements-tree {i = i} no_elements = record { tree = []; symbols = refl; width = omega arith; nodes = refl }
  elements-tree {i = i} (an_element a d) =
      let x = plain_at text a in
      let r = elements-tree d in
      record {
        tree = x.letters ∷ r.tree;
        symbols = x.step.steps ∙ ap (λ (u : List Symbol). named x.letters no_ending ∷ u) r.symbols;
        width = let e = r.width in omega arith;
        nodes = headed refl x.number (moved (λ k. element_codes k r.tree ρ) (i + 1) (suc i) r.nodes (omega arith));
      }

  -- where a name stands at first, and a word behind, there is an element
  given-tree : {i j k : ℕ} {m n : List ℕ} → get_or (codes w) i 0 ≡ 37 → get_or (codes w) (i + 1) 0 ≡ 2 → get_or (codes w) (i + 1 + 1) 0 ≡ 2
      → ElementsAt w ρ (i + 1 + 1) j m → get_or (codes w) j 0 ≡ 44 → GivensAt w ρ (j + 1) k n
      → GivensAt w ρ i k (node 3 i (name_code (codes w) (values ρ w) (i + 1)) 0 ++ (m ++ n))
  unfolding given_codes element_codes code_of
  given-tree {i} {j} {k} {m} {n} a b c e d r = on e.tree e.symbols e.width e.nodes
    where
      on : (xs : List Letters) → drop (i + 1 + 1) w ≡ plain_elements xs (drop j w) → j ≡ i + 1 + 1 + length xs → m ≡ element_codes (i + 1 + 1) xs ρ
          → GivensAt w ρ i k (node 3 i (name_code (codes w) (values ρ w) (i + 1)) 0 ++ (m ++ n))
      on [] y z o = let q : get_or (codes w) j 0 ≡ 2 = ap (λ (k : ℕ). get_or (codes w) k 0) (omega arith) ∙ c in absurd (omega arith)
      on (y ∷ ys) z v o =
          let x = plain_at text b in
          let g : Given = record { title = x.letters; first_element = y; other_elements = ys } in
          record {
            tree = g ∷ r.tree;
            symbols =
                (fixed-at text kind.GIVEN a (omega arith)).steps
                ∙ ap (λ (u : List Symbol). fixed kind.GIVEN ∷ u)
                (x.step.steps
                ∙ ap (λ (u : List Symbol). named x.letters no_ending ∷ u)
                (z ∙ ap (plain_elements (y ∷ ys)) ((fixed-at text kind.END d (omega arith)).steps ∙ ap (λ (u : List Symbol). fixed kind.END ∷ u) r.symbols)));
            width = let q = r.width in omega arith;
            nodes =
                headed refl x.number
                (ap₂ ◌++◌ (moved (λ k. element_codes k (y ∷ ys) ρ) (i + 1 + 1) (i + 2) o (omega arith))
                (moved (λ k. given_codes k r.tree ρ) (j + 1) (i + given_length g) r.nodes (let q = given-length g in omega arith)));
          }

  pub givens-tree : {i j : ℕ} {n : List ℕ} → Derived w ρ some_givens i j n → GivensAt w ρ i j n
  unfolding given_codes
  givens-tree {i = i} no_givens = record { tree = []; symbols = refl; width = omega arith; nodes = refl }
  givens-tree (a_given a b c d e r) = given-tree a b c (elements-tree d) e (givens-tree r)
