-- What the form pass derives of a whole text is a dossier.
use mathlib.Core.Path.{◌≡◌, refl, ap, ap₂, ◌∙◌, sym}
use mathlib.Core.List.{List, [], ◌∷◌, ◌++◌, append_assoc}
use Prim.Native.Nat.{ℕ, ◌+◌, ◌*◌, ◌≤◌}
use native.Mathlib.Omega.{arith}
use lib.ListN.{length, drop, get_or}
use lib.Seq.{drop-length}
use Rattle.lexical.specs.Kinds as kind
use Rattle.lexical.specs.Kinds.{Kind, code_of}
use Rattle.lexical.specs.Symbols.{Symbol, fixed}
use Rattle.form.specs.Tree.{Dossier}
use Rattle.form.specs.Written.{a_given, an_operation, bare, write_entries, write_contents}
use Rattle.form.specs.Form.{Grouped}
use Rattle.form.specs.Headings.{givens_at, abstract_at, concrete_at, ainit_at, cinit_at, retrieve_at, operations_at}
use Rattle.form.specs.Codes.{Numbering, pred_width, entry_codes, given_codes, state_codes, condition_codes, operation_codes, contents_codes, dossier_codes}
use Rattle.form.proofs.PlainSymbols.{plain_entries, plain_givens, plain_state, plain_where, plain_bodies, bodies_of, dossier-plain}
use Rattle.form_nodes.specs.FormPromises.{codes}
use Rattle.form_nodes.specs.Derivations.{Derives, a_dossier, dossier}
use Rattle.parser.proofs.TextDossier.{values, Text, DossierAt}
use Rattle.parser.proofs.SymbolAt.{fixed-at}
use Rattle.form.proofs.Lengths.{givens_width, givens-length}
use Rattle.parser.proofs.Widths.{entries-length, state_width, state-length, where-length}
use Rattle.parser.proofs.DossierEntries.{Derived, EntriesAt, GivensAt, moved, entries-tree, givens-tree}
use Rattle.parser.proofs.DossierBodies.{StateAt, WhereAt, OperationsAt, state-tree, where-tree, operations-tree}

-- the first symbol of each body
module _ (d : Dossier) where
  givens-at : givens_at d ≡ 7 + 2 * length d.given_entries + 2 * length d.operation_entries
  unfolding givens_at write_contents
  givens-at =
      let o = entries-length kind.OP an_operation 0 d.operation_entries (bare kind.END ∷ []) in
      let g = entries-length kind.GIVEN a_given 0 d.given_entries
      (bare kind.ABSTRACT ∷ bare kind.CONCRETE ∷ bare kind.AINIT ∷ bare kind.CINIT ∷ bare kind.RETRIEVE
      ∷ write_entries kind.OP an_operation 0 d.operation_entries (bare kind.END ∷ [])) in omega arith

  abstract-at : abstract_at d ≡ givens_at d + givens_width d.givens
  unfolding abstract_at
  abstract-at = let l = givens-length 0 d.givens [] in omega arith

  concrete-at : concrete_at d ≡ abstract_at d + 1 + state_width d.abstract
  unfolding concrete_at
  concrete-at = let l = state-length d.abstract [] in omega arith

  ainit-at : ainit_at d ≡ concrete_at d + 1 + state_width d.concrete
  unfolding ainit_at
  ainit-at = let l = state-length d.concrete [] in omega arith

  cinit-at : cinit_at d ≡ ainit_at d + 3 + pred_width d.ainit
  unfolding cinit_at
  cinit-at = let l = where-length d.ainit [] in omega arith

  retrieve-at : retrieve_at d ≡ cinit_at d + 3 + pred_width d.cinit
  unfolding retrieve_at
  retrieve-at = let l = where-length d.cinit [] in omega arith

  operations-at : operations_at d ≡ retrieve_at d + 3 + pred_width d.retrieve
  unfolding operations_at
  operations-at = let l = where-length d.retrieve [] in omega arith

-- the parts put together
module _ {w : List Symbol} {ρ : Numbering} (text : Text w ρ) {a b c d e f g h i : ℕ} {l m n o p q r t u : List ℕ}
    (xs : EntriesAt w ρ kind.GIVEN 1 1 a l) (ys : EntriesAt w ρ kind.OP 2 (a + 1 + 1 + 1 + 1 + 1) b m) (zs : GivensAt w ρ (b + 1) c n)
    (sa : StateAt w ρ kind.ABSTRACT c d o) (sc : StateAt w ρ kind.CONCRETE d e p) (wa : WhereAt w ρ kind.AINIT e f q) (wc : WhereAt w ρ kind.CINIT f g r)
    (wr : WhereAt w ρ kind.RETRIEVE g h t) (os : OperationsAt w ρ h i u) where
  made : Dossier
  made =
      record {
        given_entries = xs.tree;
        operation_entries = ys.tree;
        givens = zs.tree;
        abstract = sa.tree;
        concrete = sc.tree;
        ainit = wa.tree;
        cinit = wc.tree;
        retrieve = wr.tree;
        operations = os.tree;
      }

  made-grouped : Grouped made
  unfolding made
  made-grouped =
      record { abstract = sa.grouped; concrete = sc.grouped; ainit = wa.grouped; cinit = wc.grouped; retrieve = wr.grouped; operations = os.grouped }

  bodies-symbols : drop (b + 1) w ≡ plain_bodies (bodies_of made) (drop i w)
  unfolding made
  bodies-symbols =
      zs.symbols
      ∙ ap (plain_givens zs.tree)
      (sa.symbols
      ∙ ap (λ (v : List Symbol). fixed kind.ABSTRACT ∷ plain_state sa.tree v)
      (sc.symbols
      ∙ ap (λ (v : List Symbol). fixed kind.CONCRETE ∷ plain_state sc.tree v)
      (wa.symbols
      ∙ ap (λ (v : List Symbol). fixed kind.AINIT ∷ plain_where wa.tree v)
      (wc.symbols
      ∙ ap (λ (v : List Symbol). fixed kind.CINIT ∷ plain_where wc.tree v)
      (wr.symbols ∙ ap (λ (v : List Symbol). fixed kind.RETRIEVE ∷ plain_where wr.tree v) os.symbols)))))

  made-nodes : l ++ (m ++ (n ++ (o ++ (p ++ (q ++ (r ++ (t ++ u))))))) ≡ dossier_codes made ρ
  unfolding made dossier_codes contents_codes
  made-nodes =
      let ea = xs.width in
      let eb = ys.width in
      let ec : c ≡ abstract_at made = let k = zs.width in let v = givens-at made in let y = abstract-at made in omega arith in
      let ed : d ≡ concrete_at made = let k = sa.width in let v = concrete-at made in omega arith in
      let ee : e ≡ ainit_at made = let k = sc.width in let v = ainit-at made in omega arith in
      let ef : f ≡ cinit_at made = let k = wa.width in let v = cinit-at made in omega arith in
      let eg : g ≡ retrieve_at made = let k = wc.width in let v = retrieve-at made in omega arith in
      let eh : h ≡ operations_at made = let k = wr.width in let v = operations-at made in omega arith in
      ap₂ ◌++◌ xs.nodes
      (ap₂ ◌++◌ (moved (λ k. entry_codes 2 k ys.tree ρ) (a + 1 + 1 + 1 + 1 + 1) (6 + length (write_entries kind.GIVEN a_given 0 xs.tree [])) ys.nodes
      (let v = entries-length kind.GIVEN a_given 0 xs.tree [] in omega arith))
      (ap₂ ◌++◌ (moved (λ k. given_codes k zs.tree ρ) (b + 1) (givens_at made) zs.nodes (let v = givens-at made in omega arith))
      (ap₂ ◌++◌ (moved (λ k. state_codes k sa.tree ρ) c (abstract_at made) sa.nodes ec)
      (ap₂ ◌++◌ (moved (λ k. state_codes k sc.tree ρ) d (concrete_at made) sc.nodes ed)
      (ap₂ ◌++◌ (moved (λ k. condition_codes k wa.tree ρ) (e + 2) (ainit_at made + 2) wa.nodes (omega arith))
      (ap₂ ◌++◌ (moved (λ k. condition_codes k wc.tree ρ) (f + 2) (cinit_at made + 2) wc.nodes (omega arith))
      (ap₂ ◌++◌ (moved (λ k. condition_codes k wr.tree ρ) (g + 2) (retrieve_at made + 2) wr.nodes (omega arith))
      (moved (λ k. operation_codes k os.tree ρ) h (operations_at made) os.nodes eh))))))))
      ∙ sym (append_assoc (entry_codes 1 1 xs.tree ρ) _ _)

  -- the word at the place k, and the symbols behind it
  word : (κ : Kind) (k : ℕ) {v : List Symbol} → get_or (codes w) k 0 ≡ code_of κ → 10 ≤ code_of κ → drop (k + 1) w ≡ v → drop k w ≡ fixed κ ∷ v
  word κ k x y z = (fixed-at text κ {i = k} x y).steps ∙ ap (λ (s : List Symbol). fixed κ ∷ s) z

  made_at : get_or (codes w) 0 0 ≡ 36 → get_or (codes w) a 0 ≡ 38 → get_or (codes w) (a + 1) 0 ≡ 39 → get_or (codes w) (a + 1 + 1) 0 ≡ 40
      → get_or (codes w) (a + 1 + 1 + 1) 0 ≡ 41 → get_or (codes w) (a + 1 + 1 + 1 + 1) 0 ≡ 42 → get_or (codes w) b 0 ≡ 44 → drop i w ≡ []
      → DossierAt w ρ (l ++ (m ++ (n ++ (o ++ (p ++ (q ++ (r ++ (t ++ u))))))))
  unfolding made code_of
  made_at k₀ k₁ k₂ k₃ k₄ k₅ k₆ z =
      record {
        tree = made;
        whole =
            record {
              grouped = made-grouped;
              symbols =
                  dossier-plain made
                  ∙ sym (word kind.CONTENTS 0 k₀ (omega arith)
                  (xs.symbols
                  ∙ ap (plain_entries kind.GIVEN xs.tree)
                  (word kind.ABSTRACT a k₁ (omega arith)
                  (word kind.CONCRETE (a + 1) k₂ (omega arith)
                  (word kind.AINIT (a + 1 + 1) k₃ (omega arith)
                  (word kind.CINIT (a + 1 + 1 + 1) k₄ (omega arith)
                  (word kind.RETRIEVE (a + 1 + 1 + 1 + 1) k₅ (omega arith)
                  (ys.symbols
                  ∙ ap (plain_entries kind.OP ys.tree) (word kind.END b k₆ (omega arith) (bodies-symbols ∙ ap (plain_bodies (bodies_of made)) z))))))))));
            };
        nodes = made-nodes;
      }

-- up to the symbol i, where the text ends
dossier-of : {w : List Symbol} {ρ : Numbering} → Text w ρ → {i : ℕ} {n : List ℕ} → Derived w ρ a_dossier 0 i n → drop i w ≡ [] → DossierAt w ρ n
unfolding code_of
dossier-of text (dossier k₀ gs k₁ k₂ k₃ k₄ k₅ os k₆ bs s₁ s₂ w₁ w₂ w₃ ps) z =
    made_at text (entries-tree text kind.GIVEN (omega arith) refl gs) (entries-tree text kind.OP (omega arith) refl os) (givens-tree text bs)
    (state-tree text kind.ABSTRACT (omega arith) refl s₁) (state-tree text kind.CONCRETE (omega arith) refl s₂)
    (where-tree text kind.AINIT (omega arith) refl w₁) (where-tree text kind.CINIT (omega arith) refl w₂)
    (where-tree text kind.RETRIEVE (omega arith) refl w₃) (operations-tree text ps) k₀ k₁ k₂ k₃ k₄ k₅ k₆ z

pub dossier-tree : (w : List Symbol) (ρ : Numbering) → Text w ρ → {n : List ℕ} → Derives (codes w) (values ρ w) a_dossier 0 (length w) n → DossierAt w ρ n
dossier-tree w ρ text d = dossier-of text d (drop-length w)
