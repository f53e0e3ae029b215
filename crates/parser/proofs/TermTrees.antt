-- Terms from their parts: one law for each way in which the form pass derives a term.
use mathlib.Core.Path.{◌≡◌, refl, ap, ◌∙◌, sym}
use mathlib.Core.Bool.{Bool, true, false, true≢false}
use mathlib.Core.List.{List, ◌∷◌, ◌++◌, append_assoc}
use Prim.Native.Nat.{ℕ, ◌+◌, ◌≤◌}
use native.Mathlib.Omega.{arith}
use native.Mathlib.Numerals.{add-one}
use lib.Dec.{eqb}
use lib.ListN.{length, drop, get_or}
use borrow.Author.Tests.{eq-eqb, ne_eqb}
use Rattle.lexical.specs.Kinds as kind
use Rattle.lexical.specs.Kinds.{code_of}
use Rattle.lexical.specs.Symbols as symbol
use Rattle.lexical.specs.Symbols.{Symbol, fixed, numeral}
use Rattle.form.specs.Tree.{Division, quotient, remainder}
use Rattle.form.specs.Tree.{number, name, group, prefix, binary, divided, listed, pairs, such, empty_set, empty_pairs, Items, only, also, Pairs, only_pair, also_pair}
use Rattle.form.specs.Written.{division_kind}
use Rattle.form.specs.Form.{term_level, TermGrouped, ItemsGrouped, PairsGrouped}
use Rattle.form.specs.Codes.{Numbering, node, term_codes, items_codes, pairs_codes, sign_of, division_number}
use Rattle.form.proofs.PlainSymbols.{plain_term, plain_items, plain_pairs}
use Rattle.form_nodes.specs.FormPromises.{codes, Classes, Starts, operators}
use Rattle.form_nodes.specs.Derivations.{name_code, magnitude_code, division_code, leaf_node, NameAt, EndAt}
use Rattle.form_nodes.specs.declared.kinds.Start.TheVariants.{Leaf, Prefix}
use Rattle.parser.proofs.TextDossier.{values, Text}
use Rattle.parser.proofs.SymbolAt.{Place, place, fixed-at, ending-code, named-at, name-at, plain_at}
use Rattle.parser.proofs.OperatorAt.{leaf-kind, prefix-at, operator-at, division-at}
use Rattle.parser.proofs.Spans.{TermIn, PredIn, term-width}
use Rattle.parser.proofs.RangeTrees.{end-in}

-- items, or pairs, up to their closing brace
pub record ItemsIn (w : List Symbol) (ρ : Numbering) (i j : ℕ) (n : List ℕ) : Type 0 where
  pub tree : Items
  pub grouped : ItemsGrouped tree
  pub ahead : i ≤ j
  pub inside : j ≤ length w
  pub symbols : drop i w ≡ plain_items tree (fixed kind.close_brace ∷ drop j w)
  pub nodes : n ≡ items_codes tree i ρ

pub record PairsIn (w : List Symbol) (ρ : Numbering) (i j : ℕ) (n : List ℕ) : Type 0 where
  pub tree : Pairs
  pub grouped : PairsGrouped tree
  pub ahead : i ≤ j
  pub inside : j ≤ length w
  pub symbols : drop i w ≡ plain_pairs tree (fixed kind.close_brace ∷ drop j w)
  pub nodes : n ≡ pairs_codes tree i ρ

division-code : (s : List ℕ) (i : ℕ) (o : Division) (b : Bool) → get_or s i 0 ≡ code_of (division_kind o) → eqb (get_or s (i + 1) 0) 29 ≡ b → division_code s i ≡ sign_of b + division_number o
unfolding division_code code_of
division-code s i quotient true q e = rw (ne_eqb (get_or s i 0) 62 (λ x. omega arith), e)
division-code s i quotient false q e = rw (ne_eqb (get_or s i 0) 62 (λ x. omega arith), e)
division-code s i remainder true q e = rw (eq-eqb (get_or s i 0) 62 q, e)
division-code s i remainder false q e = rw (eq-eqb (get_or s i 0) 62 q, e)

module _ {w : List Symbol} {ρ : Numbering} (t : Text w ρ) where
  pub leaf-in : {i : ℕ} → Starts (get_or (codes w) i 0) Leaf → TermIn w ρ 3 i (i + 1) (leaf_node (codes w) (values ρ w) i)
  unfolding TermGrouped plain_term term_codes leaf_node code_of
  leaf-in {i} s = on (get_or w i (fixed kind.END)) (place t i s.code)
    where
      on : (x : Symbol) → Place w ρ i x → TermIn w ρ 3 i (i + 1) (leaf_node (codes w) (values ρ w) i)
      on (fixed k) p = absurd (true≢false (sym p.spelled ∙ leaf-kind k s (sym p.code)))
      on (numeral n) p =
          record {
            tree = number n;
            grouped = tt;
            level = omega arith;
            ahead = omega arith;
            inside = p.step.inside;
            symbols = p.step.steps;
            nodes = rw (eq-eqb (get_or (codes w) i 0) 1 p.code) (ap (λ (c : ℕ). node 1 i c 0) p.value);
          }
      on (symbol.name x) p =
          let a = named-at p in
          record {
            tree = name a.name;
            grouped = tt;
            level = omega arith;
            ahead = omega arith;
            inside = a.step.inside;
            symbols = a.step.steps;
            nodes = rw (ne_eqb (get_or (codes w) i 0) 1 (λ e. let c = ending-code x.ending in let k = p.code in omega arith)) (ap (λ (c : ℕ). node 2 i c 0) a.number);
          }

  pub prefixed-in : {i j : ℕ} {n : List ℕ} → Starts (get_or (codes w) i 0) Prefix → TermIn w ρ 3 (i + 1) j n → TermIn w ρ 3 i j (n ++ node 3 i (get_or (codes w) i 0) 0)
  unfolding TermGrouped plain_term term_codes
  prefixed-in {i} s a =
      let o = prefix-at t s in
      let e = add-one i in
      record {
        tree = prefix o.sort a.tree;
        grouped = (a.level, a.grouped);
        level = omega arith;
        ahead = let l = a.ahead in omega arith;
        inside = a.inside;
        symbols = cc;
        nodes = cc;
      }

  pub bracketed-in : {i j : ℕ} {n : List ℕ} → get_or (codes w) i 0 ≡ 17 → TermIn w ρ 1 (i + 1) j n → get_or (codes w) j 0 ≡ 18 → TermIn w ρ 3 i (j + 1) n
  unfolding TermGrouped plain_term term_codes code_of
  bracketed-in {i} p a q =
      let x = fixed-at t kind.open_bracket p (omega arith) in
      let y = fixed-at t kind.close_bracket q (omega arith) in
      let e = add-one i in
      record {
        tree = group a.tree;
        grouped = a.grouped;
        level = omega arith;
        ahead = let l = a.ahead in omega arith;
        inside = y.inside;
        symbols = cc;
        nodes = cc;
      }

  pub listed_in : {i j : ℕ} {n : List ℕ} → get_or (codes w) i 0 ≡ 19 → ItemsIn w ρ (i + 1) j n → TermIn w ρ 3 i j (n ++ node 7 i 0 0)
  unfolding TermGrouped plain_term term_codes code_of
  listed_in {i} p a =
      let x = fixed-at t kind.open_brace p (omega arith) in
      let e = add-one i in
      record {
        tree = listed a.tree;
        grouped = a.grouped;
        level = omega arith;
        ahead = let l = a.ahead in omega arith;
        inside = a.inside;
        symbols = cc;
        nodes = cc;
      }

  pub paired-in : {i j : ℕ} {n : List ℕ} → get_or (codes w) i 0 ≡ 19 → PairsIn w ρ (i + 1) j n → TermIn w ρ 3 i j (n ++ node 8 i 0 0)
  unfolding TermGrouped plain_term term_codes code_of
  paired-in {i} p a =
      let x = fixed-at t kind.open_brace p (omega arith) in
      let e = add-one i in
      record {
        tree = pairs a.tree;
        grouped = a.grouped;
        level = omega arith;
        ahead = let l = a.ahead in omega arith;
        inside = a.inside;
        symbols = cc;
        nodes = cc;
      }

  pub such_in : {i j : ℕ} {n : List ℕ} → get_or (codes w) i 0 ≡ 19 → get_or (codes w) (i + 1) 0 ≡ 2 → get_or (codes w) (i + 1 + 1) 0 ≡ 10 → NameAt (codes w) (i + 1 + 1 + 1)
      → get_or (codes w) (i + 1 + 1 + 1 + 1) 0 ≡ 13 → PredIn w ρ 1 (i + 1 + 1 + 1 + 1 + 1) j n → get_or (codes w) j 0 ≡ 20
      → TermIn w ρ 3 i (j + 1) ((n ++ node 1 (i + 1 + 1 + 1) (name_code (codes w) (values ρ w) (i + 1 + 1 + 1)) 0) ++ node 6 i (name_code (codes w) (values ρ w) (i + 1)) 0)
  unfolding TermGrouped plain_term term_codes code_of
  such_in {i} {j} {n} o x c g b a q =
      let o = fixed-at t kind.open_brace o (omega arith) in
      let x = plain_at t x in
      let c = fixed-at t kind.colon c (omega arith) in
      let g = name-at t g in
      let b = fixed-at t kind.bar b (omega arith) in
      let q = fixed-at t kind.close_brace q (omega arith) in
      let e : i + 1 + 1 + 1 ≡ i + 3 = omega arith in
      let f : i + 1 + 1 + 1 + 1 + 1 ≡ i + 5 = omega arith in
      record {
        tree = such x.letters g.name a.tree;
        grouped = a.grouped;
        level = omega arith;
        ahead = let l = a.ahead in omega arith;
        inside = q.inside;
        symbols = cc;
        nodes = append_assoc n _ _ ∙ cc;
      }

  pub empty-one : {i : ℕ} → get_or (codes w) i 0 ≡ 47 → NameAt (codes w) (i + 1) → TermIn w ρ 3 i (i + 1 + 1) (node 9 i (name_code (codes w) (values ρ w) (i + 1)) 0)
  unfolding TermGrouped plain_term term_codes code_of
  empty-one {i} p g =
      let x = fixed-at t kind.EMPTY p (omega arith) in
      let g = name-at t g in
      record { tree = empty_set g.name; grouped = tt; level = omega arith; ahead = omega arith; inside = g.step.inside; symbols = cc; nodes = cc }

  pub empty-two : {i : ℕ} → get_or (codes w) i 0 ≡ 47 → NameAt (codes w) (i + 1) → NameAt (codes w) (i + 1 + 1)
      → TermIn w ρ 3 i (i + 1 + 1 + 1) (node 10 i (name_code (codes w) (values ρ w) (i + 1)) (name_code (codes w) (values ρ w) (i + 1 + 1)))
  unfolding TermGrouped plain_term term_codes code_of
  empty-two {i} p g h =
      let x = fixed-at t kind.EMPTY p (omega arith) in
      let g = name-at t g in
      let h = name-at t h in
      record { tree = empty_pairs g.name h.name; grouped = tt; level = omega arith; ahead = omega arith; inside = h.step.inside; symbols = cc; nodes = cc }

  -- the last item, and one before others
  pub items-end : {i j : ℕ} {m : List ℕ} → TermIn w ρ 1 i j m → get_or (codes w) j 0 ≡ 20 → ItemsIn w ρ i (j + 1) (m ++ node 1 0 0 0)
  unfolding TermGrouped plain_term term_codes code_of
  items-end a q =
      let q = fixed-at t kind.close_brace q (omega arith) in
      record { tree = only a.tree; grouped = a.grouped; ahead = let l = a.ahead in omega arith; inside = q.inside; symbols = cc; nodes = cc }

  pub items_more : {i j k : ℕ} {m n : List ℕ} → TermIn w ρ 1 i j m → get_or (codes w) j 0 ≡ 12 → ItemsIn w ρ (j + 1) k n → ItemsIn w ρ i k (m ++ (n ++ node 2 0 0 0))
  unfolding TermGrouped plain_term term_codes code_of
  items_more {i} {j} a q b =
      let q = fixed-at t kind.comma q (omega arith) in
      let x = term-width a in
      let e = add-one j in
      record {
        tree = also a.tree b.tree;
        grouped = (a.grouped, b.grouped);
        ahead = let l = a.ahead in let k = b.ahead in omega arith;
        inside = b.inside;
        symbols = cc;
        nodes = cc;
      }

  pub pairs_end : {i j k : ℕ} {m n : List ℕ} → TermIn w ρ 1 i j m → get_or (codes w) j 0 ≡ 32 → TermIn w ρ 1 (j + 1) k n → get_or (codes w) k 0 ≡ 20
      → PairsIn w ρ i (k + 1) (m ++ (n ++ node 1 0 0 0))
  unfolding TermGrouped plain_term term_codes code_of
  pairs_end {i} {j} a p b q =
      let p = fixed-at t kind.maplet p (omega arith) in
      let q = fixed-at t kind.close_brace q (omega arith) in
      let x = term-width a in
      let e = add-one j in
      record {
        tree = only_pair a.tree b.tree;
        grouped = (a.grouped, b.grouped);
        ahead = let l = a.ahead in let k = b.ahead in omega arith;
        inside = q.inside;
        symbols = cc;
        nodes = cc;
      }

  pub pairs-more : {i j k l : ℕ} {m m' n : List ℕ} → TermIn w ρ 1 i j m → get_or (codes w) j 0 ≡ 32 → TermIn w ρ 1 (j + 1) k m' → get_or (codes w) k 0 ≡ 12
      → PairsIn w ρ (k + 1) l n → PairsIn w ρ i l (m ++ (m' ++ (n ++ node 2 0 0 0)))
  unfolding TermGrouped plain_term term_codes code_of
  pairs-more {i} {j} {k} a p b q c =
      let p = fixed-at t kind.maplet p (omega arith) in
      let q = fixed-at t kind.comma q (omega arith) in
      let x = term-width a in
      let y = term-width b in
      let e = add-one j in
      let f = add-one k in
      record {
        tree = also_pair a.tree b.tree c.tree;
        grouped = (a.grouped, b.grouped, c.grouped);
        ahead = let l = a.ahead in let k = b.ahead in let h = c.ahead in omega arith;
        inside = c.inside;
        symbols = cc;
        nodes = cc;
      }

  -- a divisor, or an operator and a term, behind a term
  pub divided-in : {min o h i j : ℕ} {m : List ℕ} → (a : TermIn w ρ min h i m) → 2 ≤ term_level a.tree → min ≤ 2 → Classes operators (get_or (codes w) i 0) o → 3 ≤ o
      → EndAt (codes w) (i + 1) j → (b : TermIn w ρ min h j (m ++ node 4 i (magnitude_code (codes w) (values ρ w) (i + 1)) (division_code (codes w) i))) × (term_level b.tree ≡ 2)
  unfolding TermGrouped plain_term term_codes code_of
  divided-in {i} a g l c r e =
      let o = division-at t c r in
      let e = end-in t e in
      let x = term-width a in (
        record {
          tree = divided o.sort a.tree e.tree;
          grouped = (g, a.grouped);
          level = l;
          ahead = let l = a.ahead in let k = e.width in omega arith;
          inside = e.inside;
          symbols = cc;
          nodes = cc (division-code (codes w) i o.sort e.tree.negative o.code e.sign);
        },
        refl,
      )

  pub operated-in : {min o h i j : ℕ} {m n : List ℕ} → (a : TermIn w ρ min h i m) → o ≤ term_level a.tree → min ≤ o → Classes operators (get_or (codes w) i 0) o → 1 ≤ o → o ≤ 2
      → TermIn w ρ (o + 1) (i + 1) j n → (b : TermIn w ρ min h j (m ++ (n ++ node 5 i (get_or (codes w) i 0) 0))) × (term_level b.tree ≡ o)
  unfolding TermGrouped plain_term term_codes
  operated-in {i} a g l c r s b =
      let o = operator-at t c r s in
      let x = term-width a in
      let e = add-one i in
      let q = o.sort.1 in
      let v = b.level in (
        record {
          tree = binary o.sort.0 a.tree b.tree;
          grouped = (omega arith, omega arith, a.grouped, b.grouped);
          level = omega arith;
          ahead = let l = a.ahead in let k = b.ahead in omega arith;
          inside = b.inside;
          symbols = cc;
          nodes = cc;
        },
        q,
      )
