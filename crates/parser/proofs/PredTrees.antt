-- Predicates from their parts: one law for each way in which the form pass derives a predicate.
use mathlib.Core.Path.{◌≡◌, refl, ap, ◌∙◌}
use mathlib.Core.Bool.{Bool, true, false, cond}
use mathlib.Core.List.{List, ◌++◌, append_assoc}
use Prim.Native.Nat.{ℕ, ◌+◌, ◌≤◌}
use native.Mathlib.Omega.{arith}
use native.Mathlib.Numerals.{add-one}
use lib.Dec.{eqb}
use lib.ListN.{get_or}
use Rattle.lexical.specs.Kinds as kind
use Rattle.lexical.specs.Kinds.{code_of}
use Rattle.lexical.specs.Symbols.{Symbol, fixed}
use Rattle.form.specs.Tree.{Connective, and, or, implies, iff, truth, falsity, negation, paren, quantified, connected, compared, member, within, related}
use Rattle.form.specs.Form.{connective_level, left_level, right_level, pred_level, PredGrouped}
use Rattle.form.specs.Codes.{Numbering, node, pred_codes, domain_width}
use Rattle.form.proofs.PlainSymbols.{plain_pred}
use Rattle.form_nodes.specs.FormPromises.{codes, Classes, connectives, pred_starts, relations}
use Rattle.form_nodes.specs.Derivations.{name_code, range_node, domain_node, MemberAt, RangeAt, DomainAt}
use Rattle.parser.proofs.TextDossier.{values, Text}
use Rattle.parser.proofs.SymbolAt.{Step, fixed-at, plain_at}
use Rattle.parser.proofs.OperatorAt.{truth_kind, truth-at, not_at, comparison-at, membership-at, quantifier-at, connective-at}
use Rattle.parser.proofs.Spans.{TermIn, PredIn, term-width, pred-width}
use Rattle.parser.proofs.RangeTrees.{range-in, domain_in}

-- the least levels of the two sides of a connective of the level l
abbrev pub left_of : ℕ → ℕ
left_of l = cond (eqb l 2) 3 l

abbrev pub right_of : ℕ → ℕ
right_of l = cond (eqb l 2) 2 (l + 1)

left-level : (o : Connective) → left_level o ≡ left_of (connective_level o)
left-level and = refl
left-level or = refl
left-level implies = refl
left-level iff = refl

right-level : (o : Connective) → right_level o ≡ right_of (connective_level o)
right-level and = refl
right-level or = refl
right-level implies = refl
right-level iff = refl

module _ {w : List Symbol} {ρ : Numbering} (t : Text w ρ) where
  pub truth-in : {i : ℕ} → Classes pred_starts (get_or (codes w) i 0) 1 → PredIn w ρ 5 i (i + 1) (node 1 i (get_or (codes w) i 0) 0)
  unfolding PredGrouped plain_pred pred_codes
  truth-in {i} c = let s = truth-at t c in on s.sort s.step s.code
    where
      on : (b : Bool) → Step w i (fixed (truth_kind b)) → get_or (codes w) i 0 ≡ code_of (truth_kind b) → PredIn w ρ 5 i (i + 1) (node 1 i (get_or (codes w) i 0) 0)
      on true s q = record { tree = truth; grouped = tt; level = omega arith; ahead = omega arith; inside = s.inside; symbols = s.steps; nodes = cc }
      on false s q = record { tree = falsity; grouped = tt; level = omega arith; ahead = omega arith; inside = s.inside; symbols = s.steps; nodes = cc }

  pub denied-in : {i j : ℕ} {n : List ℕ} → Classes pred_starts (get_or (codes w) i 0) 2 → PredIn w ρ 5 (i + 1) j n → PredIn w ρ 5 i j (n ++ node 2 i 0 0)
  unfolding PredGrouped plain_pred pred_codes
  denied-in {i} c a =
      let s = not_at t c in
      let e = add-one i in
      record {
        tree = negation a.tree;
        grouped = (a.level, a.grouped);
        level = omega arith;
        ahead = let l = a.ahead in omega arith;
        inside = a.inside;
        symbols = cc;
        nodes = cc;
      }

  pub parenthesised-in : {i j : ℕ} {n : List ℕ} → get_or (codes w) i 0 ≡ 15 → PredIn w ρ 1 (i + 1) j n → get_or (codes w) j 0 ≡ 16 → PredIn w ρ 5 i (j + 1) n
  unfolding PredGrouped plain_pred pred_codes code_of
  parenthesised-in {i} p a q =
      let x = fixed-at t kind.open_paren p (omega arith) in
      let y = fixed-at t kind.close_paren q (omega arith) in
      let e = add-one i in
      record {
        tree = paren a.tree;
        grouped = a.grouped;
        level = omega arith;
        ahead = let l = a.ahead in omega arith;
        inside = y.inside;
        symbols = cc;
        nodes = cc;
      }

  pub quantified-in : {i j k : ℕ} {n : List ℕ} → get_or (codes w) i 0 ≡ 15 → 53 ≤ get_or (codes w) (i + 1) 0 → get_or (codes w) (i + 1) 0 ≤ 55 → get_or (codes w) (i + 1 + 1) 0 ≡ 2
      → get_or (codes w) (i + 1 + 1 + 1) 0 ≡ 10 → DomainAt (codes w) (i + 1 + 1 + 1 + 1) j → get_or (codes w) j 0 ≡ 14 → PredIn w ρ 1 (j + 1) k n → get_or (codes w) k 0 ≡ 16
      → PredIn w ρ 5 i (k + 1) ((n ++ domain_node (codes w) (values ρ w) (i + 1 + 1 + 1 + 1))
      ++ node 8 (i + 1) (name_code (codes w) (values ρ w) (i + 1 + 1)) (get_or (codes w) (i + 1) 0))
  unfolding PredGrouped plain_pred pred_codes code_of
  quantified-in {i} {j} {k} {n} o lo hi x c d s a q =
      let o = fixed-at t kind.open_paren o (omega arith) in
      let f = quantifier-at t lo hi in
      let x = plain_at t x in
      let c = fixed-at t kind.colon c (omega arith) in
      let d = domain_in t d in
      let s = fixed-at t kind.spot s (omega arith) in
      let q = fixed-at t kind.close_paren q (omega arith) in
      let e = add-one i in
      let g : i + 1 + 1 + 1 + 1 ≡ i + 4 = omega arith in
      let h : j + 1 ≡ i + 5 + domain_width d.tree = let y = d.width in omega arith in
      record {
        tree = quantified f.sort x.letters d.tree a.tree;
        grouped = a.grouped;
        level = omega arith;
        ahead = let l = a.ahead in let m = d.ahead in omega arith;
        inside = q.inside;
        symbols = cc;
        nodes = append_assoc n _ _ ∙ cc;
      }

  -- what stands behind the first term of a predicate
  pub compared-in : {h i j : ℕ} {m n : List ℕ} → TermIn w ρ 1 h i m → Classes relations (get_or (codes w) i 0) 1 → TermIn w ρ 1 (i + 1) j n
      → PredIn w ρ 5 h j (m ++ (n ++ node 4 i (get_or (codes w) i 0) 0))
  unfolding PredGrouped plain_pred pred_codes
  compared-in {h} {i} a c b =
      let o = comparison-at t c in
      let x = term-width a in
      let e = add-one i in
      record {
        tree = compared o.sort a.tree b.tree;
        grouped = (a.grouped, b.grouped);
        level = omega arith;
        ahead = let l = a.ahead in let k = b.ahead in omega arith;
        inside = b.inside;
        symbols = cc;
        nodes = cc;
      }

  pub belongs-in : {h i j : ℕ} {m n : List ℕ} → TermIn w ρ 1 h i m → MemberAt (codes w) i → TermIn w ρ 1 (i + 1) j n
      → PredIn w ρ 5 h j (m ++ (n ++ node 5 i (get_or (codes w) i 0) 0))
  unfolding PredGrouped plain_pred pred_codes
  belongs-in {h} {i} a c b =
      let o = membership-at t c in
      let x = term-width a in
      let e = add-one i in
      record {
        tree = member o.sort a.tree b.tree;
        grouped = (a.grouped, b.grouped);
        level = omega arith;
        ahead = let l = a.ahead in let k = b.ahead in omega arith;
        inside = b.inside;
        symbols = cc;
        nodes = cc;
      }

  pub within_in : {h i j : ℕ} {m : List ℕ} → TermIn w ρ 1 h i m → MemberAt (codes w) i → RangeAt (codes w) (i + 1) j
      → PredIn w ρ 5 h j (m ++ (range_node (codes w) (values ρ w) (i + 1) ++ node 6 i (get_or (codes w) i 0) 0))
  unfolding PredGrouped plain_pred pred_codes
  within_in {h} {i} a c r =
      let o = membership-at t c in
      let b = range-in t r in
      let x = term-width a in
      let e = add-one i in
      record {
        tree = within o.sort a.tree b.tree;
        grouped = a.grouped;
        level = omega arith;
        ahead = let l = a.ahead in let k = b.ahead in omega arith;
        inside = b.inside;
        symbols = cc;
        nodes = cc;
      }

  pub related-in : {h i j k : ℕ} {m m' n : List ℕ} → TermIn w ρ 1 h i m → get_or (codes w) i 0 ≡ 32 → TermIn w ρ 1 (i + 1) j m' → MemberAt (codes w) j → TermIn w ρ 1 (j + 1) k n
      → PredIn w ρ 5 h k (m ++ (m' ++ (n ++ node 7 j (get_or (codes w) j 0) 0)))
  unfolding PredGrouped plain_pred pred_codes code_of
  related-in {h} {i} {j} a p b c d =
      let p = fixed-at t kind.maplet p (omega arith) in
      let o = membership-at t c in
      let x = term-width a in
      let y = term-width b in
      let e = add-one i in
      let f = add-one j in
      record {
        tree = related o.sort a.tree b.tree d.tree;
        grouped = (a.grouped, b.grouped, d.grouped);
        level = omega arith;
        ahead = let l = a.ahead in let k = b.ahead in let g = d.ahead in omega arith;
        inside = d.inside;
        symbols = cc;
        nodes = cc;
      }

  -- a connective of the level l, and a predicate, behind a predicate
  pub connected-in : {min r l h i j : ℕ} {m n : List ℕ} → (a : PredIn w ρ min h i m) → left_of l ≤ pred_level a.tree → min ≤ l → Classes connectives (get_or (codes w) i 0) l → 1 ≤ l
      → (b : PredIn w ρ r (i + 1) j n) → right_of l ≤ pred_level b.tree
      → (c : PredIn w ρ min h j (m ++ (n ++ node 3 i (get_or (codes w) i 0) 0))) × (pred_level c.tree ≡ l)
  unfolding PredGrouped plain_pred pred_codes
  connected-in {i} a f g c k b v =
      let o = connective-at t c k in
      let x = pred-width a in
      let e = add-one i in
      let q = o.sort.1 in
      let y = left-level o.sort.0 ∙ ap left_of q in
      let z = right-level o.sort.0 ∙ ap right_of q in (
        record {
          tree = connected o.sort.0 a.tree b.tree;
          grouped = (omega arith, omega arith, a.grouped, b.grouped);
          level = omega arith;
          ahead = let l = a.ahead in let k = b.ahead in omega arith;
          inside = b.inside;
          symbols = cc;
          nodes = cc;
        },
        q,
      )
