-- Ends, ranges, domains and types that the form pass derives are trees.
use mathlib.Core.Path.{◌≡◌, refl, ap, ◌∙◌}
use mathlib.Core.Bool.{Bool, true, false, cond}
use mathlib.Core.List.{List}
use Prim.Native.Nat.{ℕ, ◌+◌, ◌-◌, ◌≤◌, ◌<◌}
use native.Mathlib.Omega.{arith}
use lib.Dec.{eqb}
use lib.ListN.{length, drop, get_or}
use borrow.Author.Tests.{le-ltb, le-leb, lt-leb, eq-eqb, ne_eqb}
use Rattle.lexical.specs.Kinds as kind
use Rattle.lexical.specs.Kinds.{code_of}
use Rattle.lexical.specs.Symbols.{Symbol}
use Rattle.form.specs.Tree.{End, Range, Domain, given_set, range, Arrow, relation, partial, total, TypeForm, given_type, power_type, range_type, arrow_type}
use Rattle.form.specs.Written.{arrow_kind}
use Rattle.form.specs.Codes.{Numbering, node, end_width, end_number, range_codes, domain_codes, domain_width, type_width, type_codes, arrow_number}
use Rattle.form.proofs.PlainSymbols.{plain_end, plain_range, plain_domain, plain_type}
use Rattle.form_nodes.specs.FormPromises.{codes}
use Rattle.form_nodes.specs.Derivations.{name_code, lowered, raised, end_code, magnitude_code, range_node, is_name_code, domain_node, EndAt, positive, negative, RangeAt, ranges}
use Rattle.form_nodes.specs.Derivations.{DomainAt, Derives, a_type}
use Rattle.form_nodes.specs.Derivations as derived
use Rattle.parser.proofs.TextDossier.{values, Text}
use Rattle.parser.proofs.SymbolAt.{fixed-at, number_at, name-at}
use Rattle.parser.proofs.OperatorAt.{arrow-at}
use Rattle.parser.proofs.Spans.{domain_apart, type-apart}

-- an end of a range, or a divisor, with its sign and numbers
pub record EndIn (w : List Symbol) (ρ : Numbering) (i j : ℕ) : Type 0 where
  pub tree : End
  pub inside : j ≤ length w
  pub symbols : drop i w ≡ plain_end tree (drop j w)
  pub width : j ≡ i + end_width tree
  pub sign : eqb (get_or (codes w) i 0) 29 ≡ tree.negative
  pub number : end_code (codes w) (values ρ w) i ≡ end_number tree
  pub magnitude : magnitude_code (codes w) (values ρ w) i ≡ tree.magnitude
  pub unnamed : is_name_code (get_or (codes w) i 0) ≡ false

pub record RangeIn (w : List Symbol) (ρ : Numbering) (i j : ℕ) : Type 0 where
  pub tree : Range
  pub ahead : i ≤ j
  pub inside : j ≤ length w
  pub symbols : drop i w ≡ plain_range tree (drop j w)
  pub nodes : range_node (codes w) (values ρ w) i ≡ range_codes tree i
  pub unnamed : is_name_code (get_or (codes w) i 0) ≡ false

pub record DomainIn (w : List Symbol) (ρ : Numbering) (i j : ℕ) : Type 0 where
  pub tree : Domain
  pub ahead : i ≤ j
  pub inside : j ≤ length w
  pub symbols : drop i w ≡ plain_domain tree (drop j w)
  pub width : j ≡ i + domain_width tree
  pub nodes : domain_node (codes w) (values ρ w) i ≡ domain_codes tree i ρ

pub record TypeIn (w : List Symbol) (ρ : Numbering) (i j : ℕ) (n : List ℕ) : Type 0 where
  pub tree : TypeForm
  pub symbols : drop i w ≡ plain_type tree (drop j w)
  pub width : j ≡ i + type_width tree
  pub nodes : n ≡ type_codes tree i ρ

unnamed-low : (k : ℕ) → k < 2 → is_name_code k ≡ false
unnamed-low k l = rw (lt-leb 2 k l)

unnamed-high : (k : ℕ) → 5 < k → is_name_code k ≡ false
unnamed-high k l = rw (le-leb 2 k (omega arith), lt-leb k 5 l)

named-code : (k : ℕ) → 2 ≤ k → k ≤ 5 → is_name_code k ≡ true
named-code k a b = rw (le-leb 2 k a, le-leb k 5 b)

raised-small : (v x : ℕ) → v ≡ x → x ≤ 1000 → raised v ≡ 1000 + x
raised-small v x e l = rw (le-ltb 1000 v (omega arith)) (omega arith)

lowered-small : (v x : ℕ) → v ≡ x → x ≤ 1000 → lowered v ≡ 1000 - x
lowered-small v x e l = rw (le-ltb 1000 v (omega arith)) (omega arith)

range-node : (s ν : List ℕ) (i j : ℕ) (b : Bool) → eqb (get_or s i 0) 29 ≡ b → j ≡ i + cond b 2 1 → range_node s ν i ≡ node 2 j (end_code s ν i) (end_code s ν (j + 1))
unfolding range_node
range-node s ν i j true e q = let a : i + 2 ≡ j = omega arith in let b : i + 3 ≡ j + 1 = omega arith in rw (e, a, b)
range-node s ν i j false e q = let a : i + 1 ≡ j = omega arith in let b : i + 2 ≡ j + 1 = omega arith in rw (e, a, b)

module _ {w : List Symbol} {ρ : Numbering} (t : Text w ρ) where
  pub end-in : {i j : ℕ} → EndAt (codes w) i j → EndIn w ρ i j
  unfolding end_code magnitude_code code_of
  end-in (positive {i} q) =
      let n = number_at t q in
      let e : eqb (get_or (codes w) i 0) 29 ≡ false = ne_eqb (get_or (codes w) i 0) 29 (λ x. omega arith) in
      record {
        tree = record { negative = false; magnitude = n.number };
        inside = n.step.inside;
        symbols = n.step.steps;
        width = refl;
        sign = e;
        number = rw e (raised-small (get_or (values ρ w) i 0) n.number n.value n.small);
        magnitude = rw e n.value;
        unnamed = unnamed-low (get_or (codes w) i 0) (omega arith);
      }
  end-in (negative {i} p q) =
      let m = fixed-at t kind.minus p (omega arith) in
      let n = number_at t q in
      let e : eqb (get_or (codes w) i 0) 29 ≡ true = eq-eqb (get_or (codes w) i 0) 29 p in
      record {
        tree = record { negative = true; magnitude = n.number };
        inside = n.step.inside;
        symbols = cc;
        width = omega arith;
        sign = e;
        number = rw e (lowered-small (get_or (values ρ w) (i + 1) 0) n.number n.value n.small);
        magnitude = rw e n.value;
        unnamed = unnamed-high (get_or (codes w) i 0) (omega arith);
      }

  pub range-in : {i j : ℕ} → RangeAt (codes w) i j → RangeIn w ρ i j
  unfolding code_of
  range-in (ranges {i} {j} {k} x q y) =
      let a = end-in x in
      let b = end-in y in
      let s = fixed-at t kind.up_to q (omega arith) in
      record {
        tree = record { lower = a.tree; upper = b.tree };
        ahead = omega arith;
        inside = b.inside;
        symbols = cc;
        nodes = range-node (codes w) (values ρ w) i j a.tree.negative a.sign a.width ∙ cc;
        unnamed = a.unnamed;
      }

  pub domain_in : {i j : ℕ} → DomainAt (codes w) i j → DomainIn w ρ i j
  unfolding domain_node
  domain_in (derived.DomainAt.over_name {i} x) =
      let g = name-at t x in
      let l : i + 1 ≤ length w = g.step.inside in
      record {
        tree = given_set g.name;
        ahead = omega arith;
        inside = l;
        symbols = g.step.steps;
        width = domain_apart w (omega arith) l (given_set g.name) g.step.steps;
        nodes = rw (named-code (get_or (codes w) i 0) x.low x.high) (ap (λ (c : ℕ). node 1 i c 0) g.number);
      }
  domain_in (derived.DomainAt.over_range {i} x) =
      let r = range-in x in
      record {
        tree = range r.tree;
        ahead = r.ahead;
        inside = r.inside;
        symbols = r.symbols;
        width = domain_apart w r.ahead r.inside (range r.tree) r.symbols;
        nodes = rw r.unnamed r.nodes;
      }

  type-of : {i j : ℕ} {n : List ℕ} → i ≤ j → j ≤ length w → (f : TypeForm) → drop i w ≡ plain_type f (drop j w) → n ≡ type_codes f i ρ → TypeIn w ρ i j n
  type-of a b f e q = record { tree = f; symbols = e; width = type-apart w a b f e; nodes = q }

  arrow-code : (a : Arrow) → code_of (arrow_kind a) - 29 ≡ arrow_number a
  unfolding code_of
  arrow-code relation = refl
  arrow-code partial = refl
  arrow-code total = refl

  pub type-in : {i j : ℕ} {n : List ℕ} → Derives (codes w) (values ρ w) a_type i j n → TypeIn w ρ i j n
  unfolding code_of
  type-in (derived.Derives.over_given {i} x) =
      let g = name-at t x in
      type-of (omega arith) g.step.inside (given_type g.name) g.step.steps (ap (λ (c : ℕ). node 1 i c 0) g.number)
  type-in (derived.Derives.over_range x) =
      let r = range-in x in
      type-of r.ahead r.inside (range_type r.tree) r.symbols r.nodes
  type-in (derived.Derives.over_sets {i} p x) =
      let s = fixed-at t kind.POWER p (omega arith) in
      let g = name-at t x in
      type-of (omega arith) g.step.inside (power_type g.name) (cc) (ap (λ (c : ℕ). node 3 i c 0) g.number)
  type-in (derived.Derives.over_pairs {i} x lo hi y) =
      let g = name-at t x in
      let a = arrow-at t lo hi in
      let h = name-at t y in
      type-of (omega arith) h.step.inside (arrow_type a.sort g.name h.name) (cc)
      (ap (λ (k : ℕ). node (k - 29) i (name_code (codes w) (values ρ w) i) (name_code (codes w) (values ρ w) (i + 1 + 1))) a.code ∙ cc (arrow-code a.sort))
