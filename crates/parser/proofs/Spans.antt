-- Where terms, predicates and types stand in a text: between two places, which are as far apart as the tree is wide.
use mathlib.Core.Path.{◌≡◌, ap, ◌∙◌, sym}
use mathlib.Core.List.{List, [], ◌++◌}
use Prim.Native.Nat.{ℕ, ◌+◌, ◌≤◌}
use native.Mathlib.Omega.{arith}
use lib.ListN.{length, drop, length-append, length-drop, length-map}
use Rattle.lexical.specs.Symbols.{Symbol}
use Rattle.form.specs.Tree.{Domain, Term, Pred, TypeForm}
use Rattle.form.specs.Written.{Written, write_domain, write_term, write_pred, write_type}
use Rattle.form.specs.Form.{term_level, pred_level, TermGrouped, PredGrouped}
use Rattle.form.specs.Codes.{Numbering, term_width, pred_width, domain_width, type_width, term_codes, pred_codes}
use Rattle.form.proofs.Takes.{symbols_in}
use Rattle.form.proofs.PlainSymbols.{plain_domain, plain_term, plain_pred, plain_type}
use Rattle.parser.proofs.SymbolsBehind.{domain-on, term-on, pred-on, type-on}

module _ (w : List Symbol) {i j : ℕ} (a : i ≤ j) (b : j ≤ length w) where
  -- what is written between two places
  apart : (u : List Written) → drop i w ≡ symbols_in u ++ drop j w → j ≡ i + length u
  apart u e =
      let n = length-map u (λ (x : Written). x.symbol) in
      let x : length (drop i w) ≡ length (symbols_in u) + length (drop j w) = ap length e ∙ length-append (symbols_in u) (drop j w) in
      let y = length-drop i w in
      let z = length-drop j w in omega arith

  pub domain_apart : (d : Domain) → drop i w ≡ plain_domain d (drop j w) → j ≡ i + domain_width d
  unfolding domain_width
  domain_apart d e = apart (write_domain d []) (e ∙ sym (domain-on d (drop j w)))

  pub type-apart : (t : TypeForm) → drop i w ≡ plain_type t (drop j w) → j ≡ i + type_width t
  unfolding type_width
  type-apart t e = apart (write_type t []) (e ∙ sym (type-on t (drop j w)))

  term-apart : (t : Term) → drop i w ≡ plain_term t (drop j w) → j ≡ i + term_width t
  unfolding term_width
  term-apart t e = apart (write_term t 0 0 []) (e ∙ sym (term-on t (drop j w)))

  pred_apart : (p : Pred) → drop i w ≡ plain_pred p (drop j w) → j ≡ i + pred_width p
  unfolding pred_width
  pred_apart p e = apart (write_pred p 0 0 []) (e ∙ sym (pred-on p (drop j w)))

-- A grouped term, or predicate, of the level min or a higher one from the symbol i up to the symbol j, with these nodes, by the plain writing. Its width follows.
pub record TermIn (w : List Symbol) (ρ : Numbering) (min i j : ℕ) (n : List ℕ) : Type 0 where
  pub tree : Term
  pub grouped : TermGrouped tree
  pub level : min ≤ term_level tree
  pub ahead : i ≤ j
  pub inside : j ≤ length w
  pub symbols : drop i w ≡ plain_term tree (drop j w)
  pub nodes : n ≡ term_codes tree i ρ

pub record PredIn (w : List Symbol) (ρ : Numbering) (min i j : ℕ) (n : List ℕ) : Type 0 where
  pub tree : Pred
  pub grouped : PredGrouped tree
  pub level : min ≤ pred_level tree
  pub ahead : i ≤ j
  pub inside : j ≤ length w
  pub symbols : drop i w ≡ plain_pred tree (drop j w)
  pub nodes : n ≡ pred_codes tree i ρ

module _ {w : List Symbol} {ρ : Numbering} {min i j : ℕ} {n : List ℕ} where
  pub term-width : (a : TermIn w ρ min i j n) → j ≡ i + term_width a.tree
  term-width a = term-apart w a.ahead a.inside a.tree a.symbols

  pub pred-width : (a : PredIn w ρ min i j n) → j ≡ i + pred_width a.tree
  pred-width a = pred_apart w a.ahead a.inside a.tree a.symbols
