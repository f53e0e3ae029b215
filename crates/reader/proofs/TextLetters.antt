-- The letters of a text, that each has a number of its own, and that those of a dossier are among them.
use mathlib.Core.Path.{◌≡◌, refl, ap, ◌∙◌, sym, subst}
use mathlib.Core.Bool.{true}
use mathlib.Core.List.{List, [], ◌∷◌}
use Prim.Native.Nat.{ℕ, zero, suc, ◌≤◌}
use lib.ListN.{get_or}
use Rattle.lexical.specs.Kinds as kind
use Rattle.lexical.specs.Symbols.{Symbol, fixed, numeral, name}
use Rattle.lexical.specs.Lists.{all}
use Rattle.lexical.proofs.FoundSymbols.{scan-has}
use Rattle.form.specs.Tree.{Letters, Dossier}
use Rattle.form.specs.Form.{Forms}
use Rattle.parser.specs.Promises.{text_symbols, numbering}
use Rattle.parser.specs.Sections.{Tells}
use Rattle.parser.proofs.TextDossier.{Small, Text}
use Rattle.names.proofs.ReachTables.{Numbered}
use Rattle.names.proofs.PassAgrees.{DossierIn}
use Rattle.reader.specs.Occurrences.{Occurs, Fits, AllFit, none_fit, one_fits}
use Rattle.reader.proofs.DossierLetters.{symbols-in}

all_fit : (P : Letters → Type 0) (w : List Symbol) → ((i : ℕ) → Fits P (get_or w i (fixed kind.END))) → AllFit P w
all_fit P [] h = none_fit
all_fit P (s ∷ w) h = one_fits (h 0) (all_fit P w (λ i. h (suc i)))

module _ (text : List ℕ) where
  pub occurs-numbered : Text (text_symbols text) (numbering text) → Tells (numbering text) (text_symbols text) → Numbered (numbering text) (Occurs text)
  occurs-numbered known tells =
      record {
        small = λ x p. subst (λ (a : Letters). numbering text a ≤ 4095) p.spelt (subst (Small (numbering text)) p.stands (known.small p.at));
        own = λ x y p q e.
            sym p.spelt ∙ tells p.called q.called p.at q.at p.stands q.stands (ap (numbering text) p.spelt ∙ e ∙ sym (ap (numbering text) q.spelt)) ∙ q.spelt;
      }

-- every number of a text is at most 1,000
text_small : (text : List ℕ) (i : ℕ) → Fits (λ x. Unit {0}) (get_or (text_symbols text) i (fixed kind.END))
unfolding all
text_small text =
    scan-has (Fits (λ x. Unit {0})) (λ k. true) (λ k h. tt) (λ n h. h) (λ x. tt) refl refl (λ w. (i : ℕ) → Fits (λ x. Unit {0}) (get_or w i (fixed kind.END))) (λ i. tt) more text
  where
    more : (s : Symbol) (w : List Symbol) → Fits (λ x. Unit {0}) s → ((i : ℕ) → Fits (λ x. Unit {0}) (get_or w i (fixed kind.END))) → (i : ℕ)
        → Fits (λ x. Unit {0}) (get_or (s ∷ w) i (fixed kind.END))
    more s w h r zero = h
    more s w h r (suc i) = r i

text-fits : (text : List ℕ) → AllFit (Occurs text) (text_symbols text)
text-fits text = all_fit (Occurs text) (text_symbols text) (λ i. on i (get_or (text_symbols text) i (fixed kind.END)) refl (text_small text i))
  where
    on : (i : ℕ) (s : Symbol) → get_or (text_symbols text) i (fixed kind.END) ≡ s → Fits (λ x. Unit {0}) s → Fits (Occurs text) s
    on i (fixed k) e h = tt
    on i (numeral n) e h = h
    on i (name x) e h = record { at = i; called = x; stands = e; spelt = refl }

-- every name of a dossier occurs in the text that it is read from
pub dossier-in : (text : List ℕ) {d : Dossier} → Forms (text_symbols text) d → DossierIn (Occurs text) d
dossier-in text {d} f = symbols-in (Occurs text) d (subst (AllFit (Occurs text)) (sym f.whole.symbols) (text-fits text))
