-- The first fault that the pass for names finds in a text without faults of form is the least one of the definitions.
use mathlib.Core.Path.{◌≡◌, refl, ◌∙◌}
use mathlib.Core.Bool.{Bool, true, false, cond}
use mathlib.Core.List.{List, map}
use Prim.Native.Nat.{ℕ, ◌≤◌, ◌<◌}
use native.Mathlib.Omega.{arith}
use lib.Dec.{eqb}
use lib.ListN.{length, get_or, replicate, length-replicate}
use borrow.Author.Tests.{eqb-true, eqb-false}
use Rattle.lexical.specs.Promises.{Scans}
use Rattle.std.specs.Prelude.{Ok}
use Rattle.form.specs.Tree.{Dossier}
use Rattle.form.specs.Form.{Forms}
use Rattle.form.specs.Headings.{givens_at}
use Rattle.parser.specs.Promises.{text_symbols, numbering}
use Rattle.parser.proofs.Texts.{known}
use Rattle.static_rules.specs.Carriers.{size_of}
use Rattle.static_rules.specs.Names.{name_faults}
use Rattle.type_rules.specs.TypesByNumber.{Names, Sizes, entry, least_key}
use Rattle.declared_names.specs.NamesByNumber.{givens_key, dossier_key}
use Rattle.names.proofs.ReachTables.{Numbered}
use Rattle.names.proofs.PassAgrees.{passed}
use Rattle.reader.specs.Occurrences.{Occurs}
use Rattle.reader.proofs.TextLetters.{occurs-numbered, dossier-in}
use Rattle.reader.proofs.FewGivens.{forms-fewer}
use Rattle.lexical.proofs.Zeros.{zero-at}

-- the sizes of the given sets stand in z
abbrev pub Sizing : Dossier → Sizes → Type 0
Sizing d z = (k : ℕ) → k < length d.givens → get_or z k 0 ≡ get_or (map size_of d.givens) k 0

-- the sizes do not matter where the given sets have a fault
sizeless : (a b c : ℕ) → (a ≡ 0 → ⊥) → cond (eqb a 0) b a ≡ cond (eqb a 0) c a
sizeless a b c h = on (eqb a 0) refl
  where
    on : (t : Bool) → eqb a 0 ≡ t → cond t b a ≡ cond t c a
    on true e = absurd (h (eqb-true a 0 e))
    on false e = refl

fault-first : (d : Dossier) (T : Names) (z z' : Sizes) (text : List ℕ) → (givens_key d.givens 0 T (numbering text) (givens_at d) ≡ 0 → ⊥)
    → dossier_key d T (numbering text) z ≡ dossier_key d T (numbering text) z'
unfolding dossier_key
fault-first d T z z' text h = sizeless (givens_key d.givens 0 T (numbering text) (givens_at d)) _ _ h

module _ (text : List ℕ) {codes₀ starts₀ values₀ coded starts valued : List ℕ} {n : ℕ} (scans : Scans text codes₀ starts₀ values₀ coded starts valued (Ok n)) where
  -- the letters that occur in a text have numbers of their own
  pub letters-numbered : Numbered (numbering text) (Occurs text)
  letters-numbered = occurs-numbered text (known scans).symbols_are (known scans).tells

  pub names-least : {d : Dossier} → Forms (text_symbols text) d → (T : Names) → 16384 ≤ length T → ((x : ℕ) → entry T x ≡ 0) → (z : Sizes) → Sizing d z
      → dossier_key d T (numbering text) z ≡ least_key (name_faults d)
  names-least {d} f T long empty z sizes = passed (numbering text) (Occurs text) letters-numbered d (dossier-in text f) T long empty z sizes (forms-fewer f).sets

  -- from a table of names that are free; the sizes are those of the given sets once these have no fault
  pub names-from-free : {d : Dossier} → Forms (text_symbols text) d → (m : ℕ) → 16384 ≤ m → (z : Sizes)
      → (givens_key d.givens 0 (replicate m 0) (numbering text) (givens_at d) ≡ 0 → Sizing d z) → dossier_key d (replicate m 0) (numbering text) z ≡ least_key (name_faults d)
  names-from-free {d} f m long z sizes = on (eqb (givens_key d.givens 0 (replicate m 0) (numbering text) (givens_at d)) 0) refl
    where
      least_by : (s : Sizes) → Sizing d s → dossier_key d (replicate m 0) (numbering text) s ≡ least_key (name_faults d)
      least_by s h = names-least f (replicate m 0) (omega (arith, length-replicate {A = ℕ} m 0)) (zero-at m) s h

      on : (t : Bool) → eqb (givens_key d.givens 0 (replicate m 0) (numbering text) (givens_at d)) 0 ≡ t
          → dossier_key d (replicate m 0) (numbering text) z ≡ least_key (name_faults d)
      on true e = least_by z (sizes (eqb-true _ 0 e))
      on false e = fault-first d (replicate m 0) z (map size_of d.givens) text (eqb-false _ 0 e) ∙ least_by (map size_of d.givens) (λ k l. refl)
