-- What was read of a text, by the answer: the dossier that it is, with its arrays, or its fault. A text over 32,768 bytes is refused by its length alone. Assumes nothing.
use mathlib.Core.Path.{◌≡◌, refl, sym, ap, ◌∙◌, subst}
use mathlib.Core.Bool.{Bool, cond}
use mathlib.Core.List.{List, [], ◌∷◌}
use Prim.Native.Nat.{ℕ, ◌<◌, ◌≤◌}
use native.Mathlib.Decide.{dec_lt}
use native.Mathlib.Omega.{arith}
use borrow.Author.Tests.{lt-ltb}
use lib.ListN.{length}
use Rattle.std.specs.Prelude.{Result, Ok, Err}
use Rattle.refusals.specs.Refusals.{fault, lesser, least, long_text}
use Rattle.refusals.specs.RefusalNames.{fault_is}
use Rattle.refusals.specs.declared.Fault.{Fault}
use Rattle.lexical.specs.Symbols.{length_faults}
use Rattle.form.specs.Tree.{Dossier}
use Rattle.static_rules.specs.Read.{Reading, refusal, reading, pass, read_symbols, read}
pub use Rattle.reader.proofs.ReadGives.{IsRefusal}
use Rattle.text_readings.specs.TextPromises.{Held, Faults, ReadAs, ReadsText}

-- 1. "Text over 32,768 bytes; place 32,768."
pub long-read : (t : List ℕ) → 32768 < length t → read t ≡ refusal (fault 32768 long_text)
unfolding read length_faults least lesser
long-read t h = ap (λ (x : Bool). pass (least (cond x (fault 32768 long_text ∷ []) [])) (read_symbols t)) (lt-ltb 32768 (length t) h)

pub read_short : (t : List ℕ) {d : Dossier} → read t ≡ reading d → length t ≤ 32768
read_short t e = elim (dec_lt 32768 (length t)) [ yes h ↦ absurd (subst IsRefusal (sym (long-read t h) ∙ e) tt) | no h ↦ omega arith ]

abbrev many_in : Result ℕ Fault → ℕ
many_in (Ok m) = m
many_in (Err f) = 0

abbrev IsFault : Result ℕ Fault → Type 0
IsFault (Ok m) = ⊥
IsFault (Err f) = Unit {0}

pub record TextHeld (text table rows firsts groups labels : List ℕ) (m : ℕ) : Type 0 where
  pub dossier : Dossier
  pub reads : read text ≡ reading dossier
  pub many : m ≡ length dossier.operations
  pub held : Held text table rows firsts groups labels dossier

module _ {text table rows firsts groups labels : List ℕ} {x : Result ℕ Fault} (h : ReadsText text table rows firsts groups labels x) where
  pub text-held : {m : ℕ} → x ≡ Ok m → TextHeld text table rows firsts groups labels m
  unfolding ReadAs
  text-held {m} e = on (read text) refl h.answer
    where
      on : (r : Reading) → read text ≡ r → ReadAs text table rows firsts groups labels r x → TextHeld text table rows firsts groups labels m
      on (refusal f) q a = absurd (subst (Faults f) e a)
      on (reading d) q a = record { dossier = d; reads = q; many = ap many_in (sym e ∙ a.0); held = a.1 }

  pub text-faulty : {f : Fault} → x ≡ Err f → read text ≡ refusal (fault_is f)
  unfolding ReadAs
  text-faulty {f} e = on (read text) refl h.answer
    where
      on : (r : Reading) → read text ≡ r → ReadAs text table rows firsts groups labels r x → read text ≡ refusal (fault_is f)
      on (refusal g) q a = q ∙ ap refusal (sym (subst (Faults g) e a))
      on (reading d) q a = absurd (subst IsFault (sym e ∙ a.0) tt)
