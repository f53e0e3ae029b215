-- The passes for names, bindings and sizes one behind the other: the first fault, and what is answered.
use mathlib.Core.Path.{◌≡◌, refl, ap, ap₂, ◌∙◌, sym, subst}
use mathlib.Core.List.{List}
use mathlib.Core.Option.{Option, none, some, some-injective}
use Prim.Native.Nat.{ℕ}
use native.Mathlib.Omega.{arith}
use lib.ListN.{take, get_or}
use Rattle.std.specs.Prelude as rust
use Rattle.std.specs.Prelude.{Ok, Err}
use Rattle.lexical.specs.Symbols.{place_at}
use Rattle.refusals.specs.Refusals.{Fault, fault, least}
use Rattle.refusals.specs.RefusalNames.{refusal_is, fault_is}
use Rattle.refusals.specs.declared.Fault as refusals
use Rattle.parser.specs.Promises.{Parsed}
use Rattle.parser.specs.declared.Structure.{Structure}
use Rattle.lexical.specs.Promises.{first_of}
use Rattle.form.specs.Tree.{Dossier}
use Rattle.static_rules.specs.Names.{name_faults}
use Rattle.static_rules.specs.Limits.{binding_faults, size_faults}
use Rattle.static_rules.specs.Read as definition
use Rattle.static_rules.specs.Read.{reading, pass, located, read_sizes, read_bindings, names_read}
use Rattle.type_rules.specs.TypesByNumber.{key_of, fault_key}
use Rattle.type_rules.proofs.FaultOrder.{no-zero, key-decides}
use Rattle.reader.specs.Promises.{ReadIs, Stands, Named, Finds, first_fault, Faults, Checks}
use Rattle.reader.proofs.PassAnswers.{place_is, all-passed}

-- ---- the first fault ----

first_passes : (text : List ℕ) (a b c : Option Fault) (x : definition.Reading)
    → pass (located text a) (pass (located text b) (pass (located text c) x)) ≡ pass (located text (first_of a (first_of b c))) x
first_passes text (some f) b c x = refl
first_passes text none (some f) c x = refl
first_passes text none none c x = refl

read_names : (text : List ℕ) (d : Dossier) → names_read text d ≡ pass (located text (first_fault d)) (reading d)
unfolding names_read read_bindings read_sizes
read_names text d = first_passes text (least (name_faults d)) (least (binding_faults d)) (least (size_faults d)) (reading d)

first-none : (a b : Option Fault) → first_of a b ≡ none → a ≡ none
first-none none b e = refl
first-none (some f) b e = let z : key_of (some f) ≡ 0 = ap key_of e in absurd (omega arith)

decides : (a b : Option Fault) (k : ℕ) → k ≡ key_of a → (k ≡ 0 → ⊥) → k ≡ key_of (first_of a b)
decides none b k e h = absurd (h e)
decides (some f) b k e h = e

passed : (a b : Option Fault) (k l : ℕ) → k ≡ key_of a → k ≡ 0 → l ≡ key_of b → l ≡ key_of (first_of a b)
passed none b k l e z h = h
passed (some f) b k l e z h = let w : key_of (some f) ≡ 0 = sym e ∙ z in absurd (omega arith)

module _ (nodes : List ℕ) (m k : ℕ) (named : Named nodes m k) where
  -- 8 to 11 and 14
  pub names-decide : (k ≡ 0 → ⊥) → Faults nodes m k
  names-decide h text starts n d st = decides (least (name_faults d)) _ k (named text starts n d st) h

  module _ (no_name : k ≡ 0) (l : ℕ) (bound : Finds binding_faults nodes m l) where
    names-right : (text starts : List ℕ) (n : ℕ) (d : Dossier) → Stands text starts nodes n m d → least (name_faults d) ≡ none
    names-right text starts n d st = key-decides (least (name_faults d)) none (sym (named text starts n d st) ∙ no_name)

    -- 12
    pub bindings-decide : (l ≡ 0 → ⊥) → Faults nodes m l
    bindings-decide h text starts n d st =
        passed (least (name_faults d)) _ k l (named text starts n d st) no_name
        (decides (least (binding_faults d)) (least (size_faults d)) l (bound text starts n d st (names-right text starts n d st)) h)

    -- 13
    pub sizes-decide : l ≡ 0 → (j : ℕ) → Finds size_faults nodes m j → Faults nodes m j
    sizes-decide no-binding j measured text starts n d st =
        let right = names-right text starts n d st in
        passed (least (name_faults d)) _ k j (named text starts n d st) no_name
        (passed (least (binding_faults d)) (least (size_faults d)) l j (bound text starts n d st right) no-binding (measured text starts n d st right))

-- ---- the answer ----

module _ (K : Type 0) (W : List ℕ → Dossier → Type 0) (starts : List ℕ) (n end : ℕ) (nodes : List ℕ) (m k : ℕ) (faults : Faults nodes m k) where
  -- g is the fault by its symbol, h by its byte
  pub refuses : (g h : refusals.Fault) → k ≡ fault_key (rust.Some g) → h.place ≡ get_or (take n starts) g.place end → h.refusal ≡ g.refusal → K
      → Checks K W starts n end nodes m (Err h)
  refuses g h p q s kept text d st at-end = subst (λ (x : definition.Reading). ReadIs K (W text) text x (Err h)) (sym (read_names text d)) (on (first_fault d) refl)
    where
      on : (o : Option Fault) → first_fault d ≡ o → ReadIs K (W text) text (pass (located text o) (reading d)) (Err h)
      on none e = absurd (no-zero g (sym p ∙ faults text starts n d st ∙ ap key_of e))
      on (some f) e =
          let is : fault_is g ≡ f = some-injective (fault_is g) f (key-decides (some (fault_is g)) (some f) (sym p ∙ faults text starts n d st ∙ ap key_of e)) in (
            ap₂ fault
                (q ∙ ap (get_or (take n starts) g.place) at-end ∙ place_is st g.place ∙ ap (λ (x : Fault). place_at text x.place) is)
                (ap refusal_is s ∙ ap (λ (x : Fault). x.refusal) is),
            kept,
          )

  pub all_pass : k ≡ 0 → (r : Parsed) (s : Structure) → s.symbols ≡ n → s.numbers ≡ m → r ≡ Ok s
      → ((text starts : List ℕ) (n : ℕ) (d : Dossier) → Stands text starts nodes n m d → least (name_faults d) ≡ none → W text d)
      → Checks K W starts n end nodes m r
  all_pass no_fault r s a b is left text d st at-end = subst (λ (x : definition.Reading). ReadIs K (W text) text x r) (sym (read_names text d)) (on (first_fault d) refl)
    where
      on : (o : Option Fault) → first_fault d ≡ o → ReadIs K (W text) text (pass (located text o) (reading d)) r
      on none e = (all-passed st r s a b is, left text starts n d st (first-none (least (name_faults d)) _ e))
      on (some f) e = let z : key_of (some f) ≡ 0 = sym (faults text starts n d st ∙ ap key_of e) ∙ no_fault in absurd (omega arith)
