-- The letters of each name that occurs in a text stand from the first byte on of the symbol that has its number.
use mathlib.Core.Path.{◌≡◌, ap, ◌∙◌, refl, sym, subst}
use mathlib.Core.Bool.{Bool, true, false, true≢false}
use mathlib.Core.List.{List, [], ◌∷◌, map}
use Prim.Native.Nat.{ℕ, zero, suc, ◌≤◌, ◌<◌}
use native.Mathlib.Omega.{arith}
use lib.ListN.{length, drop, get_or}
use lib.Seq.{get_or-take}
use Rattle.lexical.specs.Kinds as kind
use Rattle.lexical.specs.Symbols.{Name, Symbol, fixed, numeral, name, Placed, scan, symbols}
use Rattle.lexical.specs.Promises.{has_letters, first_named, Scans}
use Rattle.std.specs.Prelude.{Ok}
use Rattle.lexical.proofs.WordLaws.{same_refl, same_true}
use Rattle.name_numbers.proofs.SoundLaws.{Sound, AllStand, all-stand}
use Rattle.form.specs.Tree.{Letters}
use Rattle.parser.specs.Promises.{numbering}
use Rattle.parser.proofs.Texts.{known}
use Rattle.readings.specs.ReaderOccurrences.{Occurs}
use Rattle.labels.specs.Labels.{SpeltAt}

-- a symbol that is a name with these letters
begins-spelt : (text : List ℕ) (p : ℕ) (a : Letters) (s : Symbol) → has_letters a s ≡ true → Sound (drop p text) s → SpeltAt text p a
begins-spelt text p a (fixed k) h g = absurd (true≢false (sym h))
begins-spelt text p a (numeral n) h g = absurd (true≢false (sym h))
begins-spelt text p a (name x) h g =
    let e = same_true a x.letters h in
    record { letters = sym g.0 ∙ sym e; short = subst (λ (l : Letters). length l ≤ 16) (sym e) g.1 }

abbrev places_of : List Placed → List ℕ
places_of l = map (λ (x : Placed). x.place) l

-- the first such symbol is there, where some symbol is one
record First (text : List ℕ) (a : Letters) (i : ℕ) (l : List Placed) : Type 0 where
  inside : i < length l
  spelt_there : SpeltAt text (get_or (places_of l) i 0) a

first-spelt : (text : List ℕ) (l : List Placed) (i : ℕ) (x : Name) → AllStand text l → get_or (map (λ (y : Placed). y.symbol) l) i (fixed kind.END) ≡ name x
    → First text x.letters (first_named x.letters l) l
unfolding first_named
first-spelt text [] i x h e = let z : ◌≡◌ {A = ℕ} 0 1 = cc in absurd (omega arith)
first-spelt text (y ∷ l) i x h e = on (has_letters x.letters y.symbol) refl i e (λ j. first-spelt text l j x h.1)
  where
    on : (b : Bool) → has_letters x.letters y.symbol ≡ b → (j : ℕ) → get_or (map (λ (z : Placed). z.symbol) (y ∷ l)) j (fixed kind.END) ≡ name x
        → ((k : ℕ) → get_or (map (λ (z : Placed). z.symbol) l) k (fixed kind.END) ≡ name x → First text x.letters (first_named x.letters l) l)
        → First text x.letters (elim b [ true ↦ 0 | false ↦ suc (first_named x.letters l) ]) (y ∷ l)
    on true q j g r = record { inside = omega arith; spelt_there = begins-spelt text y.place x.letters y.symbol q h.0.0 }
    on false q zero g r = absurd (true≢false (sym (same_refl x.letters) ∙ sym (ap (has_letters x.letters) g) ∙ q))
    on false q (suc j) g r = let f = r j g in let m = f.inside in record { inside = omega arith; spelt_there = f.spelt_there }

pub spelt : {text codes₀ starts₀ values₀ codes starts values : List ℕ} {n : ℕ} → Scans text codes₀ starts₀ values₀ codes starts values (Ok n)
    → {x : Letters} → Occurs text x → SpeltAt text (get_or starts (numbering text x) 0) x
spelt {text} {starts = starts} {n = n} s {x} o =
    let k = known s in
    let f : First text x (numbering text x) (symbols (scan text)) =
    subst (λ (a : Letters). First text a (numbering text a) (symbols (scan text))) o.spelt (first-spelt text (symbols (scan text)) o.at o.called (all-stand text) o.stands) in
    let i = f.inside in
    let c = s.counted n refl in
    subst (λ (p : ℕ). SpeltAt text p x)
    (ap (λ (l : List ℕ). get_or l (numbering text x) 0) (sym k.starts_are) ∙ get_or-take n starts (numbering text x) 0 (omega arith))
    f.spelt_there
