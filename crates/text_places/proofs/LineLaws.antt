-- Lines by the bytes that were passed. Assumes nothing.
use mathlib.Core.Path.{◌≡◌, refl, sym, ap, ◌∙◌}
use mathlib.Core.Bool.{Bool, true, false}
use mathlib.Core.Logic.{◌⊎◌, inl, inr}
use mathlib.Core.List.{List}
use Prim.Native.Nat.{ℕ, ◌+◌, ◌-◌, ◌<◌}
use native.Mathlib.Omega.{arith}
use lib.Dec.{leb}
use borrow.Author.Tests.{leb-true, leb-false}
use lib.ListN.{get_or, length, take}
use Rattle.std.proofs.lemmas.List.{get_or-take, get_or_past, length-take}
use Rattle.text_places.specs.PlacePromises.{LineStart}

-- a newline stands inside its text; before a place p it stands in the front of length p
inside : (text : List ℕ) (j : ℕ) → get_or text j 0 ≡ 10 → j < length text
inside text j e = on (leb (length text) j) refl
  where
    on : (t : Bool) → leb (length text) j ≡ t → j < length text
    on true b = let z = get_or_past text j 0 (leb-true (length text) j b) in absurd (omega arith)
    on false b = leb-false (length text) j b

in-front : (text : List ℕ) (p j : ℕ) → j < p → get_or text j 0 ≡ 10 → (j < length (take p text)) × (get_or (take p text) j 0 ≡ 10)
in-front text p j l e = (omega (arith, length-take p text, inside text j e), get_or-take p text j 0 l ∙ e)

-- behind the last newline before a place, or where there is none
pub behind-last : (text : List ℕ) (p i : ℕ) → i < length (take p text) → get_or (take p text) i 0 ≡ 10
    → ((j : ℕ) → i < j → j < length (take p text) → get_or (take p text) j 0 ≡ 10 → ⊥) → LineStart text p (i + 1)
behind-last text p i l e n =
    let m : i < p = omega (arith, length-take p text) in
    record {
      low = omega arith;
      behind = inr (λ j f. let s : j ≡ i = omega arith in ap (λ (k : ℕ). get_or text k 0) s ∙ sym (get_or-take p text i 0 m) ∙ e);
      none = λ j a b q. let h = in-front text p j b q in n j (omega arith) h.0 h.1;
    }

pub no-line : (text : List ℕ) (p : ℕ) → ((j : ℕ) → j < length (take p text) → get_or (take p text) j 0 ≡ 10 → ⊥) → LineStart text p 0
no-line text p n = record { low = omega arith; behind = inl refl; none = λ j a b q. let h = in-front text p j b q in n j h.0 h.1 }

not-behind : {text : List ℕ} {p r q : ℕ} → LineStart text p r → LineStart text p q → r < q → ⊥
not-behind {text = text} {p = p} {r = r} {q = q} a b l = on b.behind
  where
    on : (q ≡ 0) ⊎ ((k : ℕ) → k + 1 ≡ q → get_or text k 0 ≡ 10) → ⊥
    on (inl e) = omega arith
    on (inr f) = a.none (q - 1) (omega arith) (omega (arith, b.low)) (f (q - 1) (omega arith))

-- a byte's line begins at one place
pub one-start : {text : List ℕ} {p r q : ℕ} → LineStart text p r → LineStart text p q → r ≡ q
one-start a b = let x = not-behind a b in let y = not-behind b a in omega arith
