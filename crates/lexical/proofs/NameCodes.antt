-- Which codes are those of names.
use mathlib.Core.Path.{◌≡◌, ap₂, sym, ◌∙◌}
use mathlib.Core.Bool.{Bool, true, false, ◌&&◌, true≢false}
use Prim.Native.Nat.{ℕ, ◌≤◌, ◌<◌}
use lib.Dec.{leb}
use borrow.Author.Tests.{le-leb, lt-leb, leb-true}
use Rattle.lexical.specs.SymbolPromises.{is_name}
use Rattle.lexical.proofs.BooleanTests.{and_left, and_right, and-left-false, and-right-false}

pub name-yes : (c : ℕ) → 2 ≤ c → c ≤ 5 → true ≡ is_name c
name-yes c p q = sym (ap₂ (λ (x y : Bool). x && y) (le-leb 2 c p) (le-leb c 5 q))

pub name_below : (c : ℕ) → c < 2 → false ≡ is_name c
name_below c p = sym (and-left-false (leb 2 c) (leb c 5) (lt-leb 2 c p))

pub name-above : (c : ℕ) → 5 < c → false ≡ is_name c
name-above c p = sym (and-right-false (leb 2 c) (leb c 5) (lt-leb c 5 p))

pub name-low : (c : ℕ) → is_name c ≡ true → 2 ≤ c
name-low c h = leb-true 2 c (and_left (leb 2 c) (leb c 5) h)

pub name-high : (c : ℕ) → is_name c ≡ true → c ≤ 5
name-high c h = leb-true c 5 (and_right (leb 2 c) (leb c 5) h)

pub no-name : (c : ℕ) → is_name c ≡ false → 2 ≤ c → c ≤ 5 → ⊥
no-name c h p q = true≢false (name-yes c p q ∙ h)
