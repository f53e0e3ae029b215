-- What stands from one symbol up to another, by what was read there.
use mathlib.Core.Path.{◌≡◌, ◌∙◌, sym, subst}
use mathlib.Core.Bool.{Bool, true, false, false≢true}
use mathlib.Core.List.{List}
use Prim.Native.Nat.{ℕ, ◌+◌, ◌≤◌, ◌<◌}
use native.Mathlib.Omega.{arith}
use denote.Bor.{Bor}
use lib.Dec.{eqb, ltb}
use lib.ListN.{length, get_or}
use borrow.Author.Tests.{eqb-true, eqb-false, ltb-true, ltb-false}
use Rattle.std.specs.Option.{is_some, unwrap_or, option_map, option_eq}
use Rattle.form_nodes.specs.FormPromises.{Shown, Named}
use Rattle.form_nodes.specs.Derivations.{NameAt, EndAt, positive, negative, RangeAt, ranges}
use Rattle.std.specs.Prelude.{Option, Some, None, Ok, Err}
use Rattle.form_nodes.specs.declared.Read.{Read}
use Rattle.form_nodes.specs.FormPromises.{Answer}

-- what is found at a place by `get`, compared with a code
pub code-found : (s : List ℕ) (i : ℕ) (r : Option (Bor ℕ)) (k : Bor ℕ) → is_some r ≡ ltb i (length s)
    → unwrap_or (option_map (λ x. x.now) r) 0 ≡ get_or s i 0 → option_eq (λ x y. eqb x.now y.now) r (Some k) ≡ true → (i < length s) × (get_or s i 0 ≡ k.now)
code-found s i None k e h q = absurd (false≢true q)
code-found s i (Some x) k e h q = (ltb-true i (length s) (sym e), sym h ∙ eqb-true x.now k.now q)

pub code-missed : (s : List ℕ) (i : ℕ) (r : Option (Bor ℕ)) (k : Bor ℕ) → is_some r ≡ ltb i (length s)
    → unwrap_or (option_map (λ x. x.now) r) 0 ≡ get_or s i 0 → option_eq (λ x y. eqb x.now y.now) r (Some k) ≡ false → i < length s → get_or s i 0 ≡ k.now → ⊥
code-missed s i None k e h q = λ l g. let z = ltb-false i (length s) (sym e) in absurd (omega arith)
code-missed s i (Some x) k e h q = λ l g. eqb-false x.now k.now q (h ∙ g)

-- the symbol of the code k, at a place
abbrev pub OneOf : List ℕ → (at k : ℕ) → ℕ → Type 0
OneOf s at k e = (e ≡ at + 1) × (get_or s at 0 ≡ k)

pub shown-as : (P Q : ℕ → Type 0) (n : ℕ) (r : Answer) → ((e : ℕ) → P e → Q e) → Shown P n r → Shown Q n r
shown-as P Q n (Ok e) f h = (f e.at h.0, h.1)
shown-as P Q n (Err e) f h = tt

-- a result that is known to be t
pub known-shown : (P : ℕ → Type 0) (n : ℕ) {r t : Answer} → r ≡ t → Shown P n r → Shown P n t
known-shown P n q h = subst (λ (x : Answer). Shown P n x) q h

pub positive-end : (s : List ℕ) (at n : ℕ) (r : Answer) → Shown (OneOf s at 1) n r → Shown (EndAt s at) n r
positive-end s at n r h = shown-as (OneOf s at 1) (EndAt s at) n r (λ e x. subst (EndAt s at) (sym x.0) (positive x.1)) h

pub negative-end : (s : List ℕ) (at n : ℕ) (r : Answer) → get_or s at 0 ≡ 29 → Shown (OneOf s (at + 1) 1) n r → Shown (EndAt s at) n r
negative-end s at n r q h = shown-as (OneOf s (at + 1) 1) (EndAt s at) n r (λ e x. subst (EndAt s at) (sym x.0) (negative q x.1)) h

pub whole-range : (s : List ℕ) (at n : ℕ) (e f : Read) (r : Answer) → Shown (EndAt s at) n (Ok e) → Shown (OneOf s e.at 21) e.count (Ok f) → Shown (EndAt s f.at) f.count r
    → Shown (RangeAt s at) n r
whole-range s at n e f (Ok g) a b h = (ranges a.0 b.0.1 (subst (λ (i : ℕ). EndAt s i g.at) b.0.0 h.0), h.1 ∙ b.1 ∙ a.1)
whole-range s at n e f (Err g) a b h = tt

pub name-at : {s : List ℕ} {i k : ℕ} {r : Bool} → k ≡ get_or s i 0 → Named k r → r ≡ true → NameAt s i
name-at q h f = let l : (2 ≤ _) × (_ ≤ 5) = h.name f in record { low = omega arith; high = omega arith }
