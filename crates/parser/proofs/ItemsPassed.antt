-- Items of a dossier's nodes are passed over, one by one, by the code.
use Rattle.std.specs.Prelude.{Some, None}
use Rattle.std.specs.Prelude as prelude
use mathlib.Core.Path.{◌≡◌, refl, sym, ap, ◌∙◌, subst, subst₂}
use mathlib.Core.List.{List}
use Prim.Native.Nat.{ℕ, ◌+◌, ◌≤◌, ◌<◌}
use native.Mathlib.Omega.{arith}
use borrow.Author.Tests.{ne_eqb}
use lib.ListN.{take, get_or}
use lib.Seq.{get_or-take}
use Rattle.parser.specs.Sections.{Part, size_of, size_at, In, Run, stops, passes, StateAt}
use Rattle.parser.specs.Sections.{Compares, fits, extra, wants, differs, agrees}

pub part_is : (a : List ℕ) (at m k r : ℕ) → k ≤ 3 → r ≡ get_or a (at + k) 0 → Part a at m k r
part_is a at m k r h e l = e ∙ sym (get_or-take m a (at + k) 0 (omega arith))

pub size-six : (k n : ℕ) → k ≡ 6 → 8 ≡ size_of k n
unfolding size_of
size-six k n e = sym (ap (λ (x : ℕ). size_of x n) e)

pub size-seven : (k n : ℕ) → k ≡ 7 → 4 + n ≡ size_of k n
unfolding size_of
size-seven k n e = sym (ap (λ (x : ℕ). size_of x n) e)

pub size-other : (k n : ℕ) → (k ≡ 6 → ⊥) → (k ≡ 7 → ⊥) → 4 ≡ size_of k n
unfolding size_of
size-other k n f g = rw (size_of, ne_eqb k 6 f, ne_eqb k 7 g) refl

pub skipped : (a : List ℕ) (m at shape count size : ℕ) → at + 4 ≤ m → Part a at m 3 shape → Part a at m 1 count → size ≡ size_of shape count → size ≡ size_at (take m a) at
unfolding size_at
skipped a m at shape count size l p q e = e ∙ (let x = p l in let y = q l in cc)

pub run_on : {t : List ℕ} {m low high i e : ℕ} → Run t m low high i e → In t m low high i → (i + size_at t i ≤ m) × Run t m low high (i + size_at t i) e
run_on (stops f) h = absurd (f h)
run_on (passes g l r) h = (l, r)

pub run-stops : {t : List ℕ} {m low high i e : ℕ} → Run t m low high i e → (In t m low high i → ⊥) → i ≡ e
run-stops (stops g) f = refl
run-stops (passes g l r) f = absurd (f g)

-- the place that `skip` answers with
pub run-next : {t : List ℕ} {m low high i e r : ℕ} → Run t m low high i e → (g : In t m low high i) → (i + 4 ≤ m → i + size_at t i ≤ m → r ≡ i + size_at t i) → Run t m low high r e
run-next {t} {m} {low} {high} {i} {e} {r} p g f = let q = run_on p g in subst (λ (x : ℕ). Run t m low high x e) (sym (f g.room q.0)) q.1

-- a state's heading, declarations and predicate, by what `skip`, `run` and `skip` answer
pub state-is : {t : List ℕ} {m i e first last r : ℕ} → StateAt t m i e → (i + 4 ≤ m → i + size_at t i ≤ m → first ≡ i + size_at t i) → ((z : ℕ) → Run t m 6 6 first z → last ≡ z)
    → (last + 4 ≤ m → last + size_at t last ≤ m → r ≡ last + size_at t last) → r ≡ e
state-is {t} {m} {i} {e} {first} {last} {r} s f g h =
    let p : last ≡ s.last = g s.last (subst (λ (x : ℕ). Run t m 6 6 x s.last) (sym (f s.room s.heading)) s.declarations) in
    let q : last + size_at t last ≡ e = ap (λ (x : ℕ). x + size_at t x) p ∙ s.predicate in
    let l = s.last_room in
    let k = s.inside in
    h (omega arith) (omega arith) ∙ q

-- The comparison of entries with bodies, by what the code finds at an entry and a body
pub found-wanting : {t : List ℕ} {m low high to last wanting e h : ℕ} {q : prelude.Option ℕ} → Compares t m low high to last wanting e h q → e < to → last ≤ h → Some wanting ≡ q
found-wanting (fits a b) x y = absurd (omega arith)
found-wanting (extra a b c) x y = absurd (omega arith)
found-wanting (wants a b) x y = refl
found-wanting (differs a b c d f) x y = absurd (omega arith)
found-wanting (agrees a b c d f g i j k) x y = absurd (omega arith)

pub found-extra : {t : List ℕ} {m low high to last wanting e h : ℕ} {q : prelude.Option ℕ} {p : ℕ} → Compares t m low high to last wanting e h q → to ≤ e → h < last → (h + 4 ≤ m → p ≡ get_or t (h + 2) 0) → Some p ≡ q
found-extra (fits a b) x y z = absurd (omega arith)
found-extra (extra a b c) x y z = ap Some (z c)
found-extra (wants a b) x y z = absurd (omega arith)
found-extra (differs a b c d f) x y z = absurd (omega arith)
found-extra (agrees a b c d f g i j k) x y z = absurd (omega arith)

pub found_all : {t : List ℕ} {m low high to last wanting e h : ℕ} {q : prelude.Option ℕ} → Compares t m low high to last wanting e h q → to ≤ e → last ≤ h → None ≡ q
found_all (fits a b) x y = refl
found_all (extra a b c) x y = absurd (omega arith)
found_all (wants a b) x y = absurd (omega arith)
found_all (differs a b c d f) x y = absurd (omega arith)
found_all (agrees a b c d f g i j k) x y = absurd (omega arith)

-- an entry and a body, and the numbers of their names
pub record Both (t : List ℕ) (m to last e h u v : ℕ) : Type 0 where
  pub entry : e < to
  pub body : h < last
  pub first : e + 4 ≤ m → u ≡ get_or t (e + 1) 0
  pub second : h + 4 ≤ m → v ≡ get_or t (h + 1) 0

pub found-other : {t : List ℕ} {m low high to last wanting e h : ℕ} {q : prelude.Option ℕ} {u v p : ℕ} → Compares t m low high to last wanting e h q → Both t m to last e h u v → (u ≡ v → ⊥) → (h + 4 ≤ m → p ≡ get_or t (h + 2) 0) → Some p ≡ q
found-other (fits a b) x n z = absurd (omega arith)
found-other (extra a b c) x n z = absurd (omega arith)
found-other (wants a b) x n z = absurd (omega arith)
found-other (differs a b c d f) x n z = ap Some (z d)
found-other (agrees a b c d f g i j k) x n z = absurd (n (x.first c ∙ f ∙ sym (x.second d)))

pub found-same : {t : List ℕ} {m low high to last wanting e h : ℕ} {q : prelude.Option ℕ} {u v i j k : ℕ} → Compares t m low high to last wanting e h q → Both t m to last e h u v → u ≡ v → (e + 4 ≤ m → e + size_at t e ≤ m → i ≡ e + size_at t e)
    → (h + 4 ≤ m → h + size_at t h ≤ m → j ≡ h + size_at t h) → ((z : ℕ) → Run t m low high j z → k ≡ z) → Compares t m low high to last wanting i k q
found-same (fits a b) x n p r s = absurd (omega arith)
found-same (extra a b c) x n p r s = absurd (omega arith)
found-same (wants a b) x n p r s = absurd (omega arith)
found-same (differs a b c d f) x n p r s = absurd (f (sym (x.first c) ∙ n ∙ x.second d))
found-same {t} {m} {low} {high} {to} {last} {wanting} {e} {h} {q} (agrees {k = l} a b c d f g w o z) x n p r s =
    subst₂ (λ (y₁ y₂ : ℕ). Compares t m low high to last wanting y₁ y₂ q) (sym (p c g)) (sym (s l (subst (λ (y : ℕ). Run t m low high y l) (sym (r d w)) o))) z
