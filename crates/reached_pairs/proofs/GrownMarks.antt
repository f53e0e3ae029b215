-- Marks that are added: nothing, one mark, one addition after the other, and those of a search that finds one number after the other. Assumes nothing.
use mathlib.Core.Path.{◌≡◌, refl, sym, ap, subst, ◌∙◌}
use mathlib.Core.Bool.{Bool, true, true≢false}
use mathlib.Core.Logic.{◌⊎◌, inl, inr}
use mathlib.Core.List.{List}
use Prim.Native.Nat.{ℕ, ◌+◌, ◌<◌, ◌≤◌}
use native.Mathlib.Omega.{arith}
use native.Mathlib.Decide.{ℕ_discrete, dec_lt}
use lib.ListN.{length, set, length-set}
use lib.Seq.{get_or-set_same, get_or-set_other}
use Rattle.points.specs.Searches.{Sought}
use Rattle.reached_pairs.specs.declared.marks.Mark.{Mark}
use Rattle.reached_pairs.specs.Reached.{no_mark, layer_of, mark_in, layer_in}
use Rattle.reached_pairs.specs.ReachedByNumber.{Grown, Only, Marked, Hits}

module _ {may : (y : ℕ) (m : Mark) → Type 0} where
  -- a mark that stands stays
  pub grown_stays : {must : ℕ → Type 0} {a b : List Mark} → Grown may must a b → (y : ℕ) → 0 < layer_in a y → mark_in b y ≡ mark_in a y
  grown_stays {a = a} {b = b} g y h = go (g.each y)
    where
      go : (mark_in b y ≡ mark_in a y) ⊎ ((layer_in a y ≡ 0) × may y (mark_in b y)) → mark_in b y ≡ mark_in a y
      go (inl e) = e
      go (inr e) = absurd (omega (arith, e.0, h))

  pub grown-none : (must : ℕ → Type 0) (a : List Mark) → ((y : ℕ) → must y → ⊥) → Grown may must a a
  grown-none must a h = record { long = refl; each = λ y. inl refl; full = λ y m. absurd (h y m) }

  pub grown_join : {first second : ℕ → Type 0} (must : ℕ → Type 0) {a b c : List Mark} → Grown may first a b → Grown may second b c → ((y : ℕ) → must y → first y ⊎ second y) → Grown may must a c
  grown_join {first = first} {second = second} must {a = a} {b = b} {c = c} g h split = record {
    long = h.long ∙ g.long;
    each = λ y. go y (g.each y) (h.each y);
    full = λ y m. given y (split y m);
  }
    where
      go : (y : ℕ) → (mark_in b y ≡ mark_in a y) ⊎ ((layer_in a y ≡ 0) × may y (mark_in b y)) → (mark_in c y ≡ mark_in b y) ⊎ ((layer_in b y ≡ 0) × may y (mark_in c y))
          → (mark_in c y ≡ mark_in a y) ⊎ ((layer_in a y ≡ 0) × may y (mark_in c y))
      go y (inl e) (inl f) = inl (f ∙ e)
      go y (inr e) (inl f) = inr (e.0, subst (may y) (sym f) e.1)
      go y (inl e) (inr f) = inr (ap layer_of (sym e) ∙ f.0, f.1)
      go y (inr e) (inr f) = inr (e.0, f.1)

      given : (y : ℕ) → first y ⊎ second y → 0 < layer_in c y
      given y (inl m) = subst (λ (v : Mark). 0 < layer_of v) (sym (grown_stays h y (g.full y m))) (g.full y m)
      given y (inr m) = h.full y m

  -- more may be marked, and less must be
  pub grown_wider : {narrow : (y : ℕ) (m : Mark) → Type 0} {first : ℕ → Type 0} (must : ℕ → Type 0) {a b : List Mark} → Grown narrow first a b
      → ((y : ℕ) (m : Mark) → layer_in a y ≡ 0 → narrow y m → may y m) → ((y : ℕ) → must y → first y) → Grown may must a b
  grown_wider {narrow = narrow} {first = first} must {a = a} {b = b} g wide less = record { long = g.long; each = λ y. go y (g.each y); full = λ y m. g.full y (less y m) }
    where
      go : (y : ℕ) → (mark_in b y ≡ mark_in a y) ⊎ ((layer_in a y ≡ 0) × narrow y (mark_in b y)) → (mark_in b y ≡ mark_in a y) ⊎ ((layer_in a y ≡ 0) × may y (mark_in b y))
      go y (inl e) = inl e
      go y (inr e) = inr (e.0, wide y (mark_in b y) e.0 e.1)

  -- ---- a search that finds one number after the other, each of which adds marks

  module _ (f : ℕ → Bool) (G : (x y : ℕ) → Type 0) where
    pub scan-start : (end r : ℕ) (a : List Mark) → Sought f 0 end r → Grown may (Hits f G r) a a
    scan-start end r a s = grown-none (Hits f G r) a (λ y h. true≢false (sym h.hit ∙ s.past h.number (omega arith) h.low))

    pub scan-next : (end r t : ℕ) {a b c : List Mark} → Grown may (Hits f G r) a b → Grown may (G r) b c → Sought f (r + 1) end t → Grown may (Hits f G t) a c
    scan-next end r t g h s = grown_join (Hits f G t) g h (λ y m. go y m (dec_lt m.number r) (ℕ_discrete m.number r))
      where
        go : (y : ℕ) (m : Hits f G t y) → Dec (m.number < r) → Dec (m.number ≡ r) → Hits f G r y ⊎ G r y
        go y m (yes l) e = inl (record { number = m.number; low = l; hit = m.hit; there = m.there })
        go y m (no l) (yes e) = inr (subst (λ (x : ℕ). G x y) e m.there)
        go y m (no l) (no e) = absurd (true≢false (sym m.hit ∙ s.past m.number (omega arith) m.low))

    pub scan-done : (end r : ℕ) {a b : List Mark} → Grown may (Hits f G r) a b → end ≤ r → Grown may (Hits f G end) a b
    scan-done end r g h = grown_wider (Hits f G end) g (λ y m z k. k) (λ y m. record { number = m.number; low = omega (arith, m.low); hit = m.hit; there = m.there })

-- a search for any number finds the next one
pub sought-each : (end r : ℕ) → r ≤ end → Sought (λ (x : ℕ). true) r end r
sought-each end r h = record { low = omega arith; high = h; past = λ k l m. absurd (omega arith); found = λ l. refl }

-- ---- one mark

pub marked-before : (y : ℕ) (m : Mark) (a : List Mark) → 0 < layer_in a y → Marked y m a a
marked-before y m a h = record { long = refl; each = λ z. inl refl; full = λ z e. subst (λ (x : ℕ). 0 < layer_in a x) (sym e) h }

pub marked-now : (y : ℕ) (m : Mark) (a : List Mark) → layer_in a y ≡ 0 → y < length a → 0 < layer_of m → Marked y m a (set a y m)
marked-now y m a free inside some = record {
  long = length-set a y m;
  each = λ z. go z (ℕ_discrete z y);
  full = λ z e. subst (λ (x : ℕ). 0 < layer_in (set a y m) x) (sym e) (subst (λ (v : Mark). 0 < layer_of v) (sym (get_or-set_same a y m no_mark inside)) some);
}
  where
    go : (z : ℕ) → Dec (z ≡ y) → (mark_in (set a y m) z ≡ mark_in a z) ⊎ ((layer_in a z ≡ 0) × Only y m z (mark_in (set a y m) z))
    go z (yes e) = inr (ap (λ (x : ℕ). layer_in a x) e ∙ free, (e, ap (λ (x : ℕ). mark_in (set a y m) x) e ∙ get_or-set_same a y m no_mark inside))
    go z (no e) = inl (get_or-set_other a y z m no_mark e)
