-- The first layer of the marks, and one layer after the other. Assumes nothing.
use mathlib.Core.Path.{◌≡◌, sym, ap, subst, ◌∙◌}
use mathlib.Core.Logic.{◌⊎◌, inl, inr}
use mathlib.Core.List.{List}
use Prim.Native.Nat.{ℕ, suc, ◌<◌, ◌≤◌}
use native.Mathlib.Omega.{arith}
use native.Mathlib.Decide.{dec_lt}
use lib.ListN.{length}
use Rattle.form.specs.Tree.{Dossier}
use Rattle.meaning.proofs.Places.{entry-below}
use Rattle.reached_pairs.specs.declared.marks.Mark.{Mark}
use Rattle.reached_pairs.specs.Reached.{no_mark, layer_of, mark_in, layer_in}
use Rattle.reached_pairs.specs.ReachedByNumber.{Begins, Goes, Layered, Grown, MayBegin, MayFrom, MustBelow}
use Rattle.reached_pairs.proofs.GrownMarks.{grown_stays}

module _ (d : Dossier) where
  pub layered-first : (a b : List Mark) → ((y : ℕ) → mark_in a y ≡ no_mark) → Grown (MayBegin d) (Begins d) a b → Layered d 1 b
  layered-first a b blank g = record {
    begins = λ y e. is-begun y e (g.each y);
    follows = λ y k e. absurd (omega (arith, e, at_most y (g.each y)));
    begun = λ y h. let l : 0 < layer_in b y = g.full y h in let m : layer_in b y ≤ 1 = at_most y (g.each y) in omega arith;
    closed = λ j i x y h l s. absurd (omega arith);
    bounded = λ y. at_most y (g.each y);
  }
    where
      none : (y : ℕ) → mark_in b y ≡ mark_in a y → layer_in b y ≡ 0
      none y e = ap layer_of (e ∙ blank y)

      at_most : (y : ℕ) → (mark_in b y ≡ mark_in a y) ⊎ ((layer_in a y ≡ 0) × MayBegin d y (mark_in b y)) → layer_in b y ≤ 1
      at_most y (inl e) = let z : layer_in b y ≡ 0 = none y e in omega arith
      at_most y (inr e) = omega (arith, e.1.layer_is)

      is-begun : (y : ℕ) → layer_in b y ≡ 1 → (mark_in b y ≡ mark_in a y) ⊎ ((layer_in a y ≡ 0) × MayBegin d y (mark_in b y)) → Begins d y
      is-begun y e (inl f) = absurd (omega (arith, e, none y f))
      is-begun y e (inr f) = f.1.begins

  module _ (n : ℕ) (some : 0 < n) (a b : List Mark) (w : Layered d n a) (g : Grown (MayFrom d n a) (MustBelow d (length d.operations) n a) a b) where
    -- a mark of b stood in a, or it is of the new layer
    abbrev Either : ℕ → Type 0
    Either y = (mark_in b y ≡ mark_in a y) ⊎ ((layer_in a y ≡ 0) × MayFrom d n a y (mark_in b y))

    stays : (y : ℕ) → 0 < layer_in a y → layer_in b y ≡ layer_in a y
    stays y h = ap layer_of (grown_stays g y h)

    next-begins : (y : ℕ) → layer_in b y ≡ 1 → Either y → Begins d y
    next-begins y e (inl f) = w.begins y (ap layer_of (sym f) ∙ e)
    next-begins y e (inr f) = absurd (omega (arith, e, some, f.1.layer_is))

    abbrev Follows : (marks : List Mark) (m : Mark) (k y : ℕ) → Type 0
    Follows marks m k y = (layer_in marks m.before ≡ suc k) × Goes d m.operation m.input m.before y

    later : (m : Mark) (k y : ℕ) → Follows a m k y → Follows b m k y
    later m k y f = (stays m.before (omega (arith, f.0)) ∙ f.0, f.1)

    next-follows : (y k : ℕ) → layer_in b y ≡ suc (suc k) → Either y → Follows b (mark_in b y) k y
    next-follows y k e (inl f) = later (mark_in b y) k y (subst (λ (m : Mark). Follows a m k y) (sym f) (w.follows y k (ap layer_of (sym f) ∙ e)))
    next-follows y k e (inr f) =
        let q : n ≡ suc k = omega (arith, e, f.1.layer_is) in
        later (mark_in b y) k y (f.1.before ∙ q, f.1.goes)

    next-bounded : (y : ℕ) → Either y → layer_in b y ≤ suc n
    next-bounded y (inl f) = let e : layer_in b y ≡ layer_in a y = ap layer_of f in omega (arith, w.bounded y)
    next-bounded y (inr f) = omega (arith, f.1.layer_is)

    -- a pair of a layer up to n had its mark before
    stood : (x : ℕ) → layer_in b x < suc n → Either x → layer_in b x ≡ layer_in a x
    stood x l (inl f) = ap layer_of f
    stood x l (inr f) = absurd (omega (arith, l, f.1.layer_is))

    next-closed : (j i x y : ℕ) → 0 < layer_in b x → layer_in b x < suc n → Goes d j i x y → (0 < layer_in b y) × (layer_in b y ≤ suc (layer_in b x))
    next-closed j i x y h l s =
        let e : layer_in b x ≡ layer_in a x = stood x l (g.each x) in
        elim (dec_lt (layer_in a x) n) [
          | yes k ↦ (
              let r : (0 < layer_in a y) × (layer_in a y ≤ suc (layer_in a x)) = w.closed j i x y (omega arith) k s in
              let f : layer_in b y ≡ layer_in a y = stays y r.0 in
              (omega (arith, r.0), omega (arith, r.1)))
          | no k ↦ (
              let q : layer_in a x ≡ n = omega arith in
              let u : layer_in b y ≤ suc n = next-bounded y (g.each y) in
              (g.full y (record { operation = j; low = entry-below s.operation d.operations j s.listed; from = record { pair = x; input = i; layer_is = q; goes = s } }), omega arith))
        ]

    pub layered-next : Layered d (suc n) b
    layered-next = record {
      begins = λ y e. next-begins y e (g.each y);
      follows = λ y k e. next-follows y k e (g.each y);
      begun = λ y h. let e : layer_in a y ≡ 1 = w.begun y h in let f : layer_in b y ≡ layer_in a y = stays y (omega arith) in omega arith;
      closed = next-closed;
      bounded = λ y. next-bounded y (g.each y);
    }
