-- A walk over every so-many-th number of a range. Assumes nothing.
use mathlib.Core.Path.{◌≡◌, sym, ap, subst, ◌∙◌}
use mathlib.Core.Bool.{Bool, true, false, cond, true≢false}
use mathlib.Core.List.{List, [], ◌∷◌}
use Prim.Native.Nat.{ℕ, zero, suc, ◌+◌, ◌-◌, ◌*◌, ◌<◌, ◌≤◌}
use native.Mathlib.Omega.{arith}
use lib.ListN.{length}
use Rattle.std.specs.Prelude.{Option, Some, None, MatchOption}
use Rattle.std.specs.declared.iter.StepBy.{StepBy}
use Rattle.std.specs.declared.ops.Range.{Range}
use Rattle.std.specs.Iterator.{Yields, YieldsThen, CallableAtEachTurn}
use Rattle.std.specs.Iterator.Adapters.{step_by_steps}
use Rattle.std.specs.List.{FoldsTo}

abbrev Ones : Range ℕ → Option ℕ → Range ℕ → Type 0
Ones s r t = (t.end ≡ s.end) × MatchOption r ((s.end - s.start ≡ 0) × (t.start ≡ s.start)) (λ x. (0 < s.end - s.start) × (x ≡ s.start) × (t.start ≡ s.start + 1))

moved : (xs : List ℕ) (s t : Range ℕ) → Yields Ones s xs t → (t.end ≡ s.end) × (t.start ≡ s.start + length xs)
moved [] s t y = (sym (ap (λ k. k.end) y), omega (arith, ap (λ (k : Range ℕ). k.start) y))
moved (x ∷ xs) s t y = let h = moved xs y.0 t y.2 in (h.0 ∙ y.1.0, omega (arith, h.1, y.1.1.2))

abbrev Strides : StepBy (Range ℕ) → Option ℕ → StepBy (Range ℕ) → Type 0
Strides = step_by_steps Ones

-- the number that comes next is a, the end b, the stride w
record At (a b w : ℕ) (s : StepBy (Range ℕ)) : Type 0 where
  next : s.iter.start + cond s.first 0 s.gap ≡ a
  end : s.iter.end ≡ b
  stride : s.gap + 1 ≡ w

module _ {a b w : ℕ} {s t : StepBy (Range ℕ)} (h : At a b w s) where
  more : (x : ℕ) → Strides s (Some x) t → (x ≡ a) × (x < b) × At (a + w) b w t
  more x k =
      let m = moved k.2.1 s.iter k.2.3.0 k.2.3.1 in
      let i : x ≡ a = omega (arith, m.1, k.2.3.2.1.1, k.2.4, k.2.2, h.next) in (
        i,
        omega (arith, m.0, m.1, k.2.3.2.1.0, k.2.3.2.1.1, h.end),
        record {
          next = ap (λ c. t.iter.start + cond c 0 t.gap) k.1 ∙ omega (arith, k.2.3.2.1.1, k.2.3.2.1.2, i, k.0, h.stride);
          end = k.2.3.2.0 ∙ m.0 ∙ h.end;
          stride = omega (arith, k.0, h.stride);
        },
      )

  none : Strides s None t → b ≤ a
  none k = let m = moved k.2.1 s.iter k.2.3.0 k.2.3.1 in omega (arith, m.0, m.1, k.2.3.2.1.0, k.2.4, k.2.2, h.next, h.end)

module _ {F : Type 0} (R : F → ℕ → F → Type 0) (f : F) where
  unmoved : ((x : ℕ) (q : F) → R f x q → q ≡ f) → (xs : List ℕ) (g : F) → FoldsTo R f xs g → g ≡ f
  unmoved stays [] g c = sym c
  unmoved stays (x ∷ xs) g c = unmoved stays xs g (subst (λ k. FoldsTo R k xs g) (stays x c.0 c.1) c.2)

  walked : (Yes : ℕ → Type 0) → ((x : ℕ) (q : F) → R f x q → (q ≡ f) × Yes x) → {a b w : ℕ} (xs : List ℕ) (s t u : StepBy (Range ℕ)) (g : F) → At a b w s
      → Yields Strides s xs t → FoldsTo R f xs g → Strides t None u → (n : ℕ) → a + w * n < b → Yes (a + w * n)
  walked Yes passes {a} {b} {w} [] s t u g h y c e n l = let i = none (subst (At a b w) y h) e in absurd (omega arith)
  walked Yes passes {a} {b} {w} (x ∷ xs) s t u g h y c e zero l =
      let m = more h x y.1 in subst Yes {x = x} {y = a + w * 0} (omega (arith, m.0)) (passes x c.0 c.1).1
  walked Yes passes {a} {b} {w} (x ∷ xs) s t u g h y c e (suc n) l =
      let m = more h x y.1 in
      let p = passes x c.0 c.1 in
      subst Yes {x = a + w + w * n} {y = a + w * suc n} (omega arith) (walked Yes passes {a = a + w} {b = b} {w = w} xs y.0 t u g m.2 y.2 (subst (λ k. FoldsTo R k xs g) p.0 c.2) e n (omega arith))

came : {a b w : ℕ} (xs : List ℕ) (s t u : StepBy (Range ℕ)) (x : ℕ) → At a b w s → Yields Strides s xs t → Strides t (Some x) u → (n : ℕ) × (x ≡ a + w * n) × (x < b)
came {a} {b} {w} [] s t u x h y e = let m = more (subst (At a b w) y h) x e in (0, omega (arith, m.0), m.1)
came {a} {b} {w} (z ∷ xs) s t u x h y e =
    let m = more h z y.1 in
    let r = came {a = a + w} {b = b} {w = w} xs y.0 t u x m.2 y.2 e in
    (suc r.0, omega (arith, r.1), r.2)

at-first : {a b w : ℕ} {s : StepBy (Range ℕ)} → s.iter ≡ record { start = a; end = b } → s.gap + 1 ≡ w → s.first ≡ true → At a b w s
at-first {a} {b} {w} {s} i g e = record {
  next = ap (λ c. s.iter.start + cond c 0 s.gap) e ∙ omega (arith, ap (λ (r : Range ℕ). r.start) i);
  end = ap (λ (r : Range ℕ). r.end) i;
  stride = g;
}

-- what a closure may be asked at
pub serves_from_StepBy : {P : Type 0} {R : P → ℕ → P → Type 0} {Q : P → ℕ → Type 0} {s : StepBy (Range ℕ)} {p : P} (a b w : ℕ) → s.iter ≡ record { start = a; end = b } → s.gap + 1 ≡ w → s.first ≡ true
    → ((x : ℕ) (q : P) → R p x q → q ≡ p) → ((n : ℕ) → a + w * n < b → Q p (a + w * n)) → CallableAtEachTurn Strides R Q s p
serves_from_StepBy {P} {R} {Q} {s} {p} a b w i g e stays h = record {
  at = λ xs t q x u y c k.
      let r = came {a = a} {b = b} {w = w} xs s t u x (at-first i g e) y k in
      subst (λ k. Q k x) (sym (unmoved R p stays xs q c)) (subst (Q p) (sym r.1) (h r.0 (omega (arith, r.1, r.2))));
}

-- where `all` says yes, each number of the walk passes
pub each_from_all : {F : Type 0} {R N : F → ℕ → F → Type 0} {s u : StepBy (Range ℕ)} {f : F} {r : Bool} (a b w : ℕ) → s.iter ≡ record { start = a; end = b } → s.gap + 1 ≡ w → s.first ≡ true
    → (xs : List ℕ) × (o : Option ℕ) × (j : F) × YieldsThen Strides s xs o u × FoldsTo R f xs j × MatchOption o (r ≡ true) (λ x. (r ≡ false) × ((h : F) × N j x h))
    → (Yes : ℕ → Type 0) → ((x : ℕ) (q : F) → R f x q → (q ≡ f) × Yes x) → r ≡ true → (n : ℕ) → a + w * n < b → Yes (a + w * n)
each_from_all {F} {R} {N} {s} {u} {f} {r} a b w i g e d Yes passes t n l = ends d.1 d.3.2 d.5
  where
    ends : (o : Option ℕ) → Strides d.3.0 o u → MatchOption o (r ≡ true) (λ x. (r ≡ false) × ((h : F) × N d.2 x h)) → Yes (a + w * n)
    ends None k z = walked R f Yes passes {a = a} {b = b} {w = w} d.0 s d.3.0 u d.2 (at-first i g e) d.3.1 d.4 k n l
    ends (Some x) k z = absurd (true≢false (sym t ∙ z.0))
