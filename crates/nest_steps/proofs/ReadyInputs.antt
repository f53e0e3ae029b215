-- The precondition at given inputs, and at all of them as bits. Assumes nothing.
use mathlib.Core.Path.{◌≡◌, refl, sym, ap, ap₂, subst, ◌∙◌}
use mathlib.Core.Bool.{Bool}
use mathlib.Core.List.{List, [], ◌++◌}
use Prim.Native.Nat.{ℕ, ◌+◌, ◌-◌, ◌*◌, ◌<◌, ◌≤◌, ◌^◌}
use native.Mathlib.Omega.{arith}
use mir.Val.{bool_byte}
use lib.ListN.{get_or, set}
use lib.IntN.{ℤ, pos}
use Rattle.lexical.specs.Lists.{upward}
use Rattle.sets.specs.Sets.{has}
use Rattle.sets.proofs.MaskBits.{Bits, no-bits, more-bits, bits-fit}
use Rattle.slot_carriers.specs.CellGroups.{HoldsBinding, Others}
use Rattle.points.specs.Points.{Point, span, number_of, placed}
use Rattle.points.proofs.PointNumbers.{number-apart, number-placed, beside_placed, distinct-upward, beside-twice}
use Rattle.plans.specs.declared.Part.{Part}
use Rattle.nest_steps.specs.PartTests.{PartTests}
use Rattle.nest_steps.specs.NestPromises.{Groups, NestAsked, Stepped, ForNest, AbstractPreAnswers, PreAnswers, ReadyAnswers}
use Rattle.nest_steps.proofs.KeptGroups.{abstracts-inputs, abstracts-ready, beside-both, asked-after}
use Rattle.nest_steps.proofs.BoundInputs.{upward-counts, bound-shows}

-- ---- the inputs have the values of a binding

pub bound-inputs : {table plan cells : List ℕ} {p : Part} {before : List (List ℤ)} {i : ℕ} {σ : List ℤ} → i < p.inputs.bindings → HoldsBinding cells 16 p.inputs.variables i σ
    → Others (pos 0) (get_or before 0 []) 16 p.inputs.variables σ
    → ForNest table plan cells p before (λ (G : Groups) (T : PartTests) (δ : Point). Stepped cells G.inputs δ p.inputs.bindings i (set before 0 σ))
bound-inputs {cells = cells} {p} {before} {i} {σ} h b o G T δ N w =
    subst (λ (ss : List ℕ). Stepped cells ss δ p.inputs.bindings i (set before 0 σ)) (sym N.sized.inputs_are) step
  where
    low : i < span cells (upward 16 p.inputs.variables)
    low = subst (λ (n : ℕ). i < n) (N.sized.inputs.counted ∙ ap (span cells) N.sized.inputs_are) h

    step : Stepped cells (upward 16 p.inputs.variables) δ p.inputs.bindings i (set before 0 σ)
    step =
        record {
          point = placed cells (upward 16 p.inputs.variables) δ i;
          shows = bound-shows cells p.inputs.variables i δ before σ N.sized.inputs_few N.sized.grouped low b o w;
          beside = beside_placed cells (upward 16 p.inputs.variables) δ i;
          number = λ _. number-placed cells (upward 16 p.inputs.variables) δ i (distinct-upward 16 p.inputs.variables) (upward-counts cells 16 p.inputs.variables N.sized.grouped) low;
        }

never : 0 < 0 → ⊥
never h = omega arith

module _ {table plan cells : List ℕ} {p : Part} {before mid after : List (List ℤ)} {i : ℕ} where
  pub pre-here : {r : Bool} → i < p.inputs.bindings → ForNest table plan cells p before (λ (G : Groups) (T : PartTests) (δ : Point). Stepped cells G.inputs δ p.inputs.bindings i mid)
      → AbstractPreAnswers table plan cells p mid after r → PreAnswers table plan cells p i before after r
  pre-here h l a =
      record {
        is = λ G T δ N w. (let z = l G T δ N w in
            a.is G T z.point N z.shows
            ∙ ap₂ T.ready (number-apart cells G.abstracts G.inputs δ z.point (abstracts-inputs N) z.beside) (z.number h));
        left = λ G T δ N w. (let z = l G T δ N w in
            let y = a.left G T z.point N z.shows in
            record { point = y.point; shows = y.shows; beside = beside-both G.inputs G.readying δ z.point y.point z.beside y.beside; number = λ e. absurd (never e) });
      }

-- no input is left
pub no-input : {table plan cells : List ℕ} {p : Part} {before : List (List ℤ)} {i : ℕ} → p.inputs.bindings ≤ i
    → ForNest table plan cells p before (λ (G : Groups) (T : PartTests) (δ : Point). Stepped cells G.inputs δ p.inputs.bindings i before)
no-input {p = p} {i = i} h G T δ N w = record { point = δ; shows = w; beside = record { same = λ s _. refl }; number = λ l. absurd (over l) }
  where
    over : i < p.inputs.bindings → ⊥
    over l = omega arith

-- ---- all inputs, the last one first

pub record ReadyFrom (cells : List ℕ) (p : Part) (G : Groups) (T : PartTests) (δ : Point) (slots : List (List ℤ)) (s i : ℕ) : Type 0 where
  pub stepped : Stepped cells (G.inputs ++ G.readying) δ 0 0 slots
  pub bits : Bits (λ (j : ℕ) (b : Bool). b ≡ T.ready (number_of cells G.abstracts δ) j) i (p.inputs.bindings - i) s

pub record Readying (table plan cells : List ℕ) (p : Part) (before slots : List (List ℤ)) (s i : ℕ) : Type 0 where
  pub asked : NestAsked table plan cells p before
  pub high : i ≤ p.inputs.bindings
  pub each : ForNest table plan cells p before (λ (G : Groups) (T : PartTests) (δ : Point). ReadyFrom cells p G T δ slots s i)

module _ {table plan cells : List ℕ} {p : Part} where
  pub ready-start : {before : List (List ℤ)} → NestAsked table plan cells p before → Readying table plan cells p before before 0 p.inputs.bindings
  ready-start q =
      record {
        asked = q;
        high = omega arith;
        each = λ G T δ N w. record {
          stepped = record { point = δ; shows = w; beside = record { same = λ s _. refl }; number = λ e. absurd (never e) };
          bits = no-bits (omega arith);
        };
      }

  pub ready-asked : {before slots : List (List ℤ)} {s i : ℕ} → Readying table plan cells p before slots s i → NestAsked table plan cells p slots
  ready-asked r = asked-after (λ G. G.inputs ++ G.readying) r.asked (λ G T δ N w. (r.each G T δ N w).stepped)

  pub ready-next : {before slots after : List (List ℤ)} {s i : ℕ} {b : Bool} → Readying table plan cells p before slots s i → 0 < i
      → PreAnswers table plan cells p (i - 1) slots after b → Readying table plan cells p before after (2 * s + bool_byte b) (i - 1)
  ready-next {before} {slots} {after} {s} {i} {b} r h a =
      record { asked = r.asked; high = omega (arith, r.high); each = λ G T δ N w. more G T δ N w }
    where
      more : ForNest table plan cells p before (λ (G : Groups) (T : PartTests) (δ : Point). ReadyFrom cells p G T δ after (2 * s + bool_byte b) (i - 1))
      more G T δ N w =
          let x = r.each G T δ N w in
          let z = x.stepped in
          let y = a.left G T z.point N z.shows in
          record {
            stepped = record { point = y.point; shows = y.shows; beside = beside-twice z.beside y.beside; number = λ e. absurd (never e) };
            bits = more-bits b (omega arith) (omega (arith, r.high))
                (a.is G T z.point N z.shows
                ∙ ap (λ (t : ℕ). T.ready t (i - 1)) (number-apart cells G.abstracts (G.inputs ++ G.readying) δ z.point (abstracts-ready N) z.beside))
                refl x.bits;
          }

  -- the number stays small
  pub ready-small : {before slots : List (List ℤ)} {s i : ℕ} → Readying table plan cells p before slots s i → 0 < i → 2 * s + 1 < 2 ^ 64
  ready-small r h =
      let q = r.asked in bits-fit (r.each q.groups q.tests q.point q.nest q.shows).bits (omega (arith, r.high, q.nest.sized.inputs.few))

  pub ready-done : {before slots : List (List ℤ)} {s i : ℕ} → Readying table plan cells p before slots s i → i ≤ 0 → ReadyAnswers table plan cells p before slots s
  ready-done {before} {slots} {s} {i} r h =
      record { bits = λ G T δ N w j l. bits G T δ N w j l; left = λ G T δ N w. (r.each G T δ N w).stepped }
    where
      bits : ForNest table plan cells p before (λ (G : Groups) (T : PartTests) (δ : Point). (j : ℕ) → j < p.inputs.bindings → has s j ≡ T.ready (number_of cells G.abstracts δ) j)
      bits G T δ N w j l =
          let z : i + j ≡ j = omega arith in
          (r.each G T δ N w).bits.each j (omega arith) ∙ ap (T.ready (number_of cells G.abstracts δ)) z
