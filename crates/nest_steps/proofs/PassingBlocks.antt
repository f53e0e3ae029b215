-- Where a premise is false, all bindings pass; by the digits of a place, and so by blocks. Assumes nothing.
use mathlib.Core.Path.{◌≡◌, refl, sym, ap, ◌∙◌}
use mathlib.Core.Bool.{Bool, true, false, not, ◌&&◌, ◌||◌}
use Prim.Native.Nat.{ℕ, ◌+◌, ◌*◌, ◌/◌, ◌%◌, ◌<◌}
use native.Mathlib.Nat.{mod-lt, div-one, div-div-eq-div-mul, mul_comm}
use lib.Arith.{digits_div, digits_mod}
use Rattle.nest_steps.specs.PartTests.{PartTests, passes_at, passes_from}

abbrev passing : (p q r s m : Bool) → Bool
passing p q r s m = not (p && q && r && s) || m

second-out : (p r s m : Bool) → passing p false r s m ≡ true
second-out true r s m = refl
second-out false r s m = refl

third-out : (p q s m : Bool) → passing p q false s m ≡ true
third-out true true s m = refl
third-out true false s m = refl
third-out false q s m = refl

fourth-out : (p q r m : Bool) → passing p q r false m ≡ true
fourth-out true true true m = refl
fourth-out true true false m = refl
fourth-out true false r m = refl
fourth-out false q r m = refl

module _ (T : PartTests) (a c i o k : ℕ) where
  pub no-state : T.state a ≡ false → passes_at T a c i o k ≡ true
  unfolding passes_at
  no-state h = ap (λ (p : Bool). passing p (T.related a c) (T.ready a i) (T.steps c i o k) (T.met a c i o k)) h

  pub no-related : T.related a c ≡ false → passes_at T a c i o k ≡ true
  unfolding passes_at
  no-related h = ap (λ (p : Bool). passing (T.state a) p (T.ready a i) (T.steps c i o k) (T.met a c i o k)) h ∙ second-out (T.state a) _ _ _

  no-ready : T.ready a i ≡ false → passes_at T a c i o k ≡ true
  unfolding passes_at
  no-ready h = ap (λ (p : Bool). passing (T.state a) (T.related a c) p (T.steps c i o k) (T.met a c i o k)) h ∙ third-out (T.state a) (T.related a c) _ _

  no_steps : T.steps c i o k ≡ false → passes_at T a c i o k ≡ true
  unfolding passes_at
  no_steps h =
      ap (λ (p : Bool). passing (T.state a) (T.related a c) (T.ready a i) p (T.met a c i o k)) h ∙ fourth-out (T.state a) (T.related a c) (T.ready a i) _

  pub premises-hold : T.state a ≡ true → T.related a c ≡ true → T.ready a i ≡ true → T.steps c i o k ≡ true → passes_at T a c i o k ≡ T.met a c i o k
  unfolding passes_at
  premises-hold e f g h = cc

-- two divisions are one
pub div_in : (j n s : ℕ) → j / s / n ≡ j / (n * s)
div_in j n s = div-div-eq-div-mul j s n ∙ ap (λ (m : ℕ). j / m) (mul_comm s n)

module _ (T : PartTests) (nc ni nq nk : ℕ) where
  -- the digits of a place by the sizes of blocks
  by-input : (j : ℕ) → j / (nq * nk) ≡ j / nk / nq
  by-input j = sym (div_in j nq nk)

  ready_at : (a c j u : ℕ) → c < nc → u ≡ j / nk / nq → u / ni ≡ a * nc + c → T.ready a (u % ni) ≡ false → passes_from T nc ni nq nk j ≡ true
  unfolding passes_from
  ready_at a c j u l w e h =
      no-ready T _ _ _ _ _
      (sym (ap (λ (t : ℕ). T.ready (t / ni / nc) (t % ni)) w)
      ∙ ap (λ (t : ℕ). T.ready (t / nc) (u % ni)) e
      ∙ ap (λ (t : ℕ). T.ready t (u % ni)) (digits_div a l)
      ∙ h)

  pub ready-block : (a c j : ℕ) → c < nc → j / (nq * nk) / ni ≡ a * nc + c → T.ready a (j / (nq * nk) % ni) ≡ false → passes_from T nc ni nq nk j ≡ true
  ready-block a c j l e h = ready_at a c j _ l (by-input j) e h

  -- the concrete digit and the inputs' of a block of outputs
  concrete-digit : (a c i y : ℕ) → c < nc → i < ni → y ≡ (a * nc + c) * ni + i → y / ni % nc ≡ c
  concrete-digit a c i y l m e = ap (λ (t : ℕ). t / ni % nc) e ∙ ap (λ (t : ℕ). t % nc) (digits_div (a * nc + c) m) ∙ digits_mod a l

  input-digit : (a c i y : ℕ) → i < ni → y ≡ (a * nc + c) * ni + i → y % ni ≡ i
  input-digit a c i y m e = ap (λ (t : ℕ). t % ni) e ∙ digits_mod (a * nc + c) m

  pub front-block : (a c i j : ℕ) → c < nc → i < ni → 0 < nk → j / nk / nq ≡ (a * nc + c) * ni + i
      → ((k : ℕ) → k < nk → T.steps c i (j / nk % nq) k ≡ false) → passes_from T nc ni nq nk j ≡ true
  unfolding passes_from
  front-block a c i j l m h e w =
      no_steps T _ _ _ _ _
      (ap (λ (t : ℕ). T.steps t (j / nk / nq % ni) (j / nk % nq) (j % nk)) (concrete-digit a c i _ l m e)
      ∙ ap (λ (t : ℕ). T.steps c t (j / nk % nq) (j % nk)) (input-digit a c i _ m e)
      ∙ w (j % nk) (mod-lt j h))

  steps-at : (a c i o j u : ℕ) → c < nc → i < ni → o < nq → u ≡ j → u / nk ≡ ((a * nc + c) * ni + i) * nq + o → T.steps c i o (u % nk) ≡ false
      → passes_from T nc ni nq nk j ≡ true
  unfolding passes_from
  steps-at a c i o j u l m n w e h =
      let q : j / nk / nq ≡ (a * nc + c) * ni + i = ap (λ (t : ℕ). t / nk / nq) (sym w) ∙ ap (λ (t : ℕ). t / nq) e ∙ digits_div ((a * nc + c) * ni + i) n in
      let r : j / nk % nq ≡ o = ap (λ (t : ℕ). t / nk % nq) (sym w) ∙ ap (λ (t : ℕ). t % nq) e ∙ digits_mod ((a * nc + c) * ni + i) n in
      no_steps T _ _ _ _ _
      (ap (λ (t : ℕ). T.steps t (j / nk / nq % ni) (j / nk % nq) (j % nk)) (concrete-digit a c i _ l m q)
      ∙ ap (λ (t : ℕ). T.steps c t (j / nk % nq) (j % nk)) (input-digit a c i _ m q)
      ∙ ap (λ (t : ℕ). T.steps c i t (j % nk)) r
      ∙ ap (λ (t : ℕ). T.steps c i o (t % nk)) (sym w)
      ∙ h)

  pub steps-block : (a c i o j : ℕ) → c < nc → i < ni → o < nq → j / 1 / nk ≡ ((a * nc + c) * ni + i) * nq + o → T.steps c i o (j / 1 % nk) ≡ false
      → passes_from T nc ni nq nk j ≡ true
  steps-block a c i o j l m n e h = steps-at a c i o j _ l m n (div-one j) e h

  -- the test at a place is the test at its digits
  pub passes-here : (a c i o k : ℕ) → c < nc → i < ni → o < nq → k < nk
      → passes_from T nc ni nq nk ((((a * nc + c) * ni + i) * nq + o) * nk + k) ≡ passes_at T a c i o k
  unfolding passes_from
  passes-here a c i o k lc li lo lk =
      simp (
        digits_div (((a * nc + c) * ni + i) * nq + o) lk,
        digits_mod (((a * nc + c) * ni + i) * nq + o) lk,
        digits_div ((a * nc + c) * ni + i) lo,
        digits_mod ((a * nc + c) * ni + i) lo,
        digits_div (a * nc + c) li,
        digits_mod (a * nc + c) li,
        digits_div a lc,
        digits_mod a lc,
      )
