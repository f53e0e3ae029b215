-- The loops of the nest one inside the other: how each is entered, goes on when the one inside it is through, and is left. Assumes nothing.
use Rattle.std.specs.Prelude.{Option, None, Some}
use mathlib.Core.Path.{◌≡◌, sym, ap, subst, ◌∙◌}
use mathlib.Core.Bool.{Bool, true, false}
use mathlib.Core.List.{List, ◌++◌}
use Prim.Native.Nat.{ℕ, ◌+◌, ◌-◌, ◌*◌, ◌/◌, ◌<◌, ◌≤◌}
use native.Mathlib.Nat.{le_refl, mul-one, div-one, div-mul-le_self}
use native.Mathlib.Omega.{arith}
use lib.IntN.{ℤ}
use Rattle.plans.specs.declared.Part.{Part}
use Rattle.idle_variables.specs.KeyPromises.{key_in}
use Rattle.nest_steps.specs.declared.blocks.Masks.{Masks}
use Rattle.nest_steps.specs.PartTests.{PartTests, places, passing}
use Rattle.nest_steps.specs.NestPromises.{Groups, Nest, NestAsked, ReadyAnswers, InputAnswers, OutputAnswers, AfterAnswers}
use Rattle.nest.specs.SweepPromises.{SweepAnswers}
use Rattle.nest_steps.specs.OpenBlocks.{pair_group, OpenConcrete, OpenAbstract}
use Rattle.nest_steps.specs.Remembering.{numbered, BindingAsked, AgainAnswers}
use Rattle.nest_steps.proofs.KeptGroups.{abstracts-ready, abstracts-meeting, concretes-meeting, inputs-meeting, outputs-meeting, asked-after}
use Rattle.nest.proofs.PassedPlaces.{Past, past-before, past_same, past_more, past-leave, looked-all, looked-fault}
use Rattle.nest_steps.proofs.PassingBlocks.{premises-hold, passes-here}
use Rattle.nest.proofs.LoopStates.{Standing, stands_same, stands-in, stands-out, per_input, per_concrete, per_abstract, StateHolds, FrontHolds}
use Rattle.nest.proofs.LoopStates.{OfAbstract, OfOutput, InAbstracts, InConcretes, InInputs, InOutputs, InAfters}
use Rattle.nest.proofs.NextCandidates.{no_outer, keep-abstract, keep-output, step-abstracts, step-concretes, step-inputs, step-outputs, step-afters, sought-afters}

first-place : (n u s from : ℕ) → u * s ≤ from → (0 * n + u) * s ≤ from
first-place n u s from h = omega arith

one_more : (x y c : ℕ) → x ≤ y + c → x ≤ y + (c + 1)
one_more x y c h = omega arith

module _ {table plan cells : List ℕ} {p : Part} {from end : ℕ} where
  pub start : {a : ℕ} {s₀ s₁ : List (List ℤ)} → NestAsked table plan cells p s₀ → OpenAbstract table plan cells p (from / per_abstract p) s₀ s₁ a
      → InAbstracts table plan cells p from end a s₁
  start q r =
      step-abstracts q (le_refl _)
      (λ G T N. record {
        point = q.point;
        shows = q.shows;
        numbers = tt;
        fixed = tt;
        past = past-before _ (first-place p.abstracts.bindings _ (per_abstract p) from (div-mul-le_self from (per_abstract p)));
      })
      r

  -- ---- into a loop

  pub enter-concretes : {a mask b c mark : ℕ} {m : Masks} {s₀ s₁ s₂ : List (List ℤ)} → InAbstracts table plan cells p from end a s₀ → a < p.abstracts.bindings → ReadyAnswers table plan cells p s₀ s₁ mask
      → b ≡ from / per_concrete p - a * p.concretes.bindings → mark ≡ key_in cells (pair_group p m) a + 1 → OpenConcrete table plan cells p m mark b s₁ s₂ c
      → InConcretes table plan cells p from end a mask c s₂
  enter-concretes {a} {mask} {b} {c} {mark} {m} {s₀} {s₁} {s₂} l h y e k r =
      step-concretes (asked-after (λ G. G.inputs ++ G.readying) l.asked y.left) (omega arith) (λ G T N. stands-in p.concretes.bindings (per_concrete p) a (here G T N)) k
      (subst (λ (t : ℕ). OpenConcrete table plan cells p m mark t s₁ s₂ c) e r)
    where
      here : (G : Groups) (T : PartTests) (N : Nest table plan cells p G T)
          → Standing cells s₁ (OfAbstract cells G a) (StateHolds p T a mask) (passing p T) from end (a * (p.concretes.bindings * per_concrete p))
      here G T N =
          let w = l.each G T N in
          let z = y.left G T w.stands.point N w.stands.shows in
          record {
            point = z.point;
            shows = z.shows;
            numbers = keep-abstract (G.inputs ++ G.readying) z.beside (abstracts-ready N) (record { abstract_is = w.number h });
            fixed = record {
              state = w.holds h;
              bits = λ i g. y.bits G T w.stands.point N w.stands.shows i g ∙ ap (λ (t : ℕ). T.ready t i) (w.number h);
            };
            past = past_same (ap (λ (t : ℕ). t * per_abstract p) (no_outer p.abstracts.bindings a)) w.stands.past;
          }

  pub enter-inputs : {a mask c b i : ℕ} {s₀ s₁ : List (List ℤ)} → InConcretes table plan cells p from end a mask c s₀ → c < p.concretes.bindings
      → b ≡ from / per_input p - (a * p.concretes.bindings + c) * p.inputs.bindings → InputAnswers cells p mask b s₀ s₁ i → InInputs table plan cells p from end a mask c i s₁
  enter-inputs {a} {mask} {c} {b} {i} {s₀} {s₁} l h e r =
      step-inputs l.asked (omega arith)
      (λ G T N. stands-in p.inputs.bindings (per_input p) (a * p.concretes.bindings + c)
      (record {
        point = (l.each G T N).stands.point;
        shows = (l.each G T N).stands.shows;
        numbers = record { up = (l.each G T N).stands.numbers; concrete_is = (l.each G T N).number h };
        fixed = record { up = (l.each G T N).stands.fixed; related = (l.each G T N).holds h; low = h };
        past = (l.each G T N).stands.past;
      }))
      (subst (λ (t : ℕ). InputAnswers cells p mask t s₀ s₁ i) e r)

  pub enter-outputs : {a mask c i b o : ℕ} {s₀ s₁ : List (List ℤ)} → InInputs table plan cells p from end a mask c i s₀ → i < p.inputs.bindings
      → b ≡ from / p.primes.bindings - ((a * p.concretes.bindings + c) * p.inputs.bindings + i) * p.outputs.bindings → OutputAnswers table plan cells p b s₀ s₁ o
      → InOutputs table plan cells p from end a mask c i o s₁
  enter-outputs {a} {mask} {c} {i} {b} {o} {s₀} {s₁} l h e r =
      step-outputs l.asked (omega arith)
      (λ G T N. stands-in p.outputs.bindings p.primes.bindings ((a * p.concretes.bindings + c) * p.inputs.bindings + i)
      (record {
        point = (l.each G T N).stands.point;
        shows = (l.each G T N).stands.shows;
        numbers = record { up = (l.each G T N).stands.numbers; input_is = (l.each G T N).number h };
        fixed = record { up = (l.each G T N).stands.fixed; ready = (l.each G T N).holds h; low = h };
        past = (l.each G T N).stands.past;
      }))
      (subst (λ (t : ℕ). OutputAnswers table plan cells p t s₀ s₁ o) e r)

  pub enter_afters : {a mask c i o b k : ℕ} {s₀ s₁ : List (List ℤ)} → InOutputs table plan cells p from end a mask c i o s₀ → o < p.outputs.bindings
      → b ≡ from - (((a * p.concretes.bindings + c) * p.inputs.bindings + i) * p.outputs.bindings + o) * p.primes.bindings → AfterAnswers table plan cells p b s₀ s₁ k
      → InAfters table plan cells p from end a mask c i o k s₁
  enter_afters {a} {mask} {c} {i} {o} {b} {k} {s₀} {s₁} l h e r =
      step-afters l.asked (subst (λ (t : ℕ). from ≤ (((a * p.concretes.bindings + c) * p.inputs.bindings + i) * p.outputs.bindings + o) * p.primes.bindings + t) back (omega arith))
      (λ G T N. stands-in p.primes.bindings 1 (((a * p.concretes.bindings + c) * p.inputs.bindings + i) * p.outputs.bindings + o)
      (record {
        point = (l.each G T N).stands.point;
        shows = (l.each G T N).stands.shows;
        numbers = record { up = (l.each G T N).stands.numbers; output_is = (l.each G T N).number h };
        fixed = record { up = (l.each G T N).stands.fixed; front = (l.each G T N).holds h; low = h };
        past = past_same (ap (λ (t : ℕ). (((a * p.concretes.bindings + c) * p.inputs.bindings + i) * p.outputs.bindings + o) * t) (sym (mul-one p.primes.bindings))) (l.each G T N).stands.past;
      }))
      (subst (λ (t : ℕ). AfterAnswers table plan cells p t s₀ s₁ k) (e ∙ back) r)
    where
      back : from - (((a * p.concretes.bindings + c) * p.inputs.bindings + i) * p.outputs.bindings + o) * p.primes.bindings ≡ from / 1 - (((a * p.concretes.bindings + c) * p.inputs.bindings + i) * p.outputs.bindings + o) * p.primes.bindings
      back = ap (λ (t : ℕ). t - (((a * p.concretes.bindings + c) * p.inputs.bindings + i) * p.outputs.bindings + o) * p.primes.bindings) (sym (div-one from))

  -- ---- on, when the loop inside is through

  pub again-abstracts : {a mask c d : ℕ} {s₁ s₂ : List (List ℤ)} → from / per_abstract p ≤ a → InConcretes table plan cells p from end a mask c s₁ → p.concretes.bindings ≤ c
      → OpenAbstract table plan cells p (a + 1) s₁ s₂ d → InAbstracts table plan cells p from end d s₂
  again-abstracts {a} {mask} {c} low l h r =
      step-abstracts l.asked (omega (arith, low))
      (λ G T N. record {
        point = (l.each G T N).stands.point;
        shows = (l.each G T N).stands.shows;
        numbers = tt;
        fixed = tt;
        past = past_same (ap (λ (t : ℕ). t * per_abstract p) (sym (no_outer p.abstracts.bindings (a + 1)))) (past-leave p.concretes.bindings (per_concrete p) a c h l.high (l.each G T N).stands.past);
      })
      r

  pub again-concretes : {a mask c i d mark : ℕ} {m : Masks} {s₀ s₁ s₂ : List (List ℤ)} → InConcretes table plan cells p from end a mask c s₀
      → InInputs table plan cells p from end a mask c i s₁ → p.inputs.bindings ≤ i → mark ≡ key_in cells (pair_group p m) a + 1 → OpenConcrete table plan cells p m mark (c + 1) s₁ s₂ d
      → InConcretes table plan cells p from end a mask d s₂
  again-concretes {a} {mask} {c} {i} l n h k r =
      step-concretes n.asked (one_more _ _ c l.low)
      (λ G T N. stands-out p.inputs.bindings (per_input p) p.concretes.bindings a c i h n.high (n.each G T N).stands (λ δ v. v.up) (λ w. w.up)) k r

  pub again-inputs : {a mask c i o d : ℕ} {s₀ s₁ s₂ : List (List ℤ)} → InInputs table plan cells p from end a mask c i s₀
      → InOutputs table plan cells p from end a mask c i o s₁ → p.outputs.bindings ≤ o → InputAnswers cells p mask (i + 1) s₁ s₂ d
      → InInputs table plan cells p from end a mask c d s₂
  again-inputs {a} {mask} {c} {i} {o} l m h r =
      step-inputs m.asked (one_more _ _ i l.low)
      (λ G T N. stands-out p.outputs.bindings p.primes.bindings p.inputs.bindings (a * p.concretes.bindings + c) i o h m.high (m.each G T N).stands (λ δ n. n.up) (λ w. w.up)) r

  pub again-outputs : {a mask c i o k d : ℕ} {s₀ s₁ s₂ : List (List ℤ)} → InOutputs table plan cells p from end a mask c i o s₀
      → InAfters table plan cells p from end a mask c i o k s₁ → p.primes.bindings ≤ k → OutputAnswers table plan cells p (o + 1) s₁ s₂ d
      → InOutputs table plan cells p from end a mask c i d s₂
  again-outputs {a} {mask} {c} {i} {o} {k} l m h r =
      step-outputs m.asked (one_more _ _ o l.low)
      (λ G T N. stands_same (ap (λ (t : ℕ). (((a * p.concretes.bindings + c) * p.inputs.bindings + i) * p.outputs.bindings + (o + 1)) * t) (mul-one p.primes.bindings))
      (stands-out p.primes.bindings 1 p.outputs.bindings ((a * p.concretes.bindings + c) * p.inputs.bindings + i) o k h m.high (m.each G T N).stands (λ δ n. n.up) (λ w. w.up)))
      r

  -- ---- the binding of the innermost loop

  -- the slots show it
  pub binding-here : {a mask c i o k : ℕ} {s : List (List ℤ)} → InAfters table plan cells p from end a mask c i o k s → a < p.abstracts.bindings → c < p.concretes.bindings → i < p.inputs.bindings → o < p.outputs.bindings → k < p.primes.bindings
      → BindingAsked table plan cells p (numbered a c i o k) s
  binding-here l ha hc hi ho hk =
      let z = l.asked.nest.sized in
      record {
        asked = l.asked;
        inside = record { low_a = (ha, z.abstracts.few); low_c = (hc, z.concretes.few); low_i = (hi, z.inputs.few); low_o = (ho, z.outputs.few); low_k = (hk, z.primes.few) };
        each = λ G T N.
            let w = l.each G T N in
            let n = w.stands.numbers in
            record {
              point = w.stands.point;
              shows = w.stands.shows;
              abstract_is = n.up.up.up.abstract_is;
              concrete_is = n.up.up.concrete_is;
              input_is = n.up.input_is;
              output_is = n.output_is;
              prime_is = w.number hk;
            };
      }

  -- whether it passes
  met-here : {a mask c i o k : ℕ} {s₀ s₁ : List (List ℤ)} {known : List ℕ} {b : Bool} → InAfters table plan cells p from end a mask c i o k s₀ → k < p.primes.bindings
      → AgainAnswers table plan cells p (numbered a c i o k) s₀ s₁ known b
      → (G : Groups) (T : PartTests) → Nest table plan cells p G T → passing p T ((((a * p.concretes.bindings + c) * p.inputs.bindings + i) * p.outputs.bindings + o) * p.primes.bindings + k) ≡ b
  met-here {a} {mask} {c} {i} {o} {k} l h r G T N =
      let w = l.each G T N in
      let f = w.stands.fixed in
      passes-here T p.concretes.bindings p.inputs.bindings p.outputs.bindings p.primes.bindings a c i o k f.up.up.low f.up.low f.low h
      ∙ premises-hold T a c i o k f.up.up.up.state f.up.up.related f.up.ready (w.holds h)
      ∙ r.is G T N

  -- behind it, if it does
  behind-it : {a mask c i o k : ℕ} {s₀ s₁ : List (List ℤ)} {known : List ℕ} {b : Bool} → InAfters table plan cells p from end a mask c i o k s₀ → k < p.primes.bindings
      → AgainAnswers table plan cells p (numbered a c i o k) s₀ s₁ known b → b ≡ true → (G : Groups) (T : PartTests) → Nest table plan cells p G T
      → Standing cells s₁ (OfOutput cells G a c i o) (FrontHolds p T a mask c i o) (passing p T) from end (((((a * p.concretes.bindings + c) * p.inputs.bindings + i) * p.outputs.bindings + o) * p.primes.bindings + (k + 1)) * 1)
  behind-it {a} {mask} {c} {i} {o} {k} l h y e G T N =
      let w = l.each G T N in
      let z = y.left G T w.stands.point N w.stands.shows in
      record {
        point = z.point;
        shows = z.shows;
        numbers = keep-output G.meeting z.beside (abstracts-meeting N) (concretes-meeting N) (inputs-meeting N) (outputs-meeting N) w.stands.numbers;
        fixed = w.stands.fixed;
        past = past_more (((a * p.concretes.bindings + c) * p.inputs.bindings + i) * p.outputs.bindings + o) p.primes.bindings k w.stands.past (met-here l h y G T N ∙ e);
      }

  pub again-afters : {a mask c i o k d : ℕ} {s₀ s₁ s₂ : List (List ℤ)} {known : List ℕ} {b : Bool} → InAfters table plan cells p from end a mask c i o k s₀ → k < p.primes.bindings
      → AgainAnswers table plan cells p (numbered a c i o k) s₀ s₁ known b → b ≡ true → AfterAnswers table plan cells p (k + 1) s₁ s₂ d → InAfters table plan cells p from end a mask c i o d s₂
  again-afters {k = k} l h y e r = step-afters (asked-after (λ G. G.meeting) l.asked y.left) (one_more _ _ k l.low) (behind-it l h y e) r

  pub rise_afters : {a mask c i o k d : ℕ} {s₀ s₁ s₂ : List (List ℤ)} {known : List ℕ} {b : Bool} → InAfters table plan cells p from end a mask c i o k s₀ → k < p.primes.bindings
      → AgainAnswers table plan cells p (numbered a c i o k) s₀ s₁ known b → b ≡ true → AfterAnswers table plan cells p (k + 1) s₁ s₂ d → k + 1 ≤ d
  rise_afters l h y e r =
      let q = l.asked in
      (sought-afters (asked-after (λ G. G.meeting) q y.left) q.nest (behind-it l h y e q.groups q.tests q.nest) r).low

  -- ---- out of the nest

  answered : {x : ℕ} {failing : Option ℕ} → from ≤ end → end ≤ x → failing ≡ None
      → ((G : Groups) (T : PartTests) → Nest table plan cells p G T → Past (passing p T) from end x) → SweepAnswers table plan cells p from end failing
  answered {x} {failing} h g e w =
      subst (λ (r : Option ℕ). SweepAnswers table plan cells p from end r) (sym e) (record { looked = λ G T N. looked-all x h g (w G T N) })

  pub leave-abstracts : {a : ℕ} {failing : Option ℕ} {s : List (List ℤ)} → from ≤ end → InAbstracts table plan cells p from end a s → end ≤ a * per_abstract p → failing ≡ None
      → SweepAnswers table plan cells p from end failing
  leave-abstracts {a} h l g e =
      answered h g e (λ G T N. past_same (ap (λ (t : ℕ). t * per_abstract p) (no_outer p.abstracts.bindings a)) (l.each G T N).stands.past)

  pub leave-last : {a : ℕ} {failing : Option ℕ} {s : List (List ℤ)} → from ≤ end → InAbstracts table plan cells p from end a s → p.abstracts.bindings ≤ a
      → end ≤ places p → failing ≡ None → SweepAnswers table plan cells p from end failing
  leave-last {a} h l g m e = leave-abstracts h l (reached p.abstracts.bindings p.concretes.bindings p.inputs.bindings p.outputs.bindings p.primes.bindings a g m) e
    where
      reached : (na nc ni nq nk a : ℕ) → na ≤ a → end ≤ na * nc * ni * nq * nk → end ≤ a * (nc * (ni * (nq * nk)))
      reached na nc ni nq nk a g m =
          let k : na * (nc * (ni * (nq * nk))) ≤ a * (nc * (ni * (nq * nk))) = native.Mathlib.Nat.mul-le-mul_right (nc * (ni * (nq * nk))) g in
          let e : na * nc * ni * nq * nk ≡ na * (nc * (ni * (nq * nk))) = omega arith in
          omega arith

  pub leave-concretes : {a mask c : ℕ} {failing : Option ℕ} {s : List (List ℤ)} → from ≤ end → InConcretes table plan cells p from end a mask c s
      → end ≤ (a * p.concretes.bindings + c) * per_concrete p → failing ≡ None → SweepAnswers table plan cells p from end failing
  leave-concretes h l g e = answered h g e (λ G T N. (l.each G T N).stands.past)

  pub leave_afters : {a mask c i o k : ℕ} {failing : Option ℕ} {s : List (List ℤ)} → from ≤ end → InAfters table plan cells p from end a mask c i o k s
      → end ≤ (((a * p.concretes.bindings + c) * p.inputs.bindings + i) * p.outputs.bindings + o) * p.primes.bindings + k → failing ≡ None → SweepAnswers table plan cells p from end failing
  leave_afters h l g e = answered h g e (λ G T N. past_same (mul-one _) (l.each G T N).stands.past)

  pub leave-fault : {a mask c i o k : ℕ} {s₀ s₁ : List (List ℤ)} {known : List ℕ} {b : Bool} → InAfters table plan cells p from end a mask c i o k s₀ → k < p.primes.bindings
      → (((a * p.concretes.bindings + c) * p.inputs.bindings + i) * p.outputs.bindings + o) * p.primes.bindings + k < end → AgainAnswers table plan cells p (numbered a c i o k) s₀ s₁ known b → b ≡ false
      → SweepAnswers table plan cells p from end (Some ((((a * p.concretes.bindings + c) * p.inputs.bindings + i) * p.outputs.bindings + o) * p.primes.bindings + k))
  leave-fault l h g y e =
      record { looked = λ G T N. looked-fault _ l.low g (met-here l h y G T N ∙ e) (past_same (mul-one _) (l.each G T N).stands.past) }
