-- A loop of the nest at its next candidate: a search from where it stands. Assumes nothing.
-- Form 8: a law for each loop, over the records of specs/ for what its search answers, which differ; what the five have in common is `at-step` and `at_open` of `LoopStates`.
use mathlib.Core.Path.{◌≡◌, sym, ap, ap₂, subst, ◌∙◌}
use mathlib.Core.Bool.{Bool, true, false}
use mathlib.Core.List.{List}
use Prim.Native.Nat.{ℕ, ◌+◌, ◌*◌, ◌/◌, ◌%◌, ◌<◌, ◌≤◌}
use native.Mathlib.Nat.{mul-pos, le_trans}
use native.Mathlib.Omega.{arith}
use lib.IntN.{ℤ}
use Rattle.plans.specs.PointsPoints.{Point, number_of, Beside, Apart}
use Rattle.plans.specs.PointsSearches.{Sought}
use Rattle.plans.proofs.PointsPointNumbers.{number-apart, sought-same}
use Rattle.plans.specs.declared.Part.{Part}
use Rattle.idle_variables.specs.KeyPromises.{key_in}
use Rattle.nest_steps.specs.declared.blocks.Masks.{Masks}
use Rattle.nest_steps.specs.PartTests.{PartTests, passing}
use Rattle.nest_steps.specs.PassedBlocks.{PairPasses}
use Rattle.nest_steps.specs.OpenBlocks.{pair_group, OpenConcrete, OpenAbstract}
use Rattle.nest_steps.specs.NestPromises.{Groups, Sized, Nest, NestAsked, InputAnswers, OutputAnswers, AfterAnswers}
use Rattle.nest_steps.proofs.KeptGroups.{abstracts-concretes, abstracts-inputs, abstracts-outputs, abstracts-primes, concretes-inputs, concretes-outputs}
use Rattle.nest_steps.proofs.KeptGroups.{concretes-primes, inputs-outputs, inputs-primes, outputs-primes, front_out, asked-after}
use Rattle.nest_steps.proofs.PassingBlocks.{ready-block, front-block, steps-block}
use Rattle.nest.proofs.LoopStates.{Standing, at-step, at_open, per_input, per_concrete, per_abstract, StateHolds, RelatedHolds, ReadyHolds, FrontHolds}
use Rattle.nest.proofs.BlockPlaces.{pair-places, whole-places}
use Rattle.nest.proofs.LoopStates.{OfAbstract, OfConcrete, OfInput, OfOutput, InAbstracts, InConcretes, InInputs, InOutputs, InAfters}

-- ---- sizes

pub some-input : {cells : List ℕ} {p : Part} {G : Groups} → Sized cells p G → 0 < per_input p
some-input z = mul-pos z.some_o z.some_k

pub some-concrete : {cells : List ℕ} {p : Part} {G : Groups} → Sized cells p G → 0 < per_concrete p
some-concrete z = mul-pos z.some_i (some-input z)

pub some-abstract : {cells : List ℕ} {p : Part} {G : Groups} → Sized cells p G → 0 < per_abstract p
some-abstract z = mul-pos z.some_c (some-concrete z)

-- ---- the numbers of groups that a search does not write

module _ {cells : List ℕ} {G : Groups} (ss : List ℕ) {δ ε : Point} (b : Beside ss δ ε) where
  pub keep-abstract : {a : ℕ} → Apart G.abstracts ss → OfAbstract cells G a δ → OfAbstract cells G a ε
  keep-abstract x w = record { abstract_is = number-apart cells G.abstracts ss δ ε x b ∙ w.abstract_is }

  keep-concrete : {a c : ℕ} → Apart G.abstracts ss → Apart G.concretes ss → OfConcrete cells G a c δ → OfConcrete cells G a c ε
  keep-concrete x y w = record { up = keep-abstract x w.up; concrete_is = number-apart cells G.concretes ss δ ε y b ∙ w.concrete_is }

  keep-input : {a c i : ℕ} → Apart G.abstracts ss → Apart G.concretes ss → Apart G.inputs ss → OfInput cells G a c i δ → OfInput cells G a c i ε
  keep-input x y z w = record { up = keep-concrete x y w.up; input_is = number-apart cells G.inputs ss δ ε z b ∙ w.input_is }

  pub keep-output : {a c i o : ℕ} → Apart G.abstracts ss → Apart G.concretes ss → Apart G.inputs ss → Apart G.outputs ss → OfOutput cells G a c i o δ
      → OfOutput cells G a c i o ε
  keep-output x y z v w = record { up = keep-input x y z w.up; output_is = number-apart cells G.outputs ss δ ε v b ∙ w.output_is }

lower : (x y c d : ℕ) → x ≤ y + c → c ≤ d → x ≤ y + d
lower x y c d h g = omega arith

pub no_outer : (n u : ℕ) → 0 * n + u ≡ u
no_outer n u = omega arith

-- after states by the numbers that the slots have
afters_of : (T : PartTests) (c i o u v w b n d : ℕ) → u ≡ c → v ≡ i → w ≡ o → T.front c i o ≡ true → (T.front u v w ≡ true → Sought (T.steps u v w) b n d)
    → Sought (T.steps c i o) b n d
afters_of T c i o u v w b n d e f g h r =
    subst (λ (t : ℕ). Sought (T.steps t i o) b n d) e
    (subst (λ (t : ℕ). Sought (T.steps u t o) b n d) f
    (subst (λ (t : ℕ). Sought (T.steps u v t) b n d) g
    (r (ap (T.front u v) g ∙ ap (λ (t : ℕ). T.front u t o) f ∙ ap (λ (t : ℕ). T.front t i o) e ∙ h))))

module _ {table plan cells : List ℕ} {p : Part} {from end : ℕ} {before after : List (List ℤ)} (q : NestAsked table plan cells p before) where
  pub step-abstracts : {b d : ℕ} → from / per_abstract p ≤ b
      → ((G : Groups) (T : PartTests) → Nest table plan cells p G T
      → Standing cells before (λ (δ : Point). Unit {0}) (Unit {0}) (passing p T) from end ((0 * p.abstracts.bindings + b) * per_abstract p))
      → OpenAbstract table plan cells p b before after d
      → InAbstracts table plan cells p from end d after
  step-abstracts {b} {d} low w r =
      record {
        asked = asked-after (λ G. G.abstracts) q r.left;
        low = le_trans low r.low;
        high = r.high;
        each = λ G T N. (let z = N.sized in
            at_open G.abstracts T.state p.abstracts.bindings (per_abstract p) 0 b d after (some-abstract z) (w G T N) (r.found G T N)
            (r.left G T (w G T N).point N (w G T N).shows) (λ ε _. tt)
            (λ e l g j h. whole-places p T z.some_i z.some_o z.some_k z.some_c e (r.past G T N e l g) j (h ∙ no_outer p.abstracts.bindings e)));
      }

  -- with the mark of the abstract state
  pub step-concretes : {a mask b d mark : ℕ} {m : Masks} → from / per_concrete p ≤ a * p.concretes.bindings + b
      → ((G : Groups) (T : PartTests) → Nest table plan cells p G T
      → Standing cells before (OfAbstract cells G a) (StateHolds p T a mask) (passing p T) from end ((a * p.concretes.bindings + b) * per_concrete p))
      → mark ≡ key_in cells (pair_group p m) a + 1
      → OpenConcrete table plan cells p m mark b before after d
      → InConcretes table plan cells p from end a mask d after
  step-concretes {a} {mask} {b} {d} {mark} {m} low w k r =
      record {
        asked = asked-after (λ G. G.concretes) q r.left;
        low = lower _ _ _ _ low r.low;
        high = r.high;
        each = λ G T N. at_open G.concretes (T.related a) p.concretes.bindings (per_concrete p) a b d after (some-concrete N.sized) (w G T N)
            (λ h. sym (ap (λ (t : ℕ). T.related t d) (w G T N).numbers.abstract_is) ∙ r.found G T (w G T N).point N (w G T N).shows h)
            (r.left G T (w G T N).point N (w G T N).shows)
            (λ ε h. keep-abstract G.concretes h (abstracts-concretes N) (w G T N).numbers)
            (λ e l g j h. pair-places p T N.sized.some_i N.sized.some_o N.sized.some_k a e (inside e g) (over G T N e l g) j h);
      }
    where
      inside : (e : ℕ) → e < d → e < p.concretes.bindings
      inside e g = omega (arith, r.high)

      over : (G : Groups) (T : PartTests) → Nest table plan cells p G T → (e : ℕ) → b ≤ e → e < d → PairPasses p T a e
      over G T N e l g =
          let v = w G T N in
          subst (λ (t : ℕ). PairPasses p T t e) v.numbers.abstract_is
          (r.past G T v.point N v.shows (k ∙ sym (ap (λ (t : ℕ). key_in cells (pair_group p m) t + 1) v.numbers.abstract_is)) e l g)

  pub step-inputs : {a mask c b d : ℕ} → from / per_input p ≤ (a * p.concretes.bindings + c) * p.inputs.bindings + b
      → ((G : Groups) (T : PartTests) → Nest table plan cells p G T
      → Standing cells before (OfConcrete cells G a c) (RelatedHolds p T a mask c) (passing p T) from end (((a * p.concretes.bindings + c) * p.inputs.bindings + b) * per_input p))
      → InputAnswers cells p mask b before after d
      → InInputs table plan cells p from end a mask c d after
  step-inputs {a} {mask} {c} {b} {d} low w r =
      record {
        asked = asked-after (λ G. G.inputs) q (r.left table plan);
        low = lower _ _ _ _ low r.sought.low;
        high = r.sought.high;
        each = λ G T N. at-step G.inputs (T.ready a) p.inputs.bindings (per_input p) (a * p.concretes.bindings + c) b d after (some-input N.sized) (w G T N)
            (sought-same r.sought (w G T N).fixed.up.bits)
            (r.left table plan G T (w G T N).point N (w G T N).shows)
            (λ ε h. keep-concrete G.inputs h (abstracts-inputs N) (concretes-inputs N) (w G T N).numbers)
            (λ j e l h. ready-block T p.concretes.bindings p.inputs.bindings p.outputs.bindings p.primes.bindings a c j (w G T N).fixed.low e h);
      }

  pub step-outputs : {a mask c i b d : ℕ} → from / p.primes.bindings ≤ ((a * p.concretes.bindings + c) * p.inputs.bindings + i) * p.outputs.bindings + b
      → ((G : Groups) (T : PartTests) → Nest table plan cells p G T
      → Standing cells before (OfInput cells G a c i) (ReadyHolds p T a mask c i) (passing p T) from end ((((a * p.concretes.bindings + c) * p.inputs.bindings + i) * p.outputs.bindings + b) * p.primes.bindings))
      → OutputAnswers table plan cells p b before after d
      → InOutputs table plan cells p from end a mask c i d after
  step-outputs {a} {mask} {c} {i} {b} {d} low w r =
      let s = r.sought q.groups q.tests q.point q.nest q.shows in
      record {
        asked = asked-after (λ G. G.outputs) q r.left;
        low = lower _ _ _ _ low s.low;
        high = s.high;
        each = λ G T N. at-step G.outputs (T.front c i) p.outputs.bindings p.primes.bindings ((a * p.concretes.bindings + c) * p.inputs.bindings + i) b d after N.sized.some_k (w G T N)
            (here G T N) (r.left G T (w G T N).point N (w G T N).shows)
            (λ ε h. keep-input G.outputs h (abstracts-outputs N) (concretes-outputs N) (inputs-outputs N) (w G T N).numbers)
            (λ j e l h. front-block T p.concretes.bindings p.inputs.bindings p.outputs.bindings p.primes.bindings a c i j (w G T N).fixed.up.low (w G T N).fixed.low N.sized.some_k e
            (λ k g. excluded G T N (j / p.primes.bindings % p.outputs.bindings) k l g h));
      }
    where
      here : (G : Groups) (T : PartTests) (N : Nest table plan cells p G T) → Sought (T.front c i) b p.outputs.bindings d
      here G T N =
          let v = (w G T N).numbers in
          subst (λ (t : ℕ). Sought (T.front c t) b p.outputs.bindings d) v.input_is
          (subst (λ (t : ℕ). Sought (T.front t (number_of cells G.inputs (w G T N).point)) b p.outputs.bindings d) v.up.concrete_is
          (r.sought G T (w G T N).point N (w G T N).shows))

      excluded : (G : Groups) (T : PartTests) (N : Nest table plan cells p G T) (o k : ℕ) → o < p.outputs.bindings → k < p.primes.bindings → T.front c i o ≡ false → T.steps c i o k ≡ false
      excluded G T N o k l g h =
          let v = (w G T N).numbers in
          sym (ap₂ (λ (x y : ℕ). T.steps x y o k) v.up.concrete_is v.input_is)
          ∙ front_out N (w G T N).point (w G T N).shows.tame o k l g (ap₂ (λ (x y : ℕ). T.front x y o) v.up.concrete_is v.input_is ∙ h)

  -- what the search for after states found, by the numbers that are chosen
  pub sought-afters : {G : Groups} {T : PartTests} {a mask c i o b d x : ℕ} {f : ℕ → Bool} → Nest table plan cells p G T
      → Standing cells before (OfOutput cells G a c i o) (FrontHolds p T a mask c i o) f from end x → AfterAnswers table plan cells p b before after d
      → Sought (T.steps c i o) b p.primes.bindings d
  sought-afters {G} {T} {a} {mask} {c} {i} {o} {b} {d} N w r =
      afters_of T c i o _ _ _ b p.primes.bindings d w.numbers.up.up.concrete_is w.numbers.up.input_is w.numbers.output_is w.fixed.front
      (r.sought G T w.point N w.shows)

  pub step-afters : {a mask c i o b d : ℕ} → from ≤ (((a * p.concretes.bindings + c) * p.inputs.bindings + i) * p.outputs.bindings + o) * p.primes.bindings + b
      → ((G : Groups) (T : PartTests) → Nest table plan cells p G T
      → Standing cells before (OfOutput cells G a c i o) (FrontHolds p T a mask c i o) (passing p T) from end
      (((((a * p.concretes.bindings + c) * p.inputs.bindings + i) * p.outputs.bindings + o) * p.primes.bindings + b) * 1))
      → AfterAnswers table plan cells p b before after d
      → InAfters table plan cells p from end a mask c i o d after
  step-afters {a} {mask} {c} {i} {o} {b} {d} low w r =
      let s = sought-afters q.nest (w q.groups q.tests q.nest) r in
      record {
        asked = asked-after (λ G. G.primes) q r.left;
        low = lower _ _ _ _ low s.low;
        high = s.high;
        each = λ G T N. at-step G.primes (T.steps c i o) p.primes.bindings 1 (((a * p.concretes.bindings + c) * p.inputs.bindings + i) * p.outputs.bindings + o) b d after (omega arith) (w G T N)
            (sought-afters N (w G T N) r) (r.left G T (w G T N).point N (w G T N).shows)
            (λ ε h. keep-output G.primes h (abstracts-primes N) (concretes-primes N) (inputs-primes N) (outputs-primes N) (w G T N).numbers)
            (λ j e l h. steps-block T p.concretes.bindings p.inputs.bindings p.outputs.bindings p.primes.bindings a c i o j (w G T N).fixed.up.up.low (w G T N).fixed.up.low (w G T N).fixed.low e h);
      }

-- ---- a search goes forward

module _ {table plan cells : List ℕ} {p : Part} {before after : List (List ℤ)} {b d : ℕ} (q : NestAsked table plan cells p before) where
  pub rise-outputs : OutputAnswers table plan cells p b before after d → b ≤ d
  rise-outputs r = (r.sought q.groups q.tests q.point q.nest q.shows).low
