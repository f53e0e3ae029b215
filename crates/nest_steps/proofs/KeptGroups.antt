-- Which groups keep their values when a search writes others; outputs that the front excludes have no after state; what is asked holds behind a search. Assumes nothing.
use mathlib.Core.Path.{◌≡◌, sym, ap, ap₂, subst, ◌∙◌}
use mathlib.Core.Bool.{false}
use mathlib.Core.Logic.{⊎_elim}
use mathlib.Core.List.{List, [], ◌∷◌, ◌++◌}
use Prim.Native.Nat.{ℕ, ◌<◌}
use lib.IntN.{ℤ}
use Rattle.meaning.proofs.Members.{among-left, among-right, among-append}
use Rattle.points.specs.Points.{Point, span, number_of, placed, Tame, Beside, Apart, Distinct, no_slots, more_slots}
use Rattle.points.proofs.PointNumbers.{Counts, number-apart, beside_placed, tame-placed, number-placed}
use Rattle.points.proofs.SearchLevels.{planned-counts, planned-front, planned-rest, front-false}
use Rattle.plans.specs.declared.Part.{Part}
use Rattle.nest_steps.specs.PartTests.{PartTests}
use Rattle.nest_steps.specs.NestPromises.{Groups, Nest, NestAsked, Stepped, ForNest}

apart-left : (us ss ts : List ℕ) → Apart us (ss ++ ts) → Apart us ss
apart-left us ss ts a = record { none = λ s m n. a.none s m (among-left s ss ts n) }

apart-right : (us ss ts : List ℕ) → Apart us (ss ++ ts) → Apart us ts
apart-right us ss ts a = record { none = λ s m n. a.none s m (among-right s ss ts n) }

apart-both : (us ss ts : List ℕ) → Apart us ss → Apart us ts → Apart us (ss ++ ts)
apart-both us ss ts a b = record { none = λ s m n. ⊎_elim (λ l. a.none s m l) (λ r. b.none s m r) (among-append s ss ts n) }

pub distinct-left : (ss ts : List ℕ) → Distinct (ss ++ ts) → Distinct ss
distinct-left [] ts d = no_slots
distinct-left (s ∷ ss) ts (more_slots n d) = more_slots (λ m. n (among-left s ss ts m)) (distinct-left ss ts d)

pub distinct-right : (ss ts : List ℕ) → Distinct (ss ++ ts) → Distinct ts
distinct-right [] ts d = d
distinct-right (s ∷ ss) ts (more_slots n d) = distinct-right ss ts d

-- first the one group is written, then the other
pub beside-both : (ss ts : List ℕ) (δ ε φ : Point) → Beside ss δ ε → Beside ts ε φ → Beside (ss ++ ts) δ φ
beside-both ss ts δ ε φ a b =
    record { same = λ s n. b.same s (λ m. n (among-right s ss ts m)) ∙ a.same s (λ m. n (among-left s ss ts m)) }

module _ {table plan cells : List ℕ} {p : Part} {G : Groups} {T : PartTests} (N : Nest table plan cells p G T) where
  pub abstracts-concretes : Apart G.abstracts G.concretes
  abstracts-concretes = apart-left G.abstracts G.concretes _ N.apart_abstracts

  behind_concretes : Apart G.abstracts (G.inputs ++ (G.outputs ++ (G.primes ++ (G.readying ++ G.meeting))))
  behind_concretes = apart-right G.abstracts G.concretes _ N.apart_abstracts

  pub abstracts-inputs : Apart G.abstracts G.inputs
  abstracts-inputs = apart-left G.abstracts G.inputs _ behind_concretes

  behind_inputs : Apart G.abstracts (G.outputs ++ (G.primes ++ (G.readying ++ G.meeting)))
  behind_inputs = apart-right G.abstracts G.inputs _ behind_concretes

  pub abstracts-outputs : Apart G.abstracts G.outputs
  abstracts-outputs = apart-left G.abstracts G.outputs _ behind_inputs

  behind_outputs : Apart G.abstracts (G.primes ++ (G.readying ++ G.meeting))
  behind_outputs = apart-right G.abstracts G.outputs _ behind_inputs

  pub abstracts-primes : Apart G.abstracts G.primes
  abstracts-primes = apart-left G.abstracts G.primes _ behind_outputs

  behind-primes : Apart G.abstracts (G.readying ++ G.meeting)
  behind-primes = apart-right G.abstracts G.primes _ behind_outputs

  pub abstracts-readying : Apart G.abstracts G.readying
  abstracts-readying = apart-left G.abstracts G.readying _ behind-primes

  pub abstracts-ready : Apart G.abstracts (G.inputs ++ G.readying)
  abstracts-ready = apart-both G.abstracts G.inputs G.readying abstracts-inputs abstracts-readying

  pub abstracts-meeting : Apart G.abstracts G.meeting
  abstracts-meeting = apart-right G.abstracts G.readying G.meeting behind-primes

  pub concretes-inputs : Apart G.concretes G.inputs
  concretes-inputs = apart-left G.concretes G.inputs _ N.apart_concretes

  concretes-rest : Apart G.concretes (G.outputs ++ (G.primes ++ G.meeting))
  concretes-rest = apart-right G.concretes G.inputs _ N.apart_concretes

  pub concretes-outputs : Apart G.concretes G.outputs
  concretes-outputs = apart-left G.concretes G.outputs _ concretes-rest

  concretes-last : Apart G.concretes (G.primes ++ G.meeting)
  concretes-last = apart-right G.concretes G.outputs _ concretes-rest

  pub concretes-primes : Apart G.concretes G.primes
  concretes-primes = apart-left G.concretes G.primes G.meeting concretes-last

  pub concretes-meeting : Apart G.concretes G.meeting
  concretes-meeting = apart-right G.concretes G.primes G.meeting concretes-last

  pub inputs-outputs : Apart G.inputs G.outputs
  inputs-outputs = apart-left G.inputs G.outputs _ N.apart_inputs

  inputs-rest : Apart G.inputs (G.primes ++ (G.readying ++ G.meeting))
  inputs-rest = apart-right G.inputs G.outputs _ N.apart_inputs

  pub inputs-primes : Apart G.inputs G.primes
  inputs-primes = apart-left G.inputs G.primes _ inputs-rest

  pub inputs-meeting : Apart G.inputs G.meeting
  inputs-meeting = apart-right G.inputs G.readying G.meeting (apart-right G.inputs G.primes _ inputs-rest)

  pub outputs-primes : Apart G.outputs G.primes
  outputs-primes = apart-left G.outputs G.primes G.meeting N.apart_outputs

  pub outputs-meeting : Apart G.outputs G.meeting
  outputs-meeting = apart-right G.outputs G.primes G.meeting N.apart_outputs

  -- outputs that the front excludes allow no after state
  pub front_out : (δ : Point) → Tame cells δ → (o k : ℕ) → o < p.outputs.bindings → k < p.primes.bindings → T.front (number_of cells G.concretes δ) (number_of cells G.inputs δ) o ≡ false
      → T.steps (number_of cells G.concretes δ) (number_of cells G.inputs δ) o k ≡ false
  front_out δ τ o k ho hk h = sym (ap₂ (λ (c i : ℕ). T.steps c i o k) c_is i-is) ∙ (sym (ap₂ (λ (x y : ℕ). T.steps c' i' x y) o_is k-is) ∙ out)
    where
      few_o : Counts cells G.outputs
      few_o = planned-counts (planned-front G.outputs G.primes N.steps.planned)

      few_k : Counts cells G.primes
      few_k = planned-counts (planned-rest G.outputs G.primes N.steps.planned)

      o_low : o < span cells G.outputs
      o_low = subst (λ (n : ℕ). o < n) N.sized.outputs.counted ho

      k_low : k < span cells G.primes
      k_low = subst (λ (n : ℕ). k < n) N.sized.primes.counted hk

      tame : Tame cells (placed cells G.primes (placed cells G.outputs δ o) k)
      tame = tame-placed cells G.primes _ k (tame-placed cells G.outputs δ o τ few_o o_low) few_k k_low

      c' : ℕ
      c' = number_of cells G.concretes (placed cells G.primes (placed cells G.outputs δ o) k)

      i' : ℕ
      i' = number_of cells G.inputs (placed cells G.primes (placed cells G.outputs δ o) k)

      kept : (us : List ℕ) → Apart us G.outputs → Apart us G.primes
          → number_of cells us (placed cells G.primes (placed cells G.outputs δ o) k) ≡ number_of cells us δ
      kept us a b =
          number-apart cells us G.primes _ _ b (beside_placed cells G.primes _ k) ∙ number-apart cells us G.outputs _ _ a (beside_placed cells G.outputs δ o)

      c_is : c' ≡ number_of cells G.concretes δ
      c_is = kept G.concretes concretes-outputs concretes-primes

      i-is : i' ≡ number_of cells G.inputs δ
      i-is = kept G.inputs inputs-outputs inputs-primes

      o_is : number_of cells G.outputs (placed cells G.primes (placed cells G.outputs δ o) k) ≡ o
      o_is =
          number-apart cells G.outputs G.primes _ _ outputs-primes (beside_placed cells G.primes _ k)
          ∙ number-placed cells G.outputs δ o (distinct-left G.outputs G.primes N.steps.distinct) few_o o_low

      k-is : number_of cells G.primes (placed cells G.primes (placed cells G.outputs δ o) k) ≡ k
      k-is = number-placed cells G.primes _ k (distinct-right G.outputs G.primes N.steps.distinct) few_k k_low

      out : T.steps c' i' (number_of cells G.outputs (placed cells G.primes (placed cells G.outputs δ o) k))
          (number_of cells G.primes (placed cells G.primes (placed cells G.outputs δ o) k)) ≡ false
      out =
          front-false G.outputs G.primes N.steps _ tame
          (N.front_is _ tame ∙ ap (T.front c' i') o_is ∙ ap₂ (λ (c i : ℕ). T.front c i o) c_is i-is ∙ h)

-- the arrays can be asked again behind a search
pub asked-after : {table plan cells : List ℕ} {p : Part} {before after : List (List ℤ)} (ss : Groups → List ℕ) {e r : ℕ} → NestAsked table plan cells p before
    → ForNest table plan cells p before (λ (G : Groups) (T : PartTests) (δ : Point). Stepped cells (ss G) δ e r after) → NestAsked table plan cells p after
asked-after ss q l =
    record {
      groups = q.groups;
      tests = q.tests;
      point = (l q.groups q.tests q.point q.nest q.shows).point;
      nest = q.nest;
      shows = (l q.groups q.tests q.point q.nest q.shows).shows;
    }
