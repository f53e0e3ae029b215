-- The first bit that one mask has and another has not; states and inputs at which one side can step and the other cannot. Assumes nothing.
use mathlib.Core.Path.{◌≡◌, refl, sym, ap, ap₂, subst, ◌∙◌}
use mathlib.Core.Bool.{Bool, true, false, ◌&&◌, not}
use mathlib.Core.Logic.{◌⊎◌, inl, inr, ⊎_elim}
use mathlib.Core.List.{List}
use Prim.Native.Nat.{ℕ, ◌+◌, ◌/◌, ◌%◌, ◌<◌, ◌≤◌, ◌^◌}
use native.Mathlib.Nat.{eq-or-lt_of_le, mod-lt}
use native.Mathlib.Omega.{arith}
use Rattle.std.specs.Prelude.{Option, Some, None}
use lib.ListN.{get_or}
use lib.Dec.{eqb}
use borrow.Author.Tests.{eq-eqb, ne_eqb}
use Rattle.form.specs.Tree.{Operation, Dossier}
use Rattle.sets.specs.Sets.{has}
use Rattle.points.specs.Searches.{Sought}
use Rattle.std.proofs.lemmas.Bool.{cases_lt}
use Rattle.plans.specs.declared.Part.{Part}
use Rattle.state_facts.specs.PartTestsPartsByNumber.{abstract_state, related_to, ready_at, stepping}
use Rattle.step_searches.specs.StepPromises.{StepSearches, StepsAsked, ForSteps, Prepared, First, AbstractStateFound, RelatedStateFound}
use Rattle.step_facts.specs.declared.differences.Place.{Place}
use Rattle.step_facts.specs.FactPromises.{input_count, BitsAre, MasksAre, more, more_by, FirstMore, differs, differs_related, differs_at, FirstRelated, FirstPlace, PlaceHere, NowhereFrom, PlaceFrom, PlaceAmong, Within, PlaceIs}
use Rattle.step_searches.proofs.PartSizes.{na-is, nc-is, ni-is}
use Rattle.step_facts.proofs.AskedFacts.{unlisted}
use Rattle.lexical.proofs.BooleanTests.{and_both, and-right-false, and-left-false}

-- ---- from one number that passes to the next

-- what holds before c, at c and wherever the test fails holds before the next number that passes
pub advance : (G : ℕ → Type 0) (f : ℕ → Bool) (c next n : ℕ) → ((k : ℕ) → k < c → G k) → G c → ((k : ℕ) → f k ≡ false → G k) → Sought f (c + 1) n next
    → (k : ℕ) → k < next → G k
advance G f c next n before at skip s k l = ⊎_elim (λ h. before k h) (λ h. ⊎_elim (λ e. subst G e at) (λ g. skip k (s.past k (omega arith) l)) (eq-or-lt_of_le h)) (cases_lt k c)

-- ---- the first bit that one mask has and the other has not

pub has_more : (s m i : ℕ) → m / 2 ^ i % 2 < s / 2 ^ i % 2 → more s m i ≡ true
unfolding has
has_more s m i h =
    let a : s / 2 ^ i % 2 < 2 = mod-lt (s / 2 ^ i) (omega arith) in
    ap₂ (λ (x y : Bool). x && not y) (eq-eqb (s / 2 ^ i % 2) 1 (omega arith)) (ne_eqb (m / 2 ^ i % 2) 1 (λ e. omega arith))

pub no_more : (s m i : ℕ) → s / 2 ^ i % 2 ≤ m / 2 ^ i % 2 → more s m i ≡ false
unfolding has
no_more s m i h = go (s / 2 ^ i % 2) (m / 2 ^ i % 2) h (mod-lt (m / 2 ^ i) (omega arith))
  where
    go : (x y : ℕ) → x ≤ y → y < 2 → (eqb x 1 && not (eqb y 1)) ≡ false
    go x y h l = or (below y l)
      where
        below : (y : ℕ) → y < 2 → (y ≡ 1) ⊎ (y < 1)
        below y l = eq-or-lt_of_le (omega arith)

        or : (y ≡ 1) ⊎ (y < 1) → (eqb x 1 && not (eqb y 1)) ≡ false
        or (inl e) = ap (λ (b : Bool). eqb x 1 && not b) (eq-eqb y 1 e) ∙ and-right-false (eqb x 1) false refl
        or (inr k) = ap (λ (b : Bool). b && not (eqb y 1)) (ne_eqb x 1 (λ e. omega arith))

module _ {narrowed : Bool} {s m n : ℕ} {r : Option ℕ} where
  pub narrowed-bit : narrowed ≡ true → First (more s m) 0 n r → FirstMore narrowed s m n r
  narrowed-bit e w = record { first = subst (λ (b : Bool). First (more_by b s m) 0 n r) (sym e) w }

  pub widened-bit : narrowed ≡ false → First (more m s) 0 n r → FirstMore narrowed s m n r
  widened-bit e w = record { first = subst (λ (b : Bool). First (more_by b s m) 0 n r) (sym e) w }

-- ---- the concrete states related to an abstract one

-- the bits differ where the sides do
by-sides : (d : Dossier) (op : Operation) (narrowed : Bool) (a c i s m : ℕ) → has s i ≡ ready_at d op a i → has m i ≡ stepping d op c i
    → more_by narrowed s m i ≡ differs d op narrowed a c i
by-sides d op true a c i s m e f = ap₂ (λ (x y : Bool). x && not y) e f
by-sides d op false a c i s m e f = ap₂ (λ (x y : Bool). x && not y) f e

-- a search finds the same number by a test that answers the same
first-same : {f g : ℕ → Bool} (from : ℕ) {n : ℕ} (r : Option ℕ) → First f from n r → ((k : ℕ) → k < n → f k ≡ g k) → First g from n r
first-same from None w e = λ k a l. sym (e k l) ∙ w k a l
first-same from (Some i) w e = (w.0, w.1, sym (e i w.1) ∙ w.2, λ k a l. sym (e k (omega (arith, w.1))) ∙ w.3 k a l)

-- up to c none differs; c is related
pub record Relating (table plan cells : List ℕ) (p : Part) (narrowed : Bool) (a c : ℕ) : Type 0 where
  pub high : c ≤ p.concretes.bindings
  pub none : ForSteps table plan cells p
      (λ (d : Dossier) (op : Operation). (k i : ℕ) → k < c → i < p.inputs.bindings → differs_related d op narrowed a k i ≡ false)
  pub here : ForSteps table plan cells p (λ (d : Dossier) (op : Operation). c < p.concretes.bindings → related_to d a c ≡ true)

-- what the inputs of the state c say
module _ {table plan cells : List ℕ} {p : Part} (narrowed : Bool) {a : ℕ} where
  differing : {c s m : ℕ} {r : Option ℕ} → BitsAre table plan cells p true a s → {masks : List ℕ} → MasksAre table plan cells p p.concretes.bindings masks → m ≡ get_or masks c 0 → c < p.concretes.bindings
      → FirstMore narrowed s m p.inputs.bindings r → ForSteps table plan cells p (λ (d : Dossier) (op : Operation). First (differs d op narrowed a c) 0 p.inputs.bindings r)
  differing {c} {s} {m} {r} b w e l u d op x =
      first-same 0 r u.first (λ i h. by-sides d op narrowed a c i s m (b.bits d op x i h) (ap (λ (z : ℕ). has z i) e ∙ w.each d op x c l i h))

module _ {table plan cells : List ℕ} {p : Part} {narrowed : Bool} {a : ℕ} where
  pub relating-start : {c : ℕ} → RelatedStateFound table plan cells p a 0 c → StepsAsked table plan cells p → Relating table plan cells p narrowed a c
  relating-start {c} f q = record {
    high = (f.sought q.dossier q.operation q.searches).high;
    none = λ d op x k i l h. and-left-false (related_to d a k) (differs d op narrowed a k i) ((f.sought d op x).past k (omega arith) l);
    here = λ d op x l. (f.sought d op x).found l;
  }

  module _ {masks : List ℕ} {c s m : ℕ} {r : Option ℕ} (w : Relating table plan cells p narrowed a c) (b : BitsAre table plan cells p true a s)
      (M : MasksAre table plan cells p p.concretes.bindings masks) (e : m ≡ get_or masks c 0) (l : c < p.concretes.bindings) (u : FirstMore narrowed s m p.inputs.bindings r) where
    pub place_here : {i : ℕ} → r ≡ Some i → PlaceFrom table plan cells p narrowed a (Some (record { a = a; c = c; i = i }))
    place_here {i} q = record {
      is = record {
        low = (refl, l, (subst (First (more_by narrowed s m) 0 p.inputs.bindings) q u.first).1);
        here = λ d op x. and_both (w.here d op x l) (at d op x).2;
        first = λ d op x. record {
          related = λ k j g t. w.none d op x k j g t;
          inputs = λ j g. and-right-false (related_to d a c) (differs d op narrowed a c j) ((at d op x).3 j (omega arith) g);
        };
      };
    }
      where
        at : (d : Dossier) (op : Operation) → StepSearches table plan cells p d op → First (differs d op narrowed a c) 0 p.inputs.bindings (Some i)
        at d op x = subst (First (differs d op narrowed a c) 0 p.inputs.bindings) q (differing narrowed b M e l u d op x)

    pub relating-next : {next : ℕ} → r ≡ None → RelatedStateFound table plan cells p a (c + 1) next → StepsAsked table plan cells p
        → Relating table plan cells p narrowed a next
    relating-next {next} h f q = record {
      high = (f.sought q.dossier q.operation q.searches).high;
      none = λ d op x k j g t.
          advance (λ (k : ℕ). (j : ℕ) → j < p.inputs.bindings → differs_related d op narrowed a k j ≡ false) (related_to d a) c next p.concretes.bindings
          (λ k g j t. w.none d op x k j g t)
          (λ j t. and-right-false (related_to d a c) (differs d op narrowed a c j)
          (subst (First (differs d op narrowed a c) 0 p.inputs.bindings) h (differing narrowed b M e l u d op x) j (omega arith) t))
          (λ k z j t. and-left-false (related_to d a k) (differs d op narrowed a k j) z) (f.sought d op x) k g j t;
      here = λ d op x g. (f.sought d op x).found g;
    }

  pub no_place : {c : ℕ} → Relating table plan cells p narrowed a c → p.concretes.bindings ≤ c → PlaceFrom table plan cells p narrowed a None
  no_place w h = record { is = λ d op x c i l g. w.none d op x c i (omega arith) g }

-- ---- the abstract states

pub record Going (table plan cells : List ℕ) (p : Part) (narrowed : Bool) (a : ℕ) : Type 0 where
  pub high : a ≤ p.abstracts.bindings
  pub none : ForSteps table plan cells p
      (λ (d : Dossier) (op : Operation). (k c i : ℕ) → k < a → c < p.concretes.bindings → i < p.inputs.bindings → differs_at d op narrowed k c i ≡ false)
  pub here : ForSteps table plan cells p (λ (d : Dossier) (op : Operation). a < p.abstracts.bindings → abstract_state d a ≡ true)

module _ {table plan cells : List ℕ} {p : Part} {narrowed : Bool} where
  pub going_start : {a : ℕ} → AbstractStateFound table plan cells p 0 a → StepsAsked table plan cells p → Going table plan cells p narrowed a
  going_start {a} f q = record {
    high = (f.sought q.dossier q.operation q.searches).high;
    none = λ d op x k c i l g h. and-left-false (abstract_state d k) (differs_related d op narrowed k c i) ((f.sought d op x).past k (omega arith) l);
    here = λ d op x l. (f.sought d op x).found l;
  }

  module _ {a : ℕ} {r : Option Place} (w : Going table plan cells p narrowed a) (l : a < p.abstracts.bindings) (u : PlaceFrom table plan cells p narrowed a r) where
    pub place_found : {t : Place} → r ≡ Some t → PlaceAmong table plan cells p narrowed (Some t)
    place_found {t} e =
        let z : PlaceHere table plan cells p narrowed a t = (subst (PlaceFrom table plan cells p narrowed a) e u).is in
        record {
          is = record {
            low = (omega (arith, z.low.0), z.low.1, z.low.2);
            here = λ d op x. (let h : differs_at d op narrowed a t.c t.i ≡ true =
                and_both (w.here d op x l) (z.here d op x) in
                subst (λ (k : ℕ). differs_at d op narrowed k t.c t.i ≡ true) (sym z.low.0) h);
            first = λ d op x. subst (λ (k : ℕ). FirstPlace d op narrowed p.concretes.bindings p.inputs.bindings k t.c t.i) (sym z.low.0) (before d op x (z.first d op x));
          };
        }
      where
        before : (d : Dossier) (op : Operation) → StepSearches table plan cells p d op → FirstRelated d op narrowed p.inputs.bindings a t.c t.i
            → FirstPlace d op narrowed p.concretes.bindings p.inputs.bindings a t.c t.i
        before d op x v = record {
          states = λ k c i g h t. w.none d op x k c i g h t;
          related = λ c i g h. and-right-false (abstract_state d a) (differs_related d op narrowed a c i) (v.related c i g h);
          inputs = λ i g. and-right-false (abstract_state d a) (differs_related d op narrowed a t.c i) (v.inputs i g);
        }

    pub going_next : {next : ℕ} → r ≡ None → AbstractStateFound table plan cells p (a + 1) next → StepsAsked table plan cells p
        → Going table plan cells p narrowed next
    going_next {next} e f q =
        let z : NowhereFrom table plan cells p narrowed a = (subst (PlaceFrom table plan cells p narrowed a) e u).is in
        record {
          high = (f.sought q.dossier q.operation q.searches).high;
          none = λ d op x k c i g h t.
              advance (λ (k : ℕ). (c i : ℕ) → c < p.concretes.bindings → i < p.inputs.bindings → differs_at d op narrowed k c i ≡ false) (abstract_state d) a next p.abstracts.bindings
              (λ k g c i h t. w.none d op x k c i g h t)
              (λ c i h t. and-right-false (abstract_state d a) (differs_related d op narrowed a c i) (z d op x c i h t))
              (λ k z c i h t. and-left-false (abstract_state d k) (differs_related d op narrowed k c i) z) (f.sought d op x) k g c i h t;
          here = λ d op x g. (f.sought d op x).found g;
        }

  pub none_found : {a : ℕ} → Going table plan cells p narrowed a → p.abstracts.bindings ≤ a → PlaceAmong table plan cells p narrowed None
  none_found w h = record { is = λ d op x a c i k l g. w.none d op x a c i (omega arith) l g }

-- ---- of every dossier whose reading the arrays are

module _ {table rows firsts groups : List ℕ} {operations j : ℕ} where
  pub place-unlisted : {narrowed : Bool} → operations ≤ j → PlaceIs table rows firsts groups operations j narrowed None
  place-unlisted h = record { is = λ d op R m e. absurd (unlisted d h m e); outside = λ _. refl }

  module _ {plan cells : List ℕ} {p : Part} (h : j < operations) (w : Prepared table rows firsts groups j plan cells p) where
    over : operations ≤ j → ⊥
    over l = omega arith

    within : {d : Dossier} {op : Operation} {r : Place} → StepSearches table plan cells p d op → (r.a < p.abstracts.bindings) × (r.c < p.concretes.bindings) × (r.i < p.inputs.bindings) → Within d op r.a r.c r.i
    within {r = r} x z = record {
      abstractly = subst (λ (n : ℕ). r.a < n) (na-is x) z.0;
      concretely = subst (λ (n : ℕ). r.c < n) (nc-is x) z.1;
      input = subst (λ (n : ℕ). r.i < n) (ni-is x) z.2;
    }

    pub place_is : {narrowed : Bool} (r : Option Place) → PlaceAmong table plan cells p narrowed r → PlaceIs table rows firsts groups operations j narrowed r
    place_is None u = record {
      is = λ d op R m e a c i t. (let x = w.searches d op R e in
          u.is d op x a c i (subst (λ (n : ℕ). a < n) (sym (na-is x)) t.abstractly) (subst (λ (n : ℕ). c < n) (sym (nc-is x)) t.concretely)
          (subst (λ (n : ℕ). i < n) (sym (ni-is x)) t.input));
      outside = λ l. absurd (over l);
    }
    place_is {narrowed} (Some r) u = record {
      is = λ d op R m e. (let x = w.searches d op R e in (
        within {r = r} x u.is.low,
        u.is.here d op x,
        subst (λ (n : ℕ). FirstPlace d op narrowed n (input_count d op) r.a r.c r.i) (nc-is x)
            (subst (λ (n : ℕ). FirstPlace d op narrowed p.concretes.bindings n r.a r.c r.i) (ni-is x) (u.is.first d op x)),
      ));
      outside = λ l. absurd (over l);
    }
