-- What the five searches of a part are asked, and what they find, by the numbers of the groups. Assumes nothing.
-- Form 8: what the searches share are the laws `asking`, `numbers-sought` and `group-stepped`; in the laws of each search is left which tests, slots and sizes of the part are meant.
use mathlib.Core.Path.{◌≡◌, sym, ap, ap₂, subst, ◌∙◌}
use mathlib.Core.Bool.{Bool, true}
use mathlib.Core.List.{List}
use Prim.Native.Nat.{ℕ, ◌<◌, ◌≤◌, ◌^◌}
use native.Mathlib.Omega.{arith}
use lib.Dec.{ltb}
use lib.ListN.{length}
use lib.IntN.{ℤ}
use Rattle.points.specs.Points.{Point, span, number_of, placed, Tame, Shows, Distinct}
use Rattle.points.specs.Searches.{levels_hold, under, Sought, Planned, SearchOf}
use Rattle.points.proofs.PointNumbers.{Counts, number-apart, number_same, number-placed, beside_placed, tame-placed, sought-some, sought-same}
use Rattle.points.proofs.SearchLevels.{planned-counts, planned-front, planned-rest, front-finds, search-finds, rest-finds}
use Rattle.seek.specs.SeekPromises.{Left, SeekAsked, SeekAnswers}
use Rattle.slot_carriers.specs.declared.groups.GroupSize.{GroupSize}
use Rattle.plans.specs.declared.Part.{Part}
use Rattle.nest_steps.specs.PartTests.{PartTests}
use Rattle.nest_steps.specs.NestPromises.{Groups, SizedGroup, Nest, NestAsked, Stepped, some_binding, AbstractAnswers, ConcreteAnswers, AbstractPreAnswers, OutputAnswers, AfterAnswers, MetAnswers}
use Rattle.nest_steps.proofs.KeptGroups.{abstracts-concretes, concretes-outputs, concretes-primes, inputs-outputs, inputs-primes, outputs-primes, distinct-left, distinct-right}

-- ---- for any search

-- the numbers at which it finds something
found : {table plan cells : List ℕ} {u : ℕ} {ss : List ℕ} {P : Point → Bool} (S : SearchOf table plan cells u ss P) (δ : Point) → Tame cells δ → (n : ℕ) → n ≡ span cells ss
    → (g : ℕ → Bool) {from r : ℕ} → ((k : ℕ) → k < span cells ss → P (placed cells ss δ k) ≡ g k) → Sought (under cells S.tests 0 ss δ) from n r → Sought g from n r
found {cells = cells} {ss = ss} S δ τ n e g {from} {r} w s =
    subst (λ (t : ℕ). Sought g from t r) (sym e)
    (sought-same (search-finds S δ τ (subst (λ (t : ℕ). Sought (under cells S.tests 0 ss δ) from t r) e s)) w)

-- the arrays show the binding that it found
stepped : {cells ss : List ℕ} {δ : Point} {n r : ℕ} {after : List (List ℤ)} → Distinct ss → Counts cells ss → n ≡ span cells ss → Left cells ss δ n r after
    → Stepped cells ss δ n r after
stepped {cells} {ss} {δ} {n} {r} d c e l =
    record {
      point = l.point;
      shows = l.shows;
      beside = l.beside;
      number = λ h. number_same cells ss (placed cells ss δ r) l.point (λ s m. l.found h s) ∙ number-placed cells ss δ r d c (subst (λ (t : ℕ). r < t) e h);
    }

-- whether it found something
some-found : {table plan cells : List ℕ} {u : ℕ} {ss : List ℕ} {P : Point → Bool} (S : SearchOf table plan cells u ss P) (δ : Point) → Tame cells δ → (n : ℕ) → n ≡ span cells ss
    → {r : ℕ} → Sought (under cells S.tests 0 ss δ) 0 n r → ltb r n ≡ some_binding cells ss P δ
unfolding some_binding
some-found {cells = cells} {ss = ss} {P = P} S δ τ n e {r} s =
    ap (ltb r) e ∙ sym (sought-some (λ (k : ℕ). P (placed cells ss δ k)) (span cells ss) r
    (search-finds S δ τ (subst (λ (t : ℕ). Sought (under cells S.tests 0 ss δ) 0 t r) e s)))

only-left : {cells ss : List ℕ} {δ : Point} {n r : ℕ} {after : List (List ℤ)} → Left cells ss δ n r after → Stepped cells ss δ 0 0 after
only-left l = record { point = l.point; shows = l.shows; beside = l.beside; number = λ h. absurd (none h) }
  where
    none : 0 < 0 → ⊥
    none h = omega arith

-- ---- outputs and after states are one search

module _ {table plan cells : List ℕ} {p : Part} {G : Groups} {T : PartTests} (N : Nest table plan cells p G T) where
  front-plan : Planned table plan cells 3 0 G.outputs N.steps.tests
  front-plan = planned-front G.outputs G.primes N.steps.planned

  rest-plan : Planned table plan cells 3 p.outputs.variables G.primes N.steps.tests
  rest-plan =
      subst (λ (j : ℕ). Planned table plan cells 3 j G.primes N.steps.tests) N.sized.outputs.many (planned-rest G.outputs G.primes N.steps.planned)

  output-distinct : Distinct G.outputs
  output-distinct = distinct-left G.outputs G.primes N.steps.distinct

  prime-distinct : Distinct G.primes
  prime-distinct = distinct-right G.outputs G.primes N.steps.distinct

  output-sought : {from r : ℕ} (δ : Point) → Tame cells δ → Sought (under cells N.steps.tests 0 G.outputs δ) from p.outputs.bindings r
      → Sought (T.front (number_of cells G.concretes δ) (number_of cells G.inputs δ)) from p.outputs.bindings r
  output-sought δ τ s = sought-same (front-finds front-plan δ s) by
    where
      by : (k : ℕ) → k < p.outputs.bindings → levels_hold N.steps.tests 0 (length G.outputs) (placed cells G.outputs δ k)
          ≡ T.front (number_of cells G.concretes δ) (number_of cells G.inputs δ) k
      by k h =
          let l : k < span cells G.outputs = subst (λ (t : ℕ). k < t) N.sized.outputs.counted h in
          let c : Counts cells G.outputs = planned-counts front-plan in
          let b = beside_placed cells G.outputs δ k in
          N.front_is _ (tame-placed cells G.outputs δ k τ c l)
          ∙ ap (T.front _ _) (number-placed cells G.outputs δ k output-distinct c l)
          ∙ ap₂ (λ (x y : ℕ). T.front x y k) (number-apart cells G.concretes G.outputs δ _ (concretes-outputs N) b)
          (number-apart cells G.inputs G.outputs δ _ (inputs-outputs N) b)

  after-sought : {from r : ℕ} (δ : Point) → Tame cells δ → T.front (number_of cells G.concretes δ) (number_of cells G.inputs δ) (number_of cells G.outputs δ) ≡ true
      → Sought (under cells N.steps.tests p.outputs.variables G.primes δ) from p.primes.bindings r
      → Sought (T.steps (number_of cells G.concretes δ) (number_of cells G.inputs δ) (number_of cells G.outputs δ)) from p.primes.bindings r
  after-sought {from} {r} δ τ e s =
      subst (λ (t : ℕ). Sought g from t r) (sym N.sized.primes.counted)
      (sought-same
      (rest-finds G.outputs G.primes N.steps δ τ (N.front_is δ τ ∙ e)
      (subst (λ (t : ℕ). Sought (under cells N.steps.tests (length G.outputs) G.primes δ) from t r) N.sized.primes.counted
      (subst (λ (j : ℕ). Sought (under cells N.steps.tests j G.primes δ) from p.primes.bindings r) (sym N.sized.outputs.many) s)))
      by)
    where
      g : ℕ → Bool
      g = T.steps (number_of cells G.concretes δ) (number_of cells G.inputs δ) (number_of cells G.outputs δ)

      by : (k : ℕ) → k < span cells G.primes
          → T.steps (number_of cells G.concretes (placed cells G.primes δ k)) (number_of cells G.inputs (placed cells G.primes δ k))
          (number_of cells G.outputs (placed cells G.primes δ k)) (number_of cells G.primes (placed cells G.primes δ k))
          ≡ T.steps (number_of cells G.concretes δ) (number_of cells G.inputs δ) (number_of cells G.outputs δ) k
      by k l =
          let b = beside_placed cells G.primes δ k in
          ap (T.steps _ _ _) (number-placed cells G.primes δ k prime-distinct (planned-counts rest-plan) l)
          ∙ ap (λ (x : ℕ). T.steps (number_of cells G.concretes (placed cells G.primes δ k)) (number_of cells G.inputs (placed cells G.primes δ k)) x k)
          (number-apart cells G.outputs G.primes δ _ (outputs-primes N) b)
          ∙ ap₂ (λ (x y : ℕ). T.steps x y (number_of cells G.outputs δ) k) (number-apart cells G.concretes G.primes δ _ (concretes-primes N) b)
          (number-apart cells G.inputs G.primes δ _ (inputs-primes N) b)

-- ---- the five searches

module _ {table plan cells : List ℕ} {p : Part} {before : List (List ℤ)} (q : NestAsked table plan cells p before) where
  -- any of them, over one group
  asking : {u j from most : ℕ} {ss : List ℕ} {tests : ℕ → List (Point → Bool)} {g : GroupSize} → Planned table plan cells u j ss tests → SizedGroup cells ss g most
      → most ≤ 2 ^ 24 → from ≤ g.bindings → SeekAsked table plan cells u j g.variables g.bindings from before
  asking {ss = ss} {tests = tests} l z m h = record {
    slots = ss;
    tests = tests;
    point = q.point;
    planned = l;
    shows = q.shows;
    many = z.many;
    counted = z.counted;
    few = native.Mathlib.Nat.le_trans z.few m;
    inside = h;
  }

  pub ask-states : {a : ℕ} → a ≤ p.abstracts.bindings → SeekAsked table plan cells 0 0 p.abstracts.variables p.abstracts.bindings a before
  ask-states h = asking q.nest.states.planned q.nest.sized.abstracts (omega arith) h

  pub ask-related : {c : ℕ} → c ≤ p.concretes.bindings → SeekAsked table plan cells 1 0 p.concretes.variables p.concretes.bindings c before
  ask-related h = asking q.nest.related.planned q.nest.sized.concretes (omega arith) h

  pub ask-ready : SeekAsked table plan cells 2 0 p.readying.variables p.readying.bindings 0 before
  ask-ready = asking q.nest.ready.planned q.nest.sized.readying (omega arith) (omega arith)

  pub ask-outputs : {o : ℕ} → o ≤ p.outputs.bindings → SeekAsked table plan cells 3 0 p.outputs.variables p.outputs.bindings o before
  ask-outputs h = asking (front-plan q.nest) q.nest.sized.outputs (omega arith) h

  pub ask_afters : {k : ℕ} → k ≤ p.primes.bindings → SeekAsked table plan cells 3 p.outputs.variables p.primes.variables p.primes.bindings k before
  ask_afters h = asking (rest-plan q.nest) q.nest.sized.primes (omega arith) h

  pub ask-met : SeekAsked table plan cells 4 0 p.meeting.variables p.meeting.bindings 0 before
  ask-met = asking q.nest.met.planned q.nest.sized.meeting (omega arith) (omega arith)

-- what any of them answers, over a group whose slots are apart
module _ {table plan cells : List ℕ} {before after : List (List ℤ)} {u j from r : ℕ} {g : GroupSize} (s : SeekAnswers table plan cells u j g.variables g.bindings from before after r)
    {most : ℕ} {ss : List ℕ} {tests : ℕ → List (Point → Bool)} {δ : Point} (l : Planned table plan cells u j ss tests) (z : SizedGroup cells ss g most) (w : Shows cells δ before) where
  numbers-sought : Sought (under cells tests j ss δ) from g.bindings r
  numbers-sought = s.sought ss tests δ l w z.many

  group-left : Left cells ss δ g.bindings r after
  group-left = s.left ss tests δ l w z.many

  group-stepped : Distinct ss → Stepped cells ss δ g.bindings r after
  group-stepped d = stepped d (planned-counts l) z.counted group-left

module _ {table plan cells : List ℕ} {p : Part} {before after : List (List ℤ)} {from r : ℕ} where
  pub states-found : SeekAnswers table plan cells 0 0 p.abstracts.variables p.abstracts.bindings from before after r → AbstractAnswers table plan cells p from before after r
  states-found s =
      record {
        sought = λ G T δ N w.
            let c : Counts cells G.abstracts = planned-counts N.states.planned in
            found N.states δ w.tame p.abstracts.bindings N.sized.abstracts.counted T.state
            (λ k h. ap T.state (number-placed cells G.abstracts δ k N.states.distinct c h))
            (numbers-sought s N.states.planned N.sized.abstracts w);
        left = λ G T δ N w. group-stepped s N.states.planned N.sized.abstracts w N.states.distinct;
      }

  pub related-found : SeekAnswers table plan cells 1 0 p.concretes.variables p.concretes.bindings from before after r → ConcreteAnswers table plan cells p from before after r
  related-found s =
      record {
        sought = λ G T δ N w.
            let c : Counts cells G.concretes = planned-counts N.related.planned in
            found N.related δ w.tame p.concretes.bindings N.sized.concretes.counted (T.related (number_of cells G.abstracts δ))
            (λ k h. ap₂ T.related (number-apart cells G.abstracts G.concretes δ _ (abstracts-concretes N) (beside_placed cells G.concretes δ k))
            (number-placed cells G.concretes δ k N.related.distinct c h))
            (numbers-sought s N.related.planned N.sized.concretes w);
        left = λ G T δ N w. group-stepped s N.related.planned N.sized.concretes w N.related.distinct;
      }

  pub outputs-found : SeekAnswers table plan cells 3 0 p.outputs.variables p.outputs.bindings from before after r → OutputAnswers table plan cells p from before after r
  outputs-found s =
      record {
        sought = λ G T δ N w. output-sought N δ w.tame (numbers-sought s (front-plan N) N.sized.outputs w);
        left = λ G T δ N w. group-stepped s (front-plan N) N.sized.outputs w (output-distinct N);
      }

  pub afters-found : SeekAnswers table plan cells 3 p.outputs.variables p.primes.variables p.primes.bindings from before after r → AfterAnswers table plan cells p from before after r
  afters-found s =
      record {
        sought = λ G T δ N w e. after-sought N δ w.tame e (numbers-sought s (rest-plan N) N.sized.primes w);
        left = λ G T δ N w. group-stepped s (rest-plan N) N.sized.primes w (prime-distinct N);
      }

module _ {table plan cells : List ℕ} {p : Part} {before after : List (List ℤ)} {r : ℕ} where
  pub ready-found : SeekAnswers table plan cells 2 0 p.readying.variables p.readying.bindings 0 before after r → AbstractPreAnswers table plan cells p before after (ltb r p.readying.bindings)
  ready-found s =
      record {
        is = λ G T δ N w. some-found N.ready δ w.tame p.readying.bindings N.sized.readying.counted (numbers-sought s N.ready.planned N.sized.readying w)
            ∙ N.ready_is δ w.tame;
        left = λ G T δ N w. only-left (group-left s N.ready.planned N.sized.readying w);
      }

  pub met-found : SeekAnswers table plan cells 4 0 p.meeting.variables p.meeting.bindings 0 before after r → MetAnswers table plan cells p before after (ltb r p.meeting.bindings)
  met-found s =
      record {
        is = λ G T δ N w. some-found N.met δ w.tame p.meeting.bindings N.sized.meeting.counted (numbers-sought s N.met.planned N.sized.meeting w)
            ∙ N.met_is δ w.tame;
        left = λ G T δ N w. only-left (group-left s N.met.planned N.sized.meeting w);
      }
