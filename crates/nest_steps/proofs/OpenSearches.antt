-- Open blocks: a search goes on while what it finds is marked, and what it goes over passes; nothing is marked at first. Assumes nothing.
-- Form 8: the laws of concrete and of abstract states are over records of specs/ that differ: only a concrete block passes under the mark and at the abstract state of a point.
use mathlib.Core.Path.{◌≡◌, refl, sym, subst, ◌∙◌}
use mathlib.Core.Bool.{Bool, true, false}
use mathlib.Core.List.{List}
use Prim.Native.Nat.{ℕ, ◌+◌, ◌<◌, ◌≤◌}
use native.Mathlib.Decide.{dec_lt}
use native.Mathlib.Omega.{arith}
use lib.ListN.{get_or, replicate, length-replicate}
use lib.IntN.{ℤ}
use Rattle.memo.proofs.Memos.{all-zero}
use Rattle.points.specs.Points.{Point, number_of, Tame}
use Rattle.points.specs.Searches.{Sought}
use Rattle.points.proofs.PointNumbers.{number-apart, number-low, beside-twice}
use Rattle.points.proofs.SearchLevels.{planned-counts}
use Rattle.plans.specs.declared.Part.{Part}
use Rattle.idle_variables.specs.KeyPromises.{key_in, MarkSays}
use Rattle.nest_steps.specs.declared.blocks.Masks.{Masks}
use Rattle.nest_steps.specs.PartTests.{PartTests}
use Rattle.nest_steps.specs.NestPromises.{Groups, Nest, NestAsked, Stepped, ForNest, AbstractAnswers, ConcreteAnswers}
use Rattle.nest_steps.specs.PassedBlocks.{PairPasses, WholePasses}
use Rattle.nest_steps.specs.OpenBlocks.{pair_group, concrete_group, whole_group, PairsSeen, WholesSeen, OpenConcrete, OpenAbstract}
use Rattle.nest_steps.proofs.PassingBlocks.{no-state, no-related}
use Rattle.nest_steps.proofs.KeptGroups.{abstracts-concretes}

less : (n : ℕ) → n < n → ⊥
less n h = omega arith

never : 0 < 0 → ⊥
never h = omega arith

-- the last one before d + 1
there : (e d : ℕ) → (e < d → ⊥) → e < d + 1 → d ≡ e
there e d h g = omega arith

module _ {p : Part} {T : PartTests} where
  unrelated : {a c : ℕ} → T.related a c ≡ false → PairPasses p T a c
  unrelated {a} {c} e = record { each = λ i o k hi ho hk. no-related T a c i o k e }

  no_such : {a : ℕ} → T.state a ≡ false → WholePasses p T a
  no_such {a} e = record { each = λ c hc. record { each = λ i o k hi ho hk. no-state T a c i o k e } }

-- the blocks from c on up to number x pass, and only the slots of the concrete state have changed
pub record ConcretesPassed (table plan cells : List ℕ) (p : Part) (m : Masks) (mark c : ℕ) (before now : List (List ℤ)) (x : ℕ) : Type 0 where
  pub low : c ≤ x
  pub high : x ≤ p.concretes.bindings
  pub past : ForNest table plan cells p before
      (λ (G : Groups) (T : PartTests) (δ : Point).
      (mark ≡ key_in cells (pair_group p m) (number_of cells G.abstracts δ) + 1) → (e : ℕ) → c ≤ e → e < x → PairPasses p T (number_of cells G.abstracts δ) e)
  pub left : ForNest table plan cells p before (λ (G : Groups) (T : PartTests) (δ : Point). Stepped cells G.concretes δ 0 0 now)

pub record AbstractsPassed (table plan cells : List ℕ) (p : Part) (a : ℕ) (before now : List (List ℤ)) (x : ℕ) : Type 0 where
  pub low : a ≤ x
  pub high : x ≤ p.abstracts.bindings
  pub past : (G : Groups) (T : PartTests) → Nest table plan cells p G T → (e : ℕ) → a ≤ e → e < x → WholePasses p T e
  pub left : ForNest table plan cells p before (λ (G : Groups) (T : PartTests) (δ : Point). Stepped cells G.abstracts δ 0 0 now)

module _ {table plan cells : List ℕ} {p : Part} where
  abstract-low : {G : Groups} {T : PartTests} → Nest table plan cells p G T → (δ : Point) → Tame cells δ → number_of cells G.abstracts δ < p.abstracts.bindings
  abstract-low {G} N δ τ = subst (λ (n : ℕ). number_of cells G.abstracts δ < n) (sym N.sized.abstracts.counted) (number-low cells G.abstracts δ τ (planned-counts N.states.planned))

  -- ---- concrete states

  module _ {m : Masks} {mark c : ℕ} {before : List (List ℤ)} where
    pub no-concrete-yet : c ≤ p.concretes.bindings → ConcretesPassed table plan cells p m mark c before before c
    no-concrete-yet h =
        record {
          low = omega arith;
          high = h;
          past = λ G T δ N s k e l g. absurd (omega arith);
          left = λ G T δ N s. record { point = δ; shows = s; beside = record { same = λ t _. refl }; number = λ l. absurd (never l) };
        }

    pub concretes-through : {now : List (List ℤ)} {x : ℕ} → ConcretesPassed table plan cells p m mark c before now x → p.concretes.bindings ≤ x → OpenConcrete table plan cells p m mark c before now p.concretes.bindings
    concretes-through {x = x} w h =
        record {
          low = omega (arith, w.low, w.high);
          high = omega arith;
          past = λ G T δ N s k e l g. w.past G T δ N s k e l (omega arith);
          found = λ G T δ N s l. absurd (less p.concretes.bindings l);
          left = λ G T δ N s. (let z = w.left G T δ N s in record { point = z.point; shows = z.shows; beside = z.beside; number = λ l. absurd (less p.concretes.bindings l) });
        }

    module _ (q : NestAsked table plan cells p before) {now after : List (List ℤ)} {x d : ℕ} (w : ConcretesPassed table plan cells p m mark c before now x)
        (v : ConcreteAnswers table plan cells p x now after d) where
      forward : (x ≤ d) × (d ≤ p.concretes.bindings)
      forward =
          let l = w.left q.groups q.tests q.point q.nest q.shows in
          let s = v.sought q.groups q.tests l.point q.nest l.shows in
          (s.low, s.high)

      -- what the search found, by the abstract state at entry
      sought-here : ForNest table plan cells p before (λ (G : Groups) (T : PartTests) (δ : Point). Sought (T.related (number_of cells G.abstracts δ)) x p.concretes.bindings d)
      sought-here G T δ N s =
          let z = w.left G T δ N s in
          subst (λ (n : ℕ). Sought (T.related n) x p.concretes.bindings d) (number-apart cells G.abstracts G.concretes δ z.point (abstracts-concretes N) z.beside)
          (v.sought G T z.point N z.shows)

      over : ForNest table plan cells p before
          (λ (G : Groups) (T : PartTests) (δ : Point).
          (mark ≡ key_in cells (pair_group p m) (number_of cells G.abstracts δ) + 1) → (e : ℕ) → c ≤ e → e < d → PairPasses p T (number_of cells G.abstracts δ) e)
      over G T δ N s k e l g = elim (dec_lt e x) [ yes h ↦ w.past G T δ N s k e l h | no h ↦ unrelated ((sought-here G T δ N s).past e (omega arith) g) ]

      pub concrete-found : OpenConcrete table plan cells p m mark c before after d
      concrete-found =
          record {
            low = omega (arith, w.low, forward.0);
            high = forward.1;
            past = over;
            found = λ G T δ N s. (sought-here G T δ N s).found;
            left = λ G T δ N s. (let z = w.left G T δ N s in
                let y = v.left G T z.point N z.shows in
                record { point = y.point; shows = y.shows; beside = beside-twice z.beside y.beside; number = y.number });
          }

      pub concrete-passes : {seen : List ℕ} {b : Bool} → PairsSeen table plan cells p m seen → MarkSays cells (concrete_group p m) d mark seen b → b ≡ true
          → ConcretesPassed table plan cells p m mark c before after (d + 1)
      concrete-passes s t u =
          record {
            low = omega (arith, w.low, forward.0);
            high = omega (arith, t.low u);
            past = λ G T δ N h k e l g. elim (dec_lt e d) [
              | yes f ↦ over G T δ N h k e l f
              | no f ↦ subst (PairPasses p T (number_of cells G.abstracts δ)) (there e d f g)
                  ((s.each G T N).passes (number_of cells G.abstracts δ) d (abstract-low N δ h.tame) (t.low u) (t.stands u ∙ k))
            ];
            left = λ G T δ N s. (let z = concrete-found.left G T δ N s in record { point = z.point; shows = z.shows; beside = z.beside; number = λ l. absurd (never l) });
          }

      pub concrete-forward : x ≤ d
      concrete-forward = forward.0

  -- ---- abstract states

  module _ {a : ℕ} {before : List (List ℤ)} where
    pub no-abstract-yet : a ≤ p.abstracts.bindings → AbstractsPassed table plan cells p a before before a
    no-abstract-yet h =
        record {
          low = omega arith;
          high = h;
          past = λ G T N e l g. absurd (omega arith);
          left = λ G T δ N s. record { point = δ; shows = s; beside = record { same = λ t _. refl }; number = λ l. absurd (never l) };
        }

    pub abstracts-through : {now : List (List ℤ)} {x : ℕ} → AbstractsPassed table plan cells p a before now x → p.abstracts.bindings ≤ x → OpenAbstract table plan cells p a before now p.abstracts.bindings
    abstracts-through {x = x} w h =
        record {
          low = omega (arith, w.low, w.high);
          high = omega arith;
          past = λ G T N e l g. w.past G T N e l (omega arith);
          found = λ G T N l. absurd (less p.abstracts.bindings l);
          left = λ G T δ N s. (let z = w.left G T δ N s in record { point = z.point; shows = z.shows; beside = z.beside; number = λ l. absurd (less p.abstracts.bindings l) });
        }

    module _ (q : NestAsked table plan cells p before) {now after : List (List ℤ)} {x d : ℕ} (w : AbstractsPassed table plan cells p a before now x)
        (v : AbstractAnswers table plan cells p x now after d) where
      states-here : (G : Groups) (T : PartTests) → Nest table plan cells p G T → Sought T.state x p.abstracts.bindings d
      states-here G T N = let z = w.left G T q.point N q.shows in v.sought G T z.point N z.shows

      pub abstract-forward : x ≤ d
      abstract-forward = (states-here q.groups q.tests q.nest).low

      beyond : (G : Groups) (T : PartTests) → Nest table plan cells p G T → (e : ℕ) → a ≤ e → e < d → WholePasses p T e
      beyond G T N e l g = elim (dec_lt e x) [ yes h ↦ w.past G T N e l h | no h ↦ no_such ((states-here G T N).past e (omega arith) g) ]

      pub abstract-found : OpenAbstract table plan cells p a before after d
      abstract-found =
          record {
            low = omega (arith, w.low, abstract-forward);
            high = (states-here q.groups q.tests q.nest).high;
            past = beyond;
            found = λ G T N. (states-here G T N).found;
            left = λ G T δ N s. (let z = w.left G T δ N s in
                let y = v.left G T z.point N z.shows in
                record { point = y.point; shows = y.shows; beside = beside-twice z.beside y.beside; number = y.number });
          }

      pub abstract-passes : {m : Masks} {done : List ℕ} {b : Bool} → WholesSeen table plan cells p m done → MarkSays cells (whole_group p m) d 1 done b → b ≡ true
          → AbstractsPassed table plan cells p a before after (d + 1)
      abstract-passes s t u =
          record {
            low = omega (arith, w.low, abstract-forward);
            high = omega (arith, t.low u);
            past = λ G T N e l g. elim (dec_lt e d) [
              | yes f ↦ beyond G T N e l f
              | no f ↦ subst (WholePasses p T) (there e d f g) ((s.each G T N).passes d (t.low u) (t.stands u))
            ];
            left = λ G T δ N s. (let z = abstract-found.left G T δ N s in record { point = z.point; shows = z.shows; beside = z.beside; number = λ l. absurd (never l) });
          }

-- ---- nothing is marked at first

module _ {table plan cells : List ℕ} {p : Part} {m : Masks} (n : ℕ) (e : n ≡ 4096) where
  pub no-pair-seen : PairsSeen table plan cells p m (replicate n 0)
  no-pair-seen =
      record {
        long = length-replicate n 0 ∙ e;
        each = λ G T N. record { passes = λ a c ha hc q. absurd (none (key_in cells (concrete_group p m) c) (key_in cells (pair_group p m) a) q) };
      }
    where
      none : (k x : ℕ) → get_or {A = ℕ} (replicate n 0) k 0 ≡ x + 1 → ⊥
      none k x q = omega (arith, all-zero n k)

  pub no-whole-seen : WholesSeen table plan cells p m (replicate n 0)
  no-whole-seen =
      record {
        long = length-replicate n 0 ∙ e;
        each = λ G T N. record { passes = λ a ha q. absurd (none (key_in cells (whole_group p m) a) q) };
      }
    where
      none : (k : ℕ) → get_or {A = ℕ} (replicate n 0) k 0 ≡ 1 → ⊥
      none k q = omega (arith, all-zero n k)
