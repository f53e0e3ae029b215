-- Idle variables of a part: where no search from a number on mentions a variable of a state, what these searches come to does not depend on it. Assumes nothing.
use mathlib.Core.Path.{◌≡◌, sym, ap, subst, ◌∙◌}
use mathlib.Core.Bool.{Bool}
use mathlib.Core.List.{List}
use Prim.Native.Nat.{ℕ, zero, suc, ◌+◌, ◌<◌, ◌≤◌}
use native.Mathlib.Omega.{arith}
use Rattle.lexical.specs.Lists.{upward}
use Rattle.meaning.specs.Bindings.{Among}
use Rattle.meaning.proofs.UpwardNumbers.{upward-among, any-same}
use Rattle.points.specs.Points.{Point, moved, span, placed}
use Rattle.points.specs.Searches.{mark_in}
use Rattle.points.proofs.PointNumbers.{Counts, tame-placed}
use Rattle.points.proofs.SearchLevels.{planned-counts}
use Rattle.slot_carriers.specs.declared.groups.GroupSize.{GroupSize}
use Rattle.plans.specs.declared.Part.{Part}
use Rattle.idle_variables.specs.KeyedNumbers.{Idle, Ignores}
use Rattle.idle_variables.specs.IdlePromises.{SearchesIdle, PlanAsked, MaskSays}
use Rattle.idle_variables.specs.declared.keys.KeyGroup.{KeyGroup}
use Rattle.idle_variables.specs.KeyPromises.{key_in, KeyAsked, MarkSays, Marked}
use Rattle.idle_variables.proofs.KeyedPoints.{moved-placed}
use Rattle.idle_variables.proofs.IdleSearches.{idle_by, search_idle}
use Rattle.idle_variables.proofs.IdleMasks.{mask_ignores}
use Rattle.nest_steps.specs.declared.blocks.Masks.{Masks}
use Rattle.nest_steps.specs.PartTests.{PartTests}
use Rattle.nest_steps.specs.NestPromises.{Groups, SizedGroup, Nest, some_binding}
use Rattle.nest_steps.specs.IdleGroups.{related_of, ready_of, steps_of, met_of}
use Rattle.nest_steps.specs.OpenBlocks.{MasksAnswers, pair_group, concrete_group, whole_group}
use Rattle.nest_steps.proofs.KeptGroups.{abstracts-readying, abstracts-meeting, concretes-meeting}

-- whether some binding of other variables has P
some-idle : {cells : List ℕ} {s : ℕ} (ss : List ℕ) (P : Point → Bool) → Counts cells ss → (Among s ss → ⊥) → Idle cells P s → Idle cells (some_binding cells ss P) s
unfolding some_binding
some-idle {cells} {s} ss P c n w =
    record {
      same = λ δ x τ h. any-same (λ (k : ℕ). P (placed cells ss (moved δ s x) k)) (λ (k : ℕ). P (placed cells ss δ k)) 0 (span cells ss)
          (λ k l m. ap P (λ i t. moved-placed cells ss δ s x k n t i) ∙ w.same (placed cells ss δ k) x (tame-placed cells ss δ k τ c (omega arith)) h);
    }

module _ {table plan cells : List ℕ} {p : Part} {G : Groups} {T : PartTests} (N : Nest table plan cells p G T) where
  -- ---- the searches of a part

  module _ {s : ℕ} {u : ℕ} (w : SearchesIdle table plan u s) where
    related-idle : u ≤ 1 → Idle cells (related_of cells G T) s
    related-idle h = search_idle N.related (w.each 1 h (omega arith))

    ready-idle : u ≤ 2 → (Among s G.readying → ⊥) → Idle cells (ready_of cells G T) s
    ready-idle h n = idle_by N.ready_is (some-idle G.readying N.readily (planned-counts N.ready.planned) n (search_idle N.ready (w.each 2 h (omega arith))))

    steps-idle : u ≤ 3 → Idle cells (steps_of cells G T) s
    steps-idle h = search_idle N.steps (w.each 3 h (omega arith))

    met-idle : u ≤ 4 → (Among s G.meeting → ⊥) → Idle cells (met_of cells G T) s
    met-idle h n = idle_by N.met_is (some-idle G.meeting N.meetly (planned-counts N.met.planned) n (search_idle N.met (w.each 4 h (omega arith))))

  -- ---- by the masks

  abstract_in : (i : ℕ) → i < p.abstracts.variables → Among (0 + i) G.abstracts
  abstract_in i h = subst (Among (0 + i)) (sym N.sized.abstracts_are) (upward-among 0 p.abstracts.variables (0 + i) (omega arith) (omega arith))

  concrete_in : (i : ℕ) → i < p.concretes.variables → Among (8 + i) G.concretes
  concrete_in i h = subst (Among (8 + i)) (sym N.sized.concretes_are) (upward-among 8 p.concretes.variables (8 + i) (omega arith) (omega arith))

  over-abstracts : {P : Point → Bool} {r : ℕ} → Ignores cells P r (upward 0 p.abstracts.variables) → Ignores cells P r G.abstracts
  over-abstracts {P} {r} w = subst (Ignores cells P r) (sym N.sized.abstracts_are) w

  over-concretes : {P : Point → Bool} {r : ℕ} → Ignores cells P r (upward 8 p.concretes.variables) → Ignores cells P r G.concretes
  over-concretes {P} {r} w = subst (Ignores cells P r) (sym N.sized.concretes_are) w

  module _ {u r : ℕ} (w : MaskSays table plan u 0 p.abstracts.variables r) where
    related-by : u ≤ 1 → Ignores cells (related_of cells G T) r G.abstracts
    related-by h = over-abstracts (mask_ignores w cells (related_of cells G T) (λ i l v. related-idle v h))

    ready_by : u ≤ 2 → Ignores cells (ready_of cells G T) r G.abstracts
    ready_by h = over-abstracts (mask_ignores w cells (ready_of cells G T) (λ i l v. ready-idle v h (λ n. (abstracts-readying N).none (0 + i) (abstract_in i l) n)))

    met_by : u ≤ 4 → Ignores cells (met_of cells G T) r G.abstracts
    met_by h = over-abstracts (mask_ignores w cells (met_of cells G T) (λ i l v. met-idle v h (λ n. (abstracts-meeting N).none (0 + i) (abstract_in i l) n)))

  module _ {u r : ℕ} (w : MaskSays table plan u 8 p.concretes.variables r) where
    steps-by : u ≤ 3 → Ignores cells (steps_of cells G T) r G.concretes
    steps-by h = over-concretes (mask_ignores w cells (steps_of cells G T) (λ i l v. steps-idle v h))

    met-concretely : u ≤ 4 → Ignores cells (met_of cells G T) r G.concretes
    met-concretely h = over-concretes (mask_ignores w cells (met_of cells G T) (λ i l v. met-idle v h (λ n. (concretes-meeting N).none (8 + i) (concrete_in i l) n)))

  -- ---- what is asked

  pub few-abstracts : p.abstracts.variables ≤ 11
  few-abstracts = omega (arith, N.sized.abstracts.many, N.states.planned.few)

  pub few-concretes : p.concretes.variables ≤ 11
  few-concretes = omega (arith, N.sized.concretes.many, N.related.planned.few)

  pub plan-asked : PlanAsked plan
  plan-asked = record { marks = go }
    where
      go : (u l : ℕ) → u < 5 → l ≤ 12 → mark_in plan u l ≤ 20560
      go zero l h g = N.states.planned.marks l g
      go (suc zero) l h g = N.related.planned.marks l g
      go (suc (suc zero)) l h g = N.ready.planned.marks l g
      go (suc (suc (suc zero))) l h g = N.steps.planned.marks l g
      go (suc (suc (suc (suc zero)))) l h g = N.met.planned.marks l g
      go (suc (suc (suc (suc (suc u))))) l h g = absurd (omega arith)

  keys-asked : {s idle : ℕ} {ss : List ℕ} {g : GroupSize} → s ≤ 8 → g.variables ≤ 11 → SizedGroup cells ss g 4096 → ss ≡ upward s g.variables → Counts cells ss
      → KeyAsked cells (record { first = s; size = g; idle = idle })
  keys-asked l h z e c = record { low = omega arith; count = z.counted ∙ ap (span cells) e; some = subst (Counts cells) e c; few = z.few }

  pub pair-asked : (m : Masks) → KeyAsked cells (pair_group p m)
  pair-asked m = keys-asked (omega arith) few-abstracts N.sized.abstracts N.sized.abstracts_are (planned-counts N.states.planned)

  pub whole-asked : (m : Masks) → KeyAsked cells (whole_group p m)
  whole-asked m = keys-asked (omega arith) few-abstracts N.sized.abstracts N.sized.abstracts_are (planned-counts N.states.planned)

  pub concrete-asked : (m : Masks) → KeyAsked cells (concrete_group p m)
  concrete-asked m = keys-asked (omega arith) few-concretes N.sized.concretes N.sized.concretes_are (planned-counts N.related.planned)

-- the masks from the searches for what is inside a block on
pub masks-found : {table plan : List ℕ} {p : Part} {x y z : ℕ} → MaskSays table plan 2 0 p.abstracts.variables x → MaskSays table plan 1 0 p.abstracts.variables y → MaskSays table plan 3 8 p.concretes.variables z
    → MasksAnswers table plan p (record { pairs = x; wholes = y; concretes = z })
masks-found a b c =
    record {
      pairs = λ cells G T N. record {
        ready = ready_by N a (omega arith);
        met = met_by N a (omega arith);
        steps = steps-by N c (omega arith);
        met_concrete = met-concretely N c (omega arith);
      };
      wholes = λ cells G T N. record { related = related-by N b (omega arith); ready = ready_by N b (omega arith); met = met_by N b (omega arith) };
    }

-- ---- a group of keys that is equal to another

pub asked-in : {cells : List ℕ} {g h : KeyGroup} → g ≡ h → KeyAsked cells h → KeyAsked cells g
asked-in {cells} e w = subst (λ (k : KeyGroup). KeyAsked cells k) (sym e) w

pub says-in : {cells : List ℕ} {g h : KeyGroup} {x mark : ℕ} {marks : List ℕ} {r : Bool} → g ≡ h → MarkSays cells g x mark marks r → MarkSays cells h x mark marks r
says-in {cells} {g} {h} {x} {mark} {marks} {r} e w = subst (λ (k : KeyGroup). MarkSays cells k x mark marks r) e w

pub marked-in : (cells : List ℕ) (x : ℕ) {g h : KeyGroup} {may : Bool} {mark : ℕ} {before after : List ℕ} → g ≡ h → Marked may (key_in cells g x) mark before after
    → Marked may (key_in cells h x) mark before after
marked-in cells x {g} {h} {may} {mark} {before} {after} e w = subst (λ (k : KeyGroup). Marked may (key_in cells k x) mark before after) e w
