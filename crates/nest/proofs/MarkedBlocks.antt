-- Marked blocks: one that was looked at as a whole, and passed, gets its mark. Assumes nothing.
use mathlib.Core.Path.{◌≡◌, sym, subst, ◌∙◌}
use mathlib.Core.Bool.{Bool, true}
use mathlib.Core.List.{List}
use Prim.Native.Nat.{ℕ, ◌+◌, ◌*◌, ◌<◌, ◌≤◌}
use native.Mathlib.Omega.{arith}
use lib.ListN.{set, length-set}
use lib.IntN.{ℤ}
use Rattle.plans.specs.PointsPoints.{Point, Tame}
use Rattle.plans.specs.declared.Part.{Part}
use Rattle.idle_variables.specs.KeyedNumbers.{keyed}
use Rattle.idle_variables.specs.KeyPromises.{key_in, Marked, no_mark, mark_made, Within}
use Rattle.idle_variables.proofs.KeySteps.{key-low}
use Rattle.nest_steps.specs.declared.blocks.Masks.{Masks}
use Rattle.nest_steps.specs.PartTests.{PartTests}
use Rattle.nest_steps.specs.NestPromises.{Groups, Nest}
use Rattle.nest_steps.specs.PassedBlocks.{PairKeys, WholeKeys, SeenPairs, SeenWholes}
use Rattle.nest_steps.specs.OpenBlocks.{MasksAnswers, pair_group, concrete_group, whole_group, PairsSeen, WholesSeen}
use Rattle.nest_steps.proofs.KeyedTests.{pair-keys, whole-keys}
use Rattle.nest_steps.proofs.AlikeBlocks.{pair-seen, whole-seen}
use Rattle.nest_steps.proofs.IdleGroups.{concrete-asked}
use Rattle.nest.proofs.PassedPlaces.{past-leave}
use Rattle.nest.proofs.LoopStates.{per_input, per_concrete, per_abstract, InConcretes, InInputs}
use Rattle.nest.proofs.BlockPlaces.{pair-passed, whole-passed}

-- the last place of a block
last : (x s end : ℕ) → x * s + s ≤ end → (x + 1) * s ≤ end
last x s end g = omega arith

module _ {table plan cells : List ℕ} {p : Part} where
  module _ {m : Masks} (says : MasksAnswers table plan p m) where
    keys_of-pairs : {G : Groups} {T : PartTests} → Nest table plan cells p G T → (δ : Point) → Tame cells δ → PairKeys p T (key_in cells (pair_group p m)) (key_in cells (concrete_group p m))
    keys_of-pairs {G} {T} N δ τ =
        subst (λ (ss : List ℕ). PairKeys p T (keyed cells ss m.pairs) (key_in cells (concrete_group p m))) N.sized.abstracts_are
        (subst (λ (ss : List ℕ). PairKeys p T (keyed cells G.abstracts m.pairs) (keyed cells ss m.concretes)) N.sized.concretes_are
        (pair-keys N δ τ (says.pairs cells G T N)))

    keys_of-wholes : {G : Groups} {T : PartTests} → Nest table plan cells p G T → (δ : Point) → Tame cells δ → WholeKeys p T (key_in cells (whole_group p m))
    keys_of-wholes {G} {T} N δ τ = subst (λ (ss : List ℕ). WholeKeys p T (keyed cells ss m.wholes)) N.sized.abstracts_are (whole-keys N δ τ (says.wholes cells G T N))

    module _ {from end a mask : ℕ} {slots : List (List ℤ)} {b : Bool} (ha : a < p.abstracts.bindings) where
      -- the block of a pair, behind its last inputs
      pub pair-marked : {seen : List ℕ} {c i mark : ℕ} {after : List ℕ} → PairsSeen table plan cells p m seen → InInputs table plan cells p from end a mask c i slots → p.inputs.bindings ≤ i → c < p.concretes.bindings
          → mark ≡ key_in cells (pair_group p m) a + 1 → Within from end ((a * p.concretes.bindings + c) * per_concrete p) (per_concrete p) b
          → Marked b (key_in cells (concrete_group p m) c) mark seen after → PairsSeen table plan cells p m after
      pair-marked s l h hc e w no_mark = s
      pair-marked {seen = seen} {c = c} {i = i} {mark = mark} s l h hc e w (mark_made q) =
          record { long = length-set seen (key_in cells (concrete_group p m) c) mark ∙ s.long; each = λ G T N. more G T N }
        where
          more : (G : Groups) (T : PartTests) (N : Nest table plan cells p G T)
              → SeenPairs p T (key_in cells (pair_group p m)) (key_in cells (concrete_group p m)) (set seen (key_in cells (concrete_group p m) c) mark)
          more G T N =
              let z = (l.each G T N).stands in
              let k : key_in cells (concrete_group p m) c < p.concretes.bindings = key-low (concrete-asked N m) c hc in
              subst (λ (x : ℕ). SeenPairs p T (key_in cells (pair_group p m)) (key_in cells (concrete_group p m)) (set seen (key_in cells (concrete_group p m) c) x)) (sym e)
              (pair-seen a c (keys_of-pairs N z.point z.shows.tame) (s.each G T N) ha hc (omega (arith, k, s.long, N.sized.concretes.few))
              z.fixed.up.state z.fixed.related
              (pair-passed a c hc (w.low q) (last (a * p.concretes.bindings + c) (per_concrete p) end (w.high q)) (past-leave p.inputs.bindings (per_input p) (a * p.concretes.bindings + c) i h l.high z.past)))

      -- that of an abstract state, behind its last concrete state
      pub whole-marked : {done after : List ℕ} {c : ℕ} → WholesSeen table plan cells p m done → InConcretes table plan cells p from end a mask c slots → p.concretes.bindings ≤ c
          → Within from end (a * per_abstract p) (per_abstract p) b → Marked b (key_in cells (whole_group p m) a) 1 done after → WholesSeen table plan cells p m after
      whole-marked s l h w no_mark = s
      whole-marked {done = done} {c = c} s l h w (mark_made q) =
          record { long = length-set done (key_in cells (whole_group p m) a) 1 ∙ s.long; each = λ G T N. more G T N }
        where
          more : (G : Groups) (T : PartTests) (N : Nest table plan cells p G T) → SeenWholes p T (key_in cells (whole_group p m)) (set done (key_in cells (whole_group p m) a) 1)
          more G T N =
              let z = (l.each G T N).stands in
              whole-seen a (keys_of-wholes N z.point z.shows.tame) (s.each G T N) ha z.fixed.state
              (whole-passed a (w.low q) (last a (per_abstract p) end (w.high q)) (past-leave p.concretes.bindings (per_concrete p) a c h l.high z.past))

-- a mark is made where the test says so, and else none
pub mark-made : {b : Bool} {key mark : ℕ} {before mid after : List ℕ} → after ≡ mid → mid ≡ set before key mark → b ≡ true → Marked b key mark before after
mark-made {b} {key} {mark} {before} e f t = subst (Marked b key mark before) (sym (e ∙ f)) (mark_made t)

pub mark-none : {b : Bool} {key mark : ℕ} {before after : List ℕ} → after ≡ before → Marked b key mark before after
mark-none {b} {key} {mark} {before} e = subst (Marked b key mark before) (sym e) no_mark
