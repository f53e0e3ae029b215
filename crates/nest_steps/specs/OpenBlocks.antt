-- What the functions ask and promise that pass over blocks which are known to pass. Nothing here need be believed.
use Rattle.std.specs.Prelude.{◌≡◌, true, List, ℕ, ◌+◌, ◌<◌, ◌≤◌, length, ℤ}
use Rattle.points.specs.Points.{Point, number_of}
use Rattle.plans.specs.declared.Part.{Part}
use Rattle.idle_variables.specs.declared.keys.KeyGroup.{KeyGroup}
use Rattle.idle_variables.specs.KeyPromises.{key_in}
use Rattle.nest_steps.specs.declared.blocks.Masks.{Masks}
use Rattle.nest_steps.specs.PartTests.{PartTests}
use Rattle.nest_steps.specs.NestPromises.{Groups, Nest, Stepped, ForNest}
use Rattle.nest_steps.specs.IdleGroups.{IdlePairs, IdleWholes}
use Rattle.nest_steps.specs.PassedBlocks.{PairPasses, WholePasses, SeenPairs, SeenWholes}

-- asked for the masks: the arrays can be read as a part
pub record MasksAsked (table plan : List ℕ) (p : Part) : Type 0 where
  pub cells : List ℕ
  pub groups : Groups
  pub tests : PartTests
  pub nest : Nest table plan cells p groups tests

pub record MasksAnswers (table plan : List ℕ) (p : Part) (m : Masks) : Type 0 where
  pub pairs : (cells : List ℕ) (G : Groups) (T : PartTests) → Nest table plan cells p G T → IdlePairs cells G T m.pairs m.concretes
  pub wholes : (cells : List ℕ) (G : Groups) (T : PartTests) → Nest table plan cells p G T → IdleWholes cells G T m.wholes

-- the groups by whose keys blocks are alike: of the abstract state of a pair, of its concrete state, of an abstract state alone
abbrev pub pair_group : Part → Masks → KeyGroup
pair_group p m = record { first = 0; size = p.abstracts; idle = m.pairs }

abbrev pub concrete_group : Part → Masks → KeyGroup
concrete_group p m = record { first = 8; size = p.concretes; idle = m.concretes }

abbrev pub whole_group : Part → Masks → KeyGroup
whole_group p m = record { first = 0; size = p.abstracts; idle = m.wholes }

-- what is marked passes
pub record PairsSeen (table plan cells : List ℕ) (p : Part) (m : Masks) (seen : List ℕ) : Type 0 where
  pub long : length seen ≡ 4096
  pub each : (G : Groups) (T : PartTests) → Nest table plan cells p G T → SeenPairs p T (key_in cells (pair_group p m)) (key_in cells (concrete_group p m)) seen

pub record WholesSeen (table plan cells : List ℕ) (p : Part) (m : Masks) (done : List ℕ) : Type 0 where
  pub long : length done ≡ 4096
  pub each : (G : Groups) (T : PartTests) → Nest table plan cells p G T → SeenWholes p T (key_in cells (whole_group p m)) done

-- from c on up to r the blocks of the abstract state that the slots have, whose mark this is, and of these concrete states pass
pub record OpenConcrete (table plan cells : List ℕ) (p : Part) (m : Masks) (mark c : ℕ) (before after : List (List ℤ)) (r : ℕ) : Type 0 where
  pub low : c ≤ r
  pub high : r ≤ p.concretes.bindings
  pub past : ForNest table plan cells p before
      (λ (G : Groups) (T : PartTests) (δ : Point).
      (mark ≡ key_in cells (pair_group p m) (number_of cells G.abstracts δ) + 1) → (e : ℕ) → c ≤ e → e < r → PairPasses p T (number_of cells G.abstracts δ) e)
  pub found : ForNest table plan cells p before (λ (G : Groups) (T : PartTests) (δ : Point). (r < p.concretes.bindings) → T.related (number_of cells G.abstracts δ) r ≡ true)
  pub left : ForNest table plan cells p before (λ (G : Groups) (T : PartTests) (δ : Point). Stepped cells G.concretes δ p.concretes.bindings r after)

-- from a on up to r the blocks of these abstract states pass
pub record OpenAbstract (table plan cells : List ℕ) (p : Part) (a : ℕ) (before after : List (List ℤ)) (r : ℕ) : Type 0 where
  pub low : a ≤ r
  pub high : r ≤ p.abstracts.bindings
  pub past : (G : Groups) (T : PartTests) → Nest table plan cells p G T → (e : ℕ) → a ≤ e → e < r → WholePasses p T e
  pub found : (G : Groups) (T : PartTests) → Nest table plan cells p G T → (r < p.abstracts.bindings) → T.state r ≡ true
  pub left : ForNest table plan cells p before (λ (G : Groups) (T : PartTests) (δ : Point). Stepped cells G.abstracts δ p.abstracts.bindings r after)
