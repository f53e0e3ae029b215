-- Where a loop of the nest stands: a point that the slots show, with the numbers of the groups chosen so far, the premises that hold, and what passed. Assumes nothing.
use mathlib.Core.Path.{◌≡◌, ap}
use mathlib.Core.Bool.{Bool, true, false}
use mathlib.Core.List.{List}
use Prim.Native.Nat.{ℕ, ◌+◌, ◌-◌, ◌*◌, ◌/◌, ◌%◌, ◌<◌, ◌≤◌}
use native.Mathlib.Nat.{add_assoc}
use lib.IntN.{ℤ}
use Rattle.sets.specs.Sets.{has}
use Rattle.plans.specs.PointsPoints.{Point, number_of, Shows, Beside}
use Rattle.plans.specs.PointsSearches.{Sought}
use Rattle.plans.specs.declared.Part.{Part}
use Rattle.nest_steps.specs.PartTests.{PartTests, passing}
use Rattle.nest_steps.specs.NestPromises.{Groups, Nest, NestAsked, Stepped}
use Rattle.nest.proofs.PassedPlaces.{Past, past-step, past_open, past-enter, past-leave, past_same}

pub record Standing (cells : List ℕ) (slots : List (List ℤ)) (Numbers : Point → Type 0) (Fixed : Type 0) (f : ℕ → Bool) (from end x : ℕ) : Type 0 where
  pub point : Point
  pub shows : Shows cells point slots
  pub numbers : Numbers point
  pub fixed : Fixed
  pub past : Past f from end x

-- at block c, of size s, of the n blocks of the outer block x: if it is one, the slots `ss` have its number, and its test g holds
pub record At (cells : List ℕ) (slots : List (List ℤ)) (ss : List ℕ) (Numbers : Point → Type 0) (Fixed : Type 0) (g f : ℕ → Bool) (from end n s x c : ℕ) : Type 0 where
  pub stands : Standing cells slots Numbers Fixed f from end ((x * n + c) * s)
  pub number : c < n → number_of cells ss stands.point ≡ c
  pub holds : c < n → g c ≡ true

module _ {cells : List ℕ} {slots : List (List ℤ)} {Numbers : Point → Type 0} {Fixed : Type 0} {f : ℕ → Bool} {from end : ℕ} where
  pub stands_same : {x y : ℕ} → x ≡ y → Standing cells slots Numbers Fixed f from end x → Standing cells slots Numbers Fixed f from end y
  stands_same e w = record { point = w.point; shows = w.shows; numbers = w.numbers; fixed = w.fixed; past = past_same e w.past }

  -- a search in this block
  pub at-step : (ss : List ℕ) (g : ℕ → Bool) (n s x c d : ℕ) (after : List (List ℤ)) → 0 < s
      → (w : Standing cells slots Numbers Fixed f from end ((x * n + c) * s))
      → Sought g c n d
      → Stepped cells ss w.point n d after
      → ((ε : Point) → Beside ss w.point ε → Numbers ε)
      → ((j : ℕ) → j / s / n ≡ x → j / s % n < n → g (j / s % n) ≡ false → f j ≡ true)
      → At cells after ss Numbers Fixed g f from end n s x d
  at-step ss g n s x c d after h w r l keep all =
      record {
        stands = record { point = l.point; shows = l.shows; numbers = keep l.point l.beside; fixed = w.fixed; past = past-step g n s x c d h w.past r all };
        number = l.number;
        holds = r.found;
      }

  -- on to a block over those that pass
  pub at_open : (ss : List ℕ) (g : ℕ → Bool) (n s x c d : ℕ) (after : List (List ℤ)) → 0 < s
      → (w : Standing cells slots Numbers Fixed f from end ((x * n + c) * s))
      → (d < n → g d ≡ true)
      → Stepped cells ss w.point n d after
      → ((ε : Point) → Beside ss w.point ε → Numbers ε)
      → ((e : ℕ) → c ≤ e → e < d → (j : ℕ) → j / s ≡ x * n + e → f j ≡ true)
      → At cells after ss Numbers Fixed g f from end n s x d
  at_open ss g n s x c d after h w r l keep all =
      record {
        stands = record { point = l.point; shows = l.shows; numbers = keep l.point l.beside; fixed = w.fixed; past = past_open n s x c d h w.past all };
        number = l.number;
        holds = r;
      }

  -- into a block: the first inner block that is looked at
  pub stands-in : (n s x : ℕ) → Standing cells slots Numbers Fixed f from end (x * (n * s)) → Standing cells slots Numbers Fixed f from end ((x * n + (from / s - x * n)) * s)
  stands-in n s x w = record { point = w.point; shows = w.shows; numbers = w.numbers; fixed = w.fixed; past = past-enter n s x w.past }

-- out of a block whose inner blocks are all through; the outer level has fewer numbers and premises
pub stands-out : {cells : List ℕ} {slots : List (List ℤ)} {Inner Numbers : Point → Type 0} {Within Fixed : Type 0} {f : ℕ → Bool} {from end : ℕ} (n s m y b c : ℕ) → n ≤ c → c ≤ n
    → Standing cells slots Inner Within f from end (((y * m + b) * n + c) * s)
    → ((δ : Point) → Inner δ → Numbers δ)
    → (Within → Fixed)
    → Standing cells slots Numbers Fixed f from end ((y * m + (b + 1)) * (n * s))
stands-out n s m y b c h g w k q =
    record {
      point = w.point;
      shows = w.shows;
      numbers = k w.point w.numbers;
      fixed = q w.fixed;
      past = past_same (ap (λ (t : ℕ). t * (n * s)) (add_assoc (y * m) b 1)) (past-leave n s (y * m + b) c h g w.past);
    }

-- ---- the levels

-- how many places a binding of each group has
abbrev pub per_input : Part → ℕ
per_input p = p.outputs.bindings * p.primes.bindings

abbrev pub per_concrete : Part → ℕ
per_concrete p = p.inputs.bindings * (p.outputs.bindings * p.primes.bindings)

abbrev pub per_abstract : Part → ℕ
per_abstract p = p.concretes.bindings * (p.inputs.bindings * (p.outputs.bindings * p.primes.bindings))

-- the premises of what is chosen
pub record StateHolds (p : Part) (T : PartTests) (a mask : ℕ) : Type 0 where
  pub state : T.state a ≡ true
  pub bits : (i : ℕ) → i < p.inputs.bindings → has mask i ≡ T.ready a i

pub record RelatedHolds (p : Part) (T : PartTests) (a mask c : ℕ) : Type 0 where
  pub up : StateHolds p T a mask
  pub related : T.related a c ≡ true
  pub low : c < p.concretes.bindings

pub record ReadyHolds (p : Part) (T : PartTests) (a mask c i : ℕ) : Type 0 where
  pub up : RelatedHolds p T a mask c
  pub ready : T.ready a i ≡ true
  pub low : i < p.inputs.bindings

pub record FrontHolds (p : Part) (T : PartTests) (a mask c i o : ℕ) : Type 0 where
  pub up : ReadyHolds p T a mask c i
  pub front : T.front c i o ≡ true
  pub low : o < p.outputs.bindings

-- the numbers that the groups have
pub record OfAbstract (cells : List ℕ) (G : Groups) (a : ℕ) (δ : Point) : Type 0 where
  pub abstract_is : number_of cells G.abstracts δ ≡ a

pub record OfConcrete (cells : List ℕ) (G : Groups) (a c : ℕ) (δ : Point) : Type 0 where
  pub up : OfAbstract cells G a δ
  pub concrete_is : number_of cells G.concretes δ ≡ c

pub record OfInput (cells : List ℕ) (G : Groups) (a c i : ℕ) (δ : Point) : Type 0 where
  pub up : OfConcrete cells G a c δ
  pub input_is : number_of cells G.inputs δ ≡ i

pub record OfOutput (cells : List ℕ) (G : Groups) (a c i o : ℕ) (δ : Point) : Type 0 where
  pub up : OfInput cells G a c i δ
  pub output_is : number_of cells G.outputs δ ≡ o

-- at each level for every reading of the arrays as a part
pub record InAbstracts (table plan cells : List ℕ) (p : Part) (from end a : ℕ) (slots : List (List ℤ)) : Type 0 where
  pub asked : NestAsked table plan cells p slots
  pub low : from / per_abstract p ≤ a
  pub high : a ≤ p.abstracts.bindings
  pub each : (G : Groups) (T : PartTests) → Nest table plan cells p G T
      → At cells slots G.abstracts (λ (δ : Point). Unit {0}) (Unit {0}) T.state (passing p T) from end p.abstracts.bindings (per_abstract p) 0 a

pub record InConcretes (table plan cells : List ℕ) (p : Part) (from end a mask c : ℕ) (slots : List (List ℤ)) : Type 0 where
  pub asked : NestAsked table plan cells p slots
  pub low : from / per_concrete p ≤ a * p.concretes.bindings + c
  pub high : c ≤ p.concretes.bindings
  pub each : (G : Groups) (T : PartTests) → Nest table plan cells p G T
      → At cells slots G.concretes (OfAbstract cells G a) (StateHolds p T a mask) (T.related a) (passing p T) from end p.concretes.bindings (per_concrete p) a c

pub record InInputs (table plan cells : List ℕ) (p : Part) (from end a mask c i : ℕ) (slots : List (List ℤ)) : Type 0 where
  pub asked : NestAsked table plan cells p slots
  pub low : from / per_input p ≤ (a * p.concretes.bindings + c) * p.inputs.bindings + i
  pub high : i ≤ p.inputs.bindings
  pub each : (G : Groups) (T : PartTests) → Nest table plan cells p G T
      → At cells slots G.inputs (OfConcrete cells G a c) (RelatedHolds p T a mask c) (T.ready a) (passing p T) from end p.inputs.bindings (per_input p) (a * p.concretes.bindings + c) i

pub record InOutputs (table plan cells : List ℕ) (p : Part) (from end a mask c i o : ℕ) (slots : List (List ℤ)) : Type 0 where
  pub asked : NestAsked table plan cells p slots
  pub low : from / p.primes.bindings ≤ ((a * p.concretes.bindings + c) * p.inputs.bindings + i) * p.outputs.bindings + o
  pub high : o ≤ p.outputs.bindings
  pub each : (G : Groups) (T : PartTests) → Nest table plan cells p G T
      → At cells slots G.outputs (OfInput cells G a c i) (ReadyHolds p T a mask c i) (T.front c i) (passing p T) from end p.outputs.bindings p.primes.bindings
      ((a * p.concretes.bindings + c) * p.inputs.bindings + i) o

pub record InAfters (table plan cells : List ℕ) (p : Part) (from end a mask c i o k : ℕ) (slots : List (List ℤ)) : Type 0 where
  pub asked : NestAsked table plan cells p slots
  pub low : from ≤ (((a * p.concretes.bindings + c) * p.inputs.bindings + i) * p.outputs.bindings + o) * p.primes.bindings + k
  pub high : k ≤ p.primes.bindings
  pub each : (G : Groups) (T : PartTests) → Nest table plan cells p G T
      → At cells slots G.primes (OfOutput cells G a c i o) (FrontHolds p T a mask c i o) (T.steps c i o) (passing p T) from end p.primes.bindings 1
      (((a * p.concretes.bindings + c) * p.inputs.bindings + i) * p.outputs.bindings + o) k
