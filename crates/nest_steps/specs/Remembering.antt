-- Conclusions that are known inside one sweep: where each has its mark, and that a mark is of a conclusion that is true. Nothing here need be believed.
use Rattle.std.specs.Prelude.{◌≡◌, Bool, true, List, ℕ, ◌+◌, ◌*◌, ◌<◌, ◌≤◌, get_or, length, set, ℤ}
use Rattle.points.specs.Points.{Point, number_of, Shows}
use Rattle.plans.specs.declared.Part.{Part}
use Rattle.plans.specs.declared.Conclusion.{Conclusion}
use Rattle.plans.specs.declared.Conclusion.TheVariants.{OfState, OfStep}
use Rattle.nest_steps.specs.declared.known.Numbers.{Numbers}
use Rattle.nest_steps.specs.PartTests.{PartTests}
use Rattle.nest_steps.specs.NestPromises.{Groups, Nest, NestAsked, Stepped, ForNest}

abbrev pub numbered : (a c i o k : ℕ) → Numbers
numbered a c i o k = record { a = a; c = c; i = i; o = o; k = k }

-- by what the conclusion depends on but for the abstract state; by that state, where it does on it
unfoldable pub key_at : Conclusion → Part → Numbers → ℕ
key_at OfState p b = b.c * p.inputs.bindings + b.i
key_at OfStep p b = (b.i * p.outputs.bindings + b.o) * p.primes.bindings + b.k

unfoldable pub mark_at : Conclusion → Numbers → ℕ
mark_at OfState b = 1
mark_at OfStep b = b.a + 1

abbrev pub key_of : Part → Numbers → ℕ
key_of p b = key_at p.conclusion p b

abbrev pub mark_of : Part → Numbers → ℕ
mark_of p b = mark_at p.conclusion b

abbrev pub met_at : PartTests → Numbers → Bool
met_at T b = T.met b.a b.c b.i b.o b.k

-- a binding of the part, whose groups are small
pub record Inside (p : Part) (b : Numbers) : Type 0 where
  pub low_a : (b.a < p.abstracts.bindings) × (p.abstracts.bindings ≤ 4096)
  pub low_c : (b.c < p.concretes.bindings) × (p.concretes.bindings ≤ 4096)
  pub low_i : (b.i < p.inputs.bindings) × (p.inputs.bindings ≤ 64)
  pub low_o : (b.o < p.outputs.bindings) × (p.outputs.bindings ≤ 64)
  pub low_k : (b.k < p.primes.bindings) × (p.primes.bindings ≤ 4096)

-- where the mark of a binding stands, its conclusion is true
pub record Known (p : Part) (T : PartTests) (known : List ℕ) : Type 0 where
  pub met : (b : Numbers) → Inside p b → get_or known (key_of p b) 0 ≡ mark_of p b → met_at T b ≡ true

pub record Remembered (table plan cells : List ℕ) (p : Part) (known : List ℕ) : Type 0 where
  pub long : length known ≡ 65536
  pub each : (G : Groups) (T : PartTests) → Nest table plan cells p G T → Known p T known

-- a mark is made, if there is a place for it
pub data Noted (key mark : ℕ) (before : List ℕ) : List ℕ → Type 0 where
  no_place : Noted key mark before before
  noted : key < length before → Noted key mark before (set before key mark)

-- the slots show a binding of the part
pub record BindingShown (cells : List ℕ) (G : Groups) (b : Numbers) (before : List (List ℤ)) : Type 0 where
  pub point : Point
  pub shows : Shows cells point before
  pub abstract_is : number_of cells G.abstracts point ≡ b.a
  pub concrete_is : number_of cells G.concretes point ≡ b.c
  pub input_is : number_of cells G.inputs point ≡ b.i
  pub output_is : number_of cells G.outputs point ≡ b.o
  pub prime_is : number_of cells G.primes point ≡ b.k

pub record BindingAsked (table plan cells : List ℕ) (p : Part) (b : Numbers) (before : List (List ℤ)) : Type 0 where
  pub asked : NestAsked table plan cells p before
  pub inside : Inside p b
  pub each : (G : Groups) (T : PartTests) → Nest table plan cells p G T → BindingShown cells G b before

-- whether what must be there is there, for this binding
pub record AgainAnswers (table plan cells : List ℕ) (p : Part) (b : Numbers) (before after : List (List ℤ)) (known : List ℕ) (r : Bool) : Type 0 where
  pub is : (G : Groups) (T : PartTests) → Nest table plan cells p G T → met_at T b ≡ r
  pub left : ForNest table plan cells p before (λ (G : Groups) (T : PartTests) (δ : Point). Stepped cells G.meeting δ 0 0 after)
  pub remembered : Remembered table plan cells p known
