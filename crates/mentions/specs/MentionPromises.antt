-- What it is that nodes are free of a slot: they give the same with any value in it. What the functions promise. Nothing here need be believed.
use Rattle.std.specs.Prelude.{Option, IfSome, ◌≡◌, Bool, true, List, ℕ, ◌<◌, get_or, length, ℤ, pos}
use Rattle.evaluator.specs.EvaluationEvaluationByNumber.{Values, TermIs, ItemsIs, TruthIs, AskedNode}

-- values in slots that are the same in all slots but s
pub record Agree (s : ℕ) (ρ τ : Values) : Type 0 where
  pub long : length ρ ≡ 64
  pub other_long : length τ ≡ 64
  pub same : (k : ℕ) → (k ≡ s → ⊥) → get_or ρ k (pos 0) ≡ get_or τ k (pos 0)

-- what is so with values in slots is so with any that are the same in all slots but s
abbrev pub Frames : {A : Type 0} → (Values → A → Type 0) → (s : ℕ) → Type 0
Frames {A} T s = (ρ τ : Values) → Agree s ρ τ → (x : A) → T ρ x → T τ x

-- the nodes up to e are free of s: of a term, of the items of a brace, of a predicate, of the parts of in and notin
pub record TermFree (t : List ℕ) (e s : ℕ) : Type 0 where
  pub frame : (f : ℕ) → Frames (λ ρ v. TermIs f t e ρ v) s

pub record ItemsFree (t : List ℕ) (e s : ℕ) : Type 0 where
  pub frame : (f : ℕ) → Frames (λ ρ v. ItemsIs f t e ρ v) s

pub record TruthFree (t : List ℕ) (e s : ℕ) : Type 0 where
  pub frame : (f : ℕ) → Frames (λ ρ b. TruthIs f t e ρ b) s

pub record AskedFree (t : List ℕ) (e s : ℕ) : Type 0 where
  pub frame : (f : ℕ) → Frames (λ ρ b. AskedNode (λ j σ x. TermIs f t j σ x) t e ρ b) s

-- an answer yes says so
pub record TermSays (t : List ℕ) (e s : ℕ) (r : Bool) : Type 0 where
  pub means : r ≡ true → TermFree t e s

pub record ItemsSay (t : List ℕ) (e s : ℕ) (r : Bool) : Type 0 where
  pub means : r ≡ true → ItemsFree t e s

pub record TruthSays (t : List ℕ) (e s : ℕ) (r : Bool) : Type 0 where
  pub means : r ≡ true → TruthFree t e s

pub record AskedSays (t : List ℕ) (e s : ℕ) (r : Bool) : Type 0 where
  pub means : r ≡ true → AskedFree t e s

-- where a part of the node that ends at e ends, of which the node says p
pub record Earlier (e p r : ℕ) : Type 0 where
  pub before : r < e
  pub is : p < e → r ≡ p

-- that part, a term, is free of s; an answer yes says so
pub record PartFree (t : List ℕ) (e p s : ℕ) : Type 0 where
  pub end : ℕ
  pub earlier : Earlier e p end
  pub free : TermFree t end s

pub record PartSays (t : List ℕ) (e p s : ℕ) (r : Bool) : Type 0 where
  pub means : r ≡ true → PartFree t e p s

-- the term up to `own` is the variable of the slot s, that up to `other` is free of it
pub record Tells (t : List ℕ) (own other s : ℕ) : Type 0 where
  pub own_is : (f : ℕ) (ρ : Values) (v : ℤ) → TermIs f t own ρ v → v ≡ get_or ρ s (pos 0)
  pub free : TermFree t other s

pub record TellsSlot (t : List ℕ) (own other s : ℕ) (r : Bool) : Type 0 where
  pub means : r ≡ true → Tells t own other s

-- the term up to q, with values in slots: if the truth b of an equation is true, it is worth what is in the slot s
pub record Solved (t : List ℕ) (q s : ℕ) (ρ : Values) (b : Bool) : Type 0 where
  pub fuel : ℕ
  pub value : ℤ
  pub is : TermIs fuel t q ρ value
  pub same : b ≡ true → get_or ρ s (pos 0) ≡ value

-- the predicate up to e says that the variable of the slot s is the term up to q, which is free of it
pub record Solves (t : List ℕ) (e s q : ℕ) : Type 0 where
  pub gives : (f : ℕ) (ρ : Values) (b : Bool) → TruthIs f t e ρ b → Solved t q s ρ b
  pub free : TermFree t q s

abbrev pub Solving : (t : List ℕ) (e s : ℕ) → Option ℕ → Type 0
Solving t e s r = IfSome r (λ (q : ℕ). Solves t e s q)
