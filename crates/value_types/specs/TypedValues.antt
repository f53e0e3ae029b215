-- What a value of a type is, and what is known of the names in reach of a predicate in a dossier without faults. Nothing here need be believed:
-- the theorems of proofs/ say that values have their types and sizes, so that the evaluator's numbers hold them.
use Rattle.std.specs.Prelude.{◌≡◌, true, List, [], ◌∷◌, map, ℕ, ◌*◌, ◌^◌, ◌<◌, ◌≤◌, pos, nat_abs}
use Rattle.std.proofs.Math.Option.{some}
use Rattle.meaning.specs.FormTree.{Letters, Range, Domain, given_set, range, Given}
use Rattle.meaning.specs.FormTree.{Term, number, name, group, prefix, binary, divided, listed, pairs, such, empty_set, empty_pairs, Items, only, also, Pairs, only_pair, also_pair}
use Rattle.meaning.specs.FormTree.{Pred, truth, falsity, negation, paren, quantified, connected, compared, member, within, related}
use Rattle.meaning.specs.StaticRulesCarriers.{Carrier, elements_of, numbers, subsets_of, pairs_in, Variable, size_of, largest, plain, given_of}
use Rattle.meaning.specs.StaticRulesTypes.{Sort, is_number, is_element, is_set, is_pairs, Ty}
use Rattle.meaning.specs.StaticRulesScope.{Scope}
use Rattle.meaning.specs.StaticRulesNames.{range_fits}
use Rattle.meaning.specs.StaticRulesLimits.{Sizes}
use Rattle.meaning.specs.Values.{Value}
use Rattle.meaning.specs.Meaning.{Environment, size_of_given}
use Rattle.meaning.specs.Bindings.{Among, Over}

-- an element below its set's size; a set's bits below 2 ^ size; a set of pairs, of which a type has at most 16
pub record IsElementOf (n : ℕ) (v : Value) : Type 0 where
  pub over : v.first ≡ n
  pub few : n ≤ 8
  pub place : ℕ
  pub is : v.code ≡ pos place
  pub below : place < n

pub record IsSetOver (n : ℕ) (v : Value) : Type 0 where
  pub over : v.first ≡ n
  pub few : n ≤ 8
  pub bits : ℕ
  pub is : v.code ≡ pos bits
  pub below : bits < 2 ^ n

pub record IsPairsOver (n m : ℕ) (v : Value) : Type 0 where
  pub first_over : v.first ≡ n
  pub second_over : v.second ≡ m
  pub first_few : n ≤ 8
  pub second_few : m ≤ 8
  pub few : n * m ≤ 16
  pub bits : ℕ
  pub is : v.code ≡ pos bits
  pub below : bits < 2 ^ (n * m)

-- a value of a sort over given sets of these sizes
unfoldable pub OfSort : Sort → List ℕ → Value → Type 0
OfSort is_number ns v = Unit {0}
OfSort is_element [] v = ⊥
OfSort is_element (n ∷ []) v = IsElementOf n v
OfSort is_element (n ∷ m ∷ ns) v = ⊥
OfSort is_set [] v = ⊥
OfSort is_set (n ∷ []) v = IsSetOver n v
OfSort is_set (n ∷ m ∷ ns) v = ⊥
OfSort is_pairs [] v = ⊥
OfSort is_pairs (n ∷ []) v = ⊥
OfSort is_pairs (n ∷ m ∷ []) v = IsPairsOver n m v
OfSort is_pairs (n ∷ m ∷ k ∷ ns) v = ⊥

-- the sizes of the given sets that a type is over
abbrev pub sizes_over : Environment → Ty → List ℕ
sizes_over ρ t = map (λ (g : Letters). size_of_given ρ (plain g)) t.over

abbrev pub HasType : Environment → Ty → Value → Type 0
HasType ρ t v = OfSort t.sort (sizes_over ρ t) v

-- a carrier whose given sets are declared, with ends of at most 1,000 and at most 64 numbers, or at most 16 pairs
unfoldable pub CarrierFits : List Given → Carrier → Type 0
CarrierFits gs (elements_of g) = Among g gs
CarrierFits gs (numbers a b) = (nat_abs a ≤ 1000) × (nat_abs b ≤ 1000) × (range_fits a b ≡ true)
CarrierFits gs (subsets_of g) = Among g gs
CarrierFits gs (pairs_in a g h) = Among g gs × Among h gs × (size_of g * size_of h ≤ 16)

unfoldable pub CarriersFit : List Given → List Variable → Type 0
CarriersFit gs [] = Unit {0}
CarriersFit gs (v ∷ vs) = CarrierFits gs v.carrier × CarriersFit gs vs

-- a scope: given sets of at most 8 elements, each the first of its name; the names in reach with carriers that fit
pub record InReach (Γ : Scope) : Type 0 where
  pub titled : (g : Given) → Among g Γ.givens → given_of Γ.givens (plain g.title) ≡ some g
  pub few : (g : Given) → Among g Γ.givens → size_of g ≤ 8
  pub fit : CarriersFit Γ.givens Γ.reach

-- an environment of a scope: the names in reach, in their order, each with a value of its carrier
pub record Carried (Γ : Scope) (ρ : Environment) : Type 0 where
  pub givens : ρ.givens ≡ Γ.givens
  pub over : Over Γ.reach ρ.values

-- "a number's is 0 to 1,000": all numbers of a tree
abbrev pub RangeWithin : Range → Type 0
RangeWithin r = (r.lower.magnitude ≤ 1000) × (r.upper.magnitude ≤ 1000)

abbrev pub DomainWithin : Domain → Type 0
DomainWithin (given_set g) = Unit {0}
DomainWithin (range r) = RangeWithin r

unfoldable mutual
  pub TermWithin : Term → Type 0
  TermWithin (number n) = n ≤ 1000
  TermWithin (name x) = Unit {0}
  TermWithin (group t) = TermWithin t
  TermWithin (prefix o t) = TermWithin t
  TermWithin (binary o t u) = TermWithin t × TermWithin u
  TermWithin (divided o t e) = TermWithin t × (e.magnitude ≤ 1000)
  TermWithin (listed ts) = ItemsWithin ts
  TermWithin (pairs ts) = PairsWithin ts
  TermWithin (such x g p) = PredWithin p
  TermWithin (empty_set g) = Unit {0}
  TermWithin (empty_pairs g h) = Unit {0}

  pub ItemsWithin : Items → Type 0
  ItemsWithin (only t) = TermWithin t
  ItemsWithin (also t ts) = TermWithin t × ItemsWithin ts

  pub PairsWithin : Pairs → Type 0
  PairsWithin (only_pair t u) = TermWithin t × TermWithin u
  PairsWithin (also_pair t u ts) = TermWithin t × TermWithin u × PairsWithin ts

  pub PredWithin : Pred → Type 0
  PredWithin truth = Unit {0}
  PredWithin falsity = Unit {0}
  PredWithin (negation p) = PredWithin p
  PredWithin (paren p) = PredWithin p
  PredWithin (quantified q x t p) = DomainWithin t × PredWithin p
  PredWithin (connected o p q) = PredWithin p × PredWithin q
  PredWithin (compared o t u) = TermWithin t × TermWithin u
  PredWithin (member o t u) = TermWithin t × TermWithin u
  PredWithin (within o t r) = TermWithin t × RangeWithin r
  PredWithin (related o t u v) = TermWithin t × TermWithin u × TermWithin v

-- number 13's sizes of the names in reach
abbrev pub sizes_in : Scope → Sizes
sizes_in Γ = map (λ (v : Variable). (v.called, largest v.carrier)) Γ.reach
