-- Names and types by numbers: what the code of the pass keeps of each name, the type of a term and the least fault of a tree, as numbers.
-- That these are the types and faults of static_rules/specs/Names is names/proofs/TypesAgree. Nothing here need be believed.
use Rattle.std.specs.Prelude.{◌≡◌, Bool, ◌&&◌, ◌||◌, cond, List, ◌++◌, ℕ, suc, ◌+◌, ◌-◌, ◌*◌, ◌/◌, ◌%◌, ◌≤◌, eqb, leb, ltb, length, take, get_or, set}
use Rattle.std.proofs.Math.Option.{Option, none, some}
use Rattle.lexical.specs.Kinds.{code_of}
use Rattle.lexical.specs.Symbols.{no_ending}
use Rattle.refusals.specs.Refusals.{Fault, number_of, least}
use Rattle.refusals.specs.RefusalNames.{fault_is}
use Rattle.refusals.specs.declared.Fault as code
use Rattle.std.specs.Prelude as rust
use Rattle.std.specs.Prelude.{None, Some}
use Rattle.std.specs.Bool.{then_some}
use Rattle.form.specs.Tree.{Prefix, negate, size, dom, ran, Operator, plus, minus, union, without, times, inter, Comparison, equals, differs, less, at_most, Domain, given_set, range}
use Rattle.form.specs.Tree.{Term, number, name, group, prefix, binary, divided, listed, pairs, such, empty_set, empty_pairs, Items, only, also, Pairs, only_pair, also_pair}
use Rattle.form.specs.Tree.{Pred, truth, falsity, negation, paren, quantified, connected, compared, member, within, related}
use Rattle.form.specs.Written.{prefix_kind, operator_kind, comparison_kind}
use Rattle.form.specs.Codes.{Numbering, name_number, number_of_name, end_number, end_width, sign_of, term_width, pred_width, domain_width, domain_codes, term_codes, items_codes, pairs_codes, pred_codes}
use Rattle.type_rules.specs.declared.Seen.{Seen}
use Rattle.type_rules.specs.declared.Node.{Node}

-- What a name is, by its number: 0 free, 1 a number, 2 in use and no term, 8 + g the given set g, 16 + g an element of it, 32 + g a set over it,
-- 64 + 8 g + h a set of pairs. The types of terms are numbered so as well; 0 is none.
abbrev pub Names : Type 0
Names = List ℕ

-- how many elements each given set has
abbrev pub Sizes : Type 0
Sizes = List ℕ

abbrev pub entry : Names → ℕ → ℕ
entry T x = get_or T x 0

unfoldable pub is_free : ℕ → Bool
is_free k = eqb k 0

unfoldable pub is_number : ℕ → Bool
is_number k = eqb k 1

unfoldable pub is_given : ℕ → Bool
is_given k = leb 8 k && ltb k 16

unfoldable pub is_element : ℕ → Bool
is_element k = leb 16 k && ltb k 32

unfoldable pub is_set : ℕ → Bool
is_set k = leb 32 k

unfoldable pub is_pairs : ℕ → Bool
is_pairs k = leb 64 k

-- the name stands for a value
unfoldable pub in_reach : ℕ → Bool
in_reach k = is_number k || leb 16 k

-- an element of a given set; the sets of such elements; the pairs of two; the two sides of a set of pairs
unfoldable pub element_of : ℕ → ℕ
element_of k = cond (is_given k) (k + 8) 0

unfoldable pub set_of : ℕ → ℕ
set_of k = cond (is_element k) (k + 16) 0

unfoldable pub pair_of : ℕ → ℕ → ℕ
pair_of k l = cond (is_element k && is_element l) (64 + 8 * (k - 16) + (l - 16)) 0

unfoldable pub dom_of : ℕ → ℕ
dom_of k = cond (is_pairs k) (32 + (k - 64) / 8) 0

unfoldable pub ran_of : ℕ → ℕ
ran_of k = cond (is_pairs k) (32 + (k - 64) % 8) 0

-- which given set it is; of which one it is an element; of which two elements it has pairs
abbrev pub given_in : ℕ → rust.Option ℕ
given_in k = then_some (is_given k) (k - 8)

abbrev pub element_in : ℕ → rust.Option ℕ
element_in k = then_some (is_element k) (k - 16)

abbrev pub pairs_in : ℕ → rust.Option (ℕ × ℕ)
pairs_in k = then_some (is_pairs k) ((k - 64) / 8, (k - 64) % 8)

unfoldable pub prefix_fits : Prefix → ℕ → Bool
prefix_fits negate k = is_number k
prefix_fits size k = is_set k
prefix_fits dom k = is_pairs k
prefix_fits ran k = is_pairs k

unfoldable pub prefix_type : Prefix → ℕ → ℕ
prefix_type negate k = 1
prefix_type size k = 1
prefix_type dom k = dom_of k
prefix_type ran k = ran_of k

unfoldable pub operator_fits : Operator → ℕ → ℕ → Bool
operator_fits plus k l = is_number k && is_number l
operator_fits minus k l = is_number k && is_number l
operator_fits times k l = is_number k && is_number l
operator_fits union k l = is_set k && eqb k l
operator_fits without k l = is_set k && eqb k l
operator_fits inter k l = is_set k && eqb k l

unfoldable pub comparison_fits : Comparison → ℕ → ℕ → Bool
comparison_fits equals k l = eqb k l
comparison_fits differs k l = eqb k l
comparison_fits less k l = is_number k && is_number l
comparison_fits at_most k l = is_number k && is_number l

unfoldable pub member_fits : ℕ → ℕ → Bool
member_fits k l = is_element k && eqb (k + 16) l

unfoldable pub related_fits : ℕ → ℕ → ℕ → Bool
related_fits k l m = (is_element k && is_element l) && eqb (pair_of k l) m

-- what two items of a brace have in common
unfoldable pub shared : ℕ → ℕ → ℕ
shared k l = cond (eqb k l) k 0

-- how many numbers of refusals there is room for at one place: those with a place are below 32
abbrev pub key_room : ℕ
key_room = 32

-- a fault by its place and number, and one added; 0 for none
abbrev pub key : ℕ → ℕ → ℕ
key i n = i * key_room + n + 1

-- the least of some faults, as a number
abbrev pub key_of : Option Fault → ℕ
key_of none = 0
key_of (some f) = key f.place (number_of f.refusal)

-- what the code found: a fault by its name and place, or none; and as a number
abbrev pub found : rust.Option code.Fault → Option Fault
found None = none
found (Some f) = some (fault_is f)

abbrev pub fault_key : rust.Option code.Fault → ℕ
fault_key r = key_of (found r)

abbrev pub least_key : List Fault → ℕ
least_key fs = key_of (least fs)

abbrev pub unless_key : Bool → ℕ → ℕ
unless_key ok f = cond ok 0 f

unfoldable pub lesser : ℕ → ℕ → ℕ
lesser a b = cond (eqb a 0) b (cond (eqb b 0) a (cond (ltb b a) b a))

-- a whole with faults m in its parts; one of two, the first where it is not 0
abbrev pub judged_key : Bool → ℕ → ℕ → ℕ
judged_key fits f m = cond (eqb m 0) (unless_key fits f) m

abbrev pub inside_key : ℕ → ℕ → ℕ
inside_key a b = cond (eqb a 0) b a

-- 11: a range, by its ends with 1,000 added; two given sets, by what they are
unfoldable pub range_fits : ℕ → ℕ → Bool
range_fits a b = leb a b && ltb b (a + 64)

unfoldable pub size_in : Sizes → ℕ → ℕ
size_in z g = get_or z g 0

unfoldable pub product_fits : Sizes → (g h : ℕ) → Bool
product_fits z g h = leb (size_in z g * size_in z h) 16

-- the fault of pairs over two names that are given sets
unfoldable pub over_key : Sizes → (k l i : ℕ) → ℕ
over_key z k l i = cond (is_given k && is_given l) (unless_key (product_fits z (k - 8) (l - 8)) (key i 11)) 0

-- the fault of a brace of pairs of the type k, where its parts have none
unfoldable pub brace_key : Sizes → (k i : ℕ) → ℕ
brace_key z k i = cond (is_pairs k) (unless_key (product_fits z ((k - 64) / 8) ((k - 64) % 8)) (key i 11)) (key i 10)

unfoldable pub domain_kind : Domain → Names → Numbering → ℕ
domain_kind (given_set g) T ρ = element_of (entry T (name_number ρ g))
domain_kind (range r) T ρ = 1

unfoldable pub domain_key : Domain → Names → Numbering → (i : ℕ) → ℕ
domain_key (given_set g) T ρ i = unless_key (is_given (entry T (name_number ρ g))) (key i 9)
domain_key (range r) T ρ i = unless_key (range_fits (end_number r.lower) (end_number r.upper)) (key (i + end_width r.lower) 11)

-- the type of a term; what the items of a brace, or its pairs, have in common
unfoldable mutual
  pub term_kind : Term → Names → Numbering → ℕ
  term_kind (number n) T ρ = 1
  term_kind (name x) T ρ = entry T (name_number ρ x)
  term_kind (group t) T ρ = term_kind t T ρ
  term_kind (prefix o t) T ρ = prefix_type o (term_kind t T ρ)
  term_kind (binary o t u) T ρ = term_kind t T ρ
  term_kind (divided o t e) T ρ = 1
  term_kind (listed ts) T ρ = set_of (items_kind ts T ρ)
  term_kind (pairs ts) T ρ = pairs_kind ts T ρ
  term_kind (such x g p) T ρ = set_of (element_of (entry T (name_number ρ g)))
  term_kind (empty_set g) T ρ = set_of (element_of (entry T (name_number ρ g)))
  term_kind (empty_pairs g h) T ρ = pair_of (element_of (entry T (name_number ρ g))) (element_of (entry T (name_number ρ h)))

  pub items_kind : Items → Names → Numbering → ℕ
  items_kind (only t) T ρ = term_kind t T ρ
  items_kind (also t ts) T ρ = shared (term_kind t T ρ) (items_kind ts T ρ)

  pub pairs_kind : Pairs → Names → Numbering → ℕ
  pairs_kind (only_pair t u) T ρ = pair_of (term_kind t T ρ) (term_kind u T ρ)
  pairs_kind (also_pair t u ts) T ρ = shared (pair_of (term_kind t T ρ) (term_kind u T ρ)) (pairs_kind ts T ρ)

-- what a name bound over a kind makes of the names
abbrev pub bound : Names → ℕ → ℕ → Names
bound T x k = set T x k

-- the least fault of the tree that begins at the symbol i
unfoldable mutual
  pub term_key : Term → Names → Numbering → Sizes → (i : ℕ) → ℕ
  term_key (number n) T ρ z i = 0
  term_key (name x) T ρ z i = unless_key (in_reach (entry T (name_number ρ x))) (key i 9)
  term_key (group t) T ρ z i = term_key t T ρ z (suc i)
  term_key (prefix o t) T ρ z i = judged_key (prefix_fits o (term_kind t T ρ)) (key i 10) (term_key t T ρ z (suc i))
  term_key (binary o t u) T ρ z i =
      judged_key (operator_fits o (term_kind t T ρ) (term_kind u T ρ)) (key (i + term_width t) 10)
      (lesser (term_key t T ρ z i) (term_key u T ρ z (suc (i + term_width t))))
  term_key (divided o t e) T ρ z i =
      judged_key (is_number (term_kind t T ρ)) (key (i + term_width t) 10)
      (lesser (term_key t T ρ z i) (unless_key (ltb 0 e.magnitude) (key (i + term_width t + 1 + sign_of e.negative) 14)))
  term_key (listed ts) T ρ z i = judged_key (is_element (items_kind ts T ρ)) (key i 10) (items_key ts T ρ z (suc i))
  term_key (pairs ts) T ρ z i = inside_key (pairs_key ts T ρ z (suc i)) (brace_key z (pairs_kind ts T ρ) i)
  term_key (such x g p) T ρ z i =
      inside_key (lesser (unless_key (is_free (entry T (number_of_name ρ x no_ending))) (key (i + 1) 8)) (unless_key (is_given (entry T (name_number ρ g))) (key (i + 3) 9)))
      (pred_key p (bound T (number_of_name ρ x no_ending) (element_of (entry T (name_number ρ g)))) ρ z (i + 5))
  term_key (empty_set g) T ρ z i = unless_key (is_given (entry T (name_number ρ g))) (key (i + 1) 9)
  term_key (empty_pairs g h) T ρ z i =
      lesser (unless_key (is_given (entry T (name_number ρ g))) (key (i + 1) 9))
      (lesser (unless_key (is_given (entry T (name_number ρ h))) (key (i + 2) 9)) (over_key z (entry T (name_number ρ g)) (entry T (name_number ρ h)) i))

  pub items_key : Items → Names → Numbering → Sizes → (i : ℕ) → ℕ
  items_key (only t) T ρ z i = term_key t T ρ z i
  items_key (also t ts) T ρ z i = lesser (term_key t T ρ z i) (items_key ts T ρ z (suc (i + term_width t)))

  pub pairs_key : Pairs → Names → Numbering → Sizes → (i : ℕ) → ℕ
  pairs_key (only_pair t u) T ρ z i = lesser (term_key t T ρ z i) (term_key u T ρ z (suc (i + term_width t)))
  pairs_key (also_pair t u ts) T ρ z i =
      lesser (lesser (term_key t T ρ z i) (term_key u T ρ z (suc (i + term_width t)))) (pairs_key ts T ρ z (suc (suc (i + term_width t) + term_width u)))

  pub pred_key : Pred → Names → Numbering → Sizes → (i : ℕ) → ℕ
  pred_key truth T ρ z i = 0
  pred_key falsity T ρ z i = 0
  pred_key (negation p) T ρ z i = pred_key p T ρ z (suc i)
  pred_key (paren p) T ρ z i = pred_key p T ρ z (suc i)
  pred_key (connected o p q) T ρ z i = lesser (pred_key p T ρ z i) (pred_key q T ρ z (suc (i + pred_width p)))
  pred_key (compared o t u) T ρ z i =
      judged_key (comparison_fits o (term_kind t T ρ) (term_kind u T ρ)) (key (i + term_width t) 10)
      (lesser (term_key t T ρ z i) (term_key u T ρ z (suc (i + term_width t))))
  pred_key (member o t u) T ρ z i =
      judged_key (member_fits (term_kind t T ρ) (term_kind u T ρ)) (key (i + term_width t) 10)
      (lesser (term_key t T ρ z i) (term_key u T ρ z (suc (i + term_width t))))
  pred_key (within o t r) T ρ z i =
      judged_key (is_number (term_kind t T ρ)) (key (i + term_width t) 10)
      (lesser (term_key t T ρ z i) (domain_key (range r) T ρ (suc (i + term_width t))))
  pred_key (related o t u v) T ρ z i =
      judged_key (related_fits (term_kind t T ρ) (term_kind u T ρ) (term_kind v T ρ)) (key (suc (i + term_width t) + term_width u) 10)
      (lesser (lesser (term_key t T ρ z i) (term_key u T ρ z (suc (i + term_width t)))) (term_key v T ρ z (suc (suc (i + term_width t) + term_width u))))
  pred_key (quantified q x t p) T ρ z i =
      inside_key (lesser (unless_key (is_free (entry T (number_of_name ρ x no_ending))) (key (i + 2) 8)) (domain_key t T ρ (i + 4)))
      (pred_key p (bound T (number_of_name ρ x no_ending) (domain_kind t T ρ)) ρ z (i + 5 + domain_width t))

-- the code tells prefixes, operators and comparisons by their symbols' codes
abbrev pub PrefixFits : (o k : ℕ) → Bool → Type 0
PrefixFits o k r = (p : Prefix) → code_of (prefix_kind p) ≡ o → r ≡ prefix_fits p k

abbrev pub PrefixType : (o k r : ℕ) → Type 0
PrefixType o k r = (p : Prefix) → code_of (prefix_kind p) ≡ o → r ≡ prefix_type p k

abbrev pub OperatorFits : (o k l : ℕ) → Bool → Type 0
OperatorFits o k l r = (p : Operator) → code_of (operator_kind p) ≡ o → r ≡ operator_fits p k l

abbrev pub ComparisonFits : (o k l : ℕ) → Bool → Type 0
ComparisonFits o k l r = (p : Comparison) → code_of (comparison_kind p) ≡ o → r ≡ comparison_fits p k l

-- the place and the numbers of the node that ends at e
pub record NodeAt (code : List ℕ) (e : ℕ) (n : Node) : Type 0 where
  pub place_is : n.place ≡ get_or code (e - 4 + 2) 0
  pub first_is : n.a ≡ get_or code (e - 4 + 1) 0
  pub second_is : n.b ≡ get_or code (e - 4) 0

-- what was seen: the type k, the least fault f, where the nodes begin
pub record Saw (r : Seen) (k f s : ℕ) : Type 0 where
  pub kind_is : r.kind ≡ k
  pub fault_is : fault_key r.fault ≡ f
  pub start_is : r.start ≡ s

-- what a walk over nodes that end at e promises of whatever tree they are the nodes of; the names are restored
pub record DomainSeen (code : List ℕ) (e : ℕ) (T : Names) (r : Seen) : Type 0 where
  pub falls : r.start ≤ e
  pub right : (d : Domain) (i : ℕ) (ρ : Numbering) (base : List ℕ) → take e code ≡ base ++ domain_codes d i ρ
      → Saw r (domain_kind d T ρ) (domain_key d T ρ i) (length base)

pub record TermSeen (code : List ℕ) (e : ℕ) (T U : Names) (z : Sizes) (r : Seen) : Type 0 where
  pub falls : r.start ≤ e
  pub kept : U ≡ T
  pub right : (t : Term) (i : ℕ) (ρ : Numbering) (base : List ℕ) → take e code ≡ base ++ term_codes t i ρ
      → Saw r (term_kind t T ρ) (term_key t T ρ z i) (length base)

pub record ItemsSeen (code : List ℕ) (e : ℕ) (T U : Names) (z : Sizes) (r : Seen) : Type 0 where
  pub falls : r.start ≤ e
  pub kept : U ≡ T
  pub right : (ts : Items) (i : ℕ) (ρ : Numbering) (base : List ℕ) → take e code ≡ base ++ items_codes ts i ρ
      → Saw r (items_kind ts T ρ) (items_key ts T ρ z i) (length base)

-- two terms, one behind the other
pub record PairSeen (code : List ℕ) (e : ℕ) (T U : Names) (z : Sizes) (r : Seen) : Type 0 where
  pub falls : r.start ≤ e
  pub kept : U ≡ T
  pub right : (t u : Term) (i j : ℕ) (ρ : Numbering) (base : List ℕ) → take e code ≡ (base ++ term_codes t i ρ) ++ term_codes u j ρ
      → Saw r (pair_of (term_kind t T ρ) (term_kind u T ρ)) (lesser (term_key t T ρ z i) (term_key u T ρ z j)) (length base)

pub record PairsSeen (code : List ℕ) (e : ℕ) (T U : Names) (z : Sizes) (r : Seen) : Type 0 where
  pub falls : r.start ≤ e
  pub kept : U ≡ T
  pub right : (ts : Pairs) (i : ℕ) (ρ : Numbering) (base : List ℕ) → take e code ≡ base ++ pairs_codes ts i ρ
      → Saw r (pairs_kind ts T ρ) (pairs_key ts T ρ z i) (length base)

pub record PredSeen (code : List ℕ) (e : ℕ) (T U : Names) (z : Sizes) (r : Seen) : Type 0 where
  pub falls : r.start ≤ e
  pub kept : U ≡ T
  pub right : (p : Pred) (i : ℕ) (ρ : Numbering) (base : List ℕ) → take e code ≡ base ++ pred_codes p i ρ
      → Saw r 0 (pred_key p T ρ z i) (length base)
