-- What the walk that writes the table promises of whatever tree the nodes are those of. Nothing here need be believed.
use Rattle.std.specs.Prelude.{◌≡◌, ◌⊎◌, List, ◌++◌, ℕ, ◌+◌, ◌-◌, ◌≤◌, length, take, drop, get_or, set}
use Rattle.lexical.specs.Kinds as kind
use Rattle.lexical.specs.Kinds.{code_of}
use Rattle.form.specs.Tree.{Membership, Domain, Term, Items, Pairs, Pred}
use Rattle.form.specs.Written.{membership_kind}
use Rattle.form.specs.Codes.{Numbering, domain_codes, term_codes, items_codes, pairs_codes, pred_codes}
use Rattle.type_rules.specs.TypesByNumber.{Names, Sizes, entry, domain_kind, term_kind, items_kind, pairs_kind}
use Rattle.table_nodes.specs.TableByNumber.{Places, next_slot, related_shape, domain_table, term_table, items_table, pairs_table, pred_table}
use Rattle.table_nodes.specs.declared.Made.{Made}

-- the code tells memberships, and true from false, by their symbols' codes
abbrev pub RelatedShape : (o r : ℕ) → Type 0
RelatedShape o r = (m : Membership) → code_of (membership_kind m) ≡ o → r ≡ related_shape m

abbrev pub TruthOf : (o r : ℕ) → Type 0
TruthOf o r = (code_of kind.TRUE ≡ o → r ≡ 1) × (code_of kind.FALSE ≡ o → r ≡ 0)

-- the numbers `piece` written from the place b on
unfoldable pub patch : ℕ → List ℕ → List ℕ → List ℕ
patch b piece out = take b out ++ (piece ++ drop (b + length piece) out)

-- what a walk asks: the nodes up to e stand in the code, and the table has as many numbers, all places of 16 bits
pub record WalkAsked (code : List ℕ) (e : ℕ) (out : List ℕ) : Type 0 where
  pub inside : e ≤ length code
  pub fits : length code ≤ length out
  pub small : length out ≤ 16384

-- the same where a node of the shape k ends at e
pub record NodeAsked (code : List ℕ) (e k : ℕ) (out : List ℕ) : Type 0 where
  pub inside : e ≤ length code
  pub fits : length code ≤ length out
  pub small : length out ≤ 16384
  pub far : 4 ≤ e
  pub shape : get_or code (e - 4 + 3) 0 ≡ k

-- two terms with a symbol between them: a comparison, or a membership; g is the shape in the table
pub record SidesAsked (code : List ℕ) (e g : ℕ) (out : List ℕ) : Type 0 where
  pub asked : WalkAsked code e out
  pub far : 4 ≤ e
  pub shape : ((get_or code (e - 4 + 3) 0 ≡ 4) × (g ≡ 19)) ⊎ ((get_or code (e - 4 + 3) 0 ≡ 5) × (g ≡ 20))

-- what was made: the type k, where the nodes begin, the piece written from there on, up to e
pub record Makes (r : Made) (k b e : ℕ) (piece out after : List ℕ) : Type 0 where
  pub kind_is : r.kind ≡ k
  pub start_is : r.start ≡ b
  pub end_is : b + length piece ≡ e
  pub written : after ≡ patch b piece out

-- what holds whether or not the nodes are a tree's: names and places are restored
pub record Walked (e : ℕ) (T U : Names) (W Y : Places) (out after : List ℕ) (r : Made) : Type 0 where
  pub falls : r.start ≤ e
  pub kept : U ≡ T
  pub places_kept : Y ≡ W
  pub long : length after ≡ length out

pub record DomainMade (code : List ℕ) (e : ℕ) (T : Names) (z : Sizes) (out after : List ℕ) (r : Made) : Type 0 where
  pub falls : r.start ≤ e
  pub long : length after ≡ length out
  pub right : (d : Domain) (i : ℕ) (ρ : Numbering) (base : List ℕ) → take e code ≡ base ++ domain_codes d i ρ
      → Makes r (domain_kind d T ρ) (length base) e (domain_table d T z ρ) out after

pub record TermMade (code : List ℕ) (e s : ℕ) (T U : Names) (W Y : Places) (z : Sizes) (out after : List ℕ) (r : Made) : Type 0 where
  pub walked : Walked e T U W Y out after r
  pub right : (t : Term) (i : ℕ) (ρ : Numbering) (base : List ℕ) → take e code ≡ base ++ term_codes t i ρ
      → Makes r (term_kind t T ρ) (length base) e (term_table t T W z ρ s (length base)) out after

pub record ItemsMade (code : List ℕ) (e s : ℕ) (T U : Names) (W Y : Places) (z : Sizes) (out after : List ℕ) (r : Made) : Type 0 where
  pub walked : Walked e T U W Y out after r
  pub right : (ts : Items) (i : ℕ) (ρ : Numbering) (base : List ℕ) → take e code ≡ base ++ items_codes ts i ρ
      → Makes r (items_kind ts T ρ) (length base) e (items_table ts T W z ρ s (length base)) out after

pub record PairsMade (code : List ℕ) (e s : ℕ) (T U : Names) (W Y : Places) (z : Sizes) (out after : List ℕ) (r : Made) : Type 0 where
  pub walked : Walked e T U W Y out after r
  pub right : (ts : Pairs) (i : ℕ) (ρ : Numbering) (base : List ℕ) → take e code ≡ base ++ pairs_codes ts i ρ
      → Makes r (pairs_kind ts T ρ) (length base) e (pairs_table ts T W z ρ s (length base)) out after

pub record PredMade (code : List ℕ) (e s : ℕ) (T U : Names) (W Y : Places) (z : Sizes) (out after : List ℕ) (r : Made) : Type 0 where
  pub walked : Walked e T U W Y out after r
  pub right : (p : Pred) (i : ℕ) (ρ : Numbering) (base : List ℕ) → take e code ≡ base ++ pred_codes p i ρ
      → Makes r 0 (length base) e (pred_table p T W z ρ s (length base)) out after

-- a predicate with a name bound over a domain, both in front of the node that ends at e and has the name: what its parts made, with the name's type and slot set
-- for the predicate and put back behind it
pub record BoundMade (code : List ℕ) (e s : ℕ) (T U : Names) (W Y : Places) (z : Sizes) (out after : List ℕ) (r : Made) : Type 0 where
  pub over : Made
  pub body : Made
  pub x : ℕ
  pub old : ℕ
  pub was : ℕ
  pub next : ℕ
  pub typed : Names
  pub behind : Names
  pub slotted : Places
  pub left : Places
  pub between : List ℕ
  pub domain : DomainMade code (e - 4) T z out between over
  pub pred : PredMade code over.start next typed behind slotted left z between after body
  pub next_is : next ≡ next_slot s
  pub typed_is : typed ≡ set T x over.kind
  pub names_back : U ≡ set behind x old
  pub slotted_is : slotted ≡ set W x s
  pub places_back : Y ≡ set left x was
  pub x_is : x ≡ get_or code (e - 4 + 1) 0
  pub old_is : old ≡ entry T x
  pub was_is : was ≡ entry W x
  pub kind_is : r.kind ≡ over.kind
  pub start_is : r.start ≡ body.start
  pub falls : r.start ≤ e
  pub long : length after ≡ length out
