-- What is claimed of a tree: its number and least fault are those of its type and faults. Names, divisors, and types over given sets.
use mathlib.Core.Path.{◌≡◌, refl, ap, ap₂, ◌∙◌, sym, subst₂}
use mathlib.Core.Bool.{Bool, true, false, cond}
use mathlib.Core.List.{List, [], ◌∷◌}
use mathlib.Core.Option.{Option, none, some}
use Prim.Native.Nat.{ℕ, suc, ◌+◌, ◌≤◌}
use native.Mathlib.Omega.{arith}
use lib.Dec.{ltb}
use lib.ListN.{length}
use Rattle.refusals.specs.Refusals.{fault, number_of, name_unknown, types_misfit, zero_divisor}
use Rattle.form.specs.Tree.{Letters, Given, End, Term, Items, Pairs, Pred}
use Rattle.form.specs.Codes.{Numbering, sign_of, term_width, pred_width}
use Rattle.declared_names.specs.StaticRulesTypes as ty
use Rattle.declared_names.specs.StaticRulesTypes.{Ty, has, type_of, pairs_fit, pairs_type}
use Rattle.declared_names.specs.StaticRulesScope.{Scope}
use Rattle.declared_names.specs.StaticRulesNames.{Judged, Listing, of_name, known, divisor_faults, over_fault, whole_pairs, judge_term, judge_items, judge_pairs, judge_pred}
use Rattle.type_rules.specs.TypesByNumber.{Names, Sizes, key, unless_key, in_reach, element_of, set_of, pair_of, least_key}
use Rattle.type_rules.specs.TypesByNumber.{term_kind, items_kind, pairs_kind, term_key, items_key, pairs_key, pred_key}
use Rattle.names.proofs.ReachTables.{index_of, known_element, known_pairs, TypeIs}
use Rattle.names.proofs.TypesAgreeLeast.{least-nil, one-fault, unless-least}
use Rattle.names.proofs.TypesAgreeWidths.{term-width, pred-width, term-ends, pred-ends}
use Rattle.names.proofs.TypesAgreeTypes.{code-in-reach, set-type, pair-of}
use Rattle.names.proofs.TypesAgreeBraces.{Common, CommonPairs}
use Rattle.names.proofs.TypesAgreeBinders.{View, no_given, one_given, element-is, bound_over}
use Rattle.refusals.proofs.FaultLists.{not_nil}

-- ---- what is claimed of a term, the items of a brace, its pairs, a predicate ----

pub record TermIs (gs : List Given) (a : Judged) (k f : ℕ) : Type 0 where
  pub least : f ≡ least_key a.faults
  pub typed : a.faults ≡ [] → TypeIs gs (some a.type) k

pub record ItemsAre (gs : List Given) (l : Listing Ty) (k f : ℕ) : Type 0 where
  pub least : f ≡ least_key l.faults
  pub typed : l.faults ≡ [] → Common gs l.types k

pub record PairsAre (gs : List Given) (l : Listing (Ty × Ty)) (k f : ℕ) : Type 0 where
  pub least : f ≡ least_key l.faults
  pub typed : l.faults ≡ [] → CommonPairs gs l.types k

abbrev pub TermHolds : Numbering → Sizes → Scope → Names → Term → Type 0
TermHolds ρ z Γ T t = (i : ℕ) → TermIs Γ.givens (judge_term t Γ i) (term_kind t T ρ) (term_key t T ρ z i)

abbrev pub ItemsHold : Numbering → Sizes → Scope → Names → Items → Type 0
ItemsHold ρ z Γ T ts = (i : ℕ) → ItemsAre Γ.givens (judge_items ts Γ i) (items_kind ts T ρ) (items_key ts T ρ z i)

abbrev pub PairsHold : Numbering → Sizes → Scope → Names → Pairs → Type 0
PairsHold ρ z Γ T ts = (i : ℕ) → PairsAre Γ.givens (judge_pairs ts Γ i) (pairs_kind ts T ρ) (pairs_key ts T ρ z i)

abbrev pub PredHolds : Numbering → Sizes → Scope → Names → Pred → Type 0
PredHolds ρ z Γ T p = (i : ℕ) → pred_key p T ρ z i ≡ least_key (judge_pred p Γ i).faults

pub term-next : (t : Term) (Γ : Scope) (i : ℕ) → (judge_term t Γ i).next ≡ i + term_width t
term-next t Γ i = omega (arith, term-ends t Γ i, term-width t)

pub pred-next : (p : Pred) (Γ : Scope) (i : ℕ) → (judge_pred p Γ i).next ≡ i + pred_width p
pred-next p Γ i = omega (arith, pred-ends p Γ i, pred-width p)

pub divisor-least : (e : End) (m n : ℕ) → m ≡ n → unless_key (ltb 0 e.magnitude) (key (n + 1 + sign_of e.negative) 14) ≡ least_key (divisor_faults e (suc m))
unfolding divisor_faults number_of
divisor-least e m n h =
    ap (λ (j : ℕ). unless_key (ltb 0 e.magnitude) (key j 14)) (place e.negative) ∙ unless-least (ltb 0 e.magnitude) (suc m + cond e.negative 1 0) zero_divisor
  where
    place : (b : Bool) → n + 1 + sign_of b ≡ suc m + cond b 1 0
    place true = omega arith
    place false = omega arith

-- pairs that are whole fit
pub whole-pairs-fit : (gs : List Given) (ts : List (Ty × Ty)) (i : ℕ) → whole_pairs gs ts i ≡ [] → pairs_fit ts ≡ true
unfolding whole_pairs
whole-pairs-fit gs ts i e = on (pairs_fit ts) e
  where
    on : (b : Bool) → cond b (over_fault gs (pairs_type ts).over i) (fault i types_misfit ∷ []) ≡ [] → b ≡ true
    on true h = refl
    on false h = not_nil (fault i types_misfit) [] h

pub name-is : (gs : List Given) → length gs ≤ 8 → (o : Option Ty) (k i : ℕ) → TypeIs gs o k → TermIs gs (of_name o i) k (unless_key (in_reach k) (key i 9))
unfolding number_of
name-is gs few none k i w = record { least = ap (λ (b : Bool). unless_key b (key i 9)) w ∙ one-fault i name_unknown; typed = λ e. not_nil (fault i name_unknown) [] e }
name-is gs few (some t) k i w =
    record { least = ap (λ (b : Bool). unless_key b (key i 9)) (ap in_reach w.0 ∙ code-in-reach gs few w.1) ∙ sym least-nil; typed = λ e. w }

element-sort : (x : Letters) → has (record { sort = ty.is_element; over = x ∷ [] }) ty.is_element ≡ true
unfolding has
element-sort x = refl

-- the sets over a given set, and the pairs over two
pub set-over : (gs : List Given) (z : Sizes) → length gs ≤ 8 → {l : Letters} {o : Option Given} {k : ℕ} (i : ℕ) → View gs z l o k → known o i ≡ []
    → TypeIs gs (some (ty.set_of (type_of (bound_over o)))) (set_of (element_of k))
set-over gs z few i (no_given h) e = not_nil (fault i name_unknown) [] e
set-over gs z few {k = k} i (one_given g c t h s q) e =
    let w = set-type gs few (known_element t) (element-sort g.title) in (ap set_of (element-is k (index_of gs g.title) h q) ∙ w.0, w.1)

pub pairs-over : (gs : List Given) (z : Sizes) → length gs ≤ 8 → {l m : Letters} {o p : Option Given} {j k : ℕ} (i n : ℕ) → View gs z l o j → View gs z m p k
    → known o i ≡ [] → known p n ≡ [] → TypeIs gs (some (record { sort = ty.is_pairs; over = l ∷ m ∷ [] })) (pair_of (element_of j) (element_of k))
pairs-over gs z few i n (no_given h) v d e = not_nil (fault i name_unknown) [] d
pairs-over gs z few i n (one_given g c t h s q) (no_given r) d e = not_nil (fault n name_unknown) [] e
pairs-over gs z few {j = j} {k = k} i n (one_given g c t h s q) (one_given g' c' t' h' s' q') d e =
    subst₂ (λ (x y : Letters). TypeIs gs (some (record { sort = ty.is_pairs; over = x ∷ y ∷ [] })) (pair_of (element_of j) (element_of k))) c c'
    (ap₂ pair_of (element-is j (index_of gs g.title) h q) (element-is k (index_of gs g'.title) h' q') ∙ pair-of gs few g.title g'.title t t', known_pairs t t')
