-- States and operations by where they stand among the nodes: their faults by the counts of their groups, and a walk over the operations.
use mathlib.Core.Path.{◌≡◌, ap, ap₂, sym, ◌∙◌, subst}
use mathlib.Core.Bool.{Bool, true, false, ◌&&◌}
use mathlib.Core.List.{List, [], ◌∷◌}
use Prim.Native.Nat.{ℕ, suc, ◌+◌, ◌-◌, ◌*◌, ◌≤◌, ◌<◌, min}
use native.Mathlib.Decide.{dec_lt}
use native.Mathlib.Omega.{arith}
use lib.Dec.{leb}
use lib.ListN.{length, get_or, get_or-eq_default}
use Rattle.lexical.specs.Symbols.{no_ending}
use Rattle.form.specs.Tree.{declarations, Operation}
use Rattle.form.specs.Headings.{operation_length}
use Rattle.form.specs.Codes.{Numbering}
use Rattle.type_rules.specs.TypesByNumber.{Names, Sizes, key, unless_key, lesser}
use Rattle.names.specs.DeclaredNamesNamesByNumber.{Typed, variables_of, parameters_of, typed_codes}
use Rattle.node_spans.specs.ParserSections.{PartOf}
use Rattle.node_spans.proofs.StandingParts.{part-stands, part-read}
use Rattle.names.proofs.TypesAgreeLeast.{lesser-zero, lesser-assoc, zero-lesser}
use Rattle.names.proofs.PassSteps.{variables-codes, parameters-codes}
use Rattle.node_spans.specs.Spans.{span, HeadingAt, OperationsAt, one_more}
use Rattle.binding_counts.specs.BindingsByNumber.{typed_count, state_over, operation_over, operations_over, GroupCounted, HeadingFaulted, StateBound, OperationBound, OperationsBound}
use Rattle.binding_counts.proofs.CappedCounts.{cap-leb}

-- ---- the heading ----

pub never : (n m : ℕ) → n ≤ m → m < n → ⊥
never n m h k = omega arith

module _ (nodes : List ℕ) (from : ℕ) (ok : Bool) where
  pub heading-short : from < 4 → HeadingFaulted nodes from ok 0
  heading-short l i h = absurd (never 4 from h.behind l)

  pub heading-over : (w l r : ℕ) → w ≡ l → l ≡ get_or nodes (from - 4 + 2) 0 → r ≡ unless_key ok (key w 12) → HeadingFaulted nodes from ok r
  heading-over w l r p q s i h = s ∙ ap (λ (j : ℕ). unless_key ok (key j 12)) (p ∙ (q ∙ h.place))

  pub heading-well : ok ≡ true → HeadingFaulted nodes from ok 0
  heading-well e i h = sym (ap (λ (b : Bool). unless_key b (key i 12)) e)

  pub heading-ill : (r : ℕ) → ok ≡ false → HeadingFaulted nodes from false r → HeadingFaulted nodes from ok r
  heading-ill r e f i h = f i h ∙ sym (ap (λ (b : Bool). unless_key b (key i 12)) e)

-- ---- a group ----

group-fits : (code : List ℕ) (e c : ℕ) (T : Names) (z : Sizes) (n i : ℕ) (xs : List Typed) (ρ : Numbering) → GroupCounted code e c T z n → code ≡ typed_codes i xs ρ
    → leb n c ≡ leb (typed_count e xs T ρ z) c
group-fits code e c T z n i xs ρ g h = cap-leb c (typed_count e xs T ρ z) n (g xs i ρ h)

module _ (nodes spans : List ℕ) (k : ℕ) (T : Names) (z : Sizes) (code : List ℕ) where
  pub state-bound : (n r : ℕ) → PartOf nodes (span spans k) (span spans (k + 1)) code → GroupCounted code 0 4096 T z n
      → HeadingFaulted nodes (span spans k) (leb n 4096) r → StateBound nodes spans k T z r
  unfolding state_over
  state-bound n r h g f s i ρ w =
      let is = part-stands nodes (span spans k) (span spans (k + 1)) code _ h w.variables in
      f i w.heading
      ∙ ap (λ (b : Bool). unless_key b (key i 12))
      (group-fits code 0 4096 T z n (suc i) (variables_of no_ending (declarations s)) ρ g (is ∙ sym (variables-codes (suc i) (declarations s) ρ)))

  pub operation-bound : (from to n m r : ℕ) (ok : Bool) → from ≡ span spans (9 + 4 * k) → to ≡ span spans (9 + 4 * k + 1) → PartOf nodes from to code → GroupCounted code 2 64 T z n
      → GroupCounted code 3 64 T z m → ok ≡ (leb n 64 && leb m 64) → HeadingFaulted nodes from ok r → OperationBound nodes spans k T z r
  unfolding operation_over
  operation-bound from to n m r ok p q h g g' t f o i ρ w =
      let is = part-stands nodes (span spans (9 + 4 * k)) (span spans (9 + 4 * k + 1)) code _ (part-read nodes _ _ _ _ code p q h) w.parameters ∙ sym (parameters-codes (i + 2) o.parameters ρ) in
      f i (subst (λ (x : ℕ). HeadingAt nodes x i) (sym p) w.heading)
      ∙ ap (λ (b : Bool). unless_key b (key i 12))
      (t ∙ ap₂ ◌&&◌ (group-fits code 2 64 T z n (i + 2) (parameters_of o.parameters) ρ g is) (group-fits code 3 64 T z m (i + 2) (parameters_of o.parameters) ρ g' is))

-- ---- operations ----

-- what is left of n operations behind the first k, where f is the fault of those
pub record Remaining (nodes spans : List ℕ) (T : Names) (z : Sizes) (n k f : ℕ) (ρ : Numbering) (v : ℕ) : Type 0 where
  pub left : List Operation
  pub place : ℕ
  pub here : OperationsAt nodes spans ρ k place left
  pub count : k + length left ≡ n
  pub same : lesser f (operations_over left T ρ z place) ≡ v

abbrev pub Remains : (nodes spans : List ℕ) (T : Names) (z : Sizes) (n k f : ℕ) → Type 0
Remains nodes spans T z n k f =
    (os : List Operation) (i : ℕ) (ρ : Numbering) → n ≡ length os → OperationsAt nodes spans ρ 0 i os → Remaining nodes spans T z n k f ρ (operations_over os T ρ z i)

module _ (nodes spans : List ℕ) (T : Names) (z : Sizes) (n : ℕ) where
  pub remains-start : Remains nodes spans T z n 0 0
  remains-start os i ρ e w =
      record {
        left = os;
        place = i;
        here = w;
        count = omega (arith, e);
        same = zero-lesser (operations_over os T ρ z i);
      }

  module _ (k f : ℕ) (ρ : Numbering) (v : ℕ) where
    one_on : (g f' : ℕ) → OperationBound nodes spans k T z g → f' ≡ lesser f g → k < n → (os : List Operation) (i : ℕ) → OperationsAt nodes spans ρ k i os → k + length os ≡ n
        → lesser f (operations_over os T ρ z i) ≡ v → Remaining nodes spans T z n (k + 1) f' ρ v
    unfolding operations_over
    one_on g f' b q l [] i w c s = absurd (never n k (omega arith) l)
    one_on g f' b q l (o ∷ os) i (one_more a w) c s =
        let one : suc k ≡ k + 1 = omega arith in
        let rest : ℕ = operations_over os T ρ z (i + operation_length o) in
        record {
          left = os;
          place = i + operation_length o;
          here = subst (λ (m : ℕ). OperationsAt nodes spans ρ m (i + operation_length o) os) one w;
          count = omega arith;
          same = ap (λ (m : ℕ). lesser m rest) q ∙ lesser-assoc f g rest ∙ ap (λ (m : ℕ). lesser f (lesser m rest)) (b o i ρ a) ∙ s;
        }

    no_room : length spans ≡ 80 → 18 ≤ k → k < n → (os : List Operation) (i : ℕ) → OperationsAt nodes spans ρ k i os → k + length os ≡ n → ⊥
    no_room e h l [] i w c = never n k (omega arith) l
    no_room e h l (o ∷ os) i (one_more a w) c =
        let none : span spans (9 + 4 * k) ≡ 0 = get_or-eq_default spans 0 (omega arith) in never 4 (span spans (9 + 4 * k)) a.heading.behind (omega arith)

    all_done : n ≤ k → (os : List Operation) (i : ℕ) → k + length os ≡ n → lesser f (operations_over os T ρ z i) ≡ v → f ≡ v
    unfolding operations_over
    all_done h [] i c s = sym (lesser-zero f) ∙ s
    all_done h (o ∷ os) i c s = absurd (never (suc n) n (omega arith) (omega arith))

  pub remains-on : (k f g f' : ℕ) → OperationBound nodes spans k T z g → f' ≡ lesser f g → k < n → Remains nodes spans T z n k f → Remains nodes spans T z n (k + 1) f'
  remains-on k f g f' b q l r os i ρ e w = let m = r os i ρ e w in one_on k f ρ (operations_over os T ρ z i) g f' b q l m.left m.place m.here m.count m.same

  -- behind the last one, or behind the last one that the spans have room for
  pub remains-end : (k f : ℕ) → length spans ≡ 80 → min n 18 ≤ k → Remains nodes spans T z n k f → OperationsBound nodes spans n T z f
  remains-end k f e h r os i ρ p w =
      let m = r os i ρ p w in
      elim (dec_lt k n) [
        | yes l ↦ absurd (no_room k f ρ (operations_over os T ρ z i) e (omega arith) l m.left m.place m.here m.count)
        | no l ↦ all_done k f ρ (operations_over os T ρ z i) (omega arith) m.left m.place m.count m.same
      ]
