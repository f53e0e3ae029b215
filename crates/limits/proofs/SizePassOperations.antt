-- The pass for number 13: a loop over the operations of a dossier, and all of its parts.
use mathlib.Core.Path.{◌≡◌, ap, ap₂, sym, subst, ◌∙◌}
use mathlib.Core.List.{List, [], ◌∷◌}
use mathlib.Core.Logic.{◌⊎◌, inl, inr}
use Prim.Native.Nat.{ℕ, suc, ◌+◌, ◌*◌, ◌≤◌, ◌<◌}
use native.Mathlib.Omega.{arith}
use lib.ListN.{length, replicate, length-replicate, get_or-eq_default}
use Rattle.std.proofs.lemmas.Bool.{cases_lt}
use Rattle.form.specs.Tree.{Letters, Operation, Dossier}
use Rattle.form.specs.Headings.{operations_at, operation_length}
use Rattle.form.specs.Codes.{Numbering, pred_width}
use Rattle.static_rules.specs.Scope.{contexts, operation_contexts, concrete_taken}
use Rattle.type_rules.specs.TypesByNumber.{lesser}
use Rattle.names.proofs.TypesAgreeLeast.{lesser-zero, lesser-assoc, zero-lesser}
use Rattle.node_spans.specs.Spans.{span, OperationsAt, one_more}
use Rattle.term_sizes.specs.SizesByNumber.{Bounds}
use Rattle.binding_counts.specs.DeclaredTypesFit as fits
use Rattle.binding_counts.specs.DeclaredTypesFit.{OperationsFit}
use Rattle.limits.specs.DossierSizesByNumber as near
use Rattle.limits.specs.DossierSizesByNumber.{context_over, least_over, OperationsNear, Clear, Ready, states_over, conditions_over, operation_over, operations_over, PartSeen, OperationSeen, MeasuresSeen}
use Rattle.limits.proofs.SizePass.{clear-on}

-- ---- operations ----

-- the operations that are left: with the fault f of those before, they have the least fault of all
pub record Left (nodes spans : List ℕ) (n N k f : ℕ) (d : Dossier) (ρ : Numbering) : Type 0 where
  pub left : List Operation
  pub place : ℕ
  pub taken : List Letters
  pub stand : OperationsAt nodes spans ρ k place left
  pub fit : OperationsFit d.givens left
  pub near : OperationsNear left
  pub count : k + length left ≡ n
  pub same : lesser f (least_over (operation_contexts d place taken left) ρ N) ≡ operations_over d ρ N

abbrev pub OperationsOn : (nodes spans : List ℕ) (n N k f : ℕ) → Type 0
OperationsOn nodes spans n N k f = (d : Dossier) (ρ : Numbering) → Ready nodes spans n d ρ → Left nodes spans n N k f d ρ

pub operations-start : (nodes spans : List ℕ) (n N : ℕ) → OperationsOn nodes spans n N 0 0
operations-start nodes spans n N d ρ y =
    record {
      left = d.operations;
      place = operations_at d;
      taken = concrete_taken d;
      stand = y.structured.operations;
      fit = y.fit.parameters;
      near = y.near.parameters;
      count = counted y.structured.counted;
      same = zero-lesser (operations_over d ρ N);
    }
  where
    counted : n ≡ length d.operations → 0 + length d.operations ≡ n
    counted e = omega arith

-- the two contexts of an operation, and those behind it
two-contexts : (d : Dossier) (i : ℕ) (xs : List Letters) (o : Operation) (os : List Operation) (ρ : Numbering) (N : ℕ)
    → least_over (operation_contexts d i xs (o ∷ os)) ρ N ≡ lesser (operation_over d i o ρ N) (least_over (operation_contexts d (i + operation_length o) (o.title ∷ xs) os) ρ N)
unfolding operation_contexts least_over context_over operation_over pred_width
two-contexts d i xs o os ρ N = sym (lesser-assoc _ _ _)

module _ (nodes spans : List ℕ) (n k f g h : ℕ) (S U : Bounds) (clear : Clear S) (seen : OperationSeen nodes spans k S U g) (e : h ≡ lesser f g) (below : k < n)
    (d : Dossier) (ρ : Numbering) (y : Ready nodes spans n d ρ) where
  operation-step : (os : List Operation) (i : ℕ) (xs : List Letters) → OperationsAt nodes spans ρ k i os → OperationsFit d.givens os → OperationsNear os → k + length os ≡ n
      → lesser f (least_over (operation_contexts d i xs os) ρ (length S)) ≡ operations_over d ρ (length S) → Left nodes spans n (length S) (k + 1) h d ρ
  operation-step [] i xs at t u m s = absurd (omega arith)
  operation-step (o ∷ os) i xs (one_more at more) (fits.one_operation t ts) (near.one_operation u us) m s =
      record {
        left = os;
        place = i + operation_length o;
        taken = o.title ∷ xs;
        stand = subst (λ (j : ℕ). OperationsAt nodes spans ρ j (i + operation_length o) os) next more;
        fit = ts;
        near = us;
        count = omega arith;
        same =
            ap (λ (z : ℕ). lesser z (least_over (operation_contexts d (i + operation_length o) (o.title ∷ xs) os) ρ (length S))) (e ∙ ap (lesser f) (seen.right n d ρ i o clear y at t u))
            ∙ lesser-assoc f (operation_over d i o ρ (length S)) (least_over (operation_contexts d (i + operation_length o) (o.title ∷ xs) os) ρ (length S))
            ∙ ap (lesser f) (sym (two-contexts d i xs o os ρ (length S))) ∙ s;
      }
    where
      next : suc k ≡ k + 1
      next = omega arith

pub operations-on : (nodes spans : List ℕ) (n k f g h : ℕ) (S U : Bounds) → Clear S → OperationSeen nodes spans k S U g → h ≡ lesser f g → k < n
    → OperationsOn nodes spans n (length S) k f → OperationsOn nodes spans n (length S) (k + 1) h
operations-on nodes spans n k f g h S U clear seen e below w d ρ y =
    let l = w d ρ y in
    operation-step nodes spans n k f g h S U clear seen e below d ρ y l.left l.place l.taken l.stand l.fit l.near l.count l.same

none_left : (n k f N : ℕ) (d : Dossier) (ρ : Numbering) (os : List Operation) (i : ℕ) (xs : List Letters) → n ≤ k → k + length os ≡ n
    → lesser f (least_over (operation_contexts d i xs os) ρ N) ≡ operations_over d ρ N → f ≡ operations_over d ρ N
unfolding operation_contexts least_over
none_left n k f N d ρ [] i xs h m s = sym (lesser-zero f) ∙ s
none_left n k f N d ρ (o ∷ os) i xs h m s = absurd (omega arith)

pub operations-seen : (nodes spans : List ℕ) (n k f : ℕ) (S U : Bounds) → (Clear S → (U ≡ S) × OperationsOn nodes spans n (length S) k f) → n ≤ k
    → PartSeen nodes spans n operations_over S U f
operations-seen nodes spans n k f S U w h =
    record {
      kept = λ l. (w l).0;
      right = λ d ρ l y. let z = (w l).1 d ρ y in none_left n k f (length S) d ρ z.left z.place z.taken h z.count z.same;
    }

-- one more, where the table was clear at entry
pub operations-more : (nodes spans : List ℕ) (n k f g h : ℕ) (S T U : Bounds) → OperationSeen nodes spans k T U g → h ≡ lesser f g → k < n
    → (Clear S → (T ≡ S) × OperationsOn nodes spans n (length S) k f) → Clear S → (U ≡ S) × OperationsOn nodes spans n (length S) (k + 1) h
operations-more nodes spans n k f g h S T U seen e below w l =
    let t = clear-on S T (w l).0 l in (
      seen.kept t ∙ (w l).0,
      subst (λ (m : ℕ). OperationsOn nodes spans n m (k + 1) h) (ap length (w l).0)
          (operations-on nodes spans n k f g h T U t seen e below (subst (λ (m : ℕ). OperationsOn nodes spans n m k f) (sym (ap length (w l).0)) (w l).1)),
    )

-- ---- how many operations the spans have room for ----

in_spans : (spans : List ℕ) (k : ℕ) → length spans ≡ 80 → 4 ≤ span spans (9 + 4 * k) → k < 18
in_spans spans k l h = on (cases_lt k 18)
  where
    out : 18 ≤ k → ⊥
    out m = let z : span spans (9 + 4 * k) ≡ 0 = get_or-eq_default spans 0 (omega arith) in omega arith

    on : (k < 18) ⊎ (18 ≤ k) → k < 18
    on (inl m) = m
    on (inr m) = absurd (out m)

pub few-operations : {nodes spans : List ℕ} {ρ : Numbering} → length spans ≡ 80 → (os : List Operation) (k i : ℕ) → OperationsAt nodes spans ρ k i os → k ≤ 18 → k + length os ≤ 18
few-operations l [] k i at h = omega arith
few-operations {nodes} {spans} {ρ} l (o ∷ os) k i (one_more at more) h =
    let m = in_spans spans k l at.heading.behind in
    let r = few-operations l os (suc k) (i + operation_length o) more (omega arith) in
    omega arith

pub too_many : (nodes spans : List ℕ) (n N : ℕ) → length spans ≡ 80 → 18 < n → MeasuresSeen nodes spans n N 0
too_many nodes spans n N l h d ρ s t u =
    let m = few-operations l d.operations 0 (operations_at d) s.operations (omega arith) in
    let e = s.counted in
    absurd (omega arith)

-- ---- the pass ----

all-contexts : (d : Dossier) (ρ : Numbering) (N : ℕ) → lesser (states_over d ρ N) (lesser (conditions_over d ρ N) (operations_over d ρ N)) ≡ least_over (contexts d) ρ N
unfolding states_over conditions_over contexts least_over context_over
all-contexts d ρ N = lesser-assoc _ _ _ ∙ ap (lesser _) (ap (lesser _) (lesser-assoc _ _ _ ∙ ap (lesser _) (lesser-assoc _ _ _)))

clear-again : (N : ℕ) (U : Bounds) → U ≡ replicate N 0 → Clear U × (length U ≡ N)
clear-again N U e = let l : length U ≡ N = ap length e ∙ length-replicate N 0 in (e ∙ ap (λ (n : ℕ). replicate n 0) (sym l), l)

pub measures-seen : (nodes spans : List ℕ) (n N : ℕ) (S₁ S₂ S₃ S₄ : Bounds) (f g h r : ℕ) → S₁ ≡ replicate N 0
    → PartSeen nodes spans n states_over S₁ S₂ f → PartSeen nodes spans n conditions_over S₂ S₃ g → PartSeen nodes spans n operations_over S₃ S₄ h → r ≡ lesser f (lesser g h)
    → MeasuresSeen nodes spans n N r
measures-seen nodes spans n N S₁ S₂ S₃ S₄ f g h r z A B C e d ρ s t u =
    let l₁ = (clear-again N S₁ z).0 in
    let m₁ = (clear-again N S₁ z).1 in
    let k₂ : S₂ ≡ S₁ = A.kept l₁ in
    let l₂ = clear-on S₁ S₂ k₂ l₁ in
    let k₃ : S₃ ≡ S₁ = B.kept l₂ ∙ k₂ in
    let l₃ = clear-on S₁ S₃ k₃ l₁ in
    let y : Ready nodes spans n d ρ =
    record {
      structured = s;
      fit = t;
      near = u;
    } in
    e
    ∙ ap₂ lesser (A.right d ρ l₁ y ∙ ap (states_over d ρ) m₁)
    (ap₂ lesser (B.right d ρ l₂ y ∙ ap (conditions_over d ρ) (ap length k₂ ∙ m₁)) (C.right d ρ l₃ y ∙ ap (λ (j : ℕ). operations_over d ρ j) (ap length k₃ ∙ m₁)))
    ∙ all-contexts d ρ N
