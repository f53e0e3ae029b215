-- The pass for number 13 by its functions: one predicate with the variables in its reach, the parts of a dossier, and all of it.
use mathlib.Core.Path.{◌≡◌, ap, ap₂, sym, subst, ◌∙◌}
use mathlib.Core.Bool.{true, false}
use mathlib.Core.List.{List, [], ◌++◌, map}
use Prim.Native.Nat.{ℕ, ◌+◌, ◌*◌, ◌≤◌, ◌<◌}
use lib.ListN.{length, take, replicate}
use Rattle.lexical.specs.Symbols.{no_ending, prime}
use Rattle.form.specs.Tree.{Pred, Given, Declaration, declarations, Parameter, State, Operation, Dossier}
use Rattle.form.specs.Codes.{Numbering, declaration_codes, parameter_codes}
use Rattle.static_rules.specs.Carriers.{Variable}
use Rattle.static_rules.specs.Scope.{variables, unprimed, primed, inputs, outputs, operation_reach}
use Rattle.type_rules.specs.TypesByNumber.{fault_key, lesser}
use Rattle.node_spans.specs.ParserSections.{PartOf}
use Rattle.node_spans.specs.Spans.{PredAt, span}
use Rattle.term_sizes.specs.declared.Sized.{Sized}
use Rattle.term_sizes.specs.SizesByNumber.{Bounds, pred_over}
use Rattle.term_sizes.specs.SizeWalkPromises.{PredSized}
use Rattle.binding_counts.specs.DeclaredTypesFit.{TypesFit}
use Rattle.limits.specs.DossierSizesByNumber.{shown_sizes, TypesNear, marks, marks_of, marked, Clear, ContextSeen, over_of, states_over, conditions_over, operation_over, PartSeen, OperationSeen}
use Rattle.limits.proofs.SizeMarks.{restored}
use Rattle.limits.proofs.ReachMarks.{shown_on, sizes-on, shown-append, group-marks, plain-ending, primed-ending, parameters-marks}
use Rattle.node_spans.proofs.StandingParts.{part-stands, part-read}
use Rattle.binding_counts.proofs.BindingSpans.{never}

-- ---- one predicate ----

pub context-none : (nodes a b : List ℕ) (s : ℕ) (c : List ℕ) (end : ℕ) (S U : Bounds) → length nodes < end → U ≡ S → ContextSeen nodes a b s c end S U 0
context-none nodes a b s c end S U h u =
    record { kept = λ k. u; right = λ p i ρ base k e. elim (never end (length nodes) k h) [ ] }

-- the groups by what they are
pub reach-as : {nodes a a' b b' c c' : List ℕ} {s s' end : ℕ} {S U : Bounds} {f : ℕ} → a' ≡ a → b' ≡ b → s' ≡ s → c' ≡ c → ContextSeen nodes a' b' s' c' end S U f → ContextSeen nodes a b s c end S U f
reach-as {nodes = nodes} {a = a} {b = b} {b' = b'} {c = c} {c' = c'} {s = s} {s' = s'} {end = end} {S = S} {U = U} {f = f} p q r t k =
    subst (λ (x : List ℕ). ContextSeen nodes a b s x end S U f) t
    (subst (λ (x : ℕ). ContextSeen nodes a b x c' end S U f) r
    (subst (λ (x : List ℕ). ContextSeen nodes a x s' c' end S U f) q (subst (λ (x : List ℕ). ContextSeen nodes x b' s' c' end S U f) p k)))

-- the table with marks is M, and N behind the walk
pub context-seen : (nodes a b : List ℕ) (s : ℕ) (c : List ℕ) (end : ℕ) (S M N U : Bounds) (w : Sized) → M ≡ marked true a b s c S → PredSized nodes end M N w
    → U ≡ marked false a b s c N → ContextSeen nodes a b s c end S U (fault_key w.fault)
context-seen nodes a b s c end S M N U w m p u =
    record {
      kept = λ h. u ∙ ap (λ (T : Bounds). marked false a b s c T) (p.kept ∙ m) ∙ restored a b s c S h;
      right = λ q i ρ base h e. (p.right q i ρ base e).fault_is ∙ ap (λ (T : Bounds). pred_over q T ρ i) m;
    }

-- a table that is clear stays so
pub clear-on : (S U : Bounds) → U ≡ S → Clear S → Clear U
clear-on S U e h = subst Clear (sym e) h

-- the marks are the sizes of the names in reach: so the fault is that of the predicate
over-of : (nodes a b : List ℕ) (s : ℕ) (c : List ℕ) (end : ℕ) (S U : Bounds) (f : ℕ) → ContextSeen nodes a b s c end S U f → (from to i n : ℕ) (p : Pred) (ρ : Numbering) (vs : List Variable)
    → end ≡ to → PredAt nodes from to i p ρ → marked true a b s c S ≡ shown_sizes vs ρ n → f ≡ over_of p i vs ρ n
over-of nodes a b s c end S U f k from to i n p ρ vs e at m =
    k.right p i ρ (take (from + 4) nodes) (subst (λ (t : ℕ). t ≤ length nodes) (sym e) at.inside) (ap (λ (t : ℕ). take t nodes) e ∙ at.stands)
    ∙ ap (λ (T : Bounds). pred_over p T ρ i) m

-- no declarations make no marks
marks-none : (none : List ℕ) (s : ℕ) (S : Bounds) → none ≡ [] → marks true none s S ≡ S
unfolding marks_of
marks-none none s S e = ap (λ (l : List ℕ). marks true l s S) e

-- ---- the variables in reach ----

module _ (gs : List Given) (ρ : Numbering) {ds : List Declaration} (t : TypesFit gs ds) (u : TypesNear ds) where
  plain-marks : (a : List ℕ) (i : ℕ) (S : Bounds) → a ≡ declaration_codes i ds ρ → marks true a 0 S ≡ shown_on (variables gs no_ending ds) ρ S
  plain-marks a i S e = ap (λ (l : List ℕ). marks true l 0 S) e ∙ group-marks gs ρ no_ending 0 (plain-ending ρ) S t u i

  primed-marks : (a : List ℕ) (i : ℕ) (S : Bounds) → a ≡ declaration_codes i ds ρ → marks true a 1 S ≡ shown_on (variables gs prime ds) ρ S
  primed-marks a i S e = ap (λ (l : List ℕ). marks true l 1 S) e ∙ group-marks gs ρ prime 1 (primed-ending ρ) S t u i

module _ (ρ : Numbering) (d : Dossier) (S : Bounds) (clear : Clear S) where
  abbrev N : ℕ
  N = length S

  -- a state's own
  state-table : (s : State) → TypesFit d.givens (declarations s) → TypesNear (declarations s) → (a none : List ℕ) (i : ℕ) → a ≡ declaration_codes i (declarations s) ρ → none ≡ []
      → marked true a none 0 none S ≡ shown_sizes (unprimed d s) ρ N
  state-table s t u a none i e o =
      ap (λ (T : Bounds). marks true a 0 T) (marks-none none 0 (marks true none 0 S) o ∙ marks-none none 0 S o ∙ clear)
      ∙ plain-marks d.givens ρ t u a i (replicate N 0) e ∙ sizes-on (unprimed d s) ρ N

  -- those of two states
  states-table : (s z : State) → TypesFit d.givens (declarations s) → TypesNear (declarations s) → TypesFit d.givens (declarations z) → TypesNear (declarations z)
      → (a c none : List ℕ) (i j : ℕ) → a ≡ declaration_codes i (declarations s) ρ → c ≡ declaration_codes j (declarations z) ρ → none ≡ []
      → marked true a c 0 none S ≡ shown_sizes (unprimed d s ++ unprimed d z) ρ N
  states-table s z t u v w a c none i j e f o =
      ap (λ (T : Bounds). marks true a 0 (marks true c 0 T)) (marks-none none 0 S o ∙ clear)
      ∙ ap (λ (T : Bounds). marks true a 0 T) (plain-marks d.givens ρ v w c j (replicate N 0) f)
      ∙ plain-marks d.givens ρ t u a i (shown_on (unprimed d z) ρ (replicate N 0)) e
      ∙ sym (shown-append (unprimed d s) (unprimed d z) ρ (replicate N 0)) ∙ sizes-on (unprimed d s ++ unprimed d z) ρ N

  -- those of a state, plain and primed, and the parameters
  operation-table : (s : State) → TypesFit d.givens (declarations s) → TypesNear (declarations s) → (o : Operation)
      → TypesFit d.givens (map (λ (x : Parameter). x.declaration) o.parameters) → TypesNear (map (λ (x : Parameter). x.declaration) o.parameters)
      → (a p : List ℕ) (i j : ℕ) → a ≡ declaration_codes i (declarations s) ρ → p ≡ parameter_codes j o.parameters ρ
      → marked true a a 1 p S ≡ shown_sizes (operation_reach d s o) ρ N
  operation-table s t u o v w a p i j e f =
      ap (λ (T : Bounds). marks true a 0 (marks true a 1 T))
      (ap₂ (λ (l : List ℕ) (T : Bounds). marks true l 0 T) f clear ∙ parameters-marks d.givens ρ (replicate N 0) o.parameters v w j)
      ∙ ap (λ (T : Bounds). marks true a 0 T) (primed-marks d.givens ρ t u a i over e)
      ∙ plain-marks d.givens ρ t u a i (shown_on (primed d s) ρ over) e
      ∙ sym (shown-append (unprimed d s ++ primed d s ++ inputs d o) (outputs d o) ρ (replicate N 0)
      ∙ shown-append (unprimed d s ++ primed d s) (inputs d o) ρ (shown_on (outputs d o) ρ (replicate N 0)) ∙ shown-append (unprimed d s) (primed d s) ρ over)
      ∙ sizes-on (operation_reach d s o) ρ N
    where
      over : Bounds
      over = shown_on (inputs d o) ρ (shown_on (outputs d o) ρ (replicate N 0))

-- ---- the states, and what stands behind them ----

pub states-seen : (nodes spans a c none : List ℕ) (e₁ e₂ : ℕ) (S U₁ U₂ : Bounds) (f g r : ℕ) → PartOf nodes (span spans 0) (span spans 1) a → PartOf nodes (span spans 3) (span spans 4) c
    → none ≡ [] → e₁ ≡ span spans 2 → e₂ ≡ span spans 5
    → ContextSeen nodes a none 0 none e₁ S U₁ f → ContextSeen nodes c none 0 none e₂ U₁ U₂ g → r ≡ lesser f g → (m : ℕ) → PartSeen nodes spans m states_over S U₂ r
unfolding states_over
states-seen nodes spans a c none e₁ e₂ S U₁ U₂ f g r pa pc o q₁ q₂ k₁ k₂ e m =
    record {
      kept = λ h. k₂.kept (clear-on S U₁ (k₁.kept h) h) ∙ k₁.kept h;
      right =
          λ d ρ h y.
          let w = y.structured in
          let a-is = part-stands nodes _ _ a _ pa w.abstract.variables in
          let c-is = part-stands nodes _ _ c _ pc w.concrete.variables in
          e
          ∙ ap₂ lesser
          (over-of nodes a none 0 none e₁ S U₁ f k₁ _ _ _ (length S) _ ρ (unprimed d d.abstract) q₁ w.abstract.predicate
          (state-table ρ d S h d.abstract y.fit.abstracts y.near.abstracts a none _ a-is o))
          (over-of nodes c none 0 none e₂ U₁ U₂ g k₂ _ _ _ (length S) _ ρ (unprimed d d.concrete) q₂ w.concrete.predicate
          (ap (λ (T : Bounds). marked true c none 0 none T) (k₁.kept h)
          ∙ state-table ρ d S h d.concrete y.fit.concretes y.near.concretes c none _ c-is o));
    }

pub conditions-seen : (nodes spans a c none : List ℕ) (e₁ e₂ e₃ : ℕ) (S U₁ U₂ U₃ : Bounds) (f g h r : ℕ)
    → PartOf nodes (span spans 0) (span spans 1) a → PartOf nodes (span spans 3) (span spans 4) c → none ≡ [] → e₁ ≡ span spans 6 → e₂ ≡ span spans 7 → e₃ ≡ span spans 8
    → ContextSeen nodes a none 0 none e₁ S U₁ f → ContextSeen nodes c none 0 none e₂ U₁ U₂ g → ContextSeen nodes a c 0 none e₃ U₂ U₃ h → r ≡ lesser f (lesser g h)
    → (m : ℕ) → PartSeen nodes spans m conditions_over S U₃ r
unfolding conditions_over
conditions-seen nodes spans a c none e₁ e₂ e₃ S U₁ U₂ U₃ f g h r pa pc o q₁ q₂ q₃ k₁ k₂ k₃ e m =
    record {
      kept = λ l. k₃.kept (clear-on S U₂ (two l) l) ∙ two l;
      right =
          λ d ρ l y.
          let w = y.structured in
          let a-is = part-stands nodes _ _ a _ pa w.abstract.variables in
          let c-is = part-stands nodes _ _ c _ pc w.concrete.variables in
          e
          ∙ ap₂ lesser
          (over-of nodes a none 0 none e₁ S U₁ f k₁ _ _ _ (length S) _ ρ (unprimed d d.abstract) q₁ w.ainit
          (state-table ρ d S l d.abstract y.fit.abstracts y.near.abstracts a none _ a-is o))
          (ap₂ lesser
          (over-of nodes c none 0 none e₂ U₁ U₂ g k₂ _ _ _ (length S) _ ρ (unprimed d d.concrete) q₂ w.cinit
          (ap (λ (T : Bounds). marked true c none 0 none T) (k₁.kept l)
          ∙ state-table ρ d S l d.concrete y.fit.concretes y.near.concretes c none _ c-is o))
          (over-of nodes a c 0 none e₃ U₂ U₃ h k₃ _ _ _ (length S) _ ρ (unprimed d d.abstract ++ unprimed d d.concrete) q₃ w.retrieve
          (ap (λ (T : Bounds). marked true a c 0 none T) (two l)
          ∙ states-table ρ d S l d.abstract d.concrete y.fit.abstracts y.near.abstracts y.fit.concretes y.near.concretes a c none _ _ a-is c-is o)));
    }
  where
    two : Clear S → U₂ ≡ S
    two l = k₂.kept (clear-on S U₁ (k₁.kept l) l) ∙ k₁.kept l

pub operation-seen : (nodes spans a c p : List ℕ) (k x y e₁ e₂ : ℕ) (S U₁ U₂ : Bounds) (f g r : ℕ) → PartOf nodes (span spans 0) (span spans 1) a → PartOf nodes (span spans 3) (span spans 4) c
    → x ≡ span spans (9 + 4 * k) → y ≡ span spans (9 + 4 * k + 1) → PartOf nodes x y p
    → e₁ ≡ span spans (9 + 4 * k + 2) → e₂ ≡ span spans (9 + 4 * k + 3) → ContextSeen nodes a a 1 p e₁ S U₁ f → ContextSeen nodes c c 1 p e₂ U₁ U₂ g → r ≡ lesser f g
    → OperationSeen nodes spans k S U₂ r
unfolding operation_over
operation-seen nodes spans a c p k x y e₁ e₂ S U₁ U₂ f g r pa pc qx qy h q₁ q₂ k₁ k₂ e =
    record {
      kept = λ l. k₂.kept (clear-on S U₁ (k₁.kept l) l) ∙ k₁.kept l;
      right =
          λ m d ρ i o l z at t u.
          let a-is = part-stands nodes _ _ a _ pa z.structured.abstract.variables in
          let c-is = part-stands nodes _ _ c _ pc z.structured.concrete.variables in
          let is = part-stands nodes _ _ p _ (part-read nodes _ _ _ _ p qx qy h) at.parameters in
          e
          ∙ ap₂ lesser
          (over-of nodes a a 1 p e₁ S U₁ f k₁ _ _ _ (length S) _ ρ (operation_reach d d.abstract o) q₁ at.abstractly
          (operation-table ρ d S l d.abstract z.fit.abstracts z.near.abstracts o t u a p _ _ a-is is))
          (over-of nodes c c 1 p e₂ U₁ U₂ g k₂ _ _ _ (length S) _ ρ (operation_reach d d.concrete o) q₂ at.concretely
          (ap (λ (T : Bounds). marked true c c 1 p T) (k₁.kept l)
          ∙ operation-table ρ d S l d.concrete z.fit.concretes z.near.concretes o t u c p _ _ c-is is));
    }
