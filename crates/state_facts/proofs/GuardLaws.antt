-- The first conjunct of an operation's concrete predicate that fails and mentions neither outputs nor states after: it fails with all of them. Assumes nothing.
use mathlib.Core.Path.{◌≡◌, refl, sym, ap, subst, ◌∙◌}
use mathlib.Core.Bool.{Bool, true, false, ◌&&◌}
use mathlib.Core.List.{List, [], ◌∷◌, ◌++◌, append_assoc}
use mathlib.Core.Option.{some, some-injective}
use Rattle.std.specs.Prelude.{Option, None}
use Prim.Native.Nat.{ℕ, suc, ◌+◌, ◌*◌, ◌<◌, ◌≤◌}
use native.Mathlib.Omega.{arith}
use lib.Dec.{eqb}
use borrow.Author.Tests.{eqb-true, eq-eqb}
use lib.ListN.{get_or, length, get_elem?}
use Rattle.lexical.proofs.BooleanTests.{and_left, and_right}
use Rattle.lexical.specs.Symbols.{Name, prime}
use Rattle.form.specs.Tree.{Pred, Operation, Dossier}
use Rattle.static_rules.specs.Carriers.{Variable}
use Rattle.static_rules.specs.Scope.{Scope, Context, unprimed, primed, inputs, outputs, operation_reach}
use Rattle.meaning.specs.Meaning.{Binding, Environment, holds}
use Rattle.meaning.specs.Bindings.{bindings, Among, Over}
use Rattle.meaning.specs.Operations.{environment, after, concrete_bindings, output_bindings}
use Rattle.meaning.proofs.Places.{entry-below, below-entry}
use Rattle.carriers.proofs.Bindings.{bindings-count, bindings-some}
use Rattle.slot_carriers.specs.CellGroups.{Holding}
use Rattle.table_places.specs.ResolvedTable.{Slots, slotted}
use Rattle.table_places.specs.DossierTable.{concrete_slots, parameter_slots}
use Rattle.search_groups.specs.Conjuncts.{used_pred, last_in}
use Rattle.evaluation.specs.EvaluationByNumber.{Values}
use Rattle.evaluation.specs.SlotValues.{Slotted}
use Rattle.conjunct_tests.specs.ConjunctTests.{Agree, agree_none, agree_more}
use Rattle.conjunct_tests.proofs.SlotFrame.{frame-slots}
use Rattle.conjunct_tests.proofs.LastVariables.{not_in}
use Rattle.states.specs.ReadPredicatesPredicateRows.{Columns, RowsAt, more_rows, ContextAt}
use Rattle.states.specs.StateTests.{Placed}
use Rattle.states.specs.Promises.{ContextAsked}
use Rattle.states.proofs.StateLaws.{asked-at, over-append, slotted-append}
use Rattle.states.proofs.StepLaws.{concrete-operation}
use Rattle.part_places.specs.ReadingsReadings.{ReadingOf}
use Rattle.points.proofs.PointBindings.{Primes, no_primes, more_primes, primes-long, state-primes}
use Rattle.plans.specs.declared.Part.{Part}
use Rattle.part_places.specs.PartTestsPartsByNumber.{concrete_at, input_at, output_at}
use Rattle.part_places.specs.Places.{PartAsked, PartSet}
use Rattle.part_places.proofs.ReadingGroups.{reading-groups}
use Rattle.pages.specs.declared.Bindings.{Bindings}
use Rattle.state_facts.specs.Placings.{StatesSized, StatesBound, ParametersSized, ParametersBound}
use Rattle.state_facts.specs.Reads.{concrete_count, ReadAsked}
use Rattle.state_facts.specs.FalseConjuncts.{FirstFalse, none_false, false_here, false_later, Guard, guard_test, In, Throughout, ContextFirst, ContextIs}
use Rattle.state_facts.specs.FalseConjuncts.{StepFrom, OperationRead, GuardAsked, FalseStep, FalseGuard}
use Rattle.step_searches.proofs.ConcreteStates.{slotted-there, over-at, placed_at}
use Rattle.state_facts.proofs.PlacedGroups.{states-kept}
use Rattle.state_facts.proofs.ShownLaws.{operation-states, operation-parameters}
use Rattle.state_facts.proofs.ConjunctLaws.{held_in, context-as}

-- ---- a row

module _ (rows : List ℕ) (at : ℕ) where
  abbrev none_at : ℕ → Bool
  none_at k = eqb (get_or rows (at + k) 0) 0

  pub guard-yes : guard_test rows at ≡ true → Guard rows at
  guard-yes e =
      let front : (none_at 5 && none_at 6) ≡ true = and_left (none_at 5 && none_at 6) (none_at 7) e in
      record {
        outputs_none = eqb-true (get_or rows (at + 5) 0) 0 (and_left (none_at 5) (none_at 6) front);
        concretes_none = eqb-true (get_or rows (at + 6) 0) 0 (and_right (none_at 5) (none_at 6) front);
        abstracts_none = eqb-true (get_or rows (at + 7) 0) 0 (and_right (none_at 5 && none_at 6) (none_at 7) e);
      }

  pub guard-no : Guard rows at → guard_test rows at ≡ true
  guard-no g =
      λ t. eq-eqb (get_or rows (at + 5) 0) 0 g.outputs_none t && eq-eqb (get_or rows (at + 6) 0) 0 g.concretes_none t
      && eq-eqb (get_or rows (at + 7) 0) 0 g.abstracts_none t

pub guard-context-first : {table rows firsts : List ℕ} {n : ℕ} {σ : Values} {r : Option ℕ} → ContextFirst (λ (i : ℕ). guard_test rows i ≡ true) table rows firsts n σ r
    → ContextFirst (Guard rows) table rows firsts n σ r
guard-context-first {rows = rows} = context-as (λ i. guard-yes rows i) (λ i. guard-no rows i)

-- ---- the state after, under primed names

over-after : (vs us : List Variable) (b : Binding) → Primes vs us → Over vs b → Over us (after b)
unfolding Over after
over-after _ _ [] no_primes h = tt
over-after _ _ (x ∷ b) no_primes h = absurd h
over-after _ _ [] (more_primes r) h = absurd h
over-after _ _ (x ∷ b) (more_primes {v} {vs} {us} r) h = (ap (λ (n : Name). record { letters = n.letters; ending = prime }) h.0, h.1, over-after vs us b r h.2)

holding-after : (b : Binding) (s : ℕ) (σ : Values) → Holding σ s b → Holding σ s (after b)
unfolding Holding after
holding-after [] s σ h = tt
holding-after (x ∷ b) s σ h = (h.0, holding-after b (suc s) σ h.1)

-- ---- bindings that differ only in slots that are not used

module _ (P : ℕ → Type 0) where
  agree_same : (vs : List Variable) (s : ℕ) (B : Binding) → Over vs B → Agree P (slotted s vs) B B
  unfolding Over slotted
  agree_same [] s [] o = agree_none
  agree_same [] s (b ∷ B) o = absurd o
  agree_same (v ∷ vs) s [] o = absurd o
  agree_same (v ∷ vs) s (b ∷ B) o = agree_more (sym o.0) (sym o.0) (λ h. refl) (agree_same vs (suc s) B o.2)

  agree_unused : (vs : List Variable) (s : ℕ) (B C : Binding) → Over vs B → Over vs C → ((i : ℕ) → s ≤ i → i < s + length vs → P i → ⊥) → Agree P (slotted s vs) B C
  unfolding Over slotted
  agree_unused [] s [] [] o r n = agree_none
  agree_unused [] s [] (c ∷ C) o r n = absurd r
  agree_unused [] s (b ∷ B) C o r n = absurd o
  agree_unused (v ∷ vs) s [] C o r n = absurd o
  agree_unused (v ∷ vs) s (b ∷ B) [] o r n = absurd r
  agree_unused (v ∷ vs) s (b ∷ B) (c ∷ C) o r n =
      agree_more (sym o.0) (sym r.0) (λ h. absurd (n s (omega arith) (first (length vs)) h))
      (agree_unused vs (suc s) B C o.2 r.2 (λ i l m. n i (omega arith) (next i (length vs) m)))
    where
      first : (k : ℕ) → s < s + suc k
      first k = omega arith

      next : (i k : ℕ) → i < suc s + k → i < s + suc k
      next i k l = omega arith

  agree_append : (W Y : Slots) (B C D E : Binding) → Agree P W B C → Agree P Y D E → Agree P (W ++ Y) (B ++ D) (C ++ E)
  agree_append _ Y _ _ D E agree_none k = k
  agree_append _ Y _ _ D E (agree_more {w} {b} {c} {W} {B} {C} p q v a) k = agree_more p q v (agree_append W Y B C D E a k)

-- ---- the concrete predicate of an operation

abbrev step_slots : Dossier → Operation → Slots
step_slots d op = concrete_slots d ++ slotted 22 (primed d d.concrete) ++ parameter_slots d op

abbrev step_values : (b k i o : Binding) → Binding
step_values b k i o = b ++ after k ++ i ++ o

module _ (d : Dossier) (op : Operation) where
  abbrev cs : List Variable
  cs = unprimed d d.concrete

  abbrev ks : List Variable
  ks = primed d d.concrete

  placed-step : (b k i o : Binding) (σ : Values) → Placed cs (slotted 8 cs) b σ → Over cs k → Holding σ 22 k → Placed (inputs d op) (slotted 16 (inputs d op)) i σ
      → Placed (outputs d op) (slotted 19 (outputs d op)) o σ → Placed (operation_reach d d.concrete op) (step_slots d op) (step_values b k i o) σ
  placed-step b k i o σ B ok hk I O =
      let over-k : Over ks (after k) = over-after cs ks k (state-primes d d.concrete) ok in
      record {
        over = over-append (cs ++ ks ++ inputs d op) (outputs d op) (b ++ after k ++ i) o
            (over-append (cs ++ ks) (inputs d op) (b ++ after k) i (over-append cs ks b (after k) B.over over-k) I.over) O.over;
        slotted = subst (λ (x : Binding). Slotted (step_slots d op) x σ) (sym (append_assoc (b ++ after k) i o))
            (slotted-append (concrete_slots d ++ slotted 22 ks) (parameter_slots d op) (b ++ after k) (i ++ o) σ
            (slotted-append (concrete_slots d) (slotted 22 ks) b (after k) σ B.slotted (slotted-there 22 ks (after k) σ over-k (holding-after k 22 σ hk)))
            (slotted-append (slotted 16 (inputs d op)) (slotted 19 (outputs d op)) i o σ I.slotted O.slotted));
        long = B.long;
      }

  -- a conjunct that uses neither the outputs nor the state after
  same_truth : (q : Pred) (b k l i o u : Binding) → Over cs b → Over cs k → Over cs l → Over (inputs d op) i → Over (outputs d op) o → Over (outputs d op) u
      → length cs ≤ 8 → length (outputs d op) ≤ 3 → last_in 19 3 (used_pred q (step_slots d op) 38) ≡ 0 → last_in 22 8 (used_pred q (step_slots d op) 38) ≡ 0
      → holds q (environment d (step_values b k i o)) ≡ holds q (environment d (step_values b l i u))
  same_truth q b k l i o u ob ok ol oi oo ou sc so eo ek =
      frame-slots q d.givens (step_slots d op) (step_values b k i o) (step_values b l i u)
      (subst (λ (x : Binding). Agree used (step_slots d op) x (step_values b l i u)) (sym (append_assoc (b ++ after k) i o))
      (subst (λ (x : Binding). Agree used (step_slots d op) ((b ++ after k) ++ (i ++ o)) x) (sym (append_assoc (b ++ after l) i u))
      (agree_append used (concrete_slots d ++ slotted 22 ks) (parameter_slots d op) (b ++ after k) (b ++ after l) (i ++ o) (i ++ u)
      (agree_append used (concrete_slots d) (slotted 22 ks) b b (after k) (after l) (agree_same used cs 8 b ob) (agree_unused used ks 22 (after k) (after l) pk pl far))
      (agree_append used (slotted 16 (inputs d op)) (slotted 19 (outputs d op)) i i o u (agree_same used (inputs d op) 16 i oi) (agree_unused used (outputs d op) 19 o u oo ou near)))))
    where
      used : ℕ → Type 0
      used s = Among s (used_pred q (step_slots d op) 38)

      pk : Over ks (after k)
      pk = over-after cs ks k (state-primes d d.concrete) ok

      pl : Over ks (after l)
      pl = over-after cs ks l (state-primes d d.concrete) ol

      far : (x : ℕ) → 22 ≤ x → x < 22 + length ks → Among x (used_pred q (step_slots d op) 38) → ⊥
      far x h m = let e = primes-long (state-primes d d.concrete) in not_in 22 8 x (used_pred q (step_slots d op) 38) (omega arith) h (omega arith)

      near : (x : ℕ) → 19 ≤ x → x < 19 + length (outputs d op) → Among x (used_pred q (step_slots d op) 38) → ⊥
      near x h m = not_in 19 3 x (used_pred q (step_slots d op) 38) (omega arith) h (omega arith)

-- ---- the rows of the concrete predicate

module _ {table rows : List ℕ} {Γ : Scope} {to : ℕ} (d : Dossier) (op : Operation) (c i : ℕ) (k o : Binding) where
  -- every conjunct that counts is in all these environments what it is in one of them
  lifted : Over (unprimed d d.concrete) (concrete_at d c) → Over (unprimed d d.concrete) k → Over (inputs d op) (input_at d op i) → Over (outputs d op) o
      → length (unprimed d d.concrete) ≤ 8 → length (outputs d op) ≤ 3 → (at : ℕ) (r : Option ℕ) (ps : List Pred) → RowsAt table rows Γ (step_slots d op) to at ps
      → FirstFalse (Guard rows) (In (environment d (step_values (concrete_at d c) k (input_at d op i) o))) at ps r
      → FirstFalse (Guard rows) (Throughout (StepFrom d op c i)) at ps r
  lifted ob ok oi oo sc so = go
    where
      same : (at : ℕ) (q : Pred) (b : Bool) → Guard rows at → Columns rows at (used_pred q (step_slots d op) 38)
          → holds q (environment d (step_values (concrete_at d c) k (input_at d op i) o)) ≡ b → (ρ : Environment) → StepFrom d op c i ρ → holds q ρ ≡ b
      same at q b g m h ρ e =
          ap (holds q) e.is
          ∙ same_truth d op q (concrete_at d c) e.behind k (input_at d op i) e.outward o ob e.behind_over ok oi e.outward_over oo sc so
          (sym m.outputs ∙ g.outputs_none) (sym m.concretes_primed ∙ g.concretes_none)
          ∙ h

      go : (at : ℕ) (r : Option ℕ) (ps : List Pred) → RowsAt table rows Γ (step_slots d op) to at ps
          → FirstFalse (Guard rows) (In (environment d (step_values (concrete_at d c) k (input_at d op i) o))) at ps r
          → FirstFalse (Guard rows) (Throughout (StepFrom d op c i)) at ps r
      go at _ _ w none_false = none_false
      go at _ _ (more_rows l x m w) (false_here {p = p} g h) = false_here g (same at p false g m h)
      go at r _ (more_rows l x m w) (false_later {p = p} {ps = ps} f h) = false_later (λ g. same at p true g m (f g)) (go (at + 8) r ps w h)

-- ---- the bindings of the j-th operation in their slots

-- the state after is the one before, and the outputs are the first: some that there are
abbrev pub numbers : (c i : ℕ) → Bindings
numbers c i = record { a = 0; c = c; i = i; o = 0; k = c; b = 0 }

module _ {table rows firsts cells : List ℕ} {p : Part} {j c i : ℕ} where
  module _ {ρ σ τ : Values} (S : StatesBound cells p (numbers c i) ρ σ) (Q : ParametersBound cells p (numbers c i) σ τ) (e : length ρ ≡ 64) (lc : c < p.concretes.bindings) (li : i < p.inputs.bindings) where
    module _ (d : Dossier) (op : Operation) (R : OperationRead table rows firsts cells p j d op) where
      long : length τ ≡ 64
      long = Q.same_length ∙ S.same_length ∙ e

      over-concrete : Over (unprimed d d.concrete) (concrete_at d c)
      unfolding concrete_bindings
      over-concrete = over-at (unprimed d d.concrete) c (subst (λ (n : ℕ). c < n) R.states.concretes.count lc)

      over-inputs : Over (inputs d op) (input_at d op i)
      over-inputs = over-at (inputs d op) i (subst (λ (n : ℕ). i < n) R.parameters.inputs.count li)

      over-outputs : Over (outputs d op) (output_at d op 0)
      unfolding output_bindings
      over-outputs = over-at (outputs d op) 0 (bindings-some (outputs d op))

      placed-guard : Placed (operation_reach d d.concrete op) (step_slots d op) (step_values (concrete_at d c) (concrete_at d c) (input_at d op i) (output_at d op 0)) τ
      unfolding concrete_bindings output_bindings
      placed-guard =
          let B = states-kept S Q in
          placed-step d op (concrete_at d c) (concrete_at d c) (input_at d op i) (output_at d op 0) τ
          (placed_at (unprimed d d.concrete) c 8 τ (subst (λ (n : ℕ). c < n) R.states.concretes.count lc)
          (B.before.concretes (unprimed d d.abstract) (unprimed d d.concrete) R.states) long)
          over-concrete
          (B.concretes_primed (unprimed d d.abstract) (unprimed d d.concrete) R.states)
          (placed_at (inputs d op) i 16 τ (subst (λ (n : ℕ). i < n) R.parameters.inputs.count li) (Q.inputs (inputs d op) (outputs d op) R.parameters) long)
          (placed_at (outputs d op) 0 19 τ (bindings-some (outputs d op)) (Q.outputs (inputs d op) (outputs d op) R.parameters) long)

      first_of : {r : Option ℕ} → ContextFirst (Guard rows) table rows firsts (5 + 2 * j + 1) τ r → (K : Context) (W : Slots) → ContextIs d (5 + 2 * j + 1) K W
          → (k : ContextAt table rows firsts (5 + 2 * j + 1) K W)
          → FirstFalse (Guard rows) (Throughout (StepFrom d op c i)) (get_or firsts (5 + 2 * j + 1) 0) k.conjuncts r
      first_of {r} w K W x k =
          let known = concrete-operation d j op R.listed in
          let slots : step_slots d op ≡ W = some-injective (step_slots d op) W (sym known.slots_are ∙ x.slots_are) in
          lifted d op c i (concrete_at d c) (output_at d op 0) over-concrete over-concrete over-inputs over-outputs R.states.concretes_short R.parameters.outputs_short
          (get_or firsts (5 + 2 * j + 1) 0) r k.conjuncts
          (subst (λ (v : Slots). RowsAt table rows K.scope v (get_or firsts (5 + 2 * j + 1 + 1) 0) (get_or firsts (5 + 2 * j + 1) 0) k.conjuncts) (sym slots) k.stand)
          (w.means K W (environment d (step_values (concrete_at d c) (concrete_at d c) (input_at d op i) (output_at d op 0))) k (held_in known x k placed-guard))

    pub guard-context : GuardAsked table rows firsts cells p j → ContextAsked table rows firsts (5 + 2 * j + 1) τ
    guard-context A = asked-at A.read.tests (concrete-operation A.dossier j A.operation A.read.listed) (placed-guard A.dossier A.operation A.read)

    pub step-first : {r : Option ℕ} → ContextFirst (Guard rows) table rows firsts (5 + 2 * j + 1) τ r → FalseStep table rows firsts cells p j c i r
    step-first w = record {
      first = λ d op R l m K W x k. first_of d op R w K W x k;
      no_concrete = λ l. absurd (omega arith);
      no_inputs = λ l. absurd (omega arith);
    }

module _ {table rows firsts cells : List ℕ} {p : Part} {j : ℕ} (A : GuardAsked table rows firsts cells p j) where
  pub guard-states : StatesSized cells p
  guard-states = record { abstractly = unprimed A.dossier A.dossier.abstract; concretely = unprimed A.dossier A.dossier.concrete; are = A.read.states }

  pub guard-parameters : ParametersSized cells p
  guard-parameters = record { inward = inputs A.dossier A.operation; outward = outputs A.dossier A.operation; are = A.read.parameters }

-- ---- of a dossier whose reading the arrays are

module _ {table rows firsts groups : List ℕ} {operations j : ℕ} (a : ReadAsked table rows firsts groups operations) (h : j < operations) where
  pub own-part-asked : {k : ℕ} → k ≡ 2 + 2 * j → PartAsked table groups k
  own-part-asked e = record { dossier = a.dossier; groups_are = reading-groups a.reading; inside = omega (arith, e, a.many) }

  pub own-low : j < 16
  own-low = omega (arith, a.many, a.reading.operations)

operation-read : {table rows firsts groups cells : List ℕ} {p : Part} {j k : ℕ} → k ≡ 2 + 2 * j → PartSet table groups k cells p → (d : Dossier) (op : Operation)
    → ReadingOf table rows firsts groups d → get_elem? d.operations j ≡ some op → OperationRead table rows firsts cells p j d op
operation-read {j = j} e P d op R l = record {
  tests = R.tests;
  listed = l;
  states = operation-states P d (reading-groups R) j op l e;
  parameters = operation-parameters P d (reading-groups R) j op l e;
}

module _ {table rows firsts groups cells : List ℕ} {p : Part} {operations j part : ℕ} (o : part ≡ 2 + 2 * j) (P : PartSet table groups part cells p) where
  pub guard-asked : ReadAsked table rows firsts groups operations → j < operations → GuardAsked table rows firsts cells p j
  guard-asked a h =
      let t = below-entry a.dossier.operations j (subst (λ (n : ℕ). j < n) a.many h) in
      record { dossier = a.dossier; operation = t.0; read = operation-read o P a.dossier t.0 a.reading t.1; few = own-low a h }

  pub false_guard-is : {c i : ℕ} {r : Option ℕ} → j < operations → FalseStep table rows firsts cells p j c i r → FalseGuard table rows firsts groups operations j c i r
  unfolding concrete_bindings
  false_guard-is {c} {i} {r} h w = record {
    first = λ d op R m l lc li K W x k.
        w.first d op (operation-read o P d op R l) (subst (λ (n : ℕ). c < n) (concretes d op R l) lc) (subst (λ (n : ℕ). i < n) (inward d op R l) li) K W x k;
    no_operation = λ l. absurd (omega arith);
    no_concrete = λ d R m l.
        let t = below-entry d.operations j (subst (λ (n : ℕ). j < n) m h) in
        w.no_concrete (subst (λ (n : ℕ). n ≤ c) (concretes d t.0 R t.1) l);
    no_inputs = λ d op R m e l. w.no_inputs (subst (λ (n : ℕ). n ≤ i) (inward d op R e) l);
  }
    where
      concretes : (d : Dossier) (op : Operation) → ReadingOf table rows firsts groups d → get_elem? d.operations j ≡ some op → concrete_count d ≡ p.concretes.bindings
      concretes d op R l = bindings-count (unprimed d d.concrete) ∙ sym (operation-read o P d op R l).states.concretes.count

      inward : (d : Dossier) (op : Operation) → ReadingOf table rows firsts groups d → get_elem? d.operations j ≡ some op → length (bindings (inputs d op)) ≡ p.inputs.bindings
      inward d op R l = bindings-count (inputs d op) ∙ sym (operation-read o P d op R l).parameters.inputs.count

pub guard_no-operation : {table rows firsts groups : List ℕ} {operations j c i : ℕ} → operations ≤ j → FalseGuard table rows firsts groups operations j c i None
guard_no-operation {j = j} h = record {
  first = λ d op R m l lc li K W x k. let y = entry-below op d.operations j l in absurd (omega arith);
  no_operation = λ l. refl;
  no_concrete = λ d R m l. refl;
  no_inputs = λ d op R m e l. refl;
}
