-- The pairs of states that both machines reach are those that the numbers say: a beginning and steps by numbers are two runs beside each other, and the other way round. Assumes nothing.
use mathlib.Core.Path.{◌≡◌, refl, sym, ap, ap₂, subst, ◌∙◌}
use mathlib.Core.Bool.{Bool, true, ◌&&◌}
use mathlib.Core.List.{List, [], ◌∷◌, ◌++◌}
use mathlib.Core.Option.{Option, some}
use Prim.Native.Nat.{ℕ, suc, ◌+◌, ◌*◌, ◌<◌}
use native.Mathlib.Omega.{arith}
use lib.Arith.{digits_div, digits_mod}
use lib.ListN.{length, get_elem?}
use Rattle.std.proofs.lemmas.Bool.{and_from}
use Rattle.lexical.proofs.BooleanTests.{and_left, and_right}
use Rattle.form.specs.Tree.{Operation, Dossier}
use Rattle.static_rules.specs.Scope.{unprimed, inputs, outputs}
use Rattle.meaning.specs.Meaning.{Binding, holds}
use Rattle.meaning.specs.Bindings.{bindings, Over}
use Rattle.meaning.specs.Operations.{environment, abstract_bindings, concrete_bindings, output_bindings, is_state, after}
use Rattle.meaning.specs.Operations.{abstract_initial, concrete_initial, related, allows, abstract_step, concrete_step}
use Rattle.meaning.proofs.Places.{entry-below, below-entry}
use Rattle.obligations.specs.Machines.{Machine, parameters, steps, abstract_side, concrete_side}
use Rattle.obligations.specs.Runs.{Entry, IsEntry, Entries, Outcome, Initial, Step, Path, last, Related, Alike}
use Rattle.obligations.proofs.Matching.{related-on}
use Rattle.step_searches.specs.PartTestsPartsByNumber.{nth, abstract_at, concrete_at, input_at, output_at, initial, initial_match, concretely, match}
use Rattle.reached_pairs.specs.Reached.{Reached}
use Rattle.reached_pairs.specs.ReachedByNumber.{many_abstract, many_concrete, many_pairs, abstract_of, concrete_of, Begins, Leads, Goes, Chain, begun, gone}
use Rattle.reached_pairs.proofs.JoinedRuns.{path-more, last_more, alike-more, entries-more}
use Rattle.step_searches.proofs.ConcreteStates.{at-over}
use Rattle.reached_pairs.proofs.PairNumbers.{high_digit, low_digit, pair_inside, over-at, at_once}

-- the tests by numbers, in the order in which they are asked
and_first : (s t r : Bool) → (s && (t && r)) ≡ true → s ≡ true
and_first s t r e = and_left s (t && r) e

and_second : (s t r : Bool) → (s && (t && r)) ≡ true → t ≡ true
and_second s t r e = and_left t r (and_right s (t && r) e)

and-third : (s t r : Bool) → (s && (t && r)) ≡ true → r ≡ true
and-third s t r e = and_right t r (and_right s (t && r) e)

-- an entry by the numbers of the operation and of its inputs
abbrev entry_for : Machine → (j i : ℕ) → Entry
entry_for m j i = record { operation = j; input = nth (bindings (m.taken j)) i }

module _ (d : Dossier) where
  abbrev state_a : ℕ → Binding
  state_a y = abstract_at d (abstract_of d y)

  abbrev state_c : ℕ → Binding
  state_c y = concrete_at d (concrete_of d y)

  abbrev is_a : Binding → Bool
  is_a a = is_state d d.abstract a

  abbrev is_c : Binding → Bool
  is_c c = is_state d d.concrete c

  abbrev retrieved : (a c : Binding) → Bool
  retrieved a c = holds d.retrieve (environment d (a ++ c))

  abbrev begun_a : Binding → Bool
  begun_a a = holds d.ainit (environment d a)

  -- the numbers of states and their bindings
  over-a : (k : ℕ) → k < many_abstract d → Over (unprimed d d.abstract) (abstract_at d k)
  unfolding abstract_bindings
  over-a k h = at-over (unprimed d d.abstract) k h

  over-c : (k : ℕ) → k < many_concrete d → Over (unprimed d d.concrete) (concrete_at d k)
  unfolding concrete_bindings
  over-c k h = at-over (unprimed d d.concrete) k h

  number-a : (b : Binding) → Over (unprimed d d.abstract) b → (k : ℕ) × (k < many_abstract d) × (abstract_at d k ≡ b)
  unfolding abstract_bindings
  number-a b h = over-at (unprimed d d.abstract) b h

  number-c : (b : Binding) → Over (unprimed d d.concrete) b → (k : ℕ) × (k < many_concrete d) × (concrete_at d k ≡ b)
  unfolding concrete_bindings
  number-c b h = over-at (unprimed d d.concrete) b h

  once-a : (j k : ℕ) → j < many_abstract d → k < many_abstract d → abstract_at d j ≡ abstract_at d k → j ≡ k
  unfolding abstract_bindings
  once-a j k h g e = at_once (unprimed d d.abstract) j k h g e

  once-c : (j k : ℕ) → j < many_concrete d → k < many_concrete d → concrete_at d j ≡ concrete_at d k → j ≡ k
  unfolding concrete_bindings
  once-c j k h g e = at_once (unprimed d d.concrete) j k h g e

  over-o : (op : Operation) (k : ℕ) → k < length (output_bindings d op) → Over (outputs d op) (output_at d op k)
  unfolding output_bindings
  over-o op k h = at-over (outputs d op) k h

  number-o : (op : Operation) (b : Binding) → Over (outputs d op) b → (k : ℕ) × (k < length (output_bindings d op)) × (output_at d op k ≡ b)
  unfolding output_bindings
  number-o op b h = over-at (outputs d op) b h

  -- related states are states
  related-is : (a c : Binding) → is_a a ≡ true → is_c c ≡ true → retrieved a c ≡ true → related d a c ≡ true
  unfolding related
  related-is a c e f g = and_from _ _ (and_from _ _ e f) g

  related-a : (a c : Binding) → related d a c ≡ true → is_a a ≡ true
  unfolding related
  related-a a c e = and_left _ _ (and_left _ _ e)

  related-c : (a c : Binding) → related d a c ≡ true → is_c c ≡ true
  unfolding related
  related-c a c e = and_right (is_a a) _ (and_left _ _ e)

  related-r : (a c : Binding) → related d a c ≡ true → retrieved a c ≡ true
  unfolding related
  related-r a c e = and_right (is_a a && is_c c) _ e

  -- ---- from numbers to runs

  initial-a : (c : ℕ) (a : Binding) → initial_match d c a ≡ true → abstract_initial d a ≡ true
  unfolding initial_match abstract_initial
  initial-a c a e = and_from _ _ (and_first (is_a a) (begun_a a) (retrieved a (concrete_at d c)) e) (and_second (is_a a) (begun_a a) (retrieved a (concrete_at d c)) e)

  initial-c : (c : ℕ) → initial d c ≡ true → concrete_initial d (concrete_at d c) ≡ true
  unfolding initial concrete_initial
  initial-c c e = e

  initial-related : (c : ℕ) (a : Binding) → initial d c ≡ true → initial_match d c a ≡ true → related d a (concrete_at d c) ≡ true
  unfolding initial_match initial
  initial-related c a e f =
      related-is a (concrete_at d c) (and_first (is_a a) (begun_a a) (retrieved a (concrete_at d c)) f)
      (and_left (is_c (concrete_at d c)) _ e) (and-third (is_a a) (begun_a a) (retrieved a (concrete_at d c)) f)

  pub begins-reached : (y : ℕ) → Begins d y → Reached d [] (state_a y) (state_c y)
  unfolding Entries Path Alike last
  begins-reached y b = record {
    entries = tt;
    first_a = state_a y;
    first_c = state_c y;
    gs = [];
    hs = [];
    abstract_run = record {
      begins = record { carried = over-a _ (high_digit y (many_abstract d) (many_concrete d) b.inside); passes = initial-a _ _ b.matched };
      goes = tt;
    };
    concrete_run = record {
      begins = record { carried = over-c _ (low_digit y (many_abstract d) (many_concrete d) b.inside); passes = initial-c _ b.starts };
      goes = tt;
    };
    beside = record { first = initial-related _ _ b.starts b.matched; after = tt };
    ends_a = refl;
    ends_c = refl;
  }

  module _ (op : Operation) (i x y : ℕ) (l : Leads d op i x y) where
    abbrev stepped_c : Bool
    stepped_c = holds op.concretely (environment d (state_c x ++ after (state_c y) ++ input_at d op i ++ output_at d op l.output))

    abbrev stepped_a : Bool
    stepped_a = holds op.abstractly (environment d (state_a x ++ after (state_a y) ++ input_at d op i ++ output_at d op l.output))

    lead-c : is_c (state_c x) ≡ true → concrete_step d op (state_c x) (input_at d op i) (output_at d op l.output) (state_c y) ≡ true
    unfolding concrete_step allows concretely
    lead-c e = and_from _ _ (and_from _ _ e (and_left (is_c (state_c y)) stepped_c l.steps)) (and_right (is_c (state_c y)) stepped_c l.steps)

    lead-a : is_a (state_a x) ≡ true → abstract_step d op (state_a x) (input_at d op i) (output_at d op l.output) (state_a y) ≡ true
    unfolding abstract_step allows match
    lead-a e =
        and_from _ _ (and_from _ _ e (and_first (is_a (state_a y)) (retrieved (state_a y) (state_c y)) stepped_a l.matched))
        (and-third (is_a (state_a y)) (retrieved (state_a y) (state_c y)) stepped_a l.matched)

    lead-related : related d (state_a y) (state_c y) ≡ true
    unfolding concretely match
    lead-related =
        related-is (state_a y) (state_c y) (and_first (is_a (state_a y)) (retrieved (state_a y) (state_c y)) stepped_a l.matched)
        (and_left (is_c (state_c y)) stepped_c l.steps) (and_second (is_a (state_a y)) (retrieved (state_a y) (state_c y)) stepped_a l.matched)

  module _ (j i x y : ℕ) (g : Goes d j i x y) where
    abbrev outcome_a : Outcome
    outcome_a = record { output = output_at d g.operation g.leads.output; state = state_a y }

    abbrev outcome_c : Outcome
    outcome_c = record { output = output_at d g.operation g.leads.output; state = state_c y }

    produced-over : Over (parameters (outputs d) (get_elem? d.operations j)) (output_at d g.operation g.leads.output)
    produced-over = subst (λ (q : Option Operation). Over (parameters (outputs d) q) (output_at d g.operation g.leads.output)) (sym g.listed) (over-o g.operation _ g.leads.produced)

    goes-a : is_a (state_a x) ≡ true → Step (abstract_side d) (entry_for (abstract_side d) j i) (state_a x) outcome_a
    goes-a e = record {
      output_carried = produced-over;
      carried = over-a _ (high_digit y (many_abstract d) (many_concrete d) g.leads.inside);
      allowed = ap (λ (q : Option Operation). steps (abstract_step d) q (state_a x) (nth (bindings (parameters (inputs d) q)) i) (output_at d g.operation g.leads.output) (state_a y)) g.listed
          ∙ lead-a g.operation i x y g.leads e;
    }

    goes-c : is_c (state_c x) ≡ true → Step (concrete_side d) (entry_for (abstract_side d) j i) (state_c x) outcome_c
    goes-c e = record {
      output_carried = produced-over;
      carried = over-c _ (low_digit y (many_abstract d) (many_concrete d) g.leads.inside);
      allowed = ap (λ (q : Option Operation). steps (concrete_step d) q (state_c x) (nth (bindings (parameters (inputs d) q)) i) (output_at d g.operation g.leads.output) (state_c y)) g.listed
          ∙ lead-c g.operation i x y g.leads e;
    }

    goes-entry : IsEntry (abstract_side d) (entry_for (abstract_side d) j i)
    goes-entry = record {
      listed = entry-below g.operation d.operations j g.listed;
      carried = at-over (parameters (inputs d) (get_elem? d.operations j)) i
          (subst (λ (q : Option Operation). i < length (bindings (parameters (inputs d) q))) (sym g.listed) g.taken);
    }

    pub goes-reached : (es : List Entry) → Reached d es (state_a x) (state_c x) → Reached d (es ++ (entry_for (abstract_side d) j i ∷ [])) (state_a y) (state_c y)
    goes-reached es r =
        let k : related d (state_a x) (state_c x) ≡ true
        = subst (λ (a : Binding). related d a (state_c x) ≡ true) r.ends_a
        (subst (λ (c : Binding). related d (last r.first_a r.gs) c ≡ true) r.ends_c
        (related-on (related d) r.first_a r.first_c r.gs r.hs r.beside.first r.beside.after)) in
        record {
          entries = entries-more (abstract_side d) es (entry_for (abstract_side d) j i) r.entries goes-entry;
          first_a = r.first_a;
          first_c = r.first_c;
          gs = r.gs ++ (outcome_a ∷ []);
          hs = r.hs ++ (outcome_c ∷ []);
          abstract_run = record {
            begins = r.abstract_run.begins;
            goes = path-more (abstract_side d) r.first_a es r.gs (entry_for (abstract_side d) j i) outcome_a r.abstract_run.goes
                (subst (λ (s : Binding). Step (abstract_side d) (entry_for (abstract_side d) j i) s outcome_a) (sym r.ends_a) (goes-a (related-a (state_a x) (state_c x) k)));
          };
          concrete_run = record {
            begins = r.concrete_run.begins;
            goes = path-more (concrete_side d) r.first_c es r.hs (entry_for (abstract_side d) j i) outcome_c r.concrete_run.goes
                (subst (λ (s : Binding). Step (concrete_side d) (entry_for (abstract_side d) j i) s outcome_c) (sym r.ends_c) (goes-c (related-c (state_a x) (state_c x) k)));
          };
          beside = record {
            first = r.beside.first;
            after = alike-more (related d) r.gs r.hs outcome_a outcome_c r.beside.after refl (lead-related g.operation i x y g.leads);
          };
          ends_a = last_more r.first_a r.gs outcome_a;
          ends_c = last_more r.first_c r.hs outcome_c;
        }

  -- ---- from runs to numbers

  abbrev pub pair_of : (a c : ℕ) → ℕ
  pair_of a c = a * many_concrete d + c

  -- the last states of runs by n entries, by numbers
  pub record Ended (n : ℕ) (s t : Binding) : Type 0 where
    pub a : ℕ
    pub c : ℕ
    pub a_low : a < many_abstract d
    pub c_low : c < many_concrete d
    pub a_is : abstract_at d a ≡ s
    pub c_is : concrete_at d c ≡ t
    pub chain : Chain d n (pair_of a c)

  module _ (a c : ℕ) (la : a < many_abstract d) (lc : c < many_concrete d) where
    inside_is : pair_of a c < many_pairs d
    inside_is = pair_inside a c (many_abstract d) (many_concrete d) la lc

    -- what holds of two numbers holds of the digits of their pair
    of-digits : (P : (a c : ℕ) → Type 0) → P a c → P (abstract_of d (pair_of a c)) (concrete_of d (pair_of a c))
    of-digits P h =
        subst (λ (n : ℕ). P n (concrete_of d (pair_of a c))) (sym (digits_div a lc)) (subst (λ (n : ℕ). P a n) (sym (digits_mod a lc)) h)

    begins-at : concrete_initial d (concrete_at d c) ≡ true → initial d c ≡ true
    unfolding initial concrete_initial
    begins-at e = e

    matched-at : abstract_initial d (abstract_at d a) ≡ true → related d (abstract_at d a) (concrete_at d c) ≡ true → initial_match d c (abstract_at d a) ≡ true
    unfolding initial_match abstract_initial
    matched-at e r =
        and_from _ _ (and_left (is_a (abstract_at d a)) (begun_a (abstract_at d a)) e)
        (and_from _ _ (and_right (is_a (abstract_at d a)) (begun_a (abstract_at d a)) e) (related-r (abstract_at d a) (concrete_at d c) r))

    begin-at : abstract_initial d (abstract_at d a) ≡ true → concrete_initial d (concrete_at d c) ≡ true → related d (abstract_at d a) (concrete_at d c) ≡ true → Begins d (pair_of a c)
    begin-at e f r = record {
      inside = inside_is;
      starts = of-digits (λ (a c : ℕ). initial d c ≡ true) (begins-at f);
      matched = of-digits (λ (a c : ℕ). initial_match d c (abstract_at d a) ≡ true) (matched-at e r);
    }

  module _ (op : Operation) (i o a c m k : ℕ) where
    concretely-at : concrete_step d op (concrete_at d c) (input_at d op i) (output_at d op o) (concrete_at d k) ≡ true → concretely d op c i (output_at d op o) (concrete_at d k) ≡ true
    unfolding concrete_step allows concretely
    concretely-at e =
        let p : Bool = holds op.concretely (environment d (concrete_at d c ++ after (concrete_at d k) ++ input_at d op i ++ output_at d op o)) in
        and_from _ _ (and_right (is_c (concrete_at d c)) (is_c (concrete_at d k)) (and_left _ p e)) (and_right (is_c (concrete_at d c) && is_c (concrete_at d k)) p e)

    match-at : abstract_step d op (abstract_at d a) (input_at d op i) (output_at d op o) (abstract_at d m) ≡ true → related d (abstract_at d m) (concrete_at d k) ≡ true
        → match d op a i o k (abstract_at d m) ≡ true
    unfolding abstract_step allows match
    match-at e r =
        let p : Bool = holds op.abstractly (environment d (abstract_at d a ++ after (abstract_at d m) ++ input_at d op i ++ output_at d op o)) in
        and_from _ _ (related-a (abstract_at d m) (concrete_at d k) r)
        (and_from _ _ (related-r (abstract_at d m) (concrete_at d k) r) (and_right (is_a (abstract_at d a) && is_a (abstract_at d m)) p e))

    module _ (j : ℕ) (listed : get_elem? d.operations j ≡ some op) (li : i < length (bindings (inputs d op))) (lo : o < length (output_bindings d op)) where
      goes_at : a < many_abstract d → c < many_concrete d → m < many_abstract d → k < many_concrete d
          → concretely d op c i (output_at d op o) (concrete_at d k) ≡ true → match d op a i o k (abstract_at d m) ≡ true → Goes d j i (pair_of a c) (pair_of m k)
      goes_at la lc lm lk s t = record {
        operation = op;
        listed = listed;
        taken = li;
        before = inside_is a c la lc;
        leads = record {
          inside = inside_is m k lm lk;
          output = o;
          produced = lo;
          steps = of-digits a c la lc (λ (a c : ℕ). concretely d op c i (output_at d op o) (concrete_at d (concrete_of d (pair_of m k))) ≡ true)
              (of-digits m k lm lk (λ (m k : ℕ). concretely d op c i (output_at d op o) (concrete_at d k) ≡ true) s);
          matched = of-digits a c la lc (λ (a c : ℕ). match d op a i o (concrete_of d (pair_of m k)) (abstract_at d (abstract_of d (pair_of m k))) ≡ true)
              (of-digits m k lm lk (λ (m k : ℕ). match d op a i o k (abstract_at d m) ≡ true) t);
        };
      }

  -- one step of both machines
  module _ (e : Entry) (n a c : ℕ) (la : a < many_abstract d) (lc : c < many_concrete d) (chain : Chain d n (pair_of a c)) (is-entry : IsEntry (abstract_side d) e) where
    step-ended : (g h : Outcome) → Step (abstract_side d) e (abstract_at d a) g → Step (concrete_side d) e (concrete_at d c) h → g.output ≡ h.output → Related (related d) g.state h.state
        → Ended (suc n) g.state h.state
    step-ended g h sg sh same r =
        let w : (op : Operation) × (get_elem? d.operations e.operation ≡ some op) = below-entry d.operations e.operation is-entry.listed in
        let op : Operation = w.0 in
        let ii : (i : ℕ) × (i < length (bindings (inputs d op))) × (input_at d op i ≡ e.input)
        = over-at (inputs d op) e.input (subst (λ (q : Option Operation). Over (parameters (inputs d) q) e.input) w.1 is-entry.carried) in
        let oo : (o : ℕ) × (o < length (output_bindings d op)) × (output_at d op o ≡ h.output)
        = number-o op h.output (subst (λ (q : Option Operation). Over (parameters (outputs d) q) h.output) w.1 sh.output_carried) in
        let mm : (m : ℕ) × (m < many_abstract d) × (abstract_at d m ≡ g.state) = number-a g.state sg.carried in
        let kk : (k : ℕ) × (k < many_concrete d) × (concrete_at d k ≡ h.state) = number-c h.state sh.carried in
        let fc : concrete_step d op (concrete_at d c) (input_at d op ii.0) (output_at d op oo.0) (concrete_at d kk.0) ≡ true
        = (λ t. concrete_step d op (concrete_at d c) (ii.2 t) (oo.2 t) (kk.2 t))
        ∙ sym (ap (λ (q : Option Operation). steps (concrete_step d) q (concrete_at d c) e.input h.output h.state) w.1) ∙ sh.allowed in
        let fa : abstract_step d op (abstract_at d a) (input_at d op ii.0) (output_at d op oo.0) (abstract_at d mm.0) ≡ true
        = (λ t. abstract_step d op (abstract_at d a) (ii.2 t) ((oo.2 ∙ sym same) t) (mm.2 t))
        ∙ sym (ap (λ (q : Option Operation). steps (abstract_step d) q (abstract_at d a) e.input g.output g.state) w.1) ∙ sg.allowed in
        let fr : related d (abstract_at d mm.0) (concrete_at d kk.0) ≡ true = (λ t. related d (mm.2 t) (kk.2 t)) ∙ r in
        record {
          a = mm.0;
          c = kk.0;
          a_low = mm.1;
          c_low = kk.1;
          a_is = mm.2;
          c_is = kk.2;
          chain = gone e.operation ii.0 chain
              (goes_at op ii.0 oo.0 a c mm.0 kk.0 e.operation w.1 ii.1 oo.1 la lc mm.1 kk.1
              (concretely-at op ii.0 oo.0 a c mm.0 kk.0 fc) (match-at op ii.0 oo.0 a c mm.0 kk.0 fa fr));
        }

  -- all steps
  path-ended : (es : List Entry) (gs hs : List Outcome) (n : ℕ) (s t : Binding) → Ended n s t → Entries (abstract_side d) es
      → Path (abstract_side d) s es gs → Path (concrete_side d) t es hs → Alike (related d) gs hs → Ended (n + length es) (last s gs) (last t hs)
  unfolding Path Entries Alike last
  path-ended [] [] [] n s t w v p q l = let e : n ≡ n + 0 = omega arith in subst (λ (k : ℕ). Ended k s t) e w
  path-ended [] (g ∷ gs) hs n s t w v p q l = absurd p
  path-ended [] [] (h ∷ hs) n s t w v p q l = absurd q
  path-ended (e ∷ es) [] hs n s t w v p q l = absurd p
  path-ended (e ∷ es) (g ∷ gs) [] n s t w v p q l = absurd q
  path-ended (e ∷ es) (g ∷ gs) (h ∷ hs) n s t w v p q l =
      let more : suc n + length es ≡ n + suc (length es) = omega arith in
      subst (λ (k : ℕ). Ended k (last g.state gs) (last h.state hs)) more
      (path-ended es gs hs (suc n) g.state h.state
      (step-ended e n w.a w.c w.a_low w.c_low w.chain v.0 g h
      (subst (λ (b : Binding). Step (abstract_side d) e b g) (sym w.a_is) p.0)
      (subst (λ (b : Binding). Step (concrete_side d) e b h) (sym w.c_is) q.0) l.0 l.1)
      v.1 p.1 q.1 l.2)

  begins-ended : (s t : Binding) → Initial (abstract_side d) s → Initial (concrete_side d) t → Related (related d) s t → Ended 0 s t
  begins-ended s t i k r =
      let mm : (m : ℕ) × (m < many_abstract d) × (abstract_at d m ≡ s) = number-a s i.carried in
      let kk : (m : ℕ) × (m < many_concrete d) × (concrete_at d m ≡ t) = number-c t k.carried in
      record {
        a = mm.0;
        c = kk.0;
        a_low = mm.1;
        c_low = kk.1;
        a_is = mm.2;
        c_is = kk.2;
        chain = begun (begin-at mm.0 kk.0 mm.1 kk.1 (ap (abstract_initial d) mm.2 ∙ i.passes) (ap (concrete_initial d) kk.2 ∙ k.passes)
            ((λ u. related d (mm.2 u) (kk.2 u)) ∙ r));
      }

  -- a pair that is reached by a list is reached by as many entries by number
  pub reached-chain : (es : List Entry) (a c : ℕ) → a < many_abstract d → c < many_concrete d → Reached d es (abstract_at d a) (concrete_at d c) → Chain d (length es) (pair_of a c)
  reached-chain es a c la lc r =
      let w : Ended (0 + length es) (last r.first_a r.gs) (last r.first_c r.hs)
      = path-ended es r.gs r.hs 0 r.first_a r.first_c
      (begins-ended r.first_a r.first_c r.abstract_run.begins r.concrete_run.begins r.beside.first)
      r.entries r.abstract_run.goes r.concrete_run.goes r.beside.after in
      let ea : w.a ≡ a = once-a w.a a w.a_low la (w.a_is ∙ r.ends_a) in
      let ec : w.c ≡ c = once-c w.c c w.c_low lc (w.c_is ∙ r.ends_c) in
      let en : 0 + length es ≡ length es = omega arith in
      subst (λ (n : ℕ). Chain d n (pair_of a c)) en (subst (λ (x : ℕ). Chain d (0 + length es) x) (ap₂ pair_of ea ec) w.chain)

  -- the states of a pair
  pub at-digits : (es : List Entry) (a c : ℕ) → a < many_abstract d → c < many_concrete d
      → Reached d es (state_a (pair_of a c)) (state_c (pair_of a c)) → Reached d es (abstract_at d a) (concrete_at d c)
  at-digits es a c la lc r =
      subst (λ (n : ℕ). Reached d es (abstract_at d n) (concrete_at d c)) (digits_div a lc)
      (subst (λ (n : ℕ). Reached d es (state_a (pair_of a c)) (concrete_at d n)) (digits_mod a lc) r)
