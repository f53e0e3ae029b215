-- What one operation leads to: by the searches for concrete steps and for the abstract states that match them. Assumes nothing.
use mathlib.Core.Path.{◌≡◌, refl, sym, ap₂, subst, subst₂, ◌∙◌}
use mathlib.Core.Bool.{true}
use mathlib.Core.List.{List}
use Prim.Native.Nat.{ℕ, ◌+◌, ◌*◌, ◌/◌, ◌%◌, ◌<◌, ◌≤◌}
use native.Mathlib.Nat.{div-add-mod'}
use native.Mathlib.Omega.{arith}
use lib.Arith.{digits_div, digits_mod}
use lib.ListN.{length}
use Rattle.form.specs.Tree.{Operation, Dossier}
use Rattle.static_rules.specs.Scope.{inputs}
use Rattle.meaning.specs.Operations.{output_bindings}
use Rattle.plans.specs.declared.Part.{Part}
use Rattle.points.specs.Searches.{Sought}
use Rattle.step_searches.specs.PartTestsPartsByNumber.{abstract_at, concrete_at, output_at, concretely, match}
use Rattle.step_searches.specs.declared.Stepped.{Stepped}
use Rattle.step_searches.proofs.PartSizes.{na-is, nc-is, ni-is, nq-is}
use Rattle.step_searches.specs.StepPromises.{StepSearches, MatchFound, ConcreteStepFound, Below}
use Rattle.reached_pairs.specs.declared.marks.Mark.{Mark}
use Rattle.reached_pairs.specs.ReachedByNumber.{many_abstract, many_concrete, many_pairs, abstract_of, concrete_of, Leads, Hits, Marked, MarkFrom}
use Rattle.reached_pairs.specs.PairPromises.{stepped, match_test, MatchedBy, PairAt, step_test, StepTo, InputTo, MatchesSpread, MatchesSpreading, StepsSpread, StepsSpreading, InputsSpread}
use Rattle.reached_pairs.proofs.PairNumbers.{high_digit, low_digit, pair_inside}
use Rattle.reached_pairs.proofs.GrownMarks.{grown-none, grown_wider, scan-start, scan-next, scan-done, sought-each}

-- the sizes of the part are those of the dossier's groups
module _ {table plan cells : List ℕ} {p : Part} {d : Dossier} {op : Operation} (S : StepSearches table plan cells p d op) where
  pub size-pairs : p.abstracts.bindings * p.concretes.bindings ≡ many_pairs d
  size-pairs = ap₂ ◌*◌ (na-is S) (nc-is S)

-- ---- abstract states that match a concrete step

module _ (d : Dossier) (op : Operation) (b : Stepped) where
  match-here : (x : ℕ) → b.k < many_concrete d → x < many_abstract d → match_test d op b x ≡ true → MatchedBy d op b (x * many_concrete d + b.k)
  match-here x lk lx h = record {
    inside = pair_inside x b.k (many_abstract d) (many_concrete d) lx lk;
    concrete_is = digits_mod x lk;
    matched = subst (λ (z : ℕ). match_test d op b z ≡ true) (sym (digits_div x lk)) h;
  }

  match-found : (na nc : ℕ) → na ≡ many_abstract d → nc ≡ many_concrete d → (y : ℕ) → MatchedBy d op b y → Hits (match_test d op b) (PairAt d op nc b.k) na y
  match-found na nc ea ec y w = record {
    number = abstract_of d y;
    low = omega (arith, ea, high_digit y (many_abstract d) (many_concrete d) w.inside);
    hit = w.matched;
    there = sym (div-add-mod' y (many_concrete d)) ∙ ap₂ (λ (n k : ℕ). abstract_of d y * n + k) (sym ec) w.concrete_is;
  }

module _ {table plan cells : List ℕ} {p : Part} {b : Stepped} {m : Mark} where
  pub matches-start : {x : ℕ} (a : List Mark) → MatchFound table plan cells p b.a b.i b.o b.k 0 x → MatchesSpreading table plan cells p b m x a a
  matches-start {x = x} a f = record {
    found = λ d op S. (f.sought d op S).found;
    each = λ d op S. scan-start (match_test d op b) (PairAt d op p.concretes.bindings b.k) p.abstracts.bindings x a (f.sought d op S);
  }

  pub matches-next : {x t : ℕ} {a c e : List Mark} → MatchesSpreading table plan cells p b m x a c → Below p b → x < p.abstracts.bindings → Marked (x * p.concretes.bindings + b.k) m c e
      → MatchFound table plan cells p b.a b.i b.o b.k (x + 1) t → MatchesSpreading table plan cells p b m t a e
  matches-next {x = x} {t = t} {a = a} {c = c} {e = e} w l h g f = record {
    found = λ d op S. (f.sought d op S).found;
    each = λ d op S. scan-next (match_test d op b) (PairAt d op p.concretes.bindings b.k) p.abstracts.bindings x t (w.each d op S)
        (grown_wider (PairAt d op p.concretes.bindings b.k x) g (λ y v z k. (k.1, subst (MatchedBy d op b) (sym k.0) (here d op S))) (λ y k. k))
        (f.sought d op S);
  }
    where
      here : (d : Dossier) (op : Operation) → StepSearches table plan cells p d op → MatchedBy d op b (x * p.concretes.bindings + b.k)
      here d op S =
          subst (λ (n : ℕ). MatchedBy d op b (x * n + b.k)) (sym (nc-is S))
          (match-here d op b x (omega (arith, nc-is S, l.k_low)) (omega (arith, na-is S, h)) (w.found d op S h))

  pub matches-done : {x : ℕ} {a c : List Mark} → MatchesSpreading table plan cells p b m x a c → p.abstracts.bindings ≤ x → MatchesSpread table plan cells p b m a c
  matches-done {x = x} w h = record {
    each = λ d op S. grown_wider (MatchedBy d op b) (scan-done (match_test d op b) (PairAt d op p.concretes.bindings b.k) p.abstracts.bindings x (w.each d op S) h) (λ y v z k. k)
        (match-found d op b p.abstracts.bindings p.concretes.bindings (na-is S) (nc-is S));
  }

-- ---- concrete steps

module _ (d : Dossier) (op : Operation) (i x y : ℕ) where
  abbrev StepLeads : (r nq nc : ℕ) → Type 0
  StepLeads r nq nc = r < nq * nc → step_test d op nc (x % nc) i r ≡ true → StepTo d op nc i x r y → Leads d op i x y

  step-leads : (r : ℕ) → StepLeads r (length (output_bindings d op)) (many_concrete d)
  step-leads r h t w = record {
    inside = w.inside;
    output = r / many_concrete d;
    produced = high_digit r (length (output_bindings d op)) (many_concrete d) h;
    steps = subst (λ (k : ℕ). concretely d op (concrete_of d x) i (output_at d op (r / many_concrete d)) (concrete_at d k) ≡ true) (sym w.concrete_is) t;
    matched = subst (λ (k : ℕ). match d op (abstract_of d x) i (r / many_concrete d) k (abstract_at d (abstract_of d y)) ≡ true) (sym w.concrete_is) w.matched;
  }

  abbrev LeadsStep : (nq nc : ℕ) → Type 0
  LeadsStep nq nc = Leads d op i x y → Hits (step_test d op nc (x % nc) i) (StepTo d op nc i x) (nq * nc) y

  leads-step : LeadsStep (length (output_bindings d op)) (many_concrete d)
  leads-step w =
      let lk : concrete_of d y < many_concrete d = low_digit y (many_abstract d) (many_concrete d) w.inside in
      let r : ℕ = w.output * many_concrete d + concrete_of d y in
      let eo : r / many_concrete d ≡ w.output = digits_div w.output lk in
      let ek : r % many_concrete d ≡ concrete_of d y = digits_mod w.output lk in
      let m : MatchedBy d op (stepped (abstract_of d x) i w.output (concrete_of d y)) y = record { inside = w.inside; concrete_is = refl; matched = w.matched } in
      record {
        number = r;
        low = pair_inside w.output (concrete_of d y) (length (output_bindings d op)) (many_concrete d) w.produced lk;
        hit = ap₂ (λ (o k : ℕ). concretely d op (concrete_of d x) i (output_at d op o) (concrete_at d k)) eo ek ∙ w.steps;
        there = subst₂ (λ (o k : ℕ). MatchedBy d op (stepped (abstract_of d x) i o k) y) (sym eo) (sym ek) m;
      }

module _ {table plan cells : List ℕ} {p : Part} {x i : ℕ} {m : Mark} where
  pub steps-start : {r : ℕ} (a : List Mark) → ConcreteStepFound table plan cells p (x % p.concretes.bindings) i 0 r → StepsSpreading table plan cells p x i m r a a
  steps-start {r = r} a f = record {
    found = λ d op S. (f.sought d op S).found;
    each = λ d op S. scan-start (step_test d op p.concretes.bindings (x % p.concretes.bindings) i) (StepTo d op p.concretes.bindings i x) (p.outputs.bindings * p.concretes.bindings) r a (f.sought d op S);
  }

  pub steps_next : {r t : ℕ} {a c e : List Mark} → StepsSpreading table plan cells p x i m r a c → r < p.outputs.bindings * p.concretes.bindings
      → MatchesSpread table plan cells p (stepped (x / p.concretes.bindings) i (r / p.concretes.bindings) (r % p.concretes.bindings)) m c e
      → ConcreteStepFound table plan cells p (x % p.concretes.bindings) i (r + 1) t → StepsSpreading table plan cells p x i m t a e
  steps_next {r = r} {t = t} {a = a} {c = c} {e = e} w h g f = record {
    found = λ d op S. (f.sought d op S).found;
    each = λ d op S. scan-next (step_test d op p.concretes.bindings (x % p.concretes.bindings) i) (StepTo d op p.concretes.bindings i x) (p.outputs.bindings * p.concretes.bindings) r t (w.each d op S)
        (grown_wider (StepTo d op p.concretes.bindings i x r) (g.each d op S) (λ y v z k. (k.0, leads d op S y (w.found d op S h) k.1)) (λ y k. k))
        (f.sought d op S);
  }
    where
      leads : (d : Dossier) (op : Operation) → StepSearches table plan cells p d op → (y : ℕ) → step_test d op p.concretes.bindings (x % p.concretes.bindings) i r ≡ true → StepTo d op p.concretes.bindings i x r y → Leads d op i x y
      leads d op S y = subst₂ (StepLeads d op i x y r) (sym (nq-is S)) (sym (nc-is S)) (step-leads d op i x y r) h

  pub steps-done : {r : ℕ} {a c : List Mark} → StepsSpreading table plan cells p x i m r a c → p.outputs.bindings * p.concretes.bindings ≤ r → StepsSpread table plan cells p x i m a c
  steps-done {r = r} w h = record {
    each = λ d op S. grown_wider (Leads d op i x) (scan-done (step_test d op p.concretes.bindings (x % p.concretes.bindings) i) (StepTo d op p.concretes.bindings i x) (p.outputs.bindings * p.concretes.bindings) r (w.each d op S) h) (λ y v z k. k)
        (λ y. subst₂ (LeadsStep d op i x y) (sym (nq-is S)) (sym (nc-is S)) (leads-step d op i x y));
  }

-- ---- inputs

module _ {table plan cells : List ℕ} {p : Part} {x j n : ℕ} where
  pub inputs-start : {i : ℕ} (a : List Mark) → i ≡ 0 → InputsSpread table plan cells p x j n i a a
  inputs-start {i = i} a e = record { each = λ d op S. grown-none (Hits (λ (z : ℕ). true) (InputTo d op x) i) a (λ y k. omega (arith, k.low)) }

  pub inputs-next : {i t : ℕ} {m : Mark} {a c e : List Mark} → InputsSpread table plan cells p x j n i a c → i < p.inputs.bindings → MarkFrom j i x n m → StepsSpread table plan cells p x i m c e
      → t ≡ i + 1 → InputsSpread table plan cells p x j n t a e
  inputs-next {i = i} {t = t} {m = m} w h f g q = record {
    each = λ d op S. scan-next (λ (z : ℕ). true) (InputTo d op x) (i + 1) i t (w.each d op S)
        (grown_wider (InputTo d op x i) (g.each d op S)
        (λ y v z k. record { input = i; low = omega (arith, ni-is S, h); from = subst (MarkFrom j i x n) (sym k.0) f; leads = k.1 }) (λ y k. k))
        (subst (Sought (λ (z : ℕ). true) (i + 1) (i + 1)) (sym q) (sought-each (i + 1) (i + 1) (omega arith)));
  }

  pub inputs-done : {i : ℕ} {a c : List Mark} → InputsSpread table plan cells p x j n i a c → p.inputs.bindings ≤ i → InputsSpread table plan cells p x j n p.inputs.bindings a c
  inputs-done {i = i} w h = record { each = λ d op S. scan-done (λ (z : ℕ). true) (InputTo d op x) p.inputs.bindings i (w.each d op S) h }
