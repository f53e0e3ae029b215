-- The obligations of two machines give what document 01 says of their runs. Assumes nothing.
use mathlib.Core.Path.{◌≡◌, refl, sym, ap, ◌∙◌, subst}
use mathlib.Core.Bool.{true, ◌&&◌}
use mathlib.Core.List.{List, [], ◌∷◌, ◌++◌, append_assoc}
use Rattle.lexical.specs.Lists.{any}
use Rattle.static_rules.specs.Carriers.{Variable}
use Rattle.meaning.specs.Meaning.{Binding}
use Rattle.meaning.specs.Bindings.{bindings, Over}
use Rattle.meaning.proofs.Bindings.{binding-found, binding-put}
use Rattle.obligations.specs.Machines.{Machine, Relation, SameOperations, pre}
use Rattle.obligations.specs.Obligations.{Refines, initialisation_at, applicability_at, correctness_at}
use Rattle.obligations.specs.Runs.{Entry, IsEntry, Entries, Outcome, Initial, Step, Pre, Path, last, Run, Meets, Related, Alike, Beside, MachinesMatch}
use Rattle.std.proofs.lemmas.Bool.{and_from}
use Rattle.lexical.proofs.BooleanTests.{and_left, and_right}
use Rattle.obligations.proofs.GivesLaws.{gives-use}

-- the last state of a run is over the carriers, and the last states of runs beside each other are related
carried_on : (m : Machine) (s : Binding) (es : List Entry) (rs : List Outcome) → Over m.variables s → Path m s es rs → Over m.variables (last s rs)
unfolding Path last
carried_on m s [] [] k p = k
carried_on m s [] (r ∷ rs) k p = absurd p
carried_on m s (e ∷ es) [] k p = absurd p
carried_on m s (e ∷ es) (r ∷ rs) k p = carried_on m r.state es rs p.0.carried p.1

pub related-on : (R : Relation) (a c : Binding) (gs hs : List Outcome) → Related R a c → Alike R gs hs → Related R (last a gs) (last c hs)
unfolding Alike last
related-on R a c [] [] r p = r
related-on R a c [] (h ∷ hs) r p = absurd p
related-on R a c (g ∷ gs) [] r p = absurd p
related-on R a c (g ∷ gs) (h ∷ hs) r p = related-on R g.state h.state gs hs p.1 p.2

-- parts of a list of entries
entries-front : (m : Machine) (done rest : List Entry) → Entries m (done ++ rest) → Entries m done
unfolding Entries
entries-front m [] rest v = tt
entries-front m (e ∷ done) rest v = (v.0, entries-front m done rest v.1)

entries_next : (m : Machine) (done rest : List Entry) (e : Entry) → Entries m (done ++ (e ∷ rest)) → IsEntry m e
unfolding Entries
entries_next m [] rest e v = v.0
entries_next m (x ∷ done) rest e v = entries_next m done rest e v.1

meets-front : (m : Machine) (done rest : List Entry) → Meets m (done ++ rest) → Meets m done
meets-front m done rest f d1 e r1 q s rs run = f d1 e (r1 ++ rest) (ap {B = List Entry} (λ l. l ++ rest) q ∙ append_assoc d1 (e ∷ r1) rest) s rs run

-- the test of preconditions says what a machine can do
pre-test : (m : Machine) (e : Entry) (s : Binding) → Pre m e s → pre m e.operation s e.input ≡ true
unfolding pre
pre-test m e s p =
    binding-put _ (m.produced e.operation) p.0.output p.1.output_carried
    (binding-put (λ (s' : Binding). m.allows e.operation s e.input p.0.output s') m.variables p.0.state p.1.carried p.1.allowed)

pre-step : (m : Machine) (e : Entry) (s : Binding) → pre m e.operation s e.input ≡ true → Pre m e s
unfolding pre
pre-step m e s q =
    let x : (o : Binding) × Over (m.produced e.operation) o × (any (λ (s' : Binding). m.allows e.operation s e.input o s') (bindings m.variables) ≡ true)
    = binding-found _ (m.produced e.operation) q in
    let y : (s' : Binding) × Over m.variables s' × (m.allows e.operation s e.input x.0 s' ≡ true)
    = binding-found (λ (s' : Binding). m.allows e.operation s e.input x.0 s') m.variables x.2 in
    (record { output = x.0; state = y.0 }, record { output_carried = x.1; carried = y.1; allowed = y.2 })

module _ (A C : Machine) (R : Relation) (same : SameOperations A C) (ob : Refines A C R) where
  -- correctness: a concrete step is met by an abstract one
  answer : (e : Entry) → IsEntry A e → (a c : Binding) → Over A.variables a → Over C.variables c
      → Related R a c → Pre A e a → (h : Outcome) → Step C e c h
      → (g : Outcome) × Step A e a g × (g.output ≡ h.output) × Related R g.state h.state
  unfolding correctness_at
  answer e k a c la lc r pre h st =
      let x : (a' : Binding) × Over A.variables a' × ((R a' h.state && A.allows e.operation a e.input h.output a') ≡ true)
      = binding-found (λ (a' : Binding). R a' h.state && A.allows e.operation a e.input h.output a') A.variables
      (gives-use _ _ (ob.correctness e.operation k.listed a c e.input h.output h.state la lc k.carried st.output_carried st.carried)
      (and_from _ _ (and_from _ _ (pre-test A e a pre) r) st.allowed)) in (
        record { output = h.output; state = x.0 },
        record { output_carried = subst (λ (vs : List Variable). Over vs h.output) (sym (same.produced e.operation)) st.output_carried; carried = x.1; allowed = and_right (R x.0 h.state) _ x.2 },
        refl,
        and_left _ _ x.2,
      )

  -- applicability: where the abstract precondition holds, the concrete one does
  applies : (e : Entry) → IsEntry A e → (a c : Binding) → Over A.variables a → Over C.variables c
      → Related R a c → Pre A e a → pre C e.operation c e.input ≡ true
  unfolding applicability_at
  applies e k a c la lc r pre =
      gives-use _ _ (ob.applicability e.operation k.listed a c e.input la lc k.carried) (and_from _ _ (pre-test A e a pre) r)

  -- initialisation: an abstract beginning beside each concrete one
  begin : (c : Binding) → Initial C c → (a : Binding) × (Initial A a × Related R a c)
  unfolding initialisation_at
  begin c i =
      let x : (a : Binding) × Over A.variables a × ((A.initial a && R a c) ≡ true)
      = binding-found (λ (a : Binding). A.initial a && R a c) A.variables (gives-use _ _ (ob.initialisation c i.carried) i.passes) in
      (x.0, (record { carried = x.1; passes = and_left _ _ x.2 }, and_right (A.initial x.0) _ x.2))

  -- step for step, an abstract run beside a concrete one
  follow : (es : List Entry) → Entries A es → (a : Binding) → Over A.variables a
      → ((done : List Entry) (e : Entry) (rest : List Entry) → es ≡ done ++ (e ∷ rest) → (gs : List Outcome) → Path A a done gs → Pre A e (last a gs))
      → (c : Binding) → Over C.variables c → Related R a c → (hs : List Outcome) → Path C c es hs
      → (gs : List Outcome) × (Path A a es gs × Alike R gs hs)
  unfolding Path Alike Entries last
  follow [] v a la m c lc r [] p = ([], (tt, tt))
  follow [] v a la m c lc r (h ∷ hs) p = absurd p
  follow (e ∷ es) v a la m c lc r [] p = absurd p
  follow (e ∷ es) v a la m c lc r (h ∷ hs) p =
      let x : (g : Outcome) × Step A e a g × (g.output ≡ h.output) × Related R g.state h.state
      = answer e v.0 a c la lc r (m [] e es refl [] tt) h p.0 in
      let y : (gs : List Outcome) × (Path A x.0.state es gs × Alike R gs hs)
      = follow es v.1 x.0.state x.1.carried
      (λ done e' rest q gs path. m (e ∷ done) e' rest (ap {B = List Entry} (λ l. e ∷ l) q) (x.0 ∷ gs) (x.1, path))
      h.state p.0.carried x.3 hs p.1 in
      (x.0 ∷ y.0, ((x.1, y.1.0), (x.2, x.3, y.1.1)))

  stood : (es : List Entry) → Entries A es → Meets A es → (c : Binding) (hs : List Outcome) → Run C es c hs
      → (a : Binding) × ((gs : List Outcome) × (Run A es a gs × Beside R a gs c hs))
  stood es v m c hs run =
      let b : (a : Binding) × (Initial A a × Related R a c) = begin c run.begins in
      let f : (gs : List Outcome) × (Path A b.0 es gs × Alike R gs hs)
      = follow es v b.0 b.1.0.carried
      (λ done e rest q gs path. m done e rest q b.0 gs (record { begins = b.1.0; goes = path }))
      c run.begins.carried b.1.1 hs run.goes in
      (b.0, (f.0, (record { begins = b.1.0; goes = f.1.0 }, record { first = b.1.1; after = f.1.1 })))

  -- "for every list of operations with inputs, of any length, the empty one too": what demand 3 says, of machines that meet the obligations
  pub match : MachinesMatch A C R
  match es v m =
      record {
        steps = λ done e rest q c hs run.
            let v' : Entries A (done ++ (e ∷ rest)) = subst (Entries A) q v in
            let m' : Meets A (done ++ (e ∷ rest)) = subst (Meets A) q m in
            let s : (a : Binding) × ((gs : List Outcome) × (Run A done a gs × Beside R a gs c hs))
            = stood done (entries-front A done (e ∷ rest) v') (meets-front A done (e ∷ rest) m') c hs run in
            pre-step C e (last c hs)
            (applies e (entries_next A done rest e v') (last s.0 s.1.0) (last c hs)
            (carried_on A s.0 done s.1.0 s.1.1.0.begins.carried s.1.1.0.goes)
            (carried_on C c done hs run.begins.carried run.goes)
            (related-on R s.0 c s.1.0 hs s.1.1.1.first s.1.1.1.after)
            (m done e rest q s.0 s.1.0 s.1.1.0));
        met = λ done e rest q a gs ra c hs rc b h st.
            answer e (entries_next A done rest e (subst (Entries A) q v)) (last a gs) (last c hs)
            (carried_on A a done gs ra.begins.carried ra.goes)
            (carried_on C c done hs rc.begins.carried rc.goes)
            (related-on R a c gs hs b.first b.after)
            (m done e rest q a gs ra) h st;
        stands = stood es v m;
      }
