-- What a layer leads to: pair by pair, operation by operation, layer by layer. Assumes nothing.
use mathlib.Core.Path.{◌≡◌, refl, sym, ap, subst, ◌∙◌}
use mathlib.Core.Bool.{Bool, true, false, true≢false}
use mathlib.Core.Logic.{◌⊎◌, inl, inr}
use mathlib.Core.List.{List}
use mathlib.Core.Option.{some, some-injective}
use Prim.Native.Nat.{ℕ, zero, suc, ◌+◌, ◌*◌, ◌<◌, ◌≤◌}
use native.Mathlib.Omega.{arith}
use native.Mathlib.Decide.{dec_lt}
use lib.ListN.{length, get_elem?}
use Rattle.form.specs.Tree.{Operation, Dossier}
use Rattle.static_rules.specs.Scope.{inputs}
use Rattle.meaning.specs.Bindings.{bindings}
use Rattle.meaning.proofs.Places.{below-entry}
use Rattle.plans.specs.declared.Part.{Part}
use Rattle.step_searches.specs.ReadingsReadings.{ReadingOf}
use Rattle.step_searches.specs.StepPromises.{StepSearches, PrepareAsked, Prepared}
use Rattle.reached_pairs.specs.declared.marks.Mark.{Mark}
use Rattle.reached_pairs.specs.Reached.{layer_of, mark_in, layer_in}
use Rattle.reached_pairs.specs.ReachedByNumber.{many_pairs, Goes, Leads, Layered, Grown, Hits, MarkFrom, MayFrom, MustFrom, MustBelow, LayerCounted}
use Rattle.reached_pairs.specs.PairPromises.{PairMay, PairTo, PairsAsked, InputsSpread, PairSpread, PairsSpread, PairsAre, PairsFit, OperationSpread, LayerSpread, Layers, ReachAnswers}
use Rattle.reached_pairs.proofs.GrownMarks.{grown_stays, grown-none, grown_join, grown_wider, scan-next, scan-done, sought-each}
use Rattle.reached_pairs.proofs.NextLayer.{layered-next}
use Rattle.reached_pairs.proofs.Layers.{layered-reached}
use Rattle.step_searches.proofs.PartSizes.{ni-is}
use Rattle.reached_pairs.proofs.SpreadSteps.{size-pairs}

-- a pair of layer n was one before marks of layer n + 1 were added
older : (may : (y : ℕ) (m : Mark) → Type 0) (must : ℕ → Type 0) (n : ℕ) (a b : List Mark) → Grown may must a b → ((y : ℕ) (m : Mark) → may y m → layer_of m ≡ suc n) → (q : ℕ) → layer_in b q ≡ n → layer_in a q ≡ n
older may must n a b g l q h = go (g.each q)
  where
    go : (mark_in b q ≡ mark_in a q) ⊎ ((layer_in a q ≡ 0) × may q (mark_in b q)) → layer_in a q ≡ n
    go (inl e) = ap layer_of (sym e) ∙ h
    go (inr e) = absurd (omega (arith, l q (mark_in b q) e.1, h))

-- ---- pairs

module _ {table plan cells : List ℕ} {p : Part} {j n : ℕ} where
  pub pair-other : {x : ℕ} (a : List Mark) → (layer_in a x ≡ n → ⊥) → PairSpread table plan cells p x j n a a
  pair-other {x = x} a h = record { each = λ d op S. grown-none (PairTo d op n p.inputs.bindings a x) a (λ y k. h k.0) }

  pub pair-spread : {x : ℕ} {a b : List Mark} → x < p.abstracts.bindings * p.concretes.bindings → layer_in a x ≡ n → InputsSpread table plan cells p x j n p.inputs.bindings a b → PairSpread table plan cells p x j n a b
  pair-spread {x = x} {a = a} l e w = record {
    each = λ d op S. grown_wider (PairTo d op n p.inputs.bindings a x) (w.each d op S) (λ y v z k. record { pair = x; low = omega (arith, size-pairs S, l); layer_is = e; may = k }) (λ y k. k.1);
  }

  pub pairs_start : (a : List Mark) → PairsSpread table plan cells p j n 0 a a
  pairs_start a = record { each = λ d op S. grown-none (Hits (λ (z : ℕ). true) (PairTo d op n p.inputs.bindings a) 0) a (λ y k. omega (arith, k.low)) }

  pub pairs_next : {x : ℕ} {a b c : List Mark} → 0 < n → PairsSpread table plan cells p j n x a b → PairSpread table plan cells p x j n b c → PairsSpread table plan cells p j n (x + 1) a c
  pairs_next {x = x} {a = a} {b = b} {c = c} pos w g = record {
    each = λ d op S. scan-next (λ (z : ℕ). true) (PairTo d op n p.inputs.bindings a) (x + 1) x (x + 1) (w.each d op S)
        (grown_wider (PairTo d op n p.inputs.bindings a x) (g.each d op S) (λ y v z k. back d op S y v k)
        (λ y k. (ap layer_of (grown_stays (w.each d op S) x (omega (arith, k.0, pos))) ∙ k.0, k.1)))
        (sought-each (x + 1) (x + 1) (omega arith));
  }
    where
      back : (d : Dossier) (op : Operation) → StepSearches table plan cells p d op → (y : ℕ) (v : Mark) → PairMay d op j n b y v → PairMay d op j n a y v
      back d op S y v k = record {
        pair = k.pair;
        low = k.low;
        layer_is = older (PairMay d op j n a) (Hits (λ (z : ℕ). true) (PairTo d op n p.inputs.bindings a) x) n a b (w.each d op S) (λ y m h. h.may.from.layer_is) k.pair k.layer_is;
        may = k.may;
      }

  pub pairs-done : {x : ℕ} {a b : List Mark} (end : ℕ) → PairsSpread table plan cells p j n x a b → end ≤ x → PairsSpread table plan cells p j n end a b
  pairs-done {x = x} {a = a} end w h = record { each = λ d op S. scan-done (λ (z : ℕ). true) (PairTo d op n p.inputs.bindings a) end x (w.each d op S) h }

-- ---- operations

module _ (d : Dossier) (op : Operation) (j n : ℕ) (listed : get_elem? d.operations j ≡ some op) (a : List Mark) where
  may-from : (y : ℕ) (v : Mark) → PairMay d op j n a y v → MayFrom d n a y v
  may-from y v k =
      let f : MarkFrom j k.may.input k.pair n v = k.may.from in
      let g : Goes d j k.may.input k.pair y = record { operation = op; listed = listed; taken = k.may.low; before = k.low; leads = k.may.leads } in
      record {
        layer_is = f.layer_is;
        before = ap (λ (q : ℕ). layer_in a q) f.pair_is ∙ k.layer_is;
        goes = subst (λ (q : ℕ). Goes d v.operation v.input q y) (sym f.pair_is)
            (subst (λ (q : ℕ). Goes d v.operation q k.pair y) (sym f.inputs_is) (subst (λ (q : ℕ). Goes d q k.may.input k.pair y) (sym f.operation_is) g));
      }

  must-from : (many pairs : ℕ) → many ≡ length (bindings (inputs d op)) → pairs ≡ many_pairs d → (y : ℕ) → MustFrom d j n a y → Hits (λ (z : ℕ). true) (PairTo d op n many a) pairs y
  must-from many pairs em ep y k =
      let e : k.goes.operation ≡ op = some-injective k.goes.operation op (sym k.goes.listed ∙ listed) in
      let t : k.input < length (bindings (inputs d op)) = subst (λ (o : Operation). k.input < length (bindings (inputs d o))) e k.goes.taken in
      record {
        number = k.pair;
        low = omega (arith, ep, k.goes.before);
        hit = refl;
        there = (k.layer_is, record { number = k.input; low = omega (arith, em, t); hit = refl; there = subst (λ (o : Operation). Leads d o k.input k.pair y) e k.goes.leads });
      }

module _ {table rows firsts groups : List ℕ} {n : ℕ} where
  pub operation-spread : {plan cells : List ℕ} {p : Part} {j : ℕ} {a b : List Mark} → Prepared table rows firsts groups j plan cells p
      → PairsSpread table plan cells p j n (p.abstracts.bindings * p.concretes.bindings) a b → OperationSpread table rows firsts groups j n a b
  operation-spread {plan = plan} {cells = cells} {p = p} {j = j} {a = a} {b = b} f w = record { each = λ d R h. go d R (below-entry d.operations j h) }
    where
      go : (d : Dossier) → ReadingOf table rows firsts groups d → (op : Operation) × (get_elem? d.operations j ≡ some op) → Grown (MayFrom d n a) (MustFrom d j n a) a b
      go d R o =
          let S : StepSearches table plan cells p d o.0 = f.searches d o.0 R o.1 in
          grown_wider (MustFrom d j n a) (w.each d o.0 S) (λ y v z k. may-from d o.0 j n o.1 a y v k) (must-from d o.0 j n o.1 a p.inputs.bindings (p.abstracts.bindings * p.concretes.bindings) (ni-is S) (size-pairs S))

  pub layer-start : (a : List Mark) → LayerSpread table rows firsts groups 0 n a a
  layer-start a = record { each = λ d R h. grown-none (MustBelow d 0 n a) a (λ y k. omega (arith, k.low)) }

  pub layer-next : {j : ℕ} {a b c : List Mark} → 0 < n → LayerSpread table rows firsts groups j n a b → OperationSpread table rows firsts groups j n b c
      → LayerSpread table rows firsts groups (j + 1) n a c
  layer-next {j = j} {a = a} {b = b} {c = c} pos w g = record { each = go }
    where
      back : (d : Dossier) → Grown (MayFrom d n a) (MustBelow d j n a) a b → (y : ℕ) (v : Mark) → MayFrom d n b y v → MayFrom d n a y v
      back d u y v k = record {
        layer_is = k.layer_is;
        before = older (MayFrom d n a) (MustBelow d j n a) n a b u (λ y m h. h.layer_is) v.before k.before;
        goes = k.goes;
      }

      forth : (d : Dossier) → Grown (MayFrom d n a) (MustBelow d j n a) a b → (y : ℕ) → MustFrom d j n a y → MustFrom d j n b y
      forth d u y k = record {
        pair = k.pair;
        input = k.input;
        layer_is = ap layer_of (grown_stays u k.pair (omega (arith, k.layer_is, pos))) ∙ k.layer_is;
        goes = k.goes;
      }

      split : (d : Dossier) (y : ℕ) (k : MustBelow d (j + 1) n a y) → Dec (k.operation < j) → MustBelow d j n a y ⊎ MustFrom d j n a y
      split d y k (yes l) = inl (record { operation = k.operation; low = l; from = k.from })
      split d y k (no l) = let e : k.operation ≡ j = omega (arith, k.low) in inr (subst (λ (o : ℕ). MustFrom d o n a y) e k.from)

      go : (d : Dossier) → ReadingOf table rows firsts groups d → j + 1 ≤ length d.operations → Grown (MayFrom d n a) (MustBelow d (j + 1) n a) a c
      go d R h =
          let u : Grown (MayFrom d n a) (MustBelow d j n a) a b = w.each d R (omega arith) in
          grown_join (MustBelow d (j + 1) n a) u (grown_wider (MustFrom d j n a) (g.each d R (omega arith)) (λ y v z k. back d u y v k) (forth d u))
          (λ y k. split d y k (dec_lt k.operation j))

  pub layer-done : {j : ℕ} {a b : List Mark} (end : ℕ) → LayerSpread table rows firsts groups j n a b → j ≤ end → end ≤ j → LayerSpread table rows firsts groups end n a b
  layer-done {j = j} {a = a} {b = b} end w l h = let e : j ≡ end = omega arith in subst (λ (k : ℕ). LayerSpread table rows firsts groups k n a b) e w

-- room for as many as there are
pub pairs-fit : {table rows firsts groups : List ℕ} {pairs : ℕ} → PairsAre table rows firsts groups pairs → PairsFit table rows firsts groups
pairs-fit e = record { room = λ d R. omega (arith, e.room, e.are d R) }

-- what the pairs of an operation's part are asked with
pub pairs-asked : {table rows firsts groups plan cells : List ℕ} {p : Part} {j : ℕ} → PrepareAsked table rows firsts groups j → PairsFit table rows firsts groups
    → Prepared table rows firsts groups j plan cells p → PairsAsked table plan cells p
pairs-asked {j = j} q e f =
    let o : (op : Operation) × (get_elem? q.dossier.operations j ≡ some op) = below-entry q.dossier.operations j q.listed in
    record {
      steps = record { dossier = q.dossier; operation = o.0; searches = f.searches q.dossier o.0 q.reading o.1 };
      room = omega (arith, size-pairs (f.searches q.dossier o.0 q.reading o.1), e.room q.dossier q.reading);
    }

pub operation-few : {table rows firsts groups : List ℕ} {j : ℕ} → PrepareAsked table rows firsts groups j → j < 16
operation-few q = omega (arith, q.listed, q.reading.operations)

-- ---- layers

-- a mark is of a pair that there is
marked-inside : (d : Dossier) (n : ℕ) (a : List Mark) → Layered d n a → (k y : ℕ) → layer_in a y ≡ suc k → y < many_pairs d
marked-inside d n a w zero y e = (w.begins y e).inside
marked-inside d n a w (suc k) y e = (w.follows y k e).1.leads.inside

module _ {table rows firsts groups : List ℕ} {operations n : ℕ} where
  pub layers-next : {a b : List Mark} → 0 < n → Layers table rows firsts groups operations n a → LayerSpread table rows firsts groups operations n a b
      → Layers table rows firsts groups operations (n + 1) b
  layers-next {a = a} {b = b} pos w g =
      let e : suc n ≡ n + 1 = omega arith in
      record {
        each = λ d R h. subst (λ (k : ℕ). Layered d k b) e
            (layered-next d n pos a b (w.each d R h) (subst (λ (k : ℕ). Grown (MayFrom d n a) (MustBelow d k n a) a b) h (g.each d R (omega (arith, h)))));
      }

  pub layers-given-up : {a : List Mark} {whole : Bool} → Layers table rows firsts groups operations n a → whole ≡ false → ReachAnswers table rows firsts groups operations a whole
  layers-given-up {a = a} {whole = whole} w f = record { each = λ d R h. layered-reached d n a (w.each d R h) whole (λ e. absurd (true≢false (sym e ∙ f))) }

  pub layers-whole : {pairs r : ℕ} {a : List Mark} → 0 < n → PairsAre table rows firsts groups pairs → Layers table rows firsts groups operations n a → LayerCounted a pairs n r → r ≡ 0
      → ReachAnswers table rows firsts groups operations a true
  layers-whole {pairs = pairs} {a = a} pos q w c last = record { each = λ d R h. layered-reached d n a (w.each d R h) true (λ e y z. none d R h y z n refl) }
    where
      none : (d : Dossier) → ReadingOf table rows firsts groups d → operations ≡ length d.operations → (y : ℕ) → layer_in a y ≡ n → (k : ℕ) → n ≡ k → ⊥
      none d R h y z zero e = omega arith
      none d R h y z (suc k) e = c.none last y (omega (arith, q.are d R, marked-inside d n a (w.each d R h) k y (z ∙ e))) z
