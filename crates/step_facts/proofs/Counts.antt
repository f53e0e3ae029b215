-- How many numbers pass a test, and sums over those that pass. Assumes nothing.
use mathlib.Core.Path.{◌≡◌, refl, sym, ap, ap₂, subst, ◌∙◌}
use mathlib.Core.Bool.{Bool, true, false}
use mathlib.Core.List.{List}
use Prim.Native.Nat.{ℕ, zero, suc, ◌+◌, ◌*◌, ◌<◌, ◌≤◌}
use native.Mathlib.Nat.{zero-add, add_comm, eq-or-lt_of_le}
use native.Mathlib.Omega.{arith}
use mathlib.Core.Logic.{◌⊎◌, inl, inr}
use mir.Val.{bool_byte}
use Rattle.form.specs.Tree.{Operation, Dossier}
use Rattle.points.specs.Searches.{Sought}
use Rattle.plans.specs.declared.Part.{Part}
use Rattle.state_facts.specs.PartTestsPartsByNumber.{abstract_state, ready_at}
use Rattle.step_searches.specs.StepPromises.{StepsAsked, ForSteps, Prepared}
use Rattle.step_facts.specs.declared.totals.Counted.{Counted}
use Rattle.step_facts.specs.declared.totals.Counted.TheVariants.{States, Pairs, Promises}
use Rattle.step_facts.specs.FactPromises.{if_so, weight, tally, Summed, one, state_test, related_test, ready_test, adds, AddedIs, TotalIs, AbleIs}
use Rattle.step_searches.proofs.PartSizes.{na-is, nc-is, ni-is}
use Rattle.step_facts.proofs.AskedFacts.{sizes-of, unlisted}
use Rattle.sets.proofs.MaskBits.{byte_low}

-- ---- sums

module _ (s : ℕ → Bool) (f : ℕ → ℕ) where
  weight-next : (n : ℕ) → s n ≡ true → weight s f (suc n) ≡ weight s f n + f n
  unfolding weight
  weight-next n e = ap (λ (b : Bool). if_so b (f n) + weight s f n) e ∙ add_comm (f n) (weight s f n)

  weight-skip : (n : ℕ) → s n ≡ false → weight s f (suc n) ≡ weight s f n
  unfolding weight
  weight-skip n e = ap (λ (b : Bool). if_so b (f n) + weight s f n) e ∙ zero-add (weight s f n)

  -- numbers that do not pass add nothing
  weight-over : (a n : ℕ) → a ≤ n → ((k : ℕ) → a ≤ k → k < n → s k ≡ false) → weight s f n ≡ weight s f a
  weight-over a zero h past = ap (weight s f) (low a h)
    where
      low : (a : ℕ) → a ≤ 0 → 0 ≡ a
      low a h = omega arith
  weight-over a (suc n) h past = go (eq-or-lt_of_le h) (λ l. weight-over a n l (λ k g m. past k g (omega arith)))
    where
      go : (a ≡ suc n) ⊎ (a < suc n) → (a ≤ n → weight s f n ≡ weight s f a) → weight s f (suc n) ≡ weight s f a
      go (inl e) on = ap (weight s f) (sym e)
      go (inr l) on = weight-skip n (past n (omega arith) (omega arith)) ∙ on (omega arith)

  weight-none : (a : ℕ) → ((k : ℕ) → 0 ≤ k → k < a → s k ≡ false) → 0 ≡ weight s f a
  unfolding weight
  weight-none a past = sym (weight-over 0 a (omega arith) past)

  weight-to : (n x a end next : ℕ) → n ≡ weight s f a → s a ≡ true → x ≡ f a → Sought s (a + 1) end next → n + x ≡ weight s f next
  weight-to n x a end next e t q w =
      let z : suc a ≡ a + 1 = omega arith in
      ap₂ (λ (u v : ℕ). u + v) e q ∙ sym (weight-next a t) ∙ ap (weight s f) z ∙ sym (weight-over (a + 1) next w.low w.past)

-- ---- loops over the numbers that pass

pub record Summing (table plan cells : List ℕ) (p : Part) (s : Dossier → Operation → ℕ → Bool) (f : Dossier → Operation → ℕ → ℕ) (end n a : ℕ) : Type 0 where
  pub high : a ≤ end
  pub few : n ≤ 4096 * a
  pub sums : ForSteps table plan cells p (λ (d : Dossier) (op : Operation). n ≡ weight (s d op) (f d op) a)
  pub here : ForSteps table plan cells p (λ (d : Dossier) (op : Operation). a < end → s d op a ≡ true)

module _ {table plan cells : List ℕ} {p : Part} (s : Dossier → Operation → ℕ → Bool) (f : Dossier → Operation → ℕ → ℕ) (q : StepsAsked table plan cells p) where
  pub summing_start : {end a : ℕ} → ForSteps table plan cells p (λ (d : Dossier) (op : Operation). Sought (s d op) 0 end a) → Summing table plan cells p s f end 0 a
  summing_start {end} {a} w = record {
    high = (w q.dossier q.operation q.searches).high;
    few = omega arith;
    sums = λ d op x. weight-none (s d op) (f d op) a (w d op x).past;
    here = λ d op x. (w d op x).found;
  }

  pub summing-next : {end n a x m next : ℕ} → Summing table plan cells p s f end n a → a < end → x ≤ 4096 → m ≡ n + x
      → ForSteps table plan cells p (λ (d : Dossier) (op : Operation). x ≡ f d op a)
      → ForSteps table plan cells p (λ (d : Dossier) (op : Operation). Sought (s d op) (a + 1) end next) → Summing table plan cells p s f end m next
  summing-next {end} {n} {a} {x} {m} {next} u l h e g w = record {
    high = (w q.dossier q.operation q.searches).high;
    few = omega (arith, u.few, (w q.dossier q.operation q.searches).low);
    sums = λ d op y. e ∙ weight-to (s d op) (f d op) n x a end next (u.sums d op y) (u.here d op y l) (g d op y) (w d op y);
    here = λ d op y. (w d op y).found;
  }

  pub summing-done : {end n a : ℕ} → Summing table plan cells p s f end n a → end ≤ a → Summed table plan cells p s f end n
  summing-done {end} {n} {a} u h =
      let e : a ≡ end = omega (arith, u.high) in
      record { is = λ d op x. u.sums d op x ∙ ap (weight (s d op) (f d op)) e }

-- no more pass than there are
tally-low : (s : ℕ → Bool) (n : ℕ) → tally s n ≤ n
unfolding weight
tally-low s zero = omega arith
tally-low s (suc n) = omega (arith, tally-low s n, small (s n))
  where
    small : (b : Bool) → if_so b 1 ≤ 1
    small true = omega arith
    small false = omega arith

pub few-pass : {table plan cells : List ℕ} {p : Part} (s : Dossier → Operation → ℕ → Bool) {end r : ℕ} → StepsAsked table plan cells p → Summed table plan cells p s one end r
    → r ≤ end
few-pass s {end} q w = subst (λ (n : ℕ). n ≤ end) (sym (w.is q.dossier q.operation q.searches)) (tally-low (s q.dossier q.operation) end)

-- ---- inputs one after the other

tally-byte : (s : ℕ → Bool) (n i m : ℕ) (b : Bool) → n ≡ tally s i → b ≡ s i → m ≡ i + 1 → n + bool_byte b ≡ tally s m
unfolding weight
tally-byte s n i m b e f g =
    let z : suc i ≡ m = omega arith in
    add_comm n (bool_byte b) ∙ ap₂ (λ (u v : ℕ). u + v) (byte b ∙ ap (λ (t : Bool). if_so t 1) f) e ∙ ap (tally s) z
  where
    byte : (b : Bool) → bool_byte b ≡ if_so b 1
    byte true = refl
    byte false = refl

pub record ReadyTo (table plan cells : List ℕ) (p : Part) (a n i : ℕ) : Type 0 where
  pub high : i ≤ p.inputs.bindings
  pub few : n ≤ i
  pub sums : ForSteps table plan cells p (λ (d : Dossier) (op : Operation). n ≡ tally (ready_at d op a) i)

module _ {table plan cells : List ℕ} {p : Part} {a : ℕ} where
  pub ready-start : ReadyTo table plan cells p a 0 0
  unfolding weight
  ready-start = record { high = omega arith; few = omega arith; sums = λ d op x. refl }

  pub ready-next : {n i m y : ℕ} {b : Bool} → ReadyTo table plan cells p a n i → i < p.inputs.bindings → AbleIs table plan cells p true a i b → y ≡ bool_byte b → m ≡ i + 1
      → ReadyTo table plan cells p a (n + y) m
  ready-next {n} {i} {m} {y} {b} w h r u e = record {
    high = omega arith;
    few = omega (arith, w.few, u, byte_low b);
    sums = λ d op x. ap (λ (z : ℕ). n + z) u ∙ tally-byte (ready_at d op a) n i m b (w.sums d op x) (r.is d op x) e;
  }

  pub ready-done : {n i : ℕ} → ReadyTo table plan cells p a n i → p.inputs.bindings ≤ i → Summed table plan cells p (ready_test a) one p.inputs.bindings n
  ready-done {n} {i} w h = let e : i ≡ p.inputs.bindings = omega (arith, w.high) in record { is = λ d op x. w.sums d op x ∙ ap (tally (ready_at d op a)) e }

-- ---- what an abstract state adds

module _ {table plan cells : List ℕ} {p : Part} {c : Counted} {a : ℕ} where
  pub adds-one : c ≡ States → AddedIs table plan cells p c a 1
  adds-one e = subst (λ (z : Counted). AddedIs table plan cells p z a 1) (sym e) (record { is = λ d op x. refl; few = omega arith })

  pub adds-pairs : {r : ℕ} → c ≡ Pairs → StepsAsked table plan cells p → Summed table plan cells p (related_test a) one p.concretes.bindings r → AddedIs table plan cells p c a r
  adds-pairs {r} e q w =
      subst (λ (z : Counted). AddedIs table plan cells p z a r) (sym e)
      (record { is = λ d op x. w.is d op x; few = omega (arith, few-pass (related_test a) q w, (sizes-of q).1.1) })

  pub adds-promises : {r : ℕ} → c ≡ Promises → StepsAsked table plan cells p → Summed table plan cells p (ready_test a) one p.inputs.bindings r → AddedIs table plan cells p c a r
  adds-promises {r} e q w =
      subst (λ (z : Counted). AddedIs table plan cells p z a r) (sym e)
      (record { is = λ d op x. w.is d op x; few = omega (arith, few-pass (ready_test a) q w, (sizes-of q).2.1) })

-- ---- of every dossier whose reading the arrays are

module _ {table rows firsts groups : List ℕ} {operations j : ℕ} {c : Counted} where
  pub no_total : operations ≤ j → TotalIs table rows firsts groups operations j c 0
  no_total h = record { is = λ d op R m e. absurd (unlisted d h m e) }

  pub total-is : {plan cells : List ℕ} {p : Part} {r : ℕ} → Prepared table rows firsts groups j plan cells p
      → Summed table plan cells p state_test (adds c p.concretes.bindings p.inputs.bindings) p.abstracts.bindings r → TotalIs table rows firsts groups operations j c r
  total-is w u = record {
    is = λ d op R m e. (let x = w.searches d op R e in
        u.is d op x ∙ (λ t. weight (abstract_state d) (λ (a : ℕ). adds c (nc-is x t) (ni-is x t) d op a) (na-is x t)));
  }
