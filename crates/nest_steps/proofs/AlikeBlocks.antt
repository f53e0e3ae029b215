-- Alike blocks: where one passes the other does, and so does every one with the same keys. Assumes nothing.
use mathlib.Core.Path.{◌≡◌, refl, sym, ap, ◌∙◌}
use mathlib.Core.Bool.{Bool, true, false, not, ◌&&◌, ◌||◌}
use mathlib.Core.List.{List}
use Prim.Native.Nat.{ℕ, ◌+◌, ◌<◌}
use native.Mathlib.Decide.{ℕ_discrete}
use native.Mathlib.Omega.{arith}
use lib.ListN.{get_or, length, set}
use lib.Seq.{get_or-set_same, get_or-set_other}
use Rattle.plans.specs.declared.Part.{Part}
use Rattle.nest_steps.specs.PartTests.{PartTests, passes_at}
use Rattle.nest_steps.specs.PassedBlocks.{PairPasses, WholePasses, PairsAlike, WholesAlike, PairKeys, WholeKeys, SeenPairs, SeenWholes}

-- the premises of the first binding but for the inner ones hold, and it passes: whatever has the same inner tests passes
passes-too : (p q r s m : Bool) → not (true && true && r && s) || m ≡ true → not (p && q && r && s) || m ≡ true
passes-too true true r s m e = e
passes-too true false r s m e = refl
passes-too false q r s m e = refl

-- the same where the second premise is the same, and may be false
passes-either : (p q r s m : Bool) → not (true && q && r && s) || m ≡ true → not (p && q && r && s) || m ≡ true
passes-either true q r s m e = e
passes-either false q r s m e = refl

module _ {p : Part} {T : PartTests} where
  pub pair-too : {a c b d : ℕ} → T.state a ≡ true → T.related a c ≡ true → PairsAlike p T a c b d → PairPasses p T a c → PairPasses p T b d
  unfolding passes_at
  pair-too {a} {c} {b} {d} e f w q =
      record {
        each = λ i o k hi ho hk.
            ap (λ (x : Bool). not (T.state b && T.related b d && x && T.steps d i o k) || T.met b d i o k) (w.ready i hi)
            ∙ ap (λ (x : Bool). not (T.state b && T.related b d && T.ready a i && x) || T.met b d i o k) (w.steps i o k hi ho hk)
            ∙ ap (λ (x : Bool). not (T.state b && T.related b d && T.ready a i && T.steps c i o k) || x) (w.met i o k hi ho hk)
            ∙ passes-too (T.state b) (T.related b d) (T.ready a i) (T.steps c i o k) (T.met a c i o k)
            (sym (ap (λ (x : Bool). not (x && T.related a c && T.ready a i && T.steps c i o k) || T.met a c i o k) e
            ∙ ap (λ (x : Bool). not (true && x && T.ready a i && T.steps c i o k) || T.met a c i o k) f) ∙ q.each i o k hi ho hk);
      }

  pub whole-too : {a b : ℕ} → T.state a ≡ true → WholesAlike p T a b → WholePasses p T a → WholePasses p T b
  unfolding passes_at
  whole-too {a} {b} e w q =
      record {
        each = λ c hc. record {
          each = λ i o k hi ho hk.
              let v = w.pairs c hc in
              ap (λ (x : Bool). not (T.state b && x && T.ready b i && T.steps c i o k) || T.met b c i o k) (w.related c hc)
              ∙ ap (λ (x : Bool). not (T.state b && T.related a c && x && T.steps c i o k) || T.met b c i o k) (v.ready i hi)
              ∙ ap (λ (x : Bool). not (T.state b && T.related a c && T.ready a i && T.steps c i o k) || x) (v.met i o k hi ho hk)
              ∙ passes-either (T.state b) (T.related a c) (T.ready a i) (T.steps c i o k) (T.met a c i o k)
              (sym (ap (λ (x : Bool). not (x && T.related a c && T.ready a i && T.steps c i o k) || T.met a c i o k) e) ∙ (q.each c hc).each i o k hi ho hk);
        };
      }

  -- one mark more
  pub pair-seen : {ka kc : ℕ → ℕ} {seen : List ℕ} (a c : ℕ) → PairKeys p T ka kc → SeenPairs p T ka kc seen → a < p.abstracts.bindings → c < p.concretes.bindings → kc c < length seen
      → T.state a ≡ true → T.related a c ≡ true → PairPasses p T a c → SeenPairs p T ka kc (set seen (kc c) (ka a + 1))
  pair-seen {ka} {kc} {seen} a c keys w ha hc l e f q = record { passes = λ b d hb hd m. go b d hb hd m (ℕ_discrete (kc d) (kc c)) }
    where
      go : (b d : ℕ) → b < p.abstracts.bindings → d < p.concretes.bindings → get_or (set seen (kc c) (ka a + 1)) (kc d) 0 ≡ ka b + 1 → Dec (kc d ≡ kc c) → PairPasses p T b d
      go b d hb hd m (yes s) =
          let t : ka a + 1 ≡ ka b + 1 = sym (get_or-set_same seen (kc c) (ka a + 1) 0 l) ∙ ap (λ (x : ℕ). get_or (set seen (kc c) (ka a + 1)) x 0) (sym s) ∙ m in
          pair-too e f (keys.alike a c b d ha hc hb hd (omega (arith, t)) s) q
      go b d hb hd m (no n) = w.passes b d hb hd (sym (get_or-set_other seen (kc c) (kc d) (ka a + 1) 0 n) ∙ m)

  pub whole-seen : {ka : ℕ → ℕ} {done : List ℕ} (a : ℕ) → WholeKeys p T ka → SeenWholes p T ka done → a < p.abstracts.bindings → T.state a ≡ true → WholePasses p T a
      → SeenWholes p T ka (set done (ka a) 1)
  whole-seen {ka} {done} a keys w ha e q = record { passes = λ b hb m. go b hb m (ℕ_discrete (ka b) (ka a)) }
    where
      go : (b : ℕ) → b < p.abstracts.bindings → get_or (set done (ka a) 1) (ka b) 0 ≡ 1 → Dec (ka b ≡ ka a) → WholePasses p T b
      go b hb m (yes s) = whole-too e (keys.alike a b ha hb s) q
      go b hb m (no n) = w.passes b hb (sym (get_or-set_other done (ka a) (ka b) 1 0 n) ∙ m)
