-- Remembered conclusions: whatever has the key and the mark of a conclusion has the same conclusion, so that a mark may be made for one and found for another. Assumes nothing.
use mathlib.Core.Path.{◌≡◌, refl, sym, ap, subst, ◌∙◌}
use mathlib.Core.Bool.{Bool, true, false}
use mathlib.Core.List.{List}
use Prim.Native.Nat.{ℕ, ◌+◌, ◌*◌, ◌/◌, ◌%◌, ◌<◌}
use native.Mathlib.Decide.{ℕ_discrete}
use native.Mathlib.Omega.{arith}
use lib.Arith.{digits_div, digits_mod}
use lib.ListN.{get_or, length, set, replicate, length-set, length-replicate}
use lib.Seq.{get_or-set_same, get_or-set_other}
use lib.IntN.{ℤ}
use Rattle.memo.proofs.Memos.{all-zero}
use Rattle.plans.specs.declared.Part.{Part}
use Rattle.plans.specs.declared.Conclusion.{Conclusion}
use Rattle.plans.specs.declared.Conclusion.TheVariants.{OfState, OfStep}
use Rattle.nest_steps.specs.declared.known.Numbers.{Numbers}
use Rattle.nest_steps.specs.PartTests.{PartTests}
use Rattle.nest_steps.specs.NestPromises.{Groups, DependsOn, Nest, MetAnswers}
use Rattle.nest_steps.specs.Remembering.{key_at, mark_at, key_of, mark_of, met_at, Inside, Known, Remembered, Noted, no_place, noted, BindingAsked, AgainAnswers}

-- ---- keys and marks

-- two numbers with the same digits
same-high : (n x y e f : ℕ) → e < n → f < n → x * n + e ≡ y * n + f → x ≡ y
same-high n x y e f h g q = sym (digits_div x h) ∙ ap (λ (t : ℕ). t / n) q ∙ digits_div y g

same_low : (n x y e f : ℕ) → e < n → f < n → x * n + e ≡ y * n + f → e ≡ f
same_low n x y e f h g q = sym (digits_mod x h) ∙ ap (λ (t : ℕ). t % n) q ∙ digits_mod y g

module _ (p : Part) (b : Numbers) {t : Conclusion} (e : p.conclusion ≡ t) where
  pub key-by : key_of p b ≡ key_at t p b
  key-by = ap (λ (u : Conclusion). key_at u p b) e

  pub mark-by : mark_of p b ≡ mark_at t b
  mark-by = ap (λ (u : Conclusion). mark_at u b) e

-- no mark is 0
mark-some : (t : Conclusion) (b : Numbers) → 0 < mark_at t b
unfolding mark_at
mark-some OfState b = omega arith
mark-some OfStep b = omega arith

met_by : (T : PartTests) (a c i o k a' i' o' k' : ℕ) → a ≡ a' → i ≡ i' → o ≡ o' → k ≡ k' → T.met a c i o k ≡ T.met a' c i' o' k'
met_by T a c i o k a' i' o' k' h₁ h₂ h₃ h₄ = cc

module _ {table plan cells : List ℕ} {p : Part} {G : Groups} {T : PartTests} (N : Nest table plan cells p G T) where
  -- the same key and the same mark: the same conclusion
  alike-step : (b d : Numbers) → Inside p b → Inside p d → DependsOn OfStep T → key_at OfStep p b ≡ key_at OfStep p d → mark_at OfStep b ≡ mark_at OfStep d → met_at T b ≡ met_at T d
  unfolding key_at mark_at DependsOn
  alike-step b d h g q e m =
      let a_is : b.a ≡ d.a = omega (arith, m) in
      let front : b.i * p.outputs.bindings + b.o ≡ d.i * p.outputs.bindings + d.o = same-high p.primes.bindings _ _ b.k d.k h.low_k.0 g.low_k.0 e in
      met_by T b.a b.c b.i b.o b.k d.a d.i d.o d.k a_is
      (same-high p.outputs.bindings b.i d.i b.o d.o h.low_o.0 g.low_o.0 front)
      (same_low p.outputs.bindings b.i d.i b.o d.o h.low_o.0 g.low_o.0 front)
      (same_low p.primes.bindings (b.i * p.outputs.bindings + b.o) (d.i * p.outputs.bindings + d.o) b.k d.k h.low_k.0 g.low_k.0 e)
      ∙ q d.a b.c d.c d.i d.o d.k

  alike-state : (b d : Numbers) → Inside p b → Inside p d → DependsOn OfState T → key_at OfState p b ≡ key_at OfState p d → met_at T b ≡ met_at T d
  unfolding key_at DependsOn
  alike-state b d h g q e =
      let key : b.c * p.inputs.bindings + b.i ≡ d.c * p.inputs.bindings + d.i = omega (arith, e) in
      ap (λ (t : ℕ). T.met b.a t b.i b.o b.k) (same-high p.inputs.bindings b.c d.c b.i d.i h.low_i.0 g.low_i.0 key)
      ∙ ap (λ (t : ℕ). T.met b.a d.c t b.o b.k) (same_low p.inputs.bindings b.c d.c b.i d.i h.low_i.0 g.low_i.0 key)
      ∙ q b.a d.a d.c d.i b.o d.o b.k d.k

  alike : (b d : Numbers) → Inside p b → Inside p d → key_of p b ≡ key_of p d → mark_of p b ≡ mark_of p d → met_at T b ≡ met_at T d
  alike b d h g e m = go p.conclusion N.depends e m
    where
      go : (t : Conclusion) → DependsOn t T → key_at t p b ≡ key_at t p d → mark_at t b ≡ mark_at t d → met_at T b ≡ met_at T d
      go OfState q k l = alike-state b d h g q k
      go OfStep q k l = alike-step b d h g q k l

  -- one more
  known_more : (known : List ℕ) (b : Numbers) → Inside p b → Known p T known → key_of p b < length known → met_at T b ≡ true
      → Known p T (set known (key_of p b) (mark_of p b))
  known_more known b h w l m = record { met = λ d g e. go d g e (ℕ_discrete (key_of p d) (key_of p b)) }
    where
      go : (d : Numbers) → Inside p d → get_or (set known (key_of p b) (mark_of p b)) (key_of p d) 0 ≡ mark_of p d → Dec (key_of p d ≡ key_of p b) → met_at T d ≡ true
      go d g e (yes q) =
          alike d b g h q
          (sym e ∙ ap (λ (t : ℕ). get_or (set known (key_of p b) (mark_of p b)) t 0) q ∙ get_or-set_same known (key_of p b) (mark_of p b) 0 l)
          ∙ m
      go d g e (no q) = w.met d g (sym (get_or-set_other known (key_of p b) (key_of p d) (mark_of p b) 0 q) ∙ e)

-- nothing is known at first
pub none-known : {table plan cells : List ℕ} {p : Part} (n : ℕ) → n ≡ 65536 → Remembered table plan cells p (replicate n 0)
none-known {p = p} n e = record { long = length-replicate n 0 ∙ e; each = λ G T N. record { met = λ b h q. absurd (none b q) } }
  where
    none : (b : Numbers) → get_or {A = ℕ} (replicate n 0) (key_of p b) 0 ≡ mark_of p b → ⊥
    none b q = omega (arith, mark-some p.conclusion b, all-zero n (key_of p b))

module _ {table plan cells : List ℕ} {p : Part} {b : Numbers} {before : List (List ℤ)} {known : List ℕ} (q : BindingAsked table plan cells p b before)
    (w : Remembered table plan cells p known) where
  -- it is known
  pub known-again : get_or known (key_of p b) 0 ≡ mark_of p b → AgainAnswers table plan cells p b before before known true
  known-again e =
      record {
        is = λ G T N. (w.each G T N).met b q.inside e;
        left = λ G T δ N s. record { point = δ; shows = s; beside = record { same = λ t n. refl }; number = λ h. absurd (nothing h) };
        remembered = w;
      }
    where
      nothing : 0 < 0 → ⊥
      nothing h = omega arith

  -- what was found, of this binding
  found_here : {after : List (List ℤ)} {r : Bool} → MetAnswers table plan cells p before after r → (G : Groups) (T : PartTests) → Nest table plan cells p G T → met_at T b ≡ r
  found_here m G T N =
      let s = q.each G T N in
      sym (m.is G T s.point N s.shows ∙ by-numbers T _ _ _ _ _ b.a b.c b.i b.o b.k s.abstract_is s.concrete_is s.input_is s.output_is s.prime_is)
    where
      by-numbers : (T : PartTests) (a b c d e a' b' c' d' e' : ℕ) → a ≡ a' → b ≡ b' → c ≡ c' → d ≡ d' → e ≡ e' → T.met a b c d e ≡ T.met a' b' c' d' e'
      by-numbers T a b c d e a' b' c' d' e' h₁ h₂ h₃ h₄ h₅ = cc

  pub failed-here : {after : List (List ℤ)} {r : Bool} → MetAnswers table plan cells p before after r → r ≡ false → AgainAnswers table plan cells p b before after known false
  failed-here m e = record { is = λ G T N. found_here m G T N ∙ e; left = m.left; remembered = w }

  pub noted_here : {after : List (List ℤ)} {r : Bool} {key mark : ℕ} {more : List ℕ} → MetAnswers table plan cells p before after r → r ≡ true → key ≡ key_of p b → mark ≡ mark_of p b
      → Noted key mark known more → AgainAnswers table plan cells p b before after more true
  noted_here {key = key} {mark = mark} {more = more} m e k l n =
      record { is = truth; left = m.left; remembered = go (subst (λ (x : ℕ). Noted x (mark_of p b) known more) k (subst (λ (x : ℕ). Noted key x known more) l n)) }
    where
      truth : (G : Groups) (T : PartTests) → Nest table plan cells p G T → met_at T b ≡ true
      truth G T N = found_here m G T N ∙ e

      go : {l : List ℕ} → Noted (key_of p b) (mark_of p b) known l → Remembered table plan cells p l
      go no_place = w
      go (noted h) =
          record {
            long = length-set known (key_of p b) (mark_of p b) ∙ w.long;
            each = λ G T N. known_more N known b q.inside (w.each G T N) h (truth G T N);
          }
