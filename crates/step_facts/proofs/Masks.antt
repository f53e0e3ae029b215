-- The inputs at which a side can step, as bits; those of all concrete states. Assumes nothing.
use mathlib.Core.Path.{◌≡◌, refl, sym, ap, ap₂, subst, subst₂, ◌∙◌}
use mathlib.Core.Bool.{Bool, true, false}
use mathlib.Core.Logic.{◌⊎◌, ⊎_elim}
use mathlib.Core.List.{List, []}
use Prim.Native.Nat.{ℕ, ◌+◌, ◌-◌, ◌*◌, ◌/◌, ◌%◌, ◌<◌, ◌≤◌, ◌^◌}
use native.Mathlib.Nat.{eq-or-lt_of_le, mod-lt, div-lt_iff_lt-mul}
use native.Mathlib.Omega.{arith}
use mir.Val.{bool_byte}
use Rattle.std.specs.Prelude.{Option, Some, None, IfSome, unwrap_or, is_some}
use lib.Arith.{digits_lt, digits_div, digits_mod}
use lib.Dec.{ltb}
use lib.ListN.{get_or, length, set, length-set}
use lib.Seq.{get_or-set_same, get_or-set_other}
use borrow.Author.Tests.{lt-ltb, le-ltb, ltb-true, ltb-false}
use Rattle.lexical.specs.Lists.{any}
use Rattle.form.specs.Tree.{Operation, Dossier}
use Rattle.meaning.specs.Meaning.{Binding}
use Rattle.meaning.specs.Bindings.{Among}
use Rattle.meaning.specs.Operations.{abstract_bindings, concrete_bindings, output_bindings}
use Rattle.meaning.proofs.Members.{any-put, none_any}
use Rattle.meaning.proofs.Places.{member-at, place-of}
use Rattle.sets.specs.Sets.{has}
use Rattle.sets.proofs.MaskBits.{Bits, no-bits, more-bits, bits-fit}
use Rattle.points.specs.Searches.{Sought}
use Rattle.plans.specs.declared.Part.{Part}
use Rattle.state_facts.specs.PartTestsPartsByNumber.{nth, abstractly, concretely, ready_at, stepping}
use Rattle.step_searches.specs.StepPromises.{StepSearches, StepsAsked, ForSteps, AbstractStepFound, ConcreteStepFound}
use Rattle.step_facts.specs.FactPromises.{able_at, states_of, AbleIs, BitsAre, MasksAre}
use Rattle.step_searches.proofs.PartSizes.{na-is, nc-is, nq-is}
use Rattle.step_facts.proofs.AskedFacts.{sizes-of}

-- ---- a search among pairs of bindings comes to an end exactly if no pair passes

module _ (F : Binding → Binding → Bool) (os us : List Binding) (r : ℕ) where
  abbrev pair_test : ℕ → Bool
  pair_test x = F (nth os (x / length us)) (nth us (x % length us))

  pub some_pair : 0 < length us → Sought pair_test 0 (length os * length us) r
      → ltb r (length os * length us) ≡ any (λ (o : Binding). any (F o) us) os
  some_pair h s = go (ltb r (length os * length us)) refl
    where
      inner : Binding → Bool
      inner o = any (F o) us

      none : length os * length us ≤ r → (o : Binding) → Among o os → (u : Binding) → Among u us → F o u ≡ false
      none l o m u n =
          let (k, kl, ke) = place-of o os [] m in
          let (j, jl, je) = place-of u us [] n in
          let low : k * length us + j < length os * length us = digits_lt kl jl in
          ap₂ F (sym (ap (λ (x : ℕ). nth os x) (digits_div k jl) ∙ ke)) (sym (ap (λ (x : ℕ). nth us x) (digits_mod k jl) ∙ je))
          ∙ s.past (k * length us + j) (omega arith) (omega arith)

      go : (t : Bool) → ltb r (length os * length us) ≡ t → t ≡ any (λ (o : Binding). any (F o) us) os
      go true e =
          let l : r < length os * length us = ltb-true r (length os * length us) e in
          sym (any-put (λ (o : Binding). any (F o) us) (nth os (r / length us)) os (member-at os (r / length us) [] ((div-lt_iff_lt-mul h).1 l))
          (any-put (F (nth os (r / length us))) (nth us (r % length us)) us (member-at us (r % length us) [] (mod-lt r h)) (s.found l)))
      go false e =
          let l : length os * length us ≤ r = ltb-false r (length os * length us) e in
          sym (none_any (λ (o : Binding). any (F o) us) os (λ o m. none_any (F o) us (λ u n. none l o m u n)))

-- the same by the numbers of a part
any-found : (F : Binding → Binding → Bool) (os us : List Binding) (r : ℕ) {m n : ℕ} → m ≡ length us → n ≡ length os → 0 < m
    → Sought (λ (x : ℕ). F (nth os (x / m)) (nth us (x % m))) 0 (n * m) r → ltb r (n * m) ≡ any (λ (o : Binding). any (F o) us) os
any-found F os us r e f =
    subst₂ (λ (m n : ℕ). 0 < m → Sought (λ (x : ℕ). F (nth os (x / m)) (nth us (x % m))) 0 (n * m) r → ltb r (n * m) ≡ any (λ (o : Binding). any (F o) us) os) (sym e) (sym f)
    (some_pair F os us r)

-- ---- can a side step with these inputs?

pub low : (p : Part) {side b : Bool} {s : ℕ} → side ≡ b → s < states_of p side → s < states_of p b
low p {s = s} e h = subst (λ (b : Bool). s < states_of p b) e h

-- what is found is below the end
some-below : (n : ℕ) (o : Option ℕ) → IfSome o (λ (k : ℕ). k < n) → ltb (unwrap_or o n) n ≡ is_some o
some-below n None l = le-ltb n n (omega arith)
some-below n (Some k) l = lt-ltb k n l

module _ {table plan cells : List ℕ} {p : Part} {s i : ℕ} {side : Bool} where
  pub abstract-able : (o : Option ℕ) {r : Bool} → r ≡ is_some o → side ≡ true → StepsAsked table plan cells p → IfSome o (λ (k : ℕ). k < p.outputs.bindings * p.abstracts.bindings)
      → AbstractStepFound table plan cells p s i 0 (unwrap_or o (p.outputs.bindings * p.abstracts.bindings)) → AbleIs table plan cells p side s i r
  unfolding ready_at
  abstract-able o t e q l w = record {
    is = λ d op x. t ∙ sym (some-below (p.outputs.bindings * p.abstracts.bindings) o l) ∙ any-found (abstractly d op s i) (output_bindings d op) (abstract_bindings d) (unwrap_or o (p.outputs.bindings * p.abstracts.bindings)) (na-is x) (nq-is x) (sizes-of q).0.0 (w.sought d op x) ∙ ap (λ (b : Bool). able_at d op b s i) (sym e);
  }

  pub concrete-able : (o : Option ℕ) {r : Bool} → r ≡ is_some o → side ≡ false → StepsAsked table plan cells p → IfSome o (λ (k : ℕ). k < p.outputs.bindings * p.concretes.bindings)
      → ConcreteStepFound table plan cells p s i 0 (unwrap_or o (p.outputs.bindings * p.concretes.bindings)) → AbleIs table plan cells p side s i r
  unfolding stepping
  concrete-able o t e q l w = record {
    is = λ d op x. t ∙ sym (some-below (p.outputs.bindings * p.concretes.bindings) o l) ∙ any-found (concretely d op s i) (output_bindings d op) (concrete_bindings d) (unwrap_or o (p.outputs.bindings * p.concretes.bindings)) (nc-is x) (nq-is x) (sizes-of q).1.0 (w.sought d op x) ∙ ap (λ (b : Bool). able_at d op b s i) (sym e);
  }

-- ---- the bits of all inputs, the last one's first

-- those of the inputs from i on
pub record BitsFrom (table plan cells : List ℕ) (p : Part) (side : Bool) (s m i : ℕ) : Type 0 where
  pub high : i ≤ p.inputs.bindings
  pub bits : ForSteps table plan cells p (λ (d : Dossier) (op : Operation). Bits (λ (j : ℕ) (b : Bool). b ≡ able_at d op side s j) i (p.inputs.bindings - i) m)

module _ {table plan cells : List ℕ} {p : Part} {side : Bool} {s : ℕ} where
  pub bits-start : BitsFrom table plan cells p side s 0 p.inputs.bindings
  bits-start = record { high = omega arith; bits = λ d op x. no-bits (omega arith) }

  pub bits-next : {m i x : ℕ} {b : Bool} → BitsFrom table plan cells p side s m i → 0 < i → AbleIs table plan cells p side s (i - 1) b → x ≡ bool_byte b
      → BitsFrom table plan cells p side s (2 * m + x) (i - 1)
  bits-next {b = b} w h a u =
      record { high = omega (arith, w.high); bits = λ d op y. more-bits b (omega arith) (omega (arith, w.high)) (a.is d op y) u (w.bits d op y) }

  -- the number stays small
  pub bits_small : {m i : ℕ} → StepsAsked table plan cells p → BitsFrom table plan cells p side s m i → 0 < i → 2 * m + 1 < 2 ^ 64
  bits_small q w h = bits-fit (w.bits q.dossier q.operation q.searches) (omega (arith, w.high, (sizes-of q).2.1))

  pub bits-done : {m i : ℕ} → BitsFrom table plan cells p side s m i → i ≤ 0 → BitsAre table plan cells p side s m
  bits-done {i = i} w h = record {
    bits = λ d op x j l. let z : i + j ≡ j = omega arith in (w.bits d op x).each j (omega arith) ∙ ap (able_at d op side s) z;
  }

-- ---- the bits of all concrete states

module _ {table plan cells : List ℕ} {p : Part} {masks : List ℕ} where
  pub masks-start : length masks ≡ 4096 → MasksAre table plan cells p 0 masks
  masks-start h = record { long = h; each = λ d op x c l. absurd (never l) }
    where
      never : {c : ℕ} → c < 0 → ⊥
      never l = omega arith

  pub masks-next : {c m n : ℕ} → MasksAre table plan cells p c masks → c < 4096 → BitsAre table plan cells p false c m → n ≡ c + 1
      → MasksAre table plan cells p n (set masks c m)
  masks-next {c} {m} {n} w h b e =
      record { long = length-set masks c m ∙ w.long; each = λ d op x k l. go d op x k (eq-or-lt_of_le (down l)) }
    where
      down : {k : ℕ} → k < n → k ≤ c
      down l = omega arith

      apart : {k : ℕ} → k < c → k ≡ c → ⊥
      apart l q = omega arith

      go : (d : Dossier) (op : Operation) → StepSearches table plan cells p d op → (k : ℕ) → (k ≡ c) ⊎ (k < c)
          → (i : ℕ) → i < p.inputs.bindings → has (get_or (set masks c m) k 0) i ≡ stepping d op k i
      go d op x k t i l =
          ⊎_elim
          (λ q. ap (λ (z : ℕ). has (get_or (set masks c m) z 0) i) q
          ∙ ap (λ (z : ℕ). has z i) (get_or-set_same masks c m 0 (omega (arith, w.long))) ∙ b.bits d op x i l ∙ ap (λ (z : ℕ). stepping d op z i) (sym q))
          (λ q. ap (λ (z : ℕ). has z i) (get_or-set_other masks c k m 0 (λ z. apart q z)) ∙ w.each d op x k q i l)
          t

  pub masks-done : {c : ℕ} → MasksAre table plan cells p c masks → p.concretes.bindings ≤ c → MasksAre table plan cells p p.concretes.bindings masks
  masks-done w h = record { long = w.long; each = λ d op x k l. w.each d op x k (omega arith) }
