-- The fault that has a key, and the key that a fault has; the keys of pairs are below 2 ^ 32.
use mathlib.Core.Path.{◌≡◌, refl, sym, ap, ap₂, ◌∙◌}
use mathlib.Core.Bool.{Bool, ◌&&◌, cond}
use Prim.Native.Nat.{ℕ, ◌+◌, ◌-◌, ◌*◌, ◌/◌, ◌%◌, ◌≤◌, ◌<◌}
use native.Mathlib.Omega.{arith}
use lib.Dec.{eqb, ltb}
use borrow.Author.Tests.{ne_eqb}
use Rattle.std.specs.Prelude.{Option, None, Some}
use Rattle.std.proofs.lemmas.Bool.{cond_both}
use Rattle.refusals.specs.Refusals.{number_of}
use Rattle.refusals.specs.RefusalNames.{refusal_is, refusal_numbered}
use Rattle.refusals.proofs.RefusalNumbers.{small-number, refusal-back}
use Rattle.refusals.specs.declared.Fault.{Fault}
use Rattle.refusals.specs.declared.Refusal.{Refusal}
use Rattle.type_rules.specs.TypesByNumber.{Sizes, is_given, is_pairs, product_fits, key, fault_key, unless_key, lesser, over_key, brace_key}
use Rattle.type_rules.specs.FaultKeys.{fault_keyed}
use Rattle.type_rules.proofs.FaultOrder.{some-key}

place-back : (p n : ℕ) → n < 32 → (p * 32 + n + 1 - 1) / 32 ≡ p
place-back p n h = omega arith

number-back : (p n : ℕ) → n < 32 → (p * 32 + n + 1 - 1) % 32 ≡ n
number-back p n h = omega arith

fault-back : (f : Option Fault) → fault_keyed (fault_key f) ≡ f
unfolding fault_keyed
fault-back None = refl
fault-back (Some f) =
    let h : number_of (refusal_is f.refusal) < 32 = small-number (refusal_is f.refusal) in
    ap (λ (b : Bool). cond b None (Some (record { place = (fault_key (Some f) - 1) / 32; refusal = refusal_numbered ((fault_key (Some f) - 1) % 32) }))) (some-key f)
    ∙ ap₂ (λ (p : ℕ) (r : Refusal). Some (record { place = p; refusal = r })) (place-back f.place (number_of (refusal_is f.refusal)) h)
    (ap refusal_numbered (number-back f.place (number_of (refusal_is f.refusal)) h) ∙ refusal-back f.refusal)

-- the fault at the place p, from the number of its refusal, and its key
pub keyed : (p n : ℕ) (r : Refusal) → n ≡ number_of (refusal_is r) → fault_keyed (p * 32 + n + 1) ≡ Some (record { place = p; refusal = r })
keyed p n r e = ap (λ (j : ℕ). fault_keyed (p * 32 + j + 1)) e ∙ fault-back (Some (record { place = p; refusal = r }))

pub key-kept : (p n : ℕ) (r : Refusal) → n ≡ number_of (refusal_is r) → fault_key (fault_keyed (p * 32 + n + 1)) ≡ p * 32 + n + 1
key-kept p n r e = ap fault_key (keyed p n r e) ∙ ap (λ (j : ℕ). p * 32 + j + 1) (sym e)

-- the fault with a key that is not 0
pub some-keyed : (k q : ℕ) (r : Refusal) → 1 ≤ k → q ≡ k - 1 → r ≡ refusal_numbered (q % 32) → Some (record { place = q / 32; refusal = r }) ≡ fault_keyed k
unfolding fault_keyed
some-keyed k q r h e s =
    ap₂ (λ (j : ℕ) (x : Refusal). Some (record { place = j / 32; refusal = x })) e (s ∙ ap (λ (j : ℕ). refusal_numbered (j % 32)) e)
    ∙ sym (ap (λ (b : Bool). cond b None (Some (record { place = (k - 1) / 32; refusal = refusal_numbered ((k - 1) % 32) }))) (ne_eqb k 0 (λ (z : k ≡ 0). absurd (omega arith))))

-- ---- keys below 2 ^ 32 ----

below : (b : Bool) (x y : ℕ) → x < 4294967296 → y < 4294967296 → cond b x y < 4294967296
below b x y h g = cond_both b x y (λ z. z < 4294967296) (λ _. h) (λ _. g)

below-lesser : (a b : ℕ) → a < 4294967296 → b < 4294967296 → lesser a b < 4294967296
unfolding lesser
below-lesser a b h g = below (eqb a 0) _ _ g (below (eqb b 0) _ _ h (below (ltb b a) _ _ g h))

pub below-brace : (z : Sizes) (k i : ℕ) → i < 65536 → brace_key z k i < 4294967296
unfolding brace_key
below-brace z k i h = below (is_pairs k) _ _ (below (product_fits z ((k - 64) / 8) ((k - 64) % 8)) _ _ (omega arith) (omega arith)) (omega arith)

pub below-pairs : (z : Sizes) (g h : ℕ) (p q : Bool) (i : ℕ) → i < 65536
    → lesser (unless_key p (key (i + 1) 9)) (lesser (unless_key q (key (i + 2) 9)) (over_key z g h i)) < 4294967296
unfolding over_key
below-pairs z g h p q i s =
    below-lesser _ _ (below p _ _ (omega arith) (omega arith))
    (below-lesser _ _ (below q _ _ (omega arith) (omega arith))
    (below (is_given g && is_given h) _ _ (below (product_fits z (g - 8) (h - 8)) _ _ (omega arith) (omega arith)) (omega arith)))
