-- The list of the slots that a conjunct mentions, made one slot after the other, from the last on. Assumes nothing.
use mathlib.Core.Path.{◌≡◌, sym, subst, ◌∙◌}
use mathlib.Core.List.{List}
use Prim.Native.Nat.{ℕ, ◌+◌, ◌-◌, ◌*◌, ◌/◌, ◌%◌, ◌<◌, ◌≤◌}
use native.Mathlib.Decide.{ℕ_discrete}
use native.Mathlib.Omega.{arith}
use Rattle.std.specs.Prelude.{Option, Some, None, IfSome}
use Rattle.std.specs.Option.{unwrap_or}
use Rattle.mentions.specs.MentionPromises.{TruthFree}
use Rattle.memo.specs.MemoPromises.{Unlisted, Lists}

module _ {table : List ℕ} {e : ℕ} where
  -- a list that is not made says nothing
  pub unmade : {s : ℕ} (list : ℕ) → list < 16777216 → Lists table e s list
  unmade list l = record { free = λ h k m n u. absurd (let z : 16777216 ≤ list = h in let f : ⊥ = omega arith in f) }

  pub only-blank : {list : ℕ} → TruthFree table e 63 → Lists table e 63 list
  only-blank w = record { free = λ h k m n u. subst (λ (j : ℕ). TruthFree table e j) (let q : 63 ≡ k = omega arith in q) w }

  pub not_mentioned : {s list : ℕ} → TruthFree table e s → Lists table e (s + 1) list → Lists table e s list
  not_mentioned {s} w g =
      record {
        free = λ h k m n u. elim (ℕ_discrete k s) [
          | yes q ↦ subst (λ (j : ℕ). TruthFree table e j) (sym q) w
          | no q ↦ g.free h k (omega arith) n u
        ];
      }

  -- the slot comes behind three that were there; what goes is a blank
  pub mentioned : {s list r : ℕ} → TruthFree table e 63 → s < 63 → list / 262144 ≡ 127 → r ≡ list % 262144 * 64 + s + 16777216 → Lists table e (s + 1) list → Lists table e s r
  mentioned {s} {list} {r} w l room is g = record { free = λ h k m n u. free k m n u }
    where
      last : s ≡ r % 64
      last = omega arith

      third : list % 64 ≡ r / 64 % 64
      third = omega arith

      second : list / 64 % 64 ≡ r / 4096 % 64
      second = omega arith

      first : list / 4096 % 64 ≡ r / 262144 % 64
      first = omega arith

      blank : list / 262144 % 64 ≡ 63
      blank = omega arith

      free : (k : ℕ) → s ≤ k → k < 64 → Unlisted r k → TruthFree table e k
      free k m n u =
          elim (ℕ_discrete k 63) [
            | yes q ↦ subst (λ (j : ℕ). TruthFree table e j) (sym q) w
            | no d ↦ elim (ℕ_discrete k s) [
              | yes q ↦ absurd (u.fourth (q ∙ last))
              | no c ↦ g.free (omega arith) k (omega arith) n
                  (record { first = λ q. d (q ∙ blank); second = λ q. u.first (q ∙ first); third = λ q. u.second (q ∙ second); fourth = λ q. u.third (q ∙ third) })
            ]
          ]

  -- the loop over the slots: before it is counted down, and at its end
  pub lists-before : {s list : ℕ} → 0 < s → Lists table e s list → Lists table e (s - 1 + 1) list
  lists-before {s} {list} h w = subst (λ (j : ℕ). Lists table e j list) (let q : s ≡ s - 1 + 1 = omega arith in q) w

  pub lists-all : {s list : ℕ} → s ≤ 0 → Lists table e s list → Lists table e 0 list
  lists-all {s} {list} h w = subst (λ (j : ℕ). Lists table e j list) (let q : s ≡ 0 = omega arith in q) w

  -- a list, or what stands for none
  pub lists-or : (o : Option ℕ) {r : ℕ} → IfSome o (λ (list : ℕ). Lists table e 0 list) → r ≡ unwrap_or o 1 → Lists table e 0 r
  lists-or (Some list) w q = subst (λ (j : ℕ). Lists table e 0 j) (sym q) w
  lists-or None {r} w q = unmade r (let l : r < 16777216 = omega arith in l)
