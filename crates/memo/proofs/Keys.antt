-- Keys: the same key is that of the same conjunct, with the same values in the slots of its list; so it has the same truth. Assumes nothing.
use mathlib.Core.Path.{◌≡◌, sym, ap, subst, ◌∙◌}
use mathlib.Core.Bool.{Bool, true, false}
use mathlib.Core.Logic.{◌⊎◌, inl, inr}
use mathlib.Core.List.{List}
use Prim.Native.Nat.{ℕ, ◌+◌, ◌*◌, ◌/◌, ◌%◌, ◌^◌, ◌<◌, ◌≤◌}
use native.Mathlib.Decide.{ℕ_discrete}
use native.Mathlib.Omega.{arith}
use lib.Dec.{eqb}
use lib.ListN.{get_or, length}
use lib.IntN.{ℤ, pos, ◌+ℤ◌, ◌-ℤ◌, +ℤ-neg_ℤ_cancel}
use borrow.Author.Tests.{eq-eqb, ne_eqb}
use mir.Syntax.{w64}
use mir.Val.{Fits, bool_byte}
use Rattle.evaluator.specs.EvaluationEvaluationByNumber.{Values}
use Rattle.evaluator.specs.EvaluationPromises.{TruthAnswers}
use Rattle.truths.specs.Promises.{Asked}
use Rattle.truths.proofs.TruthLaws.{asked-inside, asked-runs}
use Rattle.memo.specs.MemoPromises.{Lists, Behind, Keyed, Kept, Memo, KeyOf, AgainAsked}
use Rattle.memo.proofs.SameTruths.{SameOrFree, same_truth}

same-raised : {v w : ℤ} {d e : ℕ} → v +ℤ pos 1000 ≡ pos d → w +ℤ pos 1000 ≡ pos e → d ≡ e → v ≡ w
same-raised {v} {w} p q h = sym (+ℤ-neg_ℤ_cancel v (pos 1000)) ∙ ap (λ (z : ℤ). z -ℤ pos 1000) (p ∙ ap pos h ∙ sym q) ∙ +ℤ-neg_ℤ_cancel w (pos 1000)

module _ {k j : ℕ} {v w : ℤ} {r : ℕ} (a : Behind k v r) (b : Behind j w r) where
  digits : 4096 * k + a.digit ≡ 4096 * j + b.digit
  digits = sym a.is ∙ b.is

  same-front : k ≡ j
  same-front = omega (arith, digits, a.low, b.low)

  same-value : v ≡ w
  same-value = same-raised a.raised b.raised (omega (arith, digits, a.low, b.low))

result_of : {k : ℕ} {v : ℤ} {r s : ℕ} → r ≡ s → Behind k v r → Behind k v s
result_of {k = k} {v = v} q a = subst (λ (i : ℕ). Behind k v i) q a

module _ {list other n m : ℕ} {σ τ : Values} {key : ℕ} (a : Keyed list n σ key) (b : Keyed other m τ key) where
  third-front : a.three ≡ b.three
  third-front = same-front a.fourth b.fourth

  second-front : a.two ≡ b.two
  second-front = same-front (result_of third-front a.third) b.third

  first-front : a.one ≡ b.one
  first-front = same-front (result_of second-front a.second) b.second

  pub same-node : n ≡ m
  same-node = same-front (result_of first-front a.first) b.first

-- with one list: the same values in its slots
module _ {list n m : ℕ} {σ τ : Values} {key : ℕ} (a : Keyed list n σ key) (b : Keyed list m τ key) where
  listed_same : {t : List ℕ} {e : ℕ} → Lists t e 0 list → 16777216 ≤ list → (s : ℕ) → s < 64 → SameOrFree t e σ τ s
  listed_same {t} {e} w made s l =
      elim (ℕ_discrete s (list / 262144 % 64)) [
        | yes q ↦ inr (at q (same-value (result_of (first-front a b) a.first) b.first))
        | no d₁ ↦ elim (ℕ_discrete s (list / 4096 % 64)) [
          | yes q ↦ inr (at q (same-value (result_of (second-front a b) a.second) b.second))
          | no d₂ ↦ elim (ℕ_discrete s (list / 64 % 64)) [
            | yes q ↦ inr (at q (same-value (result_of (third-front a b) a.third) b.third))
            | no d₃ ↦ elim (ℕ_discrete s (list % 64)) [
              | yes q ↦ inr (at q (same-value a.fourth b.fourth))
              | no d₄ ↦ inl (w.free made s (omega arith) l (record { first = d₁; second = d₂; third = d₃; fourth = d₄ }))
            ]
          ]
        ]
      ]
    where
      at : {i j : ℕ} → i ≡ j → get_or σ j (pos 0) ≡ get_or τ j (pos 0) → get_or σ i (pos 0) ≡ get_or τ i (pos 0)
      at q h = subst (λ (k : ℕ). get_or σ k (pos 0) ≡ get_or τ k (pos 0)) (sym q) h

-- a value that was handed over, as it stands in its slot
pub value_of : {k r : ℕ} {v w : ℤ} → v ≡ w → Behind k v r → Behind k w r
value_of {k} {r} q a = subst (λ (z : ℤ). Behind k z r) q a

-- four values, one behind the other
pub key-answered : {list node one two three r : ℕ} {σ : Values} → 16777216 ≤ list → 0 < node → node < 4097 → Behind node (get_or σ (list / 262144 % 64) (pos 0)) one
    → Behind one (get_or σ (list / 4096 % 64) (pos 0)) two → Behind two (get_or σ (list / 64 % 64) (pos 0)) three → Behind three (get_or σ (list % 64) (pos 0)) r
    → KeyOf list node σ r
key-answered {one = one} {two = two} {three = three} made some low a b c d =
    record {
      made = made;
      keyed = record { one = one; two = two; three = three; first = a; second = b; third = c; fourth = d };
      near = omega (arith, low, a.is, a.low, b.is, b.low, c.is, c.low, d.is, d.low);
      some = λ n. (let f : ⊥ = omega (arith, n, some, a.is, b.is, c.is, d.is) in f);
    }

-- a cell with the key of a conjunct says its truth
pub found : {table memo : List ℕ} {node cell key : ℕ} {σ : Values} → Memo table memo → node < 4097 → length σ ≡ 64 → Keyed (get_or memo node 0) node σ key → cell / 2 ≡ key
    → Kept table memo cell → TruthAnswers table (4 * node) σ (eqb (cell % 2) 1)
found {table} {memo} {node} {cell} {key} {σ} m low long a q w =
    let mine : Keyed (get_or memo node 0) node σ (cell / 2) = subst (λ (k : ℕ). Keyed (get_or memo node 0) node σ k) (sym q) a in
    let one : w.node ≡ node = same-node w.keyed mine in
    let theirs : Keyed (get_or memo node 0) node w.values (cell / 2) = subst (λ (n : ℕ). Keyed (get_or memo n 0) n w.values (cell / 2)) one w.keyed in
    let made : 16777216 ≤ get_or memo node 0 = subst (λ (n : ℕ). 16777216 ≤ get_or memo n 0) one w.made in
    let says : TruthAnswers table (4 * node) w.values (eqb (cell % 2) 1) = subst (λ (n : ℕ). TruthAnswers table (4 * n) w.values (eqb (cell % 2) 1)) one w.says in
    record { is = λ f b h. says.is f b (same_truth σ w.values f b long w.long (listed_same mine theirs (m.lists node low) made) h) }

-- ---- a conjunct that is asked by its key

pub cell-fits : {k d : ℕ} (b : Bool) → d ≡ bool_byte b → k < 2 ^ 62 → Fits w64 (2 * k + d)
cell-fits true e h = record { fits = omega arith }
cell-fits false e h = record { fits = omega arith }

module _ {table memo : List ℕ} {e k : ℕ} {σ : Values} (q : AgainAsked table memo e k σ) where
  -- its cell has its key
  pub found-again : {i : ℕ} → Memo table memo → 4097 ≤ i → get_or memo i 0 / 2 ≡ k → TruthAnswers table e σ (eqb (get_or memo i 0 % 2) 1)
  found-again {i} m l is = go (m.cells i l)
    where
      go : (get_or memo i 0 ≡ 0) ⊎ Kept table memo (get_or memo i 0) → TruthAnswers table e σ (eqb (get_or memo i 0 % 2) 1)
      go (inl z) = absurd (q.some (let n : k ≡ 0 = omega (arith, is, z) in n))
      go (inr w) = subst (λ (x : ℕ). TruthAnswers table x σ (eqb (get_or memo i 0 % 2) 1)) (sym q.at) (found m q.low q.long q.keyed is w)

  bit-back : (b : Bool) (d : ℕ) → d ≡ bool_byte b → ((2 * k + d) / 2 ≡ k) × (eqb ((2 * k + d) % 2) 1 ≡ b)
  bit-back true d is = (omega arith, eq-eqb ((2 * k + d) % 2) 1 (omega arith))
  bit-back false d is = (omega arith, ne_eqb ((2 * k + d) % 2) 1 (λ f. (let z : (2 * k + d) % 2 ≡ 0 = omega (arith, is) in let n : ⊥ = omega (arith, z, f) in n)))

  -- what it came to is kept
  pub kept-now : {b : Bool} {d : ℕ} → TruthAnswers table e σ b → d ≡ bool_byte b → Kept table memo (2 * k + d)
  kept-now {b} {d} a is =
      let back = bit-back b d is in
      record {
        node = q.node;
        low = q.low;
        made = q.made;
        values = σ;
        long = q.long;
        keyed = subst (λ (x : ℕ). Keyed (get_or memo q.node 0) q.node σ x) (sym back.0) q.keyed;
        says = subst (λ (x : ℕ). TruthAnswers table x σ (eqb ((2 * k + d) % 2) 1)) q.at (subst (λ (x : Bool). TruthAnswers table e σ x) (sym back.1) a);
      }

-- the conjunct up to e, whose list stands, by its key
pub again-asked : {table memo : List ℕ} {e list k : ℕ} {σ : Values} → Asked table e σ → e % 4 ≡ 0 → list ≡ get_or memo (e / 4) 0 → KeyOf list (e / 4) σ k → AgainAsked table memo e k σ
again-asked {memo = memo} {e = e} {k = k} {σ = σ} q even is a =
    let inside = asked-inside q in
    record {
      inside = inside;
      runs = asked-runs q;
      long = q.held.long;
      node = e / 4;
      at = omega (arith, even);
      low = omega (arith, inside.within);
      made = subst (λ (d : ℕ). 16777216 ≤ d) is a.made;
      keyed = subst (λ (d : ℕ). Keyed d (e / 4) σ k) is a.keyed;
      near = a.near;
      some = a.some;
    }
