-- Labels stored one behind another, and in blocks: what is stored so far, and that the others are as they were.
use mathlib.Core.Path.{◌≡◌, refl, sym, ap, subst, ◌∙◌}
use mathlib.Core.Logic.{◌⊎◌, inl, inr}
use mathlib.Core.List.{List, ◌++◌}
use Prim.Native.Nat.{ℕ, zero, suc, ◌+◌, ◌-◌, ◌*◌, ◌<◌, ◌≤◌}
use native.Mathlib.Omega.{arith}
use native.Mathlib.Nat.{eq-or-lt_of_le, zero-add}
use lib.ListN.{length, get_or, set, length-set, take, drop, get_or-eq_default}
use lib.Seq.{get_or-set_same, get_or-set_other, length-take-le}
use Rattle.std.proofs.lemmas.List.{length-drop}
use borrow.Rule.Slice.PartMut.{mid_of, put_mid}
use Rattle.std.specs.Simd.Lanes.{put_chunk}
use Rattle.std.proofs.lemmas.Simd.{put_chunk_is, length-put_chunk, get_or-put_chunk_below, get_or-put_chunk_above, get_or-put_chunk_at}
use Rattle.labels.specs.LabelPromises.{Between, Stored, titles_of, variable_of, four_of, TitlesGathered, VariableGathered, VariablesGathered}

pub between_none : (from to : ℕ) (old : List ℕ) → Between from to old old
between_none from to old = record { below = λ i h. refl; above = λ i h. refl; same_length = refl }

-- a block inside another one, stored behind what was stored before
pub between_next : {from to a b : ℕ} {old mid new : List ℕ} → from ≤ a → b ≤ to → Between from to old mid → Between a b mid new → Between from to old new
between_next {from} {to} {a} {b} p q s t =
    record {
      below = λ i h. t.below i (omega arith) ∙ s.below i h;
      above = λ i h. t.above i (omega arith) ∙ s.above i h;
      same_length = t.same_length ∙ s.same_length;
    }

pub stored-none : (at : ℕ) (f : ℕ → ℕ) (old : List ℕ) → Stored 0 at f old old
stored-none at f old = record { others = between_none at (at + 0) old; each = λ k h. absurd (omega arith) }

pub stored_next : {n at x : ℕ} {f : ℕ → ℕ} {old mid new : List ℕ} → Stored n at f old mid → at + n < length old → x ≡ f n → new ≡ set mid (at + n) x → Stored (n + 1) at f old new
stored_next {n} {at} {x} {f} {old} {mid} {new} s room e w =
    record {
      others =
          record {
            below = λ i h. other i (omega arith) ∙ s.others.below i h;
            above = λ i h. other i (omega arith) ∙ s.others.above i (omega arith);
            same_length = long ∙ s.others.same_length;
          };
      each = each;
    }
  where
    long : length new ≡ length mid
    long = ap length w ∙ length-set mid (at + n) x

    other : (i : ℕ) → (i ≡ at + n → ⊥) → get_or new i 0 ≡ get_or mid i 0
    other i h = ap (λ (l : List ℕ). get_or l i 0) w ∙ get_or-set_other mid (at + n) i x 0 h

    each : (k : ℕ) → k < n + 1 → get_or new (at + k) 0 ≡ f k
    each k h = on (eq-or-lt_of_le {n = k} {m = n} (omega arith))
      where
        on : (k ≡ n) ⊎ (k < n) → get_or new (at + k) 0 ≡ f k
        on (inl q) =
            ap (λ (j : ℕ). get_or new (at + j) 0) q ∙ ap (λ (l : List ℕ). get_or l (at + n) 0) w
            ∙ get_or-set_same mid (at + n) x 0 (omega (arith, s.others.same_length)) ∙ e ∙ ap f (sym q)
        on (inr q) = other (at + k) (λ (z : at + k ≡ at + n). omega arith) ∙ s.each k q

pub stored_as : {n k at : ℕ} {f : ℕ → ℕ} {old new : List ℕ} → k ≡ n → Stored k at f old new → Stored n at f old new
stored_as {at = at} {f} {old} {new} e s = subst (λ (j : ℕ). Stored j at f old new) e s

pub stored-four : {f : ℕ → ℕ} {old new : List ℕ} → length old ≡ 4 → new ≡ four_of f → Stored 4 0 f old new
stored-four {f} {old} {new} long e =
    record {
      others = record { below = λ i h. absurd (omega arith); above = λ i h. behind new i (omega (arith, same)) ∙ sym (behind old i (omega (arith, long))); same_length = same ∙ sym long };
      each = λ k h. ap (λ (l : List ℕ). get_or l (0 + k) 0) e ∙ ap (λ (j : ℕ). get_or (four_of f) j 0) (zero-add k) ∙ one k h;
    }
  where
    same : length new ≡ 4
    same = ap length e

    behind : (l : List ℕ) (i : ℕ) → length l ≤ i → get_or l i 0 ≡ 0
    behind l i h = get_or-eq_default l 0 h

    one : (k : ℕ) → k < 4 → get_or (four_of f) k 0 ≡ f k
    one zero h = refl
    one (suc zero) h = refl
    one (suc (suc zero)) h = refl
    one (suc (suc (suc zero))) h = refl
    one (suc (suc (suc (suc k)))) h = absurd (omega arith)

-- a part of the labels that is stored by itself
pub stored-part : {n at to : ℕ} {f : ℕ → ℕ} {old new : List ℕ} → Stored n 0 f (mid_of at (to - at) old) new → to ≡ at + n → to ≤ length old
    → Stored n at f old (put_mid at (to - at) old new)
stored-part {n} {at} {to} {f} {old} {new} s t room =
    record {
      others =
          record {
            below = λ i h. here i ∙ get_or-put_chunk_below at old new i 0 h;
            above = λ i h. here i ∙ get_or-put_chunk_above at old new i 0 (omega (arith, long));
            same_length = ap length is ∙ length-put_chunk at old new;
          };
      each = λ k h. here (at + k) ∙ get_or-put_chunk_at at old new k 0 (omega (arith, long)) (omega (arith, long)) ∙ ap (λ (j : ℕ). get_or new j 0) (sym (zero-add k)) ∙ s.each k h;
    }
  where
    long : length new ≡ to - at
    long = s.others.same_length ∙ length-take-le (to - at) (drop at old) (omega (arith, length-drop at old))

    is : put_mid at (to - at) old new ≡ put_chunk at old new
    is = ap (λ (k : ℕ). take at old ++ (new ++ drop k (drop at old))) (sym long) ∙ sym (put_chunk_is at old new (omega (arith, long)))

    here : (i : ℕ) → get_or (put_mid at (to - at) old new) i 0 ≡ get_or (put_chunk at old new) i 0
    here i = ap (λ (l : List ℕ). get_or l i 0) is

-- ---- the operations' names, and the variables

pub titles-gathered : {nodes starts spans old new : List ℕ} {n : ℕ} → n ≡ 16 → Stored n 64 (titles_of nodes starts spans) old new → TitlesGathered nodes starts spans old new
titles-gathered e s =
    record {
      others = between_next (omega arith) (omega arith) (between_none 64 80 _) s.others;
      each = λ j h. s.each j (omega arith);
    }

-- the variables of the first n places of the groups
pub record VariablesTo (nodes starts table groups : List ℕ) (n : ℕ) (old new : List ℕ) : Type 0 where
  pub others : Between 80 720 old new
  pub each : (i : ℕ) → i < n → VariableGathered nodes starts table groups new i

module _ {nodes starts table groups : List ℕ} where
  pub variables-none : (old : List ℕ) → VariablesTo nodes starts table groups 0 old old
  variables-none old = record { others = between_none 80 720 old; each = λ k h. absurd (omega arith) }

  variable-kept : {n i : ℕ} {mid new : List ℕ} → i < n → Between (80 + 4 * n) (80 + 4 * n + 4) mid new → VariableGathered nodes starts table groups mid i
      → VariableGathered nodes starts table groups new i
  variable-kept {n} {i} h s v =
      record {
        name = s.below (80 + 4 * i + 0) (omega arith) ∙ v.name;
        shape = s.below (80 + 4 * i + 1) (omega arith) ∙ v.shape;
        sides = s.below (80 + 4 * i + 2) (omega arith) ∙ v.sides;
        size = s.below (80 + 4 * i + 3) (omega arith) ∙ v.size;
      }

  variable_stored : {n q : ℕ} {mid new : List ℕ} → q ≡ get_or groups n 0 → Stored 4 (80 + 4 * n) (variable_of nodes starts table q) mid new
      → VariableGathered nodes starts table groups new n
  variable_stored {n} {q} {mid} {new} e s =
      record {
        name = s.each 0 (omega arith) ∙ ap (λ (p : ℕ). variable_of nodes starts table p 0) e;
        shape = s.each 1 (omega arith) ∙ ap (λ (p : ℕ). variable_of nodes starts table p 1) e;
        sides = s.each 2 (omega arith) ∙ ap (λ (p : ℕ). variable_of nodes starts table p 2) e;
        size = s.each 3 (omega arith) ∙ ap (λ (p : ℕ). variable_of nodes starts table p 3) e;
      }

  pub variables-next : {n q : ℕ} {old mid new : List ℕ} → n < 160 → q ≡ get_or groups n 0 → VariablesTo nodes starts table groups n old mid
      → Stored 4 (80 + 4 * n) (variable_of nodes starts table q) mid new → VariablesTo nodes starts table groups (n + 1) old new
  variables-next {n} {q} {old} {mid} {new} h e v s =
      record {
        others = between_next (omega arith) (omega arith) v.others s.others;
        each = λ i l. on i (eq-or-lt_of_le {n = i} {m = n} (omega arith));
      }
    where
      on : (i : ℕ) → (i ≡ n) ⊎ (i < n) → VariableGathered nodes starts table groups new i
      on i (inl p) = subst (λ (j : ℕ). VariableGathered nodes starts table groups new j) (sym p) (variable_stored e s)
      on i (inr p) = variable-kept p s.others (v.each i p)

  pub variables-gathered : {n : ℕ} {old new : List ℕ} → n ≡ 160 → VariablesTo nodes starts table groups n old new → VariablesGathered nodes starts table groups old new
  variables-gathered e v = record { others = v.others; each = λ i h. v.each i (omega arith) }
