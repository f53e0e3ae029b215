-- What is kept: nothing at first, then one list more, one cell more. Assumes nothing.
use mathlib.Core.Path.{◌≡◌, refl, sym, subst, ◌∙◌}
use mathlib.Core.Logic.{◌⊎◌, inl, inr}
use mathlib.Core.List.{List}
use Prim.Native.Nat.{ℕ, zero, suc, ◌*◌, ◌/◌, ◌<◌, ◌≤◌}
use native.Mathlib.Decide.{ℕ_discrete}
use native.Mathlib.Omega.{arith}
use lib.ListN.{get_or, length, set, replicate, length-set, length-replicate}
use lib.Seq.{get_or-set_same, get_or-set_other}
use Rattle.memo.specs.MemoPromises.{Lists, Keyed, Kept, Memo}
use Rattle.memo.proofs.SlotLists.{unmade}

pub all-zero : (n i : ℕ) → get_or {A = ℕ} (replicate n 0) i 0 ≡ 0
all-zero zero i = refl
all-zero (suc n) zero = refl
all-zero (suc n) (suc i) = all-zero n i

pub blank_memo : {table : List ℕ} (n : ℕ) → n ≡ 8098 → Memo table (replicate n 0)
blank_memo n e =
    record {
      long = length-replicate n 0 ∙ e;
      lists = λ node l. unmade (get_or {A = ℕ} (replicate n 0) node 0) (omega (arith, all-zero n node));
      cells = λ i l. inl (all-zero n i);
    }

-- ---- one more

module _ {table memo other : List ℕ} where
  -- a cell says the same where its conjunct's list stands as before
  kept-still : {cell : ℕ} (w : Kept table memo cell) → get_or other w.node 0 ≡ get_or memo w.node 0 → Kept table other cell
  kept-still {cell} w q =
      record {
        node = w.node;
        low = w.low;
        made = subst (λ (d : ℕ). 16777216 ≤ d) (sym q) w.made;
        values = w.values;
        long = w.long;
        keyed = subst (λ (d : ℕ). Keyed d w.node w.values (cell / 2)) (sym q) w.keyed;
        says = w.says;
      }

  cell-still : (i : ℕ) → get_or other i 0 ≡ get_or memo i 0 → ((n : ℕ) → n < 4097 → 16777216 ≤ get_or memo n 0 → get_or other n 0 ≡ get_or memo n 0)
      → (get_or memo i 0 ≡ 0) ⊎ Kept table memo (get_or memo i 0) → (get_or other i 0 ≡ 0) ⊎ Kept table other (get_or other i 0)
  cell-still i q h (inl z) = inl (q ∙ z)
  cell-still i q h (inr w) = inr (subst (λ (c : ℕ). Kept table other c) (sym q) (kept-still w (h w.node w.low w.made)))

module _ {table memo : List ℕ} (m : Memo table memo) where
  pub list-more : {node list : ℕ} → node < 4097 → get_or memo node 0 ≡ 0 → Lists table (4 * node) 0 list → Memo table (set memo node list)
  list-more {node} {list} l z w =
      record {
        long = length-set memo node list ∙ m.long;
        lists = lists;
        cells = λ i h. cell-still i (get_or-set_other memo node i list 0 (λ e. below i h e)) standing (m.cells i h);
      }
    where
      below : (i : ℕ) → 4097 ≤ i → i ≡ node → ⊥
      below i h e = omega arith

      lists : (n : ℕ) → n < 4097 → Lists table (4 * n) 0 (get_or (set memo node list) n 0)
      lists n h =
          elim (ℕ_discrete n node) [
            | yes e ↦ subst (λ (j : ℕ). Lists table (4 * j) 0 (get_or (set memo node list) j 0)) (sym e)
                (subst (λ (d : ℕ). Lists table (4 * node) 0 d) (sym (get_or-set_same memo node list 0 (let z : length memo ≡ 8098 = m.long in omega arith))) w)
            | no e ↦ subst (λ (d : ℕ). Lists table (4 * n) 0 d) (sym (get_or-set_other memo node n list 0 e)) (m.lists n h)
          ]

      standing : (n : ℕ) → n < 4097 → 16777216 ≤ get_or memo n 0 → get_or (set memo node list) n 0 ≡ get_or memo n 0
      standing n h made =
          get_or-set_other memo node n list 0
          (λ e. (let empty : get_or memo n 0 ≡ 0 = subst (λ (j : ℕ). get_or memo j 0 ≡ 0) (sym e) z in let f : ⊥ = omega (arith, made, empty) in f))

  pub cell-more : {i cell : ℕ} → 4097 ≤ i → i < 8098 → Kept table memo cell → Memo table (set memo i cell)
  cell-more {i} {cell} l b w =
      record {
        long = length-set memo i cell ∙ m.long;
        lists = λ n h. subst (λ (d : ℕ). Lists table (4 * n) 0 d) (sym (standing n h)) (m.lists n h);
        cells = cells;
      }
    where
      standing : (n : ℕ) → n < 4097 → get_or (set memo i cell) n 0 ≡ get_or memo n 0
      standing n h = get_or-set_other memo i n cell 0 (λ e. (let f : ⊥ = omega (arith, l, h, e) in f))

      cells : (j : ℕ) → 4097 ≤ j → (get_or (set memo i cell) j 0 ≡ 0) ⊎ Kept table (set memo i cell) (get_or (set memo i cell) j 0)
      cells j h =
          elim (ℕ_discrete j i) [
            | yes e ↦ inr (subst (λ (c : ℕ). Kept table (set memo i cell) c)
                (sym (get_or-set_same memo i cell 0 (let z : length memo ≡ 8098 = m.long in omega arith)) ∙ subst (λ (k : ℕ). get_or (set memo i cell) i 0 ≡ get_or (set memo i cell) k 0) (sym e) refl)
                (kept-still w (standing w.node w.low)))
            | no e ↦ cell-still j (get_or-set_other memo i j cell 0 e) (λ n g made. standing n g) (m.cells j h)
          ]
