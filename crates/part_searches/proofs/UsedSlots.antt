-- The slots that a predicate mentions are those of the names in reach and those of bound names, from 38 on: so the last one that it mentions of a group is a variable of that group.
use mathlib.Core.Path.{◌≡◌, refl, sym, subst}
use mathlib.Core.Bool.{Bool, true, false, ◌&&◌, cond}
use mathlib.Core.Logic.{◌⊎◌, inl, inr}
use mathlib.Core.List.{List, [], ◌∷◌, ◌++◌}
use mathlib.Core.Option.{some}
use Prim.Native.Nat.{ℕ, suc, ◌+◌, ◌-◌, ◌<◌, ◌≤◌}
use native.Mathlib.Nat.{max-le}
use native.Mathlib.Omega.{arith}
use lib.Dec.{leb, ltb}
use lib.ListN.{length}
use borrow.Author.Tests.{leb-true, ltb-true}
use Rattle.lexical.specs.Lists.{find}
use Rattle.lexical.specs.Symbols.{Name}
use Rattle.form.specs.Tree.{Letters}
use Rattle.form.specs.Tree.{Term, number, name, group, prefix, binary, divided, listed, pairs, such, empty_set, empty_pairs, Items, only, also, Pairs, only_pair, also_pair}
use Rattle.form.specs.Tree.{Pred, truth, falsity, negation, paren, quantified, connected, compared, member, within, related}
use Rattle.static_rules.specs.Carriers.{Variable, same_name, plain}
use Rattle.meaning.specs.Bindings.{Among}
use Rattle.meaning.proofs.Members.{among-append}
use Rattle.table_nodes.specs.TableByNumber.{next_slot}
use Rattle.readings.specs.TablePlacesResolvedTable.{Slots, slotted}
use Rattle.states.specs.SearchGroupsConjuncts.{slot_list, last_in, used_term, used_items, used_pairs, used_pred}

-- every slot of these names passes
abbrev pub Passing : (P : ℕ → Type 0) → Slots → Type 0
Passing P W = (w : Name × ℕ) → Among w W → P w.1

pub pass-slotted : (P : ℕ → Type 0) (a : ℕ) (vs : List Variable) → ((s : ℕ) → a ≤ s → s < a + length vs → P s) → Passing P (slotted a vs)
unfolding slotted Among
pass-slotted P a [] h w m = absurd m
pass-slotted P a (v ∷ vs) h w (inl e) = subst (λ (x : Name × ℕ). P x.1) (sym e) (h a (omega arith) (omega arith))
pass-slotted P a (v ∷ vs) h w (inr m) = pass-slotted P (suc a) vs (λ s k l. h s (omega arith) (omega arith)) w m

pub pass-append : (P : ℕ → Type 0) (W Y : Slots) → Passing P W → Passing P Y → Passing P (W ++ Y)
pass-append P W Y f g w m = go (among-append w W Y m)
  where
    go : Among w W ⊎ Among w Y → P w.1
    go (inl h) = f w h
    go (inr h) = g w h

next-high : (s : ℕ) → 38 ≤ s → 38 ≤ next_slot s
unfolding next_slot
next-high s h = go (ltb s 63)
  where
    go : (b : Bool) → 38 ≤ cond b (s + 1) 63
    go true = omega arith
    go false = omega arith

module _ (P : ℕ → Type 0) (high : (t : ℕ) → 38 ≤ t → P t) where
  found : (x : Name) (W : Slots) → Passing P W → (t : ℕ) → Among t (slot_list (find (λ (w : Name × ℕ). same_name w.0 x) W)) → P t
  unfolding find Among
  found x [] f t m = absurd m
  found x (w ∷ W) f t m = go (same_name w.0 x) (λ k. found x W (λ y h. f y (inr h)) t k) m
    where
      here : (t ≡ w.1) ⊎ ⊥ → P t
      here (inl e) = subst P (sym e) (f w (inl refl))
      here (inr h) = absurd h

      go : (b : Bool) → (Among t (slot_list (find (λ (w : Name × ℕ). same_name w.0 x) W)) → P t)
          → Among t (slot_list (elim b [ true ↦ some w | false ↦ find (λ (w : Name × ℕ). same_name w.0 x) W ])) → P t
      go true r k = here k
      go false r k = r k

  either : (t : ℕ) (u v : List ℕ) → (Among t u → P t) → (Among t v → P t) → Among t (u ++ v) → P t
  either t u v f g m = go (among-append t u v m)
    where
      go : Among t u ⊎ Among t v → P t
      go (inl h) = f h
      go (inr h) = g h

  bound : (x : Letters) (s : ℕ) (W : Slots) → 38 ≤ s → Passing P W → Passing P ((plain x, s) ∷ W)
  unfolding Among
  bound x s W h f w (inl e) = subst (λ (y : Name × ℕ). P y.1) (sym e) (high s h)
  bound x s W h f w (inr m) = f w m

  mutual
    unfolding used_term Among

    term-pass : (e : Term) (W : Slots) (s : ℕ) → 38 ≤ s → Passing P W → (t : ℕ) → Among t (used_term e W s) → P t
    term-pass (number n) W s h f t m = absurd m
    term-pass (name x) W s h f t m = found x W f t m
    term-pass (group e) W s h f t m = term-pass e W s h f t m
    term-pass (prefix o e) W s h f t m = term-pass e W s h f t m
    term-pass (binary o e k) W s h f t m = either t (used_term e W s) (used_term k W s) (λ n. term-pass e W s h f t n) (λ n. term-pass k W s h f t n) m
    term-pass (divided o e n) W s h f t m = term-pass e W s h f t m
    term-pass (listed es) W s h f t m = items-pass es W s h f t m
    term-pass (pairs es) W s h f t m = pairs-pass es W s h f t m
    term-pass (such x g p) W s h f t m = pred-pass p ((plain x, s) ∷ W) (next_slot s) (next-high s h) (bound x s W h f) t m
    term-pass (empty_set g) W s h f t m = absurd m
    term-pass (empty_pairs g k) W s h f t m = absurd m

    items-pass : (es : Items) (W : Slots) (s : ℕ) → 38 ≤ s → Passing P W → (t : ℕ) → Among t (used_items es W s) → P t
    items-pass (only e) W s h f t m = term-pass e W s h f t m
    items-pass (also e es) W s h f t m = either t (used_term e W s) (used_items es W s) (λ n. term-pass e W s h f t n) (λ n. items-pass es W s h f t n) m

    pairs-pass : (es : Pairs) (W : Slots) (s : ℕ) → 38 ≤ s → Passing P W → (t : ℕ) → Among t (used_pairs es W s) → P t
    pairs-pass (only_pair e k) W s h f t m = either t (used_term e W s) (used_term k W s) (λ n. term-pass e W s h f t n) (λ n. term-pass k W s h f t n) m
    pairs-pass (also_pair e k es) W s h f t m =
        either t (used_term e W s) (used_term k W s ++ used_pairs es W s) (λ n. term-pass e W s h f t n)
        (λ l. either t (used_term k W s) (used_pairs es W s) (λ n. term-pass k W s h f t n) (λ n. pairs-pass es W s h f t n) l) m

    pub pred-pass : (p : Pred) (W : Slots) (s : ℕ) → 38 ≤ s → Passing P W → (t : ℕ) → Among t (used_pred p W s) → P t
    pred-pass truth W s h f t m = absurd m
    pred-pass falsity W s h f t m = absurd m
    pred-pass (negation p) W s h f t m = pred-pass p W s h f t m
    pred-pass (paren p) W s h f t m = pred-pass p W s h f t m
    pred-pass (quantified q x g p) W s h f t m = pred-pass p ((plain x, s) ∷ W) (next_slot s) (next-high s h) (bound x s W h f) t m
    pred-pass (connected o p q) W s h f t m = either t (used_pred p W s) (used_pred q W s) (λ n. pred-pass p W s h f t n) (λ n. pred-pass q W s h f t n) m
    pred-pass (compared o e k) W s h f t m = either t (used_term e W s) (used_term k W s) (λ n. term-pass e W s h f t n) (λ n. term-pass k W s h f t n) m
    pred-pass (member o e k) W s h f t m = either t (used_term e W s) (used_term k W s) (λ n. term-pass e W s h f t n) (λ n. term-pass k W s h f t n) m
    pred-pass (within o e r) W s h f t m = term-pass e W s h f t m
    pred-pass (related o e k l) W s h f t m =
        either t (used_term e W s) (used_term k W s ++ used_term l W s) (λ n. term-pass e W s h f t n)
        (λ i. either t (used_term k W s) (used_term l W s) (λ n. term-pass k W s h f t n) (λ n. term-pass l W s h f t n) i) m

-- ---- the last one of a group

pub last-low : (base n m : ℕ) (ss : List ℕ) → ((t : ℕ) → Among t ss → base ≤ t → t < base + n → t < base + m) → last_in base n ss ≤ m
unfolding last_in Among
last-low base n m [] f = omega arith
last-low base n m (s ∷ ss) f =
    max-le (one (leb base s) (ltb s (base + n)) refl refl)
    (last-low base n m ss (λ t k. f t (inr k)))
  where
    one : (a b : Bool) → leb base s ≡ a → ltb s (base + n) ≡ b → cond (a && b) (s - base + 1) 0 ≤ m
    one true true d e =
        let i = leb-true base s d in
        let j = ltb-true s (base + n) e in
        let k = f s (inl refl) i j in
        omega arith
    one true false d e = omega arith
    one false true d e = omega arith
    one false false d e = omega arith
