-- A conjunct depends on the values in the slots that it uses, and on no others: a variable whose slot it does not use is free. Names go by their places among the
-- slots and among the values, so nothing is asked of equal names. Assumes nothing.
use mathlib.Core.Path.{◌≡◌, refl, sym, ap, ◌∙◌, subst}
use mathlib.Core.Bool.{Bool, true, false}
use mathlib.Core.Logic.{◌⊎◌, inl, inr}
use mathlib.Core.List.{List, [], ◌∷◌, ◌++◌}
use mathlib.Core.Option.{Option, some}
use Prim.Native.Nat.{ℕ, ◌+◌, ◌^◌}
use lib.ListN.{get_or}
use lib.IntN.{ℤ, pos, ◌+ℤ◌, ◌-ℤ◌, nat_abs}
use Rattle.lexical.specs.Lists.{find, filter, upward}
use Rattle.lexical.specs.Symbols.{Name}
use Rattle.search_groups.specs.FormTree.{Letters, Given}
use Rattle.search_groups.specs.FormTree.{Term, number, name, group, prefix, binary, divided, listed, pairs, such, empty_set, empty_pairs, Items, only, also, Pairs, only_pair, also_pair}
use Rattle.search_groups.specs.FormTree.{Pred, truth, falsity, negation, paren, quantified, connected, compared, member, within, related}
use Rattle.evaluation.specs.StaticRulesCarriers.{Carrier, elements_of, numbers, subsets_of, pairs_in, Variable, size_of, same_name, plain}
use Rattle.evaluation.specs.StaticRulesScope.{Scope}
use Rattle.evaluation.specs.MeaningValues as val
use Rattle.evaluation.specs.MeaningValues.{Value}
use Rattle.evaluation.specs.MeaningMeaning.{Binding, Environment, value_of, element_values, number_values, holds}
use Rattle.evaluation.specs.MeaningBindings.{pair_sets, values_of, Among, Over}
use Rattle.evaluation.specs.MeaningMentionedNames.{others, term_names, items_names, pairs_names, pred_names}
use Rattle.evaluation.proofs.MeaningMembers.{among-left, among-right, among-append}
use Rattle.evaluation.proofs.MeaningDistinct.{every_map}
use Rattle.evaluation.proofs.MeaningFrame.{frame-pred}
use Rattle.search_groups.specs.TableNodesTableByNumber.{next_slot}
use Rattle.evaluation.specs.TablePlacesResolvedTable.{Slots, slot_of}
use Rattle.search_groups.specs.Conjuncts.{slot_list, used_term, used_items, used_pairs, used_pred}
use Rattle.evaluation.specs.EvaluationByNumber.{Values}
use Rattle.evaluation.specs.SlotValues.{Slotted, Held}
use Rattle.conjunct_tests.specs.ConjunctTests.{Agree, agree_none, agree_more}
use Rattle.search_groups.proofs.ScopePlaces.{slot-here, slot-there}

-- ---- a name that is mentioned, and found among the slots, has its slot among those used

-- a name other than x, among those mentioned
others-on : (x : Letters) (z : Name) (ys : List Name) → same_name (plain x) z ≡ false → others x (z ∷ ys) ≡ z ∷ others x ys
unfolding filter
others-on x z ys e = rw (e, filter)

others-off : (x : Letters) (z : Name) (ys : List Name) → same_name (plain x) z ≡ true → others x (z ∷ ys) ≡ others x ys
unfolding filter
others-off x z ys e = rw (e, filter)

record Other (x : Letters) (y : Name) (ys : List Name) : Type 0 where
  among : Among y ys
  differs : same_name (plain x) y ≡ false

other_name : (x : Letters) (y : Name) (ys : List Name) → Among y (others x ys) → Other x y ys
unfolding Among filter
other_name x y [] m = absurd m
other_name x y (z ∷ ys) m = go (same_name (plain x) z) refl (other_name x y ys)
  where
    later : Other x y ys → Other x y (z ∷ ys)
    later o = record { among = inr o.among; differs = o.differs }

    on : same_name (plain x) z ≡ false → (y ≡ z) ⊎ Among y (others x ys) → (Among y (others x ys) → Other x y ys) → Other x y (z ∷ ys)
    on e (inl q) r = record { among = inl q; differs = ap (same_name (plain x)) q ∙ e }
    on e (inr h) r = later (r h)

    go : (t : Bool) → same_name (plain x) z ≡ t → (Among y (others x ys) → Other x y ys) → Other x y (z ∷ ys)
    go true e r = later (r (subst (Among y) (others-off x z ys e) m))
    go false e r = on e (subst (Among y) (others-on x z ys e) m) r

module _ (y : Name) (w : Name × ℕ) where
  either : (xs zs : List Name) (u v : List ℕ) → (Among y xs → Among w.1 u) → (Among y zs → Among w.1 v) → Among y (xs ++ zs) → Among w.1 (u ++ v)
  either xs zs u v f g m = go (among-append y xs zs m)
    where
      go : Among y xs ⊎ Among y zs → Among w.1 (u ++ v)
      go (inl h) = among-left w.1 u v (f h)
      go (inr h) = among-right w.1 u v (g h)

  name-slot : (x : Name) (W : Slots) (s : ℕ) → slot_of W y ≡ some w → y ≡ x → Among w.1 (used_term (name x) W s)
  unfolding used_term Among
  name-slot x W s f e = subst (λ (o : Option (Name × ℕ)). Among w.1 (slot_list o)) (sym f ∙ ap (slot_of W) e) (inl refl)

  -- under a binder
  bound-slot : (x : Letters) (p : Pred) (W : Slots) (s : ℕ) → slot_of W y ≡ some w
      → (slot_of ((plain x, s) ∷ W) y ≡ some w → Among y (pred_names p) → Among w.1 (used_pred p ((plain x, s) ∷ W) (next_slot s)))
      → Among y (others x (pred_names p)) → Among w.1 (used_pred p ((plain x, s) ∷ W) (next_slot s))
  bound-slot x p W s f h m =
      let o = other_name x y (pred_names p) m in
      h (slot-there (plain x, s) W y o.differs ∙ f) o.among

  mutual
    unfolding term_names used_term Among

    pub term-slot : (t : Term) (W : Slots) (s : ℕ) → slot_of W y ≡ some w → Among y (term_names t) → Among w.1 (used_term t W s)
    term-slot (number n) W s f m = absurd m
    term-slot (name x) W s f (inl e) = name-slot x W s f e
    term-slot (name x) W s f (inr m) = absurd m
    term-slot (group t) W s f m = term-slot t W s f m
    term-slot (prefix o t) W s f m = term-slot t W s f m
    term-slot (binary o t u) W s f m =
        either (term_names t) (term_names u) (used_term t W s) (used_term u W s) (λ h. term-slot t W s f h) (λ h. term-slot u W s f h) m
    term-slot (divided o t e) W s f m = term-slot t W s f m
    term-slot (listed ts) W s f m = items-slot ts W s f m
    term-slot (pairs ts) W s f m = pairs-slot ts W s f m
    term-slot (such x g p) W s f m = bound-slot x p W s f (λ e h. pred-slot p ((plain x, s) ∷ W) (next_slot s) e h) m
    term-slot (empty_set g) W s f m = absurd m
    term-slot (empty_pairs g h) W s f m = absurd m

    items-slot : (ts : Items) (W : Slots) (s : ℕ) → slot_of W y ≡ some w → Among y (items_names ts) → Among w.1 (used_items ts W s)
    items-slot (only t) W s f m = term-slot t W s f m
    items-slot (also t ts) W s f m =
        either (term_names t) (items_names ts) (used_term t W s) (used_items ts W s) (λ h. term-slot t W s f h) (λ h. items-slot ts W s f h) m

    pairs-slot : (ts : Pairs) (W : Slots) (s : ℕ) → slot_of W y ≡ some w → Among y (pairs_names ts) → Among w.1 (used_pairs ts W s)
    pairs-slot (only_pair t u) W s f m =
        either (term_names t) (term_names u) (used_term t W s) (used_term u W s) (λ h. term-slot t W s f h) (λ h. term-slot u W s f h) m
    pairs-slot (also_pair t u ts) W s f m =
        either (term_names t) (term_names u ++ pairs_names ts) (used_term t W s) (used_term u W s ++ used_pairs ts W s) (λ h. term-slot t W s f h)
        (λ k. either (term_names u) (pairs_names ts) (used_term u W s) (used_pairs ts W s) (λ h. term-slot u W s f h) (λ h. pairs-slot ts W s f h) k) m

    pub pred-slot : (p : Pred) (W : Slots) (s : ℕ) → slot_of W y ≡ some w → Among y (pred_names p) → Among w.1 (used_pred p W s)
    pred-slot truth W s f m = absurd m
    pred-slot falsity W s f m = absurd m
    pred-slot (negation p) W s f m = pred-slot p W s f m
    pred-slot (paren p) W s f m = pred-slot p W s f m
    pred-slot (quantified q x t p) W s f m = bound-slot x p W s f (λ e h. pred-slot p ((plain x, s) ∷ W) (next_slot s) e h) m
    pred-slot (connected o p q) W s f m =
        either (pred_names p) (pred_names q) (used_pred p W s) (used_pred q W s) (λ h. pred-slot p W s f h) (λ h. pred-slot q W s f h) m
    pred-slot (compared o t u) W s f m =
        either (term_names t) (term_names u) (used_term t W s) (used_term u W s) (λ h. term-slot t W s f h) (λ h. term-slot u W s f h) m
    pred-slot (member o t u) W s f m =
        either (term_names t) (term_names u) (used_term t W s) (used_term u W s) (λ h. term-slot t W s f h) (λ h. term-slot u W s f h) m
    pred-slot (within o t r) W s f m = term-slot t W s f m
    pred-slot (related o t u v) W s f m =
        either (term_names t) (term_names u ++ term_names v) (used_term t W s) (used_term u W s ++ used_term v W s) (λ h. term-slot t W s f h)
        (λ k. either (term_names u) (term_names v) (used_term u W s) (used_term v W s) (λ h. term-slot u W s f h) (λ h. term-slot v W s f h) k) m

-- ---- two bindings side by side with the slots

abbrev over : List Given → Binding → Environment
over gs B = record { givens = gs; values = B }

value-first : (gs : List Given) (b : Name × Value) (B : Binding) (x : Name) → same_name b.0 x ≡ true → value_of (over gs (b ∷ B)) x ≡ b.1
unfolding value_of find
value-first gs b B x e = rw (value_of, find, e)

value-later : (gs : List Given) (b : Name × Value) (B : Binding) (x : Name) → same_name b.0 x ≡ false → value_of (over gs (b ∷ B)) x ≡ value_of (over gs B) x
unfolding value_of find
value-later gs b B x e = rw (value_of, find, e)

-- a name has the same value in both, if its slot passes, where it has one
same-value : (P : ℕ → Type 0) (gs : List Given) (x : Name) (W : Slots) (B C : Binding) → Agree P W B C → ((w : Name × ℕ) → slot_of W x ≡ some w → P w.1)
    → value_of (over gs B) x ≡ value_of (over gs C) x
same-value P gs x _ _ _ agree_none h = refl
same-value P gs x _ _ _ (agree_more {w} {b} {c} {W} {B} {C} p q v a) h = go (same_name w.0 x) refl (same-value P gs x W B C a)
  where
    go : (t : Bool) → same_name w.0 x ≡ t → (((k : Name × ℕ) → slot_of W x ≡ some k → P k.1) → value_of (over gs B) x ≡ value_of (over gs C) x)
        → value_of (over gs (b ∷ B)) x ≡ value_of (over gs (c ∷ C)) x
    go true e r =
        value-first gs b B x (ap (λ (y : Name). same_name y x) (sym p) ∙ e) ∙ v (h w (slot-here w W x e))
        ∙ sym (value-first gs c C x (ap (λ (y : Name). same_name y x) (sym q) ∙ e))
    go false e r =
        value-later gs b B x (ap (λ (y : Name). same_name y x) (sym p) ∙ e) ∙ r (λ k f. h k (slot-there w W x e ∙ f))
        ∙ sym (value-later gs c C x (ap (λ (y : Name). same_name y x) (sym q) ∙ e))

fewer : (P Q : ℕ → Type 0) → ((s : ℕ) → Q s → P s) → (W : Slots) (B C : Binding) → Agree P W B C → Agree Q W B C
fewer P Q f _ _ _ agree_none = agree_none
fewer P Q f _ _ _ (agree_more {w} {b} {c} {W} {B} {C} p q v a) = agree_more p q (λ h. v (f w.1 h)) (fewer P Q f W B C a)

-- the law: two bindings that agree wherever the slot is used
pub frame-slots : (q : Pred) (gs : List Given) (W : Slots) (B C : Binding) → Agree (λ s. Among s (used_pred q W 38)) W B C
    → holds q (record { givens = gs; values = B }) ≡ holds q (record { givens = gs; values = C })
frame-slots q gs W B C a =
    frame-pred q (over gs B) (over gs C)
    (record { givens = refl; values = λ x m. same-value (λ s. Among s (used_pred q W 38)) gs x W B C a (λ w f. pred-slot x w q W 38 f m) })

-- a slot that is not used may have any value
pub free : (q : Pred) (gs : List Given) (W : Slots) (B C : Binding) (s : ℕ) → (Among s (used_pred q W 38) → ⊥) → Agree (λ t. (t ≡ s → ⊥)) W B C
    → holds q (record { givens = gs; values = B }) ≡ holds q (record { givens = gs; values = C })
free q gs W B C s n a =
    frame-slots q gs W B C
    (fewer (λ t. (t ≡ s → ⊥)) (λ t. Among t (used_pred q W 38)) (λ t m e. n (subst (λ (k : ℕ). Among k (used_pred q W 38)) e m)) W B C a)

-- ---- in terms of the slots' values: of one carrier, the code tells the value

abbrev shaped : Carrier → ℤ → Value
shaped (elements_of g) z = record { code = z; first = size_of g; second = 0 }
shaped (numbers a b) z = val.number z
shaped (subsets_of g) z = record { code = z; first = size_of g; second = 0 }
shaped (pairs_in a g h) z = record { code = z; first = size_of g; second = size_of h }

is-shaped : (c : Carrier) (v : Value) → Among v (values_of c) → v ≡ shaped c v.code
unfolding values_of element_values number_values
is-shaped (elements_of g) v m = every_map (λ (u : Value). u ≡ shaped (elements_of g) u.code) (val.element (size_of g)) (upward 0 (size_of g)) (λ k. refl) v m
is-shaped (numbers a b) v m =
    every_map (λ (u : Value). u ≡ shaped (numbers a b) u.code) (λ (k : ℕ). val.number (a +ℤ pos k)) (upward 0 (nat_abs (b -ℤ a) + 1)) (λ k. refl) v m
is-shaped (subsets_of g) v m = every_map (λ (u : Value). u ≡ shaped (subsets_of g) u.code) (val.set (size_of g)) (upward 0 (2 ^ size_of g)) (λ k. refl) v m
is-shaped (pairs_in a g h) v m =
    every_map (λ (u : Value). u ≡ shaped (pairs_in a g h) u.code) (val.pairs (size_of g) (size_of h)) (pair_sets a (size_of g) (size_of h)) (λ k. refl) v m

pub same_code : (c : Carrier) (u v : Value) → Among u (values_of c) → Among v (values_of c) → u.code ≡ v.code → u ≡ v
same_code c u v m n e = is-shaped c u m ∙ ap (shaped c) e ∙ sym (is-shaped c v n)

-- bindings over the same variables agree where the slots have equal values
pub slots-agree : (P : ℕ → Type 0) (vs : List Variable) (W : Slots) (B C : Binding) (σ τ : Values) → Slotted W B σ → Slotted W C τ → Over vs B → Over vs C
    → ((s : ℕ) → P s → get_or σ s (pos 0) ≡ get_or τ s (pos 0)) → Agree P W B C
unfolding Slotted Over
slots-agree P vs [] [] [] σ τ h k o r e = agree_none
slots-agree P vs [] [] (c ∷ C) σ τ h k o r e = absurd k
slots-agree P vs [] (b ∷ B) C σ τ h k o r e = absurd h
slots-agree P vs (w ∷ W) [] C σ τ h k o r e = absurd h
slots-agree P vs (w ∷ W) (b ∷ B) [] σ τ h k o r e = absurd k
slots-agree P [] (w ∷ W) (b ∷ B) (c ∷ C) σ τ h k o r e = absurd o
slots-agree P (v ∷ vs) (w ∷ W) (b ∷ B) (c ∷ C) σ τ h k o r e =
    agree_more h.0 k.0 (λ p. same_code v.carrier b.1 c.1 o.1 r.1 (sym h.1 ∙ e w.1 p ∙ k.1))
    (slots-agree P vs W B C σ τ h.2 k.2 o.2 r.2 e)

-- what a search counts on: with equal values in the slots that a conjunct uses, it holds in both or in neither
pub frame-values : (q : Pred) (Γ : Scope) (W : Slots) (ρ π : Environment) (σ τ : Values) → Held Γ W 0 ρ σ → Held Γ W 0 π τ
    → ((s : ℕ) → Among s (used_pred q W 38) → get_or σ s (pos 0) ≡ get_or τ s (pos 0)) → holds q ρ ≡ holds q π
frame-values q Γ W ρ π σ τ h k e =
    let a = slots-agree (λ s. Among s (used_pred q W 38)) Γ.reach W ρ.values π.values σ τ h.slotted k.slotted h.carried.over k.carried.over e in
    ap (λ (gs : List Given). holds q (over gs ρ.values)) h.carried.givens ∙ frame-slots q Γ.givens W ρ.values π.values a
    ∙ sym (ap (λ (gs : List Given). holds q (over gs π.values)) k.carried.givens)

-- the same for slots that changed, none of which is used
pub free-values : (Changed : ℕ → Type 0) (q : Pred) (Γ : Scope) (W : Slots) (ρ π : Environment) (σ τ : Values) → Held Γ W 0 ρ σ → Held Γ W 0 π τ
    → ((s : ℕ) → Changed s → Among s (used_pred q W 38) → ⊥) → ((s : ℕ) → (Changed s → ⊥) → get_or σ s (pos 0) ≡ get_or τ s (pos 0)) → holds q ρ ≡ holds q π
free-values Changed q Γ W ρ π σ τ h k n e = frame-values q Γ W ρ π σ τ h k (λ s m. e s (λ c. n s c m))
