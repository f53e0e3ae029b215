-- Types by numbers: the tests of the definitions on types over given sets that there are, and those of the pass on their numbers.
use mathlib.Core.Path.{◌≡◌, refl, ap, ap₂, ◌∙◌, sym}
use mathlib.Core.Bool.{Bool, true, false, ◌&&◌, ◌||◌, false≢true}
use mathlib.Core.List.{List, [], ◌∷◌}
use mathlib.Core.Option.{some}
use Prim.Native.Nat.{ℕ, suc, ◌+◌, ◌*◌, ◌≤◌, ◌<◌}
use native.Mathlib.Omega.{arith}
use lib.Dec.{eqb}
use lib.ListN.{length}
use borrow.Author.Tests.{eqb-true, eqb-false, ne_eqb, eq-eqb, le-leb, lt-leb, lt-ltb, le-ltb}
use Rattle.lexical.specs.Lists.{same, any}
use Rattle.lexical.proofs.WordLaws.{same_refl, same_true}
use Rattle.form.specs.Tree.{Letters, Given, Prefix, negate, size, dom, ran, Operator, plus, minus, union, without, times, inter, Comparison, equals, differs, less, at_most}
use Rattle.declared_names.specs.StaticRulesTypes as ty
use Rattle.declared_names.specs.StaticRulesTypes.{Ty, has, same_over_type, same_type, is_any_set, are_numbers}
use Rattle.type_rules.specs.TypesByNumber as inner
use Rattle.type_rules.specs.TypesByNumber.{is_number, is_given, is_element, is_set, is_pairs, in_reach, set_of, pair_of, dom_of, ran_of}
use Rattle.names.proofs.ReachTables.{index_of, titled, type_code, Known, known_number, known_element, known_set, known_pairs, TypeIs}
use Rattle.names.proofs.TypesAgreeRanges.{both}
use Rattle.std.proofs.lemmas.Bool.{and_parts}

-- ---- given sets by their index ----

pub index_in : (gs : List Given) (x : Letters) → titled gs x ≡ true → index_of gs x < length gs
unfolding index_of any
index_in [] x h = absurd (false≢true h)
index_in (g ∷ gs) x h = on (same g.title x) (index_in gs x) h
  where
    on : (b : Bool) → (titled gs x ≡ true → index_of gs x < length gs) → ◌≡◌ {A = Bool} (elim b [ true ↦ true | false ↦ titled gs x ]) true
        → (elim b as (λ (c : Bool). ℕ) [ true ↦ 0 | false ↦ suc (index_of gs x) ]) < suc (length gs)
    on true r k = omega arith
    on false r k = omega (arith, r k)

-- given sets with one index are one
pub index_same : (gs : List Given) (x y : Letters) → titled gs x ≡ true → titled gs y ≡ true → index_of gs x ≡ index_of gs y → x ≡ y
unfolding index_of any
index_same [] x y h k e = absurd (false≢true h)
index_same (g ∷ gs) x y h k e = on (same g.title x) refl (same g.title y) refl (index_same gs x y) h k e
  where
    on : (b : Bool) → same g.title x ≡ b → (c : Bool) → same g.title y ≡ c
        → (titled gs x ≡ true → titled gs y ≡ true → index_of gs x ≡ index_of gs y → x ≡ y)
        → ◌≡◌ {A = Bool} (elim b [ true ↦ true | false ↦ titled gs x ]) true → ◌≡◌ {A = Bool} (elim c [ true ↦ true | false ↦ titled gs y ]) true
        → ◌≡◌ {A = ℕ} (elim b [ true ↦ 0 | false ↦ suc (index_of gs x) ]) (elim c [ true ↦ 0 | false ↦ suc (index_of gs y) ]) → x ≡ y
    on true p true q r h k e = sym (same_true g.title x p) ∙ same_true g.title y q
    on true p false q r h k e = absurd (omega arith)
    on false p true q r h k e = absurd (omega arith)
    on false p false q r h k e = r h k (omega arith)

-- ---- numbers of types ----

element-yes : (k : ℕ) → 16 ≤ k → k < 32 → is_element k ≡ true
unfolding is_element
element-yes k h l = ap₂ ◌&&◌ (le-leb 16 k h) (lt-ltb k 32 l)

element-no : (k : ℕ) → 32 ≤ k → is_element k ≡ false
unfolding is_element
element-no k h = ap₂ ◌&&◌ (le-leb 16 k (omega arith)) (le-ltb k 32 h)

two_digits : (a b c d : ℕ) → b < 8 → d < 8 → eqb (64 + 8 * a + b) (64 + 8 * c + d) ≡ (eqb (0 + a) (0 + c) && eqb (0 + b) (0 + d))
two_digits a b c d h k = on (eqb (0 + a) (0 + c)) refl (eqb (0 + b) (0 + d)) refl
  where
    on : (p : Bool) → eqb (0 + a) (0 + c) ≡ p → (q : Bool) → eqb (0 + b) (0 + d) ≡ q → eqb (64 + 8 * a + b) (64 + 8 * c + d) ≡ (p && q)
    on true e true f = eq-eqb (64 + 8 * a + b) (64 + 8 * c + d) (omega (arith, eqb-true (0 + a) (0 + c) e, eqb-true (0 + b) (0 + d) f))
    on true e false f = let ne : 0 + b ≡ 0 + d → ⊥ = eqb-false (0 + b) (0 + d) f in ne_eqb (64 + 8 * a + b) (64 + 8 * c + d) (omega (arith, eqb-true (0 + a) (0 + c) e))
    on false e q f = let ne : 0 + a ≡ 0 + c → ⊥ = eqb-false (0 + a) (0 + c) e in ne_eqb (64 + 8 * a + b) (64 + 8 * c + d) (omega arith)

pub and_true : (p q : Bool) → ((p && true) && q) ≡ (p && q)
and_true true q = refl
and_true false q = refl

-- an element's type
pub data ElementType (gs : List Given) : Ty → Type 0 where
  element_type : (g : Letters) → titled gs g ≡ true → ElementType gs (record { sort = ty.is_element; over = g ∷ [] })

pub element-type : {gs : List Given} {t : Ty} → Known gs t → has t ty.is_element ≡ true → ElementType gs t
unfolding has
element-type known_number e = absurd (false≢true e)
element-type (known_element {g = g} h) e = element_type g h
element-type (known_set h) e = absurd (false≢true e)
element-type (known_pairs h k) e = absurd (false≢true e)

module _ (gs : List Given) (few : length gs ≤ 8) where
  pub index-few : (g : Letters) → titled gs g ≡ true → index_of gs g < 8
  index-few g h = omega (arith, index_in gs g h)

  pub code-positive : {t : Ty} → Known gs t → 1 ≤ type_code gs t
  code-positive known_number = omega arith
  code-positive (known_element h) = omega arith
  code-positive (known_set h) = omega arith
  code-positive (known_pairs h k) = omega arith

  -- a type's number is no given set's, and that of a name in reach
  pub code-not-given : {t : Ty} → Known gs t → is_given (type_code gs t) ≡ false
  unfolding is_given
  code-not-given known_number = refl
  code-not-given (known_element {g = g} h) = ap₂ ◌&&◌ (le-leb 8 (16 + index_of gs g) (omega arith)) (le-ltb (16 + index_of gs g) 16 (omega arith))
  code-not-given (known_set {g = g} h) = ap₂ ◌&&◌ (le-leb 8 (32 + index_of gs g) (omega arith)) (le-ltb (32 + index_of gs g) 16 (omega arith))
  code-not-given (known_pairs {g = g} {h = h} p q) =
      ap₂ ◌&&◌ (le-leb 8 (64 + 8 * index_of gs g + index_of gs h) (omega arith)) (le-ltb (64 + 8 * index_of gs g + index_of gs h) 16 (omega arith))

  pub is-number : {t : Ty} → Known gs t → is_number (type_code gs t) ≡ has t ty.is_number
  unfolding is_number has
  is-number known_number = refl
  is-number (known_element {g = g} h) = ne_eqb (16 + index_of gs g) 1 (omega arith)
  is-number (known_set {g = g} h) = ne_eqb (32 + index_of gs g) 1 (omega arith)
  is-number (known_pairs {g = g} {h = h} p q) = ne_eqb (64 + 8 * index_of gs g + index_of gs h) 1 (omega arith)

  pub code-in-reach : {t : Ty} → Known gs t → in_reach (type_code gs t) ≡ true
  unfolding in_reach is_number
  code-in-reach known_number = refl
  code-in-reach (known_element {g = g} h) = ap₂ ◌||◌ (ne_eqb (16 + index_of gs g) 1 (omega arith)) (le-leb 16 (16 + index_of gs g) (omega arith))
  code-in-reach (known_set {g = g} h) = ap₂ ◌||◌ (ne_eqb (32 + index_of gs g) 1 (omega arith)) (le-leb 16 (32 + index_of gs g) (omega arith))
  code-in-reach (known_pairs {g = g} {h = h} p q) =
      ap₂ ◌||◌ (ne_eqb (64 + 8 * index_of gs g + index_of gs h) 1 (omega arith)) (le-leb 16 (64 + 8 * index_of gs g + index_of gs h) (omega arith))

  pub is-element : {t : Ty} → Known gs t → is_element (type_code gs t) ≡ has t ty.is_element
  unfolding is_element has
  is-element known_number = refl
  is-element (known_element {g = g} h) = element-yes (16 + index_of gs g) (omega arith) (omega (arith, index-few g h))
  is-element (known_set {g = g} h) = element-no (32 + index_of gs g) (omega arith)
  is-element (known_pairs {g = g} {h = h} p q) = element-no (64 + 8 * index_of gs g + index_of gs h) (omega arith)

  pub is-set : {t : Ty} → Known gs t → is_set (type_code gs t) ≡ is_any_set t
  unfolding is_set is_any_set has
  is-set known_number = refl
  is-set (known_element {g = g} h) = lt-leb 32 (16 + index_of gs g) (omega (arith, index-few g h))
  is-set (known_set {g = g} h) = le-leb 32 (32 + index_of gs g) (omega arith)
  is-set (known_pairs {g = g} {h = h} p q) = le-leb 32 (64 + 8 * index_of gs g + index_of gs h) (omega arith)

  pub is-pairs : {t : Ty} → Known gs t → is_pairs (type_code gs t) ≡ has t ty.is_pairs
  unfolding is_pairs has
  is-pairs known_number = refl
  is-pairs (known_element {g = g} h) = lt-leb 64 (16 + index_of gs g) (omega (arith, index-few g h))
  is-pairs (known_set {g = g} h) = lt-leb 64 (32 + index_of gs g) (omega (arith, index-few g h))
  is-pairs (known_pairs {g = g} {h = h} p q) = le-leb 64 (64 + 8 * index_of gs g + index_of gs h) (omega arith)

  -- types over one given set, and over two
  one_given : (c : ℕ) (g h : Letters) → titled gs g ≡ true → titled gs h ≡ true → eqb (c + index_of gs g) (c + index_of gs h) ≡ (same g h && true)
  one_given c g h p q = on (same g h) refl
    where
      on : (b : Bool) → same g h ≡ b → eqb (c + index_of gs g) (c + index_of gs h) ≡ (b && true)
      on true e = eq-eqb (c + index_of gs g) (c + index_of gs h) (ap (λ (x : Letters). c + index_of gs x) (same_true g h e))
      on false e =
          ne_eqb (c + index_of gs g) (c + index_of gs h)
          (λ k. absurd (false≢true (sym e ∙ ap (λ (x : Letters). same g x) (sym (index_same gs g h p q (omega arith))) ∙ same_refl g)))

  pub two-givens : (g h x y : Letters) → titled gs g ≡ true → titled gs h ≡ true → titled gs x ≡ true → titled gs y ≡ true
      → eqb (64 + 8 * index_of gs g + index_of gs h) (64 + 8 * index_of gs x + index_of gs y) ≡ (same g x && (same h y && true))
  two-givens g h x y p q r s =
      two_digits (index_of gs g) (index_of gs h) (index_of gs x) (index_of gs y) (index-few h q) (index-few y s)
      ∙ ap₂ ◌&&◌ (one_given 0 g x p r) (one_given 0 h y q s) ∙ and_true (same g x) (same h y && true)

  pub same-types : {t u : Ty} → Known gs t → Known gs u → eqb (type_code gs t) (type_code gs u) ≡ same_type t u
  unfolding same_type same_over_type has
  same-types known_number known_number = refl
  same-types known_number (known_element {g = g} h) = ne_eqb 1 (16 + index_of gs g) (omega arith)
  same-types known_number (known_set {g = g} h) = ne_eqb 1 (32 + index_of gs g) (omega arith)
  same-types known_number (known_pairs {g = g} {h = h} p q) = ne_eqb 1 (64 + 8 * index_of gs g + index_of gs h) (omega arith)
  same-types (known_element {g = g} h) known_number = ne_eqb (16 + index_of gs g) 1 (omega arith)
  same-types (known_element {g = g} h) (known_element {g = x} k) = one_given 16 g x h k
  same-types (known_element {g = g} h) (known_set {g = x} k) = ne_eqb (16 + index_of gs g) (32 + index_of gs x) (omega (arith, index-few g h))
  same-types (known_element {g = g} h) (known_pairs {g = x} {h = y} p q) = ne_eqb (16 + index_of gs g) (64 + 8 * index_of gs x + index_of gs y) (omega (arith, index-few g h))
  same-types (known_set {g = g} h) known_number = ne_eqb (32 + index_of gs g) 1 (omega arith)
  same-types (known_set {g = g} h) (known_element {g = x} k) = ne_eqb (32 + index_of gs g) (16 + index_of gs x) (omega (arith, index-few x k))
  same-types (known_set {g = g} h) (known_set {g = x} k) = one_given 32 g x h k
  same-types (known_set {g = g} h) (known_pairs {g = x} {h = y} p q) = ne_eqb (32 + index_of gs g) (64 + 8 * index_of gs x + index_of gs y) (omega (arith, index-few g h))
  same-types (known_pairs {g = x} {h = y} p q) known_number = ne_eqb (64 + 8 * index_of gs x + index_of gs y) 1 (omega arith)
  same-types (known_pairs {g = x} {h = y} p q) (known_element {g = g} h) = ne_eqb (64 + 8 * index_of gs x + index_of gs y) (16 + index_of gs g) (omega (arith, index-few g h))
  same-types (known_pairs {g = x} {h = y} p q) (known_set {g = g} h) = ne_eqb (64 + 8 * index_of gs x + index_of gs y) (32 + index_of gs g) (omega (arith, index-few g h))
  same-types (known_pairs {g = g} {h = h} p q) (known_pairs {g = x} {h = y} r s) = two-givens g h x y p q r s

  numbers_fit : {t u : Ty} → Known gs t → Known gs u → (is_number (type_code gs t) && is_number (type_code gs u)) ≡ are_numbers t u
  unfolding are_numbers
  numbers_fit a b = ap₂ ◌&&◌ (is-number a) (is-number b)

  sets-fit : {t u : Ty} → Known gs t → Known gs u → (is_set (type_code gs t) && eqb (type_code gs t) (type_code gs u)) ≡ (is_any_set t && same_type t u)
  sets-fit a b = ap₂ ◌&&◌ (is-set a) (same-types a b)

  pub prefix-fits : {t : Ty} (o : Prefix) → Known gs t → inner.prefix_fits o (type_code gs t) ≡ ty.prefix_fits o t
  unfolding inner.prefix_fits
  prefix-fits negate a = is-number a
  prefix-fits size a = is-set a
  prefix-fits dom a = is-pairs a
  prefix-fits ran a = is-pairs a

  pub operator-fits : {t u : Ty} (o : Operator) → Known gs t → Known gs u → inner.operator_fits o (type_code gs t) (type_code gs u) ≡ ty.operator_fits o t u
  unfolding inner.operator_fits
  operator-fits plus a b = numbers_fit a b
  operator-fits minus a b = numbers_fit a b
  operator-fits times a b = numbers_fit a b
  operator-fits union a b = sets-fit a b
  operator-fits without a b = sets-fit a b
  operator-fits inter a b = sets-fit a b

  pub comparison-fits : {t u : Ty} (o : Comparison) → Known gs t → Known gs u → inner.comparison_fits o (type_code gs t) (type_code gs u) ≡ ty.comparison_fits o t u
  unfolding inner.comparison_fits
  comparison-fits equals a b = same-types a b
  comparison-fits differs a b = same-types a b
  comparison-fits less a b = numbers_fit a b
  comparison-fits at_most a b = numbers_fit a b

  set_agrees : {t u : Ty} → ElementType gs t → Known gs u → eqb (type_code gs t + 16) (type_code gs u) ≡ same_type (ty.set_of t) u
  set_agrees {u = u} (element_type g h) b = ap (λ (n : ℕ). eqb n (type_code gs u)) (omega arith) ∙ same-types (known_set h) b

  pub member-fits : {t u : Ty} → Known gs t → Known gs u → inner.member_fits (type_code gs t) (type_code gs u) ≡ ty.member_fits t u
  unfolding inner.member_fits ty.member_fits
  member-fits {t} {u} a b =
      both (is_element (type_code gs t)) (eqb (type_code gs t + 16) (type_code gs u)) (has t ty.is_element) (same_type (ty.set_of t) u) (is-element a)
      (λ e. set_agrees (element-type a (sym (is-element a) ∙ e)) b)

  -- two elements' types make a type of pairs
  pub pair-of : (g h : Letters) → titled gs g ≡ true → titled gs h ≡ true → pair_of (16 + index_of gs g) (16 + index_of gs h) ≡ 64 + 8 * index_of gs g + index_of gs h
  unfolding pair_of
  pair-of g h p q =
      rw (element-yes (16 + index_of gs g) (omega arith) (omega (arith, index-few g p)), element-yes (16 + index_of gs h) (omega arith) (omega (arith, index-few h q)))
      (omega arith)

  pairs-agree : {t u v : Ty} → ElementType gs t → ElementType gs u → Known gs v → eqb (pair_of (type_code gs t) (type_code gs u)) (type_code gs v) ≡ same_type (ty.pairs_of_types t u) v
  pairs-agree {v = v} (element_type g h) (element_type x k) b = ap (λ (n : ℕ). eqb n (type_code gs v)) (pair-of g x h k) ∙ same-types (known_pairs h k) b

  pub related-fits : {t u v : Ty} → Known gs t → Known gs u → Known gs v → inner.related_fits (type_code gs t) (type_code gs u) (type_code gs v) ≡ ty.related_fits t u v
  unfolding inner.related_fits ty.related_fits
  related-fits {t} {u} {v} a b c =
      both (is_element (type_code gs t) && is_element (type_code gs u)) (eqb (pair_of (type_code gs t) (type_code gs u)) (type_code gs v))
      (has t ty.is_element && has u ty.is_element) (same_type (ty.pairs_of_types t u) v) (ap₂ ◌&&◌ (is-element a) (is-element b))
      (λ e. let h = and_parts (is_element (type_code gs t)) (is_element (type_code gs u)) e in
      pairs-agree (element-type a (sym (is-element a) ∙ h.0)) (element-type b (sym (is-element b) ∙ h.1)) c)

  pub set-type : {t : Ty} → Known gs t → has t ty.is_element ≡ true → TypeIs gs (some (ty.set_of t)) (set_of (type_code gs t))
  unfolding set_of
  set-type a e = on (element-type a e)
    where
      on : {u : Ty} → ElementType gs u → TypeIs gs (some (ty.set_of u)) (set_of (type_code gs u))
      on (element_type g h) = (rw (element-yes (16 + index_of gs g) (omega arith) (omega (arith, index-few g h))) (omega arith), known_set h)

  dom-of : (g h : Letters) → titled gs h ≡ true → dom_of (64 + 8 * index_of gs g + index_of gs h) ≡ 32 + index_of gs g
  unfolding dom_of is_pairs
  dom-of g h q = let l = index-few h q in rw (le-leb 64 (64 + 8 * index_of gs g + index_of gs h) (omega arith)) (omega arith)

  ran-of : (g h : Letters) → titled gs h ≡ true → ran_of (64 + 8 * index_of gs g + index_of gs h) ≡ 32 + index_of gs h
  unfolding ran_of is_pairs
  ran-of g h q = let l = index-few h q in rw (le-leb 64 (64 + 8 * index_of gs g + index_of gs h) (omega arith)) (omega arith)

  dom-type : {t : Ty} → Known gs t → has t ty.is_pairs ≡ true → TypeIs gs (some (ty.dom_of t)) (dom_of (type_code gs t))
  unfolding has
  dom-type known_number e = absurd (false≢true e)
  dom-type (known_element h) e = absurd (false≢true e)
  dom-type (known_set h) e = absurd (false≢true e)
  dom-type (known_pairs {g = g} {h = h} p q) e = (dom-of g h q, known_set p)

  ran-type : {t : Ty} → Known gs t → has t ty.is_pairs ≡ true → TypeIs gs (some (ty.ran_of t)) (ran_of (type_code gs t))
  unfolding has
  ran-type known_number e = absurd (false≢true e)
  ran-type (known_element h) e = absurd (false≢true e)
  ran-type (known_set h) e = absurd (false≢true e)
  ran-type (known_pairs {g = g} {h = h} p q) e = (ran-of g h q, known_set q)

  pub prefix-type : {t : Ty} (o : Prefix) → Known gs t → ty.prefix_fits o t ≡ true → TypeIs gs (some (ty.prefix_type o t)) (inner.prefix_type o (type_code gs t))
  unfolding inner.prefix_type
  prefix-type negate a e = (refl, known_number)
  prefix-type size a e = (refl, known_number)
  prefix-type dom a e = dom-type a e
  prefix-type ran a e = ran-type a e
