-- The items of a brace, and its pairs: what their numbers have in common, and whether their types fit.
use mathlib.Core.Path.{◌≡◌, refl, ap, ap₂, ◌∙◌, sym}
use mathlib.Core.Bool.{Bool, true, false, ◌&&◌, cond, and-true, and-false, false≢true}
use mathlib.Core.List.{List, [], ◌∷◌}
use mathlib.Core.Option.{some}
use Prim.Native.Nat.{ℕ, ◌+◌, ◌-◌, ◌*◌, ◌≤◌}
use native.Mathlib.Omega.{arith}
use lib.Dec.{eqb}
use lib.ListN.{length}
use borrow.Author.Tests.{ne_eqb}
use Rattle.lexical.specs.Lists.{same, all}
use Rattle.form.specs.Tree.{Letters, Given}
use Rattle.declared_names.specs.StaticRulesTypes as ty
use Rattle.declared_names.specs.StaticRulesTypes.{Ty, has, same_over_type, same_type, brace_type, brace_fits, pairs_type, pairs_fit}
use Rattle.type_rules.specs.TypesByNumber.{is_element, set_of, pair_of, shared}
use Rattle.names.proofs.ReachTables.{index_of, titled, type_code, Known, TypeIs}
use Rattle.names.proofs.TypesAgreeTypes.{and_true, ElementType, element_type, element-type, code-positive, is-element, same-types, two-givens, set-type}
use Rattle.declared_names.proofs.StaticRulesSameTypes.{same-type}
use Rattle.std.proofs.lemmas.Bool.{and_parts}

cond_same : (b : Bool) (n : ℕ) → cond b n n ≡ n
cond_same true n = refl
cond_same false n = refl

shared-zero : (k : ℕ) → 1 ≤ k → shared k 0 ≡ 0
unfolding shared
shared-zero k h = rw (ne_eqb k 0 (omega arith))

-- one more item: its number is d if it is of the right sort (p), that of the items behind it is e if they fit (q and y), and s says whether it is of their type
step : (p q s : Bool) (d e : ℕ) (x y : Bool) → 1 ≤ d → (p ≡ true → q ≡ true → eqb d e ≡ s) → (s ≡ true → p ≡ q) → (s ≡ true → x ≡ y)
    → shared (cond p d 0) (cond (q && y) e 0) ≡ cond (p && (elim s as (λ (b : Bool). Bool) [ true ↦ x | false ↦ false ])) d 0
unfolding shared
step false q s d e x y h same_number same-sort same_rest = cond_same (eqb 0 (cond (q && y) e 0)) 0
step true q true d e x y h same_number same-sort same_rest = on q refl x y (same_rest refl)
  where
    on : (c : Bool) → q ≡ c → (x y : Bool) → x ≡ y → shared d (cond (c && y) e 0) ≡ cond x d 0
    on true r true true k = rw (same_number refl r)
    on true r true false k = absurd (false≢true (sym k))
    on true r false true k = absurd (false≢true k)
    on true r false false k = shared-zero d h
    on false r x y k = absurd (false≢true (sym r ∙ sym (same-sort refl)))
step true q false d e x y h same_number same-sort same_rest = on q refl y
  where
    on : (c : Bool) → q ≡ c → (y : Bool) → shared d (cond (c && y) e 0) ≡ 0
    on true r true = rw (same_number refl r)
    on true r false = shared-zero d h
    on false r y = shared-zero d h

-- the items of a brace have the number k in common
pub data Common (gs : List Given) : List Ty → ℕ → Type 0 where
  common : {t : Ty} {ts : List Ty} {k : ℕ} → Known gs t → k ≡ cond (all (same_type t) ts) (type_code gs t) 0 → Common gs (t ∷ ts) k

-- the number of pairs of two elements
abbrev pub pair_number : ℕ → ℕ → ℕ
pair_number k l = 64 + 8 * (k - 16) + (l - 16)

pub data CommonPairs (gs : List Given) : List (Ty × Ty) → ℕ → Type 0 where
  common_pairs : {t u : Ty} {ts : List (Ty × Ty)} {k : ℕ} → Known gs t → Known gs u
      → k ≡ cond (pairs_fit ((t, u) ∷ ts)) (pair_number (type_code gs t) (type_code gs u)) 0 → CommonPairs gs ((t, u) ∷ ts) k

-- the types of a brace of pairs that fit, and their number
pub record PairsType (gs : List Given) (ts : List (Ty × Ty)) (k : ℕ) : Type 0 where
  pub left : Letters
  pub right : Letters
  pub left_in : titled gs left ≡ true
  pub right_in : titled gs right ≡ true
  pub type_is : pairs_type ts ≡ record { sort = ty.is_pairs; over = left ∷ right ∷ [] }
  pub number_is : k ≡ 64 + 8 * index_of gs left + index_of gs right

module _ (gs : List Given) (few : length gs ≤ 8) where
  pub items-only : {t : Ty} {k : ℕ} → TypeIs gs (some t) k → Common gs (t ∷ []) k
  unfolding all
  items-only w = common w.1 w.0

  pub items-also : {t : Ty} {ts : List Ty} {k l : ℕ} → TypeIs gs (some t) k → Common gs ts l → Common gs (t ∷ ts) (shared k l)
  unfolding all
  items-also {t = t} w (common {t = u} {ts = us} b e) =
      common w.1 (ap₂ shared w.0 e
      ∙ step true true (same_type t u) (type_code gs t) (type_code gs u) (all (same_type t) us) (all (same_type u) us) (code-positive gs few w.1)
      (λ p q. same-types gs few w.1 b) (λ p. refl) (λ p. ap (λ (v : Ty). all (same_type v) us) (same-type t u p)))

  pub brace-fits : {ts : List Ty} {k : ℕ} → Common gs ts k → is_element k ≡ brace_fits ts
  unfolding brace_fits is_element
  brace-fits (common {t = t} {ts = ts} a e) = ap is_element e ∙ on (all (same_type t) ts)
    where
      on : (b : Bool) → is_element (cond b (type_code gs t) 0) ≡ (has t ty.is_element && b)
      on true = is-element gs few a ∙ sym (and-true (has t ty.is_element))
      on false = sym (and-false (has t ty.is_element))

  pub brace-type : {ts : List Ty} {k : ℕ} → Common gs ts k → brace_fits ts ≡ true → TypeIs gs (some (brace_type ts)) (set_of k)
  unfolding brace_fits
  brace-type (common {t = t} {ts = ts} a e) f =
      let h = and_parts (has t ty.is_element) (all (same_type t) ts) f in
      let w = set-type gs few a h.0 in
      (ap set_of (e ∙ ap (λ (b : Bool). cond b (type_code gs t) 0) h.1) ∙ w.0, w.1)

  -- ---- pairs ----

  pair_is : {t u : Ty} → Known gs t → Known gs u
      → pair_of (type_code gs t) (type_code gs u) ≡ cond (has t ty.is_element && has u ty.is_element) (pair_number (type_code gs t) (type_code gs u)) 0
  unfolding pair_of
  pair_is {t} {u} a b = ap (λ (c : Bool). cond c (pair_number (type_code gs t) (type_code gs u)) 0) (ap₂ ◌&&◌ (is-element gs few a) (is-element gs few b))

  same-pair : {t u v w : Ty} → ElementType gs t → ElementType gs u → ElementType gs v → ElementType gs w
      → eqb (pair_number (type_code gs t) (type_code gs u)) (pair_number (type_code gs v) (type_code gs w)) ≡ (same_type t v && same_type u w)
  unfolding same_type same_over_type has
  same-pair (element_type g p) (element_type h q) (element_type x r) (element_type y s) =
      ap₂ eqb (number g h) (number x y) ∙ two-givens gs few g h x y p q r s ∙ sym (and_true (same g x) (same h y && true))
    where
      number : (g h : Letters) → pair_number (16 + index_of gs g) (16 + index_of gs h) ≡ 64 + 8 * index_of gs g + index_of gs h
      number g h = omega arith

  both-elements : {t u : Ty} → Known gs t → Known gs u → (has t ty.is_element && has u ty.is_element) ≡ true → ElementType gs t × ElementType gs u
  both-elements {t} {u} a b e = let h = and_parts (has t ty.is_element) (has u ty.is_element) e in (element-type a h.0, element-type b h.1)

  pub pairs-only : {t u : Ty} {k l : ℕ} → TypeIs gs (some t) k → TypeIs gs (some u) l → CommonPairs gs ((t, u) ∷ []) (pair_of k l)
  unfolding pairs_fit all
  pairs-only {t = t} {u = u} v w =
      common_pairs v.1 w.1 (ap₂ pair_of v.0 w.0 ∙ pair_is v.1 w.1
      ∙ ap (λ (c : Bool). cond c (pair_number (type_code gs t) (type_code gs u)) 0) (sym (and-true (has t ty.is_element && has u ty.is_element))))

  pub pairs-also : {t u : Ty} {ts : List (Ty × Ty)} {k l m : ℕ} → TypeIs gs (some t) k → TypeIs gs (some u) l → CommonPairs gs ts m
      → CommonPairs gs ((t, u) ∷ ts) (shared (pair_of k l) m)
  unfolding pairs_fit all
  pairs-also {t = t} {u = u} v w (common_pairs {t = x} {u = y} {ts = ts} a b e) =
      common_pairs v.1 w.1 (ap₂ shared (ap₂ pair_of v.0 w.0 ∙ pair_is v.1 w.1) e
      ∙ step (has t ty.is_element && has u ty.is_element) (has x ty.is_element && has y ty.is_element) (same_type t x && same_type u y)
      (pair_number (type_code gs t) (type_code gs u)) (pair_number (type_code gs x) (type_code gs y)) (rest t u) (rest x y) (omega arith)
      (λ p q. let h = both-elements v.1 w.1 p in let k = both-elements a b q in same-pair h.0 h.1 k.0 k.1)
      (λ p. let h = and_parts (same_type t x) (same_type u y) p in
      ap₂ (λ (r s : Ty). has r ty.is_element && has s ty.is_element) (same-type t x h.0) (same-type u y h.1))
      (λ p. let h = and_parts (same_type t x) (same_type u y) p in ap₂ rest (same-type t x h.0) (same-type u y h.1)))
    where
      rest : Ty → Ty → Bool
      rest r s = all (λ (z : Ty × Ty). same_type r z.0 && same_type s z.1) ts

  pub pairs-type : {ts : List (Ty × Ty)} {k : ℕ} → CommonPairs gs ts k → pairs_fit ts ≡ true → PairsType gs ts k
  unfolding pairs_fit
  pairs-type (common_pairs {t = t} {u = u} {ts = ts} {k = k} a b e) f =
      let h = both-elements a b (and_parts (has t ty.is_element && has u ty.is_element) (all (λ (z : Ty × Ty). same_type t z.0 && same_type u z.1) ts) f).0 in
      on h.0 h.1 (e ∙ ap (λ (c : Bool). cond c (pair_number (type_code gs t) (type_code gs u)) 0) f)
    where
      on : {t u : Ty} → ElementType gs t → ElementType gs u → k ≡ pair_number (type_code gs t) (type_code gs u) → PairsType gs ((t, u) ∷ ts) k
      on (element_type g p) (element_type h q) n = record { left = g; right = h; left_in = p; right_in = q; type_is = refl; number_is = omega arith }

  pub pairs-misfit : {ts : List (Ty × Ty)} {k : ℕ} → CommonPairs gs ts k → pairs_fit ts ≡ false → k ≡ 0
  pairs-misfit (common_pairs {t = t} {u = u} a b e) f = e ∙ ap (λ (c : Bool). cond c (pair_number (type_code gs t) (type_code gs u)) 0) f
