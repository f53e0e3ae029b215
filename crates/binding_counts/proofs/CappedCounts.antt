-- Products of counts that stop at a limit, and a walk over declarations that multiplies their counts.
use mathlib.Core.Path.{◌≡◌, refl, ap, ap₂, sym, subst, ◌∙◌}
use mathlib.Core.Bool.{Bool, true, false, cond}
use mathlib.Core.List.{List, [], ◌∷◌, ◌++◌}
use Prim.Native.Nat.{ℕ, zero, suc, ◌+◌, ◌-◌, ◌*◌, ◌^◌, ◌%◌, ◌≤◌, ◌<◌}
use native.Mathlib.Nat.{mul-le-mul}
use native.Mathlib.Omega.{arith}
use lib.Dec.{eqb, leb}
use lib.ListN.{length, drop, get_or}
use borrow.Author.Tests.{leb-true, leb-false, lt-leb, eq-eqb, ne_eqb}
use Rattle.form.specs.Tree.{TypeForm, given_type, power_type, range_type, arrow_type, relation, partial, total}
use Rattle.form.specs.Codes.{Numbering, node, name_number, type_codes}
use Rattle.type_rules.specs.TypesByNumber.{Names, Sizes}
use Rattle.names.specs.DeclaredNamesNamesByNumber.{Typed}
use Rattle.names.proofs.DeclaredNamesNodePieces.{Ends, place, whole}
use Rattle.names.proofs.DeclaredNamesDeclarationNodes.{node-a, node-b, node-shape, shape_of, place_of, left_of, right_of, as-node, typed-type, of-piece, walked-on, Walked, start, finished}
use Rattle.binding_counts.specs.BindingsByNumber.{cap, size_at, counted_by, type_count, typed_factor, typed_count, TypeCounted, FactorCounted, GroupCounted}

-- ---- the limit ----

pub cap-low : (c n : ℕ) → n ≤ c + 1 → cap c n ≡ n
unfolding cap
cap-low c n h = omega arith

pub cap-high : (c n : ℕ) → c < n → cap c n ≡ c + 1
unfolding cap
cap-high c n h = omega arith

pub cap-small : (c n : ℕ) → cap c n ≤ c + 1
unfolding cap
cap-small c n = omega arith

pub cap-twice : (c n : ℕ) → cap c (cap c n) ≡ cap c n
cap-twice c n = cap-low c (cap c n) (cap-small c n)

-- a count is over the limit exactly if what is kept of it is
pub cap-leb : (c n r : ℕ) → r ≡ cap c n → leb r c ≡ leb n c
cap-leb c n r e = go (leb n c) refl
  where
    go : (b : Bool) → leb n c ≡ b → leb r c ≡ leb n c
    go true h = let l = leb-true n c h in ap (λ (m : ℕ). leb m c) (e ∙ cap-low c n (omega arith))
    go false h = let l = leb-false n c h in lt-leb r c (omega (arith, e, cap-high c n l)) ∙ sym h

grows : (a r : ℕ) → 1 ≤ r → a ≤ a * r
grows a zero h = omega arith
grows a (suc r) h = omega arith

over : (c n m : ℕ) → c < n → cap c ((c + 1) * m) ≡ cap c (n * m)
over c n zero h = ap (cap c) (omega arith)
over c n (suc m) h =
    cap-high c ((c + 1) * suc m) (omega (arith, grows (c + 1) (suc m) (omega arith))) ∙ sym (cap-high c (n * suc m) (omega (arith, grows n (suc m) (omega arith))))

-- what is multiplied may be cut before
pub cap-step : (c n m : ℕ) → cap c (cap c n * m) ≡ cap c (n * m)
cap-step c n m = go (leb n c) refl
  where
    go : (b : Bool) → leb n c ≡ b → cap c (cap c n * m) ≡ cap c (n * m)
    go true h = let l = leb-true n c h in ap (λ (k : ℕ). cap c (k * m)) (cap-low c n (omega arith))
    go false h = let l = leb-false n c h in ap (λ (k : ℕ). cap c (k * m)) (cap-high c n l) ∙ over c n m l

cap-other : (c f g n : ℕ) → cap c f ≡ cap c g → cap c (f * n) ≡ cap c (g * n)
cap-other c f g n e = sym (cap-step c f n) ∙ ap (λ (k : ℕ). cap c (k * n)) e ∙ cap-step c g n

-- one factor more: f stands for g, and m is what stands behind
pub cap-factor : (c n f g m r : ℕ) → cap c f ≡ cap c g → r ≡ cap c (n * f) → cap c (n * (g * m)) ≡ cap c (r * m)
cap-factor c n f g m r e q =
    let first : n * (g * m) ≡ g * (n * m) = omega arith in
    let last : f * (n * m) ≡ (n * f) * m = omega arith in
    ap (cap c) first ∙ sym (cap-other c f g (n * m) e) ∙ ap (cap c) last ∙ sym (cap-step c (n * f) m) ∙ sym (ap (λ (k : ℕ). cap c (k * m)) q)

-- the product of the code fits
pub squares-fit : (n m : ℕ) → n < 65536 → m < 65536 → n * m ≤ 4294836225
squares-fit n m p q = mul-le-mul {n₁ = n} {m₁ = m} {n₂ = 65535} {m₂ = 65535} (omega arith) (omega arith)

-- ---- a type's node ----

count_by : (t : TypeForm) (T : Names) (ρ : Numbering) (z : Sizes) → counted_by (shape_of t) (left_of t ρ) (right_of t ρ) T z ≡ type_count t T ρ z
unfolding counted_by type_count
count_by (given_type g) T ρ z = refl
count_by (range_type r) T ρ z = refl
count_by (power_type g) T ρ z = refl
count_by (arrow_type relation g h) T ρ z = refl
count_by (arrow_type partial g h) T ρ z = refl
count_by (arrow_type total g h) T ρ z = refl

pub type-counted : (code : List ℕ) (at c : ℕ) (T : Names) (z : Sizes) (r : ℕ) → cap c r ≡ cap c (counted_by (get_or code (at + 3) 0) (get_or code (at + 1) 0) (get_or code at 0) T z)
    → TypeCounted code at c T z r
type-counted code at c T z r q t i ρ rest e =
    let n : drop at code ≡ node (shape_of t) (place_of t i) (left_of t ρ) (right_of t ρ) ++ rest = e ∙ ap (λ (l : List ℕ). l ++ rest) (as-node t i ρ) in
    let k = node-shape code at (shape_of t) (place_of t i) (left_of t ρ) (right_of t ρ) rest n in
    let a = node-a code at (shape_of t) (place_of t i) (left_of t ρ) (right_of t ρ) rest n in
    let b = node-b code at (shape_of t) (place_of t i) (left_of t ρ) (right_of t ρ) rest n in
    q ∙ (rw (k, a, b) (ap (cap c) (count_by t T ρ z)))

module _ (s a b : ℕ) (T : Names) (z : Sizes) where
  pub count-one : s ≡ 1 → size_at T z a ≡ counted_by s a b T z
  unfolding counted_by
  count-one e = sym (ap (λ (n : ℕ). counted_by n a b T z) e)

  pub count-two : s ≡ 2 → b - a + 1 ≡ counted_by s a b T z
  unfolding counted_by
  count-two e = sym (ap (λ (n : ℕ). counted_by n a b T z) e)

  pub count-three : s ≡ 3 → 2 ^ size_at T z a ≡ counted_by s a b T z
  unfolding counted_by
  count-three e = sym (ap (λ (n : ℕ). counted_by n a b T z) e)

  pub count-four : s ≡ 4 → 2 ^ (size_at T z a * size_at T z b) ≡ counted_by s a b T z
  unfolding counted_by
  count-four e = sym (ap (λ (n : ℕ). counted_by n a b T z) e)

  pub count-five : s ≡ 5 → (size_at T z b + 1) ^ size_at T z a ≡ counted_by s a b T z
  unfolding counted_by
  count-five e = sym (ap (λ (n : ℕ). counted_by n a b T z) e)

  pub count-else : (s ≡ 1 → ⊥) → (s ≡ 2 → ⊥) → (s ≡ 3 → ⊥) → (s ≡ 4 → ⊥) → (s ≡ 5 → ⊥) → size_at T z b ^ size_at T z a ≡ counted_by s a b T z
  unfolding counted_by
  count-else n₁ n₂ n₃ n₄ n₅ = rw (counted_by, ne_eqb s 1 n₁, ne_eqb s 2 n₂, ne_eqb s 3 n₃, ne_eqb s 4 n₄, ne_eqb s 5 n₅)

-- a power of the code, by its base and exponent
pub power-counted : (c b k b' k' v r : ℕ) → r ≡ cap c (b ^ k) → b ≡ b' → k ≡ k' → b' ^ k' ≡ v → cap c r ≡ cap c v
power-counted c b k b' k' v r e p q h = ap (cap c) (e ∙ ap₂ (λ (m n : ℕ). cap c (m ^ n)) p q ∙ ap (cap c) h) ∙ cap-twice c v

-- ---- one declaration ----

pub factor-same : (code : List ℕ) (at e c : ℕ) (T : Names) (z : Sizes) (r : ℕ) → get_or code (at + 1) 0 % 4 ≡ e → TypeCounted code (at + 4) c T z r → FactorCounted code at e c T z r
factor-same code at e c T z r q h x i ρ rest d =
    let a = node-a code at 6 i (name_number ρ x.called) 0 (type_codes x.type (i + 2) ρ ++ rest) d in
    let yes : eqb (name_number ρ x.called % 4) e ≡ true = eq-eqb (name_number ρ x.called % 4) e (sym (ap (λ (n : ℕ). n % 4) a) ∙ q) in
    h x.type (i + 2) ρ rest (typed-type code at x i ρ rest d) ∙ sym (ap (λ (b : Bool). cap c (cond b (type_count x.type T ρ z) 1)) yes)

pub factor_other : (code : List ℕ) (at e c : ℕ) (T : Names) (z : Sizes) → (get_or code (at + 1) 0 % 4 ≡ e → ⊥) → FactorCounted code at e c T z 1
factor_other code at e c T z q x i ρ rest d =
    let a = node-a code at 6 i (name_number ρ x.called) 0 (type_codes x.type (i + 2) ρ ++ rest) d in
    let no : eqb (name_number ρ x.called % 4) e ≡ false = ne_eqb (name_number ρ x.called % 4) e (λ h. q (ap (λ (n : ℕ). n % 4) a ∙ h)) in
    sym (ap (λ (b : Bool). cap c (cond b (type_count x.type T ρ z) 1)) no)

-- ---- the walk: what is left of the declarations multiplies what was counted to the product of all ----

abbrev pub multiplied : (e c : ℕ) (T : Names) (z : Sizes) → List Typed → ℕ → List ℕ → Numbering → ℕ
multiplied e c T z xs i n ρ = cap c (get_or n 0 0 * typed_count e xs T ρ z)

abbrev pub Counting : (e c : ℕ) (T : Names) (z : Sizes) (code : List ℕ) (at n : ℕ) → Type 0
Counting e c T z code at n = Walked (multiplied e c T z) code at (1 ∷ []) (n ∷ [])

module _ (e c : ℕ) (T : Names) (z : Sizes) (code : List ℕ) where
  pub counting-start : (rest : List ℕ) → rest ≡ code → Ends code rest × Counting e c T z code (place code rest) 1
  counting-start rest q =
      let none : length code - length code ≡ 0 = omega arith in
      subst (λ (l : List ℕ). Ends code l × Counting e c T z code (place code l) 1) (sym q)
      (whole code, subst (λ (k : ℕ). Counting e c T z code k 1) (sym none) (start (multiplied e c T z) code (1 ∷ [])))

  pub counting-on : (d rest behind : List ℕ) (n f r : ℕ) → rest ≡ d ++ behind → length d ≡ 8 → Ends code rest → FactorCounted d 0 e c T z f → r ≡ cap c (n * f)
      → Counting e c T z code (place code rest) n → Counting e c T z code (place code behind) r
  unfolding typed_count
  counting-on d rest behind n f r cut long at h q w =
      walked-on code d rest behind cut long at (multiplied e c T z) (1 ∷ []) (n ∷ []) (r ∷ []) w
      (λ ρ x xs j rest' p. cap-factor c n f (typed_factor e x T ρ z) (typed_count e xs T ρ z) r (of-piece code d rest behind cut long at {P = λ y k σ. cap c f ≡ cap c (typed_factor e y T σ z)} h x j ρ rest' p) q)

  pub counting-end : (at n : ℕ) → n ≤ c + 1 → length code < at + 8 → Counting e c T z code at n → GroupCounted code e c T z n
  unfolding typed_count
  counting-end at n small room w xs i ρ d =
      let one : n * 1 ≡ n = omega arith in
      let all : 1 * typed_count e xs T ρ z ≡ typed_count e xs T ρ z = omega arith in
      finished (multiplied e c T z) code at (1 ∷ []) (n ∷ []) n w room (λ j ρ'. ap (cap c) one ∙ cap-low c n small) xs i ρ d ∙ ap (cap c) all
