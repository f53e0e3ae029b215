-- Laws of the tests and numbers of specs/TypesByNumber that the code of the pass computes one by one.
use mathlib.Core.Path.{◌≡◌, refl, sym, ap, ap₂, ◌∙◌}
use mathlib.Core.Bool.{Bool, true, false, ◌&&◌, cond}
use Prim.Native.Nat.{ℕ, ◌+◌, ◌-◌, ◌*◌, ◌/◌, ◌%◌, ◌≤◌, ◌<◌}
use native.Mathlib.Omega.{arith}
use native.Mathlib.Nat.{mul-le-mul}
use lib.Dec.{eqb, leb, ltb}
use borrow.Author.Tests.{leb-true, ltb-true, eq-eqb, ne_eqb}
use Rattle.std.proofs.lemmas.Bool.{and_from}
use Rattle.form.proofs.LexicalBooleanTests.{and_left, and_right}
use Rattle.std.specs.Prelude.{Some, None}
use Rattle.std.specs.Bool.{then_some}
use Rattle.lexical.specs.Kinds.{code_of}
use Rattle.form.specs.Tree.{Prefix, negate, size, dom, ran, Operator, plus, minus, union, without, times, inter, Comparison, equals, differs, less, at_most}
use Rattle.form.specs.Written.{prefix_kind, operator_kind, comparison_kind}
use Rattle.type_rules.specs.TypesByNumber.{is_free, is_number, is_given, is_element, is_set, is_pairs, given_in, pairs_in, set_of, pair_of, dom_of, ran_of, key, unless_key, lesser, inside_key}
use Rattle.type_rules.specs.TypesByNumber.{Sizes, product_fits, over_key, brace_key, prefix_fits, prefix_type, operator_fits, comparison_fits}

-- the branch taken
pub cond_yes : {A : Type 0} (b c : Bool) (x y : A) → b ≡ c → b ≡ true → cond c x y ≡ x
cond_yes b c x y e h = ap (λ (t : Bool). cond t x y) (sym e ∙ h)

pub cond_no : {A : Type 0} (b c : Bool) (x y : A) → b ≡ c → b ≡ false → cond c x y ≡ y
cond_no b c x y e h = ap (λ (t : Bool). cond t x y) (sym e ∙ h)

-- both tests, where the first holds, and where it does not
pub and_yes : (a b c d : Bool) → a ≡ c → b ≡ d → a ≡ true → b ≡ (c && d)
and_yes a b c d p q h = q ∙ sym (ap (λ (t : Bool). t && d) (sym p ∙ h))

pub and_no : (a c d : Bool) → a ≡ c → a ≡ false → a ≡ (c && d)
and_no a c d p h = h ∙ sym (ap (λ (t : Bool). t && d) (sym p ∙ h))

pub given-bounds : (k : ℕ) → is_given k ≡ true → (8 ≤ k) × (k < 16)
unfolding is_given
given-bounds k h = (leb-true 8 k (and_left (leb 8 k) (ltb k 16) h), ltb-true k 16 (and_right (leb 8 k) (ltb k 16) h))

pub element-bounds : (k : ℕ) → is_element k ≡ true → (16 ≤ k) × (k < 32)
unfolding is_element
element-bounds k h = (leb-true 16 k (and_left (leb 16 k) (ltb k 32) h), ltb-true k 32 (and_right (leb 16 k) (ltb k 32) h))

-- pairs of two elements, and where one of the two is none
pub paired : (k l : ℕ) → is_element k ≡ true → is_element l ≡ true → (64 + 8 * (k - 16) + (l - 16)) ≡ pair_of k l
unfolding pair_of
paired k l p q = rw (pair_of, p, q)

pub unpaired-first : (k l : ℕ) → is_element k ≡ false → 0 ≡ pair_of k l
unfolding pair_of
unpaired-first k l p = rw (pair_of, p)

pub unpaired-second : (k l : ℕ) → is_element l ≡ false → 0 ≡ pair_of k l
unfolding pair_of
unpaired-second k l q = by-first (is_element k)
  where
    by-first : (b : Bool) → 0 ≡ cond (b && is_element l) (64 + 8 * (k - 16) + (l - 16)) 0
    by-first true = rw q
    by-first false = refl

pub product_small : (a b : ℕ) → a < 65536 → b < 65536 → a * b < 4294967296
product_small a b h g = let w : a * b ≤ 65535 * 65535 = mul-le-mul {n₁ = a} {m₁ = b} {n₂ = 65535} {m₂ = 65535} (omega arith) (omega arith) in omega arith

-- what is some where a test holds
pub some-of : {A : Type 0} (b : Bool) (x y : A) → then_some b x ≡ Some y → (b ≡ true) × (y ≡ x)
some-of true x y e = (refl, let i : Some x ≡ Some y = e in cc)
some-of false x y e = absurd (let i : None ≡ Some y = e in cc)

pub none-of : {A : Type 0} (b : Bool) (x : A) → then_some b x ≡ None → b ≡ false
none-of true x e = absurd (let i : Some x ≡ None = e in cc)
none-of false x e = refl

pub set-of : (k : ℕ) → is_element k ≡ true → set_of k ≡ k + 16
unfolding set_of
set-of k h = rw (set_of, h)

-- the fault of pairs over two given sets
pub over-fault : (z : Sizes) (k l i g h m n r : ℕ) (f : Bool) → given_in k ≡ Some g → given_in l ≡ Some h → m ≡ g → n ≡ h
    → f ≡ product_fits z m n → r ≡ unless_key f (key i 11) → r ≡ over_key z k l i
unfolding over_key
over-fault z k l i g h m n r f p q mq nq fq rq =
    let u : (is_given k ≡ true) × (g ≡ k - 8) = some-of (is_given k) (k - 8) g p in
    let v : (is_given l ≡ true) × (h ≡ l - 8) = some-of (is_given l) (l - 8) h q in
    rq ∙ ap (λ (t : Bool). unless_key t (key i 11)) (fq ∙ ap₂ (λ (x y : ℕ). product_fits z x y) (mq ∙ u.1) (nq ∙ v.1))
    ∙ sym (cond_yes (is_given k && is_given l) (is_given k && is_given l) (unless_key (product_fits z (k - 8) (l - 8)) (key i 11)) 0 refl (and_from _ _ u.0 v.0))

pub no-first : (z : Sizes) (k l i : ℕ) → given_in k ≡ None → 0 ≡ over_key z k l i
unfolding over_key
no-first z k l i p = rw (over_key, none-of (is_given k) (k - 8) p)

pub no-second : (z : Sizes) (k l i : ℕ) → given_in l ≡ None → 0 ≡ over_key z k l i
unfolding over_key
no-second z k l i p = by-first (is_given k)
  where
    by-first : (b : Bool) → 0 ≡ cond (b && is_given l) (unless_key (product_fits z (k - 8) (l - 8)) (key i 11)) 0
    by-first true = rw (none-of (is_given l) (l - 8) p)
    by-first false = refl

-- the fault of a brace of pairs
pub brace-pairs : (z : Sizes) (k i g h m n w r : ℕ) (f : Bool) → pairs_in k ≡ Some (g, h) → m ≡ g → n ≡ h → w ≡ i
    → f ≡ product_fits z m n → r ≡ unless_key f (key w 11) → r ≡ brace_key z k i
unfolding brace_key
brace-pairs z k i g h m n w r f p mq nq wq fq rq =
    let u : (is_pairs k ≡ true) × ((g, h) ≡ ((k - 64) / 8, (k - 64) % 8)) = some-of (is_pairs k) ((k - 64) / 8, (k - 64) % 8) (g, h) p in
    rq ∙ ap₂ (λ (t : Bool) (j : ℕ). unless_key t (key j 11)) (fq ∙ ap₂ (λ (x y : ℕ). product_fits z x y) mq nq ∙ ap (λ (x : ℕ × ℕ). product_fits z x.0 x.1) u.1) wq
    ∙ sym (cond_yes (is_pairs k) (is_pairs k) (unless_key (product_fits z ((k - 64) / 8) ((k - 64) % 8)) (key i 11)) (key i 10) refl u.0)

pub brace-other : (z : Sizes) (k i w r : ℕ) → pairs_in k ≡ None → w ≡ i → r ≡ key w 10 → r ≡ brace_key z k i
unfolding brace_key
brace-other z k i w r p wq rq =
    rq ∙ ap (λ (j : ℕ). key j 10) wq
    ∙ sym (cond_no (is_pairs k) (is_pairs k) (unless_key (product_fits z ((k - 64) / 8) ((k - 64) % 8)) (key i 11)) (key i 10) refl (none-of (is_pairs k) ((k - 64) / 8, (k - 64) % 8) p))

-- the fault of a bound name
pub binder : (i old over w u b : ℕ) → w ≡ i → u ≡ unless_key (is_free old) (key (w + 1) 8) → b ≡ lesser u over
    → b ≡ lesser (unless_key (is_free old) (key (i + 1) 8)) over
binder i old over w u b p q r = r ∙ ap (λ (x : ℕ). lesser x over) (q ∙ ap (λ (n : ℕ). unless_key (is_free old) (key (n + 1) 8)) p)

-- the fault of a whole whose first part has one; and where that has none
pub inside-none : {b c body : ℕ} → b ≡ c → b ≡ 0 → body ≡ inside_key c body
inside-none {c = c} {body = body} e h = sym (ap (λ (t : Bool). cond t body c) (eq-eqb c 0 (sym e ∙ h)))

pub inside-some : {b c : ℕ} (body : ℕ) → b ≡ c → (b ≡ 0 → ⊥) → b ≡ inside_key c body
inside-some {c = c} body e h = e ∙ sym (ap (λ (t : Bool). cond t body c) (ne_eqb c 0 (λ q. h (e ∙ q))))

-- prefixes, operators and comparisons by the codes of their symbols
pub negate-fits : (o k : ℕ) → o ≡ 29 → (p : Prefix) → code_of (prefix_kind p) ≡ o → is_number k ≡ prefix_fits p k
unfolding code_of prefix_fits
negate-fits o k h negate e = refl
negate-fits o k h size e = absurd (omega arith)
negate-fits o k h dom e = absurd (omega arith)
negate-fits o k h ran e = absurd (omega arith)

pub size_fits : (o k : ℕ) → o ≡ 31 → (p : Prefix) → code_of (prefix_kind p) ≡ o → is_set k ≡ prefix_fits p k
unfolding code_of prefix_fits
size_fits o k h negate e = absurd (omega arith)
size_fits o k h size e = refl
size_fits o k h dom e = absurd (omega arith)
size_fits o k h ran e = absurd (omega arith)

pub side-fits : (o k : ℕ) → (o ≡ 29 → ⊥) → (o ≡ 31 → ⊥) → (p : Prefix) → code_of (prefix_kind p) ≡ o → is_pairs k ≡ prefix_fits p k
unfolding code_of prefix_fits
side-fits o k h g negate e = absurd (h (sym e))
side-fits o k h g size e = absurd (g (sym e))
side-fits o k h g dom e = refl
side-fits o k h g ran e = refl

pub dom-type : (o k r : ℕ) → o ≡ 63 → r ≡ dom_of k → (p : Prefix) → code_of (prefix_kind p) ≡ o → r ≡ prefix_type p k
unfolding code_of prefix_type
dom-type o k r h q negate e = absurd (omega arith)
dom-type o k r h q size e = absurd (omega arith)
dom-type o k r h q dom e = q
dom-type o k r h q ran e = absurd (omega arith)

pub ran-type : (o k r : ℕ) → o ≡ 64 → r ≡ ran_of k → (p : Prefix) → code_of (prefix_kind p) ≡ o → r ≡ prefix_type p k
unfolding code_of prefix_type
ran-type o k r h q negate e = absurd (omega arith)
ran-type o k r h q size e = absurd (omega arith)
ran-type o k r h q dom e = absurd (omega arith)
ran-type o k r h q ran e = q

pub number-type : (o k : ℕ) → (o ≡ 63 → ⊥) → (o ≡ 64 → ⊥) → (p : Prefix) → code_of (prefix_kind p) ≡ o → 1 ≡ prefix_type p k
unfolding code_of prefix_type
number-type o k h g negate e = refl
number-type o k h g size e = refl
number-type o k h g dom e = absurd (h (sym e))
number-type o k h g ran e = absurd (g (sym e))

pub numbers_fit : (o k l : ℕ) (b : Bool) → o < 31 → b ≡ (is_number k && is_number l) → (p : Operator) → code_of (operator_kind p) ≡ o → b ≡ operator_fits p k l
unfolding code_of operator_fits
numbers_fit o k l b h q plus e = q
numbers_fit o k l b h q minus e = q
numbers_fit o k l b h q union e = absurd (omega arith)
numbers_fit o k l b h q without e = absurd (omega arith)
numbers_fit o k l b h q times e = q
numbers_fit o k l b h q inter e = absurd (omega arith)

pub sets-fit : (o k l : ℕ) (b : Bool) → (28 ≤ o → o < 31 → ⊥) → b ≡ (is_set k && eqb k l) → (p : Operator) → code_of (operator_kind p) ≡ o → b ≡ operator_fits p k l
unfolding code_of operator_fits
sets-fit o k l b h q plus e = absurd (h (omega arith) (omega arith))
sets-fit o k l b h q minus e = absurd (h (omega arith) (omega arith))
sets-fit o k l b h q union e = q
sets-fit o k l b h q without e = q
sets-fit o k l b h q times e = absurd (h (omega arith) (omega arith))
sets-fit o k l b h q inter e = q

pub equal-fits : (o k l : ℕ) → o < 24 → (p : Comparison) → code_of (comparison_kind p) ≡ o → eqb k l ≡ comparison_fits p k l
unfolding code_of comparison_fits
equal-fits o k l h equals e = refl
equal-fits o k l h differs e = refl
equal-fits o k l h less e = absurd (omega arith)
equal-fits o k l h at_most e = absurd (omega arith)

pub order-fits : (o k l : ℕ) (b : Bool) → (22 ≤ o → o < 24 → ⊥) → b ≡ (is_number k && is_number l) → (p : Comparison) → code_of (comparison_kind p) ≡ o → b ≡ comparison_fits p k l
unfolding code_of comparison_fits
order-fits o k l b h q equals e = absurd (h (omega arith) (omega arith))
order-fits o k l b h q differs e = absurd (h (omega arith) (omega arith))
order-fits o k l b h q less e = q
order-fits o k l b h q at_most e = q
