-- The bindings of a group of variables by the digits of their numbers, the last variable fastest. Assumes nothing.
use mathlib.Core.Path.{◌≡◌, refl, sym, ap, ap₂, subst, ◌∙◌}
use mathlib.Core.List.{List, [], ◌∷◌, map}
use Prim.Native.Nat.{ℕ, suc, ◌+◌, ◌*◌, ◌/◌, ◌%◌, ◌<◌, ◌≤◌}
use native.Mathlib.Nat.{zero-lt-suc, mul_assoc, mul-add-div_right, mul-add-mod_self_right, mod-eq_of_lt, mod-lt, div-add-mod', div-lt_iff_lt-mul, mul-lt-mul_of_pos_right, zero-mul}
use native.Mathlib.Decide.{dec_lt}
use native.Mathlib.Omega.{arith}
use Rattle.std.proofs.lemmas.List.{get_or_past}
use lib.Arith.{digits_div}
use lib.ListN.{length, get_or}
use Rattle.lexical.specs.Lists.{upward}
use Rattle.meaning.specs.StaticRulesCarriers.{Variable, count_of}
use Rattle.meaning.specs.Values as val
use Rattle.meaning.specs.Values.{Value}
use Rattle.meaning.specs.Meaning.{Binding}
use Rattle.meaning.specs.Bindings.{bindings, flat}
use Rattle.meaning.specs.StaticRulesLimits.{binding_count}
use Rattle.carriers.specs.ValuesByNumber.{value_at, digit, binding_at}
use Rattle.carriers.proofs.Upward.{map-length, map_get, flat-blocks}
use Rattle.carriers.proofs.Values.{values_are, count-some, values-once}

-- each group of variables has a binding
pub bindings-some : (vs : List Variable) → 0 < binding_count vs
unfolding binding_count
bindings-some [] = zero-lt-suc 0
bindings-some (v ∷ vs) =
    subst (λ (x : ℕ). x < count_of v.carrier * binding_count vs) (zero-mul (binding_count vs)) (mul-lt-mul_of_pos_right (count-some v.carrier) (bindings-some vs))

digit-again : (n m a j : ℕ) → 0 < n → digit n m (a * (m * n) + j) ≡ digit n m j
unfolding digit
digit-again n m a j h =
    ap (λ (x : ℕ). (x + j) / n % m) (sym (mul_assoc a m n)) ∙ ap (λ (x : ℕ). x % m) (mul-add-div_right h (a * m) j) ∙ mul-add-mod_self_right a m (j / n)

-- after as many numbers as there are bindings they come again
again : (vs : List Variable) (a j : ℕ) → binding_at vs (a * binding_count vs + j) ≡ binding_at vs j
unfolding binding_at binding_count
again [] a j = refl
again (v ∷ vs) a j =
    ap₂ (λ (x : ℕ) (b : Binding). (v.called, value_at v.carrier x) ∷ b)
    (digit-again (binding_count vs) (count_of v.carrier) a j (bindings-some vs))
    (ap (λ (x : ℕ). binding_at vs (x + j)) (sym (mul_assoc a (count_of v.carrier) (binding_count vs))) ∙ again vs (a * count_of v.carrier) j)

digit-of : (n m i j : ℕ) → i < m → j < n → digit n m (i * n + j) ≡ i
unfolding digit
digit-of n m i j h l = ap (λ (x : ℕ). x % m) (digits_div i l) ∙ mod-eq_of_lt h

-- the fixed order of a group's bindings is that of the numbers whose digits they are
pub bindings-are : (vs : List Variable) → bindings vs ≡ map (binding_at vs) (upward 0 (binding_count vs))
unfolding bindings binding_at binding_count upward
bindings-are [] = refl
bindings-are (v ∷ vs) =
    ap₂ (λ (bs : List Binding) (xs : List Value). flat (λ (x : Value). map (λ (b : Binding). (v.called, x) ∷ b) bs) xs) (bindings-are vs) (values_are v.carrier)
    ∙ flat-blocks (λ (x : Value) (b : Binding). (v.called, x) ∷ b) (value_at v.carrier) (binding_at vs) (binding_at (v ∷ vs)) (count_of v.carrier) (binding_count vs)
    (λ i j h l. sym (ap₂ (λ (k : ℕ) (b : Binding). (v.called, value_at v.carrier k) ∷ b) (digit-of (binding_count vs) (count_of v.carrier) i j h l) (again vs i j)))

pub bindings-count : (vs : List Variable) → length (bindings vs) ≡ binding_count vs
bindings-count vs = ap length (bindings-are vs) ∙ map-length (binding_at vs) 0 (binding_count vs)

pub bindings-at : (vs : List Variable) (k : ℕ) (d : Binding) → k < binding_count vs → get_or (bindings vs) k d ≡ binding_at vs k
bindings-at vs k d h = ap (λ (l : List Binding). get_or l k d) (bindings-are vs) ∙ map_get (binding_at vs) (binding_count vs) k d h

-- ---- what is listed, and what is not

digits_long : (vs : List Variable) (k : ℕ) → length (binding_at vs k) ≡ length vs
unfolding binding_at
digits_long [] k = refl
digits_long (v ∷ vs) k = ap suc (digits_long vs k)

-- a listed one has a value for each variable
pub binding-long : (vs : List Variable) (k : ℕ) → k < binding_count vs → length (get_or (bindings vs) k []) ≡ length vs
binding-long vs k h = ap length (bindings-at vs k [] h) ∙ digits_long vs k

-- one that is not listed is empty
pub beyond-empty : (vs : List Variable) (k : ℕ) → binding_count vs ≤ k → get_or (bindings vs) k [] ≡ []
beyond-empty vs k h = get_or_past (bindings vs) k [] (subst (λ (n : ℕ). n ≤ k) (sym (bindings-count vs)) h)

pub at-most : (vs : List Variable) (k : ℕ) → length (get_or (bindings vs) k []) ≤ length vs
at-most vs k =
    elim (dec_lt k (binding_count vs)) [
      | yes h ↦ (let e = binding-long vs k h in omega arith)
      | no h ↦ subst (λ (b : Binding). length b ≤ length vs) (sym (beyond-empty vs k (omega arith))) (omega arith)
    ]

-- ---- one to one

abbrev first_value : Binding → Value
first_value [] = val.element 0 0
first_value (b ∷ bs) = b.1

abbrev others : Binding → Binding
others [] = []
others (b ∷ bs) = bs

pub digit-below : (n m k : ℕ) → 0 < m → digit n m k < m
unfolding digit
digit-below n m k h = mod-lt (k / n) h

pub digit-small : (n m k : ℕ) → 0 < n → k < m * n → digit n m k ≡ k / n
unfolding digit
digit-small n m k p h = mod-eq_of_lt ((div-lt_iff_lt-mul p).1 h)

pub again_rest : (vs : List Variable) (k : ℕ) → binding_at vs (k % binding_count vs) ≡ binding_at vs k
again_rest vs k = sym (again vs (k / binding_count vs) (k % binding_count vs)) ∙ ap (binding_at vs) (div-add-mod' k (binding_count vs))

pub bindings-once : (vs : List Variable) (j k : ℕ) → j < binding_count vs → k < binding_count vs → binding_at vs j ≡ binding_at vs k → j ≡ k
unfolding binding_at binding_count
bindings-once [] j k u w e = omega arith
bindings-once (v ∷ vs) j k u w e =
    let n : ℕ = binding_count vs in
    let m : ℕ = count_of v.carrier in
    let p : 0 < n = bindings-some vs in
    let c : 0 < m = count-some v.carrier in
    let f : digit n m j ≡ digit n m k = values-once v.carrier (digit n m j) (digit n m k) (digit-below n m j c) (digit-below n m k c) (ap first_value e) in
    let q : j / n ≡ k / n = sym (digit-small n m j p u) ∙ f ∙ digit-small n m k p w in
    let r : j % n ≡ k % n = bindings-once vs (j % n) (k % n) (mod-lt j p) (mod-lt k p) (again_rest vs j ∙ ap others e ∙ sym (again_rest vs k)) in
    sym (div-add-mod' j n) ∙ ap₂ (λ (x y : ℕ). x * n + y) q r ∙ div-add-mod' k n
