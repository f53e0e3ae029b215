-- Some binding of a group, or of two groups, found among the numbers of bindings at a point, is some binding of the fixed order.
use mathlib.Core.Path.{◌≡◌, refl, sym, ap, ap₂, ◌∙◌}
use mathlib.Core.Bool.{Bool, true, false}
use mathlib.Core.Logic.{◌⊎◌, inl, inr}
use mathlib.Core.List.{List, [], ◌∷◌, ◌++◌, map}
use Prim.Native.Nat.{ℕ, ◌+◌, ◌*◌, ◌/◌, ◌%◌, ◌<◌}
use native.Mathlib.Nat.{mod-lt, div-lt_iff_lt-mul}
use native.Mathlib.Omega.{arith}
use lib.Arith.{digits_lt, digits_div, digits_mod}
use lib.ListN.{get_or, length}
use Rattle.lexical.specs.Lists.{any, upward}
use Rattle.std.specs.Cmp.{both_ways}
use Rattle.static_rules.specs.Carriers.{Variable}
use Rattle.static_rules.specs.Limits.{binding_count}
use Rattle.meaning.specs.Meaning.{Binding}
use Rattle.meaning.specs.Bindings.{Among, bindings}
use Rattle.meaning.proofs.Members.{among-append, any_found, any-put}
use Rattle.meaning.proofs.UpwardNumbers.{among-upward, upward-among, any-same}
use Rattle.carriers.specs.ValuesByNumber.{binding_at}
use Rattle.carriers.proofs.Bindings.{bindings-are, bindings-at}
use Rattle.slot_carriers.specs.Cells.{count_in}
use Rattle.slot_carriers.specs.CellGroups.{CellsOf}
use Rattle.part_tests.specs.PointsPoints.{Point, span, number_of, placed, Tame, Beside, Distinct}
use Rattle.part_tests.proofs.PointsPointNumbers.{Counts, number-low, number_append, number-placed, span-append, span-some, tame-placed, beside_placed, distinct-upward}
use Rattle.part_tests.proofs.PointsPointBindings.{span-count, group-counts}
use Rattle.part_tests.specs.NestStepsNestPromises.{some_binding}

-- ---- some number

-- a number of two digits
any-digits : (f : ℕ → ℕ → Bool) (a b : ℕ) → 0 < b → any (λ (n : ℕ). f (n / b) (n % b)) (upward 0 (a * b)) ≡ any (λ (i : ℕ). any (f i) (upward 0 b)) (upward 0 a)
any-digits f a b p = both_ways (any (λ (n : ℕ). f (n / b) (n % b)) (upward 0 (a * b))) (any (λ (i : ℕ). any (f i) (upward 0 b)) (upward 0 a)) there back
  where
    there : any (λ (n : ℕ). f (n / b) (n % b)) (upward 0 (a * b)) ≡ true → any (λ (i : ℕ). any (f i) (upward 0 b)) (upward 0 a) ≡ true
    there e =
        let (n, m, t) = any_found (λ (n : ℕ). f (n / b) (n % b)) (upward 0 (a * b)) e in
        let l : n < a * b = (let u = (among-upward 0 (a * b) n m).1 in omega arith) in
        let h : n / b < a = (div-lt_iff_lt-mul p).1 l in
        let k = mod-lt n p in
        any-put (λ (i : ℕ). any (f i) (upward 0 b)) (n / b) (upward 0 a) (upward-among 0 a (n / b) (omega arith) (omega arith))
        (any-put (f (n / b)) (n % b) (upward 0 b) (upward-among 0 b (n % b) (omega arith) (omega arith)) t)

    back : any (λ (i : ℕ). any (f i) (upward 0 b)) (upward 0 a) ≡ true → any (λ (n : ℕ). f (n / b) (n % b)) (upward 0 (a * b)) ≡ true
    back e =
        let (i, m, t) = any_found (λ (i : ℕ). any (f i) (upward 0 b)) (upward 0 a) e in
        let (j, k, u) = any_found (f i) (upward 0 b) t in
        let x : i < a = (let z = (among-upward 0 a i m).1 in omega arith) in
        let y : j < b = (let z = (among-upward 0 b j k).1 in omega arith) in
        let l = digits_lt x y in
        any-put (λ (n : ℕ). f (n / b) (n % b)) (i * b + j) (upward 0 (a * b)) (upward-among 0 (a * b) (i * b + j) (omega arith) (omega arith))
        (ap₂ f (digits_div i y) (digits_mod i y) ∙ u)

-- ---- some binding

any-map : {A B : Type 0} (f : B → Bool) (h : A → B) (xs : List A) → any f (map h xs) ≡ any (λ (x : A). f (h x)) xs
unfolding any
any-map f h [] = refl
any-map f h (x ∷ xs) = ap (λ (c : Bool). elim (f (h x)) [ true ↦ true | false ↦ c ]) (any-map f h xs)

-- of a list of bindings, by their numbers
any-bindings : (g : Binding → Bool) (vs : List Variable) → any g (bindings vs) ≡ any (λ (k : ℕ). g (get_or (bindings vs) k [])) (upward 0 (binding_count vs))
any-bindings g vs =
    ap (any g) (bindings-are vs) ∙ any-map g (binding_at vs) (upward 0 (binding_count vs))
    ∙ any-same (λ (k : ℕ). g (binding_at vs k)) (λ (k : ℕ). g (get_or (bindings vs) k [])) 0 (binding_count vs)
    (λ k h l. ap g (sym (bindings-at vs k [] (omega arith))))

pub counts-append : (cells os ks : List ℕ) → Counts cells os → Counts cells ks → Counts cells (os ++ ks)
counts-append cells os ks f g s m = go (among-append s os ks m)
  where
    go : Among s os ⊎ Among s ks → 0 < count_in cells s
    go (inl h) = f s h
    go (inr h) = g s h

-- at the point of each number
some_number : (cells ss : List ℕ) (P : Point → Bool) (δ : Point) → Tame cells δ → Distinct ss → Counts cells ss → (f : ℕ → Bool)
    → ((ε : Point) → Tame cells ε → Beside ss δ ε → P ε ≡ f (number_of cells ss ε)) → some_binding cells ss P δ ≡ any f (upward 0 (span cells ss))
unfolding some_binding
some_number cells ss P δ τ d c f h =
    any-same (λ (k : ℕ). P (placed cells ss δ k)) f 0 (span cells ss)
    (λ k l m.
    let low : k < span cells ss = omega arith in
    h (placed cells ss δ k) (tame-placed cells ss δ k τ c low) (beside_placed cells ss δ k) ∙ ap f (number-placed cells ss δ k d c low))

-- the law: some binding of a group
pub some-group : (cells : List ℕ) (base : ℕ) (vs : List Variable) → CellsOf cells base vs → (P : Point → Bool) (δ : Point) → Tame cells δ → (g : Binding → Bool)
    → ((ε : Point) → Tame cells ε → Beside (upward base (length vs)) δ ε → P ε ≡ g (get_or (bindings vs) (number_of cells (upward base (length vs)) ε) []))
    → some_binding cells (upward base (length vs)) P δ ≡ any g (bindings vs)
some-group cells base vs c P δ τ g h =
    some_number cells (upward base (length vs)) P δ τ (distinct-upward base (length vs)) (group-counts cells base vs c) (λ (k : ℕ). g (get_or (bindings vs) k [])) h
    ∙ ap (λ (n : ℕ). any (λ (k : ℕ). g (get_or (bindings vs) k [])) (upward 0 n)) (span-count cells base vs c) ∙ sym (any-bindings g vs)

-- and of two groups
pub some-groups : (cells : List ℕ) (a b : ℕ) (us vs : List Variable) → CellsOf cells a us → CellsOf cells b vs → Distinct (upward a (length us) ++ upward b (length vs))
    → (P : Point → Bool) (δ : Point) → Tame cells δ → (g : Binding → Binding → Bool)
    → ((ε : Point) → Tame cells ε → Beside (upward a (length us) ++ upward b (length vs)) δ ε
    → P ε ≡ g (get_or (bindings us) (number_of cells (upward a (length us)) ε) []) (get_or (bindings vs) (number_of cells (upward b (length vs)) ε) []))
    → some_binding cells (upward a (length us) ++ upward b (length vs)) P δ ≡ any (λ (x : Binding). any (g x) (bindings vs)) (bindings us)
some-groups cells a b us vs c e d P δ τ g h =
    let os : List ℕ = upward a (length us) in
    let ks : List ℕ = upward b (length vs) in
    let x : Counts cells os = group-counts cells a us c in
    let y : Counts cells ks = group-counts cells b vs e in
    let p : 0 < span cells ks = span-some cells ks y in
    let f : ℕ → ℕ → Bool = λ i j. g (get_or (bindings us) i []) (get_or (bindings vs) j []) in
    some_number cells (os ++ ks) P δ τ d (counts-append cells os ks x y) (λ (n : ℕ). f (n / span cells ks) (n % span cells ks))
    (λ ε t m.
    let l = number-low cells ks ε t y in
    h ε t m
    ∙ sym (ap₂ f (ap (λ (n : ℕ). n / span cells ks) (number_append cells os ks ε) ∙ digits_div (number_of cells os ε) l)
    (ap (λ (n : ℕ). n % span cells ks) (number_append cells os ks ε) ∙ digits_mod (number_of cells os ε) l)))
    ∙ ap (λ (n : ℕ). any (λ (n : ℕ). f (n / span cells ks) (n % span cells ks)) (upward 0 n)) (span-append cells os ks)
    ∙ any-digits f (span cells os) (span cells ks) p
    ∙ ap₂ (λ (m n : ℕ). any (λ (i : ℕ). any (f i) (upward 0 n)) (upward 0 m)) (span-count cells a us c) (span-count cells b vs e)
    ∙ any-same (λ (i : ℕ). any (f i) (upward 0 (binding_count vs))) (λ (i : ℕ). any (g (get_or (bindings us) i [])) (bindings vs)) 0 (binding_count us)
    (λ i l m. sym (any-bindings (g (get_or (bindings us) i [])) vs))
    ∙ sym (any-bindings (λ (z : Binding). any (g z) (bindings vs)) us)
