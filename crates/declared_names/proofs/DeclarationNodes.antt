-- Declarations by their nodes: what a declared type's node holds, and a walk over declarations.
use mathlib.Core.Path.{◌≡◌, refl, ap, ap₂, sym, ◌∙◌, subst}
use mathlib.Core.Bool.{Bool, true, cond}
use mathlib.Core.List.{List, [], ◌∷◌, ◌++◌, append-nil}
use Prim.Native.Nat.{ℕ, ◌+◌, ◌-◌, ◌≤◌, ◌<◌}
use native.Mathlib.Nat.{add-zero}
use native.Mathlib.Omega.{arith}
use lib.Dec.{eqb}
use lib.ListN.{length, drop, get_or, set, length-drop, length-append}
use lib.Seq.{get_or-drop, drop-drop, drop_at}
use borrow.Author.Tests.{ne_eqb}
use Rattle.form.specs.Tree.{TypeForm, given_type, power_type, range_type, arrow_type, relation, partial, total}
use Rattle.form.specs.Codes.{Numbering, node, name_number, end_number, end_width, arrow_number, type_codes, type_width}
use Rattle.type_rules.specs.TypesByNumber.{Names, Sizes, entry, is_free, lesser, is_given, element_of, set_of, pair_of, key, unless_key, range_fits, product_fits, over_key, domain_key}
use Rattle.type_rules.proofs.TypeNumbers.{inside-none, inside-some}
use Rattle.declared_names.specs.NamesByNumber.{Typed, typed_codes, type_kind, type_key, shown, hidden, declared_key}
use Rattle.declared_names.specs.PassPromises.{TypeKinded, TypeFaulted, pairs_key_at, typed_code, DeclarationFaulted, Reached}
use Rattle.declared_names.proofs.NodePieces.{Ends, place, place-on, room, piece-is}

-- what a node holds
module _ (code : List ℕ) (at k i a b : ℕ) (rest : List ℕ) (e : drop at code ≡ node k i a b ++ rest) where
  pub node-b : get_or code at 0 ≡ b
  node-b = ap (λ (n : ℕ). get_or code n 0) (sym (add-zero at)) ∙ (sym (get_or-drop at code 0 0) ∙ ap (λ (l : List ℕ). get_or l 0 0) e)

  pub node-a : get_or code (at + 1) 0 ≡ a
  node-a = sym (get_or-drop at code 1 0) ∙ ap (λ (l : List ℕ). get_or l 1 0) e

  pub node-place : get_or code (at + 2) 0 ≡ i
  node-place = sym (get_or-drop at code 2 0) ∙ ap (λ (l : List ℕ). get_or l 2 0) e

  pub node-shape : get_or code (at + 3) 0 ≡ k
  node-shape = sym (get_or-drop at code 3 0) ∙ ap (λ (l : List ℕ). get_or l 3 0) e

-- the node of a type
abbrev pub shape_of : TypeForm → ℕ
shape_of (given_type g) = 1
shape_of (range_type r) = 2
shape_of (power_type g) = 3
shape_of (arrow_type a g h) = arrow_number a

abbrev pub place_of : TypeForm → ℕ → ℕ
place_of (given_type g) i = i
place_of (range_type r) i = i + end_width r.lower
place_of (power_type g) i = i
place_of (arrow_type a g h) i = i

abbrev pub left_of : TypeForm → Numbering → ℕ
left_of (given_type g) ρ = name_number ρ g
left_of (range_type r) ρ = end_number r.lower
left_of (power_type g) ρ = name_number ρ g
left_of (arrow_type a g h) ρ = name_number ρ g

abbrev pub right_of : TypeForm → Numbering → ℕ
right_of (given_type g) ρ = 0
right_of (range_type r) ρ = end_number r.upper
right_of (power_type g) ρ = 0
right_of (arrow_type a g h) ρ = name_number ρ h

pub as-node : (t : TypeForm) (i : ℕ) (ρ : Numbering) → type_codes t i ρ ≡ node (shape_of t) (place_of t i) (left_of t ρ) (right_of t ρ)
as-node (given_type g) i ρ = refl
as-node (range_type r) i ρ = refl
as-node (power_type g) i ρ = refl
as-node (arrow_type a g h) i ρ = refl

-- kind and fault of a type by the numbers of its node
unfoldable pub kind_by : (shape x y : ℕ) → ℕ
kind_by s x y = cond (eqb s 1) (element_of x) (cond (eqb s 2) 1 (cond (eqb s 3) (set_of (element_of x)) (pair_of (element_of x) (element_of y))))

unfoldable pub key_by : (shape i a b x y : ℕ) → Sizes → ℕ
key_by s i a b x y z =
    cond (eqb s 1) (unless_key (is_given x) (key i 9))
    (cond (eqb s 2) (unless_key (range_fits a b) (key i 11)) (cond (eqb s 3) (unless_key (is_given x) (key (i + 1) 9)) (pairs_key_at i x y z)))

kind-by : (t : TypeForm) (T : Names) (ρ : Numbering) → kind_by (shape_of t) (entry T (left_of t ρ)) (entry T (right_of t ρ)) ≡ type_kind t T ρ
unfolding kind_by type_kind
kind-by (given_type g) T ρ = refl
kind-by (range_type r) T ρ = refl
kind-by (power_type g) T ρ = refl
kind-by (arrow_type relation g h) T ρ = refl
kind-by (arrow_type partial g h) T ρ = refl
kind-by (arrow_type total g h) T ρ = refl

key-by : (t : TypeForm) (T : Names) (ρ : Numbering) (z : Sizes) (i : ℕ)
    → key_by (shape_of t) (place_of t i) (left_of t ρ) (right_of t ρ) (entry T (left_of t ρ)) (entry T (right_of t ρ)) z ≡ type_key t T ρ z i
unfolding key_by type_key domain_key pairs_key_at
key-by (given_type g) T ρ z i = refl
key-by (range_type r) T ρ z i = refl
key-by (power_type g) T ρ z i = refl
key-by (arrow_type relation g h) T ρ z i = refl
key-by (arrow_type partial g h) T ρ z i = refl
key-by (arrow_type total g h) T ρ z i = refl

pub kinded : (code : List ℕ) (at : ℕ) (T : Names) (r : ℕ)
    → r ≡ kind_by (get_or code (at + 3) 0) (entry T (get_or code (at + 1) 0)) (entry T (get_or code at 0)) → TypeKinded code at T r
kinded code at T r q t i ρ rest e =
    let n : drop at code ≡ node (shape_of t) (place_of t i) (left_of t ρ) (right_of t ρ) ++ rest = e ∙ ap (λ (l : List ℕ). l ++ rest) (as-node t i ρ) in
    let k = node-shape code at (shape_of t) (place_of t i) (left_of t ρ) (right_of t ρ) rest n in
    let a = node-a code at (shape_of t) (place_of t i) (left_of t ρ) (right_of t ρ) rest n in
    let b = node-b code at (shape_of t) (place_of t i) (left_of t ρ) (right_of t ρ) rest n in
    q ∙ (rw (k, a, b) (kind-by t T ρ))

pub faulted : (code : List ℕ) (at : ℕ) (T : Names) (z : Sizes) (r : ℕ)
    → r ≡ key_by (get_or code (at + 3) 0) (get_or code (at + 2) 0) (get_or code (at + 1) 0) (get_or code at 0) (entry T (get_or code (at + 1) 0)) (entry T (get_or code at 0)) z
    → TypeFaulted code at T z r
faulted code at T z r q t i ρ rest e =
    let n : drop at code ≡ node (shape_of t) (place_of t i) (left_of t ρ) (right_of t ρ) ++ rest = e ∙ ap (λ (l : List ℕ). l ++ rest) (as-node t i ρ) in
    let k = node-shape code at (shape_of t) (place_of t i) (left_of t ρ) (right_of t ρ) rest n in
    let p = node-place code at (shape_of t) (place_of t i) (left_of t ρ) (right_of t ρ) rest n in
    let a = node-a code at (shape_of t) (place_of t i) (left_of t ρ) (right_of t ρ) rest n in
    let b = node-b code at (shape_of t) (place_of t i) (left_of t ρ) (right_of t ρ) rest n in
    q ∙ (rw (k, p, a, b) (key-by t T ρ z i))

-- a shape that is none of the first three
pub kind-else : (s x y : ℕ) → (s ≡ 1 → ⊥) → (s ≡ 2 → ⊥) → (s ≡ 3 → ⊥) → kind_by s x y ≡ pair_of (element_of x) (element_of y)
unfolding kind_by
kind-else s x y n₁ n₂ n₃ = rw (kind_by, ne_eqb s 1 n₁, ne_eqb s 2 n₂, ne_eqb s 3 n₃)

pub key-else : (s i a b x y : ℕ) (z : Sizes) → (s ≡ 1 → ⊥) → (s ≡ 2 → ⊥) → (s ≡ 3 → ⊥) → key_by s i a b x y z ≡ pairs_key_at i x y z
unfolding key_by
key-else s i a b x y z n₁ n₂ n₃ = rw (key_by, ne_eqb s 1 n₁, ne_eqb s 2 n₂, ne_eqb s 3 n₃)

pub kind-one : (s x y : ℕ) → s ≡ 1 → element_of x ≡ kind_by s x y
unfolding kind_by
kind-one s x y e = sym (ap (λ (n : ℕ). kind_by n x y) e)

pub kind-two : (s x y : ℕ) → s ≡ 2 → 1 ≡ kind_by s x y
unfolding kind_by
kind-two s x y e = sym (ap (λ (n : ℕ). kind_by n x y) e)

pub kind-three : (s x y : ℕ) → s ≡ 3 → set_of (element_of x) ≡ kind_by s x y
unfolding kind_by
kind-three s x y e = sym (ap (λ (n : ℕ). kind_by n x y) e)

pub key_one : (s i a b x y : ℕ) (z : Sizes) → s ≡ 1 → unless_key (is_given x) (key i 9) ≡ key_by s i a b x y z
unfolding key_by
key_one s i a b x y z e = sym (ap (λ (n : ℕ). key_by n i a b x y z) e)

pub key-two : (s i a b x y : ℕ) (z : Sizes) → s ≡ 2 → unless_key (range_fits a b) (key i 11) ≡ key_by s i a b x y z
unfolding key_by
key-two s i a b x y z e = sym (ap (λ (n : ℕ). key_by n i a b x y z) e)

pub key-three : (s i a b x y : ℕ) (z : Sizes) → s ≡ 3 → unless_key (is_given x) (key (i + 1) 9) ≡ key_by s i a b x y z
unfolding key_by
key-three s i a b x y z e = sym (ap (λ (n : ℕ). key_by n i a b x y z) e)

-- the fault of pairs over two names, by the tests that the code makes
pub over-both : (z : Sizes) (k l i m n r : ℕ) (p q fits : Bool) → p ≡ is_given k → p ≡ true → q ≡ is_given l → q ≡ true
    → m ≡ k → n ≡ l → fits ≡ product_fits z (m - 8) (n - 8) → r ≡ unless_key fits (key i 11) → r ≡ over_key z k l i
unfolding over_key
over-both z k l i m n r p q fits a b c d e f g h = rw (over_key, sym a ∙ b, sym c ∙ d, ← e, ← f, ← g) h

-- a declaration has eight numbers; its type begins at the fourth
pub typed-eight : (x : Typed) (i : ℕ) (ρ : Numbering) → length (typed_code i x ρ) ≡ 8
typed-eight x i ρ = ap (λ (l : List ℕ). length (node 6 i (name_number ρ x.called) 0 ++ l)) (as-node x.type (i + 2) ρ)

pub typed-type : (code : List ℕ) (at : ℕ) (x : Typed) (i : ℕ) (ρ : Numbering) (rest : List ℕ) → drop at code ≡ typed_code i x ρ ++ rest
    → drop (at + 4) code ≡ type_codes x.type (i + 2) ρ ++ rest
typed-type code at x i ρ rest e = sym (drop-drop 4 at code) ∙ ap (λ (l : List ℕ). drop 4 l) e

-- what is left of declarations at a place, where a function F of them and of the names has the value v
pub record Rest {X : Type 0} (F : List Typed → ℕ → Names → Numbering → X) (code : List ℕ) (at : ℕ) (T : Names) (ρ : Numbering) (v : X) : Type 0 where
  pub left : List Typed
  pub place : ℕ
  pub here : drop at code ≡ typed_codes place left ρ
  pub same : F left place T ρ ≡ v

abbrev pub Walked : {X : Type 0} (F : List Typed → ℕ → Names → Numbering → X) (code : List ℕ) (at : ℕ) (T U : Names) → Type 0
Walked F code at T U = (xs : List Typed) (i : ℕ) (ρ : Numbering) → code ≡ typed_codes i xs ρ → Rest F code at U ρ (F xs i T ρ)

pub start : {X : Type 0} (F : List Typed → ℕ → Names → Numbering → X) (code : List ℕ) (T : Names) → Walked F code 0 T T
start F code T xs i ρ e = record { left = xs; place = i; here = e; same = refl }

-- one declaration further, over which F does not change
module _ {X : Type 0} (F : List Typed → ℕ → Names → Numbering → X) (code : List ℕ) (at : ℕ) (T U : Names) (ρ : Numbering) (v : X) where
  pub step : (U' : Names) → at + 8 ≤ length code
      → ((x : Typed) (xs : List Typed) (j : ℕ) (rest : List ℕ) → drop at code ≡ typed_code j x ρ ++ rest → F (x ∷ xs) j U ρ ≡ F xs (j + 3 + type_width x.type) U' ρ)
      → (xs : List Typed) (j : ℕ) → drop at code ≡ typed_codes j xs ρ → F xs j U ρ ≡ v → Rest F code (at + 8) U' ρ v
  unfolding typed_codes
  step U' room change [] j e s = let short : length code - at ≡ 0 = (sym (length-drop at code) ∙ ap (λ (l : List ℕ). length l) e) in elim (never short) [ ]
    where
      never : length code - at ≡ 0 → ⊥
      never q = omega arith
  step U' room change (x ∷ xs) j e s =
      record {
        left = xs;
        place = j + 3 + type_width x.type;
        here = sym (drop-drop 8 at code) ∙ (ap (λ (l : List ℕ). drop 8 l) e ∙ drop_at (typed_code j x ρ) (typed_codes (j + 3 + type_width x.type) xs ρ) 8 (typed-eight x j ρ));
        same = sym (change x xs j (typed_codes (j + 3 + type_width x.type) xs ρ) e) ∙ s;
      }

  -- at a declaration whose F is w
  pub stop : (w : X) → at + 8 ≤ length code
      → ((x : Typed) (xs : List Typed) (j : ℕ) (rest : List ℕ) → drop at code ≡ typed_code j x ρ ++ rest → F (x ∷ xs) j U ρ ≡ w)
      → (xs : List Typed) (j : ℕ) → drop at code ≡ typed_codes j xs ρ → F xs j U ρ ≡ v → w ≡ v
  unfolding typed_codes
  stop w room is [] j e s = let short : length code - at ≡ 0 = (sym (length-drop at code) ∙ ap (λ (l : List ℕ). length l) e) in elim (never short) [ ]
    where
      never : length code - at ≡ 0 → ⊥
      never q = omega arith
  stop w room is (x ∷ xs) j e s = sym (is x xs j (typed_codes (j + 3 + type_width x.type) xs ρ) e) ∙ s

  -- behind the last declaration
  pub finish : (w : X) → length code < at + 8
      → ((j : ℕ) → F [] j U ρ ≡ w)
      → (xs : List Typed) (j : ℕ) → drop at code ≡ typed_codes j xs ρ → F xs j U ρ ≡ v → w ≡ v
  unfolding typed_codes
  finish w room is [] j e s = sym (is j) ∙ s
  finish w room is (x ∷ xs) j e s = elim (behind x xs j e) [ ]
    where
      behind : (x : Typed) (xs : List Typed) (j : ℕ) → drop at code ≡ typed_code j x ρ ++ typed_codes (j + 3 + type_width x.type) xs ρ → ⊥
      behind x xs j e =
          let long : length code - at ≡ length (typed_code j x ρ) + length (typed_codes (j + 3 + type_width x.type) xs ρ) = sym (length-drop at code) ∙ (ap (λ (l : List ℕ). length l) e ∙ length-append (typed_code j x ρ) (typed_codes (j + 3 + type_width x.type) xs ρ)) in
          let eight = typed-eight x j ρ in
          omega arith

pub on : {X : Type 0} (F : List Typed → ℕ → Names → Numbering → X) (code : List ℕ) (at : ℕ) (T U U' : Names) → Walked F code at T U → at + 8 ≤ length code
    → ((ρ : Numbering) (x : Typed) (xs : List Typed) (j : ℕ) (rest : List ℕ) → drop at code ≡ typed_code j x ρ ++ rest → F (x ∷ xs) j U ρ ≡ F xs (j + 3 + type_width x.type) U' ρ)
    → Walked F code (at + 8) T U'
on F code at T U U' w room change xs i ρ e =
    let r = w xs i ρ e in step F code at T U ρ (F xs i T ρ) U' room (change ρ) r.left r.place r.here r.same

pub stopped : {X : Type 0} (F : List Typed → ℕ → Names → Numbering → X) (code : List ℕ) (at : ℕ) (T U : Names) (v : X) → Walked F code at T U → at + 8 ≤ length code
    → ((ρ : Numbering) (x : Typed) (xs : List Typed) (j : ℕ) (rest : List ℕ) → drop at code ≡ typed_code j x ρ ++ rest → F (x ∷ xs) j U ρ ≡ v)
    → (xs : List Typed) (i : ℕ) (ρ : Numbering) → code ≡ typed_codes i xs ρ → v ≡ F xs i T ρ
stopped F code at T U v w room is xs i ρ e = let r = w xs i ρ e in stop F code at T U ρ (F xs i T ρ) v room (is ρ) r.left r.place r.here r.same

pub finished : {X : Type 0} (F : List Typed → ℕ → Names → Numbering → X) (code : List ℕ) (at : ℕ) (T U : Names) (v : X) → Walked F code at T U → length code < at + 8
    → ((j : ℕ) (ρ : Numbering) → F [] j U ρ ≡ v)
    → (xs : List Typed) (i : ℕ) (ρ : Numbering) → code ≡ typed_codes i xs ρ → v ≡ F xs i T ρ
finished F code at T U v w room is xs i ρ e =
    let r = w xs i ρ e in finish F code at T U ρ (F xs i T ρ) v room (λ j. is j ρ) r.left r.place r.here r.same

-- the same over declarations that are cut off one by one: `d` is the next, `behind` what is left then
module _ (code d rest behind : List ℕ) (cut : rest ≡ d ++ behind) (long : length d ≡ 8) (e : Ends code rest) where
  pub of-piece : {P : Typed → ℕ → Numbering → Type 0} → ((x : Typed) (i : ℕ) (ρ : Numbering) (r : List ℕ) → d ≡ typed_code i x ρ ++ r → P x i ρ)
      → (x : Typed) (i : ℕ) (ρ : Numbering) (r : List ℕ) → drop (place code rest) code ≡ typed_code i x ρ ++ r → P x i ρ
  of-piece h x i ρ r q = h x i ρ [] (piece-is code d rest behind 8 cut long e (typed_code i x ρ) r (typed-eight x i ρ) q ∙ sym (append-nil (typed_code i x ρ)))

  pub walked-on : {X : Type 0} (F : List Typed → ℕ → Names → Numbering → X) (T U U' : Names) → Walked F code (place code rest) T U
      → ((ρ : Numbering) (x : Typed) (xs : List Typed) (j : ℕ) (r : List ℕ) → drop (place code rest) code ≡ typed_code j x ρ ++ r → F (x ∷ xs) j U ρ ≡ F xs (j + 3 + type_width x.type) U' ρ)
      → Walked F code (place code behind) T U'
  walked-on F T U U' w change =
      subst (λ (n : ℕ). Walked F code n T U') (place-on code d rest behind 8 cut long e) (on F code (place code rest) T U U' w (room code d rest behind 8 cut long e) change)

-- the three functions of declarations that the code computes
abbrev pub keyed : Sizes → List Typed → ℕ → Names → Numbering → ℕ
keyed z xs i T ρ = declared_key xs T ρ z i

abbrev pub showing : ℕ → List Typed → ℕ → Names → Numbering → Names
showing s xs i T ρ = shown xs s T ρ

abbrev pub hiding : ℕ → ℕ → List Typed → ℕ → Names → Numbering → Names
hiding s k xs i T ρ = hidden xs s k T ρ

module _ (code : List ℕ) (at : ℕ) (T U : Names) where
  pub shown-on : (s : ℕ) → Reached code at s T U
      → (ρ : Numbering) (x : Typed) (xs : List Typed) (j : ℕ) (rest : List ℕ) → drop at code ≡ typed_code j x ρ ++ rest
      → showing s (x ∷ xs) j T ρ ≡ showing s xs (j + 3 + type_width x.type) U ρ
  unfolding shown
  shown-on s h ρ x xs j rest e = sym (ap (λ (t : Names). shown xs s t ρ) (h x j ρ rest e))

  pub hidden-on : (s k a : ℕ) → ((x : Typed) (i : ℕ) (ρ : Numbering) (r : List ℕ) → drop at code ≡ typed_code i x ρ ++ r → a ≡ name_number ρ x.called) → U ≡ set T (a + s) k
      → (ρ : Numbering) (x : Typed) (xs : List Typed) (j : ℕ) (rest : List ℕ) → drop at code ≡ typed_code j x ρ ++ rest
      → hiding s k (x ∷ xs) j T ρ ≡ hiding s k xs (j + 3 + type_width x.type) U ρ
  unfolding hidden
  hidden-on s k a p h ρ x xs j rest e = sym (ap (λ (t : Names). hidden xs s k t ρ) (h ∙ ap (λ (m : ℕ). set T (m + s) k) (p x j ρ rest e)))

  pub keyed-on : (z : Sizes) (f : ℕ) → DeclarationFaulted code at T z f → f ≡ 0 → Reached code at 0 T U
      → (ρ : Numbering) (x : Typed) (xs : List Typed) (j : ℕ) (rest : List ℕ) → drop at code ≡ typed_code j x ρ ++ rest
      → keyed z (x ∷ xs) j T ρ ≡ keyed z xs (j + 3 + type_width x.type) U ρ
  unfolding declared_key
  keyed-on z f p q h ρ x xs j rest e =
      sym (inside-none (p x j ρ rest e) q)
      ∙ sym (ap (λ (t : Names). declared_key xs t ρ z (j + 3 + type_width x.type)) (h x j ρ rest e ∙ ap (λ (m : ℕ). set T m (type_kind x.type T ρ)) (add-zero (name_number ρ x.called))))

  pub keyed-stop : (z : Sizes) (f : ℕ) → DeclarationFaulted code at T z f → (f ≡ 0 → ⊥)
      → (ρ : Numbering) (x : Typed) (xs : List Typed) (j : ℕ) (rest : List ℕ) → drop at code ≡ typed_code j x ρ ++ rest
      → keyed z (x ∷ xs) j T ρ ≡ f
  unfolding declared_key
  keyed-stop z f p q ρ x xs j rest e =
      sym (inside-some _ (p x j ρ rest e) q)

-- the number of a declaration's name
pub number-in : (d : List ℕ) (a : ℕ) → a ≡ get_or d 1 0 → (x : Typed) (i : ℕ) (ρ : Numbering) (r : List ℕ) → d ≡ typed_code i x ρ ++ r → a ≡ name_number ρ x.called
number-in d a p x i ρ r e = p ∙ node-a d 0 6 i (name_number ρ x.called) 0 (type_codes x.type (i + 2) ρ ++ r) e

-- the first fault of one declaration, by its parts
pub declaration-fault : (code : List ℕ) (at : ℕ) (T : Names) (z : Sizes) (m old w here r f : ℕ) → m ≡ get_or code (at + 1) 0 → old ≡ entry T m
    → w ≡ get_or code (at + 2) 0 → here ≡ unless_key (is_free old) (key w 8) → TypeFaulted code (at + 4) T z f → r ≡ lesser here f → DeclarationFaulted code at T z r
declaration-fault code at T z m old w here r f p q s t u v x i ρ rest e =
    let a = node-a code at 6 i (name_number ρ x.called) 0 (type_codes x.type (i + 2) ρ ++ rest) e in
    let b = node-place code at 6 i (name_number ρ x.called) 0 (type_codes x.type (i + 2) ρ ++ rest) e in
    let o : old ≡ entry T (name_number ρ x.called) = q ∙ ap (λ (n : ℕ). entry T n) (p ∙ a) in
    v ∙ ap₂ lesser (t ∙ ap₂ (λ (n k : ℕ). unless_key (is_free n) (key k 8)) o (s ∙ b)) (u x.type (i + 2) ρ rest (typed-type code at x i ρ rest e))

pub reached : (code : List ℕ) (at s : ℕ) (T U : Names) (m k : ℕ) → m ≡ get_or code (at + 1) 0 → TypeKinded code (at + 4) T k → U ≡ set T (m + s) k → Reached code at s T U
reached code at s T U m k p q h x i ρ rest e =
    let a = node-a code at 6 i (name_number ρ x.called) 0 (type_codes x.type (i + 2) ρ ++ rest) e in
    h ∙ ap₂ (λ (n l : ℕ). set T (n + s) l) (p ∙ a) (q x.type (i + 2) ρ rest (typed-type code at x i ρ rest e))
