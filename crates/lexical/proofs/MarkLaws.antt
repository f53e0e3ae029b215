-- Laws of the longest mark.
use mathlib.Core.Path.{◌≡◌, refl, ap, ◌∙◌, sym}
use mathlib.Core.Bool.{Bool, true, false, false≢true, true≢false}
use mathlib.Core.List.{List, [], ◌∷◌}
use Prim.Native.Nat.{ℕ, zero, suc, ◌+◌}
use Prim.Native.String.{String}
use native.Mathlib.Nat.{add-zero}
use lib.Dec.{eqb}
use borrow.Author.Tests.{ne_eqb, eqb-true}
use lib.ListN.{length, drop, get_or}
use lib.Seq.{get_or-drop}
use Rattle.lexical.specs.Lists.{bytes, begins, all, any}
use Rattle.lexical.specs.Kinds.{Kind, marks}
use Rattle.lexical.specs.Symbols.{Found, longest, longer, unlisted}
use Rattle.lexical.specs.SymbolPromises.{token_of}
use Rattle.lexical.specs.declared.Token.{Token}
use Rattle.lexical.proofs.BooleanTests.{all-parts, not-true}

-- the longest of the marks of an entry and of those behind it
abbrev with_mark : String × Kind → Found → Bool → Found
with_mark e f b = elim b [ true ↦ longer f e.1 (length (bytes e.0)) | false ↦ f ]

-- n bytes of a text, 0 where there is none
unfoldable padded : ℕ → List ℕ → List ℕ
padded zero w = []
padded (suc n) [] = 0 ∷ padded n []
padded (suc n) (b ∷ w) = b ∷ padded n w

-- n bytes at most, none of which is 0
unfoldable is_short : ℕ → List ℕ → Bool
is_short n [] = true
is_short zero (x ∷ v) = false
is_short (suc n) (x ∷ v) = elim (eqb x 0) [ true ↦ false | false ↦ is_short n v ]

begins-padded : (n : ℕ) (v w : List ℕ) → is_short n v ≡ true → begins v (padded n w) ≡ begins v w
unfolding begins padded is_short
begins-padded n [] w h = refl
begins-padded zero (x ∷ v) w h = absurd (false≢true h)
begins-padded (suc n) (x ∷ v) [] h = blank (eqb x 0) h
  where
    blank : (b : Bool) → ◌≡◌ {A = Bool} (elim b [ true ↦ false | false ↦ is_short n v ]) true → ◌≡◌ {A = Bool} (elim b [ true ↦ begins v (padded n []) | false ↦ false ]) false
    blank true e = absurd (false≢true e)
    blank false e = refl
begins-padded (suc n) (x ∷ v) (y ∷ w) h = ap (λ (c : Bool). elim (eqb x y) [ true ↦ c | false ↦ false ]) (begins-padded n v w (rest (eqb x 0) h))
  where
    rest : (b : Bool) → ◌≡◌ {A = Bool} (elim b [ true ↦ false | false ↦ is_short n v ]) true → is_short n v ≡ true
    rest true e = absurd (false≢true e)
    rest false e = e

longest-padded : (n : ℕ) (t : List (String × Kind)) (w : List ℕ) → all (λ (e : String × Kind). is_short n (bytes e.0)) t ≡ true → longest t (padded n w) ≡ longest t w
unfolding longest
longest-padded n [] w h = refl
longest-padded n (e ∷ t) w h =
    let p = all-parts (λ (x : String × Kind). is_short n (bytes x.0)) e t h in
    ap (with_mark e (longest t (padded n w))) (begins-padded n (bytes e.0) w p.0)
    ∙ ap (λ (f : Found). with_mark e f (begins (bytes e.0) w)) (longest-padded n t w p.1)

abbrev pub three : List ℕ → List ℕ
three w = get_or w 0 0 ∷ get_or w 1 0 ∷ get_or w 2 0 ∷ []

is-padded : (w : List ℕ) → three w ≡ padded 3 w
unfolding padded
is-padded [] = refl
is-padded (a ∷ []) = refl
is-padded (a ∷ b ∷ []) = refl
is-padded (a ∷ b ∷ c ∷ w) = refl

-- no mark is longer than three bytes
pub three-bytes : (w : List ℕ) → longest marks (three w) ≡ longest marks w
unfolding all bytes is_short
three-bytes w = ap (longest marks) (is-padded w) ∙ longest-padded 3 marks w refl

-- the bytes at a place
pub bytes-at : (s : List ℕ) (at : ℕ) {a b e : ℕ} → a ≡ get_or s at 0 → b ≡ get_or s (at + 1) 0 → e ≡ get_or s (at + 2) 0 → longest marks (a ∷ b ∷ e ∷ []) ≡ longest marks (drop at s)
bytes-at s at {a} {b} {e} p q r =
    ap (λ (x : ℕ). longest marks (x ∷ b ∷ e ∷ [])) (p ∙ ap (λ (i : ℕ). get_or s i 0) (sym (add-zero at)) ∙ sym (get_or-drop at s 0 0))
    ∙ ap (λ (x : ℕ). longest marks (get_or (drop at s) 0 0 ∷ x ∷ e ∷ [])) (q ∙ sym (get_or-drop at s 1 0))
    ∙ ap (λ (x : ℕ). longest marks (get_or (drop at s) 0 0 ∷ get_or (drop at s) 1 0 ∷ x ∷ [])) (r ∙ sym (get_or-drop at s 2 0))
    ∙ three-bytes (drop at s)

-- what is found behind a first byte that is known
pub at-first : {a k : ℕ} (b e : ℕ) {t : Token} → a ≡ k → t ≡ token_of (longest marks (k ∷ b ∷ e ∷ [])) → t ≡ token_of (longest marks (a ∷ b ∷ e ∷ []))
at-first b e q h = h ∙ sym (ap (λ (x : ℕ). token_of (longest marks (x ∷ b ∷ e ∷ []))) q)

-- behind two
pub at-second : {a b k m : ℕ} (e : ℕ) {t : Token} → a ≡ k → b ≡ m → t ≡ token_of (longest marks (k ∷ m ∷ e ∷ [])) → t ≡ token_of (longest marks (a ∷ b ∷ e ∷ []))
at-second {b = b} {k = k} e p q h = at-first b e p (h ∙ sym (ap (λ (x : ℕ). token_of (longest marks (k ∷ x ∷ e ∷ []))) q))

-- behind three
pub at-third : {a b e k m n : ℕ} {t : Token} → a ≡ k → b ≡ m → e ≡ n → t ≡ token_of (longest marks (k ∷ m ∷ n ∷ [])) → t ≡ token_of (longest marks (a ∷ b ∷ e ∷ []))
at-third {e = e} {k = k} {m = m} p q r h = at-second e p q (h ∙ sym (ap (λ (x : ℕ). token_of (longest marks (k ∷ m ∷ x ∷ []))) r))

-- a mark that begins with another byte
pub begins-not : (x y : ℕ) (v w : List ℕ) → (y ≡ x → ⊥) → begins (x ∷ v) (y ∷ w) ≡ false
unfolding begins
begins-not x y v w f = ap (λ (b : Bool). elim b [ true ↦ begins v w | false ↦ false ]) (ne_eqb x y (λ e. f (sym e)))

-- the byte a is none of ks
abbrev pub NoneOf : ℕ → List ℕ → Type 0
NoneOf a [] = Unit {0}
NoneOf a (k ∷ ks) = NoneOf a ks × (a ≡ k → ⊥)

none-equals : (a : ℕ) (ks : List ℕ) → NoneOf a ks → (x : ℕ) → any (eqb x) ks ≡ true → eqb x a ≡ false
unfolding any
none-equals a [] h x e = absurd (false≢true e)
none-equals a (k ∷ ks) h x e = on (eqb x k) refl (none-equals a ks h.0 x) e
  where
    on : (b : Bool) → eqb x k ≡ b → (any (eqb x) ks ≡ true → eqb x a ≡ false) → ◌≡◌ {A = Bool} (elim b [ true ↦ true | false ↦ any (eqb x) ks ]) true → eqb x a ≡ false
    on true p f q = not-true (eqb x a) (λ r. h.1 (sym (eqb-true x a r) ∙ eqb-true x k p))
    on false p f q = f q

-- the first byte is one of ks
unfoldable first_in : List ℕ → List ℕ → Bool
first_in ks [] = false
first_in ks (x ∷ v) = any (eqb x) ks

none-first : (a : ℕ) (w ks : List ℕ) → NoneOf a ks → (v : List ℕ) → first_in ks v ≡ true → begins v (a ∷ w) ≡ false
unfolding first_in begins
none-first a w ks h [] q = absurd (false≢true q)
none-first a w ks h (x ∷ v) q = ap (λ (b : Bool). elim b [ true ↦ begins v w | false ↦ false ]) (none-equals a ks h x q)

none-begins : (a : ℕ) (w ks : List ℕ) → NoneOf a ks → (t : List (String × Kind)) → all (λ (e : String × Kind). first_in ks (bytes e.0)) t ≡ true → longest t (a ∷ w) ≡ unlisted
unfolding longest
none-begins a w ks h [] q = refl
none-begins a w ks h (e ∷ t) q =
    let p = all-parts (λ (x : String × Kind). first_in ks (bytes x.0)) e t q in
    ap (with_mark e (longest t (a ∷ w))) (none-first a w ks h (bytes e.0) p.0) ∙ none-begins a w ks h t p.1

-- a byte that no mark begins with: the first bytes, the last of the arms that test them first
pub no_mark : (a : ℕ) (w : List ℕ) → NoneOf a (bytes "#*-+</=.}{][)(@|,;:") → unlisted ≡ longest marks (a ∷ w)
unfolding all any bytes first_in
no_mark a w h = sym (none-begins a w (bytes "#*-+</=.}{][)(@|,;:") h marks refl)

-- a mark that may begin with the byte k
unfoldable pub may_begin : ℕ → List ℕ → Bool
may_begin k [] = true
may_begin k (x ∷ v) = eqb x k

-- the entries of such marks
unfoldable pub beginning : ℕ → List (String × Kind) → List (String × Kind)
beginning k [] = []
beginning k (e ∷ t) = elim (may_begin k (bytes e.0)) [ true ↦ e ∷ beginning k t | false ↦ beginning k t ]

not-begun : (k : ℕ) (v w : List ℕ) → may_begin k v ≡ false → begins v (k ∷ w) ≡ false
unfolding begins may_begin
not-begun k [] w h = absurd (true≢false h)
not-begun k (x ∷ v) w h = ap (λ (b : Bool). elim b [ true ↦ begins v w | false ↦ false ]) h

beginning_first : (k : ℕ) (w : List ℕ) (e : String × Kind) (t : List (String × Kind)) → longest t (k ∷ w) ≡ longest (beginning k t) (k ∷ w) → longest (e ∷ t) (k ∷ w) ≡ longest (beginning k (e ∷ t)) (k ∷ w)
unfolding longest beginning
beginning_first k w e t h = on (may_begin k (bytes e.0)) refl
  where
    on : (b : Bool) → may_begin k (bytes e.0) ≡ b → with_mark e (longest t (k ∷ w)) (begins (bytes e.0) (k ∷ w)) ≡ longest (elim b [ true ↦ e ∷ beginning k t | false ↦ beginning k t ]) (k ∷ w)
    on true p = ap (λ (f : Found). with_mark e f (begins (bytes e.0) (k ∷ w))) h
    on false p = ap (with_mark e (longest t (k ∷ w))) (not-begun k (bytes e.0) w p) ∙ h

by_first : (k : ℕ) (w : List ℕ) (t : List (String × Kind)) → longest t (k ∷ w) ≡ longest (beginning k t) (k ∷ w)
unfolding longest beginning
by_first k w [] = refl
by_first k w (e ∷ t) = beginning_first k w e t (by_first k w t)

-- the longest mark, by which of the table's entries the bytes begin with
unfoldable pub longest_by : List (String × Kind) → List Bool → Found
longest_by [] xs = unlisted
longest_by (e ∷ t) [] = unlisted
longest_by (e ∷ t) (x ∷ xs) = with_mark e (longest_by t xs) x

abbrev pub Tests : List ℕ → List (String × Kind) → List Bool → Type 0
Tests w [] xs = Unit {0}
Tests w (e ∷ t) [] = ⊥
Tests w (e ∷ t) (x ∷ xs) = (begins (bytes e.0) w ≡ x) × Tests w t xs

by_tests : (t : List (String × Kind)) (w : List ℕ) (xs : List Bool) → Tests w t xs → longest t w ≡ longest_by t xs
unfolding longest longest_by
by_tests [] w xs h = refl
by_tests (e ∷ t) w [] h = absurd h
by_tests (e ∷ t) w (x ∷ xs) h = ap (with_mark e (longest t w)) h.0 ∙ ap (λ (f : Found). with_mark e f x) (by_tests t w xs h.1)

-- what is found behind a first byte, by the tests of the marks that begin with it
pub found_by : (k b e : ℕ) (xs : List Bool) → Tests (k ∷ b ∷ e ∷ []) (beginning k marks) xs → token_of (longest_by (beginning k marks) xs) ≡ token_of (longest marks (k ∷ b ∷ e ∷ []))
found_by k b e xs h = sym (ap token_of (by_first k (b ∷ e ∷ []) marks ∙ by_tests (beginning k marks) (k ∷ b ∷ e ∷ []) xs h))
