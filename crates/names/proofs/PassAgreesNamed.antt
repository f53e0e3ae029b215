-- What the table says behind given sets without faults.
use mathlib.Core.Path.{◌≡◌, refl, ap, ap₂, ◌∙◌, sym, subst}
use mathlib.Core.Bool.{Bool, true, false, not, ◌&&◌, ◌||◌, cond, false≢true}
use mathlib.Core.List.{List, [], ◌∷◌, ◌++◌}
use mathlib.Core.Option.{Option, none, some}
use Prim.Native.Nat.{ℕ, suc, ◌+◌, ◌≤◌}
use native.Mathlib.Omega.{arith}
use lib.Dec.{eqb, ltb}
use lib.ListN.{length}
use borrow.Author.Tests.{ne_eqb, le-leb, lt-leb, le-ltb}
use Rattle.std.proofs.lemmas.Bool.{false_from_ne_true}
use Rattle.lexical.specs.Lists.{same, any, find}
use Rattle.lexical.specs.Symbols.{Name}
use Rattle.lexical.proofs.WordLaws.{same_refl, same_true}
use Rattle.form.specs.Tree.{Letters, Given, elements}
use Rattle.form.specs.Headings.{given_length}
use Rattle.form.specs.Codes.{Numbering, name_number}
use Rattle.declared_names.specs.StaticRulesCarriers.{elements_of, same_name, plain, given_of}
use Rattle.declared_names.specs.StaticRulesTypes.{Ty, type_of}
use Rattle.declared_names.specs.StaticRulesScope.{element_of, given_names, type_of_name}
use Rattle.declared_names.specs.StaticRulesNames.{given_faults}
use Rattle.type_rules.specs.TypesByNumber.{Names, entry, is_free, is_number, is_given, in_reach}
use Rattle.declared_names.specs.NamesByNumber.{givens_named}
use Rattle.names.proofs.ReachTables.{index_of, titled, known_element, GivenIs, TypeIs, Numbered}
use Rattle.names.proofs.TypesAgreeTypes.{index_in}
use Rattle.names.proofs.TypesAgreeScope.{any_here, any-there, find-here, find-there, index-here, index-there, titled-finds}
use Rattle.names.proofs.PassAgreesTables.{Sees, name-refl}
use Rattle.names.proofs.PassAgreesUse.{in_use, any_append, use-here, elements-new, given-new, Unnamed, givens_new, title-use, element-use}
use Rattle.names.proofs.PassAgreesGivens.{GivensIn, Holds, given_entered, named_by, givens-named}

-- a name is an element, a title, or neither; n is its entry
data Named (gs : List Given) (k m : ℕ) (y : Name) (n : ℕ) : Type 0 where
  an_element : (g : Given) → element_of gs y ≡ some g → given_of gs y ≡ none → titled gs g.title ≡ true → n ≡ 16 + k + index_of gs g.title → Named gs k m y n
  a_title : (g : Given) → element_of gs y ≡ none → given_of gs y ≡ some g → titled gs g.title ≡ true → n ≡ 8 + k + index_of gs g.title → Named gs k m y n
  neither : element_of gs y ≡ none → given_of gs y ≡ none → n ≡ m → Named gs k m y n

no-some : {A : Type 0} {o : Option Given} {g : Given} → o ≡ none → o ≡ some g → A
no-some e f = let z : ◌≡◌ {A = ℕ} 0 1 = cc in absurd (omega arith)

unnamed-is : {gs : List Given} {k m : ℕ} {y : Name} {n : ℕ} → Named gs k m y n → Unnamed gs y → n ≡ m
unnamed-is (an_element g e f t n) u = no-some u.no_element e
unnamed-is (a_title g e f t n) u = no-some u.no_title f
unnamed-is (neither e f n) u = n

element-here : (g : Given) (gs : List Given) (y : Name) → in_use (elements g) y ≡ true → element_of (g ∷ gs) y ≡ some g
unfolding element_of
element-here g gs y e = find-here (λ (k : Given). in_use (elements k) y) g gs e

element-there : (g : Given) (gs : List Given) (y : Name) → in_use (elements g) y ≡ false → element_of (g ∷ gs) y ≡ element_of gs y
unfolding element_of
element-there g gs y e = find-there (λ (k : Given). in_use (elements k) y) g gs e

title-here : (g : Given) (gs : List Given) (y : Name) → same_name (plain g.title) y ≡ true → given_of (g ∷ gs) y ≡ some g
unfolding given_of
title-here g gs y e = find-here (λ (k : Given). same_name (plain k.title) y) g gs e

title-there : (g : Given) (gs : List Given) (y : Name) → same_name (plain g.title) y ≡ false → given_of (g ∷ gs) y ≡ given_of gs y
unfolding given_of
title-there g gs y e = find-there (λ (k : Given). same_name (plain k.title) y) g gs e

titled-here : (g : Given) (gs : List Given) → titled (g ∷ gs) g.title ≡ true
titled-here g gs = any_here (λ (k : Given). same k.title g.title) g gs (same_refl g.title)

module _ (xs : List Letters) (i : ℕ) (g : Given) (gs : List Given) (e : given_faults xs i (g ∷ gs) ≡ []) where
  behind-new : (y : Name) → in_use (given_names (g ∷ []) ++ xs) y ≡ true → Unnamed gs y
  behind-new y h = givens_new (given_names (g ∷ []) ++ xs) (i + given_length g) gs (given-new xs i g gs e).rest y h

  -- no element has the title of its set
  not-title : (y : Name) → in_use (elements g) y ≡ true → same_name (plain g.title) y ≡ false
  not-title y h =
      false_from_ne_true (same_name (plain g.title) y)
      (λ k. absurd (false≢true (sym (elements-new (g.title ∷ xs) (i + 2) (elements g) (given-new xs i g gs e).elements_are y (use-here g.title xs y k)) ∙ h)))

  -- another set has another title
  titles-apart : (h : Letters) → titled gs h ≡ true → same g.title h ≡ false
  titles-apart h t =
      false_from_ne_true (same g.title h)
      (λ k. no-some (behind-new (plain g.title) (title-use g xs (plain g.title) (name-refl (plain g.title)))).no_title
      (ap (λ (l : Letters). given_of gs (plain l)) (same_true g.title h k) ∙ (titled-finds gs h t).finds))

  titled-there : (h : Letters) → titled gs h ≡ true → titled (g ∷ gs) h ≡ true
  titled-there h t = any-there (λ (k : Given). same k.title h) g gs (titles-apart h t) ∙ t

  behind-named : (k m m' : ℕ) (y : Name) (n : ℕ) → Named gs (suc k) m y n → in_use (elements g) y ≡ false → same_name (plain g.title) y ≡ false → m ≡ m' → Named (g ∷ gs) k m' y n
  behind-named k m m' y n (an_element h p q t s) a b c =
      an_element h (element-there g gs y a ∙ p) (title-there g gs y b ∙ q) (titled-there h.title t)
      (omega (arith, s, index-there g gs h.title (titles-apart h.title t)))
  behind-named k m m' y n (a_title h p q t s) a b c =
      a_title h (element-there g gs y a ∙ p) (title-there g gs y b ∙ q) (titled-there h.title t)
      (omega (arith, s, index-there g gs h.title (titles-apart h.title t)))
  behind-named k m m' y n (neither p q s) a b c = neither (element-there g gs y a ∙ p) (title-there g gs y b ∙ q) (s ∙ c)

  named-one : (k : ℕ) (f : Name → ℕ) (y : Name) (n : ℕ) → Named gs (suc k) (given_entered g k f y) y n → Named (g ∷ gs) k (f y) y n
  named-one k f y n r = on (in_use (elements g) y) refl (same_name (plain g.title) y) refl
    where
      first : index_of (g ∷ gs) g.title ≡ 0
      first = index-here g gs g.title (same_refl g.title)

      on : (a : Bool) → in_use (elements g) y ≡ a → (b : Bool) → same_name (plain g.title) y ≡ b → Named (g ∷ gs) k (f y) y n
      on true p b q =
          let u = behind-new y (element-use g xs y p) in
          let v : given_entered g k f y ≡ 16 + k = ap (λ (c : Bool). cond c (16 + k) (cond (same_name (plain g.title) y) (8 + k) (f y))) p in
          an_element g (element-here g gs y p) (title-there g gs y (not-title y p) ∙ u.no_title) (titled-here g gs) (omega (arith, unnamed-is r u, v, first))
      on false p true q =
          let u = behind-new y (title-use g xs y q) in
          let v : given_entered g k f y ≡ 8 + k = ap₂ (λ (c d : Bool). cond c (16 + k) (cond d (8 + k) (f y))) p q in
          a_title g (element-there g gs y p ∙ u.no_element) (title-here g gs y q) (titled-here g gs) (omega (arith, unnamed-is r u, v, first))
      on false p false q =
          behind-named k (given_entered g k f y) (f y) y n r p q (ap₂ (λ (c d : Bool). cond c (16 + k) (cond d (8 + k) (f y))) p q)

named : (xs : List Letters) (i : ℕ) (gs : List Given) → given_faults xs i gs ≡ [] → (k : ℕ) (f : Name → ℕ) (y : Name) → Named gs k (f y) y (named_by gs k f y)
unfolding named_by element_of given_of find
named xs i [] e k f y = neither refl refl refl
named xs i (g ∷ gs) e k f y =
    named-one xs i g gs e k f y (named_by gs (suc k) (given_entered g k f) y)
    (named (given_names (g ∷ []) ++ xs) (i + given_length g) gs (given-new xs i g gs e).rest (suc k) (given_entered g k f) y)

-- ---- names in use ----

abbrev is_some : Option Given → Bool
is_some none = false
is_some (some g) = true

true-either : (c : Bool) → cond c true true ≡ true
true-either true = refl
true-either false = refl

pub given-names-use : (gs : List Given) (y : Name) → in_use (given_names gs) y ≡ cond (is_some (element_of gs y)) true (is_some (given_of gs y))
unfolding given_names any element_of given_of find
given-names-use [] y = refl
given-names-use (g ∷ gs) y = on (same_name (plain g.title) y) refl (in_use (elements g) y) refl (any_append (λ (x : Letters). same_name (plain x) y) (elements g) (given_names gs)) (given-names-use gs y)
  where
    on : (a : Bool) → same_name (plain g.title) y ≡ a → (b : Bool) → in_use (elements g) y ≡ b
        → in_use (elements g ++ given_names gs) y ≡ cond (in_use (elements g) y) true (in_use (given_names gs) y)
        → in_use (given_names gs) y ≡ cond (is_some (element_of gs y)) true (is_some (given_of gs y))
        → in_use (given_names (g ∷ gs)) y ≡ cond (is_some (element_of (g ∷ gs) y)) true (is_some (given_of (g ∷ gs) y))
    on true p true q h k =
        any_here (λ (x : Letters). same_name (plain x) y) g.title (elements g ++ given_names gs) p
        ∙ sym (ap (λ (o : Option Given). cond (is_some o) true (is_some (given_of (g ∷ gs) y))) (element-here g gs y q))
    on true p false q h k =
        any_here (λ (x : Letters). same_name (plain x) y) g.title (elements g ++ given_names gs) p
        ∙ sym (ap (λ (o : Option Given). cond (is_some (element_of (g ∷ gs) y)) true (is_some o)) (title-here g gs y p) ∙ true-either (is_some (element_of (g ∷ gs) y)))
    on false p true q h k =
        any-there (λ (x : Letters). same_name (plain x) y) g.title (elements g ++ given_names gs) p ∙ h ∙ ap (λ (c : Bool). cond c true (in_use (given_names gs) y)) q
        ∙ sym (ap (λ (o : Option Given). cond (is_some o) true (is_some (given_of (g ∷ gs) y))) (element-here g gs y q))
    on false p false q h k =
        any-there (λ (x : Letters). same_name (plain x) y) g.title (elements g ++ given_names gs) p ∙ h ∙ ap (λ (c : Bool). cond c true (in_use (given_names gs) y)) q ∙ k
        ∙ sym (ap₂ (λ (o r : Option Given). cond (is_some o) true (is_some r)) (element-there g gs y q) (title-there g gs y p))

-- a title is in use
pub title-taken : (gs : List Given) (l : Letters) (g : Given) → given_of gs (plain l) ≡ some g → in_use (given_names gs) (plain l) ≡ true
title-taken gs l g e = given-names-use gs (plain l) ∙ ap (λ (o : Option Given). cond (is_some (element_of gs (plain l))) true (is_some o)) e ∙ true-either (is_some (element_of gs (plain l)))

-- the type of a name where no variables are in reach
abbrev pub element_type : List Given → Name → Option Ty
element_type gs y = type_of_name (record { givens = gs; taken = []; reach = [] }) y

module _ (gs : List Given) (few : length gs ≤ 8) (y : Name) (n : ℕ) where
  free-is : Named gs 0 0 y n → is_free n ≡ not (in_use (given_names gs) y)
  unfolding is_free
  free-is (an_element g e f t s) =
      ne_eqb n 0 (omega arith) ∙ sym (ap not (given-names-use gs y ∙ ap (λ (o : Option Given). cond (is_some o) true (is_some (given_of gs y))) e))
  free-is (a_title g e f t s) =
      ne_eqb n 0 (omega arith) ∙ sym (ap not (given-names-use gs y ∙ ap₂ (λ (o p : Option Given). cond (is_some o) true (is_some p)) e f))
  free-is (neither e f s) =
      ap (λ (m : ℕ). eqb m 0) s ∙ sym (ap not (given-names-use gs y ∙ ap₂ (λ (o p : Option Given). cond (is_some o) true (is_some p)) e f))

  given_is : Named gs 0 0 y n → GivenIs gs (given_of gs y) n
  unfolding is_given
  given_is (an_element g e f t s) =
      subst (λ (o : Option Given). GivenIs gs o n) (sym f) (ap₂ ◌&&◌ (le-leb 8 n (omega arith)) (not-below (omega arith)))
    where
      not-below : 16 ≤ n → ltb n 16 ≡ false
      not-below h = le-ltb n 16 h
  given_is (a_title g e f t s) = subst (λ (o : Option Given). GivenIs gs o n) (sym f) (omega arith)
  given_is (neither e f s) = subst (λ (o : Option Given). GivenIs gs o n) (sym f) (ap is_given s)

  element-typed : (g : Given) → element_of gs y ≡ some g → element_type gs y ≡ some (type_of (elements_of g))
  unfolding type_of_name find
  element-typed g e = rw (type_of_name, e)

  not-typed : element_of gs y ≡ none → element_type gs y ≡ none
  unfolding type_of_name find
  not-typed e = rw (type_of_name, e)

  typed-is : Named gs 0 0 y n → TypeIs gs (element_type gs y) n
  unfolding in_reach is_number
  typed-is (an_element g e f t s) = subst (λ (o : Option Ty). TypeIs gs o n) (sym (element-typed g e)) (omega arith, known_element t)
  typed-is (a_title g e f t s) =
      let i = index_in gs g.title t in
      subst (λ (o : Option Ty). TypeIs gs o n) (sym (not-typed e)) (ap₂ ◌||◌ (ne_eqb n 1 (omega arith)) (lt-leb 16 n (omega arith)))
  typed-is (neither e f s) = subst (λ (o : Option Ty). TypeIs gs o n) (sym (not-typed e)) (ap in_reach s)

-- a table between the parts of a dossier: the names xs are in use, and elements are in reach
abbrev pub Base : Numbering → (Letters → Type 0) → List Given → Names → List Letters → Type 0
Base ρ P gs T xs = Sees ρ P gs T (in_use xs) (element_type gs)

pub givens-sees : (ρ : Numbering) (P : Letters → Type 0) → Numbered ρ P → {gs : List Given} → GivensIn P gs → length gs ≤ 8 → {T : Names} → Holds ρ P T (λ (y : Name). 0) → (i : ℕ)
    → given_faults [] i gs ≡ [] → Base ρ P gs (givens_named gs 0 T ρ) (given_names gs)
givens-sees ρ P ν {gs} p few {T} h i e =
    let w = givens-named ρ P ν p h 0 in
    record {
      long = w.long;
      uses = λ y py. at y py (λ (n : ℕ). is_free n ≡ not (in_use (given_names gs) y)) (λ n s. free-is gs few y n s);
      givens = λ y py. at y py (λ (n : ℕ). GivenIs gs (given_of gs y) n) (λ n s. given_is gs few y n s);
      typed = λ y py. at y py (λ (n : ℕ). TypeIs gs (element_type gs y) n) (λ n s. typed-is gs few y n s);
    }
  where
    at : (y : Name) → P y.letters → (Q : ℕ → Type 0) → ((n : ℕ) → Named gs 0 0 y n → Q n) → Q (entry (givens_named gs 0 T ρ) (name_number ρ y))
    at y py Q f = subst Q (sym ((givens-named ρ P ν p h 0).are y py)) (f (named_by gs 0 (λ (x : Name). 0) y) (named [] i gs e 0 (λ (x : Name). 0) y))
