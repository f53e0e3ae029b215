-- Given sets found by name, and the scope inside a binder: the table of names that has the bound name in it shows it.
use mathlib.Core.Path.{◌≡◌, refl, ap, ◌∙◌, sym, subst}
use mathlib.Core.Bool.{Bool, true, false, not, false≢true}
use mathlib.Core.List.{List, [], ◌∷◌, map}
use mathlib.Core.Option.{Option, none, some, none-ne-some, some-injective}
use Prim.Native.Nat.{ℕ, suc, ◌≤◌}
use native.Mathlib.Omega.{arith}
use lib.ListN.{length, get_or, set, length-set}
use lib.Seq.{get_or-set_same, get_or-set_other}
use borrow.Author.Tests.{ne_eqb}
use Rattle.lexical.specs.Lists.{same, any, find}
use Rattle.lexical.specs.Symbols.{Name, Ending, no_ending, prime, query, shriek}
use Rattle.lexical.proofs.WordLaws.{same_refl, same_true, same_turned}
use Rattle.form.specs.Tree.{Letters, Given}
use Rattle.form.specs.Codes.{Numbering, number_of_name, name_number}
use Rattle.declared_names.specs.StaticRulesCarriers.{Carrier, Variable, size_of, same_name, plain, given_of}
use Rattle.declared_names.specs.StaticRulesTypes.{type_of}
use Rattle.declared_names.specs.StaticRulesScope.{Scope, is_taken, type_of_name, binding}
use Rattle.type_rules.specs.TypesByNumber.{Names, Sizes, entry, is_free, is_given}
use Rattle.names.proofs.ReachTables.{index_of, titled, GivenIs, TypeIs, Numbered, Shows}
use Rattle.names.proofs.TypesAgreeTypes.{code-positive, code-not-given}

pub any_here : {A : Type 0} (f : A → Bool) (x : A) (xs : List A) → f x ≡ true → any f (x ∷ xs) ≡ true
unfolding any
any_here f x xs e = ap (λ (b : Bool). elim b [ true ↦ true | false ↦ any f xs ]) e

pub any-there : {A : Type 0} (f : A → Bool) (x : A) (xs : List A) → f x ≡ false → any f (x ∷ xs) ≡ any f xs
unfolding any
any-there f x xs e = ap (λ (b : Bool). elim b [ true ↦ true | false ↦ any f xs ]) e

pub find-here : {A : Type 0} (f : A → Bool) (x : A) (xs : List A) → f x ≡ true → find f (x ∷ xs) ≡ some x
unfolding find
find-here f x xs e = ap (λ (b : Bool). elim b [ true ↦ some x | false ↦ find f xs ]) e

pub find-there : {A : Type 0} (f : A → Bool) (x : A) (xs : List A) → f x ≡ false → find f (x ∷ xs) ≡ find f xs
unfolding find
find-there f x xs e = ap (λ (b : Bool). elim b [ true ↦ some x | false ↦ find f xs ]) e

pub index-here : (g : Given) (gs : List Given) (x : Letters) → same g.title x ≡ true → index_of (g ∷ gs) x ≡ 0
unfolding index_of
index-here g gs x e = ap (λ (b : Bool). elim b as (λ (c : Bool). ℕ) [ true ↦ 0 | false ↦ suc (index_of gs x) ]) e

pub index-there : (g : Given) (gs : List Given) (x : Letters) → same g.title x ≡ false → index_of (g ∷ gs) x ≡ suc (index_of gs x)
unfolding index_of
index-there g gs x e = ap (λ (b : Bool). elim b as (λ (c : Bool). ℕ) [ true ↦ 0 | false ↦ suc (index_of gs x) ]) e

-- ---- given sets ----

-- the given set g is found by the name x
pub record Found (gs : List Given) (x : Name) (g : Given) : Type 0 where
  pub called : g.title ≡ x.letters
  pub listed : titled gs g.title ≡ true
  pub sized : get_or (map size_of gs) (index_of gs g.title) 0 ≡ size_of g

found_here : (g : Given) (gs : List Given) (x : Name) → g.title ≡ x.letters → Found (g ∷ gs) x g
found_here g gs x e =
    record {
      called = e;
      listed = any_here (λ (h : Given). same h.title g.title) g gs (same_refl g.title);
      sized = ap (λ (n : ℕ). get_or (map size_of (g ∷ gs)) n 0) (index-here g gs g.title (same_refl g.title));
    }

found-there : (h : Given) (gs : List Given) (x : Name) (g : Given) → same h.title x.letters ≡ false → Found gs x g → Found (h ∷ gs) x g
found-there h gs x g e f =
    let d : same h.title g.title ≡ false = ap (same h.title) f.called ∙ e in
    record {
      called = f.called;
      listed = any-there (λ (k : Given). same k.title g.title) h gs d ∙ f.listed;
      sized = ap (λ (n : ℕ). get_or (map size_of (h ∷ gs)) n 0) (index-there h gs g.title d) ∙ f.sized;
    }

found_plain : (gs : List Given) (l : Letters) (g : Given) → given_of gs (plain l) ≡ some g → Found gs (plain l) g
unfolding given_of find same_name
found_plain [] l g e = absurd (none-ne-some g e)
found_plain (h ∷ gs) l g e = on (same h.title l) refl (found_plain gs l g) e
  where
    on : (b : Bool) → same h.title l ≡ b → (given_of gs (plain l) ≡ some g → Found gs (plain l) g)
        → ◌≡◌ {A = Option Given} (elim b [ true ↦ some h | false ↦ given_of gs (plain l) ]) (some g) → Found (h ∷ gs) (plain l) g
    on true p r e = subst (Found (h ∷ gs) (plain l)) (some-injective h g e) (found_here h gs (plain l) (same_true h.title l p))
    on false p r e = found-there h gs (plain l) g p (r e)

-- a name with an ending is no given set's
pub ended : (gs : List Given) (l : Letters) (e : Ending) → ((t : Letters) → same_name (plain t) (record { letters = l; ending = e }) ≡ false)
    → given_of gs (record { letters = l; ending = e }) ≡ none
unfolding given_of find
ended [] l e h = refl
ended (g ∷ gs) l e h = find-there (λ (k : Given). same_name (plain k.title) (record { letters = l; ending = e })) g gs (h g.title) ∙ ended gs l e h

pub found : (gs : List Given) (x : Name) (g : Given) → given_of gs x ≡ some g → Found gs x g
unfolding same_name
found gs x g e = on x.ending e
  where
    on : (d : Ending) → given_of gs (record { letters = x.letters; ending = d }) ≡ some g → Found gs (record { letters = x.letters; ending = d }) g
    on no_ending h = found_plain gs x.letters g h
    on prime h = absurd (none-ne-some g (sym (ended gs x.letters prime (λ t. refl)) ∙ h))
    on query h = absurd (none-ne-some g (sym (ended gs x.letters query (λ t. refl)) ∙ h))
    on shriek h = absurd (none-ne-some g (sym (ended gs x.letters shriek (λ t. refl)) ∙ h))

-- a given set's title finds it
pub record Finds (gs : List Given) (l : Letters) : Type 0 where
  pub given : Given
  pub finds : given_of gs (plain l) ≡ some given

pub titled-finds : (gs : List Given) (l : Letters) → titled gs l ≡ true → Finds gs l
unfolding given_of find any same_name
titled-finds [] l e = absurd (false≢true e)
titled-finds (g ∷ gs) l e = on (same g.title l) refl (titled-finds gs l) e
  where
    f : Given → Bool
    f k = same_name (plain k.title) (plain l)

    on : (b : Bool) → same g.title l ≡ b → (titled gs l ≡ true → Finds gs l) → ◌≡◌ {A = Bool} (elim b [ true ↦ true | false ↦ titled gs l ]) true → Finds (g ∷ gs) l
    on true p r h = record { given = g; finds = find-here f g gs p }
    on false p r h = let w = r h in record { given = w.given; finds = find-there f g gs p ∙ w.finds }

-- a name that is no title finds nothing
pub untitled : (gs : List Given) (l : Letters) → titled gs l ≡ false → given_of gs (plain l) ≡ none
unfolding given_of find any same_name
untitled [] l e = refl
untitled (g ∷ gs) l e = on (same g.title l) refl (untitled gs l) e
  where
    f : Given → Bool
    f k = same_name (plain k.title) (plain l)

    on : (b : Bool) → same g.title l ≡ b → (titled gs l ≡ false → given_of gs (plain l) ≡ none) → ◌≡◌ {A = Bool} (elim b [ true ↦ true | false ↦ titled gs l ]) false
        → given_of (g ∷ gs) (plain l) ≡ none
    on true p r h = absurd (false≢true (sym h))
    on false p r h = find-there f g gs p ∙ r h

-- ---- binders ----

-- other letters have another number, whatever their endings
apart : (ρ : Numbering) (P : Letters → Type 0) → Numbered ρ P → (x y : Letters) → P x → P y → same y x ≡ false → ρ y ≡ ρ x → ⊥
apart ρ P ν x y px py h e = absurd (false≢true (sym h ∙ ap (same y) (sym (ν.own y x py px e)) ∙ same_refl y))

-- what holds of a bound name, and of each name with another number, holds of every name
pub each-name : (ρ : Numbering) (P : Letters → Type 0) → Numbered ρ P → (x : Letters) → P x → (Q : Name → Type 0) → Q (plain x)
    → ((y : Name) → P y.letters → same_name (plain x) y ≡ false → (name_number ρ y ≡ number_of_name ρ x no_ending → ⊥) → Q y) → (y : Name) → P y.letters → Q y
unfolding number_of_name same_name
each-name ρ P ν x px Q this other y py = on y.ending (same y.letters x) refl
  where
    on : (e : Ending) (b : Bool) → same y.letters x ≡ b → Q (record { letters = y.letters; ending = e })
    on no_ending true q = subst (λ (l : Letters). Q (plain l)) (sym (same_true y.letters x q)) this
    on no_ending false q = other (plain y.letters) py (same_turned x y.letters q) (λ e. apart ρ P ν x y.letters px py q (omega arith))
    on prime b q = other (record { letters = y.letters; ending = prime }) py refl (omega arith)
    on query b q = other (record { letters = y.letters; ending = query }) py refl (omega arith)
    on shriek b q = other (record { letters = y.letters; ending = shriek }) py refl (omega arith)

-- the entry of a bound name is what was written for it
pub written-entry : (ρ : Numbering) (P : Letters → Type 0) → Numbered ρ P → (x : Letters) → P x → (T : Names) (k : ℕ) → 16384 ≤ length T
    → entry (set T (number_of_name ρ x no_ending) k) (number_of_name ρ x no_ending) ≡ k
unfolding number_of_name
written-entry ρ P ν x px T k long = get_or-set_same T (number_of_name ρ x no_ending) k 0 (omega (arith, ν.small x px, long))

module _ (ρ : Numbering) (P : Letters → Type 0) (ν : Numbered ρ P) (Γ : Scope) (T : Names) (z : Sizes) (s : Shows ρ P Γ T z)
    (x : Letters) (px : P x) (new : is_taken Γ.taken x ≡ false) (c : Carrier) (k : ℕ) (w : TypeIs Γ.givens (some (type_of c)) k) where
  binding-uses : (y : Letters) → P y
      → is_free (entry (set T (number_of_name ρ x no_ending) k) (number_of_name ρ y no_ending)) ≡ not (is_taken (x ∷ Γ.taken) y)
  unfolding is_taken is_free number_of_name
  binding-uses y py = on (same y x) refl
    where
      on : (b : Bool) → same y x ≡ b → is_free (entry (set T (number_of_name ρ x no_ending) k) (number_of_name ρ y no_ending)) ≡ not (is_taken (x ∷ Γ.taken) y)
      on true e =
          ap (λ (l : Letters). is_free (entry (set T (number_of_name ρ x no_ending) k) (number_of_name ρ l no_ending))) (same_true y x e) ∙ ap is_free (written-entry ρ P ν x px T k s.long)
          ∙ ne_eqb k 0 (omega (arith, code-positive Γ.givens s.few w.1, w.0)) ∙ sym (ap not (any_here (same y) x Γ.taken e))
      on false e =
          ap is_free (get_or-set_other T _ _ k 0 (λ q. apart ρ P ν x y px py e (omega arith))) ∙ s.uses y py ∙ sym (ap not (any-there (same y) x Γ.taken e))

  -- a name with another number is what it was
  other-given : (y : Name) → P y.letters → (name_number ρ y ≡ number_of_name ρ x no_ending → ⊥)
      → GivenIs Γ.givens (given_of Γ.givens y) (entry (set T (number_of_name ρ x no_ending) k) (name_number ρ y))
  other-given y py h = subst (GivenIs Γ.givens (given_of Γ.givens y)) (sym (get_or-set_other T _ _ k 0 h)) (s.givens y py)

  this-given : GivenIs Γ.givens (given_of Γ.givens (plain x)) (entry (set T (number_of_name ρ x no_ending) k) (number_of_name ρ x no_ending))
  this-given =
      subst (λ (o : Option Given). GivenIs Γ.givens o (entry (set T (number_of_name ρ x no_ending) k) (number_of_name ρ x no_ending)))
      (sym (untitled Γ.givens x (s.titles x new))) (ap is_given (written-entry ρ P ν x px T k s.long ∙ w.0) ∙ code-not-given Γ.givens s.few w.1)

  binding-givens : (y : Name) → P y.letters → GivenIs Γ.givens (given_of Γ.givens y) (entry (set T (number_of_name ρ x no_ending) k) (name_number ρ y))
  binding-givens =
      each-name ρ P ν x px (λ (y : Name). GivenIs Γ.givens (given_of Γ.givens y) (entry (set T (number_of_name ρ x no_ending) k) (name_number ρ y))) this-given
      (λ y py e h. other-given y py h)

  variable : Variable
  variable = record { called = plain x; carrier = c }

  typed-here : (y : Name) → same_name (plain x) y ≡ true → type_of_name (binding Γ x c) y ≡ some (type_of c)
  unfolding type_of_name variable
  typed-here y e = rw (find-here (λ (v : Variable). same_name v.called y) variable Γ.reach e)

  typed-there : (y : Name) → same_name (plain x) y ≡ false → type_of_name (binding Γ x c) y ≡ type_of_name Γ y
  unfolding type_of_name variable
  typed-there y e = rw (find-there (λ (v : Variable). same_name v.called y) variable Γ.reach e)

  other-typed : (y : Name) → P y.letters → same_name (plain x) y ≡ false → (name_number ρ y ≡ number_of_name ρ x no_ending → ⊥)
      → TypeIs Γ.givens (type_of_name (binding Γ x c) y) (entry (set T (number_of_name ρ x no_ending) k) (name_number ρ y))
  other-typed y py e h = rw (typed-there y e, get_or-set_other T _ _ k 0 h) (s.typed y py)

  this-typed : TypeIs Γ.givens (type_of_name (binding Γ x c) (plain x)) (entry (set T (number_of_name ρ x no_ending) k) (number_of_name ρ x no_ending))
  unfolding same_name
  this-typed = rw (typed-here (plain x) (same_refl x), written-entry ρ P ν x px T k s.long) w

  binding-typed : (y : Name) → P y.letters → TypeIs Γ.givens (type_of_name (binding Γ x c) y) (entry (set T (number_of_name ρ x no_ending) k) (name_number ρ y))
  binding-typed =
      each-name ρ P ν x px (λ (y : Name). TypeIs Γ.givens (type_of_name (binding Γ x c) y) (entry (set T (number_of_name ρ x no_ending) k) (name_number ρ y))) this-typed
      other-typed

  binding-titles : (y : Letters) → is_taken (x ∷ Γ.taken) y ≡ false → titled Γ.givens y ≡ false
  unfolding is_taken
  binding-titles y h = on (same y x) refl
    where
      on : (b : Bool) → same y x ≡ b → titled Γ.givens y ≡ false
      on true e = absurd (false≢true (sym h ∙ any_here (same y) x Γ.taken e))
      on false e = s.titles y (sym (any-there (same y) x Γ.taken e) ∙ h)

  -- the scope inside a binder is shown by the table with the bound name in it
  pub binding-shows : Shows ρ P (binding Γ x c) (set T (number_of_name ρ x no_ending) k) z
  binding-shows =
      record {
        long = omega (arith, length-set T (number_of_name ρ x no_ending) k, s.long);
        few = s.few;
        sizes = s.sizes;
        spelt = s.spelt;
        titles = binding-titles;
        uses = binding-uses;
        givens = binding-givens;
        typed = binding-typed;
      }
