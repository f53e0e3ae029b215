-- Declared names: the key of declarations is that of their least fault; what the table says once their names are in reach, and once they are not.
use mathlib.Core.Path.{◌≡◌, refl, ap, ap₂, ◌∙◌, sym, subst}
use mathlib.Core.Bool.{Bool, true, false, not, cond, false≢true}
use mathlib.Core.List.{List, [], ◌∷◌, ◌++◌}
use mathlib.Core.Option.{Option, none, some}
use Prim.Native.Nat.{ℕ, ◌+◌}
use native.Mathlib.Omega.{arith}
use lib.ListN.{set}
use borrow.Author.Tests.{ne_eqb, not-true}
use Rattle.lexical.specs.Lists.{any, find}
use Rattle.lexical.specs.Symbols.{Name}
use Rattle.refusals.specs.Refusals.{Fault, fault, number_of, name_in_use, unless}
use Rattle.form.specs.Tree.{Letters, Given}
use Rattle.form.specs.Codes.{Numbering, name_number, type_width}
use Rattle.declared_names.specs.StaticRulesCarriers.{Carrier, Variable, same_name, given_of, carrier_of}
use Rattle.declared_names.specs.StaticRulesTypes.{Ty, type_of}
use Rattle.declared_names.specs.StaticRulesNames.{type_faults}
use Rattle.type_rules.specs.TypesByNumber.{Names, Sizes, key, unless_key, is_free, is_given, least_key}
use Rattle.declared_names.specs.NamesByNumber.{Typed, type_kind, shown, hidden, declared_key}
use Rattle.names.proofs.ReachTables.{GivenIs, TypeIs, Numbered}
use Rattle.names.proofs.TypesAgreeLeast.{two-parts, least-nil, unless-least}
use Rattle.names.proofs.TypesAgreeTypes.{code-positive, code-not-given}
use Rattle.names.proofs.TypesAgreeScope.{any_here, any-there, find-here, find-there}
use Rattle.names.proofs.PassAgreesPlaces.{Within, nowhere, within-append, within-used, wider}
use Rattle.names.proofs.PassAgreesOrder.{behind}
use Rattle.names.proofs.PassAgreesTables.{Sees, Sits, same-name, name-refl, put, sees-same, unused}
use Rattle.names.proofs.PassAgreesTypes.{TypeIn, Sized, type-within, type-carries, type-least, type-kind}
use Rattle.refusals.proofs.FaultLists.{append_nil-both, unless-nil}

-- one more name in use, and in reach
abbrev pub use_of : Name → (Name → Bool) → Name → Bool
use_of x u y = cond (same_name x y) true (u y)

abbrev pub reach_of : Name → Ty → (Name → Option Ty) → Name → Option Ty
reach_of x t r y = cond (same_name x y) (some t) (r y)

-- variables in reach, the last of them innermost
unfoldable pub used_after : List Variable → (Name → Bool) → Name → Bool
used_after [] u = u
used_after (v ∷ vs) u = used_after vs (use_of v.called u)

unfoldable pub after : List Variable → (Name → Option Ty) → Name → Option Ty
after [] r = r
after (v ∷ vs) r = after vs (reach_of v.called (type_of v.carrier) r)

-- the faults of declared names, where u says which names are in use
unfoldable pub typed_faults : List Given → (Name → Bool) → ℕ → List Typed → List Fault
typed_faults gs u i [] = []
typed_faults gs u i (x ∷ xs) =
    unless (not (u x.called)) (fault i name_in_use) ++ type_faults gs x.type (i + 2) ++ typed_faults gs (use_of x.called u) (i + 3 + type_width x.type) xs

unfoldable pub typed_width : List Typed → ℕ
typed_width [] = 0
typed_width (x ∷ xs) = 3 + type_width x.type + typed_width xs

head-within : (gs : List Given) (u : Name → Bool) (i : ℕ) (x : Typed)
    → Within i (i + 3 + type_width x.type) (unless (not (u x.called)) (fault i name_in_use) ++ type_faults gs x.type (i + 2))
head-within gs u i x =
    within-append (within-used (not (u x.called)) i (omega arith) (omega arith)) (wider _ _ (type-within gs x.type (i + 2)) (omega arith) (omega arith))

pub typed-within : (gs : List Given) (u : Name → Bool) (i : ℕ) (xs : List Typed) → Within i (i + typed_width xs) (typed_faults gs u i xs)
unfolding typed_faults typed_width
typed-within gs u i [] = nowhere
typed-within gs u i (x ∷ xs) =
    within-append (wider _ _ (head-within gs u i x) (omega arith) (omega arith))
    (wider _ _ (typed-within gs (use_of x.called u) (i + 3 + type_width x.type) xs) (omega arith) (omega arith))

-- all letters are the text's
pub data TypedIn (P : Letters → Type 0) : List Typed → Type 0 where
  no_typed : TypedIn P []
  one_typed : {x : Typed} {xs : List Typed} → P x.called.letters → TypeIn P x.type → TypedIn P xs → TypedIn P (x ∷ xs)

-- declared names without faults, with their carriers
pub data Carried (P : Letters → Type 0) (gs : List Given) : List Typed → List Variable → Type 0 where
  no_carried : Carried P gs [] []
  one_carried : {x : Typed} {xs : List Typed} {vs : List Variable} (c : Carrier) (i : ℕ) → P x.called.letters → TypeIn P x.type → type_faults gs x.type i ≡ []
      → carrier_of gs x.type ≡ some c → given_of gs x.called ≡ none → Carried P gs xs vs → Carried P gs (x ∷ xs) (record { called = x.called; carrier = c } ∷ vs)

-- each name is not in use where it is declared
pub data Fresh : (Name → Bool) → List Variable → Type 0 where
  no_fresh : {u : Name → Bool} → Fresh u []
  one_fresh : {u : Name → Bool} {v : Variable} {vs : List Variable} → u v.called ≡ false → Fresh (use_of v.called u) vs → Fresh u (v ∷ vs)

pub record Clear (P : Letters → Type 0) (gs : List Given) (u : Name → Bool) (xs : List Typed) : Type 0 where
  pub variables : List Variable
  pub carried : Carried P gs xs variables
  pub fresh : Fresh u variables

use_false : (x : Name) (u : Name → Bool) (y : Name) → use_of x u y ≡ false → u y ≡ false
use_false x u y e = on (same_name x y) e
  where
    on : (b : Bool) → cond b true (u y) ≡ false → u y ≡ false
    on true h = absurd (false≢true (sym h))
    on false h = h

pub clear : {P : Letters → Type 0} (gs : List Given) {xs : List Typed} → TypedIn P xs → (u : Name → Bool) → ((y : Name) → P y.letters → u y ≡ false → given_of gs y ≡ none)
    → (i : ℕ) → typed_faults gs u i xs ≡ [] → Clear P gs u xs
unfolding typed_faults
clear gs no_typed u t i e = record { variables = []; carried = no_carried; fresh = no_fresh }
clear gs (one_typed {x = x} {xs = xs} p q h) u t i e =
    let a = append_nil-both (unless (not (u x.called)) (fault i name_in_use) ++ type_faults gs x.type (i + 2)) (typed_faults gs (use_of x.called u) (i + 3 + type_width x.type) xs) e in
    let b = append_nil-both (unless (not (u x.called)) (fault i name_in_use)) (type_faults gs x.type (i + 2)) a.0 in
    let c = type-carries gs x.type (i + 2) b.1 in
    let f = not-true (u x.called) (unless-nil (not (u x.called)) (fault i name_in_use) b.0) in
    let m = clear gs h (use_of x.called u) (λ y py k. t y py (use_false x.called u y k)) (i + 3 + type_width x.type) a.1 in
    record {
      variables = record { called = x.called; carrier = c.carrier } ∷ m.variables;
      carried = one_carried c.carrier (i + 2) p q b.1 c.carries (t x.called p f) m.carried;
      fresh = one_fresh f m.fresh;
    }

-- ---- lists of variables as they are searched ----

abbrev pub found : List Variable → Name → Option Variable
found vs y = find (λ (v : Variable). same_name v.called y) vs

abbrev pub or_type : Option Variable → Option Ty → Option Ty
or_type none t = t
or_type (some v) t = some (type_of v.carrier)

pub fresh-none : {u : Name → Bool} {vs : List Variable} → Fresh u vs → (y : Name) → u y ≡ true → found vs y ≡ none
unfolding find
fresh-none no_fresh y e = refl
fresh-none {u = u} (one_fresh {v = v} {vs = vs} f h) y e = on (same_name v.called y) refl (fresh-none h y)
  where
    on : (b : Bool) → same_name v.called y ≡ b → (use_of v.called u y ≡ true → found vs y ≡ none) → found (v ∷ vs) y ≡ none
    on true k l = absurd (false≢true (sym f ∙ ap u (same-name v.called y k) ∙ e))
    on false k l = find-there (λ (w : Variable). same_name w.called y) v vs k ∙ l (ap (λ (c : Bool). cond c true (u y)) k ∙ e)

-- names declared once are found alike from either end
pub after-found : {u : Name → Bool} {vs : List Variable} → Fresh u vs → (r : Name → Option Ty) (y : Name) → after vs r y ≡ or_type (found vs y) (r y)
unfolding after find
after-found no_fresh r y = refl
after-found {u = u} (one_fresh {v = v} {vs = vs} f h) r y = on (same_name v.called y) refl (after-found h (reach_of v.called (type_of v.carrier) r) y)
  where
    on : (b : Bool) → same_name v.called y ≡ b → after vs (reach_of v.called (type_of v.carrier) r) y ≡ or_type (found vs y) (reach_of v.called (type_of v.carrier) r y)
        → after (v ∷ vs) r y ≡ or_type (found (v ∷ vs) y) (r y)
    on true k l =
        l ∙ ap₂ (λ (o : Option Variable) (c : Bool). or_type o (cond c (some (type_of v.carrier)) (r y))) (fresh-none h y (ap (λ (c : Bool). cond c true (u y)) k)) k
        ∙ sym (ap (λ (o : Option Variable). or_type o (r y)) (find-here (λ (w : Variable). same_name w.called y) v vs k))
    on false k l =
        l ∙ ap (λ (c : Bool). or_type (found vs y) (cond c (some (type_of v.carrier)) (r y))) k
        ∙ sym (ap (λ (o : Option Variable). or_type o (r y)) (find-there (λ (w : Variable). same_name w.called y) v vs k))

abbrev pub has_name : List Variable → Name → Bool
has_name vs y = any (λ (v : Variable). same_name v.called y) vs

pub used-after : (vs : List Variable) (u : Name → Bool) (y : Name) → used_after vs u y ≡ cond (has_name vs y) true (u y)
unfolding used_after any
used-after [] u y = refl
used-after (v ∷ vs) u y = used-after vs (use_of v.called u) y ∙ on (same_name v.called y) refl (has_name vs y) refl
  where
    on : (b : Bool) → same_name v.called y ≡ b → (c : Bool) → has_name vs y ≡ c → cond (has_name vs y) true (cond (same_name v.called y) true (u y)) ≡ cond (has_name (v ∷ vs) y) true (u y)
    on true h true k = ap₂ (λ (a b : Bool). cond a true (cond b true (u y))) k h ∙ sym (ap (λ (a : Bool). cond a true (u y)) (any_here (λ (w : Variable). same_name w.called y) v vs h))
    on true h false k = ap₂ (λ (a b : Bool). cond a true (cond b true (u y))) k h ∙ sym (ap (λ (a : Bool). cond a true (u y)) (any_here (λ (w : Variable). same_name w.called y) v vs h))
    on false h c k = ap (λ (b : Bool). cond (has_name vs y) true (cond b true (u y))) h ∙ sym (ap (λ (a : Bool). cond a true (u y)) (any-there (λ (w : Variable). same_name w.called y) v vs h))

abbrev pub has_typed : List Typed → Name → Bool
has_typed xs y = any (λ (x : Typed). same_name x.called y) xs

pub carried-names : {P : Letters → Type 0} {gs : List Given} {xs : List Typed} {vs : List Variable} → Carried P gs xs vs → (y : Name) → has_typed xs y ≡ has_name vs y
unfolding any
carried-names no_carried y = refl
carried-names (one_carried {x = x} c i p q e f g h) y = ap (λ (b : Bool). elim (same_name x.called y) as (λ (d : Bool). Bool) [ true ↦ true | false ↦ b ]) (carried-names h y)

pub found_none : (vs : List Variable) (y : Name) → has_name vs y ≡ false → found vs y ≡ none
unfolding any find
found_none [] y e = refl
found_none (v ∷ vs) y e = on (same_name v.called y) refl (found_none vs y) e
  where
    on : (b : Bool) → same_name v.called y ≡ b → (has_name vs y ≡ false → found vs y ≡ none) → ◌≡◌ {A = Bool} (elim b [ true ↦ true | false ↦ has_name vs y ]) false → found (v ∷ vs) y ≡ none
    on true h l k = absurd (false≢true (sym k))
    on false h l k = find-there (λ (w : Variable). same_name w.called y) v vs h ∙ l k

-- ---- tables ----

module _ (ρ : Numbering) (P : Letters → Type 0) (ν : Numbered ρ P) (gs : List Given) (z : Sizes) (d : Sized gs z) where
  type-sits : (u : Name → Bool) (r : Name → Option Ty) (x : Name) (t : Ty) (k : ℕ) → given_of gs x ≡ none → TypeIs gs (some t) k → Sits gs (use_of x u) (reach_of x t r) x k
  unfolding is_free
  type-sits u r x t k g w =
      record {
        use_is = ne_eqb k 0 (omega (arith, code-positive gs d.few w.1, w.0)) ∙ sym (ap (λ (b : Bool). not (cond b true (u x))) (name-refl x));
        given_is = subst (λ (o : Option Given). GivenIs gs o k) (sym g) (ap is_given w.0 ∙ code-not-given gs d.few w.1);
        type_is = subst (λ (b : Bool). TypeIs gs (cond b (some t) (r x)) k) (sym (name-refl x)) w;
      }

  -- a declared name comes into reach
  bring : {T : Names} {u : Name → Bool} {r : Name → Option Ty} → Sees ρ P gs T u r → (x : Typed) (c : Carrier) (i : ℕ) → P x.called.letters → TypeIn P x.type
      → type_faults gs x.type i ≡ [] → carrier_of gs x.type ≡ some c → given_of gs x.called ≡ none
      → Sees ρ P gs (set T (name_number ρ x.called) (type_kind x.type T ρ)) (use_of x.called u) (reach_of x.called (type_of c) r)
  bring {T} {u} {r} s x c i p q e f g =
      put ρ P ν gs s x.called p (type_kind x.type T ρ) (use_of x.called u) (reach_of x.called (type_of c) r)
      (λ y h. (ap (λ (b : Bool). cond b true (u y)) h, ap (λ (b : Bool). cond b (some (type_of c)) (r y)) h))
      (type-sits u r x.called (type_of c) (type_kind x.type T ρ) g (type-kind ρ P gs z d T u r s x.type q i e c f))

  pub declared-least : {xs : List Typed} → TypedIn P xs → {T : Names} {u : Name → Bool} {r : Name → Option Ty} → Sees ρ P gs T u r → (i : ℕ)
      → declared_key xs T ρ z i ≡ least_key (typed_faults gs u i xs)
  unfolding declared_key typed_faults number_of
  declared-least no_typed s i = sym least-nil
  declared-least (one_typed {x = x} {xs = xs} p q h) {T} {u} {r} s i =
      behind _ _ (head-within gs u i x) (typed-within gs (use_of x.called u) (i + 3 + type_width x.type) xs) (omega arith)
      (two-parts (unless (not (u x.called)) (fault i name_in_use)) (type_faults gs x.type (i + 2))
      (ap (λ (b : Bool). unless_key b (key i 8)) (s.uses x.called p) ∙ unless-least (not (u x.called)) i name_in_use)
      (type-least ρ P gs z d T u r s x.type q (i + 2)))
      (λ e. let b = append_nil-both (unless (not (u x.called)) (fault i name_in_use)) (type_faults gs x.type (i + 2)) e in
      let c = type-carries gs x.type (i + 2) b.1 in
      let f = not-true (u x.called) (unless-nil (not (u x.called)) (fault i name_in_use) b.0) in
      declared-least h (bring s x c.carrier (i + 2) p q b.1 c.carries (unused ρ P ν gs d.few s x.called p f).0) (i + 3 + type_width x.type))

  pub shown-sees : {xs : List Typed} {vs : List Variable} → Carried P gs xs vs → {T : Names} {u : Name → Bool} {r : Name → Option Ty} → Sees ρ P gs T u r
      → Sees ρ P gs (shown xs 0 T ρ) (used_after vs u) (after vs r)
  unfolding shown used_after after
  shown-sees no_carried s = s
  shown-sees (one_carried {x = x} {xs = xs} {vs = vs} c i p q e f g h) {T} {u} {r} s =
      let k : name_number ρ x.called ≡ name_number ρ x.called + 0 = omega arith in
      subst (λ (n : ℕ). Sees ρ P gs (shown xs 0 (set T n (type_kind x.type T ρ)) ρ) (used_after vs (use_of x.called u)) (after vs (reach_of x.called (type_of c) r))) k
      (shown-sees h (bring s x c i p q e f g))

  pub hidden-sees : {xs : List Typed} {vs : List Variable} → Carried P gs xs vs → (k : ℕ) {T : Names} {u u' : Name → Bool} {r r' : Name → Option Ty} → Sees ρ P gs T u' r'
      → ((y : Name) → has_typed xs y ≡ false → (u' y ≡ u y) × (r' y ≡ r y)) → ((y : Name) → has_typed xs y ≡ true → Sits gs u r y k) → Sees ρ P gs (hidden xs 0 k T ρ) u r
  unfolding hidden any
  hidden-sees no_carried k s h w = sees-same ρ P ν gs s (λ y. h y refl)
  hidden-sees (one_carried {x = x} {xs = xs} {vs = vs} c i p q e f g l) k {T} {u} {u'} {r} {r'} s h w =
      let m : name_number ρ x.called ≡ name_number ρ x.called + 0 = omega arith in
      subst (λ (n : ℕ). Sees ρ P gs (hidden xs 0 k (set T n k) ρ) u r) m
      (hidden-sees l k
      (put ρ P ν gs s x.called p k (λ y. cond (same_name x.called y) (u y) (u' y)) (λ y. cond (same_name x.called y) (r y) (r' y))
      (λ y n. (ap (λ (b : Bool). cond b (u y) (u' y)) n, ap (λ (b : Bool). cond b (r y) (r' y)) n)) here)
      other (λ y n. w y (later y n)))
    where
      here : Sits gs (λ y. cond (same_name x.called y) (u y) (u' y)) (λ y. cond (same_name x.called y) (r y) (r' y)) x.called k
      here =
          let a = w x.called (any_here (λ (v : Typed). same_name v.called x.called) x xs (name-refl x.called)) in
          record {
            use_is = a.use_is ∙ sym (ap (λ (b : Bool). not (cond b (u x.called) (u' x.called))) (name-refl x.called));
            given_is = a.given_is;
            type_is = subst (λ (b : Bool). TypeIs gs (cond b (r x.called) (r' x.called)) k) (sym (name-refl x.called)) a.type_is;
          }

      later : (y : Name) → has_typed xs y ≡ true → has_typed (x ∷ xs) y ≡ true
      later y n = on (same_name x.called y) refl
        where
          on : (b : Bool) → same_name x.called y ≡ b → has_typed (x ∷ xs) y ≡ true
          on true o = any_here (λ (v : Typed). same_name v.called y) x xs o
          on false o = any-there (λ (v : Typed). same_name v.called y) x xs o ∙ n

      other : (y : Name) → has_typed xs y ≡ false → (cond (same_name x.called y) (u y) (u' y) ≡ u y) × (cond (same_name x.called y) (r y) (r' y) ≡ r y)
      other y n = on (same_name x.called y) refl
        where
          on : (b : Bool) → same_name x.called y ≡ b → (cond b (u y) (u' y) ≡ u y) × (cond b (r y) (r' y) ≡ r y)
          on true o = (refl, refl)
          on false o = h y (any-there (λ (v : Typed). same_name v.called y) x xs o ∙ n)
