-- The variables of a state in reach and out of reach: what the table says, and the scope that it shows.
use mathlib.Core.Path.{◌≡◌, refl, ap, ◌∙◌, sym, subst}
use mathlib.Core.Bool.{Bool, true, false, not, cond, false≢true}
use mathlib.Core.List.{List, [], ◌∷◌, ◌++◌, map}
use mathlib.Core.Option.{Option, none}
use Prim.Native.Nat.{ℕ, zero, suc, ◌+◌, ◌<◌}
use native.Mathlib.Omega.{arith}
use lib.ListN.{length, get_or}
use Rattle.std.proofs.lemmas.Bool.{false_from_ne_true}
use Rattle.lexical.specs.Lists.{same, any}
use Rattle.lexical.specs.Symbols.{Name, no_ending}
use Rattle.form.specs.Tree.{Letters, Given, Declaration, declarations, State}
use Rattle.form.specs.Codes.{Numbering, name_number}
use Rattle.declared_names.specs.StaticRulesCarriers.{Variable, same_name, plain, given_of}
use Rattle.declared_names.specs.StaticRulesTypes.{Ty}
use Rattle.declared_names.specs.StaticRulesScope.{is_taken, variables, given_names, state_names}
use Rattle.declared_names.specs.StaticRulesNames.{declaration_faults, judge_pred}
use Rattle.type_rules.specs.TypesByNumber.{Names, Sizes, entry, is_free, is_number, is_given, in_reach, least_key}
use Rattle.declared_names.specs.NamesByNumber.{Typed, variables_of, shown, hidden, predicate_at, state_key, state_named}
use Rattle.names.proofs.ReachTables.{titled, GivenIs, TypeIs, Numbered, Shows, PredIn}
use Rattle.names.proofs.TypesAgreeScope.{titled-finds}
use Rattle.names.proofs.TypesAgree.{judged-pred}
use Rattle.names.proofs.PassAgreesPlaces.{Within, pred-within}
use Rattle.names.proofs.PassAgreesOrder.{behind}
use Rattle.names.proofs.PassAgreesTables.{Sees, Sits, same-name, sees-same, unused}
use Rattle.names.proofs.PassAgreesTypes.{Sized}
use Rattle.names.proofs.PassAgreesDeclared.{use_of, typed_width, typed-within, TypedIn, no_typed, one_typed, Carried}
use Rattle.names.proofs.PassAgreesDeclared.{Fresh, no_fresh, one_fresh, clear, found, or_type, after-found, has_name, used-after, has_typed, carried-names, found_none}
use Rattle.names.proofs.PassAgreesDeclared.{declared-least, shown-sees, hidden-sees}
use Rattle.names.proofs.PassAgreesUse.{in_use, taken_is, any_append, use-left}
use Rattle.names.proofs.PassAgreesGivens.{GivensIn, no_givens, one_given}
use Rattle.names.proofs.PassAgreesNamed.{element_type, Base, title-taken}
use Rattle.names.proofs.PassAgreesStates.{declarations-typed, declarations-length, typed-use, carried-variables, scope, type-found}

fresh-unused : {u : Name → Bool} {vs : List Variable} → Fresh u vs → (y : Name) → has_name vs y ≡ true → u y ≡ false
unfolding any
fresh-unused no_fresh y e = absurd (false≢true e)
fresh-unused {u = u} (one_fresh {v = v} {vs = vs} f h) y e = on (same_name v.called y) refl e (fresh-unused h y)
  where
    on : (b : Bool) → same_name v.called y ≡ b → ◌≡◌ {A = Bool} (elim b [ true ↦ true | false ↦ has_name vs y ]) true → (has_name vs y ≡ true → use_of v.called u y ≡ false) → u y ≡ false
    on true k e l = ap u (sym (same-name v.called y k)) ∙ f
    on false k e l = sym (ap (λ (b : Bool). cond b true (u y)) k) ∙ l e

-- what holds of the letters of the name found first, or of those of a later one
pub first_letters : (P : Letters → Type 0) (x : Typed) (xs : List Typed) → P x.called.letters → (y : Name) → (has_typed xs y ≡ true → P y.letters) → has_typed (x ∷ xs) y ≡ true → P y.letters
unfolding any
first_letters P x xs p y l e = on (same_name x.called y) refl e
  where
    on : (b : Bool) → same_name x.called y ≡ b → ◌≡◌ {A = Bool} (elim b [ true ↦ true | false ↦ has_typed xs y ]) true → P y.letters
    on true k e = subst (λ (n : Name). P n.letters) (same-name x.called y k) p
    on false k e = l e

typed-letters : {P : Letters → Type 0} {xs : List Typed} → TypedIn P xs → (y : Name) → has_typed xs y ≡ true → P y.letters
unfolding any
typed-letters no_typed y e = absurd (false≢true e)
typed-letters {P} (one_typed {x = x} {xs = xs} p q h) y e = first_letters P x xs p y (typed-letters h y) e

-- titles are in use
abbrev pub TitlesIn : List Given → List Letters → Type 0
TitlesIn gs xs = (l : Letters) → is_taken xs l ≡ false → titled gs l ≡ false

pub titles-given : (gs : List Given) → TitlesIn gs (given_names gs)
titles-given gs l e =
    false_from_ne_true (titled gs l)
    (λ k. absurd (false≢true (sym (sym (taken_is (given_names gs) l) ∙ e) ∙ title-taken gs l (titled-finds gs l k).given (titled-finds gs l k).finds)))

right-false : (a b : Bool) → cond a true b ≡ false → b ≡ false
right-false true b e = absurd (false≢true (sym e))
right-false false b e = e

pub titles-more : (gs : List Given) (ys xs : List Letters) → TitlesIn gs xs → TitlesIn gs (ys ++ xs)
unfolding is_taken
titles-more gs ys xs h l e = h l (right-false (is_taken ys l) (is_taken xs l) (sym (any_append (same l) ys xs) ∙ e))

pub titles-spelt : {P : Letters → Type 0} {gs : List Given} → GivensIn P gs → (k : ℕ) → k < length gs → P (get_or (map (λ (g : Given). g.title) gs) k [])
titles-spelt no_givens k h = absurd (omega arith)
titles-spelt (one_given p q r) zero h = p
titles-spelt (one_given p q r) (suc k) h = titles-spelt r k (omega arith)

-- the entry of a name in use and out of reach, and of one not in use
pub used-sits : (gs : List Given) (u : Name → Bool) (r : Name → Option Ty) (y : Name) → u y ≡ true → r y ≡ none → given_of gs y ≡ none → Sits gs u r y 2
unfolding is_free is_given in_reach is_number
used-sits gs u r y e f k =
    record {
      use_is = sym (ap not e);
      given_is = subst (λ (o : Option Given). GivenIs gs o 2) (sym k) refl;
      type_is = subst (λ (o : Option Ty). TypeIs gs o 2) (sym f) refl;
    }

pub free-sits : (gs : List Given) (u : Name → Bool) (r : Name → Option Ty) (y : Name) → u y ≡ false → r y ≡ none → given_of gs y ≡ none → Sits gs u r y 0
unfolding is_free is_given in_reach is_number
free-sits gs u r y e f k =
    record {
      use_is = sym (ap not e);
      given_is = subst (λ (o : Option Given). GivenIs gs o 0) (sym k) refl;
      type_is = subst (λ (o : Option Ty). TypeIs gs o 0) (sym f) refl;
    }

module _ (ρ : Numbering) (P : Letters → Type 0) (ν : Numbered ρ P) {gs : List Given} (p : GivensIn P gs) (z : Sizes) (d : Sized gs z) where
  -- the scope that a table shows
  pub shows : {T : Names} {u : Name → Bool} {r : Name → Option Ty} → Sees ρ P gs T u r → (xs : List Letters) (vs : List Variable) → TitlesIn gs xs
      → ((l : Letters) → u (plain l) ≡ in_use xs (plain l)) → ((y : Name) → r y ≡ or_type (found vs y) (element_type gs y)) → Shows ρ P (scope gs xs vs) T z
  shows {T} s xs vs t h k =
      record {
        long = s.long;
        few = d.few;
        sizes = d.sizes;
        spelt = titles-spelt p;
        titles = t;
        uses = λ l pl. s.uses (plain l) pl ∙ ap not (h l ∙ sym (taken_is xs l));
        givens = s.givens;
        typed = λ y py. subst (λ (o : Option Ty). TypeIs gs o (entry T (name_number ρ y))) (k y ∙ sym (type-found gs xs vs y)) (s.typed y py);
      }

  -- variables declared without faults, where the names xs are in use
  pub record Group (xs : List Letters) (ds : List Declaration) : Type 0 where
    pub carried : Carried P gs (variables_of no_ending ds) (variables gs no_ending ds)
    pub fresh : Fresh (in_use xs) (variables gs no_ending ds)
    pub away : (y : Name) → has_typed (variables_of no_ending ds) y ≡ true → (given_of gs y ≡ none) × (element_type gs y ≡ none)

  pub group : {T : Names} {xs : List Letters} → Base ρ P gs T xs → (ds : List Declaration) → TypedIn P (variables_of no_ending ds) → (i : ℕ) → declaration_faults gs xs i ds ≡ [] → Group xs ds
  group {T} {xs} s ds q i e =
      let c = clear gs q (in_use xs) (λ y py h. (unused ρ P ν gs d.few s y py h).0) i (sym (declarations-typed gs xs i ds (in_use xs) (λ l. sym (taken_is xs l))) ∙ e) in
      let v = carried-variables gs no_ending ds c.carried in
      record {
        carried = subst (Carried P gs (variables_of no_ending ds)) v c.carried;
        fresh = subst (Fresh (in_use xs)) v c.fresh;
        away = λ y h. unused ρ P ν gs d.few s y (typed-letters q y h) (fresh-unused c.fresh y (sym (carried-names c.carried y) ∙ h));
      }

  module _ {xs : List Letters} {ds : List Declaration} (g : Group xs ds) where
    pub group-names : (y : Name) → has_typed (variables_of no_ending ds) y ≡ has_name (variables gs no_ending ds) y
    group-names y = carried-names g.carried y

    pub group-none : (y : Name) → has_typed (variables_of no_ending ds) y ≡ false → found (variables gs no_ending ds) y ≡ none
    group-none y e = found_none (variables gs no_ending ds) y (sym (group-names y) ∙ e)

    -- the variables come into reach
    pub group-shown : {T : Names} {u : Name → Bool} {r : Name → Option Ty} → Sees ρ P gs T u r → (u' : Name → Bool)
        → ((y : Name) → cond (has_typed (variables_of no_ending ds) y) true (u y) ≡ u' y)
        → Sees ρ P gs (shown (variables_of no_ending ds) 0 T ρ) u' (λ (y : Name). or_type (found (variables gs no_ending ds) y) (r y))
    group-shown {T} {u} {r} s u' h =
        sees-same ρ P ν gs (shown-sees ρ P ν gs z d g.carried s)
        (λ y. (used-after (variables gs no_ending ds) u y ∙ ap (λ (b : Bool). cond b true (u y)) (sym (group-names y)) ∙ h y, after-found g.fresh r y))

    -- they go out of reach, and stay in use
    pub group-hidden : {T : Names} {u' : Name → Bool} {r' : Name → Option Ty} → Sees ρ P gs T u' r' → (u : Name → Bool) (r : Name → Option Ty)
        → ((y : Name) → has_typed (variables_of no_ending ds) y ≡ false → (u' y ≡ u y) × (r' y ≡ r y))
        → ((y : Name) → has_typed (variables_of no_ending ds) y ≡ true → (u y ≡ true) × (r y ≡ none)) → Sees ρ P gs (hidden (variables_of no_ending ds) 0 2 T ρ) u r
    group-hidden s u r h k =
        hidden-sees ρ P ν gs z d g.carried 2 s h (λ y e. used-sits gs u r y (k y e).0 (k y e).1 (g.away y e).0)

  -- ---- a state ----

  module _ {T : Names} (xs : List Letters) (s : Base ρ P gs T xs) (st : State) where
    names-join : (y : Name) → cond (has_typed (variables_of no_ending (declarations st)) y) true (in_use xs y) ≡ in_use (state_names st ++ xs) y
    names-join y =
        ap (λ (b : Bool). cond b true (in_use xs y)) (typed-use (declarations st) y) ∙ sym (any_append (λ (x : Letters). same_name (plain x) y) (state_names st) xs)

    names_in : (y : Name) → has_typed (variables_of no_ending (declarations st)) y ≡ true → in_use (state_names st ++ xs) y ≡ true
    names_in y e = use-left (state_names st) xs y (sym (typed-use (declarations st) y) ∙ e)

    state-shown : Group xs (declarations st)
        → Sees ρ P gs (shown (variables_of no_ending (declarations st)) 0 T ρ) (in_use (state_names st ++ xs))
        (λ (y : Name). or_type (found (variables gs no_ending (declarations st)) y) (element_type gs y))
    state-shown g = group-shown g s (in_use (state_names st ++ xs)) names-join

    pub state-shows : TitlesIn gs xs → Group xs (declarations st)
        → Shows ρ P (scope gs (state_names st ++ xs) (variables gs no_ending (declarations st))) (shown (variables_of no_ending (declarations st)) 0 T ρ) z
    state-shows t g =
        shows (state-shown g) (state_names st ++ xs) (variables gs no_ending (declarations st)) (titles-more gs (state_names st) xs t) (λ l. refl) (λ y. refl)

    pub state-named : Group xs (declarations st) → Base ρ P gs (state_named st T ρ) (state_names st ++ xs)
    unfolding state_named
    state-named g =
        group-hidden g (state-shown g) (in_use (state_names st ++ xs)) (element_type gs)
        (λ y e. (refl, ap (λ (o : Option Variable). or_type o (element_type gs y)) (group-none g y e))) (λ y e. (names_in y e, (g.away y e).1))

    pub state-least : TitlesIn gs xs → TypedIn P (variables_of no_ending (declarations st)) → PredIn P st.predicate → (i : ℕ)
        → state_key st T ρ z i
        ≡ least_key (declaration_faults gs xs (suc i) (declarations st)
        ++ (judge_pred st.predicate (scope gs (state_names st ++ xs) (variables gs no_ending (declarations st))) (predicate_at i st)).faults)
    unfolding state_key
    state-least t q r i =
        let e = declarations-typed gs xs (suc i) (declarations st) (in_use xs) (λ l. sym (taken_is xs l)) in
        behind _ _ (subst (Within (suc i) (suc i + typed_width (variables_of no_ending (declarations st)))) (sym e) (typed-within gs (in_use xs) (suc i) (variables_of no_ending (declarations st))))
        (pred-within st.predicate (scope gs (state_names st ++ xs) (variables gs no_ending (declarations st))) (predicate_at i st))
        (omega (arith, declarations-length 0 (declarations st) []))
        (declared-least ρ P ν gs z d q s (suc i) ∙ ap least_key (sym e))
        (λ n. (judged-pred ρ P ν st.predicate (scope gs (state_names st ++ xs) (variables gs no_ending (declarations st))) _ z
        (state-shows t (group s (declarations st) q (suc i) n)) r (predicate_at i st)).0)
