-- The binding that a point gives the variables of a group is that of the point's number in the fixed order; the same for states after, under plain slots
-- and under primed names. Assumes nothing.
use mathlib.Core.Path.{◌≡◌, refl, sym, ap, ap₂, subst, ◌∙◌}
use mathlib.Core.Bool.{Bool, cond}
use mathlib.Core.List.{List, [], ◌∷◌, ◌++◌}
use mathlib.Core.Option.{Option, none, some}
use mathlib.Core.Logic.{inl, inr}
use Prim.Native.Nat.{ℕ, suc, ◌+◌, ◌*◌, ◌<◌, ◌≤◌}
use native.Mathlib.Nat.{zero-lt-suc}
use native.Mathlib.Decide.{dec_lt}
use native.Mathlib.Omega.{arith}
use lib.Arith.{digits_lt, digits_div, digits_mod}
use lib.ListN.{length, get_or}
use borrow.Author.Tests.{lt-ltb, le-ltb}
use Rattle.lexical.specs.Lists.{upward}
use Rattle.lexical.specs.Symbols.{no_ending, prime}
use Rattle.static_rules.specs.FormTree.{Given, Declaration, declarations, State, Dossier}
use Rattle.static_rules.specs.Carriers.{Carrier, Variable, count_of, carrier_of}
use Rattle.static_rules.specs.Limits.{binding_count}
use Rattle.static_rules.specs.Scope.{variables, unprimed, primed}
use Rattle.meaning.specs.Meaning.{Binding}
use Rattle.meaning.specs.Bindings.{bindings, Among}
use Rattle.meaning.specs.Operations.{after}
use Rattle.slot_carriers.specs.CarriersValuesByNumber.{value_at, binding_at}
use Rattle.slot_carriers.proofs.CarriersValues.{count-some}
use Rattle.slot_carriers.proofs.CarriersBindings.{bindings-some, bindings-at, digit-small, again_rest}
use Rattle.slot_carriers.specs.Cells.{CellOf, count_in}
use Rattle.slot_carriers.specs.CellGroups as groups
use Rattle.slot_carriers.specs.CellGroups.{CellsOf}
use Rattle.truths.specs.TablePlacesResolvedTable.{Slots, slotted}
use Rattle.points.specs.Points.{Point, primed_slot, span, number_of, Tame}
use Rattle.points.specs.PointTests.{binding_by, side_slot, side_of}
use Rattle.points.proofs.PointNumbers.{Counts}
use Rattle.static_rules.proofs.FoundCarriers.{variables-one, variables-skip}

-- a group's slots have as many bindings as its variables
pub span-count : (cells : List ℕ) (base : ℕ) (vs : List Variable) → CellsOf cells base vs → span cells (upward base (length vs)) ≡ binding_count vs
unfolding CellsOf span upward binding_count
span-count cells base [] h = refl
span-count cells base (v ∷ vs) h = ap₂ ◌*◌ h.0.count (span-count cells (suc base) vs h.1)

-- so many as the slots have, or as some variables with these cells
pub span-counts : (cells : List ℕ) (s n w : ℕ) → w ≡ span cells (upward s n) → groups.Counts cells s n w
span-counts cells s n w e vs c l = e ∙ sym (ap (λ (x : ℕ). span cells (upward s x)) l) ∙ span-count cells s vs c

pub variable-counts : (cells : List ℕ) (s n w : ℕ) (us : List Variable) → CellsOf cells s us → length us ≡ n → w ≡ binding_count us → groups.Counts cells s n w
variable-counts cells s n w us c l e = span-counts cells s n w (e ∙ sym (span-count cells s us c) ∙ ap (λ (x : ℕ). span cells (upward s x)) l)

-- and their variables have values
pub group-counts : (cells : List ℕ) (base : ℕ) (vs : List Variable) → CellsOf cells base vs → Counts cells (upward base (length vs))
unfolding upward CellsOf Among
group-counts cells base [] h s m = absurd m
group-counts cells base (v ∷ vs) h s (inl e) = subst (λ (x : ℕ). 0 < count_in cells x) (sym e) (subst (λ (x : ℕ). 0 < x) (sym h.0.count) (count-some v.carrier))
group-counts cells base (v ∷ vs) h s (inr m) = group-counts cells (suc base) vs h.1 s m

-- a point has a value of the carrier in each slot that stands for one
pub value_low : (cells : List ℕ) (s : ℕ) (c : Carrier) (δ : Point) → CellOf cells s c → Tame cells δ → δ s < count_of c
value_low cells s c δ h t = subst (λ (n : ℕ). δ s < n) h.count (t.low s (subst (λ (n : ℕ). 0 < n) (sym h.count) (count-some c)))

-- the number of a binding is below their count
pub number-low : (cells : List ℕ) (base : ℕ) (vs : List Variable) (δ : Point) → CellsOf cells base vs → Tame cells δ
    → number_of cells (upward base (length vs)) δ < binding_count vs
unfolding CellsOf number_of upward binding_count
number-low cells base [] δ h t = zero-lt-suc 0
number-low cells base (v ∷ vs) δ h t =
    subst (λ (n : ℕ). δ base * n + number_of cells (upward (suc base) (length vs)) δ < count_of v.carrier * binding_count vs) (sym (span-count cells (suc base) vs h.1))
    (digits_lt (value_low cells base v.carrier δ h.0 t) (number-low cells (suc base) vs δ h.1 t))

-- the binding whose number has the digits i, of the first variable, and j, of the others
at-digits : (v : Variable) (vs : List Variable) (i j : ℕ) → i < count_of v.carrier → j < binding_count vs
    → binding_at (v ∷ vs) (i * binding_count vs + j) ≡ (v.called, value_at v.carrier i) ∷ binding_at vs j
unfolding binding_at
at-digits v vs i j h l =
    ap₂ (λ (x : ℕ) (b : Binding). (v.called, value_at v.carrier x) ∷ b)
    (digit-small (binding_count vs) (count_of v.carrier) (i * binding_count vs + j) (bindings-some vs) (digits_lt h l) ∙ digits_div i l)
    (sym (again_rest vs (i * binding_count vs + j)) ∙ ap (binding_at vs) (digits_mod i l))

-- the slots of a group have the digits of the number that the point has there
by_digits : (cells : List ℕ) (base : ℕ) (vs : List Variable) (δ : Point) → CellsOf cells base vs → Tame cells δ
    → binding_by vs (slotted base vs) δ ≡ binding_at vs (number_of cells (upward base (length vs)) δ)
unfolding CellsOf binding_by slotted number_of upward binding_at
by_digits cells base [] δ h t = refl
by_digits cells base (v ∷ vs) δ h t =
    ap (λ (b : Binding). (v.called, value_at v.carrier (δ base)) ∷ b) (by_digits cells (suc base) vs δ h.1 t)
    ∙ sym (at-digits v vs (δ base) (number_of cells (upward (suc base) (length vs)) δ) (value_low cells base v.carrier δ h.0 t) (number-low cells (suc base) vs δ h.1 t))
    ∙ ap (λ (n : ℕ). binding_at (v ∷ vs) (δ base * n + number_of cells (upward (suc base) (length vs)) δ)) (sym (span-count cells (suc base) vs h.1))

-- the law: a group under its own slots has the binding of its number
pub binding-number : (cells : List ℕ) (base : ℕ) (vs : List Variable) (δ : Point) → CellsOf cells base vs → Tame cells δ
    → binding_by vs (slotted base vs) δ ≡ get_or (bindings vs) (number_of cells (upward base (length vs)) δ) []
binding-number cells base vs δ h t =
    by_digits cells base vs δ h t ∙ sym (bindings-at vs (number_of cells (upward base (length vs)) δ) [] (number-low cells base vs δ h t))

-- two groups of variables, one behind the other
pub binding-append : (vs us : List Variable) (W Y : Slots) (δ : Point) → length vs ≡ length W → binding_by (vs ++ us) (W ++ Y) δ ≡ binding_by vs W δ ++ binding_by us Y δ
unfolding binding_by
binding-append [] us [] Y δ e = refl
binding-append [] us (w ∷ W) Y δ e = let z : ⊥ = omega arith in absurd z
binding-append (v ∷ vs) us [] Y δ e = let z : ⊥ = omega arith in absurd z
binding-append (v ∷ vs) us (w ∷ W) Y δ e =
    ap (λ (b : Binding). (v.called, value_at v.carrier (δ w.1)) ∷ b) (binding-append vs us W Y δ (omega arith))

-- ---- states after, under the plain slots

-- the primed slots of abstract variables, and of concrete ones
pub primed-abstract : (t : ℕ) → t < 8 → primed_slot t ≡ t + 30
unfolding primed_slot
primed-abstract t h = ap (λ (b : Bool). cond b (t + 30) (t + 14)) (lt-ltb t 8 h)

pub primed-concrete : (t : ℕ) → 8 ≤ t → primed_slot t ≡ t + 14
unfolding primed_slot
primed-concrete t h = ap (λ (b : Bool). cond b (t + 30) (t + 14)) (le-ltb t 8 h)

-- all behind the plain ones
pub primed-high : (t : ℕ) → 22 ≤ primed_slot t
primed-high t =
    elim (dec_lt t 8) [
      | yes h ↦ (let e : primed_slot t ≡ t + 30 = primed-abstract t h in omega arith)
      | no h ↦ (let g : 8 ≤ t = omega arith in let e : primed_slot t ≡ t + 14 = primed-concrete t g in omega arith)
    ]

-- two points have the same values, one from the slot a on, one from b on
binding-shift : (vs : List Variable) (a b : ℕ) (δ ε : Point) → ((i : ℕ) → i < length vs → δ (a + i) ≡ ε (b + i)) → binding_by vs (slotted a vs) δ ≡ binding_by vs (slotted b vs) ε
unfolding binding_by slotted
binding-shift [] a b δ ε h = refl
binding-shift (v ∷ vs) a b δ ε h =
    ap₂ (λ (x : ℕ) (r : Binding). (v.called, value_at v.carrier x) ∷ r)
    (let p : a ≡ a + 0 = omega arith in let q : b + 0 ≡ b = omega arith in ap δ p ∙ h 0 (omega arith) ∙ ap ε q)
    (binding-shift vs (suc a) (suc b) δ ε
    (λ i l. let p : suc a + i ≡ a + suc i = omega arith in let q : b + suc i ≡ suc b + i = omega arith in ap δ p ∙ h (suc i) (omega arith) ∙ ap ε q))

-- the slots that the n from a on are primed to begin at b
abbrev pub PrimedFrom : (a b n : ℕ) → Type 0
PrimedFrom a b n = (i : ℕ) → i < n → primed_slot (a + i) ≡ b + i

pub abstract-primed : (n : ℕ) → n ≤ 8 → PrimedFrom 0 30 n
abstract-primed n f i l = let z : 0 + i + 30 ≡ 30 + i = omega arith in primed-abstract (0 + i) (omega arith) ∙ z

pub concrete-primed : (n : ℕ) → PrimedFrom 8 22 n
concrete-primed n i l = let z : 8 + i + 14 ≡ 22 + i = omega arith in primed-concrete (8 + i) (omega arith) ∙ z

-- read as the state after, the plain slots give the binding of the primed slots' number
pub binding-side : (cells : List ℕ) (a b : ℕ) (vs : List Variable) (δ : Point) → PrimedFrom a b (length vs) → CellsOf cells b vs → Tame cells δ
    → binding_by vs (slotted a vs) (side_of 1 δ) ≡ get_or (bindings vs) (number_of cells (upward b (length vs)) δ) []
unfolding side_of side_slot
binding-side cells a b vs δ e h t = binding-shift vs a b (side_of 1 δ) δ (λ i l. ap δ (e i l)) ∙ binding-number cells b vs δ h t

-- ---- states after, under primed names

-- the variables of the second list are those of the first, primed
pub data Primes : List Variable → List Variable → Type 0 where
  no_primes : Primes [] []
  more_primes : {v : Variable} {vs us : List Variable} → Primes vs us
      → Primes (v ∷ vs) (record { called = record { letters = v.called.letters; ending = prime }; carrier = v.carrier } ∷ us)

pub primes-long : {vs us : List Variable} → Primes vs us → length us ≡ length vs
primes-long no_primes = refl
primes-long (more_primes r) = ap suc (primes-long r)

-- a type at fault has no variable in either list
declared-primes : (gs : List Given) (ds : List Declaration) → Primes (variables gs no_ending ds) (variables gs prime ds)
unfolding variables
declared-primes gs [] = no_primes
declared-primes gs (x ∷ ds) = go (carrier_of gs x.type) refl (declared-primes gs ds)
  where
    go : (o : Option Carrier) → carrier_of gs x.type ≡ o → Primes (variables gs no_ending ds) (variables gs prime ds)
        → Primes (variables gs no_ending (x ∷ ds)) (variables gs prime (x ∷ ds))
    go none e r =
        subst (λ (v : List Variable). Primes v (variables gs prime (x ∷ ds))) (sym (variables-skip gs no_ending x ds e))
        (subst (λ (v : List Variable). Primes (variables gs no_ending ds) v) (sym (variables-skip gs prime x ds e)) r)
    go (some c) e r =
        subst (λ (v : List Variable). Primes v (variables gs prime (x ∷ ds))) (sym (variables-one gs no_ending x ds c e))
        (subst (λ (v : List Variable). Primes (record { called = record { letters = x.declared; ending = no_ending }; carrier = c } ∷ variables gs no_ending ds) v)
        (sym (variables-one gs prime x ds c e)) (more_primes r))

pub state-primes : (d : Dossier) (s : State) → Primes (unprimed d s) (primed d s)
state-primes d s = declared-primes d.givens (declarations s)

binding-after : (vs us : List Variable) (b : ℕ) (δ : Point) → Primes vs us → binding_by us (slotted b us) δ ≡ after (binding_by vs (slotted b vs) δ)
unfolding binding_by slotted after
binding-after _ _ b δ no_primes = refl
binding-after _ _ b δ (more_primes {v} {vs} {us} r) =
    ap (λ (l : Binding). (record { letters = v.called.letters; ending = prime }, value_at v.carrier (δ b)) ∷ l) (binding-after vs us (suc b) δ r)

-- the primed variables of a state have the binding of the plain ones by its number, under primed names
pub binding-primes : (cells : List ℕ) (d : Dossier) (s : State) (b : ℕ) (δ : Point) → CellsOf cells b (unprimed d s) → Tame cells δ
    → binding_by (primed d s) (slotted b (primed d s)) δ ≡ after (get_or (bindings (unprimed d s)) (number_of cells (upward b (length (unprimed d s))) δ) [])
binding-primes cells d s b δ h t =
    binding-after (unprimed d s) (primed d s) b δ (state-primes d s) ∙ ap after (binding-number cells b (unprimed d s) δ h t)
