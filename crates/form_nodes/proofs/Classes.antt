-- A `match` on a kind's code agrees with a table over kinds.
use mathlib.Core.Path.{◌≡◌, refl, ap, ◌∙◌, sym, subst}
use mathlib.Core.Bool.{Bool, true, false, true≢false, false≢true}
use mathlib.Core.List.{List, [], ◌∷◌}
use Prim.Native.Nat.{ℕ, zero, suc, ◌+◌, ◌*◌, ◌≤◌, ◌<◌}
use native.Mathlib.Omega.{arith}
use lib.Dec.{eqb, leb}
use Rattle.std.specs.Simd.Lanes.{Each1}
use Rattle.std.specs.Prelude.{Option, Some, None}
use borrow.Author.Tests.{eqb-true, eqb-false, ne_eqb, leb-true}
use Rattle.lexical.specs.Lists.{all}
use Rattle.lexical.specs.Kinds as kind
use Rattle.lexical.specs.Kinds.{Kind, code_of, is, lookup}
use Rattle.lexical.specs.SymbolPromises.{is_name}
use Rattle.lexical.proofs.NameCodes.{name-low, name-high, no-name}
use Rattle.form_nodes.specs.FormPromises.{Classes, Starts, StartCode, StartOf, start_as, level_of, bit, Named, pred_starts, start_class, Begins, relations, relation_class, Relates}
use Rattle.form.specs.Machine.{starts, nothing}
use Rattle.form_nodes.specs.declared.kinds.Start.{Start}
use Rattle.form_nodes.specs.declared.kinds.PredStart.{PredStart}
use Rattle.form_nodes.specs.declared.kinds.PredStart.TheVariants.{Truth, Negation, Paren, Term}
use Rattle.form_nodes.specs.declared.kinds.Relation.{Relation}
use Rattle.form_nodes.specs.declared.kinds.Relation.TheVariants.{Comparison, Membership, Pairing}
use Rattle.form.proofs.Table.{Each, kinds, kind_in, kind-back, is-equal}

-- k is the code of no entry
abbrev pub Misses : {A : Type 0} → ℕ → List (Kind × A) → Type 0
Misses {A} k t = Each1 (λ (e : Kind × A). k ≡ code_of e.0 → ⊥) t

pub lookup-miss : {A : Type 0} (t : List (Kind × A)) (d : A) (κ : Kind) → Misses (code_of κ) t → lookup t d κ ≡ d
unfolding lookup is
lookup-miss [] d κ h = refl
lookup-miss {A} (e ∷ t) d κ h =
    ap (λ (b : Bool). elim b as (λ (x : Bool). A) [ true ↦ e.1 | false ↦ lookup t d κ ]) (ne_eqb (code_of κ) (code_of e.0) h.0) ∙ lookup-miss t d κ h.1

-- what holds of each entry, and of the default at any other kind, holds of what is looked up
pub by-table-or : {A : Type 0} (P : Kind → A → Type 0) (t : List (Kind × A)) (d : A) (κ : Kind) → Each P t → (Misses (code_of κ) t → P κ d) → P κ (lookup t d κ)
unfolding lookup is
by-table-or P [] d κ h p = p tt
by-table-or {A} P (e ∷ t) d κ h p = on (is κ e.0) refl (λ ne. by-table-or P t d κ h.1 (λ m. p (ne, m)))
  where
    on : (b : Bool) → is κ e.0 ≡ b → ((code_of κ ≡ code_of e.0 → ⊥) → P κ (lookup t d κ)) → P κ (elim b as (λ (x : Bool). A) [ true ↦ e.1 | false ↦ lookup t d κ ])
    on true q r = subst (λ (j : Kind). P j e.1) (sym (is-equal κ e.0 q)) h.0
    on false q r = r (eqb-false (code_of κ) (code_of e.0) q)

-- an arm of a `match` on the code k, whose value is v
abbrev pub Entries : List (Kind × ℕ) → (k v : ℕ) → Type 0
Entries [] k v = Unit {0}
Entries (e ∷ t) k v = (code_of e.0 ≡ k → e.1 ≡ v) × Entries t k v

each-entry : (t : List (Kind × ℕ)) (k v : ℕ) → Entries t k v → Each (λ κ x. code_of κ ≡ k → x ≡ v) t
each-entry [] k v h = tt
each-entry (e ∷ t) k v h = (h.0, each-entry t k v h.1)

pub classed : {t : List (Kind × ℕ)} {k v : ℕ} → (v ≤ 9) × (v ≤ 9 * k) → Entries t k v → (Misses k t → 0 ≡ v) → Classes t k v
classed {t} {k} {v} l h m =
    record {
      none = l.1;
      small = l.0;
      class = λ κ q. by-table-or (λ κ x. code_of κ ≡ k → x ≡ v) t 0 κ (each-entry t k v h) (λ n p. m (subst (λ (j : ℕ). Misses j t) p n)) q;
    }

-- a kind is told by its code
pub told : (κ : Kind) {k : ℕ} → code_of κ ≡ k → κ ≡ kind_in kinds k
told κ q = sym (kind-back κ) ∙ ap (kind_in kinds) q

abbrev pub Same : {A : Type 0} → (ℕ → A) → A → ℕ → ℕ → Type 0
Same f v lo zero = Unit {0}
Same f v lo (suc n) = (f lo ≡ v) × Same f v (suc lo) n

-- a function that is v at each of n numbers from lo on
pub span : {A : Type 0} (f : ℕ → A) (v : A) (lo n : ℕ) → Same f v lo n → (k : ℕ) → lo ≤ k → k < lo + n → f k ≡ v
span f v lo zero h k a b = absurd (omega arith)
span f v lo (suc n) h k a b = on (eqb k lo) refl (λ x y. span f v (suc lo) n h.1 k x y)
  where
    on : (t : Bool) → eqb k lo ≡ t → (suc lo ≤ k → k < suc lo + n → f k ≡ v) → f k ≡ v
    on true q r = ap f (eqb-true k lo q) ∙ h.0
    on false q r = let ne : k ≡ lo → ⊥ = eqb-false k lo q in r (omega arith) (omega arith)

-- an arm for the codes from lo on, and below the arm for all other codes
pub spanned : {t : List (Kind × ℕ)} {k v : ℕ} (lo n : ℕ) → Same (λ (j : ℕ). lookup t 0 (kind_in kinds j)) v lo n → lo ≤ k → k < lo + n → (v ≤ 9) × (v ≤ 9 * k) → Classes t k v
spanned {t} {k} {v} lo n h a b l =
    record { none = l.1; small = l.0; class = λ κ q. ap (lookup t 0) (told κ q) ∙ span (λ (j : ℕ). lookup t 0 (kind_in kinds j)) v lo n h k a b }

-- an arm for one code
pub alone : {t : List (Kind × ℕ)} {k n v : ℕ} → k ≡ n → lookup t 0 (kind_in kinds n) ≡ v → (v ≤ 9) × (v ≤ 9 * n) → Classes t k v
alone {t} q e l = record { none = let z = l.1 in omega arith; small = l.0; class = λ κ p. ap (lookup t 0) (told κ (p ∙ q)) ∙ e }

pub missed : {t : List (Kind × ℕ)} {k : ℕ} → Misses k t → Classes t k 0
missed {t} {k} m = record { none = omega arith; small = omega arith; class = λ κ q. lookup-miss t 0 κ (subst (λ (j : ℕ). Misses j t) (sym q) m) }

-- a class by a test that is known
pub no-class : {t : List (Kind × ℕ)} {k : ℕ} {r : Bool} → Classes t k (bit r) → r ≡ false → (κ : Kind) → code_of κ ≡ k → lookup t 0 κ ≡ 0
no-class h q κ e = h.class κ e ∙ ap bit q

pub some-class : {t : List (Kind × ℕ)} {k : ℕ} {r : Bool} → Classes t k (bit r) → r ≡ true → (κ : Kind) → code_of κ ≡ k → lookup t 0 κ ≡ 0 → ⊥
some-class h q κ e z = let w : ◌≡◌ {A = ℕ} 0 1 = sym z ∙ h.class κ e ∙ ap bit q in omega arith

pub named : (k : ℕ) {r : Bool} → r ≡ is_name k → Named k r
unfolding code_of
named k {r = true} e =
    let l = name-low k (sym e) in
    let h = name-high k (sym e) in
    record { classes = classed (omega arith) (omega arith) (omega arith); name = λ q. (l, h); none = λ q. absurd (true≢false q) }
named k {r = false} e =
    let f : 2 ≤ k → k ≤ 5 → ⊥ = no-name k (sym e) in
    record {
      classes = missed (λ q. f (omega arith) (omega arith), (λ q. f (omega arith) (omega arith), (λ q. f (omega arith) (omega arith), (λ q. f (omega arith) (omega arith), tt))));
      name = λ q. absurd (false≢true q);
      none = λ q. f;
    }

-- the same of what begins a term
pub started : {k : ℕ} {r : Start} (lo n : ℕ) → Same (λ (j : ℕ). lookup starts nothing (kind_in kinds j)) (start_as r) lo n → lo ≤ k → k < lo + n → StartCode k r → Starts k r
started {k} {r} lo n h a b c =
    record { code = c; start = λ κ q. ap (lookup starts nothing) (told κ q) ∙ span (λ (j : ℕ). lookup starts nothing (kind_in kinds j)) (start_as r) lo n h k a b }

pub started_by : {k n : ℕ} {r : Start} → k ≡ n → lookup starts nothing (kind_in kinds n) ≡ start_as r → StartCode k r → Starts k r
started_by q e c = record { code = c; start = λ κ p. ap (lookup starts nothing) (told κ (p ∙ q)) ∙ e }

pub unstarted : {k : ℕ} → Misses k starts → StartOf k None
unstarted m κ q = lookup-miss starts nothing κ (subst (λ (j : ℕ). Misses j starts) (sym q) m)

-- what begins a predicate, and what stands behind its first term, with the codes of those that are asked for
abbrev pub BeginCode : ℕ → PredStart → Type 0
BeginCode k Truth = Unit {0}
BeginCode k Negation = Unit {0}
BeginCode k Paren = k ≡ 15
BeginCode k Term = Unit {0}

pub begins : {k : ℕ} {r : PredStart} → Classes pred_starts k (start_class r) → BeginCode k r → Begins k r
begins {k} c h = record { classes = c; paren = λ q. subst (BeginCode k) q h }

abbrev pub RelationCode : ℕ → Option Relation → Type 0
RelationCode k None = Unit {0}
RelationCode k (Some Comparison) = Unit {0}
RelationCode k (Some Membership) = (56 ≤ k) × (k ≤ 57)
RelationCode k (Some Pairing) = k ≡ 32

pub relates : {k : ℕ} {r : Option Relation} → Classes relations k (relation_class r) → RelationCode k r → Relates k r
relates {k} c h = record { classes = c; member = λ q. subst (RelationCode k) q h; maplet = λ q. subst (RelationCode k) q h }

-- what begins a term, or that none begins, by what `start_of` answers
pub begun : {k : ℕ} {r : Option Start} {v : Start} → r ≡ Some v → StartOf k r → Starts k v
begun {k} q h = subst (λ (x : Option Start). StartOf k x) q h

pub unbegun : {k : ℕ} {r : Option Start} → r ≡ None → StartOf k r → StartOf k None
unbegun {k} q h = subst (λ (x : Option Start). StartOf k x) q h

pub level-high : (o : ℕ) → 2 ≤ o → level_of o ≡ 2
level-high zero h = absurd (omega arith)
level-high (suc zero) h = absurd (omega arith)
level-high (suc (suc o)) h = refl

-- a test that each kind of a list passes is passed by the kind with the number n
every : (f : Kind → Bool) (ks : List Kind) (n : ℕ) → f kind.number ≡ true → all f ks ≡ true → f (kind_in ks n) ≡ true
unfolding all
every f [] n p h = p
every f (κ ∷ ks) n p h = on (f κ) refl h (λ r. every f ks n p r)
  where
    at : (b : Bool) → f κ ≡ true → f (kind_in ks n) ≡ true → f (elim b as (λ (x : Bool). Kind) [ true ↦ κ | false ↦ kind_in ks n ]) ≡ true
    at true q r = q
    at false q r = r

    on : (b : Bool) → f κ ≡ b → elim b as (λ (x : Bool). Bool) [ true ↦ all f ks | false ↦ false ] ≡ true → (all f ks ≡ true → f (kind_in ks n) ≡ true)
        → f (elim (eqb (code_of κ) n) as (λ (x : Bool). Kind) [ true ↦ κ | false ↦ kind_in ks n ]) ≡ true
    on true q r g = at (eqb (code_of κ) n) q (g r)
    on false q r g = absurd (subst (λ (b : Bool). elim b as (λ (x : Bool). Type 0) [ true ↦ ⊥ | false ↦ Unit {0} ]) r tt)

pub every-kind : (f : Kind → Bool) (κ : Kind) → f kind.number ≡ true → all f kinds ≡ true → f κ ≡ true
every-kind f κ p h = subst (λ (j : Kind). f j ≡ true) (kind-back κ) (every f kinds (code_of κ) p h)

-- 0 is no kind's number
pub positive : (κ : Kind) → 1 ≤ code_of κ
unfolding code_of all
positive κ = leb-true 1 (code_of κ) (every-kind (λ (j : Kind). leb 1 (code_of j)) κ refl refl)
