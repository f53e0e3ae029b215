-- What a table of names says of each name, and what a change of one entry makes of it.
use mathlib.Core.Path.{◌≡◌, refl, ap, ◌∙◌, sym, subst}
use mathlib.Core.Bool.{Bool, true, false, not, false≢true}
use mathlib.Core.List.{List}
use mathlib.Core.Option.{Option, none, some}
use Prim.Native.Nat.{ℕ, zero, suc, ◌≤◌, ◌<◌}
use native.Mathlib.Omega.{arith}
use lib.Dec.{eqb}
use lib.ListN.{length, set, length-set}
use lib.Seq.{get_or-set_same, get_or-set_other}
use borrow.Author.Tests.{eqb-true, eq-eqb}
use Rattle.lexical.specs.Lists.{same}
use Rattle.lexical.specs.Symbols.{Name, Ending, no_ending, prime, query, shriek}
use Rattle.lexical.proofs.WordLaws.{same_refl, same_true}
use Rattle.form.specs.Tree.{Letters, Given}
use Rattle.form.specs.Codes.{Numbering, ending_number, number_of_name, name_number}
use Rattle.declared_names.specs.StaticRulesCarriers.{ending_code, same_name, given_of}
use Rattle.declared_names.specs.StaticRulesTypes.{Ty}
use Rattle.type_rules.specs.TypesByNumber.{Names, entry, is_free}
use Rattle.names.proofs.ReachTables.{GivenIs, TypeIs, Numbered}
use Rattle.names.proofs.TypesAgreeTypes.{code-positive}

-- ---- names ----

unended : ℕ → Ending
unended zero = no_ending
unended (suc zero) = prime
unended (suc (suc zero)) = query
unended (suc (suc (suc n))) = shriek

unended-is : (e : Ending) → unended (ending_code e) ≡ e
unfolding unended
unended-is no_ending = refl
unended-is prime = refl
unended-is query = refl
unended-is shriek = refl

pub same-name : (x y : Name) → same_name x y ≡ true → x ≡ y
unfolding same_name
same-name x y e = on (eqb (ending_code x.ending) (ending_code y.ending)) refl e
  where
    on : (b : Bool) → eqb (ending_code x.ending) (ending_code y.ending) ≡ b → ◌≡◌ {A = Bool} (elim b [ true ↦ same x.letters y.letters | false ↦ false ]) true → x ≡ y
    on true h k =
        let p : x.letters ≡ y.letters = same_true x.letters y.letters k in
        let q : x.ending ≡ y.ending = sym (unended-is x.ending) ∙ ap unended (eqb-true (ending_code x.ending) (ending_code y.ending) h) ∙ unended-is y.ending in
        λ i. record { letters = p i; ending = q i }
    on false h k = absurd (false≢true k)

pub name-refl : (x : Name) → same_name x x ≡ true
unfolding same_name
name-refl x =
    ap (λ (b : Bool). elim b as (λ (c : Bool). Bool) [ true ↦ same x.letters x.letters | false ↦ false ]) (eq-eqb (ending_code x.ending) (ending_code x.ending) refl)
    ∙ same_refl x.letters

ending-number : (e : Ending) → (ending_number e ≡ ending_code e) × (ending_code e < 4)
ending-number no_ending = (refl, omega arith)
ending-number prime = (refl, omega arith)
ending-number query = (refl, omega arith)
ending-number shriek = (refl, omega arith)

-- what a table says: whether a name is in use, and its type where it is in reach
pub record Sees (ρ : Numbering) (P : Letters → Type 0) (gs : List Given) (T : Names) (u : Name → Bool) (r : Name → Option Ty) : Type 0 where
  pub long : 16384 ≤ length T
  pub uses : (x : Name) → P x.letters → is_free (entry T (name_number ρ x)) ≡ not (u x)
  pub givens : (x : Name) → P x.letters → GivenIs gs (given_of gs x) (entry T (name_number ρ x))
  pub typed : (x : Name) → P x.letters → TypeIs gs (r x) (entry T (name_number ρ x))

-- the number k is right for the name x
pub record Sits (gs : List Given) (u : Name → Bool) (r : Name → Option Ty) (x : Name) (k : ℕ) : Type 0 where
  pub use_is : is_free k ≡ not (u x)
  pub given_is : GivenIs gs (given_of gs x) k
  pub type_is : TypeIs gs (r x) k

module _ (ρ : Numbering) (P : Letters → Type 0) (ν : Numbered ρ P) where
  one_number : (x y : Name) → P x.letters → P y.letters → name_number ρ x ≡ name_number ρ y → same_name x y ≡ true
  unfolding number_of_name same_name
  one_number x y px py e =
      let a = ending-number x.ending in let b = ending-number y.ending in
      let l : x.letters ≡ y.letters = ν.own x.letters y.letters px py (omega arith) in
      ap (λ (c : Bool). elim c as (λ (d : Bool). Bool) [ true ↦ same x.letters y.letters | false ↦ false ])
      (eq-eqb (ending_code x.ending) (ending_code y.ending) (omega arith)) ∙ ap (same x.letters) (sym l) ∙ same_refl x.letters

  number_small : (x : Name) → P x.letters → name_number ρ x < 16384
  unfolding number_of_name
  number_small x px = let a = ending-number x.ending in omega (arith, ν.small x.letters px)

  module _ (gs : List Given) where
    module _ (T : Names) (long : 16384 ≤ length T) (x : Name) (px : P x.letters) (k : ℕ) where
      -- a claim of each name and its entry, after a change at x
      pub changed : (Q : Name → ℕ → Type 0) → Q x k → ((y : Name) → P y.letters → same_name x y ≡ false → Q y (entry T (name_number ρ y)))
          → (y : Name) → P y.letters → Q y (entry (set T (name_number ρ x) k) (name_number ρ y))
      changed Q here there y py = on (same_name x y) refl
        where
          on : (b : Bool) → same_name x y ≡ b → Q y (entry (set T (name_number ρ x) k) (name_number ρ y))
          on true e =
              subst (λ (n : Name). Q n (entry (set T (name_number ρ x) k) (name_number ρ n))) (same-name x y e)
              (subst (Q x) (sym (get_or-set_same T (name_number ρ x) k 0 (omega (arith, number_small x px)))) here)
          on false e =
              subst (Q y) (sym (get_or-set_other T (name_number ρ x) (name_number ρ y) k 0 (λ h. absurd (false≢true (sym e ∙ one_number x y px py (sym h)))))) (there y py e)

    -- one entry is changed
    pub put : {T : Names} {u : Name → Bool} {r : Name → Option Ty} → Sees ρ P gs T u r → (x : Name) → P x.letters → (k : ℕ) (u' : Name → Bool) (r' : Name → Option Ty)
        → ((y : Name) → same_name x y ≡ false → (u' y ≡ u y) × (r' y ≡ r y)) → Sits gs u' r' x k → Sees ρ P gs (set T (name_number ρ x) k) u' r'
    put {T} {u} {r} s x px k u' r' h w =
        record {
          long = omega (arith, length-set T (name_number ρ x) k, s.long);
          uses = changed T s.long x px k (λ (y : Name) (n : ℕ). is_free n ≡ not (u' y)) w.use_is (λ y py e. s.uses y py ∙ ap not (sym (h y e).0));
          givens = changed T s.long x px k (λ (y : Name) (n : ℕ). GivenIs gs (given_of gs y) n) w.given_is (λ y py e. s.givens y py);
          typed =
              changed T s.long x px k (λ (y : Name) (n : ℕ). TypeIs gs (r' y) n) w.type_is
              (λ y py e. subst (λ (o : Option Ty). TypeIs gs o (entry T (name_number ρ y))) (sym (h y e).1) (s.typed y py));
        }

    pub sees-same : {T : Names} {u u' : Name → Bool} {r r' : Name → Option Ty} → Sees ρ P gs T u r → ((y : Name) → (u y ≡ u' y) × (r y ≡ r' y)) → Sees ρ P gs T u' r'
    sees-same {T} s h =
        record {
          long = s.long;
          uses = λ y py. s.uses y py ∙ ap not (h y).0;
          givens = s.givens;
          typed = λ y py. subst (λ (o : Option Ty). TypeIs gs o (entry T (name_number ρ y))) (h y).1 (s.typed y py);
        }

    zero-given : (o : Option Given) (k : ℕ) → k ≡ 0 → GivenIs gs o k → o ≡ none
    zero-given none k e h = refl
    zero-given (some g) k e h = absurd (omega arith)

    zero-typed : length gs ≤ 8 → (o : Option Ty) (k : ℕ) → k ≡ 0 → TypeIs gs o k → o ≡ none
    zero-typed few none k e h = refl
    zero-typed few (some t) k e h = absurd (omega (arith, code-positive gs few h.1, h.0))

    -- a name that is not in use is no given set's, and out of reach
    pub unused : length gs ≤ 8 → {T : Names} {u : Name → Bool} {r : Name → Option Ty} → Sees ρ P gs T u r → (x : Name) → P x.letters → u x ≡ false
        → (given_of gs x ≡ none) × (r x ≡ none)
    unfolding is_free
    unused few {T} {u} {r} s x px e =
        let z : entry T (name_number ρ x) ≡ 0 = eqb-true (entry T (name_number ρ x)) 0 (s.uses x px ∙ ap not e) in
        (zero-given (given_of gs x) (entry T (name_number ρ x)) z (s.givens x px), zero-typed few (r x) (entry T (name_number ρ x)) z (s.typed x px))
