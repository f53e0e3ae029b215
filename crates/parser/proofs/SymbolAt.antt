-- The symbol at a place of a text, by its code, and the number of a name there.
use mathlib.Core.Path.{◌≡◌, refl, ap, ◌∙◌, sym, subst}
use mathlib.Core.Bool.{true, cond, true≢false}
use mathlib.Core.List.{List, [], ◌∷◌}
use Prim.Native.Nat.{ℕ, zero, suc, ◌+◌, ◌-◌, ◌*◌, ◌≤◌, ◌<◌}
use native.Mathlib.Omega.{arith}
use native.Mathlib.Numerals.{add-one}
use lib.Dec.{ltb}
use lib.ListN.{length, drop, get_or, get_or-map}
use lib.Seq.{drop-cons}
use borrow.Author.Tests.{le-ltb, leb-true, le-leb}
use Rattle.lexical.specs.Kinds as kind
use Rattle.lexical.specs.Kinds.{Kind, code_of}
use Rattle.lexical.specs.Symbols.{Symbol, fixed, numeral, name, Name, Ending, no_ending, prime, query, shriek, kind_of, kind_of_name}
use Rattle.form.specs.Tree.{Letters, Direction, inward, outward}
use Rattle.form.specs.Written.{ending_of}
use Rattle.form.specs.Form.{kind_at}
use Rattle.form.specs.Codes.{Numbering, ending_number, number_of_name, name_number}
use Rattle.form.proofs.Table.{kind-back, is_fixed, Spelled, AllSpelled, Each, by-table}
use Rattle.form.proofs.PlainSymbols.{named}
use Rattle.form_nodes.specs.FormPromises.{codes, Classes}
use Rattle.form_nodes.specs.Derivations.{name_code, NameAt}
use Rattle.form_nodes.proofs.ReadParts.{code_at}
use Rattle.form_nodes.proofs.Classes.{told}
use Rattle.parser.proofs.TextDossier.{value_by, values, Small, Text}

-- a kind is told by its code
told-kind : (κ : Kind) (j : Kind) → code_of κ ≡ code_of j → κ ≡ j
told-kind κ j e = told κ e ∙ kind-back j

-- the symbol at a place, and that the text goes on behind it
pub record Step (w : List Symbol) (i : ℕ) (s : Symbol) : Type 0 where
  pub inside : i + 1 ≤ length w
  pub steps : drop i w ≡ s ∷ drop (i + 1) w

-- and what is known of it
pub record Place (w : List Symbol) (ρ : Numbering) (i : ℕ) (s : Symbol) : Type 0 where
  pub step : Step w i s
  pub code : get_or (codes w) i 0 ≡ code_of (kind_of s)
  pub value : get_or (values ρ w) i 0 ≡ value_by ρ s
  pub spelled : Spelled s
  pub small : Small ρ s

inside-text : (w : List Symbol) (i : ℕ) → 1 ≤ get_or (codes w) i 0 → i < length w
unfolding codes
inside-text [] i h = absurd (omega arith)
inside-text (s ∷ w) zero h = omega arith
inside-text (s ∷ w) (suc i) h = let l : i < length w = inside-text w i h in omega arith

spelled_at : (w : List Symbol) (i : ℕ) → AllSpelled w → Spelled (get_or w i (fixed kind.END))
unfolding code_of
spelled_at [] i h = refl
spelled_at (s ∷ w) zero h = h.0
spelled_at (s ∷ w) (suc i) h = spelled_at w i h.1

pub place : {w : List Symbol} {ρ : Numbering} → Text w ρ → (i : ℕ) → 1 ≤ get_or (codes w) i 0 → Place w ρ i (get_or w i (fixed kind.END))
unfolding kind_at
place {w} {ρ} t i h =
    let l : i < length w = inside-text w i h in
    record {
      step = record { inside = omega arith; steps = drop-cons w i (fixed kind.END) l ∙ ap (λ (k : ℕ). get_or w i (fixed kind.END) ∷ drop k w) (sym (add-one i)) };
      code = sym (code_at w i l);
      value = get_or-map (value_by ρ) w i (fixed kind.END);
      spelled = spelled_at w i t.spelled;
      small = t.small i;
    }

number-kind : (κ : Kind) → is_fixed κ ≡ true → kind.number ≡ κ → ⊥
unfolding code_of
number-kind κ f e = true≢false (sym f ∙ ap is_fixed (sym e))

name-kind : (κ : Kind) (e : Ending) → is_fixed κ ≡ true → kind_of_name e ≡ κ → ⊥
unfolding code_of
name-kind κ no_ending f e = true≢false (sym f ∙ ap is_fixed (sym e))
name-kind κ prime f e = true≢false (sym f ∙ ap is_fixed (sym e))
name-kind κ query f e = true≢false (sym f ∙ ap is_fixed (sym e))
name-kind κ shriek f e = true≢false (sym f ∙ ap is_fixed (sym e))

fixed-kind : (s : Symbol) (κ : Kind) → is_fixed κ ≡ true → kind_of s ≡ κ → s ≡ fixed κ
fixed-kind (fixed k) κ f e = ap fixed e
fixed-kind (numeral n) κ f e = absurd (number-kind κ f e)
fixed-kind (name x) κ f e = absurd (name-kind κ x.ending f e)

-- a kind that is no number and no name is the whole symbol
step_of : {w : List Symbol} {ρ : Numbering} {i : ℕ} {s : Symbol} → Place w ρ i s → (κ : Kind) → is_fixed κ ≡ true → kind_of s ≡ κ → Step w i (fixed κ)
step_of {w} {i} {s} p κ f e = subst (λ (x : Symbol). Step w i x) (fixed-kind s κ f e) p.step

pub fixed-at : {w : List Symbol} {ρ : Numbering} → Text w ρ → (κ : Kind) {i : ℕ} → get_or (codes w) i 0 ≡ code_of κ → 10 ≤ code_of κ → Step w i (fixed κ)
fixed-at {w} t κ {i} q l =
    let p = place t i (omega arith) in
    step_of p κ (le-leb 10 (code_of κ) l) (told-kind (kind_of (get_or w i (fixed kind.END))) κ (sym p.code ∙ q))

-- the code of a name is by its ending
pub ending-code : (e : Ending) → code_of (kind_of_name e) ≡ 2 + ending_number e
unfolding code_of
ending-code no_ending = refl
ending-code prime = refl
ending-code query = refl
ending-code shriek = refl

-- a number, by its value
pub record NumberAt (w : List Symbol) (ρ : Numbering) (i : ℕ) : Type 0 where
  pub number : ℕ
  pub step : Step w i (numeral number)
  pub value : get_or (values ρ w) i 0 ≡ number
  pub small : number ≤ 1000

pub number_at : {w : List Symbol} {ρ : Numbering} → Text w ρ → {i : ℕ} → get_or (codes w) i 0 ≡ 1 → NumberAt w ρ i
unfolding code_of
number_at {w} {ρ} t {i} q = on (get_or w i (fixed kind.END)) (place t i (omega arith))
  where
    on : (s : Symbol) → Place w ρ i s → NumberAt w ρ i
    on (fixed k) p = absurd (number-kind k p.spelled (told-kind kind.number k (sym q ∙ p.code)))
    on (numeral n) p = record { number = n; step = p.step; value = p.value; small = p.small }
    on (name x) p = absurd (let c = ending-code x.ending in let k = p.code in omega arith)

-- a name, with the code of its ending and its number
pub record NamedAt (w : List Symbol) (ρ : Numbering) (i : ℕ) : Type 0 where
  pub name : Name
  pub step : Step w i (Symbol.name name)
  pub code : get_or (codes w) i 0 ≡ code_of (kind_of_name name.ending)
  pub number : name_code (codes w) (values ρ w) i ≡ name_number ρ name

name-value : (v k x n : ℕ) → v ≡ x → x ≤ 4095 → k ≡ 2 + n → cond (ltb 4095 v) 0 (cond (ltb k 2) 0 (4 * v + (k - 2))) ≡ 4 * x + n
name-value v k x n e l q = rw (le-ltb 4095 v (omega arith), le-ltb k 2 (omega arith)) (omega arith)

pub named-at : {w : List Symbol} {ρ : Numbering} {i : ℕ} {x : Name} → Place w ρ i (name x) → NamedAt w ρ i
unfolding name_code number_of_name
named-at {w} {ρ} {i} {x} p =
    record {
      name = x;
      step = p.step;
      code = p.code;
      number =
          name-value (get_or (values ρ w) i 0) (get_or (codes w) i 0) (ρ x.letters) (ending_number x.ending) p.value p.small
          (p.code ∙ ending-code x.ending);
    }

-- a fixed symbol has no name's code
no-fixed : (k : Kind) → is_fixed k ≡ true → 10 ≤ code_of k
no-fixed k h = leb-true 10 (code_of k) h

pub name-at : {w : List Symbol} {ρ : Numbering} → Text w ρ → {i : ℕ} → NameAt (codes w) i → NamedAt w ρ i
unfolding code_of
name-at {w} {ρ} t {i} h = on (get_or w i (fixed kind.END)) (place t i (let l = h.low in omega arith))
  where
    on : (s : Symbol) → Place w ρ i s → NamedAt w ρ i
    on (fixed k) p = absurd (let l = no-fixed k p.spelled in let c = p.code in let b = h.high in omega arith)
    on (numeral n) p = absurd (let c = p.code in let b = h.low in omega arith)
    on (name x) p = named-at p

-- a name with the ending e, by its letters
pub record NamedAs (w : List Symbol) (ρ : Numbering) (e : Ending) (i : ℕ) : Type 0 where
  pub letters : Letters
  pub step : Step w i (named letters e)
  pub number : name_code (codes w) (values ρ w) i ≡ number_of_name ρ letters e

pub ending-as : {w : List Symbol} {ρ : Numbering} {i : ℕ} {e : Ending} (n : NamedAt w ρ i) → n.name.ending ≡ e → NamedAs w ρ e i
ending-as {w} {ρ} {i} n q =
    record {
      letters = n.name.letters;
      step = subst (λ (y : Ending). Step w i (named n.name.letters y)) q n.step;
      number = n.number ∙ ap (number_of_name ρ n.name.letters) q;
    }

-- the ending of a plain name; that of an input or an output
pub no-ending : (e : Ending) → code_of (kind_of_name e) ≡ 2 → e ≡ no_ending
unfolding code_of
no-ending no_ending q = refl
no-ending prime q = absurd (omega arith)
no-ending query q = absurd (omega arith)
no-ending shriek q = absurd (omega arith)

pub directed : (e : Ending) → 4 ≤ code_of (kind_of_name e) → (d : Direction) × (e ≡ ending_of d)
unfolding code_of
directed no_ending q = absurd (omega arith)
directed prime q = absurd (omega arith)
directed query q = (inward, refl)
directed shriek q = (outward, refl)

-- a name without ending
pub plain_at : {w : List Symbol} {ρ : Numbering} → Text w ρ → {i : ℕ} → get_or (codes w) i 0 ≡ 2 → NamedAs w ρ no_ending i
plain_at t {i} q =
    let n = name-at t {i = i} (record { low = omega arith; high = omega arith }) in ending-as n (no-ending n.name.ending (sym n.code ∙ q))

-- a symbol of one of several kinds
pub record SortAt {A : Type 0} (f : A → Kind) (w : List Symbol) (i : ℕ) : Type 0 where
  pub sort : A
  pub step : Step w i (fixed (f sort))
  pub code : get_or (codes w) i 0 ≡ code_of (f sort)

abbrev pub SortOf : {A : Type 0} → (A → Kind) → Kind → Type 0
SortOf {A} f κ = (a : A) × (κ ≡ f a) × (is_fixed κ ≡ true)

pub sort-at : {A : Type 0} {f : A → Kind} {w : List Symbol} {ρ : Numbering} → Text w ρ → {i : ℕ} → 1 ≤ get_or (codes w) i 0
    → ((κ : Kind) → code_of κ ≡ get_or (codes w) i 0 → SortOf f κ) → SortAt f w i
sort-at {A} {f} {w} t {i} l h =
    let p = place t i l in
    let r = h (kind_of (get_or w i (fixed kind.END))) (sym p.code) in
    record {
      sort = r.0;
      step = step_of p (f r.0) (sym (ap is_fixed r.1) ∙ r.2) r.1;
      code = p.code ∙ ap code_of r.1;
    }

-- by the class of the kind in a table
pub class-at : {A : Type 0} {f : A → Kind} {w : List Symbol} {ρ : Numbering} → Text w ρ → {i o : ℕ} {table : List (Kind × ℕ)} → Classes table (get_or (codes w) i 0) o → 1 ≤ o
    → Each (λ κ v. v ≡ o → SortOf f κ) table → SortAt f w i
class-at {A} {f} t {i} {o} {table} c l h =
    sort-at t (let n = c.none in omega arith) (λ κ q. by-table (λ κ v. v ≡ o → SortOf f κ) table 0 κ h (λ e. absurd (omega arith)) (c.class κ q))

-- by the code
pub coded-at : {A : Type 0} {f : A → Kind} {w : List Symbol} {ρ : Numbering} → Text w ρ → {i : ℕ} (a : A) → get_or (codes w) i 0 ≡ code_of (f a) → is_fixed (f a) ≡ true → SortAt f w i
coded-at {A} {f} t {i} a q h =
    sort-at t (let l = no-fixed (f a) h in omega arith) (λ κ e. (a, told-kind κ (f a) (e ∙ q), ap is_fixed (told-kind κ (f a) (e ∙ q)) ∙ h))
