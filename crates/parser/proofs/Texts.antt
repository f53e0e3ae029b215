-- What is known of the symbols of every text in which the scan finds no fault, and of the arrays that it leaves.
use Prim.Native.Nat.{ℕ, zero, suc, ◌+◌, ◌≤◌, ◌<◌}
use Rattle.std.specs.Simd.Lanes.{Each1}
use Rattle.form.proofs.ScannedSymbols.{scan-spelled, text_symbols as symbols_of}
use Rattle.form_nodes.specs.FormPromises.{codes}
use Rattle.lexical.proofs.WordLaws.{same_refl}
use Rattle.lexical.specs.Kinds as kind
use Rattle.lexical.specs.Kinds.{code_of}
use Rattle.lexical.specs.Lists.{all, any}
use Rattle.lexical.specs.Promises.{Scanned, code_in, taken, filled, first_of, fault_of, fault_in, written, has_letters, first_named, value_at, Scans}
use Rattle.refusals.specs.Refusals.{Fault, fault, least, long_text, many_symbols}
use Rattle.lexical.specs.Symbols.{Name, Symbol, fixed, numeral, name, kind_of}
use Rattle.lexical.specs.Symbols.{Placed, Scan, done, stopped, next, scan, symbols, length_faults, scan_faults}
use Rattle.std.specs.Prelude.{Ok, Err}
use Rattle.parser.proofs.TextDossier.{value_by, values, Small, Text}
use Rattle.parser.specs.Promises.{text_symbols, numbering}
use Rattle.parser.specs.Sections.{Tells}
use Rattle.lexical.proofs.FoundSymbols.{scan-has}
use Rattle.symbols.proofs.ValueLaws.{Named, same-value}
use Rattle.refusals.proofs.FaultLists.{not_nil, none-least}
use borrow.Author.Tests.{ltb-false, le-ltb, eqb-false}
use lib.Dec.{eqb, ltb}
use lib.ListN.{length, take, drop, get_or, length-map}
use lib.Seq.{take_all, take_at}
use mathlib.Core.Bool.{Bool, true, false, cond, true≢false}
use mathlib.Core.List.{List, [], ◌∷◌, map}
use mathlib.Core.Option.{Option, none, some}
use mathlib.Core.Path.{◌≡◌, refl, ap, ap₂, ◌∙◌, sym}
use native.Mathlib.Omega.{arith}

-- numbers are at most 1,000
abbrev Below : Symbol → Type 0
Below (fixed k) = Unit {0}
Below (numeral n) = n ≤ 1000
Below (name x) = Unit {0}

abbrev AllBelow : List Symbol → Type 0
AllBelow w = Each1 Below w

all-below : (text : List ℕ) → AllBelow (text_symbols text)
unfolding all
all-below text = scan-has Below (λ k. true) (λ k h. tt) (λ n h. h) (λ x. tt) refl refl AllBelow tt (λ s w h r. (h, r)) text

-- no fault: neither is the text too long, nor are there too many symbols
none_both : (f g : Option Fault) → first_of f g ≡ none → (f ≡ none) × (g ≡ none)
none_both none g e = (refl, e)
none_both (some f) g e = let z : ◌≡◌ {A = ℕ} 0 1 = cc in absurd (omega arith)

not-long : (text : List ℕ) → length_faults text ≡ [] → length text ≤ 32768
unfolding length_faults
not-long text e = on (ltb 32768 (length text)) refl e
  where
    on : (b : Bool) → ltb 32768 (length text) ≡ b → cond b (fault 32768 long_text ∷ []) [] ≡ [] → length text ≤ 32768
    on true t q = not_nil _ _ q
    on false t q = ltb-false 32768 (length text) t

not-many : (s : Scan) (n : ℕ) → n ≤ 4096 → scan_faults n s ≡ [] → n + length (symbols s) ≤ 4096
unfolding scan_faults symbols
not-many done n l e = omega arith
not-many (stopped p) n l e = not_nil _ _ e
not-many (next x s) n l e = on (eqb n 4096) refl e (not-many s (suc n))
  where
    on : (b : Bool) → eqb n 4096 ≡ b → ◌≡◌ {A = List Fault} (elim b [ true ↦ fault x.place many_symbols ∷ scan_faults (suc n) s | false ↦ scan_faults (suc n) s ]) []
        → (suc n ≤ 4096 → scan_faults (suc n) s ≡ [] → suc n + length (symbols s) ≤ 4096) → n + suc (length (symbols s)) ≤ 4096
    on true t q r = not_nil _ _ q
    on false t q r = let d : n ≡ 4096 → ⊥ = eqb-false n 4096 t in let m = r (omega arith) q in omega arith

-- the first symbol that is a name with these letters
first_below : (a : List ℕ) (l : List Placed) → Named a l → first_named a l < length l
unfolding any first_named
first_below a [] h = absurd (true≢false (sym h))
first_below a (x ∷ l) h = on (has_letters a x.symbol) h (first_below a l)
  where
    on : (b : Bool) → elim b [ true ↦ true | false ↦ any (λ (y : Placed). has_letters a y.symbol) l ] ≡ true → (Named a l → first_named a l < length l)
        → elim b [ true ↦ 0 | false ↦ suc (first_named a l) ] < suc (length l)
    on true e r = omega arith
    on false e r = let m = r e in omega arith

-- a name's letters are found where it stands
named_here : (l : List Placed) (i : ℕ) (x : Name) → get_or (symbols_of l) i (fixed kind.END) ≡ name x → Named x.letters l
unfolding any
named_here [] i x e = let z : ◌≡◌ {A = ℕ} 0 1 = cc in absurd (omega arith)
named_here (y ∷ l) zero x e = on (has_letters x.letters y.symbol) (ap (has_letters x.letters) e ∙ same_refl x.letters)
  where
    on : (b : Bool) → b ≡ true → elim b [ true ↦ true | false ↦ any (λ (z : Placed). has_letters x.letters z.symbol) l ] ≡ true
    on true q = refl
    on false q = absurd (true≢false (sym q))
named_here (y ∷ l) (suc i) x e = on (has_letters x.letters y.symbol) (named_here l i x e)
  where
    on : (b : Bool) → Named x.letters l → elim b [ true ↦ true | false ↦ any (λ (z : Placed). has_letters x.letters z.symbol) l ] ≡ true
    on true q = refl
    on false q = q

below_at : (w : List Symbol) (i : ℕ) → AllBelow w → Below (get_or w i (fixed kind.END))
below_at [] i h = tt
below_at (s ∷ w) zero h = h.0
below_at (s ∷ w) (suc i) h = below_at w i h.1

module _ (text : List ℕ) (faultless : fault_in text ≡ none) where
  neither : (least (length_faults text) ≡ none) × (least (scan_faults 0 (scan text)) ≡ none)
  neither = none_both (least (length_faults text)) (least (scan_faults 0 (scan text))) faultless

  short-text : length text ≤ 32768
  short-text = not-long text (none-least (length_faults text) neither.0)

  few-symbols : length (symbols (scan text)) ≤ 4096
  few-symbols = let m = not-many (scan text) 0 (omega arith) (none-least (scan_faults 0 (scan text)) neither.1) in omega arith

  -- symbols are spelled, and the values of numbers and names are small
  text-known : Text (text_symbols text) (numbering text)
  text-known = record { spelled = scan-spelled text; small = λ i. on i (get_or (text_symbols text) i (fixed kind.END)) refl (below_at (text_symbols text) i (all-below text)) }
    where
      on : (i : ℕ) (s : Symbol) → get_or (text_symbols text) i (fixed kind.END) ≡ s → Below s → Small (numbering text) s
      on i (fixed k) e b = tt
      on i (numeral n) e b = b
      on i (name x) e b =
          let f = first_below x.letters (symbols (scan text)) (named_here (symbols (scan text)) i x e) in let m = few-symbols in omega arith

  all-written : written text ≡ symbols (scan text)
  all-written =
      ap (λ (b : Bool). cond b [] (taken text)) (le-ltb 32768 (length text) short-text) ∙ take_all 4096 (symbols (scan text)) few-symbols

  -- the first numbers of an array after the scan
  first-filled : (f : Placed → ℕ) (old now : List ℕ) → now ≡ filled f (written text) old → take (length (text_symbols text)) now ≡ map f (symbols (scan text))
  first-filled f old now q =
      ap (take (length (text_symbols text))) (q ∙ ap (λ (k : List Placed). filled f k old) all-written)
      ∙ take_at (map f (symbols (scan text))) (drop (length (symbols (scan text))) old) (length (text_symbols text))
      (length-map (symbols (scan text)) f ∙ sym (length-map (symbols (scan text)) (λ (x : Placed). x.symbol)))

-- names with the same number have the same letters
text-tells : (text : List ℕ) → Tells (numbering text) (text_symbols text)
text-tells text x y i j p q e =
    same-value x.letters y.letters (symbols (scan text)) (named_here (symbols (scan text)) i x p) (named_here (symbols (scan text)) j y q) e

map-symbols : (g : Symbol → ℕ) (f : Placed → ℕ) → ((x : Placed) → f x ≡ g x.symbol) → (l : List Placed) → map f l ≡ map g (map (λ (x : Placed). x.symbol) l)
map-symbols g f h [] = refl
map-symbols g f h (x ∷ l) = ap₂ (λ (n : ℕ) (r : List ℕ). n ∷ r) (h x) (map-symbols g f h l)

-- the values are by the numbering, where no fault was found
value-by : (l : List Placed) (r : Scanned) → fault_of r ≡ none → (s : Symbol) → value_at r l s ≡ value_by (λ a. first_named a l) s
value-by l (Ok n) e (fixed k) = refl
value-by l (Ok n) e (numeral m) = refl
value-by l (Ok n) e (name x) = refl
value-by l (Err f) e s = let z : ◌≡◌ {A = ℕ} 0 1 = cc in absurd (omega arith)

-- the codes and the values of the symbols stand in front of the arrays
module _ {text codes₀ starts₀ values₀ coded starts valued : List ℕ} {r : Scanned} (h : Scans text codes₀ starts₀ values₀ coded starts valued r)
    (faultless : fault_in text ≡ none) where
  codes-first : take (length (text_symbols text)) coded ≡ codes (text_symbols text)
  unfolding codes
  codes-first =
      first-filled text faultless (λ (x : Placed). code_in x.symbol) codes₀ coded h.coded
      ∙ map-symbols (λ (s : Symbol). code_of (kind_of s)) (λ (x : Placed). code_in x.symbol) (λ x. refl) (symbols (scan text))

  starts_first : take (length (text_symbols text)) starts ≡ map (λ (x : Placed). x.place) (symbols (scan text))
  starts_first = first-filled text faultless (λ (x : Placed). x.place) starts₀ starts h.placed

  values-first : take (length (text_symbols text)) valued ≡ values (numbering text) (text_symbols text)
  values-first =
      first-filled text faultless (λ (x : Placed). value_at r (symbols (scan text)) x.symbol) values₀ valued h.valued
      ∙ map-symbols (value_by (numbering text)) (λ (x : Placed). value_at r (symbols (scan text)) x.symbol)
      (λ x. value-by (symbols (scan text)) r (h.answer ∙ faultless) x.symbol) (symbols (scan text))

-- what a scan that answers n symbols leaves
pub record Known (text coded starts valued : List ℕ) (n : ℕ) : Type 0 where
  pub few : n ≤ 4096
  pub count : length (text_symbols text) ≡ n
  pub codes_are : take n coded ≡ codes (text_symbols text)
  pub starts_are : take n starts ≡ map (λ (x : Placed). x.place) (symbols (scan text))
  pub values_are : take n valued ≡ values (numbering text) (text_symbols text)
  pub symbols_are : Text (text_symbols text) (numbering text)
  pub tells : Tells (numbering text) (text_symbols text)

pub known : {text codes₀ starts₀ values₀ coded starts valued : List ℕ} {n : ℕ} → Scans text codes₀ starts₀ values₀ coded starts valued (Ok n)
    → Known text coded starts valued n
known {text} {coded = coded} {starts = starts} {valued = valued} {n = n} h =
    let e : fault_in text ≡ none = sym h.answer in
    let c : length (text_symbols text) ≡ n = length-map (symbols (scan text)) (λ (x : Placed). x.symbol) ∙ sym (h.counted n refl) in
    record {
      few = h.few n refl;
      count = c;
      codes_are = ap (λ (k : ℕ). take k coded) (sym c) ∙ codes-first h e;
      starts_are = ap (λ (k : ℕ). take k starts) (sym c) ∙ starts_first h e;
      values_are = ap (λ (k : ℕ). take k valued) (sym c) ∙ values-first h e;
      symbols_are = text-known text e;
      tells = text-tells text;
    }
