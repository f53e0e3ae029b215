-- Laws of the symbols in arrays: the letters of each, and the value of each name.
use mathlib.Core.Path.{◌≡◌, refl, ap, ap₂, ◌∙◌, sym, subst}
use mathlib.Core.Bool.{Bool, true, false, cond}
use mathlib.Core.List.{List, [], ◌∷◌, map}
use Prim.Native.Nat.{ℕ, zero, suc, ◌+◌, ◌-◌, ◌≤◌, ◌<◌}
use native.Mathlib.Omega.{arith}
use native.Mathlib.Numerals.{add-one}
use lib.ListN.{length, take, drop, get_or, set, length-map, get_or-append}
use lib.Seq.{take-suc, take_all, get_or-take, get_or-drop, get_or-append-add, length-take-le}
use Rattle.std.proofs.lemmas.Bool.{false_from_ne_true}
use Rattle.lexical.specs.Lists.{same}
use Rattle.lexical.specs.Kinds.{code_of}
use Rattle.lexical.specs.Symbols.{run, Symbol, fixed, numeral, name, Name, Ending, no_ending, prime, query, shriek, kind_of_name, Placed, scan, symbols}
use Rattle.lexical.specs.Promises.{code_in, number_in, filled, has_letters, first_named, value_in}
use Rattle.lexical.specs.SymbolPromises.{packed, is_name, letters_in, filled_letters, Rows, IsFirst}
use Rattle.lexical.proofs.WordLaws.{Fits, packed-one, run_fits, run_take, same_refl, same_true}
use Rattle.lexical.proofs.NameCodes.{name-above}
use Rattle.name_numbers.proofs.ScanLaws.{filled_more}
use Rattle.name_numbers.proofs.SoundLaws.{Sound, Stands, all-stand, nowhere, stands_at, map_at}

-- an array that is filled up to i, and one place more
pub filled-step : (f : Placed → ℕ) (l : List Placed) (i : ℕ) (old : List ℕ) (v : ℕ) → i < length l → length l ≤ length old → v ≡ f (get_or l i nowhere)
    → set (filled f (take i l) old) i v ≡ filled f (take (i + 1) l) old
filled-step f l i old v h k q =
    filled_more f (take i l) (get_or l i nowhere) old v i (length-take-le i l (omega arith)) (omega arith) q
    ∙ ap (λ (t : List Placed). filled f t old) (sym (take-suc l i nowhere h) ∙ ap (λ (j : ℕ). take j l) (sym (add-one i)))

pub filled-all : (f : Placed → ℕ) (l : List Placed) (i : ℕ) (old : List ℕ) → length l ≤ i → filled f (take i l) old ≡ filled f l old
filled-all f l i old h = ap (λ (t : List Placed). filled f t old) (take_all i l h)

pub filled_at : (f : Placed → ℕ) (l : List Placed) (old : List ℕ) (i : ℕ) → i < length l → get_or (filled f l old) i 0 ≡ f (get_or l i nowhere)
filled_at f l old i h = let m : length (map f l) ≡ length l = length-map l f in get_or-append (map f l) (drop (length l) old) 0 i (omega arith) ∙ map_at f l i h

-- a place that is not filled yet
pub filled-after : (f : Placed → ℕ) (l : List Placed) (old : List ℕ) (i : ℕ) → i ≤ length l → get_or (filled f (take i l) old) i 0 ≡ get_or old i 0
filled-after f l old i h =
    let n : length (take i l) ≡ i = length-take-le i l h in
    let m : length (map f (take i l)) ≡ i = length-map (take i l) f ∙ n in
    let e : i ≡ length (map f (take i l)) + 0 = omega arith in
    let g : i + 0 ≡ i = omega arith in
    ap (λ (j : ℕ). get_or (filled f (take i l) old) j 0) e
    ∙ get_or-append-add (map f (take i l)) (drop (length (take i l)) old) 0 0
    ∙ ap (λ (j : ℕ). get_or (drop j old) 0 0) n ∙ get_or-drop i old 0 0 ∙ ap (λ (j : ℕ). get_or old j 0) g

-- the part of a text that is a name
pub name-part : (s : List ℕ) (at n : ℕ) (b : Bool) → n ≡ cond b (length (run (drop at s))) 0 → packed 16 (take ((at + n) - at) (drop at s)) ≡ cond b (packed 16 (run (drop at s))) 0
unfolding packed
name-part s at n b e = let m : (at + n) - at ≡ n = omega arith in ap (λ (i : ℕ). packed 16 (take i (drop at s))) (m ∙ e) ∙ on b
  where
    on : (x : Bool) → packed 16 (take (cond x (length (run (drop at s))) 0) (drop at s)) ≡ cond x (packed 16 (run (drop at s))) 0
    on true = ap (packed 16) (run_take (drop at s))
    on false = refl

-- the letters of a symbol, by its code and what stands at its place
letters-of : (w : List ℕ) (y : Symbol) → Sound w y → cond (is_name (code_in y)) (packed 16 (run w)) 0 ≡ letters_in y
unfolding code_of
letters-of w (fixed k) h = ap (λ (b : Bool). cond b (packed 16 (run w)) 0) (sym (name-above (code_of k) (omega arith)))
letters-of w (numeral n) h = refl
letters-of w (name x) h = on x.ending
  where
    on : (e : Ending) → cond (is_name (code_of (kind_of_name e))) (packed 16 (run w)) 0 ≡ packed 16 x.letters
    on no_ending = ap (packed 16) (sym h.0)
    on prime = ap (packed 16) (sym h.0)
    on query = ap (packed 16) (sym h.0)
    on shriek = ap (packed 16) (sym h.0)

module _ {s codes starts : List ℕ} {n : ℕ} (h : Rows s codes starts n) (i : ℕ) (lt : i < n) where
  pub inside : i < length (symbols (scan s))
  inside = let c = h.counted in omega arith

  pub here : Placed
  here = get_or (symbols (scan s)) i nowhere

  stands : Stands s here
  unfolding here
  stands = stands_at s (symbols (scan s)) i (all-stand s) inside

  code_at : get_or codes i 0 ≡ code_in here.symbol
  unfolding here
  code_at = sym (get_or-take n codes i 0 lt) ∙ ap (λ (l : List ℕ). get_or l i 0) h.coded ∙ map_at (λ (x : Placed). code_in x.symbol) (symbols (scan s)) i inside

  place_at : get_or starts i 0 ≡ here.place
  unfolding here
  place_at = sym (get_or-take n starts i 0 lt) ∙ ap (λ (l : List ℕ). get_or l i 0) h.placed ∙ map_at (λ (x : Placed). x.place) (symbols (scan s)) i inside

  pub place_inside : get_or starts i 0 ≤ length s
  place_inside = let p = place_at in let q = stands.1 in omega arith

  letters-at : cond (is_name (get_or codes i 0)) (packed 16 (run (drop (get_or starts i 0) s))) 0 ≡ letters_in here.symbol
  letters-at = ap₂ (λ (c p : ℕ). cond (is_name c) (packed 16 (run (drop p s))) 0) code_at place_at ∙ letters-of (drop here.place s) here.symbol stands.0

-- one more row of the letters
pub packed_step : {s codes starts : List ℕ} {n : ℕ} (h : Rows s codes starts n) (i : ℕ) → i < n → (old : List ℕ) {u : ℕ} → length old ≡ 4096
    → u ≡ cond (is_name (get_or codes i 0)) (packed 16 (run (drop (get_or starts i 0) s))) 0
    → set (filled (λ (x : Placed). letters_in x.symbol) (take i (symbols (scan s))) old) i u ≡ filled (λ (x : Placed). letters_in x.symbol) (take (i + 1) (symbols (scan s))) old
unfolding here
packed_step {s} h i lt old {u} l p =
    let c = h.counted in let f = h.few in
    filled-step (λ (x : Placed). letters_in x.symbol) (symbols (scan s)) i old u (omega arith) (omega arith) (p ∙ letters-at h i lt)

-- the letters of a name fit, and there are some
letters-fit : (w : List ℕ) (x : Name) → Sound w (name x) → Fits 16 x.letters
letters-fit w x h = let l : length (run w) ≤ 16 = subst (λ (r : List ℕ). length r ≤ 16) h.0 h.1 in subst (Fits 16) (sym h.0) (run_fits 16 w l)

some-letters : (v : List ℕ) → Fits 16 v → 1 ≤ length v → 0 < packed 16 v
unfolding packed
some-letters [] f l = absurd (omega arith)
some-letters (b ∷ v) f l = let p = f.0 in omega arith

module _ (a : List ℕ) (f : Fits 16 a) (l : 1 ≤ length a) where
  has-yes : (w : List ℕ) (y : Symbol) → Sound w y → letters_in y ≡ packed 16 a → has_letters a y ≡ true
  has-yes w (fixed k) h p = let m = some-letters a f l in absurd (omega arith)
  has-yes w (numeral n) h p = let m = some-letters a f l in absurd (omega arith)
  has-yes w (name x) h p = ap (same a) (sym (packed-one 16 a x.letters f (letters-fit w x h) (sym p))) ∙ same_refl a

  has-not : (y : Symbol) → (letters_in y ≡ packed 16 a → ⊥) → has_letters a y ≡ false
  has-not (fixed k) n = refl
  has-not (numeral m) n = refl
  has-not (name x) n = false_from_ne_true (same a x.letters) (λ q. n (ap (packed 16) (sym (same_true a x.letters q))))

first-named : (a : List ℕ) (l : List Placed) (m : ℕ) → m < length l → has_letters a (get_or l m nowhere).symbol ≡ true
    → ((j : ℕ) → j < m → has_letters a (get_or l j nowhere).symbol ≡ false) → first_named a l ≡ m
unfolding first_named
first-named a [] m lt h n = absurd (omega arith)
first-named a (x ∷ l) zero lt h n = ap (λ (b : Bool). elim b [ true ↦ 0 | false ↦ suc (first_named a l) ]) h
first-named a (x ∷ l) (suc m) lt h n =
    ap (λ (b : Bool). elim b [ true ↦ 0 | false ↦ suc (first_named a l) ]) (n 0 (omega arith))
    ∙ ap suc (first-named a l m (omega arith) h (λ j k. n (suc j) (omega arith)))

-- the value of a symbol, by the first symbol with its letters
module _ (s zeros : List ℕ) {letters : List ℕ} (p : letters ≡ filled_letters s zeros) (i : ℕ) (lt : i < length (symbols (scan s))) where
  abbrev all : List Placed
  all = symbols (scan s)

  abbrev sym_at : ℕ → Symbol
  sym_at j = (get_or all j nowhere).symbol

  of-at : (j : ℕ) → j < length all → get_or letters j 0 ≡ letters_in (sym_at j)
  of-at j g = ap (λ (l : List ℕ). get_or l j 0) p ∙ filled_at (λ (x : Placed). letters_in x.symbol) all zeros j g

  pub value-at : {r old : ℕ} → old ≡ number_in (sym_at i) → (get_or letters i 0 ≡ 0 → r ≡ old) → ((get_or letters i 0 ≡ 0 → ⊥) → IsFirst letters i r) → r ≡ value_in all (sym_at i)
  value-at {r} {old} o f g = on (sym_at i) refl
    where
      on : (y : Symbol) → sym_at i ≡ y → r ≡ value_in all y
      on (fixed k) e = f (of-at i lt ∙ ap letters_in e) ∙ o ∙ ap number_in e
      on (numeral n) e = f (of-at i lt ∙ ap letters_in e) ∙ o ∙ ap number_in e
      on (name x) e =
          let w : List ℕ = drop (get_or all i nowhere).place s in
          let h : Sound w (name x) = subst (Sound w) e (stands_at s all i (all-stand s) lt).0 in
          let t : Fits 16 x.letters = letters-fit w x h in
          let m : 0 < packed 16 x.letters = some-letters x.letters t h.2 in
          let a : get_or letters i 0 ≡ packed 16 x.letters = of-at i lt ∙ ap letters_in e in
          let c : IsFirst letters i r = g (λ z. let y : packed 16 x.letters ≡ 0 = sym a ∙ z in omega arith) in
          let u = c.up_to in
          let k : r < length all = omega arith in
          sym (first-named x.letters all r k
          (has-yes x.letters t h.2 (drop (get_or all r nowhere).place s) (sym_at r) (stands_at s all r (all-stand s) k).0 (sym (of-at r k) ∙ c.same ∙ a))
          (λ j v. let d : j < length all = omega arith in has-not x.letters t h.2 (sym_at j) (λ y. c.none j v (of-at j d ∙ y ∙ sym a))))
