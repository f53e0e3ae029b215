-- Laws of words: packed bytes, reserved words, names and their endings.
use mathlib.Core.Path.{◌≡◌, refl, ap, ap₂, ◌∙◌, sym}
use mathlib.Core.Bool.{Bool, true, false, true≢false, cond}
use mathlib.Core.List.{List, [], ◌∷◌}
use mathlib.Core.Option.{Option, none, some}
use Prim.Native.Nat.{ℕ, zero, suc, ◌+◌, ◌-◌, ◌≤◌, ◌<◌}
use Prim.Native.String.{String}
use native.Mathlib.Omega.{arith}
use native.Mathlib.Nat.{add-zero}
use lib.Dec.{eqb, ltb}
use Rattle.std.specs.Simd.Lanes.{Each1}
use Rattle.std.specs.Prelude as prelude
use Rattle.std.specs.Prelude.{Some, None}
use borrow.Author.Tests.{ltb-true, ltb-false, eqb-true, eq-eqb, ne_eqb, le-leb, lt-leb}
use lib.ListN.{length, take, drop, get_or}
use lib.Seq.{get_or-drop, drop-drop}
use mathlib.Core.Logic.{◌⊎◌, ⊎_elim}
use Rattle.lexical.specs.declared.Ending as ending
use Rattle.lexical.specs.declared.Ending.TheVariants.{Plain, Prime, Query, Shriek}
use Rattle.lexical.specs.Lists.{bytes, same, any}
use Rattle.lexical.specs.Kinds.{Kind, words, code_of}
use Rattle.lexical.specs.Symbols.{letter, other, class_of, in_run, run, reserved, word_of, ending_of, ending_length, kind_of_name, name, found, unlisted, Ending, no_ending, prime, query, shriek, by_class, between}
use Rattle.lexical.specs.SymbolPromises.{token_of, packed, keyed, word_code, ending_is}
use Rattle.lexical.specs.declared.Token.{Token}
use Rattle.lexical.specs.declared.Token.TheVariants.{Unlisted, Listed}
use Rattle.lexical.proofs.ByteLaws.{others}
use Rattle.lexical.proofs.PackedLaws.{packed-enough}

-- at most k bytes, none of them 0
abbrev pub Fits : ℕ → List ℕ → Type 0
Fits k [] = Unit {0}
Fits zero (b ∷ w) = ⊥
Fits (suc k) (b ∷ w) = (0 < b) × (b < 256) × Fits k w

unfoldable fitsb : ℕ → List ℕ → Bool
fitsb k [] = true
fitsb zero (b ∷ w) = false
fitsb (suc k) (b ∷ w) = elim (ltb 0 b) [ true ↦ elim (ltb b 256) [ true ↦ fitsb k w | false ↦ false ] | false ↦ false ]

fits : (k : ℕ) (w : List ℕ) → fitsb k w ≡ true → Fits k w
unfolding fitsb
fits k [] h = tt
fits zero (b ∷ w) h = let z : ◌≡◌ {A = ℕ} 0 1 = cc in absurd (omega arith)
fits (suc k) (b ∷ w) h = on (ltb 0 b) refl (ltb b 256) refl h (fits k w)
  where
    on : (x : Bool) → ltb 0 b ≡ x → (y : Bool) → ltb b 256 ≡ y → elim x [ true ↦ elim y [ true ↦ fitsb k w | false ↦ false ] | false ↦ false ] ≡ true
        → (fitsb k w ≡ true → Fits k w) → (0 < b) × (b < 256) × Fits k w
    on true p true q e r = (ltb-true 0 b p, ltb-true b 256 q, r e)
    on true p false q e r = let z : ◌≡◌ {A = ℕ} 0 1 = cc in absurd (omega arith)
    on false p true q e r = let z : ◌≡◌ {A = ℕ} 0 1 = cc in absurd (omega arith)
    on false p false q e r = let z : ◌≡◌ {A = ℕ} 0 1 = cc in absurd (omega arith)

fits-length : (k : ℕ) (w : List ℕ) → Fits k w → length w ≤ k
fits-length k [] h = omega arith
fits-length zero (b ∷ w) h = absurd h
fits-length (suc k) (b ∷ w) h = let r = fits-length k w h.2 in omega arith

-- bytes are packed one to one
pub packed-one : (k : ℕ) (v w : List ℕ) → Fits k v → Fits k w → packed k v ≡ packed k w → v ≡ w
unfolding packed
packed-one k [] [] f g e = refl
packed-one zero [] (b ∷ w) f g e = absurd g
packed-one zero (a ∷ v) w f g e = absurd f
packed-one (suc k) [] (b ∷ w) f g e = let p = g.0 in absurd (omega arith)
packed-one (suc k) (a ∷ v) [] f g e = let p = f.0 in absurd (omega arith)
packed-one (suc k) (a ∷ v) (b ∷ w) f g e =
    let p = f.1 in let q = g.1 in
    let h : a ≡ b = omega arith in
    let t : packed k v ≡ packed k w = omega arith in
    ap₂ (λ (x : ℕ) (l : List ℕ). x ∷ l) h (packed-one k v w f.2 g.2 t)

pub same_refl : (w : List ℕ) → same w w ≡ true
unfolding same
same_refl [] = refl
same_refl (b ∷ w) = ap (λ (x : Bool). elim x [ true ↦ same w w | false ↦ false ]) (eq-eqb b b refl) ∙ same_refl w

pub same_true : (v w : List ℕ) → same v w ≡ true → v ≡ w
unfolding same
same_true [] [] h = refl
same_true [] (b ∷ w) h = let z : ◌≡◌ {A = ℕ} 0 1 = cc in absurd (omega arith)
same_true (a ∷ v) [] h = let z : ◌≡◌ {A = ℕ} 0 1 = cc in absurd (omega arith)
same_true (a ∷ v) (b ∷ w) h = on (eqb a b) refl h (same_true v w)
  where
    on : (x : Bool) → eqb a b ≡ x → elim x [ true ↦ same v w | false ↦ false ] ≡ true → (same v w ≡ true → v ≡ w) → a ∷ v ≡ b ∷ w
    on true p e r = ap₂ (λ (x : ℕ) (l : List ℕ). x ∷ l) (eqb-true a b p) (r e)
    on false p e r = let z : ◌≡◌ {A = ℕ} 0 1 = cc in absurd (omega arith)

pub same_turned : (v w : List ℕ) → same w v ≡ false → same v w ≡ false
same_turned v w e = on (same v w) refl
  where
    on : (b : Bool) → same v w ≡ b → b ≡ false
    on true h = absurd (true≢false (sym (ap (same w) (same_true v w h) ∙ same_refl w) ∙ e))
    on false h = refl

abbrev EachFits : List (String × Kind) → Type 0
EachFits t = Each1 (λ (e : String × Kind). fitsb 8 (bytes e.0) ≡ true) t

words-fit : EachFits words
unfolding fitsb bytes
words-fit = (refl, (refl, (refl, (refl, (refl, (refl, (refl, (refl, (refl, (refl, (refl, (refl, (refl, (refl, (refl, (refl, (refl, (refl, (refl, (refl, (refl, (refl, (refl, (refl, (refl, (refl, (refl, (refl, (refl, tt)))))))))))))))))))))))))))))

-- a word is reserved if its key is that of a reserved word
keyed-reserved : (t : List (String × Kind)) (r : List ℕ) → EachFits t → Fits 8 r → keyed t (packed 8 r) ≡ word_code (reserved t r)
unfolding keyed reserved
keyed-reserved [] r h f = refl
keyed-reserved (e ∷ t) r h f = on (same (bytes e.0) r) refl (keyed-reserved t r h.1 f)
  where
    on : (x : Bool) → same (bytes e.0) r ≡ x → keyed t (packed 8 r) ≡ word_code (reserved t r)
        → elim (eqb (packed 8 r) (packed 8 (bytes e.0))) [ true ↦ Some (code_of e.1) | false ↦ keyed t (packed 8 r) ] ≡ word_code (elim x [ true ↦ some e.1 | false ↦ reserved t r ])
    on true q i = ap (λ (x : Bool). elim x [ true ↦ Some (code_of e.1) | false ↦ keyed t (packed 8 r) ]) (eq-eqb (packed 8 r) (packed 8 (bytes e.0)) (ap (packed 8) (sym (same_true (bytes e.0) r q))))
    on false q i =
        ap (λ (x : Bool). elim x [ true ↦ Some (code_of e.1) | false ↦ keyed t (packed 8 r) ])
        (ne_eqb (packed 8 r) (packed 8 (bytes e.0)) (λ k. let s : same (bytes e.0) r ≡ true = ap (λ (l : List ℕ). same l r) (packed-one 8 (bytes e.0) r (fits 8 (bytes e.0) h.0) f (sym k)) ∙ same_refl r in
        let z : ◌≡◌ {A = ℕ} 0 1 = cc in omega arith)) ∙ i

reserved-long : (t : List (String × Kind)) (r : List ℕ) → EachFits t → 8 < length r → reserved t r ≡ none
unfolding reserved
reserved-long [] r h l = refl
reserved-long (e ∷ t) r h l = on (same (bytes e.0) r) refl (reserved-long t r h.1 l)
  where
    on : (x : Bool) → same (bytes e.0) r ≡ x → reserved t r ≡ none → ◌≡◌ {A = Option Kind} (elim x [ true ↦ some e.1 | false ↦ reserved t r ]) none
    on true q i = let m = fits-length 8 (bytes e.0) (fits 8 (bytes e.0) h.0) in let n : length (bytes e.0) ≡ length r = ap length (same_true (bytes e.0) r q) in absurd (omega arith)
    on false q i = i

-- the bytes of a run
in-run-some : (x : ℕ) → in_run (class_of x) ≡ true → 0 < x
unfolding class_of between bytes any
in-run-some zero g = let z : ◌≡◌ {A = ℕ} 0 1 = cc in absurd (omega arith)
in-run-some (suc x) g = omega arith

in-run-fits : (b : ℕ) → in_run (class_of b) ≡ true → (0 < b) × (b < 256)
in-run-fits b h = (in-run-some b h, high (ltb b 256) refl)
  where
    high : (y : Bool) → ltb b 256 ≡ y → b < 256
    high true q = ltb-true b 256 q
    high false q =
        let p = ltb-false b 256 q in
        let o : other ≡ class_of b = others b (omega arith) (omega arith) (omega arith) (omega arith) (omega arith) (omega arith) (⊎_elim (λ e. omega arith) (λ e. omega arith))
        (⊎_elim (λ e. omega arith) (⊎_elim (λ e. omega arith) (⊎_elim (λ e. omega arith) (λ e. omega arith)))) in
        let f : false ≡ in_run (class_of b) = ap in_run o in
        let z : ◌≡◌ {A = ℕ} 0 1 = cc in absurd (omega arith)

pub run_fits : (k : ℕ) (w : List ℕ) → length (run w) ≤ k → Fits k (run w)
unfolding run
run_fits k [] h = tt
run_fits k (b ∷ w) h = on (in_run (class_of b)) refl k h (λ j. run_fits j w)
  where
    on : (x : Bool) → in_run (class_of b) ≡ x → (k : ℕ) → length {A = ℕ} (elim x [ true ↦ b ∷ run w | false ↦ [] ]) ≤ k → ((j : ℕ) → length (run w) ≤ j → Fits j (run w))
        → Fits k (elim x [ true ↦ b ∷ run w | false ↦ [] ])
    on true q zero l r = absurd (omega arith)
    on true q (suc k) l r = let p = in-run-fits b q in (p.0, p.1, r k (omega arith))
    on false q k l r = tt

pub run_take : (w : List ℕ) → take (length (run w)) w ≡ run w
unfolding run
run_take [] = refl
run_take (b ∷ w) = on (in_run (class_of b)) (run_take w)
  where
    on : (x : Bool) → take (length (run w)) w ≡ run w → take (length {A = ℕ} (elim x [ true ↦ b ∷ run w | false ↦ [] ])) (b ∷ w) ≡ elim x [ true ↦ b ∷ run w | false ↦ [] ]
    on true r = ap (λ (l : List ℕ). b ∷ l) r
    on false r = refl

pub run_length : (w : List ℕ) → length (run w) ≤ length w
unfolding run
run_length [] = omega arith
run_length (b ∷ w) = on (in_run (class_of b)) (run_length w)
  where
    on : (x : Bool) → length (run w) ≤ length w → length {A = ℕ} (elim x [ true ↦ b ∷ run w | false ↦ [] ]) ≤ suc (length w)
    on true r = omega arith
    on false r = omega arith

-- the run from a place on, as a part of the text
pub run-here : (s : List ℕ) (at n : ℕ) → n ≡ length (run (drop at s)) → take ((at + n) - at) (drop at s) ≡ run (drop at s)
run-here s at n l = let m : (at + n) - at ≡ length (run (drop at s)) = omega arith in ap (λ (i : ℕ). take i (drop at s)) m ∙ run_take (drop at s)

-- the reserved word from a place on
pub reserved-key : (s : List ℕ) (at n : ℕ) {k : ℕ} {c : prelude.Option ℕ} → n ≡ length (run (drop at s)) → n ≤ 8 → k ≡ packed 16 (take ((at + n) - at) (drop at s)) → c ≡ keyed words k
    → c ≡ word_code (reserved words (run (drop at s)))
reserved-key s at n {k} {c} l h p q =
    let r : List ℕ = run (drop at s) in
    let j : length r ≤ 8 = omega arith in
    q ∙ ap (keyed words) (p ∙ ap (packed 16) (run-here s at n l) ∙ packed-enough 16 r (omega arith) ∙ sym (packed-enough 8 r j))
    ∙ keyed-reserved words r words-fit (run_fits 8 (drop at s) j)

pub reserved-none : (s : List ℕ) (at n : ℕ) → n ≡ length (run (drop at s)) → 8 < n → None ≡ word_code (reserved words (run (drop at s)))
reserved-none s at n l h = let j : 8 < length (run (drop at s)) = omega arith in sym (ap word_code (reserved-long words (run (drop at s)) words-fit j))

abbrev Misses : ℕ → List (String × Kind) → Type 0
Misses k t = Each1 (λ (e : String × Kind). k ≡ packed 8 (bytes e.0) → ⊥) t

keyed-none : (t : List (String × Kind)) (k : ℕ) → Misses k t → None ≡ keyed t k
unfolding keyed
keyed-none [] k h = refl
keyed-none (e ∷ t) k h = keyed-none t k h.1 ∙ sym (ap (λ (x : Bool). elim x [ true ↦ Some (code_of e.1) | false ↦ keyed t k ]) (ne_eqb k (packed 8 (bytes e.0)) h.0))

pub no_word : (k : ℕ) → (k ≡ 8319395793684295523 → ⊥) → (k ≡ 474148661607 → ⊥) → (k ≡ 8386654075301880417 → ⊥) → (k ≡ 7310579637098016611 → ⊥) → (k ≡ 499985049953 → ⊥) → (k ≡ 499985049955 → ⊥) → (k ≡ 7311142548648781170 → ⊥) → (k ≡ 28783 → ⊥) → (k ≡ 6581861 → ⊥) → (k ≡ 435710945399 → ⊥) → (k ≡ 80 → ⊥) → (k ≡ 521644567909 → ⊥) → (k ≡ 1702195828 → ⊥) → (k ≡ 6581857 → ⊥) → (k ≡ 29295 → ⊥) → (k ≡ 7630702 → ⊥) → (k ≡ 435728179558 → ⊥) → (k ≡ 119212747157350 → ⊥) → (k ≡ 126943989692517 → ⊥) → (k ≡ 13919217848514661 → ⊥) → (k ≡ 28265 → ⊥) → (k ≡ 474215640942 → ⊥) → (k ≡ 474315583093 → ⊥) → (k ≡ 495891409261 → ⊥) → (k ≡ 491328401001 → ⊥) → (k ≡ 7760228 → ⊥) → (k ≡ 6582125 → ⊥) → (k ≡ 7171940 → ⊥) → (k ≡ 7233906 → ⊥) → None ≡ keyed words k
unfolding packed bytes
no_word k n0 n1 n2 n3 n4 n5 n6 n7 n8 n9 n10 n11 n12 n13 n14 n15 n16 n17 n18 n19 n20 n21 n22 n23 n24 n25 n26 n27 n28 = keyed-none words k (n0, (n1, (n2, (n3, (n4, (n5, (n6, (n7, (n8, (n9, (n10, (n11, (n12, (n13, (n14, (n15, (n16, (n17, (n18, (n19, (n20, (n21, (n22, (n23, (n24, (n25, (n26, (n27, (n28, tt)))))))))))))))))))))))))))))

pub ending-first : (w : List ℕ) → ending_of (get_or w 0 0 ∷ []) ≡ ending_of w
unfolding ending_of
ending-first [] = refl
ending-first (b ∷ w) = refl

module _ (r : List ℕ) (e : Ending) (o : Option Kind) {n : ℕ} (l : n ≡ length r) where
  pub word-plain : {word : ℕ} → Some word ≡ word_code o → e ≡ no_ending → Listed word n 0 ≡ token_of (word_of r e o)
  unfolding word_of
  word-plain {word} q z = on o q ∙ ap (λ (x : Ending). token_of (word_of r x o)) (sym z)
    where
      on : (x : Option Kind) → Some word ≡ word_code x → Listed word n 0 ≡ token_of (word_of r no_ending x)
      on none h = absurd (cc)
      on (some k) h = let f : word ≡ code_of k = cc in ap₂ (λ (a b : ℕ). Listed a b 0) f l

  pub word-ended : {word : ℕ} → Some word ≡ word_code o → (e ≡ no_ending → ⊥) → Unlisted ≡ token_of (word_of r e o)
  unfolding word_of
  word-ended {word} q g = on o q e g
    where
      on : (x : Option Kind) → Some word ≡ word_code x → (y : Ending) → (y ≡ no_ending → ⊥) → Unlisted ≡ token_of (word_of r y x)
      on none h y i = absurd (cc)
      on (some k) h no_ending i = absurd (i refl)
      on (some k) h prime i = refl
      on (some k) h query i = refl
      on (some k) h shriek i = refl

  on_none : (x : Option Kind) → None ≡ word_code x → x ≡ none
  on_none none h = refl
  on_none (some k) h = absurd (cc)

  pub name-long : None ≡ word_code o → 16 < n → Unlisted ≡ token_of (word_of r e o)
  unfolding word_of
  name-long q h = let j : 16 < length r = omega arith in
      sym (ap (λ (x : Option Kind). token_of (word_of r e x)) (on_none o q) ∙ ap (λ (b : Bool). token_of (cond b (found (name (record { letters = r; ending = e })) (length r + ending_length e)) unlisted)) (lt-leb (length r) 16 j))

  -- a name by its ending
  pub name-short : None ≡ word_code o → n ≤ 16 → Listed (code_of (kind_of_name e)) (n + ending_length e) 0 ≡ token_of (word_of r e o)
  unfolding word_of
  name-short q h = let j : length r ≤ 16 = omega arith in
      ap (λ (i : ℕ). Listed (code_of (kind_of_name e)) (i + ending_length e) 0) l
      ∙ sym (ap (λ (x : Option Kind). token_of (word_of r e x)) (on_none o q) ∙ ap (λ (b : Bool). token_of (cond b (found (name (record { letters = r; ending = e })) (length r + ending_length e)) unlisted)) (le-leb (length r) 16 j))

-- an ending that is one of the three
pub ended : {x : ending.Ending} → (x ≡ Prime) ⊎ ((x ≡ Query) ⊎ (x ≡ Shriek)) → ending_is x ≡ no_ending → ⊥
ended {x = Plain} h z = ⊎_elim (λ e. cc) (⊎_elim (λ e. cc) (λ e. cc)) h
ended {x = Prime} h z = cc
ended {x = Query} h z = cc
ended {x = Shriek} h z = cc

-- the name or reserved word from a place on
pub word-here : (s : List ℕ) (at : ℕ) {n b : ℕ} {e : Ending} {word : prelude.Option ℕ} {t : Token} → n ≡ length (run (drop at s)) → b ≡ get_or s (at + n) 0 → e ≡ ending_of (b ∷ [])
    → word ≡ word_code (reserved words (run (drop at s)))
    → ((r : List ℕ) (o : Option Kind) → n ≡ length r → word ≡ word_code o → t ≡ token_of (word_of r e o))
    → t ≡ token_of (by_class letter (drop at s))
unfolding by_class
word-here s at {n} {b} {e} {word} {t} l p q r h =
    h (run (drop at s)) (reserved words (run (drop at s))) l r
    ∙ ap (λ (x : Ending). token_of (word_of (run (drop at s)) x (reserved words (run (drop at s)))))
    (q ∙ ap (λ (x : ℕ). ending_of (x ∷ []))
    (p ∙ ap (λ (i : ℕ). get_or s i 0) (sym (add-zero (at + n))) ∙ sym (get_or-drop (at + n) s 0 0)) ∙ ending-first (drop (at + n) s)
    ∙ ap ending_of (sym (drop-drop n at s) ∙ ap (λ (i : ℕ). drop i (drop at s)) l))

pub ending-none : (b : ℕ) → (b ≡ 39 → ⊥) → (b ≡ 63 → ⊥) → (b ≡ 33 → ⊥) → no_ending ≡ ending_of (b ∷ [])
unfolding ending_of
ending-none b f g h = sym (simp (ne_eqb b 39 f, ne_eqb b 63 g, ne_eqb b 33 h))
