-- Laws of the scan: one symbol after the other, the faults, and what the arrays hold.
use mathlib.Core.Path.{◌≡◌, refl, ap, ap₂, ◌∙◌, sym, subst}
use mathlib.Core.Bool.{Bool, true, false, ◌&&◌, ◌||◌, cond}
use mathlib.Core.List.{List, [], ◌∷◌, ◌++◌, map, map-append, append_assoc, append-nil}
use mathlib.Core.Option.{Option, none, some}
use Prim.Native.Nat.{ℕ, zero, suc, pred, ◌+◌, ◌≤◌, ◌<◌}
use Prim.Native.String.{String}
use native.Mathlib.Omega.{arith}
use native.Mathlib.Nat.{add-zero}
use native.Mathlib.Numerals.{add-one}
use lib.Dec.{leb, ltb}
use borrow.Author.Tests.{leb-true, le-ltb, ne_eqb}
use lib.ListN.{length, take, drop, get_or, set, length-append, length-map, length-drop, drop_of_length-le}
use lib.Seq.{drop-cons, get_or-drop, drop-drop, take_all, take_at, set_at}
use Rattle.std.specs.Simd.Lanes.{Each1}
use Rattle.lexical.specs.Lists.{bytes, begins}
use Rattle.lexical.specs.Kinds.{Kind, marks, words}
use Rattle.refusals.specs.Refusals.{Fault, fault, before, lesser, least, number_of, many_symbols}
use Rattle.lexical.specs.Symbols.{Class, letter, digit, mark, blank, other, class_of, in_run, run, Symbol, fixed, numeral, name, Found, gap, unlisted, found, Ending, no_ending, prime, query, shriek, ending_of, ending_length}
use Rattle.lexical.specs.Symbols.{reserved, word_of, is_number, number_found, decimal_from, longer, longest, by_class, symbol_at, Placed, Scan, done, stopped, next, scanned, scan_from, scan, symbols, scan_faults}
use Rattle.lexical.specs.Promises.{code_in, number_in, Scanned, fault_of, taken, filled}
use Rattle.lexical.specs.SymbolPromises.{token_of, Takes}
use Rattle.lexical.specs.declared.Token.{Token}
use Rattle.lexical.specs.declared.Token.TheVariants.{Gap, Unlisted, Listed}
use Rattle.std.specs.Prelude.{Ok, Err}
use Rattle.refusals.specs.declared.Refusal.TheVariants.{UnlistedSymbol, ManySymbols}
use Rattle.lexical.proofs.WordLaws.{run_length}

-- what stands at a place, by the class of its byte
pub class-here : (s : List ℕ) (at : ℕ) {v : Class} → class_of (get_or s at 0) ≡ v → by_class v (drop at s) ≡ symbol_at (drop at s)
unfolding symbol_at
class-here s at h = ap (λ (x : Class). by_class x (drop at s)) (sym h ∙ ap (λ (i : ℕ). class_of (get_or s i 0)) (sym (add-zero at)) ∙ ap class_of (sym (get_or-drop at s 0 0)))

-- a symbol of n of the bytes, of which there are m
abbrev Small : ℕ → Found → Type 0
Small m gap = Unit {0}
Small m unlisted = Unit {0}
Small m (found s n) = (1 ≤ n) × (n ≤ m + 17)

small_word : (m : ℕ) (r : List ℕ) (e : Ending) (o : Option Kind) → 1 ≤ length r → length r ≤ m → Small m (word_of r e o)
unfolding word_of
small_word m r e none p q = on (leb (length r) 16) e
  where
    on : (b : Bool) (x : Ending) → Small m (cond b (found (name (record { letters = r; ending = e })) (length r + ending_length x)) unlisted)
    on true no_ending = (omega arith, omega arith)
    on true prime = (omega arith, omega arith)
    on true query = (omega arith, omega arith)
    on true shriek = (omega arith, omega arith)
    on false x = tt
small_word m r no_ending (some k) p q = (omega arith, omega arith)
small_word m r prime (some k) p q = tt
small_word m r query (some k) p q = tt
small_word m r shriek (some k) p q = tt

small-number : (m : ℕ) (r : List ℕ) → 1 ≤ length r → length r ≤ m → Small m (number_found r)
unfolding number_found
small-number m r p q = on (is_number r)
  where
    on : (b : Bool) → Small m (cond b (found (numeral (decimal_from 0 r)) (length r)) unlisted)
    on true = (p, omega arith)
    on false = tt

abbrev EachShort : List (String × Kind) → Type 0
EachShort t = Each1 (λ (e : String × Kind). (leb 1 (length (bytes e.0)) ≡ true) × (leb (length (bytes e.0)) 17 ≡ true)) t

marks-short : EachShort marks
unfolding bytes
marks-short = ((refl, refl), ((refl, refl), ((refl, refl), ((refl, refl), ((refl, refl), ((refl, refl), ((refl, refl), ((refl, refl), ((refl, refl), ((refl, refl), ((refl, refl), ((refl, refl), ((refl, refl), ((refl, refl), ((refl, refl), ((refl, refl), ((refl, refl), ((refl, refl), ((refl, refl), ((refl, refl), ((refl, refl), ((refl, refl), ((refl, refl), ((refl, refl), ((refl, refl), ((refl, refl), tt))))))))))))))))))))))))))

small-mark : (m : ℕ) (t : List (String × Kind)) (w : List ℕ) → EachShort t → Small m (longest t w)
unfolding longest
small-mark m [] w h = tt
small-mark m (e ∷ t) w h = on (begins (bytes e.0) w) (longest t w) (small-mark m t w h.1)
  where
    n : ℕ
    n = length (bytes e.0)

    one : 1 ≤ n
    one = leb-true 1 n h.0.0

    few : n ≤ 17
    few = leb-true n 17 h.0.1

    longer-small : (f : Found) → Small m f → Small m (longer f e.1 n)
    longer-small gap i = (one, omega (arith, few))
    longer-small unlisted i = (one, omega (arith, few))
    longer-small (found s k) i = pick (ltb k n) i
      where
        pick : (b : Bool) → Small m (found s k) → Small m (cond b (found (fixed e.1) n) (found s k))
        pick true j = (one, omega (arith, few))
        pick false j = j

    on : (b : Bool) (f : Found) → Small m f → Small m (elim b [ true ↦ longer f e.1 n | false ↦ f ])
    on true f i = longer-small f i
    on false f i = i

small : (b : ℕ) (w : List ℕ) → Small (length (b ∷ w)) (symbol_at (b ∷ w))
unfolding symbol_at by_class run
small b w = on (class_of b) refl
  where
    l : length (b ∷ run w) ≤ length (b ∷ w)
    l = let j = run_length w in omega arith

    some-run : (x : Bool) → x ≡ true → (P : List ℕ → Type 0) → P (b ∷ run w) → P (elim x [ true ↦ b ∷ run w | false ↦ [] ])
    some-run true q P h = h
    some-run false q P h = let z : ◌≡◌ {A = ℕ} 0 1 = cc in absurd (omega arith)

    on : (v : Class) → class_of b ≡ v → Small (length (b ∷ w)) (by_class v (b ∷ w))
    on letter q = some-run (in_run (class_of b)) (ap in_run q) (λ (r : List ℕ). Small (length (b ∷ w)) (word_of r (ending_of (drop (length r) (b ∷ w))) (reserved words r)))
        (small_word (length (b ∷ w)) (b ∷ run w) (ending_of (drop (length (b ∷ run w)) (b ∷ w))) (reserved words (b ∷ run w)) (omega arith) l)
    on digit q = some-run (in_run (class_of b)) (ap in_run q) (λ (r : List ℕ). Small (length (b ∷ w)) (number_found r)) (small-number (length (b ∷ w)) (b ∷ run w) (omega arith) l)
    on mark q = small-mark (length (b ∷ w)) marks (b ∷ w) marks-short
    on blank q = tt
    on other q = tt

-- what a token says of what was found
record Is (f : Found) (c n v : ℕ) : Type 0 where
  symbol : Symbol
  is : f ≡ found symbol n
  code : c ≡ code_in symbol
  value : v ≡ number_in symbol

module _ {t : Token} where
  is-gap : (f : Found) → t ≡ token_of f → t ≡ Gap → f ≡ gap
  is-gap gap p q = refl
  is-gap unlisted p q = let z : ◌≡◌ {A = ℕ} 0 1 = cc in absurd (omega arith)
  is-gap (found s n) p q = let z : ◌≡◌ {A = ℕ} 0 1 = cc in absurd (omega arith)

  is-unlisted : (f : Found) → t ≡ token_of f → t ≡ Unlisted → f ≡ unlisted
  is-unlisted gap p q = let z : ◌≡◌ {A = ℕ} 0 1 = cc in absurd (omega arith)
  is-unlisted unlisted p q = refl
  is-unlisted (found s n) p q = let z : ◌≡◌ {A = ℕ} 0 1 = cc in absurd (omega arith)

  is-listed : (f : Found) {c n v : ℕ} → t ≡ token_of f → t ≡ Listed c n v → Is f c n v
  is-listed gap p q = let z : ◌≡◌ {A = ℕ} 0 1 = cc in absurd (omega arith)
  is-listed unlisted p q = let z : ◌≡◌ {A = ℕ} 0 1 = cc in absurd (omega arith)
  is-listed (found s m) {c} {n} {v} p q = let e : m ≡ n = cc in record { symbol = s; is = ap (found s) e; code = cc; value = cc }

found-small : (m : ℕ) (f : Found) {c n v : ℕ} → Small m f → Is f c n v → (1 ≤ n) × (n ≤ m + 17)
found-small m f h i = subst (Small m) i.is h

-- the length of a symbol
pub token-small : (s : List ℕ) (at : ℕ) {t : Token} {c n v : ℕ} → at < length s → t ≡ token_of (symbol_at (drop at s)) → t ≡ Listed c n v → (1 ≤ n) × (n ≤ length s + 17)
token-small s at {t} {c} {n} {v} lt p q =
    let d : drop at s ≡ get_or s at 0 ∷ drop (suc at) s = drop-cons s at 0 lt in
    let i : Is (symbol_at (get_or s at 0 ∷ drop (suc at) s)) c n v = is-listed (symbol_at (get_or s at 0 ∷ drop (suc at) s)) (p ∙ ap (λ (w : List ℕ). token_of (symbol_at w)) d) q in
    let b = found-small (length (get_or s at 0 ∷ drop (suc at) s)) (symbol_at (get_or s at 0 ∷ drop (suc at) s)) (small (get_or s at 0) (drop (suc at) s)) i in
    let m = length-drop (suc at) s in
    (b.0, omega arith)

-- bytes that belong to a symbol already taken
skips : (w : List ℕ) (k p : ℕ) → scan_from w k p ≡ scan_from (drop k w) 0 (p + k)
unfolding scan_from
skips [] zero p = refl
skips [] (suc k) p = refl
skips (b ∷ w) zero p = ap (scan_from (b ∷ w) 0) (sym (add-zero p))
skips (b ∷ w) (suc k) p = skips w k (p + 1) ∙ ap (scan_from (drop k w) 0) (omega arith)

module _ (s : List ℕ) (at : ℕ) {f : Found} (lt : at < length s) (p : symbol_at (drop at s) ≡ f) where
  step : scan_from (drop at s) 0 at ≡ scanned 0 f (scan_from (drop (suc at) s)) at
  unfolding scan_from
  step = ap (λ (w : List ℕ). scan_from w 0 at) (drop-cons s at 0 lt)
      ∙ ap (λ (x : Found). scanned 0 x (scan_from (drop (suc at) s)) at) (ap symbol_at (sym (drop-cons s at 0 lt)) ∙ p)

  step-gap : f ≡ gap → scan_from (drop at s) 0 at ≡ scan_from (drop (at + 1) s) 0 (at + 1)
  step-gap q = step ∙ ap (λ (x : Found). scanned 0 x (scan_from (drop (suc at) s)) at) q ∙ ap (λ (i : ℕ). scan_from (drop i s) 0 (at + 1)) (sym (add-one at))

  step-unlisted : f ≡ unlisted → scan_from (drop at s) 0 at ≡ stopped at
  step-unlisted q = step ∙ ap (λ (x : Found). scanned 0 x (scan_from (drop (suc at) s)) at) q

  step-found : {y : Symbol} {n : ℕ} → f ≡ found y n → 1 ≤ n → scan_from (drop at s) 0 at ≡ next (record { symbol = y; place = at }) (scan_from (drop (at + n) s) 0 (at + n))
  step-found {y} {n} q h = step ∙ ap (λ (x : Found). scanned 0 x (scan_from (drop (suc at) s)) at) q ∙ ap (next (record { symbol = y; place = at }))
      (let e₁ : suc at + pred n ≡ at + n = omega arith in
      let e₂ : (at + 1) + pred n ≡ at + n = omega arith in
      skips (drop (suc at) s) (pred n) (at + 1) ∙ ap₂ (λ (w : List ℕ) (i : ℕ). scan_from w 0 i) (drop-drop (pred n) (suc at) s ∙ ap (λ (i : ℕ). drop i s) e₁) e₂)

step_end : (s : List ℕ) (at : ℕ) → length s ≤ at → scan_from (drop at s) 0 at ≡ done
unfolding scan_from
step_end s at h = ap (λ (w : List ℕ). scan_from w 0 at) (drop_of_length-le s h)

-- symbols already taken, before the others
abbrev pub joined : List Placed → Scan → Scan
joined [] r = r
joined (x ∷ l) r = next x (joined l r)

joined-more : (l : List Placed) (x : Placed) (r : Scan) → joined l (next x r) ≡ joined (l ++ (x ∷ [])) r
joined-more [] x r = refl
joined-more (y ∷ l) x r = ap (next y) (joined-more l x r)

symbols-joined : (l : List Placed) (r : Scan) → symbols (joined l r) ≡ l ++ symbols r
unfolding symbols
symbols-joined [] r = refl
symbols-joined (x ∷ l) r = ap (λ (m : List Placed). x ∷ m) (symbols-joined l r)

-- no fault among the first 4,096 symbols
faults-after : (k : ℕ) (l : List Placed) (r : Scan) → k + length l ≤ 4096 → scan_faults k (joined l r) ≡ scan_faults (k + length l) r
unfolding scan_faults
faults-after k [] r h = ap (λ (n : ℕ). scan_faults n r) (sym (add-zero k))
faults-after k (x ∷ l) r h =
    ap (λ (b : Bool). elim b [ true ↦ fault x.place many_symbols ∷ scan_faults (suc k) (joined l r) | false ↦ scan_faults (suc k) (joined l r) ]) (ne_eqb k 4096 (omega arith))
    ∙ faults-after (suc k) l r (omega arith) ∙ ap (λ (n : ℕ). scan_faults n r) (omega arith)

abbrev After : ℕ → Option Fault → Type 0
After p none = Unit {0}
After p (some f) = p ≤ f.place

after_more : (p : ℕ) (o : Option Fault) → After (p + 1) o → After p o
after_more p none h = tt
after_more p (some f) h = omega arith

-- a later fault has a later place
later : (w : List ℕ) (k p n : ℕ) → 4096 < n → After p (least (scan_faults n (scan_from w k p)))
unfolding scan_faults scan_from least lesser
later [] k p n h = tt
later (b ∷ w) (suc k) p n h = after_more p (least (scan_faults n (scan_from w k (p + 1)))) (later w k (p + 1) n h)
later (b ∷ w) zero p n h = on (symbol_at (b ∷ w)) (λ k m i. after_more p (least (scan_faults m (scan_from w k (p + 1)))) (later w k (p + 1) m i))
  where
    on : (f : Found) → ((k m : ℕ) → 4096 < m → After p (least (scan_faults m (scan_from w k (p + 1))))) → After p (least (scan_faults n (scanned 0 f (scan_from w) p)))
    on gap r = r 0 n h
    on unlisted r = omega arith
    on (found s m) r = subst (λ (l : List Fault). After p (least l))
        (sym (ap (λ (x : Bool). elim x [ true ↦ fault p many_symbols ∷ scan_faults (suc n) (scan_from w (pred m) (p + 1)) | false ↦ scan_faults (suc n) (scan_from w (pred m) (p + 1)) ]) (ne_eqb n 4096 (omega arith))))
        (r (pred m) (suc n) (omega arith))

lesser-later : (p q : ℕ) (o : Option Fault) → p < q → After q o → lesser (fault p many_symbols) o ≡ fault p many_symbols
unfolding lesser before
lesser-later p q none l h = refl
lesser-later p q (some g) l h =
    ap₂ (λ (x y : Bool). elim (x || y && ltb (number_of g.refusal) (number_of many_symbols)) [ true ↦ g | false ↦ fault p many_symbols ])
    (le-ltb g.place p (omega arith)) (ne_eqb g.place p (omega arith))

-- the 4,097th symbol is refused at its place
many-least : (x : Placed) (w : List ℕ) (p : ℕ) → x.place < p → least (scan_faults 4096 (next x (scan_from w 0 p))) ≡ some (fault x.place many_symbols)
unfolding scan_faults least
many-least x w p h = ap some (lesser-later x.place p (least (scan_faults 4097 (scan_from w 0 p))) h (later w 0 p 4097 (omega arith)))

-- one more place of an array
pub filled_more : (f : Placed → ℕ) (l : List Placed) (x : Placed) (old : List ℕ) (v n : ℕ) → length l ≡ n → n < length old → v ≡ f x
    → set (filled f l old) n v ≡ filled f (l ++ (x ∷ [])) old
filled_more f l x old v n e h q =
    let m : length (l ++ (x ∷ [])) ≡ suc n = length-append l (x ∷ []) ∙ omega arith in
    ap (λ (i : ℕ). set (map f l ++ drop i old) n v) e
    ∙ ap (λ (t : List ℕ). set (map f l ++ t) n v) (drop-cons old n 0 h)
    ∙ set_at (map f l) (get_or old n 0) (drop (suc n) old) v n (length-map l f ∙ e)
    ∙ ap (λ (y : ℕ). map f l ++ (y ∷ drop (suc n) old)) q
    ∙ sym (append_assoc (map f l) (f x ∷ []) (drop (suc n) old))
    ∙ ap (λ (t : List ℕ). t ++ drop (suc n) old) (sym (map-append f l (x ∷ [])))
    ∙ ap (λ (i : ℕ). map f (l ++ (x ∷ [])) ++ drop i old) (sym m)

-- what holds at the head of the scan's loop
pub record Scanning (s codes₀ starts₀ values₀ codes starts values : List ℕ) (at n : ℕ) : Type 0 where
  pub done : List Placed
  pub rest : scan s ≡ joined done (scan_from (drop at s) 0 at)
  pub count : length done ≡ n
  pub room : n ≤ 4096
  pub coded : codes ≡ filled (λ (x : Placed). code_in x.symbol) done codes₀
  pub placed : starts ≡ filled (λ (x : Placed). x.place) done starts₀
  pub valued : values ≡ filled (λ (x : Placed). number_in x.symbol) done values₀

pub scanning-start : (s codes starts values : List ℕ) → Scanning s codes starts values codes starts values 0 0
unfolding scan
scanning-start s codes starts values = record { done = []; rest = refl; count = refl; room = omega arith; coded = refl; placed = refl; valued = refl }

module _ {s codes₀ starts₀ values₀ codes starts values : List ℕ} {at n : ℕ} (h : Scanning s codes₀ starts₀ values₀ codes starts values at n) where
  -- the symbols taken, where the scan then goes on by r
  ends : (r : Scan) → scan_from (drop at s) 0 at ≡ r → take 4096 (h.done ++ symbols r) ≡ h.done → taken s ≡ h.done
  ends r q e = ap (λ (x : Scan). take 4096 (symbols x)) (h.rest ∙ ap (joined h.done) q) ∙ ap (take 4096) (symbols-joined h.done r) ∙ e

  faults : (r : Scan) → scan_from (drop at s) 0 at ≡ r → scan_faults 0 (scan s) ≡ scan_faults n r
  faults r q =
      let k = h.count in let i = h.room in
      let e : 0 + length h.done ≡ n = omega arith in
      ap (scan_faults 0) (h.rest ∙ ap (joined h.done) q) ∙ faults-after 0 h.done r (omega arith) ∙ ap (λ (j : ℕ). scan_faults j r) e

  leaves : (r : Scanned) → taken s ≡ h.done → fault_of r ≡ least (scan_faults 0 (scan s)) → ((m : ℕ) → r ≡ Ok m → (m ≡ length (symbols (scan s))) × (m ≤ 4096)) → Takes s codes₀ starts₀ values₀ codes starts values r
  leaves r t a c = record {
    answer = a;
    counted = λ m e. (c m e).0;
    few = λ m e. (c m e).1;
    coded = h.coded ∙ ap (λ (l : List Placed). filled (λ (x : Placed). code_in x.symbol) l codes₀) (sym t);
    placed = h.placed ∙ ap (λ (l : List Placed). filled (λ (x : Placed). x.place) l starts₀) (sym t);
    valued = h.valued ∙ ap (λ (l : List Placed). filled (λ (x : Placed). number_in x.symbol) l values₀) (sym t);
  }

  all_done : (l : List Placed) → l ≡ h.done ++ [] → take 4096 l ≡ h.done
  all_done l e = let k = h.count in let i = h.room in
      ap (take 4096) (e ∙ append-nil h.done) ∙ take_all 4096 h.done (omega arith)

  pub scanned-all : length s ≤ at → Takes s codes₀ starts₀ values₀ codes starts values (Ok n)
  unfolding symbols scan_faults least
  scanned-all l = leaves (Ok n) (ends done (step_end s at l) (all_done (h.done ++ []) refl)) (sym (ap least (faults done (step_end s at l))))
      (λ m q. let e : n ≡ m = cc in let i = h.room in
      (sym e ∙ sym h.count ∙ sym (ap length (ap symbols (h.rest ∙ ap (joined h.done) (step_end s at l)) ∙ symbols-joined h.done done ∙ append-nil h.done)), omega arith))

  module _ (lt : at < length s) {t : Token} (p : t ≡ token_of (symbol_at (drop at s))) where
    pub scanning_gap : t ≡ Gap → Scanning s codes₀ starts₀ values₀ codes starts values (at + 1) n
    scanning_gap q = record {
      done = h.done;
      rest = h.rest ∙ ap (joined h.done) (step-gap s at lt refl (is-gap (symbol_at (drop at s)) p q));
      count = h.count;
      room = h.room;
      coded = h.coded;
      placed = h.placed;
      valued = h.valued;
    }

    pub scanned-unlisted : t ≡ Unlisted → Takes s codes₀ starts₀ values₀ codes starts values (Err (record { place = at; refusal = UnlistedSymbol }))
    unfolding symbols scan_faults least lesser
    scanned-unlisted q =
        let u : scan_from (drop at s) 0 at ≡ stopped at = step-unlisted s at lt refl (is-unlisted (symbol_at (drop at s)) p q) in
        leaves (Err (record { place = at; refusal = UnlistedSymbol })) (ends (stopped at) u (all_done (h.done ++ []) refl)) (sym (ap least (faults (stopped at) u)))
        (λ m e. let z : ◌≡◌ {A = ℕ} 0 1 = cc in absurd (omega arith))

    module _ {c m v : ℕ} (q : t ≡ Listed c m v) where
      what : Is (symbol_at (drop at s)) c m v
      what = is-listed (symbol_at (drop at s)) p q

      new : Placed
      new = record { symbol = what.symbol; place = at }

      goes : scan_from (drop at s) 0 at ≡ next new (scan_from (drop (at + m) s) 0 (at + m))
      unfolding new
      goes = step-found s at lt refl what.is (token-small s at lt p q).0

      pub scanning-symbol : n < 4096 → length codes₀ ≡ 4096 → length starts₀ ≡ 4096 → length values₀ ≡ 4096
          → Scanning s codes₀ starts₀ values₀ (set codes n c) (set starts n at) (set values n v) (at + m) (n + 1)
      unfolding new
      scanning-symbol r lc ls lv = record {
        done = h.done ++ (new ∷ []);
        rest = h.rest ∙ ap (joined h.done) goes ∙ joined-more h.done new (scan_from (drop (at + m) s) 0 (at + m));
        count = length-append h.done (new ∷ []) ∙ ap (λ (i : ℕ). i + 1) h.count;
        room = omega arith;
        coded = ap (λ (l : List ℕ). set l n c) h.coded ∙ filled_more (λ (x : Placed). code_in x.symbol) h.done new codes₀ c n h.count (omega arith) what.code;
        placed = ap (λ (l : List ℕ). set l n at) h.placed ∙ filled_more (λ (x : Placed). x.place) h.done new starts₀ at n h.count (omega arith) refl;
        valued = ap (λ (l : List ℕ). set l n v) h.valued ∙ filled_more (λ (x : Placed). number_in x.symbol) h.done new values₀ v n h.count (omega arith) what.value;
      }

      pub scanned-many : 4096 ≤ n → Takes s codes₀ starts₀ values₀ codes starts values (Err (record { place = at; refusal = ManySymbols }))
      unfolding new
      scanned-many l =
          let i = h.room in let k = h.count in
          let e : n ≡ 4096 = omega arith in
          let j = token-small s at lt p q in
          leaves (Err (record { place = at; refusal = ManySymbols })) (ends (next new (scan_from (drop (at + m) s) 0 (at + m))) goes (take_at h.done (symbols (next new (scan_from (drop (at + m) s) 0 (at + m)))) 4096 (k ∙ e)))
          (sym (ap least (faults (next new (scan_from (drop (at + m) s) 0 (at + m))) goes ∙ ap (λ (x : ℕ). scan_faults x (next new (scan_from (drop (at + m) s) 0 (at + m)))) e)
          ∙ many-least new (drop (at + m) s) (at + m) (let j₀ = j.0 in omega arith)))
          (λ m e. let z : ◌≡◌ {A = ℕ} 0 1 = cc in absurd (omega arith))
