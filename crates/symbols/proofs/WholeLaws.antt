-- Laws of the whole scan, of a text of any length.
use mathlib.Core.Path.{◌≡◌, ap, ◌∙◌, sym, subst}
use mathlib.Core.Bool.{Bool, true, false, cond}
use mathlib.Core.List.{List, [], ◌∷◌, ◌++◌, map}
use Prim.Native.Nat.{ℕ, ◌≤◌, ◌<◌}
use native.Mathlib.Omega.{arith}
use lib.Dec.{ltb}
use borrow.Author.Tests.{le-ltb, lt-ltb}
use lib.ListN.{length, take, drop, get_or, length-map}
use lib.Seq.{take_all, take_at, drop_at}
use Rattle.refusals.specs.Refusals.{fault, lesser, least, long_text}
use Rattle.lexical.specs.Symbols.{Placed, scan, symbols, scan_faults, length_faults}
use Rattle.lexical.specs.Promises.{code_in, number_in, value_in, value_at, taken, filled, first_of, written, Scanned, Scans}
use Rattle.lexical.specs.SymbolPromises.{filled_numbers, filled_values, Takes, Rows}
use Rattle.std.specs.Prelude.{Ok, Err}
use Rattle.refusals.specs.declared.Refusal.TheVariants.{LongText}
use Rattle.refusals.specs.declared.Fault as refusals
use Rattle.name_numbers.proofs.RowLaws.{filled_at}
use Rattle.name_numbers.proofs.SoundLaws.{map_at}

-- a text that is too long
pub scans-long : (text codes starts values : List ℕ) → 32768 < length text → Scans text codes starts values codes starts values (Err (record { place = 32768; refusal = LongText }))
unfolding length_faults least lesser
scans-long text codes starts values h =
    let t : ltb 32768 (length text) ≡ true = lt-ltb 32768 (length text) h in
    let w : written text ≡ [] = ap (λ (b : Bool). cond b [] (taken text)) t in
    record {
      answer = sym (ap (λ (b : Bool). first_of (least (cond b (fault 32768 long_text ∷ []) [])) (least (scan_faults 0 (scan text)))) t);
      counted = λ n e. let z : ◌≡◌ {A = ℕ} 0 1 = cc in absurd (omega arith);
      few = λ n e. let z : ◌≡◌ {A = ℕ} 0 1 = cc in absurd (omega arith);
      coded = ap (λ (l : List Placed). filled (λ (x : Placed). code_in x.symbol) l codes) (sym w);
      placed = ap (λ (l : List Placed). filled (λ (x : Placed). x.place) l starts) (sym w);
      valued = ap (λ (l : List Placed). filled (λ (x : Placed). number_in x.symbol) l values) (sym w);
    }

module _ {text codes₀ starts₀ values₀ codes starts values : List ℕ} {r : Scanned} (short : length text ≤ 32768) (h : Takes text codes₀ starts₀ values₀ codes starts values r) where
  not-long : ltb 32768 (length text) ≡ false
  not-long = le-ltb 32768 (length text) short

  all-written : written text ≡ taken text
  all-written = ap (λ (b : Bool). cond b [] (taken text)) not-long

  scans : {values' : List ℕ} → values' ≡ filled (λ (x : Placed). value_at r (symbols (scan text)) x.symbol) (written text) values₀ → Scans text codes₀ starts₀ values₀ codes starts values' r
  unfolding length_faults least
  scans v = record {
    answer = h.answer ∙ sym (ap (λ (b : Bool). first_of (least (cond b (fault 32768 long_text ∷ []) [])) (least (scan_faults 0 (scan text)))) not-long);
    counted = h.counted;
    few = h.few;
    coded = h.coded ∙ ap (λ (l : List Placed). filled (λ (x : Placed). code_in x.symbol) l codes₀) (sym all-written);
    placed = h.placed ∙ ap (λ (l : List Placed). filled (λ (x : Placed). x.place) l starts₀) (sym all-written);
    valued = v;
  }

  numbers : values ≡ filled (λ (x : Placed). number_in x.symbol) (written text) values₀
  numbers = h.valued ∙ ap (λ (l : List Placed). filled (λ (x : Placed). number_in x.symbol) l values₀) (sym all-written)

  -- an answer that is a refusal
  pub scans-fault : {f : refusals.Fault} → r ≡ Err f → Scans text codes₀ starts₀ values₀ codes starts values (Err f)
  scans-fault e = subst (Scans text codes₀ starts₀ values₀ codes starts values) e (scans (numbers ∙ ap (λ (y : Scanned). filled (λ (x : Placed). value_at y (symbols (scan text)) x.symbol) (written text) values₀) (sym e)))

  module _ {n : ℕ} (e : r ≡ Ok n) where
    few : n ≤ 4096
    few = h.few n e

    count : n ≡ length (symbols (scan text))
    count = h.counted n e

    all-taken : taken text ≡ symbols (scan text)
    all-taken = let f = few in let c = count in take_all 4096 (symbols (scan text)) (omega arith)

    row : (f : Placed → ℕ) (old now : List ℕ) → now ≡ filled f (taken text) old → now ≡ filled f (symbols (scan text)) old
    row f old now q = q ∙ ap (λ (l : List Placed). filled f l old) all-taken

    first_rows : (f : Placed → ℕ) (old now : List ℕ) → now ≡ filled f (taken text) old → take n now ≡ map f (symbols (scan text))
    first_rows f old now q = ap (take n) (row f old now q) ∙ take_at (map f (symbols (scan text))) (drop (length (symbols (scan text))) old) n (length-map (symbols (scan text)) f ∙ sym count)

    pub rows : Rows text codes starts n
    rows = record {
      short = short;
      few = few;
      counted = count;
      coded = first_rows (λ (x : Placed). code_in x.symbol) codes₀ codes h.coded;
      placed = first_rows (λ (x : Placed). x.place) starts₀ starts h.placed;
    }

    pub numbers-at : (i : ℕ) → i < n → get_or values i 0 ≡ get_or (filled_numbers text) i 0
    numbers-at i lt =
        let c = count in let k : i < length (symbols (scan text)) = omega arith in
        ap (λ (l : List ℕ). get_or l i 0) (row (λ (x : Placed). number_in x.symbol) values₀ values h.valued)
        ∙ filled_at (λ (x : Placed). number_in x.symbol) (symbols (scan text)) values₀ i k ∙ sym (map_at (λ (x : Placed). number_in x.symbol) (symbols (scan text)) i k)

    pub scans-all : {values' : List ℕ} → values' ≡ filled_values text values → Scans text codes₀ starts₀ values₀ codes starts values' (Ok n)
    scans-all {values'} q =
        let l : List Placed = symbols (scan text) in
        let f : Placed → ℕ = λ (x : Placed). value_in (symbols (scan text)) x.symbol in
        let kept : drop (length (symbols (scan text))) values ≡ drop (length (symbols (scan text))) values₀ =
        ap (drop (length (symbols (scan text)))) (row (λ (x : Placed). number_in x.symbol) values₀ values h.valued)
        ∙ drop_at (map (λ (x : Placed). number_in x.symbol) (symbols (scan text))) (drop (length (symbols (scan text))) values₀) (length (symbols (scan text))) (length-map (symbols (scan text)) (λ (x : Placed). number_in x.symbol)) in
        subst (Scans text codes₀ starts₀ values₀ codes starts values') e
        (scans (q ∙ ap (λ (t : List ℕ). map (λ (x : Placed). value_in (symbols (scan text)) x.symbol) (symbols (scan text)) ++ t) kept
        ∙ ap (λ (t : List Placed). filled (λ (x : Placed). value_in (symbols (scan text)) x.symbol) t values₀) (sym all-taken ∙ sym all-written)
        ∙ ap (λ (y : Scanned). filled (λ (x : Placed). value_at y (symbols (scan text)) x.symbol) (written text) values₀) (sym e)))
