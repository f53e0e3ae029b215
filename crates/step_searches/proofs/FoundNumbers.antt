-- What a search finds by the number of its group, at a point where other groups are at given numbers. Assumes nothing.
use Rattle.std.specs.Prelude.{Option, IfSome, unwrap_or}
use Rattle.std.specs.Bool.{then_some}
use mathlib.Core.Path.{◌≡◌, refl, sym, ap, ap₂, subst, ◌∙◌}
use mathlib.Core.Bool.{Bool, true, false}
use lib.Dec.{ltb}
use borrow.Author.Tests.{ltb-true, ltb-false}
use mathlib.Core.List.{List, ◌++◌}
use Prim.Native.Nat.{ℕ, ◌+◌, ◌-◌, ◌*◌, ◌/◌, ◌%◌, ◌<◌, ◌≤◌, ◌^◌}
use native.Mathlib.Nat.{mod-lt, div-lt_iff_lt-mul, mul-le-mul}
use native.Mathlib.Omega.{arith}
use lib.ListN.{length, length-append}
use lib.IntN.{ℤ}
use Rattle.lexical.specs.Lists.{upward}
use Rattle.meaning.proofs.UpwardNumbers.{upward-long}
use Rattle.static_rules.specs.Carriers.{Variable}
use Rattle.static_rules.specs.Limits.{binding_count}
use Rattle.carriers.proofs.Bindings.{bindings-some}
use Rattle.slot_carriers.specs.CellGroups.{CellsOf}
use Rattle.slot_carriers.specs.declared.groups.GroupSize.{GroupSize}
use Rattle.points.specs.Points.{Point, span, number_of, placed, Shows}
use Rattle.points.specs.Searches.{under, Sought, SearchOf}
use Rattle.points.proofs.PointNumbers.{number-apart, number-placed, beside_placed, placed-append, span-append, sought-same, distinct-upward}
use Rattle.points.proofs.PointBindings.{span-count, group-counts}
use Rattle.points.proofs.SearchLevels.{search-finds}
use Rattle.seek.specs.SeekPromises.{SeekAsked, SeekAnswers}
use Rattle.parts.proofs.PartSearchesSlotGroups.{Filled, filled}
use Rattle.part_setup.specs.PartTestsPartGroups.{size_of}
use Rattle.parts.proofs.PartSearchesNestParts.{outside-run, run-apart}
use Rattle.step_searches.specs.StepPromises.{Bindable}

-- every variable has its first value
abbrev pub origin : Point
origin = λ (s : ℕ). 0

-- ---- any search

few-bindings : (n : ℕ) → n ≤ 2 ^ 18 → n ≤ 2 ^ 24
few-bindings n h = omega arith

low-enough : (n : ℕ) → n ≤ 4096 → n ≤ 2 ^ 18
low-enough n h = omega arith

module _ {table plan cells : List ℕ} {u : ℕ} {ss : List ℕ} {P : Point → Bool} (S : SearchOf table plan cells u ss P) {δ : Point} {before : List (List ℤ)} (σ : Shows cells δ before)
    {m n from : ℕ} (l : length ss ≡ m) (e : span cells ss ≡ n) where
  pub asks : n ≤ 2 ^ 18 → from ≤ n → SeekAsked table plan cells u 0 m n from before
  asks f h = record {
    slots = ss;
    tests = S.tests;
    point = δ;
    planned = S.planned;
    shows = σ;
    many = l;
    counted = sym e;
    few = few-bindings n f;
    inside = h;
  }

  -- the law: it finds the test g of numbers, which is what it looks for at the point of each number
  pub finds : {after : List (List ℤ)} {r : ℕ} (g : ℕ → Bool) → ((k : ℕ) → k < n → P (placed cells ss δ k) ≡ g k) → SeekAnswers table plan cells u 0 m n from before after r
      → Sought g from n r
  finds {r = r} g w s =
      sought-same
      (subst (λ (t : ℕ). Sought (λ (k : ℕ). P (placed cells ss δ k)) from t r) e
      (search-finds S δ σ.tame (subst (λ (t : ℕ). Sought (under cells S.tests 0 ss δ) from t r) (sym e) (s.sought ss S.tests δ S.planned σ l))))
      w

-- a search that does not stop before the end of its span stops there
ended : {table plan cells : List ℕ} {u j m w from r : ℕ} {before after : List (List ℤ)} → SeekAsked table plan cells u j m w from before
    → SeekAnswers table plan cells u j m w from before after r → w ≤ r → SeekAnswers table plan cells u j m w from before after w
ended {table} {plan} {cells} {u} {j} {m} {w} {from} {r} {before} {after} q a h =
    let e : r ≡ w = omega (arith, (a.sought q.slots q.tests q.point q.planned q.shows q.many).high) in
    subst (λ (n : ℕ). SeekAnswers table plan cells u j m w from before after n) e a

-- what it finds, if it stops before
pub found-below : {table plan cells : List ℕ} {u j m w from r : ℕ} {before after : List (List ℤ)} {o : Option ℕ} → SeekAsked table plan cells u j m w from before
    → SeekAnswers table plan cells u j m w from before after r → o ≡ then_some (ltb r w) r
    → SeekAnswers table plan cells u j m w from before after (unwrap_or o w) × IfSome o (λ (k : ℕ). k < w)
found-below {table} {plan} {cells} {u} {j} {m} {w} {from} {r} {before} {after} {o} q a e = go (ltb r w) refl e
  where
    Below : Option ℕ → Type 0
    Below x = SeekAnswers table plan cells u j m w from before after (unwrap_or x w) × IfSome x (λ (k : ℕ). k < w)

    go : (b : Bool) → ltb r w ≡ b → o ≡ then_some b r → Below o
    go true h f = subst Below (sym f) (a, ltb-true r w h)
    go false h f = subst Below (sym f) (ended q a (ltb-false r w h), tt)

-- ---- the numbers of groups

-- the variables of a group have their cells in the slots from `base` on
pub record Group (cells : List ℕ) (base : ℕ) (vs : List Variable) : Type 0 where
  pub each : CellsOf cells base vs

module _ {cells : List ℕ} {base : ℕ} {vs : List Variable} (c : Group cells base vs) where
  abbrev run : List ℕ
  run = upward base (length vs)

  pub group-span : span cells run ≡ binding_count vs
  group-span = span-count cells base vs c.each

  slot-filled : (s : ℕ) → base ≤ s → s < base + length vs → Filled cells s
  slot-filled s l h =
      let e : base + (s - base) ≡ s = omega arith in
      subst (λ (x : ℕ). Filled cells x) e (filled cells base vs c.each (s - base) (omega arith))

  pub bindable : base + length vs ≤ 38 → {k : ℕ} → k < binding_count vs → Bindable cells base (length vs) (binding_count vs) k
  bindable h l = record {
    low = h;
    values = λ s f g. (slot-filled s f g).values;
    some = λ s f g. (slot-filled s f g).some;
    counted = sym group-span;
    inside = l;
  }

  -- a group that is put to its k-th binding has that number
  pub has : (δ : Point) (k : ℕ) → k < binding_count vs → number_of cells run (placed cells run δ k) ≡ k
  has δ k h =
      number-placed cells run δ k (distinct-upward base (length vs)) (group-counts cells base vs c.each) (subst (λ (n : ℕ). k < n) (sym group-span) h)

  -- by the size that a part has of it: the group at one of its bindings, and a search over it
  module _ {g : GroupSize} (e : g ≡ size_of vs) where
    pub put : base + length vs ≤ 38 → {k : ℕ} → k < g.bindings → Bindable cells base g.variables g.bindings k
    put h {k} = subst (λ (z : GroupSize). k < z.bindings → Bindable cells base z.variables z.bindings k) (sym e) (bindable h)

    pub ask : {table plan : List ℕ} {u : ℕ} {P : Point → Bool} → SearchOf table plan cells u run P → binding_count vs ≤ 4096 → {δ : Point} {before : List (List ℤ)}
        → Shows cells δ before → {from : ℕ} → from ≤ g.bindings → SeekAsked table plan cells u 0 g.variables g.bindings from before
    ask {table} {plan} {u} S f {before = before} σ {from} =
        subst (λ (z : GroupSize). from ≤ z.bindings → SeekAsked table plan cells u 0 z.variables z.bindings from before) (sym e)
        (asks S σ (upward-long base (length vs)) group-span (low-enough (binding_count vs) f))

-- and keeps it where a group that has no slot in common with it is put to another
kept-apart : (cells : List ℕ) (a n b m : ℕ) (δ : Point) (k : ℕ) → ((s : ℕ) → b ≤ s → s < b + m → a ≤ s → s < a + n → ⊥)
    → number_of cells (upward a n) (placed cells (upward b m) δ k) ≡ number_of cells (upward a n) δ
kept-apart cells a n b m δ k apart =
    number-apart cells (upward a n) (upward b m) δ (placed cells (upward b m) δ k) (run-apart (outside-run b m apart)) (beside_placed cells (upward b m) δ k)

-- one with higher slots, or with lower ones
pub kept-below : (cells : List ℕ) (a n b m : ℕ) (δ : Point) (k : ℕ) → a + n ≤ b → number_of cells (upward a n) (placed cells (upward b m) δ k) ≡ number_of cells (upward a n) δ
kept-below cells a n b m δ k h = kept-apart cells a n b m δ k (λ s f g i j. omega arith)

pub kept_above : (cells : List ℕ) (a n b m : ℕ) (δ : Point) (k : ℕ) → b + m ≤ a → number_of cells (upward a n) (placed cells (upward b m) δ k) ≡ number_of cells (upward a n) δ
kept_above cells a n b m δ k h = kept-apart cells a n b m δ k (λ s f g i j. omega arith)

-- ---- two groups one behind the other

pub both-few : (n m : ℕ) → n ≤ 64 → m ≤ 4096 → n * m ≤ 2 ^ 18
both-few n m h k = mul-le-mul {n₂ = 64} {m₂ = 4096} h k

module _ {cells : List ℕ} {a b : ℕ} {us vs : List Variable} (c : Group cells a us) (e : Group cells b vs) where
  abbrev first : List ℕ
  first = upward a (length us)

  abbrev second : List ℕ
  second = upward b (length vs)

  pub both_long : length (first ++ second) ≡ length us + length vs
  both_long = length-append first second ∙ ap₂ ◌+◌ (upward-long a (length us)) (upward-long b (length vs))

  pub both_span : span cells (first ++ second) ≡ binding_count us * binding_count vs
  both_span = span-append cells first second ∙ ap₂ ◌*◌ (span-count cells a us c.each) (span-count cells b vs e.each)

  module _ (δ : Point) (k : ℕ) (h : k < binding_count us * binding_count vs) where
    pub both-placed : placed cells (first ++ second) δ k ≡ placed cells second (placed cells first δ (k / binding_count vs)) (k % binding_count vs)
    both-placed =
        placed-append cells first second δ k (group-counts cells a us c.each) (group-counts cells b vs e.each) (subst (λ (n : ℕ). k < n) (sym both_span) h)
        ∙ ap (λ (n : ℕ). placed cells second (placed cells first δ (k / n)) (k % n)) (span-count cells b vs e.each)

    pub first_low : k / binding_count vs < binding_count us
    first_low = (div-lt_iff_lt-mul (bindings-some vs)).1 h

    pub second_low : k % binding_count vs < binding_count vs
    second_low = mod-lt k (bindings-some vs)
