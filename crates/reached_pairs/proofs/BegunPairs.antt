-- The first layer: pairs of initial states, by the searches for concrete initial states and for the abstract ones that are related to them. Assumes nothing.
use mathlib.Core.Path.{◌≡◌, refl, sym, ap, ap₂, subst, ◌∙◌}
use mathlib.Core.Bool.{true, false, true≢false}
use mathlib.Core.List.{List}
use Prim.Native.Nat.{ℕ, ◌+◌, ◌*◌, ◌<◌, ◌≤◌}
use native.Mathlib.Nat.{div-add-mod', mul-le-mul}
use native.Mathlib.Omega.{arith}
use lib.Arith.{digits_div, digits_mod}
use borrow.Author.Rules.{rules}
use Rattle.std.specs.Prelude.{Option, Some, None, IfSome}
use Rattle.form.specs.Tree.{Dossier}
use Rattle.plans.specs.declared.Part.{Part}
use Rattle.step_searches.specs.ReadingsReadings.{ReadingOf}
use Rattle.step_searches.specs.PartTestsPartsByNumber.{abstract_at, initial, initial_match}
use Rattle.step_searches.proofs.FoundOpenings.{sizes}
use Rattle.step_searches.proofs.PartSizes.{opening-nm-is, opening-nc-is}
use Rattle.step_searches.specs.StepPromises.{OpeningSearches, Opened, InitialStateFound, InitialMatchFound}
use Rattle.reached_pairs.specs.declared.marks.Mark.{Mark}
use Rattle.reached_pairs.specs.Reached.{first_mark, layer_of, layer_in}
use Rattle.reached_pairs.specs.ReachedByNumber.{many_abstract, many_concrete, many_pairs, abstract_of, concrete_of, MayBegin, Begins, Grown, Hits, Marked, Cleared}
use Rattle.reached_pairs.specs.PairPromises.{PairsAre, open_test, BegunWith, MatchesBegun, MatchesBeginning, StatesBegun, StatesBeginning, Begun, Layers, ReachAnswers}
use Rattle.reached_pairs.proofs.PairNumbers.{high_digit, low_digit, pair_inside}
use Rattle.reached_pairs.proofs.GrownMarks.{grown_wider, scan-start, scan-next, scan-done}
use Rattle.reached_pairs.proofs.NextLayer.{layered-first}

module _ {table plan cells : List ℕ} {p : Part} {d : Dossier} (S : OpeningSearches table plan cells p d) where
  pub open-pairs : p.meeting.bindings * p.concretes.bindings ≡ many_pairs d
  open-pairs = ap₂ ◌*◌ (opening-nm-is S) (opening-nc-is S)

  pub open-small : p.meeting.bindings * p.concretes.bindings ≤ 16777216
  open-small = mul-le-mul {n₂ = 4096} {m₂ = 4096} (sizes S).1.1 (sizes S).0.1

-- ---- abstract initial states

module _ (d : Dossier) (c : ℕ) where
  begun-here : (x : ℕ) → c < many_concrete d → x < many_abstract d → open_test d c x ≡ true → BegunWith d c (x * many_concrete d + c)
  begun-here x lc lx h = record {
    inside = pair_inside x c (many_abstract d) (many_concrete d) lx lc;
    concrete_is = digits_mod x lc;
    matched = subst (λ (z : ℕ). open_test d c z ≡ true) (sym (digits_div x lc)) h;
  }

  begun-found : (na nc : ℕ) → na ≡ many_abstract d → nc ≡ many_concrete d → (y : ℕ) → BegunWith d c y → Hits (open_test d c) (λ (x z : ℕ). z ≡ x * nc + c) na y
  begun-found na nc ea ec y w = record {
    number = abstract_of d y;
    low = omega (arith, ea, high_digit y (many_abstract d) (many_concrete d) w.inside);
    hit = w.matched;
    there = sym (div-add-mod' y (many_concrete d)) ∙ ap₂ (λ (n k : ℕ). abstract_of d y * n + k) (sym ec) w.concrete_is;
  }

  with-begins : (y : ℕ) → initial d c ≡ true → BegunWith d c y → Begins d y
  with-begins y h w = record {
    inside = w.inside;
    starts = ap (initial d) w.concrete_is ∙ h;
    matched = ap (λ (k : ℕ). initial_match d k (abstract_at d (abstract_of d y))) w.concrete_is ∙ w.matched;
  }

module _ {table plan cells : List ℕ} {p : Part} {c : ℕ} {m : Mark} where
  pub open-start : {x : ℕ} (a : List Mark) → InitialMatchFound table plan cells p c 0 x → MatchesBeginning table plan cells p c m x a a
  open-start {x = x} a f = record {
    found = λ d S. (f.sought d S).found;
    each = λ d S. scan-start (open_test d c) (λ (x z : ℕ). z ≡ x * p.concretes.bindings + c) p.meeting.bindings x a (f.sought d S);
  }

  pub open_next : {x t : ℕ} {a b e : List Mark} → MatchesBeginning table plan cells p c m x a b → c < p.concretes.bindings → x < p.meeting.bindings → Marked (x * p.concretes.bindings + c) m b e
      → InitialMatchFound table plan cells p c (x + 1) t → MatchesBeginning table plan cells p c m t a e
  open_next {x = x} {t = t} w l h g f = record {
    found = λ d S. (f.sought d S).found;
    each = λ d S. scan-next (open_test d c) (λ (x z : ℕ). z ≡ x * p.concretes.bindings + c) p.meeting.bindings x t (w.each d S)
        (grown_wider (λ (z : ℕ). z ≡ x * p.concretes.bindings + c) g (λ y v z k. (k.1, subst (BegunWith d c) (sym k.0) (here d S))) (λ y k. k))
        (f.sought d S);
  }
    where
      here : (d : Dossier) → OpeningSearches table plan cells p d → BegunWith d c (x * p.concretes.bindings + c)
      here d S =
          subst (λ (n : ℕ). BegunWith d c (x * n + c)) (sym (opening-nc-is S))
          (begun-here d c x (omega (arith, opening-nc-is S, l)) (omega (arith, opening-nm-is S, h)) (w.found d S h))

  pub open_done : {x : ℕ} {a b : List Mark} → MatchesBeginning table plan cells p c m x a b → p.meeting.bindings ≤ x → MatchesBegun table plan cells p c m a b
  open_done {x = x} w h = record {
    each = λ d S. grown_wider (BegunWith d c) (scan-done (open_test d c) (λ (x z : ℕ). z ≡ x * p.concretes.bindings + c) p.meeting.bindings x (w.each d S) h) (λ y v z k. k)
        (begun-found d c p.meeting.bindings p.concretes.bindings (opening-nm-is S) (opening-nc-is S));
  }

-- ---- concrete initial states

module _ {table plan cells : List ℕ} {p : Part} where
  pub states-start : {c : ℕ} (a : List Mark) → InitialStateFound table plan cells p 0 c → StatesBeginning table plan cells p c a a
  states-start {c = c} a f = record {
    found = λ d S. (f.sought d S).found;
    each = λ d S. scan-start (initial d) (BegunWith d) p.concretes.bindings c a (f.sought d S);
  }

  pub states-next : {c t : ℕ} {a b e : List Mark} → StatesBeginning table plan cells p c a b → c < p.concretes.bindings → MatchesBegun table plan cells p c first_mark b e
      → InitialStateFound table plan cells p (c + 1) t → StatesBeginning table plan cells p t a e
  states-next {c = c} {t = t} w h g f = record {
    found = λ d S. (f.sought d S).found;
    each = λ d S. scan-next (initial d) (BegunWith d) p.concretes.bindings c t (w.each d S)
        (grown_wider (BegunWith d c) (g.each d S) (λ y v z k. record { layer_is = ap layer_of k.0; begins = with-begins d c y (w.found d S h) k.1 }) (λ y k. k))
        (f.sought d S);
  }

  pub states-done : {c : ℕ} {a b : List Mark} → StatesBeginning table plan cells p c a b → p.concretes.bindings ≤ c → StatesBegun table plan cells p a b
  states-done {c = c} w h = record {
    each = λ d S. grown_wider (Begins d) (scan-done (initial d) (BegunWith d) p.concretes.bindings c (w.each d S) h) (λ y v z k. k) (λ y k. found d S y k);
  }
    where
      found : (d : Dossier) → OpeningSearches table plan cells p d → (y : ℕ) → Begins d y → Hits (initial d) (BegunWith d) p.concretes.bindings y
      found d S y k = record {
        number = concrete_of d y;
        low = omega (arith, opening-nc-is S, low_digit y (many_abstract d) (many_concrete d) k.inside);
        hit = k.starts;
        there = record { inside = k.inside; concrete_is = refl; matched = k.matched };
      }

-- ---- the first layer

some_none : {n : ℕ} → Some n ≡ None → ⊥
some_none e = search (e, rules)

module _ {table rows firsts groups : List ℕ} where
  pub begun-none : (a : List Mark) → Begun table rows firsts groups a a None
  begun-none a = record { none = λ e. refl; pairs = tt; each = tt }

  pub begun_all : {plan cells : List ℕ} {p : Part} {a b : List Mark} → Opened table rows firsts groups plan cells p → p.meeting.bindings * p.concretes.bindings ≤ 262144
      → StatesBegun table plan cells p a b → Begun table rows firsts groups a b (Some (p.meeting.bindings * p.concretes.bindings))
  begun_all f l w = record {
    none = λ e. absurd (some_none e);
    pairs = record { room = l; are = λ d R. open-pairs (f.searches d R) };
    each = λ d R. w.each d (f.searches d R);
  }

  pub begun-pairs : {r : Option ℕ} {n : ℕ} {b c : List Mark} → Begun table rows firsts groups b c r → r ≡ Some n → PairsAre table rows firsts groups n
  begun-pairs w e = subst (λ (o : Option ℕ). IfSome o (PairsAre table rows firsts groups)) e w.pairs

  pub begun-layers : {operations n : ℕ} {r : Option ℕ} {a b c : List Mark} → Cleared a b → Begun table rows firsts groups b c r → r ≡ Some n
      → Layers table rows firsts groups operations 1 c
  begun-layers {n = n} {b = b} {c = c} k w e = record {
    each = λ d R h. layered-first d b c k.each
        (subst (λ (o : Option ℕ). IfSome o (λ (n : ℕ). (d : Dossier) → ReadingOf table rows firsts groups d → Grown (MayBegin d) (Begins d) b c)) e w.each d R);
  }

  -- without a mark nothing is said
  pub begun-blank : {operations : ℕ} {r : Option ℕ} {a b c : List Mark} → Cleared a b → Begun table rows firsts groups b c r → r ≡ None → ReachAnswers table rows firsts groups operations c false
  begun-blank {b = b} {c = c} k w e = record {
    each = λ d R h. record {
      reached = λ x z n lx lz m. absurd (omega (arith, m, blank (x * many_concrete d + z)));
      shortest = λ x z n lx lz m. absurd (omega (arith, m, blank (x * many_concrete d + z)));
      all = λ t. absurd (true≢false (sym t));
    };
  }
    where
      blank : (y : ℕ) → layer_in c y ≡ 0
      blank y = ap (λ (l : List Mark). layer_in l y) (w.none e) ∙ ap layer_of (k.each y)
