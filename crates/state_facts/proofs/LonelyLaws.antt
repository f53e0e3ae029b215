-- States that no state of the other side is related to: a walk over the bindings of the other side that stops at the first that is related. Assumes nothing.
-- Form 8: a law for each side; what the two share is `unmet`, and left is which side's bindings are walked.
use mathlib.Core.Path.{◌≡◌, sym, ap, subst}
use mathlib.Core.Bool.{Bool, true, false, not}
use mathlib.Core.List.{List, []}
use Prim.Native.Nat.{ℕ, ◌<◌}
use native.Mathlib.Omega.{arith}
use Rattle.std.specs.Prelude.{MatchBool}
use Rattle.std.specs.List.{range_with_len, AllWithin, HoldsAt}
use Rattle.std.proofs.lemmas.List.FromFn.{length-range_with_len, get_or-range_with_len}
use lib.ListN.{get_or, length}
use Rattle.lexical.specs.Lists.{any}
use Rattle.form.specs.Tree.{Dossier}
use Rattle.meaning.specs.Meaning.{Binding}
use Rattle.meaning.specs.Bindings.{Among}
use Rattle.meaning.specs.Operations.{abstract_bindings, concrete_bindings, related}
use Rattle.meaning.proofs.Places.{member-at, place-of}
use Rattle.meaning.proofs.Members.{any-put, none_any}
use Rattle.plans.specs.declared.Part.{Part}
use Rattle.part_places.specs.PartTestsPartsByNumber.{abstract_at, concrete_at}
use Rattle.state_facts.specs.Reads.{related_at, unrelated_concrete, unrelated_abstract}
use Rattle.state_facts.specs.Reads.{StatesRead, TestIs}
use Rattle.state_facts.proofs.SearchLaws.{abstracts, concretes}

-- ---- over all places of a list

some-passes : (g : Binding → Bool) (xs : List Binding) (k : ℕ) → k < length xs → g (get_or xs k []) ≡ true → false ≡ not (any g xs)
some-passes g xs k h e = sym (ap not (any-put g (get_or xs k []) xs (member-at xs k [] h) e))

none_passes : (g : Binding → Bool) (xs : List Binding) → ((k : ℕ) → k < length xs → g (get_or xs k []) ≡ false) → true ≡ not (any g xs)
none_passes g xs h = sym (ap not (none_any g xs each))
  where
    each : (x : Binding) → Among x xs → g x ≡ false
    each x m = let t = place-of x xs [] m in subst (λ (b : Binding). g b ≡ false) t.2 (h t.0 t.1)

-- a walk over the numbers below n that stops at the first that passes
abbrev pub Walked : (f : ℕ → Bool) (n : ℕ) → Bool → Type 0
Walked f n r = MatchBool r ((k : ℕ) × (k < length (range_with_len 0 n)) × HoldsAt (λ i. f i ≡ true) (range_with_len 0 n) k) (AllWithin (λ i. f i ≡ false) (range_with_len 0 n) 0 (length (range_with_len 0 n)))

passes_at : (f : ℕ → Bool) (n : ℕ) → Walked f n true → (k : ℕ) × (k < n) × (f k ≡ true)
passes_at f n w =
    let l : w.0 < n = omega (arith, w.1, length-range_with_len 0 n) in
    (w.0, l, subst (λ i. f i ≡ true) {x = get_or (range_with_len 0 n) w.0 0} {y = w.0} (omega (arith, get_or-range_with_len 0 n w.0 0 l)) (w.2 0))

passes_nowhere : (f : ℕ → Bool) (n : ℕ) → Walked f n false → (k : ℕ) → k < n → f k ≡ false
passes_nowhere f n w k l =
    subst (λ i. f i ≡ false) {x = get_or (range_with_len 0 n) k 0} {y = k} (omega (arith, get_or-range_with_len 0 n k 0 l))
    (w k 0 (omega arith) (omega (arith, length-range_with_len 0 n)))

-- over the places of all of them
unmet : (g : Binding → Bool) (xs : List Binding) {n : ℕ} → n ≡ length xs → (r : Bool) → Walked (λ (k : ℕ). g (get_or xs k [])) n r → not r ≡ not (any g xs)
unmet g xs {n} e false w = none_passes g xs (λ i l. passes_nowhere (λ k. g (get_or xs k [])) n w i (subst (λ (m : ℕ). i < m) (sym e) l))
unmet g xs {n} e true w = let h = passes_at (λ k. g (get_or xs k [])) n w in some-passes g xs h.0 (subst (λ (m : ℕ). h.0 < m) e h.1) h.2

module _ {table rows firsts cells : List ℕ} {p : Part} where
  -- ---- one that is related, or none

  pub unmet-concrete : {c : ℕ} (r : Bool) → ((d : Dossier) → StatesRead table rows firsts cells p d → Walked (λ (a : ℕ). related_at d a c) p.meeting.bindings r)
      → TestIs table rows firsts cells p unrelated_concrete c (not r)
  unmet-concrete {c} r w = record { means = λ d R. unmet (λ (b : Binding). related d b (concrete_at d c)) (abstract_bindings d) (abstracts R) r (w d R) }

  pub unmet-abstract : {a : ℕ} (r : Bool) → ((d : Dossier) → StatesRead table rows firsts cells p d → Walked (λ (c : ℕ). related_at d a c) p.concretes.bindings r)
      → TestIs table rows firsts cells p unrelated_abstract a (not r)
  unmet-abstract {a} r w = record { means = λ d R. unmet (λ (b : Binding). related d (abstract_at d a) b) (concrete_bindings d) (concretes R) r (w d R) }
