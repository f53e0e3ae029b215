-- Where the declarations at the beginning of some nodes end, and where a predicate does: the ends of the items that the parser's walk goes over.
use mathlib.Core.Path.{◌≡◌, refl, ap, sym, ◌∙◌, subst}
use mathlib.Core.List.{List, [], ◌∷◌, ◌++◌}
use Prim.Native.Nat.{ℕ, ◌+◌}
use native.Mathlib.Nat.{zero-add}
use native.Mathlib.Omega.{arith}
use lib.ListN.{length, take, length-append}
use lib.Seq.{take-length}
use Rattle.form.specs.Codes.{Numbering, type_width, type_codes, condition_codes}
use Rattle.parser.specs.Sections.{size_of, size_at, Run, RunsTo, Skips}
use Rattle.parser.proofs.ItemNodes.{Split, split-length, Items, none, more, items-run, type-length, condition-size, condition-long}
use Rattle.declared_names.specs.NamesByNumber.{Typed, typed_codes}
use Rattle.declared_names.specs.PassPromises.{DeclaredEnd, PredicateEnd}

typed-items : (i : ℕ) (xs : List Typed) (ρ : Numbering) → Items 6 6 (typed_codes i xs ρ)
unfolding typed_codes size_of
typed-items i [] ρ = none
typed-items i (x ∷ xs) ρ =
    more {k = 6} (type_codes x.type (i + 2) ρ) (omega arith) (omega arith) (ap (λ (n : ℕ). 4 + n) (type-length x.type (i + 2) ρ)) (typed-items (i + 3 + type_width x.type) xs ρ)

pub declared-run : (code : List ℕ) (r : ℕ) → RunsTo code (length code) 6 6 0 r → DeclaredEnd code r
declared-run code r t =
    record {
      within = t.within;
      right =
          λ xs i ρ rest e other.
          let s : Split code 0 (typed_codes i xs ρ ++ rest) = record { front = []; whole = e; long = refl } in
          let w = items-run {n = 0} (typed-items i xs ρ) rest s (λ l u v. other (omega (arith, u, v))) in
          t.exact _ (subst (λ (l : List ℕ). Run l (length code) 6 6 0 (0 + length (typed_codes i xs ρ))) (sym (take-length code)) w) ∙ zero-add _;
    }

pub predicate-skip : (code : List ℕ) (r : ℕ) → Skips code (length code) 0 r → PredicateEnd code r
predicate-skip code r k =
    record {
      within = k.within;
      right =
          λ p i ρ rest e.
          let s : Split code 0 (condition_codes i p ρ ++ rest) = record { front = []; whole = e; long = refl } in
          let z : size_at (take (length code) code) 0 ≡ length (condition_codes i p ρ) = ap (λ (l : List ℕ). size_at l 0) (take-length code) ∙ condition-size rest i p ρ s in
          let l = split-length s in
          let n = length-append (condition_codes i p ρ) rest in
          let m = condition-long i p ρ in
          k.exact (omega arith) (omega arith) ∙ (zero-add _ ∙ z);
    }
