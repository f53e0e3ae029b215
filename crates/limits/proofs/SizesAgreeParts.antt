-- What is claimed of a tree: its size and least fault by numbers are those of the definitions. Terms and predicates one behind the other.
use mathlib.Core.Path.{◌≡◌, refl, ap, ap₂, ◌∙◌, sym}
use mathlib.Core.List.{◌++◌}
use Prim.Native.Nat.{ℕ, suc, ◌+◌}
use native.Mathlib.Omega.{arith}
use lib.Dec.{leb}
use Rattle.refusals.specs.Refusals.{number_of, large_size}
use Rattle.form.specs.Tree.{End, Prefix, negate, size, dom, ran, Operator, plus, minus, union, without, times, inter, Division, quotient, remainder}
use Rattle.form.specs.Tree.{Term, Items, Pairs, Pred}
use Rattle.form.specs.Codes.{Numbering, term_width, pred_width}
use Rattle.static_rules.specs.Limits.{Sized, Sizes, operator_size, prefix_size, division_size, size_term, size_items, size_pairs, size_pred}
use Rattle.type_rules.specs.TypesByNumber.{lesser, least_key}
use Rattle.names.proofs.TypesAgreeLeast.{two-parts, whole-least}
use Rattle.term_sizes.specs.SizesByNumber.{Bounds, prefix_bound, operator_bound, division_bound, term_bound, term_over, items_over, pairs_over, pred_over}
use Rattle.limits.proofs.SizeWidths.{term-next, pred-next}

-- the size n and the least fault f of a term
pub record TermIs (a : Sized) (n f : ℕ) : Type 0 where
  pub least : f ≡ least_key a.faults
  pub bound : n ≡ a.bound

abbrev pub TermHolds : Numbering → Sizes → Bounds → Term → Type 0
TermHolds ρ Γ S t = (i : ℕ) → TermIs (size_term t Γ i) (term_bound t S ρ) (term_over t S ρ i)

abbrev pub ItemsHold : Numbering → Sizes → Bounds → Items → Type 0
ItemsHold ρ Γ S ts = (i : ℕ) → items_over ts S ρ i ≡ least_key (size_items ts Γ i).faults

abbrev pub PairsHold : Numbering → Sizes → Bounds → Pairs → Type 0
PairsHold ρ Γ S ts = (i : ℕ) → pairs_over ts S ρ i ≡ least_key (size_pairs ts Γ i).faults

abbrev pub PredHolds : Numbering → Sizes → Bounds → Pred → Type 0
PredHolds ρ Γ S p = (i : ℕ) → pred_over p S ρ i ≡ least_key (size_pred p Γ i).faults

pub prefix-size : (o : Prefix) (a : ℕ) → prefix_bound o a ≡ prefix_size o a
unfolding prefix_bound
prefix-size negate a = refl
prefix-size size a = refl
prefix-size dom a = refl
prefix-size ran a = refl

pub operator-size : (o : Operator) (a b : ℕ) → operator_bound o a b ≡ operator_size o a b
unfolding operator_bound
operator-size plus a b = refl
operator-size minus a b = refl
operator-size times a b = refl
operator-size union a b = refl
operator-size without a b = refl
operator-size inter a b = refl

pub division-size : (o : Division) (a : ℕ) (e : End) → division_bound o a e.magnitude ≡ division_size o a e
unfolding division_bound
division-size quotient a e = refl
division-size remainder a e = refl

module _ (ρ : Numbering) (Γ : Sizes) (S : Bounds) where
  -- two terms, one behind the other
  pub two-least : (t u : Term) → TermHolds ρ Γ S t → TermHolds ρ Γ S u → (i : ℕ)
      → lesser (term_over t S ρ i) (term_over u S ρ (suc (i + term_width t)))
      ≡ least_key ((size_term t Γ i).faults ++ (size_term u Γ (suc (size_term t Γ i).next)).faults)
  two-least t u a b i =
      two-parts (size_term t Γ i).faults (size_term u Γ (suc (size_term t Γ i).next)).faults (a i).least
      (ap (λ (n : ℕ). term_over u S ρ (suc n)) (sym (term-next t Γ i)) ∙ (b (suc (size_term t Γ i).next)).least)

  third_at : (t u : Term) (i : ℕ) → suc (i + term_width t) + term_width u ≡ (size_term u Γ (suc (size_term t Γ i).next)).next
  third_at t u i = omega (arith, term-next t Γ i, term-next u Γ (suc (size_term t Γ i).next))

  pub three-least : (t u v : Term) → TermHolds ρ Γ S t → TermHolds ρ Γ S u → TermHolds ρ Γ S v → (i : ℕ)
      → lesser (lesser (term_over t S ρ i) (term_over u S ρ (suc (i + term_width t)))) (term_over v S ρ (suc (suc (i + term_width t) + term_width u)))
      ≡ least_key ((size_term t Γ i).faults ++ (size_term u Γ (suc (size_term t Γ i).next)).faults
      ++ (size_term v Γ (suc (size_term u Γ (suc (size_term t Γ i).next)).next)).faults)
  three-least t u v a b c i =
      two-parts ((size_term t Γ i).faults ++ (size_term u Γ (suc (size_term t Γ i).next)).faults)
      (size_term v Γ (suc (size_term u Γ (suc (size_term t Γ i).next)).next)).faults (two-least t u a b i)
      (ap (λ (n : ℕ). term_over v S ρ (suc n)) (third_at t u i) ∙ (c (suc (size_term u Γ (suc (size_term t Γ i).next)).next)).least)

  -- a pair of terms, and the pairs behind it
  pub pairs-least : (t u : Term) (ts : Pairs) → TermHolds ρ Γ S t → TermHolds ρ Γ S u → PairsHold ρ Γ S ts → (i : ℕ)
      → lesser (lesser (term_over t S ρ i) (term_over u S ρ (suc (i + term_width t)))) (pairs_over ts S ρ (suc (suc (i + term_width t) + term_width u)))
      ≡ least_key ((size_term t Γ i).faults ++ (size_term u Γ (suc (size_term t Γ i).next)).faults
      ++ (size_pairs ts Γ (suc (size_term u Γ (suc (size_term t Γ i).next)).next)).faults)
  pairs-least t u ts a b c i =
      two-parts ((size_term t Γ i).faults ++ (size_term u Γ (suc (size_term t Γ i).next)).faults)
      (size_pairs ts Γ (suc (size_term u Γ (suc (size_term t Γ i).next)).next)).faults (two-least t u a b i)
      (ap (λ (n : ℕ). pairs_over ts S ρ (suc n)) (third_at t u i) ∙ c (suc (size_term u Γ (suc (size_term t Γ i).next)).next))

  -- a term, and the items behind it
  pub items-least : (t : Term) (ts : Items) → TermHolds ρ Γ S t → ItemsHold ρ Γ S ts → (i : ℕ)
      → lesser (term_over t S ρ i) (items_over ts S ρ (suc (i + term_width t)))
      ≡ least_key ((size_term t Γ i).faults ++ (size_items ts Γ (suc (size_term t Γ i).next)).faults)
  items-least t ts a b i =
      two-parts (size_term t Γ i).faults (size_items ts Γ (suc (size_term t Γ i).next)).faults (a i).least
      (ap (λ (n : ℕ). items_over ts S ρ (suc n)) (sym (term-next t Γ i)) ∙ b (suc (size_term t Γ i).next))

  pub preds-least : (p q : Pred) → PredHolds ρ Γ S p → PredHolds ρ Γ S q → (i : ℕ)
      → lesser (pred_over p S ρ i) (pred_over q S ρ (suc (i + pred_width p)))
      ≡ least_key ((size_pred p Γ i).faults ++ (size_pred q Γ (suc (size_pred p Γ i).next)).faults)
  preds-least p q a b i =
      two-parts (size_pred p Γ i).faults (size_pred q Γ (suc (size_pred p Γ i).next)).faults (a i)
      (ap (λ (n : ℕ). pred_over q S ρ (suc n)) (sym (pred-next p Γ i)) ∙ b (suc (size_pred p Γ i).next))

  binary-size : (o : Operator) (t u : Term) → TermHolds ρ Γ S t → TermHolds ρ Γ S u → (i : ℕ)
      → operator_bound o (term_bound t S ρ) (term_bound u S ρ) ≡ operator_size o (size_term t Γ i).bound (size_term u Γ (suc (size_term t Γ i).next)).bound
  binary-size o t u a b i =
      ap₂ (operator_bound o) (a i).bound (b (suc (size_term t Γ i).next)).bound
      ∙ operator-size o (size_term t Γ i).bound (size_term u Γ (suc (size_term t Γ i).next)).bound

  pub binary-holds : (o : Operator) (t u : Term) → TermHolds ρ Γ S t → TermHolds ρ Γ S u → TermHolds ρ Γ S (Term.binary o t u)
  unfolding size_term term_bound term_over number_of
  binary-holds o t u a b i =
      record {
        least =
            whole-least (leb (operator_bound o (term_bound t S ρ) (term_bound u S ρ)) 2147483647)
            (leb (operator_size o (size_term t Γ i).bound (size_term u Γ (suc (size_term t Γ i).next)).bound) 2147483647) (i + term_width t) (size_term t Γ i).next large_size
            (lesser (term_over t S ρ i) (term_over u S ρ (suc (i + term_width t))))
            ((size_term t Γ i).faults ++ (size_term u Γ (suc (size_term t Γ i).next)).faults) (two-least t u a b i) (term-next t Γ i)
            (λ e. ap (λ (n : ℕ). leb n 2147483647) (binary-size o t u a b i));
        bound = binary-size o t u a b i;
      }
