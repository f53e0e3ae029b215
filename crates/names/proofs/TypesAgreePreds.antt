-- One predicate of each form: its least fault is that of the definitions, if that holds of its parts.
use mathlib.Core.Path.{◌≡◌, ap, ap₂, ◌∙◌, sym}
use mathlib.Core.List.{List, ◌++◌}
use Prim.Native.Nat.{ℕ, suc, ◌+◌}
use native.Mathlib.Omega.{arith}
use Rattle.lexical.specs.Symbols.{no_ending}
use Rattle.refusals.specs.Refusals.{Fault, number_of, types_misfit}
use Rattle.form.specs.Tree.{Letters, Range, Domain, range, Connective, Quantifier, Comparison, Membership, Term, Pred, truth, falsity, negation, paren, quantified, connected, compared, member, within, related}
use Rattle.form.specs.Codes.{Numbering, number_of_name, term_width, domain_width}
use Rattle.declared_names.specs.StaticRulesTypes as ty
use Rattle.declared_names.specs.StaticRulesScope.{Scope, binding}
use Rattle.declared_names.specs.StaticRulesNames.{range_faults, domain_carrier, domain_length, judge_term, judge_pred}
use Rattle.type_rules.specs.TypesByNumber as inner
use Rattle.type_rules.specs.TypesByNumber.{Names, Sizes, lesser, domain_kind, domain_key, bound, term_kind, term_key, pred_key}
use Rattle.names.proofs.ReachTables.{RangeIn, DomainIn, Numbered, Shows}
use Rattle.names.proofs.TypesAgreeLeast.{least-nil, two-parts, whole-least}
use Rattle.names.proofs.TypesAgreeWidths.{domain-width}
use Rattle.names.proofs.TypesAgreeTypes.{comparison-fits, member-fits, related-fits}
use Rattle.names.proofs.TypesAgreeBinders.{domain-least, binder-least}
use Rattle.names.proofs.TypesAgreeParts.{TermHolds, PredHolds, term-next, pred-next}
use Rattle.names.proofs.TypesAgreeTerms.{two-least, third_at, two-whole, number-whole}
use Rattle.refusals.proofs.FaultLists.{append_nil-both}

module _ (ρ : Numbering) (P : Letters → Type 0) (ν : Numbered ρ P) (z : Sizes) (Γ : Scope) (T : Names) (s : Shows ρ P Γ T z) where
  pub truth-holds : PredHolds ρ z Γ T truth
  unfolding judge_pred pred_key
  truth-holds i = sym least-nil

  pub falsity-holds : PredHolds ρ z Γ T falsity
  unfolding judge_pred pred_key
  falsity-holds i = sym least-nil

  pub negation-holds : (p : Pred) → PredHolds ρ z Γ T p → PredHolds ρ z Γ T (negation p)
  unfolding judge_pred pred_key
  negation-holds p a i = a (suc i)

  pub paren-holds : (p : Pred) → PredHolds ρ z Γ T p → PredHolds ρ z Γ T (paren p)
  unfolding judge_pred pred_key
  paren-holds p a i = a (suc i)

  pub connected-holds : (o : Connective) (p q : Pred) → PredHolds ρ z Γ T p → PredHolds ρ z Γ T q → PredHolds ρ z Γ T (connected o p q)
  unfolding judge_pred pred_key
  connected-holds o p q a b i =
      let j : ℕ = suc (judge_pred p Γ i).next in
      two-parts (judge_pred p Γ i).faults (judge_pred q Γ j).faults (a i) (ap (λ (n : ℕ). pred_key q T ρ z (suc n)) (sym (pred-next p Γ i)) ∙ b j)

  pub compared-holds : (o : Comparison) (t u : Term) → TermHolds ρ z Γ T t → TermHolds ρ z Γ T u → PredHolds ρ z Γ T (compared o t u)
  unfolding judge_pred pred_key
  compared-holds o t u a b i = two-whole ρ z Γ T t u a b (inner.comparison_fits o) (ty.comparison_fits o) (λ v w. comparison-fits Γ.givens s.few o) i

  pub member-holds : (o : Membership) (t u : Term) → TermHolds ρ z Γ T t → TermHolds ρ z Γ T u → PredHolds ρ z Γ T (member o t u)
  unfolding judge_pred pred_key
  member-holds o t u a b i = two-whole ρ z Γ T t u a b inner.member_fits ty.member_fits (λ v w. member-fits Γ.givens s.few) i

  pub within-holds : (o : Membership) (t : Term) (r : Range) → RangeIn r → TermHolds ρ z Γ T t → PredHolds ρ z Γ T (within o t r)
  unfolding judge_pred pred_key
  within-holds o t r h a i =
      let j : ℕ = suc (judge_term t Γ i).next in
      number-whole ρ z Γ T s.few t a i (domain_key (range r) T ρ (suc (i + term_width t))) (range_faults r j)
      (two-parts (judge_term t Γ i).faults (range_faults r j) (a i).least
      (ap (λ (n : ℕ). domain_key (range r) T ρ (suc n)) (sym (term-next t Γ i)) ∙ domain-least ρ P Γ T z s (range r) h j))

  pub related-holds : (o : Membership) (t u v : Term) → TermHolds ρ z Γ T t → TermHolds ρ z Γ T u → TermHolds ρ z Γ T v → PredHolds ρ z Γ T (related o t u v)
  unfolding judge_pred pred_key number_of
  related-holds o t u v a b c i =
      let j : ℕ = suc (judge_term t Γ i).next in
      let m : ℕ = suc (judge_term u Γ j).next in
      let xs : List Fault = (judge_term t Γ i).faults ++ (judge_term u Γ j).faults in
      whole-least (inner.related_fits (term_kind t T ρ) (term_kind u T ρ) (term_kind v T ρ)) (ty.related_fits (judge_term t Γ i).type (judge_term u Γ j).type (judge_term v Γ m).type)
      (suc (i + term_width t) + term_width u) (judge_term u Γ j).next types_misfit
      (lesser (lesser (term_key t T ρ z i) (term_key u T ρ z (suc (i + term_width t)))) (term_key v T ρ z (suc (suc (i + term_width t) + term_width u)))) (xs ++ (judge_term v Γ m).faults)
      (two-parts ((judge_term t Γ i).faults ++ (judge_term u Γ j).faults) (judge_term v Γ m).faults (two-least ρ z Γ T t u a b i)
      (ap (λ (n : ℕ). term_key v T ρ z (suc n)) (sym (third_at ρ z Γ T t u i)) ∙ (c m).least))
      (third_at ρ z Γ T t u i)
      (λ e. let h = append_nil-both xs (judge_term v Γ m).faults e in let k = append_nil-both (judge_term t Γ i).faults (judge_term u Γ j).faults h.0 in
      let d = (a i).typed k.0 in let f = (b j).typed k.1 in let g = (c m).typed h.1 in
      ap₂ (λ (k l : ℕ). inner.related_fits k l (term_kind v T ρ)) d.0 f.0 ∙ ap (inner.related_fits _ _) g.0 ∙ related-fits Γ.givens s.few d.1 f.1 g.1)

  pub quantified-holds : (q : Quantifier) (x : Letters) (t : Domain) (p : Pred) → P x → DomainIn P t
      → (Shows ρ P (binding Γ x (domain_carrier Γ t)) (bound T (number_of_name ρ x no_ending) (domain_kind t T ρ)) z
      → PredHolds ρ z (binding Γ x (domain_carrier Γ t)) (bound T (number_of_name ρ x no_ending) (domain_kind t T ρ)) p)
      → PredHolds ρ z Γ T (quantified q x t p)
  unfolding judge_pred pred_key
  quantified-holds q x t p px pt f i =
      let j : ℕ = suc (i + 4 + domain_length t) in
      binder-least ρ P ν Γ T z s x px t pt (i + 2) (i + 4) (judge_pred p (binding Γ x (domain_carrier Γ t)) j).faults
      (pred_key p (bound T (number_of_name ρ x no_ending) (domain_kind t T ρ)) ρ z (i + 5 + domain_width t))
      (λ w. let e : i + 5 + domain_width t ≡ j = omega (arith, domain-width t) in
      ap (pred_key p (bound T (number_of_name ρ x no_ending) (domain_kind t T ρ)) ρ z) e ∙ f w j)
