-- One term of each form: its number and least fault are those of its type and faults, if that holds of its parts.
use mathlib.Core.Path.{◌≡◌, refl, ap, ap₂, ◌∙◌, sym, subst}
use mathlib.Core.Bool.{Bool}
use mathlib.Core.List.{List, [], ◌++◌}
use mathlib.Core.Option.{some}
use Prim.Native.Nat.{ℕ, suc, ◌+◌, ◌≤◌}
use native.Mathlib.Omega.{arith}
use native.Mathlib.Numerals.{add-one}
use lib.Dec.{ltb}
use lib.ListN.{length}
use Rattle.lexical.specs.Symbols.{Name, no_ending}
use Rattle.refusals.specs.Refusals.{Fault, fault, number_of, types_misfit}
use Rattle.form.specs.Tree.{Letters, End, given_set, Prefix, Operator, Division, Term, number, name, group, prefix, binary, divided, listed, pairs, such, empty_set, empty_pairs, Items, only, also, Pairs, only_pair, also_pair, Pred}
use Rattle.form.specs.Codes.{Numbering, name_number, number_of_name, sign_of, term_width}
use Rattle.declared_names.specs.StaticRulesCarriers.{given_of}
use Rattle.declared_names.specs.StaticRulesTypes as ty
use Rattle.declared_names.specs.StaticRulesTypes.{Ty, has, brace_fits, pairs_type}
use Rattle.declared_names.specs.StaticRulesScope.{Scope, type_of_name, binding}
use Rattle.declared_names.specs.StaticRulesNames.{Listing, Checked, whole, known, new_name, divisor_faults, pairs_fault, whole_pairs, domain_carrier, judge_term, judge_items, judge_pairs, judge_pred}
use Rattle.type_rules.specs.TypesByNumber as inner
use Rattle.type_rules.specs.TypesByNumber.{Names, Sizes, entry, key, unless_key, judged_key, inside_key, lesser, is_free, is_given, is_number, is_element, domain_kind, domain_key, over_key, bound, least_key}
use Rattle.type_rules.specs.TypesByNumber.{term_kind, items_kind, pairs_kind, term_key, items_key, pairs_key, pred_key}
use Rattle.names.proofs.ReachTables.{type_code, Known, known_number, known_pairs, TypeIs, Numbered, Shows}
use Rattle.names.proofs.TypesAgreeLeast.{least-nil, two-parts, lesser-assoc, whole-least, inside-least}
use Rattle.names.proofs.TypesAgreeTypes.{is-number, prefix-fits, prefix-type, operator-fits}
use Rattle.names.proofs.TypesAgreeBraces.{CommonPairs, items-only, items-also, brace-fits, brace-type, pairs-only, pairs-also, pairs-type}
use Rattle.names.proofs.TypesAgreeParts.{TermHolds, ItemsHold, PairsHold, PredHolds, term-next, divisor-least, whole-pairs-fit, name-is, set-over, pairs-over}
use Rattle.names.proofs.TypesAgreeBinders.{given-view, known-least, over-least, binder-least, judged-inside, brace-least}
use Rattle.refusals.proofs.FaultLists.{append_nil-both}
use Rattle.declared_names.proofs.StaticRulesFaultless.{inside-nil, whole-nil}

-- terms one behind the other
module _ (ρ : Numbering) (z : Sizes) (Γ : Scope) (T : Names) where
  pub two-least : (t u : Term) → TermHolds ρ z Γ T t → TermHolds ρ z Γ T u → (i : ℕ)
      → lesser (term_key t T ρ z i) (term_key u T ρ z (suc (i + term_width t)))
      ≡ least_key ((judge_term t Γ i).faults ++ (judge_term u Γ (suc (judge_term t Γ i).next)).faults)
  two-least t u a b i =
      two-parts (judge_term t Γ i).faults (judge_term u Γ (suc (judge_term t Γ i).next)).faults (a i).least
      (ap (λ (n : ℕ). term_key u T ρ z (suc n)) (sym (term-next t Γ i)) ∙ (b (suc (judge_term t Γ i).next)).least)

  pub third_at : (t u : Term) (i : ℕ) → (judge_term u Γ (suc (judge_term t Γ i).next)).next ≡ suc (i + term_width t) + term_width u
  third_at t u i = omega (arith, term-next t Γ i, term-next u Γ (suc (judge_term t Γ i).next))

  -- a whole of two terms, at its operator
  pub two-whole : (t u : Term) → TermHolds ρ z Γ T t → TermHolds ρ z Γ T u → (ok : ℕ → ℕ → Bool) (fits : Ty → Ty → Bool)
      → ((v w : Ty) → Known Γ.givens v → Known Γ.givens w → ok (type_code Γ.givens v) (type_code Γ.givens w) ≡ fits v w) → (i : ℕ)
      → judged_key (ok (term_kind t T ρ) (term_kind u T ρ)) (key (i + term_width t) 10) (lesser (term_key t T ρ z i) (term_key u T ρ z (suc (i + term_width t))))
      ≡ least_key (whole (fits (judge_term t Γ i).type (judge_term u Γ (suc (judge_term t Γ i).next)).type) (fault (judge_term t Γ i).next types_misfit)
      ((judge_term t Γ i).faults ++ (judge_term u Γ (suc (judge_term t Γ i).next)).faults))
  unfolding number_of
  two-whole t u a b ok fits f i =
      whole-least (ok (term_kind t T ρ) (term_kind u T ρ)) (fits (judge_term t Γ i).type (judge_term u Γ (suc (judge_term t Γ i).next)).type) (i + term_width t)
      (judge_term t Γ i).next types_misfit (lesser (term_key t T ρ z i) (term_key u T ρ z (suc (i + term_width t))))
      ((judge_term t Γ i).faults ++ (judge_term u Γ (suc (judge_term t Γ i).next)).faults) (two-least t u a b i) (term-next t Γ i)
      (λ e. let h = append_nil-both (judge_term t Γ i).faults (judge_term u Γ (suc (judge_term t Γ i).next)).faults e in
      let v = (a i).typed h.0 in let w = (b (suc (judge_term t Γ i).next)).typed h.1 in
      ap₂ ok v.0 w.0 ∙ f (judge_term t Γ i).type (judge_term u Γ (suc (judge_term t Γ i).next)).type v.1 w.1)

  -- a whole of a term that must be a number and what stands behind it
  pub number-whole : length Γ.givens ≤ 8 → (t : Term) → TermHolds ρ z Γ T t → (i n : ℕ) (fs : List Fault)
      → lesser (term_key t T ρ z i) n ≡ least_key ((judge_term t Γ i).faults ++ fs)
      → judged_key (is_number (term_kind t T ρ)) (key (i + term_width t) 10) (lesser (term_key t T ρ z i) n)
      ≡ least_key (whole (has (judge_term t Γ i).type ty.is_number) (fault (judge_term t Γ i).next types_misfit) ((judge_term t Γ i).faults ++ fs))
  unfolding number_of
  number-whole few t a i n fs h =
      whole-least (is_number (term_kind t T ρ)) (has (judge_term t Γ i).type ty.is_number) (i + term_width t) (judge_term t Γ i).next types_misfit
      (lesser (term_key t T ρ z i) n) ((judge_term t Γ i).faults ++ fs) h (term-next t Γ i)
      (λ e. let w = (a i).typed (append_nil-both (judge_term t Γ i).faults fs e).0 in ap is_number w.0 ∙ is-number Γ.givens few w.1)

module _ (ρ : Numbering) (P : Letters → Type 0) (ν : Numbered ρ P) (z : Sizes) (Γ : Scope) (T : Names) (s : Shows ρ P Γ T z) where
  pub number-holds : (n : ℕ) → TermHolds ρ z Γ T (number n)
  unfolding judge_term term_kind term_key
  number-holds n i = record { least = sym least-nil; typed = λ e. (refl, known_number) }

  pub name-holds : (x : Name) → P x.letters → TermHolds ρ z Γ T (name x)
  unfolding judge_term term_kind term_key
  name-holds x px i = name-is Γ.givens s.few (type_of_name Γ x) (entry T (name_number ρ x)) i (s.typed x px)

  pub group-holds : (t : Term) → TermHolds ρ z Γ T t → TermHolds ρ z Γ T (group t)
  unfolding judge_term term_kind term_key
  group-holds t a i = record { least = (a (suc i)).least; typed = (a (suc i)).typed }

  pub prefix_holds : (o : Prefix) (t : Term) → TermHolds ρ z Γ T t → TermHolds ρ z Γ T (prefix o t)
  unfolding judge_term term_kind term_key number_of
  prefix_holds o t a i =
      record {
        least =
            whole-least (inner.prefix_fits o (term_kind t T ρ)) (ty.prefix_fits o (judge_term t Γ (suc i)).type) i i types_misfit (term_key t T ρ z (suc i)) (judge_term t Γ (suc i)).faults
            (a (suc i)).least refl (λ e. let w = (a (suc i)).typed e in ap (inner.prefix_fits o) w.0 ∙ prefix-fits Γ.givens s.few o w.1);
        typed =
            λ e. let h = whole-nil (ty.prefix_fits o (judge_term t Γ (suc i)).type) (fault i types_misfit) (judge_term t Γ (suc i)).faults e in
            let w = (a (suc i)).typed h.0 in let v = prefix-type Γ.givens s.few o w.1 h.1 in
            (ap (inner.prefix_type o) w.0 ∙ v.0, v.1);
      }

  pub binary-holds : (o : Operator) (t u : Term) → TermHolds ρ z Γ T t → TermHolds ρ z Γ T u → TermHolds ρ z Γ T (binary o t u)
  unfolding judge_term term_kind term_key
  binary-holds o t u a b i =
      record {
        least = two-whole ρ z Γ T t u a b (inner.operator_fits o) (ty.operator_fits o) (λ v w. operator-fits Γ.givens s.few o) i;
        typed =
            λ e. (a i).typed (append_nil-both (judge_term t Γ i).faults (judge_term u Γ (suc (judge_term t Γ i).next)).faults
            (whole-nil (ty.operator_fits o (judge_term t Γ i).type (judge_term u Γ (suc (judge_term t Γ i).next)).type) (fault (judge_term t Γ i).next types_misfit)
            ((judge_term t Γ i).faults ++ (judge_term u Γ (suc (judge_term t Γ i).next)).faults) e).0).0;
      }

  pub divided-holds : (o : Division) (t : Term) (e : End) → TermHolds ρ z Γ T t → TermHolds ρ z Γ T (divided o t e)
  unfolding judge_term term_kind term_key
  divided-holds o t e a i =
      record {
        least =
            number-whole ρ z Γ T s.few t a i (unless_key (ltb 0 e.magnitude) (key (i + term_width t + 1 + sign_of e.negative) 14)) (divisor_faults e (suc (judge_term t Γ i).next))
            (two-parts (judge_term t Γ i).faults (divisor_faults e (suc (judge_term t Γ i).next)) (a i).least
            (divisor-least e (judge_term t Γ i).next (i + term_width t) (term-next t Γ i)));
        typed = λ h. (refl, known_number);
      }

  pub only-holds : (t : Term) → TermHolds ρ z Γ T t → ItemsHold ρ z Γ T (only t)
  unfolding judge_term term_kind term_key
  only-holds t a i = record { least = (a i).least; typed = λ e. items-only Γ.givens s.few ((a i).typed e) }

  pub also-holds : (t : Term) (ts : Items) → TermHolds ρ z Γ T t → ItemsHold ρ z Γ T ts → ItemsHold ρ z Γ T (also t ts)
  unfolding judge_term term_kind term_key
  also-holds t ts a b i =
      let j : ℕ = suc (judge_term t Γ i).next in
      record {
        least =
            two-parts (judge_term t Γ i).faults (judge_items ts Γ j).faults (a i).least (ap (λ (n : ℕ). items_key ts T ρ z (suc n)) (sym (term-next t Γ i)) ∙ (b j).least);
        typed =
            λ e. let h = append_nil-both (judge_term t Γ i).faults (judge_items ts Γ j).faults e in
            items-also Γ.givens s.few ((a i).typed h.0) ((b j).typed h.1);
      }

  pub only-pair-holds : (t u : Term) → TermHolds ρ z Γ T t → TermHolds ρ z Γ T u → PairsHold ρ z Γ T (only_pair t u)
  unfolding judge_term term_kind term_key
  only-pair-holds t u a b i =
      let j : ℕ = suc (judge_term t Γ i).next in
      record {
        least = two-least ρ z Γ T t u a b i;
        typed =
            λ e. let h = append_nil-both (judge_term t Γ i).faults (judge_term u Γ j).faults e in pairs-only Γ.givens s.few ((a i).typed h.0) ((b j).typed h.1);
      }

  pub also-pair-holds : (t u : Term) (ts : Pairs) → TermHolds ρ z Γ T t → TermHolds ρ z Γ T u → PairsHold ρ z Γ T ts → PairsHold ρ z Γ T (also_pair t u ts)
  unfolding judge_term term_kind term_key
  also-pair-holds t u ts a b c i =
      let j : ℕ = suc (judge_term t Γ i).next in
      let m : ℕ = suc (judge_term u Γ j).next in
      record {
        least =
            two-parts ((judge_term t Γ i).faults ++ (judge_term u Γ j).faults) (judge_pairs ts Γ m).faults (two-least ρ z Γ T t u a b i)
            (ap (λ (n : ℕ). pairs_key ts T ρ z (suc n)) (sym (third_at ρ z Γ T t u i)) ∙ (c m).least);
        typed =
            λ e. let h = append_nil-both ((judge_term t Γ i).faults ++ (judge_term u Γ j).faults) (judge_pairs ts Γ m).faults e in
            let k = append_nil-both (judge_term t Γ i).faults (judge_term u Γ j).faults h.0 in
            pairs-also Γ.givens s.few ((a i).typed k.0) ((b j).typed k.1) ((c m).typed h.1);
      }

  pub listed-holds : (ts : Items) → ItemsHold ρ z Γ T ts → TermHolds ρ z Γ T (listed ts)
  unfolding judge_term term_kind term_key number_of
  listed-holds ts a i =
      let l : Listing Ty = judge_items ts Γ (suc i) in
      record {
        least =
            whole-least (is_element (items_kind ts T ρ)) (brace_fits l.types) i i types_misfit (items_key ts T ρ z (suc i)) l.faults (a (suc i)).least refl
            (λ e. brace-fits Γ.givens s.few ((a (suc i)).typed e));
        typed =
            λ e. let h = whole-nil (brace_fits l.types) (fault i types_misfit) l.faults e in brace-type Γ.givens s.few ((a (suc i)).typed h.0) h.1;
      }

  pairs-typed : (ts : List (Ty × Ty)) (k i : ℕ) → CommonPairs Γ.givens ts k → whole_pairs Γ.givens ts i ≡ [] → TypeIs Γ.givens (some (pairs_type ts)) k
  pairs-typed ts k i c e =
      let w = pairs-type Γ.givens s.few c (whole-pairs-fit Γ.givens ts i e) in
      subst (λ (t : Ty). TypeIs Γ.givens (some t) k) (sym w.type_is) (w.number_is, known_pairs w.left_in w.right_in)

  pub pairs-holds : (ts : Pairs) → PairsHold ρ z Γ T ts → TermHolds ρ z Γ T (pairs ts)
  unfolding judge_term term_kind term_key
  pairs-holds ts a i =
      let l : Listing (Ty × Ty) = judge_pairs ts Γ (suc i) in
      record {
        least =
            inside-least (pairs_key ts T ρ z (suc i)) (inner.brace_key z (pairs_kind ts T ρ) i) l.faults (whole_pairs Γ.givens l.types i) (a (suc i)).least
            (λ e. brace-least ρ P Γ T z s l.types (pairs_kind ts T ρ) i ((a (suc i)).typed e)) ∙ sym (ap least_key (judged-inside Γ.givens l i));
        typed =
            λ e. let h = inside-nil l.faults (whole_pairs Γ.givens l.types i) (sym (judged-inside Γ.givens l i) ∙ e) in
            pairs-typed l.types (pairs_kind ts T ρ) i ((a (suc i)).typed h.0) h.1;
      }

  pub such-holds : (x : Letters) (g : Name) (p : Pred) → P x → P g.letters
      → (Shows ρ P (binding Γ x (domain_carrier Γ (given_set g))) (bound T (number_of_name ρ x no_ending) (domain_kind (given_set g) T ρ)) z
      → PredHolds ρ z (binding Γ x (domain_carrier Γ (given_set g))) (bound T (number_of_name ρ x no_ending) (domain_kind (given_set g) T ρ)) p)
      → TermHolds ρ z Γ T (such x g p)
  unfolding judge_term term_kind term_key domain_kind domain_key
  such-holds x g p px pg f i =
      let b : Checked = judge_pred p (binding Γ x (domain_carrier Γ (given_set g))) (i + 5) in
      record {
        least =
            ap (λ (n : ℕ). inside_key (lesser (unless_key (is_free (entry T (number_of_name ρ x no_ending))) (key n 8)) (domain_key (given_set g) T ρ (i + 3)))
            (pred_key p (bound T (number_of_name ρ x no_ending) (domain_kind (given_set g) T ρ)) ρ z (i + 5))) (add-one i)
            ∙ binder-least ρ P ν Γ T z s x px (given_set g) pg (suc i) (i + 3) b.faults (pred_key p (bound T (number_of_name ρ x no_ending) (domain_kind (given_set g) T ρ)) ρ z (i + 5))
            (λ w. f w (i + 5));
        typed =
            λ e. let h = (inside-nil (new_name Γ.taken x (suc i) ++ known (given_of Γ.givens g) (i + 3)) b.faults e).0 in
            set-over Γ.givens z s.few (i + 3) (given-view ρ P Γ T z s g pg) (append_nil-both (new_name Γ.taken x (suc i)) (known (given_of Γ.givens g) (i + 3)) h).1;
      }

  pub empty-set-holds : (g : Name) → P g.letters → TermHolds ρ z Γ T (empty_set g)
  unfolding judge_term term_kind term_key
  empty-set-holds g pg i =
      record {
        least =
            ap (λ (n : ℕ). unless_key (is_given (entry T (name_number ρ g))) (key n 9)) (add-one i) ∙ known-least Γ.givens z (suc i) (given-view ρ P Γ T z s g pg);
        typed = λ e. set-over Γ.givens z s.few (suc i) (given-view ρ P Γ T z s g pg) e;
      }

  pub empty-pairs-holds : (g h : Name) → P g.letters → P h.letters → TermHolds ρ z Γ T (empty_pairs g h)
  unfolding judge_term term_kind term_key
  empty-pairs-holds g h pg ph i =
      let v = given-view ρ P Γ T z s g pg in let w = given-view ρ P Γ T z s h ph in
      let a : List Fault = known (given_of Γ.givens g) (suc i) in let b : List Fault = known (given_of Γ.givens h) (i + 2) in
      let c : List Fault = pairs_fault (given_of Γ.givens g) (given_of Γ.givens h) i in
      record {
        least =
            ap (λ (n : ℕ). lesser (unless_key (is_given (entry T (name_number ρ g))) (key n 9))
            (lesser (unless_key (is_given (entry T (name_number ρ h))) (key (i + 2) 9)) (over_key z (entry T (name_number ρ g)) (entry T (name_number ρ h)) i))) (add-one i)
            ∙ sym (lesser-assoc _ _ _)
            ∙ two-parts (a ++ b) c
            (two-parts a b (known-least Γ.givens z (suc i) v) (known-least Γ.givens z (i + 2) w))
            (over-least Γ.givens z i v w);
        typed =
            λ e. let k = append_nil-both a b (append_nil-both (a ++ b) c e).0 in pairs-over Γ.givens z s.few (suc i) (i + 2) v w k.0 k.1;
      }
