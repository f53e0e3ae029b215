-- What is claimed of a tree: its table by numbers is the one by the definitions, where it has no faults. Parts one behind the other.
use mathlib.Core.Path.{◌≡◌, refl, ap, ap₂, ◌∙◌, sym}
use mathlib.Core.Bool.{Bool, true, ◌&&◌, false≢true}
use mathlib.Core.List.{List, [], ◌∷◌, ◌++◌}
use Prim.Native.Nat.{ℕ, suc, ◌+◌}
use lib.ListN.{length, set}
use Rattle.lexical.specs.Kinds.{code_of}
use Rattle.lexical.specs.Lists.{all}
use Rattle.refusals.specs.Refusals.{Fault, fault, types_misfit}
use Rattle.lexical.specs.Symbols.{Name, no_ending}
use Rattle.form.specs.Tree.{Letters, End, Range, Domain, given_set, range, Prefix, Operator, Division, Connective, Quantifier, Comparison, Membership}
use Rattle.form.specs.Tree.{Term, prefix, binary, divided, listed, pairs, such, Items, also, Pairs, only_pair, also_pair, Pred, quantified, connected, compared, member, within, related}
use Rattle.form.specs.Written.{prefix_kind, operator_kind, connective_kind, quantifier_kind, comparison_kind, membership_kind}
use Rattle.form.specs.Codes.{Numbering, node, number_of_name, sign_of, division_number}
use Rattle.static_rules.specs.Carriers.{plain, given_of}
use Rattle.static_rules.specs.Types as ty
use Rattle.static_rules.specs.Types.{Ty, has, same_type, pairs_fit}
use Rattle.static_rules.specs.Scope.{Scope, binding}
use Rattle.static_rules.specs.Names.{Listing, whole, whole_pairs, known, new_name, divisor_faults, range_faults, domain_faults, domain_carrier, domain_length, judge_term, judge_items, judge_pairs, judge_pred}
use Rattle.type_rules.specs.TypesByNumber.{Names, Sizes, bound, domain_kind}
use Rattle.names.proofs.ReachTables.{Numbered, Shows, RangeIn, DomainIn, TermIn}
use Rattle.names.proofs.TypesAgreeParts.{whole-pairs-fit}
use Rattle.names.proofs.TypesAgreeBinders.{judged-inside, bound-shows}
use Rattle.table_nodes.specs.TableByNumber as table
use Rattle.table_nodes.specs.TableByNumber.{Places, next_slot, related_shape}
use Rattle.table_places.specs.ResolvedTable as resolved
use Rattle.table_places.specs.ResolvedTable.{Slots}
use Rattle.tables.proofs.TableAgreesSizes.{domain_resolved, first-side, second-side, element-side}
use Rattle.refusals.proofs.FaultLists.{append_nil-both}
use Rattle.static_rules.proofs.Faultless.{inside-nil, whole-nil}
use Rattle.std.proofs.lemmas.Bool.{and_parts}
use Rattle.lexical.proofs.BooleanTests.{all-parts, all-more}
use Rattle.static_rules.proofs.SameTypes.{same-type}

-- ---- parts one behind the other: where each begins is told by the lengths of those before ----

pub two-parts : {a a' : List ℕ} {f f' : ℕ → List ℕ} (g : ℕ → ℕ → List ℕ) {m m' : ℕ} (p : ℕ) → a ≡ a' → ((q : ℕ) → f q ≡ f' q) → m ≡ m'
    → a ++ (f (p + length a) ++ g (p + length a) m) ≡ a' ++ (f' (p + length a') ++ g (p + length a') m')
two-parts {a' = a'} {f = f} g {m = m} p d e h =
    ap (λ (x : List ℕ). x ++ (f (p + length x) ++ g (p + length x) m)) d
    ∙ ap₂ (λ (y : List ℕ) (n : ℕ). a' ++ (y ++ g (p + length a') n)) (e (p + length a')) h

pub three-parts : {a a' : List ℕ} {b b' c c' : ℕ → List ℕ} (g : ℕ → ℕ → ℕ → List ℕ) {m m' : ℕ} (p : ℕ)
    → a ≡ a' → ((q : ℕ) → b q ≡ b' q) → ((q : ℕ) → c q ≡ c' q) → m ≡ m'
    → a ++ (b (p + length a) ++ (c (p + length a + length (b (p + length a))) ++ g (p + length a) m (p + length a + length (b (p + length a)))))
    ≡ a' ++ (b' (p + length a') ++ (c' (p + length a' + length (b' (p + length a'))) ++ g (p + length a') m' (p + length a' + length (b' (p + length a')))))
three-parts {a' = a'} {b = b} {c = c} g {m = m} p d e f h =
    ap (λ (x : List ℕ). x ++ (b (p + length x) ++ (c (p + length x + length (b (p + length x))) ++ g (p + length x) m (p + length x + length (b (p + length x)))))) d
    ∙ ap (λ (y : List ℕ). a' ++ y)
    (two-parts (λ (q n : ℕ). g (p + length a') n q) (p + length a') (e (p + length a')) f h)

-- ---- what is claimed of a term, the items of a brace, its pairs, a predicate ----

-- the second sides of pairs are elements
abbrev pub Elements : List (Ty × Ty) → Type 0
Elements ts = all (λ (t : Ty × Ty). has t.1 ty.is_element) ts ≡ true

abbrev pub TermResolved : Numbering → Sizes → Scope → Names → Slots → Places → ℕ → Term → Type 0
TermResolved ρ z Γ T W' W s t = (i : ℕ) → (judge_term t Γ i).faults ≡ [] → (q : ℕ) → table.term_table t T W z ρ s q ≡ resolved.term_table t Γ W' s q

abbrev pub ItemsResolved : Numbering → Sizes → Scope → Names → Slots → Places → ℕ → Items → Type 0
ItemsResolved ρ z Γ T W' W s ts = (i : ℕ) → (judge_items ts Γ i).faults ≡ [] → (q : ℕ) → table.items_table ts T W z ρ s q ≡ resolved.items_table ts Γ W' s q

abbrev pub PairsResolved : Numbering → Sizes → Scope → Names → Slots → Places → ℕ → Pairs → Type 0
PairsResolved ρ z Γ T W' W s ts =
    (i : ℕ) → (judge_pairs ts Γ i).faults ≡ [] → Elements (judge_pairs ts Γ i).types → (q : ℕ) → table.pairs_table ts T W z ρ s q ≡ resolved.pairs_table ts Γ W' s q

abbrev pub PredResolved : Numbering → Sizes → Scope → Names → Slots → Places → ℕ → Pred → Type 0
PredResolved ρ z Γ T W' W s p = (i : ℕ) → (judge_pred p Γ i).faults ≡ [] → (q : ℕ) → table.pred_table p T W z ρ s q ≡ resolved.pred_table p Γ W' s q

-- ---- braces of pairs ----

all_from : {A : Type 0} (f g : A → Bool) → ((x : A) → f x ≡ true → g x ≡ true) → (xs : List A) → all f xs ≡ true → all g xs ≡ true
unfolding all
all_from f g h [] e = refl
all_from f g h (x ∷ xs) e = let k = all-parts f x xs e in all-more g x xs (h x k.0) (all_from f g h xs k.1)

-- pairs that fit have elements on their second sides
fit-elements : (ts : List (Ty × Ty)) → pairs_fit ts ≡ true → Elements ts
unfolding pairs_fit
fit-elements [] e = absurd (false≢true e)
fit-elements (t ∷ ts) e =
    let h = and_parts (has t.0 ty.is_element && has t.1 ty.is_element) (all (λ (u : Ty × Ty). same_type t.0 u.0 && same_type t.1 u.1) ts) e in
    let k = and_parts (has t.0 ty.is_element) (has t.1 ty.is_element) h.0 in
    all-more (λ (u : Ty × Ty). has u.1 ty.is_element) t ts k.1
    (all_from (λ (u : Ty × Ty). same_type t.0 u.0 && same_type t.1 u.1) (λ (u : Ty × Ty). has u.1 ty.is_element)
    (λ u q. ap (λ (v : Ty). has v ty.is_element) (sym (same-type t.1 u.1 (and_parts (same_type t.0 u.0) (same_type t.1 u.1) q).1)) ∙ k.1) ts h.1)

-- ---- no faults in the whole: none in the parts ----

two-nil : (fits : Bool) (f : Fault) (xs ys : List Fault) → whole fits f (xs ++ ys) ≡ [] → (xs ≡ []) × (ys ≡ [])
two-nil fits f xs ys e = append_nil-both xs ys (whole-nil fits f (xs ++ ys) e).0

module _ (ρ : Numbering) (P : Letters → Type 0) (ν : Numbered ρ P) (z : Sizes) (Γ : Scope) (T : Names) (sh : Shows ρ P Γ T z) (W' : Slots) (W : Places) (s : ℕ) where
  -- two terms, one behind the other, and a node with where the second one begins
  two-terms : (t u : Term) → TermResolved ρ z Γ T W' W s t → TermResolved ρ z Γ T W' W s u → (g : ℕ → ℕ → List ℕ) {m m' : ℕ} → m ≡ m' → (i : ℕ)
      → (judge_term t Γ i).faults ≡ [] → (judge_term u Γ (suc (judge_term t Γ i).next)).faults ≡ [] → (q : ℕ)
      → table.term_table t T W z ρ s q
      ++ (table.term_table u T W z ρ s (q + length (table.term_table t T W z ρ s q)) ++ g (q + length (table.term_table t T W z ρ s q)) m)
      ≡ resolved.term_table t Γ W' s q
      ++ (resolved.term_table u Γ W' s (q + length (resolved.term_table t Γ W' s q)) ++ g (q + length (resolved.term_table t Γ W' s q)) m')
  two-terms t u a b g e i h k q =
      two-parts {f = λ (n : ℕ). table.term_table u T W z ρ s n} {f' = λ (n : ℕ). resolved.term_table u Γ W' s n} g q (a i h q) (b (suc (judge_term t Γ i).next) k) e

  pub prefix-resolved : (o : Prefix) (t : Term) → TermIn P t → TermResolved ρ z Γ T W' W s t → TermResolved ρ z Γ T W' W s (prefix o t)
  unfolding judge_term table.term_table resolved.term_table
  prefix-resolved o t h a i e q =
      let n = (whole-nil (ty.prefix_fits o (judge_term t Γ (suc i)).type) (fault i types_misfit) (judge_term t Γ (suc i)).faults e).0 in
      ap₂ (λ (x y : List ℕ). x ++ y) (a (suc i) n q)
      (ap₂ (λ (m n : ℕ). node 3 m (code_of (prefix_kind o)) n) (first-side ρ P Γ T z sh ν t h (suc i) n) (second-side ρ P Γ T z sh ν t h (suc i) n))

  pub binary-resolved : (o : Operator) (t u : Term) → TermResolved ρ z Γ T W' W s t → TermResolved ρ z Γ T W' W s u → TermResolved ρ z Γ T W' W s (binary o t u)
  unfolding judge_term table.term_table resolved.term_table
  binary-resolved o t u a b i e q =
      let j : ℕ = suc (judge_term t Γ i).next in
      let h = two-nil (ty.operator_fits o (judge_term t Γ i).type (judge_term u Γ j).type) (fault (judge_term t Γ i).next types_misfit)
      (judge_term t Γ i).faults (judge_term u Γ j).faults e in
      two-terms t u a b (λ (n m : ℕ). node 5 n (code_of (operator_kind o)) m) {m = 0} refl i h.0 h.1 q

  pub divided-resolved : (o : Division) (t : Term) (d : End) → TermResolved ρ z Γ T W' W s t → TermResolved ρ z Γ T W' W s (divided o t d)
  unfolding judge_term table.term_table resolved.term_table
  divided-resolved o t d a i e q =
      let h = two-nil (has (judge_term t Γ i).type ty.is_number) (fault (judge_term t Γ i).next types_misfit)
      (judge_term t Γ i).faults (divisor_faults d (suc (judge_term t Γ i).next)) e in
      ap (λ (x : List ℕ). x ++ node 4 0 d.magnitude (sign_of d.negative + division_number o)) (a i h.0 q)

  pub listed-resolved : (ts : Items) → ItemsResolved ρ z Γ T W' W s ts → TermResolved ρ z Γ T W' W s (listed ts)
  unfolding judge_term table.term_table resolved.term_table
  listed-resolved ts a i e q =
      let l : Listing Ty = judge_items ts Γ (suc i) in
      let n = (whole-nil (ty.brace_fits l.types) (fault i types_misfit) l.faults e).0 in
      ap (λ (x : List ℕ). x ++ node 7 0 0 0) (a (suc i) n q)

  pub pairs-resolved : (ts : Pairs) → PairsResolved ρ z Γ T W' W s ts → TermResolved ρ z Γ T W' W s (pairs ts)
  unfolding judge_term table.term_table resolved.term_table
  pairs-resolved ts a i e q =
      let l : Listing (Ty × Ty) = judge_pairs ts Γ (suc i) in
      let h = inside-nil l.faults (whole_pairs Γ.givens l.types i) (sym (judged-inside Γ.givens l i) ∙ e) in
      ap (λ (x : List ℕ). x ++ node 8 0 0 0) (a (suc i) h.0 (fit-elements l.types (whole-pairs-fit Γ.givens l.types i h.1)) q)

  pub such-resolved : (x : Letters) (g : Name) (p : Pred) → P x → P g.letters
      → (Shows ρ P (binding Γ x (domain_carrier Γ (given_set g))) (bound T (number_of_name ρ x no_ending) (domain_kind (given_set g) T ρ)) z
      → PredResolved ρ z (binding Γ x (domain_carrier Γ (given_set g))) (bound T (number_of_name ρ x no_ending) (domain_kind (given_set g) T ρ))
      ((plain x, s) ∷ W') (set W (number_of_name ρ x no_ending) s) (next_slot s) p)
      → TermResolved ρ z Γ T W' W s (such x g p)
  unfolding judge_term table.term_table resolved.term_table domain_kind
  such-resolved x g p px pg f i e q =
      let b : List Fault = (judge_pred p (binding Γ x (domain_carrier Γ (given_set g))) (i + 5)).faults in
      let h = inside-nil (new_name Γ.taken x (suc i) ++ known (given_of Γ.givens g) (i + 3)) b e in
      let w = bound-shows ρ P ν Γ T z sh x px (given_set g) pg (suc i) (i + 3) h.0 in
      ap₂ (λ (x y : List ℕ). x ++ (y ++ node 6 0 s 0)) (f w (i + 5) h.1 q)
      (domain_resolved ρ P Γ T z sh (given_set g) pg (i + 3) (append_nil-both (new_name Γ.taken x (suc i)) (known (given_of Γ.givens g) (i + 3)) h.0).1)

  pub also-resolved : (t : Term) (ts : Items) → TermResolved ρ z Γ T W' W s t → ItemsResolved ρ z Γ T W' W s ts → ItemsResolved ρ z Γ T W' W s (also t ts)
  unfolding judge_term table.term_table resolved.term_table
  also-resolved t ts a b i e q =
      let j : ℕ = suc (judge_term t Γ i).next in
      let h = append_nil-both (judge_term t Γ i).faults (judge_items ts Γ j).faults e in
      two-parts {f = λ (n : ℕ). table.items_table ts T W z ρ s n} {f' = λ (n : ℕ). resolved.items_table ts Γ W' s n} (λ (n m : ℕ). node 10 n 0 m) {m = 0} q
      (a i h.0 q) (b j h.1) refl

  pub only-pair-resolved : (t u : Term) → TermIn P u → TermResolved ρ z Γ T W' W s t → TermResolved ρ z Γ T W' W s u → PairsResolved ρ z Γ T W' W s (only_pair t u)
  unfolding judge_term table.term_table resolved.term_table
  only-pair-resolved t u k a b i e f q =
      let j : ℕ = suc (judge_term t Γ i).next in
      let h = append_nil-both (judge_term t Γ i).faults (judge_term u Γ j).faults e in
      let d = all-parts (λ (v : Ty × Ty). has v.1 ty.is_element) ((judge_term t Γ i).type, (judge_term u Γ j).type) [] f in
      two-terms t u a b (λ (n m : ℕ). node 11 n m 0) (element-side ρ P Γ T z sh ν u k j h.1 d.0) i h.0 h.1 q

  pub also-pair-resolved : (t u : Term) (ts : Pairs) → TermIn P u → TermResolved ρ z Γ T W' W s t → TermResolved ρ z Γ T W' W s u → PairsResolved ρ z Γ T W' W s ts
      → PairsResolved ρ z Γ T W' W s (also_pair t u ts)
  unfolding judge_term table.term_table resolved.term_table
  also-pair-resolved t u ts k a b c i e f q =
      let j : ℕ = suc (judge_term t Γ i).next in
      let l : ℕ = suc (judge_term u Γ j).next in
      let h = append_nil-both ((judge_term t Γ i).faults ++ (judge_term u Γ j).faults) (judge_pairs ts Γ l).faults e in
      let n = append_nil-both (judge_term t Γ i).faults (judge_term u Γ j).faults h.0 in
      let d = all-parts (λ (v : Ty × Ty). has v.1 ty.is_element) ((judge_term t Γ i).type, (judge_term u Γ j).type) (judge_pairs ts Γ l).types f in
      three-parts {b = λ (n : ℕ). table.term_table u T W z ρ s n} {b' = λ (n : ℕ). resolved.term_table u Γ W' s n}
      {c = λ (n : ℕ). table.pairs_table ts T W z ρ s n} {c' = λ (n : ℕ). resolved.pairs_table ts Γ W' s n} (λ (n m o : ℕ). node 12 n m o) q
      (a i n.0 q) (b j n.1) (c l h.1 d.1) (element-side ρ P Γ T z sh ν u k j n.1 d.0)

  -- ---- predicates ----

  pub connected-resolved : (o : Connective) (p r : Pred) → PredResolved ρ z Γ T W' W s p → PredResolved ρ z Γ T W' W s r → PredResolved ρ z Γ T W' W s (connected o p r)
  unfolding judge_pred table.pred_table resolved.pred_table
  connected-resolved o p r a b i e q =
      let j : ℕ = suc (judge_pred p Γ i).next in
      let h = append_nil-both (judge_pred p Γ i).faults (judge_pred r Γ j).faults e in
      two-parts {f = λ (n : ℕ). table.pred_table r T W z ρ s n} {f' = λ (n : ℕ). resolved.pred_table r Γ W' s n} (λ (n m : ℕ). node 18 n (code_of (connective_kind o)) m) {m = 0} q
      (a i h.0 q) (b j h.1) refl

  pub compared-resolved : (o : Comparison) (t u : Term) → TermResolved ρ z Γ T W' W s t → TermResolved ρ z Γ T W' W s u → PredResolved ρ z Γ T W' W s (compared o t u)
  unfolding judge_pred table.pred_table resolved.pred_table
  compared-resolved o t u a b i e q =
      let j : ℕ = suc (judge_term t Γ i).next in
      let h = two-nil (ty.comparison_fits o (judge_term t Γ i).type (judge_term u Γ j).type) (fault (judge_term t Γ i).next types_misfit)
      (judge_term t Γ i).faults (judge_term u Γ j).faults e in
      two-terms t u a b (λ (n m : ℕ). node 19 n (code_of (comparison_kind o)) m) {m = 0} refl i h.0 h.1 q

  pub member-resolved : (o : Membership) (t u : Term) → TermResolved ρ z Γ T W' W s t → TermResolved ρ z Γ T W' W s u → PredResolved ρ z Γ T W' W s (member o t u)
  unfolding judge_pred table.pred_table resolved.pred_table
  member-resolved o t u a b i e q =
      let j : ℕ = suc (judge_term t Γ i).next in
      let h = two-nil (ty.member_fits (judge_term t Γ i).type (judge_term u Γ j).type) (fault (judge_term t Γ i).next types_misfit)
      (judge_term t Γ i).faults (judge_term u Γ j).faults e in
      two-terms t u a b (λ (n m : ℕ). node 20 n (code_of (membership_kind o)) m) {m = 0} refl i h.0 h.1 q

  pub within-resolved : (o : Membership) (t : Term) (r : Range) → RangeIn r → TermResolved ρ z Γ T W' W s t → PredResolved ρ z Γ T W' W s (within o t r)
  unfolding judge_pred table.pred_table resolved.pred_table
  within-resolved o t r k a i e q =
      let h = two-nil (has (judge_term t Γ i).type ty.is_number) (fault (judge_term t Γ i).next types_misfit)
      (judge_term t Γ i).faults (range_faults r (suc (judge_term t Γ i).next)) e in
      ap₂ (λ (x y : List ℕ). x ++ (y ++ node 21 0 (code_of (membership_kind o)) 0)) (a i h.0 q)
      (domain_resolved ρ P Γ T z sh (range r) k (suc (judge_term t Γ i).next) h.1)

  pub related-resolved : (o : Membership) (t u v : Term) → TermIn P u → TermResolved ρ z Γ T W' W s t → TermResolved ρ z Γ T W' W s u → TermResolved ρ z Γ T W' W s v
      → PredResolved ρ z Γ T W' W s (related o t u v)
  unfolding judge_pred table.pred_table resolved.pred_table ty.related_fits
  related-resolved o t u v k a b c i e q =
      let j : ℕ = suc (judge_term t Γ i).next in
      let l : ℕ = suc (judge_term u Γ j).next in
      let w = whole-nil (ty.related_fits (judge_term t Γ i).type (judge_term u Γ j).type (judge_term v Γ l).type) (fault (judge_term u Γ j).next types_misfit)
      ((judge_term t Γ i).faults ++ (judge_term u Γ j).faults ++ (judge_term v Γ l).faults) e in
      let h = append_nil-both ((judge_term t Γ i).faults ++ (judge_term u Γ j).faults) (judge_term v Γ l).faults w.0 in
      let n = append_nil-both (judge_term t Γ i).faults (judge_term u Γ j).faults h.0 in
      let d = and_parts (has (judge_term t Γ i).type ty.is_element) (has (judge_term u Γ j).type ty.is_element)
      (and_parts (has (judge_term t Γ i).type ty.is_element && has (judge_term u Γ j).type ty.is_element)
      (same_type (ty.pairs_of_types (judge_term t Γ i).type (judge_term u Γ j).type) (judge_term v Γ l).type) w.1).0 in
      three-parts {b = λ (n : ℕ). table.term_table u T W z ρ s n} {b' = λ (n : ℕ). resolved.term_table u Γ W' s n}
      {c = λ (n : ℕ). table.term_table v T W z ρ s n} {c' = λ (n : ℕ). resolved.term_table v Γ W' s n} (λ (n m p : ℕ). node (related_shape o) n m p) q
      (a i n.0 q) (b j n.1) (c l h.1) (element-side ρ P Γ T z sh ν u k j n.1 d.1)

  pub quantified-resolved : (y : Quantifier) (x : Letters) (t : Domain) (p : Pred) → P x → DomainIn P t
      → (Shows ρ P (binding Γ x (domain_carrier Γ t)) (bound T (number_of_name ρ x no_ending) (domain_kind t T ρ)) z
      → PredResolved ρ z (binding Γ x (domain_carrier Γ t)) (bound T (number_of_name ρ x no_ending) (domain_kind t T ρ))
      ((plain x, s) ∷ W') (set W (number_of_name ρ x no_ending) s) (next_slot s) p)
      → PredResolved ρ z Γ T W' W s (quantified y x t p)
  unfolding judge_pred table.pred_table resolved.pred_table
  quantified-resolved y x t p px pt f i e q =
      let j : ℕ = suc (i + 4 + domain_length t) in
      let h = inside-nil (new_name Γ.taken x (i + 2) ++ domain_faults Γ t (i + 4)) (judge_pred p (binding Γ x (domain_carrier Γ t)) j).faults e in
      let w = bound-shows ρ P ν Γ T z sh x px t pt (i + 2) (i + 4) h.0 in
      ap₂ (λ (a b : List ℕ). a ++ (b ++ node 24 0 s (code_of (quantifier_kind y)))) (f w j h.1 q)
      (domain_resolved ρ P Γ T z sh t pt (i + 4) (append_nil-both (new_name Γ.taken x (i + 2)) (domain_faults Γ t (i + 4)) h.0).1)
