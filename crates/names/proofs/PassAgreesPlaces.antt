-- The faults of a tree lie within its symbols.
use mathlib.Core.Bool.{Bool, true, false, cond}
use mathlib.Core.List.{List, [], ◌∷◌, ◌++◌}
use mathlib.Core.Option.{Option, none, some}
use Prim.Native.Nat.{ℕ, suc, ◌+◌, ◌≤◌, ◌<◌}
use native.Mathlib.Omega.{arith}
use Rattle.refusals.specs.Refusals.{Fault, fault, unless, name_in_use, name_unknown, types_misfit, wide_type, zero_divisor}
use Rattle.form.specs.Tree.{Letters, End, Range, given_set, range, Given}
use Rattle.form.specs.Tree.{Term, number, name, group, prefix, binary, divided, listed, pairs, such, empty_set, empty_pairs, Items, only, also, Pairs, only_pair, also_pair}
use Rattle.form.specs.Tree.{Pred, truth, falsity, negation, paren, quantified, connected, compared, member, within, related}
use Rattle.declared_names.specs.StaticRulesCarriers.{given_of}
use Rattle.declared_names.specs.StaticRulesTypes.{Ty, pairs_fit, pairs_type}
use Rattle.declared_names.specs.StaticRulesScope.{Scope, type_of_name, binding}
use Rattle.declared_names.specs.StaticRulesNames.{Listing, whole, inside, of_name, known, end_length, range_length, range_faults, pairs_fault, divisor_faults, new_name, domain_carrier}
use Rattle.declared_names.specs.StaticRulesNames.{over_fault, whole_pairs, judged_pairs, judge_term, judge_items, judge_pairs, judge_pred}
use Rattle.names.proofs.TypesAgreeWidths.{wide_term, wide_items, wide_pairs, wide_pred, term-ends, pred-ends}

-- every fault lies at a place from a on and below b
pub data Within (a b : ℕ) : List Fault → Type 0 where
  nowhere : Within a b []
  at_place : {f : Fault} {fs : List Fault} → a ≤ f.place → f.place < b → Within a b fs → Within a b (f ∷ fs)

pub within-append : {a b : ℕ} {xs ys : List Fault} → Within a b xs → Within a b ys → Within a b (xs ++ ys)
within-append nowhere k = k
within-append (at_place l r h) k = at_place l r (within-append h k)

pub wider : {a b : ℕ} (c d : ℕ) {fs : List Fault} → Within a b fs → c ≤ a → b ≤ d → Within c d fs
wider c d nowhere l r = nowhere
wider c d (at_place {f = f} p q h) l r = at_place {f = f} (omega arith) (omega arith) (wider c d h l r)

pub within-unless : {a b : ℕ} (ok : Bool) (f : Fault) → a ≤ f.place → f.place < b → Within a b (unless ok f)
unfolding unless
within-unless true f l r = nowhere
within-unless false f l r = at_place l r nowhere

within-whole : {a b : ℕ} (ok : Bool) (f : Fault) {parts : List Fault} → a ≤ f.place → f.place < b → Within a b parts → Within a b (whole ok f parts)
unfolding whole
within-whole ok f l r nowhere = within-unless ok f l r
within-whole ok f l r (at_place p q h) = at_place p q h

within-inside : {a b : ℕ} {xs ys : List Fault} → Within a b xs → Within a b ys → Within a b (inside xs ys)
unfolding inside
within-inside nowhere k = k
within-inside (at_place l r h) k = at_place l r h

pub within-used : {a b : ℕ} (ok : Bool) (i : ℕ) → a ≤ i → i < b → Within a b (unless ok (fault i name_in_use))
within-used ok i l r = within-unless ok (fault i name_in_use) l r

pub within_new : {a b : ℕ} (xs : List Letters) (x : Letters) (i : ℕ) → a ≤ i → i < b → Within a b (new_name xs x i)
unfolding new_name
within_new xs x i l r = within-used _ i l r

pub within-known : {a b : ℕ} (g : Option Given) (i : ℕ) → a ≤ i → i < b → Within a b (known g i)
within-known none i l r = at_place l r nowhere
within-known (some g) i l r = nowhere

pub within-range : {a b : ℕ} (r : Range) (i : ℕ) → a ≤ i → i + range_length r ≤ b → Within a b (range_faults r i)
unfolding range_faults
within-range r i l h = within-unless _ (fault (i + end_length r.lower) wide_type) (omega arith) (omega arith)

pub within-pairs : {a b : ℕ} (g h : Option Given) (i : ℕ) → a ≤ i → i < b → Within a b (pairs_fault g h i)
unfolding pairs_fault
within-pairs none h i l r = nowhere
within-pairs (some g) none i l r = nowhere
within-pairs (some g) (some h) i l r = within-unless _ (fault i wide_type) l r

sign-short : (b : Bool) → cond b 1 0 < cond b 2 1
sign-short true = omega arith
sign-short false = omega arith

within-divisor : {a b : ℕ} (e : End) (i : ℕ) → a ≤ i → i + end_length e ≤ b → Within a b (divisor_faults e i)
unfolding divisor_faults
within-divisor e i l r =
    within-unless _ (fault (i + cond e.negative 1 0) zero_divisor) (omega arith) (omega (arith, sign-short e.negative))

within-over : {a b : ℕ} (gs : List Given) (xs : List Letters) (i : ℕ) → a ≤ i → i < b → Within a b (over_fault gs xs i)
within-over gs [] i l r = nowhere
within-over gs (g ∷ []) i l r = nowhere
within-over gs (g ∷ h ∷ xs) i l r = within-pairs _ _ i l r

within-cond : {a b : ℕ} (t : Bool) (xs ys : List Fault) → Within a b xs → Within a b ys → Within a b (cond t xs ys)
within-cond true xs ys h k = h
within-cond false xs ys h k = k

within-whole-pairs : {a b : ℕ} (gs : List Given) (ts : List (Ty × Ty)) (i : ℕ) → a ≤ i → i < b → Within a b (whole_pairs gs ts i)
unfolding whole_pairs
within-whole-pairs gs ts i l r =
    within-cond (pairs_fit ts) (over_fault gs (pairs_type ts).over i) (fault i types_misfit ∷ []) (within-over gs (pairs_type ts).over i l r)
    (at_place l r nowhere)

within-judged-pairs : {a b : ℕ} (gs : List Given) (l : Listing (Ty × Ty)) (i : ℕ) → a ≤ i → i < b → Within a b l.faults → Within a b (judged_pairs gs l i)
unfolding judged_pairs
within-judged-pairs {a} {b} gs l i p q h = on l.faults h
  where
    on : (fs : List Fault) → Within a b fs → Within a b (elim fs [ [] ↦ whole_pairs gs l.types i | x ∷ xs ↦ x ∷ xs ])
    on [] k = within-whole-pairs gs l.types i p q
    on (x ∷ xs) k = k

within-name : (o : Option Ty) (i : ℕ) → Within i (i + 1) (of_name o i).faults
within-name none i = at_place {f = fault i name_unknown} (omega arith) (omega arith) nowhere
within-name (some t) i = nowhere

within-empty : {a b : ℕ} (g h : Option Given) (i : ℕ) → a ≤ i → i + 3 ≤ b → Within a b (known g (suc i) ++ known h (i + 2) ++ pairs_fault g h i)
within-empty g h i l r =
    within-append (within-append (within-known g (suc i) (omega arith) (omega arith)) (within-known h (i + 2) (omega arith) (omega arith)))
    (within-pairs g h i l (omega arith))

mutual
  unfolding judge_term wide_term

  pub term-within : (t : Term) (Γ : Scope) (i : ℕ) → Within i (i + wide_term t) (judge_term t Γ i).faults
  term-within (number n) Γ i = nowhere
  term-within (name x) Γ i = within-name (type_of_name Γ x) i
  term-within (group t) Γ i = wider _ _ (term-within t Γ (suc i)) (omega arith) (omega arith)
  term-within (prefix o t) Γ i = within-whole _ _ (omega arith) (omega arith) (wider _ _ (term-within t Γ (suc i)) (omega arith) (omega arith))
  term-within (binary o t u) Γ i =
      let a = term-ends t Γ i in
      within-whole _ _ (omega arith) (omega arith)
      (within-append (wider _ _ (term-within t Γ i) (omega arith) (omega arith)) (wider _ _ (term-within u Γ (suc (judge_term t Γ i).next)) (omega arith) (omega arith)))
  term-within (divided o t e) Γ i =
      let a = term-ends t Γ i in
      within-whole _ _ (omega arith) (omega arith)
      (within-append (wider _ _ (term-within t Γ i) (omega arith) (omega arith)) (within-divisor e (suc (judge_term t Γ i).next) (omega arith) (omega arith)))
  term-within (listed ts) Γ i = within-whole _ _ (omega arith) (omega arith) (wider _ _ (items-within ts Γ (suc i)) (omega arith) (omega arith))
  term-within (pairs ts) Γ i =
      within-judged-pairs Γ.givens (judge_pairs ts Γ (suc i)) i (omega arith) (omega arith) (wider _ _ (pairs-within ts Γ (suc i)) (omega arith) (omega arith))
  term-within (such x g p) Γ i =
      within-inside
      (within-append (within_new Γ.taken x (suc i) (omega arith) (omega arith)) (within-known (given_of Γ.givens g) (i + 3) (omega arith) (omega arith)))
      (wider _ _ (pred-within p (binding Γ x (domain_carrier Γ (given_set g))) (i + 5)) (omega arith) (omega arith))
  term-within (empty_set g) Γ i = within-known (given_of Γ.givens g) (suc i) (omega arith) (omega arith)
  term-within (empty_pairs g h) Γ i = within-empty (given_of Γ.givens g) (given_of Γ.givens h) i (omega arith) (omega arith)

  pub items-within : (ts : Items) (Γ : Scope) (i : ℕ) → Within i (i + wide_items ts) (judge_items ts Γ i).faults
  items-within (only t) Γ i = term-within t Γ i
  items-within (also t ts) Γ i =
      let a = term-ends t Γ i in
      within-append (wider _ _ (term-within t Γ i) (omega arith) (omega arith)) (wider _ _ (items-within ts Γ (suc (judge_term t Γ i).next)) (omega arith) (omega arith))

  pub pairs-within : (ts : Pairs) (Γ : Scope) (i : ℕ) → Within i (i + wide_pairs ts) (judge_pairs ts Γ i).faults
  pairs-within (only_pair t u) Γ i =
      let a = term-ends t Γ i in
      within-append (wider _ _ (term-within t Γ i) (omega arith) (omega arith)) (wider _ _ (term-within u Γ (suc (judge_term t Γ i).next)) (omega arith) (omega arith))
  pairs-within (also_pair t u ts) Γ i =
      let a = term-ends t Γ i in let b = term-ends u Γ (suc (judge_term t Γ i).next) in
      within-append
      (within-append (wider _ _ (term-within t Γ i) (omega arith) (omega arith)) (wider _ _ (term-within u Γ (suc (judge_term t Γ i).next)) (omega arith) (omega arith)))
      (wider _ _ (pairs-within ts Γ (suc (judge_term u Γ (suc (judge_term t Γ i).next)).next)) (omega arith) (omega arith))

  pub pred-within : (p : Pred) (Γ : Scope) (i : ℕ) → Within i (i + wide_pred p) (judge_pred p Γ i).faults
  pred-within truth Γ i = nowhere
  pred-within falsity Γ i = nowhere
  pred-within (negation p) Γ i = wider _ _ (pred-within p Γ (suc i)) (omega arith) (omega arith)
  pred-within (paren p) Γ i = wider _ _ (pred-within p Γ (suc i)) (omega arith) (omega arith)
  pred-within (quantified q x (given_set g) p) Γ i =
      within-inside
      (within-append (within_new Γ.taken x (i + 2) (omega arith) (omega arith)) (within-known (given_of Γ.givens g) (i + 4) (omega arith) (omega arith)))
      (wider _ _ (pred-within p (binding Γ x (domain_carrier Γ (given_set g))) (suc (i + 4 + 1))) (omega arith) (omega arith))
  pred-within (quantified q x (range r) p) Γ i =
      within-inside (within-append (within_new Γ.taken x (i + 2) (omega arith) (omega arith)) (within-range r (i + 4) (omega arith) (omega arith)))
      (wider _ _ (pred-within p (binding Γ x (domain_carrier Γ (range r))) (suc (i + 4 + range_length r))) (omega arith) (omega arith))
  pred-within (connected o p q) Γ i =
      let a = pred-ends p Γ i in
      within-append (wider _ _ (pred-within p Γ i) (omega arith) (omega arith)) (wider _ _ (pred-within q Γ (suc (judge_pred p Γ i).next)) (omega arith) (omega arith))
  pred-within (compared o t u) Γ i =
      let a = term-ends t Γ i in
      within-whole _ _ (omega arith) (omega arith)
      (within-append (wider _ _ (term-within t Γ i) (omega arith) (omega arith)) (wider _ _ (term-within u Γ (suc (judge_term t Γ i).next)) (omega arith) (omega arith)))
  pred-within (member o t u) Γ i =
      let a = term-ends t Γ i in
      within-whole _ _ (omega arith) (omega arith)
      (within-append (wider _ _ (term-within t Γ i) (omega arith) (omega arith)) (wider _ _ (term-within u Γ (suc (judge_term t Γ i).next)) (omega arith) (omega arith)))
  pred-within (within o t r) Γ i =
      let a = term-ends t Γ i in
      within-whole _ _ (omega arith) (omega arith)
      (within-append (wider _ _ (term-within t Γ i) (omega arith) (omega arith)) (within-range r (suc (judge_term t Γ i).next) (omega arith) (omega arith)))
  pred-within (related o t u v) Γ i =
      let a = term-ends t Γ i in let b = term-ends u Γ (suc (judge_term t Γ i).next) in
      within-whole _ _ (omega arith) (omega arith)
      (within-append
      (within-append (wider _ _ (term-within t Γ i) (omega arith) (omega arith)) (wider _ _ (term-within u Γ (suc (judge_term t Γ i).next)) (omega arith) (omega arith)))
      (wider _ _ (term-within v Γ (suc (judge_term u Γ (suc (judge_term t Γ i).next)).next)) (omega arith) (omega arith)))
