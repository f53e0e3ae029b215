-- Operations by their nodes: where each ends, and what the pass makes of it, its two sides and all of them.
use mathlib.Core.Path.{◌≡◌, refl, ap, ap₂, sym, ◌∙◌}
use mathlib.Core.List.{List, [], ◌∷◌, ◌++◌, append_assoc}
use Prim.Native.Nat.{ℕ, suc, ◌+◌, ◌-◌, ◌≤◌, ◌<◌}
use native.Mathlib.Omega.{arith}
use Rattle.form.specs.Headings.{operation_length}
use lib.ListN.{length, take, drop, get_or, set, length-drop, length-append}
use lib.Seq.{drop-drop}
use Rattle.lexical.specs.Symbols.{no_ending}
use Rattle.form.specs.Tree.{Declaration, Pred, Operation}
use Rattle.form.specs.Codes.{Numbering, node, number_of_name, pred_width, abstractly_at, parameter_codes, condition_codes, operation_codes}
use Rattle.type_rules.specs.TypesByNumber.{Names, Sizes, entry, is_free, key, unless_key, pred_key, inside_key}
use Rattle.declared_names.specs.NamesByNumber.{Typed, typed_codes, variables_of, parameters_of, shown, hidden, declared_key, reaching, leaving, title_named, parameters_shown, operation_key, operation_named, operations_key}
use Rattle.declared_names.specs.PassPromises.{DeclaredEnd, PredicateEnd, ConditionSeen, DeclaredSeen, ShownSeen, HiddenSeen, ReachingSeen, LeavingSeen, SideSeen, SidesSeen, Variables, operation_code, OperationEnd, OperationSeen, OperationsSeen}
use Rattle.type_rules.proofs.TypeNumbers.{inside-none, inside-some}
use Rattle.names.proofs.PassSteps.{variables-codes, parameters-codes, front, back, declared-cut}

-- the variables of a state, plain and primed
pub reaching-seen : (vs : List ℕ) (T T₁ U : Names) → ShownSeen vs 0 T T₁ → ShownSeen vs 1 T₁ U → ReachingSeen vs T U
unfolding reaching
reaching-seen vs T T₁ U a b ds i ρ e =
    let e' : vs ≡ typed_codes i (variables_of no_ending ds) ρ = e ∙ sym (variables-codes i ds ρ) in
    b (variables_of no_ending ds) i ρ e' ∙ ap (λ (t : Names). shown (variables_of no_ending ds) 1 t ρ) (a (variables_of no_ending ds) i ρ e')

pub leaving-seen : (vs : List ℕ) (T T₁ U : Names) → HiddenSeen vs 0 2 T T₁ → HiddenSeen vs 1 0 T₁ U → LeavingSeen vs T U
unfolding leaving
leaving-seen vs T T₁ U a b ds i ρ e =
    let e' : vs ≡ typed_codes i (variables_of no_ending ds) ρ = e ∙ sym (variables-codes i ds ρ) in
    b (variables_of no_ending ds) i ρ e' ∙ ap (λ (t : Names). hidden (variables_of no_ending ds) 1 0 t ρ) (a (variables_of no_ending ds) i ρ e')

pub side-seen : (code vs : List ℕ) (T T₁ T₂ U : Names) (z : Sizes) (r : ℕ) → ReachingSeen vs T T₁ → ConditionSeen code T₁ T₂ z r → LeavingSeen vs T₂ U → SideSeen code vs T U z r
side-seen code vs T T₁ T₂ U z r a c b =
    record {
      right = λ p ds i j ρ e v. c.right p i ρ e ∙ ap (λ (t : Names). pred_key p t ρ z i) (a ds j ρ v);
      named = λ ds j ρ v. b ds j ρ v ∙ ap (λ (t : Names). leaving ds t ρ) (c.kept ∙ a ds j ρ v);
    }

-- the two predicates of an operation
module _ (code A C fs cs : List ℕ) (n : ℕ) (end : PredicateEnd code n) (fs-is : fs ≡ take n code) (cs-is : cs ≡ drop n code) where
  module _ (p q : Pred) (i j : ℕ) (ρ : Numbering) (e : code ≡ condition_codes i p ρ ++ condition_codes j q ρ) where
    sides-length : n ≡ length (condition_codes i p ρ)
    sides-length = end.right p i ρ (condition_codes j q ρ) e

    sides-front : fs ≡ condition_codes i p ρ
    sides-front = fs-is ∙ front code n (condition_codes i p ρ) (condition_codes j q ρ) e sides-length

    sides-back : cs ≡ condition_codes j q ρ
    sides-back = cs-is ∙ back code n (condition_codes i p ρ) (condition_codes j q ρ) e sides-length

  module _ (T T₁ : Names) (z : Sizes) (f : ℕ) (first : SideSeen fs A T T₁ z f) where
    pub sides-faulty : (f ≡ 0 → ⊥) → (U : Names) → SidesSeen code A C T U z f
    sides-faulty not U =
        record {
          right = λ p q i j av cv ρ e v. inside-some _ (first.right p av i v.i ρ (sides-front p q i j ρ e) v.first) not;
          named = λ p q i j av cv ρ e v w. elim (not w) [ ];
        }

    pub sides-seen : f ≡ 0 → (U : Names) (g : ℕ) → SideSeen cs C T₁ U z g → SidesSeen code A C T U z g
    sides-seen w U g second =
        record {
          right =
              λ p q i j av cv ρ e v.
              let d = first.right p av i v.i ρ (sides-front p q i j ρ e) v.first in
              let t = first.named av v.i ρ v.first in
              second.right q cv j v.j ρ (sides-back p q i j ρ e) v.second
              ∙ (ap (λ (c : Names). pred_key q (reaching cv c ρ) ρ z j) t
              ∙ inside-none d w);
          named =
              λ p q i j av cv ρ e v x.
              let t = first.named av v.i ρ v.first in
              second.named cv v.j ρ v.second ∙ ap (λ (c : Names). leaving cv (reaching cv c ρ) ρ) t;
        }

-- the parts of an operation
abbrev abstract_codes : (i : ℕ) → Operation → Numbering → List ℕ
abstract_codes i o ρ = condition_codes (abstractly_at i o) o.abstractly ρ

abbrev concrete_codes : (i : ℕ) → Operation → Numbering → List ℕ
concrete_codes i o ρ = condition_codes (suc (abstractly_at i o) + pred_width o.abstractly) o.concretely ρ

abbrev parameters_in : Operation → List Typed
parameters_in o = parameters_of o.parameters

-- a predicate's first node is no parameter's, whatever stands behind it
no-parameter : (i : ℕ) (p : Pred) (ρ : Numbering) (rest : List ℕ) → get_or (condition_codes i p ρ ++ rest) 3 0 ≡ 6 → ⊥
unfolding condition_codes
no-parameter i p ρ rest e = omega arith

-- where an operation ends
pub operation-end : (code rest both last : List ℕ) (d p r : ℕ) → 4 ≤ length code → rest ≡ drop 4 code → both ≡ drop (4 + d) code → last ≡ drop (4 + d + p) code → DeclaredEnd rest d
    → PredicateEnd both p → PredicateEnd last r → OperationEnd code (4 + d + p + r)
operation-end code rest both last d p r h rest-is both-is last-is de pe re =
    record {
      behind = omega arith;
      within = inside (length rest) (length both) (length last) (long rest 4 rest-is) (long both (4 + d) both-is) (long last (4 + d + p) last-is) de.within pe.within re.within;
      right =
          λ o i ρ more e.
          let ps = typed_codes (i + 2) (parameters_in o) ρ in
          let a = abstract_codes i o ρ in
          let c = concrete_codes i o ρ in
          let e₁ : drop 4 code ≡ ps ++ (a ++ (c ++ more)) = ap (λ (l : List ℕ). drop 4 l) e ∙ (append_assoc (parameter_codes (i + 2) o.parameters ρ) (a ++ c) more ∙ ap₂ (λ (l m : List ℕ). l ++ m) (sym (parameters-codes (i + 2) o.parameters ρ)) (append_assoc a c more)) in
          let l₁ : d ≡ length ps = de.right (parameters_in o) (i + 2) ρ (a ++ (c ++ more)) (rest-is ∙ e₁) (no-parameter (abstractly_at i o) o.abstractly ρ (c ++ more)) in
          let e₂ : drop (4 + d) code ≡ a ++ (c ++ more) = sym (drop-drop d 4 code) ∙ back (drop 4 code) d ps (a ++ (c ++ more)) e₁ l₁ in
          let l₂ : p ≡ length a = pe.right o.abstractly (abstractly_at i o) ρ (c ++ more) (both-is ∙ e₂) in
          let e₃ : drop (4 + d + p) code ≡ c ++ more = sym (drop-drop p (4 + d) code) ∙ back (drop (4 + d) code) p a (c ++ more) e₂ l₂ in
          let l₃ : r ≡ length c = re.right o.concretely (suc (abstractly_at i o) + pred_width o.abstractly) ρ more (last-is ∙ e₃) in
          let n₁ = length-append (node 8 i (number_of_name ρ o.title no_ending) 0) (parameter_codes (i + 2) o.parameters ρ ++ (a ++ c)) in
          let n₂ = length-append (parameter_codes (i + 2) o.parameters ρ) (a ++ c) in
          let n₃ = length-append a c in
          let n₄ = ap (λ (l : List ℕ). length l) (parameters-codes (i + 2) o.parameters ρ) in
          lengths (length ps) (length (parameter_codes (i + 2) o.parameters ρ)) (length a) (length c) (length (parameter_codes (i + 2) o.parameters ρ ++ (a ++ c))) (length (a ++ c)) (length (operation_code i o ρ)) l₁ l₂ l₃ n₁ n₂ n₃ n₄;
    }
  where
    long : (l : List ℕ) (n : ℕ) → l ≡ drop n code → length l ≡ length code - n
    long l n e = ap (λ (m : List ℕ). length m) e ∙ length-drop n code

    inside : (l m n : ℕ) → l ≡ length code - 4 → m ≡ length code - (4 + d) → n ≡ length code - (4 + d + p) → d ≤ l → p ≤ m → r ≤ n → 4 + d + p + r ≤ length code
    inside l m n e₁ e₂ e₃ h₁ h₂ h₃ = omega arith

    lengths : (ps qs a c m n t : ℕ) → d ≡ ps → p ≡ a → r ≡ c → t ≡ 4 + m → m ≡ qs + n → n ≡ a + c → ps ≡ qs → 4 + d + p + r ≡ t
    lengths ps qs a c m n t e₁ e₂ e₃ e₄ e₅ e₆ e₇ = omega arith

-- an operation: its title, its parameters, its predicates
module _ (code A C : List ℕ) (T : Names) (z : Sizes) (x old w f : ℕ) (x-is : x ≡ get_or code 1 0) (old-is : old ≡ entry T x) (w-is : w ≡ get_or code 2 0)
    (f-is : f ≡ unless_key (is_free old) (key (w + 1) 8)) where
  module _ (o : Operation) (i : ℕ) (ρ : Numbering) (e : code ≡ operation_code i o ρ) where
    title-number : x ≡ number_of_name ρ o.title no_ending
    title-number = x-is ∙ ap (λ (l : List ℕ). get_or l 1 0) e

    title-fault : f ≡ unless_key (is_free (entry T (number_of_name ρ o.title no_ending))) (key (i + 1) 8)
    unfolding is_free
    title-fault =
        f-is
        ∙ ap₂ (λ (n m : ℕ). unless_key (is_free n) (key (m + 1) 8)) (old-is ∙ ap (λ (n : ℕ). entry T n) title-number) (w-is ∙ ap (λ (l : List ℕ). get_or l 2 0) e)

  pub operation-titled : (f ≡ 0 → ⊥) → (U : Names) → OperationSeen code A C T U z f
  unfolding operation_key
  operation-titled not U =
      record {
        right = λ o i av cv ρ e v. inside-some _ (title-fault o i ρ e) not;
        named = λ o i av cv ρ e v q. elim (not q) [ ];
      }

  module _ (f-none : f ≡ 0) (rest ps cs : List ℕ) (n : ℕ) (end : DeclaredEnd rest n) (rest-is : rest ≡ drop 4 code) (ps-is : ps ≡ take n rest) (cs-is : cs ≡ drop n rest)
      (T₁ T₂ : Names) (g : ℕ) (put : T₁ ≡ set T x 2) (declared : DeclaredSeen ps T₁ T₂ z g) where
    module _ (o : Operation) (i : ℕ) (ρ : Numbering) (e : code ≡ operation_code i o ρ) where
      operation-cut : (take n rest ≡ typed_codes (i + 2) (parameters_in o) ρ) × (drop n rest ≡ abstract_codes i o ρ ++ concrete_codes i o ρ)
      operation-cut =
          declared-cut rest n end (parameters_in o) (i + 2) ρ (abstract_codes i o ρ ++ concrete_codes i o ρ)
          (rest-is ∙ (ap (λ (l : List ℕ). drop 4 l) e ∙ ap (λ (l : List ℕ). l ++ (abstract_codes i o ρ ++ concrete_codes i o ρ)) (sym (parameters-codes (i + 2) o.parameters ρ))))
          (no-parameter (abstractly_at i o) o.abstractly ρ (concrete_codes i o ρ))

      operation-front : ps ≡ typed_codes (i + 2) (parameters_in o) ρ
      operation-front = ps-is ∙ operation-cut.0

      operation-back : cs ≡ abstract_codes i o ρ ++ concrete_codes i o ρ
      operation-back = cs-is ∙ operation-cut.1

      named-title : T₁ ≡ title_named o T ρ
      named-title = put ∙ ap (λ (m : ℕ). set T m 2) (title-number o i ρ e)

      declared-fault : g ≡ declared_key (parameters_in o) (title_named o T ρ) ρ z (i + 2)
      declared-fault = declared.right (parameters_in o) (i + 2) ρ operation-front ∙ ap (λ (t : Names). declared_key (parameters_in o) t ρ z (i + 2)) named-title

      declared-names : g ≡ 0 → T₂ ≡ parameters_shown o T ρ
      declared-names q = declared.named (parameters_in o) (i + 2) ρ operation-front q ∙ ap (λ (t : Names). shown (parameters_in o) 0 t ρ) named-title

    abbrev both_keys : Operation → ℕ → List Declaration → List Declaration → Numbering → Names → ℕ
    both_keys o i av cv ρ t = inside_key (pred_key o.abstractly (reaching av t ρ) ρ z (abstractly_at i o)) (pred_key o.concretely (reaching cv (leaving av (reaching av t ρ) ρ) ρ) ρ z (suc (abstractly_at i o) + pred_width o.abstractly))

    pub operation-declared : (g ≡ 0 → ⊥) → (U : Names) → OperationSeen code A C T U z g
    unfolding operation_key
    operation-declared not U =
        record {
          right = λ o i av cv ρ e v. inside-some _ (declared-fault o i ρ e) not ∙ inside-none (title-fault o i ρ e) f-none;
          named = λ o i av cv ρ e v q. elim (not q) [ ];
        }

    pub operation-seen : g ≡ 0 → (T₃ U : Names) (h : ℕ) → SidesSeen cs A C T₂ T₃ z h → HiddenSeen ps 0 0 T₃ U → OperationSeen code A C T U z h
    unfolding operation_key operation_named
    operation-seen none T₃ U h seen hid =
        record {
          right =
              λ o i av cv ρ e v.
              seen.right o.abstractly o.concretely (abstractly_at i o) (suc (abstractly_at i o) + pred_width o.abstractly) av cv ρ (operation-back o i ρ e) v
              ∙ (ap (λ (t : Names). both_keys o i av cv ρ t) (declared-names o i ρ e none)
              ∙ (inside-none (declared-fault o i ρ e) none ∙ inside-none (title-fault o i ρ e) f-none));
          named =
              λ o i av cv ρ e v q.
              hid (parameters_in o) (i + 2) ρ (operation-front o i ρ e)
              ∙ ap (λ (t : Names). hidden (parameters_in o) 0 0 t ρ)
              (seen.named o.abstractly o.concretely (abstractly_at i o) (suc (abstractly_at i o) + pred_width o.abstractly) av cv ρ (operation-back o i ρ e) v q
              ∙ ap (λ (t : Names). leaving cv (reaching cv (leaving av (reaching av t ρ) ρ) ρ) ρ) (declared-names o i ρ e none));
        }

pub operation-short : (code A C : List ℕ) (T U : Names) (z : Sizes) (r : ℕ) → length code < 4 → OperationSeen code A C T U z r
operation-short code A C T U z r h =
    record { right = λ o i av cv ρ e v. elim (never o i ρ e) [ ]; named = λ o i av cv ρ e v q. elim (never o i ρ e) [ ] }
  where
    never : (o : Operation) (i : ℕ) (ρ : Numbering) → code ≡ operation_code i o ρ → ⊥
    never o i ρ e =
        let l : length code ≡ 4 + length (parameter_codes (i + 2) o.parameters ρ ++ (abstract_codes i o ρ ++ concrete_codes i o ρ)) = ap (λ (c : List ℕ). length c) e ∙ length-append (node 8 i (number_of_name ρ o.title no_ending) 0) (parameter_codes (i + 2) o.parameters ρ ++ (abstract_codes i o ρ ++ concrete_codes i o ρ)) in
        omega arith

four-first : (a b : List ℕ) → length a ≡ 4 → 4 ≤ length (a ++ b)
four-first a b e = let l = length-append a b in omega arith

-- a walk over operations: those that are left have the first fault of all
pub record Onward (rest : List ℕ) (U : Names) (z : Sizes) (av cv : List Declaration) (ρ : Numbering) (v : ℕ) : Type 0 where
  pub left : List Operation
  pub place : ℕ
  pub here : rest ≡ operation_codes place left ρ
  pub same : operations_key left av cv U ρ z place ≡ v

abbrev pub OperationsOn : (code A C rest : List ℕ) (T U : Names) (z : Sizes) → Type 0
OperationsOn code A C rest T U z =
    (os : List Operation) (i : ℕ) (av cv : List Declaration) (ρ : Numbering) → code ≡ operation_codes i os ρ → Variables av cv ρ A C
    → Onward rest U z av cv ρ (operations_key os av cv T ρ z i)

pub onward-start : (code A C : List ℕ) (T : Names) (z : Sizes) → OperationsOn code A C code T T z
onward-start code A C T z os i av cv ρ e v = record { left = os; place = i; here = e; same = refl }

first-operation : (o : Operation) (os : List Operation) (i : ℕ) (ρ : Numbering) → operation_codes i (o ∷ os) ρ ≡ operation_code i o ρ ++ operation_codes (i + operation_length o) os ρ
unfolding operation_codes
first-operation o os i ρ =
    let n = node 8 i (number_of_name ρ o.title no_ending) 0 in
    let p = parameter_codes (i + 2) o.parameters ρ in
    let a = abstract_codes i o ρ in
    let c = concrete_codes i o ρ in
    let r = operation_codes (i + operation_length o) os ρ in
    sym (ap (λ (l : List ℕ). n ++ l) (append_assoc p (a ++ c) r ∙ ap (λ (l : List ℕ). p ++ l) (append_assoc a c r)))

no_operation : (i : ℕ) (ρ : Numbering) → length (operation_codes i [] ρ) ≡ 0
unfolding operation_codes
no_operation i ρ = refl

module _ (A C rest part behind : List ℕ) (n : ℕ) (U U' : Names) (z : Sizes) (f : ℕ) (room : 4 ≤ length rest) (end : OperationEnd rest n) (part_is : part ≡ take n rest)
    (behind-is : behind ≡ drop n rest) (seen : OperationSeen part A C U U' z f) (av cv : List Declaration) (ρ : Numbering) (vs : Variables av cv ρ A C) (v : ℕ) where
  none_left : (j : ℕ) → rest ≡ operation_codes j [] ρ → ⊥
  none_left j e = let l : length rest ≡ 0 = ap (λ (l : List ℕ). length l) e ∙ no_operation j ρ in omega arith

  module _ (o : Operation) (os : List Operation) (j : ℕ) (e : rest ≡ operation_codes j (o ∷ os) ρ) where
    split : rest ≡ operation_code j o ρ ++ operation_codes (j + operation_length o) os ρ
    split = e ∙ first-operation o os j ρ

    end-at : n ≡ length (operation_code j o ρ)
    end-at = end.right o j ρ (operation_codes (j + operation_length o) os ρ) split

    part-first : part ≡ operation_code j o ρ
    part-first = part_is ∙ front rest n (operation_code j o ρ) (operation_codes (j + operation_length o) os ρ) split end-at

    part-behind : behind ≡ operation_codes (j + operation_length o) os ρ
    part-behind = behind-is ∙ back rest n (operation_code j o ρ) (operation_codes (j + operation_length o) os ρ) split end-at

  onward-step : f ≡ 0 → (os : List Operation) (j : ℕ) → rest ≡ operation_codes j os ρ → operations_key os av cv U ρ z j ≡ v → Onward behind U' z av cv ρ v
  unfolding operations_key
  onward-step q [] j e s = elim (none_left j e) [ ]
  onward-step q (o ∷ os) j e s =
      let d = seen.right o j av cv ρ (part-first o os j e) vs in
      let t = seen.named o j av cv ρ (part-first o os j e) vs q in
      record {
        left = os;
        place = j + operation_length o;
        here = part-behind o os j e;
        same =
            ap (λ (c : Names). operations_key os av cv c ρ z (j + operation_length o)) t
            ∙ (inside-none d q ∙ s);
      }

  onward-stop : (f ≡ 0 → ⊥) → (os : List Operation) (j : ℕ) → rest ≡ operation_codes j os ρ → operations_key os av cv U ρ z j ≡ v → f ≡ v
  unfolding operations_key
  onward-stop q [] j e s = elim (none_left j e) [ ]
  onward-stop q (o ∷ os) j e s =
      inside-some _ (seen.right o j av cv ρ (part-first o os j e) vs) q ∙ s

onward-end : (rest : List ℕ) (U : Names) (z : Sizes) (av cv : List Declaration) (ρ : Numbering) (v : ℕ) → length rest < 4
    → (os : List Operation) (j : ℕ) → rest ≡ operation_codes j os ρ → operations_key os av cv U ρ z j ≡ v → 0 ≡ v
unfolding operations_key
onward-end rest U z av cv ρ v h [] j e s = s
onward-end rest U z av cv ρ v h (o ∷ os) j e s = elim (long (length (operation_code j o ρ ++ operation_codes (j + operation_length o) os ρ)) all more) [ ]
  where
    long : (n : ℕ) → length rest ≡ n → 4 ≤ n → ⊥
    long n p q = omega arith

    all : length rest ≡ length (operation_code j o ρ ++ operation_codes (j + operation_length o) os ρ)
    all = ap (λ (l : List ℕ). length l) (e ∙ first-operation o os j ρ)

    more : 4 ≤ length (operation_code j o ρ ++ operation_codes (j + operation_length o) os ρ)
    more = four-first (node 8 j (number_of_name ρ o.title no_ending) 0) ((parameter_codes (j + 2) o.parameters ρ ++ (abstract_codes j o ρ ++ concrete_codes j o ρ)) ++ operation_codes (j + operation_length o) os ρ) refl

pub operations-on : (code A C rest part behind : List ℕ) (n : ℕ) (T U U' : Names) (z : Sizes) (f : ℕ) → 4 ≤ length rest → OperationEnd rest n → part ≡ take n rest → behind ≡ drop n rest
    → OperationSeen part A C U U' z f → f ≡ 0 → OperationsOn code A C rest T U z → OperationsOn code A C behind T U' z
operations-on code A C rest part behind n T U U' z f room end is behind-is seen q w os i av cv ρ e v =
    let r = w os i av cv ρ e v in
    onward-step A C rest part behind n U U' z f room end is behind-is seen av cv ρ v (operations_key os av cv T ρ z i) q r.left r.place r.here r.same

pub operations-stopped : (code A C rest part : List ℕ) (n : ℕ) (T U U' : Names) (z : Sizes) (f : ℕ) → 4 ≤ length rest → OperationEnd rest n → part ≡ take n rest
    → OperationSeen part A C U U' z f → (f ≡ 0 → ⊥) → OperationsOn code A C rest T U z → OperationsSeen code A C T z f
operations-stopped code A C rest part n T U U' z f room end is seen q w os i av cv ρ e v =
    let r = w os i av cv ρ e v in
    onward-stop A C rest part (drop n rest) n U U' z f room end is refl seen av cv ρ v (operations_key os av cv T ρ z i) q r.left r.place r.here r.same

pub operations-ended : (code A C rest : List ℕ) (T U : Names) (z : Sizes) → length rest < 4 → OperationsOn code A C rest T U z → OperationsSeen code A C T z 0
operations-ended code A C rest T U z h w os i av cv ρ e v =
    let r = w os i av cv ρ e v in onward-end rest U z av cv ρ (operations_key os av cv T ρ z i) h r.left r.place r.here r.same
