-- The parts of a dossier by their nodes: where declarations and predicates end, and what the pass makes of states and of the three conditions.
use mathlib.Core.Logic.{◌⊎◌, inl, inr}
use mathlib.Core.Path.{◌≡◌, refl, ap, sym, ◌∙◌}
use mathlib.Core.List.{List, [], ◌∷◌, ◌++◌}
use Prim.Native.Nat.{ℕ, suc, ◌+◌, ◌<◌}
use native.Mathlib.Omega.{arith}
use Rattle.form.specs.Headings.{ainit_at, cinit_at, retrieve_at}
use lib.ListN.{length, take, drop, get_or, length-append}
use lib.Seq.{drop_at, take_at, take-length}
use Rattle.lexical.specs.Symbols.{no_ending}
use Rattle.form.specs.Tree.{Declaration, declarations, Parameter, Pred, State, Dossier}
use Rattle.form.specs.Written.{ending_of}
use Rattle.form.specs.Codes.{Numbering, node, pred_codes, type_width, declaration_codes, parameter_codes, condition_codes, state_codes}
use Rattle.type_rules.specs.TypesByNumber.{Names, Sizes, fault_key, pred_key, PredSeen}
use Rattle.declared_names.specs.NamesByNumber.{Typed, typed_codes, variables_of, parameters_of, shown, hidden, predicate_at, state_key, state_named, conditions_key, conditions_named}
use Rattle.declared_names.specs.PassPromises.{typed_code, DeclaredEnd, PredicateEnd, ConditionSeen, DeclaredSeen, ShownSeen, HiddenSeen, StateSeen, Variables, three_codes, ConditionsSeen}
use Rattle.type_rules.specs.declared.Seen.{Seen}
use Rattle.type_rules.proofs.TypeNumbers.{inside-none, inside-some}

-- the nodes of variables and of parameters are those of their names with their types
pub variables-codes : (i : ℕ) (ds : List Declaration) (ρ : Numbering) → typed_codes i (variables_of no_ending ds) ρ ≡ declaration_codes i ds ρ
unfolding typed_codes variables_of declaration_codes
variables-codes i [] ρ = refl
variables-codes i (d ∷ ds) ρ = ap (λ (l : List ℕ). typed_code i (record { called = record { letters = d.declared; ending = no_ending }; type = d.type }) ρ ++ l) (variables-codes (i + 3 + type_width d.type) ds ρ)

pub parameters-codes : (i : ℕ) (xs : List Parameter) (ρ : Numbering) → typed_codes i (parameters_of xs) ρ ≡ parameter_codes i xs ρ
unfolding typed_codes parameters_of parameter_codes
parameters-codes i [] ρ = refl
parameters-codes i (x ∷ xs) ρ =
    ap (λ (l : List ℕ). typed_code i (record { called = record { letters = x.declaration.declared; ending = ending_of x.direction }; type = x.declaration.type }) ρ ++ l)
    (parameters-codes (i + 3 + type_width x.declaration.type) xs ρ)

-- a predicate with its node in front
pub condition-seen : (code : List ℕ) (T U : Names) (z : Sizes) (r : Seen) → PredSeen code (length code) T U z r → ConditionSeen code T U z (fault_key r.fault)
unfolding condition_codes
condition-seen code T U z r s =
    record {
      kept = s.kept;
      right = λ p i ρ e. (s.right p i ρ (node 7 i (length (pred_codes p i ρ)) 0) (take-length code ∙ e)).fault_is;
    }

-- what stands before and behind a place
pub front : (code : List ℕ) (n : ℕ) (a b : List ℕ) → code ≡ a ++ b → n ≡ length a → take n code ≡ a
front code n a b e l = ap (λ (c : List ℕ). take n c) e ∙ take_at a b n (sym l)

pub back : (code : List ℕ) (n : ℕ) (a b : List ℕ) → code ≡ a ++ b → n ≡ length a → drop n code ≡ b
back code n a b e l = ap (λ (c : List ℕ). drop n c) e ∙ drop_at a b n (sym l)

-- what stands before and behind the end of declarations
pub declared-cut : (rest : List ℕ) (n : ℕ) → DeclaredEnd rest n → (xs : List Typed) (i : ℕ) (ρ : Numbering) (more : List ℕ) → rest ≡ typed_codes i xs ρ ++ more → (get_or more 3 0 ≡ 6 → ⊥)
    → (take n rest ≡ typed_codes i xs ρ) × (drop n rest ≡ more)
declared-cut rest n end xs i ρ more e other =
    let l = end.right xs i ρ more e other in (front rest n (typed_codes i xs ρ) more e l, back rest n (typed_codes i xs ρ) more e l)

-- what `get` says of the nodes behind a heading: there are too few, or these are they
pub no-heading : {n : ℕ} → (n < 4) ⊎ (n < n) → n < 4
no-heading h = elim h [ inl w ↦ w | inr w ↦ absurd (omega arith) ]

-- a predicate's first node is no declaration's
no-declaration : (i : ℕ) (p : Pred) (ρ : Numbering) → get_or (condition_codes i p ρ) 3 0 ≡ 6 → ⊥
unfolding condition_codes
no-declaration i p ρ e = omega arith

abbrev variables_in : State → List Typed
variables_in s = variables_of no_ending (declarations s)

-- the two parts of a state: its variables, and its predicate
module _ (code rest vs cs : List ℕ) (n : ℕ) (end : DeclaredEnd rest n) (rest-is : rest ≡ drop 4 code) (vs-is : vs ≡ take n rest) (cs-is : cs ≡ drop n rest) where
  module _ (s : State) (i : ℕ) (ρ : Numbering) (e : code ≡ state_codes i s ρ) where
    state-cut : (take n rest ≡ typed_codes (suc i) (variables_in s) ρ) × (drop n rest ≡ condition_codes (predicate_at i s) s.predicate ρ)
    unfolding state_codes
    state-cut =
        declared-cut rest n end (variables_in s) (suc i) ρ (condition_codes (predicate_at i s) s.predicate ρ)
        (rest-is ∙ (ap (λ (l : List ℕ). drop 4 l) e ∙ ap (λ (l : List ℕ). l ++ condition_codes (predicate_at i s) s.predicate ρ) (sym (variables-codes (suc i) (declarations s) ρ))))
        (no-declaration (predicate_at i s) s.predicate ρ)

    pub state-front : vs ≡ typed_codes (suc i) (variables_in s) ρ
    state-front = vs-is ∙ state-cut.0

    pub state-back : cs ≡ condition_codes (predicate_at i s) s.predicate ρ
    state-back = cs-is ∙ state-cut.1

  module _ (T T₁ : Names) (z : Sizes) (f : ℕ) (declared : DeclaredSeen vs T T₁ z f) where
    pub state-faulty : (f ≡ 0 → ⊥) → (U : Names) → StateSeen code T U z f
    unfolding state_key
    state-faulty not U =
        record {
          right = λ s i ρ e. inside-some _ (declared.right (variables_in s) (suc i) ρ (state-front s i ρ e)) not;
          named = λ s i ρ e q. elim (not q) [ ];
        }

    pub state-seen : f ≡ 0 → (T₂ U : Names) (g : ℕ) → ConditionSeen cs T₁ T₂ z g → HiddenSeen vs 0 2 T₂ U → StateSeen code T U z g
    unfolding state_key state_named
    state-seen q T₂ U g seen hid =
        record {
          right =
              λ s i ρ e.
              let d = declared.right (variables_in s) (suc i) ρ (state-front s i ρ e) in
              let t = declared.named (variables_in s) (suc i) ρ (state-front s i ρ e) q in
              seen.right s.predicate (predicate_at i s) ρ (state-back s i ρ e)
              ∙ (ap (λ (c : Names). pred_key s.predicate c ρ z (predicate_at i s)) t
              ∙ inside-none d q);
          named =
              λ s i ρ e w.
              let t = declared.named (variables_in s) (suc i) ρ (state-front s i ρ e) q in
              hid (variables_in s) (suc i) ρ (state-front s i ρ e) ∙ ap (λ (c : Names). hidden (variables_in s) 0 2 c ρ) (seen.kept ∙ t);
        }

pub never-state : (code : List ℕ) → length code < 4 → (s : State) (i : ℕ) (ρ : Numbering) → code ≡ state_codes i s ρ → ⊥
unfolding state_codes
never-state code h s i ρ e =
    let l : length code ≡ 4 + length (declaration_codes (suc i) (declarations s) ρ ++ condition_codes (predicate_at i s) s.predicate ρ) = ap (λ (c : List ℕ). length c) e ∙ length-append (node 5 i 0 0) (declaration_codes (suc i) (declarations s) ρ ++ condition_codes (predicate_at i s) s.predicate ρ) in
    omega arith

pub state-short : (code : List ℕ) (T U : Names) (z : Sizes) (r : ℕ) → length code < 4 → StateSeen code T U z r
state-short code T U z r h =
    record { right = λ s i ρ e. elim (never-state code h s i ρ e) [ ]; named = λ s i ρ e q. elim (never-state code h s i ρ e) [ ] }

-- ainit, cinit and retrieve, one behind the other
module _ (d : Dossier) (ρ : Numbering) where
  abbrev ainit_codes : List ℕ
  ainit_codes = condition_codes (ainit_at d + 2) d.ainit ρ

  abbrev cinit_codes : List ℕ
  cinit_codes = condition_codes (cinit_at d + 2) d.cinit ρ

  abbrev retrieve_codes : List ℕ
  retrieve_codes = condition_codes (retrieve_at d + 2) d.retrieve ρ

module _ (code : List ℕ) (p : ℕ) (pe : PredicateEnd code p) (d : Dossier) (ρ : Numbering) (e : code ≡ three_codes d ρ) where
  ainit-end : p ≡ length (ainit_codes d ρ)
  ainit-end = pe.right d.ainit (ainit_at d + 2) ρ (cinit_codes d ρ ++ retrieve_codes d ρ) e

  ainit-part : (fs : List ℕ) → fs ≡ take p code → fs ≡ ainit_codes d ρ
  ainit-part fs fs-is = fs-is ∙ front code p (ainit_codes d ρ) (cinit_codes d ρ ++ retrieve_codes d ρ) e ainit-end

  module _ (behind : List ℕ) (q : ℕ) (behind-is : behind ≡ drop p code) (qe : PredicateEnd behind q) where
    behind-ainit : behind ≡ cinit_codes d ρ ++ retrieve_codes d ρ
    behind-ainit = behind-is ∙ back code p (ainit_codes d ρ) (cinit_codes d ρ ++ retrieve_codes d ρ) e ainit-end

    cinit-end : q ≡ length (cinit_codes d ρ)
    cinit-end = qe.right d.cinit (cinit_at d + 2) ρ (retrieve_codes d ρ) behind-ainit

    cinit-part : (bs : List ℕ) → bs ≡ take q behind → bs ≡ cinit_codes d ρ
    cinit-part bs bs-is = bs-is ∙ front behind q (cinit_codes d ρ) (retrieve_codes d ρ) behind-ainit cinit-end

    retrieve-part : (cs : List ℕ) → cs ≡ drop q behind → cs ≡ retrieve_codes d ρ
    retrieve-part cs cs-is = cs-is ∙ back behind q (cinit_codes d ρ) (retrieve_codes d ρ) behind-ainit cinit-end

module _ (code A C fs : List ℕ) (p : ℕ) (pe : PredicateEnd code p) (fs-is : fs ≡ take p code) (T T₁ T₂ : Names) (z : Sizes) (f : ℕ) (one : ShownSeen A 0 T T₁)
    (seen : ConditionSeen fs T₁ T₂ z f) where
  abbrev first_of : Dossier → List Typed
  first_of d = variables_in d.abstract

  abbrev second_of : Dossier → List Typed
  second_of d = variables_in d.concrete

  module _ (d : Dossier) (ρ : Numbering) (v : Variables (declarations d.abstract) (declarations d.concrete) ρ A C) where
    abstract-variables : A ≡ typed_codes v.i (first_of d) ρ
    abstract-variables = v.first ∙ sym (variables-codes v.i (declarations d.abstract) ρ)

    concrete-variables : C ≡ typed_codes v.j (second_of d) ρ
    concrete-variables = v.second ∙ sym (variables-codes v.j (declarations d.concrete) ρ)

    with-abstract : T₁ ≡ shown (first_of d) 0 T ρ
    with-abstract = one (first_of d) v.i ρ abstract-variables

    ainit-fault : code ≡ three_codes d ρ → f ≡ pred_key d.ainit (shown (first_of d) 0 T ρ) ρ z (ainit_at d + 2)
    ainit-fault e =
        seen.right d.ainit (ainit_at d + 2) ρ (ainit-part code p pe d ρ e fs fs-is)
        ∙ ap (λ (t : Names). pred_key d.ainit t ρ z (ainit_at d + 2)) with-abstract

  abbrev after_abstract : Dossier → Numbering → Names
  after_abstract d ρ = hidden (first_of d) 0 2 (shown (first_of d) 0 T ρ) ρ

  abbrev with_concrete : Dossier → Numbering → Names
  with_concrete d ρ = shown (second_of d) 0 (after_abstract d ρ) ρ

  abbrev cinit_key : Dossier → Numbering → ℕ
  cinit_key d ρ = pred_key d.cinit (with_concrete d ρ) ρ z (cinit_at d + 2)

  pub conditions-first : (f ≡ 0 → ⊥) → (U : Names) → ConditionsSeen code A C T U z f
  unfolding conditions_key
  conditions-first not U =
      record {
        right = λ d ρ e v. inside-some _ (ainit-fault d ρ v e) not;
        named = λ d ρ e v w. elim (not w) [ ];
      }

  module _ (f-none : f ≡ 0) (behind : List ℕ) (q : ℕ) (behind-is : behind ≡ drop p code) (qe : PredicateEnd behind q) (bs : List ℕ) (bs-is : bs ≡ take q behind) (T₃ T₄ T₅ : Names) (g : ℕ)
      (hid : HiddenSeen A 0 2 T₂ T₃) (two : ShownSeen C 0 T₃ T₄) (seen₂ : ConditionSeen bs T₄ T₅ z g) where
    module _ (d : Dossier) (ρ : Numbering) (v : Variables (declarations d.abstract) (declarations d.concrete) ρ A C) where
      with-concrete : T₄ ≡ with_concrete d ρ
      with-concrete =
          two (second_of d) v.j ρ (concrete-variables d ρ v)
          ∙ ap (λ (t : Names). shown (second_of d) 0 t ρ)
          (hid (first_of d) v.i ρ (abstract-variables d ρ v) ∙ ap (λ (t : Names). hidden (first_of d) 0 2 t ρ) (seen.kept ∙ with-abstract d ρ v))

      cinit-fault : code ≡ three_codes d ρ → g ≡ cinit_key d ρ
      cinit-fault e =
          seen₂.right d.cinit (cinit_at d + 2) ρ (cinit-part code p pe d ρ e behind q behind-is qe bs bs-is)
          ∙ ap (λ (t : Names). pred_key d.cinit t ρ z (cinit_at d + 2)) with-concrete

    pub conditions-second : (g ≡ 0 → ⊥) → (U : Names) → ConditionsSeen code A C T U z g
    unfolding conditions_key
    conditions-second not U =
        record {
          right = λ d ρ e v. inside-some _ (cinit-fault d ρ v e) not ∙ inside-none (ainit-fault d ρ v e) f-none;
          named = λ d ρ e v w. elim (not w) [ ];
        }

    pub conditions-third : g ≡ 0 → (cs : List ℕ) → cs ≡ drop q behind → (T₆ T₇ T₈ U : Names) (h : ℕ) → ShownSeen A 0 T₅ T₆ → ConditionSeen cs T₆ T₇ z h → HiddenSeen A 0 2 T₇ T₈
        → HiddenSeen C 0 2 T₈ U → ConditionsSeen code A C T U z h
    unfolding conditions_key conditions_named
    conditions-third g-none cs cs-is T₆ T₇ T₈ U h three seen₃ hid₂ hid₃ =
        record {
          right =
              λ d ρ e v.
              let t : T₆ ≡ shown (first_of d) 0 (with_concrete d ρ) ρ = three (first_of d) v.i ρ (abstract-variables d ρ v) ∙ ap (λ (t : Names). shown (first_of d) 0 t ρ) (seen₂.kept ∙ with-concrete d ρ v) in
              seen₃.right d.retrieve (retrieve_at d + 2) ρ (retrieve-part code p pe d ρ e behind q behind-is qe cs cs-is)
              ∙ (ap (λ (t : Names). pred_key d.retrieve t ρ z (retrieve_at d + 2)) t
              ∙ (inside-none (cinit-fault d ρ v e) g-none ∙ inside-none (ainit-fault d ρ v e) f-none));
          named =
              λ d ρ e v w.
              let t : T₆ ≡ shown (first_of d) 0 (with_concrete d ρ) ρ = three (first_of d) v.i ρ (abstract-variables d ρ v) ∙ ap (λ (t : Names). shown (first_of d) 0 t ρ) (seen₂.kept ∙ with-concrete d ρ v) in
              hid₃ (second_of d) v.j ρ (concrete-variables d ρ v)
              ∙ ap (λ (t : Names). hidden (second_of d) 0 2 t ρ)
              (hid₂ (first_of d) v.i ρ (abstract-variables d ρ v) ∙ ap (λ (t : Names). hidden (first_of d) 0 2 t ρ) (seen₃.kept ∙ t));
        }
