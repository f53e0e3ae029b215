-- Each predicate with the names in its reach: a state, the conditions, an operation, all operations, the whole.
use mathlib.Core.Path.{◌≡◌, refl, ap, ap₂, sym, ◌∙◌, subst}
use mathlib.Core.List.{List, [], ◌∷◌}
use Prim.Native.Nat.{ℕ, suc, ◌+◌, ◌-◌, ◌*◌, ◌≤◌, ◌<◌}
use native.Mathlib.Nat.{zero-add}
use native.Mathlib.Numerals.{add-one}
use native.Mathlib.Omega.{arith}
use lib.ListN.{length, take, get_or, set}
use lib.Seq.{length-take-le}
use Rattle.lexical.specs.Symbols.{no_ending}
use Rattle.form.specs.Tree.{Letters, Pred, Declaration, declarations, Operation, Dossier}
use Rattle.form.specs.Headings.{ainit_at, cinit_at, retrieve_at, operation_length}
use Rattle.form.specs.Codes.{Numbering, number_of_name, abstractly_at, pred_width, declaration_codes, parameter_codes}
use Rattle.static_rules.specs.Scope.{operation_contexts}
use Rattle.type_rules.specs.TypesByNumber.{Names, Sizes}
use Rattle.declared_names.specs.NamesByNumber.{Typed, typed_codes, variables_of, parameters_of, shown, hidden, state_named, reaching, leaving, title_named, parameters_shown, operation_named, conditions_named}
use Rattle.parser.specs.Sections.{PartOf}
use Rattle.declared_names.specs.PassPromises.{ShownSeen, HiddenSeen, Variables}
use Rattle.names.proofs.PassSteps.{variables-codes, parameters-codes}
use Rattle.node_spans.specs.Spans.{span, OperationAt, OperationsAt, no_more, one_more}
use Rattle.table_nodes.specs.declared.Made.{Made}
use Rattle.table_nodes.specs.TableByNumber.{Places, pred_table}
use Rattle.table_nodes.specs.TableWalkPromises.{patch, PredMade}
use Rattle.table_places.specs.DossierTable.{operation_starts}
use Rattle.table_places.specs.DossierTableByNumber.{operation_kinds, operation_places, with_tables}
use Rattle.table_places.specs.TablePromises.{ParametersSet, written, PredicateSet, StateSet, with_conditions, ConditionsSet, SideSet, abstract_kinds, concrete_kinds, placed_in, with_operation, OperationStands, OperationSet, TitlesAt, no_titles, one_title, tables_from, OperationsSet}
use Rattle.node_spans.proofs.StandingParts.{part-stands}

-- a predicate
pub predicate-set : (nodes : List ℕ) (end : ℕ) (T U : Names) (W Y : Places) (z : Sizes) (out after : List ℕ) (r : Made) → PredMade nodes end 38 T U W Y z out after r
    → PredicateSet nodes end T U W Y z out after
predicate-set nodes end T U W Y z out after r s =
    record {
      kept = s.walked.kept;
      places_kept = s.walked.places_kept;
      right =
          λ p from i ρ h.
          let o = h.ordered in
          let u = h.inside in
          (s.right p i ρ (take (from + 4) nodes) h.stands).written
          ∙ ap (λ (n : ℕ). patch n (pred_table p T W z ρ 38 n) out) (length-take-le (from + 4) nodes (omega arith));
    }

pub predicate-none : (nodes : List ℕ) (end : ℕ) (T : Names) (W : Places) (z : Sizes) (out : List ℕ) → length nodes < end → PredicateSet nodes end T T W W z out out
predicate-none nodes end T W z out l =
    record { kept = refl; places_kept = refl; right = λ p from i ρ h. let u = h.inside in absurd (omega arith) }

-- the predicate written from equal names, places and tables
written_as : (p : Pred) (z : Sizes) (ρ : Numbering) (q : ℕ) {T T' : Names} {W W' : Places} {out out' : List ℕ} → T ≡ T' → W ≡ W' → out ≡ out'
    → written p T W z ρ q out ≡ written p T' W' z ρ q out'
written_as p z ρ q {T} {T'} {W} {W'} {out} {out'} t w o =
    ap₂ (λ (a : Names) (b : Places). written p a b z ρ q out) t w ∙ ap (λ (l : List ℕ). written p T' W' z ρ q l) o

-- names shown and hidden, by declarations
abbrev plain : List Declaration → List Typed
plain ds = variables_of no_ending ds

module _ (vs : List ℕ) (ds : List Declaration) (j : ℕ) (ρ : Numbering) (e : vs ≡ declaration_codes j ds ρ) where
  typed : vs ≡ typed_codes j (plain ds) ρ
  typed = e ∙ sym (variables-codes j ds ρ)

  shows : (s : ℕ) {T T' U : Names} → T ≡ T' → ShownSeen vs s T U → U ≡ shown (plain ds) s T' ρ
  shows s t h = h (plain ds) j ρ typed ∙ ap (λ (l : Names). shown (plain ds) s l ρ) t

  hides : (s k : ℕ) {T T' U : Names} → T ≡ T' → HiddenSeen vs s k T U → U ≡ hidden (plain ds) s k T' ρ
  hides s k t h = h (plain ds) j ρ typed ∙ ap (λ (l : Names). hidden (plain ds) s k l ρ) t

-- a state
pub state-set : (nodes vs : List ℕ) (first last end : ℕ) (T T₁ T₂ U : Names) (W Y : Places) (z : Sizes) (out after : List ℕ) → PartOf nodes first last vs → ShownSeen vs 0 T T₁
    → PredicateSet nodes end T₁ T₂ W Y z out after → HiddenSeen vs 0 2 T₂ U → StateSet nodes first last end T U W Y z out after
unfolding state_named
state-set nodes vs first last end T T₁ T₂ U W Y z out after p one h two =
    record {
      places_kept = h.places_kept;
      named =
          λ s i ρ w.
          let e : vs ≡ declaration_codes i (declarations s) ρ = part-stands nodes first last vs (declaration_codes i (declarations s) ρ) p w in
          hides vs (declarations s) i ρ e 0 2 (h.kept ∙ shows vs (declarations s) i ρ e 0 refl one) two;
      right =
          λ s i j ρ w a.
          let e : vs ≡ declaration_codes i (declarations s) ρ = part-stands nodes first last vs (declaration_codes i (declarations s) ρ) p w in
          h.right s.predicate last j ρ a ∙ written_as s.predicate z ρ (last + 4) (shows vs (declarations s) i ρ e 0 refl one) refl refl;
    }

-- a predicate of an operation
pub side_set : (nodes vs : List ℕ) (end : ℕ) (T T₁ T₂ T₃ T₄ U : Names) (W Y : Places) (z : Sizes) (out after : List ℕ) → ShownSeen vs 0 T T₁ → ShownSeen vs 1 T₁ T₂
    → PredicateSet nodes end T₂ T₃ W Y z out after → HiddenSeen vs 0 2 T₃ T₄ → HiddenSeen vs 1 0 T₄ U → SideSet nodes vs end T U W Y z out after
unfolding reaching leaving
side_set nodes vs end T T₁ T₂ T₃ T₄ U W Y z out after one two h three four =
    record {
      places_kept = h.places_kept;
      named =
          λ ds j ρ e.
          hides vs ds j ρ e 1 0 (hides vs ds j ρ e 0 2 (h.kept ∙ shows vs ds j ρ e 1 (shows vs ds j ρ e 0 refl one) two) three) four;
      right =
          λ p ds from i j ρ e a.
          h.right p from i ρ a ∙ written_as p z ρ (from + 4) (shows vs ds j ρ e 1 (shows vs ds j ρ e 0 refl one) two) refl refl;
    }

-- ainit, cinit and retrieve
module _ (nodes A C : List ℕ) (e₁ e₂ e₃ : ℕ) (T T₁ T₂ T₃ T₄ T₅ T₆ T₇ T₈ U : Names) (W W₁ W₂ W₃ : Places) (z : Sizes) (out out₁ out₂ after : List ℕ)
    (s₁ : ShownSeen A 0 T T₁) (p₁ : PredicateSet nodes e₁ T₁ T₂ W W₁ z out out₁) (h₁ : HiddenSeen A 0 2 T₂ T₃) (s₂ : ShownSeen C 0 T₃ T₄)
    (p₂ : PredicateSet nodes e₂ T₄ T₅ W₁ W₂ z out₁ out₂) (s₃ : ShownSeen A 0 T₅ T₆) (p₃ : PredicateSet nodes e₃ T₆ T₇ W₂ W₃ z out₂ after)
    (h₂ : HiddenSeen A 0 2 T₇ T₈) (h₃ : HiddenSeen C 0 2 T₈ U) where
  module _ (d : Dossier) (ρ : Numbering) (v : Variables (declarations d.abstract) (declarations d.concrete) ρ A C) where
    abbrev av : List Declaration
    av = declarations d.abstract

    abbrev cv : List Declaration
    cv = declarations d.concrete

    first-names : T₁ ≡ shown (plain av) 0 T ρ
    first-names = shows A av v.i ρ v.first 0 refl s₁

    second-names : T₄ ≡ shown (plain cv) 0 (hidden (plain av) 0 2 (shown (plain av) 0 T ρ) ρ) ρ
    second-names = shows C cv v.j ρ v.second 0 (hides A av v.i ρ v.first 0 2 (p₁.kept ∙ first-names) h₁) s₂

    third-names : T₆ ≡ shown (plain av) 0 (shown (plain cv) 0 (hidden (plain av) 0 2 (shown (plain av) 0 T ρ) ρ) ρ) ρ
    third-names = shows A av v.i ρ v.first 0 (p₂.kept ∙ second-names) s₃

  pub conditions-set : ConditionsSet nodes A C e₁ e₂ e₃ T U W W₃ z out after
  unfolding conditions_named with_conditions
  conditions-set =
      record {
        places_kept = p₃.places_kept ∙ (p₂.places_kept ∙ p₁.places_kept);
        named =
            λ d ρ v.
            hides C (declarations d.concrete) v.j ρ v.second 0 2
            (hides A (declarations d.abstract) v.i ρ v.first 0 2 (p₃.kept ∙ third-names d ρ v) h₂) h₃;
        right =
            λ d ρ v a w₁ w₂ w₃.
            let f₁ = p₁.right d.ainit a (ainit_at d + 2) ρ w₁ ∙ written_as d.ainit z ρ (a + 4) (first-names d ρ v) refl refl in
            let f₂ = p₂.right d.cinit e₁ (cinit_at d + 2) ρ w₂ ∙ written_as d.cinit z ρ (e₁ + 4) (second-names d ρ v) p₁.places_kept f₁ in
            p₃.right d.retrieve e₂ (retrieve_at d + 2) ρ w₃
            ∙ written_as d.retrieve z ρ (e₂ + 4) (third-names d ρ v) (p₂.places_kept ∙ p₁.places_kept) f₂;
      }

-- an operation
pub operation-set : (nodes A C ps : List ℕ) (first last middle end x : ℕ) (T T₁ T₂ T₃ T₄ U : Names) (W W₁ W₂ Y : Places) (z : Sizes) (out out₁ after : List ℕ)
    → (4 ≤ first → x ≡ get_or nodes (first - 4 + 1) 0) → T₁ ≡ set T x 2 → PartOf nodes first last ps → ShownSeen ps 0 T₁ T₂ → ParametersSet ps W W₁
    → SideSet nodes A middle T₂ T₃ W₁ W₂ z out out₁ → SideSet nodes C end T₃ T₄ W₂ Y z out₁ after → HiddenSeen ps 0 0 T₄ U
    → OperationSet nodes A C first last middle end T U W Y z out after
unfolding operation_named
operation-set nodes A C ps first last middle end x T T₁ T₂ T₃ T₄ U W W₁ W₂ Y z out out₁ after title put part one places a b last-hidden o av cv ρ s v =
    let qs : List Typed = parameters_of o.parameters in
    let i : ℕ = s.i in
    let e : ps ≡ parameter_codes i o.parameters ρ = part-stands nodes first last ps (parameter_codes i o.parameters ρ) part s.parameters in
    let t : ps ≡ typed_codes i qs ρ = e ∙ sym (parameters-codes i o.parameters ρ) in
    let n₁ : T₁ ≡ title_named o T ρ = put ∙ ap (λ (m : ℕ). set T m 2) (title s.behind ∙ s.title) in
    let n₂ : T₂ ≡ parameters_shown o T ρ = one qs i ρ t ∙ ap (λ (l : Names). shown qs 0 l ρ) n₁ in
    let w : W₁ ≡ placed_in o W ρ = places o.parameters i ρ e in
    let n₃ : T₃ ≡ leaving av (abstract_kinds o av T ρ) ρ = a.named av v.i ρ v.first ∙ ap (λ (l : Names). leaving av (reaching av l ρ) ρ) n₂ in
    let n₄ : T₄ ≡ leaving cv (concrete_kinds o av cv T ρ) ρ = b.named cv v.j ρ v.second ∙ ap (λ (l : Names). leaving cv (reaching cv l ρ) ρ) n₃ in
    let f₁ : out₁ ≡ written o.abstractly (abstract_kinds o av T ρ) (placed_in o W ρ) z ρ (last + 4) out =
    a.right o.abstractly av last s.j v.i ρ v.first s.abstractly
    ∙ written_as o.abstractly z ρ (last + 4) (ap (λ (l : Names). reaching av l ρ) n₂) w refl in
    record {
      named = last-hidden qs i ρ t ∙ ap (λ (l : Names). hidden qs 0 0 l ρ) n₄;
      placed = b.places_kept ∙ (a.places_kept ∙ w);
      filled =
          b.right o.concretely cv middle s.k v.j ρ v.second s.concretely
          ∙ written_as o.concretely z ρ (middle + 4) (ap (λ (l : Names). reaching cv l ρ) n₃) (a.places_kept ∙ w) f₁;
    }

-- a walk over the operations: those that are left make the same table
pub record Going (d : Dossier) (nodes spans : List ℕ) (k n : ℕ) (T : Names) (W : Places) (z : Sizes) (ρ : Numbering) (out v : List ℕ) : Type 0 where
  pub left : List Operation
  pub place : ℕ
  pub before : List Letters
  pub count : k + length left ≡ n
  pub here : OperationsAt nodes spans ρ k place left
  pub titles : TitlesAt nodes spans ρ k left
  pub same : tables_from d spans k place before left T W z ρ out ≡ v

abbrev pub OperationsOn : (nodes spans A C : List ℕ) (k n : ℕ) (T₀ T : Names) (W₀ W : Places) (z : Sizes) (out₀ out : List ℕ) → Type 0
OperationsOn nodes spans A C k n T₀ T W₀ W z out₀ out =
    (d : Dossier) (os : List Operation) (i : ℕ) (xs : List Letters) (ρ : Numbering) → n ≡ length os → OperationsAt nodes spans ρ 0 i os → TitlesAt nodes spans ρ 0 os
    → Variables (declarations d.abstract) (declarations d.concrete) ρ A C → Going d nodes spans k n T W z ρ out (tables_from d spans 0 i xs os T₀ W₀ z ρ out₀)

pub operations-start : (nodes spans A C : List ℕ) (n : ℕ) (T : Names) (W : Places) (z : Sizes) (out : List ℕ) → OperationsOn nodes spans A C 0 n T T W W z out out
operations-start nodes spans A C n T W z out d os i xs ρ c h t v =
    record { left = os; place = i; before = xs; count = zero-add (length os) ∙ sym c; here = h; titles = t; same = refl }

-- the table of one operation more
one_operation : (d : Dossier) (spans : List ℕ) (k i : ℕ) (xs : List Letters) (o : Operation) (os : List Operation) (T : Names) (W : Places) (z : Sizes) (ρ : Numbering) (out : List ℕ)
    → tables_from d spans k i xs (o ∷ os) T W z ρ out
    ≡ tables_from d spans (suc k) (i + operation_length o) (o.title ∷ xs) os (operation_named o (declarations d.abstract) (declarations d.concrete) T ρ) (placed_in o W ρ) z ρ
    (with_operation o (declarations d.abstract) (declarations d.concrete) T W z ρ (span spans (9 + 4 * k + 1) + 4) (span spans (9 + 4 * k + 2) + 4) out)
unfolding operation_contexts operation_kinds operation_places operation_starts with_tables
one_operation d spans k i xs o os T W z ρ out = refl

pub record SpansRead (spans : List ℕ) (k first last middle end : ℕ) : Type 0 where
  pub first_is : first ≡ span spans (9 + 4 * k)
  pub last_is : last ≡ span spans (9 + 4 * k + 1)
  pub middle_is : middle ≡ span spans (9 + 4 * k + 2)
  pub end_is : end ≡ span spans (9 + 4 * k + 3)

stands_read : (nodes spans : List ℕ) (k i : ℕ) (o : Operation) (ρ : Numbering) (first last middle end : ℕ) → SpansRead spans k first last middle end → OperationAt nodes spans k i o ρ
    → get_or nodes (span spans (9 + 4 * k) - 4 + 1) 0 ≡ number_of_name ρ o.title no_ending → OperationStands nodes first last middle end o ρ
stands_read nodes spans k i o ρ first last middle end r h t =
    subst (λ (m : ℕ). OperationStands nodes m last middle end o ρ) (sym r.first_is)
    (subst (λ (m : ℕ). OperationStands nodes (span spans (9 + 4 * k)) m middle end o ρ) (sym r.last_is)
    (subst (λ (m : ℕ). OperationStands nodes (span spans (9 + 4 * k)) (span spans (9 + 4 * k + 1)) m end o ρ) (sym r.middle_is)
    (subst (λ (m : ℕ). OperationStands nodes (span spans (9 + 4 * k)) (span spans (9 + 4 * k + 1)) (span spans (9 + 4 * k + 2)) m o ρ) (sym r.end_is) whole)))
  where
    whole : OperationStands nodes (span spans (9 + 4 * k)) (span spans (9 + 4 * k + 1)) (span spans (9 + 4 * k + 2)) (span spans (9 + 4 * k + 3)) o ρ
    whole =
        record {
          i = i + 2;
          j = abstractly_at i o;
          k = suc (abstractly_at i o) + pred_width o.abstractly;
          behind = h.heading.behind;
          title = t;
          parameters = h.parameters;
          abstractly = h.abstractly;
          concretely = h.concretely;
        }

module _ (d : Dossier) (nodes spans A C : List ℕ) (k n : ℕ) (T U : Names) (W Y : Places) (z : Sizes) (ρ : Numbering) (out after v : List ℕ) (first last middle end : ℕ)
    (r : SpansRead spans k first last middle end) (set : OperationSet nodes A C first last middle end T U W Y z out after)
    (vs : Variables (declarations d.abstract) (declarations d.concrete) ρ A C) where
  operation-next : (os : List Operation) (i : ℕ) (xs : List Letters) → k < n → k + length os ≡ n → OperationsAt nodes spans ρ k i os → TitlesAt nodes spans ρ k os
      → tables_from d spans k i xs os T W z ρ out ≡ v → Going d nodes spans (k + 1) n U Y z ρ after v
  operation-next [] i xs l c no_more no_titles s = absurd (omega arith)
  operation-next (o ∷ os) i xs l c (one_more h hs) (one_title t ts) s =
      let av : List Declaration = declarations d.abstract in
      let cv : List Declaration = declarations d.concrete in
      let done = set o av cv ρ (stands_read nodes spans k i o ρ first last middle end r h t) vs in
      let filled : after ≡ with_operation o av cv T W z ρ (span spans (9 + 4 * k + 1) + 4) (span spans (9 + 4 * k + 2) + 4) out =
      done.filled ∙ ap₂ (λ (a b : ℕ). with_operation o av cv T W z ρ (a + 4) (b + 4) out) r.last_is r.middle_is in
      record {
        left = os;
        place = i + operation_length o;
        before = o.title ∷ xs;
        count = omega arith;
        here = subst (λ (m : ℕ). OperationsAt nodes spans ρ m (i + operation_length o) os) (sym (add-one k)) hs;
        titles = subst (λ (m : ℕ). TitlesAt nodes spans ρ m os) (sym (add-one k)) ts;
        same =
            ap (λ (m : ℕ). tables_from d spans m (i + operation_length o) (o.title ∷ xs) os U Y z ρ after) (add-one k)
            ∙ (ap₂ (λ (a : Names) (b : Places). tables_from d spans (suc k) (i + operation_length o) (o.title ∷ xs) os a b z ρ after) done.named done.placed
            ∙ (ap (λ (l : List ℕ). tables_from d spans (suc k) (i + operation_length o) (o.title ∷ xs) os (operation_named o av cv T ρ) (placed_in o W ρ) z ρ l) filled
            ∙ (sym (one_operation d spans k i xs o os T W z ρ out) ∙ s)));
      }

operations-end : (d : Dossier) (spans : List ℕ) (k n i : ℕ) (xs : List Letters) (T : Names) (W : Places) (z : Sizes) (ρ : Numbering) (out v : List ℕ) → n ≤ k
    → (os : List Operation) → k + length os ≡ n → tables_from d spans k i xs os T W z ρ out ≡ v → out ≡ v
unfolding operation_contexts with_tables
operations-end d spans k n i xs T W z ρ out v l [] c s = s
operations-end d spans k n i xs T W z ρ out v l (o ∷ os) c s = absurd (omega arith)

pub operations-on : (nodes spans A C : List ℕ) (k n : ℕ) (T₀ T U : Names) (W₀ W Y : Places) (z : Sizes) (out₀ out after : List ℕ) (first last middle end : ℕ) → k < n
    → SpansRead spans k first last middle end → OperationSet nodes A C first last middle end T U W Y z out after
    → OperationsOn nodes spans A C k n T₀ T W₀ W z out₀ out → OperationsOn nodes spans A C (k + 1) n T₀ U W₀ Y z out₀ after
operations-on nodes spans A C k n T₀ T U W₀ W Y z out₀ out after first last middle end l r set w d os i xs ρ c h t v =
    let g = w d os i xs ρ c h t v in
    operation-next d nodes spans A C k n T U W Y z ρ out after (tables_from d spans 0 i xs os T₀ W₀ z ρ out₀) first last middle end r set v g.left g.place g.before l
    g.count g.here g.titles g.same

pub operations-set : (nodes spans A C : List ℕ) (k n : ℕ) (T₀ T : Names) (W₀ W : Places) (z : Sizes) (out₀ out : List ℕ) → n ≤ k
    → OperationsOn nodes spans A C k n T₀ T W₀ W z out₀ out → OperationsSet nodes spans A C n T₀ W₀ z out₀ out
operations-set nodes spans A C k n T₀ T W₀ W z out₀ out l w d os i xs ρ c h t v =
    let g = w d os i xs ρ c h t v in
    operations-end d spans k n g.place g.before T W z ρ out (tables_from d spans 0 i xs os T₀ W₀ z ρ out₀) l g.left g.count g.same
