-- A row of the reader's groups: the labels gathered from the nodes of declared names are those of the variables.
use mathlib.Core.Path.{◌≡◌, sym, ap, ◌∙◌, subst}
use mathlib.Core.Bool.{Bool, true, false, cond}
use mathlib.Core.List.{List, [], ◌∷◌, ◌++◌, append_assoc}
use Prim.Native.Nat.{ℕ, suc, ◌+◌, ◌-◌, ◌*◌, ◌<◌, ◌≤◌}
use native.Mathlib.Omega.{arith}
use lib.ListN.{length, get_or, replicate}
use Rattle.lexical.specs.Lists.{filter}
use Rattle.lexical.specs.Symbols.{no_ending, Ending}
use Rattle.form.specs.Tree.{Given, Declaration, Parameter}
use Rattle.static_rules.specs.Carriers.{Carrier, Variable}
use Rattle.static_rules.specs.Scope.{variables}
use Rattle.parser.proofs.ItemNodes.{Split, split-next, split-as, split_at}
use Rattle.declared_names.specs.NamesByNumber.{variables_of, parameters_of}
use Rattle.node_spans.proofs.Structure.{split-move}
use Rattle.value_types.proofs.DeclaredCarriers.{HaveCarriers, HasCarrier, declarations_of, variable_of}
use Rattle.readings.specs.TablePlacesDossierTable.{type_table, row, state_row, parameter_row}
use Rattle.readings.proofs.TablePatches.{TypesAt, no_types, more_types}
use Rattle.labels.specs.Labels.{SpeltAt, Typed, LabelAt, LabelsFrom}
use Rattle.labels.specs.LabelPromises.{name_byte, VariableGathered, VariablesGathered}
use Rattle.labels.proofs.TypeLabels.{TypedBy, type-typed}
use Rattle.labels.proofs.NamedNodes.{NamesAt, more_names}
use Rattle.static_rules.proofs.FoundCarriers.{variables-one}

-- the node of a variable's name stands at q, and in the table behind it the numbers of its type
pub record VariableNode (text nodes starts table : List ℕ) (gs : List Given) (q : ℕ) (v : Variable) : Type 0 where
  pub spelt : SpeltAt text (name_byte nodes starts q) v.called.letters
  pub typed : Typed gs (get_or table (q + 7) 0) (get_or table (q + 6) 0) (get_or table (q + 4) 0) v.carrier

-- places and variables side by side
pub data Labelled (text nodes starts table : List ℕ) (gs : List Given) : List ℕ → List Variable → Type 0 where
  none_labelled : Labelled text nodes starts table gs [] []
  one_labelled : {q : ℕ} {qs : List ℕ} {v : Variable} {vs : List Variable} → VariableNode text nodes starts table gs q v → Labelled text nodes starts table gs qs vs
      → Labelled text nodes starts table gs (q ∷ qs) (v ∷ vs)

-- ---- in the groups

module _ {text nodes starts table groups old new : List ℕ} {gs : List Given} (gathered : VariablesGathered nodes starts table groups old new) where
  label_at : (i q : ℕ) (v : Variable) → i < 160 → get_or groups i 0 ≡ q → VariableNode text nodes starts table gs q v → LabelAt text new gs i v
  label_at i q v l e n =
      let g : VariableGathered nodes starts table groups new i = gathered.each i l in
      record {
        spelt = subst (λ (p : ℕ). SpeltAt text p v.called.letters) (sym (g.name ∙ ap (name_byte nodes starts) e)) n.spelt;
        typed =
            subst (λ (x : ℕ). Typed gs x (get_or new (80 + 4 * i + 2) 0) (get_or new (80 + 4 * i + 3) 0) v.carrier) (sym (g.shape ∙ ap (λ (k : ℕ). get_or table (k + 7) 0) e))
            (subst (λ (x : ℕ). Typed gs (get_or table (q + 7) 0) x (get_or new (80 + 4 * i + 3) 0) v.carrier) (sym (g.sides ∙ ap (λ (k : ℕ). get_or table (k + 6) 0) e))
            (subst (λ (x : ℕ). Typed gs (get_or table (q + 7) 0) (get_or table (q + 6) 0) x v.carrier) (sym (g.size ∙ ap (λ (k : ℕ). get_or table (k + 4) 0) e)) n.typed));
      }

  labels_from : {qs : List ℕ} {vs : List Variable} → Labelled text nodes starts table gs qs vs → (p : ℕ) (post : List ℕ) → Split groups p (qs ++ post)
      → p + length vs ≤ 160 → LabelsFrom text new gs p vs
  unfolding LabelsFrom
  labels_from none_labelled p post s l = tt
  labels_from (one_labelled {q = q} {qs = qs} {v = v} n r) p post s l =
      let z : p ≡ p + 0 = omega arith in (
        label_at p q v (omega arith) (ap (λ (i : ℕ). get_or groups i 0) z ∙ split_at s 0) n,
        labels_from r (suc p) post (split-move (omega arith) (split-next (q ∷ []) (qs ++ post) s)) (omega arith),
      )

  -- a row: how many variables there are, and then their places
  pub row-labels : {qs : List ℕ} {vs : List Variable} → Labelled text nodes starts table gs qs vs → (p width : ℕ) (post : List ℕ)
      → Split groups p (row width qs ++ post) → (i : ℕ) → p + 1 ≡ i → i + length vs ≤ 160 → LabelsFrom text new gs i vs
  unfolding row
  row-labels {qs} r p width post s i e l =
      labels_from r i (replicate (width - length qs) 0 ++ post)
      (split-move e (split-as (append_assoc qs (replicate (width - length qs) 0) post) (split-next (length qs ∷ []) (qs ++ replicate (width - length qs) 0 ++ post) s))) l

-- ---- of declarations

module _ (text nodes starts table : List ℕ) (gs : List Given) (few : length gs ≤ 8) where
  type-typed-at : (q : ℕ) (piece : List ℕ) (c : Carrier) → ((k : ℕ) → k < 4 → get_or table (q + 4 + k) 0 ≡ get_or piece k 0) → TypedBy gs piece c
      → Typed gs (get_or table (q + 7) 0) (get_or table (q + 6) 0) (get_or table (q + 4) 0) c
  type-typed-at q piece c f t =
      let at : (i k : ℕ) → i ≡ q + 4 + k → k < 4 → get_or piece k 0 ≡ get_or table i 0 = λ i k e l. sym (ap (λ (n : ℕ). get_or table n 0) e ∙ f k l) in
      subst (λ (x : ℕ). Typed gs x (get_or table (q + 6) 0) (get_or table (q + 4) 0) c) (at (q + 7) 3 (omega arith) (omega arith))
      (subst (λ (x : ℕ). Typed gs (get_or piece 3 0) x (get_or table (q + 4) 0) c) (at (q + 6) 2 (omega arith) (omega arith))
      (subst (λ (x : ℕ). Typed gs (get_or piece 3 0) (get_or piece 2 0) x c) (at (q + 4) 0 (omega arith) (omega arith)) t))

  -- one more declaration
  declared-labelled : (e : Ending) (q : ℕ) (qs : List ℕ) (x : Declaration) (ds : List Declaration) → HasCarrier gs x.type
      → SpeltAt text (name_byte nodes starts q) x.declared → ((k : ℕ) → k < 4 → get_or table (q + 4 + k) 0 ≡ get_or (type_table x.type gs) k 0)
      → Labelled text nodes starts table gs qs (variables gs e ds) → Labelled text nodes starts table gs (q ∷ qs) (variables gs e (x ∷ ds))
  declared-labelled e q qs x ds h n f r =
      subst (Labelled text nodes starts table gs (q ∷ qs)) (sym (variables-one gs e x ds h.carrier h.is))
      (one_labelled {v = variable_of e x h.carrier}
      (record { spelt = n; typed = type-typed-at q (type_table x.type gs) h.carrier f (type-typed gs few x.type h.carrier h.is) }) r)

  pub state-labelled : (e : Ending) {q : ℕ} {ds : List Declaration} → TypesAt table gs q ds → NamesAt text nodes starts q (variables_of no_ending ds) → HaveCarriers gs ds
      → Labelled text nodes starts table gs (state_row q ds) (variables gs e ds)
  unfolding state_row variables variables_of HaveCarriers
  state-labelled e no_types n h = none_labelled
  state-labelled e {q} (more_types {d = x} {ds = ds} f r) (more_names s n) h =
      declared-labelled e q (state_row (q + 8) ds) x ds h.0 s f (state-labelled e r n h.1)

  pub parameters-labelled : (f : Parameter → Bool) (e : Ending) (q : ℕ) (xs : List Parameter) → TypesAt table gs q (declarations_of xs)
      → NamesAt text nodes starts q (parameters_of xs) → HaveCarriers gs (declarations_of xs)
      → Labelled text nodes starts table gs (parameter_row f q xs) (variables gs e (declarations_of (filter f xs)))
  unfolding parameter_row filter variables parameters_of HaveCarriers
  parameters-labelled f e q [] t n h = none_labelled
  parameters-labelled f e q (x ∷ xs) (more_types g r) (more_names s n) h = on (f x) (parameters-labelled f e (q + 8) xs r n h.1)
    where
      on : (b : Bool) → Labelled text nodes starts table gs (parameter_row f (q + 8) xs) (variables gs e (declarations_of (filter f xs)))
          → Labelled text nodes starts table gs (cond b (q ∷ []) [] ++ parameter_row f (q + 8) xs)
          (variables gs e (declarations_of (elim b as (λ (c : Bool). List Parameter) [ true ↦ x ∷ filter f xs | false ↦ filter f xs ])))
      on true k = declared-labelled e q (parameter_row f (q + 8) xs) x.declaration (declarations_of (filter f xs)) h.0 s g k
      on false k = k
