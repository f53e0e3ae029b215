-- A row of the reader's groups: the places of declared names whose types stand in the table are those of the nodes of their variables.
use mathlib.Core.Path.{◌≡◌, refl, sym, ap, ◌∙◌, subst}
use mathlib.Core.Bool.{Bool, true, false, cond}
use mathlib.Core.List.{List, [], ◌∷◌, ◌++◌, append_assoc}
use Prim.Native.Nat.{ℕ, suc, ◌+◌, ◌-◌, ◌*◌, ◌<◌, ◌≤◌}
use native.Mathlib.Omega.{arith}
use lib.ListN.{length, get_or, replicate}
use Rattle.lexical.specs.Lists.{filter}
use Rattle.lexical.specs.Symbols.{Ending}
use Rattle.form.specs.Tree.{Given, Declaration, Parameter}
use Rattle.static_rules.specs.Carriers.{Carrier, Variable, size_of}
use Rattle.static_rules.specs.Scope.{variables}
use Rattle.static_rules.specs.Limits.{binding_count}
use Rattle.meaning.specs.Bindings.{Among}
use Rattle.read_predicates.proofs.ParserItemNodes.{Split, split-next, split-as, split_at}
use Rattle.read_predicates.proofs.NodeSpansStructure.{split-move}
use Rattle.slot_carriers.specs.TypeNodes.{Stands, TypeNode}
use Rattle.slot_carriers.specs.DeclaredGroups.{NodesOf}
use Rattle.value_types.specs.FaultlessContexts.{DeclarationsWithin}
use Rattle.value_types.proofs.DeclaredCarriers.{HaveCarriers, HasCarrier, declarations_of, variable_of}
use Rattle.read_predicates.specs.TablePlacesDossierTable.{type_table, row, state_row, parameter_row}
use Rattle.readings.specs.Readings.{GroupAt}
use Rattle.readings.proofs.TypeNumbers.{StandsFor, type-stands}
use Rattle.readings.proofs.TablePatches.{TypesAt, no_types, more_types}
use Rattle.static_rules.proofs.FoundCarriers.{variables-one}

-- places and variables side by side
pub data Noded (table : List ℕ) : List ℕ → List Variable → Type 0 where
  none_noded : Noded table [] []
  one_noded : {q : ℕ} {qs : List ℕ} {v : Variable} {vs : List Variable} → q + 8 ≤ 16384 → TypeNode table (q + 4) v.carrier → Noded table qs vs
      → Noded table (q ∷ qs) (v ∷ vs)

noded-long : {table qs : List ℕ} {vs : List Variable} → Noded table qs vs → length qs ≡ length vs
noded-long none_noded = refl
noded-long (one_noded l n r) = ap suc (noded-long r)

-- ---- in the groups

module _ {table groups : List ℕ} where
  noded-nodes : {qs : List ℕ} {vs : List Variable} → Noded table qs vs → (p : ℕ) (post : List ℕ) → Split groups p (qs ++ post) → NodesOf table groups p vs
  unfolding NodesOf
  noded-nodes none_noded p post s = tt
  noded-nodes (one_noded {q = q} {qs = qs} {v = v} l n r) p post s =
      let z : p ≡ p + 0 = omega arith in
      let e : get_or groups p 0 ≡ q = ap (λ (i : ℕ). get_or groups i 0) z ∙ split_at s 0 in (
        subst (λ (i : ℕ). i + 8 ≤ 16384) (sym e) l,
        subst (λ (i : ℕ). TypeNode table (i + 4) v.carrier) (sym e) n,
        noded-nodes r (suc p) post (split-move (omega arith) (split-next (q ∷ []) (qs ++ post) s)),
      )

  pub group_at : {qs : List ℕ} {vs : List Variable} → Noded table qs vs → (p width : ℕ) (post : List ℕ) → Split groups p (row width qs ++ post) → (many few : ℕ)
      → length vs ≤ many → binding_count vs ≤ few → GroupAt table groups p vs many few
  unfolding row
  group_at {qs} r p width post s many few h b =
      let z : p ≡ p + 0 = omega arith in
      record {
        count = ap (λ (i : ℕ). get_or groups i 0) z ∙ split_at s 0 ∙ noded-long r;
        nodes = noded-nodes r (p + 1) (replicate (width - length qs) 0 ++ post)
            (split-as (append_assoc qs (replicate (width - length qs) 0) post) (split-next (length qs ∷ []) (qs ++ replicate (width - length qs) 0 ++ post) s));
        short = h;
        bindings = b;
      }

-- ---- of declarations

module _ (table : List ℕ) (gs : List Given) (few : (g : Given) → Among g gs → size_of g ≤ 8) where
  type-node : (q : ℕ) (piece : List ℕ) (c : Carrier) → ((k : ℕ) → k < 4 → get_or table (q + 4 + k) 0 ≡ get_or piece k 0) → StandsFor piece c → TypeNode table (q + 4) c
  type-node q piece c f s =
      let z : q + 4 ≡ q + 4 + 0 = omega arith in
      let e : get_or table (q + 4) 0 ≡ get_or piece 0 0 = ap (λ (i : ℕ). get_or table i 0) z ∙ f 0 (omega arith) in
      subst (λ (x : ℕ). Stands x (get_or table (q + 4 + 1) 0) (get_or table (q + 4) 0) c) (sym (f 3 (omega arith)))
      (subst (λ (x : ℕ). Stands (get_or piece 3 0) x (get_or table (q + 4) 0) c) (sym (f 1 (omega arith)))
      (subst (λ (x : ℕ). Stands (get_or piece 3 0) (get_or piece 1 0) x c) (sym e) s))

  -- one more declaration
  declared-noded : (e : Ending) (q : ℕ) (qs : List ℕ) (x : Declaration) (ds : List Declaration) (h : HasCarrier gs x.type) → DeclarationsWithin (x ∷ [])
      → ((k : ℕ) → k < 4 → get_or table (q + 4 + k) 0 ≡ get_or (type_table x.type gs) k 0) → q + 8 ≤ 16384 → Noded table qs (variables gs e ds)
      → Noded table (q ∷ qs) (variables gs e (x ∷ ds))
  unfolding DeclarationsWithin
  declared-noded e q qs x ds h w f l r =
      subst (Noded table (q ∷ qs)) (sym (variables-one gs e x ds h.carrier h.is))
      (one_noded {v = variable_of e x h.carrier} l
      (type-node q (type_table x.type gs) h.carrier f (type-stands gs few x.type h.carrier h.is (h.fits w.0) w.0)) r)

  pub state-noded : (e : Ending) {q : ℕ} {ds : List Declaration} → TypesAt table gs q ds → HaveCarriers gs ds → DeclarationsWithin ds → q + 8 * length ds ≤ 16384
      → Noded table (state_row q ds) (variables gs e ds)
  unfolding state_row variables HaveCarriers DeclarationsWithin
  state-noded e no_types h w l = none_noded
  state-noded e {q} (more_types {d = x} {ds = ds} f r) h w l =
      declared-noded e q (state_row (q + 8) ds) x ds h.0 (w.0, tt) f (omega arith) (state-noded e r h.1 w.1 (omega arith))

  pub parameters-noded : (f : Parameter → Bool) (e : Ending) (q : ℕ) (xs : List Parameter) → TypesAt table gs q (declarations_of xs) → HaveCarriers gs (declarations_of xs)
      → DeclarationsWithin (declarations_of xs) → q + 8 * length xs ≤ 16384 → Noded table (parameter_row f q xs) (variables gs e (declarations_of (filter f xs)))
  unfolding parameter_row filter variables HaveCarriers DeclarationsWithin
  parameters-noded f e q [] t h w l = none_noded
  parameters-noded f e q (x ∷ xs) (more_types g r) h w l = on (f x) (parameters-noded f e (q + 8) xs r h.1 w.1 (omega arith))
    where
      on : (b : Bool) → Noded table (parameter_row f (q + 8) xs) (variables gs e (declarations_of (filter f xs)))
          → Noded table (cond b (q ∷ []) [] ++ parameter_row f (q + 8) xs)
          (variables gs e (declarations_of (elim b as (λ (c : Bool). List Parameter) [ true ↦ x ∷ filter f xs | false ↦ filter f xs ])))
      on true k =
          declared-noded e q (parameter_row f (q + 8) xs) x.declaration (declarations_of (filter f xs)) h.0 (w.0, tt) g (omega arith) k
      on false k = k
