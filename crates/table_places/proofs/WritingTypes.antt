-- The carriers of declarations: what the code writes for a type's node, and a walk over declarations, with the place of the next one in front of the table.
use mathlib.Core.Path.{◌≡◌, refl, ap, ap₂, sym, ◌∙◌, subst}
use mathlib.Core.Bool.{Bool, true, false, cond, ◌||◌}
use mathlib.Core.Logic.{◌⊎◌, inl, inr, ⊎_elim}
use mathlib.Core.List.{List, [], ◌∷◌, ◌++◌, append-nil, append_assoc}
use Prim.Native.Nat.{ℕ, zero, suc, ◌+◌, ◌-◌, ◌*◌, ◌≤◌, ◌<◌}
use native.Mathlib.Nat.{add-zero, zero-add}
use native.Mathlib.Numerals.{add-one}
use native.Mathlib.Omega.{arith}
use lib.Dec.{eqb}
use lib.ListN.{length, take, drop, get_or, length-drop, take-append-drop}
use lib.Seq.{take_at, drop_at, drop-drop, length-take-le}
use Rattle.names.proofs.DeclaredNamesNodePieces.{Ends, place}
use Rattle.names.proofs.StaticRulesFoundCarriers.{declarations_of}
use borrow.Author.Tests.{ne_eqb}
use Rattle.form.specs.Tree.{TypeForm, given_type, power_type, range_type, arrow_type, relation, partial, total, Declaration, declarations, Parameter, Operation}
use Rattle.form.specs.Headings.{abstract_at, concrete_at, operations_at, operation_length}
use Rattle.form.specs.Codes.{Numbering, node, type_codes, type_width, declaration_codes, parameter_codes}
use Rattle.lexical.specs.Symbols.{no_ending}
use Rattle.std.specs.Bool.{then_some}
use Rattle.std.specs.Option.{unwrap_or}
use Rattle.type_rules.specs.TypesByNumber.{Names, Sizes, entry, is_given, given_in}
use Rattle.names.specs.DeclaredNamesNamesByNumber.{Typed, typed_codes, variables_of, parameters_of}
use Rattle.node_spans.specs.ParserSections.{PartOf}
use Rattle.node_spans.proofs.StandingParts.{part-stands}
use Rattle.names.specs.DeclaredNamesPassPromises.{typed_code}
use Rattle.names.proofs.DeclaredNamesDeclarationNodes.{node-a, node-b, node-shape, shape_of, place_of, left_of, right_of, as-node, typed-type, Walked, finished}
use Rattle.type_rules.proofs.TypeNumbers.{cond_yes, cond_no, given-bounds}
use Rattle.names.proofs.PassSteps.{variables-codes, parameters-codes}
use Rattle.node_spans.specs.Spans.{span, Stands, OperationsAt, no_more, one_more}
use Rattle.table_nodes.specs.TableByNumber.{given_size, range_count}
use Rattle.table_nodes.specs.TableWalkPromises.{patch}
use Rattle.table_places.specs.DossierTableByNumber.{given_index, type_node, with_nodes, with_operations}
use Rattle.table_places.specs.TablePromises.{TypeSet, with_types, TypesSet, OperationTypesSet, declared_by, DeclaredSet}

-- the number of a given set
pub index-of : (k r : ℕ) → r ≡ unwrap_or (given_in k) 0 → (r ≡ given_index k) × (r < 8)
unfolding given_index
index-of k r e = go (is_given k) refl
  where
    go : (f : Bool) → is_given k ≡ f → (r ≡ cond (is_given k) (k - 8) 0) × (r < 8)
    go true h =
        let i : r ≡ k - 8 = e ∙ ap (λ (t : Bool). unwrap_or (then_some t (k - 8)) 0) h in
        let b = given-bounds k h in (i ∙ sym (cond_yes (is_given k) (is_given k) (k - 8) 0 refl h), omega arith)
    go false h =
        let i : r ≡ 0 = e ∙ ap (λ (t : Bool). unwrap_or (then_some t (k - 8)) 0) h in (i ∙ sym (cond_no (is_given k) (is_given k) (k - 8) 0 refl h), omega arith)

-- some of the nodes
pub part-short : (nodes : List ℕ) (from to n : ℕ) (r : List ℕ) → PartOf nodes from to r → length nodes ≤ n → length r ≤ n
part-short nodes from to n r p h = go (length r) refl
  where
    go : (k : ℕ) → length r ≡ k → length r ≤ n
    go zero e = omega arith
    go (suc k) e = let f = p.fits (omega arith) in omega arith

-- the carrier of a type, by the numbers of its node
unfoldable pub node_by : (shape a b x y : ℕ) → Sizes → List ℕ
node_by s a b x y z =
    cond (eqb s 2) (node 2 0 a (range_count a b))
    (cond (eqb s 1 || eqb s 3) (node s (given_index x) (given_size z x) 0) (node s (8 * given_index x + given_index y) (given_size z x) (given_size z y)))

node-by : (t : TypeForm) (T : Names) (z : Sizes) (ρ : Numbering)
    → node_by (shape_of t) (left_of t ρ) (right_of t ρ) (entry T (left_of t ρ)) (entry T (right_of t ρ)) z ≡ type_node t T z ρ
unfolding node_by type_node
node-by (given_type g) T z ρ = refl
node-by (range_type r) T z ρ = refl
node-by (power_type g) T z ρ = refl
node-by (arrow_type relation g h) T z ρ = refl
node-by (arrow_type partial g h) T z ρ = refl
node-by (arrow_type total g h) T z ρ = refl

pub type-set : (code : List ℕ) (at q : ℕ) (T : Names) (z : Sizes) (out after piece : List ℕ) → after ≡ patch q piece out
    → piece ≡ node_by (get_or code (at + 3) 0) (get_or code (at + 1) 0) (get_or code at 0) (entry T (get_or code (at + 1) 0)) (entry T (get_or code at 0)) z
    → TypeSet code at q T z out after
type-set code at q T z out after piece h p t i ρ rest e =
    let n : drop at code ≡ node (shape_of t) (place_of t i) (left_of t ρ) (right_of t ρ) ++ rest = e ∙ ap (λ (l : List ℕ). l ++ rest) (as-node t i ρ) in
    let k = node-shape code at (shape_of t) (place_of t i) (left_of t ρ) (right_of t ρ) rest n in
    let a = node-a code at (shape_of t) (place_of t i) (left_of t ρ) (right_of t ρ) rest n in
    let b = node-b code at (shape_of t) (place_of t i) (left_of t ρ) (right_of t ρ) rest n in
    h ∙ ap (λ (l : List ℕ). patch q l out) (p ∙ (rw (k, a, b) (node-by t T z ρ)))

pub by-range : (s a b x y c : ℕ) (z : Sizes) → s ≡ 2 → c ≡ range_count a b → node 2 0 a c ≡ node_by s a b x y z
unfolding node_by
by-range s a b x y c z e h = ap (λ (n : ℕ). node 2 0 a n) h ∙ sym (ap (λ (n : ℕ). node_by n a b x y z) e)

pub by_one : (s a b x y i n : ℕ) (z : Sizes) → (s ≡ 1) ⊎ (s ≡ 3) → i ≡ given_index x → n ≡ given_size z x → node s i n 0 ≡ node_by s a b x y z
unfolding node_by
by_one s a b x y i n z k p q =
    let known = λ (m : ℕ). node m (given_index x) (given_size z x) 0 ≡ node_by m a b x y z in
    ap₂ (λ (j m : ℕ). node s j m 0) p q ∙ ⊎_elim (λ e. subst known (sym e) refl) (λ e. subst known (sym e) refl) k

pub by_two : (s a b x y i j n m : ℕ) (z : Sizes) → (s ≡ 2 → ⊥) → ((s ≡ 1) ⊎ (s ≡ 3) → ⊥) → i ≡ given_index x → j ≡ given_index y → n ≡ given_size z x → m ≡ given_size z y
    → node s (8 * i + j) n m ≡ node_by s a b x y z
unfolding node_by
by_two s a b x y i j n m z e l p p' q q' =
    ap₂ (λ (k h : ℕ). node s (8 * k + h) n m) p p' ∙ ap₂ (λ (k h : ℕ). node s (8 * given_index x + given_index y) k h) q q'
    ∙ sym (rw (node_by, ne_eqb s 2 e, ne_eqb s 1 (λ h. l (inl h)), ne_eqb s 3 (λ h. l (inr h))) refl)

-- a walk over declarations
abbrev pub typing : Names → Sizes → List Typed → ℕ → List ℕ → Numbering → List ℕ
typing T z xs i S ρ = with_types T z ρ (get_or S 0 0) xs (drop 1 S)

pub typing-start : (T : Names) (z : Sizes) (code : List ℕ) (q : ℕ) (out : List ℕ) → Walked (typing T z) code 0 (q ∷ out) ((q + 8 * 0) ∷ out)
typing-start T z code q out xs i ρ e =
    record { left = xs; place = i; here = e; same = ap (λ (n : ℕ). with_types T z ρ n xs out) (add-zero q) }

pub typing-on : (T : Names) (z : Sizes) (code : List ℕ) (at q q' p : ℕ) (out after : List ℕ) → q' ≡ q + 8 → p ≡ q + 4 → TypeSet code (at + 4) p T z out after
    → (ρ : Numbering) (x : Typed) (xs : List Typed) (j : ℕ) (rest : List ℕ) → drop at code ≡ typed_code j x ρ ++ rest
    → typing T z (x ∷ xs) j (q ∷ out) ρ ≡ typing T z xs (j + 3 + type_width x.type) (q' ∷ after) ρ
unfolding with_types
typing-on T z code at q q' p out after n b h ρ x xs j rest e =
    sym (ap₂ (λ (m : ℕ) (o : List ℕ). with_types T z ρ m xs o) n
    (h x.type (j + 2) ρ rest (typed-type code at x j ρ rest e) ∙ ap (λ (m : ℕ). patch m (type_node x.type T z ρ) out) b))

-- a type's node by itself
pub type-moved : (code : List ℕ) (at m q : ℕ) (T : Names) (z : Sizes) (out after : List ℕ) → m ≡ 4 → TypeSet (take m (drop at code)) 0 q T z out after
    → TypeSet code at q T z out after
type-moved code at m q T z out after h s t i ρ rest d =
    let e = as-node t i ρ in
    s t i ρ []
    (ap₂ (λ (k : ℕ) (l : List ℕ). take k l) h (d ∙ ap (λ (l : List ℕ). l ++ rest) e)
    ∙ take_at (node (shape_of t) (place_of t i) (left_of t ρ) (right_of t ρ)) rest 4 refl
    ∙ sym e
    ∙ sym (append-nil (type_codes t i ρ)))

-- a type's node behind its name's in a piece that is cut off
pub type-behind : (code d rest behind : List ℕ) (q : ℕ) (T : Names) (z : Sizes) (out after : List ℕ) → rest ≡ d ++ behind → length d ≡ 8 → Ends code rest
    → TypeSet (take (length d - 4) (drop 4 d)) 0 q T z out after → TypeSet code (place code rest + 4) q T z out after
type-behind code d rest behind q T z out after cut long e s =
    type-moved code (place code rest + 4) 4 q T z out after refl (subst (λ (l : List ℕ). TypeSet l 0 q T z out after) same s)
  where
    four : length (drop 4 d) ≡ 4
    four = length-drop 4 d ∙ (let n : length d - 4 ≡ 4 = omega (arith, long) in n)

    front : length (take 4 d) ≡ 4
    front = length-take-le 4 d (omega arith)

    left : drop (place code rest + 4) code ≡ drop 4 d ++ behind
    left =
        sym (drop-drop 4 (place code rest) code)
        ∙ ap (drop 4) (e.here ∙ cut ∙ ap (λ (l : List ℕ). l ++ behind) (sym (take-append-drop 4 d)) ∙ append_assoc (take 4 d) (drop 4 d) behind)
        ∙ drop_at (take 4 d) (drop 4 d ++ behind) 4 front

    all : (n : ℕ) (l : List ℕ) → length l ≡ n → take n l ≡ l
    all n l h = ap (take n) (sym (append-nil l)) ∙ take_at l [] n h

    same : take (length d - 4) (drop 4 d) ≡ take 4 (drop (place code rest + 4) code)
    same = all (length d - 4) (drop 4 d) (length-drop 4 d) ∙ sym (ap (take 4) left ∙ take_at (drop 4 d) behind 4 four)

pub types-set : (nodes : List ℕ) (from to : ℕ) (T : Names) (z : Sizes) (code : List ℕ) (at q : ℕ) (out after : List ℕ) → PartOf nodes from to code
    → Walked (typing T z) code at (from ∷ out) (q ∷ after) → length code < at + 8 → TypesSet nodes from to T z out after
unfolding with_types
types-set nodes from to T z code at q out after p w h xs i ρ s =
    finished (typing T z) code at (from ∷ out) (q ∷ after) after w h (λ j σ. refl) xs i ρ (part-stands nodes from to code (typed_codes i xs ρ) p s)

-- the carriers by declarations and by parameters
types-variables : (T : Names) (z : Sizes) (ρ : Numbering) (q : ℕ) (ds : List Declaration) (out : List ℕ) → with_types T z ρ q (variables_of no_ending ds) out ≡ with_nodes T z ρ q ds out
unfolding with_types with_nodes variables_of
types-variables T z ρ q [] out = refl
types-variables T z ρ q (d ∷ ds) out = types-variables T z ρ (q + 8) ds (patch (q + 4) (type_node d.type T z ρ) out)

types-parameters : (T : Names) (z : Sizes) (ρ : Numbering) (q : ℕ) (xs : List Parameter) (out : List ℕ) → with_types T z ρ q (parameters_of xs) out ≡ with_nodes T z ρ q (declarations_of xs) out
unfolding with_types with_nodes parameters_of
types-parameters T z ρ q [] out = refl
types-parameters T z ρ q (x ∷ xs) out = types-parameters T z ρ (q + 8) xs (patch (q + 4) (type_node x.declaration.type T z ρ) out)

pub stands-as : {nodes a b : List ℕ} {from to : ℕ} → a ≡ b → Stands nodes from to a → Stands nodes from to b
stands-as e s = record { ordered = s.ordered; inside = s.inside; stands = s.stands ∙ e }

pub of-declarations : (nodes : List ℕ) (from to i : ℕ) (ds : List Declaration) (T : Names) (z : Sizes) (ρ : Numbering) (out after : List ℕ) → TypesSet nodes from to T z out after
    → Stands nodes from to (declaration_codes i ds ρ) → after ≡ with_nodes T z ρ from ds out
of-declarations nodes from to i ds T z ρ out after h s =
    h (variables_of no_ending ds) i ρ (stands-as (sym (variables-codes i ds ρ)) s) ∙ types-variables T z ρ from ds out

pub of-parameters : (nodes : List ℕ) (from to i : ℕ) (xs : List Parameter) (T : Names) (z : Sizes) (ρ : Numbering) (out after : List ℕ) → TypesSet nodes from to T z out after
    → Stands nodes from to (parameter_codes i xs ρ) → after ≡ with_nodes T z ρ from (declarations_of xs) out
of-parameters nodes from to i xs T z ρ out after h s =
    h (parameters_of xs) i ρ (stands-as (sym (parameters-codes i xs ρ)) s) ∙ types-parameters T z ρ from xs out

-- a walk over the operations: those that are left make the same table
pub record Carrying (nodes spans : List ℕ) (k n : ℕ) (T : Names) (z : Sizes) (ρ : Numbering) (out v : List ℕ) : Type 0 where
  pub left : List Operation
  pub place : ℕ
  pub count : k + length left ≡ n
  pub here : OperationsAt nodes spans ρ k place left
  pub same : with_operations T z ρ spans k left out ≡ v

abbrev pub CarriersOn : (nodes spans : List ℕ) (k n : ℕ) (T : Names) (z : Sizes) (out₀ out : List ℕ) → Type 0
CarriersOn nodes spans k n T z out₀ out =
    (os : List Operation) (i : ℕ) (ρ : Numbering) → n ≡ length os → OperationsAt nodes spans ρ 0 i os → Carrying nodes spans k n T z ρ out (with_operations T z ρ spans 0 os out₀)

pub carriers-start : (nodes spans : List ℕ) (n : ℕ) (T : Names) (z : Sizes) (out : List ℕ) → CarriersOn nodes spans 0 n T z out out
carriers-start nodes spans n T z out os i ρ c h = record { left = os; place = i; count = zero-add (length os) ∙ sym c; here = h; same = refl }

module _ (nodes spans : List ℕ) (k n : ℕ) (T : Names) (z : Sizes) (ρ : Numbering) (out after v : List ℕ) (first last : ℕ) (first_is : first ≡ span spans (9 + 4 * k))
    (last_is : last ≡ span spans (9 + 4 * k + 1)) (set : TypesSet nodes first last T z out after) where
  carrier-next : (os : List Operation) (i : ℕ) → k < n → k + length os ≡ n → OperationsAt nodes spans ρ k i os → with_operations T z ρ spans k os out ≡ v
      → Carrying nodes spans (k + 1) n T z ρ after v
  unfolding with_operations
  carrier-next [] i l c no_more s = absurd (omega arith)
  carrier-next (o ∷ os) i l c (one_more h hs) s =
      let moved : Stands nodes first last (parameter_codes (i + 2) o.parameters ρ) =
      subst (λ (m : ℕ). Stands nodes first m (parameter_codes (i + 2) o.parameters ρ)) (sym last_is)
      (subst (λ (m : ℕ). Stands nodes m (span spans (9 + 4 * k + 1)) (parameter_codes (i + 2) o.parameters ρ)) (sym first_is) h.parameters) in
      let done : after ≡ with_nodes T z ρ (span spans (9 + 4 * k)) (declarations_of o.parameters) out =
      of-parameters nodes first last (i + 2) o.parameters T z ρ out after set moved ∙ ap (λ (m : ℕ). with_nodes T z ρ m (declarations_of o.parameters) out) first_is in
      record {
        left = os;
        place = i + operation_length o;
        count = omega arith;
        here = subst (λ (m : ℕ). OperationsAt nodes spans ρ m (i + operation_length o) os) (sym (add-one k)) hs;
        same = ap₂ (λ (m : ℕ) (l : List ℕ). with_operations T z ρ spans m os l) (add-one k) done ∙ s;
      }

carrier-end : (T : Names) (z : Sizes) (ρ : Numbering) (spans : List ℕ) (k n : ℕ) (out v : List ℕ) → n ≤ k → (os : List Operation) → k + length os ≡ n → with_operations T z ρ spans k os out ≡ v → out ≡ v
unfolding with_operations
carrier-end T z ρ spans k n out v l [] c s = s
carrier-end T z ρ spans k n out v l (o ∷ os) c s = absurd (omega arith)

pub carriers-on : (nodes spans : List ℕ) (k n : ℕ) (T : Names) (z : Sizes) (out₀ out after : List ℕ) (first last : ℕ) → k < n → first ≡ span spans (9 + 4 * k) → last ≡ span spans (9 + 4 * k + 1)
    → TypesSet nodes first last T z out after → CarriersOn nodes spans k n T z out₀ out → CarriersOn nodes spans (k + 1) n T z out₀ after
carriers-on nodes spans k n T z out₀ out after first last l p q set w os i ρ c h =
    let r = w os i ρ c h in
    carrier-next nodes spans k n T z ρ out after (with_operations T z ρ spans 0 os out₀) first last p q set r.left r.place l r.count r.here r.same

pub carriers-set : (nodes spans : List ℕ) (k n : ℕ) (T : Names) (z : Sizes) (out₀ out : List ℕ) → n ≤ k → CarriersOn nodes spans k n T z out₀ out → OperationTypesSet nodes spans n T z out₀ out
carriers-set nodes spans k n T z out₀ out l w os i ρ c h =
    let r = w os i ρ c h in carrier-end T z ρ spans k n out (with_operations T z ρ spans 0 os out₀) l r.left r.count r.same

-- all declarations
pub declared-set : (nodes spans : List ℕ) (n f₀ l₀ f₁ l₁ : ℕ) (T : Names) (z : Sizes) (out out₁ out₂ after : List ℕ)
    → f₀ ≡ span spans 0 → l₀ ≡ span spans 1 → f₁ ≡ span spans 3 → l₁ ≡ span spans 4
    → TypesSet nodes f₀ l₀ T z out out₁ → TypesSet nodes f₁ l₁ T z out₁ out₂ → OperationTypesSet nodes spans n T z out₂ after → DeclaredSet nodes spans n T z out after
unfolding declared_by
declared-set nodes spans n f₀ l₀ f₁ l₁ T z out out₁ out₂ after p₀ q₀ p₁ q₁ h₀ h₁ h d ρ s =
    let a : List Declaration = declarations d.abstract in
    let c : List Declaration = declarations d.concrete in
    let v₀ : Stands nodes f₀ l₀ (declaration_codes (suc (abstract_at d)) a ρ) = moved p₀ q₀ s.abstract.variables in
    let v₁ : Stands nodes f₁ l₁ (declaration_codes (suc (concrete_at d)) c ρ) = moved p₁ q₁ s.concrete.variables in
    let e₀ : out₁ ≡ with_nodes T z ρ (span spans 0) a out = of-declarations nodes f₀ l₀ (suc (abstract_at d)) a T z ρ out out₁ h₀ v₀ ∙ ap (λ (m : ℕ). with_nodes T z ρ m a out) p₀ in
    let e₁ : out₂ ≡ with_nodes T z ρ (span spans 3) c out₁ = of-declarations nodes f₁ l₁ (suc (concrete_at d)) c T z ρ out₁ out₂ h₁ v₁ ∙ ap (λ (m : ℕ). with_nodes T z ρ m c out₁) p₁ in
    h d.operations (operations_at d) ρ s.counted s.operations
    ∙ ap (λ (l : List ℕ). with_operations T z ρ spans 0 d.operations l) (e₁ ∙ ap (λ (l : List ℕ). with_nodes T z ρ (span spans 3) c l) e₀)
  where
    moved : {l : List ℕ} {f f' t t' : ℕ} → f ≡ f' → t ≡ t' → Stands nodes f' t' l → Stands nodes f t l
    moved {l} {f} {f'} {t} {t'} p q w = subst (λ (m : ℕ). Stands nodes f m l) (sym q) (subst (λ (m : ℕ). Stands nodes m t' l) (sym p) w)
