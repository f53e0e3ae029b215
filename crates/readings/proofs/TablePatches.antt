-- The number at a place of the reader's table behind the pieces that are written into it: kept where no piece is, and of the declared types as written.
use mathlib.Core.Path.{◌≡◌, refl, sym, ap, ◌∙◌, subst}
use mathlib.Core.Logic.{◌⊎◌, inl, inr}
use mathlib.Core.List.{List, [], ◌∷◌, ◌++◌}
use Prim.Native.Nat.{ℕ, ◌+◌, ◌-◌, ◌*◌, ◌<◌, ◌≤◌}
use native.Mathlib.Omega.{arith}
use lib.ListN.{length, get_or, take, drop, get_or-append}
use lib.Seq.{length-take-le, get_or-take, get_or-drop, get_or-append-add}
use Rattle.form.specs.Tree.{Given, TypeForm, given_type, power_type, range_type, arrow_type, Declaration}
use Rattle.form.specs.Codes.{Numbering, condition_codes, pred_codes}
use Rattle.static_rules.specs.Scope.{Context}
use Rattle.table_nodes.specs.TableWalkPromises.{patch}
use Rattle.read_predicates.specs.TablePlacesResolvedTable.{Slots, pred_table}
use Rattle.read_predicates.specs.TablePlacesDossierTable.{with_predicates, type_table, with_carriers}
use Rattle.read_predicates.proofs.SearchGroupsTableLength.{pred-length}
use Rattle.read_predicates.proofs.TablesStandingPieces.{patch-grows}

-- ---- one piece

-- the place i is not among the n from b on
abbrev pub Off : (i b n : ℕ) → Type 0
Off i b n = (i < b) ⊎ (b + n ≤ i)

module _ (b : ℕ) (t out : List ℕ) (h : b ≤ length out) where
  patch-here : (k : ℕ) → k < length t → get_or (patch b t out) (b + k) 0 ≡ get_or t k 0
  unfolding patch
  patch-here k l =
      ap (λ (n : ℕ). get_or (patch b t out) (n + k) 0) (sym (length-take-le b out h)) ∙ get_or-append-add (take b out) (t ++ drop (b + length t) out) k 0
      ∙ get_or-append t (drop (b + length t) out) 0 k l

  patch-below : (i : ℕ) → i < b → get_or (patch b t out) i 0 ≡ get_or out i 0
  unfolding patch
  patch-below i l =
      let r = length-take-le b out h in
      get_or-append (take b out) (t ++ drop (b + length t) out) 0 i (omega arith) ∙ get_or-take b out i 0 l

  patch-above : (j : ℕ) → get_or (patch b t out) (b + (length t + j)) 0 ≡ get_or out (b + length t + j) 0
  unfolding patch
  patch-above j =
      ap (λ (n : ℕ). get_or (patch b t out) (n + (length t + j)) 0) (sym (length-take-le b out h))
      ∙ get_or-append-add (take b out) (t ++ drop (b + length t) out) (length t + j) 0 ∙ get_or-append-add t (drop (b + length t) out) j 0 ∙ get_or-drop (b + length t) out j 0

  patch-off : (i : ℕ) → Off i b (length t) → get_or (patch b t out) i 0 ≡ get_or out i 0
  patch-off i (inl l) = patch-below i l
  patch-off i (inr l) =
      let j : ℕ = i - (b + length t) in
      let e : i ≡ b + (length t + j) = omega arith in
      let f : b + length t + j ≡ i = omega arith in
      ap (λ (n : ℕ). get_or (patch b t out) n 0) e ∙ patch-above j ∙ ap (λ (n : ℕ). get_or out n 0) f

-- ---- the carriers of declarations

type-long : (t : TypeForm) (gs : List Given) → length (type_table t gs) ≡ 4
unfolding type_table
type-long (given_type g) gs = refl
type-long (power_type g) gs = refl
type-long (range_type r) gs = refl
type-long (arrow_type a g h) gs = refl

-- the types of declarations whose nodes begin at q, each in the second node
pub data TypesAt (table : List ℕ) (gs : List Given) : (q : ℕ) → List Declaration → Type 0 where
  no_types : {q : ℕ} → TypesAt table gs q []
  more_types : {q : ℕ} {d : Declaration} {ds : List Declaration} → ((k : ℕ) → k < 4 → get_or table (q + 4 + k) 0 ≡ get_or (type_table d.type gs) k 0)
      → TypesAt table gs (q + 8) ds → TypesAt table gs q (d ∷ ds)

module _ (gs : List Given) where
  pub carriers_off : (q : ℕ) (ds : List Declaration) (out : List ℕ) → q + 8 * length ds ≤ length out → (i : ℕ) → Off i q (8 * length ds)
      → get_or (with_carriers gs q ds out) i 0 ≡ get_or out i 0
  unfolding with_carriers
  carriers_off q [] out h i o = refl
  carriers_off q (x ∷ ds) out h i o =
      let t : List ℕ = type_table x.type gs in
      let l = type-long x.type gs in
      let g = patch-grows (q + 4) t out in
      carriers_off (q + 8) ds (patch (q + 4) t out) (omega arith) i (behind o)
      ∙ patch-off (q + 4) t out (omega arith) i (subst (λ (n : ℕ). Off i (q + 4) n) (sym l) (first o))
    where
      behind : Off i q (8 * length (x ∷ ds)) → Off i (q + 8) (8 * length ds)
      behind (inl k) = inl (omega arith)
      behind (inr k) = inr (omega arith)

      first : Off i q (8 * length (x ∷ ds)) → Off i (q + 4) 4
      first (inl k) = inl (omega arith)
      first (inr k) = inr (omega arith)

  pub types-kept : {table later : List ℕ} {q : ℕ} {ds : List Declaration} → TypesAt table gs q ds
      → ((i : ℕ) → q ≤ i → i < q + 8 * length ds → get_or later i 0 ≡ get_or table i 0) → TypesAt later gs q ds
  types-kept no_types f = no_types
  types-kept {q = q} (more_types h r) f =
      more_types (λ k l. f (q + 4 + k) (omega arith) (omega arith) ∙ h k l) (types-kept r (λ i l u. f i (omega arith) (omega arith)))

  pub types-here : (q : ℕ) (ds : List Declaration) (out : List ℕ) → q + 8 * length ds ≤ length out → TypesAt (with_carriers gs q ds out) gs q ds
  unfolding with_carriers
  types-here q [] out h = no_types
  types-here q (x ∷ ds) out h =
      let t : List ℕ = type_table x.type gs in
      let l = type-long x.type gs in
      let g = patch-grows (q + 4) t out in
      more_types
      (λ k u. carriers_off (q + 8) ds (patch (q + 4) t out) (omega arith) (q + 4 + k) (inl (omega arith)) ∙ patch-here (q + 4) t out (omega arith) k (omega arith))
      (types-here (q + 8) ds (patch (q + 4) t out) (omega arith))

-- ---- the predicates of contexts

-- the place i is in no predicate, and all of them begin inside the first `room` numbers
pub data Apart (room i : ℕ) : List Context → List Slots → List ℕ → Type 0 where
  apart_none : Apart room i [] [] []
  apart_one : {c : Context} {cs : List Context} {W : Slots} {Ws : List Slots} {q : ℕ} {qs : List ℕ} → q ≤ room
      → Off i q (length (pred_table c.predicate c.scope W 38 q)) → Apart room i cs Ws qs → Apart room i (c ∷ cs) (W ∷ Ws) (q ∷ qs)

pub predicates-off : {room i : ℕ} {cs : List Context} {Ws : List Slots} {qs : List ℕ} → Apart room i cs Ws qs → (out : List ℕ) → room ≤ length out
    → get_or (with_predicates cs Ws qs out) i 0 ≡ get_or out i 0
unfolding with_predicates
predicates-off apart_none out h = refl
predicates-off {i = i} (apart_one {c = c} {W = W} {q = q} l o r) out h =
    let t : List ℕ = pred_table c.predicate c.scope W 38 q in
    let g = patch-grows q t out in
    predicates-off r (patch q t out) (omega arith) ∙ patch-off q t out (omega arith) i o

-- a condition whose nodes begin at b, with one in front that counts, and end at `next`
pub apart : {room i : ℕ} (b next j : ℕ) (ρ : Numbering) (c : Context) (cs : List Context) (W : Slots) (Ws : List Slots) (q : ℕ) (qs : List ℕ) → q ≡ b + 4
    → next ≡ b + length (condition_codes j c.predicate ρ) → next ≤ room → (i < b + 4) ⊎ (next ≤ i) → Apart room i cs Ws qs → Apart room i (c ∷ cs) (W ∷ Ws) (q ∷ qs)
unfolding condition_codes
apart {room} {i} b next j ρ c cs W Ws q qs e f h o r =
    let l : length (pred_table c.predicate c.scope W 38 q) ≡ length (pred_codes c.predicate j ρ) = pred-length c.predicate c.scope W 38 q j ρ in
    let k : next ≡ b + (4 + length (pred_codes c.predicate j ρ)) = omega arith in
    apart_one {c = c} {cs = cs} {W = W} {Ws = Ws} {q = q} {qs = qs} (omega arith) (at l k o) r
  where
    at : length (pred_table c.predicate c.scope W 38 q) ≡ length (pred_codes c.predicate j ρ) → next ≡ b + (4 + length (pred_codes c.predicate j ρ))
        → (i < b + 4) ⊎ (next ≤ i) → Off i q (length (pred_table c.predicate c.scope W 38 q))
    at l k (inl u) = inl (omega arith)
    at l k (inr u) = inr (omega arith)
