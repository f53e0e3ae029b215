-- Predicates patched in one behind the other: each one's table stands at its place, and their conjuncts have no more numbers than there is room.
use mathlib.Core.Path.{◌≡◌, refl, sym, ap, ◌∙◌}
use mathlib.Core.List.{List, [], ◌∷◌, ◌++◌, map, append_assoc}
use Prim.Native.Nat.{ℕ, suc, ◌+◌, ◌-◌, ◌*◌, ◌≤◌}
use native.Mathlib.Omega.{arith}
use native.Mathlib.Nat.{le_refl}
use lib.ListN.{length, take, drop, length-append, length-take, length-drop}
use lib.Seq.{length-take-le, take_at, drop_at, take-take, take-append-le, take-add}
use Rattle.form.specs.Tree.{Given, Declaration, Parameter, Operation}
use Rattle.form.specs.Codes.{Numbering, node, pred_codes, condition_codes}
use Rattle.static_rules.specs.Scope.{Context}
use Rattle.node_spans.specs.Spans.{Stands, span}
use Rattle.table_nodes.specs.TableWalkPromises.{patch}
use Rattle.table_places.specs.ResolvedTable.{Slots, pred_table}
use Rattle.table_places.specs.DossierTable.{with_predicates, type_table, with_carriers, with_parameters}
use Rattle.search_groups.specs.Conjuncts.{conjunct_row, conjunct_rows, context_rows}
use Rattle.search_groups.specs.GroupPromises.{Conjoin, alone, both, Standing, none_stands, one_stands}
use Rattle.search_groups.proofs.TableLength.{pred-length}
use Rattle.search_groups.proofs.ConjunctRows.{conjoin_of}

-- a piece makes no array shorter, whether or not it fits
pub patch-grows : (b : ℕ) (t out : List ℕ) → length out ≤ length (patch b t out)
unfolding patch
patch-grows b t out =
    let p = length-append (take b out) (t ++ drop (b + length t) out) in
    let q = length-append t (drop (b + length t) out) in
    let r = length-take b out in
    let s = length-drop (b + length t) out in
    omega arith

-- the carriers of the declared names make no array shorter
pub carriers_grow : (gs : List Given) (q : ℕ) (ds : List Declaration) (out : List ℕ) → length out ≤ length (with_carriers gs q ds out)
unfolding with_carriers
carriers_grow gs q [] out = le_refl (length out)
carriers_grow gs q (x ∷ ds) out =
    let t : List ℕ = type_table x.type gs in
    let h = patch-grows (q + 4) t out in
    let g = carriers_grow gs (q + 8) ds (patch (q + 4) t out) in
    omega arith

pub parameters-grow : (gs : List Given) (spans : List ℕ) (k : ℕ) (os : List Operation) (out : List ℕ) → length out ≤ length (with_parameters gs spans k os out)
unfolding with_parameters
parameters-grow gs spans k [] out = le_refl (length out)
parameters-grow gs spans k (o ∷ os) out =
    let ds : List Declaration = map (λ (x : Parameter). x.declaration) o.parameters in
    let h = carriers_grow gs (span spans (9 + 4 * k)) ds out in
    let g = parameters-grow gs spans (suc k) os (with_carriers gs (span spans (9 + 4 * k)) ds out) in
    omega arith

-- what stands before it is kept
patch-front : (n b : ℕ) (t out : List ℕ) → n ≤ b → b ≤ length out → take n (patch b t out) ≡ take n out
unfolding patch
patch-front n b t out h l =
    let r = length-take-le b out l in
    take-append-le n (take b out) (t ++ drop (b + length t) out) (omega arith) ∙ take-take n b out h

-- up to its end: what stood before it, and the piece
patch-whole : (b : ℕ) (t out : List ℕ) → b ≤ length out → take (b + length t) (patch b t out) ≡ take b out ++ t
unfolding patch
patch-whole b t out h =
    let r = length-take-le b out h in
    let rest : List ℕ = drop (b + length t) out in
    let l : length (take b out ++ t) ≡ b + length t = length-append (take b out) t ∙ ap (λ (i : ℕ). i + length t) r in
    ap (take (b + length t)) (sym (append_assoc (take b out) t rest)) ∙ take_at (take b out ++ t) rest (b + length t) l

-- a piece at the end of a table's first numbers stands in the table
stands-last : (table front t : List ℕ) (q : ℕ) → length front ≡ q → q + length t ≤ length table → take (q + length t) table ≡ front ++ t
    → Stands table q (q + length t) t
stands-last table front t q l h e =
    let x : List ℕ = take (length t) (drop q table) in
    let d : q + length t - q ≡ length t = omega arith in
    let r : length (take q table) ≡ q = length-take-le q table (omega arith) in
    record {
      ordered = omega arith;
      inside = h;
      stands =
          ap (λ (i : ℕ). take i (drop q table)) d ∙ sym (drop_at (take q table) x q r) ∙ ap (drop q) (sym (take-add q (length t) table) ∙ e)
          ∙ drop_at front t q l;
    }

-- The predicates from `from` on, in order, with a node in front of each one's table, up to `end`: so the tables do not meet
pub data Rising : (from end : ℕ) → List Context → List Slots → List ℕ → Type 0 where
  risen : {from end : ℕ} → from ≤ end → Rising from end [] [] []
  rises : {from end next q : ℕ} {c : Context} {cs : List Context} {W : Slots} {Ws : List Slots} {qs : List ℕ} → from + 4 ≤ q
      → next ≡ q + length (pred_table c.predicate c.scope W 38 q) → Rising next end cs Ws qs → Rising from end (c ∷ cs) (W ∷ Ws) (q ∷ qs)

-- one condition whose nodes begin at b
pub rise : {end : ℕ} (from b next i : ℕ) (ρ : Numbering) (c : Context) (cs : List Context) (W : Slots) (Ws : List Slots) (q : ℕ) (qs : List ℕ) → from ≤ b → q ≡ b + 4
    → next ≡ b + length (condition_codes i c.predicate ρ) → Rising next end cs Ws qs → Rising from end (c ∷ cs) (W ∷ Ws) (q ∷ qs)
unfolding condition_codes
rise from b next i ρ c cs W Ws q qs h e f r =
    let l : length (pred_table c.predicate c.scope W 38 q) ≡ length (pred_codes c.predicate i ρ) = pred-length c.predicate c.scope W 38 q i ρ in
    let k : next ≡ q + length (pred_table c.predicate c.scope W 38 q) = omega arith in
    let g : from + 4 ≤ q = omega arith in
    rises g k r

rising-ends : {from end : ℕ} {cs : List Context} {Ws : List Slots} {qs : List ℕ} → Rising from end cs Ws qs → from ≤ end
rising-ends (risen h) = h
rising-ends (rises h e r) = let k = rising-ends r in omega arith

module _ {end : ℕ} where
  table-grows : {from : ℕ} {cs : List Context} {Ws : List Slots} {qs : List ℕ} → Rising from end cs Ws qs → (out : List ℕ) → length out ≤ length (with_predicates cs Ws qs out)
  unfolding with_predicates
  table-grows (risen h) out = le_refl (length out)
  table-grows (rises {q = q} {c = c} {W = W} h e r) out =
      let t : List ℕ = pred_table c.predicate c.scope W 38 q in
      let g = patch-grows q t out in
      let k = table-grows r (patch q t out) in
      omega arith

  -- the numbers in front of all predicates are kept
  front_kept : {from : ℕ} {cs : List Context} {Ws : List Slots} {qs : List ℕ} → Rising from end cs Ws qs → (out : List ℕ) → end ≤ length out
      → take from (with_predicates cs Ws qs out) ≡ take from out
  unfolding with_predicates
  front_kept (risen h) out l = refl
  front_kept {from} (rises {next = next} {q = q} {c = c} {cs = cs} {W = W} {Ws = Ws} {qs = qs} h e r) out l =
      let t : List ℕ = pred_table c.predicate c.scope W 38 q in
      let g = patch-grows q t out in
      let n = rising-ends r in
      let table : List ℕ = with_predicates cs Ws qs (patch q t out) in
      sym (take-take from next table (omega arith)) ∙ ap (take from) (front_kept r (patch q t out) (omega arith))
      ∙ take-take from next (patch q t out) (omega arith) ∙ patch-front from q t out (omega arith) (omega arith)

  -- each one stands at its place
  pub all-stand : {from : ℕ} {cs : List Context} {Ws : List Slots} {qs : List ℕ} → Rising from end cs Ws qs → (out : List ℕ) → end ≤ length out
      → Standing (with_predicates cs Ws qs out) cs Ws qs
  unfolding with_predicates
  all-stand (risen h) out l = none_stands
  all-stand (rises {next = next} {q = q} {c = c} {cs = cs} {W = W} {Ws = Ws} {qs = qs} h e r) out l =
      let t : List ℕ = pred_table c.predicate c.scope W 38 q in
      let g = patch-grows q t out in
      let n = rising-ends r in
      let table : List ℕ = with_predicates cs Ws qs (patch q t out) in
      let k = table-grows r (patch q t out) in
      let m : end ≤ length (patch q t out) = omega arith in
      let w : take (q + length t) table ≡ take q out ++ t =
      ap (λ (i : ℕ). take i table) (sym e) ∙ front_kept r (patch q t out) m ∙ ap (λ (i : ℕ). take i (patch q t out)) e ∙ patch-whole q t out (omega arith) in
      one_stands (stands-last table (take q out) t q (length-take-le q out (omega arith)) (omega arith) w) (all-stand r (patch q t out) m)

-- A conjunct has a row of 8 numbers: 4 for its own last node, 4 for the `and` before it or, if it is the first, for the node in front of all
conjoin-few : {q : ℕ} {codes rows : List ℕ} → Conjoin q codes rows → length rows ≤ 4 + length codes
unfolding conjunct_row
conjoin-few (alone front k i a b h) = let l = length-append front (node k i a b) in omega arith
conjoin-few {q} (both {x = x} {y = y} {u = u} {v = v} a b) =
    let f = conjoin-few a in
    let g = conjoin-few b in
    let z : List ℕ = node 18 (q + length x) 51 0 in
    let l = length-append x (y ++ z) in
    let m = length-append y z in
    let n = length-append u v in
    omega arith

pub rows_fit : {from end : ℕ} {cs : List Context} {Ws : List Slots} {qs : List ℕ} → Rising from end cs Ws qs → from + length (context_rows cs Ws qs) ≤ end
unfolding context_rows
rows_fit (risen h) = omega arith
rows_fit (rises {q = q} {c = c} {cs = cs} {W = W} {Ws = Ws} {qs = qs} h e r) =
    let u : List ℕ = conjunct_rows c.predicate c.scope W q in
    let f : length u ≤ 4 + length (pred_table c.predicate c.scope W 38 q) = conjoin-few (conjoin_of c.predicate c.scope W q) in
    let g = rows_fit r in
    let l = length-append u (context_rows cs Ws qs) in
    omega arith
