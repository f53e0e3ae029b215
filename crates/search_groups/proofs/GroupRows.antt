-- The groups of the operations, one behind the other, and of the whole dossier.
use mathlib.Core.Path.{◌≡◌, refl, sym, ap, ap₂, ◌∙◌, subst}
use mathlib.Core.List.{List, [], ◌∷◌, ◌++◌, append_assoc, append-nil}
use Prim.Native.Nat.{ℕ, suc, ◌+◌, ◌*◌, ◌≤◌, ◌<◌}
use native.Mathlib.Omega.{arith}
use lib.ListN.{length, take, drop, length-append, length-drop, get_or-append}
use lib.Seq.{length-take-le}
use Rattle.form.specs.Tree.{declarations, Parameter, State, Operation, Dossier}
use Rattle.form.specs.Headings.{operations_at, operation_length}
use Rattle.form.specs.Codes.{Numbering, declaration_codes, parameter_codes}
use Rattle.table_places.specs.StaticRulesScope.{is_input, is_output}
use Rattle.node_spans.specs.Spans.{Stands, span, spans_of, StateAt, OperationAt, OperationsAt, no_more, one_more}
use Rattle.table_nodes.specs.TableWalkPromises.{patch}
use Rattle.table_places.specs.DossierTable.{row, state_row, parameter_row, operation_rows, groups_of}
use Rattle.search_groups.specs.GroupPromises.{Picks, GroupPut, OperationPut, FewParameters, FewEach, few_more, RowsAhead, RowsPut, Grouped}
use Rattle.table_nodes.proofs.Pieces.{patch-none, patch-length, patch-behind}
use Rattle.search_groups.proofs.GroupPicks.{state-picks, input-picks, output-picks, state-count, parameter-count, row-length, both_rows, rows_same}
use Rattle.table_places.proofs.WritingAll.{spans-length}

abbrev ins_of : ℕ → Operation → List ℕ
ins_of q o = parameter_row (λ (x : Parameter). is_input x.direction) q o.parameters

abbrev outs_of : ℕ → Operation → List ℕ
outs_of q o = parameter_row (λ (x : Parameter). is_output x.direction) q o.parameters

-- one operation: its rows are written, and are 8 numbers
record Rows (q : ℕ) (o : Operation) (after : List ℕ) : Type 0 where
  written : after ≡ both_rows q o.parameters
  long : length (both_rows q o.parameters) ≡ 8

one_operation : {nodes spans : List ℕ} {k i : ℕ} {o : Operation} {ρ : Numbering} {out after : List ℕ} → OperationAt nodes spans k i o ρ → FewParameters o
    → OperationPut nodes spans (9 + 4 * k) out after → Rows (span spans (9 + 4 * k)) o after
one_operation {nodes} {spans} {k} {i} {o} {ρ} {out} {after} a f p =
    let q : ℕ = span spans (9 + 4 * k) in
    let e : length (ins_of q o) ≤ 3 = let c = parameter-count (λ (x : Parameter). is_input x.direction) q o.parameters in let g = f.inputs in omega arith in
    let h : length (outs_of q o) ≤ 3 = let c = parameter-count (λ (x : Parameter). is_output x.direction) q o.parameters in let g = f.outputs in omega arith in
    let l = row-length 3 (ins_of q o) e in
    let m = row-length 3 (outs_of q o) h in
    let s = length-append (row 3 (ins_of q o)) (row 3 (outs_of q o)) in
    record {
      written =
          p.right (parameter_codes (i + 2) o.parameters ρ) (ins_of q o) (outs_of q o) a.parameters (input-picks q (i + 2) o.parameters ρ)
          (output-picks q (i + 2) o.parameters ρ) e h;
      long = omega arith;
    }

pub rows-first : (nodes spans : List ℕ) (ρ : Numbering) (i : ℕ) (os : List Operation) (out : List ℕ) → OperationsAt nodes spans ρ 0 i os → FewEach os
    → RowsAhead nodes spans ρ 0 os out out
rows-first nodes spans ρ i os out a f =
    record { left = os; at = i; front = []; rest = a; few = f; long = refl; whole = refl; sum = omega arith; written = sym (patch-none 18 out) }

pub rows_next : {nodes spans : List ℕ} {ρ : Numbering} {k : ℕ} {os : List Operation} {out now piece rows after : List ℕ} → RowsAhead nodes spans ρ k os out now
    → OperationPut nodes spans (9 + 4 * k) piece rows → after ≡ patch (18 + 8 * k) rows now → k < length os → 18 + 8 * k + 8 ≤ length out → RowsAhead nodes spans ρ (k + 1) os out after
unfolding operation_rows
rows_next {nodes} {spans} {ρ} {k} {os} {out} {now} {piece} {rows} {after} x p put h m = go x.left x.at x.rest x.few x.whole x.sum
  where
    go : (left : List Operation) (i : ℕ) → OperationsAt nodes spans ρ k i left → FewEach left → operation_rows spans 0 os ≡ x.front ++ operation_rows spans k left
        → length os ≡ k + length left → RowsAhead nodes spans ρ (k + 1) os out after
    go _ i no_more f w s = absurd (omega arith)
    go _ i (one_more {o = o} {os = left} a b) (few_more f g) w s =
        let r : Rows (span spans (9 + 4 * k)) o rows = one_operation a f p in
        let z : List ℕ = both_rows (span spans (9 + 4 * k)) o.parameters in
        let l = x.long in
        let n = r.long in
        let t = length-append x.front z in
        let e : suc k ≡ k + 1 = omega arith in
        record {
          left = left;
          at = i + operation_length o;
          front = x.front ++ z;
          rest = subst (λ (j : ℕ). OperationsAt nodes spans ρ j (i + operation_length o) left) e b;
          few = g;
          long = omega arith;
          whole = w ∙ sym (append_assoc x.front z (operation_rows spans (suc k) left)) ∙ ap (λ (j : ℕ). (x.front ++ z) ++ operation_rows spans j left) e;
          sum = omega arith;
          written =
              put ∙ ap₂ (λ (u v : List ℕ). patch (18 + 8 * k) u v) r.written x.written
              ∙ patch-behind 18 (18 + 8 * k) x.front z out (omega arith) (omega arith);
        }

pub rows-done : {nodes spans : List ℕ} {ρ : Numbering} {k : ℕ} {os : List Operation} {out after : List ℕ} → RowsAhead nodes spans ρ k os out after → length os ≤ k
    → after ≡ patch 18 (operation_rows spans 0 os) out
unfolding operation_rows
rows-done {nodes} {spans} {ρ} {k} {os} {out} {after} x h = go x.left x.whole x.sum
  where
    go : (left : List Operation) → operation_rows spans 0 os ≡ x.front ++ operation_rows spans k left → length os ≡ k + length left
        → after ≡ patch 18 (operation_rows spans 0 os) out
    go [] w s = x.written ∙ ap (λ (y : List ℕ). patch 18 y out) (sym (w ∙ append-nil x.front))
    go (o ∷ left) w s = absurd (omega arith)

-- a state's row
state-written : {nodes spans : List ℕ} {from to j i : ℕ} {st : State} {ρ : Numbering} {out after : List ℕ} → StateAt nodes spans j i st ρ
    → GroupPut nodes from to 0 out after → length out ≡ 9 → from ≡ span spans j → to ≡ span spans (j + 1) → length (declarations st) ≤ 8
    → after ≡ row 8 (state_row (span spans j) (declarations st))
state-written {nodes} {spans} {from} {to} {j} {i} {st} {ρ} {out} {after} a p l e f h =
    let codes : List ℕ = declaration_codes (suc i) (declarations st) ρ in
    let qs : List ℕ = state_row (span spans j) (declarations st) in
    let c : length qs ≡ length (declarations st) = state-count (span spans j) (declarations st) in
    let u : Stands nodes from to codes = subst (λ (x : ℕ). Stands nodes x to codes) (sym e) (subst (λ (x : ℕ). Stands nodes (span spans j) x codes) (sym f) a.variables) in
    p.right 8 codes qs l u (subst (λ (x : ℕ). Picks 0 x codes qs) (sym e) (state-picks (span spans j) (suc i) (declarations st) ρ)) (omega arith)

groups-same : (d : Dossier) (ρ : Numbering) (spans rest : List ℕ) → spans ≡ spans_of d ρ ++ rest
    → row 8 (state_row (span spans 0) (declarations d.abstract)) ++ row 8 (state_row (span spans 3) (declarations d.concrete)) ++ operation_rows spans 0 d.operations ≡ groups_of d ρ
unfolding groups_of
groups-same d ρ spans rest e =
    let l = spans-length d ρ in
    let s : List ℕ = spans_of d ρ in
    let at : (k : ℕ) → k < length s → span spans k ≡ span s k = λ k h. ap (λ (x : List ℕ). span x k) e ∙ get_or-append s rest 0 k h in
    let o : operation_rows spans 0 d.operations ≡ operation_rows s 0 d.operations =
    ap (λ (x : List ℕ). operation_rows x 0 d.operations) e ∙ rows_same s rest 0 d.operations (omega arith) in
    let p : span spans 0 ≡ span s 0 = at 0 (omega arith) in
    let q : span spans 3 ≡ span s 3 = at 3 (omega arith) in
    λ i. row 8 (state_row (p i) (declarations d.abstract)) ++ row 8 (state_row (q i) (declarations d.concrete)) ++ o i

pub grouped : {nodes spans : List ℕ} {operations a b c f : ℕ} {out one mid two now after : List ℕ} → a ≡ span spans 0 → b ≡ span spans 1 → c ≡ span spans 3 → f ≡ span spans 4
    → GroupPut nodes a b 0 (take 9 out) one → mid ≡ patch 0 one out → GroupPut nodes c f 0 (take 9 (drop 9 mid)) two → now ≡ patch 9 two mid
    → RowsPut nodes spans operations now after → length out ≡ 160 → Grouped nodes spans operations out after
grouped {nodes} {spans} {operations} {a} {b} {c} {f} {out} {one} {mid} {two} {now} {after} e₁ e₂ e₃ e₄ p m q n r l =
    record {
      exact =
          λ d ρ rest s e w.
          let x : List ℕ = row 8 (state_row (span spans 0) (declarations d.abstract)) in
          let y : List ℕ = row 8 (state_row (span spans 3) (declarations d.concrete)) in
          let z : List ℕ = operation_rows spans 0 d.operations in
          let wa = w.abstract in
          let wc = w.concrete in
          let cx = state-count (span spans 0) (declarations d.abstract) in
          let cy = state-count (span spans 3) (declarations d.concrete) in
          let lx : length x ≡ 9 = row-length 8 (state_row (span spans 0) (declarations d.abstract)) (omega arith) in
          let ly : length y ≡ 9 = row-length 8 (state_row (span spans 3) (declarations d.concrete)) (omega arith) in
          let lxy = length-append x y in
          let i : mid ≡ patch 0 x out = m ∙ ap (λ (t : List ℕ). patch 0 t out) (state-written s.abstract p (length-take-le 9 out (omega arith)) e₁ e₂ w.abstract) in
          let k : length mid ≡ 160 = ap length i ∙ patch-length 0 x out (omega arith) ∙ l in
          let behind = length-drop 9 mid in
          let j : now ≡ patch 9 y mid = n ∙ ap (λ (t : List ℕ). patch 9 t mid) (state-written s.concrete q (length-take-le 9 (drop 9 mid) (omega arith)) e₃ e₄ w.concrete) in
          let t : after ≡ patch 18 z now = r.right d.operations ρ (operations_at d) s.counted w.operations s.operations w.parameters in
          let u : now ≡ patch 0 (x ++ y) out = j ∙ ap (patch 9 y) i ∙ patch-behind 0 9 x y out (omega arith) (omega arith) in
          t ∙ ap (patch 18 z) u ∙ patch-behind 0 18 (x ++ y) z out (omega arith) (omega arith)
          ∙ ap (λ (t : List ℕ). patch 0 t out) (groups-same d ρ spans rest e);
    }
