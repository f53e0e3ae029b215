-- The lines of a part's groups, one behind the other, are the witness of the check at that place. Assumes nothing.
use mathlib.Core.Path.{◌≡◌, refl, sym, ap, ap₂, subst, ◌∙◌}
use mathlib.Core.List.{List, [], ◌∷◌, ◌++◌, append_assoc, append-nil}
use mathlib.Core.Option.{some}
use Prim.Native.Nat.{ℕ, suc, ◌+◌, ◌-◌, ◌*◌, ◌/◌, ◌%◌, ◌<◌, ◌≤◌}
use native.Mathlib.Nat.{div-one, mod-eq_of_lt}
use native.Mathlib.Omega.{arith}
use lib.IntN.{ℤ}
use lib.ListN.{length, get_elem?}
use Rattle.lexical.specs.Lists.{bytes}
use Rattle.lexical.specs.Symbols.{Ending, no_ending, query, shriek}
use Rattle.form.specs.Tree.{Declaration, declarations, Operation, Dossier}
use Rattle.static_rules.specs.Carriers.{Variable}
use Rattle.static_rules.specs.Scope.{variables, parameters_of, primed, inputs, outputs}
use Rattle.static_rules.specs.Limits.{binding_count}
use Rattle.meaning.specs.Meaning.{Binding}
use Rattle.meaning.specs.Bindings.{bindings}
use Rattle.meaning.specs.Operations.{after}
use Rattle.carriers.proofs.Bindings.{binding-long}
use Rattle.slot_carriers.specs.CellGroups.{CellsOf, HoldsBinding}
use Rattle.obligations.specs.Subjects.{subject_of}
use Rattle.obligations.specs.Order.{variables_of, binding_of, applies}
use Rattle.obligations.specs.Report.{name_bytes, value_bytes, binding_lines, witness_lines, check_at}
use Rattle.obligations.proofs.Digits.{nth}
use Rattle.plans.specs.declared.Part.{Part}
use Rattle.part_places.specs.PartTestsPartGroups.{StateCells, OperationCells, opening_part, applicability_part, correctness_part}
use Rattle.part_places.specs.PartTestsPartOrder.{part_size, part_begin}
use Rattle.part_places.proofs.PartsReadingSizes.{concretes-count, applicability-counts, correctness-counts}
use Rattle.part_places.proofs.PartsPartOrderLaws.{first-size, applicability-size, correctness-size}
use Rattle.pieces.specs.PiecePromises.{Writes, Adds}
use Rattle.pieces.specs.declared.Writer.{Writer}
use Rattle.labels.specs.Labels.{LabelsFrom, LabelsOf}
use Rattle.lines.specs.LinesByNumber.{ending_byte, group_piece}
use Rattle.lines.proofs.LabelledLines.{left, declared-lines, primed-lines}
use Rattle.part_places.specs.Places.{GroupsOf, parts, PartSet}
use Rattle.part_places.proofs.PartCounts.{by-kind}
use Rattle.witnesses.specs.WitnessPromises.{AddsWitness}
use Rattle.witnesses.specs.WitnessSteps.{BoundAt, part_piece}
use Rattle.witnesses.proofs.CheckDigits.{digit-in, front-in, us, cs, na, nc, ni, nq}
use Rattle.witnesses.proofs.CheckDigits.{opening-check, applicability-check, correctness-check}

-- ---- lines of variables one behind the other

lines_join : (xs ys : List Variable) (a b : Binding) → length a ≡ length xs → binding_lines (xs ++ ys) (a ++ b) ≡ binding_lines xs a ++ binding_lines ys b
unfolding binding_lines
lines_join [] ys [] b e = refl
lines_join [] ys (x ∷ a) b e = let z : suc (length a) ≡ 0 = e in let y : ⊥ = omega arith in absurd y
lines_join (v ∷ xs) ys [] b e = let z : 0 ≡ suc (length xs) = e in let y : ⊥ = omega arith in absurd y
lines_join (v ∷ xs) ys (x ∷ a) b e =
    let z : suc (length a) ≡ suc (length xs) = e in
    let line : List ℕ = name_bytes v.called ++ bytes " = " ++ value_bytes v.carrier x.1 ++ bytes "\n" in
    ap (λ (l : List ℕ). line ++ l) (lines_join xs ys a b (omega arith)) ∙ sym (append_assoc line (binding_lines xs a) (binding_lines ys b))

-- the lines of the k-th binding of a group, before others
join-at : (vs ys : List Variable) (k : ℕ) (b : Binding) → k < binding_count vs → binding_lines (vs ++ ys) (nth (bindings vs) k ++ b) ≡ binding_lines vs (nth (bindings vs) k) ++ binding_lines ys b
join-at vs ys k b h = lines_join vs ys (nth (bindings vs) k) b (binding-long vs k h)

-- ---- a group of declared variables, with its labels and slots

module _ (text labels : List ℕ) (d : Dossier) (L : LabelsOf text labels d) (cells : List ℕ) (σ : List ℤ) where
  declared-group : (e : Ending) (ds : List Declaration) {n : ℕ} (i s : ℕ) → LabelsFrom text labels d.givens n (variables d.givens e ds) → CellsOf cells s (variables d.givens e ds)
      → (k : ℕ) → HoldsBinding cells s (length (variables d.givens e ds)) k σ → k < binding_count (variables d.givens e ds) → n ≡ i
      → group_piece text labels i (length (variables d.givens e ds)) s (ending_byte e) σ ≡ binding_lines (variables d.givens e ds) (nth (bindings (variables d.givens e ds)) k)
  declared-group e ds i s l c k B h m =
      declared-lines text labels d L.elements_at i s k σ e e ds (subst (λ (x : ℕ). LabelsFrom text labels d.givens x (variables d.givens e ds)) m l) h (B (variables d.givens e ds) c refl)

-- ---- the three kinds of parts

module _ (text labels : List ℕ) (d : Dossier) (L : LabelsOf text labels d) (cells : List ℕ) (q : ℕ) (σ : List ℤ) where
  pub opening-witness : (row : ℕ) → StateCells cells (us d) (cs d) → BoundAt cells (opening_part (us d) (cs d)) q σ → q < nc d
      → part_piece text labels (opening_part (us d) (cs d)) row σ ≡ witness_lines (subject_of d) (check_at (subject_of d) (part_begin d 0 + q))
  unfolding group_piece witness_lines variables_of binding_of
  opening-witness row C B h =
      let c : ℕ = q / 1 / 1 / 1 % nc d in
      let e : c ≡ q = ap (λ (x : ℕ). x % nc d) (div-one (q / 1 / 1) ∙ div-one (q / 1) ∙ div-one q) ∙ mod-eq_of_lt h in
      append-nil (group_piece text labels 10 (length (cs d)) 8 0 σ)
      ∙ declared-group text labels d L cells σ no_ending (declarations d.concrete) 10 8 L.concretes C.concretes c B.concretes (digit-in (cs d) (q / 1 / 1 / 1)) refl
      ∙ ap (λ (x : ℕ). binding_lines (cs d) (nth (bindings (cs d)) x)) e
      ∙ sym (ap (witness_lines (subject_of d)) (opening-check d q h))

  module _ (j row : ℕ) (op : Operation) (listed : get_elem? d.operations j ≡ some op) (r : row ≡ 8 * j) (C : OperationCells cells (us d) (cs d) (inputs d op) (outputs d op)) where
    pub applicability-witness : BoundAt cells (applicability_part (us d) (cs d) (inputs d op) (outputs d op)) q σ → q < na d * nc d * ni d op
        → part_piece text labels (applicability_part (us d) (cs d) (inputs d op) (outputs d op)) row σ
        ≡ witness_lines (subject_of d) (check_at (subject_of d) (part_begin d (1 + 2 * j) + q))
    unfolding group_piece witness_lines variables_of binding_of parameters_of
    applicability-witness B h =
        let is : List Variable = inputs d op in
        let e : q ≡ q / 1 / 1 = sym (div-one (q / 1) ∙ div-one q) in
        let t : ℕ = q / 1 / 1 / ni d op in
        let a : ℕ = t / nc d in
        let c : ℕ = t % nc d in
        let i : ℕ = q / 1 / 1 % ni d op in
        let lt : t < na d * nc d = front-in is (q / 1 / 1) (na d * nc d) (subst (λ (x : ℕ). x < na d * nc d * ni d op) e h) in
        let la : a < na d = front-in (cs d) t (na d) lt in
        let lc : c < nc d = digit-in (cs d) t in
        let x : Binding = nth (bindings (us d)) a in
        let y : Binding = nth (bindings (cs d)) c in
        let w : Binding = nth (bindings is) i in
        let pa : group_piece text labels 1 (length (us d)) 0 0 σ ≡ binding_lines (us d) x
        = declared-group text labels d L cells σ no_ending (declarations d.abstract) 1 0 L.abstracts C.states.abstracts a B.abstracts la refl in
        let pc : group_piece text labels 10 (length (cs d)) 8 0 σ ≡ binding_lines (cs d) y
        = declared-group text labels d L cells σ no_ending (declarations d.concrete) 10 8 L.concretes C.states.concretes c B.concretes lc refl in
        let pi : group_piece text labels (19 + row) (length is) 16 63 σ ++ [] ≡ binding_lines is w
        = append-nil _ ∙ declared-group text labels d L cells σ query _ (19 + row) 16 (L.inputs_at j op listed) C.inputs i B.inputs (digit-in is (q / 1 / 1)) (omega arith) in
        (λ m. pa m ++ (pc m ++ pi m))
        ∙ sym (join-at (us d) (cs d ++ is) a (y ++ w) la ∙ ap (λ (l : List ℕ). binding_lines (us d) x ++ l) (join-at (cs d) is c w lc))
        ∙ ap₂ binding_lines (sym (append_assoc (us d) (cs d) is)) (sym (append_assoc x y w))
        ∙ sym (ap (witness_lines (subject_of d)) (applicability-check d op j listed q h
        ∙ ap (λ (m : ℕ). applies j op (nth (bindings (us d)) (m / ni d op / nc d)) (nth (bindings (cs d)) (m / ni d op % nc d)) (nth (bindings is) (m % ni d op))) e))

    pub correctness-witness : BoundAt cells (correctness_part (us d) (cs d) (inputs d op) (outputs d op)) q σ → q < na d * nc d * ni d op * nq d op * nc d
        → part_piece text labels (correctness_part (us d) (cs d) (inputs d op) (outputs d op)) row σ
        ≡ witness_lines (subject_of d) (check_at (subject_of d) (part_begin d (2 + 2 * j) + q))
    unfolding witness_lines variables_of binding_of parameters_of
    correctness-witness B h =
        let is : List Variable = inputs d op in
        let os : List Variable = outputs d op in
        let ks : List Variable = primed d d.concrete in
        let p : ℕ = q / nc d in
        let s : ℕ = p / nq d op in
        let t : ℕ = s / ni d op in
        let a : ℕ = t / nc d in
        let c : ℕ = t % nc d in
        let i : ℕ = s % ni d op in
        let o : ℕ = p % nq d op in
        let k : ℕ = q % nc d in
        let lp : p < na d * nc d * ni d op * nq d op = front-in (cs d) q (na d * nc d * ni d op * nq d op) h in
        let lt : t < na d * nc d = front-in is s (na d * nc d) (front-in os p (na d * nc d * ni d op) lp) in
        let la : a < na d = front-in (cs d) t (na d) lt in
        let lc : c < nc d = digit-in (cs d) t in
        let li : i < ni d op = digit-in is s in
        let lo : o < nq d op = digit-in os p in
        let x : Binding = nth (bindings (us d)) a in
        let y : Binding = nth (bindings (cs d)) c in
        let w : Binding = nth (bindings is) i in
        let v : Binding = nth (bindings os) o in
        let u : Binding = after (nth (bindings (cs d)) k) in
        let pa : group_piece text labels 1 (length (us d)) 0 0 σ ≡ binding_lines (us d) x
        = declared-group text labels d L cells σ no_ending (declarations d.abstract) 1 0 L.abstracts C.states.abstracts a B.abstracts la refl in
        let pc : group_piece text labels 10 (length (cs d)) 8 0 σ ≡ binding_lines (cs d) y
        = declared-group text labels d L cells σ no_ending (declarations d.concrete) 10 8 L.concretes C.states.concretes c B.concretes lc refl in
        let pi : group_piece text labels (19 + row) (length is) 16 63 σ ≡ binding_lines is w
        = declared-group text labels d L cells σ query _ (19 + row) 16 (L.inputs_at j op listed) C.inputs i B.inputs li (omega arith) in
        let po : group_piece text labels (23 + row) (length os) 19 33 σ ≡ binding_lines os v
        = declared-group text labels d L cells σ shriek _ (23 + row) 19 (L.outputs_at j op listed) C.outputs o B.outputs lo (omega arith) in
        let pk : group_piece text labels 10 (length (cs d)) 22 39 σ ≡ binding_lines ks u
        = primed-lines text labels d L.elements_at 10 22 k σ d.concrete L.concretes (digit-in (cs d) q) (B.primes (cs d) C.states.concretes_primed refl) in
        (λ m. pa m ++ (pc m ++ (pi m ++ (po m ++ pk m))))
        ∙ sym (join-at (us d) (cs d ++ (is ++ (os ++ ks))) a (y ++ (w ++ (v ++ u))) la
        ∙ ap (λ (l : List ℕ). binding_lines (us d) x ++ l) (join-at (cs d) (is ++ (os ++ ks)) c (w ++ (v ++ u)) lc
        ∙ ap (λ (l : List ℕ). binding_lines (cs d) y ++ l) (join-at is (os ++ ks) i (v ++ u) li
        ∙ ap (λ (l : List ℕ). binding_lines is w ++ l) (join-at os ks o u lo))))
        ∙ ap₂ binding_lines (left (us d) (cs d) is os ks) (left x y w v u)
        ∙ sym (ap (witness_lines (subject_of d)) (correctness-check d op j listed q h))

-- ---- each part by its number

module _ (text labels table groups cells : List ℕ) (d : Dossier) (L : LabelsOf text labels d) (G : GroupsOf table groups d) (q row : ℕ) (σ : List ℤ) where
  -- the witness at the place q of the k-th part, which this is, with its operation's row
  abbrev WitnessOf : (k : ℕ) → Part → Type 0
  WitnessOf k p = BoundAt cells p q σ → row ≡ 8 * ((k - 1) / 2) → q < part_size d k → part_piece text labels p row σ ≡ witness_lines (subject_of d) (check_at (subject_of d) (part_begin d k + q))

  opening-lines : StateCells cells (us d) (cs d) → WitnessOf 0 (opening_part (us d) (cs d))
  opening-lines C B r h = opening-witness text labels d L cells q σ row C B (subst (λ (n : ℕ). q < n) (first-size d ∙ concretes-count d) h)

  module _ (j : ℕ) (op : Operation) (listed : get_elem? d.operations j ≡ some op) (C : OperationCells cells (us d) (cs d) (inputs d op) (outputs d op)) where
    applying-lines : WitnessOf (1 + 2 * j) (applicability_part (us d) (cs d) (inputs d op) (outputs d op))
    applying-lines B r h =
        applicability-witness text labels d L cells q σ j row op listed (omega arith) C B (subst (λ (n : ℕ). q < n) (applicability-size d j op listed ∙ applicability-counts d op) h)

    correcting-lines : WitnessOf (2 + 2 * j) (correctness_part (us d) (cs d) (inputs d op) (outputs d op))
    correcting-lines B r h =
        correctness-witness text labels d L cells q σ j row op listed (omega arith) C B (subst (λ (n : ℕ). q < n) (correctness-size d j op listed ∙ correctness-counts d op) h)

  pub witness-lines : {k : ℕ} {p : Part} → PartSet table groups k cells p → BoundAt cells p q σ → row ≡ 8 * ((k - 1) / 2) → k < parts d → q < part_size d k
      → part_piece text labels p row σ ≡ witness_lines (subject_of d) (check_at (subject_of d) (part_begin d k + q))
  witness-lines P B r l h = by-kind P d G l WitnessOf opening-lines applying-lines correcting-lines B r h

-- so what writes the lines of the groups writes the witness
pub witness-added : {text labels table groups cells : List ℕ} {k q row : ℕ} {p : Part} {σ : List ℤ} {v w : Writer} → PartSet table groups k cells p → BoundAt cells p q σ
    → row ≡ 8 * ((k - 1) / 2) → Adds (part_piece text labels p row σ) v w → w.at ≤ v.at + 19350 → AddsWitness text labels table groups k q v w
witness-added {text} {labels} {table} {groups} {cells} {k} {q} {row} {p} {σ} {v} {w} P B e a s = record {
  same_bytes = a.same_bytes;
  written = record {
    lines = λ d G L l h. subst (λ (x : List ℕ). Writes v.at x v.out.now w.out.now w.at) (witness-lines text labels table groups cells d L G q row σ P B e l h) a.written;
    long = a.written.long;
    onward = omega (arith, a.written.end);
    short = s;
  };
}
