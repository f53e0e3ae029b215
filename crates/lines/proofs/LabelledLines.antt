-- The lines of a witness by labels and values in slots are those of document 01. Assumes nothing.
use mathlib.Core.Path.{◌≡◌, refl, sym, ap, ap₂, subst, ◌∙◌}
use mathlib.Core.Bool.{Bool, true, false, cond}
use mathlib.Core.List.{List, [], ◌∷◌, ◌++◌, map, append_assoc}
use mathlib.Core.Option.{Option, none, some, none-ne-some, some-injective}
use Prim.Native.Nat.{ℕ, zero, suc, ◌+◌, ◌*◌, ◌/◌, ◌%◌, ◌^◌, ◌<◌, ◌≤◌}
use native.Mathlib.Nat.{mod-lt, div-lt_iff_lt-mul, zero-lt-suc}
use native.Mathlib.Omega.{arith}
use lib.IntN.{ℤ, pos}
use lib.ListN.{length, take, get_or, get_elem?}
use lib.Seq.{take_all}
use borrow.Author.Tests.{ne_eqb}
use Rattle.lexical.specs.Lists.{bytes}
use Rattle.lexical.specs.Symbols.{Name, Ending, no_ending, prime}
use Rattle.form.specs.Tree.{Letters, Arrow, relation, partial, total, Given, elements, Declaration, declarations, State, Dossier}
use Rattle.static_rules.specs.Carriers.{Carrier, elements_of, numbers, subsets_of, pairs_in, Variable, size_of, count_of, arrow_count, carrier_of}
use Rattle.static_rules.specs.Scope.{with_carrier, variables, unprimed, primed}
use Rattle.static_rules.specs.Limits.{binding_count}
use Rattle.sets.specs.Sets.{has, members_from, members, width}
use Rattle.sets.proofs.MaskBits.{member-below}
use Rattle.meaning.specs.Values.{natural}
use Rattle.meaning.specs.Meaning.{Binding}
use Rattle.meaning.specs.Bindings.{bindings}
use Rattle.meaning.specs.Operations.{after}
use Rattle.meaning.proofs.Places.{below-entry}
use Rattle.carriers.specs.ValuesByNumber.{pair_set_at, value_at, digit, binding_at}
use Rattle.carriers.proofs.Values.{count-some}
use Rattle.carriers.proofs.Masks.{mask_below}
use Rattle.carriers.proofs.Bindings.{bindings-at, digit-below}
use Rattle.slot_carriers.specs.CellGroups.{Holding}
use Rattle.obligations.specs.Report.{ending_bytes, name_bytes, element_bytes, pair_bytes, braced, value_bytes, binding_lines}
use Rattle.labels.specs.Labels.{SpeltAt, Typed, label_of, LabelAt, LabelsFrom}
use Rattle.pieces.specs.PiecePromises.{letters_at}
use Rattle.lines.specs.LinesByNumber.{element_piece, pair_piece, member_piece, value_piece, ending_byte, line_piece, group_piece}
use Rattle.lines.proofs.LineLaws.{ending-piece}

entry-is : {A : Type 0} (xs : List A) (k : ℕ) (x z : A) → get_elem? xs k ≡ some x → get_or xs k z ≡ x
entry-is [] k x z e = absurd (none-ne-some x e)
entry-is (y ∷ xs) zero x z e = some-injective y x e
entry-is (y ∷ xs) (suc k) x z e = entry-is xs k x z e

pub spelt-letters : (text : List ℕ) (p : ℕ) (x : Letters) → SpeltAt text p x → letters_at text p ≡ x
unfolding letters_at
spelt-letters text p x h = ap (take 16) h.letters ∙ take_all 16 x h.short

-- ---- the members of a set of n bits are below n

same-members : (f g : ℕ → List ℕ) (s k n : ℕ) → ((j : ℕ) → has s j ≡ true → f j ≡ g j) → map f (members_from s k n) ≡ map g (members_from s k n)
unfolding members_from
same-members f g s k zero h = refl
same-members f g s k (suc n) h = go (has s k) refl (same-members f g s (suc k) n h)
  where
    go : (b : Bool) → has s k ≡ b → map f (members_from s (suc k) n) ≡ map g (members_from s (suc k) n)
        → ◌≡◌ {A = List (List ℕ)} (map f (elim b [ true ↦ k ∷ members_from s (suc k) n | false ↦ members_from s (suc k) n ]))
        (map g (elim b [ true ↦ k ∷ members_from s (suc k) n | false ↦ members_from s (suc k) n ]))
    go true e r = ap₂ ◌∷◌ (h k e) r
    go false e r = r

below-members : (f g : ℕ → List ℕ) (n s : ℕ) → s < 2 ^ n → ((j : ℕ) → j < n → f j ≡ g j) → map f (members s) ≡ map g (members s)
unfolding members
below-members f g n s l h = same-members f g s 0 width (λ j e. h j (member-below n s j l e))

pair-set-below : (a : Arrow) (n m k : ℕ) → 0 < m → k < arrow_count a n m → pair_set_at a n m k < 2 ^ (n * m)
unfolding arrow_count pair_set_at
pair-set-below relation n m k p h = h
pair-set-below partial n m k p h = mask_below 0 n m k (omega arith) (omega arith)
pair-set-below total n m k p h = mask_below 1 n m k (omega arith) p

-- ---- values

module _ (text labels : List ℕ) (gs : List Given) where
  -- the labels of all elements
  abbrev pub ElementsAt : Type 0
  ElementsAt = (n : ℕ) (g : Given) → get_elem? gs n ≡ some g → (k : ℕ) (x : Letters) → get_elem? (elements g) k ≡ some x → SpeltAt text (get_or labels (8 * n + k) 0) x

module _ (text labels : List ℕ) (gs : List Given) (spelt : ElementsAt text labels gs) where
  pub element-piece : (n : ℕ) (g : Given) (k : ℕ) → get_elem? gs n ≡ some g → k < size_of g → element_piece text labels n k ≡ element_bytes g k
  unfolding element_piece element_bytes
  element-piece n g k e h =
      let t : (x : Letters) × (get_elem? (elements g) k ≡ some x) = below-entry (elements g) k h in
      spelt-letters text (get_or labels (8 * n + k) 0) t.0 (spelt n g e k t.0 t.1) ∙ sym (entry-is (elements g) k t.0 [] t.1)

  pub pair-piece : (n m : ℕ) (g h : Given) (k : ℕ) → get_elem? gs (n / 8) ≡ some g → get_elem? gs (n % 8) ≡ some h → m ≡ size_of h → k < size_of g * size_of h
      → pair_piece text labels n m k ≡ pair_bytes g h k
  unfolding pair_piece pair_bytes
  pair-piece n m g h k e f q l =
      ap (λ (x : ℕ). pair_piece text labels n x k) q
      ∙ ap₂ (λ (x y : List ℕ). x ++ (bytes " |-> " ++ y))
      (element-piece (n / 8) g (k / size_of h) e ((div-lt_iff_lt-mul (zero-lt-suc (length h.other_elements))).1 l))
      (element-piece (n % 8) h (k % size_of h) f (mod-lt k (zero-lt-suc (length h.other_elements))))
      ∙ sym (append_assoc (element_bytes g (k / size_of h)) (bytes " |-> ") (element_bytes h (k % size_of h)))

  pair-member : (n m k : ℕ) → 0 < m → member_piece text labels n m k ≡ pair_piece text labels n m k
  unfolding member_piece
  pair-member n m k h = ap (λ (b : Bool). cond b (element_piece text labels n k) (pair_piece text labels n m k)) (ne_eqb m 0 (λ e. (let z : ⊥ = omega arith in z)))

  pairs-shape : (s n m : ℕ) (x : ℤ) → 4 ≤ s → value_piece text labels s n m x ≡ braced (map (member_piece text labels n m) (members (natural x)))
  unfolding value_piece
  pairs-shape s n m x h =
      rw (value_piece, ne_eqb s 1 (λ e. (let z : ⊥ = omega arith in z)), ne_eqb s 2 (λ e. (let z : ⊥ = omega arith in z)), ne_eqb s 3 (λ e. (let z : ⊥ = omega arith in z)))

  -- the k-th value of a carrier
  pub value-piece : (c : Carrier) (s n m k : ℕ) → Typed gs s n m c → k < count_of c → value_piece text labels s n m (value_at c k).code ≡ value_bytes c (value_at c k)
  unfolding Typed value_piece value_bytes value_at count_of member_piece
  value-piece (elements_of g) s n m k t h = ap (λ (x : ℕ). value_piece text labels x n m (pos k)) t.0 ∙ element-piece n g k t.1 h
  value-piece (numbers a b) s n m k t h = ap (λ (x : ℕ). value_piece text labels x n m (value_at (numbers a b) k).code) t
  value-piece (subsets_of g) s n m k t h =
      ap (λ (x : ℕ). value_piece text labels x n m (pos k)) t.0
      ∙ ap braced (below-members (member_piece text labels n 0) (element_bytes g) (size_of g) k h (λ j l. element-piece n g j t.1 l))
  value-piece (pairs_in a g h) s n m k t l =
      let q : ℕ = pair_set_at a (size_of g) (size_of h) k in
      let p : 0 < m = subst (λ (x : ℕ). 0 < x) (sym t.3) (zero-lt-suc (length h.other_elements)) in
      pairs-shape s n m (pos q) t.0
      ∙ ap braced (below-members (member_piece text labels n m) (pair_bytes g h) (size_of g * size_of h) q
      (pair-set-below a (size_of g) (size_of h) k (zero-lt-suc (length h.other_elements)) l)
      (λ j u. pair-member n m j p ∙ pair-piece n m g h j t.1 t.2 t.3 u))

-- ---- groups

-- variables with another ending
abbrev pub ended : Ending → Variable → Variable
ended e v = record { called = record { letters = v.called.letters; ending = e }; carrier = v.carrier }

-- five lists one behind the other, grouped to the right and to the left
pub left : {A : Type 0} (a b c d e : List A) → a ++ (b ++ (c ++ (d ++ e))) ≡ a ++ b ++ c ++ d ++ e
left a b c d e = sym (append_assoc (a ++ b ++ c) d e ∙ append_assoc (a ++ b) c (d ++ e) ∙ append_assoc a b (c ++ (d ++ e)))

module _ (text labels : List ℕ) (gs : List Given) (spelt : ElementsAt text labels gs) (e : Ending) where
  pub line-piece : (i k : ℕ) (v : Variable) (x : ℤ) → LabelAt text labels gs i v → k < count_of v.carrier → x ≡ (value_at v.carrier k).code
      → line_piece text labels i (ending_byte e) x ≡ name_bytes (ended e v).called ++ bytes " = " ++ value_bytes v.carrier (value_at v.carrier k) ++ bytes "\n"
  unfolding line_piece name_bytes
  line-piece i k v x l h q =
      let w : value_piece text labels (label_of labels i 1) (label_of labels i 2) (label_of labels i 3) x ≡ value_bytes v.carrier (value_at v.carrier k)
      = ap (value_piece text labels (label_of labels i 1) (label_of labels i 2) (label_of labels i 3)) q
      ∙ value-piece text labels gs spelt v.carrier (label_of labels i 1) (label_of labels i 2) (label_of labels i 3) k l.typed h in
      ap₂ (λ (a b : List ℕ). a ++ (b ++ (bytes " = " ++ (value_piece text labels (label_of labels i 1) (label_of labels i 2) (label_of labels i 3) x ++ bytes "\n"))))
      (spelt-letters text (label_of labels i 0) v.called.letters l.spelt) (ending-piece e)
      ∙ ap (λ (a : List ℕ). v.called.letters ++ (ending_bytes e ++ (bytes " = " ++ (a ++ bytes "\n")))) w
      ∙ left v.called.letters (ending_bytes e) (bytes " = ") (value_bytes v.carrier (value_at v.carrier k)) (bytes "\n")

  -- by the digits of k
  digits-lines : (i s k : ℕ) (vs : List Variable) (σ : List ℤ) → LabelsFrom text labels gs i vs → Holding σ s (binding_at vs k)
      → group_piece text labels i (length vs) s (ending_byte e) σ ≡ binding_lines (map (ended e) vs) (binding_at vs k)
  unfolding LabelsFrom Holding binding_at group_piece binding_lines
  digits-lines i s k [] σ l h = refl
  digits-lines i s k (v ∷ vs) σ l h =
      ap₂ ◌++◌
      (line-piece i (digit (binding_count vs) (count_of v.carrier) k) v (get_or σ s (pos 0)) l.0 (digit-below (binding_count vs) (count_of v.carrier) k (count-some v.carrier)) h.0)
      (digits-lines (suc i) (suc s) k vs σ l.1 h.1)

  -- the lines of a group that has the values of its k-th binding in the fixed order
  pub group_lines : (i s k : ℕ) (vs : List Variable) (σ : List ℤ) → LabelsFrom text labels gs i vs → k < binding_count vs → Holding σ s (get_or (bindings vs) k [])
      → group_piece text labels i (length vs) s (ending_byte e) σ ≡ binding_lines (map (ended e) vs) (get_or (bindings vs) k [])
  group_lines i s k vs σ l q h =
      let b : get_or (bindings vs) k [] ≡ binding_at vs k = bindings-at vs k [] q in
      digits-lines i s k vs σ l (subst (Holding σ s) b h) ∙ sym (ap (binding_lines (map (ended e) vs)) b)

-- ---- declared variables with another ending

ended-before : (e : Ending) (x y : Name) (c : Option Carrier) (vs ws : List Variable) → record { letters = x.letters; ending = e } ≡ y → map (ended e) vs ≡ ws
    → map (ended e) (with_carrier x c vs) ≡ with_carrier y c ws
ended-before e x y none vs ws p q = q
ended-before e x y (some c) vs ws p q = ap₂ (λ (n : Name) (l : List Variable). record { called = n; carrier = c } ∷ l) p q

pub ended-variables : (gs : List Given) (e f : Ending) (ds : List Declaration) → map (ended f) (variables gs e ds) ≡ variables gs f ds
unfolding variables
ended-variables gs e f [] = refl
ended-variables gs e f (d ∷ ds) =
    ended-before f (record { letters = d.declared; ending = e }) (record { letters = d.declared; ending = f }) (carrier_of gs d.type) (variables gs e ds) (variables gs f ds) refl (ended-variables gs e f ds)

-- the values of a state after are those of its binding
pub after-lines : (vs : List Variable) (b : Binding) → binding_lines vs (after b) ≡ binding_lines vs b
unfolding binding_lines after
after-lines [] b = refl
after-lines (v ∷ vs) [] = refl
after-lines (v ∷ vs) (x ∷ b) = ap (λ (l : List ℕ). name_bytes v.called ++ bytes " = " ++ value_bytes v.carrier x.1 ++ bytes "\n" ++ l) (after-lines vs b)

-- ---- the groups of a dossier

module _ (text labels : List ℕ) (d : Dossier) (spelt : ElementsAt text labels d.givens) (i s k : ℕ) (σ : List ℤ) where
  -- declared variables whose labels are those of another ending
  pub declared-lines : (e f : Ending) (ds : List Declaration) → LabelsFrom text labels d.givens i (variables d.givens e ds) → k < binding_count (variables d.givens e ds)
      → Holding σ s (get_or (bindings (variables d.givens e ds)) k [])
      → group_piece text labels i (length (variables d.givens e ds)) s (ending_byte f) σ ≡ binding_lines (variables d.givens f ds) (get_or (bindings (variables d.givens e ds)) k [])
  declared-lines e f ds l q h =
      group_lines text labels d.givens spelt f i s k (variables d.givens e ds) σ l q h
      ∙ ap (λ (vs : List Variable). binding_lines vs (get_or (bindings (variables d.givens e ds)) k [])) (ended-variables d.givens e f ds)

  pub primed-lines : (x : State) → LabelsFrom text labels d.givens i (unprimed d x) → k < binding_count (unprimed d x) → Holding σ s (get_or (bindings (unprimed d x)) k [])
      → group_piece text labels i (length (unprimed d x)) s 39 σ ≡ binding_lines (primed d x) (after (get_or (bindings (unprimed d x)) k []))
  primed-lines x l q h = declared-lines no_ending prime (declarations x) l q h ∙ sym (after-lines (primed d x) (get_or (bindings (unprimed d x)) k []))
