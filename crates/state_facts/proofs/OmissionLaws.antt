-- Slots that a predicate leaves out, row by row, and by bits. Assumes nothing.
use mathlib.Core.Path.{◌≡◌, refl, sym, subst, ◌∙◌}
use mathlib.Core.Bool.{Bool, true, false, false≢true}
use mathlib.Core.List.{List}
use Prim.Native.Nat.{ℕ, zero, suc, ◌+◌, ◌*◌, ◌/◌, ◌%◌, ◌<◌, ◌≤◌}
use native.Mathlib.Nat.{mod-lt, zero-lt-suc}
use native.Mathlib.Omega.{arith}
use lib.ListN.{get_or, length}
use Rattle.sets.specs.Sets.{has}
use Rattle.sets.proofs.MaskBits.{member-below}
use Rattle.sets.proofs.Members.{has-past}
use Rattle.form.specs.Tree.{Pred, Dossier}
use Rattle.static_rules.specs.Carriers.{Variable}
use Rattle.static_rules.specs.Scope.{Scope}
use Rattle.meaning.proofs.Places.{below-entry}
use Rattle.table_places.specs.ResolvedTable.{Slots}
use Rattle.mentions.specs.MentionPromises.{TruthFree, TruthSays}
use Rattle.points.specs.Masks.{MaskOf}
use Rattle.states.specs.ReadPredicatesPredicateRows.{RowsAt, no_rows, more_rows, TestsOf}
use Rattle.states.proofs.StateLaws.{ContextOf, abstract-context, concrete-context, ainit-context, cinit-context, retrieve-context}
use Rattle.states.proofs.StepLaws.{abstract-operation, concrete-operation}
use Rattle.state_facts.specs.Reads.{ReadAsked}
use Rattle.state_facts.specs.Omissions.{RowsStand, RowsSay, LeftOut, ContextStands}

-- ---- row by row

module _ {table rows : List ℕ} {to : ℕ} where
  inside_of : (Γ : Scope) (W : Slots) (at : ℕ) (ps : List Pred) → RowsAt table rows Γ W to at ps → at < to → (at + 8 ≤ to) × (get_or rows (at + 1) 0 ≤ 16384)
  inside_of Γ W at _ (no_rows l) h = absurd (omega arith)
  inside_of Γ W at _ (more_rows l c o r) h = (l, c.low)

  rest_of : (Γ : Scope) (W : Slots) (at : ℕ) (ps : List Pred) → to ≤ 16384 → RowsAt table rows Γ W to at ps → at < to → RowsStand table rows (at + 8) to
  rest_of Γ W at _ k (no_rows l) h = absurd (omega arith)
  rest_of Γ W at _ k (more_rows {ps = ps} l c o r) h = record { scope = Γ; slots = W; conjuncts = ps; low = k; stand = r }

  module _ {at : ℕ} (a : RowsStand table rows at to) (h : at < to) where
    pub stand-inside : at + 8 ≤ 16384
    stand-inside = let l = inside_of a.scope a.slots at a.conjuncts a.stand h in omega (arith, l.0, a.low)

    pub stand-rest : RowsStand table rows (at + 8) to
    stand-rest = rest_of a.scope a.slots at a.conjuncts a.low a.stand h

  pub stand-within : {at : ℕ} → RowsStand table rows at to → (n : ℕ) → at + 8 * n < to → at + 8 * n + 8 ≤ 16384
  stand-within {at} a zero h = let l = stand-inside a (omega arith) in omega arith
  stand-within {at} a (suc n) h = let l = stand-within {at = at + 8} (stand-rest a (omega arith)) n (omega arith) in omega arith

-- a row whose test says yes
pub row-free : {table : List ℕ} {e slot : ℕ} → TruthSays table e slot true → TruthFree table e slot
row-free s = s.means refl

-- ---- the predicate of a context, as bits

no_bits : (j : ℕ) → has 0 j ≡ true → ⊥
no_bits j e = let z : false ≡ true = sym (has-past 0 0 j (omega arith) (omega arith)) ∙ e in absurd (false≢true z)

pub left_out : {table rows firsts : List ℕ} {context slot count r : ℕ} {R : ℕ → Bool → Type 0} → MaskOf R count r
    → ((k : ℕ) (b : Bool) → R k b → RowsSay table rows (get_or firsts context 0) (get_or firsts (context + 1) 0) (slot + k) b) → LeftOut table rows firsts context slot count r
left_out {count = count} {r = r} w h = record {
  low = λ k e. member-below count r k w.small e;
  means = λ k e. (h k (has r k) (w.each k (member-below count r k w.small e))).means e;
}

pub left-none : {table rows firsts : List ℕ} {context slot count : ℕ} → LeftOut table rows firsts context slot count 0
left-none = record { low = λ k e. absurd (no_bits k e); means = λ k e. absurd (no_bits k e) }

stands_at : {table rows firsts : List ℕ} {d : Dossier} {n m : ℕ} {p : Pred} {vs : List Variable} {W : Slots} → TestsOf table rows firsts d → ContextOf d m p vs W → m ≡ n
    → ContextStands table rows firsts n
stands_at {table} {rows} {firsts} {m = m} {W = W} t c e =
    subst (ContextStands table rows firsts) e (record { context = c.context; slots = W; at = t.tests m c.context W c.is c.slots_are })

module _ {table rows firsts groups : List ℕ} {operations : ℕ} (a : ReadAsked table rows firsts groups operations) where
  pub context-stands : (n : ℕ) → n < 5 + 2 * operations → ContextStands table rows firsts n
  context-stands zero h = stands_at a.reading.tests (abstract-context a.dossier) refl
  context-stands (suc zero) h = stands_at a.reading.tests (concrete-context a.dossier) refl
  context-stands (suc (suc zero)) h = stands_at a.reading.tests (ainit-context a.dossier) refl
  context-stands (suc (suc (suc zero))) h = stands_at a.reading.tests (cinit-context a.dossier) refl
  context-stands (suc (suc (suc (suc zero)))) h = stands_at a.reading.tests (retrieve-context a.dossier) refl
  context-stands (suc (suc (suc (suc (suc m))))) h = go (m % 2) refl (mod-lt m (zero-lt-suc 1))
    where
      j : ℕ
      j = m / 2

      low : j < length a.dossier.operations
      low = omega (arith, a.many)

      go : (w : ℕ) → m % 2 ≡ w → w < 2 → ContextStands table rows firsts (suc (suc (suc (suc (suc m)))))
      go zero e u =
          let t = below-entry a.dossier.operations j low in
          stands_at a.reading.tests (abstract-operation a.dossier j t.0 t.1) (omega arith)
      go (suc zero) e u =
          let t = below-entry a.dossier.operations j low in
          stands_at a.reading.tests (concrete-operation a.dossier j t.0 t.1) (omega arith)
      go (suc (suc w)) e u = let y : ⊥ = omega arith in absurd y

pub context-rows-stand : {table rows firsts : List ℕ} {n : ℕ} → ContextStands table rows firsts n → RowsStand table rows (get_or firsts n 0) (get_or firsts (n + 1) 0)
context-rows-stand c = record { scope = c.context.scope; slots = c.slots; conjuncts = c.at.conjuncts; low = c.at.low; stand = c.at.stand }
