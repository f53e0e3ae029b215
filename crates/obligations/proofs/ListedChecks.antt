-- The checks that are listed are the checks of the dossier: each group over its carriers, each operation at its number. Assumes nothing.
use mathlib.Core.Path.{◌≡◌, refl, sym, subst}
use mathlib.Core.Logic.{◌⊎◌, inl, inr, ⊎_elim}
use mathlib.Core.Option.{some, none-ne-some, some-injective}
use mathlib.Core.List.{List, [], ◌∷◌}
use Prim.Native.Nat.{ℕ, zero, suc, ◌+◌}
use native.Mathlib.Nat.{zero-add, add-zero}
use native.Mathlib.Omega.{arith}
use lib.ListN.{get_elem?}
use Rattle.form.specs.Tree.{Operation}
use Rattle.static_rules.specs.Scope.{unprimed, inputs, outputs}
use Rattle.meaning.specs.Meaning.{Binding}
use Rattle.meaning.specs.Bindings.{bindings, Among, Over}
use Rattle.meaning.specs.Operations.{abstract_bindings, concrete_bindings, output_bindings}
use Rattle.meaning.proofs.Members.{among-left, among-right, among-append, among-map, map-among, among-flat, flat-among}
use Rattle.meaning.proofs.Bindings.{over-listed, listed-over}
use Rattle.obligations.specs.Subjects.{Subject}
use Rattle.obligations.specs.Order.{Check, initialises, applies, corrects, applicability_checks, correctness_checks, operation_checks, opening, checks}
use Rattle.obligations.specs.Demands.{IsCheck}
use Rattle.obligations.proofs.Groups.{applies_at, applies_from, corrects_giving, corrects_by, corrects_at, corrects_from, block_of}

module _ (σ : Subject) where
  applicability-listed : (k : ℕ) (op : Operation) (a c i : Binding) → Over (unprimed σ.dossier σ.dossier.abstract) a → Over (unprimed σ.dossier σ.dossier.concrete) c → Over (inputs σ.dossier op) i
      → Among (applies k op a c i) (applicability_checks σ.dossier k op)
  unfolding applicability_checks abstract_bindings concrete_bindings
  applicability-listed k op a c i la lc li =
      among-flat _ a _ (applies k op a c i) (over-listed _ a la)
      (among-flat _ c _ (applies k op a c i) (over-listed _ c lc)
      (among-map (applies k op a c) i _ (over-listed _ i li)))

  correctness-listed : (k : ℕ) (op : Operation) (a c i o c' : Binding) → Over (unprimed σ.dossier σ.dossier.abstract) a → Over (unprimed σ.dossier σ.dossier.concrete) c → Over (inputs σ.dossier op) i
      → Over (outputs σ.dossier op) o → Over (unprimed σ.dossier σ.dossier.concrete) c' → Among (corrects k op a c i o c') (correctness_checks σ.dossier k op)
  unfolding correctness_checks abstract_bindings concrete_bindings output_bindings
  correctness-listed k op a c i o c' la lc li lo lc' =
      among-flat _ a _ (corrects k op a c i o c') (over-listed _ a la)
      (among-flat _ c _ (corrects k op a c i o c') (over-listed _ c lc)
      (among-flat _ i _ (corrects k op a c i o c') (over-listed _ i li)
      (among-flat _ o _ (corrects k op a c i o c') (over-listed _ o lo)
      (among-map (corrects k op a c i o) c' _ (over-listed _ c' lc')))))

  listed-applicability : (k : ℕ) (op : Operation) → get_elem? σ.dossier.operations k ≡ some op → (x : Check) → Among x (applicability_checks σ.dossier k op) → IsCheck σ x
  unfolding applicability_checks abstract_bindings concrete_bindings IsCheck
  listed-applicability k op e x m =
      let a : (a : Binding) × Among a (abstract_bindings σ.dossier) × Among x (applies_from σ.dossier k op a)
      = flat-among _ (abstract_bindings σ.dossier) x m in
      let c : (c : Binding) × Among c (concrete_bindings σ.dossier) × Among x (applies_at σ.dossier k op a.0 c)
      = flat-among _ (concrete_bindings σ.dossier) x a.2 in
      let i : (i : Binding) × Among i (bindings (inputs σ.dossier op)) × (x ≡ applies k op a.0 c.0 i) = map-among _ x _ c.2 in
      subst (IsCheck σ) (sym i.2) (e, listed-over _ a.0 a.1, listed-over _ c.0 c.1, listed-over _ i.0 i.1)

  listed-correctness : (k : ℕ) (op : Operation) → get_elem? σ.dossier.operations k ≡ some op → (x : Check) → Among x (correctness_checks σ.dossier k op) → IsCheck σ x
  unfolding correctness_checks abstract_bindings concrete_bindings output_bindings IsCheck
  listed-correctness k op e x m =
      let a : (a : Binding) × Among a (abstract_bindings σ.dossier) × Among x (corrects_from σ.dossier k op a) = flat-among _ (abstract_bindings σ.dossier) x m in
      let c : (c : Binding) × Among c (concrete_bindings σ.dossier) × Among x (corrects_at σ.dossier k op a.0 c) = flat-among _ (concrete_bindings σ.dossier) x a.2 in
      let i : (i : Binding) × Among i (bindings (inputs σ.dossier op)) × Among x (corrects_by σ.dossier k op a.0 c.0 i) = flat-among _ (bindings (inputs σ.dossier op)) x c.2 in
      let o : (o : Binding) × Among o (output_bindings σ.dossier op) × Among x (corrects_giving σ.dossier k op a.0 c.0 i.0 o) = flat-among _ (output_bindings σ.dossier op) x i.2 in
      let c' : (c' : Binding) × Among c' (concrete_bindings σ.dossier) × (x ≡ corrects k op a.0 c.0 i.0 o.0 c') = map-among _ x _ o.2 in
      subst (IsCheck σ) (sym c'.2)
      (e, listed-over _ a.0 a.1, listed-over _ c.0 c.1, listed-over _ i.0 i.1, listed-over _ o.0 o.1, listed-over _ c'.0 c'.1)

  -- the operation at j has its checks among those of the operations numbered from k on, under the number k + j
  operation-listed : (k j : ℕ) (op : Operation) (ops : List Operation) → get_elem? ops j ≡ some op → (x : Check) → Among x (block_of σ.dossier (k + j) op) → Among x (operation_checks σ.dossier k ops)
  unfolding operation_checks
  operation-listed k j op [] e x m = absurd (none-ne-some op e)
  operation-listed k zero op (o ∷ ops) e x m =
      among-left x (block_of σ.dossier k o) (operation_checks σ.dossier (suc k) ops)
      (subst (λ (p : Operation). Among x (block_of σ.dossier k p)) (sym (some-injective o op e)) (subst (λ (n : ℕ). Among x (block_of σ.dossier n op)) (add-zero k) m))
  operation-listed k (suc j) op (o ∷ ops) e x m =
      let q : k + suc j ≡ suc k + j = omega arith in
      among-right x (block_of σ.dossier k o) (operation_checks σ.dossier (suc k) ops) (operation-listed (suc k) j op ops e x (subst (λ (n : ℕ). Among x (block_of σ.dossier n op)) q m))

  abbrev Found : Check → ℕ → List Operation → Type 0
  Found x k ops = (j : ℕ) × ((op : Operation) × ((get_elem? ops j ≡ some op) × Among x (block_of σ.dossier (k + j) op)))

  listed-operation : (k : ℕ) (ops : List Operation) (x : Check) → Among x (operation_checks σ.dossier k ops) → Found x k ops
  unfolding operation_checks Among
  listed-operation k [] x m = absurd m
  listed-operation k (o ∷ ops) x m = go (among-append x (block_of σ.dossier k o) (operation_checks σ.dossier (suc k) ops) m) (listed-operation (suc k) ops x)
    where
      go : Among x (block_of σ.dossier k o) ⊎ Among x (operation_checks σ.dossier (suc k) ops) → (Among x (operation_checks σ.dossier (suc k) ops) → Found x (suc k) ops) → Found x k (o ∷ ops)
      go (inl n) r = (zero, (o, (refl, subst (λ (m : ℕ). Among x (block_of σ.dossier m o)) (sym (add-zero k)) n)))
      go (inr n) r =
          let s : Found x (suc k) ops = r n in
          let q : suc k + s.0 ≡ k + suc s.0 = omega arith in
          (suc s.0, (s.1.0, (s.1.1.0, subst (λ (m : ℕ). Among x (block_of σ.dossier m s.1.0)) q s.1.1.1)))

  block_listed : (k : ℕ) (op : Operation) → get_elem? σ.dossier.operations k ≡ some op → (x : Check) → Among x (block_of σ.dossier k op) → Among x (checks σ)
  unfolding checks opening
  block_listed k op e x m =
      among-right x (opening σ) (operation_checks σ.dossier 0 σ.dossier.operations)
      (operation-listed 0 k op σ.dossier.operations e x (subst (λ (n : ℕ). Among x (block_of σ.dossier n op)) (sym (zero-add k)) m))

  -- exactly the checks of the dossier are listed
  pub check-listed : (x : Check) → IsCheck σ x → Among x (checks σ)
  unfolding IsCheck checks opening concrete_bindings
  check-listed (initialises c) h = among-left _ _ (operation_checks σ.dossier 0 σ.dossier.operations) (among-map initialises c _ (over-listed _ c h))
  check-listed (applies k op a c i) h =
      block_listed k op h.0 _ (among-left _ _ (correctness_checks σ.dossier k op) (applicability-listed k op a c i h.1 h.2 h.3))
  check-listed (corrects k op a c i o c') h =
      block_listed k op h.0 _ (among-right _ (applicability_checks σ.dossier k op) _ (correctness-listed k op a c i o c' h.1 h.2 h.3 h.4 h.5))

  pub listed-check : (x : Check) → Among x (checks σ) → IsCheck σ x
  unfolding IsCheck checks opening concrete_bindings
  listed-check x m =
      ⊎_elim
      (λ (n : Among x (opening σ)).
      let s : (c : Binding) × Among c (concrete_bindings σ.dossier) × (x ≡ initialises c) = map-among initialises x (concrete_bindings σ.dossier) n in
      subst (IsCheck σ) (sym s.2) (listed-over _ s.0 s.1))
      (λ (n : Among x (operation_checks σ.dossier 0 σ.dossier.operations)).
      let s : Found x 0 σ.dossier.operations = listed-operation 0 σ.dossier.operations x n in
      let b : Among x (block_of σ.dossier s.0 s.1.0) = subst (λ (n : ℕ). Among x (block_of σ.dossier n s.1.0)) (zero-add s.0) s.1.1.1 in
      ⊎_elim (listed-applicability s.0 s.1.0 s.1.1.0 x) (listed-correctness s.0 s.1.0 s.1.1.0 x)
      (among-append x (applicability_checks σ.dossier s.0 s.1.0) (correctness_checks σ.dossier s.0 s.1.0) b))
      (among-append x (opening σ) (operation_checks σ.dossier 0 σ.dossier.operations) m)
