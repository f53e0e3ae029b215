-- What stands up to the name that a quantifier or {x : G | p} binds, with what is read behind it.
use mathlib.Core.Path.{◌≡◌, refl}
use mathlib.Core.List.{List, [], ◌∷◌}
use Prim.Native.Nat.{ℕ, suc, ◌+◌, ◌≤◌, ◌<◌}
use native.Mathlib.Omega.{arith}
use lib.ListN.{get_or}
use Rattle.lexical.specs.Kinds as kind
use Rattle.form.specs.Written.{binds}
use Rattle.form.specs.Machine.{Item, exact, a_name, a_domain, a_brace, a_named, a_unary, a_paren, a_pred_rest, a_declared}
use Rattle.form.specs.Computed.{compute_form}
use Rattle.form_nodes.specs.FormPromises.{Answer, Reads}
use Rattle.form_nodes.proofs.ReadParts.{only, takes, taken}
use Rattle.form_nodes.proofs.RangeEnds.{bind_well}
use Rattle.form_nodes.proofs.RightSides.{inside}
use Rattle.form_nodes.proofs.SameSteps.{quantifier-step, quantifier-code}

-- a name that is bound, where one is expected
pub bound_name : {s : List ℕ} {at n : ℕ} {r : Answer} {b : ℕ} {ι : List Item} {m : ℕ} → get_or s at 0 ≡ 2 → b < 3 → Reads s (at + 1) m ι [] r → m ≤ n + 4 → Reads s at n (a_declared (binds (suc b)) ∷ ι) [] r
unfolding compute_form
bound_name {s} {at} {b = b} {ι} p f a l =
    taken {μ = ι} (binds (suc b)) (inside s at (omega arith)) (bind_well s at (suc b) (omega arith)) (only _ kind.plain p (λ γ. refl)) a l

module _ {s : List ℕ} {at n : ℕ} {r : Answer} {d b : ℕ} where
  -- behind (, and behind {
  pub quantifier : 53 ≤ get_or s at 0 → get_or s at 0 ≤ 55
      → Reads s (at + 1) n (a_declared (binds (suc b)) ∷ exact kind.colon ∷ a_domain ∷ exact kind.spot ∷ a_unary d (suc b) ∷ a_pred_rest d d (suc b) ∷ exact kind.close_paren ∷ []) [] r
      → Reads s at n (a_paren d b ∷ []) [] r
  quantifier l h a =
      takes {m = n} (inside s at (omega arith)) (λ κ e γ. quantifier-step d b κ γ (quantifier-code κ (omega (arith, l, e)) (omega (arith, h, e)))) a (omega arith)

  pub such_name : {m : ℕ} → get_or s at 0 ≡ 2 → get_or s (at + 1) 0 ≡ 10 → b < 3
      → Reads s (at + 1 + 1) m (a_name ∷ exact kind.bar ∷ a_unary d (suc b) ∷ a_pred_rest d d (suc b) ∷ exact kind.close_brace ∷ []) [] r → m ≤ n + 4
      → Reads s at n (a_brace d b ∷ []) [] r
  unfolding compute_form
  such_name {m} p q f a l =
      taken {μ = a_named d b ∷ []} {m = m} (binds (suc b)) (inside s at (omega arith)) (bind_well s at (suc b) (omega arith)) (only _ kind.plain p (λ γ. refl))
      (takes {m = m} (inside s (at + 1) (omega arith)) (only _ kind.colon q (λ γ. refl)) a (omega arith)) l
