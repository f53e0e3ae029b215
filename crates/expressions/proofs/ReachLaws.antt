-- What is read one level deeper, or with one more name bound, by the machine's successors.
use mathlib.Core.Path.{◌≡◌, sym, subst}
use mathlib.Core.List.{List}
use Prim.Native.Nat.{ℕ, suc, ◌<◌}
use Rattle.std.specs.Prelude.{Result, Err}
use Rattle.form.specs.Machine.{Item}
use Rattle.form_nodes.specs.FormPromises.{Answer, Reads}
use Rattle.refusals.specs.declared.Fault.{Fault}
use Rattle.expressions.specs.declared.Reach.{Reach}
use Rattle.expressions.specs.ReachPromises.{Deepens, Binds}

-- what a result that is known says
pub deepened : (o : Reach) (i : ℕ) {x y : Result Reach Fault} → x ≡ y → Deepens o i x → Deepens o i y
deepened o i q h = subst (λ (z : Result Reach Fault). Deepens o i z) q h

pub bound : (o : Reach) (i : ℕ) {x y : Result Reach Fault} → x ≡ y → Binds o i x → Binds o i y
bound o i q h = subst (λ (z : Result Reach Fault). Binds o i z) q h

module _ {s : List ℕ} {at n : ℕ} {r : Answer} {l d e b c : ℕ} where
  pub lowered : {ο : List Item} (f : ℕ → ℕ → List Item) → (d < l) × (e ≡ suc d) × (c ≡ b) → Reads s at n (f e c) ο r → Reads s at n (f (suc d) b) ο r
  lowered {ο} f q h = subst (λ (x : ℕ). Reads s at n (f x b) ο r) q.1 (subst (λ (x : ℕ). Reads s at n (f e x) ο r) q.2 h)

  pub naming : {ο : List Item} (f : ℕ → ℕ → List Item) → (b < l) × (e ≡ d) × (c ≡ suc b) → Reads s at n (f e c) ο r → Reads s at n (f d (suc b)) ο r
  naming {ο} f q h = subst (λ (x : ℕ). Reads s at n (f x (suc b)) ο r) q.1 (subst (λ (x : ℕ). Reads s at n (f e x) ο r) q.2 h)

-- the names stay the same where what is expected behind is one level deeper, too
pub kept-names : {s : List ℕ} {at n b c : ℕ} {r : Answer} (f g : ℕ → List Item) → c ≡ b → Reads s at n (f c) (g c) r → Reads s at n (f b) (g b) r
kept-names {s} {at} {n} {r = r} f g q h = subst (λ (x : ℕ). Reads s at n (f x) (g x) r) q h

-- a fault that is known
pub faulty : {s : List ℕ} {at n : ℕ} {ι ο : List Item} {f g : Fault} → f ≡ g → Reads s at n ι ο (Err g) → Reads s at n ι ο (Err f)
faulty {s} {at} {n} {ι} {ο} q h = subst (λ (x : Fault). Reads s at n ι ο (Err x)) (sym q) h
