-- `carriers::digit` meets its contract. Assumes nothing.
use Prim.Native.Nat.{◌/◌, ◌%◌, ◌<◌, ℕ}
use native.Mathlib.Nat.{div-zero, mod-zero, zero-mod}
use native.Mathlib.Omega.{arith}
use mathlib.Core.Path.{◌≡◌, sym, ap, subst, ◌∙◌}
use Rattle.std.proofs.Common.{Option, Some, None}
use Rattle.std.specs.Option.{SomeIff, unwrap_or}
use Rattle.carriers.specs.ValuesByNumber.{digit}
use Rattle.carriers.proofs.digit.Goals as goal

-- by 0 all is left as the remainder, and the quotient is 0
remainder : (o : Option ℕ) (q m : ℕ) → SomeIff o (0 < m) (q % m) → unwrap_or o q ≡ q % m
remainder (Some x) q m h = h.1
remainder None q m h = let z : m ≡ 0 = omega arith in sym (ap (λ (n : ℕ). q % n) z ∙ mod-zero q)

no_quotient : (o : Option ℕ) (k s m : ℕ) → SomeIff o (0 < s) (k / s) → o ≡ None → 0 ≡ digit s m k
unfolding digit
no_quotient o k s m h e =
    let n : 0 < s → ⊥ = subst (λ (x : Option ℕ). SomeIff x (0 < s) (k / s)) e h in
    let z : s ≡ 0 = omega arith in
    sym (ap (λ (x : ℕ). k / x % m) z ∙ ap (λ (x : ℕ). x % m) (div-zero k) ∙ zero-mod m)

pub returns-in_default : goal.returns-in_default
returns-in_default c = no_quotient c.checked_div.result c.args.k c.args.stride c.args.count c.checked_div.ensures c.in_default.is

pub returns : goal.returns
unfolding digit
returns c = c.unwrap_or.ensures ∙ remainder c.checked_rem.result c.in-Some.q c.args.count c.checked_rem.ensures ∙ ap (λ (x : ℕ). x % c.args.count) c.in-Some.ensures.1
