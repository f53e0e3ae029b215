-- A value in 12 bits of a key: raised by 1000, if it is not negative then and has room. Assumes nothing.
use mathlib.Core.Path.{◌≡◌, refl, sym, ap, subst, ◌∙◌}
use Prim.Native.Nat.{ℕ, ◌+◌, ◌*◌, ◌<◌}
use lib.IntN.{ℤ, pos, negsuc, nat_abs, ◌+ℤ◌}
use mir.Syntax.{w64}
use mir.Val.{SFits, of_z, to_z}
use mir.Facts.{to_z-of_z}
use Rattle.std.proofs.Common.{Option, Some, Result, Ok, Err}
use Rattle.std.specs.Int.{FitsUnsignedBits}
use Rattle.std.specs.Option.{SomeIff}
use Rattle.std.specs.Result.{OkIff, result_ok}
use Rattle.memo.specs.MemoPromises.{Behind}

-- what `u64::try_from` gives of a number
natural : (w : ℤ) (n : ℕ) → FitsUnsignedBits 64 w → n ≡ nat_abs w → w ≡ pos n
natural (pos m) n f e = ap pos (sym e)
natural (negsuc m) n f e = absurd f

converted : {E : Type 0} (t : Result ℕ E) (w : ℤ) (x : ℕ) → OkIff t (FitsUnsignedBits 64 w) (nat_abs w) → result_ok t ≡ Some x → w ≡ pos x
converted (Ok n) w x h e = natural w n h.0 h.1 ∙ ap pos (let i : n ≡ x = cc in i)
converted (Err d) w x h e = cc

-- the value, what it is raised to, and that as a digit
pub digit-behind : {E : Type 0} {k x : ℕ} {v w : ℤ} {a : Option ℤ} (t : Result ℕ E) {o : Option ℕ} → SFits w64 v
    → SomeIff a (SFits w64 (to_z w64 (of_z w64 v) +ℤ pos 1000)) (to_z w64 (of_z w64 v) +ℤ pos 1000) → a ≡ Some w
    → OkIff t (FitsUnsignedBits 64 (to_z w64 (of_z w64 w))) (nat_abs (to_z w64 (of_z w64 w))) → o ≡ result_ok t → o ≡ Some x → x < 4096 → Behind k v (4096 * k + x)
digit-behind {k = k} {x = x} {v = v} {w = w} t f h e g p q l =
    let s = subst (λ (o : Option ℤ). SomeIff o (SFits w64 (to_z w64 (of_z w64 v) +ℤ pos 1000)) (to_z w64 (of_z w64 v) +ℤ pos 1000)) e h in
    let raised : w ≡ v +ℤ pos 1000 = s.1 ∙ ap (λ (z : ℤ). z +ℤ pos 1000) (to_z-of_z f) in
    let back : to_z w64 (of_z w64 w) ≡ w = to_z-of_z (subst (SFits w64) (sym s.1) s.0) in
    record { digit = x; low = l; raised = sym raised ∙ sym back ∙ converted t _ x g (sym p ∙ q); is = refl }
