-- Items behind others, as many of them as there is room for. Assumes nothing.
use Rattle.std.proofs.Common.{◌≡◌, sym, ap, ◌∙◌, arith, ℕ, ◌+◌, List, ◌++◌, length, take, min, Result, Ok, Err, IsOk, OnOk, true≢false}
use Rattle.std.proofs.lemmas.List.{take_min}
use Rattle.std.proofs.Math.Seq.{take-append-add}

pub room-behind : {A : Type 0} (n r m : ℕ) (xs w : List A) → r + length xs ≡ n → m ≡ min r (length w) → xs ++ take m w ≡ take n (xs ++ w)
room-behind n r m xs w e f =
    ap (λ (k : ℕ). xs ++ take k w) f ∙ ap (λ z. xs ++ z) (take_min r w) ∙ sym (take-append-add xs w r) ∙ ap (λ (k : ℕ). take k (xs ++ w)) (omega (arith, e))

pub at-ok : {T E P : Type 0} (r : Result T E) → IsOk r → OnOk r P → P
at-ok (Ok x) _ p = p
at-ok (Err e) h _ = absurd (true≢false (sym h))
