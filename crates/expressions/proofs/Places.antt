-- What is read and made from a place and a count that are known by other words.
use mathlib.Core.Path.{◌≡◌, subst, sym}
use mathlib.Core.List.{List}
use Prim.Native.Nat.{ℕ, ◌+◌, ◌*◌, ◌≤◌}
use Rattle.std.specs.Prelude.{Ok}
use Rattle.form.specs.Machine.{Item}
use Rattle.form_nodes.specs.declared.Read.{Read}
use Rattle.form_nodes.specs.FormPromises.{Answer, Reads}
use Rattle.form_nodes.specs.Derivations.{Part, Derives, MadeAt}
use Rattle.form_nodes.proofs.ReadParts.{counted}
use Rattle.form_nodes.proofs.NodesOfParts.{Built, makes}

pub moved : {s : List ℕ} {i j n m : ℕ} {ι ο : List Item} {r : Answer} → (i ≡ j) × (n ≡ m) → Reads s i n ι ο r → Reads s j m ι ο r
moved {s} {i} {j} {n} {m} {ι} {ο} {r} q h = subst (λ (x : ℕ). Reads s j x ι ο r) q.1 (subst (λ (x : ℕ). Reads s x n ι ο r) q.0 h)

pub made-there : {s ν : List ℕ} {x : Part} {i j n m k l : ℕ} {a b : List ℕ} → (i ≡ j) × (n ≡ m) → MadeAt s ν x i n a b k l → MadeAt s ν x j m a b k l
made-there {s} {ν} {x} {i} {j} {n} {m} {k} {l} {a} {b} q h =
    subst (λ (z : ℕ). MadeAt s ν x j z a b k l) q.1 (subst (λ (z : ℕ). MadeAt s ν x z n a b k l) q.0 h)

-- what is read up to a place, where the answer ends there by other words; and with other numbers written
pub placed : {s : List ℕ} {at n j : ℕ} {ι ο : List Item} {f : Read} → f.at ≡ j → Reads s at n ι ο (Ok (record { at = j; count = f.count })) → Reads s at n ι ο (Ok f)
placed {s} {at} {n} {ι = ι} {ο} {f} q h = subst (λ (x : ℕ). Reads s at n ι ο (Ok (record { at = x; count = f.count }))) (sym q) h

pub handed : {s : List ℕ} {at n c : ℕ} {ι ο : List Item} {e f : Read} → f.at ≡ e.at → f.count + 4 * at ≤ c + 4 * e.at → Reads s at n ι ο (Ok e) → Reads s at c ι ο (Ok f)
handed q l a = placed q (counted l a)

pub makes-at : {s ν : List ℕ} {x : Part} {i n j k m : ℕ} {a b u : List ℕ} → k ≡ j → Built n a u m b → Derives s ν x i j u → MadeAt s ν x i n a b k m
makes-at {s} {ν} {x} {i} {n} {m = m} {a} {b} q p d = subst (λ (z : ℕ). MadeAt s ν x i n a b z m) (sym q) (makes p d)
