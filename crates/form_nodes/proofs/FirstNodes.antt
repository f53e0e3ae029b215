-- The nodes of the first ones of a list: of none, of some and of those behind them, and of the whole list where it ends.
use mathlib.Core.Path.{◌≡◌, ap, ◌∙◌, sym, subst}
use mathlib.Core.List.{List, [], ◌++◌, append_assoc, append-nil}
use Prim.Native.Nat.{ℕ}
use lib.ListN.{take}
use Rattle.std.specs.Prelude.{Ok}
use Rattle.form_nodes.specs.FormPromises.{Answer}
use Rattle.form_nodes.specs.declared.Read.{Read}
use Rattle.form_nodes.specs.Derivations.{Part, Derives, MadeAt, More, MoreAt}

-- what is written behind something written
pub then-written : (p x y : List ℕ) {l k : List ℕ} → l ≡ p ++ x → k ≡ l ++ y → k ≡ p ++ (x ++ y)
then-written p x y e f = f ∙ ap (λ (l : List ℕ). l ++ y) e ∙ append_assoc p x y

pub nothing_written : (a : List ℕ) (n : ℕ) → take n a ≡ take n a ++ []
nothing_written a n = sym (append-nil (take n a))

module _ {s ν : List ℕ} {x : Part} where
  pub more-none : (i n : ℕ) (a : List ℕ) → MoreAt s ν x i n a a i n
  more-none i n a = record { nodes = []; more = λ k u d. d; written = nothing_written a n }

  pub more-then : {i j k n m o : ℕ} {a b c : List ℕ} → MoreAt s ν x i n a b j m → MoreAt s ν x j m b c k o → MoreAt s ν x i n a c k o
  more-then {i} {n = n} {a = a} p q =
      record {
        nodes = p.nodes ++ q.nodes;
        more = λ l u d. subst (λ (z : List ℕ). Derives s ν x i l z) (sym (append_assoc p.nodes q.nodes u)) (p.more l (q.nodes ++ u) (q.more l u d));
        written = then-written (take n a) p.nodes q.nodes p.written q.written;
      }

  -- the list ends there
  pub more-made : {i j n m : ℕ} {a b : List ℕ} → MoreAt s ν x i n a b j m → Derives s ν x j j [] → MadeAt s ν x i n a b j m
  more-made {i} {j} p d =
      record { nodes = p.nodes; derives = subst (λ (z : List ℕ). Derives s ν x i j z) (append-nil p.nodes) (p.more j [] d); written = p.written }

  -- where the first ones were read
  pub more-known : {i n : ℕ} {a b : List ℕ} {r : Answer} {e : Read} → r ≡ Ok e → More s ν x i n a b r → MoreAt s ν x i n a b e.at e.count
  more-known {i} {n} {a} {b} q h = subst (λ (y : Answer). More s ν x i n a b y) q h
