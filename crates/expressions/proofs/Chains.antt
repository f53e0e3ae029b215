-- Which link stands next in a chain of operators or connectives, and one more link of it, with its nodes.
use mathlib.Core.Path.{◌≡◌, refl, sym, ap, subst, ◌∙◌}
use mathlib.Core.Bool.{Bool, true, false}
use mathlib.Core.List.{List, ◌++◌}
use Prim.Native.Nat.{ℕ, ◌+◌, ◌*◌, ◌≤◌, ◌<◌}
use native.Mathlib.Omega.{arith}
use lib.Dec.{ltb}
use lib.ListN.{length, get_or}
use borrow.Author.Tests.{ltb-true, ltb-false}
use Rattle.form_nodes.specs.Derivations.{Part, a_term_from, Derives, OperatorFrom, an_operator, no_operator, ConnectiveFrom, a_connective, no_connective, MoreAt, NoOperator, NoConnective}
use Rattle.std.specs.Prelude.{Option, Some, None}
use Rattle.std.specs.Bool.{then_some}
use Rattle.std.specs.Option.{MatchOption}
use Rattle.form_nodes.specs.declared.kinds.Operator.{Operator}
use Rattle.form_nodes.specs.declared.kinds.Operator.TheVariants.{Loose, Tight, Division}
use Rattle.form_nodes.specs.FormPromises.{KindAt, Classes, operators, connectives, operator_number, operator_class, connective_class, level_of}
use Rattle.form_nodes.proofs.NodesOfParts.{Built, class-at}

module _ {s ν : List ℕ} {x : Part} where
  -- a link by its nodes
  pub chain : {i j n m : ℕ} {a b u : List ℕ} → Built n a u m b → ((k : ℕ) (v : List ℕ) → Derives s ν x j k v → Derives s ν x i k (u ++ v))
      → MoreAt s ν x i n a b j m
  chain {u = u} p f = record { nodes = u; more = f; written = p.is }

-- what stands at a symbol, by what the search for it answers
pub operator-some : {s : List ℕ} {i min : ℕ} {r : Option Operator} {o : Operator} → r ≡ Some o → OperatorFrom s i min r
    → Classes operators (get_or s i 0) (operator_number o) × (min ≤ level_of (operator_number o)) × (i < length s)
operator-some {s} {i} {min} {o = o} q h = apart (subst (λ (x : Option Operator). OperatorFrom s i min x) q h)
  where
    apart : OperatorFrom s i min (Some o) → Classes operators (get_or s i 0) (operator_number o) × (min ≤ level_of (operator_number o)) × (i < length s)
    apart (an_operator c l b) = (c, l, b)

pub operator-none : {s : List ℕ} {i min : ℕ} {r : Option Operator} → r ≡ None → OperatorFrom s i min r → NoOperator s min i
operator-none {s} {i} {min} q h = apart (subst (λ (x : Option Operator). OperatorFrom s i min x) q h)
  where
    apart : OperatorFrom s i min None → NoOperator s min i
    apart (no_operator n) = n

pub connective-some : {s : List ℕ} {i min : ℕ} {r : Option ℕ} {l : ℕ} → r ≡ Some l → ConnectiveFrom s i min r → Classes connectives (get_or s i 0) l × (min ≤ l) × (i < length s)
connective-some {s} {i} {min} {l = l} q h = apart (subst (λ (x : Option ℕ). ConnectiveFrom s i min x) q h)
  where
    apart : ConnectiveFrom s i min (Some l) → Classes connectives (get_or s i 0) l × (min ≤ l) × (i < length s)
    apart (a_connective c m b) = (c, m, b)

pub connective-none : {s : List ℕ} {i min : ℕ} {r : Option ℕ} → r ≡ None → ConnectiveFrom s i min r → NoConnective s min i
connective-none {s} {i} {min} q h = apart (subst (λ (x : Option ℕ). ConnectiveFrom s i min x) q h)
  where
    apart : ConnectiveFrom s i min None → NoConnective s min i
    apart (no_connective n) = n

-- what a search that keeps the level min and higher ones answers
operator-inside : {s : List ℕ} {i k : ℕ} (o : Operator) → KindAt s i k → operator_number o ≤ 9 * k → i < length s
operator-inside Loose at n = omega (arith, at.inside)
operator-inside Tight at n = omega (arith, at.inside)
operator-inside Division at n = omega (arith, at.inside)

pub operator-kept : {s : List ℕ} {i k : ℕ} (below : ℕ) {R : Operator → Bool → Type 0} (r f : Option Operator) → KindAt s i k → Classes operators k (operator_class r)
    → ((o : Operator) (b : Bool) → R o b → b ≡ ltb below (level_of (operator_number o)))
    → MatchOption r (f ≡ None) (λ o. (b : Bool) × R o b × (f ≡ then_some b o)) → OperatorFrom s i (below + 1) f
operator-kept {s} {i} {k} below None f at c t m =
    subst (λ (x : Option Operator). OperatorFrom s i (below + 1) x) (sym m)
    (no_operator (λ κ e. let z = ap level_of (c.class κ (e ∙ sym at.is)) in omega arith))
operator-kept {s} {i} {k} below (Some o) f at c t (true, h, q) =
    subst (λ (x : Option Operator). OperatorFrom s i (below + 1) x) (sym q)
    (an_operator (class-at at.is refl c) (let m = ltb-true below (level_of (operator_number o)) (sym (t o true h)) in omega arith) (operator-inside o at c.none))
operator-kept {s} {i} {k} below (Some o) f at c t (false, h, q) =
    subst (λ (x : Option Operator). OperatorFrom s i (below + 1) x) (sym q)
    (no_operator (λ κ e. let z = ap level_of (c.class κ (e ∙ sym at.is)) in let w = ltb-false below (level_of (operator_number o)) (sym (t o false h)) in omega arith))

pub connective-kept : {s : List ℕ} {i k : ℕ} (below : ℕ) {R : ℕ → Bool → Type 0} (r f : Option ℕ) → KindAt s i k → Classes connectives k (connective_class r)
    → ((l : ℕ) (b : Bool) → R l b → b ≡ ltb below l)
    → MatchOption r (f ≡ None) (λ l. (b : Bool) × R l b × (f ≡ then_some b l)) → ConnectiveFrom s i (below + 1) f
connective-kept {s} {i} {k} below None f at c t m =
    subst (λ (x : Option ℕ). ConnectiveFrom s i (below + 1) x) (sym m) (no_connective (λ κ e. omega (arith, c.class κ (e ∙ sym at.is))))
connective-kept {s} {i} {k} below (Some l) f at c t (true, h, q) =
    let m : below < l = ltb-true below l (sym (t l true h)) in
    subst (λ (x : Option ℕ). ConnectiveFrom s i (below + 1) x) (sym q) (a_connective (class-at at.is refl c) (omega arith) (omega (arith, at.inside, c.none)))
connective-kept {s} {i} {k} below (Some l) f at c t (false, h, q) =
    subst (λ (x : Option ℕ). ConnectiveFrom s i (below + 1) x) (sym q)
    (no_connective (λ κ e. omega (arith, c.class κ (e ∙ sym at.is), ltb-false below l (sym (t l false h)))))

-- an operator that is no division is of a level of its own number
pub not-division : (o : Operator) → (o ≡ Division → ⊥) → (1 ≤ operator_number o) × (operator_number o ≤ 2) × (level_of (operator_number o) ≡ operator_number o)
not-division Loose n = (omega arith, omega arith, refl)
not-division Tight n = (omega arith, omega arith, refl)
not-division Division n = absurd (n refl)

-- a right side, read from the next level on
pub at-level : {s ν : List ℕ} {l m i j : ℕ} {u : List ℕ} → l ≡ m → Derives s ν (a_term_from (l + 1)) i j u → Derives s ν (a_term_from (m + 1)) i j u
at-level {s} {ν} {i = i} {j} {u} q d = subst (λ (x : ℕ). Derives s ν (a_term_from (x + 1)) i j u) q d
