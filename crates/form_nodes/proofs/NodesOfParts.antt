-- How the nodes of a part are put together from those of its parts.
use mathlib.Core.Path.{◌≡◌, refl, ap, ◌∙◌, sym, subst}
use mathlib.Core.List.{List, [], ◌++◌, append_assoc, append-nil}
use Prim.Native.Nat.{ℕ, zero, suc, ◌+◌, ◌≤◌}
use native.Mathlib.Omega.{arith}
use lib.ListN.{take, get_or, length}
use Rattle.lexical.specs.Kinds.{Kind, code_of, lookup, is}
use Rattle.form.specs.Codes.{node}
use Rattle.form_nodes.specs.FormPromises.{place_of, Writes, Closes, Missed, Shown, Starts, Classes, level_of}
use Rattle.form_nodes.specs.Derivations.{Part, a_pred_from, a_unary, Derives, quantified, MadeAt, Made, MemberAt, DomainAt, domain_node, name_code}
use Rattle.std.specs.Prelude.{Ok, Err}
use Rattle.refusals.specs.declared.Fault.{Fault}
use Rattle.form_nodes.specs.declared.Read.{Read}
use Rattle.form_nodes.specs.FormPromises.{Answer}
use Rattle.form_nodes.specs.declared.kinds.Start.{Start}
use Rattle.form_nodes.specs.declared.kinds.Start.TheVariants.{Leaf}
use Rattle.form_nodes.proofs.Classes.{started_by}

-- the numbers x stand in b behind the first n numbers of a, up to the number m
pub record Built (n : ℕ) (a x : List ℕ) (m : ℕ) (b : List ℕ) : Type 0 where
  pub is : take m b ≡ take n a ++ x

-- one behind another
pub both : {n m k : ℕ} {a b c x y : List ℕ} → Built n a x m b → Built m b y k c → Built n a (x ++ y) k c
both {n} {m} {k} {a} {b} {c} {x} {y} p q = record { is = q.is ∙ ap (λ (z : List ℕ). z ++ y) p.is ∙ append_assoc (take n a) x y }

-- what a function wrote, as it is, or with its two numbers known by other words
pub wrote : {n r : ℕ} {a b x : List ℕ} → Writes a n x b r → Built n a x r b
wrote w = record { is = w.nodes }

pub node_of : {n r k p x y u v : ℕ} {a b : List ℕ} → x ≡ u → y ≡ v → Writes a n (node k p x y) b r → Built n a (node k p u v) r b
node_of {n} {r} {k} {p} {x} {y} {u} {v} {a} {b} e f w =
    record { is = w.nodes ∙ ap (λ (z : ℕ). take n a ++ node k p z y) e ∙ ap (λ (z : ℕ). take n a ++ node k p u z) f }

module _ {s ν : List ℕ} where
  -- a result that is known
  pub made : {x : Part} {i n : ℕ} {a b : List ℕ} {r : Answer} {e : Read} → r ≡ Ok e → Made s ν x i n a b r → MadeAt s ν x i n a b e.at e.count
  made {x} {i} {n} {a} {b} q h = subst (λ (y : Answer). Made s ν x i n a b y) q h

  pub built : {x : Part} {i n j m : ℕ} {a b : List ℕ} (h : MadeAt s ν x i n a b j m) → Built n a h.nodes m b
  built h = record { is = h.written }

  pub makes : {x : Part} {i n j m : ℕ} {a b u : List ℕ} → Built n a u m b → Derives s ν x i j u → MadeAt s ν x i n a b j m
  makes {u = u} p d = record { nodes = u; derives = d; written = p.is }

  -- nothing is written
  pub nothing : {x : Part} {i n j : ℕ} {a : List ℕ} → Derives s ν x i j [] → MadeAt s ν x i n a a j n
  nothing {n = n} {a = a} d = record { nodes = []; derives = d; written = sym (append-nil (take n a)) }

  -- the last part of a part, whatever its result
  pub onward : {x y : Part} {i n j m : ℕ} {a b u : List ℕ} (c : List ℕ) (r : Answer) → Built n a u m b
      → ((k : ℕ) (v : List ℕ) → Derives s ν x j k v → Derives s ν y i k (u ++ v)) → Made s ν x j m b c r → Made s ν y i n a c r
  onward c (Ok e) p f h = makes (both p (built h)) (f e.at h.nodes h.derives)
  onward c (Err g) p f h = tt

  -- a symbol that is the last of a part
  pub closing : {x : Part} {i n e k m : ℕ} {a b : List ℕ} {r : Answer} → Closes s e k m r → (get_or s e 0 ≡ k → MadeAt s ν x i n a b (e + 1) m)
      → Made s ν x i n a b r
  closing {x} {i} {n} {e} {k} {m} {a} {b} {r = Ok j} h f =
      subst (λ (z : ℕ). MadeAt s ν x i n a b z j.count) (sym h.shown.0.0)
      (subst (λ (z : ℕ). MadeAt s ν x i n a b (e + 1) z) (sym h.shown.1) (f h.shown.0.1))
  closing {r = Err g} h f = tt

  -- a part that begins at a place known by other words
  pub from : {x : Part} {i j k : ℕ} {n : List ℕ} → i ≡ j → Derives s ν x i k n → Derives s ν x j k n
  from {x} {k = k} {n} q d = subst (λ (z : ℕ). Derives s ν x z k n) q d

  -- a quantified predicate, whose places are known by other words
  pub ranging : {i t e f k : ℕ} {n : List ℕ} → get_or s i 0 ≡ 15 → 53 ≤ get_or s (i + 1) 0 → get_or s (i + 1) 0 ≤ 55 → get_or s (i + 1 + 1) 0 ≡ 2
      → (t ≡ i + 1 + 1 + 1 + 1) × (get_or s (i + 1 + 1 + 1) 0 ≡ 10) → DomainAt s t e → (f ≡ e + 1) × (get_or s e 0 ≡ 14) → Derives s ν (a_pred_from 1) f k n → get_or s k 0 ≡ 16
      → Derives s ν a_unary i (k + 1) ((n ++ domain_node s ν t) ++ node 8 (i + 1) (name_code s ν (i + 1 + 1)) (get_or s (i + 1) 0))
  ranging {i} {t} {e} {f} {k} {n} p lo hi x q o y d z =
      subst
      (λ (u : ℕ). DomainAt s u e → Derives s ν a_unary i (k + 1) ((n ++ domain_node s ν u) ++ node 8 (i + 1) (name_code s ν (i + 1 + 1)) (get_or s (i + 1) 0)))
      (sym q.0)
      (λ g. quantified p lo hi x q.1 g y.1 (from y.0 d) z)
      o

-- one symbol that was read, or missed
pub closed : {s : List ℕ} {at k n : ℕ} {e : Read} {r : Answer} → r ≡ Ok e → Closes s at k n r → ((e.at ≡ at + 1) × (get_or s at 0 ≡ k)) × (e.count ≡ n)
closed {s} {at} {k} {n} q h = subst (λ (z : Answer). Shown (λ (e : ℕ). (e ≡ at + 1) × (get_or s at 0 ≡ k)) n z) q h.shown

pub closed-within : {s : List ℕ} {at k n : ℕ} {e : Read} {r : Answer} → r ≡ Ok e → Closes s at k n r → e.at ≤ length s
closed-within {s} q h = subst (λ (z : Answer). place_of z ≤ length s) q h.within

pub unclosed : {s : List ℕ} {at k n : ℕ} {f : Fault} {r : Answer} → r ≡ Err f → Closes s at k n r → Missed s at k (Err f)
unclosed {s} {at} {k} q h = subst (λ (z : Answer). Missed s at k z) q h.missed

pub showing : {j : Read} {r : Answer} (P : ℕ → Type 0) (n : ℕ) → r ≡ Ok j → Shown P n r → P j.at
showing P n q h = (subst (λ (x : Answer). Shown P n x) q h).0

-- classes of the symbol at a place
pub start-at : {k g : ℕ} {r v : Start} → k ≡ g → r ≡ v → Starts k r → Starts g v
start-at {k} {v = v} e q h = subst (λ (x : ℕ). Starts x v) e (subst (λ (x : Start). Starts k x) q h)

pub class-at : {t : List (Kind × ℕ)} {k g c v : ℕ} → k ≡ g → c ≡ v → Classes t k c → Classes t g v
class-at {t} {k} {v = v} e q h = subst (λ (x : ℕ). Classes t x v) e (subst (λ (x : ℕ). Classes t k x) q h)

pub number-start : {k : ℕ} → k ≡ 1 → Starts k Leaf
unfolding code_of lookup is
number-start q = started_by q refl (omega arith)

pub membership-at : {s : List ℕ} {i k : ℕ} → k ≡ get_or s i 0 → (56 ≤ k) × (k ≤ 57) → MemberAt s i
membership-at e h = let l = h.0 in let m = h.1 in record { low = omega arith; high = omega arith }

-- an operator's level is at most 2
pub level-two : (o : ℕ) → level_of o ≤ 2
level-two zero = omega arith
level-two (suc zero) = omega arith
level-two (suc (suc o)) = omega arith
