-- What a walk that is lent the first of some nodes has seen, as of all of them; and nodes with one behind them.
use mathlib.Core.Path.{◌≡◌, sym, ap, ◌∙◌, subst}
use mathlib.Core.List.{List, [], ◌∷◌, ◌++◌}
use Prim.Native.Nat.{ℕ, suc, ◌+◌, ◌-◌, ◌≤◌, ◌<◌}
use native.Mathlib.Nat.{min-le_left, le_trans}
use Rattle.std.proofs.Math.Nat.{le_refl}
use native.Mathlib.Omega.{arith}
use lib.ListN.{length, take, drop, get_or, length-take, length-append, take-append-drop, drop_of_length-le}
use lib.Seq.{take-length, take_at, take-append-le, drop-cons, get_or-append-add}
use Rattle.form.specs.Codes.{node}
use Rattle.type_rules.specs.declared.Seen.{Seen}
use Rattle.type_rules.specs.declared.Node.{Node}
use Rattle.type_rules.specs.TypesByNumber.{Names, Sizes, NodeAt, DomainSeen, TermSeen, ItemsSeen, PairSeen, PairsSeen, PredSeen}
use Rattle.typing.specs.BoundPromise.{BoundSeen}
use Rattle.typing.specs.SidesPromise.{SidesSeen}
use Rattle.typing.specs.declared.types.Sides.{Sides}
use Rattle.typing.specs.EndedNodes.{ended}

-- what stands in the first m numbers
pub front-le : (x : List ℕ) {m s : ℕ} → s ≤ length (take m x) → s ≤ m
front-le x {m = m} {s = s} h = le_trans (subst (λ (n : ℕ). s ≤ n) (length-take m x) h) (min-le_left m (length x))

-- a node behind x
ended-at : (x : List ℕ) (k : ℕ) (n : Node) (j : ℕ) → get_or (ended x k n) (length x + 4 - 4 + j) 0 ≡ get_or (node k n.place n.a n.b) j 0
ended-at x k n j = ap (λ (m : ℕ). get_or (ended x k n) m 0) (omega arith) ∙ get_or-append-add x (node k n.place n.a n.b) j 0

ended-node : (x : List ℕ) (k : ℕ) (n : Node) → NodeAt (ended x k n) (length x + 4) n
ended-node x k n = record {
  place_is = sym (ended-at x k n 2);
  first_is = sym (ended-at x k n 1);
  second_is = sym (ap (λ (m : ℕ). get_or (ended x k n) m 0) (omega arith) ∙ ended-at x k n 0);
}

-- the node n of the shape k ends at e
pub record EndsIn (code : List ℕ) (e k : ℕ) (n : Node) : Type 0 where
  pub fits : e ≤ length code
  pub node : NodeAt code e n
  pub shape : get_or code (e - 4 + 3) 0 ≡ k

pub ended-in : (x : List ℕ) (k : ℕ) (n : Node) → EndsIn (ended x k n) (length x + 4) k n
ended-in x k n = record { fits = omega (arith, length-append x (node k n.place n.a n.b)); node = ended-node x k n; shape = ended-at x k n 3 }

-- the last node of x stands at m
abbrev pub LastAt : List ℕ → ℕ → Type 0
LastAt x m = (4 ≤ length x) × (m ≡ length x - 4)

-- nodes are those before the last one, and that one
one-on : (code : List ℕ) (m j : ℕ) → m < length code → suc m ≡ j → drop m code ≡ get_or code m 0 ∷ drop j code
one-on code m j l e = drop-cons code m 0 l ∙ ap (λ (i : ℕ). get_or code m 0 ∷ drop i code) e

last-four : (code : List ℕ) (m : ℕ) → m + 4 ≡ length code → drop m code ≡ get_or code m 0 ∷ get_or code (m + 1) 0 ∷ get_or code (m + 2) 0 ∷ get_or code (m + 3) 0 ∷ []
last-four code m l =
    one-on code m (m + 1) (omega arith) (omega arith) ∙ ap (λ (y : List ℕ). get_or code m 0 ∷ y)
    (one-on code (m + 1) (m + 2) (omega arith) (omega arith) ∙ ap (λ (y : List ℕ). get_or code (m + 1) 0 ∷ y)
    (one-on code (m + 2) (m + 3) (omega arith) (omega arith) ∙ ap (λ (y : List ℕ). get_or code (m + 2) 0 ∷ y)
    (one-on code (m + 3) (m + 4) (omega arith) (omega arith) ∙ ap (λ (y : List ℕ). get_or code (m + 3) 0 ∷ y) (drop_of_length-le code (omega arith)))))

ended-whole : (code : List ℕ) (m k : ℕ) (n : Node) → LastAt code m → NodeAt code (length code) n → get_or code (m + 3) 0 ≡ k → ended (take m code) k n ≡ code
ended-whole code m k n l h q =
    let four = l.0 in
    let is = l.1 in
    let e₁ : n.b ≡ get_or code m 0 = h.second_is ∙ ap (λ (i : ℕ). get_or code i 0) (sym l.1) in
    let e₂ : n.a ≡ get_or code (m + 1) 0 = h.first_is ∙ ap (λ (i : ℕ). get_or code (i + 1) 0) (sym l.1) in
    let e₃ : n.place ≡ get_or code (m + 2) 0 = h.place_is ∙ ap (λ (i : ℕ). get_or code (i + 2) 0) (sym l.1) in
    let e₄ : get_or code (m + 3) 0 ≡ k = q in
    let e : drop m code ≡ get_or code m 0 ∷ get_or code (m + 1) 0 ∷ get_or code (m + 2) 0 ∷ get_or code (m + 3) 0 ∷ [] = last-four code m (omega arith) in
    let same : n.b ∷ n.a ∷ n.place ∷ k ∷ [] ≡ drop m code = cc in
    ap (λ (y : List ℕ). take m code ++ y) same ∙ take-append-drop m code

-- a law of nodes and where they end, at nodes of which the last stands behind the others
pub whole : (P : List ℕ → ℕ → Type 0) {code : List ℕ} {m k : ℕ} {n : Node} → LastAt code m → NodeAt code (length code) n → get_or code (m + 3) 0 ≡ k
    → P (ended (take m code) k n) (length (take m code) + 4) → P code (length code)
whole P {code = code} {m = m} {k = k} {n = n} l h q s =
    let y : List ℕ = take m code in
    subst (λ (x : List ℕ). P x (length x)) (ended-whole code m k n l h q)
    (subst (λ (e : ℕ). P (ended y k n) e) (omega (arith, length-append y (node k n.place n.a n.b))) s)

-- the nodes that end at e in x are those that end at m in y: what was seen of the former was seen of the latter
pub record Ending (x : List ℕ) (e : ℕ) (y : List ℕ) (m : ℕ) : Type 0 where
  pub same : take e x ≡ take m y
  pub less : e ≤ m

pub front : {x : List ℕ} {m : ℕ} → Ending (take m x) (length (take m x)) x m
front {x = x} {m = m} = record { same = take-length (take m x); less = front-le x (le_refl (length (take m x))) }

-- in front of the last node, which stands at m, and its shape
pub front-last : {x : List ℕ} {m : ℕ} → LastAt x m → Ending (take m x) (length (take m x)) x (length x - 4)
front-last {x = x} {m = m} l = subst (Ending (take m x) (length (take m x)) x) l.1 front

pub shape-last : (x : List ℕ) {m : ℕ} → LastAt x m → get_or x (length x - 4 + 3) 0 ≡ get_or x (m + 3) 0
shape-last x l = ap (λ (i : ℕ). get_or x (i + 3) 0) (sym l.1)

pub behind : (x y : List ℕ) {m : ℕ} → m ≤ length x → Ending (take m x) (length (take m x)) (x ++ y) m
behind x y {m = m} l = record { same = take-length (take m x) ∙ sym (take-append-le m x y l); less = front-le x (le_refl (length (take m x))) }

pub before : (x y : List ℕ) → Ending x (length x) (x ++ y) (length x + 4 - 4)
before x y = record { same = take-length x ∙ sym (take_at x y (length x + 4 - 4) (omega arith)); less = omega arith }

pub domain-at : {x y : List ℕ} {e m : ℕ} {T : Names} {r : Seen} → Ending x e y m → DomainSeen x e T r → DomainSeen y m T r
domain-at h s = record { falls = le_trans s.falls h.less; right = λ d i ρ base q. s.right d i ρ base (h.same ∙ q) }

pub bound-at : {x y : List ℕ} {e m : ℕ} {n : Node} {T U : Names} {z : Sizes} {r : Seen} → Ending x e y m → BoundSeen x e n T U z r → BoundSeen y m n T U z r
bound-at h s = record { falls = le_trans s.falls h.less; kept = s.kept; right = λ d p i j ρ base q. s.right d p i j ρ base (h.same ∙ q) }

pub term-at : {x y : List ℕ} {e m : ℕ} {T U : Names} {z : Sizes} {r : Seen} → Ending x e y m → TermSeen x e T U z r → TermSeen y m T U z r
term-at h s = record { falls = le_trans s.falls h.less; kept = s.kept; right = λ t i ρ base q. s.right t i ρ base (h.same ∙ q) }

pub items-at : {x y : List ℕ} {e m : ℕ} {T U : Names} {z : Sizes} {r : Seen} → Ending x e y m → ItemsSeen x e T U z r → ItemsSeen y m T U z r
items-at h s = record { falls = le_trans s.falls h.less; kept = s.kept; right = λ ts i ρ base q. s.right ts i ρ base (h.same ∙ q) }

pub sides-at : {x y : List ℕ} {e m : ℕ} {T U : Names} {z : Sizes} {r : Sides} → Ending x e y m → SidesSeen x e T U z r → SidesSeen y m T U z r
sides-at h s = record { falls = le_trans s.falls h.less; kept = s.kept; right = λ t u i j ρ base q. s.right t u i j ρ base (h.same ∙ q) }

pub pair-at : {x y : List ℕ} {e m : ℕ} {T U : Names} {z : Sizes} {r : Seen} → Ending x e y m → PairSeen x e T U z r → PairSeen y m T U z r
pair-at h s = record { falls = le_trans s.falls h.less; kept = s.kept; right = λ t u i j ρ base q. s.right t u i j ρ base (h.same ∙ q) }

pub pairs-at : {x y : List ℕ} {e m : ℕ} {T U : Names} {z : Sizes} {r : Seen} → Ending x e y m → PairsSeen x e T U z r → PairsSeen y m T U z r
pairs-at h s = record { falls = le_trans s.falls h.less; kept = s.kept; right = λ ts i ρ base q. s.right ts i ρ base (h.same ∙ q) }

pub pred-at : {x y : List ℕ} {e m : ℕ} {T U : Names} {z : Sizes} {r : Seen} → Ending x e y m → PredSeen x e T U z r → PredSeen y m T U z r
pred-at h s = record { falls = le_trans s.falls h.less; kept = s.kept; right = λ p i ρ base q. s.right p i ρ base (h.same ∙ q) }

pub term-whole : {code : List ℕ} {m k : ℕ} {n : Node} {T U : Names} {z : Sizes} {r : Seen} → LastAt code m → NodeAt code (length code) n → get_or code (m + 3) 0 ≡ k
    → TermSeen (ended (take m code) k n) (length (take m code) + 4) T U z r → TermSeen code (length code) T U z r
term-whole {T = T} {U = U} {z = z} {r = r} = whole (λ (x : List ℕ) (e : ℕ). TermSeen x e T U z r)

pub pred-whole : {code : List ℕ} {m k : ℕ} {n : Node} {T U : Names} {z : Sizes} {r : Seen} → LastAt code m → NodeAt code (length code) n → get_or code (m + 3) 0 ≡ k
    → PredSeen (ended (take m code) k n) (length (take m code) + 4) T U z r → PredSeen code (length code) T U z r
pred-whole {T = T} {U = U} {z = z} {r = r} = whole (λ (x : List ℕ) (e : ℕ). PredSeen x e T U z r)
