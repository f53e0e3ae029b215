-- What a walk for sizes has seen of the nodes that end in one list it has seen of the same nodes in another.
-- Form 8: FrontNodes of typing, over records of sizes: a law over any record would be handed how to take one apart and how to make one, which is all that each of these says.
use mathlib.Core.Path.{◌≡◌, ◌∙◌}
use mathlib.Core.List.{List}
use Prim.Native.Nat.{ℕ, ◌+◌}
use native.Mathlib.Nat.{le_trans}
use lib.ListN.{length, take, get_or}
use Rattle.type_rules.specs.declared.Node.{Node}
use Rattle.type_rules.specs.TypesByNumber.{NodeAt}
use Rattle.typing.specs.EndedNodes.{ended}
use Rattle.typing.proofs.FrontNodes.{LastAt, whole, Ending}
pub use Rattle.typing.proofs.FrontNodes.{LastAt, front}
use Rattle.term_sizes.specs.declared.Sized.{Sized}
use Rattle.term_sizes.specs.declared.sizes.Over.{Over}
use Rattle.term_sizes.specs.SizesByNumber.{Bounds}
use Rattle.term_sizes.specs.SizeWalkPromises.{DomainSized, TermSized, ItemsSized, PairSized, PairsSized, PredSized, BoundSized}

pub domain-at : {x y : List ℕ} {e m : ℕ} {r : Over} → Ending x e y m → DomainSized x e r → DomainSized y m r
domain-at h s = record { falls = le_trans s.falls h.less; right = λ d i ρ base q. s.right d i ρ base (h.same ∙ q) }

pub bound-at : {x y : List ℕ} {e m : ℕ} {n : Node} {S U : Bounds} {r : Sized} → Ending x e y m → BoundSized x e n S U r → BoundSized y m n S U r
bound-at h s = record { falls = le_trans s.falls h.less; kept = s.kept; right = λ d p i j ρ base q. s.right d p i j ρ base (h.same ∙ q) }

pub term-at : {x y : List ℕ} {e m : ℕ} {S U : Bounds} {r : Sized} → Ending x e y m → TermSized x e S U r → TermSized y m S U r
term-at h s = record { falls = le_trans s.falls h.less; kept = s.kept; right = λ t i ρ base q. s.right t i ρ base (h.same ∙ q) }

pub items-at : {x y : List ℕ} {e m : ℕ} {S U : Bounds} {r : Sized} → Ending x e y m → ItemsSized x e S U r → ItemsSized y m S U r
items-at h s = record { falls = le_trans s.falls h.less; kept = s.kept; right = λ ts i ρ base q. s.right ts i ρ base (h.same ∙ q) }

pub pair-at : {x y : List ℕ} {e m : ℕ} {S U : Bounds} {r : Sized} → Ending x e y m → PairSized x e S U r → PairSized y m S U r
pair-at h s = record { falls = le_trans s.falls h.less; kept = s.kept; right = λ t u i j ρ base q. s.right t u i j ρ base (h.same ∙ q) }

pub pairs-at : {x y : List ℕ} {e m : ℕ} {S U : Bounds} {r : Sized} → Ending x e y m → PairsSized x e S U r → PairsSized y m S U r
pairs-at h s = record { falls = le_trans s.falls h.less; kept = s.kept; right = λ ts i ρ base q. s.right ts i ρ base (h.same ∙ q) }

pub pred-at : {x y : List ℕ} {e m : ℕ} {S U : Bounds} {r : Sized} → Ending x e y m → PredSized x e S U r → PredSized y m S U r
pred-at h s = record { falls = le_trans s.falls h.less; kept = s.kept; right = λ p i ρ base q. s.right p i ρ base (h.same ∙ q) }

pub term-whole : {code : List ℕ} {m k : ℕ} {n : Node} {S U : Bounds} {r : Sized} → LastAt code m → NodeAt code (length code) n → get_or code (m + 3) 0 ≡ k
    → TermSized (ended (take m code) k n) (length (take m code) + 4) S U r → TermSized code (length code) S U r
term-whole {S = S} {U = U} {r = r} = whole (λ (x : List ℕ) (e : ℕ). TermSized x e S U r)

pub pred-whole : {code : List ℕ} {m k : ℕ} {n : Node} {S U : Bounds} {r : Sized} → LastAt code m → NodeAt code (length code) n → get_or code (m + 3) 0 ≡ k
    → PredSized (ended (take m code) k n) (length (take m code) + 4) S U r → PredSized code (length code) S U r
pred-whole {S = S} {U = U} {r = r} = whole (λ (x : List ℕ) (e : ℕ). PredSized x e S U r)
