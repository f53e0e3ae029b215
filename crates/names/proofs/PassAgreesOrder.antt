-- The least fault of parts whose faults lie one behind the other is that of the first part that has one; and parts may change places in a list of faults.
use mathlib.Core.Path.{◌≡◌, refl, ap, ◌∙◌, sym, subst}
use mathlib.Core.Bool.{Bool, true, false}
use mathlib.Core.List.{List, [], ◌∷◌, ◌++◌}
use Prim.Native.Nat.{ℕ, zero, suc, ◌*◌, ◌≤◌, ◌<◌}
use native.Mathlib.Omega.{arith}
use lib.Dec.{ltb}
use borrow.Author.Tests.{ne_eqb, ltb-true, ltb-false, lt-ltb, le-ltb}
use Rattle.refusals.specs.Refusals.{Fault}
use Rattle.refusals.proofs.RefusalNumbers.{small-number}
use Rattle.type_rules.specs.TypesByNumber.{key_room, lesser, inside_key, least_key}
use Rattle.names.proofs.TypesAgreeLeast.{lesser-zero, lesser-assoc, least-append, least-nil, one-fault, zero-lesser, least-positive}
use Rattle.names.proofs.PassAgreesPlaces.{Within, nowhere, at_place}

sucs-left : (a b : ℕ) → a ≤ b → lesser (suc a) (suc b) ≡ suc a
unfolding lesser
sucs-left a b h = rw (ne_eqb (suc a) 0 (omega arith), ne_eqb (suc b) 0 (omega arith), le-ltb (suc b) (suc a) (omega arith))

sucs-right : (a b : ℕ) → b < a → lesser (suc a) (suc b) ≡ suc b
unfolding lesser
sucs-right a b h = rw (ne_eqb (suc a) 0 (omega arith), ne_eqb (suc b) 0 (omega arith), lt-ltb (suc b) (suc a) (omega arith))

pub lesser-comm : (a b : ℕ) → lesser a b ≡ lesser b a
lesser-comm zero b = zero-lesser b ∙ sym (lesser-zero b)
lesser-comm (suc a) zero = lesser-zero (suc a) ∙ sym (zero-lesser (suc a))
lesser-comm (suc a) (suc b) = on (ltb b a) refl (ltb a b) refl
  where
    on : (p : Bool) → ltb b a ≡ p → (q : Bool) → ltb a b ≡ q → lesser (suc a) (suc b) ≡ lesser (suc b) (suc a)
    on true h q k = let l = ltb-true b a h in sucs-right a b l ∙ sym (sucs-left b a (omega arith))
    on false h true k = let l = ltb-true a b k in sucs-left a b (omega arith) ∙ sym (sucs-right b a l)
    on false h false k =
        let l = ltb-false b a h in let m = ltb-false a b k in
        let e : a ≡ b = omega arith in
        sucs-left a b l ∙ ap suc e ∙ sym (sucs-left b a m)

-- two of four change places
medial : (a b c e : ℕ) → lesser (lesser a b) (lesser c e) ≡ lesser (lesser a c) (lesser b e)
medial a b c e =
    lesser-assoc a b (lesser c e) ∙ ap (lesser a) (sym (lesser-assoc b c e) ∙ ap (λ (n : ℕ). lesser n e) (lesser-comm b c) ∙ lesser-assoc c b e)
    ∙ sym (lesser-assoc a c (lesser b e))

-- what is behind goes before
before : (a c e : ℕ) → lesser a (lesser c e) ≡ lesser c (lesser a e)
before a c e = sym (lesser-assoc a c e) ∙ ap (λ (n : ℕ). lesser n e) (lesser-comm a c) ∙ lesser-assoc c a e

-- an operation's declarations and predicates, and those of the operations behind it
pub operation-order : (n q a c f g : ℕ)
    → lesser (lesser n (lesser q (lesser a c))) (lesser f g) ≡ lesser (lesser (lesser n q) f) (lesser a (lesser c g))
operation-order n q a c f g =
    ap (λ (m : ℕ). lesser m (lesser f g)) (sym (lesser-assoc n q (lesser a c))) ∙ medial (lesser n q) (lesser a c) f g
    ∙ ap (lesser (lesser (lesser n q) f)) (lesser-assoc a c g)

-- the parts of a dossier
pub dossier-order : (g da pa dc pc ai ci re f k : ℕ)
    → lesser g (lesser (lesser da pa) (lesser (lesser dc pc) (lesser (lesser ai (lesser ci re)) (lesser f k))))
    ≡ lesser (lesser (lesser (lesser g da) dc) f) (lesser pa (lesser pc (lesser ai (lesser ci (lesser re k)))))
dossier-order g da pa dc pc ai ci re f k =
    let five : lesser (lesser ai (lesser ci re)) (lesser f k) ≡ lesser f (lesser ai (lesser ci (lesser re k)))
    = before (lesser ai (lesser ci re)) f k ∙ ap (lesser f) (lesser-assoc ai (lesser ci re) k ∙ ap (lesser ai) (lesser-assoc ci re k)) in
    ap (λ (n : ℕ). lesser g (lesser (lesser da pa) n)) (ap (lesser (lesser dc pc)) five ∙ medial dc pc f (lesser ai (lesser ci (lesser re k))))
    ∙ ap (lesser g) (medial da pa (lesser dc f) (lesser pc (lesser ai (lesser ci (lesser re k)))))
    ∙ sym (lesser-assoc g (lesser da (lesser dc f)) (lesser pa (lesser pc (lesser ai (lesser ci (lesser re k))))))
    ∙ ap (λ (n : ℕ). lesser n (lesser pa (lesser pc (lesser ai (lesser ci (lesser re k))))))
    (sym (lesser-assoc g da (lesser dc f)) ∙ sym (lesser-assoc (lesser g da) dc f))

-- ---- places ----

-- the key of a fault between two places, or none
record Between (a b k : ℕ) : Type 0 where
  high : k ≤ key_room * b
  low : 1 ≤ k → key_room * a < k

lesser-between : (a b k l : ℕ) → Between a b k → Between a b l → Between a b (lesser k l)
lesser-between a b zero l h m = subst (Between a b) (sym (zero-lesser l)) m
lesser-between a b (suc k) zero h m = subst (Between a b) (sym (lesser-zero (suc k))) h
lesser-between a b (suc k) (suc l) h m = on (ltb l k) refl
  where
    on : (p : Bool) → ltb l k ≡ p → Between a b (lesser (suc k) (suc l))
    on true e = subst (Between a b) (sym (sucs-right k l (ltb-true l k e))) m
    on false e = subst (Between a b) (sym (sucs-left k l (ltb-false l k e))) h

fault-between : (a b : ℕ) (f : Fault) → a ≤ f.place → f.place < b → Between a b (least_key (f ∷ []))
fault-between a b f l r =
    let n = small-number f.refusal in
    subst (Between a b) (one-fault f.place f.refusal) (record { high = omega arith; low = λ h. omega arith })

none_between : (a b : ℕ) → Between a b 0
none_between a b = record { high = omega arith; low = λ h. absurd (omega arith) }

least-between : {a b : ℕ} {fs : List Fault} → Within a b fs → Between a b (least_key fs)
least-between {a} {b} nowhere = subst (Between a b) (sym least-nil) (none_between a b)
least-between {a} {b} (at_place {f = f} {fs = fs} l r h) =
    subst (Between a b) (sym (least-append (f ∷ []) fs))
    (lesser-between a b (least_key (f ∷ [])) (least_key fs) (fault-between a b f l r) (least-between h))

ordered : (a b c d k l : ℕ) → Between a b k → Between c d l → b ≤ c → lesser k l ≡ inside_key k l
ordered a b c d zero l h m o = zero-lesser l
ordered a b c d (suc k) zero h m o = lesser-zero (suc k) ∙ sym (rw (ne_eqb (suc k) 0 (omega arith)))
ordered a b c d (suc k) (suc l) h m o =
    sucs-left k l (omega (arith, h.high, m.low (omega arith))) ∙ sym (rw (ne_eqb (suc k) 0 (omega arith)))

pub in_order : {a b c d : ℕ} {xs ys : List Fault} → Within a b xs → Within c d ys → b ≤ c → least_key (xs ++ ys) ≡ inside_key (least_key xs) (least_key ys)
in_order {a} {b} {c} {d} {xs} {ys} h k o =
    least-append xs ys ∙ ordered a b c d (least_key xs) (least_key ys) (least-between h) (least-between k) o

first-only : (j m n : ℕ) → 1 ≤ j → inside_key j m ≡ inside_key j n
first-only zero m n h = absurd (omega arith)
first-only (suc j) m n h = rw (ne_eqb (suc j) 0 (omega arith))

-- a part and what is behind it, which is looked at where the part has no fault
pub behind : {a b c d : ℕ} (m n : ℕ) {xs ys : List Fault} → Within a b xs → Within c d ys → b ≤ c → m ≡ least_key xs → (xs ≡ [] → n ≡ least_key ys)
    → inside_key m n ≡ least_key (xs ++ ys)
behind m n {ys = ys} nowhere k o e f = ap (λ (j : ℕ). inside_key j n) (e ∙ least-nil) ∙ f refl
behind m n {ys = ys} (at_place {f = x} {fs = xs} l r h) k o e f =
    ap (λ (j : ℕ). inside_key j n) e ∙ first-only (least_key (x ∷ xs)) n (least_key ys) (least-positive x xs) ∙ sym (in_order (at_place {f = x} l r h) k o)
