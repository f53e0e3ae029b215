-- The pass for form computes the condition: the least fault of 4, 5 and 6, or the dossier with these symbols.
use mathlib.Core.Path.{◌≡◌, refl, sym, ap, ap₂, ◌∙◌, subst}
use mathlib.Core.Bool.{Bool, true, false, not, ◌&&◌, ◌||◌}
use mathlib.Core.List.{List, [], ◌∷◌, ◌++◌}
use mathlib.Core.Option.{Option, none, some}
use Prim.Native.Nat.{ℕ, zero, suc, pred, ◌+◌, ◌≤◌, ◌<◌}
use native.Mathlib.Omega.{arith}
use lib.Dec.{eqb, ltb}
use lib.ListN.{length, take, drop, get_or}
use lib.Seq.{take-suc, take-length}
use borrow.Author.Tests.{le-ltb, ltb-true, ltb-false, eqb-true, eq-eqb}
use borrow.Author.Clash.{clash}
use Rattle.std.proofs.lemmas.Bool.{or_parts}
use Rattle.lexical.proofs.BooleanTests.{and_left, and_right}
use Rattle.lexical.specs.Kinds as kind
use Rattle.lexical.specs.Kinds.{Kind, code_of, is, lookup}
use Rattle.lexical.specs.Symbols.{Symbol, fixed}
use Rattle.refusals.specs.Refusals.{Refusal, fault, number_of, before}
use Rattle.refusals.proofs.RefusalNumbers.{number-decides}
use Rattle.form.specs.Tree.{Dossier}
use Rattle.form.specs.Written.{Mark, unmarked, written, write_contents}
use Rattle.form.specs.Form as shape
use Rattle.form.specs.Form.{Whole, Begins, FormFault, at_form, at_mark, Refuses, FormOf, kind_at, is_range_end, is_used, settled, refused, formed}
use Rattle.form.specs.Machine.{Item, some_entries, stuck, then, act, does, Next, go, halt, step, Run, complete, failed, run_from, run}
use Rattle.form.specs.Parse.{form, outcome_of}
use Rattle.form.proofs.Takes.{initial, feed, feed_on, Fits, equal, range_end, used_name, IsOpens, IsBinds, Continues}
use Rattle.form.specs.Machine.{kind_before}
use Rattle.form.proofs.Runs.{Passed, Cause, cannot_take, cannot_end, over, Stopped, Outcome, ran}
use Rattle.form.proofs.Split.{mark_at, AtSymbol, at_symbol, at-end}
use Rattle.form.proofs.Table.{Spelled, AllSpelled}
use Rattle.form.proofs.Viable.{viable, continues, wholly, feed-append}
use Rattle.form.proofs.ParseDossier.{parse-whole, one-dossier}

-- answers told apart
abbrev go_mark : Next → Mark
go_mark (go m ρ) = m
go_mark halt = unmarked

abbrev IsGo : Next → Type 0
IsGo (go m ρ) = Unit {0}
IsGo halt = ⊥

abbrev IsRefused : Option Refusal → Type 0
IsRefused none = ⊥
IsRefused (some r) = Unit {0}

abbrev or_else : Refusal → Option Refusal → Refusal
or_else r none = r
or_else r (some s) = s

abbrev state_of : Option (List Item) → List Item
state_of none = []
state_of (some γ) = γ

one_state : {x : Option (List Item)} {γ ρ : List Item} → x ≡ some γ → x ≡ some ρ → γ ≡ ρ
one_state p q = ap state_of (sym p ∙ q)

no-refusal : {x : Option Refusal} {r : Refusal} → x ≡ none → x ≡ some r → ⊥
no-refusal p q = subst IsRefused (sym q ∙ p) tt

not_halted : {n : Next} {m : Mark} {ρ : List Item} → n ≡ go m ρ → n ≡ halt → ⊥
not_halted p q = subst IsGo (sym p ∙ q) tt

feed-next : (w : List Symbol) (j : ℕ) → j < length w → (γ σ ρ : List Item) (m : Mark) → feed (take j w) γ ≡ some σ → step σ (kind_at w j) ≡ go m ρ → feed (take (suc j) w) γ ≡ some ρ
unfolding kind_at
feed-next w j l γ σ ρ m f e =
    ap (λ (u : List Symbol). feed u γ) (take-suc w j (fixed kind.END) l) ∙ feed-append (take j w) (get_or w j (fixed kind.END) ∷ []) γ σ f
    ∙ ap (λ (n : Next). feed_on n (feed [])) e

-- parts of what is spelled are spelled
spelled-take : (w : List Symbol) → AllSpelled w → (j : ℕ) → AllSpelled (take j w)
spelled-take w h zero = tt
spelled-take [] h (suc j) = tt
spelled-take (s ∷ w) h (suc j) = (h.0, spelled-take w h.1 j)

spelled_at : (w : List Symbol) → AllSpelled w → (j : ℕ) → Spelled (get_or w j (fixed kind.END))
unfolding is code_of
spelled_at [] h j = refl
spelled_at (s ∷ w) h zero = h.0
spelled_at (s ∷ w) h (suc j) = spelled_at w h.1 j

-- a mark of the machine that counts for nothing leaves the tree's mark no fault; and where the mark is the tree's, they count for the same
fits-quiet : {m μ : Mark} {k s : Kind} {v : List Symbol} (κ σ : Kind) (ν : List Symbol) {r : Refusal} → Fits m μ k s v → settled κ σ ν m ≡ none → settled κ σ ν μ ≡ some r → ⊥
unfolding settled
fits-quiet κ σ ν equal p q = no-refusal p q
fits-quiet κ σ ν (range_end h) p q = subst IsRefused (sym q) tt
fits-quiet κ σ ν (used_name h) p q = subst IsRefused (sym q) tt

fits-same : {m μ : Mark} {k s : Kind} {v : List Symbol} (κ σ : Kind) (ν : List Symbol) {r t : Refusal} → Fits m μ k s v → settled κ σ ν m ≡ some r → settled κ σ ν μ ≡ some t → r ≡ t
unfolding settled
fits-same κ σ ν {r} equal p q = ap (or_else r) (sym p ∙ q)
fits-same κ σ ν (range_end h) p q = absurd (subst IsRefused (sym q) tt)
fits-same κ σ ν (used_name h) p q = absurd (subst IsRefused (sym q) tt)

range-number : (k s : Kind) (w : List Symbol) → is_range_end k s w ≡ true → is (kind_at w 0) kind.number ≡ true
unfolding is_range_end
range-number k s w h =
    let a : Bool = (is k kind.IN || is k kind.NOTIN) && is s kind.minus in
    let b : Bool = is (kind_at w 0) kind.number in
    and_right a b (and_left (a && b) (is (kind_at w 1) kind.up_to) h)

used-no_colon : (k : Kind) (w : List Symbol) → is_used k w ≡ true → not (is (kind_at w 0) kind.colon) ≡ true
unfolding is_used
used-no_colon k w h = and_right (is k kind.open_brace) (not (is (kind_at w 0) kind.colon)) h

fits-mark : {m μ : Mark} {k s : Kind} {v : List Symbol} → Fits m μ k s v → (IsOpens m → is (kind_at v 0) kind.number ≡ false) → (IsBinds m → is (kind_at v 0) kind.colon ≡ true) → m ≡ μ
fits-mark equal o b = refl
fits-mark (range_end {k = k} {s = s} {w = w} h) o b = clash _ (range-number k s w h) (o tt)
fits-mark (used_name {k = k} {w = w} h) o b = clash _ (used-no_colon k w h) (ap not (b tt))

-- the first symbol opens and counts nothing, in the machine and in every dossier
first-unmarked : (k : Kind) → go_mark (step initial k) ≡ unmarked
unfolding step act lookup
first-unmarked k = on (is k kind.CONTENTS)
  where
    on : (b : Bool) → go_mark (does (elim b [ true ↦ then (some_entries 0 ∷ []) | false ↦ stuck ]) [] halt) ≡ unmarked
    on true = refl
    on false = refl

written-first : (d : Dossier) → mark_at (written d) 0 ≡ unmarked
unfolding written write_contents
written-first d = refl

-- the kind before the first symbol plays no part
before-machine : (w : List Symbol) (j : ℕ) (γ ρ : List Item) (m : Mark) (r : Refusal) → feed (take j w) initial ≡ some γ → step γ (kind_at w j) ≡ go m ρ
    → settled (kind_before kind.END w j) (kind_at w j) (drop (suc j) w) m ≡ some r → settled (kind_at w (pred j)) (kind_at w j) (drop (suc j) w) m ≡ some r
unfolding settled
before-machine w zero γ ρ m r f e q =
    let g : initial ≡ γ = one_state refl f in
    let n : m ≡ unmarked = ap go_mark (sym e) ∙ ap (λ (x : List Item). go_mark (step x (kind_at w 0))) (sym g) ∙ first-unmarked (kind_at w 0) in
    absurd (subst IsRefused (sym q ∙ ap (settled kind.END (kind_at w 0) (drop 1 w)) n) tt)
before-machine w (suc j) γ ρ m r f e q = q

before-tree : (w : List Symbol) (j : ℕ) (d : Dossier) (r : Refusal) → settled (kind_at w (pred j)) (kind_at w j) (drop (suc j) w) (mark_at (written d) j) ≡ some r
    → settled (kind_before kind.END w j) (kind_at w j) (drop (suc j) w) (mark_at (written d) j) ≡ some r
unfolding settled
before-tree w zero d r q = absurd (subst IsRefused (sym q ∙ ap (settled (kind_at w 0) (kind_at w 0) (drop 1 w)) (written-first d)) tt)
before-tree w (suc j) d r q = q

-- a fault that is not before another
not-before : (j i : ℕ) (s r : Refusal) → i ≤ j → (j ≡ i → number_of r ≤ number_of s) → before (fault j s) (fault i r) ≡ false
unfolding before
not-before j i s r h g = ap (λ (x : Bool). x || eqb j i && ltb (number_of s) (number_of r)) (le-ltb j i h) ∙ on (eqb j i) refl
  where
    on : (b : Bool) → eqb j i ≡ b → (b && ltb (number_of s) (number_of r)) ≡ false
    on true e = le-ltb (number_of s) (number_of r) (g (eqb-true j i e))
    on false e = refl

-- of two faults neither of which is before the other both are one
same_place : (i j : ℕ) (r s : Refusal) → before (fault i r) (fault j s) ≡ false → (j ≤ i) × (i ≡ j → number_of s ≤ number_of r)
unfolding before
same_place i j r s h =
    let p = or_parts (ltb i j) (eqb i j && ltb (number_of r) (number_of s)) h in
    (ltb-false i j p.0, λ e. on (eqb i j) (eq-eqb i j e) p.1)
  where
    on : (t : Bool) → t ≡ true → (t && ltb (number_of r) (number_of s)) ≡ false → number_of s ≤ number_of r
    on true e q = ltb-false (number_of r) (number_of s) q
    on false e q = clash false e refl

both : (i j : ℕ) (r s : Refusal) → before (fault i r) (fault j s) ≡ false → before (fault j s) (fault i r) ≡ false → (i ≡ j) × (r ≡ s)
both i j r s a b =
    let p = same_place i j r s a in
    let q = same_place j i s r b in
    let u : j ≤ i = p.0 in
    let v : i ≤ j = q.0 in
    let e : i ≡ j = omega arith in
    let x : number_of s ≤ number_of r = p.1 e in
    let y : number_of r ≤ number_of s = q.1 (sym e) in
    let n : number_of r ≡ number_of s = omega arith in
    (e, number-decides r s n)

-- at a symbol that the machine takes: the mark of every dossier that begins with the symbols up to it fits the machine's
marked : (w : List Symbol) (j : ℕ) → j < length w → (b : Begins (take (suc j) w)) (γ ρ : List Item) (m : Mark) → feed (take j w) initial ≡ some γ → step γ (kind_at w j) ≡ go m ρ
    → Fits m (mark_at (written b.dossier) j) (kind_before kind.END w j) (kind_at w j) b.rest
marked w j l b γ ρ m f e =
    let a : AtSymbol w j b = at_symbol w j l b in
    let g : a.state ≡ γ = one_state a.fed f in
    let n : a.mark ≡ m = ap go_mark (sym a.stepped ∙ ap (λ (x : List Item). step x (kind_at w j)) g ∙ e) in
    subst (λ (x : Mark). Fits x (mark_at (written b.dossier) j) (kind_before kind.END w j) (kind_at w j) b.rest) n a.fits

-- no fault stands at a symbol that is passed
clear : (w : List Symbol) → AllSpelled w → (j : ℕ) → j < length w → Passed w kind.END initial j → (s : Refusal) → FormFault w j s → ⊥
clear w q j l p s (at_form h) = h.fault_at_symbol l (viable (take (suc j) w) p.next (spelled-take w q (suc j)) (feed-next w j l initial p.state p.next p.mark p.fed p.stepped))
clear w q j l p s (at_mark h) =
    fits-quiet (kind_before kind.END w j) (kind_at w j) (drop (suc j) w) (marked w j l h.begins p.state p.next p.mark p.fed p.stepped) p.quiet
    (before-tree w j h.begins.dossier s h.over)

-- where the machine stops there is a fault
faulty : (w : List Symbol) → AllSpelled w → (j : ℕ) (γ : List Item) (r : Refusal) → j ≤ length w → feed (take j w) initial ≡ some γ → Cause w kind.END γ j r → FormFault w j r
faulty w z j γ r h f (cannot_take l e) =
    at_form
    (record {
      inside = h;
      first = viable (take j w) γ (spelled-take w z j) f;
      fault_at_symbol = λ l₁ b. let a : AtSymbol w j b = at_symbol w j l b in not_halted a.stepped (ap (λ (x : List Item). step x (kind_at w j)) (one_state a.fed f) ∙ e);
      at_end = λ q. absurd (omega arith);
    })
faulty w z j γ r h f (cannot_end q e) =
    at_form
    (record {
      inside = h;
      first = viable (take j w) γ (spelled-take w z j) f;
      fault_at_symbol = λ l. absurd (omega arith);
      at_end = λ q₁ d wh. clash _ (at-end w d wh γ (ap (λ (u : List Symbol). feed u initial) (sym (ap (λ (n : ℕ). take n w) q ∙ take-length w)) ∙ f)) e;
    })
faulty w z j γ r h f (over m ρ l e q) =
    let c : Continues (take j w) (get_or w j (fixed kind.END)) m = continues (take j w) (get_or w j (fixed kind.END)) m γ ρ (spelled-take w z j) (spelled_at w z j) f (unfold kind_at in e) in
    let b : Begins (take (suc j) w) =
    record {
      dossier = c.begins.dossier;
      rest = c.begins.rest;
      whole = subst (λ (u : List Symbol). Whole (u ++ c.begins.rest) c.begins.dossier) (sym (take-suc w j (fixed kind.END) l)) c.begins.whole;
    } in
    let n : m ≡ mark_at (written c.begins.dossier) j = fits-mark (marked w j l b γ ρ m f e) c.opened c.bound in
    at_mark
    (record {
      inside = l;
      begins = b;
      over = ap (settled (kind_at w (pred j)) (kind_at w j) (drop (suc j) w)) (sym n) ∙ before-machine w j γ ρ m r f e q;
    })

-- of the faults at the place where it stops the machine's is the least
lowest : (w : List Symbol) → AllSpelled w → (j : ℕ) (γ : List Item) (r s : Refusal) → feed (take j w) initial ≡ some γ → Cause w kind.END γ j r → FormFault w j s → number_of r ≤ number_of s
lowest w z j γ r s f (cannot_take l e) (at_form h) = omega arith
lowest w z j γ r s f (cannot_take l e) (at_mark h) =
    let a : AtSymbol w j h.begins = at_symbol w j l h.begins in
    absurd (not_halted a.stepped (ap (λ (x : List Item). step x (kind_at w j)) (one_state a.fed f) ∙ e))
lowest w z j γ r s f (cannot_end q e) (at_form h) = omega arith
lowest w z j γ r s f (cannot_end q e) (at_mark h) = let i = h.inside in absurd (omega arith)
lowest w z j γ r s f (over m ρ l e q) (at_form h) = absurd (h.fault_at_symbol l (viable (take (suc j) w) ρ (spelled-take w z (suc j)) (feed-next w j l initial γ ρ m f e)))
lowest w z j γ r s f (over m ρ l e q) (at_mark h) =
    let same : r ≡ s =
    fits-same (kind_before kind.END w j) (kind_at w j) (drop (suc j) w) (marked w j l h.begins γ ρ m f e) q (before-tree w j h.begins.dossier s h.over) in
    ap-number same
  where
    ap-number : {x y : Refusal} → x ≡ y → number_of x ≤ number_of y
    ap-number {x} p = subst (λ (z : Refusal). number_of x ≤ number_of z) p (omega arith)

refusing : (w : List Symbol) → AllSpelled w → (j : ℕ) (γ : List Item) (r : Refusal) → j ≤ length w → feed (take j w) initial ≡ some γ → Cause w kind.END γ j r
    → ((i : ℕ) → i < j → Passed w kind.END initial i) → Refuses w j r
refusing w z j γ r h f c p =
    record {
      is_fault = faulty w z j γ r h f c;
      is_least = λ i s x. on i s x (ltb i j) refl;
    }
  where
    on : (i : ℕ) (s : Refusal) → FormFault w i s → (b : Bool) → ltb i j ≡ b → before (fault i s) (fault j r) ≡ false
    on i s x true e = let l : i < j = ltb-true i j e in absurd (clear w z i (omega arith) (p i l) s x)
    on i s x false e = not-before i j s r (ltb-false i j e) (λ q. lowest w z j γ r s f c (subst (λ (n : ℕ). FormFault w n s) q x))

-- the pass computes the condition, for the symbols of every text
pub form_of : (w : List Symbol) → AllSpelled w → FormOf w (form w)
unfolding form run
form_of w z = on (run_from w kind.END 0 initial) (ran w kind.END 0 initial)
  where
    on : (o : Run) → Outcome w kind.END initial 0 o → FormOf w (outcome_of w o)
    on complete c =
        let d : (x : Dossier) × Whole w x = wholly w c.state z c.fed c.ends_there in
        record {
          whole = subst (λ (x : Dossier). Whole w x) (sym (parse-whole w d.0 d.1)) d.1;
          faultless = λ j s x. no_fault j s d.0 d.1 x (ltb j (length w)) refl;
        }
      where
        no_fault : (j : ℕ) (s : Refusal) (d : Dossier) → Whole w d → FormFault w j s → (b : Bool) → ltb j (length w) ≡ b → ⊥
        no_fault j s d h x true e = let l : j < length w = ltb-true j (length w) e in clear w z j l (c.all j l) s x
        no_fault j s d h (at_form x) false e = let l : length w ≤ j = ltb-false j (length w) e in let i = x.inside in x.at_end (omega arith) d h
        no_fault j s d h (at_mark x) false e = let l : length w ≤ j = ltb-false j (length w) e in let i = x.inside in absurd (omega arith)
    on (failed e r) c =
        let t : Stopped w kind.END initial 0 e r = c.stopped in
        let at_place : e ≡ 0 + t.at = t.place in
        let same : t.at ≡ e = omega arith in
        subst (λ (n : ℕ). Refuses w n r) same
        (refusing w z t.at t.state r t.within t.fed t.cause (λ i l. c.before i (omega arith)))

-- the condition has one answer
pub one-outcome : (w : List Symbol) (o p : shape.Outcome) → FormOf w o → FormOf w p → o ≡ p
one-outcome w (refused i r) (refused j s) f g = one-fault (both i j r s (g.is_least i r f.is_fault) (f.is_least j s g.is_fault))
  where
    one-fault : (i ≡ j) × (r ≡ s) → refused i r ≡ refused j s
    one-fault e = ap₂ refused e.0 e.1
one-outcome w (refused i r) (formed e) f g = absurd (g.faultless i r f.is_fault)
one-outcome w (formed d) (refused j s) f g = absurd (f.faultless j s g.is_fault)
one-outcome w (formed d) (formed e) f g = ap formed (one-dossier w d e f.whole g.whole)
