-- A dossier without faults of form has at most three bound names in reach anywhere.
use mathlib.Core.Path.{◌≡◌, refl, ap, ◌∙◌, sym, subst}
use mathlib.Core.Bool.{Bool, true, false, not, ◌&&◌, cond}
use mathlib.Core.List.{List, [], ◌∷◌, map}
use mathlib.Core.Option.{none, some}
use Prim.Native.Nat.{ℕ, suc, pred, ◌≤◌, ◌<◌}
use native.Mathlib.Omega.{arith}
use lib.Dec.{ltb}
use lib.ListN.{length, take, drop, get_or, take-append-drop, length-map}
use borrow.Author.Tests.{lt-ltb}
use Rattle.lexical.specs.Kinds as kind
use Rattle.lexical.specs.Kinds.{Kind, code_of, is}
use Rattle.lexical.specs.Symbols.{Symbol, fixed, kind_of}
use Rattle.refusals.specs.Refusals.{Refusal, deep}
use Rattle.form.specs.Tree.{End, Range, Domain, given_set, range, State, Operation, Dossier, declarations}
use Rattle.form.specs.Tree.{Term, number, name, group, prefix, binary, divided, listed, pairs, such, empty_set, empty_pairs, Items, only, also, Pairs, only_pair, also_pair}
use Rattle.form.specs.Tree.{Pred, truth, falsity, negation, paren, quantified, connected, compared, member, within, related}
use Rattle.form.specs.Written.{unmarked, binds, Written, minus_of, write_end, write_range, write_domain, write_term, write_items, write_pairs, write_pred}
use Rattle.form.specs.Written.{write_where, write_state, write_operations, written, symbols_of}
use Rattle.form.specs.Form.{Whole, Begins, at_mark, Forms, kind_at, refuse, excess, is_used, settled}
use Rattle.form.specs.BoundNames.{TermBindsFew, ItemsBindFew, PairsBindFew, PredBindsFew, OperationsBindFew, BindsFew}
use Rattle.form.proofs.RelationsBehind as kept

-- what the symbol i of a dossier without faults opens or counts is not too much
pub no-excess : {w : List Symbol} {d : Dossier} → Forms w d → (i : ℕ) → i < length (written d) → (r : Refusal)
    → ¬ (settled (kind_at w (pred i)) (kind_at w i) (drop (suc i) w) (get_or (map (λ (x : Written). x.mark) (written d)) i unmarked) ≡ some r)
unfolding symbols_of
no-excess {w} {d} f i l r over =
    let n : length w ≡ length (written d) = ap (length {A = Symbol}) (sym f.whole.symbols) ∙ length-map (written d) (λ (x : Written). x.symbol) in
    let b : Begins (take (suc i) w) =
    record { dossier = d; rest = drop (suc i) w; whole = subst (λ (u : List Symbol). Whole u d) (sym (take-append-drop (suc i) w)) f.whole } in
    f.faultless i r (at_mark (record { inside = omega arith; begins = b; over = over }))

-- some symbol binds the bound name n in reach: it has the mark, and a colon follows it
data Binds (n : ℕ) : List Written → Type 0 where
  here : {x y : Written} {u : List Written} → x.mark ≡ binds n → y.symbol ≡ fixed kind.colon → Binds n (x ∷ y ∷ u)
  there : {x : Written} {u : List Written} → Binds n u → Binds n (x ∷ u)

behind : (n : ℕ) (x y : Written) (u v : List Written) → Binds n u → Binds n (x ∷ u)
behind n x y u v h = there h

record Bound (n : ℕ) (u : List Written) : Type 0 where
  at : ℕ
  inside : at < length u
  is_bound : get_or (map (λ (x : Written). x.mark) u) at unmarked ≡ binds n
  followed : kind_at (drop (suc at) (map (λ (x : Written). x.symbol) u)) 0 ≡ kind.colon

bound : {n : ℕ} {u : List Written} → Binds n u → Bound n u
unfolding kind_at
bound (here e f) = record { at = 0; inside = omega arith; is_bound = e; followed = ap kind_of f }
bound (there h) = let k = bound h in let l = k.inside in record { at = suc k.at; inside = omega arith; is_bound = k.is_bound; followed = k.followed }

-- a count over its limit is refused
pub over-limit : (limit n : ℕ) (r : Refusal) → limit < n → refuse (ltb limit n) r ≡ some r
unfolding refuse
over-limit limit n r l = ap (λ (b : Bool). refuse b r) (lt-ltb limit n l)

bound-over : (n : ℕ) → 3 < n → (k s : Kind) (rest : List Symbol) → kind_at rest 0 ≡ kind.colon → settled k s rest (binds n) ≡ some deep
unfolding settled excess is_used is code_of refuse
bound-over n l k s rest e =
    ap (λ (c : Kind). cond (is k kind.open_brace && not (is c kind.colon)) none (refuse (ltb 3 n) deep)) e ∙ on (is k kind.open_brace)
  where
    on : (b : Bool) → cond (b && not (is kind.colon kind.colon)) none (refuse (ltb 3 n) deep) ≡ some deep
    on true = over-limit 3 n deep l
    on false = over-limit 3 n deep l

-- no fourth bound name, nor one behind it
abbrev Few : List Written → Type 0
Few u = (n : ℕ) → 3 < n → ¬ Binds n u

forms-few : {w : List Symbol} {d : Dossier} → Forms w d → Few (written d)
unfolding symbols_of
forms-few {w} {d} f n l h =
    let b = bound h in
    no-excess f b.at b.inside deep
    (ap (settled (kind_at w (pred b.at)) (kind_at w b.at) (drop (suc b.at) w)) b.is_bound
    ∙ bound-over n l _ _ _ (ap (λ (u : List Symbol). kind_at (drop (suc b.at) u) 0) (sym f.whole.symbols) ∙ b.followed))

-- ---- trees: none of their bound names is a fourth one, and what stands behind has none either ----

tail : {x : Written} {u : List Written} → Few (x ∷ u) → Few u
tail h n l b = h n l (there b)

first : {x y : Written} {u : List Written} (k : ℕ) → Few (x ∷ y ∷ u) → x.mark ≡ binds (suc k) → y.symbol ≡ fixed kind.colon → suc k ≤ 3
first k h e f = let over : ¬ (3 < suc k) = λ l. h (suc k) l (here e f) in omega arith

past-minus : (b : Bool) (w : List Written) → Few (minus_of b w) → Few w
past-minus true w h = tail h
past-minus false w h = h

past_end : (e : End) (w : List Written) → Few (write_end e w) → Few w
past_end e w h = tail (past-minus e.negative _ h)

past-range : (r : Range) (w : List Written) → Few (write_range r w) → Few w
past-range r w h = past_end r.upper w (tail (past_end r.lower _ h))

past-domain : (t : Domain) (w : List Written) → Few (write_domain t w) → Few w
past-domain (given_set g) w h = tail h
past-domain (range r) w h = past-range r w h

mutual
  unfolding write_term TermBindsFew

  term : (t : Term) (d k : ℕ) (w : List Written) → Few (write_term t d k w) → TermBindsFew t k × Few w
  term (number n) d k w h = (tt, tail h)
  term (name x) d k w h = (tt, tail h)
  term (group t) d k w h = let a = term t _ k _ (tail h) in (a.0, tail a.1)
  term (prefix o t) d k w h = term t _ k w (tail h)
  term (binary o t u) d k w h = let a = term t d k _ h in let b = term u d k w (tail a.1) in ((a.0, b.0), b.1)
  term (divided o t e) d k w h = let a = term t d k _ h in (a.0, past_end e w (tail a.1))
  term (listed ts) d k w h = let a = items ts _ k _ (tail h) in (a.0, tail a.1)
  term (pairs ts) d k w h = let a = pairing ts _ k _ (tail h) in (a.0, tail a.1)
  term (such x g p) d k w h = let a = predicate p _ _ _ (tail (tail (tail (tail (tail h))))) in ((first k (tail h) refl refl, a.0), tail a.1)
  term (empty_set g) d k w h = (tt, tail (tail h))
  term (empty_pairs g f) d k w h = (tt, tail (tail (tail h)))

  items : (t : Items) (d k : ℕ) (w : List Written) → Few (write_items t d k w) → ItemsBindFew t k × Few w
  items (only t) d k w h = term t d k w h
  items (also t ts) d k w h = let a = term t d k _ h in let b = items ts d k w (tail a.1) in ((a.0, b.0), b.1)

  pairing : (t : Pairs) (d k : ℕ) (w : List Written) → Few (write_pairs t d k w) → PairsBindFew t k × Few w
  pairing (only_pair t u) d k w h = let a = term t d k _ h in let b = term u d k w (tail a.1) in ((a.0, b.0), b.1)
  pairing (also_pair t u ts) d k w h =
      let a = term t d k _ h in let b = term u d k _ (tail a.1) in let c = pairing ts d k w (tail b.1) in ((a.0, b.0, c.0), c.1)

  predicate : (p : Pred) (d k : ℕ) (w : List Written) → Few (write_pred p d k w) → PredBindsFew p k × Few w
  predicate truth d k w h = (tt, tail h)
  predicate falsity d k w h = (tt, tail h)
  predicate (negation p) d k w h = predicate p _ k w (tail h)
  predicate (paren p) d k w h = let a = predicate p _ k _ (tail h) in (a.0, tail a.1)
  predicate (quantified q x t p) d k w h =
      let a = predicate p _ _ _ (tail (past-domain t _ (tail (tail (tail (tail h)))))) in ((first k (tail (tail h)) refl refl, a.0), tail a.1)
  predicate (connected o p q) d k w h = let a = predicate p d k _ h in let b = predicate q _ k w (tail a.1) in ((a.0, b.0), b.1)
  predicate (compared o t u) d k w h = let a = term t d k _ h in let b = term u d k w (tail a.1) in ((a.0, b.0), b.1)
  predicate (member o t u) d k w h = let a = term t d k _ h in let b = term u d k w (tail a.1) in ((a.0, b.0), b.1)
  predicate (within o t r) d k w h = let a = term t d k _ h in (a.0, past-range r w (tail a.1))
  predicate (related o t u v) d k w h =
      let a = term t d k _ h in let b = term u d k _ (tail a.1) in let c = term v d k w (tail b.1) in ((a.0, b.0, c.0), c.1)

-- ---- the dossier ----

condition : (p : Pred) (w : List Written) → Few (write_where p w) → PredBindsFew p 0 × Few w
unfolding write_where
condition p w h = let a = predicate p 0 0 _ (tail h) in (a.0, tail a.1)

state : (s : State) (w : List Written) → Few (write_state s w) → PredBindsFew s.predicate 0 × Few w
unfolding write_state
state s w h = condition s.predicate w (λ n l b. h n l (kept.declarations (λ u v. Binds n u) (behind n) 0 0 (declarations s) _ [] b))

operations : (n : ℕ) (os : List Operation) (w : List Written) → Few (write_operations n os w) → OperationsBindFew os
unfolding write_operations OperationsBindFew
operations n [] w h = tt
operations n (o ∷ os) w h =
    let p : Few _ = λ i l b. h i l (there (there (kept.parameters (λ u v. Binds i u) (behind i) 0 0 0 0 o.parameters _ [] b))) in
    let a = predicate o.abstractly 0 0 _ (tail p) in
    let c = predicate o.concretely 0 0 _ (tail a.1) in
    (a.0, c.0, operations (suc n) os w (tail c.1))

-- 5. "a fourth bound name in reach": a dossier without faults of form has none
pub forms-bind-few : {w : List Symbol} {d : Dossier} → Forms w d → BindsFew d
unfolding written
forms-bind-few {w} {d} f =
    let h = forms-few f in
    let gs : Few _ = λ n l b. h n l (kept.contents (λ u v. Binds n u) (behind n) d _ [] (kept.givens (λ u v. Binds n u) (behind n) 0 0 d.givens _ [] b)) in
    let a = state d.abstract _ (tail gs) in
    let c = state d.concrete _ (tail a.1) in
    let i = condition d.ainit _ (tail c.1) in
    let j = condition d.cinit _ (tail i.1) in
    let r = condition d.retrieve _ (tail j.1) in
    record { abstract = a.0; concrete = c.0; ainit = i.0; cinit = j.0; retrieve = r.0; operations = operations 0 d.operations [] r.1 }
