-- Places are picked, counted and written one behind the other: what the functions that list the groups count on.
use mathlib.Core.Path.{◌≡◌, refl, sym, ap, ap₂, ◌∙◌, subst}
use mathlib.Core.List.{List, [], ◌∷◌, ◌++◌, append_assoc, append-nil}
use Prim.Native.Nat.{ℕ, suc, ◌+◌, ◌-◌, ◌%◌, ◌≤◌, ◌<◌}
use native.Mathlib.Omega.{arith}
use lib.ListN.{length, take, drop, get_or, set, replicate, length-set, length-append, length-drop, length-replicate, drop_of_length-le}
use lib.Seq.{drop-drop, length-take-le, get_or-take, get_or-drop}
use Rattle.std.proofs.Common.{inl, inr, ◌⊎◌}
use Rattle.std.proofs.lemmas.Bool.{cases_lt}
use Rattle.node_spans.specs.ParserSections.{PartOf}
use Rattle.node_spans.specs.Spans.{Stands, span}
use Rattle.table_nodes.specs.TableWalkPromises.{patch}
use Rattle.table_places.specs.DossierTable.{row}
use Rattle.search_groups.specs.GroupPromises.{Picks, no_pick, pick, pass, Picked, Chosen, PickedAll, GroupPut, OperationPut}
use Rattle.table_nodes.proofs.Pieces.{patch-none, patch-set, patch-length, patch-before, patch-behind, patch-more}
use Rattle.node_spans.proofs.StandingParts.{stands-length, stands-right, stands_at}
use Rattle.search_groups.proofs.GroupPicks.{row-length}

-- the part of the nodes between two places
pub record Part (nodes : List ℕ) (from to : ℕ) (code : List ℕ) : Type 0 where
  pub long : length code ≡ to - from
  pub at : (k : ℕ) → k < length code → get_or code k 0 ≡ get_or nodes (from + k) 0

-- as `between` gives it, where it gives any
pub part_in : {nodes : List ℕ} {from to : ℕ} {code : List ℕ} → PartOf nodes from to code → 1 ≤ length code → Part nodes from to code
part_in {nodes} {from} {to} {code} p some = on (cases_lt to from) (cases_lt (length nodes) to)
  where
    on : (to < from) ⊎ (from ≤ to) → (length nodes < to) ⊎ (to ≤ length nodes) → Part nodes from to code
    on (inl a) b = let e = ap length (p.none (λ c d. omega arith)) in absurd (omega arith)
    on (inr a) (inl b) = let e = ap length (p.none (λ c d. omega arith)) in absurd (omega arith)
    on (inr a) (inr b) =
        let e = p.part a b in
        record {
          long = ap length e ∙ length-take-le (to - from) (drop from nodes) (omega (arith, length-drop from nodes));
          at = λ k l. let h = ap length e in let t = length-take-le (to - from) (drop from nodes) (omega (arith, length-drop from nodes)) in ap (λ (y : List ℕ). get_or y k 0) e ∙ get_or-take (to - from) (drop from nodes) k 0 (omega arith) ∙ get_or-drop from nodes k 0;
        }

-- behind c picked ones: all come of those written and of those still to be read
pub record Left (nodes : List ℕ) (to e at : ℕ) (qs out after : List ℕ) (c : ℕ) : Type 0 where
  pub codes : List ℕ
  pub more : List ℕ
  pub front : List ℕ
  pub stand : Stands nodes at to codes
  pub picks : Picks e at codes more
  pub whole : qs ≡ front ++ more
  pub count : c ≡ length front
  pub written : after ≡ patch 0 front out

pub left-first : (nodes : List ℕ) (to e from at : ℕ) (codes qs out : List ℕ) → at ≡ from → Stands nodes from to codes → Picks e from codes qs → Left nodes to e at qs out out 0
left-first nodes to e from at codes qs out a s p =
    subst (λ (i : ℕ). Left nodes to e i qs out out 0) (sym a)
    (record { codes = codes; more = qs; front = []; stand = s; picks = p; whole = refl; count = refl; written = sym (patch-none 0 out) })

pub left-next : {nodes : List ℕ} {to e at next word c r : ℕ} {qs out now after : List ℕ} → Left nodes to e at qs out now c → word ≡ get_or nodes (at + 1) 0 → Picked word at e c now after r
    → next ≡ at + 8 → at + 8 ≤ to → length qs ≤ length out → length now ≡ length out → Left nodes to e next qs out after r
left-next {nodes} {to} {e} {at} {next} {word} {c} {r} {qs} {out} {now} {after} x named p f h l m =
    subst (λ (i : ℕ). Left nodes to e i qs out after r) (sym f) (go x.codes x.more x.stand x.whole x.picks)
  where
    go : (codes more : List ℕ) → Stands nodes at to codes → qs ≡ x.front ++ more → Picks e at codes more → Left nodes to e (at + 8) qs out after r
    go _ _ s w no_pick = absurd (let z = stands-length s in omega arith)
    go _ _ s w (pick {k = k} {i = i} {a = a} {b = b} {l = l₁} {j = j} {c = c₁} {d = d} {rest = rest} {qs = more} g q) =
        let z : List ℕ = b ∷ a ∷ i ∷ k ∷ d ∷ c₁ ∷ j ∷ l₁ ∷ [] in
        let u = named ∙ stands_at [] (z ++ rest) 1 (at + 1) s (omega arith) (omega arith) in
        let v = x.count in
        let y : length qs ≡ length x.front + suc (length more) = ap length w ∙ length-append x.front (at ∷ more) in
        let f = p.here (ap (λ (t : ℕ). t % 4) u ∙ g) (omega arith) in
        let t : length (x.front ++ (at ∷ [])) ≡ length x.front + 1 = length-append x.front (at ∷ []) in
        let rc = f.1 in
        record {
          codes = rest;
          more = more;
          front = x.front ++ (at ∷ []);
          stand = stands-right z rest (at + 8) s refl;
          picks = q;
          whole = w ∙ sym (append_assoc x.front (at ∷ []) more);
          count = omega arith;
          written = f.0 ∙ ap (λ (y : List ℕ). set y c at) x.written ∙ patch-more 0 c at x.front out (omega arith) (omega arith);
        }
    go _ _ s w (pass {k = k} {i = i} {a = a} {b = b} {l = l₁} {j = j} {c = c₁} {d = d} {rest = rest} {qs = more} g q) =
        let z : List ℕ = b ∷ a ∷ i ∷ k ∷ d ∷ c₁ ∷ j ∷ l₁ ∷ [] in
        let u = named ∙ stands_at [] (z ++ rest) 1 (at + 1) s (omega arith) (omega arith) in
        let f = p.past (λ v. g (sym (ap (λ (t : ℕ). t % 4) u) ∙ v)) in
        record {
          codes = rest;
          more = _;
          front = x.front;
          stand = stands-right z rest (at + 8) s refl;
          picks = q;
          whole = w;
          count = f.1 ∙ x.count;
          written = f.0 ∙ x.written;
        }

pub left-done : {nodes : List ℕ} {to e at c : ℕ} {qs out after : List ℕ} → Left nodes to e at qs out after c → to < at + 8 → Chosen qs out after c
left-done {nodes} {to} {e} {at} {c} {qs} {out} {after} x h = go x.codes x.more x.stand x.whole x.picks
  where
    go : (codes more : List ℕ) → Stands nodes at to codes → qs ≡ x.front ++ more → Picks e at codes more → Chosen qs out after c
    go _ _ s w no_pick =
        let u : x.front ≡ qs = sym (w ∙ append-nil x.front) in
        record { written = x.written ∙ ap (λ (y : List ℕ). patch 0 y out) u; count = x.count ∙ ap length u }
    go _ _ s w (pick g q) = absurd (let z = stands-length s in omega arith)
    go _ _ s w (pass g q) = absurd (let z = stands-length s in omega arith)

-- what a front is exchanged for is written from 0 on
pub front-written : (k : ℕ) (t out : List ℕ) → length t ≡ k → t ++ drop k out ≡ patch 0 t out
unfolding patch
front-written k t out e = let h : k ≡ 0 + length t = omega arith in ap (λ (j : ℕ). t ++ drop j out) h

-- all of a list is written; its front is written in the part behind a place
pub patch-whole : (piece out : List ℕ) → length piece ≡ length out → patch 0 piece out ≡ piece
unfolding patch
patch-whole piece out e = let h : length out ≤ 0 + length piece = omega arith in ap (λ (l : List ℕ). piece ++ l) (drop_of_length-le out h) ∙ append-nil piece

pub patch-part : (a : ℕ) (t out : List ℕ) → a + length t ≤ length out → patch a (patch 0 t (drop a out)) out ≡ patch a t out
unfolding patch
patch-part a t out h =
    let tail : List ℕ = drop (0 + length t) (drop a out) in
    let l = length-append t tail in
    let m = length-drop (0 + length t) (drop a out) in
    let n = length-drop a out in
    let k : length out ≤ a + length (t ++ tail) = omega arith in
    let z : 0 + length t ≡ length t = omega arith in
    ap (λ (l : List ℕ). take a out ++ ((t ++ tail) ++ l)) (drop_of_length-le out k)
    ∙ ap (λ (l : List ℕ). take a out ++ l) (append-nil (t ++ tail) ∙ ap (λ (l : List ℕ). t ++ l) (ap (λ (j : ℕ). drop j (drop a out)) z ∙ drop-drop (length t) a out))

-- a whole row: the places behind its first number, zeros behind them, and then that number
pub group-put : {nodes : List ℕ} {from to e c m : ℕ} {out part mid now : List ℕ} → PickedAll nodes from to e part mid c → part ≡ drop 1 out
    → now ≡ patch (1 + c) (replicate m 0) (patch 1 mid out) → m ≡ length out - (1 + c) → 1 ≤ length out → GroupPut nodes from to e out (set now 0 c)
unfolding row
group-put {nodes} {from} {to} {e} {c} {m} {out} {part} {mid} {now} p q z h f =
    let b : length part ≡ length out - 1 = ap length q ∙ length-drop 1 out in
    let l = p.long in
    let g = p.few in
    let k = length-replicate {A = ℕ} m 0 in
    let d = patch-length 1 mid out (omega arith) in
    let n = patch-length (1 + c) (replicate m 0) (patch 1 mid out) (omega arith) in
    record {
      long = length-set now 0 c ∙ ap length z ∙ n ∙ d;
      right =
          λ width codes qs o s r g.
          let w : Chosen qs part mid c = p.right codes qs s r (omega arith) in
          let v = w.count in
          let j : m ≡ width - length qs = omega arith in
          let x : List ℕ = qs ++ replicate (width - length qs) 0 in
          let a = length-append qs (replicate (width - length qs) 0) in
          let b = length-replicate {A = ℕ} (width - length qs) 0 in
          let y = patch-length 1 x out (omega arith) in
          let u : patch 1 mid out ≡ patch 1 qs out = ap (λ (l : List ℕ). patch 1 l out) (w.written ∙ ap (λ (l : List ℕ). patch 0 qs l) q) ∙ patch-part 1 qs out (omega arith) in
          let i : now ≡ patch 1 x out =
          z ∙ ap (patch (1 + c) (replicate m 0)) u ∙ patch-behind 1 (1 + c) qs (replicate m 0) out (omega arith) (omega arith)
          ∙ ap (λ (i : ℕ). patch 1 (qs ++ replicate i 0) out) j in
          ap (λ (y : List ℕ). set y 0 c) i ∙ patch-set 0 c (patch 1 x out) (omega arith) ∙ patch-before 0 1 (c ∷ []) x out refl (omega arith)
          ∙ ap (λ (i : ℕ). patch 0 (i ∷ x) out) v
          ∙ patch-whole (length qs ∷ x) out (omega arith);
    }

pub operation-put : {nodes spans : List ℕ} {j from to : ℕ} {out one two part mid after : List ℕ} → from ≡ span spans j → to ≡ span spans (j + 1)
    → GroupPut nodes from to 2 (take 4 out) one → mid ≡ patch 0 one out → GroupPut nodes from to 3 part two → part ≡ drop 4 mid → after ≡ patch 4 two mid → length out ≡ 8
    → OperationPut nodes spans j out after
operation-put {nodes} {spans} {j} {from} {to} {out} {one} {two} {part} {mid} {after} e f p m q r t h =
    let t4 = length-take-le 4 out (omega arith) in
    let o = p.long in
    let c = patch-length 0 one out (omega arith) in
    let i : length mid ≡ 8 = ap length m ∙ c ∙ h in
    let d4 : length part ≡ length mid - 4 = ap length r ∙ length-drop 4 mid in
    let w = q.long in
    let g = patch-length 4 two mid (omega arith) in
    record {
      long = ap length t ∙ g ∙ i ∙ sym h;
      right =
          λ codes ins outs s x y k l.
          let u : Stands nodes from to codes = subst (λ (i : ℕ). Stands nodes i to codes) (sym e) (subst (λ (i : ℕ). Stands nodes (span spans j) i codes) (sym f) s) in
          let a = p.right 3 codes ins (omega arith) u (subst (λ (i : ℕ). Picks 2 i codes ins) (sym e) x) k in
          let b = q.right 3 codes outs (omega arith) u (subst (λ (i : ℕ). Picks 3 i codes outs) (sym e) y) l in
          let v = row-length 3 ins k in
          let z = row-length 3 outs l in
          let n = length-append (row 3 ins) (row 3 outs) in
          t ∙ ap₂ (λ (w v : List ℕ). patch 4 w v) b (m ∙ ap (λ (l : List ℕ). patch 0 l out) a)
          ∙ patch-behind 0 4 (row 3 ins) (row 3 outs) out (omega arith) (omega arith)
          ∙ patch-whole (row 3 ins ++ row 3 outs) out (omega arith);
    }
