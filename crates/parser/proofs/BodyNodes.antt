-- How the nodes of conditions, bodies and a whole dossier are put together, and a node that is written in front of others.
use mathlib.Core.Path.{◌≡◌, refl, ap, ◌∙◌, sym, subst}
use mathlib.Core.List.{List, [], ◌∷◌, ◌++◌, append_assoc, append-nil}
use Prim.Native.Nat.{ℕ, zero, suc, ◌+◌, ◌-◌, ◌≤◌, ◌<◌}
use native.Mathlib.Omega.{arith}
use lib.ListN.{length, take, drop, get_or, length-append, take-append-drop}
use lib.Seq.{length-take-le, take-take}
use Rattle.lexical.specs.Kinds.{Kind, code_of}
use Rattle.lexical.specs.Symbols.{Symbol}
use Rattle.refusals.specs.Refusals.{no_dossier}
use Rattle.form.specs.Codes.{node}
use Rattle.form.specs.Machine.{Item, exact, a_dossier, ends, step, complete, failed, run}
use Rattle.form_nodes.specs.FormPromises.{codes, run_at, after, Reads, Writes, Closes}
use Rattle.form_nodes.specs.Derivations as part
use Rattle.form_nodes.specs.Derivations.{Part, Derives, Made, MadeAt, name_code, a_pred_from, a_condition, a_state, a_where, some_givens, some_declarations, some_parameters, some_operations, condition, state, where_of, an_operation, dossier, More}
use Rattle.declarations.specs.DossierPromises.{Sequence, nothing, behind, SequenceAt, Sequenced, ContentsAt, ContentsMade, When}
use Rattle.std.specs.Prelude.{Ok, Err}
use Rattle.form_nodes.specs.declared.Read.{Read}
use Rattle.form_nodes.specs.FormPromises.{Answer}
use Rattle.form_nodes.proofs.ReadParts.{as_long, run-at, run_end, next}
use Rattle.form_nodes.proofs.NodesOfParts.{from}
use Rattle.form_nodes.proofs.FirstNodes.{then-written}

take-nothing : (j : ℕ) → take {A = ℕ} j [] ≡ []
take-nothing zero = refl
take-nothing (suc j) = refl

drop-taken : (k : ℕ) (a x : List ℕ) → k ≤ length a → drop k (take k a ++ x) ≡ x
drop-taken zero a x l = refl
drop-taken (suc k) [] x l = absurd (omega arith)
drop-taken (suc k) (y ∷ a) x l = drop-taken k a x (omega arith)

take_less : (n k : ℕ) (a x : List ℕ) → n ≤ k → k ≤ length a → take n (take k a ++ x) ≡ take n a
take_less zero k a x h l = refl
take_less (suc n) zero a x h l = absurd (omega arith)
take_less (suc n) (suc k) [] x h l = absurd (omega arith)
take_less (suc n) (suc k) (y ∷ a) x h l = ap (λ (z : List ℕ). y ∷ z) (take_less n k a x (omega arith) (omega arith))

drop_of_take : (k m j : ℕ) (b : List ℕ) → k + j ≡ m → drop k (take m b) ≡ take j (drop k b)
drop_of_take zero m j b e = let f : m ≡ j = omega arith in ap (λ (i : ℕ). take i b) f
drop_of_take (suc k) zero j b e = absurd (omega arith)
drop_of_take (suc k) (suc m) j [] e = sym (take-nothing j)
drop_of_take (suc k) (suc m) j (y ∷ b) e = drop_of_take k m j b (omega arith)

-- how many numbers are written
pub long-written : (k m : ℕ) (a b x : List ℕ) → take m b ≡ take k a ++ x → k ≤ length a → m ≤ length b → k + length x ≡ m
long-written k m a b x e l h =
    ap (λ (z : ℕ). z + length x) (sym (length-take-le k a l)) ∙ sym (length-append (take k a) x) ∙ sym (ap (λ (z : List ℕ). length z) e) ∙ length-take-le m b h

-- x is written in front of what stands behind the room left for it
pub in-front : {n r : ℕ} {b c x : List ℕ} (m : ℕ) (a y : List ℕ) → Writes b n x c r → take m b ≡ take r a ++ y → n ≤ r → r ≤ length a → r ≤ m → take m c ≡ take n a ++ (x ++ y)
in-front {n} {r} {b} {c} {x} m a y w e h l g =
    let p : take n b ≡ take n a = sym (take-take n m b (omega arith)) ∙ ap (λ (z : List ℕ). take n z) e ∙ take_less n r a y h l in
    let q : drop r (take m c) ≡ y =
    drop_of_take r m (m - r) c (omega arith) ∙ ap (λ (z : List ℕ). take (m - r) z) w.rest ∙ sym (drop_of_take r m (m - r) b (omega arith))
    ∙ ap (λ (z : List ℕ). drop r z) e ∙ drop-taken r a y l
    in
    sym (take-append-drop r (take m c)) ∙ ap (λ (z : List ℕ). z ++ drop r (take m c)) (take-take r m c g ∙ w.nodes ∙ ap (λ (z : List ℕ). z ++ x) p)
    ∙ ap (λ (z : List ℕ). (take n a ++ x) ++ z) q ∙ append_assoc (take n a) x y

-- a symbol closes what was read, with room left for one more node
pub then-closes : {s : List ℕ} {at n k : ℕ} {e : Read} {ι : List Item} (κ : Kind) (r : Answer) → code_of κ ≡ k → Reads s at (n + 4) ι (exact κ ∷ []) (Ok e) → Closes s e.at k e.count r → Reads s at n ι [] r
then-closes {s} {at} {n} {e = e} κ (Ok f) q a b =
    let h : Reads s e.at e.count (exact κ ∷ []) [] (Ok f) = b.reads κ q in
    let i = next a h in
    record {
      from = i.from;
      within = i.within;
      count = let u = b.shown.0.0 in let v = b.shown.1 in let w = a.count in omega arith;
      same = i.same;
    }
then-closes {s} {at} {n} {e = e} κ (Err f) q a b =
    let i = next a (b.reads κ q) in
    record { from = i.from; within = i.within; count = tt; same = i.same }

pub when-known : (P : Type 0) {r : Answer} {j : Read} → r ≡ Ok j → When P r → P
when-known P q h = subst (λ (y : Answer). When P y) q h

module _ {s ν : List ℕ} where
  -- results that are known
  pub sequence-known : {xs : List Part} {i n : ℕ} {a b : List ℕ} {r : Answer} {j : Read} → r ≡ Ok j → Sequenced s ν xs i n a b r → SequenceAt s ν xs i n a b j.at j.count
  sequence-known {xs} {i} {n} {a} {b} q h = subst (λ (y : Answer). Sequenced s ν xs i n a b y) q h

  pub contents-known : {b : List ℕ} {r : Answer} {j : Read} → r ≡ Ok j → ContentsMade s ν b r → ContentsAt s ν b j.at j.count
  contents-known {b} q h = subst (λ (y : Answer). ContentsMade s ν b y) q h

  -- a predicate, the node in front of it and the word behind it
  pub condition-made : {word i n e m p r : ℕ} {a b c : List ℕ} (t : Answer) → MadeAt s ν (a_pred_from 1) i (n + 4) a b e m → Writes b n (node 7 i p 0) c r → (n + 4) + p ≡ m
      → n + 4 ≤ length a → m ≤ length b → Closes s e word m t → Made s ν (a_condition word) i n a c t
  condition-made {word} {i} {n} {e} {m} {p} {r} {a} {b} {c} (Ok f) h w q l g z =
      let u : p ≡ length h.nodes = let v = long-written (n + 4) m a b h.nodes h.written l g in omega arith in
      let y : MadeAt s ν (a_condition word) i n a c (e + 1) m =
      record {
        nodes = node 7 i (length h.nodes) 0 ++ h.nodes;
        derives = condition h.derives z.shown.0.1;
        written = let k = w.count in
            in-front m a h.nodes w (h.written ∙ ap (λ (o : ℕ). take o a ++ h.nodes) (sym k)) (omega arith) (omega arith) (omega arith)
            ∙ ap (λ (o : ℕ). take n a ++ (node 7 i o 0 ++ h.nodes)) u;
      }
      in
      subst (λ (o : ℕ). MadeAt s ν (a_condition word) i n a c o f.count) (sym z.shown.0.0)
      (subst (λ (o : ℕ). MadeAt s ν (a_condition word) i n a c (e + 1) o) (sym z.shown.1) y)
  condition-made (Err f) h w q l g z = tt

  -- the body of a state
  pub state-made : {word i n e x m j k d y : ℕ} {a b c : List ℕ} (g : List ℕ) (t : Answer) → ((e ≡ i + 1) × (get_or s i 0 ≡ word)) × (x ≡ n) → Writes a n (node 5 i 0 0) b m → get_or s e 0 ≡ 2
      → MadeAt s ν some_declarations e m b c j k → ((d ≡ j + 1) × (get_or s j 0 ≡ 45)) × (y ≡ k) → Made s ν (a_condition 44) d y c g t → Made s ν (a_state word) i n a g t
  state-made {i = i} {n} {m = m} {a = a} {b} {c} g (Ok f) p w q h r z =
      record {
        nodes = node 5 i 0 0 ++ (h.nodes ++ z.nodes);
        derives = state p.0.1 (ap (λ (o : ℕ). get_or s o 0) (sym p.0.0) ∙ q) (from p.0.0 h.derives) r.0.1 (from r.0.0 z.derives);
        written = then-written (take n a) (node 5 i 0 0) (h.nodes ++ z.nodes) w.nodes (then-written (take m b) h.nodes z.nodes h.written (z.written ∙ ap (λ (o : ℕ). take o c ++ z.nodes) r.1));
      }
  state-made g (Err f) p w q h r z = tt

  -- the body of an operation
  pub operation-made : {i n p m e k d y f l : ℕ} {a b c g : List ℕ} (o : List ℕ) (t : Answer) → get_or s i 0 ≡ 43 → get_or s (i + 1) 0 ≡ 2 → p ≡ name_code s ν (i + 1) → Writes a n (node 8 i p 0) b m
      → MadeAt s ν some_parameters (i + 1 + 1) m b c e k → ((d ≡ e + 1) × (get_or s e 0 ≡ 38)) × (y ≡ k) → MadeAt s ν (a_condition 39) d y c g f l
      → Made s ν (a_condition 44) f l g o t → More s ν some_operations i n a o t
  operation-made {i} {n} {m = m} {k = k} {a = a} {b} {c} end (Ok u) p q r w h x y z =
      let first : List ℕ = node 8 i (name_code s ν (i + 1)) 0 in
      record {
        nodes = first ++ (h.nodes ++ (y.nodes ++ z.nodes));
        more = λ j o g. subst (λ (t : List ℕ). Derives s ν some_operations i j t)
            (ap (λ (b : List ℕ). first ++ (h.nodes ++ b)) (sym (append_assoc y.nodes z.nodes o))
            ∙ ap (λ (b : List ℕ). first ++ b) (sym (append_assoc h.nodes (y.nodes ++ z.nodes) o))
            ∙ sym (append_assoc first (h.nodes ++ (y.nodes ++ z.nodes)) o))
            (an_operation p q h.derives x.0.1 (from x.0.0 y.derives) z.derives g);
        written = then-written (take n a) first (h.nodes ++ (y.nodes ++ z.nodes)) (w.nodes ∙ ap (λ (b : ℕ). take n a ++ node 8 i b 0) r)
            (then-written (take m b) h.nodes (y.nodes ++ z.nodes) h.written (then-written (take k c) y.nodes z.nodes (y.written ∙ ap (λ (b : ℕ). take b c ++ y.nodes) x.1) z.written));
      }
  operation-made end (Err u) p q r w h x y z = tt

  -- parts one behind another
  pub sequence-then : {x : Part} {i n j m : ℕ} {a b : List ℕ} (xs : List Part) (c : List ℕ) (t : Answer) → MadeAt s ν x i n a b j m → Sequenced s ν xs j m b c t
      → Sequenced s ν (x ∷ xs) i n a c t
  sequence-then {n = n} {a = a} xs c (Ok k) h z =
      record { nodes = h.nodes ++ z.nodes; parts = behind h.derives z.parts; written = then-written (take n a) h.nodes z.nodes h.written z.written }
  sequence-then xs c (Err k) h z = tt

  sequence-both : {xs ys : List Part} {i j k : ℕ} {m n : List ℕ} → Sequence s ν xs i j m → Sequence s ν ys j k n → Sequence s ν (xs ++ ys) i k (m ++ n)
  sequence-both nothing q = q
  sequence-both {xs = x ∷ xs} {ys} {i} {k = k} {n = n} (behind {m = u} {n = v} d p) q =
      subst (λ (z : List ℕ). Sequence s ν (x ∷ (xs ++ ys)) i k z) (sym (append_assoc u v n)) (behind d (sequence-both p q))

  pub sequence-onto : {xs : List Part} {i n j m : ℕ} {a b : List ℕ} (ys : List Part) (c : List ℕ) (t : Answer) → SequenceAt s ν xs i n a b j m → Sequenced s ν ys j m b c t
      → Sequenced s ν (xs ++ ys) i n a c t
  sequence-onto {n = n} {a = a} ys c (Ok k) h z =
      record { nodes = h.nodes ++ z.nodes; parts = sequence-both h.parts z.parts; written = then-written (take n a) h.nodes z.nodes h.written z.written }
  sequence-onto ys c (Err k) h z = tt

-- the body of ainit, cinit or retrieve
pub where-made : {word e x d y : ℕ} (s ν : List ℕ) (i n : ℕ) (a b : List ℕ) (t : Answer) → ((e ≡ i + 1) × (get_or s i 0 ≡ word)) × (x ≡ n) → ((d ≡ e + 1) × (get_or s e 0 ≡ 45)) × (y ≡ x)
    → Made s ν (a_condition 44) d y a b t → Made s ν (a_where word) i n a b t
where-made s ν i n a b (Ok f) p q z =
    record {
      nodes = z.nodes;
      derives = where_of p.0.1 (ap (λ (o : ℕ). get_or s o 0) (sym p.0.0) ∙ q.0.1) (from (q.0.0 ∙ ap (λ (o : ℕ). o + 1) p.0.0) z.derives);
      written = z.written ∙ ap (λ (o : ℕ). take o a ++ z.nodes) (q.1 ∙ p.1);
    }
where-made s ν i n a b (Err f) p q z = tt

-- a part that is the last
pub sequence-last : (s ν : List ℕ) (x : Part) (i n : ℕ) (a b : List ℕ) (t : Answer) → Made s ν x i n a b t → Sequenced s ν (x ∷ []) i n a b t
sequence-last s ν x i n a b (Ok j) h =
    record { nodes = h.nodes ++ []; parts = behind h.derives nothing; written = h.written ∙ ap (λ (z : List ℕ). take n a ++ z) (sym (append-nil h.nodes)) }
sequence-last s ν x i n a b (Err j) h = tt

-- a dossier, from its contents and its bodies
pub dossier-made : {s ν a b c : List ℕ} {e m j l : ℕ} → ContentsAt s ν b e m
    → SequenceAt s ν (some_givens ∷ a_state 38 ∷ a_state 39 ∷ a_where 40 ∷ a_where 41 ∷ a_where 42 ∷ some_operations ∷ []) e m b c j l → MadeAt s ν part.a_dossier 0 0 a c j l
dossier-made {s} {ν} {a} {b} {c} {e} {m} {j} {l} h z = on z.nodes z.parts z.written
  where
    on : (u : List ℕ) → Sequence s ν (some_givens ∷ a_state 38 ∷ a_state 39 ∷ a_where 40 ∷ a_where 41 ∷ a_where 42 ∷ some_operations ∷ []) e j u → take l c ≡ take m b ++ u
        → MadeAt s ν part.a_dossier 0 0 a c j l
    on _ (behind {j = j₁} {m = n₁} d₁ (behind {m = n₂} d₂ (behind {m = n₃} d₃ (behind {m = n₄} d₄ (behind {m = n₅} d₅ (behind {m = n₆} d₆ (behind {m = n₇} d₇ nothing))))))) q =
        record {
          nodes = h.given_nodes ++ (h.operation_nodes ++ (n₁ ++ (n₂ ++ (n₃ ++ (n₄ ++ (n₅ ++ (n₆ ++ n₇)))))));
          derives =
              dossier h.first h.givens h.five.abstract h.five.concrete h.five.ainit h.five.cinit h.five.retrieve h.operations h.end
              (from h.place d₁) d₂ d₃ d₄ d₅ d₆ d₇;
          written =
              then-written [] (h.given_nodes ++ h.operation_nodes) (n₁ ++ (n₂ ++ (n₃ ++ (n₄ ++ (n₅ ++ (n₆ ++ (n₇ ++ []))))))) h.written q
              ∙ append_assoc h.given_nodes h.operation_nodes (n₁ ++ (n₂ ++ (n₃ ++ (n₄ ++ (n₅ ++ (n₆ ++ (n₇ ++ [])))))))
              ∙ ap (λ (o : List ℕ). h.given_nodes ++ (h.operation_nodes ++ (n₁ ++ (n₂ ++ (n₃ ++ (n₄ ++ (n₅ ++ (n₆ ++ o)))))))) (append-nil n₇);
        }

-- the machine's run over the whole text
pub whole_run : {s : List ℕ} {n : ℕ} {ο : List Item} {r : Answer} → Reads s 0 n (a_dossier ∷ []) ο r → (w : List Symbol) → codes w ≡ s → run w ≡ after r w (ο ++ [])
unfolding run run_at
whole_run a w q = a.same w q []

-- nothing is expected at the end of the text
pub text-ends : {s : List ℕ} {n : ℕ} {e : Read} → Reads s 0 n (a_dossier ∷ []) [] (Ok e) → length s ≤ e.at → (w : List Symbol) → codes w ≡ s → run w ≡ complete
unfolding ends
text-ends {e = e} a l w q = whole_run a w q ∙ run_end w e.at [] (let h = as_long w q in omega arith)

-- before it, any symbol is one too many
pub text-goes-on : {s : List ℕ} {n : ℕ} {e : Read} → Reads s 0 n (a_dossier ∷ []) [] (Ok e) → e.at < length s → (w : List Symbol) → codes w ≡ s → run w ≡ failed e.at no_dossier
unfolding step
text-goes-on {e = e} a l w q = whole_run a w q ∙ run-at w e.at [] (let h = as_long w q in omega arith)
