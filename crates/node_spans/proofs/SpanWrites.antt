-- Numbers are written one behind the other, and places are found: what the functions of this crate count on.
use mathlib.Core.Path.{◌≡◌, refl, sym, ap, ap₂, ◌∙◌, subst}
use mathlib.Core.List.{List, [], ◌∷◌, ◌++◌, append_assoc, append-nil}
use Prim.Native.Nat.{ℕ, suc, ◌+◌, ◌-◌, ◌*◌, ◌≤◌, ◌<◌}
use native.Mathlib.Omega.{arith}
use lib.ListN.{length, take, drop, get_or, set, length-append, length-drop, drop_of_length-le}
use lib.Seq.{set-append_seam, drop-cons, take_at, drop_at, drop-drop}
use borrow.Rule.Slice.PartMut.{put_mid}
use Rattle.std.proofs.lemmas.Simd.{put_chunk_is, length-put_chunk}
use Rattle.parser.specs.Sections.{Skips, RunsTo}
use Rattle.parser.proofs.PartPlaces.{item-is, run_is}
use Rattle.node_spans.specs.SpanPromises.{Filled, NumberPut, Three, Declared, StatePut, OperationPut, OperationsIn, no_operation, an_operation, Ahead}

-- a number in the place behind w
fills : {n x : ℕ} {s s' : List ℕ} → NumberPut n x s s' → n < length s → (s₀ w : List ℕ) → x ≤ 65535 → n ≡ length w → Filled s₀ s w → Filled s₀ s' (w ++ (x ∷ []))
fills {n} {x} {s} {s'} p l s₀ w h e f =
    let k : length s ≡ length w + length (drop (length w) s₀) = ap length f.filled ∙ length-append w (drop (length w) s₀) in
    let j : length (drop (length w) s₀) ≡ length s₀ - length w = length-drop (length w) s₀ in
    let c : drop (length w) s₀ ≡ get_or s₀ (length w) 0 ∷ drop (suc (length w)) s₀ = drop-cons s₀ (length w) 0 (omega arith) in
    let b : length (w ++ (x ∷ [])) ≡ length w + 1 = length-append w (x ∷ []) in
    let a : suc (length w) ≡ length (w ++ (x ∷ [])) = omega arith in
    record {
      filled =
          p.puts h ∙ ap (λ (y : List ℕ). set y n x) f.filled ∙ ap (λ (y : List ℕ). set (w ++ y) n x) c
          ∙ ap (λ (i : ℕ). set (w ++ (get_or s₀ (length w) 0 ∷ drop (suc (length w)) s₀)) i x) e
          ∙ set-append_seam w (get_or s₀ (length w) 0) (drop (suc (length w)) s₀) x ∙ sym (append_assoc w (x ∷ []) (drop (suc (length w)) s₀))
          ∙ ap (λ (i : ℕ). (w ++ (x ∷ [])) ++ drop i s₀) a;
    }

pub three : {x y z : ℕ} {s s₁ s₂ s₃ : List ℕ} → NumberPut 0 x s s₁ → NumberPut 1 y s₁ s₂ → NumberPut 2 z s₂ s₃ → 3 ≤ length s → Three x y z s s₃
three {x} {y} {z} {s} {s₁} {s₂} {s₃} p q r l =
    let k = p.same in
    let m = q.same in
    record {
      same = r.same ∙ q.same ∙ p.same;
      fills =
          λ h i j.
          let u : Filled s s₁ (x ∷ []) = fills p (omega arith) s [] h refl (record { filled = refl }) in
          let v : Filled s s₂ (x ∷ y ∷ []) = fills q (omega arith) s (x ∷ []) i refl u in
          fills r (omega arith) s (x ∷ y ∷ []) j refl v;
    }

-- a part that is written leaves the length as it was
pub part-length : (n k : ℕ) (s p : List ℕ) → length p ≡ k → n + k ≤ length s → length (put_mid n k s p) ≡ length s
part-length n k s p e h =
    ap (λ (i : ℕ). length (put_mid n i s p)) (sym e) ∙ ap length (sym (put_chunk_is n s p (omega arith))) ∙ length-put_chunk n s p

-- numbers in front of a part, whose length is theirs, that begins behind w
pub part-fills : {n k : ℕ} {s p s' : List ℕ} → s' ≡ put_mid n k s p → length (take k (drop n s)) ≡ k → (s₀ w v : List ℕ) → n ≡ length w → length v ≡ k → Filled s₀ s w
    → Filled (take k (drop n s)) p v → Filled s₀ s' (w ++ v)
part-fills {n} {k} {s} {p} {s'} e long s₀ w v h l f g =
    let rest : List ℕ = drop (length w) s₀ in
    let whole : p ≡ v = g.filled ∙ ap (λ (y : List ℕ). v ++ y) (drop_of_length-le (take k (drop n s)) (omega arith)) ∙ append-nil v in
    let front : take n s ≡ w = ap (take n) f.filled ∙ take_at w rest n (sym h) in
    let back : drop n s ≡ rest = ap (drop n) f.filled ∙ drop_at w rest n (sym h) in
    let a : length w + k ≡ length (w ++ v) = omega (arith, length-append w v) in
    record {
      filled =
          e ∙ ap₂ (λ (x y : List ℕ). x ++ (y ++ drop k (drop n s))) front whole
          ∙ ap (λ (y : List ℕ). w ++ (v ++ drop k y)) back ∙ ap (λ (y : List ℕ). w ++ (v ++ y)) (drop-drop k (length w) s₀ ∙ ap (λ (i : ℕ). drop i s₀) a)
          ∙ sym (append_assoc w v (drop (length (w ++ v)) s₀));
    }

-- the place of the declarations' end, and that it is inside
pub record Ends (m r b : ℕ) : Type 0 where
  pub is : r ≡ b
  pub inside : r ≤ m

pub declared-end : {a : List ℕ} {m i b c first last : ℕ} → Declared (take m a) m i b c → Skips a m i first → (first ≤ m → RunsTo a m 6 6 first last) → Ends m last c
declared-end {a} {m} {i} {b} {c} {first} {last} x s r =
    let e : first ≡ b = item-is x.heading refl s.exact in
    let t : RunsTo a m 6 6 first last = r s.within in
    record { is = run_is x.declared e t.exact; inside = t.within }

pub state-put : {a : List ℕ} {m from to first last : ℕ} {s s' : List ℕ} → Skips a m from first → (first ≤ m → RunsTo a m 6 6 first last) → Three first last to s s'
    → StatePut (take m a) m from to s s'
state-put {a} {m} {from} {to} {first} {last} {s} {s'} p q r =
    record {
      same = r.same;
      fills =
          λ b c h l x.
          let u : first ≡ b = item-is x.heading refl p.exact in
          let v : Ends m last c = declared-end x p q in
          let i = v.inside in
          let j = p.within in
          let t : Filled s s' (first ∷ last ∷ to ∷ []) = r.fills (omega arith) (omega arith) (omega arith) in
          subst (λ (y : ℕ). Filled s s' (b ∷ y ∷ to ∷ [])) v.is (subst (λ (y : ℕ). Filled s s' (y ∷ last ∷ to ∷ [])) u t);
    }

pub operation-put : {a : List ℕ} {m from first last middle end : ℕ} {s s₁ s₂ : List ℕ} → Skips a m from first → (first ≤ m → RunsTo a m 6 6 first last)
    → Skips a m last middle → Skips a m middle end → Three first last middle s s₁ → NumberPut 3 end s₁ s₂ → 4 ≤ length s
    → OperationPut (take m a) m from s s₂ end
operation-put {a} {m} {from} {first} {last} {middle} {end} {s} {s₁} {s₂} p q g h y z room =
    let same = y.same in
    record {
      same = z.same ∙ y.same;
      behind = λ b c e f x. item-is x.concretely (item-is x.abstractly (declared-end x.parameters p q).is g.exact) h.exact;
      fills =
          λ b c e f l x.
          let u₁ : first ≡ b = item-is x.parameters.heading refl p.exact in
          let v : Ends m last c = declared-end x.parameters p q in
          let u₃ : middle ≡ e = item-is x.abstractly v.is g.exact in
          let u₄ : end ≡ f = item-is x.concretely u₃ h.exact in
          let j = v.inside in
          let j₁ = p.within in
          let j₂ = g.within in
          let j₃ = h.within in
          let t₁ : Filled s s₁ (first ∷ last ∷ middle ∷ []) = y.fills (omega arith) (omega arith) (omega arith) in
          let t : Filled s s₂ (first ∷ last ∷ middle ∷ end ∷ []) = fills z (omega arith) s (first ∷ last ∷ middle ∷ []) (omega arith) refl t₁ in
          let o : ◌≡◌ {A = List ℕ} (first ∷ last ∷ middle ∷ end ∷ []) (b ∷ c ∷ e ∷ f ∷ []) = λ i₁. u₁ i₁ ∷ v.is i₁ ∷ u₃ i₁ ∷ u₄ i₁ ∷ [] in
          subst (λ (r : List ℕ). Filled s s₂ r) o t;
    }

-- one operation is behind
pub ahead-next : {t : List ℕ} {m at k r place width : ℕ} {s s' s₀ w part : List ℕ} {n : ℕ} → Ahead t m at k s s₀ w n → OperationPut t m at (take width (drop place s)) part r
    → s' ≡ put_mid place width s part → length (take width (drop place s)) ≡ width → width ≡ 4 → place ≡ 9 + 4 * k → m ≤ 65535 → at < m → Ahead t m r (k + 1) s' s₀ w n
ahead-next {t} {m} {at} {k} {r} {place} {width} {s} {s'} {s₀} {w} {part} {n} x p now long four stands h l = go x.left x.count x.whole x.sum x.rest
  where
    go : (v : List ℕ) (j : ℕ) → w ≡ x.front ++ v → n ≡ k + j → OperationsIn t m at v j → Ahead t m r (k + 1) s' s₀ w n
    go v j e f (no_operation i) = absurd (omega arith)
    go v j e f (an_operation {a = a} {b = b} {e = c} {f = d} {n = y} {v = u} o q) =
        let g : length (x.front ++ (a ∷ b ∷ c ∷ d ∷ [])) ≡ length x.front + 4 = length-append x.front (a ∷ b ∷ c ∷ d ∷ []) in
        let i = x.long in
        record {
          front = x.front ++ (a ∷ b ∷ c ∷ d ∷ []);
          left = u;
          count = y;
          whole = e ∙ sym (append_assoc x.front (a ∷ b ∷ c ∷ d ∷ []) u);
          long = omega arith;
          sum = omega arith;
          rest = subst (λ (z : ℕ). OperationsIn t m z u y) (sym (p.behind a b c d o)) q;
          written = part-fills now long s₀ x.front (a ∷ b ∷ c ∷ d ∷ []) (stands ∙ i) (sym four) x.written (p.fills a b c d h o);
        }

-- no more operations are there
pub record Done (k n : ℕ) (s₀ s w : List ℕ) : Type 0 where
  pub counts : k ≡ n
  pub fills : Filled s₀ s w

pub ahead-done : {t : List ℕ} {m at k : ℕ} {s s₀ w : List ℕ} {n : ℕ} → Ahead t m at k s s₀ w n → ((i : ℕ) → n ≡ k + suc i → at < m → ⊥) → Done k n s₀ s w
ahead-done {t} {m} {at} {k} {s} {s₀} {w} {n} x h = go x.left x.count x.whole x.sum x.rest
  where
    go : (v : List ℕ) (j : ℕ) → w ≡ x.front ++ v → n ≡ k + j → OperationsIn t m at v j → Done k n s₀ s w
    go v j e f (no_operation i) =
        record { counts = omega arith; fills = subst (λ (y : List ℕ). Filled s₀ s y) (sym (e ∙ append-nil x.front)) x.written }
    go v j e f (an_operation {n = y} o q) = let r = o.parameters.heading.room in absurd (h y f (omega arith))
