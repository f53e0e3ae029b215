-- A whole from its parts, for any trees: what the calls for the parts wrote, and then the node of the whole, behind them.
use mathlib.Core.Path.{◌≡◌, refl, sym, ap, ap₂, ◌∙◌, subst}
use mathlib.Core.List.{List, ◌++◌, append_assoc}
use Prim.Native.Nat.{ℕ, ◌+◌, ◌-◌, ◌≤◌}
use native.Mathlib.Omega.{arith}
use lib.ListN.{length, length-append}
use Rattle.type_rules.specs.TypesByNumber.{Names}
use Rattle.table_nodes.specs.declared.Made.{Made}
use Rattle.table_nodes.specs.TableByNumber.{Places}
use Rattle.table_nodes.specs.TableWalkPromises.{patch, Makes, Walked}
use Rattle.table_nodes.proofs.Pieces.{patch-length, patch-before, patch-behind}

-- the node nd, written from e - 4 on
pub record Noded (e : ℕ) (nd out after : List ℕ) : Type 0 where
  pub four : length nd ≡ 4
  pub written : after ≡ patch (e - 4) nd out

pub noded-long : (e : ℕ) (nd out after : List ℕ) → 4 ≤ e → e ≤ length out → Noded e nd out after → length after ≡ length out
noded-long e nd out after far room h = let f = h.four in ap length h.written ∙ patch-length (e - 4) nd out (omega arith)

-- names, places and lengths after a leaf, one part, two, three
module _ (e : ℕ) (T : Names) (W : Places) (out : List ℕ) (far : 4 ≤ e) (room : e ≤ length out) where
  pub leaf_walked : (nd after : List ℕ) (r : Made) → Noded e nd out after → r.start ≡ e - 4 → Walked e T T W W out after r
  leaf_walked nd after r n sq = record { falls = omega arith; kept = refl; places_kept = refl; long = noded-long e nd out after far room n }

  pub one-walked : (U : Names) (Y : Places) (o₁ nd after : List ℕ) (v r : Made) → Walked (e - 4) T U W Y out o₁ v → Noded e nd o₁ after → r.start ≡ v.start
      → Walked e T U W Y out after r
  one-walked U Y o₁ nd after v r hv n sq =
      let f = hv.falls in
      let g = hv.long in
      record { falls = omega arith; kept = hv.kept; places_kept = hv.places_kept; long = noded-long e nd o₁ after far (omega arith) n ∙ hv.long }

  -- two calls, one behind the other
  pub then-walked : (m : ℕ) (U U' : Names) (Y Y' : Places) (o₁ o₂ : List ℕ) (u v : Made) → Walked m T U W Y out o₁ u → Walked u.start U U' Y Y' o₁ o₂ v
      → Walked m T U' W Y' out o₂ v
  then-walked m U U' Y Y' o₁ o₂ u v hu hv =
      let f = hu.falls in
      let g = hv.falls in
      record { falls = omega arith; kept = hv.kept ∙ hu.kept; places_kept = hv.places_kept ∙ hu.places_kept; long = hv.long ∙ hu.long }

-- what stands behind the first part
pub record Behind (m b : ℕ) (x y out after : List ℕ) : Type 0 where
  pub ends : b + length (x ++ y) ≡ m
  pub both : after ≡ patch b (x ++ y) out

joined : (m b b₂ : ℕ) (x y out o₁ o₂ : List ℕ) → b₂ ≡ b + length x → b₂ + length y ≡ m → m ≤ length out → o₁ ≡ patch b₂ y out → o₂ ≡ patch b x o₁
    → Behind m b x y out o₂
joined m b b₂ x y out o₁ o₂ at eq room p q =
    let a = length-append x y in record { ends = omega arith; both = q ∙ ap (patch b x) p ∙ patch-before b b₂ x y out at (omega arith) }

-- what was made of a leaf, one part, two, three; N is the node as the table has it, by the ends of the first part and the second
module _ (e : ℕ) (out : List ℕ) (far : 4 ≤ e) (room : e ≤ length out) (r : Made) (k b : ℕ) where
  pub leaf-made : (N nd after : List ℕ) → Noded e nd out after → nd ≡ N → r.kind ≡ k → r.start ≡ e - 4 → b ≡ e - 4 → Makes r k b e N out after
  leaf-made N nd after n nq kq sq bq =
      let f : length N ≡ 4 = sym (ap length nq) ∙ n.four in
      record {
        kind_is = kq;
        start_is = sq ∙ sym bq;
        end_is = omega arith;
        written = n.written ∙ ap₂ (λ (m : ℕ) (y : List ℕ). patch m y out) (sym bq) nq;
      }

  -- a piece x that ends at e - 4, and the node
  closed : (x o₁ N nd after : List ℕ) → b + length x ≡ e - 4 → o₁ ≡ patch b x out → Noded e nd o₁ after → nd ≡ N → r.kind ≡ k → r.start ≡ b
      → Makes r k b e (x ++ N) out after
  closed x o₁ N nd after eq oq n nq kq sq =
      let f : length N ≡ 4 = sym (ap length nq) ∙ n.four in
      let a = length-append x N in
      record {
        kind_is = kq;
        start_is = sq;
        end_is = omega arith;
        written = n.written ∙ ap₂ (λ (y o : List ℕ). patch (e - 4) y o) nq oq ∙ patch-behind b (e - 4) x N out (sym eq) (omega arith);
      }

  pub one-made : (v : Made) (k₁ : ℕ) (x o₁ N nd after : List ℕ) → Makes v k₁ b (e - 4) x out o₁ → Noded e nd o₁ after → nd ≡ N → r.kind ≡ k → r.start ≡ v.start
      → Makes r k b e (x ++ N) out after
  one-made v k₁ x o₁ N nd after hv n nq kq sq = closed x o₁ N nd after hv.end_is hv.written n nq kq (sq ∙ hv.start_is)

  pub two_made : (F N : ℕ → List ℕ) (u v : Made) (k₁ k₂ b₂ : ℕ) (x o₁ o₂ nd after : List ℕ)
      → Makes u k₂ b₂ (e - 4) (F b₂) out o₁ → Makes v k₁ b u.start x o₁ o₂ → Noded e nd o₂ after → nd ≡ N u.start → r.kind ≡ k → r.start ≡ v.start
      → Makes r k b e (x ++ (F (b + length x) ++ N (b + length x))) out after
  two_made F N u v k₁ k₂ b₂ x o₁ o₂ nd after hu hv n nq kq sq =
      let at : b₂ ≡ b + length x = sym hu.start_is ∙ sym hv.end_is in
      let y : List ℕ = F b₂ in
      let j = joined (e - 4) b b₂ x y out o₁ o₂ at hu.end_is (omega arith) hu.written hv.written in
      let w = closed (x ++ y) o₂ (N b₂) nd after j.ends j.both n (nq ∙ ap N hu.start_is) kq (sq ∙ hv.start_is) in
      subst (λ (m : ℕ). Makes r k b e (x ++ (F m ++ N m)) out after) at (subst (λ (w : List ℕ). Makes r k b e w out after) (append_assoc x y (N b₂)) w)

  pub three_made : (F G : ℕ → List ℕ) (N : ℕ → ℕ → List ℕ) (l u v : Made) (k₁ k₂ k₃ b₂ b₃ : ℕ) (x o₁ o₂ o₃ nd after : List ℕ)
      → Makes l k₃ b₃ (e - 4) (G b₃) out o₁ → Makes u k₂ b₂ l.start (F b₂) o₁ o₂ → Makes v k₁ b u.start x o₂ o₃
      → Noded e nd o₃ after → nd ≡ N u.start l.start → r.kind ≡ k → r.start ≡ v.start
      → Makes r k b e (x ++ (F (b + length x) ++ (G (b + length x + length (F (b + length x))) ++ N (b + length x) (b + length x + length (F (b + length x)))))) out after
  three_made F G N l u v k₁ k₂ k₃ b₂ b₃ x o₁ o₂ o₃ nd after hl hu hv n nq kq sq =
      let at : b₂ ≡ b + length x = sym hu.start_is ∙ sym hv.end_is in
      let then : b₃ ≡ b₂ + length (F b₂) = sym hl.start_is ∙ sym hu.end_is in
      let y : List ℕ = F b₂ in
      let w : List ℕ = G b₃ in
      let M : List ℕ = N b₂ b₃ in
      let i = joined (e - 4) b₂ b₃ y w out o₁ o₂ then hl.end_is (omega arith) hl.written hu.written in
      let j = joined (e - 4) b b₂ x (y ++ w) out o₂ o₃ at i.ends (omega arith) i.both hv.written in
      let c = closed (x ++ (y ++ w)) o₃ M nd after j.ends j.both n (nq ∙ ap₂ N hu.start_is hl.start_is) kq (sq ∙ hv.start_is) in
      let nested : (x ++ (y ++ w)) ++ M ≡ x ++ (y ++ (w ++ M)) = append_assoc x (y ++ w) M ∙ ap (λ (q : List ℕ). x ++ q) (append_assoc y w M) in
      subst (λ (m : ℕ). Makes r k b e (x ++ (F m ++ (G (m + length (F m)) ++ N m (m + length (F m))))) out after) at
      (subst (λ (m : ℕ). Makes r k b e (x ++ (y ++ (G m ++ N b₂ m))) out after) then (subst (λ (q : List ℕ). Makes r k b e q out after) nested c))
