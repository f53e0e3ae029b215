-- A dossier without faults of form has at most eight given sets, at most eight elements in each, and at most sixteen operations.
use mathlib.Core.Path.{◌≡◌, refl, ap, ◌∙◌}
use mathlib.Core.Bool.{Bool, true, false}
use mathlib.Core.List.{List, [], ◌∷◌, map}
use mathlib.Core.Option.{some}
use Prim.Native.Nat.{ℕ, zero, suc, pred, ◌+◌, ◌≤◌, ◌<◌}
use native.Mathlib.Omega.{arith}
use lib.Dec.{ltb}
use lib.ListN.{length, drop, get_or}
use borrow.Author.Tests.{ltb-true, ltb-false}
use Rattle.lexical.specs.Kinds.{Kind}
use Rattle.lexical.specs.Symbols.{Symbol}
use Rattle.refusals.specs.Refusals.{many_declared}
use Rattle.form.specs.Tree.{Letters, Given, Operation, Dossier}
use Rattle.form.specs.Written.{Mark, unmarked, a_given, an_element, an_operation, Written, write_elements, write_givens, write_operations, written}
use Rattle.form.specs.Form.{Forms, kind_at, excess, settled}
use Rattle.form.proofs.FewBoundNames.{no-excess, over-limit}
use Rattle.form.proofs.RelationsBehind as kept
use Rattle.static_rules.specs.Carriers.{size_of}
use Rattle.declared_names.specs.PassPromises.{Fewer}

-- some symbol has the mark
pub data Has (m : Mark) : List Written → Type 0 where
  here : {x : Written} {u : List Written} → x.mark ≡ m → Has m (x ∷ u)
  there : {x : Written} {u : List Written} → Has m u → Has m (x ∷ u)

-- it has it still with more symbols in front
pub behind : (m : Mark) (x y : Written) (u v : List Written) → Has m u → Has m (x ∷ u)
behind m x y u v h = there h

record Marked (m : Mark) (u : List Written) : Type 0 where
  at : ℕ
  inside : at < length u
  is : get_or (map (λ (x : Written). x.mark) u) at unmarked ≡ m

marked : {m : Mark} {u : List Written} → Has m u → Marked m u
marked (here e) = record { at = 0; inside = omega arith; is = e }
marked (there h) = let k = marked h in let l = k.inside in record { at = suc k.at; inside = omega arith; is = k.is }

-- a mark over a limit stands at no symbol of a dossier without faults
pub no_mark : {w : List Symbol} {d : Dossier} → Forms w d → (m : Mark) → ((k s : Kind) (rest : List Symbol) → settled k s rest m ≡ some many_declared) → ¬ Has m (written d)
no_mark {w} {d} f m over h =
    let k = marked h in
    no-excess f k.at k.inside many_declared (ap (settled (kind_at w (pred k.at)) (kind_at w k.at) (drop (suc k.at) w)) k.is ∙ over _ _ _)

given-over : (n : ℕ) → 9 ≤ n → (k s : Kind) (rest : List Symbol) → settled k s rest (a_given n) ≡ some many_declared
unfolding settled excess
given-over n l k s rest = over-limit 8 n many_declared l

element-over : (n : ℕ) → 9 ≤ n → (k s : Kind) (rest : List Symbol) → settled k s rest (an_element n) ≡ some many_declared
unfolding settled excess
element-over n l k s rest = over-limit 8 n many_declared l

-- no mark of a family has a number over the limit
abbrev pub None : ℕ → (ℕ → Mark) → List Written → Type 0
None limit m u = (n : ℕ) → limit < n → ¬ Has (m n) u

-- one more of a list, after n of them
pub one_more : (limit n k : ℕ) → ¬ (limit < suc n) → (suc n ≤ limit → suc n + k ≤ limit) → n + suc k ≤ limit
one_more limit n k h r = on (ltb limit (suc n)) refl
  where
    on : (b : Bool) → ltb limit (suc n) ≡ b → n + suc k ≤ limit
    on true e = absurd (h (ltb-true limit (suc n) e))
    on false e = let m = r (ltb-false limit (suc n) e) in omega arith

few-elements : (n : ℕ) (xs : List Letters) (w : List Written) → None 8 an_element (write_elements n xs w) → n ≤ 8 → n + length xs ≤ 8
unfolding write_elements
few-elements n [] w h l = omega arith
few-elements n (x ∷ xs) w h l = one_more 8 n (length xs) (λ q. h (suc n) q (here refl)) (few-elements (suc n) xs w (λ k q p. h k q (there p)))

few-sets : (n : ℕ) (gs : List Given) (w : List Written) → None 8 a_given (write_givens n gs w) → n ≤ 8 → n + length gs ≤ 8
unfolding write_givens
few-sets n [] w h l = omega arith
few-sets n (g ∷ gs) w h l =
    one_more 8 n (length gs) (λ q. h (suc n) q (there (here refl)))
    (few-sets (suc n) gs w
    (λ k q p. h k q (there (there (kept.elements (λ u v. Has (a_given k) u) (behind (a_given k)) 0 0 (g.first_element ∷ g.other_elements) _ [] (there p))))))

few-in-each : (n : ℕ) (gs : List Given) (w : List Written) → None 8 an_element (write_givens n gs w) → (k : ℕ) → get_or (map size_of gs) k 0 ≤ 8
unfolding write_givens
few-in-each n [] w h k = omega arith
few-in-each n (g ∷ gs) w h zero =
    let m = few-elements 0 (g.first_element ∷ g.other_elements) _ (λ k q p. h k q (there (there p))) (omega arith) in omega arith
few-in-each n (g ∷ gs) w h (suc k) =
    few-in-each (suc n) gs w
    (λ i q p. h i q (there (there (kept.elements (λ u v. Has (an_element i) u) (behind (an_element i)) 0 0 (g.first_element ∷ g.other_elements) _ [] (there p)))))
    k

pub forms-fewer : {w : List Symbol} {d : Dossier} → Forms w d → Fewer d.givens
unfolding written
forms-fewer {w} {d} f =
    let m = few-sets 0 d.givens _ (λ n l h. no_mark f (a_given n) (given-over n l) (kept.contents (λ u v. Has (a_given n) u) (behind (a_given n)) d _ [] h)) (omega arith) in
    record {
      sets = omega arith;
      elements = few-in-each 0 d.givens _ (λ n l h. no_mark f (an_element n) (element-over n l) (kept.contents (λ u v. Has (an_element n) u) (behind (an_element n)) d _ [] h));
    }

-- ---- operations ----

operation-over : (n : ℕ) → 17 ≤ n → (k s : Kind) (rest : List Symbol) → settled k s rest (an_operation n) ≡ some many_declared
unfolding settled excess
operation-over n l k s rest = over-limit 16 n many_declared l

few-operations : (n : ℕ) (os : List Operation) (w : List Written) → None 16 an_operation (write_operations n os w) → n ≤ 16 → n + length os ≤ 16
unfolding write_operations
few-operations n [] w h l = omega arith
few-operations n (o ∷ os) w h l =
    one_more 16 n (length os) (λ q. h (suc n) q (there (here refl)))
    (few-operations (suc n) os w (λ k q p. h k q (kept.operation (λ u v. Has (an_operation k) u) (behind (an_operation k)) n n o os os w w p)))

-- what stands in the operations stands in the dossier
pub in-operations : (d : Dossier) (m : Mark) → Has m (write_operations 0 d.operations []) → Has m (written d)
unfolding written
in-operations d m h =
    let b = behind m in
    kept.contents (λ u v. Has m u) b d _ []
    (kept.givens (λ u v. Has m u) b 0 0 d.givens _ []
    (there (kept.state (λ u v. Has m u) b d.abstract _ []
    (there (kept.state (λ u v. Has m u) b d.concrete _ []
    (there (kept.condition (λ u v. Has m u) b d.ainit _ []
    (there (kept.condition (λ u v. Has m u) b d.cinit _ []
    (there (kept.condition (λ u v. Has m u) b d.retrieve _ [] h)))))))))))

pub forms-few-operations : {w : List Symbol} {d : Dossier} → Forms w d → length d.operations ≤ 16
forms-few-operations {w} {d} f =
    let m = few-operations 0 d.operations [] (λ k q h. no_mark f (an_operation k) (operation-over k q) (in-operations d (an_operation k) h)) (omega arith) in omega arith
