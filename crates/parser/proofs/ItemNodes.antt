-- How the nodes of a dossier are laid out: which items stand where.
use mathlib.Core.Path.{◌≡◌, refl, sym, ap, ◌∙◌, subst, subst₂}
use mathlib.Core.List.{List, [], ◌∷◌, ◌++◌, append_assoc, append-nil}
use Prim.Native.Nat.{ℕ, suc, ◌+◌, ◌≤◌, ◌<◌}
use native.Mathlib.Omega.{arith}
use lib.ListN.{length, get_or, length-append}
use lib.Seq.{get_or-append-add}
use Rattle.form.specs.Tree.{Letters, Pred, TypeForm, given_type, power_type, range_type, arrow_type, Declaration, declarations, Parameter, Given, elements, State}
use Rattle.form.specs.Headings.{given_length}
use Rattle.form.specs.Written.{write_declarations}
use Rattle.form.specs.Codes.{node, type_width, Numbering, entry_codes, element_codes, given_codes, type_codes, declaration_codes, parameter_codes, pred_codes, condition_codes, state_codes}
use Rattle.parser.specs.Sections.{size_of, size_at, ItemAt, In, Run, stops, passes, StateAt}

-- behind the first n numbers of c stands q
pub record Split (c : List ℕ) (n : ℕ) (q : List ℕ) : Type 0 where
  pub front : List ℕ
  pub whole : c ≡ front ++ q
  pub long : length front ≡ n

pub split-first : {c : List ℕ} (x q : List ℕ) → c ≡ x ++ q → Split c (length x) q
split-first x q e = record { front = x; whole = e; long = refl }

pub split-next : {c : List ℕ} {n : ℕ} (x q : List ℕ) → Split c n (x ++ q) → Split c (n + length x) q
split-next x q s =
    record {
      front = s.front ++ x;
      whole = s.whole ∙ sym (append_assoc s.front x q);
      long = length-append s.front x ∙ ap (λ (i : ℕ). i + length x) s.long;
    }

pub split-as : {c : List ℕ} {n : ℕ} {q r : List ℕ} → q ≡ r → Split c n q → Split c n r
split-as e s = record { front = s.front; whole = s.whole ∙ ap (λ (l : List ℕ). s.front ++ l) e; long = s.long }

pub split_at : {c q : List ℕ} {n : ℕ} → Split c n q → (k : ℕ) → get_or c (n + k) 0 ≡ get_or q k 0
split_at {c} {q} s k =
    ap (λ (i : ℕ). get_or c (i + k) 0) (sym s.long) ∙ ap (λ (l : List ℕ). get_or l (length s.front + k) 0) s.whole
    ∙ get_or-append-add s.front q k 0

pub split-length : {c q : List ℕ} {n : ℕ} → Split c n q → length c ≡ n + length q
split-length {c} {q} s = ap length s.whole ∙ length-append s.front q ∙ ap (λ (i : ℕ). i + length q) s.long

pub size-here : {c q : List ℕ} {n k i a b : ℕ} → Split c n (node k i a b ++ q) → size_at c n ≡ size_of k a
unfolding size_at
size-here s = let x = split_at s 3 in let y = split_at s 1 in cc

-- items of the shapes low to high
pub data Items (low high : ℕ) : List ℕ → Type 0 where
  none : Items low high []
  more : {k i a b : ℕ} (x : List ℕ) {y : List ℕ} → low ≤ k → k ≤ high → 4 + length x ≡ size_of k a → Items low high y → Items low high (node k i a b ++ (x ++ y))

-- no such item stands in front
abbrev pub Outside : (low high : ℕ) → List ℕ → Type 0
Outside low high q = 4 ≤ length q → low ≤ get_or q 3 0 → get_or q 3 0 ≤ high → ⊥

pub items-run : {low high n : ℕ} {c x : List ℕ} → Items low high x → (q : List ℕ) → Split c n (x ++ q) → Outside low high q → Run c (length c) low high n (n + length x)
items-run {low} {high} {n} {c} none q s o =
    let l = split-length s in
    let g = split_at s 3 in
    let f : In c (length c) low high n → ⊥ = λ i. let r = i.room in let u = i.lower in let v = i.upper in o (omega arith) (omega arith) (omega arith) in
    let z : n ≡ n + 0 = omega arith in
    subst (λ (e : ℕ). Run c (length c) low high n e) z (stops f)
items-run {low} {high} {n} {c} (more {k} {i} {a} {b} x {y} h₁ h₂ e r) q s o =
    let w : Split c n ((node k i a b ++ x) ++ (y ++ q)) = split-as (ap (λ (l : List ℕ). node k i a b ++ l) (append_assoc x y q)) s in
    let z = size-here w in
    let l = split-length w in
    let g = split_at w 3 in
    let p = length-append x y in
    let j = length-append (node k i a b ++ x) (y ++ q) in
    let t = items-run {n = n + length (node k i a b ++ x)} r q (split-next (node k i a b ++ x) (y ++ q) w) o in
    passes {i = n} {e = n + length (node k i a b ++ (x ++ y))} (record { room = omega arith; lower = omega arith; upper = omega arith }) (omega arith)
    (subst₂ (λ (u v : ℕ). Run c (length c) low high u v) (omega arith) (omega arith) t)

pub items-wide : {low high l h : ℕ} {x : List ℕ} → Items low high x → l ≤ low → high ≤ h → Items l h x
items-wide none p q = none
items-wide (more {k} x h₁ h₂ e r) p q = more {k = k} x (omega arith) (omega arith) e (items-wide r p q)

pub items-append : {low high : ℕ} {x y : List ℕ} → Items low high x → Items low high y → Items low high (x ++ y)
items-append none t = t
items-append {low} {high} {y = z} (more {k} {i} {a} {b} x {y} h₁ h₂ e r) t =
    subst (λ (l : List ℕ). Items low high (node k i a b ++ l)) (sym (append_assoc x y z)) (more x h₁ h₂ e (items-append r t))

-- the entries of the contents
pub entries-items : (k : ℕ) → ((a : ℕ) → 4 ≡ size_of k a) → (i : ℕ) (xs : List Letters) (ρ : Numbering) → Items k k (entry_codes k i xs ρ)
unfolding entry_codes
entries-items k z i [] ρ = none
entries-items k z i (x ∷ xs) ρ = more {k = k} [] (omega arith) (omega arith) (z _) (entries-items k z (i + 2) xs ρ)

pub elements-items : (i : ℕ) (xs : List Letters) (ρ : Numbering) → Items 4 4 (element_codes i xs ρ)
unfolding element_codes size_of
elements-items i [] ρ = none
elements-items i (x ∷ xs) ρ = more {k = 4} [] (omega arith) (omega arith) refl (elements-items (suc i) xs ρ)

pub givens-items : (i : ℕ) (gs : List Given) (ρ : Numbering) → Items 3 4 (given_codes i gs ρ)
unfolding given_codes size_of
givens-items i [] ρ = none
givens-items i (g ∷ gs) ρ =
    more {k = 3} [] (omega arith) (omega arith) refl
    (items-append (items-wide (elements-items (i + 2) (elements g) ρ) (omega arith) (omega arith)) (givens-items (i + given_length g) gs ρ))

pub type-length : (t : TypeForm) (i : ℕ) (ρ : Numbering) → length (type_codes t i ρ) ≡ 4
type-length (given_type g) i ρ = refl
type-length (power_type g) i ρ = refl
type-length (range_type r) i ρ = refl
type-length (arrow_type a g h) i ρ = refl

six : (t : TypeForm) (i : ℕ) (ρ : Numbering) (a : ℕ) → 4 + length (type_codes t i ρ) ≡ size_of 6 a
unfolding size_of
six t i ρ a = ap (λ (x : ℕ). 4 + x) (type-length t i ρ)

pub declarations-items : (i : ℕ) (ds : List Declaration) (ρ : Numbering) → Items 6 6 (declaration_codes i ds ρ)
unfolding declaration_codes
declarations-items i [] ρ = none
declarations-items i (d ∷ ds) ρ = more {k = 6} (type_codes d.type (i + 2) ρ) (omega arith) (omega arith) (six d.type (i + 2) ρ _) (declarations-items (i + 3 + type_width d.type) ds ρ)

pub parameters-items : (i : ℕ) (xs : List Parameter) (ρ : Numbering) → Items 6 6 (parameter_codes i xs ρ)
unfolding parameter_codes
parameters-items i [] ρ = none
parameters-items i (x ∷ xs) ρ = more {k = 6} (type_codes x.declaration.type (i + 2) ρ) (omega arith) (omega arith) (six x.declaration.type (i + 2) ρ _) (parameters-items (i + 3 + type_width x.declaration.type) xs ρ)

pub condition-items : (i : ℕ) (p : Pred) (ρ : Numbering) → Items 7 7 (condition_codes i p ρ)
unfolding condition_codes size_of
condition-items i p ρ =
    subst (λ (l : List ℕ). Items 7 7 (node 7 i (length (pred_codes p i ρ)) 0 ++ l)) (append-nil (pred_codes p i ρ)) (more {k = 7} (pred_codes p i ρ) (omega arith) (omega arith) refl none)

pub condition-size : {c : List ℕ} {n : ℕ} (q : List ℕ) (i : ℕ) (p : Pred) (ρ : Numbering) → Split c n (condition_codes i p ρ ++ q) → size_at c n ≡ length (condition_codes i p ρ)
unfolding condition_codes size_of
condition-size q i p ρ s = let z = size-here s in omega arith

pub condition-long : (i : ℕ) (p : Pred) (ρ : Numbering) → 4 ≤ length (condition_codes i p ρ)
unfolding condition_codes
condition-long i p ρ = omega arith

-- the item in front has at least the shape n
pub above : (n low high : ℕ) (q : List ℕ) → n ≤ get_or q 3 0 → high < n → Outside low high q
above n low high q h g l u v = omega arith

pub entries-above : (i : ℕ) (xs : List Letters) (ρ : Numbering) (q : List ℕ) → 2 ≤ get_or q 3 0 → 2 ≤ get_or (entry_codes 2 i xs ρ ++ q) 3 0
unfolding entry_codes
entries-above i [] ρ q h = h
entries-above i (x ∷ xs) ρ q h = omega arith

pub givens-above : (i : ℕ) (gs : List Given) (ρ : Numbering) (q : List ℕ) → 3 ≤ get_or q 3 0 → 3 ≤ get_or (given_codes i gs ρ ++ q) 3 0
unfolding given_codes
givens-above i [] ρ q h = h
givens-above i (g ∷ gs) ρ q h = omega arith

pub state-above : (i : ℕ) (s : State) (ρ : Numbering) (q : List ℕ) → 5 ≤ get_or (state_codes i s ρ ++ q) 3 0
unfolding state_codes
state-above i s ρ q = omega arith

pub condition-above : (i : ℕ) (p : Pred) (ρ : Numbering) (q : List ℕ) → 7 ≤ get_or (condition_codes i p ρ ++ q) 3 0
unfolding condition_codes
condition-above i p ρ q = omega arith

-- a state's heading, declarations and predicate
pub state-at : {c : List ℕ} {n : ℕ} (i : ℕ) (s : State) (ρ : Numbering) (q : List ℕ) → Split c n (state_codes i s ρ ++ q) → StateAt c (length c) n (n + length (state_codes i s ρ))
unfolding state_codes size_of
state-at {c} {n} i s ρ q w =
    let D : List ℕ = declaration_codes (suc i) (declarations s) ρ in
    let j : ℕ = i + 2 + length (write_declarations 0 (declarations s) []) in
    let C : List ℕ = condition_codes j s.predicate ρ in
    let u : Split c (n + 4) (D ++ (C ++ q)) = split-as (append_assoc D C q) (split-next (node 5 i 0 0) ((D ++ C) ++ q) w) in
    let v : Split c (n + 4 + length D) (C ++ q) = split-next D (C ++ q) u in
    let z : size_at c n ≡ 4 = size-here w in
    let y : size_at c (n + 4 + length D) ≡ length C = condition-size q j s.predicate ρ v in
    let l : length c ≡ n + 4 + length D + length (C ++ q) = split-length v in
    let k : length (C ++ q) ≡ length C + length q = length-append C q in
    let o : length (D ++ C) ≡ length D + length C = length-append D C in
    let f : 4 ≤ length C = condition-long j s.predicate ρ in
    let e : n + 4 ≡ n + size_at c n = omega arith in
    record {
      last = n + 4 + length D;
      room = omega arith;
      heading = omega arith;
      declarations = subst (λ (x : ℕ). Run c (length c) 6 6 x (n + 4 + length D)) e
          (items-run (declarations-items (suc i) (declarations s) ρ) (C ++ q) u (above 7 6 6 (C ++ q) (condition-above j s.predicate ρ q) (omega arith)));
      last_room = omega arith;
      predicate = omega arith;
      inside = omega arith;
    }

pub condition-at : {c : List ℕ} {n : ℕ} (i : ℕ) (p : Pred) (ρ : Numbering) (q : List ℕ) → Split c n (condition_codes i p ρ ++ q) → ItemAt c (length c) n (n + length (condition_codes i p ρ))
condition-at {c} {n} i p ρ q w =
    let y : size_at c n ≡ length (condition_codes i p ρ) = condition-size q i p ρ w in
    let l = split-length w in
    let k = length-append (condition_codes i p ρ) q in
    let f = condition-long i p ρ in
    record { room = omega arith; size = omega arith; inside = omega arith }
