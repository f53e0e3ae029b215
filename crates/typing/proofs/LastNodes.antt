-- Nodes read from their end: what stands in the last one, and the trees that can end in it.
use mathlib.Core.Path.{◌≡◌, refl, sym, ap, ◌∙◌, subst}
use mathlib.Core.List.{List, [], ◌∷◌, ◌++◌, append_assoc}
use Prim.Native.Nat.{ℕ, zero, suc, ◌+◌, ◌-◌, ◌≤◌, ◌<◌}
use native.Mathlib.Omega.{arith}
use lib.ListN.{length, take, get_or, length-append}
use lib.Seq.{take_at, get_or_at, take-take, get_or-take, length-take-le, get_or-append-add}
use Rattle.lexical.specs.Kinds as kind
use Rattle.lexical.specs.Kinds.{code_of}
use Rattle.lexical.specs.Symbols.{Name, no_ending}
use Rattle.form.specs.Tree.{Letters, End, Range, Domain, given_set, range, Prefix, Operator, Division, Connective, Quantifier, Comparison, Membership}
use Rattle.form.specs.Tree.{Term, number, name, group, prefix, binary, divided, listed, pairs, such, empty_set, empty_pairs, Items, only, also, Pairs, only_pair, also_pair}
use Rattle.form.specs.Tree.{Pred, truth, falsity, negation, paren, quantified, connected, compared, member, within, related}
use Rattle.form.specs.Written.{prefix_kind, operator_kind, comparison_kind, connective_kind, quantifier_kind, membership_kind}
use Rattle.form.specs.Codes.{node, Numbering, name_number, number_of_name, end_number, end_width, sign_of, division_number, term_width, pred_width, domain_width, range_codes, domain_codes, term_codes, items_codes, pairs_codes, pred_codes}
use Rattle.type_rules.specs.declared.Seen.{Seen}
use Rattle.type_rules.specs.TypesByNumber.{Names, Sizes, term_kind, term_key, pred_key, Saw, DomainSeen, TermSeen, ItemsSeen, PairsSeen, PredSeen}

-- the node that ends at e, and the numbers x before it
pub record Last (code : List ℕ) (e : ℕ) (x : List ℕ) (k i a b : ℕ) : Type 0 where
  pub is_shape : get_or code (e - 4 + 3) 0 ≡ k
  pub is_place : get_or code (e - 4 + 2) 0 ≡ i
  pub is_first : get_or code (e - 4 + 1) 0 ≡ a
  pub is_second : get_or code (e - 4) 0 ≡ b
  pub before : take (e - 4) code ≡ x
  pub long : length x ≡ e - 4

-- the nodes p end in one of the shape k
pub record Ends (p : List ℕ) (k : ℕ) : Type 0 where
  pub front : List ℕ
  pub i : ℕ
  pub a : ℕ
  pub b : ℕ
  pub ends : p ≡ front ++ node k i a b

module _ (code : List ℕ) (e : ℕ) (l : e ≤ length code) where
  pub last-node : (x : List ℕ) (k i a b : ℕ) → take e code ≡ x ++ node k i a b → Last code e x k i a b
  last-node x k i a b q =
      let n : e ≡ length x + 4 = sym (length-take-le e code l) ∙ ap length q ∙ length-append x (node k i a b) in
      let lx : length x ≡ e - 4 = omega arith in
      let nth : (j : ℕ) → j < 4 → get_or code (e - 4 + j) 0 ≡ get_or (node k i a b) j 0 = λ j lt. at_place x k i a b q j lx n lt in
      record {
        is_shape = nth 3 (omega arith);
        is_place = nth 2 (omega arith);
        is_first = nth 1 (omega arith);
        is_second = sym (get_or-take e code (e - 4) 0 (omega arith)) ∙ ap (λ (y : List ℕ). get_or y (e - 4) 0) q ∙ get_or_at x b (a ∷ i ∷ k ∷ []) 0 (e - 4) lx;
        before = sym (take-take (e - 4) e code (omega arith)) ∙ ap (take (e - 4)) q ∙ take_at x (node k i a b) (e - 4) lx;
        long = lx;
      }
    where
      at_place : (x : List ℕ) (k i a b : ℕ) → take e code ≡ x ++ node k i a b → (j : ℕ) → length x ≡ e - 4 → e ≡ length x + 4 → j < 4 → get_or code (e - 4 + j) 0 ≡ get_or (node k i a b) j 0
      at_place x k i a b q j lx n lt =
          sym (get_or-take e code (e - 4 + j) 0 (omega arith)) ∙ ap (λ (y : List ℕ). get_or y (e - 4 + j) 0) q
          ∙ ap (λ (m : ℕ). get_or (x ++ node k i a b) (m + j) 0) (sym lx) ∙ get_or-append-add x (node k i a b) j 0

  -- after one part, two, three
  pub one-part : (base p : List ℕ) (k i a b : ℕ) → take e code ≡ base ++ (p ++ node k i a b) → Last code e (base ++ p) k i a b
  one-part base p k i a b q = last-node (base ++ p) k i a b (q ∙ sym (append_assoc base p (node k i a b)))

  pub two-parts : (base p r : List ℕ) (k i a b : ℕ) → take e code ≡ base ++ (p ++ (r ++ node k i a b)) → Last code e ((base ++ p) ++ r) k i a b
  two-parts base p r k i a b q = one-part (base ++ p) r k i a b (q ∙ sym (append_assoc base p (r ++ node k i a b)))

  pub three-parts : (base p r s : List ℕ) (k i a b : ℕ) → take e code ≡ base ++ (p ++ (r ++ (s ++ node k i a b))) → Last code e (((base ++ p) ++ r) ++ s) k i a b
  three-parts base p r s k i a b q = two-parts (base ++ p) r s k i a b (q ∙ sym (append_assoc base p (r ++ (s ++ node k i a b))))

  pub shape_is : {p : List ℕ} {k : ℕ} (base : List ℕ) → Ends p k → take e code ≡ base ++ p → get_or code (e - 4 + 3) 0 ≡ k
  shape_is {k = k} base n q = (one-part base n.front k n.i n.a n.b (q ∙ ap (λ (y : List ℕ). base ++ y) n.ends)).is_shape

  pub too_short : {p : List ℕ} {k : ℕ} (base : List ℕ) → Ends p k → e < 4 → take e code ≡ base ++ p → ⊥
  too_short {k = k} base n lt q =
      let w : e ≡ length base + length (n.front ++ node k n.i n.a n.b) =
      sym (length-take-le e code l) ∙ ap length (q ∙ ap (λ (y : List ℕ). base ++ y) n.ends) ∙ length-append base (n.front ++ node k n.i n.a n.b) in
      omega (arith, length-append n.front (node k n.i n.a n.b))

-- what stands before the last part
pub middle : (code : List ℕ) (e m : ℕ) (x r : List ℕ) → take e code ≡ x ++ r → m ≤ e → m ≡ length x → take m code ≡ x
middle code e m x r q lm h = sym (take-take m e code lm) ∙ ap (take m) q ∙ take_at x r m (sym h)

-- the shapes of the nodes that trees end in
unfoldable pub shape_t : Term → ℕ
shape_t (number n) = 1
shape_t (name x) = 2
shape_t (group t) = shape_t t
shape_t (prefix o t) = 3
shape_t (divided o t e) = 4
shape_t (binary o t u) = 5
shape_t (such x g p) = 6
shape_t (listed ts) = 7
shape_t (pairs ts) = 8
shape_t (empty_set g) = 9
shape_t (empty_pairs g h) = 10

unfoldable pub shape_p : Pred → ℕ
shape_p truth = 1
shape_p falsity = 1
shape_p (negation p) = 2
shape_p (paren p) = shape_p p
shape_p (connected o p q) = 3
shape_p (compared o t u) = 4
shape_p (member o t u) = 5
shape_p (within o t r) = 6
shape_p (related o t u v) = 7
shape_p (quantified q x d p) = 8

abbrev pub shape_d : Domain → ℕ
shape_d (given_set g) = 1
shape_d (range r) = 2

abbrev pub shape_i : Items → ℕ
shape_i (only t) = 1
shape_i (also t ts) = 2

abbrev pub shape_q : Pairs → ℕ
shape_q (only_pair t u) = 1
shape_q (also_pair t u ts) = 2

ends-one : (p : List ℕ) (k i a b : ℕ) → Ends (p ++ node k i a b) k
ends-one p k i a b = record { front = p; i = i; a = a; b = b; ends = refl }

ends-two : (p r : List ℕ) (k i a b : ℕ) → Ends (p ++ (r ++ node k i a b)) k
ends-two p r k i a b = record { front = p ++ r; i = i; a = a; b = b; ends = sym (append_assoc p r (node k i a b)) }

ends-three : (p r s : List ℕ) (k i a b : ℕ) → Ends (p ++ (r ++ (s ++ node k i a b))) k
ends-three p r s k i a b =
    record { front = (p ++ r) ++ s; i = i; a = a; b = b; ends = sym (append_assoc (p ++ r) s (node k i a b) ∙ append_assoc p r (s ++ node k i a b)) }

pub ends_d : (d : Domain) (i : ℕ) (ρ : Numbering) → Ends (domain_codes d i ρ) (shape_d d)
ends_d (given_set g) i ρ = ends-one [] 1 i (name_number ρ g) 0
ends_d (range r) i ρ = ends-one [] 2 (i + end_width r.lower) (end_number r.lower) (end_number r.upper)

pub ends_t : (t : Term) (i : ℕ) (ρ : Numbering) → Ends (term_codes t i ρ) (shape_t t)
unfolding term_codes shape_t
ends_t (number n) i ρ = ends-one [] 1 i n 0
ends_t (name x) i ρ = ends-one [] 2 i (name_number ρ x) 0
ends_t (group t) i ρ = ends_t t (suc i) ρ
ends_t (prefix o t) i ρ = ends-one (term_codes t (suc i) ρ) 3 i (code_of (prefix_kind o)) 0
ends_t (divided o t e) i ρ = ends-one (term_codes t i ρ) 4 (i + term_width t) e.magnitude (sign_of e.negative + division_number o)
ends_t (binary o t u) i ρ = ends-two (term_codes t i ρ) (term_codes u (suc (i + term_width t)) ρ) 5 (i + term_width t) (code_of (operator_kind o)) 0
ends_t (such x g p) i ρ = ends-two (pred_codes p (i + 5) ρ) (node 1 (i + 3) (name_number ρ g) 0) 6 i (number_of_name ρ x no_ending) 0
ends_t (listed ts) i ρ = ends-one (items_codes ts (suc i) ρ) 7 i 0 0
ends_t (pairs ts) i ρ = ends-one (pairs_codes ts (suc i) ρ) 8 i 0 0
ends_t (empty_set g) i ρ = ends-one [] 9 i (name_number ρ g) 0
ends_t (empty_pairs g h) i ρ = ends-one [] 10 i (name_number ρ g) (name_number ρ h)

pub ends_i : (ts : Items) (i : ℕ) (ρ : Numbering) → Ends (items_codes ts i ρ) (shape_i ts)
unfolding term_codes
ends_i (only t) i ρ = ends-one (term_codes t i ρ) 1 0 0 0
ends_i (also t ts) i ρ = ends-two (term_codes t i ρ) (items_codes ts (suc (i + term_width t)) ρ) 2 0 0 0

pub ends_q : (ts : Pairs) (i : ℕ) (ρ : Numbering) → Ends (pairs_codes ts i ρ) (shape_q ts)
unfolding term_codes
ends_q (only_pair t u) i ρ = ends-two (term_codes t i ρ) (term_codes u (suc (i + term_width t)) ρ) 1 0 0 0
ends_q (also_pair t u ts) i ρ =
    ends-three (term_codes t i ρ) (term_codes u (suc (i + term_width t)) ρ) (pairs_codes ts (suc (suc (i + term_width t) + term_width u)) ρ) 2 0 0 0

pub ends_p : (p : Pred) (i : ℕ) (ρ : Numbering) → Ends (pred_codes p i ρ) (shape_p p)
unfolding term_codes shape_p
ends_p truth i ρ = ends-one [] 1 i (code_of kind.TRUE) 0
ends_p falsity i ρ = ends-one [] 1 i (code_of kind.FALSE) 0
ends_p (negation p) i ρ = ends-one (pred_codes p (suc i) ρ) 2 i 0 0
ends_p (paren p) i ρ = ends_p p (suc i) ρ
ends_p (connected o p q) i ρ = ends-two (pred_codes p i ρ) (pred_codes q (suc (i + pred_width p)) ρ) 3 (i + pred_width p) (code_of (connective_kind o)) 0
ends_p (compared o t u) i ρ = ends-two (term_codes t i ρ) (term_codes u (suc (i + term_width t)) ρ) 4 (i + term_width t) (code_of (comparison_kind o)) 0
ends_p (member o t u) i ρ = ends-two (term_codes t i ρ) (term_codes u (suc (i + term_width t)) ρ) 5 (i + term_width t) (code_of (membership_kind o)) 0
ends_p (within o t r) i ρ = ends-two (term_codes t i ρ) (range_codes r (suc (i + term_width t))) 6 (i + term_width t) (code_of (membership_kind o)) 0
ends_p (related o t u v) i ρ =
    ends-three (term_codes t i ρ) (term_codes u (suc (i + term_width t)) ρ) (term_codes v (suc (suc (i + term_width t) + term_width u)) ρ)
    7 (suc (i + term_width t) + term_width u) (code_of (membership_kind o)) 0
ends_p (quantified q x d p) i ρ =
    ends-two (pred_codes p (i + 5 + domain_width d) ρ) (domain_codes d (i + 4) ρ) 8 (suc i) (number_of_name ρ x no_ending) (code_of (quantifier_kind q))

-- what is to be shown of the trees that end in a node of the shape k: of those of one constructor
abbrev pub CaseT : ℕ → (Term → ℕ → Type 0) → Type 0
CaseT zero P = Unit {0}
CaseT (suc zero) P = (n i : ℕ) → P (number n) i
CaseT (suc (suc zero)) P = (x : Name) (i : ℕ) → P (name x) i
CaseT (suc (suc (suc zero))) P = (o : Prefix) (t : Term) (i : ℕ) → P (prefix o t) i
CaseT (suc (suc (suc (suc zero)))) P = (o : Division) (t : Term) (e : End) (i : ℕ) → P (divided o t e) i
CaseT (suc (suc (suc (suc (suc zero))))) P = (o : Operator) (t u : Term) (i : ℕ) → P (binary o t u) i
CaseT (suc (suc (suc (suc (suc (suc zero)))))) P = (x : Letters) (g : Name) (p : Pred) (i : ℕ) → P (such x g p) i
CaseT (suc (suc (suc (suc (suc (suc (suc zero))))))) P = (ts : Items) (i : ℕ) → P (listed ts) i
CaseT (suc (suc (suc (suc (suc (suc (suc (suc zero)))))))) P = (ts : Pairs) (i : ℕ) → P (pairs ts) i
CaseT (suc (suc (suc (suc (suc (suc (suc (suc (suc zero))))))))) P = (g : Name) (i : ℕ) → P (empty_set g) i
CaseT (suc (suc (suc (suc (suc (suc (suc (suc (suc (suc n)))))))))) P = (g h : Name) (i : ℕ) → P (empty_pairs g h) i

-- brackets leave no node: what is to be shown of [t] at i is that of t at suc i
pub pick_t : (P : Term → ℕ → Type 0) → ((t : Term) (i : ℕ) → P t (suc i) → P (group t) i) → (t : Term) (i : ℕ) → CaseT (shape_t t) P → P t i
unfolding shape_t
pick_t P g (number n) i f = f n i
pick_t P g (name x) i f = f x i
pick_t P g (group t) i f = g t i (pick_t P g t (suc i) f)
pick_t P g (prefix o t) i f = f o t i
pick_t P g (divided o t e) i f = f o t e i
pick_t P g (binary o t u) i f = f o t u i
pick_t P g (such x y p) i f = f x y p i
pick_t P g (listed ts) i f = f ts i
pick_t P g (pairs ts) i f = f ts i
pick_t P g (empty_set x) i f = f x i
pick_t P g (empty_pairs x y) i f = f x y i

abbrev pub CaseP : ℕ → (Pred → ℕ → Type 0) → Type 0
CaseP zero P = Unit {0}
CaseP (suc zero) P = ((i : ℕ) → P truth i) × ((i : ℕ) → P falsity i)
CaseP (suc (suc zero)) P = (p : Pred) (i : ℕ) → P (negation p) i
CaseP (suc (suc (suc zero))) P = (o : Connective) (p q : Pred) (i : ℕ) → P (connected o p q) i
CaseP (suc (suc (suc (suc zero)))) P = (o : Comparison) (t u : Term) (i : ℕ) → P (compared o t u) i
CaseP (suc (suc (suc (suc (suc zero))))) P = (o : Membership) (t u : Term) (i : ℕ) → P (member o t u) i
CaseP (suc (suc (suc (suc (suc (suc zero)))))) P = (o : Membership) (t : Term) (r : Range) (i : ℕ) → P (within o t r) i
CaseP (suc (suc (suc (suc (suc (suc (suc zero))))))) P = (o : Membership) (t u v : Term) (i : ℕ) → P (related o t u v) i
CaseP (suc (suc (suc (suc (suc (suc (suc (suc n)))))))) P = (q : Quantifier) (x : Letters) (d : Domain) (p : Pred) (i : ℕ) → P (quantified q x d p) i

pub pick_p : (P : Pred → ℕ → Type 0) → ((p : Pred) (i : ℕ) → P p (suc i) → P (paren p) i) → (p : Pred) (i : ℕ) → CaseP (shape_p p) P → P p i
unfolding shape_p
pick_p P g truth i f = f.0 i
pick_p P g falsity i f = f.1 i
pick_p P g (negation p) i f = f p i
pick_p P g (paren p) i f = g p i (pick_p P g p (suc i) f)
pick_p P g (connected o p q) i f = f o p q i
pick_p P g (compared o t u) i f = f o t u i
pick_p P g (member o t u) i f = f o t u i
pick_p P g (within o t r) i f = f o t r i
pick_p P g (related o t u v) i f = f o t u v i
pick_p P g (quantified q x d p) i f = f q x d p i

in_t : (t : Term) → (1 ≤ shape_t t) × (shape_t t ≤ 10)
unfolding shape_t
in_t (number n) = (omega arith, omega arith)
in_t (name x) = (omega arith, omega arith)
in_t (group t) = in_t t
in_t (prefix o t) = (omega arith, omega arith)
in_t (divided o t e) = (omega arith, omega arith)
in_t (binary o t u) = (omega arith, omega arith)
in_t (such x g p) = (omega arith, omega arith)
in_t (listed ts) = (omega arith, omega arith)
in_t (pairs ts) = (omega arith, omega arith)
in_t (empty_set g) = (omega arith, omega arith)
in_t (empty_pairs g h) = (omega arith, omega arith)

in_p : (p : Pred) → (1 ≤ shape_p p) × (shape_p p ≤ 8)
unfolding shape_p
in_p truth = (omega arith, omega arith)
in_p falsity = (omega arith, omega arith)
in_p (negation p) = (omega arith, omega arith)
in_p (paren p) = in_p p
in_p (connected o p q) = (omega arith, omega arith)
in_p (compared o t u) = (omega arith, omega arith)
in_p (member o t u) = (omega arith, omega arith)
in_p (within o t r) = (omega arith, omega arith)
in_p (related o t u v) = (omega arith, omega arith)
in_p (quantified q x d p) = (omega arith, omega arith)

-- no tree ends in a node of another shape
pub no-term : (t : Term) (k : ℕ) → (1 ≤ k → k ≤ 10 → ⊥) → k ≡ shape_t t → ⊥
no-term t k n q = let h = in_t t in n (omega arith) (omega arith)

pub no-pred : (p : Pred) (k : ℕ) → (1 ≤ k → k ≤ 8 → ⊥) → k ≡ shape_p p → ⊥
no-pred p k n q = let h = in_p p in n (omega arith) (omega arith)

-- what W says of a tree that begins at i, where its nodes end at e behind others
abbrev pub RightT : List ℕ → ℕ → (Term → ℕ → Numbering → ℕ → Type 0) → Term → ℕ → Type 0
RightT code e W t i = (ρ : Numbering) (base : List ℕ) → take e code ≡ base ++ term_codes t i ρ → W t i ρ (length base)

abbrev pub RightP : List ℕ → ℕ → (Pred → ℕ → Numbering → ℕ → Type 0) → Pred → ℕ → Type 0
RightP code e W p i = (ρ : Numbering) (base : List ℕ) → take e code ≡ base ++ pred_codes p i ρ → W p i ρ (length base)

-- of every tree, by what it says of those that end in a node of the shape that stands here
module _ (code : List ℕ) (e : ℕ) (l : e ≤ length code) where
  pub terms-by : (W : Term → ℕ → Numbering → ℕ → Type 0) → ((t : Term) (i : ℕ) (ρ : Numbering) (s : ℕ) → W t (suc i) ρ s → W (group t) i ρ s)
      → (k : ℕ) → get_or code (e - 4 + 3) 0 ≡ k → CaseT k (RightT code e W) → (t : Term) (i : ℕ) → RightT code e W t i
  unfolding term_codes
  terms-by W g k q h t i ρ base y =
      pick_t (RightT code e W) (λ u j f τ x r. g u j τ (length x) (f τ x r)) t i
      (subst (λ (n : ℕ). CaseT n (RightT code e W)) (sym q ∙ shape_is code e l base (ends_t t i ρ) y) h) ρ base y

  pub preds-by : (W : Pred → ℕ → Numbering → ℕ → Type 0) → ((p : Pred) (i : ℕ) (ρ : Numbering) (s : ℕ) → W p (suc i) ρ s → W (paren p) i ρ s)
      → (k : ℕ) → get_or code (e - 4 + 3) 0 ≡ k → CaseP k (RightP code e W) → (p : Pred) (i : ℕ) → RightP code e W p i
  unfolding term_codes
  preds-by W g k q h p i ρ base y =
      pick_p (RightP code e W) (λ u j f τ x r. g u j τ (length x) (f τ x r)) p i
      (subst (λ (n : ℕ). CaseP n (RightP code e W)) (sym q ∙ shape_is code e l base (ends_p p i ρ) y) h) ρ base y

-- what was seen of a tree
abbrev pub SawTerm : Names → Sizes → Seen → Term → ℕ → Numbering → ℕ → Type 0
SawTerm T z r t i ρ s = Saw r (term_kind t T ρ) (term_key t T ρ z i) s

abbrev pub SawPred : Names → Sizes → Seen → Pred → ℕ → Numbering → ℕ → Type 0
SawPred T z r p i ρ s = Saw r 0 (pred_key p T ρ z i) s

module _ (code : List ℕ) (e : ℕ) (l : e ≤ length code) (T : Names) (z : Sizes) where
  pub term-from : (k : ℕ) (U : Names) (r : Seen) → r.start ≤ e → U ≡ T → get_or code (e - 4 + 3) 0 ≡ k → CaseT k (RightT code e (SawTerm T z r)) → TermSeen code e T U z r
  unfolding term_kind term_key
  term-from k U r f g q h = record { falls = f; kept = g; right = terms-by code e l (SawTerm T z r) (λ t i ρ s h. h) k q h }

  pub pred-from : (k : ℕ) (U : Names) (r : Seen) → r.start ≤ e → U ≡ T → get_or code (e - 4 + 3) 0 ≡ k → CaseP k (RightP code e (SawPred T z r)) → PredSeen code e T U z r
  unfolding term_key
  pred-from k U r f g q h = record { falls = f; kept = g; right = preds-by code e l (SawPred T z r) (λ p i ρ s h. h) k q h }

  -- no nodes of a tree end here
  pub domain-short : (r : Seen) → r.start ≡ 0 → e < 4 → DomainSeen code e T r
  domain-short r s lt = record { falls = omega arith; right = λ d i ρ base y. absurd (too_short code e l base (ends_d d i ρ) lt y) }

  pub term-short : (r : Seen) → r.start ≡ 0 → e < 4 → TermSeen code e T T z r
  term-short r s lt = record { falls = omega arith; kept = refl; right = λ t i ρ base y. absurd (too_short code e l base (ends_t t i ρ) lt y) }

  pub items-short : (r : Seen) → r.start ≡ 0 → e < 4 → ItemsSeen code e T T z r
  items-short r s lt = record { falls = omega arith; kept = refl; right = λ t i ρ base y. absurd (too_short code e l base (ends_i t i ρ) lt y) }

  pub pairs-short : (r : Seen) → r.start ≡ 0 → e < 4 → PairsSeen code e T T z r
  pairs-short r s lt = record { falls = omega arith; kept = refl; right = λ t i ρ base y. absurd (too_short code e l base (ends_q t i ρ) lt y) }

  pub pred-short : (r : Seen) → r.start ≡ 0 → e < 4 → PredSeen code e T T z r
  pred-short r s lt = record { falls = omega arith; kept = refl; right = λ p i ρ base y. absurd (too_short code e l base (ends_p p i ρ) lt y) }

  -- no tree ends in a node of this shape
  pub term-rest : (r : Seen) → r.start ≡ 0 → (1 ≤ get_or code (e - 4 + 3) 0 → get_or code (e - 4 + 3) 0 ≤ 10 → ⊥) → TermSeen code e T T z r
  term-rest r s n = record { falls = omega arith; kept = refl; right = λ t i ρ base y. absurd (no-term t _ n (shape_is code e l base (ends_t t i ρ) y)) }

  pub pred-rest : (r : Seen) → r.start ≡ 0 → (1 ≤ get_or code (e - 4 + 3) 0 → get_or code (e - 4 + 3) 0 ≤ 8 → ⊥) → PredSeen code e T T z r
  pred-rest r s n = record { falls = omega arith; kept = refl; right = λ p i ρ base y. absurd (no-pred p _ n (shape_is code e l base (ends_p p i ρ) y)) }
