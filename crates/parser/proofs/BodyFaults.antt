-- Entries of the contents against bodies, given sets and operations alike: what the code compares, and the faults.
use Rattle.std.specs.Simd.Lanes.{Each1}
use Rattle.std.specs.Prelude.{Some}
use mathlib.Core.Path.{◌≡◌, refl, sym, ap, ◌∙◌, subst}
use mathlib.Core.Bool.{Bool, true, false}
use mathlib.Core.List.{List, [], ◌∷◌, ◌++◌, map, append_assoc}
use Prim.Native.Nat.{ℕ, ◌+◌, ◌≤◌, ◌<◌}
use native.Mathlib.Omega.{arith}
use lib.ListN.{length, get_or, length-append}
use Rattle.lexical.specs.Kinds as kind
use Rattle.lexical.specs.Lists.{same}
use Rattle.lexical.specs.Symbols as symbol
use Rattle.lexical.specs.Symbols.{no_ending, Symbol, fixed}
use Rattle.refusals.specs.Refusals.{Fault, fault, heading_differs, unless}
use Rattle.lexical.proofs.WordLaws.{same_refl, same_true}
use Rattle.form.specs.Tree.{Letters}
use Rattle.form.specs.Codes.{node, Numbering, number_of_name, entry_codes}
use Rattle.parser.specs.Sections.{Tells, size_of, size_at, Run, Compares, fits, extra, wants, differs, agrees}
use Rattle.parser.proofs.ItemNodes.{Split, split-next, split-as, split_at, split-length, size-here, Items, Outside, items-run}
use Rattle.parser.proofs.HeadingOrder.{Rising, rising-from, headed}

-- a body: its title, the symbol at which it begins, and the nodes behind that of its heading
pub record Body : Type 0 where
  pub title : Letters
  pub at : ℕ
  pub inner : List ℕ

abbrev pub body_codes : ℕ → Numbering → List Body → List ℕ
body_codes k ρ [] = []
body_codes k ρ (b ∷ bs) = node k b.at (number_of_name ρ b.title no_ending) 0 ++ (b.inner ++ body_codes k ρ bs)

-- the faults, where the symbol behind the bodies is z
abbrev pub faults : ℕ → List Letters → List Body → List Fault
faults z [] [] = []
faults z [] (b ∷ bs) = fault b.at heading_differs ∷ faults z [] bs
faults z (x ∷ xs) [] = fault z heading_differs ∷ []
faults z (x ∷ xs) (b ∷ bs) = unless (same x b.title) (fault b.at heading_differs) ++ faults z xs bs

-- bodies at i or behind it, in order, and z behind them
abbrev pub Risen : ℕ → List Body → ℕ → Type 0
Risen i [] z = i ≤ z
Risen i (b ∷ bs) z = (i ≤ b.at) × Risen b.at bs z

one_more : (i : ℕ) (b : Body) (fs ys : List Fault) (v : Bool) → i ≤ b.at → Rising b.at (fs ++ ys) → Rising i ((unless v (fault b.at heading_differs) ++ fs) ++ ys)
unfolding unless
one_more i b fs ys true l h = rising-from i b.at (fs ++ ys) l h
one_more i b fs ys false l h = (l, refl, h)

pub faults-rise : (i z : ℕ) (xs : List Letters) (bs : List Body) (ys : List Fault) → Risen i bs z → Rising z ys → Rising i (faults z xs bs ++ ys)
faults-rise i z [] [] ys h r = rising-from i z ys h r
faults-rise i z [] (b ∷ bs) ys h r = (h.0, refl, faults-rise b.at z [] bs ys h.1 r)
faults-rise i z (x ∷ xs) [] ys h r = (h, refl, r)
faults-rise i z (x ∷ xs) (b ∷ bs) ys h r = one_more i b (faults z xs bs) ys (same x b.title) h.0 (faults-rise b.at z xs bs ys h.1 r)

-- what belongs to each body has the shapes low to high
abbrev pub Inners : (low high : ℕ) → List Body → Type 0
Inners low high bs = Each1 (λ (b : Body). Items low high b.inner) bs

-- the letters are those of a name of the text
pub record Has (w : List Symbol) (x : Letters) : Type 0 where
  pub index : ℕ
  pub is : get_or w index (fixed kind.END) ≡ symbol.name (record { letters = x; ending = no_ending })

abbrev pub Knows : List Symbol → List Letters → Type 0
Knows w xs = Each1 (Has w) xs

abbrev pub KnowsTitles : List Symbol → List Body → Type 0
KnowsTitles w bs = Knows w (map (λ (b : Body). b.title) bs)

number-tells : (ρ : Numbering) (x y : Letters) → number_of_name ρ x no_ending ≡ number_of_name ρ y no_ending → ρ x ≡ ρ y
unfolding number_of_name
number-tells ρ x y e = omega arith

letters-tell : (w : List Symbol) (ρ : Numbering) (x y : Letters) → Tells ρ w → Has w x → Has w y → number_of_name ρ x no_ending ≡ number_of_name ρ y no_ending → x ≡ y
letters-tell w ρ x y t f g e =
    t (record { letters = x; ending = no_ending }) (record { letters = y; ending = no_ending }) f.index g.index f.is g.is (number-tells ρ x y e)

bodies-outside : (k low high : ℕ) (ρ : Numbering) (bs : List Body) (q : List ℕ) → (low ≤ k → k ≤ high → ⊥) → Outside low high q → Outside low high (body_codes k ρ bs ++ q)
bodies-outside k low high ρ [] q f o = o
bodies-outside k low high ρ (b ∷ bs) q f o = λ l u v. f u v

-- one entry and one body at hand
module _ (c : List ℕ) (w : List Symbol) (ρ : Numbering) (s k low high to last z : ℕ) (e h : ℕ) (x : Letters) (b : Body) (p q : List ℕ) (fs : List Fault) where
  step : (v : Bool) → same x b.title ≡ v → Tells ρ w → Has w x → Has w b.title → ((a : ℕ) → 4 ≡ size_of s a) → ((a : ℕ) → 4 ≡ size_of k a) → (i : ℕ)
      → Split c e (node s i (number_of_name ρ x no_ending) 0 ++ p) → e < to
      → Split c h (node k b.at (number_of_name ρ b.title no_ending) 0 ++ (b.inner ++ q)) → h < last → Items low high b.inner → Outside low high q
      → Compares c (length c) low high to last z (e + 4) (h + 4 + length b.inner) (headed fs)
      → Compares c (length c) low high to last z e h (headed (unless v (fault b.at heading_differs) ++ fs))
  unfolding unless
  step true y t f g four₁ four₂ i u lu v lv it o rest =
      let n₁ = split_at u 1 in
      let n₂ = split_at v 1 in
      let l₁ = split-length u in
      let l₂ = split-length v in
      let l₃ = length-append b.inner q in
      let z₁ : size_at c e ≡ 4 = size-here u ∙ sym (four₁ _) in
      let z₂ : size_at c h ≡ 4 = size-here v ∙ sym (four₂ _) in
      let same-letters : x ≡ b.title = same_true x b.title y in
      let r : Run c (length c) low high (h + 4) (h + 4 + length b.inner) = items-run it q (split-next (node k b.at (number_of_name ρ b.title no_ending) 0) (b.inner ++ q) v) o in
      let e₁ : e + 4 ≡ e + size_at c e = omega arith in
      let e₂ : h + 4 ≡ h + size_at c h = omega arith in
      agrees {e = e} {h = h} lu lv (omega arith) (omega arith) (n₁ ∙ ap (λ (y : Letters). number_of_name ρ y no_ending) same-letters ∙ sym n₂) (omega arith) (omega arith)
      (subst (λ (y : ℕ). Run c (length c) low high y (h + 4 + length b.inner)) e₂ r)
      (subst (λ (y : ℕ). Compares c (length c) low high to last z y (h + 4 + length b.inner) (headed fs)) e₁ rest)
  step false y t f g four₁ four₂ i u lu v lv it o rest =
      let n₁ = split_at u 1 in
      let n₂ = split_at v 1 in
      let n₃ = split_at v 2 in
      let l₁ = split-length u in
      let l₂ = split-length v in
      let apart : get_or c (e + 1) 0 ≡ get_or c (h + 1) 0 → ⊥ = λ m.
      let a : x ≡ b.title = letters-tell w ρ x b.title t f g (sym n₁ ∙ m ∙ n₂) in
      let j : true ≡ false = sym (same_refl x) ∙ ap (same x) a ∙ y in
      let z : ◌≡◌ {A = ℕ} 0 1 = cc j in
      omega arith in
      subst (λ (y : ℕ). Compares c (length c) low high to last z e h (Some y)) n₃ (differs {e = e} {h = h} lu lv (omega arith) (omega arith) apart)

-- What the comparison finds is the first fault, or none.
module _ (c : List ℕ) (w : List Symbol) (ρ : Numbering) (s k low high to last z : ℕ) (tells : Tells ρ w) (four₁ : (a : ℕ) → 4 ≡ size_of s a) (four₂ : (a : ℕ) → 4 ≡ size_of k a)
    (apart : low ≤ k → k ≤ high → ⊥) (q₁ q₂ : List ℕ) (o : Outside low high q₂) where
  pub compares : (i e h : ℕ) (xs : List Letters) (bs : List Body) → Split c e (entry_codes s i xs ρ ++ q₁) → e + length (entry_codes s i xs ρ) ≡ to
      → Split c h (body_codes k ρ bs ++ q₂) → h + length (body_codes k ρ bs) ≡ last → Inners low high bs → Knows w xs → KnowsTitles w bs
      → Compares c (length c) low high to last z e h (headed (faults z xs bs))
  unfolding entry_codes
  compares i e h [] [] u lu v lv is f g = fits {e = e} {h = h} (omega arith) (omega arith)
  compares i e h [] (b ∷ bs) u lu v lv is f g =
      let l = split-length v in
      subst (λ (y : ℕ). Compares c (length c) low high to last z e h (Some y)) (split_at v 2) (extra {e = e} {h = h} (omega arith) (omega arith) (omega arith))
  compares i e h (x ∷ xs) [] u lu v lv is f g = wants {e = e} {h = h} (omega arith) (omega arith)
  compares i e h (x ∷ xs) (b ∷ bs) u lu v lv is f g =
      let v₁ : Split c (h + 4) (b.inner ++ (body_codes k ρ bs ++ q₂)) =
      split-as (append_assoc b.inner (body_codes k ρ bs) q₂) (split-next (node k b.at (number_of_name ρ b.title no_ending) 0) ((b.inner ++ body_codes k ρ bs) ++ q₂) v) in
      let v₂ : Split c h (node k b.at (number_of_name ρ b.title no_ending) 0 ++ (b.inner ++ (body_codes k ρ bs ++ q₂))) =
      split-as (ap (λ (l : List ℕ). node k b.at (number_of_name ρ b.title no_ending) 0 ++ l) (append_assoc b.inner (body_codes k ρ bs) q₂)) v in
      let u₁ : Split c (e + 4) (entry_codes s (i + 2) xs ρ ++ q₁) = split-next (node s _ (number_of_name ρ x no_ending) 0) (entry_codes s (i + 2) xs ρ ++ q₁) u in
      let l = length-append b.inner (body_codes k ρ bs) in
      step c w ρ s k low high to last z e h x b (entry_codes s (i + 2) xs ρ ++ q₁) (body_codes k ρ bs ++ q₂) (faults z xs bs) (same x b.title) refl tells f.0 g.0 four₁ four₂ _ u
      (omega arith) v₂ (omega arith) is.0 (bodies-outside k low high ρ bs q₂ apart o)
      (compares (i + 2) (e + 4) (h + 4 + length b.inner) xs bs u₁ (omega arith) (split-next b.inner (body_codes k ρ bs ++ q₂) v₁) (omega arith) is.1 f.1 g.1)
