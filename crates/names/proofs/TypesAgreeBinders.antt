-- Given sets by their numbers: what a name of one adds to the faults; the size of a type of pairs; what a name is bound over.
use mathlib.Core.Path.{◌≡◌, refl, ap, ap₂, ◌∙◌, sym}
use mathlib.Core.Bool.{Bool, true, false, not, ◌&&◌, cond}
use mathlib.Core.List.{List, [], ◌∷◌, ◌++◌}
use mathlib.Core.Option.{Option, none, some}
use Prim.Native.Nat.{ℕ, ◌+◌, ◌-◌, ◌*◌, ◌/◌, ◌%◌, ◌<◌}
use native.Mathlib.Omega.{arith}
use lib.Dec.{leb}
use lib.IntN.{pos}
use borrow.Author.Tests.{le-leb, lt-ltb, not-true}
use Rattle.lexical.specs.Symbols.{Name, no_ending}
use Rattle.refusals.specs.Refusals.{Fault, fault, number_of, name_in_use, name_unknown, types_misfit, wide_type}
use Rattle.form.specs.Tree.{Letters, Given, Domain, given_set, range}
use Rattle.form.specs.Codes.{Numbering, name_number, number_of_name}
use Rattle.declared_names.specs.StaticRulesCarriers.{Carrier, elements_of, size_of, plain, given_of}
use Rattle.declared_names.specs.StaticRulesTypes.{Ty, type_of, pairs_fit, pairs_type}
use Rattle.declared_names.specs.StaticRulesScope.{Scope, is_taken, binding}
use Rattle.declared_names.specs.StaticRulesNames.{Listing, inside, known, pairs_fault, new_name, domain_carrier, domain_faults, over_fault, whole_pairs, judged_pairs}
use Rattle.type_rules.specs.TypesByNumber.{Names, Sizes, entry, key, unless_key, inside_key, lesser, is_free, is_given, is_pairs, element_of, size_in, product_fits, over_key, brace_key, domain_kind, domain_key, bound, least_key}
use Rattle.names.proofs.ReachTables.{index_of, titled, known_number, known_element, GivenIs, TypeIs, Numbered, Shows, DomainIn}
use Rattle.names.proofs.TypesAgreeLeast.{least-nil, one-fault, unless-least, two-parts, inside-least}
use Rattle.names.proofs.TypesAgreeRanges.{range-least}
use Rattle.names.proofs.TypesAgreeTypes.{index_in}
use Rattle.names.proofs.TypesAgreeScope.{found, titled-finds, binding-shows}
use Rattle.names.proofs.TypesAgreeBraces.{CommonPairs, PairsType, pairs-type, pairs-misfit}
use Rattle.refusals.proofs.FaultLists.{append_nil-both, not_nil, unless-nil}

-- the letters l stand for the given set o, and k is their entry
pub data View (gs : List Given) (z : Sizes) (l : Letters) : Option Given → ℕ → Type 0 where
  no_given : {k : ℕ} → is_given k ≡ false → View gs z l none k
  one_given : {k : ℕ} (g : Given) → g.title ≡ l → titled gs g.title ≡ true → index_of gs g.title < 8 → size_in z (index_of gs g.title) ≡ size_of g
      → k ≡ 8 + index_of gs g.title → View gs z l (some g) k

pub given_yes : (k n : ℕ) → n < 8 → k ≡ 8 + n → is_given k ≡ true
unfolding is_given
given_yes k n h e = ap₂ ◌&&◌ (le-leb 8 k (omega arith)) (lt-ltb k 16 (omega arith))

pub element-is : (k n : ℕ) → n < 8 → k ≡ 8 + n → element_of k ≡ 16 + n
unfolding element_of
element-is k n h e = rw (given_yes k n h e) (omega arith)

-- what a name of a given set is bound over
abbrev pub bound_over : Option Given → Carrier
bound_over none = Carrier.numbers (pos 0) (pos 0)
bound_over (some g) = elements_of g

pub minus-eight : (k n : ℕ) → k ≡ 8 + n → k - 8 ≡ n
minus-eight k n e = omega arith

module _ (gs : List Given) (z : Sizes) where
  -- 9, at a name that must be a given set's
  pub known-least : {l : Letters} {o : Option Given} {k : ℕ} (i : ℕ) → View gs z l o k → unless_key (is_given k) (key i 9) ≡ least_key (known o i)
  unfolding number_of
  known-least {k = k} i (no_given h) = ap (λ (b : Bool). unless_key b (key i 9)) h ∙ one-fault i name_unknown
  known-least {k = k} i (one_given g c t h s e) = ap (λ (b : Bool). unless_key b (key i 9)) (given_yes k (index_of gs g.title) h e) ∙ sym least-nil

  product-least : (g h : Given) (m n i : ℕ) → size_in z m ≡ size_of g → size_in z n ≡ size_of h → unless_key (product_fits z m n) (key i 11) ≡ least_key (pairs_fault (some g) (some h) i)
  unfolding product_fits pairs_fault number_of
  product-least g h m n i p q =
      ap₂ (λ (a b : ℕ). unless_key (leb (a * b) 16) (key i 11)) p q ∙ unless-least (leb (size_of g * size_of h) 16) i wide_type

  -- 11, of pairs over two names
  pub over-least : {l m : Letters} {o p : Option Given} {j k : ℕ} (i : ℕ) → View gs z l o j → View gs z m p k → over_key z j k i ≡ least_key (pairs_fault o p i)
  unfolding over_key pairs_fault
  over-least {j = j} {k = k} i (no_given h) w = ap (λ (b : Bool). cond (b && is_given k) (unless_key (product_fits z (j - 8) (k - 8)) (key i 11)) 0) h ∙ sym least-nil
  over-least {j = j} {k = k} i (one_given g c t h s e) (no_given r) =
      ap₂ (λ (a b : Bool). cond (a && b) (unless_key (product_fits z (j - 8) (k - 8)) (key i 11)) 0) (given_yes j (index_of gs g.title) h e) r ∙ sym least-nil
  over-least {j = j} {k = k} i (one_given g c t h s e) (one_given g' c' t' h' s' e') =
      ap₂ (λ (a b : Bool). cond (a && b) (unless_key (product_fits z (j - 8) (k - 8)) (key i 11)) 0)
      (given_yes j (index_of gs g.title) h e) (given_yes k (index_of gs g'.title) h' e')
      ∙ product-least g g' (j - 8) (k - 8) i (ap (size_in z) (minus-eight j (index_of gs g.title) e) ∙ s) (ap (size_in z) (minus-eight k (index_of gs g'.title) e') ∙ s')

  -- what is bound over a given set: an element of it
  pub element-type-is : {l : Letters} {o : Option Given} {k : ℕ} (i : ℕ) → View gs z l o k → known o i ≡ [] → TypeIs gs (some (type_of (bound_over o))) (element_of k)
  element-type-is i (no_given h) e = not_nil _ _ e
  element-type-is {k = k} i (one_given g q t h s e) r = (element-is k (index_of gs g.title) h e, known_element t)

module _ (ρ : Numbering) (P : Letters → Type 0) (Γ : Scope) (T : Names) (z : Sizes) (s : Shows ρ P Γ T z) where
  size_is : (x : Name) (g : Given) → given_of Γ.givens x ≡ some g → size_in z (index_of Γ.givens g.title) ≡ size_of g
  unfolding size_in
  size_is x g e = let f = found Γ.givens x g e in s.sizes (index_of Γ.givens g.title) (index_in Γ.givens g.title f.listed) ∙ f.sized

  pub given-view : (x : Name) → P x.letters → View Γ.givens z x.letters (given_of Γ.givens x) (entry T (name_number ρ x))
  given-view x px = on (given_of Γ.givens x) refl (s.givens x px)
    where
      on : (o : Option Given) → given_of Γ.givens x ≡ o → GivenIs Γ.givens o (entry T (name_number ρ x)) → View Γ.givens z x.letters o (entry T (name_number ρ x))
      on none e h = no_given h
      on (some g) e h =
          let f = found Γ.givens x g e in
          one_given g f.called f.listed (omega (arith, index_in Γ.givens g.title f.listed, s.few)) (size_is x g e) h

  pub domain-least : (d : Domain) → DomainIn P d → (i : ℕ) → domain_key d T ρ i ≡ least_key (domain_faults Γ d i)
  unfolding domain_key
  domain-least (given_set g) h i = known-least Γ.givens z i (given-view g h)
  domain-least (range r) h i = range-least r i h

  pub domain-type : (d : Domain) → DomainIn P d → (i : ℕ) → domain_faults Γ d i ≡ [] → TypeIs Γ.givens (some (type_of (domain_carrier Γ d))) (domain_kind d T ρ)
  unfolding domain_kind
  domain-type (given_set g) h i e = element-type-is Γ.givens z i (given-view g h) e
  domain-type (range r) h i e = (refl, known_number)

module _ (ρ : Numbering) (P : Letters → Type 0) (ν : Numbered ρ P) (Γ : Scope) (T : Names) (z : Sizes) (s : Shows ρ P Γ T z) (x : Letters) (px : P x) (d : Domain) (pd : DomainIn P d) where
  new-least : (i : ℕ) → unless_key (is_free (entry T (number_of_name ρ x no_ending))) (key i 8) ≡ least_key (new_name Γ.taken x i)
  unfolding new_name number_of
  new-least i = ap (λ (b : Bool). unless_key b (key i 8)) (s.uses x px) ∙ unless-least (not (is_taken Γ.taken x)) i name_in_use

  new-free : (i : ℕ) → new_name Γ.taken x i ≡ [] → is_taken Γ.taken x ≡ false
  unfolding new_name
  new-free i e = not-true (is_taken Γ.taken x) (unless-nil (not (is_taken Γ.taken x)) (fault i name_in_use) e)

  -- the scope that a binder without faults makes
  pub bound-shows : (i j : ℕ) → (new_name Γ.taken x i ++ domain_faults Γ d j) ≡ []
      → Shows ρ P (binding Γ x (domain_carrier Γ d)) (bound T (number_of_name ρ x no_ending) (domain_kind d T ρ)) z
  bound-shows i j e =
      let h = append_nil-both (new_name Γ.taken x i) (domain_faults Γ d j) e in
      binding-shows ρ P ν Γ T z s x px (new-free i h.0) (domain_carrier Γ d) (domain_kind d T ρ) (domain-type ρ P Γ T z s d pd j h.1)

  -- a binder, and what stands in its reach
  pub binder-least : (i j : ℕ) (body : List Fault) (n : ℕ)
      → (Shows ρ P (binding Γ x (domain_carrier Γ d)) (bound T (number_of_name ρ x no_ending) (domain_kind d T ρ)) z → n ≡ least_key body)
      → inside_key (lesser (unless_key (is_free (entry T (number_of_name ρ x no_ending))) (key i 8)) (domain_key d T ρ j)) n
      ≡ least_key (inside (new_name Γ.taken x i ++ domain_faults Γ d j) body)
  binder-least i j body n f =
      inside-least _ n (new_name Γ.taken x i ++ domain_faults Γ d j) body
      (two-parts (new_name Γ.taken x i) (domain_faults Γ d j) (new-least i) (domain-least ρ P Γ T z s d pd j))
      (λ e. f (bound-shows i j e))

-- ---- braces of pairs ----

pub judged-inside : (gs : List Given) (l : Listing (Ty × Ty)) (i : ℕ) → judged_pairs gs l i ≡ inside l.faults (whole_pairs gs l.types i)
unfolding judged_pairs inside
judged-inside gs l i = on l.faults
  where
    on : (fs : List Fault) → ◌≡◌ {A = List Fault} (elim fs [ [] ↦ whole_pairs gs l.types i | x ∷ xs ↦ x ∷ xs ]) (inside fs (whole_pairs gs l.types i))
    on [] = refl
    on (x ∷ xs) = refl

misfit-key : (z : Sizes) (k i : ℕ) → k ≡ 0 → brace_key z k i ≡ least_key (fault i types_misfit ∷ [])
unfolding brace_key is_pairs number_of
misfit-key z k i e = ap (λ (n : ℕ). brace_key z n i) e ∙ one-fault i types_misfit

brace-key : (z : Sizes) (k g h i : ℕ) → h < 8 → k ≡ 64 + 8 * g + h → brace_key z k i ≡ unless_key (product_fits z g h) (key i 11)
unfolding brace_key is_pairs
brace-key z k g h i l e =
    let p : (k - 64) / 8 ≡ g = omega arith in
    let q : (k - 64) % 8 ≡ h = omega arith in
    ap (λ (b : Bool). cond b (unless_key (product_fits z ((k - 64) / 8) ((k - 64) % 8)) (key i 11)) (key i 10)) (le-leb 64 k (omega arith))
    ∙ ap₂ (λ (m n : ℕ). unless_key (product_fits z m n) (key i 11)) p q

module _ (ρ : Numbering) (P : Letters → Type 0) (Γ : Scope) (T : Names) (z : Sizes) (s : Shows ρ P Γ T z) where
  title-size : (l : Letters) (g : Given) → given_of Γ.givens (plain l) ≡ some g → size_in z (index_of Γ.givens l) ≡ size_of g
  title-size l g e = ap (λ (m : Letters). size_in z (index_of Γ.givens m)) (sym (found Γ.givens (plain l) g e).called) ∙ size_is ρ P Γ T z s (plain l) g e

  pairs-fit-least : (ts : List (Ty × Ty)) (k i : ℕ) → PairsType Γ.givens ts k → brace_key z k i ≡ least_key (over_fault Γ.givens (pairs_type ts).over i)
  unfolding brace_key
  pairs-fit-least ts k i w =
      let l : index_of Γ.givens w.right < 8 = omega (arith, index_in Γ.givens w.right w.right_in, s.few) in
      let a = titled-finds Γ.givens w.left w.left_in in
      let b = titled-finds Γ.givens w.right w.right_in in
      brace-key z k (index_of Γ.givens w.left) (index_of Γ.givens w.right) i l w.number_is
      ∙ product-least Γ.givens z a.given b.given (index_of Γ.givens w.left) (index_of Γ.givens w.right) i
      (title-size w.left a.given a.finds) (title-size w.right b.given b.finds)
      ∙ sym (ap₂ (λ (o p : Option Given). least_key (pairs_fault o p i)) a.finds b.finds)
      ∙ sym (ap (λ (t : Ty). least_key (over_fault Γ.givens t.over i)) w.type_is)

  pub brace-least : (ts : List (Ty × Ty)) (k i : ℕ) → CommonPairs Γ.givens ts k → brace_key z k i ≡ least_key (whole_pairs Γ.givens ts i)
  unfolding whole_pairs
  brace-least ts k i w = on (pairs_fit ts) refl
    where
      on : (b : Bool) → pairs_fit ts ≡ b → brace_key z k i ≡ least_key (cond b (over_fault Γ.givens (pairs_type ts).over i) (fault i types_misfit ∷ []))
      on true e = pairs-fit-least ts k i (pairs-type Γ.givens s.few w e)
      on false e = misfit-key z k i (pairs-misfit Γ.givens s.few w e)
