-- Walks over nodes that say where values are found: the next slot stands in front of the places.
use mathlib.Core.Path.{◌≡◌, refl, ap, ap₂, sym, ◌∙◌, subst}
use mathlib.Core.Bool.{Bool, true, false, cond}
use mathlib.Core.List.{List, [], ◌∷◌, ◌++◌}
use Prim.Native.Nat.{ℕ, suc, ◌+◌, ◌-◌, ◌*◌, ◌%◌, ◌≤◌, ◌<◌}
use native.Mathlib.Nat.{mul_comm, mul-add-mod_self_right}
use native.Mathlib.Numerals.{add-one}
use native.Mathlib.Omega.{arith}
use lib.Dec.{eqb}
use lib.ListN.{length, drop, get_or, set, length-drop, length-append}
use Rattle.lexical.specs.Symbols.{no_ending}
use Rattle.form.specs.Tree.{Letters, Given, elements, Direction, inward, outward, Parameter}
use Rattle.form.specs.Headings.{given_length}
use Rattle.form.specs.Written.{ending_of}
use Rattle.form.specs.Codes.{Numbering, node, name_number, number_of_name, ending_number, type_codes, type_width, element_codes, given_codes}
use Rattle.type_rules.specs.TypesByNumber.{Names}
use Rattle.names.specs.DeclaredNamesNamesByNumber.{Typed, parameters_of}
use Rattle.names.specs.DeclaredNamesPassPromises.{typed_code}
use Rattle.names.proofs.DeclaredNamesNodePieces.{Ends, place, whole}
use Rattle.names.proofs.DeclaredNamesDeclarationNodes.{node-a, node-shape, Walked, start, finished}
use Rattle.names.proofs.DeclaredNamesGivenSetNodes.{element-shape, behind, nothing_left}
use Rattle.names.proofs.PassSteps.{parameters-codes}
use Rattle.table_nodes.specs.TableByNumber.{Places}
use Rattle.table_places.specs.DossierTableByNumber.{elements_placed, givens_placed, placing, parameter_slot, next_input, next_output, parameters_placed}
use Rattle.table_places.specs.TablePromises.{ElementSet, ElementsSet, VariablesSet, ParametersSet}

-- the number of a declared name is the second one of its node
named-at : (code : List ℕ) (at : ℕ) (x : Typed) (j : ℕ) (ρ : Numbering) (rest : List ℕ) → drop at code ≡ typed_code j x ρ ++ rest → get_or code (at + 1) 0 ≡ name_number ρ x.called
named-at code at x j ρ rest e = node-a code at 6 j (name_number ρ x.called) 0 (type_codes x.type (j + 2) ρ ++ rest) e

-- of declarations that are cut off one by one, none is cut off yet
pub walked-start : {X : Type 0} (F : List Typed → ℕ → Names → Numbering → X) (code rest : List ℕ) (T : Names) → rest ≡ code → Ends code rest × Walked F code (place code rest) T T
walked-start F code rest T e =
    let none : length code - length code ≡ 0 = omega arith in
    subst (λ (l : List ℕ). Ends code l × Walked F code (place code l) T T) (sym e) (whole code, subst (λ (n : ℕ). Walked F code n T T) (sym none) (start F code T))

-- variables
abbrev pub slotting : ℕ → List Typed → ℕ → Names → Numbering → Places
slotting k xs i S ρ = placing xs k (get_or S 0 0) (drop 1 S) ρ

pub slot-on : (code : List ℕ) (at k s a : ℕ) (W Y : Places) → a ≡ get_or code (at + 1) 0 → Y ≡ set W (a + k) s
    → (ρ : Numbering) (x : Typed) (xs : List Typed) (j : ℕ) (rest : List ℕ) → drop at code ≡ typed_code j x ρ ++ rest
    → slotting k (x ∷ xs) j (s ∷ W) ρ ≡ slotting k xs (j + 3 + type_width x.type) ((s + 1) ∷ Y) ρ
unfolding placing
slot-on code at k s a W Y p h ρ x xs j rest e =
    let n : a ≡ name_number ρ x.called = p ∙ named-at code at x j ρ rest e in
    sym (ap₂ (λ (t : Places) (m : ℕ). placing xs k m t ρ) (h ∙ ap (λ (m : ℕ). set W (m + k) s) n) (add-one s))

pub variables-set : (code : List ℕ) (at k s₀ s : ℕ) (W₀ W : Places) → Walked (slotting k) code at (s₀ ∷ W₀) (s ∷ W) → length code < at + 8 → VariablesSet code k s₀ W₀ W
unfolding placing
variables-set code at k s₀ s W₀ W w h = finished (slotting k) code at (s₀ ∷ W₀) (s ∷ W) W w h (λ j ρ. refl)

-- parameters, by the endings of their names
unfoldable pub typed_placed : List Typed → (i o : ℕ) → Places → Numbering → Places
typed_placed [] i o W ρ = W
typed_placed (x ∷ xs) i o W ρ =
    let n : ℕ = name_number ρ x.called in
    let b : Bool = eqb (n % 4) 2 in
    typed_placed xs (cond b (i + 1) i) (cond b o (o + 1)) (set W n (cond b i o)) ρ

abbrev pub parametering : List Typed → ℕ → Names → Numbering → Places
parametering xs j S ρ = typed_placed xs (get_or S 0 0) (get_or S 1 0) (drop 2 S) ρ

pub parameter-on : (code : List ℕ) (at i o a v i' o' : ℕ) (b : Bool) (W Y : Places) → a ≡ get_or code (at + 1) 0 → b ≡ eqb (get_or code (at + 1) 0 % 4) 2 → v ≡ cond b i o → Y ≡ set W a v
    → i' ≡ cond b (i + 1) i → o' ≡ cond b o (o + 1)
    → (ρ : Numbering) (x : Typed) (xs : List Typed) (j : ℕ) (rest : List ℕ) → drop at code ≡ typed_code j x ρ ++ rest
    → parametering (x ∷ xs) j (i ∷ o ∷ W) ρ ≡ parametering xs (j + 3 + type_width x.type) (i' ∷ o' ∷ Y) ρ
unfolding typed_placed
parameter-on code at i o a v i' o' b W Y p q r h u w ρ x xs j rest e =
    let n = named-at code at x j ρ rest e in
    let N : ℕ = name_number ρ x.called in
    let B : Bool = eqb (N % 4) 2 in
    let s : b ≡ B = q ∙ ap (λ (m : ℕ). eqb (m % 4) 2) n in
    let y : Y ≡ set W N (cond B i o) = h ∙ ap₂ (λ (m l : ℕ). set W m l) (p ∙ n) (r ∙ ap (λ (t : Bool). cond t i o) s) in
    sym
    (ap₂ (λ (l m : ℕ). typed_placed xs l m Y ρ) (u ∙ ap (λ (t : Bool). cond t (i + 1) i) s) (w ∙ ap (λ (t : Bool). cond t o (o + 1)) s)
    ∙ ap (λ (t : Places). typed_placed xs (cond B (i + 1) i) (cond B o (o + 1)) t ρ) y)

abbrev is_inward : Direction → Bool
is_inward inward = true
is_inward outward = false

inward-is : (d : Direction) (n : ℕ) → eqb ((4 * n + ending_number (ending_of d)) % 4) 2 ≡ is_inward d
inward-is inward n = ap (λ (m : ℕ). eqb m 2) (ap (λ (m : ℕ). (m + 2) % 4) (mul_comm 4 n) ∙ mul-add-mod_self_right n 4 2)
inward-is outward n = ap (λ (m : ℕ). eqb m 2) (ap (λ (m : ℕ). (m + 3) % 4) (mul_comm 4 n) ∙ mul-add-mod_self_right n 4 3)

slot-by : (d : Direction) (i o : ℕ) → cond (is_inward d) i o ≡ parameter_slot d i o
slot-by inward i o = refl
slot-by outward i o = refl

input-by : (d : Direction) (i : ℕ) → cond (is_inward d) (i + 1) i ≡ next_input d i
input-by inward i = add-one i
input-by outward i = refl

output-by : (d : Direction) (o : ℕ) → cond (is_inward d) o (o + 1) ≡ next_output d o
output-by inward o = refl
output-by outward o = add-one o

typed-parameters : (xs : List Parameter) (i o : ℕ) (W : Places) (ρ : Numbering) → typed_placed (parameters_of xs) i o W ρ ≡ parameters_placed xs i o W ρ
unfolding typed_placed parameters_placed parameters_of number_of_name
typed-parameters [] i o W ρ = refl
typed-parameters (x ∷ xs) i o W ρ =
    let d : Direction = x.direction in
    let n : ℕ = number_of_name ρ x.declaration.declared (ending_of d) in
    let b : eqb (n % 4) 2 ≡ is_inward d = inward-is d (ρ x.declaration.declared) in
    ap (λ (t : Bool). typed_placed (parameters_of xs) (cond t (i + 1) i) (cond t o (o + 1)) (set W n (cond t i o)) ρ) b
    ∙ (ap₂ (λ (l m : ℕ). typed_placed (parameters_of xs) l m (set W n (cond (is_inward d) i o)) ρ) (input-by d i) (output-by d o)
    ∙ (ap (λ (l : ℕ). typed_placed (parameters_of xs) (next_input d i) (next_output d o) (set W n l) ρ) (slot-by d i o)
    ∙ typed-parameters xs (next_input d i) (next_output d o) (set W n (parameter_slot d i o)) ρ))

pub parameters-set : (code : List ℕ) (at i o : ℕ) (W₀ W : Places) → Walked parametering code at (16 ∷ 19 ∷ W₀) (i ∷ o ∷ W) → length code < at + 8 → ParametersSet code W₀ W
unfolding typed_placed
parameters-set code at i o W₀ W w h xs j ρ e =
    finished parametering code at (16 ∷ 19 ∷ W₀) (i ∷ o ∷ W) W w h (λ l σ. refl) (parameters_of xs) j ρ (e ∙ sym (parameters-codes j xs ρ)) ∙ typed-parameters xs 16 19 W₀ ρ

-- what is left at a place of given sets, where the next element has the place j
pub record Left (code : List ℕ) (at j : ℕ) (W : Places) (ρ : Numbering) (v : Places) : Type 0 where
  pub es : List Letters
  pub gs : List Given
  pub p : ℕ
  pub l : ℕ
  pub m : ℕ
  pub here : drop at code ≡ element_codes p es ρ ++ given_codes l gs ρ
  pub counted : j ≡ 64 + m
  pub same : givens_placed gs (elements_placed es m W ρ) ρ ≡ v

abbrev pub ElementsOn : (code : List ℕ) (at j : ℕ) (W₀ W : Places) → Type 0
ElementsOn code at j W₀ W = (gs : List Given) (i : ℕ) (ρ : Numbering) → code ≡ given_codes i gs ρ → Left code at j W ρ (givens_placed gs W₀ ρ)

pub elements-start : (code : List ℕ) (W : Places) → ElementsOn code 0 64 W W
unfolding element_codes elements_placed
elements-start code W gs i ρ e = record { es = []; gs = gs; p = 0; l = i; m = 0; here = e; counted = refl; same = refl }

-- of the nodes of given sets, none is cut off yet
pub elements-begin : (code rest : List ℕ) (W : Places) → rest ≡ code → Ends code rest × ElementsOn code (place code rest) 64 W W
elements-begin code rest W e =
    let none : length code - length code ≡ 0 = omega arith in
    subst (λ (l : List ℕ). Ends code l × ElementsOn code (place code l) 64 W W) (sym e) (whole code, subst (λ (n : ℕ). ElementsOn code n 64 W W) (sym none) (elements-start code W))

-- a node by itself
pub element-cut : (n code : List ℕ) (at j r : ℕ) (W Y : Places) → ((k : ℕ) → k < 4 → get_or n k 0 ≡ get_or code (at + k) 0) → ElementSet n 0 j W Y r → ElementSet code at j W Y r
element-cut n code at j r W Y same is = record {
  title = λ e. is.title (same 3 (omega arith) ∙ e);
  element = λ e.
      let t = is.element (λ h. e (sym (same 3 (omega arith)) ∙ h)) in (t.0 ∙ ap (λ (m : ℕ). set W m j) (same 1 (omega arith)), t.1);
  near = is.near;
}

something-left : (code : List ℕ) (at k i a b : ℕ) (rest : List ℕ) → length code < at + 4 → drop at code ≡ node k i a b ++ rest → ⊥
something-left code at k i a b rest room e =
    let long : length code - at ≡ length (node k i a b) + length rest = sym (length-drop at code) ∙ (ap (λ (l : List ℕ). length l) e ∙ length-append (node k i a b) rest) in
    omega arith

module _ (code : List ℕ) (at j r : ℕ) (W Y : Places) (ρ : Numbering) (v : Places) (room : at + 4 ≤ length code) (is : ElementSet code at j W Y r) where
  element-next : (es : List Letters) (gs : List Given) (p l m : ℕ) → drop at code ≡ element_codes p es ρ ++ given_codes l gs ρ → j ≡ 64 + m
      → givens_placed gs (elements_placed es m W ρ) ρ ≡ v → Left code (at + 4) r Y ρ v
  unfolding element_codes given_codes elements_placed givens_placed
  element-next [] [] p l m e c s = elim (nothing_left code at room e) [ ]
  element-next [] (g ∷ gs) p l m e c s =
      let rest : List ℕ = element_codes (l + 2) (elements g) ρ ++ given_codes (l + given_length g) gs ρ in
      let t = is.title (node-shape code at 3 l (number_of_name ρ g.title no_ending) 0 rest e) in
      record {
        es = elements g;
        gs = gs;
        p = l + 2;
        l = l + given_length g;
        m = 0;
        here = behind code at 3 l (number_of_name ρ g.title no_ending) 0 rest e;
        counted = t.1;
        same = ap (λ (w : Places). givens_placed gs (elements_placed (elements g) 0 w ρ) ρ) t.0 ∙ s;
      }
  element-next (x ∷ es) gs p l m e c s =
      let rest : List ℕ = element_codes (suc p) es ρ ++ given_codes l gs ρ in
      let t = is.element (element-shape code at p (number_of_name ρ x no_ending) 0 rest e) in
      let a = node-a code at 4 p (number_of_name ρ x no_ending) 0 rest e in
      let one = t.1 in
      record {
        es = es;
        gs = gs;
        p = suc p;
        l = l;
        m = suc m;
        here = behind code at 4 p (number_of_name ρ x no_ending) 0 rest e;
        counted = omega arith;
        same = ap (λ (w : Places). givens_placed gs (elements_placed es (suc m) w ρ) ρ) (t.0 ∙ ap₂ (λ (y k : ℕ). set W y k) a c) ∙ s;
      }

elements-end : (code : List ℕ) (at : ℕ) (W : Places) (ρ : Numbering) (v : Places) → length code < at + 4 → (es : List Letters) (gs : List Given) (p l m : ℕ)
    → drop at code ≡ element_codes p es ρ ++ given_codes l gs ρ → givens_placed gs (elements_placed es m W ρ) ρ ≡ v → W ≡ v
unfolding element_codes given_codes elements_placed givens_placed
elements-end code at W ρ v h [] [] p l m e s = s
elements-end code at W ρ v h [] (g ∷ gs) p l m e s =
    elim (something-left code at 3 l (number_of_name ρ g.title no_ending) 0 (element_codes (l + 2) (elements g) ρ ++ given_codes (l + given_length g) gs ρ) h e) [ ]
elements-end code at W ρ v h (x ∷ es) gs p l m e s =
    elim (something-left code at 4 p (number_of_name ρ x no_ending) 0 (element_codes (suc p) es ρ ++ given_codes l gs ρ) h e) [ ]

pub elements-on : (code : List ℕ) (at next j r : ℕ) (W₀ W Y : Places) → next ≡ at + 4 → at + 4 ≤ length code → ElementSet code at j W Y r → ElementsOn code at j W₀ W
    → ElementsOn code next r W₀ Y
elements-on code at next j r W₀ W Y n room is w gs i ρ e =
    let o = w gs i ρ e in
    subst (λ (m : ℕ). Left code m r Y ρ (givens_placed gs W₀ ρ)) (sym n)
    (element-next code at j r W Y ρ (givens_placed gs W₀ ρ) room is o.es o.gs o.p o.l o.m o.here o.counted o.same)

pub elements-set : (code : List ℕ) (at j : ℕ) (W₀ W : Places) → length code < at + 4 → ElementsOn code at j W₀ W → ElementsSet code W₀ W
elements-set code at j W₀ W h w gs i ρ e =
    let o = w gs i ρ e in elements-end code at W ρ (givens_placed gs W₀ ρ) h o.es o.gs o.p o.l o.m o.here o.same
