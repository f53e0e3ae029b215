-- The walk over the nodes of given sets: titles and elements, the names that they make, and how many elements each set has.
use mathlib.Core.Path.{◌≡◌, refl, ap, ap₂, sym, ◌∙◌, subst}
use mathlib.Core.Bool.{Bool, true, false}
use mathlib.Core.List.{List, [], ◌∷◌, ◌++◌, map}
use Prim.Native.Nat.{ℕ, suc, ◌+◌, ◌-◌, ◌≤◌, ◌<◌}
use native.Mathlib.Nat.{add-zero, zero-add}
use native.Mathlib.Numerals.{add-one}
use native.Mathlib.Omega.{arith}
use lib.Dec.{ltb}
use borrow.Author.Tests.{ltb-true, ltb-false}
use lib.ListN.{length, drop, get_or, set, length-drop, length-append, length-map}
use lib.Seq.{drop-drop, get_or-set_same, get_or-set_other}
use Rattle.lexical.specs.Symbols.{no_ending}
use Rattle.form.specs.Tree.{Letters, Given, elements}
use Rattle.form.specs.Headings.{given_length}
use Rattle.form.specs.Codes.{Numbering, node, number_of_name, element_codes, given_codes}
use Rattle.static_rules.specs.Carriers.{size_of}
use Rattle.type_rules.specs.TypesByNumber.{Names, Sizes, entry, is_free, key, unless_key, inside_key}
use Rattle.type_rules.proofs.TypeNumbers.{inside-none, inside-some}
use Rattle.declared_names.specs.NamesByNumber.{elements_key, elements_named, givens_key, givens_named}
use Rattle.declared_names.specs.PassPromises.{Counted, GivenFaulted, GivenKind, SizeCounted, Fewer, GivenSeen}
use Rattle.declared_names.proofs.NodePieces.{Ends, place, whole}
use Rattle.declared_names.proofs.DeclarationNodes.{node-a, node-place, node-shape}

-- what is left at a place, where g given sets have begun: elements of the last one, and further sets
pub record Left (code : List ℕ) (at g : ℕ) (T : Names) (z : Sizes) (ρ : Numbering) (fault : ℕ) (names : Names) (target : List ℕ) : Type 0 where
  pub es : List Letters
  pub gs : List Given
  pub j : ℕ
  pub l : ℕ
  pub here : drop at code ≡ element_codes j es ρ ++ given_codes l gs ρ
  pub few : g + length gs ≡ length target
  pub begun : 1 ≤ length es → 1 ≤ g
  pub faults : inside_key (elements_key es (15 + g) T ρ j) (givens_key gs g (elements_named es (15 + g) T ρ) ρ l) ≡ fault
  pub named : givens_named gs g (elements_named es (15 + g) T ρ) ρ ≡ names
  pub done : (q : ℕ) → q + 1 < g → get_or z q 0 ≡ get_or target q 0
  pub last : 1 ≤ g → get_or z (g - 1) 0 + length es ≡ get_or target (g - 1) 0
  pub more : (q : ℕ) → get_or (map size_of gs) q 0 ≡ get_or target (g + q) 0

abbrev pub GivenOn : (code : List ℕ) (at g : ℕ) (T U : Names) (z : Sizes) → Type 0
GivenOn code at g T U z = (gs : List Given) (i : ℕ) (ρ : Numbering) → code ≡ given_codes i gs ρ → Fewer gs
    → Left code at g U z ρ (givens_key gs 0 T ρ i) (givens_named gs 0 T ρ) (map size_of gs)

pub given-start : (code : List ℕ) (T : Names) (z : Sizes) → GivenOn code 0 0 T T z
unfolding element_codes elements_key elements_named
given-start code T z gs i ρ e f =
    record {
      es = [];
      gs = gs;
      j = 0;
      l = i;
      here = e;
      few = zero-add (length gs) ∙ sym (length-map gs size_of);
      begun = λ h. elim (none h) [ ];
      faults = refl;
      named = refl;
      done = λ q h. elim (never q h) [ ];
      last = λ h. elim (none h) [ ];
      more = λ q. ap (λ (n : ℕ). get_or (map size_of gs) n 0) (sym (zero-add q));
    }
  where
    none : 1 ≤ 0 → ⊥
    none h = omega arith

    never : (q : ℕ) → q + 1 < 0 → ⊥
    never q h = omega arith

pub given-begin : (code : List ℕ) (T : Names) (z : Sizes) → Ends code code × GivenOn code (place code code) 0 T T z
given-begin code T z =
    let none : length code - length code ≡ 0 = omega arith in (whole code, subst (λ (n : ℕ). GivenOn code n 0 T T z) (sym none) (given-start code T z))

-- the node of an element is none of a title
pub element-shape : (code : List ℕ) (at i a b : ℕ) (rest : List ℕ) → drop at code ≡ node 4 i a b ++ rest → get_or code (at + 3) 0 ≡ 3 → ⊥
element-shape code at i a b rest e q = let s = node-shape code at 4 i a b rest e in omega arith

-- behind the node at `at`
pub behind : (code : List ℕ) (at k i a b : ℕ) (rest : List ℕ) → drop at code ≡ node k i a b ++ rest → drop (at + 4) code ≡ rest
behind code at k i a b rest e = sym (drop-drop 4 at code) ∙ ap (λ (l : List ℕ). drop 4 l) e

pub nothing_left : (code : List ℕ) (at : ℕ) → at + 4 ≤ length code → drop at code ≡ [] → ⊥
nothing_left code at room e = let short : length code - at ≡ 0 = (sym (length-drop at code) ∙ ap (λ (l : List ℕ). length l) e) in omega arith

-- the sizes of sets that have ended
before : (g : ℕ) (target : List ℕ) (z : Sizes) → ((q : ℕ) → q + 1 < g → get_or z q 0 ≡ get_or target q 0) → (1 ≤ g → get_or z (g - 1) 0 + 0 ≡ get_or target (g - 1) 0)
    → (n : ℕ) → n < g → get_or z n 0 ≡ get_or target n 0
before g target z done last n h = go (ltb (n + 1) g) refl
  where
    go : (t : Bool) → ltb (n + 1) g ≡ t → get_or z n 0 ≡ get_or target n 0
    go true e = done n (ltb-true (n + 1) g e)
    go false e =
        let w : g ≤ n + 1 = ltb-false (n + 1) g e in
        let s : g - 1 ≡ n = omega arith in
        sym (add-zero (get_or z n 0)) ∙ (rw s at (last (omega arith)))

module _ (code : List ℕ) (at g g' : ℕ) (T U : Names) (z z' : Sizes) (ρ : Numbering) (fault : ℕ) (names : Names) (target : List ℕ)
    (room : at + 4 ≤ length code) (long : 8 ≤ length z) (count : Counted code at g g') (k : ℕ) (kind : GivenKind code at g' k) (size : SizeCounted code at g' z z')
    (put : U ≡ set T (get_or code (at + 1) 0) k) (f : ℕ) (here : GivenFaulted code at T f) (bound : (q : ℕ) → get_or target q 0 ≤ 8) (eight : length target ≤ 8) where
  -- the next node is an element's
  pub element-on : f ≡ 0 → (x : Letters) (es : List Letters) (gs : List Given) (j l : ℕ)
      → drop at code ≡ node 4 j (number_of_name ρ x no_ending) 0 ++ (element_codes (suc j) es ρ ++ given_codes l gs ρ)
      → g + length gs ≡ length target → 1 ≤ g
      → inside_key (elements_key (x ∷ es) (15 + g) T ρ j) (givens_key gs g (elements_named (x ∷ es) (15 + g) T ρ) ρ l) ≡ fault
      → givens_named gs g (elements_named (x ∷ es) (15 + g) T ρ) ρ ≡ names
      → ((q : ℕ) → q + 1 < g → get_or z q 0 ≡ get_or target q 0)
      → get_or z (g - 1) 0 + suc (length es) ≡ get_or target (g - 1) 0
      → ((q : ℕ) → get_or (map size_of gs) q 0 ≡ get_or target (g + q) 0)
      → Left code (at + 4) g' U z' ρ fault names target
  unfolding elements_key elements_named is_free
  element-on q x es gs j l e few begun faults named done last more =
      let no = element-shape code at j (number_of_name ρ x no_ending) 0 (element_codes (suc j) es ρ ++ given_codes l gs ρ) e in
      let same : g' ≡ g = count.element no in
      let a = node-a code at 4 j (number_of_name ρ x no_ending) 0 (element_codes (suc j) es ρ ++ given_codes l gs ρ) e in
      let p = node-place code at 4 j (number_of_name ρ x no_ending) 0 (element_codes (suc j) es ρ ++ given_codes l gs ρ) e in
      let u : U ≡ set T (number_of_name ρ x no_ending) (15 + g) = put ∙ ap₂ (λ (n m : ℕ). set T n m) a (kind.element no ∙ ap (λ (n : ℕ). 15 + n) same) in
      let free : unless_key (is_free (entry T (number_of_name ρ x no_ending))) (key j 8) ≡ 0 = sym (here.element no ∙ ap₂ (λ (n m : ℕ). unless_key (is_free (entry T n)) (key m 8)) a p) ∙ q in
      let b = bound (g - 1) in
      let z₁ : z' ≡ set z (g - 1) (get_or z (g - 1) 0 + 1) = (rw same at (size.element no (omega arith) (rw same (omega arith)))) in
      record {
        es = es;
        gs = gs;
        j = suc j;
        l = l;
        here = behind code at 4 j (number_of_name ρ x no_ending) 0 (element_codes (suc j) es ρ ++ given_codes l gs ρ) e;
        few = rw same few;
        begun = λ h. omega arith;
        faults =
            rw same
            (ap (λ (t : Names). inside_key (elements_key es (15 + g) t ρ (suc j)) (givens_key gs g (elements_named es (15 + g) t ρ) ρ l)) u
            ∙ (ap (λ (n : ℕ). inside_key n (givens_key gs g (elements_named (x ∷ es) (15 + g) T ρ) ρ l)) (inside-none refl free) ∙ faults));
        named = rw (same, u) named;
        done = λ n h. rw z₁ (get_or-set_other z (g - 1) n (get_or z (g - 1) 0 + 1) 0 (λ w. apart n h w) ∙ done n (omega arith));
        last = λ h. rw (same, z₁, get_or-set_same z (g - 1) (get_or z (g - 1) 0 + 1) 0 (omega arith)) (grown ∙ last);
        more = rw same more;
      }
    where
      apart : (n : ℕ) → n + 1 < g' → n ≡ g - 1 → ⊥
      apart n h w = let same = count.element (element-shape code at j (number_of_name ρ x no_ending) 0 (element_codes (suc j) es ρ ++ given_codes l gs ρ) e) in omega arith

      grown : get_or z (g - 1) 0 + 1 + length es ≡ get_or z (g - 1) 0 + suc (length es)
      grown = omega arith

  -- the next node is a title's
  pub title-on : f ≡ 0 → (x : Given) (gs : List Given) (l : ℕ)
      → drop at code ≡ node 3 l (number_of_name ρ x.title no_ending) 0 ++ (element_codes (l + 2) (elements x) ρ ++ given_codes (l + given_length x) gs ρ)
      → g + suc (length gs) ≡ length target
      → givens_key (x ∷ gs) g T ρ l ≡ fault
      → givens_named (x ∷ gs) g T ρ ≡ names
      → ((q : ℕ) → q + 1 < g → get_or z q 0 ≡ get_or target q 0)
      → (1 ≤ g → get_or z (g - 1) 0 + 0 ≡ get_or target (g - 1) 0)
      → ((q : ℕ) → get_or (map size_of (x ∷ gs)) q 0 ≡ get_or target (g + q) 0)
      → Left code (at + 4) g' U z' ρ fault names target
  unfolding givens_key givens_named is_free
  title-on q x gs l e few faults named done last more =
      let rest = element_codes (l + 2) (elements x) ρ ++ given_codes (l + given_length x) gs ρ in
      let yes : get_or code (at + 3) 0 ≡ 3 = node-shape code at 3 l (number_of_name ρ x.title no_ending) 0 rest e in
      let up : g' ≡ g + 1 = count.title yes (omega arith) in
      let one : g' ≡ suc g = up ∙ add-one g in
      let a = node-a code at 3 l (number_of_name ρ x.title no_ending) 0 rest e in
      let p = node-place code at 3 l (number_of_name ρ x.title no_ending) 0 rest e in
      let first : 7 + g' ≡ 8 + g = omega arith in
      let second : 15 + g' ≡ 16 + g = omega arith in
      let u : U ≡ set T (number_of_name ρ x.title no_ending) (8 + g) = put ∙ ap₂ (λ (n m : ℕ). set T n m) a (kind.title yes ∙ first) in
      let free : unless_key (is_free (entry T (number_of_name ρ x.title no_ending))) (key (l + 1) 8) ≡ 0 = sym (here.title yes ∙ ap₂ (λ (n m : ℕ). unless_key (is_free (entry T n)) (key (m + 1) 8)) a p) ∙ q in
      let less : g' - 1 ≡ g = omega arith in
      let z₁ : z' ≡ set z g 0 = (rw less at (size.title yes (omega arith))) in
      record {
        es = elements x;
        gs = gs;
        j = l + 2;
        l = l + given_length x;
        here = behind code at 3 l (number_of_name ρ x.title no_ending) 0 rest e;
        few = omega arith;
        begun = λ h. omega arith;
        faults =
            rw (second, one, u)
            (inside-none refl free ∙ faults);
        named = rw (second, one, u) named;
        done = λ n h. rw z₁ (get_or-set_other z g n 0 0 (λ w. omega arith) ∙ before g target z done last n (omega arith));
        last = λ h. rw (less, z₁, get_or-set_same z g 0 0 (omega arith)) (zero-add (size_of x) ∙ (more 0 ∙ ap (λ (n : ℕ). get_or target n 0) (add-zero g)));
        more = λ n. more (suc n) ∙ ap (λ (m : ℕ). get_or target m 0) (omega arith);
      }

  over : f ≡ 0 → (es : List Letters) (gs : List Given) (j l : ℕ) → drop at code ≡ element_codes j es ρ ++ given_codes l gs ρ → g + length gs ≡ length target
      → (1 ≤ length es → 1 ≤ g)
      → inside_key (elements_key es (15 + g) T ρ j) (givens_key gs g (elements_named es (15 + g) T ρ) ρ l) ≡ fault
      → givens_named gs g (elements_named es (15 + g) T ρ) ρ ≡ names
      → ((q : ℕ) → q + 1 < g → get_or z q 0 ≡ get_or target q 0)
      → (1 ≤ g → get_or z (g - 1) 0 + length es ≡ get_or target (g - 1) 0)
      → ((q : ℕ) → get_or (map size_of gs) q 0 ≡ get_or target (g + q) 0)
      → Left code (at + 4) g' U z' ρ fault names target
  unfolding element_codes given_codes elements_key elements_named
  over q [] [] j l e few begun faults named done last more = elim (nothing_left code at room e) [ ]
  over q [] (x ∷ gs) j l e few begun faults named done last more = title-on q x gs l e few faults named done last more
  over q (x ∷ es) gs j l e few begun faults named done last more =
      let b = begun (omega arith) in element-on q x es gs j l e few b faults named done (last b) more

  pub turn : f ≡ 0 → Left code at g T z ρ fault names target → Left code (at + 4) g' U z' ρ fault names target
  turn q r = over q r.es r.gs r.j r.l r.here r.few r.begun r.faults r.named r.done r.last r.more

pub given-on : (code : List ℕ) (at g g' : ℕ) (T₀ T U : Names) (z z' : Sizes) (k f : ℕ) → at + 4 ≤ length code → 8 ≤ length z → Counted code at g g'
    → GivenKind code at g' k → SizeCounted code at g' z z' → U ≡ set T (get_or code (at + 1) 0) k → GivenFaulted code at T f → f ≡ 0
    → GivenOn code at g T₀ T z → GivenOn code (at + 4) g' T₀ U z'
given-on code at g g' T₀ T U z z' k f room long count kind size put here q w gs i ρ e few =
    turn code at g g' T U z z' ρ (givens_key gs 0 T₀ ρ i) (givens_named gs 0 T₀ ρ) (map size_of gs) room long count k kind size put f here few.elements
    (rw length-map few.sets) q (w gs i ρ e few)

-- a fault at a node
module _ (code : List ℕ) (at g : ℕ) (T : Names) (z : Sizes) (ρ : Numbering) (fault : ℕ) (names : Names) (target : List ℕ) where
  halting : (f : ℕ) → at + 4 ≤ length code → GivenFaulted code at T f → (f ≡ 0 → ⊥) → (es : List Letters) (gs : List Given) (j l : ℕ)
      → drop at code ≡ element_codes j es ρ ++ given_codes l gs ρ
      → inside_key (elements_key es (15 + g) T ρ j) (givens_key gs g (elements_named es (15 + g) T ρ) ρ l) ≡ fault
      → f ≡ fault
  unfolding element_codes given_codes elements_key elements_named givens_key
  halting f room here n [] [] j l e faults = elim (nothing_left code at room e) [ ]
  halting f room here n [] (x ∷ gs) j l e faults =
      let rest = element_codes (l + 2) (elements x) ρ ++ given_codes (l + given_length x) gs ρ in
      let a = node-a code at 3 l (number_of_name ρ x.title no_ending) 0 rest e in
      let p = node-place code at 3 l (number_of_name ρ x.title no_ending) 0 rest e in
      let d : f ≡ unless_key (is_free (entry T (number_of_name ρ x.title no_ending))) (key (l + 1) 8) = here.title (node-shape code at 3 l (number_of_name ρ x.title no_ending) 0 rest e) ∙ ap₂ (λ (n m : ℕ). unless_key (is_free (entry T n)) (key (m + 1) 8)) a p in
      inside-some _ d n ∙ faults
  halting f room here n (x ∷ es) gs j l e faults =
      let rest = element_codes (suc j) es ρ ++ given_codes l gs ρ in
      let a = node-a code at 4 j (number_of_name ρ x no_ending) 0 rest e in
      let p = node-place code at 4 j (number_of_name ρ x no_ending) 0 rest e in
      let d : f ≡ unless_key (is_free (entry T (number_of_name ρ x no_ending))) (key j 8) = here.element (element-shape code at j (number_of_name ρ x no_ending) 0 rest e) ∙ ap₂ (λ (n m : ℕ). unless_key (is_free (entry T n)) (key m 8)) a p in
      let s : inside_key (unless_key (is_free (entry T (number_of_name ρ x no_ending))) (key j 8)) (elements_key es (15 + g) (set T (number_of_name ρ x no_ending) (15 + g)) ρ (suc j)) ≡ f = sym (inside-some _ d n) in
      inside-some _ refl n ∙ (sym (ap (λ (m : ℕ). inside_key m (givens_key gs g (elements_named (x ∷ es) (15 + g) T ρ) ρ l)) s) ∙ faults)

  pub halt : (f : ℕ) → at + 4 ≤ length code → GivenFaulted code at T f → (f ≡ 0 → ⊥) → Left code at g T z ρ fault names target → f ≡ fault
  halt f room here n r = halting f room here n r.es r.gs r.j r.l r.here r.faults

  -- behind the last node
  pub record Ended : Type 0 where
    pub faultless : 0 ≡ fault
    pub all_named : T ≡ names
    pub all_sized : (q : ℕ) → q < length target → get_or z q 0 ≡ get_or target q 0

  no_more : (k i a b : ℕ) (rest : List ℕ) → length code < at + 4 → drop at code ≡ node k i a b ++ rest → ⊥
  no_more k i a b rest room e =
      let n : length code - at ≡ 4 + length rest = sym (length-drop at code) ∙ (ap (λ (l : List ℕ). length l) e ∙ length-append (node k i a b) rest) in omega arith

  ending : length code < at + 4 → (es : List Letters) (gs : List Given) (j l : ℕ) → drop at code ≡ element_codes j es ρ ++ given_codes l gs ρ
      → g + length gs ≡ length target
      → inside_key (elements_key es (15 + g) T ρ j) (givens_key gs g (elements_named es (15 + g) T ρ) ρ l) ≡ fault
      → givens_named gs g (elements_named es (15 + g) T ρ) ρ ≡ names
      → ((q : ℕ) → q + 1 < g → get_or z q 0 ≡ get_or target q 0)
      → (1 ≤ g → get_or z (g - 1) 0 + length es ≡ get_or target (g - 1) 0)
      → Ended
  unfolding element_codes given_codes elements_key elements_named givens_key givens_named
  ending room [] [] j l e few faults named done last =
      record { faultless = faults; all_named = named; all_sized = λ q h. before g target z done last q (omega arith) }
  ending room [] (x ∷ gs) j l e few faults named done last =
      elim (no_more 3 l (number_of_name ρ x.title no_ending) 0 (element_codes (l + 2) (elements x) ρ ++ given_codes (l + given_length x) gs ρ) room e) [ ]
  ending room (x ∷ es) gs j l e few faults named done last =
      elim (no_more 4 j (number_of_name ρ x no_ending) 0 (element_codes (suc j) es ρ ++ given_codes l gs ρ) room e) [ ]

  pub ended : length code < at + 4 → Left code at g T z ρ fault names target → Ended
  ended room r = ending room r.es r.gs r.j r.l r.here r.few r.faults r.named r.done r.last

-- a node that is cut off, where it stands
module _ (n code : List ℕ) (at : ℕ) (same : (k : ℕ) → k < 4 → get_or n k 0 ≡ get_or code (at + k) 0) where
  pub counted-at : (g r : ℕ) → Counted n 0 g r → Counted code at g r
  counted-at g r h =
      let s = same 3 (omega arith) in record { few = h.few; title = λ e. h.title (s ∙ e); element = λ o. h.element (λ e. o (sym s ∙ e)) }

  pub faulted-at : (T : Names) (r : ℕ) → GivenFaulted n 0 T r → GivenFaulted code at T r
  faulted-at T r h =
      let s = same 3 (omega arith) in
      let a = same 1 (omega arith) in
      let p = same 2 (omega arith) in
      record {
        title = λ e. h.title (s ∙ e) ∙ ap₂ (λ (x y : ℕ). unless_key (is_free (entry T x)) (key (y + 1) 8)) a p;
        element = λ o. h.element (λ e. o (sym s ∙ e)) ∙ ap₂ (λ (x y : ℕ). unless_key (is_free (entry T x)) (key y 8)) a p;
      }

  pub kind-at : (g r : ℕ) → GivenKind n 0 g r → GivenKind code at g r
  kind-at g r h = let s = same 3 (omega arith) in record { title = λ e. h.title (s ∙ e); element = λ o. h.element (λ e. o (sym s ∙ e)) }

  pub sized-at : (g : ℕ) (z z' : Sizes) → SizeCounted n 0 g z z' → SizeCounted code at g z z'
  sized-at g z z' h = let s = same 3 (omega arith) in record { title = λ e. h.title (s ∙ e); element = λ o. h.element (λ e. o (sym s ∙ e)) }

-- the same from an equal table
pub given-from : {code T T' U z : List ℕ} {r : ℕ} → T ≡ T' → GivenSeen code T U z r → GivenSeen code T' U z r
given-from {code} {T} {T'} {U} {z} {r} e s = subst (λ (X : List ℕ). GivenSeen code X U z r) e s
