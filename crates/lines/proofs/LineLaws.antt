-- What is written piece by piece are the pieces of a line, and how long these are. Assumes nothing.
use mathlib.Core.Path.{◌≡◌, refl, sym, ap, ap₂, subst, ◌∙◌}
use mathlib.Core.Bool.{Bool, true, false, cond}
use mathlib.Core.List.{List, [], ◌∷◌, ◌++◌, map}
use Prim.Native.Nat.{ℕ, suc, ◌+◌, ◌-◌, ◌*◌, ◌/◌, ◌%◌, ◌^◌, ◌≤◌, ◌<◌}
use native.Mathlib.Nat.{add-zero, div-le_self, mod-le}
use native.Mathlib.Omega.{arith}
use lib.Dec.{eqb}
use lib.IntN.{ℤ, pos}
use lib.ListN.{length, get_or, length-append}
use borrow.Author.Tests.{eq-eqb, ne_eqb}
use mir.Syntax.{w64}
use mir.Val.{SFits, of_z, to_z}
use mir.Facts.{to_z-of_z}
use Rattle.lexical.specs.Lists.{bytes}
use Rattle.lexical.specs.Symbols.{Ending, no_ending, prime, query, shriek}
use Rattle.std.specs.Prelude.{Option, Some, None}
use Rattle.std.specs.Int.NonZero.{non_zero_u16_get}
use Rattle.std.specs.declared.num.NonZeroU16.{NonZeroU16}
use Rattle.sets.specs.Sets.{has, members}
use Rattle.meaning.specs.Values.{natural}
use Rattle.obligations.specs.Report.{ending_bytes, signed_decimal, braced}
use Rattle.labels.specs.Labels.{label_of}
use Rattle.pieces.specs.PiecePromises.{Adds, letters_at}
use Rattle.pieces.specs.declared.Writer.{Writer}
use Rattle.pieces.proofs.WrittenPieces.{piece_is, nothing_added, both-added, letters-length}
use Rattle.pieces.proofs.Signs.{signed-length}
use Rattle.lines.specs.LinesByNumber.{size_of, element_piece, pair_piece, member_piece, value_piece, ending_byte, byte_piece, ending_piece, line_piece, group_piece}
use Rattle.lines.specs.MembersByNumber.{members_piece}
use Rattle.lines.proofs.MemberLaws.{braced-are, members-here, members-there, members-none, braced-length, members-low}

-- a piece chosen by a test
pub when_true : (p q : List ℕ) {t : Bool} {v w : Writer} → t ≡ true → Adds p v w → Adds (cond t p q) v w
when_true p q e a = piece_is (ap (λ (x : Bool). cond x p q) (sym e)) a

pub when_false : (p q : List ℕ) {t : Bool} {v w : Writer} → t ≡ false → Adds q v w → Adds (cond t p q) v w
when_false p q e a = piece_is (ap (λ (x : Bool). cond x p q) (sym e)) a

cond-length : (t : Bool) (p q : List ℕ) (n : ℕ) → length p ≤ n → length q ≤ n → length (cond t p q) ≤ n
cond-length true p q n h k = h
cond-length false p q n h k = k

ending-length : (e : ℕ) → length (cond (eqb e 0) [] (e ∷ [])) ≤ 1
ending-length e = cond-length (eqb e 0) [] (e ∷ []) 1 (omega arith) (omega arith)

-- ---- the ending of a name

pub ending-piece : (e : Ending) → ending_piece [] [] (ending_byte e) ≡ ending_bytes e
unfolding bytes
ending-piece no_ending = refl
ending-piece prime = refl
ending-piece query = refl
ending-piece shriek = refl

pub ended-length : (e : Ending) → length (ending_bytes e) ≤ 1
ended-length e = subst (λ (w : List ℕ). length w ≤ 1) (ending-piece e) (ending-length (ending_byte e))

pub unended : (e : Ending) {r : Option ℕ} {v : Writer} → byte_piece r ≡ ending_bytes e → r ≡ None → Adds (ending_bytes e) v v
unended e {v = v} p q = piece_is (sym (ap byte_piece q) ∙ p) (nothing_added v)

pub ended : (e : Ending) {r : Option ℕ} {x : ℕ} {v w : Writer} → byte_piece r ≡ ending_bytes e → r ≡ Some x → Adds (x ∷ []) v w → Adds (ending_bytes e) v w
ended e p q v = piece_is (sym (ap byte_piece q) ∙ p) v

-- ---- the members of a set

-- the places of a pair's sides
pub sides-low : (k m : ℕ) → k < 16 → (k / m < 2 ^ 63) × (k % m < 2 ^ 63)
sides-low k m h = (omega (arith, div-le_self k m), omega (arith, mod-le k m))

module _ (f : ℕ → List ℕ) (s : ℕ) (old : Writer) where
  -- with the members from bit k on behind what was written all of them are, and there is room for them; p stands before the first one that is left
  pub record MembersLeft (p : List ℕ) (k : ℕ) (now : Writer) : Type 0 where
    pub rest : (u : Writer) → Adds (members_piece f s p k (16 - k)) now u → Adds (members_piece f s [] 0 16) old u
    pub room : now.at + length p + 39 * (16 - k) ≤ length now.out.now + 2

  pub members-start : old.at + 622 ≤ length old.out.now → MembersLeft [] 0 old
  members-start h = record { rest = λ u v. v; room = omega arith }

  pub bit-skipped : (p : List ℕ) (k : ℕ) (now : Writer) → k < 16 → false ≡ has s k → MembersLeft p k now → MembersLeft p (k + 1) now
  bit-skipped p k now h e m = record {
    rest = λ u v. m.rest u (piece_is (sym (members-there f s k p h (sym e))) v);
    room = omega (arith, m.room);
  }

  pub member-added : (p : List ℕ) (k : ℕ) (now mid new : Writer) → k < 16 → true ≡ has s k → length (f k) ≤ 37 → Adds p now mid → Adds (f k) mid new
      → MembersLeft p k now → MembersLeft (44 ∷ 32 ∷ []) (k + 1) new
  unfolding bytes
  member-added p k now mid new h e short v w m = record {
    rest = λ u x. m.rest u (piece_is (sym (members-here f s k p h (sym e))) (both-added v (both-added w x)));
    room = omega (arith, m.room, short, v.written.end, v.written.long, w.written.end, w.written.long);
  }

  pub members-added : (p : List ℕ) (k : ℕ) (now : Writer) → 16 ≤ k → MembersLeft p k now → Adds (members_piece f s [] 0 16) old now
  members-added p k now h m = m.rest now (piece_is (sym (members-none f s k p h)) (nothing_added now))

module _ (f : ℕ → List ℕ) (s : ℕ) where
  pub set-written : {a b c d : Writer} → Adds (123 ∷ []) a b → Adds (members_piece f s [] 0 16) b c → Adds (125 ∷ []) c d → Adds (braced (map f (members s))) a d
  unfolding bytes
  set-written u v w = piece_is (braced-are f s) (both-added u (both-added v w))

module _ (text labels : List ℕ) where
  -- ---- how long the pieces are

  pub element-length : (g k : ℕ) → length (element_piece text labels g k) ≤ 16
  unfolding element_piece
  element-length g k = letters-length text (get_or labels (8 * g + k) 0)

  pair-length : (n m k : ℕ) → length (pair_piece text labels n m k) ≤ 37
  unfolding pair_piece bytes
  pair-length n m k =
      let p = length-append (element_piece text labels (n / 8) (k / m)) (bytes " |-> " ++ element_piece text labels (n % 8) (k % m)) in
      omega (arith, element-length (n / 8) (k / m), element-length (n % 8) (k % m))

  pub member-length : (n m k : ℕ) → length (member_piece text labels n m k) ≤ 37
  unfolding member_piece
  member-length n m k = cond-length (eqb m 0) _ _ 37 (omega (arith, element-length n k)) (pair-length n m k)

  value-length : (s n m : ℕ) (x : ℤ) → SFits w64 x → length (value_piece text labels s n m x) ≤ 624
  unfolding value_piece
  value-length s n m x f =
      cond-length (eqb s 1) _ _ 624 (omega (arith, element-length n (natural x)))
      (cond-length (eqb s 2) _ _ 624 (omega (arith, signed-length x f))
      (cond-length (eqb s 3) _ _ 624 (braced-length (member_piece text labels n 0) (natural x) (member-length n 0))
      (braced-length (member_piece text labels n m) (natural x) (member-length n m))))

  line-length : (i e : ℕ) (x : ℤ) → SFits w64 x → length (line_piece text labels i e x) ≤ 645
  unfolding line_piece bytes
  line-length i e x f =
      let name : List ℕ = letters_at text (label_of labels i 0) in
      let ending : List ℕ = cond (eqb e 0) [] (e ∷ []) in
      let value : List ℕ = value_piece text labels (label_of labels i 1) (label_of labels i 2) (label_of labels i 3) x in
      let p = length-append name (ending ++ (bytes " = " ++ (value ++ bytes "\n"))) in
      let q = length-append ending (bytes " = " ++ (value ++ bytes "\n")) in
      let r = length-append value (bytes "\n") in
      omega (arith, letters-length text (label_of labels i 0), ending-length e, value-length (label_of labels i 1) (label_of labels i 2) (label_of labels i 3) x f)

  -- of a value that was written and read back
  module _ (x : ℤ) (f : SFits w64 x) where
    pub value-back : (s n m : ℕ) → length (value_piece text labels s n m (to_z w64 (of_z w64 x))) ≤ 624
    value-back s n m = subst (λ (z : ℤ). length (value_piece text labels s n m z) ≤ 624) (sym (to_z-of_z f)) (value-length s n m x f)

    pub line-back : (i e : ℕ) → length (line_piece text labels i e (to_z w64 (of_z w64 x))) ≤ 645
    line-back i e = subst (λ (z : ℤ). length (line_piece text labels i e z) ≤ 645) (sym (to_z-of_z f)) (line-length i e x f)

  -- ---- what is written

  pub element-written : (g k : ℕ) {from n i : ℕ} {v w : Writer} → from ≡ get_or labels (n * i + k) 0 → n ≡ 8 → i ≡ g → Adds (letters_at text from) v w
      → Adds (element_piece text labels g k) v w
  unfolding element_piece
  element-written g k e en ei v = piece_is (ap (letters_at text) (e ∙ ap₂ (λ (n i : ℕ). get_or labels (n * i + k) 0) en ei)) v

  pub pair-written : (n m k : ℕ) {l : ℕ} {a b c d : Writer} → l ≡ m → Adds (element_piece text labels (n / 8) (k / l)) a b
      → Adds (32 ∷ 124 ∷ 45 ∷ 62 ∷ 32 ∷ []) b c → Adds (element_piece text labels (n % 8) (k % l)) c d → Adds (pair_piece text labels n m k) a d
  unfolding pair_piece bytes
  pair-written n m k e u v w =
      both-added (piece_is (ap (λ (i : ℕ). element_piece text labels (n / 8) (k / i)) e) u)
      (both-added v (piece_is (ap (λ (i : ℕ). element_piece text labels (n % 8) (k % i)) e) w))

  module _ (n k : ℕ) {t : Option NonZeroU16} {v w : Writer} where
    pub single-written : t ≡ None → Adds (element_piece text labels n k) v w → Adds (member_piece text labels n (size_of t) k) v w
    unfolding member_piece
    single-written e v = when_true _ _ (eq-eqb (size_of t) 0 (ap size_of e)) v

    pub double-written : {m : NonZeroU16} → t ≡ Some m → Adds (pair_piece text labels n (non_zero_u16_get m) k) v w → Adds (member_piece text labels n (size_of t) k) v w
    unfolding member_piece
    double-written {m} e v =
        let some : size_of t ≡ non_zero_u16_get m = ap size_of e in
        let p : 0 < non_zero_u16_get m = m.ok in
        when_false _ _ (ne_eqb (size_of t) 0 (omega arith)) (piece_is (ap (λ (i : ℕ). pair_piece text labels n i k) (sym some)) v)

  -- of a subset the number of elements of a second set is not used
  sets-value : (s n m : ℕ) (x : ℤ) → (s ≡ 1 → ⊥) → (s ≡ 2 → ⊥)
      → value_piece text labels s n m x ≡ braced (map (member_piece text labels n (cond (eqb s 3) 0 m)) (members (natural x)))
  unfolding value_piece
  sets-value s n m x h₁ h₂ = rw (value_piece, ne_eqb s 1 h₁, ne_eqb s 2 h₂) (on (eqb s 3))
    where
      on : (t : Bool) → cond t (braced (map (member_piece text labels n 0) (members (natural x)))) (braced (map (member_piece text labels n m) (members (natural x))))
          ≡ braced (map (member_piece text labels n (cond t 0 m)) (members (natural x)))
      on true = refl
      on false = refl

  module _ (s n m : ℕ) (x : ℤ) {u w : Writer} where
    pub value-element : s ≡ 1 → {k : ℕ} → k ≡ natural x → Adds (element_piece text labels n k) u w → Adds (value_piece text labels s n m x) u w
    unfolding value_piece
    value-element h e v = when_true _ _ (eq-eqb s 1 h) (piece_is (ap (element_piece text labels n) e) v)

    pub value-number : s ≡ 2 → {y : ℤ} → y ≡ x → Adds (signed_decimal y) u w → Adds (value_piece text labels s n m x) u w
    unfolding value_piece
    value-number h e v = when_false _ _ (ne_eqb s 1 (λ f. (let z : ⊥ = omega arith in z))) (when_true _ _ (eq-eqb s 2 h) (piece_is (ap signed_decimal e) v))

    pub value-set : (s ≡ 1 → ⊥) → (s ≡ 2 → ⊥) → {i l y : ℕ} → i ≡ n → l ≡ cond (eqb s 3) 0 m → y ≡ natural x % 65536
        → Adds (braced (map (member_piece text labels i l) (members y))) u w → Adds (value_piece text labels s n m x) u w
    value-set h₁ h₂ {i} {l} {y} ei el ey v =
        let is : braced (map (member_piece text labels i l) (members y)) ≡ braced (map (member_piece text labels n (cond (eqb s 3) 0 m)) (members (natural x % 65536))) =
        λ h. braced (map (member_piece text labels (ei h) (el h)) (members (ey h))) in
        piece_is
        (is ∙ ap (λ (z : List ℕ). braced (map (member_piece text labels n (cond (eqb s 3) 0 m)) z)) (members-low (natural x)) ∙ sym (sets-value s n m x h₁ h₂))
        v

  pub line-written : (i : ℕ) (e : Ending) (x : ℤ) {from s n m : ℕ} {y : ℤ} {a b c d f g : Writer}
      → from ≡ get_or labels (80 + 4 * i) 0 → s ≡ label_of labels i 1 → n ≡ label_of labels i 2 → m ≡ label_of labels i 3 → y ≡ x
      → Adds (letters_at text from) a b → Adds (ending_bytes e) b c → Adds (32 ∷ 61 ∷ 32 ∷ []) c d → Adds (value_piece text labels s n m y) d f → Adds (10 ∷ []) f g
      → Adds (line_piece text labels i (ending_byte e) x) a g
  unfolding line_piece bytes
  line-written i e x {from} {s} {n} {m} {y} hf hs hn hm hy u v w z t =
      let name : letters_at text from ≡ letters_at text (label_of labels i 0) =
      ap (letters_at text) (hf ∙ ap (λ (k : ℕ). get_or labels k 0) (sym (add-zero (80 + 4 * i)))) in
      let value : value_piece text labels s n m y ≡ value_piece text labels (label_of labels i 1) (label_of labels i 2) (label_of labels i 3) x =
      λ h. value_piece text labels (hs h) (hn h) (hm h) (hy h) in
      both-added (piece_is name u) (both-added (piece_is (sym (ending-piece e)) v) (both-added w (both-added (piece_is value z) t)))

  -- ---- the lines of a group

  module _ (i n s e : ℕ) (σ : List ℤ) (old : Writer) where
    -- with the lines from the k-th on behind what was written all of them are, and none so far is longer than a line
    pub record LinesLeft (k : ℕ) (now : Writer) : Type 0 where
      pub rest : (u : Writer) → Adds (group_piece text labels (i + k) (n - k) (s + k) e σ) now u → Adds (group_piece text labels i n s e σ) old u
      pub long : length now.out.now ≡ length old.out.now
      pub short : now.at ≤ old.at + 645 * k

    pub lines-start : LinesLeft 0 old
    lines-start = record {
      rest = λ u v.
          let first : i + 0 ≡ i = add-zero i in
          let all : n - 0 ≡ n = omega arith in
          let slot : s + 0 ≡ s = add-zero s in
          piece_is (λ h. group_piece text labels (first h) (all h) (slot h) e σ) v;
      long = refl;
      short = omega arith;
    }

    pub line-added : (k : ℕ) (x : ℤ) (now new : Writer) → k < n → x ≡ get_or σ (s + k) (pos 0) → length (line_piece text labels (i + k) e x) ≤ 645
        → Adds (line_piece text labels (i + k) e x) now new → LinesLeft k now → LinesLeft (k + 1) new
    unfolding group_piece
    line-added k x now new h hx l v m = record {
      rest = λ u w.
          let first : i + (k + 1) ≡ suc (i + k) = omega arith in
          let slot : s + (k + 1) ≡ suc (s + k) = omega arith in
          let more : suc (n - (k + 1)) ≡ n - k = omega arith in
          let rest : group_piece text labels (i + (k + 1)) (n - (k + 1)) (s + (k + 1)) e σ ≡ group_piece text labels (suc (i + k)) (n - (k + 1)) (suc (s + k)) e σ =
          λ h. group_piece text labels (first h) (n - (k + 1)) (slot h) e σ in
          m.rest u
          (piece_is (ap (λ (left : ℕ). group_piece text labels (i + k) left (s + k) e σ) more)
          (both-added (piece_is (ap (line_piece text labels (i + k) e) hx) v) (piece_is rest w)));
      long = v.written.long ∙ m.long;
      short = omega (arith, v.written.end, l, m.short);
    }

    pub lines-added : (k : ℕ) (now : Writer) → n ≤ k → LinesLeft k now → Adds (group_piece text labels i n s e σ) old now
    unfolding group_piece
    lines-added k now h m =
        let none : n - k ≡ 0 = omega arith in
        m.rest now (piece_is (ap (λ (left : ℕ). group_piece text labels (i + k) left (s + k) e σ) (sym none)) (nothing_added now))
