-- Types, declarations, contents and given sets, read; and that no part is shorter than what stands behind it.
use mathlib.Core.Path.{◌≡◌, refl}
use mathlib.Core.Bool.{true, false, cond}
use mathlib.Core.List.{List, [], ◌∷◌}
use mathlib.Core.Option.{none, some}
use Prim.Native.Nat.{ℕ, zero, suc, ◌≤◌, ◌<◌}
use native.Mathlib.Omega.{arith}
use lib.ListN.{length}
use Rattle.lexical.specs.Kinds as kind
use Rattle.lexical.specs.Kinds.{Kind, is, lookup, code_of}
use Rattle.lexical.specs.Symbols.{Ending, no_ending, prime, query, shriek, fixed, kind_of_name}
use Rattle.form.specs.Tree.{Letters, Arrow, relation, partial, total, TypeForm, given_type, power_type, range_type, arrow_type, Declaration, Direction, inward, outward, Parameter, Given}
use Rattle.form.specs.Written.{Mark, a_variable, Written, bare, declared, arrow_kind, write_type, write_entries, write_elements, write_givens, write_declarations}
use Rattle.form.specs.Written.{ending_of, parameter_mark, inputs_after, outputs_after, write_parameters}
use Rattle.form.specs.Form.{kind_at}
use Rattle.form.specs.Parse.{got, arrow_of, parse_type, parse_entries, parse_elements, parse_givens, parse_declaration, parse_declarations, parse_parameters}
use Rattle.form.proofs.Takes.{symbols_in}
use Rattle.form.proofs.ParseSteps.{first_of, name-kind, reads-range}
use Rattle.form.proofs.ParsePredSteps.{range-starts}
use Rattle.form.proofs.ParseTerms.{range-fits}

-- how the kinds of type are told apart
name-no_power : (e : Ending) → is (kind_of_name e) kind.POWER ≡ false
unfolding is code_of
name-no_power no_ending = refl
name-no_power prime = refl
name-no_power query = refl
name-no_power shriek = refl

arrow-kind : (a : Arrow) → arrow_of (arrow_kind a) ≡ some a
unfolding arrow_of lookup is code_of
arrow-kind relation = refl
arrow-kind partial = refl
arrow-kind total = refl

power-is-power : is kind.POWER kind.POWER ≡ true
unfolding is code_of
power-is-power = refl

semicolon_no_arrow : arrow_of kind.semicolon ≡ none
unfolding arrow_of lookup is code_of
semicolon_no_arrow = refl

-- a type, before ;
pub type-fits : (t : TypeForm) (w : List Written) → length (symbols_in w) ≤ length (symbols_in (write_type t w))
unfolding write_type
type-fits (given_type g) w = omega arith
type-fits (power_type g) w = omega arith
type-fits (range_type r) w = range-fits r w
type-fits (arrow_type a g h) w = omega arith

reads_type : (t : TypeForm) (w : List Written) → parse_type (symbols_in (write_type t (bare kind.semicolon ∷ w))) ≡ got t (fixed kind.semicolon ∷ symbols_in w)
unfolding parse_type write_type kind_at
reads_type (given_type g) w = rw (parse_type, name-no_power g.ending, name-kind g.ending, semicolon_no_arrow)
reads_type (power_type g) w = rw (parse_type, power-is-power)
reads_type (range_type r) w = rw (parse_type, (range-starts r (bare kind.semicolon ∷ w)).2, (range-starts r (bare kind.semicolon ∷ w)).1, reads-range r (bare kind.semicolon ∷ w))
reads_type (arrow_type a g h) w = rw (parse_type, name-no_power g.ending, name-kind g.ending, arrow-kind a)

-- `name : type ;`
pub reads-declaration : (x : Letters) (e : Ending) (m : Mark) (t : TypeForm) (w : List Written)
    → parse_declaration (symbols_in (declared x e m ∷ bare kind.colon ∷ write_type t (bare kind.semicolon ∷ w))) ≡ got (record { declared = x; type = t }) (symbols_in w)
unfolding parse_declaration
reads-declaration x e m t w = rw (parse_declaration, reads_type t w)

-- `k NAME` again and again, before a symbol of another kind
pub entries_fit : (k : Kind) (m : ℕ → Mark) (n : ℕ) (xs : List Letters) (w : List Written) → length (symbols_in w) ≤ length (symbols_in (write_entries k m n xs w))
unfolding write_entries
entries_fit k m n [] w = omega arith
entries_fit k m n (x ∷ xs) w = omega (arith, entries_fit k m (suc n) xs w)

pub reads-entries : (k : Kind) (m : ℕ → Mark) (n f : ℕ) (xs : List Letters) (w : List Written) → is k k ≡ true → is (first_of (symbols_in w)) k ≡ false
    → length (symbols_in (write_entries k m n xs w)) ≤ f → parse_entries f k (symbols_in (write_entries k m n xs w)) ≡ got xs (symbols_in w)
unfolding parse_entries write_entries kind_at
reads-entries k m n zero [] w a e b = refl
reads-entries k m n (suc f) [] w a e b = rw (parse_entries, e)
reads-entries k m n zero (x ∷ xs) w a e b = absurd (omega arith)
reads-entries k m n (suc f) (x ∷ xs) w a e b = rw (parse_entries, a, reads-entries k m (suc n) f xs w a e (omega arith))

-- elements, up to `end`
elements-fit : (n : ℕ) (xs : List Letters) (w : List Written) → length (symbols_in w) ≤ length (symbols_in (write_elements n xs w))
unfolding write_elements
elements-fit n [] w = omega arith
elements-fit n (x ∷ xs) w = omega (arith, elements-fit (suc n) xs w)

reads-elements : (n f : ℕ) (xs : List Letters) (w : List Written) → length (symbols_in (write_elements n xs (bare kind.END ∷ w))) ≤ f
    → parse_elements f (symbols_in (write_elements n xs (bare kind.END ∷ w))) ≡ got xs (fixed kind.END ∷ symbols_in w)
unfolding parse_elements write_elements is code_of kind_at
reads-elements n zero [] w b = refl
reads-elements n (suc f) [] w b = refl
reads-elements n zero (x ∷ xs) w b = absurd (omega arith)
reads-elements n (suc f) (x ∷ xs) w b = rw (parse_elements, reads-elements (suc n) f xs w (omega arith))

-- `given NAME elements end` again and again, before a symbol of another kind
pub givens-fit : (n : ℕ) (gs : List Given) (w : List Written) → length (symbols_in w) ≤ length (symbols_in (write_givens n gs w))
unfolding write_givens
givens-fit n [] w = omega arith
givens-fit n (g ∷ gs) w =
    omega (arith, elements-fit 0 (g.first_element ∷ g.other_elements) (bare kind.END ∷ write_givens (suc n) gs w), givens-fit (suc n) gs w)

pub reads-givens : (n f : ℕ) (gs : List Given) (w : List Written) → is (first_of (symbols_in w)) kind.GIVEN ≡ false → length (symbols_in (write_givens n gs w)) ≤ f
    → parse_givens f (symbols_in (write_givens n gs w)) ≡ got gs (symbols_in w)
unfolding parse_givens write_givens write_elements is code_of kind_at
reads-givens n zero [] w e b = refl
reads-givens n (suc f) [] w e b = rw (parse_givens, e)
reads-givens n zero (g ∷ gs) w e b = absurd (omega arith)
reads-givens n (suc f) (g ∷ gs) w e b =
    let c : length (symbols_in (write_givens (suc n) gs w)) < length (symbols_in (write_elements 1 g.other_elements (bare kind.END ∷ write_givens (suc n) gs w)))
    = elements-fit 1 g.other_elements (bare kind.END ∷ write_givens (suc n) gs w) in
    rw (parse_givens, reads-elements 1 f g.other_elements (write_givens (suc n) gs w) (omega arith), reads-givens (suc n) f gs w e (omega arith))

-- declarations, before a symbol that is no name
pub declarations-fit : (n : ℕ) (ds : List Declaration) (w : List Written) → length (symbols_in w) ≤ length (symbols_in (write_declarations n ds w))
unfolding write_declarations
declarations-fit n [] w = omega arith
declarations-fit n (d ∷ ds) w = omega (arith, type-fits d.type (bare kind.semicolon ∷ write_declarations (suc n) ds w), declarations-fit (suc n) ds w)

pub reads-declarations : (n f : ℕ) (ds : List Declaration) (w : List Written) → is (first_of (symbols_in w)) kind.plain ≡ false
    → length (symbols_in (write_declarations n ds w)) ≤ f → parse_declarations f (symbols_in (write_declarations n ds w)) ≡ got ds (symbols_in w)
unfolding parse_declarations write_declarations is code_of kind_at
reads-declarations n zero [] w e b = refl
reads-declarations n (suc f) [] w e b = rw (parse_declarations, e)
reads-declarations n zero (d ∷ ds) w e b = absurd (omega arith)
reads-declarations n (suc f) (d ∷ ds) w e b =
    rw (
      parse_declarations,
      reads-declaration d.declared no_ending (a_variable (suc n)) d.type (write_declarations (suc n) ds w),
      reads-declarations (suc n) f ds w e (omega (arith, type-fits d.type (bare kind.semicolon ∷ write_declarations (suc n) ds w))),
    )

-- parameters, up to `abstract`
pub parameters-fit : (i o : ℕ) (xs : List Parameter) (w : List Written) → length (symbols_in w) ≤ length (symbols_in (write_parameters i o xs w))
unfolding write_parameters
parameters-fit i o [] w = omega arith
parameters-fit i o (x ∷ xs) w =
    let v : List Written = write_parameters (inputs_after x.direction i) (outputs_after x.direction o) xs w in
    omega (arith, type-fits x.declaration.type (bare kind.semicolon ∷ v), parameters-fit (inputs_after x.direction i) (outputs_after x.direction o) xs w)

-- a parameter begins with its own kind of name
parameter-kind : (a : Direction) → (is (kind_of_name (ending_of a)) kind.ABSTRACT ≡ false) × (cond (is (kind_of_name (ending_of a)) kind.input) inward outward ≡ a)
unfolding is code_of
parameter-kind inward = (refl, refl)
parameter-kind outward = (refl, refl)

abstract-is-abstract : is kind.ABSTRACT kind.ABSTRACT ≡ true
unfolding is code_of
abstract-is-abstract = refl

pub reads-parameters : (i o f : ℕ) (xs : List Parameter) (w : List Written) → length (symbols_in (write_parameters i o xs (bare kind.ABSTRACT ∷ w))) ≤ f
    → parse_parameters f (symbols_in (write_parameters i o xs (bare kind.ABSTRACT ∷ w))) ≡ got xs (fixed kind.ABSTRACT ∷ symbols_in w)
unfolding parse_parameters write_parameters kind_at
reads-parameters i o zero [] w b = refl
reads-parameters i o (suc f) [] w b = rw (parse_parameters, abstract-is-abstract)
reads-parameters i o zero (x ∷ xs) w b = absurd (omega arith)
reads-parameters i o (suc f) (x ∷ xs) w b =
    let v : List Written = write_parameters (inputs_after x.direction i) (outputs_after x.direction o) xs (bare kind.ABSTRACT ∷ w) in
    rw (
      parse_parameters,
      (parameter-kind x.direction).0,
      (parameter-kind x.direction).1,
      reads-declaration x.declaration.declared (ending_of x.direction) (parameter_mark x.direction i o) x.declaration.type v,
      reads-parameters (inputs_after x.direction i) (outputs_after x.direction o) f xs w (omega (arith, type-fits x.declaration.type (bare kind.semicolon ∷ v))),
    )
