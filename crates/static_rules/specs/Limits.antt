-- Document 01, numbers 12 and 13: bindings of carriers, and sizes of numbers.
use Rattle.std.specs.Prelude.{◌&&◌, List, [], ◌∷◌, ◌++◌, map, ℕ, suc, ◌+◌, ◌*◌, leb}
use Rattle.std.proofs.Math.Option.{Option, none, some}
use Rattle.form.specs.LexicalLists.{find, concat}
use Rattle.form.specs.LexicalSymbols.{Name}
use Rattle.form.specs.LexicalRefusals.{Fault, fault, unless, many_bindings, large_size}
use Rattle.form.specs.Tree.{End, Domain, given_set, range, Prefix, negate, size, dom, ran, Operator, plus, minus, union, without, times, inter, Division, quotient, remainder}
use Rattle.form.specs.Tree.{Term, number, name, group, prefix, binary, divided, listed, pairs, such, empty_set, empty_pairs, Items, only, also, Pairs, only_pair, also_pair}
use Rattle.form.specs.Tree.{Pred, truth, falsity, negation, paren, quantified, connected, compared, member, within, related, Operation, Dossier}
use Rattle.form.specs.Headings.{abstract_at, concrete_at, operations_at, operation_length}
use Rattle.static_rules.specs.Carriers.{Variable, count_of, largest, plain, same_name, range_carrier}
use Rattle.static_rules.specs.Scope.{Context, unprimed, inputs, outputs, contexts}
use Rattle.static_rules.specs.Names.{whole, end_length, range_length, domain_length}

-- how many bindings a group of variables has
unfoldable pub binding_count : List Variable → ℕ
binding_count [] = 1
binding_count (v ∷ vs) = count_of v.carrier * binding_count vs

-- 12. "Over 4,096 bindings of a state's carriers, over 64 of an operation's inputs or of its outputs; the heading."
unfoldable pub operation_bindings : Dossier → (i : ℕ) → List Operation → List Fault
operation_bindings d i [] = []
operation_bindings d i (o ∷ os) =
    unless (leb (binding_count (inputs d o)) 64 && leb (binding_count (outputs d o)) 64) (fault i many_bindings) ++ operation_bindings d (i + operation_length o) os

unfoldable pub binding_faults : Dossier → List Fault
binding_faults d =
    unless (leb (binding_count (unprimed d d.abstract)) 4096) (fault (abstract_at d) many_bindings)
    ++ unless (leb (binding_count (unprimed d d.concrete)) 4096) (fault (concrete_at d) many_bindings)
    ++ operation_bindings d (operations_at d) d.operations

-- a term: its size, all its faults, the number of the symbol behind it. The size of a term that is no number is not looked at
pub record Sized : Type 0 where
  pub bound : ℕ
  pub faults : List Fault
  pub next : ℕ

abbrev sized : ℕ → List Fault → ℕ → Sized
sized n fs i = record { bound = n; faults = fs; next = i }

abbrev name_size : Option (Name × ℕ) → ℕ
name_size none = 0
name_size (some x) = x.1

-- 13. "Size: a literal itself; a variable its largest absolute value; + and - the sum; * the product; div and prefix - the (left) operand's;
-- mod the divisor's absolute value; # 16."
abbrev pub operator_size : Operator → ℕ → ℕ → ℕ
operator_size plus a b = a + b
operator_size minus a b = a + b
operator_size times a b = a * b
operator_size union a b = 0
operator_size without a b = 0
operator_size inter a b = 0

abbrev pub prefix_size : Prefix → ℕ → ℕ
prefix_size negate a = a
prefix_size size a = 16
prefix_size dom a = 0
prefix_size ran a = 0

abbrev pub division_size : Division → ℕ → End → ℕ
division_size quotient a e = a
division_size remainder a e = e.magnitude

-- a name that is bound over a range: "a variable its largest absolute value"; over a given set it is no number
abbrev pub domain_size : Domain → ℕ
domain_size (given_set g) = 0
domain_size (range r) = largest (range_carrier r)

-- the names in reach with their sizes
abbrev pub Sizes : Type 0
Sizes = List (Name × ℕ)

unfoldable mutual
  pub size_term : Term → Sizes → (i : ℕ) → Sized
  size_term (number n) Γ i = sized n [] (suc i)
  size_term (name x) Γ i = sized (name_size (find (λ (y : Name × ℕ). same_name y.0 x) Γ)) [] (suc i)
  size_term (group t) Γ i = let a : Sized = size_term t Γ (suc i) in sized a.bound a.faults (suc a.next)
  size_term (prefix o t) Γ i = let a : Sized = size_term t Γ (suc i) in sized (prefix_size o a.bound) a.faults a.next
  size_term (binary o t u) Γ i =
      let a : Sized = size_term t Γ i in
      let b : Sized = size_term u Γ (suc a.next) in
      let n : ℕ = operator_size o a.bound b.bound in
      sized n (whole (leb n 2147483647) (fault a.next large_size) (a.faults ++ b.faults)) b.next
  size_term (divided o t e) Γ i = let a : Sized = size_term t Γ i in sized (division_size o a.bound e) a.faults (suc a.next + end_length e)
  size_term (listed ts) Γ i = let a : Sized = size_items ts Γ (suc i) in sized 0 a.faults (suc a.next)
  size_term (pairs ts) Γ i = let a : Sized = size_pairs ts Γ (suc i) in sized 0 a.faults (suc a.next)
  size_term (such x g p) Γ i = let a : Sized = size_pred p ((plain x, 0) ∷ Γ) (i + 5) in sized 0 a.faults (suc a.next)
  size_term (empty_set g) Γ i = sized 0 [] (i + 2)
  size_term (empty_pairs g h) Γ i = sized 0 [] (i + 3)

  pub size_items : Items → Sizes → (i : ℕ) → Sized
  size_items (only t) Γ i = size_term t Γ i
  size_items (also t ts) Γ i =
      let a : Sized = size_term t Γ i in
      let b : Sized = size_items ts Γ (suc a.next) in
      sized 0 (a.faults ++ b.faults) b.next

  pub size_pairs : Pairs → Sizes → (i : ℕ) → Sized
  size_pairs (only_pair t u) Γ i =
      let a : Sized = size_term t Γ i in
      let b : Sized = size_term u Γ (suc a.next) in
      sized 0 (a.faults ++ b.faults) b.next
  size_pairs (also_pair t u ts) Γ i =
      let a : Sized = size_term t Γ i in
      let b : Sized = size_term u Γ (suc a.next) in
      let c : Sized = size_pairs ts Γ (suc b.next) in
      sized 0 (a.faults ++ b.faults ++ c.faults) c.next

  pub size_pred : Pred → Sizes → (i : ℕ) → Sized
  size_pred truth Γ i = sized 0 [] (suc i)
  size_pred falsity Γ i = sized 0 [] (suc i)
  size_pred (negation p) Γ i = size_pred p Γ (suc i)
  size_pred (paren p) Γ i = let a : Sized = size_pred p Γ (suc i) in sized 0 a.faults (suc a.next)
  size_pred (quantified q x t p) Γ i =
      let a : Sized = size_pred p ((plain x, domain_size t) ∷ Γ) (i + 5 + domain_length t) in
      sized 0 a.faults (suc a.next)
  size_pred (connected o p q) Γ i =
      let a : Sized = size_pred p Γ i in
      let b : Sized = size_pred q Γ (suc a.next) in
      sized 0 (a.faults ++ b.faults) b.next
  size_pred (compared o t u) Γ i =
      let a : Sized = size_term t Γ i in
      let b : Sized = size_term u Γ (suc a.next) in
      sized 0 (a.faults ++ b.faults) b.next
  size_pred (member o t u) Γ i =
      let a : Sized = size_term t Γ i in
      let b : Sized = size_term u Γ (suc a.next) in
      sized 0 (a.faults ++ b.faults) b.next
  size_pred (within o t r) Γ i = let a : Sized = size_term t Γ i in sized 0 a.faults (suc a.next + range_length r)
  size_pred (related o t u v) Γ i =
      let a : Sized = size_term t Γ i in
      let b : Sized = size_term u Γ (suc a.next) in
      let c : Sized = size_term v Γ (suc b.next) in
      sized 0 (a.faults ++ b.faults ++ c.faults) c.next

unfoldable pub context_sizes : Context → List Fault
context_sizes c = (size_pred c.predicate (map (λ (v : Variable). (v.called, largest v.carrier)) c.scope.reach) c.at).faults

-- 13. "Size over 2,147,483,647; the operator."
unfoldable pub size_faults : Dossier → List Fault
size_faults d = concat (map context_sizes (contexts d))
