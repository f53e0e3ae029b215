-- Numbers 4, 5 and 6 computed: a machine that takes one symbol at a time, with what it still expects. It stands beside Form.
use Rattle.std.specs.Prelude.{Bool, true, false, cond, List, [], ◌∷◌, ◌++◌, ℕ, zero, suc}
use Rattle.std.proofs.Math.Option.{Option, none, some}
use Rattle.lexical.specs.Kinds as kind
use Rattle.lexical.specs.Kinds.{Kind, lookup}
use Rattle.lexical.specs.Symbols.{Symbol, kind_of}
use Rattle.refusals.specs.Refusals.{Refusal, no_dossier}
use Rattle.form.specs.Written.{Mark, unmarked, opens, binds, a_given, an_element, a_variable, an_input, an_output, an_operation}
use Rattle.form.specs.Form.{settled, kind_at}

-- d is the depth, k how many bound names are in reach, n how many came before; `a_pred_rest b c k` follows a predicate that began at depth b and stands at c
pub data Item : Type 0 where
  exact : Kind → Item
  a_declared : Mark → Item
  a_name an_empty_rest an_end a_type a_type_rest a_domain a_dossier : Item
  a_term an_operand a_term_rest a_rel a_mem a_right a_neg a_num_rest a_brace a_named a_first a_list a_pairs a_unary a_paren : (d k : ℕ) → Item
  a_pred_rest : (b c k : ℕ) → Item
  some_entries some_op_entries some_bodies some_elements some_declarations some_operations : (n : ℕ) → Item
  some_parameters : (i o : ℕ) → Item

-- what an item does with a symbol: takes it, with its mark, and expects these items next; is passed over; or neither
pub data Act : Type 0 where
  take : Mark → List Item → Act
  skip stuck : Act

abbrev pub then : List Item → Act
then γ = take unmarked γ

pub data Start : Type 0 where
  leaf prefixed bracket brace emptied nothing : Start

abbrev pub starts : List (Kind × Start)
starts = (kind.number, leaf) ∷ (kind.plain, leaf) ∷ (kind.primed, leaf) ∷ (kind.input, leaf) ∷ (kind.output, leaf) ∷ (kind.minus, prefixed) ∷ (kind.size, prefixed)
    ∷ (kind.DOM, prefixed) ∷ (kind.RAN, prefixed) ∷ (kind.open_bracket, bracket) ∷ (kind.open_brace, brace) ∷ (kind.EMPTY, emptied) ∷ []

abbrev pub from_start : (d k : ℕ) → List Item → Start → Act
from_start d k γ leaf = then γ
from_start d k γ prefixed = take (opens (suc d)) (an_operand (suc d) k ∷ γ)
from_start d k γ bracket = take (opens (suc d)) (a_term (suc d) k ∷ exact kind.close_bracket ∷ γ)
from_start d k γ brace = take (opens (suc d)) (a_brace (suc d) k ∷ γ)
from_start d k γ emptied = then (a_name ∷ an_empty_rest ∷ γ)
from_start d k γ nothing = stuck

unfoldable pub start_term : (d k : ℕ) → List Item → Kind → Act
start_term d k γ s = from_start d k γ (lookup starts nothing s)

-- an operator between terms, or `other`
unfoldable pub operate : (d k : ℕ) → List Item → Act → Kind → Act
operate d k γ other s =
    lookup ((kind.plus, then (a_term d k ∷ γ)) ∷ (kind.minus, then (a_term d k ∷ γ)) ∷ (kind.UNION, then (a_term d k ∷ γ)) ∷ (kind.MINUS, then (a_term d k ∷ γ))
    ∷ (kind.times, then (a_term d k ∷ γ)) ∷ (kind.INTER, then (a_term d k ∷ γ)) ∷ (kind.DIV, then (an_end ∷ a_term_rest d k ∷ γ))
    ∷ (kind.MOD, then (an_end ∷ a_term_rest d k ∷ γ)) ∷ []) other s

-- what a predicate begins with, and then γ
unfoldable pub start_pred : (d k : ℕ) → List Item → Kind → Act
start_pred d k γ s =
    lookup ((kind.TRUE, then γ) ∷ (kind.FALSE, then γ) ∷ (kind.NOT, take (opens (suc d)) (a_unary (suc d) k ∷ γ))
    ∷ (kind.open_paren, take (opens (suc d)) (a_paren (suc d) k ∷ γ)) ∷ []) (start_term d k (a_term_rest d k ∷ a_rel d k ∷ γ) s) s

abbrev pub quantified : (d k : ℕ) → Act
quantified d k =
    then (a_declared (binds (suc k)) ∷ exact kind.colon ∷ a_domain ∷ exact kind.spot ∷ a_unary d (suc k) ∷ a_pred_rest d d (suc k) ∷ exact kind.close_paren ∷ [])

-- any of the four kinds of name
unfoldable pub on_name : Act → Act → Kind → Act
on_name a b s = lookup ((kind.plain, a) ∷ (kind.primed, a) ∷ (kind.input, a) ∷ (kind.output, a) ∷ []) b s

-- name : type ;
abbrev typed : List Item → List Item
typed γ = exact kind.colon ∷ a_type ∷ exact kind.semicolon ∷ γ

-- a state's declarations and predicate; `where` and a predicate
abbrev condition : List Item → List Item
condition γ = a_unary 0 0 ∷ a_pred_rest 0 0 0 ∷ γ

abbrev a_state : List Item → List Item
a_state γ = a_declared (a_variable 1) ∷ typed (some_declarations 1 ∷ condition (exact kind.END ∷ γ))

abbrev conditions : Kind → List Item → List Item
conditions k γ = exact k ∷ exact kind.WHERE ∷ condition (exact kind.END ∷ γ)

abbrev parameter : (i o : ℕ) → List Item
parameter i o = typed (some_parameters i o ∷ [])

unfoldable pub act : Item → Kind → Act
act (exact c) s = lookup ((c, then []) ∷ []) stuck s
act (a_declared m) s = lookup ((kind.plain, take m []) ∷ []) stuck s
act a_name s = on_name (then []) stuck s
act an_empty_rest s = on_name (then []) skip s
act an_end s = lookup ((kind.number, then []) ∷ (kind.minus, then (exact kind.number ∷ [])) ∷ []) stuck s
act a_type s =
    lookup ((kind.number, then (exact kind.up_to ∷ an_end ∷ [])) ∷ (kind.minus, then (exact kind.number ∷ exact kind.up_to ∷ an_end ∷ [])) ∷ (kind.POWER, then (a_name ∷ [])) ∷ [])
    (on_name (then (a_type_rest ∷ [])) stuck s) s
act a_type_rest s = lookup ((kind.relation, then (a_name ∷ [])) ∷ (kind.partial, then (a_name ∷ [])) ∷ (kind.total, then (a_name ∷ [])) ∷ []) skip s
act a_domain s =
    lookup ((kind.number, then (exact kind.up_to ∷ an_end ∷ [])) ∷ (kind.minus, then (exact kind.number ∷ exact kind.up_to ∷ an_end ∷ [])) ∷ []) (on_name (then []) stuck s) s
act a_dossier s = lookup ((kind.CONTENTS, then (some_entries 0 ∷ [])) ∷ []) stuck s
act (a_term d k) s = start_term d k (a_term_rest d k ∷ []) s
act (an_operand d k) s = start_term d k [] s
act (a_term_rest d k) s = operate d k [] skip s
act (a_rel d k) s =
    lookup ((kind.equals, then (a_term d k ∷ [])) ∷ (kind.differs, then (a_term d k ∷ [])) ∷ (kind.less, then (a_term d k ∷ [])) ∷ (kind.at_most, then (a_term d k ∷ []))
    ∷ (kind.IN, then (a_right d k ∷ [])) ∷ (kind.NOTIN, then (a_right d k ∷ [])) ∷ (kind.maplet, then (a_term d k ∷ a_mem d k ∷ [])) ∷ []) stuck s
act (a_mem d k) s = lookup ((kind.IN, then (a_term d k ∷ [])) ∷ (kind.NOTIN, then (a_term d k ∷ [])) ∷ []) stuck s
act (a_right d k) s =
    lookup ((kind.number, then (a_num_rest d k ∷ [])) ∷ (kind.minus, take (opens (suc d)) (a_neg d k ∷ [])) ∷ []) (start_term d k (a_term_rest d k ∷ []) s) s
act (a_neg d k) s = lookup ((kind.number, then (a_num_rest d k ∷ [])) ∷ []) (start_term (suc d) k (a_term_rest d k ∷ []) s) s
act (a_num_rest d k) s = lookup ((kind.up_to, then (an_end ∷ [])) ∷ []) (operate d k [] skip s) s
act (a_brace d k) s = lookup ((kind.plain, take (binds (suc k)) (a_named d k ∷ [])) ∷ []) (start_term d k (a_term_rest d k ∷ a_first d k ∷ []) s) s
act (a_named d k) s =
    lookup ((kind.colon, then (a_name ∷ exact kind.bar ∷ a_unary d (suc k) ∷ a_pred_rest d d (suc k) ∷ exact kind.close_brace ∷ []))
    ∷ (kind.comma, then (a_term d k ∷ a_list d k ∷ [])) ∷ (kind.close_brace, then []) ∷ (kind.maplet, then (a_term d k ∷ a_pairs d k ∷ [])) ∷ [])
    (operate d k (a_first d k ∷ []) stuck s) s
act (a_first d k) s =
    lookup ((kind.comma, then (a_term d k ∷ a_list d k ∷ [])) ∷ (kind.close_brace, then []) ∷ (kind.maplet, then (a_term d k ∷ a_pairs d k ∷ [])) ∷ []) stuck s
act (a_list d k) s = lookup ((kind.comma, then (a_term d k ∷ a_list d k ∷ [])) ∷ (kind.close_brace, then []) ∷ []) stuck s
act (a_pairs d k) s = lookup ((kind.comma, then (a_term d k ∷ exact kind.maplet ∷ a_term d k ∷ a_pairs d k ∷ [])) ∷ (kind.close_brace, then []) ∷ []) stuck s
act (a_unary d k) s = start_pred d k [] s
act (a_paren d k) s =
    lookup ((kind.FORALL, quantified d k) ∷ (kind.EXISTS, quantified d k) ∷ (kind.EXISTS1, quantified d k) ∷ [])
    (start_pred d k (a_pred_rest d d k ∷ exact kind.close_paren ∷ []) s) s
act (a_pred_rest b c k) s =
    lookup ((kind.AND, then (a_unary c k ∷ a_pred_rest b c k ∷ [])) ∷ (kind.OR, then (a_unary c k ∷ a_pred_rest b c k ∷ []))
    ∷ (kind.implies, take (opens (suc c)) (a_unary (suc c) k ∷ a_pred_rest b (suc c) k ∷ [])) ∷ (kind.iff, then (a_unary b k ∷ a_pred_rest b b k ∷ [])) ∷ []) skip s
act (some_entries n) s =
    lookup ((kind.GIVEN, then (a_declared (a_given (suc n)) ∷ some_entries (suc n) ∷ []))
    ∷ (kind.ABSTRACT, then (exact kind.CONCRETE ∷ exact kind.AINIT ∷ exact kind.CINIT ∷ exact kind.RETRIEVE ∷ some_op_entries 0 ∷ [])) ∷ []) stuck s
act (some_op_entries n) s =
    lookup ((kind.OP, then (a_declared (an_operation (suc n)) ∷ some_op_entries (suc n) ∷ [])) ∷ (kind.END, then (some_bodies 0 ∷ [])) ∷ []) stuck s
act (some_bodies n) s =
    lookup ((kind.GIVEN, then (a_declared (a_given (suc n)) ∷ a_declared (an_element 1) ∷ some_elements 1 ∷ some_bodies (suc n) ∷ []))
    ∷ (kind.ABSTRACT, then (a_state (exact kind.CONCRETE ∷ a_state (conditions kind.AINIT (conditions kind.CINIT (conditions kind.RETRIEVE (some_operations 0 ∷ []))))))) ∷ []) stuck s
act (some_elements n) s = lookup ((kind.plain, take (an_element (suc n)) (some_elements (suc n) ∷ [])) ∷ (kind.END, then []) ∷ []) stuck s
act (some_declarations n) s = lookup ((kind.plain, take (a_variable (suc n)) (typed (some_declarations (suc n) ∷ []))) ∷ (kind.WHERE, then []) ∷ []) stuck s
act (some_operations n) s =
    lookup ((
      kind.OP,
      then (a_declared (an_operation (suc n)) ∷ some_parameters 0 0
          ∷ condition (exact kind.CONCRETE ∷ condition (exact kind.END ∷ some_operations (suc n) ∷ []))),
    ) ∷ []) skip s
act (some_parameters i o) s =
    lookup ((kind.input, take (an_input (suc i)) (parameter (suc i) o)) ∷ (kind.output, take (an_output (suc o)) (parameter i (suc o))) ∷ (kind.ABSTRACT, then []) ∷ []) stuck s

pub data Next : Type 0 where
  go : Mark → List Item → Next
  halt : Next

abbrev pub does : Act → List Item → Next → Next
does (take m ρ) γ r = go m (ρ ++ γ)
does skip γ r = r
does stuck γ r = halt

unfoldable pub step : List Item → Kind → Next
step [] s = halt
step (i ∷ γ) s = let r : Next = step γ s in does (act i s) γ r

-- an item that may be passed over at the text's end: it passes over `where`, which begins nothing that may be left out
abbrev pub passed : Act → Bool → Bool
passed (take m ρ) r = false
passed skip r = r
passed stuck r = false

unfoldable pub ends : List Item → Bool
ends [] = true
ends (i ∷ γ) = passed (act i kind.WHERE) (ends γ)

pub data Run : Type 0 where
  complete : Run
  failed : (i : ℕ) → Refusal → Run

-- goes on with f, unless the symbol i opens or counts too much; or cannot be taken
abbrev pub unless_over : Option Refusal → (i : ℕ) → (List Item → Run) → List Item → Run
unless_over none i f ρ = f ρ
unless_over (some r) i f ρ = failed i r

abbrev pub onward : Next → (Mark → Option Refusal) → (i : ℕ) → (List Item → Run) → Run
onward (go m ρ) over i f = unless_over (over m) i f ρ
onward halt over i f = failed i no_dossier

-- from the symbol i on, which stands behind one of the kind k
unfoldable pub run_from : List Symbol → (k : Kind) (i : ℕ) → List Item → Run
run_from [] k i γ = cond (ends γ) complete (failed i no_dossier)
run_from (s ∷ w) k i γ = onward (step γ (kind_of s)) (settled k (kind_of s) w) i (run_from w (kind_of s) (suc i))

unfoldable pub run : List Symbol → Run
run w = run_from w kind.END 0 (a_dossier ∷ [])

-- the kind of the symbol before j, where the first one stands behind k
abbrev pub kind_before : Kind → List Symbol → ℕ → Kind
kind_before k w zero = k
kind_before k w (suc j) = kind_at w j
