-- A mark of the machine that opens is followed, in the completion by defaults, by no number, and one that binds by a colon.
use mathlib.Core.Path.{◌≡◌, refl, ◌∙◌, sym}
use mathlib.Core.Bool.{Bool, true, false, not, ◌&&◌, true≢false}
use mathlib.Core.List.{List, [], ◌∷◌, ◌++◌}
use mathlib.Core.Option.{Option, none, some}
use Prim.Native.Nat.{ℕ, suc}
use Rattle.lexical.specs.Kinds as kind
use Rattle.lexical.specs.Kinds.{Kind, code_of, is, lookup}
use Rattle.lexical.specs.Symbols.{Symbol, kind_of}
use Rattle.form.specs.Written.{Mark, unmarked, opens, binds, a_given, an_element, a_variable, an_input, an_output, an_operation}
use Rattle.form.specs.Form.{kind_at}
use Rattle.form.specs.Machine.{Item, exact, a_declared, a_name, an_empty_rest, an_end, a_type, a_type_rest, a_domain, a_dossier, a_term, an_operand, a_term_rest, a_rel, a_mem, a_right, a_neg, a_num_rest}
use Rattle.form.specs.Machine.{a_brace, a_named, a_first, a_list, a_pairs, a_unary, a_paren, a_pred_rest, some_entries, some_op_entries, some_bodies, some_elements, some_declarations, some_operations, some_parameters}
use Rattle.form.specs.Machine.{Act, take, skip, stuck, starts, from_start, start_term, operate, start_pred, on_name, act, Start, Next, go, halt, does, step}
use Rattle.form.proofs.Takes.{feed_on, feed}
use Rattle.form.proofs.Table.{Each, by-table}
use Rattle.form.proofs.PlainSymbols.{plain_term}
use Rattle.form.proofs.Fill.{print}
use Rattle.form.proofs.Complete.{defaults}

-- the first kind of the completion by defaults
abbrev pub first_kind : List Item → Kind
first_kind γ = kind_at (print γ (defaults γ)) 0

-- the items γ may follow a mark
abbrev pub follows : Mark → List Item → Bool
follows unmarked γ = true
follows (opens n) γ = not (is (first_kind γ) kind.number)
follows (binds n) γ = is (first_kind γ) kind.colon
follows (a_given n) γ = true
follows (an_element n) γ = true
follows (a_variable n) γ = true
follows (an_input n) γ = true
follows (an_output n) γ = true
follows (an_operation n) γ = true

-- the items γ may follow an item: a declared name takes its mark from there
abbrev goes_before : Item → List Item → Bool
goes_before (exact c) γ = true
goes_before (a_declared m) γ = follows m γ
goes_before a_name γ = true
goes_before an_empty_rest γ = true
goes_before an_end γ = true
goes_before a_type γ = true
goes_before a_type_rest γ = true
goes_before a_domain γ = true
goes_before a_dossier γ = true
goes_before (a_term d k) γ = true
goes_before (an_operand d k) γ = true
goes_before (a_term_rest d k) γ = true
goes_before (a_rel d k) γ = true
goes_before (a_mem d k) γ = true
goes_before (a_right d k) γ = true
goes_before (a_neg d k) γ = true
goes_before (a_num_rest d k) γ = true
goes_before (a_brace d k) γ = true
goes_before (a_named d k) γ = true
goes_before (a_first d k) γ = true
goes_before (a_list d k) γ = true
goes_before (a_pairs d k) γ = true
goes_before (a_unary d k) γ = true
goes_before (a_paren d k) γ = true
goes_before (a_pred_rest b c k) γ = true
goes_before (some_entries n) γ = true
goes_before (some_op_entries n) γ = true
goes_before (some_bodies n) γ = true
goes_before (some_elements n) γ = true
goes_before (some_declarations n) γ = true
goes_before (some_operations n) γ = true
goes_before (some_parameters i o) γ = true

-- a state in which each item goes before those behind it
abbrev pub steady : List Item → Bool
steady [] = true
steady (i ∷ γ) = goes_before i γ && steady γ

-- an act of an item before γ keeps the state steady, and its mark is followed as it may be
abbrev Keeps : Item → List Item → Act → Type 0
Keeps i γ (take m ρ) = follows m (ρ ++ γ) && steady (ρ ++ γ) ≡ steady (i ∷ γ)
Keeps i γ skip = Unit {0}
Keeps i γ stuck = Unit {0}

-- each entry of a table
keeps-table : (i : Item) (γ : List Item) (table : List (Kind × Act)) (d : Act) (s : Kind)
    → Each (λ (j : Kind) (a : Act). Keeps i γ a) table → Keeps i γ d → Keeps i γ (lookup table d s)
keeps-table i γ table d s h p = by-table (λ (j : Kind) (a : Act). Keeps i γ a) table d s h p

-- the tables that terms, operators, predicates and names begin with
keeps-term : (i : Item) (γ ρ : List Item) → steady (ρ ++ γ) ≡ steady (i ∷ γ) → (d k : ℕ) (s : Kind) → Keeps i γ (start_term d k ρ s)
unfolding start_term is code_of kind_at plain_term
keeps-term i γ ρ h d k s =
    by-table (λ (j : Kind) (v : Start). Keeps i γ (from_start d k ρ v)) starts Start.nothing s (h, (h, (h, (h, (h, (h, (h, (h, (h, (h, (h, (h, tt)))))))))))) tt

keeps-operate : (i : Item) (γ ρ : List Item) → steady (ρ ++ γ) ≡ steady (i ∷ γ) → (d k : ℕ) (other : Act) (s : Kind) → Keeps i γ other → Keeps i γ (operate d k ρ other s)
unfolding operate
keeps-operate i γ ρ h d k other s p = keeps-table i γ _ other s (h, (h, (h, (h, (h, (h, (h, (h, tt)))))))) p

keeps_pred : (i : Item) (γ ρ : List Item) → steady (ρ ++ γ) ≡ steady (i ∷ γ) → (d k : ℕ) (s : Kind) → Keeps i γ (start_pred d k ρ s)
unfolding start_pred is code_of kind_at plain_term
keeps_pred i γ ρ h d k s = keeps-table i γ _ _ s (h, (h, (h, (h, tt)))) (keeps-term i γ (a_term_rest d k ∷ a_rel d k ∷ ρ) h d k s)

keeps-name : (i : Item) (γ : List Item) (a b : Act) (s : Kind) → Keeps i γ a → Keeps i γ b → Keeps i γ (on_name a b s)
unfolding on_name
keeps-name i γ a b s p q = keeps-table i γ _ b s (p, (p, (p, (p, tt)))) q

-- every item at every kind
keeps : (i : Item) (γ : List Item) (s : Kind) → Keeps i γ (act i s)
unfolding act is code_of kind_at plain_term
keeps (exact c) γ s = keeps-table (exact c) γ _ _ s (refl, tt) tt
keeps (a_declared m) γ s = keeps-table (a_declared m) γ _ _ s (refl, tt) tt
keeps a_name γ s = keeps-name a_name γ _ _ s refl tt
keeps an_empty_rest γ s = keeps-name an_empty_rest γ _ _ s refl tt
keeps an_end γ s = keeps-table an_end γ _ _ s (refl, (refl, tt)) tt
keeps a_type γ s = keeps-table a_type γ _ _ s (refl, (refl, (refl, tt))) (keeps-name a_type γ _ _ s refl tt)
keeps a_type_rest γ s = keeps-table a_type_rest γ _ _ s (refl, (refl, (refl, tt))) tt
keeps a_domain γ s = keeps-table a_domain γ _ _ s (refl, (refl, tt)) (keeps-name a_domain γ _ _ s refl tt)
keeps a_dossier γ s = keeps-table a_dossier γ _ _ s (refl, tt) tt
keeps (a_term d k) γ s = keeps-term (a_term d k) γ _ refl d k s
keeps (an_operand d k) γ s = keeps-term (an_operand d k) γ _ refl d k s
keeps (a_term_rest d k) γ s = keeps-operate (a_term_rest d k) γ _ refl d k skip s tt
keeps (a_rel d k) γ s = keeps-table (a_rel d k) γ _ _ s (refl, (refl, (refl, (refl, (refl, (refl, (refl, tt))))))) tt
keeps (a_mem d k) γ s = keeps-table (a_mem d k) γ _ _ s (refl, (refl, tt)) tt
keeps (a_right d k) γ s = keeps-table (a_right d k) γ _ _ s (refl, (refl, tt)) (keeps-term (a_right d k) γ _ refl d k s)
keeps (a_neg d k) γ s = keeps-table (a_neg d k) γ _ _ s (refl, tt) (keeps-term (a_neg d k) γ _ refl (suc d) k s)
keeps (a_num_rest d k) γ s = keeps-table (a_num_rest d k) γ _ _ s (refl, tt) (keeps-operate (a_num_rest d k) γ _ refl d k skip s tt)
keeps (a_brace d k) γ s = keeps-table (a_brace d k) γ _ _ s (refl, tt) (keeps-term (a_brace d k) γ _ refl d k s)
keeps (a_named d k) γ s = keeps-table (a_named d k) γ _ _ s (refl, (refl, (refl, (refl, tt)))) (keeps-operate (a_named d k) γ _ refl d k stuck s tt)
keeps (a_first d k) γ s = keeps-table (a_first d k) γ _ _ s (refl, (refl, (refl, tt))) tt
keeps (a_list d k) γ s = keeps-table (a_list d k) γ _ _ s (refl, (refl, tt)) tt
keeps (a_pairs d k) γ s = keeps-table (a_pairs d k) γ _ _ s (refl, (refl, tt)) tt
keeps (a_unary d k) γ s = keeps_pred (a_unary d k) γ _ refl d k s
keeps (a_paren d k) γ s = keeps-table (a_paren d k) γ _ _ s (refl, (refl, (refl, tt))) (keeps_pred (a_paren d k) γ _ refl d k s)
keeps (a_pred_rest b c k) γ s = keeps-table (a_pred_rest b c k) γ _ _ s (refl, (refl, (refl, (refl, tt)))) tt
keeps (some_entries n) γ s = keeps-table (some_entries n) γ _ _ s (refl, (refl, tt)) tt
keeps (some_op_entries n) γ s = keeps-table (some_op_entries n) γ _ _ s (refl, (refl, tt)) tt
keeps (some_bodies n) γ s = keeps-table (some_bodies n) γ _ _ s (refl, (refl, tt)) tt
keeps (some_elements n) γ s = keeps-table (some_elements n) γ _ _ s (refl, (refl, tt)) tt
keeps (some_declarations n) γ s = keeps-table (some_declarations n) γ _ _ s (refl, (refl, tt)) tt
keeps (some_operations n) γ s = keeps-table (some_operations n) γ _ _ s (refl, tt) tt
keeps (some_parameters i o) γ s = keeps-table (some_parameters i o) γ _ _ s (refl, (refl, (refl, tt))) tt

-- both of two tests
pub both : (a b : Bool) → a && b ≡ true → (a ≡ true) × (b ≡ true)
both true b e = (refl, e)
both false b e = absurd (true≢false (sym e))

-- a step from a steady state: its mark is followed as it may be, and the state is steady again
abbrev pub Onward : Next → Type 0
Onward (go m ρ) = follows m ρ && steady ρ ≡ true
Onward halt = Unit {0}

pub step-steady : (γ : List Item) (s : Kind) → steady γ ≡ true → Onward (step γ s)
unfolding step
step-steady [] s h = tt
step-steady (i ∷ γ) s h = on (act i s) (keeps i γ s) (step-steady γ s (both (goes_before i γ) (steady γ) h).1)
  where
    on : (a : Act) → Keeps i γ a → Onward (step γ s) → Onward (does a γ (step γ s))
    on (take m ρ) k r = k ∙ h
    on skip k r = r
    on stuck k r = tt

abbrev pub SteadyAfter : Option (List Item) → Type 0
SteadyAfter (some ρ) = steady ρ ≡ true
SteadyAfter none = Unit {0}

-- what is expected after any symbols is steady
pub feed-steady : (u : List Symbol) (γ : List Item) → steady γ ≡ true → SteadyAfter (feed u γ)
feed-steady [] γ h = h
feed-steady (s ∷ u) γ h = on (step γ (kind_of s)) (step-steady γ (kind_of s) h) (feed u) (feed-steady u)
  where
    on : (n : Next) → Onward n → (f : List Item → Option (List Item)) → ((δ : List Item) → steady δ ≡ true → SteadyAfter (f δ)) → SteadyAfter (feed_on n f)
    on (go m ρ) o f r = r ρ (both (follows m ρ) (steady ρ) o).1
    on halt o f r = tt
