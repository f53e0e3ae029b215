-- Each state of the machine can be completed: what it has taken begins a dossier's symbols, whatever that dossier's grouping.
use mathlib.Core.Path.{◌≡◌, refl, ap, ◌∙◌, sym, subst}
use mathlib.Core.Bool.{Bool, true, false, true≢false}
use mathlib.Core.List.{List, [], ◌∷◌, ◌++◌}
use mathlib.Core.Option.{Option, none, some}
use Rattle.lexical.specs.Kinds as kind
use Rattle.lexical.specs.Kinds.{code_of, is, lookup}
use Rattle.lexical.specs.Symbols.{Name, no_ending, Symbol, fixed, kind_of}
use Rattle.form.specs.Tree as tree
use Rattle.form.specs.Tree.{Letters, State, Dossier}
use Rattle.form.specs.Written.{Mark, symbols_of}
use Rattle.form.specs.Machine.{Item, exact, a_declared, a_name, an_empty_rest, an_end, a_type, a_type_rest, a_domain, a_dossier, a_term, an_operand, a_term_rest, a_rel, a_mem, a_right, a_neg, a_num_rest}
use Rattle.form.specs.Machine.{a_brace, a_named, a_first, a_list, a_pairs, a_unary, a_paren, a_pred_rest, some_entries, some_op_entries, some_bodies, some_elements, some_declarations, some_operations, some_parameters}
use Rattle.form.specs.Machine.{Act, take, skip, stuck, act, Next, go, halt, does, step, passed, ends}
use Rattle.form.proofs.Takes.{initial, feed_on, feed}
use Rattle.form.proofs.Table.{Spelled, AllSpelled, carried, is_fixed, carries}
use Rattle.form.proofs.PlainSymbols.{Bodies, dossier-plain}
use Rattle.form.proofs.Fill.{Fill, Fills, print, Tail, PredTail, a_set, negated_term, goes_on, comparing, more_items, first, bound, inside}
use Rattle.form.proofs.Back.{Back, back}

-- what stands for an item, where it takes a spelled symbol
item_back : (γ : List Item) (i : Item) (s : Symbol) → Spelled s → Back γ i s (act i (kind_of s))
item_back γ i s h = let c = carries s h in subst (λ (x : Symbol). Back γ i x (act i (kind_of s))) c.1 (back γ i (kind_of s) c.0)

-- the same for a step of the whole state
abbrev StepBack : List Item → Symbol → Next → Type 0
StepBack γ s (go m ρ) = (h : Fills ρ) → (g : Fills γ) × (print γ g ≡ s ∷ print ρ h)
StepBack γ s halt = Unit {0}

step_back : (γ : List Item) (s : Symbol) → Spelled s → StepBack γ s (step γ (kind_of s))
unfolding step
step_back [] s q = tt
step_back (i ∷ γ) s q = on (act i (kind_of s)) (item_back γ i s q) (step γ (kind_of s)) (step_back γ s q)
  where
    pass : Back γ i s skip → (n : Next) → StepBack γ s n → StepBack (i ∷ γ) s n
    pass b (go m ρ) r = λ h. let g = r h in ((b.0, g.0), b.1 (print γ g.0) ∙ g.1)
    pass b halt r = tt

    on : (a : Act) → Back γ i s a → (n : Next) → StepBack γ s n → StepBack (i ∷ γ) s (does a γ n)
    on (take m ρ) b n r = b
    on skip b n r = pass b n r
    on stuck b n r = tt

abbrev FeedBack : List Item → List Symbol → Option (List Item) → Type 0
FeedBack γ u (some ρ) = (h : Fills ρ) → (g : Fills γ) × (print γ g ≡ u ++ print ρ h)
FeedBack γ u none = Unit {0}

-- and for many symbols
feed-back : (u : List Symbol) (γ : List Item) → AllSpelled u → FeedBack γ u (feed u γ)
feed-back [] γ q = λ h. (h, refl)
feed-back (s ∷ u) γ q = on (step γ (kind_of s)) (step_back γ s q.0) (feed u) (λ ρ. feed-back u ρ q.1)
  where
    next : (m : Mark) (δ : List Item) → StepBack γ s (go m δ) → (n : Option (List Item)) → FeedBack δ u n → FeedBack γ (s ∷ u) n
    next m δ b (some ρ) r = λ h. let g = r h in let f = b g.0 in (f.0, f.1 ∙ ap (λ (l : List Symbol). s ∷ l) g.1)
    next m δ b none r = tt

    on : (n : Next) → StepBack γ s n → (f : List Item → Option (List Item)) → ((δ : List Item) → FeedBack δ u (f δ)) → FeedBack γ (s ∷ u) (feed_on n f)
    on (go m δ) b f r = next m δ b (f δ) (r δ)
    on halt b f r = tt

-- a dossier's symbols, from what stands for the items expected after u
pub finished : (u : List Symbol) (γ : List Item) → AllSpelled u → feed u initial ≡ some γ → (h : Fills γ) → (d : Dossier) × (symbols_of d ≡ u ++ print γ h)
finished u γ q e h =
    let r : FeedBack initial u (some γ) = subst (FeedBack initial u) e (feed-back u initial q) in
    let g = r h in
    (g.0.0, dossier-plain g.0.0 ∙ g.1)

-- what may be passed over at the text's end needs no symbol
pub nothing_left : (γ : List Item) → ends γ ≡ true → (g : Fills γ) × (print γ g ≡ [])
unfolding ends is lookup code_of
nothing_left [] e = (tt, refl)
nothing_left (i ∷ γ) e = on (act i kind.WHERE) (back γ i kind.WHERE tt) (ends γ) (nothing_left γ) e
  where
    on : (a : Act) → Back γ i (fixed kind.WHERE) a → (b : Bool) → (b ≡ true → (g : Fills γ) × (print γ g ≡ [])) → passed a b ≡ true
        → (g : Fills (i ∷ γ)) × (print (i ∷ γ) g ≡ [])
    on (take m ρ) x b r q = absurd (true≢false (sym q))
    on skip x b r q = let g = r q in ((x.0, g.0), x.1 (print γ g.0) ∙ g.1)
    on stuck x b r q = absurd (true≢false (sym q))

-- a completion for each item: where it may follow a mark that opens it does not begin with a number, and after a name in a brace it begins with a colon
abbrev letters : Letters
letters = 120 ∷ []

abbrev any_name : Name
any_name = record { letters = letters; ending = no_ending }

abbrev any_carried : (a b : Bool) → carried a b
any_carried true b = tt
any_carried false true = 0
any_carried false false = letters

abbrev any_state : State
any_state = record { first_declaration = record { declared = letters; type = tree.given_type any_name }; other_declarations = []; predicate = tree.truth }

abbrev any_bodies : Bodies
any_bodies =
    record {
      givens = [];
      abstract = any_state;
      concrete = any_state;
      ainit = tree.truth;
      cinit = tree.truth;
      retrieve = tree.truth;
      operations = [];
    }

abbrev pub default : (i : Item) → Fill i
default (exact c) = any_carried (is_fixed c) (is c kind.number)
default (a_declared m) = letters
default a_name = any_name
default an_empty_rest = none
default an_end = record { negative = false; magnitude = 0 }
default a_type = tree.given_type any_name
default a_type_rest = none
default a_domain = tree.given_set any_name
default a_dossier =
    record {
      given_entries = [];
      operation_entries = [];
      givens = [];
      abstract = any_state;
      concrete = any_state;
      ainit = tree.truth;
      cinit = tree.truth;
      retrieve = tree.truth;
      operations = [];
    }
default (a_term d k) = tree.name any_name
default (an_operand d k) = tree.name any_name
default (a_term_rest d k) = Tail.nothing
default (a_rel d k) = comparing tree.equals (tree.name any_name)
default (a_mem d k) = (tree.is_in, tree.name any_name)
default (a_right d k) = a_set (tree.name any_name)
default (a_neg d k) = negated_term (tree.name any_name)
default (a_num_rest d k) = goes_on Tail.nothing
default (a_brace d k) = first (tree.name any_name) (more_items [])
default (a_named d k) = bound any_name tree.truth
default (a_first d k) = more_items []
default (a_list d k) = []
default (a_pairs d k) = []
default (a_unary d k) = tree.truth
default (a_paren d k) = inside tree.truth
default (a_pred_rest b c k) = PredTail.nothing
default (some_entries n) = ([], [], any_bodies)
default (some_op_entries n) = ([], any_bodies)
default (some_bodies n) = any_bodies
default (some_elements n) = []
default (some_declarations n) = []
default (some_operations n) = []
default (some_parameters i o) = []

-- a completion for each item of a state
abbrev pub defaults : (γ : List Item) → Fills γ
defaults [] = tt
defaults (i ∷ γ) = (default i, defaults γ)
