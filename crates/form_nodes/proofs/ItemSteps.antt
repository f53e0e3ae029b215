-- What the machine's items do at a symbol, by the class that the code tells.
use mathlib.Core.Path.{◌≡◌, refl, ap, ◌∙◌, sym}
use mathlib.Core.Bool.{Bool, true, false}
use mathlib.Core.List.{List, [], ◌∷◌}
use Prim.Native.Nat.{ℕ, zero, suc, ◌≤◌, ◌<◌}
use native.Mathlib.Omega.{arith}
use borrow.Author.Tests.{eq-eqb}
use Rattle.lexical.specs.Kinds as kind
use Rattle.lexical.specs.Kinds.{Kind, code_of, is, lookup}
use Rattle.form.specs.Written.{unmarked, opens}
use Rattle.form.specs.Machine.{Item, exact, a_name, an_empty_rest, an_end, a_domain, a_term, a_term_rest, a_rel, a_mem, a_right, a_unary, a_paren, a_pred_rest}
use Rattle.form.specs.Machine.{Act, take, skip, stuck, then, start_term, operate, start_pred, on_name, act, go, halt, does, step, passed, ends}
use Rattle.form_nodes.specs.FormPromises.{operators, connectives, pred_starts, relations, memberships, names}
use Rattle.form_nodes.proofs.Classes.{lookup-miss, by-table-or}
use Rattle.form.proofs.Table.{◌&◌}

-- one entry
at_entry : {A : Type 0} (j : Kind) (a d : A) (κ : Kind) → code_of κ ≡ code_of j → lookup ((j, a) ∷ []) d κ ≡ a
unfolding lookup is
at_entry {A} j a d κ q = ap (λ (b : Bool). elim b as (λ (x : Bool). A) [ true ↦ a | false ↦ d ]) (eq-eqb (code_of κ) (code_of j) q)

-- a state that begins with the item i, by what that item does
pub by-act : (i : Item) (γ : List Item) (κ : Kind) (a : Act) → act i κ ≡ a → step (i ∷ γ) κ ≡ does a γ (step γ κ)
unfolding step
by-act i γ κ a q = ap (λ (x : Act). does x γ (step γ κ)) q

pub exact-takes : (j κ : Kind) (γ : List Item) → code_of κ ≡ code_of j → step (exact j ∷ γ) κ ≡ go unmarked γ
unfolding act
exact-takes j κ γ q = by-act (exact j) γ κ (then []) (at_entry j (then []) stuck κ q)

pub exact-stops : (j κ : Kind) (γ : List Item) → (code_of κ ≡ code_of j → ⊥) → step (exact j ∷ γ) κ ≡ halt
unfolding act
exact-stops j κ γ f = by-act (exact j) γ κ stuck (lookup-miss ((j, then []) ∷ []) stuck κ (f, tt))

pub exact-ends : (j : Kind) (γ : List Item) → ends (exact j ∷ γ) ≡ false
unfolding ends act lookup
exact-ends j γ = on (is kind.WHERE j)
  where
    on : (b : Bool) → passed (elim b as (λ (x : Bool). Act) [ true ↦ then [] | false ↦ stuck ]) (ends γ) ≡ false
    on true = refl
    on false = refl

-- two tables with the same first entry
pub first_entry : {A : Type 0} (e : Kind × A) (t u : List (Kind × A)) (c d : A) (κ : Kind) → lookup t c κ ≡ lookup u d κ → lookup (e ∷ t) c κ ≡ lookup (e ∷ u) d κ
unfolding lookup
first_entry {A} e t u c d κ q = ap (λ (x : A). elim (is κ e.0) as (λ (b : Bool). A) [ true ↦ e.1 | false ↦ x ]) q

-- a number without -
pub end-unsigned : (κ : Kind) (γ : List Item) → (code_of κ ≡ code_of kind.minus → ⊥) → step (an_end ∷ γ) κ ≡ step (exact kind.number ∷ γ) κ
unfolding act step lookup
end-unsigned κ γ f =
    ap (λ (a : Act). does a γ (step γ κ))
    (first_entry (kind.number, then []) ((kind.minus, then (exact kind.number ∷ [])) ∷ []) [] stuck stuck κ
    (lookup-miss ((kind.minus, then (exact kind.number ∷ [])) ∷ []) stuck κ (f, tt)))

-- what an item does, by the class of the symbol's kind
abbrev pub mapped : (ℕ → Act) → List (Kind × ℕ) → List (Kind × Act)
mapped f [] = []
mapped f (e ∷ t) = (e.0, f e.1) ∷ mapped f t

pub lookup-mapped : (f : ℕ → Act) (t : List (Kind × ℕ)) (κ : Kind) → lookup (mapped f t) (f 0) κ ≡ f (lookup t 0 κ)
unfolding lookup
lookup-mapped f [] κ = refl
lookup-mapped f (e ∷ t) κ = on (is κ e.0) (lookup-mapped f t κ)
  where
    on : (b : Bool) → lookup (mapped f t) (f 0) κ ≡ f (lookup t 0 κ)
        → elim b as (λ (x : Bool). Act) [ true ↦ f e.1 | false ↦ lookup (mapped f t) (f 0) κ ] ≡ f (elim b as (λ (x : Bool). ℕ) [ true ↦ e.1 | false ↦ lookup t 0 κ ])
    on true q = refl
    on false q = q

abbrev pub at_operator : (d b : ℕ) → List Item → Act → ℕ → Act
at_operator d b γ other zero = other
at_operator d b γ other (suc zero) = then (a_term d b ∷ γ)
at_operator d b γ other (suc (suc zero)) = then (a_term d b ∷ γ)
at_operator d b γ other (suc (suc (suc n))) = then (an_end ∷ a_term_rest d b ∷ γ)

pub operating : (d b : ℕ) (γ : List Item) (other : Act) (κ : Kind) → operate d b γ other κ ≡ at_operator d b γ other (lookup operators 0 κ)
unfolding operate
operating d b γ other κ = lookup-mapped (at_operator d b γ other) operators κ

pub rest-step : (d b : ℕ) (κ : Kind) (γ : List Item) {c : ℕ} → lookup operators 0 κ ≡ c → step (a_term_rest d b ∷ γ) κ ≡ does (at_operator d b [] skip c) γ (step γ κ)
unfolding act
rest-step d b κ γ q = by-act (a_term_rest d b) γ κ _ (operating d b [] skip κ ∙ ap (at_operator d b [] skip) q)

pub binary : (d b c : ℕ) (γ : List Item) (other : Act) → 1 ≤ c → c < 3 → at_operator d b γ other c ≡ then (a_term d b ∷ γ)
binary d b zero γ other l h = absurd (omega arith)
binary d b (suc zero) γ other l h = refl
binary d b (suc (suc zero)) γ other l h = refl
binary d b (suc (suc (suc c))) γ other l h = absurd (omega arith)

pub division : (d b c : ℕ) (γ : List Item) (other : Act) → 3 ≤ c → at_operator d b γ other c ≡ then (an_end ∷ a_term_rest d b ∷ γ)
division d b zero γ other l = absurd (omega arith)
division d b (suc zero) γ other l = absurd (omega arith)
division d b (suc (suc zero)) γ other l = absurd (omega arith)
division d b (suc (suc (suc c))) γ other l = refl

abbrev pub at_connective : (base d b : ℕ) → ℕ → Act
at_connective base d b zero = skip
at_connective base d b (suc zero) = then (a_unary base b ∷ a_pred_rest base base b ∷ [])
at_connective base d b (suc (suc zero)) = take (opens (suc d)) (a_unary (suc d) b ∷ a_pred_rest base (suc d) b ∷ [])
at_connective base d b (suc (suc (suc n))) = then (a_unary d b ∷ a_pred_rest base d b ∷ [])

pub pred-rest-step : (base d b : ℕ) (κ : Kind) (γ : List Item) {c : ℕ} → lookup connectives 0 κ ≡ c
    → step (a_pred_rest base d b ∷ γ) κ ≡ does (at_connective base d b c) γ (step γ κ)
unfolding act
pred-rest-step base d b κ γ q = by-act (a_pred_rest base d b) γ κ _ (lookup-mapped (at_connective base d b) connectives κ ∙ ap (at_connective base d b) q)

-- a connective other than => goes on at its depth, <=> where the predicate began there
pub connecting : (base d b c : ℕ) → 1 ≤ c → (c ≡ 2 → ⊥) → (c ≡ 1 → base ≡ d) → at_connective base d b c ≡ then (a_unary d b ∷ a_pred_rest base d b ∷ [])
connecting base d b zero l n e = absurd (omega arith)
connecting base d b (suc zero) l n e = ap (λ (x : ℕ). then (a_unary x b ∷ a_pred_rest base x b ∷ [])) (e refl)
connecting base d b (suc (suc zero)) l n e = absurd (n refl)
connecting base d b (suc (suc (suc c))) l n e = refl

-- below => the depth plays no part
pub any-depth : (base d e b c : ℕ) → c < 2 → at_connective base d b c ≡ at_connective base e b c
any-depth base d e b zero h = refl
any-depth base d e b (suc zero) h = refl
any-depth base d e b (suc (suc c)) h = absurd (omega arith)

abbrev pub at_pred_start : (d b : ℕ) → List Item → Act → ℕ → Act
at_pred_start d b γ other zero = other
at_pred_start d b γ other (suc zero) = then γ
at_pred_start d b γ other (suc (suc zero)) = take (opens (suc d)) (a_unary (suc d) b ∷ γ)
at_pred_start d b γ other (suc (suc (suc n))) = take (opens (suc d)) (a_paren (suc d) b ∷ γ)

pub pred_starting : (d b : ℕ) (γ : List Item) (κ : Kind)
    → start_pred d b γ κ ≡ at_pred_start d b γ (start_term d b (a_term_rest d b ∷ a_rel d b ∷ γ) κ) (lookup pred_starts 0 κ)
unfolding start_pred
pred_starting d b γ κ = lookup-mapped (at_pred_start d b γ (start_term d b (a_term_rest d b ∷ a_rel d b ∷ γ) κ)) pred_starts κ

pub unary-step : (d b : ℕ) (κ : Kind) (γ : List Item) {c : ℕ} → lookup pred_starts 0 κ ≡ c
    → step (a_unary d b ∷ γ) κ ≡ does (at_pred_start d b [] (start_term d b (a_term_rest d b ∷ a_rel d b ∷ []) κ) c) γ (step γ κ)
unfolding act
unary-step d b κ γ q = by-act (a_unary d b) γ κ _ (pred_starting d b [] κ ∙ ap (at_pred_start d b [] (start_term d b (a_term_rest d b ∷ a_rel d b ∷ []) κ)) q)

abbrev pub at_relation : (d b : ℕ) → ℕ → Act
at_relation d b zero = stuck
at_relation d b (suc zero) = then (a_term d b ∷ [])
at_relation d b (suc (suc zero)) = then (a_right d b ∷ [])
at_relation d b (suc (suc (suc n))) = then (a_term d b ∷ a_mem d b ∷ [])

pub rel-step : (d b : ℕ) (κ : Kind) (γ : List Item) {c : ℕ} → lookup relations 0 κ ≡ c → step (a_rel d b ∷ γ) κ ≡ does (at_relation d b c) γ (step γ κ)
unfolding act
rel-step d b κ γ q = by-act (a_rel d b) γ κ _ (lookup-mapped (at_relation d b) relations κ ∙ ap (at_relation d b) q)

abbrev pub either : Act → Act → ℕ → Act
either a b zero = b
either a b (suc n) = a

pub mem-step : (d b : ℕ) (κ : Kind) (γ : List Item) {c : ℕ} → lookup memberships 0 κ ≡ c → step (a_mem d b ∷ γ) κ ≡ does (either (then (a_term d b ∷ [])) stuck c) γ (step γ κ)
unfolding act
mem-step d b κ γ q =
    by-act (a_mem d b) γ κ _ (lookup-mapped (either (then (a_term d b ∷ [])) stuck) memberships κ ∙ ap (either (then (a_term d b ∷ [])) stuck) q)

pub naming : (a b : Act) (κ : Kind) {c : ℕ} → lookup names 0 κ ≡ c → on_name a b κ ≡ either a b c
unfolding on_name
naming a b κ q = lookup-mapped (either a b) names κ ∙ ap (either a b) q

pub name-step : (κ : Kind) (γ : List Item) {c : ℕ} → lookup names 0 κ ≡ c → step (a_name ∷ γ) κ ≡ does (either (then []) stuck c) γ (step γ κ)
unfolding act
name-step κ γ q = by-act a_name γ κ _ (naming (then []) stuck κ q)

pub second-step : (κ : Kind) (γ : List Item) {c : ℕ} → lookup names 0 κ ≡ c → step (an_empty_rest ∷ γ) κ ≡ does (either (then []) skip c) γ (step γ κ)
unfolding act
second-step κ γ q = by-act an_empty_rest γ κ _ (naming (then []) skip κ q)

pub either-some : (a b : Act) (c : ℕ) → (c ≡ 0 → ⊥) → either a b c ≡ a
either-some a b zero f = absurd (f refl)
either-some a b (suc c) f = refl

pub name-taken : (κ : Kind) (γ : List Item) → (lookup names 0 κ ≡ 0 → ⊥) → step (a_name ∷ γ) κ ≡ go unmarked γ
unfolding act
name-taken κ γ f = by-act a_name γ κ (then []) (naming (then []) stuck κ refl ∙ either-some (then []) stuck (lookup names 0 κ) f)

pub second-taken : (κ : Kind) (γ : List Item) → (lookup names 0 κ ≡ 0 → ⊥) → step (an_empty_rest ∷ γ) κ ≡ go unmarked γ
unfolding act
second-taken κ γ f = by-act an_empty_rest γ κ (then []) (naming (then []) skip κ refl ∙ either-some (then []) skip (lookup names 0 κ) f)

pub domain-name : (κ : Kind) (γ : List Item) → (lookup names 0 κ ≡ 0 → ⊥) → step (a_domain ∷ γ) κ ≡ go unmarked γ
unfolding act step lookup is code_of
domain-name κ γ f =
    by-table-or (λ j a. (lookup names 0 j ≡ 0 → ⊥) → does a γ (step γ j) ≡ go unmarked γ)
    ((kind.number, then (exact kind.up_to ∷ an_end ∷ [])) ∷ (kind.minus, then (exact kind.number ∷ exact kind.up_to ∷ an_end ∷ [])) ∷ [])
    (on_name (then []) stuck κ) κ ((λ g. absurd (g refl)) & (λ g. absurd (g refl)) & tt)
    (λ m g. ap (λ (a : Act). does a γ (step γ κ)) (naming (then []) stuck κ refl ∙ either-some (then []) stuck (lookup names 0 κ) g)) f

pub domain-range : (κ : Kind) (γ : List Item) → lookup names 0 κ ≡ 0 → step (a_domain ∷ γ) κ ≡ step (an_end ∷ exact kind.up_to ∷ an_end ∷ γ) κ
unfolding act step lookup is code_of
domain-range κ γ q =
    by-table-or (λ j a. lookup names 0 j ≡ 0 → does a γ (step γ j) ≡ step (an_end ∷ exact kind.up_to ∷ an_end ∷ γ) j)
    ((kind.number, then (exact kind.up_to ∷ an_end ∷ [])) ∷ (kind.minus, then (exact kind.number ∷ exact kind.up_to ∷ an_end ∷ [])) ∷ [])
    (on_name (then []) stuck κ) κ ((λ g. refl) & (λ g. refl) & tt)
    (λ m g. ap (λ (a : Act). does a γ (step γ κ)) (naming (then []) stuck κ g)
    ∙ sym (by-act an_end (exact kind.up_to ∷ an_end ∷ γ) κ stuck (lookup-miss ((kind.number, then []) ∷ (kind.minus, then (exact kind.number ∷ [])) ∷ []) stuck κ (m.0, (m.1.0, tt))))) q
