-- States that do the same at a symbol, and what is read where an operator or a connective ends it.
use mathlib.Core.Path.{◌≡◌, refl, ap, ◌∙◌, sym, subst}
use mathlib.Core.List.{List, [], ◌∷◌, ◌++◌, append_assoc}
use Prim.Native.Nat.{ℕ, zero, suc, ◌≤◌, ◌<◌}
use native.Mathlib.Omega.{arith}
use lib.ListN.{get_or}
use Rattle.lexical.specs.Kinds as kind
use Rattle.lexical.specs.Kinds.{Kind, code_of, is, lookup}
use Rattle.form.specs.Written.{Mark, unmarked, opens, binds}
use Rattle.form.specs.Machine.{Item, exact, a_name, an_empty_rest, an_end, a_domain, a_term, an_operand, a_term_rest, a_rel, a_mem, a_brace, a_named, a_first, a_list, a_pairs, a_unary, a_paren, a_pred_rest, a_declared}
use Rattle.form.specs.Machine.{Act, take, skip, stuck, then, Start, leaf, prefixed, bracket, brace, emptied, nothing, starts, from_start, start_term, operate, start_pred, act, Next, go, halt, does, step}
use Rattle.form_nodes.specs.FormPromises.{operators, connectives, pred_starts, relations, memberships, quantifiers, level_of, Starts, StartCode, Reads, TermReads, TermStops, PredReads, PredStops}
use Rattle.form.specs.Computed.{compute_form}
use Rattle.form_nodes.specs.declared.kinds.Start as declared
use Rattle.std.specs.Prelude.{Ok, Err}
use Rattle.form_nodes.specs.declared.Read.{Read}
use Rattle.form_nodes.specs.FormPromises.{Answer}
use Rattle.form_nodes.proofs.Classes.{lookup-miss, by-table-or, spanned}
use Rattle.form.proofs.Table.{◌&◌}
use Rattle.form_nodes.proofs.ReadParts.{here, next, likewise, fails}
use Rattle.form_nodes.proofs.ItemSteps.{by-act, first_entry, at_operator, operating, rest-step, pred-rest-step, at_pred_start, pred_starting, lookup-mapped, division, binary, connecting, any-depth, unary-step, at_relation, rel-step, mem-step}

-- what begins a term, with more behind it
pub frame : (d b : ℕ) (v : Start) (σ ρ γ : List Item) (m n : Next) → does (from_start d b (σ ++ ρ) v) γ m ≡ does (from_start d b σ v) (ρ ++ γ) n
frame d b leaf σ ρ γ m n = ap (λ (l : List Item). go unmarked l) (append_assoc σ ρ γ)
frame d b prefixed σ ρ γ m n = ap (λ (l : List Item). go (opens (suc d)) (an_operand (suc d) b ∷ l)) (append_assoc σ ρ γ)
frame d b bracket σ ρ γ m n = ap (λ (l : List Item). go (opens (suc d)) (a_term (suc d) b ∷ exact kind.close_bracket ∷ l)) (append_assoc σ ρ γ)
frame d b brace σ ρ γ m n = ap (λ (l : List Item). go (opens (suc d)) (a_brace (suc d) b ∷ l)) (append_assoc σ ρ γ)
frame d b emptied σ ρ γ m n = ap (λ (l : List Item). go unmarked (a_name ∷ an_empty_rest ∷ l)) (append_assoc σ ρ γ)
frame d b nothing σ ρ γ m n = refl

-- at a symbol that begins a term by v
pub operand_step : (d b : ℕ) (κ : Kind) (γ : List Item) (v : Start) → lookup starts nothing κ ≡ v → step (an_operand d b ∷ γ) κ ≡ does (from_start d b [] v) γ (step γ κ)
unfolding act start_term
operand_step d b κ γ v q = by-act (an_operand d b) γ κ _ (ap (from_start d b []) q)

pub as-operand : (d b : ℕ) (κ : Kind) (γ : List Item) → step (a_term d b ∷ γ) κ ≡ step (an_operand d b ∷ a_term_rest d b ∷ γ) κ
unfolding act step start_term
as-operand d b κ γ = frame d b (lookup starts nothing κ) [] (a_term_rest d b ∷ []) γ (step γ κ) (step (a_term_rest d b ∷ γ) κ)

-- a predicate that begins with a term
pub as-term : (d b : ℕ) (κ : Kind) (γ : List Item) → lookup pred_starts 0 κ ≡ 0 → step (a_unary d b ∷ γ) κ ≡ step (a_term d b ∷ a_rel d b ∷ γ) κ
unfolding act step start_term
as-term d b κ γ q =
    ap (λ (a : Act). does a γ (step γ κ)) (pred_starting d b [] κ ∙ ap (at_pred_start d b [] (start_term d b (a_term_rest d b ∷ a_rel d b ∷ []) κ)) q)
    ∙ frame d b (lookup starts nothing κ) (a_term_rest d b ∷ []) (a_rel d b ∷ []) γ (step γ κ) (step (a_rel d b ∷ γ) κ)

pred-frame : (d b : ℕ) (κ : Kind) (ρ γ : List Item) (c : ℕ)
    → does (at_pred_start d b ρ (start_term d b (a_term_rest d b ∷ a_rel d b ∷ ρ) κ) c) γ (step γ κ)
    ≡ does (at_pred_start d b [] (start_term d b (a_term_rest d b ∷ a_rel d b ∷ []) κ) c) (ρ ++ γ) (step (ρ ++ γ) κ)
unfolding start_term
pred-frame d b κ ρ γ zero =
    frame d b (lookup starts nothing κ) (a_term_rest d b ∷ a_rel d b ∷ []) ρ γ (step γ κ) (step (ρ ++ γ) κ)
pred-frame d b κ ρ γ (suc zero) = refl
pred-frame d b κ ρ γ (suc (suc zero)) = refl
pred-frame d b κ ρ γ (suc (suc (suc c))) = refl

abbrev at_quantifier : (d b : ℕ) → Act → ℕ → Act
at_quantifier d b other zero = other
at_quantifier d b other (suc n) =
    then (a_declared (binds (suc b)) ∷ exact kind.colon ∷ a_domain ∷ exact kind.spot ∷ a_unary d (suc b) ∷ a_pred_rest d d (suc b) ∷ exact kind.close_paren ∷ [])

paren-step : (d b : ℕ) (κ : Kind) (γ : List Item) {c : ℕ} → lookup quantifiers 0 κ ≡ c
    → step (a_paren d b ∷ γ) κ ≡ does (at_quantifier d b (start_pred d b (a_pred_rest d d b ∷ exact kind.close_paren ∷ []) κ) c) γ (step γ κ)
unfolding act
paren-step d b κ γ q =
    by-act (a_paren d b) γ κ _
    (lookup-mapped (at_quantifier d b (start_pred d b (a_pred_rest d d b ∷ exact kind.close_paren ∷ []) κ)) quantifiers κ
    ∙ ap (at_quantifier d b (start_pred d b (a_pred_rest d d b ∷ exact kind.close_paren ∷ []) κ)) q)

-- (p)
pub as_pred : (d b : ℕ) (κ : Kind) (γ : List Item) → lookup quantifiers 0 κ ≡ 0 → step (a_paren d b ∷ γ) κ ≡ step (a_unary d b ∷ a_pred_rest d d b ∷ exact kind.close_paren ∷ γ) κ
unfolding act step
as_pred d b κ γ q =
    paren-step d b κ γ q
    ∙ ap (λ (a : Act). does a γ (step γ κ)) (pred_starting d b (a_pred_rest d d b ∷ exact kind.close_paren ∷ []) κ)
    ∙ pred-frame d b κ (a_pred_rest d d b ∷ exact kind.close_paren ∷ []) γ (lookup pred_starts 0 κ)
    ∙ sym (ap (λ (a : Act). does a (a_pred_rest d d b ∷ exact kind.close_paren ∷ γ) (step (a_pred_rest d d b ∷ exact kind.close_paren ∷ γ) κ)) (pred_starting d b [] κ))

pub quantifier-step : (d b : ℕ) (κ : Kind) (γ : List Item) → (lookup quantifiers 0 κ ≡ 0 → ⊥)
    → step (a_paren d b ∷ γ) κ ≡ go unmarked (a_declared (binds (suc b)) ∷ exact kind.colon ∷ a_domain ∷ exact kind.spot ∷ a_unary d (suc b) ∷ a_pred_rest d d (suc b) ∷ exact kind.close_paren ∷ γ)
quantifier-step d b κ γ f = paren-step d b κ γ refl ∙ on (lookup quantifiers 0 κ) f
  where
    on : (c : ℕ) → (c ≡ 0 → ⊥) → does (at_quantifier d b (start_pred d b (a_pred_rest d d b ∷ exact kind.close_paren ∷ []) κ) c) γ (step γ κ)
        ≡ go unmarked (a_declared (binds (suc b)) ∷ exact kind.colon ∷ a_domain ∷ exact kind.spot ∷ a_unary d (suc b) ∷ a_pred_rest d d (suc b) ∷ exact kind.close_paren ∷ γ)
    on zero g = absurd (g refl)
    on (suc c) g = refl

-- behind the first term of {t, ..}
pub as-list : (d b : ℕ) (κ : Kind) (γ : List Item) → (code_of κ ≡ code_of kind.maplet → ⊥) → step (a_first d b ∷ γ) κ ≡ step (a_list d b ∷ γ) κ
unfolding act step lookup
as-list d b κ γ f =
    ap (λ (a : Act). does a γ (step γ κ))
    (first_entry (kind.comma, then (a_term d b ∷ a_list d b ∷ [])) ((kind.close_brace, then []) ∷ (kind.maplet, then (a_term d b ∷ a_pairs d b ∷ [])) ∷ []) ((kind.close_brace, then []) ∷ []) stuck stuck κ
    (first_entry (kind.close_brace, then []) ((kind.maplet, then (a_term d b ∷ a_pairs d b ∷ [])) ∷ []) [] stuck stuck κ
    (lookup-miss ((kind.maplet, then (a_term d b ∷ a_pairs d b ∷ [])) ∷ []) stuck κ (f, tt))))

-- nothing goes on with items, or with pairs, but , and }
pub list-stops : (d b : ℕ) (κ : Kind) (γ : List Item) → (code_of κ ≡ code_of kind.close_brace → ⊥) → (code_of κ ≡ code_of kind.comma → ⊥) → step (a_list d b ∷ γ) κ ≡ halt
unfolding act
list-stops d b κ γ f g =
    by-act (a_list d b) γ κ stuck (lookup-miss ((kind.comma, then (a_term d b ∷ a_list d b ∷ [])) ∷ (kind.close_brace, then []) ∷ []) stuck κ (g, (f, tt)))

pub pairs-stop : (d b : ℕ) (κ : Kind) (γ : List Item) → (code_of κ ≡ code_of kind.close_brace → ⊥) → (code_of κ ≡ code_of kind.comma → ⊥) → step (a_pairs d b ∷ γ) κ ≡ halt
unfolding act
pairs-stop d b κ γ f g =
    by-act (a_pairs d b) γ κ stuck
    (lookup-miss ((kind.comma, then (a_term d b ∷ exact kind.maplet ∷ a_term d b ∷ a_pairs d b ∷ [])) ∷ (kind.close_brace, then []) ∷ []) stuck κ (g, (f, tt)))

-- a name after { and no : behind it goes on as a term does
pub named : (d b : ℕ) (κ : Kind) (γ : List Item) → (code_of κ ≡ code_of kind.colon → ⊥) → step (a_named d b ∷ γ) κ ≡ step (a_term_rest d b ∷ a_first d b ∷ γ) κ
unfolding act step operate lookup is code_of
named d b κ γ f =
    by-table-or (λ j a. (code_of j ≡ code_of kind.colon → ⊥) → does a γ (step γ j) ≡ step (a_term_rest d b ∷ a_first d b ∷ γ) j)
    ((kind.colon, then (a_name ∷ exact kind.bar ∷ a_unary d (suc b) ∷ a_pred_rest d d (suc b) ∷ exact kind.close_brace ∷ []))
    ∷ (kind.comma, then (a_term d b ∷ a_list d b ∷ [])) ∷ (kind.close_brace, then []) ∷ (kind.maplet, then (a_term d b ∷ a_pairs d b ∷ [])) ∷ [])
    (operate d b (a_first d b ∷ []) stuck κ) κ
    ((λ g. absurd (g refl)) & (λ g. refl) & (λ g. refl) & (λ g. refl) & tt)
    (λ m g. ap (λ (a : Act). does a γ (step γ κ)) (operating d b (a_first d b ∷ []) stuck κ)
    ∙ on (lookup operators 0 κ) (by-act (a_first d b) γ κ stuck
    (lookup-miss ((kind.comma, then (a_term d b ∷ a_list d b ∷ [])) ∷ (kind.close_brace, then []) ∷ (kind.maplet, then (a_term d b ∷ a_pairs d b ∷ [])) ∷ []) stuck κ m.1))
    ∙ sym (rest-step d b κ (a_first d b ∷ γ) refl)) f
  where
    on : (c : ℕ) → step (a_first d b ∷ γ) κ ≡ halt
        → does (at_operator d b (a_first d b ∷ []) stuck c) γ (step γ κ) ≡ does (at_operator d b [] skip c) (a_first d b ∷ γ) (step (a_first d b ∷ γ) κ)
    on zero q = sym q
    on (suc zero) q = refl
    on (suc (suc zero)) q = refl
    on (suc (suc (suc c))) q = refl

-- what begins no name after {
pub unnamed : (d b : ℕ) (κ : Kind) (γ : List Item) → (code_of κ ≡ code_of kind.plain → ⊥) → step (a_brace d b ∷ γ) κ ≡ step (a_term d b ∷ a_first d b ∷ γ) κ
unfolding act step start_term
unnamed d b κ γ f =
    ap (λ (a : Act). does a γ (step γ κ)) (lookup-miss ((kind.plain, take (binds (suc b)) (a_named d b ∷ [])) ∷ []) (start_term d b (a_term_rest d b ∷ a_first d b ∷ []) κ) κ (f, tt))
    ∙ frame d b (lookup starts nothing κ) (a_term_rest d b ∷ []) (a_first d b ∷ []) γ (step γ κ) (step (a_first d b ∷ γ) κ)

-- no operator of the level 1
no-level : (c : ℕ) → level_of c < 1 → c ≡ 0
no-level zero h = refl
no-level (suc zero) h = absurd (omega arith)
no-level (suc (suc c)) h = absurd (omega arith)

-- a whole term
pub whole-term : {s : List ℕ} {at n d b : ℕ} {ι : List Item} {r : Answer} → TermReads s at n d b 1 ι r → Reads s at n ι [] r
unfolding compute_form
whole-term {s} {at} {n} {d} {b} {ι} {r} h = on r h.reads h.stops
  where
    on : (r : Answer) → Reads s at n ι (a_term_rest d b ∷ []) r → TermStops s 1 r → Reads s at n ι [] r
    on (Ok e) a g = next a (likewise (λ κ q γ. rest-step d b κ γ (no-level (lookup operators 0 κ) (g κ q))) (λ γ. refl) (here a.within))
    on (Err f) a g = fails a

-- a whole predicate
pub whole-pred : {s : List ℕ} {at n d b : ℕ} {r : Answer} → PredReads s at n d b 1 (a_unary d b ∷ []) r → Reads s at n (a_unary d b ∷ a_pred_rest d d b ∷ []) [] r
unfolding compute_form
whole-pred {s} {at} {n} {d} {b} {r} h = on r (h.reads d (λ q. refl)) h.stops
  where
    on : (r : Answer) → Reads s at n (a_unary d b ∷ a_pred_rest d d b ∷ []) (a_pred_rest d d b ∷ []) r → PredStops s 1 r → Reads s at n (a_unary d b ∷ a_pred_rest d d b ∷ []) [] r
    on (Ok e) a g = next a (likewise (λ κ q γ. pred-rest-step d d b κ γ {c = 0} (let l : lookup connectives 0 κ < 1 = g κ q in omega arith)) (λ γ. refl) (here a.within))
    on (Err f) a g = fails a

-- what a result that is known says of the symbol behind
pub known-level : (s : List ℕ) (min : ℕ) {e : Read} {r : Answer} → r ≡ Ok e → PredStops s min r → (κ : Kind) → code_of κ ≡ get_or s e.at 0 → lookup connectives 0 κ < min
known-level s min q h = subst (λ (x : Answer). PredStops s min x) q h

pub rest-division : (d b o : ℕ) (κ : Kind) (γ : List Item) → lookup operators 0 κ ≡ o → 3 ≤ o → step (a_term_rest d b ∷ γ) κ ≡ go unmarked (an_end ∷ a_term_rest d b ∷ γ)
rest-division d b o κ γ q l = rest-step d b κ γ q ∙ ap (λ (a : Act). does a γ (step γ κ)) (division d b o [] skip l)

pub rest-binary : (d b o : ℕ) (κ : Kind) (γ : List Item) → lookup operators 0 κ ≡ o → 1 ≤ o → o < 3 → step (a_term_rest d b ∷ γ) κ ≡ go unmarked (a_term d b ∷ γ)
rest-binary d b o κ γ q l h = rest-step d b κ γ q ∙ ap (λ (a : Act). does a γ (step γ κ)) (binary d b o [] skip l h)

pub rest-connective : (base d b c : ℕ) (κ : Kind) (γ : List Item) → lookup connectives 0 κ ≡ c → 1 ≤ c → (c ≡ 2 → ⊥) → (c ≡ 1 → base ≡ d)
    → step (a_pred_rest base d b ∷ γ) κ ≡ go unmarked (a_unary d b ∷ a_pred_rest base d b ∷ γ)
rest-connective base d b c κ γ q l f e = pred-rest-step base d b κ γ q ∙ ap (λ (a : Act). does a γ (step γ κ)) (connecting base d b c l f e)

pub rest-depth : (base d e b : ℕ) (κ : Kind) (γ : List Item) → lookup connectives 0 κ < 2 → step (a_pred_rest base d b ∷ γ) κ ≡ step (a_pred_rest base e b ∷ γ) κ
rest-depth base d e b κ γ h =
    pred-rest-step base d b κ γ refl ∙ ap (λ (a : Act). does a γ (step γ κ)) (any-depth base d e b (lookup connectives 0 κ) h) ∙ sym (pred-rest-step base e b κ γ refl)

pub paren-opens : (d b c : ℕ) (κ : Kind) (γ : List Item) → lookup pred_starts 0 κ ≡ c → 3 ≤ c → step (a_unary d b ∷ γ) κ ≡ go (opens (suc d)) (a_paren (suc d) b ∷ γ)
paren-opens d b c κ γ q l = unary-step d b κ γ q ∙ on c l
  where
    on : (c : ℕ) → 3 ≤ c → does (at_pred_start d b [] (start_term d b (a_term_rest d b ∷ a_rel d b ∷ []) κ) c) γ (step γ κ) ≡ go (opens (suc d)) (a_paren (suc d) b ∷ γ)
    on zero h = absurd (omega arith)
    on (suc zero) h = absurd (omega arith)
    on (suc (suc zero)) h = absurd (omega arith)
    on (suc (suc (suc n))) h = refl

pub rel-pair : (d b c : ℕ) (κ : Kind) (γ : List Item) → lookup relations 0 κ ≡ c → 3 ≤ c → step (a_rel d b ∷ γ) κ ≡ go unmarked (a_term d b ∷ a_mem d b ∷ γ)
rel-pair d b c κ γ q l = rel-step d b κ γ q ∙ on c l
  where
    on : (c : ℕ) → 3 ≤ c → does (at_relation d b c) γ (step γ κ) ≡ go unmarked (a_term d b ∷ a_mem d b ∷ γ)
    on zero h = absurd (omega arith)
    on (suc zero) h = absurd (omega arith)
    on (suc (suc zero)) h = absurd (omega arith)
    on (suc (suc (suc n))) h = refl

pub mem-some : (d b c : ℕ) (κ : Kind) (γ : List Item) → lookup memberships 0 κ ≡ c → (c ≡ 0 → ⊥) → step (a_mem d b ∷ γ) κ ≡ go unmarked (a_term d b ∷ γ)
mem-some d b zero κ γ q f = absurd (f refl)
mem-some d b (suc c) κ γ q f = mem-step d b κ γ q

-- a quantifier, by its code
pub quantifier-code : (κ : Kind) → 53 ≤ code_of κ → code_of κ ≤ 55 → lookup quantifiers 0 κ ≡ 0 → ⊥
unfolding code_of lookup is
quantifier-code κ lo hi q =
    let h : lookup quantifiers 0 κ ≡ 1 = (spanned {t = quantifiers} {k = code_of κ} {v = 1} 53 3 (refl, (refl, (refl, tt))) lo (omega arith) (omega arith)).class κ refl in omega arith

pub declared-stops : (m : Mark) (κ : Kind) (γ : List Item) → (code_of κ ≡ code_of kind.plain → ⊥) → step (a_declared m ∷ γ) κ ≡ halt
unfolding act
declared-stops m κ γ f = by-act (a_declared m) γ κ stuck (lookup-miss ((kind.plain, take m []) ∷ []) stuck κ (f, tt))

-- what is known of the code where a term begins by a known way
pub known-code : (k : ℕ) {r v : declared.Start} → r ≡ v → Starts k r → StartCode k v
known-code k q h = subst (λ (x : declared.Start). StartCode k x) q h.code
