-- A dossier that begins with some symbols, at one of them: the machine takes it there, with a mark that fits the tree's.
use mathlib.Core.Path.{◌≡◌, refl, sym, ap, ◌∙◌, subst}
use mathlib.Core.Bool.{true}
use mathlib.Core.List.{List, [], ◌∷◌, ◌++◌, map}
use mathlib.Core.Option.{Option, none, some}
use Prim.Native.Nat.{ℕ, zero, suc, ◌≤◌, ◌<◌}
use native.Mathlib.Omega.{arith}
use lib.ListN.{length, take, drop, get_or, length-map}
use Rattle.lexical.specs.Kinds as kind
use Rattle.lexical.specs.Kinds.{Kind}
use Rattle.lexical.specs.Symbols.{Symbol, kind_of}
use Rattle.form.specs.Tree.{Dossier}
use Rattle.form.specs.Written.{Mark, unmarked, Written, written, symbols_of}
use Rattle.form.specs.Form.{Whole, Begins, kind_at}
use Rattle.form.specs.Machine.{Item, Next, go, halt, step, ends}
use Rattle.form.proofs.Takes.{initial, feed, feed_on, Fits, symbols_in, Agrees, AgreesOn}
use Rattle.form.specs.Machine.{kind_before}
use Rattle.form.proofs.Runs.{behind}
use Rattle.form.proofs.MachineAgrees.{agree}

abbrev pub mark_at : List Written → ℕ → Mark
mark_at x j = get_or (map (λ (y : Written). y.mark) x) j unmarked

-- the symbol j of w, whose mark in the tree is μ, is taken from the state γ on
pub record Taken (w : List Symbol) (μ : Mark) (k : Kind) (γ : List Item) (j : ℕ) : Type 0 where
  pub state : List Item
  pub mark : Mark
  pub next : List Item
  pub fed : feed (take j w) γ ≡ some state
  pub stepped : step state (kind_at w j) ≡ go mark next
  pub fits : Fits mark μ (kind_before k w j) (kind_at w j) (drop (suc j) w)

pub taken : (x : List Written) (k : Kind) (γ : List Item) → Agrees k x γ → (j : ℕ) → j < length x → Taken (symbols_in x) (mark_at x j) k γ j
unfolding kind_at
taken [] k γ a j l = absurd (omega arith)
taken (y ∷ x) k γ a zero l = on (step γ (kind_of y.symbol)) refl a
  where
    on : (n : Next) → step γ (kind_of y.symbol) ≡ n → AgreesOn y k (symbols_in x) n (λ i ρ. Agrees i x ρ) → Taken (symbols_in (y ∷ x)) y.mark k γ zero
    on (go m ρ) e b = record { state = γ; mark = m; next = ρ; fed = refl; stepped = e; fits = b.0 }
    on halt e b = absurd b
taken (y ∷ x) k γ a (suc j) l = on (step γ (kind_of y.symbol)) refl a (λ ρ b. taken x (kind_of y.symbol) ρ b j (omega arith))
  where
    on : (n : Next) → step γ (kind_of y.symbol) ≡ n → AgreesOn y k (symbols_in x) n (λ i ρ. Agrees i x ρ)
        → ((ρ : List Item) → Agrees (kind_of y.symbol) x ρ → Taken (symbols_in x) (mark_at x j) (kind_of y.symbol) ρ j) → Taken (symbols_in (y ∷ x)) (mark_at x j) k γ (suc j)
    on (go m ρ) e b h =
        let t : Taken (symbols_in x) (mark_at x j) (kind_of y.symbol) ρ j = h ρ b.1 in
        record {
          state = t.state;
          mark = t.mark;
          next = t.next;
          fed = ap (λ (n : Next). feed_on n (feed (take j (symbols_in x)))) e ∙ t.fed;
          stepped = t.stepped;
          fits = subst (λ (q : Kind). Fits t.mark (mark_at x j) q (kind_at (symbols_in x) j) (drop (suc j) (symbols_in x))) (behind y.symbol (symbols_in x) k j) t.fits;
        }
    on halt e b h = absurd b

-- all is taken, and the text may end
pub record Ended (x : List Written) (γ : List Item) : Type 0 where
  pub state : List Item
  pub fed : feed (symbols_in x) γ ≡ some state
  pub ends_there : ends state ≡ true

pub ended : (x : List Written) (k : Kind) (γ : List Item) → Agrees k x γ → Ended x γ
ended [] k γ a = record { state = γ; fed = refl; ends_there = a }
ended (y ∷ x) k γ a = on (step γ (kind_of y.symbol)) refl a (λ ρ b. ended x (kind_of y.symbol) ρ b)
  where
    on : (n : Next) → step γ (kind_of y.symbol) ≡ n → AgreesOn y k (symbols_in x) n (λ i ρ. Agrees i x ρ)
        → ((ρ : List Item) → Agrees (kind_of y.symbol) x ρ → Ended x ρ) → Ended (y ∷ x) γ
    on (go m ρ) e b h =
        let t : Ended x ρ = h ρ b.1 in
        record { state = t.state; fed = ap (λ (n : Next). feed_on n (feed (symbols_in x))) e ∙ t.fed; ends_there = t.ends_there }
    on halt e b h = absurd b

-- what w and a text that begins with its symbols up to j have in common
prefix-take : (w v : List Symbol) (j : ℕ) → j < length w → take j (take (suc j) w ++ v) ≡ take j w
prefix-take [] v j l = absurd (omega arith)
prefix-take (s ∷ w) v zero l = refl
prefix-take (s ∷ w) v (suc j) l = ap {B = List Symbol} (λ u. s ∷ u) (prefix-take w v j (omega arith))

prefix-kind : (w v : List Symbol) (n j : ℕ) → n ≤ j → j < length w → kind_at (take (suc j) w ++ v) n ≡ kind_at w n
unfolding kind_at
prefix-kind [] v n j h l = absurd (omega arith)
prefix-kind (s ∷ w) v zero j h l = refl
prefix-kind (s ∷ w) v (suc n) zero h l = absurd (omega arith)
prefix-kind (s ∷ w) v (suc n) (suc j) h l = prefix-kind w v n j (omega arith) (omega arith)

prefix-before : (k : Kind) (w v : List Symbol) (j : ℕ) → j < length w → kind_before k (take (suc j) w ++ v) j ≡ kind_before k w j
prefix-before k w v zero l = refl
prefix-before k w v (suc j) l = prefix-kind w v j (suc j) (omega arith) l

prefix-drop : (w v : List Symbol) (j : ℕ) → j < length w → drop (suc j) (take (suc j) w ++ v) ≡ v
prefix-drop [] v j l = absurd (omega arith)
prefix-drop (s ∷ w) v zero l = refl
prefix-drop (s ∷ w) v (suc j) l = prefix-drop w v j (omega arith)

prefix-length : (w v : List Symbol) (j : ℕ) → j < length w → j < length (take (suc j) w ++ v)
prefix-length [] v j l = absurd (omega arith)
prefix-length (s ∷ w) v zero l = omega arith
prefix-length (s ∷ w) v (suc j) l = let h = prefix-length w v j (omega arith) in omega arith

-- the symbol j of w, where some dossier begins with the symbols up to and including it
pub record AtSymbol (w : List Symbol) (j : ℕ) (b : Begins (take (suc j) w)) : Type 0 where
  pub state : List Item
  pub mark : Mark
  pub next : List Item
  pub fed : feed (take j w) initial ≡ some state
  pub stepped : step state (kind_at w j) ≡ go mark next
  pub fits : Fits mark (mark_at (written b.dossier) j) (kind_before kind.END w j) (kind_at w j) b.rest

pub at_symbol : (w : List Symbol) (j : ℕ) → j < length w → (b : Begins (take (suc j) w)) → AtSymbol w j b
unfolding symbols_of
at_symbol w j l b =
    let d : Dossier = b.dossier in
    let v : List Symbol = b.rest in
    let e : symbols_in (written d) ≡ take (suc j) w ++ v = b.whole.symbols in
    let n : length (symbols_in (written d)) ≡ length (written d) = length-map (written d) (λ (x : Written). x.symbol) in
    let h : j < length (take (suc j) w ++ v) = prefix-length w v j l in
    let m : length (symbols_in (written d)) ≡ length (take (suc j) w ++ v) = ap length e in
    let t : Taken (symbols_in (written d)) (mark_at (written d) j) kind.END initial j = taken (written d) kind.END initial (agree d b.whole.grouped) j (omega arith) in
    let u : Taken (take (suc j) w ++ v) (mark_at (written d) j) kind.END initial j = subst (λ (x : List Symbol). Taken x (mark_at (written d) j) kind.END initial j) e t in
    record {
      state = u.state;
      mark = u.mark;
      next = u.next;
      fed = ap (λ (x : List Symbol). feed x initial) (sym (prefix-take w v j l)) ∙ u.fed;
      stepped = ap (step u.state) (sym (prefix-kind w v j j (omega arith) l)) ∙ u.stepped;
      fits =
          subst (λ (x : Kind). Fits u.mark (mark_at (written d) j) x (kind_at w j) v) (prefix-before kind.END w v j l)
          (subst (λ (x : Kind). Fits u.mark (mark_at (written d) j) (kind_before kind.END (take (suc j) w ++ v) j) x v) (prefix-kind w v j j (omega arith) l)
          (subst (λ (x : List Symbol). Fits u.mark (mark_at (written d) j) (kind_before kind.END (take (suc j) w ++ v) j) (kind_at (take (suc j) w ++ v) j) x) (prefix-drop w v j l)
          u.fits));
    }

-- a text that is a dossier's may end where it does
pub at-end : (w : List Symbol) (d : Dossier) → Whole w d → (γ : List Item) → feed w initial ≡ some γ → ends γ ≡ true
unfolding symbols_of
at-end w d h γ f =
    let t : Ended (written d) initial = ended (written d) kind.END initial (agree d h.grouped) in
    let g : feed w initial ≡ some t.state = ap (λ (x : List Symbol). feed x initial) (sym h.symbols) ∙ t.fed in
    let same : t.state ≡ γ = ap (λ (o : Option (List Item)). or_none o) (sym g ∙ f) in
    ap ends (sym same) ∙ t.ends_there
  where
    or_none : Option (List Item) → List Item
    or_none none = []
    or_none (some x) = x
