-- What a run of the machine says of each symbol that it passes, and of the one where it stops.
use mathlib.Core.Path.{◌≡◌, refl, sym, ap, ◌∙◌}
use mathlib.Core.Bool.{Bool, true, false, cond}
use mathlib.Core.List.{List, [], ◌∷◌}
use mathlib.Core.Option.{Option, none, some}
use Prim.Native.Nat.{ℕ, zero, suc, ◌+◌, ◌≤◌, ◌<◌}
use native.Mathlib.Omega.{arith}
use native.Mathlib.Nat.{add-zero}
use lib.ListN.{length, take, drop}
use Rattle.lexical.specs.Kinds.{Kind}
use Rattle.lexical.specs.Symbols.{Symbol, kind_of}
use Rattle.refusals.specs.Refusals.{Refusal, no_dossier}
use Rattle.form.specs.Written.{Mark}
use Rattle.form.specs.Form.{kind_at, settled}
use Rattle.form.specs.Machine.{Item, Next, go, halt, step, ends, Run, complete, failed, unless_over, onward, run_from}
use Rattle.form.specs.Machine.{kind_before}
use Rattle.form.proofs.Takes.{feed, feed_on}

pub behind : (s : Symbol) (w : List Symbol) (k : Kind) (j : ℕ) → kind_before (kind_of s) w j ≡ kind_before k (s ∷ w) (suc j)
unfolding kind_at
behind s w k zero = refl
behind s w k (suc j) = refl

-- the symbol j of w is taken, from the state γ on, and does not open or count too much
pub record Passed (w : List Symbol) (k : Kind) (γ : List Item) (j : ℕ) : Type 0 where
  pub state : List Item
  pub mark : Mark
  pub next : List Item
  pub fed : feed (take j w) γ ≡ some state
  pub stepped : step state (kind_at w j) ≡ go mark next
  pub quiet : settled (kind_before k w j) (kind_at w j) (drop (suc j) w) mark ≡ none

-- why a run stops in the state γ at the symbol j
pub data Cause (w : List Symbol) (k : Kind) (γ : List Item) (j : ℕ) : Refusal → Type 0 where
  cannot_take : j < length w → step γ (kind_at w j) ≡ halt → Cause w k γ j no_dossier
  cannot_end : j ≡ length w → ends γ ≡ false → Cause w k γ j no_dossier
  over : (m : Mark) (ρ : List Item) {r : Refusal} → j < length w → step γ (kind_at w j) ≡ go m ρ
      → settled (kind_before k w j) (kind_at w j) (drop (suc j) w) m ≡ some r → Cause w k γ j r

pub record Stopped (w : List Symbol) (k : Kind) (γ : List Item) (i e : ℕ) (r : Refusal) : Type 0 where
  pub at : ℕ
  pub place : e ≡ i + at
  pub within : at ≤ length w
  pub state : List Item
  pub fed : feed (take at w) γ ≡ some state
  pub cause : Cause w k state at r

-- one symbol more in front
fed-more : (s : Symbol) (u : List Symbol) (γ ρ : List Item) (m : Mark) (x : Option (List Item)) → step γ (kind_of s) ≡ go m ρ → feed u ρ ≡ x → feed (s ∷ u) γ ≡ x
fed-more s u γ ρ m x e f = ap (λ (n : Next). feed_on n (feed u)) e ∙ f

passed-more : (s : Symbol) (w : List Symbol) (k : Kind) (γ ρ : List Item) (m : Mark) (j : ℕ) → step γ (kind_of s) ≡ go m ρ → Passed w (kind_of s) ρ j → Passed (s ∷ w) k γ (suc j)
unfolding kind_at
passed-more s w k γ ρ m j e p =
    record {
      state = p.state;
      mark = p.mark;
      next = p.next;
      fed = fed-more s (take j w) γ ρ m (some p.state) e p.fed;
      stepped = p.stepped;
      quiet = ap (λ (q : Kind). settled q (kind_at w j) (drop (suc j) w) p.mark) (sym (behind s w k j)) ∙ p.quiet;
    }

cause-more : (s : Symbol) (w : List Symbol) (k : Kind) (γ : List Item) (j : ℕ) (r : Refusal) → Cause w (kind_of s) γ j r → Cause (s ∷ w) k γ (suc j) r
unfolding kind_at
cause-more s w k γ j r (cannot_take l h) = cannot_take (omega arith) h
cause-more s w k γ j r (cannot_end l h) = cannot_end (ap suc l) h
cause-more s w k γ j r (over m ρ l h q) = over m ρ (omega arith) h (ap (λ (x : Kind). settled x (kind_at w j) (drop (suc j) w) m) (sym (behind s w k j)) ∙ q)

-- a run that is complete passes every symbol, and may end
pub record Completed (w : List Symbol) (k : Kind) (γ : List Item) : Type 0 where
  pub all : (j : ℕ) → j < length w → Passed w k γ j
  pub state : List Item
  pub fed : feed w γ ≡ some state
  pub ends_there : ends state ≡ true

-- a run that fails passes every symbol before
pub record Failed (w : List Symbol) (k : Kind) (γ : List Item) (i e : ℕ) (r : Refusal) : Type 0 where
  pub before : (j : ℕ) → i + j < e → Passed w k γ j
  pub stopped : Stopped w k γ i e r

abbrev pub Outcome : List Symbol → Kind → List Item → ℕ → Run → Type 0
Outcome w k γ i complete = Completed w k γ
Outcome w k γ i (failed e r) = Failed w k γ i e r

-- nothing is left
at-end : (k : Kind) (i : ℕ) (γ : List Item) (b : Bool) → ends γ ≡ b → Outcome [] k γ i (cond b complete (failed i no_dossier))
at-end k i γ true q = record { all = λ j l. absurd (omega arith); state = γ; fed = refl; ends_there = q }
at-end k i γ false q =
    record {
      before = λ j l. absurd (omega arith);
      stopped = record { at = 0; place = sym (add-zero i); within = omega arith; state = γ; fed = refl; cause = cannot_end refl q };
    }

-- the first symbol is passed
first : (s : Symbol) (w : List Symbol) (k : Kind) (γ ρ : List Item) (m : Mark) → step γ (kind_of s) ≡ go m ρ → settled k (kind_of s) w m ≡ none → Passed (s ∷ w) k γ 0
unfolding kind_at
first s w k γ ρ m e q = record { state = γ; mark = m; next = ρ; fed = refl; stepped = e; quiet = q }

all_more : (s : Symbol) (w : List Symbol) (k : Kind) (γ ρ : List Item) (m : Mark) → step γ (kind_of s) ≡ go m ρ → settled k (kind_of s) w m ≡ none
    → ((j : ℕ) → j < length w → Passed w (kind_of s) ρ j) → (j : ℕ) → j < suc (length w) → Passed (s ∷ w) k γ j
all_more s w k γ ρ m e q h zero l = first s w k γ ρ m e q
all_more s w k γ ρ m e q h (suc j) l = passed-more s w k γ ρ m j e (h j (omega arith))

before_more : (s : Symbol) (w : List Symbol) (k : Kind) (γ ρ : List Item) (m : Mark) (i e : ℕ) → step γ (kind_of s) ≡ go m ρ → settled k (kind_of s) w m ≡ none
    → ((j : ℕ) → suc i + j < e → Passed w (kind_of s) ρ j) → (j : ℕ) → i + j < e → Passed (s ∷ w) k γ j
before_more s w k γ ρ m i e p q h zero l = first s w k γ ρ m p q
before_more s w k γ ρ m i e p q h (suc j) l = passed-more s w k γ ρ m j p (h j (omega arith))

passes_on : (s : Symbol) (w : List Symbol) (k : Kind) (i : ℕ) (γ ρ : List Item) (m : Mark) → step γ (kind_of s) ≡ go m ρ → settled k (kind_of s) w m ≡ none
    → (o : Run) → Outcome w (kind_of s) ρ (suc i) o → Outcome (s ∷ w) k γ i o
passes_on s w k i γ ρ m e q complete c =
    record {
      all = all_more s w k γ ρ m e q c.all;
      state = c.state;
      fed = fed-more s w γ ρ m (some c.state) e c.fed;
      ends_there = c.ends_there;
    }
passes_on s w k i γ ρ m e q (failed p r) c =
    let t : Stopped w (kind_of s) ρ (suc i) p r = c.stopped in
    let at_place : p ≡ suc i + t.at = t.place in
    let at-within : t.at ≤ length w = t.within in
    record {
      before = before_more s w k γ ρ m i p e q c.before;
      stopped =
          record {
            at = suc t.at;
            place = omega arith;
            within = omega arith;
            state = t.state;
            fed = fed-more s (take t.at w) γ ρ m (some t.state) e t.fed;
            cause = cause-more s w k t.state t.at r t.cause;
          };
    }

over-there : (s : Symbol) (w : List Symbol) (k : Kind) (i : ℕ) (γ ρ : List Item) (m : Mark) (r : Refusal) → step γ (kind_of s) ≡ go m ρ → settled k (kind_of s) w m ≡ some r
    → Failed (s ∷ w) k γ i i r
unfolding kind_at
over-there s w k i γ ρ m r e q =
    record {
      before = λ j l. absurd (omega arith);
      stopped = record { at = 0; place = sym (add-zero i); within = omega arith; state = γ; fed = refl; cause = over m ρ (omega arith) e q };
    }

stuck_there : (s : Symbol) (w : List Symbol) (k : Kind) (i : ℕ) (γ : List Item) → step γ (kind_of s) ≡ halt → Failed (s ∷ w) k γ i i no_dossier
unfolding kind_at
stuck_there s w k i γ e =
    record {
      before = λ j l. absurd (omega arith);
      stopped = record { at = 0; place = sym (add-zero i); within = omega arith; state = γ; fed = refl; cause = cannot_take (omega arith) e };
    }

pub ran : (w : List Symbol) (k : Kind) (i : ℕ) (γ : List Item) → Outcome w k γ i (run_from w k i γ)
unfolding run_from
ran [] k i γ = at-end k i γ (ends γ) refl
ran (s ∷ w) k i γ = on (step γ (kind_of s)) refl (λ ρ. ran w (kind_of s) (suc i) ρ)
  where
    after : (m : Mark) (ρ : List Item) → step γ (kind_of s) ≡ go m ρ → (q : Option Refusal) → settled k (kind_of s) w m ≡ q
        → Outcome w (kind_of s) ρ (suc i) (run_from w (kind_of s) (suc i) ρ) → Outcome (s ∷ w) k γ i (unless_over q i (run_from w (kind_of s) (suc i)) ρ)
    after m ρ e none q c = passes_on s w k i γ ρ m e q (run_from w (kind_of s) (suc i) ρ) c
    after m ρ e (some r) q c = over-there s w k i γ ρ m r e q

    on : (n : Next) → step γ (kind_of s) ≡ n → ((ρ : List Item) → Outcome w (kind_of s) ρ (suc i) (run_from w (kind_of s) (suc i) ρ))
        → Outcome (s ∷ w) k γ i (onward n (settled k (kind_of s) w) i (run_from w (kind_of s) (suc i)))
    on (go m ρ) e c = after m ρ e (settled k (kind_of s) w m) refl (c ρ)
    on halt e c = stuck_there s w k i γ e
