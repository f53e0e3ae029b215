-- How what is read at one place is put together from its parts.
use mathlib.Core.Path.{◌≡◌, refl, ap, ◌∙◌, sym, subst}
use mathlib.Core.Bool.{Bool, true, false, cond}
use mathlib.Core.List.{List, [], ◌∷◌, ◌++◌, append_assoc}
use mathlib.Core.Option.{Option, none, some}
use Prim.Native.Nat.{ℕ, zero, suc, ◌+◌, ◌*◌, ◌≤◌, ◌<◌}
use native.Mathlib.Omega.{arith}
use native.Mathlib.Numerals.{add-one}
use lib.Dec.{ltb}
use lib.ListN.{length, drop, get_or, drop_of_length-le, length-map}
use lib.Seq.{drop-cons}
use borrow.Author.Tests.{ltb-true, ltb-false}
use Rattle.lexical.specs.Kinds as kind
use Rattle.lexical.specs.Kinds.{Kind, code_of}
use Rattle.lexical.specs.Symbols.{Symbol, fixed, kind_of}
use Rattle.refusals.specs.Refusals.{Refusal, no_dossier}
use Rattle.refusals.specs.RefusalNames.{refusal_is}
use Rattle.form.specs.Written.{Mark, unmarked}
use Rattle.form.specs.Form.{kind_at, settled}
use Rattle.form.specs.Machine.{Item, Next, go, halt, step, ends, complete, failed, unless_over, onward, run_from}
use Rattle.form_nodes.specs.FormPromises.{codes, run_at, after, Counted, Reads, Ahead}
use Rattle.form.specs.Machine.{kind_before}
use Rattle.std.specs.Prelude.{Result, Ok, Err, IsErrAnd}
use Rattle.std.proofs.lemmas.Result.{err_from_is_err_and}
use Rattle.form_nodes.specs.declared.Read.{Read}
use Rattle.form_nodes.specs.FormPromises.{Answer}
use Rattle.refusals.specs.declared.Fault.{Fault}
use Rattle.refusals.specs.declared.Refusal as declared
use Rattle.refusals.specs.declared.Refusal.TheVariants.{NoDossier}
use Rattle.form.proofs.Table.{kinds, kind_in, kind-back}

-- what a `?` returns where a part is at fault
pub exits : {T E : Type 0} {e : E} (r : Result T E) → IsErrAnd r (λ x. x ≡ e) → r ≡ Err e
exits r h = let p = err_from_is_err_and r h in p.1 ∙ ap Err p.2

-- what was read up to a symbol, with so many numbers written
abbrev pub read : (at count : ℕ) → Answer
read i n = Ok (record { at = i; count = n })

-- what holds of the kind j holds of every kind with its code: where a symbol's kind is known, its step alone is asked for
pub only : (P : Kind → Type 0) {k : ℕ} (j : Kind) → k ≡ code_of j → P j → (κ : Kind) → code_of κ ≡ k → P κ
only P j q p κ e = subst P (sym (kind-back j) ∙ ap (kind_in kinds) (sym (e ∙ q)) ∙ kind-back κ) p

pub code_at : (w : List Symbol) (at : ℕ) → at < length w → code_of (kind_at w at) ≡ get_or (codes w) at 0
unfolding codes kind_at
code_at [] at l = absurd (omega arith)
code_at (x ∷ w) zero l = refl
code_at (x ∷ w) (suc at) l = code_at w at (omega arith)

pub as_long : (w : List Symbol) {s : List ℕ} → codes w ≡ s → length w ≡ length s
unfolding codes
as_long w q = sym (length-map w (λ (x : Symbol). code_of (kind_of x))) ∙ ap length q

-- a run at a symbol is its step
pub run-at : (w : List Symbol) (at : ℕ) (γ : List Item) → at < length w
    → run_at w at γ ≡ onward (step γ (kind_at w at)) (settled (kind_before kind.END w at) (kind_at w at) (drop (suc at) w)) at (run_at w (suc at))
unfolding run_at run_from kind_at
run-at w at γ l = ap (λ (v : List Symbol). run_from v (kind_before kind.END w at) at γ) (drop-cons w at (fixed kind.END) l)

-- and at the end it is whether the text may end there
pub run_end : (w : List Symbol) (at : ℕ) (γ : List Item) → length w ≤ at → run_at w at γ ≡ cond (ends γ) complete (failed at no_dossier)
unfolding run_at run_from
run_end w at γ l = ap (λ (v : List Symbol). run_from v (kind_before kind.END w at) at γ) (drop_of_length-le w l)

count-step : (at n m : ℕ) (r : Answer) → m ≤ n + 4 → Counted (at + 1) m r → Counted at n r
count-step at n m (Ok e) l h = omega arith
count-step at n m (Err f) l h = tt

-- at a symbol that is inside, whatever the text
abbrev pub Within : List ℕ → ℕ → (Kind → Kind → List Symbol → Type 0) → Type 0
Within s at P = (w : List Symbol) → codes w ≡ s → P (kind_before kind.END w at) (kind_at w at) (drop (suc at) w)

step-at : (s : List ℕ) (at : ℕ) (ι : List Item) (w : List Symbol) → codes w ≡ s → at < length s → (x : List Item → Next)
    → ((κ : Kind) → code_of κ ≡ get_or s at 0 → (γ : List Item) → step (ι ++ γ) κ ≡ x γ) → (γ : List Item)
    → run_at w at (ι ++ γ) ≡ onward (x γ) (settled (kind_before kind.END w at) (kind_at w at) (drop (suc at) w)) at (run_at w (suc at))
step-at s at ι w q l x h γ =
    let lw : at < length w = let e = as_long w q in omega arith in
    run-at w at (ι ++ γ) lw
    ∙ ap (λ (y : Next). onward y (settled (kind_before kind.END w at) (kind_at w at) (drop (suc at) w)) at (run_at w (suc at)))
    (h (kind_at w at) (code_at w at lw ∙ ap (λ (l : List ℕ). get_or l at 0) q) γ)

module _ {s : List ℕ} {at n : ℕ} {ι ο : List Item} where
  -- a symbol is taken, and its mark does not count
  pub taken : {μ : List Item} {r : Answer} {m : ℕ} (x : Mark) → at < length s → Within s at (λ k j v. settled k j v x ≡ none)
      → ((κ : Kind) → code_of κ ≡ get_or s at 0 → (γ : List Item) → step (ι ++ γ) κ ≡ go x (μ ++ γ)) → Reads s (at + 1) m μ ο r → m ≤ n + 4 → Reads s at n ι ο r
  taken {μ} {r} {m} x l f h a c =
      record {
        from = let y = a.from in omega arith;
        within = a.within;
        count = count-step at n m r c a.count;
        same = λ w q γ.
            step-at s at ι w q l (λ δ. go x (μ ++ δ)) h γ
            ∙ ap (λ (y : Option Refusal). unless_over y at (run_at w (suc at)) (μ ++ γ)) (f w q)
            ∙ ap (λ (y : ℕ). run_at w y (μ ++ γ)) (sym (add-one at)) ∙ a.same w q γ;
      }

  pub takes : {μ : List Item} {r : Answer} {m : ℕ} → at < length s
      → ((κ : Kind) → code_of κ ≡ get_or s at 0 → (γ : List Item) → step (ι ++ γ) κ ≡ go unmarked (μ ++ γ)) → Reads s (at + 1) m μ ο r → m ≤ n + 4 → Reads s at n ι ο r
  unfolding settled
  takes l h a c = taken unmarked l (λ w q. refl) h a c

  -- a symbol's mark counts too much: one level too deep, or one declared too many
  pub refused : {ρ : List Item → List Item} {o : declared.Refusal} (x : Mark) → at < length s → Within s at (λ k j v. settled k j v x ≡ some (refusal_is o))
      → ((κ : Kind) → code_of κ ≡ get_or s at 0 → (γ : List Item) → step (ι ++ γ) κ ≡ go x (ρ γ)) → Reads s at n ι ο (Err (record { place = at; refusal = o }))
  refused {ρ} x l f h =
      record {
        from = omega arith;
        within = omega arith;
        count = tt;
        same = λ w q γ. step-at s at ι w q l (λ δ. go x (ρ δ)) h γ ∙ ap (λ (y : Option Refusal). unless_over y at (run_at w (suc at)) (ρ γ)) (f w q);
      }

  -- a symbol, or the end, fits nothing
  pub stops : at ≤ length s → ((κ : Kind) → code_of κ ≡ get_or s at 0 → (γ : List Item) → step (ι ++ γ) κ ≡ halt) → ((γ : List Item) → ends (ι ++ γ) ≡ false)
      → Reads s at n ι ο (Err (record { place = at; refusal = NoDossier }))
  stops l h e = record { from = omega arith; within = l; count = tt; same = λ w q γ. on w q γ (ltb at (length s)) refl }
    where
      on : (w : List Symbol) → codes w ≡ s → (γ : List Item) (b : Bool) → ltb at (length s) ≡ b → run_at w at (ι ++ γ) ≡ failed at no_dossier
      on w q γ true t = step-at s at ι w q (ltb-true at (length s) t) (λ δ. halt) h γ
      on w q γ false t =
          let lw : length w ≤ at = let y = as_long w q in let z = ltb-false at (length s) t in omega arith in
          run_end w at (ι ++ γ) lw ∙ ap (λ (y : Bool). cond y complete (failed at no_dossier)) (e γ)

  -- two states that do the same at a symbol and at the end
  pub likewise : {μ : List Item} {r : Answer} → ((κ : Kind) → code_of κ ≡ get_or s at 0 → (γ : List Item) → step (ι ++ γ) κ ≡ step (μ ++ γ) κ)
      → ((γ : List Item) → ends (ι ++ γ) ≡ ends (μ ++ γ)) → Reads s at n μ ο r → Reads s at n ι ο r
  likewise {μ} {r} h e a =
      record { from = a.from; within = a.within; count = a.count; same = λ w q γ. on w q γ (ltb at (length w)) refl ∙ a.same w q γ }
    where
      on : (w : List Symbol) → codes w ≡ s → (γ : List Item) (b : Bool) → ltb at (length w) ≡ b → run_at w at (ι ++ γ) ≡ run_at w at (μ ++ γ)
      on w q γ true t =
          let lw : at < length w = ltb-true at (length w) t in
          run-at w at (ι ++ γ) lw
          ∙ ap (λ (y : Next). onward y (settled (kind_before kind.END w at) (kind_at w at) (drop (suc at) w)) at (run_at w (suc at)))
          (h (kind_at w at) (code_at w at lw ∙ ap (λ (l : List ℕ). get_or l at 0) q) γ)
          ∙ sym (run-at w at (μ ++ γ) lw)
      on w q γ false t =
          let lw : length w ≤ at = let z = ltb-false at (length w) t in omega arith in
          run_end w at (ι ++ γ) lw ∙ ap (λ (y : Bool). cond y complete (failed at no_dossier)) (e γ) ∙ sym (run_end w at (μ ++ γ) lw)

  -- a part at fault
  pub fails : {μ : List Item} {f : Fault} {m : ℕ} → Reads s at m ι μ (Err f) → Reads s at n ι ο (Err f)
  fails a = record { from = a.from; within = a.within; count = tt; same = λ w q γ. a.same w q γ }

  -- with more expected behind it
  pub framed : {r : Answer} (ρ : List Item) → Reads s at n ι ο r → Reads s at n (ι ++ ρ) (ο ++ ρ) r
  framed {r} ρ a =
      record {
        from = a.from;
        within = a.within;
        count = a.count;
        same = λ w q γ. ap (run_at w at) (append_assoc ι ρ γ) ∙ a.same w q (ρ ++ γ) ∙ ap (after r w) (sym (append_assoc ο ρ γ));
      }

  -- a result that is known to be r
  pub known : {r t : Answer} → r ≡ t → Reads s at n ι ο r → Reads s at n ι ο t
  known q a = subst (λ (x : Answer). Reads s at n ι ο x) q a

  -- other numbers are written
  pub counted : {e : Read} {c d : ℕ} → d + 4 * at ≤ c + 4 * e.at → Reads s at n ι ο (Ok e) → Reads s at c ι ο (Ok (record { at = e.at; count = d }))
  counted l a = record { from = a.from; within = a.within; count = l; same = a.same }

-- nothing more is read
pub here : {s : List ℕ} {at n : ℕ} {ο : List Item} → at ≤ length s → Reads s at n ο ο (Ok (record { at = at; count = n }))
here l = record { from = omega arith; within = l; count = omega arith; same = λ w q γ. refl }

count_next : (at n e m : ℕ) (r : Answer) → m + 4 * at ≤ n + 4 * e → Counted e m r → Counted at n r
count_next at n e m (Ok f) l h = omega arith
count_next at n e m (Err f) l h = tt

-- one part behind another
pub next : {s : List ℕ} {at n : ℕ} {e : Read} {ι μ ο : List Item} {r : Answer} → Reads s at n ι μ (Ok e) → Reads s e.at e.count μ ο r → Reads s at n ι ο r
next {at = at} {n} {e} {r = r} a b =
    record {
      from = let f = a.from in let g = b.from in omega arith;
      within = b.within;
      count = count_next at n e.at e.count r a.count b.count;
      same = λ w q γ. a.same w q γ ∙ b.same w q γ;
    }

-- two states from which the same is read to the same place
pub joined : {s : List ℕ} {at n m e c d : ℕ} {ι μ ρ ο : List Item} {r : Answer} → Reads s at m ι ρ (Ok (record { at = e; count = c })) → Reads s at m μ ρ (Ok (record { at = e; count = d })) → Reads s at n μ ο r → Reads s at n ι ο r
joined a b h = record { from = h.from; within = h.within; count = h.count; same = λ w q γ. a.same w q γ ∙ sym (b.same w q γ) ∙ h.same w q γ }

-- strictly ahead of a place is ahead of those before it
pub ahead-from : (at e : ℕ) (r : Answer) → at ≤ e → Ahead e r → Ahead at r
ahead-from at e (Ok f) l h = omega arith
ahead-from at e (Err f) l h = tt

-- two states from which the machine does the same, whatever is expected behind them
abbrev pub Alike : List ℕ → ℕ → (ι μ : List Item) → Type 0
Alike s at ι μ = (w : List Symbol) → codes w ≡ s → (γ : List Item) → run_at w at (ι ++ γ) ≡ run_at w at (μ ++ γ)

pub alike-now : (s : List ℕ) (at : ℕ) (ι μ : List Item) → ((κ : Kind) → code_of κ ≡ get_or s at 0 → (γ : List Item) → step (ι ++ γ) κ ≡ step (μ ++ γ) κ)
    → ((γ : List Item) → ends (ι ++ γ) ≡ ends (μ ++ γ)) → Alike s at ι μ
alike-now s at ι μ h e w q γ = on (ltb at (length w)) refl
  where
    on : (b : Bool) → ltb at (length w) ≡ b → run_at w at (ι ++ γ) ≡ run_at w at (μ ++ γ)
    on true t =
        let lw : at < length w = ltb-true at (length w) t in
        run-at w at (ι ++ γ) lw
        ∙ ap (λ (y : Next). onward y (settled (kind_before kind.END w at) (kind_at w at) (drop (suc at) w)) at (run_at w (suc at)))
        (h (kind_at w at) (code_at w at lw ∙ ap (λ (l : List ℕ). get_or l at 0) q) γ)
        ∙ sym (run-at w at (μ ++ γ) lw)
    on false t =
        let lw : length w ≤ at = let z = ltb-false at (length w) t in omega arith in
        run_end w at (ι ++ γ) lw ∙ ap (λ (y : Bool). cond y complete (failed at no_dossier)) (e γ) ∙ sym (run_end w at (μ ++ γ) lw)

-- both take the symbol, with marks that count alike
pub alike_then : (s : List ℕ) (at : ℕ) (ι μ ι' μ' : List Item) (x y : Mark) → at < length s
    → ((κ : Kind) → code_of κ ≡ get_or s at 0 → (γ : List Item) → step (ι ++ γ) κ ≡ go x (ι' ++ γ))
    → ((κ : Kind) → code_of κ ≡ get_or s at 0 → (γ : List Item) → step (μ ++ γ) κ ≡ go y (μ' ++ γ))
    → Within s at (λ k j v. settled k j v x ≡ settled k j v y) → Alike s (at + 1) ι' μ' → Alike s at ι μ
alike_then s at ι μ ι' μ' x y l h g f a w q γ =
    step-at s at ι w q l (λ δ. go x (ι' ++ δ)) h γ
    ∙ ap (λ (o : Option Refusal). unless_over o at (run_at w (suc at)) (ι' ++ γ)) (f w q)
    ∙ on (settled (kind_before kind.END w at) (kind_at w at) (drop (suc at) w) y)
    ∙ sym (step-at s at μ w q l (λ δ. go y (μ' ++ δ)) g γ)
  where
    on : (o : Option Refusal) → unless_over o at (run_at w (suc at)) (ι' ++ γ) ≡ unless_over o at (run_at w (suc at)) (μ' ++ γ)
    on none = ap (λ (j : ℕ). run_at w j (ι' ++ γ)) (sym (add-one at)) ∙ a w q γ ∙ ap (λ (j : ℕ). run_at w j (μ' ++ γ)) (add-one at)
    on (some r) = refl

pub alike : {s : List ℕ} {at n : ℕ} {ι μ ο : List Item} {r : Answer} → Alike s at ι μ → Reads s at n μ ο r → Reads s at n ι ο r
alike h a = record { from = a.from; within = a.within; count = a.count; same = λ w q γ. h w q γ ∙ a.same w q γ }

-- a larger number was written before
pub wider : {s : List ℕ} {at n m : ℕ} {ι ο : List Item} {r : Answer} → Reads s at n ι ο r → n ≤ m → Reads s at m ι ο r
wider {at = at} {n} {m} {r = r} a l = record { from = a.from; within = a.within; count = on r a.count; same = a.same }
  where
    on : (r : Answer) → Counted at n r → Counted at m r
    on (Ok e) h = omega arith
    on (Err f) h = tt

-- what a result that is known says
pub known-ahead : (at : ℕ) {e : Read} {r : Answer} → r ≡ Ok e → Ahead at r → at < e.at
known-ahead at q h = subst (λ (x : Answer). Ahead at x) q h
