-- ainit, cinit and retrieve: the names in their reach, their faults, and the table behind them.
use mathlib.Core.Path.{◌≡◌, refl, ap, ap₂, ◌∙◌, sym}
use mathlib.Core.Bool.{Bool, true, false, cond}
use mathlib.Core.List.{List, [], ◌∷◌, ◌++◌}
use mathlib.Core.Option.{Option, none}
use Prim.Native.Nat.{◌+◌}
use native.Mathlib.Omega.{arith}
use lib.ListN.{length}
use Rattle.lexical.specs.Kinds as kind
use Rattle.lexical.specs.Lists.{find}
use Rattle.lexical.specs.Symbols.{Name, no_ending}
use Rattle.form.specs.Tree.{Letters, Given, Declaration, declarations, Pred, Dossier}
use Rattle.form.specs.Written.{Written, bare, write_where}
use Rattle.form.specs.Headings.{ainit_at, cinit_at, retrieve_at}
use Rattle.form.specs.Codes.{Numbering}
use Rattle.declared_names.specs.StaticRulesCarriers.{Variable, same_name}
use Rattle.declared_names.specs.StaticRulesTypes.{Ty}
use Rattle.declared_names.specs.StaticRulesScope.{variables}
use Rattle.declared_names.specs.StaticRulesNames.{judge_pred}
use Rattle.type_rules.specs.TypesByNumber.{Names, Sizes, least_key}
use Rattle.declared_names.specs.NamesByNumber.{variables_of, shown, hidden, conditions_key, conditions_named}
use Rattle.names.proofs.ReachTables.{Numbered, PredIn, Shows}
use Rattle.names.proofs.TypesAgreeWidths.{wide_pred, pred-length}
use Rattle.names.proofs.TypesAgreeScope.{find-here, find-there}
use Rattle.names.proofs.TypesAgree.{judged-pred}
use Rattle.names.proofs.PassAgreesPlaces.{pred-within, within-append, wider}
use Rattle.names.proofs.PassAgreesOrder.{behind}
use Rattle.names.proofs.PassAgreesTables.{Sees}
use Rattle.names.proofs.PassAgreesTypes.{Sized}
use Rattle.names.proofs.PassAgreesDeclared.{found, or_type, fresh-none, has_typed}
use Rattle.names.proofs.PassAgreesUse.{in_use}
use Rattle.names.proofs.PassAgreesGivens.{GivensIn}
use Rattle.names.proofs.PassAgreesNamed.{element_type, Base}
use Rattle.names.proofs.PassAgreesStates.{scope}
use Rattle.names.proofs.PassAgreesScopes.{TitlesIn, shows, Group, group-none, group-shown, group-hidden}

pub found-append : (vs ws : List Variable) (y : Name) (t : Option Ty) → or_type (found (vs ++ ws) y) t ≡ or_type (found vs y) (or_type (found ws y) t)
unfolding find
found-append [] ws y t = refl
found-append (v ∷ vs) ws y t = on (same_name v.called y) refl (found-append vs ws y t)
  where
    on : (b : Bool) → same_name v.called y ≡ b → or_type (found (vs ++ ws) y) t ≡ or_type (found vs y) (or_type (found ws y) t)
        → or_type (found (v ∷ (vs ++ ws)) y) t ≡ or_type (found (v ∷ vs) y) (or_type (found ws y) t)
    on true e r =
        ap (λ (o : Option Variable). or_type o t) (find-here (λ (w : Variable). same_name w.called y) v (vs ++ ws) e)
        ∙ sym (ap (λ (o : Option Variable). or_type o (or_type (found ws y) t)) (find-here (λ (w : Variable). same_name w.called y) v vs e))
    on false e r =
        ap (λ (o : Option Variable). or_type o t) (find-there (λ (w : Variable). same_name w.called y) v (vs ++ ws) e) ∙ r
        ∙ sym (ap (λ (o : Option Variable). or_type o (or_type (found ws y) t)) (find-there (λ (w : Variable). same_name w.called y) v vs e))

pub where-length : (p : Pred) (w : List Written) → length (write_where p w) ≡ 2 + wide_pred p + length w
unfolding write_where
where-length p w = omega (arith, pred-length p 0 0 (bare kind.END ∷ w))

-- the declared names are in use
abbrev pub AreUsed : List Declaration → List Letters → Type 0
AreUsed ds us = (y : Name) → has_typed (variables_of no_ending ds) y ≡ true → in_use us y ≡ true

pub use-same : (b c : Bool) → (b ≡ true → c ≡ true) → cond b true c ≡ c
use-same true c h = sym (h refl)
use-same false c h = refl

module _ (ρ : Numbering) (P : Letters → Type 0) (ν : Numbered ρ P) {gs : List Given} (p : GivensIn P gs) (z : Sizes) (d : Sized gs z) where
  -- variables that are in use come into reach
  again : {xs : List Letters} {ds : List Declaration} → Group ρ P ν p z d xs ds → (us : List Letters) → AreUsed ds us → {T : Names} {r : Name → Option Ty} → Sees ρ P gs T (in_use us) r
      → Sees ρ P gs (shown (variables_of no_ending ds) 0 T ρ) (in_use us) (λ (y : Name). or_type (found (variables gs no_ending ds) y) (r y))
  again {ds = ds} g us h s = group-shown ρ P ν p z d g s (in_use us) (λ y. use-same (has_typed (variables_of no_ending ds) y) (in_use us y) (h y))

  -- and go out of it
  leave : {xs : List Letters} {ds : List Declaration} → Group ρ P ν p z d xs ds → (us : List Letters) → AreUsed ds us → {T : Names} {r : Name → Option Ty}
      → Sees ρ P gs T (in_use us) (λ (y : Name). or_type (found (variables gs no_ending ds) y) (r y))
      → ((y : Name) → has_typed (variables_of no_ending ds) y ≡ true → r y ≡ none) → Sees ρ P gs (hidden (variables_of no_ending ds) 0 2 T ρ) (in_use us) r
  leave {ds = ds} g us h {r = r} s k =
      group-hidden ρ P ν p z d g s (in_use us) r (λ y e. (refl, ap (λ (o : Option Variable). or_type o (r y)) (group-none ρ P ν p z d g y e))) (λ y e. (h y e, k y e))

  module _ {xs ys : List Letters} {av cv : List Declaration} (a : Group ρ P ν p z d xs av) (c : Group ρ P ν p z d ys cv) (us : List Letters) (ua : AreUsed av us) (uc : AreUsed cv us)
      {T : Names} (s : Base ρ P gs T us) where
    ainit-sees : Sees ρ P gs (shown (variables_of no_ending av) 0 T ρ) (in_use us) (λ (y : Name). or_type (found (variables gs no_ending av) y) (element_type gs y))
    ainit-sees = again a us ua s

    ainit-left : Base ρ P gs (hidden (variables_of no_ending av) 0 2 (shown (variables_of no_ending av) 0 T ρ) ρ) us
    ainit-left = leave a us ua ainit-sees (λ y e. (a.away y e).1)

    cinit-sees : Sees ρ P gs (shown (variables_of no_ending cv) 0 (hidden (variables_of no_ending av) 0 2 (shown (variables_of no_ending av) 0 T ρ) ρ) ρ) (in_use us)
        (λ (y : Name). or_type (found (variables gs no_ending cv) y) (element_type gs y))
    cinit-sees = again c us uc ainit-left

    retrieve-sees : Sees ρ P gs (shown (variables_of no_ending av) 0 (shown (variables_of no_ending cv) 0 (hidden (variables_of no_ending av) 0 2 (shown (variables_of no_ending av) 0 T ρ) ρ) ρ) ρ)
        (in_use us) (λ (y : Name). or_type (found (variables gs no_ending av) y) (or_type (found (variables gs no_ending cv) y) (element_type gs y)))
    retrieve-sees = again a us ua cinit-sees

    retrieve-left : AreUsed av ys → Base ρ P gs (hidden (variables_of no_ending cv) 0 2
        (hidden (variables_of no_ending av) 0 2 (shown (variables_of no_ending av) 0 (shown (variables_of no_ending cv) 0 (hidden (variables_of no_ending av) 0 2 (shown (variables_of no_ending av) 0 T ρ) ρ) ρ) ρ) ρ) ρ) us
    retrieve-left ac =
        leave c us uc
        (leave a us ua retrieve-sees
        (λ y e. ap₂ (λ (o : Option Variable) (t : Option Ty). or_type o t) (fresh-none c.fresh y (ac y e)) (a.away y e).1))
        (λ y e. (c.away y e).1)

    -- the names in reach of ainit, cinit and retrieve
    module _ (t : TitlesIn gs us) where
      pub ainit-shows : Shows ρ P (scope gs us (variables gs no_ending av)) (shown (variables_of no_ending av) 0 T ρ) z
      ainit-shows = shows ρ P ν p z d ainit-sees us (variables gs no_ending av) t (λ l. refl) (λ y. refl)

      pub cinit-shows : Shows ρ P (scope gs us (variables gs no_ending cv)) (shown (variables_of no_ending cv) 0 (hidden (variables_of no_ending av) 0 2 (shown (variables_of no_ending av) 0 T ρ) ρ) ρ) z
      cinit-shows = shows ρ P ν p z d cinit-sees us (variables gs no_ending cv) t (λ l. refl) (λ y. refl)

      pub retrieve-shows : Shows ρ P (scope gs us (variables gs no_ending av ++ variables gs no_ending cv))
          (shown (variables_of no_ending av) 0 (shown (variables_of no_ending cv) 0 (hidden (variables_of no_ending av) 0 2 (shown (variables_of no_ending av) 0 T ρ) ρ) ρ) ρ) z
      retrieve-shows =
          shows ρ P ν p z d retrieve-sees us (variables gs no_ending av ++ variables gs no_ending cv) t (λ l. refl)
          (λ y. sym (found-append (variables gs no_ending av) (variables gs no_ending cv) y (element_type gs y)))

  module _ (D : Dossier) {xs ys : List Letters} (a : Group ρ P ν p z d xs (declarations D.abstract)) (c : Group ρ P ν p z d ys (declarations D.concrete)) (us : List Letters)
      (ua : AreUsed (declarations D.abstract) us) (uc : AreUsed (declarations D.concrete) us) (ac : AreUsed (declarations D.abstract) ys) (t : TitlesIn gs us)
      {T : Names} (s : Base ρ P gs T us) where
    pub conditions-named : Base ρ P gs (conditions_named D T ρ) us
    unfolding conditions_named
    conditions-named = retrieve-left a c us ua uc s ac

    pub conditions-least : PredIn P D.ainit → PredIn P D.cinit → PredIn P D.retrieve
        → conditions_key D T ρ z
        ≡ least_key ((judge_pred D.ainit (scope gs us (variables gs no_ending (declarations D.abstract))) (ainit_at D + 2)).faults
        ++ ((judge_pred D.cinit (scope gs us (variables gs no_ending (declarations D.concrete))) (cinit_at D + 2)).faults
        ++ (judge_pred D.retrieve (scope gs us (variables gs no_ending (declarations D.abstract) ++ variables gs no_ending (declarations D.concrete))) (retrieve_at D + 2)).faults))
    unfolding conditions_key cinit_at retrieve_at
    conditions-least pa pc pr =
        let w = pred-within D.cinit (scope gs us (variables gs no_ending (declarations D.concrete))) (cinit_at D + 2) in
        let v = pred-within D.retrieve (scope gs us (variables gs no_ending (declarations D.abstract) ++ variables gs no_ending (declarations D.concrete))) (retrieve_at D + 2) in
        let l = where-length D.ainit [] in let m = where-length D.cinit [] in
        behind {d = retrieve_at D + 2 + wide_pred D.retrieve} _ _ (pred-within D.ainit (scope gs us (variables gs no_ending (declarations D.abstract))) (ainit_at D + 2))
        (within-append (wider (cinit_at D + 2) _ w (omega arith) (omega arith)) (wider (cinit_at D + 2) _ v (omega arith) (omega arith))) (omega arith)
        (judged-pred ρ P ν D.ainit (scope gs us (variables gs no_ending (declarations D.abstract))) _ z (ainit-shows a c us ua uc s t) pa (ainit_at D + 2)).0
        (λ e. behind _ _ w v (omega arith)
        (judged-pred ρ P ν D.cinit (scope gs us (variables gs no_ending (declarations D.concrete))) _ z (cinit-shows a c us ua uc s t) pc (cinit_at D + 2)).0
        (λ f. (judged-pred ρ P ν D.retrieve (scope gs us (variables gs no_ending (declarations D.abstract) ++ variables gs no_ending (declarations D.concrete))) _ z
        (retrieve-shows a c us ua uc s t) pr (retrieve_at D + 2)).0))
