-- The letters of every entry and every title are those of a name of the text.
use mathlib.Core.Path.{refl}
use mathlib.Core.List.{List, [], ◌∷◌}
use Prim.Native.Nat.{ℕ, suc, ◌+◌}
use Rattle.lexical.specs.Kinds as kind
use Rattle.lexical.specs.Kinds.{Kind}
use Rattle.lexical.specs.Symbols.{Symbol}
use Rattle.form.specs.Tree.{Letters, Given, Operation, Dossier}
use Rattle.form.specs.Written.{Mark, a_given, an_operation, Written, bare, write_entries, write_givens, write_state, write_where}
use Rattle.form.specs.Written.{write_operations, write_contents, written, symbols_of}
use Rattle.form.specs.Headings.{givens_at, operations_at, given_length, operation_length}
use Rattle.form.specs.Codes.{Numbering}
use Rattle.parser.proofs.BodyFaults.{Has, Knows, KnowsTitles}
use Rattle.parser.proofs.TitledBodies.{given_bodies, operation_bodies}
use Rattle.form.proofs.RelationsBehind as kept
use Rattle.form.proofs.Takes.{symbols_in}

-- the letters y are those of a name in the first list
abbrev In : Letters → List Written → List Written → Type 0
In y u v = Has (symbols_in u) y

there : (y : Letters) (x z : Written) (u v : List Written) → In y u v → In y (x ∷ u) (z ∷ v)
there y x z u v h = record { index = suc h.index; is = h.is }

-- a name behind another symbol
later : {y : Letters} {x : Symbol} {w : List Symbol} → Has w y → Has (x ∷ w) y
later h = record { index = suc h.index; is = h.is }

-- what is written inside the text w
abbrev Embeds : List Written → List Symbol → Type 0
Embeds u w = (y : Letters) → Has (symbols_in u) y → Has w y

entries-known : (w : List Symbol) (k : Kind) (m : ℕ → Mark) (n : ℕ) (xs : List Letters) (u : List Written) → Embeds (write_entries k m n xs u) w → Knows w xs
unfolding write_entries
entries-known w k m n [] u f = tt
entries-known w k m n (x ∷ xs) u f =
    (f x (record { index = 1; is = refl }), entries-known w k m (suc n) xs u (λ y h. f y (later (later h))))

givens-known : (w : List Symbol) (n i : ℕ) (gs : List Given) (ρ : Numbering) (u : List Written) → Embeds (write_givens n gs u) w → KnowsTitles w (given_bodies i gs ρ)
unfolding write_givens
givens-known w n i [] ρ u f = tt
givens-known w n i (g ∷ gs) ρ u f = (
  f g.title (record { index = 1; is = refl }),
  givens-known w (suc n) (i + given_length g) gs ρ u (λ y h. f y (kept.given (In y) (there y) n n g gs gs u u h)),
)

operations-known : (w : List Symbol) (n i : ℕ) (os : List Operation) (ρ : Numbering) (u : List Written) → Embeds (write_operations n os u) w → KnowsTitles w (operation_bodies i os ρ)
unfolding write_operations
operations-known w n i [] ρ u f = tt
operations-known w n i (o ∷ os) ρ u f = (
  f o.title (record { index = 1; is = refl }),
  operations-known w (suc n) (i + operation_length o) os ρ u (λ y h. f y (kept.operation (In y) (there y) n n o os os u u h)),
)

module _ (d : Dossier) where
  -- what is written from each part on
  abbrev from_operations : List Written
  from_operations = write_operations 0 d.operations []

  abbrev from_states : List Written
  from_states =
      bare kind.ABSTRACT ∷ write_state d.abstract (bare kind.CONCRETE ∷ write_state d.concrete (bare kind.AINIT
      ∷ write_where d.ainit (bare kind.CINIT ∷ write_where d.cinit (bare kind.RETRIEVE ∷ write_where d.retrieve from_operations))))

  abbrev from_givens : List Written
  from_givens = write_givens 0 d.givens from_states

  pub given-entries-known : Knows (symbols_of d) d.given_entries
  unfolding symbols_of written write_contents
  given-entries-known = entries-known (symbols_of d) kind.GIVEN a_given 0 d.given_entries _ (λ y h. later h)

  pub operation-entries-known : Knows (symbols_of d) d.operation_entries
  unfolding symbols_of written write_contents
  operation-entries-known =
      entries-known (symbols_of d) kind.OP an_operation 0 d.operation_entries (bare kind.END ∷ from_givens) (λ y h.
      later (kept.entries (In y) (there y) kind.GIVEN a_given 0 0 d.given_entries _ []
      (later (later (later (later (later h)))))))

  contents_embed : Embeds from_givens (symbols_of d)
  unfolding symbols_of written
  contents_embed y h = kept.contents (In y) (there y) d from_givens [] h

  pub given-titles-known : (ρ : Numbering) → KnowsTitles (symbols_of d) (given_bodies (givens_at d) d.givens ρ)
  given-titles-known ρ = givens-known (symbols_of d) 0 (givens_at d) d.givens ρ from_states contents_embed

  pub operation-titles-known : (ρ : Numbering) → KnowsTitles (symbols_of d) (operation_bodies (operations_at d) d.operations ρ)
  operation-titles-known ρ =
      operations-known (symbols_of d) 0 (operations_at d) d.operations ρ [] (λ y h.
      contents_embed y (kept.givens (In y) (there y) 0 0 d.givens from_states []
      (later (kept.state (In y) (there y) d.abstract _ []
      (later (kept.state (In y) (there y) d.concrete _ []
      (later (kept.condition (In y) (there y) d.ainit _ []
      (later (kept.condition (In y) (there y) d.cinit _ []
      (later (kept.condition (In y) (there y) d.retrieve _ [] h))))))))))))
