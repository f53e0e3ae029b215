-- The demands over the definitions.
use Rattle.std.specs.Prelude.{◌≡◌, true, false, ◌⊎◌, List, [], ◌∷◌, ◌++◌, ℕ, suc, ◌<◌}
use Rattle.std.proofs.Math.Option.{some}
use Rattle.std.proofs.Math.ListN.{get_elem?}
use Rattle.form.specs.Tree.{Dossier}
use Rattle.static_rules.specs.Read.{reading, read}
use Rattle.static_rules.specs.Scope.{unprimed, inputs, outputs}
use Rattle.meaning.specs.Bindings.{Over}
use Rattle.obligations.specs.Subjects.{Subject}
use Rattle.obligations.specs.Obligations.{Obligations}
use Rattle.obligations.specs.Order.{Check, initialises, applies, corrects, total}
use Rattle.obligations.specs.Report.{check_at}
use Rattle.obligations.specs.Calls.{accepted, Held, nothing, Call, verdict, verdict_is, respond, Exchange, Trace}
use Rattle.obligations.specs.Runs.{RunsMatch}
use Rattle.obligations.specs.RefusalTable.{lent_to, expected, refusal_in}
use Rattle.obligations.specs.CallDemands.{IsRefusal, FirstFailing, whole_count, whole_fails, Loads, Advances, AnswersVerdict, Drops, none, text, last_loaded, Reached, ShowsFirst, Reports}

-- Demand 1: "gives either a result or one of the numbered refusals of document 01, each in exactly the case written there.
-- A refused call changes neither the held check nor one byte of a lent buffer."
pub record Demand1 : Type 0 where
  pub exactly : (h : Held) (c : Call) → refusal_in (respond h c).reply ≡ expected h c
  pub unchanged : (h : Held) (c : Call) → IsRefusal (respond h c).reply → ((respond h c).held ≡ h) × ((respond h c).lent ≡ lent_to c)

-- a check of the subject: each group over its carriers, an operation at its number
unfoldable pub IsCheck : Subject → Check → Type 0
IsCheck σ (initialises c) = Over (unprimed σ.dossier σ.dossier.concrete) c
IsCheck σ (applies k op a c i) =
    (get_elem? σ.dossier.operations k ≡ some op) × Over (unprimed σ.dossier σ.dossier.abstract) a
    × Over (unprimed σ.dossier σ.dossier.concrete) c × Over (inputs σ.dossier op) i
IsCheck σ (corrects k op a c i o c') =
    (get_elem? σ.dossier.operations k ≡ some op) × Over (unprimed σ.dossier σ.dossier.abstract) a
    × Over (unprimed σ.dossier σ.dossier.concrete) c × Over (inputs σ.dossier op) i
    × Over (outputs σ.dossier op) o × Over (unprimed σ.dossier σ.dossier.concrete) c'

-- places and checks are one to one
pub record OneToOne (σ : Subject) : Type 0 where
  pub inside : (p : ℕ) → p < total σ → IsCheck σ (check_at σ p)
  pub reached : (x : Check) → IsCheck σ x → (p : ℕ) × (p < total σ) × (check_at σ p ≡ x)
  pub once : (p q : ℕ) → p < total σ → q < total σ → check_at σ p ≡ check_at σ q → p ≡ q

-- "A dossier is accepted exactly if no binding over its carriers breaks initialisation, applicability or correctness ..., and refuted exactly if one does."
pub record Accurate (σ : Subject) : Type 0 where
  pub sound : whole_fails σ ≡ false → Obligations σ
  pub complete : Obligations σ → whole_fails σ ≡ false
  pub whole : whole_fails σ ≡ false → whole_count σ ≡ total σ
  pub first : whole_fails σ ≡ true → (q : ℕ) × ((whole_count σ ≡ suc q) × FirstFailing σ q)

-- Demand 2: "The binding shown is the first in the fixed order, and the count printed is how many were looked at up to it.", and what each call shows of it
pub record Demand2 : Type 0 where
  pub accurate : (σ : Subject) → Accurate σ
  pub ordered : (σ : Subject) → OneToOne σ
  pub decided : (σ : Subject) → Obligations σ ⊎ ((q : ℕ) × FirstFailing σ q)
  pub loads : Loads
  pub advances : Advances
  pub answers : AnswersVerdict
  pub drops : Drops
  pub reached : (xs : List Exchange) → Trace nothing xs → Reached xs
  pub shows : ShowsFirst
  pub reports : Reports

abbrev pub acceptance : Exchange
acceptance = record { call = verdict; reply = verdict_is accepted; lent = [] }

-- Demand 3: "Take any list of the calls ..., with any arguments, refused ones included, from nothing held on. Of every dossier that a verdict in it calls accepted, this holds"
abbrev pub Demand3 : Type 0
Demand3 = (xs : List Exchange) → Trace nothing xs
    → (earlier later : List Exchange) → xs ≡ earlier ++ (acceptance ∷ later)
    → (t : List ℕ) × ((d : Dossier) × ((last_loaded none earlier ≡ text t) × (read t ≡ reading d) × RunsMatch d))
