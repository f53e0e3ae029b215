-- What a check is about.
use Rattle.form.specs.Tree.{Dossier}

pub record Subject : Type 0 where
  pub dossier : Dossier

-- of a text that is read
abbrev pub subject_of : Dossier → Subject
subject_of d = record { dossier = d }
