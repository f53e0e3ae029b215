-- `contents::words` meets its contract.
use mathlib.Core.Path.{refl}
use mathlib.Core.List.{[], ◌∷◌}
use Rattle.form.specs.Machine.{exact}
use Rattle.form.specs.Computed.{compute_form}
use Rattle.form_nodes.proofs.ReadParts.{exits, next, fails, framed, known}
use Rattle.form_nodes.proofs.NodesOfParts.{closed}
use Rattle.declarations.proofs.ListNodes.{words-shown}
use Rattle.lexical.specs.Kinds as kind
use Rattle.declarations.proofs.contents.words.Goals as goal

pub returns : goal.returns
unfolding compute_form
returns c = (next (framed (exact kind.CONCRETE ∷ exact kind.AINIT ∷ exact kind.CINIT ∷ exact kind.RETRIEVE ∷ []) (known c.in_ok-abstracts.was (c.close.ensures.reads kind.ABSTRACT refl))) (next (framed (exact kind.AINIT ∷ exact kind.CINIT ∷ exact kind.RETRIEVE ∷ []) (known c.in_ok-concretes.was (c.close-2.ensures.reads kind.CONCRETE refl))) (next (framed (exact kind.CINIT ∷ exact kind.RETRIEVE ∷ []) (known c.in_ok-ainit.was (c.close-3.ensures.reads kind.AINIT refl))) (next (framed (exact kind.RETRIEVE ∷ []) (known c.in_ok-cinit.was (c.close-4.ensures.reads kind.CINIT refl))) (c.close-5.ensures.reads kind.RETRIEVE refl)))), words-shown c.args.from.at c.close-5.result (closed c.in_ok-abstracts.was c.close.ensures) (closed c.in_ok-concretes.was c.close-2.ensures) (closed c.in_ok-ainit.was c.close-3.ensures) (closed c.in_ok-cinit.was c.close-4.ensures) c.close-5.ensures)

pub returns-in_err-cinit : goal.returns-in_err-cinit
unfolding compute_form
returns-in_err-cinit c = rw (exits c.from_residual-in_err-cinit.result c.from_residual-in_err-cinit.ensures.1) ((next (framed (exact kind.CONCRETE ∷ exact kind.AINIT ∷ exact kind.CINIT ∷ exact kind.RETRIEVE ∷ []) (known c.in_ok-abstracts.was (c.close.ensures.reads kind.ABSTRACT refl))) (next (framed (exact kind.AINIT ∷ exact kind.CINIT ∷ exact kind.RETRIEVE ∷ []) (known c.in_ok-concretes.was (c.close-2.ensures.reads kind.CONCRETE refl))) (next (framed (exact kind.CINIT ∷ exact kind.RETRIEVE ∷ []) (known c.in_ok-ainit.was (c.close-3.ensures.reads kind.AINIT refl))) (fails (framed (exact kind.RETRIEVE ∷ []) (known c.in_err-cinit.was (c.close-4.ensures.reads kind.CINIT refl)))))), tt))

pub returns-in_err-ainit : goal.returns-in_err-ainit
unfolding compute_form
returns-in_err-ainit c = rw (exits c.from_residual-in_err-ainit.result c.from_residual-in_err-ainit.ensures.1) ((next (framed (exact kind.CONCRETE ∷ exact kind.AINIT ∷ exact kind.CINIT ∷ exact kind.RETRIEVE ∷ []) (known c.in_ok-abstracts.was (c.close.ensures.reads kind.ABSTRACT refl))) (next (framed (exact kind.AINIT ∷ exact kind.CINIT ∷ exact kind.RETRIEVE ∷ []) (known c.in_ok-concretes.was (c.close-2.ensures.reads kind.CONCRETE refl))) (fails (framed (exact kind.CINIT ∷ exact kind.RETRIEVE ∷ []) (known c.in_err-ainit.was (c.close-3.ensures.reads kind.AINIT refl))))), tt))

pub returns-in_err-concretes : goal.returns-in_err-concretes
unfolding compute_form
returns-in_err-concretes c = rw (exits c.from_residual-in_err-concretes.result c.from_residual-in_err-concretes.ensures.1) ((next (framed (exact kind.CONCRETE ∷ exact kind.AINIT ∷ exact kind.CINIT ∷ exact kind.RETRIEVE ∷ []) (known c.in_ok-abstracts.was (c.close.ensures.reads kind.ABSTRACT refl))) (fails (framed (exact kind.AINIT ∷ exact kind.CINIT ∷ exact kind.RETRIEVE ∷ []) (known c.in_err-concretes.was (c.close-2.ensures.reads kind.CONCRETE refl)))), tt))

pub returns-in_err-abstracts : goal.returns-in_err-abstracts
unfolding compute_form
returns-in_err-abstracts c = rw (exits c.from_residual.result c.from_residual.ensures.1) ((fails (framed (exact kind.CONCRETE ∷ exact kind.AINIT ∷ exact kind.CINIT ∷ exact kind.RETRIEVE ∷ []) (known c.in_err-abstracts.was (c.close.ensures.reads kind.ABSTRACT refl))), tt))
