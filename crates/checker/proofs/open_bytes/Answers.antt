-- `checker::open_bytes` meets its contract: the bytes are laid, their text is read, and their mark fits their place.
use mathlib.Core.Path.{sym, ◌∙◌}
use Rattle.checker.proofs.OpenLaws.{text-read, all_asked, opens_unlaid, opens_unread, opens_unmarked, opens_misfit, opens-held}
use Rattle.part_places.specs.Places.{AllAsked, TotalIs}
use Rattle.text_readings.proofs.LentArrays.{lent, given-back}
use Rattle.checker.proofs.open_bytes.Goals as goal

pub returns-in_err-text : goal.returns-in_err-text
returns-in_err-text c = rw c.from_residual.ensures (opens_unlaid (rw c.in_err-text.was at c.text_in.ensures))

pub returns-in_err-operations : goal.returns-in_err-operations
returns-in_err-operations c =
    let t = rw c.in_ok-text.was at c.text_in.ensures in
    rw c.from_residual-in_err-operations.ensures (opens_unread c.args.held.now t.0 t.1 c.read.ensures c.ok.ensures.value c.in_err-operations.was)

pub total-all-requires : goal.total-all-requires
total-all-requires c = lent c.dossier.ensures (λ t r f g n. AllAsked t g n) (all_asked (text-read c.read.ensures c.ok.ensures.value c.in_ok-operations.was))

pub returns-in_err-mark : goal.returns-in_err-mark
returns-in_err-mark c =
    let t = rw c.in_ok-text.was at c.text_in.ensures in
    rw c.from_residual-in_err-mark.ensures
    (opens_unmarked c.args.held.now t.0 t.1 (text-read c.read.ensures c.ok.ensures.value c.in_ok-operations.was)
    (given-back c.dossier.ensures (λ t r f g n. TotalIs t g n c.total-all.result) c.total-all.ensures) c.mark_in.ensures c.in_err-mark.was)

pub returns-then-not-fits : goal.returns-then-not-fits
returns-then-not-fits c =
    let t = rw c.in_ok-text.was at c.text_in.ensures in
    opens_misfit c.args.held.now t.0 t.1 (text-read c.read.ensures c.ok.ensures.value c.in_ok-operations.was) (given-back c.dossier.ensures (λ t r f g n. TotalIs t g n c.total-all.result) c.total-all.ensures)
    c.place_in-place.result c.in_ok-mark.mark c.place_in-place.ensures c.in_ok-mark.ensures (sym c.fits.ensures ∙ c.if-not-fits.true)

pub returns : goal.returns
returns c =
    let t = rw c.in_ok-text.was at c.text_in.ensures in
    record {
      answer =
          opens-held c.args.held.now t.0 t.1 (text-read c.read.ensures c.ok.ensures.value c.in_ok-operations.was) (given-back c.dossier.ensures (λ t r f g n. TotalIs t g n c.total-all.result) c.total-all.ensures)
          c.place_in-place.result c.in_ok-mark.mark c.place_in-place.ensures c.in_ok-mark.ensures (sym c.fits.ensures ∙ c.if-not-fits.false);
    }
