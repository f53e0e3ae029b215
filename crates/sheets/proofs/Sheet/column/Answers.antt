-- `sheets::Sheet::column` meets its contract. Assumes nothing.
use Rattle.std.proofs.Common.{◌≡◌, ap, ◌∙◌, ℕ, ◌-◌, List, length, subst}
use Rattle.text_places.specs.PlacePromises.{LineStart}
use Rattle.text_places.proofs.LineLaws.{one-start}
use Rattle.sheets.proofs.Sheet.column.Goals as goal

pub returns : goal.returns
returns c =
    let same : c.as_slice-text.result.now ≡ c.args.self.now.text = c.as_slice-text.ensures.value in
    λ r s.
    let here : LineStart c.args.self.now.text (length c.args.self.now.text) c.line_start.result = subst (λ (t : List ℕ). LineStart t (length t) c.line_start.result) same c.line_start.ensures in
    ap (λ (t : List ℕ). length t - c.line_start.result) same ∙ ap (λ (q : ℕ). length c.args.self.now.text - q) (one-start here s)
