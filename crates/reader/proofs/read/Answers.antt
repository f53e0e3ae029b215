-- `read` meets its contract: the first fault refuses, and where there is none the arrays are written.
use mathlib.Core.Path.{◌≡◌, refl, ap, sym}
use borrow.Author.Rules.{rules}
use native.Mathlib.Omega.{arith}
use lib.ListN.{length, take, get_or}
use lib.Seq.{length-take-le}
use Rattle.std.proofs.lemmas.Result.{err_from_is_err_and}
use Rattle.type_rules.specs.Passes.{refused_key}
use Rattle.parser.proofs.ParseAnswers.{ok-before, err-before}
use Rattle.reader.proofs.LaterPasses.{refuses, all_pass}
use Rattle.reader.proofs.PassAnswers.{few-symbols, reads-structure, reads-refusal, unwritten}
use Rattle.reader.proofs.read.Goals as goal

pub slice_bounds-starts-end : goal.slice_bounds-starts-end
slice_bounds-starts-end c =
    let few = few-symbols c.parse.ensures (search rules) c.in_ok-structure.was in
    let starts : length c.parse.new.starts ≡ 4096 = search rules in
    sym (length-take-le c.in_ok-structure.structure.symbols c.parse.new.starts (omega (arith, few, starts)))

pub returns : goal.returns
returns c =
    let q = ok-before c.passes.result _ c.in_ok-map_err.was c.map_err.ensures.cases in
    reads-structure c.parse.ensures (search rules) c.in_ok-structure.was _
    (all_pass _ _ c.parse.new.starts c.in_ok-structure.structure.symbols (length c.args.text.now) c.parse.new.nodes c.in_ok-structure.structure.numbers _ c.passes.ensures (ap refused_key q) _
    c.in_ok-structure.structure refl refl refl c.leave.ensures)

pub returns-in_err-structure : goal.returns-in_err-structure
returns-in_err-structure c =
    let p = err_from_is_err_and c.from_residual.result c.from_residual.ensures.1 in rw (p.1, p.2) (reads-refusal c.parse.ensures c.in_err-structure.was (unwritten _ _ _ _ _))

pub returns-in_err-map_err : goal.returns-in_err-map_err
returns-in_err-map_err c =
    let p = err-before c.passes.result _ c.in_err-map_err.was c.map_err.ensures.cases in
    let g = c.in_err-map_err.field-0.0 in
    let e : g.place ≡ get_or (take c.in_ok-structure.structure.symbols c.parse.new.starts) p.0.place (length c.args.text.now) = (let z = p.1.1 in cc) in
    let h : g.refusal ≡ p.0.refusal = (let z = p.1.1 in cc) in
    let r = err_from_is_err_and c.from_residual-in_err-map_err.result c.from_residual-in_err-map_err.ensures.1 in
    rw (r.1, r.2)
    (reads-structure c.parse.ensures (search rules) c.in_ok-structure.was _
    (refuses _ _ c.parse.new.starts c.in_ok-structure.structure.symbols (length c.args.text.now) c.parse.new.nodes c.in_ok-structure.structure.numbers _ c.passes.ensures p.0 g (ap refused_key p.1.0) e h
    (unwritten _ _ _ _ _)))
