-- `parser::parse` meets its contract.
use mathlib.Core.Option.{none, some}
use mathlib.Core.Path.{◌≡◌, refl, ap, sym, subst, ◌∙◌}
use Rattle.parser.specs.Sections.{Differs, heading_of}
use Rattle.lexical.specs.Promises.{fault_of}
use Rattle.refusals.specs.RefusalNames.{fault_is}
use borrow.Author.Rules.{rules}
use lib.ListN.{length, take, drop, get_or}
use mathlib.Core.List.{List, ◌++◌}
use Prim.Native.Nat.{ℕ}
use lib.Seq.{length-take-le}
use native.Mathlib.Omega.{arith}
use Rattle.form_nodes.proofs.ReadParts.{exits}
use Rattle.parser.proofs.ParseAnswers.{left-of, parses, refused-as, ok-before, err-before, few-symbols, formed-as, form-fault, heading-fault, whole-structure}
use Rattle.parser.proofs.parse.Goals as goal

pub slice_bounds-y-end : goal.slice_bounds-y-end
slice_bounds-y-end c = let codes : length c.scan.new.codes ≡ 4096 = search rules in let few = few-symbols (left-of c.scan.ensures c.in_ok-n.was) in let l = length-take-le c.in_ok-n.n c.scan.new.codes (omega (arith, codes)) in sym l

pub slice_bounds-y-end-2 : goal.slice_bounds-y-end-2
slice_bounds-y-end-2 c = let values : length c.scan.new.values ≡ 4096 = search rules in let few = few-symbols (left-of c.scan.ensures c.in_ok-n.was) in sym (length-take-le c.in_ok-n.n c.scan.new.values (omega (arith, values)))

pub dossier-requires : goal.dossier-requires
dossier-requires c = let lent : length c.args.nodes.now ≡ 16384 = search rules in omega (arith, lent)

pub returns : goal.returns
returns c = let codes : length c.scan.new.codes ≡ 4096 = search rules in let few = few-symbols (left-of c.scan.ensures c.in_ok-n.was) in let l = length-take-le c.in_ok-n.n c.scan.new.codes (omega (arith, codes)) in let g = formed-as (ok-before c.dossier.result _ c.in_ok-read.was c.map_err.ensures.cases) c.dossier.ensures in let kept = c.dossier.auto.code in parses c.scan.ensures none (ap fault_of c.in_ok-n.was) (whole-structure (left-of c.scan.ensures c.in_ok-n.was) g (omega (arith, g.ended.1, kept, few, l)) (heading_of c.headings.result) c.headings.ensures.0 (ap heading_of (ok-before c.headings.result _ c.in_ok-map_err.was c.map_err-2.ensures.cases)) _ _ (ap (λ (l : List ℕ). l ++ drop c.in_ok-read.read.count c.args.nodes.now) c.copy_from_slice.ensures.after))

pub returns-in_err-map_err : goal.returns-in_err-map_err
returns-in_err-map_err c = let codes : length c.scan.new.codes ≡ 4096 = search rules in let few = few-symbols (left-of c.scan.ensures c.in_ok-n.was) in let l = length-take-le c.in_ok-n.n c.scan.new.codes (omega (arith, codes)) in let g = formed-as (ok-before c.dossier.result _ c.in_ok-read.was c.map_err.ensures.cases) c.dossier.ensures in let kept = c.dossier.auto.code in
    let p = err-before c.headings.result _ c.in_err-map_err.was c.map_err-2.ensures.cases in
    let f = c.in_err-map_err.field-0.0 in
    let at : f.place ≡ get_or (take c.in_ok-n.n c.scan.new.starts) p.0.place (length c.args.text.now) = search rules in
    let same : f.refusal ≡ p.0.refusal = search rules in
    rw (exits c.from_residual-in_err-map_err.result c.from_residual-in_err-map_err.ensures.1) (parses c.scan.ensures none (ap fault_of c.in_ok-n.was) (refused-as _ _ f (same ∙ subst (λ r. Differs r) p.1.0 c.headings.ensures.1) (heading-fault (left-of c.scan.ensures c.in_ok-n.was) g (omega (arith, g.ended.1, kept, few, l)) (heading_of c.headings.result) c.headings.ensures.0 (ap heading_of p.1.0) _ at)))

pub returns-in_err-read : goal.returns-in_err-read
returns-in_err-read c =
    let p = err-before c.dossier.result _ c.in_err-read.was c.map_err.ensures.cases in
    let g = c.in_err-read.field-0.0 in
    let e : g.place ≡ get_or (take c.in_ok-n.n c.scan.new.starts) p.0.place (length c.args.text.now) = search rules in
    let h : g.refusal ≡ p.0.refusal = search rules in
    rw (exits c.from_residual-in_err-read.result c.from_residual-in_err-read.ensures.1) (parses c.scan.ensures none (ap fault_of c.in_ok-n.was) (refused-as _ _ g h (form-fault (left-of c.scan.ensures c.in_ok-n.was) (formed-as p.1.0 c.dossier.ensures) _ e)))

pub slice_bounds-starts-end : goal.slice_bounds-starts-end
slice_bounds-starts-end c = let starts : length c.scan.new.starts ≡ 4096 = search rules in let few = few-symbols (left-of c.scan.ensures c.in_ok-n.was) in sym (length-take-le c.in_ok-n.n c.scan.new.starts (omega (arith, starts)))

pub returns-in_err-n : goal.returns-in_err-n
returns-in_err-n c = rw (exits c.from_residual.result c.from_residual.ensures.1) (parses c.scan.ensures (some (fault_is c.in_err-n.field-0.0)) (ap fault_of c.in_err-n.was) (refl, refl))
