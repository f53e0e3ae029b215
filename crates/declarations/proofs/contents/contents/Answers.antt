-- `contents::contents` meets its contract.
use mathlib.Core.Path.{subst, refl}
use mathlib.Core.List.{[], ◌∷◌, ◌++◌}
use borrow.Author.Rules.{rules}
use native.Mathlib.Omega.{arith}
use Rattle.form.specs.Written.{a_given, an_operation}
use Rattle.form.specs.Machine.{exact, some_entries, some_op_entries, some_bodies}
use Rattle.form.specs.Computed.{compute_form}
use Rattle.form_nodes.specs.FormPromises.{Reads, Shown}
use Rattle.form_nodes.specs.FormPromises.{Answer}
use Rattle.std.specs.Prelude.{Err}
use Rattle.form_nodes.specs.Derivations.{Made}
use Rattle.declarations.specs.DossierPromises.{of_givens, of_operations, WordsAt, five_words}
use Rattle.form_nodes.proofs.ReadParts.{exits, only, next, takes, likewise, fails, framed, known}
use Rattle.declarations.proofs.ListItems.{dossier-first}
use Rattle.form_nodes.proofs.NodesOfParts.{closed}
use Rattle.declarations.proofs.ListNodes.{contents-made}
use Rattle.lexical.specs.Kinds as kind
use Rattle.form_nodes.specs.Derivations as part
use Rattle.declarations.proofs.contents.contents.Goals as goal

pub words-requires : goal.words-requires
unfolding compute_form
words-requires c = let hb = known c.in_ok-sets.was (c.entries.ensures.0 some_entries (five_words ++ (some_op_entries 0 ∷ [])) a_given of_givens) in search rules

pub entries-requires-2 : goal.entries-requires-2
unfolding compute_form
entries-requires-2 c = let za = closed c.in_ok-word.was c.close.ensures in let hb = known c.in_ok-sets.was (c.entries.ensures.0 some_entries (five_words ++ (some_op_entries 0 ∷ [])) a_given of_givens) in let hc = (known c.in_ok-five.was c.words.ensures.0) in let wc = subst (λ (z : Answer). Shown (WordsAt c.args.y.now.kinds.now c.in_ok-sets.sets.at) c.in_ok-sets.sets.count z) c.in_ok-five.was c.words.ensures.1 in let wc₁ = wc.1 in search rules

pub close-requires-2 : goal.close-requires-2
unfolding compute_form
close-requires-2 c = let hd = known c.in_ok-operations.was (c.entries-2.ensures.0 some_op_entries (exact kind.END ∷ some_bodies 0 ∷ []) an_operation of_operations) in search rules

pub returns : goal.returns
unfolding compute_form
returns c = let za = closed c.in_ok-word.was c.close.ensures in let za₀ = za.0.0 in let hb = known c.in_ok-sets.was (c.entries.ensures.0 some_entries (five_words ++ (some_op_entries 0 ∷ [])) a_given of_givens) in let mb = subst (λ (z : Answer). Made c.args.y.now.kinds.now c.args.y.now.values.now (part.some_entries 37 1) c.in_ok-word.word.at c.in_ok-word.word.count c.args.code.now c.entries.new.code z) c.in_ok-sets.was c.entries.ensures.1 in let hc = (known c.in_ok-five.was c.words.ensures.0) in let wc = subst (λ (z : Answer). Shown (WordsAt c.args.y.now.kinds.now c.in_ok-sets.sets.at) c.in_ok-sets.sets.count z) c.in_ok-five.was c.words.ensures.1 in let hd = known c.in_ok-operations.was (c.entries-2.ensures.0 some_op_entries (exact kind.END ∷ some_bodies 0 ∷ []) an_operation of_operations) in let md = subst (λ (z : Answer). Made c.args.y.now.kinds.now c.args.y.now.values.now (part.some_entries 43 2) c.in_ok-five.five.at c.in_ok-five.five.count c.entries.new.code c.entries-2.new.code z) c.in_ok-operations.was c.entries-2.ensures.1 in (takes {μ = some_entries 0 ∷ []} {m = c.in_ok-word.word.count} (omega arith) (only _ kind.CONTENTS za.0.1 (λ γ. refl)) (subst (λ j. Reads c.args.y.now.kinds.now j c.in_ok-word.word.count (some_entries 0 ∷ []) (some_bodies 0 ∷ []) c.close-2.result) za₀ (next hb (next (framed (some_op_entries 0 ∷ []) hc) (next hd (framed (some_bodies 0 ∷ []) (c.close-2.ensures.reads kind.END refl)))))) (omega arith), contents-made c.close-2.result za mb wc md c.close-2.ensures)

pub returns-in_err-operations : goal.returns-in_err-operations
unfolding compute_form
returns-in_err-operations c = rw (exits c.from_residual-in_err-operations.result c.from_residual-in_err-operations.ensures.1) (let za = closed c.in_ok-word.was c.close.ensures in let za₀ = za.0.0 in let hb = known c.in_ok-sets.was (c.entries.ensures.0 some_entries (five_words ++ (some_op_entries 0 ∷ [])) a_given of_givens) in let hc = (known c.in_ok-five.was c.words.ensures.0) in (takes {μ = some_entries 0 ∷ []} {m = c.in_ok-word.word.count} (omega arith) (only _ kind.CONTENTS za.0.1 (λ γ. refl)) (subst (λ j. Reads c.args.y.now.kinds.now j c.in_ok-word.word.count (some_entries 0 ∷ []) (some_bodies 0 ∷ []) (Err c.in_err-operations.field-0.0)) za₀ (next hb (next (framed (some_op_entries 0 ∷ []) hc) (fails (known c.in_err-operations.was (c.entries-2.ensures.0 some_op_entries (exact kind.END ∷ some_bodies 0 ∷ []) an_operation of_operations)))))) (omega arith), tt))

pub returns-in_err-five : goal.returns-in_err-five
unfolding compute_form
returns-in_err-five c = rw (exits c.from_residual-in_err-five.result c.from_residual-in_err-five.ensures.1) (let za = closed c.in_ok-word.was c.close.ensures in let za₀ = za.0.0 in let hb = known c.in_ok-sets.was (c.entries.ensures.0 some_entries (five_words ++ (some_op_entries 0 ∷ [])) a_given of_givens) in (takes {μ = some_entries 0 ∷ []} {m = c.in_ok-word.word.count} (omega arith) (only _ kind.CONTENTS za.0.1 (λ γ. refl)) (subst (λ j. Reads c.args.y.now.kinds.now j c.in_ok-word.word.count (some_entries 0 ∷ []) (some_bodies 0 ∷ []) (Err c.in_err-five.field-0.0)) za₀ (next hb (fails (framed (some_op_entries 0 ∷ []) (known c.in_err-five.was c.words.ensures.0))))) (omega arith), tt))

pub returns-in_err-sets : goal.returns-in_err-sets
unfolding compute_form
returns-in_err-sets c = rw (exits c.from_residual-in_err-sets.result c.from_residual-in_err-sets.ensures.1) (let ha = (known c.in_ok-word.was (c.close.ensures.reads kind.CONTENTS refl)) in let za = closed c.in_ok-word.was c.close.ensures in let za₀ = za.0.0 in (takes {μ = some_entries 0 ∷ []} {m = c.in_ok-word.word.count} (omega arith) (only _ kind.CONTENTS za.0.1 (λ γ. refl)) (subst (λ j. Reads c.args.y.now.kinds.now j c.in_ok-word.word.count (some_entries 0 ∷ []) (some_bodies 0 ∷ []) (Err c.in_err-sets.field-0.0)) za₀ (fails (known c.in_err-sets.was (c.entries.ensures.0 some_entries (five_words ++ (some_op_entries 0 ∷ [])) a_given of_givens)))) (omega arith), tt))

pub returns-in_err-word : goal.returns-in_err-word
unfolding compute_form
returns-in_err-word c = rw (exits c.from_residual.result c.from_residual.ensures.1) ((likewise (λ κ e γ. dossier-first κ γ) (λ γ. refl) (fails (framed (some_entries 0 ∷ []) (known c.in_err-word.was (c.close.ensures.reads kind.CONTENTS refl)))), tt))
