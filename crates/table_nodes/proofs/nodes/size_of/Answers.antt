-- `nodes::size_of` meets its contract. Assumes nothing.
use mathlib.Core.Path.{◌≡◌}
use Prim.Native.Nat.{ℕ}
use borrow.Author.Rules.{rules}
use Rattle.std.specs.Option.{MatchOption}
use Rattle.std.specs.Prelude.{Option, Some, None}
use Rattle.type_rules.specs.TypesByNumber.{Sizes, size_in}
use Rattle.table_nodes.specs.TableByNumber.{set_size}
use Rattle.table_nodes.proofs.nodes.size_of.Goals as goal

sized : (z : Sizes) (set : Option ℕ) (r : ℕ) (P : ℕ → Type 0) → MatchOption set (r ≡ 0) P → ((g : ℕ) → P g → r ≡ size_in z g) → r ≡ set_size z set
unfolding set_size
sized z None r P m f = m
sized z (Some g) r P m f = f g m

pub returns : goal.returns
unfolding size_in
returns c = sized c.args.sizes.now c.args.set c.map_or.result _ c.map_or.ensures (λ g p. let q = p in search (rules, q))
