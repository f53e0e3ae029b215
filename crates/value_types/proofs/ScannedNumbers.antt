-- Every number among the symbols of a text is at most 1,000: a run of digits above it is not listed.
use mathlib.Core.Path.{refl}
use mathlib.Core.Bool.{true}
use mathlib.Core.List.{List, map}
use Prim.Native.Nat.{ℕ}
use Rattle.lexical.specs.Lists.{all}
use Rattle.lexical.specs.Symbols.{Placed, scan, symbols}
use Rattle.lexical.proofs.FoundSymbols.{scan-has}
use Rattle.value_types.specs.FaultlessContexts.{NumberWithin, AllNumbers, no_symbols, one_symbol}

pub scanned-numbers : (text : List ℕ) → AllNumbers (map (λ (x : Placed). x.symbol) (symbols (scan text)))
unfolding all
scanned-numbers text = scan-has NumberWithin (λ k. true) (λ k h. tt) (λ n h. h) (λ x. tt) refl refl AllNumbers no_symbols (λ s w h r. one_symbol h r) text
