-- Places computed on a short text: the first byte of a symbol; of the text's end, its length.
use mathlib.Core.Path.{◌≡◌, refl}
use Rattle.lexical.specs.Lists.{bytes}
use Rattle.lexical.specs.Symbols.{place_at}
use Rattle.lexical.specs.Computed.{compute_scan}

pub second-symbol : place_at (bytes "contents  abstract \n") 1 ≡ 10
unfolding compute_scan
second-symbol = refl

pub end-of-text : place_at (bytes "contents  abstract \n") 2 ≡ 20
unfolding compute_scan
end-of-text = refl
