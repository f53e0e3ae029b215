-- Pages as lists of items.
use Rattle.std.specs.Prelude.{List, [], ◌∷◌, ◌++◌, ℕ, take}
use Rattle.pages.specs.declared.Bindings.{Bindings}
use Rattle.pages.specs.declared.Item.{Item}

-- a page with one item more, where there is room for it
abbrev pub with_item : List Item → Item → List Item
with_item p e = take 400 (p ++ e ∷ [])

abbrev pub no_bindings : Bindings
no_bindings = record { a = 0; c = 0; i = 0; o = 0; k = 0; b = 0 }

-- a phrase with an operation and bindings
abbrev pub bound : ℕ → ℕ → Bindings → Item
bound phrase operation bindings = record { phrase = phrase; operation = operation; n = 0; m = 0; bindings = bindings }

-- a phrase with an operation and two numbers, and no binding
abbrev pub plain : ℕ → ℕ → ℕ → ℕ → Item
plain phrase operation n m = record { phrase = phrase; operation = operation; n = n; m = m; bindings = no_bindings }
