-- The listed bindings of a group of variables are those over its carriers. Assumes nothing.
use mathlib.Core.Path.{◌≡◌, refl, sym, subst}
use mathlib.Core.Bool.{Bool, true, false}
use mathlib.Core.Logic.{inl, inr}
use mathlib.Core.List.{List, [], ◌∷◌, map}
use Rattle.static_rules.specs.LexicalLists.{any}
use Rattle.static_rules.specs.LexicalSymbols.{Name}
use Rattle.static_rules.specs.Carriers.{Variable}
use Rattle.meaning.specs.Values.{Value}
use Rattle.meaning.specs.Meaning.{Binding}
use Rattle.meaning.specs.Bindings.{values_of, bindings, Among, Over}
use Rattle.meaning.proofs.Members.{any_found, any-put, any_none, among-map, map-among, among-flat, flat-among}

-- a variable's value before a binding of the others
abbrev pub extended : Variable → Value → Binding → Binding
extended v x b = (v.called, x) ∷ b

-- "All values in the carriers are visited": a binding is over the carriers exactly if it is listed
pub over-listed : (vs : List Variable) (b : Binding) → Over vs b → Among b (bindings vs)
unfolding Over bindings Among
over-listed [] [] h = inl refl
over-listed [] (b ∷ bs) h = absurd h
over-listed (v ∷ vs) [] h = absurd h
over-listed (v ∷ vs) (b ∷ bs) h =
    subst (λ (n : Name). Among ((n, b.1) ∷ bs) (bindings (v ∷ vs))) (sym h.0)
    (among-flat (λ (x : Value). map (extended v x) (bindings vs)) b.1 (values_of v.carrier) (extended v b.1 bs) h.1
    (among-map (extended v b.1) bs (bindings vs) (over-listed vs bs h.2)))

pub listed-over : (vs : List Variable) (b : Binding) → Among b (bindings vs) → Over vs b
unfolding Over bindings Among
listed-over [] b (inl e) = subst (Over []) (sym e) tt
listed-over [] b (inr m) = absurd m
listed-over (v ∷ vs) b m =
    let s : (x : Value) × Among x (values_of v.carrier) × Among b (map (extended v x) (bindings vs)) = flat-among (λ (x : Value). map (extended v x) (bindings vs)) (values_of v.carrier) b m in
    let r : (c : Binding) × Among c (bindings vs) × (b ≡ extended v s.0 c) = map-among (extended v s.0) b (bindings vs) s.2 in
    subst (Over (v ∷ vs)) (sym r.2) (refl, s.1, listed-over vs r.0 r.1)

-- a test over the listed bindings passes exactly if some binding over the carriers passes it, and fails exactly if all of them fail it
pub binding-found : (f : Binding → Bool) (vs : List Variable) → any f (bindings vs) ≡ true → (b : Binding) × Over vs b × (f b ≡ true)
binding-found f vs e = let s : (b : Binding) × Among b (bindings vs) × (f b ≡ true) = any_found f (bindings vs) e in (s.0, listed-over vs s.0 s.1, s.2)

pub binding-put : (f : Binding → Bool) (vs : List Variable) (b : Binding) → Over vs b → f b ≡ true → any f (bindings vs) ≡ true
binding-put f vs b o e = any-put f b (bindings vs) (over-listed vs b o) e

pub no-binding : (f : Binding → Bool) (vs : List Variable) → any f (bindings vs) ≡ false → (b : Binding) → Over vs b → f b ≡ false
no-binding f vs e b o = any_none f (bindings vs) e b (over-listed vs b o)
