-- What a walk that binds a name promises. Nothing here need be believed.
use Rattle.std.specs.Prelude.{◌≡◌, List, ◌++◌, ℕ, ◌+◌, ◌≤◌, length, take, set}
use Rattle.form.specs.Tree.{Domain, Pred}
use Rattle.form.specs.Codes.{Numbering, domain_codes, pred_codes}
use Rattle.type_rules.specs.declared.Seen.{Seen}
use Rattle.type_rules.specs.declared.Node.{Node}
use Rattle.type_rules.specs.TypesByNumber.{Names, Sizes, entry, is_free, key, unless_key, lesser, inside_key, domain_kind, domain_key, pred_key, Saw}

-- of a predicate and a domain behind it, which end at e: the kind is what the name of the node n is, the faults are those of the name, its domain and the predicate
pub record BoundSeen (code : List ℕ) (e : ℕ) (n : Node) (T U : Names) (z : Sizes) (r : Seen) : Type 0 where
  pub falls : r.start ≤ e
  pub kept : U ≡ T
  pub right : (d : Domain) (p : Pred) (i j : ℕ) (ρ : Numbering) (base : List ℕ) → take e code ≡ (base ++ pred_codes p j ρ) ++ domain_codes d i ρ
      → Saw r (domain_kind d T ρ)
      (inside_key (lesser (unless_key (is_free (entry T n.a)) (key (n.place + 1) 8)) (domain_key d T ρ i)) (pred_key p (set T n.a (domain_kind d T ρ)) ρ z j))
      (length base)
