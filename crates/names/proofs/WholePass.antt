-- The whole pass: its tables are cleared, and its parts are those of a dossier.
use mathlib.Core.Path.{◌≡◌, refl, ap, sym, ◌∙◌}
use mathlib.Core.List.{List, ◌++◌, map, append_assoc}
use Prim.Native.Nat.{ℕ, suc, ◌+◌, ◌-◌, ◌≤◌, ◌<◌}
use native.Mathlib.Omega.{arith}
use lib.ListN.{length, take, drop, get_or, replicate, length-append, take-append-drop}
use lib.Seq.{drop-drop, length-take-le}
use Rattle.form.specs.Tree.{declarations, Dossier}
use Rattle.form.specs.Headings.{givens_at, abstract_at, concrete_at, ainit_at, cinit_at, retrieve_at, operations_at}
use Rattle.form.specs.Codes.{Numbering, contents_codes, condition_codes, dossier_codes, given_codes, state_codes, operation_codes}
use Rattle.parser.specs.Sections.{PartOf}
use Rattle.declared_names.specs.StaticRulesCarriers.{size_of}
use Rattle.type_rules.specs.TypesByNumber.{Names, Sizes, inside_key}
use Rattle.declared_names.specs.NamesByNumber.{givens_key, givens_named, state_key, state_named, conditions_key, conditions_named, operations_key, dossier_key}
use Rattle.declared_names.specs.PassPromises.{DeclaredEnd, Fewer, GivenSeen, StateSeen, ConditionsSeen, OperationsSeen, Variables, three_codes, VariablesOf, LaterSeen, Placed, CheckSeen}
use Rattle.type_rules.proofs.TypeNumbers.{inside-none, inside-some}
use Rattle.names.proofs.PassSteps.{never-state, state-front, variables-codes, front, back}

-- the variables of a state
pub variables-short : (code r : List ℕ) → length code < 4 → VariablesOf code r
variables-short code r h s i ρ e = elim (never-state code h s i ρ e) [ ]

pub variables-seen : (code rest vs : List ℕ) (n : ℕ) → DeclaredEnd rest n → rest ≡ drop 4 code → vs ≡ take n rest → VariablesOf code vs
variables-seen code rest vs n end rest-is vs-is s i ρ e =
    state-front code rest vs (drop n rest) n end rest-is vs-is refl s i ρ e ∙ variables-codes (suc i) (declarations s) ρ

-- conditions and operations
module _ (three last one two av cv : List ℕ) (T T₁ : Names) (z : Sizes) (f : ℕ) (first : VariablesOf one av) (second : VariablesOf two cv) (seen : ConditionsSeen three av cv T T₁ z f) where
  both : (d : Dossier) (ρ : Numbering) → one ≡ state_codes (abstract_at d) d.abstract ρ → two ≡ state_codes (concrete_at d) d.concrete ρ
      → Variables (declarations d.abstract) (declarations d.concrete) ρ av cv
  both d ρ a c =
      record {
        i = suc (abstract_at d);
        j = suc (concrete_at d);
        first = first d.abstract (abstract_at d) ρ a;
        second = second d.concrete (concrete_at d) ρ c;
      }

  pub later-faulty : (f ≡ 0 → ⊥) → LaterSeen three last one two T z f
  later-faulty not d ρ e o a c = inside-some _ (seen.right d ρ e (both d ρ a c)) not

  pub later-seen : f ≡ 0 → (g : ℕ) → OperationsSeen last av cv T₁ z g → LaterSeen three last one two T z g
  later-seen none g ops d ρ e o a c =
      let v = both d ρ a c in
      let k = seen.right d ρ e v in
      let t = seen.named d ρ e v none in
      ops d.operations (operations_at d) (declarations d.abstract) (declarations d.concrete) ρ o v
      ∙ (ap (λ (n : Names). operations_key d.operations (declarations d.abstract) (declarations d.concrete) n ρ z (operations_at d)) t
      ∙ inside-none k none)

-- the whole
module _ (nodes : List ℕ) (m gi ab co ai af n : ℕ) (first : List ℕ) (first_part : PartOf nodes gi ab first) (T T₁ : Names) (z : Sizes) (f : ℕ)
    (cleared : T ≡ replicate n 0) (given : GivenSeen first T T₁ z f) where
  module _ (d : Dossier) (ρ : Numbering) (at : Placed nodes m gi ab co ai af d ρ) (few : Fewer d.givens) where
    givens-here : first ≡ given_codes (givens_at d) d.givens ρ
    givens-here = let b = at.inside in let o = at.ordered in first_part.part (omega arith) (omega arith) ∙ at.given_part

    givens-fault : f ≡ givens_key d.givens 0 (replicate n 0) ρ (givens_at d)
    givens-fault = given.right d.givens (givens_at d) ρ givens-here few ∙ ap (λ (t : Names). givens_key d.givens 0 t ρ (givens_at d)) cleared

    sizes-right : givens_key d.givens 0 (replicate n 0) ρ (givens_at d) ≡ 0 → (k : ℕ) → k < length d.givens → get_or z k 0 ≡ get_or (map size_of d.givens) k 0
    sizes-right q = given.sized d.givens (givens_at d) ρ givens-here few (givens-fault ∙ q)

    names-one : f ≡ 0 → T₁ ≡ givens_named d.givens 0 (replicate n 0) ρ
    names-one q = given.named d.givens (givens_at d) ρ givens-here few q ∙ ap (λ (t : Names). givens_named d.givens 0 t ρ) cleared

  -- the names behind the given sets, and behind each state
  abbrev names_one : Dossier → Numbering → Names
  names_one d ρ = givens_named d.givens 0 (replicate n 0) ρ

  abbrev names_two : Dossier → Numbering → Names
  names_two d ρ = state_named d.abstract (names_one d ρ) ρ

  abbrev names_three : Dossier → Numbering → Names
  names_three d ρ = state_named d.concrete (names_two d ρ) ρ

  abbrev given_key : Dossier → Numbering → ℕ
  given_key d ρ = givens_key d.givens 0 (replicate n 0) ρ (givens_at d)

  abbrev abstract_key : Dossier → Numbering → ℕ
  abstract_key d ρ = state_key d.abstract (names_one d ρ) ρ z (abstract_at d)

  abbrev concrete_key : Dossier → Numbering → ℕ
  concrete_key d ρ = state_key d.concrete (names_two d ρ) ρ z (concrete_at d)

  abbrev later_key : Dossier → Numbering → Names → ℕ
  later_key d ρ t =
      inside_key (conditions_key d t ρ z)
      (operations_key d.operations (declarations d.abstract) (declarations d.concrete) (conditions_named d t ρ) ρ z (operations_at d))

  in_order : (d : Dossier) (ρ : Numbering) → dossier_key d (replicate n 0) ρ z ≡ inside_key (given_key d ρ) (inside_key (abstract_key d ρ) (inside_key (concrete_key d ρ) (later_key d ρ (names_three d ρ))))
  unfolding dossier_key
  in_order d ρ = refl

  pub check-given : (f ≡ 0 → ⊥) → CheckSeen nodes m gi ab co ai af n z f
  check-given not =
      record {
        right = λ d ρ at few. inside-some _ (givens-fault d ρ at few) not ∙ sym (in_order d ρ);
        sized = sizes-right;
      }

  module _ (f-none : f ≡ 0) (one : List ℕ) (one-part : PartOf nodes ab co one) (T₂ : Names) (a : ℕ) (state-one : StateSeen one T₁ T₂ z a) where
    module _ (d : Dossier) (ρ : Numbering) (at : Placed nodes m gi ab co ai af d ρ) (few : Fewer d.givens) where
      one-here : one ≡ state_codes (abstract_at d) d.abstract ρ
      one-here = let b = at.inside in let o = at.ordered in one-part.part (omega arith) (omega arith) ∙ at.abstract_part

      one-fault : a ≡ abstract_key d ρ
      one-fault = state-one.right d.abstract (abstract_at d) ρ one-here ∙ ap (λ (t : Names). state_key d.abstract t ρ z (abstract_at d)) (names-one d ρ at few f-none)

      names-two : a ≡ 0 → T₂ ≡ names_two d ρ
      names-two q = state-one.named d.abstract (abstract_at d) ρ one-here q ∙ ap (λ (t : Names). state_named d.abstract t ρ) (names-one d ρ at few f-none)

      past-given : inside_key (abstract_key d ρ) (inside_key (concrete_key d ρ) (later_key d ρ (names_three d ρ))) ≡ dossier_key d (replicate n 0) ρ z
      past-given = inside-none (givens-fault d ρ at few) f-none ∙ sym (in_order d ρ)

    pub check-one : (a ≡ 0 → ⊥) → CheckSeen nodes m gi ab co ai af n z a
    check-one not =
        record {
          right = λ d ρ at few. inside-some _ (one-fault d ρ at few) not ∙ past-given d ρ at few;
          sized = sizes-right;
        }

    module _ (a-none : a ≡ 0) (two : List ℕ) (two-part : PartOf nodes co ai two) (T₃ : Names) (c : ℕ) (state-two : StateSeen two T₂ T₃ z c) where
      module _ (d : Dossier) (ρ : Numbering) (at : Placed nodes m gi ab co ai af d ρ) (few : Fewer d.givens) where
        two_here : two ≡ state_codes (concrete_at d) d.concrete ρ
        two_here = let b = at.inside in let o = at.ordered in two-part.part (omega arith) (omega arith) ∙ at.concrete_part

        two-fault : c ≡ concrete_key d ρ
        two-fault = state-two.right d.concrete (concrete_at d) ρ two_here ∙ ap (λ (t : Names). state_key d.concrete t ρ z (concrete_at d)) (names-two d ρ at few a-none)

        names-three : c ≡ 0 → T₃ ≡ names_three d ρ
        names-three q = state-two.named d.concrete (concrete_at d) ρ two_here q ∙ ap (λ (t : Names). state_named d.concrete t ρ) (names-two d ρ at few a-none)

        past_one : inside_key (concrete_key d ρ) (later_key d ρ (names_three d ρ)) ≡ dossier_key d (replicate n 0) ρ z
        past_one = inside-none (one-fault d ρ at few) a-none ∙ past-given d ρ at few

      pub check-two : (c ≡ 0 → ⊥) → CheckSeen nodes m gi ab co ai af n z c
      check-two not =
          record {
            right = λ d ρ at few. inside-some _ (two-fault d ρ at few) not ∙ past_one d ρ at few;
            sized = sizes-right;
          }

      pub check_later : c ≡ 0 → (three last : List ℕ) → PartOf nodes ai af three → PartOf nodes af m last → (r : ℕ) → LaterSeen three last one two T₃ z r
          → CheckSeen nodes m gi ab co ai af n z r
      check_later c-none three last three-part last-part r seen =
          record {
            right =
                λ d ρ at few.
                let b = at.inside in
                let o = at.ordered in
                seen d ρ (three-part.part (omega arith) (omega arith) ∙ at.condition_part) (last-part.part (omega arith) (omega arith) ∙ at.operation_part) (one-here d ρ at few) (two_here d ρ at few)
                ∙ (ap (λ (t : Names). later_key d ρ t) (names-three d ρ at few c-none)
                ∙ (inside-none (two-fault d ρ at few) c-none ∙ past_one d ρ at few));
            sized = sizes-right;
          }

-- one part, and what stands behind it
next-part : (nodes x q : List ℕ) (k j : ℕ) → drop k nodes ≡ x ++ q → j ≡ k + length x → take (j - k) (drop k nodes) ≡ x
next-part nodes x q k j e l = front (drop k nodes) (j - k) x q e (omega arith)

next-rest : (nodes x q : List ℕ) (k j : ℕ) → drop k nodes ≡ x ++ q → j ≡ k + length x → drop j nodes ≡ q
next-rest nodes x q k j e l = ap (λ (n : ℕ). drop n nodes) l ∙ (sym (drop-drop (length x) k nodes) ∙ back (drop k nodes) (length x) x q e refl)

-- the parts of a dossier's nodes, where the places are the lengths of what stands in front
module _ (nodes : List ℕ) (m : ℕ) (d : Dossier) (ρ : Numbering) (inside : m ≤ length nodes) (e : take m nodes ≡ dossier_codes d ρ) (g a c i o : ℕ) (g-is : g ≡ length (contents_codes d ρ))
    (a_is : a ≡ g + length (given_codes (givens_at d) d.givens ρ)) (c_is : c ≡ a + length (state_codes (abstract_at d) d.abstract ρ))
    (i-is : i ≡ c + length (state_codes (concrete_at d) d.concrete ρ)) (o_is : o ≡ i + length (three_codes d ρ)) where
  abbrev G : List ℕ
  G = given_codes (givens_at d) d.givens ρ

  abbrev S : List ℕ
  S = state_codes (abstract_at d) d.abstract ρ

  abbrev S' : List ℕ
  S' = state_codes (concrete_at d) d.concrete ρ

  abbrev O : List ℕ
  O = operation_codes (operations_at d) d.operations ρ

  grouped : dossier_codes d ρ ≡ contents_codes d ρ ++ (G ++ (S ++ (S' ++ (three_codes d ρ ++ O))))
  unfolding dossier_codes
  grouped =
      let x = condition_codes (ainit_at d + 2) d.ainit ρ in
      let y = condition_codes (cinit_at d + 2) d.cinit ρ in
      let w = condition_codes (retrieve_at d + 2) d.retrieve ρ in
      sym (ap (λ (l : List ℕ). contents_codes d ρ ++ (G ++ (S ++ (S' ++ l)))) (append_assoc x (y ++ w) O ∙ ap (λ (l : List ℕ). x ++ l) (append_assoc y w O)))

  all : nodes ≡ contents_codes d ρ ++ (G ++ (S ++ (S' ++ (three_codes d ρ ++ (O ++ drop m nodes)))))
  all =
      sym (take-append-drop m nodes)
      ∙ (ap (λ (l : List ℕ). l ++ drop m nodes) (e ∙ grouped) ∙ simp append_assoc)

  total : m ≡ o + length O
  total =
      let t : m ≡ length (contents_codes d ρ ++ (G ++ (S ++ (S' ++ (three_codes d ρ ++ O))))) = sym (length-take-le m nodes inside) ∙ ap (λ (l : List ℕ). length l) (e ∙ grouped) in
      let l₁ = length-append (contents_codes d ρ) (G ++ (S ++ (S' ++ (three_codes d ρ ++ O)))) in
      let l₂ = length-append G (S ++ (S' ++ (three_codes d ρ ++ O))) in
      let l₃ = length-append S (S' ++ (three_codes d ρ ++ O)) in
      let l₄ = length-append S' (three_codes d ρ ++ O) in
      let l₅ = length-append (three_codes d ρ) O in
      omega arith

  from-givens : drop g nodes ≡ G ++ (S ++ (S' ++ (three_codes d ρ ++ (O ++ drop m nodes))))
  from-givens = back nodes g (contents_codes d ρ) (G ++ (S ++ (S' ++ (three_codes d ρ ++ (O ++ drop m nodes))))) all g-is

  from-abstract : drop a nodes ≡ S ++ (S' ++ (three_codes d ρ ++ (O ++ drop m nodes)))
  from-abstract = next-rest nodes G (S ++ (S' ++ (three_codes d ρ ++ (O ++ drop m nodes)))) g a from-givens a_is

  from-concrete : drop c nodes ≡ S' ++ (three_codes d ρ ++ (O ++ drop m nodes))
  from-concrete = next-rest nodes S (S' ++ (three_codes d ρ ++ (O ++ drop m nodes))) a c from-abstract c_is

  from-ainit : drop i nodes ≡ three_codes d ρ ++ (O ++ drop m nodes)
  from-ainit = next-rest nodes S' (three_codes d ρ ++ (O ++ drop m nodes)) c i from-concrete i-is

  pub placed : Placed nodes m g a c i o d ρ
  placed =
      let t = total in
      record {
        inside = inside;
        ordered = omega arith;
        given_part = next-part nodes G (S ++ (S' ++ (three_codes d ρ ++ (O ++ drop m nodes)))) g a from-givens a_is;
        abstract_part = next-part nodes S (S' ++ (three_codes d ρ ++ (O ++ drop m nodes))) a c from-abstract c_is;
        concrete_part = next-part nodes S' (three_codes d ρ ++ (O ++ drop m nodes)) c i from-concrete i-is;
        condition_part = next-part nodes (three_codes d ρ) (O ++ drop m nodes) i o from-ainit o_is;
        operation_part = next-part nodes O (drop m nodes) o m (next-rest nodes (three_codes d ρ) (O ++ drop m nodes) i o from-ainit o_is) total;
      }
