-- The cells of both states, plain and primed, made and copied one group after the other, and those of an operation's parameters behind them. Assumes nothing.
use mathlib.Core.Path.{◌≡◌, sym, ◌∙◌}
use mathlib.Core.Logic.{◌⊎◌, inl, inr}
use mathlib.Core.List.{List}
use Prim.Native.Nat.{ℕ, ◌+◌, ◌<◌, ◌≤◌}
use native.Mathlib.Omega.{arith}
use lib.ListN.{get_or, length}
use Rattle.static_rules.specs.Carriers.{Variable}
use Rattle.slot_carriers.specs.CellGroups.{CellsOf}
use Rattle.slot_carriers.specs.DeclaredGroups.{Declared, CellsMade, Copied}
use Rattle.part_tests.specs.PartGroups.{StateCells}
use Rattle.readings.specs.Readings.{GroupAt}
use Rattle.part_setup.specs.SetupPromises.{Blank, StatesAsked, StatesSet, OperationAsked, OperationSet}
use Rattle.part_setup.specs.SetupSteps.{ListsBelow, StatesReady}
use Rattle.part_setup.proofs.SetLists.{blank-lists, first-values-below, declared-at, made-lists, made-beside, copy_lists, copy-beside, copy-made}

-- where the lists of a group end
made-end : (table groups : List ℕ) (row slot at : ℕ) (old new : List ℕ) (r : ℕ) (vs : List Variable) (many few : ℕ)
    → CellsMade table groups (row + 1) (get_or groups row 0) slot at old new r → GroupAt table groups row vs many few → r ≤ at + few + many
made-end table groups row slot at old new r vs many few m g = omega (arith, m.end vs g.nodes (sym g.count), g.bindings, g.short, g.count)

-- ---- both states

module _ (table groups : List ℕ) (asked : StatesAsked table groups) (c0 : List ℕ) (blank : Blank c0) (c1 : List ℕ) (at : ℕ)
    (m1 : CellsMade table groups 1 (get_or groups 0 0) 0 256 c0 c1 at) where
  few-abstracts : get_or groups 0 0 ≤ 8
  few-abstracts = omega (arith, asked.abstracts.count, asked.abstracts.short)

  few-concretes : get_or groups 9 0 ≤ 8
  few-concretes = omega (arith, asked.concretes.count, asked.concretes.short)

  at_low : at ≤ 4360
  at_low = omega (arith, made-end table groups 0 0 256 c0 c1 at asked.abstractly 8 4096 m1 asked.abstracts)

  lists1 : ListsBelow c1 at
  lists1 = made-lists table groups 1 (get_or groups 0 0) 0 256 c0 c1 at m1 (omega (arith, few-abstracts)) (omega arith) (blank-lists c0 blank)

  pub concretes-declared : Declared table groups 10 (get_or groups 9 0) at
  concretes-declared = declared-at table groups 9 asked.concretely 8 4096 at asked.concretes (omega (arith, at_low))

  module _ (c2 : List ℕ) (end : ℕ) (m2 : CellsMade table groups 10 (get_or groups 9 0) 8 at c1 c2 end) where
    behind : 256 ≤ at
    behind = m1.onward

    end_low : end ≤ 8464
    end_low = omega (arith, made-end table groups 9 8 at c1 c2 end asked.concretely 8 4096 m2 asked.concretes, at_low)

    from : 256 ≤ end
    from = omega (arith, behind, m2.onward)

    lists2 : ListsBelow c2 end
    lists2 = made-lists table groups 10 (get_or groups 9 0) 8 at c1 c2 end m2 (omega (arith, few-concretes)) behind lists1

    module _ (c3 c4 : List ℕ) (j k : ℕ) (ej : j ≡ get_or groups 0 0) (ek : k ≡ get_or groups 9 0) (p : Copied j 0 30 c2 c3) (q : Copied k 8 22 c3 c4) where
      lists3 : ListsBelow c3 end
      lists3 = copy_lists j 0 30 c2 c3 p (omega (arith, ej, few-abstracts)) (omega (arith, ej, few-abstracts)) end lists2

      lists4 : ListsBelow c4 end
      lists4 = copy_lists k 8 22 c3 c4 q (omega (arith, ek, few-concretes)) (omega (arith, ek, few-concretes)) end lists3

      made_at : (us cs : List Variable) → GroupAt table groups 0 us 8 4096 → GroupAt table groups 9 cs 8 4096 → StateCells c4 us cs
      made_at us cs gu gc =
          record {
            abstracts = last 0 us (omega (arith, shortly)) (inl (omega (arith, shortly))) (third 0 us (omega (arith, shortly)) (inl (omega (arith, shortly))) us2);
            concretes = last 8 cs (omega (arith, shortly-c)) (inl (omega (arith, shortly-c))) (third 8 cs (omega (arith, shortly-c)) (inl (omega (arith, shortly-c))) cs2);
            concretes_primed =
                copy-made k 8 22 c3 c4 q (omega (arith, ek, few-concretes)) (omega (arith, ek, few-concretes)) end lists3 cs (sym (ek ∙ gc.count)) (omega (arith, end_low))
                (third 8 cs (omega (arith, shortly-c)) (inl (omega (arith, shortly-c))) cs2);
            abstracts_primed =
                last 30 us (omega (arith, shortly)) (inr (omega (arith, ek, few-concretes)))
                (copy-made j 0 30 c2 c3 p (omega (arith, ej, few-abstracts)) (omega (arith, ej, few-abstracts)) end lists2 us (sym (ej ∙ gu.count)) (omega (arith, end_low)) us2);
          }
        where
          shortly : length us ≤ 8
          shortly = gu.short

          shortly-c : length cs ≤ 8
          shortly-c = gc.short

          us2 : CellsOf c2 0 us
          us2 =
              made-beside table groups 10 (get_or groups 9 0) 8 at c1 c2 end m2 (omega (arith, few-concretes)) behind lists1 0 us (omega (arith, shortly)) (inl (omega (arith, shortly)))
              (m1.made us gu.nodes (sym gu.count))

          cs2 : CellsOf c2 8 cs
          cs2 = m2.made cs gc.nodes (sym gc.count)

          third : (s : ℕ) (vs : List Variable) → s + length vs ≤ 64 → (s + length vs ≤ 30) ⊎ (30 + j ≤ s) → CellsOf c2 s vs → CellsOf c3 s vs
          third s vs h side w = copy-beside j 0 30 c2 c3 p (omega (arith, ej, few-abstracts)) (omega (arith, ej, few-abstracts)) end lists2 s vs h side w

          last : (s : ℕ) (vs : List Variable) → s + length vs ≤ 64 → (s + length vs ≤ 22) ⊎ (22 + k ≤ s) → CellsOf c3 s vs → CellsOf c4 s vs
          last s vs h side w = copy-beside k 8 22 c3 c4 q (omega (arith, ek, few-concretes)) (omega (arith, ek, few-concretes)) end lists3 s vs h side w

      pub states-ready : StatesReady table groups c4 end
      states-ready = record { made = made_at; lists = lists4; from = from; to = end_low }

pub states-set : (table groups cells : List ℕ) (r : ℕ) → StatesReady table groups cells r → StatesSet table groups cells
states-set table groups cells r w = record { made = w.made; first_values = first-values-below cells r (omega (arith, w.to)) w.lists }

-- ---- an operation's parameters, behind the states

-- a group of a state, before the parameters that are made or behind all of them, keeps its cells
made-past : (table groups : List ℕ) (p n slot at : ℕ) (old new : List ℕ) (r : ℕ) → CellsMade table groups p n slot at old new r → slot + n ≤ 22 → 256 ≤ at → ListsBelow old at
    → (s : ℕ) (vs : List Variable) → s + length vs ≤ 64 → (s + length vs ≤ slot) ⊎ (22 ≤ s) → CellsOf old s vs → CellsOf new s vs
made-past table groups p n slot at old new r m fit behind lists s vs h side w = made-beside table groups p n slot at old new r m (omega arith) behind lists s vs h (which side) w
  where
    which : (s + length vs ≤ slot) ⊎ (22 ≤ s) → (s + length vs ≤ slot) ⊎ (slot + n ≤ s)
    which (inl g) = inl g
    which (inr g) = inr (omega (arith, fit))

module _ (table groups : List ℕ) (row : ℕ) (asked : OperationAsked table groups row) (c1 : List ℕ) (lists : ℕ) (ready : StatesReady table groups c1 lists) where
  few-inputs : get_or groups row 0 ≤ 3
  few-inputs = omega (arith, asked.inputs.count, asked.inputs.short)

  few_outputs : get_or groups (row + 4) 0 ≤ 3
  few_outputs = omega (arith, asked.outputs.count, asked.outputs.short)

  pub inputs-declared : Declared table groups (row + 1) (get_or groups row 0) lists
  inputs-declared = declared-at table groups row asked.inward 3 64 lists asked.inputs (omega (arith, ready.to))

  module _ (c2 : List ℕ) (more : ℕ) (m2 : CellsMade table groups (row + 1) (get_or groups row 0) 16 lists c1 c2 more) where
    more-low : more ≤ 8531
    more-low = omega (arith, made-end table groups row 16 lists c1 c2 more asked.inward 3 64 m2 asked.inputs, ready.to)

    onward : 256 ≤ more
    onward = omega (arith, ready.from, m2.onward)

    lists-in : ListsBelow c2 more
    lists-in = made-lists table groups (row + 1) (get_or groups row 0) 16 lists c1 c2 more m2 (omega (arith, few-inputs)) ready.from ready.lists

    pub outputs-declared : Declared table groups (row + 4 + 1) (get_or groups (row + 4) 0) more
    outputs-declared = declared-at table groups (row + 4) asked.outward 3 64 more asked.outputs (omega (arith, more-low))

    module _ (c3 : List ℕ) (end : ℕ) (m3 : CellsMade table groups (row + 4 + 1) (get_or groups (row + 4) 0) 19 more c2 c3 end) where
      end_below : end < 9216
      end_below = omega (arith, made-end table groups (row + 4) 19 more c2 c3 end asked.outward 3 64 m3 asked.outputs, more-low)

      lists-out : ListsBelow c3 end
      lists-out = made-lists table groups (row + 4 + 1) (get_or groups (row + 4) 0) 19 more c2 c3 end m3 (omega (arith, few_outputs)) onward lists-in

      past-inputs : (s : ℕ) (vs : List Variable) → s + length vs ≤ 64 → (s + length vs ≤ 16) ⊎ (22 ≤ s) → CellsOf c1 s vs → CellsOf c2 s vs
      past-inputs = made-past table groups (row + 1) (get_or groups row 0) 16 lists c1 c2 more m2 (omega (arith, few-inputs)) ready.from ready.lists

      past-outputs : (s : ℕ) (vs : List Variable) → s + length vs ≤ 64 → (s + length vs ≤ 19) ⊎ (22 ≤ s) → CellsOf c2 s vs → CellsOf c3 s vs
      past-outputs = made-past table groups (row + 4 + 1) (get_or groups (row + 4) 0) 19 more c2 c3 end m3 (omega (arith, few_outputs)) onward lists-in

      plain : (s : ℕ) (vs : List Variable) → s + length vs ≤ 16 → CellsOf c1 s vs → CellsOf c3 s vs
      plain s vs h w = past-outputs s vs (omega arith) (inl (omega arith)) (past-inputs s vs (omega arith) (inl h) w)

      primed : (s : ℕ) (vs : List Variable) → s + length vs ≤ 64 → 22 ≤ s → CellsOf c1 s vs → CellsOf c3 s vs
      primed s vs h g w = past-outputs s vs h (inr g) (past-inputs s vs h (inr g) w)

      states-kept : (us cs : List Variable) → length us ≤ 8 → length cs ≤ 8 → StateCells c1 us cs → StateCells c3 us cs
      states-kept us cs h k w =
          record {
            abstracts = plain 0 us (omega arith) w.abstracts;
            concretes = plain 8 cs (omega arith) w.concretes;
            concretes_primed = primed 22 cs (omega arith) (omega arith) w.concretes_primed;
            abstracts_primed = primed 30 us (omega arith) (omega arith) w.abstracts_primed;
          }

      pub operation-set : OperationSet table groups row c3
      operation-set =
          record {
            made = λ us cs is os gu gc gi go.
                record {
                  states = states-kept us cs gu.short gc.short (ready.made us cs gu gc);
                  inputs = past-outputs 16 is (omega (arith, gi.short)) (inl (omega (arith, gi.short))) (m2.made is gi.nodes (sym gi.count));
                  outputs = m3.made os go.nodes (sym go.count);
                };
            first_values = first-values-below c3 end end_below lists-out;
          }
