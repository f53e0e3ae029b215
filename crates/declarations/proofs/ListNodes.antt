-- How the nodes of a list are put together from those of its parts.
use mathlib.Core.Path.{◌≡◌, refl, ap, ◌∙◌, sym, subst}
use mathlib.Core.List.{List, ◌++◌, append_assoc}
use Prim.Native.Nat.{ℕ, ◌+◌}
use lib.ListN.{take, get_or}
use Rattle.form.specs.Codes.{node}
use Rattle.form_nodes.specs.FormPromises.{Writes, Closes, Shown}
use Rattle.form_nodes.specs.Derivations.{Part, Derives, Made, MadeAt, NameAt, name_code, some_entries, a_type, a_declaration, some_elements, some_givens, declares, a_given, More, MoreAt}
use Rattle.declarations.specs.DossierPromises.{WordsAt, ContentsMade}
use Rattle.std.specs.Prelude.{Ok, Err}
use Rattle.form_nodes.specs.FormPromises.{Answer}
use Rattle.form_nodes.proofs.NodesOfParts.{from}
use Rattle.form_nodes.proofs.FirstNodes.{then-written}

module _ {s ν : List ℕ} {x : Part} where
  -- one node
  pub more-node : {i j n m : ℕ} {a b y z : List ℕ} → Writes a n y b m → y ≡ z → ((k : ℕ) (u : List ℕ) → Derives s ν x j k u → Derives s ν x i k (z ++ u)) → MoreAt s ν x i n a b j m
  more-node {n = n} {a = a} {z = z} p e f = record { nodes = z; more = f; written = p.nodes ∙ ap (λ (l : List ℕ). take n a ++ l) e }

  pub made-node : {i j n m : ℕ} {a b y z : List ℕ} → Writes a n y b m → y ≡ z → Derives s ν x i j z → MadeAt s ν x i n a b j m
  made-node {n = n} {a = a} {z = z} p e d = record { nodes = z; derives = d; written = p.nodes ∙ ap (λ (l : List ℕ). take n a ++ l) e }

-- a part that ends at a place known by other words
to-place : {s ν : List ℕ} {x : Part} {i j k : ℕ} {u : List ℕ} → j ≡ k → Derives s ν x i j u → Derives s ν x i k u
to-place {s} {ν} {x} {i} {u = u} q d = subst (λ (z : ℕ). Derives s ν x i z u) q d

-- a declared name, : type ;
pub declaration-made : {s ν a b c y : List ℕ} {at i n m e o : ℕ} (r : Answer) → NameAt s at → i ≡ at + 1 + 1 → get_or s (at + 1) 0 ≡ 10 → Writes a n y b m
    → y ≡ node 6 at (name_code s ν at) 0 → MadeAt s ν a_type i m b c e o → Closes s e 11 o r → Made s ν a_declaration at n a c r
declaration-made {s} {ν} {a} {b} {c} {y} {at} {i} {n} {m} {e} {o} (Ok f) g h t w z p x =
    record {
      nodes = node 6 at (name_code s ν at) 0 ++ p.nodes;
      derives = to-place (sym x.shown.0.0) (declares g t (from h p.derives) x.shown.0.1);
      written =
          ap (λ (k : ℕ). take k c) x.shown.1
          ∙ then-written (take n a) (node 6 at (name_code s ν at) 0) p.nodes (w.nodes ∙ ap (λ (l : List ℕ). take n a ++ l) z) p.written;
    }
declaration-made (Err f) g h t w z p x = tt

-- one more of a list, from the nodes of a part
pub more-part : {s ν : List ℕ} {x y : Part} {i j n m : ℕ} {a b : List ℕ} (p : MadeAt s ν y i n a b j m)
    → ((k : ℕ) (u : List ℕ) → Derives s ν x j k u → Derives s ν x i k (p.nodes ++ u)) → MoreAt s ν x i n a b j m
more-part p f = record { nodes = p.nodes; more = f; written = p.written }

-- a given set's body
pub given-more : {s ν a b c y : List ℕ} {at n m e o : ℕ} (r : Answer) → get_or s at 0 ≡ 37 → get_or s (at + 1) 0 ≡ 2 → get_or s (at + 1 + 1) 0 ≡ 2 → Writes a n y b m
    → y ≡ node 3 at (name_code s ν (at + 1)) 0 → MadeAt s ν some_elements (at + 1 + 1) m b c e o → Closes s e 44 o r → More s ν some_givens at n a c r
given-more {s} {ν} {a} {b} {c} {y} {at} {n} {m} {e} {o} (Ok f) g h t w z p x =
    record {
      nodes = node 3 at (name_code s ν (at + 1)) 0 ++ p.nodes;
      more = λ k u d.
          subst (λ (l : List ℕ). Derives s ν some_givens at k l) (sym (append_assoc (node 3 at (name_code s ν (at + 1)) 0) p.nodes u))
          (a_given g h t p.derives x.shown.0.1 (from x.shown.0.0 d));
      written =
          ap (λ (k : ℕ). take k c) x.shown.1
          ∙ then-written (take n a) (node 3 at (name_code s ν (at + 1)) 0) p.nodes (w.nodes ∙ ap (λ (l : List ℕ). take n a ++ l) z) p.written;
    }
given-more (Err f) g h t w z p x = tt

-- the same number of numbers, under another name
pub renumber : {a y b : List ℕ} {n m k : ℕ} → k ≡ m → Writes a n y b m → Writes a n y b k
renumber {a} {y} {b} {n} q w = subst (λ (z : ℕ). Writes a n y b z) (sym q) w

-- the words between the entries
pub words-shown : {s : List ℕ} (i : ℕ) {b c d e n m x y z : ℕ} (r : Answer) → ((b ≡ i + 1) × (get_or s i 0 ≡ 38)) × (m ≡ n) → ((c ≡ b + 1) × (get_or s b 0 ≡ 39)) × (x ≡ m)
    → ((d ≡ c + 1) × (get_or s c 0 ≡ 40)) × (y ≡ x) → ((e ≡ d + 1) × (get_or s d 0 ≡ 41)) × (z ≡ y) → Closes s e 42 z r → Shown (WordsAt s i) n r
words-shown {s} i {b} {c} {d} {e} (Ok f) p q t u h =
    let b₁ : b ≡ i + 1 = p.0.0 in
    let c₁ : c ≡ i + 1 + 1 = q.0.0 ∙ ap (λ (z : ℕ). z + 1) b₁ in
    let d₁ : d ≡ i + 1 + 1 + 1 = t.0.0 ∙ ap (λ (z : ℕ). z + 1) c₁ in
    let e₁ : e ≡ i + 1 + 1 + 1 + 1 = u.0.0 ∙ ap (λ (z : ℕ). z + 1) d₁ in (
      record {
        abstract = p.0.1;
        concrete = ap (λ (z : ℕ). get_or s z 0) (sym b₁) ∙ q.0.1;
        ainit = ap (λ (z : ℕ). get_or s z 0) (sym c₁) ∙ t.0.1;
        cinit = ap (λ (z : ℕ). get_or s z 0) (sym d₁) ∙ u.0.1;
        retrieve = ap (λ (z : ℕ). get_or s z 0) (sym e₁) ∙ h.shown.0.1;
        place = h.shown.0.0 ∙ ap (λ (z : ℕ). z + 1) e₁;
      },
      h.shown.1 ∙ u.1 ∙ t.1 ∙ q.1 ∙ p.1,
    )
words-shown i (Err f) p q t u h = tt

-- the contents
pub contents-made : {s ν a b c : List ℕ} {i j k e m x y z : ℕ} (r : Answer) → ((i ≡ 0 + 1) × (get_or s 0 0 ≡ 36)) × (m ≡ 0) → MadeAt s ν (some_entries 37 1) i m a b j x
    → WordsAt s j k × (y ≡ x) → MadeAt s ν (some_entries 43 2) k y b c e z → Closes s e 44 z r → ContentsMade s ν c r
contents-made {s} {ν} {a} {b} {c} {i} {j} {k} {e} {m} {x} {y} {z} (Ok f) p g w h q =
    record {
      words = j;
      last = e;
      given_nodes = g.nodes;
      operation_nodes = h.nodes;
      first = p.0.1;
      givens = from p.0.0 g.derives;
      five = record {
        abstract = w.0.abstract;
        concrete = w.0.concrete;
        ainit = w.0.ainit;
        cinit = w.0.cinit;
        retrieve = w.0.retrieve;
        place = refl;
      };
      operations = from w.0.place h.derives;
      end = q.shown.0.1;
      place = q.shown.0.0;
      written =
          ap (λ (l : ℕ). take l c) q.shown.1 ∙ h.written
          ∙ ap (λ (l : List ℕ). l ++ h.nodes) (ap (λ (l : ℕ). take l b) w.1 ∙ g.written ∙ ap (λ (l : ℕ). take l a ++ g.nodes) p.1);
    }
contents-made (Err f) p g w h q = tt
