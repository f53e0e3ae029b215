-- The products of the nest are small numbers. Assumes nothing.
use mathlib.Core.Path.{◌≡◌}
use mathlib.Core.List.{List}
use Prim.Native.Nat.{ℕ, ◌+◌, ◌*◌, ◌/◌, ◌<◌, ◌≤◌}
use native.Mathlib.Nat.{div-lt_iff_lt-mul, mul-le-mul}
use native.Mathlib.Omega.{arith}
use Rattle.plans.specs.declared.Part.{Part}
use Rattle.nest_steps.specs.PartTests.{places}
use Rattle.nest_steps.specs.NestPromises.{Groups, Sized}
use Rattle.nest.proofs.LoopStates.{per_input, per_concrete, per_abstract}
use Rattle.nest.proofs.NextCandidates.{some-abstract}

times : (a b m n k : ℕ) → a ≤ m → b ≤ n → m * n ≤ k → a * b ≤ k
times a b m n k h g e = let l : a * b ≤ m * n = mul-le-mul h g in omega arith

module _ {cells : List ℕ} {p : Part} {G : Groups} (z : Sized cells p G) where
  pub small-input : per_input p ≤ 262144
  small-input = times p.outputs.bindings p.primes.bindings 64 4096 262144 z.outputs.few z.primes.few (omega arith)

  pub small-concrete : per_concrete p ≤ 16777216
  small-concrete = times p.inputs.bindings (per_input p) 64 262144 16777216 z.inputs.few small-input (omega arith)

  pub small-abstract : per_abstract p ≤ 68719476736
  small-abstract = times p.concretes.bindings (per_concrete p) 4096 16777216 68719476736 z.concretes.few small-concrete (omega arith)

  module _ (a : ℕ) (ha : a ≤ p.abstracts.bindings) where
    pub small-a : a * per_abstract p ≤ 281474976710656
    small-a = times a (per_abstract p) 4096 68719476736 281474976710656 (omega (arith, z.abstracts.few)) small-abstract (omega arith)

    pub small-ac : a * p.concretes.bindings ≤ 16777216
    small-ac = times a p.concretes.bindings 4096 4096 16777216 (omega (arith, z.abstracts.few)) z.concretes.few (omega arith)

    module _ (c : ℕ) (hc : c ≤ p.concretes.bindings) where
      pub small-x : a * p.concretes.bindings + c ≤ 33554432
      small-x = omega (arith, small-ac, z.concretes.few)

      pub small-c : (a * p.concretes.bindings + c) * per_concrete p ≤ 562949953421312
      small-c = times (a * p.concretes.bindings + c) (per_concrete p) 33554432 16777216 562949953421312 small-x small-concrete (omega arith)

      pub small-xi : (a * p.concretes.bindings + c) * p.inputs.bindings ≤ 2147483648
      small-xi = times (a * p.concretes.bindings + c) p.inputs.bindings 33554432 64 2147483648 small-x z.inputs.few (omega arith)

      module _ (i : ℕ) (hi : i ≤ p.inputs.bindings) where
        pub small-y : (a * p.concretes.bindings + c) * p.inputs.bindings + i ≤ 4294967296
        small-y = sum _ i p.inputs.bindings small-xi hi z.inputs.few
          where
            sum : (u i n : ℕ) → u ≤ 2147483648 → i ≤ n → n ≤ 64 → u + i ≤ 4294967296
            sum u i n h g l = omega arith

        pub small-yq : ((a * p.concretes.bindings + c) * p.inputs.bindings + i) * p.outputs.bindings ≤ 274877906944
        small-yq = times ((a * p.concretes.bindings + c) * p.inputs.bindings + i) p.outputs.bindings 4294967296 64 274877906944 small-y z.outputs.few (omega arith)

        module _ (o : ℕ) (ho : o ≤ p.outputs.bindings) where
          pub small-z : ((a * p.concretes.bindings + c) * p.inputs.bindings + i) * p.outputs.bindings + o ≤ 549755813888
          small-z = sum _ o p.outputs.bindings small-yq ho z.outputs.few
            where
              sum : (u i n : ℕ) → u ≤ 274877906944 → i ≤ n → n ≤ 64 → u + i ≤ 549755813888
              sum u i n h g l = omega arith

          pub small-zk : (((a * p.concretes.bindings + c) * p.inputs.bindings + i) * p.outputs.bindings + o) * p.primes.bindings ≤ 2251799813685248
          small-zk = times (((a * p.concretes.bindings + c) * p.inputs.bindings + i) * p.outputs.bindings + o) p.primes.bindings 549755813888 4096 2251799813685248 small-z z.primes.few (omega arith)

  -- the first abstract state that is looked at
  pub start-high : (from end : ℕ) → from ≤ end → end ≤ places p → from / per_abstract p ≤ p.abstracts.bindings
  start-high from end h g =
      let r = regroup p.abstracts.bindings p.concretes.bindings p.inputs.bindings p.outputs.bindings p.primes.bindings in
      let s = some-abstract z in
      let l : from / per_abstract p < p.abstracts.bindings + 1 = (div-lt_iff_lt-mul s).1 (below from end p.abstracts.bindings (per_abstract p) (places p) h g r s) in
      omega arith
    where
      regroup : (a b c d e : ℕ) → a * b * c * d * e ≡ a * (b * (c * (d * e)))
      regroup a b c d e = omega arith

      below : (from end a s w : ℕ) → from ≤ end → end ≤ w → w ≡ a * s → 0 < s → from < (a + 1) * s
      below from end a s w h g e k = omega arith
