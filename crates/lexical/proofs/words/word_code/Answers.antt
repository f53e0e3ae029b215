-- `lexical::words::word_code` meets its contract, word by word. Assumes nothing.
use Prim.Native.Nat.{ℕ}
use mathlib.Core.Path.{sym, ap}
use Rattle.lexical.specs.Kinds.{code_of, words}
use Rattle.lexical.specs.Lists.{bytes}
use Rattle.lexical.specs.SymbolPromises.{keyed, packed}
use Rattle.lexical.proofs.WordLaws.{no_word}
use Rattle.lexical.proofs.words.word_code.Goals as goal

pub returns-in-8319395793684295523 : goal.returns-in-8319395793684295523
unfolding keyed packed bytes code_of
returns-in-8319395793684295523 c = sym (ap (λ (k : ℕ). keyed words k) c.in-8319395793684295523.is)

pub returns-in-474148661607 : goal.returns-in-474148661607
unfolding keyed packed bytes code_of
returns-in-474148661607 c = sym (ap (λ (k : ℕ). keyed words k) c.in-474148661607.is)

pub returns-in-8386654075301880417 : goal.returns-in-8386654075301880417
unfolding keyed packed bytes code_of
returns-in-8386654075301880417 c = sym (ap (λ (k : ℕ). keyed words k) c.in-8386654075301880417.is)

pub returns-in-7310579637098016611 : goal.returns-in-7310579637098016611
unfolding keyed packed bytes code_of
returns-in-7310579637098016611 c = sym (ap (λ (k : ℕ). keyed words k) c.in-7310579637098016611.is)

pub returns-in-499985049953 : goal.returns-in-499985049953
unfolding keyed packed bytes code_of
returns-in-499985049953 c = sym (ap (λ (k : ℕ). keyed words k) c.in-499985049953.is)

pub returns-in-499985049955 : goal.returns-in-499985049955
unfolding keyed packed bytes code_of
returns-in-499985049955 c = sym (ap (λ (k : ℕ). keyed words k) c.in-499985049955.is)

pub returns-in-7311142548648781170 : goal.returns-in-7311142548648781170
unfolding keyed packed bytes code_of
returns-in-7311142548648781170 c = sym (ap (λ (k : ℕ). keyed words k) c.in-7311142548648781170.is)

pub returns-in-28783 : goal.returns-in-28783
unfolding keyed packed bytes code_of
returns-in-28783 c = sym (ap (λ (k : ℕ). keyed words k) c.in-28783.is)

pub returns-in-6581861 : goal.returns-in-6581861
unfolding keyed packed bytes code_of
returns-in-6581861 c = sym (ap (λ (k : ℕ). keyed words k) c.in-6581861.is)

pub returns-in-435710945399 : goal.returns-in-435710945399
unfolding keyed packed bytes code_of
returns-in-435710945399 c = sym (ap (λ (k : ℕ). keyed words k) c.in-435710945399.is)

pub returns-in-80 : goal.returns-in-80
unfolding keyed packed bytes code_of
returns-in-80 c = sym (ap (λ (k : ℕ). keyed words k) c.in-80.is)

pub returns-in-521644567909 : goal.returns-in-521644567909
unfolding keyed packed bytes code_of
returns-in-521644567909 c = sym (ap (λ (k : ℕ). keyed words k) c.in-521644567909.is)

pub returns-in-1702195828 : goal.returns-in-1702195828
unfolding keyed packed bytes code_of
returns-in-1702195828 c = sym (ap (λ (k : ℕ). keyed words k) c.in-1702195828.is)

pub returns-in-6581857 : goal.returns-in-6581857
unfolding keyed packed bytes code_of
returns-in-6581857 c = sym (ap (λ (k : ℕ). keyed words k) c.in-6581857.is)

pub returns-in-29295 : goal.returns-in-29295
unfolding keyed packed bytes code_of
returns-in-29295 c = sym (ap (λ (k : ℕ). keyed words k) c.in-29295.is)

pub returns-in-7630702 : goal.returns-in-7630702
unfolding keyed packed bytes code_of
returns-in-7630702 c = sym (ap (λ (k : ℕ). keyed words k) c.in-7630702.is)

pub returns-in-435728179558 : goal.returns-in-435728179558
unfolding keyed packed bytes code_of
returns-in-435728179558 c = sym (ap (λ (k : ℕ). keyed words k) c.in-435728179558.is)

pub returns-in-119212747157350 : goal.returns-in-119212747157350
unfolding keyed packed bytes code_of
returns-in-119212747157350 c = sym (ap (λ (k : ℕ). keyed words k) c.in-119212747157350.is)

pub returns-in-126943989692517 : goal.returns-in-126943989692517
unfolding keyed packed bytes code_of
returns-in-126943989692517 c = sym (ap (λ (k : ℕ). keyed words k) c.in-126943989692517.is)

pub returns-in-13919217848514661 : goal.returns-in-13919217848514661
unfolding keyed packed bytes code_of
returns-in-13919217848514661 c = sym (ap (λ (k : ℕ). keyed words k) c.in-13919217848514661.is)

pub returns-in-28265 : goal.returns-in-28265
unfolding keyed packed bytes code_of
returns-in-28265 c = sym (ap (λ (k : ℕ). keyed words k) c.in-28265.is)

pub returns-in-474215640942 : goal.returns-in-474215640942
unfolding keyed packed bytes code_of
returns-in-474215640942 c = sym (ap (λ (k : ℕ). keyed words k) c.in-474215640942.is)

pub returns-in-474315583093 : goal.returns-in-474315583093
unfolding keyed packed bytes code_of
returns-in-474315583093 c = sym (ap (λ (k : ℕ). keyed words k) c.in-474315583093.is)

pub returns-in-495891409261 : goal.returns-in-495891409261
unfolding keyed packed bytes code_of
returns-in-495891409261 c = sym (ap (λ (k : ℕ). keyed words k) c.in-495891409261.is)

pub returns-in-491328401001 : goal.returns-in-491328401001
unfolding keyed packed bytes code_of
returns-in-491328401001 c = sym (ap (λ (k : ℕ). keyed words k) c.in-491328401001.is)

pub returns-in-7760228 : goal.returns-in-7760228
unfolding keyed packed bytes code_of
returns-in-7760228 c = sym (ap (λ (k : ℕ). keyed words k) c.in-7760228.is)

pub returns-in-6582125 : goal.returns-in-6582125
unfolding keyed packed bytes code_of
returns-in-6582125 c = sym (ap (λ (k : ℕ). keyed words k) c.in-6582125.is)

pub returns-in-7171940 : goal.returns-in-7171940
unfolding keyed packed bytes code_of
returns-in-7171940 c = sym (ap (λ (k : ℕ). keyed words k) c.in-7171940.is)

pub returns-in-7233906 : goal.returns-in-7233906
unfolding keyed packed bytes code_of
returns-in-7233906 c = sym (ap (λ (k : ℕ). keyed words k) c.in-7233906.is)

pub returns-in_default : goal.returns-in_default
returns-in_default c = no_word c.args.key c.in_default.in_default-own.rest.0.0.0.0.0.0.0.0.0.0.0.0.0.0.0.0.0.0.0.0.0.0.0.0.0.0.0.0.1 c.in_default.in_default-own.rest.0.0.0.0.0.0.0.0.0.0.0.0.0.0.0.0.0.0.0.0.0.0.0.0.0.0.0.1 c.in_default.in_default-own.rest.0.0.0.0.0.0.0.0.0.0.0.0.0.0.0.0.0.0.0.0.0.0.0.0.0.0.1 c.in_default.in_default-own.rest.0.0.0.0.0.0.0.0.0.0.0.0.0.0.0.0.0.0.0.0.0.0.0.0.0.1 c.in_default.in_default-own.rest.0.0.0.0.0.0.0.0.0.0.0.0.0.0.0.0.0.0.0.0.0.0.0.0.1 c.in_default.in_default-own.rest.0.0.0.0.0.0.0.0.0.0.0.0.0.0.0.0.0.0.0.0.0.0.0.1 c.in_default.in_default-own.rest.0.0.0.0.0.0.0.0.0.0.0.0.0.0.0.0.0.0.0.0.0.0.1 c.in_default.in_default-own.rest.0.0.0.0.0.0.0.0.0.0.0.0.0.0.0.0.0.0.0.0.0.1 c.in_default.in_default-own.rest.0.0.0.0.0.0.0.0.0.0.0.0.0.0.0.0.0.0.0.0.1 c.in_default.in_default-own.rest.0.0.0.0.0.0.0.0.0.0.0.0.0.0.0.0.0.0.0.1 c.in_default.in_default-own.rest.0.0.0.0.0.0.0.0.0.0.0.0.0.0.0.0.0.0.1 c.in_default.in_default-own.rest.0.0.0.0.0.0.0.0.0.0.0.0.0.0.0.0.0.1 c.in_default.in_default-own.rest.0.0.0.0.0.0.0.0.0.0.0.0.0.0.0.0.1 c.in_default.in_default-own.rest.0.0.0.0.0.0.0.0.0.0.0.0.0.0.0.1 c.in_default.in_default-own.rest.0.0.0.0.0.0.0.0.0.0.0.0.0.0.1 c.in_default.in_default-own.rest.0.0.0.0.0.0.0.0.0.0.0.0.0.1 c.in_default.in_default-own.rest.0.0.0.0.0.0.0.0.0.0.0.0.1 c.in_default.in_default-own.rest.0.0.0.0.0.0.0.0.0.0.0.1 c.in_default.in_default-own.rest.0.0.0.0.0.0.0.0.0.0.1 c.in_default.in_default-own.rest.0.0.0.0.0.0.0.0.0.1 c.in_default.in_default-own.rest.0.0.0.0.0.0.0.0.1 c.in_default.in_default-own.rest.0.0.0.0.0.0.0.1 c.in_default.in_default-own.rest.0.0.0.0.0.0.1 c.in_default.in_default-own.rest.0.0.0.0.0.1 c.in_default.in_default-own.rest.0.0.0.0.1 c.in_default.in_default-own.rest.0.0.0.1 c.in_default.in_default-own.rest.0.0.1 c.in_default.in_default-own.rest.0.1 c.in_default.in_default-own.rest.1
