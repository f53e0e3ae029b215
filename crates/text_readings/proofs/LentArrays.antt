-- What holds of the arrays of a text holds of the dossier that lends them, and back. Assumes nothing.
use mathlib.Core.Path.{◌≡◌, sym, subst}
use mathlib.Core.List.{List}
use Prim.Native.Nat.{ℕ}
use Rattle.std.specs.Prelude.{Result}
use Rattle.refusals.specs.declared.Fault.{Fault}
use Rattle.search_groups.specs.declared.Dossier.{Dossier}
use Rattle.text_readings.specs.TextPromises.{ReadsText, Lent}

pub lists : (P : (table rows firsts groups : List ℕ) (n : ℕ) → Type 0) {t r f g t' r' f' g' : List ℕ} {n n' : ℕ} → t ≡ t' → r ≡ r' → f ≡ f' → g ≡ g' → n ≡ n' → P t r f g n → P t' r' f' g' n'
lists P {t} {r} {f} {g} {t'} {r'} {f'} {g'} {n} {n'} a b c d e h =
    subst (λ (x : ℕ). P t' r' f' g' x) e (subst (λ (x : List ℕ). P t' r' f' x n) d (subst (λ (x : List ℕ). P t' r' x g n) c (subst (λ (x : List ℕ). P t' x f g n) b (subst (λ (x : List ℕ). P x r f g n) a h))))

module _ {table rows firsts groups : List ℕ} {n : ℕ} {d : Dossier} (l : Lent table rows firsts groups n d) where
  pub lent : (P : (table rows firsts groups : List ℕ) (n : ℕ) → Type 0) → P table rows firsts groups n → P d.table.now d.rows.now d.firsts.now d.groups.now d.operations
  lent P h = lists P (sym l.table_is) (sym l.rows_are) (sym l.firsts_are) (sym l.groups_are) (sym l.operations_are) h

  pub given-back : (P : (table rows firsts groups : List ℕ) (n : ℕ) → Type 0) → P d.table.now d.rows.now d.firsts.now d.groups.now d.operations → P table rows firsts groups n
  given-back P h = lists P l.table_is l.rows_are l.firsts_are l.groups_are l.operations_are h

  pub reads_lent : {text labels : List ℕ} {a : Result ℕ Fault} → ReadsText text table rows firsts groups labels a → ReadsText text d.table.now d.rows.now d.firsts.now d.groups.now labels a
  reads_lent {text} {labels} {a} h = lent (λ t r f g n. ReadsText text t r f g labels a) h
