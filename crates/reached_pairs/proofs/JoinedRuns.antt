-- Runs with one more entry at their end. Assumes nothing.
use mathlib.Core.Path.{◌≡◌, refl}
use mathlib.Core.List.{List, [], ◌∷◌, ◌++◌}
use Rattle.meaning.specs.Meaning.{Binding}
use Rattle.obligations.specs.Machines.{Machine, Relation}
use Rattle.obligations.specs.Runs.{Entry, IsEntry, Entries, Outcome, Step, Path, last, Related, Alike}

pub path-more : (m : Machine) (s : Binding) (es : List Entry) (rs : List Outcome) (e : Entry) (r : Outcome)
    → Path m s es rs → Step m e (last s rs) r → Path m s (es ++ (e ∷ [])) (rs ++ (r ∷ []))
unfolding Path last
path-more m s [] [] e r p t = (t, tt)
path-more m s [] (q ∷ rs) e r p t = absurd p
path-more m s (x ∷ es) [] e r p t = absurd p
path-more m s (x ∷ es) (q ∷ rs) e r p t = (p.0, path-more m q.state es rs e r p.1 t)

pub last_more : (s : Binding) (rs : List Outcome) (r : Outcome) → last s (rs ++ (r ∷ [])) ≡ r.state
unfolding last
last_more s [] r = refl
last_more s (q ∷ rs) r = last_more q.state rs r

pub alike-more : (R : Relation) (gs hs : List Outcome) (g h : Outcome) → Alike R gs hs → g.output ≡ h.output → Related R g.state h.state
    → Alike R (gs ++ (g ∷ [])) (hs ++ (h ∷ []))
unfolding Alike
alike-more R [] [] g h p o r = (o, r, tt)
alike-more R [] (y ∷ hs) g h p o r = absurd p
alike-more R (x ∷ gs) [] g h p o r = absurd p
alike-more R (x ∷ gs) (y ∷ hs) g h p o r = (p.0, p.1, alike-more R gs hs g h p.2 o r)

pub entries-more : (m : Machine) (es : List Entry) (e : Entry) → Entries m es → IsEntry m e → Entries m (es ++ (e ∷ []))
unfolding Entries
entries-more m [] e p h = (h, tt)
entries-more m (x ∷ es) e p h = (p.0, entries-more m es e p.1 h)
