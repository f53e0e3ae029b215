-- Document 01, "Calls": the lines of the witness, and all that the program prints for a text.
use Rattle.std.specs.Prelude.{true, false, List, [], ◌∷◌, ◌++◌, map, ℕ, zero, suc, pred, ◌+◌, ◌/◌, ◌%◌, ltb, ℤ, pos, negsuc, get_or}
use Rattle.lexical.specs.Lists.{bytes}
use Rattle.lexical.specs.Symbols.{Name, Ending, no_ending, prime, query, shriek}
use Rattle.refusals.specs.Refusals.{Fault, number_of}
use Rattle.form.specs.Tree.{Letters, Given, elements, Operation, Dossier}
use Rattle.static_rules.specs.Carriers.{Carrier, elements_of, numbers, subsets_of, pairs_in, Variable, size_of}
use Rattle.static_rules.specs.Read.{Reading, refusal, reading, read}
use Rattle.sets.specs.Sets.{members}
use Rattle.meaning.specs.Values.{Value, bits}
use Rattle.meaning.specs.Meaning.{Binding}
use Rattle.obligations.specs.Subjects.{Subject, subject_of}
use Rattle.obligations.specs.Order.{Check, Obligation, initialisation, applicability, correctness, obligation_of, checks, variables_of, binding_of, Look, look, initialises}

-- a number in decimal, before the bytes w; the first number bounds how many digits are left
unfoldable pub decimal_before : ℕ → ℕ → List ℕ → List ℕ
decimal_before zero n w = w
decimal_before (suc f) n w = elim (ltb n 10) [ true ↦ (n + 48) ∷ w | false ↦ decimal_before f (n / 10) ((n % 10 + 48) ∷ w) ]

unfoldable pub decimal : ℕ → List ℕ
decimal n = decimal_before (suc n) n []

unfoldable pub signed_decimal : ℤ → List ℕ
signed_decimal (pos n) = decimal n
signed_decimal (negsuc n) = bytes "-" ++ decimal (suc n)

abbrev pub ending_bytes : Ending → List ℕ
ending_bytes no_ending = []
ending_bytes prime = bytes "'"
ending_bytes query = bytes "?"
ending_bytes shriek = bytes "!"

unfoldable pub name_bytes : Name → List ℕ
name_bytes x = x.letters ++ ending_bytes x.ending

unfoldable pub element_bytes : Given → ℕ → List ℕ
element_bytes g i = get_or (elements g) i []

unfoldable pub pair_bytes : Given → Given → ℕ → List ℕ
pair_bytes g h k = element_bytes g (k / size_of h) ++ bytes " |-> " ++ element_bytes h (k % size_of h)

-- "sets as {a, b}, lowest bit first, pairs as a |-> b, empty as {}"
unfoldable pub separated : List (List ℕ) → List ℕ
separated [] = []
separated (x ∷ []) = x
separated (x ∷ y ∷ zs) = x ++ bytes ", " ++ separated (y ∷ zs)

unfoldable pub braced : List (List ℕ) → List ℕ
braced xs = bytes "{" ++ separated xs ++ bytes "}"

unfoldable pub value_bytes : Carrier → Value → List ℕ
value_bytes (elements_of g) v = element_bytes g (bits v)
value_bytes (numbers a b) v = signed_decimal v.code
value_bytes (subsets_of g) v = braced (map (element_bytes g) (members (bits v)))
value_bytes (pairs_in a g h) v = braced (map (pair_bytes g h) (members (bits v)))

-- "Witness writes one line per variable, each ended by a newline"
unfoldable pub binding_lines : List Variable → Binding → List ℕ
binding_lines [] b = []
binding_lines (x ∷ xs) [] = []
binding_lines (x ∷ xs) (b ∷ bs) = name_bytes x.called ++ bytes " = " ++ value_bytes x.carrier b.1 ++ bytes "\n" ++ binding_lines xs bs

unfoldable pub witness_lines : Subject → Check → List ℕ
witness_lines σ x = binding_lines (variables_of σ x) (binding_of x)

-- the check at a place
unfoldable pub check_at : Subject → ℕ → Check
check_at σ p = get_or (checks σ) p (initialises [])

unfoldable pub titles : Dossier → List Letters
titles d = map (λ (o : Operation). o.title) d.operations

-- "The first line names obligation and operation"
unfoldable pub refuted_line : Dossier → Obligation → List ℕ
refuted_line d initialisation = bytes "refuted initialisation\n"
refuted_line d (applicability k) = bytes "refuted applicability " ++ get_or (titles d) k [] ++ bytes "\n"
refuted_line d (correctness k) = bytes "refuted correctness " ++ get_or (titles d) k [] ++ bytes "\n"

-- "the last is the count over the whole check"
unfoldable pub count_line : ℕ → List ℕ
count_line n = bytes "bindings " ++ decimal n ++ bytes "\n"

unfoldable pub verdict_lines : Subject → Look → List ℕ
verdict_lines σ l =
    elim l.failed [
      | true ↦ let x : Check = check_at σ (pred l.count) in refuted_line σ.dossier (obligation_of x) ++ witness_lines σ x ++ count_line l.count
      | false ↦ bytes "accepted\n" ++ count_line l.count
    ]

-- "and alone `refused N at P`, P the byte offset"
unfoldable pub refused_line : Fault → List ℕ
refused_line f = bytes "refused " ++ decimal (number_of f.refusal) ++ bytes " at " ++ decimal f.place ++ bytes "\n"

abbrev pub reported : Reading → List ℕ
reported (refusal f) = refused_line f
reported (reading d) = verdict_lines (subject_of d) (look (subject_of d) (checks (subject_of d)))

-- "The program reads a dossier on standard input. Prints ..."
unfoldable pub report : List ℕ → List ℕ
report text = reported (read text)
