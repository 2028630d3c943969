-- What `clap` says of the words of `serve`.
use Rattle.std.proofs.Common.{◌≡◌, ◌⊎◌, ◌∙◌, inl, inr, ℕ, true, List, [], ◌∷◌, codes, IfSome, Result, Ok, Err, refl, sym, ap, subst}
use Rattle.clap.specs.Words.{App, HasMatchesOf, IsAmong, Kinds, Row, fault_of, found_of, is_simple, is_simple_and_free, matches_of, rows_of}
use Rattle.clap.specs.declared.error.kind.ErrorKind.{ErrorKind}
use Rattle.clap.specs.declared.error.kind.ErrorKind.TheVariants as kind
use Rattle.clap.specs.declared.parser.matches.ArgMatches.{ArgMatches}
use Rattle.clap.specs.declared.parser.matches.Found.{Found}
use Rattle.clap.proofs.OnLiterals.{clap_on_literals}
use Rattle.clap.proofs.WalkLemmas.{first_value-rows}
use Rattle.serve_line.specs.Words.{clap_faults, clap_rows, rows_by, rows_or_usage, said_in, said_of, serve_app, no_reading_cause, no_reading_of}
use Rattle.serve_line.specs.declared.words.NoReading.{NoReading}
use Rattle.serve_line.specs.declared.words.NoReading.TheVariants as no_reading

-- the command is one of which `clap` says what it matches, and why it refuses
simple_so : is_simple serve_app ≡ true
unfolding clap_on_literals
simple_so = refl

free_so : is_simple_and_free serve_app ≡ true
unfolding clap_on_literals
free_so = refl

abbrev RowsBy : App → List (List ℕ) → Result (List Row) NoReading
RowsBy a words = rows_or_usage (fault_of a words) (matches_of a words)

-- ---- words that it takes

rows_taken : (faults : Kinds) (rows found : List Row) → faults ≡ [] → found ≡ rows → rows_or_usage faults rows ≡ Ok found
rows_taken faults rows found none same =
    let G : List Row → Result (List Row) NoReading = λ r. Ok r in
    ap (λ (k : Kinds). rows_or_usage k rows) none ∙ ap G (sym same)

taken_by : (a : App) (words : List (List ℕ)) (m : ArgMatches) → is_simple a ≡ true → is_simple_and_free a ≡ true → HasMatchesOf a words m
    → (is_simple_and_free a ≡ true → fault_of a words ≡ []) → RowsBy a words ≡ Ok (rows_of (found_of m))
taken_by a words m simple free has none = rows_taken (fault_of a words) (matches_of a words) (rows_of (found_of m)) (none free) (has simple).0

pub parsed_rows : (a : App) (words : List (List ℕ)) (m : ArgMatches) → a ≡ serve_app → HasMatchesOf a words m
    → (is_simple_and_free a ≡ true → fault_of a words ≡ []) → rows_by words ≡ Ok (rows_of (found_of m))
unfolding rows_by clap_faults clap_rows
parsed_rows a words m is has none =
    subst (λ (x : App). RowsBy x words ≡ Ok (rows_of (found_of m))) is
    (taken_by a words m (ap is_simple is ∙ simple_so) (ap is_simple_and_free is ∙ free_so) has none)

-- ---- words that it refuses

rows_refused : (k : ErrorKind) (faults : Kinds) (rows : List Row) → IsAmong k faults → rows_or_usage faults rows ≡ Err no_reading.Usage
rows_refused k [] rows among = absurd among
rows_refused k (x ∷ xs) rows among = refl

abbrev IsToldBy : Result (List Row) NoReading → NoReading → Type 0
IsToldBy told u = IfSome (no_reading_cause u) (λ f. told ≡ Err f)

usage_told : (told : Result (List Row) NoReading) (u : NoReading) → told ≡ Err no_reading.Usage → IsToldBy told u
usage_told told no_reading.Usage h = h
usage_told told no_reading.Memory h = tt

refused_by : (k : ErrorKind) (faults : Kinds) (rows : List Row) → (k ≡ kind.OutOfMemory) ⊎ IsAmong k faults
    → IsToldBy (rows_or_usage faults rows) (no_reading_of k)
refused_by k faults rows (inl memory) = subst (λ (j : ErrorKind). IsToldBy (rows_or_usage faults rows) (no_reading_of j)) (sym memory) tt
refused_by k faults rows (inr among) = usage_told (rows_or_usage faults rows) (no_reading_of k) (rows_refused k faults rows among)

pub refused_rows : (a : App) (words : List (List ℕ)) (k : ErrorKind) → a ≡ serve_app
    → (is_simple_and_free a ≡ true → (k ≡ kind.OutOfMemory) ⊎ IsAmong k (fault_of a words))
    → IfSome (no_reading_cause (no_reading_of k)) (λ f. rows_by words ≡ Err f)
unfolding rows_by clap_faults clap_rows
refused_rows a words k is told =
    subst (λ (x : App). IsToldBy (RowsBy x words) (no_reading_of k)) is
    (refused_by k (fault_of a words) (matches_of a words) (told (ap is_simple_and_free is ∙ free_so)))

-- ---- what they say

pub same_said : (found : Found) → said_in found ≡ said_of (rows_of found)
same_said found = rw (
  first_value-rows found (codes "store"),
  first_value-rows found (codes "host"),
  first_value-rows found (codes "port"),
  first_value-rows found (codes "allow"),
  first_value-rows found (codes "workers"),
  first_value-rows found (codes "connections"),
  first_value-rows found (codes "page"),
) refl
