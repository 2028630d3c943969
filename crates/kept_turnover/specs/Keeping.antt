-- What is kept of some values.
use Rattle.std.specs.Prelude.{◌≡◌, ℕ, ◌+◌, ◌-◌, ◌*◌, ◌/◌, ◌%◌, ◌^◌, ◌==◌, ◌&&◌, nat_lt, Bool, true, false, List, [], ◌∷◌, ◌++◌, length, set, slice_index_or, unsigned_abs, Some, String, Vec}
use Rattle.std.specs.Option.{option_map_or}
use Rattle.std.specs.List.{list_all, slice_get}
use Rattle.std.specs.Str.{bytes_eq}
use Rattle.std.specs.Global.{Global}
use Rattle.std.specs.BTreeMap.{BTreeMap, get_by_text}
use Rattle.hl_num.specs.Decimal.{Decimal}
use Rattle.book.specs.Postings.{postings_of}
use Rattle.book.specs.declared.transaction.Txn.{Txn}
use Rattle.entry_balance.specs.Entry.{costs_fit, moved}
use Rattle.entry_balance.specs.Tally.{numbers_of}
use Rattle.entry_balance.specs.Values.{Value}
use Rattle.kept_turnover.specs.Moved.{AreFew, whole, with_places}
use Rattle.kept_turnover.specs.declared.part.Part.{Part}
use Rattle.kept_turnover.specs.declared.turnover.Turnover.{Turnover}

-- ---- the amounts of a symbol with one number of decimals

-- how many there are, and the sums of the lower 64 bits of their mantissas and of what stands above these
abbrev pub no_part : Part
no_part = record { count = 0; low = 0; high = 0 }

abbrev pub part_with : Part → ℕ → Part
part_with p m = record { count = p.count + 1; low = p.low + m % 2 ^ 64; high = p.high + m / 2 ^ 64 }

abbrev pub part_without : Part → ℕ → Part
part_without p m = record { count = p.count - 1; low = p.low - m % 2 ^ 64; high = p.high - m / 2 ^ 64 }

-- the sum of the mantissas
abbrev pub sum_in : Part → ℕ
sum_in p = p.high * 2 ^ 64 + p.low

-- that of some numbers
abbrev pub part_of : List Decimal → Part
part_of [] = no_part
part_of (d ∷ ds) = part_with (part_of ds) (unsigned_abs d.mantissa)

-- with one amount more or less, where a test says so
abbrev pub more_at : Bool → ℕ → Part → Part
more_at true m p = part_with p m
more_at false m p = p

abbrev pub less_at : Bool → ℕ → Part → Part
less_at true m p = part_without p m
less_at false m p = p

-- ---- those of a symbol

-- they stand at their number of decimals
abbrev pub part_at : List Part → ℕ → Part
part_at parts n = slice_index_or parts n no_part

-- in units of the greatest number of decimals that is there they sum to less than 2^127
abbrev pub is_fit : List Part → Bool
is_fit parts = nat_lt (whole (λ n. (part_at parts n).count) (λ n. sum_in (part_at parts n)) (length parts)) (2 ^ 127)

-- ---- those of all symbols

abbrev pub Symbols : Type 0
Symbols = BTreeMap (String Global) (Vec Part Global)

abbrev pub parts_of : Symbols → List ℕ → List Part
parts_of symbols symbol = option_map_or (λ parts. parts.items) (get_by_text symbols symbol) []

abbrev pub part_in : Symbols → List ℕ → ℕ → Part
part_in symbols symbol n = part_at (parts_of symbols symbol) n

-- For each symbol and number of decimals what is kept is that of just these values, none of which has more than 36 decimals.
pub record AreOf (symbols : Symbols) (values : List Value) : Type 0 where
  pub is : (symbol : List ℕ) (n : ℕ) → part_in symbols symbol n ≡ part_of (with_places n (numbers_of symbol values))
  pub few : AreFew values

abbrev pub IsTurnover : Turnover → List Value → Type 0
IsTurnover t values = AreOf t.symbols values

-- all costs of some transactions can be told
abbrev pub are_told : List Txn → Bool
are_told txns = list_all (λ t. costs_fit t.postings) txns

-- ---- changes

-- a number of a symbol more, and one less
abbrev pub HasMore : List ℕ → Decimal → Symbols → Symbols → Type 0
HasMore symbol d old new =
    (other : List ℕ) (n : ℕ) → part_in new other n ≡ more_at (bytes_eq symbol other && (d.places == n)) (unsigned_abs d.mantissa) (part_in old other n)

abbrev pub HasLess : List ℕ → Decimal → Symbols → Symbols → Type 0
HasLess symbol d old new =
    (other : List ℕ) (n : ℕ) → part_in new other n ≡ less_at (bytes_eq symbol other && (d.places == n)) (unsigned_abs d.mantissa) (part_in old other n)

abbrev pub Same : Symbols → Symbols → Type 0
Same old new = (symbol : List ℕ) (n : ℕ) → part_in new symbol n ≡ part_in old symbol n

-- what was kept of any values is kept of these and more, wherever these stand
abbrev pub Gains : Symbols → Symbols → List Value → Type 0
Gains old new more = (front back : List Value) → AreOf old (front ++ back) → AreOf new (front ++ (more ++ back))

-- what was kept of any values among which some stand is kept of the others
abbrev pub Loses : Symbols → Symbols → List Value → Type 0
Loses old new less = (front back : List Value) → AreOf old (front ++ (less ++ back)) → AreOf new (front ++ back)

-- it is a turnover of the same values
abbrev pub Stays : Turnover → Turnover → Type 0
Stays old new = (values : List Value) → IsTurnover old values → IsTurnover new values

-- what was that of a book is that of the book with another form in the place of one that it has
abbrev pub Replaces : Txn → Txn → Turnover → Turnover → Type 0
Replaces one other old new =
    (book : List Txn) (n : ℕ) → slice_get book n ≡ Some one → IsTurnover old (moved (postings_of book))
    → IsTurnover new (moved (postings_of (set book n other)))
