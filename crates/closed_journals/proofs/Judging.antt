-- What is known of the lines of entries that no cause is against.
use Rattle.std.proofs.Common.{ℕ, ℤ, pos, zero, suc, negsuc, ◌≡◌, ◌<◌, ◌≤◌, ◌^◌, neg_ℤ, Bool, true, false, cond, not, List, [], ◌∷◌, length, map, Option, Some, None, unsigned_abs, refl, sym, ap, subst, ◌∙◌, arith}
use Rattle.std.specs.Prelude.{nat_lt, is_some}
use Rattle.std.specs.List.{find, AllByRecursion}
use Rattle.std.specs.Option.{option_map, option_or}
use Rattle.std.specs.Str.{is_utf8}
use Rattle.std.proofs.lemmas.Bool.{false≢true}
use Rattle.std.proofs.lemmas.Bool.Decides.{nat_tests}
use Rattle.book.specs.declared.item.Item.{Item}
use Rattle.book_care.specs.Asked.{Asked as Closed}
use Rattle.book_care.specs.Declarations.{is_filled}
use Rattle.book_care.specs.Judged.{bare, closing_fault, fine, first_cause, is_bare, is_fine, late_fault, later, renamed}
use Rattle.book_care.specs.Late.{first_late}
use Rattle.book_care.specs.Lines.{Moved, closing_lines, opposite}
use Rattle.book_care.specs.Reads.{context_at_end, reads_back}
use Rattle.book_care.specs.declared.faults.CloseFault.TheVariants as faults
use Rattle.entry_reader.specs.Contexts.{Context, context_of, decided_mark}
use Rattle.written_logs.specs.Plain.{lacks}
use Rattle.entry_reader.specs.Accounts.{is_account_text}
use Rattle.closed_journals.proofs.Amounts.{IsWritable}
use Rattle.closed_journals.proofs.Bounds.{IsBounded}
use Rattle.closed_journals.proofs.Digits.{IsDecided}
use Rattle.closed_journals.proofs.Entries.{AreLinesOf, IsLineOf}
use Rattle.closed_journals.proofs.Names.{read_of, some_name, text_of, whole_of}
use Rattle.closed_journals.proofs.Told.{IsSound, all_decided}

-- ---- no cause

no_first : {A : Type 0} (a b : Option A) → option_or a b ≡ None → a ≡ None
no_first None b h = refl
no_first (Some x) b h = absurd (let never : ⊥ = cc in never)

no_second : {A : Type 0} (a b : Option A) → option_or a b ≡ None → b ≡ None
no_second None b h = h
no_second (Some x) b h = absurd (let never : ⊥ = cc in never)

no_source : {A B : Type 0} (f : A → B) (a : Option A) → option_map f a ≡ None → a ≡ None
no_source f None h = refl
no_source f (Some x) h = absurd (let never : ⊥ = cc in never)

none_found : {A : Type 0} (p : A → Bool) (xs : List A) → find p xs ≡ None → AllByRecursion (λ x. p x ≡ false) xs
none_found p [] h = tt
none_found {A} p (x ∷ xs) h = by (p x) refl h (none_found p xs)
  where
    by : (t : Bool) → p x ≡ t → cond t (Some x) (find p xs) ≡ None → (find p xs ≡ None → AllByRecursion (λ y. p y ≡ false) xs) → AllByRecursion (λ y. p y ≡ false) (x ∷ xs)
    by true e k f = absurd (let never : ⊥ = cc in never)
    by false e k f = (e, f k)

-- no posting is late
pub none_late : (closed : Closed) → first_cause closed ≡ None → first_late closed.on closed.txns ≡ None
none_late closed h = no_source late_fault (first_late closed.on closed.txns) (no_first (later closed) (closing_fault closed) h)

-- What the lines are that nothing is wrong with.
pub record AreJudged (context : Context) (lines : List Moved) : Type 0 where
  pub back : AllByRecursion (λ m. not (reads_back context m.account) ≡ false) lines
  pub usual : is_some context.usual ≡ true → AllByRecursion (λ m. is_bare m ≡ false) lines
  pub few : AllByRecursion (λ m. is_fine m ≡ false) lines

bare_none : (t : Bool) (o : Option Moved) → cond t (option_map (λ (m : Moved). faults.Bare m.account) o) None ≡ None → t ≡ true → o ≡ None
bare_none true o h e = no_source (λ (m : Moved). faults.Bare m.account) o h
bare_none false o h e = absurd (false≢true e)

pub judged : (closed : Closed) → first_cause closed ≡ None → AreJudged (context_at_end closed.items) (closing_lines closed)
judged closed h =
    let context = context_at_end closed.items in
    let lines = closing_lines closed in
    let all = no_second (later closed) (closing_fault closed) h in
    let one = no_first (renamed context lines) (option_or (bare context lines) (fine lines)) all in
    let rest = no_second (renamed context lines) (option_or (bare context lines) (fine lines)) all in
    let two = no_first (bare context lines) (fine lines) rest in
    let three = no_second (bare context lines) (fine lines) rest in
    record {
      back = none_found (λ m. not (reads_back context m.account)) lines (no_source (λ (m : Moved). faults.Renamed m.account) (find (λ m. not (reads_back context m.account)) lines) one);
      usual = λ e. none_found is_bare lines (bare_none (is_some context.usual) (find is_bare lines) two e);
      few = none_found is_fine lines (no_source (λ (m : Moved). faults.Fine m.account m.symbol) (find is_fine lines) three);
    }

double : (b : Bool) → not b ≡ false → b ≡ true
double true h = refl
double false h = absurd (false≢true (sym h))

-- their accounts are whole texts of accounts
pub whole_lines : (context : Context) (lines : List Moved) → AllByRecursion (λ m. not (reads_back context m.account) ≡ false) lines
    → AllByRecursion (λ m. is_account_text m.account ≡ true) lines
whole_lines context [] back = tt
whole_lines context (m ∷ ms) back = (text_of context m.account (double (reads_back context m.account) back.0), whole_lines context ms back.1)

-- ---- one line

-- A line may be written: its account is an account's whole text, its symbol is on one line and has no quote, both in UTF-8;
-- its digits are below 2^127, and what is decided as the mark of its decimals is a mark.
pub record IsWritten (context : Context) (moved : Moved) : Type 0 where
  pub account : is_account_text moved.account ≡ true
  pub account_utf8 : is_utf8 moved.account ≡ true
  pub symbol_utf8 : is_utf8 moved.symbol ≡ true
  pub symbol_line : lacks 10 moved.symbol ≡ true
  pub symbol_quote : lacks 34 moved.symbol ≡ true
  pub small : unsigned_abs (moved.value).mantissa < 2 ^ 127
  pub mark : IsDecided (decided_mark context moved.symbol)

-- so a bounded line may, whose account is whole
pub all_written : (context : Context) (ms : List Moved) → IsSound context → AllByRecursion (λ m. is_account_text m.account ≡ true) ms → AllByRecursion IsBounded ms → AllByRecursion (IsWritten context) ms
all_written context [] sound whole are = tt
all_written context (m ∷ ms) sound whole are = (
  record {
    account = whole.0;
    account_utf8 = (are.0).account;
    symbol_utf8 = (((are.0).symbol).text).utf8;
    symbol_line = (((are.0).symbol).text).line;
    symbol_quote = ((are.0).symbol).quote;
    small = (are.0).small;
    mark = all_decided context m.symbol sound;
  },
  all_written context ms sound whole.1 are.1,
)

at_most : (a b : ℕ) → nat_lt a b ≡ false → b ≤ a
at_most a b h = grind (arith, nat_tests)

above : (b : ℕ) (bs : List ℕ) → nat_lt 0 (length (b ∷ bs)) ≡ true
above b bs = grind (arith, nat_tests)

no_usual : (o : Option (List ℕ × Option ℕ)) → (is_some o ≡ true → ⊥) → o ≡ None
no_usual None h = refl
no_usual (Some x) h = absurd (h refl)

writable : (d : Context) (symbol : List ℕ) (m : Moved) → m.symbol ≡ symbol → (is_some d.usual ≡ true → is_bare m ≡ false) → IsWritten d m → IsWritable d symbol
writable d [] m e bare is = no_usual d.usual (λ some. false≢true (sym (bare some) ∙ ap (λ (s : List ℕ). not (is_filled s)) e))
writable d (b ∷ bs) m e bare is = record {
  some = above b bs;
  quote = ap (lacks 34) (sym e) ∙ is.symbol_quote;
  utf8 = ap is_utf8 (sym e) ∙ is.symbol_utf8;
  line = ap (lacks 10) (sym e) ∙ is.symbol_line;
}

unsigned_neg : (z : ℤ) → unsigned_abs (neg_ℤ z) ≡ unsigned_abs z
unsigned_neg (pos zero) = refl
unsigned_neg (pos (suc n)) = refl
unsigned_neg (negsuc n) = refl

-- with a year or without one
module _ (year : Option ℕ) (before : List Item) where
  abbrev c : Context
  c = context_of None before

  abbrev d : Context
  d = context_of year before

  line_is : (m : Moved) → not (reads_back c m.account) ≡ false → (is_some c.usual ≡ true → is_bare m ≡ false) → is_fine m ≡ false → IsWritten c m → IsLineOf d m
  line_is m back bare fine is =
      let reads = double (reads_back c m.account) back in
      let whole = whole_of m.account is.account in
      record {
        decided = is.mark;
        symbol = writable c m.symbol m refl bare is;
        short = record { few = at_most 18 (m.value).places fine; small = is.small };
        whole = whole;
        utf8 = is.account_utf8;
        some = some_name c m.account reads;
        read = read_of c d m.account (λ n. refl) whole reads;
      }

  lines_are : (ms : List Moved) → AllByRecursion (λ m. not (reads_back c m.account) ≡ false) ms → (is_some c.usual ≡ true → AllByRecursion (λ m. is_bare m ≡ false) ms) → AllByRecursion (λ m. is_fine m ≡ false) ms
      → AllByRecursion (IsWritten c) ms → AreLinesOf d ms
  lines_are [] back bare fine is = tt
  lines_are (m ∷ ms) back bare fine is = (line_is m back.0 (λ e. (bare e).0) fine.0 is.0, lines_are ms back.1 (λ e. (bare e).1) fine.1 is.1)

  opposite_is : (m : Moved) → IsLineOf d m → IsLineOf d (opposite m)
  opposite_is m is = record {
    decided = is.decided;
    symbol = is.symbol;
    short = record { few = (is.short).few; small = subst (λ (n : ℕ). n < 2 ^ 127) (sym (unsigned_neg (m.value).mantissa)) (is.short).small };
    whole = is.whole;
    utf8 = is.utf8;
    some = is.some;
    read = is.read;
  }

  pub opposites_are : (ms : List Moved) → AreLinesOf d ms → AreLinesOf d (map opposite ms)
  opposites_are [] are = tt
  opposites_are (m ∷ ms) are = (opposite_is m are.0, opposites_are ms are.1)

  -- the lines of a closing entry that nothing is wrong with read again at the end of the text
  pub judged_lines : (ms : List Moved) → AreJudged c ms → AllByRecursion (IsWritten c) ms → AreLinesOf d ms
  judged_lines ms j is = lines_are ms j.back j.usual j.few is
