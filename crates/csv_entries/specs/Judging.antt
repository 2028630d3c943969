-- The entry that a record becomes, or why it becomes none.
use Rattle.std.specs.Prelude.{ℕ, ◌-◌, Bool, false, not, ◌&&◌, ◌||◌, ◌==◌, int_lt, pos, nat_lt, List, [], ◌∷◌, ◌++◌, length, take, map, slice_index, codes, Option, Some, None, option_map, Result, Ok, Err, if◌then◌else◌}
use Rattle.std.specs.List.{list_all, list_any}
use Rattle.std.specs.Str.{is_utf8}
use Rattle.hl_base.specs.Ascii.{carriage_return, line_feed, space}
use Rattle.book.specs.Postings.{plain_posting}
use Rattle.book.specs.declared.amount.Amount.{Amount}
use Rattle.book.specs.declared.transaction.Mark.{Mark}
use Rattle.book.specs.declared.transaction.Posting.{Posting}
use Rattle.book.specs.declared.transaction.Side.{Side}
use Rattle.book.specs.declared.transaction.Side.TheVariants as sides
use Rattle.book.specs.declared.transaction.Txn.{Txn}
use Rattle.entry_reader.specs.Accounts.{account_alone}
use Rattle.entry_reader.specs.Contexts.{Context}
use Rattle.entry_reader.specs.Tags.{tags_of}
use Rattle.query_terms.specs.Patterns.{Known}
use Rattle.query_terms.specs.Reading.{status_of}
use Rattle.csv_entries.specs.Amounts.{amount_of, context, in_currency, in_ok, is_given, is_zero, negated_amount}
use Rattle.csv_entries.specs.Blocks.{actions_in, applying, fields_for, is_end, is_skip}
use Rattle.csv_entries.specs.Dates.{day_of}
use Rattle.csv_entries.specs.Spaces.{stripped}
use Rattle.csv_rules.specs.Columns.{pieces}
use Rattle.csv_rules.specs.declared.kinds.Block.{Block}
use Rattle.csv_rules.specs.declared.kinds.Sheet.{Sheet}
use Rattle.csv_entries.specs.declared.faults.ConvertFault.{ConvertFault}
use Rattle.csv_entries.specs.declared.faults.ConvertFault.TheVariants as faults
use Rattle.csv_entries.specs.declared.fields.Fields.{Fields}
use Rattle.csv_entries.specs.declared.judging.Outcome.{Outcome}
use Rattle.csv_entries.specs.declared.judging.Outcome.TheVariants as outcomes

-- a line without the CR that belongs to its end
abbrev pub without_return : List ℕ → List ℕ
without_return line =
    if nat_lt 0 (length line) && (slice_index line (length line - 1) == carriage_return) then take (length line - 1) line else line

-- lines with a space in place of the end of each but the last
abbrev pub spaced : List (List ℕ) → List ℕ
spaced [] = []
spaced (l ∷ []) = l
spaced (l ∷ m ∷ ls) = without_return l ++ space ∷ spaced (m ∷ ls)

-- line ends inside a text become spaces
abbrev pub one_line : List ℕ → List ℕ
one_line text = spaced (pieces line_feed text)

-- `amount` stands beside `amount-in` or `amount-out`
abbrev pub has_both_kinds : Fields → Bool
has_both_kinds g = is_given g.amount && (is_given g.amount_in || is_given g.amount_out)

abbrev pub is_nonzero : Option Amount → Bool
is_nonzero (Some a) = not (is_zero a)
is_nonzero None = false

-- `amount-in` and `amount-out` are both other than zero
abbrev pub has_both_ways : Context → Fields → Bool
has_both_ways before g = is_nonzero (amount_of before g.amount_in) && is_nonzero (amount_of before g.amount_out)

abbrev pub has_amount : Fields → Bool
has_amount g = is_given g.amount || is_given g.amount_in || is_given g.amount_out

-- of the amounts of both ways the one that isn't zero, and of two zeros the first
abbrev pub one_way : Option Amount → Option Amount → Option Amount
one_way (Some a) (Some b) = if is_zero a && not (is_zero b) then Some (negated_amount b) else Some a
one_way _ _ = None

abbrev pub and_then : {A B : Type 0} → Option A → (A → Option B) → Option B
and_then None f = None
and_then (Some x) f = f x

-- the amount that a text writes, with the currency that is given
abbrev pub amount_with : Context → List ℕ → List ℕ → Option Amount
amount_with before currency text = and_then (amount_of before text) (in_currency currency)

-- the first amount; `amount-out` is negated
abbrev pub first_amount : Context → Fields → Option Amount
first_amount before g =
    if is_given g.amount then amount_with before g.currency g.amount
    else if not (is_given g.amount_out) then amount_with before g.currency g.amount_in
    else if not (is_given g.amount_in) then option_map negated_amount (amount_with before g.currency g.amount_out)
    else one_way (amount_with before g.currency g.amount_in) (amount_with before g.currency g.amount_out)

-- the second amount is the one that is written, else the first negated
abbrev pub second_amount : Context → Fields → Amount → Option Amount
second_amount before g first =
    if is_given g.amount2 then amount_with before g.currency g.amount2 else Some (negated_amount first)

-- an account that isn't given is `income:unknown` for a negative amount, else `expenses:unknown`
abbrev pub unknown : Amount → Side × List ℕ
unknown a =
    (sides.Real, if int_lt a.value.mantissa (pos 0) then codes "income:unknown" else codes "expenses:unknown")

abbrev pub account_in : List ℕ → Amount → Option (Side × List ℕ)
account_in text a = if is_given text then in_ok (account_alone text) else Some (unknown a)

abbrev pub posting : ℕ → Side × List ℕ → Amount → Posting
posting line account a = record (plain_posting line account.0 account.1) { amount = Some a }

-- the posting of an account and an amount, where the account reads
abbrev pub posting_in : ℕ → List ℕ → Amount → Option Posting
posting_in line text a = and_then (account_in text a) (λ account. Some (posting line account a))

abbrev pub both : Posting → Posting → List Posting
both first second = first ∷ second ∷ []

-- an entry, with the lines that it would have alone
abbrev pub entry : ℕ → Mark → Fields → Posting → Posting → Txn
entry day mark g first second = record {
  line = 1;
  day = record { 0 = day };
  mark = mark;
  code = one_line g.code;
  description = one_line g.description;
  comment = one_line g.comment;
  tags = tags_of (one_line g.comment);
  postings = both first second;
}

-- both postings of an entry, where the amounts and the accounts read
abbrev pub postings_in : Context → Fields → Option (Posting × Posting)
postings_in before g =
    and_then (first_amount before g) (λ a.
    and_then (second_amount before g a) (λ b.
    and_then (posting_in 2 g.account1 a) (λ first.
    and_then (posting_in 3 g.account2 b) (λ second.
    Some (first, second)))))

-- the entry of a day, where its mark, its amounts and its accounts read
abbrev pub entry_on : Context → Fields → ℕ → Option Txn
entry_on before g day =
    and_then (status_of g.status) (λ mark.
    and_then (postings_in before g) (λ both.
    Some (entry day mark g both.0 both.1)))

abbrev pub entry_or : ConvertFault → Option Txn → Result Txn ConvertFault
entry_or fault (Some txn) = Ok txn
entry_or fault None = Err fault

-- a record that no block leaves out, of which the day reads or doesn't
abbrev pub judged_on : ℕ → Context → Fields → Option ℕ → Result Txn ConvertFault
judged_on n before g None = Err (faults.NoDate n)
judged_on n before g (Some day) =
    if has_both_kinds g || has_both_ways before g then Err (faults.TwoAmounts n)
    else if not (has_amount g) then Err (faults.NoAmount n)
    else entry_or (faults.BadRecord n) (entry_on before g day)

abbrev pub judged : ℕ → Sheet → Fields → Result Txn ConvertFault
judged n sheet g = judged_on n (context sheet.settings.mark) g (day_of sheet.format g.date)

abbrev pub as_entry : Result Txn ConvertFault → Result Outcome ConvertFault
as_entry (Ok txn) = Ok (outcomes.Entry txn)
as_entry (Err fault) = Err fault

-- what becomes of a record to which some blocks apply: the entries end before it, it is left out, or it is judged
abbrev pub outcome_by : ℕ → Sheet → List (List ℕ) → List Block → Result Outcome ConvertFault
outcome_by n sheet columns blocks =
    if list_any is_end (actions_in blocks) then Ok outcomes.Ends
    else if list_any is_skip (actions_in blocks) then Ok outcomes.LeftOut
    else as_entry (judged n sheet (fields_for sheet columns blocks))

-- the columns of a record without white space and line ends at their ends, where all of them are UTF-8
abbrev pub columns_of : List (List ℕ) → Option (List (List ℕ))
columns_of written = if list_all is_utf8 written then Some (map stripped written) else None

-- what becomes of a record with these columns
abbrev pub outcome_for : Known → Sheet → ℕ → List (List ℕ) → Result Outcome ConvertFault
outcome_for known sheet n columns = outcome_by n sheet columns (applying known sheet columns)

abbrev pub outcome_in : Known → Sheet → ℕ → Option (List (List ℕ)) → Result Outcome ConvertFault
outcome_in known sheet n None = Err (faults.CsvRefused n)
outcome_in known sheet n (Some columns) = outcome_for known sheet n columns

-- what becomes of a record
abbrev pub outcome : Known → Sheet → ℕ → List (List ℕ) → Result Outcome ConvertFault
outcome known sheet n written = outcome_in known sheet n (columns_of written)
