-- The lines of worked transactions, computed.
use Rattle.std.proofs.Common.{◌≡◌, ℕ, ℤ, pos, negsuc, true, false, List, [], ◌∷◌, ◌++◌, ◌-◌, map, Option, Some, None, codes, refl, if◌then◌else◌}
use Rattle.std.specs.Char.{encode_utf8}
use Rattle.std.specs.Fmt.{digits}
use Rattle.hl_num.specs.Decimal.{Decimal}
use Rattle.hl_num.specs.Printing.{printed_scaled, printed_units}
use Rattle.hl_time.specs.Calendar.{days_of_years, days_of_months, greatest, years_before, months_before, year_of, month_of, day_of_month}
use Rattle.hl_time.specs.Shown.{day_text}
use Rattle.book.specs.declared.amount.Amount.{Amount}
use Rattle.book.specs.declared.amount.Assertion.{Assertion}
use Rattle.book.specs.declared.amount.Cost.TheVariants as cost
use Rattle.book.specs.declared.amount.Written.{Written}
use Rattle.book.specs.declared.transaction.Mark.TheVariants as mark
use Rattle.book.specs.declared.transaction.Posting.{Posting}
use Rattle.book.specs.declared.transaction.Side.TheVariants as side
use Rattle.book.specs.declared.transaction.Txn.{Txn}
use Rattle.book.specs.Postings.{plain_posting}
use Rattle.unicode_width.proofs.Computing.{unicode_width}
use Rattle.journal_printer.specs.declared.detail.Detail.TheVariants as detail
use Rattle.journal_printer.specs.Amounts.{number_text}
use Rattle.journal_printer.specs.Layout.{txn_text}
use Rattle.journal_printer.specs.Order.{names_in_order}
use Rattle.journal_printer.specs.Texts.{Shaping}

-- on the right after a space, without groups
plain : Written
plain = record { left = false; spaced = true; mark = None; group = None; first = 3; rest = 3 }

-- on the left, with groups of three
grouped_left : Written
grouped_left = record { left = true; spaced = false; mark = None; group = Some 44; first = 3; rest = 3 }

as_plain : Shaping
as_plain a = plain

spent : ℕ → ℕ → Decimal
spent n places = record { mantissa = negsuc (n - 1); places = places }

gained : ℕ → ℕ → Decimal
gained n places = record { mantissa = pos n; places = places }

euros : Decimal → Amount
euros value = record { symbol = codes "EUR"; value = value; shape = plain }

-- a posting with an amount, at line 3
posting : List ℕ → Decimal → Posting
posting account value = record (plain_posting 3 side.Real account) { amount = Some (euros value) }

-- the same, found by balancing
found : List ℕ → Amount → Posting
found account a = record (plain_posting 3 side.Real account) { amount = Some a; filled = true }

-- on 0001-01-05
entry : List Posting → Txn
entry ps = record { line = 1; day = record { 0 = 5 }; mark = mark.Unmarked; code = []; description = codes "bread"; comment = []; tags = []; postings = ps }

line : List ℕ → List ℕ
line text = text ++ (10 ∷ [])

two_postings :
    txn_text as_plain detail.Written (entry (posting (codes "expenses:food") (gained 10 0) ∷ posting (codes "assets:cash") (spent 10 0) ∷ []))
    ≡ line (codes "0001-01-05 bread")
    ++ line (codes "    expenses:food   10 EUR")
    ++ line (codes "    assets:cash    -10 EUR")
unfolding unicode_width digits plain as_plain spent gained euros posting entry line printed_scaled printed_units day_text days_of_years days_of_months greatest years_before months_before year_of month_of day_of_month
two_postings = refl

-- one missing amount gave two symbols
missing : Txn
missing = entry (
    posting (codes "a") (gained 250 2)
    ∷ found (codes "b") (euros (spent 250 2))
    ∷ found (codes "b") (record { symbol = codes "USD"; value = spent 3 0; shape = plain })
    ∷ [])

missing_written :
    txn_text as_plain detail.Written missing
    ≡ line (codes "0001-01-05 bread")
    ++ line (codes "    a  2.50 EUR")
    ++ line (codes "    b")
unfolding unicode_width digits plain as_plain spent gained euros posting found missing entry line printed_scaled printed_units day_text days_of_years days_of_months greatest years_before months_before year_of month_of day_of_month
missing_written = refl

missing_explicit :
    txn_text as_plain detail.Explicit missing
    ≡ line (codes "0001-01-05 bread")
    ++ line (codes "    a  2.50 EUR")
    ++ line (codes "    b  -2.5 EUR")
    ++ line (codes "    b    -3 USD")
unfolding unicode_width digits plain as_plain spent gained euros posting found missing entry line printed_scaled printed_units day_text days_of_years days_of_months greatest years_before months_before year_of month_of day_of_month
missing_explicit = refl

-- an assigned amount, and one that was missing
assigned : Txn
assigned = entry (
    record (found (codes "assets:cash") (euros (gained 100 0))) { wanted = Some (record { amount = euros (gained 100 0); only = true; below = true }) }
    ∷ record (found (codes "equity:start") (euros (spent 100 0))) { line = 4 }
    ∷ [])

assigned_written :
    txn_text as_plain detail.Written assigned
    ≡ line (codes "0001-01-05 bread")
    ++ line (codes "    assets:cash    ==* 100 EUR")
    ++ line (codes "    equity:start")
unfolding unicode_width digits plain as_plain spent gained euros found assigned entry line printed_scaled printed_units day_text days_of_years days_of_months greatest years_before months_before year_of month_of day_of_month
assigned_written = refl

assigned_explicit :
    txn_text as_plain detail.Explicit assigned
    ≡ line (codes "0001-01-05 bread")
    ++ line (codes "    assets:cash    100 EUR ==* 100 EUR")
    ++ line (codes "    equity:start  -100 EUR")
unfolding unicode_width digits plain as_plain spent gained euros found assigned entry line printed_scaled printed_units day_text days_of_years days_of_months greatest years_before months_before year_of month_of day_of_month
assigned_explicit = refl

-- marks, codes, comments, brackets and costs
all_parts : Txn
all_parts = record (entry (
    record (posting (codes "a") (gained 10 0)) { mark = mark.Pending; cost = Some (cost.Total (euros (gained 2500 2))); costed = true; comment = codes "one" ++ (10 ∷ codes "two") }
    ∷ record (posting (codes "b") (gained 5 0)) { mark = mark.Cleared; side = side.Balanced; cost = Some (cost.Unit (euros (gained 150 2))) }
    ∷ record (plain_posting 4 side.Free (codes "c")) { comment = 10 ∷ codes "below" }
    ∷ [])) { mark = mark.Cleared; code = codes "12"; comment = codes "note" }

all_parts_written :
    txn_text as_plain detail.Written all_parts
    ≡ line (codes "0001-01-05 * (12) bread  ; note")
    ++ line (codes "    ! a    10 EUR  ; one")
    ++ line (codes "    ; two")
    ++ line (codes "    * [b]   5 EUR @ 1.50 EUR")
    ++ line (codes "    (c)")
    ++ line (codes "    ; below")
unfolding unicode_width digits plain as_plain gained euros posting all_parts entry line printed_scaled printed_units day_text days_of_years days_of_months greatest years_before months_before year_of month_of day_of_month
all_parts_written = refl

all_parts_explicit :
    txn_text as_plain detail.Explicit all_parts
    ≡ line (codes "0001-01-05 * (12) bread  ; note")
    ++ line (codes "    ! a    10 EUR @@ 25 EUR  ; one")
    ++ line (codes "    ; two")
    ++ line (codes "    * [b]   5 EUR @ 1.50 EUR")
    ++ line (codes "    (c)")
    ++ line (codes "    ; below")
unfolding unicode_width digits plain as_plain gained euros posting all_parts entry line printed_scaled printed_units day_text days_of_years days_of_months greatest years_before months_before year_of month_of day_of_month
all_parts_explicit = refl

-- a number in groups ends with the decimal mark where it has no decimals
grouped_whole : number_text grouped_left 0 (spent 1000 0) ≡ codes "-1,000."
unfolding encode_utf8 digits grouped_left spent printed_scaled printed_units
grouped_whole = refl

grouped_short : number_text grouped_left 0 (gained 999 0) ≡ codes "999"
unfolding encode_utf8 digits grouped_left gained printed_scaled printed_units
grouped_short = refl

grouped_decimals : number_text grouped_left 1 (gained 10005 1) ≡ codes "1,000.5"
unfolding encode_utf8 digits grouped_left gained printed_scaled printed_units
grouped_decimals = refl

-- by day, and on one day by number
order_of_days :
    names_in_order (map (λ day. record (entry []) { day = record { 0 = day } }) (7 ∷ 5 ∷ 7 ∷ 6 ∷ []))
    ≡ (5, 1) ∷ (6, 3) ∷ (7, 0) ∷ (7, 2) ∷ []
unfolding entry
order_of_days = refl
