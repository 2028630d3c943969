-- The lines of a transaction.
use Rattle.std.specs.Prelude.{ℕ, ◌==◌, Bool, false, ◌&&◌, ◌||◌, List, [], ◌∷◌, ◌++◌, map, codes, Option, Some, None, is_some, is_none, if◌then◌else◌}
use Rattle.std.specs.List.{flat_map}
use Rattle.book.specs.declared.amount.Amount.{Amount}
use Rattle.book.specs.declared.amount.Cost.{Cost}
use Rattle.book.specs.declared.transaction.Posting.{Posting}
use Rattle.book.specs.declared.transaction.Txn.{Txn}
use Rattle.journal_printer.specs.declared.detail.Detail.{Detail}
use Rattle.journal_printer.specs.declared.detail.Detail.TheVariants as detail
use Rattle.journal_printer.specs.declared.widths.Widths.{Widths}
use Rattle.journal_printer.specs.Amounts.{amount_text}
use Rattle.journal_printer.specs.Columns.{widest, left_aligned, right_aligned}
use Rattle.journal_printer.specs.Texts.{Shaping, head_text, comment_text, account_text, cost_text, assertion_text}

-- ---- what is shown

-- what balancing found isn't shown where only what is written is
abbrev pub hides : Detail → Bool → Bool
hides detail.Written is_found = is_found
hides detail.Explicit is_found = false

abbrev pub amount_shown : Detail → Posting → Option Amount
amount_shown detail p = if hides detail p.filled then None else p.amount

abbrev pub cost_shown : Detail → Posting → Option Cost
cost_shown detail p = if hides detail (p.filled || p.costed) then None else p.cost

-- balancing found its amount, and no assertion says it
abbrev pub was_missing : Posting → Bool
was_missing p = p.filled && is_none p.wanted

-- two postings that one missing amount gave
abbrev pub are_of_one : Posting → Posting → Bool
are_of_one p q = was_missing p && was_missing q && (p.line == q.line)

-- a posting after another, unless one missing amount gave both
abbrev pub unless_of_one : Posting → Posting → List Posting
unless_of_one p q = if are_of_one p q then [] else q ∷ []

-- some postings after another, without those that one missing amount gave besides the posting before them
abbrev pub written_after : Posting → List Posting → List Posting
written_after p [] = []
written_after p (q ∷ qs) = unless_of_one p q ++ written_after q qs

-- some postings as they are written: those that one missing amount gave are one
abbrev pub written_postings : List Posting → List Posting
written_postings [] = []
written_postings (p ∷ ps) = p ∷ written_after p ps

abbrev pub postings_shown : Detail → List Posting → List Posting
postings_shown detail.Written ps = written_postings ps
postings_shown detail.Explicit ps = ps

-- ---- the line of a posting

-- The fields of a posting: its mark and account; its amount; its cost and its assertion; whether an amount or an
-- assertion is shown; its comment.
pub record Fields : Type 0 where
  pub account : List ℕ
  pub amount : List ℕ
  pub further : List ℕ
  pub is_aligned : Bool
  pub comment : List ℕ

abbrev pub amount_field : Shaping → Bool → Option Amount → List ℕ
amount_field shape is_found None = []
amount_field shape is_found (Some a) = amount_text (shape a) is_found a

abbrev pub fields_of : Shaping → Detail → Posting → Fields
fields_of shape detail p = record {
  account = account_text p;
  amount = amount_field shape p.filled (amount_shown detail p);
  further = cost_text shape p.costed (cost_shown detail p) ++ assertion_text shape p.wanted;
  is_aligned = is_some (amount_shown detail p) || is_some p.wanted;
  comment = p.comment;
}

-- the columns of the widest of a transaction's accounts, and of its amounts
abbrev pub widths_of : List Fields → Widths
widths_of fields = record { account = widest (map (λ f. f.account) fields); amount = widest (map (λ f. f.amount) fields) }

-- the account, and where an amount or an assertion follows, both in columns, the amount right aligned
abbrev pub entry_text : Widths → Fields → List ℕ
entry_text widths f =
    if f.is_aligned
    then left_aligned widths.account f.account ++ codes "  " ++ right_aligned widths.amount f.amount ++ f.further
    else f.account

-- a posting's line, and the further lines of its comment
abbrev pub posting_text : Widths → Fields → List ℕ
posting_text widths f = codes "    " ++ entry_text widths f ++ comment_text f.comment

-- the lines of some postings
abbrev pub postings_text : List Fields → List ℕ
postings_text fields = flat_map (posting_text (widths_of fields)) fields

-- The lines of a transaction: its head, and its postings.
abbrev pub txn_text : Shaping → Detail → Txn → List ℕ
txn_text shape detail t = head_text t ++ postings_text (map (fields_of shape detail) (postings_shown detail t.postings))
