-- The texts of which the lines of a transaction are made.
use Rattle.std.specs.Prelude.{ℕ, ◌==◌, min, max, Bool, true, false, List, [], ◌∷◌, ◌++◌, Option, Some, None, if◌then◌else◌, codes}
use Rattle.std.specs.List.{flat_map}
use Rattle.hl_base.specs.Ascii.{line_feed}
pub use Rattle.hl_time.specs.Shown.{calendar_text}
use Rattle.book.specs.declared.amount.Amount.{Amount}
use Rattle.book.specs.declared.amount.Assertion.{Assertion}
use Rattle.book.specs.declared.amount.Cost.{Cost}
use Rattle.book.specs.declared.amount.Cost.TheVariants as cost
use Rattle.book.specs.declared.amount.Written.{Written}
use Rattle.book.specs.declared.transaction.Mark.{Mark}
use Rattle.book.specs.declared.transaction.Mark.TheVariants as mark
use Rattle.book.specs.declared.transaction.Posting.{Posting}
use Rattle.book.specs.declared.transaction.Side.{Side}
use Rattle.book.specs.declared.transaction.Side.TheVariants as side
use Rattle.book.specs.declared.transaction.Txn.{Txn}
use Rattle.journal_printer.specs.Amounts.{amount_text}

-- the shape in which each amount is shown
abbrev pub Shaping : Type 0
Shaping = Amount → Written

-- ---- comments

-- each LF of a comment begins a further line, indented
abbrev pub comment_byte : ℕ → List ℕ
comment_byte b = if b == line_feed then line_feed ∷ codes "    ; " else b ∷ []

-- what stands before the comment's first line, if that isn't empty
abbrev pub comment_start : List ℕ → List ℕ
comment_start [] = []
comment_start (b ∷ bs) = if b == line_feed then [] else codes "  ; "

-- a comment behind what stands on the line, and the line's end: its first line, if that isn't empty, and then each
-- further line of it on a line of its own
abbrev pub comment_text : List ℕ → List ℕ
comment_text comment = comment_start comment ++ flat_map comment_byte comment ++ (line_feed ∷ [])

-- ---- the head of a transaction

abbrev pub head_mark : Mark → List ℕ
head_mark mark.Unmarked = []
head_mark mark.Pending = codes " !"
head_mark mark.Cleared = codes " *"

abbrev pub code_text : List ℕ → List ℕ
code_text [] = []
code_text (b ∷ bs) = codes " (" ++ (b ∷ bs) ++ codes ")"

abbrev pub description_text : List ℕ → List ℕ
description_text [] = []
description_text (b ∷ bs) = codes " " ++ (b ∷ bs)

-- the day, the mark, the code, the description and the comment
abbrev pub head_text : Txn → List ℕ
head_text t = calendar_text t.day.0 ++ head_mark t.mark ++ code_text t.code ++ description_text t.description ++ comment_text t.comment

-- ---- the account of a posting

abbrev pub posting_mark : Mark → List ℕ
posting_mark mark.Unmarked = []
posting_mark mark.Pending = codes "! "
posting_mark mark.Cleared = codes "* "

-- an account in the brackets of its side
abbrev pub in_brackets : Side → List ℕ → List ℕ
in_brackets side.Real account = account
in_brackets side.Balanced account = codes "[" ++ account ++ codes "]"
in_brackets side.Free account = codes "(" ++ account ++ codes ")"

-- a posting's mark and its account
abbrev pub account_text : Posting → List ℕ
account_text p = posting_mark p.mark ++ in_brackets p.side p.account

-- ---- costs and assertions

abbrev pub cost_text : Shaping → Bool → Option Cost → List ℕ
cost_text shape is_found None = []
cost_text shape is_found (Some (cost.Unit a)) = codes " @ " ++ amount_text (shape a) is_found a
cost_text shape is_found (Some (cost.Total a)) = codes " @@ " ++ amount_text (shape a) is_found a

-- the sign of an assertion
abbrev pub assertion_sign : Bool → Bool → List ℕ
assertion_sign false false = codes " = "
assertion_sign false true = codes " =* "
assertion_sign true false = codes " == "
assertion_sign true true = codes " ==* "

abbrev pub assertion_text : Shaping → Option Assertion → List ℕ
assertion_text shape None = []
assertion_text shape (Some w) = assertion_sign w.only w.below ++ amount_text (shape w.amount) false w.amount
