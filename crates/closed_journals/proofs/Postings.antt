-- The line of a posting that an entry shows reads again.
use Rattle.std.proofs.Common.{ℕ, suc, ◌≡◌, ◌+◌, Bool, true, false, cond, ◌==◌, ◌||◌, List, [], ◌∷◌, ◌++◌, length, take, drop, replicate, Some, None, Result, Ok, refl, sym, ap, ◌∙◌, arith}
use Rattle.std.specs.List.{AllByRecursion}
use Rattle.std.proofs.Math.Seq.{take-append_seam, drop-append_seam}
use Rattle.std.proofs.lemmas.Bool.{false≢true}
use Rattle.hl_base.specs.Items.{is_white}
use Rattle.book.specs.declared.amount.Amount.{Amount}
use Rattle.book.specs.declared.amount.Written.{Written}
use Rattle.book.specs.declared.fault.Fault.{Fault}
use Rattle.book.specs.declared.rules.RulePosting.{RulePosting}
use Rattle.book.specs.declared.transaction.Mark.{Mark}
use Rattle.book.specs.declared.transaction.Mark.TheVariants.{Unmarked}
use Rattle.book.specs.declared.transaction.Posting.{Posting}
use Rattle.book.specs.declared.transaction.Side.{Side}
use Rattle.book.specs.declared.transaction.Side.TheVariants.{Real}
use Rattle.book_care.specs.Lines.{Moved}
use Rattle.entry_reader.specs.declared.quantity.Holder.TheVariants as holder
use Rattle.entry_reader.specs.Accounts.{account_len, account_at}
use Rattle.entry_reader.specs.Amounts.{amount_at, cost_at}
use Rattle.entry_reader.specs.Causes.{◌>>=◌}
use Rattle.entry_reader.specs.Comments.{is_comment, comments_in}
use Rattle.entry_reader.specs.Contexts.{Context}
use Rattle.entry_reader.specs.Heads.{is_mark, mark_at}
use Rattle.entry_reader.specs.Lines.{first_is, begins, after_white}
use Rattle.entry_reader.specs.Postings.{Quantity, Numbers, numbers_of, quantity_at, claim_at, numbers_at, says_much, ending_of, posting_from, posting_line, own_day, with_comments, rule_posting_with, rule_posting_of, posting_of, each_of, postings_of}
use Rattle.entry_reader.specs.Symbols.{ends_amount}
use Rattle.entry_reader.specs.Tags.{tags_within}
use Rattle.written_logs.proofs.Bytes.{after_spaces, after_white_solid}
use Rattle.closed_journals.specs.Added.{posting_in, postings_from}
use Rattle.closed_journals.proofs.Names.{IsWhole, IsRead, name_len}

-- an account and an amount, with spaces between them
abbrev pub line_bytes : List ℕ → ℕ → ℕ → List ℕ → List ℕ
line_bytes name i j amount = 32 ∷ 32 ∷ 32 ∷ 32 ∷ (name ++ 32 ∷ 32 ∷ (replicate i 32 ++ (replicate j 32 ++ amount)))

-- A text that reads as an amount.
pub record IsAmount (context : Context) (text : List ℕ) (amount : Amount) : Type 0 where
  pub white : first_is is_white text ≡ false
  pub goes_on : ends_amount text ≡ false
  pub read : (line : ℕ) → amount_at context line text ≡ Ok (amount, [])

-- ---- numbers

quantity_is : (year line : ℕ) (context : Context) (text : List ℕ) → ends_amount text ≡ false
    → quantity_at (holder.Entry year) context line text ≡ (amount_at context line text >>= λ a. Ok ((Some a.0, None), a.1))
unfolding quantity_at
quantity_is year line context text h =
    ap (λ (t : Bool). cond {A = Result (Quantity × List ℕ) Fault} t (Ok ((None, None), text)) (amount_at context line text >>= λ a. Ok ((Some a.0, None), a.1))) h

numbers_by : (year line : ℕ) (context : Context) (text : List ℕ) (amount : Amount) → quantity_at (holder.Entry year) context line text ≡ Ok ((Some amount, None), [])
    → numbers_at (holder.Entry year) context line text ≡ Ok (numbers_of (Some amount) None None None, [])
unfolding numbers_at cost_at claim_at
numbers_by year line context text amount quantity = rw quantity refl

numbers_read : (year line : ℕ) (context : Context) (text : List ℕ) (amount : Amount) → IsAmount context text amount
    → numbers_at (holder.Entry year) context line text ≡ Ok (numbers_of (Some amount) None None None, [])
numbers_read year line context text amount is =
    numbers_by year line context text amount
    (quantity_is year line context text is.goes_on
    ∙ ap (λ (r : Result (Amount × List ℕ) Fault). r >>= λ a. Ok ((Some a.0, None), a.1)) (is.read line))

-- ---- a line

mark_by : (line b : ℕ) (bs : List ℕ) → is_mark b ≡ false → mark_at line (b ∷ bs) ≡ Ok (Unmarked, b ∷ bs)
unfolding mark_at
mark_by line b bs h =
    let one = first_false (b == 33) (b == 42) h in
    let two = second_false (b == 33) (b == 42) h in
    rw (one, two) refl
  where
    first_false : (x y : Bool) → (x || y) ≡ false → x ≡ false
    first_false true y e = e
    first_false false y e = refl

    second_false : (x y : Bool) → (x || y) ≡ false → y ≡ false
    second_false true y e = absurd (false≢true (sym e))
    second_false false y e = e

-- the name is not empty
pub record IsNamed (context : Context) (name : List ℕ) : Type 0 where
  pub whole : IsWhole name
  pub read : IsRead context name
  pub some : (length name ≡ 0) → ⊥

mark_none : (context : Context) (line : ℕ) (name rest : List ℕ) → IsNamed context name → mark_at line (name ++ rest) ≡ Ok (Unmarked, name ++ rest)
mark_none context line [] rest is = absurd (is.some refl)
mark_none context line (b ∷ bs) rest is = mark_by line b (bs ++ rest) is.read.mark

solid : (context : Context) (name rest : List ℕ) → IsNamed context name → first_is is_white (name ++ rest) ≡ false
solid context [] rest is = absurd (is.some refl)
solid context (b ∷ bs) rest is = is.whole.first

no_remark : (context : Context) (name rest : List ℕ) → IsNamed context name → begins (name ++ rest) 59 ≡ false
no_remark context [] rest is = absurd (is.some refl)
no_remark context (b ∷ bs) rest is = is.read.remark

-- what is read behind the mark
abbrev then_account : ℕ → Context → ℕ → Mark × List ℕ → Result (RulePosting × List ℕ) Fault
then_account y context line mark =
    account_at context line (take (account_len mark.1) mark.1)
    >>= λ account. numbers_at (holder.Entry y) context line (after_white (drop (account_len mark.1) mark.1))
    >>= λ numbers. ending_of line account.0 (says_much numbers.0) numbers.1
    >>= λ own. Ok (posting_from line mark.0 account numbers.0, own)

abbrev then_numbers : ℕ → Context → ℕ → List ℕ → Side × List ℕ → Result (RulePosting × List ℕ) Fault
then_numbers y context line text account =
    numbers_at (holder.Entry y) context line (after_white text)
    >>= λ numbers. ending_of line account.0 (says_much numbers.0) numbers.1
    >>= λ own. Ok (posting_from line Unmarked account numbers.0, own)

opened : (y line : ℕ) (context : Context) (content : List ℕ) → posting_line (holder.Entry y) context line content ≡ (mark_at line (after_white content) >>= then_account y context line)
unfolding posting_line
opened y line context content = refl

abbrev behind : ℕ → ℕ → List ℕ → List ℕ
behind i j text = replicate i 32 ++ (replicate j 32 ++ text)

gap_white : (i j : ℕ) (text : List ℕ) → first_is is_white text ≡ false → after_white (32 ∷ 32 ∷ behind i j text) ≡ text
gap_white i j text h =
    after_spaces 2 (behind i j text) ∙ after_spaces i (replicate j 32 ++ text) ∙ after_spaces j text ∙ after_white_solid text h

line_read : (y line : ℕ) (context : Context) (name text : List ℕ) (i j : ℕ) (amount : Amount) → IsNamed context name → IsAmount context text amount
    → posting_line (holder.Entry y) context line (line_bytes name i j text) ≡ Ok (posting_from line Unmarked (Real, name) (numbers_of (Some amount) None None None), [])
line_read y line context name text i j amount is number =
    let rest : List ℕ = 32 ∷ 32 ∷ behind i j text in
    let whole = name ++ rest in
    let len : account_len whole ≡ length name = name_len name (behind i j text) is.whole.len is.whole.last in
    let front : take (account_len whole) whole ≡ name = ap (λ (k : ℕ). take k whole) len ∙ take-append_seam name rest in
    let back : drop (account_len whole) whole ≡ rest = ap (λ (k : ℕ). drop k whole) len ∙ drop-append_seam name rest in
    opened y line context (line_bytes name i j text)
    ∙ ap (λ (t : List ℕ). mark_at line t >>= then_account y context line) (after_spaces 4 whole ∙ after_white_solid whole (solid context name rest is))
    ∙ ap (λ (r : Result (Mark × List ℕ) Fault). r >>= then_account y context line) (mark_none context line name rest is)
    ∙ ap (λ (t : List ℕ). account_at context line t >>= then_numbers y context line (drop (account_len whole) whole)) front
    ∙ ap (λ (r : Result (Side × List ℕ) Fault). r >>= then_numbers y context line (drop (account_len whole) whole)) (is.read.account line)
    ∙ ap (λ (t : List ℕ). then_numbers y context line t (Real, name)) back
    ∙ ap (λ (t : List ℕ). numbers_at (holder.Entry y) context line t
    >>= λ numbers. ending_of line Real (says_much numbers.0) numbers.1
    >>= λ own. Ok (posting_from line Unmarked (Real, name) numbers.0, own)) (gap_white i j text number.white)
    ∙ ap (λ (r : Result (Numbers × List ℕ) Fault). r
    >>= λ numbers. ending_of line Real (says_much numbers.0) numbers.1
    >>= λ own. Ok (posting_from line Unmarked (Real, name) numbers.0, own)) (numbers_read y line context text amount number)

-- ---- a posting

-- what is made of a line that is read
abbrev made : ℕ → ℕ → List (List ℕ) → RulePosting × List ℕ → Result RulePosting Fault
made y line more p = own_day (holder.Entry y) line (p.1 ∷ more) >>= λ day. Ok (rule_posting_with (with_comments (p.0).posting p.1 more day) (p.0).factor)

made_of : (y line : ℕ) (context : Context) (name text : List ℕ) (i j : ℕ) (after : List (List ℕ))
    → rule_posting_of (holder.Entry y) context line (line_bytes name i j text) after
    ≡ (posting_line (holder.Entry y) context line (line_bytes name i j text) >>= made y line (comments_in after))
unfolding rule_posting_of
made_of y line context name text i j after = refl

abbrev bare_posting : ℕ → List ℕ → Amount → RulePosting
bare_posting line name amount = posting_from line Unmarked (Real, name) (numbers_of (Some amount) None None None)

abbrev with_amount : ℕ → List ℕ → Amount → Posting
with_amount line name amount = posting_in amount.shape line (record { account = name; symbol = amount.symbol; value = amount.value })

made_bare : (y line : ℕ) (name : List ℕ) (amount : Amount) → made y line [] (bare_posting line name amount, []) ≡ Ok (rule_posting_with (with_amount line name amount) None)
unfolding tags_within
made_bare y line name amount = refl

posting_read : (y line : ℕ) (context : Context) (name text : List ℕ) (i j : ℕ) (amount : Amount) (after : List (List ℕ)) → IsNamed context name → IsAmount context text amount → comments_in after ≡ []
    → posting_of (holder.Entry y) context line (line_bytes name i j text) after ≡ Ok (with_amount line name amount)
posting_read y line context name text i j amount after is number none =
    ap (λ (r : Result RulePosting Fault). r >>= λ p. Ok p.posting)
    (made_of y line context name text i j after
    ∙ ap (λ (r : Result (RulePosting × List ℕ) Fault). r >>= made y line (comments_in after)) (line_read y line context name text i j amount is number)
    ∙ ap (λ (more : List (List ℕ)). made y line more (bare_posting line name amount, [])) none
    ∙ made_bare y line name amount)

-- ---- all postings of an entry

-- A line of an entry: what it moves, the text of its amount, and the spaces before that.
pub record Shown : Type 0 where
  pub moved : Moved
  pub amount : List ℕ
  pub left : ℕ
  pub right : ℕ

abbrev pub content_of : Shown → List ℕ
content_of s = line_bytes s.moved.account s.left s.right s.amount

-- it reads as it moves, its amount in a shape
pub record IsShown (context : Context) (shape : Moved → Written) (s : Shown) : Type 0 where
  pub named : IsNamed context s.moved.account
  pub amount : IsAmount context s.amount (record { symbol = s.moved.symbol; value = s.moved.value; shape = shape s.moved })

no_comment : (context : Context) (shape : Moved → Written) (s : Shown) → IsShown context shape s → is_comment (content_of s) ≡ false
no_comment context shape s is =
    let whole = s.moved.account ++ 32 ∷ 32 ∷ behind s.left s.right s.amount in
    ap (λ (t : List ℕ). begins t 59) (after_spaces 4 whole ∙ after_white_solid whole (solid context s.moved.account (32 ∷ 32 ∷ behind s.left s.right s.amount) is.named))
    ∙ no_remark context s.moved.account (32 ∷ 32 ∷ behind s.left s.right s.amount) is.named

abbrev pub contents : List Shown → List (List ℕ)
contents [] = []
contents (s ∷ ss) = content_of s ∷ contents ss

abbrev pub moves : List Shown → List Moved
moves [] = []
moves (s ∷ ss) = s.moved ∷ moves ss

pub no_comments : (context : Context) (shape : Moved → Written) (ss : List Shown) → AllByRecursion (IsShown context shape) ss → comments_in (contents ss) ≡ []
no_comments context shape [] are = refl
no_comments context shape (s ∷ ss) are = rw (no_comment context shape s are.0) refl

one_more : (reads : ℕ → List ℕ → List (List ℕ) → Result Posting Fault) (line next : ℕ) (content : List ℕ) (after : List (List ℕ)) (p : Posting) (ps : List Posting)
    → line + 1 ≡ next → is_comment content ≡ false → reads line content after ≡ Ok p → each_of reads next after ≡ Ok ps → each_of reads line (content ∷ after) ≡ Ok (p ∷ ps)
unfolding each_of
one_more reads line next content after p ps step none one more =
    ap (λ (t : Bool). cond {A = Result (List Posting) Fault} t (each_of reads (line + 1) after) (reads line content after >>= λ q. each_of reads (line + 1) after >>= λ qs. Ok (q ∷ qs))) none
    ∙ ap (λ (r : Result Posting Fault). r >>= λ q. each_of reads (line + 1) after >>= λ qs. Ok (q ∷ qs)) one
    ∙ ap (λ (k : ℕ). each_of reads k after >>= λ qs. Ok (p ∷ qs)) step
    ∙ ap (λ (r : Result (List Posting) Fault). r >>= λ qs. Ok (p ∷ qs)) more

none_left : (reads : ℕ → List ℕ → List (List ℕ) → Result Posting Fault) (line : ℕ) → each_of reads line [] ≡ Ok []
unfolding each_of
none_left reads line = refl

next_line : (line : ℕ) → line + 1 ≡ suc line
next_line line = omega arith

pub postings_read : (y line : ℕ) (context : Context) (shape : Moved → Written) (ss : List Shown) → AllByRecursion (IsShown context shape) ss
    → postings_of context y line (contents ss) ≡ Ok (postings_from shape line (moves ss))
postings_read y line context shape [] are = none_left (posting_of (holder.Entry y) context) line
postings_read y line context shape (s ∷ ss) are =
    one_more (posting_of (holder.Entry y) context) line (suc line) (content_of s) (contents ss) (posting_in (shape s.moved) line s.moved) (postings_from shape (suc line) (moves ss))
    (next_line line) (no_comment context shape s are.0)
    (posting_read y line context s.moved.account s.amount s.left s.right (record { symbol = s.moved.symbol; value = s.moved.value; shape = shape s.moved }) (contents ss) (are.0).named (are.0).amount (no_comments context shape ss are.1))
    (postings_read y (suc line) context shape ss are.1)
