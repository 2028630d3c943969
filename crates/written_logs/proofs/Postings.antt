-- The line of a posting of hours reads again.
use Rattle.std.proofs.Common.{◌≡◌, ℕ, ◌+◌, ◌<◌, ◌^◌, Bool, true, false, cond, List, [], ◌∷◌, ◌++◌, take, drop, map, replicate, Option, Some, None, Result, Ok, refl, ap, ◌∙◌, arith}
use Rattle.std.specs.List.{AllByRecursion}
use Rattle.std.proofs.lemmas.Bool.{false≢true}
use Rattle.hl_num.specs.Reading.{is_digit}
use Rattle.book.specs.declared.amount.Amount.{Amount}
use Rattle.book.specs.declared.fault.Fault.{Fault}
use Rattle.book.specs.declared.rules.RulePosting.{RulePosting}
use Rattle.book.specs.declared.transaction.Mark.TheVariants.{Unmarked}
use Rattle.book.specs.declared.transaction.Posting.{Posting}
use Rattle.book.specs.declared.transaction.Side.{Side}
use Rattle.book.specs.declared.transaction.Side.TheVariants.{Free}
use Rattle.entry_reader.specs.declared.quantity.Holder.TheVariants as holder
use Rattle.entry_reader.specs.Accounts.{account_len, account_at}
use Rattle.entry_reader.specs.Amounts.{amount_at, cost_at}
use Rattle.entry_reader.specs.Causes.{◌>>=◌}
use Rattle.entry_reader.specs.Comments.{comments_in}
use Rattle.entry_reader.specs.Contexts.{Context}
use Rattle.entry_reader.specs.Heads.{mark_at}
use Rattle.entry_reader.specs.Lines.{first_is, after_white}
use Rattle.entry_reader.specs.Postings.{Quantity, Numbers, numbers_of, quantity_at, claim_at, numbers_at, says_much, ending_of, posting_from, posting_line, own_day, with_comments, rule_posting_with, rule_posting_of, posting_of, each_of, postings_of}
use Rattle.entry_reader.specs.Tags.{tags_within}
use Rattle.time_logs.specs.Days.{hours}
use Rattle.time_logs.specs.Quantities.{hundredths}
use Rattle.written_logs.specs.Plain.{IsAccount, Spent, spent_posting, IsSpent}
use Rattle.written_logs.specs.Written.{numbered_posting, postings_from}
use Rattle.written_logs.proofs.Accounts.{bare, with_gap, gap_front, gap_behind, account_is}
use Rattle.written_logs.proofs.Amounts.{amount_bytes, amount_read, digit_ends, digit_white}
use Rattle.written_logs.proofs.Bytes.{after_spaces, after_white_solid}
use Rattle.written_logs.proofs.Numbers.{number_first}

-- an account and an amount, with spaces between them
abbrev pub posting_bytes : List ℕ → ℕ → ℕ → List ℕ → List ℕ
posting_bytes a i j amount = 32 ∷ 32 ∷ 32 ∷ 32 ∷ with_gap a (replicate i 32 ++ (replicate j 32 ++ amount))

-- ---- numbers

quantity_digit : (year line d : ℕ) (context : Context) (rest : List ℕ) → is_digit d ≡ true
    → quantity_at (holder.Entry year) context line (d ∷ rest) ≡ (amount_at context line (d ∷ rest) >>= λ a. Ok ((Some a.0, None), a.1))
unfolding quantity_at
quantity_digit year line d context rest h =
    ap (λ (t : Bool). cond {A = Result (Quantity × List ℕ) Fault} t (Ok ((None, None), d ∷ rest)) (amount_at context line (d ∷ rest) >>= λ a. Ok ((Some a.0, None), a.1))) (digit_ends d rest h)

quantity_plain : (year line : ℕ) (context : Context) (text : List ℕ) → first_is is_digit text ≡ true
    → quantity_at (holder.Entry year) context line text ≡ (amount_at context line text >>= λ a. Ok ((Some a.0, None), a.1))
quantity_plain year line context [] h = absurd (false≢true h)
quantity_plain year line context (d ∷ rest) h = quantity_digit year line d context rest h

numbers_read : (year : Option ℕ) (y line count : ℕ) → count < 2 ^ 127
    → numbers_at (holder.Entry y) (bare year) line (amount_bytes count) ≡ Ok (numbers_of (Some (hours (hundredths count))) None None None, [])
unfolding numbers_at cost_at claim_at
numbers_read year y line count small =
    let context = bare year in
    let text = amount_bytes count in
    let quantity : quantity_at (holder.Entry y) context line text ≡ Ok ((Some (hours (hundredths count)), None), []) =
    quantity_plain y line context text (number_first count (104 ∷ []) small)
    ∙ ap (λ (r : Result (Amount × List ℕ) Fault). r >>= λ a. Ok ((Some a.0, None), a.1)) (amount_read year line count small) in
    rw quantity refl

-- ---- a line

mark_none : (line : ℕ) (rest : List ℕ) → mark_at line (40 ∷ rest) ≡ Ok (Unmarked, 40 ∷ rest)
unfolding mark_at
mark_none line rest = refl

-- what is read behind the account
abbrev then_numbers : ℕ → Context → ℕ → List ℕ → Side × List ℕ → Result (RulePosting × List ℕ) Fault
then_numbers y context line text account =
    numbers_at (holder.Entry y) context line (after_white text)
    >>= λ numbers. ending_of line account.0 (says_much numbers.0) numbers.1
    >>= λ own. Ok (posting_from line Unmarked account numbers.0, own)

opened : (y line : ℕ) (context : Context) (a rest : List ℕ)
    → posting_line (holder.Entry y) context line (32 ∷ 32 ∷ 32 ∷ 32 ∷ with_gap a rest)
    ≡ (account_at context line (take (account_len (with_gap a rest)) (with_gap a rest)) >>= then_numbers y context line (drop (account_len (with_gap a rest)) (with_gap a rest)))
unfolding posting_line
opened y line context a rest = rw (mark_none line (a ++ 41 ∷ 32 ∷ 32 ∷ rest)) refl

amount_white : (count : ℕ) → count < 2 ^ 127 → after_white (amount_bytes count) ≡ amount_bytes count
amount_white count small = by (amount_bytes count) (number_first count (104 ∷ []) small)
  where
    by : (text : List ℕ) → first_is is_digit text ≡ true → after_white text ≡ text
    by [] h = absurd (false≢true h)
    by (d ∷ rest) h = after_white_solid (d ∷ rest) (digit_white d h)

gap_white : (i j count : ℕ) → count < 2 ^ 127 → after_white (32 ∷ 32 ∷ (replicate i 32 ++ (replicate j 32 ++ amount_bytes count))) ≡ amount_bytes count
gap_white i j count small =
    after_spaces 2 (replicate i 32 ++ (replicate j 32 ++ amount_bytes count))
    ∙ after_spaces i (replicate j 32 ++ amount_bytes count)
    ∙ after_spaces j (amount_bytes count)
    ∙ amount_white count small

pub line_read : (year : Option ℕ) (y line : ℕ) (a : List ℕ) (i j count : ℕ) → IsAccount a → count < 2 ^ 127
    → posting_line (holder.Entry y) (bare year) line (posting_bytes a i j (amount_bytes count))
    ≡ Ok (posting_from line Unmarked (Free, a) (numbers_of (Some (hours (hundredths count))) None None None), [])
line_read year y line a i j count is small =
    let context = bare year in
    let rest = replicate i 32 ++ (replicate j 32 ++ amount_bytes count) in
    opened y line context a rest
    ∙ ap (λ (text : List ℕ). account_at context line text >>= then_numbers y context line (drop (account_len (with_gap a rest)) (with_gap a rest))) (gap_front a rest is.whole)
    ∙ ap (λ (r : Result (Side × List ℕ) Fault). r >>= then_numbers y context line (drop (account_len (with_gap a rest)) (with_gap a rest))) (account_is year line a is.parts)
    ∙ ap (λ (text : List ℕ). then_numbers y context line text (Free, a)) (gap_behind a rest is.whole)
    ∙ ap (λ (text : List ℕ). numbers_at (holder.Entry y) context line text
    >>= λ numbers. ending_of line Free (says_much numbers.0) numbers.1
    >>= λ own. Ok (posting_from line Unmarked (Free, a) numbers.0, own)) (gap_white i j count small)
    ∙ ap (λ (r : Result (Numbers × List ℕ) Fault). r
    >>= λ numbers. ending_of line Free (says_much numbers.0) numbers.1
    >>= λ own. Ok (posting_from line Unmarked (Free, a) numbers.0, own)) (numbers_read year y line count small)

-- ---- a posting

-- what is made of a line that is read
abbrev made : ℕ → ℕ → List (List ℕ) → RulePosting × List ℕ → Result RulePosting Fault
made y line more p = own_day (holder.Entry y) line (p.1 ∷ more) >>= λ day. Ok (rule_posting_with (with_comments (p.0).posting p.1 more day) (p.0).factor)

made_of : (y line : ℕ) (context : Context) (a : List ℕ) (i j : ℕ) (amount : List ℕ) (after : List (List ℕ))
    → rule_posting_of (holder.Entry y) context line (posting_bytes a i j amount) after
    ≡ (posting_line (holder.Entry y) context line (posting_bytes a i j amount) >>= made y line (comments_in after))
unfolding rule_posting_of
made_of y line context a i j amount after = refl

abbrev bare_posting : ℕ → List ℕ → ℕ → RulePosting
bare_posting line a count = posting_from line Unmarked (Free, a) (numbers_of (Some (hours (hundredths count))) None None None)

made_bare : (y line : ℕ) (s : Spent) → made y line [] (bare_posting line s.account s.count, []) ≡ Ok (rule_posting_with (numbered_posting line (spent_posting s)) None)
unfolding tags_within
made_bare y line s = refl

pub posting_read : (year : Option ℕ) (y line : ℕ) (s : Spent) (i j : ℕ) (after : List (List ℕ)) → IsSpent s → comments_in after ≡ []
    → posting_of (holder.Entry y) (bare year) line (posting_bytes s.account i j (amount_bytes s.count)) after ≡ Ok (numbered_posting line (spent_posting s))
posting_read year y line s i j after is none =
    let context = bare year in
    let small : s.count < 2 ^ 127 = below s.count is.few in
    ap (λ (r : Result RulePosting Fault). r >>= λ p. Ok p.posting)
    (made_of y line context s.account i j (amount_bytes s.count) after
    ∙ ap (λ (r : Result (RulePosting × List ℕ) Fault). r >>= made y line (comments_in after)) (line_read year y line s.account i j s.count is.account small)
    ∙ ap (λ (more : List (List ℕ)). made y line more (bare_posting line s.account s.count, [])) none
    ∙ made_bare y line s)
  where
    below : (n : ℕ) → n < 2 ^ 100 → n < 2 ^ 127
    below n h = omega arith

-- ---- all of an entry

-- how many spaces stand before the gap and behind it
abbrev pub Pads : Type 0
Pads = Spent → ℕ

abbrev pub contents : Pads → Pads → List Spent → List (List ℕ)
contents i j ss = map (λ s. posting_bytes s.account (i s) (j s) (amount_bytes s.count)) ss

pub no_comments : (i j : Pads) (ss : List Spent) → comments_in (contents i j ss) ≡ []
no_comments i j [] = refl
no_comments i j (s ∷ ss) = refl

one_more : (reads : ℕ → List ℕ → List (List ℕ) → Result Posting Fault) (line : ℕ) (a : List ℕ) (i j : ℕ) (amount : List ℕ) (after : List (List ℕ)) (p : Posting) (ps : List Posting)
    → reads line (posting_bytes a i j amount) after ≡ Ok p → each_of reads (line + 1) after ≡ Ok ps → each_of reads line (posting_bytes a i j amount ∷ after) ≡ Ok (p ∷ ps)
unfolding each_of
one_more reads line a i j amount after p ps one more = rw (one, more) refl

none_left : (reads : ℕ → List ℕ → List (List ℕ) → Result Posting Fault) (line : ℕ) → each_of reads line [] ≡ Ok []
unfolding each_of
none_left reads line = refl

pub postings_read : (year : Option ℕ) (y line : ℕ) (i j : Pads) (ss : List Spent) → AllByRecursion IsSpent ss
    → postings_of (bare year) y line (contents i j ss) ≡ Ok (postings_from line (map spent_posting ss))
postings_read year y line i j [] are = none_left (posting_of (holder.Entry y) (bare year)) line
postings_read year y line i j (s ∷ ss) are =
    one_more (posting_of (holder.Entry y) (bare year)) line s.account (i s) (j s) (amount_bytes s.count) (contents i j ss)
    (numbered_posting line (spent_posting s)) (postings_from (line + 1) (map spent_posting ss))
    (posting_read year y line s (i s) (j s) (contents i j ss) are.0 (no_comments i j ss))
    (postings_read year y (line + 1) i j ss are.1)
