-- What the lines of an entry of a sample say.
use Rattle.std.proofs.Common.{ℕ, ◌≡◌, ◌+◌, ◌<◌, ◌^◌, pos, Bool, true, false, cond, not, ◌==◌, List, [], ◌∷◌, ◌++◌, take, drop, codes, Option, Some, None, Result, Ok, refl, sym, ap, ◌∙◌, arith}
use Rattle.std.specs.Fmt.{decimal}
use Rattle.std.proofs.lemmas.Bool.{false≢true}
use Rattle.std.proofs.lemmas.Bool.Decides.{nat_tests}
use Rattle.std.proofs.lemmas.Fmt.{decimal_digit}
use Rattle.hl_base.specs.Items.{is_white}
use Rattle.hl_num.specs.Reading.{is_digit}
use Rattle.hl_time.specs.Calendar.{year_of}
use Rattle.book.specs.declared.amount.Amount.{Amount}
use Rattle.book.specs.declared.fault.Fault.{Fault}
use Rattle.book.specs.declared.item.Item.TheVariants as item
use Rattle.book.specs.declared.rules.RulePosting.{RulePosting}
use Rattle.book.specs.declared.transaction.Mark.TheVariants.{Unmarked}
use Rattle.book.specs.declared.transaction.Posting.{Posting}
use Rattle.book.specs.declared.transaction.Side.{Side}
use Rattle.book.specs.declared.transaction.Side.TheVariants.{Real}
use Rattle.book.specs.declared.transaction.Txn.{Txn}
use Rattle.book.specs.Postings.{plain_posting}
use Rattle.entry_reader.specs.declared.quantity.Holder.TheVariants as holder
use Rattle.entry_reader.specs.Accounts.{account_at, account_len}
use Rattle.entry_reader.specs.Amounts.{amount_at, assertion_at, assertion_from, cost_at}
use Rattle.entry_reader.specs.Causes.{◌>>=◌}
use Rattle.entry_reader.specs.Comments.{comments_in, is_comment}
use Rattle.entry_reader.specs.Contexts.{Context}
use Rattle.entry_reader.specs.Entries.{entry_of, entry_with, txn_from}
use Rattle.entry_reader.specs.Heads.{Head, day_at, head_from, head_of, head_with, mark_at}
use Rattle.entry_reader.specs.Lines.{after_byte, after_white, first_is, trimmed}
use Rattle.entry_reader.specs.Postings.{Numbers, Quantity, claim_at, each_of, ending_of, numbers_at, numbers_of, own_day, posting_from, posting_line, posting_of, postings_of, quantity_at, rule_posting_of, rule_posting_with, says_much, with_comments}
use Rattle.entry_reader.specs.Symbols.{ends_amount}
use Rattle.entry_reader.specs.Tags.{tags_within}
use Rattle.written_logs.specs.Plain.{lacks}
use Rattle.written_logs.proofs.Accounts.{bare}
use Rattle.written_logs.proofs.Amounts.{digit_ends, digit_white}
use Rattle.written_logs.proofs.Bytes.{after_none, after_spaces, after_white_solid, all_also, before_none, solid_append, trimmed_solid}
use Rattle.written_logs.proofs.Days.{day_at_front}
use Rattle.written_logs.proofs.Lines.{all_append}
use Rattle.written_logs.proofs.Numbers.{decimal-digits, number_first}
use Rattle.sample_journals.specs.Journal.{amount_of, bank, day_of, entry_at, holding, owed, paying, spending, tells, title}
use Rattle.sample_journals.proofs.Amounts.{amount_bytes, amount_read, negative_read, right_alone, right_before}
use Rattle.sample_journals.proofs.Contents.{claim_bytes, entry_lines, head_bytes, in_calendar, pay_bytes, spend_bytes, wide}
use Rattle.sample_journals.proofs.Numbers.{decimal_solid, decimal_some, digit_at}

-- ---- the head

digit_lacks : (b : ℕ) → is_digit b ≡ true → not (b == 59) ≡ true
digit_lacks b h = grind (arith, nat_tests)

title_lacks : (i : ℕ) → i < 100000 → lacks 59 (title i) ≡ true
title_lacks i few =
    all_append (λ b. not (b == 59)) (codes "sample ") (decimal i) refl
    (all_also is_digit (λ b. not (b == 59)) (decimal i) digit_lacks (decimal-digits i (wide i few)))

title_trimmed : (i : ℕ) → i < 100000 → trimmed (title i) ≡ title i
title_trimmed i few =
    let small : i < 2 ^ 64 = omega arith in
    trimmed_solid (title i) refl (solid_append (codes "sample ") (decimal i) (decimal_some i small) (decimal_solid i small))

title_marked : (line day i : ℕ) → (mark_at line (after_white (32 ∷ title i)) >>= λ mark. Ok (head_from day mark.0 mark.1)) ≡ Ok (head_from day Unmarked (title i))
unfolding mark_at
title_marked line day i = refl

title_is : (day i : ℕ) → i < 100000 → head_from day Unmarked (title i) ≡ head_with day Unmarked [] (title i) []
title_is day i few =
    let d = title i in
    let lacking = title_lacks i few in
    ap (λ (c : List ℕ). head_with day Unmarked [] (trimmed c) (trimmed (after_byte 59 d))) (before_none 59 d lacking)
    ∙ ap (λ (c : List ℕ). head_with day Unmarked [] c (trimmed (after_byte 59 d))) (title_trimmed i few)
    ∙ ap (λ (c : List ℕ). head_with day Unmarked [] d (trimmed c)) (after_none 59 d lacking)

head_parts : (context : Context) (line : ℕ) (content : List ℕ)
    → head_of context line content ≡ (day_at context.year line content >>= λ day. mark_at line day.1 >>= λ mark. Ok (head_from day.0 mark.0 mark.1))
unfolding head_of
head_parts context line content = refl

head_read : (year : Option ℕ) (line i : ℕ) → i < 100000 → head_of (bare year) line (head_bytes i) ≡ Ok (head_with (day_of i) Unmarked [] (title i) [])
head_read year line i few =
    head_parts (bare year) line (head_bytes i)
    ∙ ap (λ (r : Result (ℕ × List ℕ) Fault). r >>= λ at. mark_at line at.1 >>= λ mark. Ok (head_from at.0 mark.0 mark.1)) (day_at_front year line (day_of i) (title i) (in_calendar i few))
    ∙ title_marked line (day_of i) i
    ∙ ap (λ (h : Head). Ok h) (title_is (day_of i) i few)

-- ---- numbers

abbrev no_numbers : Numbers
no_numbers = numbers_of None None None None

none_read : (y line : ℕ) (context : Context) → numbers_at (holder.Entry y) context line [] ≡ Ok (no_numbers, [])
unfolding numbers_at quantity_at cost_at claim_at
none_read y line context = refl

quantity_is : (y line : ℕ) (context : Context) (text : List ℕ) → ends_amount text ≡ false
    → quantity_at (holder.Entry y) context line text ≡ (amount_at context line text >>= λ a. Ok ((Some a.0, None), a.1))
unfolding quantity_at
quantity_is y line context text h =
    ap (λ (t : Bool). cond {A = Result (Quantity × List ℕ) Fault} t (Ok ((None, None), text)) (amount_at context line text >>= λ a. Ok ((Some a.0, None), a.1))) h

quantity_read : (y line : ℕ) (context : Context) (text rest : List ℕ) (a : Amount) → ends_amount text ≡ false → amount_at context line text ≡ Ok (a, rest)
    → quantity_at (holder.Entry y) context line text ≡ Ok ((Some a, None), rest)
quantity_read y line context text rest a h read =
    quantity_is y line context text h ∙ ap (λ (r : Result (Amount × List ℕ) Fault). r >>= λ a. Ok ((Some a.0, None), a.1)) read

numbers_alone : (y line : ℕ) (context : Context) (text : List ℕ) (a : Amount) → quantity_at (holder.Entry y) context line text ≡ Ok ((Some a, None), [])
    → numbers_at (holder.Entry y) context line text ≡ Ok (numbers_of (Some a) None None None, [])
unfolding numbers_at cost_at claim_at
numbers_alone y line context text a quantity = rw quantity refl

numbers_claimed : (y line : ℕ) (context : Context) (text more : List ℕ) (a b : Amount) → quantity_at (holder.Entry y) context line text ≡ Ok ((Some a, None), 61 ∷ 32 ∷ 45 ∷ more)
    → amount_at context line (45 ∷ more) ≡ Ok (b, [])
    → numbers_at (holder.Entry y) context line text ≡ Ok (numbers_of (Some a) None None (Some (assertion_from false false b)), [])
unfolding numbers_at cost_at claim_at assertion_at
numbers_claimed y line context text more a b quantity claim = rw quantity (rw claim refl)

goes_on : (text : List ℕ) → first_is is_digit text ≡ true → ends_amount text ≡ false
goes_on [] h = absurd (false≢true h)
goes_on (d ∷ rest) h = digit_ends d rest h

solid : (text : List ℕ) → first_is is_digit text ≡ true → first_is is_white text ≡ false
solid [] h = absurd (false≢true h)
solid (d ∷ rest) h = digit_white d h

spent_numbers : (year : Option ℕ) (y line cents : ℕ) → cents < 2 ^ 127
    → numbers_at (holder.Entry y) (bare year) line (amount_bytes cents []) ≡ Ok (numbers_of (Some (amount_of (pos cents))) None None None, [])
spent_numbers year y line cents small =
    let text = amount_bytes cents [] in
    numbers_alone y line (bare year) text (amount_of (pos cents))
    (quantity_read y line (bare year) text [] (amount_of (pos cents)) (goes_on text (number_first cents (32 ∷ 69 ∷ 85 ∷ 82 ∷ []) small)) (amount_read year line cents [] [] small right_alone))

paid_numbers : (year : Option ℕ) (y line cents spent : ℕ) → cents < 2 ^ 127 → spent < 2 ^ 127
    → numbers_at (holder.Entry y) (bare year) line (45 ∷ amount_bytes cents (claim_bytes spent))
    ≡ Ok (numbers_of (Some (amount_of (owed cents))) None None (Some (holding (owed spent))), [])
paid_numbers year y line cents spent small much =
    let more : List ℕ = 32 ∷ 45 ∷ amount_bytes spent [] in
    numbers_claimed y line (bare year) (45 ∷ amount_bytes cents (claim_bytes spent)) (amount_bytes spent []) (amount_of (owed cents)) (amount_of (owed spent))
    (quantity_read y line (bare year) (45 ∷ amount_bytes cents (claim_bytes spent)) (61 ∷ more) (amount_of (owed cents)) refl
    (negative_read year line cents (claim_bytes spent) (61 ∷ more) small (right_before more)))
    (negative_read year line spent [] [] much right_alone)

-- ---- the line of a posting

-- what is read behind the account
abbrev then_numbers : ℕ → Context → ℕ → List ℕ → Side × List ℕ → Result (RulePosting × List ℕ) Fault
then_numbers y context line text account =
    numbers_at (holder.Entry y) context line (after_white text)
    >>= λ numbers. ending_of line account.0 (says_much numbers.0) numbers.1
    >>= λ own. Ok (posting_from line Unmarked account numbers.0, own)

line_by : (year : Option ℕ) (y line : ℕ) (content name behind text : List ℕ) (numbers : Numbers)
    → posting_line (holder.Entry y) (bare year) line content ≡ (account_at (bare year) line name >>= then_numbers y (bare year) line behind)
    → account_at (bare year) line name ≡ Ok (Real, name) → after_white behind ≡ text → numbers_at (holder.Entry y) (bare year) line text ≡ Ok (numbers, [])
    → posting_line (holder.Entry y) (bare year) line content ≡ Ok (posting_from line Unmarked (Real, name) numbers, [])
line_by year y line content name behind text numbers opened account white read =
    opened
    ∙ ap (λ (r : Result (Side × List ℕ) Fault). r >>= then_numbers y (bare year) line behind) account
    ∙ ap (λ (t : List ℕ). numbers_at (holder.Entry y) (bare year) line t
    >>= λ n. ending_of line Real (says_much n.0) n.1
    >>= λ own. Ok (posting_from line Unmarked (Real, name) n.0, own)) white
    ∙ ap (λ (r : Result (Numbers × List ℕ) Fault). r
    >>= λ n. ending_of line Real (says_much n.0) n.1
    >>= λ own. Ok (posting_from line Unmarked (Real, name) n.0, own)) read

-- the name of a kind of expense
abbrev named : ℕ → List ℕ
named d = codes "expenses:e" ++ d ∷ []

abbrev behind_name : ℕ → List ℕ → List ℕ
behind_name d rest = codes "expenses:e" ++ d ∷ 32 ∷ 32 ∷ rest

digit_tab : (d : ℕ) → is_digit d ≡ true → (d == 9) ≡ false
digit_tab d h = grind (arith, nat_tests)

digit_colon : (d : ℕ) → is_digit d ≡ true → (d == 58) ≡ false
digit_colon d h = grind (arith, nat_tests)

name_len : (d : ℕ) (rest : List ℕ) → is_digit d ≡ true → account_len (behind_name d rest) ≡ 11
name_len d rest h =
    let tab = digit_tab d h in
    let white = digit_white d h in
    rw (white, tab) refl

expense_at : (year : Option ℕ) (line d : ℕ) → is_digit d ≡ true → account_at (bare year) line (named d) ≡ Ok (Real, named d)
expense_at year line d h = let apart = digit_colon d h in rw apart refl

bank_at : (year : Option ℕ) (line : ℕ) → account_at (bare year) line bank ≡ Ok (Real, bank)
bank_at year line = refl

line_opened : (y line : ℕ) (context : Context) (d : ℕ) (rest : List ℕ)
    → posting_line (holder.Entry y) context line (codes "    " ++ behind_name d rest)
    ≡ (account_at context line (take (account_len (behind_name d rest)) (behind_name d rest)) >>= then_numbers y context line (drop (account_len (behind_name d rest)) (behind_name d rest)))
unfolding posting_line mark_at
line_opened y line context d rest = refl

expense_opened : (y line : ℕ) (context : Context) (d : ℕ) (rest : List ℕ) → is_digit d ≡ true
    → posting_line (holder.Entry y) context line (codes "    " ++ behind_name d rest) ≡ (account_at context line (named d) >>= then_numbers y context line (32 ∷ 32 ∷ rest))
expense_opened y line context d rest h =
    line_opened y line context d rest
    ∙ ap (λ (n : ℕ). account_at context line (take n (behind_name d rest)) >>= then_numbers y context line (drop n (behind_name d rest))) (name_len d rest h)

bank_opened : (y line : ℕ) (context : Context) (rest : List ℕ)
    → posting_line (holder.Entry y) context line (codes "    assets:bank  " ++ rest) ≡ (account_at context line bank >>= then_numbers y context line (32 ∷ 32 ∷ rest))
unfolding posting_line mark_at
bank_opened y line context rest = refl

alone_opened : (y line : ℕ) (context : Context) → posting_line (holder.Entry y) context line (codes "    assets:bank") ≡ (account_at context line bank >>= then_numbers y context line [])
unfolding posting_line mark_at
alone_opened y line context = refl

gap_white : (text : List ℕ) → first_is is_white text ≡ false → after_white (32 ∷ 32 ∷ text) ≡ text
gap_white text h = after_spaces 2 text ∙ after_white_solid text h

spend_line : (year : Option ℕ) (y line kind cents : ℕ) → kind < 10 → cents < 2 ^ 127
    → posting_line (holder.Entry y) (bare year) line (spend_bytes kind cents) ≡ Ok (posting_from line Unmarked (Real, named (48 + kind)) (numbers_of (Some (amount_of (pos cents))) None None None), [])
spend_line year y line kind cents one small =
    let d = 48 + kind in
    let is = digit_at kind one in
    let text = amount_bytes cents [] in
    line_by year y line (spend_bytes kind cents) (named d) (32 ∷ 32 ∷ text) text (numbers_of (Some (amount_of (pos cents))) None None None)
    (expense_opened y line (bare year) d text is) (expense_at year line d is)
    (gap_white text (solid text (number_first cents (32 ∷ 69 ∷ 85 ∷ 82 ∷ []) small))) (spent_numbers year y line cents small)

-- what is said of the bank
abbrev pay_numbers : Bool → ℕ → ℕ → Numbers
pay_numbers true cents spent = numbers_of (Some (amount_of (owed cents))) None None (Some (holding (owed spent)))
pay_numbers false cents spent = no_numbers

pay_line : (t : Bool) (year : Option ℕ) (y line cents spent : ℕ) → cents < 2 ^ 127 → spent < 2 ^ 127
    → posting_line (holder.Entry y) (bare year) line (pay_bytes t cents spent) ≡ Ok (posting_from line Unmarked (Real, bank) (pay_numbers t cents spent), [])
pay_line true year y line cents spent small much =
    let text : List ℕ = 45 ∷ amount_bytes cents (claim_bytes spent) in
    line_by year y line (pay_bytes true cents spent) bank (32 ∷ 32 ∷ text) text (pay_numbers true cents spent)
    (bank_opened y line (bare year) text) (bank_at year line) (gap_white text refl) (paid_numbers year y line cents spent small much)
pay_line false year y line cents spent small much =
    line_by year y line (pay_bytes false cents spent) bank [] [] no_numbers (alone_opened y line (bare year)) (bank_at year line) refl (none_read y line (bare year))

-- ---- the postings

-- what is made of a line that is read
abbrev made : ℕ → ℕ → List (List ℕ) → RulePosting × List ℕ → Result RulePosting Fault
made y line more p = own_day (holder.Entry y) line (p.1 ∷ more) >>= λ day. Ok (rule_posting_with (with_comments (p.0).posting p.1 more day) (p.0).factor)

made_of : (y line : ℕ) (context : Context) (rest : List ℕ) (after : List (List ℕ))
    → rule_posting_of (holder.Entry y) context line (32 ∷ rest) after ≡ (posting_line (holder.Entry y) context line (32 ∷ rest) >>= made y line (comments_in after))
unfolding rule_posting_of
made_of y line context rest after = refl

abbrev said : ℕ → List ℕ → Numbers → Posting
said line name numbers = record (plain_posting line Real name) { amount = numbers.amount; cost = numbers.cost; wanted = numbers.wanted }

made_bare : (y line : ℕ) (name : List ℕ) (numbers : Numbers)
    → made y line [] (posting_from line Unmarked (Real, name) numbers, []) ≡ Ok (rule_posting_with (said line name numbers) numbers.factor)
unfolding tags_within
made_bare y line name numbers = refl

posting_read : (y line : ℕ) (context : Context) (rest name : List ℕ) (numbers : Numbers) (after : List (List ℕ))
    → posting_line (holder.Entry y) context line (32 ∷ rest) ≡ Ok (posting_from line Unmarked (Real, name) numbers, []) → comments_in after ≡ []
    → posting_of (holder.Entry y) context line (32 ∷ rest) after ≡ Ok (said line name numbers)
posting_read y line context rest name numbers after is none =
    ap (λ (r : Result RulePosting Fault). r >>= λ p. Ok p.posting)
    (made_of y line context rest after
    ∙ ap (λ (r : Result (RulePosting × List ℕ) Fault). r >>= made y line (comments_in after)) is
    ∙ ap (λ (more : List (List ℕ)). made y line more (posting_from line Unmarked (Real, name) numbers, [])) none
    ∙ made_bare y line name numbers)

no_comment : (t : Bool) (cents spent : ℕ) → is_comment (pay_bytes t cents spent) ≡ false
no_comment true cents spent = refl
no_comment false cents spent = refl

one_more : (reads : ℕ → List ℕ → List (List ℕ) → Result Posting Fault) (line next : ℕ) (content : List ℕ) (after : List (List ℕ)) (p : Posting) (ps : List Posting)
    → line + 1 ≡ next → is_comment content ≡ false → reads line content after ≡ Ok p → each_of reads next after ≡ Ok ps → each_of reads line (content ∷ after) ≡ Ok (p ∷ ps)
unfolding each_of
one_more reads line next content after p ps step none one more =
    ap (λ (t : Bool). cond {A = Result (List Posting) Fault} t (each_of reads (line + 1) after) (reads line content after >>= λ q. each_of reads (line + 1) after >>= λ qs. Ok (q ∷ qs))) none
    ∙ ap (λ (r : Result Posting Fault). r >>= λ q. each_of reads (line + 1) after >>= λ qs. Ok (q ∷ qs)) one
    ∙ ap (λ (k : ℕ). each_of reads k after >>= λ qs. Ok (p ∷ qs)) step
    ∙ ap (λ (r : Result (List Posting) Fault). r >>= λ qs. Ok (p ∷ qs)) more

none_left : (reads : ℕ → List ℕ → List (List ℕ) → Result Posting Fault) (line : ℕ) → each_of reads line [] ≡ Ok []
unfolding each_of
none_left reads line = refl

spend_read : (year : Option ℕ) (y line kind cents : ℕ) (after : List (List ℕ)) → kind < 10 → cents < 2 ^ 127 → comments_in after ≡ []
    → posting_of (holder.Entry y) (bare year) line (spend_bytes kind cents) after ≡ Ok (spending line kind cents)
spend_read year y line kind cents after one small none =
    posting_read y line (bare year) (codes "   " ++ behind_name (48 + kind) (amount_bytes cents [])) (named (48 + kind)) (numbers_of (Some (amount_of (pos cents))) None None None) after
    (spend_line year y line kind cents one small) none
    ∙ ap (λ (ds : List ℕ). Ok (said line (codes "expenses:e" ++ ds) (numbers_of (Some (amount_of (pos cents))) None None None))) (sym (decimal_digit kind one))

pay_read : (t : Bool) (year : Option ℕ) (y line cents spent : ℕ) → cents < 2 ^ 127 → spent < 2 ^ 127
    → posting_of (holder.Entry y) (bare year) line (pay_bytes t cents spent) [] ≡ Ok (paying t line cents spent)
pay_read true year y line cents spent small much =
    posting_read y line (bare year) (codes "   assets:bank  -" ++ amount_bytes cents (claim_bytes spent)) bank (pay_numbers true cents spent) [] (pay_line true year y line cents spent small much) refl
pay_read false year y line cents spent small much =
    posting_read y line (bare year) (codes "   assets:bank") bank no_numbers [] (pay_line false year y line cents spent small much) refl

pay_comments : (t : Bool) (cents spent : ℕ) → comments_in (pay_bytes t cents spent ∷ []) ≡ []
pay_comments true cents spent = refl
pay_comments false cents spent = refl

both_read : (year : Option ℕ) (y line one two kind cents spent : ℕ) (t : Bool) → line + 1 ≡ one → one + 1 ≡ two → kind < 10 → cents < 2 ^ 127 → spent < 2 ^ 127
    → postings_of (bare year) y (line + 1) (spend_bytes kind cents ∷ pay_bytes t cents spent ∷ []) ≡ Ok (spending one kind cents ∷ paying t two cents spent ∷ [])
both_read year y line one two kind cents spent t first second few small much =
    let reads = posting_of (holder.Entry y) (bare year) in
    let after = pay_bytes t cents spent ∷ [] in
    ap (λ (k : ℕ). postings_of (bare year) y k (spend_bytes kind cents ∷ after)) first
    ∙ one_more reads one two (spend_bytes kind cents) after (spending one kind cents) (paying t two cents spent ∷ []) second refl
    (spend_read year y one kind cents after few small (pay_comments t cents spent))
    (one_more reads two (two + 1) (pay_bytes t cents spent) [] (paying t two cents spent) [] refl (no_comment t cents spent)
    (pay_read t year y two cents spent small much) (none_left reads (two + 1)))

-- ---- the entry

parts : (context : Context) (line : ℕ) (c : List ℕ) (cs : List (List ℕ))
    → entry_of context line (c ∷ cs)
    ≡ (head_of context line c >>= λ head. postings_of context (year_of head.day) (line + 1) cs >>= λ ps. Ok (item.Txn (txn_from line head (comments_in cs) ps)))
unfolding entry_with
parts context line c cs = refl

whole_txn : (line i : ℕ) (p q : Posting) → txn_from line (head_with (day_of i) Unmarked [] (title i) []) [] (p ∷ q ∷ []) ≡ entry_at line i p q
unfolding tags_within
whole_txn line i p q = refl

pub entry_read : (year : Option ℕ) (line one two i kind cents spent : ℕ) → i < 100000 → line + 1 ≡ one → one + 1 ≡ two → kind < 10 → cents < 2 ^ 127 → spent < 2 ^ 127
    → entry_of (bare year) line (entry_lines i kind cents spent) ≡ Ok (item.Txn (entry_at line i (spending one kind cents) (paying (tells i) two cents spent)))
entry_read year line one two i kind cents spent few first second small_kind small much =
    let t = tells i in
    let cs = spend_bytes kind cents ∷ pay_bytes t cents spent ∷ [] in
    let head = head_with (day_of i) Unmarked [] (title i) [] in
    let ps = spending one kind cents ∷ paying t two cents spent ∷ [] in
    parts (bare year) line (head_bytes i) cs
    ∙ ap (λ (r : Result Head Fault). r >>= λ h. postings_of (bare year) (year_of h.day) (line + 1) cs >>= λ qs. Ok (item.Txn (txn_from line h (comments_in cs) qs))) (head_read year line i few)
    ∙ ap (λ (r : Result (List Posting) Fault). r >>= λ qs. Ok (item.Txn (txn_from line head (comments_in cs) qs)))
    (both_read year (year_of (day_of i)) line one two kind cents spent t first second small_kind small much)
    ∙ ap (λ (x : Txn). Ok (item.Txn x)) (whole_txn line i (spending one kind cents) (paying t two cents spent))
