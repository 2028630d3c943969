-- The line of a posting, as it is read and as it is shown.
use Rattle.std.proofs.Common.{ℕ, zero, suc, ◌≡◌, ◌-◌, ◌<◌, Bool, true, false, cond, ◌==◌, ◌&&◌, ◌||◌, not, codes, List, [], ◌∷◌, ◌++◌, length, take, drop, replicate, Option, Some, None, Result, Ok, Err, refl, sym, ap, subst, ◌∙◌, arith, append_assoc}
use Rattle.std.specs.Prelude.{is_some}
use Rattle.std.specs.List.{list_all, suffix_len}
use Rattle.std.specs.Str.{is_utf8}
use Rattle.std.proofs.lemmas.Bool.{false≢true}
use Rattle.hl_base.specs.Items.{is_blank, is_indented, is_white}
use Rattle.book.specs.declared.amount.Amount.{Amount}
use Rattle.book.specs.declared.amount.Assertion.{Assertion}
use Rattle.book.specs.declared.amount.Cost.{Cost}
use Rattle.book.specs.declared.fault.Cause.TheVariants as cause
use Rattle.book.specs.declared.fault.Fault.{Fault}
use Rattle.book.specs.declared.rules.RulePosting.{RulePosting}
use Rattle.book.specs.declared.transaction.Mark.{Mark}
use Rattle.book.specs.declared.transaction.Mark.TheVariants.{Unmarked, Pending, Cleared}
use Rattle.book.specs.declared.transaction.Posting.{Posting}
use Rattle.book.specs.declared.transaction.Side.{Side}
use Rattle.book.specs.declared.transaction.Side.TheVariants.{Real, Balanced, Free}
use Rattle.entry_reader.proofs.Both.{both_true}
use Rattle.entry_reader.specs.Accounts.{account_at, account_len}
use Rattle.entry_reader.specs.Causes.{fault_at, ◌>>=◌}
use Rattle.entry_reader.specs.Comments.{is_comment}
use Rattle.entry_reader.specs.Contexts.{Context, account_named, decided_mark}
use Rattle.entry_reader.specs.Heads.{is_mark, mark_at}
use Rattle.entry_reader.specs.Lines.{after_white, begins, first_is}
use Rattle.entry_reader.specs.Postings.{Numbers, comment_at, ending_of, is_free, numbers_at, numbers_of, posting_from, posting_line, says_much}
use Rattle.entry_reader.specs.declared.quantity.Holder.TheVariants as holder
use Rattle.journal_printer.specs.Columns.{width_of}
use Rattle.journal_printer.specs.Layout.{Fields, amount_field, amount_shown, cost_shown, entry_text, fields_of, hides}
use Rattle.journal_printer.specs.Texts.{Shaping, assertion_text, cost_text, in_brackets, posting_mark}
use Rattle.journal_printer.specs.declared.detail.Detail.{Detail}
use Rattle.journal_printer.specs.declared.detail.Detail.TheVariants as details
use Rattle.journal_printer.specs.declared.widths.Widths.{Widths}
use Rattle.printed_entries.specs.Alike.{AreShapes, unshaped_posting}
use Rattle.printed_entries.specs.Shapes.{IsShape}
use Rattle.written_logs.proofs.Bytes.{after_spaces, after_white_solid, is_inside, not_false, skip_one}
use Rattle.printed_entries.proofs.Further.{end_comment, end_ends, end_line, end_of, numbers_shown, numbers_text}
use Rattle.printed_entries.proofs.Names.{IsReadAccount, account_reads, gapped, name_back, name_front}
use Rattle.printed_entries.proofs.Parts.{IsPart, ascii_text, part_before, part_behind, spaces_text}
use Rattle.printed_entries.proofs.Remarks.{IsRemark, own_text}
use Rattle.closed_journals.proofs.Texts.{IsText}
use Rattle.printed_entries.proofs.Told.{ChangesNothing, line_gives}
use Rattle.printed_entries.proofs.Told as told
use Rattle.written_logs.proofs.Accounts.{bare}
use Rattle.written_logs.proofs.Lines.{IsLine, ended}

-- ---- what is read

-- What reading one line guarantees of its posting.
abbrev pub IsReadPosting : Posting → Type 0
IsReadPosting p = told.IsReadPosting p

bare_decides : (year : Option ℕ) (symbol : List ℕ) → decided_mark (bare year) symbol ≡ None
bare_decides year [] = refl
bare_decides year (b ∷ bs) = refl

bare_changes : (year : Option ℕ) → ChangesNothing (bare year)
bare_changes year = record { usual = refl; named = λ name. refl }

past_white : (content : List ℕ) → first_is is_white content ≡ true → is_comment content ≡ false → begins (after_white content) 59 ≡ false
past_white content first none = sym (ap (λ (t : Bool). t && begins (after_white content) 59) first) ∙ none

-- in any context that changes no name and no symbol
pub posting_was_read_in : (c : Context) (y line : ℕ) (content own : List ℕ) (p : RulePosting) → ChangesNothing c
    → is_utf8 content ≡ true → list_all is_inside content ≡ true → suffix_len is_white content ≡ 0
    → first_is is_white content ≡ true → is_comment content ≡ false
    → posting_line (holder.Entry y) c line content ≡ Ok (p, own)
    → IsReadPosting p.posting × IsRemark own
posting_was_read_in c y line content own p plain utf8 inside last first none reads =
    line_gives c y line content plain (record { utf8 = utf8; line = inside }) last (past_white content first none) (p, own) reads

pub posting_was_read : (year : Option ℕ) (y line : ℕ) (content own : List ℕ) (p : RulePosting)
    → is_utf8 content ≡ true → list_all is_inside content ≡ true → suffix_len is_white content ≡ 0
    → first_is is_white content ≡ true → is_comment content ≡ false
    → posting_line (holder.Entry y) (bare year) line content ≡ Ok (p, own)
    → IsReadPosting p.posting × IsRemark own
posting_was_read year y line content own p utf8 inside last first none reads = posting_was_read_in (bare year) y line content own p (bare_changes year) utf8 inside last first none reads

-- ---- what is shown

-- the first line of a posting, without its LF
abbrev pub line_text : Shaping → Detail → Widths → Posting → List ℕ → List ℕ
line_text shape detail w p own = codes "    " ++ entry_text w (fields_of shape detail p) ++ own_text own

-- the same by its parts
abbrev parts_text : List ℕ → List ℕ → Option (List ℕ) → List ℕ
parts_text mark account gap = 32 ∷ 32 ∷ 32 ∷ 32 ∷ (mark ++ (account ++ gapped gap))

hidden_none : (detail : Detail) → hides detail false ≡ false
hidden_none details.Written = refl
hidden_none details.Explicit = refl

shown_amount : (detail : Detail) (p : Posting) → p.filled ≡ false → amount_shown detail p ≡ p.amount
shown_amount detail p filled =
    ap (λ (f : Bool). cond {A = Option Amount} (hides detail f) None p.amount) filled ∙ ap (λ (t : Bool). cond {A = Option Amount} t None p.amount) (hidden_none detail)

shown_cost : (detail : Detail) (p : Posting) → p.filled ≡ false → p.costed ≡ false → cost_shown detail p ≡ p.cost
shown_cost detail p filled costed =
    ap (λ (f : Bool). cond {A = Option Cost} (hides detail (f || p.costed)) None p.cost) filled
    ∙ ap (λ (f : Bool). cond {A = Option Cost} (hides detail f) None p.cost) costed
    ∙ ap (λ (t : Bool). cond {A = Option Cost} t None p.cost) (hidden_none detail)

-- what stands in the line of a posting of which nothing was found
abbrev plain_fields : Shaping → List ℕ → Option Amount → Option Cost → Option Assertion → List ℕ → Fields
plain_fields shape account amount cost wanted comment = record {
  account = account;
  amount = amount_field shape false amount;
  further = cost_text shape false cost ++ assertion_text shape wanted;
  is_aligned = is_some amount || is_some wanted;
  comment = comment;
}

fields_are : (shape : Shaping) (detail : Detail) (p : Posting) (text : List ℕ) → p.filled ≡ false → p.costed ≡ false → in_brackets p.side p.account ≡ text
    → fields_of shape detail p ≡ plain_fields shape (posting_mark p.mark ++ text) p.amount p.cost p.wanted p.comment
fields_are shape detail p text filled costed account = λ i. record {
  account = posting_mark p.mark ++ account i;
  amount = amount_field shape (filled i) (shown_amount detail p filled i);
  further = cost_text shape (costed i) (shown_cost detail p filled costed i) ++ assertion_text shape p.wanted;
  is_aligned = is_some (shown_amount detail p filled i) || is_some p.wanted;
  comment = p.comment;
}

spaces_turn : (n : ℕ) (text : List ℕ) → replicate n 32 ++ 32 ∷ 32 ∷ text ≡ 32 ∷ 32 ∷ (replicate n 32 ++ text)
spaces_turn zero text = refl
spaces_turn (suc n) text = ap (λ (xs : List ℕ). 32 ∷ xs) (spaces_turn n text)

-- account, amount, cost and assertion, the comment, in one bracketing
aligned_is : (mark account left right amount cost claim own : List ℕ)
    → ((mark ++ account) ++ left ++ codes "  " ++ (right ++ amount) ++ (cost ++ claim)) ++ own
    ≡ mark ++ (account ++ (left ++ 32 ∷ 32 ∷ (right ++ (amount ++ (cost ++ (claim ++ own))))))
aligned_is mark account left right amount cost claim own =
    let one = (mark ++ account) ++ left in
    let two = one ++ codes "  " in
    let last = cost ++ (claim ++ own) in
    append_assoc (two ++ (right ++ amount)) (cost ++ claim) own
    ∙ ap (λ (xs : List ℕ). (two ++ (right ++ amount)) ++ xs) (append_assoc cost claim own)
    ∙ append_assoc two (right ++ amount) last
    ∙ ap (λ (xs : List ℕ). two ++ xs) (append_assoc right amount last)
    ∙ append_assoc one (codes "  ") (right ++ (amount ++ last))
    ∙ append_assoc (mark ++ account) left (32 ∷ 32 ∷ (right ++ (amount ++ last)))
    ∙ append_assoc mark account (left ++ 32 ∷ 32 ∷ (right ++ (amount ++ last)))

-- the gap before the numbers, or before the comment where there are none
abbrev gap_with : ℕ → ℕ → List ℕ → List ℕ
gap_with i j numbers = replicate i 32 ++ (replicate j 32 ++ numbers)

abbrev own_gap : List ℕ → Option (List ℕ)
own_gap [] = None
own_gap (b ∷ bs) = Some (59 ∷ 32 ∷ b ∷ bs)

own_gap_is : (own : List ℕ) → gapped (own_gap own) ≡ own_text own
own_gap_is [] = refl
own_gap_is (b ∷ bs) = refl

-- A line by its parts, of which the last are its numbers and its comment behind white space.
record IsSplit (mark account numbers text : List ℕ) : Type 0 where
  gap : Option (List ℕ)
  is : text ≡ parts_text mark account gap
  behind : after_white (gapped gap) ≡ after_white numbers
  line : IsLine (gapped gap)

abbrev shown_line : Widths → Fields → List ℕ → List ℕ
shown_line w f own = codes "    " ++ entry_text w f ++ own_text own

split_aligned : (w : Widths) (shape : Shaping) (mark account : List ℕ) (amount : Option Amount) (cost : Option Cost) (wanted : Option Assertion) (comment own : List ℕ)
    → (is_some amount || is_some wanted) ≡ true → IsPart (numbers_text shape amount cost wanted own)
    → IsSplit mark account (numbers_text shape amount cost wanted own) (shown_line w (plain_fields shape (mark ++ account) amount cost wanted comment) own)
split_aligned w shape mark account amount cost wanted comment own e part =
    let numbers = numbers_text shape amount cost wanted own in
    let shown = amount_field shape false amount in
    let n = w.account - width_of (mark ++ account) in
    let m = w.amount - width_of shown in
    record {
      gap = Some (gap_with n m numbers);
      is =
          ap (λ (t : Bool). codes "    " ++ cond t ((mark ++ account) ++ replicate n 32 ++ codes "  " ++ (replicate m 32 ++ shown) ++ (cost_text shape false cost ++ assertion_text shape wanted)) (mark ++ account) ++ own_text own) e
          ∙ ap (λ (xs : List ℕ). 32 ∷ 32 ∷ 32 ∷ 32 ∷ xs) (aligned_is mark account (replicate n 32) (replicate m 32) shown (cost_text shape false cost) (assertion_text shape wanted) (own_text own))
          ∙ ap (λ (xs : List ℕ). 32 ∷ 32 ∷ 32 ∷ 32 ∷ (mark ++ (account ++ xs))) (spaces_turn n (replicate m 32 ++ numbers));
      behind = after_spaces 2 (gap_with n m numbers) ∙ after_spaces n (replicate m 32 ++ numbers) ∙ after_spaces m numbers;
      line =
          (part_behind (32 ∷ 32 ∷ []) (gap_with n m numbers) (ascii_text (32 ∷ 32 ∷ []) refl refl)
          (part_behind (replicate n 32) (replicate m 32 ++ numbers) (spaces_text n) (part_behind (replicate m 32) numbers (spaces_text m) part))).line;
    }

-- without an amount and an assertion
split_short : (w : Widths) (shape : Shaping) (mark account comment own : List ℕ) → IsLine (own_text own)
    → IsSplit mark account (numbers_text shape None None None own) (shown_line w (plain_fields shape (mark ++ account) None None None comment) own)
split_short w shape mark account comment own line = record {
  gap = own_gap own;
  is =
      ap (λ (xs : List ℕ). 32 ∷ 32 ∷ 32 ∷ 32 ∷ xs) (append_assoc mark account (own_text own))
      ∙ ap (λ (xs : List ℕ). 32 ∷ 32 ∷ 32 ∷ 32 ∷ (mark ++ (account ++ xs))) (sym (own_gap_is own));
  behind = ap after_white (own_gap_is own);
  line = subst IsLine (sym (own_gap_is own)) line;
}

some_none : (k : Cost) → Some k ≡ None → ⊥
some_none k h = cc

split_by : (w : Widths) (shape : Shaping) (mark account : List ℕ) (amount : Option Amount) (cost : Option Cost) (wanted : Option Assertion) (comment own : List ℕ)
    → (amount ≡ None → cost ≡ None) → IsLine (own_text own) → ((is_some amount || is_some wanted) ≡ true → IsPart (numbers_text shape amount cost wanted own))
    → IsSplit mark account (numbers_text shape amount cost wanted own) (shown_line w (plain_fields shape (mark ++ account) amount cost wanted comment) own)
split_by w shape mark account (Some a) cost wanted comment own costless line part = split_aligned w shape mark account (Some a) cost wanted comment own refl (part refl)
split_by w shape mark account None cost (Some claim) comment own costless line part = split_aligned w shape mark account None cost (Some claim) comment own refl (part refl)
split_by w shape mark account None None None comment own costless line part = split_short w shape mark account comment own line
split_by w shape mark account None (Some k) None comment own costless line part = absurd (some_none k (costless refl))

-- ---- the mark

first_false : (x y : Bool) → (x || y) ≡ false → x ≡ false
first_false true y e = e
first_false false y e = refl

second_false : (x y : Bool) → (x || y) ≡ false → y ≡ false
second_false true y e = absurd (false≢true (sym e))
second_false false y e = e

mark_none : (line : ℕ) (text : List ℕ) → first_is is_mark text ≡ false → mark_at line text ≡ Ok (Unmarked, text)
unfolding mark_at
mark_none line [] h = refl
mark_none line (b ∷ bs) h =
    let one = first_false (b == 33) (b == 42) h in
    let two = second_false (b == 33) (b == 42) h in
    rw (one, two) refl

abbrev Marked : Type 0
Marked = Result (Mark × List ℕ) Fault

pending_step : (line : ℕ) (text : List ℕ) → mark_at line (33 ∷ 32 ∷ text) ≡ (let r : Marked = cond (first_is is_mark (after_white (32 ∷ text))) (Err (fault_at line cause.StatusMark)) (Ok (Pending, after_white (32 ∷ text))) in r)
unfolding mark_at
pending_step line text = refl

cleared_step : (line : ℕ) (text : List ℕ) → mark_at line (42 ∷ 32 ∷ text) ≡ (let r : Marked = cond (first_is is_mark (after_white (32 ∷ text))) (Err (fault_at line cause.StatusMark)) (Ok (Cleared, after_white (32 ∷ text))) in r)
unfolding mark_at
cleared_step line text = refl

past_mark : (line : ℕ) (mark : Mark) (text : List ℕ) → first_is is_white text ≡ false → first_is is_mark text ≡ false
    → (let r : Marked = cond (first_is is_mark (after_white (32 ∷ text))) (Err (fault_at line cause.StatusMark)) (Ok (mark, after_white (32 ∷ text))) in r) ≡ Ok (mark, text)
past_mark line mark text white none =
    ap (λ (t : List ℕ). let r : Marked = cond (first_is is_mark t) (Err (fault_at line cause.StatusMark)) (Ok (mark, t)) in r) (skip_one is_white 32 text refl ∙ after_white_solid text white)
    ∙ ap (λ (b : Bool). let r : Marked = cond b (Err (fault_at line cause.StatusMark)) (Ok (mark, text)) in r) none

-- a mark behind the line's indentation
mark_reads : (line : ℕ) (mark : Mark) (text : List ℕ) → first_is is_white text ≡ false → first_is is_mark text ≡ false
    → mark_at line (after_white (32 ∷ 32 ∷ 32 ∷ 32 ∷ (posting_mark mark ++ text))) ≡ Ok (mark, text)
mark_reads line Unmarked text white none = ap (mark_at line) (after_spaces 4 text ∙ after_white_solid text white) ∙ mark_none line text none
mark_reads line Pending text white none = pending_step line text ∙ past_mark line Pending text white none
mark_reads line Cleared text white none = cleared_step line text ∙ past_mark line Cleared text white none

mark_is_text : (mark : Mark) → IsText (posting_mark mark)
mark_is_text Unmarked = ascii_text [] refl refl
mark_is_text Pending = ascii_text (codes "! ") refl refl
mark_is_text Cleared = ascii_text (codes "* ") refl refl

-- ---- the line

abbrev Lined : Type 0
Lined = Result (RulePosting × List ℕ) Fault

abbrev then_ending : ℕ → Mark → Side × List ℕ → Numbers × List ℕ → Lined
then_ending line mark account numbers =
    ending_of line account.0 (says_much numbers.0) numbers.1 >>= λ own. (let r : Lined = Ok (posting_from line mark account numbers.0, own) in r)

abbrev then_numbers : ℕ → Context → ℕ → Mark → List ℕ → Side × List ℕ → Lined
then_numbers y context line mark text account = numbers_at (holder.Entry y) context line (after_white text) >>= then_ending line mark account

abbrev then_account : ℕ → Context → ℕ → Mark × List ℕ → Lined
then_account y context line mark =
    account_at context line (take (account_len mark.1) mark.1) >>= then_numbers y context line mark.0 (drop (account_len mark.1) mark.1)

opened : (y line : ℕ) (context : Context) (content : List ℕ) → posting_line (holder.Entry y) context line content ≡ (mark_at line (after_white content) >>= then_account y context line)
unfolding posting_line
opened y line context content = refl

first_solid : (text rest : List ℕ) → 0 < length text → first_is is_white text ≡ false → first_is is_white (text ++ rest) ≡ false
first_solid [] rest some h = absurd (omega arith)
first_solid (b ∷ bs) rest some h = h

first_mark : (text rest : List ℕ) → 0 < length text → first_is is_mark text ≡ false → first_is is_mark (text ++ rest) ≡ false
first_mark [] rest some h = absurd (omega arith)
first_mark (b ∷ bs) rest some h = h

line_reads : (y line : ℕ) (context : Context) (mark : Mark) (side : Side) (name : List ℕ) (is : IsReadAccount side name) (gap : Option (List ℕ)) (numbers : Numbers) (end own : List ℕ)
    → account_named context name ≡ name → first_is is_mark is.text ≡ false
    → numbers_at (holder.Entry y) context line (after_white (gapped gap)) ≡ Ok (numbers, end)
    → ending_of line side (says_much numbers) end ≡ Ok own
    → posting_line (holder.Entry y) context line (parts_text (posting_mark mark) is.text gap) ≡ Ok (posting_from line mark (side, name) numbers, own)
line_reads y line context mark side name is gap numbers end own same none numbers_are ending =
    let text = is.text in
    let whole = text ++ gapped gap in
    let last = ((is.part).line).last in
    opened y line context (parts_text (posting_mark mark) text gap)
    ∙ ap (λ (r : Marked). r >>= then_account y context line) (mark_reads line mark whole (first_solid text (gapped gap) (is.part).some is.first) (first_mark text (gapped gap) (is.part).some none))
    ∙ ap (λ (t : List ℕ). account_at context line t >>= then_numbers y context line mark (drop (account_len whole) whole)) (name_front text gap is.len last)
    ∙ ap (λ (r : Result (Side × List ℕ) Fault). r >>= then_numbers y context line mark (drop (account_len whole) whole)) (account_reads context line side name same is)
    ∙ ap (λ (t : List ℕ). then_numbers y context line mark t (side, name)) (name_back text gap is.len last)
    ∙ ap (λ (r : Result (Numbers × List ℕ) Fault). r >>= then_ending line mark (side, name)) numbers_are
    ∙ ap (λ (r : Result (List ℕ) Fault). r >>= λ text. (let s : Lined = Ok (posting_from line mark (side, name) numbers, text) in s)) ending

ending_is : (line : ℕ) (side : Side) (says : Bool) (own : List ℕ) → (is_free side && not says) ≡ false → IsRemark own → ending_of line side says (end_of own) ≡ Ok own
ending_is line side says own free remark =
    ap (λ (t : Bool). let r : Result (List ℕ) Fault = cond (not t) (Err (fault_at line cause.Form)) (cond (is_free side && not says) (Err (fault_at line cause.Form)) (Ok (comment_at (end_of own)))) in r) (end_ends own)
    ∙ ap (λ (t : Bool). let r : Result (List ℕ) Fault = cond t (Err (fault_at line cause.Form)) (Ok (comment_at (end_of own))) in r) free
    ∙ ap (λ (t : List ℕ). let r : Result (List ℕ) Fault = Ok t in r) (end_comment own remark)

says_by : (a w : Bool) → (a || false || w) ≡ (a || w)
says_by true w = refl
says_by false w = refl

-- ---- the whole

-- How a posting's line reads.
pub record IsShownIn (context : Context) (y line : ℕ) (text own : List ℕ) (p : Posting) : Type 0 where
  pub is_line : IsLine text
  pub no_comment : is_comment text ≡ false
  pub indented : is_indented (ended text) ≡ true
  pub read : RulePosting
  pub reads : posting_line (holder.Entry y) context line text ≡ Ok (read, own)
  pub alike : unshaped_posting read.posting ≡ unshaped_posting p

abbrev pub IsShownAs : Option ℕ → ℕ → ℕ → List ℕ → List ℕ → Posting → Type 0
IsShownAs year y line text own p = IsShownIn (bare year) y line text own p

bracket_mark : (side : Side) (name text : List ℕ) → in_brackets side name ≡ text → first_is is_mark name ≡ false → first_is is_mark text ≡ false
bracket_mark side name text e h = ap (first_is is_mark) (sym e) ∙ by side
  where
    by : (side : Side) → first_is is_mark (in_brackets side name) ≡ false
    by Real = h
    by Balanced = refl
    by Free = refl

comment_by : (mark : Mark) (text rest : List ℕ) → 0 < length text → first_is is_white text ≡ false → (mark ≡ Unmarked → begins text 59 ≡ false)
    → is_comment (32 ∷ 32 ∷ 32 ∷ 32 ∷ (posting_mark mark ++ (text ++ rest))) ≡ false
comment_by Unmarked [] rest some white none = absurd (omega arith)
comment_by Unmarked (b ∷ bs) rest some white none =
    ap (λ (t : List ℕ). begins t 59) (after_spaces 4 (b ∷ (bs ++ rest)) ∙ after_white_solid (b ∷ (bs ++ rest)) white) ∙ none refl
comment_by Pending text rest some white none = refl
comment_by Cleared text rest some white none = refl

indented_by : (mark : Mark) (text rest : List ℕ) → 0 < length text → first_is is_white text ≡ false → list_all is_inside text ≡ true
    → is_indented (ended (32 ∷ 32 ∷ 32 ∷ 32 ∷ (posting_mark mark ++ (text ++ rest)))) ≡ true
indented_by Unmarked [] rest some white inside = absurd (omega arith)
indented_by Unmarked (b ∷ bs) rest some white inside =
    ap (λ (t : Bool). not ((t || (b == 10)) && is_blank ((bs ++ rest) ++ 10 ∷ []))) white
    ∙ ap (λ (t : Bool). not (t && is_blank ((bs ++ rest) ++ 10 ∷ []))) (not_false (b == 10) (both_true (not (b == 10)) (list_all is_inside bs) inside).0)
indented_by Pending text rest some white inside = refl
indented_by Cleared text rest some white inside = refl

-- A posting's line, in a context that changes no name and no symbol, and decides no other mark than those that are shown.
pub posting_shown_in : (context : Context) (shape : Shaping) (detail : Detail) (y line : ℕ) (w : Widths) (p : Posting) (own : List ℕ)
    → ChangesNothing context → ((a : Amount) → IsShape (decided_mark context a.symbol) (shape a)) → IsReadPosting p → first_is is_mark p.account ≡ false → IsRemark own
    → IsShownIn context y line (line_text shape detail w p own) own p
posting_shown_in context shape detail y line w p own plain shapes is unmarked remark =
    let account = is.account in
    let mark = posting_mark p.mark in
    let numbers = numbers_shown y context shape p.amount p.cost p.wanted own plain.usual shapes is.amount is.cost is.costless is.wanted remark in
    let split = split_by w shape mark account.text p.amount p.cost p.wanted p.comment own is.costless (end_line own remark) numbers.part in
    let some = (account.part).some in
    let shown : line_text shape detail w p own ≡ parts_text mark account.text split.gap =
    ap (λ (f : Fields). shown_line w f own) (fields_are shape detail p account.text is.filled is.costed account.is) ∙ split.is in
    let says : (is_free p.side && not (is_some numbers.amount_again || false || is_some numbers.wanted_again)) ≡ false =
    ap (λ (t : Bool). is_free p.side && not t) (says_by (is_some numbers.amount_again) (is_some numbers.wanted_again))
    ∙ ap (λ (t : Bool). is_free p.side && not (t || is_some numbers.wanted_again)) numbers.amount_some
    ∙ ap (λ (t : Bool). is_free p.side && not (is_some p.amount || t)) numbers.wanted_some
    ∙ is.free in
    record {
      is_line =
          subst IsLine (sym shown)
          (part_behind (codes "    ") (mark ++ (account.text ++ gapped split.gap)) (ascii_text (codes "    ") refl refl)
          (part_behind mark (account.text ++ gapped split.gap) (mark_is_text p.mark) (part_before account.text (gapped split.gap) account.part split.line))).line;
      no_comment =
          ap is_comment shown
          ∙ comment_by p.mark account.text (gapped split.gap) some account.first (λ e. ap (λ (t : List ℕ). begins t 59) (sym account.is) ∙ is.remark e);
      indented = ap (λ (t : List ℕ). is_indented (ended t)) shown ∙ indented_by p.mark account.text (gapped split.gap) some account.first ((account.part).line).line;
      read = posting_from line p.mark (p.side, p.account) (numbers_of numbers.amount_again None numbers.cost_again numbers.wanted_again);
      reads =
          ap (posting_line (holder.Entry y) context line) shown
          ∙ line_reads y line context p.mark p.side p.account account split.gap (numbers_of numbers.amount_again None numbers.cost_again numbers.wanted_again) (end_of own) own
          (plain.named p.account) (bracket_mark p.side p.account account.text account.is unmarked)
          (ap (numbers_at (holder.Entry y) context line) split.behind ∙ numbers.read line)
          (ending_is line p.side (is_some numbers.amount_again || false || is_some numbers.wanted_again) own says remark);
      alike = λ i. record {
        amount = numbers.amount_alike i;
        account = p.account;
        comment = sym is.comment i;
        tags = sym is.tags i;
        cost = numbers.cost_alike i;
        wanted = numbers.wanted_alike i;
        line = 0;
        day = sym is.day i;
        mark = p.mark;
        side = p.side;
        filled = sym is.filled i;
        costed = sym is.costed i;
      };
    }

pub posting_shown : (shape : Shaping) (detail : Detail) (year : Option ℕ) (y line : ℕ) (w : Widths) (p : Posting) (own : List ℕ)
    → AreShapes shape → IsReadPosting p → first_is is_mark p.account ≡ false → IsRemark own
    → IsShownAs year y line (line_text shape detail w p own) own p
posting_shown shape detail year y line w p own shapes is unmarked remark =
    posting_shown_in (bare year) shape detail y line w p own (bare_changes year) (λ a. subst (λ (d : Option ℕ). IsShape d (shape a)) (sym (bare_decides year a.symbol)) (shapes a)) is unmarked remark
