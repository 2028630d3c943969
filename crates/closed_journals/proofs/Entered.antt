-- What is read of the postings of an entry: accounts and symbols in UTF-8 on one line.
use Rattle.std.proofs.Common.{ℕ, ◌≡◌, ◌+◌, ◌-◌, ◌<◌, ◌≤◌, inl, inr, ◌⊎◌, Bool, true, false, cond, ◌&&◌, ◌||◌, not, List, [], ◌∷◌, ◌++◌, length, get_or, take, drop, Option, Some, None, Ok, is_some, refl, sym, ap, subst, ◌∙◌, arith, lit<}
use Rattle.std.specs.Prelude.{nat_lt, nat_eq}
use Rattle.std.specs.List.{list_all, starts_with, AllByRecursion}
use Rattle.std.specs.Str.{is_utf8}
use Rattle.std.proofs.lemmas.Bool.{cases_lt, eqb-true}
use Rattle.std.proofs.lemmas.Bool.Decides.{nat_tests}
use Rattle.std.proofs.lemmas.List.{drop_all, get_or-drop}
use Rattle.hl_base.specs.Items.{is_white}
use Rattle.book.specs.declared.amount.Amount.{Amount}
use Rattle.book.specs.declared.amount.Assertion.{Assertion}
use Rattle.book.specs.declared.amount.Cost.{Cost}
use Rattle.book.specs.declared.amount.Cost.TheVariants as costs
use Rattle.book.specs.declared.fault.Cause.TheVariants as cause
use Rattle.book.specs.declared.rules.RulePosting.{RulePosting}
use Rattle.book.specs.declared.transaction.Mark.{Mark}
use Rattle.book.specs.declared.transaction.Posting.{Posting}
use Rattle.book.specs.declared.transaction.Side.{Side}
use Rattle.entry_reader.proofs.Both.{both_true}
use Rattle.entry_reader.proofs.Names.{inside_utf8}
use Rattle.entry_reader.proofs.Texts as cuts
use Rattle.entry_reader.specs.Accounts.{account_at, account_len, has_parts, is_bracketed, is_within, name_in, name_of, side_of}
use Rattle.entry_reader.specs.Amounts.{after_claim, after_equals, amount_at, assertion_at, assertion_from, cost_at, is_below, is_only, total_mark, unit_mark}
use Rattle.entry_reader.specs.Causes.{fault_at, ◌>>=◌}
use Rattle.entry_reader.specs.Comments.{comments_in, is_comment}
use Rattle.entry_reader.specs.Contexts.{Context, account_named, ends_part, is_under, renamed, with_applied}
use Rattle.entry_reader.specs.Heads.{after_mark, has_second_mark, is_mark as is_status, mark_at, mark_of}
use Rattle.entry_reader.specs.Lines.{after_white, begins, first_is}
use Rattle.entry_reader.specs.Postings.{Numbers, Quantity, claim_at, cost_behind, each_of, ending_of, is_entry, is_written as is_quantity, numbers_at, numbers_of, own_day, posting_from, posting_line, posting_of, postings_of, quantity_at, rule_posting_of, rule_posting_with, says_much, with_comments}
use Rattle.entry_reader.specs.Symbols.{ends_amount}
use Rattle.entry_reader.specs.declared.quantity.Holder.{Holder}
use Rattle.entry_reader.specs.declared.quantity.Holder.TheVariants as holder
use Rattle.written_logs.proofs.Bytes.{is_inside, utf8_append, utf8_ascii}
use Rattle.written_logs.proofs.Lines.{all_append}
use Rattle.closed_journals.proofs.Texts.{AreTexts, all_drop, all_take, Gives, IsText, after_name_text, any_gives, bind_gives, choice_gives, empty_text, name_text, ok_gives, past_byte, past_text, rest_text, unless_gives, unspaced_text, when_gives}
use Rattle.closed_journals.proofs.Told.{IsAmountRead, IsSound, IsToldAmount, amount_gives}

-- ---- costs and assertions

abbrev pub AmountIs : Option Amount → Type 0
AmountIs None = Unit {0}
AmountIs (Some a) = IsToldAmount a

abbrev pub CostIs : Option Cost → Type 0
CostIs None = Unit {0}
CostIs (Some (costs.Unit a)) = IsToldAmount a
CostIs (Some (costs.Total a)) = IsToldAmount a

abbrev pub WantedIs : Option Assertion → Type 0
WantedIs None = Unit {0}
WantedIs (Some w) = IsToldAmount w.amount

record IsCostRead (r : Option Cost × List ℕ) : Type 0 where
  cost : CostIs r.0
  rest : IsText r.1

record IsWantedRead (r : Option Assertion × List ℕ) : Type 0 where
  wanted : WantedIs r.0
  rest : IsText r.1

record IsQuantityRead (r : Quantity × List ℕ) : Type 0 where
  amount : AmountIs (r.0).0
  rest : IsText r.1

-- what a posting says of numbers
record IsNumbersRead (r : Numbers × List ℕ) : Type 0 where
  amount : AmountIs (r.0).amount
  cost : CostIs (r.0).cost
  wanted : WantedIs (r.0).wanted

-- a posting that was read
pub record IsToldPosting (p : Posting) : Type 0 where
  pub account : is_utf8 p.account ≡ true
  pub amount : AmountIs p.amount
  pub cost : CostIs p.cost
  pub wanted : WantedIs p.wanted

drop_by : (t : Bool) (byte : ℕ) (text : List ℕ) → byte < 128 → begins text byte ≡ t → IsText text → IsText (cond t (drop 1 text) text)
drop_by true byte text low e is = past_byte byte text low e is
drop_by false byte text low e is = is

equals_by : (t : Bool) (text : List ℕ) → begins (drop 1 text) 61 ≡ t → IsText (drop 1 text) → IsText (cond t (drop 1 (drop 1 text)) (drop 1 text))
equals_by true text e is = past_byte 61 (drop 1 text) (lit< tt) e is
equals_by false text e is = is

claim_text : (text : List ℕ) → begins text 61 ≡ true → IsText text → IsText (after_claim text)
claim_text text e is =
    let equals = equals_by (is_only text) text refl (past_byte 61 text (lit< tt) e is) in
    drop_by (is_below text) 42 (after_equals text) (lit< tt) refl equals

module _ (c : Context) (line : ℕ) (sound : IsSound c) where
  cost_gives : (text : List ℕ) → IsText text → Gives IsCostRead (cost_at c line text)
  unfolding cost_at
  cost_gives text is =
      choice_gives IsCostRead (nat_lt 0 (total_mark text)) _ _
      (λ _. bind_gives IsAmountRead IsCostRead (amount_at c line (after_white (drop (total_mark text) text))) _
      (amount_gives c line (after_white (drop (total_mark text) text)) sound (unspaced_text (drop (total_mark text) text) (rest_text (total_mark text) text is (cuts.total_utf8 text is.utf8))))
      (λ a r. ok_gives IsCostRead (Some (costs.Total a.0), a.1) (record { cost = r.amount; rest = r.rest })))
      (λ _. choice_gives IsCostRead (nat_lt 0 (unit_mark text)) _ _
      (λ _. bind_gives IsAmountRead IsCostRead (amount_at c line (after_white (drop (unit_mark text) text))) _
      (amount_gives c line (after_white (drop (unit_mark text) text)) sound (unspaced_text (drop (unit_mark text) text) (rest_text (unit_mark text) text is (cuts.unit_utf8 text is.utf8))))
      (λ a r. ok_gives IsCostRead (Some (costs.Unit a.0), a.1) (record { cost = r.amount; rest = r.rest })))
      (λ _. ok_gives IsCostRead (None, text) (record { cost = tt; rest = is })))

  behind_gives : (written : Bool) (text : List ℕ) → IsText text → Gives IsCostRead (cost_behind written c line text)
  behind_gives true text is = cost_gives text is
  behind_gives false text is = ok_gives IsCostRead (None, text) (record { cost = tt; rest = is })

  assertion_gives : (text : List ℕ) → begins text 61 ≡ true → IsText text → Gives IsWantedRead (assertion_at c line text >>= λ a. Ok (Some a.0, a.1))
  unfolding assertion_at
  assertion_gives text e is =
      bind_gives (λ (a : Assertion × List ℕ). IsWantedRead (Some a.0, a.1)) IsWantedRead (assertion_at c line text) _
      (bind_gives IsAmountRead (λ (a : Assertion × List ℕ). IsWantedRead (Some a.0, a.1)) (amount_at c line (after_white (after_claim text))) _
      (amount_gives c line (after_white (after_claim text)) sound (unspaced_text (after_claim text) (claim_text text e is)))
      (λ a r. ok_gives (λ (b : Assertion × List ℕ). IsWantedRead (Some b.0, b.1)) (assertion_from (is_only text) (is_below text) a.0, a.1) (record { wanted = r.amount; rest = r.rest })))
      (λ a r. ok_gives IsWantedRead (Some a.0, a.1) r)

  claim_by : (e b : Bool) (text : List ℕ) → begins text 61 ≡ b → IsText text → Gives IsWantedRead (cond (e && b) (assertion_at c line text >>= λ a. Ok (Some a.0, a.1)) (Ok (None, text)))
  claim_by true true text f is = assertion_gives text f is
  claim_by true false text f is = ok_gives IsWantedRead (None, text) (record { wanted = tt; rest = is })
  claim_by false b text f is = ok_gives IsWantedRead (None, text) (record { wanted = tt; rest = is })

  claim_gives : (h : Holder) (text : List ℕ) → IsText text → Gives IsWantedRead (claim_at h c line text)
  unfolding claim_at
  claim_gives h text is = claim_by (is_entry h) (begins text 61) text refl is

  quantity_gives : (y : ℕ) (text : List ℕ) → IsText text → Gives IsQuantityRead (quantity_at (holder.Entry y) c line text)
  unfolding quantity_at
  quantity_gives y text is =
      choice_gives IsQuantityRead (ends_amount text) _ _
      (λ _. ok_gives IsQuantityRead ((None, None), text) (record { amount = tt; rest = is }))
      (λ _. bind_gives IsAmountRead IsQuantityRead (amount_at c line text) _ (amount_gives c line text sound is)
      (λ a r. ok_gives IsQuantityRead ((Some a.0, None), a.1) (record { amount = r.amount; rest = r.rest })))

  numbers_gives : (y : ℕ) (text : List ℕ) → IsText text → Gives IsNumbersRead (numbers_at (holder.Entry y) c line text)
  unfolding numbers_at
  numbers_gives y text is =
      bind_gives IsQuantityRead IsNumbersRead (quantity_at (holder.Entry y) c line text) _ (quantity_gives y text is) (λ q a.
      bind_gives IsCostRead IsNumbersRead (cost_behind (is_quantity q.0) c line q.1) _ (behind_gives (is_quantity q.0) q.1 a.rest) (λ k b.
      bind_gives IsWantedRead IsNumbersRead (claim_at (holder.Entry y) c line k.1) _ (claim_gives (holder.Entry y) k.1 b.rest) (λ w d.
      bind_gives IsCostRead IsNumbersRead (cost_behind (is_some (q.0).0 && is_some w.0) c line w.1) _ (behind_gives (is_some (q.0).0 && is_some w.0) w.1 d.rest) (λ ignored e.
      ok_gives IsNumbersRead (numbers_of (q.0).0 (q.0).1 k.0 w.0, ignored.1) (record { amount = a.amount; cost = b.cost; wanted = d.wanted })))))

-- ---- accounts

applied_text : (names : List (List ℕ)) (name : List ℕ) → AreTexts names → IsText name → IsText (with_applied names name)
applied_text [] name are is = is
applied_text (outer ∷ names) name are is =
    let rest = applied_text names name are.1 is in
    record {
      utf8 = utf8_append outer (58 ∷ with_applied names name) (are.0).utf8 (utf8_append (58 ∷ []) (with_applied names name) (utf8_ascii (58 ∷ []) refl) rest.utf8);
      line = all_append is_inside outer (58 ∷ with_applied names name) (are.0).line (all_append is_inside (58 ∷ []) (with_applied names name) refl rest.line);
    }

first_at : (n : ℕ) (name : List ℕ) (b : ℕ) (bs : List ℕ) → drop n name ≡ b ∷ bs → get_or name n 0 ≡ b
first_at n name b bs e =
    let place : n + 0 ≡ n = omega arith in
    sym (sym (ap (λ (xs : List ℕ). get_or xs 0 0) e) ∙ get_or-drop n name 0 0 ∙ ap (λ (k : ℕ). get_or name k 0) place)

tail_by : (n : ℕ) (name rest : List ℕ) → drop n name ≡ rest → ends_part rest ≡ true → IsText name → IsText rest
tail_by n name [] e h is = empty_text
tail_by n name (b ∷ bs) e h is =
    let low : get_or name n 0 < 128 = omega (arith, first_at n name b bs e, eqb-true b 58 h) in
    let part = rest_text n name is (by_place (cases_lt n (length name)) low) in
    subst IsText e part
  where
    by_place : (n < length name) ⊎ (length name ≤ n) → get_or name n 0 < 128 → is_utf8 (drop n name) ≡ true
    by_place (inl less) low = cuts.rest_utf8 name n (cuts.cut_before name n (let most : n ≤ length name = omega (arith, less) in most) (λ _. low)) is.utf8
    by_place (inr more) low = ap is_utf8 (drop_all n name more) ∙ cuts.empty_utf8

renamed_by_text : (u : Bool) (alias : List ℕ × List ℕ) (name : List ℕ) → is_under alias.0 name ≡ u → IsText alias.1 → IsText name → IsText (cond u (alias.1 ++ drop (length alias.0) name) name)
renamed_by_text true alias name e a is =
    let ends = (both_true (starts_with nat_eq name alias.0) (ends_part (drop (length alias.0) name)) e).1 in
    let tail = tail_by (length alias.0) name (drop (length alias.0) name) refl ends is in
    record { utf8 = utf8_append alias.1 (drop (length alias.0) name) a.utf8 tail.utf8; line = all_append is_inside alias.1 (drop (length alias.0) name) a.line tail.line }
renamed_by_text false alias name e a is = is

renamed_text : (aliases : List (List ℕ × List ℕ)) (name : List ℕ) → AllByRecursion (λ alias. IsText alias.1) aliases → IsText name → IsText (renamed aliases name)
renamed_text [] name are is = is
renamed_text (alias ∷ newer) name are is = renamed_by_text (is_under alias.0 (renamed newer name)) alias (renamed newer name) refl are.0 (renamed_text newer name are.1 is)

named_text : (c : Context) (name : List ℕ) → IsSound c → IsText name → IsText (account_named c name)
named_text c name sound is = renamed_text c.aliases (with_applied c.applied name) sound.aliases (applied_text c.applied name sound.applied is)

inside_by : (r s : Bool) (text : List ℕ) → is_within 40 41 text ≡ r → is_within 91 93 text ≡ s → IsText text → is_utf8 (cond (r || s) (take (length text - 2) (drop 1 text)) text) ≡ true
inside_by true s text e f is = inside_utf8 text 40 41 e (lit< tt) (lit< tt) is.utf8
inside_by false true text e f is = inside_utf8 text 91 93 f (lit< tt) (lit< tt) is.utf8
inside_by false false text e f is = is.utf8

name_of_utf8 : (text : List ℕ) → IsText text → is_utf8 (name_of text) ≡ true
name_of_utf8 text is = inside_by (is_within 40 41 text) (is_within 91 93 text) text refl refl is

-- a name without its brackets, which were its first and last byte
inside_line : (t : Bool) (text : List ℕ) → IsText text → list_all is_inside (cond t (take (length text - 2) (drop 1 text)) text) ≡ true
inside_line true text is = all_take is_inside (length text - 2) (drop 1 text) (all_drop is_inside 1 text is.line)
inside_line false text is = is.line

name_of_text : (text : List ℕ) → IsText text → IsText (name_of text)
name_of_text text is = record { utf8 = name_of_utf8 text is; line = inside_line (is_bracketed text) text is }

abbrev IsAccountRead : Side × List ℕ → Type 0
IsAccountRead account = is_utf8 account.1 ≡ true

account_gives : (c : Context) (line : ℕ) (text : List ℕ) → IsSound c → IsText text → Gives IsAccountRead (account_at c line text)
account_gives c line text sound is =
    let name = name_of text in
    bind_gives (λ (n : List ℕ). is_utf8 n ≡ true) IsAccountRead (name_in c line name) (λ n. Ok (side_of text, n))
    (when_gives (λ (n : List ℕ). is_utf8 n ≡ true) (has_parts name && has_parts (account_named c name)) (Ok (account_named c name)) (fault_at line cause.Account)
    (λ _. ok_gives (λ (n : List ℕ). is_utf8 n ≡ true) (account_named c name) (named_text c name sound (name_of_text text is)).utf8))
    (λ n h. ok_gives IsAccountRead (side_of text, n) h)

-- ---- a posting

status_low : (b : ℕ) → is_status b ≡ true → b < 128
status_low b h = grind (arith, nat_tests)

mark_text : (t : Bool) (text : List ℕ) → first_is is_status text ≡ t → IsText text → IsText (cond t (after_white (drop 1 text)) text)
mark_text true text e is = unspaced_text (drop 1 text) (past_text is_status text status_low e is)
mark_text false text e is = is

mark_gives : (line : ℕ) (text : List ℕ) → IsText text → Gives (λ (m : Mark × List ℕ). IsText m.1) (mark_at line text)
unfolding mark_at
mark_gives line text is =
    unless_gives (λ (m : Mark × List ℕ). IsText m.1) (has_second_mark text) (fault_at line cause.StatusMark) (Ok (mark_of text, after_mark text))
    (λ _. ok_gives (λ (m : Mark × List ℕ). IsText m.1) (mark_of text, after_mark text) (mark_text (first_is is_status text) text refl is))

abbrev IsRuleRead : RulePosting × List ℕ → Type 0
IsRuleRead r = IsToldPosting (r.0).posting

module _ (c : Context) (y line : ℕ) (sound : IsSound c) where
  line_gives : (content : List ℕ) → IsText content → Gives IsRuleRead (posting_line (holder.Entry y) c line content)
  unfolding posting_line
  line_gives content is =
      bind_gives (λ (m : Mark × List ℕ). IsText m.1) IsRuleRead (mark_at line (after_white content)) _ (mark_gives line (after_white content) (unspaced_text content is)) (λ mark m.
      bind_gives IsAccountRead IsRuleRead (account_at c line (take (account_len mark.1) mark.1)) _ (account_gives c line (take (account_len mark.1) mark.1) sound (name_text mark.1 m)) (λ account a.
      bind_gives IsNumbersRead IsRuleRead (numbers_at (holder.Entry y) c line (after_white (drop (account_len mark.1) mark.1))) _
      (numbers_gives c line sound y (after_white (drop (account_len mark.1) mark.1)) (unspaced_text (drop (account_len mark.1) mark.1) (after_name_text mark.1 m))) (λ numbers n.
      bind_gives (λ _. Unit {0}) IsRuleRead (ending_of line account.0 (says_much numbers.0) numbers.1) _ (any_gives (ending_of line account.0 (says_much numbers.0) numbers.1)) (λ own o.
      ok_gives IsRuleRead (posting_from line mark.0 account numbers.0, own) (record { account = a; amount = n.amount; cost = n.cost; wanted = n.wanted })))))

  rule_gives : (content : List ℕ) (after : List (List ℕ)) → IsText content → Gives (λ (r : RulePosting). IsToldPosting r.posting) (rule_posting_of (holder.Entry y) c line content after)
  unfolding rule_posting_of
  rule_gives content after is =
      unless_gives (λ (r : RulePosting). IsToldPosting r.posting) (not (first_is is_white content)) (fault_at line cause.Form) _ (λ _.
      bind_gives IsRuleRead (λ (r : RulePosting). IsToldPosting r.posting) (posting_line (holder.Entry y) c line content) _ (line_gives content is) (λ p told.
      bind_gives (λ _. Unit {0}) (λ (r : RulePosting). IsToldPosting r.posting) (own_day (holder.Entry y) line (p.1 ∷ comments_in after)) _ (any_gives (own_day (holder.Entry y) line (p.1 ∷ comments_in after))) (λ day d.
      ok_gives (λ (r : RulePosting). IsToldPosting r.posting) (rule_posting_with (with_comments (p.0).posting p.1 (comments_in after) day) (p.0).factor)
      (record { account = told.account; amount = told.amount; cost = told.cost; wanted = told.wanted }))))

  posting_gives : (content : List ℕ) (after : List (List ℕ)) → IsText content → Gives IsToldPosting (posting_of (holder.Entry y) c line content after)
  posting_gives content after is =
      bind_gives (λ (r : RulePosting). IsToldPosting r.posting) IsToldPosting (rule_posting_of (holder.Entry y) c line content after) (λ p. Ok p.posting) (rule_gives content after is)
      (λ p told. ok_gives IsToldPosting p.posting told)

-- all postings of an entry
abbrev pub AreTold : List Posting → Type 0
AreTold ps = AllByRecursion IsToldPosting ps

pub postings_give : (c : Context) (y line : ℕ) (contents : List (List ℕ)) → IsSound c → AreTexts contents → Gives AreTold (postings_of c y line contents)
unfolding each_of
postings_give c y line [] sound are = ok_gives AreTold [] tt
postings_give c y line (content ∷ more) sound are =
    choice_gives AreTold (is_comment content) _ _
    (λ _. postings_give c y (line + 1) more sound are.1)
    (λ _. bind_gives IsToldPosting AreTold (posting_of (holder.Entry y) c line content more) _ (posting_gives c y line sound content more are.0) (λ p told.
    bind_gives AreTold AreTold (each_of (posting_of (holder.Entry y) c) (line + 1) more) _ (postings_give c y (line + 1) more sound are.1) (λ ps all.
    ok_gives AreTold (p ∷ ps) (told, all))))
