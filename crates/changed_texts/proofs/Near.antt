-- The lines of what a piece says lie between its first line and its end; and what begins with a digit is a transaction.
use Rattle.std.proofs.Common.{◌≡◌, ℕ, ◌+◌, ◌≤◌, List, [], ◌∷◌, length, take, drop, Result, Ok, refl, sym, subst, ◌∙◌, arith}
use Rattle.std.specs.List.{AllByRecursion}
use Rattle.std.specs.Prelude.{nat_lt}
use Rattle.std.specs.Str.{is_utf8}
use Rattle.hl_base.specs.Items.{kind_of}
use Rattle.hl_base.specs.Limits.{entry_limit}
use Rattle.hl_base.specs.Lines.{first_line, lines_of}
use Rattle.hl_base.specs.declared.items.Kind.{Kind}
use Rattle.hl_base.specs.declared.items.Kind.TheVariants as kinds
use Rattle.hl_base.proofs.LineLemmas.{lines_split}
use Rattle.hl_time.specs.Calendar.{year_of}
use Rattle.book.specs.declared.fault.Cause.TheVariants as cause
use Rattle.book.specs.declared.fault.Fault.{Fault}
use Rattle.book.specs.declared.item.Item.{Item}
use Rattle.book.specs.declared.item.Item.TheVariants as item
use Rattle.book.specs.declared.rules.AutoRule.{AutoRule}
use Rattle.book.specs.declared.rules.PeriodicRule.{PeriodicRule}
use Rattle.book.specs.declared.rules.RulePosting.{RulePosting}
use Rattle.book.specs.declared.transaction.Posting.{Posting}
use Rattle.directive_reader.specs.Directives.{directive_by, head_item, item_by, item_with}
use Rattle.directive_reader.specs.Endings.{before_comment}
use Rattle.directive_reader.specs.Keywords.{keyword_at}
use Rattle.directive_reader.specs.Prices.{price_of}
use Rattle.directive_reader.specs.Rules.{auto_of, period_text, periodic_of, rule_period}
use Rattle.directive_reader.specs.declared.keyword.Keyword.{Keyword}
use Rattle.directive_reader.specs.declared.keyword.Keyword.TheVariants as keywords
use Rattle.entry_reader.proofs.Lines.{few_lines}
use Rattle.entry_reader.specs.Accounts.{account_at, account_len}
use Rattle.entry_reader.specs.Causes.{fault_at, ◌>>=◌}
use Rattle.entry_reader.specs.Comments.{comments_in, is_comment}
use Rattle.entry_reader.specs.Contexts.{Context, directive_in}
use Rattle.entry_reader.specs.Entries.{entry_of, entry_with}
use Rattle.entry_reader.specs.Heads.{head_of, mark_at}
use Rattle.entry_reader.specs.Lines.{after_white, contents_of}
use Rattle.entry_reader.specs.Postings.{each_of, ending_of, numbers_at, own_day, periodic_postings_of, posting_line, posting_of, postings_of, rule_posting_of, rule_postings_of, says_much}
use Rattle.entry_reader.specs.declared.quantity.Holder.{Holder}
use Rattle.entry_reader.specs.declared.quantity.Holder.TheVariants as holder
use Rattle.journal_reader.specs.Items.{broken_line, reading, said_by}
use Rattle.changed_texts.specs.LinesOf.{EachLine, IsNear}
use Rattle.changed_texts.specs.Replacing.{IsTxn}
use Rattle.changed_texts.proofs.Holding.{Holds, any-then, holds-err, holds-if, holds-ok, holds-then}

-- ---- postings

line-on : (h : Holder) (c : Context) (l : ℕ) (content : List ℕ) → Holds (λ (p : RulePosting × List ℕ). (p.0).posting.line ≡ l) (posting_line h c l content)
unfolding posting_line
line-on h c l content =
    any-then (mark_at l (after_white content)) _ (λ mark.
    any-then (account_at c l (take (account_len mark.1) mark.1)) _ (λ account.
    any-then (numbers_at h c l (after_white (drop (account_len mark.1) mark.1))) _ (λ ns.
    any-then (ending_of l account.0 (says_much ns.0) ns.1) _ (λ own. holds-ok _ refl))))

rule-on : (h : Holder) (c : Context) (l : ℕ) (content : List ℕ) (after : List (List ℕ)) → Holds (λ (r : RulePosting). r.posting.line ≡ l) (rule_posting_of h c l content after)
unfolding rule_posting_of
rule-on h c l content after =
    holds-if _ (holds-err (fault_at l cause.Form))
    (holds-then (posting_line h c l content) _ (line-on h c l content) (λ p is.
    any-then (own_day h l (p.1 ∷ comments_in after)) _ (λ day. holds-ok _ is)))

posting-on : (h : Holder) (c : Context) (l : ℕ) (content : List ℕ) (after : List (List ℕ)) → Holds (λ (p : Posting). p.line ≡ l) (posting_of h c l content after)
posting-on h c l content after = holds-then (rule_posting_of h c l content after) _ (rule-on h c l content after) (λ r is. holds-ok _ is)

each-near : {A : Type 0} (place : A → ℕ) (reads : ℕ → List ℕ → List (List ℕ) → Result A Fault) → ((l : ℕ) (content : List ℕ) (after : List (List ℕ)) → Holds (λ x. place x ≡ l) (reads l content after))
    → (first most l : ℕ) (cs : List (List ℕ)) → first ≤ l → l + length cs ≤ first + most + 1 → Holds (AllByRecursion (λ x. IsNear first most (place x))) (each_of reads l cs)
unfolding each_of
each-near place reads one first most l [] low high = holds-ok [] tt
each-near place reads one first most l (c ∷ cs) low high =
    holds-if (is_comment c) (each-near place reads one first most (l + 1) cs (omega (arith, low)) (omega (arith, high)))
    (holds-then (reads l c cs) _ (one l c cs) (λ x is.
    holds-then (each_of reads (l + 1) cs) _ (each-near place reads one first most (l + 1) cs (omega (arith, low)) (omega (arith, high))) (λ xs all.
    holds-ok _ ((omega (arith, is, low), omega (arith, is, high)), all))))

-- ---- items

with-near : (c : Context) (l : ℕ) (content : List ℕ) (after : List (List ℕ)) (most : ℕ) → length after ≤ most → Holds (EachLine (IsNear l most)) (entry_with c l content after)
unfolding entry_with
with-near c l content after most few =
    any-then (head_of c l content) _ (λ head.
    holds-then (postings_of c (year_of head.day) (l + 1) after) _
    (each-near (λ (p : Posting). p.line) (posting_of (holder.Entry (year_of head.day)) c) (λ k content more. posting-on (holder.Entry (year_of head.day)) c k content more) l most (l + 1) after (omega arith) (omega (arith, few)))
    (λ ps all. holds-ok _ ((omega arith, omega arith), all)))

entry-near : (c : Context) (l : ℕ) (contents : List (List ℕ)) (most : ℕ) → length contents ≤ most → Holds (EachLine (IsNear l most)) (entry_of c l contents)
entry-near c l [] most few = holds-err (fault_at l cause.Form)
entry-near c l (content ∷ after) most few = with-near c l content after most (omega (arith, few))

abbrev IsNearAuto : ℕ → ℕ → AutoRule → Type 0
IsNearAuto l most r = IsNear l most r.line × AllByRecursion (λ (p : RulePosting). IsNear l most p.posting.line) r.postings

abbrev IsNearPeriodic : ℕ → ℕ → PeriodicRule → Type 0
IsNearPeriodic l most r = IsNear l most r.line × AllByRecursion (λ (p : Posting). IsNear l most p.line) r.postings

auto-near : (c : Context) (l : ℕ) (text : List ℕ) (after : List (List ℕ)) (most : ℕ) → length after ≤ most → Holds (IsNearAuto l most) (auto_of c l text after)
unfolding auto_of
auto-near c l text after most few =
    holds-then (rule_postings_of c (l + 1) after) _
    (each-near (λ (r : RulePosting). r.posting.line) (rule_posting_of holder.Auto c) (λ k content more. rule-on holder.Auto c k content more) l most (l + 1) after (omega arith) (omega (arith, few)))
    (λ ps all. holds-ok _ ((omega arith, omega arith), all))

periodic-near : (c : Context) (l : ℕ) (text : List ℕ) (after : List (List ℕ)) (most : ℕ) → length after ≤ most → Holds (IsNearPeriodic l most) (periodic_of c l text after)
unfolding periodic_of
periodic-near c l text after most few =
    any-then (rule_period l (period_text (before_comment text))) _ (λ period.
    holds-then (periodic_postings_of c (l + 1) after) _
    (each-near (λ (p : Posting). p.line) (posting_of holder.Periodic c) (λ k content more. posting-on holder.Periodic c k content more) l most (l + 1) after (omega arith) (omega (arith, few)))
    (λ ps all. holds-ok _ ((omega arith, omega arith), all)))

module _ (c : Context) (l : ℕ) (text : List ℕ) (after : List (List ℕ)) (most : ℕ) (few : length after ≤ most) where
  directive-near : (k : Keyword) → Holds (EachLine (IsNear l most)) (directive_by k c l text after >>= λ d. Ok (item.Directive d))
  directive-near k = any-then (directive_by k c l text after) (λ d. Ok (item.Directive d)) (λ d. holds-ok (item.Directive d) tt)

  by-near : (k : Keyword) → Holds (EachLine (IsNear l most)) (item_by k c l text after)
  by-near keywords.Price = any-then (price_of c l text after) _ (λ p. holds-ok _ tt)
  by-near keywords.Auto = holds-then (auto_of c l text after) _ (auto-near c l text after most few) (λ r near. holds-ok _ near)
  by-near keywords.Periodic = holds-then (periodic_of c l text after) _ (periodic-near c l text after most few) (λ r near. holds-ok _ near)
  by-near keywords.Commodity = directive-near keywords.Commodity
  by-near keywords.Default = directive-near keywords.Default
  by-near keywords.Account = directive-near keywords.Account
  by-near keywords.Year = directive-near keywords.Year
  by-near keywords.Apply = directive-near keywords.Apply
  by-near keywords.EndApply = directive-near keywords.EndApply
  by-near keywords.Alias = directive-near keywords.Alias
  by-near keywords.EndAliases = directive-near keywords.EndAliases
  by-near keywords.Payee = directive-near keywords.Payee
  by-near keywords.Tag = directive-near keywords.Tag
  by-near keywords.DecimalMark = directive-near keywords.DecimalMark
  by-near keywords.Other = directive-near keywords.Other

head-near : (c : Context) (l : ℕ) (contents : List (List ℕ)) (most : ℕ) → length contents ≤ most → Holds (EachLine (IsNear l most)) (head_item c l contents)
unfolding item_with
head-near c l [] most few = holds-err (fault_at l cause.Form)
head-near c l (content ∷ after) most few = by-near c l (keyword_at content).1 after most (omega (arith, few)) (keyword_at content).0

said-near : (k : Kind) (c : Context) (l : ℕ) (bytes : List ℕ) → Holds (EachLine (IsNear l (length bytes))) (said_by k c l bytes)
said-near kinds.Gap c l bytes = holds-ok item.Gap tt
said-near kinds.Block c l bytes = holds-ok item.Block tt
said-near kinds.Stray c l bytes = holds-err (fault_at l cause.Form)
said-near kinds.Entry c l bytes = holds-if (nat_lt entry_limit (length bytes)) (holds-err (fault_at l cause.TooLong)) (entry-near c l (contents_of bytes) (length bytes) (few_lines bytes))
said-near kinds.Head c l bytes = holds-if (nat_lt entry_limit (length bytes)) (holds-err (fault_at l cause.TooLong)) (head-near c l (contents_of bytes) (length bytes) (few_lines bytes))

-- each line of what some bytes say is one of theirs
pub reading-near : (c : Context) (l : ℕ) (bytes : List ℕ) → Holds (EachLine (IsNear l (length bytes))) (reading c l bytes)
unfolding reading
reading-near c l bytes = holds-if (is_utf8 bytes) (said-near (kind_of (first_line bytes)) c l bytes) (holds-err (fault_at (broken_line l bytes) cause.Encoding))

-- ---- transactions

with-txn : (c : Context) (l : ℕ) (content : List ℕ) (after : List (List ℕ)) → Holds IsTxn (entry_with c l content after)
unfolding entry_with
with-txn c l content after = any-then (head_of c l content) _ (λ head. any-then (postings_of c (year_of head.day) (l + 1) after) _ (λ ps. holds-ok _ tt))

entry-txn : (c : Context) (l : ℕ) (contents : List (List ℕ)) → Holds IsTxn (entry_of c l contents)
entry-txn c l [] = holds-err (fault_at l cause.Form)
entry-txn c l (content ∷ after) = with-txn c l content after

said-txn : (k : Kind) (c : Context) (l : ℕ) (bytes : List ℕ) → k ≡ kinds.Entry → Holds IsTxn (said_by k c l bytes)
said-txn k c l bytes e =
    subst (λ (j : Kind). Holds IsTxn (said_by j c l bytes)) (sym e) (holds-if (nat_lt entry_limit (length bytes)) (holds-err (fault_at l cause.TooLong)) (entry-txn c l (contents_of bytes)))

-- what begins with a digit is a transaction, if it reads
pub reading-txn : (c : Context) (l : ℕ) (bytes : List ℕ) → kind_of (first_line bytes) ≡ kinds.Entry → Holds IsTxn (reading c l bytes)
unfolding reading
reading-txn c l bytes e = holds-if (is_utf8 bytes) (said-txn (kind_of (first_line bytes)) c l bytes e) (holds-err (fault_at (broken_line l bytes) cause.Encoding))

-- a transaction is no directive
pub txn-says-none : (i : Item) → IsTxn i → directive_in i ≡ []
txn-says-none (item.Txn t) h = refl
txn-says-none item.Gap h = absurd h
txn-says-none item.Block h = absurd h
txn-says-none (item.Auto r) h = absurd h
txn-says-none (item.Periodic r) h = absurd h
txn-says-none (item.Price p) h = absurd h
txn-says-none (item.Directive d) h = absurd h

no_lines : (l : List ℕ) (ls : List (List ℕ)) → (let none : List (List ℕ) = [] in none) ≡ l ∷ ls → ⊥
no_lines l ls h = cc

-- the first of a text's lines
pub first_is : (text l : List ℕ) (ls : List (List ℕ)) → lines_of text ≡ l ∷ ls → first_line text ≡ l
first_is [] l ls h = absurd (no_lines l ls h)
first_is (b ∷ bs) l ls h = same (first_line (b ∷ bs)) _ (sym (lines_split (b ∷ bs) (omega arith)) ∙ h)
  where
    same : (k : List ℕ) (ks : List (List ℕ)) → k ∷ ks ≡ l ∷ ls → k ≡ l
    same k ks e = cc
