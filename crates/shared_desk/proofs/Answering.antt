-- How the entries of a legal history are answered.
use Rattle.std.proofs.Common.{◌≡◌, ◌⊎◌, inl, inr, ℕ, ◌+◌, Bool, true, false, if◌then◌else◌, List, [], ◌∷◌, ◌++◌, map, Option, Some, None, Result, Ok, Err, refl, ap, subst, ◌∙◌}
use Rattle.std.specs.Str.{bytes_eq}
use Rattle.std.proofs.lemmas.Bool.{false≢true}
use Rattle.std.proofs.lemmas.Slice.Eq.{bytes_eq-Decides}
use Rattle.hl_base.specs.declared.disk.Disk.{Ghosts}
use Rattle.hl_base.specs.Items.{items_of}
use Rattle.book.specs.declared.fault.Fault.{Fault}
use Rattle.book.specs.declared.item.Book.{Book}
use Rattle.book.specs.declared.transaction.Txn.{Txn}
use Rattle.live_journal.specs.declared.edit.Edit.TheVariants as edits
use Rattle.live_journal.specs.declared.fault.EditFault.{EditFault}
use Rattle.live_journal.specs.Edits.{applied}
use Rattle.live_journal.specs.Loading.{book_of, first_of, past_limit}
use Rattle.live_journal.specs.Refusals.{bad_base, base_of, no_book, no_such_item, not_transactions, refusal_of, stale, too_large}
use Rattle.turn_lock.specs.History.{Leads}
use Rattle.turn_lock.specs.declared.known.Entered.{Entered}
use Rattle.plan_commands.specs.Reports.{Report}
use Rattle.desk.specs.declared.csv_fault.CsvFault.{CsvFault}
use Rattle.desk.specs.declared.deed.Deed.{Deed}
use Rattle.desk.specs.declared.desk.Desk.{Desk}
use Rattle.desk.specs.declared.reply.Reply.{Reply}
use Rattle.desk.specs.declared.reply.Reply.TheVariants as reply
use Rattle.desk.specs.declared.request.Allow.{Allow}
use Rattle.desk.specs.declared.request.Allow.TheVariants as allow
use Rattle.desk.specs.declared.request.Request.{Request}
use Rattle.desk.specs.declared.request.Request.TheVariants as request
use Rattle.desk.specs.Desks.{IsServed, faults_of, state_of}
use Rattle.desk.specs.Entries.{Entry}
use Rattle.desk.specs.Imports.{entries_of, new_deed, pattern_lines}
use Rattle.desk.specs.Previews.{added_to, revision_line}
use Rattle.desk.specs.Reports.{words_over}
use Rattle.desk.specs.States.{Answer, Replies, State, added_by, answer_to, change_of, check_answer, deed_answer, deed_in, deed_of_file, dry_run, edit_answer, edited_state, file_answer, forbidden, full_cases, import_answer, journal_of, last_revision, long_name, many_states, no_room, or_done, or_replies, plain, preview_answer, record_size, refusals, refused_line, report_answer, report_reply, states_with, stays, unaccepted, unchanged, unless_forbidden}
use Rattle.desk.specs.Steps.{Gives, is_done, is_fault}
use Rattle.shared_desk.specs.Histories.{AreJudged, DryJudged, FileJudged, ImportJudged, IsAnswered, IsDryJudged, IsFresh, IsGood, IsJudged, IsLegal, Judged, NewJudged, PreviewJudged}

-- a history of two parts and an entry between them leads through two states
module _ {S E : Type 0} (leads : S → E → S → Type 0) where
  pub between : (s t : S) (xs ys : List (Entered E)) (x : Entered E) → Leads leads s (xs ++ x ∷ ys) t
      → (m : S) × (n : S) × Leads leads s xs m × leads m x.entry n × Leads leads n ys t
  between s t [] ys x is = (s, is.0, refl, is.1, is.2)
  between s t (y ∷ xs) ys x is =
      let rest = between is.0 t xs ys x is.2 in
      (rest.0, rest.1, (is.0, is.1, rest.2), rest.3, rest.4)

-- no report is an edit that stands
no_report_done : (revision : ℕ) (made : Report) → is_done (report_reply revision made) ≡ true → ⊥
no_report_done revision (Ok bytes) h = false≢true h
no_report_done revision (Err fault) h = false≢true h

-- what a report's answer gives
report_gives : (s : State) (day : ℕ) (words : List (List ℕ)) (r : Reply) (before after : ℕ) (new : State)
    → Gives (report_answer s day words) None s before r new after → Replies s.revision day s.text words r
report_gives s day words r before after new (inl is) = inr (inl is.0)
report_gives s day words r before after new (inr (inl memory)) = inl memory.0
report_gives s day words r before after new (inr (inr (inl fault))) =
    absurd (no_report_done s.revision (words_over day None s.text words) fault.1)
report_gives s day words r before after new (inr (inr (inr other))) = inr (inr other.0)

-- what a download's answer gives
download_gives : (s : State) (r : Reply) (before after : ℕ) (new : State)
    → Gives (stays s (reply.Text s.revision s.text)) None s before r new after → (r ≡ reply.Memory) ⊎ (r ≡ reply.Text s.revision s.text)
download_gives s r before after new (inl is) = inr is.0
download_gives s r before after new (inr (inl memory)) = inl memory.0
download_gives s r before after new (inr (inr (inl fault))) = absurd (false≢true fault.1)
download_gives s r before after new (inr (inr (inr other))) = absurd other.0

pub fresh : (s : State) (day : ℕ) (q : Request) (r : Reply) (before after : ℕ) (new : State)
    → Gives (answer_to s day q) (deed_in s q) s before r new after → IsFresh s day q r
unfolding answer_to
fresh s day (request.Report words) r before after new gives = report_gives s day words r before after new gives
fresh s day request.Download r before after new gives = download_gives s r before after new gives
fresh s day (request.Add entry) r before after new gives = tt
fresh s day (request.Change base item entry) r before after new gives = tt
fresh s day (request.Replace base text) r before after new gives = tt
fresh s day (request.Import name rules csv) r before after new gives = tt
fresh s day (request.Check entry) r before after new gives = tt
fresh s day (request.Preview name rules csv) r before after new gives = tt

module _ {A : Type 0} where
  -- a refusal that isn't there
  skip : (o : Option A) (more : List (Option A)) → o ≡ None → first_of (o ∷ more) ≡ first_of more
  skip o more none = ap (λ (p : Option A). first_of (p ∷ more)) none

-- of a good edit only the load of its text is left of the journal's refusals
load_alone : (s : State) (need : Allow) (d : Deed) → IsGood s need d
    → refusal_of (journal_of s) d.edit ≡ first_of (no_book (book_of None (applied s.text d.edit)) ∷ [])
unfolding refusal_of
load_alone s need d good =
    let e = d.edit in
    let pieces = items_of s.text in
    let text = applied s.text e in
    let book : List (Option EditFault) = no_book (book_of None text) ∷ [] in
    let past : List (Option EditFault) = too_large (past_limit text) ∷ book in
    let kind : List (Option EditFault) = not_transactions pieces e ∷ past in
    let item : List (Option EditFault) = no_such_item pieces e ∷ kind in
    let below : List (Option EditFault) = stale s.revision (base_of e) ∷ item in
    skip (bad_base s.revision (base_of e)) below good.not_above
    ∙ skip (stale s.revision (base_of e)) item good.not_below
    ∙ skip (no_such_item pieces e) kind good.item
    ∙ skip (not_transactions pieces e) past good.transactions
    ∙ skip (too_large (past_limit text)) book (ap too_large good.small)

-- the refusal of a good edit, by whether it changes the text and what a fresh load of it comes to
outcome : ℕ → Bool → Result Book Fault → Option Reply
outcome revision true (Ok book) = Some (reply.Same revision)
outcome revision false (Ok book) = None
outcome revision same (Err fault) = Some (reply.Load fault)

-- nothing is full
none_full : (s : State) (need : Allow) (d : Deed) → IsGood s need d
    → first_of (full_cases s d.mark (states_with d.mark s.latest) (record_size (change_of s.text d))) ≡ None
none_full s need d good =
    let states : List (Option Reply) = many_states (states_with d.mark s.latest) ∷ [] in
    let name : List (Option Reply) = long_name d.mark ∷ states in
    let last : List (Option Reply) = last_revision s.revision ∷ name in
    skip (no_room s (record_size (change_of s.text d))) last good.room
    ∙ skip (last_revision s.revision) name good.revision
    ∙ skip (long_name d.mark) states good.name
    ∙ skip (many_states (states_with d.mark s.latest)) [] good.states

after_load : (s : State) (need : Allow) (d : Deed) (same : Bool) (book : Result Book Fault) → IsGood s need d
    → first_of (unaccepted (first_of (no_book book ∷ [])) ∷ (if same then Some (reply.Same s.revision) else None)
    ∷ full_cases s d.mark (states_with d.mark s.latest) (record_size (change_of s.text d))) ≡ outcome s.revision same book
unfolding outcome
after_load s need d true (Ok book) good = refl
after_load s need d false (Ok book) good = none_full s need d good
after_load s need d true (Err fault) good = refl
after_load s need d false (Err fault) good = refl

first_is : (s : State) (need : Allow) (d : Deed) → IsGood s need d
    → first_of (refusals s need d) ≡ outcome s.revision (bytes_eq (applied s.text d.edit) s.text) (book_of None (applied s.text d.edit))
first_is s need d good =
    let text = applied s.text d.edit in
    let full : List (Option Reply) = full_cases s d.mark (states_with d.mark s.latest) (record_size (change_of s.text d)) in
    let more : List (Option Reply) = unchanged text s.text s.revision ∷ full in
    skip (forbidden s.allowed need) (unaccepted (refusal_of (journal_of s) d.edit) ∷ more)
    (ap (λ (b : Bool). if b then None else Some (reply.Forbidden need s.allowed)) good.allowed)
    ∙ ap (λ (o : Option EditFault). first_of (unaccepted o ∷ more)) (load_alone s need d good)
    ∙ after_load s need d (bytes_eq text s.text) (book_of None text) good

judged_by : (s : State) (d : Deed) (others : List Reply) (same : Bool) (book : Result Book Fault) (r : Reply) (before after : ℕ) (new : State)
    → (same ≡ true → applied s.text d.edit ≡ s.text) → Gives (or_replies others (or_done s d (outcome s.revision same book))) (Some d) s before r new after
    → Judged s d others r new book
unfolding outcome
judged_by s d others true (Ok book) r before after new is (inl given) = inl (inr (given.0, is refl, given.1))
judged_by s d others true (Ok book) r before after new is (inr (inl memory)) = inr (inl (inl memory.0))
judged_by s d others true (Ok book) r before after new is (inr (inr (inl fault))) = absurd (false≢true fault.1)
judged_by s d others true (Ok book) r before after new is (inr (inr (inr other))) = inr (inl (inr other.0))
judged_by s d others false (Ok book) r before after new is (inl given) = inl (inl (given.0, given.1))
judged_by s d others false (Ok book) r before after new is (inr (inl memory)) = inr (inl (inl memory.0))
judged_by s d others false (Ok book) r before after new is (inr (inr (inl fault))) = inr (inr (ap is_fault fault.0))
judged_by s d others false (Ok book) r before after new is (inr (inr (inr other))) = inr (inl (inr other.0))
judged_by s d others true (Err fault) r before after new is (inl given) = inl given.0
judged_by s d others true (Err fault) r before after new is (inr (inl memory)) = inr (inl memory.0)
judged_by s d others true (Err fault) r before after new is (inr (inr (inl disk))) = absurd (false≢true disk.1)
judged_by s d others true (Err fault) r before after new is (inr (inr (inr other))) = inr (inr other.0)
judged_by s d others false (Err fault) r before after new is (inl given) = inl given.0
judged_by s d others false (Err fault) r before after new is (inr (inl memory)) = inr (inl memory.0)
judged_by s d others false (Err fault) r before after new is (inr (inr (inl disk))) = absurd (false≢true disk.1)
judged_by s d others false (Err fault) r before after new is (inr (inr (inr other))) = inr (inr other.0)

edit_judged : (s : State) (need : Allow) (d : Deed) (others : List Reply) (r : Reply) (before after : ℕ) (new : State)
    → Gives (or_replies others (edit_answer s need d)) (Some d) s before r new after → IsJudged s need d others r new
edit_judged s need d others r before after new gives =
    λ good.
    let text = applied s.text d.edit in
    let same = bytes_eq text s.text in
    let G : Option Reply → Type 0 = λ o. Gives (or_replies others (or_done s d o)) (Some d) s before r new after in
    judged_by s d others same (book_of None text) r before after new ((bytes_eq-Decides text s.text).0)
    (subst G (first_is s need d good) gives)

-- an edit that is no import has no other reply
no_others : (s : State) (d : Deed) (o : Option Reply) → or_done s d o ≡ or_replies [] (or_done s d o)
no_others s d None = refl
no_others s d (Some r) = refl

plain_judged : (s : State) (need : Allow) (d : Deed) (r : Reply) (before after : ℕ) (new : State)
    → Gives (edit_answer s need d) (Some d) s before r new after → IsJudged s need d [] r new
plain_judged s need d r before after new gives =
    let G : Answer → Type 0 = λ answer. Gives answer (Some d) s before r new after in
    edit_judged s need d [] r before after new (subst G (no_others s d (first_of (refusals s need d))) gives)

new_judged : (s : State) (o : Option Deed) (others : List Reply) (r : Reply) (before after : ℕ) (new : State)
    → Gives (or_replies others (deed_answer s o)) o s before r new after → NewJudged (λ d. IsJudged s allow.Add d others r new) s o others r new
new_judged s None others r before after new (inl is) = inl (is.0, is.1)
new_judged s None others r before after new (inr (inl memory)) = inr (inl memory.0)
new_judged s None others r before after new (inr (inr (inl fault))) = absurd (false≢true fault.1)
new_judged s None others r before after new (inr (inr (inr other))) = inr (inr other.0)
new_judged s (Some d) others r before after new gives = edit_judged s allow.Add d others r before after new gives

file_judged : (s : State) (name : List ℕ) (others : List Reply) (file : Result (List Txn) CsvFault) (r : Reply) (before after : ℕ) (new : State)
    → Gives (or_replies others (file_answer s name file)) (deed_of_file s name file) s before r new after
    → FileJudged (λ d. IsJudged s allow.Add d others r new) s name others r new file
file_judged s name others (Ok txns) r before after new gives =
    new_judged s (new_deed s.text s.latest name txns) others r before after new gives
file_judged s name others (Err fault) r before after new (inl is) = inl is.0
file_judged s name others (Err fault) r before after new (inr (inl memory)) = inr (inl memory.0)
file_judged s name others (Err fault) r before after new (inr (inr (inl disk))) = absurd (false≢true disk.1)
file_judged s name others (Err fault) r before after new (inr (inr (inr other))) = inr (inr other.0)

import_judged : (s : State) (name rules csv : List ℕ) (r : Reply) (before after : ℕ) (new : State)
    → Gives (import_answer s name rules csv) (deed_of_file s name (entries_of rules csv)) s before r new after → ImportJudged s name rules csv r new
import_judged s name rules csv r before after new gives =
    λ allowed.
    let file = entries_of rules csv in
    let others : List Reply = map refused_line (pattern_lines rules) in
    let made : Answer = or_replies others (file_answer s name file) in
    let G : Bool → Type 0 = λ b.
    Gives (unless_forbidden s (if b then None else Some (reply.Forbidden allow.Add s.allowed)) made) (deed_of_file s name file) s before r new after in
    file_judged s name others file r before after new (subst G allowed gives)

-- the dry run of a good edit, by its refusal; what it shows is told by the state that the edit would make
shown_by : (s : State) (d : Deed) (tell : State → List ℕ) (others : List Reply) (same : Bool) (book : Result Book Fault) (r : Reply) (before after : ℕ) (new : State)
    → (same ≡ true → applied s.text d.edit ≡ s.text)
    → Gives (dry_run s (tell (or_done s d (outcome s.revision same book)).state) (or_replies others (or_done s d (outcome s.revision same book)))) None s before r new after
    → DryJudged s d (tell (edited_state s d)) others r new book
unfolding outcome
shown_by s d tell others true (Ok book) r before after new is (inl given) = inl (inr (given.0, is refl), given.1)
shown_by s d tell others true (Ok book) r before after new is (inr (inl memory)) = inr (inl memory.0)
shown_by s d tell others true (Ok book) r before after new is (inr (inr (inl disk))) = absurd (false≢true disk.1)
shown_by s d tell others true (Ok book) r before after new is (inr (inr (inr other))) = inr (inr other.0)
shown_by s d tell others false (Ok book) r before after new is (inl given) = inl (inl given.0, given.1)
shown_by s d tell others false (Ok book) r before after new is (inr (inl memory)) = inr (inl memory.0)
shown_by s d tell others false (Ok book) r before after new is (inr (inr (inl disk))) = absurd (false≢true disk.1)
shown_by s d tell others false (Ok book) r before after new is (inr (inr (inr other))) = inr (inr other.0)
shown_by s d tell others true (Err fault) r before after new is (inl given) = inl given.0
shown_by s d tell others true (Err fault) r before after new is (inr (inl memory)) = inr (inl memory.0)
shown_by s d tell others true (Err fault) r before after new is (inr (inr (inl disk))) = absurd (false≢true disk.1)
shown_by s d tell others true (Err fault) r before after new is (inr (inr (inr other))) = inr (inr other.0)
shown_by s d tell others false (Err fault) r before after new is (inl given) = inl given.0
shown_by s d tell others false (Err fault) r before after new is (inr (inl memory)) = inr (inl memory.0)
shown_by s d tell others false (Err fault) r before after new is (inr (inr (inl disk))) = absurd (false≢true disk.1)
shown_by s d tell others false (Err fault) r before after new is (inr (inr (inr other))) = inr (inr other.0)

dry_judged : (s : State) (need : Allow) (d : Deed) (tell : State → List ℕ) (others : List Reply) (r : Reply) (before after : ℕ) (new : State)
    → Gives (dry_run s (tell (edit_answer s need d).state) (or_replies others (edit_answer s need d))) None s before r new after
    → IsDryJudged s need d (tell (edited_state s d)) others r new
dry_judged s need d tell others r before after new gives =
    λ good.
    let text = applied s.text d.edit in
    let same = bytes_eq text s.text in
    let G : Option Reply → Type 0 = λ o. Gives (dry_run s (tell (or_done s d o).state) (or_replies others (or_done s d o))) None s before r new after in
    shown_by s d tell others same (book_of None text) r before after new ((bytes_eq-Decides text s.text).0)
    (subst G (first_is s need d good) gives)

check_judged : (s : State) (d : Deed) (r : Reply) (before after : ℕ) (new : State)
    → Gives (check_answer s d) None s before r new after → IsDryJudged s allow.Add d (revision_line (s.revision + 1)) [] r new
check_judged s d r before after new gives =
    let line = revision_line (s.revision + 1) in
    let tell : State → List ℕ = λ new. line in
    let G : Answer → Type 0 = λ answer. Gives (dry_run s line answer) None s before r new after in
    dry_judged s allow.Add d tell [] r before after new (subst G (no_others s d (first_of (refusals s allow.Add d))) gives)

-- what an import would add, told by the state that it would make
tell_added : State → State → List ℕ
tell_added s new = added_to s.text new.text

new_shown : (s : State) (o : Option Deed) (others : List Reply) (r : Reply) (before after : ℕ) (new : State)
    → Gives (dry_run s (added_by s (or_replies others (deed_answer s o))) (or_replies others (deed_answer s o))) None s before r new after
    → NewJudged (λ d. IsDryJudged s allow.Add d (added_to s.text (applied s.text d.edit)) others r new) s o others r new
unfolding tell_added
new_shown s None others r before after new (inl is) = inl (is.0, is.1)
new_shown s None others r before after new (inr (inl memory)) = inr (inl memory.0)
new_shown s None others r before after new (inr (inr (inl disk))) = absurd (false≢true disk.1)
new_shown s None others r before after new (inr (inr (inr other))) = inr (inr other.0)
new_shown s (Some d) others r before after new gives = dry_judged s allow.Add d (tell_added s) others r before after new gives

file_shown : (s : State) (name : List ℕ) (others : List Reply) (file : Result (List Txn) CsvFault) (r : Reply) (before after : ℕ) (new : State)
    → Gives (dry_run s (added_by s (or_replies others (file_answer s name file))) (or_replies others (file_answer s name file))) None s before r new after
    → FileJudged (λ d. IsDryJudged s allow.Add d (added_to s.text (applied s.text d.edit)) others r new) s name others r new file
file_shown s name others (Ok txns) r before after new gives = new_shown s (new_deed s.text s.latest name txns) others r before after new gives
file_shown s name others (Err fault) r before after new (inl is) = inl is.0
file_shown s name others (Err fault) r before after new (inr (inl memory)) = inr (inl memory.0)
file_shown s name others (Err fault) r before after new (inr (inr (inl disk))) = absurd (false≢true disk.1)
file_shown s name others (Err fault) r before after new (inr (inr (inr other))) = inr (inr other.0)

preview_judged : (s : State) (name rules csv : List ℕ) (r : Reply) (before after : ℕ) (new : State)
    → Gives (preview_answer s name rules csv) None s before r new after → PreviewJudged s name rules csv r new
preview_judged s name rules csv r before after new gives =
    λ allowed.
    let file = entries_of rules csv in
    let others : List Reply = map refused_line (pattern_lines rules) in
    let made : Answer = or_replies others (file_answer s name file) in
    let answer : Bool → Answer = λ b. unless_forbidden s (if b then None else Some (reply.Forbidden allow.Add s.allowed)) made in
    let G : Bool → Type 0 = λ b. Gives (dry_run s (added_by s (answer b)) (answer b)) None s before r new after in
    file_shown s name others file r before after new (subst G allowed gives)

pub judged : (s : State) (day : ℕ) (q : Request) (r : Reply) (before after : ℕ) (new : State)
    → Gives (answer_to s day q) (deed_in s q) s before r new after → AreJudged s q r new
unfolding answer_to
judged s day (request.Report words) r before after new gives = tt
judged s day request.Download r before after new gives = tt
judged s day (request.Add entry) r before after new gives = plain_judged s allow.Add (plain (edits.Add entry)) r before after new gives
judged s day (request.Change base item entry) r before after new gives =
    plain_judged s allow.Edit (plain (edits.Change base item entry)) r before after new gives
judged s day (request.Replace base text) r before after new gives = plain_judged s allow.Edit (plain (edits.Replace base text)) r before after new gives
judged s day (request.Import name rules csv) r before after new gives = import_judged s name rules csv r before after new gives
judged s day (request.Check entry) r before after new gives = check_judged s (plain (edits.Add entry)) r before after new gives
judged s day (request.Preview name rules csv) r before after new gives = preview_judged s name rules csv r before after new gives

module _ {D : Type 0} {g : Ghosts D} where
  pub answered : (opening last : Desk D g) (earlier later : List (Entered Entry)) (x : Entered Entry)
      → IsLegal opening (earlier ++ x ∷ later) last → IsAnswered opening earlier x.entry later last
  answered opening last earlier later x legal =
      let at = between (λ (before : Desk D g) (entry : Entry) (after : Desk D g). IsServed before entry after) opening last earlier later x legal in
      let before : Desk D g = at.0 in
      let after : Desk D g = at.1 in
      let gives = at.3.serves.gives in
      record {
        before = before;
        after = after;
        led = at.2;
        step = at.3;
        fresh = fresh (state_of before) x.entry.day.0 x.entry.request x.entry.reply (faults_of before) (faults_of after) (state_of after) gives;
        judged = judged (state_of before) x.entry.day.0 x.entry.request x.entry.reply (faults_of before) (faults_of after) (state_of after) gives;
        leads = at.4;
      }
