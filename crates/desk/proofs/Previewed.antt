-- How a machine serves the preview of an import, by what the import would put in.
use Rattle.std.proofs.Common.{◌≡◌, ◌⊎◌, inl, inr, ℕ, true, false, List, [], ◌∷◌, Option, None, Result, refl, ap, sym, subst, ◌∙◌}
use Rattle.std.proofs.Math.Seq.{drop-append_seam}
use Rattle.std.proofs.lemmas.Bool.{false≢true}
use Rattle.hl_base.specs.declared.change.Latest.{Latest}
use Rattle.hl_base.specs.declared.disk.Disk.{Ghosts}
use Rattle.book.specs.declared.transaction.Txn.{Txn}
use Rattle.csv_rules.specs.Importing.{new_after, state_after}
use Rattle.live_journal.specs.Edits.{added}
use Rattle.live_journal.specs.Loading.{first_of}
use Rattle.live_journal.specs.declared.edit.Edit.TheVariants as edits
use Rattle.query.specs.Building.{IsOneOf}
use Rattle.desk.specs.declared.csv_fault.CsvFault.{CsvFault}
use Rattle.desk.specs.declared.deed.Deed.{Deed}
use Rattle.desk.specs.declared.desk.Desk.{Desk}
use Rattle.desk.specs.declared.reply.Reply.{Reply}
use Rattle.desk.specs.declared.reply.Reply.TheVariants as reply
use Rattle.desk.specs.declared.request.Allow.TheVariants as allow
use Rattle.desk.specs.declared.request.Request.{Request}
use Rattle.desk.specs.declared.request.Request.TheVariants as request
use Rattle.desk.specs.Desks.{Serves, state_of}
use Rattle.desk.specs.DryRuns.{IsDryReply, IsUnchanged, inserted_by}
use Rattle.desk.specs.Files.{IsDeedOf}
use Rattle.desk.specs.Imports.{context_at, deed_for, entries_of, entries_text, state_named}
use Rattle.desk.specs.Previews.{past_line_ends}
use Rattle.desk.specs.States.{Answer, State, added_by, deed_answer, dry_reply, dry_run, file_answer, import_answer, or_done, or_replies, preview_answer, refusals}
use Rattle.desk.specs.Steps.{TellsReply, is_done, is_words}
use Rattle.desk.proofs.DryEdits.{none_left}
use Rattle.desk.proofs.DryLaws.{dry_serves, text_or}
use Rattle.desk.proofs.Imported.{allowed_answer, no_more, others_of}
use Rattle.desk.proofs.Quiet.{deed_quiet}

-- where none of its entries is new
pub none_new : (s : State) → IsDryReply s (inserted_by s None) (deed_answer s None) (reply.Same s.revision)
none_new s = (refl, inr (inl refl))

-- ---- what it adds

-- an addition puts in what the preview shows
addition_adds : (s : State) (entry : List ℕ) (mark : Option Latest) (o : Option Reply) → o ≡ None
    → past_line_ends (added s.text entry) ≡ added_by s (or_done s (record { edit = edits.Add entry; mark = mark }) o)
addition_adds s entry mark o none =
    ap past_line_ends (sym (drop-append_seam s.text (added s.text entry)))
    ∙ ap (λ (x : Option Reply). added_by s (or_done s (record { edit = edits.Add entry; mark = mark }) x)) (sym none)

new_adds : (s : State) (new : List Txn) (mark : Option Latest) → is_done (deed_answer s (deed_for s.text new mark)).reply ≡ true
    → inserted_by s (deed_for s.text new mark) ≡ added_by s (deed_answer s (deed_for s.text new mark))
new_adds s [] mark done = absurd (false≢true done)
new_adds s (txn ∷ new) mark done =
    let entry = entries_text (context_at s.text) (txn ∷ new) in
    let d : Deed = record { edit = edits.Add entry; mark = mark } in
    addition_adds s entry mark (first_of (refusals s allow.Add d)) (none_left s allow.Add d done)

-- a text that differs only where it isn't shown
same_reply : (revision : ℕ) (shown other : List ℕ) (r : Reply) → (is_done r ≡ true → shown ≡ other) → dry_reply revision shown r ≡ dry_reply revision other r
same_reply revision shown other (reply.Done next) h = ap (reply.Text revision) (h refl)
same_reply revision shown other (reply.Same current) h = refl
same_reply revision shown other (reply.Text now_is bytes) h = refl
same_reply revision shown other (reply.Forbidden need have) h = refl
same_reply revision shown other (reply.Stale base current) h = refl
same_reply revision shown other (reply.BadBase base current) h = refl
same_reply revision shown other (reply.NoSuchItem n count) h = refl
same_reply revision shown other (reply.NotTransactions line) h = refl
same_reply revision shown other (reply.Load fault) h = refl
same_reply revision shown other (reply.TooLarge limit size) h = refl
same_reply revision shown other (reply.DiskFault from to) h = refl
same_reply revision shown other (reply.Words fault) h = refl
same_reply revision shown other (reply.Csv fault) h = refl
same_reply revision shown other (reply.Full size limit) h = refl
same_reply revision shown other reply.Memory h = refl

-- ---- what is served

wider : (s : State) (shown other : List ℕ) (answer : Answer) (others : List Reply) (r : Reply) → ((x : Reply) → IsOneOf x answer.others → ⊥)
    → dry_reply s.revision shown answer.reply ≡ dry_reply s.revision other answer.reply
    → (r ≡ reply.Memory) ⊎ ((r ≡ dry_reply s.revision shown answer.reply) ⊎ IsOneOf r answer.others)
    → (r ≡ reply.Memory) ⊎ ((r ≡ dry_reply s.revision other answer.reply) ⊎ IsOneOf r others)
wider s shown other answer others r none same (inl h) = inl h
wider s shown other answer others r none same (inr (inl h)) = inr (inl (h ∙ same))
wider s shown other answer others r none same (inr (inr h)) = absurd (none r h)

-- the answer of an import by what it puts in
answer_is : (name rules csv : List ℕ) (s : State) (deed : Option Deed) → IsDeedOf s name (entries_of rules csv) deed
    → import_answer s name rules csv ≡ or_replies (others_of rules) (deed_answer s deed)
answer_is name rules csv s deed is =
    allowed_answer name rules csv s is.allowed
    ∙ ap (λ (entries : Result (List Txn) CsvFault). or_replies (others_of rules) (file_answer s name entries)) is.made
    ∙ ap (λ (d : Option Deed). or_replies (others_of rules) (deed_answer s d)) (sym is.is)

-- what it puts in is shown, where it would be stored
deed_adds : (name : List ℕ) (s : State) (entries : Result (List Txn) CsvFault) (deed : Option Deed) → IsDeedOf s name entries deed → is_done (deed_answer s deed).reply ≡ true
    → inserted_by s deed ≡ added_by s (deed_answer s deed)
deed_adds name s entries deed is =
    subst (λ (d : Option Deed). is_done (deed_answer s d).reply ≡ true → inserted_by s d ≡ added_by s (deed_answer s d)) (sym is.is)
    (new_adds s (new_after (state_named name s.latest) is.txns) (state_after name (state_named name s.latest) is.txns))

-- a preview is served by what the import would put in
pub previewed : {D : Type 0} {g : Ghosts D} (name rules csv : List ℕ) (old new : Desk D g) (deed : Option Deed) (r : Reply)
    → IsDeedOf (state_of old) name (entries_of rules csv) deed → IsDryReply (state_of old) (inserted_by (state_of old) deed) (deed_answer (state_of old) deed) r → IsUnchanged old new
    → Serves (preview_answer (state_of old) name rules csv) None old r new
previewed {D} {g} name rules csv old new deed r is replied stays =
    let s = state_of old in
    let answer = or_replies (others_of rules) (deed_answer s deed) in
    let same = same_reply s.revision (inserted_by s deed) (added_by s answer) (deed_answer s deed).reply (deed_adds name s (entries_of rules csv) deed is) in
    let wide : IsDryReply s (added_by s answer) answer r =
    (replied.0, wider s (inserted_by s deed) (added_by s answer) (deed_answer s deed) (others_of rules) r (no_more s deed) same replied.1) in
    subst (λ (a : Answer). Serves (dry_run s (added_by s a) a) None old r new) (sym (answer_is name rules csv s deed is))
    (dry_serves old new (added_by s answer) answer r wide stays)

-- ---- what the maker tells

-- nothing is told of an import's entries
deed_reply_quiet : (s : State) (deed : Option Deed) → is_words (deed_answer s deed).reply ≡ false
deed_reply_quiet s deed = deed_quiet s deed deed s 0 (deed_answer s deed).reply (deed_answer s deed).state 0 (inl (refl, refl, refl))

quiet_by : (s : State) (text : List ℕ) (deed : Option Deed) (r : Reply)
    → (r ≡ reply.Memory) ⊎ ((r ≡ dry_reply s.revision text (deed_answer s deed).reply) ⊎ IsOneOf r (deed_answer s deed).others) → is_words r ≡ false
quiet_by s text deed r (inl h) = ap is_words h
quiet_by s text deed r (inr (inl h)) = ap is_words h ∙ text_or (λ (x : Reply). is_words x ≡ false) s.revision text (deed_answer s deed).reply refl (deed_reply_quiet s deed)
quiet_by s text deed r (inr (inr h)) = absurd (no_more s deed r h)

pub preview_quiet : (s : State) (text : List ℕ) (deed : Option Deed) (r : Reply) → IsDryReply s text (deed_answer s deed) r → is_words r ≡ false
preview_quiet s text deed r replied = quiet_by s text deed r replied.1

-- what is told of an import is told of its preview
module _ (name rules csv : List ℕ) (day before now : ℕ) (last_before last_now : Option (List ℕ)) where
  pub tells_preview : (r : Reply) → TellsReply (request.Import name rules csv) day before now last_before last_now r
      → TellsReply (request.Preview name rules csv) day before now last_before last_now r
  tells_preview (reply.Done next) h = h
  tells_preview (reply.Same current) h = h
  tells_preview (reply.Text now_is bytes) h = h
  tells_preview (reply.Forbidden need have) h = h
  tells_preview (reply.Stale base current) h = h
  tells_preview (reply.BadBase base current) h = h
  tells_preview (reply.NoSuchItem n count) h = h
  tells_preview (reply.NotTransactions line) h = h
  tells_preview (reply.Load fault) h = h
  tells_preview (reply.TooLarge limit size) h = h
  tells_preview (reply.DiskFault from to) h = h
  tells_preview (reply.Words fault) h = h
  tells_preview (reply.Csv fault) h = h
  tells_preview (reply.Full size limit) h = h
  tells_preview reply.Memory h = h

pub seen_preview : (q : Request) (name rules csv : List ℕ) (day before now : ℕ) (last_before last_now : Option (List ℕ)) (r : Reply) → q ≡ request.Preview name rules csv
    → TellsReply (request.Preview name rules csv) day before now last_before last_now r → TellsReply q day before now last_before last_now r
seen_preview q name rules csv day before now last_before last_now r is h =
    subst (λ (x : Request). TellsReply x day before now last_before last_now r) (sym is) h
