-- What is said of an edit that a machine on copies of two files was asked for.
use Rattle.std.proofs.Common.{◌≡◌, inl, inr, ℕ, true, false, List, [], ◌∷◌, map, drop, length, Option, None, Some, Result, Ok, Err, IfOk, IfErr, refl, sym, ◌∙◌, ap, subst, arith}
use Rattle.std.proofs.lemmas.Bool.{false≢true}
use Rattle.hl_base.specs.Causes.{Rose}
use Rattle.hl_base.specs.declared.disk.Disk.{Ghosts as Disks}
use Rattle.hl_time.specs.declared.day.Day.{Day}
use Rattle.query.specs.Building.{IsOneOf}
use Rattle.text_store.specs.declared.fault.StoreFault.TheVariants as store_fault
use Rattle.text_store.specs.declared.image.Image.{Image}
use Rattle.text_store.specs.Files.{opened_limit, opened_size}
use Rattle.text_store.specs.Image.{NoImage, image}
use Rattle.text_store.specs.Refusals.{Told}
use Rattle.text_store.specs.Stores.{fault_count}
use Rattle.live_journal.specs.declared.edit.Edit.TheVariants as edits
use Rattle.live_journal.specs.declared.fault.OpenFault.TheVariants as unopened_text
use Rattle.live_journal.specs.Loading.{first_of}
use Rattle.desk.specs.declared.deed.Deed.{Deed}
use Rattle.desk.specs.declared.desk.Desk.{Desk}
use Rattle.desk.specs.declared.fault.DeskFault.{DeskFault}
use Rattle.desk.specs.declared.fault.DeskFault.TheVariants as desk_fault
use Rattle.desk.specs.Openings.{OpeningRefused}
use Rattle.desk.specs.declared.reply.Reply.{Reply}
use Rattle.desk.specs.declared.reply.Reply.TheVariants as reply
use Rattle.desk.specs.declared.request.Allow.{Allow}
use Rattle.desk.specs.declared.request.Allow.TheVariants as allow
use Rattle.desk.specs.declared.request.Request.{Request}
use Rattle.desk.specs.declared.request.Request.TheVariants as request
use Rattle.desk.specs.Desks.{faults_of, shown_by, state_of}
use Rattle.desk.specs.Imports.{entries_of, pattern_lines}
use Rattle.desk.specs.Previews.{added_to}
use Rattle.desk.specs.States.{Answer, State, answer_to, deed_in, edit_answer, file_answer, forbidden, image_of, or_done, or_replies, plain, refusals, refused_line, unless_forbidden}
use Rattle.desk.specs.Steps.{Gives, is_fault, next_of}
use Rattle.store_text.specs.declared.refusal.StoreRefusal.{StoreRefusal}
use Rattle.store_text.specs.declared.refusal.StoreRefusal.TheVariants as refusal
use Rattle.store_text.specs.Refusals.{text_of}
use Rattle.store_making.specs.declared.refusal.JournalRefusal.{JournalRefusal}
use Rattle.store_making.specs.declared.refusal.JournalRefusal.TheVariants as journal
use Rattle.store_commands.specs.Asking.{AsksDisks, IsAsked, IsRefusedBy, OpensAs, Patterns, ShowsAfter, of_opening}
use Rattle.store_commands.specs.Previews.{Added, IsOfCopy, Previews, Says, SaysReply, is_accepted, of_copy, state_in}
use Rattle.store_commands.specs.Replies.{IsEdit, IsEditReply}
use Rattle.store_commands.specs.declared.preview.Preview.{Preview}
use Rattle.store_commands.specs.declared.preview.Preview.TheVariants as preview
use Rattle.store_commands.proofs.AskingLaws.{reads_after, refused_by, reply_kind, state_so}
use Rattle.store_commands.proofs.ReplyLaws.{gives_same}

-- ---- other replies to an edit are refusals

-- no other reply of an answer is one to an edit that is accepted
abbrev Refuses : Answer → Type 0
Refuses answer = (r : Reply) → IsOneOf r answer.others → is_accepted r ≡ false

done_refuses : (s : State) (d : Deed) (o : Option Reply) → Refuses (or_done s d o)
done_refuses s d None r among = absurd among
done_refuses s d (Some x) r among = absurd among

edit_refuses : (s : State) (need : Allow) (d : Deed) → Refuses (edit_answer s need d)
edit_refuses s need d = done_refuses s d (first_of (refusals s need d))

lines_refuse : (lines : List ℕ) (r : Reply) → IsOneOf r (map refused_line lines) → is_accepted r ≡ false
lines_refuse [] r among = absurd among
lines_refuse (line ∷ lines) r (inl is) = sym (ap is_accepted is)
lines_refuse (line ∷ lines) r (inr among) = lines_refuse lines r among

unless_refuses : (s : State) (o : Option Reply) (answer : Answer) → Refuses answer → Refuses (unless_forbidden s o answer)
unless_refuses s None answer h = h
unless_refuses s (Some x) answer h = λ r among. absurd among

answer_refuses : (s : State) (day : ℕ) (q : Request) → IsEdit q → Refuses (answer_to s day q)
unfolding answer_to
answer_refuses s day (request.Report words) is = absurd is
answer_refuses s day request.Download is = absurd is
answer_refuses s day (request.Add entry) is = edit_refuses s allow.Add (plain (edits.Add entry))
answer_refuses s day (request.Change base item entry) is = edit_refuses s allow.Edit (plain (edits.Change base item entry))
answer_refuses s day (request.Replace base text) is = edit_refuses s allow.Edit (plain (edits.Replace base text))
answer_refuses s day (request.Import name rules csv) is =
    unless_refuses s (forbidden s.allowed allow.Add) (or_replies (map refused_line (pattern_lines rules)) (file_answer s name (entries_of rules csv)))
    (lines_refuse (pattern_lines rules))
answer_refuses s day (request.Check entry) is = absurd is
answer_refuses s day (request.Preview name rules csv) is = absurd is

-- so an edit that is accepted is the answer's own
accepted_own : (answer : Answer) (d : Option Deed) (old : State) (before : ℕ) (r : Reply) (new : State) (after : ℕ) → Refuses answer
    → Gives answer d old before r new after → is_accepted r ≡ true → (r ≡ answer.reply) × (new ≡ answer.state)
accepted_own answer d old before r new after own (inl h) e = (h.0, h.1)
accepted_own answer d old before r new after own (inr (inl h)) e = absurd (false≢true (sym (ap is_accepted h.0) ∙ e))
accepted_own answer d old before r new after own (inr (inr (inl h))) e = absurd (false≢true (sym (ap is_accepted h.0) ∙ e))
accepted_own answer d old before r new after own (inr (inr (inr h))) e = absurd (false≢true (sym (own r h.0) ∙ e))

faultless : (r : Reply) → is_accepted r ≡ true → is_fault r ≡ true → ⊥
faultless (reply.Done revision) accepted fault = false≢true fault
faultless (reply.Same revision) accepted fault = false≢true fault
faultless (reply.Text revision bytes) accepted fault = false≢true fault
faultless (reply.Forbidden need have) accepted fault = false≢true fault
faultless (reply.Stale base current) accepted fault = false≢true fault
faultless (reply.BadBase base current) accepted fault = false≢true fault
faultless (reply.NoSuchItem n count) accepted fault = false≢true fault
faultless (reply.NotTransactions line) accepted fault = false≢true fault
faultless (reply.Load cause) accepted fault = false≢true fault
faultless (reply.TooLarge limit size) accepted fault = false≢true fault
faultless (reply.DiskFault before after) accepted fault = false≢true accepted
faultless (reply.Words cause) accepted fault = false≢true fault
faultless (reply.Csv cause) accepted fault = false≢true fault
faultless (reply.Full size limit) accepted fault = false≢true fault
faultless reply.Memory accepted fault = false≢true fault

abbrev told_text : List ℕ → Result (List ℕ) StoreRefusal
told_text text = Ok text

text_is : (a b : List ℕ) → told_text a ≡ told_text b → a ≡ b
text_is a b e = ap of e
  where
    of : Result (List ℕ) StoreRefusal → List ℕ
    of (Ok text) = text
    of (Err x) = a

found_is : (a b : Result Image NoImage) → Some a ≡ Some b → a ≡ b
found_is a b e = ap of e
  where
    of : Option (Result Image NoImage) → Result Image NoImage
    of (Some x) = x
    of None = a

-- the image that is found after a reply that tells no disk fault
shown_after : (next : Option Image) (r : Reply) (state : State) (found : Result Image NoImage) → is_accepted r ≡ true → ShowsAfter next r state (Some found) → found ≡ Ok (image_of state)
shown_after next r state found accepted (inl is) = found_is found (Ok (image_of state)) is
shown_after next r state found accepted (inr h) = absurd (faultless r accepted h.0)

module _ {D : Type 0} (g : Disks D) (old : D × D) (f s : List ℕ) (is_first : g.seen old.0 ≡ Some f) (is_second : g.seen old.1 ≡ Some s)
    (request : Request) (day : Day) (p : Patterns) (is_edit : IsEdit request) where
  module _ (desk : Desk D g) (r : Reply) (back : D × D) (opens : OpensAs g old desk) (asked : IsAsked desk request day p r back) where
    abbrev st : State
    st = state_of desk

    abbrev answer : Answer
    answer = answer_to st day.0 request

    st_is : st ≡ state_in f s (shown_by desk)
    st_is = state_so st (opened_size f s) (opened_limit f s) opens.allowed (opens.size f s is_first is_second) (opens.shown f s is_first is_second).2

    says_added : is_accepted r ≡ true → (bytes : List ℕ) → Added g f s back bytes → Says st day.0 request p (preview.Adds bytes)
    says_added accepted bytes added =
        let own = accepted_own answer (deed_in st request) st (faults_of desk) r (state_of asked.now) (faults_of asked.now)
        (answer_refuses st day.0 request is_edit) asked.served.serves.gives accepted in
        let read = reads_after g old desk request day p r back opens asked is_edit f s is_first is_second in
        let shown = shown_after (next_of answer) r (state_of asked.now) (image read.0 read.1) accepted read.4 in
        let after_is : added.after ≡ answer.state.text = text_is added.after answer.state.text
        (sym (added.now read.0 read.1 read.2 read.3) ∙ ap text_of shown ∙ ap (λ (x : State). text_of (Ok (image_of x))) own.1) in
        let before_is : added.before ≡ st.text = text_is added.before st.text (sym added.was ∙ ap text_of (opens.shown f s is_first is_second).0) in (
          subst (λ (x : Reply). is_accepted x ≡ true) own.0 accepted,
          added.is ∙ ap (λ (x : List ℕ). added_to added.before x) after_is ∙ ap (λ (x : List ℕ). added_to x answer.state.text) before_is,
        )

    says_refused : is_accepted r ≡ false → is_fault r ≡ false → fault_count g old ≡ 0 → Says st day.0 request p (preview.Refused r)
    says_refused refused unlike clean =
        let same = gives_same answer (deed_in st request) st (faults_of desk) r (state_of asked.now) (faults_of asked.now) asked.served.serves.gives unlike in (
          refused,
          reply_kind g old desk request day p r back opens asked is_edit,
          asked.maker,
          λ patterns. asked.complete (none_rose (faults_of desk) (faults_of asked.now) (opens.no_fault ∙ clean) same) patterns,
        )
      where
        none_rose : (a b : ℕ) → a ≡ 0 → b ≡ a → Rose a b → ⊥
        none_rose a b zero same (inl less) = omega (arith, zero, same, less)
        none_rose a b zero same (inr last) = omega (arith, zero, same, last)

    says_so : (told : Preview) → fault_count g old ≡ 0 → SaysReply g f s back r told → Says st day.0 request p told
    says_so (preview.Adds bytes) clean told = says_added told.0 bytes told.1
    says_so (preview.Refused x) clean told =
        subst (λ (y : Reply). Says st day.0 request p (preview.Refused y)) (sym told.0) (says_refused told.1 told.2 clean)

    pub previews : (told : Preview) → fault_count g old ≡ 0 → SaysReply g f s back r told → Previews f s request day.0 p (Ok told)
    previews told clean said = record {
      shown = shown_by desk;
      is = (opens.shown f s is_first is_second).0;
      loads = opens.loads;
      says = subst (λ (x : State). Says x day.0 request p told) st_is (says_so told clean said);
    }

  -- a machine on copies was asked, or wasn't opened
  pub previews_asked : (r : Reply) (back : D × D) (told : Preview) → fault_count g old ≡ 0 → AsksDisks g old back request day p (Ok r) → SaysReply g f s back r told
      → Previews f s request day.0 p (Ok told)
  previews_asked r back told clean asks said = previews asks.0 r back asks.1 asks.2 told clean said

  -- and this is said, or there was no memory for it
  pub previews_told : (r : Reply) (back : D × D) (told : Result Preview JournalRefusal) → fault_count g old ≡ 0 → AsksDisks g old back request day p (Ok r)
      → IfOk told (SaysReply g f s back r) → IfErr told (λ e. e ≡ journal.Memory) → Previews f s request day.0 p told
  previews_told r back (Ok told) clean asks said memory = previews_asked r back told clean asks said
  previews_told r back (Err e) clean asks said memory =
      subst (λ (x : JournalRefusal). IsRefusedBy (Some (image f s)) x × IsOfCopy x) (sym memory) (tt, tt)

  -- ---- not opened

  refused_copy : (found : Option (Result Image NoImage)) (e : JournalRefusal) → IsRefusedBy found e → IsRefusedBy found (of_copy e)
  refused_copy found (journal.Store refusal.Absent) by = by
  refused_copy found (journal.Store (refusal.NotAStore at)) by = by
  refused_copy found (journal.Store (refusal.Newer version)) by = by
  refused_copy found (journal.Store (refusal.Exists len)) by = by
  refused_copy found (journal.Store (refusal.Full size limit)) by = by
  refused_copy found (journal.Store refusal.ReadFault) by = by
  refused_copy found (journal.Store refusal.DiskFault) by = tt
  refused_copy found (journal.Store refusal.Memory) by = tt
  refused_copy found (journal.Load fault) by = by
  refused_copy found (journal.TooLarge limit size) by = by
  refused_copy found journal.Memory by = by

  opening_copy : (new : D × D) (fault : DeskFault) → OpeningRefused g old new fault → IsOfCopy (of_copy (of_opening fault))
  opening_copy new (desk_fault.Store store_fault.DiskFault) cause = tt
  opening_copy new (desk_fault.Store (store_fault.NotAStore at)) cause = tt
  opening_copy new (desk_fault.Store (store_fault.Newer version)) cause = tt
  opening_copy new (desk_fault.Store (store_fault.Full size limit)) cause = absurd cause
  opening_copy new (desk_fault.Store (store_fault.Exists len)) cause = absurd cause
  opening_copy new (desk_fault.Store store_fault.Memory) cause = absurd cause
  opening_copy new (desk_fault.Load unopened_text.Memory) cause = absurd cause
  opening_copy new (desk_fault.Load (unopened_text.Load fault)) cause = tt
  opening_copy new (desk_fault.Load (unopened_text.TooLarge limit size)) cause = tt
  opening_copy new desk_fault.Memory cause = tt

  pub previews_unopened : (e : JournalRefusal) (back : D × D) → AsksDisks g old back request day p (Err e) → Previews f s request day.0 p (Err (of_copy e))
  previews_unopened e back asks =
      let unopened = asks.0 in (
        refused_copy (Some (image f s)) e (refused_by g old back e unopened f s is_first is_second),
        subst (λ (x : JournalRefusal). IsOfCopy (of_copy x)) (sym unopened.is) (opening_copy back unopened.fault unopened.cause),
      )
