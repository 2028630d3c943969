-- How a command over a store ends: what is said of it, and what is written.
use Rattle.std.proofs.Common.{◌≡◌, ◌≢◌, ◌⊎◌, inl, inr, ℕ, List, Option, Result, Ok, Err, IfErr, IfSome, length, refl, sym, subst, arith}
use Rattle.hl_base.specs.Causes.{Rose}
use Rattle.hl_base.specs.declared.disk.Disk.{Ghosts as Disks}
use Rattle.hl_base.specs.declared.outside.Source.{Ghosts as Inputs}
use Rattle.hl_base.specs.declared.outside.Sink.{Ghosts as Outputs}
use Rattle.hl_base.specs.declared.shelf.Shelf.{Ghosts as Shelves}
use Rattle.hl_time.specs.declared.day.Day.{Day}
use Rattle.query_terms.specs.declared.making.Maker.{Ghosts as Makers}
use Rattle.book.specs.declared.fault.Cause.{Cause}
use Rattle.book.specs.declared.fault.Cause.TheVariants as causes
use Rattle.report_commands.specs.declared.fault.WordsFault.TheVariants as words_fault
use Rattle.refusals.specs.Errors.{fault_status, write_fault_line}
use Rattle.refusals.specs.declared.refusal.Refusal.{Refusal}
use Rattle.refusals.specs.declared.refusal.Refusal.TheVariants as refusal
use Rattle.desk.specs.declared.reply.Reply.{Reply}
use Rattle.desk.specs.declared.reply.Reply.TheVariants as reply
use Rattle.follower.specs.declared.fault.FrameFault.{FrameFault}
use Rattle.follower.specs.declared.fault.FrameFault.TheVariants as frame
use Rattle.refusals.specs.Refusing.{Refuses}
use Rattle.store_text.specs.Refusals.{line_of as store_line, status_of as store_status}
use Rattle.store_following.specs.Lines.{refusal_status, unread_status}
use Rattle.store_following.specs.declared.refusal.FollowRefusal.{FollowRefusal}
use Rattle.store_following.specs.declared.refusal.FollowRefusal.TheVariants as follow
use Rattle.store_text.specs.declared.refusal.StoreRefusal.{StoreRefusal}
use Rattle.store_text.specs.declared.refusal.StoreRefusal.TheVariants as store
use Rattle.store_making.specs.Lines.{status_of as making_status}
use Rattle.store_making.specs.declared.refusal.JournalRefusal.{JournalRefusal}
use Rattle.store_making.specs.declared.refusal.JournalRefusal.TheVariants as making
use Rattle.store_commands.specs.Replies.{status_of as reply_status}
use Rattle.command_words.specs.Usage.{usage_cause}
use Rattle.command_words.specs.declared.task.Origin.{Origin}
use Rattle.command_words.specs.declared.task.Origin.TheVariants as origins
use Rattle.command_words.specs.declared.task.Task.{Task}
use Rattle.command_words.specs.declared.task.Task.TheVariants as task
use Rattle.command_words.specs.declared.usage.UsageFault.{UsageFault}
use Rattle.command_words.specs.declared.usage.UsageFault.TheVariants as usages
use Rattle.command_line.specs.Answers.{IsOfFile, IsOfSource, IsStatus, IsTextStatus, Says, Wrote, WrotePrefix, line_of, status_of}
use Rattle.command_line.specs.Scenes.{Scene, scene, soundness}
use Rattle.command_line.specs.StoreRuns.{Ends}
use Rattle.command_line.specs.StoreTasks.{IsOfStored, ToldLine}
use Rattle.command_line.specs.Stored.{RefusesStore}
use Rattle.command_line.specs.Samples.{ToldSample, sample_answer}
use Rattle.command_line.specs.Tasks.{Stores}
use Rattle.command_line.specs.declared.outside.Outside.{Outside}

-- ---- statuses

abbrev IsTold : ℕ → Type 0
IsTold n = IsStatus n × (n ≢ 2)

one : IsTold 1
one = (inr (inl (inl (inl refl))), λ e. omega arith)

three : IsTold 3
three = (inr (inr (inl refl)), λ e. omega arith)

five : IsTold 5
five = (inr (inr (inr (inr (inl refl)))), λ e. omega arith)

six : IsTold 6
six = (inr (inr (inr (inr (inr refl)))), λ e. omega arith)

seven : IsTold 7
seven = (inr (inl (inl (inr (inl refl)))), λ e. omega arith)

eight : IsTold 8
eight = (inr (inl (inl (inr (inr refl)))), λ e. omega arith)

zero_told : IsTold 0
zero_told = (inl refl, λ e. omega arith)

store_told : (r : StoreRefusal) → IsTold (store_status r)
store_told store.Absent = eight
store_told (store.NotAStore at) = eight
store_told (store.Newer version) = eight
store_told (store.Exists len) = eight
store_told (store.Full size limit) = seven
store_told store.ReadFault = three
store_told store.DiskFault = five
store_told store.Memory = six

cause_told : (c : Cause) → IsTold (fault_status c)
cause_told causes.Form = one
cause_told causes.Date = one
cause_told causes.Number = one
cause_told causes.Account = one
cause_told causes.StatusMark = one
cause_told causes.Directive = one
cause_told causes.Quote = one
cause_told causes.TooLong = seven
cause_told causes.Encoding = one
cause_told causes.TwoMissing = one
cause_told causes.NotAllowed = one
cause_told (causes.Unbalanced symbol sum) = one
cause_told (causes.AssertionFailed wanted found) = one
cause_told causes.Range = one

journal_told : (e : JournalRefusal) → IsTold (making_status e)
journal_told (making.Store r) = store_told r
journal_told (making.Load fault) = cause_told fault.cause
journal_told (making.TooLarge limit size) = seven
journal_told making.Memory = six

reply_told : (r : Reply) → IsTold (reply_status r)
reply_told (reply.Done revision) = zero_told
reply_told (reply.Same revision) = zero_told
reply_told (reply.Text revision bytes) = zero_told
reply_told (reply.Forbidden need have) = one
reply_told (reply.Stale base current) = one
reply_told (reply.BadBase base current) = one
reply_told (reply.NoSuchItem n count) = one
reply_told (reply.NotTransactions line) = one
reply_told (reply.Load fault) = cause_told fault.cause
reply_told (reply.TooLarge limit size) = seven
reply_told (reply.DiskFault before after) = five
reply_told (reply.Words fault) = one
reply_told (reply.Csv fault) = one
reply_told (reply.Full size limit) = seven
reply_told reply.Memory = six

-- of refusals
pub memory_kind : IsOfStored refusal.Memory
memory_kind = six

pub journal_kind : (e : JournalRefusal) (status : ℕ) (line : List ℕ) → status ≡ making_status e → IsOfStored (refusal.Line status line)
journal_kind e status line is = subst (λ (n : ℕ). IsTold n) (sym is) (journal_told e)

-- the status is that of a reply
pub replied_kind : (r : Reply) (status : ℕ) (line : List ℕ) → status ≡ reply_status r → IsOfStored (refusal.Line status line)
replied_kind r status line is = subst (λ (n : ℕ). IsTold n) (sym is) (reply_told r)

line_kind : (status : ℕ) (line : List ℕ) (x : Refusal) → IsTold status → (x ≡ refusal.Memory) ⊎ ((status ≢ 0) × (x ≡ refusal.Line status line)) → IsOfStored x
line_kind status line x k (inl e) = subst (λ (y : Refusal). IsOfStored y) (sym e) six
line_kind status line x k (inr h) = subst (λ (y : Refusal). IsOfStored y) (sym h.1) k

told_kind : (status : ℕ) (line : List ℕ) (result : Result (List ℕ) Refusal) → IsTold status → ToldLine status line result → IfErr result IsOfStored
told_kind status line (Ok output) k h = tt
told_kind status line (Err x) k h = line_kind status line x k h

pub reply_kind : (r : Reply) (status : ℕ) (line : List ℕ) (result : Result (List ℕ) Refusal) → status ≡ reply_status r → ToldLine status line result → IfErr result IsOfStored
reply_kind r status line result is h = told_kind status line result (subst (λ (n : ℕ). IsTold n) (sym is) (reply_told r)) h

text_told : (status : ℕ) → IsTextStatus status → IsTold status
text_told status (inl e) = subst (λ (n : ℕ). IsTold n) (sym e) one
text_told status (inr (inl e)) = subst (λ (n : ℕ). IsTold n) (sym e) seven
text_told status (inr (inr e)) = subst (λ (n : ℕ). IsTold n) (sym e) eight

pub file_kind : (x : Refusal) → IsOfFile x → IsOfStored x
file_kind (refusal.Line status line) k = text_told status k
file_kind (refusal.Pattern what line) k = absurd k
file_kind refusal.ReadFault k = three
file_kind refusal.DiskFault k = absurd k
file_kind refusal.Memory k = six

judged_told : (status : ℕ) → (status ≡ 1) ⊎ (status ≡ 7) → IsTold status
judged_told status (inl e) = subst (λ (n : ℕ). IsTold n) (sym e) one
judged_told status (inr e) = subst (λ (n : ℕ). IsTold n) (sym e) seven

pub source_kind : (origin : Origin) (x : Refusal) → IsOfSource origin x → IsOfStored x
source_kind origins.Input (refusal.Line status line) k = judged_told status k
source_kind origins.Input (refusal.Pattern what line) k = absurd k
source_kind origins.Input refusal.ReadFault k = three
source_kind origins.Input refusal.DiskFault k = absurd k
source_kind origins.Input refusal.Memory k = six
source_kind (origins.File name) x k = file_kind x k
source_kind (origins.Store name) (refusal.Line status line) k = text_told status k
source_kind (origins.Store name) (refusal.Pattern what line) k = absurd k
source_kind (origins.Store name) refusal.ReadFault k = three
source_kind (origins.Store name) refusal.DiskFault k = five
source_kind (origins.Store name) refusal.Memory k = six

-- of a store that is read
line_told : (status : ℕ) (line : List ℕ) (x : Refusal) → IsTold status → Refuses x status line → IsOfStored x
line_told status line (refusal.Line own said) k h = subst (λ (n : ℕ). IsTold n) (sym h.0) k
line_told status line (refusal.Pattern what said) k h = absurd h
line_told status line refusal.ReadFault k h = absurd h
line_told status line refusal.DiskFault k h = absurd h
line_told status line refusal.Memory k h = six

same_told : (x y : Refusal) → x ≡ y → IsOfStored y → IsOfStored x
same_told x y e k = subst (λ (z : Refusal). IsOfStored z) (sym e) k

pub frames_kind : (name : List ℕ) (r : StoreRefusal) (x : Refusal) → RefusesStore x name r → IsOfStored x
frames_kind name store.Absent x h = line_told 8 (store_line name store.Absent) x eight h
frames_kind name (store.NotAStore at) x h = line_told 8 (store_line name (store.NotAStore at)) x eight h
frames_kind name (store.Newer version) x h = line_told 8 (store_line name (store.Newer version)) x eight h
frames_kind name (store.Exists len) x h = line_told 8 (store_line name (store.Exists len)) x eight h
frames_kind name (store.Full size limit) x h = line_told 7 (store_line name (store.Full size limit)) x seven h
frames_kind name store.ReadFault x h = same_told x refusal.ReadFault h three
frames_kind name store.DiskFault x h = same_told x refusal.DiskFault h five
frames_kind name store.Memory x h = same_told x refusal.Memory h six

-- and of frames that are followed
unread_told : (fault : FrameFault) → IsTold (unread_status fault)
unread_told frame.ReadFault = three
unread_told (frame.Cut had) = one
unread_told (frame.BadFrame kind) = one
unread_told (frame.TooLong said limit) = seven
unread_told frame.Memory = six

follow_told : (e : FollowRefusal) → IsTold (refusal_status e)
follow_told (follow.Store r) = store_told r
follow_told (follow.Unread fault) = unread_told fault
follow_told follow.NoSnapshot = one
follow_told follow.Payload = one

pub follow_kind : (e : FollowRefusal) (status : ℕ) (line : List ℕ) → status ≡ refusal_status e → IsOfStored (refusal.Line status line)
follow_kind e status line is = subst (λ (n : ℕ). IsTold n) (sym is) (follow_told e)

-- ---- ends

-- a refusal was said
pub said_status : (status : ℕ) (x : Refusal) (old new : Option (List ℕ)) (fo fn : ℕ) → IsOfStored x
    → Says status (status_of x) (line_of x) old new fo fn → IsTold status
said_status status x old new fo fn k (inl h) = subst (λ (n : ℕ). IsTold n) (sym h.0) k
said_status status x old new fo fn k (inr h) = subst (λ (n : ℕ). IsTold n) (sym h.0) (inr (inr (inr (inl refl))), λ e. omega arith)

-- an output was written
pub written_end : (status : ℕ) (old new : Scene) (output text : List ℕ) → text ≡ output → (status ≡ 0) ⊎ (status ≡ 4)
    → (status ≡ 0 → Wrote old.output new.output text) → (status ≡ 0 → new.error ≡ old.error)
    → WrotePrefix old.output new.output text → (status ≡ 4 → Rose old.output_faults new.output_faults)
    → (status ≡ 4 → Says status 4 write_fault_line old.error new.error old.error_faults new.error_faults)
    → Ends status old new (Ok output)
written_end status old new output text is (inl e) wrote quiet prefix rose said =
    let F : List ℕ → Type 0 = λ t. Wrote old.output new.output t in
    inl (e, quiet e, subst F is (wrote e))
written_end status old new output text is (inr e) wrote quiet prefix rose said =
    let F : List ℕ → Type 0 = λ t. WrotePrefix old.output new.output t in
    inr (e, (rose e, said e), subst F is prefix)

-- ---- words

pub memory_told : (said : Result (List ℕ) JournalRefusal) → ToldSample said (Err refusal.Memory)
memory_told (Ok line) = inl refl
memory_told (Err e) = inr (inl refl)

module _ {J O E S D M : Type 0} (j : Inputs J) (o : Outputs O) (e : Outputs E) (s : Shelves S D) (g : Disks D) (m : Makers M) (day : Day) (status : ℕ)
    (old : Outside J O E S M) (err : E) where
  abbrev AfterWords : Result Task UsageFault → Type 0
  AfterWords what = Stores j (scene j o e s m) (soundness j o e s) s g m day status old (record old { err = err }) what

  abbrev SaysIt : Refusal → Type 0
  SaysIt r = Says status (status_of r) (line_of r) (e.written old.err) (e.written err) (e.faults old.err) (e.faults err)

  -- where there is room for its line, its status is the refusal's
  abbrev OwnIt : Refusal → Type 0
  OwnIt r = e.HasRoom old.err (length (line_of r)) → status ≡ status_of r

  -- there was no memory for the words
  memory_stores : (what : Result Task UsageFault) → SaysIt refusal.Memory → OwnIt refusal.Memory → AfterWords what
  memory_stores (Ok (task.Stored what)) h own = record {
    last = old;
    answer = Err refusal.Memory;
    answers = inr (refl, refl);
    ends = (h, refl);
    soundly = own;
    stays = (refl, refl, refl);
  }
  memory_stores (Ok (task.Over given)) h own = tt
  memory_stores (Ok (task.Talk what)) h own = record {
    last = old;
    end = Err refusal.Memory;
    talked = inr (refl, refl);
    told = h;
    soundly = own;
    stays = (refl, refl, refl);
  }
  memory_stores (Ok (task.Sample count)) h own = record {
    answer = Err refusal.Memory;
    told = memory_told (sample_answer count);
    ends = (h, refl);
    soundly = own;
    stays = (refl, refl, refl);
  }
  memory_stores (Ok (task.Help subject)) h own = tt
  memory_stores (Ok task.Version) h own = tt
  memory_stores (Err fault) h own = tt

  told_stores : (fault : UsageFault) (what : Result Task UsageFault) → what ≡ Err fault → AfterWords what
  told_stores fault what is =
      let F : Result Task UsageFault → Type 0 = λ w. AfterWords w in
      subst F (sym is) tt

  pub words_store : (r : Refusal) (what : Result Task UsageFault) (fault : UsageFault) → IfSome (usage_cause fault) (λ f. what ≡ Err f)
      → (fault ≡ usages.Words words_fault.Memory → r ≡ refusal.Memory) → SaysIt r → OwnIt r → AfterWords what
  words_store r what (usages.Words (words_fault.NoCommand word)) told memory h own = told_stores (usages.Words (words_fault.NoCommand word)) what told
  words_store r what (usages.Words (words_fault.BadOption word)) told memory h own = told_stores (usages.Words (words_fault.BadOption word)) what told
  words_store r what (usages.Words (words_fault.Conflict a b)) told memory h own = told_stores (usages.Words (words_fault.Conflict a b)) what told
  words_store r what (usages.Words (words_fault.BadTerm word)) told memory h own = told_stores (usages.Words (words_fault.BadTerm word)) what told
  words_store r what (usages.Words (words_fault.PatternRefused word)) told memory h own = told_stores (usages.Words (words_fault.PatternRefused word)) what told
  words_store r what (usages.Words (words_fault.Report fault)) told memory h own = told_stores (usages.Words (words_fault.Report fault)) what told
  words_store r what usages.Missing told memory h own = told_stores usages.Missing what told
  words_store r what (usages.Words words_fault.Memory) told memory h own =
      let F : Refusal → Type 0 = λ x. SaysIt x in
      let G : Refusal → Type 0 = λ x. OwnIt x in
      memory_stores what (subst F (memory refl) h) (subst G (memory refl) own)
