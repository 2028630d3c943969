-- What the counters of steps come to in a request.
use Rattle.std.specs.Prelude.{◌≡◌, ◌⊎◌, ℕ, ◌+◌, Bool, true, false, List, Option, Some, None, Result, Ok, Err, IfErr}
use Rattle.hl_base.specs.Counts.{Counts}
use Rattle.book.specs.declared.item.Book.{Book}
use Rattle.book.specs.declared.item.Placed.{Placed}
use Rattle.kept_reports.specs.Nodes.{Asks}
use Rattle.live_journal.specs.Checking.{CountsEdit, CountsRefused}
use Rattle.live_journal.specs.Journals.{Journal, Planned}
use Rattle.live_journal.specs.declared.edit.Edit.{Edit}
use Rattle.live_journal.specs.declared.fault.EditFault.{EditFault}
use Rattle.live_journal.specs.declared.fault.EditFault.TheVariants as faults
use Rattle.live_journal.specs.Loading.{book_of, reading_in}
use Rattle.plan_commands.specs.Commands.{asked_of}
use Rattle.report_commands.specs.declared.asked.Asked.{Asked}
use Rattle.desk.specs.declared.deed.Deed.{Deed}
use Rattle.desk.specs.declared.reply.Reply.{Reply}
use Rattle.desk.specs.declared.reply.Reply.TheVariants as reply
use Rattle.desk.specs.declared.request.Request.{Request}
use Rattle.desk.specs.declared.request.Request.TheVariants as request
use Rattle.desk.specs.States.{State, deed_in}

-- the journal accepts the edit: it stands, or changes nothing, or isn't kept by the store
abbrev pub is_accepted : Reply → Bool
is_accepted (reply.Done revision) = true
is_accepted (reply.Same revision) = true
is_accepted (reply.Full size limit) = true
is_accepted (reply.DiskFault before after) = true
is_accepted other = false

-- the journal isn't asked for a new text: of a report or a download, or where something isn't allowed, or words or a file are
-- refused
abbrev pub is_unasked : Reply → Bool
is_unasked (reply.Text revision bytes) = true
is_unasked (reply.Words fault) = true
is_unasked (reply.Csv fault) = true
is_unasked (reply.Forbidden need have) = true
is_unasked other = false

-- the journal refuses the edit
abbrev pub is_refused : Reply → Bool
is_refused (reply.Stale base current) = true
is_refused (reply.BadBase base current) = true
is_refused (reply.NoSuchItem n count) = true
is_refused (reply.NotTransactions line) = true
is_refused (reply.Load fault) = true
is_refused (reply.TooLarge limit size) = true
is_refused other = false

-- what may be replied to an edit that was planned
abbrev pub is_planned : Reply → Bool
is_planned (reply.Done revision) = true
is_planned (reply.Same revision) = true
is_planned (reply.Full size limit) = true
is_planned (reply.DiskFault before after) = true
is_planned reply.Memory = true
is_planned other = false

-- what is counted where an edit was tried: what its plan counts, or what a refusal counts
abbrev pub CountsTried : Journal → Edit → Counts → Counts → Type 0
CountsTried j edit old new = CountsEdit j edit old new ⊎ CountsRefused j edit old new

-- what is counted where no plan of an edit is made: what a refusal counts; where memory ran out it may have been planned
abbrev pub CountsFault : Journal → Edit → EditFault → Counts → Counts → Type 0
CountsFault j edit faults.Memory old new = CountsTried j edit old new
CountsFault j edit other old new = CountsRefused j edit old new

-- What is counted for an edit: what its plan counts where the journal accepts it, what a refusal counts where it refuses it, and the
-- one or the other whatever is replied.
pub record CountsDeed (j : Journal) (d : Deed) (r : Reply) (old new : Counts) : Type 0 where
  pub accepted : is_accepted r ≡ true → CountsEdit j d.edit old new
  pub refusal : is_refused r ≡ true → CountsRefused j d.edit old new
  pub replied : CountsTried j d.edit old new

abbrev pub CountsFor : Journal → Option Deed → Reply → Counts → Counts → Type 0
CountsFor j None r old new = Unit {0}
CountsFor j (Some d) r old new = CountsDeed j d r old new

-- What is counted between two moments, of a request that is an edit of a journal or none, and of its reply: for an edit what the
-- journal counts for it; and nothing for what is no edit, or where the journal isn't asked.
pub record CountsSteps (j : Journal) (d : Option Deed) (r : Reply) (old new : Counts) : Type 0 where
  pub edit : CountsFor j d r old new
  pub no_edit : d ≡ None → new ≡ old
  pub unasked : is_unasked r ≡ true → new ≡ old

-- the reply of an edit whose dry run is replied so
abbrev pub edit_reply : Reply → Reply
edit_reply (reply.Text revision bytes) = reply.Done (revision + 1)
edit_reply other = other

-- what is counted for a dry run: what the plan of an edit counts that would be stored, and else what the edit counts with its reply
abbrev pub CountsDryRun : Journal → Deed → Result Planned Reply → Counts → Counts → Type 0
CountsDryRun j d (Ok plan) old new = CountsEdit j d.edit old new
CountsDryRun j d (Err r) old new = CountsSteps j (Some d) (edit_reply r) old new

-- What the words of a report ask over a text that begins in a year, on a day: nothing is read or checked. A plain balance asks no more
-- nodes than its book has accounts and symbols, 44 for each in each column, and any other report none.
pub record AsksReport (day : ℕ) (year : Option ℕ) (text : List ℕ) (words : List (List ℕ)) (old new : Counts) : Type 0 where
  pub bytes_read : new.bytes_read ≡ old.bytes_read
  pub checked : new.checked ≡ old.checked
  pub unread : IfErr (asked_of day words) (λ fault. new ≡ old)
  pub nodes : (asked : Asked) (items : List Placed) (book : Book) → asked_of day words ≡ Ok asked → reading_in year text ≡ Ok items
      → book_of year text ≡ Ok book → Asks asked day items book old new

-- What is counted for a request: for a report what its words ask, and for any other by the edit that it is. An import is the addition
-- of its new entries. A dry run counts what its edit would.
abbrev pub CountsRequest : Journal → State → ℕ → Request → Reply → Counts → Counts → Type 0
CountsRequest j s day (request.Report words) r old new = AsksReport day j.year j.text words old new
CountsRequest j s day request.Download r old new = CountsSteps j None r old new
CountsRequest j s day (request.Add entry) r old new = CountsSteps j (deed_in s (request.Add entry)) r old new
CountsRequest j s day (request.Change base item entry) r old new = CountsSteps j (deed_in s (request.Change base item entry)) r old new
CountsRequest j s day (request.Replace base text) r old new = CountsSteps j (deed_in s (request.Replace base text)) r old new
CountsRequest j s day (request.Import name rules csv) r old new = CountsSteps j (deed_in s (request.Import name rules csv)) r old new
CountsRequest j s day (request.Check entry) r old new = CountsSteps j (deed_in s (request.Add entry)) (edit_reply r) old new
CountsRequest j s day (request.Preview name rules csv) r old new = CountsSteps j (deed_in s (request.Import name rules csv)) (edit_reply r) old new
