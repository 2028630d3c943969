-- What is said of a reply to an edit.
use Rattle.std.specs.Prelude.{ℕ}
pub use Rattle.desk.specs.ReplyLines.{IsEditReply, csv_line, line_of}
use Rattle.desk.specs.declared.request.Request.{Request}
use Rattle.desk.specs.declared.request.Request.TheVariants as request
use Rattle.desk.specs.declared.reply.Reply.{Reply}
use Rattle.desk.specs.declared.reply.Reply.TheVariants as reply
use Rattle.refusals.specs.Errors.{fault_status}

-- the request asks for an edit
abbrev pub IsEdit : Request → Type 0
IsEdit (request.Report words) = ⊥
IsEdit request.Download = ⊥
IsEdit (request.Check entry) = ⊥
IsEdit (request.Preview name rules csv) = ⊥
IsEdit _ = Unit {0}

abbrev pub status_of : Reply → ℕ
status_of (reply.Done revision) = 0
status_of (reply.Same revision) = 0
status_of (reply.Text revision bytes) = 0
status_of (reply.Load fault) = fault_status fault.cause
status_of (reply.DiskFault before after) = 5
status_of reply.Memory = 6
status_of (reply.TooLarge limit size) = 7
status_of (reply.Full size limit) = 7
status_of _ = 1
