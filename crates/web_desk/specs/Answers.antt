-- The bytes that are sent.
use Rattle.std.specs.Prelude.{ℕ, Bool, true, false, List, [], ◌∷◌, ◌++◌, length, ◌==◌, Option, Some, None, Result, Ok, Err, if◌then◌else◌, codes}
use Rattle.std.specs.Option.{unwrap_or}
use Rattle.std.specs.Fmt.{decimal}
use Rattle.hl_base.specs.Ascii.{carriage_return, line_feed}
use Rattle.http.specs.StatusCode.{reason_phrase}
use Rattle.csv_rules.specs.declared.faults.RulesFault.{RulesFault}
use Rattle.csv_rules.specs.declared.faults.RulesFault.TheVariants as rules_fault
use Rattle.csv_entries.specs.declared.faults.ConvertFault.{ConvertFault}
use Rattle.csv_entries.specs.declared.faults.ConvertFault.TheVariants as convert_fault
use Rattle.desk.specs.declared.csv_fault.CsvFault.{CsvFault}
use Rattle.desk.specs.declared.csv_fault.CsvFault.TheVariants as csv_fault
use Rattle.desk.specs.declared.request.Request.{Request}
use Rattle.desk.specs.declared.reply.Reply.{Reply}
use Rattle.desk.specs.declared.reply.Reply.TheVariants as reply
use Rattle.generated.specs.declared.fault.GenFault.{GenFault}
use Rattle.generated.specs.declared.fault.GenFault.TheVariants as gen_fault
use Rattle.plan_commands.specs.declared.fault.PlanFault.{PlanFault}
use Rattle.plan_commands.specs.declared.fault.PlanFault.TheVariants as plan_fault
use Rattle.report_cells.specs.declared.fault.ReportFault.{ReportFault}
use Rattle.report_cells.specs.declared.fault.ReportFault.TheVariants as report
use Rattle.report_commands.specs.declared.fault.WordsFault.{WordsFault}
use Rattle.report_commands.specs.declared.fault.WordsFault.TheVariants as words
use Rattle.web_messages.specs.declared.refusal.Refusal.{Refusal}
use Rattle.web_messages.specs.declared.refusal.Refusal.TheVariants as refusal
use Rattle.desk.specs.Entries.{Entry}
use Rattle.error_lines.specs.Lines.{ended}
use Rattle.web_desk.specs.Lines.{body_of}
use Rattle.web_desk.specs.declared.own_reply.OwnReply.{OwnReply}
use Rattle.web_desk.specs.declared.own_reply.OwnReply.TheVariants as own

abbrev pub crlf : List ℕ
crlf = carriage_return ∷ line_feed ∷ []

-- the phrase of a status
unfoldable pub phrase_of : ℕ → List ℕ
phrase_of status = unwrap_or (reason_phrase status) []

-- the status and its phrase
abbrev pub status_line : ℕ → List ℕ
status_line status = codes "HTTP/1.1 " ++ decimal status ++ codes " " ++ phrase_of status ++ crlf

-- the revision after the request, where the desk answered
abbrev pub revision_field : Option ℕ → List ℕ
revision_field None = []
revision_field (Some revision) = codes "X-Revision: " ++ decimal revision ++ crlf

-- whether the connection closes
abbrev pub closing_field : Bool → List ℕ
closing_field true = codes "Connection: close\r\n"
closing_field false = []

-- A reply up to its length: its status and its fields. The field Allow comes with its line end.
abbrev pub opening_text : ℕ → Option ℕ → List ℕ → Bool → List ℕ
opening_text status revision allow closing =
    status_line status ++ codes "Content-Type: text/plain; charset=utf-8\r\n" ++ revision_field revision ++ allow ++ closing_field closing

-- a reply up to its body: its status, its fields, and an empty line
abbrev pub head_text : ℕ → Option ℕ → List ℕ → Bool → ℕ → List ℕ
head_text status revision allow closing size =
    opening_text status revision allow closing ++ codes "Content-Length: " ++ decimal size ++ codes "\r\n\r\n"

-- a whole reply
abbrev pub message : ℕ → Option ℕ → List ℕ → Bool → List ℕ → List ℕ
message status revision allow closing body = head_text status revision allow closing (length body) ++ body

-- ---- the page

-- what a browser may load for the page
abbrev pub policy_field : List ℕ → List ℕ
policy_field policy = codes "Content-Security-Policy: " ++ policy ++ crlf

-- the reply with the page, up to its length
abbrev pub page_opening : List ℕ → Bool → List ℕ
page_opening policy closing = status_line 200 ++ codes "Content-Type: text/html; charset=utf-8\r\n" ++ policy_field policy ++ closing_field closing

-- up to the page
abbrev pub page_head : List ℕ → Bool → ℕ → List ℕ
page_head policy closing size = page_opening policy closing ++ codes "Content-Length: " ++ decimal size ++ codes "\r\n\r\n"

-- the whole reply
abbrev pub page_message : Bool → List ℕ → List ℕ → List ℕ
page_message closing text policy = page_head policy closing (length text) ++ text

-- ---- refusals

-- what the status of a refusal is, its line, and the methods that a path has
abbrev pub refusal_status : Refusal → ℕ
refusal_status refusal.Form = 400
refusal_status refusal.Message = 400
refusal_status refusal.Path = 404
refusal_status refusal.GetOnly = 405
refusal_status refusal.PostOnly = 405
refusal_status refusal.Origin = 403
refusal_status refusal.Head = 431
refusal_status refusal.Body = 413

abbrev pub refusal_line : Refusal → List ℕ
refusal_line refusal.Form = ended (codes "error: form")
refusal_line refusal.Message = ended (codes "error: message")
refusal_line refusal.Path = ended (codes "error: path")
refusal_line refusal.GetOnly = ended (codes "error: method")
refusal_line refusal.PostOnly = ended (codes "error: method")
refusal_line refusal.Origin = ended (codes "error: origin")
refusal_line refusal.Head = ended (codes "error: head")
refusal_line refusal.Body = ended (codes "error: body")

abbrev pub allow_field : Refusal → List ℕ
allow_field refusal.Form = []
allow_field refusal.Message = []
allow_field refusal.Path = []
allow_field refusal.GetOnly = codes "Allow: GET\r\n"
allow_field refusal.PostOnly = codes "Allow: POST\r\n"
allow_field refusal.Origin = []
allow_field refusal.Head = []
allow_field refusal.Body = []

-- the reply that refuses without the desk
abbrev pub refusal_message : Bool → Refusal → List ℕ
refusal_message closing r = message (refusal_status r) None (allow_field r) closing (refusal_line r)

-- the reply that is sent without the desk
abbrev pub own_message : Bool → OwnReply → List ℕ
own_message closing (own.Refused refused) = refusal_message closing refused
own_message closing (own.Page text policy) = page_message closing text policy

-- ---- replies of the desk

abbrev pub report_status : ReportFault → ℕ
report_status (report.Range symbol) = 400
report_status (report.TooWide columns limit) = 400
report_status report.Memory = 500

abbrev pub words_status : WordsFault → ℕ
words_status (words.NoCommand word) = 400
words_status (words.BadOption word) = 400
words_status (words.Conflict a b) = 400
words_status (words.BadTerm word) = 400
words_status (words.PatternRefused word) = 400
words_status (words.Report fault) = report_status fault
words_status words.Memory = 500

abbrev pub gen_status : GenFault → ℕ
gen_status (gen_fault.Journal fault) = 400
gen_status (gen_fault.BadTerm line) = 400
gen_status (gen_fault.PatternRefused line) = 400
gen_status (gen_fault.TooMany count limit) = 400
gen_status gen_fault.Memory = 500

abbrev pub plan_status : PlanFault → ℕ
plan_status (plan_fault.Words fault) = words_status fault
plan_status (plan_fault.Generated fault) = gen_status fault
plan_status plan_fault.Memory = 500

abbrev pub rules_status : RulesFault → ℕ
rules_status (rules_fault.BadRule line) = 422
rules_status (rules_fault.PatternRefused line) = 422
rules_status rules_fault.Memory = 500

abbrev pub convert_status : ConvertFault → ℕ
convert_status (convert_fault.BadRecord n) = 422
convert_status (convert_fault.NoDate n) = 422
convert_status (convert_fault.NoAmount n) = 422
convert_status (convert_fault.TwoAmounts n) = 422
convert_status (convert_fault.CsvRefused n) = 422
convert_status convert_fault.Memory = 500

abbrev pub csv_status : CsvFault → ℕ
csv_status (csv_fault.Rules fault) = rules_status fault
csv_status (csv_fault.Convert fault) = convert_status fault

abbrev pub status_of : Reply → ℕ
status_of (reply.Done revision) = 200
status_of (reply.Same revision) = 200
status_of (reply.Text revision bytes) = 200
status_of (reply.Forbidden need have) = 403
status_of (reply.Stale base current) = 409
status_of (reply.BadBase base current) = 400
status_of (reply.NoSuchItem n count) = 400
status_of (reply.NotTransactions line) = 400
status_of (reply.Load fault) = 422
status_of (reply.TooLarge limit size) = 413
status_of (reply.DiskFault before after) = 503
status_of (reply.Words fault) = plan_status fault
status_of (reply.Csv fault) = csv_status fault
status_of (reply.Full size limit) = 507
status_of reply.Memory = 500

-- where memory ran out the revision isn't said
abbrev pub said_revision : ℕ → ℕ → Option ℕ
said_revision status revision = if status == 500 then None else Some revision

-- the reply of the desk, with the revision after the request
abbrev pub reply_message : Bool → Reply → ℕ → List ℕ
reply_message closing r revision =
    message (status_of r) (said_revision (status_of r) revision) [] closing (body_of r)

abbrev pub entry_message : Bool → Entry → List ℕ
entry_message closing entry = reply_message closing entry.reply entry.revision

-- what a message is answered: by the desk, or without it
abbrev pub answer_to : Bool → Result Request OwnReply → Option Entry → List ℕ
answer_to closing (Ok request) None = []
answer_to closing (Ok request) (Some entry) = entry_message closing entry
answer_to closing (Err own_reply) entry = own_message closing own_reply
