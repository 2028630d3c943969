-- What a message asks of the desk, or what it is answered without the desk.
use Rattle.std.specs.Prelude.{ℕ, List, [], ◌∷◌, Option, Some, None, Result, Ok, Err, codes}
use Rattle.httparse.specs.Grammar.{RequestHead}
use Rattle.desk.specs.declared.request.Request.{Request}
use Rattle.desk.specs.declared.request.Request.TheVariants.{Report, Download, Add, Replace, Import, Check, Preview}
use Rattle.report_options.specs.declared.command.Command.{Command}
use Rattle.report_options.specs.declared.command.Command.TheVariants as commands
use Rattle.web_messages.specs.declared.form.Parameter.{Parameter}
use Rattle.web_messages.specs.declared.page.Page.{Page}
use Rattle.web_messages.specs.declared.page.Page.TheVariants as pages
use Rattle.web_messages.specs.declared.refusal.Refusal.{Refusal}
use Rattle.web_messages.specs.declared.refusal.Refusal.TheVariants as refusal
use Rattle.web_messages.specs.declared.route.PageRoute.{PageRoute}
use Rattle.web_messages.specs.declared.route.PageRoute.TheVariants as page_route
use Rattle.web_messages.specs.declared.route.Route.{Route}
use Rattle.web_messages.specs.declared.route.Route.TheVariants as route
use Rattle.web_desk.specs.Edits.{edit_of, import_of}
use Rattle.web_desk.specs.declared.own_reply.OwnReply.{OwnReply}
use Rattle.web_desk.specs.declared.own_reply.OwnReply.TheVariants as own
use Rattle.web_messages.specs.Forms.{parameters_of, number_in, only_value, all_values}
use Rattle.web_messages.specs.Routes.{route_to, query_of}

-- the parameters were as they have to be, or the form is refused
abbrev pub formed : {X : Type 0} → Option X → (X → Request) → Result Request Refusal
formed None make = Err refusal.Form
formed (Some x) make = Ok (make x)

-- the request where there are no parameters
abbrev pub if_none : List Parameter → Result Request Refusal → Result Request Refusal
if_none [] call = call
if_none (p ∷ ps) call = Err refusal.Form

-- the word of a report
abbrev pub word_of : Command → List ℕ
word_of commands.Balance = codes "balance"
word_of commands.Print = codes "print"
word_of commands.Register = codes "register"
word_of commands.IncomeStatement = codes "incomestatement"
word_of commands.BalanceSheet = codes "balancesheet"
word_of commands.Accounts = codes "accounts"
word_of commands.Check = codes "check"

-- the words of a report: its command and each value of q
abbrev pub report_of : Command → List (List ℕ) → Request
report_of command words = Report (word_of command ∷ words)

-- What a message asks of the desk: GET of a report's path has the words after its command in its parameters q, in order; GET /download
-- has no parameter; POST /add has the entry as the one parameter of its body; POST /edit and POST /import have their forms in
-- it; and POST /upload has the base as the one parameter of its query, and its body is the text.
abbrev pub request_at : Route → List ℕ → List ℕ → Result Request Refusal
request_at (route.Report command) query body = formed (all_values (codes "q") (parameters_of query)) (report_of command)
request_at route.Download query body = if_none (parameters_of query) (Ok Download)
request_at route.Add query body = if_none (parameters_of query) (formed (only_value (codes "entry") (parameters_of body)) Add)
request_at route.Edit query body = if_none (parameters_of query) (edit_of (parameters_of body))
request_at route.Upload query body = formed (number_in (only_value (codes "base") (parameters_of query))) (λ base. Replace base body)
request_at route.Import query body = if_none (parameters_of query) (import_of (parameters_of body))
request_at (route.Page found) query body = Err refusal.Path
request_at (route.Refused refused) query body = Err refused

-- a request of the desk, or the reply that refuses it
abbrev pub or_own : Result Request Refusal → Result Request OwnReply
or_own (Ok request) = Ok request
or_own (Err refused) = Err (own.Refused refused)

-- where a path of the page leads, of a message that goes there
abbrev pub page_route_in : Route → Option PageRoute
page_route_in (route.Page found) = Some found
page_route_in (route.Report command) = None
page_route_in route.Download = None
page_route_in route.Add = None
page_route_in route.Edit = None
page_route_in route.Upload = None
page_route_in route.Import = None
page_route_in (route.Refused refused) = None

-- the page, where there are no parameters
abbrev pub shown_at : List ℕ → List ℕ → List Parameter → OwnReply
shown_at text policy [] = own.Page text policy
shown_at text policy (p ∷ ps) = own.Refused refusal.Form

-- the dry run of an addition or an import
abbrev pub dry_run_of : Request → Request
dry_run_of (Add entry) = Check entry
dry_run_of (Import name rules csv) = Preview name rules csv
dry_run_of other = other

abbrev pub dry_run_asked : Result Request Refusal → Result Request OwnReply
dry_run_asked (Ok request) = Ok (dry_run_of request)
dry_run_asked (Err refused) = Err (own.Refused refused)

-- What a message asks at a path of the page: GET / is answered with the page; POST /check asks for the dry run of POST /add, and
-- POST /preview for that of POST /import. Where there is no page, the paths lead nowhere.
abbrev pub page_at : Page → PageRoute → List ℕ → List ℕ → Result Request OwnReply
page_at pages.Absent found query body = Err (own.Refused refusal.Path)
page_at (pages.Shown text policy) page_route.Home query body = Err (shown_at text policy (parameters_of query))
page_at (pages.Shown text policy) page_route.Check query body = dry_run_asked (request_at route.Add query body)
page_at (pages.Shown text policy) page_route.Preview query body = dry_run_asked (request_at route.Import query body)
page_at (pages.Shown text policy) (page_route.Refused refused) query body = Err (own.Refused refused)

abbrev pub call_by : Page → Option PageRoute → List ℕ → List ℕ → Result Request Refusal → Result Request OwnReply
call_by page (Some found) query body asked = page_at page found query body
call_by page None query body asked = or_own asked

-- what a message asks of the desk, or what it is answered without
abbrev pub call_at : Page → Route → List ℕ → List ℕ → Result Request OwnReply
call_at page found query body = call_by page (page_route_in found) query body (request_at found query body)

abbrev pub call_of : Page → RequestHead → List ℕ → Result Request OwnReply
call_of page h body = call_at page (route_to h) (query_of h.target) body

-- the request reads the journal, and changes nothing
abbrev pub IsReading : Request → Type 0
IsReading (Report words) = Unit {0}
IsReading Download = Unit {0}
IsReading other = ⊥

-- what is asked, if anything is, is to read
abbrev pub OnlyReads : Result Request OwnReply → Type 0
OnlyReads (Ok request) = IsReading request
OnlyReads (Err own_reply) = Unit {0}
