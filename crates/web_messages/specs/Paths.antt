-- What the paths of a connection name.
use Rattle.std.specs.Prelude.{◌≡◌, ℕ, List, [], false, Option, Some, None, if◌then◌else◌, codes}
use Rattle.std.specs.Str.{bytes_eq}
use Rattle.matchit.specs.Rows.{RowsOf}
use Rattle.matchit.specs.Route.{Scan, outside}
use Rattle.matchit.specs.Router.{RouteOf}
use Rattle.matchit.specs.Seek.{first}
use Rattle.web_messages.specs.declared.resource.Resource.{Resource}
use Rattle.web_messages.specs.declared.resource.Resource.TheVariants.{Report, Download, Add, Edit, Upload, Import, Page, Check, Preview}
use Rattle.report_options.specs.declared.command.Command.TheVariants.{Balance, Print, Register, IncomeStatement, BalanceSheet, Accounts}

-- what a path names, if it leads somewhere
abbrev pub resource_at : List ℕ → Option Resource
resource_at path =
    if bytes_eq path (codes "/balance") then Some (Report Balance)
    else if bytes_eq path (codes "/journal") then Some (Report Print)
    else if bytes_eq path (codes "/register") then Some (Report Register)
    else if bytes_eq path (codes "/incomestatement") then Some (Report IncomeStatement)
    else if bytes_eq path (codes "/balancesheet") then Some (Report BalanceSheet)
    else if bytes_eq path (codes "/accounts") then Some (Report Accounts)
    else if bytes_eq path (codes "/download") then Some Download
    else if bytes_eq path (codes "/add") then Some Add
    else if bytes_eq path (codes "/edit") then Some Edit
    else if bytes_eq path (codes "/upload") then Some Upload
    else if bytes_eq path (codes "/import") then Some Import
    else if bytes_eq path (codes "/") then Some Page
    else if bytes_eq path (codes "/check") then Some Check
    else if bytes_eq path (codes "/preview") then Some Preview
    else None

-- what a route that was found leads to
abbrev pub found_at : Option (RouteOf Resource) → Option Resource
found_at None = None
found_at (Some route) = Some route.value

-- each path finds among these routes what it names
abbrev pub FindsEach : RowsOf (RouteOf Resource) → Type 0
FindsEach rows = (path : List ℕ) → found_at (first rows path) ≡ resource_at path

-- a route's text that is read as itself
abbrev pub literal_scan : List ℕ → Scan
literal_scan text = record { pattern = text; text = text; names = []; name_start = 0; catch_all = false; mode = outside }

-- a route that is a path itself
abbrev pub literal_route : List ℕ → Resource → RouteOf Resource
literal_route path resource = record { pattern = path; text = path; names = []; value = resource }
