-- What the words of `serve` ask for.
use Rattle.std.specs.Prelude.{ℕ, Bool, false, true, List, [], ◌∷◌, codes, map, Option, Some, None, Result, Ok, Err}
use Rattle.std.specs.Borrow.{Bor}
use Rattle.std.specs.Str.{bytes_eq}
use Rattle.clap.specs.Words.{App, Kinds, Row, Rule, fault_of, first_of, first_value, matches_of, new_app, new_rule, with_rule}
use Rattle.clap.specs.declared.builder.action.ArgAction.TheVariants.{SetTrue}
use Rattle.clap.specs.declared.error.kind.ErrorKind.{ErrorKind}
use Rattle.clap.specs.declared.error.kind.ErrorKind.TheVariants as kind
use Rattle.clap.specs.declared.parser.matches.Found.{Found}
use Rattle.command_words.specs.Chores.{allow_named}
use Rattle.command_words.specs.Limits.{number_in}
use Rattle.desk.specs.declared.request.Allow.{Allow}
use Rattle.desk.specs.declared.request.Allow.TheVariants as allow
use Rattle.desk_team.specs.declared.hosting.Address.{Address}
use Rattle.desk_team.specs.declared.hosting.Crew.{Crew}
use Rattle.serve_commands.specs.declared.answer.Serving.{Serving as Asked}
use Rattle.web_messages.specs.declared.page.Page.{Page}
use Rattle.web_messages.specs.declared.page.Page.TheVariants as pages
use Rattle.serve_line.specs.declared.matched.Said.{Said}
use Rattle.serve_line.specs.declared.words.NoReading.{NoReading}
use Rattle.serve_line.specs.declared.words.NoReading.TheVariants as no_reading

-- want of memory has no cause in the words
abbrev pub no_reading_cause : NoReading → Option NoReading
no_reading_cause no_reading.Usage = Some no_reading.Usage
no_reading_cause no_reading.Memory = None

-- words that are lent
abbrev pub lent_texts : List (Bor (List ℕ)) → List (List ℕ)
lent_texts = map (λ s. s.now)

-- ---- the command, as `clap` reads it

-- an option that takes one text
abbrev pub option_rule : List ℕ → Rule
option_rule name = record (new_rule name) { long = Some name }

-- a name that has to be written
abbrev pub store_rule : Rule
store_rule = record (new_rule (codes "store")) { required = true }

abbrev pub stored_app : App
stored_app = with_rule (new_app (codes "serve")) store_rule

abbrev pub with_option : App → List ℕ → App
with_option app name = with_rule app (option_rule name)

-- an option without a value
abbrev pub page_rule : Rule
page_rule = record (new_rule (codes "page")) { long = Some (codes "page"); action = Some SetTrue }

abbrev pub valued_app : App
valued_app = with_option (with_option (with_option (with_option (with_option stored_app
    (codes "host")) (codes "port")) (codes "allow")) (codes "workers")) (codes "connections")

abbrev pub serve_app : App
serve_app = with_rule valued_app page_rule

-- why `clap` refuses the words, and what it matches them to where it doesn't
unfoldable pub clap_faults : List (List ℕ) → Kinds
clap_faults words = fault_of serve_app words

unfoldable pub clap_rows : List (List ℕ) → List Row
clap_rows words = matches_of serve_app words

abbrev pub no_reading_of : ErrorKind → NoReading
no_reading_of kind.OutOfMemory = no_reading.Memory
no_reading_of _ = no_reading.Usage

abbrev pub rows_or_usage : Kinds → List Row → Result (List Row) NoReading
rows_or_usage [] rows = Ok rows
rows_or_usage (k ∷ ks) rows = Err no_reading.Usage

-- what `clap` matches the words to, or that it refuses them
unfoldable pub rows_by : List (List ℕ) → Result (List Row) NoReading
rows_by words = rows_or_usage (clap_faults words) (clap_rows words)

-- ---- what they say

-- the value of an option without one, which `clap` gives it: that it is written
abbrev pub asks_page : Option (List ℕ) → Bool
asks_page (Some value) = bytes_eq value (codes "true")
asks_page None = false

-- the first value of each name
abbrev pub said_of : List Row → Said
said_of rows = record {
  store = first_of (codes "store") rows;
  host = first_of (codes "host") rows;
  port = first_of (codes "port") rows;
  allow = first_of (codes "allow") rows;
  workers = first_of (codes "workers") rows;
  connections = first_of (codes "connections") rows;
  page = asks_page (first_of (codes "page") rows);
}

-- the same of what a parse found
abbrev pub said_in : Found → Said
said_in found = record {
  store = first_value found (codes "store");
  host = first_value found (codes "host");
  port = first_value found (codes "port");
  allow = first_value found (codes "allow");
  workers = first_value found (codes "workers");
  connections = first_value found (codes "connections");
  page = asks_page (first_value found (codes "page"));
}

abbrev pub said_or_usage : Result (List Row) NoReading → Result Said NoReading
said_or_usage (Ok rows) = Ok (said_of rows)
said_or_usage (Err e) = Err e

abbrev pub said_by : List (List ℕ) → Result Said NoReading
said_by words = said_or_usage (rows_by words)

-- ---- what that means

-- a number from 1 to a greatest one that is written, or the usual one where none is
abbrev pub number_or : ℕ → ℕ → Option (List ℕ) → Option ℕ
number_or usual greatest (Some text) = number_in greatest text
number_or usual greatest None = Some usual

abbrev pub host_or : Option (List ℕ) → List ℕ
host_or (Some host) = host
host_or None = codes "127.0.0.1"

abbrev pub port_or : Option (List ℕ) → Option ℕ
port_or written = number_or 5000 65535 written

abbrev pub allow_or : Option (List ℕ) → Option Allow
allow_or (Some word) = allow_named word
allow_or None = Some allow.Add

abbrev pub crew_with : Option ℕ → Option ℕ → Option Crew
crew_with (Some workers) (Some links) = Some (record { workers = workers; links = links })
crew_with (Some workers) None = None
crew_with None links = None

abbrev pub crew_or : Option (List ℕ) → Option (List ℕ) → Option Crew
crew_or workers links = crew_with (number_or 4 16 workers) (number_or 4294967295 4294967295 links)

-- a value that has a reading
abbrev pub read : {A : Type 0} → Option A → Result A NoReading
read (Some value) = Ok value
read None = Err no_reading.Usage

abbrev pub address_at : List ℕ → Result ℕ NoReading → Result Address NoReading
address_at host (Ok port) = Ok (record { host = host; port = port })
address_at host (Err e) = Err e

abbrev pub address_or : Option (List ℕ) → Option (List ℕ) → Result Address NoReading
address_or host port = address_at (host_or host) (read (port_or port))

-- the page that the program has, where it is asked for
abbrev pub page_if : Bool → Page → Page
page_if true page = page
page_if false page = pages.Absent

-- all of it; each without a reading is one of the words
abbrev pub asked_with : Page → Result (List ℕ) NoReading → Result Address NoReading → Result Allow NoReading → Result Crew NoReading → Result Asked NoReading
asked_with page (Ok store) (Ok address) (Ok level) (Ok crew) = Ok (record { store = store; address = address; allow = level; crew = crew; page = page })
asked_with page (Ok store) (Ok address) (Ok level) (Err e) = Err e
asked_with page (Ok store) (Ok address) (Err e) crew = Err e
asked_with page (Ok store) (Err e) level crew = Err e
asked_with page (Err e) address level crew = Err e

abbrev pub asked_by : Page → Said → Result Asked NoReading
asked_by page said =
    asked_with (page_if said.page page) (read said.store) (address_or said.host said.port) (read (allow_or said.allow)) (read (crew_or said.workers said.connections))

abbrev pub asked_or_usage : Page → Result Said NoReading → Result Asked NoReading
asked_or_usage page (Ok said) = asked_by page said
asked_or_usage page (Err e) = Err e

-- what the words ask for, the first of which is `serve`, of a program that has this page
abbrev pub serve_read : Page → List (List ℕ) → Result Asked NoReading
serve_read page words = asked_or_usage page (said_by words)

-- ---- which words are those of `serve`

abbrev pub is_serve : List (List ℕ) → Bool
is_serve [] = false
is_serve (word ∷ words) = bytes_eq word (codes "serve")
