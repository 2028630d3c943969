-- What a command may answer to a text.
use Rattle.std.specs.Prelude.{◌≡◌, ◌⊎◌, ℕ, List, Option, IsOk, Result, Ok, Err}
use Rattle.balancing.specs.Load.{load}
use Rattle.book.specs.declared.item.Book.{Book}
use Rattle.book.specs.declared.item.Placed.{Placed}
use Rattle.journal_reader.specs.Items.{items_in}
use Rattle.plan_commands.specs.Telling.{Never, RefusesLast}
use Rattle.query.specs.Made.{IsPatternRefused}
use Rattle.query_terms.specs.Making.{Stays}
use Rattle.query_terms.specs.declared.making.Maker.{Ghosts as Makers}
use Rattle.refusals.specs.Outcomes.{Judged, outcome_of, refused, written}
use Rattle.refusals.specs.Refusing.{IsJudgedStatus}
use Rattle.refusals.specs.declared.refusal.PatternOf.{PatternOf}
use Rattle.refusals.specs.declared.refusal.PatternOf.TheVariants as pattern_of
use Rattle.refusals.specs.declared.refusal.Refusal.{Refusal}
use Rattle.refusals.specs.declared.refusal.Refusal.TheVariants as refusal
use Rattle.report_commands.specs.declared.asked.Asked.{Asked}
use Rattle.book_commands.specs.Works.{words_of}
use Rattle.book_commands.specs.declared.work.Work.{Work}
use Rattle.book_commands.specs.declared.work.Work.TheVariants as works

-- a text was refused so, before patterns are looked at
abbrev pub RefusesText : Refusal → Judged → Type 0
RefusesText (refusal.Line status line) told = (told ≡ Err (refused status line)) × IsJudgedStatus status
RefusesText (refusal.Pattern what line) told = ⊥
RefusesText refusal.ReadFault told = ⊥
RefusesText refusal.DiskFault told = ⊥
RefusesText refusal.Memory told = Unit {0}

-- What was found is what is told, or its refusal; or a pattern isn't built, and the text isn't refused.
abbrev pub Finds : Result (List ℕ) Refusal → Judged → Type 0
Finds (Ok output) told = told ≡ Ok (written output)
Finds (Err (refusal.Line status line)) told = outcome_of told ≡ refused status line
Finds (Err (refusal.Pattern what line)) told = IsOk told
Finds (Err refusal.ReadFault) told = Unit {0}
Finds (Err refusal.DiskFault) told = Unit {0}
Finds (Err refusal.Memory) told = Unit {0}

-- no pattern was refused, and nothing read
abbrev pub IsQuiet : Result (List ℕ) Refusal → Type 0
IsQuiet (Ok output) = Unit {0}
IsQuiet (Err (refusal.Line status line)) = Unit {0}
IsQuiet (Err (refusal.Pattern what line)) = ⊥
IsQuiet (Err refusal.ReadFault) = ⊥
IsQuiet (Err refusal.DiskFault) = ⊥
IsQuiet (Err refusal.Memory) = Unit {0}

-- ---- patterns that aren't built

-- what a maker of patterns tells, before and after
pub record Telling : Type 0 where
  pub count_before : ℕ
  pub count_now : ℕ
  pub last_before : Option (List ℕ)
  pub last_now : Option (List ℕ)

abbrev pub told_by : {M : Type 0} → Makers M → M → M → Telling
told_by m old new = record {
  count_before = m.refusals old;
  count_now = m.refusals new;
  last_before = m.last_refused old;
  last_now = m.last_refused new;
}

abbrev pub MakerStays : Telling → Type 0
MakerStays t = Stays t.count_before t.count_now t.last_before t.last_now

-- it refused a pattern of one of these words, or of a rule at a line, of which more is said
abbrev pub MakerRefused : ℕ → List (List ℕ) → (ℕ → Type 0) → Telling → PatternOf → Type 0
MakerRefused day words OfRule t (pattern_of.Word word) = IsPatternRefused day words word t.count_before t.count_now t.last_now
MakerRefused day words OfRule t (pattern_of.Rule line) = OfRule line

-- it refused no pattern but one that is told
abbrev pub MayRefuse : ℕ → List (List ℕ) → (ℕ → Type 0) → Telling → Type 0
MayRefuse day words OfRule t = MakerStays t ⊎ ((what : PatternOf) × MakerRefused day words OfRule t what)

abbrev pub TellsMaker : ℕ → List (List ℕ) → (ℕ → Type 0) → Telling → Result (List ℕ) Refusal → Type 0
TellsMaker day words OfRule t (Ok output) = MakerStays t
TellsMaker day words OfRule t (Err (refusal.Line status line)) = MakerStays t
TellsMaker day words OfRule t (Err (refusal.Pattern what line)) = MakerRefused day words OfRule t what
TellsMaker day words OfRule t (Err refusal.ReadFault) = MakerStays t
TellsMaker day words OfRule t (Err refusal.DiskFault) = MakerStays t
TellsMaker day words OfRule t (Err refusal.Memory) = MayRefuse day words OfRule t

-- what asks for words alone
abbrev pub TellsWords : ℕ → List (List ℕ) → Telling → Result (List ℕ) Refusal → Type 0
TellsWords day words t r = TellsMaker day words Never t r

-- a report over the items of a text and their book refused a pattern of the rule at a line
abbrev pub ReportRule : Asked → ℕ → List Placed → Book → Telling → ℕ → Type 0
ReportRule asked day items book t line = RefusesLast asked day items book line t.count_before t.count_now t.last_now

abbrev pub TellsReport : Asked → ℕ → List Placed → Book → Telling → Result (List ℕ) Refusal → Type 0
TellsReport asked day items book t r = TellsMaker day asked.words (ReportRule asked day items book t) t r

-- one over a text did so, which begins in a year, and is read and loaded
pub record TextRule (asked : Asked) (day : ℕ) (year : Option ℕ) (text : List ℕ) (t : Telling) (line : ℕ) : Type 0 where
  pub items : List Placed
  pub read : items_in year text ≡ Ok items
  pub book : Book
  pub loaded : load items ≡ Ok book
  pub rule : ReportRule asked day items book t line

-- what is asked of a text refused a pattern of the rule at a line: no other command than a report looks at rules
abbrev pub WorkRule : ℕ → Option ℕ → Work → List ℕ → Telling → ℕ → Type 0
WorkRule day year (works.Report asked) text t line = TextRule asked day year text t line
WorkRule day year other text t line = ⊥

abbrev pub TellsWork : ℕ → Option ℕ → Work → List ℕ → Telling → Result (List ℕ) Refusal → Type 0
TellsWork day year work text t r = TellsMaker day (words_of work) (WorkRule day year work text t) t r
