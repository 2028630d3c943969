-- What the objects of a run tell.
use Rattle.std.specs.Prelude.{◌≡◌, ◌≢◌, ◌⊎◌, ℕ, Bool, IsTrue, List, [], Option, Some, None, IfSome, Result, Ok, if◌then◌else◌}
use Rattle.std.specs.Option.{option_map}
use Rattle.hl_base.specs.Causes.{Rose}
use Rattle.hl_base.specs.declared.outside.Source.{Ghosts as Inputs}
use Rattle.hl_base.specs.declared.outside.Sink.{Ghosts as Outputs}
use Rattle.hl_base.specs.declared.shelf.Shelf.{Ghosts as Shelves}
use Rattle.query_terms.specs.declared.making.Maker.{Ghosts as Makers}
use Rattle.book_commands.specs.Answers.{MakerRefused, MayRefuse, Telling, TellsMaker, WorkRule}
use Rattle.book_commands.specs.Works.{words_of}
use Rattle.refusals.specs.Outcomes.{Judged, Outcome}
use Rattle.refusals.specs.declared.refusal.PatternOf.{PatternOf}
use Rattle.refusals.specs.declared.refusal.Refusal.{Refusal}
use Rattle.command_line.specs.declared.outside.Outside.{Outside}
use Rattle.command_words.specs.declared.task.Origin.{Origin}
use Rattle.command_words.specs.declared.task.Origin.TheVariants as origins
use Rattle.command_words.specs.declared.task.TextTask.{TextTask}
use Rattle.store_text.specs.Shelved.{image_under, second_name}
use Rattle.command_line.specs.Sources.{default_year, judged, store_under, text_under, within_bytes}

-- what the objects of a run tell: the bytes that are left of the input and those that were written to the output and to
-- the error output, each with its count of faults; the bytes under each name, whether they are told, how many calls of the
-- shelf failed and the name of the last of these, and how many calls of its disks; and how many patterns the maker refused, and
-- the last of these
pub record Scene : Type 0 where
  pub left : Option (List ℕ)
  pub read_faults : ℕ
  pub output : Option (List ℕ)
  pub output_faults : ℕ
  pub error : Option (List ℕ)
  pub error_faults : ℕ
  pub files_told : Bool
  pub file : List ℕ → Option (List ℕ)
  pub shelf_faults : ℕ
  pub last_failed : Option (List ℕ)
  pub disk_faults : ℕ
  pub refusals : ℕ
  pub last_refused : Option (List ℕ)

abbrev pub scene : {J O E S D M : Type 0} → Inputs J → Outputs O → Outputs E → Shelves S D → Makers M → Outside J O E S M → Scene
scene j o e s m outside = record {
  left = j.left outside.streams.input;
  read_faults = j.faults outside.streams.input;
  output = o.written outside.streams.output;
  output_faults = o.faults outside.streams.output;
  error = e.written outside.err;
  error_faults = e.faults outside.err;
  files_told = (s.tells outside.shelf).files;
  file = s.file outside.shelf;
  shelf_faults = s.faults outside.shelf;
  last_failed = s.last_failed outside.shelf;
  disk_faults = s.disk_faults outside.shelf;
  refusals = m.refusals outside.maker;
  last_refused = m.last_refused outside.maker;
}

-- what a maker of patterns tells, before and after
abbrev pub telling : Scene → Scene → Telling
telling old new = record {
  count_before = old.refusals;
  count_now = new.refusals;
  last_before = old.last_refused;
  last_now = new.last_refused;
}

-- the text of the input, or that of a file or of a store, where files are told
abbrev pub text_in : Origin → Scene → Option (Result (List ℕ) Outcome)
text_in origins.Input s = option_map within_bytes s.left
text_in (origins.File name) s = if s.files_told then Some (text_under name (s.file name)) else None
text_in (origins.Store name) s = if s.files_told then Some (store_under s.file name) else None

abbrev pub year_in : TextTask → ℕ → Option ℕ
year_in task day = default_year task.origin day

-- what is judged of it on a day, or its refusal
abbrev pub judged_in : TextTask → ℕ → Scene → Option Judged
judged_in task day s = option_map (judged day (year_in task day) task.work) (text_in task.origin s)

-- a pattern of the rule at a line was refused, over a text which is that of the source where this is told
abbrev pub RuleIn : TextTask → ℕ → Scene → Telling → ℕ → Type 0
RuleIn task day s t line =
    (text : List ℕ) × IfSome (text_in task.origin s) (λ told. told ≡ Ok text) × WorkRule day (year_in task day) task.work text t line

-- What the maker tells of patterns: it refused one of what is asked; or none but one that is told; or what is answered says
-- which.
abbrev pub RefusedIn : TextTask → ℕ → Scene → Scene → PatternOf → Type 0
RefusedIn task day old new what = MakerRefused day (words_of task.work) (RuleIn task day old (telling old new)) (telling old new) what

abbrev pub MayRefuseIn : TextTask → ℕ → Scene → Scene → Type 0
MayRefuseIn task day old new = MayRefuse day (words_of task.work) (RuleIn task day old (telling old new)) (telling old new)

abbrev pub TellsIn : TextTask → ℕ → Scene → Scene → Result (List ℕ) Refusal → Type 0
TellsIn task day old new result = TellsMaker day (words_of task.work) (RuleIn task day old (telling old new)) (telling old new) result

-- the input was read to its end, where it is the source
abbrev pub IsReadWhole : Origin → Scene → Scene → Type 0
IsReadWhole origins.Input old new = IfSome old.left (λ _. new.left ≡ Some [])
IsReadWhole (origins.File name) old new = Unit {0}
IsReadWhole (origins.Store name) old new = Unit {0}

-- the count of the source's failed calls rose: that of the input, or that of the shelf, which then tells this name, or one of
-- the two files of the store
abbrev pub SourceRose : Origin → Scene → Scene → Type 0
SourceRose origins.Input old new = Rose old.read_faults new.read_faults
SourceRose (origins.File name) old new = Rose old.shelf_faults new.shelf_faults × (new.last_failed ≡ Some name)
SourceRose (origins.Store name) old new = Rose old.shelf_faults new.shelf_faults
    × ((new.last_failed ≡ Some name) ⊎ (new.last_failed ≡ Some (second_name name)))

-- what the input tells stays, and what the shelf tells of calls that failed
abbrev pub InputStays : Scene → Scene → Type 0
InputStays old new = (new.left ≡ old.left) × (new.read_faults ≡ old.read_faults)

abbrev pub ShelfStays : Scene → Scene → Type 0
ShelfStays old new = (new.shelf_faults ≡ old.shelf_faults) × (new.last_failed ≡ old.last_failed) × (new.disk_faults ≡ old.disk_faults)

-- what isn't the source stays: the shelf, the input and the disks, or the input
abbrev pub OtherStays : Origin → Scene → Scene → Type 0
OtherStays origins.Input old new = ShelfStays old new
OtherStays (origins.File name) old new = InputStays old new × (new.disk_faults ≡ old.disk_faults)
OtherStays (origins.Store name) old new = InputStays old new

-- Each file stays as it was, but those of a store that is read: its image, or the want of one, stays.
abbrev pub FilesStay : Origin → Scene → Scene → Type 0
FilesStay (origins.Store name) old new =
    ((other : List ℕ) → other ≢ name → other ≢ second_name name → new.file other ≡ old.file other)
    × (IsTrue old.files_told → image_under new.file name ≡ image_under old.file name)
FilesStay origin old new = (other : List ℕ) → new.file other ≡ old.file other

-- nothing was written, and nothing said to have been
pub record OutputsStay (old new : Scene) : Type 0 where
  pub output : new.output ≡ old.output
  pub output_faults : new.output_faults ≡ old.output_faults
  pub error : new.error ≡ old.error
  pub error_faults : new.error_faults ≡ old.error_faults

-- what has to hold of the objects for none of their calls to fail: of the input and of the shelf, and of each output for so
-- many bytes
pub record Soundness : Type 1 where
  pub input : Type 0
  pub shelf : Type 0
  pub output : ℕ → Type 0
  pub error : ℕ → Type 0

abbrev pub soundness : {J O E S D M : Type 0} → Inputs J → Outputs O → Outputs E → Shelves S D → Outside J O E S M → Soundness
soundness j o e s outside = record {
  input = j.IsSound outside.streams.input;
  shelf = s.IsSound outside.shelf;
  output = λ n. o.HasRoom outside.streams.output n;
  error = λ n. e.HasRoom outside.err n;
}

-- of the source
abbrev pub SourceIsSound : Origin → Soundness → Type 0
SourceIsSound origins.Input sound = sound.input
SourceIsSound (origins.File name) sound = sound.shelf
SourceIsSound (origins.Store name) sound = sound.shelf
