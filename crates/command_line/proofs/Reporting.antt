-- What a command answers to a text that was read, or not.
use Rattle.std.proofs.Common.{◌≡◌, ◌≢◌, inl, inr, ℕ, Bool, true, false, List, Option, Some, None, Result, Ok, Err, IfErr, IfSome, OnOk, IsTrue, if◌then◌else◌, refl, ap, sym, subst}
use Rattle.std.specs.Option.{option_map}
use Rattle.hl_base.specs.Causes.{Rose}
use Rattle.book_commands.specs.Answers.{Finds, MakerStays, TellsMaker, TellsWork, Telling, WorkRule}
use Rattle.book_commands.specs.Works.{words_of}
use Rattle.book_commands.specs.declared.work.Work.{Work}
use Rattle.book_commands.proofs.Answering.{maker_so}
use Rattle.refusals.specs.Outcomes.{Outcome, outcome_of}
use Rattle.refusals.specs.Refusing.{IsJudgedStatus, IsOfReport}
use Rattle.refusals.specs.declared.refusal.Refusal.{Refusal}
use Rattle.refusals.specs.declared.refusal.Refusal.TheVariants as refusal
use Rattle.command_words.specs.declared.task.Origin.{Origin}
use Rattle.command_words.specs.declared.task.Origin.TheVariants as origins
use Rattle.command_words.specs.declared.task.TextTask.{TextTask}
use Rattle.command_line.specs.Answers.{FindsText, IsOfAnswer, IsOfFile, IsOfInput, IsOfSource, IsOfStore, IsTextStatus}
use Rattle.command_line.specs.Runs.{AnswersText, ReadsText}
use Rattle.command_line.specs.Scenes.{FilesStay, IsReadWhole, OtherStays, OutputsStay, RuleIn, Scene, ShelfStays, Soundness, SourceIsSound, SourceRose, TellsIn, telling, text_in, year_in}
use Rattle.command_line.specs.Sources.{judge_within, judged, store_under, text_under, within_bytes}

abbrev failed : Refusal → Result (List ℕ) Refusal
failed r = Err r

-- ---- the text of the input, of a file or of a store

file_found : (told : Bool) (text : Result (List ℕ) Outcome) (r : Result (List ℕ) Refusal) → (IsTrue told → FindsText r text)
    → IfSome (if told then Some text else None) (FindsText r)
file_found true text r h = h refl
file_found false text r h = tt

input_found : (left : Option (List ℕ)) (r : Result (List ℕ) Refusal) → IfSome left (λ text. FindsText r (within_bytes text))
    → IfSome (option_map within_bytes left) (FindsText r)
input_found None r h = tt
input_found (Some text) r h = h

nothing_read : {A : Type 0} (r : Result A Refusal) → OnOk r (Unit {0})
nothing_read (Ok x) = tt
nothing_read (Err e) = tt

-- no disk is read but that of a store
no_disk_input : (r : Result (List ℕ) Refusal) → IfErr r IsOfInput → r ≡ failed refusal.DiskFault → ⊥
no_disk_input (Ok text) k e = cc
no_disk_input (Err (refusal.Line status line)) k e = cc
no_disk_input (Err (refusal.Pattern what line)) k e = k
no_disk_input (Err refusal.ReadFault) k e = cc
no_disk_input (Err refusal.DiskFault) k e = k
no_disk_input (Err refusal.Memory) k e = cc

no_disk_file : (r : Result (List ℕ) Refusal) → IfErr r IsOfFile → r ≡ failed refusal.DiskFault → ⊥
no_disk_file (Ok text) k e = cc
no_disk_file (Err (refusal.Line status line)) k e = cc
no_disk_file (Err (refusal.Pattern what line)) k e = k
no_disk_file (Err refusal.ReadFault) k e = cc
no_disk_file (Err refusal.DiskFault) k e = k
no_disk_file (Err refusal.Memory) k e = cc

module _ (origin : Origin) (r : Result (List ℕ) Refusal) (old new : Scene) where
  pub input_reads : origin ≡ origins.Input → IfSome old.left (λ text. FindsText r (within_bytes text)) → IfErr r IsOfInput
      → OnOk r (IsReadWhole origins.Input old new) → (r ≡ failed refusal.ReadFault → SourceRose origins.Input old new) → ShelfStays old new
      → FilesStay origins.Input old new → OutputsStay old new → MakerStays (telling old new) → ReadsText origin r old new
  input_reads is found kind whole rose other files outputs maker =
      let F : Origin → Type 0 = λ o. ReadsText o r old new in
      subst F (sym is) (record {
        found = input_found old.left r found;
        kind = kind;
        whole = whole;
        rose = rose;
        disk_rose = λ e. absurd (no_disk_input r kind e);
        other = other;
        files = files;
        outputs = outputs;
        maker = maker;
      })

  pub file_reads : (name : List ℕ) → origin ≡ origins.File name → (IsTrue old.files_told → FindsText r (text_under name (old.file name))) → IfErr r IsOfFile
      → (r ≡ failed refusal.ReadFault → SourceRose (origins.File name) old new) → OtherStays (origins.File name) old new
      → FilesStay (origins.File name) old new → OutputsStay old new → MakerStays (telling old new) → ReadsText origin r old new
  file_reads name is found kind rose other files outputs maker =
      let F : Origin → Type 0 = λ o. ReadsText o r old new in
      subst F (sym is) (record {
        found = file_found old.files_told (text_under name (old.file name)) r found;
        kind = kind;
        whole = nothing_read r;
        rose = rose;
        disk_rose = λ e. absurd (no_disk_file r kind e);
        other = other;
        files = files;
        outputs = outputs;
        maker = maker;
      })

  pub store_reads : (name : List ℕ) → origin ≡ origins.Store name → (IsTrue old.files_told → FindsText r (store_under old.file name)) → IfErr r IsOfStore
      → (r ≡ failed refusal.ReadFault → SourceRose (origins.Store name) old new) → (r ≡ failed refusal.DiskFault → Rose old.disk_faults new.disk_faults)
      → OtherStays (origins.Store name) old new → FilesStay (origins.Store name) old new → OutputsStay old new → MakerStays (telling old new)
      → ReadsText origin r old new
  store_reads name is found kind rose disk_rose other files outputs maker =
      let F : Origin → Type 0 = λ o. ReadsText o r old new in
      subst F (sym is) (record {
        found = file_found old.files_told (store_under old.file name) r found;
        kind = kind;
        whole = nothing_read r;
        rose = rose;
        disk_rose = disk_rose;
        other = other;
        files = files;
        outputs = outputs;
        maker = maker;
      })

-- a sound source is read
pub file_sound : (origin : Origin) (name : List ℕ) (r : Result (List ℕ) Refusal) (sound : Soundness) → origin ≡ origins.File name
    → (sound.shelf → r ≢ failed refusal.ReadFault) → SourceIsSound origin sound → r ≢ failed refusal.ReadFault
file_sound origin name r sound is h k =
    let F : Origin → Type 0 = λ o. SourceIsSound o sound in
    h (subst F is k)

pub store_sound : (origin : Origin) (name : List ℕ) (r : Result (List ℕ) Refusal) (sound : Soundness) → origin ≡ origins.Store name
    → (sound.shelf → r ≢ failed refusal.ReadFault) → SourceIsSound origin sound → r ≢ failed refusal.ReadFault
store_sound origin name r sound is h k =
    let F : Origin → Type 0 = λ o. SourceIsSound o sound in
    h (subst F is k)

-- ---- what a command answers to it

judge_refused : (work : Work) (day : ℕ) (year : Option ℕ) (r : Refusal) (text : Option (Result (List ℕ) Outcome)) → IfSome text (FindsText (Err r))
    → IfSome (option_map (judged day year work) text) (Finds (Err r))
judge_refused work day year r None h = tt
judge_refused work day year (refusal.Line status line) (Some text) h = ap (λ (x : Result (List ℕ) Outcome). outcome_of (judged day year work x)) h
judge_refused work day year (refusal.Pattern what line) (Some text) h = absurd h
judge_refused work day year refusal.ReadFault (Some text) h = tt
judge_refused work day year refusal.DiskFault (Some text) h = tt
judge_refused work day year refusal.Memory (Some text) h = tt

judge_found : (work : Work) (day : ℕ) (year : Option ℕ) (text : List ℕ) (r : Result (List ℕ) Refusal) (told : Option (Result (List ℕ) Outcome)) → IfSome told (λ t. t ≡ Ok text)
    → Finds r (judge_within day year work text) → IfSome (option_map (judged day year work) told) (Finds r)
judge_found work day year text r None h f = tt
judge_found work day year text r (Some t) h f =
    let F : Result (List ℕ) Outcome → Type 0 = λ x. Finds r (judged day year work x) in
    subst F (sym h) f

-- no pattern is refused by a source
no_pattern : (origin : Origin) (r : Refusal) → IsOfSource origin r → IsOfAnswer origin (Err r)
no_pattern origins.Input (refusal.Line status line) k = k
no_pattern origins.Input (refusal.Pattern what line) k = absurd k
no_pattern origins.Input refusal.ReadFault k = k
no_pattern origins.Input refusal.DiskFault k = k
no_pattern origins.Input refusal.Memory k = k
no_pattern (origins.File name) (refusal.Line status line) k = k
no_pattern (origins.File name) (refusal.Pattern what line) k = absurd k
no_pattern (origins.File name) refusal.ReadFault k = k
no_pattern (origins.File name) refusal.DiskFault k = k
no_pattern (origins.File name) refusal.Memory k = k
no_pattern (origins.Store name) (refusal.Line status line) k = k
no_pattern (origins.Store name) (refusal.Pattern what line) k = absurd k
no_pattern (origins.Store name) refusal.ReadFault k = k
no_pattern (origins.Store name) refusal.DiskFault k = k
no_pattern (origins.Store name) refusal.Memory k = k

maker_of : (origin : Origin) (day : ℕ) (words : List (List ℕ)) (OfRule : ℕ → Type 0) (t : Telling) (r : Refusal) → IsOfSource origin r → MakerStays t
    → TellsMaker day words OfRule t (Err r)
maker_of origin day words OfRule t (refusal.Line status line) k s = s
maker_of origins.Input day words OfRule t (refusal.Pattern what line) k s = absurd k
maker_of (origins.File name) day words OfRule t (refusal.Pattern what line) k s = absurd k
maker_of (origins.Store name) day words OfRule t (refusal.Pattern what line) k s = absurd k
maker_of origin day words OfRule t refusal.ReadFault k s = s
maker_of origin day words OfRule t refusal.DiskFault k s = s
maker_of origin day words OfRule t refusal.Memory k s = inl s

-- a text that is there is never absent
text_status : (status : ℕ) → IsJudgedStatus status → IsTextStatus status
text_status status (inl e) = inl e
text_status status (inr e) = inr (inl e)

judged_status : (origin : Origin) (status : ℕ) (line : List ℕ) → IsJudgedStatus status → IsOfAnswer origin (Err (refusal.Line status line))
judged_status origins.Input status line k = k
judged_status (origins.File name) status line k = text_status status k
judged_status (origins.Store name) status line k = text_status status k

judged_kind : (origin : Origin) (r : Result (List ℕ) Refusal) → IsOfReport r → IsOfAnswer origin r
judged_kind origin (Ok output) k = tt
judged_kind origin (Err (refusal.Line status line)) k = judged_status origin status line k
judged_kind origin (Err (refusal.Pattern what line)) k = k
judged_kind origin (Err refusal.ReadFault) k = absurd k
judged_kind origin (Err refusal.DiskFault) k = absurd k
judged_kind origin (Err refusal.Memory) k = tt

-- the text wasn't read
pub unread_report : (given : TextTask) (day : ℕ) (r : Refusal) (old new : Scene) → ReadsText given.origin (Err r) old new → AnswersText given day (Err r) old new
unread_report given day r old new t = record {
  found = judge_refused given.work day (year_in given day) r (text_in given.origin old) t.found;
  kind = no_pattern given.origin r t.kind;
  whole = tt;
  rose = t.rose;
  disk_rose = t.disk_rose;
  other = t.other;
  files = t.files;
  outputs = t.outputs;
  maker = maker_of given.origin day (words_of given.work) (RuleIn given day old (telling old new)) (telling old new) r t.kind t.maker;
}

-- a scene in which what the maker tells alone has changed
abbrev pub with_maker : Scene → ℕ → Option (List ℕ) → Scene
with_maker s refusals last_refused = record s { refusals = refusals; last_refused = last_refused }

-- what it tells since the text was read it tells since before, and of a rule with the text that was read
told_on : (given : TextTask) (day : ℕ) (text : List ℕ) (r : Result (List ℕ) Refusal) (old mid : Scene) (refusals : ℕ) (last : Option (List ℕ))
    → IfSome (text_in given.origin old) (λ told. told ≡ Ok text) → MakerStays (telling old mid)
    → TellsWork day (year_in given day) given.work text (record { count_before = mid.refusals; count_now = refusals; last_before = mid.last_refused; last_now = last }) r
    → TellsIn given day old (with_maker mid refusals last) r
told_on given day text r old mid refusals last found s h =
    let t : ℕ → Option (List ℕ) → Telling = λ n l. record { count_before = n; count_now = refusals; last_before = l; last_now = last } in
    let F : ℕ → Type 0 = λ n. TellsWork day (year_in given day) given.work text (t n mid.last_refused) r in
    let G : Option (List ℕ) → Type 0 = λ l. TellsWork day (year_in given day) given.work text (t old.refusals l) r in
    let now : Telling = t old.refusals old.last_refused in
    maker_so day (words_of given.work) (WorkRule day (year_in given day) given.work text now) (RuleIn given day old now) now
    (λ line told. (text, found, told)) r (subst G s.told (subst F s.count h))

on_ok : {A : Type 0} {P : Type 0} (r : Result A Refusal) → P → OnOk r P
on_ok (Ok x) h = h
on_ok (Err e) h = tt

whole_of : (origin : Origin) (old mid : Scene) (refusals : ℕ) (last : Option (List ℕ)) → IsReadWhole origin old mid → IsReadWhole origin old (with_maker mid refusals last)
whole_of origins.Input old mid refusals last h = h
whole_of (origins.File name) old mid refusals last h = tt
whole_of (origins.Store name) old mid refusals last h = tt

other_of : (origin : Origin) (old mid : Scene) (refusals : ℕ) (last : Option (List ℕ)) → OtherStays origin old mid → OtherStays origin old (with_maker mid refusals last)
other_of origins.Input old mid refusals last h = h
other_of (origins.File name) old mid refusals last h = h
other_of (origins.Store name) old mid refusals last h = h

files_of : (origin : Origin) (old mid : Scene) (refusals : ℕ) (last : Option (List ℕ)) → FilesStay origin old mid → FilesStay origin old (with_maker mid refusals last)
files_of origins.Input old mid refusals last h = h
files_of (origins.File name) old mid refusals last h = h
files_of (origins.Store name) old mid refusals last h = h

-- what is asked of a text reads nothing
pub never_read : (r : Result (List ℕ) Refusal) → IsOfReport r → r ≡ failed refusal.ReadFault → ⊥
never_read (Ok output) k e = cc
never_read (Err (refusal.Line status line)) k e = cc
never_read (Err (refusal.Pattern what line)) k e = cc
never_read (Err refusal.ReadFault) k e = k
never_read (Err refusal.DiskFault) k e = k
never_read (Err refusal.Memory) k e = cc

never_disk : (r : Result (List ℕ) Refusal) → IsOfReport r → r ≡ failed refusal.DiskFault → ⊥
never_disk (Ok output) k e = cc
never_disk (Err (refusal.Line status line)) k e = cc
never_disk (Err (refusal.Pattern what line)) k e = cc
never_disk (Err refusal.ReadFault) k e = k
never_disk (Err refusal.DiskFault) k e = k
never_disk (Err refusal.Memory) k e = cc

-- the text was read, and what is asked of it was answered
pub read_report : (given : TextTask) (day : ℕ) (text : List ℕ) (r : Result (List ℕ) Refusal) (old mid : Scene) (refusals : ℕ) (last : Option (List ℕ))
    → ReadsText given.origin (Ok text) old mid → Finds r (judge_within day (year_in given day) given.work text) → IsOfReport r
    → TellsWork day (year_in given day) given.work text (record { count_before = mid.refusals; count_now = refusals; last_before = mid.last_refused; last_now = last }) r
    → AnswersText given day r old (with_maker mid refusals last)
read_report given day text r old mid refusals last t found kind maker = record {
  found = judge_found given.work day (year_in given day) text r (text_in given.origin old) t.found found;
  kind = judged_kind given.origin r kind;
  whole = on_ok r (whole_of given.origin old mid refusals last t.whole);
  rose = λ e. absurd (never_read r kind e);
  disk_rose = λ e. absurd (never_disk r kind e);
  other = other_of given.origin old mid refusals last t.other;
  files = files_of given.origin old mid refusals last t.files;
  outputs = record { output = t.outputs.output; output_faults = t.outputs.output_faults; error = t.outputs.error; error_faults = t.outputs.error_faults };
  maker = told_on given day text r old mid refusals last t.found t.maker maker;
}
