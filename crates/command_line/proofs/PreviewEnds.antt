-- What is said of an import that isn't stored.
use Rattle.std.proofs.Common.{◌≡◌, ◌⊎◌, inl, inr, ℕ, ◌+◌, ◌≤◌, Bool, false, List, [], Option, None, Some, Result, Ok, Err, IfErr, nat_lt, length, if◌then◌else◌, refl, sym, ◌∙◌, ap, subst, arith}
use Rattle.std.proofs.lemmas.Bool.Decides.{nat_tests}
use Rattle.hl_base.specs.Causes.{Rose}
use Rattle.live_journal.specs.Loading.{fault_of}
use Rattle.live_journal.specs.declared.fault.OpenFault.{OpenFault}
use Rattle.live_journal.specs.declared.fault.OpenFault.TheVariants as unopened
use Rattle.text_store.specs.declared.image.Image.{Image}
use Rattle.text_store.specs.Image.{NoImage, image}
use Rattle.desk.specs.States.{answer_to}
use Rattle.desk.specs.declared.reply.Reply.{Reply}
use Rattle.desk.specs.declared.reply.Reply.TheVariants as reply
use Rattle.desk.specs.declared.request.Request.{Request}
use Rattle.refusals.specs.Errors.{absent_line, limit_line}
use Rattle.refusals.specs.Outcomes.{Outcome, refused}
use Rattle.refusals.specs.declared.refusal.Refusal.{Refusal}
use Rattle.refusals.specs.declared.refusal.Refusal.TheVariants as refusal
use Rattle.store_text.specs.Refusals.{text_in}
use Rattle.store_text.specs.Shelved.{image_in, or_empty}
use Rattle.store_text.specs.declared.refusal.StoreRefusal.{StoreRefusal}
use Rattle.store_text.specs.declared.refusal.StoreRefusal.TheVariants as store
use Rattle.store_making.specs.declared.refusal.JournalRefusal.{JournalRefusal}
use Rattle.store_making.specs.declared.refusal.JournalRefusal.TheVariants as journal
use Rattle.store_commands.specs.Asking.{HasFault, IsRefusedBy, Patterns}
use Rattle.store_commands.specs.Previews.{IsOfCopy, Previews, SaysOf, state_in}
use Rattle.store_commands.specs.declared.preview.Preview.{Preview}
use Rattle.store_commands.specs.declared.preview.Preview.TheVariants as preview
use Rattle.command_line.specs.Answers.{FindsText, IsOfFile}
use Rattle.command_line.specs.Previewing.{IsOfEdit, line_or_none, or_none}
use Rattle.command_line.specs.Sources.{file_within}

-- a refusal is a reply to an edit
pub edit_of : (first second : List ℕ) (what : Request) (day : ℕ) (p : Patterns) (asked : Result Preview JournalRefusal) → Previews first second what day p asked → IsOfEdit asked
edit_of first second what day p (Ok (preview.Adds bytes)) h = tt
edit_of first second what day p (Ok (preview.Refused r)) h = h.says.1
edit_of first second what day p (Err e) h = tt

-- ---- the files of a store

abbrev here : List ℕ → Result (List ℕ) Outcome
here bytes = Ok bytes

abbrev unless_past : ℕ → List ℕ → Bool → Result (List ℕ) Outcome
unless_past most bytes b = if b then Err (refused 7 (limit_line (most + 1) most)) else Ok bytes

not_past : (most : ℕ) (bytes : List ℕ) → length bytes ≤ most → nat_lt most (length bytes) ≡ false
not_past most bytes le = grind (arith, nat_tests)

within_most : (most : ℕ) (name bytes : List ℕ) → length bytes ≤ most → file_within most name (Some bytes) ≡ Ok bytes
within_most most name bytes le = ap (unless_past most bytes) (not_past most bytes le)

abbrev found_image : Image → Option (Result Image NoImage)
found_image shown = Some (Ok shown)

none_some : (shown : Image) → None ≡ found_image shown → ⊥
none_some shown e = cc

-- the first file of a store that has an image is there
pub first_there : (most : ℕ) (name : List ℕ) (first second : Option (List ℕ)) (shown : Image) → image_in first second ≡ Some (Ok shown) → length (or_empty first) ≤ most
    → file_within most name first ≡ Ok (or_empty first)
first_there most name None second shown is le = absurd (none_some shown is)
first_there most name (Some bytes) second shown is le = within_most most name bytes le

-- and so it is that of the bytes
pub image_there : (first second : Option (List ℕ)) (shown : Image) → image_in first second ≡ Some (Ok shown) → image (or_empty first) (or_empty second) ≡ Ok shown
image_there None second shown is = absurd (none_some shown is)
image_there (Some bytes) second shown is = ap of is
  where
    of : Option (Result Image NoImage) → Result Image NoImage
    of None = Ok shown
    of (Some found) = found

ok_err : (bytes : List ℕ) (o : Outcome) → Ok bytes ≡ Err o → ⊥
ok_err bytes o e = cc

abbrev loaded : List ℕ → Result (List ℕ) Refusal
loaded bytes = Ok bytes

bytes_are : (a b : List ℕ) → here a ≡ here b → a ≡ b
bytes_are a b e = ap of e
  where
    of : Result (List ℕ) Outcome → List ℕ
    of (Ok bytes) = bytes
    of (Err o) = a

absent_status : (status : ℕ) (name line : List ℕ) → file_within 0 name None ≡ Err (refused status line) → 8 ≡ status
absent_status status name line e = ap of e
  where
    of : Result (List ℕ) Outcome → ℕ
    of (Ok bytes) = 8
    of (Err o) = o.status

-- the second file of a store was loaded, which may be absent, or memory ran out
pub second_there : (most : ℕ) (name : List ℕ) (file : Option (List ℕ)) (read : Result (List ℕ) Refusal) → length (or_empty file) ≤ most
    → FindsText read (file_within most name file) → IfErr read IsOfFile → (read ≡ Err refusal.ReadFault → ⊥)
    → (or_none read ≡ Ok (or_empty file)) ⊎ (or_none read ≡ Err refusal.Memory)
second_there most name (Some bytes) (Ok t) le found kind none = inl (ap loaded (bytes_are t bytes (sym found ∙ within_most most name bytes le)))
second_there most name None (Ok t) le found kind none = absurd (ok_err t (refused 8 (absent_line name)) (sym found))
second_there most name (Some bytes) (Err (refusal.Line status line)) le found kind none =
    absurd (ok_err bytes (refused status line) (sym (within_most most name bytes le) ∙ found))
second_there most name None (Err (refusal.Line status line)) le found kind none =
    inl (subst (λ (n : ℕ). line_or_none n line ≡ Ok []) (absent_status status name line found) refl)
second_there most name file (Err (refusal.Pattern what line)) le found kind none = absurd found
second_there most name file (Err refusal.ReadFault) le found kind none = absurd (none refl)
second_there most name file (Err refusal.DiskFault) le found kind none = absurd kind
second_there most name file (Err refusal.Memory) le found kind none = inr refl

-- ---- a store whose image loads, and to which the edit is answered well

some_none : (f : OpenFault) → Some f ≡ None → ⊥
some_none f e = cc

text_err : (text : List ℕ) (r : StoreRefusal) → Ok text ≡ Err r → ⊥
text_err text r e = cc

abbrev has_image : Image → Result Image NoImage
has_image shown = Ok shown

image_is : (a b : Image) → has_image a ≡ has_image b → a ≡ b
image_is a b e = ap of e
  where
    of : Result Image NoImage → Image
    of (Ok shown) = shown
    of (Err none) = a

found_is : (a b : Image) → found_image a ≡ found_image b → a ≡ b
found_is a b e = image_is a b (ap of e)
  where
    of : Option (Result Image NoImage) → Result Image NoImage
    of (Some found) = found
    of None = Ok a

module _ (found : Option (Result Image NoImage)) (shown : Image) (is : found ≡ Some (Ok shown)) (loads : fault_of None shown.text ≡ None) where
  has_none : (f : OpenFault) → HasFault found f → ⊥
  has_none f has =
      let same = found_is has.0 shown (sym has.1 ∙ is) in
      some_none f (sym has.2 ∙ ap (λ (x : Image). fault_of None x.text) same ∙ loads)

  has_text : (r : StoreRefusal) → text_in found ≡ Err r → ⊥
  has_text r e = text_err shown.text r (sym (ap text_in is) ∙ e)

  -- it is opened, or memory ran out
  pub opened_well : (e : JournalRefusal) → IsRefusedBy found e → IsOfCopy e → e ≡ journal.Memory
  opened_well (journal.Store store.Absent) by kind = absurd kind
  opened_well (journal.Store (store.NotAStore at)) by kind = absurd (has_text (store.NotAStore at) by)
  opened_well (journal.Store (store.Newer version)) by kind = absurd (has_text (store.Newer version) by)
  opened_well (journal.Store (store.Exists len)) by kind = absurd kind
  opened_well (journal.Store (store.Full size limit)) by kind = absurd kind
  opened_well (journal.Store store.ReadFault) by kind = absurd kind
  opened_well (journal.Store store.DiskFault) by kind = absurd kind
  opened_well (journal.Store store.Memory) by kind = absurd kind
  opened_well (journal.Load fault) by kind = absurd (has_none (unopened.Load fault) by)
  opened_well (journal.TooLarge limit size) by kind = absurd (has_none (unopened.TooLarge limit size) by)
  opened_well journal.Memory by kind = refl

-- where it is refused, the reply is the answer, or memory ran out
pub refused_well : (first second : List ℕ) (shown : Image) (what : Request) (day : ℕ) (p : Patterns) (r : Reply) → image first second ≡ Ok shown
    → SaysOf first second what day p (preview.Refused r) → (Rose p.before p.now → ⊥) → (r ≡ reply.Memory) ⊎ (r ≡ (answer_to (state_in first second shown) day what).reply)
refused_well first second shown what day p r is says patterns =
    subst (λ (x : Image). (r ≡ reply.Memory) ⊎ (r ≡ (answer_to (state_in first second x) day what).reply)) (image_is says.shown shown (sym says.is ∙ is)) (says.says.3 patterns)
