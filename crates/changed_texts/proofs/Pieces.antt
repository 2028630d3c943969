-- What the same bytes say further down.
use Rattle.std.proofs.Common.{◌≡◌, ℕ, ◌+◌, ◌-◌, ◌≤◌, List, length, take, refl, sym, ap, ◌∙◌, arith}
use Rattle.std.specs.List.{count_by}
use Rattle.std.specs.Prelude.{◌==◌, nat_lt}
use Rattle.std.specs.Str.{is_utf8}
use Rattle.std.specs.Str.Lossy.{utf8_valid_len}
use Rattle.hl_base.specs.Ascii.{line_feed}
use Rattle.hl_base.specs.Items.{kind_of}
use Rattle.hl_base.specs.Limits.{entry_limit}
use Rattle.hl_base.specs.Lines.{first_line}
use Rattle.hl_base.specs.declared.items.Kind.{Kind}
use Rattle.hl_base.specs.declared.items.Kind.TheVariants as kinds
use Rattle.book.specs.declared.fault.Cause.TheVariants as cause
use Rattle.book.specs.declared.item.Item.TheVariants as item
use Rattle.entry_reader.specs.Contexts.{Context}
use Rattle.entry_reader.specs.Lines.{contents_of}
use Rattle.journal_reader.specs.Items.{broken_line, reading, said_by}
use Rattle.moved_lines.specs.Moving.{moved_item, moved_number}
use Rattle.moved_lines.specs.declared.shift.Shift.{Shift}
use Rattle.changed_texts.specs.LinesOf.{relined_read}
use Rattle.changed_texts.proofs.Directing.{head-item-late}
use Rattle.changed_texts.proofs.Entering.{bad, entry-late}
use Rattle.changed_texts.proofs.Late.{Late, late-err, late-if, late-ok, later}
use Rattle.changed_texts.proofs.Relining.{read-further, relined_item}

said-late : (n l m : ℕ) (e : m ≡ later n l) (k : Kind) (context : Context) (bytes : List ℕ) → Late (later n) (relined_item (later n)) (said_by k context l bytes) (said_by k context m bytes)
said-late n l m e kinds.Gap context bytes = late-ok (relined_item (later n)) item.Gap item.Gap refl
said-late n l m e kinds.Block context bytes = late-ok (relined_item (later n)) item.Block item.Block refl
said-late n l m e kinds.Stray context bytes = bad n l m e cause.Form
said-late n l m e kinds.Entry context bytes = late-if (nat_lt entry_limit (length bytes)) (bad n l m e cause.TooLong) (entry-late n l m e context (contents_of bytes))
said-late n l m e kinds.Head context bytes = late-if (nat_lt entry_limit (length bytes)) (bad n l m e cause.TooLong) (head-item-late n l m e context (contents_of bytes))

reading-late : (n l m : ℕ) (e : m ≡ later n l) (context : Context) (bytes : List ℕ) → Late (later n) (relined_item (later n)) (reading context l bytes) (reading context m bytes)
unfolding reading
reading-late n l m e context bytes =
    late-if (is_utf8 bytes) (said-late n l m e (kind_of (first_line bytes)) context bytes)
    (late-err (broken_line l bytes) (broken_line m bytes) cause.Encoding (broken (count_by (λ b. b == line_feed) (take (utf8_valid_len bytes) bytes))))
  where
    broken : (c : ℕ) → m + c ≡ n + (l + c)
    broken c = omega (arith, e)

-- The same bytes in the same context, in a line behind a change: what they say is moved, and so is their fault.
pub reading-moved : (context : Context) (by : Shift) (l : ℕ) (bytes : List ℕ) → by.removed ≤ l → reading context (moved_number by l) bytes ≡ relined_read (moved_number by) (moved_item by) (reading context l bytes)
reading-moved context by l bytes h =
    let k = l - by.removed in
    let old : l ≡ later by.removed k = omega (arith, h) in
    let new : moved_number by l ≡ later by.added k = omega (arith, h) in
    let first = (reading-late by.removed k l old context bytes).is in
    let second = (reading-late by.added k (moved_number by l) new context bytes).is in
    second ∙ sym (ap (relined_read (moved_number by) (moved_item by)) first ∙ read-further by (reading context k bytes))
