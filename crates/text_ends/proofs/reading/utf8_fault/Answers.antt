use Rattle.std.proofs.Common.{◌≡◌, ◌+◌, ◌≤◌, ℕ, length, take, ap, ◌∙◌, arith}
use Rattle.std.proofs.lemmas.Str.{is_utf8-from_IsUtf8}
use Rattle.entry_reader.specs.Lines.{contents_of}
use Rattle.entry_reader.proofs.Texts.{not_utf8}
use Rattle.journal_reader.specs.Items.{broken_line}
use Rattle.text_ends.proofs.Broken.{ends_in}
use Rattle.text_ends.proofs.LineEnds.{few_ends}
use Rattle.text_ends.proofs.Faults.{no_fault, some_fault}
use Rattle.text_ends.proofs.reading.utf8_fault.Goals as goal

pub overflow_add-result : goal.overflow_add-result
overflow_add-result c =
    let few : c.line_ends.result ≤ length (contents_of c.args.bytes.now) =
    rw c.line_ends.ensures (few_ends c.split_at.result.0.now c.args.bytes.now c.valid_up_to.result c.split_at.ensures.front) in
    omega (arith, few, c.requires)

pub returns-in-Ok : goal.returns-in-Ok
returns-in-Ok c = no_fault c.args.line c.args.bytes.now (is_utf8-from_IsUtf8 c.args.bytes.now c.in-Ok.ensures.cases.1)

pub returns-in-Err : goal.returns-in-Err
returns-in-Err c =
    let bytes = c.args.bytes.now in
    let line : c.args.line + c.line_ends.result ≡ broken_line c.args.line bytes =
    ap (λ (n : ℕ). c.args.line + n)
    (c.line_ends.ensures ∙ ap ends_in (c.split_at.ensures.front ∙ ap (λ (n : ℕ). take n bytes) (c.valid_up_to.ensures ∙ c.in-Err.ensures.valid_len))) in
    some_fault c.args.line (c.args.line + c.line_ends.result) bytes line (not_utf8 bytes c.in-Err.ensures.cases.0)
