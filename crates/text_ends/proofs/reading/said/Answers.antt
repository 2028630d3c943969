use Rattle.std.proofs.Common.{◌≡◌, ℕ, ◌+◌, ◌≤◌, List, length, drop, ap, subst, ◌∙◌, arith}
use Rattle.hl_base.specs.Gives.{Gives}
use Rattle.book.specs.declared.item.Item.{Item}
use Rattle.entry_reader.specs.Causes.{cause_in}
use Rattle.entry_reader.specs.Lines.{contents_of}
use Rattle.entry_reader.proofs.Lines.{few_within}
use Rattle.journal_reader.specs.Items.{reading}
use Rattle.text_ends.proofs.Walking.{short}
use Rattle.text_ends.proofs.reading.said.Goals as goal

pub read_item-requires : goal.read_item-requires
read_item-requires g c =
    let piece = c.args.piece.now in
    let few : length (contents_of c.bytes_of.result.now) ≤ piece.len = rw c.bytes_of.ensures (few_within piece.len (drop piece.at c.args.bytes.now)) in
    omega (arith, few, c.requires.lines)

pub returns-clause-value : goal.returns-clause-value
returns-clause-value g c =
    subst (λ (b : List ℕ). Gives (λ (i : Item). i) cause_in c.read_item.result (reading c.args.end.now.context (c.args.lines + c.args.piece.now.line) b)) c.bytes_of.ensures c.read_item.ensures.value

pub returns-clause-steps : goal.returns-clause-steps
returns-clause-steps g c =
    let steps = c.args.steps.now in
    let piece = c.args.piece.now in
    let read : length c.bytes_of.result.now ≡ piece.len = ap length c.bytes_of.ensures ∙ short piece.len piece.at c.args.bytes.now c.requires.bytes in
    c.read_item.ensures.steps ∙ ap (λ (n : ℕ). record steps { bytes_read = steps.bytes_read + n }) read
