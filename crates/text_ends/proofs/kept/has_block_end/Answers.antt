use Rattle.std.proofs.Common.{◌≡◌, ◌+◌, true, false, ◌||◌, length, drop, sym, ap, ◌∙◌}
use Rattle.std.specs.List.{list_any}
use Rattle.hl_base.specs.Lines.{lines_of, first_line}
use Rattle.hl_base.specs.Items.{closes_block}
use Rattle.text_ends.proofs.Counting.{any_line}
use Rattle.text_ends.proofs.kept.has_block_end.Goals as goal

pub returns-then-closes_block : goal.returns-then-closes_block
returns-then-closes_block c =
    let e = any_line closes_block c.args.text.now c.loop-at.at c.loop-at-test.true in
    let line = c.line_at-next.ensures.line in
    let closing : closes_block (first_line (drop c.loop-at.at c.args.text.now)) ≡ true =
    ap closes_block (sym line) ∙ sym c.closes_block.ensures ∙ c.if-closes_block.true in
    sym (sym c.loop-at.invariant.left ∙ e ∙ ap (λ b. b || list_any closes_block (lines_of (drop (c.loop-at.at + length (first_line (drop c.loop-at.at c.args.text.now))) c.args.text.now))) closing)

pub loop-at-preserved : goal.loop-at-preserved
loop-at-preserved c =
    let e = any_line closes_block c.args.text.now c.loop-at.at c.loop-at-test.true in
    let line = c.line_at-next.ensures.line in
    let closing : closes_block (first_line (drop c.loop-at.at c.args.text.now)) ≡ false =
    ap closes_block (sym line) ∙ sym c.closes_block.ensures ∙ c.if-closes_block.false in
    record {
      within = c.line_at-next.ensures.bounds.1;
      left = rw c.line_at-next.ensures.next (sym (ap (λ b. b || list_any closes_block (lines_of (drop (c.loop-at.at + length (first_line (drop c.loop-at.at c.args.text.now))) c.args.text.now))) closing) ∙ sym e ∙ c.loop-at.invariant.left);
    }
