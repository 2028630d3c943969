use Rattle.std.proofs.Common.{◌<◌, [], length, sym, ◌∙◌, arith}
use Rattle.csv_entries.specs.Records.{config_of}
use Rattle.hl_base.specs.Lines.{lines_of}
use Rattle.bank_explanations.specs.Begun.{state_of}
use Rattle.bank_explanations.specs.Places.{lines_from}
use Rattle.bank_explanations.proofs.Opening.{line_found, line_passed}
use Rattle.bank_explanations.proofs.places.text_from.Goals as goal

pub loop-spot-preserved : goal.loop-spot-preserved
loop-spot-preserved c =
    let some : 0 < length c.loop-spot.rest.now = omega (arith, c.line_at-next.ensures.bounds.0, c.line_at-next.ensures.bounds.1) in
    rw c.split_at.ensures.back
    (line_passed (config_of c.args.separator) (lines_from c.args.separator c.args.n [] (lines_of c.args.text.now)) (state_of c.loop-spot.spot) (state_of c.past_line-behind.result.0) c.loop-spot.left c.past_line-behind.result.1
    c.line_at-next.result.1 c.loop-spot.rest.now c.line_at-next.result.0.now c.loop-spot.invariant some c.line_at-next.ensures.line c.line_at-next.ensures.next c.past_line-behind.ensures.spot c.past_line-behind.ensures.left
    (sym c.is_found.ensures ∙ c.if-is_found.false))

pub returns-then-is_found : goal.returns-then-is_found
returns-then-is_found c =
    let some : 0 < length c.loop-spot.rest.now = omega (arith, c.line_at-next.ensures.bounds.0, c.line_at-next.ensures.bounds.1) in
    line_found (config_of c.args.separator) (lines_from c.args.separator c.args.n [] (lines_of c.args.text.now)) (state_of c.loop-spot.spot) c.loop-spot.left c.past_line-behind.result.1 c.line_at-next.result.1 c.loop-spot.rest.now
    c.line_at-next.result.0.now c.loop-spot.invariant some c.line_at-next.ensures.line c.line_at-next.ensures.next c.past_line-behind.ensures.left (sym c.is_found.ensures ∙ c.if-is_found.true)
