use Rattle.std.proofs.Common.{◌≡◌, ◌-◌, length, drop, take, ap, ◌∙◌, arith}
use Rattle.hl_base.specs.Lines.{first_line}
use Rattle.hl_base.proofs.LineLemmas.{take_first}
use Rattle.hl_base.proofs.line.line_at.Goals as goal

pub returns-clause-line : goal.returns-clause-line
returns-clause-line c =
    let at = c.args.at in
    let text = c.args.text.now in
    let count : c.next_line-next.result.1 - at ≡ length (first_line (drop at text)) = omega (arith, c.next_line-next.ensures.next) in
    c.split_at-2.ensures.front ∙ ap (λ n. take n c.split_at.result.1.now) count
    ∙ ap (take (length (first_line (drop at text)))) c.split_at.ensures.back ∙ take_first (drop at text)
