use Rattle.std.proofs.Common.{length, not, eqb, drop, ap, arith, length-drop}
use Rattle.std.specs.List.{take_while}
use Rattle.hl_base.proofs.LineLemmas.{length_first}
use Rattle.hl_base.proofs.line.next_line.Goals as goal

pub returns-clause-next : goal.returns-clause-next
returns-clause-next c =
    let at = c.args.at in
    let text = c.args.text.now in
    omega (
      arith,
      length_first (drop at text),
      c.before_end-before.ensures.count,
      ap (λ rest. length (take_while (λ b. not (eqb b 10)) rest)) c.split_at.ensures.back,
      length-drop at text,
      c.split_at.ensures.back_len,
    )
