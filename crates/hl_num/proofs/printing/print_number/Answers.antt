use Rattle.std.proofs.Common.{rules}
use Rattle.hl_num.proofs.PrintingLemmas.{printed-parts}
use Rattle.hl_num.proofs.ReadBackLaws.{text_reads_back}
use Rattle.hl_num.proofs.printing.print_number.Goals as goal

pub returns-clause-text : goal.returns-clause-text
returns-clause-text c = printed-parts c.args.value c.args.places _ _ c.args.shape.now _ _ c.rounded_parts-whole.ensures.whole c.rounded_parts-whole.ensures.fraction c.has_sign.ensures (search rules)

pub returns-clause-back : goal.returns-clause-back
returns-clause-back c =
    text_reads_back c.args.value c.args.places c.args.shape.now _
    (printed-parts c.args.value c.args.places _ _ c.args.shape.now _ _ c.rounded_parts-whole.ensures.whole c.rounded_parts-whole.ensures.fraction c.has_sign.ensures (search rules))
