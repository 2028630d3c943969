use Rattle.std.proofs.Common.{◌∙◌, sym, arith}
use Rattle.text_store.specs.Image.{first_of}
use Rattle.text_store.proofs.Choosing.{no_head, one_head, good_head, other_word, great_generation, great_base}
use Rattle.text_store.proofs.finding.head_of.Goals as goal
use Rattle.text_store.proofs.finding.head_of.Goals.{then-ne-via-then-ne, then-ne-via-else-ne+then-generation-gt2, then-ne-via-else-ne+else-generation-gt2+then-base}

pub returns-then-ne : goal.returns-then-ne
returns-then-ne c = no_head c.args.file.now (elim c.then-ne.branch [
  | then-ne-via-then-ne w ↦ other_word c.args.file.now c.ne.result c.as_slice.result.now c.ne.ensures c.as_slice.ensures w.if-ne.true
  | then-ne-via-else-ne+then-generation-gt2 w ↦ great_generation c.args.file.now c.number_at-generation.result c.number_at-generation.ensures w.if-generation-gt2.true
  | then-ne-via-else-ne+else-generation-gt2+then-base w ↦ great_base c.args.file.now c.number_at-base.result c.number_at-base.ensures w.if-base.true
])

pub returns : goal.returns
returns c =
    let file = c.args.file.now in
    let good = good_head file c.ne.result c.as_slice.result.now c.ne.ensures c.as_slice.ensures c.if-ne.false
    (omega (arith, c.number_at-generation.ensures, c.if-generation-gt2.false)) (omega (arith, c.number_at-base.ensures, c.if-base.false)) in (
      λ entries. one_head file good.0 entries
          ∙ (λ i. first_of (sym c.number_at.ensures i) (sym c.number_at-generation.ensures i) (sym c.number_at-base.ensures i) entries),
      omega (arith, c.if-generation-gt2.false),
      c.if-base.false,
      good.1,
    )
