use Rattle.std.proofs.Common.{◌≡◌, ◌+◌, ◌<◌, List, length, drop, sym, ap, ◌∙◌, rules}
use Rattle.std.specs.List.{fold}
use Rattle.counted_styles.specs.declared.mark.Mark.{Mark}
use Rattle.counted_styles.specs.Marks.{uncounted, unheaded}
use Rattle.counted_styles.proofs.Noting.{fold-more}
use Rattle.counted_styles.proofs.class.Class.remove.Goals as goal

pub loop-one-preserved : goal.loop-one-preserved
loop-one-preserved c =
    let i = c.loop-one.one-index in
    let inside : c.loop-one.one-index < length c.args.said.now = search rules in
    let noted : c.unhead.new.marks ≡ unheaded c.args.number c.loop-one.self.heads c.one-item.result = search rules in
    let kept : c.uncount.new.marks ≡ uncounted c.loop-one.self.counts c.one-item.result = search rules in
    record {
      heads =
          ap (λ (ws : List Mark). fold (unheaded c.args.number) ws (drop (i + 1) c.args.said.now)) noted
          ∙ sym (fold-more (unheaded c.args.number) c.args.said.now i c.one-item.result c.loop-one.self.heads inside c.one-item.is)
          ∙ c.loop-one.invariant.heads;
      counts =
          ap (λ (ws : List Mark). fold uncounted ws (drop (i + 1) c.args.said.now)) kept
          ∙ sym (fold-more uncounted c.args.said.now i c.one-item.result c.loop-one.self.counts inside c.one-item.is)
          ∙ c.loop-one.invariant.counts;
    }
