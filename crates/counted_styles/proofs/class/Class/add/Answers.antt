use Rattle.std.proofs.Common.{◌≡◌, ◌+◌, ◌<◌, List, length, drop, sym, ap, ◌∙◌, rules}
use Rattle.std.specs.List.{fold}
use Rattle.counted_styles.specs.declared.mark.Mark.{Mark}
use Rattle.counted_styles.specs.Marks.{counted, headed}
use Rattle.counted_styles.proofs.Noting.{fold-more}
use Rattle.counted_styles.proofs.class.Class.add.Goals as goal

pub loop-one-preserved : goal.loop-one-preserved
loop-one-preserved c =
    let i = c.loop-one.one-index in
    let inside : c.loop-one.one-index < length c.args.said.now = search rules in
    let noted : c.head.new.marks ≡ headed c.args.number c.loop-one.self.heads c.one-item.result = search rules in
    let kept : c.count.new.marks ≡ counted c.loop-one.self.counts c.one-item.result = search rules in
    record {
      heads =
          ap (λ (ws : List Mark). fold (headed c.args.number) ws (drop (i + 1) c.args.said.now)) noted
          ∙ sym (fold-more (headed c.args.number) c.args.said.now i c.one-item.result c.loop-one.self.heads inside c.one-item.is)
          ∙ c.loop-one.invariant.heads;
      counts =
          ap (λ (ws : List Mark). fold counted ws (drop (i + 1) c.args.said.now)) kept
          ∙ sym (fold-more counted c.args.said.now i c.one-item.result c.loop-one.self.counts inside c.one-item.is)
          ∙ c.loop-one.invariant.counts;
    }
