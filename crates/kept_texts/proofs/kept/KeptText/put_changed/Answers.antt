use Rattle.std.proofs.Common.{◌∙◌}
use Rattle.kept_texts.proofs.Ended.{end_is}
use Rattle.kept_texts.proofs.kept.KeptText.put_changed.Goals as goal

pub returns : goal.returns
returns c = λ year text bytes items after book n p r m kept h. record {
  end = c.move_end.ensures ∙ end_is year text bytes items after n p c.args.to c.args.self.now.end r m kept;
  styles = h.styles;
  asked = h.asked;
}
