use Rattle.kept_texts.proofs.kept.KeptText.put_behind.Goals as goal

pub returns : goal.returns
returns c = λ year text items book read kept h. record {
  end = c.grow.ensures.kept year text items read kept;
  styles = h.styles;
  asked = h.asked;
}
