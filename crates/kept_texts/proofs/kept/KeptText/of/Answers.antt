use Rattle.kept_texts.proofs.kept.KeptText.of.Goals as goal

pub returns : goal.returns
returns c = record { end = c.in_ok-end.ensures.is; styles = c.in_ok-styles.ensures; asked = c.in_ok-asked.ensures }
