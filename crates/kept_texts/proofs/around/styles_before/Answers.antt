use Rattle.kept_texts.proofs.around.styles_before.Goals as goal

pub returns : goal.returns
returns c = c.in_ok-all.ensures c.args.front.now c.in_ok-styles.ensures
