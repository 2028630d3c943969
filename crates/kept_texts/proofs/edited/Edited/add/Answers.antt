use Rattle.kept_texts.proofs.edited.Edited.add.Goals as goal

pub returns-clause-ok : goal.returns-clause-ok
returns-clause-ok c = λ items book h. record { styles = h.styles; asked = c.in_ok-add.ensures.ok book h.asked }
