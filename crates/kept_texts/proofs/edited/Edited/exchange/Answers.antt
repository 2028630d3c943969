use Rattle.kept_texts.proofs.edited.Edited.exchange.Goals as goal

pub returns-clause-ok : goal.returns-clause-ok
returns-clause-ok c = λ items book number h found. record { styles = h.styles; asked = c.in_ok-exchange.ensures.ok book number h.asked found }
