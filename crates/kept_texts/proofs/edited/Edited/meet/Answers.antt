use Rattle.std.proofs.Common.{sym, ◌∙◌}
use Rattle.kept_texts.proofs.Gapped.{no_more_kept}
use Rattle.kept_texts.proofs.edited.Edited.meet.Goals as goal

pub returns-then-more_items-eq0-clause-ok : goal.returns-then-more_items-eq0-clause-ok
returns-then-more_items-eq0-clause-ok c = λ book h. record {
  styles = no_more_kept c.args.number c.args.items.now c.args.met.now c.args.self.now.styles c.requires.number c.requires.met (sym c.more_items.ensures ∙ c.if-more_items-eq0.true) h.styles;
  asked = h.asked;
}

pub returns-clause-ok : goal.returns-clause-ok
returns-clause-ok c = λ book h. record { styles = c.in_ok-styles.ensures; asked = h.asked }
