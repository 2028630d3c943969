use Rattle.std.proofs.Common.{sym, subst}
use Rattle.asked_days.specs.Asked.{AreOf}
use Rattle.asked_days.specs.declared.asked.AskedDays.{AskedDays}
use Rattle.kept_texts.proofs.kept.KeptText.with_changed.Goals as goal

pub returns : goal.returns
returns c = λ items book was is h found we ie. record {
  styles = c.in_ok-styles.ensures items was is h.styles found we ie;
  asked = subst (λ (a : AskedDays). AreOf book a) (sym c.in_ok-asked.ensures) h.asked;
}
