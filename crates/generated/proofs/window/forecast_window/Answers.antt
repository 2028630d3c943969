use Rattle.std.proofs.Common.{◌≡◌, ◌≤◌, ℕ, List, sym, ap, ◌∙◌, subst}
use Rattle.hl_time.specs.Calendar.{day_end}
use Rattle.book.specs.declared.transaction.Txn.{Txn}
use Rattle.generated.specs.Windows.{end_day, first_day}
use Rattle.generated.proofs.Days.{end_most, first_least}
use Rattle.generated.proofs.window.forecast_window.Goals as goal

pub returns : goal.returns
returns c =
    let txns = c.args.book.now.txns in
    let today = c.args.today.0 in
    let from : c.first_day.result ≡ first_day c.args.asked c.args.given txns today =
    c.first_day.ensures ∙ ap (λ (ts : List Txn). first_day c.args.asked c.args.given ts today) c.as_slice.ensures in
    let to : c.end_day.result ≡ end_day c.args.asked c.args.given today = c.end_day.ensures in
    record {
      window = λ i. record { from = from i; end = to i };
      first = subst (λ (n : ℕ). 1 ≤ n) (sym from) (first_least c.args.asked c.args.given txns today c.requires.asked c.requires.given c.requires.today.0);
      last = subst (λ (n : ℕ). n ≤ day_end) (sym to) (end_most c.args.asked c.args.given today c.requires.asked c.requires.given);
    }
