use Rattle.std.proofs.Common.{◌==◌, ap, ◌∙◌}
use Rattle.hl_time.specs.declared.day.Day.{Day}
use Rattle.placed_sums.specs.Days.{numbers_in}
use Rattle.shared_days.specs.Days.{numbers_now}
use Rattle.shared_days.specs.Places.{left}
use Rattle.shared_days.proofs.Changes.{cond-if, same-day}
use Rattle.shared_days.proofs.changing.take_out.Goals as goal

pub returns : goal.returns
returns c = λ other.
    c.in_ok-put_places.ensures other
    ∙ cond-if (c.args.day.0 == other.0) (numbers_in c.in_ok-places.places.items) (left c.args.number (numbers_now other c.args.days.now)) (numbers_now other c.args.days.now)
    (λ e. c.in_ok-places.ensures
    ∙ ap (left c.args.number) (c.places_on-old.ensures ∙ ap (λ (d : Day). numbers_now d c.args.days.now) (same-day c.args.day other e)))
