use Rattle.std.proofs.Common.{◌≡◌, MatchOption, sym, ap, subst, ◌∙◌, [], Option, ℕ}
use Rattle.std.specs.Option.{option_map}
use Rattle.hl_time.specs.declared.day.Day.{Day}
use Rattle.prices.specs.Quotes.{IsLastDay}
use Rattle.report_values.proofs.Greatest.{last_is}
use Rattle.report_values.proofs.days.greatest_price.Goals as goal

pub returns-in-Some : goal.returns-in-Some
returns-in-Some c =
    ap (option_map (λ (d : Day). d.0)) (sym c.in-Some.is) ∙ last_is c.args.prices.now c.last_day.result c.last_day.ensures

pub returns-in-None : goal.returns-in-None
returns-in-None c =
    ap (option_map (λ (d : Day). d.0)) (sym c.in-None.is) ∙ last_is c.args.prices.now c.last_day.result c.last_day.ensures
