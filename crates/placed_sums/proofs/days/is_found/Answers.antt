use Rattle.std.proofs.Common.{◌∙◌, sym, ap}
use Rattle.std.specs.Option.{option_copied}
use Rattle.placed_sums.specs.Placing.{is_found}
use Rattle.placed_sums.proofs.days.is_found.Goals as goal

pub returns-in-Some : goal.returns-in-Some
returns-in-Some c = c.is_same.ensures ∙ ap (is_found c.args.place.now) (sym (ap option_copied c.in-Some.is) ∙ c.place_at.ensures)

pub returns-in-None : goal.returns-in-None
returns-in-None c = ap (is_found c.args.place.now) (sym (ap option_copied c.in-None.is) ∙ c.place_at.ensures)
