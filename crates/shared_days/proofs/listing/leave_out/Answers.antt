use Rattle.std.proofs.Common.{rules, not}
use Rattle.std.specs.Prelude.{◌==◌}
use Rattle.std.proofs.lemmas.Fn.{filter_same}
use Rattle.shared_days.proofs.listing.leave_out.Goals as goal

pub returns : goal.returns
returns c = filter_same _ (λ x. not (x.number == c.args.number)) _ (λ x b g h. search rules) _ _ c.retain.ensures.filtered
