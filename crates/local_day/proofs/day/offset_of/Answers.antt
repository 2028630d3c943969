use Rattle.std.proofs.Common.{ap, ◌∙◌, ℤ, FitsSigned, w64}
use Rattle.std.proofs.lemmas.Int.{to_z-of_z}
use Rattle.jiff_core.specs.Timestamp.{nanos_of_seconds}
use Rattle.local_day.specs.LocalDay as spec
use Rattle.local_day.proofs.day.offset_of.Goals as goal

pub returns : goal.returns
returns c =
    let fits : FitsSigned w64 c.args.seconds = c.ranges.seconds in
    c.offset_at.ensures ∙ ap (spec.offset_at c.args.zone.now) c.instant_of.ensures
    ∙ ap (λ (z : ℤ). spec.offset_at c.args.zone.now (nanos_of_seconds (spec.bounded z))) (to_z-of_z w64 c.args.seconds fits)
