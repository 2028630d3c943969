use Rattle.std.proofs.Common.{◌≡◌, ◌≤◌, ◌-◌, ◌^◌, ap, ◌∙◌, arith, rules}
use Rattle.std.specs.Arc.{arc_value}
use Rattle.placed_sums.specs.Days.{numbers_in, places_before}
use Rattle.shared_days.specs.Days.{numbers_or}
use Rattle.shared_days.proofs.Numbers.{earlier-front, earlier-made}
use Rattle.shared_days.proofs.days.SharedDays.before.Goals as goal

pub returns-in-Some : goal.returns-in-Some
returns-in-Some c = λ book h.
    let others = numbers_in (places_before c.args.day (2 ^ 64 - 1) (arc_value c.args.self.now.made)) in
    ap numbers_in c.lower_front.ensures
    ∙ earlier-front c.args.day.0 c.args.number c.as_slice.result.now book
    (ap numbers_in c.as_slice.ensures.value ∙ ap (numbers_or others) c.in-Some.ensures.item ∙ h c.args.day)

pub returns-in-None : goal.returns-in-None
returns-in-None c = λ book h.
    let others = numbers_in (places_before c.args.day (2 ^ 64 - 1) (arc_value c.args.self.now.made)) in
    let within : c.args.number ≤ 2 ^ 64 - 1 = omega arith in
    let is : c.made_before.result.now ≡ places_before c.args.day c.args.number (arc_value c.args.self.now.made) = search rules in
    ap numbers_in is
    ∙ earlier-made c.args.day c.args.number (2 ^ 64 - 1) (arc_value c.args.self.now.made) book within
    (ap (numbers_or others) c.in-None.ensures.item ∙ h c.args.day)
