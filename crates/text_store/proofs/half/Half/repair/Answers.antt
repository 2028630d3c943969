use Rattle.std.proofs.Common.{◌++◌, [], ◌∷◌}
use Rattle.text_store.specs.Rest.{IsAt}
use Rattle.text_store.specs.Halves.{HasEitherImage}
use Rattle.text_store.proofs.Moments.{weakened}
use Rattle.text_store.proofs.HalfImages.{either_image}
use Rattle.text_store.proofs.half.Half.repair.Goals as goal

pub returns-in_err-shut_gate-clause-any_moment : goal.returns-in_err-shut_gate-clause-any_moment
returns-in_err-shut_gate-clause-any_moment g c front entry other entries torn telling =
    let d = g.D.Disk in
    weakened d.moment d.left_since c.args.self.now.device c.shut_gate.new.device (IsAt front entry) (HasEitherImage other (front ++ 0 ∷ []) (front ++ 1 ∷ entry))
    (c.shut_gate.ensures.any_moment front entry torn.place torn.stands telling)
    (λ f at. either_image front entries torn.is_half entry other f torn.is_record at)

pub returns-clause-mended : goal.returns-clause-mended
returns-clause-mended g c front entry entries torn = record {
  is_half = torn.is_half;
  place = torn.place;
  rests = c.in_ok-shut_gate.ensures.shut front entry torn.place torn.stands;
}

pub returns-clause-any_moment : goal.returns-clause-any_moment
returns-clause-any_moment g c front entry other entries torn telling =
    let d = g.D.Disk in
    weakened d.moment d.left_since c.args.self.now.device c.shut_gate.new.device (IsAt front entry) (HasEitherImage other (front ++ 0 ∷ []) (front ++ 1 ∷ entry))
    (c.shut_gate.ensures.any_moment front entry torn.place torn.stands telling)
    (λ f at. either_image front entries torn.is_half entry other f torn.is_record at)

pub returns-in_err-shut_gate-clause-left : goal.returns-in_err-shut_gate-clause-left
returns-in_err-shut_gate-clause-left g c front entry place stands telling = c.shut_gate.ensures.any_moment front entry place stands telling

pub returns-clause-left : goal.returns-clause-left
returns-clause-left g c front entry place stands telling = c.shut_gate.ensures.any_moment front entry place stands telling
