use Rattle.std.proofs.Common.{ap}
use Rattle.walked_edits.specs.Scenes.{Scene}
use Rattle.walked_edits.proofs.edited.Edited.spots.Goals as goal

pub returns : goal.returns
returns g c = ap (λ (s : Scene). s.spots) c.self.view_is
