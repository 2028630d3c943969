use Rattle.std.proofs.Common.{ap}
use Rattle.walked_edits.specs.Scenes.{Scene}
use Rattle.walked_edits.proofs.edited.Edited.symbols.Goals as goal

pub returns : goal.returns
returns g c = ap (λ (s : Scene). s.symbols) c.self.view_is
