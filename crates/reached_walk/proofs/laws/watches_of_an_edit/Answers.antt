use Rattle.reached_walk.proofs.Edits.{edit-watched}
use Rattle.reached_walk.proofs.laws.watches_of_an_edit.Goals as goal

pub returns : goal.returns
returns c number before after book form ws solves others got are = edit-watched number before after book form solves others got ws are
