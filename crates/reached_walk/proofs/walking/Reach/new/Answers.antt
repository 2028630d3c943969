use Rattle.reached_walk.proofs.Handing.{begun-none}
use Rattle.reached_walk.proofs.walking.Reach.new.Goals as goal

pub returns : goal.returns
returns c = λ edit.
    begun-none edit c.args.edited.now (record { edited = c.in_ok-spots.spots; at = 0; changes = c.new-changes.result }) c.in_ok-spots.ensures c.new-changes.ensures.items
