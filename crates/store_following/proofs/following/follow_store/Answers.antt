use Rattle.store_following.proofs.StoreLaws.{uncalled}
use Rattle.store_following.proofs.following.follow_store.Goals as goal

-- memory ran out before anything was called
pub returns-in_default : goal.returns-in_default
returns-in_default g c = uncalled g.J.Source g.S.Shelf g.S.Disk.Disk c.args.name.now c.args.limit c.args.source.now c.args.shelf.now
