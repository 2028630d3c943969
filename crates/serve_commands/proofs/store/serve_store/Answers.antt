use Rattle.serve_commands.proofs.StoreLaws.{memory_so}
use Rattle.serve_commands.proofs.store.serve_store.Goals as goal

pub returns-in_default : goal.returns-in_default
returns-in_default g c = memory_so g.S.Shelf g.S.Disk.Disk c.args.name.now c.args.shelf.now (g.H.House.told c.args.house.now)
