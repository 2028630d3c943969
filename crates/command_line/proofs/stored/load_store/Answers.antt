use Rattle.command_line.proofs.Storing.{loads_refused, loads_text}
use Rattle.command_line.proofs.stored.load_store.Goals as goal

pub returns-in-Ok : goal.returns-in-Ok
returns-in-Ok g c =
    loads_text g.S.Shelf g.S.Disk.Disk c.args.name.now c.args.shelf.now c.read_store.new.shelf c.in-Ok.text c.in-Ok.ensures

pub returns-in-Err : goal.returns-in-Err
returns-in-Err g c =
    loads_refused g.S.Shelf g.S.Disk.Disk c.args.name.now c.args.shelf.now c.read_store.new.shelf c.in-Err.refusal c.refuse_store.result
    c.in-Err.ensures c.refuse_store.ensures
