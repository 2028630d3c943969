use Rattle.std.proofs.lemmas.Result.{err_from_is_err_and}
use Rattle.store_feeding.proofs.FedStores.{uncalled}
use Rattle.store_feeding.proofs.feeding.feed_store.Goals as goal

-- memory ran out before anything was called
pub returns-in_err-beside : goal.returns-in_err-beside
returns-in_err-beside g c =
    let p = err_from_is_err_and c.from_residual.result c.from_residual.ensures.1 in
    rw (p.1, p.2) (uncalled g.S.Shelf g.S.Disk.Disk c.args.name.now c.args.shelf.now)
