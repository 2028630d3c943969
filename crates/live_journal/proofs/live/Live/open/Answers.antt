use Rattle.std.proofs.lemmas.Result.{err_from_is_err_and}
use Rattle.live_journal.proofs.live.Live.open.Goals as goal

pub returns-in_err-copied : goal.returns-in_err-copied
returns-in_err-copied g c =
    let p = err_from_is_err_and c.from_residual-in_err-copied.result c.from_residual-in_err-copied.ensures.1 in
    rw (p.1, p.2) tt
