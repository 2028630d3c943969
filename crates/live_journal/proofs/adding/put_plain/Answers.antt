use Rattle.std.proofs.Common.{◌≡◌, refl, sym, ap, subst, ◌∙◌}
use Rattle.std.proofs.lemmas.Result.{err_from_is_err_and}
use Rattle.live_journal.proofs.Trying.{memory_since, plain_comes}
use Rattle.live_journal.proofs.adding.put_plain.Goals as goal

pub plain_addition-requires-clause-loaded : goal.plain_addition-requires-clause-loaded
plain_addition-requires-clause-loaded c = rw (c.behind_of-behind.ensures.year, c.behind_of-behind.ensures.text) c.requires.loaded

pub plain_addition-requires-clause-grown : goal.plain_addition-requires-clause-grown
plain_addition-requires-clause-grown c = rw (c.behind_of-behind.ensures.year, c.behind_of-behind.ensures.text, c.behind_of-behind.ensures.bytes) c.requires.coming.grown

pub plain_addition-requires-clause-adds : goal.plain_addition-requires-clause-adds
plain_addition-requires-clause-adds c = c.requires.coming.adds

pub returns-in_err-addition : goal.returns-in_err-addition
returns-in_err-addition c =
    let p = err_from_is_err_and c.from_residual.result c.from_residual.ensures.1 in
    rw (p.1, p.2)
    (λ now before read. memory_since c.args.editing.now c.args.loaded.now c.args.grown _ c.requires.editing c.requires.loaded c.requires.coming before now read)

pub returns : goal.returns
returns c = λ now before read.
    plain_comes c.args.editing.now c.args.loaded.now c.args.grown _ c.requires.editing c.requires.loaded c.requires.coming c.in_ok-addition.addition
    (rw (← c.behind_of-behind.ensures.year, ← c.behind_of-behind.ensures.text, ← c.behind_of-behind.ensures.bytes) c.in_ok-addition.ensures) refl before now read
