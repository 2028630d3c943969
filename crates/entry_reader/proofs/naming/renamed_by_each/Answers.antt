use Rattle.std.proofs.Common.{ap, ◌∙◌}
use Rattle.entry_reader.specs.Contexts.{renamed}
use Rattle.entry_reader.proofs.Named.{renamed_step}
use Rattle.entry_reader.proofs.naming.renamed_by_each.Goals as goal

pub loop-newest-preserved : goal.loop-newest-preserved
loop-newest-preserved c =
    ap (renamed c.in-Some.older.now) c.in_ok-account.ensures
    ∙ renamed_step c.loop-newest.rest.now c.in-Some.older.now c.in-Some.newest.now c.loop-newest.account (renamed c.args.aliases.now c.args.name) c.in-Some.ensures.cases.0 c.loop-newest.invariant
