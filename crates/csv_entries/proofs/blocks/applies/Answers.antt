use Rattle.std.proofs.Common.{ap, ◌∙◌}
use Rattle.query_terms.specs.Finders.{known_in}
use Rattle.csv_entries.specs.Blocks.{holds, some_group}
use Rattle.csv_entries.proofs.Groups.{applies_all}
use Rattle.csv_entries.proofs.blocks.applies.Goals as goal

pub returns-in-len1-up-clause-found : goal.returns-in-len1-up-clause-found
returns-in-len1-up-clause-found c =
    applies_all (known_in c.args.finder.now) (known_in c.holds-held.new.finder) c.args.row.names.now c.args.row.columns.now c.some_hold.result c.holds-held.result
    c.as_slice.result.now c.first-item.result c.in-len1-up.len_at_least c.first-item.is c.holds-held.ensures.found c.holds-held.ensures.same c.some_hold.ensures.found
    ∙ ap (some_group (holds (known_in c.args.finder.now) c.args.row.names.now c.args.row.columns.now)) c.as_slice.ensures
