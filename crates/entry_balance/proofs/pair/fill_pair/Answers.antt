use Rattle.std.proofs.Common.{ap, ◌∙◌}
use Rattle.entry_balance.specs.Entry.{solved}
use Rattle.entry_balance.specs.Pair.{is_pair}
use Rattle.entry_balance.proofs.pair.fill_pair.Goals as goal

pub fill_second-requires : goal.fill_second-requires
fill_second-requires c = ap is_pair c.into_vec-postings.ensures ∙ c.requires

pub returns : goal.returns
returns c = c.from_vec.ensures ∙ c.in_ok-fill_second.ensures ∙ ap solved c.into_vec-postings.ensures
