use Rattle.std.proofs.Common.{arith}
use Rattle.entry_balance.proofs.Pairs.{pair_length, filled_is}
use Rattle.entry_balance.proofs.pair.fill_second.Goals as goal

pub index-requires : goal.index-requires
index-requires c = omega (arith, pair_length c.args.postings.now.items c.requires)

pub index_mut-requires : goal.index_mut-requires
index_mut-requires c = omega (arith, pair_length c.args.postings.now.items c.requires)

pub returns : goal.returns
returns c =
    filled_is c.args.postings.now.items c.index.result.now c.index_mut.result.now c.put_found.new.posting c.in_ok-found.found
    c.requires c.index.ensures c.index_mut.ensures.value c.in_ok-found.ensures c.put_found.ensures
