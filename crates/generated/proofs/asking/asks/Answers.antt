use Rattle.std.proofs.Common.{refl, ◌∙◌}
use Rattle.generated.proofs.Answering.{answered, still}
use Rattle.generated.proofs.asking.asks.Goals as goal

pub returns : goal.returns
returns c = record {
  found = c.posting.ensures.found ∙ answered c.args.asker.now c.args.types.now c.args.posting.now c.args.txn.now c.requires;
  asks = still c.args.asker.now _ c.requires refl refl refl c.posting.ensures.known c.posting.ensures.terms;
}
