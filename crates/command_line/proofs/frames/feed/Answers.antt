use Rattle.std.proofs.Common.{Ok, Err, refl}
use Rattle.command_line.proofs.StoreEnds.{frames_kind}
use Rattle.command_line.proofs.frames.feed.Goals as goal

pub returns-in-Ok-clause-feeds : goal.returns-in-Ok-clause-feeds
returns-in-Ok-clause-feeds g c = record { fed = Ok c.in-Ok.frames; feeds = c.in-Ok.ensures; told = refl; rest = refl }

pub returns-in-Err-clause-feeds : goal.returns-in-Err-clause-feeds
returns-in-Err-clause-feeds g c = record { fed = Err c.in-Err.refusal; feeds = c.in-Err.ensures; told = c.refuse_store.ensures; rest = refl }

pub returns-in-Err-clause-kind : goal.returns-in-Err-clause-kind
returns-in-Err-clause-kind g c = frames_kind c.args.name.now c.in-Err.refusal c.refuse_store.result c.refuse_store.ensures
