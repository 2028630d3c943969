use Rattle.std.proofs.Common.{ap, sym, ◌∙◌}
use Rattle.std.specs.Option.{option_copied}
use Rattle.std.proofs.Common.{slice_get}
use Rattle.kept_books.specs.Beginning.{renewed_in}
use Rattle.kept_books.proofs.Gathered.{put_none, put_some}
use Rattle.kept_books.proofs.gathering.put_number.Goals as goal

pub returns-in-Some : goal.returns-in-Some
returns-in-Some c =
    put_some c.put_txn.result c.args.found.now.keys c.put_txn.new.found.keys (slice_get (renewed_in c.args.renewal.now) c.args.number) c.in-Some.txn.now (sym c.txn.ensures ∙ ap option_copied c.in-Some.is) c.put_txn.ensures

pub returns-in-None : goal.returns-in-None
returns-in-None c = put_none c.args.found.now.keys (slice_get (renewed_in c.args.renewal.now) c.args.number) (sym c.txn.ensures ∙ ap option_copied c.in-None.is)
