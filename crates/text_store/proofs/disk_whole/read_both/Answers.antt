use Rattle.text_store.proofs.Opening.{first_read, both_read}
use Rattle.text_store.proofs.disk_whole.read_both.Goals as goal

pub returns-in_err-first_bytes-clause-any_moment : goal.returns-in_err-first_bytes-clause-any_moment
returns-in_err-first_bytes-clause-any_moment g c = first_read g.D.Disk g.met.D.Disk.counts_now c.args.first.now c.args.second.now c.rest_whole.new.device c.rest_whole.ensures.reads

pub returns-in_err-second_bytes-clause-any_moment : goal.returns-in_err-second_bytes-clause-any_moment
returns-in_err-second_bytes-clause-any_moment g c =
    both_read g.D.Disk g.met.D.Disk.counts_now c.args.first.now c.args.second.now c.rest_whole.new.device c.rest_whole.ensures.reads c.rest_whole-2.new.device c.rest_whole-2.ensures.reads

pub returns-clause-any_moment : goal.returns-clause-any_moment
returns-clause-any_moment g c =
    both_read g.D.Disk g.met.D.Disk.counts_now c.args.first.now c.args.second.now c.rest_whole.new.device c.rest_whole.ensures.reads c.rest_whole-2.new.device c.rest_whole-2.ensures.reads
