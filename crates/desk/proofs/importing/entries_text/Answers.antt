use Rattle.desk.proofs.Texts.{no_entries, some_entries}
use Rattle.desk.proofs.importing.entries_text.Goals as goal

pub returns-in-None : goal.returns-in-None
returns-in-None c = no_entries c.args.context.now c.args.txns.now c.new.result c.new.ensures c.in-None.ensures.cases

pub returns-in_ok-push_further-in-Some : goal.returns-in_ok-push_further-in-Some
returns-in_ok-push_further-in-Some c =
    some_entries c.args.context.now c.args.txns.now c.in-Some.first.now c.in-Some.further.now c.new-bytes.result.items c.push_entry.new.bytes.items c.push_further.new.bytes.items c.from_vec.result
    c.new-bytes.ensures.items c.in_ok-push_entry-in-Some.ensures c.in_ok-push_further-in-Some.ensures c.from_vec.ensures c.in-Some.ensures.cases.0
