use Rattle.std.proofs.Common.{sym, ap, ◌∙◌, rules}
use Rattle.std.specs.List.{flat_map}
use Rattle.std.proofs.lemmas.Iterator.Adapters.{YieldsList-from_vec}
use Rattle.std.proofs.lemmas.Iterator.Consumers.{YieldsList-end}
use Rattle.std.proofs.lemmas.List.{map-id}
use Rattle.book.specs.declared.transaction.Posting.{Posting}
use Rattle.entry_balance.specs.Fill.{filled_posting}
use Rattle.entry_balance.proofs.Filled.{filled-is}
use Rattle.entry_balance.proofs.fill.fill_anew.Goals as goal

pub returns : goal.returns
returns c =
    let plan = c.args.plan.now in
    let end = YieldsList-end (YieldsList-from_vec {s = c.into_iter-posting-iterator.result} c.args.postings.items (search rules) (search rules)) c.loop-posting.yielded c.loop-posting.posting-iterator c.loop-posting.yielded_by c.next.result c.next.new.self c.in-None.is c.next.ensures.steps in
    c.from_vec.ensures ∙ c.loop-posting.invariant.filled
    ∙ ap (flat_map (λ (p : Posting). filled_posting plan.real.items plan.balanced.items plan.recorded p p.amount)) (sym (map-id c.loop-posting.yielded) ∙ end.0)
    ∙ filled-is c.args.postings.items plan.real.items plan.balanced.items plan.recorded c.requires.real c.requires.balanced c.requires.free c.requires.recorded
