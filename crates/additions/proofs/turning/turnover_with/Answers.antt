use Rattle.std.proofs.Common.{◌≡◌, ◌≤◌, length, take_all, List, true, sym, subst, arith}
use Rattle.entry_balance.specs.Entry.{costs_fit}
use Rattle.additions.specs.declared.settling.Judged.{Judged}
use Rattle.additions.proofs.Judging.{Turned, all_at, turned_more}
use Rattle.additions.proofs.turning.turnover_with.Goals as goal

pub add-requires : goal.add-requires
add-requires c =
    subst (λ (j : Judged). costs_fit j.txn.postings ≡ true) (sym c.judged-item.is) (all_at c.args.more.now c.loop-judged.judged-index c.judged-item.result (omega arith) c.requires)

pub loop-judged-preserved : goal.loop-judged-preserved
loop-judged-preserved c = turned_more c.args.turnover.now c.loop-judged.all c.add.new.self c.args.more.now c.loop-judged.judged-index c.judged-item.result (omega arith) c.judged-item.is c.loop-judged.invariant c.in_ok-add.ensures

pub returns : goal.returns
returns c =
    let past : length c.args.more.now ≤ c.loop-judged.judged-index = omega arith in
    subst (λ (js : List Judged). Turned c.args.turnover.now c.loop-judged.all js) (take_all c.loop-judged.judged-index c.args.more.now past) c.loop-judged.invariant
