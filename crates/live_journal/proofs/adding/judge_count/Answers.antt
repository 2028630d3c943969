use Rattle.std.proofs.Common.{◌≡◌, ◌+◌, ◌<◌, ◌≤◌, List, length, Option, sym, ap, subst, ◌∙◌, arith}
use Rattle.std.proofs.lemmas.Result.{err_from_is_err_and}
use Rattle.hl_base.specs.Items.{items_of}
use Rattle.live_journal.proofs.Coming.{count_whole}
use Rattle.live_journal.proofs.Limits.{many_items, not_past}
use Rattle.live_journal.proofs.adding.judge_count.Goals as goal

pub count_behind-requires : goal.count_behind-requires
count_behind-requires c = c.requires.add.goes

pub returns-then-is_past-clause-fault : goal.returns-then-is_past-clause-fault
returns-then-is_past-clause-fault c =
    let e = c.args.editing.now in
    let size : c.in_ok-size.size ≡ length (items_of e.new.now) = omega (arith, c.in_ok-size.ensures, c.in_ok-more.ensures, c.len.ensures, count_whole e c.args.loaded.now c.requires.loaded c.requires.add) in
    many_items e.year e.new.now c.in_ok-size.size size c.requires.short (sym c.is_past.ensures ∙ c.if-is_past.true)

pub returns-clause-good : goal.returns-clause-good
returns-clause-good c =
    omega (arith, c.in_ok-size.ensures, c.in_ok-more.ensures, c.len.ensures, count_whole c.args.editing.now c.args.loaded.now c.requires.loaded c.requires.add, not_past 200000 c.in_ok-size.size (sym c.is_past.ensures ∙ c.if-is_past.false))
