use Rattle.std.proofs.Common.{◌≡◌, ◌+◌, ◌≤◌, List, ◌++◌, length, Option, Some, Result, Ok, Err, sym, ap, subst, ◌∙◌, arith}
use Rattle.std.specs.Prelude.{IfOk, IfSome}
use Rattle.std.proofs.lemmas.Result.{err_from_is_err_and}
use Rattle.hl_base.specs.Counts.{Counts}
use Rattle.additions.specs.Meaning.{IsTold, Means}
use Rattle.additions.specs.declared.book_end.Added.{Added}
use Rattle.additions.specs.declared.fault.AddFault.{AddFault}
use Rattle.live_journal.specs.Checking.{CountsBytes, CountsRefused}
use Rattle.live_journal.specs.Trying.{journal_at}
use Rattle.live_journal.proofs.Checking.{none_refused, no_bytes, put_refused}
use Rattle.live_journal.proofs.Coming.{add_behind, adds_plain, come_so, comes_some, may_stand, unadded}
use Rattle.live_journal.proofs.Trying.{put_bytes}
use Rattle.live_journal.proofs.adding.come.Goals as goal

pub judge_count-requires-clause-loaded : goal.judge_count-requires-clause-loaded
judge_count-requires-clause-loaded g c = c.requires.loaded

pub judge_count-requires-clause-add : goal.judge_count-requires-clause-add
judge_count-requires-clause-add g c = add_behind c.args.editing.now c.requires.editing c.args.loaded.now c.requires.add c.requires.loaded

pub judge_count-requires-clause-short : goal.judge_count-requires-clause-short
judge_count-requires-clause-short g c = c.in_ok-judge_size.ensures.good

pub comes_to-requires : goal.comes_to-requires
comes_to-requires g c =
    may_stand c.args.editing.now c.args.loaded.now c.requires.loaded (add_behind c.args.editing.now c.requires.editing c.args.loaded.now c.requires.add c.requires.loaded) c.in_ok-judge_size.ensures.good

pub unwrap-requires : goal.unwrap-requires
unwrap-requires g c =
    comes_some c.args.editing.now c.args.loaded.now c.requires.editing c.requires.loaded c.requires.add c.requires.entries c.in_ok-coming.coming c.in_ok-coming.ensures.value

pub returns-in_err-judge_size-clause-fault : goal.returns-in_err-judge_size-clause-fault
returns-in_err-judge_size-clause-fault g c =
    let p = err_from_is_err_and c.from_residual.result c.from_residual.ensures.1 in
    rw (p.1, p.2) (c.in_err-judge_size.ensures.fault c.args.editing.now.year)

pub returns-in_err-judge_count-clause-fault : goal.returns-in_err-judge_count-clause-fault
returns-in_err-judge_count-clause-fault g c =
    let p = err_from_is_err_and c.from_residual-in_err-judge_count.result c.from_residual-in_err-judge_count.ensures.1 in
    rw (p.1, p.2) c.in_err-judge_count.ensures.fault

pub returns-in_err-coming-clause-fault : goal.returns-in_err-coming-clause-fault
returns-in_err-coming-clause-fault g c =
    let p = err_from_is_err_and c.from_residual-in_err-coming.result c.from_residual-in_err-coming.ensures.1 in
    rw (p.1, p.2)
    (unadded c.args.editing.now c.args.loaded.now c.requires.editing c.requires.loaded c.requires.add c.requires.entries c.in_err-coming.field-0.0
    c.in_ok-judge_size.ensures.good c.in_ok-judge_count.ensures.good c.in_err-coming.ensures.means)

pub returns-in_err-judge_size-clause-refused : goal.returns-in_err-judge_size-clause-refused
returns-in_err-judge_size-clause-refused g c =
    let p = err_from_is_err_and c.from_residual.result c.from_residual.ensures.1 in
    rw p.1 (none_refused (journal_at c.args.editing.now) c.args.editing.now.edit.now c.args.steps.now)

pub returns-in_err-judge_count-clause-refused : goal.returns-in_err-judge_count-clause-refused
returns-in_err-judge_count-clause-refused g c =
    let p = err_from_is_err_and c.from_residual-in_err-judge_count.result c.from_residual-in_err-judge_count.ensures.1 in
    rw p.1 (none_refused (journal_at c.args.editing.now) c.args.editing.now.edit.now c.args.steps.now)

pub returns-in_err-coming-clause-refused : goal.returns-in_err-coming-clause-refused
returns-in_err-coming-clause-refused g c =
    let p = err_from_is_err_and c.from_residual-in_err-coming.result c.from_residual-in_err-coming.ensures.1 in
    let e = c.args.editing.now in
    rw p.1
    (put_refused (journal_at e) e.edit.now c.args.steps.now c.comes_to.new.steps (adds_plain e.edit.now c.requires.add)
    (put_bytes e c.args.steps.now c.comes_to.new.steps c.requires.editing (record { read = c.comes_to.ensures.read; others = c.comes_to.ensures.others })))

pub returns-in_err-judge_size-clause-counts : goal.returns-in_err-judge_size-clause-counts
returns-in_err-judge_size-clause-counts g c = no_bytes (length c.args.editing.now.bytes.now) c.args.steps.now

pub returns-in_err-judge_count-clause-counts : goal.returns-in_err-judge_count-clause-counts
returns-in_err-judge_count-clause-counts g c = no_bytes (length c.args.editing.now.bytes.now) c.args.steps.now

pub returns-in_err-coming-clause-counts : goal.returns-in_err-coming-clause-counts
returns-in_err-coming-clause-counts g c = record { read = c.comes_to.ensures.read; others = c.comes_to.ensures.others }

pub returns-clause-counts : goal.returns-clause-counts
returns-clause-counts g c = record { read = c.comes_to.ensures.read; others = c.comes_to.ensures.others }

pub returns-clause-coming : goal.returns-clause-coming
returns-clause-coming g c =
    come_so c.args.editing.now c.args.loaded.now c.requires.editing c.requires.loaded c.requires.add c.requires.entries c.in_ok-coming.coming c.unwrap.result
    c.unwrap.ensures c.in_ok-judge_size.ensures.good c.in_ok-judge_count.ensures.good c.in_ok-coming.ensures.value c.in_ok-coming.ensures.told c.in_ok-coming.ensures.means
