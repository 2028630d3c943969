use Rattle.std.proofs.Common.{◌+◌, ◌==◌, ◌<◌, ◌≤◌, cond, List, length, take, refl, ap, ◌∙◌, arith, rules}
use Rattle.std.specs.List.{list_any}
use Rattle.std.proofs.lemmas.List.{take_all}
use Rattle.hl_time.specs.declared.day.Day.{Day}
use Rattle.book.specs.declared.transaction.Posting.{Posting}
use Rattle.placed_sums.specs.Numbers.{is_on}
use Rattle.shared_days.specs.Days.{numbers_now}
use Rattle.shared_days.specs.Places.{with_number}
use Rattle.shared_days.proofs.Changes.{any-more, done-more}
use Rattle.shared_days.proofs.Fronts.{with-again}
use Rattle.shared_days.proofs.changing.put_postings.Goals as goal

pub loop-posting-init : goal.loop-posting-init
loop-posting-init c = λ day. refl

pub loop-posting-preserved : goal.loop-posting-preserved
loop-posting-preserved c = λ day.
    let i = c.loop-posting.posting-index in
    let p = c.posting-item.result in
    let inside : c.loop-posting.posting-index < length c.args.postings.now = search rules in
    let noted = c.in_ok-put_in.ensures day ∙ ap (λ (d : Day). cond (d.0 == day.0) (with_number c.args.number (numbers_now day c.loop-posting.days)) (numbers_now day c.loop-posting.days)) c.day_in-day.ensures in
    done-more (with_number c.args.number) (with-again c.args.number) (list_any (is_on day.0 c.args.txn.now) (take i c.args.postings.now)) (is_on day.0 c.args.txn.now p) (list_any (is_on day.0 c.args.txn.now) (take (i + 1) c.args.postings.now))
    (numbers_now day c.args.days.now) (numbers_now day c.loop-posting.days) (numbers_now day c.put_in.new.days)
    (any-more (is_on day.0 c.args.txn.now) c.args.postings.now i p inside c.posting-item.is) (c.loop-posting.invariant day) noted

pub returns : goal.returns
returns c = λ day.
    let past : length c.args.postings.now ≤ c.loop-posting.posting-index = omega arith in
    c.loop-posting.invariant day
    ∙ ap (λ (ps : List Posting). cond (list_any (is_on day.0 c.args.txn.now) ps) (with_number c.args.number (numbers_now day c.args.days.now)) (numbers_now day c.args.days.now)) (take_all c.loop-posting.posting-index c.args.postings.now past)
