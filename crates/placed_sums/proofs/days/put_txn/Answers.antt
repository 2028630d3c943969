use Rattle.std.proofs.Common.{◌≡◌, ◌∙◌, ◌<◌, ◌+◌, ℕ, List, length, get_or, drop, sym, ap, subst, arith}
use Rattle.std.proofs.lemmas.List.{drop_all}
use Rattle.hl_time.specs.declared.day.Day.{Day}
use Rattle.book.specs.declared.transaction.Posting.{Posting}
use Rattle.placed_sums.specs.Placing.{with_place, with_postings}
use Rattle.placed_sums.specs.declared.on_day.OnDay.{OnDay}
use Rattle.placed_sums.proofs.Daily.{postings_more}
use Rattle.placed_sums.proofs.days.put_txn.Goals as goal

pub loop-posting-preserved : goal.loop-posting-preserved
loop-posting-preserved c =
    let i : ℕ = c.loop-posting.posting-index in
    let p : Posting = c.posting-item.result in
    let same = c.as_slice-posting-items.ensures in
    let inside : i < length c.args.txn.now.postings = omega (arith, ap length same) in
    let places = c.loop-posting.places.items in
    let on : Day → OnDay = λ d. record { day = d; number = c.args.number } in
    record {
      rise = c.in_ok-put_place.ensures.rise;
      rest = postings_more (with_postings c.args.number c.args.txn.now c.args.places.now.items c.args.txn.now.postings) places c.put_place.new.places.items c.args.number c.args.txn.now c.args.txn.now.postings i p inside
          (subst (λ (ps : List Posting). p ≡ get_or ps i p) same c.posting-item.is) c.loop-posting.invariant.rest
          (c.in_ok-put_place.ensures.places ∙ ap (λ (d : Day). with_place (on d) places) c.day_in-day.ensures);
    }

pub returns-clause-places : goal.returns-clause-places
returns-clause-places c =
    let whole = drop_all c.loop-posting.posting-index c.args.txn.now.postings (omega (arith, ap length c.as_slice-posting-items.ensures)) in
    sym (ap (with_postings c.args.number c.args.txn.now c.loop-posting.places.items) whole) ∙ c.loop-posting.invariant.rest
