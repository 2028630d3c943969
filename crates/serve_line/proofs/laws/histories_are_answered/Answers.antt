use Rattle.std.proofs.Common.{List, subst}
use Rattle.desk.specs.Desks.{state_of}
use Rattle.desk.specs.Entries.{Entry}
use Rattle.turn_lock.specs.declared.known.Entered.{Entered}
use Rattle.shared_desk.specs.Histories.{IsLegal}
use Rattle.serve_line.proofs.ReplyRuns.{replies_as_runs}
use Rattle.serve_line.proofs.laws.histories_are_answered.Goals as goal

pub returns : goal.returns
returns g c = λ opening last history legal loads. λ earlier later x is.
    let legal_here = subst (λ (h : List (Entered Entry)). IsLegal opening h last) is legal in (
      c.each_is_answered.ensures opening last earlier later x legal_here,
      λ words asks.
          let fresh = c.reports_are_fresh.ensures opening last earlier later x words legal_here loads asks in (
            fresh.0,
            fresh.1,
            fresh.2,
            fresh.3,
            replies_as_runs (state_of fresh.0) x.entry.day.0 words x.entry.reply fresh.2 fresh.3,
          ),
    )
