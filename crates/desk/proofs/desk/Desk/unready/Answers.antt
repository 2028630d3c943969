use Rattle.std.proofs.Common.{ℕ, ap, ◌∙◌}
use Rattle.live_journal.specs.Loading.{first_of}
use Rattle.desk.specs.Desks.{state_of}
use Rattle.desk.specs.States.{full_cases}
use Rattle.desk.proofs.Rooms.{some_told}
use Rattle.desk.proofs.desk.Desk.unready.Goals as goal

pub full-requires : goal.full-requires
full-requires g c = some_told c.record_size-size.result c.args.ready.now.change c.record_size-size.ensures

pub returns : goal.returns
returns g c =
    c.full.ensures ∙ ap (λ (n : ℕ). first_of (full_cases (state_of c.args.self.now) c.args.deed.now.mark c.args.ready.now.states n)) c.record_size-size.ensures
