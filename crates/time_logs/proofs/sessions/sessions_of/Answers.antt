use Rattle.std.proofs.Common.{List, None, ap, ◌∙◌, arith}
use Rattle.entry_reader.specs.Lines.{contents_of}
use Rattle.time_logs.specs.ClockSteps.{after_content, finished}
use Rattle.time_logs.specs.Faults.{◌>>=◌}
use Rattle.time_logs.specs.Walks.{walk}
use Rattle.time_logs.specs.declared.sessions.Session.{Session}
use Rattle.time_logs.proofs.Pairing.{sessions_are}
use Rattle.time_logs.proofs.sessions.sessions_of.Goals as goal

pub loop-rest-init : goal.loop-rest-init
loop-rest-init c = record {
  so_far =
      ap (λ (done : List Session). walk after_content (record { done = done; open_one = None }) 1 (contents_of c.args.text.now) >>= finished) c.new.ensures.items
      ∙ sessions_are (contents_of c.args.text.now);
  room = omega arith;
}
