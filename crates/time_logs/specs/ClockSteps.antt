-- Timeclock lines one after another: the sessions that have ended, and the one that is open.
use Rattle.std.specs.Prelude.{ℕ, nat_lt, List, [], ◌∷◌, ◌++◌, Option, Some, None, Result, Ok, Err, if◌then◌else◌}
use Rattle.time_logs.specs.Faults.{◌>>=◌}
use Rattle.time_logs.specs.Sessions.{line_says, ended}
use Rattle.time_logs.specs.declared.clock_line.ClockLine.{ClockLine}
use Rattle.time_logs.specs.declared.clock_line.ClockLine.TheVariants as lines
use Rattle.time_logs.specs.declared.faults.LogFault.{LogFault}
use Rattle.time_logs.specs.declared.faults.LogFault.TheVariants as faults
use Rattle.time_logs.specs.declared.sessions.Begun.{Begun}
use Rattle.time_logs.specs.declared.sessions.Progress as declared
use Rattle.time_logs.specs.declared.sessions.Session.{Session}

-- the sessions of the lines so far, and the one that is open
pub record Progress : Type 0 where
  pub done : List Session
  pub open_one : Option Begun

abbrev pub progress_of : declared.Progress → Progress
progress_of p = record { done = p.done.items; open_one = p.open }

abbrev pub said_or_bad : ℕ → Option ClockLine → Result ClockLine LogFault
said_or_bad line None = Err (faults.BadLine line)
said_or_bad line (Some said) = Ok said

-- what a line says, or the fault of one that is of no form
abbrev pub line_said : ℕ → List ℕ → Result ClockLine LogFault
line_said line content = said_or_bad line (line_says content)

abbrev pub ended_one : List Session → Option Begun → ℕ → ℕ → Result Progress LogFault
ended_one done None line moment = Err (faults.Order line)
ended_one done (Some begun) line moment =
    if nat_lt moment begun.from then Err (faults.Backwards line)
    else Ok (record { done = done ++ ended begun moment ∷ []; open_one = None })

-- after a clock-out: it ends the session that is open, and isn't before it
abbrev pub after_end : Progress → ℕ → ℕ → Result Progress LogFault
after_end p line moment = ended_one p.done p.open_one line moment

abbrev pub begun_one : List Session → Option Begun → Begun → Result Progress LogFault
begun_one done (Some other) begun = Err (faults.Order begun.line)
begun_one done None begun = Ok (record { done = done; open_one = Some begun })

-- after a clock-in: none is open
abbrev pub after_begin : Progress → Begun → Result Progress LogFault
after_begin p begun = begun_one p.done p.open_one begun

abbrev pub after_line : Progress → ℕ → ClockLine → Result Progress LogFault
after_line p line lines.Gap = Ok p
after_line p line (lines.Out moment) = after_end p line moment
after_line p line (lines.In moment account description) =
    after_begin p (record { line = line; from = moment; account = account; description = description })

-- after a line with its number
abbrev pub after_content : Progress → ℕ → List ℕ → Result Progress LogFault
after_content p line content = line_said line content >>= λ said. after_line p line said

-- before any line
abbrev pub none_yet : Progress
none_yet = record { done = []; open_one = None }

abbrev pub closed : List Session → Option Begun → Result (List Session) LogFault
closed done None = Ok done
closed done (Some begun) = Err (faults.Open begun.line)

-- none is open at the end
abbrev pub finished : Progress → Result (List Session) LogFault
finished p = closed p.done p.open_one
