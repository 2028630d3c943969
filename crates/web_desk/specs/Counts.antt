-- Which failed calls of a link were counted.
use Rattle.std.specs.Prelude.{◌≡◌, ℕ, Result, Ok, Err}
use Rattle.hl_base.specs.Causes.{Rose}
use Rattle.web_desk.specs.declared.conn_end.ConnEnd.{ConnEnd}
use Rattle.web_desk.specs.declared.conn_end.ConnEnd.TheVariants as conn
use Rattle.web_desk.specs.declared.conn_end.Way.TheVariants.{Read, Write}

-- A fault of a link was counted as one of its way, and nothing else was.
abbrev pub Counted : ConnEnd → ℕ → ℕ → ℕ → ℕ → Type 0
Counted (conn.LinkFault Read) reads reads_now writes writes_now = Rose reads reads_now × (writes_now ≡ writes)
Counted (conn.LinkFault Write) reads reads_now writes writes_now = (reads_now ≡ reads) × Rose writes writes_now
Counted other reads reads_now writes writes_now = (reads_now ≡ reads) × (writes_now ≡ writes)

-- nothing was counted where a call went well
abbrev pub CountedIn : {T : Type 0} → Result T ConnEnd → ℕ → ℕ → ℕ → ℕ → Type 0
CountedIn (Ok x) reads reads_now writes writes_now = (reads_now ≡ reads) × (writes_now ≡ writes)
CountedIn (Err end) reads reads_now writes writes_now = Counted end reads reads_now writes writes_now
