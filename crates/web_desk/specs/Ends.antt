-- How a connection ends.
use Rattle.std.specs.Prelude.{ℕ}
use Rattle.web_messages.specs.declared.broken.Broken.{Broken}
use Rattle.web_messages.specs.declared.broken.Broken.TheVariants as broken
use Rattle.web_messages.specs.Streams.{Ending, over, last, unframed, bad_head, long_head, long_body, cut_body, cut_head}
use Rattle.web_desk.specs.declared.conn_end.ConnEnd.{ConnEnd}
use Rattle.web_desk.specs.declared.conn_end.ConnEnd.TheVariants as conn
use Rattle.web_desk.specs.declared.conn_end.Way.TheVariants.{Read}

-- the end of a connection whose stream ends so; at is the place of the rest's first byte in the stream
abbrev pub end_of : ℕ → Ending → ConnEnd
end_of at over = conn.Closed
end_of at (last m) = conn.Closed
end_of at unframed = conn.Closed
end_of at bad_head = conn.BadHead at
end_of at long_head = conn.HeadTooLong
end_of at (long_body said) = conn.BodyTooLong said
end_of at (cut_body had said) = conn.CutOff had said
end_of at (cut_head had) = conn.HeadCut had

-- the end where no more of a stream was read
abbrev pub end_of_broken : Broken → ConnEnd
end_of_broken broken.Link = conn.LinkFault Read
end_of_broken broken.Memory = conn.Memory

-- a fault of the link, or want of memory
abbrev pub IsBroken : ConnEnd → Type 0
IsBroken (conn.LinkFault way) = Unit {0}
IsBroken conn.Memory = Unit {0}
IsBroken other = ⊥

-- The stream came to its end, or was closed after a message; or the connection broke off before.
abbrev pub EndsWell : ConnEnd → Type 0
EndsWell conn.Closed = Unit {0}
EndsWell (conn.LinkFault way) = Unit {0}
EndsWell conn.Spent = Unit {0}
EndsWell conn.Memory = Unit {0}
EndsWell other = ⊥
