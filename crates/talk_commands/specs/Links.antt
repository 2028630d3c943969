-- One connection over a link, and the entries that it made.
use Rattle.std.specs.Prelude.{◌≡◌, ◌≢◌, ℕ, List, Option, IfSome}
use Rattle.hl_base.specs.declared.link.Link.{Ghosts as Links}
use Rattle.web_messages.specs.Streams.{IsOfWhole}
use Rattle.web_messages.specs.declared.page.Page.TheVariants as pages
use Rattle.desk.specs.Entries.{Entry}
use Rattle.store_commands.specs.Asking.{Patterns}
use Rattle.web_desk.specs.Counts.{Counted}
use Rattle.web_desk.specs.Ends.{EndsWell}
use Rattle.web_desk.specs.Makers.{TellsEntries}
use Rattle.web_desk.specs.Sent.{Sends}
use Rattle.web_desk.specs.Served.{AreOf, Served}
use Rattle.web_desk.specs.declared.conn_end.ConnEnd.{ConnEnd}
use Rattle.web_desk.specs.declared.conn_end.ConnEnd.TheVariants as conn

-- what a link tells: the bytes that were to come, those that had been sent and those that have been then, and how many of its
-- reads and writes failed, before and then
pub record Wire : Type 0 where
  pub coming : Option (List ℕ)
  pub sent : Option (List ℕ)
  pub sent_now : Option (List ℕ)
  pub read_faults : ℕ
  pub read_faults_now : ℕ
  pub write_faults : ℕ
  pub write_faults_now : ℕ

abbrev pub wire : {K : Type 0} → Links K → K → K → Wire
wire k old new = record {
  coming = k.coming old;
  sent = k.sent old;
  sent_now = k.sent new;
  read_faults = k.read_faults old;
  read_faults_now = k.read_faults new;
  write_faults = k.write_faults old;
  write_faults_now = k.write_faults new;
}

-- A connection ended so, and these are its entries, in order: those of the messages that asked, each on this day. What was sent,
-- where the link tells it, are the answers to the messages that came, and then what the end brings; there is no page.
pub record IsHeld (day : ℕ) (p : Patterns) (w : Wire) (end : ConnEnd) (entries : List Entry) : Type 0 where
  pub days : AreOf day entries
  pub served : IfSome w.coming (λ bytes. Sends w.sent w.sent_now (λ text. Served pages.Absent bytes end entries text))
  -- the maker's count of refused patterns rises with those entries alone that say so
  pub maker : TellsEntries p.before p.now p.last_before p.last_now entries
  -- a fault of the link was counted as one of its way
  pub counted : Counted end w.read_faults w.read_faults_now w.write_faults w.write_faults_now
  -- the one who was asked is never spent: a connection has fewer entries than the lock's history has room for
  pub unspent : end ≢ conn.Spent
  -- a stream of whole messages within the limits is answered to its end, unless the connection breaks off before
  pub whole : IfSome w.coming (λ bytes. IsOfWhole bytes → EndsWell end)

-- nothing was read of a link or sent over it, so far as it tells
pub record IsSilent (w : Wire) : Type 0 where
  pub sent : w.sent_now ≡ w.sent
  pub reads : w.read_faults_now ≡ w.read_faults
  pub writes : w.write_faults_now ≡ w.write_faults
