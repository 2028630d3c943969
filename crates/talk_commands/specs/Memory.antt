-- One connection to a journal in memory that begins as a text.
use Rattle.std.specs.Prelude.{◌≡◌, ◌≤◌, ℕ, List, [], None, Some, Result, Ok, Err}
use Rattle.hl_base.specs.declared.disk.Disk.{Ghosts}
use Rattle.live_journal.specs.Loading.{fault_of}
use Rattle.text_store.specs.Edits.{whole_size}
use Rattle.text_store.specs.Files.{fresh}
use Rattle.text_store.specs.Stores.{bounds, disks}
use Rattle.desk.specs.Entries.{Entry}
use Rattle.desk.specs.States.{State}
use Rattle.desk.specs.declared.desk.Desk.{Desk}
use Rattle.desk.specs.declared.request.Allow.{Allow}
use Rattle.store_making.specs.Refusals.{IsOfText}
use Rattle.store_making.specs.declared.refusal.JournalRefusal.{JournalRefusal}
use Rattle.store_commands.specs.Asking.{Patterns, PatternsStay}
use Rattle.web_desk.specs.declared.conn_end.ConnEnd.{ConnEnd}
use Rattle.talk_commands.specs.Histories.{IsHistory}
use Rattle.talk_commands.specs.Links.{IsHeld, IsSilent, Wire}

-- the most bytes of each file of its store
abbrev pub room : ℕ
room = 67108864

-- a journal of a text at revision 0, with what its requests may do
abbrev pub begun : List ℕ → Allow → State
begun text level = record { text = text; latest = []; revision = 0; allowed = level; size = whole_size (fresh text); limit = room }

-- A connection was answered from a journal that begins as a text, which loads; its entries are a history from there.
pub record TalkedFrom (text : List ℕ) (level : Allow) (day : ℕ) (p : Patterns) (w : Wire) (end : ConnEnd) : Type 0 where
  pub loads : fault_of None text ≡ None
  pub entries : List Entry
  pub history : IsHistory (begun text level) entries
  pub held : IsHeld day p w end entries

-- It was; or the text makes no journal, for its limits or its first fault, or memory ran out, and nothing was read or sent.
abbrev pub TalksFrom : List ℕ → Allow → ℕ → Patterns → Wire → Result ConnEnd JournalRefusal → Type 0
TalksFrom text level day p w (Ok end) = TalkedFrom text level day p w end
TalksFrom text level day p w (Err e) = IsOfText e (fault_of None text) × PatternsStay p × IsSilent w

-- no call of a machine's disks fails
pub record NeverFails {D : Type 0} {g : Ghosts D} (most : ℕ) (desk : Desk D g) : Type 0 where
  pub first : g.unfailing_to (disks desk.store).0 ≡ Some most
  pub second : g.unfailing_to (disks desk.store).1 ≡ Some most
  pub reach_first : g.reach (disks desk.store).0 ≤ most
  pub reach_second : g.reach (disks desk.store).1 ≤ most
  pub bound_first : (bounds desk.store).0 ≤ most
  pub bound_second : (bounds desk.store).1 ≤ most
