-- What the maker of patterns tells after replies.
use Rattle.std.specs.Prelude.{ℕ, List, [], ◌∷◌, Option, IfSome, Result, Ok, Err}
use Rattle.query_terms.specs.Making.{Stays}
use Rattle.desk.specs.declared.reply.Reply.{Reply}
use Rattle.desk.specs.declared.request.Request.{Request}
use Rattle.desk.specs.Entries.{Entry}
use Rattle.desk.specs.Steps.{TellsReply}
use Rattle.web_desk.specs.Served.{AreOf}

-- after one reply, or after none was given
abbrev pub TellsAnswer : {E : Type 0} → Request → ℕ → ℕ → ℕ → Option (List ℕ) → Option (List ℕ) → Result (Reply × ℕ) E → Type 0
TellsAnswer q day before now last_before last_now (Ok answer) = TellsReply q day before now last_before last_now answer.0
TellsAnswer q day before now last_before last_now (Err spent) = Stays before now last_before last_now

-- after the replies of some entries: it changes with those alone whose pattern was refused
abbrev pub TellsEntries : ℕ → ℕ → Option (List ℕ) → Option (List ℕ) → List Entry → Type 0
TellsEntries before now last_before last_now [] = Stays before now last_before last_now
TellsEntries before now last_before last_now (entry ∷ entries) =
    (mid : ℕ) × (last_mid : Option (List ℕ)) × TellsReply entry.request entry.day.0 before mid last_before last_mid entry.reply
    × TellsEntries mid now last_mid last_now entries

-- Some entries are of the clock's day, where it has one, and the maker tells what their replies say.
abbrev pub AreAsked : Option ℕ → ℕ → ℕ → Option (List ℕ) → Option (List ℕ) → List Entry → Type 0
AreAsked always before now last_before last_now entries =
    IfSome always (λ day. AreOf day entries) × TellsEntries before now last_before last_now entries
