use Rattle.std.proofs.Common.{take}
use Rattle.reached_walk.specs.Notes.{accounts_of, Notes}
use Rattle.reached_walk.proofs.change.note_postings.Given as goal

-- those of the postings so far are noted
abbrev pub invariant-loop-posting : goal.invariant-loop-posting
invariant-loop-posting l = Notes l.watchers l.spot (accounts_of (take l.posting-index l.postings)) l.fn.changes.items l.changes.items
