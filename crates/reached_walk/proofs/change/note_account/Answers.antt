use Rattle.std.proofs.Common.{sym, ap, ◌∙◌}
use Rattle.std.specs.List.{list_any}
use Rattle.reached_walk.specs.Notes.{is_since}
use Rattle.reached_walk.proofs.Noting.{notes-known, notes-new}
use Rattle.reached_walk.proofs.change.note_account.Goals as goal

pub returns-then-is_noted : goal.returns-then-is_noted
returns-then-is_noted c =
    notes-known c.args.watchers.now c.args.spot c.args.account.now c.args.changes.now.items
    (ap (list_any (is_since c.args.account.now c.args.spot)) (sym c.as_slice.ensures.value) ∙ sym c.is_noted.ensures ∙ c.if-is_noted.true)

pub returns : goal.returns
returns c =
    notes-new c.args.watchers.now c.args.spot c.args.account.now c.args.changes.now.items c.push.new.self.items c.in_ok-change.change
    c.in_ok-push.ensures.items c.in_ok-change.ensures.account c.in_ok-change.ensures.since c.in_ok-change.ensures.next
