use Rattle.std.proofs.Common.{◌≡◌, ◌*◌, List, [], ◌∷◌, ◌++◌, Some, None, ap, sym, subst, ◌∙◌}
use Rattle.atomic_table.specs.Table.{opening}
use Rattle.turn_lock.specs.Rule.{Rule, first_view}
use Rattle.turn_lock.specs.declared.known.Opening.{Opening}
use Rattle.turn_lock.specs.declared.known.Place.{Place}
use Rattle.turn_lock.proofs.Keeping.{starts_as}
use Rattle.turn_lock.proofs.turn.Turn.new.Goals as goal

pub new-requires : goal.new-requires
new-requires g c =
    let P : Type 0 = Place g.row.T.Denot g.row.T-Entry.Denot in
    let key : Opening g.row.T.Denot = record { done = c.args.done; first = c.of.result } in
    let place : P = record { value = Some c.args.value; last = None } in
    let is : c.push.new.self.items ≡ place ∷ [] = c.in_default.ensures.items ∙ ap (λ (xs : List P). xs ++ place ∷ []) c.new-slots.ensures.items in
    subst (λ (xs : List P). Rule g.T.Kept.state g.T.Kept.leads key (opening (2 * c.args.done ∷ []) xs (first_view key))) (sym is) (starts_as g.T.Kept.state g.T.Kept.leads key c.args.value c.requires c.of.ensures)
