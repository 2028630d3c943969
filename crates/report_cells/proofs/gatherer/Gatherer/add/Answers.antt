use Rattle.std.proofs.Common.{◌≡◌, ℕ, Bool, ◌||◌, List, [], ◌∷◌, Option, sym, ap, subst, ◌∙◌}
use Rattle.std.proofs.lemmas.Bool.{or_parts}
use Rattle.hl_time.specs.declared.spans.Span.{Span}
use Rattle.report_cells.specs.Follows.{Follow}
use Rattle.report_cells.specs.Gathered.{Gathered, IsBegun, Adds, full_with}
use Rattle.report_cells.specs.Kept.{HasFewPlaces, CanTake}
use Rattle.report_cells.specs.Places.{place}
use Rattle.report_cells.specs.Taken.{Shared, Taken}
use Rattle.report_cells.specs.Turned.{fills, turned_with}
use Rattle.report_cells.proofs.Adds.{adds_full, adds_row}
use Rattle.report_cells.proofs.Held.{held_of, can_take}
use Rattle.report_cells.proofs.Walking.{on_ok}
use Rattle.report_cells.proofs.gatherer.Gatherer.add.Goals as goal

pub note-requires : goal.note-requires
note-requires c =
    let g : Gathered = record { rows = c.self.inside.rows.entries; turnovers = c.self.inside.turnovers.entries; full = c.self.inside.full; columns = c.self.inside.columns; reach = c.self.inside.reach } in
    let begun : IsBegun g = subst IsBegun (sym c.self.view_is) c.requires in
    let held = held_of begun.0 begun.1 begun.2 g begun.3 in
    held.sized.rising

pub returns-then-self : goal.returns-then-self
returns-then-self c =
    let g : Gathered = record { rows = c.self.inside.rows.entries; turnovers = c.self.inside.turnovers.entries; full = c.self.inside.full; columns = c.self.inside.columns; reach = c.self.inside.reach } in
    let t = c.args.taking.now in
    let amount : c.taking.inside.amount ≡ t.amount = ap (λ (t : Taken). t.amount) c.taking.view_is in
    let is : c.either-self-inside.result ≡ full_with t g = c.either-self-inside.ensures ∙ ap (λ (b : Bool). g.full || b) (c.in_ok-fills.ensures.fills ∙ ap (λ (a : Option Shared). fills a g.turnovers) amount) in
    let few : HasFewPlaces t.amount = subst HasFewPlaces amount c.in_ok-fills.ensures.few in
    let noted : c.note.new.kept.entries ≡ turned_with t.amount g.turnovers = c.in_ok-fills.ensures.new ∙ ap (λ (a : Option Shared). turned_with a g.turnovers) amount in
    subst (λ (old : Gathered). Adds old (t ∷ []) (record { rows = g.rows; turnovers = c.note.new.kept.entries; full = c.either-self-inside.result; columns = g.columns; reach = g.reach })) c.self.view_is
    (adds_full g t few c.note.new.kept.entries c.either-self-inside.result noted is c.if-self.true)

pub place_of-place-requires : goal.place_of-place-requires
place_of-place-requires c =
    let g : Gathered = record { rows = c.self.inside.rows.entries; turnovers = c.self.inside.turnovers.entries; full = c.self.inside.full; columns = c.self.inside.columns; reach = c.self.inside.reach } in
    let begun : IsBegun g = subst IsBegun (sym c.self.view_is) c.requires in
    let held = held_of begun.0 begun.1 begun.2 g begun.3 in
    subst Follow (sym (c.as_slice.ensures ∙ held.by_columns)) begun.3.follow

pub add_taking-requires-clause-ordered : goal.add_taking-requires-clause-ordered
add_taking-requires-clause-ordered c =
    let g : Gathered = record { rows = c.self.inside.rows.entries; turnovers = c.self.inside.turnovers.entries; full = c.self.inside.full; columns = c.self.inside.columns; reach = c.self.inside.reach } in
    let begun : IsBegun g = subst IsBegun (sym c.self.view_is) c.requires in
    let held = held_of begun.0 begun.1 begun.2 g begun.3 in
    let t = c.args.taking.now in
    let amount : c.taking.inside.amount ≡ t.amount = ap (λ (t : Taken). t.amount) c.taking.view_is in
    let is : c.either-self-inside.result ≡ full_with t g = c.either-self-inside.ensures ∙ ap (λ (b : Bool). g.full || b) (c.in_ok-fills.ensures.fills ∙ ap (λ (a : Option Shared). fills a g.turnovers) amount) in
    let parts = or_parts g.full (fills t.amount g.turnovers) (sym is ∙ c.if-self.false) in
    (held.kept parts.0).1.ordered

pub add_taking-requires-clause-fits : goal.add_taking-requires-clause-fits
add_taking-requires-clause-fits c =
    let g : Gathered = record { rows = c.self.inside.rows.entries; turnovers = c.self.inside.turnovers.entries; full = c.self.inside.full; columns = c.self.inside.columns; reach = c.self.inside.reach } in
    let begun : IsBegun g = subst IsBegun (sym c.self.view_is) c.requires in
    let held = held_of begun.0 begun.1 begun.2 g begun.3 in
    let t = c.args.taking.now in
    let amount : c.taking.inside.amount ≡ t.amount = ap (λ (t : Taken). t.amount) c.taking.view_is in
    let is : c.either-self-inside.result ≡ full_with t g = c.either-self-inside.ensures ∙ ap (λ (b : Bool). g.full || b) (c.in_ok-fills.ensures.fills ∙ ap (λ (a : Option Shared). fills a g.turnovers) amount) in
    let few : HasFewPlaces t.amount = subst HasFewPlaces amount c.in_ok-fills.ensures.few in
    let went : c.place_of-place.result ≡ place g.reach g.columns t.day =
    c.place_of-place.ensures
    ∙ ap (λ (cs : List Span). place g.reach cs c.taking.inside.day.0) c.as_slice.ensures
    ∙ ap (λ (t : Taken). place g.reach g.columns t.day) c.taking.view_is in
    subst (λ (at : Option ℕ). CanTake c.len.result at t g.rows) (sym went)
    (can_take begun.0 begun.1 begun.2 g held t few (sym is ∙ c.if-self.false) c.len.result c.len.ensures)

pub returns : goal.returns
returns c =
    let g : Gathered = record { rows = c.self.inside.rows.entries; turnovers = c.self.inside.turnovers.entries; full = c.self.inside.full; columns = c.self.inside.columns; reach = c.self.inside.reach } in
    let t = c.args.taking.now in
    let amount : c.taking.inside.amount ≡ t.amount = ap (λ (t : Taken). t.amount) c.taking.view_is in
    let is : c.either-self-inside.result ≡ full_with t g = c.either-self-inside.ensures ∙ ap (λ (b : Bool). g.full || b) (c.in_ok-fills.ensures.fills ∙ ap (λ (a : Option Shared). fills a g.turnovers) amount) in
    let few : HasFewPlaces t.amount = subst HasFewPlaces amount c.in_ok-fills.ensures.few in
    let noted : c.note.new.kept.entries ≡ turned_with t.amount g.turnovers = c.in_ok-fills.ensures.new ∙ ap (λ (a : Option Shared). turned_with a g.turnovers) amount in
    let went : c.place_of-place.result ≡ place g.reach g.columns t.day =
    c.place_of-place.ensures
    ∙ ap (λ (cs : List Span). place g.reach cs c.taking.inside.day.0) c.as_slice.ensures
    ∙ ap (λ (t : Taken). place g.reach g.columns t.day) c.taking.view_is in
    on_ok c.add_taking.result
    (λ added. subst (λ (old : Gathered). Adds old (t ∷ []) (record { rows = c.add_taking.new.rows.entries; turnovers = c.note.new.kept.entries; full = c.either-self-inside.result; columns = g.columns; reach = g.reach })) c.self.view_is
    (adds_row g t few c.note.new.kept.entries c.either-self-inside.result noted is c.if-self.false c.len.result c.place_of-place.result c.add_taking.new.rows.entries c.len.ensures went added))
    c.add_taking.ensures
