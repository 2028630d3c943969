use Rattle.std.proofs.Common.{◌≡◌, ℕ, ◌==◌, ◌+◌, ◌-◌, ◌<◌, ◌≤◌, List, length, refl, sym, ap, subst, ◌∙◌, arith}
use Rattle.book.specs.declared.item.Placed.{Placed}
use Rattle.text_ends.specs.Ends.{last_of}
use Rattle.loaded_texts.specs.Keeping.{pieces_at}
use Rattle.loaded_texts.proofs.Places.{last_number, taken_change}
use Rattle.loaded_texts.proofs.made.take_change.Goals as goal

pub put_met-requires-clause-number : goal.put_met-requires-clause-number
put_met-requires-clause-number c = c.requires.number

pub put_met-requires-clause-can : goal.put_met-requires-clause-can
put_met-requires-clause-can c = c.requires.behind

pub put_met-requires-clause-met : goal.put_met-requires-clause-met
put_met-requires-clause-met c = c.requires.fits_there

pub put_changed-requires : goal.put_changed-requires
put_changed-requires c = c.requires.moves

pub put_moved-requires-clause-inside : goal.put_moved-requires-clause-inside
put_moved-requires-clause-inside c = c.requires.inside

pub put_moved-requires-clause-first : goal.put_moved-requires-clause-first
put_moved-requires-clause-first c = c.requires.first

pub put_moved-requires-clause-lines : goal.put_moved-requires-clause-lines
put_moved-requires-clause-lines c = c.requires.lines

pub overflow_sub-was_last : goal.overflow_sub-was_last
overflow_sub-was_last c = omega (arith, c.requires.number, c.len-count.ensures)

pub returns : goal.returns
returns c = λ year text bytes new h changes.
    let old = c.args.loaded.now in
    let last = c.last_piece-last.ensures ∙ ap (λ (xs : List Placed). last_of (pieces_at xs)) (c.as_slice.ensures ∙ c.put_met.ensures) in
    let was = ap (λ (k : ℕ). c.args.changed.number == (k - 1)) c.len-count.ensures ∙ last_number c.args.changed.number (length old.items) c.requires.number in
    taken_change year text bytes new old _ c.args.changed _ h changes c.put_met.ensures c.put_moved.ensures refl refl refl last was
    (λ n p items after book replaces move end with_. c.put_changed.ensures year text bytes items after book n p replaces move end with_)
