use Rattle.std.proofs.Common.{◌≡◌, ◌<◌, List, length, set, sym, ap, subst, ◌∙◌}
use Rattle.book.specs.declared.item.Placed.{Placed}
use Rattle.changed_texts.specs.OneEntry.{IsMet, items_met}
use Rattle.kept_texts.specs.Keeping.{IsWith}
use Rattle.walked_texts.specs.Making.{book_with}
use Rattle.loaded_texts.proofs.changing.with_gaps.Goals as goal

pub meet-requires-clause-number : goal.meet-requires-clause-number
meet-requires-clause-number c = subst (λ (xs : List Placed). c.args.number < length xs) (sym c.as_slice.ensures) c.requires.number

pub meet-requires-clause-met : goal.meet-requires-clause-met
meet-requires-clause-met c = subst (λ (xs : List Placed). IsMet c.args.number xs c.args.met.now) (sym c.as_slice.ensures) c.requires.met

pub returns : goal.returns
returns c =
    let items = c.args.loaded.now.items in
    let txns = c.args.loaded.now.book.txns in
    let are = c.requires.parts in
    let book = book_with (set items c.args.number c.args.met.now.placed) txns c.args.parts.forms.items in
    record {
      room = are.room;
      inside = are.inside;
      solves = are.solves;
      fits = are.fits;
      edited = subst (λ (xs : List Placed). IsWith (items_met c.args.number xs c.args.met.now) book c.meet.new.self) c.as_slice.ensures
          (c.in_ok-meet.ensures.ok book (subst (λ (xs : List Placed). IsWith (set xs c.args.number c.args.met.now.placed) book c.args.parts.edited) (sym c.as_slice.ensures) are.edited));
      end = are.end;
      kept = are.kept;
    }
