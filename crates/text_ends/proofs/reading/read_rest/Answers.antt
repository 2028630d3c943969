use Rattle.std.proofs.Common.{ap, sym, subst, ◌∙◌, arith}
use Rattle.std.specs.Prelude.{List}
use Rattle.hl_base.specs.Gives.{Gives}
use Rattle.hl_base.specs.Pieces.{bytes_in}
use Rattle.hl_base.specs.declared.items.Piece.{Piece}
use Rattle.entry_reader.specs.Causes.{cause_in}
use Rattle.text_ends.specs.Told.{AreInside, told_on}
use Rattle.text_ends.proofs.Walking.{Items, inside}
use Rattle.text_ends.proofs.reading.read_rest.Goals as goal

pub read_pieces-requires : goal.read_pieces-requires
read_pieces-requires g c =
    subst (AreInside c.args.place.bytes c.args.place.lines c.args.rest.now) (sym c.as_slice.ensures)
    (inside c.args.place.bytes c.args.place.lines c.args.rest.now c.in_ok-pieces.pieces c.requires.few c.requires.lines c.in_ok-pieces.ensures.within)

pub returns-clause-value : goal.returns-clause-value
returns-clause-value g c =
    subst (λ (ps : List Piece). Gives (λ (items : Items). items) cause_in c.read_pieces.result (told_on c.args.end.now.context c.args.place.bytes c.args.place.lines c.args.rest.now ps))
    (c.as_slice.ensures ∙ c.in_ok-pieces.ensures.cut) c.read_pieces.ensures.value

pub returns-clause-read : goal.returns-clause-read
returns-clause-read g c = omega (arith, c.read_pieces.ensures.bound, ap bytes_in c.as_slice.ensures, c.in_ok-pieces.ensures.whole)
