use Rattle.std.proofs.Common.{sym, ap, subst, ◌∙◌}
use Rattle.index_cells.specs.Changed.{put_in}
use Rattle.index_cells.specs.Keeps.{Keeps}
use Rattle.index_cells.specs.Names.{NamesOf}
use Rattle.index_cells.specs.Posted.{posted_in}
use Rattle.index_cells.proofs.Replacing.{can_put}
use Rattle.index_cells.proofs.tests.kept_behind.Goals as goal

pub prepare-requires : goal.prepare-requires
prepare-requires c =
    record { room = (c.args.front.now, (c.args.all.now, can_put c.in_ok-kept.kept c.args.front.now c.args.more.now c.args.all.now c.requires c.in_ok-kept.ensures.keeps c.in_ok-check_book-2.ensures.fits)) }

pub returns : goal.returns
returns c =
    let can = can_put c.in_ok-kept.kept c.args.front.now c.args.more.now c.args.all.now c.requires c.in_ok-kept.ensures.keeps c.in_ok-check_book-2.ensures.fits in
    let same = c.put.ensures ∙ ap (put_in c.in_ok-changed.changed) c.prepare.ensures.stays in
    record {
      keeps = subst (Keeps (posted_in c.args.all.now)) (sym same) (c.in_ok-changed.ensures.keeps c.args.front.now c.args.all.now can);
      dated = c.in_ok-check_book-2.ensures.dated;
      names = subst (NamesOf (posted_in c.args.all.now)) (sym same) (c.in_ok-changed.ensures.names c.args.front.now c.args.all.now can c.in_ok-changed.ensures.still c.in_ok-kept.ensures.names);
    }
