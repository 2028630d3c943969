use Rattle.std.proofs.Common.{◌<◌, length, arith}
use Rattle.book.specs.Styles.{style_in}
use Rattle.register_report.proofs.Stepping.{sum_fits, fits_next, written_next, written_all}
use Rattle.register_report.proofs.register.push_postings.Goals as goal

pub add_taking-requires : goal.add_taking-requires
add_taking-requires c =
    sum_fits c.args.shown.now c.loop-at.at c.loop-at.sums c.index-shown-at.result (omega (arith, c.loop-at-test.true, c.min-at-end.ensures)) c.index-shown-at.is c.loop-at.invariant.fits

pub loop-at-preserved : goal.loop-at-preserved
loop-at-preserved c =
    let heads = c.args.heads.now in
    let shown = c.args.shown.now in
    let in_heads : c.loop-at.at < length c.args.heads.now = omega (arith, c.loop-at-test.true, c.min-at-end.ensures) in
    let in_shown : c.loop-at.at < length c.args.shown.now = omega (arith, c.loop-at-test.true, c.min-at-end.ensures) in
    record {
      written = written_next (style_in c.args.styles.now) heads shown c.loop-at.at c.loop-at.sums c.loop-at.last _ c.loop-at.out.items c.index-heads-at.result c.index-shown-at.result
          in_heads in_shown c.index-heads-at.is c.index-shown-at.is c.loop-at.invariant.written
          c.add_taking.new.sums c.entries.result.now c.continues.result c.stamp.result c.push_posting.new.out.items c.push_sums.new.out.items
          c.in_ok-add_taking.ensures c.entries.ensures.value c.continues.ensures c.stamp.ensures c.in_ok-push_posting.ensures c.in_ok-push_sums.ensures;
      fits = fits_next shown c.loop-at.at c.loop-at.sums c.index-shown-at.result in_shown c.index-shown-at.is c.add_taking.new.sums c.in_ok-add_taking.ensures c.loop-at.invariant.fits;
    }

pub returns : goal.returns
returns c =
    written_all (style_in c.args.styles.now) c.args.heads.now c.args.shown.now c.loop-at.at c.loop-at.sums c.loop-at.last _ c.loop-at.out.items
    (omega (arith, c.loop-at-test.false, c.min-at-end.ensures)) c.loop-at.invariant.written
