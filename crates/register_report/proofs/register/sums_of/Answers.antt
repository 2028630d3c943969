use Rattle.std.proofs.Common.{arith}
use Rattle.register_report.proofs.Stepping.{sum_fits, fits_next, sum_next, sum_done}
use Rattle.register_report.proofs.register.sums_of.Goals as goal

pub add_taking-requires : goal.add_taking-requires
add_taking-requires c =
    sum_fits c.args.takings.now c.loop-taking.taking-index c.loop-taking.sums c.taking-item.result (omega arith) c.taking-item.is c.loop-taking.invariant.fits

pub loop-taking-preserved : goal.loop-taking-preserved
loop-taking-preserved c =
    let ts = c.args.takings.now in
    let i = c.loop-taking.taking-index in
    record {
      left = sum_next ts i c.loop-taking.sums c.taking-item.result (omega arith) c.taking-item.is c.add_taking.new.sums c.in_ok-add_taking.ensures _ c.loop-taking.invariant.left;
      fits = fits_next ts i c.loop-taking.sums c.taking-item.result (omega arith) c.taking-item.is c.add_taking.new.sums c.in_ok-add_taking.ensures c.loop-taking.invariant.fits;
    }

pub returns : goal.returns
returns c = sum_done c.args.takings.now c.loop-taking.taking-index c.loop-taking.sums _ (omega arith) c.loop-taking.invariant.left
