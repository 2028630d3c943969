use Rattle.hl_base.specs.Disk.{Cut}
use Rattle.hl_base.proofs.DiskLaws.{cut_same}
use Rattle.text_store.specs.Rest.{AfterStep}
use Rattle.text_store.proofs.Moments.{started, goes_on}
use Rattle.text_store.proofs.durable.cut_durably.Goals as goal

pub returns-in_err-cut-clause-any_moment : goal.returns-in_err-cut-clause-any_moment
returns-in_err-cut-clause-any_moment g c =
    let d = g.D.Disk in
    let old = c.args.device.now in
    let P = AfterStep (Cut c.args.len) (d.may_leave old) in
    let at_start = started d.moment d.left_since old P (λ f left. (f, g.met.D.Disk.only_now old f left, cut_same c.args.len f)) in
    goes_on d.moment d.left_since old old c.cut.new.self P _ at_start c.cut.ensures.time c.cut.ensures.crash

pub returns-clause-any_moment : goal.returns-clause-any_moment
returns-clause-any_moment g c =
    let d = g.D.Disk in
    let old = c.args.device.now in
    let P = AfterStep (Cut c.args.len) (d.may_leave old) in
    let at_start = started d.moment d.left_since old P (λ f left. (f, g.met.D.Disk.only_now old f left, cut_same c.args.len f)) in
    let shortened = goes_on d.moment d.left_since old old c.cut.new.self P _ at_start c.cut.ensures.time c.cut.ensures.crash in
    goes_on d.moment d.left_since old c.cut.new.self c.sync.new.self P _ shortened c.sync.ensures.time (λ f now. c.cut.ensures.crash f (c.sync.ensures.crash f now))
