use Rattle.std.proofs.Common.{length}
use Rattle.hl_base.specs.Disk.{Torn}
use Rattle.hl_base.proofs.DiskLaws.{torn_same}
use Rattle.text_store.specs.Rest.{AfterStep}
use Rattle.text_store.proofs.Moments.{started, goes_on}
use Rattle.text_store.proofs.durable.write_durably.Goals as goal

pub returns-in_err-write_at-clause-any_moment : goal.returns-in_err-write_at-clause-any_moment
returns-in_err-write_at-clause-any_moment g c =
    let d = g.D.Disk in
    let old = c.args.device.now in
    let P = AfterStep (Torn c.args.at (length c.args.piece.now)) (d.may_leave old) in
    let at_start = started d.moment d.left_since old P (λ f left. (f, g.met.D.Disk.only_now old f left, torn_same c.args.at (length c.args.piece.now) f)) in
    goes_on d.moment d.left_since old old c.write_at.new.self P _ at_start c.write_at.ensures.time c.write_at.ensures.crash

pub returns-clause-any_moment : goal.returns-clause-any_moment
returns-clause-any_moment g c =
    let d = g.D.Disk in
    let old = c.args.device.now in
    let P = AfterStep (Torn c.args.at (length c.args.piece.now)) (d.may_leave old) in
    let at_start = started d.moment d.left_since old P (λ f left. (f, g.met.D.Disk.only_now old f left, torn_same c.args.at (length c.args.piece.now) f)) in
    let written = goes_on d.moment d.left_since old old c.write_at.new.self P _ at_start c.write_at.ensures.time c.write_at.ensures.crash in
    goes_on d.moment d.left_since old c.write_at.new.self c.sync.new.self P _ written c.sync.ensures.time (λ f now. c.write_at.ensures.crash f (c.sync.ensures.crash f now))
