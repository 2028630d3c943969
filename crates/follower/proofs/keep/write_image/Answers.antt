use Rattle.std.proofs.Common.{◌∙◌, Err, ap, sym, subst}
use Rattle.text_store.specs.Edits.{whole_size}
use Rattle.text_store.specs.Stores.{disks, fault_count}
use Rattle.text_store.specs.declared.fault.StoreFault.{StoreFault}
use Rattle.follower.specs.declared.keep.Unkept.{Unkept}
use Rattle.follower.specs.Keeping.{IsCause, LeftBy}
use Rattle.follower.proofs.Kept.{caused, goes_on, left}
use Rattle.follower.proofs.keep.write_image.Goals as goal

pub returns-in-Ok-clause-goes_on : goal.returns-in-Ok-clause-goes_on
returns-in-Ok-clause-goes_on g c = goes_on c.args.store.now c.checkpoint.new.self c.checkpoint.ensures.same.0 c.checkpoint.ensures.same.1 c.checkpoint.ensures.keeps

pub returns-in-Err-clause-goes_on : goal.returns-in-Err-clause-goes_on
returns-in-Err-clause-goes_on g c = goes_on c.args.store.now c.checkpoint.new.self c.checkpoint.ensures.same.0 c.checkpoint.ensures.same.1 c.checkpoint.ensures.keeps

pub returns-in-Err-clause-cause : goal.returns-in-Err-clause-cause
returns-in-Err-clause-cause g c =
    subst (λ (u : Unkept). IsCause u (fault_count g.D.Disk (disks c.args.store.now)) (fault_count g.D.Disk (disks c.checkpoint.new.self))) (sym c.reason_of.ensures)
    (caused c.args.store.now c.checkpoint.new.self (whole_size c.args.image.now) c.in-Err.fault c.in-Err.ensures.cause c.requires.room)

pub returns-in-Err-clause-torn : goal.returns-in-Err-clause-torn
returns-in-Err-clause-torn g c = λ shown held.
    subst (λ (u : Unkept). LeftBy u c.checkpoint.new.self shown c.args.image.now) (sym c.reason_of.ensures)
    (left c.args.store.now c.checkpoint.new.self (whole_size c.args.image.now) c.in-Err.fault shown c.args.image.now c.in-Err.ensures.cause c.requires.room c.requires.ready held
    (λ is. c.checkpoint.ensures.fault (c.in-Err.is ∙ ap (λ (e : StoreFault). Err e) is) shown held))
