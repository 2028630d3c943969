use Rattle.std.proofs.Common.{◌∙◌, ◌+◌, inl, List, ℕ, length, Err, refl, ap, sym, subst}
use Rattle.std.proofs.lemmas.Result.{err_from_is_err_and}
use Rattle.text_store.specs.Changes.{payload_of}
use Rattle.text_store.specs.Stores.{disks, fault_count, size_of}
use Rattle.text_store.proofs.Both.{stays}
use Rattle.text_store.specs.declared.fault.StoreFault.{StoreFault}
use Rattle.follower.specs.declared.keep.Unkept.{Unkept}
use Rattle.follower.specs.Changing.{text_after}
use Rattle.follower.specs.Keeping.{IsCause, LeftBy}
use Rattle.follower.proofs.Kept.{caused, goes_nowhere, goes_on, left}
use Rattle.follower.proofs.keep.put_record.Goals as goal

pub returns-in_err-reserve_for-clause-torn : goal.returns-in_err-reserve_for-clause-torn
returns-in_err-reserve_for-clause-torn g c =
    let p = err_from_is_err_and c.from_residual.result c.from_residual.ensures.1 in
    rw (p.1, p.2) (λ shown next held edited. (c.requires.ready, held))

pub returns-in_err-reserve_for-clause-any_moment : goal.returns-in_err-reserve_for-clause-any_moment
returns-in_err-reserve_for-clause-any_moment g c = λ shown next held edited tell.
    stays g.D.Disk _ _ (λ f s of_first of_second. inl (held.shows tell f s of_first of_second))

pub returns-in_err-reserve_for-clause-cause : goal.returns-in_err-reserve_for-clause-cause
returns-in_err-reserve_for-clause-cause g c =
    let p = err_from_is_err_and c.from_residual.result c.from_residual.ensures.1 in
    rw (p.1, p.2) refl

pub returns-in_err-reserve_for-clause-goes_on : goal.returns-in_err-reserve_for-clause-goes_on
returns-in_err-reserve_for-clause-goes_on g c = goes_nowhere c.args.store.now

pub returns-in-Ok-clause-put : goal.returns-in-Ok-clause-put
returns-in-Ok-clause-put g c = c.put_in.ensures ∙ ap (λ (l : List ℕ). text_after c.args.change l) c.reserve_for.ensures.items

pub returns-in-Ok-clause-goes_on : goal.returns-in-Ok-clause-goes_on
returns-in-Ok-clause-goes_on g c = goes_on c.args.store.now c.append.new.self c.append.ensures.same.0 c.append.ensures.same.1 c.append.ensures.keeps

pub returns-in-Err-clause-goes_on : goal.returns-in-Err-clause-goes_on
returns-in-Err-clause-goes_on g c = goes_on c.args.store.now c.append.new.self c.append.ensures.same.0 c.append.ensures.same.1 c.append.ensures.keeps

pub returns-in-Err-clause-cause : goal.returns-in-Err-clause-cause
returns-in-Err-clause-cause g c =
    subst (λ (u : Unkept). IsCause u (fault_count g.D.Disk (disks c.args.store.now)) (fault_count g.D.Disk (disks c.append.new.self))) (sym c.reason_of.ensures)
    (caused c.args.store.now c.append.new.self (size_of c.args.store.now + 10 + length (payload_of c.args.change)) c.in-Err.fault c.in-Err.ensures.cause c.requires.room)

pub returns-in-Err-clause-torn : goal.returns-in-Err-clause-torn
returns-in-Err-clause-torn g c = λ shown next held edited.
    subst (λ (u : Unkept). LeftBy u c.append.new.self shown next) (sym c.reason_of.ensures)
    (left c.args.store.now c.append.new.self (size_of c.args.store.now + 10 + length (payload_of c.args.change)) c.in-Err.fault shown next c.in-Err.ensures.cause c.requires.room c.requires.ready held
    (λ is. c.append.ensures.fault (c.in-Err.is ∙ ap (λ (e : StoreFault). Err e) is) shown next held edited))
