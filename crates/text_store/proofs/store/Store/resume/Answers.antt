use Rattle.std.proofs.Common.{Ok, refl, sym, subst, ap, ◌∙◌}
use Rattle.text_store.specs.Files.{ShowsOf}
use Rattle.text_store.specs.Refusals.{TellImage}
use Rattle.text_store.specs.Stores.{placed, Throughout}
use Rattle.text_store.proofs.Opening.{resume_run, resume_opened, resume_bytes, resume_torn}
use Rattle.text_store.proofs.store.Store.resume.Goals as goal

pub returns-in-Err-clause-any_moment : goal.returns-in-Err-clause-any_moment
returns-in-Err-clause-any_moment g c f s shown first second found tell =
    let d = g.D.Disk in
    let u = c.args.place in
    let pair = c.in_order-live.result in
    subst (λ (p : _). Throughout d (c.args.first, c.args.second) p (ShowsOf d (c.args.first, c.args.second) f s shown)) (sym c.in_order-first.ensures)
    (resume_run d c.args.first c.args.second f s u shown first second found pair c.in_order-live.ensures c.shut_gate.new.device g.met.D.Disk.counts_now tell
    (λ front size stands telling. c.shut_gate.ensures.any_end front size stands telling) c.shut_gate.ensures.comes)

pub returns-in-Err-clause-stays : goal.returns-in-Err-clause-stays
returns-in-Err-clause-stays g c f s shown first second found =
    let d = g.D.Disk in
    subst (λ (p : _). TellImage d p (Ok shown)) (sym c.in_order-first.ensures)
    (resume_torn d c.args.first c.args.second f s c.args.place shown first second found c.in_order-live.result c.in_order-live.ensures c.shut_gate.new.device
    g.met.D.Disk.counts_now (λ front size stands. c.in-Err.ensures.fault_end front size stands))

pub returns-in-Ok-clause-opened : goal.returns-in-Ok-clause-opened
returns-in-Ok-clause-opened g c f s shown first second found =
    let d = g.D.Disk in
    resume_opened d c.args.first c.args.second f s c.args.place shown first second found c.in_order-live.result c.in_order-live.ensures _ c.shut_gate.new.device refl refl
    c.new.ensures.gate c.new.ensures.device refl g.met.D.Disk.counts_now (λ front size stands. c.in-Ok.ensures.shut_end front size stands)

pub returns-in-Ok-clause-bytes : goal.returns-in-Ok-clause-bytes
returns-in-Ok-clause-bytes g c f s shown first second found =
    let d = g.D.Disk in
    ap d.seen c.new.ensures.device
    ∙ resume_bytes d c.args.first c.args.second f s c.args.place shown first second found c.in_order-live.result c.in_order-live.ensures c.shut_gate.new.device
    g.met.D.Disk.counts_now (λ front size stands. c.in-Ok.ensures.shut_end front size stands)

pub returns-in-Ok-clause-any_moment : goal.returns-in-Ok-clause-any_moment
returns-in-Ok-clause-any_moment g c f s shown first second found tell =
    let d = g.D.Disk in
    let u = c.args.place in
    let pair = c.in_order-live.result in
    subst (λ (x : _). Throughout d (c.args.first, c.args.second) (placed u.in_second x pair.1) (ShowsOf d (c.args.first, c.args.second) f s shown)) (sym c.new.ensures.device)
    (resume_run d c.args.first c.args.second f s u shown first second found pair c.in_order-live.ensures c.shut_gate.new.device g.met.D.Disk.counts_now tell
    (λ front size stands telling. c.shut_gate.ensures.any_end front size stands telling) c.shut_gate.ensures.comes)
