use Rattle.std.proofs.Common.{inl, None, List, ℕ, ap, sym, subst, ◌∙◌, Ok}
use Rattle.live_journal.specs.Journals.{Journal}
use Rattle.live_journal.specs.Loading.{Tells, fault_of}
use Rattle.text_store.specs.declared.image.Image.{Image}
use Rattle.text_store.specs.Stores.{Holds}
use Rattle.desk.specs.declared.fault.DeskFault.{DeskFault}
use Rattle.desk.specs.Openings.{OpeningRefused}
use Rattle.desk.proofs.Opened.{can_write, held_size, image_left, kept_moved, loads, moved, opened_is, opened_stays, tells_of, unloaded_store, unread}
use Rattle.desk.proofs.desk.Desk.open.Goals as goal

pub invariant_of-result : goal.invariant_of-result
invariant_of-result g c =
    let j : Journal = record { text = c.as_slice.result.now; year = None; revision = c.in-Ok.opened.1.revision } in
    let live = opened_is j c.in-Ok-open.live c.in-Ok-open.ensures in
    record {
      no_year = ap (λ (j : Journal). j.year) live;
      writable = can_write c.in-Ok.opened.1 c.in-Ok.ensures.writable;
    }

pub returns-in-Ok-open-clause-opened : goal.returns-in-Ok-open-clause-opened
returns-in-Ok-open-clause-opened g c = λ f s a b.
    let m = c.in-Ok.ensures.opened f s a b in
    let j : Journal = record { text = c.as_slice.result.now; year = None; revision = c.in-Ok.opened.1.revision } in
    let live = opened_is j c.in-Ok-open.live c.in-Ok-open.ensures in
    let G : List ℕ → Image = λ t. record { text = t; latest = c.in-Ok.opened.1.latest; revision = c.in-Ok.opened.1.revision } in
    let F : Journal → Image = λ j. record { text = j.text; latest = c.in-Ok.opened.1.latest; revision = j.revision } in
    let same = sym (ap F live ∙ ap G c.as_slice.ensures) in
    let H : Image → Type 0 = λ i. Holds c.in-Ok.opened.0 i in
    (m.0 ∙ ap Ok same, inl (c.in-Ok.ensures.ready, subst H same m.1), m.2)

pub returns-in-Ok-open-clause-loads : goal.returns-in-Ok-open-clause-loads
returns-in-Ok-open-clause-loads g c =
    let j : Journal = record { text = c.as_slice.result.now; year = None; revision = c.in-Ok.opened.1.revision } in
    ap (λ (j : Journal). fault_of None j.text) (opened_is j c.in-Ok-open.live c.in-Ok-open.ensures) ∙ loads j c.in-Ok-open.live c.in-Ok-open.ensures

pub returns-in-Ok-open-clause-half : goal.returns-in-Ok-open-clause-half
returns-in-Ok-open-clause-half g c = c.in-Ok.ensures.size

pub returns-in-Ok-open-clause-size : goal.returns-in-Ok-open-clause-size
returns-in-Ok-open-clause-size g c = λ f s a b f_now s_now a_now b_now.
    held_size g.D.Disk c.in-Ok.opened.0 c.in-Ok.opened.1 (c.in-Ok.ensures.opened f s a b).1 f_now s_now a_now b_now

pub returns-in-Ok-open-clause-bounds : goal.returns-in-Ok-open-clause-bounds
returns-in-Ok-open-clause-bounds g c = c.in-Ok.ensures.bounds

pub returns-in-Ok-open-clause-no_fault : goal.returns-in-Ok-open-clause-no_fault
returns-in-Ok-open-clause-no_fault g c = c.in-Ok.ensures.no_fault

pub returns-in-Err-clause-cause : goal.returns-in-Err-clause-cause
returns-in-Err-clause-cause g c =
    subst (λ (e : DeskFault). OpeningRefused g.D.Disk (c.args.first, c.args.second) (c.in-Err.first, c.in-Err.second) e) (sym c.store_refusal.ensures)
    (unread g.D.Disk (c.args.first, c.args.second) (c.in-Err.first, c.in-Err.second) c.in-Err.fault c.in-Err.ensures.cause)

pub returns-in-Err-clause-stays : goal.returns-in-Err-clause-stays
returns-in-Err-clause-stays g c =
    image_left g.D.Disk (c.args.first, c.args.second) (c.in-Err.first, c.in-Err.second) c.in-Err.fault c.in-Err.ensures.cause c.in-Err.ensures.stays

pub returns-in-Err-open : goal.returns-in-Err-open
returns-in-Err-open g c =
    let j : Journal = record { text = c.as_slice.result.now; year = None; revision = c.in-Ok.opened.1.revision } in
    let told = subst (λ (t : List ℕ). Tells c.in-Err-open.fault (fault_of None t)) c.as_slice.ensures (tells_of c.in-Err-open.fault j c.in-Err-open.ensures) in
    record {
      opened = tt;
      allowed = tt;
      loads = tt;
      half = tt;
      size = tt;
      counts = tt;
      cause = subst (λ (e : DeskFault). OpeningRefused g.D.Disk (c.args.first, c.args.second) c.close-first.result e) (sym c.load_refusal.ensures)
          (unloaded_store g.D.Disk (c.args.first, c.args.second) c.close-first.result c.in-Ok.opened.0 c.in-Ok.opened.1 c.in-Err-open.fault c.in-Ok.ensures.opened told);
      stays = opened_stays g.D.Disk (c.args.first, c.args.second) c.close-first.result c.in-Ok.opened.0 c.in-Ok.opened.1 c.in-Ok.ensures.opened c.close-first.ensures;
      any_moment = λ f s a b. moved g.D.Disk (c.args.first, c.args.second) _ _ f s (sym c.close-first.ensures) (c.in-Ok.ensures.any_moment f s a b);
      keeps = λ f s a b. kept_moved g.D.Disk (c.args.first, c.args.second) _ _ _ (sym c.close-first.ensures) (c.in-Ok.ensures.keeps f s a b);
      bounds = tt;
      no_fault = tt;
    }
