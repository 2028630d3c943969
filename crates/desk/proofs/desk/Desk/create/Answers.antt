use Rattle.std.proofs.Common.{[], None, inl, List, ap, sym, subst, ◌∙◌}
use Rattle.hl_base.specs.declared.change.Latest.{Latest}
use Rattle.live_journal.specs.Journals.{Journal}
use Rattle.live_journal.specs.Loading.{fault_of}
use Rattle.text_store.specs.Stores.{Holds}
use Rattle.text_store.proofs.Both.{stays}
use Rattle.desk.specs.declared.fault.DeskFault.{DeskFault}
use Rattle.desk.specs.Openings.{MakingRefused}
use Rattle.desk.proofs.Opened.{loads, opened_is, tells_of, unmade, unstored}
use Rattle.desk.proofs.Still.{kept}
use Rattle.desk.proofs.desk.Desk.create.Goals as goal

pub returns-in-Err : goal.returns-in-Err
returns-in-Err g c =
    let j : Journal = record { text = c.args.text.now; year = None; revision = 0 } in
    record {
      state = tt;
      made = tt;
      loads = tt;
      counts = tt;
      cause = subst (λ (e : DeskFault). MakingRefused g.D.Disk (c.args.first, c.args.second) (c.args.first, c.args.second) c.args.text.now c.args.limit e) (sym c.load_refusal.ensures)
          (unmade g.D.Disk (c.args.first, c.args.second) c.args.text.now c.args.limit c.in-Err.fault (tells_of c.in-Err.fault j c.in-Err.ensures));
      any_moment = λ f s a b tell. stays g.D.Disk (c.args.first, c.args.second) _ (λ x y left_x left_y. inl (left_x, left_y));
      keeps = kept g.D.Disk (c.args.first, c.args.second) (c.args.limit, c.args.limit);
      no_fault = tt;
    }

pub returns-in-Err-create-clause-cause : goal.returns-in-Err-create-clause-cause
returns-in-Err-create-clause-cause g c =
    let j : Journal = record { text = c.args.text.now; year = None; revision = 0 } in
    subst (λ (e : DeskFault). MakingRefused g.D.Disk (c.args.first, c.args.second) (c.in-Err-create.first, c.in-Err-create.second) c.args.text.now c.args.limit e) (sym c.store_refusal.ensures)
    (unstored g.D.Disk (c.args.first, c.args.second) (c.in-Err-create.first, c.in-Err-create.second) c.args.text.now c.args.limit c.in-Err-create.fault (loads j c.in-Ok.live c.in-Ok.ensures) c.in-Err-create.ensures.cause)

pub returns-in-Ok-create-clause-no_fault : goal.returns-in-Ok-create-clause-no_fault
returns-in-Ok-create-clause-no_fault g c = c.in-Ok-create.ensures.no_fault

pub returns-in-Ok-create-clause-loads : goal.returns-in-Ok-create-clause-loads
returns-in-Ok-create-clause-loads g c =
    let j : Journal = record { text = c.args.text.now; year = None; revision = 0 } in
    ap (λ (j : Journal). fault_of None j.text) (opened_is j c.in-Ok.live c.in-Ok.ensures) ∙ loads j c.in-Ok.live c.in-Ok.ensures

pub returns-in-Ok-create-clause-made : goal.returns-in-Ok-create-clause-made
returns-in-Ok-create-clause-made g c = λ f s a b.
    let m = c.in-Ok-create.ensures.made f s a b in
    let j : Journal = record { text = c.args.text.now; year = None; revision = 0 } in
    let live = opened_is j c.in-Ok.live c.in-Ok.ensures in
    let F : Journal → Type 0 = λ j. Holds c.in-Ok-create.store (record { text = j.text; latest = []; revision = j.revision }) in
    let G : List Latest → Type 0 = λ latest. Holds c.in-Ok-create.store (record { text = c.in-Ok.live.text; latest = latest; revision = c.in-Ok.live.revision }) in
    (m.0, m.1, inl (c.in-Ok-create.ensures.numbers.3, subst G (sym c.new.ensures) (subst F (sym live) m.2)))
