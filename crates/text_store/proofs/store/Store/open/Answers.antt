use Rattle.std.proofs.Common.{◌∙◌, max, inl, Result, Ok, length, sym, subst, ap, arith}
use Rattle.text_store.specs.declared.image.Image.{Image}
use Rattle.text_store.specs.Files.{opened_limit, WhileOpened}
use Rattle.text_store.specs.Image.{NoImage}
use Rattle.text_store.specs.Refusals.{TellImage}
use Rattle.text_store.specs.Stores.{disks_opened}
use Rattle.text_store.proofs.Both.{less_said}
use Rattle.text_store.proofs.Opened.{if_err_map, if_ok_map, if_ok_two, found_in, image_stays, shown_by, keeps_after, tell_after, refused_at, opened_run}
use Rattle.text_store.proofs.store.Store.open.Goals as goal

pub returns-in-Err-clause-any_moment : goal.returns-in-Err-clause-any_moment
returns-in-Err-clause-any_moment g c f s is_first is_second tell =
    less_said g.D.Disk (c.args.first, c.args.second) (c.read_both.new.first, c.read_both.new.second) _ (WhileOpened g.D.Disk (c.args.first, c.args.second) f s)
    (λ a b left. inl left) c.read_both.ensures.any_moment

pub returns-in-Err-read_image-clause-cause : goal.returns-in-Err-read_image-clause-cause
returns-in-Err-read_image-clause-cause g c =
    refused_at g.D.Disk c.args.first c.args.second c.read_both.new.first c.read_both.new.second c.read_both.ensures.reads
    c.deref.result.now c.deref-in-Ok.result.now c.in-Err-read_image.fault
    (λ f s is_first is_second. let rests = c.in-Ok.ensures.rests f s is_first is_second in (c.deref.ensures.value ∙ rests.0, c.deref-in-Ok.ensures.value ∙ rests.1))
    c.in-Err-read_image.ensures.refused

pub returns-in-Err-read_image-clause-any_moment : goal.returns-in-Err-read_image-clause-any_moment
returns-in-Err-read_image-clause-any_moment g c f s is_first is_second tell =
    less_said g.D.Disk (c.args.first, c.args.second) (c.read_both.new.first, c.read_both.new.second) _ (WhileOpened g.D.Disk (c.args.first, c.args.second) f s)
    (λ a b left. inl left) c.read_both.ensures.any_moment

pub take_up-requires-clause-found : goal.take_up-requires-clause-found
take_up-requires-clause-found g c = (
  c.deref.result.now,
  c.deref-in-Ok.result.now,
  omega (arith, c.deref.type_inv),
  omega (arith, c.deref-in-Ok.type_inv),
  c.in-Ok-read_image.ensures.found,
)

pub returns-clause-opened : goal.returns-clause-opened
returns-clause-opened g c =
    let shown = c.in-Ok-read_image.found.image in
    let place = c.in-Ok-read_image.found.place in
    if_ok_two c.take_up.result _ _ _
    (λ opened holds is f s is_first is_second.
    let rests = c.in-Ok.ensures.rests f s is_first is_second in
    let found = found_in c.deref.result.now c.deref-in-Ok.result.now f s shown place (c.deref.ensures.value ∙ rests.0) (c.deref-in-Ok.ensures.value ∙ rests.1) c.in-Ok-read_image.ensures.found in
    let made = holds f s rests.2 rests.3 found in
    (shown_by f s shown place found ∙ ap (λ (i : Image). Ok i) (sym is), made.0, made.1))
    c.take_up.ensures.opened c.take_up.ensures.image

pub returns-clause-size : goal.returns-clause-size
returns-clause-size g c =
    let shown = c.in-Ok-read_image.found.image in
    let place = c.in-Ok-read_image.found.place in
    if_ok_map c.take_up.result _ _
    (λ opened sized f s is_first is_second.
    let rests = c.in-Ok.ensures.rests f s is_first is_second in
    let found = found_in c.deref.result.now c.deref-in-Ok.result.now f s shown place (c.deref.ensures.value ∙ rests.0) (c.deref-in-Ok.ensures.value ∙ rests.1) c.in-Ok-read_image.ensures.found in
    sized f s found)
    c.take_up.ensures.size

pub returns-clause-in_use : goal.returns-clause-in_use
returns-clause-in_use g c =
    let shown = c.in-Ok-read_image.found.image in
    let place = c.in-Ok-read_image.found.place in
    if_ok_map c.take_up.result _ _
    (λ opened used f s is_first is_second.
    let rests = c.in-Ok.ensures.rests f s is_first is_second in
    let found = found_in c.deref.result.now c.deref-in-Ok.result.now f s shown place (c.deref.ensures.value ∙ rests.0) (c.deref-in-Ok.ensures.value ∙ rests.1) c.in-Ok-read_image.ensures.found in
    used f s rests.2 rests.3 found)
    c.take_up.ensures.in_use

pub returns-clause-older : goal.returns-clause-older
returns-clause-older g c =
    let shown = c.in-Ok-read_image.found.image in
    let place = c.in-Ok-read_image.found.place in
    if_ok_map c.take_up.result _ _
    (λ opened older f s is_first is_second none.
    let rests = c.in-Ok.ensures.rests f s is_first is_second in
    let found = found_in c.deref.result.now c.deref-in-Ok.result.now f s shown place (c.deref.ensures.value ∙ rests.0) (c.deref-in-Ok.ensures.value ∙ rests.1) c.in-Ok-read_image.ensures.found in
    older f s rests.2 rests.3 found none)
    c.take_up.ensures.older

pub returns-clause-any_moment : goal.returns-clause-any_moment
returns-clause-any_moment g c f s is_first is_second tell =
    let d = g.D.Disk in
    let shown = c.in-Ok-read_image.found.image in
    let place = c.in-Ok-read_image.found.place in
    let rests = c.in-Ok.ensures.rests f s is_first is_second in
    let found = found_in c.deref.result.now c.deref-in-Ok.result.now f s shown place (c.deref.ensures.value ∙ rests.0) (c.deref-in-Ok.ensures.value ∙ rests.1) c.in-Ok-read_image.ensures.found in
    opened_run d c.args.first c.args.second c.read_both.new.first c.read_both.new.second c.read_both.ensures.reads f s shown (disks_opened c.take_up.result) (shown_by f s shown place found)
    (less_said d (c.args.first, c.args.second) (c.read_both.new.first, c.read_both.new.second) _ (WhileOpened d (c.args.first, c.args.second) f s) (λ a b left. inl left) c.read_both.ensures.any_moment)
    (c.take_up.ensures.any_moment f s rests.2 rests.3 found
    (tell_after d c.args.first c.args.second c.read_both.new.first c.read_both.new.second c.read_both.ensures.reads tell))

pub returns-clause-keeps : goal.returns-clause-keeps
returns-clause-keeps g c f s is_first is_second =
    let shown = c.in-Ok-read_image.found.image in
    let place = c.in-Ok-read_image.found.place in
    let rests = c.in-Ok.ensures.rests f s is_first is_second in
    let found = found_in c.deref.result.now c.deref-in-Ok.result.now f s shown place (c.deref.ensures.value ∙ rests.0) (c.deref-in-Ok.ensures.value ∙ rests.1) c.in-Ok-read_image.ensures.found in
    keeps_after g.D.Disk c.args.first c.args.second c.read_both.new.first c.read_both.new.second c.read_both.ensures.reads (disks_opened c.take_up.result)
    (max (opened_limit f s) (length f), max (opened_limit f s) (length s)) (c.take_up.ensures.keeps f s found)

pub returns-clause-bounds : goal.returns-clause-bounds
returns-clause-bounds g c =
    let shown = c.in-Ok-read_image.found.image in
    let place = c.in-Ok-read_image.found.place in
    if_ok_map c.take_up.result _ _
    (λ opened less f s is_first is_second.
    let rests = c.in-Ok.ensures.rests f s is_first is_second in
    let found = found_in c.deref.result.now c.deref-in-Ok.result.now f s shown place (c.deref.ensures.value ∙ rests.0) (c.deref-in-Ok.ensures.value ∙ rests.1) c.in-Ok-read_image.ensures.found in
    less f s found)
    c.take_up.ensures.bounds

pub returns-in-Err-clause-stays : goal.returns-in-Err-clause-stays
returns-in-Err-clause-stays g c = λ failed. image_stays g.D.Disk c.args.first c.args.second c.read_both.new.first c.read_both.new.second c.read_both.ensures.reads

pub returns-in-Err-read_image-clause-stays : goal.returns-in-Err-read_image-clause-stays
returns-in-Err-read_image-clause-stays g c = λ failed. image_stays g.D.Disk c.args.first c.args.second c.read_both.new.first c.read_both.new.second c.read_both.ensures.reads

pub returns-clause-stays : goal.returns-clause-stays
returns-clause-stays g c =
    let shown = c.in-Ok-read_image.found.image in
    let place = c.in-Ok-read_image.found.place in
    if_err_map c.take_up.result _ _
    (λ e torn failed f s is_first is_second.
    let rests = c.in-Ok.ensures.rests f s is_first is_second in
    let found = found_in c.deref.result.now c.deref-in-Ok.result.now f s shown place (c.deref.ensures.value ∙ rests.0) (c.deref-in-Ok.ensures.value ∙ rests.1) c.in-Ok-read_image.ensures.found in
    subst (λ (r : Result Image NoImage). TellImage g.D.Disk (e.0, e.1) r) (sym (shown_by f s shown place found)) (torn failed f s rests.2 rests.3 found))
    c.take_up.ensures.stays
