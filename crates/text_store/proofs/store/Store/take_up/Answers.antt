use Rattle.std.proofs.Common.{◌∙◌, ℕ, List, Some, sym, ap}
use Rattle.text_store.proofs.Growing.{none_some}
use Rattle.text_store.proofs.Opening.{found_in_half, found_older, half_chosen, keeps_half, limit_found, limit_older}
use Rattle.text_store.proofs.Sizes.{older_used, rest_found, size_found, size_older}
use Rattle.text_store.proofs.store.Store.take_up.Goals as goal

pub returns-in-Err-clause-keeps : goal.returns-in-Err-clause-keeps
returns-in-Err-clause-keeps g c f s found =
    let u = c.in-Half.place in
    keeps_half g.D.Disk (c.args.first, c.args.second) _ f s u c.args.found.image u.in_second (found_in_half f s c.args.found.image c.args.found.place u c.in-Half.is found) c.in-Err.ensures.keeps

pub returns-in-Ok-clause-opened : goal.returns-in-Ok-clause-opened
returns-in-Ok-clause-opened g c f s first second found =
    let half = found_in_half f s c.args.found.image c.args.found.place c.in-Half.place c.in-Half.is found in
    (c.in-Ok.ensures.opened f s c.args.found.image first second half, c.in-Ok.ensures.numbers.0 ∙ sym (limit_found f s c.in-Half.place c.args.found.image half))

pub returns-in-Ok-clause-size : goal.returns-in-Ok-clause-size
returns-in-Ok-clause-size g c f s found =
    let half = found_in_half f s c.args.found.image c.args.found.place c.in-Half.place c.in-Half.is found in
    c.in-Ok.ensures.numbers.1 ∙ sym (size_found f s c.in-Half.place c.args.found.image half)

pub returns-in-Ok-clause-in_use : goal.returns-in-Ok-clause-in_use
returns-in-Ok-clause-in_use g c f s first second found =
    let half = found_in_half f s c.args.found.image c.args.found.place c.in-Half.place c.in-Half.is found in
    c.in-Ok.ensures.bytes f s c.args.found.image first second half ∙ ap (λ (l : List ℕ). Some l) (rest_found f s c.in-Half.place c.args.found.image half)

pub returns-in-Ok-clause-older : goal.returns-in-Ok-clause-older
returns-in-Ok-clause-older g c f s first second found none =
    let half = half_chosen f s c.in-Half.place c.args.found.image (found_in_half f s c.args.found.image c.args.found.place c.in-Half.place c.in-Half.is found) in
    none_some half.0 (sym none ∙ half.1)

pub returns-in-Ok-clause-keeps : goal.returns-in-Ok-clause-keeps
returns-in-Ok-clause-keeps g c f s found =
    let u = c.in-Half.place in
    keeps_half g.D.Disk (c.args.first, c.args.second) _ f s u c.args.found.image u.in_second (found_in_half f s c.args.found.image c.args.found.place u c.in-Half.is found) c.in-Ok.ensures.keeps

pub returns-in-Err-renew-clause-any_moment : goal.returns-in-Err-renew-clause-any_moment
returns-in-Err-renew-clause-any_moment g c f s first second found tell =
    let old = found_older f s c.args.found.image c.args.found.place c.in-Older.limit c.in-Older.is found in
    c.in-Err-renew.ensures.any_moment f s first second old.0 old.1 tell

pub returns-in-Ok-renew-clause-opened : goal.returns-in-Ok-renew-clause-opened
returns-in-Ok-renew-clause-opened g c f s first second found =
    let old = found_older f s c.args.found.image c.args.found.place c.in-Older.limit c.in-Older.is found in
    (c.in-Ok-renew.ensures.opened f s first second old.0, c.in-Ok-renew.ensures.numbers.0 ∙ limit_older f s c.args.found.image c.in-Older.limit old)

pub returns-in-Ok-renew-clause-size : goal.returns-in-Ok-renew-clause-size
returns-in-Ok-renew-clause-size g c f s found =
    let old = found_older f s c.args.found.image c.args.found.place c.in-Older.limit c.in-Older.is found in
    c.in-Ok-renew.ensures.numbers.1 ∙ size_older f s c.args.found.image c.in-Older.limit old

pub returns-in-Ok-renew-clause-in_use : goal.returns-in-Ok-renew-clause-in_use
returns-in-Ok-renew-clause-in_use g c f s first second found =
    let shown = c.args.found.image in
    let limit = c.in-Older.limit in
    let old = found_older f s shown c.args.found.place limit c.in-Older.is found in
    let e = c.in-Ok-renew.ensures in
    older_used c.in-Ok-renew.store f s shown limit old e.numbers.2 (e.numbers.0 ∙ limit_older f s shown limit old) (e.bytes s second)

pub returns-in-Ok-renew-clause-older : goal.returns-in-Ok-renew-clause-older
returns-in-Ok-renew-clause-older g c f s first second found none =
    (ap g.D.Disk.seen c.in-Ok-renew.ensures.beside ∙ first.told, c.in-Ok-renew.ensures.bytes s second)

pub returns-in-Ok-renew-clause-any_moment : goal.returns-in-Ok-renew-clause-any_moment
returns-in-Ok-renew-clause-any_moment g c f s first second found tell =
    let old = found_older f s c.args.found.image c.args.found.place c.in-Older.limit c.in-Older.is found in
    c.in-Ok-renew.ensures.any_moment f s first second old.0 old.1 tell

pub returns-in-Err-clause-stays : goal.returns-in-Err-clause-stays
returns-in-Err-clause-stays g c failed f s first second found =
    c.in-Err.ensures.stays f s c.args.found.image first second (found_in_half f s c.args.found.image c.args.found.place c.in-Half.place c.in-Half.is found)

pub returns-in-Err-renew-clause-stays : goal.returns-in-Err-renew-clause-stays
returns-in-Err-renew-clause-stays g c failed f s first second found =
    let old = found_older f s c.args.found.image c.args.found.place c.in-Older.limit c.in-Older.is found in
    c.in-Err-renew.ensures.stays failed f s first second old.0 old.1
