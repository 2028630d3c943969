use mathlib.Core.Path.{subst, sym}
use denote.Param.Send.{sendable}
use Rattle.std.proofs.Crossing.{crosses}
use Rattle.hl_base.proofs.bytes.Bytes.TheSendSync as bytes
use Rattle.hl_base.proofs.change.Latest.TheSendSync as latest
use Rattle.hl_base.proofs.list.List.TheSendSync as lists
use Rattle.text_store.proofs.store.Store.TheSendSync as stores
use Rattle.turn_lock.proofs.pass.Pass.TheSendSync as passes
use Rattle.turn_lock.proofs.turn.Turn.TheSendSync as turns
use Rattle.web_messages.proofs.page.Page.TheSendSync as pages
use Rattle.turn_lock.specs.Passes.{IsFree}
use Rattle.sharing_laws.proofs.Sendable.{loaded_send}
use Rattle.desk_team.proofs.worker.work_each.Goals as goal

-- of the desk under the lock, of its passes, and of the page
ruleset parts = (passes.the_send, turns.the_sync, stores.the_field_send, latest.the_send, lists.the_send, bytes.the_send, pages.the_sync)

pub for_each_mut-requires-send-T : goal.for_each_mut-requires-send-T
for_each_mut-requires-send-T g c κs within =
    let d = c.type_bounds.send-D in
    let r = c.type_bounds.send-R in
    let k = c.type_bounds.send-C in
    let m = c.type_bounds.send-M in
    let l = loaded_send in
    search (parts, sendable, crosses) depth 30

pub for_each_mut-requires-sync-F : goal.for_each_mut-requires-sync-F
for_each_mut-requires-sync-F g c κs within =
    let d = c.type_bounds.send-D in
    let w = c.type_bounds.sync-W in
    let l = loaded_send in
    search (parts, sendable, crosses) depth 30

pub for_each_mut-requires-clause-accepts : goal.for_each_mut-requires-clause-accepts
for_each_mut-requires-clause-accepts g c κs within i p less is =
    let d = c.type_bounds.send-D in
    let r = c.type_bounds.send-R in
    let k = c.type_bounds.send-C in
    let m = c.type_bounds.send-M in
    let l = c.type_bounds.send-R-Link in
    let w = c.type_bounds.sync-W in (
      subst (λ worker. IsFree c.args.turn.now worker.pass) (sym is) (c.requires i p.now less),
      (search sendable, search sendable, search sendable, search sendable, search sendable, search sendable),
    )
