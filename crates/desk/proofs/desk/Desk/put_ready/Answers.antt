use Rattle.std.proofs.Common.{◌<◌, ◌^◌, refl, ap, sym, ◌∙◌, arith}
use Rattle.live_journal.specs.Journals.{Planned}
use Rattle.desk.specs.Desks.{state_of}
use Rattle.desk.specs.Reading.{is_planned}
use Rattle.desk.specs.States.{change_of, record_size, states_with}
use Rattle.desk.proofs.ReadingLaws.{full_planned}
use Rattle.desk.proofs.Rooms.{room_told}
use Rattle.desk.proofs.Served.{full_by, full_undone, kept_by}
use Rattle.desk.proofs.desk.Desk.put_ready.Goals as goal

pub returns-in-Some-clause-served : goal.returns-in-Some-clause-served
returns-in-Some-clause-served g c =
    let old = c.args.self.now in
    let s = state_of old in
    let d = c.args.deed.now in
    let differs = sym (ap (λ (p : Planned). p.same) c.requires.plan) ∙ c.requires.differs in
    let some : 0 < s.size = omega arith in
    let few : s.limit < 2 ^ 64 = omega arith in
    let states = states_with d.mark old.latest in
    let change = change_of old.live.text d in
    let whole = sym (room_told s d.mark c.args.ready.states states c.args.ready.change change some few c.requires.change c.requires.states) ∙ sym c.in-Some.ensures in
    rw c.dropped.ensures (full_by old d c.in-Some.reply differs whole (full_undone s d.mark states (record_size change) c.in-Some.reply whole))

pub returns-in-Some-clause-counts : goal.returns-in-Some-clause-counts
returns-in-Some-clause-counts g c = refl

pub returns-in-Some-clause-accepted : goal.returns-in-Some-clause-accepted
returns-in-Some-clause-accepted g c =
    ap is_planned c.dropped.ensures ∙ full_planned (state_of c.args.self.now) c.args.deed.now.mark c.args.ready.states _ c.in-Some.reply (sym c.in-Some.ensures)

pub keep_ready-requires-clause-plan : goal.keep_ready-requires-clause-plan
keep_ready-requires-clause-plan g c = c.requires.plan

pub keep_ready-requires-clause-differs : goal.keep_ready-requires-clause-differs
keep_ready-requires-clause-differs g c = c.requires.differs

pub keep_ready-requires-clause-inside : goal.keep_ready-requires-clause-inside
keep_ready-requires-clause-inside g c = c.requires.inside

pub keep_ready-requires-clause-change : goal.keep_ready-requires-clause-change
keep_ready-requires-clause-change g c = c.requires.change

pub keep_ready-requires-clause-states : goal.keep_ready-requires-clause-states
keep_ready-requires-clause-states g c = c.requires.states

pub keep_ready-requires-clause-room : goal.keep_ready-requires-clause-room
keep_ready-requires-clause-room g c = sym c.in-None.ensures

pub returns-in-None-clause-served : goal.returns-in-None-clause-served
returns-in-None-clause-served g c =
    let old = c.args.self.now in
    let s = state_of old in
    let d = c.args.deed.now in
    let differs = sym (ap (λ (p : Planned). p.same) c.requires.plan) ∙ c.requires.differs in
    let some : 0 < s.size = omega arith in
    let few : s.limit < 2 ^ 64 = omega arith in
    let none = sym (room_told s d.mark c.args.ready.states (states_with d.mark old.latest) c.args.ready.change (change_of old.live.text d) some few c.requires.change c.requires.states) ∙ sym c.in-None.ensures in
    kept_by old _ d _ differs none c.keep_ready.ensures.served

pub returns-in-None-clause-counts : goal.returns-in-None-clause-counts
returns-in-None-clause-counts g c = c.keep_ready.ensures.counts

pub returns-in-None-clause-accepted : goal.returns-in-None-clause-accepted
returns-in-None-clause-accepted g c = c.keep_ready.ensures.accepted
