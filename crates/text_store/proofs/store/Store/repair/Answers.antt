use Rattle.std.proofs.Common.{◌∙◌, refl, sym}
use Rattle.hl_base.proofs.Replays.{on_ok_map}
use Rattle.text_store.proofs.Mending.{torn_there, emptied, not_emptied, emptying, mended, not_mended, mending}
use Rattle.text_store.proofs.Parts.{emptied_records, emptying_records, mended_records, mending_records, none_is_due, not_emptied_records, not_mended_records}
use Rattle.text_store.proofs.Resting.{on_err_map, on_err_two}
use Rattle.text_store.proofs.store.Store.repair.Goals as goal

pub returns-then-self-clause-mended : goal.returns-then-self-clause-mended
returns-then-self-clause-mended g c = on_ok_map c.empty_spare.result (λ comes shown other torn.
    emptied c.args.self.now c.empty_spare.new.self shown other torn c.empty_spare.ensures.moves.1 c.empty_spare.ensures.moves.2 c.if-self.true c.empty_spare.ensures.moves.0 comes)
    c.empty_spare.ensures.rests

pub returns-then-self-clause-any_moment : goal.returns-then-self-clause-any_moment
returns-then-self-clause-any_moment g c shown other torn tell =
    emptying c.args.self.now c.empty_spare.new.self shown other torn c.empty_spare.ensures.moves.1 c.empty_spare.ensures.moves.2 c.if-self.true c.empty_spare.ensures.moves.0
    g.met.D.Disk.counts_now tell c.empty_spare.ensures.any_moment

pub returns-then-self-clause-fault : goal.returns-then-self-clause-fault
returns-then-self-clause-fault g c = on_err_map c.empty_spare.result (λ due shown other torn.
    not_emptied c.args.self.now c.empty_spare.new.self shown other torn c.empty_spare.ensures.moves.1 c.empty_spare.ensures.moves.2 c.if-self.true c.empty_spare.ensures.moves.0
    due c.empty_spare.ensures.partial c.empty_spare.ensures.crash c.empty_spare.ensures.tells)
    c.empty_spare.ensures.due

pub returns-then-needs_repair-clause-mended : goal.returns-then-needs_repair-clause-mended
returns-then-needs_repair-clause-mended g c = on_ok_map c.repair.result (λ settles shown other torn.
    mended c.args.self.now _ shown other torn refl refl c.if-self.false refl settles)
    c.repair.ensures.mended

pub returns-then-needs_repair-clause-any_moment : goal.returns-then-needs_repair-clause-any_moment
returns-then-needs_repair-clause-any_moment g c shown other torn tell =
    mending c.args.self.now shown other (torn_there c.args.self.now shown other torn c.if-self.false) c.repair.new.self.device g.met.D.Disk.counts_now tell
    (λ front entry beside entries. c.repair.ensures.any_moment front entry beside entries)

pub returns-then-needs_repair-clause-fault : goal.returns-then-needs_repair-clause-fault
returns-then-needs_repair-clause-fault g c = on_err_two c.repair.result (λ due unsettled shown other torn.
    not_mended c.args.self.now _ shown other torn refl refl c.if-self.false refl (due, c.if-self.false) unsettled)
    c.repair.ensures.due c.repair.ensures.fault

pub returns-then-self-clause-records : goal.returns-then-self-clause-records
returns-then-self-clause-records g c = on_ok_map c.empty_spare.result (λ mended front entries shown task part.
    emptied_records c.args.self.now c.empty_spare.new.self front entries shown c.if-self.true c.empty_spare.ensures.moves.0 task part)
    c.empty_spare.ensures.mended

pub returns-then-self-clause-torn : goal.returns-then-self-clause-torn
returns-then-self-clause-torn g c = on_err_map c.empty_spare.result (λ due front entries shown task part.
    not_emptied_records c.args.self.now c.empty_spare.new.self front entries shown c.if-self.true c.empty_spare.ensures.moves.0 task part
    due c.empty_spare.ensures.partial c.empty_spare.ensures.crash c.empty_spare.ensures.tells
    c.empty_spare.ensures.moves.1 c.empty_spare.ensures.moves.2)
    c.empty_spare.ensures.due

pub returns-then-self-clause-left : goal.returns-then-self-clause-left
returns-then-self-clause-left g c front entries shown task part tell =
    emptying_records c.args.self.now c.empty_spare.new.self front entries shown c.if-self.true c.empty_spare.ensures.moves.0 task part
    g.met.D.Disk.counts_now tell c.empty_spare.ensures.moves.1 c.empty_spare.ensures.any_moment

pub returns-then-needs_repair-clause-records : goal.returns-then-needs_repair-clause-records
returns-then-needs_repair-clause-records g c = on_ok_map c.repair.result (λ settles front entries shown task part.
    mended_records c.args.self.now front entries shown (sym c.needs_repair.ensures ∙ c.if-needs_repair.true) c.repair.new.self settles task part)
    c.repair.ensures.mended

pub returns-then-needs_repair-clause-torn : goal.returns-then-needs_repair-clause-torn
returns-then-needs_repair-clause-torn g c = on_err_two c.repair.result (λ due unsettled front entries shown task part.
    not_mended_records c.args.self.now _ front entries shown c.if-self.false (sym c.needs_repair.ensures ∙ c.if-needs_repair.true) refl unsettled (due, c.if-self.false) refl refl task part)
    c.repair.ensures.due c.repair.ensures.fault

pub returns-then-needs_repair-clause-left : goal.returns-then-needs_repair-clause-left
returns-then-needs_repair-clause-left g c front entries shown task part tell =
    mending_records c.args.self.now front entries shown (sym c.needs_repair.ensures ∙ c.if-needs_repair.true) c.repair.new.self.device g.met.D.Disk.counts_now tell
    (λ front entry place stands telling. c.repair.ensures.left front entry place stands telling) task part

pub returns-else-needs_repair-clause-records : goal.returns-else-needs_repair-clause-records
returns-else-needs_repair-clause-records g c = λ front entries shown task part.
    none_is_due c.args.self.now front entries shown task c.if-self.false (sym c.needs_repair.ensures ∙ c.if-needs_repair.false) part

pub returns-else-needs_repair-clause-left : goal.returns-else-needs_repair-clause-left
returns-else-needs_repair-clause-left g c front entries shown task part tell =
    none_is_due c.args.self.now front entries shown task c.if-self.false (sym c.needs_repair.ensures ∙ c.if-needs_repair.false) part
