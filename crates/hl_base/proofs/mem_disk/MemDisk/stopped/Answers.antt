use Rattle.std.proofs.Common.{rules, ◌≡◌, ℕ, List, sym, subst}
use Rattle.hl_base.specs.History.{LeftSinceOf, stopped_text_of}
use Rattle.hl_base.proofs.Stops.{stopped_among}
use Rattle.hl_base.proofs.mem_disk.MemDisk.stopped.Goals as goal

pub returns-clause-told : goal.returns-clause-told
returns-clause-told c = λ moment before.
    let log = c.args.self.now.log in
    let text = c.args.self.now.surface.text in
    let same : c.match-self.surface.text ≡ stopped_text_of log text c.args.call c.args.bytes = search rules in
    subst (λ (left : List ℕ). LeftSinceOf log moment left) (sym same) (stopped_among log text c.args.call c.args.bytes moment before)
