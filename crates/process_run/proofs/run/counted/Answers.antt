use Rattle.std.proofs.Common.{ℕ, sym, subst}
use Rattle.shared_desk.specs.Stays.{kit_told}
use Rattle.process_run.specs.Running.{RunsAs}
use Rattle.process_run.proofs.run.counted.Goals as goal

pub returns : goal.returns
returns g c =
    let tell = kit_told g.H.Door.Door g.H.Clock.Clock g.H.Maker.Maker in
    let link = g.H.Door.Link.Link in
    let run = c.run_program in
    subst (λ (n : ℕ). RunsAs g.J.Source g.O.Sink g.E.Sink g.S.Shelf g.S.Disk.Disk g.M.Maker tell link.coming link.sent g.H.House.told c.args.words.now c.args.day n
    c.args.site.now run.new.site)
    (sym c.code_of.ensures) (record { served = run.ensures.served; other = run.ensures.other })
