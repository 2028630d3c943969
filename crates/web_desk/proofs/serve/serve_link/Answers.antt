use Rattle.std.proofs.Common.{◌∙◌, [], ◌++◌, sym, subst, refl, lit<, arith}
use Rattle.web_messages.specs.Unread.{Unread}
use Rattle.web_desk.proofs.CourseLemmas.{nothing_well, told_well}
use Rattle.web_desk.proofs.FewEntries.{few_in_all, few_more}
use Rattle.web_desk.proofs.MakerLemmas.{asked_more, none_asked}
use Rattle.web_desk.proofs.ServeLemmas.{Ran, ran_start, ran_more, served_end, served_nothing}
use Rattle.web_desk.proofs.serve.serve_link.Goals as goal

pub returns-in_default-clause-served : goal.returns-in_default-clause-served
returns-in_default-clause-served g c =
    let link = g.K.Link in
    ([], g.met.A.Ask.none c.args.ask.now, none_asked (g.C.Clock.always c.args.clock.now) (g.M.Maker.refusals c.args.maker.now) (g.M.Maker.last_refused c.args.maker.now), served_nothing c.args.page.now (link.coming c.args.link.now) (link.sent c.args.link.now), omega arith)

pub returns-in_default-new-clause-served : goal.returns-in_default-new-clause-served
returns-in_default-new-clause-served g c =
    let link = g.K.Link in
    ([], g.met.A.Ask.none c.args.ask.now, none_asked (g.C.Clock.always c.args.clock.now) (g.M.Maker.refusals c.args.maker.now) (g.M.Maker.last_refused c.args.maker.now), served_nothing c.args.page.now (link.coming c.args.link.now) (link.sent c.args.link.now), omega arith)

pub messages-init : goal.messages-init
messages-init g c =
    let link = g.K.Link in
    let coming = link.coming c.args.link.now in
    let sent = link.sent c.args.link.now in
    let P : Unread → Type 0 = λ u. Ran c.args.page.now coming sent coming sent u 0 0 [] in
    record {
      few = lit< tt;
      bound = omega arith;
      always = refl;
      reads = refl;
      writes = refl;
      run = ([], g.met.A.Ask.none c.args.ask.now, none_asked (g.C.Clock.always c.args.clock.now) (g.M.Maker.refusals c.args.maker.now) (g.M.Maker.last_refused c.args.maker.now), subst P (sym c.in-Ok-new.ensures) (ran_start c.args.page.now coming sent), omega arith);
    }

pub returns-in-Err-clause-served : goal.returns-in-Err-clause-served
returns-in-Err-clause-served g c =
    let link = g.K.Link in
    let run = c.messages.invariant.run in
    let one = c.in-Err.ensures.served in
    let maker = g.M.Maker in (
      run.0 ++ one.0,
      g.met.A.Ask.joined c.args.ask.now c.messages.ask c.serve_one.new.ask run.0 one.0 run.1 one.1,
      asked_more (g.C.Clock.always c.args.clock.now) (g.C.Clock.always c.messages.clock) (maker.refusals c.args.maker.now) (maker.refusals c.messages.maker) (maker.refusals c.serve_one.new.maker)
          (maker.last_refused c.args.maker.now) (maker.last_refused c.messages.maker) (maker.last_refused c.serve_one.new.maker) run.0 one.0 c.messages.invariant.always run.2 one.2,
      served_end c.args.page.now (link.coming c.args.link.now) (link.sent c.args.link.now) (link.coming c.messages.link) (link.sent c.messages.link)
          (link.coming c.serve_one.new.link) (link.sent c.serve_one.new.link) c.messages.incoming c.serve_one.new.incoming c.messages.at c.messages.count
          c.in-Err.end run.0 one.0 run.3 one.3,
      few_in_all run.0 one.0 c.messages.count c.messages.invariant.few run.4 one.4,
    )

pub messages-preserved : goal.messages-preserved
messages-preserved g c =
    let link = g.K.Link in
    let run = c.messages.invariant.run in
    let one = c.in-Ok-serve_one.ensures.served in
    let maker = g.M.Maker in
    record {
      few = c.in-Ok-serve_one.ensures.few;
      bound = omega (arith, c.messages.invariant.bound, c.in-Ok-serve_one.ensures.size);
      always = c.serve_one.ensures.always ∙ c.messages.invariant.always;
      reads = c.in-Ok-serve_one.ensures.counted.0 ∙ c.messages.invariant.reads;
      writes = c.in-Ok-serve_one.ensures.counted.1 ∙ c.messages.invariant.writes;
      run = (
        run.0 ++ one.0,
        g.met.A.Ask.joined c.args.ask.now c.messages.ask c.serve_one.new.ask run.0 one.0 run.1 one.1,
        asked_more (g.C.Clock.always c.args.clock.now) (g.C.Clock.always c.messages.clock) (maker.refusals c.args.maker.now) (maker.refusals c.messages.maker) (maker.refusals c.serve_one.new.maker)
            (maker.last_refused c.args.maker.now) (maker.last_refused c.messages.maker) (maker.last_refused c.serve_one.new.maker) run.0 one.0 c.messages.invariant.always run.2 one.2,
        ran_more c.args.page.now (link.coming c.args.link.now) (link.sent c.args.link.now) (link.coming c.messages.link) (link.sent c.messages.link)
            (link.coming c.serve_one.new.link) (link.sent c.serve_one.new.link) c.messages.incoming c.serve_one.new.incoming c.messages.at c.messages.count
            c.in-Ok-serve_one.size run.0 one.0 run.3 one.3,
        few_more run.0 one.0 c.messages.count run.4 one.4,
      );
    }

pub returns-in-Err-clause-always : goal.returns-in-Err-clause-always
returns-in-Err-clause-always g c = c.serve_one.ensures.always ∙ c.messages.invariant.always

pub returns-in_default-clause-sound : goal.returns-in_default-clause-sound
returns-in_default-clause-sound g c = nothing_well (g.K.Link.coming c.args.link.now)

pub returns-in_default-new-clause-sound : goal.returns-in_default-new-clause-sound
returns-in_default-new-clause-sound g c = nothing_well (g.K.Link.coming c.args.link.now)

pub returns-in-Err-clause-sound : goal.returns-in-Err-clause-sound
returns-in-Err-clause-sound g c =
    let link = g.K.Link in
    let run = c.messages.invariant.run in
    let one = c.in-Err.ensures.served in
    told_well c.args.page.now (link.coming c.args.link.now) (link.sent c.args.link.now) (link.sent c.serve_one.new.link) c.in-Err.end (run.0 ++ one.0)
    (served_end c.args.page.now (link.coming c.args.link.now) (link.sent c.args.link.now) (link.coming c.messages.link) (link.sent c.messages.link)
    (link.coming c.serve_one.new.link) (link.sent c.serve_one.new.link) c.messages.incoming c.serve_one.new.incoming c.messages.at c.messages.count
    c.in-Err.end run.0 one.0 run.3 one.3)
