use Rattle.store_commands.proofs.asking.ask_desk.Goals as goal

pub returns : goal.returns
returns g c =
    let q = c.request-reply in
    record {
      now = q.new.self;
      served = q.ensures.served;
      maker = q.ensures.maker;
      complete = q.ensures.complete;
      returned = c.close-first.ensures;
    }
