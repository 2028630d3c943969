use Rattle.index_cells.proofs.tests.names_stay.Goals as goal

pub prepare-requires : goal.prepare-requires
prepare-requires c =
    record { room = (c.args.all.now, (c.requires.0, record { keeps = c.in_ok-kept.ensures.keeps; exchange = c.requires.1.0; fits = c.requires.1.1 })) }
