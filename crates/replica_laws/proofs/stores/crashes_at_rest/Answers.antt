use Rattle.text_store.proofs.Parts.{still}
use Rattle.replica_laws.proofs.Opened.{still_stands}
use Rattle.replica_laws.proofs.stores.crashes_at_rest.Goals as goal

pub returns : goal.returns
returns g c = λ records has tell first second of_first of_second.
    still_stands c.args.store.now records has first second (still c.args.store.now records.shown has.held tell first second of_first of_second)
