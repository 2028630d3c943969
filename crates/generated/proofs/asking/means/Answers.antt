use Rattle.std.proofs.Common.{Bool, Option, refl, sym, subst}
use Rattle.query.specs.OwnLetters.{own_in}
use Rattle.generated.specs.Alone.{IsSo}
use Rattle.generated.specs.Asking.{asked_of}
use Rattle.generated.proofs.asking.means.Goals as goal

pub returns-in-Some-clause-found : goal.returns-in-Some-clause-found
returns-in-Some-clause-found c =
    sym (subst (λ (known : Option Bool). IsSo (own_in c.args.types.now) c.args.txn.now c.args.posting.now (asked_of c.args.asker.now) known) c.in-Some.is c.requires.known)

pub returns-in-Some-clause-asks : goal.returns-in-Some-clause-asks
returns-in-Some-clause-asks c = record { same = refl; answers = c.requires.answers }
