use Rattle.std.proofs.Common.{map, refl, sym, ap, ◌∙◌, subst}
use Rattle.query.specs.OwnLetters.{own_in}
use Rattle.generated.specs.Asking.{AllAnswer, all_asked}
use Rattle.generated.specs.Queries.{asked_by}
use Rattle.generated.proofs.Ending.{letters_told}
use Rattle.generated.proofs.auto.ask_with.Goals as goal

pub ask_all-requires : goal.ask_all-requires
ask_all-requires c = subst AllAnswer (sym c.deref_mut.ensures.value) c.in-Ok.ensures.answers

pub returns-in-Ok : goal.returns-in-Ok
returns-in-Ok c =
    let own = own_in c.args.types.now in
    letters_told c.ask_all.result own own (all_asked c.deref_mut.result.now) (map asked_by c.args.reads.now) c.args.txns.now (λ name. refl)
    (ap all_asked c.deref_mut.ensures.value ∙ c.in-Ok.ensures.asked) c.ask_all.ensures
