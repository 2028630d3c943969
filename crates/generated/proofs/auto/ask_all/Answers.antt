use Rattle.std.proofs.Common.{List, refl, sym, subst}
use Rattle.query.specs.OwnLetters.{own_in}
use Rattle.generated.specs.Asking.{all_asked}
use Rattle.generated.specs.Remembering.{Remembers}
use Rattle.generated.specs.Rules.{Asked}
use Rattle.generated.proofs.Ending.{letters_told}
use Rattle.generated.proofs.auto.ask_all.Goals as goal

pub ask_kept-requires : goal.ask_kept-requires
ask_kept-requires c = record {
  answers = c.in-Ok.ensures.ask.answers;
  kept = subst (λ (rules : List Asked). Remembers rules c.in-Ok.kept) (sym c.in-Ok.ensures.ask.same) c.in-Ok.ensures.kept;
}

pub returns-in-Ok : goal.returns-in-Ok
returns-in-Ok c =
    let own = own_in c.args.types.now in
    letters_told c.ask_kept.result own own (all_asked c.remember_all.new.askers) (all_asked c.args.askers.now) c.args.txns.now (λ name. refl)
    c.in-Ok.ensures.ask.same c.ask_kept.ensures
