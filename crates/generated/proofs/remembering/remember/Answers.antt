use Rattle.std.proofs.Common.{refl}
use Rattle.generated.specs.Asking.{AllAsk, all_asked}
use Rattle.generated.proofs.Keeping.{then_so}
use Rattle.generated.proofs.Steps.{always}
use Rattle.generated.proofs.remembering.remember.Goals as goal

pub verdicts_of-requires : goal.verdicts_of-requires
verdicts_of-requires c = c.requires.answers

pub returns-then-is_done-clause-kept : goal.returns-then-is_done-clause-kept
returns-then-is_done-clause-kept c = c.requires.kept

pub returns-then-is_done-clause-ask : goal.returns-then-is_done-clause-ask
returns-then-is_done-clause-ask c = record { same = refl; answers = c.requires.answers }

pub returns-clause-kept : goal.returns-clause-kept
returns-clause-kept c =
    then_so c.keep.result _ _ (λ keep. keep (all_asked c.args.askers.now) c.in_ok-known.ensures.verdicts c.requires.kept) c.keep.ensures

pub returns-clause-ask : goal.returns-clause-ask
returns-clause-ask c = always c.keep.result (AllAsk c.args.askers.now c.verdicts_of.new.askers) c.in_ok-known.ensures.ask
