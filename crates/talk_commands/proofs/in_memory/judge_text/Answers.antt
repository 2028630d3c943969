use Rattle.std.proofs.Common.{None, sym, subst}
use Rattle.live_journal.specs.Loading.{fault_of}
use Rattle.store_making.specs.Refusals.{IsOfText}
use Rattle.store_making.specs.declared.refusal.JournalRefusal.{JournalRefusal}
use Rattle.store_making.proofs.MakingLaws.{told_of_text}
use Rattle.talk_commands.proofs.in_memory.judge_text.Goals as goal

pub returns-in-Err-clause-cause : goal.returns-in-Err-clause-cause
returns-in-Err-clause-cause g c =
    let none = fault_of None c.args.text.now in
    subst (λ (r : JournalRefusal). IsOfText r none) (sym c.of_text.ensures) (told_of_text c.in-Err.fault none c.in-Err.ensures.fault)
