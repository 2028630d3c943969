use Rattle.std.proofs.Common.{List, sym, subst}
use Rattle.generated.specs.Remembering.{Remembers}
use Rattle.generated.specs.Rules.{Asked}
use Rattle.generated.proofs.Steps.{ask_none, ask_then}
use Rattle.generated.proofs.remembering.remember_in.Goals as goal

pub loop-posting-init : goal.loop-posting-init
loop-posting-init c = record { kept = c.requires.kept; ask = ask_none c.args.askers.now c.requires.answers }

pub remember-requires : goal.remember-requires
remember-requires c = record {
  answers = c.loop-posting.invariant.ask.answers;
  kept = subst (λ (rules : List Asked). Remembers rules c.loop-posting.kept) (sym c.loop-posting.invariant.ask.same) c.loop-posting.invariant.kept;
}

pub loop-posting-preserved : goal.loop-posting-preserved
loop-posting-preserved c = record {
  kept = subst (λ (rules : List Asked). Remembers rules c.remember.new.kept) c.loop-posting.invariant.ask.same c.in_ok-remember.ensures.kept;
  ask = ask_then c.args.askers.now c.loop-posting.askers c.remember.new.askers c.loop-posting.invariant.ask c.in_ok-remember.ensures.ask;
}
