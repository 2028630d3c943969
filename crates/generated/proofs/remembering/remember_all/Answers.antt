use Rattle.std.proofs.Common.{List, sym, subst}
use Rattle.generated.specs.Asking.{all_asked}
use Rattle.generated.specs.Remembering.{Remembers}
use Rattle.generated.specs.Rules.{Asked}
use Rattle.generated.proofs.Steps.{ask_none, ask_then}
use Rattle.generated.proofs.remembering.remember_all.Goals as goal

pub loop-txn-init : goal.loop-txn-init
loop-txn-init c = record { kept = c.none-kept.ensures (all_asked c.args.askers.now); ask = ask_none c.args.askers.now c.requires }

pub remember_in-requires : goal.remember_in-requires
remember_in-requires c = record {
  answers = c.loop-txn.invariant.ask.answers;
  kept = subst (λ (rules : List Asked). Remembers rules c.loop-txn.kept) (sym c.loop-txn.invariant.ask.same) c.loop-txn.invariant.kept;
}

pub loop-txn-preserved : goal.loop-txn-preserved
loop-txn-preserved c = record {
  kept = subst (λ (rules : List Asked). Remembers rules c.remember_in.new.kept) c.loop-txn.invariant.ask.same c.in_ok-remember_in.ensures.kept;
  ask = ask_then c.args.askers.now c.loop-txn.askers c.remember_in.new.askers c.loop-txn.invariant.ask c.in_ok-remember_in.ensures.ask;
}
