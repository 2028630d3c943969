use Rattle.std.proofs.Common.{map, sym, ap, ◌∙◌, subst}
use Rattle.std.proofs.lemmas.List.{take_all}
use Rattle.generated.specs.Asking.{AllAnswer, IsQuery, all_asked}
use Rattle.generated.specs.Queries.{asked_by}
use Rattle.generated.proofs.Steps.{answers_push, asked_push, query_at}
use Rattle.generated.proofs.asking.askers_of.Goals as goal

pub loop-read-init : goal.loop-read-init
loop-read-init c = record {
  asked = ap all_asked c.in_ok-askers.ensures.items;
  answers = subst AllAnswer (sym c.in_ok-askers.ensures.items) tt;
}

pub asker_of-requires : goal.asker_of-requires
asker_of-requires c =
    subst IsQuery (sym c.read-item.is) (query_at c.args.reads.now c.loop-read.read-index c.read-item.result c.requires c.loop-read-test.true)

pub loop-read-preserved : goal.loop-read-preserved
loop-read-preserved c = record {
  asked = ap all_asked c.in_ok-push.ensures.items
      ∙ asked_push c.loop-read.askers.items c.args.reads.now c.loop-read.read-index c.in_ok-asker.asker c.read-item.result c.loop-read-test.true
      c.loop-read.invariant.asked (c.in_ok-asker.ensures.asked ∙ ap asked_by c.read-item.is);
  answers = subst AllAnswer (sym c.in_ok-push.ensures.items)
      (answers_push c.loop-read.askers.items c.in_ok-asker.asker c.loop-read.invariant.answers c.in_ok-asker.ensures.answers);
}

pub returns : goal.returns
returns c = record {
  asked = c.loop-read.invariant.asked ∙ ap (map asked_by) (take_all c.loop-read.read-index c.args.reads.now c.loop-read-test.false);
  answers = c.loop-read.invariant.answers;
}
