use Rattle.rule_entries.proofs.Replacing.{parted, shorter}
use Rattle.rule_entries.proofs.accounts.around_word.Goals as goal

pub returns : goal.returns
returns c = record {
  cut = parted c.args.name.now c.split_once.result c.split_once.ensures.cases;
  shorter = shorter c.args.name.now c.split_once.result c.split_once.ensures.cases;
}
