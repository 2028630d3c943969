use Rattle.walked_texts.specs.Making.{AreParts}
use Rattle.moved_walks.proofs.Answered.{answers-moved}
use Rattle.moved_walks.proofs.laws.answers_of_moved_lines.Goals as goal

pub returns : goal.returns
returns c items book answer n by edited before after old new can h = answers-moved (AreParts items book) answer n by edited before after old new can h
