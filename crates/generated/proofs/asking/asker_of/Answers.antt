use Rattle.std.proofs.Common.{refl}
use Rattle.generated.proofs.asking.asker_of.Goals as goal

pub returns : goal.returns
returns c = record {
  asked = refl;
  answers = record {
    terms = c.in_ok-search.ensures.terms;
    known = c.in_ok-search.ensures.known;
    means = c.requires.means;
    alone = c.requires.alone;
  };
}
