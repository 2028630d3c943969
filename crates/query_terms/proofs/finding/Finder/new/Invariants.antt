use Rattle.std.proofs.Common.{◌≡◌, map, take}
use Rattle.query_terms.specs.Finders.{all_known}
use Rattle.query_terms.specs.Sought.{source_and_re}
use Rattle.query_terms.proofs.finding.Finder.new.Given as goal

abbrev pub invariant-loop-regex : goal.invariant-loop-regex
invariant-loop-regex l = all_known l.sought.items ≡ map source_and_re (take l.regex-index l.regexes)
