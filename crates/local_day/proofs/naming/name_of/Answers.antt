use Rattle.std.proofs.Common.{Some, None, arith}
use Rattle.std.proofs.lemmas.Str.Pattern.{strip_prefix_char}
use Rattle.local_day.proofs.Names.{colon_gone, no_colon}
use Rattle.local_day.proofs.naming.name_of.Goals as goal

pub returns-in-Some : goal.returns-in-Some
returns-in-Some c =
    colon_gone c.args.text.now c.in-Some.name.now
    (strip_prefix_char 58 c.args.text.now (Some c.in-Some.name) c.in-Some.ensures.cases (omega arith))

pub returns-in-None : goal.returns-in-None
returns-in-None c = no_colon c.args.text.now (strip_prefix_char 58 c.args.text.now None c.in-None.ensures.cases (omega arith))
