use Rattle.std.proofs.Common.{◌∙◌, Result, Ok, ap, sym}
use Rattle.clap.specs.Words.{found_of}
use Rattle.serve_line.specs.Words.{said_or_usage}
use Rattle.serve_line.specs.declared.matched.Said.{Said}
use Rattle.serve_line.specs.declared.words.NoReading.{NoReading}
use Rattle.serve_line.proofs.Clapping.{same_said}
use Rattle.serve_line.proofs.matched.said_by.Goals as goal

pub returns : goal.returns
returns c =
    let whole : Said → Result Said NoReading = λ said. Ok said in
    ap said_or_usage c.in_ok-matches.ensures ∙ ap whole (sym (c.in_ok-said.ensures ∙ same_said (found_of c.in_ok-matches.matches)))
