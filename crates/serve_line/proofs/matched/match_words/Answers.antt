use Rattle.std.proofs.Common.{◌≡◌, ◌∙◌, Err, IfSome, ap, subst, sym}
use Rattle.clap.specs.Words.{app_of, kind_of}
use Rattle.serve_line.specs.Words.{lent_texts, rows_by, no_reading_cause, no_reading_of}
use Rattle.serve_line.specs.declared.words.NoReading.{NoReading}
use Rattle.serve_line.proofs.Clapping.{parsed_rows, refused_rows}
use Rattle.serve_line.proofs.matched.match_words.Goals as goal

pub returns-in-Ok : goal.returns-in-Ok
returns-in-Ok c =
    parsed_rows (app_of c.args.command) (lent_texts c.args.words.now) c.in-Ok.matches
    c.requires c.in-Ok.ensures.matches c.in-Ok.ensures.kinds

pub returns-in-Err : goal.returns-in-Err
returns-in-Err c =
    let words = lent_texts c.args.words.now in
    subst (λ (u : NoReading). IfSome (no_reading_cause u) (λ f. rows_by words ≡ Err f)) (sym (c.no_reading_of.ensures ∙ ap no_reading_of c.kind.ensures))
    (refused_rows (app_of c.args.command) words (kind_of c.in-Err.error) c.requires c.in-Err.ensures.kinds)
