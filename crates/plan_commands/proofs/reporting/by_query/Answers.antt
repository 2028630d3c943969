use Rattle.plan_commands.proofs.reporting.by_query.Goals as goal

pub over_text-requires : goal.over_text-requires
over_text-requires g c = record {
  day = c.requires.day;
  valid = c.requires.valid;
  query = c.requires.query;
  letters = c.requires.made.letters;
  styles = c.requires.made.styles;
  quotes = c.requires.made.quotes;
}
