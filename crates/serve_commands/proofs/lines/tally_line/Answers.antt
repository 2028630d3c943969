use Rattle.serve_commands.proofs.lines.tally_line.Goals as goal

pub returns-clause-small : goal.returns-clause-small
returns-clause-small c = (c.in_ok-line.ensures.small, c.in_ok-requests.ensures.small, c.in_ok-refused.ensures.small)
