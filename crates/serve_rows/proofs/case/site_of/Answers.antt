use Rattle.serve_rows.proofs.case.site_of.Goals as goal

pub returns-clause-sound : goal.returns-clause-sound
returns-clause-sound c = c.in_ok-house.ensures

pub returns-clause-output : goal.returns-clause-output
returns-clause-output c = c.in_ok-outside.ensures.output

pub returns-clause-error : goal.returns-clause-error
returns-clause-error c = c.in_ok-outside.ensures.error
