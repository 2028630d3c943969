use Rattle.std.proofs.Common.{ap, sym, ◌∙◌}
use Rattle.web_messages.specs.Targets.{is_target}
use Rattle.web_messages.proofs.InTargets.{inside_of, outside_of}
use Rattle.web_messages.proofs.target.is_inside_target.Goals as goal

pub returns-clause-inside : goal.returns-clause-inside
returns-clause-inside c is = inside_of c.args.bytes.now (sym (c.is_target.ensures ∙ ap is_target c.place_of.ensures) ∙ is)

pub returns-clause-outside : goal.returns-clause-outside
returns-clause-outside c is inside = outside_of c.args.bytes.now (sym (c.is_target.ensures ∙ ap is_target c.place_of.ensures) ∙ is) inside
