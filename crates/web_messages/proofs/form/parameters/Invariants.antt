use Rattle.std.proofs.Common.{◌≡◌, ◌++◌, map}
use Rattle.form_urlencoded.specs.Form.{raw_pairs}
use Rattle.web_messages.specs.Forms.{parameters_of, parameter_of}
use Rattle.web_messages.proofs.form.parameters.Given as goal

-- the parameters so far and those of the rest make up all
abbrev pub invariant-loop-name : goal.invariant-loop-name
invariant-loop-name l = parameters_of l.fn.text ≡ l.all.items ++ map parameter_of (raw_pairs l.name-iterator.input.now)
