use Rattle.std.proofs.Common.{◌≡◌, drop}
use Rattle.std.specs.List.{list_any}
use Rattle.std.specs.Str.{bytes_eq}
use Rattle.web_messages.proofs.form.has_named.Given as goal

abbrev pub invariant-loop-parameter : goal.invariant-loop-parameter
invariant-loop-parameter l = list_any (λ p. bytes_eq p.name l.name) (drop l.parameter-index l.all) ≡ list_any (λ p. bytes_eq p.name l.name) l.all
