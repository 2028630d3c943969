use Rattle.std.proofs.Common.{◌≡◌, map, drop}
use Rattle.std.specs.List.{list_any}
use Rattle.web_messages.specs.Fields.{has_close}
use Rattle.web_messages.proofs.fields.any_close.Given as goal

-- whether one of the rest has it decides
abbrev pub invariant-loop-value : goal.invariant-loop-value
invariant-loop-value l =
    list_any has_close (map (λ v. v.now) l.values) ≡ list_any has_close (map (λ v. v.now) (drop l.value-index l.values))
