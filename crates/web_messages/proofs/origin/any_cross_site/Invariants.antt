use Rattle.std.proofs.Common.{◌≡◌, map, drop}
use Rattle.std.specs.List.{list_any}
use Rattle.web_messages.specs.Fields.{is_word}
use Rattle.web_messages.specs.Origins.{cross_site}
use Rattle.web_messages.proofs.origin.any_cross_site.Given as goal

-- whether one of the rest is cross-site decides
abbrev pub invariant-loop-value : goal.invariant-loop-value
invariant-loop-value l =
    list_any (is_word cross_site) (map (λ v. v.now) l.values)
    ≡ list_any (is_word cross_site) (map (λ v. v.now) (drop l.value-index l.values))
