use Rattle.std.proofs.Common.{◌≡◌, ◌++◌, map, drop}
use Rattle.httparse.specs.Spans.{header_bytes}
use Rattle.web_messages.specs.Fields.{values_of}
use Rattle.web_messages.proofs.fields.values.Given as goal

-- the values so far and those of the rest make up all
abbrev pub invariant-loop-span : goal.invariant-loop-span
invariant-loop-span l =
    values_of l.name (map (header_bytes l.head) l.spans)
    ≡ map (λ v. v.now) l.found.items ++ values_of l.name (map (header_bytes l.head) (drop l.span-index l.spans))
