use Rattle.std.proofs.Common.{◌≡◌, drop}
use Rattle.csv_entries.specs.Dates.{no_parts, parts_of}
use Rattle.csv_entries.proofs.dates.read_parts.Given as goal

abbrev pub invariant-loop-part : goal.invariant-loop-part
invariant-loop-part l = parts_of l.format no_parts l.text ≡ parts_of (drop l.part-index l.format) l.parts l.rest
