use Rattle.std.proofs.Common.{◌≡◌, map, drop}
use Rattle.std.specs.Str.{bytes_eq}
use Rattle.query_terms.specs.Reading.{upper}
use Rattle.query.proofs.account_types.is_named.Given as goal

abbrev pub invariant-loop-i : goal.invariant-loop-i
invariant-loop-i l = bytes_eq (map upper l.part) l.word ≡ bytes_eq (map upper (drop l.i l.part)) (drop l.i l.word)
