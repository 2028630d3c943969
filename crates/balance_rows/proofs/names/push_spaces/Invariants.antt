use Rattle.std.proofs.Common.{◌≡◌, ◌++◌, ◌*◌, replicate}
use Rattle.std.specs.String.{string_bytes}
use Rattle.hl_base.specs.Ascii.{space}
use Rattle.balance_rows.proofs.names.push_spaces.Given as goal

abbrev pub invariant-loop-pushed : goal.invariant-loop-pushed
invariant-loop-pushed l = string_bytes l.name ≡ string_bytes l.initial.name ++ replicate (2 * l._pushed) space
