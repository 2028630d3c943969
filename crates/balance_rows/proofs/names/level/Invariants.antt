use Rattle.std.proofs.Common.{◌≡◌, ◌==◌, take}
use Rattle.std.specs.List.{count_by}
use Rattle.hl_base.specs.Ascii.{colon}
use Rattle.balance_rows.proofs.names.level.Given as goal

abbrev pub invariant-loop-byte : goal.invariant-loop-byte
invariant-loop-byte l = l.levels ≡ count_by (λ b. b == colon) (take l.byte-index l.byte-items)
