-- Days of a span, and those of them that a column counts.
use Rattle.std.specs.Prelude.{ℕ, Bool, ◌&&◌, nat_le, nat_lt, min, max}
use Rattle.hl_time.specs.declared.spans.Span.{Span}
use Rattle.report_cells.specs.declared.reach.Reach.{Reach}
use Rattle.report_cells.specs.declared.reach.Reach.TheVariants.{Within, UpTo}

abbrev pub holds : Span → ℕ → Bool
holds days day = nat_le days.from day && nat_lt day days.end

-- the days of a span that a column counts: its own, or all before its end
abbrev pub counted : Reach → Span → Span → Span
counted Within days column = record { from = max days.from column.from; end = min days.end column.end }
counted UpTo days column = record { from = days.from; end = min days.end column.end }
