-- The bytes of an owned text.
use Rattle.std.specs.Prelude.{ℕ, List}
use Rattle.std.specs.String.{string_bytes}
use Rattle.hl_base.specs.declared.short.Kept.{Kept}
use Rattle.hl_base.specs.declared.short.Kept.TheVariants as kept

-- in place, or apart in a string
abbrev pub bytes_of : Kept → List ℕ
bytes_of (kept.Here short) = short
bytes_of (kept.Apart string) = string_bytes string
