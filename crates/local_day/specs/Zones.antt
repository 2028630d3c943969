-- The zone that the environment variable TZ and a zone's file describe.
use Rattle.std.specs.Prelude.{◌≡◌, ◌⊎◌, ℕ, List, Option, None, Some, Ok, Err}
use Rattle.jiff_core.specs.declared.error.TzifFault.{TzifFault}
use Rattle.jiff_tz.specs.declared.tzif.Tzif.{Tzif}
use Rattle.jiff_tz.specs.PosixReader.{read_whole}
use Rattle.jiff_tz.specs.PosixText.{TzText, tz_view}
use Rattle.jiff_tz.specs.Tzif.{tzif_view, HasBadRule}
use Rattle.jiff_tz.specs.TzifReader.{read_tzif}
use Rattle.local_day.specs.Naming.{name_in}
use Rattle.local_day.specs.declared.zone.Zone.{Zone}
use Rattle.local_day.specs.declared.zone.Zone.TheVariants as kinds

-- the bytes are no zone's file: they have a fault, or a rule that isn't that of the table's last row
abbrev pub HasNoTable : List ℕ → Type 0
HasNoTable bytes = ((fault : TzifFault) × (read_tzif bytes ≡ Err fault)) ⊎ HasBadRule (read_tzif bytes)

-- the table in bytes, where they hold one
abbrev pub IsTableIn : List ℕ → Option Tzif → Type 0
IsTableIn bytes None = HasNoTable bytes
IsTableIn bytes (Some table) = read_tzif bytes ≡ Ok (tzif_view table)

-- the table of a file that may have been read
abbrev pub IsTableOf : Option (List ℕ) → Option Tzif → Type 0
IsTableOf (Some bytes) table = IsTableIn bytes table
IsTableOf None None = Unit {0}
IsTableOf None (Some table) = ⊥

-- the rule that TZ writes, where it is set and writes one
abbrev pub rule_in : Option (List ℕ) → Option TzText
rule_in None = None
rule_in (Some text) = read_whole (name_in text)

-- the zone of what TZ says, where it is set, and of the bytes of a file, where it was read: that of the file's table, else
-- of the rule that TZ writes, else UTC
abbrev pub IsZone : Option (List ℕ) → Option (List ℕ) → Zone → Type 0
IsZone named file kinds.Utc = IsTableOf file None × (rule_in named ≡ None)
IsZone named file (kinds.Rule rule) = IsTableOf file None × (rule_in named ≡ Some (tz_view rule))
IsZone named file (kinds.Table table) = IsTableOf file (Some table)
