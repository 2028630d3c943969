-- What is remembered of accounts.
use Rattle.std.specs.Prelude.{◌<◌, ℕ, List, [], length, get_or, Option, Bool, IfSome}
use Rattle.std.specs.HashMap.{get_by_text}
use Rattle.generated.specs.Alone.{AreVerdicts}
use Rattle.generated.specs.Asking.{AllAnswer, all_asked}
use Rattle.generated.specs.Rules.{Asked}
use Rattle.generated.specs.declared.asking.Asker.{Asker}
use Rattle.generated.specs.declared.remembering.Remembered.{Remembered}

-- at this place stands what is known of some rules and the postings of an account
abbrev pub IsPlaceOf : List Asked → List (List (Option Bool)) → List ℕ → ℕ → Type 0
IsPlaceOf rules verdicts account at = (at < length verdicts) × AreVerdicts account rules (get_or verdicts at [])

-- an account that is remembered has such a place
pub record Remembers (rules : List Asked) (kept : Remembered) : Type 0 where
  pub each : (account : List ℕ) → IfSome (get_by_text kept.places account) (IsPlaceOf rules kept.verdicts.items account)

-- rules can be asked, with what is remembered of them
pub record AreReady (askers : List Asker) (known : Remembered) : Type 0 where
  pub answers : AllAnswer askers
  pub kept : Remembers (all_asked askers) known
