-- That the names of import states are short is one fact.
use Rattle.std.specs.Prelude.{List, [], ◌∷◌}
use Rattle.std.specs.Coded.{×_prop, Unit-prop, le_prop}
use Rattle.hl_base.specs.declared.change.Latest.{Latest}
use Rattle.text_store.specs.Files.{HaveShortNames}

pub HaveShortNames-prop : (latest : List Latest) → IsProp (HaveShortNames latest)
HaveShortNames-prop [] = Unit-prop
HaveShortNames-prop (state ∷ states) = ×_prop le_prop (HaveShortNames-prop states)
