-- Why a file isn't an empty one at rest.
use Rattle.std.specs.Prelude.{◌≡◌, ◌<◌, ℕ, List, length, Option, Some}
use Rattle.hl_base.specs.Causes.{Rose}
use Rattle.text_store.specs.declared.fault.StoreFault.{StoreFault}
use Rattle.text_store.specs.declared.fault.StoreFault.TheVariants.{DiskFault, NotAStore, Newer, Full, Exists, Memory}

abbrev pub EmptyRefused : Option (List ℕ) → ℕ → ℕ → StoreFault → Type 0
EmptyRefused told before now DiskFault = Rose before now
EmptyRefused told before now (Exists len) = (0 < len) × (now ≡ before) × ((file : List ℕ) → told ≡ Some file → len ≡ length file)
EmptyRefused told before now (Full size limit) = ⊥
EmptyRefused told before now Memory = ⊥
EmptyRefused told before now (NotAStore at) = ⊥
EmptyRefused told before now (Newer version) = ⊥

-- why a file wasn't read
abbrev pub ReadRefused : ℕ → ℕ → StoreFault → Type 0
ReadRefused before now DiskFault = Rose before now
ReadRefused before now Memory = Unit {0}
ReadRefused before now (Exists len) = ⊥
ReadRefused before now (Full size limit) = ⊥
ReadRefused before now (NotAStore at) = ⊥
ReadRefused before now (Newer version) = ⊥
