-- Which failed reads of a link were counted.
use Rattle.std.specs.Prelude.{◌≡◌, ℕ, Result, Ok, Err}
use Rattle.hl_base.specs.Causes.{Rose}
use Rattle.web_messages.specs.declared.broken.Broken.{Broken}
use Rattle.web_messages.specs.declared.broken.Broken.TheVariants as broken

-- A failed read was counted, and nothing else was.
abbrev pub ReadsCounted : {T : Type 0} → Result T Broken → ℕ → ℕ → ℕ → ℕ → Type 0
ReadsCounted (Ok x) reads reads_now writes writes_now = (reads_now ≡ reads) × (writes_now ≡ writes)
ReadsCounted (Err broken.Link) reads reads_now writes writes_now = Rose reads reads_now × (writes_now ≡ writes)
ReadsCounted (Err broken.Memory) reads reads_now writes writes_now = (reads_now ≡ reads) × (writes_now ≡ writes)
