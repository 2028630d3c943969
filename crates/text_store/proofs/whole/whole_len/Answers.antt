use Rattle.std.proofs.Common.{◌∙◌, ◌-◌, ◌^◌, min}
use Rattle.text_store.specs.Edits.{whole_size}
use Rattle.text_store.proofs.whole.whole_len.Goals as goal

pub returns : goal.returns
returns c = c.size_of_parts.ensures 0 ∙ (λ i. min (whole_size (record { text = c.as_slice.ensures i; latest = c.as_slice-2.ensures i; revision = 0 })) (2 ^ 64 - 1))
