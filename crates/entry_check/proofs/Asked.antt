-- What is asked one after another.
use Rattle.std.proofs.Common.{◌∙◌, refl, arith}
use Rattle.hl_base.specs.Counts.{Counts}
use Rattle.book.specs.SumsBefore.{OnlyAsked}

pub asked_none : (a : Counts) → OnlyAsked a a
asked_none a = record { bytes_read = refl; checked = refl; nodes = omega arith }

pub asked_both : (a b c : Counts) → OnlyAsked a b → OnlyAsked b c → OnlyAsked a c
asked_both a b c h k = record {
  bytes_read = k.bytes_read ∙ h.bytes_read;
  checked = k.checked ∙ h.checked;
  nodes = omega (arith, h.nodes, k.nodes);
}
