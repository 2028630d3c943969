use Rattle.std.proofs.Common.{Ok, refl, sym}
use Rattle.parallel_reading.specs.Runs.{both, first_part, read_alike, second_part}
use Rattle.parallel_reading.proofs.Runs.{Told, five_runs}
use Rattle.parallel_reading.proofs.threads.read_by_four.Goals as goal

pub returns : goal.returns
returns g c =
    let context = c.args.context.now in
    let text = c.args.text.now in
    let pieces = c.args.pieces.now in
    let before : Told = Ok c.args.items.items in
    let one : Told = read_alike context text (first_part (first_part pieces)) in
    let two : Told = read_alike context text (second_part (first_part pieces)) in
    let three : Told = read_alike context text (first_part (second_part pieces)) in
    let four : Told = read_alike context text (second_part (second_part pieces)) in
    let parts = c.read_four_parts-first.ensures in
    rw (sym (five_runs before context text pieces))
    (c.joined.ensures (both (both (both before one) two) three) four
    (c.joined-most.ensures (both (both before one) two) three
    (c.joined-half.ensures (both before one) two (c.joined-begun.ensures before one refl parts.first) parts.second) parts.third) parts.fourth)
