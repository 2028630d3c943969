use Rattle.std.proofs.Common.{length, sym, ap, ◌∙◌, arith}
use Rattle.std.proofs.lemmas.List.FromFn.{length-map-range_with_len}
use Rattle.hl_time.specs.Units.{occurrence}
use Rattle.rule_entries.proofs.counting.day_count.Goals as goal

pub returns : goal.returns
returns c =
    let occasions = c.occasions_in.result in
    record {
      count = c.count.ensures
          ∙ sym (length-map-range_with_len (occurrence occasions.start.0 occasions.interval) occasions.first occasions.count)
          ∙ ap length c.occasions_in.ensures.seen;
      few = omega (arith, c.count.ensures, c.occasions_in.ensures.days.few);
    }
