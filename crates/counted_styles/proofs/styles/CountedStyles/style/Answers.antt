use Rattle.std.proofs.Common.{◌∙◌}
use Rattle.counted_styles.specs.Kept.{chosen}
use Rattle.counted_styles.proofs.Reading.{AllRise, style-is}
use Rattle.counted_styles.proofs.styles.CountedStyles.style.Goals as goal

pub returns : goal.returns
returns c = λ standing are.
    let up : AllRise c.args.self.now = record {
      commodities = c.last-commodity.ensures.rises;
      defaults = c.last-default.ensures.rises;
      first = c.first-first.ensures.heads;
      first_counts = c.first-first.ensures.counts;
      second = c.first-second.ensures.heads;
      second_counts = c.first-second.ensures.counts;
    } in
    c.chosen-4.ensures
    ∙ (λ i. chosen (c.last-commodity.ensures.value i) ((c.chosen-3.ensures ∙ (λ j. chosen (c.last-default.ensures.value j) ((c.chosen-2.ensures ∙ (λ k. chosen (c.first-first.ensures.value k) ((c.chosen.ensures ∙ (λ m. chosen (c.first-second.ensures.value m) (c.default_one.ensures m))) k))) j))) i))
    ∙ style-is standing c.args.self.now c.args.symbol.now up are
