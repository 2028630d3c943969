use Rattle.std.proofs.Common.{◌+◌, ◌++◌, ℕ, length, sym, ap, subst, ◌∙◌}
use Rattle.std.proofs.lemmas.List.{length-append}
use Rattle.book.specs.Standing.{places_from}
use Rattle.book.specs.Styles.{style_in, style_standing}
use Rattle.counted_styles.specs.declared.styles.CountedStyles.{CountedStyles}
use Rattle.counted_styles.specs.Kept.{AreOf}
use Rattle.counted_styles.proofs.Comparing.{items-or, style-behind}
use Rattle.counted_styles.proofs.Placing.{standing-is}
use Rattle.counted_styles.proofs.text.TextStyles.with_added.Goals as goal

pub returns : goal.returns
returns c = λ items h.
    let more = c.args.more.now in
    let all = places_from 0 (items ++ c.args.more.now) in
    let before : AreOf (places_from 0 items) c.in_ok-counted.counted =
    subst (λ (s : CountedStyles). AreOf (places_from 0 items) s) (sym c.in_ok-counted.ensures) h.counted in
    let after : AreOf (places_from 0 (items ++ c.args.more.now)) c.add_all.new.counted = c.in_ok-count.ensures.added items h.count before in
    record {
      counted = after;
      count = c.in_ok-count.ensures.next ∙ ap (λ (n : ℕ). n + length more) h.count ∙ sym (length-append items more);
      styled = λ q.
          c.in_ok-styles.ensures all after
          (λ e q. items-or (style_in c.args.self.now.styles) (style_standing all) q more (c.in_ok-alike.ensures all after e)
          (λ silent. h.styled q ∙ sym (style-behind q items more silent) ∙ sym (standing-is (items ++ more) q)))
          q
          ∙ standing-is (items ++ more) q;
    }
