use Rattle.std.proofs.Common.{set, sym, subst, ◌∙◌}
use Rattle.std.proofs.lemmas.List.{length-set}
use Rattle.book.specs.declared.item.Item.{Item}
use Rattle.book.specs.Standing.{places_from, with_number, without_number}
use Rattle.counted_styles.specs.declared.styles.CountedStyles.{CountedStyles}
use Rattle.counted_styles.specs.Alike.{IsSilent}
use Rattle.counted_styles.specs.Kept.{AreOf}
use Rattle.counted_styles.proofs.Comparing.{style-changed}
use Rattle.counted_styles.proofs.Placing.{are-changed, standing-is, stands-there}
use Rattle.counted_styles.proofs.text.TextStyles.with_changed.Goals as goal

pub returns : goal.returns
returns c = λ items was is h found we ie.
    let n = c.args.number in
    let all = places_from 0 (set items c.args.number is) in
    let before : AreOf (places_from 0 items) c.in_ok-counted.counted =
    subst (λ (s : CountedStyles). AreOf (places_from 0 items) s) (sym c.in_ok-counted.ensures) h.counted in
    let put : AreOf (with_number c.args.number c.args.new.now (without_number c.args.number (places_from 0 items))) c.change.new.counted =
    c.in_ok-change.ensures (places_from 0 items) before (stands-there n items was c.args.old.now found we) in
    let after : AreOf (places_from 0 (set items c.args.number is)) c.change.new.counted = are-changed n items was is c.args.new.now c.change.new.counted found ie put in
    record {
      counted = after;
      count = h.count ∙ sym (length-set items n is);
      styled = λ q.
          c.in_ok-styles.ensures all after
          (λ q so si. h.styled q
          ∙ sym (style-changed q items n was is found (subst (λ (i : Item). IsSilent q i) (sym we) so) (subst (λ (i : Item). IsSilent q i) (sym ie) si))
          ∙ sym (standing-is (set items n is) q))
          q
          ∙ standing-is (set items n is) q;
    }
