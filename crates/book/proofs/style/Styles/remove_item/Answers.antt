use Rattle.std.proofs.Common.{refl, sym, subst}
use Rattle.book.specs.declared.style.Styles.{Styles}
use Rattle.book.specs.Style.{commodity_styles, default_styles, first_class, second_class}
use Rattle.book.specs.Standing.{without_number}
use Rattle.book.specs.Styles.{AreOf}
use Rattle.book.proofs.Kept.{Keeps-without, Rise-without}
use Rattle.book.proofs.style.Styles.remove_item.Goals as goal

pub returns : goal.returns
returns c = λ es h. subst (λ (s : Styles). AreOf (without_number c.args.number es) s) (sym c.forget_item.ensures) (record {
  rise = Rise-without c.args.number es h.rise;
  commodities = Keeps-without commodity_styles c.args.number es c.args.self.now.commodities _ refl h.commodities;
  defaults = Keeps-without default_styles c.args.number es c.args.self.now.defaults _ refl h.defaults;
  first = Keeps-without first_class c.args.number es c.args.self.now.first _ refl h.first;
  second = Keeps-without second_class c.args.number es c.args.self.now.second _ refl h.second;
})
