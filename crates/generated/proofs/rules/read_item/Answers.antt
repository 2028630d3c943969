use Rattle.std.proofs.Common.{Bor, ◌≡◌, List, [], ◌∷◌, Option, MatchOption, refl, sym, subst}
use Rattle.book.specs.declared.rules.AutoRule.{AutoRule}
use Rattle.generated.specs.Reading.{ReadsMore}
use Rattle.generated.specs.Rules.{auto_in}
use Rattle.generated.proofs.Ones.{more_none_in}
use Rattle.generated.proofs.rules.read_item.Goals as goal

pub returns-in-Some : goal.returns-in-Some
returns-in-Some g c =
    subst (λ (rules : List AutoRule). ReadsMore c.args.day.0 rules c.args.reads.now.items (g.M.Maker.refusals c.args.maker.now) (g.M.Maker.refusals c.push_rule.new.maker)
    (g.M.Maker.last_refused c.args.maker.now) (g.M.Maker.last_refused c.push_rule.new.maker) c.push_rule.new.reads.items c.push_rule.result)
    (sym c.in-Some.ensures) c.push_rule.ensures

pub returns-in-None : goal.returns-in-None
returns-in-None g c =
    let refusals = g.M.Maker.refusals c.args.maker.now in
    let last = g.M.Maker.last_refused c.args.maker.now in
    let none = subst (λ (found : Option (Bor AutoRule)). MatchOption found (auto_in c.args.item.now ≡ []) (λ rule. auto_in c.args.item.now ≡ rule.now ∷ [])) c.in-None.is c.auto_in.ensures in
    more_none_in c.args.day.0 (auto_in c.args.item.now) c.args.reads.now.items refusals refusals last last none (record { count = refl; told = refl })
