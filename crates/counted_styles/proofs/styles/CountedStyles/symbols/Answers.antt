use Rattle.counted_styles.proofs.Naming.{named-among}
use Rattle.counted_styles.proofs.styles.CountedStyles.symbols.Goals as goal

pub returns-clause-commodities : goal.returns-clause-commodities
returns-clause-commodities c =
    named-among c.put_symbols.new.names.items c.put_symbols-4.new.names.items c.args.self.now.commodities.heads
    (λ q h. c.in_ok-put_symbols-4.ensures.others q (c.in_ok-put_symbols-3.ensures.others q (c.in_ok-put_symbols-2.ensures.others q h)))
    c.in_ok-put_symbols.ensures.named

pub returns-clause-defaults : goal.returns-clause-defaults
returns-clause-defaults c =
    named-among c.put_symbols-2.new.names.items c.put_symbols-4.new.names.items c.args.self.now.defaults.heads
    (λ q h. c.in_ok-put_symbols-4.ensures.others q (c.in_ok-put_symbols-3.ensures.others q h))
    c.in_ok-put_symbols-2.ensures.named

pub returns-clause-first : goal.returns-clause-first
returns-clause-first c =
    named-among c.put_symbols-3.new.names.items c.put_symbols-4.new.names.items c.args.self.now.first.heads
    (λ q h. c.in_ok-put_symbols-4.ensures.others q h)
    c.in_ok-put_symbols-3.ensures.named

pub returns-clause-second : goal.returns-clause-second
returns-clause-second c = c.in_ok-put_symbols-4.ensures.named
