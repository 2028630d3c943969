use Rattle.std.proofs.Common.{length, ap, ◌∙◌, arith}
use Rattle.store_commands.specs.Asking.{told_by}
use Rattle.talk_commands.specs.Links.{wire}
use Rattle.talk_commands.proofs.Connecting.{of_day}
use Rattle.talk_commands.proofs.Locking.{talked}
use Rattle.talk_commands.proofs.machine.talk_under.Goals as goal

pub serve_connection-end-requires : goal.serve_connection-end-requires
serve_connection-end-requires g c = (ap (λ p. p.lock) c.requires.first, ap (λ p. p.hold) c.requires.first)

pub close-desk-requires-clause-first : goal.close-desk-requires-clause-first
close-desk-requires-clause-first g c κs within =
    let grown = c.serve_connection-end.ensures.served.1 in
    let first = c.requires.first in
    (grown.lock ∙ ap (λ p. p.lock) first, grown.hold ∙ ap (λ p. p.hold) first, grown.number ∙ ap (λ p. p.number) first)

pub close-desk-requires-clause-all : goal.close-desk-requires-clause-all
close-desk-requires-clause-all g c κs within =
    let grown = c.serve_connection-end.ensures.served.1 in
    let first = c.requires.first in
    let made = grown.made ∙ ap (λ p. p.made) first in
    let joined = grown.joined ∙ ap (λ p. p.joined) first in
    omega (arith, made, ap length joined)

pub returns : goal.returns
returns g c =
    let s = c.serve_connection-end in
    let served = s.ensures.served in
    let lock = c.args.lock.0 in
    let closed = c.close-desk in
    let back = c.close-first in
    talked lock c.args.lock.1 s.new.pass closed.result.1 lock.opening.desk closed.result.0.desk served.0
    c.requires.first c.requires.done served.1 closed.ensures.pass closed.ensures.led closed.ensures.whole
    c.args.day.0 (told_by g.M.Maker c.args.maker.now s.new.maker) (wire g.K.Link c.args.link.now s.new.link) s.result (back.result.0, back.result.1)
    (of_day _ c.args.day.0 served.0 c.new-clock.ensures served.2.0) served.3 served.2.1 s.ensures.counted s.ensures.sound s.ensures.spent back.ensures served.4
