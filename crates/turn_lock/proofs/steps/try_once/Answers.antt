use Rattle.std.proofs.Common.{rules, ◌≡◌, ◌%◌, ◌+◌, ◌^◌, ◌<◌, ℕ, ap, arith, ◌∙◌}
use Rattle.turn_lock.proofs.Keeping.{looks, tries, out_is}
use Rattle.turn_lock.proofs.steps.try_once.Goals as goal

pub load-word-requires : goal.load-word-requires
load-word-requires g c = let idle = c.requires.idle in let seat = c.args.seat.now in let board = c.args.board.now in (
  search rules,
  search rules,
  looks g.T.Kept.state g.T.Kept.leads board.key board.table_id.slots seat.id seat.me idle.0 (ap (λ m. m.0) idle.1) idle.2,
)

pub compare_exchange-found-requires : goal.compare_exchange-found-requires
compare_exchange-found-requires g c = let idle = c.requires.idle in let seat = c.load-word.new.seat in let board = c.args.board.now in
    let word : ℕ = c.load-word.result in
    let same = c.load-word.ensures.2.1 c.if-word.false in
    let even : word % 2 ≡ 0 = omega arith in
    let room : word + 2 < 2 ^ 64 = omega arith in (
      search rules,
      search rules,
      tries g.T.Kept.state g.T.Kept.leads board.key board.table_id.slots seat.id seat.me idle.0 word (ap (λ m. m.0) (same ∙ idle.1)) idle.2 even room,
    )

pub exchange-place-requires : goal.exchange-place-requires
exchange-place-requires g c = let idle = c.requires.idle in
    let same = c.load-word.ensures.2.1 c.if-word.false in
    let took = c.compare_exchange-found.ensures.2.0 c.if-found-word.false idle.0 (ap (λ m. m.0) (same ∙ idle.1)) in
    (search rules, out_is _ _ _ (ap (λ m. m.1) took.3))
