use Rattle.std.proofs.Common.{◌+◌, ◌-◌, ◌≡◌, length, drop, ap, ◌∙◌, arith}
use Rattle.hl_base.specs.declared.items.Kind.TheVariants.{Gap}
use Rattle.hl_base.specs.declared.items.Piece.{Piece}
use Rattle.parallel_reading.specs.Runs.{has_head}
use Rattle.parallel_reading.proofs.Runs.{head_before, no_pieces}
use Rattle.parallel_reading.proofs.head.heads_end.Goals as goal

pub loop-behind-init : goal.loop-behind-init
loop-behind-init c = no_pieces c.args.text.now c.args.pieces.now

pub loop-behind-preserved : goal.loop-behind-preserved
loop-behind-preserved c =
    let n = length c.args.pieces.now in
    let behind = c.loop-behind.behind in
    let piece : Piece = record { at = 0; len = 0; line = 0; kind = Gap } in
    let lt = c.loop-behind-test.true in
    ap (λ k. has_head c.args.text.now (drop k c.args.pieces.now)) (let same : n - (behind + 1) ≡ n - behind - 1 = omega arith in same)
    ∙ head_before c.args.text.now c.args.pieces.now (n - behind - 1) (n - behind) piece c.is_head_at.result (omega (arith, lt)) (omega (arith, lt)) (c.is_head_at.ensures piece) c.if-is_head_at.false c.loop-behind.invariant

pub returns : goal.returns
returns c =
    let none : 0 ≡ length c.args.pieces.now - c.loop-behind.behind = omega (arith, c.loop-behind-test.false) in
    record { bound = omega arith; behind = ap (λ k. has_head c.args.text.now (drop k c.args.pieces.now)) none ∙ c.loop-behind.invariant }
