use Rattle.std.proofs.Common.{◌≡◌, ℕ, ◌+◌, ◌-◌, length, subst, sym, ◌∙◌, arith, length-drop}
use Rattle.hl_base.proofs.Transfers.{written_more}
use Rattle.hl_base.proofs.transfer.write_all.Goals as goal

pub loop-at-preserved : goal.loop-at-preserved
loop-at-preserved g c =
    let sink = g.O.Sink in
    let at = c.loop-at.at in
    let count = c.in_ok-at.field-0 in
    let text = c.args.text.now in
    let rest = c.split_at.result.1.now in
    record {
      within = omega (arith, c.in_ok-at.ensures.within, length-drop at text);
      told = written_more _ _ _ text rest at count c.split_at.ensures.back c.loop-at.invariant.told c.in_ok-at.ensures.told;
      counted = c.in_ok-at.ensures.steady ∙ c.loop-at.invariant.counted;
      sound = λ more h.
          let length_rest : length rest + more ≡ (length text - at) + more = omega (arith, c.split_at.ensures.back_len) in
          let room : sink.HasRoom c.loop-at.out (length rest + more) =
          (let F : ℕ → Type 0 = λ n. sink.HasRoom c.loop-at.out n in subst F (sym length_rest) (c.loop-at.invariant.sound more h)) in
          let after : (length rest - count) + more ≡ (length text - (at + count)) + more = omega (arith, c.split_at.ensures.back_len, c.in_ok-at.ensures.within) in
          let G : ℕ → Type 0 = λ n. sink.HasRoom c.write.new.self n in
          subst G after (c.in_ok-at.ensures.sound more room);
    }
