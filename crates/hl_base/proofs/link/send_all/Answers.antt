use Rattle.std.proofs.Common.{◌≡◌, ℕ, ◌+◌, ◌-◌, length, subst, sym, ◌∙◌, arith, length-drop}
use Rattle.hl_base.proofs.Transfers.{written_more}
use Rattle.hl_base.proofs.link.send_all.Goals as goal

pub loop-at-preserved : goal.loop-at-preserved
loop-at-preserved g c =
    let link = g.K.Link in
    let at = c.loop-at.at in
    let count = c.in_ok-at.field-0 in
    let text = c.args.text.now in
    let rest = c.split_at.result.1.now in
    record {
      within = omega (arith, c.in_ok-at.ensures.within, length-drop at text);
      told = written_more _ _ _ text rest at count c.split_at.ensures.back c.loop-at.invariant.told c.in_ok-at.ensures.told;
      coming = c.write.ensures.coming ∙ c.loop-at.invariant.coming;
      counted = c.in_ok-at.ensures.cause.same ∙ c.loop-at.invariant.counted;
      read_faults = c.write.ensures.read_faults ∙ c.loop-at.invariant.read_faults;
      sound = λ more h.
          let length_rest : length rest + more ≡ (length text - at) + more = omega (arith, c.split_at.ensures.back_len) in
          let room : link.HasRoom c.loop-at.link (length rest + more) =
          (let F : ℕ → Type 0 = λ n. link.HasRoom c.loop-at.link n in subst F (sym length_rest) (c.loop-at.invariant.sound more h)) in
          let after : (length rest - count) + more ≡ (length text - (at + count)) + more = omega (arith, c.split_at.ensures.back_len, c.in_ok-at.ensures.within) in
          let G : ℕ → Type 0 = λ n. link.HasRoom c.write.new.self n in
          subst G after (c.in_ok-at.ensures.sound more room);
    }
