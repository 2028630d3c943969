use Rattle.std.proofs.Common.{◌≡◌, ◌∙◌, ◌-◌, ℕ, min, length, vec_len, refl, subst, arith, rules}
use Rattle.std.proofs.lemmas.Result.{err_from_is_err_and}
use Rattle.follower.specs.Fills.{ReadRefused}
use Rattle.follower.proofs.Filled.{fills_none, fills_then, fills_more, ends_then, ends_here}
use Rattle.follower.proofs.filling.fill.Goals as goal

pub loop-bytes-init : goal.loop-bytes-init
loop-bytes-init g c =
    let source = g.J.Source in
    let sized : vec_len c.in_ok-room.room ≡ min 65536 (c.args.count - vec_len c.args.bytes.now) = search rules in
    record {
      room = λ less. omega (arith, sized, less);
      longer = omega arith;
      within = c.requires;
      fills = fills_none (source.left c.args.source.now) c.args.bytes.now.items;
      counted = refl;
      sound = λ sound. sound;
    }

pub returns-in_err-read_some-clause-refused : goal.returns-in_err-read_some-clause-refused
returns-in_err-read_some-clause-refused g c =
    let p = err_from_is_err_and c.from_residual-in_err-read_some.result c.from_residual-in_err-read_some.ensures.1 in
    rw (p.1, p.2) (subst (λ (n : ℕ). ReadRefused n (g.J.Source.faults c.read_some.new.source) c.in_err-read_some.field-0.0) c.loop-bytes.invariant.counted c.in_err-read_some.ensures.refused)

pub returns-then-len-before-clause-read : goal.returns-then-len-before-clause-read
returns-then-len-before-clause-read g c =
    let source = g.J.Source in
    let old = c.loop-bytes.bytes.items in
    let new = c.read_some.new.bytes.items in
    fills_then (source.left c.args.source.now) (source.left c.loop-bytes.source) (source.left c.read_some.new.source) c.args.bytes.now.items old new c.loop-bytes.invariant.fills
    (fills_more (source.left c.loop-bytes.source) (source.left c.read_some.new.source) old new c.in_ok-read_some.ensures.read)

pub returns-then-len-before-clause-end : goal.returns-then-len-before-clause-end
returns-then-len-before-clause-end g c = λ less.
    let source = g.J.Source in
    let old = c.loop-bytes.bytes.items in
    let new = c.read_some.new.bytes.items in
    let same : length new ≡ length old = omega (arith, c.if-len-before.true, c.read_some.new.bytes.ok.0, c.loop-bytes.bytes.ok.0) in
    ends_then (source.left c.args.source.now) (source.left c.loop-bytes.source) (source.left c.read_some.new.source) c.args.bytes.now.items old c.loop-bytes.invariant.fills
    (ends_here (source.left c.loop-bytes.source) (source.left c.read_some.new.source) old new c.in_ok-read_some.ensures.read same)

pub loop-bytes-preserved : goal.loop-bytes-preserved
loop-bytes-preserved g c =
    let source = g.J.Source in
    let old = c.loop-bytes.bytes.items in
    let new = c.read_some.new.bytes.items in
    record {
      room = search rules;
      longer = omega (arith, c.loop-bytes.invariant.longer, c.read_some.ensures.longer);
      within = c.read_some.ensures.within;
      fills = fills_then (source.left c.args.source.now) (source.left c.loop-bytes.source) (source.left c.read_some.new.source) c.args.bytes.now.items old new c.loop-bytes.invariant.fills
          (fills_more (source.left c.loop-bytes.source) (source.left c.read_some.new.source) old new c.in_ok-read_some.ensures.read);
      counted = c.in_ok-read_some.ensures.steady ∙ c.loop-bytes.invariant.counted;
      sound = λ sound. (c.read_some.ensures.sound (c.loop-bytes.invariant.sound sound)).1;
    }
