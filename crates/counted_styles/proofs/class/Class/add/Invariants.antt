use Rattle.std.proofs.Common.{◌≡◌, drop}
use Rattle.std.specs.List.{fold}
use Rattle.counted_styles.specs.Marks.{counted, headed}
use Rattle.counted_styles.proofs.class.Class.add.Given as goal

-- what was said and what is left are all
abbrev pub invariant-loop-one : goal.invariant-loop-one
invariant-loop-one l = record {
  heads : fold (headed l.number) l.self.heads (drop l.one-index l.said) ≡ fold (headed l.number) l.initial.self.heads l.said;
  counts : fold counted l.self.counts (drop l.one-index l.said) ≡ fold counted l.initial.self.counts l.said;
}
