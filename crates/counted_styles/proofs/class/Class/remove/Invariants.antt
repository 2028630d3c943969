use Rattle.std.proofs.Common.{◌≡◌, drop}
use Rattle.std.specs.List.{fold}
use Rattle.counted_styles.specs.Marks.{uncounted, unheaded}
use Rattle.counted_styles.proofs.class.Class.remove.Given as goal

-- what was said and what is left are all
abbrev pub invariant-loop-one : goal.invariant-loop-one
invariant-loop-one l = record {
  heads : fold (unheaded l.number) l.self.heads (drop l.one-index l.said) ≡ fold (unheaded l.number) l.initial.self.heads l.said;
  counts : fold uncounted l.self.counts (drop l.one-index l.said) ≡ fold uncounted l.initial.self.counts l.said;
}
