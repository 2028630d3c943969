use Rattle.live_journal.proofs.live.Live.keep_sums.Goals as goal

pub keep_sums-requires : goal.keep_sums-requires
keep_sums-requires c = c.self.invariant.fits

pub invariant_of-self : goal.invariant_of-self
invariant_of-self c = c.keep_sums.ensures c.self.inside.year c.self.inside.text c.self.invariant

pub returns : goal.returns
returns c = c.self.view_is
