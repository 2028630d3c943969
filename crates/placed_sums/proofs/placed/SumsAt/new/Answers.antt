use Rattle.placed_sums.proofs.placed.SumsAt.new.Goals as goal

pub invariant_of-result : goal.invariant_of-result
invariant_of-result g c = record { told = c.requires.told; fits = c.requires.fits; earlier = c.requires.earlier; symbols = c.requires.symbols; near = c.requires.near }
