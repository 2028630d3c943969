use Rattle.std.proofs.Common.{◌≡◌, ◌++◌, List, length, sym, ap, subst, ◌∙◌}
use Rattle.walked_edits.proofs.Loading.{solves_size}
use Rattle.loaded_texts.proofs.adding.kept_behind.Goals as goal

pub behind-requires-clause-kept : goal.behind-requires-clause-kept
behind-requires-clause-kept c = rw (c.as_slice.ensures, c.as_slice-2.ensures) c.requires.kept

pub behind-requires-clause-size : goal.behind-requires-clause-size
behind-requires-clause-size c = rw (c.as_slice.ensures, c.as_slice-2.ensures) (sym (solves_size _ _ c.requires.solves))

pub behind-requires-clause-solves : goal.behind-requires-clause-solves
behind-requires-clause-solves c = rw (c.as_slice.ensures, c.as_slice-2.ensures, c.as_slice-3.ensures) c.requires.whole

pub behind-requires-clause-fits : goal.behind-requires-clause-fits
behind-requires-clause-fits c = rw c.as_slice-2.ensures c.requires.fits

pub returns : goal.returns
returns c = rw (← c.as_slice.ensures, ← c.as_slice-2.ensures, ← c.as_slice-3.ensures) c.behind.ensures
