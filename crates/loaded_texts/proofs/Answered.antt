-- What comes of a walk, of what it made in turn.
use Rattle.std.proofs.Common.{◌≡◌, Result, Ok, Err}
use Rattle.hl_base.specs.Counts.{Counts}
use Rattle.reached_walk.specs.Closed.{Edit}
use Rattle.walked_edits.specs.declared.fault.WalkFault.{WalkFault}
use Rattle.walked_edits.specs.declared.fault.WalkFault.TheVariants.{Memory}
use Rattle.walked_texts.specs.Making.{Answers}

module _ {A B : Type 0} {P : A → Type 0} {Q : B → Type 0} {before after : Counts} (edit : Edit) where
  -- the same refusal
  pub answered_as : (fault : WalkFault) → Answers edit P (Err fault) before after → Answers edit Q (Err fault) before after
  answered_as fault h = record { made = tt; few = h.few; read = h.read; nodes = tt; load = h.load }

  -- memory was wanting afterwards
  pub wants_memory : (a : A) → Answers edit P (Ok a) before after → Answers edit Q (Err Memory) before after
  wants_memory a h = record { made = tt; few = h.few; read = h.read; nodes = tt; load = tt }

  -- and something was made of it
  pub answered_so : (a : A) (b : B) → Answers edit P (Ok a) before after → Q b → Answers edit Q (Ok b) before after
  answered_so a b h q = record { made = q; few = h.few; read = h.read; nodes = h.nodes; load = tt }
