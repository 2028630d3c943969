use Rattle.std.proofs.Common.{refl}
use Rattle.matchit.proofs.OnLiterals.{matchit_on_literals}
use Rattle.web_messages.proofs.PathLemmas.{each_found}
use Rattle.web_messages.proofs.paths.Paths.new.Goals as goal

pub add-requires-clause-literal : goal.add-requires-clause-literal
unfolding matchit_on_literals
add-requires-clause-literal c = refl

pub add-requires-2-clause-literal : goal.add-requires-2-clause-literal
unfolding matchit_on_literals
add-requires-2-clause-literal c = refl

pub add-requires-3-clause-literal : goal.add-requires-3-clause-literal
unfolding matchit_on_literals
add-requires-3-clause-literal c = refl

pub add-requires-4-clause-literal : goal.add-requires-4-clause-literal
unfolding matchit_on_literals
add-requires-4-clause-literal c = refl

pub add-requires-5-clause-literal : goal.add-requires-5-clause-literal
unfolding matchit_on_literals
add-requires-5-clause-literal c = refl

pub add-requires-6-clause-literal : goal.add-requires-6-clause-literal
unfolding matchit_on_literals
add-requires-6-clause-literal c = refl

pub add-requires-7-clause-literal : goal.add-requires-7-clause-literal
unfolding matchit_on_literals
add-requires-7-clause-literal c = refl

pub add-requires-8-clause-literal : goal.add-requires-8-clause-literal
unfolding matchit_on_literals
add-requires-8-clause-literal c = refl

pub add-requires-9-clause-literal : goal.add-requires-9-clause-literal
unfolding matchit_on_literals
add-requires-9-clause-literal c = refl

pub add-requires-10-clause-literal : goal.add-requires-10-clause-literal
unfolding matchit_on_literals
add-requires-10-clause-literal c = refl

pub add-requires-11-clause-literal : goal.add-requires-11-clause-literal
unfolding matchit_on_literals
add-requires-11-clause-literal c = refl

pub add-requires-12-clause-literal : goal.add-requires-12-clause-literal
unfolding matchit_on_literals
add-requires-12-clause-literal c = refl

pub add-requires-13-clause-literal : goal.add-requires-13-clause-literal
unfolding matchit_on_literals
add-requires-13-clause-literal c = refl

pub add-requires-14-clause-literal : goal.add-requires-14-clause-literal
unfolding matchit_on_literals
add-requires-14-clause-literal c = refl

pub invariant_of-result : goal.invariant_of-result
invariant_of-result c =
    rw (
      c.in_ok-add-14.ensures,
      c.in_ok-add-13.ensures,
      c.in_ok-add-12.ensures,
      c.in_ok-add-11.ensures,
      c.in_ok-add-10.ensures,
      c.in_ok-add-9.ensures,
      c.in_ok-add-8.ensures,
      c.in_ok-add-7.ensures,
      c.in_ok-add-6.ensures,
      c.in_ok-add-5.ensures,
      c.in_ok-add-4.ensures,
      c.in_ok-add-3.ensures,
      c.in_ok-add-2.ensures,
      c.in_ok-add.ensures,
      c.new-router.ensures,
    ) each_found
