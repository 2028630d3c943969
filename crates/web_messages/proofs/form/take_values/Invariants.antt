use Rattle.std.proofs.Common.{◌≡◌, ◌∷◌, map}
use Rattle.web_messages.proofs.form.take_values.Given as goal

abbrev pub invariant-loop-parameter : goal.invariant-loop-parameter
invariant-loop-parameter l = l.words.items ≡ l.fn.first ∷ map (λ p. p.value) l.yielded
