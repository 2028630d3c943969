use Rattle.std.proofs.Common.{◌≡◌, drop}
use Rattle.generated.specs.Alone.{ask_accounts}
use Rattle.generated.proofs.rules.ask_accounts.Given as goal

abbrev pub invariant-loop-word : goal.invariant-loop-word
invariant-loop-word l = ask_accounts l.day.0 l.words ≡ ask_accounts l.day.0 (drop l.word-index l.words)
