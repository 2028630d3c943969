use Rattle.std.proofs.Common.{◌≡◌, ◌+◌, drop}
use Rattle.entry_reader.specs.Accounts.{account_len}
use Rattle.entry_reader.proofs.account.account_length.Given as goal

abbrev pub invariant-loop-i : goal.invariant-loop-i
invariant-loop-i l = l.i + account_len (drop l.i l.text) ≡ account_len l.text
