use Rattle.std.proofs.Common.{◌≡◌, ◌++◌, length}
use Rattle.std.specs.Str.{IsUtf8}
use Rattle.std.specs.String.{string_bytes}
use Rattle.rule_entries.specs.Accounts.{put_after}
use Rattle.rule_entries.proofs.accounts.account_for.Given as goal

abbrev pub invariant-loop-before : goal.invariant-loop-before
invariant-loop-before l = record {
  so_far : string_bytes l.account ++ put_after l.matched 0 l.rest ≡ put_after l.matched 0 l.fn.name;
  text : IsUtf8 l.rest;
}

abbrev pub decreases-loop-before : goal.decreases-loop-before
decreases-loop-before l = length l.rest
