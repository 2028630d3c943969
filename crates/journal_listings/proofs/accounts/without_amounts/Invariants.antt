use Rattle.std.proofs.Common.{◌≡◌, map, take}
use Rattle.journal_listings.specs.Listed.{without_amount}
use Rattle.journal_listings.proofs.accounts.without_amounts.Given as goal

abbrev pub invariant-loop-taking : goal.invariant-loop-taking
invariant-loop-taking l = l.bare.items ≡ map without_amount (take l.taking-index l.takings)
