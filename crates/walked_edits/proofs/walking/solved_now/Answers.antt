use Rattle.std.proofs.Common.{◌≡◌, ◌+◌, ◌≤◌, ℕ, false, true, List, IfOk, OnOk, sym, subst}
use Rattle.book.specs.declared.transaction.Txn.{Txn}
use Rattle.walked_edits.specs.Causes.{Answers}
use Rattle.walked_edits.specs.Counting.{nodes_of}
use Rattle.walked_edits.specs.Keeping.{TellSums}
use Rattle.walked_edits.specs.Solving.{IsFormOf, is_fit, is_near}
use Rattle.walked_edits.specs.Walking.{IsFound}
use Rattle.walked_edits.proofs.walking.solved_now.Goals as goal

pub solved_at-requires : goal.solved_at-requires
solved_at-requires g c = subst (λ (symbols : List (List ℕ)). TellSums symbols c.args.book.now.items c.args.kept.now c.args.spot) (sym c.symbols.ensures) c.requires

pub returns-clause-found : goal.returns-clause-found
returns-clause-found g c =
    subst (λ (symbols : List (List ℕ)). IfOk c.solved_at.result (IsFound symbols c.args.book.now.items c.args.spot c.args.written)) c.symbols.ensures c.solved_at.ensures.found

pub returns-clause-answers : goal.returns-clause-answers
returns-clause-answers g c =
    subst (λ (symbols : List (List ℕ)). (after : List Txn) (solved : Txn) → is_near c.args.spot c.args.written ≡ true → IsFormOf c.args.book.now.items after c.args.spot c.args.written solved → Answers solved (is_fit symbols c.args.spot solved ≡ false) c.solved_at.result)
    c.symbols.ensures c.solved_at.ensures.answers

pub returns-clause-few : goal.returns-clause-few
returns-clause-few g c =
    subst (λ (symbols : List (List ℕ)). OnOk c.solved_at.result (c.solved_at.new.steps.nodes ≤ c.args.steps.now.nodes + nodes_of symbols c.args.written)) c.symbols.ensures c.solved_at.ensures.few

pub returns-clause-most : goal.returns-clause-most
returns-clause-most g c = c.solved_at.ensures.most
