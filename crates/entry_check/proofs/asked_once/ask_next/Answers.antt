use Rattle.std.proofs.Common.{◌≡◌, ◌≤◌, ◌+◌, ℕ, List, ◌++◌, true, false, is_some, refl, sym, ap, ◌∙◌, subst, rules}
use Rattle.entry_check.specs.Asked.{Key, assigned_of, keys_of, wanted_of}
use Rattle.entry_check.specs.Asking.{making, own_nodes}
use Rattle.entry_check.proofs.Counting.{on_ok}
use Rattle.entry_check.proofs.Giving.{none-is}
use Rattle.entry_check.proofs.Once.{assigned_given, assigned_missing, making_missing}
use Rattle.entry_check.proofs.asked_once.ask_next.Goals as goal

pub returns-then-is_some-clause-keys : goal.returns-then-is_some-clause-keys
returns-then-is_some-clause-keys g c =
    let given : is_some c.args.posting.now.amount ≡ true = search rules in
    assigned_given c.args.posting.now given (keys_of c.args.answers.now.items)

pub returns-clause-keys : goal.returns-clause-keys
returns-clause-keys g c =
    let p = c.args.posting.now in
    let missing : is_some p.amount ≡ false = search rules in
    let old = keys_of c.args.answers.now.items in
    let new = keys_of c.ask_wanted.new.answers.items in
    on_ok (new ≡ old ++ wanted_of p.account p.wanted) (new ≡ old ++ assigned_of p) c.ask_wanted.result
    (λ is. is ∙ ap (λ (ks : List Key). old ++ ks) (sym (assigned_missing p p.wanted (none-is p.amount missing) refl))) c.ask_wanted.ensures.keys

pub returns-clause-few : goal.returns-clause-few
returns-clause-few g c =
    let p = c.args.posting.now in
    let sum = g.S.Sums.asks c.args.sums.now in
    let missing : is_some p.amount ≡ false = search rules in
    let old = c.args.steps.now.nodes in
    let new = c.ask_wanted.new.steps.nodes in
    on_ok (new ≤ old + own_nodes sum p.account p.wanted) (new ≤ old + making sum p) c.ask_wanted.result
    (λ h. subst (λ (n : ℕ). new ≤ old + n) (sym (making_missing sum p p.wanted (none-is p.amount missing) refl)) h) c.ask_wanted.ensures.few
