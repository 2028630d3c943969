use Rattle.std.proofs.Common.{rules, subst, List, ℕ}
use Rattle.std.specs.Str.{IsUtf8}
use Rattle.std.proofs.lemmas.Str.{is_utf8-from_IsUtf8}
use Rattle.text_store.proofs.change.mark_bytes.Goals as goal

pub returns-clause-is_state : goal.returns-clause-is_state
returns-clause-is_state c =
    let name : IsUtf8 c.args.latest.now.name = subst (λ (l : List ℕ). IsUtf8 l) c.as_str.ensures c.as_str.utf8 in
    (is_utf8-from_IsUtf8 c.args.latest.now.name name, search rules, search rules)
