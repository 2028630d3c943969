use Rattle.std.proofs.Common.{◌≡◌, ℕ, List, true, cond, Option, Some, sym, ap, subst, ◌∙◌}
use Rattle.std.specs.Prelude.{is_some}
use Rattle.std.specs.BTreeMap.{get_by_text}
use Rattle.std.specs.Str.{bytes_eq}
use Rattle.std.specs.String.{string_bytes}
use Rattle.std.proofs.lemmas.Map.Text.{btree_map_updates_text}
use Rattle.prices.specs.Answers.{Answer, answer_by}
use Rattle.prices.proofs.Told.{told_again, told_more}
use Rattle.prices.proofs.table.tell.Goals as goal

pub returns-then-contains_key : goal.returns-then-contains_key
returns-then-contains_key c = λ symbols told.
    let get : List ℕ → Option Answer = get_by_text c.args.answers.now in
    let known : is_some (get c.args.symbol.now) ≡ true = subst (λ (s : List ℕ). is_some (get s) ≡ true) c.as_str.ensures (sym c.contains_key.ensures ∙ c.if-contains_key.true) in
    told_again get symbols (answer_by c.args.by_declared.now.entries c.args.by_either.now.entries) told c.args.symbol.now known

pub returns : goal.returns
returns c = λ symbols told.
    let get : List ℕ → Option Answer = get_by_text c.args.answers.now in
    let symbol : string_bytes c.in_ok-from_str.field-0 ≡ c.args.symbol.now = c.in_ok-from_str.ensures.ok ∙ c.as_str-2.ensures in
    told_more get symbols (answer_by c.args.by_declared.now.entries c.args.by_either.now.entries) told c.args.symbol.now (get_by_text c.insert.new.self)
    (λ s. btree_map_updates_text _ c.args.answers.now c.insert.new.self _ c.in_ok-insert.ensures.updates s
    ∙ ap (λ (b : List ℕ). cond (bytes_eq b s) (Some c.answer_of-answer.result) (get s)) symbol
    ∙ ap (λ (a : Answer). cond (bytes_eq c.args.symbol.now s) (Some a) (get s)) c.answer_of-answer.ensures)
