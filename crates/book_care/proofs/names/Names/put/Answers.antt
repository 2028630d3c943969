use Rattle.std.proofs.Common.{◌≡◌, string_bytes, true, ◌∙◌}
use Rattle.std.specs.HashSet.{contains_text}
use Rattle.std.proofs.lemmas.Map.Text.{hash_set_updates_text}
use Rattle.std.proofs.lemmas.Result.{IfOk-at_ok}
use Rattle.book_care.specs.Names.{has}
use Rattle.book_care.proofs.Naming.{put_is}
use Rattle.book_care.proofs.names.Names.put.Goals as goal

pub returns : goal.returns
returns c =
    let key_is_name = IfOk-at_ok (λ s. string_bytes s ≡ c.as_str.result.now) c.in_ok-key.was c.from_str.ensures.ok in
    λ q. put_is (string_bytes c.in_ok-key.key) c.args.name.now q (has c.args.self.now q) (contains_text c.insert.new.self q) (key_is_name ∙ c.as_str.ensures)
    (hash_set_updates_text (string_bytes c.in_ok-key.key) c.args.self.now.texts c.insert.new.self true c.in_ok-insert.ensures.updates q)
