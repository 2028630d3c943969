use Rattle.std.proofs.Common.{◌≡◌, ◌+◌, ◌++◌, ◌≤◌, Bool, true, cond, is_ok, vec_capacity, vec_len, ap, ◌∙◌, arith}
use Rattle.loaded_texts.proofs.room.moved_behind.Goals as goal

pub returns-clause-items : goal.returns-clause-items
returns-clause-items g c =
    let front = c.args.front in
    let more = c.args.more in
    let room : vec_len front + vec_len more ≤ vec_capacity front = omega (arith, front.ok.0, more.ok.0, c.requires) in
    let done : is_ok c.append.result ≡ true = c.append.ensures.succeeds room in
    c.append.ensures.items ∙ ap (λ (b : Bool). cond b (front.items ++ more.items) front.items) done
