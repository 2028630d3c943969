use Rattle.std.proofs.Common.{◌≡◌, ◌∙◌, ◌+◌, ◌-◌, ◌≤◌, ◌++◌, Bool, true, cond, is_ok, List, ℕ, length, vec_len, vec_capacity, ap, arith}
use Rattle.follower.proofs.Turning.{part_put}
use Rattle.follower.proofs.splicing.put_part.Goals as goal

pub returns : goal.returns
returns c =
    let old = c.args.text.now in
    let part = c.args.part.now in
    let inserted = c.as_slice.result.now in
    let asked : vec_len old + length inserted ≤ vec_capacity old = omega (arith, c.requires.room, ap (λ (l : List ℕ). length l) c.as_slice.ensures) in
    let put : is_ok c.extend_from_slice.result ≡ true = c.extend_from_slice.ensures.succeeds asked in
    let longer : c.extend_from_slice.new.self.items ≡ old.items ++ part.inserted =
    c.extend_from_slice.ensures.items ∙ ap (λ (b : Bool). cond b (old.items ++ inserted) old.items) put ∙ ap (λ (l : List ℕ). old.items ++ l) c.as_slice.ensures in
    let grown : vec_len c.extend_from_slice.new.self ≡ vec_len old + length inserted =
    c.extend_from_slice.ensures.len ∙ ap (λ (b : Bool). cond b (vec_len old + length inserted) (vec_len old)) put in
    let long = old.ok.0 in
    part_put old.items part (c.len.result - part.removed - part.at) (c.len-2.result - part.removed) c.extend_from_slice.new.self.items c.turn_behind.new.text.items
    c.truncate.new.self.items c.turn_behind-2.new.text.items (omega (arith, long, c.requires.inside, c.len.ensures))
    (omega (arith, long, grown, c.requires.inside, c.len.ensures, c.len-2.ensures, c.turn_behind.ensures.len, ap (λ (l : List ℕ). length l) c.as_slice.ensures)) longer
    c.turn_behind.ensures.items c.truncate.ensures.items c.turn_behind-2.ensures.items
