use Rattle.std.proofs.Common.{◌≡◌, ◌∙◌, ◌≤◌, ◌++◌, List, ℕ, length, take, drop, ap, rules}
use Rattle.text_store.specs.Joined.{joined}
use Rattle.text_store.proofs.Places.{joined-append, replaced}
use Rattle.text_store.proofs.pieces.replace_in.Goals as goal

pub returns : goal.returns
returns c =
    let old = joined c.args.parts.now.items in
    let front = joined c.split.new.parts.items in
    let behind = joined c.in-Some.behind.items in
    let rest = joined c.in-Some-2.rest.items in
    let first : (c.args.at ≤ length old) × (front ≡ take c.args.at old) × (behind ≡ drop c.args.at old) = search rules in
    let second : (c.args.removed ≤ length behind) × (joined c.split-2.new.parts.items ≡ take c.args.removed behind) × (rest ≡ drop c.args.removed behind) = search rules in
    let appended : c.append.new.self.items ≡ c.add.new.parts.items ++ c.in-Some-2.rest.items = c.in_ok-append.ensures.items in
    replaced old behind rest front (joined c.append.new.self.items) c.args.inserted.now c.args.at c.args.removed first.0 first.1 first.2 second.0 second.2
    (ap joined appended ∙ joined-append c.add.new.parts.items c.in-Some-2.rest.items ∙ ap (λ (l : List ℕ). l ++ rest) c.in_ok-add.ensures)
