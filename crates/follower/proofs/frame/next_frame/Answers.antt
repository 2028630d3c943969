use Rattle.std.proofs.Common.{◌≡◌, ◌+◌, ◌<◌, ◌≤◌, List, [], ◌++◌, ℕ, true, length, Option, Some, IfSome, sym, ap, subst, arith}
use Rattle.std.proofs.lemmas.Result.{err_from_is_err_and}
use Rattle.follower.specs.declared.heads.Head.{Head}
use Rattle.follower.specs.Fills.{FillsOn}
use Rattle.follower.specs.Heads.{is_kind, most, BeginsAt, BeginsWith, head_bytes}
use Rattle.follower.proofs.Filled.{next_refused}
use Rattle.follower.proofs.Heading.{cut_after, frame_begins, frame_ends, ends_in_payload, cut_size}
use Rattle.follower.proofs.frame.next_frame.Goals as goal

pub returns-in_default-clause-found : goal.returns-in_default-clause-found
returns-in_default-clause-found g c =
    let source = g.J.Source in
    subst (λ (o : Option Head). IfSome (source.left c.args.source.now) (λ bytes. (rest : List ℕ) × (source.left c.next_head.new.source ≡ Some rest) × BeginsAt bytes o rest))
    c.in_default.is c.in_ok-head.ensures.found

pub returns-in_err-fill-clause-refused : goal.returns-in_err-fill-clause-refused
returns-in_err-fill-clause-refused g c =
    let source = g.J.Source in
    let p = err_from_is_err_and c.from_residual-in_err-fill.result c.from_residual-in_err-fill.ensures.1 in
    rw (p.1, p.2) (next_refused (source.left c.args.source.now) (source.faults c.args.source.now) (source.faults c.next_head.new.source) (source.faults c.fill.new.source) c.in_err-fill.field-0.0
    (sym c.in_ok-head.ensures.steady) c.in_err-fill.ensures.refused)

pub returns-then-had-len-clause-refused : goal.returns-then-had-len-clause-refused
returns-then-had-len-clause-refused g c =
    let source = g.J.Source in
    let a = source.left c.args.source.now in
    let m = source.left c.next_head.new.source in
    let b = source.left c.fill.new.source in
    let head = c.in-Some.head in
    let payload = c.fill.new.bytes in
    let begins : IfSome a (λ bytes. (rest : List ℕ) × (m ≡ Some rest) × BeginsAt bytes (Some head) rest) =
    subst (λ (o : Option Head). IfSome a (λ bytes. (rest : List ℕ) × (m ≡ Some rest) × BeginsAt bytes o rest)) c.in-Some.is c.in_ok-head.ensures.found in
    let small : (head.len ≤ most) × (is_kind head.kind ≡ true) = subst (λ (o : Option Head). IfSome o (λ head. (head.len ≤ most) × (is_kind head.kind ≡ true))) c.in-Some.is c.in_ok-head.ensures.small in
    let fills : FillsOn m b [] payload.items = subst (λ (l : List ℕ). FillsOn m b l payload.items) c.new-payload.ensures.items c.in_ok-fill.ensures.read in
    let size : c.len-had.result ≡ length payload.items = omega (arith, c.len-had.ensures, payload.ok.0) in
    let short : c.len-had.result < head.len = omega (arith, c.if-had-len.true) in
    cut_after a (head_bytes head ++ payload.items) (17 + c.len-had.result)
    (frame_ends head payload.items a m b begins fills (c.in_ok-fill.ensures.end (omega (arith, short, c.len-had.ensures))))
    (ends_in_payload head payload.items small.1 small.0 (omega (arith, short, size))) (cut_size head payload.items (17 + c.len-had.result) (ap (λ (n : ℕ). 17 + n) size))

pub returns-clause-found : goal.returns-clause-found
returns-clause-found g c =
    let source = g.J.Source in
    let a = source.left c.args.source.now in
    let m = source.left c.next_head.new.source in
    let b = source.left c.fill.new.source in
    let head = c.in-Some.head in
    let payload = c.fill.new.bytes in
    let begins : IfSome a (λ bytes. (rest : List ℕ) × (m ≡ Some rest) × BeginsAt bytes (Some head) rest) =
    subst (λ (o : Option Head). IfSome a (λ bytes. (rest : List ℕ) × (m ≡ Some rest) × BeginsAt bytes o rest)) c.in-Some.is c.in_ok-head.ensures.found in
    let fills : FillsOn m b [] payload.items = subst (λ (l : List ℕ). FillsOn m b l payload.items) c.new-payload.ensures.items c.in_ok-fill.ensures.read in
    let size : length payload.items ≡ head.len = omega (arith, c.len-had.ensures, c.if-had-len.false, c.fill.ensures.within, payload.ok.0) in
    subst (λ (l : List ℕ). IfSome a (λ bytes. (rest : List ℕ) × (b ≡ Some rest) × BeginsWith bytes (Some (record { revision = head.revision; kind = head.kind; payload = l })) rest))
    (sym c.from_vec.ensures) (frame_begins head payload.items a m b begins fills size)
