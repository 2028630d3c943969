use Rattle.std.proofs.Common.{◌≡◌, ◌∙◌, ◌≤◌, List, ℕ, true, length, take, drop, vec_len, Option, Some, IfSome, refl, sym, ap, subst, arith}
use Rattle.std.proofs.lemmas.Result.{err_from_is_err_and}
use Rattle.std.specs.Int.{w64, to_le_bytes}
use Rattle.text_store.specs.Image.{number_8}
use Rattle.follower.specs.Heads.{is_kind, BeginsUpTo}
use Rattle.follower.proofs.Filled.{next_refused}
use Rattle.follower.proofs.Heading.{head_read, head_ends, cut_head, too_long, head_begins}
use Rattle.follower.proofs.heads.next_head.Goals as goal

pub returns-in_default-clause-found : goal.returns-in_default-clause-found
returns-in_default-clause-found g c =
    let source = g.J.Source in
    subst (λ (o : Option ℕ). IfSome (source.left c.args.source.now) (λ bytes. (rest : List ℕ) × (source.left c.next_kind.new.source ≡ Some rest)
    × BeginsUpTo bytes o c.next_kind.new.read.items rest)) c.in_default.is c.in_ok-kind.ensures.found

pub fill-requires : goal.fill-requires
fill-requires g c =
    let read = c.next_kind.new.read in
    let nine : (vec_len read ≡ 9) × (is_kind c.in-Some.kind ≡ true) = subst (λ (o : Option ℕ). IfSome o (λ kind. (vec_len read ≡ 9) × (is_kind kind ≡ true))) c.in-Some.is c.in_ok-kind.ensures.nine in
    omega (arith, nine.0)

pub returns-in_err-fill-clause-refused : goal.returns-in_err-fill-clause-refused
returns-in_err-fill-clause-refused g c =
    let source = g.J.Source in
    let p = err_from_is_err_and c.from_residual-in_err-fill.result c.from_residual-in_err-fill.ensures.1 in
    rw (p.1, p.2) (next_refused (source.left c.args.source.now) (source.faults c.args.source.now) (source.faults c.next_kind.new.source) (source.faults c.fill.new.source) c.in_err-fill.field-0.0
    (sym c.in_ok-kind.ensures.steady) c.in_err-fill.ensures.refused)

pub returns-then-had-lt17-clause-refused : goal.returns-then-had-lt17-clause-refused
returns-then-had-lt17-clause-refused g c =
    let source = g.J.Source in
    let a = source.left c.args.source.now in
    let m = source.left c.next_kind.new.source in
    let b = source.left c.fill.new.source in
    let read = c.next_kind.new.read in
    let more = c.fill.new.bytes in
    let kind = c.in-Some.kind in
    let nine : (vec_len read ≡ 9) × (is_kind kind ≡ true) = subst (λ (o : Option ℕ). IfSome o (λ kind. (vec_len read ≡ 9) × (is_kind kind ≡ true))) c.in-Some.is c.in_ok-kind.ensures.nine in
    let begins : IfSome a (λ bytes. (rest : List ℕ) × (m ≡ Some rest) × BeginsUpTo bytes (Some kind) read.items rest) =
    subst (λ (o : Option ℕ). IfSome a (λ bytes. (rest : List ℕ) × (m ≡ Some rest) × BeginsUpTo bytes o read.items rest)) c.in-Some.is c.in_ok-kind.ensures.found in
    let longer : length read.items ≤ length more.items = omega (arith, c.fill.ensures.longer, read.ok.0, more.ok.0) in
    let size : c.len-had.result ≡ length more.items = omega (arith, c.len-had.ensures, more.ok.0) in
    cut_head a b more.items kind c.len-had.result nine.1 (omega (arith, longer, nine.0, read.ok.0)) (omega (arith, size, c.if-had-lt17.true)) size
    (head_ends a m b read.items more.items kind begins c.in_ok-fill.ensures.read (c.in_ok-fill.ensures.end (omega (arith, c.if-had-lt17.true, c.len-had.ensures))))
    (head_read a m b read.items more.items kind begins c.in_ok-fill.ensures.read longer)

pub returns-then-said-gt-MOST-clause-refused : goal.returns-then-said-gt-MOST-clause-refused
returns-then-said-gt-MOST-clause-refused g c =
    let source = g.J.Source in
    let a = source.left c.args.source.now in
    let m = source.left c.next_kind.new.source in
    let b = source.left c.fill.new.source in
    let read = c.next_kind.new.read in
    let more = c.fill.new.bytes in
    let kind = c.in-Some.kind in
    let nine : (vec_len read ≡ 9) × (is_kind kind ≡ true) = subst (λ (o : Option ℕ). IfSome o (λ kind. (vec_len read ≡ 9) × (is_kind kind ≡ true))) c.in-Some.is c.in_ok-kind.ensures.nine in
    let begins : IfSome a (λ bytes. (rest : List ℕ) × (m ≡ Some rest) × BeginsUpTo bytes (Some kind) read.items rest) =
    subst (λ (o : Option ℕ). IfSome a (λ bytes. (rest : List ℕ) × (m ≡ Some rest) × BeginsUpTo bytes o read.items rest)) c.in-Some.is c.in_ok-kind.ensures.found in
    let longer : length read.items ≤ length more.items = omega (arith, c.fill.ensures.longer, read.ok.0, more.ok.0) in
    let size : length more.items ≡ 17 = omega (arith, c.len-had.ensures, c.if-had-lt17.false, c.fill.ensures.within, more.ok.0) in
    let said : c.spelled_at-said.result ≡ number_8 (drop 9 more.items) = c.spelled_at-said.ensures.0 ∙ ap (λ (l : List ℕ). number_8 (drop 9 l)) c.deref.ensures.value in
    too_long more.items size a b kind c.spelled_at-said.result 33554432 nine.1 said refl c.if-said-gt-MOST.true
    (head_read a m b read.items more.items kind begins c.in_ok-fill.ensures.read longer)

pub returns-clause-found : goal.returns-clause-found
returns-clause-found g c =
    let source = g.J.Source in
    let a = source.left c.args.source.now in
    let m = source.left c.next_kind.new.source in
    let b = source.left c.fill.new.source in
    let read = c.next_kind.new.read in
    let more = c.fill.new.bytes in
    let kind = c.in-Some.kind in
    let nine : (vec_len read ≡ 9) × (is_kind kind ≡ true) = subst (λ (o : Option ℕ). IfSome o (λ kind. (vec_len read ≡ 9) × (is_kind kind ≡ true))) c.in-Some.is c.in_ok-kind.ensures.nine in
    let begins : IfSome a (λ bytes. (rest : List ℕ) × (m ≡ Some rest) × BeginsUpTo bytes (Some kind) read.items rest) =
    subst (λ (o : Option ℕ). IfSome a (λ bytes. (rest : List ℕ) × (m ≡ Some rest) × BeginsUpTo bytes o read.items rest)) c.in-Some.is c.in_ok-kind.ensures.found in
    let longer : length read.items ≤ length more.items = omega (arith, c.fill.ensures.longer, read.ok.0, more.ok.0) in
    let size : length more.items ≡ 17 = omega (arith, c.len-had.ensures, c.if-had-lt17.false, c.fill.ensures.within, more.ok.0) in
    let front : to_le_bytes w64 c.spelled_at-revision.result ≡ take 8 (drop 0 more.items) = c.spelled_at-revision.ensures.1 ∙ ap (λ (l : List ℕ). take 8 (drop 0 l)) c.deref-2.ensures.value in
    let behind : to_le_bytes w64 c.spelled_at-said.result ≡ take 8 (drop 9 more.items) = c.spelled_at-said.ensures.1 ∙ ap (λ (l : List ℕ). take 8 (drop 9 l)) c.deref.ensures.value in
    head_begins more.items size c.spelled_at-revision.result kind c.spelled_at-said.result front behind a b nine.1 (omega (arith, c.if-said-gt-MOST.false))
    (head_read a m b read.items more.items kind begins c.in_ok-fill.ensures.read longer)
